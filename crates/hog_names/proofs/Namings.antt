-- Each program has a naming: by words that are longer than its free words.
use Rattle.std.proofs.Common.{◌≡◌, ℕ, zero, suc, ◌+◌, ◌<◌, List, [], ◌∷◌, length, true, false, refl, sym, ap, ◌∙◌, inl, inr, arith}
use Rattle.std.specs.Prelude.{bytes_eq, ◌||◌}
use Rattle.hog_tree.specs.Plain.{Word}
use Rattle.hog_captures.specs.Frees.{is_among, stms_frees}
use Rattle.hog_bridge.proofs.Words.{Tells, word_tells}
use Rattle.hog_names.specs.Laws.{NamingsExist}

abbrev blanks : ℕ → Word
blanks zero = []
blanks (suc n) = 0 ∷ blanks n

blanks_length : (n : ℕ) → length (blanks n) ≡ n
blanks_length zero = refl
blanks_length (suc n) = ap suc (blanks_length n)

-- how long words are together
abbrev together : List Word → ℕ
together [] = 0
together (w ∷ ws) = length w + together ws

longer_apart : (v : Word) (ws : List Word) → together ws < length v → is_among v ws ≡ false
longer_apart v [] lt = refl
longer_apart v (w ∷ ws) lt = by (word_tells w v) (longer_apart v ws (omega (arith, lt)))
  where
    by : Tells w v → is_among v ws ≡ false → (bytes_eq w v || is_among v ws) ≡ false
    by (inl t) ih = let same = ap length t.1 in absurd (omega (arith, same, lt))
    by (inr t) ih = rw t.0 ih

pub namings_exist : NamingsExist
namings_exist program =
    let t = together (stms_frees true program) in (
      λ n. blanks (suc t + n),
      record {
        apart = λ i j e. let same = sym (blanks_length (suc t + i)) ∙ ap length e ∙ blanks_length (suc t + j) in omega (arith, same);
        free = λ n. let long = blanks_length (suc t + n) in longer_apart (blanks (suc t + n)) (stms_frees true program) (omega (arith, long));
      },
    )
