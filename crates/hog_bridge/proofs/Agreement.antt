-- What a frame knows and what is in sight: the same of the words that a part of a program mentions.
use Rattle.std.proofs.Common.{◌≡◌, ℕ, zero, suc, List, [], ◌∷◌, ◌++◌, Option, Some, None, Bool, true, false, refl, sym, ap, ◌∙◌, ◌⊎◌, inl, inr, ⊎_elim}
use Rattle.hog_tree.specs.Plain.{Word}
use Rattle.hog_captures.specs.Frees.{is_among, without, without_all, without_name}
use Rattle.hog_captures.specs.Frames.{Frame, find_up, is_found, knows, captured_of, with_local, with_name, with_hidden, with_params, inner_frame}
use Rattle.hog_bridge.proofs.Words.{Tells, word_tells, In, in_left, in_right, in_without, with_word, onto, in_found, found_in, captured_known, known_captured}

-- of these words the frame knows those that are in sight
pub record Agrees (ws : List Word) (fr : Frame) (V : List Word) : Type 0 where
  pub same : (w : Word) → In w ws → knows fr w ≡ is_among w V

pub agrees_left : {fr : Frame} {V : List Word} (xs ys : List Word) → Agrees (xs ++ ys) fr V → Agrees xs fr V
agrees_left xs ys a = record { same = λ w h. a.same w (in_left w xs ys h) }

pub agrees_right : {fr : Frame} {V : List Word} (xs ys : List Word) → Agrees (xs ++ ys) fr V → Agrees ys fr V
agrees_right xs ys a = record { same = λ w h. a.same w (in_right w xs ys h) }

-- past the declaration of x
pub agrees_local : {fr : Frame} {V : List Word} (x : Word) (ws : List Word) → Agrees (without x ws) fr V → Agrees ws (with_local (Some x) fr) (x ∷ V)
agrees_local {fr} {V} x ws a = record { same = λ w h. by w (word_tells x w) (in_without x w ws h) }
  where
    by : (w : Word) → Tells x w → (x ≡ w) ⊎ In w (without x ws) → knows (with_local (Some x) fr) w ≡ is_among w (x ∷ V)
    by w (inl t) h = rw t.0 refl
    by w (inr t) (inl e) = absurd (t.1 e)
    by w (inr t) (inr h) = rw t.0 (a.same w h)

pub agrees_name : {fr : Frame} {V : List Word} (n : Option Word) (ws : List Word) → Agrees (without_name n ws) fr V → Agrees ws (with_name n fr) (with_word n V)
agrees_name None ws a = a
agrees_name (Some x) ws a = agrees_local x ws a

pub agrees_hidden : {ws V : List Word} (n : ℕ) {fr : Frame} → Agrees ws fr V → Agrees ws (with_hidden n fr) V
agrees_hidden zero a = a
agrees_hidden (suc n) a = let b = agrees_hidden n a in record { same = b.same }

-- parameters
pub agrees_params : (ps ws : List Word) (locals : List (Option Word)) (ups V : List Word) → Agrees (without_all ps ws) (record { locals = locals; ups = ups }) V → Agrees ws (record { locals = with_params ps locals; ups = ups }) (onto ps V)
agrees_params [] ws locals ups V a = a
agrees_params (p ∷ ps) ws locals ups V a = agrees_params ps ws (Some p ∷ locals) ups (p ∷ V) (agrees_local p (without_all ps ws) a)

-- what a function captures, it knows
agrees_captured : {fr : Frame} {V : List Word} (ws : List Word) → Agrees ws fr V → Agrees ws (record { locals = []; ups = captured_of fr ws }) V
agrees_captured {fr} {V} ws a = record { same = λ w h. by w h (knows fr w) refl (find_up (captured_of fr ws) w) refl ∙ a.same w h }
  where
    by : (w : Word) → In w ws → (b : Bool) → knows fr w ≡ b → (u : Option ℕ) → find_up (captured_of fr ws) w ≡ u → is_found None (find_up (captured_of fr ws) w) ≡ knows fr w
    by w h true e None f = absurd (in_found w (captured_of fr ws) (known_captured fr ws w h e) f)
    by w h true e (Some u) f = ap (is_found None) f ∙ sym e
    by w h false e None f = ap (is_found None) f ∙ sym e
    by w h false e (Some u) f = absurd (⊎_elim (λ n. let clash : Some u ≡ None = n in cc) (λ i. let k = (captured_known fr ws w i).1 in cc) (found_in (captured_of fr ws) w (Some u) f))

-- in a function
pub agrees_inner : {fr : Frame} {V : List Word} (ps ws : List Word) → Agrees (without_all ps ws) fr V → Agrees ws (inner_frame ps (captured_of fr (without_all ps ws))) (onto ps V)
agrees_inner {fr} {V} ps ws a = agrees_params ps ws [] (captured_of fr (without_all ps ws)) V (agrees_captured (without_all ps ws) a)
