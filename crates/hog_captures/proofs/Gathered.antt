-- Words that are gathered one by one: each that the frame knows, once.
use Rattle.std.proofs.Common.{◌≡◌, List, [], ◌∷◌, ◌++◌, Bool, true, false, ◌||◌, bytes_eq, cond, refl, sym, ap, ◌∙◌, append-nil, append_assoc}
use Rattle.std.specs.Cmp.Lexicographic.{bytes_decides}
use Rattle.hog_tree.specs.Plain.{Word}
use Rattle.hog_captures.specs.Frees.{is_among, without, without_all}
use Rattle.hog_captures.specs.Frames.{Frame, knows, with_one, captured_of}
use Rattle.hog_captures.specs.Finding.{Finding, Finds, nothing_found, with_words, bind_all}
use Rattle.hog_captures.proofs.Finds.{other_way, scoped, binds_found}

abbrev gathered : Frame → List Word → List Word → List Word
gathered fr out [] = out
gathered fr out (w ∷ ws) = gathered fr (with_one fr out w) ws

-- a word is left out where it is one of those
first_left : (ps : List Word) (x : Word) (xs : List Word) → without_all ps (x ∷ xs) ≡ cond (is_among x ps) (without_all ps xs) (x ∷ without_all ps xs)
first_left [] x xs = refl
first_left (p ∷ ps) x xs =
    ap (without p) (first_left ps x xs) ∙ by (is_among x ps) (bytes_eq x p) refl
    ∙ ap (λ b. cond (b || is_among x ps) (without_all (p ∷ ps) xs) (x ∷ without_all (p ∷ ps) xs)) (other_way x p)
  where
    by : (b c : Bool) → bytes_eq x p ≡ c
        → without p (cond b (without_all ps xs) (x ∷ without_all ps xs)) ≡ cond (c || b) (without_all (p ∷ ps) xs) (x ∷ without_all (p ∷ ps) xs)
    by true true e = refl
    by true false e = refl
    by false true e = rw e refl
    by false false e = rw e refl

-- what is left out already
without_among : (out : List Word) (w : Word) → is_among w out ≡ true → (xs : List Word) → without_all out (without w xs) ≡ without_all out xs
without_among out w is [] = refl
without_among out w is (x ∷ xs) = by (bytes_eq x w) refl (without_among out w is xs) ∙ sym (first_left out x xs)
  where
    by : (b : Bool) → bytes_eq x w ≡ b → without_all out (without w xs) ≡ without_all out xs
        → without_all out (cond b (without w xs) (x ∷ without w xs)) ≡ cond (is_among x out) (without_all out xs) (x ∷ without_all out xs)
    by true e ih =
        ih ∙ sym (ap (λ b. cond b (without_all out xs) (x ∷ without_all out xs)) (ap (λ v. is_among v out) ((bytes_decides x w).0 e) ∙ is))
    by false e ih = first_left out x (without w xs) ∙ ap (λ ys. cond (is_among x out) ys (x ∷ ys)) ih

without_last : (out : List Word) (w : Word) (xs : List Word) → without_all (out ++ w ∷ []) xs ≡ without_all out (without w xs)
without_last [] w xs = refl
without_last (p ∷ out) w xs = ap (without p) (without_last out w xs)

gathered_is : (fr : Frame) (ws out : List Word) → gathered fr out ws ≡ out ++ without_all out (captured_of fr ws)
gathered_is fr [] out = sym (append-nil out) ∙ ap (λ r. out ++ r) (nothing_left out)
  where
    nothing_left : (ps : List Word) → [] ≡ without_all ps []
    nothing_left [] = refl
    nothing_left (p ∷ ps) = ap (without p) (nothing_left ps)
gathered_is fr (w ∷ ws) out = by (captured_of fr ws) (is_among w out) refl (knows fr w) (λ o. gathered_is fr ws o)
  where
    by : (rest : List Word) (b : Bool) → is_among w out ≡ b → (c : Bool) → ((o : List Word) → gathered fr o ws ≡ o ++ without_all o rest)
        → gathered fr (cond b out (cond c (out ++ w ∷ []) out)) ws ≡ out ++ without_all out (cond c (w ∷ without w rest) rest)
    by rest true is true ih =
        ih out ∙ ap (λ r. out ++ r) (sym (first_left out w (without w rest)
        ∙ ap (λ b. cond b (without_all out (without w rest)) (w ∷ without_all out (without w rest))) is ∙ without_among out w is rest))
    by rest true is false ih = ih out
    by rest false is true ih =
        ih (out ++ w ∷ []) ∙ append_assoc out (w ∷ []) (without_all (out ++ w ∷ []) rest)
        ∙ ap (λ r. out ++ w ∷ r) (without_last out w rest)
        ∙ ap (λ r. out ++ r) (sym (first_left out w (without w rest) ∙ ap (λ b. cond b (without_all out (without w rest)) (w ∷ without_all out (without w rest))) is))
    by rest false is false ih = ih out

found_is : (fr : Frame) (out ws : List Word) → (with_words ws (record { frame = fr; bound = []; found = out })).found ≡ gathered fr out ws
found_is fr out [] = refl
found_is fr out (w ∷ ws) = found_is fr (with_one fr out w) ws

-- what is found where nothing was found before and these names are declared
pub captured_found : (fr : Frame) {a b : Finding} (names : List Word) {ws : List Word} → a ≡ bind_all names (nothing_found fr) → Finds a b ws
    → b.found ≡ captured_of fr (without_all names ws)
captured_found fr {a} {b} names {ws} bound h =
    ap (λ (f : Finding). f.found) (h.after ∙ ap (with_words ws) bound ∙ scoped names ws (nothing_found fr))
    ∙ binds_found names (with_words (without_all names ws) (nothing_found fr))
    ∙ found_is fr [] (without_all names ws) ∙ gathered_is fr (without_all names ws) []
