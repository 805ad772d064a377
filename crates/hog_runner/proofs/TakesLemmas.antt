-- What two calls in a row take.
use Rattle.std.proofs.Common.{◌≡◌, ℕ, ◌+◌, ◌≤◌, ◌<◌, List, [], ◌++◌, length, take, drop, Option, Some, refl, sym, ◌∙◌, ap, subst, append_assoc, length-append, arith}
use Rattle.std.proofs.lemmas.List.{append-nil, take-append-drop}
use Rattle.std.proofs.Math.Seq.{drop-append_seam, drop-append-add}
use Rattle.hog_runner.specs.Takes.{TakesAtMost, ReadsInto}

-- a call that takes nothing
pub ReadsInto-none : {a b : Option (List ℕ)} (text : List ℕ) → b ≡ a → ReadsInto a b text text
ReadsInto-none text same xs told = record { moved = []; rest = xs; parts = refl; left = same ∙ told; text = sym (append-nil text) }

pub ReadsInto-then : {a b c : Option (List ℕ)} {t u v : List ℕ} → ReadsInto a b t u → ReadsInto b c u v → ReadsInto a c t v
ReadsInto-then {t = t} first second xs told =
    let p = first xs told in
    let q = second p.rest p.left in
    record {
      moved = p.moved ++ q.moved;
      rest = q.rest;
      parts = p.parts ∙ ap (λ zs. p.moved ++ zs) q.parts ∙ sym (append_assoc p.moved q.moved q.rest);
      left = q.left;
      text = q.text ∙ ap (λ zs. zs ++ q.moved) p.text ∙ append_assoc t p.moved q.moved;
    }

-- the first n bytes
pub ReadsInto-first : {a b : Option (List ℕ)} (n : ℕ) {t u : List ℕ} → ((xs : List ℕ) → a ≡ Some xs → u ≡ t ++ take n xs) → ((xs : List ℕ) → a ≡ Some xs → b ≡ Some (drop n xs)) → ReadsInto a b t u
ReadsInto-first n bytes rest xs told =
    record { moved = take n xs; rest = drop n xs; parts = sym (take-append-drop n xs); left = rest xs told; text = bytes xs told }

same_rest : (a : Option (List ℕ)) (xs ys : List ℕ) → a ≡ Some xs → a ≡ Some ys → xs ≡ ys
same_rest a xs ys p q = cc

-- what was taken is no longer than the text that it went to
pub TakesAtMost-ReadsInto : {a b : Option (List ℕ)} (most : ℕ) {text : List ℕ} → ReadsInto a b [] text → length text ≤ most → TakesAtMost most a b
TakesAtMost-ReadsInto most {text} moves few xs told =
    let p = moves xs told in
    let fits : length p.moved ≤ most = subst (λ zs. length zs ≤ most) p.text few in
    (length p.moved, fits, p.left ∙ ap Some (sym (ap (drop (length p.moved)) p.parts ∙ drop-append_seam p.moved p.rest)))

pub TakesAtMost-then : {a b c : Option (List ℕ)} (most n : ℕ) {text : List ℕ} → ReadsInto a b [] text → TakesAtMost n b c → length text + n ≤ most → TakesAtMost most a c
TakesAtMost-then {c = c} most n {text} moves taken few xs told =
    let p = moves xs told in
    let q = taken p.rest p.left in
    let fits : length p.moved + n ≤ most = subst (λ zs. length zs + n ≤ most) p.text few in
    let rest : drop (length p.moved + q.0) xs ≡ drop q.0 p.rest = ap (drop (length p.moved + q.0)) p.parts ∙ drop-append-add p.moved p.rest q.0 in
    (length p.moved + q.0, omega (arith, q.1), q.2 ∙ ap Some (sym rest))

-- a text that goes on to the end is all that was left
pub ReadsInto-whole : {a b c : Option (List ℕ)} {t text : List ℕ} → ReadsInto a b [] t → ReadsInto b c t text → ((xs : List ℕ) → b ≡ Some xs → c ≡ Some []) → (xs : List ℕ) → a ≡ Some xs → text ≡ xs
ReadsInto-whole {a} {b} {c} {t} {text} first second end xs told =
    let p = first xs told in
    let q = ReadsInto-then {v = text} first second xs told in
    let none : q.rest ≡ [] = same_rest c q.rest [] q.left (end p.rest p.left) in
    q.text ∙ sym (q.parts ∙ ap (λ zs. q.moved ++ zs) none ∙ append-nil q.moved)

pub ReadsInto-ended : {a b c : Option (List ℕ)} {t : List ℕ} → ReadsInto a b [] t → ((xs : List ℕ) → b ≡ Some xs → c ≡ Some []) → (xs : List ℕ) → a ≡ Some xs → c ≡ Some []
ReadsInto-ended first end xs told = let p = first xs told in end p.rest p.left

-- more is there than the text that it went to
pub ReadsInto-large : {a b : Option (List ℕ)} {text : List ℕ} (most : ℕ) → ReadsInto a b [] text → most < length text → (xs : List ℕ) → a ≡ Some xs → most < length xs
ReadsInto-large {text = text} most moves many xs told =
    let p = moves xs told in
    let some : most < length p.moved = subst (λ zs. most < length zs) p.text many in
    let whole : length xs ≡ length p.moved + length p.rest = ap length p.parts ∙ length-append p.moved p.rest in
    omega arith
