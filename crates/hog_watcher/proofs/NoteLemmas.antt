-- Sums of notes.
use Rattle.std.proofs.Common.{◌≡◌, ℕ, ◌+◌, ◌<◌, eqb, List, [], ◌∷◌, length, inl, inr, refl, ap, sym, subst, ◌∙◌, arith}
use Rattle.std.proofs.lemmas.Bool.{cases_eq, eq-eqb, ne_eqb, cond-true, cond-false}
use Rattle.std.proofs.lemmas.List.{get_or-set_same, get_or-set_other, get_or-replicate, length-set, length-replicate}
use Rattle.std.proofs.lemmas.List.Sums.{sum_by-append}
use Rattle.hog_watcher.specs.Costs.{cost_of}
use Rattle.hog_watcher.specs.Watched.{WatcherOf, fresh, noted, spent_at}
use Rattle.hog_watcher.specs.Notes.{Note, after, cost_to, spent_by, own, NotesAreSummed, OwnNotesDecide}

sum_first : (function : ℕ) (n : Note) (ns : List Note) → spent_by (n ∷ ns) function ≡ cost_to function n + spent_by ns function
sum_first function n ns = omega (arith, sum_by-append (cost_to function) (n ∷ []) ns)

one_note : (w : WatcherOf) (function : ℕ) (n : Note) → function < length w.spent
    → spent_at (noted w n.function n.row) function ≡ spent_at w function + cost_to function n
one_note w function n lt = elim (cases_eq n.function function) [
  | inl same ↦
      let to : cost_to function n ≡ cost_of n.row = cond-true (eqb n.function function) (cost_of n.row) 0 (eq-eqb n.function function same) in
      let at : spent_at (noted w n.function n.row) n.function ≡ spent_at w n.function + cost_of n.row
      = get_or-set_same w.spent n.function (spent_at w n.function + cost_of n.row) 0 (subst (λ (k : ℕ). k < length w.spent) (sym same) lt) in
      subst (λ (k : ℕ). spent_at (noted w n.function n.row) k ≡ spent_at w k + cost_of n.row) same at ∙ ap (λ (k : ℕ). spent_at w function + k) (sym to)
  | inr other ↦
      let to : cost_to function n ≡ 0 = cond-false (eqb n.function function) (cost_of n.row) 0 (ne_eqb n.function function other) in
      let at : spent_at (noted w n.function n.row) function ≡ spent_at w function
      = get_or-set_other w.spent n.function function (spent_at w n.function + cost_of n.row) 0 (λ e. other (sym e)) in
      omega (arith, to, at)
]

sum_from : (w : WatcherOf) (function : ℕ) (notes : List Note) → function < length w.spent
    → spent_at (after w notes) function ≡ spent_at w function + spent_by notes function
sum_from w function [] lt = omega arith
sum_from w function (n ∷ ns) lt =
    let all : spent_at (after w (n ∷ ns)) function ≡ spent_at (noted w n.function n.row) function + spent_by ns function
    = sum_from (noted w n.function n.row) function ns (omega (arith, length-set w.spent n.function (spent_at w n.function + cost_of n.row), lt)) in
    omega (arith, all, sum_first function n ns, one_note w function n lt)

pub notes_sum : NotesAreSummed
notes_sum functions function notes lt =
    omega (arith, sum_from (fresh functions) function notes (omega (arith, length-replicate {A = ℕ} functions 0, lt)), get_or-replicate {A = ℕ} functions function 0 0 lt)

own_by : (function : ℕ) (n : Note) (ns : List Note) → spent_by ns function ≡ spent_by (own function ns) function
    → spent_by (n ∷ ns) function ≡ spent_by (own function (n ∷ ns)) function
own_by function n ns rest = elim (cases_eq n.function function) [
  | inl same ↦
      let is : own function (n ∷ ns) ≡ n ∷ own function ns = cond-true (eqb n.function function) (n ∷ own function ns) (own function ns) (eq-eqb n.function function same) in
      omega (arith, rest, sum_first function n ns, sum_first function n (own function ns), ap (λ ms. spent_by ms function) is)
  | inr other ↦
      let is : own function (n ∷ ns) ≡ own function ns = cond-false (eqb n.function function) (n ∷ own function ns) (own function ns) (ne_eqb n.function function other) in
      let free : cost_to function n ≡ 0 = cond-false (eqb n.function function) (cost_of n.row) 0 (ne_eqb n.function function other) in
      omega (arith, rest, free, sum_first function n ns, ap (λ ms. spent_by ms function) is)
]

pub own_decide : OwnNotesDecide
own_decide function [] = refl
own_decide function (n ∷ ns) = own_by function n ns (own_decide function ns)
