-- One step more of a play.
use Rattle.std.proofs.Common.{◌≡◌, ℕ, ◌+◌, ◌<◌, inl, inr, List, [], ◌∷◌, ◌++◌, Option, length, get_or, take, drop, refl, sym, ap, ◌∙◌, subst, append_assoc, arith}
use Rattle.std.specs.Prelude.{sum_by}
use Rattle.std.proofs.lemmas.List.{append-nil, drop_all, take_all, take_more}
use Rattle.std.proofs.lemmas.List.Sums.{sum_by_push}
use Rattle.hog_json.specs.Lines.{ended}
use Rattle.cyclotron_jobs.specs.declared.entry.Entry.{Entry}
use Rattle.cyclotron_jobs.specs.declared.row.Row.{Row}
use Rattle.script_steps.specs.declared.said.Held.{Held}
use Rattle.script_steps.specs.declared.said.Said.{Said}
use Rattle.script_reader.specs.declared.step.Step.{Step}
use Rattle.script_steps.specs.Lines.{step_line, step_lines}
use Rattle.script_steps.specs.Play.{Stage, Acts, PlaysOn, RoseBy, faults_in}
use Rattle.script_steps.specs.Plays.{PlaysPart, Some_steps, empty_stage}

-- stages are the same where their parts are
abbrev stage_with : List Row → List Entry → List (Option Held) → Stage
stage_with rows history hands = record { rows = rows; history = history; hands = hands }

pub same_stage : (a b : Stage) → a.rows ≡ b.rows → a.history ≡ b.history → a.hands ≡ b.hands → a ≡ b
same_stage a b rows history hands =
    ap (λ (r : List Row). stage_with r a.history a.hands) rows
    ∙ ap (λ (h : List Entry). stage_with b.rows h a.hands) history
    ∙ ap (λ (hs : List (Option Held)). stage_with b.rows b.history hs) hands

pub PlaysOn-push : (steps : List Step) (s : Step) (first old new : Stage) (saids : List Said) (said : Said)
    → PlaysOn steps first saids old → Acts s old said new → PlaysOn (steps ++ s ∷ []) first (saids ++ said ∷ []) new
PlaysOn-push [] s first old new [] said played act = (new, subst (λ (stage : Stage). Acts s stage said new) played act, refl)
PlaysOn-push [] s first old new (x ∷ saids) said played act = absurd played
PlaysOn-push (t ∷ steps) s first old new [] said played act = absurd played
PlaysOn-push (t ∷ steps) s first old new (x ∷ saids) said played act =
    (played.0, played.1, PlaysOn-push steps s played.0 old new saids said played.2 act)

pub step_lines-push : (steps : List Step) (s : Step) (first old : Stage) (saids : List Said) (said : Said)
    → PlaysOn steps first saids old → step_lines (steps ++ s ∷ []) (saids ++ said ∷ []) ≡ step_lines steps saids ++ ended (step_line s said)
step_lines-push [] s first old [] said played = append-nil (ended (step_line s said))
step_lines-push [] s first old (x ∷ saids) said played = absurd played
step_lines-push (t ∷ steps) s first old [] said played = absurd played
step_lines-push (t ∷ steps) s first old (x ∷ saids) said played =
    ap (λ rest. ended (step_line t x) ++ rest) (step_lines-push steps s played.0 old saids said played.2)
    ∙ sym (append_assoc (ended (step_line t x)) (step_lines steps saids) (ended (step_line s said)))

pub PlaysOn-more : (steps : List Step) (i : ℕ) (s : Step) (first old new : Stage) (saids : List Said) (said : Said)
    → i < length steps → s ≡ get_or steps i s → PlaysOn (take i steps) first saids old → Acts s old said new
    → PlaysOn (take (i + 1) steps) first (saids ++ said ∷ []) new
PlaysOn-more steps i s first old new saids said within here played act =
    let whole : take i steps ++ s ∷ [] ≡ take (i + 1) steps = ap (λ x. take i steps ++ x ∷ []) here ∙ sym (take_more steps i s within) in
    subst (λ (front : List Step). PlaysOn front first (saids ++ said ∷ []) new) whole (PlaysOn-push (take i steps) s first old new saids said played act)

pub step_lines-more : (steps : List Step) (i : ℕ) (s : Step) (first old : Stage) (saids : List Said) (said : Said)
    → i < length steps → s ≡ get_or steps i s → PlaysOn (take i steps) first saids old
    → step_lines (take (i + 1) steps) (saids ++ said ∷ []) ≡ step_lines (take i steps) saids ++ ended (step_line s said)
step_lines-more steps i s first old saids said within here played =
    let whole : take i steps ++ s ∷ [] ≡ take (i + 1) steps = ap (λ x. take i steps ++ x ∷ []) here ∙ sym (take_more steps i s within) in
    ap (λ (front : List Step). step_lines front (saids ++ said ∷ [])) (sym whole) ∙ step_lines-push (take i steps) s first old saids said played

-- ---- the keeper's faults

pub rose_more : (n m a b c : ℕ) → RoseBy n a b → RoseBy m b c → RoseBy (n + m) a c
rose_more n m a b c (inl p) (inl q) = inl (omega (arith, p, q))
rose_more n m a b c (inl p) (inr q) = inr q
rose_more n m a b c (inr p) (inl q) = inr (omega (arith, p, q))
rose_more n m a b c (inr p) (inr q) = inr q

pub faults_push : (saids : List Said) (said : Said) → sum_by faults_in (saids ++ said ∷ []) ≡ sum_by faults_in saids + faults_in said
faults_push saids said = sum_by_push faults_in saids said

pub rose_push : (saids : List Said) (said : Said) (a b c : ℕ) → RoseBy (sum_by faults_in saids) a b → RoseBy (faults_in said) b c → RoseBy (sum_by faults_in (saids ++ said ∷ [])) a c
rose_push saids said a b c p q =
    subst (λ (n : ℕ). RoseBy n a c) (sym (faults_push saids said)) (rose_more (sum_by faults_in saids) (faults_in said) a b c p q)

-- no step was played yet, and no fault was said
pub rose_begin : (a : ℕ) → RoseBy (sum_by faults_in []) a a
rose_begin a = inl (omega arith)

-- so no line is there
pub part_none : {K : Type 0} (faults : K → ℕ) (keeper : K) (steps : List Step) → PlaysPart faults keeper steps []
part_none faults keeper [] = Some_steps 0 [] empty_stage refl (record { last = keeper; rose = rose_begin (faults keeper) }) refl
part_none faults keeper (s ∷ steps) = Some_steps 0 [] empty_stage refl (record { last = keeper; rose = rose_begin (faults keeper) }) refl

-- hands that were written back whole
pub written : {A : Type 0} (len : ℕ) (xs items : List A) → length xs ≡ length items → len ≡ length items → take len (xs ++ drop (length xs) items) ≡ xs
written len xs items same long =
    ap (take len) (ap (λ rest. xs ++ rest) (drop_all (length xs) items (omega (arith, same))) ∙ append-nil xs) ∙ take_all len xs (omega (arith, same, long))
