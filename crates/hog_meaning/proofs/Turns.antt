-- Whole runs with more replies: with any number of turns, and what they show.
use Rattle.std.proofs.Common.{◌≡◌, ℕ, zero, suc, ◌-◌, List, [], ◌++◌, length, Some, None, refl, ap, ◌∙◌}
use Rattle.hog_value.specs.declared.trace.TraceItem.{TraceItem}
use Rattle.hog_value.specs.declared.trace.End.{End}
use Rattle.hog_value.specs.Values.{Val}
use Rattle.hog_value.specs.Meters.{max_turns}
use Rattle.hog_value.specs.Operations as op
use Rattle.hog_value.specs.Operations.{Outcome}
use Rattle.hog_tree.specs.Plain.{Word, Stms, ManyStms}
use Rattle.hog_tree.specs.Plain as t
use Rattle.hog_meaning.specs.Meaning.{Task, Loop, LoopWithStep, LoopOver, Call, effects, begin, condition, effect_at}
use Rattle.hog_meaning.specs.World.{Env, Closure, Reply, World, Fixed, Got, Gives, Throws, Waits, Spends, Flow, GoesOn, Returns}
use Rattle.hog_meaning.specs.Program.{shows, texts_in, first_cells, run_from, outcome, meaning}
use Rattle.hog_meaning.specs.Laws.{Longer, MoreReplies}
use Rattle.hog_meaning.proofs.Going.{longer, trace_of, Extended, Goes, stays}
use Rattle.hog_meaning.proofs.Calls.{Good}
use Rattle.hog_meaning.proofs.Trees.{over_goes, for_goes, effect_goes, begin_goes, condition_goes, effects_goes, task_body_goes}

task_goes : (rs : List Reply) (fixed : Fixed) (n : ℕ) → Good rs (effect_at fixed n) → (depth : ℕ) (task : Task) (ρ : Env) (w : World) → Goes rs w.trace (effect_at fixed (suc n) depth task ρ w) (effect_at fixed (suc n) depth task ρ (longer rs w))
task_goes rs fixed n ih depth (Loop c b) ρ w = effect_goes rs fixed (effect_at fixed n) ih depth (t.While c b) ρ w
task_goes rs fixed n ih depth (LoopWithStep c s b) ρ w =
    for_goes rs (effect_at fixed n) ih depth c s b (condition fixed (effect_at fixed n) depth c) (effects fixed (effect_at fixed n) depth b) (begin fixed (effect_at fixed n) depth s)
    (condition_goes rs fixed (effect_at fixed n) ih depth c) (effects_goes rs fixed (effect_at fixed n) ih depth b) (begin_goes rs fixed (effect_at fixed n) ih depth s) ρ w
task_goes rs fixed n ih depth (LoopOver copies i b) ρ w =
    over_goes rs (effect_at fixed n) ih depth copies i b (λ ρ1 w1. effects fixed (effect_at fixed n) depth b ρ1 w1) (λ ρ1 w1. effects_goes rs fixed (effect_at fixed n) ih depth b ρ1 w1) ρ w
task_goes rs fixed n ih depth (Call b) ρ w = task_body_goes rs fixed (effect_at fixed n) ih depth b ρ w

good_at : (rs : List Reply) (fixed : Fixed) (n : ℕ) → Good rs (effect_at fixed n)
good_at rs fixed zero = record { goes = λ depth task ρ w. stays refl refl }
good_at rs fixed (suc n) = record { goes = task_goes rs fixed n (good_at rs fixed n) }

run_goes : (program : Stms) (texts : List Word) (replies more : List Reply) (o : Outcome Closure Val) → Goes more [] (run_from program texts replies o) (run_from program texts (replies ++ more) o)
run_goes program texts replies more (op.Gives v heap units) =
    (good_at more (record { literals = texts; globals = length heap - 1 }) (suc max_turns)).goes 0 (Call (ManyStms program)) []
    (record { heap = heap; store = []; turns = 0; units = units; trace = []; replies = replies })
run_goes program texts replies more (op.Throws kind) = stays refl refl
run_goes program texts replies more op.Spends = stays refl refl

-- what is shown
same_shown : (rs : List Reply) (o o' : Got Flow) → Extended rs o o' → (end : End) → (shows o).end ≡ Some end → shows o' ≡ shows o
same_shown rs (Gives (GoesOn ρ) w) o' e end h = ap shows e
same_shown rs (Gives (Returns v) w) o' e end h = ap shows e
same_shown rs (Throws v w) o' e end h = ap shows e
same_shown rs (Waits w) o' e end h = absurd (cc)
same_shown rs (Spends limit w) o' e end h = ap shows e

shown_trace : (o : Got Flow) → (shows o).trace ≡ trace_of o
shown_trace (Gives (GoesOn ρ) w) = refl
shown_trace (Gives (Returns v) w) = refl
shown_trace (Throws v w) = refl
shown_trace (Waits w) = refl
shown_trace (Spends limit w) = refl

prefix_shown : (rs : List Reply) (o o' : Got Flow) → Extended rs o o' → (shows o).end ≡ None → (rest : List TraceItem) × ((shows o').trace ≡ (shows o).trace ++ rest)
prefix_shown rs (Gives (GoesOn ρ) w) o' e h = absurd (cc)
prefix_shown rs (Gives (Returns v) w) o' e h = absurd (cc)
prefix_shown rs (Throws v w) o' e h = absurd (cc)
prefix_shown rs (Waits w) o' e h = (e.more, shown_trace o' ∙ e.is)
prefix_shown rs (Spends limit w) o' e h = absurd (cc)

shown_longer : (rs : List Reply) {t : List TraceItem} (o o' : Got Flow) → Goes rs t o o' → Longer (shows o) (shows o')
shown_longer rs o o' g = record { ended = same_shown rs o o' g.is; waits = prefix_shown rs o o' g.is }

pub more_replies_law : MoreReplies
unfolding meaning outcome
more_replies_law program globals replies more =
    shown_longer more _ _ (run_goes program (texts_in program) replies more (first_cells (texts_in program) globals))
