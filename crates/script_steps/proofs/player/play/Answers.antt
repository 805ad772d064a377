use Rattle.std.proofs.Common.{◌≡◌, ◌+◌, List, [], ◌∷◌, ◌++◌, Option, Some, None, length, take, refl, sym, ap, ◌∙◌, subst, arith}
use Rattle.std.specs.List.{All}
use Rattle.std.specs.Prelude.{sum_by}
use Rattle.std.proofs.lemmas.List.{append-nil, length-replicate, take_all}
use Rattle.std.proofs.lemmas.List.Elements.{All-get_or}
use Rattle.line_writer.specs.Added.{AddsBytes, AddsPrefix}
use Rattle.line_writer.proofs.AddedLemmas.{AddsBytes-then, AddsPrefix-none, AddsPrefix-all, AddsPrefix-then}
use Rattle.script_reader.specs.Steps.{IsFit}
use Rattle.script_reader.specs.declared.step.Step.{Step}
use Rattle.script_steps.specs.Free.{AreFree, HandIsFree}
use Rattle.script_steps.specs.Lines.{closing_lines, step_lines}
use Rattle.script_steps.specs.Play.{Acts, PlaysOn, RoseBy, Stage, faults_in, stage_of}
use Rattle.script_steps.specs.Plays.{All_steps, FitsKeeper, Plays, PlaysPart, Some_steps, empty_stage}
use Rattle.script_steps.specs.declared.said.Held.{Held}
use Rattle.script_steps.proofs.FreeLemmas.{acts_free, empty_free}
use Rattle.script_steps.proofs.Snoc.{PlaysOn-more, part_none, rose_begin, rose_push, same_stage, step_lines-more, written}
use Rattle.script_steps.proofs.player.play.Goals as goal

pub returns-in_err-hands-clause-prefix : goal.returns-in_err-hands-clause-prefix
returns-in_err-hands-clause-prefix g c = ([], part_none g.K.Keeper.faults c.args.keeper c.args.script.now, AddsPrefix-none [] refl)

pub loop-step-init : goal.loop-step-init
loop-step-init g c =
    let queue = c.new-queue.result in
    let hands = c.in_ok-hands.hands.items in
    let begun : stage_of queue hands ≡ empty_stage = same_stage (stage_of queue hands) empty_stage c.new-queue.ensures.rows c.new-queue.ensures.history c.in_ok-hands.ensures in
    let count : g.K.Keeper.faults c.args.keeper ≡ g.K.Keeper.faults queue.keeper = ap g.K.Keeper.faults (sym c.new-queue.ensures.keeper) in (
      [],
      begun,
      subst (RoseBy (sum_by faults_in []) (g.K.Keeper.faults c.args.keeper)) count (rose_begin (g.K.Keeper.faults c.args.keeper)),
      λ ys told. told ∙ ap Some (sym (append-nil ys)),
      omega arith,
      ap length c.in_ok-hands.ensures ∙ length-replicate {A = Option Held} 16 None,
      subst AreFree (sym begun) empty_free,
    )

pub act-requires-clause-free : goal.act-requires-clause-free
act-requires-clause-free g c = subst (All HandIsFree) (sym c.deref_mut.ensures.value) c.loop-step.invariant.6.hands

pub returns-in_err-said-clause-prefix : goal.returns-in_err-said-clause-prefix
returns-in_err-said-clause-prefix g c =
    let steps = c.items-step-items.result.now in
    let i = c.loop-step.step-index in
    let inv = c.loop-step.invariant in
    let stage : Stage = stage_of c.loop-step.queue c.loop-step.hands.items in
    let out = step_lines (take i steps) inv.0 in
    (out, subst (λ (ss : List Step). PlaysPart g.K.Keeper.faults c.args.keeper ss out) (c.items-step-items.ensures ∙ c.script.view_is) (Some_steps i inv.0 stage inv.1 (record { last = c.loop-step.queue.keeper; rose = inv.2 }) refl), AddsPrefix-all inv.3)

pub returns-in_err-write_step-clause-prefix : goal.returns-in_err-write_step-clause-prefix
returns-in_err-write_step-clause-prefix g c =
    let steps = c.items-step-items.result.now in
    let i = c.loop-step.step-index in
    let s = c.step-item.result in
    let said = c.in_ok-said.said in
    let inv = c.loop-step.invariant in
    let old : Stage = stage_of c.loop-step.queue c.loop-step.hands.items in
    let new : Stage = stage_of c.act.new.queue c.act.new.hands in
    let act = subst (λ (hands : List (Option Held)). Acts s (stage_of c.loop-step.queue hands) said new) c.deref_mut.ensures.value c.in_ok-said.ensures.acts in
    let next = PlaysOn-more steps i s empty_stage old new inv.0 said c.loop-step-test.true c.step-item.is inv.1 act in
    let lines = step_lines-more steps i s empty_stage old inv.0 said c.loop-step-test.true c.step-item.is inv.1 in
    let rose = rose_push inv.0 said (g.K.Keeper.faults c.args.keeper) (g.K.Keeper.faults c.loop-step.queue.keeper) (g.K.Keeper.faults c.act.new.queue.keeper) inv.2 c.in_ok-said.ensures.faults in
    let fits : FitsKeeper g.K.Keeper.faults c.args.keeper (inv.0 ++ said ∷ []) = record { last = c.act.new.queue.keeper; rose = rose } in
    let out = step_lines (take (i + 1) steps) (inv.0 ++ said ∷ []) in (
      out,
      subst (λ (ss : List Step). PlaysPart g.K.Keeper.faults c.args.keeper ss out) (c.items-step-items.ensures ∙ c.script.view_is) (Some_steps (i + 1) (inv.0 ++ said ∷ []) new next fits refl),
      subst (AddsPrefix (g.W.Sink.taken c.args.sink.now) (g.W.Sink.taken c.write_step.new.sink)) (sym lines) (AddsPrefix-then inv.3 c.in_err-write_step.ensures.prefix),
    )

pub loop-step-preserved : goal.loop-step-preserved
loop-step-preserved g c =
    let steps = c.items-step-items.result.now in
    let i = c.loop-step.step-index in
    let s = c.step-item.result in
    let said = c.in_ok-said.said in
    let inv = c.loop-step.invariant in
    let hands = c.loop-step.hands in
    let old : Stage = stage_of c.loop-step.queue hands.items in
    let new : Stage = stage_of c.act.new.queue c.act.new.hands in
    let act = subst (λ (hs : List (Option Held)). Acts s (stage_of c.loop-step.queue hs) said new) c.deref_mut.ensures.value c.in_ok-said.ensures.acts in
    let next = PlaysOn-more steps i s empty_stage old new inv.0 said c.loop-step-test.true c.step-item.is inv.1 act in
    let lines = step_lines-more steps i s empty_stage old inv.0 said c.loop-step-test.true c.step-item.is inv.1 in
    let as_long : length c.act.new.hands ≡ length hands.items = omega (arith, c.act.auto.hands, ap length c.deref_mut.ensures.value) in
    let whole = written hands.len c.act.new.hands hands.items as_long hands.ok.0 in
    let fits : All IsFit steps = subst (All IsFit) (sym c.items-step-items.ensures) c.script.invariant.1 in
    let fit : IsFit s = subst IsFit (sym c.step-item.is) (All-get_or IsFit steps i s c.loop-step-test.true fits) in (
      inv.0 ++ said ∷ [],
      subst (λ (hs : List (Option Held)). PlaysOn (take (i + 1) steps) empty_stage (inv.0 ++ said ∷ []) (stage_of c.act.new.queue hs)) (sym whole) next,
      rose_push inv.0 said (g.K.Keeper.faults c.args.keeper) (g.K.Keeper.faults c.loop-step.queue.keeper) (g.K.Keeper.faults c.act.new.queue.keeper) inv.2 c.in_ok-said.ensures.faults,
      subst (AddsBytes (g.W.Sink.taken c.args.sink.now) (g.W.Sink.taken c.write_step.new.sink)) (sym lines) (AddsBytes-then inv.3 c.in_ok-write_step.ensures.ok),
      omega (arith, inv.4, c.in_ok-write_step.ensures.count),
      omega (arith, ap length whole, as_long, inv.5),
      subst (λ (hs : List (Option Held)). AreFree (stage_of c.act.new.queue hs)) (sym whole) (acts_free s old new said fit inv.6 act),
    )

pub returns-in_err-write_closing-clause-prefix : goal.returns-in_err-write_closing-clause-prefix
returns-in_err-write_closing-clause-prefix g c =
    let steps = c.items-step-items.result.now in
    let i = c.loop-step.step-index in
    let inv = c.loop-step.invariant in
    let queue = c.loop-step.queue in
    let stage : Stage = stage_of queue c.loop-step.hands.items in
    let done : take i steps ≡ steps = take_all i steps c.loop-step-test.false in
    let played = subst (λ (ss : List Step). PlaysOn ss empty_stage inv.0 stage) done inv.1 in
    let added = subst (λ (ss : List Step). AddsBytes (g.W.Sink.taken c.args.sink.now) (g.W.Sink.taken c.loop-step.sink) (step_lines ss inv.0)) done inv.3 in
    let out = step_lines steps inv.0 ++ closing_lines queue.rows queue.history in
    (out, subst (λ (ss : List Step). PlaysPart g.K.Keeper.faults c.args.keeper ss out) (c.items-step-items.ensures ∙ c.script.view_is) (All_steps inv.0 stage played (record { last = queue.keeper; rose = inv.2 }) refl), AddsPrefix-then added c.in_err-write_closing.ensures.prefix)

pub returns-clause-played : goal.returns-clause-played
returns-clause-played g c =
    let steps = c.items-step-items.result.now in
    let i = c.loop-step.step-index in
    let inv = c.loop-step.invariant in
    let queue = c.loop-step.queue in
    let stage : Stage = stage_of queue c.loop-step.hands.items in
    let done : take i steps ≡ steps = take_all i steps c.loop-step-test.false in
    let played = subst (λ (ss : List Step). PlaysOn ss empty_stage inv.0 stage) done inv.1 in
    let added = subst (λ (ss : List Step). AddsBytes (g.W.Sink.taken c.args.sink.now) (g.W.Sink.taken c.loop-step.sink) (step_lines ss inv.0)) done inv.3 in
    let out = step_lines steps inv.0 ++ closing_lines queue.rows queue.history in
    let plays : Plays (g.K.Keeper.faults c.args.keeper) (g.K.Keeper.faults queue.keeper) steps queue.rows queue.history out =
    record { saids = inv.0; stage = stage; played = played; rows_are = refl; history_is = refl; lines = refl; faults = inv.2 } in (
      out,
      subst (λ (ss : List Step). Plays (g.K.Keeper.faults c.args.keeper) (g.K.Keeper.faults queue.keeper) ss queue.rows queue.history out) (c.items-step-items.ensures ∙ c.script.view_is) plays,
      AddsBytes-then added c.in_ok-write_closing.ensures.ok,
    )

pub returns-clause-prefix : goal.returns-clause-prefix
returns-clause-prefix g c =
    let steps = c.items-step-items.result.now in
    let i = c.loop-step.step-index in
    let inv = c.loop-step.invariant in
    let queue = c.loop-step.queue in
    let stage : Stage = stage_of queue c.loop-step.hands.items in
    let done : take i steps ≡ steps = take_all i steps c.loop-step-test.false in
    let played = subst (λ (ss : List Step). PlaysOn ss empty_stage inv.0 stage) done inv.1 in
    let added = subst (λ (ss : List Step). AddsBytes (g.W.Sink.taken c.args.sink.now) (g.W.Sink.taken c.loop-step.sink) (step_lines ss inv.0)) done inv.3 in
    let out = step_lines steps inv.0 ++ closing_lines queue.rows queue.history in
    (out, subst (λ (ss : List Step). PlaysPart g.K.Keeper.faults c.args.keeper ss out) (c.items-step-items.ensures ∙ c.script.view_is) (All_steps inv.0 stage played (record { last = queue.keeper; rose = inv.2 }) refl), AddsPrefix-all (AddsBytes-then added c.in_ok-write_closing.ensures.ok))
