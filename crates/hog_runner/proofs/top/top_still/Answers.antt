use Rattle.std.proofs.Common.{◌≡◌, ◌⊎◌, Some, refl, sym, ◌∙◌, ap, subst, inl, inr, ⊎_elim, arith}
use Rattle.std.specs.Prelude.{◌↔◌, IsSome, IsTrue}
use Rattle.hog_runner.specs.Commands.{Accepts, RefusesInput, Completes, command_of, has_queue, input_of, reads_input}
use Rattle.hog_runner.specs.Writes.{Refused, Done, refusal}
use Rattle.hog_runner.specs.declared.words.Command.TheVariants.{Replay, Make}
use Rattle.hog_runner.proofs.ServesLemmas.{at_zero, at_one, at_four, at_five, at_refused, at_complete, served}
use Rattle.hog_runner.proofs.TopLemmas.{Laws, accepted, output_accepted, part_accepted, same_command, refused_left, refused_input, completes, completes_failed}
use Rattle.hog_runner.proofs.top.top_still.Goals as goal

pub returns-clause-unread : goal.returns-clause-unread
returns-clause-unread g c no_input =
    let here = sym c.command_of.ensures.value ∙ c.in-Some.is in
    c.run_command.ensures.unread (λ reads. no_input (subst (λ o. IsTrue (reads_input o)) (sym here) reads))

pub returns-clause-refused_line : goal.returns-clause-refused_line
returns-clause-refused_line g c one text told =
    let here = sym c.command_of.ensures.value ∙ c.in-Some.is in
    let r = at_one (served c.run_command.ensures.at (λ six. omega (arith, one, six))) one in
    let why = refused_left c.in-Some.command (g.S.Source.left c.args.source.now) r.0 r.1 text told in
    (refusal r.0, Refused c.in-Some.command here r.0 why refl refl, r.2)

pub returns-clause-refused : goal.returns-clause-refused
returns-clause-refused g c command asked calm text told cause why =
    let laws : Laws = record { program_or_none = c.program_or_none.ensures; built_or_unbuilt = c.built_or_unbuilt.ensures; script_or_none = c.script_or_none.ensures } in
    let here = sym c.command_of.ensures.value ∙ c.in-Some.is in
    let why_here = subst (λ x. RefusesInput x text cause) (same_command (command_of c.args.words.now) command c.in-Some.command asked here) why in
    ⊎_elim
    (λ six. let making = c.run_command.ensures.keeper_failed_making six in absurd (subst (λ x. RefusesInput x text cause) making.1 why_here))
    (λ at.
    at_refused at calm text (refused_input c.in-Some.command (g.S.Source.left c.args.source.now) text cause why_here told)
    (λ out is. accepted laws c.in-Some.command text (output_accepted c.in-Some.command text out is) cause why_here)
    (λ out is. accepted laws c.in-Some.command text (part_accepted _ _ c.in-Some.command text out is) cause why_here))
    c.run_command.ensures.at

pub returns-clause-write_failed : goal.returns-clause-write_failed
returns-clause-write_failed g c four = (at_four (served c.run_command.ensures.at (λ six. omega (arith, four, six))) four).0

pub returns-clause-write_failed_prefix : goal.returns-clause-write_failed_prefix
returns-clause-write_failed_prefix g c four text told =
    let here = sym c.command_of.ensures.value ∙ c.in-Some.is in
    let told_here = subst (λ o. input_of o (g.S.Source.left c.args.source.now) ≡ Some text) here told in
    let d = (at_four (served c.run_command.ensures.at (λ six. omega (arith, four, six))) four).1 in
    (d.0, record { command = c.in-Some.command; asked = here; part = d.1 text told_here }, d.2)

pub returns-clause-no_memory_prefix : goal.returns-clause-no_memory_prefix
returns-clause-no_memory_prefix g c five =
    let here = sym c.command_of.ensures.value ∙ c.in-Some.is in
    ⊎_elim (λ same. inl same)
    (λ d. inr
    (λ text told.
    let told_here = subst (λ o. input_of o (g.S.Source.left c.args.source.now) ≡ Some text) here told in
    (d.0, record { command = c.in-Some.command; asked = here; part = d.1 text told_here }, d.2)))
    (at_five (served c.run_command.ensures.at (λ six. omega (arith, five, six))) five)

pub returns-clause-keeper_failed_making : goal.returns-clause-keeper_failed_making
returns-clause-keeper_failed_making g c six =
    let here = sym c.command_of.ensures.value ∙ c.in-Some.is in
    let making = c.run_command.ensures.keeper_failed_making six in
    (making.0, here ∙ ap Some making.1)

pub returns-clause-done_read : goal.returns-clause-done_read
returns-clause-done_read g c zero reads =
    let here = sym c.command_of.ensures.value ∙ c.in-Some.is in
    c.run_command.ensures.end zero (subst (λ o. IsTrue (reads_input o)) here reads)

pub returns-clause-done_output : goal.returns-clause-done_output
returns-clause-done_output g c zero text told =
    let here = sym c.command_of.ensures.value ∙ c.in-Some.is in
    let told_here = subst (λ o. input_of o (g.S.Source.left c.args.source.now) ≡ Some text) here told in
    let d = at_zero (served c.run_command.ensures.at (λ six. omega (arith, zero, six))) zero in
    (d.0, Done c.in-Some.command here (d.1 text told_here) refl, d.2)

pub returns-clause-closed : goal.returns-clause-closed
returns-clause-closed g c =
    let here = sym c.command_of.ensures.value ∙ c.in-Some.is in
    subst (λ o. IsSome c.run_command.result.closed ↔ ((c.run_command.result.status ≡ 6) ⊎ ((c.run_command.result.status ≡ 0) × IsTrue (has_queue o)))) (sym here)
    c.run_command.ensures.closed

pub returns-clause-played : goal.returns-clause-played
returns-clause-played g c asked =
    let here = sym c.command_of.ensures.value ∙ c.in-Some.is in
    c.run_command.ensures.played (same_command (command_of c.args.words.now) c.in-Some.command Replay here asked)

pub returns-clause-made : goal.returns-clause-made
returns-clause-made g c n asked zero =
    let here = sym c.command_of.ensures.value ∙ c.in-Some.is in
    c.run_command.ensures.made n (same_command (command_of c.args.words.now) c.in-Some.command (Make n) here asked) zero

pub returns-clause-complete : goal.returns-clause-complete
returns-clause-complete g c command asked calm_source calm_sink text told accepts =
    let laws : Laws = record { program_or_none = c.program_or_none.ensures; built_or_unbuilt = c.built_or_unbuilt.ensures; script_or_none = c.script_or_none.ensures } in
    let here = sym c.command_of.ensures.value ∙ c.in-Some.is in
    let same = same_command (command_of c.args.words.now) command c.in-Some.command asked here in
    let accepts_here = subst (λ x. Accepts x text) same accepts in
    let told_here = subst (λ x. input_of (Some x) (g.S.Source.left c.args.source.now) ≡ Some text) same told in
    let status = c.run_command.result.status in
    subst (λ x. Completes x status) (sym same)
    (⊎_elim
    (λ six. let making = c.run_command.ensures.keeper_failed_making six in completes_failed c.in-Some.command status making.0 making.1 six)
    (λ at. completes c.in-Some.command status (at_complete at calm_source calm_sink text told_here (accepted laws c.in-Some.command text accepts_here)))
    c.run_command.ensures.at)
