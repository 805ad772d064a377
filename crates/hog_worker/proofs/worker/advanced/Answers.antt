use Rattle.std.proofs.Common.{◌≡◌, sym, ap, ◌∙◌, subst, arith}
use Rattle.std.specs.Str.{IsUtf8}
use Rattle.hog_ops.specs.Valid.{IsCode}
use Rattle.cyclotron_jobs.specs.declared.input.JobInput.{JobInput}
use Rattle.cyclotron_jobs.specs.Leases.{LeaseOf}
use Rattle.hog_program.specs.Program.{HasCode}
use Rattle.hog_jobs.specs.Course.{replies_of, IsRunAt}
use Rattle.hog_worker.proofs.Leased.{is_machine, is_course, course_moved, slice_moved}
use Rattle.hog_worker.proofs.worker.advanced.Goals as goal

pub invariant_of-result : goal.invariant_of-result
invariant_of-result c =
    let l = c.lease.inside in
    let code = c.args.program.now.code in
    let run = c.args.machine.run in
    let taken = c.lease.invariant.1.taken in
    let has : HasCode l.input.source code = subst (λ (v : LeaseOf). HasCode v.input.source code) (sym c.lease.view_is) c.requires.source in
    let at : IsRunAt code l.input.globals (replies_of l.replies) run.ops run =
    subst (λ (v : LeaseOf). IsRunAt code v.input.globals (replies_of v.replies) run.ops run) (sym c.lease.view_is) c.requires.at in
    let is_code : IsCode code = subst IsCode c.code.ensures.value c.ops-ops.ensures.code in
    let objects = c.kept_globals.ensures.objects l.input.globals taken.globals in
    let machine = is_machine c.runs_are_machines.ensures code l.input.globals (replies_of l.replies) run is_code objects at c.in_ok-save.ensures.fits in
    let bytes : c.new-saved.result ≡ c.in_ok-save.field-0.items = c.new-saved.ensures in
    let utf8 : IsUtf8 c.new-saved.result = subst IsUtf8 (sym bytes) c.in_ok-save.ensures.utf8 in
    let from : l.ops ≡ c.args.lease.now.ops = ap (λ (v : LeaseOf). v.ops) c.lease.view_is in (
      omega (arith, from, c.requires.above, c.ops-to.ensures),
      course_moved l.input l.replies run.ops c.in_ok-copy.field-0 c.in_ok-copy-2.field-0 c.ops-to.result c.new-saved.result c.into_shown.result c.in_ok-after.after c.in_ok-copy.ensures c.in_ok-copy-2.ensures c.ops-to.ensures
          (is_course l.input l.replies code run c.new-saved.result c.into_shown.result c.in_ok-after.after taken has at machine (bytes ∙ c.in_ok-save.ensures.text) utf8 c.into_shown.ensures c.in_ok-after.ensures),
    )

pub returns : goal.returns
returns c = λ slice is.
    let l = c.lease.inside in
    let v = c.args.lease.now in
    let code = c.args.program.now.code in
    let run = c.args.machine.run in
    let taken = c.lease.invariant.1.taken in
    let has : HasCode l.input.source code = subst (λ (v : LeaseOf). HasCode v.input.source code) (sym c.lease.view_is) c.requires.source in
    let at : IsRunAt code l.input.globals (replies_of l.replies) run.ops run =
    subst (λ (v : LeaseOf). IsRunAt code v.input.globals (replies_of v.replies) run.ops run) (sym c.lease.view_is) c.requires.at in
    let is_code : IsCode code = subst IsCode c.code.ensures.value c.ops-ops.ensures.code in
    let objects = c.kept_globals.ensures.objects l.input.globals taken.globals in
    let machine = is_machine c.runs_are_machines.ensures code l.input.globals (replies_of l.replies) run is_code objects at c.in_ok-save.ensures.fits in
    let bytes : c.new-saved.result ≡ c.in_ok-save.field-0.items = c.new-saved.ensures in
    let utf8 : IsUtf8 c.new-saved.result = subst IsUtf8 (sym bytes) c.in_ok-save.ensures.utf8 in
    let input : c.in_ok-copy.field-0 ≡ v.input = c.in_ok-copy.ensures ∙ ap (λ (v : LeaseOf). v.input) c.lease.view_is in
    let replies : c.in_ok-copy-2.field-0 ≡ v.replies = c.in_ok-copy-2.ensures ∙ ap (λ (v : LeaseOf). v.replies) c.lease.view_is in
    let from : l.ops ≡ v.ops = ap (λ (v : LeaseOf). v.ops) c.lease.view_is in
    record {
      input = input;
      replies = replies;
      from = from;
      code = code;
      source = subst (λ (x : JobInput). HasCode x.source code) (sym input) c.requires.source;
      steps = slice_moved code v.input v.replies slice v.ops run.ops c.in_ok-copy.field-0 c.in_ok-copy-2.field-0 l.ops c.ops-to.result input replies from c.ops-to.ensures is;
      course =
          course_moved l.input l.replies run.ops c.in_ok-copy.field-0 c.in_ok-copy-2.field-0 c.ops-to.result c.new-saved.result c.into_shown.result c.in_ok-after.after c.in_ok-copy.ensures c.in_ok-copy-2.ensures c.ops-to.ensures
          (is_course l.input l.replies code run c.new-saved.result c.into_shown.result c.in_ok-after.after taken has at machine (bytes ∙ c.in_ok-save.ensures.text) utf8 c.into_shown.ensures c.in_ok-after.ensures);
    }
