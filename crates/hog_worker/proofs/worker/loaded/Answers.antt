use Rattle.std.proofs.Common.{◌≡◌, sym, ap, ◌∙◌, subst}
use Rattle.std.specs.Str.{IsUtf8}
use Rattle.hog_ops.specs.Valid.{IsCode}
use Rattle.vm_state.specs.Laws.{IsMachineOf}
use Rattle.cyclotron_jobs.specs.Leases.{LeaseOf}
use Rattle.hog_jobs.specs.Course.{replies_of}
use Rattle.hog_worker.proofs.Leased.{saved_of, loaded_of, not_refused}
use Rattle.hog_worker.proofs.worker.loaded.Goals as goal

pub unreachable-requires : goal.unreachable-requires
unreachable-requires c =
    let lease = c.args.lease.now in
    let code = c.args.program.now.code in
    let is = saved_of c.one_whole.ensures _ lease code c.lease.view_is c.lease.invariant.0 c.lease.invariant.1 c.requires.on_hog c.requires.source c.requires.committed in
    let bytes : c.items.result.now ≡ lease.saved = c.items.ensures ∙ ap (λ (l : LeaseOf). l.saved) c.lease.view_is in
    let back = c.in-Err.ensures.back is.run (subst (λ x. IsMachineOf x is.run) (sym c.code-code.ensures.value) is.machine) (subst IsUtf8 (sym bytes) is.utf8) (bytes ∙ is.text) in
    not_refused c.in-Err.stop is.run back c.in_default.not-OutOfMemory

pub returns-in-Ok-clause-loaded : goal.returns-in-Ok-clause-loaded
returns-in-Ok-clause-loaded c =
    let lease = c.args.lease.now in
    let code = c.args.program.now.code in
    let is = saved_of c.one_whole.ensures _ lease code c.lease.view_is c.lease.invariant.0 c.lease.invariant.1 c.requires.on_hog c.requires.source c.requires.committed in
    let bytes : c.items.result.now ≡ lease.saved = c.items.ensures ∙ ap (λ (l : LeaseOf). l.saved) c.lease.view_is in
    let back = c.in-Ok.ensures.back is.run (subst (λ x. IsMachineOf x is.run) (sym c.code-code.ensures.value) is.machine) (subst IsUtf8 (sym bytes) is.utf8) (bytes ∙ is.text) in
    let is_code : IsCode code = subst IsCode c.code-code.ensures.value c.ops-ops.ensures.code in
    loaded_of c.hog_goes_on.ensures c.few_operations.ensures lease.input.source code lease.input.globals (replies_of lease.replies) lease.ops lease.saved lease.shown c.requires.source is_code is c.in-Ok.machine.run back
