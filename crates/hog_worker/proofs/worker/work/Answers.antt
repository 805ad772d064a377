use Rattle.std.proofs.Common.{◌≡◌, ◌+◌, ◌-◌, sym, ap, subst, arith}
use Rattle.cyclotron_jobs.specs.Leases.{LeaseOf}
use Rattle.vm_course.specs.Run.{RunState, run_for}
use Rattle.hog_jobs.specs.Course.{replies_of, IsRunAt}
use Rattle.hog_worker.specs.Work.{IsSlice}
use Rattle.hog_worker.proofs.Slices.{is_slice, slice_left}
use Rattle.hog_worker.proofs.worker.work.Goals as goal

pub advanced-requires-clause-above : goal.advanced-requires-clause-above
advanced-requires-clause-above c =
    let v = c.args.lease.now in
    let code = c.in_ok-program.program.code in
    let r = c.in_ok-machine.machine.run in
    let up = c.in_ok-machine.ensures.up in
    let from : c.lease.inside.ops ≡ v.ops = ap (λ (v : LeaseOf). v.ops) c.lease.view_is in
    let left = c.args.slice - (c.ops.result - c.lease.inside.ops) in
    let all : r.ops + left ≡ v.ops + c.args.slice = slice_left code v.input.globals (replies_of v.replies) c.args.slice v.ops left r c.requires.some up (omega (arith, from, c.ops.ensures)) in
    let is = is_slice code v.input.globals (replies_of v.replies) c.slices_on_course.ensures c.args.slice v.ops left r c.requires.some up all in
    let ops : c.run_on.new.machine.run.ops ≡ (run_for code left r).ops = ap (λ (x : RunState). x.ops) c.in_ok-run_on.ensures.ran in
    let above = is.above in
    omega (arith, ops, above)

pub advanced-requires-clause-at : goal.advanced-requires-clause-at
advanced-requires-clause-at c =
    let v = c.args.lease.now in
    let code = c.in_ok-program.program.code in
    let r = c.in_ok-machine.machine.run in
    let left = c.args.slice - (c.ops.result - c.lease.inside.ops) in
    subst (λ (x : RunState). IsRunAt code v.input.globals (replies_of v.replies) x.ops x) (sym c.in_ok-run_on.ensures.ran)
    (c.runs_go_on.ensures code v.input.globals (replies_of v.replies) left r c.in_ok-machine.ensures.up.at)

pub returns : goal.returns
returns c =
    let v = c.args.lease.now in
    let code = c.in_ok-program.program.code in
    let r = c.in_ok-machine.machine.run in
    let up = c.in_ok-machine.ensures.up in
    let from : c.lease.inside.ops ≡ v.ops = ap (λ (v : LeaseOf). v.ops) c.lease.view_is in
    let left = c.args.slice - (c.ops.result - c.lease.inside.ops) in
    let all : r.ops + left ≡ v.ops + c.args.slice = slice_left code v.input.globals (replies_of v.replies) c.args.slice v.ops left r c.requires.some up (omega (arith, from, c.ops.ensures)) in
    let is = is_slice code v.input.globals (replies_of v.replies) c.slices_on_course.ensures c.args.slice v.ops left r c.requires.some up all in
    c.advanced.ensures c.args.slice (subst (λ (x : RunState). IsSlice code v.input.globals (replies_of v.replies) c.args.slice v.ops x.ops) (sym c.in_ok-run_on.ensures.ran) is)
