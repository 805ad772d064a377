use Rattle.std.proofs.Common.{◌≡◌, ◌<◌, ◌≤◌, length, refl, sym, ap, arith}
use Rattle.std.specs.Prelude.{drop}
use Rattle.std.proofs.lemmas.List.{length-map}
use Rattle.cyclotron_jobs.specs.declared.row.After.TheVariants.{Hog, Fetch}
use Rattle.hog_jobs.specs.Course.{reply_of, replies_of}
use Rattle.hog_worker.proofs.Nexts.{none_drop, some_drop, comes_on, comes_fetch}
use Rattle.hog_worker.proofs.worker.next_after.Goals as goal

pub returns-then-used-items : goal.returns-then-used-items
returns-then-used-items c =
    let run = c.args.machine.now.run in
    let left = drop run.used (replies_of c.args.replies.now) in
    let same : length c.items.result.now ≡ length c.args.replies.now = ap length c.items.ensures in
    let many = length-map c.args.replies.now reply_of in
    let below : run.used < length (replies_of c.args.replies.now) = omega (arith, same, many) in
    comes_on run.state.mode left run.state.trace Hog (λ ended. let is = c.has_ended.ensures.1 ended in absurd cc) (some_drop (replies_of c.args.replies.now) run.used below) refl

pub returns-in_ok-copy-in-Some : goal.returns-in_ok-copy-in-Some
returns-in_ok-copy-in-Some c =
    let run = c.args.machine.now.run in
    let left = drop run.used (replies_of c.args.replies.now) in
    let same : length c.items.result.now ≡ length c.args.replies.now = ap length c.items.ensures in
    let many = length-map c.args.replies.now reply_of in
    let past : length (replies_of c.args.replies.now) ≤ run.used = omega (arith, same, many) in
    comes_fetch run.state.mode left run.state.trace c.in-Some.request.now (Fetch c.in_ok-copy-in-Some.field-0) (none_drop (replies_of c.args.replies.now) run.used past)
    (sym c.in-Some.ensures.request) (ap Fetch c.in_ok-copy-in-Some.ensures)
