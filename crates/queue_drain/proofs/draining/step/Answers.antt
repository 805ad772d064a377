use Rattle.queue_drain.proofs.DrainLemmas.{HasWorked-none, HasWorked-take, HasWorked-both, HasWorked-step, IsLive-take, IsStep-of}
use Rattle.queue_drain.proofs.draining.step.Goals as goal

pub returns-in_err-lease-clause-worked : goal.returns-in_err-lease-clause-worked
returns-in_err-lease-clause-worked g c = let same = c.in_err-lease.ensures.err in HasWorked-none same.rows same.history

pub returns-in_default-clause-worked : goal.returns-in_default-clause-worked
returns-in_default-clause-worked g c = let same = rw c.in_default.is at c.in_ok-lease.ensures.idle in HasWorked-none same.rows same.history

pub go_on-requires : goal.go_on-requires
go_on-requires g c = let taken = rw c.in-Some.is at c.in_ok-lease.ensures.some in IsLive-take taken.take

pub returns-in_err-go_on-clause-worked : goal.returns-in_err-go_on-clause-worked
returns-in_err-go_on-clause-worked g c =
    let taken = rw c.in-Some.is at c.in_ok-lease.ensures.some in
    let same = c.in_err-go_on.ensures.err in
    HasWorked-both (HasWorked-take taken.take) (HasWorked-none same.rows same.history)

pub returns-clause-some : goal.returns-clause-some
returns-clause-some g c =
    let taken = rw c.in-Some.is at c.in_ok-lease.ensures.some in
    IsStep-of c.history.ensures.kept taken.take c.in_ok-go_on.ensures.ok

pub returns-clause-worked : goal.returns-clause-worked
returns-clause-worked g c =
    let taken = rw c.in-Some.is at c.in_ok-lease.ensures.some in
    HasWorked-step taken.take c.in_ok-go_on.ensures.ok
