-- What workers give for leases.
use Rattle.std.specs.Prelude.{◌≡◌}
use Rattle.cyclotron_jobs.specs.Leases.{LeaseOf, AdvanceOf, AnsweredOf}

-- the run goes on from the lease
pub record IsRunFrom (lease : LeaseOf) (run : AdvanceOf) : Type 0 where
  pub input : run.input ≡ lease.input
  pub replies : run.replies ≡ lease.replies
  pub from : run.from ≡ lease.ops

-- the reply is one to the lease's request
pub record IsAnswerTo (lease : LeaseOf) (answered : AnsweredOf) : Type 0 where
  pub input : answered.input ≡ lease.input
  pub replies : answered.replies ≡ lease.replies
  pub from : answered.from ≡ lease.ops
