use Rattle.std.proofs.Common.{refl}
use Rattle.event_reader.proofs.Gathers.{job_kept}
use Rattle.event_reader.proofs.gather.Gathered.with_job.Goals as goal

pub returns : goal.returns
returns c = λ xs ys has.
    job_kept xs ys c.args.job c.args.self
    (record { jobs = c.push.new.self; broken = c.args.self.broken; places = c.places_behind-self.result; room = c.room_behind-self.result })
    c.requires has c.places_behind-self.ensures c.room_behind-self.ensures c.in_ok-push.ensures.items refl
