use Rattle.std.proofs.Common.{◌≡◌, ◌<◌, List, length, set, refl, ap, sym, ◌∙◌, subst, arith, add-zero, Some, slice_get, is_some, option_map}
use Rattle.std.proofs.lemmas.Option.{slice_get_read, slice_get-map}
use Rattle.cyclotron_jobs.specs.declared.input.Reply.{Reply}
use Rattle.cyclotron_jobs.specs.declared.row.Row.{Row}
use Rattle.cyclotron_jobs.specs.declared.row.JobState.TheVariants.{Available, Running}
use Rattle.cyclotron_jobs.specs.Leases.{AnsweredOf}
use Rattle.queue_history.specs.Facts.{facts_of}
use Rattle.queue_history.specs.Rows.{inputs_of}
use Rattle.queue_history.proofs.Steps.{IsStep-reply}
use Rattle.cyclotron_core.specs.Queue.{QueueOf}
use Rattle.cyclotron_core.specs.Listing.{IsListing}
use Rattle.cyclotron_core.specs.Changes.{IsGrown}
use Rattle.cyclotron_core.specs.Refusals.{IsOwner, AnswerBegan, Refuses}
use Rattle.cyclotron_core.proofs.Found.{IsLiveRow-from, BeganAt-inside, IsListingBefore-live}
use Rattle.cyclotron_core.proofs.Rooms.{IsQueue-step_room, IsQueue-refused_room}
use Rattle.cyclotron_core.proofs.Sound.{set-undone}
use Rattle.cyclotron_core.proofs.Flushed.{passed_on, Flushes-unready, Flushes-unkept, Flushes-kept}
use Rattle.cyclotron_core.proofs.queue.QueueState.flush_reply.Goals as goal

pub returns-in-Err : goal.returns-in-Err
returns-in-Err g c =
    let old = c.args.self.now in
    Flushes-unready (record { stop = c.in-Err.stop; back = c.args.answered }) c.in-Err.ensures.grown
    (subst (λ (answered : AnsweredOf). Refuses old.history c.args.lock (AnswerBegan old.rows c.args.lock.job answered) ⊥ c.in-Err.stop) c.answered.view_is c.in-Err.ensures.refused)
    c.in-Err.ensures.full refl

pub put_reply-requires : goal.put_reply-requires
put_reply-requires g c =
    let old = c.index_mut-row.result.now in
    let live = IsLiveRow-from c.self.view_is c.in-Ok.ensures.found c.in-Ok.ensures.owner old c.index_mut-row.ensures.value in
    let room = c.index_mut-room.result.now in
    let rooms = c.self.inside.rooms.items in
    let within : c.in-Ok.at < length rooms = omega (arith, live.within, c.self.invariant.roomy.count) in
    let here : slice_get rooms c.in-Ok.at ≡ Some room = slice_get_read rooms (length rooms) c.in-Ok.at room refl within c.index_mut-room.ensures.value in
    c.self.invariant.roomy.each c.in-Ok.at old room live.read here (c.self.invariant.sound.kept.locked c.in-Ok.at old live.read (ap is_some live.locked))

pub invariant_of-self : goal.invariant_of-self
invariant_of-self g c =
    IsQueue-refused_room c.self.invariant c.in-Ok.at c.index_mut-row.ensures.value c.in_err-reply.ensures.err (c.in_err-reply.ensures.put.err refl) c.in_err-reply.ensures.room

pub returns-in_err-reply : goal.returns-in_err-reply
returns-in_err-reply g c =
    let old = c.args.self.now in
    let grown = subst (λ (q : QueueOf _). IsGrown old q) (sym c.self.view_is) c.in-Ok.ensures.grown in
    let owner = subst (λ (q : QueueOf _). IsOwner q.history c.args.lock) (sym c.self.view_is) c.in-Ok.ensures.owner in
    let began = subst (λ (answered : AnsweredOf). AnswerBegan c.begin_flush.new.self.rows c.args.lock.job answered) c.answered.view_is c.in-Ok.ensures.began in
    let refused = c.in_err-reply.field-0.0 in
    rw (passed_on c.from_residual.result refused c.from_residual.ensures.1) (Flushes-unkept grown owner
    (subst (λ (rows : List Row). AnswerBegan rows c.args.lock.job c.args.answered) c.in-Ok.ensures.grown.rows began)
    c.in_err-reply.ensures.put.count refused c.in_err-reply.ensures.refused c.in_err-reply.ensures.back
    record {
      rows = set-undone c.self.inside.rows.items c.in-Ok.at c.index_mut-row.ensures.value c.in_err-reply.ensures.err;
      history = refl;
      told = c.in_err-reply.ensures.put.err refl;
      spare = omega arith;
    }
    c.in_err-reply.ensures.put.always)

pub push_reserved-requires : goal.push_reserved-requires
push_reserved-requires g c = omega (arith, c.in-Ok.ensures.room, ap (λ (q : QueueOf _). q.spare) c.self.view_is)

pub move_job-requires : goal.move_job-requires
move_job-requires g c =
    let live = IsLiveRow-from c.self.view_is c.in-Ok.ensures.found c.in-Ok.ensures.owner c.index_mut-row.result.now c.index_mut-row.ensures.value in
    IsListingBefore-live _ c.self.invariant.sound.kept c.self.invariant.listed live c.as_slice.ensures.value

pub invariant_of-self-2 : goal.invariant_of-self-2
invariant_of-self-2 g c =
    let rows = c.self.inside.rows.items in
    let job = c.args.lock.job in
    let old = c.index_mut-row.result.now in
    let reply = c.args.answered.reply in
    let kept = c.self.invariant.sound.kept in
    let live = IsLiveRow-from c.self.view_is c.in-Ok.ensures.found c.in-Ok.ensures.owner old c.index_mut-row.ensures.value in
    let began = BeganAt-inside c.self.view_is job c.in-Ok.ensures.began live.there in
    let fits : g.C.Course.reply_ok old.input (length old.replies) reply = rw (← c.answered.view_is, ← began.0, ← began.1) c.answered.invariant.1 in
    let input : slice_get (inputs_of rows) job ≡ Some old.input = slice_get-map (λ (r : Row). r.input) rows job ∙ ap (option_map (λ (r : Row). r.input)) live.there in
    let may : g.C.Course.reply_ok old.input (length (facts_of job c.self.inside.history.items).replies) reply = subst (λ (rs : List Reply). g.C.Course.reply_ok old.input (length rs) reply) (kept.each job old live.there).replies fits in
    rw (c.push_reserved.ensures.items, c.in_ok-reply.ensures.ok, c.in_ok-reply.ensures.twin)
    (IsQueue-step_room c.self.invariant live.read (live.owner, (old.input, input, may))
    (IsStep-reply kept c.in-Ok.at live.read job (sym live.place) c.args.lock live.locked reply fits (λ a course unfinished fits. g.C.Course.goes_on old.input old.replies old.ops old.saved old.shown a reply course unfinished fits))
    (sym (add-zero _)) (c.in_ok-reply.ensures.put.ok refl) (λ (e : Available ≡ Running). absurd cc)
    (subst (λ (rows : List Row). IsListing rows c.move_job.new.lists) (c.as_slice.ensures.value ∙ ap (λ (r : Row). set rows c.in-Ok.at r) c.in_ok-reply.ensures.ok) c.move_job.ensures))

pub returns : goal.returns
returns g c =
    let old = c.index_mut-row.result.now in
    let live = IsLiveRow-from c.self.view_is c.in-Ok.ensures.found c.in-Ok.ensures.owner old c.index_mut-row.ensures.value in
    let began = subst (λ (answered : AnsweredOf). AnswerBegan c.begin_flush.new.self.rows c.args.lock.job answered) c.answered.view_is c.in-Ok.ensures.began in
    let grown = subst (λ (q : QueueOf _). IsGrown c.args.self.now q) (sym c.self.view_is) c.in-Ok.ensures.grown in
    let owner = subst (λ (q : QueueOf _). IsOwner q.history c.args.lock) (sym c.self.view_is) c.in-Ok.ensures.owner in
    Flushes-kept grown owner
    (subst (λ (rows : List Row). AnswerBegan rows c.args.lock.job c.args.answered) c.in-Ok.ensures.grown.rows began)
    c.in_ok-reply.ensures.put.count
    record {
      before = old;
      there = live.there;
      rows = rw (c.in_ok-reply.ensures.ok, ← live.place) refl;
      history = rw (c.push_reserved.ensures.items, c.in_ok-reply.ensures.twin) refl;
      told = c.in_ok-reply.ensures.put.ok refl;
      spare = omega (arith, c.push_reserved.ensures.len, c.push_reserved.ensures.capacity);
    }
