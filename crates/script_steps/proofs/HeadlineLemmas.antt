-- What a flush does, from what its step says.
use Rattle.std.proofs.Common.{◌≡◌, ◌⊎◌, inl, inr, ℕ, [], ◌∷◌, ◌++◌, Option, Some, refl, sym, ap, ◌∙◌, subst, arith, ⊎_elim}
use Rattle.std.specs.Prelude.{slice_get, slice_set}
use Rattle.std.proofs.lemmas.List.{set-get_or}
use Rattle.std.proofs.lemmas.Option.{get_or_from_slice_get}
use Rattle.lock_ids.specs.declared.lock.LockId.{LockId}
use Rattle.cyclotron_jobs.specs.declared.refused.LeaseStop.{LeaseStop}
use Rattle.cyclotron_jobs.specs.declared.refused.LeaseStop.TheVariants as stop
use Rattle.cyclotron_core.specs.Refusals.{IsOwner}
use Rattle.script_steps.specs.declared.said.Held.{Held}
use Rattle.script_steps.specs.declared.said.Product.{Product}
use Rattle.script_steps.specs.declared.said.Said.{Said}
use Rattle.script_steps.specs.declared.said.Said.TheVariants.{Idle, Fine, Refused}
use Rattle.script_steps.specs.Play.{Scene, Stage, Stays, IsRefused, ProductBegan, Flushes, at_hand, entry_of}
use Rattle.script_steps.specs.Headline.{DeadFlushChangesNothing, LiveFlushIsDone}
use Rattle.script_steps.proofs.Snoc.{same_stage}

same_held : (hand : Option Held) (a b : Held) → hand ≡ Some a → hand ≡ Some b → a ≡ b
same_held hand a b p q = cc

same_hand : (hand : Option (Option Held)) (a b : Option Held) → hand ≡ Some a → hand ≡ Some b → a ≡ b
same_hand hand a b p q = cc

same_product : (o : Option Product) (a b : Product) → o ≡ Some a → o ≡ Some b → a ≡ b
same_product o a b p q = cc

-- a flush under a lock that is not live leaves its worker's place as it was
dead_place : (old new : Scene) (said : Said) (held : Held) → old.hand ≡ Some held → ¬ (IsOwner old.history held.lock) → Flushes old said new → Stays old new
dead_place old new Idle held is dead act = act.1
dead_place old new Fine held is dead act =
    let same = same_held old.hand act.holds.held held act.holds.is is in
    absurd (dead (subst (λ (h : Held). IsOwner old.history h.lock) same act.owner))
dead_place old new (Refused why) held is dead act = act.stays
dead_place old new said held is dead act = absurd act

-- under the live lock nothing but the keeper's fault is left to refuse what began at the committed state
refused_live : (old : Scene) (lock : LockId) (began : Type 0) (why : LeaseStop) → IsRefused old.history lock began why → IsOwner old.history lock → began → why ≡ stop.Keeper
refused_live old lock began stop.UnknownJob is owner here = let late = is.cause in absurd (omega (arith, late, owner.there))
refused_live old lock began (stop.WrongLock live) is owner here = absurd (is.cause.other (sym is.cause.owner ∙ owner.owner))
refused_live old lock began stop.NotThisRun is owner here = absurd (is.cause.1 here)
refused_live old lock began stop.OutOfMemory is owner here = absurd (is.said refl)
refused_live old lock began stop.Keeper is owner here = refl

live_place : (old new : Scene) (said : Said) (held : Held) (product : Product) → old.hand ≡ Some held → held.product ≡ Some product
    → IsOwner old.history held.lock → ProductBegan old.rows held.lock.job product → Flushes old said new
    → ((said ≡ Fine) × (new.history ≡ old.history ++ entry_of held.lock product ∷ [])) ⊎ ((said ≡ Refused stop.Keeper) × Stays old new)
live_place old new Idle held product is has owner began act = absurd (act.0 (record { held = held; is = is; product = product; made = has }))
live_place old new Fine held product is has owner began act =
    let same = same_held old.hand act.holds.held held act.holds.is is in
    let kind = same_product held.product act.holds.product product (subst (λ (h : Held). h.product ≡ Some act.holds.product) same act.holds.made) has in
    let written : new.history ≡ old.history ++ entry_of held.lock act.holds.product ∷ [] =
    subst (λ (h : Held). new.history ≡ old.history ++ entry_of h.lock act.holds.product ∷ []) same act.step.history in
    inl (refl, subst (λ (p : Product). new.history ≡ old.history ++ entry_of held.lock p ∷ []) kind written)
live_place old new (Refused why) held product is has owner began act =
    let same = same_held old.hand act.holds.held held act.holds.is is in
    let kind = same_product held.product act.holds.product product (subst (λ (h : Held). h.product ≡ Some act.holds.product) same act.holds.made) has in
    let under : IsRefused old.history held.lock (ProductBegan old.rows held.lock.job act.holds.product) why =
    subst (λ (h : Held). IsRefused old.history h.lock (ProductBegan old.rows h.lock.job act.holds.product) why) same act.refused in
    let refused = subst (λ (p : Product). IsRefused old.history held.lock (ProductBegan old.rows held.lock.job p) why) kind under in
    inr (ap Refused (refused_live old held.lock (ProductBegan old.rows held.lock.job product) why refused owner began), act.stays)
live_place old new said held product is has owner began act = absurd act

-- ---- all workers

-- a worker's place stays, and so does the stage
stays_whole : (worker : ℕ) (old new : Stage) (hand left : Option Held) → slice_get old.hands worker ≡ Some hand → new.hands ≡ slice_set old.hands worker left
    → Stays (at_hand old hand) (at_hand new left) → new ≡ old
stays_whole worker old new hand left there hands stays =
    same_stage new old stays.rows stays.history
    (hands ∙ ap (slice_set old.hands worker) (stays.hand ∙ sym (get_or_from_slice_get old.hands worker hand hand there)) ∙ set-get_or old.hands worker hand)

pub dead_flush : DeadFlushChangesNothing
dead_flush worker old new said held act there dead =
    let hand : act.hand ≡ Some held = same_hand (slice_get old.hands worker) act.hand (Some held) act.there there in
    stays_whole worker old new act.hand act.left act.there act.hands
    (dead_place (at_hand old act.hand) (at_hand new act.left) said held hand dead act.act)

pub live_flush : LiveFlushIsDone
live_flush worker old new said held product act there has owner began =
    let hand : act.hand ≡ Some held = same_hand (slice_get old.hands worker) act.hand (Some held) act.there there in
    ⊎_elim (λ done. inl done)
    (λ fault. inr (fault.0, stays_whole worker old new act.hand act.left act.there act.hands fault.1))
    (live_place (at_hand old act.hand) (at_hand new act.left) said held product hand has owner began act.act)
