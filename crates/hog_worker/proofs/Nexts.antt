-- What comes next.
use Rattle.std.proofs.Common.{◌≡◌, ◌≢◌, ℕ, zero, suc, ◌<◌, ◌≤◌, List, [], ◌∷◌, ◌++◌, length, Some, None, refl, ap, arith}
use Rattle.std.specs.Prelude.{drop, option_and_then}
use Rattle.std.specs.List.{last_or}
use Rattle.hog_value.specs.declared.trace.Request.{Request}
use Rattle.hog_value.specs.declared.trace.TraceItem.{TraceItem}
use Rattle.hog_value.specs.declared.trace.TraceItem.TheVariants.{Asked, Printed}
use Rattle.hog_meaning.specs.World.{Reply}
use Rattle.vm_course.specs.State.{Running, Waiting, Ended, Mode}
use Rattle.vm_operations.specs.Machine.{request_of, asked_in, HasEnded}
use Rattle.cyclotron_jobs.specs.declared.row.After.{After}
use Rattle.cyclotron_jobs.specs.declared.row.After.TheVariants.{Hog, Fetch, Finished}
use Rattle.hog_jobs.specs.Course.{ComesNext}

-- the last item of a trace is a request
pub record EndsWith (trace : List TraceItem) (request : Request) : Type 0 where
  pub before : List TraceItem
  pub is : trace ≡ before ++ Asked request ∷ []

pub ends_with : (trace : List TraceItem) (request : Request) → option_and_then request_of (last_or None trace) ≡ Some request → EndsWith trace request
ends_with [] request e = absurd cc
ends_with (Printed text ∷ []) request e = absurd cc
ends_with (Asked asked ∷ []) request e = let same : asked ≡ request = cc in record { before = []; is = ap (λ r. Asked r ∷ []) same }
ends_with (x ∷ y ∷ ys) request e =
    let rest = ends_with (y ∷ ys) request e in
    record { before = x ∷ rest.before; is = ap (λ items. x ∷ items) rest.is }

pub none_drop : {X : Type 0} (xs : List X) (n : ℕ) → length xs ≤ n → drop n xs ≡ []
none_drop [] zero le = refl
none_drop [] (suc n) le = refl
none_drop (x ∷ xs) zero le = absurd (omega (arith, le))
none_drop (x ∷ xs) (suc n) le = none_drop xs n (omega (arith, le))

pub some_drop : {X : Type 0} (xs : List X) (n : ℕ) → n < length xs → drop n xs ≡ [] → ⊥
some_drop [] n lt e = absurd (omega (arith, lt))
some_drop (x ∷ xs) zero lt e = absurd cc
some_drop (x ∷ xs) (suc n) lt e = some_drop xs n (omega (arith, lt)) e

pub comes_finished : (m : Mode) (left : List Reply) (trace : List TraceItem) (next : After) → HasEnded m → next ≡ Finished → ComesNext m left trace next
comes_finished Running left trace next ended is = absurd ended
comes_finished Waiting left trace next ended is = absurd ended
comes_finished (Ended e) left trace next ended is = is

-- one with a reply to come goes on, where it hasn't ended
pub comes_on : (m : Mode) (left : List Reply) (trace : List TraceItem) (next : After) → (HasEnded m → ⊥) → left ≢ [] → next ≡ Hog → ComesNext m left trace next
comes_on Running left trace next unended some is = is
comes_on Waiting [] trace next unended some is = absurd (some refl)
comes_on Waiting (x ∷ xs) trace next unended some is = is
comes_on (Ended e) left trace next unended some is = absurd (unended tt)

-- so does one that doesn't wait
pub comes_running : (m : Mode) (left : List Reply) (trace : List TraceItem) (next : After) → (HasEnded m → ⊥) → m ≢ Waiting → next ≡ Hog → ComesNext m left trace next
comes_running Running left trace next unended runs is = is
comes_running Waiting left trace next unended runs is = absurd (runs refl)
comes_running (Ended e) left trace next unended runs is = absurd (unended tt)

-- one that waits with no reply to come asks for what it showed last
pub comes_fetch : (m : Mode) (left : List Reply) (trace : List TraceItem) (request : Request) (next : After) → left ≡ [] → asked_in m trace ≡ Some request → next ≡ Fetch request
    → ComesNext m left trace next
comes_fetch Running left trace request next none e is = absurd cc
comes_fetch Waiting [] trace request next none e is = let ends = ends_with trace request e in record { before = ends.before; request = request; last = ends.is; fetches = is }
comes_fetch Waiting (x ∷ xs) trace request next none e is = absurd cc
comes_fetch (Ended end) left trace request next none e is = absurd cc
