-- What a command's status says of its streams.
use Rattle.std.proofs.Common.{◌≡◌, ◌⊎◌, inl, inr, ℕ, ◌≤◌, List, Option, Some, refl, arith}
use Rattle.std.specs.Prelude.{Result, Ok, Err, OnOk}
use Rattle.std.specs.Option.{ForSome}
use Rattle.hog_outside.specs.Faults.{Rose}
use Rattle.line_writer.specs.Added.{AddsBytes, AddsPrefix, AddsSome, AddsSomePrefix, AddsUnless}
use Rattle.line_writer.specs.declared.output.OutputStop.{OutputStop}
use Rattle.line_writer.specs.declared.output.OutputStop.TheVariants.{Failed, OutOfMemory}
use Rattle.hog_runner.specs.Serves.{Puts, Whole, WriteFailed, NoMemory, PutsRefusal, Told, Untold, AtStatus, Taken, Refused, Unread, NoRoom}
use Rattle.hog_runner.specs.Stops.{status_of}
use Rattle.hog_runner.specs.Writes.{refusal}

-- an output that was to be written, by how far it was
pub puts_written : {W : Type 0} {taken : W → Option (List ℕ)} {writes : W → ℕ} (output : List ℕ → Type 0) (old new : W) (out : List ℕ) (r : Result (Unit {0}) OutputStop)
    → output out → OnOk r (AddsBytes (taken old) (taken new) out) → AddsPrefix (taken old) (taken new) out → (r ≡ Err Failed → Rose (writes old) (writes new))
    → Puts taken writes output output old new (status_of r)
puts_written output old new out (Ok done) is whole prefix failed = Whole refl (out, is, whole)
puts_written output old new out (Err Failed) is whole prefix failed = WriteFailed refl (failed refl) (out, is, prefix)
puts_written output old new out (Err OutOfMemory) is whole prefix failed = NoMemory refl (inr (out, is, prefix))

-- a refusal has another status than 0
pub not_done : {W : Type 0} {taken : W → Option (List ℕ)} {writes : W → ℕ} {cause : List ℕ} {old new : W} {status : ℕ} → PutsRefusal taken writes cause old new status → status ≡ 0 → ⊥
not_done (Told one line) zero = absurd (omega (arith, one, zero))
not_done (Untold five same) zero = absurd (omega (arith, five, zero))

-- the same output, by what else holds of it
pub puts_so : {W : Type 0} {taken : W → Option (List ℕ)} {writes : W → ℕ} {output part : List ℕ → Type 0} {old new : W} {status : ℕ}
    (output' part' : List ℕ → Type 0) → ((out : List ℕ) → output out → output' out) → ((out : List ℕ) → part out → part' out)
    → Puts taken writes output part old new status → Puts taken writes output' part' old new status
puts_so output' part' f p (Whole zero added) = Whole zero (added.0, f added.0 added.1, added.2)
puts_so output' part' f p (WriteFailed four rose added) = WriteFailed four rose (added.0, p added.0 added.1, added.2)
puts_so output' part' f p (NoMemory five (inl same)) = NoMemory five (inl same)
puts_so output' part' f p (NoMemory five (inr added)) = NoMemory five (inr (added.0, p added.0 added.1, added.2))

module _ {S W : Type 0} {left : S → Option (List ℕ)} {reads : S → ℕ} {taken : W → Option (List ℕ)} {writes : W → ℕ}
    {refuses output part : List ℕ → List ℕ → Type 0} {source after : S} {sink new : W} {status : ℕ} where
  -- what comes where the keeper didn't fail
  pub served : (status ≡ 6) ⊎ AtStatus left reads taken writes refuses output part source after sink new status → (status ≡ 6 → ⊥)
      → AtStatus left reads taken writes refuses output part source after sink new status
  served (inl six) not_six = absurd (not_six six)
  served (inr at) not_six = at

  -- which statuses there are
  pub at_all : AtStatus left reads taken writes refuses output part source after sink new status → (status ≤ 5) × (status ≡ 2 → ⊥)
  at_all (Taken (Whole s added)) = (omega (arith, s), λ t. omega (arith, s, t))
  at_all (Taken (WriteFailed s rose added)) = (omega (arith, s), λ t. omega (arith, s, t))
  at_all (Taken (NoMemory s added)) = (omega (arith, s), λ t. omega (arith, s, t))
  at_all (Refused cause why (Told s line)) = (omega (arith, s), λ t. omega (arith, s, t))
  at_all (Refused cause why (Untold s same)) = (omega (arith, s), λ t. omega (arith, s, t))
  at_all (Unread s rose same) = (omega (arith, s), λ t. omega (arith, s, t))
  at_all (NoRoom s same) = (omega (arith, s), λ t. omega (arith, s, t))

  pub at_zero : AtStatus left reads taken writes refuses output part source after sink new status → status ≡ 0 → AddsSome (taken sink) (taken new) (λ out. ForSome (left source) (λ text. output text out))
  at_zero (Taken (Whole s added)) t = added
  at_zero (Taken (WriteFailed s rose added)) t = absurd (omega (arith, s, t))
  at_zero (Taken (NoMemory s added)) t = absurd (omega (arith, s, t))
  at_zero (Refused cause why (Told s line)) t = absurd (omega (arith, s, t))
  at_zero (Refused cause why (Untold s same)) t = absurd (omega (arith, s, t))
  at_zero (Unread s rose same) t = absurd (omega (arith, s, t))
  at_zero (NoRoom s same) t = absurd (omega (arith, s, t))

  pub at_one : AtStatus left reads taken writes refuses output part source after sink new status → status ≡ 1 → (cause : List ℕ) × ForSome (left source) (λ text. refuses text cause)
      × AddsUnless (Rose (writes sink) (writes new)) (taken sink) (taken new) (refusal cause)
  at_one (Taken (Whole s added)) t = absurd (omega (arith, s, t))
  at_one (Taken (WriteFailed s rose added)) t = absurd (omega (arith, s, t))
  at_one (Taken (NoMemory s added)) t = absurd (omega (arith, s, t))
  at_one (Refused cause why (Told s line)) t = (cause, why, line)
  at_one (Refused cause why (Untold s same)) t = absurd (omega (arith, s, t))
  at_one (Unread s rose same) t = absurd (omega (arith, s, t))
  at_one (NoRoom s same) t = absurd (omega (arith, s, t))

  pub at_three : AtStatus left reads taken writes refuses output part source after sink new status → status ≡ 3 → Rose (reads source) (reads after) × (new ≡ sink)
  at_three (Taken (Whole s added)) t = absurd (omega (arith, s, t))
  at_three (Taken (WriteFailed s rose added)) t = absurd (omega (arith, s, t))
  at_three (Taken (NoMemory s added)) t = absurd (omega (arith, s, t))
  at_three (Refused cause why (Told s line)) t = absurd (omega (arith, s, t))
  at_three (Refused cause why (Untold s same)) t = absurd (omega (arith, s, t))
  at_three (Unread s rose same) t = (rose, same)
  at_three (NoRoom s same) t = absurd (omega (arith, s, t))

  pub at_four : AtStatus left reads taken writes refuses output part source after sink new status → status ≡ 4 → Rose (writes sink) (writes new)
      × AddsSomePrefix (taken sink) (taken new) (λ out. ForSome (left source) (λ text. part text out))
  at_four (Taken (Whole s added)) t = absurd (omega (arith, s, t))
  at_four (Taken (WriteFailed s rose added)) t = (rose, added)
  at_four (Taken (NoMemory s added)) t = absurd (omega (arith, s, t))
  at_four (Refused cause why (Told s line)) t = absurd (omega (arith, s, t))
  at_four (Refused cause why (Untold s same)) t = absurd (omega (arith, s, t))
  at_four (Unread s rose same) t = absurd (omega (arith, s, t))
  at_four (NoRoom s same) t = absurd (omega (arith, s, t))

  pub at_five : AtStatus left reads taken writes refuses output part source after sink new status → status ≡ 5 → (new ≡ sink) ⊎ AddsSomePrefix (taken sink) (taken new) (λ out. ForSome (left source) (λ text. part text out))
  at_five (Taken (Whole s added)) t = absurd (omega (arith, s, t))
  at_five (Taken (WriteFailed s rose added)) t = absurd (omega (arith, s, t))
  at_five (Taken (NoMemory s added)) t = added
  at_five (Refused cause why (Told s line)) t = absurd (omega (arith, s, t))
  at_five (Refused cause why (Untold s same)) t = inl same
  at_five (Unread s rose same) t = absurd (omega (arith, s, t))
  at_five (NoRoom s same) t = inl same

  -- where the input has a cause to be refused, and then no output and no part of one
  pub at_refused : AtStatus left reads taken writes refuses output part source after sink new status → (Rose (reads source) (reads after) → ⊥) → (text : List ℕ) → left source ≡ Some text
      → ((out : List ℕ) → output text out → ⊥) → ((out : List ℕ) → part text out → ⊥) → (status ≡ 1) ⊎ (status ≡ 5)
  at_refused (Taken (Whole s added)) calm text told none no_part = absurd (none added.0 (added.1 text told))
  at_refused (Taken (WriteFailed s rose added)) calm text told none no_part = absurd (no_part added.0 (added.1 text told))
  at_refused (Taken (NoMemory s added)) calm text told none no_part = inr s
  at_refused (Refused cause why (Told s line)) calm text told none no_part = inl s
  at_refused (Refused cause why (Untold s same)) calm text told none no_part = inr s
  at_refused (Unread s rose same) calm text told none no_part = absurd (calm rose)
  at_refused (NoRoom s same) calm text told none no_part = inr s

  -- where the input has no cause to be refused
  pub at_complete : AtStatus left reads taken writes refuses output part source after sink new status → (Rose (reads source) (reads after) → ⊥) → (Rose (writes sink) (writes new) → ⊥) → (text : List ℕ) → left source ≡ Some text
      → ((cause : List ℕ) → refuses text cause → ⊥) → (status ≡ 0) ⊎ (status ≡ 5)
  at_complete (Taken (Whole s added)) calm still text told none = inl s
  at_complete (Taken (WriteFailed s rose added)) calm still text told none = absurd (still rose)
  at_complete (Taken (NoMemory s added)) calm still text told none = inr s
  at_complete (Refused cause why (Told s line)) calm still text told none = absurd (none cause (why text told))
  at_complete (Refused cause why (Untold s same)) calm still text told none = inr s
  at_complete (Unread s rose same) calm still text told none = absurd (calm rose)
  at_complete (NoRoom s same) calm still text told none = inr s
