-- The globals of a function for an event are those of a job.
use Rattle.std.proofs.Common.{◌≡◌, ◌+◌, ◌≤◌, ℕ, List, length, Some, ap, arith}
use Rattle.std.specs.Prelude.{codes}
use Rattle.serde_json.specs.Data.{Data, member, no_members}
use Rattle.serde_json.specs.Read.{read}
use Rattle.hog_json.specs.Nulled.{globals_data, nulled, nulled_text}
use Rattle.event_plans.specs.Event.{size_of}
use Rattle.hog_jobs.specs.Inputs.{IsGlobals, KeptGlobals, most_globals}

pub are_short : (event inputs : Data) (text : List ℕ) (m n : ℕ) → text ≡ nulled_text (globals_data event inputs)
    → size_of (globals_data event inputs) ≡ size_of event + size_of inputs + 20 → m ≡ size_of event → n ≡ size_of inputs → m ≤ 32768 → n ≤ 32768
    → length text ≤ most_globals
are_short event inputs text m n is size left right few more = omega (arith, ap length is, size, left, right, few, more)

pub are_globals : KeptGlobals → (event inputs : Data) (text : List ℕ) → read text ≡ Some (nulled (globals_data event inputs)) → length text ≤ most_globals → IsGlobals text
unfolding globals_data
are_globals kept event inputs text reads short = kept (member (codes "event") event (member (codes "inputs") inputs no_members)) text reads short
