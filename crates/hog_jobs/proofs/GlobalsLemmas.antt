-- Kept texts of objects are globals of jobs.
use Rattle.std.proofs.Common.{◌≡◌, ◌≢◌, ℕ, ◌≤◌, List, length, Option, Some, None, Bool, true, false, refl, ap, ◌∙◌, arith}
use Rattle.std.specs.Prelude.{◌==◌, if◌then◌else◌, unwrap_or}
use Rattle.std.proofs.lemmas.Bool.{eqb-true}
use Rattle.serde_json.specs.Data.{Num, Data, null, boolean, number, string, array, object, Items, no_items, item, Members, no_members, member}
use Rattle.serde_json.specs.Find.{as_object}
use Rattle.serde_json.specs.Read.{read}
use Rattle.hog_json.specs.Reading.{kept_value}
use Rattle.hog_json.specs.Nulled.{is_whole, nulled, nulled_items, nulled_members, count_nulled, count_nulled_items, count_nulled_members}
use Rattle.hogvm.specs.Calls.{is_whole_object}
use Rattle.hog_jobs.specs.Inputs.{most_globals, IsGlobals, KeptGlobals, GlobalsAreObjects, MachinesStart}

-- what was replaced is replaced once

whole_by : (n : Num) (b : Bool) → is_whole n ≡ b → count_nulled (if b then number n else null) ≡ 0
whole_by n true e = ap (λ b. if b then 0 else 1) e
whole_by n false e = refl

mutual
  pub none_left : (d : Data) → count_nulled (nulled d) ≡ 0
  none_left null = refl
  none_left (boolean b) = refl
  none_left (number n) = whole_by n (is_whole n) refl
  none_left (string s) = refl
  none_left (array ds) = no_item_left ds
  none_left (object ms) = no_member_left ms

  no_item_left : (ds : Items) → count_nulled_items (nulled_items ds) ≡ 0
  no_item_left no_items = refl
  no_item_left (item d ds) = let first = none_left d in let rest = no_item_left ds in omega (arith, first, rest)

  no_member_left : (ms : Members) → count_nulled_members (nulled_members ms) ≡ 0
  no_member_left no_members = refl
  no_member_left (member k d ms) = let first = none_left d in let rest = no_member_left ms in omega (arith, first, rest)

pub kept_globals : KeptGlobals
kept_globals members text reads short = record { members = nulled_members members; reads = reads; whole = no_member_left members; short = short }

-- the same of any value that is an object
pub object_globals : (d : Data) (text : List ℕ) → as_object d ≢ None → read text ≡ Some (nulled d) → length text ≤ most_globals → IsGlobals text
object_globals null text there reads short = absurd (there refl)
object_globals (boolean b) text there reads short = absurd (there refl)
object_globals (number n) text there reads short = absurd (there refl)
object_globals (string s) text there reads short = absurd (there refl)
object_globals (array ds) text there reads short = absurd (there refl)
object_globals (object ms) text there reads short = kept_globals ms text reads short

pub globals_objects : GlobalsAreObjects
unfolding kept_value
globals_objects text is = (is.members, ap (λ o. unwrap_or o null) is.reads)

-- on which texts a machine starts

read_globals : (text : List ℕ) (o : Option Data) → read text ≡ o → is_whole_object o ≡ true → length text ≤ most_globals → IsGlobals text
read_globals text None reads is short = absurd cc
read_globals text (Some null) reads is short = absurd cc
read_globals text (Some (boolean b)) reads is short = absurd cc
read_globals text (Some (number n)) reads is short = absurd cc
read_globals text (Some (string s)) reads is short = absurd cc
read_globals text (Some (array ds)) reads is short = absurd cc
read_globals text (Some (object ms)) reads is short = record { members = ms; reads = reads; whole = eqb-true (count_nulled (object ms)) 0 is; short = short }

pub machines_start : MachinesStart
machines_start text = (
  λ is. (ap is_whole_object is.reads ∙ ap (λ n. n == 0) is.whole, is.short),
  λ h. read_globals text (read text) refl h.0 h.1,
)
