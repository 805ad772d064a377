-- What is known of an operation of a table.
use Rattle.std.proofs.Common.{◌≡◌, ◌≤◌, ℕ, ◌+◌, ◌<◌, ◌^◌, List, length, get_or, Option, Some, None, true, refl, sym, ap, ◌∙◌, subst, arith}
use Rattle.std.specs.Prelude.{slice_get, option_map, option_and_then}
use Rattle.std.proofs.lemmas.Bool.Decides.{nat_tests}
use Rattle.std.proofs.lemmas.List.{length-map}
use Rattle.std.proofs.lemmas.Option.{slice_get-map, slice_get-get_or, slice_get_within}
use Rattle.hog_ops.specs.Plain.{Op, Str}
use Rattle.hog_ops.specs.Table.{Row, Alone, Counts, Leads, Calls, Spells, Gives, Holds, row, size}
use Rattle.hog_meaning.specs.Meaning.{place_in}
use Rattle.vm_course.specs.State.{Slot, Begins}
use Rattle.vm_course.specs.Step.{place_at}
use Rattle.vm_course.specs.Belongs.{stands_at, is_place}
use Rattle.vm_course.specs.Fits.{OpFits, row_leads_to}
use Rattle.hog_ops.specs.declared.operation.Op as q
use Rattle.hog_ops.specs.View.{op_of}
use denote.Ref.{Bor}
use Rattle.vm_frames.specs.declared.slots.Slot as p
use Rattle.vm_frames.specs.declared.slots.Slot.TheVariants as v
use Rattle.vm_frames.specs.Places.{slot_of}
use Rattle.vm_frames.specs.declared.extents.Extent.{Extent}
use Rattle.vm_frames.specs.Reading.{Reading, IsTable, LeadsNear, text_in, number_of, extent_of}

-- a place is not behind the end
place_within : (code : List Slot) (place : ℕ) → is_place code place ≡ true → place ≤ length code
place_within code place h = by (slice_get code place) refl h
  where
    by : (o : Option Slot) → slice_get code place ≡ o → stands_at code place o ≡ true → place ≤ length code
    by None e h = grind (arith, nat_tests)
    by (Some s) e h = omega (arith, slice_get_within code place s e)

leads_near : (code : List Slot) (behind : ℕ) (r : Row) → length code < 2 ^ 32 → row_leads_to code behind r ≡ true → LeadsNear behind r
leads_near code behind (Alone n) few h = tt
leads_near code behind (Counts n least count) few h = tt
leads_near code behind (Leads n d) few h = omega (arith, place_within code (place_at behind d) h)
leads_near code behind (Calls f n) few h = tt
leads_near code behind (Spells t) few h = tt
leads_near code behind (Gives z) few h = tt
leads_near code behind (Holds name params body captures) few h = tt

pub opened : (r s : Reading) (extents : List Extent) → r ≡ s → IsTable r extents → IsTable s extents
opened r s extents e keeps = subst (λ x. IsTable x extents) e keeps

-- what was read at a place
pub read : (slots : List Slot) (place : ℕ) (found : Option p.Slot) (x : p.Slot) (op : Bor q.Op) → option_map slot_of found ≡ slice_get slots place → found ≡ Some x → x ≡ v.Begins op
    → slice_get slots place ≡ Some (Begins (op_of op.now))
read slots place found x op e is begins = sym e ∙ ap (option_map slot_of) is ∙ ap (λ y. Some (slot_of y)) begins

module _ (r : Reading) (extents : List Extent) (keeps : IsTable r extents) (place : ℕ) (op : Op) (begins : slice_get r.slots place ≡ Some (Begins op)) where
  pub op_fits : OpFits r.slots (place + size op) op
  op_fits = keeps.fits place op begins

  pub ends_near : place + size op < 2 ^ 32
  ends_near = omega (arith, keeps.few, place_within r.slots (place + size op) (op_fits).goes_on)

  pub op_leads_near : LeadsNear (place + size op) (row op)
  op_leads_near = leads_near r.slots (place + size op) (row op) keeps.few (op_fits).leads

  pub has_extent : place < length extents
  has_extent = omega (arith, ap length keeps.noted, length-map r.slots (extent_of r.literals), slice_get_within r.slots place (Begins op) begins)

  extent_is : (x : Extent) → x ≡ get_or extents place x → x ≡ extent_of r.literals (Begins op)
  extent_is x is =
      let at : Some (get_or extents place x) ≡ Some (extent_of r.literals (Begins op)) =
      sym (slice_get-get_or extents place x has_extent) ∙ ap (λ es. slice_get es place) keeps.noted
      ∙ slice_get-map (extent_of r.literals) r.slots place ∙ ap (option_map (extent_of r.literals)) begins in
      let same : get_or extents place x ≡ extent_of r.literals (Begins op) = cc in
      is ∙ same

  pub size_is : (x : Extent) → x ≡ get_or extents place x → x.size ≡ size op
  size_is x is = ap (λ y. y.size) (extent_is x is)

  pub literal_is : (x : Extent) → x ≡ get_or extents place x → (t : List ℕ) → op ≡ Str t → x.literal ≡ place_in r.literals t
  literal_is x is t e = ap (λ y. y.literal) (extent_is x is) ∙ ap (λ o. number_of r.literals (text_in (Begins o))) e

  pub literal_known : (x : Extent) → x ≡ get_or extents place x → (t : List ℕ) → op ≡ Str t → x.literal < length r.literals
  literal_known x is t e =
      omega (arith, literal_is x is t e, keeps.known place t (ap (option_and_then text_in) begins ∙ ap (λ o. text_in (Begins o)) e))
