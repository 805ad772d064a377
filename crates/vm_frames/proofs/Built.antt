-- A table that was built of a code keeps what tables keep.
use Rattle.std.proofs.Common.{◌≡◌, ℕ, ◌+◌, ◌<◌, ◌^◌, List, length, sym, ap, ◌∙◌, subst, arith, ap₂}
use Rattle.std.specs.Prelude.{slice_get}
use Rattle.std.specs.List.{filter_map}
use Rattle.hog_ops.specs.Plain.{Ops}
use Rattle.hog_ops.specs.Table.{size, span}
use Rattle.hog_ops.specs.Valid.{IsCode}
use Rattle.vm_course.specs.Course.{literals_of_code}
use Rattle.vm_course.specs.Fits.{OpFits}
use Rattle.vm_course.specs.Laws.{CodesFit, CodesCount}
use Rattle.vm_course.specs.State.{Slot, code_slots}
use Rattle.vm_frames.specs.declared.extents.Extent.{Extent}
use Rattle.vm_frames.specs.Reading.{Reading, IsTable, AllKnown, text_in, distinct, extents_of, reading_of}
use Rattle.vm_frames.proofs.Texts.{all_known, code_texts, distinct_length}

abbrev pub reading : List Slot → List (List ℕ) → Reading
reading slots literals = record { slots = slots; literals = literals }

module _ (code : Ops) (slots : List Slot) (literals : List (List ℕ)) (counted : CodesCount) (short : span code < 4294967294) (are : slots ≡ code_slots code)
    (lists : literals ≡ distinct (filter_map text_in slots)) where
  pub few_slots : length slots < 2 ^ 32
  few_slots = omega (arith, ap length are, counted code)

  pub few_literals : length literals < 2 ^ 32
  few_literals = omega (arith, few_slots, ap length lists, distinct_length slots)

  pub known : AllKnown literals slots
  known = subst (λ ls. AllKnown ls slots) (sym lists) (all_known slots)

  pub keeps : (extents : List Extent) → CodesFit → IsCode code → extents ≡ extents_of literals slots → IsTable record { slots = slots; literals = literals } extents
  keeps extents fit valid noted = record {
    few = few_slots;
    fits = λ place op begins. subst (λ s. OpFits s (place + size op) op) (sym are) (fit code place op valid (sym (ap (λ s. slice_get s place) are) ∙ begins));
    noted = noted;
    known = known;
  }

  literals_are : literals ≡ literals_of_code code
  literals_are = lists ∙ ap (λ ss. distinct (filter_map text_in ss)) are ∙ ap distinct (code_texts code)

  pub is_reading : reading slots literals ≡ reading_of code
  is_reading = ap₂ reading are literals_are
