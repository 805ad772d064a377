-- One operation, by what stands where the machine does.
use Rattle.std.proofs.Common.{◌≡◌, ◌+◌, ◌<◌, ◌≤◌, ℕ, List, [], ◌∷◌, length, Option, Some, None, Result, Ok, Err, refl, ap, sym, subst, ◌∙◌}
use Rattle.std.specs.Prelude.{OnOk, slice_get}
use Rattle.hog_value.specs.declared.value.Value.TheVariants.{Null}
use Rattle.hog_tree.specs.declared.tree.BinaryOp.{BinaryOp}
use Rattle.hog_ops.specs.Plain.{Op, Plus, Minus, Multiply, Eq, NotEq, Gt, GtEq, Lt, LtEq, IsIn, NotIn}
use Rattle.hog_ops.specs.Table.{size}
use Rattle.hog_meaning.specs.World.{Fixed}
use Rattle.vm_frames.specs.Reading.{Reading, BeginsNone}
use Rattle.vm_frames.specs.Parts.{innermost, others_of}
use Rattle.vm_course.specs.State.{Slot, Begins, BodyEnds, Operand, Frame, Running, State}
use Rattle.vm_course.specs.Step.{Here, act, binary, give_back, here_at, at_slot, in_frames, step_in, step}
use Rattle.vm_operations.specs.Here.{here_of, Does}
use Rattle.vm_operations.specs.Kinds.{operator_of, DoesIn}

-- what a method did, as the operation of a code
pub done : {A E : Type 0} (r : Result A E) (code : Reading) (globals : ℕ) (op o : Op) (behind : ℕ) (s s1 : State) → o ≡ op → OnOk r (Does op behind s s1) → OnOk r (DoesIn code globals o behind s s1)
done (Ok a) code globals op o behind s s1 e is =
    let fixed : Fixed = record { literals = code.literals; globals = globals } in
    is fixed code.slots ∙ ap (λ x. act fixed code.slots x (here_of behind s) s) (sym e)
done (Err x) code globals op o behind s s1 e is = tt

-- an operator
pub operated : (fixed : Fixed) (code : List Slot) (op : Op) (b : BinaryOp) (here : Here) (s : State) → Some b ≡ operator_of op → binary b here s ≡ act fixed code op here s
unfolding act
operated fixed code Plus b here s e = let is : b ≡ _ = cc in ap (λ x. binary x here s) is
operated fixed code Minus b here s e = let is : b ≡ _ = cc in ap (λ x. binary x here s) is
operated fixed code Multiply b here s e = let is : b ≡ _ = cc in ap (λ x. binary x here s) is
operated fixed code Eq b here s e = let is : b ≡ _ = cc in ap (λ x. binary x here s) is
operated fixed code NotEq b here s e = let is : b ≡ _ = cc in ap (λ x. binary x here s) is
operated fixed code Gt b here s e = let is : b ≡ _ = cc in ap (λ x. binary x here s) is
operated fixed code GtEq b here s e = let is : b ≡ _ = cc in ap (λ x. binary x here s) is
operated fixed code Lt b here s e = let is : b ≡ _ = cc in ap (λ x. binary x here s) is
operated fixed code LtEq b here s e = let is : b ≡ _ = cc in ap (λ x. binary x here s) is
operated fixed code IsIn b here s e = let is : b ≡ _ = cc in ap (λ x. binary x here s) is
operated fixed code NotIn b here s e = let is : b ≡ _ = cc in ap (λ x. binary x here s) is
operated fixed code op b here s e = absurd cc

-- what stands at the place of the innermost frame
module _ (fixed : Fixed) (code : List Slot) (s : State) (f : Frame) (fs : List Frame) (runs : s.mode ≡ Running) (frames : s.frames ≡ f ∷ fs) where
  at_place : (x : Option Slot) → slice_get code f.place ≡ x → step fixed code s ≡ at_slot fixed code x f fs s
  at_place x is = ap (λ m. step_in m fixed code s) runs ∙ ap (λ gs. in_frames fixed code gs s) frames ∙ ap (λ y. at_slot fixed code y f fs s) is

  pub begins : (op : Op) → slice_get code f.place ≡ Some (Begins op) → act fixed code op (here_of (f.place + size op) s) s ≡ step fixed code s
  begins op is = ap (λ gs. act fixed code op (here_at (f.place + size op) (innermost gs) (others_of gs) s) s) frames ∙ sym (at_place (Some (Begins op)) is)

  gives_null : (x : Option Slot) → BeginsNone x → give_back Null (here_at f.place f fs s) fs s ≡ at_slot fixed code x f fs s
  gives_null None none = refl
  gives_null (Some (Begins op)) none = absurd none
  gives_null (Some BodyEnds) none = refl
  gives_null (Some Operand) none = refl

  pub begins_none : BeginsNone (slice_get code f.place) → give_back Null (here_of f.place s) (others_of s.frames) s ≡ step fixed code s
  begins_none none =
      ap (λ gs. give_back Null (here_at f.place (innermost gs) (others_of gs) s) (others_of gs) s) frames
      ∙ gives_null (slice_get code f.place) none ∙ sym (at_place (slice_get code f.place) refl)
