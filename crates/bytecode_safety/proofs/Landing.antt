-- Where a throw lands: at the catch place of the last open try of the frames, which lies ahead.
use Rattle.std.proofs.Common.{◌≡◌, ℕ, suc, ◌+◌, ◌<◌, ◌≤◌, List, [], ◌∷◌, ◌++◌, length, true, refl, sym, ap, ◌∙◌, subst, arith}
use Rattle.std.specs.Prelude.{nat_lt}
use Rattle.std.proofs.lemmas.Bool.Decides.{nat_tests}
use Rattle.hog_value.specs.declared.cell.FunCell.{FunCell}
use Rattle.hog_value.specs.Cells.{HeapOf}
use Rattle.vm_course.specs.State.{Slot, Frame, ThrowFrame}
use Rattle.vm_course.specs.Stack.{keep}
use Rattle.bytecode_check.specs.Shape.{OpenTry, shaped, floor, before_catches, Shapes}
use Rattle.bytecode_safety.proofs.Pass.{and_both}
use Rattle.bytecode_safety.proofs.Places.{known}
use Rattle.bytecode_safety.proofs.Stacks.{keep_more, keep_all}
use Rattle.bytecode_safety.proofs.Steady.{throw_frame, own_throws, tries_of, throws_of, AllOpen, Seat, Lower, phi, left_ahead}

-- the same frame at another place
abbrev pub at_place : ℕ → Frame → Frame
at_place p f = record f { place = p }

pub record Landing (code : List Slot) (Y : Shapes) (cells : HeapOf FunCell) (count height : ℕ) (frames : List Frame) (t : ThrowFrame) (ts : List ThrowFrame) : Type 0 where
  pub top : Frame
  pub around : List Frame
  pub kept : keep t.frames frames ≡ top ∷ around
  pub few : t.frames ≤ length frames
  pub low : t.height ≤ height
  pub seat : Seat code Y cells count 0 (suc t.height) (at_place t.catch top)
  pub lower : Lower code Y cells count top.base around
  pub throws : ts ≡ throws_of Y (at_place t.catch top ∷ around)
  pub ahead : suc (phi code (at_place t.catch top ∷ around)) ≤ phi code frames

pub open_deeper : (code : List Slot) (Y : Shapes) (captures d e : ℕ) (ts : List OpenTry) → floor ts ≤ e → AllOpen code Y captures d ts → AllOpen code Y captures e ts
open_deeper code Y captures d e [] le h = tt
open_deeper code Y captures d e (t ∷ ts) le h = let o = h.0 in (record { low = le; shape = o.shape; before = o.before; body = o.body }, h.1)

pub open_floor : (code : List Slot) (Y : Shapes) (captures d : ℕ) (ts : List OpenTry) → AllOpen code Y captures d ts → floor ts ≤ d
open_floor code Y captures d [] h = omega arith
open_floor code Y captures d (t ∷ ts) h = h.0.low

module _ (code : List Slot) (Y : Shapes) (cells : HeapOf FunCell) (count : ℕ) where
  -- the throw lands in this frame
  lands_here : (k height : ℕ) (f : Frame) (fs : List Frame) (x : Seat code Y cells count k height f) → Lower code Y cells count f.base fs → (t : OpenTry) (ts : List OpenTry) → x.shape.tries ≡ t ∷ ts
      → Landing code Y cells count height (f ∷ fs) (throw_frame (suc (length fs)) f.base t) (own_throws (suc (length fs)) f.base ts ++ throws_of Y fs)
  lands_here k height f fs x l t ts e =
      let tried = subst (AllOpen code Y x.captures x.shape.depth) e x.tried in
      let o = tried.0 in
      let before = subst (λ us. before_catches f.place us ≡ true) e x.before in
      let above = subst (λ us. f.base + floor us ≤ height) e x.above in
      let (near, _) = and_both (nat_lt f.place t.catch) (before_catches f.place ts) before in
      let lt : f.place < t.catch = grind (arith, nat_tests) in
      let there = known x.body x.shape x.is in
      let less = left_ahead code f.place t.catch x.body.op there.slot lt in
      let deep = open_floor code Y x.captures t.depth ts tried.1 in
      record {
        top = f;
        around = fs;
        kept = keep_all (f ∷ fs);
        few = omega arith;
        low = above;
        seat = record {
          shape = shaped (suc t.depth) ts;
          captures = x.captures;
          is = o.shape;
          body = o.body;
          level = omega arith;
          above = omega arith;
          before = o.before;
          tried = open_deeper code Y x.captures t.depth (suc t.depth) ts (omega arith) tried.1;
          numbers = x.numbers;
          function = x.function;
          captured = x.captured;
          below = x.below;
        };
        lower = l;
        throws = ap (λ sh. own_throws (suc (length fs)) f.base (tries_of sh) ++ throws_of Y fs) (sym o.shape);
        ahead = omega arith;
      }

  by_tries : (k height : ℕ) (f : Frame) (fs : List Frame) (x : Seat code Y cells count k height f) → Lower code Y cells count f.base fs → (t : ThrowFrame) (ts : List ThrowFrame) (us : List OpenTry) → x.shape.tries ≡ us
      → own_throws (suc (length fs)) f.base us ++ throws_of Y fs ≡ t ∷ ts → (throws_of Y fs ≡ t ∷ ts → Landing code Y cells count height (f ∷ fs) t ts) → Landing code Y cells count height (f ∷ fs) t ts
  by_tries k height f fs x l t ts [] q e ih = ih e
  by_tries k height f fs x l t ts (u ∷ us) q e ih =
      let t' = throw_frame (suc (length fs)) f.base u in
      let ts' = own_throws (suc (length fs)) f.base us ++ throws_of Y fs in
      let e1 : t' ≡ t = cc in
      let e2 : ts' ≡ ts = cc in
      subst (λ a. Landing code Y cells count height (f ∷ fs) a ts) e1 (subst (λ b. Landing code Y cells count height (f ∷ fs) t' b) e2 (lands_here k height f fs x l u us q))

  -- it lands in a frame around
  lands_around : (k height : ℕ) (f g : Frame) (gs : List Frame) → Seat code Y cells count k height f → (t : ThrowFrame) (ts : List ThrowFrame) → Landing code Y cells count f.base (g ∷ gs) t ts → Landing code Y cells count height (f ∷ g ∷ gs) t ts
  lands_around k height f g gs x t ts h =
      let above = x.above in
      let low = h.low in
      let few = h.few in
      let ahead = h.ahead in
      record {
        top = h.top;
        around = h.around;
        kept = keep_more t.frames f (g ∷ gs) h.few ∙ h.kept;
        few = omega arith;
        low = omega arith;
        seat = h.seat;
        lower = h.lower;
        throws = h.throws;
        ahead = omega arith;
      }

  pub lands : (k height : ℕ) (f : Frame) (fs : List Frame) → Seat code Y cells count k height f → Lower code Y cells count f.base fs → (t : ThrowFrame) (ts : List ThrowFrame) → throws_of Y (f ∷ fs) ≡ t ∷ ts → Landing code Y cells count height (f ∷ fs) t ts
  lands k height f [] x l t ts e =
      by_tries k height f [] x l t ts x.shape.tries refl (ap (λ sh. own_throws 1 f.base (tries_of sh) ++ []) (sym x.is) ∙ e) (λ q. absurd cc)
  lands k height f (g ∷ gs) x l t ts e =
      by_tries k height f (g ∷ gs) x l t ts x.shape.tries refl (ap (λ sh. own_throws (suc (suc (length gs))) f.base (tries_of sh) ++ throws_of Y (g ∷ gs)) (sym x.is) ∙ e)
      (λ q. lands_around k height f g gs x t ts (lands 1 f.base g gs l.0 l.1 t ts q))
