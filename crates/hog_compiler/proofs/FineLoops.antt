-- Loops, calls, functions and pops are codes by themselves.
use Rattle.std.proofs.Common.{◌≡◌, ◌≤◌, ℕ, zero, suc, ◌+◌, ◌&&◌, ℤ, pos, negsuc, neg_ℤ, ◌+ℤ◌, List, length, Bool, true, false, cond, Option, Some, None, refl, sym, ap, ap₂, ◌∙◌, arith}
use Rattle.std.proofs.lemmas.Int.{ints}
use Rattle.std.specs.Prelude.{nat_le}
use Rattle.std.proofs.lemmas.Bool.Decides.{nat_tests}
use Rattle.hog_value.specs.declared.native.Native.{Native}
use Rattle.hog_value.specs.declared.native.Native.TheVariants as native
use Rattle.hog_value.specs.Natives.{takes_of}
use Rattle.hog_ops.specs.declared.capture.Capture.{Capture}
use Rattle.hog_ops.specs.Plain as o
use Rattle.hog_ops.specs.Plain.{Op, Ops, NoOp, MoreOp, ◌⊕◌}
use Rattle.hog_ops.specs.Table.{span}
use Rattle.hog_ops.specs.Valid.{is_place, is_place_of, may_lead, or_then, op_lost, lost_in, lost}
use Rattle.hog_ops.proofs.Lost.{lost_none}
use Rattle.hog_ops.proofs.Join.{join_assoc, join_none, span-join, allowed-join, height-join, is_place-seam, lost_in-join, lost-within}
use Rattle.hog_tree.specs.Plain.{Word}
use Rattle.hog_tree.specs.declared.tree.BinaryOp.{BinaryOp}
use Rattle.hog_tree.specs.declared.tree.BinaryOp.TheVariants as b
use Rattle.hog_captures.specs.Frees.{is_among}
use Rattle.hog_compiler.specs.Pieces.{one, truth_op, read_code, write_op, operator_op, is_left_first, binary_code, native_code, return_null, fun_code, loop_code, pop_op, pops, key_count, called_on, hidden_code, more_code, item_code, key_code, next_code, key_pop, for_in_code}
use Rattle.hog_compiler.proofs.Fine.{Fine, fine_none, fine_join, fine_more, fine_one}

-- ---- a loop

led : (b : Bool) (p : ℕ) → b ≡ true → cond b None (Some p) ≡ None
led b p e = ap (λ x. cond x None (Some p)) e

-- a jump may lead back
jump_may : (d : ℤ) → may_lead 39 d ≡ true
jump_may (pos n) = refl
jump_may (negsuc n) = refl

pub any_count : (n : ℕ) → nat_le 0 n ≡ true
any_count n = grind (arith, nat_tests)

first_place : (os : Ops) → is_place os 0 ≡ true
first_place NoOp = refl
first_place (MoreOp o os) = refl

module _ (c b : Ops) where
  abbrev ahead : Op
  ahead = o.JumpIfFalse (pos (span b + 2))

  abbrev back : Op
  back = o.Jump (neg_ℤ (pos (span c + span b + 4)))

  abbrev whole : Ops
  whole = loop_code c b

  all_of : span whole ≡ span c + 2 + span b + 2
  all_of = omega (arith, span-join c (MoreOp ahead (b ⊕ one back)), span-join b (one back))

  ends_there : is_place whole (span c + 2 + (span b + 2)) ≡ true
  ends_there =
      let there : span c + 2 + (span b + 2) ≡ span whole = omega (arith, all_of) in
      ap (is_place whole) there ∙ ap (λ rs. is_place rs (span whole)) (sym (join_none whole)) ∙ is_place-seam whole NoOp

  -- the place to which the last jump leads
  back_to : pos (span c + 2 + span b + 2) +ℤ neg_ℤ (pos (span c + span b + 4)) ≡ pos 0
  back_to = omega (arith, ints)

  leads_ahead : op_lost 0 whole (span c) ahead ≡ None
  leads_ahead = led _ _ ends_there

  leads_back : op_lost 0 whole (span c + 2 + span b) back ≡ None
  leads_back =
      led (may_lead 39 (neg_ℤ (pos (span c + span b + 4))) && is_place_of whole (pos (span c + 2 + span b + 2) +ℤ neg_ℤ (pos (span c + span b + 4)))) (0 + (span c + 2 + span b))
      (ap₂ (λ x y. x && y) (jump_may (neg_ℤ (pos (span c + span b + 4)))) (ap (is_place_of whole) back_to ∙ first_place whole))

  condition_in : lost 0 c ≡ None → lost_in 0 whole 0 c ≡ None
  condition_in h = lost-within 0 NoOp c (MoreOp ahead (b ⊕ one back)) h

  body_in : lost 0 b ≡ None → lost_in 0 whole (span c + 2) b ≡ None
  body_in h =
      let here : span c + 2 ≡ span (c ⊕ one ahead) = omega (arith, span-join c (one ahead)) in
      ap (λ n. lost_in 0 whole n b) here ∙ ap (λ rs. lost_in 0 rs (span (c ⊕ one ahead)) b) (sym (join_assoc c (one ahead) (b ⊕ one back)))
      ∙ lost-within 0 (c ⊕ one ahead) b (one back) h

  loop_leads : lost 0 c ≡ None → lost 0 b ≡ None → lost 0 whole ≡ None
  loop_leads h k =
      let rest = MoreOp ahead (b ⊕ one back) in
      let here : 0 + span c ≡ span c = omega arith in
      lost_in-join 0 whole 0 c rest ∙ ap (λ n. or_then (lost_in 0 whole 0 c) (lost_in 0 whole n rest)) here
      ∙ ap₂ or_then (condition_in h)
      (ap₂ or_then leads_ahead (lost_in-join 0 whole (span c + 2) b (one back) ∙ ap₂ or_then (body_in k) (ap₂ or_then leads_back refl)))

  pub fine_loop : {n : ℕ} → Fine n c → Fine n b → Fine n whole
  fine_loop {n} f g = record {
    allowed = allowed-join c (MoreOp ahead (b ⊕ one back)) ∙ ap₂ (λ x y. x && (true && y)) f.allowed (allowed-join b (one back) ∙ ap (λ x. x && true) g.allowed);
    leads = loop_leads f.leads g.leads;
    low = omega (arith, height-join c (MoreOp ahead (b ⊕ one back)), height-join b (one back), f.low, g.low);
  }

-- ---- calls and functions

chosen : (n : ℕ) (f : Native) (count : ℕ) (b : Bool) → takes_of f count ≡ b → Fine n (cond b (one (o.CallGlobal f count)) NoOp)
chosen n f count true h = fine_one n (o.CallGlobal f count) h refl (omega arith)
chosen n f count false h = fine_none n

pub fine_native : (n : ℕ) (f : Option Native) (count : ℕ) → Fine n (native_code f count)
fine_native n None count = fine_none n
fine_native n (Some f) count = chosen n f count (takes_of f count) refl

-- one body more
pub fine_fun : {n k : ℕ} (name : Word) (params : List Word) (captures : List Capture) {body : Ops} → suc k ≤ n → Fine k body → Fine n (fun_code name params captures body)
fine_fun {n} {k} name params captures {body} h f =
    fine_one n (o.Callable name (length params) body captures) f.allowed (lost_none 0 (0 + (0 + 5)) body f.leads) (omega (arith, f.low, h))

-- ---- single operations

pub fine_truth : (n : ℕ) (b : Bool) → Fine n (one (truth_op b))
fine_truth n true = fine_one n o.PushTrue refl refl (omega arith)
fine_truth n false = fine_one n o.PushFalse refl refl (omega arith)

pub fine_read : (n : ℕ) (local up : Option ℕ) (w : Word) → Fine n (read_code local up w)
fine_read n (Some i) up w = fine_one n (o.GetLocal i) (any_count i) refl (omega arith)
fine_read n None (Some u) w = fine_one n (o.GetUpvalue u) (any_count u) refl (omega arith)
fine_read n None None w = fine_more (o.Str w) refl refl (omega arith) (fine_one n (o.GetGlobal 1) refl refl (omega arith))

pub fine_write : (n : ℕ) (local up : Option ℕ) → Fine n (one (write_op local up))
fine_write n (Some i) up = fine_one n (o.SetLocal i) (any_count i) refl (omega arith)
fine_write n None (Some u) = fine_one n (o.SetUpvalue u) (any_count u) refl (omega arith)
fine_write n None None = fine_one n o.Pop refl refl (omega arith)

popped : (n : ℕ) (b : Bool) → Fine n (one (cond b o.CloseUpvalue o.Pop))
popped n true = fine_one n o.CloseUpvalue refl refl (omega arith)
popped n false = fine_one n o.Pop refl refl (omega arith)

pub fine_pop : (n : ℕ) (w : Word) (frees : List Word) → Fine n (one (pop_op w frees))
fine_pop n w frees = popped n (is_among w frees)

pub fine_null : (n : ℕ) → Fine n return_null
fine_null n = fine_more o.PushNull refl refl (omega arith) (fine_one n o.Return refl refl (omega arith))

-- ---- the loop over items

pub fine_pops : (n k : ℕ) → Fine n (pops k)
fine_pops n zero = fine_none n
fine_pops n (suc k) = fine_more o.Pop refl refl (omega arith) (fine_pops n k)

called : (n i : ℕ) (f : Native) → takes_of f 1 ≡ true → Fine n (called_on f i)
called n i f h = fine_more (o.GetLocal i) (any_count i) refl (omega arith) (fine_one n (o.CallGlobal f 1) h refl (omega arith))

hidden : (n : ℕ) (k : Option Word) (first : ℕ) → Fine n (hidden_code k first)
hidden n None first =
    fine_join (called n first native.Values refl) (fine_join (called n (first + 0 + 1) native.Length refl) (fine_one n (o.Integer (pos 1)) refl refl (omega arith)))
hidden n (Some w) first =
    fine_join (called n first native.Keys refl)
    (fine_join (called n first native.Values refl) (fine_join (called n (first + 1 + 1) native.Length refl) (fine_one n (o.Integer (pos 1)) refl refl (omega arith))))

more : (n count index : ℕ) → Fine n (more_code count index)
more n count index = fine_more (o.GetLocal count) (any_count count) refl (omega arith) (fine_more (o.GetLocal index) (any_count index) refl (omega arith) (fine_one n o.LtEq refl refl (omega arith)))

item : (n list index : ℕ) → Fine n (item_code list index)
item n list index = fine_more (o.GetLocal list) (any_count list) refl (omega arith) (fine_more (o.GetLocal index) (any_count index) refl (omega arith) (fine_one n o.GetProperty refl refl (omega arith)))

key : (n : ℕ) (k : Option Word) (list index : ℕ) → Fine n (key_code k list index)
key n None list index = fine_none n
key n (Some w) list index = item n list index

next : (n index : ℕ) → Fine n (next_code index)
next n index =
    fine_more (o.Integer (pos 1)) refl refl (omega arith) (fine_more (o.GetLocal index) (any_count index) refl (omega arith) (fine_more o.Plus refl refl (omega arith) (fine_one n (o.SetLocal index) (any_count index) refl (omega arith))))

key_off : (n : ℕ) (k : Option Word) (frees : List Word) → Fine n (key_pop k frees)
key_off n None frees = fine_none n
key_off n (Some w) frees = fine_pop n w frees

pub fine_for_in : {n : ℕ} (k : Option Word) (v : Word) (first : ℕ) {body : Ops} (frees : List Word) → Fine n body → Fine n (for_in_code k v first body frees)
fine_for_in {n} k v first {body} frees f =
    let keys = first + key_count k in
    fine_join (hidden n k first)
    (fine_join (fine_loop _ _ (more n (keys + 2) (keys + 3))
    (fine_join (key n k keys (keys + 3)) (fine_join (item n (keys + 1) (keys + 3))
    (fine_join f (fine_join (fine_join (fine_pop n v frees) (key_off n k frees)) (next n (keys + 3)))))))
    (fine_pops n (4 + key_count k)))

-- ---- operators

pub fine_operator : (n : ℕ) (op : BinaryOp) → Fine n (one (operator_op op))
fine_operator n b.Or = fine_one n (o.Or 2) refl refl (omega arith)
fine_operator n b.And = fine_one n (o.And 2) refl refl (omega arith)
fine_operator n b.Equal = fine_one n o.Eq refl refl (omega arith)
fine_operator n b.NotEqual = fine_one n o.NotEq refl refl (omega arith)
fine_operator n b.Less = fine_one n o.Lt refl refl (omega arith)
fine_operator n b.LessEqual = fine_one n o.LtEq refl refl (omega arith)
fine_operator n b.Greater = fine_one n o.Gt refl refl (omega arith)
fine_operator n b.GreaterEqual = fine_one n o.GtEq refl refl (omega arith)
fine_operator n b.IsIn = fine_one n o.IsIn refl refl (omega arith)
fine_operator n b.NotIn = fine_one n o.NotIn refl refl (omega arith)
fine_operator n b.Plus = fine_one n o.Plus refl refl (omega arith)
fine_operator n b.Minus = fine_one n o.Minus refl refl (omega arith)
fine_operator n b.Times = fine_one n o.Multiply refl refl (omega arith)

operator : (n : ℕ) (op : Op) (x y : Ops) (left_first : Bool) → Fine n (one op) → Fine n x → Fine n y → Fine n (cond left_first (x ⊕ (y ⊕ one op)) (y ⊕ (x ⊕ one op)))
operator n op x y true h f g = fine_join f (fine_join g h)
operator n op x y false h f g = fine_join g (fine_join f h)

pub fine_binary : {n : ℕ} (op : BinaryOp) {x y : Ops} → Fine n x → Fine n y → Fine n (binary_code op x y)
fine_binary {n} op {x} {y} f g = operator n (operator_op op) x y (is_left_first op) (fine_operator n op) f g
