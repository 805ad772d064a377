-- Operations as ghost values, one to one: what the logic asks of a type that a view gives.
use Rattle.std.specs.Prelude.{◌≡◌, ℕ, ◌==◌, ℤ, pos, negsuc, List, [], ◌∷◌, ◌++◌, unwrap_or, Bool, true, false, if◌then◌else◌}
use Rattle.std.proofs.Common.{refl, ap, ap₂, ◌∙◌}
use Rattle.std.specs.Coded.{Coded, code_by}
use base.Stored.{Gv, gnil, gnum, gcons, num}
use denote.Struct.Codes.{itself}
use Rattle.hog_value.specs.declared.native.Native.{Native}
use Rattle.hog_value.specs.declared.native.Native.TheVariants as f
use Rattle.hog_ops.specs.declared.capture.Capture.{Capture}
use Rattle.hog_ops.specs.Table.{Row, Alone, Counts, Leads, Calls, Spells, Gives, Holds, row, number, plain_ops, count_ops, jump_ops, numbered}
use Rattle.hog_ops.specs.Plain.{Op, Ops, GetGlobal, CallGlobal, And, Or, Not, Plus, Minus, Multiply, Eq, NotEq, Gt, GtEq, Lt, LtEq, IsIn, NotIn, PushTrue, PushFalse, PushNull, Str, Integer, Pop, GetLocal, SetLocal, Return, Jump, JumpIfFalse, Dict, Array, GetProperty, SetProperty, JumpIfStackNotNull, GetPropertyNullish, Throw, Try, PopTry, Callable, CallLocal, GetUpvalue, SetUpvalue, CloseUpvalue, NoOp, MoreOp}

abbrev head : Gv → Gv
head gnil = gnil
head (gnum n) = gnil
head (gcons a b) = a

abbrev tail : Gv → Gv
tail gnil = gnil
tail (gnum n) = gnil
tail (gcons a b) = b

abbrev of_text : List ℕ → Gv
of_text [] = gnil
of_text (b ∷ bs) = gcons (gnum b) (of_text bs)

abbrev to_text : Gv → List ℕ
to_text gnil = []
to_text (gnum n) = []
to_text (gcons a b) = num a ∷ to_text b

text_back : (t : List ℕ) → to_text (of_text t) ≡ t
text_back [] = refl
text_back (b ∷ bs) = ap (λ r. b ∷ r) (text_back bs)

abbrev of_flag : Bool → Gv
of_flag true = gnum 1
of_flag false = gnum 0

abbrev of_captures : List Capture → Gv
of_captures [] = gnil
of_captures (c ∷ cs) = gcons (gcons (of_flag c.local) (gnum c.index)) (of_captures cs)

abbrev to_captures : Gv → List Capture
to_captures gnil = []
to_captures (gnum n) = []
to_captures (gcons a b) = record { local = num (head a) == 1; index = num (tail a) } ∷ to_captures b

flag_back : (b : Bool) → (num (of_flag b) == 1) ≡ b
flag_back true = refl
flag_back false = refl

captures_back : (cs : List Capture) → to_captures (of_captures cs) ≡ cs
captures_back [] = refl
captures_back (c ∷ cs) = ap₂ (λ b r. record { local = b; index = c.index } ∷ r) (flag_back c.local) (captures_back cs)

abbrev of_whole : ℤ → Gv
of_whole (pos n) = gcons (gnum 0) (gnum n)
of_whole (negsuc n) = gcons (gnum 1) (gnum n)

abbrev to_whole : Gv → ℤ
to_whole g = if num (head g) == 0 then pos (num (tail g)) else negsuc (num (tail g))

whole_back : (z : ℤ) → to_whole (of_whole z) ≡ z
whole_back (pos n) = refl
whole_back (negsuc n) = refl

abbrev of_native : Native → ℕ
of_native f.Print = 0
of_native f.Length = 1
of_native f.Concat = 2
of_native f.ToString = 3
of_native f.ToInt = 4
of_native f.Upper = 5
of_native f.Lower = 6
of_native f.Trim = 7
of_native f.StartsWith = 8
of_native f.ReplaceAll = 9
of_native f.SplitByString = 10
of_native f.Keys = 11
of_native f.Values = 12
of_native f.Has = 13
of_native f.ArrayPushBack = 14
of_native f.Empty = 15
of_native f.JsonParse = 16
of_native f.JsonStringify = 17
of_native f.Error = 18
of_native f.Fetch = 19
of_native f.DateAdd = 20
of_native f.DateDiff = 21
of_native f.Weekday = 22

abbrev to_native : ℕ → Native
to_native n =
    if n == 0 then f.Print else (if n == 1 then f.Length else (if n == 2 then f.Concat else (if n == 3 then f.ToString else (if n == 4 then f.ToInt else (if n == 5 then f.Upper else (if n == 6 then f.Lower else (if n == 7 then f.Trim else (if n == 8 then f.StartsWith else (if n == 9 then f.ReplaceAll else (if n == 10 then f.SplitByString else (if n == 11 then f.Keys else (if n == 12 then f.Values else (if n == 13 then f.Has else (if n == 14 then f.ArrayPushBack else (if n == 15 then f.Empty else (if n == 16 then f.JsonParse else (if n == 17 then f.JsonStringify else (if n == 18 then f.Error else (if n == 19 then f.Fetch else (if n == 20 then f.DateAdd else (if n == 21 then f.DateDiff else f.Weekday)))))))))))))))))))))

native_back : (x : Native) → to_native (of_native x) ≡ x
native_back f.Print = refl
native_back f.Length = refl
native_back f.Concat = refl
native_back f.ToString = refl
native_back f.ToInt = refl
native_back f.Upper = refl
native_back f.Lower = refl
native_back f.Trim = refl
native_back f.StartsWith = refl
native_back f.ReplaceAll = refl
native_back f.SplitByString = refl
native_back f.Keys = refl
native_back f.Values = refl
native_back f.Has = refl
native_back f.ArrayPushBack = refl
native_back f.Empty = refl
native_back f.JsonParse = refl
native_back f.JsonStringify = refl
native_back f.Error = refl
native_back f.Fetch = refl
native_back f.DateAdd = refl
native_back f.DateDiff = refl
native_back f.Weekday = refl

-- the operands of a row, those of a function aside
abbrev of_row : Row → Gv
of_row (Alone n) = gnil
of_row (Counts n least count) = gnum count
of_row (Leads n d) = of_whole d
of_row (Calls x n) = gcons (gnum (of_native x)) (gnum n)
of_row (Spells t) = of_text t
of_row (Gives z) = of_whole z
of_row (Holds name params body captures) = gnil

abbrev mutual
  of_op : Op → Gv
  of_op (Callable name params body captures) = gcons (gcons (gnum 52) (gcons (of_text name) (gcons (gnum params) (of_captures captures)))) (of_ops body)
  of_op o = gcons (gcons (gnum (number o)) (of_row (row o))) gnil

  of_ops : Ops → Gv
  of_ops NoOp = gnil
  of_ops (MoreOp o os) = gcons (of_op o) (of_ops os)

-- the operations that may have these operands
abbrev ops_with : Gv → Ops → List Op
ops_with g body =
    plain_ops ++ (count_ops (num g) ++ (jump_ops (to_whole g) ++ (CallGlobal (to_native (num (head g))) (num (tail g)) ∷ Str (to_text g) ∷ Integer (to_whole g)
    ∷ Callable (to_text (head g)) (num (head (tail g))) body (to_captures (tail (tail g))) ∷ [])))

abbrev op_by : ℕ → Gv → Ops → Op
op_by n g body = unwrap_or (numbered n (ops_with g body)) Not

abbrev mutual
  to_op : Gv → Op
  to_op gnil = Not
  to_op (gnum n) = Not
  to_op (gcons a b) = op_by (num (head a)) (tail a) (to_ops b)

  to_ops : Gv → Ops
  to_ops gnil = NoOp
  to_ops (gnum n) = NoOp
  to_ops (gcons a b) = MoreOp (to_op a) (to_ops b)

mutual
  op_back : (o : Op) → to_op (of_op o) ≡ o
  op_back (GetGlobal n) = refl
  op_back (CallGlobal x n) = ap (λ y. CallGlobal y n) (native_back x)
  op_back (And n) = refl
  op_back (Or n) = refl
  op_back Not = refl
  op_back Plus = refl
  op_back Minus = refl
  op_back Multiply = refl
  op_back Eq = refl
  op_back NotEq = refl
  op_back Gt = refl
  op_back GtEq = refl
  op_back Lt = refl
  op_back LtEq = refl
  op_back IsIn = refl
  op_back NotIn = refl
  op_back PushTrue = refl
  op_back PushFalse = refl
  op_back PushNull = refl
  op_back (Str t) = ap Str (text_back t)
  op_back (Integer z) = ap Integer (whole_back z)
  op_back Pop = refl
  op_back (GetLocal n) = refl
  op_back (SetLocal n) = refl
  op_back Return = refl
  op_back (Jump d) = ap Jump (whole_back d)
  op_back (JumpIfFalse d) = ap JumpIfFalse (whole_back d)
  op_back (Dict n) = refl
  op_back (Array n) = refl
  op_back GetProperty = refl
  op_back SetProperty = refl
  op_back (JumpIfStackNotNull d) = ap JumpIfStackNotNull (whole_back d)
  op_back GetPropertyNullish = refl
  op_back Throw = refl
  op_back (Try d) = ap Try (whole_back d)
  op_back PopTry = refl
  op_back (Callable name params body captures) = ap₂ (λ t b. Callable t params b (to_captures (of_captures captures))) (text_back name) (ops_back body) ∙ ap (Callable name params body) (captures_back captures)
  op_back (CallLocal n) = refl
  op_back (GetUpvalue n) = refl
  op_back (SetUpvalue n) = refl
  op_back CloseUpvalue = refl

  pub ops_back : (os : Ops) → to_ops (of_ops os) ≡ os
  ops_back NoOp = refl
  ops_back (MoreOp o os) = ap₂ MoreOp (op_back o) (ops_back os)

abbrev pub coded_ops : Coded Ops
coded_ops = code_by Gv itself of_ops to_ops ops_back
