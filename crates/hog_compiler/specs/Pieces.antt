-- The pieces of which code is made. Jumps lead over the lengths of parts.
use Rattle.std.specs.Prelude.{ℕ, zero, suc, ◌+◌, pos, neg_ℤ, List, length, Bool, true, false, Option, Some, None, codes, if◌then◌else◌}
use Rattle.hog_value.specs.declared.native.Native.{Native}
use Rattle.hog_value.specs.declared.native.Native.TheVariants as native
use Rattle.hog_value.specs.Natives.{takes_of}
use Rattle.hog_ops.specs.declared.capture.Capture.{Capture}
use Rattle.hog_ops.specs.Plain as o
use Rattle.hog_ops.specs.Plain.{Op, Ops, NoOp, MoreOp, ◌⊕◌}
use Rattle.hog_ops.specs.Table.{span}
use Rattle.hog_tree.specs.declared.tree.BinaryOp.{BinaryOp}
use Rattle.hog_tree.specs.declared.tree.BinaryOp.TheVariants as b
use Rattle.hog_tree.specs.Plain.{Word}
use Rattle.hog_captures.specs.Frees.{is_among}

-- one operation
abbrev pub one : Op → Ops
one op = MoreOp op NoOp

abbrev pub truth_op : Bool → Op
truth_op true = o.PushTrue
truth_op false = o.PushFalse

-- the value of a word: of a local, of a captured variable, or else of the global of that name
abbrev pub read_code : Option ℕ → Option ℕ → Word → Ops
read_code (Some i) up w = one (o.GetLocal i)
read_code None (Some u) w = one (o.GetUpvalue u)
read_code None None w = MoreOp (o.Str w) (one (o.GetGlobal 1))

-- a new value of a word. One that is neither local nor captured isn't assigned in a program whose names are resolved.
abbrev pub write_op : Option ℕ → Option ℕ → Op
write_op (Some i) up = o.SetLocal i
write_op None (Some u) = o.SetUpvalue u
write_op None None = o.Pop

-- the operation of an operator on its two operands
abbrev pub operator_op : BinaryOp → Op
operator_op b.Or = o.Or 2
operator_op b.And = o.And 2
operator_op b.Equal = o.Eq
operator_op b.NotEqual = o.NotEq
operator_op b.Less = o.Lt
operator_op b.LessEqual = o.LtEq
operator_op b.Greater = o.Gt
operator_op b.GreaterEqual = o.GtEq
operator_op b.IsIn = o.IsIn
operator_op b.NotIn = o.NotIn
operator_op b.Plus = o.Plus
operator_op b.Minus = o.Minus
operator_op b.Times = o.Multiply

-- `and` and `or` have the left operand first, all others the right one
abbrev pub is_left_first : BinaryOp → Bool
is_left_first b.Or = true
is_left_first b.And = true
is_left_first op = false

abbrev pub binary_code : BinaryOp → Ops → Ops → Ops
binary_code op x y =
    if is_left_first op then x ⊕ (y ⊕ one (operator_op op)) else y ⊕ (x ⊕ one (operator_op op))

-- the second only where the first gives null
abbrev pub coalesce_code : Ops → Ops → Ops
coalesce_code x y = x ⊕ MoreOp (o.JumpIfStackNotNull (pos (span y + 1))) (MoreOp o.Pop y)

-- the call of a native, after its arguments. In a program whose names are resolved there is the native, and it takes so many.
abbrev pub native_code : Option Native → ℕ → Ops
native_code None count = NoOp
native_code (Some f) count = if takes_of f count then one (o.CallGlobal f count) else NoOp

-- the call of a value, after its arguments
abbrev pub value_call : Ops → ℕ → Ops
value_call callee count = callee ⊕ one (o.CallLocal count)

-- the return of null
abbrev pub return_null : Ops
return_null = MoreOp o.PushNull (one o.Return)

-- a function, made
abbrev pub fun_code : Word → List Word → List Capture → Ops → Ops
fun_code name params captures body = one (o.Callable name (length params) body captures)

-- the name of functions that have none
abbrev pub lambda_name : Word
lambda_name = codes "lambda"

abbrev pub if_code : Ops → Ops → Ops
if_code c b = c ⊕ MoreOp (o.JumpIfFalse (pos (span b))) b

abbrev pub if_else_code : Ops → Ops → Ops → Ops
if_else_code c b e =
    c ⊕ MoreOp (o.JumpIfFalse (pos (span b + 2))) (b ⊕ MoreOp (o.Jump (pos (span e))) e)

-- the body as long as the condition holds; the last jump leads back over all of this
abbrev pub loop_code : Ops → Ops → Ops
loop_code c b =
    c ⊕ MoreOp (o.JumpIfFalse (pos (span b + 2))) (b ⊕ one (o.Jump (neg_ℤ (pos (span c + span b + 4)))))

abbrev pub try_code : Ops → Ops → Ops
try_code b h = MoreOp (o.Try (pos (span b + 3))) (b ⊕ MoreOp o.PopTry (MoreOp (o.Jump (pos (span h))) h))

-- a local comes off the stack: its variable is closed where functions among what it was seen in have these free words, and it
-- is one of them
abbrev pub pop_op : Word → List Word → Op
pop_op w frees = if is_among w frees then o.CloseUpvalue else o.Pop

-- so many hidden locals come off
abbrev pub pops : ℕ → Ops
pops zero = NoOp
pops (suc n) = MoreOp o.Pop (pops n)

-- The hidden locals of a `for .. in`, from the place of what is run over: that, its keys where a key is named, its
-- values, how many they are, and the index.

-- how many there are for the keys
abbrev pub key_count : Option Word → ℕ
key_count None = 0
key_count (Some w) = 1

-- a native called on a local
abbrev pub called_on : Native → ℕ → Ops
called_on f i = MoreOp (o.GetLocal i) (one (o.CallGlobal f 1))

-- the keys of a local
abbrev pub keys_code : Option Word → ℕ → Ops
keys_code None i = NoOp
keys_code (Some w) i = called_on native.Keys i

-- the hidden locals behind the one at `first`
abbrev pub hidden_code : Option Word → ℕ → Ops
hidden_code k first =
    keys_code k first ⊕ (called_on native.Values first ⊕ (called_on native.Length (first + key_count k + 1) ⊕ one (o.Integer (pos 1))))

-- whether the index is at most the count
abbrev pub more_code : ℕ → ℕ → Ops
more_code count index = MoreOp (o.GetLocal count) (MoreOp (o.GetLocal index) (one o.LtEq))

-- the item of a list at the index
abbrev pub item_code : ℕ → ℕ → Ops
item_code list index = MoreOp (o.GetLocal list) (MoreOp (o.GetLocal index) (one o.GetProperty))

-- the key at the index, where it is named
abbrev pub key_code : Option Word → ℕ → ℕ → Ops
key_code None list index = NoOp
key_code (Some w) list index = item_code list index

-- the index, one more
abbrev pub next_code : ℕ → Ops
next_code index = MoreOp (o.Integer (pos 1)) (MoreOp (o.GetLocal index) (MoreOp o.Plus (one (o.SetLocal index))))

-- the key comes off, where it is named
abbrev pub key_pop : Option Word → List Word → Ops
key_pop None frees = NoOp
key_pop (Some w) frees = one (pop_op w frees)

-- all of a `for .. in` behind what is run over: hidden locals, the loop over the items, and the pops
abbrev pub for_in_code : Option Word → Word → ℕ → Ops → List Word → Ops
for_in_code k v first body frees =
    let keys = first + key_count k in
    hidden_code k first
    ⊕ (loop_code (more_code (keys + 2) (keys + 3))
    (key_code k keys (keys + 3) ⊕ (item_code (keys + 1) (keys + 3)
    ⊕ (body ⊕ (MoreOp (pop_op v frees) (key_pop k frees) ⊕ next_code (keys + 3)))))
    ⊕ pops (4 + key_count k))
