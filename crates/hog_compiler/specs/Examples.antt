-- Codes of small programs.
use Rattle.std.specs.Prelude.{◌≡◌, ℕ, pos, negsuc, List, [], ◌∷◌, true, None, codes}
use Rattle.std.proofs.Common.{refl}
use Rattle.hog_value.specs.declared.native.Native.TheVariants as native
use Rattle.hog_value.specs.Natives.{native_named}
use Rattle.hog_ops.specs.Plain as o
use Rattle.hog_ops.specs.Plain.{Op, Ops, NoOp, MoreOp, ◌⊕◌}
use Rattle.hog_tree.specs.declared.tree.BinaryOp.TheVariants as b
use Rattle.hog_tree.specs.Plain.{Word, Exp, Stm, Stms, Int, Name, Binary, Coalesce, Call, Lambda, NoExp, MoreExp, OneExp, Let, Assign, Do, Return, Throw, While, ForIn, Fun, Try, Block, Done, Then, NoneExp, SomeExp}
use Rattle.hog_compiler.specs.Code.{code_of}

abbrev listed : List Op → Ops
listed [] = NoOp
listed (x ∷ xs) = MoreOp x (listed xs)

-- a program's code after the codes of its statements
abbrev program : List Op → Ops
program ops = listed ops ⊕ MoreOp o.PushNull (MoreOp o.Return NoOp)

abbrev x : Word
x = codes "x"

abbrev y : Word
y = codes "y"

abbrev f : Word
f = codes "f"

abbrev num : ℕ → Exp
num n = Int (pos n)

abbrev alone : Stm → Stms
alone s = Then s Done

-- `1 - 2;`: the right operand first
right_first : code_of (alone (Do (Binary b.Minus (num 1) (num 2)))) ≡ program (o.Integer (pos 2) ∷ o.Integer (pos 1) ∷ o.Minus ∷ o.Pop ∷ [])
unfolding code_of
right_first = refl

-- `x ?? 1;` of a global x
global_or_one : code_of (alone (Do (Coalesce (Name x) (num 1))))
    ≡ program (o.Str x ∷ o.GetGlobal 1 ∷ o.JumpIfStackNotNull (pos 3) ∷ o.Pop ∷ o.Integer (pos 1) ∷ o.Pop ∷ [])
unfolding code_of
global_or_one = refl

-- `let x; { let x := 1; x := 2; } print(x);`: a block's own x is popped
shadowed : code_of (Then (Let x NoneExp) (Then (Block (Then (Let x (SomeExp (num 1))) (alone (Assign (Name x) (num 2))))) (alone (Do (Call (Name (codes "print")) (MoreExp (Name x) NoExp))))))
    ≡ program (o.PushNull ∷ o.Integer (pos 1) ∷ o.Integer (pos 2) ∷ o.SetLocal 1 ∷ o.Pop ∷ o.GetLocal 0 ∷ o.CallGlobal native.Print 1 ∷ o.Pop ∷ [])
unfolding code_of native_named
shadowed = refl

-- `while (true) { x := 1 }`, where x is a local: the last jump leads back over the whole loop
endless : code_of (Then (Let x NoneExp) (alone (While (num 7) (alone (Assign (Name x) (num 1))))))
    ≡ program (o.PushNull ∷ o.Integer (pos 7) ∷ o.JumpIfFalse (pos 6) ∷ o.Integer (pos 1) ∷ o.SetLocal 0 ∷ o.Jump (negsuc 9) ∷ [])
unfolding code_of
endless = refl

-- `{ let x; let y; let f := () -> y; }`: y is captured, so its variable is closed
closed : code_of (alone (Block (Then (Let x NoneExp) (Then (Let y NoneExp) (alone (Let f (SomeExp (Lambda [] (OneExp (Name y))))))))))
    ≡ program (o.PushNull ∷ o.PushNull
    ∷ o.Callable (codes "lambda") 0 (listed (o.GetUpvalue 0 ∷ o.Return ∷ [])) (record { local = true; index = 1 } ∷ [])
    ∷ o.Pop ∷ o.CloseUpvalue ∷ o.Pop ∷ [])
unfolding code_of
closed = refl

-- `fun f(x) { return f; }`: a function captures its own place
itself : code_of (alone (Fun f (x ∷ []) (alone (Return (SomeExp (Name f))))))
    ≡ program (o.Callable f 1 (listed (o.GetUpvalue 0 ∷ o.Return ∷ o.PushNull ∷ o.Return ∷ [])) (record { local = true; index = 0 } ∷ []) ∷ [])
unfolding code_of
itself = refl

-- `try { throw 1; } catch (x) { }`
caught : code_of (alone (Try (alone (Throw (num 1))) x Done))
    ≡ program (o.Try (pos 6) ∷ o.Integer (pos 1) ∷ o.Throw ∷ o.PopTry ∷ o.Jump (pos 1) ∷ o.Pop ∷ [])
unfolding code_of
caught = refl

-- `for (let x in y) { }` of a global y
run_over : code_of (alone (ForIn None x (Name y) Done))
    ≡ program (o.Str y ∷ o.GetGlobal 1 ∷ o.GetLocal 0 ∷ o.CallGlobal native.Values 1 ∷ o.GetLocal 1 ∷ o.CallGlobal native.Length 1 ∷ o.Integer (pos 1)
    ∷ o.GetLocal 2 ∷ o.GetLocal 3 ∷ o.LtEq ∷ o.JumpIfFalse (pos 15)
    ∷ o.GetLocal 1 ∷ o.GetLocal 3 ∷ o.GetProperty ∷ o.Pop
    ∷ o.Integer (pos 1) ∷ o.GetLocal 3 ∷ o.Plus ∷ o.SetLocal 3 ∷ o.Jump (negsuc 21)
    ∷ o.Pop ∷ o.Pop ∷ o.Pop ∷ o.Pop ∷ [])
unfolding code_of
run_over = refl
