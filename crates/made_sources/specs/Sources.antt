-- The sources of the functions of a made plan, and their trees.
use Rattle.std.specs.Prelude.{ℕ, List, pos, codes}
use Rattle.hog_tree.specs.declared.tree.BinaryOp.TheVariants.{LessEqual, GreaterEqual, Plus}
use Rattle.hog_tree.specs.Plain.{Word, Exp, Stm, Stms, Int, Text, Name, Binary, Prop, Call, NoExp, MoreExp, Let, Assign, Do, Return, Throw, If, For, Done, Then, SomeExp, SomeStm, NoneStms}

-- prints the number of the event
abbrev pub echo_source : List ℕ
echo_source = codes "print(event.properties.n);"

-- fetches, and then throws where the number is 90 or greater
abbrev pub high_source : List ℕ
high_source = codes "fetch('https://h/'); if (event.properties.n >= 90) { throw Error('high'); }"

-- prints the sum of the numbers from 1 to that of the event
abbrev pub sum_source : List ℕ
sum_source = codes "let t := 0; for (let i := 1; i <= event.properties.n; i := i + 1) { t := t + i; } print(t);"

-- lets the events pass whose number is 50 or greater
abbrev pub high_filter : List ℕ
high_filter = codes "return event.properties.n >= 50;"

-- `event.properties.n`
abbrev number : Exp
number = Prop (Prop (Name (codes "event")) (codes "properties")) (codes "n")

-- `f(x)`
abbrev call : Word → Exp → Exp
call f x = Call (Name f) (MoreExp x NoExp)

-- `x := x + y;`
abbrev increase : Word → Exp → Stm
increase x y = Assign (Name x) (Binary Plus (Name x) y)

-- what each source is: a call
abbrev pub echo_tree : Stms
echo_tree = Then (Do (call (codes "print") number)) Done

-- a call, and a condition with a throw
abbrev pub high_tree : Stms
high_tree = Then (Do (call (codes "fetch") (Text (codes "https://h/"))))
    (Then (If (Binary GreaterEqual number (Int (pos 90))) (Then (Throw (call (codes "Error") (Text (codes "high")))) Done) NoneStms) Done)

-- a declaration, a loop with the step `i := i + 1`, and a call
abbrev pub sum_tree : Stms
sum_tree = Then (Let (codes "t") (SomeExp (Int (pos 0))))
    (Then (For (SomeStm (Let (codes "i") (SomeExp (Int (pos 1))))) (SomeExp (Binary LessEqual (Name (codes "i")) number))
    (SomeStm (increase (codes "i") (Int (pos 1)))) (Then (increase (codes "t") (Name (codes "i"))) Done))
    (Then (Do (call (codes "print") (Name (codes "t")))) Done))

-- a comparison that is returned
abbrev pub high_filter_tree : Stms
high_filter_tree = Then (Return (SomeExp (Binary GreaterEqual number (Int (pos 50))))) Done
