-- Computed examples.
use Rattle.std.proofs.Common.{◌≡◌, [], ◌∷◌, ◌++◌, refl}
use Rattle.std.specs.Prelude.{codes}
use Rattle.hog_tree.specs.declared.tree.BinaryOp.TheVariants.{Plus, Times}
use Rattle.hog_tree.specs.Plain.{Name, Text, Dict, Binary, Lambda, NoPair, ManyStms, Let, Do, Return, If, Fun, Done, Then, NoneExp, SomeExp, SomeStms}
use Rattle.hog_printer.specs.Print.{quoted, printed}

-- parentheses stand round each operand that is an operation
sum_times : printed (Then (Let (codes "x") (SomeExp (Binary Times (Binary Plus (Name (codes "a")) (Name (codes "b"))) (Name (codes "c"))))) Done) ≡ codes "let x := (a + b) * c;" ++ 10 ∷ []
sum_times = refl

-- a dictionary by itself, and a block in an expression
one_line : printed (Then (Do (Dict NoPair)) (Then (Do (Lambda [] (ManyStms (Then (Return NoneExp) Done)))) Done)) ≡ codes "({});" ++ 10 ∷ (codes "() -> { return; };" ++ 10 ∷ [])
one_line = refl

-- blocks, four spaces deep, and a text with an escape
blocks : printed (Then (Fun (codes "f") (codes "x" ∷ []) (Then (If (Name (codes "x")) Done (SomeStms (Then (Return (SomeExp (Text (codes "it's")))) Done))) Done)) Done)
    ≡ codes "fun f(x) {" ++ 10 ∷ (codes "    if (x) {" ++ 10 ∷ (codes "    } else {" ++ 10 ∷ (codes "        return 'it\\'s';" ++ 10 ∷ (codes "    }" ++ 10 ∷ (codes "}" ++ 10 ∷ [])))))
unfolding quoted
blocks = refl
