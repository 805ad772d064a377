-- Meanings of small programs, computed.
use Rattle.std.specs.Prelude.{◌≡◌, pos, [], ◌∷◌, Some, None, codes}
use Rattle.std.proofs.Common.{refl}
use Rattle.std.specs.Fmt.{digits}
use Rattle.serde_json.proofs.OnLiterals.{serde_json_on_literals}
use Rattle.hog_value.specs.declared.trace.TraceItem.TheVariants.{Printed, Asked}
use Rattle.hog_value.specs.declared.trace.End.TheVariants as end
use Rattle.hog_value.specs.Natives.{native_named}
use Rattle.hog_value.specs.Operations.{made, truth_of, item_of, key_of}
use Rattle.hog_json.specs.Texts.{shown, text_in, json_text_of}
use Rattle.hog_json.specs.Reading.{kept_value}
use Rattle.hog_library.specs.Called.{called, print_called, fetch_called}
use Rattle.hog_library.specs.Natives.{values_called, length_called}
use Rattle.hog_library.specs.Texts.{begins_with, is_allowed}
use Rattle.hog_library.specs.Cells.{response}
use Rattle.hog_tree.specs.declared.tree.BinaryOp.TheVariants.{Plus, Minus, Greater}
use Rattle.hog_tree.specs.Plain.{Word, Exp, Stms, Int, Text, Name, Array, Binary, Prop, Call, Lambda, NoExp, MoreExp, OneExp, Let, Assign, Do, Return, Throw, If, ForIn, Fun, Try, Done, Then, SomeExp, NoneStms}
use Rattle.hog_meaning.specs.Meaning.{call_native}
use Rattle.hog_meaning.specs.Operators.{operated, accessed}
use Rattle.hog_meaning.specs.Program.{meaning, outcome, first_cells}

abbrev call : Word → Exp → Exp
call f e = Call (Name f) (MoreExp e NoExp)

-- `print(1); return 1 + 2;`
sum : meaning (Then (Do (call (codes "print") (Int (pos 1)))) (Then (Return (SomeExp (Binary Plus (Int (pos 1)) (Int (pos 2))))) Done)) (codes "{}") []
    ≡ record { trace = Printed (codes "1") ∷ []; end = Some (end.Done (codes "3")) }
unfolding meaning outcome first_cells made operated call_native called print_called native_named shown text_in digits kept_value serde_json_on_literals
sum = refl

-- `let x := 1; let f := y -> x; x := 2; return f(0);`: the function shares its variable
shared : meaning (Then (Let (codes "x") (SomeExp (Int (pos 1)))) (Then (Let (codes "f") (SomeExp (Lambda (codes "y" ∷ []) (OneExp (Name (codes "x"))))))
    (Then (Assign (Name (codes "x")) (Int (pos 2))) (Then (Return (SomeExp (call (codes "f") (Int (pos 0))))) Done)))) (codes "{}") []
    ≡ record { trace = []; end = Some (end.Done (codes "2")) }
unfolding meaning outcome first_cells made operated call_native called native_named shown text_in digits kept_value serde_json_on_literals
shared = refl

-- `try { throw 1; } catch (e) { return e + 1; }`
caught : meaning (Then (Try (Then (Throw (Int (pos 1))) Done) (codes "e") (Then (Return (SomeExp (Binary Plus (Name (codes "e")) (Int (pos 1))))) Done)) Done) (codes "{}") []
    ≡ record { trace = []; end = Some (end.Done (codes "2")) }
unfolding meaning outcome first_cells made operated shown text_in digits kept_value serde_json_on_literals
caught = refl

-- `let s := 0; for (let v in [1, 2]) { s := s + v; } return s;`
summed : meaning (Then (Let (codes "s") (SomeExp (Int (pos 0)))) (Then (ForIn None (codes "v") (Array (MoreExp (Int (pos 1)) (MoreExp (Int (pos 2)) NoExp)))
    (Then (Assign (Name (codes "s")) (Binary Plus (Name (codes "s")) (Name (codes "v")))) Done)) (Then (Return (SomeExp (Name (codes "s")))) Done))) (codes "{}") []
    ≡ record { trace = []; end = Some (end.Done (codes "3")) }
unfolding meaning outcome first_cells made operated accessed item_of call_native called values_called length_called native_named shown text_in digits kept_value serde_json_on_literals
summed = refl

-- `fun f(n) { if (n > 1) { return n + f(n - 1); } return n; } return f(2);`: the function calls itself
recursive : meaning (Then (Fun (codes "f") (codes "n" ∷ []) (Then (If (Binary Greater (Name (codes "n")) (Int (pos 1)))
    (Then (Return (SomeExp (Binary Plus (Name (codes "n")) (call (codes "f") (Binary Minus (Name (codes "n")) (Int (pos 1))))))) Done) NoneStms)
    (Then (Return (SomeExp (Name (codes "n")))) Done))) (Then (Return (SomeExp (call (codes "f") (Int (pos 2))))) Done)) (codes "{}") []
    ≡ record { trace = []; end = Some (end.Done (codes "3")) }
unfolding meaning outcome first_cells made operated truth_of call_native called native_named shown text_in digits kept_value serde_json_on_literals
recursive = refl

-- `return fetch("https://a").status;`
abbrev asking : Stms
asking = Then (Return (SomeExp (Prop (call (codes "fetch") (Text (codes "https://a"))) (codes "status")))) Done

-- with no reply it waits
waiting : meaning asking (codes "{}") []
    ≡ record { trace = Asked (record { url = codes "https://a"; options = codes "null" }) ∷ []; end = None }
unfolding meaning outcome first_cells made call_native called fetch_called native_named is_allowed begins_with json_text_of text_in kept_value serde_json_on_literals
waiting = refl

-- and with one it goes on
replied : meaning asking (codes "{}") (record { status = 200; body = codes "1" } ∷ [])
    ≡ record { trace = Asked (record { url = codes "https://a"; options = codes "null" }) ∷ []; end = Some (end.Done (codes "200")) }
unfolding meaning outcome first_cells made call_native called fetch_called response native_named is_allowed begins_with json_text_of key_of shown text_in digits kept_value serde_json_on_literals
replied = refl
