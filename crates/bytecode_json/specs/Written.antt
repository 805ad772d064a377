-- What private functions give and write.
use Rattle.std.specs.Prelude.{◌≡◌, pos, List, [], ◌∷◌, length, Result, Ok, Err}
use Rattle.std.specs.Borrow.{Bor}
use Rattle.serde_json.specs.Data.{Data}
use Rattle.serde_json.specs.declared.value.Value.{Value}
use Rattle.hog_ops.specs.declared.operation.CallableOp.{CallableOp}
use Rattle.hog_ops.specs.Elements.{Elem, Whole, Text}
use Rattle.hog_ops.specs.Table.{span}
use Rattle.bytecode_front.specs.declared.stop.CodeStop.{CodeStop}
use Rattle.bytecode_front.specs.Views.{views}

-- A function gave the elements behind the header, or refused so.
abbrev pub Behind : Result (Bor (List Value)) CodeStop → Result (List Data) CodeStop → Type 0
Behind (Ok vs) r = r ≡ Ok (views vs.now)
Behind (Err e) r = r ≡ Err e

-- what stands before the body of a function
abbrev pub head_elements : CallableOp → List Elem
head_elements c = Whole (pos 52) ∷ Text c.name ∷ Whole (pos c.params) ∷ Whole (pos (length c.captures)) ∷ Whole (pos (span c.body)) ∷ []
