-- What functions in small programs capture.
use Rattle.std.specs.Prelude.{◌≡◌, pos, [], ◌∷◌, true, false, Some, None, codes}
use Rattle.std.proofs.Common.{refl}
use Rattle.hog_tree.specs.declared.tree.BinaryOp.TheVariants as b
use Rattle.hog_tree.specs.Plain.{Word, Int, Name, Binary, Call, Lambda, NoExp, MoreExp, OneExp, ManyStms, Let, Assign, Return, Throw, ForIn, Try, Block, Done, Then, SomeExp}
use Rattle.hog_captures.specs.Frees.{is_among, without_all, body_frees, stms_frees}
use Rattle.hog_captures.specs.Frames.{Frame, find_local, find_up, captured_of, captures_of, with_local, with_hidden, inner_frame}

abbrev x : Word
x = codes "x"

abbrev y : Word
y = codes "y"

abbrev z : Word
z = codes "z"

-- a frame with a local x, two hidden ones, and y; z is captured
abbrev fr : Frame
fr = with_local (Some y) (with_hidden 2 (with_local (Some x) (record { locals = []; ups = z ∷ [] })))

-- hidden locals have places too
places : find_local fr.locals y ≡ Some 3
places = refl

-- of two locals of one name the nearest is found
nearest : find_local (with_local (Some x) fr).locals x ≡ Some 4
nearest = refl

-- `() -> y + x + y`: each once, in the order of the text
in_order : captured_of fr (body_frees (OneExp (Binary b.Plus (Binary b.Plus (Name y) (Name x)) (Name y)))) ≡ y ∷ x ∷ []
in_order = refl

taken : captures_of fr (y ∷ z ∷ []) ≡ record { local = true; index = 3 } ∷ record { local = false; index = 0 } ∷ []
taken = refl

-- `(x) -> x(y)`: a parameter hides the local
hidden : captured_of fr (without_all (x ∷ []) (body_frees (OneExp (Call (Name x) (MoreExp (Name y) NoExp))))) ≡ y ∷ []
hidden = refl

-- `() -> { let x := x; x := y; }`: the value of a `let` doesn't see its name
own_value : captured_of fr (body_frees (ManyStms (Then (Let x (SomeExp (Name x))) (Then (Assign (Name x) (Name y)) Done)))) ≡ x ∷ y ∷ []
own_value = refl

-- `() -> { try { throw x; } catch (y) { y := z; } }`
in_catch : captured_of fr (body_frees (ManyStms (Then (Try (Then (Throw (Name x)) Done) y (Then (Assign (Name y) (Name z)) Done)) Done))) ≡ x ∷ z ∷ []
in_catch = refl

-- `() -> { for (let y in y) { x := y; } }`: the name isn't seen in what is run over
run_over : captured_of fr (body_frees (ManyStms (Then (ForIn None y (Name y) (Then (Assign (Name x) (Name y)) Done)) Done))) ≡ y ∷ x ∷ []
run_over = refl

-- `fun y() { return y; }`: a function captures its own place
itself : captured_of (with_local (Some y) fr) (stms_frees true (Then (Return (SomeExp (Name y))) Done)) ≡ y ∷ []
itself = refl

-- `x := 1; { let f := () -> y; }`: functions take y, and not x
closes : is_among y (stms_frees false (Then (Assign (Name x) (Int (pos 1))) (Then (Block (Then (Let z (SomeExp (Lambda [] (OneExp (Name y))))) Done)) Done))) ≡ true
closes = refl

stays : is_among x (stms_frees false (Then (Assign (Name x) (Int (pos 1))) (Then (Block (Then (Let z (SomeExp (Lambda [] (OneExp (Name y))))) Done)) Done))) ≡ false
stays = refl

-- in the function the captured words are found by their order
inside : find_up (inner_frame (x ∷ []) (y ∷ z ∷ [])).ups z ≡ Some 1
inside = refl
