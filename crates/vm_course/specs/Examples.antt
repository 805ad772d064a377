-- The machine on small codes, computed.
use Rattle.std.specs.Prelude.{◌≡◌, pos, [], ◌∷◌, true, Some, codes}
use Rattle.std.proofs.Common.{refl}
use Rattle.std.specs.Fmt.{digits}
use Rattle.serde_json.proofs.OnLiterals.{serde_json_on_literals}
use Rattle.hog_value.specs.declared.trace.End.TheVariants as end
use Rattle.hog_value.specs.Operations.{made}
use Rattle.hog_json.specs.Texts.{shown, text_in}
use Rattle.hog_json.specs.Reading.{kept_value}
use Rattle.hog_ops.specs.Plain.{NoOp, MoreOp, Integer, Plus, Return, PushNull, Callable, CallLocal, GetUpvalue, SetLocal}
use Rattle.hog_meaning.specs.Operators.{operated}
use Rattle.hog_meaning.specs.Program.{first_cells}
use Rattle.vm_course.specs.Course.{machine, shown_by}
use Rattle.vm_course.specs.Step.{act}

-- `return 1 + 2;` ends after its first operation and four more
sum : shown_by (machine (MoreOp (Integer (pos 2)) (MoreOp (Integer (pos 1)) (MoreOp Plus (MoreOp Return (MoreOp PushNull (MoreOp Return NoOp)))))) (codes "{}") [] 4)
    ≡ record { trace = []; end = Some (end.Done (codes "3")) }
unfolding machine act first_cells made operated shown text_in digits kept_value serde_json_on_literals
sum = refl

-- `["_H",1,33,7,52,"f",2,1,3,55,0,38,53,1,true,0,54,2,38]`: a call with an argument too few, where the one that is there is
-- captured. It is closed with its value before it becomes a local.
missing_argument : shown_by (machine (MoreOp (Integer (pos 7)) (MoreOp (Callable (codes "f") 2 (MoreOp (GetUpvalue 0) (MoreOp Return NoOp)) (record { local = true; index = 0 } ∷ [])) (MoreOp (CallLocal 2) (MoreOp Return NoOp)))) (codes "{}") [] 6)
    ≡ record { trace = []; end = Some (end.Done (codes "7")) }
unfolding machine act first_cells made operated shown text_in digits kept_value serde_json_on_literals
missing_argument = refl

-- `["_H",1,33,7,52,"f",1,1,7,33,8,37,0,55,0,38,53,1,true,0,54,1,38]`: the argument is there, so it stays where it is, and what
-- the function writes to its local is read as the captured variable
open_argument : shown_by (machine (MoreOp (Integer (pos 7)) (MoreOp (Callable (codes "f") 1 (MoreOp (Integer (pos 8)) (MoreOp (SetLocal 0) (MoreOp (GetUpvalue 0) (MoreOp Return NoOp)))) (record { local = true; index = 0 } ∷ [])) (MoreOp (CallLocal 1) (MoreOp Return NoOp)))) (codes "{}") [] 8)
    ≡ record { trace = []; end = Some (end.Done (codes "8")) }
unfolding machine act first_cells made operated shown text_in digits kept_value serde_json_on_literals
open_argument = refl
