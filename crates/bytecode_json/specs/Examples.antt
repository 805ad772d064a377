-- Examples, computed.
use Rattle.std.specs.Prelude.{◌≡◌, Ok, Err, pos, negsuc, codes, [], ◌∷◌, true, List}
use Rattle.std.proofs.Common.{refl}
use Rattle.serde_json.proofs.OnLiterals.{serde_json_on_literals}
use Rattle.hog_value.specs.declared.native.Native.TheVariants as f
use Rattle.hog_value.specs.Natives.{native_named}
use Rattle.hog_ops.specs.Plain as o
use Rattle.hog_ops.specs.Plain.{NoOp, MoreOp}
use Rattle.bytecode_front.specs.declared.stop.CodeStop.TheVariants as stops
use Rattle.bytecode_front.specs.Front.{opened}
use Rattle.bytecode_front.specs.Reading.{read_ops}
use Rattle.bytecode_json.specs.Text.{decode_of, code_text}

outside : decode_of (codes "[\"_H\",1,9]") ≡ Err (stops.OutOfProfile 2 (pos 9))
unfolding serde_json_on_literals decode_of read_ops opened native_named
outside = refl

unknown : decode_of (codes "[\"_H\",1,99]") ≡ Err (stops.UnknownOp 2 (pos 99))
unfolding serde_json_on_literals decode_of read_ops opened native_named
unknown = refl

absent : decode_of (codes "[\"_H\",1,33]") ≡ Err (stops.BadOperand 2)
unfolding serde_json_on_literals decode_of read_ops opened native_named
absent = refl

version : decode_of (codes "[\"_H\",2]") ≡ Err (stops.Version (pos 2))
unfolding serde_json_on_literals decode_of read_ops opened native_named
version = refl

no_header : decode_of (codes "[]") ≡ Err stops.NoHeader
unfolding serde_json_on_literals decode_of read_ops opened native_named
no_header = refl

no_json : decode_of (codes "[") ≡ Err stops.NotJson
unfolding serde_json_on_literals decode_of read_ops opened native_named
no_json = refl

callable_first : decode_of (codes "[\"_H\",1,52,\"f\",0,0,1,99,53,1]") ≡ Err (stops.BadOperand 2)
unfolding serde_json_on_literals decode_of read_ops opened native_named
callable_first = refl

row_30 : decode_of (codes "[\"_H\",1,52,\"lambda\",1,0,6,33,2,36,0,8,38,53,0,33,4,36,0,54,1,38,31,38]") ≡ Ok (MoreOp (o.Callable (codes "lambda") 1 (MoreOp (o.Integer (pos 2)) (MoreOp (o.GetLocal 0) (MoreOp o.Multiply (MoreOp o.Return NoOp)))) []) (MoreOp (o.Integer (pos 4)) (MoreOp (o.GetLocal 0) (MoreOp (o.CallLocal 1) (MoreOp o.Return (MoreOp o.PushNull (MoreOp o.Return NoOp)))))))
unfolding serde_json_on_literals decode_of read_ops opened native_named
row_30 = refl

closure_alone : decode_of (codes "[\"_H\",1,53,0]") ≡ Err (stops.OutOfProfile 2 (pos 53))
unfolding serde_json_on_literals decode_of read_ops opened native_named
closure_alone = refl

jump_short : decode_of (codes "[\"_H\",1,39,1,33,1]") ≡ Err (stops.BadOperand 2)
unfolding serde_json_on_literals decode_of read_ops opened native_named
jump_short = refl

fault_before_jump : decode_of (codes "[\"_H\",1,39,1,33,1,99]") ≡ Err (stops.UnknownOp 6 (pos 99))
unfolding serde_json_on_literals decode_of read_ops opened native_named
fault_before_jump = refl

back_if_false : decode_of (codes "[\"_H\",1,31,40,-3]") ≡ Err (stops.BadOperand 3)
unfolding serde_json_on_literals decode_of read_ops opened native_named
back_if_false = refl

back : decode_of (codes "[\"_H\",1,31,39,-3]") ≡ Ok (MoreOp o.PushNull (MoreOp (o.Jump (negsuc 2)) NoOp))
unfolding serde_json_on_literals decode_of read_ops opened native_named
back = refl
