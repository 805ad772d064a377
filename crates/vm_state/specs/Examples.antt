-- The machine of `return 1;` after its first operation and one more, saved, loaded, and refused in each way; and one that no
-- run comes to, which is loaded too.
use Rattle.std.specs.Prelude.{◌≡◌, pos, [], ◌∷◌, Some, None, Ok, Err, codes}
use Rattle.std.proofs.Common.{refl}
use Rattle.std.specs.Fmt.{digits}
use Rattle.serde_json.proofs.OnLiterals.{serde_json_on_literals}
use Rattle.hog_value.specs.declared.value.Value.TheVariants.{Int}
use Rattle.hog_value.specs.Cells.{Dict}
use Rattle.hog_ops.specs.Plain.{Ops, NoOp, MoreOp, Integer, PushNull, Return}
use Rattle.vm_course.specs.State.{Running}
use Rattle.state_forms.specs.Shapes.{list_by}
use Rattle.vm_state.specs.declared.stop.StateStop.TheVariants as stops
use Rattle.vm_course.specs.Run.{RunState}
use Rattle.vm_state.specs.declared.parts.Format.TheVariants.{First}
use Rattle.vm_state.specs.Layout.{counts_in, calls_in, held_in, lists_in, rest_in}
use Rattle.vm_course.specs.States.{is_state}
use Rattle.vm_state.specs.Tests.{is_written}
use Rattle.vm_course.specs.Belongs.{belongs}
use Rattle.vm_state.specs.Text.{text_in, state_text, state_in, of_read, load_of}

-- ["_H",1,33,1,38,31,38]
abbrev one : Ops
one = MoreOp (Integer (pos 1)) (MoreOp Return (MoreOp PushNull (MoreOp Return NoOp)))

abbrev after_two : RunState
after_two = record {
  ops = 2;
  used = 0;
  globals = Some 0;
  state = record {
    stack = Int (pos 1) ∷ [];
    frames = record { place = 4; base = 0; function = None } ∷ [];
    throws = [];
    upvalues = [];
    heap = Dict [] ∷ [];
    turns = 0;
    units = 8;
    trace = [];
    replies = [];
    mode = Running;
  };
}

saved : state_text after_two ≡ codes "[\"hog-state\",2,2,0,8,0,0,0,null,[1],[[4,0,null]],[],[],[[\"d\",[]]],[]]"
unfolding text_in digits serde_json_on_literals
saved = refl

saved_before : text_in First after_two ≡ codes "[\"hog-state\",1,2,0,8,0,0,null,[1],[[4,0,null]],[],[],[[\"d\",[]]],[]]"
unfolding text_in digits serde_json_on_literals
saved_before = refl

loaded : load_of one (codes "[\"hog-state\",2,2,0,8,0,0,0,null,[1],[[4,0,null]],[],[],[[\"d\",[]]],[]]") ≡ Ok after_two
unfolding load_of of_read state_in is_written is_state belongs text_in rest_in lists_in counts_in calls_in held_in list_by digits serde_json_on_literals
loaded = refl

loaded_old : load_of one (codes "[\"hog-state\",1,2,0,8,0,0,null,[1],[[4,0,null]],[],[],[[\"d\",[]]],[]]") ≡ Ok after_two
unfolding load_of of_read state_in is_written is_state belongs text_in rest_in lists_in counts_in calls_in held_in list_by digits serde_json_on_literals
loaded_old = refl

no_json : load_of one (codes "[") ≡ Err stops.NotJson
unfolding load_of of_read state_in is_written is_state belongs text_in rest_in lists_in counts_in calls_in held_in list_by digits serde_json_on_literals
no_json = refl

no_state : load_of one (codes "[]") ≡ Err stops.NotAState
unfolding load_of of_read state_in is_written is_state belongs text_in rest_in lists_in counts_in calls_in held_in list_by digits serde_json_on_literals
no_state = refl

-- no cell 1
no_cell : load_of one (codes "[\"hog-state\",2,2,0,8,0,0,0,null,[[1]],[[4,0,null]],[],[],[[\"d\",[]]],[]]") ≡ Err stops.NotAState
unfolding load_of of_read state_in is_written is_state belongs text_in rest_in lists_in counts_in calls_in held_in list_by digits serde_json_on_literals
no_cell = refl

-- the operand of INTEGER
no_operation : load_of one (codes "[\"hog-state\",2,2,0,8,0,0,0,null,[1],[[3,0,null]],[],[],[[\"d\",[]]],[]]") ≡ Err stops.NotThisCode
unfolding load_of of_read state_in is_written is_state belongs text_in rest_in lists_in counts_in calls_in held_in list_by digits serde_json_on_literals
no_operation = refl

spaced : load_of one (codes "[\"hog-state\", 2,2,0,8,0,0,0,null,[1],[[4,0,null]],[],[],[[\"d\",[]]],[]]") ≡ Err stops.NotCanonical
unfolding load_of of_read state_in is_written is_state belongs text_in rest_in lists_in counts_in calls_in held_in list_by digits serde_json_on_literals
spaced = refl

-- the machine behind the first operation, but for how many operations it says
abbrev after_nine : RunState
after_nine = record {
  ops = 9;
  used = 0;
  globals = Some 0;
  state = record {
    stack = [];
    frames = record { place = 2; base = 0; function = None } ∷ [];
    throws = [];
    upvalues = [];
    heap = Dict [] ∷ [];
    turns = 0;
    units = 8;
    trace = [];
    replies = [];
    mode = Running;
  };
}

loaded_nine : load_of one (codes "[\"hog-state\",2,9,0,8,0,0,0,null,[],[[2,0,null]],[],[],[[\"d\",[]]],[]]") ≡ Ok after_nine
unfolding load_of of_read state_in is_written is_state belongs text_in rest_in lists_in counts_in calls_in held_in list_by digits serde_json_on_literals
loaded_nine = refl
