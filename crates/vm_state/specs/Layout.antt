-- How a machine is written as JSON data, and how data is read as a machine.
use Rattle.std.specs.Prelude.{ℕ, ◌==◌, List, [], ◌∷◌, ◌++◌, Option, Some, None, if◌then◌else◌, map, reverse, codes, bytes_eq}
use Rattle.serde_json.specs.Data.{Data, string}
use Rattle.serde_json.specs.Find.{as_str}
use Rattle.hog_value.specs.declared.cell.FunCell.{FunCell}
use Rattle.hog_value.specs.declared.trace.TraceItem.{TraceItem}
use Rattle.hog_value.specs.Values.{Val}
use Rattle.hog_value.specs.Cells.{HeapOf}
use Rattle.state_forms.specs.Shapes.{◌>>=◌, list_in, list, list_by, u32_in, u64_in, number_data, maybe_in, maybe_data}
use Rattle.state_forms.specs.Values.{value_in, value_data, cell_in, cell_data}
use Rattle.state_forms.specs.Shown.{item_in, item_data}
use Rattle.state_forms.specs.Calls.{frame_in, frame_data, throw_in, throw_data, upvalue_in, upvalue_data, mode_in, mode_data}
use Rattle.vm_course.specs.State.{Upvalue, Frame, ThrowFrame, Mode}
use Rattle.vm_course.specs.Run.{RunState}
use Rattle.vm_state.specs.declared.parts.Format.{Format}
use Rattle.vm_state.specs.declared.parts.Format.TheVariants.{First, Second}
use Rattle.vm_course.specs.States.{requests_in}
use Rattle.vm_state.specs.Saved.{Written}

-- Stack, frames and throw frames are written from the bottom: the program's frame comes first.

-- ops, turns, units, used
pub record Counts : Type 0 where
  pub ops : ℕ
  pub turns : ℕ
  pub units : ℕ
  pub used : ℕ

unfoldable pub counts_in : Data → Data → Data → Data → Option Counts
counts_in ops turns units used =
    u64_in ops >>= λ o. u32_in turns >>= λ t. u32_in units >>= λ n. u64_in used >>= λ u. Some record { ops = o; turns = t; units = n; used = u }

-- stack, frames, throws
pub record Calls : Type 0 where
  pub stack : List Val
  pub frames : List Frame
  pub throws : List ThrowFrame

unfoldable pub calls_in : Data → Data → Data → Option Calls
calls_in stack frames throws =
    list_by value_in stack >>= λ s. list_by frame_in frames >>= λ f. list_by throw_in throws >>= λ t. Some record { stack = s; frames = f; throws = t }

-- upvalues, heap, trace
pub record Held : Type 0 where
  pub upvalues : List Upvalue
  pub heap : HeapOf FunCell
  pub trace : List TraceItem

unfoldable pub held_in : Data → Data → Data → Option Held
held_in upvalues heap trace =
    list_by upvalue_in upvalues >>= λ u. list_by cell_in heap >>= λ h. list_by item_in trace >>= λ t. Some record { upvalues = u; heap = h; trace = t }

abbrev pub saved_of : Counts → Option ℕ → Mode → Calls → Held → RunState
saved_of n globals mode c h = record {
  ops = n.ops;
  used = n.used;
  globals = globals;
  state = record {
    stack = reverse c.stack;
    frames = reverse c.frames;
    throws = reverse c.throws;
    upvalues = h.upvalues;
    heap = h.heap;
    turns = n.turns;
    units = n.units;
    trace = h.trace;
    replies = [];
    mode = mode;
  };
}

-- stack, frames, throws, upvalues, heap, trace
unfoldable pub lists_in : List Data → Option (Calls × Held)
lists_in (stack ∷ frames ∷ throws ∷ upvalues ∷ heap ∷ trace ∷ []) =
    calls_in stack frames throws >>= λ c. held_in upvalues heap trace >>= λ h. Some (c, h)
lists_in _ = None

-- the elements behind the counts: globals, end, and the lists
unfoldable pub rest_in : Counts → List Data → Option RunState
rest_in n (globals ∷ ending ∷ lists) =
    maybe_in u32_in globals >>= λ g. lists_in lists >>= λ l. mode_in ending >>= λ m. Some (saved_of n g m l.0 l.1)
rest_in n _ = None

-- the number of requests stands before them in the second format; of the first it is counted
abbrev pub rest_by : Format → Counts → List Data → Option Written
rest_by First n ds = rest_in n ds >>= λ m. Some record { format = First; asked = requests_in m.state.trace; saved = m }
rest_by Second n [] = None
rest_by Second n (asked ∷ ds) = u32_in asked >>= λ a. rest_in n ds >>= λ m. Some record { format = Second; asked = a; saved = m }

abbrev pub format_named : List ℕ → ℕ → Option Format
format_named word number =
    if bytes_eq word (codes "hog-state") then (if number == 1 then Some First else (if number == 2 then Some Second else None)) else None

abbrev pub format_by : Data → Data → Option Format
format_by name version = as_str name >>= λ word. u64_in version >>= λ n. format_named word n

abbrev pub format_in : List Data → Option Format
format_in (name ∷ version ∷ ds) = format_by name version
format_in _ = None

-- ["hog-state",1,ops,turns,units,used,globals,end,stack,frames,throws,upvalues,heap,trace], or
-- ["hog-state",2,ops,turns,units,used,asked,globals,end,stack,frames,throws,upvalues,heap,trace]
abbrev pub written_by : Format → List Data → Option Written
written_by format (ops ∷ turns ∷ units ∷ used ∷ ds) = counts_in ops turns units used >>= λ n. rest_by format n ds
written_by format _ = None

abbrev pub behind_format : List Data → List Data
behind_format (name ∷ version ∷ ds) = ds
behind_format _ = []

abbrev pub written_in_list : List Data → Option Written
written_in_list ds = format_in ds >>= λ format. written_by format (behind_format ds)

abbrev pub written_in : Data → Option Written
written_in d = list_in d >>= written_in_list

-- the elements of a machine's text in a format
abbrev pub rest_data : RunState → List Data
rest_data m =
    maybe_data number_data m.globals ∷ mode_data m.state.mode ∷ list (map value_data (reverse m.state.stack))
    ∷ list (map frame_data (reverse m.state.frames)) ∷ list (map throw_data (reverse m.state.throws))
    ∷ list (map upvalue_data m.state.upvalues) ∷ list (map cell_data m.state.heap) ∷ list (map item_data m.state.trace) ∷ []

abbrev pub counts_data : RunState → List Data
counts_data m = number_data m.ops ∷ number_data m.state.turns ∷ number_data m.state.units ∷ number_data m.used ∷ []

abbrev pub asked_data : Format → RunState → List Data
asked_data First m = []
asked_data Second m = number_data (requests_in m.state.trace) ∷ []

abbrev pub number_of_format : Format → ℕ
number_of_format First = 1
number_of_format Second = 2

abbrev pub elements_of : Format → RunState → List Data
elements_of format m = string (codes "hog-state") ∷ number_data (number_of_format format) ∷ counts_data m ++ (asked_data format m ++ rest_data m)

abbrev pub saved_data : Format → RunState → Data
saved_data format m = list (elements_of format m)
