-- What was read of a state are parts of a machine.
use Rattle.std.proofs.Common.{◌≡◌, ℕ, ◌*◌, ◌≤◌, List, [], ◌∷◌, length, reverse, Bool, true, false, ◌&&◌, ◌==◌, not, map, Option, Some, None, refl, sym, ap, ◌∙◌, arith}
use Rattle.std.proofs.lemmas.Bool.Decides.{nat_tests}
use Rattle.std.proofs.lemmas.List.{length-map}
use Rattle.std.proofs.lemmas.List.Folds.{list_all-map}
use Rattle.std.specs.Prelude.{IsTrue, is_some, nat_le}
use Rattle.std.specs.List.{AllByRecursion, list_all}
use Rattle.hog_value.specs.declared.cell.FunCell.{FunCell}
use Rattle.hog_value.specs.declared.trace.End.{End}
use Rattle.hog_value.specs.declared.trace.TraceItem.{TraceItem}
use Rattle.hog_value.specs.Values.{Val}
use Rattle.hog_value.specs.Cells.{HeapOf, IsSound}
use Rattle.hog_value.specs.Meters.{max_turns, max_units, max_depth}
use Rattle.hog_value.specs.Views.{cell_of}
use Rattle.hog_meaning.specs.Meaning.{most_requests}
use Rattle.vm_course.specs.State.{Upvalue, Frame, ThrowFrame, Mode}
use Rattle.vm_course.specs.Run.{RunState}
use Rattle.vm_frames.specs.Parts.{places_differ}
use Rattle.vm_frames.specs.Views.{upvalue_of}
use Rattle.vm_operations.specs.Seen as seen
use Rattle.state_forms.specs.Values.{CellFits}
use Rattle.state_forms.specs.Calls.{mode_of}
use Rattle.vm_state.specs.declared.parts.Parts.{Parts}
use Rattle.vm_course.specs.States.{requests_in, names, cell_stands, later_frames, frames_stand, throws_stand, globals_stand, waits_for, is_state}
use Rattle.vm_state.specs.Parts.{state_of, counts_hold, calls_hold, values_hold, parts_hold, upvalues_hold}
use Rattle.vm_state.proofs.Parted.{is_held}
use Rattle.vm_operations.proofs.Passing.{both}
use Rattle.vm_state.proofs.Facts.{closed_by, distinct_by, apart}

within : (a b : ℕ) → nat_le a b ≡ true → a ≤ b
within a b h = grind (arith, nat_tests)

frames_few : (h : HeapOf FunCell) (height : ℕ) (fs : List Frame) → frames_stand h height fs ≡ true → (1 ≤ length fs) × (length fs ≤ 257)
frames_few h height [] e = absurd cc
frames_few h height (f ∷ fs) e =
    let all = both (not (is_some f.function) && (f.base == 0) && nat_le (length fs) max_depth) (later_frames h height 0 fs) e in
    let few : length fs ≤ 256 = within (length fs) max_depth (both (not (is_some f.function) && (f.base == 0)) (nat_le (length fs) max_depth) all.0).1 in
    (omega arith, omega (arith, few))

-- what holds of what was read
pub record Holds (p : Parts) : Type 0 where
  pub turns : p.counts.turns ≤ max_turns
  pub units : p.counts.units ≤ max_units
  pub sound : IsSound (map cell_of p.held.cells.items)
  pub some : 1 ≤ length p.calls.frames.items
  pub few : length p.calls.frames.items ≤ 257
  pub differ : places_differ (map upvalue_of p.held.upvalues.items) ≡ true

pub holds : (p : Parts) → is_state (state_of p) ≡ true → AllByRecursion CellFits (map cell_of p.held.cells.items) → Holds p
holds p e fits =
    let count = length p.held.cells.items in
    let cells = map cell_of p.held.cells.items in
    let height = length p.calls.stack.items in
    let counts = counts_hold p.counts p.held in
    let calls = calls_hold p.calls p.held in
    let values = values_hold p.calls p.held in
    let globals = globals_stand cells (mode_of p.waiting p.end) p.globals in
    let waits = waits_for (mode_of p.waiting p.end) p.held.trace.items in
    let turns_few = nat_le p.counts.turns max_turns in
    let units_few = nat_le p.counts.units max_units in
    let covered_well = nat_le (8 * count) p.counts.units in
    let whole = both (parts_hold p) (upvalues_hold p) (sym (is_held p) ∙ e) in
    let first = both (counts && calls && values && globals) waits whole.0 in
    let second = both (counts && calls && values) globals first.0 in
    let third = both (counts && calls) values second.0 in
    let fourth = both counts calls third.0 in
    let metered = both (turns_few && units_few && covered_well) (nat_le (requests_in p.held.trace.items) most_requests) fourth.0 in
    let covered = both (turns_few && units_few) covered_well metered.0 in
    let spent = both turns_few units_few covered.0 in
    let frames = both (frames_stand cells height p.calls.frames.items) (throws_stand p.calls.frames.items height 0 0 p.calls.throws.items) fourth.1 in
    let few = frames_few cells height p.calls.frames.items frames.0 in
    let named = both (list_all (names count) p.calls.stack.items) (list_all (λ cell. cell_stands count (length p.held.upvalues.items) (cell_of cell)) p.held.cells.items) third.1 in
    let standing : list_all (cell_stands count (length p.held.upvalues.items)) cells ≡ true =
    list_all-map (cell_stands count (length p.held.upvalues.items)) cell_of p.held.cells.items ∙ named.1 in record {
      turns = within p.counts.turns max_turns spent.0;
      units = within p.counts.units max_units spent.1;
      sound = (closed_by (length p.held.upvalues.items) cells (ap (λ n. list_all (cell_stands n (length p.held.upvalues.items)) cells) (length-map p.held.cells.items cell_of) ∙ standing), distinct_by cells fits);
      some = few.0;
      few = few.1;
      differ = (apart count (length p.calls.stack.items) [] (map upvalue_of p.held.upvalues.items) whole.1).differ;
    }

abbrev pub run : Parts → List Val → List Frame → List ThrowFrame → List Upvalue → HeapOf FunCell → List TraceItem → Mode → RunState
run p stack frames throws upvalues heap trace mode = record {
  ops = p.counts.ops;
  used = p.counts.used;
  globals = p.globals;
  state = record {
    stack = stack;
    frames = frames;
    throws = throws;
    upvalues = upvalues;
    heap = heap;
    turns = p.counts.turns;
    units = p.counts.units;
    trace = trace;
    replies = [];
    mode = mode;
  };
}

-- the parts that are made of it are those of the same run
pub same_run : (p : Parts) (stack : List Val) (frames : List Frame) (throws : List ThrowFrame) (upvalues : List Upvalue) (heap : HeapOf FunCell) (trace : List TraceItem) (mode : Mode)
    → stack ≡ reverse p.calls.stack.items → frames ≡ reverse p.calls.frames.items → throws ≡ reverse p.calls.throws.items → upvalues ≡ map upvalue_of p.held.upvalues.items
    → heap ≡ map cell_of p.held.cells.items → trace ≡ p.held.trace.items → mode ≡ mode_of p.waiting p.end
    → run p stack frames throws upvalues heap trace mode ≡ state_of p
same_run p stack frames throws upvalues heap trace mode a b c d e f g =
    ap (λ x. run p x frames throws upvalues heap trace mode) a
    ∙ ap (λ x. run p (reverse p.calls.stack.items) x throws upvalues heap trace mode) b
    ∙ ap (λ x. run p (reverse p.calls.stack.items) (reverse p.calls.frames.items) x upvalues heap trace mode) c
    ∙ ap (λ x. run p (reverse p.calls.stack.items) (reverse p.calls.frames.items) (reverse p.calls.throws.items) x heap trace mode) d
    ∙ ap (λ x. run p (reverse p.calls.stack.items) (reverse p.calls.frames.items) (reverse p.calls.throws.items) (map upvalue_of p.held.upvalues.items) x trace mode) e
    ∙ ap (λ x. run p (reverse p.calls.stack.items) (reverse p.calls.frames.items) (reverse p.calls.throws.items) (map upvalue_of p.held.upvalues.items) (map cell_of p.held.cells.items) x mode) f
    ∙ ap (λ x. run p (reverse p.calls.stack.items) (reverse p.calls.frames.items) (reverse p.calls.throws.items) (map upvalue_of p.held.upvalues.items) (map cell_of p.held.cells.items) p.held.trace.items x) g

pub modes : (waiting : Bool) (e : Option End) → seen.mode_of waiting e ≡ mode_of waiting e
modes true None = refl
modes false None = refl
modes waiting (Some e) = refl

pub is_true : (b : Bool) → b ≡ true → IsTrue b
is_true true e = refl
is_true false e = absurd cc
