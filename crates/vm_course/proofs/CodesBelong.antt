-- Runs belong to their codes.
use Rattle.std.proofs.Common.{◌≡◌, ℕ, zero, suc, ◌+◌, ◌-◌, List, [], ◌∷◌, ◌++◌, length, Option, Some, None, Bool, true, false, cond, refl, sym, ap, ap₂, ◌∙◌, subst, arith, append_assoc, append-nil}
use Rattle.std.specs.Prelude.{◌&&◌, slice_get, option_and_then, is_some, bytes_eq, nat_le}
use Rattle.std.specs.List.{list_all}
use Rattle.std.proofs.lemmas.Option.{none-some}
use Rattle.std.proofs.lemmas.Slice.Eq.{bytes_eq-Decides}
use Rattle.hog_value.specs.declared.cell.FunCell.{FunCell}
use Rattle.hog_value.specs.Values.{Val}
use Rattle.hog_value.specs.declared.value.Value.TheVariants.{Ref}
use Rattle.hog_value.specs.Meters.{max_units}
use Rattle.hog_value.specs.Cells.{CellOf, Text, Array, Dict, Fun, HeapOf, text_at, heap_map, cost_of_cell}
use Rattle.hog_value.specs.Operations as op
use Rattle.hog_value.specs.Operations.{Outcome, outcome_map, made}
use Rattle.hog_json.specs.Reading.{outcome_and_then, read_cells, kept_value, Grows}
use Rattle.hog_json.proofs.Naturality.{outcome_map-outcome_and_then, read_cells-heap_map}
use Rattle.hog_json.proofs.Growing.{read_cells-grows}
use Rattle.hog_library.specs.Cells.{texts_made}
use Rattle.hog_library.proofs.Naturality.{texts_made-heap_map}
use Rattle.hog_ops.specs.Plain.{Op, Ops, Callable}
use Rattle.hog_ops.specs.Table.{Row, Alone, Counts, Leads, Calls, Spells, Gives, Holds, row, size}
use Rattle.hog_ops.specs.Valid.{IsCode}
use Rattle.hog_meaning.specs.Program.{first_cells}
use Rattle.hog_meaning.specs.World.{Reply}
use Rattle.vm_course.specs.State.{Slot, Begins, BodyEnds, Operand, code_slots, header, Frame, ThrowFrame, Running, Waiting, Ended, Mode, State, params_of, params_in}
use Rattle.vm_course.specs.Step.{step, take_reply}
use Rattle.vm_course.specs.Course.{literals_of_code}
use Rattle.vm_course.specs.Run.{RunState, begun_with, begun, fixed_of, one_more, where_running, run_for, resumed}
use Rattle.vm_course.specs.Belongs.{is_place, is_body, cell_belongs, is_text, begins_with, literals_belong, places_belong, belongs}
use Rattle.vm_course.specs.Fits.{row_leads_to}
use Rattle.vm_course.proofs.CodesHeaps.{AllFuns, FunIs, FunsFair, Keeps, natural_fair}
use Rattle.vm_course.proofs.CodesMoves.{FramesAre, CatchesAre, Sound, Moves, LeadsTo, Makes, Fitting, step_moves, reply_moves}
use Rattle.vm_course.proofs.CodesFit.{code_good, code_begins}

-- functions whose bodies are those of the code, and its places
abbrev IsFun : List Slot → FunCell → Type 0
IsFun code f = is_body code f.place ≡ true

abbrev IsAt : List Slot → ℕ → Type 0
IsAt code n = is_place code n ≡ true

and_true : (a b : Bool) → (a && b) ≡ true → (a ≡ true) × (b ≡ true)
and_true true b e = (refl, e)
and_true false b e = absurd cc

both : (a b : Bool) → a ≡ true → b ≡ true → (a && b) ≡ true
both a b h k = ap₂ (λ x y. x && y) h k

-- ---- the tests say what they test

module _ (code : List Slot) where
  frames_of : (fs : List Frame) → list_all (λ f. is_place code f.place) fs ≡ true → FramesAre (IsFun code) (IsAt code) fs
  frames_of [] h = tt
  frames_of (f ∷ fs) h = let k = and_true (is_place code f.place) (list_all (λ f. is_place code f.place) fs) h in (k.0, frames_of fs k.1)

  frames_back : (fs : List Frame) → FramesAre (IsFun code) (IsAt code) fs → list_all (λ f. is_place code f.place) fs ≡ true
  frames_back [] h = refl
  frames_back (f ∷ fs) h = both (is_place code f.place) (list_all (λ f. is_place code f.place) fs) h.0 (frames_back fs h.1)

  catches_of : (ts : List ThrowFrame) → list_all (λ t. is_place code t.catch) ts ≡ true → CatchesAre (IsFun code) (IsAt code) ts
  catches_of [] h = tt
  catches_of (t ∷ ts) h = let k = and_true (is_place code t.catch) (list_all (λ t. is_place code t.catch) ts) h in (k.0, catches_of ts k.1)

  catches_back : (ts : List ThrowFrame) → CatchesAre (IsFun code) (IsAt code) ts → list_all (λ t. is_place code t.catch) ts ≡ true
  catches_back [] h = refl
  catches_back (t ∷ ts) h = both (is_place code t.catch) (list_all (λ t. is_place code t.catch) ts) h.0 (catches_back ts h.1)

  cell_of : (c : CellOf FunCell) → cell_belongs code c ≡ true → FunIs (IsFun code) c
  cell_of (Text t) h = tt
  cell_of (Array vs) h = tt
  cell_of (Dict ps) h = tt
  cell_of (Fun f) h = h

  cell_back : (c : CellOf FunCell) → FunIs (IsFun code) c → cell_belongs code c ≡ true
  cell_back (Text t) h = refl
  cell_back (Array vs) h = refl
  cell_back (Dict ps) h = refl
  cell_back (Fun f) h = h

  funs_of : (cs : HeapOf FunCell) → list_all (cell_belongs code) cs ≡ true → AllFuns (IsFun code) cs
  funs_of [] h = tt
  funs_of (c ∷ cs) h = let k = and_true (cell_belongs code c) (list_all (cell_belongs code) cs) h in (cell_of c k.0, funs_of cs k.1)

  funs_back : (cs : HeapOf FunCell) → AllFuns (IsFun code) cs → list_all (cell_belongs code) cs ≡ true
  funs_back [] h = refl
  funs_back (c ∷ cs) h = both (cell_belongs code c) (list_all (cell_belongs code) cs) (cell_back c h.0) (funs_back cs h.1)

  sound_of : (s : State) → places_belong code s ≡ true → Sound (IsFun code) (IsAt code) s
  sound_of s h =
      let fs = list_all (λ f. is_place code f.place) s.frames in
      let ts = list_all (λ t. is_place code t.catch) s.throws in
      let a = and_true (fs && ts) (list_all (cell_belongs code) s.heap) h in
      let b = and_true fs ts a.0 in
      record { frames = frames_of s.frames b.0; catches = catches_of s.throws b.1; funs = funs_of s.heap a.1 }

  sound_back : (s : State) → Sound (IsFun code) (IsAt code) s → places_belong code s ≡ true
  sound_back s h =
      let fs = list_all (λ f. is_place code f.place) s.frames in
      let ts = list_all (λ t. is_place code t.catch) s.throws in
      both (fs && ts) (list_all (cell_belongs code) s.heap) (both fs ts (frames_back s.frames h.frames) (catches_back s.throws h.catches)) (funs_back s.heap h.funs)

-- ---- what a code's operations are

-- a place less a header, where something stands that isn't of the header of the code
no_header : (code : Ops) (n : ℕ) (o : Op) → slice_get (code_slots code) (n - header) ≡ Some (Begins o) → n ≡ n - header + header
no_header code n o e = at (n - header) refl e
  where
    at : (k : ℕ) → n - header ≡ k → slice_get (code_slots code) k ≡ Some (Begins o) → n ≡ n - header + header
    at zero z e = absurd cc
    at (suc k) z e = omega arith

holds_place : (code : Ops) → IsCode code → (n : ℕ) (o : Op) → slice_get (code_slots code) (n - header) ≡ Some (Begins o) → is_some (params_of o) ≡ true → is_place (code_slots code) n ≡ true
holds_place code is n (Callable name params inner captures) e h =
    subst (λ k. is_place (code_slots code) k ≡ true) (sym (no_header code n (Callable name params inner captures) e)) (code_good code (n - header) (Callable name params inner captures) is e).holds
holds_place code is n o e h = absurd cc

-- where a body begins is a place
body_place : (code : Ops) → IsCode code → (f : FunCell) → IsFun (code_slots code) f → IsAt (code_slots code) f.place
body_place code is f h = go (slice_get (code_slots code) (f.place - header)) refl h
  where
    go : (x : Option Slot) → slice_get (code_slots code) (f.place - header) ≡ x → is_some (option_and_then params_in x) ≡ true → is_place (code_slots code) f.place ≡ true
    go None e h = absurd cc
    go (Some (Begins o)) e h = holds_place code is f.place o e h
    go (Some BodyEnds) e h = absurd cc
    go (Some Operand) e h = absurd cc

leads_of : (code : List Slot) (behind : ℕ) (r : Row) → row_leads_to code behind r ≡ true → LeadsTo (IsFun code) (IsAt code) behind r
leads_of code behind (Alone n) h = tt
leads_of code behind (Counts n least count) h = tt
leads_of code behind (Leads n d) h = h
leads_of code behind (Calls f n) h = tt
leads_of code behind (Spells t) h = tt
leads_of code behind (Gives z) h = tt
leads_of code behind (Holds name params inner captures) h = tt

made_body : (code : List Slot) (place : ℕ) (o : Op) → slice_get code place ≡ Some (Begins o) → is_some (params_of o) ≡ true → is_body code (place + header) ≡ true
made_body code place o e h =
    let there : place + header - header ≡ place = omega arith in
    ap (λ k. is_some (option_and_then params_in (slice_get code k))) there ∙ ap (λ x. is_some (option_and_then params_in x)) e ∙ h

makes_of : (code : List Slot) (place : ℕ) (o : Op) → slice_get code place ≡ Some (Begins o) → Makes (IsFun code) (IsAt code) place (row o)
makes_of code place (Callable name params inner captures) e = λ cs. made_body code place (Callable name params inner captures) e refl
makes_of code place o e = tt

fitting : (code : Ops) → IsCode code → (place : ℕ) (o : Op) → slice_get (code_slots code) place ≡ Some (Begins o) → Fitting (IsFun (code_slots code)) (IsAt (code_slots code)) place o
fitting code is place o e =
    let good = code_good code place o is e in
    record { goes_on = good.fits.goes_on; leads = leads_of (code_slots code) (place + size o) (row o) good.fits.leads; makes = makes_of (code_slots code) place o e }

-- ---- the first cells stay the literals

is_text_kept : (t : List ℕ) (c c1 : CellOf FunCell) (cs cs1 : HeapOf FunCell) → Keeps (c ∷ cs) (c1 ∷ cs1) → is_text t c ≡ true → is_text t c1 ≡ true
is_text_kept t (Text u) c1 cs cs1 k h = go c1 (k.texts 0 u refl)
  where
    go : (c1 : CellOf FunCell) → text_at (c1 ∷ cs1) 0 ≡ Some u → is_text t c1 ≡ true
    go (Text w) e = let same : w ≡ u = cc in ap (bytes_eq t) same ∙ h
    go (Array vs) e = absurd (none-some u e)
    go (Dict ps) e = absurd (none-some u e)
    go (Fun f) e = absurd (none-some u e)
is_text_kept t (Array vs) c1 cs cs1 k h = absurd cc
is_text_kept t (Dict ps) c1 cs cs1 k h = absurd cc
is_text_kept t (Fun f) c1 cs cs1 k h = absurd cc

keeps_rest : (c c1 : CellOf FunCell) (cs cs1 : HeapOf FunCell) → Keeps (c ∷ cs) (c1 ∷ cs1) → Keeps cs cs1
keeps_rest c c1 cs cs1 k = record { longer = omega (arith, k.longer); texts = λ n t e. k.texts (suc n) t e }

begins_kept : (ts : List (List ℕ)) (h h1 : HeapOf FunCell) → Keeps h h1 → begins_with ts h ≡ true → begins_with ts h1 ≡ true
begins_kept [] h h1 k e = refl
begins_kept (t ∷ ts) [] h1 k e = absurd cc
begins_kept (t ∷ ts) (c ∷ cs) [] k e = absurd (omega (arith, k.longer))
begins_kept (t ∷ ts) (c ∷ cs) (c1 ∷ cs1) k e =
    let b = and_true (is_text t c) (begins_with ts cs) e in
    both (is_text t c1) (begins_with ts cs1) (is_text_kept t c c1 cs cs1 k b.0) (begins_kept ts cs cs1 (keeps_rest c c1 cs cs1 k) b.1)

literals_kept : (ts : List (List ℕ)) (globals : Option ℕ) (h h1 : HeapOf FunCell) → Keeps h h1 → literals_belong ts globals h ≡ true → literals_belong ts globals h1 ≡ true
literals_kept ts None h h1 k e = refl
literals_kept ts (Some g) h h1 k e = begins_kept ts h h1 k e

-- ---- runs

-- what was moved belongs still
moved_belongs : (code : Ops) (ops used : ℕ) (r : RunState) (s : State) → Moves (IsFun (code_slots code)) (IsAt (code_slots code)) r.state s → belongs code r ≡ true
    → belongs code (record { ops = ops; used = used; globals = r.globals; state = s }) ≡ true
unfolding belongs
moved_belongs code ops used r s m h =
    let a = and_true (places_belong (code_slots code) r.state) (literals_belong (literals_of_code code) r.globals r.state.heap) h in
    both (places_belong (code_slots code) s) (literals_belong (literals_of_code code) r.globals s.heap) (sound_back (code_slots code) s m.sound)
    (literals_kept (literals_of_code code) r.globals r.state.heap s.heap m.heap a.1)

sound_run : (code : Ops) (r : RunState) → belongs code r ≡ true → Sound (IsFun (code_slots code)) (IsAt (code_slots code)) r.state
unfolding belongs
sound_run code r h = sound_of (code_slots code) r.state (and_true (places_belong (code_slots code) r.state) (literals_belong (literals_of_code code) r.globals r.state.heap) h).0

pub keeps_belonging : (code : Ops) (r : RunState) → IsCode code → belongs code r ≡ true → belongs code (one_more code r) ≡ true
keeps_belonging code r is h =
    let slots = code_slots code in
    moved_belongs code (r.ops + 1) r.used r (step (fixed_of code r.globals) slots r.state)
    (step_moves (IsFun slots) (IsAt slots) (body_place code is) (fixed_of code r.globals) slots (fitting code is) r.state (sound_run code r h)) h

pub replies_belong : (code : Ops) (reply : Reply) (r : RunState) → belongs code r ≡ true → belongs code (resumed reply r) ≡ true
replies_belong code reply r h =
    let slots = code_slots code in
    moved_belongs code (r.ops + 1) (resumed reply r).used r (take_reply (reply ∷ []) r.state) (reply_moves (IsFun slots) (IsAt slots) (reply ∷ []) r.state (sound_run code r h)) h

either_belongs : (code : Ops) (m : Mode) (x y : RunState) → belongs code x ≡ true → belongs code y ≡ true → belongs code (where_running m x y) ≡ true
either_belongs code Running x y h k = h
either_belongs code Waiting x y h k = k
either_belongs code (Ended e) x y h k = k

pub slices_belong : (code : Ops) (n : ℕ) (r : RunState) → IsCode code → belongs code r ≡ true → belongs code (run_for code n r) ≡ true
slices_belong code zero r is h = h
slices_belong code (suc n) r is h =
    either_belongs code r.state.mode (run_for code n (one_more code r)) r (slices_belong code n (one_more code r) is (keeps_belonging code r is h)) h

-- ---- the beginning

abbrev cells_from : {F : Type 0} → List (List ℕ) → List ℕ → HeapOf F → Outcome F Val
cells_from texts globals h = outcome_and_then (texts_made texts h 0) (λ vs. read_cells (kept_value globals))

cells_same : {F G : Type 0} (f : F → G) (texts : List (List ℕ)) (globals : List ℕ) (h : HeapOf F) → cells_from texts globals (heap_map f h) ≡ outcome_map f (cells_from texts globals h)
cells_same f texts globals h =
    ap (λ o. outcome_and_then o (λ vs. read_cells (kept_value globals))) (texts_made-heap_map f texts h 0)
    ∙ outcome_map-outcome_and_then f (texts_made texts h 0) (λ vs. read_cells (kept_value globals)) (λ vs. read_cells (kept_value globals)) (λ vs h1 u1. read_cells-heap_map f (kept_value globals) h1 u1)

-- no functions are among the first cells
first_funs : (P : FunCell → Type 0) (texts : List (List ℕ)) (globals : List ℕ) → FunsFair P (first_cells texts globals)
unfolding first_cells
first_funs P texts globals = natural_fair P (cells_from texts globals) (cells_from texts globals) (λ h. cells_same (λ x. x.0) texts globals h) [] tt

-- texts as cells
abbrev cells_of : List (List ℕ) → HeapOf FunCell
cells_of [] = []
cells_of (t ∷ ts) = Text t ∷ cells_of ts

abbrev TextsMade : List (List ℕ) → HeapOf FunCell → Outcome FunCell (List Val) → Type 0
TextsMade ts h (op.Gives vs h1 units) = h1 ≡ h ++ cells_of ts
TextsMade ts h (op.Throws kind) = Unit {0}
TextsMade ts h op.Spends = Unit {0}

more_made : (t : List ℕ) (ts : List (List ℕ)) (h : HeapOf FunCell) (v : Val) (o : Outcome FunCell (List Val)) → TextsMade ts (h ++ Text t ∷ []) o → TextsMade (t ∷ ts) h (outcome_and_then o (λ vs. op.Gives (v ∷ vs)))
more_made t ts h v (op.Gives vs h1 units) e = e ∙ append_assoc h (Text t ∷ []) (cells_of ts)
more_made t ts h v (op.Throws kind) e = tt
more_made t ts h v op.Spends e = tt

made_either : (c : CellOf FunCell) (h : HeapOf FunCell) (units : ℕ) (Q : Outcome FunCell Val → Type 0) → Q (op.Gives (Ref (length h)) (h ++ c ∷ []) (units + cost_of_cell c)) → Q op.Spends → Q (made c h units)
unfolding made
made_either c h units Q gave spent = go (nat_le (units + cost_of_cell c) max_units)
  where
    go : (b : Bool) → Q (cond b (op.Gives (Ref (length h)) (h ++ c ∷ []) (units + cost_of_cell c)) op.Spends)
    go true = gave
    go false = spent

texts_are : (ts : List (List ℕ)) (h : HeapOf FunCell) (units : ℕ) → TextsMade ts h (texts_made ts h units)
texts_are [] h units = sym (append-nil h)
texts_are (t ∷ ts) h units =
    made_either (Text t) h units (λ (o : Outcome FunCell Val). TextsMade (t ∷ ts) h (outcome_and_then o (λ v h1 units1. outcome_and_then (texts_made ts h1 units1) (λ vs. op.Gives (v ∷ vs)))))
    (more_made t ts h _ (texts_made ts (h ++ Text t ∷ []) _) (texts_are ts (h ++ Text t ∷ []) _)) tt

cells_begin : (ts : List (List ℕ)) (more : HeapOf FunCell) → begins_with ts (cells_of ts ++ more) ≡ true
cells_begin [] more = refl
cells_begin (t ∷ ts) more = both (bytes_eq t t) (begins_with ts (cells_of ts ++ more)) ((bytes_eq-Decides t t).1 refl) (cells_begin ts more)

abbrev BeginsWith : List (List ℕ) → Outcome FunCell Val → Type 0
BeginsWith ts (op.Gives v h units) = begins_with ts h ≡ true
BeginsWith ts (op.Throws kind) = Unit {0}
BeginsWith ts op.Spends = Unit {0}

first_begin : (ts : List (List ℕ)) (globals : List ℕ) → BeginsWith ts (first_cells ts globals)
unfolding first_cells
first_begin ts globals = made_first (texts_made ts [] 0) (texts_are ts [] 0)
  where
    begun_cells : (h : HeapOf FunCell) → h ≡ cells_of ts → (o : Outcome FunCell Val) → ((v : Val) (h1 : HeapOf FunCell) (units : ℕ) → o ≡ op.Gives v h1 units → Grows h h1) → BeginsWith ts o
    begun_cells h e (op.Gives v h1 units) grows =
        let g = grows v h1 units refl in
        subst (λ z. begins_with ts z ≡ true) (sym (g.1 ∙ ap (λ z. z ++ g.0) e)) (cells_begin ts g.0)
    begun_cells h e (op.Throws kind) grows = tt
    begun_cells h e op.Spends grows = tt

    made_first : (o : Outcome FunCell (List Val)) → TextsMade ts [] o → BeginsWith ts (outcome_and_then o (λ vs. read_cells (kept_value globals)))
    made_first (op.Gives vs h units) e = begun_cells h e (read_cells (kept_value globals) h units) (λ v h1 u1 gave. read_cells-grows (kept_value globals) h units v h1 u1 gave)
    made_first (op.Throws kind) e = tt
    made_first op.Spends e = tt

begun_belongs : (code : Ops) (o : Outcome FunCell Val) → FunsFair (IsFun (code_slots code)) o → BeginsWith (literals_of_code code) o → belongs code (begun_with o) ≡ true
unfolding belongs
begun_belongs code (op.Gives v h units) f b =
    both (places_belong (code_slots code) (begun_with (op.Gives v h units)).state) (begins_with (literals_of_code code) h)
    (sound_back (code_slots code) (begun_with (op.Gives v h units)).state (record { frames = (code_begins code, tt); catches = tt; funs = f })) b
begun_belongs code (op.Throws kind) f b =
    both (places_belong (code_slots code) (begun_with (op.Throws kind)).state) true (sound_back (code_slots code) (begun_with (op.Throws kind)).state (record { frames = (code_begins code, tt); catches = tt; funs = tt })) refl
begun_belongs code op.Spends f b =
    both (places_belong (code_slots code) (begun_with op.Spends).state) true (sound_back (code_slots code) (begun_with op.Spends).state (record { frames = (code_begins code, tt); catches = tt; funs = tt })) refl

pub begins_belonging : (code : Ops) (globals : List ℕ) → IsCode code → belongs code (begun code globals) ≡ true
begins_belonging code globals is =
    begun_belongs code (first_cells (literals_of_code code) globals) (first_funs (IsFun (code_slots code)) (literals_of_code code) globals) (first_begin (literals_of_code code) globals)
