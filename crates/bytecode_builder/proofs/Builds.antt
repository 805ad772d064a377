-- How far a code has been built.
use Rattle.std.proofs.Common.{◌≡◌, ◌≤◌, ◌<◌, ℕ, zero, suc, ◌+◌, ◌-◌, ◌*◌, List, [], ◌∷◌, ◌++◌, Option, Some, None, Bool, true, false, cond, length, drop, take, replicate, add-one, refl, sym, ap, ap₂, ◌∙◌, subst, arith, length-append, append_assoc, append-nil, Ok, Err, Result}
use Rattle.std.proofs.lemmas.List.{drop-drop, drop_at, take_at, length-replicate}
use Rattle.serde_json.specs.Data.{Data}
use Rattle.hog_ops.specs.declared.capture.Capture.{Capture}
use Rattle.hog_ops.specs.declared.operation.Op.{Op as AnOp}
use Rattle.hog_ops.specs.Plain.{Op, Ops, Callable, NoOp, MoreOp, ◌⊕◌}
use Rattle.hog_ops.specs.Table.{row, size, span}
use Rattle.hog_ops.specs.Valid.{op_height, height, row_leads, or_then, op_lost, lost_in, lost}
use Rattle.hog_ops.specs.View.{op_of, ops_of, ops_of-append}
use Rattle.hog_ops.proofs.Join.{join_assoc, join_none, span-join}
use Rattle.bytecode_front.specs.declared.stop.CodeStop.{CodeStop}
use Rattle.bytecode_front.specs.declared.stop.CodeStop.TheVariants as stops
use Rattle.bytecode_front.specs.declared.stop.Why.{Why}
use Rattle.bytecode_front.specs.Front.{Front, Faulty, Found, Opens, front_of}
use Rattle.bytecode_builder.specs.Marks.{op_marks, marks, HasMarks}
use Rattle.bytecode_front.specs.Reading.{stop_at, before, holding, callable_size, read_front, read_ops}
use Rattle.bytecode_builder.specs.Placed.{StopIs, Answers, on_lost, placed}
use Rattle.bytecode_builder.proofs.Places.{marks_count}
use Rattle.bytecode_front.proofs.Known.{before_is, holding_is}
use Rattle.bytecode_builder.proofs.Scans.{marks-join, stop_out}
use Rattle.bytecode_front.proofs.Steps.{read_step, read_none}

-- the operations that were read
abbrev pub ops_read : Result Ops CodeStop → Ops
ops_read (Ok ops) = ops
ops_read (Err e) = NoOp

pub was_read : (room : ℕ) (r : Result Ops CodeStop) (ms : List ℕ) → HasMarks room r ms → (r ≡ Ok (ops_read r)) × (ms ≡ marks room (ops_read r) ++ suc room ∷ [])
was_read room (Ok ops) ms h = (refl, h)
was_read room (Err e) ms h = absurd h

-- the operations so far, and those that are still to be read, of which none before was lost
pub record Building (room at : ℕ) (all : Ops) (ops : List AnOp) (place : ℕ) (rest : List Data) : Type 0 where
  pub left : Ops
  pub reads : read_ops room (at + place) rest ≡ Ok left
  pub whole : all ≡ ops_of ops ⊕ left
  pub led : lost at all ≡ lost_in at all place left
  pub place_is : place ≡ span (ops_of ops)

pub building_start : (room at : ℕ) (all : Ops) (items : List Data) → read_ops room at items ≡ Ok all → Building room at all [] 0 items
building_start room at all items e =
    let here : at + 0 ≡ at = omega arith in
    record { left = all; reads = ap (λ p. read_ops room p items) here ∙ e; whole = refl; led = refl; place_is = refl }

-- what stands first among those that are left
pub record First (room at : ℕ) (all : Ops) (ops : List AnOp) (place : ℕ) (o : Op) (rest' : List Data) (place' : ℕ) : Type 0 where
  pub others : Ops
  pub reads : read_ops room (at + place') rest' ≡ Ok others
  pub whole : all ≡ ops_of ops ⊕ MoreOp o others
  pub led : lost at all ≡ or_then (op_lost at all place o) (lost_in at all (place + size o) others)
  pub place_is : place ≡ span (ops_of ops)

first_of : (room at : ℕ) (all : Ops) (ops : List AnOp) (place : ℕ) (rest : List Data) (o : Op) (rest' : List Data) (place' : ℕ) → Building room at all ops place rest
    → read_ops room (at + place) rest ≡ before o (read_ops room (at + place') rest') → First room at all ops place o rest' place'
first_of room at all ops place rest o rest' place' b step =
    let h = before_is o (read_ops room (at + place') rest') b.left (sym step ∙ b.reads) in
    record {
      others = h.0;
      reads = h.1;
      whole = b.whole ∙ ap (λ os. ops_of ops ⊕ os) (sym h.2);
      led = b.led ∙ ap (lost_in at all place) (sym h.2);
      place_is = b.place_is;
    }

at_front : (room place : ℕ) (rest : List Data) (f : Front) → 0 < length rest → front_of room rest ≡ f → read_ops room place rest ≡ read_front read_ops room place rest f
at_front room place rest f some e = read_step room place rest some ∙ ap (read_front read_ops room place rest) e

pub no_fault : {C : Type 0} (room at : ℕ) (all : Ops) (ops : List AnOp) (place : ℕ) (rest : List Data) (w : Why) → Building room at all ops place rest → 0 < length rest → front_of room rest ≡ Faulty w → C
no_fault room at all ops place rest w b some e =
    let same : Err (stop_at (at + place) w) ≡ Ok b.left = sym (at_front room (at + place) rest (Faulty w) some e) ∙ b.reads in
    absurd cc

pub found_first : (room at : ℕ) (all : Ops) (ops : List AnOp) (place : ℕ) (rest : List Data) (o : Op) → Building room at all ops place rest → 0 < length rest → front_of room rest ≡ Found o
    → First room at all ops place o (drop (size o) rest) (place + size o)
found_first room at all ops place rest o b some e =
    let there : (at + place) + size o ≡ at + (place + size o) = omega arith in
    first_of room at all ops place rest o (drop (size o) rest) (place + size o) b
    (at_front room (at + place) rest (Found o) some e ∙ ap (λ p. before o (read_ops room p (drop (size o) rest))) there)

-- a body, and the CALLABLE that holds it
pub record Inner (room at : ℕ) (all : Ops) (ops : List AnOp) (place : ℕ) (rest : List Data) (name : List ℕ) (params : ℕ) (cs : List Capture) (len : ℕ) : Type 0 where
  pub body : Ops
  pub inside : read_ops (room - 1) ((at + place) + 5) (take len (drop 5 rest)) ≡ Ok body
  pub first : First room at all ops place (Callable name params body cs) (drop (callable_size (length cs) len) rest) (place + callable_size (length cs) len)

pub opens_first : (room at : ℕ) (all : Ops) (ops : List AnOp) (place : ℕ) (rest : List Data) (name : List ℕ) (params : ℕ) (cs : List Capture) (len : ℕ) → Building room at all ops place rest → 0 < length rest
    → front_of room rest ≡ Opens name params cs len → Inner room at all ops place rest name params cs len
opens_first room at all ops place rest name params cs len b some e =
    let k = callable_size (length cs) len in
    let f = λ (x : Ops). Callable name params x cs in
    let inner = read_ops (room - 1) ((at + place) + 5) (take len (drop 5 rest)) in
    let behind = read_ops room ((at + place) + k) (drop k rest) in
    let h = holding_is f inner behind b.left (sym (at_front room (at + place) rest (Opens name params cs len) some e) ∙ b.reads) in
    let there : (at + place) + k ≡ at + (place + k) = omega arith in
    record {
      body = h.0;
      inside = h.2;
      first = record {
        others = h.1;
        reads = ap (λ p. read_ops room p (drop k rest)) (sym there) ∙ h.3;
        whole = b.whole ∙ ap (λ os. ops_of ops ⊕ os) (sym h.4);
        led = b.led ∙ ap (lost_in at all place) (sym h.4);
        place_is = b.place_is;
      };
    }

-- one operation more was built
pub building_more : (room at : ℕ) (all : Ops) (ops : List AnOp) (place : ℕ) (o : Op) (rest' : List Data) (place' : ℕ) (x : AnOp) → First room at all ops place o rest' place' → op_of x ≡ o → place' ≡ place + size o
    → op_lost at all place o ≡ None → Building room at all (ops ++ x ∷ []) place' rest'
building_more room at all ops place o rest' place' x f is p none =
    let more : ops_of (ops ++ x ∷ []) ≡ ops_of ops ⊕ MoreOp o NoOp = ops_of-append ops (x ∷ []) ∙ ap (λ y. ops_of ops ⊕ MoreOp y NoOp) is in
    record {
      left = f.others;
      reads = f.reads;
      whole = f.whole ∙ sym (ap (λ os. os ⊕ f.others) more ∙ join_assoc (ops_of ops) (MoreOp o NoOp) f.others);
      led = f.led ∙ ap₂ (λ l q. or_then l (lost_in at all q f.others)) none (sym p);
      place_is = omega (arith, p, f.place_is, ap span more, span-join (ops_of ops) (MoreOp o NoOp));
    }

-- ---- distances

-- an operation without a body
pub simple_lost : (base : ℕ) (body : Ops) (at : ℕ) (o : Op) → op_height o ≡ 0 → op_lost base body at o ≡ cond (row_leads body (at + size o) (row o)) None (Some (base + at))
simple_lost base body at (Callable name params inner captures) h = absurd (omega arith)
simple_lost base body at o h = refl

pub led_none : (base : ℕ) (body : Ops) (at : ℕ) (o : Op) → op_height o ≡ 0 → row_leads body (at + size o) (row o) ≡ true → op_lost base body at o ≡ None
led_none base body at o h led = simple_lost base body at o h ∙ ap (λ b. cond b None (Some (base + at))) led

lost_some : (base : ℕ) (body : Ops) (at : ℕ) (o : Op) → op_height o ≡ 0 → row_leads body (at + size o) (row o) ≡ false → op_lost base body at o ≡ Some (base + at)
lost_some base body at o h led = simple_lost base body at o h ∙ ap (λ b. cond b None (Some (base + at))) led

-- a distance that leads nowhere is the first such
pub building_lost : (room at : ℕ) (all : Ops) (ops : List AnOp) (place : ℕ) (o : Op) (rest' : List Data) (place' : ℕ) (r : Result Ops CodeStop) → First room at all ops place o rest' place' → op_height o ≡ 0
    → row_leads all (place + size o) (row o) ≡ false → r ≡ Ok all → placed at r ≡ Err (stops.BadOperand (at + place))
building_lost room at all ops place o rest' place' r f h led is =
    ap (placed at) is ∙ ap (on_lost all) (f.led ∙ ap (λ l. or_then l (lost_in at all (place + size o) f.others)) (lost_some at all place o h led))

lost_inner : (at place : ℕ) (all : Ops) (name : List ℕ) (params : ℕ) (body : Ops) (cs : List Capture) → op_lost at all place (Callable name params body cs) ≡ lost ((at + place) + 5) body
lost_inner at place all name params body cs = let there : at + (place + 5) ≡ (at + place) + 5 = omega arith in ap (λ b. lost_in b body 0 body) there

-- a refusal of a body is one of the code that holds it
pub building_stop : (room at : ℕ) (all : Ops) (ops : List AnOp) (place : ℕ) (rest : List Data) (name : List ℕ) (params : ℕ) (cs : List Capture) (len : ℕ) (r : Result Ops CodeStop) (e : CodeStop)
    → (i : Inner room at all ops place rest name params cs len) → r ≡ Ok all → StopIs e (placed ((at + place) + 5) (read_ops (room - 1) ((at + place) + 5) (take len (drop 5 rest)))) → StopIs e (placed at r)
building_stop room at all ops place rest name params cs len r e i is stop =
    let p = (at + place) + 5 in
    let inner = read_ops (room - 1) p (take len (drop 5 rest)) in
    stop_out e (placed p inner) (placed at r)
    (λ f k. outer (lost p i.body) (ap (λ l. or_then l (lost_in at all (place + size (Callable name params i.body cs)) i.first.others)) (sym (lost_inner at place all name params i.body cs)) ∙ sym i.first.led) f (sym (ap (placed p) i.inside) ∙ k)) stop
  where
    outer : (o : Option ℕ) → or_then o (lost_in at all (place + size (Callable name params i.body cs)) i.first.others) ≡ lost at all → (f : CodeStop) → on_lost i.body o ≡ Err f → placed at r ≡ Err f
    outer None l f k = absurd cc
    outer (Some q) l f k = let same : stops.BadOperand q ≡ f = cc in ap (placed at) is ∙ ap (on_lost all) (sym l) ∙ ap Err same

-- the code of a body is the body that was read
pub inner_done : (room at : ℕ) (all : Ops) (ops : List AnOp) (place : ℕ) (rest : List Data) (name : List ℕ) (params : ℕ) (cs : List Capture) (len : ℕ) (code : Ops)
    → (i : Inner room at all ops place rest name params cs len) → placed ((at + place) + 5) (read_ops (room - 1) ((at + place) + 5) (take len (drop 5 rest))) ≡ Ok code
    → (code ≡ i.body) × (op_lost at all place (Callable name params i.body cs) ≡ None)
inner_done room at all ops place rest name params cs len code i e =
    by (lost ((at + place) + 5) i.body) (lost_inner at place all name params i.body cs) (sym (ap (placed ((at + place) + 5)) i.inside) ∙ e)
  where
    by : (o : Option ℕ) → op_lost at all place (Callable name params i.body cs) ≡ o → on_lost i.body o ≡ Ok code → (code ≡ i.body) × (op_lost at all place (Callable name params i.body cs) ≡ None)
    by None l k = let same : i.body ≡ code = cc in (sym same, l)
    by (Some q) l k = absurd cc

-- where nothing is left, the code is whole
pub record Finished (at : ℕ) (all : Ops) (ops : List AnOp) : Type 0 where
  pub whole : all ≡ ops_of ops
  pub led : lost at all ≡ None

pub building_end : (room at : ℕ) (all : Ops) (ops : List AnOp) (place : ℕ) (rest : List Data) → Building room at all ops place rest → rest ≡ [] → Finished at all ops
building_end room at all ops place rest b none =
    let same : Ok NoOp ≡ Ok b.left = sym (ap (read_ops room (at + place)) none ∙ read_none room (at + place)) ∙ b.reads in
    let left : NoOp ≡ b.left = cc in
    record { whole = b.whole ∙ ap (λ os. ops_of ops ⊕ os) (sym left) ∙ join_none (ops_of ops); led = b.led ∙ ap (lost_in at all place) (sym left) }

-- ---- marks

height-join : (room : ℕ) (os qs : Ops) → height (os ⊕ qs) ≤ room → (height os ≤ room) × (height qs ≤ room)
height-join room NoOp qs h = (omega arith, h)
height-join room (MoreOp o os) qs h = let r = height-join room os qs (omega arith) in (omega (arith, r.0), r.1)

-- the marks of a body stand behind the numbers of its CALLABLE
pub inner_marks : (room : ℕ) (all done : Ops) (name : List ℕ) (params : ℕ) (body : Ops) (cs : List Capture) (os : Ops) (place len : ℕ) (ms : List ℕ) → ms ≡ marks room all ++ suc room ∷ [] → height all ≤ room
    → all ≡ done ⊕ MoreOp (Callable name params body cs) os → place ≡ span done → len ≡ span body → take (len + 1) (drop (place + 5) ms) ≡ marks (room - 1) body ++ suc (room - 1) ∷ []
inner_marks room all done name params body cs os place len ms is h whole p l =
    let o = Callable name params body cs in
    let inner = marks (room - 1) body in
    let zeros = replicate (1 + 2 * length cs) 0 in
    let more = marks room os ++ suc room ∷ [] in
    let high = height-join room done (MoreOp o os) (subst (λ x. height x ≤ room) whole h) in
    let low : height body ≤ room - 1 = omega (arith, high.1) in
    let count : length (marks room done) ≡ place = marks_count room done high.0 ∙ sym p in
    let all_marks : ms ≡ marks room done ++ (op_marks room o ++ more) =
    is ∙ ap (λ x. marks room x ++ suc room ∷ []) whole ∙ ap (λ x. x ++ suc room ∷ []) (marks-join room done (MoreOp o os))
    ∙ append_assoc (marks room done) (op_marks room o ++ marks room os) (suc room ∷ []) ∙ ap (λ x. marks room done ++ x) (append_assoc (op_marks room o) (marks room os) (suc room ∷ [])) in
    let here : drop (place + 5) ms ≡ (inner ++ (suc (room - 1) ∷ zeros)) ++ more =
    sym (drop-drop 5 place ms) ∙ ap (λ x. drop 5 (drop place x)) all_marks ∙ ap (drop 5) (drop_at (marks room done) (op_marks room o ++ more) place count) in
    let parted : (inner ++ (suc (room - 1) ∷ zeros)) ++ more ≡ (inner ++ suc (room - 1) ∷ []) ++ (zeros ++ more) =
    append_assoc inner (suc (room - 1) ∷ zeros) more ∙ sym (append_assoc inner (suc (room - 1) ∷ []) (zeros ++ more)) in
    ap (take (len + 1)) (here ∙ parted)
    ∙ take_at (inner ++ suc (room - 1) ∷ []) (zeros ++ more) (len + 1) (omega (arith, length-append inner (suc (room - 1) ∷ []), marks_count (room - 1) body low, l))

-- the same operations, place and elements, written in another way
pub building_at : (room at : ℕ) (all : Ops) (ops : List AnOp) (place : ℕ) (rest : List Data) (ops' : List AnOp) (place' : ℕ) (rest' : List Data) → Building room at all ops place rest → ops ≡ ops' → place ≡ place' → rest ≡ rest'
    → Building room at all ops' place' rest'
building_at room at all ops place rest ops' place' rest' b o p r =
    subst (λ xs. Building room at all xs place' rest') o (subst (λ q. Building room at all ops q rest') p (subst (λ ds. Building room at all ops place ds) r b))
