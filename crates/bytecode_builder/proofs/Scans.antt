-- How far a scan has come.
use Rattle.std.proofs.Common.{◌≡◌, ◌≤◌, ◌<◌, ℕ, zero, suc, ◌+◌, ◌-◌, ◌*◌, List, [], ◌∷◌, ◌++◌, length, drop, take, replicate, add-one, refl, sym, ap, ap₂, ◌∙◌, subst, arith, length-drop, append_assoc, append-nil, Ok, Err, Result}
use Rattle.std.specs.Prelude.{⊤}
use Rattle.serde_json.specs.Data.{Data}
use Rattle.hog_ops.specs.declared.capture.Capture.{Capture}
use Rattle.hog_ops.specs.Plain.{Op, Ops, Callable, NoOp, MoreOp, ◌⊕◌}
use Rattle.hog_ops.specs.Table.{size}
use Rattle.hog_ops.specs.Valid.{op_height}
use Rattle.bytecode_front.specs.declared.stop.Why.{Why}
use Rattle.bytecode_front.specs.declared.stop.CodeStop.{CodeStop}
use Rattle.bytecode_front.specs.declared.stop.CodeStop.TheVariants as stops
use Rattle.bytecode_front.specs.Front.{Front, Faulty, Found, Opens, front_of}
use Rattle.bytecode_front.specs.Reading.{stop_at, before, holding, callable_size, read_front, read_ops}
use Rattle.bytecode_builder.specs.Placed.{StopIs}
use Rattle.bytecode_builder.specs.Marks.{op_marks, marks, Scanned}
use Rattle.bytecode_front.proofs.Steps.{read_step, read_none}

-- operations, and those that are read behind them
abbrev pub after : Ops → Result Ops CodeStop → Result Ops CodeStop
after NoOp r = r
after (MoreOp o os) r = before o (after os r)

after-join : (os qs : Ops) (r : Result Ops CodeStop) → after (os ⊕ qs) r ≡ after os (after qs r)
after-join NoOp qs r = refl
after-join (MoreOp o os) qs r = ap (before o) (after-join os qs r)

pub after_ok : (os qs : Ops) → after os (Ok qs) ≡ Ok (os ⊕ qs)
after_ok NoOp qs = refl
after_ok (MoreOp o os) qs = ap (before o) (after_ok os qs)

after_err : (os : Ops) (e : CodeStop) → after os (Err e) ≡ Err e
after_err NoOp e = refl
after_err (MoreOp o os) e = ap (before o) (after_err os e)

-- the operations so far, what is read behind them, and their marks
pub record Going (room at : ℕ) (items : List Data) (old : List ℕ) (place : ℕ) (rest : List Data) (new : List ℕ) : Type 0 where
  pub done : Ops
  pub reads : read_ops room at items ≡ after done (read_ops room place rest)
  pub marked : new ≡ old ++ marks room done

pub going_start : (room at : ℕ) (items : List Data) (old : List ℕ) → Going room at items old at items old
going_start room at items old = record { done = NoOp; reads = refl; marked = sym (append-nil old) }

pub marks-join : (room : ℕ) (os qs : Ops) → marks room (os ⊕ qs) ≡ marks room os ++ marks room qs
marks-join room NoOp qs = refl
marks-join room (MoreOp o os) qs = ap (λ r. op_marks room o ++ r) (marks-join room os qs) ∙ sym (append_assoc (op_marks room o) (marks room os) (marks room qs))

-- one operation more, however it was read
going_more : (room at : ℕ) (items : List Data) (old : List ℕ) (place : ℕ) (rest : List Data) (new : List ℕ) (o : Op) (place' : ℕ) (rest' : List Data) (new' : List ℕ)
    → Going room at items old place rest new → read_ops room place rest ≡ before o (read_ops room place' rest') → new' ≡ new ++ op_marks room o → Going room at items old place' rest' new'
going_more room at items old place rest new o place' rest' new' g step marked = record {
  done = g.done ⊕ MoreOp o NoOp;
  reads = g.reads ∙ ap (after g.done) step ∙ sym (after-join g.done (MoreOp o NoOp) (read_ops room place' rest'));
  marked = marked ∙ ap (λ ms. ms ++ op_marks room o) g.marked ∙ append_assoc old (marks room g.done) (op_marks room o)
      ∙ ap (λ ms. old ++ (marks room g.done ++ ms)) (sym (append-nil (op_marks room o))) ∙ ap (λ ms. old ++ ms) (sym (marks-join room g.done (MoreOp o NoOp)));
}

at_front : (room place : ℕ) (rest : List Data) (f : Front) → 0 < length rest → front_of room rest ≡ f → read_ops room place rest ≡ read_front read_ops room place rest f
at_front room place rest f some e = read_step room place rest some ∙ ap (read_front read_ops room place rest) e

pub going_found : (room at : ℕ) (items : List Data) (old : List ℕ) (place : ℕ) (rest : List Data) (new : List ℕ) (o : Op) (new' : List ℕ)
    → Going room at items old place rest new → 0 < length rest → front_of room rest ≡ Found o → new' ≡ new ++ op_marks room o → Going room at items old (place + size o) (drop (size o) rest) new'
going_found room at items old place rest new o new' g some e marked =
    going_more room at items old place rest new o (place + size o) (drop (size o) rest) new' g (at_front room place rest (Found o) some e) marked

pub going_opens : (room at : ℕ) (items : List Data) (old : List ℕ) (place : ℕ) (rest : List Data) (new : List ℕ) (name : List ℕ) (params : ℕ) (cs : List Capture) (len : ℕ) (body : Ops) (new' : List ℕ)
    → Going room at items old place rest new → 0 < length rest → front_of room rest ≡ Opens name params cs len → read_ops (room - 1) (place + 5) (take len (drop 5 rest)) ≡ Ok body
    → new' ≡ new ++ op_marks room (Callable name params body cs) → Going room at items old (place + callable_size (length cs) len) (drop (callable_size (length cs) len) rest) new'
going_opens room at items old place rest new name params cs len body new' g some e inside marked =
    let k = callable_size (length cs) len in
    going_more room at items old place rest new (Callable name params body cs) (place + k) (drop k rest) new' g
    (at_front room place rest (Opens name params cs len) some e ∙ ap (λ r. holding (λ b. Callable name params b cs) r (read_ops room (place + k) (drop k rest))) inside) marked

pub going_end : (room at : ℕ) (items : List Data) (old : List ℕ) (place : ℕ) (new : List ℕ) → Going room at items old place [] new → Scanned room (Ok tt) old new (read_ops room at items)
going_end room at items old place new g =
    (g.done ⊕ NoOp, g.reads ∙ ap (after g.done) (read_none room place) ∙ after_ok g.done NoOp, g.marked ∙ ap (λ ms. old ++ ms) (sym (marks-join room g.done NoOp ∙ append-nil (marks room g.done))))

stop_self : (e : CodeStop) → StopIs e (Err e)
stop_self stops.NotJson = refl
stop_self stops.NoHeader = refl
stop_self (stops.Version v) = refl
stop_self (stops.UnknownOp at n) = refl
stop_self (stops.OutOfProfile at n) = refl
stop_self (stops.BadOperand at) = refl
stop_self stops.OutOfMemory = tt

-- a stop inside is one outside, where each refusal inside is one outside
pub stop_out : (e : CodeStop) (r s : Result Ops CodeStop) → ((f : CodeStop) → r ≡ Err f → s ≡ Err f) → StopIs e r → StopIs e s
stop_out stops.NotJson r s h e = h stops.NotJson e
stop_out stops.NoHeader r s h e = h stops.NoHeader e
stop_out (stops.Version v) r s h e = h (stops.Version v) e
stop_out (stops.UnknownOp at n) r s h e = h (stops.UnknownOp at n) e
stop_out (stops.OutOfProfile at n) r s h e = h (stops.OutOfProfile at n) e
stop_out (stops.BadOperand at) r s h e = h (stops.BadOperand at) e
stop_out stops.OutOfMemory r s h e = tt

pub going_fault : (room at : ℕ) (items : List Data) (old : List ℕ) (place : ℕ) (rest : List Data) (new : List ℕ) (w : Why) (e : CodeStop)
    → Going room at items old place rest new → 0 < length rest → front_of room rest ≡ Faulty w → e ≡ stop_at place w → StopIs e (read_ops room at items)
going_fault room at items old place rest new w e g some front is =
    let whole : read_ops room at items ≡ Err (stop_at place w) = g.reads ∙ ap (after g.done) (at_front room place rest (Faulty w) some front) ∙ after_err g.done (stop_at place w) in
    stop_out e (Err e) (read_ops room at items) (λ f k. whole ∙ ap Err (sym is) ∙ k) (stop_self e)

pub going_stop : (room at : ℕ) (items : List Data) (old : List ℕ) (place : ℕ) (rest : List Data) (new : List ℕ) (name : List ℕ) (params : ℕ) (cs : List Capture) (len : ℕ) (e : CodeStop)
    → Going room at items old place rest new → 0 < length rest → front_of room rest ≡ Opens name params cs len → StopIs e (read_ops (room - 1) (place + 5) (take len (drop 5 rest)))
    → StopIs e (read_ops room at items)
going_stop room at items old place rest new name params cs len e g some front inside =
    let k = callable_size (length cs) len in
    stop_out e (read_ops (room - 1) (place + 5) (take len (drop 5 rest))) (read_ops room at items)
    (λ f h. g.reads ∙ ap (after g.done) (at_front room place rest (Opens name params cs len) some front ∙ ap (λ r. holding (λ b. Callable name params b cs) r (read_ops room (place + k) (drop k rest))) h)
    ∙ after_err g.done f) inside

-- the marks of an operation that has no body
pub simple_marks : (room : ℕ) (o : Op) → op_height o ≡ 0 → op_marks room o ≡ suc room ∷ replicate (size o - 1) 0
simple_marks room (Callable name params body captures) h = absurd (omega arith)
simple_marks room o h = refl

-- the same place and elements, written in another way
pub going_at : (room at : ℕ) (items : List Data) (old : List ℕ) (place : ℕ) (rest : List Data) (new : List ℕ) (place' : ℕ) (rest' : List Data) → Going room at items old place rest new → place ≡ place' → rest ≡ rest'
    → Going room at items old place' rest' new
going_at room at items old place rest new place' rest' g p r = subst (λ q. Going room at items old q rest' new) p (subst (λ ds. Going room at items old place ds new) r g)

-- the marks of a CALLABLE: four operands, the body and its end, and the CLOSURE
pub callable_marks : (room : ℕ) (name : List ℕ) (params : ℕ) (cs : List Capture) (body : Ops) (old a b c : List ℕ) → 1 ≤ room → a ≡ old ++ (room + 1) ∷ replicate 4 0 → b ≡ a ++ marks (room - 1) body
    → c ≡ b ++ room ∷ replicate (1 + 2 * length cs) 0 → c ≡ old ++ op_marks room (Callable name params body cs)
callable_marks room name params cs body old a b c some ea eb ec =
    let head = suc room ∷ replicate 4 0 in
    let inner = marks (room - 1) body in
    let last = suc (room - 1) ∷ replicate (1 + 2 * length cs) 0 in
    let end : room ≡ suc (room - 1) = omega (arith, some) in
    let begun : a ≡ old ++ head = ea ∙ ap (λ m. old ++ m ∷ replicate 4 0) (add-one room) in
    ec ∙ ap (λ m. b ++ m ∷ replicate (1 + 2 * length cs) 0) end ∙ ap (λ ms. ms ++ last) (eb ∙ ap (λ ms. ms ++ inner) begun)
    ∙ ap (λ ms. ms ++ last) (append_assoc old head inner) ∙ append_assoc old (head ++ inner) last ∙ ap (λ ms. old ++ ms) (append_assoc head inner last)
