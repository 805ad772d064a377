use Rattle.std.proofs.Common.{◌≡◌, ◌≤◌, ◌^◌, ℕ, suc, ◌+◌, ◌-◌, ◌*◌, ◌<◌, List, [], ◌∷◌, ◌++◌, Option, Some, None, Bool, true, false, cond, length, drop, take, add-one, refl, sym, ap, ap₂, ◌∙◌, subst, arith, length-append, length-drop, length-take, Ok, Result}
use Rattle.std.proofs.lemmas.Bool.Decides.{nat_tests}
use Rattle.std.proofs.lemmas.List.{drop-drop}
use Rattle.std.proofs.lemmas.Option.{cond_some, same_Some}
use Rattle.std.specs.Prelude.{◌==◌, is_some}
use Rattle.serde_json.specs.Data.{Data}
use Rattle.serde_json.specs.Find.{as_str}
use Rattle.serde_json.specs.declared.value.Value.{Value}
use Rattle.hog_ops.specs.declared.capture.Capture.{Capture}
use Rattle.hog_ops.specs.declared.operation.Op.{Op as RustOp}
use Rattle.hog_ops.specs.declared.operation.Op.TheVariants as AnOp
use Rattle.hog_ops.specs.Plain.{Op, Ops, Callable, Str}
use Rattle.hog_ops.specs.Table.{row, size, span}
use Rattle.hog_ops.specs.Valid.{op_height, height, allowed, row_leads, lost}
use Rattle.hog_ops.specs.View.{op_of, ops_of}
use Rattle.bytecode_front.specs.declared.stop.CodeStop.{CodeStop}
use Rattle.bytecode_front.specs.Front.{Opens, first_by, captures_in, front_of}
use Rattle.bytecode_builder.specs.Marks.{marks, row_led, HasMarks}
use Rattle.bytecode_front.specs.Reading.{callable_size, read_ops}
use Rattle.bytecode_builder.specs.Placed.{StopIs, on_lost, placed}
use Rattle.bytecode_front.specs.Views.{views, CallableAt}
use Rattle.bytecode_builder.proofs.Builds.{ops_read, was_read, Building, building_start, building_at, no_fault, found_first, opens_first, building_more, led_none, building_lost, building_stop, inner_done, building_end, inner_marks}
use Rattle.bytecode_front.proofs.Fronts.{Opened, front_found, front_opens, front_str}
use Rattle.hog_ops.proofs.Lost.{lost_none}
use Rattle.bytecode_builder.proofs.Places.{marks_count, row_tell}
use Rattle.bytecode_front.proofs.Known.{IsRead, is_read}
use Rattle.bytecode_front.proofs.Slices.{views_drop, views_part, views_length}
use Rattle.bytecode_builder.proofs.build.+build.Goals as goal

some_left : (n : ℕ) (b : Bool) → b ≡ (n == 0) → b ≡ false → 0 < n
some_left n b e f = grind (arith, nat_tests)

none_left : (vs : List Value) (b : Bool) → b ≡ (length vs == 0) → b ≡ true → vs ≡ []
none_left [] b e f = refl
none_left (v ∷ vs) b e f = absurd (grind (arith, nat_tests))

cond_none : {A : Type 0} (b : Bool) (x : A) → cond b (Some x) None ≡ None → b ≡ false
cond_none true x e = absurd cc
cond_none false x e = refl

-- what the marks say of a distance
told : (room at : ℕ) (ds : List Data) (ms : List ℕ) (end end' : ℕ) (o : Op) → HasMarks room (read_ops room at ds) ms → end ≡ end' → row_led ms (room + 1) end (row o) ≡ row_leads (ops_read (read_ops room at ds)) end' (row o)
told room at ds ms end end' o h same =
    let r = read_ops room at ds in
    let all = ops_read r in
    let w = was_read room r ms h in
    ap₂ (λ xs m. row_led xs m end (row o)) w.1 (add-one room) ∙ row_tell room end all (row o) (is_read room at ds all w.0).shallow ∙ ap (λ p. row_leads all p (row o)) same

pub loop-rest-init : goal.loop-rest-init
loop-rest-init t c =
    let ds = views c.args.items.now in
    let r = read_ops c.args.room c.args.at ds in
    record {
      going = building_at c.args.room c.args.at (ops_read r) [] 0 ds c.new-ops.result.items 0 ds (building_start c.args.room c.args.at (ops_read r) ds (was_read c.args.room r c.args.marks.now c.requires.marked).0)
          (sym c.new-ops.ensures.items) refl refl;
      places = omega arith;
    }

pub unreachable-requires : goal.unreachable-requires
unreachable-requires t c =
    let vs = c.loop-rest.rest.now in
    let some : 0 < length (views vs) = omega (arith, views_length vs, some_left (length vs) c.is_empty.result c.is_empty.ensures c.loop-rest-test.true) in
    no_fault c.args.room c.args.at _ c.loop-rest.ops.items c.loop-rest.place (views vs) c.in-Faulty.field-0 c.loop-rest.invariant.going some c.in-Faulty.ensures

pub behind-rest-requires : goal.behind-rest-requires
behind-rest-requires t c =
    let vs = c.loop-rest.rest.now in
    omega (arith, c.len-size.ensures, (front_found c.args.room (views vs) (op_of c.in-Found.op) c.in-Found.ensures).fits, views_length vs)

pub overflow_add-place-in-Some : goal.overflow_add-place-in-Some
overflow_add-place-in-Some t c =
    let vs = c.loop-rest.rest.now in
    omega (arith, c.len-size.ensures, (front_found c.args.room (views vs) (op_of c.in-Found.op) c.in-Found.ensures).fits, views_length vs, c.loop-rest.invariant.places, c.requires.short)

pub loop-rest-smaller-in-Some : goal.loop-rest-smaller-in-Some
loop-rest-smaller-in-Some t c =
    let vs = c.loop-rest.rest.now in
    let h = front_found c.args.room (views vs) (op_of c.in-Found.op) c.in-Found.ensures in
    omega (arith, c.len-size.ensures, h.some, h.fits, views_length vs, ap length c.behind-rest.ensures, length-drop c.len-size.result vs)

pub loop-rest-preserved-in-Some : goal.loop-rest-preserved-in-Some
loop-rest-preserved-in-Some t c =
    let vs = c.loop-rest.rest.now in
    let room = c.args.room in
    let ds = views c.args.items.now in
    let all = ops_read (read_ops room c.args.at ds) in
    let ops = c.loop-rest.ops.items in
    let place = c.loop-rest.place in
    let o = op_of c.in-Found.op in
    let front = c.in-Found.ensures in
    let h = front_found room (views vs) o front in
    let some : 0 < length (views vs) = omega (arith, h.some, h.fits) in
    let chosen = cond_some (row_led c.args.marks.now (room + 1) (place + c.len-size.result) (row o)) c.in-Found.op c.in-Some.op (sym c.led.ensures ∙ c.in-Some.is) in
    let leads : row_leads all (place + size o) (row o) ≡ true =
    sym (told room c.args.at ds c.args.marks.now (place + c.len-size.result) (place + size o) o c.requires.marked (ap (λ k. place + k) c.len-size.ensures)) ∙ chosen.0 in
    let next : c.behind-rest.result.now ≡ drop (size o) vs = c.behind-rest.ensures ∙ ap (λ k. drop k vs) c.len-size.ensures in
    let f = found_first room c.args.at all ops place (views vs) o c.loop-rest.invariant.going some front in
    let b = building_more room c.args.at all ops place o (drop (size o) (views vs)) (place + size o) c.in-Some.op f (sym (ap op_of chosen.1)) refl (led_none c.args.at all place o h.height leads) in
    record {
      going = building_at room c.args.at all (ops ++ c.in-Some.op ∷ []) (place + size o) (drop (size o) (views vs)) c.push.new.self.items (place + c.len-size.result) (views c.behind-rest.result.now) b
          (sym c.in_ok-push-in-Some.ensures.items) (ap (λ k. place + k) (sym c.len-size.ensures)) (views_drop (size o) vs ∙ ap views (sym next));
      places = omega (arith, ap length next, length-drop (size o) vs, h.fits, views_length vs, c.len-size.ensures, c.loop-rest.invariant.places);
    }

pub returns-in-None : goal.returns-in-None
returns-in-None t c =
    let vs = c.loop-rest.rest.now in
    let room = c.args.room in
    let ds = views c.args.items.now in
    let r = read_ops room c.args.at ds in
    let all = ops_read r in
    let place = c.loop-rest.place in
    let o = op_of c.in-Found.op in
    let front = c.in-Found.ensures in
    let h = front_found room (views vs) o front in
    let some : 0 < length (views vs) = omega (arith, h.some, h.fits) in
    let chosen = cond_none (row_led c.args.marks.now (room + 1) (place + c.len-size.result) (row o)) c.in-Found.op (sym c.led.ensures ∙ c.in-None.is) in
    let leads : row_leads all (place + size o) (row o) ≡ false =
    sym (told room c.args.at ds c.args.marks.now (place + c.len-size.result) (place + size o) o c.requires.marked (ap (λ k. place + k) c.len-size.ensures)) ∙ chosen in
    let f = found_first room c.args.at all c.loop-rest.ops.items place (views vs) o c.loop-rest.invariant.going some front in
    building_lost room c.args.at all c.loop-rest.ops.items place o (drop (size o) (views vs)) (place + size o) r f h.height leads (was_read room r c.args.marks.now c.requires.marked).0

pub text_at-requires : goal.text_at-requires
text_at-requires t c =
    let vs = c.loop-rest.rest.now in
    ap (λ ds. is_some (first_by as_str ds)) (ap views c.behind.ensures ∙ sym (views_drop 1 vs)) ∙ ap is_some (front_str c.args.room (views vs) c.in-Text.ensures.0 c.in-Text.ensures.1)

pub loop-rest-preserved-in-Text : goal.loop-rest-preserved-in-Text
loop-rest-preserved-in-Text t c =
    let vs = c.loop-rest.rest.now in
    let room = c.args.room in
    let all = ops_read (read_ops room c.args.at (views c.args.items.now)) in
    let ops = c.loop-rest.ops.items in
    let place = c.loop-rest.place in
    let s = c.in-Text.ensures.0 in
    let front = c.in-Text.ensures.1 in
    let h = front_found room (views vs) (Str s) front in
    let some : 0 < length (views vs) = omega (arith, h.fits) in
    let text = c.in_ok-text-in-Text.text in
    let one : text ≡ s =
    same_Some text s (sym c.in_ok-text-in-Text.ensures ∙ ap (first_by as_str) (ap views c.behind.ensures ∙ sym (views_drop 1 vs)) ∙ front_str room (views vs) s front) in
    let x = AnOp.Str text in
    let f = found_first room c.args.at all ops place (views vs) (Str s) c.loop-rest.invariant.going some front in
    let b = building_more room c.args.at all ops place (Str s) (drop 2 (views vs)) (place + 2) x f (ap Str one) refl (led_none c.args.at all place (Str s) refl refl) in
    let next : c.behind-rest-in-Text.result.now ≡ drop 2 vs = c.behind-rest-in-Text.ensures in
    record {
      going = building_at room c.args.at all (ops ++ x ∷ []) (place + 2) (drop 2 (views vs)) c.push-in-Text.new.self.items (place + 2) (views c.behind-rest-in-Text.result.now) b
          (sym c.in_ok-push-in-Text.ensures.items) refl (views_drop 2 vs ∙ ap views (sym next));
      places = omega (arith, ap length next, length-drop 2 vs, h.fits, views_length vs, c.loop-rest.invariant.places);
    }

pub behind-requires-in-Opens : goal.behind-requires-in-Opens
behind-requires-in-Opens t c =
    let vs = c.loop-rest.rest.now in
    let e = c.in-Opens.ensures in
    omega (arith, (front_opens c.args.room (views vs) e.0 e.1 e.2 c.in-Opens.len e.3).fits, views_length vs)

pub front_part-inner-requires : goal.front_part-inner-requires
front_part-inner-requires t c =
    let vs = c.loop-rest.rest.now in
    let e = c.in-Opens.ensures in
    omega (arith, (front_opens c.args.room (views vs) e.0 e.1 e.2 c.in-Opens.len e.3).fits, views_length vs, ap length c.behind-in-Opens.ensures, length-drop 5 vs)

-- how many marks there are
mark_count : (room at : ℕ) (ds : List Data) (ms : List ℕ) → HasMarks room (read_ops room at ds) ms → length ms ≡ length ds + 1
mark_count room at ds ms h =
    let r = read_ops room at ds in
    let w = was_read room r ms h in
    let i = is_read room at ds (ops_read r) w.0 in
    omega (arith, ap length w.1, length-append (marks room (ops_read r)) (suc room ∷ []), marks_count room (ops_read r) i.shallow, i.span)

pub marks_part-inner_marks-requires : goal.marks_part-inner_marks-requires
marks_part-inner_marks-requires t c =
    let vs = c.loop-rest.rest.now in
    let ds = views c.args.items.now in
    let e = c.in-Opens.ensures in
    omega (
      arith,
      (front_opens c.args.room (views vs) e.0 e.1 e.2 c.in-Opens.len e.3).fits,
      views_length vs,
      views_length c.args.items.now,
      c.loop-rest.invariant.places,
      mark_count c.args.room c.args.at ds c.args.marks.now c.requires.marked,
    )

pub overflow_sub-room : goal.overflow_sub-room
overflow_sub-room t c =
    let e = c.in-Opens.ensures in
    (front_opens c.args.room (views c.loop-rest.rest.now) e.0 e.1 e.2 c.in-Opens.len e.3).roomy

-- a body takes as many elements as its CALLABLE says
body_span : (room at len : ℕ) (ds : List Data) (body : Ops) → len + 5 ≤ length ds → read_ops room at (take len (drop 5 ds)) ≡ Ok body → span body ≡ len
body_span room at len ds body le e = omega (arith, (is_read room at (take len (drop 5 ds)) body e).span, length-take len (drop 5 ds), length-drop 5 ds)

pub build-requires : goal.build-requires
build-requires t c =
    let vs = c.loop-rest.rest.now in
    let room = c.args.room in
    let len = c.in-Opens.len in
    let place = c.loop-rest.place in
    let ds = views c.args.items.now in
    let r = read_ops room c.args.at ds in
    let all = ops_read r in
    let w = was_read room r c.args.marks.now c.requires.marked in
    let e = c.in-Opens.ensures in
    let h = front_opens room (views vs) e.0 e.1 e.2 len e.3 in
    let some : 0 < length (views vs) = omega (arith, h.fits) in
    let part : c.front_part-inner.result.now ≡ take len (drop 5 vs) = c.front_part-inner.ensures ∙ ap (take len) c.behind-in-Opens.ensures in
    let long = ap length part in
    let i = opens_first room c.args.at all c.loop-rest.ops.items place (views vs) e.0 e.1 e.2 len c.loop-rest.invariant.going some e.3 in
    let p = (c.args.at + place) + 5 in
    let inside : read_ops (room - 1) p (views c.front_part-inner.result.now) ≡ Ok i.body = ap (read_ops (room - 1) p) (ap views part ∙ views_part 5 len vs) ∙ i.inside in
    let size : len ≡ span i.body = sym (body_span (room - 1) p len (views vs) i.body (omega (arith, h.fits)) i.inside) in
    let marked : c.marks_part-inner_marks.result.now ≡ marks (room - 1) i.body ++ suc (room - 1) ∷ [] =
    c.marks_part-inner_marks.ensures
    ∙ inner_marks room all (ops_of c.loop-rest.ops.items) e.0 e.1 i.body e.2 i.first.others place len c.args.marks.now w.1 (is_read room c.args.at ds all w.0).shallow i.first.whole i.first.place_is size in (
      omega (arith, c.decreases, long, length-take len (drop 5 vs), length-drop 5 vs, h.fits, views_length vs, c.loop-rest.invariant.places),
      (
        omega (arith, long, length-take len (drop 5 vs), length-drop 5 vs, h.fits, views_length vs, c.loop-rest.invariant.places, c.requires.short),
        (
          omega (arith, long, length-take len (drop 5 vs), length-drop 5 vs, h.fits, views_length vs, c.loop-rest.invariant.places, c.requires.place),
          (omega (arith, c.requires.room), subst (λ x. HasMarks (room - 1) x c.marks_part-inner_marks.result.now) (sym inside) marked),
        ),
      ),
    )

-- the CALLABLE at the front, with its name, parameters and captures
callable_at : (room : ℕ) (ds : List Data) (name : List ℕ) (params : ℕ) (cs : List Capture) (len n : ℕ) → Opened room ds name params cs len → length cs ≡ n → CallableAt ds n len name params cs
callable_at room ds name params cs len n h same =
    let there : drop 2 (drop len (drop 5 ds)) ≡ drop (7 + len) ds = drop-drop 2 len (drop 5 ds) ∙ drop-drop (len + 2) 5 ds ∙ ap (λ k. drop k ds) (seven len) in
    record {
      fits = omega (arith, h.fits);
      name_at = h.name_at;
      params_at = h.params_at;
      captures_at = ap₂ captures_in (sym same) (sym there) ∙ h.captures_at;
    }
  where
    seven : (k : ℕ) → 5 + (k + 2) ≡ 7 + k
    seven k = omega arith

pub callable-requires-clause-there : goal.callable-requires-clause-there
callable-requires-clause-there t c =
    let vs = c.loop-rest.rest.now in
    let e = c.in-Opens.ensures in
    let h = front_opens c.args.room (views vs) e.0 e.1 e.2 c.in-Opens.len e.3 in
    (e.0, e.1, e.2, callable_at c.args.room (views vs) e.0 e.1 e.2 c.in-Opens.len c.in-Opens.captures h e.4)

pub behind-rest-requires-in-Ok : goal.behind-rest-requires-in-Ok
behind-rest-requires-in-Ok t c =
    let vs = c.loop-rest.rest.now in
    let e = c.in-Opens.ensures in
    omega (arith, (front_opens c.args.room (views vs) e.0 e.1 e.2 c.in-Opens.len e.3).fits, e.4, views_length vs)

pub loop-rest-preserved : goal.loop-rest-preserved
loop-rest-preserved t c =
    let vs = c.loop-rest.rest.now in
    let room = c.args.room in
    let len = c.in-Opens.len in
    let place = c.loop-rest.place in
    let ops = c.loop-rest.ops.items in
    let all = ops_read (read_ops room c.args.at (views c.args.items.now)) in
    let e = c.in-Opens.ensures in
    let cs = e.2 in
    let h = front_opens room (views vs) e.0 e.1 cs len e.3 in
    let some : 0 < length (views vs) = omega (arith, h.fits) in
    let k = callable_size (length cs) len in
    let size_is : k ≡ 7 + len + 2 * c.in-Opens.captures = ap (λ n. 7 + len + 2 * n) e.4 in
    let part : c.front_part-inner.result.now ≡ take len (drop 5 vs) = c.front_part-inner.ensures ∙ ap (take len) c.behind-in-Opens.ensures in
    let i = opens_first room c.args.at all ops place (views vs) e.0 e.1 cs len c.loop-rest.invariant.going some e.3 in
    let p = (c.args.at + place) + 5 in
    let d = inner_done room c.args.at all ops place (views vs) e.0 e.1 cs len c.in-Ok.body i (ap (λ xs. placed p (read_ops (room - 1) p xs)) (sym (ap views part ∙ views_part 5 len vs)) ∙ c.in-Ok.ensures) in
    let x = c.in_ok-callable-in-Ok.field-0 in
    let o = Callable e.0 e.1 i.body cs in
    let made : op_of x ≡ o =
    c.in_ok-callable-in-Ok.ensures e.0 e.1 cs (callable_at room (views vs) e.0 e.1 cs len c.in-Opens.captures h e.4) ∙ ap (λ b. Callable e.0 e.1 b cs) d.0 in
    let there : place + k ≡ place + size o = omega (arith, body_span (room - 1) p len (views vs) i.body (omega (arith, h.fits)) i.inside) in
    let b = building_more room c.args.at all ops place o (drop k (views vs)) (place + k) x i.first made there d.1 in
    let next : c.behind-rest-in-Ok.result.now ≡ drop k vs = c.behind-rest-in-Ok.ensures ∙ ap (λ n. drop n vs) (sym size_is) in
    record {
      going = building_at room c.args.at all (ops ++ x ∷ []) (place + k) (drop k (views vs)) c.push-in-Ok.new.self.items (place + (7 + len + 2 * c.in-Opens.captures)) (views c.behind-rest-in-Ok.result.now) b
          (sym c.in_ok-push-in-Ok.ensures.items) (ap (λ n. place + n) size_is) (views_drop k vs ∙ ap views (sym next));
      places = omega (arith, ap length next, length-drop k vs, size_is, h.fits, views_length vs, c.loop-rest.invariant.places);
    }

pub returns-in-Err : goal.returns-in-Err
returns-in-Err t c =
    let vs = c.loop-rest.rest.now in
    let room = c.args.room in
    let len = c.in-Opens.len in
    let place = c.loop-rest.place in
    let r = read_ops room c.args.at (views c.args.items.now) in
    let e = c.in-Opens.ensures in
    let h = front_opens room (views vs) e.0 e.1 e.2 len e.3 in
    let some : 0 < length (views vs) = omega (arith, h.fits) in
    let part : c.front_part-inner.result.now ≡ take len (drop 5 vs) = c.front_part-inner.ensures ∙ ap (take len) c.behind-in-Opens.ensures in
    let i = opens_first room c.args.at (ops_read r) c.loop-rest.ops.items place (views vs) e.0 e.1 e.2 len c.loop-rest.invariant.going some e.3 in
    let p = (c.args.at + place) + 5 in
    building_stop room c.args.at (ops_read r) c.loop-rest.ops.items place (views vs) e.0 e.1 e.2 len r c.in-Err.stop i (was_read room r c.args.marks.now c.requires.marked).0
    (subst (λ xs. StopIs c.in-Err.stop (placed p (read_ops (room - 1) p xs))) (ap views part ∙ views_part 5 len vs) c.in-Err.ensures)

-- what the operations are in the end
record Code (room at : ℕ) (r : Result Ops CodeStop) (ops : Ops) : Type 0 where
  operands : allowed ops ≡ true
  distances : lost 0 ops ≡ None
  nesting : height ops ≤ room
  is : placed at r ≡ Ok ops

code_in : (room at : ℕ) (ds : List Data) (ms : List ℕ) (ops : List RustOp) (place : ℕ) (vs : List Value) → HasMarks room (read_ops room at ds) ms → Building room at (ops_read (read_ops room at ds)) ops place (views vs) → vs ≡ []
    → Code room at (read_ops room at ds) (ops_of ops)
code_in room at ds ms ops place vs marked going none =
    let r = read_ops room at ds in
    let all = ops_read r in
    let w = was_read room r ms marked in
    let i = is_read room at ds all w.0 in
    let f = building_end room at all ops place (views vs) going (ap views none) in
    record {
      operands = ap allowed (sym f.whole) ∙ i.allowed;
      distances = ap (lost 0) (sym f.whole) ∙ lost_none at 0 all f.led;
      nesting = subst (λ x. height x ≤ room) f.whole i.shallow;
      is = ap (placed at) w.0 ∙ ap (on_lost all) f.led ∙ ap Ok f.whole;
    }

pub new-requires-clause-operands : goal.new-requires-clause-operands
new-requires-clause-operands t c =
    let none = none_left c.loop-rest.rest.now c.is_empty.result c.is_empty.ensures c.loop-rest-test.false in
    (code_in c.args.room c.args.at (views c.args.items.now) c.args.marks.now c.loop-rest.ops.items c.loop-rest.place c.loop-rest.rest.now c.requires.marked c.loop-rest.invariant.going none).operands

pub new-requires-clause-distances : goal.new-requires-clause-distances
new-requires-clause-distances t c =
    let none = none_left c.loop-rest.rest.now c.is_empty.result c.is_empty.ensures c.loop-rest-test.false in
    (code_in c.args.room c.args.at (views c.args.items.now) c.args.marks.now c.loop-rest.ops.items c.loop-rest.place c.loop-rest.rest.now c.requires.marked c.loop-rest.invariant.going none).distances

pub new-requires-clause-nesting : goal.new-requires-clause-nesting
new-requires-clause-nesting t c =
    let none = none_left c.loop-rest.rest.now c.is_empty.result c.is_empty.ensures c.loop-rest-test.false in
    let h = code_in c.args.room c.args.at (views c.args.items.now) c.args.marks.now c.loop-rest.ops.items c.loop-rest.place c.loop-rest.rest.now c.requires.marked c.loop-rest.invariant.going none in
    omega (arith, h.nesting, c.requires.room)

pub returns : goal.returns
returns t c =
    let none = none_left c.loop-rest.rest.now c.is_empty.result c.is_empty.ensures c.loop-rest-test.false in
    (code_in c.args.room c.args.at (views c.args.items.now) c.args.marks.now c.loop-rest.ops.items c.loop-rest.place c.loop-rest.rest.now c.requires.marked c.loop-rest.invariant.going none).is ∙ ap Ok (sym c.new.ensures)
