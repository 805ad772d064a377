use Rattle.std.proofs.Common.{◌≡◌, ◌≤◌, ℕ, suc, ◌+◌, ◌-◌, ◌*◌, ◌<◌, List, [], ◌∷◌, ◌++◌, Bool, true, false, length, drop, take, replicate, add-one, refl, sym, ap, ap₂, ◌∙◌, subst, arith, length-drop, length-take, Ok}
use Rattle.std.proofs.lemmas.Bool.Decides.{nat_tests}
use Rattle.std.specs.Prelude.{◌==◌}
use Rattle.serde_json.specs.declared.value.Value.{Value}
use Rattle.hog_ops.specs.Plain.{Callable, Str}
use Rattle.hog_ops.specs.Table.{size}
use Rattle.hog_ops.specs.View.{op_of}
use Rattle.bytecode_builder.specs.Marks.{op_marks, marks}
use Rattle.bytecode_front.specs.Reading.{callable_size, read_ops}
use Rattle.bytecode_builder.specs.Placed.{StopIs}
use Rattle.bytecode_front.specs.Views.{views}
use Rattle.bytecode_front.proofs.Fronts.{front_found, front_opens}
use Rattle.bytecode_builder.proofs.Scans.{Going, going_start, going_at, going_found, going_opens, going_end, going_fault, going_stop, simple_marks, callable_marks}
use Rattle.bytecode_front.proofs.Slices.{views_drop, views_part, views_length}
use Rattle.bytecode_builder.proofs.scan.+scan.Goals as goal

some_left : (n : ℕ) (b : Bool) → b ≡ (n == 0) → b ≡ false → 0 < n
some_left n b e f = grind (arith, nat_tests)

none_left : (vs : List Value) (b : Bool) → b ≡ (length vs == 0) → b ≡ true → vs ≡ []
none_left [] b e f = refl
none_left (v ∷ vs) b e f = absurd (grind (arith, nat_tests))

pub loop-rest-init : goal.loop-rest-init
loop-rest-init t c = record { going = going_start c.args.room c.args.at (views c.args.items.now) c.args.marks.now.items; places = refl; from = omega arith }

pub returns-in-Faulty : goal.returns-in-Faulty
returns-in-Faulty t c =
    let vs = c.loop-rest.rest.now in
    let some : 0 < length (views vs) = omega (arith, views_length vs, some_left (length vs) c.is_empty.result c.is_empty.ensures c.loop-rest-test.true) in
    going_fault c.args.room c.args.at (views c.args.items.now) c.args.marks.now.items c.loop-rest.place (views vs) c.loop-rest.marks.items c.in-Faulty.why c.stop_at.result
    c.loop-rest.invariant.going some c.in-Faulty.ensures c.stop_at.ensures

pub behind-rest-requires : goal.behind-rest-requires
behind-rest-requires t c =
    let vs = c.loop-rest.rest.now in
    omega (arith, c.size_of-size.ensures, (front_found c.args.room (views vs) (op_of c.in-Found.op) c.in-Found.ensures).fits, views_length vs)

pub behind-rest-requires-in-Text : goal.behind-rest-requires-in-Text
behind-rest-requires-in-Text t c =
    let vs = c.loop-rest.rest.now in
    omega (arith, (front_found c.args.room (views vs) (Str c.in-Text.ensures.0) c.in-Text.ensures.1).fits, views_length vs)

pub loop-rest-preserved-in-Found : goal.loop-rest-preserved-in-Found
loop-rest-preserved-in-Found t c =
    let vs = c.loop-rest.rest.now in
    let o = op_of c.in-Found.op in
    let front = c.in-Found.ensures in
    let h = front_found c.args.room (views vs) o front in
    let some : 0 < length (views vs) = omega (arith, h.some, h.fits) in
    let next : c.behind-rest.result.now ≡ drop (size o) vs = c.behind-rest.ensures ∙ ap (λ k. drop k vs) c.size_of-size.ensures in
    let marked : c.mark.new.marks.items ≡ c.loop-rest.marks.items ++ op_marks c.args.room o =
    c.in_ok-mark-in-Found.ensures ∙ ap₂ (λ m k. c.loop-rest.marks.items ++ m ∷ replicate (k - 1) 0) (add-one c.args.room) c.size_of-size.ensures
    ∙ ap (λ ms. c.loop-rest.marks.items ++ ms) (sym (simple_marks c.args.room o h.height)) in
    record {
      going = going_at c.args.room c.args.at (views c.args.items.now) c.args.marks.now.items (c.loop-rest.place + size o) (drop (size o) (views vs)) c.mark.new.marks.items
          (c.loop-rest.place + c.size_of-size.result) (views c.behind-rest.result.now)
          (going_found c.args.room c.args.at (views c.args.items.now) c.args.marks.now.items c.loop-rest.place (views vs) c.loop-rest.marks.items o c.mark.new.marks.items c.loop-rest.invariant.going some front marked)
          (ap (λ k. c.loop-rest.place + k) (sym c.size_of-size.ensures)) (views_drop (size o) vs ∙ ap views (sym next));
      places = omega (arith, ap length next, length-drop (size o) vs, h.fits, views_length vs, c.size_of-size.ensures, c.loop-rest.invariant.places);
      from = omega (arith, c.loop-rest.invariant.from);
    }

pub loop-rest-preserved-in-Text : goal.loop-rest-preserved-in-Text
loop-rest-preserved-in-Text t c =
    let vs = c.loop-rest.rest.now in
    let o = Str c.in-Text.ensures.0 in
    let h = front_found c.args.room (views vs) o c.in-Text.ensures.1 in
    let some : 0 < length (views vs) = omega (arith, h.fits) in
    let next : c.behind-rest-in-Text.result.now ≡ drop 2 vs = c.behind-rest-in-Text.ensures in
    let marked : c.mark-in-Text.new.marks.items ≡ c.loop-rest.marks.items ++ op_marks c.args.room o =
    c.in_ok-mark-in-Text.ensures ∙ ap (λ m. c.loop-rest.marks.items ++ m ∷ 0 ∷ []) (add-one c.args.room) in
    record {
      going = going_at c.args.room c.args.at (views c.args.items.now) c.args.marks.now.items (c.loop-rest.place + 2) (drop 2 (views vs)) c.mark-in-Text.new.marks.items (c.loop-rest.place + 2) (views c.behind-rest-in-Text.result.now)
          (going_found c.args.room c.args.at (views c.args.items.now) c.args.marks.now.items c.loop-rest.place (views vs) c.loop-rest.marks.items o c.mark-in-Text.new.marks.items c.loop-rest.invariant.going some c.in-Text.ensures.1 marked)
          refl (views_drop 2 vs ∙ ap views (sym next));
      places = omega (arith, ap length next, length-drop 2 vs, h.fits, views_length vs, c.loop-rest.invariant.places);
      from = omega (arith, c.loop-rest.invariant.from);
    }

pub behind-requires : goal.behind-requires
behind-requires t c =
    let vs = c.loop-rest.rest.now in
    let e = c.in-Opens.ensures in
    omega (arith, (front_opens c.args.room (views vs) e.0 e.1 e.2 c.in-Opens.len e.3).fits, views_length vs)

pub front_part-body-requires : goal.front_part-body-requires
front_part-body-requires t c =
    let vs = c.loop-rest.rest.now in
    let e = c.in-Opens.ensures in
    omega (arith, (front_opens c.args.room (views vs) e.0 e.1 e.2 c.in-Opens.len e.3).fits, views_length vs, ap length c.behind.ensures, length-drop 5 vs)

pub overflow_sub-room : goal.overflow_sub-room
overflow_sub-room t c =
    let e = c.in-Opens.ensures in
    (front_opens c.args.room (views c.loop-rest.rest.now) e.0 e.1 e.2 c.in-Opens.len e.3).roomy

pub scan-requires : goal.scan-requires
scan-requires t c =
    let vs = c.loop-rest.rest.now in
    let e = c.in-Opens.ensures in
    let h = front_opens c.args.room (views vs) e.0 e.1 e.2 c.in-Opens.len e.3 in
    let part : c.front_part-body.result.now ≡ take c.in-Opens.len (drop 5 vs) = c.front_part-body.ensures ∙ ap (take c.in-Opens.len) c.behind.ensures in
    let long = ap length part in (
      omega (arith, c.decreases, long, length-take c.in-Opens.len (drop 5 vs), length-drop 5 vs, h.fits, views_length vs, c.loop-rest.invariant.places, c.loop-rest.invariant.from),
      (omega (arith, long, length-take c.in-Opens.len (drop 5 vs), length-drop 5 vs, h.fits, views_length vs, c.loop-rest.invariant.places, c.requires.place), omega (arith, c.requires.room)),
    )

pub behind-rest-requires-in-Ok : goal.behind-rest-requires-in-Ok
behind-rest-requires-in-Ok t c =
    let vs = c.loop-rest.rest.now in
    let e = c.in-Opens.ensures in
    omega (arith, (front_opens c.args.room (views vs) e.0 e.1 e.2 c.in-Opens.len e.3).fits, e.4, views_length vs)

pub loop-rest-preserved : goal.loop-rest-preserved
loop-rest-preserved t c =
    let vs = c.loop-rest.rest.now in
    let room = c.args.room in
    let len = c.in-Opens.len in
    let old = c.loop-rest.marks.items in
    let e = c.in-Opens.ensures in
    let cs = e.2 in
    let h = front_opens room (views vs) e.0 e.1 cs len e.3 in
    let some : 0 < length (views vs) = omega (arith, h.fits) in
    let size : callable_size (length cs) len ≡ 7 + len + 2 * c.in-Opens.captures = ap (λ k. 7 + len + 2 * k) e.4 in
    let part : c.front_part-body.result.now ≡ take len (drop 5 vs) = c.front_part-body.ensures ∙ ap (take len) c.behind.ensures in
    let next : c.behind-rest-in-Ok.result.now ≡ drop (callable_size (length cs) len) vs = c.behind-rest-in-Ok.ensures ∙ ap (λ k. drop k vs) (sym size) in
    let r = c.in-Ok.ensures in
    let inside : read_ops (room - 1) (c.loop-rest.place + 5) (take len (drop 5 (views vs))) ≡ Ok r.0 =
    ap (read_ops (room - 1) (c.loop-rest.place + 5)) (sym (ap views part ∙ views_part 5 len vs)) ∙ r.1 in
    let tail : c.mark-in-Ok.new.marks.items ≡ c.scan.new.marks.items ++ room ∷ replicate (1 + 2 * length cs) 0 =
    c.in_ok-mark-in-Ok.ensures ∙ ap (λ k. c.scan.new.marks.items ++ room ∷ replicate (1 + 2 * k) 0) (sym e.4) in
    let marked = callable_marks room e.0 e.1 cs r.0 old c.mark-in-Opens.new.marks.items c.scan.new.marks.items c.mark-in-Ok.new.marks.items h.roomy c.in_ok-mark-in-Opens.ensures r.2 tail in
    record {
      going = going_at room c.args.at (views c.args.items.now) c.args.marks.now.items (c.loop-rest.place + callable_size (length cs) len) (drop (callable_size (length cs) len) (views vs)) c.mark-in-Ok.new.marks.items
          (c.loop-rest.place + (7 + len + 2 * c.in-Opens.captures)) (views c.behind-rest-in-Ok.result.now)
          (going_opens room c.args.at (views c.args.items.now) c.args.marks.now.items c.loop-rest.place (views vs) old e.0 e.1 cs len r.0 c.mark-in-Ok.new.marks.items c.loop-rest.invariant.going some e.3 inside marked)
          (ap (λ k. c.loop-rest.place + k) size) (views_drop (callable_size (length cs) len) vs ∙ ap views (sym next));
      places = omega (arith, ap length next, length-drop (callable_size (length cs) len) vs, size, h.fits, views_length vs, c.loop-rest.invariant.places);
      from = omega (arith, c.loop-rest.invariant.from);
    }

pub returns-in-Err : goal.returns-in-Err
returns-in-Err t c =
    let vs = c.loop-rest.rest.now in
    let room = c.args.room in
    let len = c.in-Opens.len in
    let e = c.in-Opens.ensures in
    let h = front_opens room (views vs) e.0 e.1 e.2 len e.3 in
    let some : 0 < length (views vs) = omega (arith, h.fits) in
    let part : c.front_part-body.result.now ≡ take len (drop 5 vs) = c.front_part-body.ensures ∙ ap (take len) c.behind.ensures in
    let inside : StopIs c.in-Err.stop (read_ops (room - 1) (c.loop-rest.place + 5) (take len (drop 5 (views vs)))) =
    subst (λ ds. StopIs c.in-Err.stop (read_ops (room - 1) (c.loop-rest.place + 5) ds)) (ap views part ∙ views_part 5 len vs) c.in-Err.ensures in
    going_stop room c.args.at (views c.args.items.now) c.args.marks.now.items c.loop-rest.place (views vs) c.loop-rest.marks.items e.0 e.1 e.2 len c.in-Err.stop c.loop-rest.invariant.going some e.3 inside

pub returns : goal.returns
returns t c =
    let none = none_left c.loop-rest.rest.now c.is_empty.result c.is_empty.ensures c.loop-rest-test.false in
    let g = c.loop-rest.invariant.going in
    going_end c.args.room c.args.at (views c.args.items.now) c.args.marks.now.items c.loop-rest.place c.loop-rest.marks.items
    (going_at c.args.room c.args.at (views c.args.items.now) c.args.marks.now.items c.loop-rest.place (views c.loop-rest.rest.now) c.loop-rest.marks.items c.loop-rest.place [] g refl (ap views none))
