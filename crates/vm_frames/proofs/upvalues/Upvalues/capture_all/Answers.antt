use Rattle.std.proofs.Common.{◌≡◌, ◌+◌, ◌-◌, ℕ, drop, length, ap, sym, ◌∙◌, subst, arith}
use Rattle.std.proofs.lemmas.List.{get_or_default}
use Rattle.vm_frames.specs.Room.{IsRoomy, seen}
use Rattle.vm_frames.proofs.Capturing.{numbers_behind, numbers-next}
use Rattle.vm_frames.proofs.upvalues.Upvalues.capture_all.Goals as goal

pub loop-c-preserved : goal.loop-c-preserved
loop-c-preserved c =
    let left : length c.args.captures.now - c.loop-c.c-index ≡ (length c.args.captures.now - (c.loop-c.c-index + 1)) + 1 = omega (arith, c.loop-c-test.true) in
    record {
      so_far = λ f base. c.loop-c.invariant.so_far f base
          ∙ numbers-next c.args.height f c.args.captured.now c.args.captures.now c.loop-c.c-index _ c.loop-c.numbers.items c.capture-number.result (seen c.loop-c.self-inside.listed) (seen c.capture-number.new.self) c.loop-c-test.true (get_or_default c.args.captures.now c.loop-c.c-index _ _ c.loop-c-test.true) (c.capture-number.ensures.is f base)
          ∙ ap (λ ns. numbers_behind c.args.height f c.args.captured.now (drop (c.loop-c.c-index + 1) c.args.captures.now) ns (seen c.capture-number.new.self)) (sym c.push_reserved.ensures.items);
      names = λ n all. c.capture-number.ensures.names n (c.loop-c.invariant.names n all);
      room = c.capture-number.ensures.room (length c.args.captures.now - (c.loop-c.c-index + 1)) (subst (λ (k : ℕ). IsRoomy k c.loop-c.self-inside.listed) left c.loop-c.invariant.room);
      numbers = omega (arith, left, c.loop-c.invariant.numbers, c.push_reserved.ensures.len, c.push_reserved.ensures.capacity);
    }
