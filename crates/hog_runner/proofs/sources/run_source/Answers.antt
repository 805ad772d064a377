use Rattle.std.proofs.Common.{Err, List, ℕ, refl, ap, arith}
use Rattle.std.specs.Option.{ForSome}
use Rattle.hog_tree.specs.View.{tree_of}
use Rattle.hog_runner.specs.Commands.{IsOutput, NoProgram, SourceOutputs, TooLarge}
use Rattle.hog_runner.specs.Serves.{Taken, Refused, Unread, NoRoom, Told}
use Rattle.hog_runner.proofs.ServesLemmas.{not_done, puts_so}
use Rattle.hog_runner.proofs.sources.run_source.Goals as goal

pub returns-in-Ok : goal.returns-in-Ok
returns-in-Ok g c = record {
  at =
      let whole : (out : List ℕ) → IsOutput c.args.command (tree_of c.in-Ok.program) out → ForSome (g.S.Source.left c.args.source.now) (λ text. SourceOutputs c.args.command text out) =
      λ out is text told. record { tree = tree_of c.in-Ok.program; program = c.in-Ok.ensures.program text told; output = is } in
      Taken (puts_so _ _ whole whole c.run.ensures.output);
  end = λ zero. c.in-Ok.ensures.end;
  bounded = c.in-Ok.ensures.bounded;
  reads_rise = c.in-Ok.ensures.count;
  writes_rise = c.run.ensures.count;
}

pub returns-in-Err-TooLarge : goal.returns-in-Err-TooLarge
returns-in-Err-TooLarge g c = record {
  at = Refused _ (λ text told. TooLarge (c.in-Err-TooLarge.ensures.large (ap Err c.in-Err-TooLarge.field-0-is) text told) refl) (Told refl c.refuse.ensures.line);
  end = λ zero. absurd (omega (arith, zero));
  bounded = c.in-Err-TooLarge.ensures.bounded;
  reads_rise = c.in-Err-TooLarge.ensures.count;
  writes_rise = c.refuse.ensures.count;
}

pub returns-in-Err-Refused : goal.returns-in-Err-Refused
returns-in-Err-Refused g c =
    let line = rw c.in-Err-Refused.stop-is at c.refuse_source.ensures.line in
    record {
      at =
          Refused _
          (λ text told. let r = c.in-Err-Refused.ensures.refused c.in-Err-Refused.stop (ap Err c.in-Err-Refused.field-0-is) text told in NoProgram r.0 c.in-Err-Refused.stop r.1 refl)
          line;
      end = λ zero. absurd (not_done line zero);
      bounded = c.in-Err-Refused.ensures.bounded;
      reads_rise = c.in-Err-Refused.ensures.count;
      writes_rise = c.refuse_source.ensures.count;
    }

pub returns-in-Err-ReadFailed : goal.returns-in-Err-ReadFailed
returns-in-Err-ReadFailed g c = record {
  at = Unread refl (c.in-Err-ReadFailed.ensures.failed (ap Err c.in-Err-ReadFailed.field-0-is)) refl;
  end = λ zero. absurd (omega (arith, zero));
  bounded = c.in-Err-ReadFailed.ensures.bounded;
  reads_rise = c.in-Err-ReadFailed.ensures.count;
  writes_rise = omega arith;
}

pub returns-in-Err-OutOfMemory : goal.returns-in-Err-OutOfMemory
returns-in-Err-OutOfMemory g c = record {
  at = NoRoom refl refl;
  end = λ zero. absurd (omega (arith, zero));
  bounded = c.in-Err-OutOfMemory.ensures.bounded;
  reads_rise = c.in-Err-OutOfMemory.ensures.count;
  writes_rise = omega arith;
}
