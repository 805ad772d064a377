use Rattle.std.proofs.Common.{sym, zero-add, ◌∙◌}
use Rattle.std.proofs.lemmas.Str.{IsCharBoundary-start, IsCharBoundary-after_ascii}
use Rattle.hog_library.proofs.Blanks.{blanks_more, blank_is_ascii}
use Rattle.hog_library.proofs.texts.trimmed_front.Goals as goal

pub loop-start-init : goal.loop-start-init
loop-start-init c = record {
  counted = sym (zero-add _);
  boundary = IsCharBoundary-start _ c.as_bytes-bytes.ensures.utf8;
}

pub loop-start-preserved : goal.loop-start-preserved
loop-start-preserved c =
    let blank = sym c.is_blank.ensures ∙ c.if-is_blank.true in record {
      counted = blanks_more _ _ _ c.loop-start-test.true blank c.loop-start.invariant.counted;
      boundary = IsCharBoundary-after_ascii _ _ c.as_bytes-bytes.ensures.utf8 c.loop-start-test.true (blank_is_ascii _ blank);
    }
