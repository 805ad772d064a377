use Rattle.std.proofs.Common.{get_or, false}
use Rattle.std.proofs.lemmas.List.{get_or_default}
use Rattle.hog_ops.specs.declared.capture.Capture.{Capture}
use Rattle.bytecode_front.specs.Views.{views}
use Rattle.bytecode_json.proofs.Written.{captures_more, fit_more}
use Rattle.bytecode_json.proofs.encoder.write_captures.Goals as goal

pub loop-capture-preserved : goal.loop-capture-preserved
loop-capture-preserved c =
    let xs = c.args.captures.now in
    let i = c.loop-capture.capture-index in
    let past : Capture = record { local = false; index = 0 } in
    let x = get_or xs i past in
    let at = get_or_default xs i past x c.loop-capture-test.true in
    let h = c.in_ok-write_capture.ensures in
    record {
      written = captures_more xs i x (views c.args.items.now.items) (views c.loop-capture.items.items) (views c.write_capture.new.items.items) c.loop-capture-test.true at c.loop-capture.invariant.written h.written;
      fits = fit_more xs i x c.loop-capture-test.true at c.loop-capture.invariant.fits h.fits;
    }
