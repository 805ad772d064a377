use Rattle.std.proofs.Common.{◌++◌, Err, sym, ap, ◌∙◌, append_assoc, encode_utf8}
use Rattle.std.specs.Str.Iter.{chars_rest}
use Rattle.hog_json.specs.Texts.{shown_byte}
use Rattle.hog_json.proofs.Pieces.{one_more, one_too_many}
use Rattle.hog_json.proofs.builder.Builder.put_escaped.Goals as goal

pub loop-ch-preserved : goal.loop-ch-preserved
loop-ch-preserved c =
    let h = c.loop-ch.invariant in
    let more = encode_utf8 c.in-Some.ch in
    let rest = chars_rest c.next.new.self in (
      h.0 ++ more,
      h.1 ∙ ap (λ t. h.0 ++ t) c.in-Some.ensures.steps.0 ∙ sym (append_assoc h.0 more rest),
      one_more shown_byte c.args.self.now h.0 c.loop-ch.self h.2 more c.put_char.new.self c.in_ok-put_char.ensures.ok,
    )

pub returns-in_err-put_char-clause-spent : goal.returns-in_err-put_char-clause-spent
returns-in_err-put_char-clause-spent c spent =
    let h = c.loop-ch.invariant in
    let more = encode_utf8 c.in-Some.ch in
    let rest = chars_rest c.next.new.self in
    let same = rw spent at c.from_residual.ensures in
    let split = h.1 ∙ ap (λ t. h.0 ++ t) c.in-Some.ensures.steps.0 in
    one_too_many shown_byte c.args.self.now h.0 c.loop-ch.self h.2 more rest c.args.text.now split (c.in_err-put_char.ensures.spent (ap Err (sym same.1)))
