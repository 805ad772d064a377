use Rattle.std.proofs.Common.{◌++◌, sym, ap, ◌∙◌}
use Rattle.std.proofs.lemmas.Iterator.{YieldsList-from_chars}
use Rattle.std.proofs.lemmas.Iterator.Consumers.{YieldsList-end}
use Rattle.std.proofs.lemmas.Str.{encodes-chars}
use Rattle.std.specs.Prelude.{string_bytes, encode_utf8, encode_utf8_all}
use Rattle.hog_printer.specs.Print.{quoted}
use Rattle.hog_printer.specs.View.{quotes_of}
use Rattle.hog_printer.proofs.Added.{two}
use Rattle.hog_printer.proofs.Chars.{quoted_nothing, quoted_push, same_map}
use Rattle.hog_printer.proofs.quotes.quoted.Goals as goal

pub loop-c-init : goal.loop-c-init
loop-c-init c = quoted_nothing (quotes_of c.args.quotes) (string_bytes c.args.out.now)

pub loop-c-preserved : goal.loop-c-preserved
loop-c-preserved c =
    two (string_bytes c.args.out.now) (quoted (quotes_of c.args.quotes) (encode_utf8_all c.loop-c.yielded)) (quoted (quotes_of c.args.quotes) (encode_utf8 c.in-Some.c)) c.loop-c.invariant c.in_ok-put.ensures ∙ ap (λ z. string_bytes c.args.out.now ++ z) (sym (quoted_push (quotes_of c.args.quotes) c.loop-c.yielded c.in-Some.c))

pub returns : goal.returns
returns c =
    let t = YieldsList-end (YieldsList-from_chars c.args.text.now c.utf8.text cc) c.loop-c.yielded _ c.loop-c.yielded_by _ _ c.in-None.is c.next.ensures.steps in
    let all = sym (same_map c.loop-c.yielded) ∙ t.0 in
    c.loop-c.invariant ∙ ap (λ z. string_bytes c.args.out.now ++ quoted (quotes_of c.args.quotes) z) (ap encode_utf8_all all ∙ encodes-chars c.args.text.now c.utf8.text)
