use Rattle.std.proofs.Common.{rules, sym, subst}
use Rattle.hog_library.specs.Called.{called}
use Rattle.hog_library.specs.Answers.{Follows, IsPlain}
use Rattle.hog_library.proofs.Follows.{follows_given, called_plain}
use Rattle.hog_library.proofs.call.call_native.Goals as goal

pub returns-in-Print : goal.returns-in-Print
unfolding called
returns-in-Print c =
    subst (λ n. Follows (called n c.args.args.now c.args.heap.now c.args.m.now) c.print.result c.args.heap.now c.args.heap.now c.args.m.now c.print.new.m) (sym c.in-Print.is) c.print.ensures

pub returns-in-Fetch : goal.returns-in-Fetch
unfolding called
returns-in-Fetch c =
    subst (λ n. Follows (called n c.args.args.now c.args.heap.now c.args.m.now) c.fetch.result c.args.heap.now c.fetch.new.heap c.args.m.now c.fetch.new.m) (sym c.in-Fetch.is) c.fetch.ensures

pub returns-in-JsonParse : goal.returns-in-JsonParse
unfolding called
returns-in-JsonParse c =
    subst (λ n. Follows (called n c.args.args.now c.args.heap.now c.args.m.now) c.json_parse.result c.args.heap.now c.json_parse.new.heap c.args.m.now c.json_parse.new.m) (sym c.in-JsonParse.is) c.json_parse.ensures

pub returns-in-Error : goal.returns-in-Error
unfolding called
returns-in-Error c =
    subst (λ n. Follows (called n c.args.args.now c.args.heap.now c.args.m.now) c.given.result c.args.heap.now c.error.new.heap c.args.m.now c.error.new.m) (sym c.in-Error.is)
    (follows_given _ _ _ _ _ _ _ c.given.ensures c.error.ensures)

pub returns-in_default : goal.returns-in_default
returns-in_default c =
    let plain : IsPlain c.args.native = search rules in
    subst (λ o. Follows o c.plain.result c.args.heap.now c.plain.new.heap c.args.m.now c.plain.new.m) (called_plain c.args.native c.args.args.now c.args.heap.now c.args.m.now plain) c.plain.ensures
