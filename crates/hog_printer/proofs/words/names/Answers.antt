use Rattle.std.proofs.Common.{◌≡◌, ◌++◌, ◌∷◌, [], arith, sym, ap, ◌∙◌, subst, take}
use Rattle.std.specs.Prelude.{string_bytes}
use Rattle.hog_tree.specs.View.{words_of}
use Rattle.hog_grammar.proofs.Utf8.{all_low}
use Rattle.hog_printer.specs.Print.{names}
use Rattle.hog_printer.proofs.Added.{two, one_more, all_added, comma_after, comma_more, names_push}
use Rattle.hog_printer.proofs.words.names.Goals as goal

pub loop-name-preserved : goal.loop-name-preserved
loop-name-preserved c =
    let xs = c.items-name-items.result.now in
    record {
      text = one_more (λ ns. names (words_of ns)) (λ ns n. comma_after ns ++ n.word) names_push (string_bytes c.args.out.now) xs c.loop-name.name-index c.name-item.result c.loop-name-test.true c.name-item.is c.loop-name.invariant.text
          (two (string_bytes c.loop-name.out) (comma_after (take c.loop-name.name-index xs)) c.name-item.result.word (c.in_ok-push_str.ensures.bytes ∙ ap (λ z. string_bytes c.loop-name.out ++ z) c.loop-name.invariant.between) c.in_ok-word.ensures);
      between = sym (comma_more xs c.loop-name.name-index c.name-item.result c.loop-name-test.true c.name-item.is);
      utf8 = all_low (44 ∷ 32 ∷ []) (omega arith, (omega arith, tt));
    }

pub returns : goal.returns
returns c =
    subst (λ ns. string_bytes c.loop-name.out ≡ string_bytes c.args.out.now ++ names (words_of ns)) c.items-name-items.ensures
    (all_added (λ ns. names (words_of ns)) (string_bytes c.args.out.now) c.items-name-items.result.now c.loop-name.name-index c.loop-name-test.false c.loop-name.invariant.text)
