use Rattle.std.proofs.Common.{◌≡◌, ◌<◌, ◌≤◌, ◌+◌, ◌*◌, ◌/◌, List, ℕ, length, drop, get_or, All, arith, ap, ap₂, sym, subst, ◌∙◌, bytes_eq}
use Rattle.std.specs.Prelude.{Ok}
use Rattle.indexmap.specs.IndexMap.{insert_entry}
use Rattle.hog_value.specs.declared.value.Value.TheVariants.{Null}
use Rattle.hog_value.specs.Values.{Val, NamesBelow}
use Rattle.hog_json.specs.Texts.{named_text}
use Rattle.hog_meaning.specs.Operators.{pairs_of}
use Rattle.hog_operators.specs.Pairs.{in_turn}
use Rattle.hog_operators.proofs.Named.{names-insert}
use Rattle.hog_operators.proofs.Turns.{pair_read, all_read, names_at}
use Rattle.hog_operators.proofs.dictionary.pairs_of.Goals as goal

pub loop-i-preserved : goal.loop-i-preserved
loop-i-preserved c =
    let h = c.args.heap.now in
    let vs = c.args.vs.now in
    let i = c.loop-i.i in
    let within : 2 * i + 1 < length vs = omega arith in
    let entries = c.in_ok-insert.ensures.entries ∙ ap (λ key. insert_entry bytes_eq c.loop-i.pairs.entries key (get_or vs (2 * i + 1) Null)) c.in_ok-copy.ensures in
    let names : NamesBelow (length h) (get_or vs (2 * i + 1) Null) = names_at (length h) vs (2 * i + 1) within c.requires in
    record {
      so_far = c.loop-i.invariant.so_far ∙ pair_read h vs i c.in-Some.key.now c.loop-i.pairs.entries within (sym c.in-Some.ensures) ∙ ap (pairs_of h (in_turn (drop (2 * (i + 1)) vs))) (sym entries);
      names = subst (All (λ p. NamesBelow (length h) p.1)) (sym entries) (names-insert (length h) c.loop-i.pairs.entries c.in-Some.key.now (get_or vs (2 * i + 1) Null) c.loop-i.invariant.names names);
    }

pub returns-clause-ok : goal.returns-clause-ok
returns-clause-ok c =
    let h = c.args.heap.now in
    let vs = c.args.vs.now in
    c.loop-i.invariant.so_far ∙ all_read h vs c.loop-i.i c.loop-i.pairs.entries (omega arith) ∙ ap Ok (sym c.new.ensures.pairs)

pub returns-clause-names : goal.returns-clause-names
returns-clause-names c = subst (All (λ p. NamesBelow (length c.args.heap.now) p.1)) (sym c.new.ensures.pairs) c.loop-i.invariant.names
