use Rattle.std.specs.Prelude.{Result, Ok, Err, IfOk}
use Rattle.hog_tree.specs.View.{tree_of}
use Rattle.hog_program.proofs.source.read_whole.Goals as goal

if_ok_then : {A E : Type 0} {P Q : A → Type 0} (r : Result A E) → ((x : A) → P x → Q x) → IfOk r P → IfOk r Q
if_ok_then (Ok x) go h = go x h
if_ok_then (Err e) go h = tt

pub returns-clause-named : goal.returns-clause-named
returns-clause-named c =
    if_ok_then c.whole_of.result (λ tree is. c.built_is_named.ensures c.args.source.now (tree_of tree) is) c.whole_of.ensures.whole
