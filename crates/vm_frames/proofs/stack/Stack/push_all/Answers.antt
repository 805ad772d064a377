use Rattle.std.proofs.Common.{◌∷◌, get_or, All, ap, sym, subst, ◌∙◌}
use Rattle.std.proofs.lemmas.List.Elements.{All-cons, All-get_or}
use Rattle.hog_value.specs.Values.{NamesBelow}
use Rattle.hog_value.specs.declared.value.Value.TheVariants.{Null}
use Rattle.vm_frames.proofs.Filling.{top-more}
use Rattle.vm_frames.proofs.stack.Stack.push_all.Goals as goal

pub loop-v-preserved : goal.loop-v-preserved
loop-v-preserved c =
    let vs = c.args.values.now in
    let i = c.loop-v.v-index in
    let v = get_or vs i Null in
    let pushed = c.in_ok-push.ensures.ok in
    record {
      so_far = pushed ∙ ap (λ ys. v ∷ ys) c.loop-v.invariant.so_far ∙ top-more vs c.args.self.now i Null c.loop-v-test.true;
      names = λ m all below.
          subst (All (NamesBelow m)) (sym pushed)
          (All-cons (NamesBelow m) v c.loop-v.self (All-get_or (NamesBelow m) vs i Null c.loop-v-test.true all) (c.loop-v.invariant.names m all below));
    }
