use Rattle.std.proofs.Common.{[], ◌∷◌, ap, ◌∙◌, arith}
use Rattle.hog_ops.specs.Plain.{◌⊕◌}
use Rattle.hog_ops.specs.Table.{span}
use Rattle.hog_ops.specs.View.{op_of, ops_of, ops_of-append}
use Rattle.hog_ops.proofs.Join.{span-join}
use Rattle.hog_compiler.specs.Pieces.{one}
use Rattle.hog_compiler.proofs.draft.Draft.push.Goals as goal

pub invariant_of-self-2 : goal.invariant_of-self-2
invariant_of-self-2 c =
    let before = c.self.inside.ops.items in
    let same = ap (λ xs. span (ops_of xs)) c.in_ok-push.ensures.items ∙ ap span (ops_of-append before (c.args.op ∷ [])) ∙ span-join (ops_of before) (one (op_of c.args.op)) in
    omega (arith, same, c.self.invariant, c.in_ok-elements.ensures, c.len.ensures)

pub returns : goal.returns
returns c = record { is = ap ops_of c.in_ok-push.ensures.items ∙ ops_of-append c.self.inside.ops.items (c.args.op ∷ []) ∙ ap (λ os. os ⊕ one (op_of c.args.op)) c.self.view_is }
