use Rattle.std.proofs.Common.{ap, ap₂, ◌∙◌, arith}
use Rattle.hog_ops.specs.Plain.{◌⊕◌}
use Rattle.hog_ops.specs.Table.{span}
use Rattle.hog_ops.specs.View.{ops_of, ops_of-append}
use Rattle.hog_ops.proofs.Join.{span-join}
use Rattle.hog_compiler.proofs.draft.Draft.append.Goals as goal

pub invariant_of-self-2 : goal.invariant_of-self-2
invariant_of-self-2 c =
    let before = c.self.inside.ops.items in
    let more = c.other.inside.ops.items in
    let same = ap (λ xs. span (ops_of xs)) c.in_ok-append.ensures.items ∙ ap span (ops_of-append before more) ∙ span-join (ops_of before) (ops_of more) in
    omega (arith, same, c.self.invariant, c.other.invariant, c.in_ok-elements.ensures)

pub returns : goal.returns
returns c = record { is = ap ops_of c.in_ok-append.ensures.items ∙ ops_of-append c.self.inside.ops.items c.other.inside.ops.items ∙ ap₂ (λ os qs. os ⊕ qs) c.self.view_is c.other.view_is }
