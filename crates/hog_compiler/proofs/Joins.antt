-- Operations that are written one after another.
use Rattle.std.proofs.Common.{◌≡◌, sym, ap, ◌∙◌}
use Rattle.hog_ops.specs.Plain.{Ops, NoOp, ◌⊕◌}
use Rattle.hog_ops.proofs.Join.{join_assoc, join_none}
use Rattle.hog_compiler.specs.AddsCode.{AddsCode}

-- nothing
pub adds_none : (a : Ops) → AddsCode a a NoOp
adds_none a = record { is = sym (join_none a) }

-- first x and then y
pub adds_then : {a b c x y : Ops} → AddsCode a b x → AddsCode b c y → AddsCode a c (x ⊕ y)
adds_then {a} {b} {c} {x} {y} first second = record { is = second.is ∙ ap (λ os. os ⊕ y) first.is ∙ join_assoc a x y }

-- the same under another name
pub adds_at : {a b x y : Ops} → x ≡ y → AddsCode a b x → AddsCode a b y
adds_at {a} same adds = record { is = adds.is ∙ ap (λ os. a ⊕ os) same }
