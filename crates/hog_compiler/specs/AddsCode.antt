-- What contracts see of code that is written.
use Rattle.std.specs.Prelude.{◌≡◌}
use Rattle.hog_ops.specs.Plain.{Ops, ◌⊕◌}

-- the operations of `new` are those of `old` and then these
pub record AddsCode (old new code : Ops) : Type 0 where
  pub is : new ≡ old ⊕ code
