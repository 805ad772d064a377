-- Refusals that are handed on.
use Rattle.std.proofs.Common.{◌≡◌, Result, Ok, Err, sym, subst}
use Rattle.std.specs.Prelude.{IfErr, IsErrAnd}

-- what holds of a refusal holds of it where `?` hands it on
pub err_passed : {T E : Type 0} (r : Result T E) (e : E) (P : E → Type 0) → IsErrAnd r (λ y. y ≡ e) → P e → IfErr r P
err_passed (Ok x) e P is known = absurd is
err_passed (Err y) e P is known = subst P (sym is) known
