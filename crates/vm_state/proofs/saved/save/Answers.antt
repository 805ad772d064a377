use Rattle.std.proofs.Common.{sym, ap, subst}
use Rattle.std.specs.Str.{IsUtf8}
use Rattle.std.proofs.lemmas.Str.{IsUtf8-string_bytes}
use Rattle.vm_state.proofs.saved.save.Goals as goal

pub returns-clause-utf8 : goal.returns-clause-utf8
returns-clause-utf8 c =
    let bytes = ap (λ v. v.items) c.into_bytes.ensures.value in
    subst IsUtf8 (sym bytes) (IsUtf8-string_bytes c.in_ok-text.text)
