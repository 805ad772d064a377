use Rattle.std.proofs.Common.{◌≡◌, length, All, subst, sym, ap, ◌∙◌, bytes_eq}
use Rattle.std.specs.Prelude.{unwrap_or}
use Rattle.std.specs.Map.{lookup}
use Rattle.hog_value.specs.declared.value.Value.TheVariants.{Null}
use Rattle.hog_value.specs.Values.{NamesBelow}
use Rattle.hog_value.specs.Cells.{CellNamesBelow}
use Rattle.hog_value.specs.Views.{cell_of}
use Rattle.hog_value.proofs.Closed.{NamesBelow-lookup}
use Rattle.hog_value.proofs.heap.Heap.key.Goals as goal

pub returns-clause-names : goal.returns-clause-names
returns-clause-names c =
    let m = length c.args.self.now in
    let ps = c.in-Dict.pairs in
    let key = c.args.key.now in
    let names : All (λ p. NamesBelow m p.1) ps = subst (λ x. CellNamesBelow m (cell_of x)) c.in-Dict.is c.get.ensures.names in
    let found : c.unwrap_or.result ≡ unwrap_or (lookup (bytes_eq key) ps) Null = c.unwrap_or.ensures ∙ ap (λ o. unwrap_or o Null) c.at_bytes.ensures in
    subst (NamesBelow m) (sym found) (NamesBelow-lookup m (bytes_eq key) ps names)
