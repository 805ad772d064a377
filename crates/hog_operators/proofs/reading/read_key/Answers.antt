use Rattle.std.proofs.Common.{◌≡◌, Some, length, All, ap, sym, subst, ◌∙◌, bytes_eq}
use Rattle.std.specs.Prelude.{Ok, unwrap_or, option_and_then}
use Rattle.std.specs.Map.{lookup}
use Rattle.hog_value.specs.declared.value.Value.TheVariants.{Null}
use Rattle.hog_value.specs.Values.{NamesBelow}
use Rattle.hog_value.specs.Cells.{CellNamesBelow, pairs_of, pairs_at}
use Rattle.hog_value.specs.Operations.{key_in, key_of}
use Rattle.hog_value.specs.Views.{cell_of}
use Rattle.hog_operators.proofs.Named.{names-lookup}
use Rattle.hog_operators.proofs.reading.read_key.Goals as goal

pub returns-in-Dict-clause-value : goal.returns-in-Dict-clause-value
unfolding key_of
returns-in-Dict-clause-value c =
    let h = c.args.heap.now in
    let key = c.args.key.now in
    let ps = c.in-Dict.pairs in
    let found : c.unwrap_or.result ≡ unwrap_or (lookup (bytes_eq key) ps) Null =
    c.unwrap_or.ensures ∙ ap (λ o. unwrap_or o Null) (c.copied.ensures ∙ c.get-in-Dict.ensures.value ∙ ap (lookup (bytes_eq key)) c.map.ensures.pairs) in
    let at : pairs_at h c.args.cell ≡ Some ps = ap (option_and_then pairs_of) (c.get.ensures.cell ∙ ap (λ x. Some (cell_of x)) c.in-Dict.is) in
    ap Ok found ∙ sym (ap (λ o. key_in o key) at)

pub returns-in-Dict-clause-names : goal.returns-in-Dict-clause-names
returns-in-Dict-clause-names c =
    let m = length c.args.heap.now in
    let key = c.args.key.now in
    let ps = c.in-Dict.pairs in
    let found : c.unwrap_or.result ≡ unwrap_or (lookup (bytes_eq key) ps) Null =
    c.unwrap_or.ensures ∙ ap (λ o. unwrap_or o Null) (c.copied.ensures ∙ c.get-in-Dict.ensures.value ∙ ap (lookup (bytes_eq key)) c.map.ensures.pairs) in
    let names : All (λ p. NamesBelow m p.1) ps = subst (λ x. CellNamesBelow m (cell_of x)) c.in-Dict.is c.get.ensures.names in
    subst (NamesBelow m) (sym found) (names-lookup m (bytes_eq key) ps names)
