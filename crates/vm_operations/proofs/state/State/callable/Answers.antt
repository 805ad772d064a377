use Rattle.std.proofs.Common.{◌≡◌, false, true, sym, ◌∙◌}
use Rattle.vm_operations.proofs.Landing.{on_ok}
use Rattle.vm_operations.proofs.Making.{none_fits, function_made}
use Rattle.vm_operations.proofs.state.State.callable.Goals as goal

pub returns-then-not-fits_function : goal.returns-then-not-fits_function
returns-then-not-fits_function c =
    let s = c.args.self.now in
    c.end.ensures ∙ none_fits s c.args.behind c.args.captures.now (λ fits. let wrong : false ≡ true = sym c.if-not-fits_function.true ∙ c.fits_function.ensures.1 fits in absurd cc)

pub returns : goal.returns
returns c =
    let s = c.args.self.now in
    on_ok c.push_function.result (λ is.
    is ∙ function_made s c.args.behind c.args.captures.now _ _ _ (c.fits_function.ensures.0 c.if-not-fits_function.false) c.body_place-place.ensures (c.new.ensures ∙ c.in_ok-numbers.ensures.numbers) c.in_ok-numbers.ensures.upvalues) c.push_function.ensures
