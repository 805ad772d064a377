use Rattle.hog_program.proofs.laws.built_is_named.Goals as goal

pub returns : goal.returns
returns c source whole b = record { items = b.items; resolved = b.resolved }
