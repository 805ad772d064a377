use Rattle.std.proofs.Common.{ℕ, List, subst}
use Rattle.hog_program.specs.Build.{IsUnbuilt}
use Rattle.hog_worker.proofs.worker.program_of.Goals as goal

pub unreachable-requires : goal.unreachable-requires
unreachable-requires c =
    let source = c.requires.source in
    let unbuilt = c.build.ensures.unbuilt c.in-Err.stop c.in-Err.is c.in_default.not-OutOfMemory in
    c.built_or_unbuilt.ensures c.args.input.now.source source.whole c.in-Err.stop source.is_built (subst (λ (text : List ℕ). IsUnbuilt text c.in-Err.stop) c.bytes.ensures.value unbuilt)
