use Rattle.hog_program.proofs.laws.printed_reads_back.Goals as goal

pub returns : goal.returns
returns c text tree program low =
    let back = c.reads_back.ensures text tree (record { list = program.list; height = program.height; tokens = program.cut; spells = program.spelled }) in
    record { short = low.short; list = back.list; cut = back.tokens; height = back.height; spelled = back.spells; low = low.low back.list back.height back.tokens back.spells }
