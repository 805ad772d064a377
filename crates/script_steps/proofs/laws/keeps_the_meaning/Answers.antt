use Rattle.script_steps.proofs.laws.keeps_the_meaning.Goals as goal

pub returns : goal.returns
returns g c = c.keeps_the_meaning.ensures c.args.queue.now.rows c.args.queue.now.history c.history.ensures.kept
