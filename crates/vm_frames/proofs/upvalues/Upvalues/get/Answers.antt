use Rattle.vm_frames.proofs.Named.{closed_found}
use Rattle.vm_frames.proofs.upvalues.Upvalues.get.Goals as goal

pub returns-clause-names : goal.returns-clause-names
returns-clause-names c = λ n all. closed_found n c.args.self.now c.args.number c.at.result c.at.ensures all
