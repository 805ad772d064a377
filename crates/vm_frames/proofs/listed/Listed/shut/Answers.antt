use Rattle.vm_frames.proofs.OpenLists.{IsOpenList-shut, shorter}
use Rattle.vm_frames.proofs.listed.Listed.shut.Goals as goal

pub returns-clause-kept : goal.returns-clause-kept
returns-clause-kept c = IsOpenList-shut c.args.self.now.list.items c.args.number c.args.v c.args.self.now.open_ones c.unlink.new.self c.requires.kept c.requires.is_open c.unlink.ensures.out

pub returns-clause-fewer : goal.returns-clause-fewer
returns-clause-fewer c = shorter c.args.self.now.list.items c.args.number c.args.self.now.open_ones c.unlink.new.self c.requires.kept c.requires.is_open c.unlink.ensures.out
