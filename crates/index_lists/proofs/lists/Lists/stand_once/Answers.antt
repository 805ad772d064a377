use Rattle.index_lists.proofs.Values.{once-view, below-view}
use Rattle.index_lists.proofs.lists.Lists.stand_once.Goals as goal

pub returns-clause-once : goal.returns-clause-once
returns-clause-once c = once-view c.self.inside.links.items c.self.inside.ends c.args.self.now c.self.invariant c.self.view_is

pub returns-clause-reserved : goal.returns-clause-reserved
returns-clause-reserved c = below-view c.self.inside.links.items c.self.inside.ends c.args.self.now c.self.invariant c.self.view_is
