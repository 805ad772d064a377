use Rattle.made_sources.proofs.Computed.{echo_is, high_is, sum_is, filter_is}
use Rattle.made_sources.proofs.sources_are_built.Goals as goal

pub returns-clause-echo : goal.returns-clause-echo
returns-clause-echo c = echo_is

pub returns-clause-high : goal.returns-clause-high
returns-clause-high c = high_is

pub returns-clause-sum : goal.returns-clause-sum
returns-clause-sum c = sum_is

pub returns-clause-filter : goal.returns-clause-filter
returns-clause-filter c = filter_is
