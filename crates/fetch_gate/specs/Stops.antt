-- Why requests are not answered.
use Rattle.fetchers.specs.declared.fetcher.FetchStop.{FetchStop}
use Rattle.fetchers.specs.declared.fetcher.FetchStop.TheVariants as fetch
use Rattle.fetch_gate.specs.declared.gate.GateStop.{GateStop}
use Rattle.fetch_gate.specs.declared.gate.GateStop.TheVariants as gate

-- what a refused fetch is to the gate
abbrev pub stop_of : FetchStop → GateStop
stop_of fetch.Failed = gate.Failed
stop_of fetch.OutOfMemory = gate.OutOfMemory
