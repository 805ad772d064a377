use Rattle.std.proofs.Common.{take}
use Rattle.std.specs.List.{All, AllZip}
use Rattle.script_reader.specs.Elements.{views}
use Rattle.script_reader.specs.Script.{IsStepOf}
use Rattle.script_reader.specs.Steps.{IsFit}
use Rattle.script_reader.proofs.script.script_of.Given as goal

-- the elements up to this one are these steps
abbrev pub invariant-loop-n : goal.invariant-loop-n
invariant-loop-n l = record {
  zipped : AllZip IsStepOf (take l.n (views l.elements)) l.steps.items;
  fit : All IsFit l.steps.items;
}
