-- What the verifier answers.
use Rattle.std.specs.Prelude.{◌≡◌, Result, Ok, Err}
use Rattle.hog_ops.specs.Plain.{Ops}
use Rattle.bytecode_check.specs.declared.stops.VerifyStop.{VerifyStop}
use Rattle.bytecode_check.specs.declared.stops.VerifyStop.TheVariants.{Underflow, NoLocal, NoUpvalue, NoTry, FallsOff, ShapesDiffer, OutOfMemory}
use Rattle.bytecode_check.specs.Shape.{Shapes}
use Rattle.bytecode_check.specs.Verify.{verified, IsAccepted}

-- want of memory may come at any time; each other stop is the refusal
abbrev pub Stopped : VerifyStop → Result Shapes VerifyStop → Type 0
Stopped (Underflow at) r = r ≡ Err (Underflow at)
Stopped (NoLocal at) r = r ≡ Err (NoLocal at)
Stopped (NoUpvalue at) r = r ≡ Err (NoUpvalue at)
Stopped (NoTry at) r = r ≡ Err (NoTry at)
Stopped (FallsOff at) r = r ≡ Err (FallsOff at)
Stopped (ShapesDiffer at) r = r ≡ Err (ShapesDiffer at)
Stopped OutOfMemory r = Unit {0}

-- the code is accepted, or this is its first refusal
abbrev pub Verdict : Result Ops VerifyStop → Ops → Type 0
Verdict (Ok c) code = (c ≡ code) × IsAccepted code
Verdict (Err stop) code = Stopped stop (verified code)

-- an answer of a part of the pass, with the shapes that it leaves
abbrev pub Told : {A : Type 0} → Result A VerifyStop → Shapes → Result Shapes VerifyStop → Type 0
Told (Ok a) shapes r = r ≡ Ok shapes
Told (Err stop) shapes r = Stopped stop r
