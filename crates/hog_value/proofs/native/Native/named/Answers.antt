use Rattle.hog_value.proofs.NativeNames.{none_named}
use Rattle.hog_value.proofs.native.Native.named.Goals as goal

pub returns-clause-none : goal.returns-clause-none
returns-clause-none c = none_named _ c.args.word.now c.find_native.ensures.value
