-- What programs are computed with, both ways: a proof that unfolds `computing` unfolds all of it.
use Rattle.hog_meaning.specs.Program.{meaning, outcome, first_cells}
use Rattle.hog_compiler.specs.Code.{code_of}
use Rattle.vm_course.specs.Course.{machine}
use Rattle.vm_course.specs.Step.{act}
use Rattle.hog_meaning.specs.World.{throws}
use Rattle.vm_course.specs.Throws.{throw_kind}
use Rattle.hog_library.specs.Cells.{thrown, array_of_texts, response, blocked}
use Rattle.hog_value.specs.Operations.{made, truth_of, same_of, item_of, key_of, set_item_of, set_key_of}
use Rattle.hog_meaning.specs.Operators.{operated, negated, accessed, assigned, dictionary_made}
use Rattle.hog_meaning.specs.Meaning.{call_native}
use Rattle.hog_library.specs.Called.{called, print_called, fetch_called}
use Rattle.hog_library.specs.Natives.{length_called, concat_called, keys_called, values_called}
use Rattle.hog_library.specs.Texts.{is_allowed, begins_with, count_characters}
use Rattle.hog_value.specs.Natives.{native_named}
use Rattle.hog_json.specs.Texts.{shown, json_text_of, text_in, shown_byte}
use Rattle.std.specs.Fmt.{digits}
use Rattle.hog_json.specs.Reading.{kept_value}
use Rattle.serde_json.proofs.OnLiterals.{serde_json_on_literals}

unfoldable pub computing : Type 0
unfolding meaning outcome first_cells code_of machine act throws throw_kind thrown made operated negated accessed assigned dictionary_made truth_of same_of item_of key_of set_item_of set_key_of call_native called print_called fetch_called length_called concat_called keys_called values_called array_of_texts response blocked is_allowed begins_with native_named shown json_text_of text_in shown_byte digits kept_value serde_json_on_literals count_characters
computing = Unit {0}
