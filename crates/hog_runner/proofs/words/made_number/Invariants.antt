use Rattle.std.proofs.Common.{◌≡◌, ◌<◌, ◌^◌, take, true}
use Rattle.std.specs.List.{list_all}
use Rattle.std.specs.Char.{is_ascii_digit}
use Rattle.hog_library.specs.Texts.{number_of_digits}
use Rattle.hog_runner.proofs.words.made_number.Given as goal

abbrev pub invariant-loop-digit : goal.invariant-loop-digit
invariant-loop-digit l = record {
  digits : list_all is_ascii_digit (take l.digit-index l.digits) ≡ true;
  number : l.n ≡ number_of_digits (take l.digit-index l.digits);
  bound : l.n < 10 ^ l.digit-index;
}
