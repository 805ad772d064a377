-- The answer of a call, from what was made.
use Rattle.std.proofs.Common.{◌≡◌, List, refl, ap, sym, subst, ◌∙◌}
use Rattle.std.specs.Prelude.{Result, Ok, Err}
use Rattle.hog_value.specs.declared.cell.FunCell.{FunCell}
use Rattle.hog_value.specs.declared.native.Native.{Native}
use Rattle.hog_value.specs.declared.native.Native.TheVariants.{Print, Length, Concat, ToString, ToInt, Upper, Lower, Trim, StartsWith, ReplaceAll, SplitByString, Keys, Values, Has, ArrayPushBack, Empty, JsonParse, JsonStringify, Error, Fetch, DateAdd, DateDiff, Weekday}
use Rattle.hog_value.specs.declared.value.Stop.{Stop}
use Rattle.hog_value.specs.declared.value.Stop.TheVariants as stop
use Rattle.hog_value.specs.Values.{Val}
use Rattle.hog_value.specs.Meters.{Spent}
use Rattle.hog_value.specs.Cells.{HeapOf}
use Rattle.hog_value.specs.Operations.{Outcome}
use Rattle.hog_library.specs.declared.call.NativeAnswer.{NativeAnswer}
use Rattle.hog_library.specs.declared.call.CallStop.{CallStop}
use Rattle.hog_library.specs.Called.{Gives, of_outcome, called}
use Rattle.hog_library.specs.Answers.{Follows, given_made, IsPlain, plain_called}
use Rattle.hog_library.specs.Products.{Makes}

module _ (o : Outcome FunCell Val) (h g : HeapOf FunCell) (m n : Spent) where
  follows_made : (r : Result Val Stop) → Makes o r h g m n → Follows (of_outcome o m) (given_made r) h g m n
  follows_made (Ok v) made = record {
    ok = ap (λ x. of_outcome x m) made.ok ∙ ap (λ x. Gives v g x) (sym made.turns_and_depth);
    kept = tt;
    names = made.names;
    turns = λ q. absurd cc;
    units = λ q. absurd cc;
    err = tt;
    err_meter = tt;
    grows = made.grows;
    covered = made.covered;
  }
  follows_made (Err stop.UnitsSpent) made = record {
    ok = tt;
    kept = tt;
    names = tt;
    turns = λ q. absurd cc;
    units = λ q. ap (λ x. of_outcome x m) (made.spent refl);
    err = made.err;
    err_meter = made.err_meter;
    grows = made.grows;
    covered = made.covered;
  }
  follows_made (Err stop.OutOfMemory) made = record {
    ok = tt;
    kept = tt;
    names = tt;
    turns = λ q. absurd cc;
    units = λ q. absurd cc;
    err = made.err;
    err_meter = made.err_meter;
    grows = made.grows;
    covered = made.covered;
  }

  -- what was made, handed on
  pub follows_given : (r : Result Val Stop) (a : Result NativeAnswer CallStop) → a ≡ given_made r → Makes o r h g m n → Follows (of_outcome o m) a h g m n
  follows_given r a is made = subst (λ x. Follows (of_outcome o m) x h g m n) (sym is) (follows_made r made)

-- what the plain natives give is what they are defined to give
pub called_plain : (n : Native) (vs : List Val) (h : HeapOf FunCell) (m : Spent) → IsPlain n → of_outcome (plain_called n vs h m.units) m ≡ called n vs h m
unfolding called
called_plain Length vs h m plain = refl
called_plain Concat vs h m plain = refl
called_plain ToString vs h m plain = refl
called_plain ToInt vs h m plain = refl
called_plain Upper vs h m plain = refl
called_plain Lower vs h m plain = refl
called_plain Trim vs h m plain = refl
called_plain StartsWith vs h m plain = refl
called_plain ReplaceAll vs h m plain = refl
called_plain SplitByString vs h m plain = refl
called_plain Keys vs h m plain = refl
called_plain Values vs h m plain = refl
called_plain Has vs h m plain = refl
called_plain ArrayPushBack vs h m plain = refl
called_plain Empty vs h m plain = refl
called_plain JsonStringify vs h m plain = refl
called_plain DateAdd vs h m plain = refl
called_plain DateDiff vs h m plain = refl
called_plain Weekday vs h m plain = refl
called_plain Print vs h m plain = absurd plain
called_plain Fetch vs h m plain = absurd plain
called_plain JsonParse vs h m plain = absurd plain
called_plain Error vs h m plain = absurd plain
