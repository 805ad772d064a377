-- A native's name names it.
use Rattle.std.proofs.Common.{◌≡◌, ◌≢◌, ℕ, List, Option, Some, None, refl, ap}
use Rattle.std.specs.Prelude.{IfNone}
use Rattle.hog_value.specs.declared.native.Native.{Native}
use Rattle.hog_value.specs.declared.native.Native.TheVariants.{Print, Length, Concat, ToString, ToInt, Upper, Lower, Trim, StartsWith, ReplaceAll, SplitByString, Keys, Values, Has, ArrayPushBack, Empty, JsonParse, JsonStringify, Error, Fetch, DateAdd, DateDiff, Weekday}
use Rattle.hog_value.specs.Natives.{name_of, native_named}

pub native_named-name_of : (n : Native) → native_named (name_of n) ≡ Some n
unfolding native_named
native_named-name_of Print = refl
native_named-name_of Length = refl
native_named-name_of Concat = refl
native_named-name_of ToString = refl
native_named-name_of ToInt = refl
native_named-name_of Upper = refl
native_named-name_of Lower = refl
native_named-name_of Trim = refl
native_named-name_of StartsWith = refl
native_named-name_of ReplaceAll = refl
native_named-name_of SplitByString = refl
native_named-name_of Keys = refl
native_named-name_of Values = refl
native_named-name_of Has = refl
native_named-name_of ArrayPushBack = refl
native_named-name_of Empty = refl
native_named-name_of JsonParse = refl
native_named-name_of JsonStringify = refl
native_named-name_of Error = refl
native_named-name_of Fetch = refl
native_named-name_of DateAdd = refl
native_named-name_of DateDiff = refl
native_named-name_of Weekday = refl

-- where nothing is found, the word is no native's name
pub none_named : (o : Option Native) (word : List ℕ) → o ≡ native_named word → IfNone o ((n : Native) → name_of n ≢ word)
none_named None word found = λ n is. let named = native_named-name_of n in let same = ap native_named is in absurd cc
none_named (Some n) word found = tt
