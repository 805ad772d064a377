-- Natives: their names, and how many arguments they take.
use Rattle.std.specs.Prelude.{ℕ, List, [], ◌∷◌, Bool, true, Option, find, ◌==◌, ◌||◌, codes, bytes_eq}
use Rattle.hog_value.specs.declared.native.Native.{Native}
use Rattle.hog_value.specs.declared.native.Native.TheVariants.{Print, Length, Concat, ToString, ToInt, Upper, Lower, Trim, StartsWith, ReplaceAll, SplitByString, Keys, Values, Has, ArrayPushBack, Empty, JsonParse, JsonStringify, Error, Fetch, DateAdd, DateDiff, Weekday}

-- the word that names a native
abbrev pub name_of : Native → List ℕ
name_of Print = codes "print"
name_of Length = codes "length"
name_of Concat = codes "concat"
name_of ToString = codes "toString"
name_of ToInt = codes "toInt"
name_of Upper = codes "upper"
name_of Lower = codes "lower"
name_of Trim = codes "trim"
name_of StartsWith = codes "startsWith"
name_of ReplaceAll = codes "replaceAll"
name_of SplitByString = codes "splitByString"
name_of Keys = codes "keys"
name_of Values = codes "values"
name_of Has = codes "has"
name_of ArrayPushBack = codes "arrayPushBack"
name_of Empty = codes "empty"
name_of JsonParse = codes "jsonParse"
name_of JsonStringify = codes "jsonStringify"
name_of Error = codes "Error"
name_of Fetch = codes "fetch"
name_of DateAdd = codes "dateAdd"
name_of DateDiff = codes "dateDiff"
name_of Weekday = codes "weekday"

-- all natives
abbrev pub all_natives : List Native
all_natives = Print ∷ Length ∷ Concat ∷ ToString ∷ ToInt ∷ Upper ∷ Lower ∷ Trim ∷ StartsWith ∷ ReplaceAll ∷ SplitByString ∷ Keys ∷ Values ∷ Has ∷ ArrayPushBack ∷ Empty ∷ JsonParse ∷ JsonStringify ∷ Error ∷ Fetch ∷ DateAdd ∷ DateDiff ∷ Weekday ∷ []

-- the native that a word names
unfoldable pub native_named : List ℕ → Option Native
native_named word = find (λ n. bytes_eq (name_of n) word) all_natives

-- whether a native takes n arguments
abbrev pub takes_of : Native → ℕ → Bool
takes_of Print n = true
takes_of Length n = n == 1
takes_of Concat n = true
takes_of ToString n = n == 1
takes_of ToInt n = n == 1
takes_of Upper n = n == 1
takes_of Lower n = n == 1
takes_of Trim n = n == 1
takes_of StartsWith n = n == 2
takes_of ReplaceAll n = n == 3
takes_of SplitByString n = n == 2
takes_of Keys n = n == 1
takes_of Values n = n == 1
takes_of Has n = n == 2
takes_of ArrayPushBack n = n == 2
takes_of Empty n = n == 1
takes_of JsonParse n = n == 1
takes_of JsonStringify n = n == 1
takes_of Error n = (n == 1) || (n == 2)
takes_of Fetch n = (n == 1) || (n == 2)
takes_of DateAdd n = n == 2
takes_of DateDiff n = n == 2
takes_of Weekday n = n == 1
