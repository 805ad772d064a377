-- The names of natives, and the natives of names.
use Rattle.std.proofs.Common.{◌≡◌, List, ℕ, [], ◌∷◌, Option, Some, None, Bool, true, false, cond, refl, sym, ap, ◌∙◌, subst}
use Rattle.std.proofs.lemmas.Option.{same_Some}
use Rattle.std.specs.Cmp.Lexicographic.{bytes_decides}
use Rattle.std.specs.Str.{bytes_eq}
use Rattle.std.specs.List.{find}
use Rattle.hog_value.specs.declared.native.Native.{Native}
use Rattle.hog_value.specs.declared.native.Native.TheVariants.{Print, Length, Concat, ToString, ToInt, Upper, Lower, Trim, StartsWith, ReplaceAll, SplitByString, Keys, Values, Has, ArrayPushBack, Empty, JsonParse, JsonStringify, Error, Fetch, DateAdd, DateDiff, Weekday}
use Rattle.hog_value.specs.Natives.{all_natives, native_named, name_of}

found_name : (word : List ℕ) (ns : List Native) (f : Native) → find (λ n. bytes_eq (name_of n) word) ns ≡ Some f → name_of f ≡ word
found_name word [] f e = absurd cc
found_name word (n ∷ ns) f e = by (bytes_eq (name_of n) word) refl (found_name word ns f) e
  where
    by : (b : Bool) → bytes_eq (name_of n) word ≡ b → (find (λ m. bytes_eq (name_of m) word) ns ≡ Some f → name_of f ≡ word) → cond b (Some n) (find (λ m. bytes_eq (name_of m) word) ns) ≡ Some f → name_of f ≡ word
    by true is rest k = ap name_of (sym (same_Some n f k)) ∙ (bytes_decides (name_of n) word).0 is
    by false is rest k = rest k

pub named_name : (word : List ℕ) (f : Native) → native_named word ≡ Some f → name_of f ≡ word
unfolding native_named
named_name word f e = found_name word all_natives f e

pub name_named : (f : Native) → native_named (name_of f) ≡ Some f
unfolding native_named
name_named Print = refl
name_named Length = refl
name_named Concat = refl
name_named ToString = refl
name_named ToInt = refl
name_named Upper = refl
name_named Lower = refl
name_named Trim = refl
name_named StartsWith = refl
name_named ReplaceAll = refl
name_named SplitByString = refl
name_named Keys = refl
name_named Values = refl
name_named Has = refl
name_named ArrayPushBack = refl
name_named Empty = refl
name_named JsonParse = refl
name_named JsonStringify = refl
name_named Error = refl
name_named Fetch = refl
name_named DateAdd = refl
name_named DateDiff = refl
name_named Weekday = refl
