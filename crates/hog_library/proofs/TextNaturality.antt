-- No native on texts looks into a function cell: it gives the same whatever the functions hold.
use Rattle.std.proofs.Common.{◌≡◌, ℕ, List, map, Option, Some, None, refl, ap, ◌∙◌}
use Rattle.std.specs.Char.{to_ascii_uppercase, to_ascii_lowercase}
use Rattle.hog_value.specs.Values.{Val}
use Rattle.hog_value.specs.declared.value.Value.TheVariants.{Null, Bool as Truth, Int, Ref}
use Rattle.hog_value.specs.Cells.{Text, HeapOf, heap_map}
use Rattle.hog_value.specs.Operations.{Outcome, outcome_map, made}
use Rattle.hog_value.proofs.Naturality.{made-heap_map, text_at-heap_map}
use Rattle.hog_json.specs.Texts.{shown, json_text_of, named_text}
use Rattle.hog_json.proofs.Naturality.{shown-heap_map, json_text_of-heap_map, json_cells-heap_map}
use Rattle.hog_library.specs.Texts.{trimmed, pieces, replaced}
use Rattle.hog_library.specs.Given.{argument, with_given}
use Rattle.hog_library.specs.Natives.{text_or_null, int_given, to_string_called, upper_called, lower_called, trim_called, starts_with_called, replace_all_called, split_called, json_parse_called, json_stringify_called, date_add_called, date_diff_called, weekday_called}
use Rattle.hog_library.proofs.Naturality.{array_of_texts-heap_map}

module _ {F G : Type 0} (f : F → G) where
  -- the text that a value names
  pub text_same : (h : HeapOf F) (v : Val) → named_text (heap_map f h) v ≡ named_text h v
  text_same h Null = refl
  text_same h (Truth b) = refl
  text_same h (Int z) = refl
  text_same h (Ref n) = text_at-heap_map f h n

  -- what is given of an argument
  given_same : {A B : Type 0} (o : Option A) (there : A → Outcome G B) (here : A → Outcome F B) → ((a : A) → there a ≡ outcome_map f (here a)) → with_given o there ≡ outcome_map f (with_given o here)
  given_same None there here same = refl
  given_same (Some a) there here same = same a

  -- where the arguments are the same
  pub given_at : {A B : Type 0} (o p : Option A) → o ≡ p → (there : A → Outcome G B) (here : A → Outcome F B) → ((a : A) → there a ≡ outcome_map f (here a))
      → with_given o there ≡ outcome_map f (with_given p here)
  given_at o p is there here same = ap (λ x. with_given x there) is ∙ given_same p there here same

  -- a native on a text
  on_text : {B : Type 0} (h : HeapOf F) (v : Val) (there : List ℕ → Outcome G B) (here : List ℕ → Outcome F B) → ((t : List ℕ) → there t ≡ outcome_map f (here t))
      → with_given (named_text (heap_map f h) v) there ≡ outcome_map f (with_given (named_text h v) here)
  on_text h v there here same = given_at (named_text (heap_map f h) v) (named_text h v) (text_same h v) there here same

  module _ (vs : List Val) (h : HeapOf F) (units : ℕ) where
    pub upper_called-heap_map : upper_called vs (heap_map f h) units ≡ outcome_map f (upper_called vs h units)
    unfolding upper_called
    upper_called-heap_map = on_text h (argument vs 0) _ _ (λ t. made-heap_map f (Text (map to_ascii_uppercase t)) h units)

    pub lower_called-heap_map : lower_called vs (heap_map f h) units ≡ outcome_map f (lower_called vs h units)
    unfolding lower_called
    lower_called-heap_map = on_text h (argument vs 0) _ _ (λ t. made-heap_map f (Text (map to_ascii_lowercase t)) h units)

    pub trim_called-heap_map : trim_called vs (heap_map f h) units ≡ outcome_map f (trim_called vs h units)
    unfolding trim_called
    trim_called-heap_map = on_text h (argument vs 0) _ _ (λ t. made-heap_map f (Text (trimmed t)) h units)

    pub starts_with_called-heap_map : starts_with_called vs (heap_map f h) units ≡ outcome_map f (starts_with_called vs h units)
    unfolding starts_with_called
    starts_with_called-heap_map = on_text h (argument vs 0) _ _ (λ t. on_text h (argument vs 1) _ _ (λ start. refl))

    pub replace_all_called-heap_map : replace_all_called vs (heap_map f h) units ≡ outcome_map f (replace_all_called vs h units)
    unfolding replace_all_called
    replace_all_called-heap_map = on_text h (argument vs 0) _ _ (λ t. on_text h (argument vs 1) _ _ (λ from. on_text h (argument vs 2) _ _ (λ to. made-heap_map f (Text (replaced t from to)) h units)))

    pub split_called-heap_map : split_called vs (heap_map f h) units ≡ outcome_map f (split_called vs h units)
    unfolding split_called
    split_called-heap_map = on_text h (argument vs 0) _ _ (λ separator. on_text h (argument vs 1) _ _ (λ t. array_of_texts-heap_map f (pieces separator t) h units))

    pub json_parse_called-heap_map : json_parse_called vs (heap_map f h) units ≡ outcome_map f (json_parse_called vs h units)
    unfolding json_parse_called
    json_parse_called-heap_map = on_text h (argument vs 0) _ _ (λ t. json_cells-heap_map f t h units)

    pub to_string_called-heap_map : to_string_called vs (heap_map f h) units ≡ outcome_map f (to_string_called vs h units)
    unfolding to_string_called
    to_string_called-heap_map = ap (λ t. made (Text t) (heap_map f h) units) (shown-heap_map f h (argument vs 0)) ∙ made-heap_map f (Text (shown h (argument vs 0))) h units

    pub json_stringify_called-heap_map : json_stringify_called vs (heap_map f h) units ≡ outcome_map f (json_stringify_called vs h units)
    unfolding json_stringify_called
    json_stringify_called-heap_map = ap (λ t. made (Text t) (heap_map f h) units) (json_text_of-heap_map f h (argument vs 0)) ∙ made-heap_map f (Text (json_text_of h (argument vs 0))) h units

    pub date_diff_called-heap_map : date_diff_called vs (heap_map f h) units ≡ outcome_map f (date_diff_called vs h units)
    unfolding date_diff_called
    date_diff_called-heap_map = on_text h (argument vs 0) _ _ (λ from. on_text h (argument vs 1) _ _ (λ to. refl))

    pub weekday_called-heap_map : weekday_called vs (heap_map f h) units ≡ outcome_map f (weekday_called vs h units)
    unfolding weekday_called
    weekday_called-heap_map = on_text h (argument vs 0) _ _ (λ t. refl)

    text_or_null_same : (o : Option (List ℕ)) → text_or_null (heap_map f h) units o ≡ outcome_map f (text_or_null h units o)
    text_or_null_same None = refl
    text_or_null_same (Some t) = made-heap_map f (Text t) h units

    pub date_add_called-heap_map : date_add_called vs (heap_map f h) units ≡ outcome_map f (date_add_called vs h units)
    unfolding date_add_called
    date_add_called-heap_map = on_text h (argument vs 0) _ _ (λ t. given_same (int_given (argument vs 1)) _ _ (λ days. text_or_null_same _))
