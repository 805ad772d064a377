-- Texts that are being built.
use Rattle.std.specs.Prelude.{ℕ, zero, suc, ◌<◌, Option, Some, None, List, [], ◌++◌, length}
use Rattle.hog_value.specs.Values.{Val}
use Rattle.hog_value.specs.Cells.{HeapOf}
use Rattle.hog_json.specs.Texts.{Spelling, text_in, shown_spelling, json_spelling}
use Rattle.hog_json.specs.declared.style.Style.{Style}
use Rattle.hog_json.specs.declared.style.Style.TheVariants as style

-- the text so far, the most bytes that it may have, and the cells that are open where it ends, the innermost last
pub record Built : Type 0 where
  pub text : List ℕ
  pub limit : ℕ
  pub open_cells : List ℕ

-- with more text
abbrev pub added : List ℕ → Built → Built
added more b = record b { text = b.text ++ more }

-- the spelling of a style
abbrev pub spelling_of : Style → Spelling
spelling_of style.Shown = shown_spelling
spelling_of style.Json = json_spelling

-- the text doesn't fit
abbrev pub TooLong : List ℕ → Built → Type 0
TooLong more b = b.limit < length (b.text ++ more)

-- what stands before an item: a mark where it isn't the first
abbrev pub mark_before : List ℕ → ℕ → List ℕ
mark_before mark zero = []
mark_before mark (suc i) = mark

-- the texts of values inside a cell that is opened where `room` more may be; None where none may be
abbrev pub deeper : {F : Type 0} → Spelling → HeapOf F → ℕ → Option (List ℕ → Val → List ℕ)
deeper s h zero = None
deeper s h (suc room) = Some (text_in s h room)
