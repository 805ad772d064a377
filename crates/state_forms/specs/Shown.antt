-- What a run has shown, and how it ended, as JSON data.
use Rattle.std.specs.Prelude.{ℕ, List, [], ◌∷◌, Option, Some, None, if◌then◌else◌, codes, bytes_eq}
use Rattle.serde_json.specs.Data.{Data, string}
use Rattle.serde_json.specs.Find.{as_str}
use Rattle.hog_value.specs.declared.trace.TraceItem.{TraceItem}
use Rattle.hog_value.specs.declared.trace.TraceItem.TheVariants.{Printed, Asked}
use Rattle.hog_value.specs.declared.trace.End.{End}
use Rattle.hog_value.specs.declared.trace.End.TheVariants.{Done, Threw, TurnsSpent, MemorySpent, TooDeep, TooManyFetches}
use Rattle.state_forms.specs.Shapes.{◌>>=◌, list_in, list}

-- ["p",text] for what was printed, ["r",url,options] for a request
abbrev pub item_by : List ℕ → List Data → Option TraceItem
item_by tag [] = None
item_by tag (d ∷ []) = if bytes_eq tag (codes "p") then (as_str d >>= λ text. Some (Printed text)) else None
item_by tag (d ∷ e ∷ []) =
    if bytes_eq tag (codes "r") then (as_str d >>= λ url. as_str e >>= λ options. Some (Asked record { url = url; options = options })) else None
item_by tag (d ∷ e ∷ x ∷ xs) = None

abbrev pub item_in_list : List Data → Option TraceItem
item_in_list [] = None
item_in_list (d ∷ ds) = as_str d >>= λ tag. item_by tag ds

abbrev pub item_in : Data → Option TraceItem
item_in d = list_in d >>= item_in_list

abbrev pub item_data : TraceItem → Data
item_data (Printed text) = list (string (codes "p") ∷ string text ∷ [])
item_data (Asked request) = list (string (codes "r") ∷ string request.url ∷ string request.options ∷ [])

-- a word for a meter or a count that is spent, or ["done",text], ["threw",text]
abbrev pub end_word : List ℕ → Option End
end_word s =
    if bytes_eq s (codes "turns") then Some TurnsSpent
    else (if bytes_eq s (codes "memory") then Some MemorySpent
    else (if bytes_eq s (codes "deep") then Some TooDeep
    else (if bytes_eq s (codes "fetches") then Some TooManyFetches else None)))

abbrev pub end_by : List ℕ → List ℕ → Option End
end_by tag text = if bytes_eq tag (codes "done") then Some (Done text) else (if bytes_eq tag (codes "threw") then Some (Threw text) else None)

abbrev pub end_in_list : List Data → Option End
end_in_list (k ∷ d ∷ []) = as_str k >>= λ tag. as_str d >>= λ text. end_by tag text
end_in_list _ = None

abbrev pub end_of : Option (List ℕ) → Data → Option End
end_of (Some s) d = end_word s
end_of None d = list_in d >>= end_in_list

abbrev pub end_in : Data → Option End
end_in d = end_of (as_str d) d

abbrev pub end_data : End → Data
end_data (Done t) = list (string (codes "done") ∷ string t ∷ [])
end_data (Threw t) = list (string (codes "threw") ∷ string t ∷ [])
end_data TurnsSpent = string (codes "turns")
end_data MemorySpent = string (codes "memory")
end_data TooDeep = string (codes "deep")
end_data TooManyFetches = string (codes "fetches")
