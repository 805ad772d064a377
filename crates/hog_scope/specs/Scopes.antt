-- The scope rules: what each word of a program names, or the first fault.
use Rattle.std.specs.Prelude.{ℕ, suc, List, [], ◌∷◌, ◌++◌, length, true, false, Option, None, Some, Result, Ok, Err, bytes_eq, if◌then◌else◌, is_some}
use Rattle.std.specs.Map.{lookup}
use Rattle.hog_value.specs.declared.native.Native.{Native}
use Rattle.hog_value.specs.Natives.{native_named, takes_of}
use Rattle.hog_tree.specs.Plain.{Word, Stms}
use Rattle.hog_scope.specs.declared.item.Item.{Item}
use Rattle.hog_scope.specs.declared.item.Item.TheVariants as item
use Rattle.hog_scope.specs.declared.scope.Variable.{Variable}
use Rattle.hog_scope.specs.Words.{Event, Opens, Closes, Declares, Binds, Reads, Assigns, Calls, Spells, stms_words}

-- a scope: the names that it declares, in order
abbrev pub Scope : Type 0
Scope = List (Word × Variable)

-- what a scope has under a word
abbrev pub variable_in : Scope → Word → Option Variable
variable_in scope w = lookup (bytes_eq w) scope

-- the scope with a name that isn't seen yet
abbrev pub with_declared : Scope → Word → ℕ → Scope
with_declared scope w n = scope ++ (w, record { number = n; is_seen = false }) ∷ []

-- the scope with its name w seen
abbrev pub with_seen : Scope → Word → Scope
with_seen [] w = []
with_seen ((v, x) ∷ scope) w =
    if bytes_eq w v then (v, record x { is_seen = true }) ∷ scope else (v, x) ∷ with_seen scope w

-- the number of a variable that is seen, else what stands further out
abbrev pub seen_or : Option Variable → Option ℕ → Option ℕ
seen_or None outer = outer
seen_or (Some x) outer = if x.is_seen then Some x.number else outer

-- the number of the nearest declaration of w that is seen; the innermost scope stands first
abbrev pub nearest : List Scope → Word → Option ℕ
nearest [] w = None
nearest (scope ∷ around) w = seen_or (variable_in scope w) (nearest around w)

-- what is known at a point of the source: what the words before it name, how many names they declare, the
-- innermost scope, and the scopes around it, from the inside out
pub record Known : Type 0 where
  pub items : List Item
  pub declared : ℕ
  pub scope : Scope
  pub around : List Scope

-- where a program begins
abbrev pub start : Known
start = record { items = []; declared = 0; scope = []; around = [] }

-- what can be wrong with a word
pub data Cause : Type 0 where
  AlreadyDeclared : Cause
  AssignsUnknown : Cause
  UnknownFunction : Cause
  WrongCount : Cause

-- what a word names that is read: its variable, else the global of that name
abbrev pub read_item : Option ℕ → Item
read_item None = item.Global
read_item (Some n) = item.Declared n

-- what a word names that is assigned: its variable
abbrev pub assigned_item : Option ℕ → Result Item Cause
assigned_item None = Err AssignsUnknown
assigned_item (Some n) = Ok (item.Declared n)

-- the native that is called with so many arguments
abbrev pub native_item : Option Native → ℕ → Result Item Cause
native_item None count = Err UnknownFunction
native_item (Some native) count = if takes_of native count then Ok (item.Native native) else Err WrongCount

-- what a word names that is called: its variable, else a native
abbrev pub called_item : Option ℕ → Option Native → ℕ → Result Item Cause
called_item None native count = native_item native count
called_item (Some n) native count = Ok (item.Declared n)

-- what is known after a word that names this
abbrev pub with_item : Known → Result Item Cause → Result Known Cause
with_item k (Ok i) = Ok (record k { items = k.items ++ i ∷ [] })
with_item k (Err cause) = Err cause

-- what is known after the innermost scope declares a name
abbrev pub with_name : Known → Word → Known
with_name k w = record {
  items = k.items ++ item.Declared k.declared ∷ [];
  declared = suc k.declared;
  scope = with_declared k.scope w k.declared;
  around = k.around;
}

-- what is known after a scope begins
abbrev pub opened : Known → Known
opened k = record k { scope = []; around = k.scope ∷ k.around }

-- what is known after a scope ends
abbrev pub closed : Known → List Scope → Known
closed k [] = k
closed k (scope ∷ around) = record k { scope = scope; around = around }

-- the number of the variable that a word means here, if it means one
abbrev pub seen_at : Known → Word → Option ℕ
seen_at k w = nearest (k.scope ∷ k.around) w

-- what is known after one event, or what is wrong with its word
abbrev pub step : Event → Known → Result Known Cause
step Opens k = Ok (opened k)
step Closes k = Ok (closed k k.around)
step (Declares w) k =
    if is_some (variable_in k.scope w) then Err AlreadyDeclared else Ok (with_name k w)
step (Binds w) k = Ok (record k { scope = with_seen k.scope w })
step (Reads w) k = with_item k (Ok (read_item (seen_at k w)))
step (Assigns w) k = with_item k (assigned_item (seen_at k w))
step (Calls w count) k = with_item k (called_item (seen_at k w) (native_named w) count)
step (Spells w) k = Ok k

-- a fault: what is wrong, and with which of the words that name something, counted from 0
pub record Fault : Type 0 where
  pub cause : Cause
  pub word : ℕ

-- on to what follows, or the fault at the next word
abbrev pub onward : ℕ → Result Known Cause → (Known → Result Known Fault) → Result Known Fault
onward word (Ok k) go = go k
onward word (Err cause) go = Err (record { cause = cause; word = word })

-- what is known after these events, or the first fault
abbrev pub run : List Event → Known → Result Known Fault
run [] k = Ok k
run (e ∷ es) k = onward (length k.items) (step e k) (run es)

-- what the words before a place name
abbrev pub items_at : Result Known Fault → Result (List Item) Fault
items_at (Ok k) = Ok k.items
items_at (Err fault) = Err fault

-- what each word of a program names that names something, or the first fault
abbrev pub items_of : Stms → Result (List Item) Fault
items_of program = items_at (run (stms_words program) start)
