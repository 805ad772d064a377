-- What a machine keeps.
use Rattle.std.proofs.Common.{◌≤◌, ℕ, List, [], ◌∷◌, Bool, true, false, cond, length, map, All, Option, Some, None, arith}
use Rattle.std.proofs.lemmas.List.Elements.{All-head, All-tail, All-nil, All-cons}
use Rattle.std.specs.Prelude.{nat_lt, ◌==◌, IfSome}
use Rattle.hog_value.specs.Values.{Val, NamesBelow}
use Rattle.hog_value.specs.declared.value.Value.TheVariants.{Null, Bool as Truth, Int, Ref}
use Rattle.vm_course.specs.State.{Upvalue, Opened, Closed}
use Rattle.vm_course.specs.Stack.{close, value_at, with_value, or_null}
use Rattle.vm_frames.specs.Parts.{ClosedBelow}
use Rattle.vm_frames.proofs.Lists.{names-value_at}

pub named_or_null : (n : ℕ) (o : Option Val) → IfSome o (NamesBelow n) → NamesBelow n (or_null o)
named_or_null n None names = tt
named_or_null n (Some v) names = names

close_names : (n height : ℕ) (stack : List Val) (u : Upvalue) → All (NamesBelow n) stack → ClosedBelow n u → ClosedBelow n (close height stack u)
close_names n height stack (Closed v) values names = names
close_names n height stack (Opened p) values names = elim (nat_lt p height) as (λ b. ClosedBelow n (cond b (Opened p) (Closed (or_null (value_at stack p))))) [
  | true ↦ tt
  | false ↦ named_or_null n (value_at stack p) (names-value_at n stack p values)
]

-- closing keeps what the values name
pub closed_named : (n height : ℕ) (stack : List Val) (us : List Upvalue) → All (NamesBelow n) stack → All (ClosedBelow n) us → All (ClosedBelow n) (map (close height stack) us)
closed_named n height stack [] values names = All-nil _
closed_named n height stack (u ∷ us) values names =
    All-cons (ClosedBelow n) (close height stack u) (map (close height stack) us) (close_names n height stack u values (All-head (ClosedBelow n) u us names))
    (closed_named n height stack us values (All-tail (ClosedBelow n) u us names))

-- a larger heap
pub names_more : (m n : ℕ) (v : Val) → m ≤ n → NamesBelow m v → NamesBelow n v
names_more m n Null more names = tt
names_more m n (Truth b) more names = tt
names_more m n (Int z) more names = tt
names_more m n (Ref r) more names = omega arith

pub closed_more_cells : (m n : ℕ) (u : Upvalue) → m ≤ n → ClosedBelow m u → ClosedBelow n u
closed_more_cells m n (Opened p) more names = tt
closed_more_cells m n (Closed v) more names = names_more m n v more names

pub all_more : (m n : ℕ) (vs : List Val) → m ≤ n → All (NamesBelow m) vs → All (NamesBelow n) vs
all_more m n [] more names = All-nil _
all_more m n (v ∷ vs) more names = All-cons (NamesBelow n) v vs (names_more m n v more (All-head (NamesBelow m) v vs names)) (all_more m n vs more (All-tail (NamesBelow m) v vs names))

pub all_closed_more : (m n : ℕ) (us : List Upvalue) → m ≤ n → All (ClosedBelow m) us → All (ClosedBelow n) us
all_closed_more m n [] more names = All-nil _
all_closed_more m n (u ∷ us) more names = All-cons (ClosedBelow n) u us (closed_more_cells m n u more (All-head (ClosedBelow m) u us names)) (all_closed_more m n us more (All-tail (ClosedBelow m) u us names))

with_or : (n : ℕ) (v x : Val) (vs ws : List Val) (b : Bool) → NamesBelow n v → NamesBelow n x → All (NamesBelow n) vs → All (NamesBelow n) ws → All (NamesBelow n) (cond b (x ∷ vs) (v ∷ ws))
with_or n v x vs ws true first new below others = All-cons (NamesBelow n) x vs new below
with_or n v x vs ws false first new below others = All-cons (NamesBelow n) v ws first others

-- another value at a place
pub with_named : (n : ℕ) (vs : List Val) (place : ℕ) (x : Val) → NamesBelow n x → All (NamesBelow n) vs → All (NamesBelow n) (with_value vs place x)
with_named n [] place x new names = All-nil _
with_named n (v ∷ vs) place x new names =
    with_or n v x vs (with_value vs place x) (length vs == place) (All-head (NamesBelow n) v vs names) new (All-tail (NamesBelow n) v vs names)
    (with_named n vs place x new (All-tail (NamesBelow n) v vs names))
