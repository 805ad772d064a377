-- What a machine keeps of a run that passes the tests of a state.
use Rattle.std.proofs.Common.{◌≡◌, ℕ, ◌<◌, List, [], ◌∷◌, ◌++◌, length, reverse, Bool, true, false, ◌&&◌, Option, Some, None, refl, sym, ap, ◌∙◌, subst}
use Rattle.std.proofs.lemmas.Bool.{leb-true, ltb-true}
use Rattle.std.proofs.lemmas.List.{reverse-append}
use Rattle.std.proofs.lemmas.List.Folds.{list_all-append}
use Rattle.std.proofs.lemmas.List.Elements.{All-from_recursion}
use Rattle.std.proofs.lemmas.Option.{slice_get_within}
use Rattle.std.specs.Prelude.{IsSome, is_some, slice_get, option_and_then}
use Rattle.std.specs.List.{All, AllByRecursion, list_all, last_or}
use Rattle.hog_value.specs.declared.cell.FunCell.{FunCell}
use Rattle.hog_value.specs.declared.trace.TraceItem.{TraceItem}
use Rattle.hog_value.specs.declared.trace.TraceItem.TheVariants.{Printed, Asked}
use Rattle.hog_value.specs.declared.value.Value.TheVariants.{Null, Bool as Truth, Int, Ref}
use Rattle.hog_value.specs.Values.{Val, NamesBelow}
use Rattle.hog_value.specs.Cells.{CellOf, HeapOf, pairs_at, pairs_of}
use Rattle.vm_course.specs.State.{Upvalue, Opened, Closed, Running, Waiting, Ended, Mode}
use Rattle.vm_course.specs.Run.{RunState}
use Rattle.vm_course.specs.States.{names, upvalues_stand, globals_stand, ends_with_request, waits_for, ended_with, is_memory, is_state}
use Rattle.vm_frames.specs.Parts.{ClosedBelow}
use Rattle.vm_operations.specs.Here.{IsFit}
use Rattle.vm_operations.specs.Machine.{request_of, asked_in, HasEnded, GlobalsStand, IsStanding}

pub both : (a b : Bool) → (a && b) ≡ true → (a ≡ true) × (b ≡ true)
both true true e = (refl, refl)
both true false e = absurd cc
both false b e = absurd cc

pub all_from : {A : Type 0} (p : A → Bool) (P : A → Type 0) → ((x : A) → p x ≡ true → P x) → (xs : List A) → list_all p xs ≡ true → AllByRecursion P xs
all_from p P f [] h = tt
all_from p P f (x ∷ xs) h = let b = both (p x) (list_all p xs) h in (f x b.0, all_from p P f xs b.1)

turned : (a b : Bool) → (a && (b && true)) ≡ (b && a)
turned true true = refl
turned true false = refl
turned false true = refl
turned false false = refl

pub list_all-reverse : {A : Type 0} (p : A → Bool) (xs : List A) → list_all p (reverse xs) ≡ list_all p xs
list_all-reverse p [] = refl
list_all-reverse p (x ∷ xs) =
    ap (list_all p) (reverse-append (x ∷ []) xs) ∙ list_all-append p (reverse xs) (x ∷ []) ∙ turned (list_all p (reverse xs)) (p x)
    ∙ ap (λ b. p x && b) (list_all-reverse p xs)

-- values and upvalues

pub names_below : (n : ℕ) (v : Val) → names n v ≡ true → NamesBelow n v
names_below n Null h = tt
names_below n (Truth b) h = tt
names_below n (Int z) h = tt
names_below n (Ref r) h = ltb-true r n h

taken_below : (n height : ℕ) (taken : List ℕ) (us : List Upvalue) → upvalues_stand n height taken us ≡ true → AllByRecursion (ClosedBelow n) us
taken_below n height taken [] h = tt
taken_below n height taken (Opened p ∷ us) h = (tt, taken_below n height (taken ++ p ∷ []) us (both _ _ h).1)
taken_below n height taken (Closed v ∷ us) h = let b = both _ _ h in (names_below n v b.0, taken_below n height taken us b.1)

-- the globals are there, or the run has ended

globals_there : (h : HeapOf FunCell) (n : ℕ) → is_some (pairs_at h n) ≡ true → n < length h
globals_there h n e = go (slice_get h n) refl e
  where
    go : (o : Option (CellOf FunCell)) → slice_get h n ≡ o → is_some (option_and_then pairs_of o) ≡ true → n < length h
    go None is e = absurd cc
    go (Some c) is e = slice_get_within h n c is

memory_ends : (mode : Mode) → ended_with is_memory mode ≡ true → HasEnded mode
memory_ends Running e = absurd cc
memory_ends Waiting e = absurd cc
memory_ends (Ended e) h = tt

globals_fit : (r : RunState) → globals_stand r.state.heap r.state.mode r.globals ≡ true → GlobalsStand r.globals r.state
globals_fit r e = go r.globals e
  where
    go : (g : Option ℕ) → globals_stand r.state.heap r.state.mode g ≡ true → GlobalsStand g r.state
    go None e = memory_ends r.state.mode e
    go (Some n) e = globals_there r.state.heap n e

-- the request behind which it waits

asks_last : (x : TraceItem) (xs : List TraceItem) → ends_with_request (x ∷ xs) ≡ true → IsSome (option_and_then request_of (last_or (Some x) xs))
asks_last (Printed text) [] e = absurd cc
asks_last (Asked request) [] e = refl
asks_last x (y ∷ ys) e = asks_last y ys e

asks_of : (trace : List TraceItem) → ends_with_request trace ≡ true → IsSome (option_and_then request_of (last_or None trace))
asks_of [] e = absurd cc
asks_of (x ∷ xs) e = asks_last x xs e

asks_in : (mode : Mode) (trace : List TraceItem) → waits_for mode trace ≡ true → mode ≡ Waiting → IsSome (asked_in mode trace)
asks_in Running trace e w = absurd cc
asks_in Waiting trace e w = asks_of trace e
asks_in (Ended x) trace e w = absurd cc

-- the whole

pub fit_by : (r : RunState) → is_state r ≡ true → IsFit r.state
unfolding is_state
fit_by r e =
    let s = r.state in
    let n = length s.heap in
    let tested = both _ _ (both _ _ (both _ _ e).0).0 in
    let values = both _ _ tested.1 in
    let named = both _ _ values.0 in
    let counted = both _ _ (both _ _ tested.0).0 in
    record {
      values = All-from_recursion (NamesBelow n) s.stack (all_from (names n) (NamesBelow n) (names_below n) s.stack (sym (list_all-reverse (names n) s.stack) ∙ named.0));
      taken = All-from_recursion (ClosedBelow n) s.upvalues (taken_below n (length s.stack) [] s.upvalues values.1);
      covered = leb-true _ _ (both _ _ counted.0).1;
    }

pub standing_by : (r : RunState) → is_state r ≡ true → IsStanding r
unfolding is_state
standing_by r e =
    let waits = both _ _ e in
    record { globals = globals_fit r (both _ _ waits.0).1; asks = asks_in r.state.mode r.state.trace waits.1 }
