-- Natives and calls with more replies.
use Rattle.std.proofs.Common.{◌≡◌, ℕ, suc, List, [], ◌∷◌, ◌++◌, length, Option, Some, None, refl, sym, subst, append-nil}
use Rattle.std.specs.Prelude.{◌&&◌, nat_lt, nat_le, slice_get, count_by}
use Rattle.hog_value.specs.declared.value.Kind.TheVariants.{TypeError, ArgumentError}
use Rattle.hog_value.specs.declared.native.Native.{Native}
use Rattle.hog_value.specs.declared.native.Native.TheVariants.{Keys, Values, Length}
use Rattle.hog_value.specs.declared.trace.TraceItem.TheVariants.{Printed, Asked}
use Rattle.hog_value.specs.Values.{Val}
use Rattle.hog_value.specs.declared.value.Value.TheVariants.{Null, Bool as Truth, Int, Ref}
use Rattle.hog_value.specs.Meters.{max_turns, max_depth}
use Rattle.hog_value.specs.Natives.{native_named}
use Rattle.hog_value.specs.Cells.{CellOf, Text, Array, Dict, Fun}
use Rattle.hog_library.specs.Called.{called}
use Rattle.hog_library.specs.Called as native
use Rattle.hog_library.specs.Cells.{response}
use Rattle.hog_tree.specs.Plain.{Word}
use Rattle.hog_meaning.specs.Meaning.{Effect, Task, Call, replied, of_native, most_requests, is_request, is_fetch, call_native, call_word, bind, of_body, enter, call_function, call_cell, call_value, call_named, keys_copied, copied}
use Rattle.hog_meaning.specs.World.{Env, Closure, Reply, World, Got, and_then, read_var, spent_at}
use Rattle.hog_meaning.proofs.Going.{longer, From, Goes, stays, after, then_goes, if_goes, body_goes, turn_goes, throws_goes, outcome_goes}

reply_from : (rs : List Reply) (w : World) → From w.trace (replied rs w)
reply_from [] w = record { more = []; is = sym (append-nil w.trace) }
reply_from (r ∷ rs) w = let g = outcome_goes {rs = []} (response r.status r.body w.heap w.units) (record w { replies = rs }) in record { more = g.from.more; is = g.from.is }

-- a reply, and the first of more replies where none is left
first_goes : {s : List Reply} (rs : List Reply) (w : World) → Goes s w.trace (replied rs w) (replied (rs ++ s) (longer s w))
first_goes {s} [] w = record { from = record { more = []; is = sym (append-nil w.trace) }; is = reply_from s (longer s w) }
first_goes (r ∷ rs) w = outcome_goes (response r.status r.body w.heap w.units) (record w { replies = rs })

native_goes : {rs : List Reply} (c : native.Called Closure) (w : World) → Goes rs w.trace (of_native c w) (of_native c (longer rs w))
native_goes (native.Gives v h m) w = stays refl refl
native_goes (native.Prints text m) w = after (Printed text ∷ []) (stays refl refl)
native_goes (native.Throws kind) w = throws_goes kind w
native_goes (native.Asks request m) w = after (Asked request ∷ []) (first_goes w.replies _)
native_goes native.TurnsSpent w = stays refl refl
native_goes native.UnitsSpent w = stays refl refl

pub call_native_goes : {rs : List Reply} (depth : ℕ) (n : Native) (vs : List Val) (w : World) → Goes rs w.trace (call_native depth n vs w) (call_native depth n vs (longer rs w))
unfolding call_native
call_native_goes depth n vs w =
    if_goes (is_fetch n && nat_le most_requests (count_by is_request w.trace)) _ _ _ _ (stays refl refl) (native_goes (called n vs w.heap (spent_at depth w)) w)

word_goes : {rs : List Reply} (depth : ℕ) (o : Option Native) (vs : List Val) (w : World) → Goes rs w.trace (call_word depth o vs w) (call_word depth o vs (longer rs w))
word_goes depth None vs w = throws_goes TypeError w
word_goes depth (Some n) vs w = call_native_goes depth n vs w

-- the copies of a loop over values
keys_goes : {rs : List Reply} (k : Option Word) (depth : ℕ) (v : Val) (w : World) → Goes rs w.trace (keys_copied k depth v w) (keys_copied k depth v (longer rs w))
keys_goes None depth v w = stays refl refl
keys_goes (Some k) depth v w = call_native_goes depth Keys (v ∷ []) w

pub copied_goes : {rs : List Reply} (k : Option Word) (x : Word) (depth : ℕ) (v : Val) (w : World) → Goes rs w.trace (copied k x depth v w) (copied k x depth v (longer rs w))
copied_goes k x depth v w =
    then_goes (keys_goes k depth v w) (λ keys w1.
    then_goes (call_native_goes depth Values (v ∷ []) w1) (λ values w2.
    then_goes (call_native_goes depth Length (values ∷ []) w2) (λ size w3. stays refl refl)))

-- new variables for the parameters
bind_trace : (ps : List Word) (vs : List Val) (ρ : Env) (w : World) → (bind ps vs ρ w).1.trace ≡ w.trace
bind_trace [] vs ρ w = refl
bind_trace (p ∷ ps) [] ρ w = bind_trace ps [] _ _
bind_trace (p ∷ ps) (v ∷ vs) ρ w = bind_trace ps vs _ _

bind_longer : (rs : List Reply) (ps : List Word) (vs : List Val) (ρ : Env) (w : World) → bind ps vs ρ (longer rs w) ≡ ((bind ps vs ρ w).0, longer rs (bind ps vs ρ w).1)
bind_longer rs [] vs ρ w = refl
bind_longer rs (p ∷ ps) [] ρ w = bind_longer rs ps [] _ _
bind_longer rs (p ∷ ps) (v ∷ vs) ρ w = bind_longer rs ps vs _ _

-- what costs a turn keeps it
pub record Good (rs : List Reply) (again : Effect) : Type 0 where
  pub goes : (depth : ℕ) (task : Task) (ρ : Env) (w : World) → Goes rs w.trace (again depth task ρ w) (again depth task ρ (longer rs w))

module _ (rs : List Reply) (again : Effect) (ih : Good rs again) where
  enter_goes : (depth : ℕ) (f : Closure) (vs : List Val) (w : World) → Goes rs w.trace (enter again depth f vs w) (enter again depth f vs (longer rs w))
  enter_goes depth f vs w =
      let b = bind f.params vs f.env w in
      subst (λ (z : Env × World). Goes rs w.trace (enter again depth f vs w) (and_then (again (suc depth) (Call f.body) z.0 z.1) of_body)) (sym (bind_longer rs f.params vs f.env w))
      (subst (λ t. Goes rs t (enter again depth f vs w) (and_then (again (suc depth) (Call f.body) b.0 (longer rs b.1)) of_body)) (bind_trace f.params vs f.env w)
      (then_goes (ih.goes (suc depth) (Call f.body) b.0 b.1) body_goes))

  function_goes : (depth : ℕ) (f : Closure) (vs : List Val) (w : World) → Goes rs w.trace (call_function again depth f vs w) (call_function again depth f vs (longer rs w))
  function_goes depth f vs w =
      if_goes (nat_lt (length f.params) (length vs)) _ _ _ _ (throws_goes ArgumentError w)
      (if_goes (nat_lt depth max_depth) _ _ _ _ (turn_goes w (enter again depth f vs) (enter_goes depth f vs))
      (if_goes (nat_lt w.turns max_turns) _ _ _ _ (stays refl refl) (stays refl refl)))

  cell_goes : (depth : ℕ) (c : Option (CellOf Closure)) (vs : List Val) (w : World) → Goes rs w.trace (call_cell again depth c vs w) (call_cell again depth c vs (longer rs w))
  cell_goes depth None vs w = throws_goes TypeError w
  cell_goes depth (Some (Text text)) vs w = throws_goes TypeError w
  cell_goes depth (Some (Array items)) vs w = throws_goes TypeError w
  cell_goes depth (Some (Dict pairs)) vs w = throws_goes TypeError w
  cell_goes depth (Some (Fun f)) vs w = function_goes depth f vs w

  call_goes : (depth : ℕ) (v : Val) (vs : List Val) (w : World) → Goes rs w.trace (call_value again depth v vs w) (call_value again depth v vs (longer rs w))
  call_goes depth Null vs w = throws_goes TypeError w
  call_goes depth (Truth b) vs w = throws_goes TypeError w
  call_goes depth (Int z) vs w = throws_goes TypeError w
  call_goes depth (Ref n) vs w = cell_goes depth (slice_get w.heap n) vs w

  pub named_goes : (depth : ℕ) (o : Option ℕ) (word : Word) (vs : List Val) (w : World) → Goes rs w.trace (call_named again depth o word vs w) (call_named again depth o word vs (longer rs w))
  named_goes depth None word vs w = word_goes depth (native_named word) vs w
  named_goes depth (Some x) word vs w = call_goes depth (read_var w x) vs w

  -- any other callee
  pub callee_goes : (depth : ℕ) (callee : World → Got Val) (vs : List Val) (w : World) → Goes rs w.trace (callee w) (callee (longer rs w)) → Goes rs w.trace (and_then (callee w) (λ v w1. call_value again depth v vs w1)) (and_then (callee (longer rs w)) (λ v w1. call_value again depth v vs w1))
  callee_goes depth callee vs w g = then_goes g (λ v w1. call_goes depth v vs w1)
