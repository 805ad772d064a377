-- The value of each expression and the effect of each statement. Recursion is on the turns that are left, and then on
-- the tree: what costs a turn is handed down as a task.
use Rattle.std.specs.Prelude.{ℕ, zero, suc, ℤ, pos, ◌+ℤ◌, int_le, List, [], ◌∷◌, length, Bool, true, false, not, Option, Some, None, if◌then◌else◌, slice_get, nat_lt, nat_le, ◌&&◌, bytes_eq, count_by}
use Rattle.hog_value.specs.declared.value.Kind.TheVariants.{TypeError, ArgumentError}
use Rattle.hog_value.specs.declared.native.Native.{Native}
use Rattle.hog_value.specs.declared.native.Native.TheVariants.{Concat, Keys, Values, Length, Fetch}
use Rattle.hog_value.specs.declared.trace.TraceItem.{TraceItem}
use Rattle.hog_value.specs.declared.trace.TraceItem.TheVariants.{Printed, Asked}
use Rattle.hog_value.specs.Values.{Val}
use Rattle.hog_value.specs.declared.value.Value.TheVariants.{Null, Bool as Truth, Int, Ref}
use Rattle.hog_value.specs.Meters.{Spent, max_turns, max_depth}
use Rattle.hog_value.specs.Natives.{native_named}
use Rattle.hog_value.specs.Cells.{CellOf, Text, Array, Dict, Fun}
use Rattle.hog_value.specs.Operations.{made, key_of, truth_of}
use Rattle.hog_library.specs.Called.{called}
use Rattle.hog_library.specs.Called as native
use Rattle.hog_library.specs.Cells.{response}
use Rattle.hog_tree.specs.Plain as t
use Rattle.hog_tree.specs.Plain.{Word, Exp, Exps, NoExp, MoreExp, Parts, NoPart, MoreText, MoreHole, Pairs, NoPair, MorePair, Body, OneExp, ManyStms, Stm, Stms, Done, Then, OptionExp, NoneExp, SomeExp, OptionStm, NoneStm, SomeStm, OptionStms, NoneStms, SomeStms}
use Rattle.hog_meaning.specs.Operators.{operated, is_left_first, negated, accessed, property_of, nullish_property_of, assigned, property_assigned, dictionary_made}
use Rattle.hog_meaning.specs.World.{Env, Closure, World, Fixed, TurnsSpent, MemorySpent, TooDeep, TooManyFetches, Got, Gives, Throws, Waits, Spends, and_then, Flow, GoesOn, Returns, find_var, read_var, declare, named, write_var, with_heap, said, spent_at, throws, of_result, of_outcome, with_turn, Reply}

-- what a loop over values runs over: its names, the array of the keys where a key is named, the array of the values, and how
-- many they are
pub record Copies : Type 0 where
  pub key : Option Word
  pub value : Word
  pub keys : Val
  pub values : Val
  pub size : ℤ

-- What costs a turn: a further turn of a loop, and a call's body. A loop over values goes on at an index of its copies.
pub data Task : Type 0 where
  Loop : Exp → Stms → Task
  LoopWithStep : OptionExp → OptionStm → Stms → Task
  LoopOver : Copies → ℤ → Stms → Task
  Call : Body → Task

-- what a task does at a depth, with these names in sight
abbrev pub Effect : Type 0
Effect = ℕ → Task → Env → World → Got Flow

-- words and texts

-- the cell of a literal text
abbrev pub place_in : List Word → Word → ℕ
place_in [] text = 0
place_in (l ∷ ls) text = if bytes_eq l text then 0 else suc (place_in ls text)

abbrev pub literal : Fixed → Word → Val
literal fixed text = Ref (place_in fixed.literals text)

-- what a word reads: its variable, else the global of that name
abbrev pub read_word : Fixed → Option ℕ → Word → World → Got Val
read_word fixed (Some x) word w = Gives (read_var w x) w
read_word fixed None word w = of_result (key_of w.heap fixed.globals word) w

-- natives

-- what comes of a request: the first of the replies that are left, as the response that is made of it
abbrev pub replied : List Reply → World → Got Val
replied [] w = Waits w
replied (r ∷ rs) w = of_outcome (response r.status r.body w.heap w.units) (record w { replies = rs })

-- the world where this was spent
abbrev pub with_spent : Spent → World → World
with_spent m w = record w { turns = m.turns; units = m.units }

-- what comes of a native
abbrev pub of_native : native.Called Closure → World → Got Val
of_native (native.Gives v h m) w = Gives v (with_spent m (with_heap w h m.units))
of_native (native.Prints text m) w = Gives Null (said (Printed text) (with_spent m w))
of_native (native.Throws kind) w = throws kind w
of_native (native.Asks request m) w =
    let asked = said (Asked request) (with_spent m w) in
    replied asked.replies asked
of_native native.TurnsSpent w = Spends TurnsSpent w
of_native native.UnitsSpent w = Spends MemorySpent w

-- the most requests of a run
abbrev pub most_requests : ℕ
most_requests = 100

abbrev pub is_request : TraceItem → Bool
is_request (Printed text) = false
is_request (Asked request) = true

abbrev pub is_fetch : Native → Bool
is_fetch Fetch = true
is_fetch n = false

-- a call of a native; `fetch` with 100 requests behind it ends the run, whatever its arguments are
unfoldable pub call_native : ℕ → Native → List Val → World → Got Val
call_native depth n vs w =
    if is_fetch n && nat_le most_requests (count_by is_request w.trace) then Spends TooManyFetches w
    else of_native (called n vs w.heap (spent_at depth w)) w

-- a word that is called and names no variable is a native
abbrev pub call_word : ℕ → Option Native → List Val → World → Got Val
call_word depth None vs w = throws TypeError w
call_word depth (Some n) vs w = call_native depth n vs w

-- calls

-- each parameter is a new variable; one without an argument is null
abbrev pub bind : List Word → List Val → Env → World → Env × World
bind [] vs ρ w = (ρ, w)
bind (p ∷ ps) [] ρ w = bind ps [] (named p w ρ) (declare Null w)
bind (p ∷ ps) (v ∷ vs) ρ w = bind ps vs (named p w ρ) (declare v w)

-- what a body gives to its caller
abbrev pub of_body : Flow → World → Got Val
of_body (GoesOn ρ) w = Gives Null w
of_body (Returns v) w = Gives v w

abbrev pub enter : Effect → ℕ → Closure → List Val → World → Got Val
enter again depth f vs w =
    let bound = bind f.params vs f.env w in
    and_then (again (suc depth) (Call f.body) bound.0 bound.1) of_body

-- A call of a function: its arguments are counted, then a turn and a depth are asked for, and then both are spent.
abbrev pub call_function : Effect → ℕ → Closure → List Val → World → Got Val
call_function again depth f vs w =
    if nat_lt (length f.params) (length vs) then throws ArgumentError w
    else (if nat_lt depth max_depth then with_turn w (enter again depth f vs)
    else (if nat_lt w.turns max_turns then Spends TooDeep w else Spends TurnsSpent w))

abbrev pub call_cell : Effect → ℕ → Option (CellOf Closure) → List Val → World → Got Val
call_cell again depth None vs w = throws TypeError w
call_cell again depth (Some (Text text)) vs w = throws TypeError w
call_cell again depth (Some (Array items)) vs w = throws TypeError w
call_cell again depth (Some (Dict pairs)) vs w = throws TypeError w
call_cell again depth (Some (Fun f)) vs w = call_function again depth f vs w

abbrev pub call_value : Effect → ℕ → Val → List Val → World → Got Val
call_value again depth Null vs w = throws TypeError w
call_value again depth (Truth b) vs w = throws TypeError w
call_value again depth (Int z) vs w = throws TypeError w
call_value again depth (Ref n) vs w = call_cell again depth (slice_get w.heap n) vs w

-- a word that is called: its variable's value, else the native of that name
abbrev pub call_named : Effect → ℕ → Option ℕ → Word → List Val → World → Got Val
call_named again depth None word vs w = call_word depth (native_named word) vs w
call_named again depth (Some x) word vs w = call_value again depth (read_var w x) vs w

-- A callee on its arguments: a word that names no variable is a native. The value of any other callee is handed in.
abbrev pub called_with : Effect → ℕ → Exp → Env → (World → Got Val) → List Val → World → Got Val
called_with again depth (t.Name x) ρ callee vs w = call_named again depth (find_var ρ x) x vs w
called_with again depth f ρ callee vs w = and_then (callee w) (λ v w1. call_value again depth v vs w1)

-- statements

-- after a block its names are gone
abbrev pub leave : Env → Flow → World → Got Flow
leave ρ (GoesOn inner) w = Gives (GoesOn ρ) w
leave ρ (Returns v) w = Gives (Returns v) w

-- goes on with the names in sight, unless the function has returned
abbrev pub on_flow : Flow → World → (Env → World → Got Flow) → Got Flow
on_flow (GoesOn ρ) w go = go ρ w
on_flow (Returns v) w go = Gives (Returns v) w

-- goes on with what was thrown
abbrev pub catch : Got Flow → (Val → World → Got Flow) → Got Flow
catch (Gives flow w) go = Gives flow w
catch (Throws v w) go = go v w
catch (Waits w) go = Waits w
catch (Spends limit w) go = Spends limit w

abbrev pub is_null : Val → Bool
is_null Null = true
is_null (Truth b) = false
is_null (Int z) = false
is_null (Ref n) = false

-- a function that is named: its name is in sight within itself
abbrev pub define : Word → List Word → Stms → Env → World → Got Flow
define f params body ρ w =
    let inner = named f w ρ in
    and_then (of_outcome (made (Fun (record { params = params; body = ManyStms body; env = inner })) w.heap w.units) w)
    (λ v w1. Gives (GoesOn inner) (declare v w1))

-- one turn of a loop over values: its names are new variables, the key before the value
abbrev pub bind_key : Option Word → Val → ℤ → Env → World → Got Flow
bind_key None keys i ρ w = Gives (GoesOn ρ) w
bind_key (Some k) keys i ρ w = and_then (of_result (accessed w.heap keys (Int i)) w) (λ v w1. Gives (GoesOn (named k w1 ρ)) (declare v w1))

abbrev pub bind_item : Copies → ℤ → Env → World → Got Flow
bind_item copies i ρ w = and_then (bind_key copies.key copies.keys i ρ w) (λ flow w1. on_flow flow w1
    (λ ρ1 w2. and_then (of_result (accessed w2.heap copies.values (Int i)) w2) (λ v w3. Gives (GoesOn (named copies.value w3 ρ1)) (declare v w3))))

-- A turn of a loop over values and those after it, where `block` is its body.
abbrev pub run_over : Effect → ℕ → Copies → ℤ → Stms → (Env → World → Got Flow) → Env → World → Got Flow
run_over again depth copies i body block ρ w =
    if int_le i copies.size
    then and_then (and_then (and_then (bind_item copies i ρ w) (λ flow w1. on_flow flow w1 block)) (leave ρ))
    (λ flow w2. on_flow flow w2 (λ ρ1 w3. with_turn w3 (again depth (LoopOver copies (i +ℤ pos 1) body) ρ1)))
    else Gives (GoesOn ρ) w

-- A turn of a `for` and those after it, behind its start. What its condition, its body and its step do is handed in.
abbrev pub run_for : Effect → ℕ → OptionExp → OptionStm → Stms → (Env → World → Got Val) → (Env → World → Got Flow) → (Env → World → Got Flow) → Env → World → Got Flow
run_for again depth c n b condition block step ρ w =
    and_then (condition ρ w) (λ v w1. if truth_of w1.heap v
    then and_then (and_then (block ρ w1) (leave ρ)) (λ flow w2. on_flow flow w2 (λ ρ1 w3.
    and_then (and_then (step ρ1 w3) (leave ρ1)) (λ flow1 w4. on_flow flow1 w4 (λ ρ2 w5. with_turn w5 (again depth (LoopWithStep c n b) ρ2)))))
    else Gives (GoesOn ρ) w1)

-- The copies that a loop over values runs over: of its keys, where a key is named, then of its values, and their number.
abbrev pub keys_copied : Option Word → ℕ → Val → World → Got Val
keys_copied None depth v w = Gives Null w
keys_copied (Some k) depth v w = call_native depth Keys (v ∷ []) w

abbrev pub number_in : Val → ℤ
number_in (Int z) = z
number_in v = pos 0

abbrev pub copied : Option Word → Word → ℕ → Val → World → Got Copies
copied k x depth v w =
    and_then (keys_copied k depth v w) (λ keys w1.
    and_then (call_native depth Values (v ∷ []) w1) (λ values w2.
    and_then (call_native depth Length (values ∷ []) w2) (λ size w3.
    Gives (record { key = k; value = x; keys = keys; values = values; size = number_in size }) w3)))

-- what is assigned
abbrev pub assign_word : Option ℕ → Val → World → World
assign_word None v w = w
assign_word (Some x) v w = write_var x v w

-- an assignment is done, or throws, or can't pay
abbrev pub done : Env → Got (Unit {0}) → Got Flow
done ρ got = and_then got (λ u w. Gives (GoesOn ρ) w)

abbrev mutual
  pub value : Fixed → Effect → ℕ → Exp → Env → World → Got Val
  value fixed again depth (t.Int n) ρ w = Gives (Int n) w
  value fixed again depth (t.Truth b) ρ w = Gives (Truth b) w
  value fixed again depth t.Null ρ w = Gives Null w
  value fixed again depth (t.Text text) ρ w = Gives (literal fixed text) w
  value fixed again depth (t.Template ps) ρ w = and_then (parts fixed again depth ps ρ w) (call_native depth Concat)
  value fixed again depth (t.Name x) ρ w = read_word fixed (find_var ρ x) x w
  value fixed again depth (t.Array es) ρ w = and_then (values fixed again depth es ρ w) (λ vs w1. of_outcome (made (Array vs) w1.heap w1.units) w1)
  value fixed again depth (t.Dict ds) ρ w = and_then (pairs fixed again depth ds ρ w) (λ kvs w1. of_outcome (dictionary_made kvs w1.heap w1.units) w1)
  value fixed again depth (t.Neg e) ρ w = and_then (value fixed again depth e ρ w) (λ v w1. of_result (negated v) w1)
  value fixed again depth (t.Not e) ρ w = and_then (value fixed again depth e ρ w) (λ v w1. Gives (Truth (not (truth_of w1.heap v))) w1)
  value fixed again depth (t.Binary op a b) ρ w =
      if is_left_first op
      then and_then (value fixed again depth a ρ w) (λ x w1. and_then (value fixed again depth b ρ w1) (λ y w2. of_result (operated op w2.heap x y) w2))
      else and_then (value fixed again depth b ρ w) (λ y w1. and_then (value fixed again depth a ρ w1) (λ x w2. of_result (operated op w2.heap x y) w2))
  value fixed again depth (t.Coalesce a b) ρ w =
      and_then (value fixed again depth a ρ w) (λ v w1. if is_null v then value fixed again depth b ρ w1 else Gives v w1)
  value fixed again depth (t.Prop e x) ρ w = and_then (value fixed again depth e ρ w) (λ v w1. of_result (property_of w1.heap v x) w1)
  value fixed again depth (t.PropNullish e x) ρ w = and_then (value fixed again depth e ρ w) (λ v w1. of_result (nullish_property_of w1.heap v x) w1)
  value fixed again depth (t.Index e k) ρ w =
      and_then (value fixed again depth e ρ w) (λ base w1. and_then (value fixed again depth k ρ w1) (λ key w2. of_result (accessed w2.heap base key) w2))
  value fixed again depth (t.Call f es) ρ w = and_then (values fixed again depth es ρ w) (called_with again depth f ρ (value fixed again depth f ρ))
  value fixed again depth (t.Lambda ps b) ρ w = of_outcome (made (Fun (record { params = ps; body = b; env = ρ })) w.heap w.units) w

  -- elements and arguments
  pub values : Fixed → Effect → ℕ → Exps → Env → World → Got (List Val)
  values fixed again depth NoExp ρ w = Gives [] w
  values fixed again depth (MoreExp e es) ρ w =
      and_then (value fixed again depth e ρ w) (λ v w1. and_then (values fixed again depth es ρ w1) (λ vs w2. Gives (v ∷ vs) w2))

  -- the parts of a template
  pub parts : Fixed → Effect → ℕ → Parts → Env → World → Got (List Val)
  parts fixed again depth NoPart ρ w = Gives [] w
  parts fixed again depth (MoreText text ps) ρ w = and_then (parts fixed again depth ps ρ w) (λ vs w1. Gives (literal fixed text ∷ vs) w1)
  parts fixed again depth (MoreHole e ps) ρ w =
      and_then (value fixed again depth e ρ w) (λ v w1. and_then (parts fixed again depth ps ρ w1) (λ vs w2. Gives (v ∷ vs) w2))

  -- keys with their values
  pub pairs : Fixed → Effect → ℕ → Pairs → Env → World → Got (List (Val × Val))
  pairs fixed again depth NoPair ρ w = Gives [] w
  pairs fixed again depth (MorePair k e ds) ρ w =
      and_then (value fixed again depth k ρ w) (λ key w1. and_then (value fixed again depth e ρ w1) (λ v w2.
      and_then (pairs fixed again depth ds ρ w2) (λ kvs w3. Gives ((key, v) ∷ kvs) w3)))

  -- Of an assignment the base comes first, then the key, then the value. Nothing else than a word, a property and an item is
  -- assigned in a program that a text has.
  pub effect : Fixed → Effect → ℕ → Stm → Env → World → Got Flow
  effect fixed again depth (t.Let x e) ρ w = and_then (optional fixed again depth e ρ w) (λ v w1. Gives (GoesOn (named x w1 ρ)) (declare v w1))
  effect fixed again depth (t.Assign (t.Name x) e) ρ w = and_then (value fixed again depth e ρ w) (λ v w1. Gives (GoesOn ρ) (assign_word (find_var ρ x) v w1))
  effect fixed again depth (t.Assign (t.Prop base x) e) ρ w =
      and_then (value fixed again depth base ρ w) (λ b w1. and_then (value fixed again depth e ρ w1) (λ v w2.
      done ρ (of_outcome (property_assigned w2.heap b x v w2.units) w2)))
  effect fixed again depth (t.Assign (t.Index base key) e) ρ w =
      and_then (value fixed again depth base ρ w) (λ b w1. and_then (value fixed again depth key ρ w1) (λ k w2. and_then (value fixed again depth e ρ w2) (λ v w3.
      done ρ (of_outcome (assigned w3.heap b k v w3.units) w3))))
  effect fixed again depth (t.Assign target e) ρ w =
      and_then (value fixed again depth target ρ w) (λ b w1. and_then (value fixed again depth e ρ w1) (λ v w2. Gives (GoesOn ρ) w2))
  effect fixed again depth (t.Do e) ρ w = and_then (value fixed again depth e ρ w) (λ v w1. Gives (GoesOn ρ) w1)
  effect fixed again depth (t.Return e) ρ w = and_then (optional fixed again depth e ρ w) (λ v w1. Gives (Returns v) w1)
  effect fixed again depth (t.Throw e) ρ w = and_then (value fixed again depth e ρ w) Throws
  effect fixed again depth (t.If c b o) ρ w =
      and_then (value fixed again depth c ρ w) (λ v w1.
      and_then (if truth_of w1.heap v then effects fixed again depth b ρ w1 else otherwise fixed again depth o ρ w1) (leave ρ))
  effect fixed again depth (t.While c b) ρ w =
      and_then (value fixed again depth c ρ w) (λ v w1. if truth_of w1.heap v
      then and_then (and_then (effects fixed again depth b ρ w1) (leave ρ)) (λ flow w2. on_flow flow w2 (λ ρ1 w3. with_turn w3 (again depth (Loop c b) ρ1)))
      else Gives (GoesOn ρ) w1)
  effect fixed again depth (t.For s c n b) ρ w =
      and_then (and_then (begin fixed again depth s ρ w) (λ flow w1. on_flow flow w1
      (run_for again depth c n b (condition fixed again depth c) (effects fixed again depth b) (begin fixed again depth n)))) (leave ρ)
  effect fixed again depth (t.ForIn k x e b) ρ w =
      and_then (value fixed again depth e ρ w) (λ v w1. and_then (copied k x depth v w1) (λ copies w2.
      run_over again depth copies (pos 1) b (λ ρ1 w3. effects fixed again depth b ρ1 w3) ρ w2))
  effect fixed again depth (t.Fun f ps b) ρ w = define f ps b ρ w
  effect fixed again depth (t.Try b x c) ρ w =
      catch (and_then (effects fixed again depth b ρ w) (leave ρ))
      (λ v w1. and_then (effects fixed again depth c (named x w1 ρ) (declare v w1)) (leave ρ))
  effect fixed again depth (t.Block b) ρ w = and_then (effects fixed again depth b ρ w) (leave ρ)

  -- a value, null where it is left out
  pub optional : Fixed → Effect → ℕ → OptionExp → Env → World → Got Val
  optional fixed again depth NoneExp ρ w = Gives Null w
  optional fixed again depth (SomeExp e) ρ w = value fixed again depth e ρ w

  pub otherwise : Fixed → Effect → ℕ → OptionStms → Env → World → Got Flow
  otherwise fixed again depth NoneStms ρ w = Gives (GoesOn ρ) w
  otherwise fixed again depth (SomeStms b) ρ w = effects fixed again depth b ρ w

  -- the start or the step of a `for`
  pub begin : Fixed → Effect → ℕ → OptionStm → Env → World → Got Flow
  begin fixed again depth NoneStm ρ w = Gives (GoesOn ρ) w
  begin fixed again depth (SomeStm s) ρ w = effect fixed again depth s ρ w

  -- whether a `for` goes on: always where it has no condition
  pub condition : Fixed → Effect → ℕ → OptionExp → Env → World → Got Val
  condition fixed again depth NoneExp ρ w = Gives (Truth true) w
  condition fixed again depth (SomeExp e) ρ w = value fixed again depth e ρ w

  -- statements in order, up to the first that returns, throws, waits or meets a limit
  pub effects : Fixed → Effect → ℕ → Stms → Env → World → Got Flow
  effects fixed again depth Done ρ w = Gives (GoesOn ρ) w
  effects fixed again depth (Then s ss) ρ w = and_then (effect fixed again depth s ρ w) (λ flow w1. on_flow flow w1 (effects fixed again depth ss))

-- falling off the end of a body gives null
abbrev pub fall : Flow → World → Got Flow
fall (GoesOn ρ) w = Gives (Returns Null) w
fall (Returns v) w = Gives (Returns v) w

abbrev pub body_effect : Fixed → Effect → ℕ → Body → Env → World → Got Flow
body_effect fixed again depth (OneExp e) ρ w = and_then (value fixed again depth e ρ w) (λ v w1. Gives (Returns v) w1)
body_effect fixed again depth (ManyStms ss) ρ w = and_then (effects fixed again depth ss ρ w) fall

-- what a task does with so many turns at most, the one that it has cost among them
abbrev pub effect_at : Fixed → ℕ → Effect
effect_at fixed zero depth task ρ w = Spends TurnsSpent w
effect_at fixed (suc n) depth (Loop c b) ρ w = effect fixed (effect_at fixed n) depth (t.While c b) ρ w
effect_at fixed (suc n) depth (LoopWithStep c s b) ρ w =
    run_for (effect_at fixed n) depth c s b (condition fixed (effect_at fixed n) depth c) (effects fixed (effect_at fixed n) depth b) (begin fixed (effect_at fixed n) depth s) ρ w
effect_at fixed (suc n) depth (LoopOver copies i b) ρ w =
    run_over (effect_at fixed n) depth copies i b (λ ρ1 w1. effects fixed (effect_at fixed n) depth b ρ1 w1) ρ w
effect_at fixed (suc n) depth (Call b) ρ w = body_effect fixed (effect_at fixed n) depth b ρ w
