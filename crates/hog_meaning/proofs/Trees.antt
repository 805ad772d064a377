-- Expressions and statements with more replies, where what costs a turn keeps it.
use Rattle.std.proofs.Common.{ℕ, ℤ, pos, ◌+ℤ◌, List, Option, Some, None, refl}
use Rattle.std.specs.Prelude.{int_le}
use Rattle.hog_value.specs.declared.native.Native.TheVariants.{Concat}
use Rattle.hog_value.specs.declared.value.Value.TheVariants.{Int}
use Rattle.hog_value.specs.Values.{Val}
use Rattle.hog_value.specs.Cells.{Array, Fun}
use Rattle.hog_value.specs.Operations.{made, truth_of, key_of}
use Rattle.hog_tree.specs.Plain as t
use Rattle.hog_tree.specs.Plain.{Word, Exp, Exps, NoExp, MoreExp, Parts, NoPart, MoreText, MoreHole, Pairs, NoPair, MorePair, Body, OneExp, ManyStms, Stm, Stms, Done, Then, OptionExp, NoneExp, SomeExp, OptionStm, NoneStm, SomeStm, OptionStms, NoneStms, SomeStms}
use Rattle.hog_meaning.specs.Operators.{operated, is_left_first, negated, accessed, property_of, nullish_property_of, assigned, property_assigned, dictionary_made}
use Rattle.hog_meaning.specs.Meaning.{Effect, Copies, Loop, LoopWithStep, LoopOver, read_word, called_with, bind_key, bind_item, run_over, run_for, is_null, assign_word, value, values, parts, pairs, effect, optional, otherwise, begin, condition, effects, body_effect}
use Rattle.hog_meaning.specs.World.{Env, Reply, World, Fixed, Got, Gives, Flow, GoesOn, find_var, named, declare}
use Rattle.hog_meaning.proofs.Going.{longer, Goes, stays, then_goes, catch_goes, if_goes, flow_goes, leave_goes, fall_goes, turn_goes, result_goes, outcome_goes}
use Rattle.hog_meaning.proofs.Calls.{Good, call_native_goes, copied_goes, named_goes, callee_goes}

-- what a word reads
read_goes : {rs : List Reply} (fixed : Fixed) (o : Option ℕ) (word : Word) (w : World) → Goes rs w.trace (read_word fixed o word w) (read_word fixed o word (longer rs w))
read_goes fixed (Some x) word w = stays refl refl
read_goes fixed None word w = result_goes (key_of w.heap fixed.globals word) w

assign_goes : {rs : List Reply} (o : Option ℕ) (v : Val) (ρ : Env) (w : World) → Goes rs w.trace (Gives (GoesOn ρ) (assign_word o v w)) (Gives (GoesOn ρ) (assign_word o v (longer rs w)))
assign_goes None v ρ w = stays refl refl
assign_goes (Some x) v ρ w = stays refl refl

-- the new variables of a turn
key_goes : {rs : List Reply} (k : Option Word) (keys : Val) (i : ℤ) (ρ : Env) (w : World) → Goes rs w.trace (bind_key k keys i ρ w) (bind_key k keys i ρ (longer rs w))
key_goes None keys i ρ w = stays refl refl
key_goes (Some k) keys i ρ w = then_goes (result_goes (accessed w.heap keys (Int i)) w) (λ v w1. stays refl refl)

item_goes : {rs : List Reply} (copies : Copies) (i : ℤ) (ρ : Env) (w : World) → Goes rs w.trace (bind_item copies i ρ w) (bind_item copies i ρ (longer rs w))
item_goes copies i ρ w =
    then_goes (key_goes copies.key copies.keys i ρ w) (λ flow w1. flow_goes flow w1 _
    (λ ρ1. then_goes (result_goes (accessed w1.heap copies.values (Int i)) w1) (λ v w3. stays refl refl)))

module _ (rs : List Reply) (again : Effect) (ih : Good rs again) where
  called_goes : (depth : ℕ) (f : Exp) (ρ : Env) (callee : World → Got Val) (vs : List Val) (w : World) → Goes rs w.trace (callee w) (callee (longer rs w)) → Goes rs w.trace (called_with again depth f ρ callee vs w) (called_with again depth f ρ callee vs (longer rs w))
  called_goes depth (t.Name x) ρ callee vs w g = named_goes rs again ih depth (find_var ρ x) x vs w
  called_goes depth f ρ callee vs w g = callee_goes rs again ih depth callee vs w g

  pub over_goes : (depth : ℕ) (copies : Copies) (i : ℤ) (body : Stms) (block : Env → World → Got Flow) → ((ρ : Env) (w : World) → Goes rs w.trace (block ρ w) (block ρ (longer rs w))) → (ρ : Env) (w : World) → Goes rs w.trace (run_over again depth copies i body block ρ w) (run_over again depth copies i body block ρ (longer rs w))
  over_goes depth copies i body block k ρ w =
      if_goes (int_le i copies.size) _ _ _ _
      (then_goes (then_goes (then_goes (item_goes copies i ρ w) (λ flow w1. flow_goes flow w1 block (λ ρ1. k ρ1 w1))) (leave_goes ρ))
      (λ flow w2. flow_goes flow w2 _ (λ ρ1. turn_goes w2 (again depth (LoopOver copies (i +ℤ pos 1) body) ρ1) (ih.goes depth (LoopOver copies (i +ℤ pos 1) body) ρ1))))
      (stays refl refl)

  pub for_goes : (depth : ℕ) (c : OptionExp) (n : OptionStm) (b : Stms) (test : Env → World → Got Val) (block step : Env → World → Got Flow) → ((ρ : Env) (w : World) → Goes rs w.trace (test ρ w) (test ρ (longer rs w))) → ((ρ : Env) (w : World) → Goes rs w.trace (block ρ w) (block ρ (longer rs w))) → ((ρ : Env) (w : World) → Goes rs w.trace (step ρ w) (step ρ (longer rs w))) → (ρ : Env) (w : World) → Goes rs w.trace (run_for again depth c n b test block step ρ w) (run_for again depth c n b test block step ρ (longer rs w))
  for_goes depth c n b test block step tests blocks steps ρ w =
      then_goes (tests ρ w) (λ v w1. if_goes (truth_of w1.heap v) _ _ _ _
      (then_goes (then_goes (blocks ρ w1) (leave_goes ρ)) (λ flow w2. flow_goes flow w2 _ (λ ρ1.
      then_goes (then_goes (steps ρ1 w2) (leave_goes ρ1)) (λ flow1 w4. flow_goes flow1 w4 _ (λ ρ2. turn_goes w4 (again depth (LoopWithStep c n b) ρ2) (ih.goes depth (LoopWithStep c n b) ρ2))))))
      (stays refl refl))

module _ (rs : List Reply) (fixed : Fixed) (again : Effect) (ih : Good rs again) where
  mutual
    value_goes : (depth : ℕ) (e : Exp) (ρ : Env) (w : World) → Goes rs w.trace (value fixed again depth e ρ w) (value fixed again depth e ρ (longer rs w))
    value_goes depth (t.Int n) ρ w = stays refl refl
    value_goes depth (t.Truth b) ρ w = stays refl refl
    value_goes depth t.Null ρ w = stays refl refl
    value_goes depth (t.Text text) ρ w = stays refl refl
    value_goes depth (t.Template ps) ρ w = then_goes (parts_goes depth ps ρ w) (call_native_goes depth Concat)
    value_goes depth (t.Name x) ρ w = read_goes fixed (find_var ρ x) x w
    value_goes depth (t.Array es) ρ w = then_goes (values_goes depth es ρ w) (λ vs w1. outcome_goes (made (Array vs) w1.heap w1.units) w1)
    value_goes depth (t.Dict ds) ρ w = then_goes (pairs_goes depth ds ρ w) (λ kvs w1. outcome_goes (dictionary_made kvs w1.heap w1.units) w1)
    value_goes depth (t.Neg e) ρ w = then_goes (value_goes depth e ρ w) (λ v w1. result_goes (negated v) w1)
    value_goes depth (t.Not e) ρ w = then_goes (value_goes depth e ρ w) (λ v w1. stays refl refl)
    value_goes depth (t.Binary op a b) ρ w =
        if_goes (is_left_first op) _ _ _ _
        (then_goes (value_goes depth a ρ w) (λ x w1. then_goes (value_goes depth b ρ w1) (λ y w2. result_goes (operated op w2.heap x y) w2)))
        (then_goes (value_goes depth b ρ w) (λ y w1. then_goes (value_goes depth a ρ w1) (λ x w2. result_goes (operated op w2.heap x y) w2)))
    value_goes depth (t.Coalesce a b) ρ w = then_goes (value_goes depth a ρ w) (λ v w1. if_goes (is_null v) _ _ _ _ (value_goes depth b ρ w1) (stays refl refl))
    value_goes depth (t.Prop e x) ρ w = then_goes (value_goes depth e ρ w) (λ v w1. result_goes (property_of w1.heap v x) w1)
    value_goes depth (t.PropNullish e x) ρ w = then_goes (value_goes depth e ρ w) (λ v w1. result_goes (nullish_property_of w1.heap v x) w1)
    value_goes depth (t.Index e k) ρ w = then_goes (value_goes depth e ρ w) (λ base w1. then_goes (value_goes depth k ρ w1) (λ key w2. result_goes (accessed w2.heap base key) w2))
    value_goes depth (t.Call f es) ρ w = then_goes (values_goes depth es ρ w) (λ vs w1. called_goes rs again ih depth f ρ (value fixed again depth f ρ) vs w1 (value_goes depth f ρ w1))
    value_goes depth (t.Lambda ps b) ρ w = outcome_goes (made (Fun (record { params = ps; body = b; env = ρ })) w.heap w.units) w

    values_goes : (depth : ℕ) (es : Exps) (ρ : Env) (w : World) → Goes rs w.trace (values fixed again depth es ρ w) (values fixed again depth es ρ (longer rs w))
    values_goes depth NoExp ρ w = stays refl refl
    values_goes depth (MoreExp e es) ρ w = then_goes (value_goes depth e ρ w) (λ v w1. then_goes (values_goes depth es ρ w1) (λ vs w2. stays refl refl))

    parts_goes : (depth : ℕ) (ps : Parts) (ρ : Env) (w : World) → Goes rs w.trace (parts fixed again depth ps ρ w) (parts fixed again depth ps ρ (longer rs w))
    parts_goes depth NoPart ρ w = stays refl refl
    parts_goes depth (MoreText text ps) ρ w = then_goes (parts_goes depth ps ρ w) (λ vs w1. stays refl refl)
    parts_goes depth (MoreHole e ps) ρ w = then_goes (value_goes depth e ρ w) (λ v w1. then_goes (parts_goes depth ps ρ w1) (λ vs w2. stays refl refl))

    pairs_goes : (depth : ℕ) (ds : Pairs) (ρ : Env) (w : World) → Goes rs w.trace (pairs fixed again depth ds ρ w) (pairs fixed again depth ds ρ (longer rs w))
    pairs_goes depth NoPair ρ w = stays refl refl
    pairs_goes depth (MorePair k e ds) ρ w = then_goes (value_goes depth k ρ w) (λ key w1. then_goes (value_goes depth e ρ w1) (λ v w2. then_goes (pairs_goes depth ds ρ w2) (λ kvs w3. stays refl refl)))

    pub effect_goes : (depth : ℕ) (s : Stm) (ρ : Env) (w : World) → Goes rs w.trace (effect fixed again depth s ρ w) (effect fixed again depth s ρ (longer rs w))
    effect_goes depth (t.Let x e) ρ w = then_goes (optional_goes depth e ρ w) (λ v w1. stays refl refl)
    effect_goes depth (t.Assign (t.Name x) e) ρ w = then_goes (value_goes depth e ρ w) (λ v w1. assign_goes (find_var ρ x) v ρ w1)
    effect_goes depth (t.Assign (t.Prop base x) e) ρ w =
        then_goes (value_goes depth base ρ w) (λ b w1. then_goes (value_goes depth e ρ w1) (λ v w2.
        then_goes (outcome_goes (property_assigned w2.heap b x v w2.units) w2) (λ u w4. stays refl refl)))
    effect_goes depth (t.Assign (t.Index base key) e) ρ w =
        then_goes (value_goes depth base ρ w) (λ b w1. then_goes (value_goes depth key ρ w1) (λ k w2. then_goes (value_goes depth e ρ w2) (λ v w3.
        then_goes (outcome_goes (assigned w3.heap b k v w3.units) w3) (λ u w4. stays refl refl))))
    effect_goes depth (t.Assign target e) ρ w = then_goes (value_goes depth target ρ w) (λ b w1. then_goes {go = λ v w2. Gives (GoesOn ρ) w2} (value_goes depth e ρ w1) (λ v w2. stays refl refl))
    effect_goes depth (t.Do e) ρ w = then_goes (value_goes depth e ρ w) (λ v w1. stays refl refl)
    effect_goes depth (t.Return e) ρ w = then_goes (optional_goes depth e ρ w) (λ v w1. stays refl refl)
    effect_goes depth (t.Throw e) ρ w = then_goes (value_goes depth e ρ w) (λ v w1. stays refl refl)
    effect_goes depth (t.If c b o) ρ w =
        then_goes (value_goes depth c ρ w) (λ v w1.
        then_goes (if_goes (truth_of w1.heap v) _ _ _ _ (effects_goes depth b ρ w1) (otherwise_goes depth o ρ w1)) (leave_goes ρ))
    effect_goes depth (t.While c b) ρ w =
        then_goes (value_goes depth c ρ w) (λ v w1. if_goes (truth_of w1.heap v) _ _ _ _
        (then_goes (then_goes (effects_goes depth b ρ w1) (leave_goes ρ)) (λ flow w2. flow_goes flow w2 _ (λ ρ1. turn_goes w2 (again depth (Loop c b) ρ1) (ih.goes depth (Loop c b) ρ1))))
        (stays refl refl))
    effect_goes depth (t.For s c n b) ρ w =
        then_goes (then_goes (begin_goes depth s ρ w) (λ flow w1. flow_goes flow w1 _ (λ ρ1.
        for_goes rs again ih depth c n b (condition fixed again depth c) (effects fixed again depth b) (begin fixed again depth n) (condition_goes depth c) (effects_goes depth b) (begin_goes depth n) ρ1 w1))) (leave_goes ρ)
    effect_goes depth (t.ForIn k x e b) ρ w =
        then_goes (value_goes depth e ρ w) (λ v w1. then_goes (copied_goes k x depth v w1) (λ copies w2.
        over_goes rs again ih depth copies (pos 1) b (λ ρ1 w3. effects fixed again depth b ρ1 w3) (λ ρ1 w3. effects_goes depth b ρ1 w3) ρ w2))
    effect_goes depth (t.Fun f ps b) ρ w =
        then_goes (outcome_goes (made (Fun (record { params = ps; body = ManyStms b; env = named f w ρ })) w.heap w.units) w) (λ v w1. stays refl refl)
    effect_goes depth (t.Try b x c) ρ w =
        catch_goes _ _ _ (then_goes (effects_goes depth b ρ w) (leave_goes ρ))
        (λ v w1. then_goes (effects_goes depth c (named x w1 ρ) (declare v w1)) (leave_goes ρ))
    effect_goes depth (t.Block b) ρ w = then_goes (effects_goes depth b ρ w) (leave_goes ρ)

    optional_goes : (depth : ℕ) (e : OptionExp) (ρ : Env) (w : World) → Goes rs w.trace (optional fixed again depth e ρ w) (optional fixed again depth e ρ (longer rs w))
    optional_goes depth NoneExp ρ w = stays refl refl
    optional_goes depth (SomeExp e) ρ w = value_goes depth e ρ w

    otherwise_goes : (depth : ℕ) (o : OptionStms) (ρ : Env) (w : World) → Goes rs w.trace (otherwise fixed again depth o ρ w) (otherwise fixed again depth o ρ (longer rs w))
    otherwise_goes depth NoneStms ρ w = stays refl refl
    otherwise_goes depth (SomeStms b) ρ w = effects_goes depth b ρ w

    pub begin_goes : (depth : ℕ) (s : OptionStm) (ρ : Env) (w : World) → Goes rs w.trace (begin fixed again depth s ρ w) (begin fixed again depth s ρ (longer rs w))
    begin_goes depth NoneStm ρ w = stays refl refl
    begin_goes depth (SomeStm s) ρ w = effect_goes depth s ρ w

    pub condition_goes : (depth : ℕ) (c : OptionExp) (ρ : Env) (w : World) → Goes rs w.trace (condition fixed again depth c ρ w) (condition fixed again depth c ρ (longer rs w))
    condition_goes depth NoneExp ρ w = stays refl refl
    condition_goes depth (SomeExp e) ρ w = value_goes depth e ρ w

    pub effects_goes : (depth : ℕ) (ss : Stms) (ρ : Env) (w : World) → Goes rs w.trace (effects fixed again depth ss ρ w) (effects fixed again depth ss ρ (longer rs w))
    effects_goes depth Done ρ w = stays refl refl
    effects_goes depth (Then s ss) ρ w = then_goes (effect_goes depth s ρ w) (λ flow w1. flow_goes flow w1 _ (λ ρ1. effects_goes depth ss ρ1 w1))

  pub task_body_goes : (depth : ℕ) (b : Body) (ρ : Env) (w : World) → Goes rs w.trace (body_effect fixed again depth b ρ w) (body_effect fixed again depth b ρ (longer rs w))
  task_body_goes depth (OneExp e) ρ w = then_goes (value_goes depth e ρ w) (λ v w1. stays refl refl)
  task_body_goes depth (ManyStms ss) ρ w = then_goes (effects_goes depth ss ρ w) fall_goes
