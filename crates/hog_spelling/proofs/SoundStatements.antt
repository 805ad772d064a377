-- Statements that are read are spelled by the tokens before the rest.
use Rattle.std.proofs.Common.{◌≡◌, ℕ, suc, ◌≤◌, max, true, false, List, [], ◌∷◌, ◌++◌, Option, Some, None, Ok, Err, cond, refl, sym, ap, ◌∙◌, subst, append_assoc, arith, inl, inr}
use Rattle.hog_tree.specs.Plain.{Word, Exp, Int, Truth, Null, Text, Template, Name, Array, Dict, Neg, Not, Binary, Coalesce, Prop, PropNullish, Index, Call, Lambda, Stm, Let, Assign, Do, Return, Throw, If, While, For, ForIn, Fun, Try, Block, NoneExp, SomeExp}
use Rattle.hog_grammar.specs.Terminal.{Terminal}
use Rattle.hog_grammar.specs.Terminal as k
use Rattle.hog_grammar.specs.Forms.{One, Ending, Ended, goes_on, ends_block, begins_brace}
use Rattle.hog_grammar.specs.Spelling.{OfStm, StartOf, StepOf, IsTarget, bound}
use Rattle.hog_terms.specs.Marks.{after_semi, after_assign, after_name, after_function, after_catch, after_bound, is_target}
use Rattle.hog_reading.specs.Read.{Syntax, Got, got, ◌>>=◌, Readers, grown}
use Rattle.hog_reading.specs.ReadStatements.{ended, value_of, named, declared, assigned, assigning, plain, start_of, returned}
use Rattle.hog_spelling.proofs.Fronts.{is_semi, is_assign}
use Rattle.hog_spelling.proofs.Forms.{Spelled}
use Rattle.hog_spelling.proofs.Sound.{bind_ok, cond_ok, unless_ok, choice_ok, wants_ok, either_ok, from_ok, Taken, Stated, Sound}
use Rattle.hog_spelling.proofs.SoundParts.{is_name}

-- marks with more than one token

pub is_function : (ts : List Terminal) (p : Word × List Terminal) → after_function ts ≡ Some p → ts ≡ k.Word p.0 ∷ k.Open ∷ p.1
is_function (k.Word w ∷ k.Open ∷ ts) p h = let e : (w, ts) ≡ p = cc in ap (λ (q : Word × List Terminal). k.Word q.0 ∷ k.Open ∷ q.1) e
is_function (k.Word w ∷ []) p h = absurd (cc)
is_function (k.Word w ∷ _ ∷ ts) p h = absurd (cc)
is_function [] p h = absurd (cc)
is_function (_ ∷ ts) p h = absurd (cc)

pub is_catch : (ts : List Terminal) (p : Word × List Terminal) → after_catch ts ≡ Some p → ts ≡ k.Catch ∷ k.Open ∷ k.Word p.0 ∷ k.Close ∷ p.1
is_catch (k.Catch ∷ k.Open ∷ k.Word w ∷ k.Close ∷ ts) p h = let e : (w, ts) ≡ p = cc in ap (λ (q : Word × List Terminal). k.Catch ∷ k.Open ∷ k.Word q.0 ∷ k.Close ∷ q.1) e
is_catch (k.Catch ∷ k.Open ∷ k.Word w ∷ []) p h = absurd (cc)
is_catch (k.Catch ∷ k.Open ∷ k.Word w ∷ _ ∷ ts) p h = absurd (cc)
is_catch (k.Catch ∷ k.Open ∷ []) p h = absurd (cc)
is_catch (k.Catch ∷ k.Open ∷ _ ∷ ts) p h = absurd (cc)
is_catch (k.Catch ∷ []) p h = absurd (cc)
is_catch (k.Catch ∷ _ ∷ ts) p h = absurd (cc)
is_catch [] p h = absurd (cc)
is_catch (_ ∷ ts) p h = absurd (cc)

abbrev Bound : Type 0
Bound = (Option Word × Word) × List Terminal

pub is_bound : (ts : List Terminal) (p : Bound) → after_bound ts ≡ Some p → ts ≡ k.Let ∷ (bound p.0.0 p.0.1 ++ k.In ∷ p.1)
is_bound (k.Let ∷ k.Word v ∷ k.In ∷ ts) p h = let e : ((None, v), ts) ≡ p = cc in ap (λ (q : Bound). k.Let ∷ (bound q.0.0 q.0.1 ++ k.In ∷ q.1)) e
is_bound (k.Let ∷ k.Word i ∷ k.Comma ∷ k.Word v ∷ k.In ∷ ts) p h = let e : ((Some i, v), ts) ≡ p = cc in ap (λ (q : Bound). k.Let ∷ (bound q.0.0 q.0.1 ++ k.In ∷ q.1)) e
is_bound (k.Let ∷ k.Word i ∷ k.Comma ∷ k.Word v ∷ []) p h = absurd (cc)
is_bound (k.Let ∷ k.Word i ∷ k.Comma ∷ k.Word v ∷ _ ∷ ts) p h = absurd (cc)
is_bound (k.Let ∷ k.Word i ∷ k.Comma ∷ []) p h = absurd (cc)
is_bound (k.Let ∷ k.Word i ∷ k.Comma ∷ _ ∷ ts) p h = absurd (cc)
is_bound (k.Let ∷ k.Word i ∷ []) p h = absurd (cc)
is_bound (k.Let ∷ k.Word i ∷ _ ∷ ts) p h = absurd (cc)
is_bound (k.Let ∷ []) p h = absurd (cc)
is_bound (k.Let ∷ _ ∷ ts) p h = absurd (cc)
is_bound [] p h = absurd (cc)
is_bound (_ ∷ ts) p h = absurd (cc)

-- what ends with `;`

record Closed (g x : Got Stm) : Type 0 where
  ending : List Terminal
  tokens : g.rest ≡ ending ++ x.rest
  ends : Ending ending x.rest
  same : got g.tree g.height x.rest ≡ x

ended_sound : (g x : Got Stm) → ended g ≡ Ok x → Closed g x
ended_sound g x is = elim (either_ok (after_semi g.rest) (λ us. Ok (got g.tree g.height us)) (cond (goes_on g.rest) (Err Syntax) (Ok g)) x is) [
  | inl y ↦ (let it : Closed g (got g.tree g.height y.0) = record { ending = k.Semi ∷ []; tokens = is_semi g.rest y.0 y.1; ends = inl refl; same = refl } in subst (λ (z : Got Stm). Closed g z) (from_ok _ _ y.2) it)
  | inr y ↦ (let z = cond_ok (goes_on g.rest) Syntax (Ok g) x y.1 in
      let it : Closed g g = record { ending = []; tokens = refl; ends = inr (refl, z.0); same = refl } in subst (λ (z : Got Stm). Closed g z) (from_ok _ _ z.1) it)
]

-- a statement with its end
ended_stm : (d : ℕ) (ts front : List Terminal) (g x : Got Stm) → ended g ≡ Ok x → ts ≡ front ++ g.rest → g.height ≤ d
    → ((ending rest : List Terminal) → Ending ending rest → OfStm g.tree (front ++ ending) rest g.height) → Stated OfStm d ts x
ended_stm d ts front g x is tokens low spelled =
    let c = ended_sound g x is in
    let it : Stated OfStm d ts (got g.tree g.height x.rest) = record {
      front = front ++ c.ending;
      tokens = tokens ∙ ap (λ z. front ++ z) c.tokens ∙ sym (append_assoc front c.ending x.rest);
      spells = spelled c.ending x.rest c.ends;
      low = low;
    } in
    subst (λ (z : Got Stm). Stated OfStm d ts z) c.same it

plain_ended : (s : Stm) (front ending rest : List Terminal) (h : ℕ) → StartOf s front h → begins_brace front ≡ false → Ending ending rest → OfStm s (front ++ ending) rest h
plain_ended (Let x v) front ending rest h b no_brace ends = record { inner = front; ending = ending; part = b; ends = ends; tokens = refl }
plain_ended (Assign t e) front ending rest h b no_brace ends = record { inner = front; ending = ending; part = record { part = b; no_brace = no_brace }; ends = ends; tokens = refl }
plain_ended (Do e) front ending rest h b no_brace ends = record { inner = front; ending = ending; part = record { part = b; no_brace = no_brace }; ends = ends; tokens = refl }
plain_ended (Return v) front ending rest h b no_brace ends = absurd b
plain_ended (Throw e) front ending rest h b no_brace ends = absurd b
plain_ended (If c s o) front ending rest h b no_brace ends = absurd b
plain_ended (While c s) front ending rest h b no_brace ends = absurd b
plain_ended (For i c n s) front ending rest h b no_brace ends = absurd b
plain_ended (ForIn i v e s) front ending rest h b no_brace ends = absurd b
plain_ended (Fun f ws s) front ending rest h b no_brace ends = absurd b
plain_ended (Try s w c) front ending rest h b no_brace ends = absurd b
plain_ended (Block s) front ending rest h b no_brace ends = absurd b

step_start : (s : Stm) (ts : List Terminal) (h : ℕ) → StepOf s ts h → StartOf s ts h
step_start (Let x v) ts h b = absurd b
step_start (Assign t e) ts h b = b
step_start (Do e) ts h b = b
step_start (Return v) ts h b = absurd b
step_start (Throw e) ts h b = absurd b
step_start (If c s o) ts h b = absurd b
step_start (While c s) ts h b = absurd b
step_start (For i c n s) ts h b = absurd b
step_start (ForIn i v e s) ts h b = absurd b
step_start (Fun f ws s) ts h b = absurd b
step_start (Try s w c) ts h b = absurd b
step_start (Block s) ts h b = absurd b

is_a_target : (t : Exp) → is_target t ≡ true → IsTarget t
is_a_target (Name w) i = tt
is_a_target (Prop e w) i = tt
is_a_target (Index e j) i = tt
is_a_target (Int n) i = absurd (cc)
is_a_target (Truth b) i = absurd (cc)
is_a_target Null i = absurd (cc)
is_a_target (Text bs) i = absurd (cc)
is_a_target (Template ps) i = absurd (cc)
is_a_target (Array es) i = absurd (cc)
is_a_target (Dict ds) i = absurd (cc)
is_a_target (Neg e) i = absurd (cc)
is_a_target (Not e) i = absurd (cc)
is_a_target (Binary op a b) i = absurd (cc)
is_a_target (Coalesce a b) i = absurd (cc)
is_a_target (PropNullish e w) i = absurd (cc)
is_a_target (Call f es) i = absurd (cc)
is_a_target (Lambda ws b) i = absurd (cc)

pub plain_sound : (d : ℕ) (again : Readers) → Sound d again → (ts : List Terminal) (g : Got Stm) → plain again ts ≡ Ok g → Taken StepOf (suc d) ts g
unfolding plain
plain_sound d again sound ts g is =
    let t = bind_ok (again.expression 1 ts) (assigning again) g is in
    let a = sound.expression 1 ts t.0 (omega arith) t.1 in
    elim (either_ok (after_assign t.0.rest) (λ us. cond (is_target t.0.tree) (again.expression 1 us >>= assigned t.0) (Err Syntax)) (Ok (got (Do t.0.tree) (suc t.0.height) t.0.rest)) g t.2) [
      | inl x ↦ (let c = unless_ok (is_target t.0.tree) Syntax (again.expression 1 x.0 >>= assigned t.0) g x.2 in
          let v = bind_ok (again.expression 1 x.0) (assigned t.0) g c.1 in
          let b = sound.expression 1 x.0 v.0 (omega arith) v.1 in
          let it : Taken StepOf (suc d) ts (got (Assign t.0.tree v.0.tree) (suc (max t.0.height v.0.height)) v.0.rest) = record {
            front = a.front ++ k.Assign ∷ b.front;
            tokens = a.tokens ∙ ap (λ z. a.front ++ z) (is_assign t.0.rest x.0 x.1 ∙ ap (λ z. k.Assign ∷ z) b.tokens) ∙ sym (append_assoc a.front (k.Assign ∷ b.front) v.0.rest);
            spells = (is_a_target t.0.tree c.0, record { left = a.front; right = b.front; low = t.0.height; other = v.0.height; first = a.spells; second = b.spells; tokens = refl; height = omega arith });
            low = (let l = a.low in let m = b.low in omega (arith, l, m));
          } in
          subst (λ (z : Got Stm). Taken StepOf (suc d) ts z) (from_ok _ _ v.2) it)
      | inr x ↦ (let it : Taken StepOf (suc d) ts (got (Do t.0.tree) (suc t.0.height) t.0.rest) = record {
        front = a.front;
        tokens = a.tokens;
        spells = record { inner = a.front; low = t.0.height; part = a.spells; tokens = refl; height = omega arith };
        low = (let l = a.low in omega (arith, l));
      } in
          subst (λ (z : Got Stm). Taken StepOf (suc d) ts z) (from_ok _ _ x.1) it)
    ]

declared_sound : (d : ℕ) (again : Readers) → Sound d again → (ts : List Terminal) (g : Got Stm) → declared again ts ≡ Ok g → Taken StartOf (suc d) (k.Let ∷ ts) g
declared_sound d again sound ts g is =
    let n = wants_ok (after_name ts) (named again) g is in
    let x = n.0.0 in
    let at = is_name ts n.0 n.1 in
    elim (either_ok (after_assign n.0.1) (value_of again x) (Ok (got (Let x NoneExp) 1 n.0.1)) g n.2) [
      | inl a ↦ (let e = bind_ok (again.expression 1 a.0) (grown (λ e. Let x (SomeExp e))) g a.2 in
          let b = sound.expression 1 a.0 e.0 (omega arith) e.1 in
          let it : Taken StartOf (suc d) (k.Let ∷ ts) (got (Let x (SomeExp e.0.tree)) (suc e.0.height) e.0.rest) = record {
            front = k.Let ∷ k.Word x ∷ k.Assign ∷ b.front;
            tokens = ap (λ z. k.Let ∷ z) (at ∙ ap (λ z. k.Word x ∷ z) (is_assign n.0.1 a.0 a.1 ∙ ap (λ z. k.Assign ∷ z) b.tokens));
            spells = record { inner = b.front; low = e.0.height; part = b.spells; tokens = refl; height = omega arith };
            low = (let l = b.low in omega (arith, l));
          } in
          subst (λ (z : Got Stm). Taken StartOf (suc d) (k.Let ∷ ts) z) (from_ok _ _ e.2) it)
      | inr a ↦ (let it : Taken StartOf (suc d) (k.Let ∷ ts) (got (Let x NoneExp) 1 n.0.1) = record { front = k.Let ∷ k.Word x ∷ []; tokens = ap (λ z. k.Let ∷ z) at; spells = record { tokens = refl; height = refl }; low = omega arith } in
          subst (λ (z : Got Stm). Taken StartOf (suc d) (k.Let ∷ ts) z) (from_ok _ _ a.1) it)
    ]

pub start_sound : (d : ℕ) (again : Readers) → Sound d again → (ts : List Terminal) (g : Got Stm) → start_of again ts ≡ Ok g → Taken StartOf (suc d) ts g
unfolding start_of
start_sound d again sound (k.Let ∷ ts) g is = declared_sound d again sound ts g is
start_sound d again sound [] g is = let t = plain_sound d again sound [] g is in record { front = t.front; tokens = t.tokens; spells = step_start g.tree t.front g.height t.spells; low = t.low }
start_sound d again sound (t ∷ ts) g is = let x = plain_sound d again sound (t ∷ ts) g is in record { front = x.front; tokens = x.tokens; spells = step_start g.tree x.front g.height x.spells; low = x.low }

front_no_brace : (front rest ts : List Terminal) → ts ≡ front ++ rest → begins_brace ts ≡ false → begins_brace front ≡ false
front_no_brace [] rest ts is none = refl
front_no_brace (k.OpenBrace ∷ front) rest ts is none = sym (ap begins_brace is) ∙ none
front_no_brace (_ ∷ front) rest ts is none = refl

pub plain_stated : (d : ℕ) (again : Readers) → Sound d again → (ts : List Terminal) (g : Got Stm) → begins_brace ts ≡ false → (plain again ts >>= ended) ≡ Ok g → Stated OfStm (suc d) ts g
plain_stated d again sound ts g none is =
    let x = bind_ok (plain again ts) ended g is in
    let t = plain_sound d again sound ts x.0 x.1 in
    let free = front_no_brace t.front x.0.rest ts t.tokens none in
    ended_stm (suc d) ts t.front x.0 g x.2 t.tokens t.low (λ ending rest ends. plain_ended x.0.tree t.front ending rest x.0.height (step_start x.0.tree t.front x.0.height t.spells) free ends)

pub let_stated : (d : ℕ) (again : Readers) → Sound d again → (ts : List Terminal) (g : Got Stm) → (declared again ts >>= ended) ≡ Ok g → Stated OfStm (suc d) (k.Let ∷ ts) g
let_stated d again sound ts g is =
    let x = bind_ok (declared again ts) ended g is in
    let t = declared_sound d again sound ts x.0 x.1 in
    let free = front_no_brace t.front x.0.rest (k.Let ∷ ts) t.tokens refl in
    ended_stm (suc d) (k.Let ∷ ts) t.front x.0 g x.2 t.tokens t.low (λ ending rest ends. plain_ended x.0.tree t.front ending rest x.0.height t.spells free ends)

-- `throw e` and `return e`
pub prefix_stated : (d : ℕ) (again : Readers) → Sound d again → (front : Terminal) (make : Exp → Stm) (ts : List Terminal) (g : Got Stm)
    → ((e : Exp) (xs rest : List Terminal) (h : ℕ) → Ended (One (Spelled e 1) (λ us. front ∷ us) 1) xs rest h → OfStm (make e) xs rest h)
    → (again.expression 1 ts >>= grown make >>= ended) ≡ Ok g → Stated OfStm (suc d) (front ∷ ts) g
prefix_stated d again sound front make ts g spelled is =
    let x = bind_ok (again.expression 1 ts >>= grown make) ended g is in
    let e = bind_ok (again.expression 1 ts) (grown make) x.0 x.1 in
    let t = sound.expression 1 ts e.0 (omega arith) e.1 in
    let same : got (make e.0.tree) (suc e.0.height) e.0.rest ≡ x.0 = from_ok _ _ e.2 in
    ended_stm (suc d) (front ∷ ts) (front ∷ t.front) (got (make e.0.tree) (suc e.0.height) e.0.rest) g (ap ended same ∙ x.2) (ap (λ z. front ∷ z) t.tokens) (let l = t.low in omega (arith, l))
    (λ ending rest ends. spelled e.0.tree _ rest _ (record { inner = front ∷ t.front; ending = ending; part = record { inner = t.front; low = e.0.height; part = t.spells; tokens = refl; height = omega arith }; ends = ends; tokens = refl }))

pub return_stated : (d : ℕ) (again : Readers) → Sound d again → (ts : List Terminal) (g : Got Stm) → returned again ts ≡ Ok g → Stated OfStm (suc d) (k.Return ∷ ts) g
return_stated d again sound ts g is =
    let value = again.expression 1 ts >>= grown (λ e. Return (SomeExp e)) >>= ended in
    elim (either_ok (after_semi ts) (λ us. Ok (got (Return NoneExp) 1 us)) (cond (ends_block ts) (Ok (got (Return NoneExp) 1 ts)) value) g is) [
      | inl x ↦ (let it : Stated OfStm (suc d) (k.Return ∷ ts) (got (Return NoneExp) 1 x.0) = record { front = k.Return ∷ k.Semi ∷ []; tokens = ap (λ z. k.Return ∷ z) (is_semi ts x.0 x.1); spells = inl (record { tokens = refl; height = refl }); low = omega arith } in
          subst (λ (z : Got Stm). Stated OfStm (suc d) (k.Return ∷ ts) z) (from_ok _ _ x.2) it)
      | inr x ↦ elim (choice_ok (ends_block ts) (Ok (got (Return NoneExp) 1 ts)) value g x.1) [
        | inl y ↦ (let it : Stated OfStm (suc d) (k.Return ∷ ts) (got (Return NoneExp) 1 ts) = record { front = k.Return ∷ []; tokens = refl; spells = inr (y.0, record { tokens = refl; height = refl }); low = omega arith } in
            subst (λ (z : Got Stm). Stated OfStm (suc d) (k.Return ∷ ts) z) (from_ok _ _ y.1) it)
        | inr y ↦ prefix_stated d again sound k.Return (λ e. Return (SomeExp e)) ts g (λ e xs rest h b. b) y.1
      ]
    ]
