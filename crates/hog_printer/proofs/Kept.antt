-- What a program keeps whose tokens are those of a text.
use Rattle.std.proofs.Common.{◌≡◌, List, [], ◌∷◌, ◌++◌, Bool, true, false, ℕ, zero, suc, pos, negsuc, Option, Some, None, subst, inl, inr}
use Rattle.hog_tree.specs.Plain.{Word, Exp, Int, Truth, Null, Text, Template, Name, Array, Dict, Neg, Not, Binary, Coalesce, Prop, PropNullish, Index, Call, Lambda, Exps, NoExp, MoreExp, Parts, NoPart, MoreText, MoreHole, Pairs, NoPair, MorePair, Body, OneExp, ManyStms, Stm, Let, Assign, Do, Return, Throw, If, While, For, ForIn, Fun, Try, Block, Stms, Done, Then, OptionExp, NoneExp, SomeExp, OptionStm, NoneStm, SomeStm, OptionStms, NoneStms, SomeStms}
use Rattle.hog_grammar.specs.Terminal.{Terminal}
use Rattle.hog_grammar.specs.Terminal as k
use Rattle.hog_grammar.specs.Forms.{Phrase, Statement, At, Leaf, Listing, Others, Braced, Governed, enclosed, semis}
use Rattle.hog_grammar.specs.Spelling.{level, level_of, tokens_of, IsTarget, Assigned, Bare, items, entries, names, Alone, bound, Parameters, OfParts, OfBody, OfStm, OfStms, OnlyOne, OfElse, Declared, Returned, Condition, Start, Step}
use Rattle.hog_printer.proofs.Fit.{IsFree, AreFree, MayBeFree, NoText, MayStart, MayStep, FitExp, FitExps, FitParts, FitPairs, FitBody, FitOption, FitStm, FitClause, FitElse, FitStms}
use Rattle.hog_printer.proofs.Meant.{AreMeant, begins_characters, front, back, word_is}

enclosed_meant : (n : ℕ) (inner : List Terminal) → AreMeant (enclosed n inner) → AreMeant inner
enclosed_meant zero inner m = m
enclosed_meant (suc n) inner m = enclosed_meant n inner (front (enclosed n inner) (k.Close ∷ []) m.2)

semis_meant : (n : ℕ) (ts : List Terminal) → AreMeant (semis n ts) → AreMeant ts
semis_meant zero ts m = m
semis_meant (suc n) ts m = semis_meant n ts m.2

-- from tokens that spell a phrase
abbrev Keeps : Phrase → Type 0 → Type 0
Keeps P F = (ts : List Terminal) (h : ℕ) → P ts h → AreMeant ts → F

abbrev KeepsStm : Statement → Type 0 → Type 0
KeepsStm P F = (ts rest : List Terminal) (h : ℕ) → P ts rest h → AreMeant ts → F

at_kept : (e : Exp) (least : ℕ) → Keeps (Bare e) (FitExp e) → Keeps (At (Bare e) (level e) least) (FitExp e)
at_kept e least bare ts h a m = bare a.inner a.low a.bare (enclosed_meant a.pairs a.inner (subst AreMeant a.tokens m))

free_leaf : (w : Word) (h : ℕ) → Keeps (Leaf (k.Word w ∷ []) h) (IsFree w)
free_leaf w n ts h l m = (subst AreMeant l.tokens m).0

more_names_kept : (ws : List Word) → Keeps (Others false k.Close (names ws)) (AreFree ws)
more_names_kept [] ts h o m = tt
more_names_kept (w ∷ ws) ts h o m =
    let all = (subst AreMeant o.tokens m).2 in
    (free_leaf w 0 o.left o.low o.first (front o.left o.right all), more_names_kept ws o.right o.other o.second (back o.left o.right all))

names_kept : (ws : List Word) → Keeps (Listing false k.Close (names ws)) (AreFree ws)
names_kept [] ts h o m = tt
names_kept (w ∷ ws) ts h o m =
    let all = subst AreMeant o.tokens m in
    (free_leaf w 0 o.left o.low o.first (front o.left o.right all), more_names_kept ws o.right o.other o.second (back o.left o.right all))

alone_kept : (ws : List Word) → Keeps (Alone ws) (AreFree ws)
alone_kept [] ts h a m = absurd a
alone_kept (w ∷ []) ts h a m = (free_leaf w 0 ts h a m, tt)
alone_kept (w ∷ v ∷ ws) ts h a m = absurd a

parameters_kept : (ws : List Word) → Keeps (Parameters ws) (AreFree ws)
parameters_kept ws ts h (inl a) m = alone_kept ws ts h a m
parameters_kept ws ts h (inr o) m = names_kept ws o.inner o.low o.part (subst AreMeant o.tokens m).2

bound_kept : (i : Option Word) (v : Word) → AreMeant (bound i v) → MayBeFree i × IsFree v
bound_kept None v m = (tt, m.0)
bound_kept (Some i) v m = (m.0, m.2.2.0)

-- statements in braces, and what is governed
braced_kept : (ss : Stms) (more : ℕ) → KeepsStm (OfStms ss) (FitStms ss) → KeepsStm (Braced (OfStms ss) more) (FitStms ss)
braced_kept ss more all ts rest h b m = all b.inner (k.CloseBrace ∷ rest) b.low b.part (front b.inner (k.CloseBrace ∷ []) (subst AreMeant b.tokens m).2)

governed_kept : (ss : Stms) → KeepsStm (OfStms ss) (FitStms ss) → KeepsStm (OnlyOne ss) (FitStms ss) → KeepsStm (Governed (OfStms ss) (OnlyOne ss)) (FitStms ss)
governed_kept ss all only ts rest h (inl b) m = braced_kept ss 0 all ts rest h b m
governed_kept ss all only ts rest h (inr o) m = only ts rest h o m

no_text : (ps : Parts) (ts : List Terminal) (h : ℕ) → OfParts ps ts h → begins_characters ts ≡ false → NoText ps
no_text NoPart ts h o free = tt
no_text (MoreHole e ps) ts h o free = tt
no_text (MoreText bs ps) ts h o free = let x : true ≡ false = subst (λ (us : List Terminal). begins_characters us ≡ false) o.tokens free in absurd (cc)

-- the two sides of an assignment
assigned_kept : (t e : Exp) → Keeps (At (Bare t) (level t) 1) (FitExp t) → Keeps (At (Bare e) (level e) 1) (FitExp e)
    → Keeps (Assigned t (At (Bare t) (level t) 1) (At (Bare e) (level e) 1)) (IsTarget t × FitExp t × FitExp e)
assigned_kept t e target value ts h a m =
    let all = subst AreMeant a.1.tokens m in
    (a.0, target a.1.left a.1.low a.1.first (front a.1.left (k.Assign ∷ a.1.right) all), value a.1.right a.1.other a.1.second (back a.1.left (k.Assign ∷ a.1.right) all).2)

abbrev mutual
  bare_kept : (e : Exp) → Keeps (Bare e) (FitExp e)
  bare_kept (Int (pos n)) ts h b m = (subst AreMeant b.tokens m).0
  bare_kept (Int (negsuc n)) ts h b m = absurd b
  bare_kept (Truth v) ts h b m = tt
  bare_kept Null ts h b m = tt
  bare_kept (Text bs) ts h b m = (subst AreMeant b.tokens m).0
  bare_kept (Template ps) ts h b m = parts_kept ps b.inner b.low b.part (subst AreMeant b.tokens m).2
  bare_kept (Name w) ts h b m = (subst AreMeant b.tokens m).0
  bare_kept (Array es) ts h b m = items_kept true k.CloseBracket es b.inner b.low b.part (subst AreMeant b.tokens m).2
  bare_kept (Dict ds) ts h b m = pairs_kept ds b.inner b.low b.part (subst AreMeant b.tokens m).2
  bare_kept (Neg e) ts h b m = at_kept e 9 (bare_kept e) b.inner b.low b.part (subst AreMeant b.tokens m).2
  bare_kept (Not e) ts h b m = at_kept e 4 (bare_kept e) b.inner b.low b.part (subst AreMeant b.tokens m).2
  bare_kept (Binary op x y) ts h b m =
      let all = subst AreMeant b.tokens m in (
        at_kept x (level_of op) (bare_kept x) b.left b.low b.first (front b.left (tokens_of op ++ b.right) all),
        at_kept y (suc (level_of op)) (bare_kept y) b.right b.other b.second (back (tokens_of op) b.right (back b.left (tokens_of op ++ b.right) all)),
      )
  bare_kept (Coalesce x y) ts h b m =
      let all = subst AreMeant b.tokens m in (
        at_kept x 5 (bare_kept x) b.left b.low b.first (front b.left (k.Coalesce ∷ b.right) all),
        at_kept y 6 (bare_kept y) b.right b.other b.second (back b.left (k.Coalesce ∷ b.right) all).2,
      )
  bare_kept (Prop e w) ts h b m =
      let all = subst AreMeant b.tokens m in
      (at_kept e 10 (bare_kept e) b.inner b.low b.part (front b.inner (k.Dot ∷ k.word w ∷ []) all), word_is w (back b.inner (k.Dot ∷ k.word w ∷ []) all).2.0)
  bare_kept (PropNullish e w) ts h b m =
      let all = subst AreMeant b.tokens m in
      (at_kept e 10 (bare_kept e) b.inner b.low b.part (front b.inner (k.NullishDot ∷ k.word w ∷ []) all), word_is w (back b.inner (k.NullishDot ∷ k.word w ∷ []) all).2.0)
  bare_kept (Index e i) ts h b m =
      let more = k.OpenBracket ∷ (b.right ++ k.CloseBracket ∷ []) in
      let all = subst AreMeant b.tokens m in
      (at_kept e 10 (bare_kept e) b.left b.low b.first (front b.left more all), at_kept i 1 (bare_kept i) b.right b.other b.second (front b.right (k.CloseBracket ∷ []) (back b.left more all).2))
  bare_kept (Call f es) ts h b m =
      let all = subst AreMeant b.tokens m in
      (at_kept f 10 (bare_kept f) b.left b.low b.first (front b.left (k.Open ∷ b.right) all), items_kept false k.Close es b.right b.other b.second (back b.left (k.Open ∷ b.right) all).2)
  bare_kept (Lambda ws x) ts h b m =
      let all = subst AreMeant b.tokens m in
      (parameters_kept ws b.left b.low b.first (front b.left (k.Arrow ∷ b.right) all), body_kept x b.right b.other b.second (back b.left (k.Arrow ∷ b.right) all).2)

  items_kept : (comma : Bool) (mark : Terminal) (es : Exps) → Keeps (Listing comma mark (items es)) (FitExps es)
  items_kept comma mark NoExp ts h o m = tt
  items_kept comma mark (MoreExp e es) ts h o m =
      let all = subst AreMeant o.tokens m in
      (at_kept e 1 (bare_kept e) o.left o.low o.first (front o.left o.right all), more_items_kept comma mark es o.right o.other o.second (back o.left o.right all))

  more_items_kept : (comma : Bool) (mark : Terminal) (es : Exps) → Keeps (Others comma mark (items es)) (FitExps es)
  more_items_kept comma mark NoExp ts h o m = tt
  more_items_kept comma mark (MoreExp e es) ts h o m =
      let all = (subst AreMeant o.tokens m).2 in
      (at_kept e 1 (bare_kept e) o.left o.low o.first (front o.left o.right all), more_items_kept comma mark es o.right o.other o.second (back o.left o.right all))

  parts_kept : (ps : Parts) → Keeps (OfParts ps) (FitParts ps)
  parts_kept NoPart ts h o m = tt
  parts_kept (MoreText bs ps) ts h o m =
      let all = subst AreMeant o.tokens m in
      (all.0.0, all.0.1, no_text ps o.inner o.low o.part all.1, parts_kept ps o.inner o.low o.part all.2)
  parts_kept (MoreHole e ps) ts h o m =
      let all = (subst AreMeant o.tokens m).2 in
      (at_kept e 1 (bare_kept e) o.left o.low o.first (front o.left (k.HoleEnd ∷ o.right) all), parts_kept ps o.right o.other o.second (back o.left (k.HoleEnd ∷ o.right) all).2)

  pairs_kept : (ds : Pairs) → Keeps (Listing true k.CloseBrace (entries ds)) (FitPairs ds)
  pairs_kept NoPair ts h o m = tt
  pairs_kept (MorePair x y ds) ts h o m =
      let all = subst AreMeant o.tokens m in
      let p = o.first in
      let both = subst AreMeant p.tokens (front o.left o.right all) in (
        at_kept x 1 (bare_kept x) p.left p.low p.first (front p.left (k.Colon ∷ p.right) both),
        at_kept y 1 (bare_kept y) p.right p.other p.second (back p.left (k.Colon ∷ p.right) both).2,
        more_pairs_kept ds o.right o.other o.second (back o.left o.right all),
      )

  more_pairs_kept : (ds : Pairs) → Keeps (Others true k.CloseBrace (entries ds)) (FitPairs ds)
  more_pairs_kept NoPair ts h o m = tt
  more_pairs_kept (MorePair x y ds) ts h o m =
      let all = (subst AreMeant o.tokens m).2 in
      let p = o.first in
      let both = subst AreMeant p.tokens (front o.left o.right all) in (
        at_kept x 1 (bare_kept x) p.left p.low p.first (front p.left (k.Colon ∷ p.right) both),
        at_kept y 1 (bare_kept y) p.right p.other p.second (back p.left (k.Colon ∷ p.right) both).2,
        more_pairs_kept ds o.right o.other o.second (back o.left o.right all),
      )

  body_kept : (b : Body) → Keeps (OfBody b) (FitBody b)
  body_kept (OneExp e) ts h b m = at_kept e 1 (bare_kept e) ts h b.part m
  body_kept (ManyStms ss) ts h b m = braced_kept ss 0 (stms_kept ss) ts [] h b m

  declared_kept : (v : OptionExp) (w : Word) → Keeps (Declared v w) (IsFree w × FitOption v)
  declared_kept NoneExp w ts h b m = ((subst AreMeant b.tokens m).2.0, tt)
  declared_kept (SomeExp e) w ts h b m = let all = subst AreMeant b.tokens m in (all.2.0, at_kept e 1 (bare_kept e) b.inner b.low b.part all.2.2.2)

  returned_kept : (v : OptionExp) → KeepsStm (Returned v) (FitOption v)
  returned_kept NoneExp ts rest h b m = tt
  returned_kept (SomeExp e) ts rest h b m =
      at_kept e 1 (bare_kept e) b.part.inner b.part.low b.part.part (subst AreMeant b.part.tokens (front b.inner b.ending (subst AreMeant b.tokens m))).2

  condition_kept : (c : OptionExp) → Keeps (Condition c) (FitOption c)
  condition_kept NoneExp ts h b m = tt
  condition_kept (SomeExp e) ts h b m = at_kept e 1 (bare_kept e) ts h b m

  start_kept : (s : OptionStm) → Keeps (Start s) (FitClause s × MayStart s)
  start_kept NoneStm ts h b m = (tt, tt)
  start_kept (SomeStm (Let w v)) ts h b m = (declared_kept v w ts h b m, tt)
  start_kept (SomeStm (Assign t e)) ts h b m = (assigned_kept t e (at_kept t 1 (bare_kept t)) (at_kept e 1 (bare_kept e)) ts h b m, tt)
  start_kept (SomeStm (Do e)) ts h b m = (at_kept e 1 (bare_kept e) b.inner b.low b.part (subst AreMeant b.tokens m), tt)
  start_kept (SomeStm (Return v)) ts h b m = absurd b
  start_kept (SomeStm (Throw e)) ts h b m = absurd b
  start_kept (SomeStm (If c x o)) ts h b m = absurd b
  start_kept (SomeStm (While c x)) ts h b m = absurd b
  start_kept (SomeStm (For s c n x)) ts h b m = absurd b
  start_kept (SomeStm (ForIn i v e x)) ts h b m = absurd b
  start_kept (SomeStm (Fun f ws x)) ts h b m = absurd b
  start_kept (SomeStm (Try x w c)) ts h b m = absurd b
  start_kept (SomeStm (Block x)) ts h b m = absurd b

  step_kept : (s : OptionStm) → Keeps (Step s) (FitClause s × MayStep s)
  step_kept NoneStm ts h b m = (tt, tt)
  step_kept (SomeStm (Assign t e)) ts h b m = (assigned_kept t e (at_kept t 1 (bare_kept t)) (at_kept e 1 (bare_kept e)) ts h b m, tt)
  step_kept (SomeStm (Do e)) ts h b m = (at_kept e 1 (bare_kept e) b.inner b.low b.part (subst AreMeant b.tokens m), tt)
  step_kept (SomeStm (Let w v)) ts h b m = absurd b
  step_kept (SomeStm (Return v)) ts h b m = absurd b
  step_kept (SomeStm (Throw e)) ts h b m = absurd b
  step_kept (SomeStm (If c x o)) ts h b m = absurd b
  step_kept (SomeStm (While c x)) ts h b m = absurd b
  step_kept (SomeStm (For s c n x)) ts h b m = absurd b
  step_kept (SomeStm (ForIn i v e x)) ts h b m = absurd b
  step_kept (SomeStm (Fun f ws x)) ts h b m = absurd b
  step_kept (SomeStm (Try x w c)) ts h b m = absurd b
  step_kept (SomeStm (Block x)) ts h b m = absurd b

  stm_kept : (s : Stm) → KeepsStm (OfStm s) (FitStm s)
  stm_kept (Let w v) ts rest h b m = declared_kept v w b.inner h b.part (front b.inner b.ending (subst AreMeant b.tokens m))
  stm_kept (Assign t e) ts rest h b m = assigned_kept t e (at_kept t 1 (bare_kept t)) (at_kept e 1 (bare_kept e)) b.inner h b.part.part (front b.inner b.ending (subst AreMeant b.tokens m))
  stm_kept (Do e) ts rest h b m =
      let one = b.part.part in
      at_kept e 1 (bare_kept e) one.inner one.low one.part (subst AreMeant one.tokens (front b.inner b.ending (subst AreMeant b.tokens m)))
  stm_kept (Return v) ts rest h b m = returned_kept v ts rest h b m
  stm_kept (Throw e) ts rest h b m = at_kept e 1 (bare_kept e) b.part.inner b.part.low b.part.part (subst AreMeant b.part.tokens (front b.inner b.ending (subst AreMeant b.tokens m))).2
  stm_kept (If c x o) ts rest h b m =
      let all = (subst AreMeant b.tokens m).2.2 in
      let s = b.second in
      let both = subst AreMeant s.tokens (back b.left (k.Close ∷ b.right) all).2 in (
        at_kept c 1 (bare_kept c) b.left b.low b.first (front b.left (k.Close ∷ b.right) all),
        governed_kept x (stms_kept x) (only_kept x) s.left (s.right ++ rest) s.low s.first (front s.left s.right both),
        else_kept o s.right rest s.other s.second (back s.left s.right both),
      )
  stm_kept (While c x) ts rest h b m =
      let all = (subst AreMeant b.tokens m).2.2 in
      (at_kept c 1 (bare_kept c) b.left b.low b.first (front b.left (k.Close ∷ b.right) all), governed_kept x (stms_kept x) (only_kept x) b.right rest b.other b.second (back b.left (k.Close ∷ b.right) all).2)
  stm_kept (For s c n x) ts rest h b m =
      let all = (subst AreMeant b.tokens m).2.2 in
      let p = b.first in
      let q = p.second in
      let header = subst AreMeant p.tokens (front b.left (k.Close ∷ b.right) all) in
      let tail = subst AreMeant q.tokens (back p.left (k.Semi ∷ p.right) header).2 in (
        start_kept s p.left p.low p.first (front p.left (k.Semi ∷ p.right) header),
        condition_kept c q.left q.low q.first (front q.left (k.Semi ∷ q.right) tail),
        step_kept n q.right q.other q.second (back q.left (k.Semi ∷ q.right) tail).2,
        governed_kept x (stms_kept x) (only_kept x) b.right rest b.other b.second (back b.left (k.Close ∷ b.right) all).2,
      )
  stm_kept (ForIn i v e x) ts rest h b m =
      let all = (subst AreMeant b.tokens m).2.2.2 in
      let more = k.In ∷ (b.left ++ k.Close ∷ b.right) in
      let two = bound_kept i v (front (bound i v) more all) in
      let tail = (back (bound i v) more all).2 in
      (two.0, two.1, at_kept e 1 (bare_kept e) b.left b.low b.first (front b.left (k.Close ∷ b.right) tail), governed_kept x (stms_kept x) (only_kept x) b.right rest b.other b.second (back b.left (k.Close ∷ b.right) tail).2)
  stm_kept (Fun f ws x) ts rest h b m =
      let all = (subst AreMeant b.tokens m).2 in
      let tail = all.2.2 in
      (all.0, names_kept ws b.left b.low b.first (front b.left b.right tail), braced_kept x 0 (stms_kept x) b.right rest b.other b.second (back b.left b.right tail))
  stm_kept (Try x w c) ts rest h b m =
      let s = b.part in
      let all = subst AreMeant s.tokens (subst AreMeant b.tokens m).2 in
      let more = k.Catch ∷ k.Open ∷ k.Word w ∷ k.Close ∷ s.right in
      let tail = back s.left more all in
      (braced_kept x 0 (stms_kept x) s.left (more ++ rest) s.low s.first (front s.left more all), tail.2.2.0, braced_kept c 0 (stms_kept c) s.right rest s.other s.second tail.2.2.2.2)
  stm_kept (Block x) ts rest h b m = braced_kept x 1 (stms_kept x) ts rest h b m

  else_kept : (o : OptionStms) → KeepsStm (OfElse o) (FitElse o)
  else_kept NoneStms ts rest h b m = tt
  else_kept (SomeStms x) ts rest h b m = governed_kept x (stms_kept x) (only_kept x) b.inner rest b.low b.part (subst AreMeant b.tokens m).2

  only_kept : (ss : Stms) → KeepsStm (OnlyOne ss) (FitStms ss)
  only_kept Done ts rest h b m = tt
  only_kept (Then s Done) ts rest h b m = (stm_kept s ts rest h b.part m, tt)
  only_kept (Then s (Then r ss)) ts rest h b m = absurd b

  stms_kept : (ss : Stms) → KeepsStm (OfStms ss) (FitStms ss)
  stms_kept Done ts rest h b m = tt
  stms_kept (Then s ss) ts rest h b m =
      let all = semis_meant b.empty (b.left ++ b.right) (subst AreMeant b.tokens m) in
      (stm_kept s b.left (b.right ++ rest) b.low b.first (front b.left b.right all), stms_kept ss b.right rest b.other b.second (back b.left b.right all))

-- A program whose tokens are those of a text keeps this.
pub program_kept : (ss : Stms) → KeepsStm (OfStms ss) (FitStms ss)
program_kept = stms_kept
