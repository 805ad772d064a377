-- The texts of a program's code are the literal texts of its tree.
use Rattle.std.proofs.Common.{◌≡◌, ℕ, zero, suc, ◌+◌, List, [], ◌∷◌, ◌++◌, length, Option, Some, None, Bool, true, false, cond, Ok, refl, sym, ap, ◌∙◌, subst, inl, append_assoc, append-nil}
use Rattle.hog_value.specs.declared.native.Native.{Native}
use Rattle.hog_value.specs.declared.native.Native.TheVariants as native
use Rattle.hog_value.specs.Natives.{native_named, takes_of}
use Rattle.std.specs.Prelude.{pos, neg_ℤ}
use Rattle.hog_ops.specs.declared.capture.Capture.{Capture}
use Rattle.hog_ops.specs.Table.{span}
use Rattle.hog_ops.specs.Plain as o
use Rattle.hog_ops.specs.Plain.{Op, Ops, NoOp, MoreOp, ◌⊕◌}
use Rattle.hog_tree.specs.declared.tree.BinaryOp.{BinaryOp}
use Rattle.hog_tree.specs.declared.tree.BinaryOp.TheVariants as b
use Rattle.hog_tree.specs.Plain.{Word, Exp, Exps, Parts, Pairs, Body, Stm, Stms, OptionExp, OptionStm, Int, Truth, Null, Text, Template, Name, Array, Dict, Neg, Not, Binary, Coalesce, Prop, PropNullish, Index, Call, Lambda, NoExp, MoreExp, NoPart, MoreText, MoreHole, NoPair, MorePair, OneExp, ManyStms, Let, Assign, Do, Return, Throw, If, While, For, ForIn, Fun, Try, Block, Done, Then, NoneExp, SomeExp, NoneStm, SomeStm, NoneStms, SomeStms}
use Rattle.hog_captures.specs.Frees.{is_among, without, without_all, without_name, name_by, option_name_by, exp_frees, exps_frees, parts_frees, pairs_frees, body_frees, stm_frees, stms_frees, option_exp_frees, option_stm_frees}
use Rattle.hog_captures.specs.Frames.{captures_of, Frame, first_frame, find_local, find_up, is_found, knows, with_local, with_name, with_hidden, inner_frame}
use Rattle.hog_compiler.specs.Pieces.{one, loop_code, fun_code, lambda_name, truth_op, read_code, write_op, operator_op, is_left_first, binary_code, native_code, return_null, pop_op, pops, key_count, key_code, key_pop, hidden_code, more_code, item_code, next_code, for_in_code}
use Rattle.hog_compiler.specs.Code.{parts_count, pairs_count, block_code, called_native, call_code, name_pop, option_name_pop, block_pops, lambda_captured, fun_captured, exp_code, exps_code, parts_code, pairs_code, body_code, stm_code, stms_code, value_code, option_stm_code, code_of}
use Rattle.hog_scope.specs.declared.item.Item.{Item}
use Rattle.hog_scope.specs.Words.{count_of}
use Rattle.hog_scope.specs.Literals.{in_byte_order}
use Rattle.hog_scope.specs.Scopes.{items_of}
use Rattle.hog_meaning.specs.Program.{texts_by, texts_in}
use Rattle.vm_course.specs.Course.{op_texts, texts, literals_of_code}
use Rattle.hog_bridge.proofs.Words.{with_word, onto}
use Rattle.hog_bridge.proofs.Sights.{read_texts}
use Rattle.hog_bridge.proofs.Scopes.{but_name, exp_texts, exps_texts, parts_texts, pairs_texts, body_texts, stm_texts, stms_texts, option_exp_texts, option_stm_texts, scoped}
use Rattle.hog_bridge.proofs.Members.{Alike, alike_same, alike_both, alike_turn, one_set}
use Rattle.hog_bridge.proofs.Agreement.{Agrees, agrees_left, agrees_right, agrees_local, agrees_name, agrees_hidden, agrees_inner}

pub texts_after : (p q : Ops) → texts (p ⊕ q) ≡ texts p ++ texts q
texts_after NoOp q = refl
texts_after (MoreOp x p) q = ap (λ z. op_texts x ++ z) (texts_after p q) ∙ sym (append_assoc (op_texts x) (texts p) (texts q))

-- these operations have the members of these texts
pub record Has (p : Ops) (ts : List Word) : Type 0 where
  pub alike : Alike (texts p) ts

has_is : {p : Ops} {us vs : List Word} → us ≡ vs → Has p us → Has p vs
has_is {p} e a = subst (λ z. Has p z) e a

has_of : (p : Ops) {ts us : List Word} → texts p ≡ ts → Alike ts us → Has p us
has_of p {ts} {us} e a = record { alike = subst (λ z. Alike z us) (sym e) a }

both : {p q : Ops} {ts us : List Word} → Has p ts → Has q us → Has (p ⊕ q) (ts ++ us)
both {p} {q} a b = has_of (p ⊕ q) (texts_after p q) (alike_both a.alike b.alike)

turned : {p q : Ops} {ts us : List Word} → Has p ts → Has q us → Has (q ⊕ p) (ts ++ us)
turned {p} {q} a b = has_of (q ⊕ p) (texts_after q p) (alike_turn a.alike b.alike)

-- operations without texts behind and before
behind : {p : Ops} {ts : List Word} (q : Ops) → texts q ≡ [] → Has p ts → Has (p ⊕ q) ts
behind {p} q e a = has_of (p ⊕ q) (texts_after p q ∙ ap (λ z. texts p ++ z) e ∙ append-nil (texts p)) a.alike

before : {q : Ops} {ts : List Word} (p : Ops) → texts p ≡ [] → Has q ts → Has (p ⊕ q) ts
before {q} p e a = has_of (p ⊕ q) (texts_after p q ∙ ap (λ z. z ++ texts q) e) a.alike

-- none in both
no_more : (p q : Ops) → texts p ≡ [] → texts q ≡ [] → texts (p ⊕ q) ≡ []
no_more p q e f = texts_after p q ∙ ap (λ z. z ++ texts q) e ∙ f

nothing : (p : Ops) → texts p ≡ [] → Has p []
nothing p e = has_of p e (alike_same [])

-- a text by itself
spelled : (t : Word) (p : Ops) → texts p ≡ [] → Has (MoreOp (o.Str t) p) (t ∷ [])
spelled t p e = has_of (MoreOp (o.Str t) p) (ap (λ z. t ∷ z) e) (alike_same (t ∷ []))

-- a function's texts are those of its body
function_has : {body : Ops} {ts : List Word} (name : Word) (params : List Word) (captures : List Capture) → Has body ts → Has (fun_code name params captures body) ts
function_has {body} name params captures a = has_of (fun_code name params captures body) (append-nil (texts body)) a.alike

-- small pieces without texts
operator_none : (op : BinaryOp) → texts (one (operator_op op)) ≡ []
operator_none b.Or = refl
operator_none b.And = refl
operator_none b.Equal = refl
operator_none b.NotEqual = refl
operator_none b.Less = refl
operator_none b.LessEqual = refl
operator_none b.Greater = refl
operator_none b.GreaterEqual = refl
operator_none b.IsIn = refl
operator_none b.NotIn = refl
operator_none b.Plus = refl
operator_none b.Minus = refl
operator_none b.Times = refl

truth_none : (v : Bool) → texts (one (truth_op v)) ≡ []
truth_none true = refl
truth_none false = refl

write_none : (l u : Option ℕ) → texts (one (write_op l u)) ≡ []
write_none (Some i) u = refl
write_none None (Some u) = refl
write_none None None = refl

native_none : (f : Option Native) (n : ℕ) → texts (native_code f n) ≡ []
native_none None n = refl
native_none (Some f) n = by (takes_of f n)
  where
    by : (v : Bool) → texts (cond v (one (o.CallGlobal f n)) NoOp) ≡ []
    by true = refl
    by false = refl

pop_none : (w : Word) (frees : List Word) → op_texts (pop_op w frees) ≡ []
pop_none w frees = by (is_among w frees)
  where
    by : (v : Bool) → op_texts (cond v o.CloseUpvalue o.Pop) ≡ []
    by true = refl
    by false = refl

one_pop : (w : Word) (frees : List Word) → texts (one (pop_op w frees)) ≡ []
one_pop w frees = ap (λ z. z ++ []) (pop_none w frees)

name_none : (s : Stm) (frees : List Word) → texts (name_pop s frees) ≡ []
name_none (Let w x) frees = one_pop w frees
name_none (Fun w ps c) frees = one_pop w (without_all ps (stms_frees true c) ++ frees)
name_none (Assign _ _) frees = refl
name_none (Do _) frees = refl
name_none (Return _) frees = refl
name_none (Throw _) frees = refl
name_none (If _ _ _) frees = refl
name_none (While _ _) frees = refl
name_none (For _ _ _ _) frees = refl
name_none (ForIn _ _ _ _) frees = refl
name_none (Try _ _ _) frees = refl
name_none (Block _) frees = refl

option_name_none : (a : OptionStm) (frees : List Word) → texts (option_name_pop a frees) ≡ []
option_name_none NoneStm frees = refl
option_name_none (SomeStm s) frees = name_none s frees

block_none : (ss : Stms) → texts (block_pops ss) ≡ []
block_none Done = refl
block_none (Then s ss) = no_more (block_pops ss) (name_pop s (stms_frees false ss)) (block_none ss) (name_none s (stms_frees false ss))

pops_none : (n : ℕ) → texts (pops n) ≡ []
pops_none zero = refl
pops_none (suc n) = pops_none n

hidden_none : (k : Option Word) (first : ℕ) → texts (hidden_code k first) ≡ []
hidden_none None first = refl
hidden_none (Some w) first = refl

key_none : (k : Option Word) (list index : ℕ) → texts (key_code k list index) ≡ []
key_none None list index = refl
key_none (Some w) list index = refl

key_pop_none : (k : Option Word) (frees : List Word) → texts (key_pop k frees) ≡ []
key_pop_none None frees = refl
key_pop_none (Some w) frees = one_pop w frees

-- a word that is read
word_has : (w : Word) (l u : Option ℕ) (v : Bool) → is_found l u ≡ v → Has (read_code l u w) (read_texts w v)
word_has w (Some i) u true e = nothing _ refl
word_has w (Some i) u false e = absurd cc
word_has w None (Some u) true e = nothing _ refl
word_has w None (Some u) false e = absurd cc
word_has w None None true e = absurd cc
word_has w None None false e = spelled w (one (o.GetGlobal 1)) refl

binary_has : (op : BinaryOp) {p q : Ops} {ts us : List Word} → Has p ts → Has q us → Has (binary_code op p q) (ts ++ us)
binary_has op {p} {q} {ts} {us} a c = by (is_left_first op)
  where
    by : (v : Bool) → Has (cond v (p ⊕ (q ⊕ one (operator_op op))) (q ⊕ (p ⊕ one (operator_op op)))) (ts ++ us)
    by true = both a (behind (one (operator_op op)) (operator_none op) c)
    by false = turned (behind (one (operator_op op)) (operator_none op) a) c

-- what is called: its texts, and none where it is a name
callee_has : (fr : Frame) (V : List Word) (f : Exp) (n : ℕ) → Has (exp_code fr f) (exp_texts V f) → Has (call_code (called_native fr f) n (exp_code fr f)) (but_name f (exp_texts V f))
callee_has fr V (Int _) n a = behind (one (o.CallLocal n)) refl a
callee_has fr V (Truth _) n a = behind (one (o.CallLocal n)) refl a
callee_has fr V Null n a = behind (one (o.CallLocal n)) refl a
callee_has fr V (Text _) n a = behind (one (o.CallLocal n)) refl a
callee_has fr V (Template _) n a = behind (one (o.CallLocal n)) refl a
callee_has fr V (Name w) n a = by (knows fr w) (find_local fr.locals w) (find_up fr.ups w) refl
  where
    by : (v : Bool) (l u : Option ℕ) → is_found l u ≡ v → Has (call_code (cond v None (Some w)) n (read_code l u w)) []
    by true (Some i) u e = nothing _ refl
    by true None (Some u) e = nothing _ refl
    by true None None e = absurd cc
    by false l u e = nothing _ (native_none (native_named w) n)
callee_has fr V (Array _) n a = behind (one (o.CallLocal n)) refl a
callee_has fr V (Dict _) n a = behind (one (o.CallLocal n)) refl a
callee_has fr V (Neg _) n a = behind (one (o.CallLocal n)) refl a
callee_has fr V (Not _) n a = behind (one (o.CallLocal n)) refl a
callee_has fr V (Binary _ _ _) n a = behind (one (o.CallLocal n)) refl a
callee_has fr V (Coalesce _ _) n a = behind (one (o.CallLocal n)) refl a
callee_has fr V (Prop _ _) n a = behind (one (o.CallLocal n)) refl a
callee_has fr V (PropNullish _ _) n a = behind (one (o.CallLocal n)) refl a
callee_has fr V (Index _ _) n a = behind (one (o.CallLocal n)) refl a
callee_has fr V (Call _ _) n a = behind (one (o.CallLocal n)) refl a
callee_has fr V (Lambda _ _) n a = behind (one (o.CallLocal n)) refl a

-- a jump between, and one that leads back
jump_has : {p : Ops} {ts : List Word} (x : Op) → op_texts x ≡ [] → Has p ts → Has (MoreOp x p) ts
jump_has x e a = before (one x) (ap (λ z. z ++ []) e) a

loop_has : {c p : Ops} {ts us : List Word} → Has c ts → Has p us → Has (loop_code c p) (ts ++ us)
loop_has {c} {p} a b = both a (jump_has (o.JumpIfFalse (pos (span p + 2))) refl (behind (one (o.Jump (neg_ℤ (pos (span c + span p + 4))))) refl b))

-- all of a `for .. in` behind what is run over
for_in_has : (k : Option Word) (v : Word) (first : ℕ) {body : Ops} (frees : List Word) {ts : List Word} → Has body ts → Has (for_in_code k v first body frees) ts
for_in_has k v first {body} frees {ts} a =
    let keys = first + key_count k in
    let last : Ops = MoreOp (pop_op v frees) (key_pop k frees) ⊕ next_code (keys + 3) in
    let none : texts last ≡ [] = no_more (MoreOp (pop_op v frees) (key_pop k frees)) (next_code (keys + 3)) (ap (λ z. z ++ texts (key_pop k frees)) (pop_none v frees) ∙ key_pop_none k frees) refl in
    let inside = before (key_code k keys (keys + 3)) (key_none k keys (keys + 3)) (before (item_code (keys + 1) (keys + 3)) refl (behind last none a)) in
    before (hidden_code k first) (hidden_none k first)
    (behind (pops (4 + key_count k)) (pops_none (4 + key_count k)) (loop_has (nothing (more_code (keys + 2) (keys + 3)) refl) inside))

block_has : {p : Ops} {ts : List Word} (ss : Stms) → Has p ts → Has (p ⊕ block_pops ss) ts
block_has ss a = behind (block_pops ss) (block_none ss) a

mutual
  pub exp_has : (fr : Frame) (V : List Word) (x : Exp) → Agrees (exp_frees true x) fr V → Has (exp_code fr x) (exp_texts V x)
  exp_has fr V (Int n) a = nothing _ refl
  exp_has fr V (Truth v) a = nothing _ (truth_none v)
  exp_has fr V Null a = nothing _ refl
  exp_has fr V (Text t) a = spelled t NoOp refl
  exp_has fr V (Template ps) a = behind (one (o.CallGlobal native.Concat (parts_count ps))) refl (parts_has fr V ps a)
  exp_has fr V (Name w) a = word_has w (find_local fr.locals w) (find_up fr.ups w) (is_among w V) (a.same w (inl refl))
  exp_has fr V (Array xs) a = behind (one (o.Array (count_of xs))) refl (exps_has fr V xs a)
  exp_has fr V (Dict ds) a = behind (one (o.Dict (pairs_count ds))) refl (pairs_has fr V ds a)
  exp_has fr V (Neg x) a = behind (MoreOp (o.Integer (pos 0)) (one o.Minus)) refl (exp_has fr V x a)
  exp_has fr V (Not x) a = behind (one o.Not) refl (exp_has fr V x a)
  exp_has fr V (Binary op x y) a = binary_has op (exp_has fr V x (agrees_left (exp_frees true x) (exp_frees true y) a)) (exp_has fr V y (agrees_right (exp_frees true x) (exp_frees true y) a))
  exp_has fr V (Coalesce x y) a =
      let second = exp_has fr V y (agrees_right (exp_frees true x) (exp_frees true y) a) in
      both (exp_has fr V x (agrees_left (exp_frees true x) (exp_frees true y) a))
      (jump_has (o.JumpIfStackNotNull (pos (span (exp_code fr y) + 1))) refl (jump_has o.Pop refl second))
  exp_has fr V (Prop x w) a = both (exp_has fr V x a) (spelled w (one o.GetProperty) refl)
  exp_has fr V (PropNullish x w) a = both (exp_has fr V x a) (spelled w (one o.GetPropertyNullish) refl)
  exp_has fr V (Index x k) a = both (exp_has fr V x (agrees_left (exp_frees true x) (exp_frees true k) a)) (behind (one o.GetProperty) refl (exp_has fr V k (agrees_right (exp_frees true x) (exp_frees true k) a)))
  exp_has fr V (Call f xs) a =
      turned (callee_has fr V f (count_of xs) (exp_has fr V f (agrees_left (exp_frees true f) (exps_frees true xs) a))) (exps_has fr V xs (agrees_right (exp_frees true f) (exps_frees true xs) a))
  exp_has fr V (Lambda ps c) a =
      function_has lambda_name ps (captures_of fr (lambda_captured fr ps c)) (body_has (inner_frame ps (lambda_captured fr ps c)) (onto ps V) c (agrees_inner ps (body_frees c) a))

  pub exps_has : (fr : Frame) (V : List Word) (xs : Exps) → Agrees (exps_frees true xs) fr V → Has (exps_code fr xs) (exps_texts V xs)
  exps_has fr V NoExp a = nothing _ refl
  exps_has fr V (MoreExp x xs) a = both (exp_has fr V x (agrees_left (exp_frees true x) (exps_frees true xs) a)) (exps_has fr V xs (agrees_right (exp_frees true x) (exps_frees true xs) a))

  pub parts_has : (fr : Frame) (V : List Word) (ps : Parts) → Agrees (parts_frees true ps) fr V → Has (parts_code fr ps) (parts_texts V ps)
  parts_has fr V NoPart a = nothing _ refl
  parts_has fr V (MoreText t ps) a = both (spelled t NoOp refl) (parts_has fr V ps a)
  parts_has fr V (MoreHole x ps) a = both (exp_has fr V x (agrees_left (exp_frees true x) (parts_frees true ps) a)) (parts_has fr V ps (agrees_right (exp_frees true x) (parts_frees true ps) a))

  pub pairs_has : (fr : Frame) (V : List Word) (ds : Pairs) → Agrees (pairs_frees true ds) fr V → Has (pairs_code fr ds) (pairs_texts V ds)
  pairs_has fr V NoPair a = nothing _ refl
  pairs_has fr V (MorePair k x ds) a =
      let r = agrees_right (exp_frees true k) (exp_frees true x ++ pairs_frees true ds) a in
      has_is (sym (append_assoc (exp_texts V k) (exp_texts V x) (pairs_texts V ds)))
      (both (exp_has fr V k (agrees_left (exp_frees true k) (exp_frees true x ++ pairs_frees true ds) a))
      (both (exp_has fr V x (agrees_left (exp_frees true x) (pairs_frees true ds) r)) (pairs_has fr V ds (agrees_right (exp_frees true x) (pairs_frees true ds) r))))

  pub body_has : (fr : Frame) (V : List Word) (c : Body) → Agrees (body_frees c) fr V → Has (body_code fr c) (body_texts V c)
  body_has fr V (OneExp x) a = behind (one o.Return) refl (exp_has fr V x a)
  body_has fr V (ManyStms ss) a = behind return_null refl (stms_has fr V ss a)

  pub stm_has : (fr : Frame) (V : List Word) (s : Stm) → Agrees (stm_frees true s) fr V → Has (stm_code fr s) (stm_texts V s)
  stm_has fr V (Let w x) a = value_has fr V o.PushNull x refl a
  stm_has fr V (Assign (Name w) y) a =
      behind (one (write_op (find_local fr.locals w) (find_up fr.ups w))) (write_none (find_local fr.locals w) (find_up fr.ups w)) (exp_has fr V y (agrees_right (w ∷ []) (exp_frees true y) a))
  stm_has fr V (Assign (Prop x w) y) a =
      has_is (sym (append_assoc (exp_texts V x) (w ∷ []) (exp_texts V y)))
      (both (exp_has fr V x (agrees_left (exp_frees true x) (exp_frees true y) a))
      (both (spelled w NoOp refl) (behind (one o.SetProperty) refl (exp_has fr V y (agrees_right (exp_frees true x) (exp_frees true y) a)))))
  stm_has fr V (Assign (Index x k) y) a =
      let l = agrees_left (exp_frees true x ++ exp_frees true k) (exp_frees true y) a in
      has_is (sym (append_assoc (exp_texts V x) (exp_texts V k) (exp_texts V y)))
      (both (exp_has fr V x (agrees_left (exp_frees true x) (exp_frees true k) l))
      (both (exp_has fr V k (agrees_right (exp_frees true x) (exp_frees true k) l))
      (behind (one o.SetProperty) refl (exp_has fr V y (agrees_right (exp_frees true x ++ exp_frees true k) (exp_frees true y) a)))))
  stm_has fr V (Assign (Int z) y) a =
      both (exp_has fr V (Int z) (agrees_left (exp_frees true (Int z)) (exp_frees true y) a)) (behind (MoreOp o.Pop (one o.Pop)) refl (exp_has fr V y (agrees_right (exp_frees true (Int z)) (exp_frees true y) a)))
  stm_has fr V (Assign (Truth z) y) a =
      both (exp_has fr V (Truth z) (agrees_left (exp_frees true (Truth z)) (exp_frees true y) a)) (behind (MoreOp o.Pop (one o.Pop)) refl (exp_has fr V y (agrees_right (exp_frees true (Truth z)) (exp_frees true y) a)))
  stm_has fr V (Assign Null y) a =
      both (exp_has fr V Null (agrees_left (exp_frees true Null) (exp_frees true y) a)) (behind (MoreOp o.Pop (one o.Pop)) refl (exp_has fr V y (agrees_right (exp_frees true Null) (exp_frees true y) a)))
  stm_has fr V (Assign (Text z) y) a =
      both (exp_has fr V (Text z) (agrees_left (exp_frees true (Text z)) (exp_frees true y) a)) (behind (MoreOp o.Pop (one o.Pop)) refl (exp_has fr V y (agrees_right (exp_frees true (Text z)) (exp_frees true y) a)))
  stm_has fr V (Assign (Template z) y) a =
      both (exp_has fr V (Template z) (agrees_left (exp_frees true (Template z)) (exp_frees true y) a)) (behind (MoreOp o.Pop (one o.Pop)) refl (exp_has fr V y (agrees_right (exp_frees true (Template z)) (exp_frees true y) a)))
  stm_has fr V (Assign (Array z) y) a =
      both (exp_has fr V (Array z) (agrees_left (exp_frees true (Array z)) (exp_frees true y) a)) (behind (MoreOp o.Pop (one o.Pop)) refl (exp_has fr V y (agrees_right (exp_frees true (Array z)) (exp_frees true y) a)))
  stm_has fr V (Assign (Dict z) y) a =
      both (exp_has fr V (Dict z) (agrees_left (exp_frees true (Dict z)) (exp_frees true y) a)) (behind (MoreOp o.Pop (one o.Pop)) refl (exp_has fr V y (agrees_right (exp_frees true (Dict z)) (exp_frees true y) a)))
  stm_has fr V (Assign (Neg z) y) a =
      both (exp_has fr V (Neg z) (agrees_left (exp_frees true (Neg z)) (exp_frees true y) a)) (behind (MoreOp o.Pop (one o.Pop)) refl (exp_has fr V y (agrees_right (exp_frees true (Neg z)) (exp_frees true y) a)))
  stm_has fr V (Assign (Not z) y) a =
      both (exp_has fr V (Not z) (agrees_left (exp_frees true (Not z)) (exp_frees true y) a)) (behind (MoreOp o.Pop (one o.Pop)) refl (exp_has fr V y (agrees_right (exp_frees true (Not z)) (exp_frees true y) a)))
  stm_has fr V (Assign (Binary q z v) y) a =
      both (exp_has fr V (Binary q z v) (agrees_left (exp_frees true (Binary q z v)) (exp_frees true y) a)) (behind (MoreOp o.Pop (one o.Pop)) refl (exp_has fr V y (agrees_right (exp_frees true (Binary q z v)) (exp_frees true y) a)))
  stm_has fr V (Assign (Coalesce z v) y) a =
      both (exp_has fr V (Coalesce z v) (agrees_left (exp_frees true (Coalesce z v)) (exp_frees true y) a)) (behind (MoreOp o.Pop (one o.Pop)) refl (exp_has fr V y (agrees_right (exp_frees true (Coalesce z v)) (exp_frees true y) a)))
  stm_has fr V (Assign (PropNullish z v) y) a =
      both (exp_has fr V (PropNullish z v) (agrees_left (exp_frees true (PropNullish z v)) (exp_frees true y) a)) (behind (MoreOp o.Pop (one o.Pop)) refl (exp_has fr V y (agrees_right (exp_frees true (PropNullish z v)) (exp_frees true y) a)))
  stm_has fr V (Assign (Call z v) y) a =
      both (exp_has fr V (Call z v) (agrees_left (exp_frees true (Call z v)) (exp_frees true y) a)) (behind (MoreOp o.Pop (one o.Pop)) refl (exp_has fr V y (agrees_right (exp_frees true (Call z v)) (exp_frees true y) a)))
  stm_has fr V (Assign (Lambda z v) y) a =
      both (exp_has fr V (Lambda z v) (agrees_left (exp_frees true (Lambda z v)) (exp_frees true y) a)) (behind (MoreOp o.Pop (one o.Pop)) refl (exp_has fr V y (agrees_right (exp_frees true (Lambda z v)) (exp_frees true y) a)))
  stm_has fr V (Do x) a = behind (one o.Pop) refl (exp_has fr V x a)
  stm_has fr V (Return x) a = behind (one o.Return) refl (value_has fr V o.PushNull x refl a)
  stm_has fr V (Throw x) a = behind (one o.Throw) refl (exp_has fr V x a)
  stm_has fr V (If c s NoneStms) a =
      let block = block_has s (stms_has fr V s (agrees_left (stms_frees true s) [] (agrees_right (exp_frees true c) (stms_frees true s ++ []) a))) in
      has_is (sym (append-nil (exp_texts V c ++ stms_texts V s)))
      (both (exp_has fr V c (agrees_left (exp_frees true c) (stms_frees true s ++ []) a)) (jump_has (o.JumpIfFalse (pos (span (block_code fr s)))) refl block))
  stm_has fr V (If c s (SomeStms e)) a =
      let r = agrees_right (exp_frees true c) (stms_frees true s ++ stms_frees true e) a in
      let block = block_has s (stms_has fr V s (agrees_left (stms_frees true s) (stms_frees true e) r)) in
      let other = block_has e (stms_has fr V e (agrees_right (stms_frees true s) (stms_frees true e) r)) in
      has_is (sym (append_assoc (exp_texts V c) (stms_texts V s) (stms_texts V e)))
      (both (exp_has fr V c (agrees_left (exp_frees true c) (stms_frees true s ++ stms_frees true e) a))
      (jump_has (o.JumpIfFalse (pos (span (block_code fr s) + 2))) refl (both block (jump_has (o.Jump (pos (span (block_code fr e)))) refl other))))
  stm_has fr V (While c s) a =
      loop_has (exp_has fr V c (agrees_left (exp_frees true c) (stms_frees true s) a)) (block_has s (stms_has fr V s (agrees_right (exp_frees true c) (stms_frees true s) a)))
  stm_has fr V (For i c n s) a =
      let name = option_name_by i in
      let V2 = with_word name V in
      let fr2 = with_name name fr in
      let inside = option_exp_frees true c ++ (option_stm_frees true n ++ stms_frees true s) in
      let r = agrees_name name inside (agrees_right (option_stm_frees true i) (without_name name inside) a) in
      let r2 = agrees_right (option_exp_frees true c) (option_stm_frees true n ++ stms_frees true s) r in
      let start = option_stm_has fr V i (agrees_left (option_stm_frees true i) (without_name name inside) a) in
      let test = value_has fr2 V2 o.PushTrue c refl (agrees_left (option_exp_frees true c) (option_stm_frees true n ++ stms_frees true s) r) in
      let step = behind (option_name_pop n []) (option_name_none n []) (option_stm_has fr2 V2 n (agrees_left (option_stm_frees true n) (stms_frees true s) r2)) in
      let block = block_has s (stms_has fr2 V2 s (agrees_right (option_stm_frees true n) (stms_frees true s) r2)) in
      let A = option_stm_texts V i in
      let C = option_exp_texts V2 c in
      let N = option_stm_texts V2 n in
      let B = stms_texts V2 s in
      let mentioned = option_exp_frees false c ++ (option_stm_frees false n ++ stms_frees false s) in
      has_is (sym (append_assoc A C (N ++ B)) ∙ sym (append_assoc (A ++ C) N B))
      (both start (behind (option_name_pop i mentioned) (option_name_none i mentioned) (loop_has test (turned step block))))
  stm_has fr V (ForIn k v x s) a =
      let inside = without_name k (without v (stms_frees true s)) in
      let h = agrees_hidden (4 + key_count k) (agrees_right (exp_frees true x) inside a) in
      both (exp_has fr V x (agrees_left (exp_frees true x) inside a))
      (for_in_has k v (length fr.locals) (stms_frees false s)
      (block_has s (stms_has (with_local (Some v) (with_name k (with_hidden (4 + key_count k) fr))) (v ∷ with_word k V) s (agrees_local v (stms_frees true s) (agrees_name k (without v (stms_frees true s)) h)))))
  stm_has fr V (Fun w ps c) a =
      let inside = with_local (Some w) fr in
      function_has w ps (captures_of inside (fun_captured inside ps c))
      (behind return_null refl (stms_has (inner_frame ps (fun_captured inside ps c)) (onto ps (w ∷ V)) c (agrees_inner ps (stms_frees true c) (agrees_local w (without_all ps (stms_frees true c)) a))))
  stm_has fr V (Try s w h) a =
      let block = block_has s (stms_has fr V s (agrees_left (stms_frees true s) (without w (stms_frees true h)) a)) in
      let inside = with_local (Some w) fr in
      let handler = block_has h (stms_has inside (w ∷ V) h (agrees_local w (stms_frees true h) (agrees_right (stms_frees true s) (without w (stms_frees true h)) a))) in
      let after = block_code inside h ⊕ one (pop_op w (stms_frees false h)) in
      jump_has (o.Try (pos (span (block_code fr s) + 3))) refl
      (both block (jump_has o.PopTry refl (jump_has (o.Jump (pos (span after))) refl (behind (one (pop_op w (stms_frees false h))) (one_pop w (stms_frees false h)) handler))))
  stm_has fr V (Block s) a = block_has s (stms_has fr V s a)

  pub stms_has : (fr : Frame) (V : List Word) (ss : Stms) → Agrees (stms_frees true ss) fr V → Has (stms_code fr ss) (stms_texts V ss)
  stms_has fr V Done a = nothing _ refl
  stms_has fr V (Then s ss) a =
      let rest = without_name (name_by s) (stms_frees true ss) in
      both (stm_has fr V s (agrees_left (stm_frees true s) rest a))
      (stms_has (with_name (name_by s) fr) (with_word (name_by s) V) ss (agrees_name (name_by s) (stms_frees true ss) (agrees_right (stm_frees true s) rest a)))

  pub value_has : (fr : Frame) (V : List Word) (absent : Op) (x : OptionExp) → texts (one absent) ≡ [] → Agrees (option_exp_frees true x) fr V → Has (value_code fr absent x) (option_exp_texts V x)
  value_has fr V absent NoneExp e a = nothing _ e
  value_has fr V absent (SomeExp x) e a = exp_has fr V x a

  pub option_stm_has : (fr : Frame) (V : List Word) (x : OptionStm) → Agrees (option_stm_frees true x) fr V → Has (option_stm_code fr x) (option_stm_texts V x)
  option_stm_has fr V NoneStm a = nothing _ refl
  option_stm_has fr V (SomeStm s) a = stm_has fr V s a

-- the texts of a program's code are those of its tree
pub same_literals : (program : Stms) (items : List Item) → items_of program ≡ Ok items → literals_of_code (code_of program) ≡ texts_in program
unfolding code_of
same_literals program items is =
    let code : Has (stms_code first_frame program ⊕ return_null) (stms_texts [] program) = behind return_null refl (stms_has first_frame [] program (record { same = λ w h. refl })) in
    one_set (texts (stms_code first_frame program ⊕ return_null)) (stms_texts [] program) code.alike
    ∙ ap in_byte_order (sym (scoped program items is).texts)
    ∙ ap (texts_by program) (sym is)
