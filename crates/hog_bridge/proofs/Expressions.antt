-- Expressions: the machine follows the meaning.
use Rattle.std.proofs.Common.{◌≡◌, ℕ, suc, ◌+◌, pos, List, ◌∷◌, ◌++◌, length, Some, true, false, refl, sym, ap, ◌∙◌, subst, inl, arith}
use Rattle.hog_value.specs.declared.native.Native.TheVariants.{Concat}
use Rattle.hog_value.specs.Values.{Val}
use Rattle.hog_scope.specs.Words.{count_of}
use Rattle.hog_tree.specs.declared.tree.BinaryOp.TheVariants as b
use Rattle.hog_tree.specs.Plain.{Exp, Exps, Parts, Pairs, Int, Truth, Null, Text, Template, Name, Array, Dict, Neg, Not, Binary, Coalesce, Prop, PropNullish, Index, Call, Lambda, NoExp, MoreExp, NoPart, MoreText, MoreHole, NoPair, MorePair}
use Rattle.hog_captures.specs.Frees.{exp_frees, exps_frees, parts_frees, pairs_frees}
use Rattle.hog_captures.specs.Frames.{find_local, find_up}
use Rattle.hog_compiler.specs.Pieces.{operator_op, lambda_name}
use Rattle.hog_compiler.specs.Code.{parts_count, pairs_count, exp_code, exps_code, parts_code, pairs_code, call_code, called_native}
use Rattle.hog_meaning.specs.World.{Env, World, Got, and_then, find_var}
use Rattle.hog_meaning.specs.Meaning.{Effect, literal, value, values, parts, pairs}
use Rattle.hog_ops.specs.Plain as o
use Rattle.hog_ops.specs.Plain.{Op, Ops, NoOp, MoreOp, ◌⊕◌}
use Rattle.hog_ops.specs.Table.{size, span}
use Rattle.vm_course.specs.State.{Begins, State}
use Rattle.hog_bridge.proofs.Words.{In, Sub, sub_left, sub_right}
use Rattle.hog_bridge.proofs.Resolved.{CalleeOk, ExpOk, ExpsOk, PartsOk, PairsOk}
use Rattle.hog_bridge.proofs.Places.{Seat, Temp, temps}
use Rattle.hog_bridge.proofs.Ahead.{HasAt, has_front, has_back, span-after}
use Rattle.hog_bridge.proofs.Picture.{Given, Ghost, Landing, stays, Under, under_less, Ctx, landings, at, Kept, Fits, Extends, extends_same, Run, run_after, run_then, gives}
use Rattle.hog_bridge.proofs.Steps.{kept_on, fits_push, fits_temps}
use Rattle.hog_bridge.proofs.Parts.{ExpAt}
use Rattle.hog_bridge.proofs.Exps.{ExpsAt, exp_then, exps_then, fits_on}
use Rattle.hog_bridge.proofs.Lookups.{integer_runs, text_runs, null_runs, true_runs, false_runs}
use Rattle.hog_bridge.proofs.Operators.{ready_with, in_row, text_step, integer_step, name_runs, operator_runs, get_item_runs, property_runs, nullish_runs, not_runs, minus_runs, and_runs, or_runs, array_runs, dict_runs, native_call_runs}
use Rattle.hog_bridge.proofs.Follow.{Follows}
use Rattle.hog_bridge.proofs.Calls.{lambda_runs}
use Rattle.hog_bridge.proofs.Callees.{coalesce_runs, callee_runs}

-- keys and values in order stand on the stack
pub record PairsAt (g : Given) (n : ℕ) (c : Ctx) (place m : ℕ) (L : List Seat) (kvs : List (Val × Val)) (w : World) (G : Ghost) (s : State) : Type 0 where
  pub many : length (in_row kvs) ≡ m + m
  pub is : s ≡ at c place (temps (in_row kvs) L) G w
  pub kept : Kept g n L G w

pairs_then : (g : Given) (n : ℕ) {B : Type 0} {c : Ctx} {place m : ℕ} {L : List Seat} {ls : List Landing} {s : State} {G : Ghost} {P2 : B → World → Ghost → State → Type 0} {o : Got (List (Val × Val))} {go : List (Val × Val) → World → Got B} → Run g n ls s G (PairsAt g n c place m L) o → ((kvs : List (Val × Val)) (w : World) (G1 : Ghost) → Extends G G1 → Kept g n L G1 w → length (in_row kvs) ≡ m + m → Run g n ls (at c place (temps (in_row kvs) L) G1 w) G1 P2 (go kvs w)) → Run g n ls s G P2 (and_then o go)
pairs_then g n {B} {c} {place} {m} {L} {ls} {s} {G} {P2} {o} {go} r k =
    run_then g n r (λ v w G1 s1 x p. subst (λ (z : State). Run g n ls z G1 P2 (go v w)) (sym p.is) (k v w G1 x p.kept p.many))

-- the places of two parts and an operation behind them
module _ (g : Given) (place q : ℕ) (a b : Ops) (op : Op) (e : q ≡ place + span (a ⊕ (b ⊕ MoreOp op NoOp))) where
  two_end : place + span a + span b + size op ≡ q
  two_end = omega (arith, e, span-after a (b ⊕ MoreOp op NoOp), span-after b (MoreOp op NoOp))

pub one_end : (place q : ℕ) (a : Ops) (op : Op) → q ≡ place + span (a ⊕ MoreOp op NoOp) → place + span a + size op ≡ q
one_end place q a op e = omega (arith, e, span-after a (MoreOp op NoOp))

module _ (g : Given) (n d : ℕ) (again : Effect) (ih : Follows g again n) where
  mutual
    pub exp_runs : (x : Exp) (c : Ctx) (ρ : Env) (p q : ℕ) (L : List Seat) (G : Ghost) (w : World) → q ≡ p + span (exp_code c.scope x) → HasAt g.code p (exp_code c.scope x) → Sub (exp_frees true x) c.words → ExpOk c.sight x → Fits g n d c ρ L G w → Under q c.own → Run g n (landings c) (at c p L G w) G (ExpAt g n c q L) (value g.fixed again d x ρ w)
    exp_runs (Int z) c ρ p q L G w e has sub ok h u = integer_runs g n d c p L G w z q has.0 (ready_with has.0 (omega arith) u h.framed h.kept) (sym e)
    exp_runs (Truth true) c ρ p q L G w e has sub ok h u = true_runs g n d c p L G w q has.0 (ready_with has.0 (omega arith) u h.framed h.kept) (sym e)
    exp_runs (Truth false) c ρ p q L G w e has sub ok h u = false_runs g n d c p L G w q has.0 (ready_with has.0 (omega arith) u h.framed h.kept) (sym e)
    exp_runs Null c ρ p q L G w e has sub ok h u = null_runs g n d c p L G w q has.0 (ready_with has.0 (omega arith) u h.framed h.kept) (sym e)
    exp_runs (Text t) c ρ p q L G w e has sub ok h u = text_runs g n d c p L G w t q has.0 (ready_with has.0 (omega arith) u h.framed h.kept) (sym e)
    exp_runs (Template ps) c ρ p q L G w e has sub ok h u =
        let cp = parts_code c.scope ps in
        let op = o.CallGlobal Concat (parts_count ps) in
        let at_op = (has_back g.code p cp (MoreOp op NoOp) has).0 in
        let end : p + span cp + 3 ≡ q = one_end p q cp op e in
        exps_then g n (parts_run ps c ρ p (p + span cp) L G w refl (has_front g.code p cp (MoreOp op NoOp) has) sub ok h (under_less c.own (omega arith) u))
        (λ vs w1 G1 x1 k1 m. native_call_runs g n d c ρ (p + span cp) L G1 w1 (fits_on h x1 k1) q u Concat vs (at_op ∙ ap (λ i. Some (Begins (o.CallGlobal Concat i))) (sym m)) end)
    exp_runs (Name x) c ρ p q L G w e has sub ok h u =
        name_runs g n d c ρ p L G w h (find_local c.scope.locals x) (find_up c.scope.ups x) (find_var ρ x) x q (h.sees x (sub.all x (inl refl))) has e u
    exp_runs (Array xs) c ρ p q L G w e has sub ok h u =
        let cs = exps_code c.scope xs in
        let op = o.Array (count_of xs) in
        let at_op = (has_back g.code p cs (MoreOp op NoOp) has).0 in
        let end : p + span cs + 2 ≡ q = one_end p q cs op e in
        exps_then g n (exps_run xs c ρ p (p + span cs) L G w refl (has_front g.code p cs (MoreOp op NoOp) has) sub ok h (under_less c.own (omega arith) u))
        (λ vs w1 G1 x1 k1 m. array_runs g n d c ρ (p + span cs) L G1 w1 (fits_on h x1 k1) q u vs (at_op ∙ ap (λ i. Some (Begins (o.Array i))) (sym m)) end)
    exp_runs (Dict ds) c ρ p q L G w e has sub ok h u =
        let cs = pairs_code c.scope ds in
        let op = o.Dict (pairs_count ds) in
        let at_op = (has_back g.code p cs (MoreOp op NoOp) has).0 in
        let end : p + span cs + 2 ≡ q = one_end p q cs op e in
        pairs_then g n (pairs_run ds c ρ p (p + span cs) L G w refl (has_front g.code p cs (MoreOp op NoOp) has) sub ok h (under_less c.own (omega arith) u))
        (λ kvs w1 G1 x1 k1 m. dict_runs g n d c ρ (p + span cs) L G1 w1 (fits_on h x1 k1) q u kvs (pairs_count ds) m at_op end)
    exp_runs (Neg x) c ρ p q L G w e has sub ok h u =
        let cx = exp_code c.scope x in
        let rest = MoreOp (o.Integer (pos 0)) (MoreOp o.Minus NoOp) in
        let p1 = p + span cx in
        let at_op = has_back g.code p cx rest has in
        let end : p1 + 2 + 1 ≡ q = omega (arith, e, span-after cx rest) in
        exp_then g n (exp_runs x c ρ p p1 L G w refl (has_front g.code p cx rest has) sub ok h (under_less c.own (omega arith) u))
        (λ y w1 G1 x1 k1.
        let h1 = fits_on h x1 k1 in
        run_after g n (integer_step g n d c ρ p1 (Temp y ∷ L) G1 w1 (fits_push y h1) (pos 0) q at_op.0 (omega arith) u) (extends_same G1)
        (minus_runs g n d c ρ (p1 + 2) L G1 w1 h1 q u y at_op.2.0 end))
    exp_runs (Not x) c ρ p q L G w e has sub ok h u =
        let cx = exp_code c.scope x in
        let at_op = (has_back g.code p cx (MoreOp o.Not NoOp) has).0 in
        let end : p + span cx + 1 ≡ q = one_end p q cx o.Not e in
        exp_then g n (exp_runs x c ρ p (p + span cx) L G w refl (has_front g.code p cx (MoreOp o.Not NoOp) has) sub ok h (under_less c.own (omega arith) u))
        (λ y w1 G1 x1 k1. not_runs g n d c ρ (p + span cx) L G1 w1 (fits_on h x1 k1) q u y at_op end)
    exp_runs (Binary b.Or x y) c ρ p q L G w e has sub ok h u =
        let cx = exp_code c.scope x in let cy = exp_code c.scope y in
        let op = o.Or 2 in
        let p1 = p + span cx in let p2 = p1 + span cy in
        let has1 = has_back g.code p cx (cy ⊕ MoreOp op NoOp) has in
        let at_op = (has_back g.code p1 cy (MoreOp op NoOp) has1).0 in
        let end : p2 + 2 ≡ q = two_end g p q cx cy op e in
        exp_then g n (exp_runs x c ρ p p1 L G w refl (has_front g.code p cx (cy ⊕ MoreOp op NoOp) has) (sub_left (exp_frees true x) (exp_frees true y) sub) ok.0 h (under_less c.own (omega arith) u))
        (λ a w1 G1 x1 k1.
        let h1 = fits_on h x1 k1 in
        exp_then g n (exp_runs y c ρ p1 p2 (Temp a ∷ L) G1 w1 refl (has_front g.code p1 cy (MoreOp op NoOp) has1) (sub_right (exp_frees true x) (exp_frees true y) sub) ok.1 (fits_push a h1) (under_less c.own (omega arith) u))
        (λ z w2 G2 x2 k2. or_runs g n d c ρ p2 L G2 w2 (fits_on h1 x2 (kept_on L k2 k2.layout)) q u a z at_op end))
    exp_runs (Binary b.And x y) c ρ p q L G w e has sub ok h u =
        let cx = exp_code c.scope x in let cy = exp_code c.scope y in
        let op = o.And 2 in
        let p1 = p + span cx in let p2 = p1 + span cy in
        let has1 = has_back g.code p cx (cy ⊕ MoreOp op NoOp) has in
        let at_op = (has_back g.code p1 cy (MoreOp op NoOp) has1).0 in
        let end : p2 + 2 ≡ q = two_end g p q cx cy op e in
        exp_then g n (exp_runs x c ρ p p1 L G w refl (has_front g.code p cx (cy ⊕ MoreOp op NoOp) has) (sub_left (exp_frees true x) (exp_frees true y) sub) ok.0 h (under_less c.own (omega arith) u))
        (λ a w1 G1 x1 k1.
        let h1 = fits_on h x1 k1 in
        exp_then g n (exp_runs y c ρ p1 p2 (Temp a ∷ L) G1 w1 refl (has_front g.code p1 cy (MoreOp op NoOp) has1) (sub_right (exp_frees true x) (exp_frees true y) sub) ok.1 (fits_push a h1) (under_less c.own (omega arith) u))
        (λ z w2 G2 x2 k2. and_runs g n d c ρ p2 L G2 w2 (fits_on h1 x2 (kept_on L k2 k2.layout)) q u a z at_op end))
    exp_runs (Binary op x y) c ρ p q L G w e has sub ok h u =
        let cx = exp_code c.scope x in let cy = exp_code c.scope y in
        let code = operator_op op in
        let p1 = p + span cy in let p2 = p1 + span cx in
        let has1 = has_back g.code p cy (cx ⊕ MoreOp code NoOp) has in
        let at_op = (has_back g.code p1 cx (MoreOp code NoOp) has1).0 in
        let end : p2 + 1 ≡ q = two_end g p q cy cx code e in
        exp_then g n (exp_runs y c ρ p p1 L G w refl (has_front g.code p cy (cx ⊕ MoreOp code NoOp) has) (sub_right (exp_frees true x) (exp_frees true y) sub) ok.1 h (under_less c.own (omega arith) u))
        (λ z w1 G1 x1 k1.
        let h1 = fits_on h x1 k1 in
        exp_then g n (exp_runs x c ρ p1 p2 (Temp z ∷ L) G1 w1 refl (has_front g.code p1 cx (MoreOp code NoOp) has1) (sub_left (exp_frees true x) (exp_frees true y) sub) ok.0 (fits_push z h1) (under_less c.own (omega arith) u))
        (λ a w2 G2 x2 k2. operator_runs g n d c ρ p2 L G2 w2 (fits_on h1 x2 (kept_on L k2 k2.layout)) a z q end u op refl at_op))
    exp_runs (Coalesce x y) c ρ p q L G w e has sub ok h u =
        let cx = exp_code c.scope x in let cy = exp_code c.scope y in
        let rest = MoreOp (o.JumpIfStackNotNull (pos (span cy + 1))) (MoreOp o.Pop cy) in
        let p1 = p + span cx in
        let has1 = has_back g.code p cx rest has in
        let end : q ≡ p1 + 2 + (span cy + 1) = omega (arith, e, span-after cx rest) in
        exp_then g n (exp_runs x c ρ p p1 L G w refl (has_front g.code p cx rest has) (sub_left (exp_frees true x) (exp_frees true y) sub) ok.0 h (under_less c.own (omega arith) u))
        (λ a w1 G1 x1 k1.
        let h1 = fits_on h x1 k1 in
        let there : p1 + 2 + 1 ≡ p1 + 3 = omega arith in
        coalesce_runs g n d c ρ p1 L G1 w1 h1 a cy q (value g.fixed again d y ρ w1) has1 end u
        (exp_runs y c ρ (p1 + 3) q L G1 w1 (omega arith) (subst (λ z. HasAt g.code z cy) there has1.2.2) (sub_right (exp_frees true x) (exp_frees true y) sub) ok.1 h1 u))
    exp_runs (Prop x t) c ρ p q L G w e has sub ok h u =
        let cx = exp_code c.scope x in
        let rest = MoreOp (o.Str t) (MoreOp o.GetProperty NoOp) in
        let p1 = p + span cx in
        let has1 = has_back g.code p cx rest has in
        let end : p1 + 2 + 1 ≡ q = omega (arith, e, span-after cx rest) in
        exp_then g n (exp_runs x c ρ p p1 L G w refl (has_front g.code p cx rest has) sub ok h (under_less c.own (omega arith) u))
        (λ y w1 G1 x1 k1.
        let h1 = fits_on h x1 k1 in
        run_after g n (text_step g n d c ρ p1 (Temp y ∷ L) G1 w1 (fits_push y h1) t q has1.0 (omega arith) u) (extends_same G1)
        (property_runs g n d c ρ (p1 + 2) L G1 w1 h1 q u y t p1 has1.0 has1.2.0 end))
    exp_runs (PropNullish x t) c ρ p q L G w e has sub ok h u =
        let cx = exp_code c.scope x in
        let rest = MoreOp (o.Str t) (MoreOp o.GetPropertyNullish NoOp) in
        let p1 = p + span cx in
        let has1 = has_back g.code p cx rest has in
        let end : p1 + 2 + 1 ≡ q = omega (arith, e, span-after cx rest) in
        exp_then g n (exp_runs x c ρ p p1 L G w refl (has_front g.code p cx rest has) sub ok h (under_less c.own (omega arith) u))
        (λ y w1 G1 x1 k1.
        let h1 = fits_on h x1 k1 in
        run_after g n (text_step g n d c ρ p1 (Temp y ∷ L) G1 w1 (fits_push y h1) t q has1.0 (omega arith) u) (extends_same G1)
        (nullish_runs g n d c ρ (p1 + 2) L G1 w1 h1 q u y t p1 has1.0 has1.2.0 end))
    exp_runs (Index x k) c ρ p q L G w e has sub ok h u =
        let cx = exp_code c.scope x in let ck = exp_code c.scope k in
        let p1 = p + span cx in let p2 = p1 + span ck in
        let has1 = has_back g.code p cx (ck ⊕ MoreOp o.GetProperty NoOp) has in
        let at_op = (has_back g.code p1 ck (MoreOp o.GetProperty NoOp) has1).0 in
        let end : p2 + 1 ≡ q = two_end g p q cx ck o.GetProperty e in
        exp_then g n (exp_runs x c ρ p p1 L G w refl (has_front g.code p cx (ck ⊕ MoreOp o.GetProperty NoOp) has) (sub_left (exp_frees true x) (exp_frees true k) sub) ok.0 h (under_less c.own (omega arith) u))
        (λ a w1 G1 x1 k1.
        let h1 = fits_on h x1 k1 in
        exp_then g n (exp_runs k c ρ p1 p2 (Temp a ∷ L) G1 w1 refl (has_front g.code p1 ck (MoreOp o.GetProperty NoOp) has1) (sub_right (exp_frees true x) (exp_frees true k) sub) ok.1 (fits_push a h1) (under_less c.own (omega arith) u))
        (λ z w2 G2 x2 k2. get_item_runs g n d c ρ p2 L G2 w2 (fits_on h1 x2 (kept_on L k2 k2.layout)) z a q end u at_op))
    exp_runs (Call f xs) c ρ p q L G w e has sub ok h u =
        let cs = exps_code c.scope xs in
        let cc2 = call_code (called_native c.scope f) (count_of xs) (exp_code c.scope f) in
        let p1 = p + span cs in
        let has1 = has_back g.code p cs cc2 has in
        let end : q ≡ p1 + span cc2 = omega (arith, e, span-after cs cc2) in
        exps_then g n (exps_run xs c ρ p p1 L G w refl (has_front g.code p cs cc2 has) (sub_right (exp_frees true f) (exps_frees true xs) sub) ok.2 h (under_less c.own (omega arith) u))
        (λ vs w1 G1 x1 k1 m.
        let h1 = fits_on h x1 k1 in
        callee_runs g n d again ih c ρ p1 q L vs G1 w1 h1 u f (λ x is. sub.all x (subst (λ z. In x (exp_frees true z ++ exps_frees true xs)) (sym is) (inl refl)))
        (subst (λ j. CalleeOk c.sight f j) (sym m) ok.0)
        (subst (λ j. HasAt g.code p1 (call_code (called_native c.scope f) j (exp_code c.scope f))) (sym m) has1)
        (subst (λ j. q ≡ p1 + span (call_code (called_native c.scope f) j (exp_code c.scope f))) (sym m) end)
        (λ q2 e2 has2 u2. exp_runs f c ρ p1 q2 (temps vs L) G1 w1 e2 has2 (sub_left (exp_frees true f) (exps_frees true xs) sub) ok.1 (fits_temps vs L h1) u2))
    exp_runs (Lambda ps body) c ρ p q L G w e has sub ok h u =
        lambda_runs g n d c ρ p q L lambda_name ps body G w (has.0, has.1, omega (arith, e), omega (arith, e)) sub ok h u

    pub exps_run : (xs : Exps) (c : Ctx) (ρ : Env) (p q : ℕ) (L : List Seat) (G : Ghost) (w : World) → q ≡ p + span (exps_code c.scope xs) → HasAt g.code p (exps_code c.scope xs) → Sub (exps_frees true xs) c.words → ExpsOk c.sight xs → Fits g n d c ρ L G w → Under q c.own → Run g n (landings c) (at c p L G w) G (ExpsAt g n c q (count_of xs) L) (values g.fixed again d xs ρ w)
    exps_run NoExp c ρ p q L G w e has sub ok h u =
        gives g n (stays g _) (record { many = refl; is = ap (λ z. at c z L G w) (omega arith); kept = h.kept })
    exps_run (MoreExp x xs) c ρ p q L G w e has sub ok h u =
        let cx = exp_code c.scope x in let cs = exps_code c.scope xs in
        let p1 = p + span cx in
        let end : q ≡ p1 + span cs = omega (arith, e, span-after cx cs) in
        exp_then g n (exp_runs x c ρ p p1 L G w refl (has_front g.code p cx cs has) (sub_left (exp_frees true x) (exps_frees true xs) sub) ok.0 h (under_less c.own (omega arith) u))
        (λ y w1 G1 x1 k1.
        let h1 = fits_on h x1 k1 in
        exps_then g n (exps_run xs c ρ p1 q (Temp y ∷ L) G1 w1 end (has_back g.code p cx cs has) (sub_right (exp_frees true x) (exps_frees true xs) sub) ok.1 (fits_push y h1) u)
        (λ vs w2 G2 x2 k2 m. gives g n (stays g _) (record { many = ap suc m; is = refl; kept = kept_on L k2 k2.layout })))

    pub parts_run : (ps : Parts) (c : Ctx) (ρ : Env) (p q : ℕ) (L : List Seat) (G : Ghost) (w : World) → q ≡ p + span (parts_code c.scope ps) → HasAt g.code p (parts_code c.scope ps) → Sub (parts_frees true ps) c.words → PartsOk c.sight ps → Fits g n d c ρ L G w → Under q c.own → Run g n (landings c) (at c p L G w) G (ExpsAt g n c q (parts_count ps) L) (parts g.fixed again d ps ρ w)
    parts_run NoPart c ρ p q L G w e has sub ok h u =
        gives g n (stays g _) (record { many = refl; is = ap (λ z. at c z L G w) (omega arith); kept = h.kept })
    parts_run (MoreText t ps) c ρ p q L G w e has sub ok h u =
        let y = literal g.fixed t in
        let end : q ≡ p + 2 + span (parts_code c.scope ps) = omega (arith, e) in
        run_after g n (text_step g n d c ρ p L G w h t q has.0 (omega arith) u) (extends_same G)
        (exps_then g n (parts_run ps c ρ (p + 2) q (Temp y ∷ L) G w end has.2 sub ok (fits_push y h) u)
        (λ vs w2 G2 x2 k2 m. gives g n (stays g _) (record { many = omega (arith, m); is = refl; kept = kept_on L k2 k2.layout })))
    parts_run (MoreHole x ps) c ρ p q L G w e has sub ok h u =
        let cx = exp_code c.scope x in let cs = parts_code c.scope ps in
        let p1 = p + span cx in
        let end : q ≡ p1 + span cs = omega (arith, e, span-after cx cs) in
        exp_then g n (exp_runs x c ρ p p1 L G w refl (has_front g.code p cx cs has) (sub_left (exp_frees true x) (parts_frees true ps) sub) ok.0 h (under_less c.own (omega arith) u))
        (λ y w1 G1 x1 k1.
        let h1 = fits_on h x1 k1 in
        exps_then g n (parts_run ps c ρ p1 q (Temp y ∷ L) G1 w1 end (has_back g.code p cx cs has) (sub_right (exp_frees true x) (parts_frees true ps) sub) ok.1 (fits_push y h1) u)
        (λ vs w2 G2 x2 k2 m. gives g n (stays g _) (record { many = omega (arith, m); is = refl; kept = kept_on L k2 k2.layout })))

    pub pairs_run : (ds : Pairs) (c : Ctx) (ρ : Env) (p q : ℕ) (L : List Seat) (G : Ghost) (w : World) → q ≡ p + span (pairs_code c.scope ds) → HasAt g.code p (pairs_code c.scope ds) → Sub (pairs_frees true ds) c.words → PairsOk c.sight ds → Fits g n d c ρ L G w → Under q c.own → Run g n (landings c) (at c p L G w) G (PairsAt g n c q (pairs_count ds) L) (pairs g.fixed again d ds ρ w)
    pairs_run NoPair c ρ p q L G w e has sub ok h u =
        gives g n (stays g _) (record { many = refl; is = ap (λ z. at c z L G w) (omega arith); kept = h.kept })
    pairs_run (MorePair k x ds) c ρ p q L G w e has sub ok h u =
        let ck = exp_code c.scope k in let cx = exp_code c.scope x in let cs = pairs_code c.scope ds in
        let p1 = p + span ck in let p2 = p1 + span cx in
        let has1 = has_back g.code p ck (cx ⊕ cs) has in
        let sub1 = sub_right (exp_frees true k) (exp_frees true x ++ pairs_frees true ds) sub in
        let end : q ≡ p2 + span cs = omega (arith, e, span-after ck (cx ⊕ cs), span-after cx cs) in
        exp_then g n (exp_runs k c ρ p p1 L G w refl (has_front g.code p ck (cx ⊕ cs) has) (sub_left (exp_frees true k) (exp_frees true x ++ pairs_frees true ds) sub) ok.0 h (under_less c.own (omega arith) u))
        (λ a w1 G1 x1 k1.
        let h1 = fits_on h x1 k1 in
        exp_then g n (exp_runs x c ρ p1 p2 (Temp a ∷ L) G1 w1 refl (has_front g.code p1 cx cs has1) (sub_left (exp_frees true x) (pairs_frees true ds) sub1) ok.1 (fits_push a h1) (under_less c.own (omega arith) u))
        (λ y w2 G2 x2 k2.
        let h2 = fits_on (fits_push a h1) x2 k2 in
        pairs_then g n (pairs_run ds c ρ p2 q (Temp y ∷ Temp a ∷ L) G2 w2 end (has_back g.code p1 cx cs has1) (sub_right (exp_frees true x) (pairs_frees true ds) sub1) ok.2 (fits_push y h2) u)
        (λ kvs w3 G3 x3 k3 m. gives g n (stays g _) (record { many = omega (arith, m); is = refl; kept = kept_on L k3 k3.layout }))))
