-- Operations one after another: what holds of parts holds of the whole.
use Rattle.std.specs.Prelude.{◌≡◌, ◌≤◌, ℕ, zero, suc, ◌+◌, ◌-◌, ◌&&◌, ◌||◌, ◌==◌, nat_le, max, ℤ, pos, negsuc, ◌+ℤ◌, List, ◌++◌, Bool, true, false, Option, Some, None}
use Rattle.std.proofs.Common.{refl, sym, ap, ap₂, ◌∙◌, subst, arith, append_assoc, cond}
use Rattle.std.proofs.lemmas.Bool.Decides.{nat_tests}
use Rattle.std.proofs.lemmas.Int.{ints}
use Rattle.hog_ops.specs.Plain.{Op, Ops, Callable, NoOp, MoreOp, ◌⊕◌}
use Rattle.hog_ops.specs.Table.{Row, Alone, Counts, Leads, Calls, Spells, Gives, Holds, row, size, span}
use Rattle.hog_ops.specs.Elements.{elements, op_elements}
use Rattle.hog_ops.specs.Valid.{op_allowed, allowed, op_height, height, is_place, is_place_of, may_lead, row_leads, or_then, op_lost, lost_in, lost}
use Rattle.hog_ops.proofs.Lost.{or_then_none, lost_none}

pub join_assoc : (os qs rs : Ops) → (os ⊕ qs) ⊕ rs ≡ os ⊕ (qs ⊕ rs)
join_assoc NoOp qs rs = refl
join_assoc (MoreOp o os) qs rs = ap (MoreOp o) (join_assoc os qs rs)

pub join_none : (os : Ops) → os ⊕ NoOp ≡ os
join_none NoOp = refl
join_none (MoreOp o os) = ap (MoreOp o) (join_none os)

pub span-join : (os qs : Ops) → span (os ⊕ qs) ≡ span os + span qs
span-join NoOp qs = omega arith
span-join (MoreOp o os) qs = omega (arith, span-join os qs)

pub elements-join : (os qs : Ops) → elements (os ⊕ qs) ≡ elements os ++ elements qs
elements-join NoOp qs = refl
elements-join (MoreOp o os) qs = ap (λ es. op_elements o ++ es) (elements-join os qs) ∙ sym (append_assoc (op_elements o) (elements os) (elements qs))

both : (a b c : Bool) → (a && b && c) ≡ (a && (b && c))
both true b c = refl
both false b c = refl

pub allowed-join : (os qs : Ops) → allowed (os ⊕ qs) ≡ (allowed os && allowed qs)
allowed-join NoOp qs = refl
allowed-join (MoreOp o os) qs = ap (λ b. op_allowed o && b) (allowed-join os qs) ∙ sym (both (op_allowed o) (allowed os) (allowed qs))

pub height-join : (os qs : Ops) → height (os ⊕ qs) ≡ max (height os) (height qs)
height-join NoOp qs = omega arith
height-join (MoreOp o os) qs = omega (arith, height-join os qs)

-- ---- places and distances

equal : (n : ℕ) → (n == n) ≡ true
equal n = grind (arith, nat_tests)

or_true : (a : Bool) → (a || true) ≡ true
or_true true = refl
or_true false = refl

at_least : (m n : ℕ) → nat_le m (m + n) ≡ true
at_least m n = grind (arith, nat_tests)

-- a place of what stands behind other operations
pub is_place-join : (os qs : Ops) (n : ℕ) → is_place qs n ≡ true → is_place (os ⊕ qs) (span os + n) ≡ true
is_place-join NoOp qs n h = ap (is_place qs) (plain n) ∙ h
  where
    plain : (n : ℕ) → 0 + n ≡ n
    plain n = omega arith
is_place-join (MoreOp o os) qs n h =
    let k = (size o + span os) + n in
    let same : k ≡ size o + (span os + n) = omega arith in
    let less : k - size o ≡ span os + n = omega arith in
    ap (λ b. (k == 0) || b) (ap₂ (λ a b. a && b) (ap (nat_le (size o)) same ∙ at_least (size o) (span os + n)) (ap (is_place (os ⊕ qs)) less ∙ is_place-join os qs n h)) ∙ or_true (k == 0)

first_place : (qs : Ops) → is_place qs 0 ≡ true
first_place NoOp = refl
first_place (MoreOp o os) = refl

-- where some operations end, the next begins or the body ends
pub is_place-seam : (os qs : Ops) → is_place (os ⊕ qs) (span os) ≡ true
is_place-seam os qs = let here : span os ≡ span os + 0 = omega arith in ap (is_place (os ⊕ qs)) here ∙ is_place-join os qs 0 (first_place qs)

-- a place of operations is one where others stand behind them
pub is_place-front : (os qs : Ops) (n : ℕ) → is_place os n ≡ true → is_place (os ⊕ qs) n ≡ true
is_place-front NoOp qs n h = ap (is_place qs) (zero_is n h) ∙ first_place qs
  where
    zero_is : (n : ℕ) → (n == 0) ≡ true → n ≡ 0
    zero_is n h = grind (arith, nat_tests)
is_place-front (MoreOp o os) qs n h = front_more (n == 0) (nat_le (size o) n) (is_place os (n - size o)) (is_place (os ⊕ qs) (n - size o)) h (is_place-front os qs (n - size o))
  where
    front_more : (a b x y : Bool) → (a || (b && x)) ≡ true → (x ≡ true → y ≡ true) → (a || (b && y)) ≡ true
    front_more true b x y k f = refl
    front_more false true x y k f = f k
    front_more false false x y k f = absurd cc

pub lost_in-join : (base : ℕ) (body : Ops) (at : ℕ) (os qs : Ops) → lost_in base body at (os ⊕ qs) ≡ or_then (lost_in base body at os) (lost_in base body (at + span os) qs)
lost_in-join base body at NoOp qs = let here : at ≡ at + 0 = omega arith in ap (λ n. lost_in base body n qs) here
lost_in-join base body at (MoreOp o os) qs =
    let there : (at + size o) + span os ≡ at + (size o + span os) = omega arith in
    ap (or_then (op_lost base body at o)) (lost_in-join base body (at + size o) os qs ∙ ap (λ n. or_then (lost_in base body (at + size o) os) (lost_in base body n qs)) there)
    ∙ sym (or_then_assoc (op_lost base body at o) (lost_in base body (at + size o) os) (lost_in base body (at + (size o + span os)) qs))
  where
    or_then_assoc : (x y z : Option ℕ) → or_then (or_then x y) z ≡ or_then x (or_then y z)
    or_then_assoc None y z = refl
    or_then_assoc (Some a) y z = refl

-- ---- a part by itself, and in its place

-- a place that is meant from a part's start, meant from that of the whole
shifted : (at end n : ℕ) (d : ℤ) → pos end +ℤ d ≡ pos n → pos (at + end) +ℤ d ≡ pos (at + n)
shifted at end n d e = omega (arith, ints)

place_within : (before part behind : Ops) (n : ℕ) → is_place part n ≡ true → is_place (before ⊕ (part ⊕ behind)) (span before + n) ≡ true
place_within before part behind n h = is_place-join before (part ⊕ behind) n (is_place-front part behind n h)

leads_within : (before part behind : Ops) (end : ℕ) (d z : ℤ) → pos end +ℤ d ≡ z → is_place_of part z ≡ true → is_place_of (before ⊕ (part ⊕ behind)) (pos (span before + end) +ℤ d) ≡ true
leads_within before part behind end d (pos n) e h = ap (is_place_of (before ⊕ (part ⊕ behind))) (shifted (span before) end n d e) ∙ place_within before part behind n h
leads_within before part behind end d (negsuc n) e h = absurd cc

and_true : (a b : Bool) → (a && b) ≡ true → (a ≡ true) × (b ≡ true)
and_true true b e = (refl, e)
and_true false b e = absurd cc

row_within : (before part behind : Ops) (end : ℕ) (r : Row) → row_leads part end r ≡ true → row_leads (before ⊕ (part ⊕ behind)) (span before + end) r ≡ true
row_within before part behind end (Alone n) h = refl
row_within before part behind end (Counts n least count) h = refl
row_within before part behind end (Leads n d) h =
    let k = and_true (may_lead n d) (is_place_of part (pos end +ℤ d)) h in
    ap₂ (λ a b. a && b) k.0 (leads_within before part behind end d (pos end +ℤ d) refl k.1)
row_within before part behind end (Calls f n) h = refl
row_within before part behind end (Spells t) h = refl
row_within before part behind end (Gives z) h = refl
row_within before part behind end (Holds name params inner captures) h = refl

leads_where : (b : Bool) (p : ℕ) → cond b None (Some p) ≡ None → b ≡ true
leads_where true p e = refl
leads_where false p e = absurd cc

row_led : (base' : ℕ) (before part behind : Ops) (at : ℕ) (o : Op) → row_leads (before ⊕ (part ⊕ behind)) (span before + (at + size o)) (row o) ≡ true
    → cond (row_leads (before ⊕ (part ⊕ behind)) ((span before + at) + size o) (row o)) None (Some (base' + (span before + at))) ≡ None
row_led base' before part behind at o h =
    let there : (span before + at) + size o ≡ span before + (at + size o) = omega arith in
    ap (λ b. cond b None (Some (base' + (span before + at)))) (ap (λ e. row_leads (before ⊕ (part ⊕ behind)) e (row o)) there ∙ h)

op_within : (base base' : ℕ) (before part behind : Ops) (at : ℕ) (o : Op) → op_lost base part at o ≡ None → op_lost base' (before ⊕ (part ⊕ behind)) (span before + at) o ≡ None
op_within base base' before part behind at (Callable name params inner captures) h = lost_none (base + (at + 5)) (base' + ((span before + at) + 5)) inner h
op_within base base' before part behind at o h =
    row_led base' before part behind at o (row_within before part behind (at + size o) (row o) (leads_where (row_leads part (at + size o) (row o)) (base + at) h))

ops_within : (base base' : ℕ) (before part behind : Ops) (at : ℕ) (os : Ops) → lost_in base part at os ≡ None → lost_in base' (before ⊕ (part ⊕ behind)) (span before + at) os ≡ None
ops_within base base' before part behind at NoOp h = refl
ops_within base base' before part behind at (MoreOp o os) h =
    let k = or_then_none (op_lost base part at o) (lost_in base part (at + size o) os) h in
    let there : (span before + at) + size o ≡ span before + (at + size o) = omega arith in
    ap₂ or_then (op_within base base' before part behind at o k.0) (ap (λ n. lost_in base' (before ⊕ (part ⊕ behind)) n os) there ∙ ops_within base base' before part behind (at + size o) os k.1)

-- Operations that are a code by themselves lose nothing in their place among others.
pub lost-within : (base : ℕ) (before part behind : Ops) → lost 0 part ≡ None → lost_in base (before ⊕ (part ⊕ behind)) (span before) part ≡ None
lost-within base before part behind h =
    let here : span before ≡ span before + 0 = omega arith in
    ap (λ n. lost_in base (before ⊕ (part ⊕ behind)) n part) here ∙ ops_within 0 base before part behind 0 part h

-- two codes one after the other are a code
pub lost-join : (os qs : Ops) → lost 0 os ≡ None → lost 0 qs ≡ None → lost 0 (os ⊕ qs) ≡ None
lost-join os qs h k =
    lost_in-join 0 (os ⊕ qs) 0 os qs ∙ ap₂ or_then (first_part) (second_part)
  where
    first_part : lost_in 0 (os ⊕ qs) 0 os ≡ None
    first_part = lost-within 0 NoOp os qs h

    second_part : lost_in 0 (os ⊕ qs) (0 + span os) qs ≡ None
    second_part =
        let here : 0 + span os ≡ span os = omega arith in
        ap₂ (λ x n. lost_in 0 (os ⊕ x) n qs) (sym (join_none qs)) here ∙ lost-within 0 os qs NoOp k
