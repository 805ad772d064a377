-- The places of a code, and that each of its operations fits.
use Rattle.std.proofs.Common.{◌≡◌, ℕ, zero, suc, ◌+◌, ◌-◌, ℤ, pos, negsuc, List, [], ◌∷◌, ◌++◌, length, replicate, Option, Some, None, Bool, true, false, cond, refl, sym, ap, ap₂, ◌∙◌, subst, ◌⊎◌, inl, inr, ⊎_elim, arith, length-append, append_assoc, append-nil}
use Rattle.std.specs.Prelude.{◌==◌, ◌&&◌, ◌||◌, nat_le, ◌+ℤ◌, slice_get}
use Rattle.std.proofs.lemmas.Option.{none-some}
use Rattle.std.proofs.lemmas.Bool.Decides.{nat_tests}
use Rattle.std.proofs.lemmas.Int.{ints}
use Rattle.hog_ops.specs.declared.capture.Capture.{Capture}
use Rattle.hog_ops.specs.Plain.{Op, Ops, NoOp, MoreOp, Callable}
use Rattle.hog_ops.specs.Table.{Row, Alone, Counts, Leads, Calls, Spells, Gives, Holds, row, size, span}
use Rattle.hog_ops.specs.Valid as valid
use Rattle.hog_ops.specs.Valid.{op_allowed, allowed, row_allowed, is_place_of, may_lead, row_leads, or_then, op_lost, lost_in, lost, IsCode}
use Rattle.hog_ops.proofs.Lost.{or_then_none}
use Rattle.vm_course.specs.State.{Slot, Begins, BodyEnds, Operand, op_slots, slots, code_slots, header}
use Rattle.vm_course.specs.Step.{place_at}
use Rattle.vm_course.specs.Belongs.{stands_at, is_place}
use Rattle.vm_course.specs.Fits.{row_leads_to, OpFits}

replicated : (k : ℕ) → length (replicate k Operand) ≡ k
replicated zero = refl
replicated (suc k) = ap suc (replicated k)

mutual
  op_length : (o : Op) → length (op_slots o) ≡ size o
  op_length (Callable name params body captures) =
      let tail = replicate (1 + (length captures + length captures)) Operand in
      let e = ops_length body in
      let a = length-append (slots body) (BodyEnds ∷ tail) in
      let b = replicated (1 + (length captures + length captures)) in
      omega (arith, e, a, b)
  op_length o = refl

  -- as many places as elements
  pub ops_length : (os : Ops) → length (slots os) ≡ span os
  ops_length NoOp = refl
  ops_length (MoreOp o os) = let a = op_length o in let b = ops_length os in let c = length-append (op_slots o) (slots os) in omega arith

pub code_length : (code : Ops) → length (code_slots code) ≡ 2 + span code
code_length code = let e = ops_length code in omega arith

-- ---- places behind others

get_behind : (pre rest : List Slot) (n : ℕ) → slice_get (pre ++ rest) (length pre + n) ≡ slice_get rest n
get_behind [] rest n = let e : 0 + n ≡ n = omega arith in ap (slice_get rest) e
get_behind (x ∷ pre) rest n = let e : suc (length pre) + n ≡ suc (length pre + n) = omega arith in ap (slice_get (x ∷ (pre ++ rest))) e ∙ get_behind pre rest n

equal_behind : (k m n : ℕ) → ((k + m) == (k + n)) ≡ (m == n)
equal_behind k m n = grind (arith, nat_tests)

pub place_behind : (pre rest : List Slot) (n : ℕ) → is_place (pre ++ rest) (length pre + n) ≡ is_place rest n
place_behind pre rest n = ap (stands_at (pre ++ rest) (length pre + n)) (get_behind pre rest n) ∙ go (slice_get rest n)
  where
    go : (x : Option Slot) → stands_at (pre ++ rest) (length pre + n) x ≡ stands_at rest n x
    go (Some (Begins o)) = refl
    go (Some BodyEnds) = refl
    go (Some Operand) = refl
    go None = ap (λ k. (length pre + n) == k) (length-append pre rest) ∙ equal_behind (length pre) n (length rest)

-- behind an operation
behind_op : (o : Op) (rest : List Slot) (n : ℕ) → is_place (op_slots o ++ rest) (size o + n) ≡ is_place rest n
behind_op o rest n = ap (λ k. is_place (op_slots o ++ rest) (k + n)) (sym (op_length o)) ∙ place_behind (op_slots o) rest n

-- what follows operations is the end of a body, or nothing at all
abbrev Stops : List Slot → Type 0
Stops [] = Unit {0}
Stops (Begins o ∷ post) = ⊥
Stops (BodyEnds ∷ post) = Unit {0}
Stops (Operand ∷ post) = ⊥

stops_place : (post : List Slot) → Stops post → is_place post 0 ≡ true
stops_place [] h = refl
stops_place (Begins o ∷ post) h = refl
stops_place (BodyEnds ∷ post) h = refl
stops_place (Operand ∷ post) h = absurd h

first_place : (o : Op) (rest : List Slot) → is_place (op_slots o ++ rest) 0 ≡ true
first_place (Callable name params body captures) rest = refl
first_place o rest = refl

zero_is : (n : ℕ) → (n == 0) ≡ true → n ≡ 0
zero_is n h = grind (arith, nat_tests)

and_true : (a b : Bool) → (a && b) ≡ true → (a ≡ true) × (b ≡ true)
and_true true b e = (refl, e)
and_true false b e = absurd cc

or_true : (a b : Bool) → (a || b) ≡ true → (a ≡ true) ⊎ (b ≡ true)
or_true true b e = inl refl
or_true false b e = inr e

first_of : (o : Op) (rest : List Slot) (n : ℕ) → (n == 0) ≡ true → is_place (op_slots o ++ rest) n ≡ true
first_of o rest n z = ap (is_place (op_slots o ++ rest)) (zero_is n z) ∙ first_place o rest

later_of : (o : Op) (rest : List Slot) (n : ℕ) → nat_le (size o) n ≡ true → is_place rest (n - size o) ≡ true → is_place (op_slots o ++ rest) n ≡ true
later_of o rest n h k =
    let split : n ≡ size o + (n - size o) = grind (arith, nat_tests) in
    ap (is_place (op_slots o ++ rest)) split ∙ behind_op o rest (n - size o) ∙ k

-- the places of operations are places of a code
places : (os : Ops) (post : List Slot) (n : ℕ) → Stops post → valid.is_place os n ≡ true → is_place (slots os ++ post) n ≡ true
places NoOp post n h e = ap (is_place post) (zero_is n e) ∙ stops_place post h
places (MoreOp o os) post n h e =
    let rest = slots os ++ post in
    ap (λ xs. is_place xs n) (append_assoc (op_slots o) (slots os) post)
    ∙ ⊎_elim (λ z. first_of o rest n z)
    (λ k. let b = and_true (nat_le (size o) n) (valid.is_place os (n - size o)) k in later_of o rest n b.0 (places os post (n - size o) h b.1))
    (or_true (n == 0) (nat_le (size o) n && valid.is_place os (n - size o)) e)

-- ---- where operations stand

-- These operations stand in a code, at a place of a body that begins at the base, with what follows them in the code.
record Stands (code : List Slot) (base : ℕ) (body : Ops) (at : ℕ) (os : Ops) (post : List Slot) : Type 0 where
  of_body : (n : ℕ) → valid.is_place body n ≡ true → is_place code (base + n) ≡ true
  within : (n : ℕ) → valid.is_place os n ≡ true → valid.is_place body (at + n) ≡ true
  in_code : (n : ℕ) → is_place code (base + (at + n)) ≡ is_place (slots os ++ post) n

true_or : (a b : Bool) → b ≡ true → (a || b) ≡ true
true_or true b e = refl
true_or false b e = e

place_later : (o : Op) (os : Ops) (n : ℕ) → valid.is_place os n ≡ true → valid.is_place (MoreOp o os) (size o + n) ≡ true
place_later o os n e =
    let same : size o + n - size o ≡ n = omega arith in
    let le : nat_le (size o) (size o + n) ≡ true = grind (arith, nat_tests) in
    true_or ((size o + n) == 0) (nat_le (size o) (size o + n) && valid.is_place os (size o + n - size o))
    (ap₂ (λ a b. a && b) le (ap (valid.is_place os) same ∙ e))

start_place : (os : Ops) → valid.is_place os 0 ≡ true
start_place NoOp = refl
start_place (MoreOp o os) = refl

-- the operations behind the first
stands_later : (code : List Slot) (base : ℕ) (body : Ops) (at : ℕ) (o : Op) (os : Ops) (post : List Slot) → Stands code base body at (MoreOp o os) post → Stands code base body (at + size o) os post
stands_later code base body at o os post h = record {
  of_body = h.of_body;
  within = λ n e. let there : at + (size o + n) ≡ at + size o + n = omega arith in subst (λ k. valid.is_place body k ≡ true) there (h.within (size o + n) (place_later o os n e));
  in_code = λ n.
      let there : base + (at + size o + n) ≡ base + (at + (size o + n)) = omega arith in
      ap (is_place code) there ∙ h.in_code (size o + n) ∙ ap (λ xs. is_place xs (size o + n)) (append_assoc (op_slots o) (slots os) post) ∙ behind_op o (slots os ++ post) n;
}

-- the operations of a body
behind_header : (name : List ℕ) (params : ℕ) (inner : Ops) (captures : List Capture) (rest : List Slot) (n : ℕ)
    → is_place (op_slots (Callable name params inner captures) ++ rest) (header + n) ≡ is_place (slots inner ++ ((BodyEnds ∷ replicate (1 + (length captures + length captures)) Operand) ++ rest)) n
behind_header name params inner captures rest n =
    let tail = BodyEnds ∷ replicate (1 + (length captures + length captures)) Operand in
    let five : List Slot = Begins (Callable name params inner captures) ∷ Operand ∷ Operand ∷ Operand ∷ Operand ∷ [] in
    ap (λ xs. is_place (five ++ xs) (header + n)) (append_assoc (slots inner) tail rest) ∙ place_behind five (slots inner ++ (tail ++ rest)) n

stands_inside : (code : List Slot) (base : ℕ) (body : Ops) (at : ℕ) (name : List ℕ) (params : ℕ) (inner : Ops) (captures : List Capture) (os : Ops) (post : List Slot)
    → Stands code base body at (MoreOp (Callable name params inner captures) os) post
    → Stands code (base + (at + header)) inner 0 inner ((BodyEnds ∷ replicate (1 + (length captures + length captures)) Operand) ++ (slots os ++ post))
stands_inside code base body at name params inner captures os post h =
    let o = Callable name params inner captures in
    let more = (BodyEnds ∷ replicate (1 + (length captures + length captures)) Operand) ++ (slots os ++ post) in
    let same : (n : ℕ) → is_place code (base + (at + header) + n) ≡ is_place (slots inner ++ more) n = λ n.
    let there : base + (at + header) + n ≡ base + (at + (header + n)) = omega arith in
    ap (is_place code) there ∙ h.in_code (header + n) ∙ ap (λ xs. is_place xs (header + n)) (append_assoc (op_slots o) (slots os) post)
    ∙ behind_header name params inner captures (slots os ++ post) n in
    record {
      of_body = λ n e. same n ∙ places inner more n tt e;
      within = λ n e. let there : n ≡ 0 + n = omega arith in subst (λ k. valid.is_place inner k ≡ true) there e;
      in_code = λ n. let there : 0 + n ≡ n = omega arith in ap (λ k. is_place code (base + (at + header) + k)) there ∙ same n;
    }

-- ---- each operation fits

-- where an operation leads
leads_of : (code : List Slot) (base : ℕ) (body : Ops) (end : ℕ) (d : ℤ) (z : ℤ) → ((n : ℕ) → valid.is_place body n ≡ true → is_place code (base + n) ≡ true)
    → pos end +ℤ d ≡ z → is_place_of body z ≡ true → is_place code (place_at (base + end) d) ≡ true
leads_of code base body end (pos d) (pos n) f e h =
    let there : base + end + d ≡ base + n = omega (arith, ints) in ap (is_place code) there ∙ f n h
leads_of code base body end (negsuc d) (pos n) f e h =
    let there : base + end - suc d ≡ base + n = omega (arith, ints) in ap (is_place code) there ∙ f n h
leads_of code base body end d (negsuc n) f e h = absurd cc

row_to : (code : List Slot) (base : ℕ) (body : Ops) (end : ℕ) (r : Row) → ((n : ℕ) → valid.is_place body n ≡ true → is_place code (base + n) ≡ true) → row_leads body end r ≡ true → row_leads_to code (base + end) r ≡ true
row_to code base body end (Alone n) f h = refl
row_to code base body end (Counts n least count) f h = refl
row_to code base body end (Leads n d) f h =
    let k = and_true (may_lead n d) (is_place_of body (pos end +ℤ d)) h in leads_of code base body end d (pos end +ℤ d) f refl k.1
row_to code base body end (Calls g n) f h = refl
row_to code base body end (Spells t) f h = refl
row_to code base body end (Gives z) f h = refl
row_to code base body end (Holds name params inner captures) f h = refl

leads_where : (b : Bool) (p : ℕ) → cond b None (Some p) ≡ None → b ≡ true
leads_where true p e = refl
leads_where false p e = absurd cc

op_leads : (b : ℕ) (body : Ops) (at : ℕ) (o : Op) → op_lost b body at o ≡ None → row_leads body (at + size o) (row o) ≡ true
op_leads b body at (Callable name params inner captures) e = refl
op_leads b body at o e = leads_where (row_leads body (at + size o) (row o)) (b + at) e

-- the first of some operations
first_fits : (code : List Slot) (base : ℕ) (body : Ops) (at : ℕ) (o : Op) (os : Ops) (post : List Slot) (b : ℕ)
    → Stands code base body at (MoreOp o os) post → op_lost b body at o ≡ None → op_allowed o ≡ true → OpFits code (base + (at + size o)) o
first_fits code base body at o os post b h lost ok =
    let zero_more : size o ≡ size o + 0 = omega arith in
    let ends : valid.is_place (MoreOp o os) (size o) ≡ true = subst (λ k. valid.is_place (MoreOp o os) k ≡ true) (sym zero_more) (place_later o os 0 (start_place os)) in
    record {
      goes_on = h.of_body (at + size o) (h.within (size o) ends);
      leads = row_to code base body (at + size o) (row o) h.of_body (op_leads b body at o lost);
      allowed = ok;
    }

get_either : (xs ys : List Slot) (p : ℕ) (x : Slot) → slice_get (xs ++ ys) p ≡ Some x → (slice_get xs p ≡ Some x) ⊎ ((q : ℕ) × (p ≡ length xs + q) × (slice_get ys q ≡ Some x))
get_either [] ys p x e = let same : p ≡ 0 + p = omega arith in inr (p, same, e)
get_either (y ∷ xs) ys zero x e = inl e
get_either (y ∷ xs) ys (suc p) x e = ⊎_elim (λ h. inl h) (λ h. let at = h.1 in let same : suc p ≡ length (y ∷ xs) + h.0 = omega arith in inr (h.0, same, h.2)) (get_either xs ys p x e)

no_operation : (k p : ℕ) (o : Op) → slice_get (replicate k Operand) p ≡ Some (Begins o) → ⊥
no_operation zero p o e = none-some (Begins o) e
no_operation (suc k) zero o e = cc
no_operation (suc k) (suc p) o e = no_operation k p o e

no_end : (k p : ℕ) (o : Op) → slice_get (BodyEnds ∷ replicate k Operand) p ≡ Some (Begins o) → ⊥
no_end k zero o e = cc
no_end k (suc p) o e = no_operation k p o e

-- a function's body begins at a place
abbrev pub HoldsBody : List Slot → ℕ → Op → Type 0
HoldsBody code place (Callable name params inner captures) = is_place code (place + header) ≡ true
HoldsBody code place o = Unit {0}

-- an operation at a place fits there
pub record Good (code : List Slot) (place : ℕ) (o : Op) : Type 0 where
  pub fits : OpFits code (place + size o) o
  pub holds : HoldsBody code place o

-- every operation that begins among these slots fits there
abbrev AllFit : List Slot → ℕ → List Slot → Type 0
AllFit code from xs = (p : ℕ) (o : Op) → slice_get xs p ≡ Some (Begins o) → Good code (from + p) o

-- the first of some slots
first_good : (code : List Slot) (from : ℕ) (o q : Op) → Good code from o → Some (Begins o) ≡ Some (Begins q) → Good code (from + 0) q
first_good code from o q h e =
    let same : o ≡ q = cc in
    let there : from ≡ from + 0 = omega arith in
    subst (λ x. Good code (from + 0) x) same (subst (λ n. Good code n o) there h)

-- an operation that holds no others
alone_fits : (code : List Slot) (from k : ℕ) (o : Op) → Good code from o → AllFit code from (Begins o ∷ replicate k Operand)
alone_fits code from k o h zero q e = first_good code from o q h e
alone_fits code from k o h (suc p) q e = absurd (no_operation k p q e)

-- a function: itself, and the operations of its body
inside_fits : (code : List Slot) (from : ℕ) (name : List ℕ) (params : ℕ) (inner : Ops) (captures : List Capture) → Good code from (Callable name params inner captures)
    → AllFit code (from + header) (slots inner) → AllFit code from (op_slots (Callable name params inner captures))
inside_fits code from name params inner captures h k zero q e = first_good code from (Callable name params inner captures) q h e
inside_fits code from name params inner captures h k (suc p) q e =
    let more = 1 + (length captures + length captures) in
    let tail = BodyEnds ∷ replicate more Operand in
    ⊎_elim (λ a. absurd (no_operation 4 p q a))
    (λ b. ⊎_elim
    (λ c.
    let at = b.1 in
    let there : from + header + b.0 ≡ from + suc p = omega arith in
    subst (λ n. Good code n q) there (k b.0 q c))
    (λ d. absurd (no_end more d.0 q d.2))
    (get_either (slots inner) tail b.0 (Begins q) b.2))
    (get_either (replicate 4 Operand) (slots inner ++ tail) p (Begins q) e)

-- operations one after another
more_fit : (code : List Slot) (from : ℕ) (o : Op) (os : Ops) → AllFit code from (op_slots o) → AllFit code (from + size o) (slots os) → AllFit code from (slots (MoreOp o os))
more_fit code from o os h k p q e =
    ⊎_elim (λ a. h p q a)
    (λ b.
    let at = b.1 in
    let l = op_length o in
    let there : from + size o + b.0 ≡ from + p = omega arith in
    subst (λ n. Good code n q) there (k b.0 q b.2))
    (get_either (op_slots o) (slots os) p (Begins q) e)

mutual
  op_fits : (code : List Slot) (base : ℕ) (body : Ops) (at : ℕ) (o : Op) (os : Ops) (post : List Slot) (b : ℕ)
      → Stands code base body at (MoreOp o os) post → op_lost b body at o ≡ None → op_allowed o ≡ true → AllFit code (base + at) (op_slots o)
  op_fits code base body at (Callable name params inner captures) os post b h lost ok =
      let o = Callable name params inner captures in
      let there : base + (at + size o) ≡ base + at + size o = omega arith in
      let there2 : base + (at + header) + 0 ≡ base + at + header = omega arith in
      let inside = stands_inside code base body at name params inner captures os post h in
      let fits = subst (λ n. OpFits code n o) there (first_fits code base body at o os post b h lost ok) in
      let holds = subst (λ n. is_place code n ≡ true) there2 (inside.of_body 0 (start_place inner)) in
      inside_fits code (base + at) name params inner captures (record { fits = fits; holds = holds })
      (subst (λ n. AllFit code n (slots inner)) there2
      (ops_fit code (base + (at + header)) inner 0 inner ((BodyEnds ∷ replicate (1 + (length captures + length captures)) Operand) ++ (slots os ++ post)) (b + (at + 5)) inside lost ok))
  op_fits code base body at o os post b h lost ok =
      let there : base + (at + size o) ≡ base + at + size o = omega arith in
      alone_fits code (base + at) (size o - 1) o (record { fits = subst (λ n. OpFits code n o) there (first_fits code base body at o os post b h lost ok); holds = tt })

  ops_fit : (code : List Slot) (base : ℕ) (body : Ops) (at : ℕ) (os : Ops) (post : List Slot) (b : ℕ)
      → Stands code base body at os post → lost_in b body at os ≡ None → allowed os ≡ true → AllFit code (base + at) (slots os)
  ops_fit code base body at NoOp post b h lost ok = λ p q e. absurd (none-some (Begins q) e)
  ops_fit code base body at (MoreOp o os) post b h lost ok =
      let l = or_then_none (op_lost b body at o) (lost_in b body (at + size o) os) lost in
      let a = and_true (op_allowed o) (allowed os) ok in
      let there : base + (at + size o) ≡ base + at + size o = omega arith in
      more_fit code (base + at) o os (op_fits code base body at o os post b h l.0 a.0)
      (subst (λ n. AllFit code n (slots os)) there (ops_fit code base body (at + size o) os post b (stands_later code base body at o os post h) l.1 a.1))

code_stands : (code : Ops) → Stands (code_slots code) 2 code 0 code []
code_stands code =
    let two : List Slot = Operand ∷ Operand ∷ [] in
    let none : slots code ++ [] ≡ slots code = append-nil (slots code) in
    let same : (n : ℕ) → is_place (code_slots code) (2 + n) ≡ is_place (slots code ++ []) n = λ n. place_behind two (slots code) n ∙ ap (λ xs. is_place xs n) (sym none) in
    record {
      of_body = λ n e. same n ∙ places code [] n tt e;
      within = λ n e. let there : n ≡ 0 + n = omega arith in subst (λ k. valid.is_place code k ≡ true) there e;
      in_code = λ n. let there : 0 + n ≡ n = omega arith in ap (λ k. is_place (code_slots code) (2 + k)) there ∙ same n;
    }

-- Each operation of a code fits, and the body of each function begins at a place.
pub code_good : (code : Ops) (p : ℕ) (op : Op) → IsCode code → slice_get (code_slots code) p ≡ Some (Begins op) → Good (code_slots code) p op
code_good code zero op is e = absurd cc
code_good code (suc zero) op is e = absurd cc
code_good code (suc (suc p)) op is e =
    let there : 2 + 0 + p ≡ suc (suc p) = omega arith in
    subst (λ n. Good (code_slots code) n op) there (ops_fit (code_slots code) 2 code 0 code [] 0 (code_stands code) is.leads is.allowed p op e)

pub code_fits : (code : Ops) (p : ℕ) (op : Op) → IsCode code → slice_get (code_slots code) p ≡ Some (Begins op) → OpFits (code_slots code) (p + size op) op
code_fits code p op is e = (code_good code p op is e).fits

-- where a program begins
pub code_begins : (code : Ops) → is_place (code_slots code) 2 ≡ true
code_begins code = (code_stands code).of_body 0 (start_place code)
