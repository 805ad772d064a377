-- Places of an accepted code: what stands there, and where it leads.
use Rattle.std.proofs.Common.{length-append, append_assoc, ◌≡◌, ℕ, suc, ◌+◌, ◌-◌, ◌≤◌, List, [], ◌∷◌, ◌++◌, length, replicate, Option, Some, None, Bool, true, false, refl, sym, ap, ap₂, ◌∙◌, subst, ◌⊎◌, inl, inr, ⊎_elim, arith}
use Rattle.std.specs.Prelude.{◌&&◌, ◌||◌, ◌==◌, nat_le, slice_get, option_and_then, ℤ, pos, negsuc, ◌+ℤ◌, if◌then◌else◌}
use Rattle.std.proofs.lemmas.Bool.Decides.{nat_tests}
use Rattle.std.proofs.lemmas.Int.{ints}
use Rattle.std.proofs.lemmas.List.{length-replicate}
use Rattle.hog_ops.specs.declared.capture.Capture.{Capture}
use Rattle.hog_ops.specs.Plain.{Op, Ops, NoOp, MoreOp, Return, Throw, Jump, JumpIfFalse, JumpIfStackNotNull, Try, PopTry, Callable}
use Rattle.hog_ops.specs.Table.{row, size, span}
use Rattle.hog_ops.specs.Valid.{is_place, is_place_of, may_lead, row_leads, or_then, op_lost, lost_in, IsCode}
use Rattle.vm_course.specs.State.{Slot, Begins, BodyEnds, Operand, op_slots, slots, code_slots, first_place, header, params_in, params_at}
use Rattle.bytecode_check.specs.declared.checker.Around.{Around}
use Rattle.bytecode_check.specs.Shape.{Shape, shaped, Shapes, shape_at}
use Rattle.bytecode_check.specs.Effects.{place_at, Lead, leads}
use Rattle.bytecode_check.specs.Verify.{leads_off}
use Rattle.bytecode_safety.specs.Typed.{Given, EachLead, Fine, HasFirst, SoundOp, Sound, Typed}
use Rattle.bytecode_safety.proofs.Pass.{and_both}

abbrev pub HasAt : List Slot → ℕ → List Slot → Type 0
HasAt code p [] = Unit {0}
HasAt code p (x ∷ xs) = (slice_get code p ≡ Some x) × HasAt code (suc p) xs

pub has_front : (code : List Slot) (p : ℕ) (a b : List Slot) → HasAt code p (a ++ b) → HasAt code p a
has_front code p [] b h = tt
has_front code p (i ∷ a) b h = (h.0, has_front code (suc p) a b h.1)

pub has_back : (code : List Slot) (p : ℕ) (a b : List Slot) → HasAt code p (a ++ b) → HasAt code (p + length a) b
has_back code p [] b h = let e : p ≡ p + 0 = omega arith in subst (λ n. HasAt code n b) e h
has_back code p (i ∷ a) b h =
    let e : suc p + length a ≡ p + length (i ∷ a) = omega arith in
    subst (λ n. HasAt code n b) e (has_back code (suc p) a b h.1)

-- an operation stands so far behind the first
abbrev pub OpIn : Ops → ℕ → Op → Type 0
OpIn NoOp n o = ⊥
OpIn (MoreOp p os) n o = ((n ≡ 0) × (p ≡ o)) ⊎ ((m : ℕ) × (n ≡ size p + m) × OpIn os m o)

mutual
  op_count : (o : Op) → length (op_slots o) ≡ size o
  op_count (Callable name params body captures) =
      let n = length captures + length captures in
      let tail : List Slot = BodyEnds ∷ replicate (1 + n) Operand in
      let a = length-append (slots body) tail in
      let b = length-replicate (1 + n) Operand in
      let c = length-append (replicate 4 Operand) (slots body ++ tail) in
      let d = length-replicate 4 Operand in
      let e = slots_count body in
      omega arith
  op_count o = refl

  -- as many slots as elements
  pub slots_count : (os : Ops) → length (slots os) ≡ span os
  slots_count NoOp = refl
  slots_count (MoreOp o os) = omega (arith, length-append (op_slots o) (slots os), op_count o, slots_count os)

-- an operation's slots stand where it stands
slots_in : (code : List Slot) (os : Ops) (p n : ℕ) (o : Op) → OpIn os n o → HasAt code p (slots os) → HasAt code (p + n) (op_slots o)
slots_in code NoOp p n o i h = absurd i
slots_in code (MoreOp q os) p n o (inl i) h =
    let e : p ≡ p + n = omega arith in
    subst (λ x. HasAt code x (op_slots o)) e (subst (λ x. HasAt code p (op_slots x)) i.1 (has_front code p (op_slots q) (slots os) h))
slots_in code (MoreOp q os) p n o (inr i) h =
    let c = op_count q in
    let e : (p + length (op_slots q)) + i.0 ≡ p + n = omega arith in
    subst (λ x. HasAt code x (op_slots o)) e (slots_in code os (p + length (op_slots q)) i.0 o i.2 (has_back code p (op_slots q) (slots os) h))

sound_in : (Y : Shapes) (b : Around) (os : Ops) (at n : ℕ) (o : Op) → OpIn os n o → Sound Y b at os → SoundOp Y b (at + n) o
sound_in Y b NoOp at n o i h = absurd i
sound_in Y b (MoreOp q os) at n o (inl i) h =
    let e : at ≡ at + n = omega arith in
    subst (λ x. SoundOp Y b x o) e (subst (SoundOp Y b at) i.1 h.0)
sound_in Y b (MoreOp q os) at n o (inr i) h =
    let e : (at + size q) + i.0 ≡ at + n = omega arith in
    subst (λ x. SoundOp Y b x o) e (sound_in Y b os (at + size q) i.0 o i.2 h.1)

first_none : {A : Type 0} (o p : Option A) → or_then o p ≡ None → (o ≡ None) × (p ≡ None)
first_none None p e = (refl, e)
first_none (Some a) p e = absurd cc

leads_in : (base : ℕ) (body os : Ops) (at n : ℕ) (o : Op) → OpIn os n o → lost_in base body at os ≡ None → op_lost base body (at + n) o ≡ None
leads_in base body NoOp at n o i h = absurd i
leads_in base body (MoreOp q os) at n o (inl i) h =
    let (one, more) = first_none (op_lost base body at q) (lost_in base body (at + size q) os) h in
    let e : at ≡ at + n = omega arith in
    subst (λ x. op_lost base body x o ≡ None) e (subst (λ x. op_lost base body at x ≡ None) i.1 one)
leads_in base body (MoreOp q os) at n o (inr i) h =
    let (one, more) = first_none (op_lost base body at q) (lost_in base body (at + size q) os) h in
    let e : at + size q + i.0 ≡ at + n = omega arith in
    subst (λ x. op_lost base body x o ≡ None) e (leads_in base body os (at + size q) i.0 o i.2 more)

-- an operation whose distance isn't lost leads to a place of its body
not_lost : (b : Bool) (n : ℕ) → (if b then None else Some n) ≡ None → b ≡ true
not_lost true n e = refl
not_lost false n e = absurd cc

found : (base : ℕ) (body : Ops) (at : ℕ) (o : Op) → op_lost base body at o ≡ None → row_leads body (at + size o) (row o) ≡ true
found base body at (Callable name params inner captures) e = refl
found base body at o e = not_lost (row_leads body (at + size o) (row o)) (base + at) e

-- a place is an operation's, or the end
place_is : (os : Ops) (n : ℕ) → is_place os n ≡ true → (n ≡ span os) ⊎ ((o : Op) × OpIn os n o)
place_is NoOp n h = inl (zero_is n h)
  where
    zero_is : (n : ℕ) → (n == 0) ≡ true → n ≡ 0
    zero_is n h = grind (arith, nat_tests)
place_is (MoreOp q os) n h = go (n == 0) (nat_le (size q) n) refl refl h (place_is os (n - size q))
  where
    go : (b c : Bool) → (n == 0) ≡ b → nat_le (size q) n ≡ c → (b || (c && is_place os (n - size q))) ≡ true → (is_place os (n - size q) ≡ true → ((n - size q) ≡ span os) ⊎ ((o : Op) × OpIn os (n - size q) o)) → (n ≡ size q + span os) ⊎ ((o : Op) × OpIn (MoreOp q os) n o)
    go true c eb ec h ih = let z : n ≡ 0 = grind (arith, nat_tests) in inr (q, inl (z, refl))
    go false true eb ec h ih =
        let le : size q ≤ n = grind (arith, nat_tests) in
        let e : n ≡ size q + (n - size q) = omega arith in
        ⊎_elim (λ k. inl (omega arith)) (λ k. inr (k.0, inr (n - size q, e, k.1))) (ih h)
    go false false eb ec h ih = absurd cc

first_is : (os : Ops) → is_place os 0 ≡ true
first_is NoOp = refl
first_is (MoreOp o os) = refl

-- behind an operation there is a place
next_place : (os : Ops) (n : ℕ) (o : Op) → OpIn os n o → is_place os (n + size o) ≡ true
next_place NoOp n o i = absurd i
next_place (MoreOp q os) n o (inl i) =
    let e : n + size o ≡ size q = omega (arith, ap size i.1) in
    let e2 : size q - size q ≡ 0 = omega arith in
    let le : nat_le (size q) (size q) ≡ true = grind (arith, nat_tests) in
    subst (λ x. is_place (MoreOp q os) x ≡ true) (sym e) (ap₂ (λ c x. (size q == 0) || (c && is_place os x)) le e2 ∙ ap (λ x. (size q == 0) || x) (first_is os) ∙ or_true (size q == 0))
  where
    or_true : (a : Bool) → (a || true) ≡ true
    or_true true = refl
    or_true false = refl
next_place (MoreOp q os) n o (inr i) =
    let e : n + size o ≡ size q + (i.0 + size o) = omega arith in
    let e2 : (size q + (i.0 + size o)) - size q ≡ i.0 + size o = omega arith in
    let le : nat_le (size q) (size q + (i.0 + size o)) ≡ true = grind (arith, nat_tests) in
    subst (λ x. is_place (MoreOp q os) x ≡ true) (sym e)
    (ap₂ (λ c x. (size q + (i.0 + size o) == 0) || (c && is_place os x)) le e2 ∙ ap (λ x. (size q + (i.0 + size o) == 0) || x) (next_place os i.0 o i.2) ∙ or_true (size q + (i.0 + size o) == 0))
  where
    or_true : (a : Bool) → (a || true) ≡ true
    or_true true = refl
    or_true false = refl

-- ---- checked bodies

-- a body that was checked, whose function has so many captures
pub record Chunk (code : List Slot) (Y : Shapes) (captures : ℕ) : Type 0 where
  pub start : ℕ
  pub ops : Ops
  pub at : HasAt code start (slots ops)
  pub sound : Sound Y (record { captures = captures; end = start + span ops }) start ops
  pub base : ℕ
  pub leads : lost_in base ops 0 ops ≡ None

-- an operation of a checked body stands at a place
pub record InBody (code : List Slot) (Y : Shapes) (captures place : ℕ) : Type 0 where
  pub chunk : Chunk code Y captures
  pub offset : ℕ
  pub is : place ≡ chunk.start + offset
  pub op : Op
  pub stands : OpIn chunk.ops offset op

-- a place to which an operation leads
pub record Led (code : List Slot) (Y : Shapes) (captures place : ℕ) (shape : Shape) : Type 0 where
  pub given : Given Y place shape
  pub body : InBody code Y captures place

abbrev PlaceOf : ℕ → Ops → ℕ → Shape → Type 0
PlaceOf start ops q s = (m : ℕ) × (q ≡ start + m) × (is_place ops m ≡ true)

ahead : (start end n m : ℕ) → pos end +ℤ pos n ≡ pos m → (start + end) + n ≡ start + m
ahead start end n m e = omega (arith, ints)

back : (start end n m : ℕ) → pos end +ℤ negsuc n ≡ pos m → (start + end) - suc n ≡ start + m
back start end n m e = omega (arith, ints)

leads_to : (start end : ℕ) (d : ℤ) (ops : Ops) (z : ℤ) → pos end +ℤ d ≡ z → is_place_of ops z ≡ true → (m : ℕ) × (place_at (start + end) d ≡ start + m) × (is_place ops m ≡ true)
leads_to start end (pos n) ops (pos m) e h = (m, ahead start end n m e, h)
leads_to start end (negsuc n) ops (pos m) e h = (m, back start end n m e, h)
leads_to start end (pos n) ops (negsuc m) e h = absurd cc
leads_to start end (negsuc n) ops (negsuc m) e h = absurd cc

-- a distance that leads to a place of a body leads there in the code
distance_leads : (k start n end : ℕ) (d : ℤ) (ops : Ops) (sh : Shape) → end ≡ start + n → (may_lead k d && is_place_of ops (pos n +ℤ d)) ≡ true → PlaceOf start ops (place_at end d) sh
distance_leads k start n end d ops sh e h =
    let (may, there) = and_both (may_lead k d) (is_place_of ops (pos n +ℤ d)) h in
    subst (λ x. PlaceOf start ops (place_at x d) sh) (sym e) (leads_to start n d ops (pos n +ℤ d) refl there)

-- an operation leads to places of its body
lead_places : (start n end : ℕ) (ops : Ops) (op : Op) (sh : Shape) → end ≡ start + n → is_place ops n ≡ true → row_leads ops n (row op) ≡ true → EachLead (PlaceOf start ops) (leads end op sh)
lead_places start n end ops Return sh e b h = tt
lead_places start n end ops Throw sh e b h = tt
lead_places start n end ops (Jump d) sh e b h = (distance_leads 39 start n end d ops sh e h, tt)
lead_places start n end ops (JumpIfFalse d) sh e b h = ((n, e, b), (distance_leads 40 start n end d ops sh e h, tt))
lead_places start n end ops (JumpIfStackNotNull d) sh e b h = ((n, e, b), (distance_leads 47 start n end d ops sh e h, tt))
lead_places start n end ops (Try d) sh e b h = (distance_leads 50 start n end d ops sh e h, ((n, e, b), tt))
lead_places start n end ops PopTry sh e b h = ((n, e, b), tt)
lead_places start n end ops op sh e b h = ((n, e, b), tt)

each_led : {code : List Slot} {Y : Shapes} {captures : ℕ} (c : Chunk code Y captures) (ls : List Lead) → EachLead (PlaceOf c.start c.ops) ls → leads_off (c.start + span c.ops) ls ≡ false → EachLead (Given Y) ls → EachLead (Led code Y captures) ls
each_led c [] p off g = tt
each_led c (l ∷ ls) p off g =
    let (here, more) = neither (l.0 == c.start + span c.ops) (leads_off (c.start + span c.ops) ls) off in
    let (m, e, is) = p.0 in (
      ⊎_elim
          (λ k. let same : l.0 ≡ c.start + span c.ops = omega arith in let yes : (l.0 == c.start + span c.ops) ≡ true = grind (arith, nat_tests) in absurd cc)
          (λ k. record { given = g.0; body = record { chunk = c; offset = m; is = e; op = k.0; stands = k.1 } })
          (place_is c.ops m is),
      each_led c ls p.1 more g.1,
    )
  where
    neither : (a b : Bool) → (a || b) ≡ false → (a ≡ false) × (b ≡ false)
    neither true b e = absurd cc
    neither false b e = (refl, e)

-- JUMP alone leads back
abbrev pub IsForth : ℤ → Type 0
IsForth (pos n) = Unit {0}
IsForth (negsuc n) = ⊥

abbrev pub Forth : Op → Type 0
Forth (JumpIfFalse d) = IsForth d
Forth (JumpIfStackNotNull d) = IsForth d
Forth op = Unit {0}

forth_of : (k : ℕ) (d : ℤ) (rest : Bool) → (k == 39) ≡ false → (may_lead k d && rest) ≡ true → IsForth d
forth_of k (pos n) rest other h = tt
forth_of k (negsuc n) rest other h = absurd cc

forth : (ops : Ops) (n : ℕ) (op : Op) → row_leads ops n (row op) ≡ true → Forth op
forth ops n (JumpIfFalse d) h = forth_of 40 d (is_place_of ops (pos n +ℤ d)) refl h
forth ops n (JumpIfStackNotNull d) h = forth_of 47 d (is_place_of ops (pos n +ℤ d)) refl h
forth ops n op h = tt

-- what is known of the operation at a place with a shape
pub record Known (code : List Slot) (Y : Shapes) (captures place : ℕ) (op : Op) (sh : Shape) : Type 0 where
  pub slot : slice_get code place ≡ Some (Begins op)
  pub end : ℕ
  pub fine : Fine Y (record { captures = captures; end = end }) place op sh
  pub leads : EachLead (Led code Y captures) (leads (place + size op) op sh)
  pub forth : Forth op

begins : (code : List Slot) (p : ℕ) (o : Op) → HasAt code p (op_slots o) → slice_get code p ≡ Some (Begins o)
begins code p (Callable name params body captures) h = h.0
begins code p o h = h.0

fine_of : (Y : Shapes) (b : Around) (at : ℕ) (o : Op) (sh : Shape) → SoundOp Y b at o → shape_at Y at ≡ Some sh → Fine Y b at o sh
fine_of Y b at (Callable name params body captures) sh s is = (s sh is).0
fine_of Y b at o sh s is = s sh is

first_op : {code : List Slot} {Y : Shapes} (c : ℕ) (start base : ℕ) (body : Ops) → HasFirst body → HasAt code start (slots body) → Sound Y (record { captures = c; end = start + span body }) start body → lost_in base body 0 body ≡ None → InBody code Y c start
first_op c start base NoOp f h s l = absurd f
first_op c start base (MoreOp o os) f h s l = let e : start ≡ start + 0 = omega arith in
    record { chunk = record { start = start; ops = MoreOp o os; at = h; sound = s; base = base; leads = l }; offset = 0; is = e; op = o; stands = inl (refl, refl) }

-- a function's body
pub record Makes (code : List Slot) (Y : Shapes) (place params : ℕ) (inner : List Capture) : Type 0 where
  pub takes : params_at code (place + header) ≡ Some params
  pub shape : shape_at Y (place + header) ≡ Some (shaped params [])
  pub body : InBody code Y (length inner) (place + header)

module _ {code : List Slot} {Y : Shapes} {captures : ℕ} where
  known_at : (c : Chunk code Y captures) (n : ℕ) (op : Op) (sh : Shape) → OpIn c.ops n op → shape_at Y (c.start + n) ≡ Some sh → Known code Y captures (c.start + n) op sh
  known_at c n op sh i is =
      let b : Around = record { captures = captures; end = c.start + span c.ops } in
      let fine = fine_of Y b (c.start + n) op sh (sound_in Y b c.ops c.start n op i c.sound) is in
      let z : 0 + n ≡ n = omega arith in
      let l = found c.base c.ops n op (subst (λ x. op_lost c.base c.ops x op ≡ None) z (leads_in c.base c.ops c.ops 0 n op i c.leads)) in
      let e : c.start + n + size op ≡ c.start + (n + size op) = omega arith in
      record {
        slot = begins code (c.start + n) op (slots_in code c.ops c.start n op i c.at);
        end = c.start + span c.ops;
        fine = fine;
        leads = each_led c (leads (c.start + n + size op) op sh) (lead_places c.start (n + size op) (c.start + n + size op) c.ops op sh e (next_place c.ops n op i) l) fine.inside fine.given;
        forth = forth c.ops (n + size op) op l;
      }

  pub known : {place : ℕ} (i : InBody code Y captures place) (sh : Shape) → shape_at Y place ≡ Some sh → Known code Y captures place i.op sh
  known {place} i sh is =
      subst (λ p. Known code Y captures p i.op sh) (sym i.is) (known_at i.chunk i.offset i.op sh i.stands (subst (λ p. shape_at Y p ≡ Some sh) i.is is))

  makes_at : (c : Chunk code Y captures) (n : ℕ) (name : List ℕ) (params : ℕ) (body : Ops) (inner : List Capture) (sh : Shape) → OpIn c.ops n (Callable name params body inner) → shape_at Y (c.start + n) ≡ Some sh → Makes code Y (c.start + n) params inner
  makes_at c n name params body inner sh i is =
      let b : Around = record { captures = captures; end = c.start + span c.ops } in
      let p = c.start + n in
      let sound = sound_in Y b c.ops c.start n (Callable name params body inner) i c.sound sh is in
      let at = slots_in code c.ops c.start n (Callable name params body inner) i c.at in
      let l = leads_in c.base c.ops c.ops 0 n (Callable name params body inner) i c.leads in
      let tail : List Slot = BodyEnds ∷ replicate (1 + (length inner + length inner)) Operand in
      let same : (p + header) - header ≡ p = omega arith in
      let five : suc (suc (suc (suc (suc p)))) ≡ p + header = omega arith in
      let body_at = subst (λ x. HasAt code x (slots body)) five (has_front code (suc (suc (suc (suc (suc p))))) (slots body) tail at.1.1.1.1.1) in
      record {
        takes = ap (λ x. option_and_then params_in (slice_get code x)) same ∙ ap (option_and_then params_in) at.0;
        shape = sound.2;
        body = first_op (length inner) (p + header) (c.base + (0 + n + 5)) body sound.1 body_at sound.3 l;
      }

  pub makes : {place : ℕ} (i : InBody code Y captures place) (sh : Shape) (name : List ℕ) (params : ℕ) (body : Ops) (inner : List Capture) → i.op ≡ Callable name params body inner → shape_at Y place ≡ Some sh → Makes code Y place params inner
  makes {place} i sh name params body inner o is =
      subst (λ p. Makes code Y p params inner) (sym i.is) (makes_at i.chunk i.offset name params body inner sh (subst (OpIn i.chunk.ops i.offset) o i.stands) (subst (λ p. shape_at Y p ≡ Some sh) i.is is))

has_all : (is pre : List Slot) → HasAt (pre ++ is) (length pre) is
has_all [] pre = tt
has_all (i ∷ is) pre =
    let n : length (pre ++ i ∷ []) ≡ suc (length pre) = omega (arith, length-append pre (i ∷ [])) in
    let rest = has_all is (pre ++ i ∷ []) in
    let rest' = subst (λ l. HasAt l (length (pre ++ i ∷ [])) is) (append_assoc pre (i ∷ []) is) rest in
    (seam pre i is, subst (λ m. HasAt (pre ++ i ∷ is) m is) n rest')
  where
    seam : (pre : List Slot) (i : Slot) (is : List Slot) → slice_get (pre ++ i ∷ is) (length pre) ≡ Some i
    seam [] i is = refl
    seam (x ∷ pre) i is = seam pre i is

-- the program begins in its body
pub program_first : (ops : Ops) (Y : Shapes) → IsCode ops → Typed ops Y → InBody (code_slots ops) Y 0 first_place
program_first ops Y code a = first_op 0 first_place 0 ops a.some (has_all (slots ops) (Operand ∷ Operand ∷ [])) a.sound code.leads
