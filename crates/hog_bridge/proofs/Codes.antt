-- Operations, texts and counts in a code as the machine sees it.
use Rattle.std.proofs.Common.{◌≡◌, ℕ, zero, suc, ◌+◌, ◌-◌, List, [], ◌∷◌, ◌++◌, length, replicate, Some, refl, sym, ap, ◌∙◌, subst, ◌⊎◌, inl, inr, ⊎_elim, arith, length-append, append_assoc}
use Rattle.std.specs.Prelude.{slice_get}
use Rattle.std.proofs.lemmas.Option.{none-some, same_Some}
use Rattle.hog_ops.specs.Plain.{Op, Ops, NoOp, MoreOp, Callable, Str}
use Rattle.hog_ops.specs.Table.{size, span}
use Rattle.vm_course.specs.State.{Slot, Begins, BodyEnds, Operand, op_slots, slots, code_slots, header}
use Rattle.vm_course.specs.Course.{op_texts, texts}
use Rattle.hog_bridge.specs.Laws.{op_operations, operations}
use Rattle.hog_bridge.proofs.Words.{In, in_left, in_right}
use Rattle.hog_bridge.proofs.Ahead.{HasAt, InnerAt, left}

head_of : (o : Op) → (rest : List Slot) × (op_slots o ≡ Begins o ∷ rest)
head_of (Callable name params body captures) = (_, refl)
head_of o = (_, refl)

replicated : (k : ℕ) → length (replicate k Operand) ≡ k
replicated zero = refl
replicated (suc k) = ap suc (replicated k)

mutual
  op_length : (o : Op) → length (op_slots o) ≡ size o
  op_length (Callable name params body captures) =
      let ops = slots body in
      let tail = replicate (1 + (length captures + length captures)) Operand in
      let e = ops_length body in
      let a = length-append ops (BodyEnds ∷ tail) in
      let b = replicated (1 + (length captures + length captures)) in
      omega (arith, e, a, b)
  op_length o = refl

  pub ops_length : (os : Ops) → length (slots os) ≡ span os
  ops_length NoOp = refl
  ops_length (MoreOp o os) = let a = op_length o in let b = ops_length os in let c = length-append (op_slots o) (slots os) in omega arith

seam : (pre rest : List Slot) (x : Slot) → slice_get (pre ++ (x ∷ rest)) (length pre) ≡ Some x
seam [] rest x = refl
seam (y ∷ pre) rest x = seam pre rest x

begins_at : (o : Op) (pre post : List Slot) → slice_get (pre ++ (op_slots o ++ post)) (length pre) ≡ Some (Begins o)
begins_at o pre post =
    let h = head_of o in
    ap (λ xs. slice_get (pre ++ (xs ++ post)) (length pre)) h.1 ∙ seam pre (h.0 ++ post) (Begins o)

mutual
  ops_at : (os : Ops) (pre post : List Slot) → HasAt (pre ++ (slots os ++ post)) (length pre) os
  ops_at NoOp pre post = tt
  ops_at (MoreOp o os) pre post =
      let one = op_slots o in let more = slots os in
      let assoc : pre ++ ((one ++ more) ++ post) ≡ pre ++ (one ++ (more ++ post)) = ap (λ xs. pre ++ xs) (append_assoc one more post) in
      let assoc2 : (pre ++ one) ++ (more ++ post) ≡ pre ++ (one ++ (more ++ post)) = append_assoc pre one (more ++ post) in
      let n : length (pre ++ one) ≡ length pre + size o = length-append pre one ∙ ap (λ k. length pre + k) (op_length o) in
      subst (λ c. HasAt c (length pre) (MoreOp o os)) (sym assoc) (
        begins_at o pre (more ++ post),
        op_inner o pre (more ++ post),
        subst (λ c. HasAt c (length pre + size o) os) assoc2 (subst (λ k. HasAt ((pre ++ one) ++ (more ++ post)) k os) n (ops_at os (pre ++ one) post)),
      )

  op_inner : (o : Op) (pre post : List Slot) → InnerAt (pre ++ (op_slots o ++ post)) (length pre) o
  op_inner (Callable name params body captures) pre post =
      let tail = BodyEnds ∷ replicate (1 + (length captures + length captures)) Operand in
      let five : List Slot = Begins (Callable name params body captures) ∷ Operand ∷ Operand ∷ Operand ∷ Operand ∷ [] in
      let n : length (pre ++ five) ≡ length pre + header = length-append pre five in
      let inner : HasAt ((pre ++ five) ++ (slots body ++ (tail ++ post))) (length (pre ++ five)) body = ops_at body (pre ++ five) (tail ++ post) in
      let assoc : (pre ++ five) ++ (slots body ++ (tail ++ post)) ≡ pre ++ (op_slots (Callable name params body captures) ++ post) =
      append_assoc pre five (slots body ++ (tail ++ post)) ∙ ap (λ xs. pre ++ (five ++ xs)) (sym (append_assoc (slots body) tail post)) in
      subst (λ c. HasAt c (length pre + header) body) assoc (subst (λ k. HasAt ((pre ++ five) ++ (slots body ++ (tail ++ post))) k body) n inner)
  op_inner o pre post = tt

pub code_at : (code : Ops) → HasAt (code_slots code) 2 code
code_at code = subst (λ xs. HasAt (Operand ∷ Operand ∷ xs) 2 code) (append-none (slots code)) (ops_at code (Operand ∷ Operand ∷ []) [])
  where
    append-none : (xs : List Slot) → xs ++ [] ≡ xs
    append-none [] = refl
    append-none (x ∷ xs) = ap (λ ys. x ∷ ys) (append-none xs)

-- how many operations begin in a code

left-append : (xs ys : List Slot) → left (xs ++ ys) 0 ≡ left xs 0 + left ys 0
left-append [] ys = omega arith
left-append (x ∷ xs) ys = let e = left-append xs ys in omega arith

none_begin : (k : ℕ) → left (replicate k Operand) 0 ≡ 0
none_begin zero = refl
none_begin (suc k) = let e = none_begin k in omega arith

mutual
  op_counted : (o : Op) → left (op_slots o) 0 ≡ op_operations o
  op_counted (Callable name params body captures) =
      let tail = BodyEnds ∷ replicate (1 + (length captures + length captures)) Operand in
      let a = left-append (slots body) tail in
      let b = none_begin (1 + (length captures + length captures)) in
      let e = counted body in
      omega (arith, a, b, e)
  op_counted o = refl

  counted : (os : Ops) → left (slots os) 0 ≡ operations os
  counted NoOp = refl
  counted (MoreOp o os) = let a = op_counted o in let b = counted os in let c = left-append (op_slots o) (slots os) in omega arith

pub code_counted : (code : Ops) → left (code_slots code) 0 ≡ operations code
code_counted code = let e = counted code in omega (arith, e)

-- the texts that a code pushes

get_either : (xs ys : List Slot) (p : ℕ) (x : Slot) → slice_get (xs ++ ys) p ≡ Some x → (slice_get xs p ≡ Some x) ⊎ ((q : ℕ) × (slice_get ys q ≡ Some x))
get_either [] ys p x e = inr (p, e)
get_either (y ∷ xs) ys zero x e = inl e
get_either (y ∷ xs) ys (suc p) x e = get_either xs ys p x e

no_text : (k p : ℕ) (t : List ℕ) → slice_get (replicate k Operand) p ≡ Some (Begins (Str t)) → ⊥
no_text zero p t e = none-some (Begins (Str t)) e
no_text (suc k) zero t e = cc
no_text (suc k) (suc p) t e = no_text k p t e

-- an operation that pushes no text
plain_none : (o : Op) (k p : ℕ) (t : List ℕ) → (Begins o ≡ Begins (Str t) → ⊥) → slice_get (Begins o ∷ replicate k Operand) p ≡ Some (Begins (Str t)) → ⊥
plain_none o k zero t other e = other (same_Some (Begins o) (Begins (Str t)) e)
plain_none o k (suc p) t other e = no_text k p t e

-- behind a body
tail_none : (k q : ℕ) (t : List ℕ) → slice_get (BodyEnds ∷ replicate k Operand) q ≡ Some (Begins (Str t)) → ⊥
tail_none k zero t e = cc
tail_none k (suc q) t e = no_text k q t e

mutual
  op_pushes : (o : Op) (p : ℕ) (t : List ℕ) → slice_get (op_slots o) p ≡ Some (Begins (Str t)) → In t (op_texts o)
  op_pushes (Str s) zero t e = let same : s ≡ t = cc in inl same
  op_pushes (Str s) (suc p) t e = absurd (no_text 1 p t e)
  op_pushes (Callable name params body captures) zero t e = absurd (cc)
  op_pushes (Callable name params body captures) (suc p) t e =
      let k = 1 + (length captures + length captures) in
      let tail = BodyEnds ∷ replicate k Operand in
      ⊎_elim (λ a. absurd (no_text 4 p t a))
      (λ b. ⊎_elim (λ c. pushes body b.0 t c) (λ d. absurd (tail_none k d.0 t d.1)) (get_either (slots body) tail b.0 (Begins (Str t)) b.1))
      (get_either (replicate 4 Operand) (slots body ++ tail) p (Begins (Str t)) e)
  op_pushes o p t e = absurd (plain_none o (size o - 1) p t (λ s. cc) e)

  pub pushes : (os : Ops) (p : ℕ) (t : List ℕ) → slice_get (slots os) p ≡ Some (Begins (Str t)) → In t (texts os)
  pushes NoOp p t e = absurd (none-some (Begins (Str t)) e)
  pushes (MoreOp o os) p t e =
      ⊎_elim (λ a. in_left t (op_texts o) (texts os) (op_pushes o p t a)) (λ b. in_right t (op_texts o) (texts os) (pushes os b.0 t b.1))
      (get_either (op_slots o) (slots os) p (Begins (Str t)) e)

pub code_pushes : (code : Ops) (p : ℕ) (t : List ℕ) → slice_get (code_slots code) p ≡ Some (Begins (Str t)) → In t (texts code)
code_pushes code zero t e = absurd (cc)
code_pushes code (suc zero) t e = absurd (cc)
code_pushes code (suc (suc p)) t e = pushes code p t e
