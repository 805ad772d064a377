-- What is known of operations that were read.
use Rattle.std.proofs.Common.{◌≡◌, ◌≤◌, ◌<◌, ℕ, zero, suc, ◌+◌, ◌-◌, ◌*◌, ◌&&◌, pos, List, [], ◌∷◌, ◌++◌, Bool, true, map, length, drop, take, max, refl, sym, ap, ap₂, ◌∙◌, subst, arith, length-drop, length-take, append_assoc, Ok, Err, Result}
use Rattle.std.proofs.lemmas.List.{map-append, take-append-drop}
use Rattle.serde_json.specs.Data.{Data}
use Rattle.serde_json.specs.Written.{compact_text}
use Rattle.hog_ops.specs.declared.capture.Capture.{Capture}
use Rattle.hog_ops.specs.Plain.{Op, Ops, Callable, NoOp, MoreOp}
use Rattle.hog_ops.specs.Table.{size, span}
use Rattle.hog_ops.specs.Elements.{Elem, Whole, Text, op_elements, elements, closure_elements}
use Rattle.hog_ops.specs.Valid.{op_allowed, allowed, op_height, height}
use Rattle.bytecode_front.specs.declared.stop.CodeStop.{CodeStop}
use Rattle.bytecode_front.specs.Front.{Front, Faulty, Found, Opens, front_of}
use Rattle.bytecode_front.specs.Reading.{before, holding, callable_size, read_front, read_by, read_ops}
use Rattle.bytecode_front.proofs.Operands.{elem_text, texts, elem_texts}
use Rattle.bytecode_front.proofs.Fronts.{Taken, front_found, Opened, front_opens}

-- Operations that were read from elements: their operands are allowed, their bodies have room, they take all the elements, and these spell as they do.
pub record IsRead (room : ℕ) (ds : List Data) (ops : Ops) : Type 0 where
  pub allowed : allowed ops ≡ true
  pub shallow : height ops ≤ room
  pub span : span ops ≡ length ds
  pub texts : texts ds ≡ elem_texts (elements ops)

pub before_is : (o : Op) (r : Result Ops CodeStop) (ops : Ops) → before o r ≡ Ok ops → (os : Ops) × (r ≡ Ok os) × (MoreOp o os ≡ ops)
before_is o (Ok os) ops e = (os, refl, cc)
before_is o (Err f) ops e = absurd cc

pub holding_is : (f : Ops → Op) (b r : Result Ops CodeStop) (ops : Ops) → holding f b r ≡ Ok ops → (body : Ops) × (os : Ops) × (b ≡ Ok body) × (r ≡ Ok os) × (MoreOp (f body) os ≡ ops)
holding_is f (Ok body) r ops e = let h = before_is (f body) r ops e in (body, h.0, refl, h.1, h.2)
holding_is f (Err g) r ops e = absurd cc

texts-append : (es fs : List Elem) → elem_texts (es ++ fs) ≡ elem_texts es ++ elem_texts fs
texts-append es fs = map-append elem_text es fs

both_true : (a b : Bool) → a ≡ true → b ≡ true → (a && b) ≡ true
both_true a b p q = ap₂ (λ x y. x && y) p q

taken_more : (room : ℕ) (ds : List Data) (o : Op) (os : Ops) → Taken ds o → IsRead room (drop (size o) ds) os → IsRead room ds (MoreOp o os)
taken_more room ds o os t r = record {
  allowed = both_true (op_allowed o) (allowed os) t.allowed r.allowed;
  shallow = omega (arith, t.height, r.shallow);
  span = omega (arith, r.span, length-drop (size o) ds, t.fits);
  texts = t.texts ∙ ap (λ xs. elem_texts (op_elements o) ++ xs) r.texts ∙ sym (texts-append (op_elements o) (elements os));
}

-- five elements, a body and what is behind it
in_parts : (len : ℕ) (ds : List Data) → texts ds ≡ texts (take 5 ds) ++ (texts (take len (drop 5 ds)) ++ texts (drop len (drop 5 ds)))
in_parts len ds =
    ap texts (sym (take-append-drop 5 ds)) ∙ map-append compact_text (take 5 ds) (drop 5 ds)
    ∙ ap (λ xs. texts (take 5 ds) ++ xs) (ap texts (sym (take-append-drop len (drop 5 ds))) ∙ map-append compact_text (take len (drop 5 ds)) (drop len (drop 5 ds)))

holds_more : (room : ℕ) (ds : List Data) (name : List ℕ) (params : ℕ) (cs : List Capture) (len : ℕ) (body os : Ops) → Opened room ds name params cs len → IsRead (room - 1) (take len (drop 5 ds)) body
    → IsRead room (drop (callable_size (length cs) len) ds) os → IsRead room ds (MoreOp (Callable name params body cs) os)
holds_more room ds name params cs len body os h b r =
    let k = callable_size (length cs) len in
    let head = λ (n : ℕ). Whole (pos 52) ∷ Text name ∷ Whole (pos params) ∷ Whole (pos (length cs)) ∷ Whole (pos n) ∷ [] in
    let inside : span body ≡ len = omega (arith, b.span, length-take len (drop 5 ds), length-drop 5 ds, h.fits) in
    let es = elements body in
    let tail = closure_elements cs in
    let spelled : texts ds ≡ elem_texts (head len) ++ (elem_texts es ++ (elem_texts tail ++ elem_texts (elements os))) =
    in_parts len ds ∙ ap₂ (λ xs ys. xs ++ (ys ++ texts (drop len (drop 5 ds)))) h.head b.texts
    ∙ ap (λ xs. elem_texts (head len) ++ (elem_texts es ++ xs)) (h.tail ∙ ap (λ xs. elem_texts tail ++ xs) r.texts) in
    let joined : elem_texts ((es ++ tail) ++ elements os) ≡ elem_texts es ++ (elem_texts tail ++ elem_texts (elements os)) =
    texts-append (es ++ tail) (elements os) ∙ ap (λ xs. xs ++ elem_texts (elements os)) (texts-append es tail) ∙ append_assoc (elem_texts es) (elem_texts tail) (elem_texts (elements os)) in
    record {
      allowed = both_true (allowed body) (allowed os) b.allowed r.allowed;
      shallow = omega (arith, b.shallow, r.shallow, h.roomy);
      span = omega (arith, inside, r.span, length-drop k ds, h.fits);
      texts = spelled ∙ ap₂ (λ n xs. elem_texts (head n) ++ xs) (sym inside) (sym joined);
    }

none_read : (room : ℕ) (ops : Ops) → ◌≡◌ {A = Result Ops CodeStop} (Ok NoOp) (Ok ops) → IsRead room [] ops
none_read room ops e = let same : NoOp ≡ ops = cc in subst (IsRead room []) same record { allowed = refl; shallow = omega arith; span = refl; texts = refl }

front_read : (f : ℕ → ℕ → List Data → Result Ops CodeStop) (n room at : ℕ) (ds : List Data) (r : Front) → front_of room ds ≡ r → length ds ≤ suc n
    → ((room at : ℕ) (xs : List Data) (ops : Ops) → length xs ≤ n → f room at xs ≡ Ok ops → IsRead room xs ops) → (ops : Ops) → read_front f room at ds r ≡ Ok ops → IsRead room ds ops
front_read f n room at ds (Faulty w) is le again ops e = absurd cc
front_read f n room at ds (Found o) is le again ops e =
    let t = front_found room ds o is in
    let h = before_is o (f room (at + size o) (drop (size o) ds)) ops e in
    subst (IsRead room ds) h.2 (taken_more room ds o h.0 t (again room (at + size o) (drop (size o) ds) h.0 (omega (arith, length-drop (size o) ds, t.some)) h.1))
front_read f n room at ds (Opens name params cs len) is le again ops e =
    let k = callable_size (length cs) len in
    let t = front_opens room ds name params cs len is in
    let inner = take len (drop 5 ds) in
    let h = holding_is (λ body. Callable name params body cs) (f (room - 1) (at + 5) inner) (f room (at + k) (drop k ds)) ops e in
    let body = again (room - 1) (at + 5) inner h.0 (omega (arith, length-take len (drop 5 ds), length-drop 5 ds, t.fits)) h.2 in
    subst (IsRead room ds) h.4 (holds_more room ds name params cs len h.0 h.1 t body (again room (at + k) (drop k ds) h.1 (omega (arith, length-drop k ds)) h.3))

read_is : (n room at : ℕ) (ds : List Data) (ops : Ops) → length ds ≤ n → read_by n room at ds ≡ Ok ops → IsRead room ds ops
read_is zero room at [] ops le e = none_read room ops e
read_is (suc n) room at [] ops le e = none_read room ops e
read_is zero room at (d ∷ ds) ops le e = absurd (omega arith)
read_is (suc n) room at (d ∷ ds) ops le e =
    front_read (read_by n) n room at (d ∷ ds) (front_of room (d ∷ ds)) refl le (λ r p xs os k h. read_is n r p xs os k h) ops e

pub is_read : (room at : ℕ) (ds : List Data) (ops : Ops) → read_ops room at ds ≡ Ok ops → IsRead room ds ops
unfolding read_ops
is_read room at ds ops e = read_is (length ds) room at ds ops (omega arith) e
