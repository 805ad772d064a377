-- The marks tell the places of a body.
use Rattle.std.proofs.Common.{◌≡◌, ◌≢◌, ◌≤◌, ◌<◌, ℕ, zero, suc, ◌+◌, ◌-◌, ◌*◌, ◌&&◌, ◌||◌, pos, negsuc, List, [], ◌∷◌, ◌++◌, Bool, true, false, length, get_or, replicate, refl, sym, ap, ap₂, ◌∙◌, subst, arith, length-append, append_assoc}
use Rattle.std.proofs.lemmas.Bool.Decides.{nat_tests}
use Rattle.std.proofs.lemmas.List.{length-replicate, get_or_append_left, get_or-append_right}
use Rattle.std.specs.Prelude.{ℤ, ◌==◌, nat_le, ◌+ℤ◌}
use Rattle.std.specs.List.{AllByRecursion}
use Rattle.hog_ops.specs.declared.capture.Capture.{Capture}
use Rattle.hog_ops.specs.Plain.{Op, Ops, Callable, NoOp, MoreOp}
use Rattle.hog_ops.specs.Table.{Row, Alone, Counts, Leads, Calls, Spells, Gives, Holds, size, span}
use Rattle.hog_ops.proofs.Counts.{size_some}
use Rattle.hog_ops.specs.Valid.{op_height, height, is_place, is_place_of, may_lead, row_leads}
use Rattle.bytecode_builder.specs.Marks.{op_marks, marks, is_marked, row_led}

abbrev Small : ℕ → List ℕ → Type 0
Small n ms = AllByRecursion (λ m. m ≤ n) ms

small_append : (n : ℕ) (xs ys : List ℕ) → Small n xs → Small n ys → Small n (xs ++ ys)
small_append n [] ys h k = k
small_append n (x ∷ xs) ys h k = (h.0, small_append n xs ys h.1 k)

small_zeros : (n k : ℕ) → Small n (replicate k 0)
small_zeros n zero = tt
small_zeros n (suc k) = (omega arith, small_zeros n k)

small_more : (m n : ℕ) (xs : List ℕ) → m ≤ n → Small m xs → Small n xs
small_more m n [] le h = tt
small_more m n (x ∷ xs) le h = (omega (arith, h.0), small_more m n xs le h.1)

small_at : (n : ℕ) (xs : List ℕ) (i : ℕ) → Small n xs → get_or xs i 0 ≤ n
small_at n [] zero h = omega arith
small_at n [] (suc i) h = omega arith
small_at n (x ∷ xs) zero h = h.0
small_at n (x ∷ xs) (suc i) h = small_at n xs i h.1

-- an operation's marks: one at its start, and smaller ones
record OpMarks (room : ℕ) (o : Op) : Type 0 where
  tail : List ℕ
  is : op_marks room o ≡ suc room ∷ tail
  small : Small room tail
  count : suc (length tail) ≡ size o

mutual
  op_marked : (room : ℕ) (o : Op) → op_height o ≤ room → OpMarks room o
  op_marked room (Callable name params body captures) h =
      let inner = marks (room - 1) body in
      let last = suc (room - 1) ∷ replicate (1 + 2 * length captures) 0 in
      let low : height body ≤ room - 1 = omega arith in
      record {
        tail = replicate 4 0 ++ (inner ++ last);
        is = refl;
        small = small_append room (replicate 4 0) (inner ++ last) (small_zeros room 4) (small_append room inner last (small_more (suc (room - 1)) room inner (omega arith) (marks_small (room - 1) body low)) (omega arith, small_zeros room (1 + 2 * length captures)));
        count = omega (arith, length-append inner last, length-replicate {A = ℕ} (1 + 2 * length captures) 0, marks_count (room - 1) body low);
      }
  op_marked room o h = record { tail = replicate (size o - 1) 0; is = refl; small = small_zeros room (size o - 1); count = refl }

  marks_small : (room : ℕ) (os : Ops) → height os ≤ room → Small (suc room) (marks room os)
  marks_small room NoOp h = tt
  marks_small room (MoreOp o os) h =
      let m = op_marked room o (omega arith) in
      small_append (suc room) (op_marks room o) (marks room os) (subst (Small (suc room)) (sym m.is) (omega arith, small_more room (suc room) m.tail (omega arith) m.small)) (marks_small room os (omega arith))

  pub marks_count : (room : ℕ) (os : Ops) → height os ≤ room → length (marks room os) ≡ span os
  marks_count room NoOp h = refl
  marks_count room (MoreOp o os) h =
      let m = op_marked room o (omega arith) in
      omega (arith, length-append (op_marks room o) (marks room os), ap length m.is, m.count, marks_count room os (omega arith))

-- ---- places

not_equal : (m n : ℕ) → m ≤ n → (m == suc n) ≡ false
not_equal m n h = grind (arith, nat_tests)

not_zero : (n : ℕ) → (suc n == 0) ≡ false
not_zero n = grind (arith, nat_tests)

equal : (n : ℕ) → (n == n) ≡ true
equal n = grind (arith, nat_tests)

past : (n : ℕ) → get_or {A = ℕ} [] n 0 ≡ 0
past zero = refl
past (suc n) = refl

over : (o : Op) (n : ℕ) (b : Bool) → nat_le (size o) n ≡ b → b ≡ true → size o ≤ n
over o n b e h = grind (arith, nat_tests)

under : (o : Op) (n : ℕ) (b : Bool) → nat_le (size o) n ≡ b → b ≡ false → n < size o
under o n b e h = grind (arith, nat_tests)

-- behind the start of an operation a place is one behind the operation
tell_more : (room : ℕ) (o : Op) (ms : List ℕ) (os : Ops) (n : ℕ) → OpMarks room o → ((k : ℕ) → (get_or (ms ++ suc room ∷ []) k 0 == suc room) ≡ is_place os k) → (b : Bool) → nat_le (size o) (suc n) ≡ b
    → (get_or ((op_marks room o ++ ms) ++ suc room ∷ []) (suc n) 0 == suc room) ≡ (b && is_place os (suc n - size o))
tell_more room o ms os n m again true is =
    let long : length (op_marks room o) ≡ size o = ap length m.is ∙ m.count in
    ap (λ xs. get_or xs (suc n) 0 == suc room) (append_assoc (op_marks room o) ms (suc room ∷ []))
    ∙ ap (λ x. x == suc room) (get_or-append_right (op_marks room o) (ms ++ suc room ∷ []) (size o) (suc n) 0 long (over o (suc n) true is refl)) ∙ again (suc n - size o)
tell_more room o ms os n m again false is =
    let long : length (op_marks room o) ≡ size o = ap length m.is ∙ m.count in
    ap (λ xs. get_or xs (suc n) 0 == suc room) (append_assoc (op_marks room o) ms (suc room ∷ []))
    ∙ ap (λ x. x == suc room) (get_or_append_left (op_marks room o) (ms ++ suc room ∷ []) 0 (suc n) (omega (arith, long, under o (suc n) false is refl)) ∙ ap (λ xs. get_or xs (suc n) 0) m.is)
    ∙ not_equal (get_or m.tail n 0) room (small_at room m.tail n m.small)

-- a place of a body is one whose mark is that of the body
tell : (room : ℕ) (os : Ops) (n : ℕ) → height os ≤ room → (get_or (marks room os ++ suc room ∷ []) n 0 == suc room) ≡ is_place os n
tell room NoOp zero h = equal (suc room)
tell room NoOp (suc n) h = ap (λ x. x == suc room) (past n) ∙ not_equal 0 room (omega arith) ∙ sym (not_zero n)
tell room (MoreOp o os) zero h =
    let m = op_marked room o (omega arith) in
    ap (λ ms. get_or ((ms ++ marks room os) ++ suc room ∷ []) 0 0 == suc room) m.is ∙ equal (suc room)
tell room (MoreOp o os) (suc n) h =
    tell_more room o (marks room os) os n (op_marked room o (omega arith)) (λ k. tell room os k (omega arith)) (nat_le (size o) (suc n)) refl
    ∙ ap (λ b. b || (nat_le (size o) (suc n) && is_place os (suc n - size o))) (sym (not_zero n))

tell_place : (room : ℕ) (os : Ops) (z : ℤ) → height os ≤ room → is_marked (marks room os ++ suc room ∷ []) (suc room) z ≡ is_place_of os z
tell_place room os (pos n) h = tell room os n h
tell_place room os (negsuc n) h = refl

-- where a distance leads is told by the marks
pub row_tell : (room end : ℕ) (os : Ops) (r : Row) → height os ≤ room → row_led (marks room os ++ suc room ∷ []) (suc room) end r ≡ row_leads os end r
row_tell room end os (Alone n) h = refl
row_tell room end os (Counts n least count) h = refl
row_tell room end os (Leads n d) h = ap (λ b. may_lead n d && b) (tell_place room os (pos end +ℤ d) h)
row_tell room end os (Calls f n) h = refl
row_tell room end os (Spells t) h = refl
row_tell room end os (Gives z) h = refl
row_tell room end os (Holds name params body captures) h = refl
