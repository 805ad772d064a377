-- The first fault of a piece.
use Rattle.std.proofs.Common.{◌≡◌, ℕ, suc, ◌+◌, ◌<◌, ◌≤◌, true, false, List, [], ◌∷◌, ◌++◌, length, Option, Some, None, cond, nat_lt, refl, sym, ap, ◌∙◌, subst, arith, length-append, inl, inr}
use Rattle.std.proofs.lemmas.Bool.Decides.{nat_tests}
use Rattle.hog_grammar.specs.declared.token.Fault.{Fault}
use Rattle.hog_grammar.specs.declared.token.Fault.TheVariants.{BadByte, TooLarge}
use Rattle.hog_grammar.specs.Bytes.{value_from, greatest}
use Rattle.hog_grammar.specs.Pieces.{Inner, Plain, Escape, inside, Quotes, OfText, OfTemplate, is_escape, AreEscapes, Piece, Blank, LineComment, BlockComment, Word, Number, Text, Mark, LongMark, OpenBrace, CloseBrace, TemplateStart, Characters, HoleStart, HoleEnd, TemplateEnd, Stray, spelled, IsGood}
use Rattle.hog_grammar.specs.Faults.{HasBad, Holds}
use Rattle.hog_tokens.specs.Reading.{bad_byte}
use Rattle.hog_tokens.proofs.Runs.{bad_from}
use Rattle.hog_tokens.proofs.PieceKinds.{first_fault}
use Rattle.hog_tokens.proofs.Tests.{tells}

-- characters

some_is : (a b : ℕ) → Some a ≡ Some b → a ≡ b
some_is a b h = cc

past_plain : (q : Quotes) (c : ℕ) (us : List Inner) (k : ℕ) → HasBad q us k → HasBad q (Plain c ∷ us) (suc k)
past_plain q c us k h = record { front = Plain c ∷ h.front; byte_after = h.byte_after; back = h.back; is = ap (λ z. Plain c ∷ z) h.is; bad = h.bad; place = ap (λ n. suc n) h.place }

past_escape : (q : Quotes) (c : ℕ) (us : List Inner) (k : ℕ) → HasBad q us k → HasBad q (Escape c ∷ us) (suc (suc k))
past_escape q c us k h = record { front = Escape c ∷ h.front; byte_after = h.byte_after; back = h.back; is = ap (λ z. Escape c ∷ z) h.is; bad = h.bad; place = ap (λ n. suc (suc n)) h.place }

-- the first bad backslash is one
bad_is : (q : Quotes) (n m : ℕ) (us : List Inner) → bad_from q n us ≡ Some m → (k : ℕ) × (m ≡ n + k) × HasBad q us k
bad_is q n m [] e = absurd (cc)
bad_is q n m (Plain c ∷ us) e = let x = bad_is q (suc n) m us e in (suc x.0, omega (arith, x.1), past_plain q c us x.0 x.2)
bad_is q n m (Escape c ∷ us) e = elim (tells (is_escape q c)) [
  | inl h ↦ (let x = bad_is q (suc (suc n)) m us (ap (λ b. cond b (bad_from q (suc (suc n)) us) (Some n)) (sym h) ∙ e) in (suc (suc x.0), omega (arith, x.1), past_escape q c us x.0 x.2))
  | inr h ↦ (let is : n ≡ m = some_is n m (ap (λ b. cond b (bad_from q (suc (suc n)) us) (Some n)) (sym h) ∙ e) in
      (0, omega arith, record { front = []; byte_after = c; back = us; is = refl; bad = h; place = refl }))
]

-- a bad backslash is not before the first
abbrev FromOn : Option ℕ → ℕ → ℕ → Type 0
FromOn bad n most = (j : ℕ) × (bad ≡ Some (n + j)) × (j ≤ most)

past_bad : (q : Quotes) (n c : ℕ) (front back : List Inner) → is_escape q c ≡ false → FromOn (bad_from q n (front ++ Escape c ∷ back)) n (length (inside front))
past_bad q n c [] back h = let e : n ≡ n + 0 = omega arith in (0, ap (λ b. cond b (bad_from q (suc (suc n)) back) (Some n)) h ∙ ap (λ m. Some m) e, omega arith)
past_bad q n c (Plain d ∷ front) back h =
    let x = past_bad q (suc n) c front back h in
    let e : suc n + x.0 ≡ n + suc x.0 = omega arith in (suc x.0, x.1 ∙ ap (λ m. Some m) e, omega (arith, x.2))
past_bad q n c (Escape d ∷ front) back h =
    let x = past_bad q (suc (suc n)) c front back h in
    let e : suc (suc n) + x.0 ≡ n + suc (suc x.0) = omega arith in
    let z : n ≡ n + 0 = omega arith in
    let on = bad_from q (suc (suc n)) (front ++ Escape c ∷ back) in
    elim (tells (is_escape q d)) [
      | inl g ↦ (suc (suc x.0), ap (λ b. cond b on (Some n)) g ∙ x.1 ∙ ap (λ m. Some m) e, omega (arith, x.2))
      | inr g ↦ (0, ap (λ b. cond b on (Some n)) g ∙ ap (λ m. Some m) z, omega arith)
    ]

none_bad : (q : Quotes) (n : ℕ) (us : List Inner) → bad_from q n us ≡ None → AreEscapes q us
none_bad q n [] e = tt
none_bad q n (Plain c ∷ us) e = none_bad q (suc n) us e
none_bad q n (Escape c ∷ us) e = elim (tells (is_escape q c)) [
  | inl h ↦ (h, none_bad q (suc (suc n)) us (ap (λ b. cond b (bad_from q (suc (suc n)) us) (Some n)) (sym h) ∙ e))
  | inr h ↦ (let x : Some n ≡ None = ap (λ b. cond b (bad_from q (suc (suc n)) us) (Some n)) (sym h) ∙ e in absurd (cc))
]

all_escapes : (q : Quotes) (n : ℕ) (us : List Inner) → AreEscapes q us → bad_from q n us ≡ None
all_escapes q n [] all = refl
all_escapes q n (Plain c ∷ us) all = all_escapes q (suc n) us all
all_escapes q n (Escape c ∷ us) all = ap (λ b. cond b (bad_from q (suc (suc n)) us) (Some n)) all.0 ∙ all_escapes q (suc (suc n)) us all.1

inside-append : (us vs : List Inner) → inside (us ++ vs) ≡ inside us ++ inside vs
inside-append [] vs = refl
inside-append (Plain c ∷ us) vs = ap (λ z. c ∷ z) (inside-append us vs)
inside-append (Escape c ∷ us) vs = ap (λ z. 92 ∷ c ∷ z) (inside-append us vs)

-- a bad backslash stands within the characters
within : (q : Quotes) (us : List Inner) (k : ℕ) → HasBad q us k → k < length (inside us)
within q us k h =
    let bytes = ap inside h.is ∙ inside-append h.front (Escape h.byte_after ∷ h.back) in
    omega (arith, ap length bytes, length-append (inside h.front) (92 ∷ h.byte_after ∷ inside h.back), h.place)

-- pieces

abbrev pub option : Fault × ℕ → Option (Fault × ℕ)
option x = Some x

-- its first fault stands that many bytes after its first byte, or before
pub record FirstBy (p : Piece) (most : ℕ) : Type 0 where
  pub fault : Fault
  pub offset : ℕ
  pub is : first_fault p ≡ Some (fault, offset)
  pub by : offset ≤ most

bad_by : (p : Piece) (q : Quotes) (us : List Inner) (n m k : ℕ) → first_fault p ≡ bad_byte (bad_from q n us) → HasBad q us m → k ≡ n + m → FirstBy p k
bad_by p q us n m k is h at =
    let x = past_bad q n h.byte_after h.front h.back h.bad in
    record { fault = BadByte; offset = n + x.0; is = is ∙ ap (λ z. bad_byte (bad_from q n z)) h.is ∙ ap bad_byte x.1; by = omega (arith, x.2, h.place) }

-- The first fault is not behind another.
pub holds_first : (p : Piece) (f : Fault) (n : ℕ) → Holds p f n → FirstBy p n
holds_first (Number c cs) f n h =
    let large : nat_lt greatest (value_from 0 (c ∷ cs)) ≡ true = (let past : greatest < value_from 0 (c ∷ cs) = h.2 in grind (arith, nat_tests)) in
    record { fault = TooLarge; offset = 0; is = ap (λ b. cond b (option (TooLarge, 0)) None) large; by = omega arith }
holds_first (Text us) f n h = bad_by (Text us) OfText us 1 h.0 n refl h.3 (omega (arith, h.2))
holds_first (Characters us) f n h = bad_by (Characters us) OfTemplate us 0 n n refl h.1 (omega arith)
holds_first (Stray c) f n h = record { fault = BadByte; offset = 0; is = refl; by = omega arith }
holds_first (Blank c) f n h = absurd h
holds_first (LineComment cs) f n h = absurd h
holds_first (BlockComment cs) f n h = absurd h
holds_first (Word c cs) f n h = absurd h
holds_first (Mark c) f n h = absurd h
holds_first (LongMark c d) f n h = absurd h
holds_first OpenBrace f n h = absurd h
holds_first CloseBrace f n h = absurd h
holds_first TemplateStart f n h = absurd h
holds_first HoleStart f n h = absurd h
holds_first HoleEnd f n h = absurd h
holds_first TemplateEnd f n h = absurd h

pub one_fault : (a b : Fault × ℕ) → option a ≡ option b → a ≡ b
one_fault a b h = cc

bad_holds : (q : Quotes) (us : List Inner) (n : ℕ) (f : Fault) (k : ℕ) (bad : Option ℕ) → bad_from q n us ≡ bad → bad_byte bad ≡ Some (f, k) → (m : ℕ) × (f ≡ BadByte) × (k ≡ n + m) × HasBad q us m
bad_holds q us n f k None is e = absurd (cc)
bad_holds q us n f k (Some b) is e =
    let same : option (BadByte, b) ≡ option (f, k) = e in
    let x = bad_is q n b us is in
    let two = one_fault (BadByte, b) (f, k) same in
    (x.0, sym (ap (λ z. z.0) two), sym (ap (λ z. z.1) two) ∙ x.1, x.2)

-- The first fault is one.
pub first_holds : (p : Piece) (f : Fault) (k : ℕ) → first_fault p ≡ Some (f, k) → Holds p f k
first_holds (Number c cs) f k e = elim (tells (nat_lt greatest (value_from 0 (c ∷ cs)))) [
  | inl h ↦ (let same : option (TooLarge, 0) ≡ option (f, k) = ap (λ b. cond b (option (TooLarge, 0)) None) (sym h) ∙ e in
      let two = one_fault (TooLarge, 0) (f, k) same in
      let large : greatest < value_from 0 (c ∷ cs) = grind (arith, nat_tests) in
      (sym (ap (λ z. z.0) two), sym (ap (λ z. z.1) two), large))
  | inr h ↦ (let none : None ≡ option (f, k) = ap (λ b. cond b (option (TooLarge, 0)) None) (sym h) ∙ e in absurd (cc))
]
first_holds (Text us) f k e = let x = bad_holds OfText us 1 f k (bad_from OfText 1 us) refl e in (x.0, x.1, x.2 ∙ omega arith, x.3)
first_holds (Characters us) f k e = let x = bad_holds OfTemplate us 0 f k (bad_from OfTemplate 0 us) refl e in let same : k ≡ x.0 = omega (arith, x.2) in (x.1, subst (λ (m : ℕ). HasBad OfTemplate us m) (sym same) x.3)
first_holds (Stray c) f k e = let two = one_fault (BadByte, 0) (f, k) e in (sym (ap (λ z. z.0) two), sym (ap (λ z. z.1) two))
first_holds (Blank c) f k e = absurd (cc)
first_holds (LineComment cs) f k e = absurd (cc)
first_holds (BlockComment cs) f k e = absurd (cc)
first_holds (Word c cs) f k e = absurd (cc)
first_holds (Mark c) f k e = absurd (cc)
first_holds (LongMark c d) f k e = absurd (cc)
first_holds OpenBrace f k e = absurd (cc)
first_holds CloseBrace f k e = absurd (cc)
first_holds TemplateStart f k e = absurd (cc)
first_holds HoleStart f k e = absurd (cc)
first_holds HoleEnd f k e = absurd (cc)
first_holds TemplateEnd f k e = absurd (cc)

-- A fault stands within its piece.
pub fault_within : (p : Piece) (f : Fault) (n : ℕ) → Holds p f n → n < length (spelled p)
fault_within (Number c cs) f n h = omega (arith, h.1)
fault_within (Text us) f n h = omega (arith, h.2, within OfText us h.0 h.3, length-append (inside us) (39 ∷ []))
fault_within (Characters us) f n h = within OfTemplate us n h.1
fault_within (Stray c) f n h = omega (arith, h.1)
fault_within (Blank c) f n h = absurd h
fault_within (LineComment cs) f n h = absurd h
fault_within (BlockComment cs) f n h = absurd h
fault_within (Word c cs) f n h = absurd h
fault_within (Mark c) f n h = absurd h
fault_within (LongMark c d) f n h = absurd h
fault_within OpenBrace f n h = absurd h
fault_within CloseBrace f n h = absurd h
fault_within TemplateStart f n h = absurd h
fault_within HoleStart f n h = absurd h
fault_within HoleEnd f n h = absurd h
fault_within TemplateEnd f n h = absurd h

none_byte : (bad : Option ℕ) → bad_byte bad ≡ None → bad ≡ None
none_byte None e = refl
none_byte (Some b) e = absurd (cc)

-- A piece without a first fault is good, and the other way round.
pub none_good : (p : Piece) → first_fault p ≡ None → IsGood p
none_good (Number c cs) e = elim (tells (nat_lt greatest (value_from 0 (c ∷ cs)))) [
  | inl h ↦ (let some : option (TooLarge, 0) ≡ None = ap (λ b. cond b (option (TooLarge, 0)) None) (sym h) ∙ e in absurd (cc))
  | inr h ↦ grind (arith, nat_tests)
]
none_good (Text us) e = none_bad OfText 1 us (none_byte (bad_from OfText 1 us) e)
none_good (Characters us) e = none_bad OfTemplate 0 us (none_byte (bad_from OfTemplate 0 us) e)
none_good (Stray c) e = absurd (cc)
none_good (Blank c) e = tt
none_good (LineComment cs) e = tt
none_good (BlockComment cs) e = tt
none_good (Word c cs) e = tt
none_good (Mark c) e = tt
none_good (LongMark c d) e = tt
none_good OpenBrace e = tt
none_good CloseBrace e = tt
none_good TemplateStart e = tt
none_good HoleStart e = tt
none_good HoleEnd e = tt
none_good TemplateEnd e = tt

pub good_none : (p : Piece) → IsGood p → first_fault p ≡ None
good_none (Number c cs) g =
    let small : value_from 0 (c ∷ cs) ≤ greatest = g in
    let h : nat_lt greatest (value_from 0 (c ∷ cs)) ≡ false = grind (arith, nat_tests) in
    ap (λ b. cond b (option (TooLarge, 0)) None) h
good_none (Text us) g = ap bad_byte (all_escapes OfText 1 us g)
good_none (Characters us) g = ap bad_byte (all_escapes OfTemplate 0 us g)
good_none (Stray c) g = absurd g
good_none (Blank c) g = refl
good_none (LineComment cs) g = refl
good_none (BlockComment cs) g = refl
good_none (Word c cs) g = refl
good_none (Mark c) g = refl
good_none (LongMark c d) g = refl
good_none OpenBrace g = refl
good_none CloseBrace g = refl
good_none TemplateStart g = refl
good_none HoleStart g = refl
good_none HoleEnd g = refl
good_none TemplateEnd g = refl
