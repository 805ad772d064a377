-- Forms of expressions that are spelled are read.
use Rattle.std.proofs.Common.{◌≡◌, ℕ, zero, suc, pos, ◌+◌, ◌<◌, ◌≤◌, max, Bool, true, false, List, [], ◌∷◌, ◌++◌, length, Ok, Err, cond, refl, ap, ◌∙◌, subst, append_assoc, zero-add, arith, length-append}
use Rattle.hog_tree.specs.declared.tree.BinaryOp.{BinaryOp}
use Rattle.hog_tree.specs.Plain.{Word, Exp, Int, Truth, Null, Text, Template, Name, Array, Dict, Neg, Not, Binary, Coalesce, Prop, PropNullish, Index, Call, Lambda}
use Rattle.hog_grammar.specs.Terminal.{Terminal, word}
use Rattle.hog_grammar.specs.Terminal as k
use Rattle.hog_grammar.specs.Forms.{Phrase, At, enclosed}
use Rattle.hog_grammar.specs.Spelling.{level, level_of, tokens_of, Bare, truth}
use Rattle.hog_terms.specs.Marks.{after_close, lead, starts}
use Rattle.hog_reading.specs.Read.{Syntax, got, ◌>>=◌, wants, either_way, first, step, listing, exps, arrow, short_arrow, grown, closed, joined, indexed, called}
use Rattle.hog_reading.specs.ReadStatements.{readers}
use Rattle.hog_spelling.proofs.WordTokens.{after_word_reads}
use Rattle.hog_spelling.proofs.Begin.{read_starts, no_arrow, not_parameters}
use Rattle.hog_spelling.proofs.Levels.{level_at_least, lead_of, step_operator}
use Rattle.hog_reading.proofs.Climb.{lt_false}
use Rattle.hog_spelling.proofs.Comes.{Comes, Ends, ends, same_ends, bind_ends, at_own, finish, from_first, comes_step}

pub level_above : (e : Exp) → (1 ≤ level e) × (level e ≤ 11)
level_above (Binary op a b) = let l = level_at_least op in (omega (arith, l.0), omega (arith, l.1))
level_above (Lambda ws b) = (omega arith, omega arith)
level_above (Not e) = (omega arith, omega arith)
level_above (Coalesce a b) = (omega arith, omega arith)
level_above (Neg e) = (omega arith, omega arith)
level_above _ = (omega arith, omega arith)

digits_above : (n : _) (ts : List Terminal) (h : ℕ) → Bare (Int n) ts h → (0 < h) × (0 < length ts)
digits_above (pos n) ts h b = (omega (arith, b.height), omega (arith, ap length b.tokens))
digits_above _ ts h b = absurd b

pub bare_above : (e : Exp) (ts : List Terminal) (h : ℕ) → Bare e ts h → (0 < h) × (0 < length ts)
bare_above (Int n) ts h b = digits_above n ts h b
bare_above (Truth v) ts h b = (omega (arith, b.height), omega (arith, ap length b.tokens))
bare_above Null ts h b = (omega (arith, b.height), omega (arith, ap length b.tokens))
bare_above (Text bs) ts h b = (omega (arith, b.height), omega (arith, ap length b.tokens))
bare_above (Template ps) ts h b = (omega (arith, b.height), omega (arith, ap length b.tokens))
bare_above (Name w) ts h b = (omega (arith, b.height), omega (arith, ap length b.tokens))
bare_above (Array es) ts h b = (omega (arith, b.height), omega (arith, ap length b.tokens))
bare_above (Dict ds) ts h b = (omega (arith, b.height), omega (arith, ap length b.tokens))
bare_above (Neg e) ts h b = (omega (arith, b.height), omega (arith, ap length b.tokens))
bare_above (Not e) ts h b = (omega (arith, b.height), omega (arith, ap length b.tokens))
bare_above (Binary op x y) ts h b =
    (omega (arith, b.height), omega (arith, ap length b.tokens, length-append b.left (tokens_of op ++ b.right), length-append (tokens_of op) b.right, operator_length op))
  where
    operator_length : (op : BinaryOp) → 0 < length (tokens_of op)
    operator_length op = let l = lead_of op [] in let a = level_at_least op in some (tokens_of op) (omega (arith, l, a.0))
      where
        some : (ts : List Terminal) → 0 < lead (ts ++ []) → 0 < length ts
        some [] h = absurd (omega (arith, h))
        some (t ∷ ts) h = omega arith
bare_above (Coalesce x y) ts h b = (omega (arith, b.height), omega (arith, ap length b.tokens, length-append b.left (k.Coalesce ∷ b.right)))
bare_above (Prop e w) ts h b = (omega (arith, b.height), omega (arith, ap length b.tokens, length-append b.inner (k.Dot ∷ word w ∷ [])))
bare_above (PropNullish e w) ts h b = (omega (arith, b.height), omega (arith, ap length b.tokens, length-append b.inner (k.NullishDot ∷ word w ∷ [])))
bare_above (Index e i) ts h b = (omega (arith, b.height), omega (arith, ap length b.tokens, length-append b.left (k.OpenBracket ∷ (b.right ++ k.CloseBracket ∷ []))))
bare_above (Call f es) ts h b = (omega (arith, b.height), omega (arith, ap length b.tokens, length-append b.left (k.Open ∷ b.right)))
bare_above (Lambda ws c) ts h b = (omega (arith, b.height), omega (arith, ap length b.tokens, length-append b.left (k.Arrow ∷ b.right)))

enclosed_length : (p : ℕ) (ts : List Terminal) → length ts ≤ length (enclosed p ts)
enclosed_length zero ts = omega arith
enclosed_length (suc p) ts = omega (arith, enclosed_length p ts, length-append (enclosed p ts) (k.Close ∷ []))

-- an expression of level `l`, in parentheses or not
abbrev pub Spelled : Exp → ℕ → Phrase
Spelled e l = At (Bare e) (level e) l

pub spelled_above : (e : Exp) (l : ℕ) (ts : List Terminal) (h : ℕ) → Spelled e l ts h → (0 < h) × (0 < length ts)
spelled_above e l ts h a = let p = bare_above e a.inner a.low a.bare in (omega (arith, p.0, a.height), omega (arith, p.1, ap length a.tokens, enclosed_length a.pairs a.inner))

abbrev pub BareComes : Exp → Type 0
BareComes e = (ts : List Terminal) (h : ℕ) → Bare e ts h → (d l : ℕ) (rest : List Terminal) → l ≤ level e → lead rest ≤ level e → Comes d l (ts ++ rest) rest e h

enclosed_more : (p : ℕ) (inner rest : List Terminal) → enclosed (suc p) inner ++ rest ≡ k.Open ∷ (enclosed p inner ++ k.Close ∷ rest)
enclosed_more p inner rest = ap (λ ts. k.Open ∷ ts) (append_assoc (enclosed p inner) (k.Close ∷ []) rest)

-- parentheses
paren_first : (d l : ℕ) (us rest : List Terminal) (e : Exp) (h : ℕ) → ((i : ℕ) → Ends ((readers i).expression 1 us) i (k.Close ∷ rest) e h) → lead rest ≤ 11 → Ends (first (readers d) l (k.Open ∷ us)) (suc d) rest e (suc h)
unfolding first
paren_first d l us rest e h go low =
    let no = not_parameters h us rest e h (at_own (go h)) low in
    same_ends (ap (λ b. cond b (arrow (readers d) l us) ((readers d).expression 1 us >>= closed)) no) (bind_ends closed (go d) (λ x. omega (arith, x)) (λ fits. ends (omega (arith, fits)) refl))

pairs_come : (e : Exp) → BareComes e → (inner : List Terminal) (low : ℕ) → Bare e inner low → (p d l : ℕ) (rest : List Terminal) → (p ≡ 0 → l ≤ level e) → (p ≡ 0 → lead rest ≤ level e) → lead rest ≤ 11
    → Comes d l (enclosed p inner ++ rest) rest e (p + low)
pairs_come e hyp inner low b zero d l rest fits stop small = rw zero-add (hyp inner low b d l rest (fits refl) (stop refl))
pairs_come e hyp inner low b (suc p) d l rest fits stop small =
    let within = finish 1 (enclosed p inner ++ k.Close ∷ rest) (k.Close ∷ rest) e (p + low) (omega (arith, (bare_above e inner low b).0)) (omega arith)
    (λ i. pairs_come e hyp inner low b p i 1 (k.Close ∷ rest) (λ _. (level_above e).0) (λ _. omega arith) (omega arith)) in
    let same : suc (p + low) ≡ suc p + low = omega arith in
    let it : Ends (first (readers d) l (k.Open ∷ (enclosed p inner ++ k.Close ∷ rest))) (suc d) rest e (suc p + low) =
    subst (λ (h : ℕ). Ends (first (readers d) l (k.Open ∷ (enclosed p inner ++ k.Close ∷ rest))) (suc d) rest e h) same (paren_first d l (enclosed p inner ++ k.Close ∷ rest) rest e (p + low) within small) in
    from_first d l (enclosed (suc p) inner ++ rest) rest e (suc p + low) (same_ends (ap (first (readers d) l) (enclosed_more p inner rest)) it)

pub at_comes : (e : Exp) → BareComes e → (want : ℕ) (ts : List Terminal) (h : ℕ) → Spelled e want ts h → (d l : ℕ) (rest : List Terminal) → l ≤ want → lead rest ≤ want → want ≤ 11 → Comes d l (ts ++ rest) rest e h
at_comes e hyp want ts h a d l rest low stop small =
    let go = pairs_come e hyp a.inner a.low a.bare a.pairs d l rest (λ z. omega (arith, a.fits z)) (λ z. omega (arith, a.fits z)) (omega arith) in
    rw (a.tokens, a.height) go

pub at_ends : (e : Exp) → BareComes e → (want : ℕ) (ts : List Terminal) (h : ℕ) → Spelled e want ts h → (rest : List Terminal) → lead rest < want → want ≤ 11 → (d : ℕ) → Ends ((readers d).expression want (ts ++ rest)) d rest e h
at_ends e hyp want ts h a rest stop small d =
    finish want (ts ++ rest) rest e h (spelled_above e want ts h a).0 stop (λ i. at_comes e hyp want ts h a i want rest (omega arith) (omega arith) small) d

-- it is read at level 1, and begins as an expression
abbrev pub Reads : Exp → Type 0
Reads e = (ts : List Terminal) (h : ℕ) → Spelled e 1 ts h → (rest : List Terminal) → lead rest ≡ 0 → (d : ℕ) → Ends ((readers d).expression 1 (ts ++ rest)) d rest e h

pub reads : (e : Exp) → BareComes e → Reads e
reads e hyp ts h a rest stop d = at_ends e hyp 1 ts h a rest (omega (arith, stop)) (omega arith) d

pub spelled_starts : (e : Exp) → Reads e → (ts : List Terminal) (h : ℕ) → Spelled e 1 ts h → (rest : List Terminal) → lead rest ≡ 0 → starts (ts ++ rest) ≡ true
spelled_starts e hyp ts h a rest stop = read_starts h 1 (ts ++ rest) (got e h rest) (at_own (hyp ts h a rest stop h))

-- leaves

digits_come : (n : ℕ) (d l : ℕ) (rest : List Terminal) → Comes d l (k.Number n ∷ rest) rest (Int (pos n)) 1
unfolding first
digits_come n d l rest = from_first d l (k.Number n ∷ rest) rest (Int (pos n)) 1 (ends (omega arith) refl)

pub int_comes : (n : _) → BareComes (Int n)
int_comes (pos n) ts h b d l rest low stop = rw (b.tokens, b.height) (digits_come n d l rest)
int_comes _ ts h b d l rest low stop = absurd b

truth_first : (v : Bool) (d l : ℕ) (rest : List Terminal) → Ends (first (readers d) l (truth v ∷ rest)) (suc d) rest (Truth v) 1
unfolding first
truth_first true d l rest = ends (omega arith) refl
truth_first false d l rest = ends (omega arith) refl

pub truth_comes : (v : Bool) (d l : ℕ) (rest : List Terminal) → Comes d l (truth v ∷ rest) rest (Truth v) 1
truth_comes v d l rest = from_first d l (truth v ∷ rest) rest (Truth v) 1 (truth_first v d l rest)

pub null_comes : (d l : ℕ) (rest : List Terminal) → Comes d l (k.Null ∷ rest) rest Null 1
unfolding first
null_comes d l rest = from_first d l (k.Null ∷ rest) rest Null 1 (ends (omega arith) refl)

pub text_comes : (bs : List ℕ) (d l : ℕ) (rest : List Terminal) → Comes d l (k.Text bs ∷ rest) rest (Text bs) 1
unfolding first
text_comes bs d l rest = from_first d l (k.Text bs ∷ rest) rest (Text bs) 1 (ends (omega arith) refl)

pub name_comes : (w : Word) (d l : ℕ) (rest : List Terminal) → lead rest ≤ 11 → Comes d l (k.Word w ∷ rest) rest (Name w) 1
unfolding first
name_comes w d l rest stop = from_first d l (k.Word w ∷ rest) rest (Name w) 1
    (ends (omega arith) (ap (λ z. either_way z (short_arrow (readers d) l w) (Ok (got (Name w) 1 rest))) (no_arrow rest stop)))

-- prefixes

pub neg_comes : (d l : ℕ) (us rest : List Terminal) (e : Exp) (low h : ℕ) → l ≤ 9 → h ≡ 1 + low → Ends ((readers d).expression 9 us) d rest e low → Comes d l (k.Minus ∷ us) rest (Neg e) h
unfolding first
neg_comes d l us rest e low h loose high part = from_first d l (k.Minus ∷ us) rest (Neg e) h
    (same_ends (ap (λ b. cond b (Err Syntax) ((readers d).expression 9 us >>= grown Neg)) (lt_false 9 l loose))
    (bind_ends (grown Neg) part (λ x. omega (arith, x, high)) (λ fits. ends (omega (arith, fits, high)) (ap (λ i. Ok (got (Neg e) i rest)) (let q : suc low ≡ h = omega (arith, high) in q)))))

pub not_comes : (d l : ℕ) (us rest : List Terminal) (e : Exp) (low h : ℕ) → l ≤ 4 → h ≡ 1 + low → Ends ((readers d).expression 4 us) d rest e low → Comes d l (k.Not ∷ us) rest (Not e) h
unfolding first
not_comes d l us rest e low h loose high part = from_first d l (k.Not ∷ us) rest (Not e) h
    (same_ends (ap (λ b. cond b (Err Syntax) ((readers d).expression 4 us >>= grown Not)) (lt_false 4 l loose))
    (bind_ends (grown Not) part (λ x. omega (arith, x, high)) (λ fits. ends (omega (arith, fits, high)) (ap (λ i. Ok (got (Not e) i rest)) (let q : suc low ≡ h = omega (arith, high) in q)))))

-- operators

pub binary_comes : (d l : ℕ) (all us rest : List Terminal) (op : BinaryOp) (x y : Exp) (low other h : ℕ) → Comes d l all (tokens_of op ++ us) x low → l ≤ level_of op → h ≡ 1 + max low other
    → Ends ((readers d).expression (suc (level_of op)) us) d rest y other → Comes d l all rest (Binary op x y) h
binary_comes d l all us rest op x y low other h left go high right =
    let same : suc (max low other) ≡ h = omega (arith, high) in
    comes_step d l all (tokens_of op ++ us) rest x low (Binary op x y) h left (omega (arith, lead_of op us, go)) (omega (arith, high))
    (λ small. same_ends (step_operator (readers d) x low op us) (bind_ends (joined (Binary op) x low) right (λ z. omega (arith, z, high))
    (λ fits. ends (omega (arith, fits, small, high)) (ap (λ i. Ok (got (Binary op x y) i rest)) same))))

pub coalesce_comes : (d l : ℕ) (all us rest : List Terminal) (x y : Exp) (low other h : ℕ) → Comes d l all (k.Coalesce ∷ us) x low → l ≤ 5 → h ≡ 1 + max low other
    → Ends ((readers d).expression 6 us) d rest y other → Comes d l all rest (Coalesce x y) h
unfolding step
coalesce_comes d l all us rest x y low other h left go high right =
    let same : suc (max low other) ≡ h = omega (arith, high) in
    comes_step d l all (k.Coalesce ∷ us) rest x low (Coalesce x y) h left go (omega (arith, high))
    (λ small. bind_ends (joined Coalesce x low) right (λ z. omega (arith, z, high)) (λ fits. ends (omega (arith, fits, small, high)) (ap (λ i. Ok (got (Coalesce x y) i rest)) same)))

pub prop_comes : (d l : ℕ) (all rest : List Terminal) (x : Exp) (w : Word) (low h : ℕ) → Comes d l all (k.Dot ∷ word w ∷ rest) x low → l ≤ 10 → h ≡ 1 + low → Comes d l all rest (Prop x w) h
unfolding step
prop_comes d l all rest x w low h left go high =
    let same : suc low ≡ h = omega (arith, high) in
    comes_step d l all (k.Dot ∷ word w ∷ rest) rest x low (Prop x w) h left go (omega (arith, high))
    (λ small. ends (omega (arith, small, high)) (ap (λ o. wants o (λ p. Ok (got (Prop x p.0) (suc low) p.1))) (after_word_reads w rest) ∙ ap (λ i. Ok (got (Prop x w) i rest)) same))

pub nullish_comes : (d l : ℕ) (all rest : List Terminal) (x : Exp) (w : Word) (low h : ℕ) → Comes d l all (k.NullishDot ∷ word w ∷ rest) x low → l ≤ 10 → h ≡ 1 + low → Comes d l all rest (PropNullish x w) h
unfolding step
nullish_comes d l all rest x w low h left go high =
    let same : suc low ≡ h = omega (arith, high) in
    comes_step d l all (k.NullishDot ∷ word w ∷ rest) rest x low (PropNullish x w) h left go (omega (arith, high))
    (λ small. ends (omega (arith, small, high)) (ap (λ o. wants o (λ p. Ok (got (PropNullish x p.0) (suc low) p.1))) (after_word_reads w rest) ∙ ap (λ i. Ok (got (PropNullish x w) i rest)) same))

pub index_comes : (d l : ℕ) (all us rest : List Terminal) (x y : Exp) (low other h : ℕ) → Comes d l all (k.OpenBracket ∷ us) x low → l ≤ 10 → h ≡ 1 + max low other
    → Ends ((readers d).expression 1 us) d (k.CloseBracket ∷ rest) y other → Comes d l all rest (Index x y) h
unfolding step
index_comes d l all us rest x y low other h left go high right =
    let same : suc (max low other) ≡ h = omega (arith, high) in
    comes_step d l all (k.OpenBracket ∷ us) rest x low (Index x y) h left go (omega (arith, high))
    (λ small. bind_ends (indexed x low) right (λ z. omega (arith, z, high)) (λ fits. ends (omega (arith, fits, small, high)) (ap (λ i. Ok (got (Index x y) i rest)) same)))

pub call_comes : (d l : ℕ) (all us rest : List Terminal) (x : Exp) (es : List Exp) (low other h : ℕ) → Comes d l all (k.Open ∷ us) x low → l ≤ 10 → h ≡ 1 + max low other
    → Ends (listing ((readers d).expression 1) false after_close us) d rest es other → Comes d l all rest (Call x (exps es)) h
unfolding step
call_comes d l all us rest x es low other h left go high right =
    let same : suc (max low other) ≡ h = omega (arith, high) in
    comes_step d l all (k.Open ∷ us) rest x low (Call x (exps es)) h left go (omega (arith, high))
    (λ small. bind_ends (called x low) right (λ z. omega (arith, z, high)) (λ fits. ends (omega (arith, fits, small, high)) (ap (λ i. Ok (got (Call x (exps es)) i rest)) same)))
