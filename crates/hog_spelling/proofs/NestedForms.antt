-- Where the height is passed in an expression, there were tokens enough before: each two levels of height cost a token.
use Rattle.std.proofs.Common.{◌≡◌, ℕ, zero, suc, ◌+◌, ◌*◌, ◌<◌, ◌≤◌, max, true, false, List, [], ◌∷◌, ◌++◌, length, Ok, Err, cond, ap, arith, length-append}
use Rattle.std.specs.Prelude.{nat_lt}
use Rattle.hog_tree.specs.Plain.{Word, Exp, Name, Prop, PropNullish, Index, Template, Array, Dict, Neg, Not, Binary, Coalesce, ManyStms}
use Rattle.hog_grammar.specs.Terminal.{Terminal}
use Rattle.hog_grammar.specs.Terminal as k
use Rattle.hog_grammar.specs.Spelling.{level_of, tokens_of}
use Rattle.hog_terms.specs.Marks.{after_close, after_close_bracket, after_open_brace, after_close_brace, after_colon, after_arrow, after_hole, after_word, operator, lead, begins_arrow}
use Rattle.hog_reading.specs.Read.{Syntax, TooNested, Got, got, ◌>>=◌, wants, Readers, grown, listing, exps, pairs, valued, entry, name, braced, put_text, put_hole, parts, block_body, one_body, body, arrowed, with_body, arrow, short_arrow, closed, first, joined, binary, indexed, called, step, climb, leveled}
use Rattle.hog_spelling.proofs.Fronts.{is_open_brace, is_colon, is_arrow, is_hole}
use Rattle.hog_spelling.proofs.WordTokens.{is_after_word}
use Rattle.hog_spelling.proofs.Levels.{is_operator}
use Rattle.hog_spelling.proofs.Count.{operator_some}
use Rattle.hog_spelling.proofs.Sound.{below}
use Rattle.hog_spelling.proofs.NestedLists.{Near, Nears, Fits, read_near, syntax_near, high_near, bind_near, weaker_near, wants_near, either_near, cond_near, close_less, bracket_less, brace_less, listing_near, names_near, braced_near}

item_near : (d : ℕ) (again : Readers) → Nears d again → (ts : List Terminal) → Near (Fits 0 ts) d (2 * length ts) (again.expression 1 ts)
item_near d again near ts = weaker_near (near.expression 1 ts) (omega arith) (λ x p. omega (arith, p))

entry_near : (d : ℕ) (again : Readers) → Nears d again → (ts : List Terminal) → Near (Fits 0 ts) d (2 * length ts) (entry (again.expression 1) ts)
entry_near d again near ts = bind_near (valued (again.expression 1)) (near.expression 1 ts) (omega arith)
    (λ g p. wants_near (after_colon g.rest) (λ us. again.expression 1 us >>= λ v. Ok (got (g.tree, v.tree) (max g.height v.height) v.rest))
    (λ us e. let l : length g.rest ≡ suc (length us) = ap length (is_colon g.rest us e) in
    bind_near (λ v. Ok (got (g.tree, v.tree) (max g.height v.height) v.rest)) (near.expression 1 us) (omega (arith, p)) (λ v q. read_near (omega (arith, p, q)))))

parts_near : (d : ℕ) (again : Readers) → Nears d again → (m : ℕ) (ts : List Terminal) → Near (Fits 0 ts) d (2 * length ts) (parts (again.expression 1) m ts)
unfolding parts
parts_near d again near zero ts = syntax_near
parts_near d again near (suc m) (k.Characters bs ∷ ts) = bind_near (put_text bs) (parts_near d again near m ts) (omega arith) (λ g p. read_near (omega (arith, p)))
parts_near d again near (suc m) (k.HoleStart ∷ ts) = bind_near (λ g. wants (after_hole g.rest) (λ us. parts (again.expression 1) m us >>= put_hole g)) (near.expression 1 ts) (omega arith)
    (λ g p. wants_near (after_hole g.rest) (λ us. parts (again.expression 1) m us >>= put_hole g)
    (λ us e. let l : length g.rest ≡ suc (length us) = ap length (is_hole g.rest us e) in
    bind_near (put_hole g) (parts_near d again near m us) (omega (arith, p)) (λ r q. read_near (omega (arith, p, q)))))
parts_near d again near (suc m) (k.TemplateEnd ∷ ts) = read_near (omega arith)
parts_near d again near (suc m) [] = syntax_near
parts_near d again near (suc m) (_ ∷ ts) = syntax_near

-- arrows

body_near : (d : ℕ) (again : Readers) → Nears d again → (ts : List Terminal) → Near (Fits 0 ts) d (2 * length ts) (body again ts)
unfolding body
body_near d again near ts = either_near (after_open_brace ts) (λ us. braced again.statement us >>= block_body) (again.expression 1 ts >>= one_body)
    (λ us e. let l : length ts ≡ suc (length us) = ap length (is_open_brace ts us e) in
    bind_near block_body (braced_near d again near us) (omega arith)
    (λ g p. cond_near (nat_lt (lead g.rest) 1) (Ok (got (ManyStms g.tree) g.height g.rest)) (Err Syntax) (read_near (omega (arith, p))) (λ s. syntax_near)))
    (bind_near one_body (near.expression 1 ts) (omega arith) (λ g p. read_near (omega (arith, p))))

arrow_near : (d l : ℕ) (again : Readers) → Nears d again → (ts : List Terminal) → Near (Fits 1 (k.Open ∷ ts)) (suc d) (2 * suc (length ts)) (arrow again l ts)
unfolding arrow
arrow_near d l again near ts = cond_near (nat_lt 1 l) (Err Syntax) (listing name false after_close ts >>= with_body again) syntax_near
    (λ s. bind_near (with_body again) (names_near d ts) (omega arith)
    (λ ws p. wants_near (after_arrow ws.rest) (λ us. body again us >>= arrowed ws)
    (λ us e. let l : length ws.rest ≡ suc (length us) = ap length (is_arrow ws.rest us e) in
    bind_near (arrowed ws) (body_near d again near us) (omega (arith, p)) (λ b q. read_near (omega (arith, p, q))))))

short_near : (d l : ℕ) (again : Readers) → Nears d again → (w : Word) (ts : List Terminal) → Near (Fits 1 (k.Arrow ∷ ts)) (suc d) (2 * suc (length ts)) (short_arrow again l w ts)
unfolding short_arrow
short_near d l again near w ts = cond_near (nat_lt 1 l) (Err Syntax) (body again ts >>= arrowed (got (w ∷ []) 0 ts)) syntax_near
    (λ s. bind_near (arrowed (got (w ∷ []) 0 ts)) (body_near d again near ts) (omega arith) (λ b q. read_near (omega (arith, q))))

-- forms without operators after them

first_near : (d l : ℕ) (again : Readers) → Nears d again → (ts : List Terminal) → Near (Fits 1 ts) (suc d) (2 * length ts) (first again l ts)
unfolding first
first_near d l again near (k.Number n ∷ ts) = read_near (omega arith)
first_near d l again near (k.Text bs ∷ ts) = read_near (omega arith)
first_near d l again near (k.True ∷ ts) = read_near (omega arith)
first_near d l again near (k.False ∷ ts) = read_near (omega arith)
first_near d l again near (k.Null ∷ ts) = read_near (omega arith)
first_near d l again near (k.Word w ∷ ts) = either_near (after_arrow ts) (short_arrow again l w) (Ok (got (Name w) 1 ts))
    (λ us e. let m : length ts ≡ suc (length us) = ap length (is_arrow ts us e) in weaker_near (short_near d l again near w us) (omega arith) (λ x p. omega (arith, p)))
    (read_near (omega arith))
first_near d l again near (k.TemplateStart ∷ ts) = bind_near (grown Template) (parts_near d again near (length ts) ts) (omega arith) (λ g p. read_near (omega (arith, p)))
first_near d l again near (k.OpenBracket ∷ ts) =
    bind_near (grown (λ es. Array (exps es))) (listing_near d (again.expression 1) true after_close_bracket bracket_less (item_near d again near) ts) (omega arith) (λ g p. read_near (omega (arith, p)))
first_near d l again near (k.OpenBrace ∷ ts) =
    bind_near (grown (λ ds. Dict (pairs ds))) (listing_near d (entry (again.expression 1)) true after_close_brace brace_less (entry_near d again near) ts) (omega arith) (λ g p. read_near (omega (arith, p)))
first_near d l again near (k.Minus ∷ ts) = cond_near (nat_lt 9 l) (Err Syntax) (again.expression 9 ts >>= grown Neg) syntax_near
    (λ s. bind_near (grown Neg) (near.expression 9 ts) (omega arith) (λ g p. read_near (omega (arith, p))))
first_near d l again near (k.Not ∷ ts) = cond_near (nat_lt 4 l) (Err Syntax) (again.expression 4 ts >>= grown Not) syntax_near
    (λ s. bind_near (grown Not) (near.expression 4 ts) (omega arith) (λ g p. read_near (omega (arith, p))))
first_near d l again near (k.Open ∷ ts) = cond_near (begins_arrow ts) (arrow again l ts) (again.expression 1 ts >>= closed) (arrow_near d l again near ts)
    (λ s. bind_near closed (near.expression 1 ts) (omega arith)
    (λ g p. wants_near (after_close g.rest) (λ us. Ok (got g.tree (suc g.height) us)) (λ us e. let m = close_less g.rest us e in read_near (omega (arith, p)))))
first_near d l again near [] = syntax_near
first_near d l again near (_ ∷ ts) = syntax_near

-- operators

-- an expression that fits, of fewer tokens left
record Grows (n : ℕ) (ts : List Terminal) (g : Got Exp) : Type 0 where
  fits : 1 + g.height + 2 * length g.rest ≤ n
  fewer : length g.rest < length ts

operator_near : (d n : ℕ) (again : Readers) → Nears d again → (e : Exp) (h : ℕ) (ts : List Terminal) → 1 + h + 2 * length ts ≤ n → Near (Grows n ts) (suc d) n (wants (operator ts) (binary again e h))
operator_near d n again near e h ts low = wants_near (operator ts) (binary again e h)
    (λ p at. let l : length ts ≡ length (tokens_of p.0 ++ p.1) = ap length (is_operator ts p at) in
    let a = length-append (tokens_of p.0) p.1 in
    let s = operator_some p.0 in
    bind_near (joined (Binary p.0) e h) (near.expression (suc (level_of p.0)) p.1) (omega arith) (λ g q. read_near (record { fits = omega (arith, q); fewer = omega (arith, q) })))

step_near : (d n : ℕ) (again : Readers) → Nears d again → (e : Exp) (h : ℕ) (ts : List Terminal) → 1 + h + 2 * length ts ≤ n → Near (Grows n ts) (suc d) n (step again e h ts)
unfolding step
step_near d n again near e h (k.Coalesce ∷ ts) low =
    bind_near (joined Coalesce e h) (near.expression 6 ts) (omega (arith, low)) (λ g q. read_near (record { fits = omega (arith, low, q); fewer = omega (arith, q) }))
step_near d n again near e h (k.Dot ∷ ts) low = wants_near (after_word ts) (λ p. Ok (got (Prop e p.0) (suc h) p.1))
    (λ p at. let l : length ts ≡ suc (length p.1) = ap length (is_after_word ts p at) in read_near (record { fits = omega (arith, low); fewer = omega arith }))
step_near d n again near e h (k.NullishDot ∷ ts) low = wants_near (after_word ts) (λ p. Ok (got (PropNullish e p.0) (suc h) p.1))
    (λ p at. let l : length ts ≡ suc (length p.1) = ap length (is_after_word ts p at) in read_near (record { fits = omega (arith, low); fewer = omega arith }))
step_near d n again near e h (k.OpenBracket ∷ ts) low = bind_near (indexed e h) (near.expression 1 ts) (omega (arith, low))
    (λ g q. wants_near (after_close_bracket g.rest) (λ us. Ok (got (Index e g.tree) (suc (max h g.height)) us))
    (λ us at. let l = bracket_less g.rest us at in read_near (record { fits = omega (arith, low, q); fewer = omega (arith, q) })))
step_near d n again near e h (k.Open ∷ ts) low =
    bind_near (called e h) (listing_near d (again.expression 1) false after_close close_less (item_near d again near) ts) (omega (arith, low)) (λ g q. read_near (record { fits = omega (arith, low, q); fewer = omega (arith, q) }))
step_near d n again near e h [] low = syntax_near
step_near d n again near e h (t ∷ ts) low = operator_near d n again near e h (t ∷ ts) low

climb_near : (d n l : ℕ) (again : Readers) → Nears d again → (m : ℕ) (g : Got Exp) → 1 + g.height + 2 * length g.rest ≤ n → suc d + 2 * length g.rest ≤ n + m
    → Near (λ (x : Got Exp). 1 + x.height + 2 * length x.rest ≤ n) (suc d) n (climb again m (suc d) l g)
unfolding climb
climb_near d n l again near zero g low room = cond_near (nat_lt (lead g.rest) l) (Ok g) (Err (TooNested (length g.rest))) (read_near low) (λ s. high_near (omega (arith, room)))
climb_near d n l again near (suc m) g low room =
    let next = step again g.tree g.height g.rest >>= climb again m (suc d) l in
    cond_near (nat_lt (lead g.rest) l) (Ok g) (cond (nat_lt g.height (suc d)) next (Err (TooNested (length g.rest)))) (read_near low)
    (λ s. cond_near (nat_lt g.height (suc d)) next (Err (TooNested (length g.rest)))
    (bind_near (climb again m (suc d) l) (step_near d n again near g.tree g.height g.rest low) (omega arith) (λ x p. climb_near d n l again near m x p.fits (let f = p.fewer in omega (arith, room))))
    (λ t. let b = below g.height (suc d) t in high_near (omega (arith, low))))

pub leveled_near : (d l : ℕ) (again : Readers) → Nears d again → (ts : List Terminal) → Near (Fits 1 ts) (suc d) (2 * length ts) (leveled again (suc d) l ts)
unfolding leveled
leveled_near d l again near ts = bind_near (climb again (suc d) (suc d) l) (first_near d l again near ts) (omega arith) (λ g p. climb_near d (2 * length ts) l again near (suc d) g p (omega (arith, p)))
