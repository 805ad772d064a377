-- What is read of an expression is spelled by the tokens before the rest.
use Rattle.std.proofs.Common.{◌≡◌, ℕ, zero, suc, pos, ◌+◌, ◌<◌, ◌≤◌, max, min, true, false, List, [], ◌∷◌, ◌++◌, length, Some, Ok, Err, cond, refl, sym, ap, ◌∙◌, subst, append_assoc, zero-add, arith, inl, inr}
use Rattle.std.specs.Prelude.{nat_lt}
use Rattle.hog_tree.specs.Plain.{Word, Exp, Int, Truth, Null, Text, Template, Name, Array, Dict, Neg, Not, Binary, Coalesce, Prop, PropNullish, Index, Call, Lambda}
use Rattle.hog_grammar.specs.Terminal.{Terminal, word}
use Rattle.hog_grammar.specs.Terminal as k
use Rattle.hog_grammar.specs.Forms.{Phrase, Listing}
use Rattle.hog_grammar.specs.Spelling.{level, level_of, tokens_of, items, entries, Bare}
use Rattle.hog_terms.specs.Marks.{after_close, after_close_bracket, after_close_brace, after_arrow, after_word, operator, lead, begins_arrow}
use Rattle.hog_reading.specs.Read.{Syntax, TooNested, Got, got, ◌>>=◌, wants, Readers, listing, exps, pairs, entry, name, parts, body, arrow, short_arrow, arrowed, with_body, grown, closed, first, joined, binary, indexed, called, step, climb, leveled}
use Rattle.hog_spelling.proofs.Fronts.{closes_list, closes_array, closes_dictionary, is_close, is_close_bracket, is_arrow}
use Rattle.hog_spelling.proofs.Levels.{is_operator, lead_of, level_at_least}
use Rattle.hog_spelling.proofs.WordTokens.{is_after_word}
use Rattle.hog_spelling.proofs.Forms.{Spelled}
use Rattle.hog_spelling.proofs.Groups.{ItemOf, EntryOf}
use Rattle.hog_spelling.proofs.Sound.{bind_ok, cond_ok, unless_ok, choice_ok, wants_ok, either_ok, okay, from_ok, below, under, Leveled, Sound, listing_sound}
use Rattle.hog_spelling.proofs.SoundParts.{item_sound, names_sound, list_exps, list_pairs, entry_sound, parts_sound, body_sound}

-- An expression that may go on as the left part of a longer one.
pub record Begun (d l : ℕ) (ts : List Terminal) (g : Got Exp) : Type 0 where
  pub front : List Terminal
  pub own : ℕ
  pub tokens : ts ≡ front ++ g.rest
  pub spells : Spelled g.tree own front g.height
  pub fits : l ≤ own
  pub stops : min (lead g.rest) 10 ≤ own
  pub low : g.height ≤ d

bare_at : (e : Exp) (want : ℕ) (ts : List Terminal) (h : ℕ) → want ≤ level e → Bare e ts h → Spelled e want ts h
bare_at e want ts h fits b = record { pairs = 0; inner = ts; low = h; bare = b; tokens = refl; height = sym (zero-add h); fits = λ _. fits }

weaker : (e : Exp) (l own : ℕ) (ts : List Terminal) (h : ℕ) → l ≤ own → Spelled e own ts h → Spelled e l ts h
weaker e l own ts h low a = record { pairs = a.pairs; inner = a.inner; low = a.low; bare = a.bare; tokens = a.tokens; height = a.height; fits = λ z. omega (arith, a.fits z) }

in_pairs : (e : Exp) (l own : ℕ) (ts : List Terminal) (h : ℕ) → Spelled e own ts h → Spelled e l (k.Open ∷ (ts ++ k.Close ∷ [])) (suc h)
in_pairs e l own ts h a = record {
  pairs = suc a.pairs;
  inner = a.inner;
  low = a.low;
  bare = a.bare;
  tokens = ap (λ x. k.Open ∷ (x ++ k.Close ∷ [])) a.tokens;
  height = (let e : suc h ≡ suc a.pairs + a.low = omega (arith, a.height) in e);
  fits = λ z. absurd (cc);
}

-- from what was read of a form
begin : (d l : ℕ) (ts front : List Terminal) (e : Exp) (h own : ℕ) (rest : List Terminal) (g : Got Exp) → ts ≡ front ++ rest → Bare e front h → own ≤ level e → l ≤ own → min (lead rest) 10 ≤ own → h ≤ d
    → okay (got e h rest) ≡ okay g → Begun d l ts g
begin d l ts front e h own rest g is bare level fits stops low same =
    let it : Begun d l ts (got e h rest) = record { front = front; own = own; tokens = is; spells = bare_at e own front h level bare; fits = fits; stops = stops; low = low } in
    subst (λ (z : Got Exp). Begun d l ts z) (from_ok _ _ same) it

-- arrows

arrow_sound : (d l : ℕ) (again : Readers) → Sound d again → (ts : List Terminal) (g : Got Exp) → arrow again l ts ≡ Ok g → Begun (suc d) l (k.Open ∷ ts) g
unfolding arrow
arrow_sound d l again sound ts g is =
    let c = cond_ok (nat_lt 1 l) Syntax (listing name false after_close ts >>= with_body again) g is in
    let x = bind_ok (listing name false after_close ts) (with_body again) g c.1 in
    let a = wants_ok (after_arrow x.0.rest) (λ us. body again us >>= arrowed x.0) g x.2 in
    let y = bind_ok (body again a.0) (arrowed x.0) g a.2 in
    let n = names_sound d ts x.0 x.1 in
    let b = body_sound d again sound a.0 y.0 y.1 in
    begin (suc d) l (k.Open ∷ ts) ((k.Open ∷ n.front) ++ k.Arrow ∷ b.front) (Lambda x.0.tree y.0.tree) (suc (max x.0.height y.0.height)) 1 y.0.rest g
    (ap (λ z. k.Open ∷ z) (n.tokens ∙ ap (λ z. n.front ++ z) (is_arrow x.0.rest a.0 a.1 ∙ ap (λ z. k.Arrow ∷ z) b.tokens) ∙ sym (append_assoc n.front (k.Arrow ∷ b.front) y.0.rest)))
    (record { left = k.Open ∷ n.front; right = b.front; low = x.0.height; other = y.0.height; first = inr (record { inner = n.front; low = x.0.height; part = n.spells; tokens = refl; height = omega arith }); second = b.spells; tokens = refl; height = omega arith })
    (omega arith) (below 1 l c.0) (let s = b.stops in omega (arith, s)) (let u = n.low in let v = b.low in omega (arith, u, v)) y.2

short_sound : (d l : ℕ) (again : Readers) → Sound d again → (w : Word) (ts us : List Terminal) (g : Got Exp) → after_arrow ts ≡ Some us → short_arrow again l w us ≡ Ok g → Begun (suc d) l (k.Word w ∷ ts) g
unfolding short_arrow
short_sound d l again sound w ts us g at is =
    let c = cond_ok (nat_lt 1 l) Syntax (body again us >>= arrowed (got (w ∷ []) 0 us)) g is in
    let y = bind_ok (body again us) (arrowed (got (w ∷ []) 0 us)) g c.1 in
    let b = body_sound d again sound us y.0 y.1 in
    begin (suc d) l (k.Word w ∷ ts) (k.Word w ∷ k.Arrow ∷ b.front) (Lambda (w ∷ []) y.0.tree) (suc (max 0 y.0.height)) 1 y.0.rest g
    (ap (λ z. k.Word w ∷ z) (is_arrow ts us at ∙ ap (λ z. k.Arrow ∷ z) b.tokens))
    (record { left = k.Word w ∷ []; right = b.front; low = 0; other = y.0.height; first = inl (record { tokens = refl; height = refl }); second = b.spells; tokens = refl; height = omega arith })
    (omega arith) (below 1 l c.0) (let s = b.stops in omega (arith, s)) (let v = b.low in omega (arith, v)) y.2

-- forms without operators after them

leaf : (d l : ℕ) (t : Terminal) (ts : List Terminal) (e : Exp) (g : Got Exp) → l ≤ 11 → 11 ≤ level e → Bare e (t ∷ []) 1 → okay (got e 1 ts) ≡ okay g → Begun (suc d) l (t ∷ ts) g
leaf d l t ts e g top own bare same = begin (suc d) l (t ∷ ts) (t ∷ []) e 1 11 ts g refl bare own top (omega arith) (omega arith) same

first_sound : (d l : ℕ) (again : Readers) → Sound d again → (ts : List Terminal) (g : Got Exp) → l ≤ 11 → first again l ts ≡ Ok g → Begun (suc d) l ts g
unfolding first
first_sound d l again sound (k.Number n ∷ ts) g top is = leaf d l (k.Number n) ts (Int (pos n)) g top (omega arith) (record { tokens = refl; height = refl }) is
first_sound d l again sound (k.Text bs ∷ ts) g top is = leaf d l (k.Text bs) ts (Text bs) g top (omega arith) (record { tokens = refl; height = refl }) is
first_sound d l again sound (k.True ∷ ts) g top is = leaf d l k.True ts (Truth true) g top (omega arith) (record { tokens = refl; height = refl }) is
first_sound d l again sound (k.False ∷ ts) g top is = leaf d l k.False ts (Truth false) g top (omega arith) (record { tokens = refl; height = refl }) is
first_sound d l again sound (k.Null ∷ ts) g top is = leaf d l k.Null ts Null g top (omega arith) (record { tokens = refl; height = refl }) is
first_sound d l again sound (k.Word w ∷ ts) g top is = elim (either_ok (after_arrow ts) (short_arrow again l w) (Ok (got (Name w) 1 ts)) g is) [
  | inl a ↦ short_sound d l again sound w ts a.0 g a.1 a.2
  | inr a ↦ leaf d l (k.Word w) ts (Name w) g top (omega arith) (record { tokens = refl; height = refl }) a.1
]
first_sound d l again sound (k.TemplateStart ∷ ts) g top is =
    let x = bind_ok (parts (again.expression 1) (length ts) ts) (grown Template) g is in
    let t = parts_sound d again sound (length ts) ts x.0 x.1 in
    begin (suc d) l (k.TemplateStart ∷ ts) (k.TemplateStart ∷ t.front) (Template x.0.tree) (suc x.0.height) 11 x.0.rest g (ap (λ z. k.TemplateStart ∷ z) t.tokens)
    (record { inner = t.front; low = x.0.height; part = t.spells; tokens = refl; height = omega arith }) (omega arith) top (omega arith) (let v = t.low in omega (arith, v)) x.2
first_sound d l again sound (k.OpenBracket ∷ ts) g top is =
    let x = bind_ok (listing (again.expression 1) true after_close_bracket ts) (grown (λ es. Array (exps es))) g is in
    let t = listing_sound d (again.expression 1) true k.CloseBracket after_close_bracket closes_array ItemOf (item_sound d again sound) ts x.0 x.1 in
    let spells : Listing true k.CloseBracket (items (exps x.0.tree)) t.front x.0.height = subst (λ (ps : List Phrase). Listing true k.CloseBracket ps t.front x.0.height) (sym (list_exps x.0.tree)) t.spells in
    begin (suc d) l (k.OpenBracket ∷ ts) (k.OpenBracket ∷ t.front) (Array (exps x.0.tree)) (suc x.0.height) 11 x.0.rest g (ap (λ z. k.OpenBracket ∷ z) t.tokens)
    (record { inner = t.front; low = x.0.height; part = spells; tokens = refl; height = omega arith }) (omega arith) top (omega arith) (let v = t.low in omega (arith, v)) x.2
first_sound d l again sound (k.OpenBrace ∷ ts) g top is =
    let x = bind_ok (listing (entry (again.expression 1)) true after_close_brace ts) (grown (λ ds. Dict (pairs ds))) g is in
    let t = listing_sound d (entry (again.expression 1)) true k.CloseBrace after_close_brace closes_dictionary EntryOf (entry_sound d again sound) ts x.0 x.1 in
    let spells : Listing true k.CloseBrace (entries (pairs x.0.tree)) t.front x.0.height = subst (λ (ps : List Phrase). Listing true k.CloseBrace ps t.front x.0.height) (sym (list_pairs x.0.tree)) t.spells in
    begin (suc d) l (k.OpenBrace ∷ ts) (k.OpenBrace ∷ t.front) (Dict (pairs x.0.tree)) (suc x.0.height) 11 x.0.rest g (ap (λ z. k.OpenBrace ∷ z) t.tokens)
    (record { inner = t.front; low = x.0.height; part = spells; tokens = refl; height = omega arith }) (omega arith) top (omega arith) (let v = t.low in omega (arith, v)) x.2
first_sound d l again sound (k.Minus ∷ ts) g top is =
    let c = cond_ok (nat_lt 9 l) Syntax (again.expression 9 ts >>= grown Neg) g is in
    let x = bind_ok (again.expression 9 ts) (grown Neg) g c.1 in
    let t = sound.expression 9 ts x.0 (omega arith) x.1 in
    begin (suc d) l (k.Minus ∷ ts) (k.Minus ∷ t.front) (Neg x.0.tree) (suc x.0.height) 9 x.0.rest g (ap (λ z. k.Minus ∷ z) t.tokens)
    (record { inner = t.front; low = x.0.height; part = t.spells; tokens = refl; height = omega arith }) (omega arith) (below 9 l c.0) (let s = t.stops in omega (arith, s)) (let v = t.low in omega (arith, v)) x.2
first_sound d l again sound (k.Not ∷ ts) g top is =
    let c = cond_ok (nat_lt 4 l) Syntax (again.expression 4 ts >>= grown Not) g is in
    let x = bind_ok (again.expression 4 ts) (grown Not) g c.1 in
    let t = sound.expression 4 ts x.0 (omega arith) x.1 in
    begin (suc d) l (k.Not ∷ ts) (k.Not ∷ t.front) (Not x.0.tree) (suc x.0.height) 4 x.0.rest g (ap (λ z. k.Not ∷ z) t.tokens)
    (record { inner = t.front; low = x.0.height; part = t.spells; tokens = refl; height = omega arith }) (omega arith) (below 4 l c.0) (let s = t.stops in omega (arith, s)) (let v = t.low in omega (arith, v)) x.2
first_sound d l again sound (k.Open ∷ ts) g top is = elim (choice_ok (begins_arrow ts) (arrow again l ts) (again.expression 1 ts >>= closed) g is) [
  | inl a ↦ arrow_sound d l again sound ts g a.1
  | inr a ↦ (let x = bind_ok (again.expression 1 ts) closed g a.1 in
      let c = wants_ok (after_close x.0.rest) (λ us. Ok (got x.0.tree (suc x.0.height) us)) g x.2 in
      let t = sound.expression 1 ts x.0 (omega arith) x.1 in
      let it : Begun (suc d) l (k.Open ∷ ts) (got x.0.tree (suc x.0.height) c.0) = record {
        front = k.Open ∷ (t.front ++ k.Close ∷ []);
        own = 11;
        tokens = ap (λ q. k.Open ∷ q) (t.tokens ∙ ap (λ q. t.front ++ q) (is_close x.0.rest c.0 c.1) ∙ sym (append_assoc t.front (k.Close ∷ []) c.0));
        spells = in_pairs x.0.tree 11 1 t.front x.0.height t.spells;
        fits = top;
        stops = omega arith;
        low = (let v = t.low in omega (arith, v));
      } in
      subst (λ (z : Got Exp). Begun (suc d) l (k.Open ∷ ts) z) (from_ok _ _ c.2) it)
]
first_sound d l again sound [] g top is = absurd (cc)
first_sound d l again sound (_ ∷ ts) g top is = absurd (cc)

-- operators

operator_sound : (d l : ℕ) (again : Readers) → Sound d again → (all : List Terminal) (e : Exp) (h : ℕ) (ts : List Terminal) (g : Got Exp) → wants (operator ts) (binary again e h) ≡ Ok g
    → Begun (suc d) l all (got e h ts) → l ≤ lead ts → h < suc d → Begun (suc d) l all g
operator_sound d l again sound all e h ts g is b go small =
    let p = wants_ok (operator ts) (binary again e h) g is in
    let op = p.0.0 in
    let at = is_operator ts p.0 p.1 in
    let lev = level_at_least op in
    let led : lead ts ≡ level_of op = ap lead at ∙ lead_of op p.0.1 in
    let x = bind_ok (again.expression (suc (level_of op)) p.0.1) (joined (Binary op) e h) g p.2 in
    let y = sound.expression (suc (level_of op)) p.0.1 x.0 (omega (arith, lev.1)) x.1 in
    let left = weaker e (level_of op) b.own b.front h (let s = b.stops in omega (arith, s, led, lev.1)) b.spells in
    begin (suc d) l all (b.front ++ (tokens_of op ++ y.front)) (Binary op e x.0.tree) (suc (max h x.0.height)) (level_of op) x.0.rest g
    (b.tokens ∙ ap (λ z. b.front ++ z) (at ∙ ap (λ z. tokens_of op ++ z) y.tokens ∙ sym (append_assoc (tokens_of op) y.front x.0.rest)) ∙ sym (append_assoc b.front (tokens_of op ++ y.front) x.0.rest))
    (record { left = b.front; right = y.front; low = h; other = x.0.height; first = left; second = y.spells; tokens = refl; height = omega arith })
    (omega arith) (omega (arith, go, led)) (let s = y.stops in omega (arith, s)) (let s = y.low in omega (arith, s, small)) x.2

step_sound : (d l : ℕ) (again : Readers) → Sound d again → (all : List Terminal) (e : Exp) (h : ℕ) (ts : List Terminal) (g : Got Exp) → step again e h ts ≡ Ok g
    → Begun (suc d) l all (got e h ts) → l ≤ lead ts → h < suc d → Begun (suc d) l all g
unfolding step
step_sound d l again sound all e h (k.Coalesce ∷ ts) g is b go small =
    let x = bind_ok (again.expression 6 ts) (joined Coalesce e h) g is in
    let y = sound.expression 6 ts x.0 (omega arith) x.1 in
    let left = weaker e 5 b.own b.front h (let s = b.stops in omega (arith, s)) b.spells in
    begin (suc d) l all (b.front ++ k.Coalesce ∷ y.front) (Coalesce e x.0.tree) (suc (max h x.0.height)) 5 x.0.rest g
    (b.tokens ∙ ap (λ z. b.front ++ k.Coalesce ∷ z) y.tokens ∙ sym (append_assoc b.front (k.Coalesce ∷ y.front) x.0.rest))
    (record { left = b.front; right = y.front; low = h; other = x.0.height; first = left; second = y.spells; tokens = refl; height = omega arith })
    (omega arith) go (let s = y.stops in omega (arith, s)) (let s = y.low in omega (arith, s, small)) x.2
step_sound d l again sound all e h (k.Dot ∷ ts) g is b go small =
    let p = wants_ok (after_word ts) (λ p. Ok (got (Prop e p.0) (suc h) p.1)) g is in
    let left = weaker e 10 b.own b.front h (let s = b.stops in omega (arith, s)) b.spells in
    begin (suc d) l all (b.front ++ k.Dot ∷ word p.0.0 ∷ []) (Prop e p.0.0) (suc h) 10 p.0.1 g
    (b.tokens ∙ ap (λ z. b.front ++ k.Dot ∷ z) (is_after_word ts p.0 p.1) ∙ sym (append_assoc b.front (k.Dot ∷ word p.0.0 ∷ []) p.0.1))
    (record { inner = b.front; low = h; part = left; tokens = refl; height = omega arith }) (omega arith) go (omega arith) (omega (arith, small)) p.2
step_sound d l again sound all e h (k.NullishDot ∷ ts) g is b go small =
    let p = wants_ok (after_word ts) (λ p. Ok (got (PropNullish e p.0) (suc h) p.1)) g is in
    let left = weaker e 10 b.own b.front h (let s = b.stops in omega (arith, s)) b.spells in
    begin (suc d) l all (b.front ++ k.NullishDot ∷ word p.0.0 ∷ []) (PropNullish e p.0.0) (suc h) 10 p.0.1 g
    (b.tokens ∙ ap (λ z. b.front ++ k.NullishDot ∷ z) (is_after_word ts p.0 p.1) ∙ sym (append_assoc b.front (k.NullishDot ∷ word p.0.0 ∷ []) p.0.1))
    (record { inner = b.front; low = h; part = left; tokens = refl; height = omega arith }) (omega arith) go (omega arith) (omega (arith, small)) p.2
step_sound d l again sound all e h (k.OpenBracket ∷ ts) g is b go small =
    let x = bind_ok (again.expression 1 ts) (indexed e h) g is in
    let c = wants_ok (after_close_bracket x.0.rest) (λ us. Ok (got (Index e x.0.tree) (suc (max h x.0.height)) us)) g x.2 in
    let y = sound.expression 1 ts x.0 (omega arith) x.1 in
    let left = weaker e 10 b.own b.front h (let s = b.stops in omega (arith, s)) b.spells in
    begin (suc d) l all (b.front ++ k.OpenBracket ∷ (y.front ++ k.CloseBracket ∷ [])) (Index e x.0.tree) (suc (max h x.0.height)) 10 c.0 g
    (b.tokens ∙ ap (λ z. b.front ++ k.OpenBracket ∷ z) (y.tokens ∙ ap (λ z. y.front ++ z) (is_close_bracket x.0.rest c.0 c.1) ∙ sym (append_assoc y.front (k.CloseBracket ∷ []) c.0))
    ∙ sym (append_assoc b.front (k.OpenBracket ∷ (y.front ++ k.CloseBracket ∷ [])) c.0))
    (record { left = b.front; right = y.front; low = h; other = x.0.height; first = left; second = y.spells; tokens = refl; height = omega arith })
    (omega arith) go (omega arith) (let s = y.low in omega (arith, s, small)) c.2
step_sound d l again sound all e h (k.Open ∷ ts) g is b go small =
    let x = bind_ok (listing (again.expression 1) false after_close ts) (called e h) g is in
    let t = listing_sound d (again.expression 1) false k.Close after_close closes_list ItemOf (item_sound d again sound) ts x.0 x.1 in
    let spells : Listing false k.Close (items (exps x.0.tree)) t.front x.0.height = subst (λ (ps : List Phrase). Listing false k.Close ps t.front x.0.height) (sym (list_exps x.0.tree)) t.spells in
    let left = weaker e 10 b.own b.front h (let s = b.stops in omega (arith, s)) b.spells in
    begin (suc d) l all (b.front ++ k.Open ∷ t.front) (Call e (exps x.0.tree)) (suc (max h x.0.height)) 10 x.0.rest g
    (b.tokens ∙ ap (λ z. b.front ++ k.Open ∷ z) t.tokens ∙ sym (append_assoc b.front (k.Open ∷ t.front) x.0.rest))
    (record { left = b.front; right = t.front; low = h; other = x.0.height; first = left; second = spells; tokens = refl; height = omega arith })
    (omega arith) go (omega arith) (let s = t.low in omega (arith, s, small)) x.2
step_sound d l again sound all e h [] g is b go small = absurd (cc)
step_sound d l again sound all e h (t ∷ ts) g is b go small = operator_sound d l again sound all e h (t ∷ ts) g is b go small

begun_leveled : (d l : ℕ) (all : List Terminal) (g : Got Exp) → Begun d l all g → lead g.rest < l → Leveled d l all g
begun_leveled d l all g b stop = record { front = b.front; tokens = b.tokens; spells = weaker g.tree l b.own b.front g.height b.fits b.spells; stops = stop; low = b.low }

climb_sound : (d l : ℕ) (again : Readers) (all : List Terminal) → Sound d again → (m : ℕ) (b g : Got Exp) → climb again m (suc d) l b ≡ Ok g → Begun (suc d) l all b → Leveled (suc d) l all g
unfolding climb
climb_sound d l again all sound zero b g is s =
    let x = unless_ok (nat_lt (lead b.rest) l) (TooNested (length b.rest)) (Ok b) g is in
    subst (λ (z : Got Exp). Leveled (suc d) l all z) (from_ok b g x.1) (begun_leveled (suc d) l all b s (under (lead b.rest) l x.0))
climb_sound d l again all sound (suc m) b g is s =
    let next = step again b.tree b.height b.rest >>= climb again m (suc d) l in
    elim (choice_ok (nat_lt (lead b.rest) l) (Ok b) (cond (nat_lt b.height (suc d)) next (Err (TooNested (length b.rest)))) g is) [
      | inl x ↦ subst (λ (z : Got Exp). Leveled (suc d) l all z) (from_ok b g x.1) (begun_leveled (suc d) l all b s (under (lead b.rest) l x.0))
      | inr x ↦ (let y = unless_ok (nat_lt b.height (suc d)) (TooNested (length b.rest)) next g x.1 in
          let z = bind_ok (step again b.tree b.height b.rest) (climb again m (suc d) l) g y.1 in
          climb_sound d l again all sound m z.0 g z.2 (step_sound d l again sound all b.tree b.height b.rest z.0 z.1 s (below (lead b.rest) l x.0) (under b.height (suc d) y.0)))
    ]

pub leveled_sound : (d l : ℕ) (again : Readers) → Sound d again → (ts : List Terminal) (g : Got Exp) → l ≤ 11 → leveled again (suc d) l ts ≡ Ok g → Leveled (suc d) l ts g
unfolding leveled
leveled_sound d l again sound ts g top is =
    let x = bind_ok (first again l ts) (climb again (suc d) (suc d) l) g is in
    climb_sound d l again ts sound (suc d) x.0 g x.2 (first_sound d l again sound ts x.0 top x.1)
