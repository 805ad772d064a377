-- Arrays, dictionaries, templates and arrows that are spelled are read.
use Rattle.std.proofs.Common.{◌≡◌, ℕ, suc, ◌+◌, ◌<◌, ◌≤◌, max, true, false, List, [], ◌∷◌, ◌++◌, length, None, Ok, Err, cond, refl, ap, ◌∙◌, subst, append_assoc, arith, inl, inr}
use Rattle.std.specs.Prelude.{nat_lt, map}
use Rattle.hog_tree.specs.Plain.{Word, Exp, Template, Array, Dict, Lambda, Exps, NoExp, MoreExp, Parts, NoPart, MoreText, MoreHole, Pairs, NoPair, MorePair, Body, OneExp, ManyStms, Stms}
use Rattle.hog_grammar.specs.Terminal.{Terminal}
use Rattle.hog_grammar.specs.Terminal as k
use Rattle.hog_grammar.specs.Forms.{Phrase, Leaf, Two, Listing}
use Rattle.hog_grammar.specs.Spelling.{names, OfParts, Parameters, items, entries}
use Rattle.hog_terms.specs.Marks.{Shut, after_close, after_close_bracket, after_close_brace, after_hole, after_open_brace, lead, begins_arrow}
use Rattle.hog_reading.specs.Read.{Syntax, got, ◌>>=◌, wants, either_way, first, listing, exps, pairs, entry, valued, name, parts, put_text, put_hole, body, braced, block_body, one_body, arrow, short_arrow, arrowed, with_body, grown, closed}
use Rattle.hog_reading.specs.ReadStatements.{readers}
use Rattle.hog_spelling.proofs.Fronts.{Closes, closes_list}
use Rattle.hog_spelling.proofs.WordTokens.{Each}
use Rattle.hog_reading.proofs.Climb.{lt_true, lt_false}
use Rattle.hog_spelling.proofs.Comes.{Comes, Ends, ends, same_ends, bind_ends, from_first}
use Rattle.hog_spelling.proofs.Lists.{Item, listing_ends}
use Rattle.hog_spelling.proofs.Forms.{Spelled, Reads, spelled_starts}

-- lists of items, and their phrases

abbrev pub list_of : Exps → List Exp
list_of NoExp = []
list_of (MoreExp e es) = e ∷ list_of es

pub exps_list : (es : Exps) → exps (list_of es) ≡ es
exps_list NoExp = refl
exps_list (MoreExp e es) = ap (MoreExp e) (exps_list es)

abbrev pub ItemOf : Exp → Phrase
ItemOf e = Spelled e 1

pub items_map : (es : Exps) → items es ≡ map ItemOf (list_of es)
items_map NoExp = refl
items_map (MoreExp e es) = ap (λ ps. ItemOf e ∷ ps) (items_map es)

abbrev pub pair_list : Pairs → List (Exp × Exp)
pair_list NoPair = []
pair_list (MorePair x y ds) = (x, y) ∷ pair_list ds

pub pairs_list : (ds : Pairs) → pairs (pair_list ds) ≡ ds
pairs_list NoPair = refl
pairs_list (MorePair x y ds) = ap (MorePair x y) (pairs_list ds)

abbrev pub EntryOf : (Exp × Exp) → Phrase
EntryOf p = Two (Spelled p.0 1) (Spelled p.1 1) (λ xs ys. xs ++ k.Colon ∷ ys) 0

pub entries_map : (ds : Pairs) → entries ds ≡ map EntryOf (pair_list ds)
entries_map NoPair = refl
entries_map (MorePair x y ds) = ap (λ ps. EntryOf (x, y) ∷ ps) (entries_map ds)

abbrev pub NameOf : Word → Phrase
NameOf w = Leaf (k.Word w ∷ []) 0

pub names_map : (ws : List Word) → names ws ≡ map NameOf ws
names_map [] = refl
names_map (w ∷ ws) = ap (λ ps. NameOf w ∷ ps) (names_map ws)

-- items

pub exp_item : (d : ℕ) (close : Terminal) (shut : Shut) → Closes close shut → (e : Exp) → Reads e → Item d ((readers d).expression 1) shut ItemOf e
exp_item d close shut c e hyp ts h b rest stop = (hyp ts h b rest stop d, c.no_start (ts ++ rest) (spelled_starts e hyp ts h b rest stop))

entry_ends : (d : ℕ) (all us rest : List Terminal) (x y : Exp) (low other : ℕ) → Ends ((readers d).expression 1 all) d (k.Colon ∷ us) x low → Ends ((readers d).expression 1 us) d rest y other
    → Ends (entry ((readers d).expression 1) all) d rest (x, y) (0 + max low other)
entry_ends d all us rest x y low other key value =
    let same : max low other ≡ 0 + max low other = omega arith in
    bind_ends (valued ((readers d).expression 1)) key (λ z. omega (arith, z))
    (λ fits. bind_ends (λ v. Ok (got (x, v.tree) (max low v.height) v.rest)) value (λ z. omega (arith, z)) (λ small. ends (omega (arith, fits, small)) (ap (λ h. Ok (got (x, y) h rest)) same)))

pub entry_item : (d : ℕ) (close : Terminal) (shut : Shut) → Closes close shut → (x y : Exp) → Reads x → Reads y → Item d (entry ((readers d).expression 1)) shut EntryOf (x, y)
entry_item d close shut c x y kx ky ts h b rest stop =
    let us = b.right ++ rest in
    let key : lead (k.Colon ∷ us) ≡ 0 = refl in
    let starts = c.no_start (b.left ++ k.Colon ∷ us) (spelled_starts x kx b.left b.low b.first (k.Colon ∷ us) key) in
    let it = entry_ends d (b.left ++ k.Colon ∷ us) us rest x y b.low b.other (kx b.left b.low b.first (k.Colon ∷ us) key d) (ky b.right b.other b.second rest stop d) in
    (rw (b.tokens, b.height) (rw append_assoc it), rw b.tokens (rw append_assoc starts))

pub name_item : (d : ℕ) (close : Terminal) (shut : Shut) → Closes close shut → (w : Word) → Item d name shut NameOf w
name_item d close shut c w ts h b rest stop = (rw (b.tokens, b.height) (one rest), rw b.tokens (c.no_start (k.Word w ∷ rest) refl))
  where
    one : (rest : List Terminal) → Ends (name (k.Word w ∷ rest)) d rest w 0
    one rest = ends (omega arith) refl

pub each_name : (d : ℕ) (close : Terminal) (shut : Shut) → Closes close shut → (ws : List Word) → Each (Item d name shut NameOf) ws
each_name d close shut c [] = tt
each_name d close shut c (w ∷ ws) = (name_item d close shut c w, each_name d close shut c ws)

pub names_end : (d : ℕ) (ws : List Word) (ts : List Terminal) (h : ℕ) → Listing false k.Close (names ws) ts h → (rest : List Terminal) → Ends (listing name false after_close (ts ++ rest)) d rest ws h
names_end d ws ts h b rest =
    listing_ends d name false k.Close after_close closes_list NameOf ws (each_name d k.Close after_close closes_list ws) ts h (subst (λ (ps : List Phrase). Listing false k.Close ps ts h) (names_map ws) b) rest

-- a list in its marks

pub array_comes : (d l : ℕ) (us rest : List Terminal) (es : List Exp) (low h : ℕ) → h ≡ 1 + low → Ends (listing ((readers d).expression 1) true after_close_bracket us) d rest es low
    → Comes d l (k.OpenBracket ∷ us) rest (Array (exps es)) h
unfolding first
array_comes d l us rest es low h high it = from_first d l (k.OpenBracket ∷ us) rest (Array (exps es)) h
    (bind_ends (grown (λ xs. Array (exps xs))) it (λ z. omega (arith, z, high)) (λ fits. ends (omega (arith, fits, high)) (ap (λ i. Ok (got (Array (exps es)) i rest)) (let q : suc low ≡ h = omega (arith, high) in q))))

pub dict_comes : (d l : ℕ) (us rest : List Terminal) (ds : List (Exp × Exp)) (low h : ℕ) → h ≡ 1 + low → Ends (listing (entry ((readers d).expression 1)) true after_close_brace us) d rest ds low
    → Comes d l (k.OpenBrace ∷ us) rest (Dict (pairs ds)) h
unfolding first
dict_comes d l us rest ds low h high it = from_first d l (k.OpenBrace ∷ us) rest (Dict (pairs ds)) h
    (bind_ends (grown (λ xs. Dict (pairs xs))) it (λ z. omega (arith, z, high)) (λ fits. ends (omega (arith, fits, high)) (ap (λ i. Ok (got (Dict (pairs ds)) i rest)) (let q : suc low ≡ h = omega (arith, high) in q))))

-- templates

pub template_comes : (d l : ℕ) (us rest : List Terminal) (ps : Parts) (low h : ℕ) → h ≡ 1 + low → Ends (parts ((readers d).expression 1) (length us) us) d rest ps low → Comes d l (k.TemplateStart ∷ us) rest (Template ps) h
unfolding first
template_comes d l us rest ps low h high it = from_first d l (k.TemplateStart ∷ us) rest (Template ps) h
    (bind_ends (grown Template) it (λ z. omega (arith, z, high)) (λ fits. ends (omega (arith, fits, high)) (ap (λ i. Ok (got (Template ps) i rest)) (let q : suc low ≡ h = omega (arith, high) in q))))

pub parts_above : (ps : Parts) (ts : List Terminal) (h : ℕ) → OfParts ps ts h → 0 < length ts
parts_above NoPart ts h b = omega (arith, ap length b.tokens)
parts_above (MoreText bs ps) ts h b = omega (arith, ap length b.tokens)
parts_above (MoreHole e ps) ts h b = omega (arith, ap length b.tokens)

pub last_part : (d m : ℕ) (rest : List Terminal) → Ends (parts ((readers d).expression 1) (suc m) (k.TemplateEnd ∷ rest)) d rest NoPart 0
unfolding parts
last_part d m rest = ends (omega arith) refl

pub text_part : (d m : ℕ) (us rest : List Terminal) (bs : List ℕ) (ps : Parts) (low h : ℕ) → h ≡ 0 + low → Ends (parts ((readers d).expression 1) m us) d rest ps low
    → Ends (parts ((readers d).expression 1) (suc m) (k.Characters bs ∷ us)) d rest (MoreText bs ps) h
unfolding parts
text_part d m us rest bs ps low h high it =
    bind_ends (put_text bs) it (λ z. omega (arith, z, high)) (λ fits. ends (omega (arith, fits, high)) (ap (λ i. Ok (got (MoreText bs ps) i rest)) (let q : low ≡ h = omega (arith, high) in q)))

pub hole_part : (d m : ℕ) (us vs rest : List Terminal) (e : Exp) (ps : Parts) (low other h : ℕ) → h ≡ 0 + max low other → Ends ((readers d).expression 1 us) d (k.HoleEnd ∷ vs) e low
    → Ends (parts ((readers d).expression 1) m vs) d rest ps other → Ends (parts ((readers d).expression 1) (suc m) (k.HoleStart ∷ us)) d rest (MoreHole e ps) h
unfolding parts
hole_part d m us vs rest e ps low other h high one next =
    bind_ends (λ g. wants (after_hole g.rest) (λ ws. parts ((readers d).expression 1) m ws >>= put_hole g)) one (λ z. omega (arith, z, high))
    (λ fits. bind_ends (put_hole (got e low (k.HoleEnd ∷ vs))) next (λ z. omega (arith, z, high))
    (λ small. ends (omega (arith, fits, small, high)) (ap (λ i. Ok (got (MoreHole e ps) i rest)) (let q : max low other ≡ h = omega (arith, high) in q))))

-- arrows

pub one_body_ends : (d : ℕ) (us rest : List Terminal) (e : Exp) (h : ℕ) → after_open_brace us ≡ None → Ends ((readers d).expression 1 us) d rest e h → Ends (body (readers d) us) d rest (OneExp e) h
unfolding body
one_body_ends d us rest e h none it =
    same_ends (ap (λ z. either_way z (λ vs. braced (readers d).statement vs >>= block_body) ((readers d).expression 1 us >>= one_body)) none) (bind_ends one_body it (λ z. z) (λ fits. ends fits refl))

pub block_body_ends : (d : ℕ) (us rest : List Terminal) (ss : Stms) (h : ℕ) → lead rest ≡ 0 → Ends (braced (readers d).statement us) d rest ss h → Ends (body (readers d) (k.OpenBrace ∷ us)) d rest (ManyStms ss) h
unfolding body
block_body_ends d us rest ss h stop it =
    bind_ends block_body it (λ z. z) (λ fits. ends fits (ap (λ b. cond b (Ok (got (ManyStms ss) h rest)) (Err Syntax)) (lt_true (lead rest) 1 (omega (arith, stop)))))

arrow_parameters : (ws : List Word) (ts : List Terminal) (h : ℕ) → Listing false k.Close (names ws) ts h → (us : List Terminal) → begins_arrow (ts ++ k.Arrow ∷ us) ≡ true
arrow_parameters [] ts h b us = ap (λ z. begins_arrow (z ++ k.Arrow ∷ us)) b.tokens
arrow_parameters (w ∷ []) ts h b us = elim b.second [
  | inl e ↦ ap (λ z. begins_arrow (z ++ k.Arrow ∷ us)) (b.tokens ∙ ap (λ x. x ++ b.right) b.first.tokens ∙ ap (λ x. k.Word w ∷ x) e.tokens)
  | inr e ↦ (let no : false ≡ true = e.0 in absurd (cc))
]
arrow_parameters (w ∷ v ∷ ws) ts h b us = ap (λ z. begins_arrow (z ++ k.Arrow ∷ us)) (b.tokens ∙ ap (λ x. x ++ b.right) b.first.tokens ∙ ap (λ x. k.Word w ∷ x) b.second.tokens)

pub long_arrow_comes : (d l : ℕ) (ts us rest : List Terminal) (ws : List Word) (c : Body) (low other h : ℕ) → l ≤ 1 → h ≡ 1 + max low other → Listing false k.Close (names ws) ts low → Ends (body (readers d) us) d rest c other
    → Comes d l (k.Open ∷ (ts ++ k.Arrow ∷ us)) rest (Lambda ws c) h
unfolding first arrow
long_arrow_comes d l ts us rest ws c low other h loose high b it =
    let all = ts ++ k.Arrow ∷ us in
    let same : suc (max low other) ≡ h = omega (arith, high) in
    from_first d l (k.Open ∷ all) rest (Lambda ws c) h
    (same_ends (ap (λ z. cond z (cond (nat_lt 1 l) (Err Syntax) (listing name false after_close all >>= with_body (readers d))) ((readers d).expression 1 all >>= closed)) (arrow_parameters ws ts low b us)
    ∙ ap (λ z. cond z (Err Syntax) (listing name false after_close all >>= with_body (readers d))) (lt_false 1 l loose))
    (bind_ends (with_body (readers d)) (names_end d ws ts low b (k.Arrow ∷ us)) (λ z. omega (arith, z, high))
    (λ fits. bind_ends (arrowed (got ws low (k.Arrow ∷ us))) it (λ z. omega (arith, z, high)) (λ small. ends (omega (arith, fits, small, high)) (ap (λ i. Ok (got (Lambda ws c) i rest)) same)))))

pub short_arrow_comes : (d l : ℕ) (us rest : List Terminal) (w : Word) (c : Body) (other h : ℕ) → l ≤ 1 → h ≡ 1 + max 0 other → Ends (body (readers d) us) d rest c other
    → Comes d l (k.Word w ∷ k.Arrow ∷ us) rest (Lambda (w ∷ []) c) h
unfolding first short_arrow
short_arrow_comes d l us rest w c other h loose high it =
    let same : suc (max 0 other) ≡ h = omega (arith, high) in
    from_first d l (k.Word w ∷ k.Arrow ∷ us) rest (Lambda (w ∷ []) c) h
    (same_ends (ap (λ z. cond z (Err Syntax) (body (readers d) us >>= arrowed (got (w ∷ []) 0 us))) (lt_false 1 l loose))
    (bind_ends (arrowed (got (w ∷ []) 0 us)) it (λ z. omega (arith, z, high)) (λ small. ends (omega (arith, small, high)) (ap (λ i. Ok (got (Lambda (w ∷ []) c) i rest)) same))))

-- a parameter list in parentheses, or one name
pub lambda_comes : (d l : ℕ) (ts us rest : List Terminal) (ws : List Word) (c : Body) (low other h : ℕ) → l ≤ 1 → h ≡ 1 + max low other → Parameters ws ts low → Ends (body (readers d) us) d rest c other
    → Comes d l (ts ++ k.Arrow ∷ us) rest (Lambda ws c) h
lambda_comes d l ts us rest ws c low other h loose high (inr b) it =
    rw b.tokens (long_arrow_comes d l b.inner us rest ws c b.low other h loose (omega (arith, high, b.height)) b.part it)
lambda_comes d l ts us rest [] c low other h loose high (inl b) it = absurd b
lambda_comes d l ts us rest (w ∷ []) c low other h loose high (inl b) it = rw b.tokens (short_arrow_comes d l us rest w c other h loose (omega (arith, high, b.height)) it)
lambda_comes d l ts us rest (w ∷ v ∷ ws) c low other h loose high (inl b) it = absurd b
