-- What is read of a list, of statements in braces and of what stands after an arrow is spelled by the tokens before the rest.
use Rattle.std.proofs.Common.{◌≡◌, ℕ, zero, suc, ◌<◌, ◌≤◌, max, true, false, List, [], ◌∷◌, ◌++◌, length, Some, None, Ok, cond, refl, sym, ap, ◌∙◌, subst, append_assoc, arith, inl, inr}
use Rattle.std.specs.Prelude.{nat_lt, map}
use Rattle.hog_tree.specs.Plain.{Word, Exp, Parts, NoPart, MoreText, MoreHole, Body, OneExp, ManyStms, Stms, Done, Then}
use Rattle.hog_grammar.specs.Terminal.{Terminal}
use Rattle.hog_grammar.specs.Terminal as k
use Rattle.hog_grammar.specs.Forms.{Phrase, Listing, Braced, begins_brace, ends_block}
use Rattle.hog_grammar.specs.Spelling.{names, items, entries, OfBody, OfParts, OfStm, OfStms}
use Rattle.hog_terms.specs.Marks.{after_close, after_close_brace, after_open_brace, after_colon, after_hole, after_name, after_semi, lead}
use Rattle.hog_reading.specs.Read.{Syntax, Got, got, ◌>>=◌, wants, Readers, listing, exps, pairs, entry, valued, name, several, put_stm, braced, closed_brace, parts, put_text, put_hole, body, block_body, one_body}
use Rattle.hog_spelling.proofs.Fronts.{closes_list, is_close_brace, is_open_brace, is_colon, is_hole, is_semi}
use Rattle.hog_spelling.proofs.Moves.{brace_like, stms_move}
use Rattle.hog_spelling.proofs.Groups.{ItemOf, EntryOf, NameOf, names_map}
use Rattle.hog_spelling.proofs.Sound.{bind_ok, unless_ok, choice_ok, wants_ok, either_ok, from_ok, under, Taken, Stated, Sound, listing_sound}

-- parts and lists

pub item_sound : (d : ℕ) (again : Readers) → Sound d again → (ts : List Terminal) (g : Got Exp) → again.expression 1 ts ≡ Ok g → Taken ItemOf d ts g
item_sound d again sound ts g is = let t = sound.expression 1 ts g (omega arith) is in record { front = t.front; tokens = t.tokens; spells = t.spells; low = t.low }

pub is_name : (ts : List Terminal) (p : Word × List Terminal) → after_name ts ≡ Some p → ts ≡ k.Word p.0 ∷ p.1
is_name (k.Word w ∷ ts) p h = let e : (w, ts) ≡ p = cc in ap (λ (q : Word × List Terminal). k.Word q.0 ∷ q.1) e
is_name [] p h = absurd (cc)
is_name (_ ∷ ts) p h = absurd (cc)

pub name_sound : (d : ℕ) (ts : List Terminal) (g : Got Word) → name ts ≡ Ok g → Taken NameOf d ts g
name_sound d ts g is =
    let x = wants_ok (after_name ts) (λ p. Ok (got p.0 0 p.1)) g is in
    let it : Taken NameOf d ts (got x.0.0 0 x.0.1) = record { front = k.Word x.0.0 ∷ []; tokens = is_name ts x.0 x.1; spells = record { tokens = refl; height = refl }; low = omega arith } in
    subst (λ (z : Got Word). Taken NameOf d ts z) (from_ok _ _ x.2) it

pub names_sound : (d : ℕ) (ts : List Terminal) (g : Got (List Word)) → listing name false after_close ts ≡ Ok g → Taken (λ ws. Listing false k.Close (names ws)) d ts g
names_sound d ts g is =
    let t = listing_sound d name false k.Close after_close closes_list NameOf (name_sound d) ts g is in
    record { front = t.front; tokens = t.tokens; spells = subst (λ (ps : List Phrase). Listing false k.Close ps t.front g.height) (sym (names_map g.tree)) t.spells; low = t.low }

pub list_exps : (es : List Exp) → items (exps es) ≡ map ItemOf es
list_exps [] = refl
list_exps (e ∷ es) = ap (λ ps. ItemOf e ∷ ps) (list_exps es)

pub list_pairs : (ds : List (Exp × Exp)) → entries (pairs ds) ≡ map EntryOf ds
list_pairs [] = refl
list_pairs (p ∷ ds) = ap (λ ps. EntryOf p ∷ ps) (list_pairs ds)

pub entry_sound : (d : ℕ) (again : Readers) → Sound d again → (ts : List Terminal) (g : Got (Exp × Exp)) → entry (again.expression 1) ts ≡ Ok g → Taken EntryOf d ts g
entry_sound d again sound ts g is =
    let x = bind_ok (again.expression 1 ts) (valued (again.expression 1)) g is in
    let c = wants_ok (after_colon x.0.rest) (λ us. again.expression 1 us >>= λ v. Ok (got (x.0.tree, v.tree) (max x.0.height v.height) v.rest)) g x.2 in
    let y = bind_ok (again.expression 1 c.0) (λ v. Ok (got (x.0.tree, v.tree) (max x.0.height v.height) v.rest)) g c.2 in
    let a = sound.expression 1 ts x.0 (omega arith) x.1 in
    let b = sound.expression 1 c.0 y.0 (omega arith) y.1 in
    let it : Taken EntryOf d ts (got (x.0.tree, y.0.tree) (max x.0.height y.0.height) y.0.rest) = record {
      front = a.front ++ k.Colon ∷ b.front;
      tokens = a.tokens ∙ ap (λ z. a.front ++ z) (is_colon x.0.rest c.0 c.1 ∙ ap (λ z. k.Colon ∷ z) b.tokens) ∙ sym (append_assoc a.front (k.Colon ∷ b.front) y.0.rest);
      spells = record { left = a.front; right = b.front; low = x.0.height; other = y.0.height; first = a.spells; second = b.spells; tokens = refl; height = omega arith };
      low = (let l = a.low in let m = b.low in omega (arith, l, m));
    } in
    subst (λ (z : Got (Exp × Exp)). Taken EntryOf d ts z) (from_ok _ _ y.2) it

pub parts_sound : (d : ℕ) (again : Readers) → Sound d again → (m : ℕ) (ts : List Terminal) (g : Got Parts) → parts (again.expression 1) m ts ≡ Ok g → Taken OfParts d ts g
unfolding parts
parts_sound d again sound zero ts g is = absurd (cc)
parts_sound d again sound (suc m) (k.Characters bs ∷ ts) g is =
    let x = bind_ok (parts (again.expression 1) m ts) (put_text bs) g is in
    let t = parts_sound d again sound m ts x.0 x.1 in
    let it : Taken OfParts d (k.Characters bs ∷ ts) (got (MoreText bs x.0.tree) x.0.height x.0.rest) =
    record { front = k.Characters bs ∷ t.front; tokens = ap (λ z. k.Characters bs ∷ z) t.tokens; spells = record { inner = t.front; low = x.0.height; part = t.spells; tokens = refl; height = omega arith }; low = t.low } in
    subst (λ (z : Got Parts). Taken OfParts d (k.Characters bs ∷ ts) z) (from_ok _ _ x.2) it
parts_sound d again sound (suc m) (k.HoleStart ∷ ts) g is =
    let x = bind_ok (again.expression 1 ts) (λ g. wants (after_hole g.rest) (λ us. parts (again.expression 1) m us >>= put_hole g)) g is in
    let c = wants_ok (after_hole x.0.rest) (λ us. parts (again.expression 1) m us >>= put_hole x.0) g x.2 in
    let y = bind_ok (parts (again.expression 1) m c.0) (put_hole x.0) g c.2 in
    let a = sound.expression 1 ts x.0 (omega arith) x.1 in
    let t = parts_sound d again sound m c.0 y.0 y.1 in
    let it : Taken OfParts d (k.HoleStart ∷ ts) (got (MoreHole x.0.tree y.0.tree) (max x.0.height y.0.height) y.0.rest) = record {
      front = k.HoleStart ∷ (a.front ++ k.HoleEnd ∷ t.front);
      tokens = ap (λ z. k.HoleStart ∷ z) (a.tokens ∙ ap (λ z. a.front ++ z) (is_hole x.0.rest c.0 c.1 ∙ ap (λ z. k.HoleEnd ∷ z) t.tokens) ∙ sym (append_assoc a.front (k.HoleEnd ∷ t.front) y.0.rest));
      spells = record { left = a.front; right = t.front; low = x.0.height; other = y.0.height; first = a.spells; second = t.spells; tokens = refl; height = omega arith };
      low = (let l = a.low in let m = t.low in omega (arith, l, m));
    } in
    subst (λ (z : Got Parts). Taken OfParts d (k.HoleStart ∷ ts) z) (from_ok _ _ y.2) it
parts_sound d again sound (suc m) (k.TemplateEnd ∷ ts) g is =
    let it : Taken OfParts d (k.TemplateEnd ∷ ts) (got NoPart 0 ts) = record { front = k.TemplateEnd ∷ []; tokens = refl; spells = record { tokens = refl; height = refl }; low = omega arith } in
    subst (λ (z : Got Parts). Taken OfParts d (k.TemplateEnd ∷ ts) z) (from_ok _ _ is) it
parts_sound d again sound (suc m) [] g is = absurd (cc)
parts_sound d again sound (suc m) (_ ∷ ts) g is = absurd (cc)

-- statements in braces

pub record UpTo (d : ℕ) (ts : List Terminal) (g : Got Stms) : Type 0 where
  pub front : List Terminal
  pub tokens : ts ≡ front ++ g.rest
  pub spells : OfStms g.tree front g.rest g.height
  pub low : g.height ≤ d
  pub over : ends_block g.rest ≡ true

more_semi : (ss : Stms) (ts rest : List Terminal) (h : ℕ) → OfStms ss ts rest h → OfStms ss (k.Semi ∷ ts) rest h
more_semi Done ts rest h b = record { empty = suc b.empty; tokens = ap (λ z. k.Semi ∷ z) b.tokens; height = b.height }
more_semi (Then s ss) ts rest h b = record { empty = suc b.empty; left = b.left; right = b.right; low = b.low; other = b.other; first = b.first; second = b.second; tokens = ap (λ z. k.Semi ∷ z) b.tokens; height = b.height }

pub several_sound : (d : ℕ) (again : Readers) → Sound d again → (m : ℕ) (ts : List Terminal) (g : Got Stms) → several again.statement m ts ≡ Ok g → UpTo d ts g
unfolding several
several_sound d again sound zero ts g is = absurd (cc)
several_sound d again sound (suc m) ts g is =
    let next = again.statement ts >>= λ g. several again.statement m g.rest >>= put_stm g in
    elim (either_ok (after_semi ts) (several again.statement m) (cond (ends_block ts) (Ok (got Done 0 ts)) next) g is) [
      | inl x ↦ (let t = several_sound d again sound m x.0 g x.2 in
          record { front = k.Semi ∷ t.front; tokens = is_semi ts x.0 x.1 ∙ ap (λ z. k.Semi ∷ z) t.tokens; spells = more_semi g.tree t.front g.rest g.height t.spells; low = t.low; over = t.over })
      | inr x ↦ elim (choice_ok (ends_block ts) (Ok (got Done 0 ts)) next g x.1) [
        | inl y ↦ (let it : UpTo d ts (got Done 0 ts) = record { front = []; tokens = refl; spells = record { empty = 0; tokens = refl; height = refl }; low = omega arith; over = y.0 } in
            subst (λ (z : Got Stms). UpTo d ts z) (from_ok _ _ y.1) it)
        | inr y ↦ (let s = bind_ok (again.statement ts) (λ g. several again.statement m g.rest >>= put_stm g) g y.1 in
            let r = bind_ok (several again.statement m s.0.rest) (put_stm s.0) g s.2 in
            let a = sound.statement ts s.0 s.1 in
            let t = several_sound d again sound m s.0.rest r.0 r.1 in
            let it : UpTo d ts (got (Then s.0.tree r.0.tree) (max s.0.height r.0.height) r.0.rest) = record {
              front = a.front ++ t.front;
              tokens = a.tokens ∙ ap (λ z. a.front ++ z) t.tokens ∙ sym (append_assoc a.front t.front r.0.rest);
              spells = record { empty = 0; left = a.front; right = t.front; low = s.0.height; other = r.0.height; first = subst (λ (z : List Terminal). OfStm s.0.tree a.front z s.0.height) t.tokens a.spells; second = t.spells; tokens = refl; height = refl };
              low = (let l = a.low in let m = t.low in omega (arith, l, m));
              over = t.over;
            } in
            subst (λ (z : Got Stms). UpTo d ts z) (from_ok _ _ r.2) it)
      ]
    ]

abbrev pub InBraces : Stms → List Terminal → List Terminal → ℕ → Type 0
InBraces ss = Braced (OfStms ss) 0

pub braced_sound : (d : ℕ) (again : Readers) → Sound d again → (us : List Terminal) (g : Got Stms) → braced again.statement us ≡ Ok g → Stated InBraces d (k.OpenBrace ∷ us) g
unfolding braced
braced_sound d again sound us g is =
    let x = bind_ok (several again.statement (suc (length us)) us) closed_brace g is in
    let c = wants_ok (after_close_brace x.0.rest) (λ us. Ok (got x.0.tree x.0.height us)) g x.2 in
    let t = several_sound d again sound (suc (length us)) us x.0 x.1 in
    let e = is_close_brace x.0.rest c.0 c.1 in
    let it : Stated InBraces d (k.OpenBrace ∷ us) (got x.0.tree x.0.height c.0) = record {
      front = k.OpenBrace ∷ (t.front ++ k.CloseBrace ∷ []);
      tokens = ap (λ z. k.OpenBrace ∷ z) (t.tokens ∙ ap (λ z. t.front ++ z) e ∙ sym (append_assoc t.front (k.CloseBrace ∷ []) c.0));
      spells = record { inner = t.front; low = x.0.height; part = subst (λ (z : List Terminal). OfStms x.0.tree t.front z x.0.height) e t.spells; tokens = refl; height = omega arith };
      low = t.low;
    } in
    subst (λ (z : Got Stms). Stated InBraces d (k.OpenBrace ∷ us) z) (from_ok _ _ c.2) it

-- what stands after an arrow

pub no_brace_front : (front rest : List Terminal) → after_open_brace (front ++ rest) ≡ None → begins_brace front ≡ false
no_brace_front [] rest none = refl
no_brace_front (k.OpenBrace ∷ front) rest none = absurd (cc)
no_brace_front (_ ∷ front) rest none = refl

pub record BodyTaken (d : ℕ) (ts : List Terminal) (g : Got Body) : Type 0 where
  pub front : List Terminal
  pub tokens : ts ≡ front ++ g.rest
  pub spells : OfBody g.tree front g.height
  pub low : g.height ≤ d
  pub stops : lead g.rest < 1

pub body_sound : (d : ℕ) (again : Readers) → Sound d again → (ts : List Terminal) (g : Got Body) → body again ts ≡ Ok g → BodyTaken d ts g
unfolding body
body_sound d again sound ts g is = elim (either_ok (after_open_brace ts) (λ us. braced again.statement us >>= block_body) (again.expression 1 ts >>= one_body) g is) [
  | inl x ↦ (let y = bind_ok (braced again.statement x.0) block_body g x.2 in
      let z = unless_ok (nat_lt (lead y.0.rest) 1) Syntax (Ok (got (ManyStms y.0.tree) y.0.height y.0.rest)) g y.2 in
      let t = braced_sound d again sound x.0 y.0 y.1 in
      let b = t.spells in
      let it : BodyTaken d ts (got (ManyStms y.0.tree) y.0.height y.0.rest) = record {
        front = t.front;
        tokens = is_open_brace ts x.0 x.1 ∙ t.tokens;
        spells = record { inner = b.inner; low = b.low; part = stms_move y.0.tree b.inner (k.CloseBrace ∷ y.0.rest) (k.CloseBrace ∷ []) b.low (brace_like y.0.rest []) b.part; tokens = b.tokens; height = b.height };
        low = t.low;
        stops = under (lead y.0.rest) 1 z.0;
      } in
      subst (λ (q : Got Body). BodyTaken d ts q) (from_ok _ _ z.1) it)
  | inr x ↦ (let y = bind_ok (again.expression 1 ts) one_body g x.1 in
      let t = sound.expression 1 ts y.0 (omega arith) y.1 in
      let it : BodyTaken d ts (got (OneExp y.0.tree) y.0.height y.0.rest) = record {
        front = t.front;
        tokens = t.tokens;
        spells = record { part = t.spells; no_brace = no_brace_front t.front y.0.rest (sym (ap after_open_brace t.tokens) ∙ x.0) };
        low = t.low;
        stops = t.stops;
      } in
      subst (λ (q : Got Body). BodyTaken d ts q) (from_ok _ _ y.2) it)
]
