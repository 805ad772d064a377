-- Lists that are spelled are read.
use Rattle.std.proofs.Common.{◌≡◌, ℕ, zero, suc, ◌+◌, ◌<◌, ◌≤◌, max, Bool, true, false, List, [], ◌∷◌, ◌++◌, length, None, Ok, cond, refl, ap, ◌∙◌, append_assoc, arith, length-append, inl, inr}
use Rattle.std.specs.Prelude.{map}
use Rattle.hog_grammar.specs.Terminal.{Terminal}
use Rattle.hog_grammar.specs.Terminal as k
use Rattle.hog_grammar.specs.Forms.{Phrase, Listing, Others}
use Rattle.hog_terms.specs.Marks.{Shut, lead}
use Rattle.hog_terms.specs.Listed.{closing}
use Rattle.hog_reading.specs.Read.{got, ◌>>=◌, wants, either_way, Read, put, ended_list, others, some, listing}
use Rattle.hog_spelling.proofs.Fronts.{Closes}
use Rattle.hog_spelling.proofs.WordTokens.{Each}
use Rattle.hog_spelling.proofs.Comes.{Ends, ends, same_ends, bind_ends}

-- an item is read where nothing goes on from it, and the mark does not begin it
abbrev pub Item : {A : Type 0} → ℕ → Read A → Shut → (A → Phrase) → A → Type 0
Item d item shut P x = (ts : List Terminal) (h : ℕ) → P x ts h → (rest : List Terminal) → lead rest ≡ 0 → Ends (item (ts ++ rest)) d rest x h × (shut (ts ++ rest) ≡ None)

pub pred_of : (n : ℕ) → 0 < n → (m : ℕ) × (n ≡ suc m)
pred_of zero h = absurd (omega arith)
pred_of (suc m) h = (m, refl)

module _ {A : Type 0} (d : ℕ) (item : Read A) (comma : Bool) (close : Terminal) (shut : Shut) (c : Closes close shut) (P : A → Phrase) where
  others_lead : (xs : List A) (ts : List Terminal) (h : ℕ) (us : List Terminal) → Others comma close (map P xs) ts h → lead (ts ++ us) ≡ 0
  others_lead [] ts h us (inl b) = ap (λ z. lead (z ++ us)) b.tokens ∙ c.no_lead us
  others_lead [] ts h us (inr b) = ap (λ z. lead (z ++ us)) b.1.tokens
  others_lead (x ∷ xs) ts h us b = ap (λ z. lead (z ++ us)) b.tokens

  others_above : (xs : List A) (ts : List Terminal) (h : ℕ) → Others comma close (map P xs) ts h → 0 < length ts
  others_above [] ts h (inl b) = omega (arith, ap length b.tokens)
  others_above [] ts h (inr b) = omega (arith, ap length b.1.tokens)
  others_above (x ∷ xs) ts h b = omega (arith, ap length b.tokens)

  last_one : (m : ℕ) (rest : List Terminal) → Ends (others comma shut (some item comma shut m) (close ∷ rest)) d rest [] 0
  last_one m rest = ends (omega arith)
      (ap (λ z. either_way z (λ us. either_way (closing comma shut us) ended_list (some item comma shut m us)) (wants (shut (close ∷ rest)) ended_list)) (c.no_comma rest)
      ∙ ap (λ z. wants z ended_list) (c.shuts rest))

  last_comma : (m : ℕ) (rest : List Terminal) → comma ≡ true → Ends (others comma shut (some item comma shut m) (k.Comma ∷ close ∷ rest)) d rest [] 0
  last_comma m rest has = ends (omega arith)
      (ap (λ b. either_way (cond b (shut (close ∷ rest)) None) ended_list (some item comma shut m (close ∷ rest))) has
      ∙ ap (λ z. either_way z ended_list (some item comma shut m (close ∷ rest))) (c.shuts rest))

  not_closing : (b : Bool) (ts : List Terminal) → shut ts ≡ None → closing b shut ts ≡ None
  not_closing true ts none = none
  not_closing false ts none = refl

  some_more : (m : ℕ) (us rest : List Terminal) (x : A) (xs : List A) (h : ℕ) → shut us ≡ None → Ends (some item comma shut m us) d rest (x ∷ xs) h
      → Ends (others comma shut (some item comma shut m) (k.Comma ∷ us)) d rest (x ∷ xs) h
  some_more m us rest x xs h none next =
      same_ends (ap (λ z. either_way z ended_list (some item comma shut m us)) (not_closing comma us none)) next

  some_one : (m : ℕ) (all mid rest : List Terminal) (x : A) (xs : List A) (low other : ℕ) → Ends (item all) d mid x low → Ends (others comma shut (some item comma shut m) mid) d rest xs other
      → Ends (some item comma shut (suc m) all) d rest (x ∷ xs) (0 + max low other)
  unfolding some
  some_one m all mid rest x xs low other one next =
      bind_ends (λ g. others comma shut (some item comma shut m) g.rest >>= put g) one (λ h. omega (arith, h))
      (λ fits. bind_ends (put (got x low mid)) next (λ h. omega (arith, h)) (λ small. ends (omega (arith, fits, small)) (ap (λ h. Ok (got (x ∷ xs) h rest)) (let e : max low other ≡ 0 + max low other = omega arith in e))))

  others_end : (xs : List A) → Each (Item d item shut P) xs → (ts : List Terminal) (h m : ℕ) → Others comma close (map P xs) ts h → length ts ≤ suc m → (rest : List Terminal)
      → Ends (others comma shut (some item comma shut m) (ts ++ rest)) d rest xs h
  others_end [] each ts h m (inl b) room rest = rw (b.tokens, b.height) (last_one m rest)
  others_end [] each ts h m (inr b) room rest = rw (b.1.tokens, b.1.height) (last_comma m rest b.0)
  others_end (x ∷ xs) each ts h zero b room rest =
      absurd (omega (arith, room, ap length b.tokens, length-append b.left b.right, others_above xs b.right b.other b.second))
  others_end (x ∷ xs) each ts h (suc m) b room rest =
      let sizes = length-append b.left b.right in
      let mid = b.right ++ rest in
      let one = each.0 b.left b.low b.first mid (others_lead xs b.right b.other rest b.second) in
      let next = others_end xs each.1 b.right b.other m b.second (omega (arith, room, ap length b.tokens, sizes)) rest in
      let it = some_more (suc m) (b.left ++ mid) rest x xs (0 + max b.low b.other) one.1 (some_one m (b.left ++ mid) mid rest x xs b.low b.other one.0 next) in
      let same : Ends (others comma shut (some item comma shut (suc m)) (k.Comma ∷ ((b.left ++ b.right) ++ rest))) d rest (x ∷ xs) (0 + max b.low b.other) = rw append_assoc it in
      rw (b.tokens, b.height) same

  listed_none : (rest : List Terminal) → Ends (listing item comma shut (close ∷ rest)) d rest [] 0
  unfolding listing
  listed_none rest = ends (omega arith) (ap (λ z. either_way z ended_list (some item comma shut (length (close ∷ rest)) (close ∷ rest))) (c.shuts rest))

  listed_some : (ts rest : List Terminal) (x : A) (xs : List A) (h m : ℕ) → shut ts ≡ None → length ts ≡ suc m → Ends (some item comma shut (suc m) ts) d rest (x ∷ xs) h → Ends (listing item comma shut ts) d rest (x ∷ xs) h
  unfolding listing
  listed_some ts rest x xs h m none size it =
      same_ends (ap (λ z. either_way z ended_list (some item comma shut (length ts) ts)) none ∙ ap (λ n. some item comma shut n ts) size) it

  pub listing_ends : (xs : List A) → Each (Item d item shut P) xs → (ts : List Terminal) (h : ℕ) → Listing comma close (map P xs) ts h → (rest : List Terminal) → Ends (listing item comma shut (ts ++ rest)) d rest xs h
  listing_ends [] each ts h b rest = rw (b.tokens, b.height) (listed_none rest)
  listing_ends (x ∷ xs) each ts h b rest =
      let mid = b.right ++ rest in
      let sizes = length-append b.left mid in
      let more = length-append b.right rest in
      let some = others_above xs b.right b.other b.second in
      let m = pred_of (length (b.left ++ mid)) (omega (arith, sizes, more, some)) in
      let one = each.0 b.left b.low b.first mid (others_lead xs b.right b.other rest b.second) in
      let next = others_end xs each.1 b.right b.other m.0 b.second (omega (arith, m.1, sizes, more)) rest in
      let it = listed_some (b.left ++ mid) rest x xs (0 + max b.low b.other) m.0 one.1 m.1 (some_one m.0 (b.left ++ mid) mid rest x xs b.low b.other one.0 next) in
      let same : Ends (listing item comma shut ((b.left ++ b.right) ++ rest)) d rest (x ∷ xs) (0 + max b.low b.other) = rw append_assoc it in
      rw (b.tokens, b.height) same
