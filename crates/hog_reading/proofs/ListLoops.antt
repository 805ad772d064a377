-- How the loops over the items of lists begin, go on and end.
use Rattle.std.proofs.Common.{◌≡◌, ℕ, suc, ◌+◌, ◌-◌, ◌<◌, map, max, Bool, true, false, List, [], ◌∷◌, ◌++◌, length, Option, Some, None, Result, Ok, Err, refl, sym, ap, ◌∙◌, append_assoc, append-nil, arith}
use Rattle.std.proofs.lemmas.List.{map-append}
use Rattle.hog_tree.specs.Plain.{Word}
use Rattle.hog_grammar.specs.Pieces.{Lexed}
use Rattle.hog_grammar.specs.Terminal.{Terminal}
use Rattle.hog_reading.specs.declared.found.Stop.{Stop}
use Rattle.hog_reading.specs.declared.found.Stop.TheVariants as s
use Rattle.hog_terms.specs.Marks.{Shut, after_comma, after_name}
use Rattle.hog_terms.specs.Listed.{closing}
use Rattle.hog_reading.specs.Read.{Fault, Syntax, Got, got, ◌>>=◌, wants, either_way, Read, put, ended_list, others, some, listing, name}
use Rattle.hog_terms.specs.Listed.{follows, going, ending}
use Rattle.hog_reading.specs.Gives.{Fails}

-- with the items that were read before
abbrev pub after_items : {A : Type 0} → List A → ℕ → Got (List A) → Result (Got (List A)) Fault
after_items xs top g = Ok (got (xs ++ g.tree) (max top g.height) g.rest)

-- what items that were read are in the whole, where so many more may follow
abbrev pub Lists : {A : Type 0} → Read A → Bool → Shut → ℕ → List A → ℕ → List Terminal → Result (Got (List A)) Fault → Type 0
Lists item comma shut most xs top ts total = (some item comma shut most ts >>= after_items xs top) ≡ total

abbrev by_follow : {A : Type 0} → Option (Bool × List Terminal) → Read (List A) → Result (Got (List A)) Fault
by_follow None next = Err Syntax
by_follow (Some (true, us)) next = next us
by_follow (Some (false, us)) next = ended_list us

goes_by : {A : Type 0} (q : Option (List Terminal)) (us : List Terminal) (next : Read (List A)) → either_way q ended_list (next us) ≡ by_follow (going q us) next
goes_by (Some vs) us next = refl
goes_by None us next = refl

ends_by : {A : Type 0} (q : Option (List Terminal)) (next : Read (List A)) → wants q ended_list ≡ by_follow (ending q) next
ends_by (Some vs) next = refl
ends_by None next = refl

others_cases : {A : Type 0} (comma : Bool) (shut : Shut) (next : Read (List A)) (ts : List Terminal) (o : Option (List Terminal))
    → either_way o (λ us. either_way (closing comma shut us) ended_list (next us)) (wants (shut ts) ended_list) ≡ by_follow (follows comma shut ts o) next
others_cases comma shut next ts (Some us) = goes_by (closing comma shut us) us next
others_cases comma shut next ts None = ends_by (shut ts) next

put_after : {A : Type 0} (xs : List A) (top : ℕ) (x : Got A) (r : Result (Got (List A)) Fault) → (r >>= put x >>= after_items xs top) ≡ (r >>= after_items (xs ++ x.tree ∷ []) (max top x.height))
put_after xs top x (Err e) = refl
put_after xs top x (Ok g) =
    let e : max top (max x.height g.height) ≡ max (max top x.height) g.height = omega arith in
    ap (λ t. Ok (got t (max top (max x.height g.height)) g.rest)) (sym (append_assoc xs (x.tree ∷ []) g.tree)) ∙ ap (λ h. Ok (got ((xs ++ x.tree ∷ []) ++ g.tree) h g.rest)) e

last_after : {A : Type 0} (xs : List A) (top : ℕ) (ts : List Terminal) → after_items xs top (got [] 0 ts) ≡ Ok (got xs top ts)
last_after xs top ts =
    let e : max top 0 ≡ top = omega arith in
    ap (λ t. Ok (got t (max top 0) ts)) (append-nil xs) ∙ ap (λ h. Ok (got xs h ts)) e

none_before : {A : Type 0} (r : Result (Got (List A)) Fault) → (r >>= after_items [] 0) ≡ r
none_before (Err e) = refl
none_before (Ok g) = let e : max 0 g.height ≡ g.height = omega arith in ap (λ h. Ok (got g.tree h g.rest)) e

module _ {A : Type 0} (item : Read A) (comma : Bool) (shut : Shut) where
  some_steps : (m : ℕ) (ts : List Terminal) (x : Got A) → item ts ≡ Ok x → some item comma shut (suc m) ts ≡ (by_follow (follows comma shut x.rest (after_comma x.rest)) (some item comma shut m) >>= put x)
  unfolding some
  some_steps m ts x is = ap (λ r. r >>= λ g. others comma shut (some item comma shut m) g.rest >>= put g) is ∙ ap (λ r. r >>= put x) (others_cases comma shut (some item comma shut m) x.rest (after_comma x.rest))

  steps : (k m : ℕ) (xs : List A) (top : ℕ) (ts : List Terminal) (x : Got A) (o : Option (Bool × List Terminal)) (total : Result (Got (List A)) Fault) → k ≡ suc m → item ts ≡ Ok x → follows comma shut x.rest (after_comma x.rest) ≡ o
      → Lists item comma shut k xs top ts total → (by_follow o (some item comma shut m) >>= after_items (xs ++ x.tree ∷ []) (max top x.height)) ≡ total
  steps k m xs top ts x o total at is more same =
      sym (put_after xs top x (by_follow o (some item comma shut m)))
      ∙ ap (λ z. by_follow z (some item comma shut m) >>= put x >>= after_items xs top) (sym more)
      ∙ ap (λ r. r >>= after_items xs top) (sym (some_steps m ts x is))
      ∙ ap (λ n. some item comma shut n ts >>= after_items xs top) (sym at) ∙ same

  pub lists_begin : (ts : List Terminal) → shut ts ≡ None → Lists item comma shut (length ts) [] 0 ts (listing item comma shut ts)
  unfolding listing
  lists_begin ts none = none_before (some item comma shut (length ts) ts) ∙ ap (λ o. either_way o ended_list (some item comma shut (length ts) ts)) (sym none)

  pub lists_empty : (ts us : List Terminal) → shut ts ≡ Some us → listing item comma shut ts ≡ Ok (got [] 0 us)
  unfolding listing
  lists_empty ts us is = ap (λ o. either_way o ended_list (some item comma shut (length ts) ts)) is

  pub lists_go : (k m : ℕ) (xs : List A) (top : ℕ) (ts us : List Terminal) (x : Got A) (total : Result (Got (List A)) Fault) → k ≡ suc m → item ts ≡ Ok x → follows comma shut x.rest (after_comma x.rest) ≡ Some (true, us)
      → Lists item comma shut k xs top ts total → Lists item comma shut m (xs ++ x.tree ∷ []) (max top x.height) us total
  lists_go k m xs top ts us x total at is more same = steps k m xs top ts x (Some (true, us)) total at is more same

  pub lists_end : (k m : ℕ) (xs : List A) (top : ℕ) (ts us : List Terminal) (x : Got A) (total : Result (Got (List A)) Fault) → k ≡ suc m → item ts ≡ Ok x → follows comma shut x.rest (after_comma x.rest) ≡ Some (false, us)
      → Lists item comma shut k xs top ts total → total ≡ Ok (got (xs ++ x.tree ∷ []) (max top x.height) us)
  lists_end k m xs top ts us x total at is more same = sym (steps k m xs top ts x (Some (false, us)) total at is more same) ∙ last_after (xs ++ x.tree ∷ []) (max top x.height) us

  pub lists_stray : (k m : ℕ) (xs : List A) (top : ℕ) (ts : List Terminal) (x : Got A) (total : Result (Got (List A)) Fault) → k ≡ suc m → item ts ≡ Ok x → follows comma shut x.rest (after_comma x.rest) ≡ None
      → Lists item comma shut k xs top ts total → total ≡ Err Syntax
  lists_stray k m xs top ts x total at is more same = sym (steps k m xs top ts x None total at is more same)

  fails_so : (k m : ℕ) (xs : List A) (top : ℕ) (ts : List Terminal) (e : Fault) (total : Result (Got (List A)) Fault) → k ≡ suc m → item ts ≡ Err e → Lists item comma shut k xs top ts total → total ≡ Err e
  unfolding some
  fails_so k m xs top ts e total at is same =
      sym same ∙ ap (λ n. some item comma shut n ts >>= after_items xs top) at
      ∙ ap (λ r. (r >>= λ g. others comma shut (some item comma shut m) g.rest >>= put g) >>= after_items xs top) is

  pub lists_fail : (c : Lexed) (stop : Stop) (k m : ℕ) (xs : List A) (top : ℕ) (ts : List Terminal) (total : Result (Got (List A)) Fault) → k ≡ suc m → Fails c stop (item ts)
      → Lists item comma shut k xs top ts total → Fails c stop total
  lists_fail c (s.Syntax i) k m xs top ts total at is same = fails_so k m xs top ts _ total at is same
  lists_fail c (s.TooNested i) k m xs top ts total at is same = fails_so k m xs top ts _ total at is same
  lists_fail c s.OutOfMemory k m xs top ts total at is same = tt

  pub lists_out : (k : ℕ) (xs : List A) (top : ℕ) (ts : List Terminal) (total : Result (Got (List A)) Fault) → k ≡ 0 → Lists item comma shut k xs top ts total → total ≡ Err Syntax
  unfolding some
  lists_out k xs top ts total at same = sym same ∙ ap (λ n. some item comma shut n ts >>= after_items xs top) at

-- names, and one more at the end

pub name_none : (ts : List Terminal) → after_name ts ≡ None → name ts ≡ Err Syntax
name_none ts is = ap (λ o. wants o (λ p. Ok (got p.0 0 p.1))) is

pub name_some : (ts us : List Terminal) (w : Word) → after_name ts ≡ Some (w, us) → name ts ≡ Ok (got w 0 us)
name_some ts us w is = ap (λ o. wants o (λ p. Ok (got p.0 0 p.1))) is

pub map_snoc : {X Y : Type 0} (f : X → Y) (xs : List X) (x : X) → map f (xs ++ x ∷ []) ≡ map f xs ++ f x ∷ []
map_snoc f xs x = map-append f xs (x ∷ [])

pub one_less : (n i : ℕ) → i < n → n - i ≡ suc (n - (i + 1))
one_less n i h = omega (arith, h)
