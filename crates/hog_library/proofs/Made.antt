-- Cells that a call makes, one after the other, and all or none.
use Rattle.std.proofs.Common.{◌≡◌, ◌+◌, ℕ, List, [], ◌∷◌, ◌++◌, length, take, get_or, All, arith, refl, ap, sym, subst, ◌∙◌, append_assoc, append-nil, length-append}
use Rattle.std.proofs.Math.Seq.{take-append_seam}
use Rattle.std.specs.Prelude.{Result, Ok, Err, IfOk, OnOk, OnErr, IsErrAnd}
use Rattle.hog_value.specs.declared.cell.FunCell.{FunCell}
use Rattle.hog_value.specs.declared.value.Stop.{Stop}
use Rattle.hog_value.specs.declared.value.Stop.TheVariants as stop
use Rattle.hog_value.specs.declared.value.Value.TheVariants.{Null, Bool as Truth, Int, Ref}
use Rattle.hog_value.specs.Values.{Val, NamesBelow}
use Rattle.hog_value.specs.Meters.{Spent}
use Rattle.hog_value.specs.Cells.{CellOf, HeapOf, Text, IsCovered, IsClosed, IsSound, cost_of_cell}
use Rattle.hog_value.specs.Operations.{Outcome, Gives, Throws, Spends, made}
use Rattle.hog_json.specs.Reading.{outcome_and_then, Grows}
use Rattle.hog_library.specs.Cells.{texts_made, error_cell}
use Rattle.hog_library.specs.Products.{Tries, Makes}

-- a meter of which only units were spent
abbrev pub only_units : Spent → Spent → Type 0
only_units meter now = now ≡ record meter { units = now.units }

pub spent_both : (a b c : Spent) → only_units a b → only_units b c → only_units a c
spent_both a b c first second = second ∙ ap (λ (m : Spent). record m { units = c.units }) first

module _ (c : CellOf FunCell) (h g : HeapOf FunCell) (m n : Spent) where
  -- what making one cell is
  pub makes_cell : (r : Result Val Stop) → IfOk r (λ v. made c h m.units ≡ Gives v g n.units) → OnOk r (g ≡ h ++ c ∷ []) → IfOk r (λ v. v ≡ Ref (length h))
      → OnOk r (n ≡ record m { units = m.units + cost_of_cell c }) → (r ≡ Err stop.UnitsSpent → made c h m.units ≡ Spends)
      → OnErr r (g ≡ h) → OnErr r (n ≡ m) → IsCovered g n.units → Makes (made c h m.units) r h g m n
  makes_cell (Ok v) gives cell number charge spent err err_meter covered = record {
    ok = gives;
    turns_and_depth = charge ∙ ap (λ k. record m { units = k }) (sym (ap (λ (x : Spent). x.units) charge));
    names = subst (NamesBelow (length g)) (sym number) (omega (arith, ap length cell, length-append h (c ∷ [])));
    spent = spent;
    err = tt;
    err_meter = tt;
    grows = (c ∷ [], cell);
    covered = covered;
  }
  makes_cell (Err e) gives cell number charge spent err err_meter covered = record {
    ok = tt;
    turns_and_depth = subst (only_units m) (sym err_meter) refl;
    names = tt;
    spent = spent;
    err = err;
    err_meter = err_meter;
    grows = ([], err ∙ sym (append-nil h));
    covered = covered;
  }

-- a call that stops before it makes anything
pub makes_stop : (o : Outcome FunCell Val) (s : Stop) (r : Result Val Stop) (h : HeapOf FunCell) (m : Spent) → IsErrAnd r (λ e. e ≡ s) → (s ≡ stop.UnitsSpent → o ≡ Spends)
    → IsCovered h m.units → Makes o r h h m m
makes_stop o s (Ok v) h m stops spent covered = absurd stops
makes_stop o s (Err e) h m is spent covered = record {
  ok = tt;
  turns_and_depth = refl;
  names = tt;
  spent = λ q. let same : s ≡ stop.UnitsSpent = cc in spent same;
  err = refl;
  err_meter = refl;
  grows = ([], sym (append-nil h));
  covered = covered;
}

-- a value that is there
pub makes_value : (v : Val) (h : HeapOf FunCell) (m : Spent) → NamesBelow (length h) v → IsCovered h m.units → Makes (Gives v h m.units) (Ok v) h h m m
makes_value v h m names covered = record {
  ok = refl;
  turns_and_depth = refl;
  names = names;
  spent = λ q. absurd cc;
  err = tt;
  err_meter = tt;
  grows = ([], sym (append-nil h));
  covered = covered;
}

-- growing twice
pub grows_both : (a b c : HeapOf FunCell) → Grows a b → Grows b c → Grows a c
grows_both a b c first second = (first.0 ++ second.0, second.1 ∙ ap (λ x. x ++ second.0) first.1 ∙ append_assoc a first.0 second.0)

-- the first cells of a heap that grew are the heap before
pub grows_back : (h g : HeapOf FunCell) → Grows h g → take (length h) g ≡ h
grows_back h g grows = ap (take (length h)) grows.1 ∙ take-append_seam h grows.0

pub closed_back : (h g : HeapOf FunCell) (n : ℕ) → n ≡ length h → Grows h g → IsSound h → IsClosed (take n g)
closed_back h g n is grows sound = subst IsClosed (sym (ap (λ k. take k g) is ∙ grows_back h g grows)) sound.0

pub tries_made : (o : Outcome FunCell Val) (r : Result Val Stop) (h g : HeapOf FunCell) (m n : Spent) → Makes o r h g m n → Tries o r h g m n
tries_made o r h g m n made = record {
  ok = made.ok;
  turns_and_depth = made.turns_and_depth;
  names = made.names;
  spent = made.spent;
  grows = made.grows;
  covered = made.covered;
}

module _ {A : Type 0} (next : A → HeapOf FunCell → ℕ → Outcome FunCell Val) (o : Outcome FunCell A) where
  -- an operation, and then another
  pub tries_then : (a : A) (r : Result Val Stop) (h h1 h2 : HeapOf FunCell) (m m1 m2 : Spent) → o ≡ Gives a h1 m1.units → only_units m m1 → Grows h h1
      → Tries (next a h1 m1.units) r h1 h2 m1 m2 → Tries (outcome_and_then o next) r h h2 m m2
  tries_then a r h h1 h2 m m1 m2 is first grew rest =
      let same : outcome_and_then o next ≡ next a h1 m1.units = ap (λ x. outcome_and_then x next) is in
      subst (λ x. Tries x r h h2 m m2) (sym same) (record {
        ok = rest.ok;
        turns_and_depth = spent_both m m1 m2 first rest.turns_and_depth;
        names = rest.names;
        spent = rest.spent;
        grows = grows_both h h1 h2 grew rest.grows;
        covered = rest.covered;
      })

  -- an operation that stops
  pub tries_stop : (s : Stop) (r : Result Val Stop) (h g : HeapOf FunCell) (m n : Spent) → IsErrAnd r (λ e. e ≡ s) → (s ≡ stop.UnitsSpent → o ≡ Spends)
      → only_units m n → Grows h g → IsCovered g n.units → Tries (outcome_and_then o next) r h g m n
  tries_stop s (Ok v) h g m n stops spent only grows covered = absurd stops
  tries_stop s (Err e) h g m n is spent only grows covered = record {
    ok = tt;
    turns_and_depth = only;
    names = tt;
    spent = λ q. let same : s ≡ stop.UnitsSpent = cc in ap (λ x. outcome_and_then x next) (spent same);
    grows = grows;
    covered = covered;
  }

-- what is left where a call is undone that stopped
pub makes_undone : (o : Outcome FunCell Val) (r last : Result Val Stop) (h g k : HeapOf FunCell) (n : ℕ) (m now l : Spent) → Tries o r h g m now → last ≡ r → n ≡ length h
    → OnOk r (k ≡ g) → OnOk r (l ≡ now) → OnErr r (k ≡ take n g) → OnErr r (l ≡ m) → IsCovered h m.units → Makes o last h k m l
makes_undone o (Ok v) last h g k n m now l tried same is heap meter err err_meter covered =
    subst (λ x. Makes o x h k m l) (sym same) (subst (λ x. Makes o (Ok v) h x m l) (sym heap) (subst (λ x. Makes o (Ok v) h g m x) (sym meter) (record {
      ok = tried.ok;
      turns_and_depth = tried.turns_and_depth;
      names = tried.names;
      spent = tried.spent;
      err = tt;
      err_meter = tt;
      grows = tried.grows;
      covered = tried.covered;
    })))
makes_undone o (Err e) last h g k n m now l tried same is heap meter err err_meter covered =
    let back : k ≡ h = err ∙ ap (λ i. take i g) is ∙ grows_back h g tried.grows in
    subst (λ x. Makes o x h k m l) (sym same) (subst (λ x. Makes o (Err e) h x m l) (sym back) (subst (λ x. Makes o (Err e) h h m x) (sym err_meter) (record {
      ok = tt;
      turns_and_depth = refl;
      names = tt;
      spent = tried.spent;
      err = refl;
      err_meter = refl;
      grows = ([], sym (append-nil h));
      covered = covered;
    })))

-- texts that are made one after the other, with the values so far before those of the others
abbrev pub prepended : List Val → List Val → HeapOf FunCell → ℕ → Outcome FunCell (List Val)
prepended vs ws = Gives (vs ++ ws)

module _ (whole : Outcome FunCell (List Val)) (t : List ℕ) (rest : List (List ℕ)) (vs : List Val) (h : HeapOf FunCell) (units : ℕ)
    (so_far : whole ≡ outcome_and_then (texts_made (t ∷ rest) h units) (prepended vs)) where
  abbrev others : Val → HeapOf FunCell → ℕ → Outcome FunCell (List Val)
  others v h1 units1 = outcome_and_then (texts_made rest h1 units1) (λ ws. Gives (v ∷ ws))

  regroup : (v : Val) (o : Outcome FunCell (List Val)) → outcome_and_then (outcome_and_then o (λ ws. Gives (v ∷ ws))) (prepended vs) ≡ outcome_and_then o (prepended (vs ++ v ∷ []))
  regroup v (Gives ws h1 units1) = ap (λ xs. Gives xs h1 units1) (sym (append_assoc vs (v ∷ []) ws))
  regroup v (Throws kind) = refl
  regroup v Spends = refl

  pub texts_step : (v : Val) (h1 : HeapOf FunCell) (units1 : ℕ) → made (Text t) h units ≡ Gives v h1 units1
      → whole ≡ outcome_and_then (texts_made rest h1 units1) (prepended (vs ++ v ∷ []))
  texts_step v h1 units1 is =
      so_far ∙ ap (λ o. outcome_and_then (outcome_and_then o others) (prepended vs)) is ∙ regroup v (texts_made rest h1 units1)

  pub texts_spent : made (Text t) h units ≡ Spends → whole ≡ Spends
  texts_spent is = so_far ∙ ap (λ o. outcome_and_then (outcome_and_then o others) (prepended vs)) is

pub texts_start : (o : Outcome FunCell (List Val)) → o ≡ outcome_and_then o (prepended [])
texts_start (Gives ws h units) = refl
texts_start (Throws kind) = refl
texts_start Spends = refl

pub texts_end : (whole : Outcome FunCell (List Val)) (vs : List Val) (h : HeapOf FunCell) (units : ℕ) → whole ≡ outcome_and_then (texts_made [] h units) (prepended vs) → whole ≡ Gives vs h units
texts_end whole vs h units so_far = so_far ∙ ap (λ xs. Gives xs h units) (append-nil vs)

-- values that name cells name cells of a heap that grew
pub names_grow : (h g : HeapOf FunCell) (v : Val) → Grows h g → NamesBelow (length h) v → NamesBelow (length g) v
names_grow h g Null grows names = tt
names_grow h g (Truth b) grows names = tt
names_grow h g (Int z) grows names = tt
names_grow h g (Ref n) grows names = omega (arith, ap length grows.1, length-append h grows.0)

pub all_grow : (h g : HeapOf FunCell) (vs : List Val) → Grows h g → All (NamesBelow (length h)) vs → All (NamesBelow (length g)) vs
all_grow h g vs grows names = λ k d within. names_grow h g (get_or vs k d) grows (names k d within)

-- an error of the same values
pub error_same : (r : Result Val Stop) (name a b x y : Val) (h g : HeapOf FunCell) (m n : Spent) → a ≡ x → b ≡ y
    → Makes (made (error_cell name a b) h m.units) r h g m n → Makes (made (error_cell name x y) h m.units) r h g m n
error_same r name a b x y h g m n first second made_it =
    subst (λ v. Makes (made (error_cell name x v) h m.units) r h g m n) second (subst (λ v. Makes (made (error_cell name v b) h m.units) r h g m n) first made_it)

-- a call that stops with all as before
pub makes_back : (o : Outcome FunCell Val) (s : Stop) (h g : HeapOf FunCell) (m n : Spent) → (s ≡ stop.UnitsSpent → o ≡ Spends) → g ≡ h → n ≡ m → IsCovered g n.units → Makes o (Err s) h g m n
makes_back o s h g m n spent heap meter covered = record {
  ok = tt;
  turns_and_depth = subst (only_units m) (sym meter) refl;
  names = tt;
  spent = λ q. let same : s ≡ stop.UnitsSpent = cc in spent same;
  err = heap;
  err_meter = meter;
  grows = ([], heap ∙ sym (append-nil h));
  covered = covered;
}

-- a call that gives null with all as before
pub makes_null : (o : Outcome FunCell Val) (h g : HeapOf FunCell) (m n : Spent) → o ≡ Gives Null h m.units → g ≡ h → n ≡ m → IsCovered g n.units → Makes o (Ok Null) h g m n
makes_null o h g m n is heap meter covered = record {
  ok = is ∙ ap (λ x. Gives Null x m.units) (sym heap) ∙ ap (λ (x : Spent). Gives Null g x.units) (sym meter);
  turns_and_depth = subst (only_units m) (sym meter) refl;
  names = tt;
  spent = λ q. absurd cc;
  err = tt;
  err_meter = tt;
  grows = ([], heap ∙ sym (append-nil h));
  covered = covered;
}
