-- What operations on a heap keep: functions stay in their places, and none come but those that were there.
use Rattle.std.proofs.Common.{◌≡◌, ℕ, zero, suc, ◌+◌, ℤ, List, [], ◌∷◌, ◌++◌, length, Option, Some, None, Bool, true, false, cond, Result, Ok, Err, refl, sym, ◌∙◌, subst}
use Rattle.std.specs.Prelude.{◌==◌, is_some, nat_lt, nat_le, slice_get, slice_set, option_and_then, bytes_eq}
use Rattle.std.specs.Map.{lookup}
use Rattle.std.proofs.lemmas.Option.{none-some}
use Rattle.indexmap.specs.IndexMap.{insert_entry}
use Rattle.hog_value.specs.declared.value.Kind.{Kind}
use Rattle.hog_value.specs.declared.native.Native.{Native}
use Rattle.hog_value.specs.Values.{Val}
use Rattle.hog_value.specs.declared.value.Value.TheVariants.{Null, Bool as Truth, Int, Ref}
use Rattle.hog_value.specs.Meters.{Spent, max_units}
use Rattle.hog_value.specs.Cells.{CellOf, Text, Array, Dict, Fun, HeapOf, cell_map, heap_map, items_of, pairs_of, text_at, items_at, pairs_at, cost_of_cell, cost_of_pair}
use Rattle.hog_value.specs.Operations.{Outcome, Gives, Throws, Spends, outcome_map, charged, made, place_of, set_item_in, set_item_of, set_key_in, set_key_of}
use Rattle.hog_json.specs.Reading.{Grows}
use Rattle.hog_library.specs.Called as native
use Rattle.hog_library.specs.Cells.{thrown, response}
use Rattle.hog_library.proofs.Naturality.{thrown-heap_map, response-heap_map}
use Rattle.hog_library.proofs.CalledNaturality.{called-heap_map}
use Rattle.hog_library.proofs.CalledGrowing.{called-grows, thrown-grows, response-grows}
use Rattle.hog_meaning.specs.Operators as m
use Rattle.hog_meaning.specs.Operators.{set_by, outcome_of, assigned, dictionary_made}

-- each function of the heap is such a one
abbrev pub FunIs : {F : Type 0} → (F → Type 0) → CellOf F → Type 0
FunIs P (Text t) = Unit {0}
FunIs P (Array vs) = Unit {0}
FunIs P (Dict ps) = Unit {0}
FunIs P (Fun x) = P x

abbrev pub AllFuns : {F : Type 0} → (F → Type 0) → HeapOf F → Type 0
AllFuns P [] = Unit {0}
AllFuns P (c ∷ h) = FunIs P c × AllFuns P h

abbrev pub fun_of : {F : Type 0} → CellOf F → Option F
fun_of (Text t) = None
fun_of (Array vs) = None
fun_of (Dict ps) = None
fun_of (Fun x) = Some x

abbrev pub fun_at : {F : Type 0} → HeapOf F → ℕ → Option F
fun_at h n = option_and_then fun_of (slice_get h n)

-- what was a function is the same one still
pub record Keeps {F : Type 0} (h h1 : HeapOf F) : Type 0 where
  pub funs : (n : ℕ) (x : F) → fun_at h n ≡ Some x → fun_at h1 n ≡ Some x

pub keeps_same : {F : Type 0} (h : HeapOf F) → Keeps h h
keeps_same h = record { funs = λ n x e. e }

-- what comes of an operation on a heap whose functions are such ones
abbrev pub FunsFair : {F A : Type 0} → (F → Type 0) → Outcome F A → Type 0
FunsFair P (Gives a h1 units) = AllFuns P h1
FunsFair P (Throws kind) = Unit {0}
FunsFair P Spends = Unit {0}

abbrev pub Fair : {F A : Type 0} → (F → Type 0) → HeapOf F → Outcome F A → Type 0
Fair P h (Gives a h1 units) = Keeps h h1 × AllFuns P h1
Fair P h (Throws kind) = Unit {0}
Fair P h Spends = Unit {0}

-- and of a native
abbrev FunsKept : {F : Type 0} → (F → Type 0) → native.Called F → Type 0
FunsKept P (native.Gives v h1 m) = AllFuns P h1
FunsKept P (native.Prints text m) = Unit {0}
FunsKept P (native.Throws kind) = Unit {0}
FunsKept P (native.Asks request m) = Unit {0}
FunsKept P native.TurnsSpent = Unit {0}
FunsKept P native.UnitsSpent = Unit {0}

abbrev pub CallFair : {F : Type 0} → (F → Type 0) → HeapOf F → native.Called F → Type 0
CallFair P h (native.Gives v h1 m) = Keeps h h1 × AllFuns P h1
CallFair P h (native.Prints text m) = Unit {0}
CallFair P h (native.Throws kind) = Unit {0}
CallFair P h (native.Asks request m) = Unit {0}
CallFair P h native.TurnsSpent = Unit {0}
CallFair P h native.UnitsSpent = Unit {0}

module _ {F : Type 0} where
  fun_append : (h more : HeapOf F) (n : ℕ) (x : F) → fun_at h n ≡ Some x → fun_at (h ++ more) n ≡ Some x
  fun_append [] more n x e = absurd (none-some x e)
  fun_append (c ∷ h) more zero x e = e
  fun_append (c ∷ h) more (suc n) x e = fun_append h more n x e

  -- where cells are made behind the others
  pub keeps_append : (h more : HeapOf F) → Keeps h (h ++ more)
  keeps_append h more = record { funs = λ n x e. fun_append h more n x e }

  pub keeps_grows : (h h1 : HeapOf F) → Grows h h1 → Keeps h h1
  keeps_grows h h1 g = subst (Keeps h) (sym g.1) (keeps_append h g.0)

  -- where a cell that is no function is set
  fun_set : (h : HeapOf F) (n k : ℕ) (c : CellOf F) (x : F) → fun_at h n ≡ None → fun_at h k ≡ Some x → fun_at (slice_set h n c) k ≡ Some x
  fun_set [] n k c x none e = absurd (none-some x e)
  fun_set (d ∷ h) zero zero c x none e = absurd (none-some x (sym none ∙ e))
  fun_set (d ∷ h) zero (suc k) c x none e = e
  fun_set (d ∷ h) (suc n) zero c x none e = e
  fun_set (d ∷ h) (suc n) (suc k) c x none e = fun_set h n k c x none e

  keeps_set : (h : HeapOf F) (n : ℕ) (c : CellOf F) → fun_at h n ≡ None → Keeps h (slice_set h n c)
  keeps_set h n c none = record { funs = λ k x e. fun_set h n k c x none e }

  pub all_append : (P : F → Type 0) (h more : HeapOf F) → AllFuns P h → AllFuns P more → AllFuns P (h ++ more)
  all_append P [] more a b = b
  all_append P (c ∷ h) more a b = (a.0, all_append P h more a.1 b)

  all_set : (P : F → Type 0) (h : HeapOf F) (n : ℕ) (c : CellOf F) → AllFuns P h → FunIs P c → AllFuns P (slice_set h n c)
  all_set P [] n c a p = a
  all_set P (d ∷ h) zero c a p = (p, a.1)
  all_set P (d ∷ h) (suc n) c a p = (a.0, all_set P h n c a.1 p)

  -- a heap of functions with what holds of them
  abbrev proved_cell : (P : F → Type 0) (c : CellOf F) → FunIs P c → CellOf ((x : F) × P x)
  proved_cell P (Text t) p = Text t
  proved_cell P (Array vs) p = Array vs
  proved_cell P (Dict ps) p = Dict ps
  proved_cell P (Fun x) p = Fun (x, p)

-- an operation that looks into no function brings none that wasn't there
module _ {F : Type 0} (P : F → Type 0) where
  abbrev Proved : Type 0
  Proved = (x : F) × P x

  abbrev lift : (h : HeapOf F) → AllFuns P h → HeapOf Proved
  lift [] a = []
  lift (c ∷ h) a = proved_cell P c a.0 ∷ lift h a.1

  lift_is : (h : HeapOf F) (a : AllFuns P h) → heap_map (λ (x : Proved). x.0) (lift h a) ≡ h
  lift_is [] a = refl
  lift_is (c ∷ h) a = let one = cell_is c a.0 in let more = lift_is h a.1 in cc
    where
      cell_is : (c : CellOf F) (p : FunIs P c) → cell_map (λ (x : Proved). x.0) (proved_cell P c p) ≡ c
      cell_is (Text t) p = refl
      cell_is (Array vs) p = refl
      cell_is (Dict ps) p = refl
      cell_is (Fun x) p = refl

  all_proved : (h : HeapOf Proved) → AllFuns P (heap_map (λ (x : Proved). x.0) h)
  all_proved [] = tt
  all_proved (Text t ∷ h) = (tt, all_proved h)
  all_proved (Array vs ∷ h) = (tt, all_proved h)
  all_proved (Dict ps ∷ h) = (tt, all_proved h)
  all_proved (Fun x ∷ h) = (x.1, all_proved h)

  outcome_proved : {A : Type 0} (o : Outcome Proved A) → FunsFair P (outcome_map (λ (x : Proved). x.0) o)
  outcome_proved (Gives a h units) = all_proved h
  outcome_proved (Throws kind) = tt
  outcome_proved Spends = tt

  called_proved : (o : native.Called Proved) → FunsKept P (native.called_map (λ (x : Proved). x.0) o)
  called_proved (native.Gives v h m) = all_proved h
  called_proved (native.Prints text m) = tt
  called_proved (native.Throws kind) = tt
  called_proved (native.Asks request m) = tt
  called_proved native.TurnsSpent = tt
  called_proved native.UnitsSpent = tt

  -- of an operation, for any content of functions
  pub natural_fair : {A : Type 0} (run : HeapOf F → Outcome F A) (run' : HeapOf Proved → Outcome Proved A) → ((h : HeapOf Proved) → run (heap_map (λ (x : Proved). x.0) h) ≡ outcome_map (λ (x : Proved). x.0) (run' h)) → (h : HeapOf F) → AllFuns P h → FunsFair P (run h)
  natural_fair run run' same h a =
      subst (λ z. FunsFair P (run z)) (lift_is h a) (subst (FunsFair P) (sym (same (lift h a))) (outcome_proved (run' (lift h a))))

  funs_called : (n : Native) (vs : List Val) (h : HeapOf F) (m : Spent) → AllFuns P h → FunsKept P (native.called n vs h m)
  funs_called n vs h m a =
      subst (λ z. FunsKept P (native.called n vs z m)) (lift_is h a)
      (subst (FunsKept P) (sym (called-heap_map (λ (x : Proved). x.0) n vs (lift h a) m)) (called_proved (native.called n vs (lift h a) m)))

  -- with what grows
  pub fair_grows : {A : Type 0} (o : Outcome F A) (h : HeapOf F) → ((a : A) (h1 : HeapOf F) (units : ℕ) → o ≡ Gives a h1 units → Grows h h1) → FunsFair P o → Fair P h o
  fair_grows (Gives a h1 units) h k f = (keeps_grows h h1 (k a h1 units refl), f)
  fair_grows (Throws kind) h k f = tt
  fair_grows Spends h k f = tt

  call_grows : (c : native.Called F) (h : HeapOf F) → ((v : Val) (h1 : HeapOf F) (m : Spent) → c ≡ native.Gives v h1 m → Grows h h1) → FunsKept P c → CallFair P h c
  call_grows (native.Gives v h1 m) h k f = (keeps_grows h h1 (k v h1 m refl), f)
  call_grows (native.Prints text m) h k f = tt
  call_grows (native.Throws kind) h k f = tt
  call_grows (native.Asks request m) h k f = tt
  call_grows native.TurnsSpent h k f = tt
  call_grows native.UnitsSpent h k f = tt

  pub called_fair : (n : Native) (vs : List Val) (h : HeapOf F) (m : Spent) → AllFuns P h → CallFair P h (native.called n vs h m)
  called_fair n vs h m a = call_grows (native.called n vs h m) h (λ v h1 m1 e. called-grows n vs h m v h1 m1 e) (funs_called n vs h m a)

  pub thrown_fair : (kind : Kind) (h : HeapOf F) (units : ℕ) → AllFuns P h → Fair P h (thrown kind h units)
  thrown_fair kind h units a =
      fair_grows (thrown kind h units) h (λ v h1 u e. thrown-grows kind h units v h1 u e)
      (natural_fair (λ x. thrown kind x units) (λ x. thrown kind x units) (λ x. thrown-heap_map (λ (x : Proved). x.0) kind x units) h a)

  pub response_fair : (status : ℕ) (body : List ℕ) (h : HeapOf F) (units : ℕ) → AllFuns P h → Fair P h (response status body h units)
  response_fair status body h units a =
      fair_grows (response status body h units) h (λ v h1 u e. response-grows status body h units v h1 u e)
      (natural_fair (λ x. response status body x units) (λ x. response status body x units) (λ x. response-heap_map (λ (x : Proved). x.0) status body x units) h a)

  either : {A : Type 0} (h : HeapOf F) (b : Bool) (x y : Outcome F A) → Fair P h x → Fair P h y → Fair P h (cond b x y)
  either h true x y p q = p
  either h false x y p q = q

  -- what is charged
  charged_fair : {A : Type 0} (n : ℕ) (a : A) (h h1 : HeapOf F) (units : ℕ) → Keeps h h1 → AllFuns P h1 → Fair P h (charged n a h1 units)
  charged_fair n a h h1 units k f = either h (nat_le (units + n) max_units) (Gives a h1 (units + n)) Spends (k, f) tt

  pub made_fair : (c : CellOf F) (h : HeapOf F) (units : ℕ) → FunIs P c → AllFuns P h → Fair P h (made c h units)
  unfolding made
  made_fair c h units p a = charged_fair (cost_of_cell c) (Ref (length h)) h (h ++ c ∷ []) units (keeps_append h (c ∷ [])) (all_append P h (c ∷ []) a (p, tt))

  pub dictionary_fair : (kvs : List (Val × Val)) (h : HeapOf F) (units : ℕ) → AllFuns P h → Fair P h (dictionary_made kvs h units)
  unfolding dictionary_made
  dictionary_fair kvs h units a = go (m.pairs_of h kvs [])
    where
      go : (r : Result (List (List ℕ × Val)) Kind) → Fair P h (outcome_of r (λ ps. made (Dict ps) h units))
      go (Ok ps) = made_fair (Dict ps) h units tt a
      go (Err kind) = tt

  -- setting an item or a key
  array_is_no_fun : (o : Option (CellOf F)) (vs : List Val) → option_and_then items_of o ≡ Some vs → option_and_then fun_of o ≡ None
  array_is_no_fun None vs e = refl
  array_is_no_fun (Some (Text t)) vs e = absurd (none-some vs e)
  array_is_no_fun (Some (Array items)) vs e = refl
  array_is_no_fun (Some (Dict ps)) vs e = refl
  array_is_no_fun (Some (Fun x)) vs e = absurd (none-some vs e)

  dictionary_is_no_fun : (o : Option (CellOf F)) (ps : List (List ℕ × Val)) → option_and_then pairs_of o ≡ Some ps → option_and_then fun_of o ≡ None
  dictionary_is_no_fun None ps e = refl
  dictionary_is_no_fun (Some (Text t)) ps e = absurd (none-some ps e)
  dictionary_is_no_fun (Some (Array items)) ps e = refl
  dictionary_is_no_fun (Some (Dict pairs)) ps e = refl
  dictionary_is_no_fun (Some (Fun x)) ps e = absurd (none-some ps e)

  module _ (h : HeapOf F) (all : AllFuns P h) where
    item_fair : (n : ℕ) (o : Option (List Val)) (place : Option ℕ) (v : Val) (units : ℕ) → items_at h n ≡ o → Fair P h (set_item_in o place h n v units)
    item_fair n None place v units e = tt
    item_fair n (Some vs) None v units e = tt
    item_fair n (Some vs) (Some i) v units e =
        let none = array_is_no_fun (slice_get h n) vs e in
        let there : CellOf F = Array (slice_set vs i v) in
        let more : CellOf F = Array (vs ++ v ∷ []) in
        either h (nat_lt i (length vs)) _ _ (keeps_set h n there none, all_set P h n there all tt)
        (either h (i == length vs) _ _ (charged_fair 8 tt h (slice_set h n more) units (keeps_set h n more none) (all_set P h n more all tt)) tt)

    key_fair : (n : ℕ) (o : Option (List (List ℕ × Val))) (key : List ℕ) (v : Val) (units : ℕ) → pairs_at h n ≡ o → Fair P h (set_key_in o h n key v units)
    key_fair n None key v units e = tt
    key_fair n (Some ps) key v units e =
        let none = dictionary_is_no_fun (slice_get h n) ps e in
        let c : CellOf F = Dict (insert_entry bytes_eq ps key v) in
        either h (is_some (lookup (bytes_eq key) ps)) _ _ (keeps_set h n c none, all_set P h n c all tt)
        (charged_fair (cost_of_pair key) tt h (slice_set h n c) units (keeps_set h n c none) (all_set P h n c all tt))

    set_key_fair : (n : ℕ) (key : List ℕ) (v : Val) (units : ℕ) → Fair P h (set_key_of h n key v units)
    unfolding set_key_of
    set_key_fair n key v units = key_fair n (pairs_at h n) key v units refl

    set_item_fair : (n : ℕ) (z : ℤ) (v : Val) (units : ℕ) → Fair P h (set_item_of h n z v units)
    unfolding set_item_of
    set_item_fair n z v units = item_fair n (items_at h n) (place_of z) v units refl

    set_by_fair : (t : Option (List ℕ)) (n : ℕ) (v : Val) (units : ℕ) → Fair P h (set_by t (λ key. set_key_of h n key v units))
    set_by_fair None n v units = tt
    set_by_fair (Some key) n v units = set_key_fair n key v units

    pub assigned_fair : (base key v : Val) (units : ℕ) → Fair P h (assigned h base key v units)
    unfolding assigned
    assigned_fair Null key v units = tt
    assigned_fair (Truth b) key v units = tt
    assigned_fair (Int z) key v units = tt
    assigned_fair (Ref n) Null v units = tt
    assigned_fair (Ref n) (Truth b) v units = tt
    assigned_fair (Ref n) (Int z) v units = set_item_fair n z v units
    assigned_fair (Ref n) (Ref k) v units = set_by_fair (text_at h k) n v units
