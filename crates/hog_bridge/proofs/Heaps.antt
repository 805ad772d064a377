-- What operations on a heap keep: texts and functions stay at their places, and no functions come but those that were there.
use Rattle.std.proofs.Common.{◌≡◌, ℕ, zero, suc, ◌+◌, List, [], ◌∷◌, ◌++◌, length, Option, Some, None, Bool, true, false, cond, refl, sym, ◌∙◌, subst}
use Rattle.std.specs.Prelude.{slice_get, slice_set, option_and_then, nat_le}
use Rattle.std.proofs.lemmas.Option.{none-some}
use Rattle.hog_value.specs.declared.value.Kind.{Kind}
use Rattle.hog_value.specs.declared.native.Native.{Native}
use Rattle.hog_value.specs.Values.{Val}
use Rattle.hog_value.specs.declared.value.Value.TheVariants.{Ref}
use Rattle.hog_value.specs.Meters.{Spent, max_units}
use Rattle.hog_value.specs.Cells.{CellOf, Text, Array, Dict, Fun, HeapOf, cell_map, heap_map, text_of, text_at, cost_of_cell}
use Rattle.hog_value.specs.Operations.{Outcome, Gives, Throws, Spends, outcome_map, charged, made}
use Rattle.hog_json.specs.Reading.{Grows}
use Rattle.hog_library.specs.Called as native
use Rattle.hog_library.specs.Cells.{thrown, response}
use Rattle.hog_library.proofs.Naturality.{thrown-heap_map, response-heap_map}
use Rattle.hog_library.proofs.CalledNaturality.{called-heap_map}
use Rattle.hog_library.proofs.CalledGrowing.{thrown-grows, response-grows}

-- the function that a cell holds
abbrev pub fun_of : {F : Type 0} → CellOf F → Option F
fun_of (Text t) = None
fun_of (Array vs) = None
fun_of (Dict ps) = None
fun_of (Fun x) = Some x

abbrev pub fun_at : {F : Type 0} → HeapOf F → ℕ → Option F
fun_at h n = option_and_then fun_of (slice_get h n)

-- each function of the heap is such a one
abbrev pub FunIs : {F : Type 0} → (F → Type 0) → CellOf F → Type 0
FunIs P (Text t) = Unit {0}
FunIs P (Array vs) = Unit {0}
FunIs P (Dict ps) = Unit {0}
FunIs P (Fun x) = P x

abbrev pub AllFuns : {F : Type 0} → (F → Type 0) → HeapOf F → Type 0
AllFuns P [] = Unit {0}
AllFuns P (c ∷ h) = FunIs P c × AllFuns P h

-- what was a text or a function is the same one still
pub record Keeps {F : Type 0} (h h1 : HeapOf F) : Type 0 where
  pub texts : (n : ℕ) (t : List ℕ) → text_at h n ≡ Some t → text_at h1 n ≡ Some t
  pub funs : (n : ℕ) (x : F) → fun_at h n ≡ Some x → fun_at h1 n ≡ Some x

pub keeps_same : {F : Type 0} (h : HeapOf F) → Keeps h h
keeps_same h = record { texts = λ n t e. e; funs = λ n x e. e }

pub keeps_then : {F : Type 0} {h h1 h2 : HeapOf F} → Keeps h h1 → Keeps h1 h2 → Keeps h h2
keeps_then a b = record { texts = λ n t e. b.texts n t (a.texts n t e); funs = λ n x e. b.funs n x (a.funs n x e) }

module _ {F : Type 0} where
  at_append : {A : Type 0} (f : CellOf F → Option A) (h more : HeapOf F) (n : ℕ) (x : A) → option_and_then f (slice_get h n) ≡ Some x → option_and_then f (slice_get (h ++ more) n) ≡ Some x
  at_append f [] more n x e = absurd (none-some x e)
  at_append f (c ∷ h) more zero x e = e
  at_append f (c ∷ h) more (suc n) x e = at_append f h more n x e

  pub keeps_append : (h more : HeapOf F) → Keeps h (h ++ more)
  keeps_append h more = record { texts = λ n t e. at_append text_of h more n t e; funs = λ n x e. at_append fun_of h more n x e }

  pub keeps_grows : (h h1 : HeapOf F) → Grows h h1 → Keeps h h1
  keeps_grows h h1 g = subst (Keeps h) (sym g.1) (keeps_append h g.0)

  -- where a cell that has no such thing is set
  at_set : {A : Type 0} (f : CellOf F → Option A) (h : HeapOf F) (n k : ℕ) (c : CellOf F) (x : A) → option_and_then f (slice_get h n) ≡ None → option_and_then f (slice_get h k) ≡ Some x → option_and_then f (slice_get (slice_set h n c) k) ≡ Some x
  at_set f [] n k c x none e = absurd (none-some x e)
  at_set f (d ∷ h) zero zero c x none e = absurd (none-some x (sym none ∙ e))
  at_set f (d ∷ h) zero (suc k) c x none e = e
  at_set f (d ∷ h) (suc n) zero c x none e = e
  at_set f (d ∷ h) (suc n) (suc k) c x none e = at_set f h n k c x none e

  pub keeps_set : (h : HeapOf F) (n : ℕ) (c : CellOf F) → text_at h n ≡ None → fun_at h n ≡ None → Keeps h (slice_set h n c)
  keeps_set h n c t f = record { texts = λ k x e. at_set text_of h n k c x t e; funs = λ k x e. at_set fun_of h n k c x f e }

  -- each function by its number
  pub fun_found : (P : F → Type 0) (h : HeapOf F) (n : ℕ) (x : F) → AllFuns P h → fun_at h n ≡ Some x → P x
  fun_found P [] n x a e = absurd (none-some x e)
  fun_found P (c ∷ h) zero x a e = go c a.0 e
    where
      go : (c : CellOf F) → FunIs P c → fun_of c ≡ Some x → P x
      go (Text t) p e = absurd (none-some x e)
      go (Array vs) p e = absurd (none-some x e)
      go (Dict ps) p e = absurd (none-some x e)
      go (Fun y) p e = let same : y ≡ x = cc in subst P same p
  fun_found P (c ∷ h) (suc n) x a e = fun_found P h n x a.1 e

  pub all_append : (P : F → Type 0) (h more : HeapOf F) → AllFuns P h → AllFuns P more → AllFuns P (h ++ more)
  all_append P [] more a b = b
  all_append P (c ∷ h) more a b = (a.0, all_append P h more a.1 b)

  pub all_map : (P Q : F → Type 0) (h : HeapOf F) → ((x : F) → P x → Q x) → AllFuns P h → AllFuns Q h
  all_map P Q [] f a = a
  all_map P Q (c ∷ h) f a = (go c a.0, all_map P Q h f a.1)
    where
      go : (c : CellOf F) → FunIs P c → FunIs Q c
      go (Text t) p = p
      go (Array vs) p = p
      go (Dict ps) p = p
      go (Fun x) p = f x p

  -- a heap of functions with what holds of them
  abbrev pub proved_cell : (P : F → Type 0) (c : CellOf F) → FunIs P c → CellOf ((x : F) × P x)
  proved_cell P (Text t) p = Text t
  proved_cell P (Array vs) p = Array vs
  proved_cell P (Dict ps) p = Dict ps
  proved_cell P (Fun x) p = Fun (x, p)

-- what comes of an operation on a heap whose functions are such ones
abbrev pub FunsFair : {F A : Type 0} → (F → Type 0) → Outcome F A → Type 0
FunsFair P (Gives a h1 units) = AllFuns P h1
FunsFair P (Throws kind) = Unit {0}
FunsFair P Spends = Unit {0}

abbrev pub Fair : {F A : Type 0} → (F → Type 0) → HeapOf F → Outcome F A → Type 0
Fair P h (Gives a h1 units) = Keeps h h1 × AllFuns P h1
Fair P h (Throws kind) = Unit {0}
Fair P h Spends = Unit {0}

abbrev pub FunsKept : {F : Type 0} → (F → Type 0) → native.Called F → Type 0
FunsKept P (native.Gives v h1 m) = AllFuns P h1
FunsKept P (native.Prints text m) = Unit {0}
FunsKept P (native.Throws kind) = Unit {0}
FunsKept P (native.Asks request m) = Unit {0}
FunsKept P native.TurnsSpent = Unit {0}
FunsKept P native.UnitsSpent = Unit {0}

-- an operation that looks into no function brings none that wasn't there
module _ {F : Type 0} (P : F → Type 0) where
  abbrev Proved : Type 0
  Proved = (x : F) × P x

  abbrev lift : (h : HeapOf F) → AllFuns P h → HeapOf Proved
  lift [] a = []
  lift (c ∷ h) a = proved_cell P c a.0 ∷ lift h a.1

  lift_is : (h : HeapOf F) (a : AllFuns P h) → heap_map (λ (x : Proved). x.0) (lift h a) ≡ h
  lift_is [] a = refl
  lift_is (c ∷ h) a = let one = cell_is c a.0 in let more = lift_is h a.1 in cc
    where
      cell_is : (c : CellOf F) (p : FunIs P c) → cell_map (λ (x : Proved). x.0) (proved_cell P c p) ≡ c
      cell_is (Text t) p = refl
      cell_is (Array vs) p = refl
      cell_is (Dict ps) p = refl
      cell_is (Fun x) p = refl

  all_proved : (h : HeapOf Proved) → AllFuns P (heap_map (λ (x : Proved). x.0) h)
  all_proved [] = tt
  all_proved (Text t ∷ h) = (tt, all_proved h)
  all_proved (Array vs ∷ h) = (tt, all_proved h)
  all_proved (Dict ps ∷ h) = (tt, all_proved h)
  all_proved (Fun x ∷ h) = (x.1, all_proved h)

  outcome_proved : {A : Type 0} (o : Outcome Proved A) → FunsFair P (outcome_map (λ (x : Proved). x.0) o)
  outcome_proved (Gives a h units) = all_proved h
  outcome_proved (Throws kind) = tt
  outcome_proved Spends = tt

  called_proved : (o : native.Called Proved) → FunsKept P (native.called_map (λ (x : Proved). x.0) o)
  called_proved (native.Gives v h m) = all_proved h
  called_proved (native.Prints text m) = tt
  called_proved (native.Throws kind) = tt
  called_proved (native.Asks request m) = tt
  called_proved native.TurnsSpent = tt
  called_proved native.UnitsSpent = tt

  -- of an operation, for any content of functions
  pub natural_fair : {A : Type 0} (run : HeapOf F → Outcome F A) (run' : HeapOf Proved → Outcome Proved A) → ((h : HeapOf Proved) → run (heap_map (λ (x : Proved). x.0) h) ≡ outcome_map (λ (x : Proved). x.0) (run' h)) → (h : HeapOf F) → AllFuns P h → FunsFair P (run h)
  natural_fair run run' same h a =
      subst (λ z. FunsFair P (run z)) (lift_is h a) (subst (FunsFair P) (sym (same (lift h a))) (outcome_proved (run' (lift h a))))

  -- of a native
  pub called_fair : (n : Native) (vs : List Val) (h : HeapOf F) (m : Spent) → AllFuns P h → FunsKept P (native.called n vs h m)
  called_fair n vs h m a =
      subst (λ z. FunsKept P (native.called n vs z m)) (lift_is h a)
      (subst (FunsKept P) (sym (called-heap_map (λ (x : Proved). x.0) n vs (lift h a) m)) (called_proved (native.called n vs (lift h a) m)))

  -- both, with what grows
  pub fair_grows : {A : Type 0} (o : Outcome F A) (h : HeapOf F) → ((a : A) (h1 : HeapOf F) (units : ℕ) → o ≡ Gives a h1 units → Grows h h1) → FunsFair P o → Fair P h o
  fair_grows (Gives a h1 units) h k f = (keeps_grows h h1 (k a h1 units refl), f)
  fair_grows (Throws kind) h k f = tt
  fair_grows Spends h k f = tt

  pub thrown_fair : (kind : Kind) (h : HeapOf F) (units : ℕ) → AllFuns P h → Fair P h (thrown kind h units)
  thrown_fair kind h units a =
      fair_grows (thrown kind h units) h (λ v h1 u e. thrown-grows kind h units v h1 u e)
      (natural_fair (λ x. thrown kind x units) (λ x. thrown kind x units) (λ x. thrown-heap_map (λ (x : Proved). x.0) kind x units) h a)

  pub response_fair : (status : ℕ) (body : List ℕ) (h : HeapOf F) (units : ℕ) → AllFuns P h → Fair P h (response status body h units)
  response_fair status body h units a =
      fair_grows (response status body h units) h (λ v h1 u e. response-grows status body h units v h1 u e)
      (natural_fair (λ x. response status body x units) (λ x. response status body x units) (λ x. response-heap_map (λ (x : Proved). x.0) status body x units) h a)

  charged_fair : {A : Type 0} (n : ℕ) (a : A) (h h1 : HeapOf F) (units : ℕ) → Keeps h h1 → AllFuns P h1 → Fair P h (charged n a h1 units)
  charged_fair n a h h1 units k f = go (nat_le (units + n) max_units)
    where
      go : (b : Bool) → Fair P h (cond b (Gives a h1 (units + n)) Spends)
      go true = (k, f)
      go false = tt

  pub made_fair : (c : CellOf F) (h : HeapOf F) (units : ℕ) → FunIs P c → AllFuns P h → Fair P h (made c h units)
  unfolding made
  made_fair c h units p a = charged_fair (cost_of_cell c) (Ref (length h)) h (h ++ c ∷ []) units (keeps_append h (c ∷ [])) (all_append P h (c ∷ []) a (p, tt))
