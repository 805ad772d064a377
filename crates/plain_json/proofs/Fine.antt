-- Plain values of a bounded depth.
use Rattle.std.proofs.Common.{◌≡◌, ℕ, suc, ◌≤◌, ◌||◌, List, [], ◌∷◌, false, map, refl, ap₂, arith}
use Rattle.std.specs.List.{AllByRecursion}
use Rattle.serde_json.specs.Data.{Num, unsigned, negative, float, Data, null, boolean, number, string, array, object, Items, no_items, item, depth, items_depth}
use Rattle.serde_json.specs.View.{items_of}
use Rattle.serde_json.specs.Written.{has_float, items_have_float}
use Rattle.serde_json.specs.Find.{is_float}
use Rattle.plain_json.specs.Plain.{IsWhole, IsPlain, ArePlain}

pub record Fine (k : ℕ) (d : Data) : Type 0 where
  pub plain : IsPlain d
  pub shallow : depth d ≤ k

record AreFine (k : ℕ) (ds : Items) : Type 0 where
  plain : ArePlain ds
  shallow : items_depth ds ≤ k

are_fine : (k : ℕ) (ds : List Data) → AllByRecursion (Fine k) ds → AreFine k (items_of ds)
are_fine k [] h = record { plain = tt; shallow = omega arith }
are_fine k (d ∷ ds) h = let r = are_fine k ds h.1 in record { plain = (h.0.plain, r.plain); shallow = omega (arith, h.0.shallow, r.shallow) }

-- the parts of a list, one by one
pub record AllFine (k : ℕ) (ds : List Data) : Type 0 where
  pub all : AllByRecursion (Fine k) ds

infixr 20 ◌&◌
pub ◌&◌ : {k : ℕ} {d : Data} {ds : List Data} → Fine k d → AllFine k ds → AllFine k (d ∷ ds)
f & r = record { all = (f, r.all) }

pub done : {k : ℕ} → AllFine k []
done = record { all = tt }

pub fine_list : (k : ℕ) {ds : List Data} → AllFine k ds → Fine (suc k) (array (items_of ds))
fine_list k {ds} h = let r = are_fine k ds h.all in record { plain = r.plain; shallow = omega (arith, r.shallow) }

all_map : {A : Type 0} (k : ℕ) (g : A → Data) (P : A → Type 0) → ((x : A) → P x → Fine k (g x)) → (xs : List A) → AllByRecursion P xs → AllByRecursion (Fine k) (map g xs)
all_map k g P f [] h = tt
all_map k g P f (x ∷ xs) h = (f x h.0, all_map k g P f xs h.1)

pub fine_map : {A : Type 0} (k : ℕ) (g : A → Data) (P : A → Type 0) → ((x : A) → P x → Fine k (g x)) → (xs : List A) → AllByRecursion P xs → Fine (suc k) (array (items_of (map g xs)))
fine_map k g P f xs h = fine_list k {ds = map g xs} record { all = all_map k g P f xs h }

pub fine_more : (j k : ℕ) {d : Data} → j ≤ k → Fine j d → Fine k d
fine_more j k le h = record { plain = h.plain; shallow = omega (arith, h.shallow) }

whole_no_float : (n : Num) → IsWhole n → is_float n ≡ false
whole_no_float (unsigned n) h = refl
whole_no_float (negative z) h = refl
whole_no_float (float x) h = absurd h

mutual
  pub no_float : (d : Data) → IsPlain d → has_float d ≡ false
  no_float null h = refl
  no_float (boolean b) h = refl
  no_float (number n) h = whole_no_float n h
  no_float (string s) h = refl
  no_float (array ds) h = no_floats ds h
  no_float (object ms) h = absurd h

  no_floats : (ds : Items) → ArePlain ds → items_have_float ds ≡ false
  no_floats no_items h = refl
  no_floats (item d ds) h = ap₂ (λ a b. a || b) (no_float d h.0) (no_floats ds h.1)
