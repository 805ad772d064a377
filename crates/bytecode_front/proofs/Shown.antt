-- A CALLABLE that is there opens.
use Rattle.std.proofs.Common.{◌≡◌, ℕ, ◌&&◌, List, Option, Some, None, Bool, true, false, cond, length, drop, refl, ap, ap₂, ◌∙◌}
use Rattle.std.specs.Prelude.{nat_le, is_some}
use Rattle.serde_json.specs.Data.{Data}
use Rattle.hog_ops.specs.declared.capture.Capture.{Capture}
use Rattle.bytecode_front.specs.declared.stop.Why.TheVariants.{Bad}
use Rattle.bytecode_front.specs.Front.{Front, Faulty, Opens, closure_in, with_captures, opened_by}
use Rattle.bytecode_front.proofs.Fronts.{closure_text, and_true}

some_is : {A : Type 0} (o : Option A) → is_some o ≡ true → (x : A) × (o ≡ Some x)
some_is None h = absurd cc
some_is (Some x) h = (x, refl)

pub opened_shown : (room params n len : ℕ) (s : Option (List ℕ)) (ds : List Data) → (nat_le 1 room && is_some s && (nat_le len (length ds) && is_some (closure_in n (drop len ds)))) ≡ true
    → (name : List ℕ) × (params' : ℕ) × (cs : List Capture) × (opened_by room s (Some params) (Some n) (Some len) ds ≡ Opens name params' cs len) × (length cs ≡ n)
opened_shown room params n len s ds e =
    let a = and_true (nat_le 1 room && is_some s) (nat_le len (length ds) && is_some (closure_in n (drop len ds))) e in
    let b = and_true (nat_le 1 room) (is_some s) a.0 in
    let c = and_true (nat_le len (length ds)) (is_some (closure_in n (drop len ds))) a.1 in
    let name = some_is s b.1 in
    let cs = some_is (closure_in n (drop len ds)) c.1 in
    let there : (nat_le 1 room && nat_le len (length ds)) ≡ true = ap₂ (λ x y. x && y) b.0 c.0 in (
      name.0,
      params,
      cs.0,
      ap (λ x. opened_by room x (Some params) (Some n) (Some len) ds) name.1
          ∙ ap (λ t. cond t (with_captures name.0 params len (closure_in n (drop len ds))) (Faulty Bad)) there
          ∙ ap (with_captures name.0 params len) cs.1,
      (closure_text n (drop len ds) cs.0 cs.1).0,
    )
