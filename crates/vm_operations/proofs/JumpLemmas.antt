-- Jumps.
use Rattle.std.proofs.Common.{◌≡◌, ◌<◌, ◌+◌, true, false, cond, arith, refl, ap, sym, subst, ◌∙◌}
use Rattle.std.proofs.lemmas.Bool.Decides.{nat_tests}
use Rattle.std.specs.Prelude.{ℤ, pos, negsuc, int_le, nat_lt, Result, Err, OnErr}
use Rattle.hog_value.specs.declared.trace.End.TheVariants.{TurnsSpent}
use Rattle.hog_value.specs.Meters.{max_turns}
use Rattle.hog_value.specs.declared.cell.FunCell.{FunCell}
use Rattle.hog_value.specs.declared.value.Kind.{Kind}
use Rattle.hog_value.specs.declared.value.SetStop.{SetStop}
use Rattle.hog_value.specs.declared.value.SetStop.TheVariants as stop
use Rattle.hog_value.specs.Operations.{Outcome, Throws, Spends}
use Rattle.vm_course.specs.State.{State}
use Rattle.vm_course.specs.Throws.{ends, on_outcome}
use Rattle.vm_operations.specs.Here.{IsStopped}
use Rattle.vm_course.specs.Step.{Here, jump, jump_or_back}

module _ (here : Here) (s : State) where
  pub forward : (d : ℤ) → int_le (pos 0) d ≡ true → jump here d s ≡ jump_or_back here d s
  forward (pos n) h = refl
  forward (negsuc n) h = absurd cc

  pub back_spent : (d : ℤ) → int_le (pos 0) d ≡ false → (s.turns < max_turns → ⊥) → ends TurnsSpent s ≡ jump_or_back here d s
  back_spent (pos n) h none = absurd (grind (arith, nat_tests))
  back_spent (negsuc n) h none =
      let spent : nat_lt s.turns max_turns ≡ false = grind (arith, nat_tests) in
      sym (ap (λ b. cond b (jump here (negsuc n) (record s { turns = s.turns + 1 })) (ends TurnsSpent s)) spent)

  pub back : (d : ℤ) → int_le (pos 0) d ≡ false → s.turns < max_turns → jump here d (record s { turns = s.turns + 1 }) ≡ jump_or_back here d s
  back (pos n) h left = absurd (grind (arith, nat_tests))
  back (negsuc n) h left =
      let there : nat_lt s.turns max_turns ≡ true = grind (arith, nat_tests) in
      sym (ap (λ b. cond b (jump here (negsuc n) (record s { turns = s.turns + 1 })) (ends TurnsSpent s)) there)

-- what holds where a call has stopped
pub on_err : {A E : Type 0} {P : Type 0} (r : Result A E) (e : E) → r ≡ Err e → OnErr r P → P
on_err {P = P} r e is h = subst (λ x. OnErr x P) is h

-- what comes of an operation that has stopped
pub stopped_is : {A : Type 0} (o : Outcome FunCell A) (go : A → State → State) (s last : State) (why : SetStop) → IsStopped why s last
    → ((kind : Kind) → why ≡ stop.Thrown kind → o ≡ Throws kind) → (why ≡ stop.UnitsSpent → o ≡ Spends) → last ≡ on_outcome o go s
stopped_is o go s last (stop.Thrown kind) is thrown spent = is ∙ sym (ap (λ x. on_outcome x go s) (thrown kind refl))
stopped_is o go s last stop.UnitsSpent is thrown spent = is ∙ sym (ap (λ x. on_outcome x go s) (spent refl))
stopped_is o go s last stop.OutOfMemory is thrown spent = absurd is
