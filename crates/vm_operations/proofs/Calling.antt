-- Calls of functions.
use Rattle.std.proofs.Common.{◌≡◌, ◌≤◌, ◌<◌, ◌+◌, ◌-◌, [], ◌∷◌, ◌++◌, ℕ, List, length, map, true, false, cond, Option, Some, None, arith, refl, ap, ap₂, sym, ◌∙◌}
use Rattle.std.proofs.lemmas.Bool.Decides.{nat_tests}
use Rattle.std.specs.Prelude.{nat_lt, replicate, option_map, unwrap_or}
use Rattle.hog_value.specs.declared.cell.FunCell.{FunCell}
use Rattle.hog_value.specs.declared.trace.End.TheVariants.{TooDeep, TurnsSpent}
use Rattle.hog_value.specs.declared.value.Kind.TheVariants.{TypeError, ArgumentError}
use Rattle.hog_value.specs.declared.value.Value.TheVariants.{Null, Bool as Truth, Int, Ref}
use Rattle.hog_value.specs.Values.{Val}
use Rattle.hog_value.specs.Meters.{max_turns, max_depth}
use Rattle.vm_course.specs.State.{Slot, Frame, State, params_at}
use Rattle.vm_course.specs.Throws.{ends, goto, throw_kind, with_turn}
use Rattle.vm_course.specs.Step.{Here, in_place, with_arguments, enter, call_function, call_found, call_value}
use Rattle.vm_course.specs.Stack.{keep, close, floor_of}
use Rattle.vm_frames.specs.Parts.{innermost, others_of}
use Rattle.vm_operations.specs.Here.{here_of}
use Rattle.vm_operations.specs.Calls.{callee_of, callee_in}
use Rattle.vm_operations.specs.declared.calls.Callee.{Callee}

-- the function that is called, with no regard to what it captured
abbrev pub bare : Callee → FunCell
bare c = record { place = c.place; captured = [] }

module _ (code : List Slot) (here : Here) (n : ℕ) (rest : List Val) (s : State) where
  -- what is called
  abbrev pub called_at : Callee → State
  called_at c = call_function here n c.cell (bare c) (unwrap_or (params_at code c.place) 0) rest s

  found_some : (cell : ℕ) (o : Option FunCell) (c : Callee) → option_map (callee_of cell) o ≡ Some c → call_found code here n cell o rest s ≡ called_at c
  found_some cell None c is = absurd cc
  found_some cell (Some f) c is = let same : callee_of cell f ≡ c = cc in ap called_at same

  found_none : (cell : ℕ) (o : Option FunCell) → option_map (callee_of cell) o ≡ None → call_found code here n cell o rest s ≡ throw_kind TypeError s
  found_none cell None is = refl
  found_none cell (Some f) is = absurd cc

  pub call_some : (v : Val) (c : Callee) → callee_in s.heap v ≡ Some c → call_value code here n (v, rest) s ≡ called_at c
  call_some Null c is = absurd cc
  call_some (Truth b) c is = absurd cc
  call_some (Int z) c is = absurd cc
  call_some (Ref cell) c is = found_some cell _ c is

  pub call_none : (v : Val) → callee_in s.heap v ≡ None → call_value code here n (v, rest) s ≡ throw_kind TypeError s
  call_none Null is = refl
  call_none (Truth b) is = refl
  call_none (Int z) is = refl
  call_none (Ref cell) is = found_none cell _ is

module _ (here : Here) (n cell : ℕ) (f : FunCell) (params : ℕ) (rest : List Val) (s : State) where
  enough : State
  enough = cond (nat_lt (length here.around) max_depth) (with_turn (enter here n cell f params rest) s) (cond (nat_lt s.turns max_turns) (ends TooDeep s) (ends TurnsSpent s))

  pub few_arguments : params < n → throw_kind ArgumentError s ≡ call_function here n cell f params rest s
  unfolding enough
  few_arguments few =
      let less : nat_lt params n ≡ true = grind (arith, nat_tests) in
      sym (ap (λ b. cond b (throw_kind ArgumentError s) enough) less)

  counted : n ≤ params → enough ≡ call_function here n cell f params rest s
  unfolding enough
  counted many =
      let no_less : nat_lt params n ≡ false = grind (arith, nat_tests) in
      sym (ap (λ b. cond b (throw_kind ArgumentError s) enough) no_less)

  shallow : length here.around < max_depth → with_turn (enter here n cell f params rest) s ≡ enough
  unfolding enough
  shallow less =
      let is : nat_lt (length here.around) max_depth ≡ true = grind (arith, nat_tests) in
      sym (ap (λ b. cond b (with_turn (enter here n cell f params rest) s) (cond (nat_lt s.turns max_turns) (ends TooDeep s) (ends TurnsSpent s))) is)

  pub too_deep : n ≤ params → max_depth ≤ length here.around → cond (nat_lt s.turns max_turns) (ends TooDeep s) (ends TurnsSpent s) ≡ call_function here n cell f params rest s
  unfolding enough
  too_deep many deep =
      let is : nat_lt (length here.around) max_depth ≡ false = grind (arith, nat_tests) in
      sym (ap (λ b. cond b (with_turn (enter here n cell f params rest) s) (cond (nat_lt s.turns max_turns) (ends TooDeep s) (ends TurnsSpent s))) is) ∙ counted many

  pub no_turn : n ≤ params → length here.around < max_depth → (s.turns < max_turns → ⊥) → ends TurnsSpent s ≡ call_function here n cell f params rest s
  no_turn many less none =
      let spent : nat_lt s.turns max_turns ≡ false = grind (arith, nat_tests) in
      sym (ap (λ b. cond b (enter here n cell f params rest (record s { turns = s.turns + 1 })) (ends TurnsSpent s)) spent) ∙ shallow less ∙ counted many

  pub entered : n ≤ params → length here.around < max_depth → s.turns < max_turns → enter here n cell f params rest (record s { turns = s.turns + 1 }) ≡ call_function here n cell f params rest s
  entered many less left =
      let is : nat_lt s.turns max_turns ≡ true = grind (arith, nat_tests) in
      sym (ap (λ b. cond b (enter here n cell f params rest (record s { turns = s.turns + 1 })) (ends TurnsSpent s)) is) ∙ shallow less ∙ counted many

-- the steps by which a body is entered
module _ (s : State) (b n cell : ℕ) (f : FunCell) (params rest : ℕ) where
  frame_of : ℕ → ℕ → ℕ → Frame
  frame_of place base cell = record { place = place; base = base; function = Some cell }

  -- so much of the stack is left, and what is open at a height or above it is closed
  taken_off : ℕ → State
  taken_off height = record s { stack = keep rest s.stack; upvalues = map (close height s.stack) s.upvalues }

  pub enter_is : (floor height base place : ℕ) (s1 s2 s3 s4 : State) → f.place ≡ place → floor ≡ floor_of (innermost s.frames) s
      → height ≡ length (in_place floor n (keep rest s.stack)) → s1 ≡ record s { stack = keep rest s.stack; upvalues = map (close height s.stack) s.upvalues }
      → s2 ≡ goto b (innermost s1.frames) (others_of s1.frames) s1
      → s3 ≡ record s2 { stack = replicate (params - n) Null ++ with_arguments floor n s2.stack } → base ≡ length (with_arguments floor n s2.stack) - n
      → s4 ≡ record s3 { frames = record { place = place; base = base; function = Some cell } ∷ s3.frames }
      → s4 ≡ enter (here_of b s) n cell f params (keep rest s.stack) s
  unfolding frame_of taken_off
  enter_is floor height base place s1 s2 s3 s4 there ground high first second third based fourth =
      let gone : State → State = λ x. goto b (innermost x.frames) (others_of x.frames) x in
      let filled : ℕ → State → State = λ g x. record x { stack = replicate (params - n) Null ++ with_arguments g n x.stack } in
      let based_on : ℕ → State → ℕ = λ g x. length (with_arguments g n x.stack) - n in
      let framed : ℕ → ℕ → State → State = λ p at x. record x { frames = frame_of p at cell ∷ x.frames } in
      fourth
      ∙ ap (framed place base) third
      ∙ ap (λ at. framed place at (filled floor s2)) based
      ∙ ap (λ (x : State). framed place (based_on floor x) (filled floor x)) second
      ∙ ap (λ (x : State). framed place (based_on floor (gone x)) (filled floor (gone x))) first
      ∙ ap (λ h. framed place (based_on floor (gone (taken_off h))) (filled floor (gone (taken_off h)))) high
      ∙ ap₂ (λ g p. let x = gone (taken_off (length (in_place g n (keep rest s.stack)))) in framed p (based_on g x) (filled g x)) ground (sym there)
