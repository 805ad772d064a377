-- Whole runs: the course comes to its end or its wait, shows the meaning, and is bounded.
use Rattle.std.proofs.Common.{◌≡◌, ℕ, zero, suc, ◌+◌, ◌-◌, ◌≤◌, List, [], ◌++◌, length, Option, Some, None, true, refl, sym, ap, ◌∙◌, subst, ⊎_elim, arith, append-nil}
use Rattle.std.specs.Prelude.{◌*◌}
use Rattle.std.proofs.lemmas.Bool.{cases_lt}
use Rattle.std.proofs.lemmas.List.{length-map}
use Rattle.hog_value.specs.declared.cell.FunCell.{FunCell}
use Rattle.hog_value.specs.declared.trace.TraceItem.{TraceItem}
use Rattle.hog_value.specs.declared.trace.End.{End}
use Rattle.hog_value.specs.Values.{Val}
use Rattle.hog_value.specs.Meters.{max_turns}
use Rattle.hog_value.specs.Cells.{HeapOf, heap_map, text_at}
use Rattle.hog_value.specs.Operations as op
use Rattle.hog_value.specs.Operations.{Outcome, outcome_map}
use Rattle.hog_tree.specs.Plain.{Word, Stms, ManyStms}
use Rattle.hog_captures.specs.Frees.{stms_frees}
use Rattle.hog_captures.specs.Frames.{first_frame}
use Rattle.hog_compiler.specs.Code.{body_code, code_of}
use Rattle.hog_meaning.specs.World.{Reply, World, Got, Gives, Throws, Waits, Spends, Flow, GoesOn, Returns}
use Rattle.hog_meaning.specs.Meaning.{Call, place_in, effect_at}
use Rattle.hog_meaning.specs.Program.{Shows, shows, texts_in, first_cells, run_from, outcome, meaning}
use Rattle.vm_course.specs.State.{Slot, code_slots, Running, Waiting, Ended, Mode, State}
use Rattle.vm_course.specs.Step.{step, step_in, take_reply}
use Rattle.vm_course.specs.Course.{literals_of_code, started, fixed_by, steps, machine, IsOver, is_over_in, IsDefined}
use Rattle.hog_bridge.specs.Laws.{operations, HoldsTheSame, WaitsAlike, IsOnMeaning}
use Rattle.hog_bridge.proofs.Words.{In, sub_same}
use Rattle.hog_bridge.proofs.Resolved.{StmsOk}
use Rattle.hog_bridge.proofs.Ahead.{HasAt, left, left_later}
use Rattle.hog_bridge.proofs.Heaps.{AllFuns, FunsFair}
use Rattle.hog_bridge.proofs.Picture.{Given, Twin, meant, built, Ghost, phi, psi, psi_in, Comes, at_once, steps-add, FunOk, Ctx, at, Fits, Ends}
use Rattle.hog_bridge.proofs.Follow.{BodyAt}
use Rattle.hog_bridge.proofs.Tasks.{follows_at}
use Rattle.hog_bridge.proofs.Grows.{steps_grow}
use Rattle.hog_bridge.proofs.Codes.{code_at, code_counted, code_pushes}
use Rattle.hog_bridge.proofs.Sorted.{in_sorted}
use Rattle.hog_bridge.proofs.Firsts.{first_same, first_funs, TextsPlaced, first_texts}

-- how an end is shown, and what is held at a wait
abbrev EndIs : Option End → State → Type 0
EndIs (Some e) s = s.mode ≡ Ended e
EndIs None s = (s.mode ≡ Waiting) × (s.replies ≡ [])

abbrev WaitIs : Got Flow → State → Type 0
WaitIs (Gives flow w) s = Unit {0}
WaitIs (Throws v w) s = Unit {0}
WaitIs (Waits w) s = HoldsTheSame w s
WaitIs (Spends limit w) s = Unit {0}

record Finishes (g : Given) (s : State) (o : Got Flow) : Type 0 where
  last : State
  comes : Comes g s last
  trace : last.trace ≡ (shows o).trace
  end : EndIs (shows o).end last
  wait : WaitIs o last

abbrev c0 : List Word → Ctx
c0 ws = record { base = 0; function = None; captured = []; frames = []; own = []; outer = []; below = []; scope = first_frame; words = ws; sight = [] }

shown : (g : Given) (ws : List Word) (s : State) (G : Ghost) (o : Got Flow) → Ends g max_turns [] s G (BodyAt g max_turns (c0 ws)) o → Finishes g s o
shown g ws s G (Gives (GoesOn ρ) w) r = absurd r.holds
shown g ws s G (Gives (Returns v) w) r = record { last = r.last; comes = r.comes; trace = r.holds.1; end = r.holds.0; wait = tt }
shown g ws s G (Throws v w) r = record { last = r.last; comes = r.comes; trace = r.trace; end = r.mode; wait = tt }
shown g ws s G (Waits w) r = record { last = r.last; comes = r.comes; trace = r.trace; end = (r.mode, r.none); wait = record { trace = r.trace; turns = r.turns; units = r.units; heap = r.heap } }
shown g ws s G (Spends limit w) r = record { last = r.last; comes = r.comes; trace = r.trace; end = r.mode; wait = tt }

rests : (g : Given) (e : Option End) (s : State) → EndIs e s → step g.fixed g.code s ≡ s
rests g (Some e) s m = ap (λ x. step_in x g.fixed g.code s) m
rests g None s m = ap (λ x. step_in x g.fixed g.code s) m.0 ∙ ap (λ rs. take_reply rs s) m.1

rests_on : (g : Given) (k : ℕ) (s : State) → step g.fixed g.code s ≡ s → steps g.fixed g.code k s ≡ s
rests_on g zero s e = refl
rests_on g (suc k) s e = ap (steps g.fixed g.code k) e ∙ rests_on g k s e

later : (g : Given) (m k : ℕ) (s : State) → m ≤ k → step g.fixed g.code (steps g.fixed g.code m s) ≡ steps g.fixed g.code m s → steps g.fixed g.code m s ≡ steps g.fixed g.code k s
later g m k s le e =
    let at_k : m + (k - m) ≡ k = omega arith in
    sym (rests_on g (k - m) (steps g.fixed g.code m s) e) ∙ sym (steps-add g m (k - m) s) ∙ ap (λ j. steps g.fixed g.code j s) at_k

-- two states of one run that rest are the same
one_end : (g : Given) (m k : ℕ) (s : State) → step g.fixed g.code (steps g.fixed g.code m s) ≡ steps g.fixed g.code m s → step g.fixed g.code (steps g.fixed g.code k s) ≡ steps g.fixed g.code k s → steps g.fixed g.code m s ≡ steps g.fixed g.code k s
one_end g m k s e f = ⊎_elim (λ lt. later g m k s (omega arith) e) (λ le. sym (later g k m s le f)) (cases_lt m k)

-- a program whose calls are sound, and whose code pushes the texts that it names
module _ (program : Stms) (good : StmsOk [] program) (lits : literals_of_code (code_of program) ≡ texts_in program) where
  abbrev code : List Slot
  code = code_slots (code_of program)

  abbrev texts : List Word
  texts = texts_in program

  has_code : HasAt code 2 (body_code first_frame (ManyStms program))
  unfolding code_of
  has_code = code_at (code_of program)

  given : Outcome FunCell Val → Given
  given o = record { fixed = fixed_by texts o; code = code }

  ok : Twin → Type 0
  ok t = FunOk code [] t

  module _ (replies : List Reply) where
    starts : (v : Val) (h : HeapOf Twin) (units : ℕ) → AllFuns (FunOk code []) h → ((t : Word) → In t texts → text_at h (place_in texts t) ≡ Some t) → Finishes (given (op.Gives v (heap_map built h) units)) (started replies (op.Gives v (heap_map built h) units)) (run_from program texts replies (op.Gives v (heap_map meant h) units))
    unfolding given
    starts v h units funs placed =
        let g = given (op.Gives v (heap_map built h) units) in
        let ws = stms_frees true program in
        let w0 : World = record { heap = heap_map meant h; store = []; turns = 0; units = units; trace = []; replies = replies } in
        let G0 : Ghost = record { owners = []; heap = h } in
        let fits : Fits g max_turns 0 (c0 ws) [] [] G0 w0 = record {
          kept = record {
            layout = tt;
            owners = tt;
            heap = refl;
            funs = funs;
            turns = omega arith;
            texts = λ p t e. placed t (subst (In t) lits (in_sorted _ [] t (code_pushes (code_of program) p t e)));
          };
          framed = record { lands = tt; floor = ([], refl); base = refl; own = tt; outer = tt; depth = refl };
          sees = λ x i. tt;
          captured = refl;
          sight = refl;
        } in
        let r = (follows_at g (suc max_turns)).body max_turns (omega arith) 0 (ManyStms program) (c0 ws) [] 2 [] G0 w0 has_code (sub_same ws) good fits refl tt in
        let same : length (heap_map built h) ≡ length (heap_map meant h) = length-map h _ ∙ sym (length-map h _) in
        subst (λ k. Finishes g (at (c0 ws) 2 [] G0 w0) (effect_at (record { literals = texts; globals = k - 1 }) (suc max_turns) 0 (Call (ManyStms program)) [] w0)) same
        (shown g ws (at (c0 ws) 2 [] G0 w0) G0 _ r.ends)

    any_start : (o : Outcome Twin Val) → FunsFair (FunOk code []) o → TextsPlaced texts o → Finishes (given (outcome_map built o)) (started replies (outcome_map built o)) (run_from program texts replies (outcome_map meant o))
    any_start (op.Gives v h units) funs placed = starts v h units funs placed
    any_start (op.Throws kind) funs placed = record { last = started replies (op.Throws kind); comes = at_once (given (op.Throws kind)) refl; trace = refl; end = refl; wait = tt }
    any_start op.Spends funs placed = record { last = started replies op.Spends; comes = at_once (given op.Spends) refl; trace = refl; end = refl; wait = tt }

    module _ (globals : List ℕ) where
      abbrev g : Given
      g = given (first_cells texts globals)

      abbrev s0 : State
      s0 = started replies (first_cells texts globals)

      abbrev o0 : Got Flow
      o0 = run_from program texts replies (first_cells texts globals)

      finishes : Finishes g s0 o0
      finishes =
          let twins : Outcome Twin Val = first_cells texts globals in
          subst (λ z. Finishes (given z) (started replies z) o0) (sym (first_same built texts globals))
          (subst (λ z. Finishes (given (outcome_map built twins)) (started replies (outcome_map built twins)) (run_from program texts replies z)) (sym (first_same meant texts globals))
          (any_start twins (first_funs (FunOk code []) texts globals) (first_texts Twin texts globals)))

      abbrev run : ℕ → State
      run k = steps g.fixed g.code k s0

      machine_is : (k : ℕ) → machine (code_of program) globals replies k ≡ run k
      unfolding machine given
      machine_is k = ap (λ l. steps (fixed_by l (first_cells l globals)) code k (started replies (first_cells l globals))) lits

      outcome_is : outcome program globals replies ≡ o0
      unfolding outcome
      outcome_is = refl

      meaning_is : meaning program globals replies ≡ shows o0
      unfolding meaning outcome
      meaning_is = refl

      -- at the end, and past it
      last_rests : step g.fixed g.code (run finishes.comes.count) ≡ run finishes.comes.count
      last_rests = subst (λ s. step g.fixed g.code s ≡ s) (sym finishes.comes.by) (rests g (shows o0).end finishes.last finishes.end)

      prefixed : (k : ℕ) → (rest : List TraceItem) × ((shows o0).trace ≡ (run k).trace ++ rest)
      prefixed k =
          let f = finishes in
          ⊎_elim
          (λ lt.
          let grow = steps_grow g.fixed g.code (f.comes.count - k) (run k) in
          let n : k + (f.comes.count - k) ≡ f.comes.count = omega arith in
          let same : steps g.fixed g.code (f.comes.count - k) (run k) ≡ f.last = sym (steps-add g k (f.comes.count - k) s0) ∙ ap run n ∙ f.comes.by in
          (grow.more, sym f.trace ∙ ap (λ (s : State). s.trace) (sym same) ∙ grow.is))
          (λ le.
          let same : run k ≡ f.last = sym (later g f.comes.count k s0 le last_rests) ∙ f.comes.by in
          ([], sym f.trace ∙ ap (λ (s : State). s.trace) (sym same) ∙ sym (append-nil (run k).trace)))
          (cases_lt k f.comes.count)

      is_last : (k : ℕ) → step g.fixed g.code (run k) ≡ run k → run k ≡ finishes.last
      is_last k e = one_end g k finishes.comes.count s0 e last_rests ∙ finishes.comes.by

      end_is : (m : Option End) (e : End) (s last : State) → s ≡ last → EndIs m last → s.mode ≡ Ended e → m ≡ Some e
      end_is (Some x) e s last q m h = let a : last.mode ≡ Ended e = ap (λ (z : State). z.mode) (sym q) ∙ h in let b : Ended x ≡ Ended e = sym m ∙ a in cc
      end_is None e s last q m h = let a : last.mode ≡ Ended e = ap (λ (z : State). z.mode) (sym q) ∙ h in let b : Waiting ≡ Ended e = sym m.0 ∙ a in absurd (cc)

      alike : (o : Got Flow) (s last : State) → s ≡ last → EndIs (shows o).end last → WaitIs o last → s.mode ≡ Waiting → WaitsAlike o s
      alike (Gives (GoesOn ρ) w) s last q m h wait = let a : last.mode ≡ Waiting = ap (λ (z : State). z.mode) (sym q) ∙ wait in absurd (no_end _ (sym m ∙ a))
        where
          no_end : (e : End) → Ended e ≡ Waiting → ⊥
          no_end e b = cc
      alike (Gives (Returns v) w) s last q m h wait = let a : last.mode ≡ Waiting = ap (λ (z : State). z.mode) (sym q) ∙ wait in absurd (no_end _ (sym m ∙ a))
        where
          no_end : (e : End) → Ended e ≡ Waiting → ⊥
          no_end e b = cc
      alike (Throws v w) s last q m h wait = let a : last.mode ≡ Waiting = ap (λ (z : State). z.mode) (sym q) ∙ wait in absurd (no_end _ (sym m ∙ a))
        where
          no_end : (e : End) → Ended e ≡ Waiting → ⊥
          no_end e b = cc
      alike (Waits w) s last q m h wait = subst (HoldsTheSame w) (sym q) h
      alike (Spends limit w) s last q m h wait = let a : last.mode ≡ Waiting = ap (λ (z : State). z.mode) (sym q) ∙ wait in absurd (no_end _ (sym m ∙ a))
        where
          no_end : (e : End) → Ended e ≡ Waiting → ⊥
          no_end e b = cc

      ended : (k : ℕ) (e : End) → (run k).mode ≡ Ended e → shows o0 ≡ record { trace = (run k).trace; end = Some e }
      ended k e h =
          let q = is_last k (ap (λ x. step_in x g.fixed g.code (run k)) h) in
          let t : (shows o0).trace ≡ (run k).trace = sym finishes.trace ∙ ap (λ (s : State). s.trace) (sym q) in
          let f = end_is (shows o0).end e (run k) finishes.last q finishes.end h in
          ap (λ (x : List TraceItem). record (shows o0) { trace = x }) t ∙ ap (λ (x : Option End). record { trace = (run k).trace; end = x }) f

      waits : (k : ℕ) → (run k).mode ≡ Waiting → (run k).replies ≡ [] → WaitsAlike o0 (run k)
      waits k h r =
          let q = is_last k (ap (λ x. step_in x g.fixed g.code (run k)) h ∙ ap (λ rs. take_reply rs (run k)) r) in
          alike o0 (run k) finishes.last q finishes.end finishes.wait h

      pub on_meaning : IsOnMeaning program globals replies
      on_meaning = record {
        prefix = λ k.
            let p = prefixed k in
            (p.0, ap (λ (x : Shows). x.trace) meaning_is ∙ p.1 ∙ ap (λ (s : State). s.trace ++ p.0) (sym (machine_is k)));
        ended = λ k e h.
            meaning_is ∙ ended k e (ap (λ (s : State). s.mode) (sym (machine_is k)) ∙ h)
            ∙ ap (λ (s : State). record { trace = s.trace; end = Some e }) (sym (machine_is k));
        waits = λ k h r.
            subst (λ s. WaitsAlike (outcome program globals replies) s) (sym (machine_is k))
            (subst (λ z. WaitsAlike z (run k)) (sym outcome_is) (waits k (ap (λ (s : State). s.mode) (sym (machine_is k)) ∙ h) (ap (λ (s : State). s.replies) (sym (machine_is k)) ∙ r)));
      }

      -- the bound

      less_one : (m : Mode) (n : ℕ) → n ≤ psi_in m n + 1
      less_one Running n = omega arith
      less_one Waiting n = omega arith
      less_one (Ended e) n = omega arith

      no_more : (m : Mode) (n : ℕ) → psi_in m n ≤ n
      no_more Running n = omega arith
      no_more Waiting n = omega arith
      no_more (Ended e) n = omega arith

      total : (k t n : ℕ) → k + (max_turns - t) * suc n ≤ 1 + (n + max_turns * suc n) → suc k ≤ 1 + (t + 1) * (n + 1)
      total k t n h =
          ⊎_elim
          (λ lt.
          let e : t ≡ max_turns + (t - max_turns) = omega arith in
          let e2 = ap (λ x. x * suc n) e in
          let e3 : (max_turns + (t - max_turns)) * suc n ≡ max_turns * suc n + (t - max_turns) * suc n = omega arith in
          let e4 : (t + 1) * (n + 1) ≡ t * suc n + suc n = omega arith in
          omega (arith, h, e2, e3, e4))
          (λ le.
          let e : (max_turns - t) + t ≡ max_turns = omega arith in
          let e2 = ap (λ x. x * suc n) e in
          let e3 : ((max_turns - t) + t) * suc n ≡ (max_turns - t) * suc n + t * suc n = omega arith in
          let e4 : (t + 1) * (n + 1) ≡ t * suc n + suc n = omega arith in
          omega (arith, h, e2, e3, e4))
          (cases_lt max_turns t)

      at_first : (o : Outcome FunCell Val) → psi g (started replies o) ≤ left code 0 + max_turns * suc (left code 0)
      unfolding given
      at_first (op.Gives v h units) = let l = left_later code 0 2 (omega arith) in omega (arith, l)
      at_first (op.Throws kind) = let l = left_later code 0 2 (omega arith) in omega (arith, l)
      at_first op.Spends = let l = left_later code 0 2 (omega arith) in omega (arith, l)

      over : (e : Option End) (s : State) → EndIs e s → IsOver s
      over (Some e) s m = subst (λ z. is_over_in z s.replies) (sym m) tt
      over None s m = subst (λ z. is_over_in z s.replies) (sym m.0) (subst (λ z. is_over_in Waiting z) (sym m.1) tt)

      pub bounded : (k : ℕ) → IsDefined (code_of program) globals replies (suc k) → suc k ≤ 1 + ((machine (code_of program) globals replies k).turns + 1) * (operations (code_of program) + 1)
      unfolding given
      bounded k def =
          let f = finishes in
          let s = run k in
          let within : k ≤ f.comes.count = ⊎_elim
          (λ lt. absurd (def f.comes.count (omega arith) (subst IsOver (sym (machine_is f.comes.count ∙ f.comes.by)) (over (shows o0).end f.last f.end))))
          (λ le. le) (cases_lt f.comes.count k) in
          let p = f.comes.paid k within in
          let a = at_first (first_cells texts globals) in
          let b = less_one s.mode (phi code s.frames + (max_turns - s.turns) * suc (left code 0)) in
          let t = total k s.turns (left code 0) (omega (arith, p, a, b)) in
          subst (λ z. suc k ≤ 1 + (z.turns + 1) * (operations (code_of program) + 1)) (sym (machine_is k))
          (subst (λ z. suc k ≤ 1 + (s.turns + 1) * (z + 1)) (code_counted (code_of program)) t)

      -- it ends, or waits with all replies used
      pub comes_to_rest : (k : ℕ) × IsOver (machine (code_of program) globals replies k)
      unfolding given
      comes_to_rest =
          let f = finishes in
          (f.comes.count, subst IsOver (sym (machine_is f.comes.count ∙ f.comes.by)) (over (shows o0).end f.last f.end))
