-- Whole runs: with any number of turns, and what they show.
use Rattle.std.proofs.Common.{◌≡◌, ℕ, zero, suc, ◌+◌, ◌-◌, List, [], ◌∷◌, length, Some, true, false, refl, sym, ap, ◌∙◌, subst, ◌⊎◌, inl, inr}
use Rattle.std.specs.Prelude.{bytes_eq, ◌||◌, nat_le, if◌then◌else◌}
use Rattle.std.proofs.lemmas.List.{length-map}
use Rattle.hog_value.specs.declared.trace.End.{End}
use Rattle.hog_value.specs.declared.trace.End.TheVariants as end
use Rattle.hog_value.specs.Values.{Val}
use Rattle.hog_value.specs.declared.value.Value.TheVariants.{Null}
use Rattle.hog_value.specs.Meters.{max_turns, max_units}
use Rattle.hog_value.specs.Cells.{heap_map, cell_map}
use Rattle.hog_value.specs.Operations as op
use Rattle.hog_value.specs.Operations.{Outcome, outcome_map}
use Rattle.hog_json.proofs.Naturality.{shown-heap_map}
use Rattle.hog_tree.specs.Plain.{Word, Stms, ManyStms}
use Rattle.hog_tree.specs.Plain as t
use Rattle.hog_captures.specs.Frees.{is_among, stms_frees}
use Rattle.hog_scope.specs.Scopes.{items_of}
use Rattle.hog_bridge.specs.Laws.{IsNamed}
use Rattle.hog_meaning.specs.Meaning.{Call, effect_at}
use Rattle.hog_meaning.specs.World.{Reply, World, Fixed, Got, Flow}
use Rattle.hog_meaning.specs.Program.{Shows, shows, charged_end, texts_in, first_cells, run_from, outcome, meaning}
use Rattle.hog_names.specs.Anew.{Naming, program_anew}
use Rattle.hog_names.specs.Laws.{NumbersAreFound, IsNaming, NumbersStay, MeaningIsByNumbers}
use Rattle.hog_names.proofs.Events.{AnewToo, program_again}
use Rattle.hog_bridge.proofs.Words.{Tells, word_tells, In}
use Rattle.hog_bridge.proofs.Firsts.{first_same}
use Rattle.hog_names.proofs.Items.{items_found}
use Rattle.hog_names.proofs.Within.{stms_in, program_made}
use Rattle.hog_names.proofs.Sights.{AreApart, Here, alike_none}
use Rattle.hog_names.proofs.Twins.{Twin, older, newer, Worlds, old_world, new_world, Both, BothGive, BothThrow, BothWait, BothSpend, old_got, new_got, Flows, BothGoOn, BothReturn, old_flow, new_flow, Ends, pair_so, spend}
use Rattle.hog_names.proofs.Calls.{Good}
use Rattle.hog_names.proofs.Runs.{effect_pair, body_pair, for_again, over_again}

-- what a program shows where these are its literal texts
abbrev shown_with : List Word → Stms → List ℕ → List Reply → Shows
shown_with texts program globals replies = shows (run_from program texts replies (first_cells texts globals))

-- a word that isn't one of these
apart_from : (w : Word) (ws : List Word) → is_among w ws ≡ false → In w ws → ⊥
apart_from w [] e h = h
apart_from w (v ∷ ws) e h = by (word_tells v w) e h (apart_from w ws)
  where
    by : Tells v w → (bytes_eq v w || is_among w ws) ≡ false → (v ≡ w) ⊎ In w ws → (is_among w ws ≡ false → In w ws → ⊥) → ⊥
    by (inl d) e h ih = let e2 : true ≡ false = rw d.0 at e in absurd cc
    by (inr d) e (inl s) ih = d.1 s
    by (inr d) e (inr h) ih = let e2 : is_among w ws ≡ false = rw d.0 at e in ih e2 h

module _ (call : Naming) (far : AreApart call) where
  good_at : (fixed : Fixed) (n : ℕ) → Good call far (effect_at fixed n) (effect_at fixed n)
  good_at fixed zero = record {
    calls = λ depth σ n b h ρ ρ' a W. spend call _ W;
    loop = λ depth σ n c b h ρ ρ' a W. spend call _ W;
    with_step = λ depth σ n c s b h ρ ρ' a W. spend call _ W;
    over = λ depth σ n m k x t i b le h ρ ρ' a W. spend call _ W;
  }
  good_at fixed (suc n) =
      let again = effect_at fixed n in
      let ih = good_at fixed n in
      record {
        calls = λ depth σ i b h ρ ρ' a W. body_pair call far fixed again again ih depth b σ i h ρ ρ' a W;
        loop = λ depth σ i c b h ρ ρ' a W. effect_pair call far fixed again again ih depth (t.While c b) σ i h ρ ρ' a W;
        with_step = λ depth σ i c s b h ρ ρ' a W. for_again call far fixed again again ih depth c s b σ i h ρ ρ' a W;
        over = λ depth σ i m k x v z b le h ρ ρ' a W. over_again call far fixed again again ih depth σ i m k x v z b le h ρ ρ' a W;
      }

  run_pair : (program : Stms) → Here call [] 0 (stms_frees true program) → (texts : List Word) (replies : List Reply) (o : Outcome (Twin call) Val)
      → Ends call [] (run_from program texts replies (outcome_map (older call) o)) (run_from (stms_in call [] 0 program) texts replies (outcome_map (newer call) o))
  run_pair program h texts replies (op.Gives v heap units) =
      let W : Worlds call = record { heap = heap; store = []; turns = 0; units = units; trace = []; replies = replies } in
      let fixed : ℕ → Fixed = λ n. record { literals = texts; globals = n - 1 } in
      let start : Fixed → World → Got Flow = λ f w. effect_at f (suc max_turns) 0 (Call (ManyStms (stms_in call [] 0 program))) [] w in
      let p = (good_at (fixed (length (heap_map (older call) heap))) (suc max_turns)).calls 0 [] 0 (ManyStms program) h [] [] (alike_none call) W in
      pair_so call refl (ap (λ n. start (fixed n) (new_world call W)) (length-map heap (cell_map (newer call)) ∙ sym (length-map heap (cell_map (older call))))) p
  run_pair program h texts replies (op.Throws kind) = spend call _ (record { heap = []; store = []; turns = 0; units = 0; trace = []; replies = replies })
  run_pair program h texts replies op.Spends = spend call _ (record { heap = []; store = []; turns = 0; units = 0; trace = []; replies = replies })

  -- what is shown
  ended_same : (make : List ℕ → End) (W : Worlds call) (v : Val) → charged_end make (new_world call W) v ≡ charged_end make (old_world call W) v
  ended_same make W v = ap (λ s. if nat_le (W.units + length s) max_units then make s else end.MemorySpent) (shown-heap_map (newer call) W.heap v ∙ sym (shown-heap_map (older call) W.heap v))

  shows_same : {o o' : Got Flow} → Ends call [] o o' → shows o' ≡ shows o
  shows_same {o} {o'} p = by p.both p.old p.new
    where
      by : (b : Both call (Flows call [])) → o ≡ old_got call (old_flow call) b → o' ≡ new_got call (new_flow call) b → shows o' ≡ shows o
      by (BothGive (BothGoOn ρ ρ' a) W) e e' = ap shows e' ∙ ap (λ z. record { trace = W.trace; end = Some z }) (ended_same end.Done W Null) ∙ sym (ap shows e)
      by (BothGive (BothReturn v) W) e e' = ap shows e' ∙ ap (λ z. record { trace = W.trace; end = Some z }) (ended_same end.Done W v) ∙ sym (ap shows e)
      by (BothThrow v W) e e' = ap shows e' ∙ ap (λ z. record { trace = W.trace; end = Some z }) (ended_same end.Threw W v) ∙ sym (ap shows e)
      by (BothWait W) e e' = ap shows e' ∙ sym (ap shows e)
      by (BothSpend limit W) e e' = ap shows e' ∙ sym (ap shows e)

pub numbers_found : NumbersAreFound
numbers_found program names = items_found program names.items names.resolved

-- at the start of a program
module _ (program : Stms) (names : IsNamed program) (call : Naming) (naming : IsNaming call program) where
  apart : AreApart call
  apart = record { apart = naming.apart }

  here : Here call [] 0 (stms_frees true program)
  here = record {
    below = λ w i e. absurd cc;
    clear = λ w is e i same. apart_from w (stms_frees true program) (subst (λ v. is_among v (stms_frees true program) ≡ false) same (naming.free i)) is;
  }

  anew_is : program_anew call names.items program ≡ stms_in call [] 0 program
  anew_is = ap (λ z. program_anew call z program) (numbers_found program names) ∙ program_made call program

  too : AnewToo call apart program names.items
  too = program_again call apart program names.items names.resolved here (numbers_found program names)

pub numbers_stay : NumbersStay
numbers_stay program names call naming = ap items_of (anew_is program names call naming) ∙ (too program names call naming).items_same

pub meaning_by_numbers : MeaningIsByNumbers
unfolding meaning outcome
meaning_by_numbers program names call naming globals replies =
    let far = apart program names call naming in
    let h = here program names call naming in
    let texts = texts_in program in
    let anew = stms_in call [] 0 program in
    let cells : Outcome (Twin call) Val = first_cells texts globals in
    ap (λ z. shown_with (texts_in z) z globals replies) (anew_is program names call naming)
    ∙ ap (λ ts. shown_with ts anew globals replies) (too program names call naming).texts_same
    ∙ ap (λ o. shows (run_from anew texts replies o)) (first_same (newer call) texts globals)
    ∙ shows_same call far (run_pair call far program h texts replies cells)
    ∙ ap (λ o. shows (run_from program texts replies o)) (sym (first_same (older call) texts globals))
