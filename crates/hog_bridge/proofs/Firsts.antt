-- The first cells of a run: the same on both sides, without functions, and with each literal text in its place.
use Rattle.std.proofs.Common.{◌≡◌, ℕ, suc, List, [], ◌∷◌, ◌++◌, Some, cond, refl, sym, ap, ◌∙◌, subst, ◌⊎◌, inl, inr, append_assoc, append-nil}
use Rattle.std.specs.Prelude.{bytes_eq}
use Rattle.hog_value.specs.Values.{Val}
use Rattle.hog_value.specs.Cells.{Text, HeapOf, heap_map, text_at}
use Rattle.hog_value.specs.Operations.{Outcome, Gives, Throws, Spends, outcome_map}
use Rattle.hog_json.specs.Reading.{outcome_and_then, read_cells, kept_value, Grows}
use Rattle.hog_json.proofs.Naturality.{outcome_map-outcome_and_then, read_cells-heap_map}
use Rattle.hog_json.proofs.Growing.{read_cells-grows}
use Rattle.hog_library.specs.Cells.{texts_made}
use Rattle.hog_library.proofs.Naturality.{texts_made-heap_map}
use Rattle.hog_tree.specs.Plain.{Word}
use Rattle.hog_meaning.specs.Meaning.{place_in}
use Rattle.hog_meaning.specs.Program.{first_cells}
use Rattle.hog_bridge.proofs.Words.{In, Tells, word_tells}
use Rattle.hog_bridge.proofs.Heaps.{FunsFair, natural_fair}
use Rattle.hog_bridge.proofs.Calls.{made_either}

abbrev cells_from : {F : Type 0} → List Word → List ℕ → HeapOf F → Outcome F Val
cells_from texts globals h = outcome_and_then (texts_made texts h 0) (λ vs. read_cells (kept_value globals))

cells_same : {F G : Type 0} (f : F → G) (texts : List Word) (globals : List ℕ) (h : HeapOf F) → cells_from texts globals (heap_map f h) ≡ outcome_map f (cells_from texts globals h)
cells_same f texts globals h =
    ap (λ o. outcome_and_then o (λ vs. read_cells (kept_value globals))) (texts_made-heap_map f texts h 0)
    ∙ outcome_map-outcome_and_then f (texts_made texts h 0) (λ vs. read_cells (kept_value globals)) (λ vs. read_cells (kept_value globals)) (λ vs h1 u1. read_cells-heap_map f (kept_value globals) h1 u1)

pub first_same : {F G : Type 0} (f : F → G) (texts : List Word) (globals : List ℕ) → first_cells texts globals ≡ outcome_map f (first_cells texts globals)
unfolding first_cells
first_same f texts globals = cells_same f texts globals []

pub first_funs : {F : Type 0} (P : F → Type 0) (texts : List Word) (globals : List ℕ) → FunsFair P (first_cells texts globals)
unfolding first_cells
first_funs P texts globals = natural_fair P (cells_from texts globals) (cells_from texts globals) (λ h. cells_same (λ x. x.0) texts globals h) [] tt

-- texts as cells
abbrev cells_of : (F : Type 0) → List Word → HeapOf F
cells_of F [] = []
cells_of F (t ∷ ts) = Text t ∷ cells_of F ts

-- texts that are made stand in a row
abbrev TextsMade : {F : Type 0} → List Word → HeapOf F → Outcome F (List Val) → Type 0
TextsMade {F} ts h (Gives vs h1 units) = h1 ≡ h ++ cells_of F ts
TextsMade ts h (Throws kind) = Unit {0}
TextsMade ts h Spends = Unit {0}

more_made : {F : Type 0} (t : Word) (ts : List Word) (h : HeapOf F) (v : Val) (o : Outcome F (List Val)) → TextsMade ts (h ++ Text t ∷ []) o → TextsMade (t ∷ ts) h (outcome_and_then o (λ vs. Gives (v ∷ vs)))
more_made {F} t ts h v (Gives vs h1 units) e = e ∙ append_assoc h (Text t ∷ []) (cells_of F ts)
more_made t ts h v (Throws kind) e = tt
more_made t ts h v Spends e = tt

texts_are : {F : Type 0} (ts : List Word) (h : HeapOf F) (units : ℕ) → TextsMade ts h (texts_made ts h units)
texts_are [] h units = sym (append-nil h)
texts_are {F} (t ∷ ts) h units =
    made_either (Text t) h units (λ (o : Outcome F Val). TextsMade (t ∷ ts) h (outcome_and_then o (λ v h1 units1. outcome_and_then (texts_made ts h1 units1) (λ vs. Gives (v ∷ vs)))))
    (more_made t ts h _ (texts_made ts (h ++ Text t ∷ []) _) (texts_are ts (h ++ Text t ∷ []) _)) tt

text_in_place : {F : Type 0} (ts : List Word) (more : HeapOf F) (t : Word) → In t ts → text_at (cells_of F ts ++ more) (place_in ts t) ≡ Some t
text_in_place [] more t i = absurd i
text_in_place {F} (l ∷ ls) more t i = go (word_tells l t) i (text_in_place ls more t)
  where
    go : Tells l t → (l ≡ t) ⊎ In t ls → (In t ls → text_at (cells_of F ls ++ more) (place_in ls t) ≡ Some t) → text_at (cells_of F (l ∷ ls) ++ more) (cond (bytes_eq l t) 0 (suc (place_in ls t))) ≡ Some t
    go (inl e) i ih = rw e.0 (ap Some e.1)
    go (inr e) (inl same) ih = absurd (e.1 same)
    go (inr e) (inr j) ih = rw e.0 (ih j)

-- each text in its place
abbrev pub TextsPlaced : {F : Type 0} → List Word → Outcome F Val → Type 0
TextsPlaced ts (Gives v h units) = (t : Word) → In t ts → text_at h (place_in ts t) ≡ Some t
TextsPlaced ts (Throws kind) = Unit {0}
TextsPlaced ts Spends = Unit {0}

pub first_texts : (F : Type 0) (ts : List Word) (globals : List ℕ) → TextsPlaced {F = F} ts (first_cells ts globals)
unfolding first_cells
first_texts F ts globals = made_first (texts_made ts [] 0) (texts_are ts [] 0)
  where
    placed : (h : HeapOf F) → h ≡ cells_of F ts → (o : Outcome F Val) → ((v : Val) (h1 : HeapOf F) (units : ℕ) → o ≡ Gives v h1 units → Grows h h1) → TextsPlaced ts o
    placed h e (Gives v h1 units) grows = λ t i.
        let g = grows v h1 units refl in
        subst (λ z. text_at z (place_in ts t) ≡ Some t) (sym (g.1 ∙ ap (λ z. z ++ g.0) e)) (text_in_place ts g.0 t i)
    placed h e (Throws kind) grows = tt
    placed h e Spends grows = tt

    made_first : (o : Outcome F (List Val)) → TextsMade ts [] o → TextsPlaced ts (outcome_and_then o (λ vs. read_cells (kept_value globals)))
    made_first (Gives vs h units) e = placed h e (read_cells (kept_value globals) h units) (λ v h1 u1 gave. read_cells-grows (kept_value globals) h units v h1 u1 gave)
    made_first (Throws kind) e = tt
    made_first Spends e = tt
