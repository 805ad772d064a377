-- The first fault of a tree.
use Rattle.std.proofs.Common.{◌≡◌, ◌≢◌, ℕ, zero, suc, ◌<◌, List, [], ◌∷◌, ◌++◌, length, take, drop, get_or, map, Some, Result, Ok, Err, refl, sym, ap, ap₂, ◌∙◌, subst, arith}
use Rattle.std.specs.Prelude.{slice_get}
use Rattle.std.specs.List.{filter_map}
use Rattle.std.specs.Result.{IsErrAnd}
use Rattle.std.proofs.lemmas.Result.{err_from_is_err_and}
use Rattle.std.proofs.lemmas.List.{map-append}
use Rattle.std.proofs.lemmas.List.Elements.{filter_map-append}
use Rattle.hog_tree.specs.declared.tree.Named.{Named}
use Rattle.hog_tree.specs.declared.tree.Tree.{Tree}
use Rattle.hog_tree.specs.View.{tree_of}
use Rattle.hog_scope.specs.declared.stop.ScopeStop.{ScopeStop}
use Rattle.hog_scope.specs.declared.stop.ScopeStop.TheVariants as refusal
use Rattle.hog_scope.specs.declared.words.Event as e
use Rattle.hog_scope.specs.Words.{stms_words}
use Rattle.hog_tree.specs.Names.{tree_names}
use Rattle.hog_scope.specs.Events.{event_of, name_in}
use Rattle.hog_scope.specs.Scopes.{AlreadyDeclared, AssignsUnknown, UnknownFunction, WrongCount, Known, Cause, step, run, start, items_at}
use Rattle.hog_scope.specs.Stops.{IsStop, stop_at, place_of_name, located, resolution}
use Rattle.hog_scope.proofs.Runs.{run-fault, fault_named, slice_get-middle}

-- a list round its i-th item
split : {A : Type 0} (xs : List A) (i : ℕ) (x : A) → i < length xs → x ≡ get_or xs i x → xs ≡ take i xs ++ x ∷ drop (suc i) xs
split [] i x lt is = absurd (omega arith)
split (y ∷ ys) zero x lt is = ap (λ z. z ∷ ys) (sym is)
split (y ∷ ys) (suc i) x lt is = ap (λ zs. y ∷ zs) (split ys i x (omega arith) is)

-- a word that names something stands among them after as many as there are before it
named_at : (xs ys : List e.Event) (x : e.Event) (n : Named) → name_in x ≡ Some n
    → slice_get (filter_map name_in (xs ++ x ∷ ys)) (length (filter_map name_in xs)) ≡ Some n
named_at xs ys x n is =
    let one : filter_map name_in (x ∷ ys) ≡ n ∷ filter_map name_in ys = rw is refl in
    ap (λ l. slice_get l (length (filter_map name_in xs))) (filter_map-append name_in xs (x ∷ ys) ∙ ap (λ l. filter_map name_in xs ++ l) one)
    ∙ slice_get-middle (filter_map name_in xs) n (filter_map name_in ys)

module _ (t : Tree) (xs : List e.Event) (words : map event_of xs ≡ stms_words (tree_of t)) (names : filter_map name_in xs ≡ tree_names t)
    (i : ℕ) (x : e.Event) (lt : i < length xs) (is : x ≡ get_or xs i x)
    (m : Known) (ran : run (map event_of (take i xs)) start ≡ Ok m) (item_count : length m.items ≡ length (filter_map name_in (take i xs))) where
  pub resolution-fault : (cause : Cause) → step (event_of x) m ≡ Err cause → resolution t ≡ Err (stop_at cause (place_of_name (name_in x)))
  resolution-fault cause stepped =
      let whole = split xs i x lt is in
      let n = fault_named x m cause stepped in
      let ran_to : run (stms_words (tree_of t)) start ≡ Err (record { cause = cause; word = length m.items }) =
      ap (λ es. run es start) (sym words ∙ ap (map event_of) whole ∙ map-append event_of (take i xs) (x ∷ drop (suc i) xs))
      ∙ run-fault (map event_of (take i xs)) (map event_of (drop (suc i) xs)) (event_of x) start m cause ran stepped in
      let at : slice_get (tree_names t) (length m.items) ≡ name_in x =
      ap₂ slice_get (sym names ∙ ap (filter_map name_in) whole) item_count
      ∙ named_at (take i xs) (drop (suc i) xs) x n.0 n.1 ∙ sym n.1 in
      ap (λ r. located (tree_names t) (items_at r)) ran_to ∙ ap (λ o. Err (stop_at cause (place_of_name o))) at

  -- a refusal of what is wrong with the word is that of the first fault
  pub resolution-stop : (given : ScopeStop) → IsStop given (place_of_name (name_in x)) (step (event_of x) m) → given ≢ refusal.OutOfMemory → resolution t ≡ Err given
  resolution-stop (refusal.AlreadyDeclared at) h spent = resolution-fault AlreadyDeclared h.0 ∙ ap (λ n. Err (refusal.AlreadyDeclared n)) (sym h.1)
  resolution-stop (refusal.AssignsUnknown at) h spent = resolution-fault AssignsUnknown h.0 ∙ ap (λ n. Err (refusal.AssignsUnknown n)) (sym h.1)
  resolution-stop (refusal.UnknownFunction at) h spent = resolution-fault UnknownFunction h.0 ∙ ap (λ n. Err (refusal.UnknownFunction n)) (sym h.1)
  resolution-stop (refusal.WrongCount at) h spent = resolution-fault WrongCount h.0 ∙ ap (λ n. Err (refusal.WrongCount n)) (sym h.1)
  resolution-stop refusal.OutOfMemory h spent = absurd (spent refl)

  -- the same of a result that passes the refusal on
  pub resolution-passed : {A : Type 0} (r : Result A ScopeStop) (given stop : ScopeStop) → IsErrAnd r (λ s. s ≡ given)
      → IsStop given (place_of_name (name_in x)) (step (event_of x) m) → r ≡ Err stop → stop ≢ refusal.OutOfMemory → resolution t ≡ Err stop
  resolution-passed r given stop passed h is spent =
      let p = err_from_is_err_and r passed in
      let same : given ≡ stop = sym p.2 ∙ (let e : Err p.0 ≡ Err stop = sym p.1 ∙ is in cc) in
      subst (λ s. resolution t ≡ Err s) same (resolution-stop given h (λ e. spent (sym same ∙ e)))
