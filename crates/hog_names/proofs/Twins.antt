-- Two runs beside each other, of a program and of the program with its variables called anew: the same world twice, but for
-- what its functions are. What comes of two evaluations is alike where both give the same, in such worlds.
use Rattle.std.proofs.Common.{◌≡◌, ℕ, ◌+◌, List, length, Bool, true, false, Result, Ok, Err, refl, ap, ◌∙◌}
use Rattle.std.specs.Prelude.{if◌then◌else◌, nat_lt}
use Rattle.hog_value.specs.declared.value.Kind.{Kind}
use Rattle.hog_value.specs.declared.trace.TraceItem.{TraceItem}
use Rattle.hog_value.specs.Values.{Val}
use Rattle.hog_value.specs.Meters.{max_turns}
use Rattle.hog_value.specs.Cells.{HeapOf, heap_map}
use Rattle.hog_value.specs.Operations as op
use Rattle.hog_value.specs.Operations.{Outcome, outcome_map}
use Rattle.hog_library.specs.Cells.{thrown}
use Rattle.hog_library.proofs.Naturality.{thrown-heap_map}
use Rattle.hog_captures.specs.Frees.{without_all, body_frees}
use Rattle.hog_meaning.specs.World.{Env, Closure, Reply, World, Limit, Got, Gives, Throws, Waits, Spends, and_then, Flow, GoesOn, Returns, throw_made, thrown_as, throws, of_result, of_outcome, with_turn}
use Rattle.hog_meaning.specs.Meaning.{leave, on_flow, catch, of_body, fall}
use Rattle.hog_names.specs.Anew.{Naming}
use Rattle.hog_names.specs.Numbers.{with_numbers}
use Rattle.hog_names.proofs.Within.{names_in, body_in}
use Rattle.hog_names.proofs.Sights.{Here, Alike}

module _ (call : Naming) where
  -- a function, and the same with its variables called anew
  pub record Twin : Type 0 where
    pub old : Closure
    pub new : Closure
    pub sight : Env
    pub next : ℕ
    pub params : new.params ≡ names_in call next old.params
    pub body : new.body ≡ body_in call (with_numbers old.params next sight) (next + length old.params) old.body
    pub env : Alike call sight old.env new.env
    pub here : Here call sight next (without_all old.params (body_frees old.body))

  abbrev pub older : Twin → Closure
  older t = t.old

  abbrev pub newer : Twin → Closure
  newer t = t.new

  -- both worlds
  pub record Worlds : Type 0 where
    pub heap : HeapOf Twin
    pub store : List Val
    pub turns : ℕ
    pub units : ℕ
    pub trace : List TraceItem
    pub replies : List Reply

  abbrev pub old_world : Worlds → World
  old_world W = record { heap = heap_map older W.heap; store = W.store; turns = W.turns; units = W.units; trace = W.trace; replies = W.replies }

  abbrev pub new_world : Worlds → World
  new_world W = record { heap = heap_map newer W.heap; store = W.store; turns = W.turns; units = W.units; trace = W.trace; replies = W.replies }

  -- what both evaluations give, where X is what is known of both results
  pub data Both (X : Type 0) : Type 0 where
    BothGive : X → Worlds → Both X
    BothThrow : Val → Worlds → Both X
    BothWait : Worlds → Both X
    BothSpend : Limit → Worlds → Both X

  abbrev pub old_got : {X A : Type 0} → (X → A) → Both X → Got A
  old_got l (BothGive x W) = Gives (l x) (old_world W)
  old_got l (BothThrow v W) = Throws v (old_world W)
  old_got l (BothWait W) = Waits (old_world W)
  old_got l (BothSpend limit W) = Spends limit (old_world W)

  abbrev pub new_got : {X A : Type 0} → (X → A) → Both X → Got A
  new_got r (BothGive x W) = Gives (r x) (new_world W)
  new_got r (BothThrow v W) = Throws v (new_world W)
  new_got r (BothWait W) = Waits (new_world W)
  new_got r (BothSpend limit W) = Spends limit (new_world W)

  pub record Pair {X A : Type 0} (l r : X → A) (o o' : Got A) : Type 0 where
    pub both : Both X
    pub old : o ≡ old_got l both
    pub new : o' ≡ new_got r both

  -- the same result
  abbrev pub same : {A : Type 0} → A → A
  same a = a

  pub give : {X A : Type 0} {l r : X → A} (x : X) (W : Worlds) → Pair l r (Gives (l x) (old_world W)) (Gives (r x) (new_world W))
  give x W = record { both = BothGive x W; old = refl; new = refl }

  pub throw : {X A : Type 0} {l r : X → A} (v : Val) (W : Worlds) → Pair l r (Throws v (old_world W)) (Throws v (new_world W))
  throw v W = record { both = BothThrow v W; old = refl; new = refl }

  pub wait : {X A : Type 0} {l r : X → A} (W : Worlds) → Pair l r (Waits (old_world W)) (Waits (new_world W))
  wait W = record { both = BothWait W; old = refl; new = refl }

  pub spend : {X A : Type 0} {l r : X → A} (limit : Limit) (W : Worlds) → Pair l r (Spends limit (old_world W)) (Spends limit (new_world W))
  spend limit W = record { both = BothSpend limit W; old = refl; new = refl }

  -- the same evaluations in other words
  pub pair_so : {X A : Type 0} {l r : X → A} {o o' q q' : Got A} → o ≡ q → o' ≡ q' → Pair l r q q' → Pair l r o o'
  pair_so e e' p = record { both = p.both; old = e ∙ p.old; new = e' ∙ p.new }

  -- one after another
  pub then_pair : {X A Y B : Type 0} {l r : X → A} {m s : Y → B} {o o' : Got A} (go go' : A → World → Got B) → Pair l r o o'
      → ((x : X) (W : Worlds) → Pair m s (go (l x) (old_world W)) (go' (r x) (new_world W))) → Pair m s (and_then o go) (and_then o' go')
  then_pair {X = X} {l = l} {r = r} {m = m} {s = s} {o = o} {o' = o'} go go' p k = by p.both p.old p.new
    where
      by : (b : Both X) → o ≡ old_got l b → o' ≡ new_got r b → Pair m s (and_then o go) (and_then o' go')
      by (BothGive x W) e e' = pair_so (ap (λ z. and_then z go) e) (ap (λ z. and_then z go') e') (k x W)
      by (BothThrow v W) e e' = pair_so (ap (λ z. and_then z go) e) (ap (λ z. and_then z go') e') (throw v W)
      by (BothWait W) e e' = pair_so (ap (λ z. and_then z go) e) (ap (λ z. and_then z go') e') (wait W)
      by (BothSpend limit W) e e' = pair_so (ap (λ z. and_then z go) e) (ap (λ z. and_then z go') e') (spend limit W)

  -- a choice, by the same test in both
  pub choice : {X A : Type 0} {l r : X → A} (b : Bool) {c c' : Bool} {x y x' y' : Got A} → c ≡ b → c' ≡ b → Pair l r x x' → Pair l r y y'
      → Pair l r (if c then x else y) (if c' then x' else y')
  choice {l = l} {r = r} b {x = x} {y = y} {x' = x'} {y' = y'} e e' p q = pair_so (ap (λ z. if z then x else y) e) (ap (λ z. if z then x' else y') e') (by b)
    where
      by : (b : Bool) → Pair l r (if b then x else y) (if b then x' else y')
      by true = p
      by false = q

  -- throws, results and outcomes
  made_pair : {X A : Type 0} {l r : X → A} (o : Outcome Twin Val) (W : Worlds)
      → Pair l r (thrown_as (throw_made (old_world W) (outcome_map older o))) (thrown_as (throw_made (new_world W) (outcome_map newer o)))
  made_pair (op.Gives v h units) W = throw v (record W { heap = h; units = units })
  made_pair (op.Throws kind) W = spend _ W
  made_pair op.Spends W = spend _ W

  pub throws_pair : {X A : Type 0} {l r : X → A} (kind : Kind) (W : Worlds) → Pair l r (throws kind (old_world W)) (throws kind (new_world W))
  unfolding throws
  throws_pair kind W =
      pair_so (ap (λ o. thrown_as (throw_made (old_world W) o)) (thrown-heap_map older kind W.heap W.units)) (ap (λ o. thrown_as (throw_made (new_world W) o)) (thrown-heap_map newer kind W.heap W.units))
      (made_pair (thrown kind W.heap W.units) W)

  pub result_pair : {A : Type 0} (res : Result A Kind) {old new : Result A Kind} (W : Worlds) → old ≡ res → new ≡ res → Pair {X = A} same same (of_result old (old_world W)) (of_result new (new_world W))
  result_pair {A} res W e e' = pair_so (ap (λ z. of_result z (old_world W)) e) (ap (λ z. of_result z (new_world W)) e') (by res)
    where
      by : (res : Result A Kind) → Pair {X = A} same same (of_result res (old_world W)) (of_result res (new_world W))
      by (Ok a) = give a W
      by (Err kind) = throws_pair kind W

  pub outcome_pair : {A : Type 0} (o : Outcome Twin A) {old new : Outcome Closure A} (W : Worlds) → old ≡ outcome_map older o → new ≡ outcome_map newer o
      → Pair {X = A} same same (of_outcome old (old_world W)) (of_outcome new (new_world W))
  outcome_pair {A} o W e e' = pair_so (ap (λ z. of_outcome z (old_world W)) e) (ap (λ z. of_outcome z (new_world W)) e') (by o)
    where
      by : (o : Outcome Twin A) → Pair {X = A} same same (of_outcome (outcome_map older o) (old_world W)) (of_outcome (outcome_map newer o) (new_world W))
      by (op.Gives a h units) = give a (record W { heap = h; units = units })
      by (op.Throws kind) = throws_pair kind W
      by op.Spends = spend _ W

  -- a turn
  pub turn_pair : {X A : Type 0} {l r : X → A} (W : Worlds) (go go' : World → Got A) → ((V : Worlds) → Pair l r (go (old_world V)) (go' (new_world V))) → Pair l r (with_turn (old_world W) go) (with_turn (new_world W) go')
  turn_pair W go go' k = choice (nat_lt W.turns max_turns) refl refl (k (record W { turns = W.turns + 1 })) (spend _ W)

  -- how both statements end
  pub data Flows (σ : Env) : Type 0 where
    BothGoOn : (ρ ρ' : Env) → Alike call σ ρ ρ' → Flows σ
    BothReturn : Val → Flows σ

  abbrev pub old_flow : {σ : Env} → Flows σ → Flow
  old_flow (BothGoOn ρ ρ' a) = GoesOn ρ
  old_flow (BothReturn v) = Returns v

  abbrev pub new_flow : {σ : Env} → Flows σ → Flow
  new_flow (BothGoOn ρ ρ' a) = GoesOn ρ'
  new_flow (BothReturn v) = Returns v

  -- the evaluations of two statements, after which these names are in sight
  abbrev pub Ends : Env → Got Flow → Got Flow → Type 0
  Ends σ o o' = Pair (old_flow {σ = σ}) (new_flow {σ = σ}) o o'

  abbrev pub SameValue : {A : Type 0} → Got A → Got A → Type 0
  SameValue {A} o o' = Pair {X = A} {A = A} same same o o'

  pub go_on : {σ : Env} (ρ ρ' : Env) → Alike call σ ρ ρ' → (W : Worlds) → Ends σ (Gives (GoesOn ρ) (old_world W)) (Gives (GoesOn ρ') (new_world W))
  go_on ρ ρ' a W = give (BothGoOn ρ ρ' a) W

  pub flow_pair : {σ τ : Env} (f : Flows σ) (W : Worlds) (go go' : Env → World → Got Flow) → ((ρ ρ' : Env) → Alike call σ ρ ρ' → Ends τ (go ρ (old_world W)) (go' ρ' (new_world W)))
      → Ends τ (on_flow (old_flow f) (old_world W) go) (on_flow (new_flow f) (new_world W) go')
  flow_pair (BothGoOn ρ ρ' a) W go go' k = k ρ ρ' a
  flow_pair (BothReturn v) W go go' k = give (BothReturn v) W

  -- how both statements end, where what is in sight then isn't asked for
  pub data Leavings : Type 0 where
    BothLeave : Env → Env → Leavings
    BothLeaveWith : Val → Leavings

  abbrev pub old_leaving : Leavings → Flow
  old_leaving (BothLeave ρ ρ') = GoesOn ρ
  old_leaving (BothLeaveWith v) = Returns v

  abbrev pub new_leaving : Leavings → Flow
  new_leaving (BothLeave ρ ρ') = GoesOn ρ'
  new_leaving (BothLeaveWith v) = Returns v

  abbrev pub Leaves : Got Flow → Got Flow → Type 0
  Leaves o o' = Pair old_leaving new_leaving o o'

  pub leaves : {σ : Env} {o o' : Got Flow} → Ends σ o o' → Leaves o o'
  leaves {σ} {o} {o'} p = by p.both p.old p.new
    where
      by : (b : Both (Flows σ)) → o ≡ old_got old_flow b → o' ≡ new_got new_flow b → Leaves o o'
      by (BothGive (BothGoOn ρ ρ' a) W) e e' = pair_so e e' (give (BothLeave ρ ρ') W)
      by (BothGive (BothReturn v) W) e e' = pair_so e e' (give (BothLeaveWith v) W)
      by (BothThrow v W) e e' = pair_so e e' (throw v W)
      by (BothWait W) e e' = pair_so e e' (wait W)
      by (BothSpend limit W) e e' = pair_so e e' (spend limit W)

  pub flow_leaves : {σ : Env} (f : Flows σ) (W : Worlds) (go go' : Env → World → Got Flow) → ((ρ ρ' : Env) → Alike call σ ρ ρ' → Leaves (go ρ (old_world W)) (go' ρ' (new_world W)))
      → Leaves (on_flow (old_flow f) (old_world W) go) (on_flow (new_flow f) (new_world W) go')
  flow_leaves (BothGoOn ρ ρ' a) W go go' k = k ρ ρ' a
  flow_leaves (BothReturn v) W go go' k = give (BothLeaveWith v) W

  pub leave_pair : {τ : Env} (ρ ρ' : Env) → Alike call τ ρ ρ' → (f : Leavings) (W : Worlds) → Ends τ (leave ρ (old_leaving f) (old_world W)) (leave ρ' (new_leaving f) (new_world W))
  leave_pair ρ ρ' a (BothLeave inner inner') W = give (BothGoOn ρ ρ' a) W
  leave_pair ρ ρ' a (BothLeaveWith v) W = give (BothReturn v) W

  pub of_body_pair : {σ : Env} (f : Flows σ) (W : Worlds) → SameValue (of_body (old_flow f) (old_world W)) (of_body (new_flow f) (new_world W))
  of_body_pair (BothGoOn ρ ρ' a) W = give _ W
  of_body_pair (BothReturn v) W = give v W

  pub fall_pair : {τ : Env} (f : Leavings) (W : Worlds) → Ends τ (fall (old_leaving f) (old_world W)) (fall (new_leaving f) (new_world W))
  fall_pair (BothLeave ρ ρ') W = give (BothReturn _) W
  fall_pair (BothLeaveWith v) W = give (BothReturn v) W

  pub catch_pair : {σ : Env} {o o' : Got Flow} (go go' : Val → World → Got Flow) → Ends σ o o' → ((v : Val) (W : Worlds) → Ends σ (go v (old_world W)) (go' v (new_world W))) → Ends σ (catch o go) (catch o' go')
  catch_pair {σ} {o} {o'} go go' p k = by p.both p.old p.new
    where
      by : (b : Both (Flows σ)) → o ≡ old_got old_flow b → o' ≡ new_got new_flow b → Ends σ (catch o go) (catch o' go')
      by (BothGive f W) e e' = pair_so (ap (λ z. catch z go) e) (ap (λ z. catch z go') e') (give f W)
      by (BothThrow v W) e e' = pair_so (ap (λ z. catch z go) e) (ap (λ z. catch z go') e') (k v W)
      by (BothWait W) e e' = pair_so (ap (λ z. catch z go) e) (ap (λ z. catch z go') e') (wait W)
      by (BothSpend limit W) e e' = pair_so (ap (λ z. catch z go) e) (ap (λ z. catch z go') e') (spend limit W)
