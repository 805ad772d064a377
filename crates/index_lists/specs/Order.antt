-- Orders of nodes.
use Rattle.std.specs.Prelude.{ℕ, ◌≡◌, ◌≢◌, ◌++◌, ◌∷◌, Bool, true, false, List, All, AllPairs, Contains}

-- a strict total order
pub record IsStrictOrder (comes : ℕ → ℕ → Bool) : Type 0 where
  pub apart : (a b : ℕ) → comes a b ≡ true → comes b a ≡ false
  pub goes : (a b c : ℕ) → comes a b ≡ true → comes b c ≡ true → comes a c ≡ true
  pub total : (a b : ℕ) → a ≢ b → comes a b ≡ false → comes b a ≡ true

-- each node comes before those behind it
abbrev pub IsInOrder : (ℕ → ℕ → Bool) → List ℕ → Type 0
IsInOrder comes nodes = AllPairs (λ a b. comes a b ≡ true) nodes

-- the node went to its place: behind all that come before it, and before all others
pub record IsPlaced (comes : ℕ → ℕ → Bool) (node : ℕ) (old new : List ℕ) : Type 0 where
  pub front : List ℕ
  pub back : List ℕ
  pub was : old ≡ front ++ back
  pub is : new ≡ front ++ node ∷ back
  pub comes_first : All (λ other. comes other node ≡ true) front
  pub comes_last : All (λ other. comes node other ≡ true) back

-- a list has just the nodes that stand there, in this order
pub record IsListOf (comes : ℕ → ℕ → Bool) (stands : ℕ → Type 0) (nodes : List ℕ) : Type 0 where
  pub only : (node : ℕ) → Contains nodes node → stands node
  pub all : (node : ℕ) → stands node → Contains nodes node
  pub in_order : IsInOrder comes nodes
