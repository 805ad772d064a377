use Rattle.std.proofs.Common.{ℕ, zero, suc, ◌≡◌, ◌≢◌, ◌+◌, ◌-◌, ◌<◌, ◌≤◌, nat_lt, length, List, [], Contains, subst, sym, ap, refl, ◌∙◌, arith}
use Rattle.std.proofs.lemmas.List.{length-set, get_or_past}
use Rattle.index_lists.specs.Lists.{ListsOf, nodes_of, put_list, IsListed}
use Rattle.index_lists.specs.Order.{IsListOf, IsPlaced}
use Rattle.index_lists.proofs.Paths.{Contains-none}
use Rattle.index_lists.proofs.ListOf.{IsListOf-none, IsListOf-other, IsListOf-placed, IsListOf-same}
use Rattle.index_lists.proofs.tests.inserts_at_both_ends_are_constant.Goals as goal

-- the nodes that were put in: so many below 50, and so many from there on
abbrev Stands : ℕ → ℕ → ℕ → Type 0
Stands below above node = (50 ≤ node + below) × (node < 50 + above)

-- a node is put in
grown : (node : ℕ) (old new : ℕ → Type 0) (was is : List ℕ) → ((n : ℕ) → n ≢ node → old n → new n) → ((n : ℕ) → n ≢ node → new n → old n) → (old node → ⊥) → new node
    → IsListOf nat_lt old was → IsPlaced nat_lt node was is → IsListOf nat_lt new is
grown node old new was is stays stood out stands of placed =
    IsListOf-placed node nat_lt new was is (IsListOf-other node nat_lt nat_lt old new was (record { stays = stays; stood = stood; comes = λ a b _ _. refl }) out of) placed stands

below : (k : ℕ) (was is : List ℕ) → k < 50 → IsListOf nat_lt (Stands k k) was → IsPlaced nat_lt (49 - k) was is → IsListOf nat_lt (Stands (k + 1) k) is
below k was is lt of placed = grown (49 - k) (Stands k k) (Stands (k + 1) k) was is (λ n apart s. (omega (arith, s.0), s.1)) (λ n apart s. let ne : n ≢ 49 - k = apart in (omega (arith, s.0), s.1)) (λ s. omega (arith, s.0)) (omega arith, omega arith) of placed

above : (k : ℕ) (was is : List ℕ) → k < 50 → IsListOf nat_lt (Stands (k + 1) k) was → IsPlaced nat_lt (50 + k) was is → IsListOf nat_lt (Stands (k + 1) (k + 1)) is
above k was is lt of placed = grown (50 + k) (Stands (k + 1) k) (Stands (k + 1) (k + 1)) was is (λ n apart s. (s.0, omega (arith, s.1))) (λ n apart s. let ne : n ≢ 50 + k = apart in (s.0, omega (arith, s.1))) (λ s. omega (arith, s.1)) (omega arith, omega arith) of placed

-- a node that wasn't
out : (of : ListsOf) (stands : ℕ → Type 0) (node : ℕ) → length of.lists ≡ 1 → IsListOf nat_lt stands (nodes_of of 0) → (stands node → ⊥) → IsListed of node → ⊥
out of stands node count is apart (zero, listed) = apart (is.only node listed)
out of stands node count is apart (suc j, listed) = Contains-none node (subst (λ (xs : List ℕ). Contains xs node) (get_or_past of.lists (suc j) [] (omega arith)) listed)

one : (old new : ListsOf) (nodes : List ℕ) → new ≡ put_list old 0 nodes → length old.lists ≡ 1 → length new.lists ≡ 1
one old new nodes put count = ap (λ (l : ListsOf). length l.lists) put ∙ (length-set old.lists 0 nodes ∙ count)

pub grows-init : goal.grows-init
grows-init g c = rw (c.in_ok-reserve.ensures.ok, c.new-lists.ensures) (record { reserved = refl; count = refl; list = IsListOf-none nat_lt (Stands 0 0) (λ k s. omega (arith, s.0, s.1)) })

pub insert_by-requires-clause-apart : goal.insert_by-requires-clause-apart
insert_by-requires-clause-apart g c = out c.grows.lists (Stands c.grows.k c.grows.k) (49 - c.grows.k) c.grows.invariant.count c.grows.invariant.list (λ s. omega (arith, s.0))

pub insert_by-requires-in-grows-clause-apart : goal.insert_by-requires-in-grows-clause-apart
insert_by-requires-in-grows-clause-apart g c = out c.insert_by.new.self (Stands (c.grows.k + 1) c.grows.k) (50 + c.grows.k) (one c.grows.lists c.insert_by.new.self _ c.insert_by.ensures.others c.grows.invariant.count)
    (below c.grows.k (nodes_of c.grows.lists 0) (nodes_of c.insert_by.new.self 0) c.grows-test.true c.grows.invariant.list c.insert_by.ensures.placed) (λ s. omega (arith, s.1))

pub grows-preserved : goal.grows-preserved
grows-preserved g c = record {
  reserved = ap (λ (l : ListsOf). l.reserved) c.insert_by-in-grows.ensures.others ∙ (ap (λ (l : ListsOf). l.reserved) c.insert_by.ensures.others ∙ c.grows.invariant.reserved);
  count = one c.insert_by.new.self c.insert_by-in-grows.new.self _ c.insert_by-in-grows.ensures.others (one c.grows.lists c.insert_by.new.self _ c.insert_by.ensures.others c.grows.invariant.count);
  list = above c.grows.k (nodes_of c.insert_by.new.self 0) (nodes_of c.insert_by-in-grows.new.self 0) c.grows-test.true
      (below c.grows.k (nodes_of c.grows.lists 0) (nodes_of c.insert_by.new.self 0) c.grows-test.true c.grows.invariant.list c.insert_by.ensures.placed) c.insert_by-in-grows.ensures.placed;
}

pub rises-init : goal.rises-init
rises-init g c = subst (λ (l : ListsOf). IsListOf nat_lt (λ node. node < 100) (nodes_of l 0)) (sym c.lists-2.view_is)
    (IsListOf-same nat_lt (Stands c.grows.k c.grows.k) (λ node. node < 100) (nodes_of c.grows.lists 0) (λ k s. omega (arith, s.1)) (λ k lt. (omega arith, omega arith)) c.grows.invariant.list)

pub next-at-requires : goal.next-at-requires
next-at-requires g c = (0, c.grows.invariant.list.all c.rises.k (omega arith, omega arith))
