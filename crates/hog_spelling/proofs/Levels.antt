-- Operators, their tokens and their levels.
use Rattle.std.proofs.Common.{◌≡◌, ◌≢◌, ℕ, ◌≤◌, List, [], ◌∷◌, ◌++◌, Some, refl, ap, arith}
use Rattle.hog_tree.specs.declared.tree.BinaryOp.{BinaryOp}
use Rattle.hog_tree.specs.declared.tree.BinaryOp.TheVariants as o
use Rattle.hog_tree.specs.Plain.{Exp}
use Rattle.hog_grammar.specs.Terminal.{Terminal}
use Rattle.hog_grammar.specs.Terminal as k
use Rattle.hog_grammar.specs.Spelling.{level_of, tokens_of}
use Rattle.hog_terms.specs.Marks.{operator, lead}
use Rattle.hog_reading.specs.Read.{Readers, step, binary}

pub operator_of : (op : BinaryOp) (ts : List Terminal) → operator (tokens_of op ++ ts) ≡ Some (op, ts)
operator_of o.Or ts = refl
operator_of o.And ts = refl
operator_of o.Equal ts = refl
operator_of o.NotEqual ts = refl
operator_of o.Less ts = refl
operator_of o.LessEqual ts = refl
operator_of o.Greater ts = refl
operator_of o.GreaterEqual ts = refl
operator_of o.IsIn ts = refl
operator_of o.NotIn ts = refl
operator_of o.Plus ts = refl
operator_of o.Minus ts = refl
operator_of o.Times ts = refl

pub lead_of : (op : BinaryOp) (ts : List Terminal) → lead (tokens_of op ++ ts) ≡ level_of op
lead_of o.Or ts = refl
lead_of o.And ts = refl
lead_of o.Equal ts = refl
lead_of o.NotEqual ts = refl
lead_of o.Less ts = refl
lead_of o.LessEqual ts = refl
lead_of o.Greater ts = refl
lead_of o.GreaterEqual ts = refl
lead_of o.IsIn ts = refl
lead_of o.NotIn ts = refl
lead_of o.Plus ts = refl
lead_of o.Minus ts = refl
lead_of o.Times ts = refl

pub step_operator : (again : Readers) (e : Exp) (h : ℕ) (op : BinaryOp) (ts : List Terminal) → step again e h (tokens_of op ++ ts) ≡ binary again e h (op, ts)
unfolding step
step_operator again e h o.Or ts = refl
step_operator again e h o.And ts = refl
step_operator again e h o.Equal ts = refl
step_operator again e h o.NotEqual ts = refl
step_operator again e h o.Less ts = refl
step_operator again e h o.LessEqual ts = refl
step_operator again e h o.Greater ts = refl
step_operator again e h o.GreaterEqual ts = refl
step_operator again e h o.IsIn ts = refl
step_operator again e h o.NotIn ts = refl
step_operator again e h o.Plus ts = refl
step_operator again e h o.Minus ts = refl
step_operator again e h o.Times ts = refl

pub level_at_least : (op : BinaryOp) → (2 ≤ level_of op) × (level_of op ≤ 8)
level_at_least o.Or = (omega arith, omega arith)
level_at_least o.And = (omega arith, omega arith)
level_at_least o.Equal = (omega arith, omega arith)
level_at_least o.NotEqual = (omega arith, omega arith)
level_at_least o.Less = (omega arith, omega arith)
level_at_least o.LessEqual = (omega arith, omega arith)
level_at_least o.Greater = (omega arith, omega arith)
level_at_least o.GreaterEqual = (omega arith, omega arith)
level_at_least o.IsIn = (omega arith, omega arith)
level_at_least o.NotIn = (omega arith, omega arith)
level_at_least o.Plus = (omega arith, omega arith)
level_at_least o.Minus = (omega arith, omega arith)
level_at_least o.Times = (omega arith, omega arith)

pub is_operator : (ts : List Terminal) (p : BinaryOp × List Terminal) → operator ts ≡ Some p → ts ≡ tokens_of p.0 ++ p.1
is_operator (k.Or ∷ ts) p e = let q : (o.Or, ts) ≡ p = cc in ap (λ (r : BinaryOp × List Terminal). tokens_of r.0 ++ r.1) q
is_operator (k.And ∷ ts) p e = let q : (o.And, ts) ≡ p = cc in ap (λ (r : BinaryOp × List Terminal). tokens_of r.0 ++ r.1) q
is_operator (k.Equal ∷ ts) p e = let q : (o.Equal, ts) ≡ p = cc in ap (λ (r : BinaryOp × List Terminal). tokens_of r.0 ++ r.1) q
is_operator (k.NotEqual ∷ ts) p e = let q : (o.NotEqual, ts) ≡ p = cc in ap (λ (r : BinaryOp × List Terminal). tokens_of r.0 ++ r.1) q
is_operator (k.Less ∷ ts) p e = let q : (o.Less, ts) ≡ p = cc in ap (λ (r : BinaryOp × List Terminal). tokens_of r.0 ++ r.1) q
is_operator (k.LessEqual ∷ ts) p e = let q : (o.LessEqual, ts) ≡ p = cc in ap (λ (r : BinaryOp × List Terminal). tokens_of r.0 ++ r.1) q
is_operator (k.Greater ∷ ts) p e = let q : (o.Greater, ts) ≡ p = cc in ap (λ (r : BinaryOp × List Terminal). tokens_of r.0 ++ r.1) q
is_operator (k.GreaterEqual ∷ ts) p e = let q : (o.GreaterEqual, ts) ≡ p = cc in ap (λ (r : BinaryOp × List Terminal). tokens_of r.0 ++ r.1) q
is_operator (k.In ∷ ts) p e = let q : (o.IsIn, ts) ≡ p = cc in ap (λ (r : BinaryOp × List Terminal). tokens_of r.0 ++ r.1) q
is_operator (k.Not ∷ k.In ∷ ts) p e = let q : (o.NotIn, ts) ≡ p = cc in ap (λ (r : BinaryOp × List Terminal). tokens_of r.0 ++ r.1) q
is_operator (k.Plus ∷ ts) p e = let q : (o.Plus, ts) ≡ p = cc in ap (λ (r : BinaryOp × List Terminal). tokens_of r.0 ++ r.1) q
is_operator (k.Minus ∷ ts) p e = let q : (o.Minus, ts) ≡ p = cc in ap (λ (r : BinaryOp × List Terminal). tokens_of r.0 ++ r.1) q
is_operator (k.Star ∷ ts) p e = let q : (o.Times, ts) ≡ p = cc in ap (λ (r : BinaryOp × List Terminal). tokens_of r.0 ++ r.1) q
is_operator [] p e = absurd (cc)
is_operator (k.Not ∷ []) p e = absurd (cc)
is_operator (k.Not ∷ _ ∷ ts) p e = absurd (cc)
is_operator (_ ∷ ts) p e = absurd (cc)

-- no operator stands at the level of a prefix, or of an arrow
pub prefix_levels : (ts : List Terminal) → (lead ts ≢ 9) × (lead ts ≢ 4) × (lead ts ≢ 1)
prefix_levels (k.Or ∷ ts) = (λ e. omega (arith, e), λ e. omega (arith, e), λ e. omega (arith, e))
prefix_levels (k.And ∷ ts) = (λ e. omega (arith, e), λ e. omega (arith, e), λ e. omega (arith, e))
prefix_levels (k.Coalesce ∷ ts) = (λ e. omega (arith, e), λ e. omega (arith, e), λ e. omega (arith, e))
prefix_levels (k.Equal ∷ ts) = (λ e. omega (arith, e), λ e. omega (arith, e), λ e. omega (arith, e))
prefix_levels (k.NotEqual ∷ ts) = (λ e. omega (arith, e), λ e. omega (arith, e), λ e. omega (arith, e))
prefix_levels (k.Less ∷ ts) = (λ e. omega (arith, e), λ e. omega (arith, e), λ e. omega (arith, e))
prefix_levels (k.LessEqual ∷ ts) = (λ e. omega (arith, e), λ e. omega (arith, e), λ e. omega (arith, e))
prefix_levels (k.Greater ∷ ts) = (λ e. omega (arith, e), λ e. omega (arith, e), λ e. omega (arith, e))
prefix_levels (k.GreaterEqual ∷ ts) = (λ e. omega (arith, e), λ e. omega (arith, e), λ e. omega (arith, e))
prefix_levels (k.In ∷ ts) = (λ e. omega (arith, e), λ e. omega (arith, e), λ e. omega (arith, e))
prefix_levels (k.Not ∷ k.In ∷ ts) = (λ e. omega (arith, e), λ e. omega (arith, e), λ e. omega (arith, e))
prefix_levels (k.Plus ∷ ts) = (λ e. omega (arith, e), λ e. omega (arith, e), λ e. omega (arith, e))
prefix_levels (k.Minus ∷ ts) = (λ e. omega (arith, e), λ e. omega (arith, e), λ e. omega (arith, e))
prefix_levels (k.Star ∷ ts) = (λ e. omega (arith, e), λ e. omega (arith, e), λ e. omega (arith, e))
prefix_levels (k.Dot ∷ ts) = (λ e. omega (arith, e), λ e. omega (arith, e), λ e. omega (arith, e))
prefix_levels (k.NullishDot ∷ ts) = (λ e. omega (arith, e), λ e. omega (arith, e), λ e. omega (arith, e))
prefix_levels (k.OpenBracket ∷ ts) = (λ e. omega (arith, e), λ e. omega (arith, e), λ e. omega (arith, e))
prefix_levels (k.Open ∷ ts) = (λ e. omega (arith, e), λ e. omega (arith, e), λ e. omega (arith, e))
prefix_levels (k.Arrow ∷ ts) = (λ e. omega (arith, e), λ e. omega (arith, e), λ e. omega (arith, e))
prefix_levels [] = (λ e. omega (arith, e), λ e. omega (arith, e), λ e. omega (arith, e))
prefix_levels (k.Not ∷ []) = (λ e. omega (arith, e), λ e. omega (arith, e), λ e. omega (arith, e))
prefix_levels (k.Not ∷ _ ∷ ts) = (λ e. omega (arith, e), λ e. omega (arith, e), λ e. omega (arith, e))
prefix_levels (_ ∷ ts) = (λ e. omega (arith, e), λ e. omega (arith, e), λ e. omega (arith, e))
