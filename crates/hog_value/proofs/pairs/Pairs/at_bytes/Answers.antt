use Rattle.std.proofs.Common.{◌≡◌, ℕ, List, [], ◌∷◌, ◌++◌, Bool, true, false, Option, Some, None, take, refl, sym, ap, ◌∙◌, subst, cond}
use Rattle.std.specs.Str.{bytes_eq}
use Rattle.std.specs.Map.{lookup}
use Rattle.hog_value.proofs.Lists.{take_more_at}
use Rattle.hog_value.specs.Values.{Val}
use Rattle.hog_value.proofs.pairs.Pairs.at_bytes.Goals as goal

-- a test that fails at the first pair finds what it finds in the others
missed : (b : Bool) (v : Val) (o : Option Val) → cond b (Some v) o ≡ None → (b ≡ false) × (o ≡ None)
missed true v o e = absurd cc
missed false v o e = (refl, e)

-- one more pair that fails
lookup_push : (t : List ℕ → Bool) (ps : List (List ℕ × Val)) (k : List ℕ) (v : Val) → lookup t ps ≡ None → t k ≡ false → lookup t (ps ++ (k, v) ∷ []) ≡ None
lookup_push t [] k v none other = rw other refl
lookup_push t (p ∷ ps) k v none other =
    let first = missed (t p.0) p.1 (lookup t ps) none in
    rw first.0 (lookup_push t ps k v first.1 other)

pub loop-i-preserved : goal.loop-i-preserved
loop-i-preserved c =
    let ps = c.self.inside.map.entries in
    let k = c.in-Some.k.now in
    let v = c.in-Some.v.now in
    let more = take_more_at ps c.loop-i.i (k, v) (sym c.in-Some.ensures.entry) in
    let other : bytes_eq c.args.key.now k ≡ false =
    ap (bytes_eq c.args.key.now) (sym c.bytes.ensures.value) ∙ sym c.eq.ensures ∙ c.if-eq.false in
    subst
    (λ es. lookup (bytes_eq c.args.key.now) es ≡ None)
    (sym more)
    (lookup_push (bytes_eq c.args.key.now) (take c.loop-i.i ps) k v c.loop-i.invariant other)
