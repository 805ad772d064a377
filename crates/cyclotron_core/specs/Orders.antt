-- The orders in which jobs stand in their lists, by their rows.
use Rattle.std.specs.Prelude.{ℕ, pos, ◌≡◌, ◌<◌, Bool, true, false, refl, List, Option, Some, None, slice_get}
use Rattle.std.specs.Ordering.{nat_cmp, is_lt, ordering_then, ordering_reverse, MatchOrdering}
use Rattle.std.specs.declared.cmp.Ordering.{Ordering}
use Rattle.std.specs.declared.cmp.Ordering.TheVariants.{Less, Equal, Greater}
use Rattle.std.specs.Cmp.{IsTotalOrder}
use Rattle.std.proofs.Common.{◌∙◌, ap, subst, sym}
use Rattle.std.proofs.lemmas.Cmp.{ranked}
use Rattle.index_lists.specs.Order.{IsStrictOrder}
use Rattle.cyclotron_jobs.specs.declared.row.Row.{Row}
use Rattle.queue_history.specs.declared.turn.Turn.{Turn}
use Rattle.queue_history.specs.declared.turn.Silence.{Silence}
use Rattle.queue_history.specs.Due.{turn_cmp, silence_cmp}
use Rattle.queue_history.proofs.First.{turn_total, silence_total}

-- the turn and the silence of a job by its row; a job without a row gets one too, so that the orders are of all numbers
abbrev pub turn_in : ℕ → Option Row → Turn
turn_in job None = record { priority = pos 0; moment = 0; job = job }
turn_in job (Some row) = record { priority = row.priority; moment = row.scheduled; job = job }

abbrev pub silence_in : ℕ → Option Row → Silence
silence_in job None = record { beat = 0; job = job }
silence_in job (Some row) = record { beat = row.beat; job = job }

-- a job comes before another by its turn, or by its silence
abbrev pub by_turn : List Row → ℕ → ℕ → Bool
by_turn rows a b = is_lt (turn_cmp (turn_in a (slice_get rows a)) (turn_in b (slice_get rows b)))

abbrev pub by_silence : List Row → ℕ → ℕ → Bool
by_silence rows a b = is_lt (silence_cmp (silence_in a (slice_get rows a)) (silence_in b (slice_get rows b)))

pub is_lt-Less : (o : Ordering) → is_lt o ≡ true → o ≡ Less
is_lt-Less Less e = refl
is_lt-Less Equal e = absurd cc
is_lt-Less Greater e = absurd cc

reversed : (o : Ordering) → o ≡ Less → is_lt (ordering_reverse o) ≡ false
reversed Less e = refl
reversed Equal e = absurd cc
reversed Greater e = absurd cc

later : (o : Ordering) → (o ≡ Equal → ⊥) → is_lt o ≡ false → is_lt (ordering_reverse o) ≡ true
later Less apart e = absurd cc
later Equal apart e = absurd (apart refl)
later Greater apart e = refl

then-equal : (o p : Ordering) → ordering_then o p ≡ Equal → p ≡ Equal
then-equal Less p e = absurd cc
then-equal Equal p e = e
then-equal Greater p e = absurd cc

nat_cmp-equal : (m n : ℕ) → nat_cmp m n ≡ Equal → m ≡ n
nat_cmp-equal m n e = subst (λ (o : Ordering). MatchOrdering o (m < n) (m ≡ n) (n < m)) e (ranked m n (nat_cmp m n) refl)

-- an order by keys, no two of which are equal, is strict and total
by_key-strict : {T : Type 0} (cmp : T → T → Ordering) → IsTotalOrder cmp → (key : ℕ → T) → ((a b : ℕ) → cmp (key a) (key b) ≡ Equal → a ≡ b) → IsStrictOrder (λ a b. is_lt (cmp (key a) (key b)))
by_key-strict cmp total key same = record {
  apart = λ a b e. ap is_lt (total.antisymm (key b) (key a)) ∙ reversed (cmp (key a) (key b)) (is_lt-Less (cmp (key a) (key b)) e);
  goes = λ a b c e f. ap is_lt (total.trans (key a) (key b) (key c) (is_lt-Less (cmp (key a) (key b)) e) (is_lt-Less (cmp (key b) (key c)) f));
  total = λ a b apart e. ap is_lt (total.antisymm (key b) (key a)) ∙ later (cmp (key a) (key b)) (λ equal. apart (same a b equal)) e;
}

turn_in-job : (k : ℕ) (o : Option Row) → (turn_in k o).job ≡ k
turn_in-job k None = refl
turn_in-job k (Some row) = refl

silence_in-job : (k : ℕ) (o : Option Row) → (silence_in k o).job ≡ k
silence_in-job k None = refl
silence_in-job k (Some row) = refl

turns_differ : (rows : List Row) (a b : ℕ) → turn_cmp (turn_in a (slice_get rows a)) (turn_in b (slice_get rows b)) ≡ Equal → a ≡ b
turns_differ rows a b e = sym (turn_in-job a (slice_get rows a)) ∙ (nat_cmp-equal _ _ (then-equal _ _ (then-equal _ _ e)) ∙ turn_in-job b (slice_get rows b))

silences_differ : (rows : List Row) (a b : ℕ) → silence_cmp (silence_in a (slice_get rows a)) (silence_in b (slice_get rows b)) ≡ Equal → a ≡ b
silences_differ rows a b e = sym (silence_in-job a (slice_get rows a)) ∙ (nat_cmp-equal _ _ (then-equal _ _ e) ∙ silence_in-job b (slice_get rows b))

pub by_turn-strict : (rows : List Row) → IsStrictOrder (by_turn rows)
by_turn-strict rows = by_key-strict turn_cmp turn_total (λ k. turn_in k (slice_get rows k)) (turns_differ rows)

pub by_silence-strict : (rows : List Row) → IsStrictOrder (by_silence rows)
by_silence-strict rows = by_key-strict silence_cmp silence_total (λ k. silence_in k (slice_get rows k)) (silences_differ rows)
