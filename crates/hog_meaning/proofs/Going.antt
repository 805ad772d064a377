-- What comes of an evaluation with more replies: the same with them left over, or after a wait whatever goes on from its trace.
-- The steps that evaluations are made of keep it.
use Rattle.std.proofs.Common.{◌≡◌, ◌+◌, List, [], ◌++◌, Bool, true, false, Result, Ok, Err, refl, sym, ap, ◌∙◌, subst, append_assoc, append-nil}
use Rattle.std.specs.Prelude.{if◌then◌else◌, nat_lt}
use Rattle.hog_value.specs.declared.value.Kind.{Kind}
use Rattle.hog_value.specs.declared.trace.TraceItem.{TraceItem}
use Rattle.hog_value.specs.Values.{Val}
use Rattle.hog_value.specs.Meters.{max_turns}
use Rattle.hog_value.specs.Operations as op
use Rattle.hog_value.specs.Operations.{Outcome}
use Rattle.hog_library.specs.Cells.{thrown}
use Rattle.hog_meaning.specs.Meaning.{leave, on_flow, catch, of_body, fall}
use Rattle.hog_meaning.specs.World.{Env, Closure, Reply, World, Got, Gives, Throws, Waits, Spends, and_then, Flow, GoesOn, Returns, throw_made, thrown_as, throws, of_result, of_outcome, with_turn}

-- the world with more replies left
abbrev pub longer : List Reply → World → World
longer rs w = record w { replies = w.replies ++ rs }

abbrev pub trace_of : {A : Type 0} → Got A → List TraceItem
trace_of (Gives a w) = w.trace
trace_of (Throws v w) = w.trace
trace_of (Waits w) = w.trace
trace_of (Spends limit w) = w.trace

-- the trace goes on from this one
pub record From {A : Type 0} (t : List TraceItem) (o : Got A) : Type 0 where
  pub more : List TraceItem
  pub is : trace_of o ≡ t ++ more

-- the same with more replies left, or after a wait whatever goes on from its trace
abbrev pub Extended : {A : Type 0} → List Reply → Got A → Got A → Type 0
Extended rs (Gives a w) o = o ≡ Gives a (longer rs w)
Extended rs (Throws v w) o = o ≡ Throws v (longer rs w)
Extended rs (Waits w) o = From w.trace o
Extended rs (Spends limit w) o = o ≡ Spends limit (longer rs w)

-- an outcome whose trace goes on from t, and that with more replies
pub record Goes {A : Type 0} (rs : List Reply) (t : List TraceItem) (o o' : Got A) : Type 0 where
  pub from : From t o
  pub is : Extended rs o o'

-- where the trace is the same
pub stays : {A : Type 0} {rs : List Reply} {t : List TraceItem} {o o' : Got A} → trace_of o ≡ t → Extended rs o o' → Goes rs t o o'
stays {A} {rs} {t} e is = record { from = record { more = []; is = e ∙ sym (append-nil t) }; is = is }

-- where the trace has gone on before
pub after : {A : Type 0} {rs : List Reply} {t : List TraceItem} {o o' : Got A} (more : List TraceItem) → Goes rs (t ++ more) o o' → Goes rs t o o'
after {A} {rs} {t} more g = record { from = record { more = more ++ g.from.more; is = g.from.is ∙ append_assoc t more g.from.more }; is = g.is }

-- one after another
joined : {A : Type 0} {t : List TraceItem} (w : World) (o : Got A) (more : List TraceItem) → w.trace ≡ t ++ more → From w.trace o → From t o
joined {A} {t} w o more e g = record { more = more ++ g.more; is = g.is ∙ ap (λ x. x ++ g.more) e ∙ append_assoc t more g.more }

then_from : {A B : Type 0} {t : List TraceItem} (o : Got A) (go : A → World → Got B) → From t o → ((a : A) (w : World) → From w.trace (go a w)) → From t (and_then o go)
then_from (Gives a w) go f k = joined w (go a w) f.more f.is (k a w)
then_from (Throws v w) go f k = record { more = f.more; is = f.is }
then_from (Waits w) go f k = record { more = f.more; is = f.is }
then_from (Spends limit w) go f k = record { more = f.more; is = f.is }

then_extended : {A B : Type 0} (rs : List Reply) (o o' : Got A) (go : A → World → Got B) → Extended rs o o' → ((a : A) (w : World) → Goes rs w.trace (go a w) (go a (longer rs w))) → Extended rs (and_then o go) (and_then o' go)
then_extended rs (Gives a w) o' go e k = subst (λ z. Extended rs (go a w) (and_then z go)) (sym e) (k a w).is
then_extended rs (Throws v w) o' go e k = ap (λ z. and_then z go) e
then_extended rs (Waits w) o' go e k = then_from o' go e (λ a w1. (k a w1).from)
then_extended rs (Spends limit w) o' go e k = ap (λ z. and_then z go) e

pub then_goes : {A B : Type 0} {rs : List Reply} {t : List TraceItem} {o o' : Got A} {go : A → World → Got B} → Goes rs t o o' → ((a : A) (w : World) → Goes rs w.trace (go a w) (go a (longer rs w))) → Goes rs t (and_then o go) (and_then o' go)
then_goes {A} {B} {rs} {t} {o} {o'} {go} g k = record { from = then_from o go g.from (λ a w. (k a w).from); is = then_extended rs o o' go g.is k }

-- a catch
catch_from : {t : List TraceItem} (o : Got Flow) (go : Val → World → Got Flow) → From t o → ((v : Val) (w : World) → From w.trace (go v w)) → From t (catch o go)
catch_from (Gives flow w) go f k = record { more = f.more; is = f.is }
catch_from (Throws v w) go f k = joined w (go v w) f.more f.is (k v w)
catch_from (Waits w) go f k = record { more = f.more; is = f.is }
catch_from (Spends limit w) go f k = record { more = f.more; is = f.is }

catch_extended : (rs : List Reply) (o o' : Got Flow) (go : Val → World → Got Flow) → Extended rs o o' → ((v : Val) (w : World) → Goes rs w.trace (go v w) (go v (longer rs w))) → Extended rs (catch o go) (catch o' go)
catch_extended rs (Gives flow w) o' go e k = ap (λ z. catch z go) e
catch_extended rs (Throws v w) o' go e k = subst (λ z. Extended rs (go v w) (catch z go)) (sym e) (k v w).is
catch_extended rs (Waits w) o' go e k = catch_from o' go e (λ v w1. (k v w1).from)
catch_extended rs (Spends limit w) o' go e k = ap (λ z. catch z go) e

pub catch_goes : {rs : List Reply} {t : List TraceItem} (o o' : Got Flow) (go : Val → World → Got Flow) → Goes rs t o o' → ((v : Val) (w : World) → Goes rs w.trace (go v w) (go v (longer rs w))) → Goes rs t (catch o go) (catch o' go)
catch_goes {rs} o o' go g k = record { from = catch_from o go g.from (λ v w. (k v w).from); is = catch_extended rs o o' go g.is k }

-- a choice
pub if_goes : {A : Type 0} {rs : List Reply} {t : List TraceItem} (b : Bool) (x y x' y' : Got A) → Goes rs t x x' → Goes rs t y y' → Goes rs t (if b then x else y) (if b then x' else y')
if_goes true x y x' y' g h = g
if_goes false x y x' y' g h = h

-- flows
pub flow_goes : {rs : List Reply} (flow : Flow) (w : World) (go : Env → World → Got Flow) → ((ρ : Env) → Goes rs w.trace (go ρ w) (go ρ (longer rs w))) → Goes rs w.trace (on_flow flow w go) (on_flow flow (longer rs w) go)
flow_goes (GoesOn ρ) w go k = k ρ
flow_goes (Returns v) w go k = stays refl refl

pub leave_goes : {rs : List Reply} (ρ : Env) (flow : Flow) (w : World) → Goes rs w.trace (leave ρ flow w) (leave ρ flow (longer rs w))
leave_goes ρ (GoesOn inner) w = stays refl refl
leave_goes ρ (Returns v) w = stays refl refl

pub body_goes : {rs : List Reply} (flow : Flow) (w : World) → Goes rs w.trace (of_body flow w) (of_body flow (longer rs w))
body_goes (GoesOn ρ) w = stays refl refl
body_goes (Returns v) w = stays refl refl

pub fall_goes : {rs : List Reply} (flow : Flow) (w : World) → Goes rs w.trace (fall flow w) (fall flow (longer rs w))
fall_goes (GoesOn ρ) w = stays refl refl
fall_goes (Returns v) w = stays refl refl

-- a turn
pub turn_goes : {A : Type 0} {rs : List Reply} (w : World) (go : World → Got A) → ((w1 : World) → Goes rs w1.trace (go w1) (go (longer rs w1))) → Goes rs w.trace (with_turn w go) (with_turn (longer rs w) go)
turn_goes w go k = if_goes (nat_lt w.turns max_turns) _ _ _ _ (k (record w { turns = w.turns + 1 })) (stays refl refl)

-- throws, results and outcomes
made_goes : {A : Type 0} {rs : List Reply} (o : Outcome Closure Val) (w : World) → Goes {A = A} rs w.trace (thrown_as (throw_made w o)) (thrown_as (throw_made (longer rs w) o))
made_goes (op.Gives v h units) w = stays refl refl
made_goes (op.Throws kind) w = stays refl refl
made_goes op.Spends w = stays refl refl

pub throws_goes : {A : Type 0} {rs : List Reply} (kind : Kind) (w : World) → Goes {A = A} rs w.trace (throws kind w) (throws kind (longer rs w))
unfolding throws
throws_goes kind w = made_goes (thrown kind w.heap w.units) w

pub result_goes : {A : Type 0} {rs : List Reply} (r : Result A Kind) (w : World) → Goes rs w.trace (of_result r w) (of_result r (longer rs w))
result_goes (Ok a) w = stays refl refl
result_goes (Err kind) w = throws_goes kind w

pub outcome_goes : {A : Type 0} {rs : List Reply} (o : Outcome Closure A) (w : World) → Goes rs w.trace (of_outcome o w) (of_outcome o (longer rs w))
outcome_goes (op.Gives a h units) w = stays refl refl
outcome_goes (op.Throws kind) w = throws_goes kind w
outcome_goes op.Spends w = stays refl refl
