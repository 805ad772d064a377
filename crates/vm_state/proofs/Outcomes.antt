-- What holds where a call succeeds.
use Rattle.std.specs.Prelude.{Result, Ok, Err, IfOk}

pub IfOk_then : {X E : Type 0} (r : Result X E) {P Q : X → Type 0} → IfOk r P → ((x : X) → P x → Q x) → IfOk r Q
IfOk_then (Ok x) h f = f x h
IfOk_then (Err e) h f = tt

pub IfOk_two : {X E : Type 0} (r : Result X E) {P Q R : X → Type 0} → IfOk r P → IfOk r Q → ((x : X) → P x → Q x → R x) → IfOk r R
IfOk_two (Ok x) h k f = f x h k
IfOk_two (Err e) h k f = tt
