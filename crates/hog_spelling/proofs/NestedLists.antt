-- Where the height is passed in a list, there were tokens enough before: each two levels of height cost a token.
use Rattle.std.proofs.Common.{◌≡◌, ℕ, zero, suc, ◌+◌, ◌*◌, ◌≤◌, Bool, true, false, List, length, Option, Some, None, Result, Ok, Err, cond, refl, ap, arith}
use Rattle.hog_tree.specs.Plain.{Done}
use Rattle.hog_grammar.specs.Terminal.{Terminal}
use Rattle.hog_grammar.specs.Forms.{ends_block}
use Rattle.hog_terms.specs.Marks.{Shut, after_close, after_close_bracket, after_close_brace, after_comma, after_semi, after_name}
use Rattle.hog_terms.specs.Listed.{closing}
use Rattle.hog_reading.specs.Read.{Fault, Syntax, TooNested, Got, got, ◌>>=◌, wants, either_way, Read, Readers, put, ended_list, others, some, listing, name, put_stm, several, closed_brace, braced}
use Rattle.hog_spelling.proofs.Fronts.{is_close, is_close_bracket, is_close_brace, is_comma, is_semi}
use Rattle.hog_spelling.proofs.SoundParts.{is_name}

-- what was read is so, and where a height of d was passed, twice the tokens left from there are at most n without d
abbrev Answer : {A : Type 0} → (Got A → Type 0) → ℕ → ℕ → Result (Got A) Fault → Type 0
Answer P d n (Ok g) = P g
Answer P d n (Err Syntax) = Unit {0}
Answer P d n (Err (TooNested m)) = d + 2 * m ≤ n

pub record Near {A : Type 0} (P : Got A → Type 0) (d n : ℕ) (r : Result (Got A) Fault) : Type 0 where
  pub answer : Answer P d n r

-- a tree's height is at most twice the number of its tokens, less j
abbrev pub Fits : {A : Type 0} → ℕ → List Terminal → Got A → Type 0
Fits j ts g = j + g.height + 2 * length g.rest ≤ 2 * length ts

pub read_near : {A : Type 0} {P : Got A → Type 0} {d n : ℕ} {g : Got A} → P g → Near P d n (Ok g)
read_near p = record { answer = p }

pub syntax_near : {A : Type 0} {P : Got A → Type 0} {d n : ℕ} → Near P d n (Err Syntax)
syntax_near = record { answer = tt }

pub high_near : {A : Type 0} {P : Got A → Type 0} {d n m : ℕ} → d + 2 * m ≤ n → Near P d n (Err (TooNested m))
high_near p = record { answer = p }

bound : {A B : Type 0} (P : Got A → Type 0) (Q : Got B → Type 0) (d n e k : ℕ) (r : Result (Got A) Fault) (f : Got A → Result (Got B) Fault)
    → Answer P d n r → e + n ≤ d + k → ((x : Got A) → P x → Near Q e k (f x)) → Near Q e k (r >>= f)
bound P Q d n e k (Ok x) f near room on = on x near
bound P Q d n e k (Err Syntax) f near room on = syntax_near
bound P Q d n e k (Err (TooNested m)) f near room on = high_near (omega (arith, near, room))

pub bind_near : {A B : Type 0} {P : Got A → Type 0} {Q : Got B → Type 0} {d n e k : ℕ} {r : Result (Got A) Fault} (f : Got A → Result (Got B) Fault)
    → Near P d n r → e + n ≤ d + k → ((x : Got A) → P x → Near Q e k (f x)) → Near Q e k (r >>= f)
bind_near f near room on = bound _ _ _ _ _ _ _ f near.answer room on

weakened : {A : Type 0} (P Q : Got A → Type 0) (d n e k : ℕ) (r : Result (Got A) Fault) → Answer P d n r → e + n ≤ d + k → ((x : Got A) → P x → Q x) → Near Q e k r
weakened P Q d n e k (Ok x) near room on = read_near (on x near)
weakened P Q d n e k (Err Syntax) near room on = syntax_near
weakened P Q d n e k (Err (TooNested m)) near room on = high_near (omega (arith, near, room))

pub weaker_near : {A : Type 0} {P Q : Got A → Type 0} {d n e k : ℕ} {r : Result (Got A) Fault} → Near P d n r → e + n ≤ d + k → ((x : Got A) → P x → Q x) → Near Q e k r
weaker_near near room on = weakened _ _ _ _ _ _ _ near.answer room on

pub wants_near : {A B : Type 0} {P : Got B → Type 0} {d n : ℕ} (o : Option A) (f : A → Result (Got B) Fault) → ((x : A) → o ≡ Some x → Near P d n (f x)) → Near P d n (wants o f)
wants_near (Some x) f on = on x refl
wants_near None f on = syntax_near

pub either_near : {A B : Type 0} {P : Got B → Type 0} {d n : ℕ} (o : Option A) (f : A → Result (Got B) Fault) (r : Result (Got B) Fault)
    → ((x : A) → o ≡ Some x → Near P d n (f x)) → Near P d n r → Near P d n (either_way o f r)
either_near (Some x) f r on other = on x refl
either_near None f r on other = other

pub cond_near : {A : Type 0} {P : Got A → Type 0} {d n : ℕ} (b : Bool) (r s : Result (Got A) Fault) → Near P d n r → (b ≡ false → Near P d n s) → Near P d n (cond b r s)
cond_near true r s near other = near
cond_near false r s near other = other refl

-- what reads the parts of a form
pub record Nears (d : ℕ) (again : Readers) : Type 0 where
  pub expression : (l : ℕ) (ts : List Terminal) → Near (Fits 1 ts) d (2 * length ts) (again.expression l ts)
  pub statement : (ts : List Terminal) → Near (Fits 0 ts) d (suc (2 * length ts)) (again.statement ts)
  pub start : (ts : List Terminal) → Near (Fits 0 ts) d (suc (2 * length ts)) (again.start ts)
  pub step : (ts : List Terminal) → Near (Fits 0 ts) d (suc (2 * length ts)) (again.step ts)

-- Lists.

abbrev pub Shortens : Shut → Type 0
Shortens shut = (ts us : List Terminal) → shut ts ≡ Some us → length ts ≡ suc (length us)

pub close_less : Shortens after_close
close_less ts us e = ap length (is_close ts us e)

pub bracket_less : Shortens after_close_bracket
bracket_less ts us e = ap length (is_close_bracket ts us e)

pub brace_less : Shortens after_close_brace
brace_less ts us e = ap length (is_close_brace ts us e)

closing_less : (comma : Bool) (shut : Shut) → Shortens shut → Shortens (closing comma shut)
closing_less true shut less ts us e = less ts us e
closing_less false shut less ts us e = absurd (cc)

module _ {A : Type 0} (d : ℕ) (item : Read A) (comma : Bool) (shut : Shut) (less : Shortens shut) (near : (ts : List Terminal) → Near (Fits 0 ts) d (2 * length ts) (item ts)) where
  others_near : (next : Read (List A)) → ((ts : List Terminal) → Near (Fits 0 ts) d (2 * length ts) (next ts)) → (ts : List Terminal) → Near (Fits 0 ts) d (2 * length ts) (others comma shut next ts)
  others_near next hyp ts = either_near (after_comma ts) (λ us. either_way (closing comma shut us) ended_list (next us)) (wants (shut ts) ended_list)
      (λ us e. let l : length ts ≡ suc (length us) = ap length (is_comma ts us e) in
      either_near (closing comma shut us) ended_list (next us) (λ vs c. let m = closing_less comma shut less us vs c in read_near (omega arith)) (weaker_near (hyp us) (omega arith) (λ x p. omega (arith, p))))
      (wants_near (shut ts) ended_list (λ us e. let l = less ts us e in read_near (omega arith)))

  some_near : (m : ℕ) (ts : List Terminal) → Near (Fits 0 ts) d (2 * length ts) (some item comma shut m ts)
  unfolding some
  some_near zero ts = syntax_near
  some_near (suc m) ts = bind_near (λ g. others comma shut (some item comma shut m) g.rest >>= put g) (near ts) (omega arith)
      (λ g p. bind_near (put g) (others_near (some item comma shut m) (some_near m) g.rest) (omega (arith, p)) (λ r q. read_near (omega (arith, p, q))))

  pub listing_near : (ts : List Terminal) → Near (Fits 0 ts) d (2 * length ts) (listing item comma shut ts)
  unfolding listing
  listing_near ts = either_near (shut ts) ended_list (some item comma shut (length ts) ts) (λ us e. let l = less ts us e in read_near (omega arith)) (some_near (length ts) ts)

pub name_near : (d : ℕ) (ts : List Terminal) → Near (Fits 0 ts) d (2 * length ts) (name ts)
name_near d ts = wants_near (after_name ts) (λ p. Ok (got p.0 0 p.1)) (λ p e. let l : length ts ≡ suc (length p.1) = ap length (is_name ts p e) in read_near (omega arith))

pub names_near : (d : ℕ) (ts : List Terminal) → Near (Fits 0 ts) d (2 * length ts) (listing name false after_close ts)
names_near d = listing_near d name false after_close close_less (name_near d)

-- Statements in braces.

pub several_near : (d : ℕ) (again : Readers) → Nears d again → (m : ℕ) (ts : List Terminal) → Near (Fits 0 ts) d (suc (2 * length ts)) (several again.statement m ts)
unfolding several
several_near d again near zero ts = syntax_near
several_near d again near (suc m) ts =
    let next = again.statement ts >>= λ g. several again.statement m g.rest >>= put_stm g in
    either_near (after_semi ts) (several again.statement m) (cond (ends_block ts) (Ok (got Done 0 ts)) next)
    (λ us e. let l : length ts ≡ suc (length us) = ap length (is_semi ts us e) in weaker_near (several_near d again near m us) (omega arith) (λ x p. omega (arith, p)))
    (cond_near (ends_block ts) (Ok (got Done 0 ts)) next (read_near (omega arith))
    (λ e. bind_near (λ g. several again.statement m g.rest >>= put_stm g) (near.statement ts) (omega arith)
    (λ g p. bind_near (put_stm g) (several_near d again near m g.rest) (omega (arith, p)) (λ r q. read_near (omega (arith, p, q))))))

pub braced_near : (d : ℕ) (again : Readers) → Nears d again → (us : List Terminal) → Near (Fits 0 us) d (suc (2 * length us)) (braced again.statement us)
unfolding braced
braced_near d again near us = bind_near closed_brace (several_near d again near (suc (length us)) us) (omega arith)
    (λ g p. wants_near (after_close_brace g.rest) (λ vs. Ok (got g.tree g.height vs)) (λ vs e. let l = brace_less g.rest vs e in read_near (omega (arith, p))))
