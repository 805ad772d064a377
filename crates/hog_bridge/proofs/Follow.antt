-- What a statement's run comes to, and what is assumed of runs with fewer turns.
use Rattle.std.proofs.Common.{◌≡◌, ℕ, suc, ◌+◌, ◌<◌, ◌≤◌, ℤ, pos, List, [], ◌∷◌, ◌++◌, length, Option, Some, None, true, false, arith}
use Rattle.hog_value.specs.declared.trace.End.TheVariants as end
use Rattle.hog_value.specs.Values.{Val}
use Rattle.hog_value.specs.declared.value.Value.TheVariants.{Int}
use Rattle.hog_value.specs.Meters.{max_units}
use Rattle.hog_tree.specs.Plain.{Word, Exp, Stms, Body, OptionExp, OptionStm, While}
use Rattle.hog_captures.specs.Frees.{stm_frees, stms_frees, body_frees, option_exp_frees, option_stm_frees, without, without_name}
use Rattle.hog_captures.specs.Frames as names
use Rattle.hog_captures.specs.Frames.{with_local, with_name, with_hidden}
use Rattle.hog_compiler.specs.Pieces.{loop_code, key_count, key_code, item_code, more_code, next_code, key_pop, pop_op, pops}
use Rattle.hog_compiler.specs.Code.{stm_code, stms_code, block_pops, body_code, value_code, option_stm_code, option_name_pop}
use Rattle.hog_meaning.specs.Meaning.{Effect, Copies, Loop, LoopWithStep, LoopOver, Call}
use Rattle.hog_meaning.specs.World.{Env, World, Got, Gives, Throws, Waits, Spends, Flow, GoesOn, Returns}
use Rattle.hog_meaning.specs.Program.{charged_end}
use Rattle.hog_ops.specs.Plain as o
use Rattle.hog_ops.specs.Plain.{Ops, MoreOp, ◌⊕◌}
use Rattle.hog_ops.specs.Table.{span}
use Rattle.vm_course.specs.State.{Frame, Ended, State}
use Rattle.hog_bridge.proofs.Words.{Sub, with_word}
use Rattle.hog_bridge.proofs.Resolved.{StmOk, StmsOk, BodyOk, OptionExpOk, OptionStmOk}
use Rattle.hog_bridge.proofs.Places.{Seat, Temp}
use Rattle.hog_bridge.proofs.Ahead.{HasAt}
use Rattle.hog_bridge.proofs.Picture.{Given, Ghost, Landing, pic, Under, Ctx, landings, at, Framed, Kept, Fits, Reaches, ThrowEnds, Ends, Run, reaches_after}

-- the context with another frame of names and other words
abbrev pub scoped : Ctx → names.Frame → List Word → List Word → Ctx
scoped c fr ws V = record c { scope = fr; words = ws; sight = V }

-- after a return: the caller has the value, or the run has ended with it
abbrev pub ReturnEnds : Given → ℕ → List Frame → List Landing → List Seat → Val → World → Ghost → State → Type 0
ReturnEnds g n [] outer below v w G s = (s.mode ≡ Ended (charged_end end.Done w v)) × (s.trace ≡ w.trace)
ReturnEnds g n (f ∷ fs) outer below v w G s = (s ≡ pic (f ∷ fs) outer (Temp v ∷ below) G w) × Kept g n below G w

-- a statement that goes on leaves so many locals more
pub record GoneOn (g : Given) (n d : ℕ) (c : Ctx) (place : ℕ) (fr : names.Frame) (ws V : List Word) (k : ℕ) (L : List Seat) (ρ : Env) (w : World) (G : Ghost) (s : State) : Type 0 where
  pub new : List Seat
  pub many : length new ≡ k
  pub is : s ≡ at c place (new ++ L) G w
  pub fits : Fits g n d (scoped c fr ws V) ρ (new ++ L) G w
  pub full : length (new ++ L) ≡ c.base + length fr.locals

abbrev pub StmAt : Given → ℕ → ℕ → Ctx → ℕ → names.Frame → List Word → List Word → ℕ → List Seat → Flow → World → Ghost → State → Type 0
StmAt g n d c place fr ws V k L (GoesOn ρ) w G s = GoneOn g n d c place fr ws V k L ρ w G s
StmAt g n d c place fr ws V k L (Returns v) w G s = ReturnEnds g n c.frames c.outer c.below v w G s

-- a body ends by a return
abbrev pub BodyAt : Given → ℕ → Ctx → Flow → World → Ghost → State → Type 0
BodyAt g n c (GoesOn ρ) w G s = ⊥
BodyAt g n c (Returns v) w G s = ReturnEnds g n c.frames c.outer c.below v w G s

-- the code of a block
abbrev pub block : names.Frame → Stms → Ops
block fr b = stms_code fr b ⊕ block_pops b

-- the loop of a `for`, behind its start
abbrev pub for_loop : names.Frame → OptionExp → OptionStm → Stms → Ops
for_loop fr c s b = loop_code (value_code fr o.PushTrue c) (block fr b ⊕ (option_stm_code fr s ⊕ option_name_pop s []))

abbrev pub for_words : OptionExp → OptionStm → Stms → List Word
for_words c s b = option_exp_frees true c ++ (option_stm_frees true s ++ stms_frees true b)

-- the loop of a `for .. in`, behind its hidden locals, and their pops
abbrev pub hidden_frame : Option Word → names.Frame → names.Frame
hidden_frame k fr = with_hidden (4 + key_count k) fr

abbrev pub turn_frame : Option Word → Word → names.Frame → names.Frame
turn_frame k x fr = with_local (Some x) (with_name k (hidden_frame k fr))

abbrev pub turn_code : Option Word → Word → names.Frame → Stms → Ops
turn_code k x fr b =
    let keys = length fr.locals + key_count k in
    key_code k keys (keys + 3) ⊕ (item_code (keys + 1) (keys + 3)
    ⊕ (block (turn_frame k x fr) b ⊕ (MoreOp (pop_op x (stms_frees false b)) (key_pop k (stms_frees false b)) ⊕ next_code (keys + 3))))

abbrev pub over_loop : Option Word → Word → names.Frame → Stms → Ops
over_loop k x fr b =
    let keys = length fr.locals + key_count k in
    loop_code (more_code (keys + 2) (keys + 3)) (turn_code k x fr b)

abbrev pub over_code : Option Word → Word → names.Frame → Stms → Ops
over_code k x fr b = over_loop k x fr b ⊕ pops (4 + key_count k)

abbrev pub over_words : Option Word → Word → Stms → List Word
over_words k x b = without_name k (without x (stms_frees true b))

-- the hidden locals: what is run over, its keys where a key is named, its values, how many they are, and the index
abbrev pub key_seats : Option Word → Val → List Seat → List Seat
key_seats None keys L = L
key_seats (Some k) keys L = Temp keys ∷ L

abbrev pub hidden_seats : Copies → Val → ℤ → List Seat → List Seat
hidden_seats copies v i L = Temp (Int i) ∷ Temp (Int copies.size) ∷ Temp copies.values ∷ key_seats copies.key copies.keys (Temp v ∷ L)

-- an index of a loop over values is one of a list's items, or the one behind
pub record InRange (size i : ℤ) : Type 0 where
  pub count : ℕ
  pub index : ℕ
  pub size_is : size ≡ pos count
  pub index_is : i ≡ pos index
  pub small : count ≤ max_units
  pub within : index ≤ suc count

-- with fewer turns than n the code of each loop and of each body does what it means
pub record Follows (g : Given) (again : Effect) (n : ℕ) : Type 0 where
  pub loop : (i : ℕ) → i < n → (d : ℕ) (a : Exp) (b : Stms) (c : Ctx) (ρ : Env) (place place' : ℕ) (L : List Seat) (G : Ghost) (w : World) → place' ≡ place + span (stm_code c.scope (While a b)) → HasAt g.code place (stm_code c.scope (While a b)) → Sub (stm_frees true (While a b)) c.words → StmOk c.sight (While a b) → Fits g i d c ρ L G w → length L ≡ c.base + length c.scope.locals → Under place' c.own → Run g i (landings c) (at c place L G w) G (StmAt g i d c place' c.scope c.words c.sight 0 L) (again d (Loop a b) ρ w)
  pub stepped : (i : ℕ) → i < n → (d : ℕ) (a : OptionExp) (s : OptionStm) (b : Stms) (c : Ctx) (ρ : Env) (place place' : ℕ) (L : List Seat) (G : Ghost) (w : World) → place' ≡ place + span (for_loop c.scope a s b) → HasAt g.code place (for_loop c.scope a s b) → Sub (for_words a s b) c.words → OptionExpOk c.sight a × OptionStmOk c.sight s × StmsOk c.sight b → Fits g i d c ρ L G w → length L ≡ c.base + length c.scope.locals → Under place' c.own → Run g i (landings c) (at c place L G w) G (StmAt g i d c place' c.scope c.words c.sight 0 L) (again d (LoopWithStep a s b) ρ w)
  pub over : (i : ℕ) → i < n → (d : ℕ) (copies : Copies) (index : ℤ) (v : Val) (b : Stms) (c : Ctx) (ρ : Env) (place place' : ℕ) (L : List Seat) (G : Ghost) (w : World) → place' ≡ place + span (over_code copies.key copies.value c.scope b) → HasAt g.code place (over_code copies.key copies.value c.scope b) → Sub (over_words copies.key copies.value b) c.words → StmsOk (copies.value ∷ with_word copies.key c.sight) b → Fits g i d c ρ L G w → length L ≡ c.base + length c.scope.locals → InRange copies.size index → Under place' c.own → Run g i (landings c) (at c place (hidden_seats copies v index L) G w) G (StmAt g i d c place' c.scope c.words c.sight 0 L) (again d (LoopOver copies index b) ρ w)
  pub body : (i : ℕ) → i < n → (d : ℕ) (b : Body) (c : Ctx) (ρ : Env) (place : ℕ) (L : List Seat) (G : Ghost) (w : World) → HasAt g.code place (body_code c.scope b) → Sub (body_frees b) c.words → BodyOk c.sight b → Fits g i d c ρ L G w → length L ≡ c.base + length c.scope.locals → Under (place + span (body_code c.scope b)) c.own → Run g i (landings c) (at c place L G w) G (BodyAt g i c) (again d (Call b) ρ w)

module _ (g : Given) (i n : ℕ) (le : i ≤ n) where
  pub kept_more : {L : List Seat} {G : Ghost} {w : World} → Kept g i L G w → Kept g n L G w
  kept_more k = record { layout = k.layout; owners = k.owners; heap = k.heap; funs = k.funs; texts = k.texts; turns = omega (arith, k.turns) }

  throws_more : (ls : List Landing) (s : State) (G : Ghost) (v : Val) (w : World) → ThrowEnds g i ls s G v w → ThrowEnds g n ls s G v w
  throws_more [] s G v w r = r
  throws_more (l ∷ ls) s G v w r = record {
    last = r.last;
    ghost' = r.ghost';
    comes = r.comes;
    extends = r.extends;
    holds = record { is = r.holds.is; kept = kept_more r.holds.kept };
  }

  ends_more : {A : Type 0} (ls : List Landing) (s : State) (G : Ghost) (P P2 : A → World → Ghost → State → Type 0) (o : Got A) → ((a : A) (w : World) (G : Ghost) (s : State) → P a w G s → P2 a w G s) → Ends g i ls s G P o → Ends g n ls s G P2 o
  ends_more ls s G P P2 (Gives a w) f r = record {
    last = r.last;
    ghost' = r.ghost';
    comes = r.comes;
    extends = r.extends;
    holds = f a w r.ghost' r.last r.holds;
  }
  ends_more ls s G P P2 (Throws v w) f r = throws_more ls s G v w r
  ends_more ls s G P P2 (Waits w) f r = r
  ends_more ls s G P P2 (Spends e w) f r = r

  pub run_more : {A : Type 0} {ls : List Landing} {s : State} {G : Ghost} {P : A → World → Ghost → State → Type 0} (P2 : A → World → Ghost → State → Type 0) {o : Got A} → ((a : A) (w : World) (G : Ghost) (s : State) → P a w G s → P2 a w G s) → Run g i ls s G P o → Run g n ls s G P2 o
  run_more {A} {ls} {s} {G} {P} P2 {o} f r = record { ends = ends_more ls s G P P2 o f r.ends }

  fits_more : {d : ℕ} {c : Ctx} {ρ : Env} {L : List Seat} {G : Ghost} {w : World} → Fits g i d c ρ L G w → Fits g n d c ρ L G w
  fits_more h = record { kept = kept_more h.kept; framed = h.framed; sees = h.sees; captured = h.captured; sight = h.sight }

  return_more : (fs : List Frame) (outer : List Landing) (below : List Seat) (v : Val) (w : World) (G : Ghost) (s : State) → ReturnEnds g i fs outer below v w G s → ReturnEnds g n fs outer below v w G s
  return_more [] outer below v w G s r = r
  return_more (f ∷ fs) outer below v w G s r = (r.0, kept_more r.1)

  pub stm_more : (d : ℕ) (c : Ctx) (place : ℕ) (fr : names.Frame) (ws V : List Word) (k : ℕ) (L : List Seat) (f : Flow) (w : World) (G : Ghost) (s : State) → StmAt g i d c place fr ws V k L f w G s → StmAt g n d c place fr ws V k L f w G s
  stm_more d c place fr ws V k L (GoesOn ρ) w G s p = record { new = p.new; many = p.many; is = p.is; fits = fits_more p.fits; full = p.full }
  stm_more d c place fr ws V k L (Returns v) w G s p = return_more c.frames c.outer c.below v w G s p

  pub body_more : (c : Ctx) (f : Flow) (w : World) (G : Ghost) (s : State) → BodyAt g i c f w G s → BodyAt g n c f w G s
  body_more c (GoesOn ρ) w G s p = p
  body_more c (Returns v) w G s p = return_more c.frames c.outer c.below v w G s p

module _ (g : Given) (n : ℕ) where
  ends_on : {A : Type 0} (ls : List Landing) (s : State) (G : Ghost) (P P2 : A → World → Ghost → State → Type 0) (o : Got A) → ((a : A) (w : World) (G : Ghost) (s : State) → P a w G s → Reaches g s G (P2 a w)) → Ends g n ls s G P o → Ends g n ls s G P2 o
  ends_on ls s G P P2 (Gives a w) f r = reaches_after g n r.comes r.extends (f a w r.ghost' r.last r.holds)
  ends_on ls s G P P2 (Throws v w) f r = r
  ends_on ls s G P P2 (Waits w) f r = r
  ends_on ls s G P P2 (Spends e w) f r = r

  -- some steps more where a value was given
  pub run_on : {A : Type 0} {ls : List Landing} {s : State} {G : Ghost} {P : A → World → Ghost → State → Type 0} (P2 : A → World → Ghost → State → Type 0) {o : Got A} → ((a : A) (w : World) (G : Ghost) (s : State) → P a w G s → Reaches g s G (P2 a w)) → Run g n ls s G P o → Run g n ls s G P2 o
  run_on {A} {ls} {s} {G} {P} P2 {o} f r = record { ends = ends_on ls s G P P2 o f r.ends }

pub framed_scope : {d : ℕ} {c : Ctx} (fr : names.Frame) (ws V : List Word) {L : List Seat} → Framed d c L → Framed d (scoped c fr ws V) L
framed_scope fr ws V f = record { lands = f.lands; floor = f.floor; base = f.base; own = f.own; outer = f.outer; depth = f.depth }
