-- The tokens of a printed program spell it.
use Rattle.std.proofs.Common.{◌≡◌, List, [], ◌∷◌, ◌++◌, Bool, true, false, ℕ, suc, ◌+◌, ◌≤◌, max, pos, negsuc, refl, sym, zero-add, arith, inl, inr}
use Rattle.hog_tree.specs.Plain.{Word, Exp, Int, Truth, Null, Text, Template, Name, Array, Dict, Neg, Not, Binary, Coalesce, Prop, PropNullish, Index, Call, Lambda, Exps, NoExp, MoreExp, Parts, NoPart, MoreText, MoreHole, Pairs, NoPair, MorePair, Body, OneExp, ManyStms, Stm, Let, Assign, Do, Return, Throw, If, While, For, ForIn, Fun, Try, Block, Stms, Done, Then, OptionExp, NoneExp, SomeExp, OptionStm, NoneStm, SomeStm, OptionStms, NoneStms, SomeStms}
use Rattle.hog_grammar.specs.Terminal.{Terminal}
use Rattle.hog_grammar.specs.Terminal as k
use Rattle.hog_grammar.specs.Forms.{Phrase, At, Listing, Others, Braced, begins_else}
use Rattle.hog_grammar.specs.Spelling.{level, level_of, Bare, items, entries, names, Parameters, OfParts, OfBody, OfStm, OfStms, OfElse, Declared, Returned, Condition, Start, Step, Spells}
use Rattle.hog_printer.specs.Print.{form_of, is_compound, is_held_base, is_held_body, is_dict}
use Rattle.hog_printer.proofs.Tokens.{wrapped, exp_tokens, items_tokens, more_items_tokens, parts_tokens, pairs_tokens, more_pairs_tokens, names_tokens, more_names_tokens, body_tokens, declared_tokens, returned_tokens, condition_tokens, step_tokens, stm_tokens, stms_tokens, else_tokens}
use Rattle.hog_printer.proofs.Fit.{MayStart, MayStep, FitExp, FitExps, FitParts, FitPairs, FitBody, FitOption, FitStm, FitClause, FitElse, FitStms}
use Rattle.hog_printer.proofs.Starts.{base_compound, body_dict, target_dict, op_level, level_pos, tight, opens, held_no_brace, stms_first}

-- at some height
abbrev Spelled : Phrase → List Terminal → Type 0
Spelled P ts = (h : ℕ) × P ts h

wrapped_at : (p : Bool) (e : Exp) (least : ℕ) → (p ≡ false → least ≤ level e) → Spelled (Bare e) (exp_tokens e) → Spelled (At (Bare e) (level e) least) (wrapped p (exp_tokens e))
wrapped_at false e least fits b = (b.0, record { pairs = 0; inner = exp_tokens e; low = b.0; bare = b.1; tokens = refl; height = sym (zero-add b.0); fits = λ _. fits refl })
wrapped_at true e least fits b = (1 + b.0, record { pairs = 1; inner = exp_tokens e; low = b.0; bare = b.1; tokens = refl; height = refl; fits = λ z. absurd (cc) })

whole : (e : Exp) → Spelled (Bare e) (exp_tokens e) → Spelled (At (Bare e) (level e) 1) (exp_tokens e)
whole e b = wrapped_at false e 1 (λ _. level_pos e) b

operand : (e : Exp) (least : ℕ) → least ≤ 10 → Spelled (Bare e) (exp_tokens e) → Spelled (At (Bare e) (level e) least) (wrapped (is_compound (form_of e)) (exp_tokens e))
operand e least low b = wrapped_at (is_compound (form_of e)) e least (λ free. (let t = tight e free in omega arith)) b

base : (e : Exp) → Spelled (Bare e) (exp_tokens e) → Spelled (At (Bare e) (level e) 10) (wrapped (is_held_base (form_of e)) (exp_tokens e))
base e b = wrapped_at (is_held_base (form_of e)) e 10 (λ free. tight e (base_compound (form_of e) free)) b

-- names

more_names_spelled : (ws : List Word) → Spelled (Others false k.Close (names ws)) (more_names_tokens ws)
more_names_spelled [] = (0, inl (record { tokens = refl; height = refl }))
more_names_spelled (w ∷ ws) = let r = more_names_spelled ws in (0 + max 0 r.0, record { left = k.Word w ∷ []; right = more_names_tokens ws; low = 0; other = r.0; first = record { tokens = refl; height = refl }; second = r.1; tokens = refl; height = refl })

names_spelled : (ws : List Word) → Spelled (Listing false k.Close (names ws)) (names_tokens ws)
names_spelled [] = (0, record { tokens = refl; height = refl })
names_spelled (w ∷ ws) = let r = more_names_spelled ws in (0 + max 0 r.0, record { left = k.Word w ∷ []; right = more_names_tokens ws; low = 0; other = r.0; first = record { tokens = refl; height = refl }; second = r.1; tokens = refl; height = refl })

parameters_spelled : (ws : List Word) → Spelled (Parameters ws) (k.Open ∷ names_tokens ws)
parameters_spelled ws = let r = names_spelled ws in (0 + r.0, inr (record { inner = names_tokens ws; low = r.0; part = r.1; tokens = refl; height = refl }))

-- statements in braces, before these tokens
braced_spelled : (ss : Stms) (more : ℕ) (rest : List Terminal) → ((after : List Terminal) → begins_else after ≡ false → (h : ℕ) × OfStms ss (stms_tokens ss) after h) → (h : ℕ) × Braced (OfStms ss) more (k.OpenBrace ∷ (stms_tokens ss ++ k.CloseBrace ∷ [])) rest h
braced_spelled ss more rest all = let b = all (k.CloseBrace ∷ rest) refl in (more + b.0, record { inner = stms_tokens ss; low = b.0; part = b.1; tokens = refl; height = refl })

abbrev mutual
  bare_spelled : (e : Exp) → FitExp e → Spelled (Bare e) (exp_tokens e)
  bare_spelled (Int (pos n)) f = (1, record { tokens = refl; height = refl })
  bare_spelled (Int (negsuc n)) f = absurd f
  bare_spelled (Truth b) f = (1, record { tokens = refl; height = refl })
  bare_spelled Null f = (1, record { tokens = refl; height = refl })
  bare_spelled (Text bs) f = (1, record { tokens = refl; height = refl })
  bare_spelled (Template ps) f = let r = parts_spelled ps f in (1 + r.0, record { inner = parts_tokens ps; low = r.0; part = r.1; tokens = refl; height = refl })
  bare_spelled (Name w) f = (1, record { tokens = refl; height = refl })
  bare_spelled (Array es) f = let r = items_spelled true k.CloseBracket es f in (1 + r.0, record { inner = items_tokens k.CloseBracket es; low = r.0; part = r.1; tokens = refl; height = refl })
  bare_spelled (Dict ds) f = let r = pairs_spelled ds f in (1 + r.0, record { inner = pairs_tokens ds; low = r.0; part = r.1; tokens = refl; height = refl })
  bare_spelled (Neg e) f = let r = operand e 9 (omega arith) (bare_spelled e f) in (1 + r.0, record { inner = _; low = r.0; part = r.1; tokens = refl; height = refl })
  bare_spelled (Not e) f = let r = operand e 4 (omega arith) (bare_spelled e f) in (1 + r.0, record { inner = _; low = r.0; part = r.1; tokens = refl; height = refl })
  bare_spelled (Binary op a b) f =
      let r = operand a (level_of op) (omega (arith, (op_level op).1)) (bare_spelled a f.0) in
      let s = operand b (suc (level_of op)) (omega (arith, (op_level op).1)) (bare_spelled b f.1) in
      (1 + max r.0 s.0, record { left = _; right = _; low = r.0; other = s.0; first = r.1; second = s.1; tokens = refl; height = refl })
  bare_spelled (Coalesce a b) f =
      let r = operand a 5 (omega arith) (bare_spelled a f.0) in
      let s = operand b 6 (omega arith) (bare_spelled b f.1) in
      (1 + max r.0 s.0, record { left = _; right = _; low = r.0; other = s.0; first = r.1; second = s.1; tokens = refl; height = refl })
  bare_spelled (Prop e w) f = let r = base e (bare_spelled e f.0) in (1 + r.0, record { inner = _; low = r.0; part = r.1; tokens = refl; height = refl })
  bare_spelled (PropNullish e w) f = let r = base e (bare_spelled e f.0) in (1 + r.0, record { inner = _; low = r.0; part = r.1; tokens = refl; height = refl })
  bare_spelled (Index e i) f =
      let r = base e (bare_spelled e f.0) in
      let s = whole i (bare_spelled i f.1) in
      (1 + max r.0 s.0, record { left = _; right = _; low = r.0; other = s.0; first = r.1; second = s.1; tokens = refl; height = refl })
  bare_spelled (Call x es) f =
      let r = operand x 10 (omega arith) (bare_spelled x f.0) in
      let s = items_spelled false k.Close es f.1 in
      (1 + max r.0 s.0, record { left = _; right = _; low = r.0; other = s.0; first = r.1; second = s.1; tokens = refl; height = refl })
  bare_spelled (Lambda ws b) f =
      let r = parameters_spelled ws in
      let s = body_spelled b f.1 in
      (1 + max r.0 s.0, record { left = _; right = _; low = r.0; other = s.0; first = r.1; second = s.1; tokens = refl; height = refl })

  items_spelled : (comma : Bool) (mark : Terminal) (es : Exps) → FitExps es → Spelled (Listing comma mark (items es)) (items_tokens mark es)
  items_spelled comma mark NoExp f = (0, record { tokens = refl; height = refl })
  items_spelled comma mark (MoreExp e es) f =
      let r = whole e (bare_spelled e f.0) in
      let s = more_items_spelled comma mark es f.1 in
      (0 + max r.0 s.0, record { left = _; right = _; low = r.0; other = s.0; first = r.1; second = s.1; tokens = refl; height = refl })

  more_items_spelled : (comma : Bool) (mark : Terminal) (es : Exps) → FitExps es → Spelled (Others comma mark (items es)) (more_items_tokens mark es)
  more_items_spelled comma mark NoExp f = (0, inl (record { tokens = refl; height = refl }))
  more_items_spelled comma mark (MoreExp e es) f =
      let r = whole e (bare_spelled e f.0) in
      let s = more_items_spelled comma mark es f.1 in
      (0 + max r.0 s.0, record { left = _; right = _; low = r.0; other = s.0; first = r.1; second = s.1; tokens = refl; height = refl })

  parts_spelled : (ps : Parts) → FitParts ps → Spelled (OfParts ps) (parts_tokens ps)
  parts_spelled NoPart f = (0, record { tokens = refl; height = refl })
  parts_spelled (MoreText bs ps) f = let r = parts_spelled ps f.3 in (0 + r.0, record { inner = parts_tokens ps; low = r.0; part = r.1; tokens = refl; height = refl })
  parts_spelled (MoreHole e ps) f =
      let r = whole e (bare_spelled e f.0) in
      let s = parts_spelled ps f.1 in
      (0 + max r.0 s.0, record { left = _; right = _; low = r.0; other = s.0; first = r.1; second = s.1; tokens = refl; height = refl })

  pairs_spelled : (ds : Pairs) → FitPairs ds → Spelled (Listing true k.CloseBrace (entries ds)) (pairs_tokens ds)
  pairs_spelled NoPair f = (0, record { tokens = refl; height = refl })
  pairs_spelled (MorePair x y ds) f =
      let r = whole x (bare_spelled x f.0) in
      let s = whole y (bare_spelled y f.1) in
      let t = more_pairs_spelled ds f.2 in (
        0 + max (0 + max r.0 s.0) t.0,
        record {
          left = exp_tokens x ++ k.Colon ∷ exp_tokens y;
          right = more_pairs_tokens ds;
          low = 0 + max r.0 s.0;
          other = t.0;
          first = record { left = _; right = _; low = r.0; other = s.0; first = r.1; second = s.1; tokens = refl; height = refl };
          second = t.1;
          tokens = refl;
          height = refl;
        },
      )

  more_pairs_spelled : (ds : Pairs) → FitPairs ds → Spelled (Others true k.CloseBrace (entries ds)) (more_pairs_tokens ds)
  more_pairs_spelled NoPair f = (0, inl (record { tokens = refl; height = refl }))
  more_pairs_spelled (MorePair x y ds) f =
      let r = whole x (bare_spelled x f.0) in
      let s = whole y (bare_spelled y f.1) in
      let t = more_pairs_spelled ds f.2 in (
        0 + max (0 + max r.0 s.0) t.0,
        record {
          left = exp_tokens x ++ k.Colon ∷ exp_tokens y;
          right = more_pairs_tokens ds;
          low = 0 + max r.0 s.0;
          other = t.0;
          first = record { left = _; right = _; low = r.0; other = s.0; first = r.1; second = s.1; tokens = refl; height = refl };
          second = t.1;
          tokens = refl;
          height = refl;
        },
      )

  body_spelled : (b : Body) → FitBody b → Spelled (OfBody b) (body_tokens b)
  body_spelled (OneExp e) f =
      let p = is_held_body (form_of e) in
      let r = wrapped_at p e 1 (λ _. level_pos e) (bare_spelled e f) in
      (r.0, record { part = r.1; no_brace = held_no_brace p e (body_dict (form_of e)) })
  body_spelled (ManyStms ss) f = braced_spelled ss 0 [] (stms_spelled ss f)

  declared_spelled : (v : OptionExp) (w : Word) → FitOption v → Spelled (Declared v w) (declared_tokens v w)
  declared_spelled NoneExp w f = (1, record { tokens = refl; height = refl })
  declared_spelled (SomeExp e) w f = let r = whole e (bare_spelled e f) in (1 + r.0, record { inner = exp_tokens e; low = r.0; part = r.1; tokens = refl; height = refl })

  returned_spelled : (v : OptionExp) → FitOption v → (rest : List Terminal) → (h : ℕ) × Returned v (returned_tokens v) rest h
  returned_spelled NoneExp f rest = (1, inl (record { tokens = refl; height = refl }))
  returned_spelled (SomeExp e) f rest =
      let r = whole e (bare_spelled e f) in
      (1 + r.0, record { inner = k.Return ∷ exp_tokens e; ending = k.Semi ∷ []; part = record { inner = exp_tokens e; low = r.0; part = r.1; tokens = refl; height = refl }; ends = inl refl; tokens = refl })

  condition_spelled : (c : OptionExp) → FitOption c → Spelled (Condition c) (condition_tokens c)
  condition_spelled NoneExp f = (0, record { tokens = refl; height = refl })
  condition_spelled (SomeExp e) f = whole e (bare_spelled e f)

  start_spelled : (s : OptionStm) → FitClause s → MayStart s → Spelled (Start s) (step_tokens s)
  start_spelled NoneStm f may = (0, record { tokens = refl; height = refl })
  start_spelled (SomeStm (Let w v)) f may = declared_spelled v w f.1
  start_spelled (SomeStm (Assign t e)) f may =
      let r = whole t (bare_spelled t f.1) in
      let s = whole e (bare_spelled e f.2) in
      (1 + max r.0 s.0, (f.0, record { left = _; right = _; low = r.0; other = s.0; first = r.1; second = s.1; tokens = refl; height = refl }))
  start_spelled (SomeStm (Do e)) f may =
      let r = wrapped_at (is_dict (form_of e)) e 1 (λ _. level_pos e) (bare_spelled e f) in
      (1 + r.0, record { inner = _; low = r.0; part = r.1; tokens = refl; height = refl })
  start_spelled (SomeStm (Return v)) f may = absurd may
  start_spelled (SomeStm (Throw e)) f may = absurd may
  start_spelled (SomeStm (If c b o)) f may = absurd may
  start_spelled (SomeStm (While c b)) f may = absurd may
  start_spelled (SomeStm (For s c n b)) f may = absurd may
  start_spelled (SomeStm (ForIn i v e b)) f may = absurd may
  start_spelled (SomeStm (Fun x ws b)) f may = absurd may
  start_spelled (SomeStm (Try b w c)) f may = absurd may
  start_spelled (SomeStm (Block b)) f may = absurd may

  step_spelled : (s : OptionStm) → FitClause s → MayStep s → Spelled (Step s) (step_tokens s)
  step_spelled NoneStm f may = (0, record { tokens = refl; height = refl })
  step_spelled (SomeStm (Assign t e)) f may =
      let r = whole t (bare_spelled t f.1) in
      let s = whole e (bare_spelled e f.2) in
      (1 + max r.0 s.0, (f.0, record { left = _; right = _; low = r.0; other = s.0; first = r.1; second = s.1; tokens = refl; height = refl }))
  step_spelled (SomeStm (Do e)) f may =
      let r = wrapped_at (is_dict (form_of e)) e 1 (λ _. level_pos e) (bare_spelled e f) in
      (1 + r.0, record { inner = _; low = r.0; part = r.1; tokens = refl; height = refl })
  step_spelled (SomeStm (Let w v)) f may = absurd may
  step_spelled (SomeStm (Return v)) f may = absurd may
  step_spelled (SomeStm (Throw e)) f may = absurd may
  step_spelled (SomeStm (If c b o)) f may = absurd may
  step_spelled (SomeStm (While c b)) f may = absurd may
  step_spelled (SomeStm (For s c n b)) f may = absurd may
  step_spelled (SomeStm (ForIn i v e b)) f may = absurd may
  step_spelled (SomeStm (Fun x ws b)) f may = absurd may
  step_spelled (SomeStm (Try b w c)) f may = absurd may
  step_spelled (SomeStm (Block b)) f may = absurd may

  stm_spelled : (s : Stm) → FitStm s → (rest : List Terminal) → begins_else rest ≡ false → (h : ℕ) × OfStm s (stm_tokens s) rest h
  stm_spelled (Let w v) f rest free =
      let r = declared_spelled v w f.1 in
      (r.0, record { inner = declared_tokens v w; ending = k.Semi ∷ []; part = r.1; ends = inl refl; tokens = refl })
  stm_spelled (Assign t e) f rest free =
      let r = whole t (bare_spelled t f.1) in
      let s = whole e (bare_spelled e f.2) in (
        1 + max r.0 s.0,
        record {
          inner = exp_tokens t ++ k.Assign ∷ exp_tokens e;
          ending = k.Semi ∷ [];
          part = record {
            part = (f.0, record { left = _; right = _; low = r.0; other = s.0; first = r.1; second = s.1; tokens = refl; height = refl });
            no_brace = (opens t (k.Assign ∷ exp_tokens e)).1 (target_dict t f.0);
          };
          ends = inl refl;
          tokens = refl;
        },
      )
  stm_spelled (Do e) f rest free =
      let p = is_dict (form_of e) in
      let r = wrapped_at p e 1 (λ _. level_pos e) (bare_spelled e f) in (
        1 + r.0,
        record {
          inner = wrapped p (exp_tokens e);
          ending = k.Semi ∷ [];
          part = record { part = record { inner = _; low = r.0; part = r.1; tokens = refl; height = refl }; no_brace = held_no_brace p e (λ h. h) };
          ends = inl refl;
          tokens = refl;
        },
      )
  stm_spelled (Return v) f rest free = returned_spelled v f rest
  stm_spelled (Throw e) f rest free =
      let r = whole e (bare_spelled e f) in
      (1 + r.0, record { inner = k.Throw ∷ exp_tokens e; ending = k.Semi ∷ []; part = record { inner = exp_tokens e; low = r.0; part = r.1; tokens = refl; height = refl }; ends = inl refl; tokens = refl })
  stm_spelled (If c b o) f rest free =
      let r = whole c (bare_spelled c f.0) in
      let t = else_spelled o f.2 rest free in
      let s = braced_spelled b 0 (else_tokens o ++ rest) (stms_spelled b f.1) in (
        1 + max r.0 (max s.0 t.0),
        record {
          left = exp_tokens c;
          right = _;
          low = r.0;
          other = max s.0 t.0;
          first = r.1;
          second = record { left = _; right = else_tokens o; low = s.0; other = t.0; first = inl s.1; second = t.1; tokens = refl; height = refl };
          tokens = refl;
          height = refl;
        },
      )
  stm_spelled (While c b) f rest free =
      let r = whole c (bare_spelled c f.0) in
      let s = braced_spelled b 0 rest (stms_spelled b f.1) in
      (1 + max r.0 s.0, record { left = exp_tokens c; right = _; low = r.0; other = s.0; first = r.1; second = inl s.1; tokens = refl; height = refl })
  stm_spelled (For x c n b) f rest free =
      let r = start_spelled x f.0.0 f.0.1 in
      let t = condition_spelled c f.1 in
      let u = step_spelled n f.2.0 f.2.1 in
      let s = braced_spelled b 0 rest (stms_spelled b f.3) in (
        1 + max (0 + max r.0 (0 + max t.0 u.0)) s.0,
        record {
          left = step_tokens x ++ k.Semi ∷ (condition_tokens c ++ k.Semi ∷ step_tokens n);
          right = _;
          low = 0 + max r.0 (0 + max t.0 u.0);
          other = s.0;
          first = record {
            left = step_tokens x;
            right = _;
            low = r.0;
            other = 0 + max t.0 u.0;
            first = r.1;
            second = record { left = condition_tokens c; right = step_tokens n; low = t.0; other = u.0; first = t.1; second = u.1; tokens = refl; height = refl };
            tokens = refl;
            height = refl;
          };
          second = inl s.1;
          tokens = refl;
          height = refl;
        },
      )
  stm_spelled (ForIn i v e b) f rest free =
      let r = whole e (bare_spelled e f.2) in
      let s = braced_spelled b 0 rest (stms_spelled b f.3) in
      (1 + max r.0 s.0, record { left = exp_tokens e; right = _; low = r.0; other = s.0; first = r.1; second = inl s.1; tokens = refl; height = refl })
  stm_spelled (Fun x ws b) f rest free =
      let r = names_spelled ws in
      let s = braced_spelled b 0 rest (stms_spelled b f.2) in
      (1 + max r.0 s.0, record { left = names_tokens ws; right = _; low = r.0; other = s.0; first = r.1; second = s.1; tokens = refl; height = refl })
  stm_spelled (Try b w c) f rest free =
      let s = braced_spelled c 0 rest (stms_spelled c f.2) in
      let r = braced_spelled b 0 (k.Catch ∷ k.Open ∷ k.Word w ∷ k.Close ∷ ((k.OpenBrace ∷ (stms_tokens c ++ k.CloseBrace ∷ [])) ++ rest)) (stms_spelled b f.0) in (
        1 + max r.0 s.0,
        record {
          inner = _;
          low = max r.0 s.0;
          part = record { left = _; right = k.OpenBrace ∷ (stms_tokens c ++ k.CloseBrace ∷ []); low = r.0; other = s.0; first = r.1; second = s.1; tokens = refl; height = refl };
          tokens = refl;
          height = refl;
        },
      )
  stm_spelled (Block b) f rest free = braced_spelled b 1 rest (stms_spelled b f)

  else_spelled : (o : OptionStms) → FitElse o → (rest : List Terminal) → begins_else rest ≡ false → (h : ℕ) × OfElse o (else_tokens o) rest h
  else_spelled NoneStms f rest free = (0, record { none = free; tokens = refl; height = refl })
  else_spelled (SomeStms b) f rest free = let s = braced_spelled b 0 rest (stms_spelled b f) in (0 + s.0, record { inner = _; low = s.0; part = inl s.1; tokens = refl; height = refl })

  stms_spelled : (ss : Stms) → FitStms ss → (rest : List Terminal) → begins_else rest ≡ false → (h : ℕ) × OfStms ss (stms_tokens ss) rest h
  stms_spelled Done f rest free = (0, record { empty = 0; tokens = refl; height = refl })
  stms_spelled (Then s ss) f rest free =
      let a = stm_spelled s f.0 (stms_tokens ss ++ rest) (stms_first ss rest free) in
      let b = stms_spelled ss f.1 rest free in
      (max a.0 b.0, record { empty = 0; left = stm_tokens s; right = stms_tokens ss; low = a.0; other = b.0; first = a.1; second = b.1; tokens = refl; height = refl })

-- The tokens of a printed program spell it, at some height.
pub program_spelled : (ss : Stms) → FitStms ss → (h : ℕ) × Spells ss (stms_tokens ss) h
program_spelled ss f = stms_spelled ss f [] refl
