-- The printed text of a program is cut into pieces that mean its tokens.
use Rattle.std.proofs.Common.{◌≡◌, List, [], ◌∷◌, ◌++◌, Bool, true, false, ℕ, zero, suc, pos, negsuc, Option, Some, None, refl, sym, ap, ◌∙◌, append_assoc, append-nil}
use Rattle.std.specs.Prelude.{codes}
use Rattle.std.proofs.lemmas.Str.{IsUtf8-nil}
use Rattle.hog_printer.specs.declared.layout.Layout.{Layout}
use Rattle.hog_printer.specs.declared.layout.Layout.TheVariants.{Lines, OneLine}
use Rattle.hog_tree.specs.Plain.{Word, Exp, Int, Truth, Null, Text, Template, Name, Array, Dict, Neg, Not, Binary, Coalesce, Prop, PropNullish, Index, Call, Lambda, Exps, NoExp, MoreExp, Parts, NoPart, MoreText, MoreHole, Pairs, NoPair, MorePair, Body, OneExp, ManyStms, Stm, Let, Assign, Do, Return, Throw, If, While, For, ForIn, Fun, Try, Block, Stms, Done, Then, OptionExp, NoneExp, SomeExp, OptionStm, NoneStm, SomeStm, OptionStms, NoneStms, SomeStms}
use Rattle.hog_grammar.specs.Bytes.{class, Begins}
use Rattle.hog_grammar.specs.Pieces as i
use Rattle.hog_grammar.specs.Pieces.{Code, opened, OfTemplate, is_end}
use Rattle.hog_grammar.specs.Terminal.{Terminal, word}
use Rattle.hog_grammar.specs.Terminal as k
use Rattle.hog_grammar.specs.Spelling as g
use Rattle.hog_printer.specs.Print.{indentation, line_end, within, braced, held, form_of, is_compound, is_held_base, is_held_body, is_dict, more_names, names, bound, expression, items, more_items, parts, pairs, more_pairs, body, returned, condition, clause, step, statement, otherwise, lines, printed}
use Rattle.hog_printer.proofs.Tokens.{wrapped, exp_tokens, items_tokens, more_items_tokens, parts_tokens, pairs_tokens, more_pairs_tokens, names_tokens, more_names_tokens, body_tokens, declared_tokens, returned_tokens, condition_tokens, step_tokens, stm_tokens, stms_tokens, else_tokens}
use Rattle.hog_printer.proofs.Fit.{IsFree, AreFree, MayBeFree, NoText, FitExp, FitExps, FitParts, FitPairs, FitBody, FitOption, FitStm, FitClause, FitElse, FitStms}
use Rattle.hog_printer.proofs.Pieces.{Prints, Any, Apart, Sep, joined, after_any, after_word, loosen, as_text, as_tokens, inner, nothing}
use Rattle.hog_printer.proofs.Quoted.{text_prints, characters_print}
use Rattle.hog_printer.proofs.WordPieces.{word_prints, free_prints, number_prints}
use Rattle.hog_printer.proofs.Literals as l
use Rattle.hog_printer.proofs.Operators as p
use Rattle.hog_printer.proofs.Quietly.{quiet_held}

-- a text in code
abbrev Printed : List ℕ → List Terminal → Type 0
Printed text ts = Prints Code Code Any text ts

-- one that a word may end
abbrev PrintedWord : List ℕ → List Terminal → Type 0
PrintedWord text ts = Prints Code Code Apart text ts

-- forms of lists

regroup : (a c d b : List ℕ) → a ++ (c ++ (d ++ b)) ≡ (a ++ (c ++ d)) ++ b
regroup a c d b = ap (λ z. a ++ z) (sym (append_assoc c d b)) ∙ sym (append_assoc a (c ++ d) b)

regroup_five : (a c d e f b : List ℕ) → a ++ (c ++ (d ++ (e ++ (f ++ b)))) ≡ (a ++ (c ++ (d ++ (e ++ f)))) ++ b
regroup_five a c d e f b = ap (λ z. a ++ (c ++ z)) (regroup d e f b) ∙ regroup a c (d ++ (e ++ f)) b

regroup_seven : (a c d e f m n b : List ℕ) → a ++ (c ++ (d ++ (e ++ (f ++ (m ++ (n ++ b)))))) ≡ (a ++ (c ++ (d ++ (e ++ (f ++ (m ++ n)))))) ++ b
regroup_seven a c d e f m n b = ap (λ z. a ++ (c ++ z)) (regroup_five d e f m n b) ∙ regroup a c (d ++ (e ++ (f ++ (m ++ n)))) b

header_tokens : (a c d b : List Terminal) → a ++ k.Semi ∷ (c ++ k.Semi ∷ (d ++ k.Close ∷ b)) ≡ (a ++ k.Semi ∷ (c ++ k.Semi ∷ d)) ++ k.Close ∷ b
header_tokens a c d b = ap (λ z. a ++ k.Semi ∷ z) (sym (append_assoc c (k.Semi ∷ d) (k.Close ∷ b))) ∙ sym (append_assoc a (k.Semi ∷ (c ++ k.Semi ∷ d)) (k.Close ∷ b))

-- literal words

is_true : PrintedWord (codes "true") (k.True ∷ [])
unfolding class k.word
is_true = word_prints (codes "true") (record { first = _; others = _; bytes = refl; letter = refl; all = (refl, (refl, (refl, tt))) })

is_false : PrintedWord (codes "false") (k.False ∷ [])
unfolding class k.word
is_false = word_prints (codes "false") (record { first = _; others = _; bytes = refl; letter = refl; all = (refl, (refl, (refl, (refl, tt)))) })

is_null : PrintedWord (codes "null") (k.Null ∷ [])
unfolding class k.word
is_null = word_prints (codes "null") (record { first = _; others = _; bytes = refl; letter = refl; all = (refl, (refl, (refl, tt))) })

-- lines

indentation_prints : (n : ℕ) → Printed (indentation n) []
indentation_prints zero = nothing IsUtf8-nil
indentation_prints (suc n) = after_any l.spaces (indentation_prints n)

line_end_prints : (at : Layout) → Printed (line_end at) []
line_end_prints (Lines n) = after_any l.line_feed (indentation_prints n)
line_end_prints OneLine = l.blank

braced_prints : (at : Layout) (text : List ℕ) (ts : List Terminal) → Printed text ts → Printed (braced at text) (k.OpenBrace ∷ (ts ++ k.CloseBrace ∷ []))
braced_prints at text ts a = after_any l.open_brace (after_any (inner opened a) (after_any (inner opened (line_end_prints at)) l.close_brace))

-- parentheses

held_prints : (b : Bool) (text : List ℕ) (ts : List Terminal) → PrintedWord text ts → PrintedWord (held b text) (wrapped b ts)
held_prints false text ts a = a
held_prints true text ts a = after_any l.open_mark (after_word a (p.sep_close []) (loosen l.close_mark))

-- names, before what closes them

more_names_sep : (ws : List Word) (closing : List ℕ) → Sep closing → Sep (more_names ws ++ closing)
more_names_sep [] closing sep = sep
more_names_sep (w ∷ ws) closing sep = p.sep_comma _

more_names_print : {O : List ℕ → Type 0} (ws : List Word) (closing : List ℕ) (tail : List Terminal) → AreFree ws → Sep closing → Prints Code Code O closing (k.Close ∷ tail) → Prints Code Code O (more_names ws ++ closing) (more_names_tokens ws ++ tail)
more_names_print [] closing tail f sep a = a
more_names_print (w ∷ ws) closing tail f sep a =
    as_text (ap (λ z. codes ", " ++ z) (sym (append_assoc w (more_names ws) closing)))
    (after_any l.comma (after_word (free_prints w f.0) (more_names_sep ws closing sep) (more_names_print ws closing tail f.1 sep a)))

names_print : {O : List ℕ → Type 0} (ws : List Word) (closing : List ℕ) (tail : List Terminal) → AreFree ws → Sep closing → Prints Code Code O closing (k.Close ∷ tail) → Prints Code Code O (names ws ++ closing) (names_tokens ws ++ tail)
names_print [] closing tail f sep a = a
names_print (w ∷ ws) closing tail f sep a = as_text (sym (append_assoc w (more_names ws) closing)) (after_word (free_prints w f.0) (more_names_sep ws closing sep) (more_names_print ws closing tail f.1 sep a))

bound_prints : (i : Option Word) (v : Word) → MayBeFree i → IsFree v → PrintedWord (bound i v) (g.bound i v)
bound_prints None v f is = free_prints v is
bound_prints (Some w) v f is = after_word (free_prints w f) (p.sep_comma _) (after_any l.comma (free_prints v is))

-- what follows items

more_items_sep : (es : Exps) (closing : List ℕ) → Sep closing → Sep (more_items es ++ closing)
more_items_sep NoExp closing sep = sep
more_items_sep (MoreExp e es) closing sep = p.sep_comma _

more_pairs_sep : (ds : Pairs) → Sep (more_pairs ds ++ codes "}")
more_pairs_sep NoPair = p.sep_close_brace []
more_pairs_sep (MorePair x y ds) = p.sep_comma _

template_goes : (ps : Parts) (more : List ℕ) → NoText ps → Begins (is_end OfTemplate) ((parts ps ++ codes "'") ++ more)
template_goes NoPart more free = refl
template_goes (MoreHole e ps) more free = refl
template_goes (MoreText bs ps) more free = absurd free

abbrev mutual
  exp_prints : (e : Exp) → FitExp e → PrintedWord (expression e) (exp_tokens e)
  exp_prints (Int (pos n)) f = number_prints n f
  exp_prints (Int (negsuc n)) f = absurd f
  exp_prints (Truth true) f = is_true
  exp_prints (Truth false) f = is_false
  exp_prints Null f = is_null
  exp_prints (Text bs) f = loosen (text_prints bs f)
  exp_prints (Template ps) f = loosen (after_any l.template_start (parts_print ps f))
  exp_prints (Name w) f = free_prints w f
  exp_prints (Array es) f = loosen (after_any l.open_bracket (items_print k.CloseBracket (codes "]") es f (p.sep_close_bracket []) l.close_bracket))
  exp_prints (Dict ds) f = loosen (after_any l.open_brace (pairs_print ds f))
  exp_prints (Neg e) f = joined l.minus (held_prints (is_compound (form_of e)) _ _ (exp_prints e f)) (λ more next. quiet_held (is_compound (form_of e)) e f more)
  exp_prints (Not e) f = after_any l.not_word (held_prints (is_compound (form_of e)) _ _ (exp_prints e f))
  exp_prints (Binary op a b) f =
      after_word (held_prints (is_compound (form_of a)) _ _ (exp_prints a f.0)) (p.sep_operator op _) (after_any (p.operator_prints op) (held_prints (is_compound (form_of b)) _ _ (exp_prints b f.1)))
  exp_prints (Coalesce a b) f =
      after_word (held_prints (is_compound (form_of a)) _ _ (exp_prints a f.0)) (p.sep_blank _) (after_any l.coalesce (held_prints (is_compound (form_of b)) _ _ (exp_prints b f.1)))
  exp_prints (Prop e w) f = after_word (held_prints (is_held_base (form_of e)) _ _ (exp_prints e f.0)) (p.sep_dot _) (after_any l.dot (word_prints w f.1))
  exp_prints (PropNullish e w) f = after_word (held_prints (is_held_base (form_of e)) _ _ (exp_prints e f.0)) (p.sep_question _) (after_any l.nullish_dot (word_prints w f.1))
  exp_prints (Index e x) f =
      after_word (held_prints (is_held_base (form_of e)) _ _ (exp_prints e f.0)) (p.sep_bracket _) (after_any l.open_bracket (after_word (exp_prints x f.1) (p.sep_close_bracket []) (loosen l.close_bracket)))
  exp_prints (Call x es) f =
      after_word (held_prints (is_compound (form_of x)) _ _ (exp_prints x f.0)) (p.sep_open _) (loosen (after_any l.open_mark (items_print k.Close (codes ")") es f.1 (p.sep_close []) l.close_mark)))
  exp_prints (Lambda ws b) f = after_any l.open_mark (names_print ws (codes ") -> " ++ body b) (k.Arrow ∷ body_tokens b) f.0 (p.sep_close _) (after_any l.arrow (body_prints b f.1)))

  items_print : (mark : Terminal) (closing : List ℕ) (es : Exps) → FitExps es → Sep closing → Printed closing (mark ∷ []) → Printed (items es ++ closing) (items_tokens mark es)
  items_print mark closing NoExp f sep a = a
  items_print mark closing (MoreExp e es) f sep a =
      as_text (sym (append_assoc (expression e) (more_items es) closing)) (after_word (exp_prints e f.0) (more_items_sep es closing sep) (more_items_print mark closing es f.1 sep a))

  more_items_print : (mark : Terminal) (closing : List ℕ) (es : Exps) → FitExps es → Sep closing → Printed closing (mark ∷ []) → Printed (more_items es ++ closing) (more_items_tokens mark es)
  more_items_print mark closing NoExp f sep a = a
  more_items_print mark closing (MoreExp e es) f sep a =
      as_text (ap (λ z. codes ", " ++ z) (sym (append_assoc (expression e) (more_items es) closing)))
      (after_any l.comma (after_word (exp_prints e f.0) (more_items_sep es closing sep) (more_items_print mark closing es f.1 sep a)))

  parts_print : (ps : Parts) → FitParts ps → Prints i.Template Code Any (parts ps ++ codes "'") (parts_tokens ps)
  parts_print NoPart f = l.template_end
  parts_print (MoreText bs ps) f = as_text (sym (append_assoc _ (parts ps) (codes "'"))) (joined (characters_print bs f.0 f.1) (parts_print ps f.3) (λ more next. template_goes ps more f.2))
  parts_print (MoreHole e ps) f =
      as_text (regroup (codes "{") (expression e) (codes "}") (parts ps ++ codes "'") ∙ sym (append_assoc (codes "{" ++ (expression e ++ codes "}")) (parts ps) (codes "'")))
      (after_any l.hole_start (after_word (inner (λ holes. 0 ∷ holes) (exp_prints e f.0)) (p.sep_close_brace _) (after_any l.hole_end (parts_print ps f.1))))

  pairs_print : (ds : Pairs) → FitPairs ds → Prints (λ holes. Code (opened holes)) Code Any (pairs ds ++ codes "}") (pairs_tokens ds)
  pairs_print NoPair f = l.close_brace
  pairs_print (MorePair x y ds) f =
      as_text (sym (append_assoc (expression x ++ (codes ": " ++ expression y)) (more_pairs ds) (codes "}")))
      (after_word (inner opened (after_word (exp_prints x f.0) (p.sep_colon _) (after_any l.colon (exp_prints y f.1)))) (more_pairs_sep ds) (more_pairs_print ds f.2))

  more_pairs_print : (ds : Pairs) → FitPairs ds → Prints (λ holes. Code (opened holes)) Code Any (more_pairs ds ++ codes "}") (more_pairs_tokens ds)
  more_pairs_print NoPair f = l.close_brace
  more_pairs_print (MorePair x y ds) f =
      as_text (ap (λ z. codes ", " ++ z) (sym (append_assoc (expression x ++ (codes ": " ++ expression y)) (more_pairs ds) (codes "}"))))
      (after_any (inner opened l.comma)
      (after_word (inner opened (after_word (exp_prints x f.0) (p.sep_colon _) (after_any l.colon (exp_prints y f.1)))) (more_pairs_sep ds) (more_pairs_print ds f.2)))

  body_prints : (b : Body) → FitBody b → PrintedWord (body b) (body_tokens b)
  body_prints (OneExp e) f = held_prints (is_held_body (form_of e)) _ _ (exp_prints e f)
  body_prints (ManyStms ss) f = loosen (braced_prints OneLine _ _ (lines_print OneLine ss f))

  declared_prints : (v : OptionExp) (w : Word) → IsFree w → FitOption v → PrintedWord (clause (Let w v)) (declared_tokens v w)
  declared_prints NoneExp w is f = as_text (ap (λ z. codes "let " ++ z) (sym (append-nil w))) (after_any l.let_word (free_prints w is))
  declared_prints (SomeExp e) w is f = after_any l.let_word (after_word (free_prints w is) (p.sep_blank _) (after_any l.assign (exp_prints e f)))

  returned_prints : (v : OptionExp) → FitOption v → Printed (returned v) (returned_tokens v)
  returned_prints NoneExp f = l.return_alone
  returned_prints (SomeExp e) f = after_any l.return_word (after_word (exp_prints e f) (p.sep_semi []) l.semi)

  condition_prints : (c : OptionExp) → FitOption c → PrintedWord (condition c) (condition_tokens c)
  condition_prints NoneExp f = nothing IsUtf8-nil
  condition_prints (SomeExp e) f = exp_prints e f

  step_prints : (s : OptionStm) → FitClause s → PrintedWord (step s) (step_tokens s)
  step_prints NoneStm f = nothing IsUtf8-nil
  step_prints (SomeStm (Let w v)) f = declared_prints v w f.0 f.1
  step_prints (SomeStm (Assign t e)) f = after_word (exp_prints t f.1) (p.sep_blank _) (after_any l.assign (exp_prints e f.2))
  step_prints (SomeStm (Do e)) f = held_prints (is_dict (form_of e)) _ _ (exp_prints e f)
  step_prints (SomeStm (Return v)) f = nothing IsUtf8-nil
  step_prints (SomeStm (Throw e)) f = nothing IsUtf8-nil
  step_prints (SomeStm (If c b o)) f = nothing IsUtf8-nil
  step_prints (SomeStm (While c b)) f = nothing IsUtf8-nil
  step_prints (SomeStm (For s c n b)) f = nothing IsUtf8-nil
  step_prints (SomeStm (ForIn x v e b)) f = nothing IsUtf8-nil
  step_prints (SomeStm (Fun x ws b)) f = nothing IsUtf8-nil
  step_prints (SomeStm (Try b w c)) f = nothing IsUtf8-nil
  step_prints (SomeStm (Block b)) f = nothing IsUtf8-nil

  stm_prints : (at : Layout) (s : Stm) → FitStm s → Printed (statement at s) (stm_tokens s)
  stm_prints at (Let w v) f = after_word (declared_prints v w f.0 f.1) (p.sep_semi []) l.semi
  stm_prints at (Assign t e) f = after_word (after_word (exp_prints t f.1) (p.sep_blank _) (after_any l.assign (exp_prints e f.2))) (p.sep_semi []) l.semi
  stm_prints at (Do e) f = after_word (held_prints (is_dict (form_of e)) _ _ (exp_prints e f)) (p.sep_semi []) l.semi
  stm_prints at (Return v) f = returned_prints v f
  stm_prints at (Throw e) f = after_any l.throw_word (after_word (exp_prints e f) (p.sep_semi []) l.semi)
  stm_prints at (If c b o) f =
      as_text (regroup (codes "if (") (expression c) (codes ") ") _)
      (after_any l.if_open (after_word (exp_prints c f.0) (p.sep_close _) (after_any l.close_blank (after_any (braced_prints at _ _ (lines_print (within at) b f.1)) (else_prints at o f.2)))))
  stm_prints at (While c b) f =
      as_text (regroup (codes "while (") (expression c) (codes ") ") _)
      (after_any l.while_open (after_word (exp_prints c f.0) (p.sep_close _) (after_any l.close_blank (braced_prints at _ _ (lines_print (within at) b f.1)))))
  stm_prints at (For s c n b) f =
      as_text (regroup_seven (codes "for (") (step s) (codes "; ") (condition c) (codes "; ") (step n) (codes ") ") _)
      (as_tokens (ap (λ z. k.For ∷ k.Open ∷ z) (header_tokens (step_tokens s) (condition_tokens c) (step_tokens n) _))
      (after_any l.for_open
      (after_word (step_prints s f.0.0) (p.sep_semi _)
      (after_any l.semi_blank
      (after_word (condition_prints c f.1) (p.sep_semi _)
      (after_any l.semi_blank (after_word (step_prints n f.2.0) (p.sep_close _) (after_any l.close_blank (braced_prints at _ _ (lines_print (within at) b f.3))))))))))
  stm_prints at (ForIn x v e b) f =
      as_text (regroup_five (codes "for (let ") (bound x v) (codes " in ") (expression e) (codes ") ") _)
      (after_any l.for_let
      (after_word (bound_prints x v f.0 f.1) (p.sep_blank _)
      (after_any l.in_word (after_word (exp_prints e f.2) (p.sep_close _) (after_any l.close_blank (braced_prints at _ _ (lines_print (within at) b f.3)))))))
  stm_prints at (Fun x ws b) f =
      as_text (regroup_five (codes "fun ") x (codes "(") (names ws) (codes ") ") _)
      (after_any l.fun_word
      (after_word (free_prints x f.0) (p.sep_open _) (after_any l.open_mark (names_print ws _ _ f.1 (p.sep_close _) (after_any l.close_blank (braced_prints at _ _ (lines_print (within at) b f.2)))))))
  stm_prints at (Try b w c) f =
      after_any l.try_word
      (after_any (braced_prints at _ _ (lines_print (within at) b f.0))
      (as_text (regroup (codes " catch (") w (codes ") ") _) (after_any l.catch_open (after_word (free_prints w f.1) (p.sep_close _) (after_any l.close_blank (braced_prints at _ _ (lines_print (within at) c f.2)))))))
  stm_prints at (Block b) f = braced_prints at _ _ (lines_print (within at) b f)

  else_prints : (at : Layout) (o : OptionStms) → FitElse o → Printed (otherwise at o) (else_tokens o)
  else_prints at NoneStms f = nothing IsUtf8-nil
  else_prints at (SomeStms b) f = after_any l.else_word (braced_prints at _ _ (lines_print (within at) b f))

  lines_print : (at : Layout) (ss : Stms) → FitStms ss → Printed (lines at ss) (stms_tokens ss)
  lines_print at Done f = nothing IsUtf8-nil
  lines_print at (Then s ss) f = after_any (after_any (line_end_prints at) (stm_prints at s f.0)) (lines_print at ss f.1)

pub program_prints : (ss : Stms) → FitStms ss → Prints Code Code Any (printed ss) (stms_tokens ss)
program_prints Done f = nothing IsUtf8-nil
program_prints (Then s ss) f =
    as_text (sym (append_assoc (statement (Lines 0) s) (10 ∷ []) (printed ss))) (after_any (stm_prints (Lines 0) s f.0) (after_any l.line_feed (program_prints ss f.1)))
