use Rattle.std.proofs.Common.{◌≡◌, length, Err, Result, sym, ap, ◌∙◌, subst, inl}
use Rattle.std.proofs.lemmas.Result.{err_from_is_err_and}
use Rattle.hog_grammar.specs.Pieces.{Lexed, AreInOrder}
use Rattle.hog_grammar.proofs.Sizes.{in_order}
use Rattle.hog_tokens.specs.declared.lexer.LexStop.{LexStop}
use Rattle.hog_tokens.specs.declared.lexer.LexStop.TheVariants.{NotUtf8}
use Rattle.hog_tokens.specs.View.{Reads, stop_of}
use Rattle.hog_tokens.proofs.Answer.{no_valid, one_valid, no_memory, that_fault, same_err, refuses}
use Rattle.hog_tokens.proofs.TextLaws.{one_list, not_both}
use Rattle.hog_tokens.proofs.lexer.lex.Goals as goal
use Rattle.hog_tokens.proofs.lexer.lex.Goals.{After-from_residual}

-- what the exit of `?` answers is what cutting answered
same_answer : (c : After-from_residual) → c.from_residual.result ≡ Err c.in_err-list.field-0.0
same_answer c = let p = err_from_is_err_and c.from_residual.result c.from_residual.ensures.1 in same_err c.from_residual.result p.0 c.in_err-list.field-0.0 p.1 p.2

pub returns-in-Err-clause-due_not_utf8 : goal.returns-in-Err-clause-due_not_utf8
returns-in-Err-clause-due_not_utf8 c = λ at v. inl (ap (λ n. Err (NotUtf8 n)) (c.valid_up_to.ensures ∙ one_valid c.args.text.now _ at c.in-Err.ensures.cases.1 v))

pub returns-in_err-list-clause-due_tokens : goal.returns-in_err-list-clause-due_tokens
returns-in_err-list-clause-due_tokens c = λ list t. subst (λ (r : Result Lexed LexStop). Reads r list) (sym (same_answer c)) (no_memory c.args.text.now list _ c.in_err-list.ensures.fault t)

pub returns-in_err-list-clause-due_not_utf8 : goal.returns-in_err-list-clause-due_not_utf8
returns-in_err-list-clause-due_not_utf8 c = λ at v. absurd (no_valid c.args.text.now at c.in_default.ensures.cases.1 v)

pub returns-in_err-list-clause-due_fault : goal.returns-in_err-list-clause-due_fault
returns-in_err-list-clause-due_fault c = λ f at _ h. refuses c.from_residual.result _ (stop_of f at) (same_answer c) (that_fault c.args.text.now f at _ c.in_err-list.ensures.fault h)

pub returns-clause-in_order : goal.returns-clause-in_order
returns-clause-in_order c = subst (λ (t : Lexed). AreInOrder 0 t.list (length c.args.text.now)) (sym c.new.ensures) (in_order c.args.text.now c.in_ok-list.list.items c.in_ok-list.ensures.tokens)

pub returns-clause-due_tokens : goal.returns-clause-due_tokens
returns-clause-due_tokens c = λ list t. ap (λ (x : Lexed). x.list) c.new.ensures ∙ one_list c.args.text.now c.in_ok-list.list.items list c.in_ok-list.ensures.tokens t

pub returns-clause-due_not_utf8 : goal.returns-clause-due_not_utf8
returns-clause-due_not_utf8 c = λ at v. absurd (no_valid c.args.text.now at c.in_default.ensures.cases.1 v)

pub returns-clause-due_fault : goal.returns-clause-due_fault
returns-clause-due_fault c = λ f at _ h. absurd (not_both c.args.text.now _ f at c.in_ok-list.ensures.tokens h.stands)
