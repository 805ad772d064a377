use Rattle.std.proofs.Common.{map, sym, ap, ◌∙◌, ◌++◌}
use Rattle.std.specs.List.{flat_map}
use Rattle.hog_scope.specs.Events.{event_of, stmt_words}
use Rattle.hog_scope.proofs.Runs.{stms_listed}
use Rattle.hog_scope.proofs.words.words.Goals as goal

pub returns-clause-words : goal.returns-clause-words
returns-clause-words c =
    c.in_ok-stmts.ensures.words_added
    ∙ ap (λ es. map event_of es ++ flat_map stmt_words c.args.t.now.stmts.list.items) c.new-out.ensures.items
    ∙ sym (stms_listed c.args.t.now.stmts.list.items)
