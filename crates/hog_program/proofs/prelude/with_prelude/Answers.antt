use Rattle.std.proofs.Common.{◌≡◌, codes, drop, ap, ◌∙◌, arith}
use Rattle.std.specs.List.{flat_map}
use Rattle.hog_tree.specs.Names.{stm_names, tree_names}
use Rattle.hog_tree.specs.Plain.{Done, Block}
use Rattle.hog_tree.specs.View.{stms_from, tree_of}
use Rattle.hog_tree.specs.declared.tree.Stmt as s
use Rattle.hog_tree.specs.declared.tree.Stmts.{roll-Stmts}
use Rattle.hog_tree.proofs.Rows.{add_stm, block_is}
use Rattle.hog_program.specs.Placing.{added}
use Rattle.hog_program.specs.Prelude.{array_map, array_filter, array_exists, mentions, words_in_front}
use Rattle.hog_program.proofs.Places.{behind_names, placed_count}
use Rattle.hog_reading.proofs.NameRows.{block_names}
use Rattle.hog_program.proofs.Preludes.{functions, some_placed, some_statement, one_behind, not_empty}
use Rattle.hog_program.proofs.prelude.with_prelude.Goals as goal

-- the functions that were placed
all_placed : (c : goal.In_ok-push) → stms_from c.place_exists.new.list.items
    ≡ functions (mentions c.args.tokens.now (codes "arrayMap")) (mentions c.args.tokens.now (codes "arrayFilter")) (mentions c.args.tokens.now (codes "arrayExists"))
all_placed c =
    let maps = mentions c.args.tokens.now (codes "arrayMap") in
    let filters = mentions c.args.tokens.now (codes "arrayFilter") in
    let tests = mentions c.args.tokens.now (codes "arrayExists") in
    let first : stms_from c.place_map.new.list.items ≡ added maps array_map Done = c.in_ok-place_map.ensures ∙ ap (λ xs. added maps array_map (stms_from xs)) c.new-list.ensures.items in
    let second = c.in_ok-place_filter.ensures ∙ ap (added filters array_filter) first in
    c.in_ok-place_exists.ensures ∙ ap (added tests array_exists) second

pub returns-clause-whole : goal.returns-clause-whole
returns-clause-whole c =
    let maps = mentions c.args.tokens.now (codes "arrayMap") in
    let filters = mentions c.args.tokens.now (codes "arrayFilter") in
    let tests = mentions c.args.tokens.now (codes "arrayExists") in
    let all = all_placed c in
    let some = some_placed maps filters tests (tree_of c.args.program) (λ none. some_statement c.place_exists.new.list.items (λ zero. not_empty _ _ c.if-is_empty.ensures (omega (arith, c.place_exists.new.list.ok.0)) zero) (all ∙ none)) in
    ap stms_from c.in_ok-push.ensures.items ∙ one_behind c.place_exists.new.list.items _ ∙ ap (λ x. add_stm (stms_from c.place_exists.new.list.items) x) (block_is c.args.program.stmts)
    ∙ ap (λ xs. add_stm xs (Block (tree_of c.args.program))) all ∙ some

pub returns-clause-names : goal.returns-clause-names
returns-clause-names c =
    let count = placed_count c.args.tokens.now (record { stmts = roll-Stmts (record { list = c.place_exists.new.list }) }) (all_placed c) in
    ap (λ xs. drop (words_in_front c.args.tokens.now) (flat_map stm_names xs)) c.in_ok-push.ensures.items
    ∙ behind_names (words_in_front c.args.tokens.now) c.place_exists.new.list.items (s.Block c.args.program.stmts) (tree_names c.args.program) count (block_names c.args.program.stmts)
