use Rattle.std.proofs.Common.{◌≡◌}
use Rattle.hog_tree.specs.View.{stms_from}
use Rattle.hog_reading.specs.Read.{got}
use Rattle.hog_terms.specs.View.{left}
use Rattle.hog_spelling.proofs.FromReading.{no_syntax, too_high}
use Rattle.hog_parser.proofs.Parsed.{found_in, count_in, nesting_in, late_in}
use Rattle.hog_parser.proofs.parsing.parse.Goals as goal

pub returns-in-Ok-clause-found : goal.returns-in-Ok-clause-found
returns-in-Ok-clause-found c = found_in c.args.tokens.now (got (stms_from c.in-Ok.found.tree.list.items) c.in-Ok.found.height (left c.args.tokens.now c.in-Ok.found.at)) c.in-Ok.ensures.gives

pub returns-in-Ok-clause-count : goal.returns-in-Ok-clause-count
returns-in-Ok-clause-count c = count_in c.args.tokens.now (got (stms_from c.in-Ok.found.tree.list.items) c.in-Ok.found.height (left c.args.tokens.now c.in-Ok.found.at)) c.in-Ok.ensures.gives

pub returns-in-Ok-clause-nesting : goal.returns-in-Ok-clause-nesting
returns-in-Ok-clause-nesting c = nesting_in c.args.tokens.now (got (stms_from c.in-Ok.found.tree.list.items) c.in-Ok.found.height (left c.args.tokens.now c.in-Ok.found.at)) c.in-Ok.ensures.gives

pub returns-in-Syntax-clause-syntax : goal.returns-in-Syntax-clause-syntax
returns-in-Syntax-clause-syntax c =
    let bad = rw c.in-Syntax.is at c.in-Err.ensures.gives in
    λ at e tree h. no_syntax 100 (left c.args.tokens.now 0) bad tree h

pub returns-in-TooNested-clause-nested : goal.returns-in-TooNested-clause-nested
returns-in-TooNested-clause-nested c =
    let late = rw c.in-TooNested.is at c.in-Err.ensures.gives in
    λ at e tree h. too_high 100 _ (left c.args.tokens.now 0) late tree h

pub returns-in-TooNested-clause-after_forty : goal.returns-in-TooNested-clause-after_forty
returns-in-TooNested-clause-after_forty c =
    let late = rw c.in-TooNested.is at c.in-Err.ensures.gives in
    λ at e. (let same : c.place_of-in-TooNested.result ≡ at = cc in rw (← same) (late_in c.args.tokens.now c.in-TooNested.index c.place_of-in-TooNested.result late c.place_of-in-TooNested.ensures.token c.place_of-in-TooNested.ensures.end))
