-- Refusals of the lexer, of the parser and of names as refusals of a source.
use Rattle.hog_tokens.specs.declared.lexer.LexStop.{LexStop}
use Rattle.hog_tokens.specs.declared.lexer.LexStop.TheVariants as lex
use Rattle.hog_parser.specs.declared.parsing.ParseStop.{ParseStop}
use Rattle.hog_parser.specs.declared.parsing.ParseStop.TheVariants as parse
use Rattle.hog_scope.specs.declared.stop.ScopeStop.{ScopeStop}
use Rattle.hog_scope.specs.declared.stop.ScopeStop.TheVariants as scope
use Rattle.hog_program.specs.declared.stop.BuildStop.{BuildStop}
use Rattle.hog_program.specs.declared.stop.BuildStop.TheVariants as stop

abbrev pub of_lex : LexStop → BuildStop
of_lex (lex.NotUtf8 at) = stop.NotUtf8 at
of_lex (lex.BadByte at) = stop.BadByte at
of_lex (lex.Unclosed at) = stop.Unclosed at
of_lex (lex.TooLarge at) = stop.TooLarge at
of_lex lex.OutOfMemory = stop.OutOfMemory

abbrev pub of_parse : ParseStop → BuildStop
of_parse (parse.Syntax at) = stop.Syntax at
of_parse (parse.TooNested at) = stop.TooNested at
of_parse parse.OutOfMemory = stop.OutOfMemory

abbrev pub of_scope : ScopeStop → BuildStop
of_scope (scope.AlreadyDeclared at) = stop.AlreadyDeclared at
of_scope (scope.AssignsUnknown at) = stop.AssignsUnknown at
of_scope (scope.UnknownFunction at) = stop.UnknownFunction at
of_scope (scope.WrongCount at) = stop.WrongCount at
of_scope scope.OutOfMemory = stop.OutOfMemory
