-- The prelude: functions in Hog that a program may use, and where they are placed.
use Rattle.std.specs.Prelude.{ℕ, pos, List, [], ◌∷◌, Bool, true, false, None, ◌&&◌, codes, bytes_eq, slice_range, sum_by, if◌then◌else◌}
use Rattle.std.specs.List.{list_any}
use Rattle.hog_tree.specs.declared.tree.BinaryOp.TheVariants.{Plus}
use Rattle.hog_tree.specs.Plain.{Word, Exp, Int, Truth, Name, Array, Binary, Index, Call, NoExp, MoreExp, Stm, Let, Assign, Return, If, ForIn, Fun, Block, Stms, Done, Then, SomeExp, NoneStms}
use Rattle.hog_grammar.specs.declared.token.Token.{Token}
use Rattle.hog_grammar.specs.declared.token.TokenKind.{TokenKind}
use Rattle.hog_grammar.specs.declared.token.TokenKind.TheVariants as k
use Rattle.hog_grammar.specs.Pieces.{Lexed}
use Rattle.hog_scope.specs.Literals.{item_count}
use Rattle.hog_scope.specs.Words.{stms_words}

-- `f(x)`, `length(r) + 1`, and `r[length(r) + 1] := e;`
abbrev calls : Word → Word → Exp
calls f x = Call (Name f) (MoreExp (Name x) NoExp)

abbrev next_place : Exp
next_place = Binary Plus (calls (codes "length") (codes "r")) (Int (pos 1))

abbrev appends : Exp → Stm
appends e = Assign (Index (Name (codes "r")) next_place) e

-- `let r := []; for (let x in a) { each } return r;`
abbrev collects : Stm → Stms
collects each = Then (Let (codes "r") (SomeExp (Array NoExp)))
    (Then (ForIn None (codes "x") (Name (codes "a")) (Then each Done))
    (Then (Return (SomeExp (Name (codes "r")))) Done))

-- a function of the prelude: each has the parameters f and a
abbrev takes_function : Word → Stms → Stm
takes_function name body = Fun name (codes "f" ∷ codes "a" ∷ []) body

-- `f(x)` of each item
abbrev pub array_map : Stm
array_map = takes_function (codes "arrayMap") (collects (appends (calls (codes "f") (codes "x"))))

-- the items for which `f(x)` is true
abbrev pub array_filter : Stm
array_filter = takes_function (codes "arrayFilter")
    (collects (If (calls (codes "f") (codes "x")) (Then (appends (Name (codes "x"))) Done) NoneStms))

-- whether `f(x)` is true for an item
abbrev pub array_exists : Stm
array_exists = takes_function (codes "arrayExists")
    (Then (ForIn None (codes "x") (Name (codes "a"))
    (Then (If (calls (codes "f") (codes "x")) (Then (Return (SomeExp (Truth true))) Done) NoneStms) Done))
    (Then (Return (SomeExp (Truth false))) Done))

-- the functions with their names, in the order in which they are placed
abbrev pub prelude : List (Word × Stm)
prelude = (codes "arrayMap", array_map) ∷ (codes "arrayFilter", array_filter) ∷ (codes "arrayExists", array_exists) ∷ []

abbrev pub is_word_kind : TokenKind → Bool
is_word_kind k.Word = true
is_word_kind _ = false

-- whether the word stands among the tokens of a text, as whatever
abbrev pub mentions : Lexed → Word → Bool
mentions c name = list_any (λ (t : Token). is_word_kind t.kind && bytes_eq (slice_range c.text t.from t.to) name) c.list

-- the functions that a text mentions, before these statements
abbrev pub placed : Lexed → List (Word × Stm) → Stms → Stms
placed c [] rest = rest
placed c (f ∷ fs) rest = if mentions c f.0 then Then f.1 (placed c fs rest) else placed c fs rest

-- A program with what it mentions of the prelude: the functions stand before it, and its statements are then a block
-- of their own.
abbrev pub with_prelude : Lexed → Stms → Stms
with_prelude c program =
    if list_any (λ (f : Word × Stm). mentions c f.0) prelude then placed c prelude (Then (Block program) Done) else program

-- how many words that name something stand in front of the text's own: those of the functions that are placed before it
abbrev pub words_in_front : Lexed → ℕ
words_in_front c = sum_by item_count (stms_words (placed c prelude Done))
