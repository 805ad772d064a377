-- After all tokens no name is left.
use Rattle.std.proofs.Common.{◌≡◌, ℕ, Bool, true, List, [], ◌∷◌, ◌++◌, Option, None, drop, refl, sym, ap, ◌∙◌, append-nil}
use Rattle.hog_tree.specs.declared.tree.Named.{Named}
use Rattle.hog_grammar.specs.declared.token.Token.{Token}
use Rattle.hog_grammar.specs.Pieces.{Lexed}
use Rattle.hog_grammar.specs.Terminal.{terminals}
use Rattle.hog_grammar.specs.Names.{names_after}
use Rattle.hog_grammar.specs.Forms.{ends_block}
use Rattle.hog_terms.specs.Marks.{after_close_brace}
use Rattle.hog_terms.specs.View.{left, named_from}
use Rattle.hog_spelling.proofs.SoundLoops.{end_or}

none_left : (dot : Bool) (text : List ℕ) (ts : List Token) → terminals text ts ≡ [] → names_after dot text ts ≡ []
none_left dot text [] is = refl
none_left dot text (t ∷ ts) is = absurd (cc)

-- the names of what was read are all, where it ends at no brace
pub all_named : (c : Lexed) (at : ℕ) (names all : List Named) → ends_block (left c at) ≡ true → after_close_brace (left c at) ≡ None
    → all ≡ names ++ named_from c at → names ≡ all
all_named c at names all over none is =
    sym (is ∙ ap (λ z. names ++ z) (none_left _ c.text (drop at c.list) (end_or (left c at) over none)) ∙ append-nil names)
