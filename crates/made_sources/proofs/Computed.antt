-- Sources whose whole programs are computed.
use Rattle.std.proofs.Common.{◌≡◌, ◌≤◌, ℕ, List, length, true, Option, Some, None, Result, Ok, Err, refl, subst, lit≤}
use Rattle.std.specs.Str.{is_utf8, chars}
use lib.Utf8.{encode}
use Rattle.std.proofs.lemmas.Str.{IsUtf8-from_is_utf8}
use Rattle.hog_tree.specs.Plain.{Stms}
use Rattle.hog_value.specs.Natives.{native_named}
use Rattle.hog_grammar.specs.Bytes.{class, is_pair, is_text_escape}
use Rattle.hog_grammar.specs.declared.token.Token.{Token}
use Rattle.hog_grammar.specs.Pieces.{IsTokensOf, Lexed}
use Rattle.hog_grammar.specs.Terminal.{terminals, word, mark}
use Rattle.hog_reading.specs.Read.{Got, Fault, some, listing, several, braced, first, step, climb, leveled}
use Rattle.hog_reading.specs.ReadStatements.{plain, start_of, governed, run_through, begun, readers, program}
use Rattle.hog_spelling.proofs.FromReading.{found}
use Rattle.hog_scope.specs.declared.item.Item.{Item}
use Rattle.hog_scope.specs.Scopes as n
use Rattle.hog_scope.specs.Scopes.{items_of}
use Rattle.hog_program.specs.Prelude.{with_prelude}
use Rattle.hog_program.specs.Source.{longest, highest}
use Rattle.hog_program.specs.Build.{IsSource, IsBuilt}
use Rattle.made_sources.specs.Sources.{echo_source, high_source, sum_source, high_filter, echo_tree, high_tree, sum_tree, high_filter_tree}
use Rattle.made_sources.proofs.Cutting.{tokens_of, tokens_are}

-- a whole program whose names are without fault
abbrev named : Stms → Result (List Item) n.Fault → Option Stms
named whole (Ok items) = Some whole
named whole (Err fault) = None

-- the whole of the program that is read of a text
abbrev with_names : Lexed → Result (Got Stms) Fault → Option Stms
with_names c (Ok g) = named (with_prelude c g.tree) (items_of (with_prelude c g.tree))
with_names c (Err fault) = None

abbrev read : List ℕ → Option (List Token) → Option Stms
read text (Some list) = with_names (record { text = text; list = list }) (program highest (terminals text list))
read text None = None

-- the whole program of a text without templates, if it is built
abbrev whole_of : List ℕ → Option Stms
whole_of text = read text (tokens_of text)

same_whole : (a b : Stms) → Some a ≡ Some b → a ≡ b
same_whole a b is = cc

named_is : (text : List ℕ) (whole tree : Stms) → IsSource text whole → (items : Result (List Item) n.Fault) → items_of whole ≡ items
    → named whole items ≡ Some tree → IsBuilt text tree
named_is text whole tree source (Ok items) resolved is =
    subst (IsBuilt text) (same_whole whole tree is) (record { source = source; items = items; resolved = resolved })
named_is text whole tree source (Err fault) resolved is = absurd (cc)

with_names_is : (text : List ℕ) (list : List Token) (tree : Stms) → length text ≤ longest → IsTokensOf text list
    → (got : Result (Got Stms) Fault) → program highest (terminals text list) ≡ got
    → with_names (record { text = text; list = list }) got ≡ Some tree → IsBuilt text tree
with_names_is text list tree short cut (Ok g) reads is =
    let spelled = found highest (terminals text list) g reads in
    let whole = with_prelude (record { text = text; list = list }) g.tree in
    let source : IsSource text whole = record {
      program = g.tree;
      is = record { short = short; list = list; cut = cut; height = spelled.0; spelled = spelled.2; low = spelled.1 };
      is_whole = refl;
    } in
    named_is text whole tree source (items_of whole) refl is
with_names_is text list tree short cut (Err fault) reads is = absurd (cc)

read_is : (text : List ℕ) (tree : Stms) → length text ≤ longest → is_utf8 text ≡ true → (list : Option (List Token)) → tokens_of text ≡ list
    → read text list ≡ Some tree → IsBuilt text tree
read_is text tree short utf8 (Some list) tokens is =
    with_names_is text list tree short (tokens_are text list (IsUtf8-from_is_utf8 text utf8) tokens) (program highest (terminals text list)) refl is
read_is text tree short utf8 None tokens is = absurd (cc)

is_built : (text : List ℕ) (tree : Stms) → length text ≤ longest → is_utf8 text ≡ true → whole_of text ≡ Some tree → IsBuilt text tree
is_built text tree short utf8 is = read_is text tree short utf8 (tokens_of text) refl is

utf8 : (is_utf8 echo_source ≡ true) × (is_utf8 high_source ≡ true) × (is_utf8 sum_source ≡ true) × (is_utf8 high_filter ≡ true)
unfolding is_utf8 chars encode
utf8 = (refl, refl, refl, refl)

wholes : (whole_of echo_source ≡ Some echo_tree) × (whole_of high_source ≡ Some high_tree) × (whole_of sum_source ≡ Some sum_tree)
    × (whole_of high_filter ≡ Some high_filter_tree)
unfolding class is_pair is_text_escape word mark some listing several braced first step climb leveled plain start_of governed run_through begun readers program native_named
wholes = (refl, refl, refl, refl)

pub echo_is : IsBuilt echo_source echo_tree
echo_is = is_built echo_source echo_tree (lit≤ tt) utf8.0 wholes.0

pub high_is : IsBuilt high_source high_tree
high_is = is_built high_source high_tree (lit≤ tt) utf8.1 wholes.1

pub sum_is : IsBuilt sum_source sum_tree
sum_is = is_built sum_source sum_tree (lit≤ tt) utf8.2 wholes.2

pub filter_is : IsBuilt high_filter high_filter_tree
filter_is = is_built high_filter high_filter_tree (lit≤ tt) utf8.3 wholes.3
