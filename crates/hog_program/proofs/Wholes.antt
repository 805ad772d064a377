-- Whole programs of sources, and faults of their names.
use Rattle.std.proofs.Common.{◌≡◌, ℕ, ◌≤◌, List, length, drop, Some, Result, Ok, Err, refl, sym, ap, ◌∙◌, subst, arith}
use Rattle.std.specs.Prelude.{slice_get}
use Rattle.hog_tree.specs.Plain.{Stms}
use Rattle.hog_tree.specs.declared.tree.Named.{Named}
use Rattle.hog_tree.specs.declared.tree.Tree.{Tree}
use Rattle.hog_tree.specs.Names.{tree_names}
use Rattle.hog_tree.specs.View.{tree_of}
use Rattle.hog_grammar.specs.Names.{names_in}
use Rattle.hog_grammar.specs.declared.token.Token.{Token}
use Rattle.hog_grammar.specs.Laws.{OneList}
use Rattle.hog_grammar.specs.Pieces.{IsTokensOf, Lexed}
use Rattle.hog_grammar.specs.Spelling.{Spells, OneTree}
use Rattle.hog_grammar.specs.Terminal.{terminals}
use Rattle.hog_scope.specs.declared.item.Item.{Item}
use Rattle.hog_scope.specs.declared.stop.ScopeStop.{ScopeStop}
use Rattle.hog_scope.specs.Scopes.{Cause, AlreadyDeclared, AssignsUnknown, UnknownFunction, WrongCount, Fault, items_of}
use Rattle.hog_scope.specs.Stops.{located, place_of_name, stop_at}
use Rattle.hog_program.specs.declared.stop.BuildStop.{BuildStop}
use Rattle.hog_program.specs.declared.stop.BuildStop.TheVariants as stop
use Rattle.hog_program.specs.Stops.{of_scope}
use Rattle.hog_program.specs.Prelude.{with_prelude, words_in_front}
use Rattle.hog_program.specs.Source.{IsProgram, IsNone, longest, highest}
use Rattle.hog_program.specs.Build.{IsSource, IsBuilt, HasFault, IsUnbuilt}
use Rattle.hog_program.proofs.Places.{IsOwn, own_word}

-- what is no program isn't built
pub none_unbuilt : (text : List ℕ) (s : BuildStop) → IsNone text s → IsUnbuilt text s
none_unbuilt text stop.TooLong none = none
none_unbuilt text (stop.NotUtf8 at) none = none
none_unbuilt text (stop.BadByte at) none = none
none_unbuilt text (stop.Unclosed at) none = none
none_unbuilt text (stop.TooLarge at) none = none
none_unbuilt text (stop.Syntax at) none = none
none_unbuilt text (stop.TooNested at) none = none
none_unbuilt text (stop.AlreadyDeclared at) none = absurd none
none_unbuilt text (stop.AssignsUnknown at) none = absurd none
none_unbuilt text (stop.UnknownFunction at) none = absurd none
none_unbuilt text (stop.WrongCount at) none = absurd none
none_unbuilt text stop.OutOfMemory none = none

-- the whole of a text whose tokens and tree these are
abbrev pub source_of : (text : List ℕ) (c : Lexed) (program whole : Stms) (height : ℕ) → c.text ≡ text → length text ≤ longest → IsTokensOf text c.list
    → height ≤ highest → Spells program (terminals c.text c.list) height → whole ≡ with_prelude c program → IsSource text whole
source_of text c program whole height same short cut low spelled is_whole = record {
  program = program;
  is = record { short = short; list = c.list; cut = cut; height = height; spelled = subst (λ t. Spells program (terminals t c.list) height) same spelled; low = low };
  is_whole = subst (λ t. whole ≡ with_prelude (record { text = t; list = c.list }) program) same is_whole;
}

-- what names are without fault
pub resolved : (names : List Named) (r : Result (List Item) Fault) (items : List Item) → located names r ≡ Ok items → r ≡ Ok items
resolved names (Ok found) items is = cc
resolved names (Err fault) items is = absurd (cc)

of_cause : (text : List ℕ) (whole : Stms) (source : IsSource text whole) (names : List Named) (fault : Fault) → items_of whole ≡ Err fault
    → IsOwn text source.is.list names fault.word → (cause : Cause) → cause ≡ fault.cause
    → IsUnbuilt text (of_scope (stop_at cause (place_of_name (slice_get names fault.word))))
of_cause text whole source names fault found own cause is = by cause (has cause is)
  where
    has : (cause : Cause) → cause ≡ fault.cause → HasFault text cause (place_of_name (slice_get names fault.word))
    has cause is = record {
      whole = whole;
      source = source;
      fault = fault;
      found = found;
      is = is;
      before = own.before;
      behind = own.behind;
      name = own.name;
      named = own.named;
      place = ap place_of_name own.there;
    }

    by : (cause : Cause) → HasFault text cause (place_of_name (slice_get names fault.word)) → IsUnbuilt text (of_scope (stop_at cause (place_of_name (slice_get names fault.word))))
    by AlreadyDeclared h = h
    by AssignsUnknown h = h
    by UnknownFunction h = h
    by WrongCount h = h

abbrev unnamed : ScopeStop → Result (List Item) ScopeStop
unnamed e = Err e

err_is : (a b : ScopeStop) → unnamed a ≡ unnamed b → a ≡ b
err_is a b is = cc

-- names with a fault
pub faulty : (text : List ℕ) (whole : Stms) (source : IsSource text whole) (names : List Named)
    → ((f : Fault) → items_of whole ≡ Err f → IsOwn text source.is.list names f.word)
    → (r : Result (List Item) Fault) → items_of whole ≡ r → (e : ScopeStop) → located names r ≡ Err e → IsUnbuilt text (of_scope e)
faulty text whole source names own (Ok items) found e is = absurd (cc)
faulty text whole source names own (Err fault) found e is =
    subst (λ x. IsUnbuilt text (of_scope x)) (err_is _ e is) (of_cause text whole source names fault found (own fault found) fault.cause refl)

-- the faulty word of a whole program is one of the text's own
pub own_of : (text : List ℕ) (c : Lexed) (t : Tree) (whole : Stms) (names : List Named) → c.text ≡ text → whole ≡ with_prelude c (tree_of t)
    → tree_names t ≡ names_in c.text c.list → drop (words_in_front c) names ≡ tree_names t
    → (f : Fault) → items_of whole ≡ Err f → IsOwn text c.list names f.word
own_of text c t whole names same is_whole named behind f found =
    subst (λ x. IsOwn x c.list names f.word) same (own_word c t names named behind f (ap items_of (sym is_whole) ∙ found))

-- a text has one whole program at most
pub one_source : OneList → OneTree → (text : List ℕ) (a b : Stms) → IsSource text a → IsSource text b → a ≡ b
one_source one tree text a b p q =
    let lists = one text p.is.list q.is.list p.is.cut q.is.cut in
    let spelled = subst (λ (l : List Token). Spells p.program (terminals text l) p.is.height) lists p.is.spelled in
    let programs = (tree p.program q.program (terminals text q.is.list) p.is.height q.is.height spelled q.is.spelled).0 in
    p.is_whole
    ∙ ap (λ (l : List Token). with_prelude (record { text = text; list = l }) p.program) lists
    ∙ ap (with_prelude (record { text = text; list = q.is.list })) programs
    ∙ sym q.is_whole

no_fault : OneList → OneTree → (text : List ℕ) (whole : Stms) (cause : Cause) (at : ℕ) → IsBuilt text whole → HasFault text cause at → ⊥
no_fault one tree text whole cause at b f =
    let same = one_source one tree text f.whole whole f.source b.source in
    differs (items_of whole) b.items f.fault b.resolved (subst (λ w. items_of w ≡ Err f.fault) same f.found)
  where
    differs : (r : Result (List Item) Fault) (items : List Item) (fault : Fault) → r ≡ Ok items → r ≡ Err fault → ⊥
    differs r items fault p q = absurd (cc)

-- a text has one fault of its names at most
pub same_fault : OneList → OneTree → (text : List ℕ) (a b : Cause) (m n : ℕ) → HasFault text a m → HasFault text b n → (a ≡ b) × (m ≡ n)
same_fault one tree text a b m n p q =
    let wholes = one_source one tree text p.whole q.whole p.source q.source in
    let lists = one text p.source.is.list q.source.is.list p.source.is.cut q.source.is.cut in
    let faults = err_same p.fault q.fault (sym p.found ∙ ap items_of wholes ∙ q.found) in
    let front = ap (λ (l : List Token). words_in_front (record { text = text; list = l })) lists in
    let words = ap (λ (f : Fault). f.word) faults in
    let befores : p.before ≡ q.before = omega (arith, p.behind, q.behind, words, front) in
    let names = some_same p.name q.name
    (sym p.named ∙ ap (λ (l : List Token). slice_get (names_in text l) p.before) lists ∙ ap (slice_get (names_in text q.source.is.list)) befores ∙ q.named) in
    (p.is ∙ ap (λ (f : Fault). f.cause) faults ∙ sym q.is, p.place ∙ ap (λ (x : Named). x.at) names ∙ sym q.place)
  where
    err_same : (f g : Fault) → ◌≡◌ {A = Result (List Item) Fault} (Err f) (Err g) → f ≡ g
    err_same f g is = cc

    some_same : (x y : Named) → Some x ≡ Some y → x ≡ y
    some_same x y is = cc

pub never_both : ((source : List ℕ) (tree : Stms) (s : BuildStop) → IsProgram source tree → IsNone source s → ⊥) → OneList → OneTree
    → (text : List ℕ) (whole : Stms) (s : BuildStop) → IsBuilt text whole → IsUnbuilt text s → ⊥
never_both none one tree text whole stop.TooLong b u = none text b.source.program stop.TooLong b.source.is u
never_both none one tree text whole (stop.NotUtf8 at) b u = none text b.source.program (stop.NotUtf8 at) b.source.is u
never_both none one tree text whole (stop.BadByte at) b u = none text b.source.program (stop.BadByte at) b.source.is u
never_both none one tree text whole (stop.Unclosed at) b u = none text b.source.program (stop.Unclosed at) b.source.is u
never_both none one tree text whole (stop.TooLarge at) b u = none text b.source.program (stop.TooLarge at) b.source.is u
never_both none one tree text whole (stop.Syntax at) b u = none text b.source.program (stop.Syntax at) b.source.is u
never_both none one tree text whole (stop.TooNested at) b u = none text b.source.program (stop.TooNested at) b.source.is u
never_both none one tree text whole (stop.AlreadyDeclared at) b u = no_fault one tree text whole AlreadyDeclared at b u
never_both none one tree text whole (stop.AssignsUnknown at) b u = no_fault one tree text whole AssignsUnknown at b u
never_both none one tree text whole (stop.UnknownFunction at) b u = no_fault one tree text whole UnknownFunction at b u
never_both none one tree text whole (stop.WrongCount at) b u = no_fault one tree text whole WrongCount at b u
never_both none one tree text whole stop.OutOfMemory b u = u
