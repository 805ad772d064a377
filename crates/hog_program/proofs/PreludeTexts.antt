-- The texts of the prelude's functions are those of its trees.
use Rattle.std.proofs.Common.{◌≡◌, ℕ, suc, pos, ◌*◌, ◌<◌, ◌≤◌, List, [], ◌∷◌, length, codes, refl, sym, subst, arith}
use Rattle.std.specs.Fmt.{digits}
use Rattle.hog_tree.specs.declared.tree.BinaryOp.TheVariants.{Plus}
use Rattle.hog_tree.specs.Plain.{Stm, Stms, Done, Then, Name, Call, Binary, Int, MoreExp, NoExp}
use Rattle.hog_grammar.specs.Bytes.{class, Letter, is_word, AllOf}
use Rattle.hog_grammar.specs.Spelling.{Spells}
use Rattle.hog_grammar.specs.Terminal.{Terminal, terminals, word}
use Rattle.hog_grammar.specs.Terminal as k
use Rattle.hog_reading.specs.ReadStatements.{program}
use Rattle.hog_spelling.proofs.Comes.{Ends, ends, deeper}
use Rattle.hog_spelling.proofs.Complete.{program_reads}
use Rattle.hog_spelling.proofs.Nested.{passed_late}
use Rattle.hog_printer.specs.Print.{printed}
use Rattle.hog_printer.proofs.Fit.{IsFree, FitStms, FitExp}
use Rattle.hog_printer.proofs.Tokens.{stms_tokens}
use Rattle.hog_printer.proofs.Pieces.{has_tokens}
use Rattle.hog_printer.proofs.Printed.{program_prints}
use Rattle.hog_printer.proofs.Spelled.{program_spelled}
use Rattle.hog_program.specs.Prelude.{array_map, array_filter, array_exists}
use Rattle.hog_program.specs.Source.{IsProgram, longest, highest}

abbrev pub map_text : List ℕ
map_text = codes "fun arrayMap(f, a) {\n    let r := [];\n    for (let x in a) {\n        r[length(r) + 1] := f(x);\n    }\n    return r;\n}\n"

abbrev pub filter_text : List ℕ
filter_text = codes "fun arrayFilter(f, a) {\n    let r := [];\n    for (let x in a) {\n        if (f(x)) {\n            r[length(r) + 1] := x;\n        }\n    }\n    return r;\n}\n"

abbrev pub exists_text : List ℕ
exists_text = codes "fun arrayExists(f, a) {\n    for (let x in a) {\n        if (f(x)) {\n            return true;\n        }\n    }\n    return false;\n}\n"

free_word : (first : ℕ) (others : List ℕ) → class first ≡ Letter → AllOf is_word others → word (first ∷ others) ≡ k.Word (first ∷ others) → IsFree (first ∷ others)
free_word first others letter all free = record { is_word = record { first = first; others = others; bytes = refl; letter = letter; all = all }; free = free }

f_free : IsFree (codes "f")
unfolding class word
f_free = free_word 102 [] refl tt refl

a_free : IsFree (codes "a")
unfolding class word
a_free = free_word 97 [] refl tt refl

r_free : IsFree (codes "r")
unfolding class word
r_free = free_word 114 [] refl tt refl

x_free : IsFree (codes "x")
unfolding class word
x_free = free_word 120 [] refl tt refl

length_free : IsFree (codes "length")
unfolding class word
length_free = free_word 108 (codes "ength") refl (refl, (refl, (refl, (refl, (refl, tt))))) refl

map_free : IsFree (codes "arrayMap")
unfolding class word
map_free = free_word 97 (codes "rrayMap") refl (refl, (refl, (refl, (refl, (refl, (refl, (refl, tt))))))) refl

filter_free : IsFree (codes "arrayFilter")
unfolding class word
filter_free = free_word 97 (codes "rrayFilter") refl (refl, (refl, (refl, (refl, (refl, (refl, (refl, (refl, (refl, (refl, tt)))))))))) refl

exists_free : IsFree (codes "arrayExists")
unfolding class word
exists_free = free_word 97 (codes "rrayExists") refl (refl, (refl, (refl, (refl, (refl, (refl, (refl, (refl, (refl, (refl, tt)))))))))) refl

-- a function by itself
abbrev alone : Stm → Stms
alone s = Then s Done

-- what so few tokens spell is no higher than it may be
low_enough : (ss : Stms) (ts : List Terminal) (h : ℕ) → Spells ss ts h → suc (2 * length ts) < highest → h ≤ highest
low_enough ss ts h spelled few = of (program_reads ss ts h spelled highest)
  where
    of : Ends (program highest ts) highest [] ss h → h ≤ highest
    of (ends fits it) = fits
    of (deeper high n it) = absurd (omega (arith, few, passed_late highest n ts it))

-- A tree that fits, and that has few tokens, has its printed text.
is_program : (ss : Stms) → FitStms ss → suc (2 * length (stms_tokens ss)) < highest → length (printed ss) ≤ longest → IsProgram (printed ss) ss
is_program ss fit few short =
    let has = has_tokens (printed ss) (stms_tokens ss) (program_prints ss fit) in
    let spelled = program_spelled ss fit in
    record {
      short = short;
      list = has.list;
      cut = has.tokens;
      height = spelled.0;
      spelled = subst (λ (ts : List Terminal). Spells ss ts spelled.0) (sym has.meaning) spelled.1;
      low = low_enough ss (stms_tokens ss) spelled.0 spelled.1 few;
    }

next_fits : FitExp (Binary Plus (Call (Name (codes "length")) (MoreExp (Name (codes "r")) NoExp)) (Int (pos 1)))
next_fits = ((length_free, (r_free, tt)), omega arith)

call_fits : FitExp (Call (Name (codes "f")) (MoreExp (Name (codes "x")) NoExp))
call_fits = (f_free, (x_free, tt))

map_fits : FitStms (alone array_map)
map_fits = (
  (
    map_free,
    (f_free, (a_free, tt)),
    ((r_free, tt), ((tt, x_free, a_free, ((tt, (r_free, next_fits), call_fits), tt)), (r_free, tt))),
  ),
  tt,
)

filter_fits : FitStms (alone array_filter)
filter_fits = (
  (
    filter_free,
    (f_free, (a_free, tt)),
    ((r_free, tt), ((tt, x_free, a_free, ((call_fits, ((tt, (r_free, next_fits), x_free), tt), tt), tt)), (r_free, tt))),
  ),
  tt,
)

exists_fits : FitStms (alone array_exists)
exists_fits = (
  (
    exists_free,
    (f_free, (a_free, tt)),
    ((tt, x_free, a_free, ((call_fits, (tt, tt), tt), tt)), (tt, tt)),
  ),
  tt,
)

map_printed : printed (alone array_map) ≡ map_text
unfolding digits
map_printed = refl

filter_printed : printed (alone array_filter) ≡ filter_text
unfolding digits
filter_printed = refl

exists_printed : printed (alone array_exists) ≡ exists_text
unfolding digits
exists_printed = refl

short_text : (ss : Stms) (text : List ℕ) → printed ss ≡ text → length text ≤ longest → length (printed ss) ≤ longest
short_text ss text same short = subst (λ (t : List ℕ). length t ≤ longest) (sym same) short

pub map_is : IsProgram map_text (Then array_map Done)
map_is = subst (λ t. IsProgram t (alone array_map)) map_printed (is_program (alone array_map) map_fits (omega arith) (short_text (alone array_map) map_text map_printed (omega arith)))

pub filter_is : IsProgram filter_text (Then array_filter Done)
filter_is = subst (λ t. IsProgram t (alone array_filter)) filter_printed (is_program (alone array_filter) filter_fits (omega arith) (short_text (alone array_filter) filter_text filter_printed (omega arith)))

pub exists_is : IsProgram exists_text (Then array_exists Done)
exists_is = subst (λ t. IsProgram t (alone array_exists)) exists_printed (is_program (alone array_exists) exists_fits (omega arith) (short_text (alone array_exists) exists_text exists_printed (omega arith)))
