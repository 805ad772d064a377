-- What tokens may begin an expression, and what they are not.
use Rattle.std.proofs.Common.{◌≡◌, ℕ, zero, suc, ◌<◌, ◌≤◌, true, false, List, [], ◌∷◌, ◌++◌, length, Some, None, Result, Ok, Err, refl, ap, arith}
use Rattle.hog_tree.specs.Plain.{Exp}
use Rattle.hog_grammar.specs.Terminal.{Terminal}
use Rattle.hog_grammar.specs.Terminal as k
use Rattle.hog_grammar.specs.Forms.{ends_block, begins_brace, begins_else}
use Rattle.hog_terms.specs.Marks.{after_close, after_close_bracket, after_open_brace, after_close_brace, after_comma, after_semi, after_arrow, after_else, after_bound, lead, begins_arrow, starts}
use Rattle.hog_reading.specs.Read.{Fault, Got, got, ◌>>=◌, Readers, first, climb, leveled}
use Rattle.hog_reading.specs.ReadStatements.{readers, begun, plain, start_of, ended}

pub read_starts : (d l : ℕ) (ts : List Terminal) (g : Got Exp) → (readers d).expression l ts ≡ Ok g → starts ts ≡ true
unfolding readers leveled first
read_starts zero l ts g e = absurd (cc)
read_starts (suc d) l (k.Number n ∷ ts) g e = refl
read_starts (suc d) l (k.Text bs ∷ ts) g e = refl
read_starts (suc d) l (k.True ∷ ts) g e = refl
read_starts (suc d) l (k.False ∷ ts) g e = refl
read_starts (suc d) l (k.Null ∷ ts) g e = refl
read_starts (suc d) l (k.Word w ∷ ts) g e = refl
read_starts (suc d) l (k.TemplateStart ∷ ts) g e = refl
read_starts (suc d) l (k.OpenBracket ∷ ts) g e = refl
read_starts (suc d) l (k.OpenBrace ∷ ts) g e = refl
read_starts (suc d) l (k.Minus ∷ ts) g e = refl
read_starts (suc d) l (k.Not ∷ ts) g e = refl
read_starts (suc d) l (k.Open ∷ ts) g e = refl
read_starts (suc d) l [] g e = absurd (cc)
read_starts (suc d) l (_ ∷ ts) g e = absurd (cc)

pub starts_no_close : (ts : List Terminal) → starts ts ≡ true → after_close ts ≡ None
starts_no_close (k.Close ∷ ts) s = absurd (cc)
starts_no_close [] s = refl
starts_no_close (_ ∷ ts) s = refl

pub starts_no_close_bracket : (ts : List Terminal) → starts ts ≡ true → after_close_bracket ts ≡ None
starts_no_close_bracket (k.CloseBracket ∷ ts) s = absurd (cc)
starts_no_close_bracket [] s = refl
starts_no_close_bracket (_ ∷ ts) s = refl

pub starts_no_close_brace : (ts : List Terminal) → starts ts ≡ true → after_close_brace ts ≡ None
starts_no_close_brace (k.CloseBrace ∷ ts) s = absurd (cc)
starts_no_close_brace [] s = refl
starts_no_close_brace (_ ∷ ts) s = refl

pub starts_no_semi : (ts : List Terminal) → starts ts ≡ true → after_semi ts ≡ None
starts_no_semi (k.Semi ∷ ts) s = absurd (cc)
starts_no_semi [] s = refl
starts_no_semi (_ ∷ ts) s = refl

pub starts_in_block : (ts : List Terminal) → starts ts ≡ true → ends_block ts ≡ false
starts_in_block (k.CloseBrace ∷ ts) s = absurd (cc)
starts_in_block [] s = absurd (cc)
starts_in_block (_ ∷ ts) s = refl

pub starts_unbound : (ts : List Terminal) → starts ts ≡ true → after_bound ts ≡ None
starts_unbound (k.Let ∷ ts) s = absurd (cc)
starts_unbound [] s = refl
starts_unbound (_ ∷ ts) s = refl

pub no_brace_none : (ts rest : List Terminal) → 0 < length ts → begins_brace ts ≡ false → after_open_brace (ts ++ rest) ≡ None
no_brace_none [] rest some b = absurd (omega arith)
no_brace_none (k.OpenBrace ∷ ts) rest some b = absurd (cc)
no_brace_none (_ ∷ ts) rest some b = refl

pub no_else_none : (ts : List Terminal) → begins_else ts ≡ false → after_else ts ≡ None
no_else_none (k.Else ∷ ts) b = absurd (cc)
no_else_none [] b = refl
no_else_none (_ ∷ ts) b = refl

pub no_arrow : (ts : List Terminal) → lead ts ≤ 11 → after_arrow ts ≡ None
no_arrow (k.Arrow ∷ ts) h = absurd (omega (arith, h))
no_arrow [] h = refl
no_arrow (_ ∷ ts) h = refl

abbrev rest_in : Result (Got Exp) Fault → List Terminal
rest_in (Ok g) = g.rest
rest_in (Err e) = []

abbrev tail_of : List Terminal → List Terminal
tail_of [] = []
tail_of (t ∷ ts) = ts

pub not_parameters : (d : ℕ) (us rest : List Terminal) (e : Exp) (h : ℕ) → (readers d).expression 1 us ≡ Ok (got e h (k.Close ∷ rest)) → lead rest ≤ 11 → begins_arrow us ≡ false
unfolding readers leveled first climb
not_parameters zero us rest e h is low = absurd (cc)
not_parameters (suc d) (k.Close ∷ us) rest e h is low = absurd (cc)
not_parameters (suc d) (k.Word w ∷ k.Comma ∷ us) rest e h is low = let r : Some us ≡ None = ap (λ (x : Result (Got Exp) Fault). after_comma (rest_in x)) is in absurd (cc)
not_parameters (suc d) (k.Word w ∷ k.Close ∷ k.Arrow ∷ us) rest e h is low = let r : k.Arrow ∷ us ≡ rest = ap (λ (x : Result (Got Exp) Fault). tail_of (rest_in x)) is in absurd (omega (arith, ap lead r, low))
not_parameters (suc d) [] rest e h is low = refl
not_parameters (suc d) (k.Word w ∷ []) rest e h is low = refl
not_parameters (suc d) (k.Word w ∷ k.Close ∷ []) rest e h is low = refl
not_parameters (suc d) (k.Word w ∷ k.Close ∷ _ ∷ us) rest e h is low = refl
not_parameters (suc d) (k.Word w ∷ _ ∷ us) rest e h is low = refl
not_parameters (suc d) (_ ∷ us) rest e h is low = refl

-- What begins as an expression, and not with a brace, is an assignment or an expression.

pub plain_begun : (again : Readers) (ts : List Terminal) → starts ts ≡ true → begins_brace ts ≡ false → begun again ts ≡ (plain again ts >>= ended)
unfolding begun
plain_begun again (k.Let ∷ ts) s b = absurd (cc)
plain_begun again (k.Return ∷ ts) s b = absurd (cc)
plain_begun again (k.Throw ∷ ts) s b = absurd (cc)
plain_begun again (k.If ∷ ts) s b = absurd (cc)
plain_begun again (k.While ∷ ts) s b = absurd (cc)
plain_begun again (k.For ∷ ts) s b = absurd (cc)
plain_begun again (k.Fun ∷ ts) s b = absurd (cc)
plain_begun again (k.Try ∷ ts) s b = absurd (cc)
plain_begun again (k.OpenBrace ∷ ts) s b = absurd (cc)
plain_begun again [] s b = refl
plain_begun again (_ ∷ ts) s b = refl

pub plain_start : (again : Readers) (ts : List Terminal) → starts ts ≡ true → start_of again ts ≡ plain again ts
unfolding start_of
plain_start again (k.Let ∷ ts) s = absurd (cc)
plain_start again [] s = refl
plain_start again (_ ∷ ts) s = refl
