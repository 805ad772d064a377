-- Printed words and numbers.
use Rattle.std.proofs.Common.{◌≡◌, ℕ, ◌+◌, ◌*◌, ◌-◌, ◌/◌, ◌%◌, ◌<◌, ◌≤◌, true, false, List, [], ◌∷◌, ◌++◌, refl, sym, ap, ◌∙◌, subst, append-nil, arith, inl, inr}
use Rattle.std.specs.Prelude.{◌==◌, ◌||◌, nat_lt}
use Rattle.std.specs.Fmt.{decimal}
use Rattle.std.specs.Str.{IsUtf8}
use Rattle.std.proofs.lemmas.Fmt.{decimal_by_steps}
use Rattle.std.proofs.lemmas.Bool.Decides.{Decides-eqb, nat_tests}
use Rattle.hog_tree.specs.Plain.{Word}
use Rattle.hog_grammar.specs.Bytes.{Class, Letter, Digit, Sign, Other, class, is_pair, is_word, is_word_class, is_digit, is_digit_class, AllOf, Stops, value_from, greatest}
use Rattle.hog_grammar.specs.Pieces as i
use Rattle.hog_grammar.specs.Pieces.{Code}
use Rattle.hog_grammar.specs.Terminal.{Terminal, word}
use Rattle.hog_grammar.specs.Terminal as k
use Rattle.hog_grammar.proofs.Utf8.{AllLow, all_low}
use Rattle.hog_tokens.proofs.Tests.{tells}
use Rattle.hog_printer.proofs.Fit.{IsWord, IsFree}
use Rattle.hog_printer.proofs.Pieces.{Prints, Apart}

-- bytes

high_class : (c : ℕ) → 128 ≤ c → class c ≡ Other
unfolding class
high_class c h = grind (arith, nat_tests)

low_class : (c : ℕ) (x : Class) → class c ≡ x → (x ≡ Other → ⊥) → c < 128
low_class c x is apart = elim (tells (nat_lt c 128)) [
  | inl h ↦ grind (arith, nat_tests)
  | inr h ↦ (let high : 128 ≤ c = grind (arith, nat_tests) in absurd (apart (sym is ∙ high_class c high)))
]

word_low : (c : ℕ) → is_word c ≡ true → c < 128
word_low c h = low_class c (class c) refl (λ e. (let x : true ≡ false = sym h ∙ ap is_word_class e in absurd (cc)))

words_low : (cs : List ℕ) → AllOf is_word cs → AllLow cs
words_low [] all = tt
words_low (c ∷ cs) all = (word_low c all.0, words_low cs all.1)

digits_low : (cs : List ℕ) → AllOf is_digit cs → AllLow cs
digits_low [] all = tt
digits_low (c ∷ cs) all = (low_class c (class c) refl (λ e. (let x : true ≡ false = sym all.0 ∙ ap is_digit_class e in absurd (cc))), digits_low cs all.1)

-- what goes on no word goes on no number
digit_class_free : (x : Class) → is_word_class x ≡ false → is_digit_class x ≡ false
digit_class_free Digit e = absurd (cc)
digit_class_free _ e = refl

digit_free : (more : List ℕ) → Stops is_word more → Stops is_digit more
digit_free [] stops = tt
digit_free (c ∷ cs) stops = digit_class_free (class c) stops

-- what may follow a minus

abbrev pub Quiet : List ℕ → Type 0
Quiet more = Stops (is_pair 45) more

sign_62 : class 62 ≡ Sign
unfolding class
sign_62 = refl

quiet_not_62 : (c : ℕ) (more : List ℕ) → c == 62 ≡ false → Quiet (c ∷ more)
unfolding is_pair
quiet_not_62 c more e = ap (λ b. b || false) e

pub quiet_class : (c : ℕ) (x : Class) (more : List ℕ) → class c ≡ x → (x ≡ Sign → ⊥) → Quiet (c ∷ more)
quiet_class c x more is apart = elim (tells (c == 62)) [
  | inl h ↦ absurd (apart (sym is ∙ ap class ((Decides-eqb c 62).0 h) ∙ sign_62))
  | inr h ↦ quiet_not_62 c more h
]

-- words

pub word_prints : (w : Word) → IsWord w → Prints Code Code Apart w (word w ∷ [])
word_prints w is = record {
  pieces = i.Word is.first is.others ∷ [];
  bytes = is.bytes ∙ sym (append-nil (is.first ∷ is.others));
  meaning = ap (λ z. word z ∷ []) (sym is.bytes);
  fits = λ more next. ((is.letter, is.all, next.0, λ _. next.1), tt);
  walks = λ holes. (Code holes, (holes, refl, refl), refl);
  good = (tt, tt);
  utf8 = subst IsUtf8 (sym is.bytes) (all_low (is.first ∷ is.others) (low_class is.first Letter is.letter (λ e. absurd (cc)), words_low is.others is.all));
}

pub free_prints : (w : Word) → IsFree w → Prints Code Code Apart w (k.Word w ∷ [])
free_prints w is = subst (λ (t : Terminal). Prints Code Code Apart w (t ∷ [])) is.free (word_prints w is.is_word)

pub quiet_word : (w : Word) (more : List ℕ) → IsWord w → Quiet (w ++ more)
quiet_word w more is = subst (λ (z : List ℕ). Quiet (z ++ more)) (sym is.bytes) (quiet_class is.first Letter (is.others ++ more) is.letter (λ e. absurd (cc)))

-- numbers

record IsNumeral (n : ℕ) (ds : List ℕ) : Type 0 where
  first : ℕ
  others : List ℕ
  bytes : ds ≡ first ∷ others
  digit : class first ≡ Digit
  all : AllOf is_digit others
  value : value_from 0 ds ≡ n

digit_class : (n : ℕ) → n < 10 → class (48 + n) ≡ Digit
unfolding class
digit_class n h = grind (arith, nat_tests)

all_push : (cs : List ℕ) (c : ℕ) → AllOf is_digit cs → class c ≡ Digit → AllOf is_digit (cs ++ c ∷ [])
all_push [] c all is = (ap is_digit_class is, tt)
all_push (d ∷ cs) c all is = (all.0, all_push cs c all.1 is)

value_push : (m : ℕ) (cs : List ℕ) (c : ℕ) → value_from m (cs ++ c ∷ []) ≡ 10 * value_from m cs + (c - 48)
value_push m [] c = refl
value_push m (d ∷ cs) c = value_push (10 * m + (d - 48)) cs c

one_digit : (n : ℕ) → n < 10 → IsNumeral n ((48 + n) ∷ [])
one_digit n h = record { first = 48 + n; others = []; bytes = refl; digit = digit_class n h; all = tt; value = omega arith }

more_digits : (n : ℕ) (ds : List ℕ) → 10 ≤ n → IsNumeral (n / 10) ds → IsNumeral n (ds ++ (48 + n % 10) ∷ [])
more_digits n ds le p =
    let small : n % 10 < 10 = omega arith in
    let is = digit_class (n % 10) small in record {
      first = p.first;
      others = p.others ++ (48 + n % 10) ∷ [];
      bytes = ap (λ z. z ++ (48 + n % 10) ∷ []) p.bytes;
      digit = p.digit;
      all = all_push p.others (48 + n % 10) p.all is;
      value = value_push 0 ds (48 + n % 10) ∙ (let v = p.value in omega arith);
    }

numeral : (n : ℕ) → n ≤ greatest → IsNumeral n (decimal n)
numeral n le = decimal_by_steps IsNumeral one_digit more_digits n (omega arith)

pub number_prints : (n : ℕ) → n ≤ greatest → Prints Code Code Apart (decimal n) (k.Number n ∷ [])
number_prints n le =
    let x = numeral n le in record {
      pieces = i.Number x.first x.others ∷ [];
      bytes = x.bytes ∙ sym (append-nil (x.first ∷ x.others));
      meaning = ap (λ z. k.Number (value_from 0 z) ∷ []) (sym x.bytes) ∙ ap (λ z. k.Number z ∷ []) x.value;
      fits = λ more next. ((x.digit, x.all, digit_free more next.0), tt);
      walks = λ holes. (Code holes, (holes, refl, refl), refl);
      good = (subst (λ (z : ℕ). z ≤ greatest) (sym x.value ∙ ap (value_from 0) x.bytes) le, tt);
      utf8 = subst IsUtf8 (sym x.bytes) (all_low (x.first ∷ x.others) (low_class x.first Digit x.digit (λ e. absurd (cc)), digits_low x.others x.all));
    }

pub quiet_number : (n : ℕ) (more : List ℕ) → n ≤ greatest → Quiet (decimal n ++ more)
quiet_number n more le = let x = numeral n le in subst (λ (z : List ℕ). Quiet (z ++ more)) (sym x.bytes) (quiet_class x.first Digit (x.others ++ more) x.digit (λ e. absurd (cc)))
