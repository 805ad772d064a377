-- The token of a word gives the word back, and no other token does.
use Rattle.std.proofs.Common.{◌≡◌, ℕ, Bool, true, false, List, [], ◌∷◌, Option, Some, None, cond, refl, sym, ap, ◌∙◌, ◌⊎◌, inl, inr}
use Rattle.std.specs.Prelude.{codes, bytes_eq}
use Rattle.std.specs.Cmp.Lexicographic.{bytes_decides}
use Rattle.hog_tree.specs.Plain.{Word}
use Rattle.hog_grammar.specs.Terminal.{Terminal, word, named, reserved_words}
use Rattle.hog_grammar.specs.Terminal as k
use Rattle.hog_terms.specs.Marks.{after_word, is_plain, word_of, with_rest}

abbrev pub Each : {A : Type 0} → (A → Type 0) → List A → Type 0
Each P [] = Unit {0}
Each P (x ∷ xs) = P x × Each P xs

abbrev Row : Type 0
Row = List ℕ × Terminal

tells : (b : Bool) → (b ≡ true) ⊎ (b ≡ false)
tells true = inl refl
tells false = inr refl

known : (rows : List Row) (w : Word) → Each (λ (r : Row). word_of r.1 ≡ Some r.0) rows → (named rows w (k.Word w) ≡ k.Word w) ⊎ (word_of (named rows w (k.Word w)) ≡ Some w)
known [] w each = inl refl
known (r ∷ rows) w each = elim (tells (bytes_eq r.0 w)) [
  | inl e ↦ (let row : named (r ∷ rows) w (k.Word w) ≡ r.1 = ap (λ b. cond b r.1 (named rows w (k.Word w))) e in
      inr (ap word_of row ∙ each.0 ∙ ap (λ v. Some v) ((bytes_decides r.0 w).0 e)))
  | inr e ↦ (let row : named (r ∷ rows) w (k.Word w) ≡ named rows w (k.Word w) = ap (λ b. cond b r.1 (named rows w (k.Word w))) e in
      elim (known rows w each.1) [ inl x ↦ inl (row ∙ x) | inr x ↦ inr (ap word_of row ∙ x) ])
]

unreserved : (rows : List Row) (w : Word) → Each (λ (r : Row). is_plain r.1 ≡ false) rows → is_plain (named rows w (k.Word w)) ≡ true → named rows w (k.Word w) ≡ k.Word w
unreserved [] w each p = refl
unreserved (r ∷ rows) w each p = elim (tells (bytes_eq r.0 w)) [
  | inl e ↦ (let row : named (r ∷ rows) w (k.Word w) ≡ r.1 = ap (λ b. cond b r.1 (named rows w (k.Word w))) e in
      let no : true ≡ false = sym p ∙ ap is_plain row ∙ each.0 in absurd (cc))
  | inr e ↦ (let row : named (r ∷ rows) w (k.Word w) ≡ named rows w (k.Word w) = ap (λ b. cond b r.1 (named rows w (k.Word w))) e in
      row ∙ unreserved rows w each.1 (sym (ap is_plain row) ∙ p))
]

word_cases : (w : Word) → (word w ≡ k.Word w) ⊎ (word_of (word w) ≡ Some w)
unfolding word
word_cases w = known reserved_words w (refl, (refl, (refl, (refl, (refl, (refl, (refl, (refl, (refl, (refl, (refl, (refl, (refl, (refl, (refl, (refl, (refl, tt)))))))))))))))))

plain_word : (w : Word) → is_plain (word w) ≡ true → word w ≡ k.Word w
unfolding word
plain_word w p = unreserved reserved_words w (refl, (refl, (refl, (refl, (refl, (refl, (refl, (refl, (refl, (refl, (refl, (refl, (refl, (refl, (refl, (refl, (refl, tt))))))))))))))))) p

pub word_reads : (w : Word) → word_of (word w) ≡ Some w
word_reads w = elim (word_cases w) [
  | inl e ↦ ap word_of e ∙ ap (λ t. cond (is_plain t) (Some w) None) e
  | inr x ↦ x
]

some_word : (v w : Word) → Some v ≡ Some w → v ≡ w
some_word v w e = cc

if_plain : (b : Bool) (v w : Word) → cond b (Some v) None ≡ Some w → (b ≡ true) × (v ≡ w)
if_plain true v w e = (refl, some_word v w e)
if_plain false v w e = absurd (cc)

reserved : (v w : Word) (t : Terminal) → word v ≡ t → Some v ≡ Some w → t ≡ word w
reserved v w t is e = sym is ∙ ap word (some_word v w e)

let_is : word (codes "let") ≡ k.Let
unfolding word
let_is = refl

fun_is : word (codes "fun") ≡ k.Fun
unfolding word
fun_is = refl

return_is : word (codes "return") ≡ k.Return
unfolding word
return_is = refl

throw_is : word (codes "throw") ≡ k.Throw
unfolding word
throw_is = refl

try_is : word (codes "try") ≡ k.Try
unfolding word
try_is = refl

catch_is : word (codes "catch") ≡ k.Catch
unfolding word
catch_is = refl

if_is : word (codes "if") ≡ k.If
unfolding word
if_is = refl

else_is : word (codes "else") ≡ k.Else
unfolding word
else_is = refl

while_is : word (codes "while") ≡ k.While
unfolding word
while_is = refl

for_is : word (codes "for") ≡ k.For
unfolding word
for_is = refl

in_is : word (codes "in") ≡ k.In
unfolding word
in_is = refl

not_is : word (codes "not") ≡ k.Not
unfolding word
not_is = refl

and_is : word (codes "and") ≡ k.And
unfolding word
and_is = refl

or_is : word (codes "or") ≡ k.Or
unfolding word
or_is = refl

true_is : word (codes "true") ≡ k.True
unfolding word
true_is = refl

false_is : word (codes "false") ≡ k.False
unfolding word
false_is = refl

null_is : word (codes "null") ≡ k.Null
unfolding word
null_is = refl

pub is_word : (t : Terminal) (w : Word) → word_of t ≡ Some w → t ≡ word w
is_word (k.Word v) w e = let p = if_plain (is_plain (word v)) v w e in sym (plain_word v p.0) ∙ ap word p.1
is_word k.Let w e = reserved (codes "let") w k.Let let_is e
is_word k.Fun w e = reserved (codes "fun") w k.Fun fun_is e
is_word k.Return w e = reserved (codes "return") w k.Return return_is e
is_word k.Throw w e = reserved (codes "throw") w k.Throw throw_is e
is_word k.Try w e = reserved (codes "try") w k.Try try_is e
is_word k.Catch w e = reserved (codes "catch") w k.Catch catch_is e
is_word k.If w e = reserved (codes "if") w k.If if_is e
is_word k.Else w e = reserved (codes "else") w k.Else else_is e
is_word k.While w e = reserved (codes "while") w k.While while_is e
is_word k.For w e = reserved (codes "for") w k.For for_is e
is_word k.In w e = reserved (codes "in") w k.In in_is e
is_word k.Not w e = reserved (codes "not") w k.Not not_is e
is_word k.And w e = reserved (codes "and") w k.And and_is e
is_word k.Or w e = reserved (codes "or") w k.Or or_is e
is_word k.True w e = reserved (codes "true") w k.True true_is e
is_word k.False w e = reserved (codes "false") w k.False false_is e
is_word k.Null w e = reserved (codes "null") w k.Null null_is e
is_word _ w e = absurd (cc)

pub after_word_reads : (w : Word) (ts : List Terminal) → after_word (word w ∷ ts) ≡ Some (w, ts)
after_word_reads w ts = ap (λ x. with_rest x ts) (word_reads w)

found_word : (x : Option Word) (ts : List Terminal) (p : Word × List Terminal) → with_rest x ts ≡ Some p → (x ≡ Some p.0) × (ts ≡ p.1)
found_word (Some w) ts p e = let q : (w, ts) ≡ p = cc in (ap (λ (r : Word × List Terminal). Some r.0) q, ap (λ (r : Word × List Terminal). r.1) q)
found_word None ts p e = absurd (cc)

pub is_after_word : (ts : List Terminal) (p : Word × List Terminal) → after_word ts ≡ Some p → ts ≡ word p.0 ∷ p.1
is_after_word [] p e = absurd (cc)
is_after_word (t ∷ ts) p e = let q = found_word (word_of t) ts p e in ap (λ x. x ∷ ts) (is_word t p.0 q.0) ∙ ap (λ us. word p.0 ∷ us) q.1
