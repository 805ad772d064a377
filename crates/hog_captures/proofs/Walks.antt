-- What the words of forms leave, by the forms' parts.
use Rattle.std.proofs.Common.{◌≡◌, ℕ, ◌+◌, ◌<◌, ◌≤◌, ◌⊎◌, inl, inr, List, [], ◌++◌, length, take, get_or, Option, Some, None, true, refl, sym, ap, ap₂, ◌∙◌, append-nil}
use Rattle.std.specs.Prelude.{option_to_list}
use Rattle.std.proofs.lemmas.List.{take_all}
use Rattle.std.specs.declared.boxed.Box.{Box}
use Rattle.std.specs.declared.alloc.Global.{Global}
use Rattle.hog_tree.specs.Plain.{Word}
use Rattle.hog_tree.specs.declared.tree.BinaryOp.{BinaryOp}
use Rattle.hog_tree.specs.declared.tree.Expr as e
use Rattle.hog_tree.specs.declared.tree.Expr.{Expr}
use Rattle.hog_tree.specs.declared.tree.Stmt.{Stmt}
use Rattle.hog_tree.specs.View.{exp_of, stm_of, stms_from}
use Rattle.hog_captures.specs.Frees.{without_all, without_name, name_by, exp_frees, stm_frees, stms_frees}
use Rattle.hog_captures.specs.Finding.{Finding, Finds, with_words, bind_all, bind_name}
use Rattle.hog_captures.proofs.Finds.{with_words-append, scoped, bound_kept, binds_more}
use Rattle.hog_captures.proofs.Prefixes.{names_in, stms_more, names_more}

pub nothing : (a : Finding) → Finds a a []
nothing a = record { after = refl }

-- one after another
pub then_more : {a b c : Finding} {xs ys : List Word} → Finds a b xs → Finds b c ys → Finds a c (xs ++ ys)
then_more {a} {b} {c} {xs} {ys} h k = record { after = k.after ∙ ap (with_words ys) h.after ∙ sym (with_words-append xs ys a) }

-- a form x that is y
pub at_form : {X : Type 0} (words : X → List Word) {x y : X} {a b : Finding} {ws : List Word} → x ≡ y → words y ≡ ws → Finds a b ws → Finds a b (words x)
at_form words {x} {y} {a} {b} is w h = record { after = h.after ∙ ap (λ v. with_words v a) (sym w ∙ ap words (sym is)) }

abbrev pub exp_words : Expr → List Word
exp_words x = exp_frees true (exp_of x)

abbrev pub stm_words : Stmt → List Word
stm_words s = stm_frees true (stm_of s)

-- the forms of two operands
pub at_two : {v : Expr} {a b : Finding} (x y : Box Expr Global)
    → ((op : BinaryOp) × (v ≡ e.Binary op x y)) ⊎ ((v ≡ e.Coalesce x y) ⊎ (v ≡ e.Index x y))
    → Finds a b (exp_words x.value ++ exp_words y.value) → Finds a b (exp_words v)
at_two x y (inl h) k = at_form exp_words h.1 refl k
at_two x y (inr (inl h)) k = at_form exp_words h refl k
at_two x y (inr (inr h)) k = at_form exp_words h refl k

-- what is left after names were declared, words stood there and the names went
pub within : (a : Finding) {b c d : Finding} {depth : ℕ} (names : List Word) {ws : List Word} → depth ≡ length a.bound → b ≡ bind_all names a → Finds b c ws
    → ((f : Finding) (ns : List Word) → c ≡ bind_all ns f → depth ≡ length f.bound → d ≡ f) → Finds a d (without_all names ws)
within a {b} {c} {d} {depth} names {ws} base bound words back = record {
  after = back (with_words (without_all names ws) a) names (words.after ∙ ap (with_words ws) bound ∙ scoped names ws a)
      (base ∙ ap length (sym (bound_kept (without_all names ws) a)));
}

-- a name that may be left out
pub without_named : (n : Option Word) (ws : List Word) → without_name n ws ≡ without_all (option_to_list n) ws
without_named None ws = refl
without_named (Some w) ws = refl

pub bound_named : (n : Option Word) (f : Finding) → bind_name n f ≡ bind_all (option_to_list n) f
bound_named None f = refl
bound_named (Some w) f = refl

-- a name more
pub named_more : (names : List Word) (n : Option Word) (f : Finding) → bind_name n (bind_all names f) ≡ bind_all (names ++ option_to_list n) f
named_more names None f = ap (λ ns. bind_all ns f) (sym (append-nil names))
named_more names (Some w) f = sym (binds_more names w f)

-- statements that are gone through: after one more
pub stms_on : (a : Finding) {b c d : Finding} (xs : List Stmt) (i : ℕ) (x : Stmt) → i < length xs → x ≡ get_or xs i x
    → b ≡ bind_all (names_in (take i xs)) (with_words (stms_frees true (stms_from (take i xs))) a) → Finds b c (stm_words x)
    → d ≡ bind_name (name_by (stm_of x)) c
    → d ≡ bind_all (names_in (take (i + 1) xs)) (with_words (stms_frees true (stms_from (take (i + 1) xs))) a)
stms_on a {b} {c} {d} xs i x lt is state words named =
    let names = names_in (take i xs) in
    let before = stms_frees true (stms_from (take i xs)) in
    let own = stm_words x in
    let n = name_by (stm_of x) in
    named ∙ ap (bind_name n) (words.after ∙ ap (with_words own) state ∙ scoped names own (with_words before a) ∙ ap (bind_all names) (sym (with_words-append before (without_all names own) a)))
    ∙ named_more names n (with_words (before ++ without_all names own) a)
    ∙ ap₂ (λ ns ws. bind_all ns (with_words ws a)) (sym (names_more xs i x lt is)) (sym (stms_more xs i x lt is))

-- after the last
pub stms_end : (a : Finding) {b c : Finding} {depth : ℕ} (xs : List Stmt) (i : ℕ) → length xs ≤ i
    → b ≡ bind_all (names_in (take i xs)) (with_words (stms_frees true (stms_from (take i xs))) a) → depth ≡ length a.bound
    → ((f : Finding) (ns : List Word) → b ≡ bind_all ns f → depth ≡ length f.bound → c ≡ f) → Finds a c (stms_frees true (stms_from xs))
stms_end a {b} {c} {depth} xs i le state base back =
    let all = stms_frees true (stms_from xs) in record {
      after = back (with_words all a) (names_in xs) (state ∙ ap (λ ys. bind_all (names_in ys) (with_words (stms_frees true (stms_from ys)) a)) (take_all i xs le))
          (base ∙ ap length (sym (bound_kept all a)));
    }
