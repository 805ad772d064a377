-- The names of statements of several parts, from those of their parts.
use Rattle.std.proofs.Common.{◌≡◌, List, [], ◌∷◌, ◌++◌, Option, refl, sym, ap, ◌∙◌, append_assoc}
use Rattle.std.specs.declared.boxed.Box.{Box}
use Rattle.std.specs.declared.alloc.Global.{Global}
use Rattle.hog_tree.specs.Names.{option_name, exp_names, stm_names}
use Rattle.hog_tree.specs.declared.tree.Named.{Named}
use Rattle.hog_tree.specs.declared.tree.Expr.{Expr}
use Rattle.hog_tree.specs.declared.tree.FunTree.{FunTree}
use Rattle.hog_tree.specs.declared.tree.Stmt as s
use Rattle.hog_tree.specs.declared.tree.Stmt.{Stmt}
use Rattle.hog_tree.specs.declared.tree.Stmts.{Stmts}
use Rattle.hog_reading.specs.NamesOf.{stmts_names, option_exp_names, option_stm_names, option_stmts_names}
use Rattle.hog_reading.proofs.NameRows.{if_names, while_names, for_names, for_in_names, fun_names, try_names}

two : (a b all middle rest : List Named) → all ≡ a ++ middle → middle ≡ b ++ rest → all ≡ a ++ b ++ rest
two a b all middle rest front back = front ∙ ap (λ z. a ++ z) back ∙ sym (append_assoc a b rest)

three : (a b c all m₁ m₂ rest : List Named) → all ≡ a ++ m₁ → m₁ ≡ b ++ m₂ → m₂ ≡ c ++ rest → all ≡ a ++ b ++ c ++ rest
three a b c all m₁ m₂ rest p q r = two (a ++ b) c all m₂ rest (two a b all m₁ m₂ p q) r

pub if_placed : (c : Expr) (b : Stmts) (o : Option Stmts) (all m₁ m₂ rest : List Named) → all ≡ exp_names c ++ m₁ → m₁ ≡ stmts_names b ++ m₂ → m₂ ≡ option_stmts_names o ++ rest
    → all ≡ stm_names (s.If c b o) ++ rest
if_placed c b o all m₁ m₂ rest p q r = three (exp_names c) (stmts_names b) (option_stmts_names o) all m₁ m₂ rest p q r ∙ sym (ap (λ z. z ++ rest) (if_names c b o))

pub while_placed : (c : Expr) (b : Stmts) (all middle rest : List Named) → all ≡ exp_names c ++ middle → middle ≡ stmts_names b ++ rest → all ≡ stm_names (s.While c b) ++ rest
while_placed c b all middle rest p q = two (exp_names c) (stmts_names b) all middle rest p q ∙ sym (ap (λ z. z ++ rest) (while_names c b))

pub for_placed : (a : Option (Box Stmt Global)) (c : Option Expr) (n : Option (Box Stmt Global)) (b : Stmts) (all m₁ m₂ m₃ rest : List Named)
    → all ≡ option_stm_names a ++ m₁ → m₁ ≡ option_exp_names c ++ m₂ → m₂ ≡ option_stm_names n ++ m₃ → m₃ ≡ stmts_names b ++ rest → all ≡ stm_names (s.For a c n b) ++ rest
for_placed a c n b all m₁ m₂ m₃ rest p q r t =
    two (option_stm_names a ++ option_exp_names c ++ option_stm_names n) (stmts_names b) all m₃ rest
    (three (option_stm_names a) (option_exp_names c) (option_stm_names n) all m₁ m₂ m₃ p q r) t
    ∙ sym (ap (λ z. z ++ rest) (for_names a c n b))

pub for_in_placed : (k : Option Named) (v : Named) (x : Expr) (b : Stmts) (all middle rest : List Named) → all ≡ exp_names x ++ middle → middle ≡ stmts_names b ++ rest
    → stm_names (s.ForIn k v x b) ++ rest ≡ option_name k ++ v ∷ [] ++ all
for_in_placed k v x b all middle rest p q =
    ap (λ z. z ++ rest) (for_in_names k v x b)
    ∙ sym (three (option_name k) (v ∷ exp_names x) (stmts_names b) (option_name k ++ v ∷ all) (v ∷ all) middle rest refl (ap (λ z. v ∷ z) p) q)
    ∙ sym (append_assoc (option_name k) (v ∷ []) all)

pub fun_placed : (f : FunTree) (all m₁ m₂ rest : List Named) → all ≡ f.name ∷ m₁ → m₁ ≡ f.params ++ m₂ → m₂ ≡ stmts_names f.body ++ rest → all ≡ stm_names (s.Fun f) ++ rest
fun_placed f all m₁ m₂ rest p q r =
    two (f.name ∷ f.params) (stmts_names f.body) all m₂ rest (p ∙ ap (λ z. f.name ∷ z) q) r ∙ sym (ap (λ z. z ++ rest) (fun_names f))

pub try_placed : (b : Stmts) (n : Named) (h : Stmts) (all m₁ m₂ rest : List Named) → all ≡ stmts_names b ++ m₁ → m₁ ≡ n ∷ m₂ → m₂ ≡ stmts_names h ++ rest
    → all ≡ stm_names (s.Try b n h) ++ rest
try_placed b n h all m₁ m₂ rest p q r =
    two (stmts_names b) (n ∷ stmts_names h) all m₁ rest p (q ∙ ap (λ z. n ∷ z) r) ∙ sym (ap (λ z. z ++ rest) (try_names b n h))
