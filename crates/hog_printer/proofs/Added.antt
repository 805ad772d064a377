-- Texts that are added one after another.
use Rattle.std.proofs.Common.{◌≡◌, ℕ, zero, suc, ◌+◌, ◌<◌, ◌≤◌, subst, List, [], ◌∷◌, ◌++◌, length, take, get_or, Option, refl, sym, ap, ◌∙◌, append_assoc, append-nil, arith}
use Rattle.std.specs.Prelude.{codes, Result, OnOk}
use Rattle.std.proofs.lemmas.Result.{on_ok_weaker}
use Rattle.std.proofs.lemmas.List.{take_more, take_all}
use Rattle.hog_tree.specs.declared.tree.Named.{Named}
use Rattle.hog_tree.specs.declared.tree.Expr as e
use Rattle.hog_tree.specs.declared.tree.Expr.{Expr}
use Rattle.hog_tree.specs.declared.tree.Exprs.{Exprs}
use Rattle.hog_tree.specs.declared.tree.Part as t
use Rattle.hog_tree.specs.declared.tree.Part.{Part}
use Rattle.hog_tree.specs.declared.tree.DictItem.{DictItem}
use Rattle.hog_tree.specs.declared.tree.FunTree.{FunTree}
use Rattle.hog_tree.specs.declared.tree.Stmt as s
use Rattle.hog_tree.specs.declared.tree.Stmt.{Stmt}
use Rattle.hog_tree.specs.declared.tree.Stmts.{Stmts}
use Rattle.std.specs.declared.boxed.Box.{Box}
use Rattle.std.specs.declared.alloc.Global.{Global}
use Rattle.hog_tree.specs.Plain as p
use Rattle.hog_tree.specs.View.{words_of, option_word_of, exp_of, exps_from, part_of, parts_from, pairs_from, dict_of, stm_of, stms_from, option_exp_from, option_stm_from, option_stms_from}
use Rattle.hog_tree.specs.declared.tree.DictItems.{DictItems}
use Rattle.hog_tree.specs.declared.tree.ArrowBody.TheViews.{out-DictItems}
use Rattle.hog_tree.proofs.Rows.{call_is, dict_is, if_is, while_is, for_is, for_in_is, fun_is, try_is}
use Rattle.hog_grammar.specs.Pieces.{OfTemplate}
use Rattle.hog_printer.specs.declared.layout.Layout.{Layout}
use Rattle.hog_printer.specs.declared.layout.Layout.TheVariants.{Lines}
use Rattle.hog_printer.specs.Print.{indentation, quoted, line_end, more_names, names, expression, items, more_items, parts, pairs, more_pairs, statement, lines, printed}

-- one after the other

pub two : (a x y : List ℕ) {b c : List ℕ} → b ≡ a ++ x → c ≡ b ++ y → c ≡ a ++ (x ++ y)
two a x y h k = k ∙ ap (λ z. z ++ y) h ∙ append_assoc a x y

pub three : (a x y z : List ℕ) {b c d : List ℕ} → b ≡ a ++ x → c ≡ b ++ y → d ≡ c ++ z → d ≡ a ++ (x ++ (y ++ z))
three a x y z {b} h k l = two a x (y ++ z) h (two b y z k l)

pub four : (a x y z w : List ℕ) {b c d e : List ℕ} → b ≡ a ++ x → c ≡ b ++ y → d ≡ c ++ z → e ≡ d ++ w → e ≡ a ++ (x ++ (y ++ (z ++ w)))
four a x y z w {b} h k l m = two a x (y ++ (z ++ w)) h (three b y z w k l m)

pub five : (a x y z w v : List ℕ) {b c d e f : List ℕ} → b ≡ a ++ x → c ≡ b ++ y → d ≡ c ++ z → e ≡ d ++ w → f ≡ e ++ v → f ≡ a ++ (x ++ (y ++ (z ++ (w ++ v))))
five a x y z w v {b} h k l m n = two a x (y ++ (z ++ (w ++ v))) h (four b y z w v k l m n)

pub seven : (a x y z w v u t : List ℕ) {b c d e f g i : List ℕ} → b ≡ a ++ x → c ≡ b ++ y → d ≡ c ++ z → e ≡ d ++ w → f ≡ e ++ v → g ≡ f ++ u → i ≡ g ++ t → i ≡ a ++ (x ++ (y ++ (z ++ (w ++ (v ++ (u ++ t))))))
seven a x y z w v u t {b} {c} h k l m n o p = three a x y (z ++ (w ++ (v ++ (u ++ t)))) h k (five c z w v u t l m n o p)

-- the text of a tree x that is y
pub at_form : {X : Type 0} (f : X → List ℕ) (a ts : List ℕ) {x y : X} {b : List ℕ} → x ≡ y → f y ≡ ts → b ≡ a ++ ts → b ≡ a ++ f x
at_form f a ts is form h = h ∙ ap (λ z. a ++ z) (sym form ∙ ap f (sym is))

-- the text of one more item of a list
pub one_more : {X : Type 0} (f : List X → List ℕ) (g : List X → X → List ℕ) (push : (xs : List X) (x : X) → f (xs ++ x ∷ []) ≡ f xs ++ g xs x)
    (a : List ℕ) {b c : List ℕ} (xs : List X) (i : ℕ) (x : X) → i < length xs → x ≡ get_or xs i x
    → b ≡ a ++ f (take i xs) → c ≡ b ++ g (take i xs) x → c ≡ a ++ f (take (i + 1) xs)
one_more f g push a xs i x lt is h k =
    let taken : take (i + 1) xs ≡ take i xs ++ x ∷ [] = take_more xs i x lt ∙ ap (λ y. take i xs ++ y ∷ []) (sym is) in
    two a (f (take i xs)) (g (take i xs) x) h k ∙ ap (λ z. a ++ z) (sym (push (take i xs) x) ∙ ap f (sym taken))

-- after the last item
pub all_added : {X : Type 0} (f : List X → List ℕ) (a : List ℕ) {b : List ℕ} (xs : List X) (i : ℕ) → length xs ≤ i → b ≡ a ++ f (take i xs) → b ≡ a ++ f xs
all_added f a {b} xs i le h = subst (λ ys. b ≡ a ++ f ys) (take_all i xs le) h

-- what stands before an item that stands after these
abbrev pub comma_after : {X : Type 0} → List X → List ℕ
comma_after [] = []
comma_after (x ∷ xs) = codes ", "

pub comma_push : {X : Type 0} (xs : List X) (x : X) → comma_after (xs ++ x ∷ []) ≡ codes ", "
comma_push [] x = refl
comma_push (y ∷ xs) x = refl

pub comma_more : {X : Type 0} (xs : List X) (i : ℕ) (x : X) → i < length xs → x ≡ get_or xs i x → comma_after (take (i + 1) xs) ≡ codes ", "
comma_more xs i x lt is = ap comma_after (take_more xs i x lt) ∙ comma_push (take i xs) (get_or xs i x)

-- names

more_names_push : (ns : List Named) (n : Named) → more_names (words_of (ns ++ n ∷ [])) ≡ more_names (words_of ns) ++ (codes ", " ++ n.word)
more_names_push [] n = ap (λ z. codes ", " ++ z) (append-nil n.word)
more_names_push (m ∷ ns) n = ap (λ z. codes ", " ++ (m.word ++ z)) (more_names_push ns n) ∙ ap (λ z. codes ", " ++ z) (sym (append_assoc m.word (more_names (words_of ns)) (codes ", " ++ n.word)))

pub names_push : (ns : List Named) (n : Named) → names (words_of (ns ++ n ∷ [])) ≡ names (words_of ns) ++ (comma_after ns ++ n.word)
names_push [] n = append-nil n.word
names_push (m ∷ ns) n = ap (λ z. m.word ++ z) (more_names_push ns n) ∙ sym (append_assoc m.word (more_names (words_of ns)) (codes ", " ++ n.word))

-- expressions

abbrev pub expr_text : Expr → List ℕ
expr_text x = expression (exp_of x)

more_items_push : (xs : List Expr) (x : Expr) → more_items (exps_from (xs ++ x ∷ [])) ≡ more_items (exps_from xs) ++ (codes ", " ++ expr_text x)
more_items_push [] x = ap (λ z. codes ", " ++ z) (append-nil (expr_text x))
more_items_push (y ∷ xs) x = ap (λ z. codes ", " ++ (expr_text y ++ z)) (more_items_push xs x) ∙ ap (λ z. codes ", " ++ z) (sym (append_assoc (expr_text y) (more_items (exps_from xs)) (codes ", " ++ expr_text x)))

pub items_push : (xs : List Expr) (x : Expr) → items (exps_from (xs ++ x ∷ [])) ≡ items (exps_from xs) ++ (comma_after xs ++ (expr_text x ++ []))
items_push [] x = refl
items_push (y ∷ xs) x =
    ap (λ z. expr_text y ++ z) (more_items_push xs x) ∙ sym (append_assoc (expr_text y) (more_items (exps_from xs)) (codes ", " ++ expr_text x))
    ∙ ap (λ z. (expr_text y ++ more_items (exps_from xs)) ++ (codes ", " ++ z)) (sym (append-nil (expr_text x)))

-- parts of templates

part_more : (x : Part) (ps : p.Parts) → parts (part_of x ps) ≡ parts (part_of x p.NoPart) ++ parts ps
part_more (t.Text w) ps = ap (λ z. z ++ parts ps) (sym (append-nil (quoted OfTemplate w)))
part_more (t.Hole x) ps = ap (λ z. z ++ parts ps) (sym (append-nil (codes "{" ++ (expr_text x ++ codes "}"))))

pub parts_push : (xs : List Part) (x : Part) → parts (parts_from (xs ++ x ∷ [])) ≡ parts (parts_from xs) ++ parts (part_of x p.NoPart)
parts_push [] x = refl
parts_push (y ∷ xs) x =
    part_more y (parts_from (xs ++ x ∷ [])) ∙ ap (λ z. parts (part_of y p.NoPart) ++ z) (parts_push xs x)
    ∙ sym (append_assoc (parts (part_of y p.NoPart)) (parts (parts_from xs)) (parts (part_of x p.NoPart)))
    ∙ ap (λ z. z ++ parts (part_of x p.NoPart)) (sym (part_more y (parts_from xs)))

-- items of dictionaries

abbrev pub item_text : DictItem → List ℕ
item_text d = expr_text d.key ++ (codes ": " ++ expr_text d.value)

more_pairs_push : (ds : List DictItem) (d : DictItem) → more_pairs (pairs_from (ds ++ d ∷ [])) ≡ more_pairs (pairs_from ds) ++ (codes ", " ++ item_text d)
more_pairs_push [] d = ap (λ z. codes ", " ++ z) (append-nil (item_text d))
more_pairs_push (y ∷ ds) d = ap (λ z. codes ", " ++ (item_text y ++ z)) (more_pairs_push ds d) ∙ ap (λ z. codes ", " ++ z) (sym (append_assoc (item_text y) (more_pairs (pairs_from ds)) (codes ", " ++ item_text d)))

pub pairs_push : (ds : List DictItem) (d : DictItem) → pairs (pairs_from (ds ++ d ∷ [])) ≡ pairs (pairs_from ds) ++ (comma_after ds ++ item_text d)
pairs_push [] d = append-nil (item_text d)
pairs_push (y ∷ ds) d = ap (λ z. item_text y ++ z) (more_pairs_push ds d) ∙ sym (append_assoc (item_text y) (more_pairs (pairs_from ds)) (codes ", " ++ item_text d))

-- statements

pub lines_push : (at : Layout) (xs : List Stmt) (x : Stmt) → lines at (stms_from (xs ++ x ∷ [])) ≡ lines at (stms_from xs) ++ (line_end at ++ statement at (stm_of x))
lines_push at [] x = append-nil (line_end at ++ statement at (stm_of x))
lines_push at (y ∷ xs) x =
    ap (λ z. (line_end at ++ statement at (stm_of y)) ++ z) (lines_push at xs x)
    ∙ sym (append_assoc (line_end at ++ statement at (stm_of y)) (lines at (stms_from xs)) (line_end at ++ statement at (stm_of x)))

pub printed_push : (xs : List Stmt) (x : Stmt) → printed (stms_from (xs ++ x ∷ [])) ≡ printed (stms_from xs) ++ (statement (Lines 0) (stm_of x) ++ 10 ∷ [])
printed_push [] x = append-nil (statement (Lines 0) (stm_of x) ++ 10 ∷ [])
printed_push (y ∷ xs) x =
    ap (λ z. (statement (Lines 0) (stm_of y) ++ 10 ∷ []) ++ z) (printed_push xs x)
    ∙ sym (append_assoc (statement (Lines 0) (stm_of y) ++ 10 ∷ []) (printed (stms_from xs)) (statement (Lines 0) (stm_of x) ++ 10 ∷ []))

pub indentation_push : (n : ℕ) → indentation (n + 1) ≡ indentation n ++ codes "    "
indentation_push zero = refl
indentation_push (suc n) =
    let next : suc n + 1 ≡ suc (n + 1) = omega arith in
    ap indentation next ∙ ap (λ z. codes "    " ++ z) (indentation_push n)

-- forms with lists

pub call_text : (f : Box Expr Global) (es : Exprs) → expr_text (e.Call f es) ≡ expression (p.Call (exp_of f.value) (exps_from es.list.items))
call_text f es = ap expression (call_is f es)

pub if_text : (at : Layout) (c : Expr) (ss : Stmts) (o : Option Stmts) → statement at (stm_of (s.If c ss o)) ≡ statement at (p.If (exp_of c) (stms_from ss.list.items) (option_stms_from o))
if_text at c ss o = ap (statement at) (if_is c ss o)

pub while_text : (at : Layout) (c : Expr) (ss : Stmts) → statement at (stm_of (s.While c ss)) ≡ statement at (p.While (exp_of c) (stms_from ss.list.items))
while_text at c ss = ap (statement at) (while_is c ss)

pub for_text : (at : Layout) (b : Option (Box Stmt Global)) (c : Option Expr) (n : Option (Box Stmt Global)) (ss : Stmts)
    → statement at (stm_of (s.For b c n ss)) ≡ statement at (p.For (option_stm_from b) (option_exp_from c) (option_stm_from n) (stms_from ss.list.items))
for_text at b c n ss = ap (statement at) (for_is b c n ss)

pub for_in_text : (at : Layout) (k : Option Named) (v : Named) (x : Expr) (ss : Stmts) → statement at (stm_of (s.ForIn k v x ss)) ≡ statement at (p.ForIn (option_word_of k) v.word (exp_of x) (stms_from ss.list.items))
for_in_text at k v x ss = ap (statement at) (for_in_is k v x ss)

pub fun_text : (at : Layout) (f : FunTree) → statement at (stm_of (s.Fun f)) ≡ statement at (p.Fun f.name.word (words_of f.params) (stms_from f.body.list.items))
fun_text at f = ap (statement at) (fun_is f)

pub try_text : (at : Layout) (ss : Stmts) (n : Named) (rs : Stmts) → statement at (stm_of (s.Try ss n rs)) ≡ statement at (p.Try (stms_from ss.list.items) n.word (stms_from rs.list.items))
try_text at ss n rs = ap (statement at) (try_is ss n rs)

-- the items of a dictionary
abbrev dict_in : p.Exp → p.Pairs
dict_in (p.Dict ds) = ds
dict_in _ = p.NoPair

pub dict_pairs : (ds : DictItems) → dict_of ds ≡ pairs_from (out-DictItems ds).list.items
dict_pairs ds = ap dict_in (dict_is ds)

-- what an Ok says, where it said this
pub on_ok : {T E : Type 0} (r : Result T E) (P Q : Type 0) → (P → Q) → OnOk r P → OnOk r Q
on_ok r P Q f h = on_ok_weaker r f h
