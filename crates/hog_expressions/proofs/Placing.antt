-- The names of calls and templates, from those of what they are made of.
use Rattle.std.proofs.Common.{◌≡◌, List, ◌++◌, sym, ap, ◌∙◌, append_assoc}
use Rattle.std.specs.List.{flat_map}
use Rattle.std.specs.declared.boxed.Box.{Box}
use Rattle.std.specs.declared.alloc.Global.{Global}
use Rattle.hog_tree.specs.Names.{exp_names, part_names}
use Rattle.hog_tree.specs.declared.tree.Named.{Named}
use Rattle.hog_tree.specs.declared.tree.Expr as e
use Rattle.hog_tree.specs.declared.tree.Expr.{Expr}
use Rattle.hog_tree.specs.declared.tree.Exprs.{Exprs}
use Rattle.hog_tree.specs.declared.tree.Parts.{Parts}
use Rattle.hog_reading.specs.NamesOf.{list_names}
use Rattle.hog_reading.proofs.NameRows.{call_names, template_names}

pub call_placed : (f : Box Expr Global) (xs : Exprs) (x : Expr) (middle rest : List Named) → f.value ≡ x → middle ≡ list_names xs ++ rest
    → exp_names (e.Call f xs) ++ rest ≡ exp_names x ++ middle
call_placed f xs x middle rest is back =
    ap (λ z. z ++ rest) (call_names f xs) ∙ append_assoc (exp_names f.value) (list_names xs) rest ∙ ap (λ z. exp_names f.value ++ z) (sym back)
    ∙ ap (λ y. exp_names y ++ middle) is

pub template_placed : (ps : Parts) (all middle rest : List Named) → all ≡ flat_map part_names ps.list.items ++ middle → middle ≡ rest → all ≡ exp_names (e.Template ps) ++ rest
template_placed ps all middle rest front back =
    front ∙ ap (λ z. flat_map part_names ps.list.items ++ z) back ∙ sym (ap (λ z. z ++ rest) (template_names ps))
