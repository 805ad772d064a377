-- No printed operand begins with what makes an arrow of a minus.
use Rattle.std.proofs.Common.{List, [], ◌∷◌, ◌++◌, Bool, true, false, ℕ, pos, negsuc, refl, sym, subst, append_assoc}
use Rattle.std.specs.Prelude.{codes}
use Rattle.hog_tree.specs.Plain.{Exp, Int, Truth, Null, Text, Template, Name, Array, Dict, Neg, Not, Binary, Coalesce, Prop, PropNullish, Index, Call, Lambda}
use Rattle.hog_grammar.specs.Bytes.{is_pair}
use Rattle.hog_printer.specs.Print.{held, form_of, is_compound, is_held_base, expression, operator, items}
use Rattle.hog_printer.proofs.Fit.{FitExp}
use Rattle.hog_printer.proofs.WordPieces.{Quiet, quiet_word, quiet_number}

quiet_open : (more : List ℕ) → Quiet (40 ∷ more)
unfolding is_pair
quiet_open more = refl

held_quiet : (b : Bool) (e : Exp) (tail more : List ℕ) → ((all : List ℕ) → Quiet (expression e ++ all)) → Quiet ((held b (expression e) ++ tail) ++ more)
held_quiet true e tail more quiet = quiet_open []
held_quiet false e tail more quiet = subst Quiet (sym (append_assoc (expression e) tail more)) (quiet (tail ++ more))

pub quiet : (e : Exp) → FitExp e → (more : List ℕ) → Quiet (expression e ++ more)
unfolding is_pair
quiet (Int (pos n)) f more = quiet_number n more f
quiet (Int (negsuc n)) f more = absurd f
quiet (Truth true) f more = refl
quiet (Truth false) f more = refl
quiet Null f more = refl
quiet (Text bs) f more = refl
quiet (Template ps) f more = refl
quiet (Name w) f more = quiet_word w more f.is_word
quiet (Array es) f more = refl
quiet (Dict ds) f more = refl
quiet (Neg e) f more = refl
quiet (Not e) f more = refl
quiet (Binary op a b) f more = held_quiet (is_compound (form_of a)) a (operator op ++ held (is_compound (form_of b)) (expression b)) more (quiet a f.0)
quiet (Coalesce a b) f more = held_quiet (is_compound (form_of a)) a (codes " ?? " ++ held (is_compound (form_of b)) (expression b)) more (quiet a f.0)
quiet (Prop e w) f more = held_quiet (is_held_base (form_of e)) e (codes "." ++ w) more (quiet e f.0)
quiet (PropNullish e w) f more = held_quiet (is_held_base (form_of e)) e (codes "?." ++ w) more (quiet e f.0)
quiet (Index e i) f more = held_quiet (is_held_base (form_of e)) e (codes "[" ++ (expression i ++ codes "]")) more (quiet e f.0)
quiet (Call x es) f more = held_quiet (is_compound (form_of x)) x (codes "(" ++ (items es ++ codes ")")) more (quiet x f.0)
quiet (Lambda ws b) f more = quiet_open []

-- an operand, in parentheses or not
pub quiet_held : (b : Bool) (e : Exp) → FitExp e → (more : List ℕ) → Quiet (held b (expression e) ++ more)
quiet_held true e f more = quiet_open []
quiet_held false e f more = quiet e f more
