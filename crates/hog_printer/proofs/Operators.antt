-- Operators, and the bytes that may follow a word.
use Rattle.std.proofs.Common.{ℕ, List, [], ◌∷◌, ◌++◌, refl}
use Rattle.std.specs.Prelude.{codes}
use Rattle.hog_tree.specs.declared.tree.BinaryOp.{BinaryOp}
use Rattle.hog_tree.specs.declared.tree.BinaryOp.TheVariants as o
use Rattle.hog_grammar.specs.Bytes.{class, is_pair}
use Rattle.hog_grammar.specs.Pieces.{Word, Mark, LongMark, Code}
use Rattle.hog_grammar.specs.Terminal.{Terminal}
use Rattle.hog_grammar.specs.Terminal as k
use Rattle.hog_grammar.specs.Spelling as g
use Rattle.hog_printer.specs.Print.{operator}
use Rattle.hog_printer.proofs.Pieces.{Prints, Any, Sep}
use Rattle.hog_printer.proofs.Stands.{lit, sp}

-- operators

op_Or : Prints Code Code Any (codes " or ") (k.Or ∷ [])
unfolding class is_pair k.word k.mark
op_Or = lit (sp ∷ Word 111 (codes "r") ∷ sp ∷ []) (k.Or ∷ []) refl refl refl

op_And : Prints Code Code Any (codes " and ") (k.And ∷ [])
unfolding class is_pair k.word k.mark
op_And = lit (sp ∷ Word 97 (codes "nd") ∷ sp ∷ []) (k.And ∷ []) refl refl refl

op_Equal : Prints Code Code Any (codes " == ") (k.Equal ∷ [])
unfolding class is_pair k.word k.mark
op_Equal = lit (sp ∷ LongMark 61 61 ∷ sp ∷ []) (k.Equal ∷ []) refl refl refl

op_NotEqual : Prints Code Code Any (codes " != ") (k.NotEqual ∷ [])
unfolding class is_pair k.word k.mark
op_NotEqual = lit (sp ∷ LongMark 33 61 ∷ sp ∷ []) (k.NotEqual ∷ []) refl refl refl

op_Less : Prints Code Code Any (codes " < ") (k.Less ∷ [])
unfolding class is_pair k.word k.mark
op_Less = lit (sp ∷ Mark 60 ∷ sp ∷ []) (k.Less ∷ []) refl refl refl

op_LessEqual : Prints Code Code Any (codes " <= ") (k.LessEqual ∷ [])
unfolding class is_pair k.word k.mark
op_LessEqual = lit (sp ∷ LongMark 60 61 ∷ sp ∷ []) (k.LessEqual ∷ []) refl refl refl

op_Greater : Prints Code Code Any (codes " > ") (k.Greater ∷ [])
unfolding class is_pair k.word k.mark
op_Greater = lit (sp ∷ Mark 62 ∷ sp ∷ []) (k.Greater ∷ []) refl refl refl

op_GreaterEqual : Prints Code Code Any (codes " >= ") (k.GreaterEqual ∷ [])
unfolding class is_pair k.word k.mark
op_GreaterEqual = lit (sp ∷ LongMark 62 61 ∷ sp ∷ []) (k.GreaterEqual ∷ []) refl refl refl

op_IsIn : Prints Code Code Any (codes " in ") (k.In ∷ [])
unfolding class is_pair k.word k.mark
op_IsIn = lit (sp ∷ Word 105 (codes "n") ∷ sp ∷ []) (k.In ∷ []) refl refl refl

op_NotIn : Prints Code Code Any (codes " not in ") (k.Not ∷ k.In ∷ [])
unfolding class is_pair k.word k.mark
op_NotIn = lit (sp ∷ Word 110 (codes "ot") ∷ sp ∷ Word 105 (codes "n") ∷ sp ∷ []) (k.Not ∷ k.In ∷ []) refl refl refl

op_Plus : Prints Code Code Any (codes " + ") (k.Plus ∷ [])
unfolding class is_pair k.word k.mark
op_Plus = lit (sp ∷ Mark 43 ∷ sp ∷ []) (k.Plus ∷ []) refl refl refl

op_Minus : Prints Code Code Any (codes " - ") (k.Minus ∷ [])
unfolding class is_pair k.word k.mark
op_Minus = lit (sp ∷ Mark 45 ∷ sp ∷ []) (k.Minus ∷ []) refl refl refl

op_Times : Prints Code Code Any (codes " * ") (k.Star ∷ [])
unfolding class is_pair k.word k.mark
op_Times = lit (sp ∷ Mark 42 ∷ sp ∷ []) (k.Star ∷ []) refl refl refl

pub operator_prints : (op : BinaryOp) → Prints Code Code Any (operator op) (g.tokens_of op)
operator_prints o.Or = op_Or
operator_prints o.And = op_And
operator_prints o.Equal = op_Equal
operator_prints o.NotEqual = op_NotEqual
operator_prints o.Less = op_Less
operator_prints o.LessEqual = op_LessEqual
operator_prints o.Greater = op_Greater
operator_prints o.GreaterEqual = op_GreaterEqual
operator_prints o.IsIn = op_IsIn
operator_prints o.NotIn = op_NotIn
operator_prints o.Plus = op_Plus
operator_prints o.Minus = op_Minus
operator_prints o.Times = op_Times

-- bytes that may follow a word

pub sep_blank : (text : List ℕ) → Sep (32 ∷ text)
unfolding class
sep_blank text = record { apart = λ more. (refl, refl) }

pub sep_close : (text : List ℕ) → Sep (41 ∷ text)
unfolding class
sep_close text = record { apart = λ more. (refl, refl) }

pub sep_close_bracket : (text : List ℕ) → Sep (93 ∷ text)
unfolding class
sep_close_bracket text = record { apart = λ more. (refl, refl) }

pub sep_close_brace : (text : List ℕ) → Sep (125 ∷ text)
unfolding class
sep_close_brace text = record { apart = λ more. (refl, refl) }

pub sep_comma : (text : List ℕ) → Sep (44 ∷ text)
unfolding class
sep_comma text = record { apart = λ more. (refl, refl) }

pub sep_colon : (text : List ℕ) → Sep (58 ∷ text)
unfolding class
sep_colon text = record { apart = λ more. (refl, refl) }

pub sep_semi : (text : List ℕ) → Sep (59 ∷ text)
unfolding class
sep_semi text = record { apart = λ more. (refl, refl) }

pub sep_dot : (text : List ℕ) → Sep (46 ∷ text)
unfolding class
sep_dot text = record { apart = λ more. (refl, refl) }

pub sep_question : (text : List ℕ) → Sep (63 ∷ text)
unfolding class
sep_question text = record { apart = λ more. (refl, refl) }

pub sep_bracket : (text : List ℕ) → Sep (91 ∷ text)
unfolding class
sep_bracket text = record { apart = λ more. (refl, refl) }

pub sep_open : (text : List ℕ) → Sep (40 ∷ text)
unfolding class
sep_open text = record { apart = λ more. (refl, refl) }

pub sep_operator : (op : BinaryOp) (text : List ℕ) → Sep (operator op ++ text)
sep_operator o.Or text = sep_blank _
sep_operator o.And text = sep_blank _
sep_operator o.Equal text = sep_blank _
sep_operator o.NotEqual text = sep_blank _
sep_operator o.Less text = sep_blank _
sep_operator o.LessEqual text = sep_blank _
sep_operator o.Greater text = sep_blank _
sep_operator o.GreaterEqual text = sep_blank _
sep_operator o.IsIn text = sep_blank _
sep_operator o.NotIn text = sep_blank _
sep_operator o.Plus text = sep_blank _
sep_operator o.Minus text = sep_blank _
sep_operator o.Times text = sep_blank _
