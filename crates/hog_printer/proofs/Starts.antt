-- With which tokens printed expressions and statements begin.
use Rattle.std.proofs.Common.{◌≡◌, List, [], ◌∷◌, ◌++◌, Bool, true, false, ◌≤◌, pos, negsuc, refl, sym, subst, append_assoc, append-nil, arith}
use Rattle.hog_tree.specs.declared.tree.BinaryOp.{BinaryOp}
use Rattle.hog_tree.specs.declared.tree.BinaryOp.TheVariants as o
use Rattle.hog_tree.specs.Plain.{Word, Exp, Int, Truth, Null, Text, Template, Name, Array, Dict, Neg, Not, Binary, Coalesce, Prop, PropNullish, Index, Call, Lambda, Stm, Let, Assign, Do, Return, Throw, If, While, For, ForIn, Fun, Try, Block, Stms, Done, Then, OptionExp, NoneExp, SomeExp}
use Rattle.hog_grammar.specs.Terminal.{Terminal}
use Rattle.hog_grammar.specs.Terminal as k
use Rattle.hog_grammar.specs.Forms.{begins_brace, begins_else}
use Rattle.hog_grammar.specs.Spelling.{level, level_of, IsTarget, tokens_of}
use Rattle.hog_printer.specs.declared.form.Form.{Form}
use Rattle.hog_printer.specs.declared.form.Form.TheVariants as f
use Rattle.hog_printer.specs.Print.{form_of, is_compound, is_held_base, is_held_body, is_dict}
use Rattle.hog_printer.proofs.Tokens.{wrapped, exp_tokens, items_tokens, clause_tokens, stm_tokens, stms_tokens}

-- forms

pub base_compound : (f : Form) → is_held_base f ≡ false → is_compound f ≡ false
base_compound f.Number e = absurd (cc)
base_compound f.Operation e = absurd (cc)
base_compound f.Arrow e = absurd (cc)
base_compound f.Dictionary e = absurd (cc)
base_compound f.Plain e = refl

pub compound_dict : (f : Form) → is_compound f ≡ false → is_dict f ≡ false
compound_dict f.Number e = refl
compound_dict f.Operation e = absurd (cc)
compound_dict f.Arrow e = absurd (cc)
compound_dict f.Dictionary e = absurd (cc)
compound_dict f.Plain e = refl

pub base_dict : (f : Form) → is_held_base f ≡ false → is_dict f ≡ false
base_dict f e = compound_dict f (base_compound f e)

pub body_dict : (f : Form) → is_held_body f ≡ false → is_dict f ≡ false
body_dict f.Number e = refl
body_dict f.Operation e = refl
body_dict f.Arrow e = absurd (cc)
body_dict f.Dictionary e = absurd (cc)
body_dict f.Plain e = refl

pub target_dict : (t : Exp) → IsTarget t → is_dict (form_of t) ≡ false
target_dict (Name w) is = refl
target_dict (Prop e w) is = refl
target_dict (Index e i) is = refl
target_dict (Int n) is = absurd is
target_dict (Truth b) is = absurd is
target_dict Null is = absurd is
target_dict (Text bs) is = absurd is
target_dict (Template ps) is = absurd is
target_dict (Array es) is = absurd is
target_dict (Dict ds) is = absurd is
target_dict (Neg e) is = absurd is
target_dict (Not e) is = absurd is
target_dict (Binary op a b) is = absurd is
target_dict (Coalesce a b) is = absurd is
target_dict (PropNullish e w) is = absurd is
target_dict (Call f es) is = absurd is
target_dict (Lambda ws b) is = absurd is

-- levels

pub op_level : (op : BinaryOp) → (1 ≤ level_of op) × (level_of op ≤ 9)
op_level o.Or = (omega arith, omega arith)
op_level o.And = (omega arith, omega arith)
op_level o.Equal = (omega arith, omega arith)
op_level o.NotEqual = (omega arith, omega arith)
op_level o.Less = (omega arith, omega arith)
op_level o.LessEqual = (omega arith, omega arith)
op_level o.Greater = (omega arith, omega arith)
op_level o.GreaterEqual = (omega arith, omega arith)
op_level o.IsIn = (omega arith, omega arith)
op_level o.NotIn = (omega arith, omega arith)
op_level o.Plus = (omega arith, omega arith)
op_level o.Minus = (omega arith, omega arith)
op_level o.Times = (omega arith, omega arith)

pub level_pos : (e : Exp) → 1 ≤ level e
level_pos (Binary op a b) = (op_level op).0
level_pos (Int n) = omega arith
level_pos (Truth b) = omega arith
level_pos Null = omega arith
level_pos (Text bs) = omega arith
level_pos (Template ps) = omega arith
level_pos (Name w) = omega arith
level_pos (Array es) = omega arith
level_pos (Dict ds) = omega arith
level_pos (Neg e) = omega arith
level_pos (Not e) = omega arith
level_pos (Coalesce a b) = omega arith
level_pos (Prop e w) = omega arith
level_pos (PropNullish e w) = omega arith
level_pos (Index e i) = omega arith
level_pos (Call f es) = omega arith
level_pos (Lambda ws b) = omega arith

pub tight : (e : Exp) → is_compound (form_of e) ≡ false → 10 ≤ level e
tight (Binary op a b) e = absurd (cc)
tight (Coalesce a b) e = absurd (cc)
tight (Neg x) e = absurd (cc)
tight (Not x) e = absurd (cc)
tight (Lambda ws b) e = absurd (cc)
tight (Dict ds) e = absurd (cc)
tight (Int n) e = omega arith
tight (Truth b) e = omega arith
tight Null e = omega arith
tight (Text bs) e = omega arith
tight (Template ps) e = omega arith
tight (Name w) e = omega arith
tight (Array es) e = omega arith
tight (Prop x w) e = omega arith
tight (PropNullish x w) e = omega arith
tight (Index x i) e = omega arith
tight (Call f es) e = omega arith

-- first tokens

-- they begin with no `else`, and with no `{`
abbrev pub Opens : List Terminal → Type 0
Opens ts = (begins_else ts ≡ false) × (begins_brace ts ≡ false)

-- the same, the `{` only where it is no dictionary
abbrev pub OpensAs : Exp → List Terminal → Type 0
OpensAs e ts = (begins_else ts ≡ false) × (is_dict (form_of e) ≡ false → begins_brace ts ≡ false)

wrapped_opens : (p : Bool) (e : Exp) (tail more : List Terminal) → (p ≡ false → is_dict (form_of e) ≡ false) → ((all : List Terminal) → OpensAs e (exp_tokens e ++ all)) → Opens ((wrapped p (exp_tokens e) ++ tail) ++ more)
wrapped_opens true e tail more free opens = (refl, refl)
wrapped_opens false e tail more free opens = let o = opens (tail ++ more) in subst Opens (sym (append_assoc (exp_tokens e) tail more)) (o.0, o.1 (free refl))

as_opens : (e : Exp) (ts : List Terminal) → Opens ts → OpensAs e ts
as_opens e ts h = (h.0, λ _. h.1)

pub opens : (e : Exp) (more : List Terminal) → OpensAs e (exp_tokens e ++ more)
opens (Int (pos n)) more = (refl, λ _. refl)
opens (Int (negsuc n)) more = (refl, λ _. refl)
opens (Truth true) more = (refl, λ _. refl)
opens (Truth false) more = (refl, λ _. refl)
opens Null more = (refl, λ _. refl)
opens (Text bs) more = (refl, λ _. refl)
opens (Template ps) more = (refl, λ _. refl)
opens (Name w) more = (refl, λ _. refl)
opens (Array es) more = (refl, λ _. refl)
opens (Dict ds) more = (refl, λ e. absurd (cc))
opens (Neg e) more = (refl, λ _. refl)
opens (Not e) more = (refl, λ _. refl)
opens (Binary op a b) more = as_opens (Binary op a b) _ (wrapped_opens (is_compound (form_of a)) a (tokens_of op ++ wrapped (is_compound (form_of b)) (exp_tokens b)) more (compound_dict (form_of a)) (opens a))
opens (Coalesce a b) more = as_opens (Coalesce a b) _ (wrapped_opens (is_compound (form_of a)) a (k.Coalesce ∷ wrapped (is_compound (form_of b)) (exp_tokens b)) more (compound_dict (form_of a)) (opens a))
opens (Prop e w) more = as_opens (Prop e w) _ (wrapped_opens (is_held_base (form_of e)) e (k.Dot ∷ k.word w ∷ []) more (base_dict (form_of e)) (opens e))
opens (PropNullish e w) more = as_opens (PropNullish e w) _ (wrapped_opens (is_held_base (form_of e)) e (k.NullishDot ∷ k.word w ∷ []) more (base_dict (form_of e)) (opens e))
opens (Index e i) more = as_opens (Index e i) _ (wrapped_opens (is_held_base (form_of e)) e (k.OpenBracket ∷ (exp_tokens i ++ k.CloseBracket ∷ [])) more (base_dict (form_of e)) (opens e))
opens (Call f es) more = as_opens (Call f es) _ (wrapped_opens (is_compound (form_of f)) f (k.Open ∷ items_tokens k.Close es) more (compound_dict (form_of f)) (opens f))
opens (Lambda ws b) more = (refl, λ _. refl)

-- in parentheses or none
pub held_opens : (p : Bool) (e : Exp) (tail more : List Terminal) → (p ≡ false → is_dict (form_of e) ≡ false) → Opens ((wrapped p (exp_tokens e) ++ tail) ++ more)
held_opens p e tail more free = wrapped_opens p e tail more free (opens e)

pub held_no_brace : (p : Bool) (e : Exp) → (p ≡ false → is_dict (form_of e) ≡ false) → begins_brace (wrapped p (exp_tokens e)) ≡ false
held_no_brace p e free = subst (λ (ts : List Terminal). begins_brace ts ≡ false) (append-nil _) (subst (λ (ts : List Terminal). begins_brace ts ≡ false) (append-nil _) (held_opens p e [] [] free).1)

declared_first : (v : OptionExp) (w : Word) (more : List Terminal) → begins_else ((clause_tokens (Let w v) ++ k.Semi ∷ []) ++ more) ≡ false
declared_first NoneExp w more = refl
declared_first (SomeExp e) w more = refl

stm_first : (s : Stm) (more : List Terminal) → begins_else (stm_tokens s ++ more) ≡ false
stm_first (Let w v) more = declared_first v w more
stm_first (Assign t e) more =
    let S : List Terminal → Type 0 = λ ts. begins_else ts ≡ false in
    subst S (sym (append_assoc (exp_tokens t ++ k.Assign ∷ exp_tokens e) (k.Semi ∷ []) more))
    (subst S (sym (append_assoc (exp_tokens t) (k.Assign ∷ exp_tokens e) (k.Semi ∷ more))) (opens t (k.Assign ∷ (exp_tokens e ++ k.Semi ∷ more))).0)
stm_first (Do e) more = (held_opens (is_dict (form_of e)) e (k.Semi ∷ []) more (λ h. h)).0
stm_first (Return NoneExp) more = refl
stm_first (Return (SomeExp e)) more = refl
stm_first (Throw e) more = refl
stm_first (If c b o) more = refl
stm_first (While c b) more = refl
stm_first (For s c n b) more = refl
stm_first (ForIn i v e b) more = refl
stm_first (Fun f ws b) more = refl
stm_first (Try b w c) more = refl
stm_first (Block b) more = refl

pub stms_first : (ss : Stms) (rest : List Terminal) → begins_else rest ≡ false → begins_else (stms_tokens ss ++ rest) ≡ false
stms_first Done rest free = free
stms_first (Then s ss) rest free = subst (λ (ts : List Terminal). begins_else ts ≡ false) (sym (append_assoc (stm_tokens s) (stms_tokens ss) rest)) (stm_first s (stms_tokens ss ++ rest))
