-- Conditions, loops, functions and programs that are read are spelled.
use Rattle.std.proofs.Common.{◌≡◌, ℕ, zero, suc, ◌+◌, ◌≤◌, max, true, false, List, [], ◌∷◌, ◌++◌, length, Option, Some, None, Ok, Err, refl, sym, ap, ◌∙◌, subst, append_assoc, append-nil, arith, inl, inr}
use Rattle.hog_tree.specs.Plain.{Word, Exp, Stm, Throw, If, While, For, ForIn, Fun, Try, Block, Stms, Done, Then, NoneExp, SomeExp, NoneStm, SomeStm, OptionStms, NoneStms, SomeStms}
use Rattle.hog_grammar.specs.Terminal.{Terminal}
use Rattle.hog_grammar.specs.Terminal as k
use Rattle.hog_grammar.specs.Forms.{Phrase, ends_block, begins_else, Governed}
use Rattle.hog_grammar.specs.Spelling.{OfStm, OfStms, OnlyOne, OfElse, StartOf, StepOf, Start, Step, Condition, bound, Spells}
use Rattle.hog_terms.specs.Marks.{Shut, after_open, after_close, after_open_brace, after_close_brace, after_semi, after_else, after_function, after_catch, after_bound}
use Rattle.hog_reading.specs.Read.{Syntax, TooNested, Got, got, ◌>>=◌, wants, either_way, Read, Readers, grown, listing, name, several, braced}
use Rattle.hog_reading.specs.ReadStatements.{in_parentheses, condition, only, governed, some_block, otherwise, conditional, looped, shut_some, optional, run, run_through, run_over, over_each, block, function, with_parameters, tried, begun, readers, all_read, program}
use Rattle.hog_spelling.proofs.Fronts.{is_open, is_close, is_open_brace, is_semi, is_else}
use Rattle.hog_spelling.proofs.Forms.{Spelled}
use Rattle.hog_spelling.proofs.Sound.{bind_ok, wants_ok, either_ok, from_ok, not_ok, Taken, Stated, Sound}
use Rattle.hog_spelling.proofs.SoundParts.{UpTo, several_sound, InBraces, braced_sound, no_brace_front, names_sound}
use Rattle.hog_spelling.proofs.SoundForms.{leveled_sound}
use Rattle.hog_spelling.proofs.SoundStatements.{is_function, is_catch, is_bound, plain_sound, start_sound, plain_stated, let_stated, prefix_stated, return_stated}

-- what is governed

abbrev GovernedIs : Stms → List Terminal → List Terminal → ℕ → Type 0
GovernedIs ss = Governed (OfStms ss) (OnlyOne ss)

governed_sound : (d : ℕ) (again : Readers) → Sound d again → (ts : List Terminal) (g : Got Stms) → governed again ts ≡ Ok g → Stated GovernedIs d ts g
unfolding governed
governed_sound d again sound ts g is =
    let alone = again.statement ts >>= only in
    elim (either_ok (after_open_brace ts) (braced again.statement) (either_way (after_semi ts) (λ us. Ok (got Done 0 us)) alone) g is) [
      | inl x ↦ (let t = braced_sound d again sound x.0 g x.2 in record { front = t.front; tokens = is_open_brace ts x.0 x.1 ∙ t.tokens; spells = inl t.spells; low = t.low })
      | inr x ↦ elim (either_ok (after_semi ts) (λ us. Ok (got Done 0 us)) alone g x.1) [
        | inl y ↦ (let it : Stated GovernedIs d ts (got Done 0 y.0) = record { front = k.Semi ∷ []; tokens = is_semi ts y.0 y.1; spells = inr (record { tokens = refl; height = refl }); low = omega arith } in
            subst (λ (z : Got Stms). Stated GovernedIs d ts z) (from_ok _ _ y.2) it)
        | inr y ↦ (let s = bind_ok (again.statement ts) only g y.1 in
            let t = sound.statement ts s.0 s.1 in
            let it : Stated GovernedIs d ts (got (Then s.0.tree Done) s.0.height s.0.rest) = record {
              front = t.front;
              tokens = t.tokens;
              spells = inr (record { part = t.spells; no_brace = no_brace_front t.front s.0.rest (sym (ap after_open_brace t.tokens) ∙ x.0) });
              low = t.low;
            } in
            subst (λ (z : Got Stms). Stated GovernedIs d ts z) (from_ok _ _ s.2) it)
      ]
    ]

not_else : (ts : List Terminal) → after_else ts ≡ None → begins_else ts ≡ false
not_else [] none = refl
not_else (k.Else ∷ ts) none = absurd (cc)
not_else (_ ∷ ts) none = refl

otherwise_sound : (d : ℕ) (again : Readers) → Sound d again → (ts : List Terminal) (g : Got OptionStms) → otherwise again ts ≡ Ok g → Stated OfElse d ts g
otherwise_sound d again sound ts g is = elim (either_ok (after_else ts) (λ us. governed again us >>= some_block) (Ok (got NoneStms 0 ts)) g is) [
  | inl x ↦ (let b = bind_ok (governed again x.0) some_block g x.2 in
      let t = governed_sound d again sound x.0 b.0 b.1 in
      let it : Stated OfElse d ts (got (SomeStms b.0.tree) b.0.height b.0.rest) = record {
        front = k.Else ∷ t.front;
        tokens = is_else ts x.0 x.1 ∙ ap (λ z. k.Else ∷ z) t.tokens;
        spells = record { inner = t.front; low = b.0.height; part = t.spells; tokens = refl; height = omega arith };
        low = t.low;
      } in
      subst (λ (z : Got OptionStms). Stated OfElse d ts z) (from_ok _ _ b.2) it)
  | inr x ↦ (let it : Stated OfElse d ts (got NoneStms 0 ts) = record { front = []; tokens = refl; spells = record { none = not_else ts x.0; tokens = refl; height = refl }; low = omega arith } in
      subst (λ (z : Got OptionStms). Stated OfElse d ts z) (from_ok _ _ x.1) it)
]

-- an expression, and the parenthesis after it
record Parenthesis (d : ℕ) (ts : List Terminal) (g : Got Exp) : Type 0 where
  front : List Terminal
  tokens : ts ≡ front ++ k.Close ∷ g.rest
  spells : Spelled g.tree 1 front g.height
  low : g.height ≤ d

closed_sound : (d : ℕ) (again : Readers) → Sound d again → (ts : List Terminal) (g : Got Exp) → (again.expression 1 ts >>= in_parentheses) ≡ Ok g → Parenthesis d ts g
closed_sound d again sound ts g is =
    let x = bind_ok (again.expression 1 ts) in_parentheses g is in
    let c = wants_ok (after_close x.0.rest) (λ us. Ok (got x.0.tree x.0.height us)) g x.2 in
    let t = sound.expression 1 ts x.0 (omega arith) x.1 in
    let it : Parenthesis d ts (got x.0.tree x.0.height c.0) = record { front = t.front; tokens = t.tokens ∙ ap (λ z. t.front ++ z) (is_close x.0.rest c.0 c.1); spells = t.spells; low = t.low } in
    subst (λ (z : Got Exp). Parenthesis d ts z) (from_ok _ _ c.2) it

condition_sound : (d : ℕ) (again : Readers) → Sound d again → (ts : List Terminal) (g : Got Exp) → condition again ts ≡ Ok g → (us : List Terminal) × (ts ≡ k.Open ∷ us) × Parenthesis d us g
condition_sound d again sound ts g is =
    let o = wants_ok (after_open ts) (λ us. again.expression 1 us >>= in_parentheses) g is in
    (o.0, is_open ts o.0 o.1, closed_sound d again sound o.0 g o.2)

if_stated : (d : ℕ) (again : Readers) → Sound d again → (ts : List Terminal) (g : Got Stm) → (condition again ts >>= λ c. governed again c.rest >>= λ b. otherwise again b.rest >>= conditional c b) ≡ Ok g → Stated OfStm (suc d) (k.If ∷ ts) g
if_stated d again sound ts g is =
    let c = bind_ok (condition again ts) (λ c. governed again c.rest >>= λ b. otherwise again b.rest >>= conditional c b) g is in
    let b = bind_ok (governed again c.0.rest) (λ b. otherwise again b.rest >>= conditional c.0 b) g c.2 in
    let o = bind_ok (otherwise again b.0.rest) (conditional c.0 b.0) g b.2 in
    let cs = condition_sound d again sound ts c.0 c.1 in
    let p = cs.2 in
    let s = governed_sound d again sound c.0.rest b.0 b.1 in
    let e = otherwise_sound d again sound b.0.rest o.0 o.1 in
    let it : Stated OfStm (suc d) (k.If ∷ ts) (got (If c.0.tree b.0.tree o.0.tree) (suc (max c.0.height (max b.0.height o.0.height))) o.0.rest) = record {
      front = k.If ∷ k.Open ∷ (p.front ++ k.Close ∷ (s.front ++ e.front));
      tokens = ap (λ z. k.If ∷ z) (cs.1 ∙ ap (λ z. k.Open ∷ z) (p.tokens ∙ ap (λ z. p.front ++ k.Close ∷ z) (s.tokens ∙ ap (λ z. s.front ++ z) e.tokens ∙ sym (append_assoc s.front e.front o.0.rest))
          ∙ sym (append_assoc p.front (k.Close ∷ (s.front ++ e.front)) o.0.rest)));
      spells = record {
        left = p.front;
        right = s.front ++ e.front;
        low = c.0.height;
        other = max b.0.height o.0.height;
        first = p.spells;
        second = record { left = s.front; right = e.front; low = b.0.height; other = o.0.height; first = subst (λ (z : List Terminal). GovernedIs b.0.tree s.front z b.0.height) e.tokens s.spells; second = e.spells; tokens = refl; height = refl };
        tokens = refl;
        height = omega arith;
      };
      low = (let l = p.low in let m = s.low in let n = e.low in omega (arith, l, m, n));
    } in
    subst (λ (z : Got Stm). Stated OfStm (suc d) (k.If ∷ ts) z) (from_ok _ _ o.2) it

while_stated : (d : ℕ) (again : Readers) → Sound d again → (ts : List Terminal) (g : Got Stm) → (condition again ts >>= λ c. governed again c.rest >>= looped c) ≡ Ok g → Stated OfStm (suc d) (k.While ∷ ts) g
while_stated d again sound ts g is =
    let c = bind_ok (condition again ts) (λ c. governed again c.rest >>= looped c) g is in
    let b = bind_ok (governed again c.0.rest) (looped c.0) g c.2 in
    let cs = condition_sound d again sound ts c.0 c.1 in
    let p = cs.2 in
    let s = governed_sound d again sound c.0.rest b.0 b.1 in
    let it : Stated OfStm (suc d) (k.While ∷ ts) (got (While c.0.tree b.0.tree) (suc (max c.0.height b.0.height)) b.0.rest) = record {
      front = k.While ∷ k.Open ∷ (p.front ++ k.Close ∷ s.front);
      tokens = ap (λ z. k.While ∷ z) (cs.1 ∙ ap (λ z. k.Open ∷ z) (p.tokens ∙ ap (λ z. p.front ++ k.Close ∷ z) s.tokens ∙ sym (append_assoc p.front (k.Close ∷ s.front) b.0.rest)));
      spells = record { left = p.front; right = s.front; low = c.0.height; other = b.0.height; first = p.spells; second = s.spells; tokens = refl; height = omega arith };
      low = (let l = p.low in let m = s.low in omega (arith, l, m));
    } in
    subst (λ (z : Got Stm). Stated OfStm (suc d) (k.While ∷ ts) z) (from_ok _ _ b.2) it

each_stated : (d : ℕ) (again : Readers) → Sound d again → (ts us : List Terminal) (p : (Option Word × Word) × List Terminal) (g : Got Stm) → ts ≡ k.Open ∷ us → after_bound us ≡ Some p → over_each again p ≡ Ok g → Stated OfStm (suc d) (k.For ∷ ts) g
each_stated d again sound ts us p g opens bounds is =
    let c = bind_ok (again.expression 1 p.1 >>= in_parentheses) (λ e. governed again e.rest >>= run_over p.0 e) g is in
    let b = bind_ok (governed again c.0.rest) (run_over p.0 c.0) g c.2 in
    let e = closed_sound d again sound p.1 c.0 c.1 in
    let s = governed_sound d again sound c.0.rest b.0 b.1 in
    let bs = bound p.0.0 p.0.1 in
    let it : Stated OfStm (suc d) (k.For ∷ ts) (got (ForIn p.0.0 p.0.1 c.0.tree b.0.tree) (suc (max c.0.height b.0.height)) b.0.rest) = record {
      front = k.For ∷ k.Open ∷ k.Let ∷ (bs ++ k.In ∷ (e.front ++ k.Close ∷ s.front));
      tokens = ap (λ z. k.For ∷ z) (opens ∙ ap (λ z. k.Open ∷ z) (is_bound us p bounds ∙ ap (λ z. k.Let ∷ z) (ap (λ z. bs ++ k.In ∷ z) (e.tokens ∙ ap (λ z. e.front ++ k.Close ∷ z) s.tokens ∙ sym (append_assoc e.front (k.Close ∷ s.front) b.0.rest))
          ∙ sym (append_assoc bs (k.In ∷ (e.front ++ k.Close ∷ s.front)) b.0.rest))));
      spells = record { left = e.front; right = s.front; low = c.0.height; other = b.0.height; first = e.spells; second = s.spells; tokens = refl; height = omega arith };
      low = (let l = e.low in let m = s.low in omega (arith, l, m));
    } in
    subst (λ (z : Got Stm). Stated OfStm (suc d) (k.For ∷ ts) z) (from_ok _ _ b.2) it

-- what may be left out in a `for`, up to its mark
record Marked {B : Type 0} (P : B → Phrase) (close : Terminal) (d : ℕ) (ts : List Terminal) (g : Got B) : Type 0 where
  front : List Terminal
  tokens : ts ≡ front ++ close ∷ g.rest
  spells : P g.tree front g.height
  low : g.height ≤ d

optional_sound : {A B : Type 0} (P : A → Phrase) (Q : B → Phrase) (none : B) (make : A → B) (shut : Shut) (close : Terminal) (part : Read A) (d : ℕ) → ((ts us : List Terminal) → shut ts ≡ Some us → ts ≡ close ∷ us)
    → Q none [] 0 → ((x : A) (ts : List Terminal) (h : ℕ) → P x ts h → Q (make x) ts h) → (ts : List Terminal) (g : Got B) → ((x : Got A) → part ts ≡ Ok x → Taken P d ts x) → optional none make shut part ts ≡ Ok g → Marked Q close d ts g
optional_sound P Q none make shut close part d is_shut nothing something ts g sound is = elim (either_ok (shut ts) (λ us. Ok (got none 0 us)) (part ts >>= shut_some make shut) g is) [
  | inl x ↦ (let it : Marked Q close d ts (got none 0 x.0) = record { front = []; tokens = is_shut ts x.0 x.1; spells = nothing; low = omega arith } in subst (λ (z : Got _). Marked Q close d ts z) (from_ok _ _ x.2) it)
  | inr x ↦ (let y = bind_ok (part ts) (shut_some make shut) g x.1 in
      let c = wants_ok (shut y.0.rest) (λ us. Ok (got (make y.0.tree) y.0.height us)) g y.2 in
      let t = sound y.0 y.1 in
      let it : Marked Q close d ts (got (make y.0.tree) y.0.height c.0) = record { front = t.front; tokens = t.tokens ∙ ap (λ z. t.front ++ z) (is_shut y.0.rest c.0 c.1); spells = something y.0.tree t.front y.0.height t.spells; low = t.low } in
      subst (λ (z : Got _). Marked Q close d ts z) (from_ok _ _ c.2) it)
]

for_stated : (d : ℕ) (again : Readers) → Sound d again → (ts us : List Terminal) (g : Got Stm) → ts ≡ k.Open ∷ us → run_through again us ≡ Ok g → Stated OfStm (suc d) (k.For ∷ ts) g
unfolding run_through
for_stated d again sound ts us g opens is =
    let s = bind_ok (optional NoneStm SomeStm after_semi again.start us) (λ s. optional NoneExp SomeExp after_semi (again.expression 1) s.rest >>= λ c. optional NoneStm SomeStm after_close again.step c.rest >>= λ n. governed again n.rest >>= run s c n) g is in
    let c = bind_ok (optional NoneExp SomeExp after_semi (again.expression 1) s.0.rest) (λ c. optional NoneStm SomeStm after_close again.step c.rest >>= λ n. governed again n.rest >>= run s.0 c n) g s.2 in
    let n = bind_ok (optional NoneStm SomeStm after_close again.step c.0.rest) (λ n. governed again n.rest >>= run s.0 c.0 n) g c.2 in
    let b = bind_ok (governed again n.0.rest) (run s.0 c.0 n.0) g n.2 in
    let ss = optional_sound StartOf Start NoneStm SomeStm after_semi k.Semi again.start d is_semi (record { tokens = refl; height = refl }) (λ x xs h y. y) us s.0 (λ x r. sound.start us x r) s.1 in
    let cs = optional_sound (λ e. Spelled e 1) Condition NoneExp SomeExp after_semi k.Semi (again.expression 1) d is_semi (record { tokens = refl; height = refl }) (λ x xs h y. y) s.0.rest c.0
    (λ x r. let t = sound.expression 1 s.0.rest x (omega arith) r in record { front = t.front; tokens = t.tokens; spells = t.spells; low = t.low }) c.1 in
    let ns = optional_sound StepOf Step NoneStm SomeStm after_close k.Close again.step d is_close (record { tokens = refl; height = refl }) (λ x xs h y. y) c.0.rest n.0 (λ x r. sound.step c.0.rest x r) n.1 in
    let bs = governed_sound d again sound n.0.rest b.0 b.1 in
    let inner = cs.front ++ k.Semi ∷ ns.front in
    let header = ss.front ++ k.Semi ∷ inner in
    let it : Stated OfStm (suc d) (k.For ∷ ts) (got (For s.0.tree c.0.tree n.0.tree b.0.tree) (suc (max (max s.0.height (max c.0.height n.0.height)) b.0.height)) b.0.rest) = record {
      front = k.For ∷ k.Open ∷ (header ++ k.Close ∷ bs.front);
      tokens = ap (λ z. k.For ∷ z) (opens ∙ ap (λ z. k.Open ∷ z) (ss.tokens ∙ ap (λ z. ss.front ++ k.Semi ∷ z) (cs.tokens ∙ ap (λ z. cs.front ++ k.Semi ∷ z) (ns.tokens ∙ ap (λ z. ns.front ++ k.Close ∷ z) bs.tokens)
          ∙ sym (append_assoc cs.front (k.Semi ∷ ns.front) (k.Close ∷ (bs.front ++ b.0.rest)))) ∙ sym (append_assoc ss.front (k.Semi ∷ inner) (k.Close ∷ (bs.front ++ b.0.rest)))
          ∙ sym (append_assoc header (k.Close ∷ bs.front) b.0.rest)));
      spells = record {
        left = header;
        right = bs.front;
        low = 0 + max s.0.height (0 + max c.0.height n.0.height);
        other = b.0.height;
        first = record {
          left = ss.front;
          right = inner;
          low = s.0.height;
          other = 0 + max c.0.height n.0.height;
          first = ss.spells;
          second = record { left = cs.front; right = ns.front; low = c.0.height; other = n.0.height; first = cs.spells; second = ns.spells; tokens = refl; height = refl };
          tokens = refl;
          height = refl;
        };
        second = bs.spells;
        tokens = refl;
        height = omega arith;
      };
      low = (let l = ss.low in let m = cs.low in let n = ns.low in let o = bs.low in omega (arith, l, m, n, o));
    } in
    subst (λ (z : Got Stm). Stated OfStm (suc d) (k.For ∷ ts) z) (from_ok _ _ b.2) it

-- functions and `try`

block_sound : (d : ℕ) (again : Readers) → Sound d again → (ts : List Terminal) (g : Got Stms) → block again ts ≡ Ok g → Stated InBraces d ts g
block_sound d again sound ts g is =
    let o = wants_ok (after_open_brace ts) (braced again.statement) g is in
    let t = braced_sound d again sound o.0 g o.2 in
    record { front = t.front; tokens = is_open_brace ts o.0 o.1 ∙ t.tokens; spells = t.spells; low = t.low }

fun_stated : (d : ℕ) (again : Readers) → Sound d again → (ts : List Terminal) (g : Got Stm) → wants (after_function ts) (with_parameters again) ≡ Ok g → Stated OfStm (suc d) (k.Fun ∷ ts) g
fun_stated d again sound ts g is =
    let p = wants_ok (after_function ts) (with_parameters again) g is in
    let f = p.0.0 in
    let w = bind_ok (listing name false after_close p.0.1) (λ ws. block again ws.rest >>= function f ws) g p.2 in
    let b = bind_ok (block again w.0.rest) (function f w.0) g w.2 in
    let n = names_sound d p.0.1 w.0 w.1 in
    let s = block_sound d again sound w.0.rest b.0 b.1 in
    let it : Stated OfStm (suc d) (k.Fun ∷ ts) (got (Fun f w.0.tree b.0.tree) (suc (max w.0.height b.0.height)) b.0.rest) = record {
      front = k.Fun ∷ k.Word f ∷ k.Open ∷ (n.front ++ s.front);
      tokens = ap (λ z. k.Fun ∷ z) (is_function ts p.0 p.1 ∙ ap (λ z. k.Word f ∷ k.Open ∷ z) (n.tokens ∙ ap (λ z. n.front ++ z) s.tokens ∙ sym (append_assoc n.front s.front b.0.rest)));
      spells = record { left = n.front; right = s.front; low = w.0.height; other = b.0.height; first = n.spells; second = s.spells; tokens = refl; height = omega arith };
      low = (let l = n.low in let m = s.low in omega (arith, l, m));
    } in
    subst (λ (z : Got Stm). Stated OfStm (suc d) (k.Fun ∷ ts) z) (from_ok _ _ b.2) it

try_stated : (d : ℕ) (again : Readers) → Sound d again → (ts : List Terminal) (g : Got Stm) → (block again ts >>= λ b. wants (after_catch b.rest) (λ p. block again p.1 >>= tried b p.0)) ≡ Ok g → Stated OfStm (suc d) (k.Try ∷ ts) g
try_stated d again sound ts g is =
    let b = bind_ok (block again ts) (λ b. wants (after_catch b.rest) (λ p. block again p.1 >>= tried b p.0)) g is in
    let p = wants_ok (after_catch b.0.rest) (λ p. block again p.1 >>= tried b.0 p.0) g b.2 in
    let c = bind_ok (block again p.0.1) (tried b.0 p.0.0) g p.2 in
    let w = p.0.0 in
    let s = block_sound d again sound ts b.0 b.1 in
    let t = block_sound d again sound p.0.1 c.0 c.1 in
    let mid = k.Catch ∷ k.Open ∷ k.Word w ∷ k.Close ∷ [] in
    let follows : b.0.rest ≡ mid ++ (t.front ++ c.0.rest) = is_catch b.0.rest p.0 p.1 ∙ ap (λ z. mid ++ z) t.tokens in
    let it : Stated OfStm (suc d) (k.Try ∷ ts) (got (Try b.0.tree w c.0.tree) (suc (max b.0.height c.0.height)) c.0.rest) = record {
      front = k.Try ∷ (s.front ++ (mid ++ t.front));
      tokens = ap (λ z. k.Try ∷ z) (s.tokens ∙ ap (λ z. s.front ++ z) follows ∙ sym (append_assoc s.front (mid ++ t.front) c.0.rest));
      spells = record {
        inner = s.front ++ (mid ++ t.front);
        low = max b.0.height c.0.height;
        part = record { left = s.front; right = t.front; low = b.0.height; other = c.0.height; first = subst (λ (z : List Terminal). InBraces b.0.tree s.front z b.0.height) follows s.spells; second = t.spells; tokens = refl; height = refl };
        tokens = refl;
        height = omega arith;
      };
      low = (let l = s.low in let m = t.low in omega (arith, l, m));
    } in
    subst (λ (z : Got Stm). Stated OfStm (suc d) (k.Try ∷ ts) z) (from_ok _ _ c.2) it

block_stated : (d : ℕ) (again : Readers) → Sound d again → (ts : List Terminal) (g : Got Stm) → (braced again.statement ts >>= grown Block) ≡ Ok g → Stated OfStm (suc d) (k.OpenBrace ∷ ts) g
block_stated d again sound ts g is =
    let x = bind_ok (braced again.statement ts) (grown Block) g is in
    let t = braced_sound d again sound ts x.0 x.1 in
    let b = t.spells in
    let it : Stated OfStm (suc d) (k.OpenBrace ∷ ts) (got (Block x.0.tree) (suc x.0.height) x.0.rest) = record {
      front = t.front;
      tokens = t.tokens;
      spells = record { inner = b.inner; low = b.low; part = b.part; tokens = b.tokens; height = (let h = b.height in omega (arith, h)) };
      low = (let l = t.low in omega (arith, l));
    } in
    subst (λ (z : Got Stm). Stated OfStm (suc d) (k.OpenBrace ∷ ts) z) (from_ok _ _ x.2) it

for_any : (d : ℕ) (again : Readers) → Sound d again → (ts : List Terminal) (g : Got Stm) → wants (after_open ts) (λ us. either_way (after_bound us) (over_each again) (run_through again us)) ≡ Ok g → Stated OfStm (suc d) (k.For ∷ ts) g
for_any d again sound ts g is =
    let o = wants_ok (after_open ts) (λ us. either_way (after_bound us) (over_each again) (run_through again us)) g is in
    elim (either_ok (after_bound o.0) (over_each again) (run_through again o.0) g o.2) [
      | inl x ↦ each_stated d again sound ts o.0 x.0 g (is_open ts o.0 o.1) x.1 x.2
      | inr x ↦ for_stated d again sound ts o.0 g (is_open ts o.0 o.1) x.1
    ]

begun_sound : (d : ℕ) (again : Readers) → Sound d again → (ts : List Terminal) (g : Got Stm) → begun again ts ≡ Ok g → Stated OfStm (suc d) ts g
unfolding begun
begun_sound d again sound (k.Let ∷ ts) g is = let_stated d again sound ts g is
begun_sound d again sound (k.Return ∷ ts) g is = return_stated d again sound ts g is
begun_sound d again sound (k.Throw ∷ ts) g is = prefix_stated d again sound k.Throw Throw ts g (λ e xs rest h b. b) is
begun_sound d again sound (k.If ∷ ts) g is = if_stated d again sound ts g is
begun_sound d again sound (k.While ∷ ts) g is = while_stated d again sound ts g is
begun_sound d again sound (k.For ∷ ts) g is = for_any d again sound ts g is
begun_sound d again sound (k.Fun ∷ ts) g is = fun_stated d again sound ts g is
begun_sound d again sound (k.Try ∷ ts) g is = try_stated d again sound ts g is
begun_sound d again sound (k.OpenBrace ∷ ts) g is = block_stated d again sound ts g is
begun_sound d again sound [] g is = plain_stated d again sound [] g refl is
begun_sound d again sound (t ∷ ts) g is = plain_stated d again sound (t ∷ ts) g refl is

pub readers_sound : (d : ℕ) → Sound d (readers d)
unfolding readers
readers_sound zero = record { expression = λ l ts g top is. not_ok (TooNested (length ts)) g is; statement = λ ts g is. not_ok (TooNested (length ts)) g is; start = λ ts g is. not_ok (TooNested (length ts)) g is; step = λ ts g is. not_ok (TooNested (length ts)) g is }
readers_sound (suc d) = let sound = readers_sound d in record {
  expression = λ l ts g top is. leveled_sound d l (readers d) sound ts g top is;
  statement = λ ts g is. begun_sound d (readers d) sound ts g is;
  start = λ ts g is. start_sound d (readers d) sound ts g is;
  step = λ ts g is. plain_sound d (readers d) sound ts g is;
}

pub end_or : (ts : List Terminal) → ends_block ts ≡ true → after_close_brace ts ≡ None → ts ≡ []
end_or [] o e = refl
end_or (k.CloseBrace ∷ ts) o e = absurd (cc)
end_or (_ ∷ ts) o e = absurd (cc)

-- What is read of a program is spelled by all of its tokens.
pub program_sound : (d : ℕ) (ts : List Terminal) (g : Got Stms) → program d ts ≡ Ok g → Spells g.tree ts g.height × (g.height ≤ d)
unfolding program
program_sound d ts g is =
    let x = bind_ok (several (readers d).statement (suc (length ts)) ts) all_read g is in
    elim (either_ok (after_close_brace x.0.rest) (λ us. Err Syntax) (Ok x.0) g x.2) [
      | inl y ↦ not_ok Syntax g y.2
      | inr y ↦ of_all (several_sound d (readers d) (readers_sound d) (suc (length ts)) ts g (x.1 ∙ y.1)) (ap (λ (z : Got Stms). after_close_brace z.rest) (sym (from_ok x.0 g y.1)) ∙ y.0)
    ]
  where
    of_all : UpTo d ts g → after_close_brace g.rest ≡ None → Spells g.tree ts g.height × (g.height ≤ d)
    of_all t none =
        let nil = end_or g.rest t.over none in
        let same : ts ≡ t.front = t.tokens ∙ ap (λ z. t.front ++ z) nil ∙ append-nil t.front in
        (subst (λ (z : List Terminal). OfStms g.tree z [] g.height) (sym same) (subst (λ (z : List Terminal). OfStms g.tree t.front z g.height) nil t.spells), t.low)
