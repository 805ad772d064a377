-- What spells a program is read, so a list of tokens spells one program at most.
use Rattle.std.proofs.Common.{◌≡◌, ℕ, suc, ◌<◌, ◌≤◌, max, true, false, List, [], ◌∷◌, ◌++◌, length, Result, refl, sym, ap, ◌∙◌, subst, append_assoc, append-nil, arith, length-append}
use Rattle.hog_tree.specs.Plain.{Word, Exp, Int, Truth, Null, Text, Template, Name, Array, Dict, Neg, Not, Binary, Coalesce, Prop, PropNullish, Index, Call, Lambda, Exps, NoExp, MoreExp, Parts, NoPart, MoreText, MoreHole, Pairs, NoPair, MorePair, Body, OneExp, ManyStms, Stm, Let, Assign, Do, Return, Throw, If, While, For, ForIn, Fun, Try, Block, Stms, Done, Then, OptionExp, NoneExp, SomeExp, OptionStm, NoneStm, SomeStm, OptionStms, NoneStms, SomeStms}
use Rattle.hog_grammar.specs.Terminal.{Terminal, word}
use Rattle.hog_grammar.specs.Terminal as k
use Rattle.hog_grammar.specs.Forms.{Phrase, Listing}
use Rattle.hog_grammar.specs.Spelling.{level_of, tokens_of, OfBody, OfParts, OnlyOne, items, entries, Spells, OneTree}
use Rattle.hog_terms.specs.Marks.{after_close, after_close_bracket, after_close_brace, lead}
use Rattle.hog_reading.specs.Read.{Fault, Got, got, listing, entry, parts, body, several}
use Rattle.hog_reading.specs.ReadStatements.{readers, program, all_read}
use Rattle.hog_spelling.proofs.WordTokens.{Each}
use Rattle.hog_spelling.proofs.Fronts.{closes_list, closes_array, closes_dictionary}
use Rattle.hog_spelling.proofs.Levels.{prefix_levels, level_at_least, lead_of}
use Rattle.hog_spelling.proofs.Begin.{no_brace_none}
use Rattle.hog_spelling.proofs.Comes.{Comes, Ends, ends, deeper, same_ends, at_height, bind_ends}
use Rattle.hog_spelling.proofs.Lists.{Item, listing_ends, pred_of}
use Rattle.hog_spelling.proofs.Moves.{brace_like, stms_move}
use Rattle.hog_spelling.proofs.Forms.{BareComes, Reads, reads, at_comes, at_ends, spelled_above, int_comes, truth_comes, null_comes, text_comes, name_comes, neg_comes, not_comes, binary_comes, coalesce_comes, prop_comes, nullish_comes, index_comes, call_comes}
use Rattle.hog_spelling.proofs.Groups.{list_of, exps_list, ItemOf, items_map, pair_list, pairs_list, EntryOf, entries_map, exp_item, entry_item, array_comes, dict_comes, template_comes, last_part, text_part, hole_part, one_body_ends, block_body_ends, lambda_comes}
use Rattle.hog_spelling.proofs.Plains.{do_plains, assign_plains, plain_stm, DeclaredReads, no_value, some_value, let_stm, throw_stm, ReturnReads, return_nothing, return_value}
use Rattle.hog_spelling.proofs.Blocks.{StmReads, StmsRead, no_statements, more_statements, braced_reads, GovernedReads, governed_reads, no_one, just_one, ElseReads, no_else, some_else}
use Rattle.hog_spelling.proofs.Loops.{if_stm, while_stm, ConditionReads, no_condition, some_condition, StartReads, no_start, plain_started, let_started, StepReads, no_step, plain_stepped, for_stm, each_stm, fun_stm, try_stm, block_stm}

-- the lists of a form, from its items

arguments_end : (es : Exps) → Each Reads (list_of es) → (ts : List Terminal) (h : ℕ) → Listing false k.Close (items es) ts h → (rest : List Terminal) (d : ℕ) → Ends (listing ((readers d).expression 1) false after_close (ts ++ rest)) d rest (list_of es) h
arguments_end es each ts h b rest d =
    listing_ends d ((readers d).expression 1) false k.Close after_close closes_list ItemOf (list_of es) (items_of (list_of es) each) ts h (subst (λ (ps : List Phrase). Listing false k.Close ps ts h) (items_map es) b) rest
  where
    items_of : (es : List Exp) → Each Reads es → Each (Item d ((readers d).expression 1) after_close ItemOf) es
    items_of [] each = tt
    items_of (e ∷ es) each = (exp_item d k.Close after_close closes_list e each.0, items_of es each.1)

elements_end : (es : Exps) → Each Reads (list_of es) → (ts : List Terminal) (h : ℕ) → Listing true k.CloseBracket (items es) ts h → (rest : List Terminal) (d : ℕ) → Ends (listing ((readers d).expression 1) true after_close_bracket (ts ++ rest)) d rest (list_of es) h
elements_end es each ts h b rest d =
    listing_ends d ((readers d).expression 1) true k.CloseBracket after_close_bracket closes_array ItemOf (list_of es) (items_of (list_of es) each) ts h (subst (λ (ps : List Phrase). Listing true k.CloseBracket ps ts h) (items_map es) b) rest
  where
    items_of : (es : List Exp) → Each Reads es → Each (Item d ((readers d).expression 1) after_close_bracket ItemOf) es
    items_of [] each = tt
    items_of (e ∷ es) each = (exp_item d k.CloseBracket after_close_bracket closes_array e each.0, items_of es each.1)

abbrev PairReads : (Exp × Exp) → Type 0
PairReads p = Reads p.0 × Reads p.1

entries_end : (ds : Pairs) → Each PairReads (pair_list ds) → (ts : List Terminal) (h : ℕ) → Listing true k.CloseBrace (entries ds) ts h → (rest : List Terminal) (d : ℕ)
    → Ends (listing (entry ((readers d).expression 1)) true after_close_brace (ts ++ rest)) d rest (pair_list ds) h
entries_end ds each ts h b rest d =
    listing_ends d (entry ((readers d).expression 1)) true k.CloseBrace after_close_brace closes_dictionary EntryOf (pair_list ds) (entries_of (pair_list ds) each) ts h
    (subst (λ (ps : List Phrase). Listing true k.CloseBrace ps ts h) (entries_map ds) b) rest
  where
    entries_of : (ds : List (Exp × Exp)) → Each PairReads ds → Each (Item d (entry ((readers d).expression 1)) after_close_brace EntryOf) ds
    entries_of [] each = tt
    entries_of (p ∷ ds) each = (entry_item d k.CloseBrace after_close_brace closes_dictionary p.0 p.1 each.0.0 each.0.1, entries_of ds each.1)

abbrev PartsRead : Parts → Type 0
PartsRead ps = (ts : List Terminal) (h : ℕ) → OfParts ps ts h → (rest : List Terminal) (d m : ℕ) → length ts ≤ m → Ends (parts ((readers d).expression 1) m (ts ++ rest)) d rest ps h

no_parts : PartsRead NoPart
no_parts ts h b rest d m room = let i = pred_of m (omega (arith, room, ap length b.tokens)) in rw (b.tokens, b.height, i.1) (last_part d i.0 rest)

more_text : (bs : List ℕ) (ps : Parts) → PartsRead ps → PartsRead (MoreText bs ps)
more_text bs ps hyp ts h b rest d m room =
    let i = pred_of m (omega (arith, room, ap length b.tokens)) in
    rw (b.tokens, i.1) (text_part d i.0 (b.inner ++ rest) rest bs ps b.low h b.height (hyp b.inner b.low b.part rest d i.0 (omega (arith, room, i.1, ap length b.tokens))))

more_hole : (e : Exp) (ps : Parts) → Reads e → PartsRead ps → PartsRead (MoreHole e ps)
more_hole e ps one hyp ts h b rest d m room =
    let sizes = length-append b.left (k.HoleEnd ∷ b.right) in
    let i = pred_of m (omega (arith, room, ap length b.tokens)) in
    let vs = b.right ++ rest in
    let it = hole_part d i.0 (b.left ++ k.HoleEnd ∷ vs) vs rest e ps b.low b.other h b.height (one b.left b.low b.first (k.HoleEnd ∷ vs) refl d) (hyp b.right b.other b.second rest d i.0 (omega (arith, room, i.1, ap length b.tokens, sizes))) in
    let same : ts ++ rest ≡ k.HoleStart ∷ (b.left ++ k.HoleEnd ∷ vs) = ap (λ z. z ++ rest) b.tokens ∙ ap (λ z. k.HoleStart ∷ z) (append_assoc b.left (k.HoleEnd ∷ b.right) rest) in
    same_ends (ap (parts ((readers d).expression 1) m) same ∙ ap (λ n. parts ((readers d).expression 1) n (k.HoleStart ∷ (b.left ++ k.HoleEnd ∷ vs))) i.1) it

abbrev BodyReads : Body → Type 0
BodyReads b = (ts : List Terminal) (h : ℕ) → OfBody b ts h → (rest : List Terminal) → lead rest ≡ 0 → (d : ℕ) → Ends (body (readers d) (ts ++ rest)) d rest b h

one_read : (e : Exp) → Reads e → BodyReads (OneExp e)
one_read e hyp ts h b rest stop d =
    one_body_ends d (ts ++ rest) rest e h (no_brace_none ts rest (spelled_above e 1 ts h b.part).1 b.no_brace) (hyp ts h b.part rest stop d)

many_read : (ss : Stms) → StmsRead ss → BodyReads (ManyStms ss)
many_read ss hyp ts h b rest stop d =
    let part = stms_move ss b.inner (k.CloseBrace ∷ []) (k.CloseBrace ∷ rest) b.low (brace_like [] rest) b.part in
    let high : b.low ≡ h = omega (arith, b.height) in
    let it = block_body_ends d (b.inner ++ k.CloseBrace ∷ rest) rest ss b.low stop (braced_reads ss hyp b.inner rest b.low part d) in
    let same : ts ++ rest ≡ k.OpenBrace ∷ (b.inner ++ k.CloseBrace ∷ rest) = ap (λ z. z ++ rest) b.tokens ∙ ap (λ z. k.OpenBrace ∷ z) (append_assoc b.inner (k.CloseBrace ∷ []) rest) in
    at_height high (same_ends (ap (body (readers d)) same) it)

-- forms with parts, from what is known of the parts

array_of : (es : Exps) → Each Reads (list_of es) → BareComes (Array es)
array_of es each ts h b d l rest low stop =
    let it = array_comes d l (b.inner ++ rest) rest (list_of es) b.low h b.height (elements_end es each b.inner b.low b.part rest d) in
    rw b.tokens (subst (λ (xs : Exps). Comes d l (k.OpenBracket ∷ (b.inner ++ rest)) rest (Array xs) h) (exps_list es) it)

dict_of : (ds : Pairs) → Each PairReads (pair_list ds) → BareComes (Dict ds)
dict_of ds each ts h b d l rest low stop =
    let it = dict_comes d l (b.inner ++ rest) rest (pair_list ds) b.low h b.height (entries_end ds each b.inner b.low b.part rest d) in
    rw b.tokens (subst (λ (xs : Pairs). Comes d l (k.OpenBrace ∷ (b.inner ++ rest)) rest (Dict xs) h) (pairs_list ds) it)

template_of : (ps : Parts) → PartsRead ps → BareComes (Template ps)
template_of ps hyp ts h b d l rest low stop =
    rw b.tokens (template_comes d l (b.inner ++ rest) rest ps b.low h b.height (hyp b.inner b.low b.part rest d (length (b.inner ++ rest)) (omega (arith, length-append b.inner rest))))

call_of : (f : Exp) (es : Exps) → BareComes f → Each Reads (list_of es) → BareComes (Call f es)
call_of f es hyp each ts h b d l rest low stop =
    let us = b.right ++ rest in
    let left = at_comes f hyp 10 b.left b.low b.first d l (k.Open ∷ us) low (omega arith) (omega arith) in
    let it = call_comes d l (b.left ++ k.Open ∷ us) us rest f (list_of es) b.low b.other h left low b.height (arguments_end es each b.right b.other b.second rest d) in
    rw b.tokens (rw append_assoc (subst (λ (xs : Exps). Comes d l (b.left ++ k.Open ∷ us) rest (Call f xs) h) (exps_list es) it))

binary_of : (op : _) (x y : Exp) → BareComes x → BareComes y → BareComes (Binary op x y)
binary_of op x y left right ts h b d l rest low stop =
    let us = b.right ++ rest in
    let a = level_at_least op in
    let all : ts ++ rest ≡ b.left ++ (tokens_of op ++ us) = ap (λ z. z ++ rest) b.tokens ∙ append_assoc b.left (tokens_of op ++ b.right) rest ∙ ap (λ z. b.left ++ z) (append_assoc (tokens_of op) b.right rest) in
    let x_comes = at_comes x left (level_of op) b.left b.low b.first d l (tokens_of op ++ us) low (omega (arith, lead_of op us)) (omega (arith, a.1)) in
    let y_ends = at_ends y right (suc (level_of op)) b.right b.other b.second rest (omega (arith, stop)) (omega (arith, a.1)) d in
    rw all (binary_comes d l (b.left ++ (tokens_of op ++ us)) us rest op x y b.low b.other h x_comes low b.height y_ends)

coalesce_of : (x y : Exp) → BareComes x → BareComes y → BareComes (Coalesce x y)
coalesce_of x y left right ts h b d l rest low stop =
    let us = b.right ++ rest in
    let x_comes = at_comes x left 5 b.left b.low b.first d l (k.Coalesce ∷ us) low (omega arith) (omega arith) in
    let y_ends = at_ends y right 6 b.right b.other b.second rest (omega (arith, stop)) (omega arith) d in
    rw b.tokens (rw append_assoc (coalesce_comes d l (b.left ++ k.Coalesce ∷ us) us rest x y b.low b.other h x_comes low b.height y_ends))

prop_of : (e : Exp) (w : Word) → BareComes e → BareComes (Prop e w)
prop_of e w hyp ts h b d l rest low stop =
    let left = at_comes e hyp 10 b.inner b.low b.part d l (k.Dot ∷ word w ∷ rest) low (omega arith) (omega arith) in
    rw b.tokens (rw append_assoc (prop_comes d l (b.inner ++ k.Dot ∷ word w ∷ rest) rest e w b.low h left low b.height))

nullish_of : (e : Exp) (w : Word) → BareComes e → BareComes (PropNullish e w)
nullish_of e w hyp ts h b d l rest low stop =
    let left = at_comes e hyp 10 b.inner b.low b.part d l (k.NullishDot ∷ word w ∷ rest) low (omega arith) (omega arith) in
    rw b.tokens (rw append_assoc (nullish_comes d l (b.inner ++ k.NullishDot ∷ word w ∷ rest) rest e w b.low h left low b.height))

index_of : (e i : Exp) → BareComes e → BareComes i → BareComes (Index e i)
index_of e i left right ts h b d l rest low stop =
    let us = b.right ++ k.CloseBracket ∷ rest in
    let all : ts ++ rest ≡ b.left ++ k.OpenBracket ∷ us = ap (λ z. z ++ rest) b.tokens ∙ append_assoc b.left (k.OpenBracket ∷ (b.right ++ k.CloseBracket ∷ [])) rest ∙ ap (λ z. b.left ++ k.OpenBracket ∷ z) (append_assoc b.right (k.CloseBracket ∷ []) rest) in
    let e_comes = at_comes e left 10 b.left b.low b.first d l (k.OpenBracket ∷ us) low (omega arith) (omega arith) in
    rw all (index_comes d l (b.left ++ k.OpenBracket ∷ us) us rest e i b.low b.other h e_comes low b.height (reads i right b.right b.other b.second (k.CloseBracket ∷ rest) refl d))

neg_of : (e : Exp) → BareComes e → BareComes (Neg e)
neg_of e hyp ts h b d l rest low stop =
    let stop1 : lead rest < 9 = omega (arith, stop, (prefix_levels rest).0) in
    rw b.tokens (neg_comes d l (b.inner ++ rest) rest e b.low h low b.height (at_ends e hyp 9 b.inner b.low b.part rest stop1 (omega arith) d))

not_of : (e : Exp) → BareComes e → BareComes (Not e)
not_of e hyp ts h b d l rest low stop =
    let stop1 : lead rest < 4 = omega (arith, stop, (prefix_levels rest).1) in
    rw b.tokens (not_comes d l (b.inner ++ rest) rest e b.low h low b.height (at_ends e hyp 4 b.inner b.low b.part rest stop1 (omega arith) d))

lambda_of : (ws : List Word) (c : Body) → BodyReads c → BareComes (Lambda ws c)
lambda_of ws c hyp ts h b d l rest low stop =
    let stop1 : lead rest ≡ 0 = omega (arith, stop, (prefix_levels rest).2) in
    let us = b.right ++ rest in
    rw b.tokens (rw append_assoc (lambda_comes d l b.left us rest ws c b.low b.other h low b.height b.first (hyp b.right b.other b.second rest stop1 d)))

mutual
  comes : (e : Exp) → BareComes e
  comes (Int n) ts h b d l rest low stop = int_comes n ts h b d l rest low stop
  comes (Truth v) ts h b d l rest low stop = rw (b.tokens, b.height) (truth_comes v d l rest)
  comes Null ts h b d l rest low stop = rw (b.tokens, b.height) (null_comes d l rest)
  comes (Text bs) ts h b d l rest low stop = rw (b.tokens, b.height) (text_comes bs d l rest)
  comes (Name w) ts h b d l rest low stop = rw (b.tokens, b.height) (name_comes w d l rest stop)
  comes (Template ps) ts h b d l rest low stop = template_of ps (parts_read ps) ts h b d l rest low stop
  comes (Array es) ts h b d l rest low stop = array_of es (each_reads es) ts h b d l rest low stop
  comes (Dict ds) ts h b d l rest low stop = dict_of ds (each_pair ds) ts h b d l rest low stop
  comes (Neg e) ts h b d l rest low stop = neg_of e (comes e) ts h b d l rest low stop
  comes (Not e) ts h b d l rest low stop = not_of e (comes e) ts h b d l rest low stop
  comes (Binary op x y) ts h b d l rest low stop = binary_of op x y (comes x) (comes y) ts h b d l rest low stop
  comes (Coalesce x y) ts h b d l rest low stop = coalesce_of x y (comes x) (comes y) ts h b d l rest low stop
  comes (Prop e w) ts h b d l rest low stop = prop_of e w (comes e) ts h b d l rest low stop
  comes (PropNullish e w) ts h b d l rest low stop = nullish_of e w (comes e) ts h b d l rest low stop
  comes (Index e i) ts h b d l rest low stop = index_of e i (comes e) (comes i) ts h b d l rest low stop
  comes (Call f es) ts h b d l rest low stop = call_of f es (comes f) (each_reads es) ts h b d l rest low stop
  comes (Lambda ws c) ts h b d l rest low stop = lambda_of ws c (body_reads c) ts h b d l rest low stop

  each_reads : (es : Exps) → Each Reads (list_of es)
  each_reads NoExp = tt
  each_reads (MoreExp e es) = (reads e (comes e), each_reads es)

  each_pair : (ds : Pairs) → Each PairReads (pair_list ds)
  each_pair NoPair = tt
  each_pair (MorePair x y ds) = ((reads x (comes x), reads y (comes y)), each_pair ds)

  parts_read : (ps : Parts) → PartsRead ps
  parts_read NoPart = no_parts
  parts_read (MoreText bs ps) = more_text bs ps (parts_read ps)
  parts_read (MoreHole e ps) = more_hole e ps (reads e (comes e)) (parts_read ps)

  body_reads : (b : Body) → BodyReads b
  body_reads (OneExp e) = one_read e (reads e (comes e))
  body_reads (ManyStms ss) = many_read ss (stms_read ss)

  stm_reads : (s : Stm) → StmReads s
  stm_reads (Let x v) = let_stm x v (declared_reads v)
  stm_reads (Assign t e) = plain_stm (Assign t e) _ (assign_plains t e (reads t (comes t)) (reads e (comes e)))
  stm_reads (Do e) = plain_stm (Do e) _ (do_plains e (reads e (comes e)))
  stm_reads (Return v) = return_reads v
  stm_reads (Throw e) = throw_stm e (reads e (comes e))
  stm_reads (If c b o) = if_stm c b o (reads c (comes c)) (governed_reads b (stms_read b) (one_reads b)) (else_reads o)
  stm_reads (While c b) = while_stm c b (reads c (comes c)) (governed_reads b (stms_read b) (one_reads b))
  stm_reads (For s c n b) = for_stm s c n b (start_reads s) (condition_reads c) (step_reads n) (governed_reads b (stms_read b) (one_reads b))
  stm_reads (ForIn i v e b) = each_stm i v e b (reads e (comes e)) (governed_reads b (stms_read b) (one_reads b))
  stm_reads (Fun f ws b) = fun_stm f ws b (stms_read b)
  stm_reads (Try b w c) = try_stm b w c (stms_read b) (stms_read c)
  stm_reads (Block b) = block_stm b (stms_read b)

  stms_read : (ss : Stms) → StmsRead ss
  stms_read Done = no_statements
  stms_read (Then s ss) = more_statements s ss (stm_reads s) (stms_read ss)

  one_reads : (ss : Stms) → GovernedReads ss (OnlyOne ss)
  one_reads Done = no_one
  one_reads (Then s Done) = just_one s (stm_reads s)
  one_reads (Then s (Then r ss)) = λ ts rest h b d. absurd b

  else_reads : (o : OptionStms) → ElseReads o
  else_reads NoneStms = no_else
  else_reads (SomeStms b) = some_else b (governed_reads b (stms_read b) (one_reads b))

  declared_reads : (v : OptionExp) → DeclaredReads v
  declared_reads NoneExp = no_value
  declared_reads (SomeExp e) = some_value e (reads e (comes e))

  return_reads : (v : OptionExp) → ReturnReads v
  return_reads NoneExp = return_nothing
  return_reads (SomeExp e) = return_value e (reads e (comes e))

  condition_reads : (c : OptionExp) → ConditionReads c
  condition_reads NoneExp = no_condition
  condition_reads (SomeExp e) = some_condition e (reads e (comes e))

  start_reads : (s : OptionStm) → StartReads s
  start_reads NoneStm ts h b rest = no_start ts h b rest
  start_reads (SomeStm (Let x v)) ts h b rest = let_started x v ts rest h (declared_reads v x ts h b (k.Semi ∷ rest) refl refl)
  start_reads (SomeStm (Assign t e)) ts h b rest = plain_started (Assign t e) ts rest h (assign_plains t e (reads t (comes t)) (reads e (comes e)) ts h b (k.Semi ∷ rest) refl refl)
  start_reads (SomeStm (Do e)) ts h b rest = plain_started (Do e) ts rest h (do_plains e (reads e (comes e)) ts h b (k.Semi ∷ rest) refl refl)
  start_reads (SomeStm (Return v)) ts h b rest = absurd b
  start_reads (SomeStm (Throw e)) ts h b rest = absurd b
  start_reads (SomeStm (If c s o)) ts h b rest = absurd b
  start_reads (SomeStm (While c s)) ts h b rest = absurd b
  start_reads (SomeStm (For r c n s)) ts h b rest = absurd b
  start_reads (SomeStm (ForIn i v e s)) ts h b rest = absurd b
  start_reads (SomeStm (Fun f ws s)) ts h b rest = absurd b
  start_reads (SomeStm (Try s w c)) ts h b rest = absurd b
  start_reads (SomeStm (Block s)) ts h b rest = absurd b

  step_reads : (s : OptionStm) → StepReads s
  step_reads NoneStm ts h b rest d = no_step ts h b rest d
  step_reads (SomeStm (Assign t e)) ts h b rest d = plain_stepped (Assign t e) ts rest h (assign_plains t e (reads t (comes t)) (reads e (comes e)) ts h b (k.Close ∷ rest) refl refl) d
  step_reads (SomeStm (Do e)) ts h b rest d = plain_stepped (Do e) ts rest h (do_plains e (reads e (comes e)) ts h b (k.Close ∷ rest) refl refl) d
  step_reads (SomeStm (Let x v)) ts h b rest d = absurd b
  step_reads (SomeStm (Return v)) ts h b rest d = absurd b
  step_reads (SomeStm (Throw e)) ts h b rest d = absurd b
  step_reads (SomeStm (If c s o)) ts h b rest d = absurd b
  step_reads (SomeStm (While c s)) ts h b rest d = absurd b
  step_reads (SomeStm (For r c n s)) ts h b rest d = absurd b
  step_reads (SomeStm (ForIn i v e s)) ts h b rest d = absurd b
  step_reads (SomeStm (Fun f ws s)) ts h b rest d = absurd b
  step_reads (SomeStm (Try s w c)) ts h b rest d = absurd b
  step_reads (SomeStm (Block s)) ts h b rest d = absurd b

-- What spells a program is read, or is too high.
pub program_reads : (ss : Stms) (ts : List Terminal) (h : ℕ) → Spells ss ts h → (d : ℕ) → Ends (program d ts) d [] ss h
unfolding program
program_reads ss ts h b d =
    let it = stms_read ss ts [] h b refl d (suc (length ts)) (omega arith) in
    bind_ends all_read (same_ends (ap (several (readers d).statement (suc (length ts))) (sym (append-nil ts))) it) (λ z. z) (λ fits. ends fits refl)

both : {r : Result (Got Stms) Fault} {d : ℕ} {a b : Stms} {h i : ℕ} → h ≤ d → i ≤ d → Ends r d [] a h → Ends r d [] b i → (a ≡ b) × (h ≡ i)
both l m (deeper x n r) y = absurd (omega arith)
both l m (ends x r) (deeper y n s) = absurd (omega arith)
both {a = a} {b = b} {h = h} {i = i} l m (ends x r) (ends y s) = let same : got a h [] ≡ got b i [] = cc in (ap (λ (g : Got Stms). g.tree) same, ap (λ (g : Got Stms). g.height) same)

pub one_tree : OneTree
one_tree a b ts h i x y = both (omega arith) (omega arith) (program_reads a ts h x (max h i)) (program_reads b ts i y (max h i))
