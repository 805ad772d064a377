-- How the loops over operators and over the parts of templates go on and end.
use Rattle.std.proofs.Common.{◌≡◌, ℕ, zero, suc, ◌+◌, ◌<◌, ◌≤◌, max, List, [], ◌∷◌, ◌++◌, length, false, Option, Some, None, Result, Ok, Err, refl, sym, ap, ◌∙◌, arith}
use Rattle.hog_tree.specs.Plain.{Exp, Parts, NoPart, MoreText, MoreHole}
use Rattle.hog_tree.specs.View.{exp_of, part_of, parts_from}
use Rattle.hog_tree.specs.declared.tree.Part as t
use Rattle.hog_tree.specs.declared.tree.Part.{Part}
use Rattle.hog_grammar.specs.Pieces.{Lexed}
use Rattle.hog_grammar.specs.Terminal.{Terminal}
use Rattle.hog_grammar.specs.Terminal as k
use Rattle.hog_reading.specs.declared.found.Stop.{Stop}
use Rattle.hog_reading.specs.declared.found.Stop.TheVariants as s
use Rattle.hog_terms.specs.Marks.{lead, after_hole}
use Rattle.hog_reading.specs.Read.{Fault, Syntax, TooNested, Got, got, ◌>>=◌, wants, Read, Readers, step, climb, parts, put_text, put_hole}
use Rattle.hog_terms.specs.Listed.{is_part}
use Rattle.hog_reading.specs.Gives.{Fails, holed}
use Rattle.hog_reading.proofs.Climb.{climb_stops, climb_full, climb_steps}

-- operators

abbrev pub Climbs : Readers → ℕ → ℕ → Got Exp → Result (Got Exp) Fault → Type 0
Climbs again room l g total = (most : ℕ) × (room ≤ most + g.height) × (climb again most room l g ≡ total)

pub climb_goes : (again : Readers) (d l : ℕ) (g x : Got Exp) (total : Result (Got Exp) Fault) → l ≤ lead g.rest → g.height < d → g.height < x.height → step again g.tree g.height g.rest ≡ Ok x → Climbs again d l g total → Climbs again d l x total
climb_goes again d l g x total go small taller is (zero, enough, same) = absurd (omega arith)
climb_goes again d l g x total go small taller is (suc m, enough, same) =
    (m, omega arith, sym (climb_steps again m d l g go small ∙ ap (λ s. s >>= climb again m d l) is) ∙ same)

so_climb_fails : (again : Readers) (d l : ℕ) (g : Got Exp) (total : Result (Got Exp) Fault) (e : Fault) → l ≤ lead g.rest → g.height < d → step again g.tree g.height g.rest ≡ Err e → Climbs again d l g total → total ≡ Err e
so_climb_fails again d l g total e go small is (zero, enough, same) = absurd (omega arith)
so_climb_fails again d l g total e go small is (suc m, enough, same) = sym same ∙ climb_steps again m d l g go small ∙ ap (λ s. s >>= climb again m d l) is

pub climb_fails : (c : Lexed) (stop : Stop) (again : Readers) (d l : ℕ) (g : Got Exp) (total : Result (Got Exp) Fault) → l ≤ lead g.rest → g.height < d → Fails c stop (step again g.tree g.height g.rest) → Climbs again d l g total → Fails c stop total
climb_fails c (s.Syntax i) again d l g total go small is x = so_climb_fails again d l g total _ go small is x
climb_fails c (s.TooNested i) again d l g total go small is x = so_climb_fails again d l g total _ go small is x
climb_fails c s.OutOfMemory again d l g total go small is x = tt

pub climb_ends : (again : Readers) (d l : ℕ) (g : Got Exp) (total : Result (Got Exp) Fault) → lead g.rest < l → Climbs again d l g total → total ≡ Ok g
climb_ends again d l g total stop (m, enough, same) = sym same ∙ climb_stops again m d l g stop

pub climb_is_full : (again : Readers) (d l : ℕ) (g : Got Exp) (total : Result (Got Exp) Fault) → l ≤ lead g.rest → d ≤ g.height → Climbs again d l g total → total ≡ Err (TooNested (length g.rest))
climb_is_full again d l g total go full (m, enough, same) = sym same ∙ climb_full again m d l g go full

-- the parts of templates

abbrev pub joined_parts : Parts → Parts → Parts
joined_parts NoPart rs = rs
joined_parts (MoreText bs ps) rs = MoreText bs (joined_parts ps rs)
joined_parts (MoreHole e ps) rs = MoreHole e (joined_parts ps rs)

pub parts_all : (ps : Parts) → joined_parts ps NoPart ≡ ps
parts_all NoPart = refl
parts_all (MoreText bs ps) = ap (MoreText bs) (parts_all ps)
parts_all (MoreHole e ps) = ap (MoreHole e) (parts_all ps)

parts_more : (xs : List Part) (x : Part) (rs : Parts) → joined_parts (parts_from (xs ++ x ∷ [])) rs ≡ joined_parts (parts_from xs) (part_of x rs)
parts_more [] (t.Text bs) rs = refl
parts_more [] (t.Hole e) rs = refl
parts_more (t.Text bs ∷ xs) x rs = ap (MoreText bs) (parts_more xs x rs)
parts_more (t.Hole e ∷ xs) x rs = ap (MoreHole (exp_of e)) (parts_more xs x rs)

-- with the parts that were read before
abbrev pub after_parts : List Part → ℕ → Got Parts → Result (Got Parts) Fault
after_parts xs top g = Ok (got (joined_parts (parts_from xs) g.tree) (max top g.height) g.rest)

abbrev pub Parted : Read Exp → ℕ → List Part → ℕ → List Terminal → Result (Got Parts) Fault → Type 0
Parted exp most xs top ts total = (parts exp most ts >>= after_parts xs top) ≡ total

none_before : (r : Result (Got Parts) Fault) → (r >>= after_parts [] 0) ≡ r
none_before (Err e) = refl
none_before (Ok g) = let e : max 0 g.height ≡ g.height = omega arith in ap (λ h. Ok (got g.tree h g.rest)) e

pub parts_begin : (exp : Read Exp) (most : ℕ) (ts : List Terminal) → Parted exp most [] 0 ts (parts exp most ts)
parts_begin exp most ts = none_before (parts exp most ts)

text_after : (xs : List Part) (top : ℕ) (w : _) (bs : List ℕ) (r : Result (Got Parts) Fault) → ((rs : Parts) → part_of w rs ≡ MoreText bs rs) → (r >>= put_text bs >>= after_parts xs top) ≡ (r >>= after_parts (xs ++ w ∷ []) top)
text_after xs top w bs (Err e) is = refl
text_after xs top w bs (Ok g) is = ap (λ z. Ok (got z (max top g.height) g.rest)) (sym (parts_more xs w g.tree ∙ ap (joined_parts (parts_from xs)) (is g.tree)))

hole_after : (xs : List Part) (top : ℕ) (w : _) (x : Got Exp) (r : Result (Got Parts) Fault) → ((rs : Parts) → part_of w rs ≡ MoreHole x.tree rs) → (r >>= put_hole x >>= after_parts xs top) ≡ (r >>= after_parts (xs ++ w ∷ []) (max top x.height))
hole_after xs top w x (Err e) is = refl
hole_after xs top w x (Ok g) is =
    let e : max top (max x.height g.height) ≡ max (max top x.height) g.height = omega arith in
    ap (λ z. Ok (got z (max top (max x.height g.height)) g.rest)) (sym (parts_more xs w g.tree ∙ ap (joined_parts (parts_from xs)) (is g.tree)))
    ∙ ap (λ h. Ok (got (joined_parts (parts_from (xs ++ w ∷ [])) g.tree) h g.rest)) e

pub parts_text : (exp : Read Exp) (n m : ℕ) (xs : List Part) (top : ℕ) (ts us : List Terminal) (bs : List ℕ) (w : Part) (total : Result (Got Parts) Fault) → n ≡ suc m → ts ≡ k.Characters bs ∷ us → ((rs : Parts) → part_of w rs ≡ MoreText bs rs)
    → Parted exp n xs top ts total → Parted exp m (xs ++ w ∷ []) top us total
unfolding parts
parts_text exp n m xs top ts us bs w total at front is same =
    sym (text_after xs top w bs (parts exp m us) is) ∙ ap (λ z. parts exp (suc m) z >>= after_parts xs top) (sym front) ∙ ap (λ z. parts exp z ts >>= after_parts xs top) (sym at) ∙ same

hole_rest : (o : Option (List Terminal)) (g : Got Exp) (next : Read Parts) → wants o (λ vs. next vs >>= put_hole g) ≡ (wants o (λ vs. Ok (got g.tree g.height vs)) >>= λ x. next x.rest >>= put_hole x)
hole_rest (Some vs) g next = refl
hole_rest None g next = refl

hole_same : (r : Result (Got Exp) Fault) (next : Read Parts) → (r >>= λ g. wants (after_hole g.rest) (λ vs. next vs >>= put_hole g)) ≡ (r >>= holed >>= λ x. next x.rest >>= put_hole x)
hole_same (Err e) next = refl
hole_same (Ok g) next = hole_rest (after_hole g.rest) g next

hole_steps : (exp : Read Exp) (n m : ℕ) (ts us : List Terminal) → n ≡ suc m → ts ≡ k.HoleStart ∷ us → parts exp n ts ≡ (exp us >>= holed >>= λ x. parts exp m x.rest >>= put_hole x)
unfolding parts
hole_steps exp n m ts us at front = ap (λ z. parts exp z ts) at ∙ ap (parts exp (suc m)) front ∙ hole_same (exp us) (parts exp m)

pub parts_hole : (exp : Read Exp) (n m : ℕ) (xs : List Part) (top : ℕ) (ts us : List Terminal) (x : Got Exp) (w : Part) (total : Result (Got Parts) Fault) → n ≡ suc m → ts ≡ k.HoleStart ∷ us → (exp us >>= holed) ≡ Ok x → ((rs : Parts) → part_of w rs ≡ MoreHole x.tree rs)
    → Parted exp n xs top ts total → Parted exp m (xs ++ w ∷ []) (max top x.height) x.rest total
parts_hole exp n m xs top ts us x w total at front found is same =
    sym (hole_after xs top w x (parts exp m x.rest) is) ∙ ap (λ r. r >>= (λ x. parts exp m x.rest >>= put_hole x) >>= after_parts xs top) (sym found)
    ∙ ap (λ r. r >>= after_parts xs top) (sym (hole_steps exp n m ts us at front)) ∙ same

hole_so_fails : (exp : Read Exp) (n m : ℕ) (xs : List Part) (top : ℕ) (ts us : List Terminal) (e : Fault) (total : Result (Got Parts) Fault) → n ≡ suc m → ts ≡ k.HoleStart ∷ us → (exp us >>= holed) ≡ Err e
    → Parted exp n xs top ts total → total ≡ Err e
hole_so_fails exp n m xs top ts us e total at front found same =
    sym same ∙ ap (λ r. r >>= after_parts xs top) (hole_steps exp n m ts us at front) ∙ ap (λ r. r >>= (λ x. parts exp m x.rest >>= put_hole x) >>= after_parts xs top) found

pub parts_hole_fails : (c : Lexed) (stop : Stop) (exp : Read Exp) (n m : ℕ) (xs : List Part) (top : ℕ) (ts us : List Terminal) (total : Result (Got Parts) Fault) → n ≡ suc m → ts ≡ k.HoleStart ∷ us → Fails c stop (exp us >>= holed)
    → Parted exp n xs top ts total → Fails c stop total
parts_hole_fails c (s.Syntax i) exp n m xs top ts us total at front found same = hole_so_fails exp n m xs top ts us _ total at front found same
parts_hole_fails c (s.TooNested i) exp n m xs top ts us total at front found same = hole_so_fails exp n m xs top ts us _ total at front found same
parts_hole_fails c s.OutOfMemory exp n m xs top ts us total at front found same = tt

pub parts_end : (exp : Read Exp) (n m : ℕ) (xs : List Part) (top : ℕ) (ts us : List Terminal) (total : Result (Got Parts) Fault) → n ≡ suc m → ts ≡ k.TemplateEnd ∷ us
    → Parted exp n xs top ts total → total ≡ Ok (got (parts_from xs) top us)
unfolding parts
parts_end exp n m xs top ts us total at front same =
    let e : max top 0 ≡ top = omega arith in
    sym same ∙ ap (λ z. parts exp z ts >>= after_parts xs top) at ∙ ap (λ z. parts exp (suc m) z >>= after_parts xs top) front
    ∙ ap (λ z. Ok (got z (max top 0) us)) (parts_all (parts_from xs)) ∙ ap (λ h. Ok (got (parts_from xs) h us)) e

stray_part : (exp : Read Exp) (m : ℕ) (ts : List Terminal) → is_part ts ≡ false → parts exp (suc m) ts ≡ Err Syntax
unfolding parts
stray_part exp m [] h = refl
stray_part exp m (k.Characters bs ∷ ts) h = absurd (cc)
stray_part exp m (k.HoleStart ∷ ts) h = absurd (cc)
stray_part exp m (k.TemplateEnd ∷ ts) h = absurd (cc)
stray_part exp m (_ ∷ ts) h = refl

pub parts_stray : (exp : Read Exp) (n m : ℕ) (xs : List Part) (top : ℕ) (ts : List Terminal) (total : Result (Got Parts) Fault) → n ≡ suc m → is_part ts ≡ false → Parted exp n xs top ts total → total ≡ Err Syntax
parts_stray exp n m xs top ts total at h same =
    sym same ∙ ap (λ z. parts exp z ts >>= after_parts xs top) at ∙ ap (λ r. r >>= after_parts xs top) (stray_part exp m ts h)

pub parts_out : (exp : Read Exp) (n : ℕ) (xs : List Part) (top : ℕ) (ts : List Terminal) (total : Result (Got Parts) Fault) → n ≡ 0 → Parted exp n xs top ts total → total ≡ Err Syntax
unfolding parts
parts_out exp n xs top ts total at same = sym same ∙ ap (λ z. parts exp z ts >>= after_parts xs top) at
