-- How words are found.
use Rattle.std.proofs.Common.{◌≡◌, ℕ, List, [], ◌∷◌, ◌++◌, reverse, Option, Some, None, is_some, Bool, true, false, ◌||◌, bytes_eq, cond, refl, sym, ap, ◌∙◌, append_assoc, true≢false}
use Rattle.std.specs.Cmp.Lexicographic.{bytes_decides}
use Rattle.std.proofs.lemmas.List.{reverse-append}
use Rattle.hog_tree.specs.Plain.{Word}
use Rattle.hog_captures.specs.Frees.{is_among, without, without_all}
use Rattle.hog_captures.specs.Frames.{with_one, find_up, next_index}
use Rattle.hog_captures.specs.Finding.{Finding, with_word, with_words, bind, bind_all}

pub with_words-append : (xs ys : List Word) (f : Finding) → with_words (xs ++ ys) f ≡ with_words ys (with_words xs f)
with_words-append [] ys f = refl
with_words-append (x ∷ xs) ys f = with_words-append xs ys (with_word x f)

pub other_way : (v w : Word) → bytes_eq v w ≡ bytes_eq w v
other_way v w = by (bytes_eq v w) refl (bytes_eq w v) refl
  where
    by : (b : Bool) → bytes_eq v w ≡ b → (c : Bool) → bytes_eq w v ≡ c → b ≡ c
    by true e true f = refl
    by false e false f = refl
    by true e false f = absurd (true≢false (sym ((bytes_decides w v).1 (sym ((bytes_decides v w).0 e))) ∙ f))
    by false e true f = absurd (true≢false (sym ((bytes_decides v w).1 (sym ((bytes_decides w v).0 f))) ∙ e))

-- a word after a declaration
word_bound : (v w : Word) (f : Finding) → with_word v (bind w f) ≡ cond (bytes_eq v w) (bind w f) (bind w (with_word v f))
word_bound v w f = ap (λ b. cond (b || is_among v f.bound) (bind w f) (record (bind w f) { found = with_one f.frame f.found v })) (other_way w v) ∙ by (bytes_eq v w) (is_among v f.bound)
  where
    by : (b c : Bool) → cond (b || c) (bind w f) (record (bind w f) { found = with_one f.frame f.found v })
        ≡ cond b (bind w f) (bind w (cond c f (record f { found = with_one f.frame f.found v })))
    by true c = refl
    by false true = refl
    by false false = refl

-- what is declared is left out of what follows
words_bound : (ws : List Word) (w : Word) (f : Finding) → with_words ws (bind w f) ≡ bind w (with_words (without w ws) f)
words_bound [] w f = refl
words_bound (v ∷ ws) w f = ap (with_words ws) (word_bound v w f) ∙ by (bytes_eq v w) (λ g. words_bound ws w g)
  where
    by : (b : Bool) → ((g : Finding) → with_words ws (bind w g) ≡ bind w (with_words (without w ws) g))
        → with_words ws (cond b (bind w f) (bind w (with_word v f))) ≡ bind w (with_words (cond b (without w ws) (v ∷ without w ws)) f)
    by true ih = ih f
    by false ih = ih (with_word v f)

pub scoped : (names ws : List Word) (f : Finding) → with_words ws (bind_all names f) ≡ bind_all names (with_words (without_all names ws) f)
scoped [] ws f = refl
scoped (n ∷ names) ws f = scoped names ws (bind n f) ∙ ap (bind_all names) (words_bound (without_all names ws) n f)

-- words change nothing but what is found
word_keeps : (w : Word) (f : Finding) → with_word w f ≡ record f { found = (with_word w f).found }
word_keeps w f = by (is_among w f.bound)
  where
    by : (b : Bool) → cond b f (record f { found = with_one f.frame f.found w }) ≡ record f { found = (cond b f (record f { found = with_one f.frame f.found w })).found }
    by true = refl
    by false = refl

pub words_keep : (ws : List Word) (f : Finding) → with_words ws f ≡ record f { found = (with_words ws f).found }
words_keep [] f = refl
words_keep (w ∷ ws) f = words_keep ws (with_word w f) ∙ ap (λ (g : Finding). record g { found = (with_words ws (with_word w f)).found }) (word_keeps w f)

pub bound_kept : (ws : List Word) (f : Finding) → (with_words ws f).bound ≡ f.bound
bound_kept ws f = ap (λ (g : Finding). g.bound) (words_keep ws f)

-- declarations change nothing of it
pub binds_found : (names : List Word) (f : Finding) → (bind_all names f).found ≡ f.found
binds_found [] f = refl
binds_found (n ∷ names) f = binds_found names (bind n f)

-- declarations stand before those that are there
pub binds_before : (names : List Word) (f : Finding) → bind_all names f ≡ record f { bound = reverse names ++ f.bound }
binds_before [] f = refl
binds_before (n ∷ names) f =
    binds_before names (bind n f)
    ∙ ap (λ ns. record f { bound = ns }) (sym (append_assoc (reverse names) (n ∷ []) f.bound) ∙ ap (λ ns. ns ++ f.bound) (sym (reverse-append (n ∷ []) names)))

-- one more declaration
pub binds_more : (names : List Word) (n : Word) (f : Finding) → bind_all (names ++ n ∷ []) f ≡ bind n (bind_all names f)
binds_more [] n f = refl
binds_more (m ∷ names) n f = binds_more names n (bind m f)

-- a word that has a place is there
pub among_found : (ws : List Word) (w : Word) → is_some (find_up ws w) ≡ is_among w ws
among_found [] w = refl
among_found (v ∷ ws) w = by (bytes_eq v w) (find_up ws w) (among_found ws w)
  where
    by : (b : Bool) (o : Option ℕ) → is_some o ≡ is_among w ws → is_some (cond b (Some 0) (next_index o)) ≡ (b || is_among w ws)
    by true o h = refl
    by false None h = h
    by false (Some i) h = h
