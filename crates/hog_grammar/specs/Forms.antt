-- The forms that spellings are made of. A phrase says which tokens spell something, and at which height.
use Rattle.std.specs.Prelude.{◌≡◌, ℕ, zero, suc, ◌+◌, ◌≤◌, max, List, [], ◌∷◌, ◌++◌, Bool, true, false, ◌⊎◌}
use Rattle.hog_grammar.specs.Terminal.{Terminal}
use Rattle.hog_grammar.specs.Terminal as k

abbrev pub Phrase : Type 1
Phrase = List Terminal → ℕ → Type 0

-- No tokens spell it.
abbrev pub Never : Phrase
Never ts h = ⊥

-- just these tokens
pub record Leaf (made : List Terminal) (least : ℕ) (ts : List Terminal) (h : ℕ) : Type 0 where
  pub tokens : ts ≡ made
  pub height : h ≡ least

-- A form with one part: what its tokens are made of the part's, and how much higher it is.
pub record One (P : Phrase) (made : List Terminal → List Terminal) (more : ℕ) (ts : List Terminal) (h : ℕ) : Type 0 where
  pub inner : List Terminal
  pub low : ℕ
  pub part : P inner low
  pub tokens : ts ≡ made inner
  pub height : h ≡ more + low

-- A form with two parts, and how much higher it is than the higher one.
pub record Two (P Q : Phrase) (made : List Terminal → List Terminal → List Terminal) (more : ℕ) (ts : List Terminal) (h : ℕ) : Type 0 where
  pub left : List Terminal
  pub right : List Terminal
  pub low : ℕ
  pub other : ℕ
  pub first : P left low
  pub second : Q right other
  pub tokens : ts ≡ made left right
  pub height : h ≡ more + max low other

-- the tokens in this many pairs of parentheses
abbrev pub enclosed : ℕ → List Terminal → List Terminal
enclosed zero ts = ts
enclosed (suc n) ts = k.Open ∷ (enclosed n ts ++ k.Close ∷ [])

-- An expression whose own level is `own` where one of level `least` or tighter is wanted: in any number of pairs
-- of parentheses, each of which counts for the height, and in at least one where its own level is looser.
pub record At (Bare : Phrase) (own least : ℕ) (ts : List Terminal) (h : ℕ) : Type 0 where
  pub pairs : ℕ
  pub inner : List Terminal
  pub low : ℕ
  pub bare : Bare inner low
  pub tokens : ts ≡ enclosed pairs inner
  pub height : h ≡ pairs + low
  pub fits : pairs ≡ 0 → least ≤ own

-- what closes a list: its mark, after one more comma where one may stand
abbrev pub End : Bool → Terminal → Phrase
End comma close ts h = Leaf (close ∷ []) 0 ts h ⊎ ((comma ≡ true) × Leaf (k.Comma ∷ close ∷ []) 0 ts h)

-- the other items of a list, each after a comma, and what closes it
abbrev pub Others : Bool → Terminal → List Phrase → Phrase
Others comma close [] = End comma close
Others comma close (P ∷ Ps) = Two P (Others comma close Ps) (λ xs ys. k.Comma ∷ (xs ++ ys)) 0

-- Items with commas between them, and the mark that closes the list. One comma may stand before that mark where
-- `comma` says so and there are items.
abbrev pub Listing : Bool → Terminal → List Phrase → Phrase
Listing comma close [] = Leaf (close ∷ []) 0
Listing comma close (P ∷ Ps) = Two P (Others comma close Ps) (λ xs ys. xs ++ ys) 0

abbrev pub begins_brace : List Terminal → Bool
begins_brace [] = false
begins_brace (k.OpenBrace ∷ ts) = true
begins_brace (_ ∷ ts) = false

-- what begins with `{` is read as a block, so these tokens don't
pub record NoBrace (P : Phrase) (ts : List Terminal) (h : ℕ) : Type 0 where
  pub part : P ts h
  pub no_brace : begins_brace ts ≡ false

-- Which tokens spell a statement, which tokens follow it, and at which height.
abbrev pub Statement : Type 1
Statement = List Terminal → List Terminal → ℕ → Type 0

-- whether a statement before these tokens needs its own `;`
abbrev pub goes_on : List Terminal → Bool
goes_on [] = false
goes_on (k.Open ∷ ts) = true
goes_on (k.OpenBracket ∷ ts) = true
goes_on (k.Dot ∷ ts) = true
goes_on (k.NullishDot ∷ ts) = true
goes_on (k.Plus ∷ ts) = true
goes_on (k.Minus ∷ ts) = true
goes_on (k.Star ∷ ts) = true
goes_on (k.Equal ∷ ts) = true
goes_on (k.NotEqual ∷ ts) = true
goes_on (k.Less ∷ ts) = true
goes_on (k.LessEqual ∷ ts) = true
goes_on (k.Greater ∷ ts) = true
goes_on (k.GreaterEqual ∷ ts) = true
goes_on (k.Coalesce ∷ ts) = true
goes_on (k.In ∷ ts) = true
goes_on (k.Not ∷ ts) = true
goes_on (k.And ∷ ts) = true
goes_on (k.Or ∷ ts) = true
goes_on (k.Assign ∷ ts) = true
goes_on (k.Arrow ∷ ts) = true
goes_on (k.Semi ∷ ts) = true
goes_on (_ ∷ ts) = false

-- `;`, or nothing where it may be left out
abbrev pub Ending : List Terminal → List Terminal → Type 0
Ending ending rest = (ending ≡ k.Semi ∷ []) ⊎ ((ending ≡ []) × (goes_on rest ≡ false))

-- a statement that ends with `;`
pub record Ended (P : Phrase) (ts rest : List Terminal) (h : ℕ) : Type 0 where
  pub inner : List Terminal
  pub ending : List Terminal
  pub part : P inner h
  pub ends : Ending ending rest
  pub tokens : ts ≡ inner ++ ending

-- whether a block or the program ends here
abbrev pub ends_block : List Terminal → Bool
ends_block [] = true
ends_block (k.CloseBrace ∷ ts) = true
ends_block (_ ∷ ts) = false

-- `return` without a value: its `;` may be left out before `}` and at the end
abbrev pub Returns : Statement
Returns ts rest h = Leaf (k.Return ∷ k.Semi ∷ []) 1 ts h ⊎ ((ends_block rest ≡ true) × Leaf (k.Return ∷ []) 1 ts h)

-- a phrase, and a statement at its end
pub record Before (P : Phrase) (Q : Statement) (made : List Terminal → List Terminal → List Terminal) (more : ℕ) (ts rest : List Terminal) (h : ℕ) : Type 0 where
  pub left : List Terminal
  pub right : List Terminal
  pub low : ℕ
  pub other : ℕ
  pub first : P left low
  pub second : Q right rest other
  pub tokens : ts ≡ made left right
  pub height : h ≡ more + max low other

-- tokens, and what follows them
pub record Prefixed (front : List Terminal) (P : Statement) (more : ℕ) (ts rest : List Terminal) (h : ℕ) : Type 0 where
  pub inner : List Terminal
  pub low : ℕ
  pub part : P inner rest low
  pub tokens : ts ≡ front ++ inner
  pub height : h ≡ more + low

-- what stands before those tokens, and what stands after them
pub record Around (P : Statement) (middle : List Terminal) (Q : Statement) (ts rest : List Terminal) (h : ℕ) : Type 0 where
  pub left : List Terminal
  pub right : List Terminal
  pub low : ℕ
  pub other : ℕ
  pub first : P left (middle ++ (right ++ rest)) low
  pub second : Q right rest other
  pub tokens : ts ≡ left ++ (middle ++ right)
  pub height : h ≡ max low other

-- statements in braces
pub record Braced (P : Statement) (more : ℕ) (ts rest : List Terminal) (h : ℕ) : Type 0 where
  pub inner : List Terminal
  pub low : ℕ
  pub part : P inner (k.CloseBrace ∷ rest) low
  pub tokens : ts ≡ k.OpenBrace ∷ (inner ++ k.CloseBrace ∷ [])
  pub height : h ≡ more + low

abbrev pub semis : ℕ → List Terminal → List Terminal
semis zero ts = ts
semis (suc n) ts = k.Semi ∷ semis n ts

-- any number of `;`, a statement, and others
pub record Listed (P Q : Statement) (ts rest : List Terminal) (h : ℕ) : Type 0 where
  pub empty : ℕ
  pub left : List Terminal
  pub right : List Terminal
  pub low : ℕ
  pub other : ℕ
  pub first : P left (right ++ rest) low
  pub second : Q right rest other
  pub tokens : ts ≡ semis empty (left ++ right)
  pub height : h ≡ max low other

-- any number of `;`
pub record Empty (ts rest : List Terminal) (h : ℕ) : Type 0 where
  pub empty : ℕ
  pub tokens : ts ≡ semis empty []
  pub height : h ≡ 0

-- what a condition, a loop or `else` governs: statements in braces, or else one, or `;`
abbrev pub Governed : Statement → Statement → Statement
Governed many only ts rest h = Braced many 0 ts rest h ⊎ only ts rest h

-- one statement that does not begin with `{`
pub record Only (P : Statement) (ts rest : List Terminal) (h : ℕ) : Type 0 where
  pub part : P ts rest h
  pub no_brace : begins_brace ts ≡ false

abbrev pub begins_else : List Terminal → Bool
begins_else [] = false
begins_else (k.Else ∷ ts) = true
begins_else (_ ∷ ts) = false

-- no `else`: one that follows would belong here
pub record NoElse (ts rest : List Terminal) (h : ℕ) : Type 0 where
  pub none : begins_else rest ≡ false
  pub tokens : ts ≡ []
  pub height : h ≡ 0
