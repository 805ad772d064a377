-- What stands between the items of lists, and in templates. No reader has to trust this file.
use Rattle.std.specs.Prelude.{◌≡◌, ℕ, List, [], ◌∷◌, Bool, true, false, Option, Some, None, cond}
use Rattle.std.specs.Str.{IsUtf8}
use Rattle.hog_grammar.specs.Pieces.{Lexed}
use Rattle.hog_grammar.specs.Terminal.{Terminal, meant}
use Rattle.hog_grammar.specs.Terminal as k
use Rattle.hog_terms.specs.Marks.{Shut, after_close, after_close_bracket, after_close_brace}
use Rattle.hog_terms.specs.View.{left, IsPlaced}
use Rattle.hog_terms.specs.declared.listed.Closer.{Closer}
use Rattle.hog_terms.specs.declared.listed.Closer.TheVariants as c
use Rattle.hog_terms.specs.declared.listed.Follow.{Follow}
use Rattle.hog_terms.specs.declared.listed.Follow.TheVariants as w
use Rattle.hog_terms.specs.declared.listed.PartMark.{PartMark}
use Rattle.hog_terms.specs.declared.listed.PartMark.TheVariants as m

-- what closes a list, where a comma may stand before it
abbrev pub closing : Bool → Shut → Shut
closing comma shut ts = cond comma (shut ts) None

abbrev pub shut_of : Closer → Shut
shut_of c.Parenthesis = after_close
shut_of c.Bracket = after_close_bracket
shut_of c.Brace = after_close_brace

-- whether a comma may stand before it
abbrev pub comma_of : Closer → Bool
comma_of c.Parenthesis = false
comma_of c.Bracket = true
comma_of c.Brace = true

-- what follows an item of a list
abbrev pub follow_of : Lexed → Follow → Option (Bool × List Terminal)
follow_of c (w.More at) = Some (true, left c at)
follow_of c (w.End at) = Some (false, left c at)
follow_of c w.Neither = None

-- whether more items follow, and what stands after the mark
abbrev pub ending : Option (List Terminal) → Option (Bool × List Terminal)
ending (Some ts) = Some (false, ts)
ending None = None

abbrev pub going : Option (List Terminal) → List Terminal → Option (Bool × List Terminal)
going (Some ts) us = Some (false, ts)
going None us = Some (true, us)

abbrev pub follows : Bool → Shut → List Terminal → Option (List Terminal) → Option (Bool × List Terminal)
follows comma shut ts (Some us) = going (closing comma shut us) us
follows comma shut ts None = ending (shut ts)

-- whether a template's part or its end stands here
abbrev pub is_part : List Terminal → Bool
is_part (k.Characters bs ∷ ts) = true
is_part (k.HoleStart ∷ ts) = true
is_part (k.TemplateEnd ∷ ts) = true
is_part _ = false

-- what stands here of a template
abbrev pub StandsAs : Lexed → PartMark → List Terminal → Type 0
StandsAs c (m.Characters bs i) ts = (ts ≡ k.Characters (meant bs.now) ∷ left c i) × IsUtf8 (meant bs.now)
StandsAs c (m.Hole i) ts = ts ≡ k.HoleStart ∷ left c i
StandsAs c (m.End i) ts = ts ≡ k.TemplateEnd ∷ left c i
StandsAs c m.Neither ts = is_part ts ≡ false

-- No name stands between the index and what follows.
abbrev pub FollowsUnnamed : Lexed → ℕ → Follow → Type 0
FollowsUnnamed c at (w.More i) = IsPlaced [] c at i
FollowsUnnamed c at (w.End i) = IsPlaced [] c at i
FollowsUnnamed c at w.Neither = Unit {0}

-- No name stands in what was read of a template.
abbrev pub StandsUnnamed : Lexed → ℕ → PartMark → Type 0
StandsUnnamed c at (m.Characters bs i) = IsPlaced [] c at i
StandsUnnamed c at (m.Hole i) = IsPlaced [] c at i
StandsUnnamed c at (m.End i) = IsPlaced [] c at i
StandsUnnamed c at m.Neither = Unit {0}
