-- What stands at the front where a mark was matched.
use Rattle.std.proofs.Common.{◌≡◌, true, List, [], ◌∷◌, Some, None, refl, ap}
use Rattle.hog_grammar.specs.Terminal.{Terminal}
use Rattle.hog_grammar.specs.Terminal as k
use Rattle.hog_terms.specs.Marks.{Shut, after_open, after_close, after_close_bracket, after_open_brace, after_close_brace, after_comma, after_semi, after_colon, after_assign, after_arrow, after_hole, after_else, lead, starts}
use Rattle.hog_spelling.proofs.Begin.{starts_no_close, starts_no_close_bracket, starts_no_close_brace}

pub is_open : (ts us : List Terminal) → after_open ts ≡ Some us → ts ≡ k.Open ∷ us
is_open (k.Open ∷ ts) us h = let e : ts ≡ us = cc in ap (λ x. k.Open ∷ x) e
is_open [] us h = absurd (cc)
is_open (_ ∷ ts) us h = absurd (cc)

pub is_close : (ts us : List Terminal) → after_close ts ≡ Some us → ts ≡ k.Close ∷ us
is_close (k.Close ∷ ts) us h = let e : ts ≡ us = cc in ap (λ x. k.Close ∷ x) e
is_close [] us h = absurd (cc)
is_close (_ ∷ ts) us h = absurd (cc)

pub is_close_bracket : (ts us : List Terminal) → after_close_bracket ts ≡ Some us → ts ≡ k.CloseBracket ∷ us
is_close_bracket (k.CloseBracket ∷ ts) us h = let e : ts ≡ us = cc in ap (λ x. k.CloseBracket ∷ x) e
is_close_bracket [] us h = absurd (cc)
is_close_bracket (_ ∷ ts) us h = absurd (cc)

pub is_open_brace : (ts us : List Terminal) → after_open_brace ts ≡ Some us → ts ≡ k.OpenBrace ∷ us
is_open_brace (k.OpenBrace ∷ ts) us h = let e : ts ≡ us = cc in ap (λ x. k.OpenBrace ∷ x) e
is_open_brace [] us h = absurd (cc)
is_open_brace (_ ∷ ts) us h = absurd (cc)

pub is_close_brace : (ts us : List Terminal) → after_close_brace ts ≡ Some us → ts ≡ k.CloseBrace ∷ us
is_close_brace (k.CloseBrace ∷ ts) us h = let e : ts ≡ us = cc in ap (λ x. k.CloseBrace ∷ x) e
is_close_brace [] us h = absurd (cc)
is_close_brace (_ ∷ ts) us h = absurd (cc)

pub is_comma : (ts us : List Terminal) → after_comma ts ≡ Some us → ts ≡ k.Comma ∷ us
is_comma (k.Comma ∷ ts) us h = let e : ts ≡ us = cc in ap (λ x. k.Comma ∷ x) e
is_comma [] us h = absurd (cc)
is_comma (_ ∷ ts) us h = absurd (cc)

pub is_semi : (ts us : List Terminal) → after_semi ts ≡ Some us → ts ≡ k.Semi ∷ us
is_semi (k.Semi ∷ ts) us h = let e : ts ≡ us = cc in ap (λ x. k.Semi ∷ x) e
is_semi [] us h = absurd (cc)
is_semi (_ ∷ ts) us h = absurd (cc)

pub is_colon : (ts us : List Terminal) → after_colon ts ≡ Some us → ts ≡ k.Colon ∷ us
is_colon (k.Colon ∷ ts) us h = let e : ts ≡ us = cc in ap (λ x. k.Colon ∷ x) e
is_colon [] us h = absurd (cc)
is_colon (_ ∷ ts) us h = absurd (cc)

pub is_assign : (ts us : List Terminal) → after_assign ts ≡ Some us → ts ≡ k.Assign ∷ us
is_assign (k.Assign ∷ ts) us h = let e : ts ≡ us = cc in ap (λ x. k.Assign ∷ x) e
is_assign [] us h = absurd (cc)
is_assign (_ ∷ ts) us h = absurd (cc)

pub is_arrow : (ts us : List Terminal) → after_arrow ts ≡ Some us → ts ≡ k.Arrow ∷ us
is_arrow (k.Arrow ∷ ts) us h = let e : ts ≡ us = cc in ap (λ x. k.Arrow ∷ x) e
is_arrow [] us h = absurd (cc)
is_arrow (_ ∷ ts) us h = absurd (cc)

pub is_hole : (ts us : List Terminal) → after_hole ts ≡ Some us → ts ≡ k.HoleEnd ∷ us
is_hole (k.HoleEnd ∷ ts) us h = let e : ts ≡ us = cc in ap (λ x. k.HoleEnd ∷ x) e
is_hole [] us h = absurd (cc)
is_hole (_ ∷ ts) us h = absurd (cc)

pub is_else : (ts us : List Terminal) → after_else ts ≡ Some us → ts ≡ k.Else ∷ us
is_else (k.Else ∷ ts) us h = let e : ts ≡ us = cc in ap (λ x. k.Else ∷ x) e
is_else [] us h = absurd (cc)
is_else (_ ∷ ts) us h = absurd (cc)

-- what a mark that closes a list does
pub record Closes (close : Terminal) (shut : Shut) : Type 0 where
  pub shuts : (us : List Terminal) → shut (close ∷ us) ≡ Some us
  pub is_shut : (ts us : List Terminal) → shut ts ≡ Some us → ts ≡ close ∷ us
  pub no_lead : (us : List Terminal) → lead (close ∷ us) ≡ 0
  pub no_comma : (us : List Terminal) → after_comma (close ∷ us) ≡ None
  pub no_start : (ts : List Terminal) → starts ts ≡ true → shut ts ≡ None

pub closes_list : Closes k.Close after_close
closes_list = record { shuts = λ us. refl; is_shut = is_close; no_lead = λ us. refl; no_comma = λ us. refl; no_start = starts_no_close }

pub closes_array : Closes k.CloseBracket after_close_bracket
closes_array = record { shuts = λ us. refl; is_shut = is_close_bracket; no_lead = λ us. refl; no_comma = λ us. refl; no_start = starts_no_close_bracket }

pub closes_dictionary : Closes k.CloseBrace after_close_brace
closes_dictionary = record { shuts = λ us. refl; is_shut = is_close_brace; no_lead = λ us. refl; no_comma = λ us. refl; no_start = starts_no_close_brace }
