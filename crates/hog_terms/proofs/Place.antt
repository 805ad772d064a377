-- The tokens from an index on.
use Rattle.std.proofs.Common.{◌≡◌, ℕ, zero, suc, ◌+◌, ◌-◌, ◌<◌, ◌≤◌, Bool, List, [], ◌∷◌, length, refl, sym, ap, ◌∙◌, arith, length-drop}
use Rattle.std.specs.Prelude.{get_or, drop, slice_range}
use Rattle.std.proofs.lemmas.List.{drop_more, length-map}
use Rattle.hog_grammar.specs.declared.token.Token.{Token}
use Rattle.hog_grammar.specs.Terminal.{terminals, terminal_of, CanBeRead, AreReadable}
use Rattle.std.proofs.lemmas.List.Elements.{All-get_or}
use Rattle.hog_grammar.specs.Pieces.{AreInOrder}
use Rattle.hog_grammar.specs.Names.{with_name, is_dot, names_after}
use Rattle.hog_terms.specs.View.{first_place}

pub left_at : (text : List ℕ) (list : List Token) (i : ℕ) (d : Token) → i < length list → terminals text (drop i list) ≡ terminal_of text (get_or list i d) ∷ terminals text (drop (i + 1) list)
left_at text list i d h = ap (terminals text) (drop_more list i d h)

pub left_end : (text : List ℕ) (list : List Token) (i : ℕ) → length list ≤ i → terminals text (drop i list) ≡ []
left_end text [] zero h = refl
left_end text [] (suc i) h = refl
left_end text (t ∷ list) zero h = absurd (omega (arith, h))
left_end text (t ∷ list) (suc i) h = left_end text list i (omega (arith, h))

in_order_end : (from end : ℕ) (ts : List Token) → AreInOrder from ts end → from ≤ end
in_order_end from end [] h = h
in_order_end from end (t ∷ ts) h = omega (arith, h.0, h.1, in_order_end t.to end ts h.2)

pub order_at : (from end : ℕ) (ts : List Token) (i : ℕ) (d : Token) → AreInOrder from ts end → i < length ts → ((get_or ts i d).from ≤ (get_or ts i d).to) × ((get_or ts i d).to ≤ end)
order_at from end [] i d h lt = absurd (omega (arith, lt))
order_at from end (t ∷ ts) zero d h lt = (omega (arith, h.1), in_order_end t.to end ts h.2)
order_at from end (t ∷ ts) (suc i) d h lt = order_at t.to end ts i d h.2 (omega (arith, lt))

pub left_length : (text : List ℕ) (list : List Token) (i : ℕ) → length (terminals text (drop i list)) ≡ length list - i
left_length text list i = simp (length-map, length-drop)

pub readable_at : (text : List ℕ) (list : List Token) (i : ℕ) (d : Token) → AreReadable text list → i < length list → CanBeRead (get_or list i d).kind (slice_range text (get_or list i d).from (get_or list i d).to)
readable_at text list i d all lt = All-get_or (λ (t : Token). CanBeRead t.kind (slice_range text t.from t.to)) list i d lt all

pub names_at : (dot : Bool) (text : List ℕ) (list : List Token) (i : ℕ) (d : Token) → i < length list
    → names_after dot text (drop i list) ≡ with_name dot (terminal_of text (get_or list i d)) (first_place (drop i list)) (names_after (is_dot (terminal_of text (get_or list i d))) text (drop (i + 1) list))
names_at dot text list i d h =
    let e = drop_more list i d h in
    ap (names_after dot text) e ∙ ap (λ p. with_name dot (terminal_of text (get_or list i d)) p (names_after (is_dot (terminal_of text (get_or list i d))) text (drop (i + 1) list))) (sym (ap first_place e))

pub place_of_token : (list : List Token) (i : ℕ) (d : Token) → i < length list → first_place (drop i list) ≡ (get_or list i d).from
place_of_token list i d h = ap first_place (drop_more list i d h)

pub place_of_none : (list : List Token) (i : ℕ) → length list ≤ i → first_place (drop i list) ≡ 0
place_of_none [] zero h = refl
place_of_none [] (suc i) h = refl
place_of_none (t ∷ list) zero h = absurd (omega (arith, h))
place_of_none (t ∷ list) (suc i) h = place_of_none list i (omega (arith, h))
