-- What two calls in a row add.
use Rattle.std.proofs.Common.{◌≡◌, ℕ, ◌+◌, ◌-◌, ◌<◌, ◌≤◌, List, [], ◌∷◌, ◌++◌, length, get_or, take, drop, Option, Some, refl, sym, ◌∙◌, ap, subst, append_assoc, length-drop, arith}
use Rattle.std.proofs.lemmas.List.{append-nil, take_all, take_more, take-append-drop}
use Rattle.std.proofs.lemmas.List.Concat.{flat_map-append}
use Rattle.std.specs.List.{flat_map}
use Rattle.std.proofs.Math.Seq.{take-add}
use Rattle.line_writer.specs.Added.{AddsBytes, AddsPrefix}

-- a call that adds nothing
pub AddsBytes-none : {a b : Option (List ℕ)} → b ≡ a → AddsBytes a b []
AddsBytes-none {a} {b} same ys told = same ∙ told ∙ ap Some (sym (append-nil ys))

pub AddsBytes-then : {a b c : Option (List ℕ)} {xs ys : List ℕ} → AddsBytes a b xs → AddsBytes b c ys → AddsBytes a c (xs ++ ys)
AddsBytes-then {xs = xs} {ys = ys} first second zs told =
    second (zs ++ xs) (first zs told) ∙ ap Some (append_assoc zs xs ys)

pub AddsPrefix-none : {a b : Option (List ℕ)} (xs : List ℕ) → b ≡ a → AddsPrefix a b xs
AddsPrefix-none xs same = record { prefix = []; rest = xs; parts = refl; added = AddsBytes-none same }

pub AddsPrefix-all : {a b : Option (List ℕ)} {xs : List ℕ} → AddsBytes a b xs → AddsPrefix a b xs
AddsPrefix-all {xs = xs} added = record { prefix = xs; rest = []; parts = sym (append-nil xs); added = added }

-- a prefix of the later part, after the whole earlier one
pub AddsPrefix-then : {a b c : Option (List ℕ)} {xs ys : List ℕ} → AddsBytes a b xs → AddsPrefix b c ys → AddsPrefix a c (xs ++ ys)
AddsPrefix-then {xs = xs} first second = record {
  prefix = xs ++ second.prefix;
  rest = second.rest;
  parts = ap (λ zs. xs ++ zs) second.parts ∙ sym (append_assoc xs second.prefix second.rest);
  added = AddsBytes-then first second.added;
}

-- a prefix of the earlier part is one of the whole
pub AddsPrefix-more : {a b : Option (List ℕ)} {xs : List ℕ} (ys : List ℕ) → AddsPrefix a b xs → AddsPrefix a b (xs ++ ys)
AddsPrefix-more ys h = record {
  prefix = h.prefix;
  rest = h.rest ++ ys;
  parts = ap (λ zs. zs ++ ys) h.parts ∙ append_assoc h.prefix h.rest ys;
  added = h.added;
}

-- one more write of what is left of a piece
pub AddsBytes-more : {a b c : Option (List ℕ)} (at n : ℕ) (piece : List ℕ) → AddsBytes a b (take at piece) → AddsBytes b c (take n (take (length piece - at) (drop at piece))) → AddsBytes a c (take (at + n) piece)
AddsBytes-more {a} {b} {c} at n piece first second =
    let whole : length (drop at piece) ≤ length piece - at = omega (arith, length-drop at piece) in
    let left : take (length piece - at) (drop at piece) ≡ drop at piece = take_all (length piece - at) (drop at piece) whole in
    let rest : AddsBytes b c (take n (drop at piece)) = subst (λ zs. AddsBytes b c (take n zs)) left second in
    subst (AddsBytes a c) (sym (take-add at n piece)) (AddsBytes-then first rest)

-- the front of a piece, and then nothing
pub AddsPrefix-front : {a b c : Option (List ℕ)} (at : ℕ) (piece : List ℕ) → AddsBytes a b (take at piece) → c ≡ b → AddsPrefix a c piece
AddsPrefix-front at piece front same = record {
  prefix = take at piece;
  rest = drop at piece;
  parts = sym (take-append-drop at piece);
  added = λ ys told. same ∙ front ys told;
}

-- the lines of one more item
flat_map-take_more : {X : Type 0} (f : X → List ℕ) (xs : List X) (i : ℕ) (x : X) → i < length xs → x ≡ get_or xs i x → flat_map f (take (i + 1) xs) ≡ flat_map f (take i xs) ++ f x
flat_map-take_more f xs i x within here =
    ap (flat_map f) (take_more xs i x within) ∙ flat_map-append f (take i xs) (get_or xs i x ∷ []) ∙ ap (λ zs. flat_map f (take i xs) ++ zs) (append-nil (f (get_or xs i x)) ∙ ap f (sym here))

pub AddsBytes-item : {X : Type 0} (f : X → List ℕ) (xs : List X) (i : ℕ) (x : X) {a b c : Option (List ℕ)} → i < length xs → x ≡ get_or xs i x → AddsBytes a b (flat_map f (take i xs)) → AddsBytes b c (f x) → AddsBytes a c (flat_map f (take (i + 1) xs))
AddsBytes-item f xs i x {a} {c = c} within here first second =
    subst (AddsBytes a c) (sym (flat_map-take_more f xs i x within here)) (AddsBytes-then first second)

-- the lines of the items up to one, and of all
pub AddsPrefix-items : {X : Type 0} (f : X → List ℕ) (xs : List X) (i : ℕ) {a b : Option (List ℕ)} → AddsPrefix a b (flat_map f (take i xs)) → AddsPrefix a b (flat_map f xs)
AddsPrefix-items f xs i {a} {b} h =
    subst (AddsPrefix a b) (sym (flat_map-append f (take i xs) (drop i xs)) ∙ ap (flat_map f) (take-append-drop i xs)) (AddsPrefix-more (flat_map f (drop i xs)) h)

pub AddsPrefix-item : {X : Type 0} (f : X → List ℕ) (xs : List X) (i : ℕ) (x : X) {a b c : Option (List ℕ)} → i < length xs → x ≡ get_or xs i x → AddsBytes a b (flat_map f (take i xs)) → AddsPrefix b c (f x) → AddsPrefix a c (flat_map f xs)
AddsPrefix-item f xs i x {a} {c = c} within here first second =
    AddsPrefix-items f xs (i + 1) (subst (AddsPrefix a c) (sym (flat_map-take_more f xs i x within here)) (AddsPrefix-then first second))

-- up to one place, and on to the next
take_on : (at end : ℕ) (text : List ℕ) → at ≤ end → take at text ++ take (end - at) (drop at text) ≡ take end text
take_on at end text above =
    let whole : at + (end - at) ≡ end = omega (arith, above) in
    sym (take-add at (end - at) text) ∙ ap (λ n. take n text) whole

pub AddsBytes-on : {a b c : Option (List ℕ)} (at end : ℕ) (text : List ℕ) → at ≤ end → AddsBytes a b (take at text) → AddsBytes b c (take (end - at) (drop at text)) → AddsBytes a c (take end text)
AddsBytes-on {a} {c = c} at end text above first second =
    subst (AddsBytes a c) (take_on at end text above) (AddsBytes-then first second)

pub AddsPrefix-on : {a b c : Option (List ℕ)} (at end : ℕ) (text : List ℕ) → at ≤ end → AddsBytes a b (take at text) → AddsPrefix b c (take (end - at) (drop at text)) → AddsPrefix a c text
AddsPrefix-on {a} {c = c} at end text above first second =
    subst (AddsPrefix a c) (take-append-drop end text)
    (AddsPrefix-more (drop end text) (subst (AddsPrefix a c) (take_on at end text above) (AddsPrefix-then first second)))
