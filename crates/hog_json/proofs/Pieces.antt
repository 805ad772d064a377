-- Texts that are built piece by piece.
use Rattle.std.proofs.Common.{◌≡◌, ℕ, ◌<◌, List, ◌++◌, length, sym, ap, ◌∙◌, subst, arith, append_assoc, length-append}
use Rattle.std.specs.Prelude.{flat_map}
use Rattle.std.proofs.lemmas.Grind.{flat_map-append}
use Rattle.hog_json.specs.Building.{Built, TooLong, added}

-- a piece and then another are both together
pub added-added : (a b : List ℕ) (x : Built) → added b (added a x) ≡ added (a ++ b) x
added-added a b x = ap (λ t. record x { text = t }) (append_assoc x.text a b)

-- where a text is too long, more of it is
pub longer : (limit : ℕ) (before text more : List ℕ) → limit < length (before ++ text) → limit < length (before ++ (text ++ more))
longer limit before text more over = omega (arith, length-append before text, length-append before (text ++ more), length-append text more)

-- what stands before may be counted with it
pub later : (limit : ℕ) (before first text : List ℕ) → limit < length ((before ++ first) ++ text) → limit < length (before ++ (first ++ text))
later limit before first text over = subst (λ t. limit < length t) (append_assoc before first text) over

-- pieces that a loop adds, one after another
module _ {X : Type 0} (f : X → List ℕ) (x : Built) (done : List X) (now : Built) (so_far : now ≡ added (flat_map f done) x) where
  pub one_more : (more : List X) (next : Built) → next ≡ added (flat_map f more) now → next ≡ added (flat_map f (done ++ more)) x
  one_more more next e = e ∙ ap (added (flat_map f more)) so_far ∙ added-added (flat_map f done) (flat_map f more) x ∙ ap (λ t. added t x) (sym (flat_map-append f done more))

  pub one_too_many : (more rest all : List X) → all ≡ done ++ (more ++ rest) → now.limit < length (now.text ++ flat_map f more) → x.limit < length (x.text ++ flat_map f all)
  one_too_many more rest all split over =
      let over1 = subst (λ (b : Built). b.limit < length (b.text ++ flat_map f more)) so_far over in
      let over2 = later x.limit x.text (flat_map f done) (flat_map f more) over1 in
      let over3 = longer x.limit x.text (flat_map f done ++ flat_map f more) (flat_map f rest) over2 in
      subst (λ t. x.limit < length (x.text ++ t)) (append_assoc (flat_map f done) (flat_map f more) (flat_map f rest) ∙ ap (λ t. flat_map f done ++ t) (sym (flat_map-append f more rest)) ∙ sym (flat_map-append f done (more ++ rest)) ∙ ap (flat_map f) (sym split)) over3

-- a piece, a second one, and a third that may look at the open cells
module _ (b one two : Built) (first second : List ℕ) (third : List ℕ → List ℕ) (one_is : one ≡ added first b) (two_is : two ≡ added second one) where
  both : two ≡ added second (added first b)
  both = two_is ∙ ap (added second) one_is

  pub three_added : (three : Built) → three ≡ added (third two.open_cells) two → three ≡ added (first ++ (second ++ third b.open_cells)) b
  three_added three e =
      e ∙ ap (λ (x : Built). added (third x.open_cells) x) both
      ∙ ap (λ t. record b { text = t }) (append_assoc (b.text ++ first) second _ ∙ append_assoc b.text first _)

  pub third_too_long : TooLong (third two.open_cells) two → TooLong (first ++ (second ++ third b.open_cells)) b
  third_too_long over =
      let at = subst (λ (x : Built). TooLong (third x.open_cells) x) both over in
      omega (arith, length-append {A = ℕ})
