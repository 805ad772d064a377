-- Properties by keys in order.
use Rattle.std.proofs.Common.{◌≡◌, ◌<◌, ◌≤◌, ◌+◌, ℕ, suc, List, [], ◌∷◌, length, take, drop, get_or, ◌-◌, arith, refl, ap, ◌∙◌, drop-cons, length-drop}
use Rattle.std.specs.Prelude.{Ok, Err}
use Rattle.hog_value.specs.declared.value.Kind.{Kind}
use Rattle.hog_value.specs.declared.value.Value.TheVariants.{Null}
use Rattle.hog_value.specs.Values.{Val}
use Rattle.hog_json.specs.Texts.{named_text}
use Rattle.hog_meaning.specs.Operators.{accessed}
use Rattle.hog_meaning.specs.World.{Fixed}
use Rattle.vm_course.specs.State.{State}
use Rattle.vm_course.specs.Throws.{on_result}
use Rattle.vm_course.specs.Step.{Here, on_and_push, global_of, property_path, get_global}

pub path_more : (s : State) (v : Val) (keys : List Val) (i : ℕ) → i < length keys
    → property_path (Ok v) (drop i keys) s ≡ property_path (accessed s.heap v (get_or keys i Null)) (drop (i + 1) keys) s
path_more s v keys i within =
    let one : suc i ≡ i + 1 = omega arith in
    ap (λ ks. property_path (Ok v) ks s) (drop-cons keys i Null within ∙ ap (λ k. get_or keys i Null ∷ drop k keys) one)

pub path_stops : (s : State) (kind : Kind) (keys : List Val) → property_path (Err kind) keys s ≡ Err kind
path_stops s kind keys = refl

no_more : (keys : List Val) → length keys ≤ 0 → (s : State) (v : Val) → property_path (Ok v) keys s ≡ Ok v
no_more [] few s v = refl
no_more (k ∷ ks) few s v = absurd (omega arith)

pub path_done : (s : State) (v : Val) (keys : List Val) (i : ℕ) → length keys ≤ i → property_path (Ok v) (drop i keys) s ≡ Ok v
path_done s v keys i past = no_more (drop i keys) (omega (arith, length-drop i keys)) s v

-- the first name and the others
pub global_read : (fixed : Fixed) (here : Here) (vs rest : List Val) (s : State) → 0 < length vs
    → get_global fixed here vs rest s ≡ on_result (property_path (global_of fixed s (named_text s.heap (get_or vs 0 Null))) (drop 1 vs) s) (on_and_push here rest) s
global_read fixed here [] rest s some = absurd (omega arith)
global_read fixed here (v ∷ vs) rest s some = refl

pub no_global : (fixed : Fixed) (here : Here) (vs rest : List Val) (s : State) → length vs ≡ 0 → get_global fixed here vs rest s ≡ on_and_push here rest Null s
no_global fixed here [] rest s none = refl
no_global fixed here (v ∷ vs) rest s none = absurd (omega arith)

take_whole : (xs : List Val) → take (length xs) xs ≡ xs
take_whole [] = refl
take_whole (x ∷ xs) = ap (λ ys. x ∷ ys) (take_whole xs)

-- all but the first
pub tail_is : (xs : List Val) → take (length xs - 1) (drop 1 xs) ≡ drop 1 xs
tail_is [] = refl
tail_is (x ∷ xs) =
    let count : suc (length xs) - 1 ≡ length xs = omega arith in
    ap (λ n. take n xs) count ∙ take_whole xs
