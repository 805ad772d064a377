-- Events that are added one after another.
use Rattle.std.proofs.Common.{◌≡◌, ℕ, ◌+◌, ◌<◌, ◌≤◌, subst, List, [], ◌∷◌, ◌++◌, length, take, get_or, map, refl, sym, ap, ◌∙◌, append_assoc, append-nil}
use Rattle.std.specs.Prelude.{Vec, option_to_list}
use Rattle.std.specs.declared.alloc.Global.{Global}
use Rattle.std.specs.List.{filter_map}
use Rattle.std.proofs.lemmas.List.{map-append, take_more, take_all}
use Rattle.std.proofs.lemmas.List.Elements.{filter_map-append}
use Rattle.hog_tree.specs.declared.tree.Named.{Named}
use Rattle.hog_scope.specs.declared.words.Event as e
use Rattle.hog_scope.specs.declared.words.Event.TheVariants as r
use Rattle.hog_scope.specs.Words.{Event, Opens, Closes, scope_of}
use Rattle.hog_scope.specs.Events.{event_of, name_in, AddsEvents}

pub adds_nothing : (a : Vec e.Event Global) → AddsEvents a a [] []
adds_nothing a = record { words_added = sym (append-nil _); names_added = sym (append-nil _) }

pub adds_then : {a b c : Vec e.Event Global} {ws vs : List Event} {ns ms : List Named} → AddsEvents a b ws ns → AddsEvents b c vs ms → AddsEvents a c (ws ++ vs) (ns ++ ms)
adds_then {a} {b} {c} {ws} {vs} {ns} {ms} h k = record {
  words_added = k.words_added ∙ ap (λ x. x ++ vs) h.words_added ∙ append_assoc (map event_of a.items) ws vs;
  names_added = k.names_added ∙ ap (λ x. x ++ ms) h.names_added ∙ append_assoc (filter_map name_in a.items) ns ms;
}

named_one : (x : e.Event) → filter_map name_in (x ∷ []) ≡ option_to_list (name_in x)
named_one r.Opens = refl
named_one r.Closes = refl
named_one (r.Declares n) = refl
named_one (r.Binds n) = refl
named_one (r.Reads n) = refl
named_one (r.Assigns n) = refl
named_one (r.Calls n count) = refl
named_one (r.Spells t) = refl

-- one more event
pub adds_one : (a b : Vec e.Event Global) (x : e.Event) → b.items ≡ a.items ++ x ∷ [] → AddsEvents a b (event_of x ∷ []) (option_to_list (name_in x))
adds_one a b x pushed = record {
  words_added = ap (map event_of) pushed ∙ map-append event_of a.items (x ∷ []);
  names_added = ap (filter_map name_in) pushed ∙ filter_map-append name_in a.items (x ∷ []) ∙ ap (λ n. filter_map name_in a.items ++ n) (named_one x);
}

-- the events of one more item of a list: `words` and `names` give those of the items one after another
module _ {X : Type 0} (words : List X → List Event) (names : List X → List Named)
    (words_more : (xs ys : List X) → words (xs ++ ys) ≡ words xs ++ words ys)
    (names_more : (xs ys : List X) → names (xs ++ ys) ≡ names xs ++ names ys) where
  pub adds_more : {a b c : Vec e.Event Global} (xs : List X) (i : ℕ) (x : X) → i < length xs → x ≡ get_or xs i x
      → AddsEvents a b (words (take i xs)) (names (take i xs)) → AddsEvents b c (words (x ∷ [])) (names (x ∷ []))
      → AddsEvents a c (words (take (i + 1) xs)) (names (take (i + 1) xs))
  adds_more {a} {b} {c} xs i x lt is h k =
      let taken : take (i + 1) xs ≡ take i xs ++ x ∷ [] = take_more xs i x lt ∙ ap (λ y. take i xs ++ y ∷ []) (sym is) in
      let all = adds_then h k in record {
        words_added = all.words_added ∙ ap (λ ws. map event_of a.items ++ ws) (sym (words_more (take i xs) (x ∷ [])) ∙ ap words (sym taken));
        names_added = all.names_added ∙ ap (λ ns. filter_map name_in a.items ++ ns) (sym (names_more (take i xs) (x ∷ [])) ∙ ap names (sym taken));
      }

-- after the last item
pub adds_all : {X : Type 0} (words : List X → List Event) (names : List X → List Named) {a b : Vec e.Event Global} (xs : List X) (i : ℕ)
    → length xs ≤ i → AddsEvents a b (words (take i xs)) (names (take i xs)) → AddsEvents a b (words xs) (names xs)
adds_all words names {a} {b} xs i le h = subst (λ ys. AddsEvents a b (words ys) (names ys)) (take_all i xs le) h

-- events that name nothing
pub adds_and : {a b c : Vec e.Event Global} {ws vs : List Event} {ns : List Named} → AddsEvents a b ws ns → AddsEvents b c vs [] → AddsEvents a c (ws ++ vs) ns
adds_and {a} {b} {c} {ws} {vs} {ns} h k =
    let all = adds_then h k in record {
      words_added = all.words_added;
      names_added = all.names_added ∙ ap (λ x. filter_map name_in a.items ++ x) (append-nil ns);
    }

-- a scope round these
pub adds_scope : {a b c d : Vec e.Event Global} {ws : List Event} {ns : List Named} → AddsEvents a b (Opens ∷ []) [] → AddsEvents b c ws ns → AddsEvents c d (Closes ∷ []) [] → AddsEvents a d (scope_of ws) ns
adds_scope opens within closes = adds_and (adds_then opens within) closes

-- the words of a tree x that is y
pub adds_at : {X : Type 0} (words : X → List Event) (names : X → List Named) {x y : X} {a b : Vec e.Event Global} {ws : List Event} {ns : List Named}
    → x ≡ y → words y ≡ ws → names y ≡ ns → AddsEvents a b ws ns → AddsEvents a b (words x) (names x)
adds_at words names {x} {y} {a} {b} is w n h = record {
  words_added = h.words_added ∙ ap (λ v. map event_of a.items ++ v) (sym w ∙ ap words (sym is));
  names_added = h.names_added ∙ ap (λ v. filter_map name_in a.items ++ v) (sym n ∙ ap names (sym is));
}
