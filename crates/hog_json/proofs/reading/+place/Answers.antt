use Rattle.std.proofs.Common.{◌≡◌, ◌≤◌, ◌+◌, ℕ, List, [], ◌∷◌, ◌++◌, All, Err, length, take, drop, string_bytes, string_cmp, bytes_eq, refl, sym, ap, ◌∙◌, subst, append_assoc, append-nil, take-append-drop}
use Rattle.std.proofs.lemmas.List.{take_more, map-append}
use Rattle.std.proofs.lemmas.List.Elements.{All-nil, All-push, All-weaker}
use Rattle.std.specs.List.Sorted.{IsStrictlySortedBy}
use Rattle.std.specs.Map.{keys_of}
use Rattle.serde_json.specs.View.{items_view, members_view}
use Rattle.serde_json.proofs.Views.{Entry}
use Rattle.hog_value.specs.Values.{Val, NamesBelow}
use Rattle.hog_value.specs.Meters.{Spent}
use Rattle.indexmap.specs.IndexMap.{insert_entry}
use Rattle.hog_value.specs.Operations.{Gives}
use Rattle.hog_json.specs.Reading.{read_items, read_members}
use Rattle.hog_json.proofs.KeysLemmas.{insert_next}
use Rattle.hog_json.proofs.ReadingLemmas.{one_more_item, item_spends, one_more_member, member_spends, Grows-trans, Grows-length, NamesBelow-more}
use Rattle.hog_json.proofs.reading.+place.Goals as goal

pub place_items-returns-in_err-place_value-clause-spent : goal.place_items-returns-in_err-place_value-clause-spent
place_items-returns-in_err-place_value-clause-spent t c spent =
    let items = c.deref-item-items.result.now in
    let i = c.loop-item.item-index in
    let x = c.item-item.result in
    let why = rw spent at c.from_residual.ensures in
    let next = take_more items i x c.loop-item-test.true ∙ ap (λ y. take i items ++ y ∷ []) (sym c.item-item.is) in
    let split = sym (take-append-drop (i + 1) items) ∙ ap (λ ys. ys ++ drop (i + 1) items) next ∙ append_assoc (take i items) (x ∷ []) (drop (i + 1) items) in
    ap (λ ys. read_items (items_view ys) c.args.heap.now c.args.m.now.units) (sym c.deref-item-items.ensures.value ∙ split)
    ∙ item_spends (take i items) x c.args.heap.now c.args.m.now.units c.loop-item.values.items c.loop-item.heap c.loop-item.m.units c.loop-item.invariant.read (drop (i + 1) items)
    (c.in_err-place_value.ensures.spent (ap Err (sym why.1)))

pub place_items-loop-item-preserved : goal.place_items-loop-item-preserved
place_items-loop-item-preserved t c =
    let items = c.deref-item-items.result.now in
    let i = c.loop-item.item-index in
    let x = c.item-item.result in
    let inv = c.loop-item.invariant in
    let one = c.in_ok-place_value.ensures in
    let v = c.in_ok-place_value.field-0 in
    let next = take_more items i x c.loop-item-test.true ∙ ap (λ y. take i items ++ y ∷ []) (sym c.item-item.is) in
    let pushed : c.push.new.self.items ≡ c.loop-item.values.items ++ v ∷ [] = c.in_ok-push.ensures.items in
    let longer : length c.loop-item.heap ≤ length c.place_value.new.heap = Grows-length c.loop-item.heap c.place_value.new.heap one.grows in
    let named = All-push (NamesBelow (length c.place_value.new.heap)) c.loop-item.values.items v (All-weaker (NamesBelow (length c.loop-item.heap)) (NamesBelow (length c.place_value.new.heap)) (NamesBelow-more _ _ longer) c.loop-item.values.items inv.names) one.names in
    record {
      read = ap (λ ys. read_items (items_view ys) c.args.heap.now c.args.m.now.units) next
          ∙ one_more_item (take i items) x c.args.heap.now c.args.m.now.units c.loop-item.values.items c.loop-item.heap c.loop-item.m.units inv.read v c.place_value.new.heap c.place_value.new.m.units one.ok
          ∙ ap (λ vs. Gives vs c.place_value.new.heap c.place_value.new.m.units) (sym {A = List Val} {a = c.push.new.self.items} {b = c.loop-item.values.items ++ v ∷ []} pushed);
      meter = one.turns_and_depth ∙ ap (λ (m : Spent). record m { units = c.place_value.new.m.units }) inv.meter;
      names = subst (All (NamesBelow (length c.place_value.new.heap))) (sym {A = List Val} {a = c.push.new.self.items} {b = c.loop-item.values.items ++ v ∷ []} pushed) named;
      grows = Grows-trans c.args.heap.now c.loop-item.heap c.place_value.new.heap inv.grows one.grows;
      covered = one.covered;
    }

pub place_members-loop-key-init : goal.place_members-loop-key-init
place_members-loop-key-init t c =
    let empty : c.new-pairs.result.entries ≡ [] = c.new-pairs.ensures.empty in (
      [],
      record {
        split = sym (c.into_iter-key-iterator.ensures.into_iter_gives ∙ c.iter-key-items.ensures.rest);
        read = ap (λ (ps : List (List ℕ × Val)). Gives ps c.args.heap.now c.args.m.now.units) (sym empty);
        keys = ap keys_of empty;
        meter = refl;
        names = subst (All (λ (p : List ℕ × Val). NamesBelow (length c.args.heap.now) p.1)) (sym empty) (All-nil _);
        grows = ([], sym (append-nil c.args.heap.now));
        covered = c.requires;
      },
    )

pub place_members-returns-in_err-value-clause-spent : goal.place_members-returns-in_err-value-clause-spent
place_members-returns-in_err-value-clause-spent t c spent =
    let l = c.loop-key in
    let done = l.invariant.0 in
    let inv = l.invariant.1 in
    let e : Entry = (c.in-Some.key.now, c.in-Some.member.now) in
    let why = rw spent at c.from_residual.ensures in
    let all = inv.split ∙ ap (λ es. done ++ es) c.in-Some.ensures.steps in
    ap (λ es. read_members (members_view es) c.args.heap.now c.args.m.now.units) all
    ∙ member_spends done e c.args.heap.now c.args.m.now.units l.pairs.entries l.heap l.m.units inv.read c.next.new.self (c.in_err-value.ensures.spent (ap Err (sym why.1)))

pub place_members-returns-in_err-value-clause-grows : goal.place_members-returns-in_err-value-clause-grows
place_members-returns-in_err-value-clause-grows t c =
    Grows-trans c.args.heap.now c.loop-key.heap c.place_value.new.heap c.loop-key.invariant.1.grows c.in_err-value.ensures.grows

pub place_members-returns-in_err-clone-clause-grows : goal.place_members-returns-in_err-clone-clause-grows
place_members-returns-in_err-clone-clause-grows t c =
    Grows-trans c.args.heap.now c.loop-key.heap c.place_value.new.heap c.loop-key.invariant.1.grows c.in_ok-value.ensures.grows

pub place_members-loop-key-preserved : goal.place_members-loop-key-preserved
place_members-loop-key-preserved t c =
    let l = c.loop-key in
    let done = l.invariant.0 in
    let inv = l.invariant.1 in
    let e : Entry = (c.in-Some.key.now, c.in-Some.member.now) in
    let left = c.next.new.self in
    let one = c.in_ok-value.ensures in
    let v = c.in_ok-value.value in
    let all : c.args.members.now.entries ≡ done ++ e ∷ left = inv.split ∙ ap (λ es. done ++ es) c.in-Some.ensures.steps in
    let name = c.from_string-name.ensures in
    let named = c.in_ok-clone.ensures.cases in
    let ps : List (List ℕ × Val) = l.pairs.entries in
    let text : c.from_string-name.result ≡ string_bytes e.0 = name ∙ named in
    let sorted = subst (λ es. IsStrictlySortedBy string_cmp (keys_of es)) all c.iter-key-items.ensures.ordered in
    let pairs : c.insert.new.self.entries ≡ ps ++ (string_bytes e.0, v) ∷ [] =
    c.in_ok-insert.ensures.entries ∙ ap (λ k. insert_entry bytes_eq ps k v) text ∙ insert_next done ps e v left inv.keys sorted in
    let Named : List ℕ × Val → Type 0 = λ (p : List ℕ × Val). NamesBelow (length c.place_value.new.heap) p.1 in
    let longer : length l.heap ≤ length c.place_value.new.heap = Grows-length l.heap c.place_value.new.heap one.grows in
    let named_pairs = All-push Named ps (string_bytes e.0, v) (All-weaker (λ (p : List ℕ × Val). NamesBelow (length l.heap) p.1) Named (λ p. NamesBelow-more _ _ longer p.1) ps inv.names) one.names in (
      done ++ e ∷ [],
      record {
        split = all ∙ sym (append_assoc done (e ∷ []) left);
        read = one_more_member done e c.args.heap.now c.args.m.now.units ps l.heap l.m.units inv.read v c.place_value.new.heap c.place_value.new.m.units one.ok
            ∙ ap (λ (qs : List (List ℕ × Val)). Gives qs c.place_value.new.heap c.place_value.new.m.units) (sym pairs);
        keys = ap keys_of pairs ∙ map-append (λ (p : List ℕ × Val). p.0) ps ((string_bytes e.0, v) ∷ []) ∙ ap (λ ks. ks ++ string_bytes e.0 ∷ []) inv.keys
            ∙ sym (map-append (λ (x : Entry). string_bytes x.0) done (e ∷ []));
        meter = one.turns_and_depth ∙ ap (λ (m : Spent). record m { units = c.place_value.new.m.units }) inv.meter;
        names = subst (All Named) (sym pairs) named_pairs;
        grows = Grows-trans c.args.heap.now l.heap c.place_value.new.heap inv.grows one.grows;
        covered = one.covered;
      },
    )
