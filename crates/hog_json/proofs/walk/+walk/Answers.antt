use Rattle.std.proofs.Common.{rules, ◌<◌, ℕ, List, Err, All, length, get_or, sym, ap, ◌∙◌, subst, arith}
use Rattle.std.specs.List.{join_by}
use Rattle.std.proofs.lemmas.Result.{on_ok_weaker}
use Rattle.std.proofs.lemmas.List.{take_more, length-take-le}
use Rattle.std.proofs.lemmas.Option.{slice_get_within}
use Rattle.hog_value.specs.declared.value.Value.TheVariants.{Null}
use Rattle.hog_value.specs.Values.{Val, NamesBelow}
use Rattle.hog_json.specs.Texts.{pair_text, text_in}
use Rattle.hog_json.specs.Building.{TooLong, added, spelling_of}
use Rattle.hog_json.proofs.TextLemmas.{text_in_is}
use Rattle.hog_json.proofs.Lists.{take_more_at, All-slice_get}
use Rattle.hog_json.proofs.Joins.{mark_too_long, item_too_long, item_added}
use Rattle.hog_json.proofs.Pieces.{three_added, third_too_long}
use Rattle.hog_json.proofs.walk.+walk.Goals as goal

pub put_items-returns-in_err-put_mark-clause-spent : goal.put_items-returns-in_err-put_mark-clause-spent
put_items-returns-in_err-put_mark-clause-spent t c spent =
    let s = spelling_of c.args.style in
    let f : List ℕ → Val → List ℕ = text_in s c.args.heap.now c.args.room in
    let why = rw spent at c.from_residual.ensures in
    let next = take_more c.args.items.now c.loop-i.i Null c.loop-i-test.true in
    let here = length-take-le c.loop-i.i c.args.items.now (omega arith) in
    mark_too_long f s.comma c.args.out.now c.args.items.now c.loop-i.i _ next here c.loop-i.out c.loop-i.invariant (c.in_err-put_mark.ensures.spent (ap Err (sym why.1)))

pub put_items-returns-in_err-put_value-clause-spent : goal.put_items-returns-in_err-put_value-clause-spent
put_items-returns-in_err-put_value-clause-spent t c spent =
    let s = spelling_of c.args.style in
    let f : List ℕ → Val → List ℕ = text_in s c.args.heap.now c.args.room in
    let why = rw spent at c.from_residual-in_err-put_value.ensures in
    let next = take_more c.args.items.now c.loop-i.i Null c.loop-i-test.true in
    let here = length-take-le c.loop-i.i c.args.items.now (omega arith) in
    let is = text_in_is s c.args.heap.now c.args.room c.put_mark.new.out.open_cells (get_or c.args.items.now c.loop-i.i Null) in
    let over = subst (λ u. TooLong u c.put_mark.new.out) (sym is) (c.in_err-put_value.ensures.spent (ap Err (sym why.1))) in
    item_too_long f s.comma c.args.out.now c.args.items.now c.loop-i.i _ next here c.loop-i.out c.loop-i.invariant c.put_mark.new.out c.in_ok-put_mark.ensures.ok over

pub put_items-loop-i-preserved : goal.put_items-loop-i-preserved
put_items-loop-i-preserved t c =
    let s = spelling_of c.args.style in
    let f : List ℕ → Val → List ℕ = text_in s c.args.heap.now c.args.room in
    let next = take_more c.args.items.now c.loop-i.i Null c.loop-i-test.true in
    let here = length-take-le c.loop-i.i c.args.items.now (omega arith) in
    let is = text_in_is s c.args.heap.now c.args.room c.put_mark.new.out.open_cells (get_or c.args.items.now c.loop-i.i Null) in
    let last = c.in_ok-put_value.ensures.ok ∙ ap (λ u. added u c.put_mark.new.out) (sym is) in
    item_added f s.comma c.args.out.now c.args.items.now c.loop-i.i _ next here c.loop-i.out c.loop-i.invariant c.put_mark.new.out c.in_ok-put_mark.ensures.ok c.put_value.new.out last

pub put_pair-returns-clause-ok : goal.put_pair-returns-clause-ok
put_pair-returns-clause-ok t c =
    let s = spelling_of c.args.style in
    let third : List ℕ → List ℕ = λ (path : List ℕ). text_in s c.args.heap.now c.args.room path c.args.v in
    let is = text_in_is s c.args.heap.now c.args.room c.put.new.self.open_cells c.args.v in
    let two = c.in_ok-put.ensures.ok ∙ ap (λ u. added u c.put_text.new.out) c.colon.ensures in
    on_ok_weaker c.put_value.result
    (λ e. three_added c.args.out.now c.put_text.new.out c.put.new.self (s.text c.args.key.now) s.colon third c.in_ok-put_text.ensures.ok two c.put_value.new.out (e ∙ ap (λ u. added u c.put.new.self) (sym is)))
    c.put_value.ensures.ok

pub put_pair-returns-clause-spent : goal.put_pair-returns-clause-spent
put_pair-returns-clause-spent t c spent =
    let s = spelling_of c.args.style in
    let third : List ℕ → List ℕ = λ (path : List ℕ). text_in s c.args.heap.now c.args.room path c.args.v in
    let is = text_in_is s c.args.heap.now c.args.room c.put.new.self.open_cells c.args.v in
    let two = c.in_ok-put.ensures.ok ∙ ap (λ u. added u c.put_text.new.out) c.colon.ensures in
    third_too_long c.args.out.now c.put_text.new.out c.put.new.self (s.text c.args.key.now) s.colon third c.in_ok-put_text.ensures.ok two
    (subst (λ u. TooLong u c.put.new.self) (sym is) (c.put_value.ensures.spent spent))

pub put_pairs-returns-in_err-put_mark-clause-spent : goal.put_pairs-returns-in_err-put_mark-clause-spent
put_pairs-returns-in_err-put_mark-clause-spent t c spent =
    let s = spelling_of c.args.style in
    let f : List ℕ → List ℕ × Val → List ℕ = λ (path : List ℕ). pair_text s (text_in s c.args.heap.now c.args.room path) in
    let ps : List (List ℕ × Val) = c.map-map.result.now.entries in
    let p : List ℕ × Val = (c.in-Some.key.now, c.in-Some.v.now) in
    let why = rw spent at c.from_residual.ensures in
    let next = take_more_at ps c.loop-i.i p (sym c.in-Some.ensures.entry) in
    let within : c.loop-i.i < length ps = slice_get_within ps c.loop-i.i p (sym c.in-Some.ensures.entry) in
    let here = length-take-le c.loop-i.i ps (omega arith) in
    let over = mark_too_long f s.comma c.args.out.now ps c.loop-i.i p next here c.loop-i.out c.loop-i.invariant (c.in_err-put_mark.ensures.spent (ap Err (sym why.1))) in
    subst (λ qs. TooLong (join_by (f c.args.out.now.open_cells) s.comma qs) c.args.out.now) c.map-map.ensures.pairs over

pub put_pairs-put_pair-requires : goal.put_pairs-put_pair-requires
put_pairs-put_pair-requires t c =
    let ps : List (List ℕ × Val) = c.map-map.result.now.entries in
    let p : List ℕ × Val = (c.in-Some.key.now, c.in-Some.v.now) in
    let Named : List ℕ × Val → Type 0 = λ (q : List ℕ × Val). NamesBelow (length c.args.heap.now) q.1 in
    let all : All Named ps = subst (All Named) (sym c.map-map.ensures.pairs) c.requires in
    (search rules, All-slice_get Named ps c.loop-i.i p all (sym c.in-Some.ensures.entry))

pub put_pairs-returns-in_err-put_pair-clause-spent : goal.put_pairs-returns-in_err-put_pair-clause-spent
put_pairs-returns-in_err-put_pair-clause-spent t c spent =
    let s = spelling_of c.args.style in
    let f : List ℕ → List ℕ × Val → List ℕ = λ (path : List ℕ). pair_text s (text_in s c.args.heap.now c.args.room path) in
    let ps : List (List ℕ × Val) = c.map-map.result.now.entries in
    let p : List ℕ × Val = (c.in-Some.key.now, c.in-Some.v.now) in
    let why = rw spent at c.from_residual-in_err-put_pair.ensures in
    let next = take_more_at ps c.loop-i.i p (sym c.in-Some.ensures.entry) in
    let within : c.loop-i.i < length ps = slice_get_within ps c.loop-i.i p (sym c.in-Some.ensures.entry) in
    let here = length-take-le c.loop-i.i ps (omega arith) in
    let over = item_too_long f s.comma c.args.out.now ps c.loop-i.i p next here c.loop-i.out c.loop-i.invariant c.put_mark.new.out c.in_ok-put_mark.ensures.ok (c.in_err-put_pair.ensures.spent (ap Err (sym why.1))) in
    subst (λ qs. TooLong (join_by (f c.args.out.now.open_cells) s.comma qs) c.args.out.now) c.map-map.ensures.pairs over

pub put_pairs-loop-i-preserved : goal.put_pairs-loop-i-preserved
put_pairs-loop-i-preserved t c =
    let s = spelling_of c.args.style in
    let f : List ℕ → List ℕ × Val → List ℕ = λ (path : List ℕ). pair_text s (text_in s c.args.heap.now c.args.room path) in
    let ps : List (List ℕ × Val) = c.map-map.result.now.entries in
    let p : List ℕ × Val = (c.in-Some.key.now, c.in-Some.v.now) in
    let next = take_more_at ps c.loop-i.i p (sym c.in-Some.ensures.entry) in
    let within : c.loop-i.i < length ps = slice_get_within ps c.loop-i.i p (sym c.in-Some.ensures.entry) in
    let here = length-take-le c.loop-i.i ps (omega arith) in
    item_added f s.comma c.args.out.now ps c.loop-i.i p next here c.loop-i.out c.loop-i.invariant c.put_mark.new.out c.in_ok-put_mark.ensures.ok c.put_pair.new.out c.in_ok-put_pair.ensures.ok
