use Rattle.std.proofs.Common.{◌≡◌, ◌+◌, ◌*◌, take}
use Rattle.std.specs.List.{join_by}
use Rattle.hog_json.specs.Texts.{pair_text, text_in}
use Rattle.hog_json.specs.Building.{added, spelling_of}
use Rattle.hog_json.proofs.walk.+walk.Given as goal

abbrev pub decreases-put_value : goal.decreases-put_value
decreases-put_value l = 5 * l.room + 4

abbrev pub decreases-put_cell : goal.decreases-put_cell
decreases-put_cell l = 5 * l.room + 3

abbrev pub decreases-put_array : goal.decreases-put_array
decreases-put_array l = 5 * l.room + 7

abbrev pub decreases-put_dict : goal.decreases-put_dict
decreases-put_dict l = 5 * l.room + 7

abbrev pub decreases-put_items : goal.decreases-put_items
decreases-put_items l = 5 * l.room + 6

abbrev pub decreases-put_pairs : goal.decreases-put_pairs
decreases-put_pairs l = 5 * l.room + 6

abbrev pub decreases-put_pair : goal.decreases-put_pair
decreases-put_pair l = 5 * l.room + 5

abbrev pub invariant-put_items-loop-i : goal.invariant-put_items-loop-i
invariant-put_items-loop-i l =
    let s = spelling_of l.style in
    l.out ≡ added (join_by (text_in s l.heap l.room l.fn.out.open_cells) s.comma (take l.i l.items)) l.fn.out

abbrev pub invariant-put_pairs-loop-i : goal.invariant-put_pairs-loop-i
invariant-put_pairs-loop-i l =
    let s = spelling_of l.style in
    l.out ≡ added (join_by (pair_text s (text_in s l.heap l.room l.fn.out.open_cells)) s.comma (take l.i l.map.entries)) l.fn.out
