use Rattle.std.proofs.Common.{◌≡◌, length, Some, slice_get, refl}
use Rattle.std.proofs.lemmas.Option.{slice_get_read}
use Rattle.cyclotron_core.specs.Listing.{running_list}
use Rattle.cyclotron_core.proofs.Moves.{waiting-stands, running-stands, completed-stands, failed-stands, IsListingBut-apart, IsInOrder-waiting, IsListing-waiting, IsListing-placed, IsListing-out}
use Rattle.cyclotron_core.proofs.listing.place.Goals as goal

pub insert_by-requires-clause-apart : goal.insert_by-requires-clause-apart
insert_by-requires-clause-apart c = IsListingBut-apart c.args.job c.args.rows.now c.args.lists.now c.requires

pub insert_by-requires-clause-in_order : goal.insert_by-requires-clause-in_order
insert_by-requires-clause-in_order c = IsInOrder-waiting c.args.job c.args.rows.now c.args.lists.now c.requires c.waiting.result c.index-rows-job.result.queue c.waiting.ensures

pub insert_by-requires-in-Running-clause-apart : goal.insert_by-requires-in-Running-clause-apart
insert_by-requires-in-Running-clause-apart c = IsListingBut-apart c.args.job c.args.rows.now c.args.lists.now c.requires

pub insert_by-requires-in-Running-clause-in_order : goal.insert_by-requires-in-Running-clause-in_order
insert_by-requires-in-Running-clause-in_order c = (c.requires.each running_list).in_order

pub returns-in-Available : goal.returns-in-Available
returns-in-Available c =
    let rows = c.args.rows.now in
    let row = c.index-rows-job.result in
    let here : slice_get rows c.args.job ≡ Some row = slice_get_read rows (length rows) c.args.job row refl c.requires.there c.index-rows-job.is in
    IsListing-waiting c.args.job rows c.args.lists.now c.requires c.insert_by.new.self c.waiting.result row.queue c.waiting.ensures c.insert_by.ensures.others c.insert_by.ensures.placed
    (waiting-stands rows c.args.job row row.queue here c.in-Available.is refl)

pub returns-in-Running : goal.returns-in-Running
returns-in-Running c =
    let rows = c.args.rows.now in
    let row = c.index-rows-job.result in
    let here : slice_get rows c.args.job ≡ Some row = slice_get_read rows (length rows) c.args.job row refl c.requires.there c.index-rows-job.is in
    IsListing-placed c.args.job rows c.args.lists.now c.requires c.insert_by-in-Running.new.self running_list c.insert_by-in-Running.ensures.others c.insert_by-in-Running.ensures.placed
    (running-stands rows c.args.job row here c.in-Running.is)

pub returns-in-Completed : goal.returns-in-Completed
returns-in-Completed c =
    let rows = c.args.rows.now in
    let row = c.index-rows-job.result in
    let here : slice_get rows c.args.job ≡ Some row = slice_get_read rows (length rows) c.args.job row refl c.requires.there c.index-rows-job.is in
    IsListing-out c.args.job rows c.args.lists.now c.requires (completed-stands rows c.args.job row here c.in-Completed.is)

pub returns-in-Failed : goal.returns-in-Failed
returns-in-Failed c =
    let rows = c.args.rows.now in
    let row = c.index-rows-job.result in
    let here : slice_get rows c.args.job ≡ Some row = slice_get_read rows (length rows) c.args.job row refl c.requires.there c.index-rows-job.is in
    IsListing-out c.args.job rows c.args.lists.now c.requires (failed-stands rows c.args.job row here c.in-Failed.is)
