use Rattle.cyclotron_core.proofs.Moves.{IsListed-before, IsListingBut-unlinked}
use Rattle.cyclotron_core.proofs.listing.move_job.Goals as goal

pub unlink-requires : goal.unlink-requires
unlink-requires c = IsListed-before c.args.job c.args.rows.now c.args.lists.now c.requires

pub place-requires : goal.place-requires
place-requires c = IsListingBut-unlinked c.args.job c.args.rows.now c.args.lists.now c.unlink.new.self c.requires c.unlink.ensures.out
