use Rattle.hog_extras.proofs.Calendar.{ascii_text}
use Rattle.hog_extras.proofs.dates.text_bytes.Goals as goal

pub returns-clause-ascii : goal.returns-clause-ascii
returns-clause-ascii c =
    ascii_text _ _ _ _ _ _ _ _ c.digits-a.ensures.ascii c.digits-c.ensures.ascii c.digits-e.ensures.ascii c.digits-g.ensures.ascii
