use Rattle.hog_jobs.proofs.GlobalsLemmas as globals
use Rattle.hog_jobs.proofs.laws.kept_globals.Goals as goal

pub returns-clause-kept : goal.returns-clause-kept
returns-clause-kept c = globals.kept_globals

pub returns-clause-objects : goal.returns-clause-objects
returns-clause-objects c = globals.globals_objects

pub returns-clause-start : goal.returns-clause-start
returns-clause-start c = globals.machines_start
