use Rattle.std.proofs.Common.{ap}
use Rattle.std.specs.Prelude.{Err}
use Rattle.hog_json.proofs.Growing.{json_cells-grows}
use Rattle.hog_library.proofs.KeptCells.{kept-gives, kept-spends, kept-throws}
use Rattle.hog_library.proofs.Made.{makes_back, makes_null}
use Rattle.hog_library.proofs.making.make_kept.Goals as goal

pub returns-in-Ok : goal.returns-in-Ok
returns-in-Ok c =
    let e = c.in-Ok.ensures in
    record {
      ok = kept-gives _ _ _ _ _ _ e.ok;
      turns_and_depth = e.turns_and_depth;
      names = e.names;
      spent = λ q. absurd cc;
      err = tt;
      err_meter = tt;
      grows = json_cells-grows _ _ _ _ _ _ e.ok;
      covered = e.covered;
    }

pub returns-in-Err-BadJson : goal.returns-in-Err-BadJson
returns-in-Err-BadJson c =
    let e = c.in-Err-BadJson.ensures in
    makes_null _ _ _ _ _ (kept-throws _ _ _ _ (e.bad (ap Err c.in-Err-BadJson.field-0-is))) e.err e.err_meter e.covered

pub returns-in-Err-UnitsSpent : goal.returns-in-Err-UnitsSpent
returns-in-Err-UnitsSpent c =
    let e = c.in-Err-UnitsSpent.ensures in
    makes_back _ _ _ _ _ _ (λ is. kept-spends _ _ _ (e.spent (ap Err c.in-Err-UnitsSpent.field-0-is))) e.err e.err_meter e.covered

pub returns-in-Err-OutOfMemory : goal.returns-in-Err-OutOfMemory
returns-in-Err-OutOfMemory c =
    let e = c.in-Err-OutOfMemory.ensures in
    makes_back _ _ _ _ _ _ (λ is. absurd cc) e.err e.err_meter e.covered
