use Rattle.std.proofs.Common.{◌≡◌, Some, None, Option, sym, ap, ◌∙◌}
use Rattle.hog_outside.specs.Faults.{Rose}
use Rattle.script_steps.specs.declared.said.Product.{Product}
use Rattle.script_steps.specs.Play.{HoldsProduct, ProductBegan}
use Rattle.script_steps.proofs.PlayLemmas.{appends_of, refused_of, rose_refused}
use Rattle.script_steps.proofs.steps.flush.Goals as goal

pub returns-in-Ok-clause-acts : goal.returns-in-Ok-clause-acts
returns-in-Ok-clause-acts g c =
    let holds : HoldsProduct c.args.hand.now = record { held = c.in-Some.held; is = c.in-Some.is; product = c.in-Some-take.product; made = sym c.take.ensures.value ∙ c.in-Some-take.is } in
    record {
      holds = holds;
      owner = c.in-Ok.ensures.owner;
      began = c.in-Ok.ensures.began;
      step = appends_of c.args.hand.now None c.in-Ok.ensures.ok;
    }

pub returns-in_default-stop : goal.returns-in_default-stop
returns-in_default-stop g c =
    let held = c.in-Some.held in
    let made : held.product ≡ Some c.in-Some-take.product = sym c.take.ensures.value ∙ c.in-Some-take.is in
    let holds : HoldsProduct c.args.hand.now = record { held = held; is = c.in-Some.is; product = c.in-Some-take.product; made = made } in
    let old = c.args.queue.now in
    let new = c.flush_product.new.queue in
    let began = ProductBegan old.rows held.lock.job c.in-Some-take.product in
    let back : Some c.in-Err.refused.back ≡ held.product = ap (λ (r : Product). Some r) c.in-Err.ensures.back ∙ sym made in
    let hand = ap (λ (product : Option Product). Some (record held { product = product })) back ∙ sym c.in-Some.is in
    record {
      acts = record {
        holds = holds;
        refused = refused_of old.history held.lock began (Rose (g.K.Keeper.faults old.keeper) (g.K.Keeper.faults new.keeper)) c.in-Err.refused.stop c.in-Err.ensures.refused c.in_default-stop.not-OutOfMemory;
        stays = record { rows = c.in-Err.ensures.err.rows; history = c.in-Err.ensures.err.history; hand = hand };
      };
      faults = rose_refused old.history held.lock began (g.K.Keeper.faults old.keeper) (g.K.Keeper.faults new.keeper) c.in-Err.refused.stop c.in-Err.ensures.refused c.in-Err.ensures.count;
    }
