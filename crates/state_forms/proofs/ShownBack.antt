-- What a run has shown, and its end, are read from what was written of them.
use Rattle.std.proofs.Common.{◌≡◌, ℕ, ◌<◌, ◌^◌, Option, Some, None, IfSome, refl}
use Rattle.hog_value.specs.declared.trace.TraceItem.{TraceItem}
use Rattle.hog_value.specs.declared.trace.TraceItem.TheVariants.{Printed, Asked}
use Rattle.hog_value.specs.declared.trace.End.{End}
use Rattle.hog_value.specs.declared.trace.End.TheVariants.{Done, Threw, TurnsSpent, MemorySpent, TooDeep, TooManyFetches}
use Rattle.state_forms.specs.Shapes.{u32_in, number_data, maybe_in, maybe_data}
use Rattle.state_forms.specs.Shown.{item_in, item_data, end_in, end_data}
use Rattle.state_forms.proofs.Back.{u32_back}

pub maybe_back : (o : Option ℕ) → IfSome o (λ n. n < 2 ^ 32) → maybe_in u32_in (maybe_data number_data o) ≡ Some o
maybe_back None h = refl
maybe_back (Some n) h = rw (u32_back n h) refl

pub item_back : (i : TraceItem) → Unit {0} → item_in (item_data i) ≡ Some i
item_back (Printed text) h = refl
item_back (Asked request) h = refl

pub end_back : (e : End) → end_in (end_data e) ≡ Some e
end_back (Done t) = refl
end_back (Threw t) = refl
end_back TurnsSpent = refl
end_back MemorySpent = refl
end_back TooDeep = refl
end_back TooManyFetches = refl
