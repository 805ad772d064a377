-- Which reply is taken in next.
use Rattle.std.proofs.Common.{◌≡◌, ℕ, List, Option, Some, None, sym, ap, ap₂, ◌∙◌, ⊎_elim}
use denote.Ref.{Bor}
use Rattle.std.specs.Prelude.{option_map, slice_get}
use Rattle.std.specs.Option.{option_copied}
use Rattle.std.specs.Slice.{IsGetResult}
use Rattle.std.proofs.lemmas.Option.{slice_get_past, slice_get-get_or, slice_get-map}
use Rattle.hog_meaning.specs.World as world
use Rattle.vm_course.specs.State.{Waiting, Mode}
use Rattle.cyclotron_jobs.specs.declared.input.Reply.{Reply}
use Rattle.hog_jobs.specs.Course.{reply_of, replies_of}
use Rattle.hog_jobs.specs.Laws.{GoesOn}

-- the reply that a slice has at a place
item_got : {A : Type 0} (xs : List A) (i : ℕ) (r : Option (Bor A)) → IsGetResult xs i i r → option_copied r ≡ slice_get xs i
item_got xs i None h = sym (slice_get_past xs i h.3)
item_got xs i (Some x) h = ap Some h.1 ∙ sym (slice_get-get_or xs i x.now h.3.0)

pub reply_got : (items : List Reply) (n : ℕ) (r : Option (Bor Reply)) (replies : List Reply) (used : ℕ) → items ≡ replies → n ≡ used → IsGetResult items n n r
    → option_map reply_of (option_copied r) ≡ slice_get (replies_of replies) used
reply_got items n r replies used same is got =
    ap (option_map reply_of) (item_got items n r got) ∙ sym (slice_get-map reply_of items n) ∙ ap₂ (λ xs k. slice_get (replies_of xs) k) same is

-- where a machine that is to go on waits, its reply is there
pub reply_there : (m : Mode) (replies : List world.Reply) (used : ℕ) → GoesOn m replies used → m ≡ Waiting → None ≡ slice_get replies used → ⊥
reply_there m replies used goes waiting none = ⊎_elim (λ running. absurd cc) (λ is. let there = is.2 in absurd cc) goes
