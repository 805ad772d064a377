-- What comes of a source, and the course on its code.
use Rattle.std.proofs.Common.{◌≡◌, ℕ, suc, ◌+◌, ◌≤◌, List, refl, sym, ap, ◌∙◌, subst}
use Rattle.std.specs.Prelude.{◌*◌}
use Rattle.hog_tree.specs.Plain.{Stms}
use Rattle.hog_compiler.specs.Code.{code_of}
use Rattle.hog_meaning.specs.World.{Reply}
use Rattle.hog_meaning.specs.Program.{meaning, outcome}
use Rattle.vm_course.specs.Course.{machine, IsOver, IsDefined}
use Rattle.hog_bridge.specs.Laws.{IsOnMeaning, IsNamed, CourseIsMeaning, CourseIsBounded, CourseRests, operations}
use Rattle.hog_program.specs.Build.{IsBuilt}
use Rattle.hog_program.specs.Course.{IsShown, OneMeaning, CourseShowsMeaning, CourseIsShort}

pub one_outcome : ((source : List ℕ) (a b : Stms) → IsBuilt source a → IsBuilt source b → a ≡ b) → OneMeaning
one_outcome one text globals replies a b p q =
    p.is ∙ ap (λ w. outcome w globals replies) (one text p.whole q.whole p.is_built q.is_built) ∙ sym q.is

shown : (whole : Stms) (globals : List ℕ) (replies : List Reply) → IsOnMeaning whole globals replies
    → (k : ℕ) × IsOver (machine (code_of whole) globals replies k) → IsShown (outcome whole globals replies) (machine (code_of whole) globals replies)
unfolding meaning
shown whole globals replies on rests = record { prefix = on.prefix; ended = on.ended; waits = on.waits; rests = rests }

module _ (named : (source : List ℕ) (whole : Stms) → IsBuilt source whole → IsNamed whole) where
  pub course_shows : CourseIsMeaning → CourseRests → CourseShowsMeaning
  course_shows law rest text code h globals replies =
      let n = named text h.whole h.is_built in (
        outcome h.whole globals replies,
        record { whole = h.whole; is_built = h.is_built; is = refl },
        subst (λ c. IsShown (outcome h.whole globals replies) (machine c globals replies)) (sym h.is_code)
            (shown h.whole globals replies (law h.whole n globals replies) (rest h.whole n globals replies)),
      )

  pub course_short : CourseIsBounded → CourseIsShort
  course_short law text code h globals replies k =
      subst (λ c. IsDefined c globals replies (suc k) → suc k ≤ 1 + ((machine c globals replies k).turns + 1) * (operations c + 1)) (sym h.is_code)
      (law h.whole (named text h.whole h.is_built) globals replies k)
