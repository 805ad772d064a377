-- A program that was built: its source, and the code of the whole of it.
use Rattle.std.specs.Prelude.{◌≡◌, ℕ, List}
use Rattle.hog_tree.specs.Plain.{Stms}
use Rattle.hog_ops.specs.Plain.{Ops}
use Rattle.hog_compiler.specs.Code.{code_of}
use Rattle.hog_program.specs.Build.{IsBuilt}

pub record Built : Type 0 where
  pub source : List ℕ
  pub code : Ops

-- the text is built, and this is the code of the whole program
pub record HasCode (text : List ℕ) (code : Ops) : Type 0 where
  pub whole : Stms
  pub is_built : IsBuilt text whole
  pub is_code : code ≡ code_of whole
