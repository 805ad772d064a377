-- The items of small programs, and one of them with its variables called anew. Their texts stand in the crate of the bridge.
use Rattle.std.specs.Prelude.{◌≡◌, ℕ, ◌+◌, List, [], ◌∷◌, ◌++◌, pos, Ok, codes}
use Rattle.hog_tree.specs.Plain.{Word, Stms, Int, Name, Array, Call, Lambda, NoExp, MoreExp, OneExp, Let, Assign, Return, Throw, Try, Done, Then, NoneExp, SomeExp}
use Rattle.hog_scope.specs.declared.item.Item.{Item}
use Rattle.hog_scope.specs.Scopes.{items_of}
use Rattle.hog_names.specs.Numbers.{stms_items}

-- the words of a program have these items, by the scope rules and by environments
pub record AreNumbered (program : Stms) (items : List Item) : Type 0 where
  pub resolved : items_of program ≡ Ok items
  pub found : stms_items [] 0 program ≡ items

-- the variables v0, v1 and so on
abbrev pub numbered : ℕ → Word
numbered n = codes "v" ++ (48 + n) ∷ []

-- `caught_name` with its variables called anew
--     let v0 := 1;
--     let v1;
--     try { throw 2; } catch (v2) { v1 := () -> v2; v2 := 3; }
--     return [v0, v1()];
abbrev pub caught_name_anew : Stms
caught_name_anew =
    Then (Let (numbered 0) (SomeExp (Int (pos 1))))
    (Then (Let (numbered 1) NoneExp)
    (Then (Try (Then (Throw (Int (pos 2))) Done) (numbered 2)
    (Then (Assign (Name (numbered 1)) (Lambda [] (OneExp (Name (numbered 2))))) (Then (Assign (Name (numbered 2)) (Int (pos 3))) Done)))
    (Then (Return (SomeExp (Array (MoreExp (Name (numbered 0)) (MoreExp (Call (Name (numbered 1)) NoExp) NoExp))))) Done)))
