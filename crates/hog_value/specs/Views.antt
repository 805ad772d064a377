-- The cells of the program as those that contracts see.
use Rattle.hog_value.specs.declared.cell.Cell.{Cell}
use Rattle.hog_value.specs.declared.cell.Cell.TheVariants as c
use Rattle.hog_value.specs.declared.cell.FunCell.{FunCell}
use Rattle.hog_value.specs.Cells.{CellOf, Text, Array, Dict, Fun}

-- a cell; the content of a function is where its body begins, and what it captured
abbrev pub cell_of : Cell → CellOf FunCell
cell_of (c.Text t) = Text t
cell_of (c.Array vs) = Array vs
cell_of (c.Dict ps) = Dict ps
cell_of (c.Fun f) = Fun f
