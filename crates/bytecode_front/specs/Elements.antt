-- Elements of a code as JSON.
use Rattle.serde_json.specs.Data.{Data, boolean, number, string}
use Rattle.serde_json.specs.Find.{of_integer}
use Rattle.hog_ops.specs.Elements.{Elem, Whole, Text, Flag}

abbrev pub elem_data : Elem → Data
elem_data (Whole z) = number (of_integer z)
elem_data (Text t) = string t
elem_data (Flag b) = boolean b
