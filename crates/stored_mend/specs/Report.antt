-- The lines that tell what was repaired.
use Rattle.std.specs.Prelude.{ℕ, List, ◌++◌, codes, decimal, flat_map}
use Rattle.stored_mend.specs.declared.report.Mended.{Mended as AnyMended}
use Rattle.stored_mend.specs.declared.report.Mended.TheVariants.{Catalog, Mark, Relation, Attribute, Row, Tree, Index, Stray}

-- what became of an index on an attribute
abbrev pub index_report : (relation attribute last : List ℕ) → List ℕ
index_report relation attribute last = codes "index on " ++ relation ++ codes "." ++ attribute ++ last

abbrev pub mended_text : AnyMended → List ℕ
mended_text Catalog = codes "catalog taken back\n"
mended_text Mark = codes "catalog mark written\n"
mended_text (Relation slot) = codes "relation of slot " ++ decimal slot ++ codes " removed\n"
mended_text (Attribute relation) = codes "attribute of " ++ relation ++ codes " taken back\n"
mended_text (Row relation) = codes "row of " ++ relation ++ codes " taken back\n"
mended_text (Tree relation attribute) = index_report relation attribute (codes " built anew\n")
mended_text (Index relation attribute) = index_report relation attribute (codes " taken back\n")
mended_text (Stray slot) = codes "index of slot " ++ decimal slot ++ codes " removed\n"

-- a line for each thing, in the order of the work
abbrev pub report_text : List AnyMended → List ℕ
report_text mended = flat_map mended_text mended
