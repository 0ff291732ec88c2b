-- What begins at a page, among the units of an image.
use Rattle.std.specs.Prelude.{ℕ, ◌+◌, ◌==◌, List, [], ◌∷◌, Option, Some, None, if◌then◌else◌}
use Rattle.coffee_header.specs.declared.header.Header.{Header}
use Rattle.coffee_layout.specs.Units.{is_active_flags, size_of}
use Rattle.coffee_layout.specs.declared.unit.Unit.{Unit}
use Rattle.coffee_layout.specs.declared.unit.Unit.TheVariants.{Free, Isolated, Extent}

-- the unit that begins at a page, among the units from another page on
abbrev pub unit_begun : List Unit → (from page : ℕ) → Option Unit
unit_begun [] from page = None
unit_begun (u ∷ us) from page = if from == page then Some u else unit_begun us (from + size_of u) page

-- the header of a unit that is an active extent
abbrev pub active_header : Option Unit → Option Header
active_header None = None
active_header (Some Free) = None
active_header (Some Isolated) = None
active_header (Some (Extent h)) = if is_active_flags h.flags then Some h else None

-- the header of the active extent that begins at a page
abbrev pub active_at : List Unit → ℕ → Option Header
active_at us page = active_header (unit_begun us 0 page)
