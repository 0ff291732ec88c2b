-- Units: what begins at a page of the flash, by the page's first 32 bytes.
use Rattle.std.specs.Prelude.{ℕ, ◌/◌, ◌+◌, ◌-◌, ◌%◌, Bool, true, false, ◌||◌, ◌==◌, bit_and, List, [], ◌∷◌, length, take, slice_index, Option, Some, if◌then◌else◌}
use Rattle.std.specs.Option.{option_map}
use Rattle.afl_base.specs.Image.{page_bytes}
use Rattle.coffee_header.specs.Headers.{header_of}
use Rattle.padded.specs.Zeros.{is_zeros}
use Rattle.coffee_layout.specs.declared.unit.Unit.{Unit}
use Rattle.coffee_layout.specs.declared.unit.Unit.TheVariants.{Free, Isolated, Extent}

-- the pages of a flash
abbrev pub pages_of : List ℕ → ℕ
pages_of image = length image / 256

-- the unit that 32 bytes begin: a free page where they are all zero, an isolated page where byte 9
-- has both bits 2 and 32, an extent where they are a header
unfoldable pub unit_of : List ℕ → Option Unit
unit_of bytes = if is_zeros bytes then Some Free else (if bit_and (slice_index bytes 9) 34 == 34 then Some Isolated else option_map Extent (header_of bytes))

-- the unit that begins at a page
abbrev pub unit_at : List ℕ → ℕ → Option Unit
unit_at image page = unit_of (take 32 (page_bytes image page))

-- the pages of a unit
abbrev pub size_of : Unit → ℕ
size_of Free = 1
size_of Isolated = 1
size_of (Extent h) = h.max_pages

-- the pages of a list of units
abbrev pub total : List Unit → ℕ
total [] = 0
total (u ∷ us) = size_of u + total us

abbrev pub is_free : Unit → Bool
is_free Free = true
is_free Isolated = false
is_free (Extent h) = false

-- active: under construction, a file, a file with a log, a log
abbrev pub is_active_flags : ℕ → Bool
is_active_flags flags = flags == 2 || flags == 3 || flags == 11 || flags == 19

abbrev pub is_active : Unit → Bool
is_active Free = false
is_active Isolated = false
is_active (Extent h) = is_active_flags h.flags

-- the page at which a walk goes on after the unit at a page: after a free page that is the next
-- sector, since in a tiled image all pages up to there are free
abbrev pub behind : ℕ → Unit → ℕ
behind page Free = page + (16 - page % 16)
behind page Isolated = page + 1
behind page (Extent h) = page + h.max_pages
