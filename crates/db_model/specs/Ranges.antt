-- The range of an attribute's numbers outside of which no tuple satisfies a condition.
use Rattle.std.specs.Prelude.{ℕ, ℤ, pos, negsuc, ◌+ℤ◌, ◌-ℤ◌, ◌-◌, ◌^◌, Bool, false, List, Option, Some, None, if◌then◌else◌, int_le, nat_eq}
use Rattle.std.specs.Int.{int_min, int_max}
use Rattle.db_model.specs.declared.commands.Compare.{Compare}
use Rattle.db_model.specs.declared.commands.Compare.TheVariants as compare
use Rattle.db_model.specs.declared.schemas.Attribute.{Attribute}
use Rattle.db_model.specs.declared.schemas.Range.{Range}
use Rattle.db_model.specs.declared.schemas.Range.TheVariants.{Empty, Between}
use Rattle.db_model.specs.Cond.{Number, Attribute as Name, Tip, Cond, Comparison, And, Or}
use Rattle.db_model.specs.Item.{place_of}

-- the least and the greatest number of signed 64 bits
abbrev pub lowest : ℤ
lowest = negsuc (2 ^ 63 - 1)

abbrev pub highest : ℤ
highest = pos (2 ^ 63 - 1)

abbrev pub everything : Range
everything = Between lowest highest

-- the numbers from lo to hi
abbrev pub interval : ℤ → ℤ → Range
interval lo hi = if int_le lo hi then Between lo hi else Empty

-- the numbers x for which `x how c`, or an interval round them
abbrev pub compared_to : Compare → ℤ → Range
compared_to compare.Eq c = Between c c
compared_to compare.Ne c = everything
compared_to compare.Lt c = interval lowest (c -ℤ pos 1)
compared_to compare.Le c = Between lowest c
compared_to compare.Gt c = interval (c +ℤ pos 1) highest
compared_to compare.Ge c = Between c highest

-- `c how x` says `x (mirrored how) c`
abbrev pub mirrored : Compare → Compare
mirrored compare.Eq = compare.Eq
mirrored compare.Ne = compare.Ne
mirrored compare.Lt = compare.Gt
mirrored compare.Le = compare.Ge
mirrored compare.Gt = compare.Lt
mirrored compare.Ge = compare.Le

-- what is common to two ranges
abbrev pub common : Range → Range → Range
common (Between a b) (Between c d) = interval (int_max a c) (int_min b d)
common _ _ = Empty

-- the least interval that holds both
abbrev pub spanned : Range → Range → Range
spanned Empty r = r
spanned (Between a b) Empty = Between a b
spanned (Between a b) (Between c d) = Between (int_min a c) (int_max b d)

-- whether a name is that of the attribute at a place
abbrev pub is_at : Option ℕ → ℕ → Bool
is_at None place = false
is_at (Some k) place = nat_eq k place

-- the range that a condition gives the attribute at a place
abbrev pub range : List Attribute → ℕ → Cond → Range
range attributes place (Comparison how (Tip (Name name)) (Tip (Number c))) = if is_at (place_of name attributes) place then compared_to how c else everything
range attributes place (Comparison how (Tip (Number c)) (Tip (Name name))) = if is_at (place_of name attributes) place then compared_to (mirrored how) c else everything
range attributes place (And c d) = common (range attributes place c) (range attributes place d)
range attributes place (Or c d) = spanned (range attributes place c) (range attributes place d)
range attributes place _ = everything

abbrev pub range_of : List Attribute → ℕ → Option Cond → Range
range_of attributes place None = everything
range_of attributes place (Some c) = range attributes place c
