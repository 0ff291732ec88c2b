-- What a cut within a collection leaves.
use Rattle.std.specs.Prelude.{◌≡◌, ◌⊎◌, ℕ, ◌+◌, ◌*◌, ◌/◌, ◌<◌, ◌==◌, Bool, true, false, List, [], ◌∷◌, ◌++◌, length, replicate, slice_index_or, Some}
use Rattle.afl_base.specs.Cuts.{IsCutErase}
use Rattle.afl_base.specs.Image.{page_bytes, zeros_at}
use Rattle.coffee_layout.specs.Marks.{is_taken}
use Rattle.coffee_layout.specs.Tiling.{units_of}
use Rattle.coffee_layout.specs.Units.{pages_of, size_of, unit_at}
use Rattle.coffee_layout.specs.declared.unit.Unit.{Unit}
use Rattle.coffee_layout.specs.declared.unit.Unit.TheVariants.{Isolated}
use Rattle.coffee_space.specs.Collection.{KeepsActive}

-- for each page whether its unit begins in a sector
abbrev pub begun_pages : (sector : ℕ) → ℕ → List Unit → List Bool
begun_pages sector page [] = []
begun_pages sector page (u ∷ us) = replicate (size_of u) (page / 16 == sector) ++ begun_pages sector (page + size_of u) us

-- a page is free or isolated
abbrev pub IsLoose : List ℕ → ℕ → Type 0
IsLoose image page = (page_bytes image page ≡ replicate 256 0) ⊎ (unit_at image page ≡ Some Isolated)

-- the erase of a taken sector broke off, from an image of that kind and on the way to another; the pages
-- after it of what began in it are free or isolated
pub record IsCutOff (building : ℕ → Bool) (old new : List ℕ) (us : List Unit) : Type 0 where
  pub sector : ℕ
  pub before : List ℕ
  pub is_taken : is_taken us sector ≡ true
  pub long : length before ≡ length old
  pub kept : KeepsActive building old before us
  pub cut : IsCutErase before new sector
  pub loose : (page : ℕ) → page < pages_of old → sector < page / 16 → slice_index_or (begun_pages sector 0 (units_of before)) page false ≡ true → IsLoose new page
  pub again : KeepsActive building old (zeros_at new (4096 * sector) 4096) us

-- what a cut leaves: an image of that kind, but for at most one sector whose erase broke off
abbrev pub IsCutCollection : (building : ℕ → Bool) → (old new : List ℕ) → List Unit → Type 0
IsCutCollection building old new us = KeepsActive building old new us ⊎ IsCutOff building old new us
