-- Marks: one truth value a page, which say of each page whether it is free, in use or active.
use Rattle.std.specs.Prelude.{◌≡◌, ℕ, ◌+◌, ◌*◌, ◌<◌, ◌≤◌, Bool, true, false, ◌&&◌, not, List, [], ◌∷◌, ◌++◌, replicate, slice_index_or, slice_range}
use Rattle.std.specs.List.{list_any}
use Rattle.coffee_layout.specs.Units.{is_active, is_free, size_of}
use Rattle.coffee_layout.specs.declared.unit.Unit.{Unit}

-- for each page of these units whether its unit passes a test
abbrev pub pages_by : (Unit → Bool) → List Unit → List Bool
pages_by test [] = []
pages_by test (u ∷ us) = replicate (size_of u) (test u) ++ pages_by test us

-- a page is free
abbrev pub free_pages : List Unit → List Bool
free_pages us = pages_by is_free us

-- a page is in use: it is not free
abbrev pub used_pages : List Unit → List Bool
used_pages us = pages_by (λ u. not (is_free u)) us

-- a page is active: it belongs to an active extent
abbrev pub active_pages : List Unit → List Bool
active_pages us = pages_by is_active us

-- n marked pages one after the other, from a page on
abbrev pub IsRun : List Bool → ℕ → ℕ → Type 0
IsRun marks page n = (i : ℕ) → page ≤ i → i < page + n → slice_index_or marks i false ≡ true

-- the lowest page that begins such a run
pub record IsLowestRun (marks : List Bool) (n page : ℕ) : Type 0 where
  pub run : IsRun marks page n
  pub lowest : (earlier : ℕ) → earlier < page → IsRun marks earlier n → ⊥

-- nowhere are n marked pages one after the other
abbrev pub NoRun : List Bool → ℕ → Type 0
NoRun marks n = (page : ℕ) → IsRun marks page n → ⊥

-- the marks of a sector's 16 pages
abbrev pub in_sector : List Bool → ℕ → List Bool
in_sector marks sector = slice_range marks (16 * sector) (16 * sector + 16)

-- collection takes a sector that has a page in use and no active page
abbrev pub is_taken : List Unit → ℕ → Bool
is_taken us sector = list_any (λ m. m) (in_sector (used_pages us) sector) && not (list_any (λ m. m) (in_sector (active_pages us) sector))

-- no n pages one after the other are free, and collection would take no sector
pub record IsCramped (us : List Unit) (n : ℕ) : Type 0 where
  pub full : NoRun (free_pages us) n
  pub kept : (sector : ℕ) → is_taken us sector ≡ false
