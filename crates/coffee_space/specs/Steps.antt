-- The three steps of collection: it isolates pages after headers, erases sectors, and isolates headers.
use Rattle.std.specs.Prelude.{◌≡◌, ◌⊎◌, ℕ, zero, suc, ◌+◌, ◌*◌, ◌/◌, ◌<◌, ◌≤◌, Bool, true, false, ◌&&◌, not, ◌==◌, List, [], ◌∷◌, ◌++◌, length, replicate, slice_index_or}
use Rattle.afl_base.specs.Cuts.{IsCutErase}
use Rattle.afl_base.specs.Image.{or_at, page_bytes}
use Rattle.coffee_layout.specs.Units.{pages_of, size_of}
use Rattle.coffee_layout.specs.declared.unit.Unit.{Unit}
use Rattle.coffee_space.specs.Collection.{cut_pages, touches}
use Rattle.coffee_space.specs.declared.part.Part.{Part}
use Rattle.coffee_space.specs.declared.part.Part.TheVariants.{Behind, Header}

-- of this many pages the first is marked
abbrev pub first_marks : ℕ → List Bool
first_marks zero = []
first_marks (suc n) = true ∷ replicate n false

-- for each page whether it is the first of its unit
abbrev pub unit_starts : List Unit → List Bool
unit_starts [] = []
unit_starts (u ∷ us) = first_marks (size_of u) ++ unit_starts us

-- a part of a unit: its first page, which has the header, or the pages after
abbrev pub is_part : Part → (first : Bool) → Bool
is_part Behind first = not first
is_part Header first = first

-- a page is isolated, or stays
pub record IsolatesPage (wanted : Bool) (old new : List ℕ) (page : ℕ) : Type 0 where
  pub isolated : wanted ≡ true → page_bytes new page ≡ or_at (page_bytes old page) 9 (34 ∷ [])
  pub kept : wanted ≡ false → page_bytes new page ≡ page_bytes old page

-- of the n first pages of a unit those of a part are isolated outside of the taken sectors, where the
-- unit is cut; all other pages stay
pub record IsolatesPages (taken : ℕ → Bool) (part : Part) (cut : Bool) (old new : List ℕ) (page n : ℕ) : Type 0 where
  pub here : (i : ℕ) → i < n → IsolatesPage ((cut && is_part part (i == 0)) && not (taken ((page + i) / 16))) old new (page + i)
  pub others : (q : ℕ) → (page ≤ q → q < page + n → ⊥) → page_bytes new q ≡ page_bytes old q

-- the same of all pages of a unit, which is cut where a page of it is taken
abbrev pub IsolatesUnit : (taken : ℕ → Bool) → Part → (old new : List ℕ) → (page pages : ℕ) → Type 0
IsolatesUnit taken part old new page pages = IsolatesPages taken part (touches taken page pages) old new page pages

-- a page is chosen: it is of that part of a unit that has a page in a taken sector, and lies outside
abbrev pub is_chosen : (taken : ℕ → Bool) → Part → List Unit → ℕ → Bool
is_chosen taken part us page = (slice_index_or (cut_pages taken 0 us) page false && is_part part (slice_index_or (unit_starts us) page false)) && not (taken (page / 16))

-- each chosen page is isolated, all other pages stay
abbrev pub Isolates : (taken : ℕ → Bool) → Part → (old new : List ℕ) → List Unit → Type 0
Isolates taken part old new us = (page : ℕ) → IsolatesPage (is_chosen taken part us page) old new page

-- the pages of the taken sectors are erased, all other pages stay
pub record Erases (taken : ℕ → Bool) (old new : List ℕ) : Type 0 where
  pub erased : (page : ℕ) → page < pages_of old → taken (page / 16) ≡ true → page_bytes new page ≡ replicate 256 0
  pub kept : (page : ℕ) → taken (page / 16) ≡ false → page_bytes new page ≡ page_bytes old page

-- the taken sectors from one on are erased, and all other pages stay
pub record ErasesFrom (taken : ℕ → Bool) (old new : List ℕ) (sector : ℕ) : Type 0 where
  pub erased : (page : ℕ) → page < pages_of old → sector ≤ page / 16 → taken (page / 16) ≡ true → page_bytes new page ≡ replicate 256 0
  pub kept : (page : ℕ) → (sector ≤ page / 16 → taken (page / 16) ≡ true → ⊥) → page_bytes new page ≡ page_bytes old page

-- WHERE A STEP BREAKS OFF

-- a page stays, or it was chosen and is isolated
abbrev pub StaysOrIsolated : (chosen : Bool) → (old new : List ℕ) → ℕ → Type 0
StaysOrIsolated chosen old new page = (page_bytes new page ≡ page_bytes old page) ⊎ ((chosen ≡ true) × (page_bytes new page ≡ or_at (page_bytes old page) 9 (34 ∷ [])))

-- some of the chosen pages of a unit are isolated
pub record IsolatesSomePages (taken : ℕ → Bool) (part : Part) (cut : Bool) (old new : List ℕ) (page n : ℕ) : Type 0 where
  pub here : (i : ℕ) → i < n → StaysOrIsolated ((cut && is_part part (i == 0)) && not (taken ((page + i) / 16))) old new (page + i)
  pub others : (q : ℕ) → (page ≤ q → q < page + n → ⊥) → page_bytes new q ≡ page_bytes old q

-- the same of all pages of a unit
abbrev pub IsolatesSomeUnit : (taken : ℕ → Bool) → Part → (old new : List ℕ) → (page pages : ℕ) → Type 0
IsolatesSomeUnit taken part old new page pages = IsolatesSomePages taken part (touches taken page pages) old new page pages

-- some of all chosen pages are isolated
abbrev pub IsolatesSome : (taken : ℕ → Bool) → Part → (old new : List ℕ) → List Unit → Type 0
IsolatesSome taken part old new us = (page : ℕ) → StaysOrIsolated (is_chosen taken part us page) old new page

-- the taken sectors after one are erased, and the erase of that one broke off
pub record ErasesSome (taken : ℕ → Bool) (old new : List ℕ) : Type 0 where
  pub sector : ℕ
  pub before : List ℕ
  pub is_taken : taken sector ≡ true
  pub inside : 4096 * sector + 4096 ≤ length old
  pub size : length before ≡ length old
  pub from : ErasesFrom taken old before (sector + 1)
  pub cut : IsCutErase before new sector
