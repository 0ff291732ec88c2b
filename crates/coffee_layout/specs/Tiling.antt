-- Tilings: the units of an image one after the other, and the rules 1 to 4 at each of them.
use Rattle.std.specs.Prelude.{◌≡◌, ⊤, ℕ, zero, suc, ◌+◌, ◌*◌, ◌%◌, ◌≤◌, Bool, false, ◌&&◌, ◌||◌, not, ◌==◌, nat_lt, List, [], ◌∷◌, length, Option, Some, None, if◌then◌else◌}
use Rattle.std.specs.Option.{option_or}
use Rattle.afl_base.specs.Image.{page_bytes}
use Rattle.padded.specs.Zeros.{is_zeros}
use Rattle.coffee_layout.specs.Units.{is_free, pages_of, size_of, total, unit_at}
use Rattle.coffee_layout.specs.declared.unit.Unit.{Unit}
use Rattle.coffee_layout.specs.declared.unit.Unit.TheVariants.{Free, Isolated, Extent}
use Rattle.coffee_layout.specs.declared.unit.BadImage.{BadImage}

-- rule 4: a unit that is not free and does not begin a sector has no free page just before it
abbrev pub broken_suffix : ℕ → Bool → Option ℕ
broken_suffix page after_free = if after_free && not (page % 16 == 0) then Some 4 else None

-- Of the rules 1 to 4 the first that is broken by the unit at a page. `building` says whether an
-- extent may be under construction there, `zeros` whether all bytes of the page are zero, and
-- `after_free` whether the unit before is a free page.
-- 1: a free page, an isolated page or a header begins there, with flags other than 2
-- 2: the extent has at least one page and ends inside the flash
-- 3: a page that is read as free is all zero
abbrev pub broken_unit : (building zeros : Bool) → (pages page : ℕ) → (after_free : Bool) → Option Unit → Option ℕ
broken_unit building zeros pages page after_free None = Some 1
broken_unit building zeros pages page after_free (Some Free) = if zeros then None else Some 3
broken_unit building zeros pages page after_free (Some Isolated) = broken_suffix page after_free
broken_unit building zeros pages page after_free (Some (Extent h)) =
    if h.flags == 2 && not building then Some 1
    else (if h.max_pages == 0 || nat_lt pages (page + h.max_pages) then Some 2 else broken_suffix page after_free)

-- the same of the unit that stands at a page of an image
abbrev pub broken_at : (building : ℕ → Bool) → List ℕ → ℕ → Bool → Option ℕ
broken_at building image page after_free =
    broken_unit (building page) (is_zeros (page_bytes image page)) (pages_of image) page after_free (unit_at image page)

-- no extent may be under construction
abbrev pub nowhere : ℕ → Bool
nowhere page = false

-- the units stand in the image one after the other from a page on, and each keeps the rules 1 to 4
abbrev pub KeepRules : (building : ℕ → Bool) → List ℕ → ℕ → Bool → List Unit → Type 0
KeepRules building image page after_free [] = ⊤
KeepRules building image page after_free (u ∷ us) =
    (unit_at image page ≡ Some u) × (broken_at building image page after_free ≡ None) × KeepRules building image (page + size_of u) (is_free u) us

-- the units tile the image: they keep the rules 1 to 4, and their pages are all pages
pub record IsTiled (building : ℕ → Bool) (image : List ℕ) (us : List Unit) : Type 0 where
  pub keep : KeepRules building image 0 false us
  pub whole : 256 * total us ≡ length image

-- the units stand in the image one after the other from a page on, and each has a page
abbrev pub StandFrom : List ℕ → ℕ → List Unit → Type 0
StandFrom image page [] = ⊤
StandFrom image page (u ∷ us) = (unit_at image page ≡ Some u) × (1 ≤ size_of u) × StandFrom image (page + size_of u) us

-- the units cover the image, where the rules 3 and 4 may be broken too: their pages are all pages
pub record IsCovered (image : List ℕ) (us : List Unit) : Type 0 where
  pub stand : StandFrom image 0 us
  pub whole : 256 * total us ≡ length image

-- the units from a page on, up to the end of the flash or a page at which none begins
abbrev pub units_from : ℕ → List ℕ → ℕ → List Unit
units_from zero image page = []
units_from (suc turns) image page =
    if nat_lt page (pages_of image) then elim (unit_at image page) [ None ↦ [] | Some u ↦ u ∷ units_from turns image (page + size_of u) ] else []

-- the units of an image: there are at most as many as pages
unfoldable pub units_of : List ℕ → List Unit
units_of image = units_from (pages_of image) image 0

-- a rule is broken at a place
abbrev pub at_place : ℕ → Option ℕ → Option BadImage
at_place rule None = None
at_place rule (Some place) = Some (record { rule = rule; place = place })

-- where a rule is broken at a page, that rule and that page
abbrev pub at_page : ℕ → Option ℕ → Option BadImage
at_page page None = None
at_page page (Some rule) = Some (record { rule = rule; place = page })

-- the first of the rules 1 to 4 that is broken, by these units from a page on or where they end
-- before the flash does
abbrev pub broken_from : (building : ℕ → Bool) → List ℕ → ℕ → Bool → List Unit → Option BadImage
broken_from building image page after_free [] =
    if nat_lt page (pages_of image) then at_page page (broken_at building image page after_free) else None
broken_from building image page after_free (u ∷ us) =
    option_or (at_page page (broken_at building image page after_free)) (broken_from building image (page + size_of u) (is_free u) us)

-- the first of the rules 1 to 4 that is broken, and its page
abbrev pub broken_tiling : (building : ℕ → Bool) → List ℕ → Option BadImage
broken_tiling building image = broken_from building image 0 false (units_of image)
