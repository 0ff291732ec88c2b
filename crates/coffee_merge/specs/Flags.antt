-- What a flag that is programmed into headers makes of an image.
use Rattle.std.specs.Prelude.{ℕ, ◌+◌, ◌*◌, List, [], ◌∷◌, Option, Some, None}
use Rattle.afl_base.specs.Image.{or_at}
use Rattle.afl_base.specs.declared.ids.PageId.{PageId}

-- the image with a flag more in the header at a page
abbrev pub flagged : List ℕ → (page flag : ℕ) → List ℕ
flagged image page flag = or_at image (256 * page + 9) (flag ∷ [])

-- the image with OBSOLETE in the headers of an extent and of its log
abbrev pub obsoleted : List ℕ → (page : ℕ) → Option PageId → List ℕ
obsoleted image page None = flagged image page 4
obsoleted image page (Some log) = flagged (flagged image page 4) log.0 4
