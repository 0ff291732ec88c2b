-- What opening a session on an image reads.
use Rattle.std.proofs.Common.{◌≡◌, ℕ, ◌+◌, ◌*◌, ◌/◌, ◌≤◌, List, length, map, ap, arith}
use Rattle.std.specs.List.{range_with_len}
use Rattle.afl_base.specs.Files.{Table}
use Rattle.coffee_layout.specs.Units.{pages_of}
use Rattle.db_model.specs.Cost.{sum}
use Rattle.db_model.specs.Database.{Database}
use Rattle.db_model.specs.RunCost.{opening_cost, slots_opened}
use Rattle.stored.specs.Base.{base_of}
use Rattle.image_model.specs.Images.{base, files_of_image}

sums : (db other : Database) → db ≡ other → sum (map (slots_opened db) (range_with_len 0 8)) ≡ sum (map (slots_opened other) (range_with_len 0 8))
sums db other e = ap (λ (d : Database). sum (map (slots_opened d) (range_with_len 0 8))) e

-- the pages of at least four sectors leave room for the catalog and the trees
pub opened_within : (image : List ℕ) (files : Table) → files ≡ files_of_image image → (before mounted now sectors : ℕ)
    → length image ≡ 4096 * sectors → 4 ≤ sectors → mounted ≤ before + 448 * pages_of image
    → now ≤ mounted + 1024 + 16384 + 16 * sum (map (slots_opened (base_of files)) (range_with_len 0 8))
    → now ≤ before + opening_cost (base image) (length image / 256)
unfolding base
opened_within image files same before mounted now sectors size four first second =
    let total = sums (base_of files) (base_of (files_of_image image)) (ap base_of same) in
    omega (arith, total, size, four, first, second)

-- and that of judging the volume alone
pub mounted_within : (image : List ℕ) (before now sectors : ℕ) → length image ≡ 4096 * sectors → now ≤ before + 448 * pages_of image
    → now ≤ before + opening_cost (base image) (length image / 256)
mounted_within image before now sectors size first = omega (arith, size, first)
