-- Files that have the same bytes by their names have the same sizes and rooms.
use Rattle.std.proofs.Common.{◌≡◌, ℕ, ℤ, List, length, Option, Some, None, refl, ap}
use Rattle.std.specs.Prelude.{is_some, option_map}
use Rattle.afl_base.specs.Files.{AreDistinct, File, Table}
use Rattle.index_maxheap.specs.Rooms.{room_of}
use Rattle.session_model.specs.Wanted.{room_in}
use Rattle.space_model.specs.FileNames.{bytes_in_file, file_named, size_in, tree_file}
use Rattle.stored.proofs.SameBase.{bytes_same, there_same}
use Rattle.stored.specs.Same.{HaveSameFiles}

-- ---- sizes and rooms by name

size_by : (o p : Option File) → is_some o ≡ is_some p → bytes_in_file o ≡ bytes_in_file p → option_map (λ (f : File). length f.bytes) o ≡ option_map (λ (f : File). length f.bytes) p
size_by None None there bytes = refl
size_by None (Some g) there bytes = absurd (let n : ⊥ = cc in n)
size_by (Some f) None there bytes = absurd (let n : ⊥ = cc in n)
size_by (Some f) (Some g) there bytes = ap (λ (bs : List ℕ). Some (length bs)) bytes

module _ (old new : Table) (d : AreDistinct old) (k : AreDistinct new) (same : HaveSameFiles old new) where
  pub size_stays : (name : List ℕ) → size_in old name ≡ size_in new name
  size_stays name = size_by (file_named name old) (file_named name new) (there_same old new name d k same) (bytes_same old new name d k same)

  pub room_stays : (slot : ℕ) (key : ℤ) → room_in old slot key ≡ room_in new slot key
  room_stays slot key = ap (λ (bytes : List ℕ). ((room_of bytes key).overwrites, (room_of bytes key).bytes)) (bytes_same old new (tree_file slot) d k same)
