-- What the files of a mounted image take is what those take that the image stands for.
use Rattle.std.proofs.Common.{◌≡◌, ℕ, zero, suc, ◌+◌, ◌-◌, ◌*◌, ◌≤◌, true, List, [], ◌∷◌, ◌++◌, length, map, replicate, Some, None, refl, ap, sym, subst}
use Rattle.afl_base.specs.Shares.{file_share, gap_for, shares}
use Rattle.coffee_layout.specs.Files.{Placed, entry_of, files_in, listed, named_file}
use Rattle.coffee_layout.specs.Marks.{IsCramped}
use Rattle.coffee_layout.specs.Rules.{broken_image}
use Rattle.coffee_layout.specs.Tiling.{units_of}
use Rattle.coffee_layout.specs.declared.file.FileAt.{FileAt}
use Rattle.coffee_merge.specs.TableFiles.{stored_file}
use Rattle.coffee_merge.proofs.CrampedImages.{cramped_shares}
use Rattle.coffee_volume.specs.Mounting.{mounted_state}
use Rattle.coffee_volume.specs.Volumes.{files_seen, roomless}

none_shares : (gap : ℕ) (image : List ℕ) (n : ℕ) → shares gap (files_seen true image (replicate n None)) ≡ 0
none_shares gap image zero = refl
none_shares gap image (suc n) = none_shares gap image n

placed_shares : (gap : ℕ) (image : List ℕ) (fs : List Placed) (n : ℕ)
    → shares gap (files_seen true image (map (λ (at : FileAt). Some (roomless at)) (map (entry_of image) fs) ++ replicate n None)) ≡ shares gap (map stored_file (map (named_file image) fs))
placed_shares gap image [] n = none_shares gap image n
placed_shares gap image (f ∷ fs) n =
    ap (λ rest. file_share gap (named_file image f).kind (length (named_file image f).bytes) + rest) (placed_shares gap image fs n)

pub mounted_cramped : (image : List ℕ) (n sectors : ℕ) → broken_image image ≡ None → length image ≡ 4096 * sectors → IsCramped (units_of image) n
    → sectors ≤ shares (gap_for n) (mounted_state image).files + gap_for n
mounted_cramped image n sectors sound long cramped =
    subst (λ (total : ℕ). sectors ≤ total + gap_for n) (sym (placed_shares (gap_for n) image (files_in (units_of image)) (32 - length (listed image))))
    (cramped_shares image n sectors sound long cramped)
