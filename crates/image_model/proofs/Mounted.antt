-- The files of an image are those that a volume shows once it is mounted.
use Rattle.std.proofs.Common.{◌≡◌, ℕ, zero, suc, ◌-◌, true, List, [], ◌∷◌, ◌++◌, length, map, replicate, Some, None, refl, ap, sym, ◌∙◌}
use Rattle.std.proofs.lemmas.List.{length-map}
use Rattle.coffee_layout.specs.Files.{NamedFile, Placed, entry_of, files_in as placed_in, named_file}
use Rattle.coffee_layout.specs.Tiling.{units_of}
use Rattle.coffee_layout.specs.declared.file.FileAt.{FileAt}
use Rattle.coffee_volume.specs.Mounting.{mounted_state}
use Rattle.coffee_volume.specs.Volumes.{files_seen, roomless}
use Rattle.image_model.specs.Images.{file_from, files_of_image}

none_seen : (image : List ℕ) (n : ℕ) → files_seen true image (replicate n None) ≡ replicate n None
none_seen image zero = refl
none_seen image (suc n) = ap (λ t. None ∷ t) (none_seen image n)

seen : (image : List ℕ) (fs : List Placed) (n : ℕ)
    → files_seen true image (map (λ (at : FileAt). Some (roomless at)) (map (entry_of image) fs) ++ replicate n None)
    ≡ map (λ (f : NamedFile). Some (file_from f)) (map (named_file image) fs) ++ replicate n None
seen image [] n = none_seen image n
seen image (f ∷ fs) n = ap (λ t. Some (file_from (named_file image f)) ∷ t) (seen image fs n)

pub mounted_files : (image : List ℕ) → (mounted_state image).files ≡ files_of_image image
unfolding files_of_image
mounted_files image =
    let fs = placed_in (units_of image) in
    let same : length (map (entry_of image) fs) ≡ length (map (named_file image) fs) = length-map fs (entry_of image) ∙ sym (length-map fs (named_file image)) in
    seen image fs (32 - length (map (entry_of image) fs))
    ∙ ap (λ n. map (λ (f : NamedFile). Some (file_from f)) (map (named_file image) fs) ++ replicate (32 - n) None) same
