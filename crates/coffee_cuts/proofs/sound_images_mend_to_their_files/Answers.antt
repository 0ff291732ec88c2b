use Rattle.std.proofs.Common.{◌≡◌, List, None, inl, refl, ℕ}
use Rattle.coffee_layout.specs.Files.{files_of}
use Rattle.coffee_layout.specs.Rules.{broken_image}
use Rattle.coffee_cuts.specs.Cuts.{MendsTo, Nothing}
use Rattle.coffee_cuts.proofs.OneSettling.{one_list}
use Rattle.coffee_cuts.proofs.sound_images_mend_to_their_files.Goals as goal

itself : (image : List ℕ) → broken_image image ≡ None → MendsTo image (files_of image)
itself image sound = record { under_way = Nothing; found = tt; settles = inl sound; files_are = refl }

pub returns-clause-mends : goal.returns-clause-mends
returns-clause-mends c = itself

pub returns-clause-only : goal.returns-clause-only
returns-clause-only c = λ image files sectors size sound mends. one_list image files (files_of image) sectors size mends (itself image sound)
