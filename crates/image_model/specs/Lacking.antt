-- What a command needs of an image, and lacks there.
use Rattle.std.specs.Prelude.{◌<◌, ◌≤◌, ℕ, ◌/◌, List, length}
use Rattle.coffee_layout.specs.Marks.{IsCramped}
use Rattle.coffee_layout.specs.Tiling.{units_of}
use Rattle.coffee_volume.specs.Asking.{AsksOf}
use Rattle.db_model.specs.declared.commands.Command.{Command}
use Rattle.session_model.specs.Wanted.{room_in}
use Rattle.space_model.specs.Enough.{enough, most}
use Rattle.space_model.specs.FileNames.{size_in}
use Rattle.space_model.specs.Wants.{Wants}
use Rattle.image_model.specs.Images.{base, files_of_image}

-- a command needs an extent of n pages, as the files of the image stand
abbrev pub WantsOf : List ℕ → Command → ℕ → Type 0
WantsOf image command n = Wants (size_in (files_of_image image)) (AsksOf image) (room_in (files_of_image image)) (base image) command n

-- it needs them, no more than the most that are counted for it, and none is available: the image is cramped for n pages, and so
-- has fewer sectors than are enough for its database
pub record LacksFor (image : List ℕ) (command : Command) (n : ℕ) : Type 0 where
  pub wants : WantsOf image command n
  pub few : n ≤ most (base image) command
  pub cramped : IsCramped (units_of image) n
  pub small : length image / 4096 < enough (base image) n
