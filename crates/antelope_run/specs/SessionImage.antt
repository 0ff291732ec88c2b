-- What the image is that a session stands on.
use Rattle.std.specs.Prelude.{◌≡◌, ℕ, List}
use Rattle.db_model.specs.declared.commands.Command.{Command}
use Rattle.db_model.specs.Database.{Database, bare}
use Rattle.image_model.specs.Images.{IsSound, base}
use Rattle.image_model.specs.Lacking.{LacksFor}

-- the image is sound, stands for this database without its cursors, and lacks what the session's files lacked
pub record IsImageOf (database : Database) (Lacks : Command → ℕ → Type 0) (image : List ℕ) : Type 0 where
  pub sound : IsSound image
  pub base_is : base image ≡ bare database
  pub lacks : (command : Command) (n : ℕ) → Lacks command n → LacksFor image command n
