-- What the script of a database leaves, on an image without relations.
use Rattle.std.specs.Prelude.{◌≡◌, ℕ, ◌*◌, [], flat_map, replicate, Some}
use Rattle.std.specs.Io.KnownBytes.{append_known}
use Rattle.run_words.specs.declared.words.Form.TheVariants.{Dump, Run}
use Rattle.antelope_run.specs.Promise.{LeftBy}
use Rattle.db_model.specs.Database.{Database}
use Rattle.db_model.specs.ReplyText.{ok_text}
use Rattle.dump_model.specs.Packed.{packed}
use Rattle.dump_model.specs.Script.{script_commands}
use Rattle.run_model.specs.Runs.{World}
use Rattle.image_model.specs.Images.{IsSound, base}

-- the image is sound and stands for the packed database, and each command was replied to by `ok`
pub record Remakes (db : Database) (old new : World) : Type 0 where
  pub sound : IsSound new.image
  pub base_is : base new.image ≡ packed db
  pub written : new.held ≡ append_known old.held (flat_map (λ _. ok_text) (script_commands db))

-- a dump into an empty sink ended with status 0
pub record Dumps (old new : World) : Type 0 where
  pub empty : old.held ≡ Some []
  pub ends : LeftBy 0 Dump old new

-- and so did a run of what it wrote, over an erased flash
pub record RunsDump (sectors : ℕ) (dumped told old new : World) : Type 0 where
  pub dumps : Dumps dumped told
  pub input : old.left ≡ told.held
  pub erased : old.image ≡ replicate (4096 * sectors) 0
  pub ends : LeftBy 0 Run old new
