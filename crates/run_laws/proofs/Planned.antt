-- Planned space suffices for a run.
use Rattle.std.proofs.Common.{◌≡◌, ◌≤◌, ◌⊎◌, ℕ, ◌/◌, List, ◌∷◌, ◌++◌, length, Some, None, sym, subst, ◌∙◌}
use Rattle.std.specs.Prelude.{◌≢◌, Result, Ok}
use Rattle.afl_base.specs.Files.{Table}
use Rattle.run_words.specs.declared.words.Form.TheVariants.{Run}
use Rattle.antelope_run.specs.Promise.{HasSpace}
use Rattle.db_model.specs.declared.commands.Command.{Command}
use Rattle.db_model.specs.declared.refusals.Refusal.{Refusal}
use Rattle.db_model.specs.Database.{Database}
use Rattle.db_model.specs.Reading.{IsReader}
use Rattle.db_model.specs.Script.{Bytes, Entry, Long, Unfinished, commands}
use Rattle.db_model.specs.Script as script
use Rattle.db_model.specs.Sound.{IsSoundDatabase}
use Rattle.run_model.specs.Runs.{HasEnough, World, machine_from}
use Rattle.run_model.specs.Scripts.{script_talk}
use Rattle.run_model.specs.Talk.{last_database}
use Rattle.image_model.specs.Images.{IsSound, base, files_of_image}
use Rattle.space_model.specs.Enough.{enough, most}
use Rattle.stored.specs.Base.{base_of}
use Rattle.stored.specs.Sound.{IsSoundTable}
use Rattle.padded.proofs.Facts.{some_alike}

-- a sound image stands for a sound database
pub sound_base : ((files : Table) → IsSoundTable files → IsSoundDatabase (base_of files))
    → (image : List ℕ) → IsSound image → IsSoundDatabase (base image)
unfolding base
sound_base law image sound = law (files_of_image image) sound.database

module _ (read : List ℕ → Result Command Refusal) (db : Database) (sectors : ℕ) where
  -- it asks for nothing, or there are enough sectors for it
  abbrev Suffices : Database → Command → Type 0
  Suffices now command = (most now command ≡ 0) ⊎ (enough now (most now command) ≤ sectors)

  -- before each entry that reads as a command
  abbrev pub EachSuffices : List Entry → Type 0
  EachSuffices entries = (front rest : List Entry) (bytes : List ℕ) (command : Command) → entries ≡ front ++ Bytes bytes ∷ rest
      → read bytes ≡ Ok command → Suffices (script.last read db front) command

  pub enough_before : ((front : List Entry) → last_database (script_talk read) db front ≡ script.last read db front)
      → (entries : List Entry) → EachSuffices entries → HasEnough (machine_from (script_talk read) db) sectors entries
  enough_before same entries each front rest Long command split asks = absurd (let n : ⊥ = cc in n)
  enough_before same entries each front rest Unfinished command split asks = absurd (let n : ⊥ = cc in n)
  enough_before same entries each front rest (Bytes bytes) command split asks =
      subst (λ now. Suffices now command) (sym (same front)) (each front rest bytes command split asks)

-- the space of a run is that before the commands of its input
pub has_space : (read : List ℕ → Result Command Refusal) → IsReader read → (old : World) (text : List ℕ) → old.left ≡ Some text
    → HasEnough (machine_from (script_talk read) (base old.image)) (length old.image / 4096) (commands text) → HasSpace Run old
has_space read reader old text told each =
    let some : old.left ≢ None = λ none. (let n : ⊥ = cc in n) in (
      some,
      read,
      reader,
      λ other told_other.
          let same : text ≡ other = some_alike (sym told ∙ told_other) in
          subst (λ t. HasEnough (machine_from (script_talk read) (base old.image)) (length old.image / 4096) (commands t)) same each,
    )
