-- What a dump writes, a run over an erased flash makes again.
use Rattle.std.proofs.Common.{◌≡◌, ℕ, ◌*◌, List, replicate, Some, ap, sym, ◌∙◌}
use Rattle.std.specs.Io.KnownBytes.{append_known}
use Rattle.run_words.specs.declared.words.Form.TheVariants.{Dump, Run}
use Rattle.antelope_run.specs.Promise.{LeftBy}
use Rattle.antelope_run.proofs.Outcomes.{ended_with}
use Rattle.db_model.specs.Database.{Database, empty_database}
use Rattle.db_model.specs.Sound.{IsSoundDatabase}
use Rattle.dump_model.specs.Packed.{packed}
use Rattle.dump_model.specs.Script.{script}
use Rattle.run_laws.specs.Remaking.{Dumps, Remakes, RunsDump}
use Rattle.run_model.specs.Runs.{World}
use Rattle.image_model.specs.Images.{IsSound, base}

-- the sink holds the script then
pub dumped_script : (old new : World) → Dumps old new → new.held ≡ Some (script (base old.image))
dumped_script old new dumps = (ended_with Dump old new dumps.ends).1.1 ∙ ap (λ held. append_known held (script (base old.image))) dumps.empty

pub made_again : ((db : Database) (old new : World) → IsSoundDatabase db → old.left ≡ Some (script db) → base old.image ≡ empty_database → LeftBy 0 Run old new → Remakes db old new)
    → ((sectors : ℕ) → base (replicate (4096 * sectors) 0) ≡ empty_database)
    → ((image : List ℕ) → IsSound image → IsSoundDatabase (base image))
    → (sectors : ℕ) (dumped told old new : World) → RunsDump sectors dumped told old new → Remakes (base dumped.image) old new
made_again law erased sound sectors dumped told old new runs =
    law (base dumped.image) old new (sound dumped.image (ended_with Dump dumped told runs.dumps.ends).0) (runs.input ∙ dumped_script dumped told runs.dumps) (ap base runs.erased ∙ erased sectors) runs.ends

pub same_dump : ((db : Database) → IsSoundDatabase db → script (packed db) ≡ script db) → ((image : List ℕ) → IsSound image → IsSoundDatabase (base image))
    → (dumped told next again : World) → Dumps dumped told → base next.image ≡ packed (base dumped.image) → Dumps next again → again.held ≡ told.held
same_dump law sound dumped told next again dumps is dumps_again =
    dumped_script next again dumps_again
    ∙ ap (λ db. Some (script db)) is
    ∙ ap (λ text. Some text) (law (base dumped.image) (sound dumped.image (ended_with Dump dumped told dumps.ends).0))
    ∙ sym (dumped_script dumped told dumps)
