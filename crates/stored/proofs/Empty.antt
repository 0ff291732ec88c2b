-- No files are a sound and empty database.
use Rattle.std.proofs.Common.{◌≡◌, replicate, Some, None, refl, sym, ◌∙◌}
use Rattle.afl_base.specs.Files.{Table}
use Rattle.catalog.specs.Rules.{breaks_files, breaks_index, breaks_relation, broken_catalog, first, first_broken}
use Rattle.db_model.specs.Database.{empty_database}
use Rattle.stored.specs.Base.{base_of}
use Rattle.stored.specs.Sound.{IsSoundTable}
use Rattle.padded.proofs.Facts.{none_there}

abbrev no_files : Table
no_files = replicate 32 None

pub empty_base : base_of no_files ≡ empty_database
empty_base = refl

empty_unbroken : first_broken no_files ≡ None
unfolding first_broken broken_catalog first breaks_files breaks_relation breaks_index
empty_unbroken = refl

pub empty_sound : IsSoundTable no_files
empty_sound = record {
  catalog = empty_unbroken;
  rows = λ slot h schema there. absurd (let e : None ≡ Some schema = sym (none_there 8 slot) ∙ there in let n : ⊥ = cc in n);
  indexes = λ slot h index there. absurd (let e : None ≡ Some index = sym (none_there 8 slot) ∙ there in let n : ⊥ = cc in n);
}
