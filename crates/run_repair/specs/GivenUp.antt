-- What is left of an image whose files are settled, and of one of which the tree of an index is given up.
use Rattle.std.specs.Prelude.{◌≡◌, ◌≢◌, ◌⊎◌, ◌<◌, ℕ, true, List, None, Some}
use Rattle.afl_base.specs.Files.{Table}
use Rattle.catalog.specs.Rules.{is_tree}
use Rattle.coffee_find.specs.Found.{IsCutBy, IsTornAt}
use Rattle.coffee_find.specs.declared.trouble.TornRecord.{TornRecord}
use Rattle.coffee_find.specs.declared.trouble.Trouble.{Trouble}
use Rattle.coffee_layout.specs.Rules.{broken_image}
use Rattle.coffee_layout.specs.declared.file.FileAt.{FileAt}
use Rattle.coffee_mend.specs.Completed.{AwaitsCopy}
use Rattle.coffee_mend.specs.Discarded.{discarded}
use Rattle.coffee_mend.specs.Superseding.{IsTornOf}
use Rattle.coffee_volume.specs.Cuts.{MendsToFiles}
use Rattle.image_model.specs.Images.{files_of_image}
use Rattle.space_model.specs.FileNames.{tree_file}
use Rattle.stored.specs.CutTables.{IsCutTable}
use Rattle.stored_mend.specs.Reported.{bytes_by_name, index_seen}

-- files lack the tree of a name, which an index in their catalog has, and a cut can have left them
pub record MayLack (files : Table) (name : List ℕ) : Type 0 where
  pub slot : ℕ
  pub below : slot < 8
  pub named : name ≡ tree_file slot
  pub asked : is_tree (index_seen files slot) ≡ true
  pub cut : IsCutTable files

-- ---- what is given up

-- the tree of the index in a slot is gone from files, and all others are as they were
pub record IsTreeRemoved (old new : Table) (slot : ℕ) : Type 0 where
  pub below : slot < 8
  pub asked : is_tree (index_seen old slot) ≡ true
  pub gone : bytes_by_name (tree_file slot) new ≡ None
  pub others : (name : List ℕ) → name ≢ tree_file slot → bytes_by_name name new ≡ bytes_by_name name old

-- an image keeps the rules of files, and has the files that another mends to but for the tree of an index; a cut can have
-- left these
pub record IsGivenUp (old new : List ℕ) : Type 0 where
  pub files : Table
  pub mends_to : MendsToFiles old files
  pub sound : broken_image new ≡ None
  pub cut : IsCutTable (files_of_image new)
  pub slot : ℕ
  pub lacks : IsTreeRemoved files (files_of_image new) slot

-- an image mends to such files
pub record IsBeingGivenUp (old new : List ℕ) : Type 0 where
  pub files : Table
  pub mends_to : MendsToFiles old files
  pub others : Table
  pub still : MendsToFiles new others
  pub cut : IsCutTable others
  pub slot : ℕ
  pub lacks : IsTreeRemoved files others slot

-- an image keeps the rules of files, and has the files that another mends to, or these but for the tree of an index; a cut
-- can have left them
pub record IsSettledTo (old new : List ℕ) : Type 0 where
  pub files : Table
  pub mends_to : MendsToFiles old files
  pub sound : broken_image new ≡ None
  pub cut : IsCutTable (files_of_image new)
  pub kept : (files_of_image new ≡ files) ⊎ ((slot : ℕ) × IsTreeRemoved files (files_of_image new) slot)

-- ---- what is not

-- the record that was found torn is torn in an image
abbrev pub IsStillTorn : List ℕ → Trouble → Type 0
IsStillTorn image trouble = (torn : TornRecord) → trouble.torn ≡ Some torn → IsTornAt image torn.log.0 torn.place

-- the file of a torn record is no tree that the other files may lack
pub record IsNeeded (image : List ℕ) (torn : TornRecord) : Type 0 where
  pub file : FileAt
  pub of : IsTornOf image torn file
  pub needed : MayLack (files_of_image (discarded image file torn.log)) file.name → ⊥

-- so it is where the torn record is the thirtieth of its log: no tree can be given up
abbrev pub NoneToGiveUp : List ℕ → Trouble → Type 0
NoneToGiveUp image trouble = (torn : TornRecord) → trouble.torn ≡ Some torn → torn.used ≡ 29 → IsNeeded image torn

-- this is what a cut left of an image, the file of its torn record must be copied, and no tree can be given up instead
pub record IsCopyNeeded (old new : List ℕ) (trouble : Trouble) : Type 0 where
  pub cut : IsCutBy old trouble
  pub awaits : AwaitsCopy old new trouble
  pub none : NoneToGiveUp new trouble

-- what the pages are for that a repair lacks: such a copy, or the database in files that keep the rules
abbrev pub NeedsPages : (old new : List ℕ) → Type 0
NeedsPages old new = ((trouble : Trouble) × IsCopyNeeded old new trouble) ⊎ (broken_image new ≡ None)
