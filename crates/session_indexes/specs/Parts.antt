-- What the files may be after a command on indexes broke off.
use Rattle.std.specs.Prelude.{◌⊎◌, ℕ, ◌+◌, ◌*◌, List, Option, Some, None}
use Rattle.afl_base.specs.Files.{State}
use Rattle.catalog.specs.CatalogFile.{MayReplace}
use Rattle.db_model.specs.declared.schemas.IndexKind.{IndexKind}
use Rattle.db_model.specs.declared.schemas.IndexKind.TheVariants.{Inline, MaxHeap, MemHash}
use Rattle.db_model.specs.Catalog.{Index, index_slot_bytes}
use Rattle.tuple_file.specs.declared.tuples.Tuples.{Tuples}
use Rattle.session_model.specs.declared.held.Indexed.{Indexed}
use Rattle.session_indexes.specs.declared.sites.Site.{Site}
use Rattle.session_indexes.specs.Made.{IsUnrefused, index_for, keys_at}
use Rattle.session_indexes.specs.Removed.{IsTaken}
use Rattle.session_indexes.specs.Trees.{PutsTree}

-- the catalog was being changed in an index slot, and no other file has changed
abbrev pub MayPut : (old after : State) (cat slot : ℕ) → Option Index → Type 0
MayPut old after cat slot index = MayReplace old after cat (1408 + 8 * slot) (index_slot_bytes index)

-- the catalog was being changed, or the tree is there as well
abbrev pub MayPutTree : (old after : State) (cat : ℕ) → Tuples → Site → Type 0
MayPutTree old after cat t site =
    MayPut old after cat site.slot (Some (index_for site MaxHeap)) ⊎ ((file : ℕ) × PutsTree old after cat t site file)

-- an index of a kind was being made
abbrev pub MayMake : (old after : State) (cat : ℕ) → Tuples → Site → IndexKind → Type 0
MayMake old after cat t site Inline = MayPut old after cat site.slot (Some (index_for site Inline))
MayMake old after cat t site MaxHeap = MayPutTree old after cat t site
MayMake old after cat t site MemHash = MayPut old after cat site.slot (Some (index_for site MemHash))

-- it was begun only where the kind refuses nothing
pub record IsMadeInPart (old after : State) (xs : List (Option Indexed)) (cat : ℕ) (t : Tuples) (site : Site) (kind : IndexKind) : Type 0 where
  pub unrefused : IsUnrefused kind xs (keys_at old t site)
  pub left : MayMake old after cat t site kind

-- the catalog was being changed, or the slot is empty and no file has the name of its tree
abbrev pub MayTakeIndexSlot : (old after : State) (cat slot : ℕ) → Type 0
MayTakeIndexSlot old after cat slot = MayPut old after cat slot None ⊎ IsTaken old after cat slot
