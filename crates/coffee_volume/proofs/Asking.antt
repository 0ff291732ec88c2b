-- What the files of a volume ask for is what those of its image do, and what they ask for and leave free after a call.
use Rattle.std.proofs.Common.{◌≡◌, ℕ, zero, suc, ◌<◌, Bool, List, [], ◌∷◌, length, get_or, map, Option, None, Some, ap, subst, sym, ◌∙◌, arith}
use Rattle.std.specs.Prelude.{false, option_map, slice_index_or, unwrap_or}
use Rattle.std.specs.List.{Contains}
use Rattle.afl_base.specs.Files.{IsLive, file_at, no_file}
use Rattle.afl_base.specs.Sparing.{TakesNoPage}
use Rattle.coffee_layout.specs.Files.{Placed, entry_of, files_in, listed}
use Rattle.coffee_layout.specs.Marks.{free_pages}
use Rattle.coffee_layout.specs.Tiling.{units_of}
use Rattle.coffee_layout.specs.declared.file.FileAt.{FileAt}
use Rattle.coffee_merge.specs.Holding.{HoldsTable, IsIn, Entries, is_free_at}
use Rattle.coffee_merge.proofs.SoundEntries.{IsAt, among_at}
use Rattle.coffee_merge.proofs.SoundHolders.{entry_among, entry_is, placed}
use Rattle.coffee_volume.specs.Asking.{AsksOf}
use Rattle.coffee_volume.specs.Rooms.{pages_asked}
use Rattle.coffee_volume.specs.Taking.{KeepsUnits}
use Rattle.coffee_volume.specs.Volumes.{Asks, EntryTable, file_seen, files_seen, places}
use Rattle.coffee_volume.proofs.Tables.{entry_of_place, entry_seen, in_places, seen_is}

at_listed : (make : Placed → FileAt) (fs : List Placed) (i : ℕ) (f : Placed) (e : FileAt) → IsAt fs i f → (i < length (map make fs)) × (get_or (map make fs) i e ≡ make f)
at_listed make [] i f e a = absurd a
at_listed make (x ∷ xs) zero f e a = (omega arith, ap make a)
at_listed make (x ∷ xs) (suc i) f e a = let r = at_listed make xs i f e a in let less = r.0 in (omega (arith, less), r.1)

-- each entry of a table that is held is listed
pub entry_listed : (image : List ℕ) (table : Entries) (i : ℕ) (e : FileAt) → HoldsTable image table None → IsIn table i e → Contains (listed image) e
entry_listed image table i e holds is =
    let at = among_at (files_in (units_of image)) (placed e) (entry_among image table i e holds is) in
    let r = at_listed (entry_of image) (files_in (units_of image)) at.0 (placed e) e at.1 in
    (at.0, r.0, r.1 ∙ entry_is image e (holds.stored i e is))

pub asked_of : (tells : Bool) (image : List ℕ) (table : EntryTable) (id overwrites bytes need : ℕ) → HoldsTable image (places table) None → IsLive (files_seen tells image table) id → Asks table id overwrites bytes need
    → AsksOf image (file_at (files_seen tells image table) id).name overwrites bytes need
asked_of tells image table id overwrites bytes need holds live asks =
    let r = entry_seen tells image table id live in
    let name : (file_at (files_seen tells image table) id).name ≡ r.0.at.name = ap (λ o. (unwrap_or o no_file).name) (seen_is tells image table id ∙ ap (option_map (file_seen tells image)) r.1) in
    (r.0.at, entry_listed image (places table) id r.0.at holds (in_places table id r.0 r.1), sym name, asks r.0 r.1)

-- tables of the same files ask alike
pub asks_alike : (old new : EntryTable) → places new ≡ places old → (id overwrites bytes need : ℕ) → Asks new id overwrites bytes need → Asks old id overwrites bytes need
asks_alike old new same id overwrites bytes need asks e is =
    let there : get_or (places new) id None ≡ Some e.at = ap (λ (t : List (Option FileAt)). get_or t id None) same ∙ in_places old id e is in
    let r = entry_of_place new id e.at there in
    subst (λ (at : FileAt). pages_asked at overwrites bytes ≡ Some need) r.2 (asks r.0 r.1)

-- where all units stay each free page does
pub units_spared : (old new : List ℕ) → KeepsUnits old new → TakesNoPage is_free_at old new
units_spared old new same page free = ap (λ units. slice_index_or (free_pages units) page false) same ∙ free
