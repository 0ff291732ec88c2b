-- The files that an image stands for are those of the table that holds it.
use Rattle.std.proofs.Common.{◌≡◌, inl, inr, ℕ, zero, suc, ◌<◌, List, [], ◌∷◌, length, get_or, map, None, refl, ap, sym, ◌∙◌, arith}
use Rattle.std.specs.List.{Contains}
use Rattle.coffee_layout.specs.Files.{NamedFile, Placed, files_in, files_of, named_file}
use Rattle.coffee_layout.specs.Tiling.{units_of}
use Rattle.coffee_layout.specs.declared.file.FileAt.{FileAt}
use Rattle.coffee_merge.specs.Holding.{Entries, HoldsTable, IsIn}
use Rattle.coffee_merge.specs.TableFiles.{file_of}
use Rattle.coffee_merge.proofs.SoundEntries.{IsAt, among_at}
use Rattle.coffee_merge.proofs.SoundHolders.{entry_among, file_holder, named_is, placed}
use Rattle.coffee_merge.proofs.SoundUnits.{Among}

at_contains : (make : Placed → NamedFile) (fs : List Placed) (i : ℕ) (f : Placed) (d : NamedFile) → IsAt fs i f → (i < length (map make fs)) × (get_or (map make fs) i d ≡ make f)
at_contains make [] i f d a = absurd a
at_contains make (x ∷ xs) zero f d a = (omega arith, ap make a)
at_contains make (x ∷ xs) (suc i) f d a = let r = at_contains make xs i f d a in (omega arith, r.1)

contains_among : (make : Placed → NamedFile) (fs : List Placed) (i : ℕ) (n : NamedFile) → i < length (map make fs) → get_or (map make fs) i n ≡ n → (f : Placed) × Among f fs × (n ≡ make f)
contains_among make [] i n l e = absurd (omega arith)
contains_among make (x ∷ xs) zero n l e = (x, inl refl, sym e)
contains_among make (x ∷ xs) (suc i) n l e = let r = contains_among make xs i n (omega arith) e in let a : Among (r.0) (x ∷ xs) = inr r.1 in (r.0, a, r.2)

-- the file of each entry
pub entry_file : (image : List ℕ) (table : Entries) (i : ℕ) (e : FileAt) → HoldsTable image table None → IsIn table i e → Contains (files_of image) (file_of image e)
entry_file image table i e holds is =
    let at = among_at (files_in (units_of image)) (placed e) (entry_among image table i e holds is) in
    let r = at_contains (named_file image) (files_in (units_of image)) at.0 (placed e) (file_of image e) at.1 in
    (at.0, r.0, r.1 ∙ named_is image e (holds.stored i e is))

-- and no other
pub file_entry : (image : List ℕ) (table : Entries) (f : NamedFile) → HoldsTable image table None → Contains (files_of image) f → (i : ℕ) × (e : FileAt) × IsIn table i e × (f ≡ file_of image e)
file_entry image table f holds has =
    let r = contains_among (named_file image) (files_in (units_of image)) has.0 f has.1 has.2 in
    let by = file_holder image table r.0 holds r.1 in
    (by.place, by.entry, by.is_in, r.2 ∙ ap (named_file image) by.is ∙ named_is image by.entry (holds.stored by.place by.entry by.is_in))
