-- An image mends to the files of a table where it is settled to one that holds them.
use Rattle.std.proofs.Common.{◌≡◌, ◌≢◌, inl, ⊎_elim, ℕ, ◌≤◌, true, List, length, Option, Some, None, refl, subst, ◌∙◌, arith, length-set}
use Rattle.std.specs.Prelude.{set}
use Rattle.std.specs.List.{Contains}
use Rattle.afl_base.specs.declared.kind.Kind.{Kind}
use Rattle.coffee_layout.specs.Files.{NamedFile, files_of}
use Rattle.coffee_layout.specs.Rules.{broken_image}
use Rattle.coffee_layout.specs.Walks.{has_few}
use Rattle.coffee_layout.specs.declared.file.FileAt.{FileAt}
use Rattle.coffee_merge.specs.Holding.{Entries, HoldsTable, IsIn, Moves, Stays}
use Rattle.coffee_merge.specs.TableFiles.{SameFiles, file_of}
use Rattle.coffee_merge.proofs.Holdings.{is_in_set}
use Rattle.coffee_merge.proofs.MovedFiles.{moves_files}
use Rattle.coffee_merge.proofs.SoundFiles.{entry_file, file_entry}
use Rattle.coffee_merge.proofs.SoundImages.{held_sound}
use Rattle.padded.proofs.Facts.{none_some, some_same}
use Rattle.coffee_cuts.specs.Cuts.{IsFound, Nothing, UnderWay, settled}
use Rattle.coffee_cuts.specs.Mending.{AreSparing, IsTable, MendsToTable}
pub use Rattle.coffee_merge.proofs.MovedFiles.{content_same as file_stays}

abbrev pub named : List ℕ → Kind → List ℕ → NamedFile
named name kind bytes = record { name = name; kind = kind; bytes = bytes }

-- by way of an image that holds the table, and has the files of the settled one
pub mends_by : (new whole mid : List ℕ) (table : Entries) (w : UnderWay) → IsFound new w → broken_image (settled new w) ≡ None → HoldsTable mid table None
    → ((i : ℕ) (e : FileAt) → IsIn table i e → file_of mid e ≡ file_of whole e) → SameFiles mid (settled new w) → MendsToTable new whole table
mends_by new whole mid table w found sound holds same files = record {
  files = files_of (settled new w);
  mends = record { under_way = w; found = found; settles = inl sound; files_are = refl };
  each = λ i e is. subst (Contains (files_of (settled new w))) (same i e is) (files.kept (file_of mid e) (entry_file mid table i e holds is));
  only = λ f has. let r = file_entry mid table f holds (files.only f has) in (r.0, r.1, r.2, r.3 ∙ same r.0 r.1 r.2);
}

-- the same files, where the image in between keeps their content
pub mends_with : (new whole mid : List ℕ) (table : Entries) (draft : Option FileAt) (w : UnderWay) → HoldsTable whole table draft → IsFound new w → broken_image (settled new w) ≡ None
    → Stays whole mid table → SameFiles mid (settled new w) → MendsToTable new whole table
mends_with new whole mid table draft w holds found sound stays files =
    mends_by new whole mid table w found sound stays.holds (λ i e is. file_stays whole mid e (holds.stored i e is) (stays.holds.stored i e is) (stays.kept i e is)) files

-- the settled image holds the table itself
pub mends_holding : (new whole : List ℕ) (table : Entries) (draft : Option FileAt) (w : UnderWay) → IsTable whole table draft → IsFound new w → Stays whole (settled new w) table → MendsToTable new whole table
mends_holding new whole table draft w t found stays =
    mends_with new whole (settled new w) table draft w t.holds found (held_sound (settled new w) table stays.holds t.few t.sparing) stays (record { kept = λ f has. has; only = λ f has. has })

-- an image that, once settled, holds a table with the content that its files have in another image
pub record SettlesHolding (new whole : List ℕ) (table : Entries) : Type 0 where
  pub way : UnderWay
  pub found : IsFound new way
  pub stays : Stays whole (settled new way) table

pub settles_by : (new whole : List ℕ) (table : Entries) (draft : Option FileAt) (w : UnderWay) → IsTable whole table draft → IsFound new w → Stays whole (settled new w) table → SettlesHolding new whole table
settles_by new whole table draft w t found stays = record { way = w; found = found; stays = stays }

pub settling_mends : (new whole : List ℕ) (table : Entries) (draft : Option FileAt) → IsTable whole table draft → SettlesHolding new whole table → MendsToTable new whole table
settling_mends new whole table draft t s = mends_holding new whole table draft s.way t s.found s.stays

pub whole_settles : (whole : List ℕ) (table : Entries) → IsTable whole table None → SettlesHolding whole whole table
whole_settles whole table t = settles_by whole whole table None Nothing t tt (record { holds = t.holds; kept = λ i e is p within. refl })

-- nothing is under way
pub whole_mends : (whole : List ℕ) (table : Entries) → IsTable whole table None → MendsToTable whole whole table
whole_mends whole table t = mends_holding whole whole table None Nothing t tt (record { holds = t.holds; kept = λ i e is p within. refl })

-- ANOTHER TABLE

pub sparing_set : (table : Entries) (i : ℕ) (to : FileAt) → AreSparing table → has_few to ≡ true → AreSparing (set table i (Some to))
sparing_set table i to sparing few = λ k e at. ⊎_elim
    (λ (a : (k ≡ i) × (Some to ≡ Some e)). subst (λ x. has_few x ≡ true) (some_same to e a.1) few)
    (λ (a : (k ≢ i) × IsIn table k e). sparing k e a.1)
    (is_in_set table i (Some to) k e at)

pub sparing_without : (table : Entries) (i : ℕ) → AreSparing table → AreSparing (set table i None)
sparing_without table i sparing = λ k e at. ⊎_elim
    (λ (a : (k ≡ i) × (None ≡ Some e)). absurd (none_some e a.1))
    (λ (a : (k ≢ i) × IsIn table k e). sparing k e a.1)
    (is_in_set table i None k e at)

-- the settled image holds the table with another entry for one of its files, which is the same to users
pub mends_moved : (new whole mid : List ℕ) (table : Entries) (draft : Option FileAt) (w : UnderWay) (i : ℕ) (from to : FileAt) → IsTable whole table draft → IsFound new w → Stays whole mid table → IsIn table i from
    → has_few to ≡ true → Moves mid (settled new w) table i from to → to.name ≡ from.name → to.kind ≡ from.kind → to.size ≡ from.size → MendsToTable new whole table
mends_moved new whole mid table draft w i from to t found stays is few moves name kind size =
    let count = t.few in
    let long = length-set table i (Some to) in
    mends_with new whole mid table draft w t.holds found
    (held_sound (settled new w) (set table i (Some to)) moves.sets.holds (omega (arith, count, long)) (sparing_set table i to t.sparing few))
    stays (moves_files mid (settled new w) table i from to stays.holds is moves name kind size)

-- the settled image holds another table, whose files are as they were
pub mends_after : (new whole : List ℕ) (after : Entries) (w : UnderWay) → IsFound new w → HoldsTable (settled new w) after None → length after ≤ 32 → AreSparing after
    → ((k : ℕ) (f : FileAt) → IsIn after k f → file_of (settled new w) f ≡ file_of whole f) → MendsToTable new whole after
mends_after new whole after w found holds few sparing same =
    mends_by new whole (settled new w) after w found (held_sound (settled new w) after holds few sparing) holds same (record { kept = λ f has. has; only = λ f has. has })

-- two tables of the same files
pub mends_same : (new whole : List ℕ) (table after : Entries) → ((i : ℕ) (e : FileAt) → IsIn table i e → (k : ℕ) × (f : FileAt) × IsIn after k f × (file_of whole f ≡ file_of whole e))
    → ((k : ℕ) (f : FileAt) → IsIn after k f → (i : ℕ) × (e : FileAt) × IsIn table i e × (file_of whole f ≡ file_of whole e)) → MendsToTable new whole after → MendsToTable new whole table
mends_same new whole table after there back m = record {
  files = m.files;
  mends = m.mends;
  each = λ i e is. let r = there i e is in subst (Contains m.files) r.3 (m.each r.0 r.1 r.2);
  only = λ f has. let r = m.only f has in let s = back r.0 r.1 r.2 in (s.0, s.1, s.2, r.3 ∙ s.3);
}

-- the files as another image has them
pub mends_as : (new old whole : List ℕ) (table : Entries) → ((i : ℕ) (e : FileAt) → IsIn table i e → file_of whole e ≡ file_of old e) → MendsToTable new whole table → MendsToTable new old table
mends_as new old whole table same m = record {
  files = m.files;
  mends = m.mends;
  each = λ i e is. subst (Contains m.files) (same i e is) (m.each i e is);
  only = λ f has. let r = m.only f has in (r.0, r.1, r.2, r.3 ∙ same r.0 r.1 r.2);
}
