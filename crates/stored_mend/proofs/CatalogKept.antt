-- Steps that change the file of the catalog, and what the files mend to afterwards.
use Rattle.std.proofs.Common.{◌≡◌, ◌≢◌, inl, inr, ℕ, ◌+◌, ◌*◌, ◌<◌, ◌≤◌, Bool, true, false, List, [], ◌++◌, length, drop, take, Option, Some, None, IsTrue, refl, ap, sym, subst, ◌∙◌, arith, length-append}
use Rattle.std.specs.Prelude.{◌==◌, if◌then◌else◌, IfNone, IfSome, get_or, is_some, nat_lt, option_map, slice_index, slice_range}
use Rattle.std.proofs.Math.Logic.{⊎_elim}
use Rattle.std.proofs.lemmas.Bool.{cases_eq}
use Rattle.std.proofs.lemmas.List.{length-take-le}
use Rattle.afl_base.specs.Fields.{put_at}
use Rattle.afl_base.specs.Files.{Appends, Becomes, IsNamed, IsUnnamed, KeepsBytes, Overwrites, State, Table, bytes_at, size_at}
use Rattle.afl_base.proofs.FieldLaws.{length-put_at}
use Rattle.afl_base.proofs.FileLaws.{becomes_then, named_live, names_stay, place_live}
use Rattle.afl_base.proofs.FrameLaws.{becomes_as}
use Rattle.catalog.specs.Rules.{catalog_bytes_in, is_tree}
use Rattle.catalog.proofs.Decoding.{length-attributes}
use Rattle.catalog.proofs.Named.{named_found, named_none}
use Rattle.padded.proofs.Facts.{lt_true}
use Rattle.db_model.specs.declared.schemas.Schema.{Schema}
use Rattle.db_model.specs.Catalog.{index_at, index_slot_bytes, relation_at, relation_slot_bytes, relation_slot_of, schema_of, version_of}
use Rattle.db_model.specs.Database.{Database}
use Rattle.space_model.specs.FileNames.{bytes_in_file, bytes_named, catalog_file, is_there, rows_file, tree_file}
use Rattle.stored.specs.CutTables.{IsSlot}
use Rattle.stored.specs.Mended.{mended_base, mended_version, standing, whole_bytes, whole_catalog}
use Rattle.stored.proofs.CatalogParts.{IsFrontPart, overwritten_cleared, overwritten_index, relation_not_changed}
use Rattle.stored.proofs.MendedBase.{alike_is, base_same_slots, index_mended, index_stays, index_waits, relation_mended_at, relation_read, relation_stays, version_mended, whole_long, whole_short}
use Rattle.stored.proofs.MendedTables.{AreRowsKept, ReadsIndex, ReadsRelation, ReadsSame, mended_alike}
use Rattle.stored.specs.declared.half.Half.{Half}
use Rattle.stored_mend.specs.Mending.{HasInSlot, IsStrangeSlot, IsWholeCatalog, KeepsBase, MendsAsBefore, WantsMark}
use Rattle.stored_mend.proofs.CatalogRead.{appended_reads, taken_back, version_by, version_marked}
use Rattle.stored_mend.proofs.OneFile.{becomes_changes, catalog_changed}
use Rattle.stored.proofs.MendedTables.{read_schema as schema_read}

-- ---- steps

pub mends_same : (a : State) → MendsAsBefore a a
mends_same a = record { base = λ told. refl; draft = refl; tells = refl }

pub mends_then : (a b c : State) → MendsAsBefore a b → MendsAsBefore b c → MendsAsBefore a c
mends_then a b c f g = record {
  base = λ told. g.base (f.tells ∙ told) ∙ f.base told;
  draft = g.draft ∙ f.draft;
  tells = g.tells ∙ f.tells;
}

pub mends_kept : (a b : State) → KeepsBase a b → MendsAsBefore a b
mends_kept a b k = record { base = k.base; draft = k.draft; tells = k.tells }

-- ---- the file of the catalog

pub catalog_before : (files : Table) (cat : ℕ) → IsWholeCatalog files cat → catalog_bytes_in files ≡ bytes_at files cat
catalog_before files cat w = ap bytes_in_file (named_found files cat catalog_file w.named w.only ∙ place_live files cat (named_live files cat catalog_file w.named))

pub whole_found : (files : Table) (cat : ℕ) → IsWholeCatalog files cat → whole_catalog files ≡ bytes_at files cat
whole_found files cat w = ap whole_bytes (catalog_before files cat w) ∙ whole_long (bytes_at files cat) w.long

-- one that is absent, or shorter than a whole one
pub catalog_none : (files : Table) → IsUnnamed files catalog_file → whole_catalog files ≡ []
catalog_none files none = ap whole_bytes (ap bytes_in_file (named_none files catalog_file none)) ∙ whole_short [] (omega arith)

pub catalog_short : (files : Table) (cat : ℕ) → IsNamed files cat catalog_file → ((k : ℕ) → IsNamed files k catalog_file → k ≡ cat) → size_at files cat < 1472 → whole_catalog files ≡ []
catalog_short files cat named only short =
    ap whole_bytes (ap bytes_in_file (named_found files cat catalog_file named only ∙ place_live files cat (named_live files cat catalog_file named))) ∙ whole_short (bytes_at files cat) short

-- what is said where there is none
pub none_given : {T : Type 0} (o : Option T) (P : Type 0) → P → IfNone o P
none_given None P p = p
none_given (Some x) P p = tt

-- what a relation's slot is read as, by its bytes
pub slot_given : (o : Option (Option Schema)) (state : State) (cat slot : ℕ) (bytes : List ℕ) → IsWholeCatalog state.files cat → IfSome o (λ r. r ≡ relation_slot_of bytes)
    → (IsTrue state.tells → bytes ≡ slice_range (bytes_at state.files cat) (176 * slot) (176 * slot + 176)) → IfSome o (HasInSlot state slot)
slot_given None state cat slot bytes w is read = tt
slot_given (Some r) state cat slot bytes w is read = λ told.
    ap (λ (xs : List ℕ). relation_at xs slot) (whole_found state.files cat w) ∙ ap relation_slot_of (sym (read told)) ∙ sym is

-- and what it is where it is none that a cut leaves
pub slot_strange : (o : Option (Option Schema)) (files : Table) (cat slot : ℕ) (bytes : List ℕ) → IsWholeCatalog files cat
    → IfNone o ((half : Half) (version k : ℕ) → IsSlot half version k bytes (relation_slot_of bytes) → ⊥)
    → bytes ≡ slice_range (bytes_at files cat) (176 * slot) (176 * slot + 176) → IfNone o (IsStrangeSlot files slot)
slot_strange (Some r) files cat slot bytes w strange read = tt
slot_strange None files cat slot bytes w strange read = λ half version s.
    strange half version slot (subst (λ (xs : List ℕ). IsSlot half version slot xs (relation_slot_of xs))
    (ap (λ (xs : List ℕ). slice_range xs (176 * slot) (176 * slot + 176)) (whole_found files cat w) ∙ sym read) s)

-- the number that a slot was made of
pub slot_is : (n id : ℕ) → Some id ≡ (if nat_lt n 8 then Some n else None) → id ≡ n
slot_is n id e = by_test (nat_lt n 8) e
  where
    by_test : (b : Bool) → Some id ≡ (if b then Some n else None) → id ≡ n
    by_test true e = cc
    by_test false e = cc

-- a slot below 8 has a number
pub slot_number : (n : ℕ) → n < 8 → (o : Option ℕ) → ((id : ℕ) → o ≡ Some id → ⊥) → o ≡ (if nat_lt n 8 then Some n else None) → ⊥
slot_number n below o none e = none n (e ∙ ap (λ (b : Bool). if b then Some n else None) (lt_true n 8 below))

-- the bytes that a step leaves, before and behind which room was made

pub prepared_appends : (a b c : State) (id : ℕ) (bytes : List ℕ) → KeepsBytes a b id → Appends b c id bytes → Appends a c id bytes
prepared_appends a b c id bytes k o =
    becomes_as a c id (size_at b.files id + length bytes) (size_at a.files id + length bytes) (bytes_at b.files id ++ bytes) (bytes_at a.files id ++ bytes)
    (becomes_then a b c id (size_at a.files id) (size_at b.files id + length bytes) (bytes_at a.files id) (bytes_at b.files id ++ bytes) k o)
    (ap (λ (n : ℕ). n + length bytes) k.size) (λ told. ap (λ (xs : List ℕ). xs ++ bytes) (k.bytes told))

-- ---- a catalog that has changed

module _ (old new : State) (cat total : ℕ) (told : List ℕ) (w : IsWholeCatalog old.files cat) (b : Becomes old new cat total told) where
  before : catalog_bytes_in old.files ≡ bytes_at old.files cat
  before = catalog_before old.files cat w

  pub after : IsTrue old.tells → catalog_bytes_in new.files ≡ told
  after t =
      let names = names_stay old new cat total told (named_live old.files cat catalog_file w.named) b in
      ap bytes_in_file (named_found new.files cat catalog_file (names cat ∙ w.named) (λ k h. w.only k (sym (names k) ∙ h)) ∙ place_live new.files cat b.live) ∙ b.bytes t

  others : AreRowsKept old.files new.files
  others = catalog_changed old.files new.files (becomes_changes old new cat total told catalog_file b w.named)

  versions : IsTrue old.tells → mended_version (whole_bytes told) ≡ mended_version (whole_bytes (bytes_at old.files cat)) → (mended_base new.files).version ≡ (mended_base old.files).version
  versions t same =
      version_mended new.files ∙ ap (λ (xs : List ℕ). mended_version (whole_bytes xs)) (after t) ∙ same ∙ sym (ap (λ (xs : List ℕ). mended_version (whole_bytes xs)) before) ∙ sym (version_mended old.files)

  -- all slots are read as before
  same_base : IsTrue old.tells → ReadsSame (bytes_at old.files cat) told → mended_version (whole_bytes told) ≡ mended_version (whole_bytes (bytes_at old.files cat)) → mended_base new.files ≡ mended_base old.files
  same_base t s same =
      let now = subst (ReadsSame (bytes_at old.files cat)) (sym (after t)) s in
      alike_is (mended_base new.files) (mended_base old.files)
      (mended_alike old.files new.files (subst (λ (xs : List ℕ). ReadsSame xs (catalog_bytes_in new.files)) (sym before) now) others.rows others.trees)
      (versions t same)

  -- an index whose tree is not there is gone from its slot
  blank_base : (slot : ℕ) → IsTrue old.tells → ReadsIndex (bytes_at old.files cat) told slot None → is_tree (index_at (bytes_at old.files cat) slot) ≡ true → is_there (tree_file slot) old.files ≡ false
      → mended_version (whole_bytes told) ≡ mended_version (whole_bytes (bytes_at old.files cat)) → mended_base new.files ≡ mended_base old.files
  blank_base slot t s tree gone same =
      let was : whole_catalog old.files ≡ whole_bytes (bytes_at old.files cat) = ap whole_bytes before in
      let now : whole_catalog new.files ≡ whole_bytes told = ap whole_bytes (after t) in
      let long : whole_bytes (bytes_at old.files cat) ≡ bytes_at old.files cat = whole_long (bytes_at old.files cat) w.long in
      let here : index_mended new.files slot ≡ index_mended old.files slot =
      ap (λ (xs : List ℕ). standing new.files slot (index_at xs slot)) now ∙ ap (standing new.files slot) s.here
      ∙ sym (index_waits old.files slot (index_at (whole_catalog old.files) slot) (ap (λ (xs : List ℕ). is_tree (index_at xs slot)) (was ∙ long) ∙ tree) gone) in
      alike_is (mended_base new.files) (mended_base old.files)
      (base_same_slots old.files new.files
      (λ k below. relation_stays old.files new.files k
      (ap (λ (xs : List ℕ). relation_at xs k) now ∙ s.relations k below ∙ ap (λ (xs : List ℕ). relation_at xs k) (sym was)) (others.rows k below))
      (λ i below. ⊎_elim
      (λ (e : i ≡ slot). subst (λ (j : ℕ). index_mended new.files j ≡ index_mended old.files j) (sym e) here)
      (λ (differs : i ≢ slot). index_stays old.files new.files i
      (ap (λ (xs : List ℕ). index_at xs i) now ∙ s.indexes i below differs ∙ ap (λ (xs : List ℕ). index_at xs i) (sym was)) (others.trees i below))
      (cases_eq i slot)))
      (versions t same)

-- catalogs of one length whose relations are read as the same
version_long : (old now : List ℕ) → 1472 ≤ length old → length now ≡ length old → ((k : ℕ) → k < 8 → relation_at (whole_bytes now) k ≡ relation_at (whole_bytes old) k)
    → mended_version (whole_bytes now) ≡ mended_version (whole_bytes old)
version_long old now long size relations =
    let whole : whole_bytes now ≡ now = whole_long now (omega (arith, size, long)) in
    let before : whole_bytes old ≡ old = whole_long old long in
    version_by (whole_bytes now) (whole_bytes old) relations (ap version_of whole ∙ ap (λ (n : ℕ). if n == 1472 then 1 else 2) size ∙ ap version_of (sym before))

-- ---- the mark

-- some of it is written where the catalog is of version 2 as it stands
pub mark_grown : (old new : State) (cat : ℕ) (more : List ℕ) → IsWholeCatalog old.files cat → Appends old new cat more → size_at old.files cat + length more ≢ 1472
    → WantsMark old → MendsAsBefore old new
mark_grown old new cat more w a some version = record {
  base = λ t.
      let was : List ℕ = bytes_at old.files cat in
      let long = w.long in
      let size : length (was ++ more) ≡ size_at old.files cat + length more = length-append was more in
      let whole : whole_bytes (was ++ more) ≡ was ++ more = whole_long (was ++ more) (omega (arith, size, long)) in
      same_base old new cat (size_at old.files cat + length more) (was ++ more) w a t (appended_reads was more w.long)
      (ap mended_version whole ∙ version_marked (was ++ more) (λ e. some (sym size ∙ e)) ∙ sym (version t) ∙ ap mended_version (ap whole_bytes (catalog_before old.files cat w)));
  draft = a.draft;
  tells = a.tells;
}

-- so it is with the rest of it
pub mark_kept : (old new : State) (cat : ℕ) (more : List ℕ) → IsWholeCatalog old.files cat → Appends old new cat more → size_at old.files cat + length more ≡ 1480
    → WantsMark old → MendsAsBefore old new
mark_kept old new cat more w a all version = mark_grown old new cat more w a (λ e. absurd (omega (arith, e, all))) version

pub marked_in_part : (files : Table) (cat : ℕ) → IsWholeCatalog files cat → size_at files cat ≢ 1472 → mended_version (whole_catalog files) ≡ 2
marked_in_part files cat w differs = ap mended_version (whole_found files cat w) ∙ version_marked (bytes_at files cat) differs

-- ---- slots

-- a slot without a name is emptied, or a front part of it up to where a region ends
pub emptied_front : (old new : State) (cat slot n : ℕ) → IsWholeCatalog old.files cat → slot < 8 → n ≤ 176 → IsFrontPart (176 * slot) 176 n
    → Overwrites old new cat (176 * slot) (take n (relation_slot_bytes None)) → HasInSlot old slot None → MendsAsBefore old new
emptied_front old new cat slot n w below few front o unused = record {
  base = λ t.
      let was : List ℕ = bytes_at old.files cat in
      let part : List ℕ = take n (relation_slot_bytes None) in
      let now : List ℕ = put_at was (176 * slot) part in
      let none : relation_at (whole_bytes was) slot ≡ None = ap (λ (xs : List ℕ). relation_at (whole_bytes xs) slot) (sym (catalog_before old.files cat w)) ∙ unused t in
      let reads : ReadsSame was now = ⊎_elim
      (λ (s : ReadsSame was now). s)
      (λ (s : ReadsRelation was now slot None). relation_not_changed was now slot None s none)
      (overwritten_cleared was slot n w.long below few front) in
      same_base old new cat (size_at old.files cat) now w o t reads
      (version_long was now w.long (length-put_at was part (176 * slot) (room w.long)) reads.relations);
  draft = o.draft;
  tells = o.tells;
}
  where
    room : 1472 ≤ size_at old.files cat → 176 * slot + length (take n (relation_slot_bytes None)) ≤ size_at old.files cat
    room long = let size = length-take-le n (relation_slot_bytes None) few in omega (arith, long, below, few, size)

pub emptied_kept : (old new : State) (cat slot : ℕ) → IsWholeCatalog old.files cat → slot < 8 → Overwrites old new cat (176 * slot) (relation_slot_bytes None)
    → HasInSlot old slot None → MendsAsBefore old new
emptied_kept old new cat slot w below o unused = emptied_front old new cat slot 176 w below (omega arith) (inr (inl refl)) o unused

-- as many attributes as their number says
attributes_counted : (slot : List ℕ) (schema : Schema) → relation_slot_of slot ≡ Some schema → slice_index slot 160 ≡ length schema.attributes
attributes_counted slot schema e = by_test (slice_index slot 0 == 0) e
  where
    by_test : (b : Bool) → (if b then None else Some (schema_of slot)) ≡ Some schema → slice_index slot 160 ≡ length schema.attributes
    by_test true e = cc
    by_test false e =
        let same : schema_of slot ≡ schema = cc in
        sym (length-attributes (slice_index slot 160) (drop 16 slot)) ∙ ap (λ (x : Schema). length x.attributes) same

-- bytes behind the attributes are taken back
pub attribute_kept : (old new : State) (cat slot at : ℕ) (part : List ℕ) (schema : Schema) → IsWholeCatalog old.files cat → slot < 8 → Overwrites old new cat at part
    → HasInSlot old slot (Some schema) → 18 * length schema.attributes + length part ≤ 144 → at ≡ 176 * slot + (16 + 18 * length schema.attributes) → MendsAsBefore old new
attribute_kept old new cat slot at part schema w below o is fills there = record {
  base = λ t.
      let was : List ℕ = bytes_at old.files cat in
      let size : length (put_at was at part) ≡ length was = length-put_at was part at (inside w.long) in
      let here : relation_at was slot ≡ Some schema = ap (λ (xs : List ℕ). relation_at xs slot) (sym (whole_found old.files cat w)) ∙ is t in
      let reads : ReadsSame was (put_at was at part) =
      taken_back was part slot (length schema.attributes) w.long below (attributes_counted (slice_range was (176 * slot) (176 * slot + 176)) schema here) fills at there size in
      same_base old new cat (size_at old.files cat) (put_at was at part) w o t reads (version_long was (put_at was at part) w.long size reads.relations);
  draft = o.draft;
  tells = o.tells;
}
  where
    inside : 1472 ≤ size_at old.files cat → at + length part ≤ size_at old.files cat
    inside long = omega (arith, fills, there, long, below)

-- an index whose tree is not there is taken back
pub index_kept : (old new : State) (cat slot : ℕ) → IsWholeCatalog old.files cat → slot < 8 → Overwrites old new cat (1408 + 8 * slot) (index_slot_bytes None)
    → (IsTrue old.tells → is_tree (index_at (bytes_at old.files cat) slot) ≡ true) → IsUnnamed old.files (tree_file slot) → MendsAsBefore old new
index_kept old new cat slot w below o tree unnamed = record {
  base = λ t.
      let was : List ℕ = bytes_at old.files cat in
      let now : List ℕ = put_at was (1408 + 8 * slot) (index_slot_bytes None) in
      let gone : is_there (tree_file slot) old.files ≡ false = ap is_some (named_none old.files (tree_file slot) unnamed) in
      let size : length now ≡ length was = length-put_at was (index_slot_bytes None) (1408 + 8 * slot) (room w.long) in
      ⊎_elim
      (λ (s : ReadsSame was now). same_base old new cat (size_at old.files cat) now w o t s (version_long was now w.long size s.relations))
      (λ (s : ReadsIndex was now slot None). blank_base old new cat (size_at old.files cat) now w o slot t s (tree t) gone (version_long was now w.long size s.relations))
      (overwritten_index was slot 8 None w.long below (omega arith) (inr (inl refl)));
  draft = o.draft;
  tells = o.tells;
}
  where
    room : 1472 ≤ size_at old.files cat → 1408 + 8 * slot + 8 ≤ size_at old.files cat
    room long = omega (arith, long, below)

-- ---- what is read of a slot stays

-- a relation that files mend to stays in its slot
pub schema_kept : (old new : State) (slot : ℕ) (schema : Schema) → MendsAsBefore old new → slot < 8 → HasInSlot old slot (Some schema) → HasInSlot new slot (Some schema)
schema_kept old new slot schema m below is = λ told.
    let t : IsTrue old.tells = sym m.tells ∙ told in
    let was : List ℕ = bytes_named (rows_file slot) old.files in
    schema_read (relation_at (whole_catalog new.files) slot) (bytes_named (rows_file slot) new.files) (relation_read was schema)
    (sym (relation_mended_at new.files slot below)
    ∙ ap (λ (db : Database). get_or db.relations slot None) (m.base t)
    ∙ relation_mended_at old.files slot below
    ∙ ap (option_map (relation_read was)) (is t))
