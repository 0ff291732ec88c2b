-- Index slots of files that a cut left, repaired one by one.
use Rattle.std.proofs.Common.{◌≡◌, ◌≢◌, inl, inr, ⊎_elim, ℕ, ◌+◌, ◌*◌, ◌<◌, ◌≤◌, true, false, List, length, drop, Some, None, IsTrue, ap, sym, subst, ◌∙◌, arith}
use Rattle.std.specs.Prelude.{slice_range}
use Rattle.std.proofs.lemmas.Bool.{cases_eq}
use Rattle.afl_base.specs.Fields.{put_at}
use Rattle.afl_base.specs.Files.{Overwrites, State, Table}
use Rattle.catalog.specs.Rules.{breaks_index, catalog_bytes_in, has_form, is_tree}
use Rattle.db_model.specs.declared.schemas.Schema.{Schema}
use Rattle.db_model.specs.Catalog.{index_at, index_slot_bytes, version_of}
use Rattle.space_model.specs.FileNames.{bytes_in_file, bytes_named, is_there, rows_file, tree_file}
use Rattle.stored.specs.CutTables.{HasMark, IsBegun, IsBehindSlot, IsCutTable, IsHalfDone, IsMarkedInPart, IsSlot, IsTimed, index_read, relation}
use Rattle.stored.specs.Mended.{mended_base, mended_catalog, whole_bytes, whole_catalog}
use Rattle.stored.specs.declared.half.Half.{Half}
use Rattle.stored.specs.declared.half.Half.TheVariants.{Nothing}
use Rattle.stored.proofs.MendedBase.{whole_long}
use Rattle.stored_mend.specs.Listed.{IsListedTo, IsMarked, IsMarkedTo, indexes_below}
use Rattle.stored_mend.specs.Mending.{IsWholeCatalog}
use Rattle.stored_mend.proofs.CatalogKept.{after, catalog_before}
use Rattle.stored_mend.proofs.HalfKept.{edited, index_at_slot, timed_same, version_same}
use Rattle.stored_mend.proofs.HalfSettled.{index_settled}
use Rattle.stored_mend.proofs.IndexBlank.{blanked, blanked_form, blanked_here, blanked_index, blanked_other, blanked_size, blanked_slot, blanked_version}
use Rattle.stored_mend.proofs.ListedSteps.{KeepsFiles, done_of}
use Rattle.stored_mend.proofs.OneFile.{catalog_no_rows}
use Rattle.stored_mend.proofs.PutOver.{drop_behind}

-- an index has its tree, or none that it needs
pub index_listed : (files : Table) (cat slot : ℕ) → IsWholeCatalog files cat → (is_tree (index_read files slot) ≡ true → is_there (tree_file slot) files ≡ true)
    → IsListedTo (indexes_below slot) files → IsListedTo (indexes_below (slot + 1)) files
index_listed files cat slot w has l =
    let done = done_of files cat (indexes_below slot) w l in
    record { known = l.known; left = inr (index_settled files slot has done.0 done.1) }

-- the catalog's bytes say that it has one
pub tree_in_bytes : (files : Table) (cat slot : ℕ) → slot < 8 → IsWholeCatalog files cat → is_tree (index_read files slot) ≡ true → is_tree (index_at (catalog_bytes_in files) slot) ≡ true
tree_in_bytes files cat slot below w tree =
    let e = ap (λ (xs : List ℕ). length xs) (catalog_before files cat w) in
    let long = w.long in
    ap (λ (xs : List ℕ). is_tree (index_at xs slot)) (sym (whole_long (catalog_bytes_in files) (omega (arith, e, long)))) ∙ sym (ap is_tree (index_at_slot files slot below)) ∙ tree

-- an index is gone whose tree is not there
module _ (old new : State) (cat slot : ℕ) (below : slot < 8) (told : IsTrue old.tells) (w : IsWholeCatalog old.files cat) (k : KeepsFiles old new)
    (o : Overwrites old new cat (1408 + 8 * slot) (index_slot_bytes None)) (gone : is_there (tree_file slot) old.files ≡ false) where
  abbrev was : List ℕ
  was = catalog_bytes_in old.files

  long : 1472 ≤ length was
  long = let e = ap (λ (xs : List ℕ). length xs) (catalog_before old.files cat w) in let many = w.long in omega (arith, e, many)

  now_is : catalog_bytes_in new.files ≡ blanked was slot long below
  now_is = after old new cat _ _ w o told ∙ ap (λ (xs : List ℕ). put_at xs (1408 + 8 * slot) (index_slot_bytes None)) (sym (catalog_before old.files cat w))

  size : length (catalog_bytes_in new.files) ≡ length was
  size = ap (λ (xs : List ℕ). length xs) now_is ∙ blanked_size was slot long below

  whole_now : whole_catalog new.files ≡ blanked was slot long below
  whole_now = ap whole_bytes now_is ∙ whole_long (blanked was slot long below) (let s = blanked_size was slot long below in omega (arith, s, long))

  whole_was : whole_catalog old.files ≡ was
  whole_was = whole_long was long

  base : mended_base new.files ≡ mended_base old.files
  base = k.base told

  used_rows : (j : ℕ) (schema : Schema) → relation old.files j ≡ Some schema → bytes_named (rows_file j) new.files ≡ bytes_named (rows_file j) old.files
  used_rows j schema is = ap bytes_in_file (k.spares.files (rows_file j) (λ e. catalog_no_rows j (sym e)))

  marked_now : IsMarked old.files → IsMarked new.files
  marked_now marked = (
    ap has_form now_is ∙ blanked_form was slot long below ∙ marked.0,
    ap version_of now_is ∙ blanked_version was slot long below ∙ marked.1 ∙ sym (version_same old.files new.files base),
  )

  marked_to : (n : ℕ) → IsMarkedTo old.files n → IsMarkedTo new.files n
  marked_to n m = ⊎_elim
      (λ (marked : IsMarked old.files). inl (marked_now marked))
      (λ (timed : (t : IsTimed old.files) × (n ≤ t.k)). inr (timed_same old.files new.files base size used_rows timed.0, timed.1))
      m

  module _ (half : Half) (h : IsHalfDone old.files half) where
    mark_now : HasMark new.files half
    mark_now = ⊎_elim
        (λ (marked : IsMarked old.files). inl (marked_now marked))
        (λ rest. inr (⊎_elim
        (λ (part : IsMarkedInPart was × IsBehindSlot half). inl (part_now part.0, part.1))
        (λ (timed : IsTimed old.files × (half ≡ Nothing)). inr (timed_same old.files new.files base size used_rows timed.0, timed.1))
        rest))
        h.mark
      where
        part_now : IsMarkedInPart was → IsMarkedInPart (catalog_bytes_in new.files)
        part_now part = record { n = part.n; some = part.some; size = size ∙ part.size; front = ap (drop 1472) now_is ∙ drop_behind was (index_slot_bytes None) (1408 + 8 * slot) 1472 (omega (arith, below)) (omega (arith, long, below)) ∙ part.front }

    blanked_half : IsHalfDone new.files half
    blanked_half =
        edited old.files new.files base half h k.spares.files (omega (arith, size, long)) mark_now
        (λ j inside. subst (λ (xs : List ℕ). IsSlot half (mended_catalog old.files).version j xs (relation old.files j))
        (sym (ap (λ (xs : List ℕ). slice_range xs (176 * j) (176 * j + 176)) whole_now ∙ blanked_slot was slot long below j inside ∙ ap (λ (xs : List ℕ). slice_range xs (176 * j) (176 * j + 176)) (sym whole_was)))
        (h.slots j inside))
        (λ i inside. ap (λ (xs : List ℕ). breaks_index xs i) whole_now ∙ blanked_index was slot long below i (ap (λ (xs : List ℕ). breaks_index xs i) (sym whole_was) ∙ h.indexes i inside))
        (λ i inside. ⊎_elim
        (λ (same : i ≡ slot). inr (
          index_at_slot new.files i inside ∙ ap (λ (xs : List ℕ). index_at xs i) whole_now ∙ ap (index_at (blanked was slot long below)) same ∙ blanked_here was slot long below,
          ap (λ (j : ℕ). is_there (tree_file j) old.files) same ∙ gone,
        ))
        (λ (differs : i ≢ slot). inl (index_at_slot new.files i inside ∙ ap (λ (xs : List ℕ). index_at xs i) whole_now ∙ blanked_other was slot long below i differs ∙ ap (λ (xs : List ℕ). index_at xs i) (sym whole_was) ∙ sym (index_at_slot old.files i inside)))
        (cases_eq i slot))

  pub blanked_listed : IsListedTo (indexes_below slot) old.files → IsListedTo (indexes_below (slot + 1)) new.files
  blanked_listed l =
      let done = done_of old.files cat (indexes_below slot) w l in
      let none : index_read new.files slot ≡ None = index_at_slot new.files slot below ∙ ap (λ (xs : List ℕ). index_at xs slot) whole_now ∙ blanked_here was slot long below in
      record {
        known = λ id. k.known id ∙ l.known id;
        left = inr (index_settled new.files slot (λ tree. let no : false ≡ true = sym (ap is_tree none) ∙ tree in absurd (cc)) done.0
            (record { done = blanked_half done.0 done.1.done; ahead = done.1.ahead; mark = marked_to 8 done.1.mark }));
      }

  -- so are files that a cut can have left
  pub blanked_cut : IsCutTable old.files → IsCutTable new.files
  blanked_cut cut = record {
    known = λ id. k.known id ∙ cut.known id;
    done = ⊎_elim
        (λ (begun : IsBegun old.files). absurd (let short = begun.short in omega (arith, short, long)))
        (λ (done : (half : Half) × IsHalfDone old.files half). inr (done.0, blanked_half done.0 done.1))
        cut.done;
  }
