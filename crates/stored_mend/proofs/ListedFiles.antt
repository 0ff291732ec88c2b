-- Files that no slot of the catalog asks for, removed one by one from those that a cut left.
use Rattle.std.proofs.Common.{◌≡◌, ◌≢◌, inl, inr, ⊎_elim, ℕ, ◌+◌, ◌*◌, ◌<◌, ◌≤◌, Bool, true, false, not, List, [], get_or, Option, Some, None, if◌then◌else◌, ap, sym, subst, ◌∙◌, arith}
use Rattle.std.specs.Prelude.{is_some, slice_index, slice_range}
use Rattle.std.proofs.lemmas.Bool.{cases_eq}
use Rattle.std.proofs.lemmas.List.FromFn.{get_or-map-range_with_len}
use Rattle.afl_base.specs.Files.{File, IsNamed, IsUnnamed, Removes, State, Table, place}
use Rattle.catalog.specs.Rules.{is_of_database, is_stranger, is_tree}
use Rattle.catalog.proofs.Choices.{not_equal}
use Rattle.catalog.proofs.Named.{named_none}
use Rattle.db_model.specs.declared.schemas.Schema.{Schema}
use Rattle.db_model.specs.Catalog.{catalog_of, relation_at, schema_of}
use Rattle.padded.proofs.Facts.{none_some}
use Rattle.space_model.specs.FileNames.{bytes_in_file, bytes_named, catalog_file, file_named, is_there, rows_file, tree_file}
use Rattle.stored.specs.CutTables.{IsHalfDone, index_read, relation}
use Rattle.stored.specs.Mended.{mended_base, mended_catalog, standing, whole_bytes, whole_catalog}
use Rattle.stored.specs.declared.half.Half.{Half}
use Rattle.stored.specs.declared.half.Half.TheVariants.{Emptying, LoneTree}
use Rattle.stored.proofs.SoundCut.{named_there}
use Rattle.stored_mend.specs.Listed.{IsBeyond, IsBare, IsDoneTo, IsListedTo, rows_below, trees_below}
use Rattle.stored_mend.proofs.CatalogRead.{no_tree_at, slot_byte, tree_at, unused_at}
use Rattle.stored_mend.proofs.HalfKept.{index_at_slot, marked_as, relation_at_slot, without_rows, without_tree}
use Rattle.stored_mend.proofs.HalfSettled.{rows_settled, tree_settled}
use Rattle.stored_mend.proofs.OneFile.{catalog_no_rows, catalog_no_tree, others_found, removed_changes, rows_no_tree, same_rows_slot}
use Rattle.stored_mend.proofs.Replaced.{name_of}

-- ---- a file is removed

pub known_without : (old new : State) (id : ℕ) → Removes old new id → ((k : ℕ) → is_stranger old.files k ≡ false) → (k : ℕ) → is_stranger new.files k ≡ false
known_without old new id r known k = ⊎_elim
    (λ (same : k ≡ id). ap (λ (o : Option File). elim o [ None ↦ false | Some f ↦ not (is_of_database f.name f.kind) ]) (ap (place new.files) same ∙ r.gone))
    (λ (differs : k ≢ id). ap (λ (o : Option File). elim o [ None ↦ false | Some f ↦ not (is_of_database f.name f.kind) ]) (r.others k differs) ∙ known k)
    (cases_eq k id)

gone_name : (old new : State) (id : ℕ) (name : List ℕ) → Removes old new id → IsNamed old.files id name → is_there name new.files ≡ false
gone_name old new id name r named = ap is_some (named_none new.files name (subst (IsUnnamed new.files) (name_of old.files id name named) r.unnamed))

-- without a catalog
bare_without : (old new : State) (id rows next : ℕ) (name : List ℕ) → Removes old new id → IsNamed old.files id name → catalog_file ≢ name → IsBare old.files rows → (0 < next → is_there (rows_file 0) new.files ≡ false) → IsBare new.files next
bare_without old new id rows next name r named differs bare gone = record {
  none = ap bytes_in_file (others_found old.files new.files name catalog_file (removed_changes old new id name r named) differs) ∙ bare.none;
  alone = λ k f is. ⊎_elim
      (λ (same : k ≡ id). absurd (none_some f (sym (ap (place new.files) same ∙ r.gone) ∙ is)))
      (λ (other : k ≢ id). bare.alone k f (sym (r.others k other) ∙ is))
      (cases_eq k id);
  gone = gone;
}

-- ---- the rows of a slot

-- a slot with a name has a relation
named_used : (bytes : List ℕ) (k : ℕ) → slice_index bytes (176 * k) ≢ 0 → is_some (relation_at bytes k) ≡ true
named_used bytes k differs =
    let slot : List ℕ = slice_range bytes (176 * k) (176 * k + 176) in
    ap (λ (b : Bool). is_some (if b then None else Some (schema_of slot))) (not_equal (slice_index slot 0) 0 (λ e. differs (sym (slot_byte bytes (176 * k) (176 * k + 176) (omega arith)) ∙ e)))

-- they are not there
pub rows_unlisted : (files : Table) (slot : ℕ) → is_there (rows_file slot) files ≡ false → IsListedTo (rows_below slot) files → IsListedTo (rows_below (slot + 1)) files
rows_unlisted files slot gone l = record {
  known = l.known;
  left = ⊎_elim
      (λ (bare : IsBare files slot). inl (record {
        none = bare.none;
        alone = bare.alone;
        gone = λ some. ⊎_elim
            (λ (first : slot ≡ 0). subst (λ (k : ℕ). is_there (rows_file k) files ≡ false) first gone)
            (λ (more : slot ≢ 0). bare.gone (omega (arith, more)))
            (cases_eq slot 0);
      }))
      (λ (done : (half : Half) × IsDoneTo (rows_below slot) files half).
      inr (rows_settled files slot (λ there. absurd (let no : false ≡ true = sym gone ∙ there in let n : ⊥ = cc in n)) done.0 done.1))
      l.left;
}

-- the slot has a name
pub rows_used : (files : Table) (slot : ℕ) → slot < 8 → slice_index (whole_catalog files) (176 * slot) ≢ 0 → IsListedTo (rows_below slot) files → IsListedTo (rows_below (slot + 1)) files
rows_used files slot below named l = record {
  known = l.known;
  left = ⊎_elim
      (λ (bare : IsBare files slot).
      let empty : whole_catalog files ≡ [] = ap whole_bytes bare.none in
      absurd (named (ap (λ (xs : List ℕ). slice_index xs (176 * slot)) empty)))
      (λ (done : (half : Half) × IsDoneTo (rows_below slot) files half).
      inr (rows_settled files slot (λ there. ap is_some (relation_at_slot files slot below) ∙ named_used (whole_catalog files) slot named) done.0 done.1))
      l.left;
}

-- they are removed
pub rows_removed : (old new : State) (id slot : ℕ) → slot < 8 → Removes old new id → IsNamed old.files id (rows_file slot) → slice_index (whole_catalog old.files) (176 * slot) ≡ 0
    → mended_base new.files ≡ mended_base old.files → IsListedTo (rows_below slot) old.files → IsListedTo (rows_below (slot + 1)) new.files
rows_removed old new id slot below r named first base l = record {
  known = known_without old new id r l.known;
  left = ⊎_elim
      (λ (bare : IsBare old.files slot). inl (bare_without old new id slot (slot + 1) (rows_file slot) r named (catalog_no_rows slot) bare (λ some. ⊎_elim
      (λ (zero_slot : slot ≡ 0). subst (λ (k : ℕ). is_there (rows_file k) new.files ≡ false) zero_slot gone)
      (λ (more : slot ≢ 0). ap is_some (files (rows_file 0) (λ e. more (sym (same_rows_slot 0 slot e)))) ∙ bare.gone (omega (arith, more)))
      (cases_eq slot 0))))
      (λ (done : (half : Half) × IsDoneTo (rows_below slot) old.files half).
      let half = done.0 in
      let unused : relation old.files slot ≡ None = relation_at_slot old.files slot below ∙ unused_at (whole_catalog old.files) slot first in
      let after : IsHalfDone new.files half = without_rows old.files new.files base half done.1.done slot files gone unused (settled half done.1.ahead) in
      inr (rows_settled new.files slot (λ there. absurd (let no : false ≡ true = sym gone ∙ there in let n : ⊥ = cc in n)) half
      (record { done = after; ahead = done.1.ahead; mark = marked_as old.files new.files base (ap bytes_in_file (files catalog_file (catalog_no_rows slot))) (used unused) 8 done.1.mark })))
      l.left;
}
  where
    gone : is_there (rows_file slot) new.files ≡ false
    gone = gone_name old new id (rows_file slot) r named

    files : (n : List ℕ) → n ≢ rows_file slot → file_named n new.files ≡ file_named n old.files
    files n differs = others_found old.files new.files (rows_file slot) n (removed_changes old new id (rows_file slot) r named) differs

    settled : (half : Half) → IsBeyond (rows_below slot) half → half ≡ Emptying slot → ⊥
    settled half ahead e = let past : 8 ≤ slot = subst (IsBeyond (rows_below slot)) e ahead in omega (arith, past, below)

    used : relation old.files slot ≡ None → (k : ℕ) (schema : Schema) → relation old.files k ≡ Some schema → bytes_named (rows_file k) new.files ≡ bytes_named (rows_file k) old.files
    used unused k schema is = ap bytes_in_file (files (rows_file k) (λ e. none_some schema (sym unused ∙ ap (relation old.files) (sym (same_rows_slot k slot e)) ∙ is)))

-- ---- the tree of a slot

-- it is not there, or its index has it
pub tree_listed : (files : Table) (slot : ℕ) → (is_there (tree_file slot) files ≡ true → is_tree (index_read files slot) ≡ true) → IsListedTo (trees_below slot) files → IsListedTo (trees_below (slot + 1)) files
tree_listed files slot has l = record {
  known = l.known;
  left = ⊎_elim
      (λ (bare : IsBare files 8). inl bare)
      (λ (done : (half : Half) × IsDoneTo (trees_below slot) files half). inr (tree_settled files slot has done.0 done.1))
      l.left;
}

-- an index of this code has one
pub code_tree : (files : Table) (slot : ℕ) → slot < 8 → slice_index (whole_catalog files) (1408 + 8 * slot) ≡ 2 → is_tree (index_read files slot) ≡ true
code_tree files slot below two =
    ap is_tree (index_at_slot files slot below)
    ∙ tree_at (whole_catalog files) slot (slot_byte (whole_catalog files) (1408 + 8 * slot) (1408 + 8 * slot + 8) (omega arith) ∙ two)

unlisted : (files : Table) (slot : ℕ) → slot < 8 → index_read files slot ≡ None → get_or (mended_catalog files).indexes slot None ≡ None
unfolding mended_catalog
unlisted files slot below none =
    get_or-map-range_with_len (λ (i : ℕ). standing files i (get_or (catalog_of (whole_catalog files)).indexes i None)) 0 8 slot slot None below (omega arith) ∙ ap (standing files slot) none

-- it is removed
pub tree_removed : (old new : State) (id slot : ℕ) → slot < 8 → Removes old new id → IsNamed old.files id (tree_file slot) → slice_index (whole_catalog old.files) (1408 + 8 * slot) ≢ 2
    → mended_base new.files ≡ mended_base old.files → IsListedTo (trees_below slot) old.files → IsListedTo (trees_below (slot + 1)) new.files
tree_removed old new id slot below r named code base l = record {
  known = known_without old new id r l.known;
  left = ⊎_elim
      (λ (bare : IsBare old.files 8). inl (bare_without old new id 8 8 (tree_file slot) r named (catalog_no_tree slot) bare (λ some. ap is_some (files (rows_file 0) (rows_no_tree 0 slot)) ∙ bare.gone some)))
      (λ (done : (half : Half) × IsDoneTo (trees_below slot) old.files half).
      let half = done.0 in
      let none : index_read old.files slot ≡ None = ⊎_elim
      (λ (tree : is_tree (index_read old.files slot) ≡ true).
      let no : false ≡ true = sym (no_tree_at (whole_catalog old.files) slot code) ∙ sym (ap is_tree (index_at_slot old.files slot below)) ∙ tree in absurd (let n : ⊥ = cc in n))
      (λ (lone : (half ≡ LoneTree slot) × (index_read old.files slot ≡ None)). lone.1)
      (done.1.done.tree_lone slot below (named_there old.files id (tree_file slot) named)) in
      let after : IsHalfDone new.files half = without_tree old.files new.files base half done.1.done slot files gone none (unlisted old.files slot below none) in
      inr (tree_settled new.files slot (λ there. absurd (let no : false ≡ true = sym gone ∙ there in let n : ⊥ = cc in n)) half
      (record { done = after; ahead = done.1.ahead; mark = marked_as old.files new.files base (ap bytes_in_file (files catalog_file (catalog_no_tree slot))) (λ k schema is. ap bytes_in_file (files (rows_file k) (rows_no_tree k slot))) 8 done.1.mark })))
      l.left;
}
  where
    gone : is_there (tree_file slot) new.files ≡ false
    gone = gone_name old new id (tree_file slot) r named

    files : (n : List ℕ) → n ≢ tree_file slot → file_named n new.files ≡ file_named n old.files
    files n differs = others_found old.files new.files (tree_file slot) n (removed_changes old new id (tree_file slot) r named) differs
