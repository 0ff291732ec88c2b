-- Files without the tree of an index mend to the database without this index, and what is repaired in them is told as before.
use Rattle.std.proofs.Common.{◌≡◌, ◌≢◌, ⊎_elim, inl, inr, ℕ, ◌*◌, ◌+◌, ◌<◌, true, false, List, length, get_or, Option, Some, None, refl, ap, sym, subst, ◌∙◌, arith}
use Rattle.std.specs.Prelude.{⊤, is_some, nat_eq, option_map, slice_index, slice_index_or, slice_range}
use Rattle.std.proofs.lemmas.Bool.{cases_eq}
use Rattle.afl_base.specs.Files.{File, Table, bytes_at}
use Rattle.catalog.specs.Rules.{catalog_bytes_in, is_tree}
use Rattle.catalog.proofs.Choices.{not_equal}
use Rattle.db_model.specs.Catalog.{Index, index_at, relation_at}
use Rattle.db_model.specs.Database.{Database, Relation}
use Rattle.space_model.specs.FileNames.{bytes_in_file, catalog_file, file_named, is_there, rows_file, size_in, tree_file}
use Rattle.stored.specs.CutTables.{slot_bytes}
use Rattle.stored.specs.Mended.{mended_base, whole_bytes, whole_catalog}
use Rattle.stored.proofs.MendedBase.{index_mended_at, index_waits}
use Rattle.stored_mend.proofs.ReportAs.{size_by as seen_size}
use Rattle.stored_mend.specs.Filled.{IsFilledSlot}
use Rattle.stored_mend.specs.Mending.{IsPutRight, IsWholeCatalog}
use Rattle.stored_mend.specs.Reported.{IsCatalogGone, IsCatalogLonger, IsDone, IsReported, bytes_by_name, index_seen, relation_seen}
use Rattle.stored_mend.specs.Trees.{LosesTrees, StaysUnless}
use Rattle.stored_mend.specs.declared.report.Mended.{Mended as AnyMended}
use Rattle.stored_mend.specs.declared.report.Mended.TheVariants.{Catalog, Mark, Relation as RelationLine, Attribute as OneAttribute, Row, Tree, Index as OneIndex, Stray}
use Rattle.stored_mend.proofs.CatalogKept.{whole_found}
use Rattle.stored_mend.proofs.CatalogRead.{no_tree_at, slot_byte, tree_at}
use Rattle.stored_mend.proofs.OneFile.{catalog_no_tree, rows_no_tree, same_tree_slot}
use Rattle.stored_mend.proofs.ReportOnce.{on_earlier, slot_earlier}
use Rattle.stored_mend.proofs.TreesLost.{loses_then, lost}
use Rattle.run_repair.specs.GivenUp.{IsTreeRemoved}

-- ---- what is seen of files

seen_there : (o p : Option File) → option_map (λ (f : File). f.bytes) o ≡ option_map (λ (f : File). f.bytes) p → is_some o ≡ is_some p
seen_there None None e = refl
seen_there (Some f) (Some g) e = refl
seen_there None (Some g) e = cc
seen_there (Some f) None e = cc

pub seen_bytes : (o p : Option File) → option_map (λ (f : File). f.bytes) o ≡ option_map (λ (f : File). f.bytes) p → bytes_in_file o ≡ bytes_in_file p
seen_bytes None None e = refl
seen_bytes (Some f) (Some g) e = cc
seen_bytes None (Some g) e = cc
seen_bytes (Some f) None e = cc

seen_gone : (o : Option File) → option_map (λ (f : File). f.bytes) o ≡ None → is_some o ≡ false
seen_gone None e = refl
seen_gone (Some f) e = cc

-- ---- what they mend to

pub lost_base : (a b : Table) (slot : ℕ) → IsTreeRemoved a b slot → LosesTrees (mended_base a) (mended_base b)
lost_base a b slot l =
    lost a b slot (λ (k : ℕ). ⊤)
    (λ name other. seen_bytes (file_named name b) (file_named name a) (l.others name other))
    (λ k other. seen_there (file_named (tree_file k) b) (file_named (tree_file k) a) (l.others (tree_file k) (λ e. other (same_tree_slot k slot e))))
    (seen_gone (file_named (tree_file slot) b) l.gone) tt

-- what is put right once indexes are gone is put right
pub right_behind : (a b c : Database) → LosesTrees a b → IsPutRight b c → IsPutRight a c
right_behind a b c l r =
    let f : Database = r.filled in
    let with_indexes : Database = record f { indexes = a.indexes } in
    record {
      filled = with_indexes;
      fills = record {
        version = r.fills.version ∙ l.version;
        indexes = refl;
        cursors = r.fills.cursors ∙ l.cursors;
        eight = r.fills.eight ∙ ap (λ (rs : List (Option Relation)). length rs) l.relations;
        filled = λ slot. subst (λ (rs : List (Option Relation)). IsFilledSlot (get_or rs slot None) (get_or f.relations slot None)) l.relations (r.fills.filled slot);
        others = λ slot never. absurd (never tt);
      };
      loses = loses_then (λ (k : ℕ). ⊤) with_indexes f c
          (record {
            version = refl;
            relations = refl;
            cursors = refl;
            slots = ap (λ (is : List (Option Index)). length is) r.fills.indexes ∙ l.slots;
            indexes = λ slot below. subst (λ (is : List (Option Index)). StaysUnless ⊤ (get_or a.indexes slot None) (get_or is slot None)) (sym r.fills.indexes) (l.indexes slot below);
          })
          r.loses;
    }

-- ---- the index is gone then

-- the index whose tree is gone stands in none of the databases that these files are put right to
pub none_right : (a b : Table) (slot : ℕ) → IsTreeRemoved a b slot → (now : Database) → IsPutRight (mended_base b) now → get_or now.indexes slot None ≡ None
none_right a b slot l now r =
    let gone : is_there (tree_file slot) b ≡ false = seen_gone (file_named (tree_file slot) b) l.gone in
    let catalog : catalog_bytes_in b ≡ catalog_bytes_in a = seen_bytes (file_named catalog_file b) (file_named catalog_file a) (l.others catalog_file (catalog_no_tree slot)) in
    let tree : is_tree (index_at (whole_catalog b) slot) ≡ true = ap (λ (xs : List ℕ). is_tree (index_at (whole_bytes xs) slot)) catalog ∙ l.asked in
    let none : get_or r.filled.indexes slot None ≡ None =
    ap (λ (is : List (Option Index)). get_or is slot None) r.fills.indexes ∙ index_mended_at b slot l.below ∙ index_waits b slot (index_at (whole_catalog b) slot) tree gone in
    ⊎_elim
    (λ (same : get_or now.indexes slot None ≡ get_or r.filled.indexes slot None). same ∙ none)
    (λ gone. gone.1)
    (r.loses.indexes slot l.below)

-- ---- what is told

module _ (a b new : Table) (slot : ℕ) (others : (name : List ℕ) → name ≢ tree_file slot → bytes_by_name name b ≡ bytes_by_name name a) (asked : is_tree (index_seen a slot) ≡ true) (none : index_seen new slot ≡ None) where
  catalog_same : catalog_bytes_in b ≡ catalog_bytes_in a
  catalog_same = seen_bytes (file_named catalog_file b) (file_named catalog_file a) (others catalog_file (catalog_no_tree slot))

  whole_same : whole_catalog b ≡ whole_catalog a
  whole_same = ap whole_bytes catalog_same

  size_same : size_in b catalog_file ≡ size_in a catalog_file
  size_same = seen_size (file_named catalog_file b) (file_named catalog_file a) (others catalog_file (catalog_no_tree slot))

  slot_same : (k : ℕ) → slot_bytes b k ≡ slot_bytes a k
  slot_same k = ap (λ (xs : List ℕ). slice_range xs (176 * k) (176 * k + 176)) whole_same

  index_same : (i : ℕ) → index_seen b i ≡ index_seen a i
  index_same i = ap (λ (xs : List ℕ). index_at xs i) whole_same

  rows_same : (k : ℕ) → bytes_by_name (rows_file k) b ≡ bytes_by_name (rows_file k) a
  rows_same k = others (rows_file k) (rows_no_tree k slot)

  tree_same : (i : ℕ) → i ≢ slot → bytes_by_name (tree_file i) b ≡ bytes_by_name (tree_file i) a
  tree_same i other = others (tree_file i) (λ e. other (same_tree_slot i slot e))

  relation_same : (k : ℕ) → k < 8 → relation_seen b k ≡ relation_seen a k
  relation_same k below = ap (λ (xs : List ℕ). relation_at xs k) whole_same

  -- what was done in the files without the tree was done in those with it: nothing of the index in its slot is told there
  pub done_with : (line : AnyMended) → IsDone b new line → IsDone a new line
  done_with Catalog d = subst (λ o. IsCatalogGone o (size_in new catalog_file)) size_same d
  done_with Mark d = subst (λ o. IsCatalogLonger o (size_in new catalog_file)) size_same d
  done_with (RelationLine k) d = record {
    below = d.below;
    unused = sym (relation_same k d.below) ∙ d.unused;
    gone = d.gone;
    changed = ⊎_elim (λ bytes. inl (λ e. bytes (e ∙ sym (slot_same k)))) (λ rows. inr (λ e. rows (rows_same k ∙ e))) d.changed;
  }
  done_with (OneAttribute name) d = record { k = d.k; slot = slot_earlier a b relation_same d.k name d.slot; changed = λ e. d.changed (e ∙ sym (slot_same d.k)) }
  done_with (Row name) d = record { k = d.k; slot = slot_earlier a b relation_same d.k name d.slot; changed = λ e. d.changed (e ∙ sym (rows_same d.k)) }
  done_with (Tree name attribute) d =
      let other : d.i ≢ slot = λ e. let no : None ≡ Some d.index = sym none ∙ ap (index_seen new) (sym e) ∙ d.stays in cc in
      record {
        i = d.i;
        index = d.index;
        on = record { below = d.on.below; stands = sym (index_same d.i) ∙ d.on.stands; on = on_earlier a b relation_same d.index name attribute d.on.on };
        kind = d.kind;
        stays = d.stays;
        changed = λ e. d.changed (e ∙ sym (tree_same d.i other));
      }
  done_with (OneIndex name attribute) d = record {
    i = d.i;
    index = d.index;
    on = record { below = d.on.below; stands = sym (index_same d.i) ∙ d.on.stands; on = on_earlier a b relation_same d.index name attribute d.on.on };
    gone = d.gone;
  }
  done_with (Stray i) d =
      let other : i ≢ slot = λ e. let no : true ≡ false = sym asked ∙ ap (λ j. is_tree (index_seen a j)) (sym e) ∙ ap is_tree (sym (index_same i)) ∙ d.treeless in cc in
      record { below = d.below; treeless = ap is_tree (sym (index_same i)) ∙ d.treeless; was = λ e. d.was (tree_same i other ∙ e); gone = d.gone }

  asked_too : is_tree (index_seen b slot) ≡ true
  asked_too = ap is_tree (index_same slot) ∙ asked

pub lost_reported : (a b new : Table) (slot : ℕ) (lines : List AnyMended) → IsTreeRemoved a b slot → index_seen new slot ≡ None → IsReported b new lines → IsReported a new lines
lost_reported a b new slot lines l none r = record {
  done = λ line there. done_with a b new slot l.others l.asked none line (r.done line there);
  told = λ line d. r.told line (done_with b a new slot (λ name other. sym (l.others name other)) (asked_too a b new slot l.others l.asked none) none line d);
  apart = r.apart;
}

-- ---- what is read of an index

-- the first byte of its slot tells whether an index has a tree
tree_byte : (bytes read : List ℕ) (slot : ℕ) → read ≡ slice_range bytes (1408 + 8 * slot) (1408 + 8 * slot + 8) → nat_eq (slice_index_or read 0 0) 2 ≡ is_tree (index_at bytes slot)
tree_byte bytes read slot is =
    let here : slice_index read 0 ≡ slice_index (slice_range bytes (1408 + 8 * slot) (1408 + 8 * slot + 8)) 0 = ap (λ (xs : List ℕ). slice_index xs 0) is in
    ⊎_elim
    (λ (two : slice_index read 0 ≡ 2). ap (λ n. nat_eq n 2) two ∙ sym (tree_at bytes slot (sym here ∙ two)))
    (λ (other : slice_index read 0 ≢ 2).
    not_equal (slice_index read 0) 2 other ∙ sym (no_tree_at bytes slot (λ e. other (here ∙ slot_byte bytes (1408 + 8 * slot) (1408 + 8 * slot + 8) (omega arith) ∙ e))))
    (cases_eq (slice_index read 0) 2)

pub tree_read : (files : Table) (cat slot : ℕ) (read : List ℕ) → IsWholeCatalog files cat → read ≡ slice_range (bytes_at files cat) (1408 + 8 * slot) (1408 + 8 * slot + 8)
    → nat_eq (slice_index_or read 0 0) 2 ≡ is_tree (index_seen files slot)
tree_read files cat slot read whole is = tree_byte (bytes_at files cat) read slot is ∙ ap (λ (xs : List ℕ). is_tree (index_at xs slot)) (sym (whole_found files cat whole))
