-- What was done is read in any table of the same files.
use Rattle.std.proofs.Common.{◌≡◌, ◌≢◌, ⊎_elim, inl, inr, ℕ, ◌*◌, ◌+◌, ◌<◌, List, length, Option, Some, None, refl, ap, sym, subst, ◌∙◌}
use Rattle.std.specs.Prelude.{option_map, slice_range}
use Rattle.afl_base.specs.Files.{File, Table}
use Rattle.db_model.specs.Catalog.{index_at}
use Rattle.space_model.specs.FileNames.{catalog_file, file_named, rows_file, size_in, tree_file}
use Rattle.stored.specs.CutTables.{slot_bytes}
use Rattle.stored.specs.Mended.{whole_bytes, whole_catalog}
use Rattle.stored_mend.proofs.ReportTrees.{seen_bytes as bytes_by}
use Rattle.stored_mend.specs.Reported.{IsCatalogGone, IsCatalogLonger, IsDone, IsReported, bytes_by_name, index_seen}
use Rattle.stored_mend.specs.declared.report.Mended.{Mended as AnyMended}
use Rattle.stored_mend.specs.declared.report.Mended.TheVariants.{Catalog, Mark, Relation, Attribute as OneAttribute, Row, Tree, Index as OneIndex, Stray}

pub size_by : (o p : Option File) → option_map (λ (f : File). f.bytes) o ≡ option_map (λ (f : File). f.bytes) p → option_map (λ (f : File). length f.bytes) o ≡ option_map (λ (f : File). length f.bytes) p
size_by None None e = refl
size_by (Some f) (Some g) e = let same : f.bytes ≡ g.bytes = cc in ap (λ (xs : List ℕ). Some (length xs)) same
size_by None (Some g) e = cc
size_by (Some f) None e = cc

module _ (old new late : Table) (seen : (name : List ℕ) → bytes_by_name name late ≡ bytes_by_name name new) where
  size_as : size_in late catalog_file ≡ size_in new catalog_file
  size_as = size_by (file_named catalog_file late) (file_named catalog_file new) (seen catalog_file)

  whole_as : whole_catalog late ≡ whole_catalog new
  whole_as = ap whole_bytes (bytes_by (file_named catalog_file late) (file_named catalog_file new) (seen catalog_file))

  slot_as : (k : ℕ) → slot_bytes late k ≡ slot_bytes new k
  slot_as k = ap (λ (xs : List ℕ). slice_range xs (176 * k) (176 * k + 176)) whole_as

  index_as : (i : ℕ) → index_seen late i ≡ index_seen new i
  index_as i = ap (λ (xs : List ℕ). index_at xs i) whole_as

  pub done_as : (line : AnyMended) → IsDone old new line → IsDone old late line
  done_as Catalog d = subst (IsCatalogGone (size_in old catalog_file)) (sym size_as) d
  done_as Mark d = subst (IsCatalogLonger (size_in old catalog_file)) (sym size_as) d
  done_as (Relation k) d = record {
    below = d.below;
    unused = d.unused;
    gone = seen (rows_file k) ∙ d.gone;
    changed = ⊎_elim (λ slot. inl (λ e. slot (sym (slot_as k) ∙ e))) (λ rows. inr rows) d.changed;
  }
  done_as (OneAttribute name) d = record { k = d.k; slot = d.slot; changed = λ e. d.changed (sym (slot_as d.k) ∙ e) }
  done_as (Row name) d = record { k = d.k; slot = d.slot; changed = λ e. d.changed (sym (seen (rows_file d.k)) ∙ e) }
  done_as (Tree name attribute) d = record {
    i = d.i;
    index = d.index;
    on = d.on;
    kind = d.kind;
    stays = index_as d.i ∙ d.stays;
    changed = λ e. d.changed (sym (seen (tree_file d.i)) ∙ e);
  }
  done_as (OneIndex name attribute) d = record { i = d.i; index = d.index; on = d.on; gone = index_as d.i ∙ d.gone }
  done_as (Stray i) d = record { below = d.below; treeless = d.treeless; was = d.was; gone = seen (tree_file i) ∙ d.gone }

pub reported_as : (old new late : Table) (lines : List AnyMended) → ((name : List ℕ) → bytes_by_name name late ≡ bytes_by_name name new) → IsReported old new lines → IsReported old late lines
reported_as old new late lines seen r = record {
  done = λ line there. done_as old new late seen line (r.done line there);
  told = λ line d. r.told line (done_as old late new (λ name. sym (seen name)) line d);
  apart = r.apart;
}
