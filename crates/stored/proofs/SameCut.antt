-- Whether a cut can have left files does not depend on their order.
use Rattle.std.proofs.Common.{◌≡◌, ◌⊎◌, inl, inr, ⊎_elim, ℕ, ◌+◌, ◌*◌, ◌<◌, ◌≤◌, true, false, not, ◌&&◌, List, [], ◌∷◌, length, map, get_or, take, Option, Some, None, if◌then◌else◌, refl, ap, sym, subst, ◌∙◌}
use Rattle.std.specs.Prelude.{is_some, slice_range}
use Rattle.std.specs.List.{range_with_len}
use Rattle.afl_base.specs.Files.{AreDistinct, File, Table, place}
use Rattle.catalog.specs.Rules.{breaks_index, catalog_bytes_in, has_form, is_named_among, is_of_database, is_stranger, is_tree}
use Rattle.db_model.specs.Catalog.{Catalog, Index, catalog_bytes, catalog_of, version_of}
use Rattle.db_model.specs.Database.{Database}
use Rattle.db_model.specs.Step.{keys}
use Rattle.space_model.specs.Enough.{rows_in}
use Rattle.space_model.specs.FileNames.{bytes_named, catalog_file, is_there, rows_file, tree_file}
use Rattle.stored.specs.CutTables.{HasMark, HoldsRowsOr, IsBegun, IsBehindSlot, IsCutTable, IsFirstInPart, IsHalfDone, IsIndexWhile, IsMarkedInPart, IsSlot, IsTimed, first_catalog, index_read, relation, slot_bytes}
use Rattle.stored.specs.Same.{HasLike, HaveSameFiles}
use Rattle.stored.specs.Mended.{has_time, mended_base, mended_catalog, mended_version, standing, whole_bytes, whole_catalog}
use Rattle.stored.specs.declared.half.Half.{Half}
use Rattle.stored.specs.declared.half.Half.TheVariants.{Emptying, LoneRows, LoneTree, Nothing, Treeless}
use Rattle.stored.proofs.MendedTables.{mended_same}
use Rattle.stored.proofs.SameBase.{bytes_same, map_same, there_same}

-- one table has the files of another, whatever their ids
pub record SameByName (old new : Table) : Type 0 where
  pub there : (name : List ℕ) → is_there name new ≡ is_there name old
  pub bytes : (name : List ℕ) → bytes_named name new ≡ bytes_named name old
  pub only : (id : ℕ) (f : File) → place new id ≡ Some f → HasLike old f

module _ (old new : Table) (s : SameByName old new) where
  same_bytes : catalog_bytes_in new ≡ catalog_bytes_in old
  same_bytes = s.bytes catalog_file

  same_whole : whole_catalog new ≡ whole_catalog old
  same_whole = ap whole_bytes same_bytes

  same_base : mended_base new ≡ mended_base old
  same_base = mended_same old new (record { catalog = same_bytes; rows = λ k below used. s.bytes (rows_file k); trees = λ i below tree. s.there (tree_file i) })

  same_catalog : mended_catalog new ≡ mended_catalog old
  unfolding mended_catalog
  same_catalog =
      let listed : List ℕ → List (Option Index) → Catalog = λ bytes indexes. record { version = mended_version bytes; relations = (catalog_of bytes).relations; indexes = indexes } in
      let stand : Table → List ℕ → List (Option Index) = λ files bytes. map (λ slot. standing files slot (get_or (catalog_of bytes).indexes slot None)) (range_with_len 0 8) in
      ap (λ bytes. listed bytes (stand new bytes)) same_whole
      ∙ ap (listed (whole_catalog old)) (map_same (λ slot. standing new slot (get_or (catalog_of (whole_catalog old)).indexes slot None)) (λ slot. standing old slot (get_or (catalog_of (whole_catalog old)).indexes slot None))
      (λ slot. let index : Option Index = get_or (catalog_of (whole_catalog old)).indexes slot None in ap (λ b. if is_tree index && not b then None else index) (s.there (tree_file slot))) (range_with_len 0 8))

  same_relation : (k : ℕ) → relation new k ≡ relation old k
  same_relation k = ap (λ (c : Catalog). get_or c.relations k None) same_catalog

  same_slot : (k : ℕ) → slot_bytes new k ≡ slot_bytes old k
  same_slot k = ap (λ (bytes : List ℕ). slice_range bytes (176 * k) (176 * k + 176)) same_whole

  same_index : (i : ℕ) → index_read new i ≡ index_read old i
  same_index i = ap (λ (bytes : List ℕ). get_or (catalog_of bytes).indexes i None) same_whole

  same_version : (mended_catalog new).version ≡ (mended_catalog old).version
  same_version = ap (λ (c : Catalog). c.version) same_catalog

  -- no file is of no database
  same_known : ((id : ℕ) → is_stranger old id ≡ false) → (id : ℕ) → is_stranger new id ≡ false
  same_known known id = by_place (place new id) refl
    where
      of_old : (f : File) (at : ℕ) → place old at ≡ Some f → not (is_of_database f.name f.kind) ≡ false
      of_old f at e = ap (λ o. elim o [ None ↦ false | Some x ↦ not (is_of_database x.name x.kind) ]) (sym e) ∙ known at

      by_place : (o : Option File) → place new id ≡ o → elim o [ None ↦ false | Some x ↦ not (is_of_database x.name x.kind) ] ≡ false
      by_place None e = refl
      by_place (Some f) e =
          let like = s.only id f e in
          ap (λ n. not (is_of_database n f.kind)) (sym like.name) ∙ ap (λ x. not (is_of_database like.file.name x)) (sym like.kind) ∙ of_old like.file like.id like.there

  same_begun : IsBegun old → IsBegun new
  same_begun b = record {
    short = subst (λ (bytes : List ℕ). length bytes < 1472) (sym same_bytes) b.short;
    alone = λ id f e.
        let like = s.only id f e in
        ⊎_elim
        (λ (named : like.file.name ≡ catalog_file). inl (sym like.name ∙ named))
        (λ (rows : (like.file.name ≡ rows_file 0) × (like.file.bytes ≡ [])). inr (sym like.name ∙ rows.0, sym like.bytes ∙ rows.1))
        (b.alone like.id like.file like.there);
    catalog = ⊎_elim
        (λ (none : catalog_bytes_in old ≡ []). inl (same_bytes ∙ none))
        (λ (p : IsFirstInPart old). inr (record {
          name = p.name;
          valid = p.valid;
          front = subst (λ (bytes : List ℕ). bytes ≡ take (length bytes) (catalog_bytes (first_catalog p.name))) (sym same_bytes) p.front;
          rows = s.there (rows_file 0) ∙ p.rows;
        })) b.catalog;
  }

  same_timed : IsTimed old → IsTimed new
  same_timed t = record {
    short = subst (λ (bytes : List ℕ). length bytes ≡ 1472) (sym same_bytes) t.short;
    k = t.k;
    schema = t.schema;
    there = same_relation t.k ∙ t.there;
    front = t.front;
    last = t.last;
    time = t.time;
    before = t.before;
    alone = λ j time. t.alone j (ap has_time (sym (same_relation j)) ∙ time);
    empty = s.bytes (rows_file t.k) ∙ t.empty;
  }

  same_mark : (half : Half) → HasMark old half → HasMark new half
  same_mark half m = ⊎_elim
      (λ (whole : (has_form (catalog_bytes_in old) ≡ true) × (version_of (catalog_bytes_in old) ≡ (mended_catalog old).version)).
      inl (ap has_form same_bytes ∙ whole.0, ap version_of same_bytes ∙ whole.1 ∙ sym same_version))
      (λ (rest : (IsMarkedInPart (catalog_bytes_in old) × IsBehindSlot half) ⊎ (IsTimed old × (half ≡ Nothing))). inr (⊎_elim
      (λ (part : IsMarkedInPart (catalog_bytes_in old) × IsBehindSlot half). inl (subst IsMarkedInPart (sym same_bytes) part.0, part.1))
      (λ (timed : IsTimed old × (half ≡ Nothing)). inr (same_timed timed.0, timed.1))
      rest))
      m

  used_same : (k : ℕ) → (is_some (relation new k) ≡ true) → is_some (relation old k) ≡ true
  used_same k e = ap is_some (sym (same_relation k)) ∙ e

  same_half : (half : Half) → IsHalfDone old half → IsHalfDone new half
  same_half half h = record {
    whole = subst (λ (bytes : List ℕ). 1472 ≤ length bytes) (sym same_bytes) h.whole;
    mark = same_mark half h.mark;
    slots = λ k below.
        subst (λ (bytes : List ℕ). IsSlot half (mended_catalog new).version k bytes (relation new k)) (sym (same_slot k))
        (subst (λ (c : Catalog). IsSlot half c.version k (slot_bytes old k) (get_or c.relations k None)) (sym same_catalog) (h.slots k below));
    named_once = λ k below. ap (λ (c : Catalog). is_named_among (get_or c.relations k None) (take k c.relations)) same_catalog ∙ h.named_once k below;
    indexes = λ i below. ap (λ (bytes : List ℕ). breaks_index bytes i) same_whole ∙ h.indexes i below;
    rows_there = λ k below used. s.there (rows_file k) ∙ h.rows_there k below (⊎_elim (λ (u : is_some (relation new k) ≡ true). inl (used_same k u)) (λ (e : half ≡ Emptying k). inr e) used);
    rows_lone = λ k below there. ⊎_elim
        (λ (used : is_some (relation old k) ≡ true). inl (ap is_some (same_relation k) ∙ used))
        (λ (lone : (half ≡ LoneRows k) ⊎ (half ≡ Emptying k)). inr lone)
        (h.rows_lone k below (sym (s.there (rows_file k)) ∙ there));
    tree_there = λ i below tree. ⊎_elim
        (λ (there : is_there (tree_file i) old ≡ true). inl (s.there (tree_file i) ∙ there))
        (λ (without : half ≡ Treeless i). inr without)
        (h.tree_there i below (ap is_tree (sym (same_index i)) ∙ tree));
    tree_lone = λ i below there. ⊎_elim
        (λ (tree : is_tree (index_read old i) ≡ true). inl (ap is_tree (same_index i) ∙ tree))
        (λ (lone : (half ≡ LoneTree i) × (index_read old i ≡ None)). inr (lone.0, same_index i ∙ lone.1))
        (h.tree_lone i below (sym (s.there (tree_file i)) ∙ there));
    grown = λ k growing. s.bytes (rows_file k) ∙ h.grown k growing;
    rows = λ k schema e.
        subst (λ (bytes : List ℕ). HoldsRowsOr half (mended_catalog new).version k schema.attributes bytes) (sym (s.bytes (rows_file k)))
        (subst (λ (v : ℕ). HoldsRowsOr half v k schema.attributes (bytes_named (rows_file k) old)) (sym same_version) (h.rows k schema (sym (same_relation k) ∙ e)));
    keys = λ i index e.
        subst (λ (db : Database). IsIndexWhile half index (bytes_named (tree_file i) new) (keys index.attribute (rows_in db index.relation))) (sym same_base)
        (subst (λ (bytes : List ℕ). IsIndexWhile half index bytes (keys index.attribute (rows_in (mended_base old) index.relation))) (sym (s.bytes (tree_file i)))
        (h.keys i index (ap (λ (c : Catalog). get_or c.indexes i None) (sym same_catalog) ∙ e)));
  }

  pub same_cut : IsCutTable old → IsCutTable new
  same_cut c = record {
    known = same_known c.known;
    done = ⊎_elim (λ (b : IsBegun old). inl (same_begun b)) (λ (h : (half : Half) × IsHalfDone old half). inr (h.0, same_half h.0 h.1)) c.done;
  }

-- so it is of files that are the same
pub cut_same : (old new : Table) → AreDistinct old → AreDistinct new → HaveSameFiles old new → IsCutTable old → IsCutTable new
cut_same old new d k s cut =
    same_cut old new (record {
      there = λ name. sym (there_same old new name d k s);
      bytes = λ name. sym (bytes_same old new name d k s);
      only = s.only;
    })
    cut
