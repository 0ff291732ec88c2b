-- A tree is built in a draft, its index put into the catalog, and the draft becomes its file.
use Rattle.std.proofs.Common.{◌≡◌, ◌≢◌, ℕ, zero, suc, ◌-◌, ◌<◌, inl, inr, true, List, length, Option, Some, None, refl, ap, sym, ◌∙◌, subst, arith, IsTrue, ℤ}
use Rattle.std.specs.Prelude.{option_map, slice_get, slice_index, unwrap_or}
use Rattle.std.proofs.Math.Logic.{⊎_elim}
use Rattle.afl_base.specs.CutFiles.{MendsToEither, MendsToState}
use Rattle.afl_base.specs.declared.kind.Kind.TheVariants.{Doubling}
use Rattle.afl_base.specs.Files.{Commits, Draft, File, IsLive, IsNamed, IsUnnamed, Keeps, KeepsBytes, State, Table, bytes_at, draft_in, file_at, no_file, place, used}
use Rattle.afl_base.specs.Fit.{fit}
use Rattle.afl_base.proofs.CutLaws.{mends_as, mends_now}
use Rattle.afl_base.proofs.FileLaws.{named_here, place_live}
use Rattle.afl_base.proofs.FrameLaws.{becomes_spares}
use Rattle.catalog.specs.CatalogFile.{PutsIndex}
use Rattle.catalog.specs.Rules.{is_of_database}
use Rattle.db_model.specs.declared.schemas.IndexKind.{IndexKind}
use Rattle.db_model.specs.declared.schemas.IndexKind.TheVariants.{MaxHeap}
use Rattle.db_model.specs.Catalog.{Index, with_index_slot}
use Rattle.db_model.specs.Row.{rows_of}
use Rattle.db_model.specs.Step.{keys}
use Rattle.index_tree.specs.Trees.{IsTreeOf}
use Rattle.index_tree.proofs.Law.{ends_marked}
use Rattle.space_model.specs.Enough.{tree_size}
use Rattle.space_model.specs.FileNames.{catalog_file, rows_file, tree_file}
use Rattle.tuple_file.specs.declared.tuples.Tuples.{Tuples}
use Rattle.tuple_file.specs.Column.{IsNumber}
use Rattle.tuple_file.specs.Tuples.{HoldsRows}
use Rattle.session_model.specs.Frames.{LeavesOthers}
use Rattle.session_model.specs.Indexed.{IsAllowedAt}
use Rattle.session_model.specs.Running.{HasCatalogFile}
use Rattle.stored.proofs.FewFiles.{few_files}
use Rattle.session_model.proofs.Leaves.{leaves_becomes, leaves_commits, leaves_same, leaves_then}
use Rattle.session_model.proofs.Running.{bytes_by, catalog_no_rows, differ}
use Rattle.session_indexes.specs.declared.sites.Site.{Site}
use Rattle.session_indexes.specs.Made.{AsksIndex, IsReadyFor, index_for, keys_at}
use Rattle.session_indexes.specs.Parts.{MayPut, MayPutTree}
use Rattle.session_indexes.specs.Trees.{DraftsTree, PutsTree}
use Rattle.session_indexes.proofs.PutParts.{files_under, may_later, may_whole, mends_later}
use Rattle.session_indexes.proofs.Puts.{catalog_stays, live_catalog}
use Rattle.session_model.proofs.Readable.{number_at}
use Rattle.tuple_file.proofs.Holding.{holds_by}

-- ---- what a kind allows

pub allowed_number : (kind : IndexKind) (t : Tuples) (p : ℕ) → IsAllowedAt t.schema.attributes p kind → IsNumber t.schema.attributes p
allowed_number kind t p e = number_at kind (slice_get t.schema.attributes p) e

-- ---- names

tree_known : (i : ℕ) → i < 8 → is_of_database (tree_file i) Doubling ≡ true
tree_known zero h = refl
tree_known (suc zero) h = refl
tree_known (suc (suc zero)) h = refl
tree_known (suc (suc (suc zero))) h = refl
tree_known (suc (suc (suc (suc zero)))) h = refl
tree_known (suc (suc (suc (suc (suc zero))))) h = refl
tree_known (suc (suc (suc (suc (suc (suc zero)))))) h = refl
tree_known (suc (suc (suc (suc (suc (suc (suc zero))))))) h = refl
tree_known (suc (suc (suc (suc (suc (suc (suc (suc i)))))))) h = absurd (omega (arith, h))

one_is : (n : ℕ) → n ≡ 1 → n ≢ 0
one_is n e = omega (arith, e)

-- ---- room is made in the catalog

module _ (s0 s1 : State) (cat : ℕ) (t : Tuples) (site : Site) (ready : IsReadyFor s0 cat t site) (u : KeepsBytes s0 s1 cat) where
  rows_stay : place s1.files t.file ≡ place s0.files t.file
  rows_stay = u.others t.file (differ s0.files t.file cat (rows_file site.relation) catalog_file ready.named ready.catalog.0 (λ e. catalog_no_rows site.relation (sym e)))

  pub rows_held : HoldsRows s1 t
  rows_held = holds_by s0 s1 t rows_stay u.tells ready.holds

  pub tree_unnamed : IsUnnamed s1.files (tree_file site.slot)
  tree_unnamed = u.names (tree_file site.slot) ready.unnamed

  pub place_left : used s1.files < 32
  place_left = let few = few_files s0.files ready.distinct ready.known in omega (arith, few, u.used)

  pub keys_stay : keys_at s1 t site ≡ keys_at s0 t site
  keys_stay = ap (λ (bytes : List ℕ). keys site.attribute (rows_of t.schema.attributes bytes)) (bytes_by s0.files s1.files t.file rows_stay)

  pub asks_tree : (asks : ℕ → ℕ → ℕ → ℕ → Type 0) (s2 : State) (need : ℕ) → need ≡ fit (tree_size (keys_at s1 t site)) → AsksIndex asks s2 cat site.slot MaxHeap (keys_at s0 t site) need
  asks_tree asks s2 need e = inr (e ∙ ap (λ (ks : List ℤ). fit (tree_size ks)) keys_stay)

-- ---- the draft

-- a draft could not be begun
pub kept_again : (s0 s1 s2 : State) (cat : ℕ) → KeepsBytes s0 s1 cat → Keeps s1 s2 → KeepsBytes s0 s2 cat
kept_again s0 s1 s2 cat u k = record {
  live = subst (λ (f : Table). IsLive f cat) (sym k.files) u.live;
  name = ap (λ (f : Table). (file_at f cat).name) k.files ∙ u.name;
  kind = ap (λ (f : Table). (file_at f cat).kind) k.files ∙ u.kind;
  size = ap (λ (f : Table). length (bytes_at f cat)) k.files ∙ u.size;
  bytes = λ told. ap (λ (f : Table). bytes_at f cat) k.files ∙ u.bytes told;
  others = λ j other. ap (λ (f : Table). place f j) k.files ∙ u.others j other;
  names = λ n none. subst (λ (f : Table). IsUnnamed f n) (sym k.files) (u.names n none);
  used = ap used k.files ∙ u.used;
  draft = k.draft ∙ u.draft;
  tells = k.tells ∙ u.tells;
}

module _ (s0 s1 s2 : State) (cat : ℕ) (t : Tuples) (site : Site) (ready : IsReadyFor s0 cat t site) (u : KeepsBytes s0 s1 cat) (d : DraftsTree s1 s2 (tree_file site.slot) (keys_at s1 t site)) where
  -- the catalog was being changed
  pub put_part : {mends : List ℕ → Table → Type 0} {store : List ℕ} → IsTrue s0.tells → MendsToState mends store (λ after. MayPut s2 after cat site.slot (Some (index_for site MaxHeap)))
      → MendsToState mends store (λ after. MayPutTree s0 after cat t site)
  put_part told m = mends_as (mends_later s0 cat site.slot (Some (index_for site MaxHeap)) ready.catalog told s1 s2 u d.files m) (λ after p. inl p)

  module _ (s3 : State) (p : PutsIndex s2 s3 cat site.slot (Some (index_for site MaxHeap))) where
    same_draft : draft_in s3 ≡ draft_in s2
    same_draft = ap (λ (o : Option Draft). draft_of o) p.draft
      where
        draft_of : Option Draft → Draft
        draft_of o = draft_in (record { tells = true; files = s2.files; draft = o; store = s2.store })

    pub draft_ends : IsTrue s3.tells → slice_index (draft_in s3).bytes (length (draft_in s3).bytes - 1) ≢ 0
    draft_ends told =
        one_is _ (subst (λ (z : Draft). slice_index z.bytes (length z.bytes - 1) ≡ 1) (sym same_draft) (ends_marked (draft_in s2).bytes (keys_at s1 t site) (d.tree (sym d.tells ∙ sym p.tells ∙ told))))

    module _ (s4 : State) (file : ℕ) (k : Commits s3 s4 file) where
      catalog_2 : HasCatalogFile s2.files (Some cat)
      catalog_2 = subst (λ (f : Table). HasCatalogFile f (Some cat)) (sym d.files) (catalog_stays s0 s1 cat u ready.catalog)

      named_3 : IsNamed s3.files cat catalog_file
      named_3 = (becomes_spares s2 s3 cat _ _ (live_catalog s2.files cat catalog_2) p).named cat ∙ catalog_2.0

      unnamed_3 : IsUnnamed s3.files (tree_file site.slot)
      unnamed_3 = p.names (tree_file site.slot) (subst (λ (f : Table). IsUnnamed f (tree_file site.slot)) (sym d.files) (tree_unnamed s0 s1 cat t site ready u))

      name_3 : (draft_in s3).name ≡ tree_file site.slot
      name_3 = ap (λ (z : Draft). z.name) same_draft ∙ d.name_is

      none_named : (n : List ℕ) → place s3.files file ≡ None → IsNamed s3.files file n → ⊥
      none_named n none named = let e : None ≡ Some n = ap (option_map (λ (f : File). f.name)) (sym none) ∙ named in absurd (cc)

      cat_place : place s4.files cat ≡ place s3.files cat
      cat_place = k.others cat (λ same. none_named catalog_file (k.free (subst (λ (n : List ℕ). IsUnnamed s3.files n) (sym name_3) unnamed_3))
          (subst (λ (j : ℕ). IsNamed s3.files j catalog_file) same named_3))

      rows_1 : bytes_at s2.files cat ≡ bytes_at s1.files cat
      rows_1 = ap (λ (f : Table). bytes_at f cat) d.files

      leaves_all : LeavesOthers s0 s4 (tree_file site.slot)
      leaves_all =
          let name = tree_file site.slot in
          let a = leaves_becomes s0 s1 cat _ _ name ready.catalog.0 u in
          let b = leaves_same s1 s2 name d.files d.tells in
          let e = leaves_becomes s2 s3 cat _ _ name catalog_2.0 p in
          let f = leaves_commits s3 s4 file name name_3 unnamed_3 (tree_known site.slot ready.slot) k in
          leaves_then s0 s1 s4 name a (leaves_then s1 s2 s4 name b (leaves_then s2 s3 s4 name e f))

      told_2 : IsTrue s0.tells → IsTrue s2.tells
      told_2 told = d.tells ∙ u.tells ∙ told

      pub tree_put : PutsTree s0 s4 cat t site file
      tree_put = record {
        leaves = leaves_all;
        bytes = record {
          named = ap (option_map (λ (f : File). f.name)) cat_place ∙ named_3;
          kind = ap (λ (o : Option File). (unwrap_or o no_file).kind) cat_place ∙ p.kind ∙ catalog_2.2;
          size = ap (λ (o : Option File). length (unwrap_or o no_file).bytes) cat_place ∙ p.size;
          bytes = λ told. ap (λ (o : Option File). (unwrap_or o no_file).bytes) cat_place ∙ p.bytes (told_2 told)
              ∙ ap (λ (bytes : List ℕ). with_index_slot bytes site.slot (Some (index_for site MaxHeap))) (rows_1 ∙ u.bytes told);
        };
        idle = k.draft;
        named = named_here s4.files file (file_at s4.files file) (place_live s4.files file k.live) ∙ ap (λ (n : List ℕ). Some n) (k.name ∙ name_3);
        kind = k.kind;
        tree = λ told.
            let here : bytes_at s4.files file ≡ (draft_in s2).bytes = k.bytes (p.tells ∙ told_2 told) ∙ ap (λ (z : Draft). z.bytes) same_draft in
            subst (λ (ks : List ℤ). IsTreeOf (bytes_at s4.files file) ks) (keys_stay s0 s1 cat t site ready u)
            (subst (λ (bytes : List ℕ). IsTreeOf bytes (keys_at s1 t site)) (sym here) (d.tree (u.tells ∙ told)));
      }

    -- the tree was being made its file
    pub tree_part : {mends : List ℕ → Table → Type 0} {store : List ℕ} → IsTrue s0.tells → MendsToEither mends s3.files store (λ after. (file : ℕ) × Commits s3 after file)
        → MendsToState mends store (λ after. MayPutTree s0 after cat t site)
    tree_part {mends} {store} told = ⊎_elim
        (λ (same : mends store s3.files).
        let o : Option Index = Some (index_for site MaxHeap) in
        let has : HasCatalogFile s2.files (Some cat) = subst (λ (f : Table). HasCatalogFile f (Some cat)) (sym d.files) (catalog_stays s0 s1 cat u ready.catalog) in
        let part = may_later s0 cat site.slot o ready.catalog told s1 s2 u d.files s3 (may_whole s2 cat site.slot o has (d.tells ∙ u.tells ∙ told) s3 p) in
        mends_now (files_under s1 s3) same (inl part))
        (λ (m : MendsToState mends store (λ after. (file : ℕ) × Commits s3 after file)). mends_as m (λ after k. inr (k.0, tree_put after k.0 k.1)))
