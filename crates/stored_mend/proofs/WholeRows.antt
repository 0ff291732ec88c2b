-- Files in which the rows of one relation more are whole.
use Rattle.std.proofs.Common.{◌≡◌, ◌≢◌, ◌⊎◌, inl, inr, ⊎_elim, ℕ, ℤ, ◌+◌, ◌-◌, ◌*◌, ◌/◌, ◌%◌, ◌<◌, ◌≤◌, Bool, true, false, List, [], ◌∷◌, ◌++◌, length, get_or, Option, Some, None, IsTrue, refl, ap, sym, subst, ◌∙◌, arith}
use Rattle.std.specs.Prelude.{if◌then◌else◌, nat_lt, option_map}
use Rattle.std.specs.Option.{option_map_or}
use Rattle.std.proofs.Math.Nat.{mod-lt, mul-zero, zero-div}
use Rattle.std.proofs.lemmas.Bool.{cases_eq}
use Rattle.std.proofs.lemmas.Bool.Decides.{nat_tests}
use Rattle.std.proofs.lemmas.List.FromFn.{length-map-range_with_len}
use Rattle.afl_base.specs.Files.{IsNamed, State, Table, bytes_at, file_at}
use Rattle.afl_base.proofs.FileLaws.{named_live, place_live}
use Rattle.catalog.specs.Rules.{catalog_bytes_in, catalog_in, first_broken}
use Rattle.catalog.proofs.Named.{named_found, named_none}
use Rattle.db_model.specs.declared.schemas.Attribute.{Attribute}
use Rattle.db_model.specs.declared.schemas.Schema.{Schema}
use Rattle.db_model.specs.Catalog.{Catalog, Index, catalog_of, relation_at}
use Rattle.db_model.specs.Database.{Relation}
use Rattle.db_model.specs.Row.{Row, row_at, row_length, row_of, rows_of, slots_in_bytes}
use Rattle.db_model.specs.Step.{keys, slots_limit}
use Rattle.padded.proofs.Facts.{never_some, some_same}
use Rattle.space_model.specs.Enough.{rows_in}
use Rattle.space_model.specs.FileNames.{bytes_in_file, bytes_named, rows_file, tree_file}
use Rattle.stored.specs.CutTables.{HoldsRowsOr, IsIndexWhile, relation}
use Rattle.stored.specs.Mended.{mended_base, mended_catalog, whole_catalog}
use Rattle.stored.specs.Sound.{IsIndexComplete}
use Rattle.stored.specs.declared.half.Half.{Half}
use Rattle.stored.specs.declared.half.Half.TheVariants.{AddingKey, AddingRow, Nothing}
use Rattle.stored.proofs.MendedBase.{relation_mended_at, relation_read}
use Rattle.tuple_file.specs.Tuples.{AreRows}
use Rattle.stored_mend.specs.Filled.{IsFilledIn, IsFilledUp, part_of_row, row_before}
use Rattle.stored_mend.specs.Rows.{ChangesOne, whole_length, whole_rows}
use Rattle.stored_mend.specs.Stages.{HasWholeRelations, IsCatalogSound}
use Rattle.stored_mend.specs.Whole.{HasRowsBelow, IsOnlyFile, IsFillable, MakesWhole, MendsRows, row_read, takes_next}
use Rattle.stored_mend.proofs.FilledRows.{filled_are_rows, filled_rows, has_attribute}
use Rattle.stored_mend.proofs.KeptBase.{bytes_stay, whole_rows_same, whole_size}
use Rattle.stored_mend.proofs.OneFile.{same_rows_slot, tree_no_rows}
use Rattle.stored_mend.proofs.RowsAtEnd.{all_whole, index_filled, last_read, long_whole, may_end, takes_at}
use Rattle.stored_mend.proofs.SoundCatalog.{catalog_kept, index_read_at, rows_double, rules_kept, schema_read, slot_read, stranger_kept, version_read, whole_is}
use Rattle.stored_mend.proofs.TakenRows.{filled_once, removed_read}

-- the rows of a relation in the database that files mend to
rows_mended : (files : Table) (k : ℕ) (schema : Schema) → first_broken files ≡ None → relation files k ≡ Some schema → rows_in (mended_base files) k ≡ rows_of schema.attributes (bytes_named (rows_file k) files)
rows_mended files k schema e is =
    let at = slot_read files e k schema is in
    let slot : relation_at (whole_catalog files) k ≡ Some schema = ap (λ (b : List ℕ). relation_at b k) (whole_is files e) ∙ at.is in
    ap (λ (o : Option Relation). option_map_or (λ (r : Relation). r.rows) o []) (relation_mended_at files k at.below ∙ ap (option_map (relation_read (bytes_named (rows_file k) files))) slot)

-- ---- a relation whose row was being added

module _ (old new : State) (k : ℕ) (schema : Schema) (half after : Half) (c : ChangesOne old new (rows_file k)) (fills : IsFilledIn (λ j. j ≡ k) (mended_base old.files) (mended_base new.files)) (is : relation old.files k ≡ Some schema)
    (below : HasRowsBelow old.files k half) (adding : half ≡ AddingRow k) (are : AreRows (mended_catalog old.files).version schema.attributes (bytes_named (rows_file k) new.files))
    (indexed : (i : ℕ) (index : Index) → get_or (mended_catalog old.files).indexes i None ≡ Some index → index.relation ≡ k
    → IsIndexComplete index.kind (bytes_named (tree_file i) old.files) (keys index.attribute (rows_of schema.attributes (bytes_named (rows_file k) old.files)))
    → IsIndexWhile after index (bytes_named (tree_file i) old.files) (keys index.attribute (rows_of schema.attributes (bytes_named (rows_file k) new.files)))) where
  stage : IsCatalogSound old.files half
  stage = below.stage

  unbroken : first_broken new.files ≡ None
  unbroken = rules_kept old new k c stage.catalog

  same_relation : (j : ℕ) (s : Schema) → relation new.files j ≡ Some s → relation old.files j ≡ Some s
  same_relation j s e = ap (λ (cat : Catalog). get_or cat.relations j None) (sym (catalog_kept old new k c)) ∙ e

  same_version : (mended_catalog old.files).version ≡ (mended_catalog new.files).version
  same_version = ap (λ (cat : Catalog). cat.version) (sym (catalog_kept old new k c))

  beside : (j : ℕ) → j ≢ k → bytes_named (rows_file j) new.files ≡ bytes_named (rows_file j) old.files
  beside j differs = bytes_stay old new (rows_file k) (rows_file j) c (λ e. differs (same_rows_slot j k e))

  tree_kept : (i : ℕ) → bytes_named (tree_file i) new.files ≡ bytes_named (tree_file i) old.files
  tree_kept i = bytes_stay old new (rows_file k) (tree_file i) c (tree_no_rows i k)

  -- the relation's own rows
  rows_here : (j : ℕ) (s : Schema) → j ≡ k → relation old.files j ≡ Some s → AreRows (mended_catalog old.files).version s.attributes (bytes_named (rows_file j) new.files)
  rows_here j s e r =
      let same : schema ≡ s = some_same schema s (sym is ∙ ap (relation old.files) (sym e) ∙ r) in
      subst (λ (m : ℕ). AreRows (mended_catalog old.files).version s.attributes (bytes_named (rows_file m) new.files)) (sym e)
      (subst (λ (x : Schema). AreRows (mended_catalog old.files).version x.attributes (bytes_named (rows_file k) new.files)) same are)

  holds : (j : ℕ) (s : Schema) → relation old.files j ≡ Some s → HoldsRowsOr after (mended_catalog old.files).version j s.attributes (bytes_named (rows_file j) new.files)
  holds j s r = ⊎_elim
      (λ (e : j ≡ k). inl (rows_here j s e r))
      (λ (differs : j ≢ k). by_rows differs (stage.rows j s r))
      (cases_eq j k)
    where
      by_rows : j ≢ k → HoldsRowsOr half (mended_catalog old.files).version j s.attributes (bytes_named (rows_file j) old.files) → HoldsRowsOr after (mended_catalog old.files).version j s.attributes (bytes_named (rows_file j) new.files)
      by_rows differs (inl whole) = inl (subst (AreRows (mended_catalog old.files).version s.attributes) (sym (beside j differs)) whole)
      by_rows differs (inr part) = let e : AddingRow k ≡ AddingRow j = sym adding ∙ part.0 in let one : k ≡ j = cc in absurd (differs (sym one))

  -- an index is complete where a row was being added
  was_complete : (index : Index) (tree : List ℕ) (ks : List ℤ) → IsIndexWhile half index tree ks → IsIndexComplete index.kind tree ks
  was_complete index tree ks (inl complete) = complete
  was_complete index tree ks (inr w) = let e : AddingRow k ≡ AddingKey index.relation = sym adding ∙ w.1 in absurd (let n : ⊥ = cc in n)

  index_now : (i : ℕ) (index : Index) → get_or (mended_catalog old.files).indexes i None ≡ Some index
      → IsIndexWhile after index (bytes_named (tree_file i) new.files) (keys index.attribute (rows_in (mended_base new.files) index.relation))
  index_now i index e =
      let complete = was_complete index (bytes_named (tree_file i) old.files) (keys index.attribute (rows_in (mended_base old.files) index.relation)) (stage.keys i index e) in
      subst (λ (tree : List ℕ). IsIndexWhile after index tree (keys index.attribute (rows_in (mended_base new.files) index.relation))) (sym (tree_kept i))
      (⊎_elim
      (λ (on : index.relation ≡ k).
      let before : rows_in (mended_base old.files) index.relation ≡ rows_of schema.attributes (bytes_named (rows_file k) old.files) = ap (rows_in (mended_base old.files)) on ∙ rows_mended old.files k schema stage.catalog is in
      let now : rows_in (mended_base new.files) index.relation ≡ rows_of schema.attributes (bytes_named (rows_file k) new.files) =
      ap (rows_in (mended_base new.files)) on ∙ rows_mended new.files k schema unbroken (ap (λ (cat : Catalog). get_or cat.relations k None) (catalog_kept old new k c) ∙ is) in
      subst (λ (rs : List Row). IsIndexWhile after index (bytes_named (tree_file i) old.files) (keys index.attribute rs)) (sym now)
      (indexed i index e on (subst (λ (rs : List Row). IsIndexComplete index.kind (bytes_named (tree_file i) old.files) (keys index.attribute rs)) before complete)))
      (λ (off : index.relation ≢ k).
      let same : rows_in (mended_base new.files) index.relation ≡ rows_in (mended_base old.files) index.relation = ap (λ (o : Option Relation). option_map_or (λ (r : Relation). r.rows) o []) (fills.others index.relation off) in
      inl (subst (λ (rs : List Row). IsIndexComplete index.kind (bytes_named (tree_file i) old.files) (keys index.attribute rs)) (sym same) complete))
      (cases_eq index.relation k))

  next_stage : HasRowsBelow new.files (k + 1) after
  next_stage = record {
    stage = record {
      known = λ id. stranger_kept old new k c id ∙ stage.known id;
      catalog = unbroken;
      rows = λ j s e. subst (λ (v : ℕ). HoldsRowsOr after v j s.attributes (bytes_named (rows_file j) new.files)) same_version (holds j s (same_relation j s e));
      keys = λ i index e. index_now i index (ap (λ (cat : Catalog). get_or cat.indexes i None) (sym (catalog_kept old new k c)) ∙ e);
    };
    rows = λ j s less e. subst (λ (v : ℕ). AreRows v s.attributes (bytes_named (rows_file j) new.files)) same_version
        (⊎_elim
        (λ (one : j ≡ k). rows_here j s one (same_relation j s e))
        (λ (differs : j ≢ k). subst (AreRows (mended_catalog old.files).version s.attributes) (sym (beside j differs)) (below.rows j s (omega (arith, less, differs)) (same_relation j s e)))
        (cases_eq j k));
  }

-- ---- what a repair makes of one relation

-- the bytes of its file
pub bytes_before : (old : State) (k file : ℕ) → IsOnlyFile old.files (rows_file k) file → bytes_named (rows_file k) old.files ≡ bytes_at old.files file
bytes_before old k file at = ap bytes_in_file (named_found old.files file (rows_file k) at.named at.only ∙ place_live old.files file (named_live old.files file (rows_file k) at.named))

pub bytes_now : (old new : State) (k : ℕ) → ChangesOne old new (rows_file k) → (file : ℕ) → IsOnlyFile old.files (rows_file k) file → bytes_named (rows_file k) new.files ≡ bytes_at new.files file
bytes_now old new k c file at =
    let named : IsNamed new.files file (rows_file k) = c.named file ∙ at.named in
    ap bytes_in_file (named_found new.files file (rows_file k) named (λ j h. at.only j (sym (c.named j) ∙ h)) ∙ place_live new.files file (named_live new.files file (rows_file k) named))

-- where a part of a row stands at its end, a row was being added
pub part_adding : (old : State) (k : ℕ) (schema : Schema) (half : Half) → relation old.files k ≡ Some schema → IsCatalogSound old.files half
    → (file : ℕ) → IsOnlyFile old.files (rows_file k) file → whole_length schema.attributes (bytes_at old.files file) < length (bytes_at old.files file)
    → (half ≡ AddingRow k) × AreRows (mended_catalog old.files).version schema.attributes (whole_rows schema.attributes (bytes_at old.files file))
part_adding old k schema half is stage file at part = by_rows (stage.rows k schema is)
  where
    by_rows : HoldsRowsOr half (mended_catalog old.files).version k schema.attributes (bytes_named (rows_file k) old.files)
        → (half ≡ AddingRow k) × AreRows (mended_catalog old.files).version schema.attributes (whole_rows schema.attributes (bytes_at old.files file))
    by_rows (inl are) =
        let long = long_whole (mended_catalog old.files).version schema.attributes (bytes_at old.files file) (subst (AreRows (mended_catalog old.files).version schema.attributes) (bytes_before old k file at) are) in
        absurd (omega (arith, long, part))
    by_rows (inr p) = (p.0, subst (λ (b : List ℕ). AreRows (mended_catalog old.files).version schema.attributes (whole_rows schema.attributes b)) (bytes_before old k file at) p.1)

-- less than a row stands behind the whole ones
part_short : (attributes : List Attribute) (bytes : List ℕ) → whole_length attributes bytes < length bytes → attributes ≢ []
part_short attributes bytes part =
    let n : ℕ = length bytes in
    let m : ℕ = row_length attributes in
    let some : 0 < m = omega arith in
    let front : n - n % m ≡ m * (n / m) = whole_size n m in
    has_attribute attributes (n % m) (omega (arith, front, part)) (mod-lt n some)

module _ (catalog : Catalog) (old new : State) (k : ℕ) (schema : Schema) (half : Half) (listed : catalog ≡ catalog_in old.files) (c : ChangesOne old new (rows_file k)) (fills : IsFilledIn (λ j. j ≡ k) (mended_base old.files) (mended_base new.files))
    (is : relation old.files k ≡ Some schema) (below : HasRowsBelow old.files k half) where
  version_is : catalog.version ≡ (mended_catalog old.files).version
  version_is = ap (λ (cat : Catalog). cat.version) listed ∙ sym (version_read old.files below.stage.catalog)

  held : HoldsRowsOr half (mended_catalog old.files).version k schema.attributes (bytes_named (rows_file k) old.files)
  held = below.stage.rows k schema is

  -- whole rows stay
  same_rows : whole_length schema.attributes (bytes_named (rows_file k) old.files) ≡ length (bytes_named (rows_file k) old.files) → new ≡ old → HasRowsBelow new.files (k + 1) half
  same_rows long same = subst (λ (s : State). HasRowsBelow s.files (k + 1) half) (sym same) (record {
    stage = below.stage;
    rows = λ j s less e. ⊎_elim
        (λ (one : j ≡ k).
        let own : schema ≡ s = some_same schema s (sym is ∙ ap (relation old.files) (sym one) ∙ e) in
        subst (λ (m : ℕ). AreRows (mended_catalog old.files).version s.attributes (bytes_named (rows_file m) old.files)) (sym one)
        (subst (λ (x : Schema). AreRows (mended_catalog old.files).version x.attributes (bytes_named (rows_file k) old.files)) own (whole held)))
        (λ (differs : j ≢ k). below.rows j s (omega (arith, less, differs)) e)
        (cases_eq j k);
  })
    where
      whole : HoldsRowsOr half (mended_catalog old.files).version k schema.attributes (bytes_named (rows_file k) old.files) → AreRows (mended_catalog old.files).version schema.attributes (bytes_named (rows_file k) old.files)
      whole (inl are) = are
      whole (inr part) = all_whole (mended_catalog old.files).version schema.attributes (bytes_named (rows_file k) old.files) part.1 long

  module _ (file : ℕ) (at : IsOnlyFile old.files (rows_file k) file) where
    before : bytes_named (rows_file k) old.files ≡ bytes_at old.files file
    before = bytes_before old k file at

    now : bytes_named (rows_file k) new.files ≡ bytes_at new.files file
    now = bytes_now old new k c file at

    module _ (part : whole_length schema.attributes (bytes_at old.files file) < length (bytes_at old.files file)) where
      filled : IsFillable catalog k schema.attributes (file_at old.files file) → IsFilledUp schema.attributes (bytes_at old.files file) (bytes_at new.files file) → HasRowsBelow new.files (k + 1) (AddingKey k)
      filled f up =
          let attributes : List Attribute = schema.attributes in
          let a = part_adding old k schema half is below.stage file at part in
          let row : Row = record { tuple = up.removed.tuple; live = false } in
          let old_rows : List Row = rows_of attributes (bytes_at old.files file) in
          let all : rows_of attributes (bytes_named (rows_file k) new.files) ≡ rows_of attributes (bytes_at old.files file) ++ row ∷ [] = ap (rows_of attributes) now ∙ filled_rows attributes (bytes_at old.files file) (bytes_at new.files file) up in
          let few = subst (λ (v : ℕ). slots_in_bytes attributes (bytes_at old.files file) < slots_limit v) version_is f.part.few in
          let are = filled_are_rows attributes (bytes_at old.files file) (bytes_at new.files file) up (mended_catalog old.files).version (part_short attributes (bytes_at old.files file) part) few a.1 in
          let same = filled_once attributes (row_before attributes (bytes_at old.files file)) (part_of_row attributes (bytes_at old.files file)) f.filling.row (part_of_row attributes (bytes_at old.files file) ++ up.rest) f.filling.fills up.fills in
          let read : row_of attributes f.filling.row ≡ row = ap (row_of attributes) same ∙ removed_read attributes (part_of_row attributes (bytes_at old.files file) ++ up.rest) up.removed in
          next_stage old new k schema half (AddingKey k) c fills is below a.0 (subst (AreRows (mended_catalog old.files).version attributes) (sym now) are)
          (λ i index e on complete.
          let there : get_or catalog.indexes i None ≡ Some index = ap (λ (cat : Catalog). get_or cat.indexes i None) listed ∙ index_read_at old.files below.stage.catalog i index e in
          let taken = takes_at catalog.indexes k (slots_in_bytes attributes (bytes_at old.files file)) (row_read attributes (row_before attributes (bytes_at old.files file))) (row_of attributes f.filling.row) i index f.filling.taken.taken there on in
          let takes_row = subst (λ (r : Row). takes_next index.kind index.attribute (slots_in_bytes attributes (bytes_at old.files file)) (row_read attributes (row_before attributes (bytes_at old.files file))) r ≡ true) read taken in
          subst (λ (rs : List Row). IsIndexWhile (AddingKey k) index (bytes_named (tree_file i) old.files) (keys index.attribute rs)) (sym all)
          (index_filled k index (bytes_named (tree_file i) old.files) old_rows row (row_read attributes (row_before attributes (bytes_at old.files file))) (slots_in_bytes attributes (bytes_at old.files file)) on
          (sym (length-map-range_with_len (row_at attributes (bytes_at old.files file)) 0 (slots_in_bytes attributes (bytes_at old.files file))))
          (λ l h. last_read attributes (bytes_at old.files file) l h)
          (subst (λ (b : List ℕ). IsIndexComplete index.kind (bytes_named (tree_file i) old.files) (keys index.attribute (rows_of attributes b))) before complete) takes_row))

      cut : bytes_at new.files file ≡ whole_rows schema.attributes (bytes_at old.files file) → HasRowsBelow new.files (k + 1) Nothing
      cut e =
          let attributes : List Attribute = schema.attributes in
          let a = part_adding old k schema half is below.stage file at part in
          let all : rows_of attributes (bytes_named (rows_file k) new.files) ≡ rows_of attributes (bytes_named (rows_file k) old.files) =
          ap (rows_of attributes) (now ∙ e) ∙ whole_rows_same attributes (bytes_at old.files file) ∙ ap (rows_of attributes) (sym before) in
          next_stage old new k schema half Nothing c fills is below a.0 (subst (AreRows (mended_catalog old.files).version attributes) (sym (now ∙ e)) a.1)
          (λ i index h on complete. inl (subst (λ (rs : List Row). IsIndexComplete index.kind (bytes_named (tree_file i) old.files) (keys index.attribute rs)) (sym all) complete))

  pub mended_below : MendsRows catalog k schema.attributes old new → (after : Half) × HasRowsBelow new.files (k + 1) after
  mended_below (inl none) =
      let empty : bytes_named (rows_file k) old.files ≡ [] = ap bytes_in_file (named_none old.files (rows_file k) none.0) in
      let long : whole_length schema.attributes [] ≡ 0 = ap (λ (n : ℕ). row_length schema.attributes * n) (zero-div (row_length schema.attributes)) ∙ mul-zero (row_length schema.attributes) in
      (half, same_rows (subst (λ (b : List ℕ). whole_length schema.attributes b ≡ length b) (sym empty) long) none.1)
  mended_below (inr (file, at, inl whole)) = (half, same_rows (subst (λ (b : List ℕ). whole_length schema.attributes b ≡ length b) (sym (before file at)) whole.0) whole.1)
  mended_below (inr (file, at, inr (part, inl f))) = (AddingKey k, filled file at part f.0 f.1)
  mended_below (inr (file, at, inr (part, inr (never, inl e)))) = (Nothing, cut file at part e)
  mended_below (inr (file, at, inr (part, inr (never, inr stuck)))) =
      let a = part_adding old k schema half is below.stage file at part in
      absurd (stuck.0 (may_end (mended_catalog old.files).version schema.attributes (file_at old.files file) a.1 (schema_read old.files below.stage.catalog k schema is).short (rows_double old.files below.stage.catalog k file at)))

-- ---- a slot that has no relation, and all slots

none_below : (files : Table) (k : ℕ) (half : Half) → relation files k ≡ None → HasRowsBelow files k half → HasRowsBelow files (k + 1) half
none_below files k half none below = record {
  stage = below.stage;
  rows = λ j s less e. ⊎_elim
      (λ (one : j ≡ k). let no_relation : None ≡ Some s = sym none ∙ ap (relation files) (sym one) ∙ e in absurd (let n : ⊥ = cc in n))
      (λ (differs : j ≢ k). below.rows j s (omega (arith, less, differs)) e)
      (cases_eq j k);
}

all_below : (files : Table) (n : ℕ) (half : Half) → 8 ≤ n → HasRowsBelow files n half → HasWholeRelations files half
all_below files n half all below = record {
  stage = below.stage;
  rows = λ j s e. let at = slot_read files below.stage.catalog j s e in below.rows j s (omega (arith, all, at.below)) e;
}

-- a slot that there is not
past_below : (files : Table) (k : ℕ) (half : Half) → None ≡ (if nat_lt k 8 then Some k else None) → HasRowsBelow files k half → HasRowsBelow files (k + 1) half
past_below files k half none below = record {
  stage = below.stage;
  rows = λ j s less e. let at = slot_read files below.stage.catalog j s e in below.rows j s (let past : 8 ≤ k = by_test (nat_lt k 8) refl none in omega (arith, past, at.below)) e;
}
  where
    by_test : (b : Bool) → nat_lt k 8 ≡ b → None ≡ (if b then Some k else None) → 8 ≤ k
    by_test true t n = absurd (never_some n)
    by_test false t n = grind (arith, nat_tests)

-- ---- steps

pub makes_one : (catalog : Catalog) (old new : State) (k : ℕ) (schema : Schema) → ChangesOne old new (rows_file k) → (IsTrue old.tells → IsFilledIn (λ j. j ≡ k) (mended_base old.files) (mended_base new.files))
    → (IsTrue old.tells → relation old.files k ≡ Some schema) → (IsTrue old.tells → MendsRows catalog k schema.attributes old new) → MakesWhole catalog k (k + 1) old new
unfolding MakesWhole
makes_one catalog old new k schema c fills is mends = λ told listed half below. mended_below catalog old new k schema half listed c (fills told) (is told) below (mends told)

pub makes_none : (catalog : Catalog) (state : State) (k : ℕ) → (IsTrue state.tells → relation state.files k ≡ None) → MakesWhole catalog k (k + 1) state state
unfolding MakesWhole
makes_none catalog state k none = λ told listed half below. (half, none_below state.files k half (none told) below)

pub makes_past : (catalog : Catalog) (state : State) (k : ℕ) → None ≡ (if nat_lt k 8 then Some k else None) → MakesWhole catalog k (k + 1) state state
unfolding MakesWhole
makes_past catalog state k none = λ told listed half below. (half, past_below state.files k half none below)

pub makes_nothing : (catalog : Catalog) (state : State) (k : ℕ) → MakesWhole catalog k k state state
unfolding MakesWhole
makes_nothing catalog state k = λ told listed half below. (half, below)

pub makes_then : (catalog : Catalog) (a b c : State) (l m n : ℕ) → (IsTrue a.tells → IsTrue b.tells) → catalog_bytes_in b.files ≡ catalog_bytes_in a.files → MakesWhole catalog l m a b → MakesWhole catalog m n b c → MakesWhole catalog l n a c
unfolding MakesWhole
makes_then catalog a b c l m n told_then same f g = λ told listed half below.
    let r = f told listed half below in
    g (told_then told) (listed ∙ ap (λ (bytes : List ℕ). catalog_of bytes) (sym same)) r.0 r.1

-- all slots
pub makes_all : (catalog : Catalog) (old new : State) (n : ℕ) → 8 ≤ n → MakesWhole catalog 0 n old new → IsTrue old.tells → catalog ≡ catalog_in old.files → (half : Half) → IsCatalogSound old.files half
    → (after : Half) × HasWholeRelations new.files after
unfolding MakesWhole
makes_all catalog old new n all f told listed half stage =
    let r = f told listed half (record { stage = stage; rows = λ j s less e. absurd (omega (arith, less)) }) in
    (r.0, all_below new.files n r.0 all r.1)

-- the first slots
pub made_below : (catalog : Catalog) (old new : State) (n : ℕ) → MakesWhole catalog 0 n old new → IsTrue old.tells → catalog ≡ catalog_in old.files → (half : Half) → IsCatalogSound old.files half
    → (after : Half) × HasRowsBelow new.files n after
unfolding MakesWhole
made_below catalog old new n f told listed half stage = f told listed half (record { stage = stage; rows = λ j s less e. absurd (omega (arith, less)) })
