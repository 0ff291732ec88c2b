-- The database that files stand for does not depend on their order.
use Rattle.std.proofs.Common.{◌≡◌, ℕ, zero, suc, ◌-◌, ◌<◌, Bool, false, not, List, [], ◌∷◌, map, get_or, Option, Some, None, if◌then◌else◌, refl, ap, sym, subst, ◌∙◌, arith}
use Rattle.std.specs.Prelude.{is_some, option_map}
use Rattle.std.specs.List.{range_with_len}
use Rattle.afl_base.specs.Files.{AreDistinct, File, Table, place}
use Rattle.db_model.specs.declared.schemas.Schema.{Schema}
use Rattle.db_model.specs.Catalog.{Index, catalog_of}
use Rattle.db_model.specs.Database.{Database, Relation}
use Rattle.db_model.specs.Row.{rows_of}
use Rattle.db_model.specs.Step.{keys}
use Rattle.space_model.specs.Enough.{rows_in}
use Rattle.space_model.specs.FileNames.{catalog_file, rows_file, tree_file}
use Rattle.tuple_file.specs.Tuples.{AreRows}
use Rattle.stored.specs.Sound.{IsIndexComplete, IsSoundTable}
use Rattle.space_model.specs.FileNames.{bytes_named}
use Rattle.stored.specs.Base.{base_of, relation_stored}
use Rattle.catalog.specs.Rules.{catalog_in}
use Rattle.catalog.specs.Rules.{breaks_files, broken_slot, broken_catalog, catalog_bytes_in, earliest, first, first_broken, is_of_database, is_stranger}
use Rattle.space_model.specs.FileNames.{bytes_in_file, file_named, is_there}
use Rattle.stored.specs.Same.{HaveSameFiles}
use Rattle.space_model.proofs.NamedFiles.{named_here, named_place}
use Rattle.stored.proofs.FilesOf.{AreInTable, first_false, unbroken}

-- ---- by name

no_name : (files : Table) (name : List ℕ) (f : File) (id : ℕ) → AreDistinct files → place files id ≡ Some f → f.name ≡ name → file_named name files ≡ Some f
no_name files name f id d there e = ap (λ n. file_named n files) (sym e) ∙ named_here files id f d there

-- the file of a name, in both
pub bytes_same : (old new : Table) (name : List ℕ) → AreDistinct old → AreDistinct new → HaveSameFiles old new → bytes_in_file (file_named name old) ≡ bytes_in_file (file_named name new)
bytes_same old new name d k s = by_old (file_named name old) refl
  where
    by_new : (o : Option File) → file_named name new ≡ o → file_named name old ≡ None → [] ≡ bytes_in_file o
    by_new None e none = refl
    by_new (Some g) e none =
        let at = named_place new name g e in
        let like = s.only at.0 g at.1 in
        let found = no_name old name like.file like.id d like.there (like.name ∙ at.2) in
        let no : None ≡ Some like.file = sym none ∙ found in
        absurd (let n : ⊥ = cc in n)

    by_old : (o : Option File) → file_named name old ≡ o → bytes_in_file o ≡ bytes_in_file (file_named name new)
    by_old None e = by_new (file_named name new) refl e
    by_old (Some f) e =
        let at = named_place old name f e in
        let like = s.kept at.0 f at.1 in
        sym (ap bytes_in_file (no_name new name like.file like.id k like.there (like.name ∙ at.2)) ∙ like.bytes)

pub map_same : {X : Type 0} (f g : ℕ → X) → ((k : ℕ) → f k ≡ g k) → (ks : List ℕ) → map f ks ≡ map g ks
map_same f g h [] = refl
map_same f g h (k ∷ ks) = ap (λ x. x ∷ map f ks) (h k) ∙ ap (λ rest. g k ∷ rest) (map_same f g h ks)

relation_same : (old new : Table) (schemas : List (Option Schema)) (slot : ℕ) → AreDistinct old → AreDistinct new → HaveSameFiles old new → relation_stored old schemas slot ≡ relation_stored new schemas slot
relation_same old new schemas slot d k s =
    ap (λ bytes. option_map (λ (schema : Schema). record { schema = schema; rows = rows_of schema.attributes bytes }) (get_or schemas slot None)) (bytes_same old new (rows_file slot) d k s)

-- the same database
pub base_same : (old new : Table) → AreDistinct old → AreDistinct new → HaveSameFiles old new → base_of old ≡ base_of new
base_same old new d k s =
    let catalog = bytes_same old new catalog_file d k s in
    let made : List ℕ → List (Option Relation) → Database = λ bytes relations. record {
      version = (catalog_of bytes).version;
      relations = relations;
      indexes = (catalog_of bytes).indexes;
      cursors = (base_of old).cursors;
    } in
    ap (λ bytes. made bytes (map (relation_stored old (catalog_of bytes).relations) (range_with_len 0 8))) catalog
    ∙ ap (made (catalog_bytes_in new))
    (map_same (relation_stored old (catalog_in new).relations) (relation_stored new (catalog_in new).relations) (λ slot. relation_same old new (catalog_in new).relations slot d k s) (range_with_len 0 8))

-- ---- sound tables

pub there_same : (old new : Table) (name : List ℕ) → AreDistinct old → AreDistinct new → HaveSameFiles old new → is_there name old ≡ is_there name new
there_same old new name d k s = by_both (file_named name old) refl (file_named name new) refl
  where
    by_both : (o : Option File) → file_named name old ≡ o → (p : Option File) → file_named name new ≡ p → is_some o ≡ is_some p
    by_both None e None h = refl
    by_both (Some f) e (Some g) h = refl
    by_both None e (Some g) h =
        let at = named_place new name g h in
        let like = s.only at.0 g at.1 in
        let no : None ≡ Some like.file = sym e ∙ no_name old name like.file like.id d like.there (like.name ∙ at.2) in
        absurd (let n : ⊥ = cc in n)
    by_both (Some f) e None h =
        let at = named_place old name f e in
        let like = s.kept at.0 f at.1 in
        let no : None ≡ Some like.file = sym h ∙ no_name new name like.file like.id k like.there (like.name ∙ at.2) in
        absurd (let n : ⊥ = cc in n)

breaks_same : (old new : Table) (relations : List (Option Schema)) (indexes : List (Option Index)) (k : ℕ) → AreDistinct old → AreDistinct new → HaveSameFiles old new → breaks_files old relations indexes k ≡ breaks_files new relations indexes k
unfolding breaks_files
breaks_same old new relations indexes k d e s = rw (there_same old new (rows_file k) d e s, there_same old new (tree_file (k - 8)) d e s) refl

-- the search, by what was found before and the last test
last_of : ℕ → Option ℕ → Bool → Option ℕ
last_of n (Some k) b = Some k
last_of n None b = if b then Some n else None

first_is : (test : ℕ → Bool) (n : ℕ) → first (suc n) test ≡ last_of n (first n test) (test n)
unfolding first last_of
first_is test n = by_found (first n test)
  where
    by_found : (o : Option ℕ) → ◌≡◌ {A = Option ℕ} (elim o [ Some k ↦ Some k | None ↦ if test n then Some n else None ]) (last_of n o (test n))
    by_found None = refl
    by_found (Some k) = refl

first_same : (f g : ℕ → Bool) (n : ℕ) → ((k : ℕ) → f k ≡ g k) → first n f ≡ first n g
unfolding first
first_same f g zero h = refl
first_same f g (suc n) h = first_is f n ∙ ap (λ o. last_of n o (f n)) (first_same f g n h) ∙ ap (last_of n (first n g)) (h n) ∙ sym (first_is g n)

pub first_nothing : (test : ℕ → Bool) (n : ℕ) → ((k : ℕ) → k < n → test k ≡ false) → first n test ≡ None
unfolding first last_of
first_nothing test zero h = refl
first_nothing test (suc n) h = first_is test n ∙ ap (λ o. last_of n o (test n)) (first_nothing test n (λ k less. h k (omega (arith, less)))) ∙ ap (last_of n None) (h n (omega arith))

known : (old new : Table) → AreDistinct old → AreDistinct new → HaveSameFiles old new → AreInTable old → first 32 (is_stranger old) ≡ None → (id : ℕ) → is_stranger new id ≡ false
known old new d k s few none id = by_place (place new id) refl
  where
    of_old : (f : File) (at : ℕ) → place old at ≡ Some f → not (is_of_database f.name f.kind) ≡ false
    of_old f at e = ap (λ o. elim o [ None ↦ false | Some x ↦ not (is_of_database x.name x.kind) ]) (sym e) ∙ first_false (is_stranger old) 32 at (few at f e) none

    by_place : (o : Option File) → place new id ≡ o → elim o [ None ↦ false | Some x ↦ not (is_of_database x.name x.kind) ] ≡ false
    by_place None e = refl
    by_place (Some f) e =
        let like = s.only id f e in
        ap (λ n. not (is_of_database n f.kind)) (sym like.name) ∙ ap (λ x. not (is_of_database like.file.name x)) (sym like.kind) ∙ of_old like.file like.id like.there

none_broken : (rule : ℕ) (o : Option ℕ) → o ≡ None → broken_slot rule o ≡ None
none_broken rule None e = refl
none_broken rule (Some k) e = cc

none_earliest : (o : Option (ℕ × ℕ)) (rest : List (Option (ℕ × ℕ))) → o ≡ None → earliest rest ≡ None → earliest (o ∷ rest) ≡ None
none_earliest None rest e f = f
none_earliest (Some b) rest e f = cc

-- files with the names, kinds and bytes of a sound table are one
pub sound_same : (old new : Table) → AreDistinct old → AreDistinct new → HaveSameFiles old new → AreInTable old → IsSoundTable old → IsSoundTable new
unfolding first_broken
sound_same old new d k s few t =
    let catalog = bytes_same old new catalog_file d k s in
    let parts = unbroken old t.catalog in
    let base = base_same old new d k s in
    let eighteen : first 16 (breaks_files new (catalog_in new).relations (catalog_in new).indexes) ≡ None =
    sym (first_same (breaks_files old (catalog_in new).relations (catalog_in new).indexes) (breaks_files new (catalog_in new).relations (catalog_in new).indexes) 16 (λ i. breaks_same old new (catalog_in new).relations (catalog_in new).indexes i d k s))
    ∙ subst (λ bytes. first 16 (breaks_files old (catalog_of bytes).relations (catalog_of bytes).indexes) ≡ None) catalog parts.files_there in
    let inner : broken_catalog (catalog_bytes_in new) ≡ None = subst (λ bytes. broken_catalog bytes ≡ None) catalog parts.inner in
    record {
      catalog =
          none_earliest (broken_slot 14 (first 32 (is_stranger new))) (broken_catalog (catalog_bytes_in new) ∷ broken_slot 18 (first 16 (breaks_files new (catalog_in new).relations (catalog_in new).indexes)) ∷ [])
          (none_broken 14 (first 32 (is_stranger new)) (first_nothing (is_stranger new) 32 (λ i less. known old new d k s few parts.strangers i)))
          (none_earliest (broken_catalog (catalog_bytes_in new)) (broken_slot 18 (first 16 (breaks_files new (catalog_in new).relations (catalog_in new).indexes)) ∷ []) inner
          (none_earliest (broken_slot 18 (first 16 (breaks_files new (catalog_in new).relations (catalog_in new).indexes))) [] (none_broken 18 (first 16 (breaks_files new (catalog_in new).relations (catalog_in new).indexes)) eighteen) refl));
      rows = λ slot within schema e.
          subst (λ bytes. AreRows (catalog_in new).version schema.attributes bytes) (bytes_same old new (rows_file slot) d k s)
          (subst (λ bytes. get_or (catalog_of bytes).relations slot None ≡ Some schema → AreRows (catalog_of bytes).version schema.attributes (bytes_in_file (file_named (rows_file slot) old))) catalog (t.rows slot within schema) e);
      indexes = λ slot within index e.
          subst (λ db. IsIndexComplete index.kind (bytes_named (tree_file slot) new) (keys index.attribute (rows_in db index.relation))) base
          (subst (λ bytes. IsIndexComplete index.kind bytes (keys index.attribute (rows_in (base_of old) index.relation))) (bytes_same old new (tree_file slot) d k s)
          (subst (λ bytes. get_or (catalog_of bytes).indexes slot None ≡ Some index → IsIndexComplete index.kind (bytes_named (tree_file slot) old) (keys index.attribute (rows_in (base_of old) index.relation))) catalog (t.indexes slot within index) e));
    }
