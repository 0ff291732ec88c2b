-- The slots of relations, read one after another.
use Rattle.std.proofs.Common.{◌≡◌, ◌≢◌, ⊎_elim, ℕ, ◌+◌, ◌*◌, ◌<◌, ◌≤◌, List, length, get_or, map, set, Option, Some, None, refl, ap, sym, subst, ◌∙◌, arith}
use Rattle.std.specs.Prelude.{IfSome, slice_range}
use Rattle.std.proofs.lemmas.Bool.{cases_eq}
use Rattle.std.proofs.lemmas.List.{get_or-set_other, get_or-set_same}
use Rattle.afl_base.specs.Files.{Table}
use Rattle.catalog.specs.Rules.{catalog_bytes_in}
use Rattle.db_model.specs.declared.schemas.Schema.{Schema}
use Rattle.db_model.specs.Catalog.{relation_at, relation_slot_of}
use Rattle.padded.proofs.Facts.{some_same}
use Rattle.space_model.specs.FileNames.{catalog_file}
use Rattle.stored.specs.CutTables.{IsHalfDone, IsSlot, relation, slot_bytes}
use Rattle.stored.specs.Mended.{mended_catalog, whole_bytes, whole_catalog}
use Rattle.stored.proofs.MendedBase.{whole_long}
use Rattle.stored.specs.declared.half.Half.{Half}
use Rattle.stored_mend.specs.Mending.{IsWholeCatalog}
use Rattle.stored_mend.specs.Slots.{IsReadSlot}
use Rattle.afl_base.specs.Files.{bytes_at}
use Rattle.stored_survey.specs.Asked.{HasNoHalf}
use Rattle.stored_survey.proofs.HalfParts.{only_bytes}
use Rattle.stored_survey.proofs.Slots.{relation_at_slot}

-- the relations of the first slots are ones that may stand there
abbrev pub AreReadBelow : List ℕ → List (Option Schema) → ℕ → Type 0
AreReadBelow bytes relations n = (k : ℕ) (schema : Schema) → k < n → get_or relations k None ≡ Some schema → IsReadSlot (slice_range bytes (176 * k) (176 * k + 176)) schema

pub read_more : (bytes : List ℕ) (relations : List (Option Schema)) (slot : ℕ) (o : Option Schema) → slot < length relations → AreReadBelow bytes relations slot
    → ((schema : Schema) → o ≡ Some schema → IsReadSlot (slice_range bytes (176 * slot) (176 * slot + 176)) schema) → AreReadBelow bytes (set relations slot o) (slot + 1)
read_more bytes relations slot o inside before here k schema below is = ⊎_elim
    (λ (same : k ≡ slot).
    let at : get_or (set relations slot o) slot None ≡ o = get_or-set_same relations slot o None inside in
    let there : o ≡ Some schema = sym at ∙ ap (λ (j : ℕ). get_or (set relations slot o) j None) (sym same) ∙ is in
    subst (λ (j : ℕ). IsReadSlot (slice_range bytes (176 * j) (176 * j + 176)) schema) (sym same) (here schema there))
    (λ (differs : k ≢ slot). before k schema (omega (arith, below, differs)) (sym (get_or-set_other relations slot k o None differs) ∙ is))
    (cases_eq k slot)

pub formed_at : (o : Option Schema) (bytes there : List ℕ) → IfSome o (λ schema. IsReadSlot bytes schema) → bytes ≡ there → (schema : Schema) → o ≡ Some schema → IsReadSlot there schema
formed_at None bytes there formed same schema e = cc
formed_at (Some s) bytes there formed same schema e = subst (λ (xs : List ℕ). IsReadSlot xs schema) same (subst (λ (x : Schema). IsReadSlot bytes x) (some_same s schema e) formed)

-- a slot that may stand beside nothing that is half done
pub no_half : (files : Table) (slot : ℕ) (bytes : List ℕ) → slot < 8 → bytes ≡ slot_bytes files slot
    → ((half : Half) (version k : ℕ) → IsSlot half version k bytes (relation_slot_of bytes) → ⊥) → HasNoHalf files
no_half files slot bytes below read none half h =
    none half (mended_catalog files).version slot
    (subst (λ (xs : List ℕ). IsSlot half (mended_catalog files).version slot xs (relation_slot_of xs)) (sym read)
    (subst (λ (o : Option Schema). IsSlot half (mended_catalog files).version slot (slot_bytes files slot) o) (relation_at_slot files slot below) (h.slots slot below)))

-- the bytes of a whole catalog
pub whole_is : (files : Table) (cat : ℕ) → IsWholeCatalog files cat → bytes_at files cat ≡ whole_catalog files
whole_is files cat w =
    let same : bytes_at files cat ≡ catalog_bytes_in files = only_bytes files cat catalog_file w.named w.only in
    let long = w.long in
    sym (whole_long (bytes_at files cat) long) ∙ ap whole_bytes same

pub catalog_long : (files : Table) (cat : ℕ) → IsWholeCatalog files cat → 1472 ≤ length (catalog_bytes_in files)
catalog_long files cat w = let long = w.long in let same = ap (λ (xs : List ℕ). length xs) (only_bytes files cat catalog_file w.named w.only) in omega (arith, long, same)
