-- A catalog whose relation slot was being changed is read as before, or with the slot as it was to be.
use Rattle.std.proofs.Common.{◌≡◌, ◌⊎◌, inl, inr, ℕ, ◌+◌, ◌*◌, ◌%◌, ◌<◌, ◌≤◌, List, [], ◌∷◌, length, length-append, take, Option, Some, None, sym, subst, ◌∙◌, arith, IsTrue}
use Rattle.std.specs.Prelude.{slice_range}
use Rattle.afl_base.specs.Fields.{put_at}
use Rattle.catalog.specs.CatalogFile.{IsCatalogSize, ReplacesFront}
use Rattle.catalog.proofs.Replaced.{IsReadBack, read_back}
use Rattle.db_model.specs.declared.schemas.Attribute.{Attribute}
use Rattle.db_model.specs.declared.schemas.Schema.{Schema}
use Rattle.db_model.specs.Catalog.{relation_slot_bytes}
use Rattle.db_model.specs.Names.{is_name}
use Rattle.stored.proofs.CatalogParts.{IsFrontPart, appended_relation, overwritten_attribute, overwritten_cleared, overwritten_new}
use Rattle.stored.proofs.MendedTables.{ReadsRelation, ReadsSame}
use Rattle.session_relations.specs.Changes.{bare_schema}
use Rattle.session_relations.proofs.ReadBack.{longer, short_of}

-- all slots are read as before, or that of the relation alone as another
abbrev pub MayRead : (old now : List ℕ) (slot : ℕ) → Option Schema → Type 0
MayRead old now slot o = ReadsSame old now ⊎ ReadsRelation old now slot o

front_part : (at done : ℕ) (slot : List ℕ) → length slot ≡ 176 → (done ≡ 0) ⊎ ((done ≡ length slot) ⊎ ((at + done) % 128 ≡ 0)) → IsFrontPart at 176 done
front_part at done slot long (inl none) = inl none
front_part at done slot long (inr (inl all)) = inr (inl (all ∙ long))
front_part at done slot long (inr (inr ends)) = inr (inr ends)

part_read : (old now : List ℕ) (slot : ℕ) (o : Option Schema) → IsCatalogSize (length old) → slot < 8 → IsReadBack o
    → ((n : ℕ) → 1472 ≤ length old → n ≤ 176 → IsFrontPart (176 * slot) 176 n → MayRead old (put_at old (176 * slot) (take n (relation_slot_bytes o))) slot o)
    → ReplacesFront old (176 * slot) (relation_slot_bytes o) now → MayRead old now slot o
part_read old now slot o size below back over (inl front) =
    subst (λ (bytes : List ℕ). MayRead old bytes slot o) (sym front.is) (appended_relation old slot o size below back front.done front.first)
part_read old now slot o size below back over (inr part) =
    subst (λ (bytes : List ℕ). MayRead old bytes slot o) (sym part.is)
    (over part.done part.some (omega (arith, part.within, back.0)) (front_part (176 * slot) part.done (relation_slot_bytes o) back.0 part.whole))

module _ (old now : List ℕ) (slot : ℕ) (size : IsCatalogSize (length old)) (below : slot < 8) where
  -- a new relation, in a slot that was unused
  pub new_read : (name : List ℕ) → IsTrue (is_name name) → (1472 ≤ length old → slice_range old (176 * slot) (176 * slot + 176) ≡ relation_slot_bytes None)
      → ReplacesFront old (176 * slot) (relation_slot_bytes (Some (bare_schema name))) now → MayRead old now slot (Some (bare_schema name))
  new_read name is was =
      part_read old now slot (Some (bare_schema name)) size below (read_back (Some (bare_schema name)) (is, omega arith, tt))
      (λ n long few part. overwritten_new old slot n name long below few part (is, omega arith, tt) (was long))

  -- a relation with one attribute more
  pub more_read : (s : Schema) (a : Attribute) → IsReadBack (Some s) → IsReadBack (Some (longer s a)) → length (longer s a).attributes ≤ 8
      → (1472 ≤ length old → slice_range old (176 * slot) (176 * slot + 176) ≡ relation_slot_bytes (Some s))
      → ReplacesFront old (176 * slot) (relation_slot_bytes (Some (longer s a))) now → MayRead old now slot (Some (longer s a))
  more_read s a back more few was =
      part_read old now slot (Some (longer s a)) size below more
      (λ n long part_few part. overwritten_attribute old slot n s a long below part_few (short_of s back (omega (arith, few, length-append s.attributes (a ∷ [])))) (short_of (longer s a) more few) (was long))

  -- no relation
  pub none_read : ReplacesFront old (176 * slot) (relation_slot_bytes None) now → MayRead old now slot None
  none_read = part_read old now slot None size below (read_back None tt) (λ n long few part. overwritten_cleared old slot n long below few part)
