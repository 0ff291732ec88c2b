-- What refuses that an index comes or goes, and what is made of the database otherwise.
use Rattle.std.proofs.Common.{◌≡◌, ℕ, suc, ◌+◌, Bool, true, false, cond, List, [], ◌∷◌, map, get_or, Option, Some, None, refl, ap, subst, arith, Ok, Err}
use Rattle.std.specs.Prelude.{is_some, option_map, slice_get, ◌==◌}
use Rattle.afl_base.specs.Files.{Table}
use Rattle.db_model.specs.declared.refusals.Pool.TheVariants as pool
use Rattle.db_model.specs.declared.refusals.Refusal.TheVariants as no
use Rattle.db_model.specs.declared.schemas.Attribute.{Attribute}
use Rattle.db_model.specs.declared.schemas.IndexKind.{IndexKind}
use Rattle.db_model.specs.Database.{free_from, index_from, is_on, reader_of, with_index}
use Rattle.db_model.specs.Item.{place_of}
use Rattle.db_model.specs.Refusing.{◌>>◌}
use Rattle.db_model.specs.Step.{Fine, allows, create_index, keys, refuse_kind, remove_index}
use Rattle.tuple_file.specs.declared.tuples.Tuples.{Tuples}
use Rattle.tuple_file.specs.Tuples.{rows}
use Rattle.session_model.specs.declared.held.Held.{Held}
use Rattle.session_model.specs.declared.held.Indexed.{Indexed}
use Rattle.session_model.specs.declared.held.Open.{Open}
use Rattle.session_model.specs.Cells.{cell_from}
use Rattle.session_model.specs.Indexed.{index_known}
use Rattle.session_model.specs.View.{view}
use Rattle.session_model.proofs.Views.{found_in_view}
use Rattle.session_model.proofs.Rules.{both_parts}
use Rattle.session_indexes.specs.Sites.{is_held_on, slot_from}
use Rattle.padded.proofs.Facts.{true_eq}

-- ---- slots of indexes

pub slot_seen : (relation attribute n : ℕ) (xs : List (Option Indexed)) → index_from relation attribute n (map (option_map index_known) xs) ≡ slot_from relation attribute n xs
slot_seen relation attribute n [] = refl
slot_seen relation attribute n (None ∷ xs) = slot_seen relation attribute (n + 1) xs
slot_seen relation attribute n (Some x ∷ xs) =
    ap (λ (o : Option ℕ). cond (is_on relation attribute (index_known x)) (Some n) o) (slot_seen relation attribute (n + 1) xs)

pub free_seen : (n : ℕ) (xs : List (Option Indexed)) → free_from n (map (option_map index_known) xs) ≡ free_from n xs
free_seen n [] = refl
free_seen n (None ∷ xs) = refl
free_seen n (Some x ∷ xs) = free_seen (n + 1) xs

-- ---- CREATE INDEX

module _ (files : Table) (held : Held) (opens : List (Option Open)) (name attribute : List ℕ) (kind : IndexKind) where
  pub no_relation : cell_from name 0 held.relations ≡ None → create_index (view files held opens) name attribute kind ≡ Err no.NoRelation
  no_relation e = rw (found_in_view files name 0 held.relations, e) refl

  module _ (k : ℕ) (t : Tuples) (cell : cell_from name 0 held.relations ≡ Some (k, t)) where
    pub no_attribute : place_of attribute t.schema.attributes ≡ None → create_index (view files held opens) name attribute kind ≡ Err (no.NoAttribute 1)
    no_attribute e = rw (found_in_view files name 0 held.relations, cell, e) refl

    module _ (p : ℕ) (a : Attribute) (at : place_of attribute t.schema.attributes ≡ Some p) (is : slice_get t.schema.attributes p ≡ Some a) where
      pub no_domain : allows kind a.domain ≡ false → create_index (view files held opens) name attribute kind ≡ Err no.Domain
      no_domain e = rw (found_in_view files name 0 held.relations, cell, at, is, e) refl

      module _ (may : allows kind a.domain ≡ true) where
        pub exists : is_some (slot_from k p 0 held.indexes) ≡ true → create_index (view files held opens) name attribute kind ≡ Err no.Exists
        exists e = rw (found_in_view files name 0 held.relations, cell, at, is, may, slot_seen k p 0 held.indexes, e) refl

        module _ (new : is_some (slot_from k p 0 held.indexes) ≡ false) where
          pub full : free_from 0 held.indexes ≡ None → create_index (view files held opens) name attribute kind ≡ Err (no.Full pool.Indexes 8)
          full e = rw (found_in_view files name 0 held.relations, cell, at, is, may, slot_seen k p 0 held.indexes, new, free_seen 0 held.indexes, e) refl

          -- what is left to refuse it is of its kind
          pub placed : (i : ℕ) → free_from 0 held.indexes ≡ Some i
              → create_index (view files held opens) name attribute kind
              ≡ ◌>>◌ (refuse_kind kind (view files held opens) (keys p (rows files t)))
              (Ok (with_index (view files held opens) i (Some (record { kind = kind; relation = k; attribute = p })), Fine))
          placed i e = rw (found_in_view files name 0 held.relations, cell, at, is, may, slot_seen k p 0 held.indexes, new, free_seen 0 held.indexes, e) refl

-- ---- REMOVE INDEX

-- the index that is found
record FoundAt (xs : List (Option Indexed)) (relation n m : ℕ) : Type 0 where
  i : ℕ
  x : Indexed
  sum : m ≡ n + i
  there : get_or xs i None ≡ Some x
  on : x.relation ≡ relation

found_behind : (o : Option Indexed) (xs : List (Option Indexed)) (relation n m : ℕ) → FoundAt xs relation (n + 1) m → FoundAt (o ∷ xs) relation n m
found_behind o xs relation n m f = record { i = suc f.i; x = f.x; sum = omega (arith, f.sum); there = f.there; on = f.on }

found_first : (x : Indexed) (xs : List (Option Indexed)) (relation attribute n m : ℕ) (rest : Option ℕ) (b : Bool) → is_held_on relation attribute (Some x) ≡ b → cond b (Some n) rest ≡ Some m
    → (rest ≡ Some m → FoundAt xs relation (n + 1) m) → FoundAt (Some x ∷ xs) relation n m
found_first x xs relation attribute n m rest true t e behind =
    let same : n ≡ m = cc in
    record { i = 0; x = x; sum = omega (arith, same); there = refl; on = true_eq x.relation relation (both_parts (x.relation == relation) (x.attribute == attribute) t).0 }
found_first x xs relation attribute n m rest false t e behind = found_behind (Some x) xs relation n m (behind e)

found_at : (relation attribute n : ℕ) (xs : List (Option Indexed)) (m : ℕ) → slot_from relation attribute n xs ≡ Some m → FoundAt xs relation n m
found_at relation attribute n [] m e = absurd (cc)
found_at relation attribute n (None ∷ xs) m e = found_behind None xs relation n m (found_at relation attribute (n + 1) xs m e)
found_at relation attribute n (Some x ∷ xs) m e =
    found_first x xs relation attribute n m (slot_from relation attribute (n + 1) xs) (is_held_on relation attribute (Some x)) refl e (λ g. found_at relation attribute (n + 1) xs m g)

pub record Found (xs : List (Option Indexed)) (relation slot : ℕ) : Type 0 where
  pub index : Indexed
  pub there : get_or xs slot None ≡ Some index
  pub on : index.relation ≡ relation

pub slot_found : (relation attribute : ℕ) (xs : List (Option Indexed)) (slot : ℕ) → slot_from relation attribute 0 xs ≡ Some slot → Found xs relation slot
slot_found relation attribute xs slot e =
    let f = found_at relation attribute 0 xs slot e in
    let same : f.i ≡ slot = omega (arith, f.sum) in
    record { index = f.x; there = subst (λ (j : ℕ). get_or xs j None ≡ Some f.x) same f.there; on = f.on }

module _ (files : Table) (held : Held) (opens : List (Option Open)) (name attribute : List ℕ) where
  pub no_relation_of : cell_from name 0 held.relations ≡ None → remove_index (view files held opens) name attribute ≡ Err no.NoRelation
  no_relation_of e = rw (found_in_view files name 0 held.relations, e) refl

  module _ (k : ℕ) (t : Tuples) (cell : cell_from name 0 held.relations ≡ Some (k, t)) where
    pub no_attribute_of : place_of attribute t.schema.attributes ≡ None → remove_index (view files held opens) name attribute ≡ Err (no.NoAttribute 1)
    no_attribute_of e = rw (found_in_view files name 0 held.relations, cell, e) refl

    module _ (p : ℕ) (at : place_of attribute t.schema.attributes ≡ Some p) where
      pub no_index : slot_from k p 0 held.indexes ≡ None → remove_index (view files held opens) name attribute ≡ Err no.NoIndex
      no_index e = rw (found_in_view files name 0 held.relations, cell, at, slot_seen k p 0 held.indexes, e) refl

      module _ (slot : ℕ) (there : slot_from k p 0 held.indexes ≡ Some slot) where
        pub in_use : (n : ℕ) → reader_of (view files held opens) name ≡ Some n → remove_index (view files held opens) name attribute ≡ Err (no.InUse n)
        in_use n e = rw (found_in_view files name 0 held.relations, cell, at, slot_seen k p 0 held.indexes, there, e) refl

        pub removed : reader_of (view files held opens) name ≡ None → remove_index (view files held opens) name attribute ≡ Ok (with_index (view files held opens) slot None, Fine)
        removed e = rw (found_in_view files name 0 held.relations, cell, at, slot_seen k p 0 held.indexes, there, e) refl
