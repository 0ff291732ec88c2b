-- PACK in a session, refusal by refusal.
use Rattle.std.proofs.Common.{◌≡◌, ℕ, ◌<◌, ◌≤◌, ◌⊎◌, Bool, true, false, List, [], ◌∷◌, length, filter, Option, Some, None, refl, ap, sym, subst, ◌∙◌, ◌*◌, arith, Ok, Err, inl, inr}
use Rattle.std.specs.Prelude.{IsOk, nat_lt, ◌==◌}
use Rattle.std.proofs.lemmas.Bool.{cases_lt}
use Rattle.std.proofs.lemmas.Bool.Decides.{nat_tests}
use Rattle.std.proofs.lemmas.List.{length-map}
use Rattle.afl_base.specs.Files.{Table}
use Rattle.afl_base.specs.Fit.{fit}
use Rattle.db_model.specs.declared.refusals.Refusal.TheVariants as no
use Rattle.db_model.specs.Database.{Database, Relation, indexes_of, reader_of}
use Rattle.db_model.specs.Row.{Row, row_length}
use Rattle.db_model.specs.Step.{Fine, pack}
use Rattle.index_set.specs.declared.info.IndexInfo.{IndexInfo}
use Rattle.tuple_file.specs.declared.tuples.Tuples.{Tuples}
use Rattle.tuple_file.specs.Tuples.{rows}
use Rattle.tuple_file.proofs.Packed.{length-living, living_all}
use Rattle.session_model.specs.declared.held.Held.{Held}
use Rattle.session_model.specs.declared.held.Open.{Open}
use Rattle.session_model.specs.Indexed.{index_of_info, infos_of}
use Rattle.session_model.specs.View.{relation_of_rows, view}
use Rattle.session_model.proofs.Running.{indexes_seen}
use Rattle.session_rows.specs.Wanted.{WantsPackedRows}

-- ---- what the machine makes of it

by_reader : (k n : ℕ) (db : Database) (r : Relation) → reader_of db r.schema.name ≡ Some n → pack k db r ≡ Err (no.InUse n)
by_reader k n db r e = rw e refl

by_index : (k : ℕ) (db : Database) (r : Relation) → reader_of db r.schema.name ≡ None → 0 < length (indexes_of db k) → pack k db r ≡ Err no.HasIndex
by_index k db r e some =
    let test : nat_lt 0 (length (indexes_of db k)) ≡ true = grind (arith, nat_tests) in
    rw (e, test) refl

by_none : (k : ℕ) (db : Database) (r : Relation) → reader_of db r.schema.name ≡ None → length (indexes_of db k) ≡ 0
    → pack k db r ≡ Ok (record { schema = r.schema; rows = filter (λ row. row.live) r.rows }, Fine)
by_none k db r e none =
    let test : nat_lt 0 (length (indexes_of db k)) ≡ false = grind (arith, nat_tests) in
    rw (e, test) refl

-- ---- in a session

module _ (files : Table) (held : Held) (opens : List (Option Open)) (k : ℕ) (t : Tuples) where
  indexes_counted : length (indexes_of (view files held opens) k) ≡ length (infos_of k t held.indexes)
  indexes_counted = ap (λ xs. length xs) (indexes_seen k t held.indexes) ∙ length-map (infos_of k t held.indexes) (index_of_info k)

  pub is_read : (n : ℕ) → reader_of (view files held opens) t.schema.name ≡ Some n → pack k (view files held opens) (relation_of_rows files t) ≡ Err (no.InUse n)
  is_read n e = by_reader k n (view files held opens) (relation_of_rows files t) e

  pub is_indexed : reader_of (view files held opens) t.schema.name ≡ None → 0 < length (infos_of k t held.indexes) → pack k (view files held opens) (relation_of_rows files t) ≡ Err no.HasIndex
  is_indexed e some = by_index k (view files held opens) (relation_of_rows files t) e (omega (arith, some, indexes_counted))

  pub is_packed : (now : Table) → reader_of (view files held opens) t.schema.name ≡ None → length (infos_of k t held.indexes) ≡ 0 → rows now t ≡ filter (λ row. row.live) (rows files t)
      → pack k (view files held opens) (relation_of_rows files t) ≡ Ok (relation_of_rows now t, Fine)
  is_packed now e none packed =
      by_none k (view files held opens) (relation_of_rows files t) e (indexes_counted ∙ none)
      ∙ ap (λ (all : List Row). Ok (record { schema = t.schema; rows = all }, Fine)) (sym packed)

  pub may_pack : reader_of (view files held opens) t.schema.name ≡ None → length (infos_of k t held.indexes) ≡ 0 → IsOk (pack k (view files held opens) (relation_of_rows files t))
  may_pack e none = rw (by_none k (view files held opens) (relation_of_rows files t) e (indexes_counted ∙ none)) refl

-- ---- lists of indexes, and of rows

pub none_counted : (xs ys : List IndexInfo) (empty : Bool) → xs ≡ ys → empty ≡ (length xs == 0) → empty ≡ true → length ys ≡ 0
none_counted xs [] empty same e is = refl
none_counted xs (y ∷ ys) empty same e is = let long : length xs ≡ length (y ∷ ys) = ap (λ (l : List IndexInfo). length l) same in grind (arith, nat_tests)

pub some_counted : (xs ys : List IndexInfo) (empty : Bool) → xs ≡ ys → empty ≡ (length xs == 0) → empty ≡ false → 0 < length ys
some_counted xs [] empty same e is = let long : length xs ≡ 0 = ap (λ (l : List IndexInfo). length l) same in grind (arith, nat_tests)
some_counted xs (y ∷ ys) empty same e is = omega arith

pub no_infos : (infos : List IndexInfo) → length infos ≡ 0 → infos ≡ []
no_infos [] e = refl
no_infos (x ∷ infos) e = absurd (omega (arith, e))

-- where some row is removed there are fewer live ones
some_removed : (all : List Row) → (filter (λ row. row.live) all ≡ all → ⊥) → length (filter (λ row. row.live) all) < length all
some_removed all h = by_length (cases_lt (length (filter (λ (row : Row). row.live) all)) (length all))
  where
    by_length : (length (filter (λ (row : Row). row.live) all) < length all) ⊎ (length all ≤ length (filter (λ (row : Row). row.live) all)) → length (filter (λ (row : Row). row.live) all) < length all
    by_length (inl few) = few
    by_length (inr many) = let most = length-living all in absurd (h (living_all all (omega (arith, most, many))))

pub wants_packed : (r now : Relation) (need : ℕ) → now ≡ r → (filter (λ row. row.live) r.rows ≡ r.rows → ⊥)
    → need ≡ fit (row_length r.schema.attributes * length (filter (λ row. row.live) r.rows)) → WantsPackedRows now need
wants_packed r now need same some e = let P : Relation → Type 0 = λ z. WantsPackedRows z need in subst P (sym same) (some_removed r.rows some, e)
