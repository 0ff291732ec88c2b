-- What refuses a hash table.
use Rattle.std.proofs.Common.{◌≡◌, ℕ, ◌<◌, ◌≤◌, true, false, List, length, filter, Option, Some, None, refl, ap, sym, ◌∙◌, subst, arith, Ok, Err, ℤ}
use Rattle.std.specs.Prelude.{Result, nat_le, nat_lt, slice_get}
use Rattle.std.proofs.lemmas.Bool.Decides.{nat_tests}
use Rattle.std.proofs.lemmas.List.{length-map}
use Rattle.afl_base.specs.declared.kind.FileError.{FileError}
use Rattle.afl_base.specs.declared.kind.FileError.TheVariants.{Space, Failed}
use Rattle.afl_base.specs.FileErrors.{OnSpace}
use Rattle.afl_base.specs.Files.{State}
use Rattle.db_model.specs.declared.schemas.IndexKind.{IndexKind}
use Rattle.db_model.specs.declared.refusals.Pool.TheVariants as pool
use Rattle.db_model.specs.declared.refusals.Refusal.TheVariants as no
use Rattle.db_model.specs.declared.schemas.IndexKind.TheVariants.{MemHash}
use Rattle.db_model.specs.Catalog.{Index}
use Rattle.db_model.specs.Database.{is_hash_table, most_tables, used_things}
use Rattle.db_model.specs.Row.{Row}
use Rattle.db_model.specs.Step.{key_of}
use Rattle.index_set.specs.declared.info.TableId.{TableId}
use Rattle.tuple_file.specs.declared.tuples.Tuples.{Tuples}
use Rattle.tuple_file.specs.Tuples.{rows}
use Rattle.session_model.specs.declared.held.Indexed.{Indexed}
use Rattle.session_indexes.specs.declared.sites.Site.{Site}
use Rattle.session_indexes.specs.Made.{AreElsewhere, HaveTables, IsTried, IsUnrefused, keys_at}
use Rattle.session_indexes.specs.Sites.{free_table}
use Rattle.session_indexes.proofs.Free.{tables_few, tables_full}

pub keys_many : (state : State) (t : Tuples) (site : Site) (n : ℕ) → n ≡ length (rows state.files t) → length (keys_at state t site) ≡ n
keys_many state t site n e = length-map (rows state.files t) (λ (row : Row). key_of (slice_get row.tuple site.attribute)) ∙ sym e

long_keys : (n : ℕ) → 2048 < n → nat_lt 2048 n ≡ true
long_keys n h = grind (arith, nat_tests)

short_keys : (n : ℕ) → n ≤ 2048 → nat_lt 2048 n ≡ false
short_keys n h = grind (arith, nat_tests)

abbrev tables_in : List (Option Index) → ℕ
tables_in indexes = length (filter is_hash_table (used_things indexes))

module _ (xs : List (Option Indexed)) (ks : List ℤ) where
  pub tried_full : free_table xs ≡ None → IsTried MemHash xs ks (Err (no.Full pool.HashTables most_tables))
  tried_full none db is = let e : nat_le most_tables (tables_in db.indexes) ≡ true = ap (λ (l : List (Option Index)). nat_le most_tables (tables_in l)) is ∙ tables_full xs none in rw e refl

  module _ (n : TableId) (free : free_table xs ≡ Some n) (have : HaveTables xs) (apart : AreElsewhere xs) where
    pub tried_long : 2048 < length ks → IsTried MemHash xs ks (Err (no.Full pool.HashEntries 2048))
    tried_long long db is =
        let e : nat_le most_tables (tables_in db.indexes) ≡ false = ap (λ (l : List (Option Index)). nat_le most_tables (tables_in l)) is ∙ tables_few xs n free have apart in
        rw (e, long_keys (length ks) long) refl

    pub tried_fine : length ks ≤ 2048 → IsUnrefused MemHash xs ks
    tried_fine short db is =
        let e : nat_le most_tables (tables_in db.indexes) ≡ false = ap (λ (l : List (Option Index)). nat_le most_tables (tables_in l)) is ∙ tables_few xs n free have apart in
        rw (e, short_keys (length ks) short) refl

pub unrefused_for : {X : Type 0} (kind made : IndexKind) (xs : List (Option Indexed)) (ks : List ℤ) (r : Result X FileError) → kind ≡ made
    → OnSpace r (λ need. (ys : List (Option Indexed)) → IsUnrefused made ys ks) → OnSpace r (λ need. IsUnrefused kind xs ks)
unrefused_for kind made xs ks (Ok x) is h = tt
unrefused_for kind made xs ks (Err (Space need)) is h = subst (λ (k : IndexKind). IsUnrefused k xs ks) (sym is) (h xs)
unrefused_for kind made xs ks (Err Failed) is h = tt
