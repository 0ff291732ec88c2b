-- What stands at the end of a file of rows: the last row, its mark, and an index that takes one row more.
use Rattle.std.proofs.Common.{◌≡◌, ◌≢◌, inl, inr, ℕ, zero, suc, ℤ, ◌+◌, ◌-◌, ◌*◌, ◌<◌, ◌≤◌, Bool, true, false, not, ◌||◌, List, [], ◌∷◌, ◌++◌, length, get_or, Option, Some, None, refl, ap, sym, subst, ◌∙◌, arith, length-append, mul-suc, take_all}
use Rattle.std.specs.Prelude.{int_le, int_lt, slice_get, slice_index, slice_range}
use Rattle.std.specs.List.{list_all}
use Rattle.std.proofs.Math.Nat.{mul-div-le, mul-le-mul}
use Rattle.std.proofs.lemmas.Bool.Decides.{nat_tests}
use Rattle.std.proofs.lemmas.Int.{ints}
use Rattle.std.proofs.lemmas.List.{length-map, length-take-le}
use Rattle.std.proofs.lemmas.List.FromFn.{get_or-map-range_with_len, length-map-range_with_len}
use Rattle.std.proofs.lemmas.Option.{slice_get-get_or, slice_get_within}
use Rattle.afl_base.specs.declared.kind.Kind.TheVariants.{Doubling}
use Rattle.afl_base.specs.Files.{File}
use Rattle.db_model.specs.declared.schemas.Attribute.{Attribute}
use Rattle.db_model.specs.declared.schemas.IndexKind.{IndexKind}
use Rattle.db_model.specs.declared.schemas.IndexKind.TheVariants.{Inline, MaxHeap, MemHash}
use Rattle.db_model.specs.Catalog.{Index}
use Rattle.db_model.specs.Row.{Row, no_row, row_at, row_length, row_of, rows_bytes, rows_of, slots_in_bytes}
use Rattle.db_model.specs.Step.{first_fall, key_of, keys}
use Rattle.db_model.proofs.SoundRows.{keys_rise}
use Rattle.index_maxheap.proofs.CutInserts.{names_more, tree_names}
use Rattle.padded.proofs.Facts.{both_parts, eq_true, never_some, some_same}
use Rattle.stored.specs.CutTables.{IsIndexWhile}
use Rattle.stored.specs.Sound.{IsIndexComplete}
use Rattle.stored.specs.declared.half.Half.TheVariants.{AddingKey}
use Rattle.stored.proofs.FilesOf.{whole_rows as long_rows}
use Rattle.tuple_file.specs.Tuples.{AreRows}
use Rattle.tuple_file.proofs.Drafted.{last_mark}
use Rattle.tuple_file.proofs.Slots.{slots_of_whole}
use Rattle.stored_mend.specs.Filled.{row_before}
use Rattle.stored_mend.specs.Rows.{MayEndAt, whole_length, whole_rows}
use Rattle.stored_mend.specs.Whole.{all_take, is_in_order, row_read, slot_takes, takes_next}
use Rattle.stored_mend.proofs.Copies.{last_of_front}
use Rattle.stored_mend.proofs.FilledRows.{limit_most}
use Rattle.stored_mend.proofs.PutOver.{length-range}

-- ---- whole rows

module _ (version : ℕ) (attributes : List Attribute) (bytes : List ℕ) where
  pub long_whole : AreRows version attributes bytes → whole_length attributes bytes ≡ length bytes
  long_whole are =
      let long : length bytes ≡ row_length attributes * length (rows_of attributes bytes) = long_rows version attributes bytes are in
      ap (λ (n : ℕ). row_length attributes * n) (slots_of_whole attributes bytes (length (rows_of attributes bytes)) long) ∙ sym long

  pub all_whole : AreRows version attributes (whole_rows attributes bytes) → whole_length attributes bytes ≡ length bytes → AreRows version attributes bytes
  all_whole are long = subst (AreRows version attributes) (take_all (whole_length attributes bytes) bytes (omega (arith, long))) are

-- a file may end behind its whole rows
pub may_end : (version : ℕ) (attributes : List Attribute) (file : File) → AreRows version attributes (whole_rows attributes file.bytes) → row_length attributes ≤ 128 → file.kind ≡ Doubling → MayEndAt file (whole_length attributes file.bytes)
may_end version attributes file are short kind =
    let bytes : List ℕ = file.bytes in
    let n : ℕ = slots_in_bytes attributes bytes in
    let size : ℕ = whole_length attributes bytes in
    let inside : size ≤ length bytes = mul-div-le (length bytes) (row_length attributes) in
    let long : length (whole_rows attributes bytes) ≡ row_length attributes * n = length-take-le size bytes inside in
    let count : slots_in_bytes attributes (whole_rows attributes bytes) ≡ n = slots_of_whole attributes (whole_rows attributes bytes) n long in
    let few : n ≤ 32768 = omega (arith, are.few, count, limit_most version) in
    let most : row_length attributes * n ≤ 128 * 32768 = mul-le-mul {m₁ = n} {m₂ = 32768} short few in
    record {
      doubles = kind;
      most = omega (arith, most);
      last = λ some e.
          let there : 1 ≤ length (rows_bytes attributes (rows_of attributes (whole_rows attributes bytes))) = subst (λ (xs : List ℕ). 1 ≤ length xs) (sym are.whole) (omega (arith, some, long)) in
          let mark = subst (λ (xs : List ℕ). slice_index xs (length xs - 1) ≢ 0) are.whole (last_mark attributes (rows_of attributes (whole_rows attributes bytes)) there) in
          mark (last_of_front bytes size some inside ∙ e);
    }

-- ---- the last row

read_some : (attributes : List Attribute) (xs : List ℕ) → 1 ≤ length xs → row_read attributes xs ≡ Some (row_of attributes xs)
read_some attributes [] some = absurd (omega (arith, some))
read_some attributes (b ∷ xs) some = refl

pub last_read : (attributes : List Attribute) (bytes : List ℕ) (last : Row) → slice_get (rows_of attributes bytes) (length (rows_of attributes bytes) - 1) ≡ Some last → row_read attributes (row_before attributes bytes) ≡ Some last
last_read attributes bytes last is =
    let n : ℕ = slots_in_bytes attributes bytes in
    let size : ℕ = row_length attributes in
    let count : length (rows_of attributes bytes) ≡ n = length-map-range_with_len (row_at attributes bytes) 0 n in
    let within : length (rows_of attributes bytes) - 1 < length (rows_of attributes bytes) = slice_get_within (rows_of attributes bytes) (length (rows_of attributes bytes) - 1) last is in
    let m : ℕ = n - 1 in
    let more : n ≡ suc m = omega (arith, within, count) in
    let at : length (rows_of attributes bytes) - 1 ≡ m = omega (arith, count) in
    let whole : size * n ≡ size * m + size = ap (λ (k : ℕ). size * k) more ∙ omega (arith, mul-suc size m) in
    let inside : size * n ≤ length bytes = mul-div-le (length bytes) size in
    let here : last ≡ row_at attributes bytes m =
    some_same last (row_at attributes bytes m)
    (sym is ∙ ap (slice_get (rows_of attributes bytes)) at ∙ slice_get-get_or (rows_of attributes bytes) m no_row (omega (arith, count, more))
    ∙ ap (λ (r : Row). Some r) (get_or-map-range_with_len (row_at attributes bytes) 0 n m m no_row (omega (arith, more)) (omega arith))) in
    let start : size * n - size ≡ size * m = omega (arith, whole) in
    let piece : row_before attributes bytes ≡ slice_range bytes (size * m) (size * m + size) = ap (λ (k : ℕ). slice_range bytes k (size * n)) start ∙ ap (slice_range bytes (size * m)) whole in
    let long : length (slice_range bytes (size * m) (size * m + size)) ≡ size = length-range bytes (size * m) size (omega (arith, whole, inside)) in
    ap (row_read attributes) piece ∙ read_some attributes (slice_range bytes (size * m) (size * m + size)) (omega (arith, long)) ∙ ap (λ (r : Row). Some r) (sym here)

-- ---- indexes

all_at : (test : Option Index → Bool) (xs : List (Option Index)) (i : ℕ) (x : Index) → list_all test xs ≡ true → get_or xs i None ≡ Some x → test (Some x) ≡ true
all_at test [] i x e at = absurd (never_some at)
all_at test (o ∷ xs) zero x e at = ap test (sym at) ∙ (both_parts (test o) (list_all test xs) e).0
all_at test (o ∷ xs) (suc i) x e at = all_at test xs i x (both_parts (test o) (list_all test xs) e).1 at

-- an index of the relation takes what all take
pub takes_at : (indexes : List (Option Index)) (relation slots : ℕ) (last : Option Row) (row : Row) (i : ℕ) (index : Index) → all_take indexes relation slots last row ≡ true → get_or indexes i None ≡ Some index → index.relation ≡ relation
    → takes_next index.kind index.attribute slots last row ≡ true
takes_at indexes relation slots last row i index all at on =
    let here = all_at (slot_takes relation slots last row) indexes i index all at in
    ap (λ (b : Bool). not b || takes_next index.kind index.attribute slots last row) (sym (eq_true index.relation relation on)) ∙ here

not_less : (a b : ℤ) → int_le a b ≡ true → int_lt b a ≡ false
not_less a b e = grind (arith, ints)

-- an index that was complete takes one row more: its tree lacks a key then, and any other is complete still
pub index_filled : (k : ℕ) (index : Index) (tree : List ℕ) (rows : List Row) (row : Row) (last : Option Row) (slots : ℕ) → index.relation ≡ k → slots ≡ length rows
    → ((l : Row) → slice_get rows (length rows - 1) ≡ Some l → last ≡ Some l)
    → IsIndexComplete index.kind tree (keys index.attribute rows) → takes_next index.kind index.attribute slots last row ≡ true
    → IsIndexWhile (AddingKey k) index tree (keys index.attribute (rows ++ row ∷ []))
index_filled k index tree rows row last slots on count read complete taken = by_kind index.kind refl complete taken
  where
    long : length (keys index.attribute rows) ≡ length rows
    long = length-map rows (λ (r : Row). key_of (slice_get r.tuple index.attribute))

    more : length (keys index.attribute (rows ++ row ∷ [])) ≡ length rows + 1
    more = length-map (rows ++ row ∷ []) (λ (r : Row). key_of (slice_get r.tuple index.attribute)) ∙ length-append rows (row ∷ [])

    by_kind : (kind : IndexKind) → index.kind ≡ kind → IsIndexComplete kind tree (keys index.attribute rows) → takes_next kind index.attribute slots last row ≡ true
        → IsIndexWhile (AddingKey k) index tree (keys index.attribute (rows ++ row ∷ []))
    by_kind Inline is c t =
        let order : first_fall (keys index.attribute (rows ++ row ∷ [])) ≡ None =
        keys_rise index.attribute rows row c
        (λ l at. not_less (key_of (slice_get l.tuple index.attribute)) (key_of (slice_get row.tuple index.attribute)) (ap (λ (o : Option Row). is_in_order index.attribute o row) (sym (read l at)) ∙ t)) in
        inl (subst (λ (kind : IndexKind). IsIndexComplete kind tree (keys index.attribute (rows ++ row ∷ []))) (sym is) order)
    by_kind MaxHeap is c t =
        inr (is, ap AddingKey (sym on), omega (arith, more), names_more (length (keys index.attribute rows)) (length (keys index.attribute (rows ++ row ∷ []))) tree (omega (arith, long, more)) (tree_names tree (keys index.attribute rows) c))
    by_kind MemHash is c t =
        let few : slots < 2048 = grind (arith, nat_tests) in
        let most : length (keys index.attribute (rows ++ row ∷ [])) ≤ 2048 = omega (arith, more, few, count) in
        inl (subst (λ (kind : IndexKind). IsIndexComplete kind tree (keys index.attribute (rows ++ row ∷ []))) (sym is) most)
