-- A draft that grows row by row: rows, and zeros behind them.
use Rattle.std.proofs.Common.{◌≡◌, ◌≢◌, refl, sym, ap, subst, ◌∙◌, ℕ, ◌+◌, ◌-◌, ◌*◌, ◌≤◌, Bool, true, false, List, [], ◌∷◌, ◌++◌, length, replicate, arith}
use Rattle.std.specs.Prelude.{slice_index, slice_range}
use Rattle.std.proofs.lemmas.Grind.{flat_map-append}
use Rattle.std.proofs.lemmas.List.{append-nil, drop_at, get_or-append_right, length-append, take-replicate}
use Rattle.afl_base.specs.Fields.{put_at}
use Rattle.db_model.specs.declared.schemas.Attribute.{Attribute}
use Rattle.padded.specs.Padded.{padded}
use Rattle.db_model.specs.Row.{AllRowsSuit, AllSuit, Row, fields_bytes, mark, row_bytes, row_length, rows_bytes}
use Rattle.db_model.proofs.Rows.{length-row}
use Rattle.std.proofs.lemmas.Grind.{common_steps}
use Rattle.afl_base.proofs.PaddedLaws.{put_behind, padded_all}
use Rattle.db_model.proofs.SoundRows.{rows_more}

-- ---- bytes, and zeros behind them

-- what stands there before
pub zeros_behind : (n k : ℕ) (xs : List ℕ) → length xs + k ≤ n → slice_range (padded n xs) (length xs) (length xs + k) ≡ replicate k 0
zeros_behind n k xs inside = grind (arith, common_steps, drop_at, take-replicate)

-- ---- lists of rows

pub length-rows_bytes : (attributes : List Attribute) (rows : List Row) → AllRowsSuit attributes rows → length (rows_bytes attributes rows) ≡ row_length attributes * length rows
length-rows_bytes attributes [] s = omega arith
length-rows_bytes attributes (row ∷ rows) s = grind (arith, common_steps, length-row, length-append, length-rows_bytes attributes rows s.1)

-- ---- the last byte of rows is a mark

EndsWell : List ℕ → Type 0
EndsWell xs = slice_index xs (length xs - 1) ≢ 0

ends : (xs ys : List ℕ) → 1 ≤ length ys → EndsWell ys → EndsWell (xs ++ ys)
unfolding EndsWell
ends xs ys some end =
    let last : length (xs ++ ys) - 1 ≡ length xs + (length ys - 1) = omega (arith, length-append xs ys, some) in
    let same : length xs + (length ys - 1) - length xs ≡ length ys - 1 = omega arith in
    let here : slice_index (xs ++ ys) (length (xs ++ ys) - 1) ≡ slice_index ys (length ys - 1) =
    ap (slice_index (xs ++ ys)) last ∙ get_or-append_right xs ys (length xs) (length xs + (length ys - 1)) 0 refl (omega arith) ∙ ap (slice_index ys) same in
    λ e. end (sym here ∙ e)

mark_ends : (live : Bool) → EndsWell (mark live ∷ [])
unfolding EndsWell
mark_ends true e = absurd (omega (arith, e))
mark_ends false e = absurd (omega (arith, e))

row_ends : (attributes : List Attribute) (row : Row) → EndsWell (row_bytes attributes row)
row_ends attributes row = ends (fields_bytes attributes row.tuple) (mark row.live ∷ []) (omega arith) (mark_ends row.live)

rows_end : (attributes : List Attribute) (row : Row) (rows : List Row) → EndsWell (rows_bytes attributes (row ∷ rows))
rows_end attributes row [] = subst EndsWell (sym (append-nil (row_bytes attributes row))) (row_ends attributes row)
rows_end attributes row (r ∷ rows) = grind (arith, common_steps, length-append, ends, rows_end attributes r rows)

pub last_mark : (attributes : List Attribute) (rows : List Row) → 1 ≤ length (rows_bytes attributes rows) → slice_index (rows_bytes attributes rows) (length (rows_bytes attributes rows) - 1) ≢ 0
unfolding EndsWell
last_mark attributes [] some = absurd (omega (arith, some))
last_mark attributes (row ∷ rows) some = rows_end attributes row rows

-- ---- a draft of n bytes

pub record IsDrafted (attributes : List Attribute) (n : ℕ) (rows : List Row) (draft : List ℕ) : Type 0 where
  pub suit : AllRowsSuit attributes rows
  pub bytes : draft ≡ padded n (rows_bytes attributes rows)

pub drafted_none : (attributes : List Attribute) (n : ℕ) → IsDrafted attributes n [] (replicate n 0)
drafted_none attributes n = record { suit = tt; bytes = ap (λ (m : ℕ). replicate m 0) (omega arith) }

pub drafted_more : (attributes : List Attribute) (n : ℕ) (rows : List Row) (row : Row) (draft : List ℕ) → IsDrafted attributes n rows draft → AllSuit attributes row.tuple → row_length attributes * length rows + row_length attributes ≤ n
    → IsDrafted attributes n (rows ++ row ∷ []) (put_at draft (row_length attributes * length rows) (row_bytes attributes row))
drafted_more attributes n rows row draft is one inside = grind (arith, common_steps, length-rows_bytes, length-row, flat_map-append, append-nil, rows_more, put_behind)

pub drafted_all : (attributes : List Attribute) (n : ℕ) (rows : List Row) (draft : List ℕ) → IsDrafted attributes n rows draft → n ≡ row_length attributes * length rows → draft ≡ rows_bytes attributes rows
drafted_all attributes n rows draft is full = is.bytes ∙ padded_all n (rows_bytes attributes rows) (length-rows_bytes attributes rows is.suit ∙ sym full)
