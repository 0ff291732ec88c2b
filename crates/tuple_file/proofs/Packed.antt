-- The live rows among the first ones, and a draft that holds them.
use Rattle.std.proofs.Common.{◌≡◌, refl, sym, ap, subst, ◌∙◌, ℕ, ◌+◌, ◌*◌, ◌<◌, ◌≤◌, Bool, true, false, List, [], ◌∷◌, ◌++◌, length, take, drop, replicate, arith}
use Rattle.std.specs.Prelude.{cond, filter}
use Rattle.std.specs.Int.{from_bool}
use Rattle.std.proofs.lemmas.List.{append-nil, length-append, take-append-drop}
use Rattle.std.proofs.lemmas.List.Elements.{filter-append}
use Rattle.std.proofs.lemmas.List.FromFn.{take-map-range_with_len}
use Rattle.afl_base.specs.Fields.{put_at}
use Rattle.db_model.specs.declared.schemas.Attribute.{Attribute}
use Rattle.db_model.specs.Row.{AllRowsSuit, AllSuit, Row, row_at, row_bytes, row_length, rows_bytes, rows_of, slots_in_bytes}
use Rattle.tuple_file.proofs.Drafted.{IsDrafted, drafted_all, drafted_more, drafted_none}
use Rattle.tuple_file.proofs.Written.{all_rows, first_rows, more_rows, no_rows}
use Rattle.std.proofs.lemmas.Grind.{common_steps}
use Rattle.db_model.proofs.Rows.{slot_inside}

-- those of some rows that are live
abbrev pub living : List Row → List Row
living rows = filter (λ (row : Row). row.live) rows

-- one row more
pub living_more : (attributes : List Attribute) (bytes : List ℕ) (k : ℕ) → living (first_rows attributes bytes (k + 1)) ≡ living (first_rows attributes bytes k) ++ living (row_at attributes bytes k ∷ [])
living_more attributes bytes k = ap living (more_rows attributes bytes k) ∙ filter-append (λ (row : Row). row.live) (first_rows attributes bytes k) (row_at attributes bytes k ∷ [])

living_one : (row : Row) (b : Bool) → row.live ≡ b → living (row ∷ []) ≡ cond b (row ∷ []) []
living_one row b e = rw e refl

-- the live ones are counted one by one
pub count_none : (attributes : List Attribute) (bytes : List ℕ) → 0 ≡ length (living (first_rows attributes bytes 0))
count_none attributes bytes = ap (λ (xs : List Row). length (living xs)) (sym (no_rows attributes bytes))

pub count_more : (attributes : List Attribute) (bytes : List ℕ) (k live : ℕ) (b : Bool) → live ≡ length (living (first_rows attributes bytes k)) → b ≡ (row_at attributes bytes k).live
    → live + from_bool b ≡ length (living (first_rows attributes bytes (k + 1)))
count_more attributes bytes k live b count is =
    let olds : List Row = living (first_rows attributes bytes k) in
    let row : Row = row_at attributes bytes k in
    let news : length (living (first_rows attributes bytes (k + 1))) ≡ length olds + length (cond b (row ∷ []) []) =
    ap (λ (xs : List Row). length xs) (living_more attributes bytes k ∙ ap (λ (xs : List Row). olds ++ xs) (living_one row b (sym is))) ∙ length-append olds (cond b (row ∷ []) []) in
    ap (λ (n : ℕ). n + from_bool b) count ∙ ap (λ (n : ℕ). length olds + n) (either b) ∙ sym news
  where
    either : (b : Bool) → from_bool b ≡ length (cond b (row_at attributes bytes k ∷ []) [])
    either true = refl
    either false = refl

-- the first rows are no more than all rows
pub living_below : (attributes : List Attribute) (bytes : List ℕ) (k : ℕ) → k ≤ slots_in_bytes attributes bytes → length (living (first_rows attributes bytes k)) ≤ length (living (rows_of attributes bytes))
unfolding first_rows
living_below attributes bytes k few =
    let rows : List Row = rows_of attributes bytes in
    let before : take k rows ≡ first_rows attributes bytes k = take-map-range_with_len (row_at attributes bytes) 0 (slots_in_bytes attributes bytes) k few in
    let split : living rows ≡ living (first_rows attributes bytes k) ++ living (drop k rows) =
    ap living (sym (take-append-drop k rows) ∙ ap (λ (front : List Row). front ++ drop k rows) before) ∙ filter-append (λ (row : Row). row.live) (first_rows attributes bytes k) (drop k rows) in
    let long = ap (λ (xs : List Row). length xs) split ∙ length-append (living (first_rows attributes bytes k)) (living (drop k rows)) in
    omega (arith, long)

-- as many rows are live as there are: all are
pub length-living : (rows : List Row) → length (living rows) ≤ length rows
length-living [] = omega arith
length-living (row ∷ rows) = either row.live (length-living rows)
  where
    either : (b : Bool) → length (living rows) ≤ length rows → length (cond b (row ∷ living rows) (living rows)) ≤ length (row ∷ rows)
    either true few = omega (arith, few)
    either false few = omega (arith, few)

pub living_all : (rows : List Row) → length (living rows) ≡ length rows → living rows ≡ rows
living_all [] many = refl
living_all (row ∷ rows) many = either row.live (length-living rows) (living_all rows) many
  where
    either : (b : Bool) → length (living rows) ≤ length rows → (length (living rows) ≡ length rows → living rows ≡ rows) → length (cond b (row ∷ living rows) (living rows)) ≡ length (row ∷ rows) → cond b (row ∷ living rows) (living rows) ≡ row ∷ rows
    either true few rest many = ap (λ (xs : List Row). row ∷ xs) (rest (omega (arith, many)))
    either false few rest many = absurd (omega (arith, few, many))

-- ---- a draft with room for so many rows

pub record IsPacked (attributes : List Attribute) (bytes : List ℕ) (room k written : ℕ) (draft : List ℕ) : Type 0 where
  pub count : written ≡ length (living (first_rows attributes bytes k))
  pub drafted : IsDrafted attributes (row_length attributes * room) (living (first_rows attributes bytes k)) draft

pub packed_none : (attributes : List Attribute) (bytes : List ℕ) (room : ℕ) → IsPacked attributes bytes room 0 0 (replicate (row_length attributes * room) 0)
packed_none attributes bytes room = grind (arith, common_steps, first_rows, no_rows, IsDrafted, drafted_none)

-- a live row is put behind those that are written
packed_live : (attributes : List Attribute) (bytes : List ℕ) (room k written : ℕ) (draft after : List ℕ) → IsPacked attributes bytes room k written draft → written < room
    → (row_at attributes bytes k).live ≡ true → AllSuit attributes (row_at attributes bytes k).tuple → after ≡ put_at draft (row_length attributes * written) (row_bytes attributes (row_at attributes bytes k))
    → IsPacked attributes bytes room (k + 1) (written + 1) after
packed_live attributes bytes room k written draft after is below live suit put =
    let size = row_length attributes in
    let row : Row = row_at attributes bytes k in
    let olds : List Row = living (first_rows attributes bytes k) in
    let inside = slot_inside size written room below in
    let news : living (first_rows attributes bytes (k + 1)) ≡ olds ++ row ∷ [] = living_more attributes bytes k ∙ ap (λ (xs : List Row). olds ++ xs) (living_one row true live) in
    let more = drafted_more attributes (size * room) olds row draft is.drafted suit (subst (λ (m : ℕ). size * m + size ≤ size * room) is.count inside) in
    let same : put_at draft (size * length olds) (row_bytes attributes row) ≡ after = ap (λ (m : ℕ). put_at draft (size * m) (row_bytes attributes row)) (sym is.count) ∙ sym put in
    let many : length (olds ++ row ∷ []) ≡ length olds + 1 = length-append olds (row ∷ []) in
    record {
      count = ap (λ (n : ℕ). n + 1) is.count ∙ sym many ∙ ap (λ (xs : List Row). length xs) (sym news);
      drafted = subst (λ (xs : List Row). IsDrafted attributes (size * room) xs after) (sym news) (subst (IsDrafted attributes (size * room) (olds ++ row ∷ [])) same more);
    }

-- and a removed one is passed over
packed_removed : (attributes : List Attribute) (bytes : List ℕ) (room k written : ℕ) (draft : List ℕ) → IsPacked attributes bytes room k written draft → (row_at attributes bytes k).live ≡ false
    → IsPacked attributes bytes room (k + 1) written draft
packed_removed attributes bytes room k written draft is removed = grind (arith, common_steps, first_rows, living_more, living_one, append-nil, IsDrafted)

-- where the draft has room for all live rows, the next slot takes its turn
pub packed_more : (attributes : List Attribute) (bytes : List ℕ) (room k written now : ℕ) (draft after : List ℕ) → IsPacked attributes bytes room k written draft → room ≡ length (living (rows_of attributes bytes)) → k < slots_in_bytes attributes bytes
    → (written < room → (row_at attributes bytes k).live ≡ true → (now ≡ written + 1) × AllSuit attributes (row_at attributes bytes k).tuple × (after ≡ put_at draft (row_length attributes * written) (row_bytes attributes (row_at attributes bytes k))))
    → ((row_at attributes bytes k).live ≡ false → (now ≡ written) × (after ≡ draft))
    → IsPacked attributes bytes room (k + 1) now after
packed_more attributes bytes room k written now draft after is all inside live removed = either (row_at attributes bytes k).live refl
  where
    either : (b : Bool) → (row_at attributes bytes k).live ≡ b → IsPacked attributes bytes room (k + 1) now after
    either true e =
        let olds : List Row = living (first_rows attributes bytes k) in
        let row : Row = row_at attributes bytes k in
        let news = ap (λ (xs : List Row). length xs) (living_more attributes bytes k ∙ ap (λ (xs : List Row). olds ++ xs) (living_one row true e)) ∙ length-append olds (row ∷ []) in
        let below : written < room = omega (arith, news, is.count, all, living_below attributes bytes (k + 1) (omega (arith, inside))) in
        let done = live below e in
        subst (λ (n : ℕ). IsPacked attributes bytes room (k + 1) n after) (sym done.0) (packed_live attributes bytes room k written draft after is below e done.1 done.2)
    either false e =
        let done = removed e in
        subst (λ (n : ℕ). IsPacked attributes bytes room (k + 1) n after) (sym done.0) (subst (λ (xs : List ℕ). IsPacked attributes bytes room (k + 1) written xs) (sym done.1) (packed_removed attributes bytes room k written draft is e))

-- at the end the draft holds the live rows
pub packed_all : (attributes : List Attribute) (bytes : List ℕ) (room written : ℕ) (draft : List ℕ) → IsPacked attributes bytes room (slots_in_bytes attributes bytes) written draft → room ≡ length (living (rows_of attributes bytes))
    → AllRowsSuit attributes (living (rows_of attributes bytes)) × (draft ≡ rows_bytes attributes (living (rows_of attributes bytes)))
packed_all attributes bytes room written draft is all = grind (arith, common_steps, IsDrafted, all_rows, drafted_all)
