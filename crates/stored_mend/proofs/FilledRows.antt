-- What a relation's file holds once the row at its end is filled.
use Rattle.std.proofs.Common.{◌≡◌, ◌≢◌, ℕ, suc, ◌+◌, ◌-◌, ◌*◌, ◌/◌, ◌<◌, ◌≤◌, List, [], ◌∷◌, ◌++◌, length, take, drop, Bool, false, true, ◌==◌, if◌then◌else◌, IsTrue, refl, ap, sym, subst, ◌∙◌, arith, append_assoc, length-append, mul-suc}
use Rattle.std.proofs.Math.Nat.{mul-div-le, mul-le-mul}
use Rattle.std.proofs.lemmas.List.{length-take-le, take-append-drop}
use Rattle.afl_base.specs.Files.{Appends, State, bytes_at}
use Rattle.db_model.specs.declared.schemas.Attribute.{Attribute}
use Rattle.db_model.specs.declared.values.Value.{Value}
use Rattle.db_model.specs.Row.{AllSuit, Row, row_bytes, row_length, rows_bytes, rows_of, slots_in_bytes}
use Rattle.db_model.specs.Step.{slots_limit}
use Rattle.db_model.proofs.Rows.{length-row, rows_of-insert}
use Rattle.tuple_file.specs.Tuples.{AreRows}
use Rattle.tuple_file.proofs.Slots.{slots_of_whole}
use Rattle.tuple_file.proofs.Written.{written_insert}
use Rattle.stored_mend.specs.Filled.{FillsPart, FillsRow, IsFilledUp, IsRemovedRow, part_of_row, row_before}
use Rattle.stored_mend.specs.Rows.{whole_length, whole_rows}
use Rattle.stored_mend.proofs.KeptBase.{whole_rows_same}

-- the row that is removed
pub removed_row : List Value → Row
removed_row tuple = record { tuple = tuple; live = false }

module _ (attributes : List Attribute) (old new : List ℕ) (f : IsFilledUp attributes old new) where
  row : Row
  row = record { tuple = f.removed.tuple; live = false }

  count : ℕ
  count = slots_in_bytes attributes old

  whole_long : length (whole_rows attributes old) ≡ row_length attributes * slots_in_bytes attributes old
  whole_long = length-take-le (whole_length attributes old) old (mul-div-le (length old) (row_length attributes))

  -- behind the whole rows stands one more
  one_more : new ≡ whole_rows attributes old ++ row_bytes attributes (record { tuple = f.removed.tuple; live = false })
  one_more =
      let front = whole_rows attributes old in
      let part = part_of_row attributes old in
      f.behind
      ∙ ap (λ (xs : List ℕ). xs ++ f.rest) (sym (take-append-drop (whole_length attributes old) old))
      ∙ append_assoc front part f.rest
      ∙ ap (λ (xs : List ℕ). front ++ xs) f.removed.written

  pub filled_rows : rows_of attributes new ≡ rows_of attributes old ++ record { tuple = f.removed.tuple; live = false } ∷ []
  filled_rows =
      ap (rows_of attributes) one_more
      ∙ rows_of-insert attributes (record { tuple = f.removed.tuple; live = false }) (slots_in_bytes attributes old) (whole_rows attributes old) whole_long f.removed.suits
      ∙ ap (λ (rows : List Row). rows ++ record { tuple = f.removed.tuple; live = false } ∷ []) (whole_rows_same attributes old)

  -- it ends behind a row
  pub filled_long : length new ≡ row_length attributes * suc (slots_in_bytes attributes old)
  filled_long =
      let last : Row = record { tuple = f.removed.tuple; live = false } in
      let front = whole_rows attributes old in
      let wide = length-row attributes last f.removed.suits in
      ap (λ (xs : List ℕ). length xs) one_more ∙ length-append front (row_bytes attributes last) ∙ omega (arith, whole_long, wide, mul-suc (row_length attributes) (slots_in_bytes attributes old))

  -- so all are rows, where those before it were
  pub filled_are_rows : (version : ℕ) → attributes ≢ [] → slots_in_bytes attributes old < slots_limit version → AreRows version attributes (whole_rows attributes old) → AreRows version attributes new
  filled_are_rows version some few are =
      let last : Row = record { tuple = f.removed.tuple; live = false } in
      let n = slots_in_bytes attributes old in
      let front = whole_rows attributes old in
      let wide = length-row attributes last f.removed.suits in
      let long : length (front ++ row_bytes attributes last) ≡ row_length attributes * suc n =
      length-append front (row_bytes attributes last) ∙ omega (arith, whole_long, wide, mul-suc (row_length attributes) n) in
      let slots : slots_in_bytes attributes (front ++ row_bytes attributes last) ≡ suc n = slots_of_whole attributes (front ++ row_bytes attributes last) (suc n) long in
      let all : AreRows version attributes (front ++ row_bytes attributes last) = record {
        whole = written_insert attributes last n front whole_long f.removed.suits are.whole;
        few = omega (arith, slots, few);
        some = λ none. absurd (some none);
      } in
      subst (AreRows version attributes) (sym one_more) all

-- what is appended fills the file up, where the row that it ends is a removed one
pub filled_by : (old new : State) (file have : ℕ) (attributes : List Attribute) (row : List ℕ) → Appends old new file (drop have row)
    → (IsTrue old.tells → take have row ≡ part_of_row attributes (bytes_at old.files file)) → IsRemovedRow attributes row
    → (IsTrue old.tells → FillsPart attributes (row_before attributes (bytes_at old.files file)) (part_of_row attributes (bytes_at old.files file)) row) → FillsRow old new file attributes
filled_by old new file have attributes row appended front removed fills = record {
  more = drop have row;
  appended = appended;
  filled = λ told.
      let part = part_of_row attributes (bytes_at old.files file) in
      let all : part ++ drop have row ≡ row = ap (λ (xs : List ℕ). xs ++ drop have row) (sym (front told)) ∙ take-append-drop have row in
      record {
        rest = drop have row;
        behind = appended.bytes told;
        removed = subst (IsRemovedRow attributes) (sym all) removed;
        fills = subst (FillsPart attributes (row_before attributes (bytes_at old.files file)) part) (sym all) (fills told);
      };
}

-- so many bytes fit a file
pub row_fits : (size slots : ℕ) → size ≤ 128 → slots < 32768 → size * slots + size ≤ 4194304
row_fits size slots short few =
    let more : size * suc slots ≤ 128 * 32768 = mul-le-mul {m₁ = suc slots} {m₂ = 32768} short (omega (arith, few)) in
    omega (arith, more, mul-suc size slots)

-- no version has more slots
pub limit_most : (version : ℕ) → slots_limit version ≤ 32768
limit_most version = by_test (version == 1)
  where
    by_test : (b : Bool) → (if b then 16384 else 32768) ≤ 32768
    by_test true = omega arith
    by_test false = omega arith

-- a relation of which a row is there in part has an attribute
pub has_attribute : (attributes : List Attribute) (have : ℕ) → 1 ≤ have → have < row_length attributes → attributes ≢ []
has_attribute [] have some part e = absurd (omega (arith, some, part))
has_attribute (a ∷ attributes) have some part e = absurd (cc)
