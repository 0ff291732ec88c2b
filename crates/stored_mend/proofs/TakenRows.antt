-- A row that is filled: no other fills its part, and it is read as the removed row that it is.
use Rattle.std.proofs.Common.{◌≡◌, inl, inr, refl, sym, ap, subst, ◌∙◌, ℕ, ◌+◌, ◌-◌, ℤ, ◌≤ℤ◌, Bool, true, false, ◌&&◌, List, [], ◌∷◌, length, set, append-nil, Option, arith}
use Rattle.std.specs.Bool.{Decides}
use Rattle.std.specs.Prelude.{IsTrue, MatchBool, nat_lt}
use Rattle.std.proofs.lemmas.Int.{ints}
use Rattle.db_model.specs.declared.schemas.Attribute.{Attribute}
use Rattle.db_model.specs.declared.schemas.Domain.{Domain}
use Rattle.db_model.specs.Catalog.{Catalog, Index}
use Rattle.db_model.specs.Row.{Row, fields_length, row_bytes, row_length, row_of, slots_in_bytes, width}
use Rattle.db_model.proofs.Rows.{row_back}
use Rattle.padded.specs.Padded.{padded}
use Rattle.stored_mend.specs.Filled.{FillsField, FillsFields, FillsNumber, FillsPart, IsRemovedRow, number_before, part_of_row, row_before}
use Rattle.stored_mend.specs.Whole.{HasFilling, IsTakenRow}
use Rattle.tuple_file.specs.Column.{is_number}

-- ---- one row fills a part

fills_number_once : (d : Domain) (before : ℤ) (there at : ℕ) (old x y : List ℕ) → FillsNumber d before there at old x → FillsNumber d before there at old y → x ≡ y
fills_number_once d before there at old x y (inl a) (inl b) =
    let low : a.0 ≤ℤ b.0 = a.1.first b.0 b.1.above b.1.alike in
    let high : b.0 ≤ℤ a.0 = b.1.first a.0 a.1.above a.1.alike in
    let same : a.0 ≡ b.0 = omega (arith, ints, low, high) in
    a.3 ∙ rw same refl ∙ sym b.3
fills_number_once d before there at old x y (inl a) (inr b) = absurd (b.0 a.0 a.1.above a.2 a.1.alike)
fills_number_once d before there at old x y (inr a) (inl b) = absurd (a.0 b.0 b.1.above b.2 b.1.alike)
fills_number_once d before there at old x y (inr a) (inr b) = a.1 ∙ sym b.1

fills_field_once : (d : Domain) (before : List ℕ) (at have : ℕ) (old x y : List ℕ) → FillsField d before at have old x → FillsField d before at have old y → x ≡ y
fills_field_once d before at have old x y f g = by_test (is_number d && nat_lt have (at + width d)) f g
  where
    by_test : (b : Bool) → MatchBool b (FillsNumber d (number_before d before at) (have - at) at old x) (x ≡ old) → MatchBool b (FillsNumber d (number_before d before at) (have - at) at old y) (y ≡ old) → x ≡ y
    by_test true a b = fills_number_once d (number_before d before at) (have - at) at old x y a b
    by_test false a b = a ∙ sym b

fills_fields_once : (attributes : List Attribute) (before : List ℕ) (at have : ℕ) (old x y : List ℕ) → FillsFields attributes before at have old x → FillsFields attributes before at have old y → x ≡ y
fills_fields_once [] before at have old x y f g = f ∙ sym g
fills_fields_once (a ∷ attributes) before at have old x y f g =
    let same : f.0 ≡ g.0 = fills_field_once a.domain before at have old f.0 g.0 f.1 g.1 in
    fills_fields_once attributes before (at + width a.domain) have g.0 x y (subst (λ (mid : List ℕ). FillsFields attributes before (at + width a.domain) have mid x) same f.2) g.2

pub filled_once : (attributes : List Attribute) (before part x y : List ℕ) → FillsPart attributes before part x → FillsPart attributes before part y → x ≡ y
filled_once attributes before part x y f g =
    f.marked ∙ ap (λ (fields : List ℕ). set fields (fields_length attributes) 3) (fills_fields_once attributes before 0 (length part) (padded (row_length attributes) part) f.fields g.fields f.filled g.filled) ∙ sym g.marked

-- ---- a removed row

-- it is read as the row that it is
pub removed_read : (attributes : List Attribute) (row : List ℕ) (r : IsRemovedRow attributes row) → row_of attributes row ≡ record { tuple = r.tuple; live = false }
removed_read attributes row r =
    let is : Row = record { tuple = r.tuple; live = false } in
    ap (row_of attributes) (r.written ∙ sym (append-nil (row_bytes attributes is))) ∙ row_back attributes is [] r.suits

pub removed_written : (attributes : List Attribute) (row : List ℕ) → IsRemovedRow attributes row → row_bytes attributes (row_of attributes row) ≡ row
removed_written attributes row r = ap (row_bytes attributes) (removed_read attributes row r) ∙ sym r.written

-- ---- what is answered

-- bytes that are no row are none that is taken
pub not_taken : (is_row : Bool) (indexes : List (Option Index)) (relation : ℕ) (attributes : List Attribute) (slots : ℕ) (before row : List ℕ) → is_row ≡ false → (row_bytes attributes (row_of attributes row) ≡ row → IsTrue is_row)
    → Decides is_row (IsTakenRow indexes relation attributes slots before row)
not_taken true indexes relation attributes slots before row e is = cc
not_taken false indexes relation attributes slots before row e is = ((λ (yes : false ≡ true). cc), (λ t. let no : false ≡ true = is (removed_written attributes row t.removed) in absurd (cc)))

-- the row that was made is the one that fills the part
pub has_filling : (catalog : Catalog) (relation : ℕ) (attributes : List Attribute) (slots : ℕ) (bytes before row : List ℕ) (b : Bool) → slots ≡ slots_in_bytes attributes bytes → before ≡ row_before attributes bytes
    → FillsPart attributes (row_before attributes bytes) (part_of_row attributes bytes) row → Decides b (IsTakenRow catalog.indexes relation attributes slots before row) → Decides b (HasFilling catalog relation attributes bytes)
has_filling catalog relation attributes slots bytes before row b count same fills d =
    let taken : (row : List ℕ) → IsTakenRow catalog.indexes relation attributes slots before row → IsTakenRow catalog.indexes relation attributes (slots_in_bytes attributes bytes) (row_before attributes bytes) row =
    λ row t. subst (λ (n : ℕ). IsTakenRow catalog.indexes relation attributes n (row_before attributes bytes) row) count (subst (λ (xs : List ℕ). IsTakenRow catalog.indexes relation attributes slots xs row) same t) in (
      (λ yes. record { row = row; fills = fills; taken = taken row (d.0 yes) }),
      (λ h.
          let is : h.row ≡ row = filled_once attributes (row_before attributes bytes) (part_of_row attributes bytes) h.row row h.fills fills in
          d.1 (subst (λ (xs : List ℕ). IsTakenRow catalog.indexes relation attributes slots xs row) (sym same)
          (subst (λ (n : ℕ). IsTakenRow catalog.indexes relation attributes n (row_before attributes bytes) row) (sym count)
          (subst (λ (xs : List ℕ). IsTakenRow catalog.indexes relation attributes (slots_in_bytes attributes bytes) (row_before attributes bytes) xs) is h.taken)))),
    )
