-- The file of a relation's rows, where a cut came while its last row was filled, or taken back.
use Rattle.std.proofs.Common.{◌≡◌, inl, inr, ⊎_elim, ℕ, suc, ◌+◌, ◌-◌, ◌*◌, ◌/◌, ◌<◌, ◌≤◌, Bool, false, List, ◌++◌, length, take, IsTrue, ap, sym, subst, ◌∙◌, arith, length-append, mul-suc, mul_comm, take_all}
use Rattle.std.specs.Bool.{Decides}
use Rattle.std.proofs.Math.Nat.{div-lt_iff_lt-mul, mul-div-le}
use Rattle.std.proofs.lemmas.Bool.{cases_lt}
use Rattle.std.proofs.lemmas.List.{length-drop, length-take-le, take-append-le}
use Rattle.afl_base.specs.Files.{Appends, Becomes, Keeps, KeepsBytes, State, Table, bytes_at, file_at, name_at, place, used}
use Rattle.db_model.specs.declared.schemas.Attribute.{Attribute}
use Rattle.db_model.specs.Catalog.{Catalog}
use Rattle.db_model.specs.Row.{row_length, slots_in_bytes}
use Rattle.db_model.proofs.Rows.{length-row}
use Rattle.space_model.specs.FileNames.{rows_file}
use Rattle.stored_mend.specs.Filled.{FillsRow, IsFilledUp, part_of_row}
use Rattle.stored_mend.specs.Rows.{whole_length, whole_rows}
use Rattle.stored_mend.specs.RowsCut.{FillsInPart, HasPartStill, MayMendRows}
use Rattle.stored_mend.specs.Whole.{IsOnlyFile, IsFillable}
use Rattle.stored_mend.proofs.FilledFile.{filled_more, filled_others}
use Rattle.stored_mend.proofs.KeptBase.{cut_same_rows}
use Rattle.stored_mend.proofs.MendedRows.{is_cut}
use Rattle.stored_mend.proofs.Replaced.{becomes_spares_others}

-- ---- less than a row behind so many

same_slots : (m n y : ℕ) → 0 < m → m * n ≤ y → y < m * n + m → y / m ≡ n
same_slots m n y some low high =
    let next : y < suc n * m = omega (arith, high, mul_comm (suc n) m, mul-suc m n) in
    let under : y / m < suc n = (div-lt_iff_lt-mul some).1 next in
    let over : n ≤ y / m = ⊎_elim
    (λ (less : y / m < n). let past : y < n * m = (div-lt_iff_lt-mul some).0 less in absurd (omega (arith, past, low, mul_comm n m)))
    (λ (more : n ≤ y / m). more)
    (cases_lt (y / m) n) in
    omega (arith, under, over)

-- the whole rows stay where the part behind them becomes longer
longer_part : (attributes : List Attribute) (bytes more : List ℕ) → IsFilledUp attributes bytes (bytes ++ more) → (done : ℕ) → done < length more → whole_rows attributes (bytes ++ take done more) ≡ whole_rows attributes bytes
longer_part attributes bytes more up done less =
    let m : ℕ = row_length attributes in
    let n : ℕ = slots_in_bytes attributes bytes in
    let inside : m * n ≤ length bytes = mul-div-le (length bytes) m in
    let rest : length bytes + length more ≡ length bytes + length up.rest = sym (length-append bytes more) ∙ ap (λ (xs : List ℕ). length xs) up.behind ∙ length-append bytes up.rest in
    let row : length (part_of_row attributes bytes ++ up.rest) ≡ m = ap (λ (xs : List ℕ). length xs) up.removed.written ∙ length-row attributes (record { tuple = up.removed.tuple; live = false }) up.removed.suits in
    let parts = length-append (part_of_row attributes bytes) up.rest in
    let behind : length (part_of_row attributes bytes) ≡ length bytes - m * n = length-drop (m * n) bytes in
    let taken : length (take done more) ≡ done = length-take-le done more (omega (arith, less)) in
    let all : length (bytes ++ take done more) ≡ length bytes + done = length-append bytes (take done more) ∙ ap (λ (k : ℕ). length bytes + k) taken in
    let slots : length (bytes ++ take done more) / m ≡ n =
    same_slots m n (length (bytes ++ take done more)) (omega (arith, rest, row, parts, less)) (omega (arith, all, inside)) (omega (arith, all, inside, rest, row, parts, behind, less)) in
    ap (λ (k : ℕ). take (m * k) (bytes ++ take done more)) slots ∙ take-append-le (m * n) bytes (take done more) inside

-- ---- what becomes of the file

-- no byte has changed
pub part_still : (relation : ℕ) (attributes : List Attribute) (old new : State) (file : ℕ) → IsOnlyFile old.files (rows_file relation) file → whole_length attributes (bytes_at old.files file) < length (bytes_at old.files file) → IsTrue old.tells
    → KeepsBytes old new file → HasPartStill relation attributes old new
part_still relation attributes old new file is part told kept = record {
  file = file;
  is = is;
  part = part;
  whole = ap (whole_rows attributes) (kept.bytes told);
  others = becomes_spares_others old new file _ (rows_file relation) _ is.named kept;
}

pub part_kept : (relation : ℕ) (attributes : List Attribute) (old new : State) (file : ℕ) → IsOnlyFile old.files (rows_file relation) file → whole_length attributes (bytes_at old.files file) < length (bytes_at old.files file)
    → Keeps old new → HasPartStill relation attributes old new
part_kept relation attributes old new file is part kept = record {
  file = file;
  is = is;
  part = part;
  whole = ap (λ (files : Table). whole_rows attributes (bytes_at files file)) kept.files;
  others = record {
    others = λ k other. ap (λ (files : Table). place files k) kept.files;
    named = λ k. ap (λ (files : Table). name_at files k) kept.files;
    kind = λ k live. ap (λ (files : Table). (file_at files k).kind) kept.files;
    used = ap used kept.files;
    draft = kept.draft;
    tells = kept.tells;
  };
}

module _ (catalog : Catalog) (relation : ℕ) (attributes : List Attribute) (old after : State) (file : ℕ) (is : IsOnlyFile old.files (rows_file relation) file) (part : whole_length attributes (bytes_at old.files file) < length (bytes_at old.files file)) (told : IsTrue old.tells) where
  -- a front part of the filling, or all of it
  pub fills_may : FillsInPart catalog relation attributes old after file → MayMendRows catalog relation attributes old after
  fills_may f =
      let front = f.appends.appended in
      let more : List ℕ = f.appends.more in
      ⊎_elim
      (λ (less : front.done < length more). inr (record {
        file = file;
        is = is;
        part = part;
        whole = ap (whole_rows attributes) (front.is.bytes told) ∙ longer_part attributes (bytes_at old.files file) more f.appends.filled front.done less;
        others = becomes_spares_others old after file _ (rows_file relation) _ is.named front.is;
      }))
      (λ (all : length more ≤ front.done).
      let whole : Appends old after file more = subst (Appends old after file) (take_all front.done more all) front.is in
      let fills : FillsRow old after file attributes = record {
        more = more;
        appended = whole;
        filled = λ t. subst (IsFilledUp attributes (bytes_at old.files file)) (sym (whole.bytes t)) f.appends.filled;
      } in
      inl (record {
        mended = inr (file, is, inr (part, inl (f.may, fills.filled told)));
        rows = inr (filled_more old after file (rows_file relation) attributes is.named is.only fills told);
        others = filled_others old after file (rows_file relation) attributes is.named is.only fills;
      }))
      (cases_lt front.done (length more))

  -- the part is taken back
  pub cut_may : (filled : Bool) → Decides filled (IsFillable catalog relation attributes (file_at old.files file)) → filled ≡ false → (size : ℕ) → size ≡ whole_length attributes (bytes_at old.files file)
      → Becomes old after file size (take size (bytes_at old.files file)) → MayMendRows catalog relation attributes old after
  cut_may filled d stays size long b = inl (record {
    mended = is_cut catalog relation attributes old after file is part filled d stays (b.bytes told ∙ ap (λ (n : ℕ). take n (bytes_at old.files file)) long);
    rows = inl (cut_same_rows old after file size (rows_file relation) attributes is.named is.only b long told);
    others = becomes_spares_others old after file size (rows_file relation) _ is.named b;
  })
