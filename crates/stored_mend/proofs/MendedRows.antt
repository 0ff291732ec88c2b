-- What becomes of the file of a relation's rows, exit by exit.
use Rattle.std.proofs.Common.{◌≡◌, ⊎_elim, inl, inr, ℕ, ◌-◌, ◌*◌, ◌/◌, ◌%◌, ◌<◌, ◌≤◌, Bool, true, false, List, length, IsTrue, ap, sym, subst, ◌∙◌, arith}
use Rattle.std.proofs.Math.Nat.{mul-div-le}
use Rattle.std.proofs.lemmas.Bool.{cases_lt}
use Rattle.std.specs.Bool.{Decides}
use Rattle.afl_base.specs.Files.{IsNamed, State, Table, bytes_at, file_at}
use Rattle.db_model.specs.declared.schemas.Attribute.{Attribute}
use Rattle.db_model.specs.Catalog.{Catalog}
use Rattle.space_model.specs.FileNames.{rows_file}
use Rattle.stored_mend.specs.Filled.{FillsRow}
use Rattle.stored_mend.specs.Rows.{MayEndAt, whole_length, whole_rows}
use Rattle.stored_mend.proofs.KeptBase.{whole_size}
use Rattle.stored_mend.specs.Whole.{IsOnlyFile, IsFillable, MendsRows}

pub the_file : (files : Table) (name given : List ℕ) (file : ℕ) → given ≡ name → IsNamed files file given → ((k : ℕ) → IsNamed files k given → k ≡ file) → file < 32 → IsOnlyFile files name file
the_file files name given file same named only within = record {
  named = subst (IsNamed files file) same named;
  only = λ k h. only k (subst (IsNamed files k) (sym same) h);
  within = within;
}

-- bytes that stand behind whole slots
pub part_there : (size n row m : ℕ) → size ≡ n → row ≡ m → (size - size % row ≡ size → ⊥) → m * (n / m) < n
part_there size n row m is same differs =
    let front : size - size % row ≡ m * (n / m) = whole_size size row ∙ ap (λ (k : ℕ). row * (k / row)) is ∙ ap (λ (k : ℕ). k * (n / k)) same in
    ⊎_elim
    (λ (less : m * (n / m) < n). less)
    (λ (more : n ≤ m * (n / m)). absurd (differs (let most = mul-div-le n m in omega (arith, most, more, is, front))))
    (cases_lt (m * (n / m)) n)

module _ (catalog : Catalog) (relation : ℕ) (attributes : List Attribute) (old new : State) (file : ℕ) (is : IsOnlyFile old.files (rows_file relation) file) where
  module _ (part : whole_length attributes (bytes_at old.files file) < length (bytes_at old.files file)) (filled : Bool) (d : Decides filled (IsFillable catalog relation attributes (file_at old.files file))) where
    no_row : filled ≡ false → IsFillable catalog relation attributes (file_at old.files file) → ⊥
    no_row e may = let no : false ≡ true = sym e ∙ d.1 may in absurd (cc)

    pub is_filled : filled ≡ true → FillsRow old new file attributes → IsTrue old.tells → MendsRows catalog relation attributes old new
    is_filled e f told = inr (file, is, inr (part, inl (d.0 e, f.filled told)))

    pub is_cut : filled ≡ false → bytes_at new.files file ≡ whole_rows attributes (bytes_at old.files file) → MendsRows catalog relation attributes old new
    is_cut e cut = inr (file, is, inr (part, inr (no_row e, inl cut)))

    pub is_kept : filled ≡ false → (may : Bool) (size : ℕ) → Decides may (MayEndAt (file_at old.files file) size) → may ≡ false → size ≡ whole_length attributes (bytes_at old.files file) → new ≡ old → MendsRows catalog relation attributes old new
    is_kept e may size decided never_may whole same =
        let never : MayEndAt (file_at old.files file) (whole_length attributes (bytes_at old.files file)) → ⊥ =
        λ h. let n : false ≡ true = sym never_may ∙ decided.1 (subst (MayEndAt (file_at old.files file)) (sym whole) h) in absurd (cc) in
        inr (file, is, inr (part, inr (no_row e, inr (never, same))))
