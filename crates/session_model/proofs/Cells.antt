-- Cells of a session by name, and free ones.
use Rattle.std.proofs.Common.{◌≡◌, ℕ, ◌+◌, Bool, true, false, cond, List, [], ◌∷◌, Option, Some, None, refl, ap, sym, ◌∙◌}
use Rattle.std.specs.Str.{bytes_eq}
use Rattle.std.proofs.lemmas.Slice.Eq.{bytes_eq-Decides}
use Rattle.padded.proofs.Facts.{some_same}
use Rattle.tuple_file.specs.declared.tuples.Tuples.{Tuples}
use Rattle.session_model.specs.Cells.{cell_from}
use Rattle.std.specs.Option.{option_map_or}
use Rattle.db_model.specs.declared.schemas.Attribute.{Attribute}
use Rattle.db_model.specs.declared.schemas.IndexKind.{IndexKind}
use Rattle.db_model.specs.Step.{allows}

pub cell_named : (name : List ℕ) (n : ℕ) (slots : List (Option Tuples)) (k : ℕ) (t : Tuples) → cell_from name n slots ≡ Some (k, t) → t.schema.name ≡ name
cell_named name n [] k t e = absurd (cc)
cell_named name n (None ∷ slots) k t e = cell_named name (n + 1) slots k t e
cell_named name n (Some s ∷ slots) k t e = choose (bytes_eq s.schema.name name) refl e (λ rest. cell_named name (n + 1) slots k t rest)
  where
    choose : (b : Bool) → bytes_eq s.schema.name name ≡ b → cond b (Some (n, s)) (cell_from name (n + 1) slots) ≡ Some (k, t)
        → (cell_from name (n + 1) slots ≡ Some (k, t) → t.schema.name ≡ name) → t.schema.name ≡ name
    choose true same found later = sym (ap (λ (p : ℕ × Tuples). p.1.schema.name) (some_same (n, s) (k, t) found)) ∙ (bytes_eq-Decides s.schema.name name).0 same
    choose false other found later = later found

pub found_allowed : (kind : IndexKind) (o : Option Attribute) → option_map_or (λ (a : Attribute). allows kind a.domain) o false ≡ true → (a : Attribute) × (o ≡ Some a) × (allows kind a.domain ≡ true)
found_allowed kind None e = absurd (cc)
found_allowed kind (Some a) e = (a, refl, e)
