-- What a cut leaves of the file of a relation's rows.
use Rattle.std.proofs.Common.{◌≡◌, ℕ, ◌+◌, List, ◌++◌, length, take, drop, refl, ap, sym, subst, ◌∙◌}
use Rattle.std.proofs.lemmas.List.{take-append-drop}
use Rattle.afl_base.specs.CutFiles.{AppendsFront}
use Rattle.afl_base.specs.Files.{Appends, KeepsBytes, State, bytes_at}
use Rattle.afl_base.proofs.FileLaws.{becomes_then}
use Rattle.afl_base.proofs.FrameLaws.{becomes_as}
use Rattle.db_model.specs.declared.schemas.Attribute.{Attribute}
use Rattle.stored_mend.specs.Filled.{FillsPart, IsRemovedRow, part_of_row, row_before}
use Rattle.stored_mend.specs.RowsCut.{AppendsFilling}

-- ---- bytes behind those of a file that was prepared

pub appends_behind : (a b c : State) (id : ℕ) (more : List ℕ) → KeepsBytes a b id → Appends b c id more → Appends a c id more
appends_behind a b c id more k w =
    becomes_as a c id _ _ _ _ (becomes_then a b c id _ _ _ _ k w) (ap (λ (n : ℕ). n + length more) k.size) (λ told. ap (λ (xs : List ℕ). xs ++ more) (k.bytes told))

pub front_behind : (a b c : State) (id : ℕ) (more : List ℕ) → KeepsBytes a b id → AppendsFront b c id more → AppendsFront a c id more
front_behind a b c id more k f = record { done = f.done; within = f.within; is = appends_behind a b c id (take f.done more) k f.is }

-- a front part of what fills a file up
pub front_fills : (old after : State) (file have : ℕ) (attributes : List Attribute) (row : List ℕ) → AppendsFront old after file (drop have row)
    → take have row ≡ part_of_row attributes (bytes_at old.files file) → IsRemovedRow attributes row
    → FillsPart attributes (row_before attributes (bytes_at old.files file)) (part_of_row attributes (bytes_at old.files file)) row → AppendsFilling old after file attributes
front_fills old after file have attributes row appended front removed fills =
    let part = part_of_row attributes (bytes_at old.files file) in
    let all : part ++ drop have row ≡ row = ap (λ (xs : List ℕ). xs ++ drop have row) (sym front) ∙ take-append-drop have row in
    record {
      more = drop have row;
      appended = appended;
      filled = record {
        rest = drop have row;
        behind = refl;
        removed = subst (IsRemovedRow attributes) (sym all) removed;
        fills = subst (FillsPart attributes (row_before attributes (bytes_at old.files file)) part) (sym all) fills;
      };
    }
