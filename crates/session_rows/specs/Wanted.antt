-- Which extents changes of rows ask for.
use Rattle.std.specs.Prelude.{◌≡◌, ◌*◌, ◌<◌, ◌≤◌, ◌⊎◌, ℕ, List, Option, filter, length}
use Rattle.afl_base.specs.Files.{State, size_at}
use Rattle.afl_base.specs.Fit.{fit}
use Rattle.db_model.specs.Answers.{selected}
use Rattle.db_model.specs.Cond.{Cond}
use Rattle.db_model.specs.Database.{Relation}
use Rattle.db_model.specs.Row.{row_length}
use Rattle.index_set.specs.declared.info.IndexInfo.{IndexInfo}
use Rattle.index_set.specs.Complete.{AreIndexesOf}
use Rattle.index_set.specs.Tables.{Tables}
use Rattle.lvm.specs.declared.instruction.Instruction.{Instruction}
use Rattle.lvm.specs.Code.{IsCodeOf}
use Rattle.tuple_file.specs.declared.tuples.Tuples.{Tuples}
use Rattle.tuple_file.specs.Tuples.{rows}

-- a draft of the live rows, where there are others
abbrev pub WantsPackedRows : Relation → ℕ → Type 0
WantsPackedRows r need =
    (length (filter (λ row. row.live) r.rows) < length r.rows)
    × (need ≡ fit (row_length r.schema.attributes * length (filter (λ row. row.live) r.rows)))

-- a record for each row where they are few, and a draft of all rows' size where they are more
abbrev pub WantsRemoval : (ℕ → ℕ → ℕ → ℕ → Type 0) → ℕ → ℕ → ℕ → ℕ → ℕ → Type 0
WantsRemoval asks file count records size need =
    ((1 ≤ records) × (count ≤ 29) × asks file records 0 need) ⊎ ((29 < count) × (need ≡ fit size))

-- the removal of the rows that a condition selects
abbrev pub WantsRemovalBy : (ℕ → ℕ → ℕ → ℕ → Type 0) → State → Tuples → Option Cond → ℕ → Type 0
WantsRemovalBy asks state tuples condition need =
    WantsRemoval asks tuples.file (length (selected tuples.schema.attributes condition (rows state.files tuples)))
    (length (selected tuples.schema.attributes condition (rows state.files tuples))) (size_at state.files tuples.file) need

-- P of the condition of a code, where the indexes of the relation are complete
abbrev pub OfCode : List Instruction → State → Tables → Tuples → List IndexInfo → (Option Cond → Type 0) → Type 0
OfCode code state tables tuples infos P = (condition : Option Cond)
    → IsCodeOf tuples.schema.attributes condition code → AreIndexesOf state tables (rows state.files tuples) infos → P condition
