-- A sound table of files takes fewer sectors than are enough for its database.
use Rattle.std.proofs.Common.{◌≡◌, ℕ, ◌+◌, ◌<◌, ◌≤◌, inl, inr, length}
use Rattle.afl_base.specs.Files.{AreDistinct, Table}
use Rattle.afl_base.specs.Shares.{gap_for, shares}
use Rattle.space_model.specs.Enough.{enough}
use Rattle.stored.specs.Base.{base_of}
use Rattle.stored.specs.Sound.{BreaksFirst, IsSoundTable}
use Rattle.stored.proofs.DatabaseShares.{fewer_than_enough}
use Rattle.stored.proofs.FilesOf.{files_of_base, in_table}
use Rattle.padded.proofs.Facts.{none_is_some}

pub crowded : (files : Table) (n sectors : ℕ) → length files ≡ 32 → AreDistinct files → IsSoundTable files → sectors ≤ shares (gap_for n) files + gap_for n → sectors < enough (base_of files) n
crowded files n sectors size d s few = fewer_than_enough (base_of files) files n sectors (files_of_base files d (in_table files size) s) few

-- what is sound has no first broken rule
pub unbroken_table : (files : Table) (rule place : ℕ) → IsSoundTable files → BreaksFirst files rule place → ⊥
unbroken_table files rule place s (inl b) = none_is_some s.catalog b
unbroken_table files rule place s (inr (inl b)) = b.first.broken (s.rows place b.first.within)
unbroken_table files rule place s (inr (inr b)) = b.first.broken (s.indexes place b.first.within)
