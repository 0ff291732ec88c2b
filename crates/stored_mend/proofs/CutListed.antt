-- Files at each stage of their repair are such as a cut can have left.
use Rattle.std.proofs.Common.{inl, inr, ⊎_elim, ℕ, length, List, ap, arith}
use Rattle.afl_base.specs.Files.{Table}
use Rattle.stored.specs.CutTables.{IsBegun, IsCutTable, IsHalfDone}
use Rattle.stored.specs.declared.half.Half.{Half}
use Rattle.stored_mend.specs.Listed.{IsBare, IsDoneTo, IsListedTo, IsTakenBack, Reach}

bare_begun : (files : Table) (rows : ℕ) → IsBare files rows → IsBegun files
bare_begun files rows bare = record {
  short = let none = ap (λ (xs : List ℕ). length xs) bare.none in omega (arith, none);
  alone = bare.alone;
  catalog = inl bare.none;
}

pub listed_is_cut : (reach : Reach) (files : Table) → IsListedTo reach files → IsCutTable files
listed_is_cut reach files l = record {
  known = l.known;
  done = ⊎_elim
      (λ (bare : IsBare files reach.rows). inl (bare_begun files reach.rows bare))
      (λ (done : (half : Half) × IsDoneTo reach files half). inr (done.0, done.1.done))
      l.left;
}

pub taken_is_cut : (files : Table) → IsTakenBack files → IsCutTable files
taken_is_cut files t = record {
  known = t.known;
  done = ⊎_elim
      (λ (bare : IsBare files 0). inl (bare_begun files 0 bare))
      (λ (done : (half : Half) × IsHalfDone files half). inr done)
      t.left;
}
