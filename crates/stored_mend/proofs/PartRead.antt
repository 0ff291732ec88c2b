-- The part of a row at the end of a file, as it is read and filled.
use Rattle.std.proofs.Common.{◌≡◌, ℕ, ◌+◌, ◌-◌, List, ◌++◌, length, take, drop, set, replicate, ap, sym, subst, ◌∙◌, arith}
use Rattle.std.specs.Prelude.{slice_range}
use Rattle.std.proofs.lemmas.List.{drop-replicate, length-drop, take_rest}
use Rattle.db_model.specs.declared.schemas.Attribute.{Attribute}
use Rattle.db_model.specs.Row.{fields_length, row_length}
use Rattle.padded.specs.Padded.{padded}
use Rattle.stored_mend.specs.Filled.{FillsFields, FillsPart, part_of_row, row_before}
use Rattle.stored_mend.specs.Rows.{whole_length}

-- what is read behind the whole rows
pub part_read : (attributes : List Attribute) (bytes : List ℕ) (have at : ℕ) → at ≡ whole_length attributes bytes → at + have ≡ length bytes → slice_range bytes at (at + have) ≡ part_of_row attributes bytes
part_read attributes bytes have at is all =
    let rest : at + have - at ≡ length bytes - at = omega (arith, all) in
    ap (λ (n : ℕ). take n (drop at bytes)) rest ∙ take_rest bytes at ∙ ap (λ (n : ℕ). drop n bytes) is

pub part_long : (attributes : List Attribute) (bytes : List ℕ) (have : ℕ) → whole_length attributes bytes + have ≡ length bytes → length (part_of_row attributes bytes) ≡ have
part_long attributes bytes have all = length-drop (whole_length attributes bytes) bytes ∙ omega (arith, all)

-- and of the last of them
pub before_read : (attributes : List Attribute) (bytes : List ℕ) (from upto : ℕ) → upto ≡ whole_length attributes bytes → from ≡ upto - row_length attributes → slice_range bytes from (from + (upto - from)) ≡ row_before attributes bytes
before_read attributes bytes from upto is start =
    let end : from + (upto - from) ≡ upto = omega (arith, start) in
    ap (slice_range bytes from) (end ∙ is) ∙ ap (λ (n : ℕ). slice_range bytes n (whole_length attributes bytes)) (start ∙ ap (λ (n : ℕ). n - row_length attributes) is)

pub part_filled : (attributes : List Attribute) (before read part row mid fields : List ℕ) (have last : ℕ) → row ≡ replicate (row_length attributes) 0 → read ≡ before → mid ≡ part ++ drop have row → length part ≡ have
    → last ≡ fields_length attributes → FillsFields attributes read 0 have mid fields → FillsPart attributes before part (set fields last 3)
part_filled attributes before read part row mid fields have last zeros same is long at filled =
    let n = row_length attributes in
    let all : mid ≡ padded n part =
    is ∙ ap (λ (xs : List ℕ). part ++ drop have xs) zeros ∙ ap (λ (xs : List ℕ). part ++ xs) (drop-replicate have n 0) ∙ ap (λ (m : ℕ). part ++ replicate (n - m) 0) (sym long) in
    record {
      fields = fields;
      filled = subst (λ (m : ℕ). FillsFields attributes before 0 m (padded n part) fields) (sym long)
          (subst (λ (xs : List ℕ). FillsFields attributes before 0 have xs fields) all
          (subst (λ (xs : List ℕ). FillsFields attributes xs 0 have mid fields) same filled));
      marked = ap (λ (k : ℕ). set fields k 3) at;
    }
