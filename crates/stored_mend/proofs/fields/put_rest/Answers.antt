use Rattle.std.proofs.Common.{arith, ap, ◌∙◌, List, ℕ, take, SFits, w64, rules}
use Rattle.std.specs.Prelude.{slice_range}
use Rattle.std.proofs.lemmas.Int.{to_z-of_z}
use Rattle.afl_base.specs.Fields.{i64_bytes, put_at}
use Rattle.afl_base.proofs.PutLaws.{take-put_at}
use Rattle.stored_mend.proofs.PutNumbers.{length-i64_bytes, put_all}
use Rattle.stored_mend.proofs.fields.put_rest.Goals as goal

pub returns-clause-put : goal.returns-clause-put
returns-clause-put c =
    let fits : SFits w64 c.args.number.now = search rules in
    c.put_bytes.ensures
    ∙ ap (λ (xs : List ℕ). put_at c.args.row.now c.args.at (slice_range xs c.args.from c.args.to))
    (c.put_i64.ensures ∙ put_all _ (i64_bytes _) (length-i64_bytes _) ∙ ap i64_bytes (to_z-of_z w64 c.args.number.now fits))

pub returns-clause-kept : goal.returns-clause-kept
returns-clause-kept c =
    ap (take c.args.at) (returns-clause-put c)
    ∙ take-put_at c.args.row.now (slice_range (i64_bytes c.args.number.now) c.args.from c.args.to) c.args.at c.args.at (omega arith) (omega (arith, c.requires.order, c.requires.room))
