use Rattle.std.proofs.Common.{◌≡◌, ◌∙◌, ℕ, arith, subst, sym}
use Rattle.stored_mend.specs.Mending.{HasInSlot, IsStrangeSlot}
use Rattle.stored_mend.proofs.ReportCatalog.{index_none, index_told}
use Rattle.stored_mend.proofs.catalogs.report_index.Goals as goal

pub returns-then-relation-ge8-clause-told : goal.returns-then-relation-ge8-clause-told
returns-then-relation-ge8-clause-told g c = λ told w known index name of same place on.
    let below = on.below in absurd (omega (arith, below, same, c.if-relation-ge8.true))

pub returns-in-None-clause-told : goal.returns-in-None-clause-told
returns-in-None-clause-told g c = λ told w known index name of same place on.
    let slot : c.from.result ≡ c.args.relation = omega (arith, c.from.ensures) in
    absurd (known (subst (λ (k : ℕ). IsStrangeSlot (g.V.Files.state c.args.files.now).files k) slot (rw c.in-None.is at (c.in_ok-relation_in.ensures.strange told w))))

pub returns-in-Some-None-clause-told : goal.returns-in-Some-None-clause-told
returns-in-Some-None-clause-told g c = λ told w known index name of same place on.
    let slot : c.from.result ≡ c.args.relation = omega (arith, c.from.ensures) in
    absurd (index_none (g.V.Files.state c.args.files.now).files c.from.result index name of (same ∙ sym slot) on ((rw c.in-Some-None.is at (c.in_ok-relation_in.ensures.read w)) told ∙ c.in-Some-None.field-0-is))

pub returns-in-Some-Some-clause-told : goal.returns-in-Some-Some-clause-told
returns-in-Some-Some-clause-told g c = λ told w known index name of same place on.
    let slot : c.from.result ≡ c.args.relation = omega (arith, c.from.ensures) in
    index_told (g.V.Files.state c.args.files.now).files c.from.result c.args.attribute c.in-Some-Some.schema ((rw c.in-Some-Some.is at (c.in_ok-relation_in.ensures.read w)) told ∙ c.in-Some-Some.field-0-is)
    index name of (same ∙ sym slot) place on c.args.report.now.mended c.report_index_of.new.report.mended c.report_index_of.ensures.told
