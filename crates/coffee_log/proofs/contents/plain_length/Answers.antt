use Rattle.std.proofs.Common.{◌≡◌, ◌/◌, ◌≤◌, ◌<◌, ap, ◌∙◌, arith, ⊎_elim}
use Rattle.std.proofs.lemmas.Bool.{cases_lt}
use Rattle.coffee_layout.specs.FileBytes.{last_in}
use Rattle.coffee_log.proofs.LastRecords.{last_absent}
use Rattle.coffee_log.proofs.contents.plain_length.Goals as goal

pub returns-clause-plain : goal.returns-clause-plain
returns-clause-plain c = λ p low high. ⊎_elim
    (λ (later : c.args.at / 128 < p / 128). last_absent c.args.table.now (p / 128) 30 (λ i few. c.loop-i.invariant.plain i p (omega arith) later (omega arith)))
    (λ (first : p / 128 ≤ c.args.at / 128).
    let same : p / 128 ≡ c.args.at / 128 = omega arith in
    ap (λ region. last_in c.args.table.now region 30) same ∙ c.requires.plain)
    (cases_lt (c.args.at / 128) (p / 128))
