use Rattle.std.proofs.Common.{◌<◌, ◌∙◌, suc, ap, sym, drop, get_or, length, rules, arith}
use Rattle.std.proofs.Math.Seq.{drop-cons}
use Rattle.std.proofs.lemmas.Bool.Decides.{nat_tests}
use Rattle.run_words.specs.Words.{value_from}
use Rattle.run_words.proofs.Numbers.{too_large}
use Rattle.run_words.proofs.digits.value_within.Goals as goal

pub returns-then-next-from-clause-number : goal.returns-then-next-from-clause-number
returns-then-next-from-clause-number c =
    let word = c.args.word.now in
    let i = c.loop-byte.byte-index in
    let there : i < length word = search rules in
    sym (too_large c.args.most c.loop-byte.value (get_or word i 0) (drop (suc i) word) word
    (ap (value_from c.loop-byte.value) (sym (drop-cons word i 0 there)) ∙ c.loop-byte.invariant.value)
    (grind (arith, nat_tests, c.if-next-from.true, c.from.ensures, c.from-in-loop-byte.ensures, c.from-in-loop-byte-2.ensures)))
