use Rattle.std.proofs.Common.{rules, arith, ◌≡◌, ◌<◌, ◌≢◌, length, ◌∙◌, sym, true}
use Rattle.std.specs.Prelude.{nat_lt}
use Rattle.std.specs.Ordering.{int_eq}
use Rattle.std.proofs.lemmas.Bool.Decides.{nat_tests}
use Rattle.padded.proofs.Facts.{second_part}
use Rattle.index_tree.specs.TreeFile.{key_at, slot_at}
use Rattle.index_maxheap.proofs.Scans.{found, is_there, none_behind, passed_any}
use Rattle.index_maxheap.proofs.searching.scan.Goals as goal

pub returns-then-is_wanted : goal.returns-then-is_wanted
returns-then-is_wanted c = record {
  short = search rules;
  scans = λ rest holds from.
      let same = sym c.is_wanted.ensures ∙ c.if-is_wanted.true in
      let above : nat_lt c.args.from (slot_at c.args.bytes.now 0 c.loop-pair.pair) ≡ true = second_part (int_eq (key_at c.args.bytes.now 0 c.loop-pair.pair) c.args.key.now) (nat_lt c.args.from (slot_at c.args.bytes.now 0 c.loop-pair.pair)) same in
      let some : slot_at c.args.bytes.now 0 c.loop-pair.pair ≢ 0 = grind (arith, nat_tests) in
      let there : c.loop-pair.pair < length rest = is_there c.args.bytes.now rest c.loop-pair.pair holds (omega arith) some in
      (omega arith, there, (c.loop-pair.invariant rest holds from) ∙ rw c.slot_in-number.ensures (found c.args.bytes.now rest c.loop-pair.pair c.args.key.now c.args.from holds (omega arith) there same));
}

pub loop-pair-preserved : goal.loop-pair-preserved
loop-pair-preserved c = λ rest holds from.
    let other = sym c.is_wanted.ensures ∙ c.if-is_wanted.false in
    (c.loop-pair.invariant rest holds from) ∙ passed_any c.args.bytes.now rest c.loop-pair.pair c.args.key.now c.args.from holds (omega arith) other

pub returns : goal.returns
returns c =
    let end : c.loop-pair.pair ≡ 32 = omega arith in
    let some : slot_at c.args.bytes.now 0 31 ≢ 0 = rw (sym c.slot_in-last.ensures) c.if-last-eq0.false in
    record {
      short = search rules;
      scans = λ rest holds from.
          let there = is_there c.args.bytes.now rest 31 holds (omega arith) some in
          (omega (arith, there), rw (sym end) (c.loop-pair.invariant rest holds from));
    }

pub returns-then-last-eq0-clause-scans : goal.returns-then-last-eq0-clause-scans
returns-then-last-eq0-clause-scans c = λ rest holds from.
    let end : c.loop-pair.pair ≡ 32 = omega arith in
    rw (sym end) (c.loop-pair.invariant rest holds from) ∙ none_behind c.args.bytes.now rest c.args.key.now c.args.from holds (sym c.slot_in-last.ensures ∙ c.if-last-eq0.true)
