use Rattle.std.proofs.Common.{rules, arith, subst, sym, ◌+◌, ◌≡◌, ◌<◌, length, get_or}
use Rattle.afl_base.specs.Files.{State}
use Rattle.index_set.specs.Complete.{AreHeld, IsHeld}
use Rattle.index_set.specs.Inserts.{IsDoublingTree}
use Rattle.index_set.proofs.Inserted.{all_whole}
use Rattle.index_set.proofs.Lists.{here_of}
use Rattle.index_set.proofs.Verified.{first_broken, held_more, keeps_more, one_more, reads_next, reads_within, to_false, to_true}
use Rattle.index_set.proofs.choices.verify_all.Goals as goal

pub returns-then-not-whole-clause-complete : goal.returns-then-not-whole-clause-complete
returns-then-not-whole-clause-complete g c = λ told all count columns.
    let xs = c.args.indexes.now in
    let y = c.get-info.result.now in
    let n = c.loop-nth.nth in
    let inv = c.loop-nth.invariant in
    let below : n < length xs = search rules in
    let e : y ≡ get_or xs n y = c.get-info.ensures in
    let start = g.V.Files.state c.args.files.now in
    let t0 = c.args.tables.now in
    let t1 = c.loop-nth.tables in
    let t2 = c.is_complete.new.tables in
    let k2 = c.in_ok-whole.ensures.tables in
    let whole = (rw inv.same at c.in_ok-whole.ensures.complete) told in
    first_broken xs n y below e t0 t1 t2 inv.tables k2 c.requires.apart start all c.args.slots count columns (inv.complete told all count columns) (to_false c.in_ok-whole.whole _ whole c.if-not-whole.true)

pub loop-nth-preserved : goal.loop-nth-preserved
loop-nth-preserved g c =
    let xs = c.args.indexes.now in
    let y = c.get-info.result.now in
    let n = c.loop-nth.nth in
    let inv = c.loop-nth.invariant in
    let below : n < length xs = search rules in
    let e : y ≡ get_or xs n y = c.get-info.ensures in
    let start = g.V.Files.state c.args.files.now in
    let t0 = c.args.tables.now in
    let t1 = c.loop-nth.tables in
    let t2 = c.is_complete.new.tables in
    let k2 = c.in_ok-whole.ensures.tables in
    record {
      same = search rules;
      tables = keeps_more xs n y below e t0 t1 t2 inv.tables k2;
      complete = λ told all count columns.
          let whole = (rw inv.same at c.in_ok-whole.ensures.complete) told in
          one_more xs n y below e t0 t1 t2 inv.tables k2 c.requires.apart start all c.args.slots count columns (inv.complete told all count columns) (to_true c.in_ok-whole.whole _ whole c.if-not-whole.false);
      held = λ trees.
          let here = here_of xs n y below e (λ info. IsDoublingTree start info.access) trees in
          held_more xs n y below e t0 t1 t2 inv.tables k2 c.requires.apart start c.args.slots (inv.held trees)
          ((rw (c.in_ok-whole.ensures.frame.same, inv.same) at c.in_ok-whole.ensures.held) c.if-not-whole.false here);
      most = omega (arith, inv.most, c.in_ok-whole.ensures.reads, reads_next c.args.slots xs n y below e);
      lent = search rules;
      faults = search rules;
      reads = search rules;
    }

pub returns-then-not-whole-clause-reads : goal.returns-then-not-whole-clause-reads
returns-then-not-whole-clause-reads g c =
    let xs = c.args.indexes.now in
    let y = c.get-info.result.now in
    let n = c.loop-nth.nth in
    let inv = c.loop-nth.invariant in
    let below : n < length xs = search rules in
    let e : y ≡ get_or xs n y = c.get-info.ensures in
    omega (arith, inv.most, c.in_ok-whole.ensures.reads, reads_next c.args.slots xs n y below e, reads_within c.args.slots xs (n + 1))

pub returns-in_err-whole-clause-reads : goal.returns-in_err-whole-clause-reads
returns-in_err-whole-clause-reads g c =
    let xs = c.args.indexes.now in
    let y = c.get-info.result.now in
    let n = c.loop-nth.nth in
    let inv = c.loop-nth.invariant in
    let below : n < length xs = search rules in
    let e : y ≡ get_or xs n y = c.get-info.ensures in
    omega (arith, inv.most, c.in_err-whole.ensures.reads, reads_next c.args.slots xs n y below e, reads_within c.args.slots xs (n + 1))

pub returns-clause-reads : goal.returns-clause-reads
returns-clause-reads g c =
    let inv = c.loop-nth.invariant in
    omega (arith, inv.most, reads_within c.args.slots c.args.indexes.now c.loop-nth.nth)

pub returns-clause-held : goal.returns-clause-held
returns-clause-held g c = λ none trees.
    let xs = c.args.indexes.now in
    let inv = c.loop-nth.invariant in
    let over = c.loop-nth-test.false in
    let count_is = c.len-count.ensures.value in
    let H : State → Type 0 = λ s. AreHeld s c.loop-nth.tables c.args.slots xs in
    subst H (sym inv.same)
    (all_whole (λ info. IsHeld (g.V.Files.state c.args.files.now) c.loop-nth.tables c.args.slots info.access) xs c.loop-nth.nth (omega (arith, over, count_is)) (inv.held trees))
