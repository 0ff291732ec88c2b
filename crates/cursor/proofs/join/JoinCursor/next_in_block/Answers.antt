use Rattle.std.proofs.Common.{◌+◌, ◌≤◌, ◌∙◌, Some, None, ap, arith, refl}
use Rattle.padded.proofs.Facts.{on_err}
use Rattle.tuple_file.specs.Tuples.{rows}
use Rattle.cursor.specs.declared.block.Block.{Block}
use Rattle.cursor.specs.declared.join.JoinCursor.{JoinCursor}
use Rattle.cursor.specs.Blocks.{IsBlockOf, cost_by_block}
use Rattle.cursor.specs.Pairs.{FitsPairs}
use Rattle.cursor.proofs.BlockWalk.{fails_paid, for_next, may_at, take_fails, walks_on, yields_none, yields_pair}
use Rattle.cursor.proofs.join.JoinCursor.next_in_block.Goals as goal

pub returns-in_err-take_block-clause-reads_err : goal.returns-in_err-take_block-clause-reads_err
returns-in_err-take_block-clause-reads_err g c = λ told.
    let state = g.V.Files.state c.args.files.now in
    let tables = c.args.tables.now in
    let before = c.args.self.now in
    let now = c.lefts.self in
    let b = c.args.block.now in
    let b_now = c.lefts.block in
    let inv = c.lefts.invariant in
    let r0 = g.V.Files.reads c.args.files.now in
    let r1 = g.V.Files.reads c.lefts.files in
    let r2 = g.V.Files.reads c.take_block.new.files in
    let most : FitsPairs before state tables → IsBlockOf b before (rows state.files before.left) (rows state.files before.right)
    → r2 ≤ r0 + cost_by_block b before (rows state.files before.left) (rows state.files before.right) =
    λ fits block. take_fails state tables b b_now before now r0 r1 (inv.told told fits block) r2 c.requires.serves c.in_err-take_block.ensures.reads_err in
    on_err _ most

pub returns-in_err-slot-clause-reads_err : goal.returns-in_err-slot-clause-reads_err
returns-in_err-slot-clause-reads_err g c = λ told.
    let state = g.V.Files.state c.args.files.now in
    let tables = c.args.tables.now in
    let before = c.args.self.now in
    let now = c.lefts.self in
    let b = c.args.block.now in
    let b_now = c.lefts.block in
    let inv = c.lefts.invariant in
    let r0 = g.V.Files.reads c.args.files.now in
    let r1 = g.V.Files.reads c.lefts.files in
    let lefts = ap (λ (x : JoinCursor). rows state.files x.left) inv.stands in
    let rights = ap (λ (x : JoinCursor). rows state.files x.right) inv.stands in
    let b_taken = c.take_block.new.block in
    let took = c.in_ok-take_block.ensures in
    let same = took.frame.same ∙ inv.same in
    let r2 = g.V.Files.reads c.take_block.new.files in
    let r3 = g.V.Files.reads c.pair_in_block.new.files in
    let most : FitsPairs before state tables → IsBlockOf b before (rows state.files before.left) (rows state.files before.right)
    → r3 ≤ r0 + cost_by_block b before (rows state.files before.left) (rows state.files before.right) =
    λ fits block.
    let w = inv.told told fits block in
    let read = (rw (inv.same, lefts, rights) at took.read) told w.read in
    fails_paid state tables b b_now b_taken b_taken before now r0 r1 r2 r3 w inv.block.rests read took.reads refl c.requires.serves
    ((rw (same, lefts, rights) at c.in_err-slot.ensures.reads_err) told read) in
    on_err _ most

pub returns-in-Some-clause-yields : goal.returns-in-Some-clause-yields
returns-in-Some-clause-yields g c = λ told fits block.
    let state = g.V.Files.state c.args.files.now in
    let tables = c.args.tables.now in
    let before = c.args.self.now in
    let now = c.lefts.self in
    let b = c.args.block.now in
    let b_now = c.lefts.block in
    let inv = c.lefts.invariant in
    let r0 = g.V.Files.reads c.args.files.now in
    let r1 = g.V.Files.reads c.lefts.files in
    let lefts = ap (λ (x : JoinCursor). rows state.files x.left) inv.stands in
    let rights = ap (λ (x : JoinCursor). rows state.files x.right) inv.stands in
    let b_taken = c.take_block.new.block in
    let took = c.in_ok-take_block.ensures in
    let same = took.frame.same ∙ inv.same in
    let r2 = g.V.Files.reads c.take_block.new.files in
    let b_new = c.pair_in_block.new.block in
    let r3 = g.V.Files.reads c.pair_in_block.new.files in
    let h = c.in_ok-slot.ensures in
    let serves_new = ap (λ (x : Block). x.serves) h.kept ∙ took.serves ∙ inv.serves ∙ c.requires.serves in
    let w = inv.told told fits block in
    let read = (rw (inv.same, lefts, rights) at took.read) told w.read in
    rw c.number.ensures.value
    (yields_pair state tables b b_now b_taken b_new before now r0 r1 r2 r3 w inv.block.rests ((rw (same, lefts, rights) at h.read) told read) took.reads h.kept
    (c.pair_in_block.new.left, c.pair_in_block.new.right) c.in-Some.slot c.requires.serves serves_new
    ((rw (same, lefts, rights, c.in-Some.is) at h.pairs) told read) ((rw (same, lefts, rights, c.in-Some.is) at h.reads) told read))

pub lefts-preserved : goal.lefts-preserved
lefts-preserved g c =
    let state = g.V.Files.state c.args.files.now in
    let tables = c.args.tables.now in
    let before = c.args.self.now in
    let now = c.lefts.self in
    let b = c.args.block.now in
    let b_now = c.lefts.block in
    let inv = c.lefts.invariant in
    let r0 = g.V.Files.reads c.args.files.now in
    let r1 = g.V.Files.reads c.lefts.files in
    let lefts = ap (λ (x : JoinCursor). rows state.files x.left) inv.stands in
    let rights = ap (λ (x : JoinCursor). rows state.files x.right) inv.stands in
    let b_taken = c.take_block.new.block in
    let took = c.in_ok-take_block.ensures in
    let same = took.frame.same ∙ inv.same in
    let r2 = g.V.Files.reads c.take_block.new.files in
    let b_new = c.pair_in_block.new.block in
    let r3 = g.V.Files.reads c.pair_in_block.new.files in
    let h = c.in_ok-slot.ensures in
    let serves_new = ap (λ (x : Block). x.serves) h.kept ∙ took.serves ∙ inv.serves ∙ c.requires.serves in
    record {
      same = h.frame.same ∙ same;
      lent = h.frame.lent ∙ took.frame.lent ∙ inv.lent;
      reads_later = omega (arith, inv.reads_later, took.frame.later, h.frame.later);
      faults = h.frame.faultless ∙ took.frame.faultless ∙ inv.faults;
      stands = ap (λ (x : JoinCursor). record x { at = now.at + 1; from = 0; inner = now.inner }) inv.stands;
      serves = ap (λ (x : Block). x.serves) h.kept ∙ took.serves ∙ inv.serves;
      block = for_next b_taken b_new now h.kept took.block took.inside h.within;
      may_read = may_at state now (now.at + 1) 0 (omega arith) inv.may_read;
      told = λ told fits block.
          let w = inv.told told fits block in
          let read = (rw (inv.same, lefts, rights) at took.read) told w.read in
          walks_on state tables b b_now b_taken b_new before now r0 r1 r2 r3 w inv.block.rests ((rw (same, lefts, rights) at h.read) told read) took.reads h.kept
          ((rw (same, lefts, rights, c.in-None.is) at h.pairs) told read) ((rw (same, lefts, rights, c.in-None.is) at h.reads) told read);
    }

pub returns-clause-yields : goal.returns-clause-yields
returns-clause-yields g c = λ told fits block.
    let state = g.V.Files.state c.args.files.now in
    let tables = c.args.tables.now in
    let before = c.args.self.now in
    let now = c.lefts.self in
    let b = c.args.block.now in
    let b_now = c.lefts.block in
    let inv = c.lefts.invariant in
    let r0 = g.V.Files.reads c.args.files.now in
    let r1 = g.V.Files.reads c.lefts.files in
    yields_none state tables b b_now before now r0 r1 (inv.told told fits block) (c.lefts.left, c.lefts.right) c.requires.serves (inv.serves ∙ c.requires.serves) (omega (arith, c.lefts-test.false))
