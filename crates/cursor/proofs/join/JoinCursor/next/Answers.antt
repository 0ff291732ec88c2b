use Rattle.std.proofs.Common.{rules, ◌+◌, ◌∙◌, None, ap, arith}
use Rattle.tuple_file.specs.Tuples.{rows}
use Rattle.cursor.specs.declared.join.JoinCursor.{JoinCursor}
use Rattle.cursor.specs.Pairs.{FailsPair, FitsPairs, behind_pair}
use Rattle.cursor.proofs.Joins.{all_passed, has_answered, joining_cost, joining_fault, joining_more, joining_pair, next_may}
use Rattle.cursor.proofs.join.JoinCursor.next.Goals as goal

pub returns-in_err-partnered-clause-fails : goal.returns-in_err-partnered-clause-fails
returns-in_err-partnered-clause-fails g c = λ told.
    let state = g.V.Files.state c.args.files.now in
    let tables = c.args.tables.now in
    let before = c.args.self.now in
    let now = c.lefts.self in
    let inv = c.lefts.invariant in
    let lefts = rows state.files before.left in
    let rights = rows state.files before.right in
    let most : FitsPairs before state tables → FailsPair before now lefts rights (g.V.Files.reads c.args.files.now) (g.V.Files.reads c.pair_at.new.files) =
    λ fits. let j = inv.told told fits in
    record {
      unanswered = j.left;
      reads = joining_fault state tables before now (g.V.Files.reads c.args.files.now) (g.V.Files.reads c.lefts.files) (g.V.Files.reads c.pair_at.new.files) j
          (ap (λ (x : JoinCursor). x.left) inv.stands) (ap (λ (x : JoinCursor). x.right) inv.stands) ((rw inv.same at c.in_err-partnered.ensures.reads_err) told j.fits);
    } in
    search (rules, most)

pub returns-in-Some-clause-yields : goal.returns-in-Some-clause-yields
returns-in-Some-clause-yields g c = λ told fits.
    let state = g.V.Files.state c.args.files.now in
    let before = c.args.self.now in
    let now = c.lefts.self in
    let inv = c.lefts.invariant in
    let j = inv.told told fits in
    let le = ap (λ (x : JoinCursor). x.left) inv.stands in
    let re = ap (λ (x : JoinCursor). x.right) inv.stands in
    let behind = behind_pair now c.in-Some.partnered.slot c.in-Some.partnered.inner in
    let r0 = g.V.Files.reads c.args.files.now in
    let r1 = g.V.Files.reads c.lefts.files in
    let r2 = g.V.Files.reads c.pair_at.new.files in
    let h = c.in_ok-partnered.ensures in
    rw c.number.ensures.value (record {
      next = joining_pair state c.args.tables.now before now r0 r1 r2 j le re behind (c.pair_at.new.left, c.pair_at.new.right) ((rw (inv.same, c.in-Some.is) at h.steps) told j.fits).0;
      over = λ none. absurd (cc);
      fits = (rw (inv.same, c.in-Some.is) at h.fits) told j.fits;
      reads = joining_cost state c.args.tables.now before now r0 r1 r2 j le re behind ((rw (inv.same, c.in-Some.is) at h.steps) told j.fits).1;
    })

pub returns-in-Some-clause-pair : goal.returns-in-Some-clause-pair
returns-in-Some-clause-pair g c = λ told yes.
    let state = g.V.Files.state c.args.files.now in
    let before = c.args.self.now in
    let now = c.lefts.self in
    let inv = c.lefts.invariant in
    rw c.number.ensures.value
    (has_answered state before now (ap (λ (x : JoinCursor). x.left) inv.stands) (ap (λ (x : JoinCursor). x.right) inv.stands)
    c.in-Some.partnered.slot c.in-Some.partnered.inner c.pair_at.new.left c.pair_at.new.right
    ((rw (inv.same, c.in-Some.is) at c.in_ok-partnered.ensures.left_row) told)
    ((rw (inv.same, c.in-Some.is) at c.in_ok-partnered.ensures.right_row) told))

pub returns-clause-yields : goal.returns-clause-yields
returns-clause-yields g c = λ told fits.
    let state = g.V.Files.state c.args.files.now in
    let before = c.args.self.now in
    let now = c.lefts.self in
    let j = c.lefts.invariant.told told fits in
    let none = all_passed now (rows state.files before.left) (rows state.files before.right) (omega arith) in
    record { next = j.left ∙ none; over = λ is. none; fits = j.fits; reads = j.few }

pub lefts-preserved : goal.lefts-preserved
lefts-preserved g c =
    let state = g.V.Files.state c.args.files.now in
    let before = c.args.self.now in
    let now = c.lefts.self in
    let inv = c.lefts.invariant in
    record {
      same = c.in_ok-partnered.ensures.frame.same ∙ inv.same;
      lent = c.in_ok-partnered.ensures.frame.lent ∙ inv.lent;
      reads_later = omega (arith, inv.reads_later, c.in_ok-partnered.ensures.frame.later);
      faults = omega (arith, inv.faults, c.in_ok-partnered.ensures.frame.faultless);
      stands = ap (λ (x : JoinCursor). record x { at = now.at + 1; from = 0; inner = None }) inv.stands;
      later = omega (arith, inv.later);
      end = λ within. let here = c.lefts-test.true in let same = ap (λ (x : JoinCursor). x.left_slots) inv.stands in omega (arith, here, same);
      may_read = next_may state now inv.may_read;
      told = λ told fits.
          let j = inv.told told fits in
          joining_more state c.args.tables.now before now (g.V.Files.reads c.args.files.now) (g.V.Files.reads c.lefts.files) (g.V.Files.reads c.pair_at.new.files) j
          (ap (λ (x : JoinCursor). x.left) inv.stands) (ap (λ (x : JoinCursor). x.right) inv.stands)
          ((rw (inv.same, c.in-None.is) at c.in_ok-partnered.ensures.steps) told j.fits).0
          ((rw (inv.same, c.in-None.is) at c.in_ok-partnered.ensures.steps) told j.fits).1;
    }
