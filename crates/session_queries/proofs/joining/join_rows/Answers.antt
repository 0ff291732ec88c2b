use Rattle.std.proofs.Common.{rules, arith, ◌≡◌, ◌*◌, ℕ, true, false, refl, sym, subst, ap, ◌∙◌}
use Rattle.cursor.specs.declared.join.JoinCursor.{JoinCursor}
use Rattle.tuple_file.specs.declared.tuples.Tuples.{Tuples}
use Rattle.tuple_file.specs.Tuples.{rows}
use Rattle.session_queries.specs.Replies.{WroteAll, joined_left}
use Rattle.session_queries.proofs.Lines.{rows_failed, wrote_all}
use Rattle.session_queries.proofs.Paired.{join_begins, join_ended, join_goes_on}
use Rattle.session_queries.proofs.joining.join_rows.Goals as goal

pub returns-then-not-found-clause-wrote : goal.returns-then-not-found-clause-wrote
returns-then-not-found-clause-wrote g c = λ t f b few.
    let inv = c.loop-count.invariant in
    let s = inv.told t f b in
    let lefts = ap (λ (x : Tuples). rows (g.V.Files.state c.args.files.now).files x) inv.left in
    let rights = ap (λ (x : Tuples). rows (g.V.Files.state c.args.files.now).files x) inv.right in
    let found : c.in-Ok.found ≡ false = search rules in
    let last = rw found at ((rw (inv.same, lefts, rights) at c.in-Ok.ensures.wrote) t s.fits s.block) in
    let files = (g.V.Files.state c.args.files.now).files in
    let now = c.args.cursor.now in
    let whole = joined_left c.args.places.now now (rows files now.left) (rows files now.right) in
    let left = joined_left c.args.places.now c.loop-count.cursor (rows files now.left) (rows files now.right) in
    let h0 = g.K.Sink.held c.args.out.now in
    let h1 = g.K.Sink.held c.loop-count.out in
    let all = wrote_all whole left h0 h1 c.loop-count.count s.wrote last.0 in
    record { counted = all.counted; written = last.1 ∙ all.written }

pub returns-then-not-found-clause-reads : goal.returns-then-not-found-clause-reads
returns-then-not-found-clause-reads g c = λ t f b.
    let inv = c.loop-count.invariant in
    let s = inv.told t f b in
    let lefts = ap (λ (x : Tuples). rows (g.V.Files.state c.args.files.now).files x) inv.left in
    let rights = ap (λ (x : Tuples). rows (g.V.Files.state c.args.files.now).files x) inv.right in
    let on = (rw (inv.same, lefts, rights) at c.in-Ok.ensures.goes_on) t s.fits s.block in
    omega (arith, s.few, on.reads)

pub returns-in-Err-clause-wrote : goal.returns-in-Err-clause-wrote
returns-in-Err-clause-wrote g c = λ t f b few.
    let inv = c.loop-count.invariant in
    let s = inv.told t f b in
    let lefts = ap (λ (x : Tuples). rows (g.V.Files.state c.args.files.now).files x) inv.left in
    let rights = ap (λ (x : Tuples). rows (g.V.Files.state c.args.files.now).files x) inv.right in
    let files = (g.V.Files.state c.args.files.now).files in
    let now = c.args.cursor.now in
    let whole = joined_left c.args.places.now now (rows files now.left) (rows files now.right) in
    let left = joined_left c.args.places.now c.loop-count.cursor (rows files now.left) (rows files now.right) in
    let h0 = g.K.Sink.held c.args.out.now in
    let h1 = g.K.Sink.held c.loop-count.out in
    rows_failed whole left (joined_left c.args.places.now c.join_next.new.cursor (rows files now.left) (rows files now.right)) h0 h1 (g.K.Sink.held c.join_next.new.out) c.loop-count.count c.in-Err.stop s.wrote
    ((rw (inv.same, lefts, rights) at c.in-Err.ensures.wrote) t s.fits s.block)

pub returns-in-Err-clause-reads : goal.returns-in-Err-clause-reads
returns-in-Err-clause-reads g c = λ t f b.
    let inv = c.loop-count.invariant in
    let s = inv.told t f b in
    let lefts = ap (λ (x : Tuples). rows (g.V.Files.state c.args.files.now).files x) inv.left in
    let rights = ap (λ (x : Tuples). rows (g.V.Files.state c.args.files.now).files x) inv.right in
    omega (arith, s.few, (rw (inv.same, lefts, rights) at c.in-Err.ensures.reads_err) t s.fits s.block)

pub loop-count-preserved : goal.loop-count-preserved
loop-count-preserved g c =
    let inv = c.loop-count.invariant in
    let h = c.in-Ok.ensures in
    let found : c.in-Ok.found ≡ true = search rules in
    let lefts = ap (λ (x : Tuples). rows (g.V.Files.state c.args.files.now).files x) inv.left in
    let rights = ap (λ (x : Tuples). rows (g.V.Files.state c.args.files.now).files x) inv.right in
    record {
      same = h.frame.same ∙ inv.same;
      lent = h.frame.lent ∙ inv.lent;
      reads_later = omega (arith, inv.reads_later, h.frame.later);
      files_later = omega (arith, inv.files_later, h.frame.cause.files_later);
      faultless = h.frame.faultless ∙ inv.faultless;
      sink_lent = h.frame.sink_lent ∙ inv.sink_lent;
      left = ap (λ (z : JoinCursor). z.left) h.stands ∙ inv.left;
      right = ap (λ (z : JoinCursor). z.right) h.stands ∙ inv.right;
      may_read = rw inv.same at h.may_read;
      block = h.block;
      told = λ t f b.
          let s = inv.told t f b in
          let on = (rw (inv.same, lefts, rights) at h.goes_on) t s.fits s.block in
          join_goes_on (g.V.Files.state c.args.files.now) c.args.tables.now (rows (g.V.Files.state c.args.files.now).files c.args.cursor.now.left) (rows (g.V.Files.state c.args.files.now).files c.args.cursor.now.right)
          c.args.places.now c.args.block.now c.loop-count.block c.join_next.new.block c.args.cursor.now c.loop-count.cursor c.join_next.new.cursor (g.K.Sink.held c.args.out.now) (g.K.Sink.held c.loop-count.out) (g.K.Sink.held c.join_next.new.out)
          c.loop-count.count (g.V.Files.reads c.args.files.now) (g.V.Files.reads c.loop-count.files) (g.V.Files.reads c.join_next.new.files) s
          (rw found at ((rw (inv.same, lefts, rights) at h.wrote) t s.fits s.block))
          on.fits on.holds on.reads;
    }

pub returns-clause-wrote : goal.returns-clause-wrote
returns-clause-wrote g c = λ t f b few.
    let inv = c.loop-count.invariant in
    let s = inv.told t f b in
    let many : c.args.cursor.now.left_slots * c.args.cursor.now.right_slots ≡ c.from.result * c.from-2.result =
    ap (λ (n : ℕ). n * c.args.cursor.now.right_slots) (sym c.from.ensures) ∙ ap (λ (n : ℕ). c.from.result * n) (sym c.from-2.ensures) in
    let most : c.loop-count.count ≡ c.from.result * c.from-2.result = omega arith in
    let files = (g.V.Files.state c.args.files.now).files in
    let now = c.args.cursor.now in
    let whole = joined_left c.args.places.now now (rows files now.left) (rows files now.right) in
    let left = joined_left c.args.places.now c.loop-count.cursor (rows files now.left) (rows files now.right) in
    let h0 = g.K.Sink.held c.args.out.now in
    let h1 = g.K.Sink.held c.loop-count.out in
    subst (WroteAll whole h0 h1) most
    (join_ended (g.V.Files.state c.args.files.now) c.args.tables.now (rows (g.V.Files.state c.args.files.now).files c.args.cursor.now.left) (rows (g.V.Files.state c.args.files.now).files c.args.cursor.now.right)
    c.args.places.now c.args.block.now c.loop-count.block c.args.cursor.now c.loop-count.cursor h0 h1 c.loop-count.count (g.V.Files.reads c.args.files.now) (g.V.Files.reads c.loop-count.files) s (omega (arith, few, many)))

pub loop-count-init : goal.loop-count-init
loop-count-init g c = record {
  same = refl;
  lent = refl;
  reads_later = omega arith;
  files_later = omega arith;
  faultless = refl;
  sink_lent = refl;
  left = refl;
  right = refl;
  may_read = c.requires.may_read;
  block = c.requires.block;
  told = λ t f b.
      join_begins (g.V.Files.state c.args.files.now) c.args.tables.now (rows (g.V.Files.state c.args.files.now).files c.args.cursor.now.left) (rows (g.V.Files.state c.args.files.now).files c.args.cursor.now.right)
      c.args.places.now c.args.block.now c.args.cursor.now (g.K.Sink.held c.args.out.now) (g.V.Files.reads c.args.files.now) f b;
}
