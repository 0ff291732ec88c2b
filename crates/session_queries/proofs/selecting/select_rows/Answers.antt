use Rattle.std.proofs.Common.{rules, arith, ◌≡◌, true, false, refl, ◌∙◌}
use Rattle.tuple_file.specs.Tuples.{rows}
use Rattle.session_queries.specs.Replies.{rows_left}
use Rattle.session_queries.proofs.Lines.{rows_done, rows_failed, rows_less, select_begins, select_goes_on, wrote_all}
use Rattle.session_queries.proofs.selecting.select_rows.Goals as goal

pub returns-in-Err-clause-replies : goal.returns-in-Err-clause-replies
returns-in-Err-clause-replies g c = λ t f.
    let inv = c.rows.invariant in
    let s = inv.told t f in
    let all = rows (g.V.Files.state c.args.files.now).files c.args.cursor.now.tuples in
    let places = c.args.places.now in
    let whole = rows_left places c.args.cursor.now all in
    let left = rows_left places c.rows.cursor all in
    let h0 = g.K.Sink.held c.args.out.now in
    let h1 = g.K.Sink.held c.rows.out in
    let h2 = g.K.Sink.held c.select_next.new.out in
    rows_failed whole left (rows_left places c.select_next.new.cursor all) h0 h1 h2 c.rows.count c.in-Err.stop s.wrote
    ((rw (inv.same, inv.tuples) at c.in-Err.ensures.wrote) t s.fits)

pub rows-preserved : goal.rows-preserved
rows-preserved g c =
    let inv = c.rows.invariant in
    let h = c.in-Ok.ensures in
    let found : c.in-Ok.found ≡ true = search rules in
    let went = rw found at h.forward in
    record {
      same = h.frame.same ∙ inv.same;
      lent = h.frame.lent ∙ inv.lent;
      reads_later = omega (arith, inv.reads_later, h.frame.later);
      files_later = omega (arith, inv.files_later, h.frame.cause.files_later);
      faultless = h.frame.faultless ∙ inv.faultless;
      sink_lent = h.frame.sink_lent ∙ inv.sink_lent;
      tuples = h.tuples ∙ inv.tuples;
      slots = h.slots ∙ inv.slots;
      row = λ some. h.size ∙ inv.row some;
      few = omega (arith, inv.few, went refl);
      may_read = rw inv.same at h.may_read;
      told = λ t f.
          let s = inv.told t f in
          select_goes_on (g.V.Files.state c.args.files.now) c.args.tables.now (rows (g.V.Files.state c.args.files.now).files c.args.cursor.now.tuples) c.args.places.now
          c.args.cursor.now c.rows.cursor c.select_next.new.cursor (g.K.Sink.held c.args.out.now) (g.K.Sink.held c.rows.out) (g.K.Sink.held c.select_next.new.out)
          c.rows.count (g.V.Files.reads c.args.files.now) (g.V.Files.reads c.rows.files) (g.V.Files.reads c.select_next.new.files) s
          (rw found at ((rw (inv.same, inv.tuples) at h.wrote) t s.fits))
          ((rw (inv.same, inv.tuples) at h.fits) t s.fits) ((rw (inv.same, inv.tuples) at h.reads) t s.fits);
    }

pub returns-in-Ok-write_rows-clause-replies : goal.returns-in-Ok-write_rows-clause-replies
returns-in-Ok-write_rows-clause-replies g c = λ t f.
    let inv = c.rows.invariant in
    let s = inv.told t f in
    let found : c.in-Ok.found ≡ false = search rules in
    let last = rw found at ((rw (inv.same, inv.tuples) at c.in-Ok.ensures.wrote) t s.fits) in
    let all = rows (g.V.Files.state c.args.files.now).files c.args.cursor.now.tuples in
    let places = c.args.places.now in
    let whole = rows_left places c.args.cursor.now all in
    let left = rows_left places c.rows.cursor all in
    let h0 = g.K.Sink.held c.args.out.now in
    let h1 = g.K.Sink.held c.rows.out in
    let h2 = g.K.Sink.held c.select_next.new.out in
    let written = wrote_all whole left h0 h1 c.rows.count s.wrote last.0 in
    rows_done whole c.rows.count h0 h2 (g.K.Sink.held c.write_rows.new.out) (record { counted = written.counted; written = last.1 ∙ written.written }) c.in-Ok-write_rows.ensures.written

pub returns-in-Err-write_rows-clause-replies : goal.returns-in-Err-write_rows-clause-replies
returns-in-Err-write_rows-clause-replies g c = λ t f.
    let inv = c.rows.invariant in
    let s = inv.told t f in
    let found : c.in-Ok.found ≡ false = search rules in
    let last = rw found at ((rw (inv.same, inv.tuples) at c.in-Ok.ensures.wrote) t s.fits) in
    let all = rows (g.V.Files.state c.args.files.now).files c.args.cursor.now.tuples in
    let places = c.args.places.now in
    let whole = rows_left places c.args.cursor.now all in
    let left = rows_left places c.rows.cursor all in
    let h0 = g.K.Sink.held c.args.out.now in
    let h1 = g.K.Sink.held c.rows.out in
    let h2 = g.K.Sink.held c.select_next.new.out in
    let written = wrote_all whole left h0 h1 c.rows.count s.wrote last.0 in
    rows_less whole c.rows.count h0 h2 (g.K.Sink.held c.write_rows.new.out) (record { counted = written.counted; written = last.1 ∙ written.written }) c.in-Err-write_rows.ensures.failed

pub rows-init : goal.rows-init
rows-init g c = record {
  same = refl;
  lent = refl;
  reads_later = omega arith;
  files_later = omega arith;
  faultless = refl;
  sink_lent = refl;
  tuples = refl;
  slots = refl;
  row = search rules;
  few = omega arith;
  may_read = c.requires.may_read;
  told = λ t f.
      select_begins (g.V.Files.state c.args.files.now) c.args.tables.now (rows (g.V.Files.state c.args.files.now).files c.args.cursor.now.tuples) c.args.places.now c.args.cursor.now
      (g.K.Sink.held c.args.out.now) (g.V.Files.reads c.args.files.now) f;
}
