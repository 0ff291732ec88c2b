use Rattle.std.proofs.Common.{rules, arith, ◌≡◌, ◌+◌, ℕ, true, false, refl, ap, ◌∙◌}
use Rattle.cursor.specs.declared.select.SelectCursor.{SelectCursor}
use Rattle.cursor.specs.Remaining.{remaining}
use Rattle.index_set.specs.Walks.{cost_ahead}
use Rattle.tuple_file.specs.Tuples.{rows}
use Rattle.session_plans.specs.Aggregates.{medians}
use Rattle.session_queries.proofs.Passes.{done_closed, paid, pass_ends, restarted}
use Rattle.session_queries.proofs.passing.fold_all.Goals as goal
use Rattle.padded.proofs.Facts.{one_more_times}

pub returns-in_err-fold_rows-clause-reads : goal.returns-in_err-fold_rows-clause-reads
returns-in_err-fold_rows-clause-reads g c = λ t f.
    let inv = c.loop-pass.invariant in
    let cursor = c.restart.ensures ∙ restarted c.args.cursor.now c.loop-pass.cursor c.args.cursor.now.candidates inv.tuples inv.code refl in
    let cost : ℕ = cost_ahead c.args.cursor.now.candidates (rows (g.V.Files.state c.args.files.now).files c.args.cursor.now.tuples) in
    let most = paid (medians c.args.items.now) c.loop-pass._pass cost (omega (arith, c.loop-pass-test.true)) inv.median in
    omega (arith, inv.reads t f, (rw (inv.same, cursor) at c.in_err-fold_rows.ensures.reads) t f, most)

pub returns-then-not-end_all-clause-done : goal.returns-then-not-end_all-clause-done
returns-then-not-end_all-clause-done g c =
    let inv = c.loop-pass.invariant in
    let ended : c.end_all.result ≡ false = search rules in
    done_closed c.args.items.now (c.loop-pass._pass + 1) c.end_all.new.tallies
    (λ i inside. (c.end_all.ensures.ends i inside).stands c.loop-pass._pass (c.in_ok-fold_rows.ensures.stand c.loop-pass._pass inv.stand i inside)) (c.end_all.ensures.closed ended)

pub returns-then-not-end_all-clause-folded : goal.returns-then-not-end_all-clause-folded
returns-then-not-end_all-clause-folded g c = λ t f are.
    let inv = c.loop-pass.invariant in
    let cursor = c.restart.ensures ∙ restarted c.args.cursor.now c.loop-pass.cursor c.args.cursor.now.candidates inv.tuples inv.code refl in
    let all = remaining c.args.cursor.now (rows (g.V.Files.state c.args.files.now).files c.args.cursor.now.tuples) in
    pass_ends c.args.items.now all c.fold_rows.new.tallies c.end_all.new.tallies c.end_all.ensures.ends
    ((rw (inv.same, cursor) at c.in_ok-fold_rows.ensures.folded) t f all (inv.folded t f are))

pub returns-then-not-end_all-clause-reads : goal.returns-then-not-end_all-clause-reads
returns-then-not-end_all-clause-reads g c = λ t f.
    let inv = c.loop-pass.invariant in
    let cursor = c.restart.ensures ∙ restarted c.args.cursor.now c.loop-pass.cursor c.args.cursor.now.candidates inv.tuples inv.code refl in
    let cost : ℕ = cost_ahead c.args.cursor.now.candidates (rows (g.V.Files.state c.args.files.now).files c.args.cursor.now.tuples) in
    let most = paid (medians c.args.items.now) c.loop-pass._pass cost (omega (arith, c.loop-pass-test.true)) inv.median in
    omega (arith, inv.reads t f, (rw (inv.same, cursor) at c.in_ok-fold_rows.ensures.reads) t f, most)

pub loop-pass-preserved : goal.loop-pass-preserved
loop-pass-preserved g c =
    let inv = c.loop-pass.invariant in
    let cursor = c.restart.ensures ∙ restarted c.args.cursor.now c.loop-pass.cursor c.args.cursor.now.candidates inv.tuples inv.code refl in
    let h = c.in_ok-fold_rows.ensures in
    let ends = c.end_all.ensures.ends in
    let again : c.end_all.result ≡ true = search rules in
    record {
      same = h.frame.same ∙ inv.same;
      lent = h.frame.lent ∙ inv.lent;
      reads_later = omega (arith, inv.reads_later, h.frame.later);
      files_later = omega (arith, inv.files_later, h.frame.faultless);
      tuples = h.tuples ∙ ap (λ (z : SelectCursor). z.tuples) cursor;
      code = h.code ∙ ap (λ (z : SelectCursor). z.code) cursor;
      many = c.end_all.ensures.many ∙ h.many ∙ inv.many;
      aggs = λ i inside. (ends i inside).agg ∙ h.aggs i inside;
      fresh = λ i inside is_open. omega (arith, (ends i inside).fresh is_open);
      stand = λ i inside. (ends i inside).stands c.loop-pass._pass (h.stand c.loop-pass._pass inv.stand i inside);
      median = λ _. c.end_all.ensures.median h.aggs again;
      folded = λ t f are.
          let all = remaining c.args.cursor.now (rows (g.V.Files.state c.args.files.now).files c.args.cursor.now.tuples) in
          pass_ends c.args.items.now all c.fold_rows.new.tallies c.end_all.new.tallies ends ((rw (inv.same, cursor) at h.folded) t f all (inv.folded t f are));
      reads = λ t f.
          let cost : ℕ = cost_ahead c.args.cursor.now.candidates (rows (g.V.Files.state c.args.files.now).files c.args.cursor.now.tuples) in
          omega (arith, inv.reads t f, (rw (inv.same, cursor) at h.reads) t f, one_more_times c.loop-pass._pass cost);
    }
