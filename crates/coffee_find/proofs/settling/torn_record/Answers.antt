use Rattle.std.proofs.Common.{◌≡◌, inl, inr, arith, ap, length, ◌∙◌}
use Rattle.coffee_layout.specs.FileBytes.{table_of, used_in}
use Rattle.coffee_find.proofs.Missed.{missed_full, missed_inactive}
use Rattle.coffee_find.proofs.settling.torn_record.Goals as goal
use Rattle.coffee_find.proofs.settling.torn_record.Goals.{then-is_full-via-then-is_full, then-is_full-via-else-is_full+then-size-page}

pub returns-then-not-branch-clause-misses : goal.returns-then-not-branch-clause-misses
returns-then-not-branch-clause-misses g c = λ t m s.
    missed_inactive (g.F.Flash.image c.args.flash.now) c.sectors.result c.sectors.ensures.size c.args.log.0 m (λ a. c.in_ok-is_active_at.ensures.none t c.if-not-branch.true a) s

pub returns-then-is_full-clause-misses : goal.returns-then-is_full-clause-misses
returns-then-is_full-clause-misses g c = λ t m s.
    let image = g.F.Flash.image c.args.flash.now in
    let same = c.in_ok-is_active_at.ensures.frame.same in
    let table : c.read_table.new.table ≡ table_of image c.args.log.0 = rw same at (c.in_ok-read_table.ensures.table t) in
    let used : c.records_used-used.result ≡ used_in (table_of image c.args.log.0) = c.records_used-used.ensures.used ∙ ap used_in table in
    elim c.then-is_full.branch [
      | then-is_full-via-then-is_full w ↦ missed_full image c.sectors.result c.sectors.ensures.size c.args.log.0 m c.records_used-used.result used (inl (omega (arith, c.is_full.ensures.yes w.if-is_full.true))) s
      | then-is_full-via-else-is_full+then-size-page w ↦ missed_full image c.sectors.result c.sectors.ensures.size c.args.log.0 m c.records_used-used.result used (inr (omega (arith, w.if-size-page.true, c.sectors.ensures.size, c.sectors-2.ensures.size, ap (λ xs. length xs) same))) s
    ]
