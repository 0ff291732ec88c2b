use Rattle.std.proofs.Common.{None, sym, ◌∙◌}
use Rattle.padded.proofs.Facts.{err_is}
use Rattle.afl_base.proofs.CutLaws.{mends_now}
use Rattle.afl_base.proofs.SparingLaws.{takes_no_page_on, takes_no_page_same}
use Rattle.session_indexes.proofs.PutParts.{may_same}
use Rattle.session_indexes.proofs.slots.clear_entry.Goals as goal

pub returns-in_err-prepare_slot-clause-cut : goal.returns-in_err-prepare_slot-clause-cut
returns-in_err-prepare_slot-clause-cut g c = λ cuts told failed.
    let s0 = g.V.Files.state c.args.files.now in
    let handed = err_is c.from_residual.result c.in_err-prepare_slot.field-0.0 c.from_residual.ensures.1 in
    mends_now s0 (c.prepare_slot.ensures.cut cuts told (c.in_err-prepare_slot.was ∙ sym handed ∙ failed))
    (may_same s0 c.args.cat c.args.slot None c.requires.catalog told)

pub returns-clause-spares : goal.returns-clause-spares
returns-clause-spares g c = λ told none.
    let free = g.V.Files.is_free in
    let u = c.in_ok-prepare_slot.ensures.kept in
    takes_no_page_on free _ _ _ (takes_no_page_same free _ _ (c.in_ok-prepare_slot.ensures.still none).store) (c.in_ok-clear_index.ensures.spares (u.tells ∙ told))
