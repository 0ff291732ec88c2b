use Rattle.std.proofs.Common.{◌≡◌, ◌+◌, ◌-◌, ap, arith, length, subst, ◌∙◌}
use Rattle.std.specs.Io.KnownBytes.{append_known}
use Rattle.db_model.specs.Step.{slots_limit}
use Rattle.run_look.proofs.LiveRows.{line_of}
use Rattle.run_look.proofs.relations.write_used.Goals as goal
use Rattle.reply_text.specs.WroteLess.{WroteLess}
use Rattle.space_model.specs.Enough.{rows_in}

pub returns-in-Ok-write_rows_line-clause-wrote : goal.returns-in-Ok-write_rows_line-clause-wrote
returns-in-Ok-write_rows_line-clause-wrote g c = λ told sound.
    let db = c.args.session.now.database in
    let few = c.in-Ok.ensures.few in
    let slots = c.slots-slots.ensures in
    let all : c.in-Ok.live + (c.slots-slots.result - c.in-Ok.live) ≡ length (rows_in db c.args.id) = omega (arith, few, slots) in
    let left = rw (c.slots_limit.ensures, c.slots-slots.ensures) at c.saturating_sub-left.ensures in
    c.in-Ok-write_rows_line.ensures.written
    ∙ ap (append_known (g.K.Sink.held c.args.out.now))
    (line_of db c.args.id (slots_limit db.version) c.args.schema.now c.in-Ok.live _ _ c.requires.schema (c.in-Ok.ensures.live told sound) all left)

pub returns-in-Err-write_rows_line-clause-wrote : goal.returns-in-Err-write_rows_line-clause-wrote
returns-in-Err-write_rows_line-clause-wrote g c = λ told sound.
    let db = c.args.session.now.database in
    let few = c.in-Ok.ensures.few in
    let slots = c.slots-slots.ensures in
    let all : c.in-Ok.live + (c.slots-slots.result - c.in-Ok.live) ≡ length (rows_in db c.args.id) = omega (arith, few, slots) in
    let left = rw (c.slots_limit.ensures, c.slots-slots.ensures) at c.saturating_sub-left.ensures in
    subst (WroteLess (g.K.Sink.held c.args.out.now) (g.K.Sink.held c.write_rows_line.new.out))
    (line_of db c.args.id (slots_limit db.version) c.args.schema.now c.in-Ok.live _ _ c.requires.schema (c.in-Ok.ensures.live told sound) all left)
    c.in-Err-write_rows_line.ensures.failed
