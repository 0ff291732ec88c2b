use Rattle.std.proofs.Common.{◌≡◌, ◌+◌, ◌∙◌, ap, length, List, arith}
use Rattle.afl_base.specs.Files.{bytes_at}
use Rattle.db_model.specs.Row.{Row}
use Rattle.tuple_file.specs.Tuples.{slots}
use Rattle.tuple_file.proofs.Packed.{count_more, count_none, living}
use Rattle.tuple_file.proofs.Written.{all_rows, first_rows}
use Rattle.tuple_file.proofs.tuples.Tuples.count_live.Goals as goal
use Rattle.std.proofs.lemmas.Grind.{common_steps}
use Rattle.padded.proofs.Facts.{bool_below}

pub loop-slot-init : goal.loop-slot-init
loop-slot-init g c = grind (arith, common_steps, count_none)

pub loop-slot-preserved : goal.loop-slot-preserved
loop-slot-preserved g c =
    let attributes = c.args.self.now.schema.attributes in
    let bytes = bytes_at (g.V.Files.state c.args.files.now).files c.args.self.now.file in
    let inv = c.loop-slot.invariant in
    let read = c.in_ok-is_live in
    let one = bool_below read.field-0 in
    record {
      same = read.ensures.frame.same ∙ inv.same;
      lent = read.ensures.frame.lent ∙ inv.lent;
      later = omega (arith, read.ensures.frame.later, inv.later);
      faults = omega (arith, read.ensures.frame.faultless, inv.faults);
      few = omega (arith, inv.few, one, c.from.ensures);
      live = λ told.
          ap (λ n. c.loop-slot.live + n) c.from.ensures
          ∙ count_more attributes bytes c.loop-slot.slot c.loop-slot.live read.field-0 (inv.live told) ((rw inv.same at read.ensures.live) told);
    }

pub returns-clause-live : goal.returns-clause-live
returns-clause-live g c told =
    let attributes = c.args.self.now.schema.attributes in
    let files = (g.V.Files.state c.args.files.now).files in
    let bytes = bytes_at files c.args.self.now.file in
    let end : c.loop-slot.slot ≡ slots files c.args.self.now = omega (arith, c.loop-slot-test.false, c.loop-slot.auto.slot-end, c.requires.count) in
    c.loop-slot.invariant.live told ∙ ap (λ n. length (living (first_rows attributes bytes n))) end ∙ ap (λ (xs : List Row). length (living xs)) (all_rows attributes bytes)
