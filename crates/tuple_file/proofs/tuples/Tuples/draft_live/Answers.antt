use Rattle.std.proofs.Common.{◌≡◌, ◌*◌, ◌∙◌, refl, sym, ap, subst, length, ℕ, replicate, arith}
use Rattle.afl_base.specs.Files.{bytes_at, draft_in}
use Rattle.db_model.specs.Row.{row_length}
use Rattle.tuple_file.specs.Gathered.{gathered}
use Rattle.tuple_file.specs.Tuples.{slots}
use Rattle.tuple_file.proofs.Gathered.{free_none, gathered_none}
use Rattle.tuple_file.proofs.Packed.{IsPacked, packed_all, packed_more, packed_none}
use Rattle.tuple_file.proofs.tuples.Tuples.draft_live.Goals as goal

pub loop-slot-init : goal.loop-slot-init
loop-slot-init g c =
    let attributes = c.args.self.now.schema.attributes in
    let state = g.V.Files.state c.args.files.now in
    let draft = (draft_in state).bytes in
    let bytes = bytes_at state.files c.args.self.now.file in
    let size : ℕ = row_length attributes * c.args.room in
    let waits = c.new-waiting.result in
    let none = c.new-waiting.ensures.none in
    record {
      only = record { begun = c.requires.begun; name = refl; size = refl; files = refl; tells = refl };
      store = refl;
      lent = refl;
      later = omega arith;
      faults = omega arith;
      few = omega arith;
      behind = omega (arith, c.new-waiting.ensures.at, ap (λ xs. length xs) none);
      free = λ told. free_none draft size waits.at (c.requires.zeros told);
      packed = λ told.
          subst (IsPacked attributes bytes c.args.room 0 0) (sym (gathered_none draft waits.bytes (replicate size 0) waits.at none (c.requires.zeros told))) (packed_none attributes bytes c.args.room);
    }

pub loop-slot-preserved : goal.loop-slot-preserved
loop-slot-preserved g c =
    let attributes = c.args.self.now.schema.attributes in
    let files = (g.V.Files.state c.args.files.now).files in
    let bytes = bytes_at files c.args.self.now.file in
    let inv = c.loop-slot.invariant in
    let done = c.in_ok-written.ensures in
    record {
      only = record { begun = done.only.begun; name = done.only.name ∙ inv.only.name; size = done.only.size ∙ inv.only.size; files = done.only.files ∙ inv.only.files; tells = done.only.tells ∙ inv.only.tells };
      store = done.frame.store ∙ inv.store;
      lent = done.frame.lent ∙ inv.lent;
      later = omega (arith, inv.later, done.frame.later);
      faults = omega (arith, inv.faults, done.frame.cause.later);
      few = done.few;
      behind = done.behind;
      free = λ told. done.free (inv.only.tells ∙ told);
      packed = λ told.
          packed_more attributes bytes c.args.room c.loop-slot.slot c.loop-slot.written c.in_ok-written.written
          (gathered (g.V.Files.state c.loop-slot.files) c.loop-slot.waiting) (gathered (g.V.Files.state c.draft_if_live.new.files) c.draft_if_live.new.waiting)
          (inv.packed told) (c.requires.room told) (omega (arith, c.loop-slot-test.true, c.requires.count))
          ((rw inv.only.files at done.live) (inv.only.tells ∙ told))
          ((rw inv.only.files at done.removed) (inv.only.tells ∙ told));
    }

pub returns-clause-suit : goal.returns-clause-suit
returns-clause-suit g c told =
    let attributes = c.args.self.now.schema.attributes in
    let files = (g.V.Files.state c.args.files.now).files in
    let bytes = bytes_at files c.args.self.now.file in
    let draft = gathered (g.V.Files.state c.loop-slot.files) c.loop-slot.waiting in
    let written = c.loop-slot.written in
    let end : c.loop-slot.slot ≡ slots files c.args.self.now = omega (arith, c.loop-slot-test.false, c.loop-slot.auto.slot-end, c.requires.count) in
    let whole = subst (λ n. IsPacked attributes bytes c.args.room n written draft) end (c.loop-slot.invariant.packed told) in
    (packed_all attributes bytes c.args.room written draft whole (c.requires.room told)).0

pub returns-clause-rows : goal.returns-clause-rows
returns-clause-rows g c told =
    let attributes = c.args.self.now.schema.attributes in
    let files = (g.V.Files.state c.args.files.now).files in
    let bytes = bytes_at files c.args.self.now.file in
    let draft = gathered (g.V.Files.state c.loop-slot.files) c.loop-slot.waiting in
    let written = c.loop-slot.written in
    let end : c.loop-slot.slot ≡ slots files c.args.self.now = omega (arith, c.loop-slot-test.false, c.loop-slot.auto.slot-end, c.requires.count) in
    let whole = subst (λ n. IsPacked attributes bytes c.args.room n written draft) end (c.loop-slot.invariant.packed told) in
    c.in_ok-flush.ensures.written (c.loop-slot.invariant.only.tells ∙ told) ∙ (packed_all attributes bytes c.args.room written draft whole (c.requires.room told)).1
