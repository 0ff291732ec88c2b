use Rattle.std.proofs.Common.{rules, ◌≡◌, ◌*◌, ◌∙◌, ℕ, refl, sym, ap, subst, length, List, replicate, arith}
use Rattle.std.specs.Fn.{FnReturnsAt}
use Rattle.afl_base.specs.Files.{Table, bytes_at, draft_in}
use Rattle.db_model.specs.Row.{Row, row_length}
use Rattle.tuple_file.specs.Gathered.{gathered}
use Rattle.tuple_file.specs.Tuples.{AreAnswered, IsAnswered, OfSlots, row, slots}
use Rattle.tuple_file.proofs.Answered.{Rewritten, rewritten_all, rewritten_more, rewritten_none}
use Rattle.tuple_file.proofs.Gathered.{free_none, gathered_none}
use Rattle.tuple_file.proofs.Written.{all_rows, first_rows, length-first_rows, more_rows, no_rows}
use Rattle.tuple_file.proofs.tuples.Tuples.draft_answered.Goals as goal
use Rattle.db_model.proofs.Rows.{slot_inside}

pub loop-slot-init : goal.loop-slot-init
loop-slot-init g c =
    let attributes = c.args.self.now.schema.attributes in
    let state = g.V.Files.state c.args.files.now in
    let draft = (draft_in state).bytes in
    let size : ℕ = length (bytes_at state.files c.args.self.now.file) in
    let answers = OfSlots c.args.asked.now c.args.self.now.schema.attributes (FnReturnsAt g.F.Fn c.args.removed.now) in
    let waits = c.new-waiting.result in
    let none = c.new-waiting.ensures.none in
    record {
      only = record { begun = c.requires.begun; name = refl; size = refl; files = refl; tells = refl };
      store = refl;
      lent = refl;
      later = omega arith;
      faults = omega arith;
      row = search rules;
      behind = omega (arith, c.new-waiting.ensures.at, ap (λ xs. length xs) none);
      free = λ told. free_none draft size waits.at (c.requires.zeros told);
      rewritten = λ told.
          subst (Rewritten answers attributes size (first_rows attributes (bytes_at state.files c.args.self.now.file) 0)) (sym (gathered_none draft waits.bytes (replicate size 0) waits.at none (c.requires.zeros told)))
          (subst (λ (olds : List Row). Rewritten answers attributes size olds (replicate size 0)) (sym (no_rows attributes (bytes_at state.files c.args.self.now.file))) (rewritten_none answers attributes size));
    }

pub loop-slot-preserved : goal.loop-slot-preserved
loop-slot-preserved g c =
    let attributes = c.args.self.now.schema.attributes in
    let files = (g.V.Files.state c.args.files.now).files in
    let bytes = bytes_at files c.args.self.now.file in
    let answers = OfSlots c.args.asked.now c.args.self.now.schema.attributes (FnReturnsAt g.F.Fn c.args.removed.now) in
    let slot = c.loop-slot.slot in
    let inv = c.loop-slot.invariant in
    let done = c.in_ok-draft_answer.ensures in
    let before = gathered (g.V.Files.state c.loop-slot.files) c.loop-slot.waiting in
    let after = gathered (g.V.Files.state c.draft_answer.new.files) c.draft_answer.new.waiting in
    let inside = slot_inside (row_length attributes) slot (slots files c.args.self.now) (omega (arith, c.loop-slot-test.true, c.requires.count)) in
    record {
      only = record { begun = done.only.begun; name = done.only.name ∙ inv.only.name; size = done.only.size ∙ inv.only.size; files = done.only.files ∙ inv.only.files; tells = done.only.tells ∙ inv.only.tells };
      store = done.frame.store ∙ inv.store;
      lent = done.frame.lent ∙ inv.lent;
      later = omega (arith, inv.later, done.frame.later);
      faults = omega (arith, inv.faults, done.frame.cause.later);
      row = done.size ∙ inv.row;
      behind = done.behind;
      free = λ told. done.free (inv.only.tells ∙ told);
      rewritten = λ told.
          let said = done.row (inv.only.tells ∙ told) in
          let one = subst (λ (now : Table). IsAnswered (answers slot) (row now c.args.self.now slot) said.0) inv.only.files said.1 in
          subst (λ (olds : List Row). Rewritten answers attributes (length bytes) olds after) (sym (more_rows attributes bytes slot))
          (rewritten_more answers attributes (length bytes) slot (first_rows attributes bytes slot) (row files c.args.self.now slot) said.0 before after
          (inv.rewritten told) (length-first_rows attributes bytes slot) (omega (arith, inside, c.requires.holds.whole)) one said.2 said.3);
    }

pub flush-requires-clause-range : goal.flush-requires-clause-range
flush-requires-clause-range g c =
    let inv = c.loop-slot.invariant in
    let end : c.loop-slot.slot ≡ slots (g.V.Files.state c.args.files.now).files c.args.self.now = omega (arith, c.loop-slot-test.false, c.loop-slot.auto.slot-end, c.requires.count) in
    omega (arith, inv.behind, ap (λ n. row_length c.args.self.now.schema.attributes * n) end, inv.only.size, c.requires.size, c.requires.holds.whole)

pub returns-clause-rows : goal.returns-clause-rows
returns-clause-rows g c told =
    let attributes = c.args.self.now.schema.attributes in
    let bytes = bytes_at (g.V.Files.state c.args.files.now).files c.args.self.now.file in
    let answers = OfSlots c.args.asked.now c.args.self.now.schema.attributes (FnReturnsAt g.F.Fn c.args.removed.now) in
    let slot = c.loop-slot.slot in
    let inv = c.loop-slot.invariant in
    let end : slot ≡ slots (g.V.Files.state c.args.files.now).files c.args.self.now = omega (arith, c.loop-slot-test.false, c.loop-slot.auto.slot-end, c.requires.count) in
    let all = rewritten_all answers attributes (length bytes) slot (first_rows attributes bytes slot) (gathered (g.V.Files.state c.loop-slot.files) c.loop-slot.waiting)
    (inv.rewritten told) (length-first_rows attributes bytes slot) (c.requires.holds.whole ∙ ap (λ n. row_length attributes * n) (sym end)) in (
      all.0,
      subst (λ (olds : List Row). AreAnswered answers 0 olds all.0) (ap (first_rows attributes bytes) end ∙ all_rows attributes bytes) all.1,
      all.2,
      c.in_ok-flush.ensures.written (inv.only.tells ∙ told) ∙ all.3,
    )
