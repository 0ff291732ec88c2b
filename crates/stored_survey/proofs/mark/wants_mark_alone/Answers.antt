use Rattle.std.proofs.Common.{◌≡◌, ◌+◌, Bool, true, None, Option, ap, arith, sym, subst, ◌∙◌, get_or}
use Rattle.db_model.specs.declared.schemas.Schema.{Schema}
use Rattle.padded.proofs.Facts.{false_true}
use Rattle.stored.specs.Mended.{has_time}
use Rattle.stored_survey.specs.Pieces.{IsLastTime}
use Rattle.stored_survey.proofs.Marks.{IsTimedBelow, timed_badly, timed_decides, timed_found, timed_none, timed_same, timed_twice}
use Rattle.stored_survey.proofs.Seen.{default_same, refused}
use Rattle.stored_survey.proofs.mark.wants_mark_alone.Goals as goal
use Rattle.stored_survey.proofs.mark.wants_mark_alone.Goals.{then-has_time+else-found+else-not-wants_mark, else-has_time}

pub loop-slot-init : goal.loop-slot-init
loop-slot-init g c = timed_none (g.V.Files.state c.args.files.now).files c.args.catalog.now.relations

pub returns-then-found : goal.returns-then-found
returns-then-found g c =
    let relations = c.args.catalog.now.relations in
    let here = default_same relations c.loop-slot.slot None c.index-catalog-slot.result (omega (arith, c.requires.relations, c.loop-slot-test.true)) in
    refused (timed_twice (g.V.Files.state c.args.files.now).files relations c.loop-slot.slot
    (ap has_time here ∙ sym c.has_time.ensures ∙ c.if-has_time.true) (rw c.if-found.true at c.loop-slot.invariant))

pub returns-then-not-wants_mark : goal.returns-then-not-wants_mark
returns-then-not-wants_mark g c =
    let relations = c.args.catalog.now.relations in
    let files = (g.V.Files.state c.args.files.now).files in
    let here = default_same relations c.loop-slot.slot None c.index-catalog-slot.result (omega (arith, c.requires.relations, c.loop-slot-test.true)) in
    refused (timed_badly files relations c.loop-slot.slot
    (ap has_time here ∙ sym c.has_time.ensures ∙ c.if-has_time.true)
    (λ last. false_true c.wants_mark.result c.if-not-wants_mark.true (c.wants_mark.ensures.1 (subst (λ (o : Option Schema). IsLastTime files c.loop-slot.slot o) here last))))

pub loop-slot-preserved : goal.loop-slot-preserved
loop-slot-preserved g c =
    let relations = c.args.catalog.now.relations in
    let files = (g.V.Files.state c.args.files.now).files in
    let slot = c.loop-slot.slot in
    let here = default_same relations slot None c.index-catalog-slot.result (omega (arith, c.requires.relations, c.loop-slot-test.true)) in
    elim c.if-has_time.branch [
      | then-has_time+else-found+else-not-wants_mark w ↦
          subst (λ (b : Bool). IsTimedBelow files relations (slot + 1) b) (sym w.found-is)
          (timed_found files relations slot (subst (λ (o : Option Schema). IsLastTime files slot o) (sym here) (w.wants_mark.ensures.0 w.if-not-wants_mark.false)) (rw w.if-found.false at c.loop-slot.invariant))
      | else-has_time w ↦
          subst (λ (b : Bool). IsTimedBelow files relations (slot + 1) b) (sym w.found-is)
          (timed_same files relations slot c.loop-slot.found (ap has_time here ∙ sym c.has_time.ensures ∙ w.if-has_time.false) c.loop-slot.invariant)
    ]

pub returns : goal.returns
returns g c =
    timed_decides (g.V.Files.state c.args.files.now).files c.args.catalog.now.relations c.loop-slot.slot c.loop-slot.found c.requires.relations c.loop-slot-test.false c.loop-slot.invariant
