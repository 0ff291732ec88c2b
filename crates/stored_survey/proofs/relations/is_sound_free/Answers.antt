use Rattle.std.proofs.Common.{◌≡◌, ◌∙◌, sym, ap, subst, Bool, true, false, List, ℕ}
use Rattle.std.specs.Prelude.{is_some}
use Rattle.std.specs.Bool.{Decides}
use Rattle.stored.specs.CutTables.{slot_bytes}
use Rattle.stored_survey.specs.Pieces.{IsUnusedBeside}
use Rattle.stored_survey.proofs.HalfParts.{free_sound, sound_free}
use Rattle.stored_survey.proofs.Seen.{carried}
use Rattle.stored_survey.proofs.relations.is_sound_free.Goals as goal

pub returns-in-Some : goal.returns-in-Some
returns-in-Some g c = λ none read.
    let files = (g.V.Files.state c.args.files.now).files in
    let there = sym (ap is_some c.in-Some.is) ∙ c.rows_at.ensures.there in
    carried c.is_sound_without.result
    (subst (λ (b : Bool). Decides c.is_sound_without.result (IsUnusedBeside c.args.half.now c.args.slot (slot_bytes files c.args.slot) b)) there
    (subst (λ (xs : List ℕ). Decides c.is_sound_without.result (IsUnusedBeside c.args.half.now c.args.slot xs true)) read c.is_sound_without.ensures))
    (free_sound files c.args.half.now c.args.slot none) (sound_free files c.args.half.now c.args.slot none)

pub returns-in-None : goal.returns-in-None
returns-in-None g c = λ none read.
    let files = (g.V.Files.state c.args.files.now).files in
    let there = sym (ap is_some c.in-None.is) ∙ c.rows_at.ensures.there in
    carried c.is_sound_without-in-None.result
    (subst (λ (b : Bool). Decides c.is_sound_without-in-None.result (IsUnusedBeside c.args.half.now c.args.slot (slot_bytes files c.args.slot) b)) there
    (subst (λ (xs : List ℕ). Decides c.is_sound_without-in-None.result (IsUnusedBeside c.args.half.now c.args.slot xs false)) read c.is_sound_without-in-None.ensures))
    (free_sound files c.args.half.now c.args.slot none) (sound_free files c.args.half.now c.args.slot none)
