use Rattle.std.proofs.Common.{◌≡◌, ◌∙◌, sym, ap, arith, subst, Bool, true, false, List, ℕ, length, take}
use Rattle.std.specs.Prelude.{is_some}
use Rattle.std.specs.Bool.{Decides}
use Rattle.afl_base.specs.Files.{bytes_at}
use Rattle.padded.proofs.Facts.{false_true}
use Rattle.space_model.specs.FileNames.{bytes_named, rows_file}
use Rattle.stored.specs.CutTables.{HoldsRowsOr, slot_bytes}
use Rattle.stored.specs.Mended.{mended_catalog}
use Rattle.stored_mend.specs.Slots.{IsReadSlot}
use Rattle.stored_survey.specs.Pieces.{IsUsedBeside}
use Rattle.stored_survey.proofs.HalfParts.{sound_named, sound_rows, sound_there, sound_used, used_sound}
use Rattle.stored_survey.proofs.IndexKeys.{short_row}
use Rattle.stored_survey.proofs.Seen.{carried, names_before, refused}
use Rattle.stored_survey.proofs.Versions.{schema_fits}
use Rattle.stored_survey.proofs.relations.is_sound_used.Goals as goal

pub returns-then-has_a_name-clause-sound : goal.returns-then-has_a_name-clause-sound
returns-then-has_a_name-clause-sound g c = λ told read is bytes.
    let files = (g.V.Files.state c.args.files.now).files in
    refused (λ s. false_true _ (names_before c.args.schema.now.name c.args.catalog.now.relations (mended_catalog files).relations c.args.slot read.relations ∙ sound_named files c.args.half.now c.args.slot c.args.schema.now is s) (sym c.has_a_name.ensures ∙ c.if-has_a_name.true))

pub returns-in-None-clause-sound : goal.returns-in-None-clause-sound
returns-in-None-clause-sound g c = λ told read is bytes.
    let files = (g.V.Files.state c.args.files.now).files in
    refused (λ s. false_true _ (sym c.rows_at.ensures.there ∙ ap is_some c.in-None.is) (sound_there files c.args.half.now c.args.slot c.args.schema.now is s))

pub returns-then-not-is_sound_slot-clause-sound : goal.returns-then-not-is_sound_slot-clause-sound
returns-then-not-is_sound_slot-clause-sound g c = λ told read is bytes.
    let files = (g.V.Files.state c.args.files.now).files in
    let formed = subst (λ (xs : List ℕ). IsReadSlot xs c.args.schema.now) (sym bytes) (read.slots c.args.slot c.args.schema.now c.requires.slot is) in
    let size = c.size.ensures ∙ ap (λ (xs : List ℕ). length xs) (rw c.in-Some.is at c.rows_at.ensures.bytes) in
    refused (λ s.
    let used = sound_used files c.args.half.now c.args.slot c.args.schema.now is s in
    let here = subst (λ (xs : List ℕ). IsUsedBeside c.args.half.now c.args.slot xs c.args.schema.now c.size.result) (sym bytes) (subst (λ (n : ℕ). IsUsedBeside c.args.half.now c.args.slot (slot_bytes files c.args.slot) c.args.schema.now n) (sym size) used) in
    false_true c.is_sound_slot.result c.if-not-is_sound_slot.true ((c.is_sound_slot.ensures formed).1 here))

pub returns-in_ok-sound-in-Some-clause-sound : goal.returns-in_ok-sound-in-Some-clause-sound
returns-in_ok-sound-in-Some-clause-sound g c = λ told read is bytes.
    let files = (g.V.Files.state c.args.files.now).files in
    let half = c.args.half.now in
    let slot = c.args.slot in
    let schema = c.args.schema.now in
    let valid = (read.slots slot schema c.requires.slot is).valid in
    let formed = subst (λ (xs : List ℕ). IsReadSlot xs schema) (sym bytes) (read.slots slot schema c.requires.slot is) in
    let here = rw c.in-Some.is at c.rows_at.ensures.bytes in
    let size = c.size.ensures ∙ ap (λ (xs : List ℕ). length xs) here in
    let there = sym c.rows_at.ensures.there ∙ ap is_some c.in-Some.is in
    let unnamed = sym (names_before schema.name c.args.catalog.now.relations (mended_catalog files).relations slot read.relations) ∙ sym c.has_a_name.ensures ∙ c.if-has_a_name.false in
    let used = subst (λ (xs : List ℕ). IsUsedBeside half slot xs schema (length (bytes_named (rows_file slot) files))) bytes (subst (λ (n : ℕ). IsUsedBeside half slot c.args.bytes.now schema n) size ((c.is_sound_slot.ensures formed).0 c.if-not-is_sound_slot.false)) in
    let rows = subst (λ (xs : List ℕ). Decides c.in_ok-sound-in-Some.sound (HoldsRowsOr half (mended_catalog files).version slot schema.attributes xs)) here
    (subst (λ (v : ℕ). Decides c.in_ok-sound-in-Some.sound (HoldsRowsOr half v slot schema.attributes (bytes_at files c.in-Some.file))) read.version (c.in_ok-sound-in-Some.ensures.rows told (short_row 2 schema valid))) in
    carried c.in_ok-sound-in-Some.sound rows
    (used_sound files half slot schema is (schema_fits files slot schema is valid) there unnamed used)
    (sound_rows files half slot schema is)
