use Rattle.std.proofs.Common.{◌≡◌, ◌≢◌, ℕ, List, length, ap, subst, sym, ◌∙◌, refl}
use Rattle.afl_base.specs.Asked.{asks_few}
use Rattle.afl_base.specs.Files.{size_at, State}
use Rattle.afl_base.specs.Frames.{Prepares}
use Rattle.db_model.specs.Answers.{selected}
use Rattle.db_model.specs.Row.{Row}
use Rattle.cursor.specs.Remaining.{selected_slots}
use Rattle.tuple_file.specs.Tuples.{rows}
use Rattle.session_model.proofs.Frames.{rows_prepared}
use Rattle.session_rows.specs.Wanted.{WantsRemoval}
use Rattle.session_rows.proofs.Changes.{replaces_prepared}
use Rattle.session_rows.proofs.Removes.{counted, is_removed, is_selected, wants_selected}
use Rattle.padded.proofs.Facts.{on_err}
use Rattle.afl_base.proofs.CutLaws.{mends_now}
use Rattle.afl_base.proofs.FrameLaws.{spares_same}
use Rattle.lvm.specs.declared.instruction.Instruction.{Instruction}
use Rattle.lvm.specs.Code.{IsCodeOf}
use Rattle.session_rows.proofs.Cuts.{removed_none}
use Rattle.session_rows.proofs.Unwanted.{removal_before}
use Rattle.session_rows.proofs.removing.remove_rows.Goals as goal

pub returns-in-Ok-clause-removed : goal.returns-in-Ok-clause-removed
returns-in-Ok-clause-removed g c = λ told condition code indexes.
    let old = g.V.Files.state c.args.files.now in
    let mid = g.V.Files.state c.begin.new.files in
    let late = g.V.Files.state c.select_slots.new.files in
    let new = g.V.Files.state c.remove_selected.new.files in
    let t = c.args.tuples.now in
    let begun = c.in_ok-begin.ensures in
    let all = rows old.files t in
    let is = is_selected old mid c.args.tables.now t c.args.cursor.now.tuples c.args.indexes.now c.args.cursor.now.code c.begin.new.self c.in_ok-selected.selected c.requires.of begun.frame.same begun.begun.tuples
    (λ told condition code indexes. (begun.begins told condition code indexes).slots_left) begun.fits c.in_ok-selected.ensures.selected told condition code indexes in (
      is_removed old late new t c.args.cursor.now.code c.select_slots.new.cursor.code c.in_ok-selected.selected (c.in_ok-selected.ensures.frame.same ∙ begun.frame.same) (c.in_ok-selected.ensures.code ∙ begun.begun.code)
          c.in-Ok.ensures.rows told condition code is,
      is.count ∙ counted t.schema.attributes condition all,
    )

pub returns-in-Err-Space-clause-wants : goal.returns-in-Err-Space-clause-wants
returns-in-Err-Space-clause-wants g c = λ told condition code indexes.
    let old = g.V.Files.state c.args.files.now in
    let mid = g.V.Files.state c.begin.new.files in
    let late = g.V.Files.state c.select_slots.new.files in
    let new = g.V.Files.state c.remove_selected.new.files in
    let t = c.args.tuples.now in
    let begun = c.in_ok-begin.ensures in
    let all = rows old.files t in
    let is = is_selected old mid c.args.tables.now t c.args.cursor.now.tuples c.args.indexes.now c.args.cursor.now.code c.begin.new.self c.in_ok-selected.selected c.requires.of begun.frame.same begun.begun.tuples
    (λ told condition code indexes. (begun.begins told condition code indexes).slots_left) begun.fits c.in_ok-selected.ensures.selected told condition code indexes in
    let same = c.in_ok-selected.ensures.frame.same ∙ begun.frame.same in
    let kept : rows new.files t ≡ all =
    rows_prepared late new _ t (rw c.in-Err-Space.field-0-is at c.in-Err-Space.ensures.space) (ap (λ s. s.tells) same ∙ told) ∙ ap (λ s. rows s.files t) same in
    let asks = asks_few (g.V.Files.asks c.remove_selected.new.files) new.files in
    let count : ℕ = length (selected t.schema.attributes condition (rows new.files t)) in
    subst (λ (need : ℕ). WantsRemoval asks t.file count count (size_at new.files t.file) need) (sym c.in-Err-Space.need-is)
    (wants_selected asks t.file (size_at new.files t.file) c.in-Err-Space.need
    count c.in_ok-selected.selected (selected_slots t.schema.attributes condition all) is
    (counted t.schema.attributes condition all ∙ ap (λ (rs : List Row). length (selected t.schema.attributes condition rs)) (sym kept))
    (rw c.in-Err-Space.field-0-is at c.in-Err-Space.ensures.wants))

pub returns-in-Err-Space-clause-replaces : goal.returns-in-Err-Space-clause-replaces
returns-in-Err-Space-clause-replaces g c =
    let old = g.V.Files.state c.args.files.now in
    let new = g.V.Files.state c.remove_selected.new.files in
    let t = c.args.tuples.now in
    let space : Prepares old new (λ id. id ≢ t.file) =
    rw (c.in_ok-selected.ensures.frame.same ∙ c.in_ok-begin.ensures.frame.same) at (rw c.in-Err-Space.field-0-is at c.in-Err-Space.ensures.space) in
    replaces_prepared old new t space c.requires.ready.holds

pub returns-in_err-begin-clause-cut : goal.returns-in_err-begin-clause-cut
returns-in_err-begin-clause-cut g c = λ cuts told.
    let old = g.V.Files.state c.args.files.now in
    let t = c.args.tuples.now in
    on_err c.from_residual.result (λ condition code indexes.
    mends_now old (subst (λ (s : State). g.V.Files.mends s.store old.files) (sym c.in_err-begin.ensures.frame.same) (g.V.Files.mended c.args.files.now cuts told))
    (removed_none old old t condition (c.requires.ready.holds.written told) (spares_same old (λ k. k ≢ t.file)) refl))

pub returns-in_err-selected-clause-cut : goal.returns-in_err-selected-clause-cut
returns-in_err-selected-clause-cut g c = λ cuts told.
    let old = g.V.Files.state c.args.files.now in
    let t = c.args.tuples.now in
    let same = c.in_err-selected.ensures.frame.same ∙ c.in_ok-begin.ensures.frame.same in
    on_err c.from_residual-in_err-selected.result (λ condition code indexes.
    mends_now old (subst (λ (s : State). g.V.Files.mends s.store old.files) (sym same) (g.V.Files.mended c.args.files.now cuts told))
    (removed_none old old t condition (c.requires.ready.holds.written told) (spares_same old (λ k. k ≢ t.file)) refl))

pub returns-in-Err-Failed-clause-cut : goal.returns-in-Err-Failed-clause-cut
returns-in-Err-Failed-clause-cut g c = λ cuts told condition code indexes.
    let old = g.V.Files.state c.args.files.now in
    let mid = g.V.Files.state c.begin.new.files in
    let t = c.args.tuples.now in
    let begun = c.in_ok-begin.ensures in
    let is = is_selected old mid c.args.tables.now t c.args.cursor.now.tuples c.args.indexes.now c.args.cursor.now.code c.begin.new.self c.in_ok-selected.selected c.requires.of begun.frame.same begun.begun.tuples
    (λ told condition code indexes. (begun.begins told condition code indexes).slots_left) begun.fits c.in_ok-selected.ensures.selected told condition code indexes in
    let same = c.in_ok-selected.ensures.frame.same ∙ begun.frame.same in
    let coded = c.in_ok-selected.ensures.code ∙ begun.begun.code in
    (rw same at (rw c.in-Err-Failed.field-0-is at c.in-Err-Failed.ensures.cut)) cuts told refl condition
    (subst (λ (z : List Instruction). IsCodeOf t.schema.attributes condition z) (sym coded) code) is

pub returns-in-Ok-clause-spares : goal.returns-in-Ok-clause-spares
returns-in-Ok-clause-spares g c = λ told condition code indexes never.
    let asks = g.V.Files.asks in
    let start = c.args.files.now in
    let late = c.select_slots.new.files in
    let old = g.V.Files.state start in
    let t = c.args.tuples.now in
    let s = c.in_ok-selected.selected in
    let size = size_at old.files t.file in
    let begun = c.in_ok-begin.ensures in
    let all = rows old.files t in
    let is = is_selected old (g.V.Files.state c.begin.new.files) c.args.tables.now t c.args.cursor.now.tuples c.args.indexes.now c.args.cursor.now.code c.begin.new.self s c.requires.of begun.frame.same begun.begun.tuples
    (λ told condition code indexes. (begun.begins told condition code indexes).slots_left) begun.fits c.in_ok-selected.ensures.selected told condition code indexes in
    let same = c.in_ok-selected.ensures.frame.same ∙ begun.frame.same in
    (rw same at c.in-Ok.ensures.spares) told (λ need wanted. never need
    (wants_selected (asks start) t.file size need (length (selected t.schema.attributes condition all)) s (selected_slots t.schema.attributes condition all) is (counted t.schema.attributes condition all)
    (removal_before (asks start) (asks late) (g.V.Files.asks_seen start late same told c.requires.ready.idle) t.file s.count (length s.first) size need wanted)))
