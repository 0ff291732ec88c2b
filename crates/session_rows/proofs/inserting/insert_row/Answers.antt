use Rattle.std.proofs.Common.{◌≡◌, rules, ◌∷◌, ◌++◌, [], Option, true, refl, subst, sym}
use Rattle.afl_base.specs.Frames.{Prepares}
use Rattle.tuple_file.specs.Tuples.{slots}
use Rattle.session_model.specs.Frames.{StaysAt}
use Rattle.session_rows.proofs.Changes.{grows_added, grows_prepared}
use Rattle.padded.proofs.Facts.{on_err}
use Rattle.afl_base.specs.Files.{State}
use Rattle.afl_base.proofs.CutLaws.{mends_as, mends_now}
use Rattle.db_model.specs.declared.refusals.Refusal.{Refusal}
use Rattle.db_model.specs.Step.{insert_into}
use Rattle.session_model.specs.View.{relation_of_rows}
use Rattle.session_rows.specs.Refused.{IsRefusedBy}
use Rattle.session_rows.proofs.Cuts.{changed_added, changed_none}
use Rattle.session_rows.proofs.Unwanted.{row_before}
use Rattle.session_rows.proofs.inserting.insert_row.Goals as goal

pub returns-in-Ok-clause-grows : goal.returns-in-Ok-clause-grows
returns-in-Ok-clause-grows g c =
    let s0 = g.V.Files.state c.args.files.now in
    let s2 = g.V.Files.state c.add_row.new.files in
    let same = c.in_ok-refusal.ensures.frame.same in
    let last : c.in-Some-new.slot ≡ slots s0.files c.args.tuples.now = search rules in
    grows_added s0 s2 c.args.tables.now c.add_row.new.tables c.args.tuples.now c.args.indexes.now c.args.values.now c.in-Some-new.slot
    (rw same at c.in-Ok.ensures.added) last
    (λ told complete. (rw same at c.in-Ok.ensures.complete) told complete (c.in_ok-refusal.ensures.follow told c.in_default.is complete))

pub returns-in-Err-Space-clause-grows : goal.returns-in-Err-Space-clause-grows
returns-in-Err-Space-clause-grows g c =
    let s0 = g.V.Files.state c.args.files.now in
    let s2 = g.V.Files.state c.add_row.new.files in
    let same = c.in_ok-refusal.ensures.frame.same in
    let t = c.args.tuples.now in
    let infos = c.args.indexes.now in
    let space : Prepares s0 s2 (StaysAt t.file infos) = rw same at (rw c.in-Err-Space.field-0-is at c.in-Err-Space.ensures.space) in
    let tables = rw c.in-Err-Space.field-0-is at c.in-Err-Space.ensures.same_tables in
    rw tables (grows_prepared s0 s2 c.args.tables.now t infos space c.requires.ready.holds c.requires.ready.held c.requires.ready.away)

pub returns-in_err-refusal-clause-cut : goal.returns-in_err-refusal-clause-cut
returns-in_err-refusal-clause-cut g c = λ cuts told.
    let old = g.V.Files.state c.args.files.now in
    let r = relation_of_rows old.files c.args.tuples.now in
    on_err c.from_residual.result (λ k db is.
    mends_now old (subst (λ (s : State). g.V.Files.mends s.store old.files) (sym c.in_err-refusal.ensures.frame.same) (g.V.Files.mended c.args.files.now cuts told))
    (changed_none old c.args.tables.now c.args.tuples.now c.args.indexes.now (insert_into c.args.values.now k db r) c.requires.ready.holds))

pub returns-in-Err-Failed-clause-cut : goal.returns-in-Err-Failed-clause-cut
returns-in-Err-Failed-clause-cut g c = λ cuts told k db is.
    let old = g.V.Files.state c.args.files.now in
    let same = c.in_ok-refusal.ensures.frame.same in
    let t = c.args.tuples.now in
    let infos = c.args.indexes.now in
    let values = c.args.values.now in
    let r = relation_of_rows old.files t in
    let left = (rw same at (rw c.in-Err-Failed.field-0-is at c.in-Err-Failed.ensures.cut)) cuts told refl in
    let accepted = subst (λ (no : Option Refusal). IsRefusedBy (insert_into values k db r) no (record r { rows = r.rows ++ record { tuple = values; live = true } ∷ [] }))
    c.in_default.is (c.in_ok-refusal.ensures.refused told k db is.version is.indexes) in
    mends_as left (λ after m. changed_added old after c.args.tables.now t infos values (insert_into values k db r) accepted (c.in_ok-refusal.ensures.follow told c.in_default.is) m)

pub returns-in-Ok-clause-spares : goal.returns-in-Ok-clause-spares
returns-in-Ok-clause-spares g c = λ told never.
    let asks = g.V.Files.asks in
    let start = c.args.files.now in
    let mid = c.refused_row.new.files in
    let same = c.in_ok-refusal.ensures.frame.same in
    (rw same at c.in-Ok.ensures.spares) told
    (λ need wanted. never need (row_before (asks start) (asks mid) (g.V.Files.asks_seen start mid same told c.requires.ready.idle) (g.V.Files.state start) c.args.tuples.now c.args.indexes.now c.args.values.now need wanted))
