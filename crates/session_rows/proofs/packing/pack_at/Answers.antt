use Rattle.std.proofs.Common.{◌≡◌, ℕ, List, arith, ap, refl, subst, sym, ◌∙◌, ◌≢◌, inr}
use Rattle.afl_base.specs.declared.kind.FileError.TheVariants.{Space, Failed as FileFailed}
use Rattle.afl_base.proofs.FrameLaws.{becomes_spares, spares_fewer}
use Rattle.index_set.specs.declared.info.IndexInfo.{IndexInfo}
use Rattle.index_set.specs.Inserts.{AllNameFew}
use Rattle.tuple_file.specs.Tuples.{slots}
use Rattle.session_model.specs.Frames.{StaysAt}
use Rattle.session_model.specs.Indexed.{infos_of}
use Rattle.session_model.proofs.Readable.{are_numbers}
use Rattle.session_model.proofs.Running.{relation_there}
use Rattle.session_model.specs.View.{relation_of_rows, view}
use Rattle.session_rows.proofs.Carried.{changes_failed}
use Rattle.session_rows.proofs.Changes.{keeps_all, relation_same, rows_dropped, waits_on}
use Rattle.session_rows.proofs.Packs.{is_indexed, is_packed, is_read, may_pack, no_infos, none_counted, some_counted, wants_packed}
use Rattle.afl_base.proofs.CutLaws.{either_as}
use Rattle.db_model.specs.Step.{Fine, pack}
use Rattle.afl_base.proofs.SparingLaws.{takes_no_page_same}
use Rattle.session_rows.proofs.Cuts.{changed_none}
use Rattle.session_rows.proofs.Unwanted.{none_removed}
use Rattle.session_rows.proofs.packing.pack_at.Goals as goal

never_space : {need : ℕ} → Space need ≡ FileFailed → ⊥
never_space e = cc

pub returns-in-Some-clause-changed : goal.returns-in-Some-clause-changed
returns-in-Some-clause-changed g c = λ told.
    (is_read (g.V.Files.state c.args.files.now).files c.args.held.now c.args.opens.now c.args.k c.args.tuples.now c.in-Some.cursor (sym (c.least_reader.ensures (g.V.Files.state c.args.files.now).files) ∙ c.in-Some.is), refl)

pub indexes_of-requires-clause-short : goal.indexes_of-requires-clause-short
indexes_of-requires-clause-short g c =
    (relation_there (g.V.Files.state c.args.files.now) c.args.tables.now c.args.held.now c.args.opens.now c.requires.running c.args.k c.args.tuples.now c.requires.there).holds.file.short

pub indexes_of-requires-clause-numbers : goal.indexes_of-requires-clause-numbers
indexes_of-requires-clause-numbers g c =
    are_numbers (g.V.Files.state c.args.files.now) c.args.tables.now c.args.held.now c.args.opens.now c.requires.running c.args.k c.args.tuples.now c.requires.there

pub returns-then-not-is_empty-clause-changed : goal.returns-then-not-is_empty-clause-changed
returns-then-not-is_empty-clause-changed g c = λ told.
    let infos : List IndexInfo = infos_of c.args.k c.args.tuples.now c.args.held.now.indexes in
    let some = some_counted c.indexes_of.result infos c.is_empty.result c.indexes_of.ensures c.is_empty.ensures c.if-not-is_empty.true in
    (is_indexed (g.V.Files.state c.args.files.now).files c.args.held.now c.args.opens.now c.args.k c.args.tuples.now (sym (c.least_reader.ensures (g.V.Files.state c.args.files.now).files) ∙ c.in_default.is) some, refl)

pub pack-requires-clause-holds : goal.pack-requires-clause-holds
pack-requires-clause-holds g c =
    (relation_there (g.V.Files.state c.args.files.now) c.args.tables.now c.args.held.now c.args.opens.now c.requires.running c.args.k c.args.tuples.now c.requires.there).holds

pub returns-in-Ok-clause-changed : goal.returns-in-Ok-clause-changed
returns-in-Ok-clause-changed g c = λ told.
    let infos : List IndexInfo = infos_of c.args.k c.args.tuples.now c.args.held.now.indexes in
    let none = none_counted c.indexes_of.result infos c.is_empty.result c.indexes_of.ensures c.is_empty.ensures c.if-not-is_empty.false in
    is_packed (g.V.Files.state c.args.files.now).files c.args.held.now c.args.opens.now c.args.k c.args.tuples.now (g.V.Files.state c.pack.new.files).files
    (sym (c.least_reader.ensures (g.V.Files.state c.args.files.now).files) ∙ c.in_default.is) none (c.in-Ok.ensures.rows told)

pub returns-in-Ok-clause-goes_on : goal.returns-in-Ok-clause-goes_on
returns-in-Ok-clause-goes_on g c =
    let old = g.V.Files.state c.args.files.now in
    let new = g.V.Files.state c.pack.new.files in
    let t = c.args.tuples.now in
    let h = c.in-Ok.ensures in
    let infos : List IndexInfo = infos_of c.args.k t c.args.held.now.indexes in
    let none = none_counted c.indexes_of.result infos c.is_empty.result c.indexes_of.ensures c.is_empty.ensures c.if-not-is_empty.false in
    let here = relation_there old c.args.tables.now c.args.held.now c.args.opens.now c.requires.running c.args.k t c.requires.there in
    rows_dropped old new c.args.tables.now c.args.held.now c.args.opens.now c.args.k t c.requires.running c.requires.there
    (becomes_spares old new t.file _ _ here.holds.file.live h.only) h.holds h.slots (sym (c.least_reader.ensures (g.V.Files.state c.args.files.now).files) ∙ c.in_default.is) (no_infos infos none)

pub returns-in-Err-Space-clause-changed : goal.returns-in-Err-Space-clause-changed
returns-in-Err-Space-clause-changed g c = λ told.
    let old = g.V.Files.state c.args.files.now in
    let new = g.V.Files.state c.pack.new.files in
    let t = c.args.tuples.now in
    let infos : List IndexInfo = infos_of c.args.k t c.args.held.now.indexes in
    let none = none_counted c.indexes_of.result infos c.is_empty.result c.indexes_of.ensures c.is_empty.ensures c.if-not-is_empty.false in
    let kept = keeps_all old new (StaysAt t.file infos) (rw c.in-Err-Space.field-0-is at c.in-Err-Space.ensures.kept) in (
      may_pack old.files c.args.held.now c.args.opens.now c.args.k t (sym (c.least_reader.ensures (g.V.Files.state c.args.files.now).files) ∙ c.in_default.is) none,
      relation_same old new c.args.tables.now c.args.held.now c.args.opens.now c.args.k t c.requires.running c.requires.there kept told,
    )

pub returns-in-Err-Space-clause-goes_on : goal.returns-in-Err-Space-clause-goes_on
returns-in-Err-Space-clause-goes_on g c =
    let old = g.V.Files.state c.args.files.now in
    let new = g.V.Files.state c.pack.new.files in
    let t = c.args.tuples.now in
    let kept = keeps_all old new (StaysAt t.file (infos_of c.args.k t c.args.held.now.indexes)) (rw c.in-Err-Space.field-0-is at c.in-Err-Space.ensures.kept) in
    waits_on old new c.args.tables.now c.args.held.now c.args.opens.now c.args.k t c.requires.running c.requires.there kept

pub returns-in-Err-Space-clause-wants : goal.returns-in-Err-Space-clause-wants
returns-in-Err-Space-clause-wants g c = λ told.
    let old = g.V.Files.state c.args.files.now in
    let new = g.V.Files.state c.pack.new.files in
    let t = c.args.tuples.now in
    let kept = keeps_all old new (StaysAt t.file (infos_of c.args.k t c.args.held.now.indexes)) (rw c.in-Err-Space.field-0-is at c.in-Err-Space.ensures.kept) in
    wants_packed (relation_of_rows old.files t) (relation_of_rows new.files t) c.in-Err-Space.need
    (relation_same old new c.args.tables.now c.args.held.now c.args.opens.now c.args.k t c.requires.running c.requires.there kept told)
    (λ all. never_space (rw c.in-Err-Space.field-0-is at (c.in-Err-Space.ensures.never told all)))
    ((rw c.in-Err-Space.field-0-is at c.in-Err-Space.ensures.need) told)

pub returns-in-Err-Space-clause-idle : goal.returns-in-Err-Space-clause-idle
returns-in-Err-Space-clause-idle g c = λ told all. absurd (never_space (rw c.in-Err-Space.field-0-is at (c.in-Err-Space.ensures.never told all)))

pub returns-in-Ok-clause-idle : goal.returns-in-Ok-clause-idle
returns-in-Ok-clause-idle g c = λ told live. c.in-Ok.ensures.same told live

pub returns-in-Err-Failed-clause-frame : goal.returns-in-Err-Failed-clause-frame
returns-in-Err-Failed-clause-frame g c = changes_failed g.V.Files _ _ _ (rw c.in-Err-Failed.field-0-is at c.in-Err-Failed.ensures.frame)

pub returns-in-Err-Failed-clause-cut : goal.returns-in-Err-Failed-clause-cut
returns-in-Err-Failed-clause-cut g c = λ cuts told.
    let old = g.V.Files.state c.args.files.now in
    let held = c.args.held.now in
    let opens = c.args.opens.now in
    let k = c.args.k in
    let t = c.args.tuples.now in
    let infos : List IndexInfo = infos_of k t held.indexes in
    let none = none_counted c.indexes_of.result infos c.is_empty.result c.indexes_of.ensures c.is_empty.ensures c.if-not-is_empty.false in
    let unread = sym (c.least_reader.ensures old.files) ∙ c.in_default.is in
    let here = relation_there old c.args.tables.now held opens c.requires.running k t c.requires.there in
    let left = (rw c.in-Err-Failed.field-0-is at c.in-Err-Failed.ensures.cut) cuts told refl in
    either_as old left (changed_none old c.args.tables.now t infos (pack k (view old.files held opens) (relation_of_rows old.files t)) here.holds)
    (λ after packed. record {
      others = spares_fewer old after (λ j. j ≢ t.file) (StaysAt t.file infos) (becomes_spares old after t.file _ _ here.holds.file.live packed.0) (λ j stays. stays.0);
      left = inr (
        Fine,
        is_packed old.files held opens k t after.files unread none packed.1,
        record {
          whole = packed.2;
          some = λ indexed. absurd (omega (arith, none, indexed));
          names = λ complete follows. subst (λ (l : List IndexInfo). AllNameFew after (slots after.files t) l) (sym (no_infos infos none)) tt;
        },
      );
    })

pub returns-in-Ok-clause-spares : goal.returns-in-Ok-clause-spares
returns-in-Ok-clause-spares g c = λ told never.
    let old = g.V.Files.state c.args.files.now in
    let new = g.V.Files.state c.pack.new.files in
    let same = c.in-Ok.ensures.same told (none_removed (relation_of_rows old.files c.args.tuples.now) never) in
    takes_no_page_same g.V.Files.is_free old.store new.store (ap (λ s. s.store) same)
