use Rattle.std.proofs.Common.{rules, arith, ◌≡◌, ◌∙◌, ◌<◌, ◌+◌, ◌++◌, ◌∷◌, [], length, get_or}
use Rattle.std.specs.Prelude.{FitsSigned, slice_get}
use Rattle.std.specs.Int.{w32}
use Rattle.std.proofs.lemmas.Int.{to_z-of_z}
use Rattle.index_set.specs.Inserts.{HasKeyFor, KeepsBuckets}
use Rattle.afl_base.proofs.CutLaws.{mends_as}
use Rattle.afl_base.proofs.SparingLaws.{takes_no_page_on}
use Rattle.padded.proofs.Facts.{on_err}
use Rattle.index_set.proofs.Lists.{here_of, spares_all}
use Rattle.index_set.proofs.CutKeys.{all_named}
use Rattle.index_set.proofs.Inserted.{all_whole, complete_all, complete_next, enough_rooms, held_next, keeps_next, ready_next, room_next, spares_next, tables_next}
use Rattle.index_set.proofs.inserts.insert_all.Goals as goal

pub insert_one-requires-clause-held : goal.insert_one-requires-clause-held
insert_one-requires-clause-held g c =
    let xs = c.args.indexes.now in
    let y = c.get-info.result.now in
    let n = c.loop-nth.nth in
    let inv = c.loop-nth.invariant in
    let below : n < length xs = search rules in
    let e : y ≡ get_or xs n y = c.get-info.ensures in
    let start = g.V.Files.state c.args.files.now in
    let before = g.V.Files.state c.loop-nth.files in
    ready_next xs n y below e c.requires.apart start before before c.args.tables.now c.loop-nth.tables c.loop-nth.tables inv.spares inv.tables c.args.slot c.requires.held

pub insert_one-requires-clause-room : goal.insert_one-requires-clause-room
insert_one-requires-clause-room g c =
    let xs = c.args.indexes.now in
    let y = c.get-info.result.now in
    let n = c.loop-nth.nth in
    let inv = c.loop-nth.invariant in
    let below : n < length xs = search rules in
    let e : y ≡ get_or xs n y = c.get-info.ensures in
    let start = g.V.Files.state c.args.files.now in
    let before = g.V.Files.state c.loop-nth.files in
    room_next xs n y below e c.requires.apart start before before c.args.tables.now c.loop-nth.tables c.loop-nth.tables inv.spares inv.tables c.args.rooms.now c.get-room.result.now c.get-room.ensures c.requires.room

pub get-room-requires : goal.get-room-requires
get-room-requires g c =
    let n = c.loop-nth.nth in
    let below : n < length c.args.indexes.now = search rules in
    let enough = enough_rooms (g.V.Files.state c.args.files.now) c.args.rooms.now c.args.indexes.now c.requires.room in
    omega (arith, below, enough)

pub loop-nth-preserved : goal.loop-nth-preserved
loop-nth-preserved g c =
    let xs = c.args.indexes.now in
    let y = c.get-info.result.now in
    let n = c.loop-nth.nth in
    let inv = c.loop-nth.invariant in
    let below : n < length xs = search rules in
    let e : y ≡ get_or xs n y = c.get-info.ensures in
    let fits : FitsSigned w32 c.key_in-key.result = search rules in
    let has = here_of xs n y below e (λ info. HasKeyFor (slice_get c.args.tuple.now info.attribute) info.access) c.requires.keys in
    let start = g.V.Files.state c.args.files.now in
    let before = g.V.Files.state c.loop-nth.files in
    let now = g.V.Files.state c.insert_one.new.files in
    let t0 = c.args.tables.now in
    let t1 = c.loop-nth.tables in
    let t2 = c.insert_one.new.tables in
    let put = c.in_ok-insert_one.ensures in
    record {
      spares = spares_next xs n y below e c.requires.apart start before now t0 t1 t2 inv.spares inv.tables put.others put.tables;
      tables = tables_next xs n y below e c.requires.apart start before now t0 t1 t2 inv.spares inv.tables put.others put.tables;
      held = held_next xs n y below e c.requires.apart start before now t0 t1 t2 inv.spares inv.tables put.others put.tables (c.args.slot + 1) inv.held put.held;
      complete = λ told rows row count is all exact may.
          complete_next xs n y below e c.requires.apart start before now t0 t1 t2 inv.spares inv.tables put.others put.tables rows row c.args.tuple.now c.args.rooms.now c.get-room.result.now c.args.slot c.key_in-key.result
          count is c.get-room.ensures has c.key_in-key.ensures (rw (to_z-of_z w32 _ fits) at (put.complete (inv.spares.tells ∙ told))) all exact may (inv.complete told rows row count is all exact may);
      keeps = λ told rows count all exact.
          keeps_next xs n y below e c.requires.apart start before now t0 t1 t2 inv.spares inv.tables put.others put.tables rows c.args.tuple.now c.args.rooms.now c.get-room.result.now c.args.slot c.key_in-key.result
          count c.get-room.ensures has c.key_in-key.ensures (rw (to_z-of_z w32 _ fits) at (put.keeps (inv.spares.tells ∙ told))) all exact (inv.keeps told rows count all exact);
      free = λ told. takes_no_page_on g.V.Files.is_free start.store before.store now.store (inv.free told) (put.spares (inv.spares.tells ∙ told));
      store = search rules;
      lent = search rules;
      faults = search rules;
      reads = search rules;
    }

pub returns-in_err-insert_one-clause-cut : goal.returns-in_err-insert_one-clause-cut
returns-in_err-insert_one-clause-cut g c = λ cuts told.
    let xs = c.args.indexes.now in
    let y = c.get-info.result.now in
    let n = c.loop-nth.nth in
    let inv = c.loop-nth.invariant in
    let below : n < length xs = search rules in
    let e : y ≡ get_or xs n y = c.get-info.ensures in
    let fits : FitsSigned w32 c.key_in-key.result = search rules in
    let has = here_of xs n y below e (λ info. HasKeyFor (slice_get c.args.tuple.now info.attribute) info.access) c.requires.keys in
    let start = g.V.Files.state c.args.files.now in
    let before = g.V.Files.state c.loop-nth.files in
    on_err c.from_residual.result (mends_as (c.in_err-insert_one.ensures.cut cuts (inv.spares.tells ∙ told))
    (λ after m. record {
      others = spares_all xs n y below e _ _ after inv.spares m.others;
      names = λ rows row count is all exact may.
          all_named xs n y below e c.requires.apart start before after c.args.tables.now c.loop-nth.tables inv.spares inv.tables m.others rows row c.args.tuple.now c.args.rooms.now c.get-room.result.now c.args.slot c.key_in-key.result
          count is c.get-room.ensures has c.key_in-key.ensures (rw (to_z-of_z w32 _ fits) at m.names) all exact (inv.complete told rows row count is all exact may);
    }))

pub returns-clause-complete : goal.returns-clause-complete
returns-clause-complete g c = λ told rows row count is all exact may.
    let over = c.loop-nth-test.false in
    let count_is = c.len-count.ensures.value in
    complete_all (g.V.Files.state c.loop-nth.files) c.loop-nth.tables (rows ++ row ∷ []) c.args.indexes.now c.loop-nth.nth (omega (arith, over, count_is)) (c.loop-nth.invariant.complete told rows row count is all exact may)

pub returns-clause-keeps : goal.returns-clause-keeps
returns-clause-keeps g c = λ told rows count all exact.
    let over = c.loop-nth-test.false in
    let count_is = c.len-count.ensures.value in
    let start = g.V.Files.state c.args.files.now in
    let now = g.V.Files.state c.loop-nth.files in
    all_whole (λ info. KeepsBuckets start now info.access) c.args.indexes.now c.loop-nth.nth (omega (arith, over, count_is)) (c.loop-nth.invariant.keeps told rows count all exact)
