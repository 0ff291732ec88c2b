use Rattle.std.proofs.Common.{rules, ◌≡◌, ◌∙◌, ◌<◌, length, List, get_or}
use Rattle.std.specs.Prelude.{FitsSigned, slice_get}
use Rattle.std.specs.Int.{w32}
use Rattle.std.proofs.lemmas.Int.{to_z-of_z}
use Rattle.afl_base.specs.Asked.{asks_few}
use Rattle.afl_base.proofs.CutLaws.{mends_as}
use Rattle.afl_base.proofs.SparingLaws.{stays_on}
use Rattle.db_model.specs.Step.{key_of}
use Rattle.index_maxheap.specs.declared.rooms.Room.{Room}
use Rattle.index_set.specs.Inserts.{AsksFor, HasKeyFor, SomeOf}
use Rattle.index_set.proofs.Lists.{asks_before, asks_key, count_more, exact_next, here_of, key_for, on_space, prepares_all, prepares_more, room_for, rooms_next, same_failure, some_of, unless_failed}
use Rattle.index_set.proofs.inserts.prepare_all.Goals as goal

pub returns-in-Err-clause-contents : goal.returns-in-Err-clause-contents
returns-in-Err-clause-contents g c =
    let xs = c.args.indexes.now in
    let y = c.get-info.result.now in
    let n = c.loop-nth.nth in
    let below : n < length xs = search rules in
    let e : y ≡ get_or xs n y = c.get-info.ensures in
    unless_failed Room (List Room) c.in-Err.error (prepares_all xs n y below e _ _ _ c.loop-nth.invariant.prepares) c.in-Err.ensures.contents

pub returns-in-Err-clause-cut : goal.returns-in-Err-clause-cut
returns-in-Err-clause-cut g c = λ cuts told failed.
    let xs = c.args.indexes.now in
    let y = c.get-info.result.now in
    let n = c.loop-nth.nth in
    let inv = c.loop-nth.invariant in
    let below : n < length xs = search rules in
    let e : y ≡ get_or xs n y = c.get-info.ensures in
    mends_as (c.in-Err.ensures.cut cuts (inv.prepares.spares.tells ∙ told) (same_failure (List Room) Room c.in-Err.error failed))
    (λ after prepared. prepares_all xs n y below e _ _ _ inv.prepares prepared)

pub returns-in-Err-clause-asked : goal.returns-in-Err-clause-asked
returns-in-Err-clause-asked g c = λ told.
    let xs = c.args.indexes.now in
    let y = c.get-info.result.now in
    let n = c.loop-nth.nth in
    let below : n < length xs = search rules in
    let e : y ≡ get_or xs n y = c.get-info.ensures in
    let fits : FitsSigned w32 c.key_in-key.result = search rules in
    let has = here_of xs n y below e (λ info. HasKeyFor (slice_get c.args.tuple.now info.attribute) info.access) c.requires.keys in
    let now = g.V.Files.state c.prepare_one.new.files in
    let asks = asks_few (g.V.Files.asks c.prepare_one.new.files) now.files in
    on_space Room (List Room) c.in-Err.error (λ need. AsksFor asks now c.key_in-key.result need y.access) (λ need. SomeOf (λ info. AsksFor asks now (key_of (slice_get c.args.tuple.now info.attribute)) need info.access) xs)
    (λ need asked. some_of xs n y below e (λ info. AsksFor asks now (key_of (slice_get c.args.tuple.now info.attribute)) need info.access)
    (asks_key asks (slice_get c.args.tuple.now y.attribute) c.key_in-key.result now need y.access has c.key_in-key.ensures asked))
    (rw (to_z-of_z w32 _ fits) at (c.in-Err.ensures.asked (c.loop-nth.invariant.prepares.spares.tells ∙ told)))

pub loop-nth-preserved : goal.loop-nth-preserved
loop-nth-preserved g c =
    let xs = c.args.indexes.now in
    let y = c.get-info.result.now in
    let n = c.loop-nth.nth in
    let inv = c.loop-nth.invariant in
    let below : n < length xs = search rules in
    let e : y ≡ get_or xs n y = c.get-info.ensures in
    let fits : FitsSigned w32 c.key_in-key.result = search rules in
    let has = here_of xs n y below e (λ info. HasKeyFor (slice_get c.args.tuple.now info.attribute) info.access) c.requires.keys in
    let start = g.V.Files.state c.args.files.now in
    let before = g.V.Files.state c.loop-nth.files in
    let now = g.V.Files.state c.prepare_one.new.files in
    record {
      count = count_more c.loop-nth.rooms c.push.new.self c.in-Ok.room n c.push.ensures inv.count;
      prepares = prepares_more xs n y below e start before now inv.prepares c.in-Ok.ensures.contents;
      room = rooms_next xs n y below e start before now inv.prepares c.in-Ok.ensures.contents c.loop-nth.rooms c.push.new.self c.in-Ok.room c.requires.apart c.push.ensures inv.count inv.room c.in-Ok.ensures.room;
      exact = λ told. exact_next xs n y below e start c.args.tuple.now c.loop-nth.rooms c.push.new.self c.in-Ok.room c.push.ensures inv.count (inv.exact told)
          (key_for (slice_get c.args.tuple.now y.attribute) c.key_in-key.result start c.in-Ok.room y.access has c.key_in-key.ensures
          (room_for start before c.key_in-key.result c.in-Ok.room y.access (inv.prepares.bytes told) (rw (to_z-of_z w32 _ fits) at (c.in-Ok.ensures.exact (inv.prepares.spares.tells ∙ told)))));
      still = λ told never.
          let stayed = inv.still told never in
          let asks = g.V.Files.asks c.args.files.now in
          stays_on g.V.Files.state g.V.Files.asks c.args.files.now c.loop-nth.files c.prepare_one.new.files stayed
          ((rw (to_z-of_z w32 _ fits) at c.in-Ok.ensures.still) (inv.prepares.spares.tells ∙ told)
          (λ need asked. never need (some_of xs n y below e (λ info. AsksFor asks start (key_of (slice_get c.args.tuple.now info.attribute)) need info.access)
          (asks_key asks (slice_get c.args.tuple.now y.attribute) c.key_in-key.result start need y.access has c.key_in-key.ensures
          (asks_before asks (g.V.Files.asks c.loop-nth.files) start before c.key_in-key.result need y.access stayed.asks_less (inv.prepares.bytes told) asked)))));
      store = search rules;
      lent = search rules;
      faults = search rules;
      reads = search rules;
    }
