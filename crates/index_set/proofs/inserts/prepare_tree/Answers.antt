use Rattle.std.proofs.Common.{ap, subst}
use Rattle.afl_base.specs.Files.{State}
use Rattle.afl_base.specs.Sparing.{StandsStill}
use Rattle.afl_base.proofs.SparingLaws.{stays_on}
use Rattle.index_maxheap.specs.declared.rooms.Room.{Room}
use Rattle.index_set.proofs.inserts.prepare_tree.Goals as goal

pub returns-clause-still : goal.returns-clause-still
returns-clause-still g c = λ told never.
    let state = g.V.Files.state in
    let asks = g.V.Files.asks in
    let start = c.args.files.now in
    let mid = c.room.new.files in
    let file = c.args.file in
    let found = c.in_ok-room.room in
    let same = c.in_ok-room.ensures.frame.same in
    let less = g.V.Files.asks_seen start mid same told c.requires.idle in
    let read : StandsStill state asks start mid = record { store = ap (λ (s : State). s.store) same; asks_less = less } in
    stays_on state asks start mid c.prepare.new.self read (c.in_ok-prepare.ensures.still
    (λ need asked. never need (λ keys tree.
    subst (λ (r : Room). asks start file r.overwrites r.bytes need) (c.in_ok-room.ensures.room told keys tree) (less file found.overwrites found.bytes need asked))))
