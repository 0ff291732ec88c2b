use Rattle.std.proofs.Common.{◌≡◌, ◌+◌, ◌<◌, ap, sym, ◌∙◌, arith}
use Rattle.tuple_file.specs.Tuples.{slots}
use Rattle.database_tests.proofs.Standing.{goes_more, slots_before, stands_more}
use Rattle.database_tests.proofs.relation.Relation.insert.Goals as goal

pub returns-clause-stands : goal.returns-clause-stands
returns-clause-stands g c =
    let a = g.V.Files.state c.args.files.now in
    let b = g.V.Files.state c.prepare.new.self in
    let d = g.V.Files.state c.prepare_all.new.files in
    let e = g.V.Files.state c.append.new.files in
    let f = g.V.Files.state c.insert_all.new.files in
    let t = c.args.self.now.tuples in
    let old : slots a.files t ≡ c.in_ok-slot.slot = sym c.in_ok-slot.ensures.next in
    let second = rw c.indexes-indexes.ensures.indexes at c.in_ok-rooms.ensures.contents in
    let keys = rw c.indexes-indexes.ensures.indexes at c.in_ok-insert_all.ensures.others in
    let held = rw c.indexes-indexes.ensures.indexes at c.in_ok-insert_all.ensures.held in
    let before = slots_before a b d e f c.args.tables.now c.insert_all.new.tables t c.args.self.now.tree c.in_ok-slot.slot _ _ c.requires.stands c.in_ok-prepare.ensures.contents second c.in_ok-append.ensures.appended keys old in
    let more : slots e.files t ≡ c.in_ok-slot.slot + 1 = c.in_ok-append.ensures.slots ∙ ap (λ n. n + 1) before in
    let below : slots d.files t < 32768 = omega (arith, before, c.number.ensures.value, c.number.ensures.below) in
    let holds = c.in_ok-append.ensures.holds below in
    stands_more a b d e f c.args.tables.now c.insert_all.new.tables t c.args.self.now.tree c.in_ok-slot.slot _ _ c.requires.stands c.in_ok-prepare.ensures.contents second c.in_ok-append.ensures.appended keys old
    holds more held

pub returns-clause-goes_on : goal.returns-clause-goes_on
returns-clause-goes_on g c =
    let a = g.V.Files.state c.args.files.now in
    let b = g.V.Files.state c.prepare.new.self in
    let d = g.V.Files.state c.prepare_all.new.files in
    let e = g.V.Files.state c.append.new.files in
    let f = g.V.Files.state c.insert_all.new.files in
    let t = c.args.self.now.tuples in
    let old : slots a.files t ≡ c.in_ok-slot.slot = sym c.in_ok-slot.ensures.next in
    let second = rw c.indexes-indexes.ensures.indexes at c.in_ok-rooms.ensures.contents in
    let keys = rw c.indexes-indexes.ensures.indexes at c.in_ok-insert_all.ensures.others in
    let before = slots_before a b d e f c.args.tables.now c.insert_all.new.tables t c.args.self.now.tree c.in_ok-slot.slot _ _ c.requires.stands c.in_ok-prepare.ensures.contents second c.in_ok-append.ensures.appended keys old in
    let more : slots e.files t ≡ c.in_ok-slot.slot + 1 = c.in_ok-append.ensures.slots ∙ ap (λ n. n + 1) before in
    goes_more a b d e f c.args.tables.now c.insert_all.new.tables t c.args.self.now.tree c.in_ok-slot.slot _ _ c.requires.stands c.in_ok-prepare.ensures.contents second c.in_ok-append.ensures.appended keys old
    more
