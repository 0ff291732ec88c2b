use Rattle.std.proofs.Common.{◌≡◌, ap, ◌∙◌}
use Rattle.cursor.specs.declared.join.JoinCursor.{JoinCursor}
use Rattle.database_tests.specs.Standing.{three_indexes}
use Rattle.database_tests.proofs.Standing.{pairs_on}
use Rattle.database_tests.proofs.joins.count_pairs.Goals as goal

pub loop-turn-preserved : goal.loop-turn-preserved
loop-turn-preserved g c =
    let before = c.loop-turn.invariant in
    let t = c.args.relation.now.tuples in
    let tree = c.args.relation.now.tree in
    let old = g.V.Files.state c.loop-turn.files in
    let new = g.V.Files.state c.change_all.new.files in
    let same = c.in_ok-found.ensures.moves.stands in
    let left : c.next.new.self.left ≡ t = ap (λ (cursor : JoinCursor). cursor.left) same ∙ before.left in
    let right : c.next.new.self.right ≡ t = ap (λ (cursor : JoinCursor). cursor.right) same ∙ before.right in
    let indexes : c.next.new.self.right_indexes ≡ three_indexes t tree = ap (λ (cursor : JoinCursor). cursor.right_indexes) same ∙ before.indexes in
    let stands = c.in_ok-change_all.ensures.stands in
    let goes_on = rw c.in_ok-found.ensures.frame.same at c.in_ok-change_all.ensures.goes_on in
    record {
      stands = stands;
      left = c.rest_at_some.ensures.left ∙ left;
      right = c.rest_at_some.ensures.right ∙ right;
      indexes = c.rest_at_some.ensures.indexes ∙ indexes;
      may_read = c.rest_at_some.ensures.may_read new
          (pairs_on old new c.change_all.new.tables t tree c.next.new.self left right indexes stands goes_on c.in_ok-found.ensures.may_read);
    }
