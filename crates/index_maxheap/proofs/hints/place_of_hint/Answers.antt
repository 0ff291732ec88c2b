use Rattle.std.proofs.Common.{rules, ◌≡◌, true}
use Rattle.afl_base.specs.Files.{bytes_at}
use Rattle.index_maxheap.proofs.Hinted.{hinted_place, on_path_behind}
use Rattle.index_maxheap.proofs.hints.place_of_hint.Goals as goal

pub returns-clause-place : goal.returns-clause-place
returns-clause-place g c = λ told keys tree.
    let bytes = bytes_at (g.V.Files.state c.args.files.now).files c.args.index in
    let key = c.args.key.now in
    let yes : c.in_ok-is_behind.field-0 ≡ true = search rules in
    let may : c.may_stand.result ≡ true = search rules in
    let stands = rw c.size.ensures at (c.may_stand.ensures.stands may) in
    let behind = c.in_ok-is_behind.ensures.behind told yes in
    let on = on_path_behind bytes keys key c.args.from c.args.hint tree stands behind in
    let hop = (rw c.in_ok-is_behind.ensures.frame.same at c.in_ok-hop.ensures.hop) told on.0 on.1 in
    hinted_place bytes keys key c.args.from c.in_ok-hop.hop c.args.hint tree stands behind hop
