use Rattle.std.proofs.Common.{sym, ◌∙◌, ◌-◌}
use Rattle.afl_base.specs.Files.{bytes_at}
use Rattle.index_tree.specs.TreeFile.{key_at}
use Rattle.index_tree.proofs.Stays.{eq_true}
use Rattle.index_maxheap.proofs.Chained.{eq_of}
use Rattle.index_maxheap.proofs.Hinted.{behind_is}
use Rattle.index_maxheap.proofs.hints.is_behind.Goals as goal

pub returns-then-has_key-clause-behind : goal.returns-then-has_key-clause-behind
returns-then-has_key-clause-behind g c = λ told same.
    let bytes = bytes_at (g.V.Files.state c.args.files.now).files c.args.index in
    let part = c.read_bucket.new.into in
    behind_is bytes part c.args.key.now c.args.from c.args.hint (c.in_ok-read_bucket.ensures.bytes told) c.requires.stands.low c.requires.stands.short
    (eq_true (key_at part 0 (c.args.hint.pair - 1)) c.args.key.now (sym c.has_key.ensures ∙ c.if-has_key.true))
    (sym c.slot_in.ensures ∙ eq_of c.slot_in.result c.args.from same)
