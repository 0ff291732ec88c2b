use Rattle.std.proofs.Common.{rules, refl, ◌≡◌, ◌+◌, ◌*◌, ◌∙◌, ap}
use Rattle.std.specs.Prelude.{slice_range}
use Rattle.afl_base.specs.Fields.{put_at}
use Rattle.index_maxheap.proofs.Gathering.{group_put, part_long}
use Rattle.index_maxheap.proofs.groups.Nodes.complete.Goals as goal

pub returns : goal.returns
returns c =
    let groups = c.args.self.now.groups in
    let n : c.from-n.result ≡ c.args.node = c.from-n.ensures in
    let first = rw n at c.put_bytes.ensures in
    record {
      six = c.pair_bytes-bytes.result;
      is = c.pair_bytes-bytes.ensures;
      more = record { loads = search rules; lasts = refl; opened = refl };
      groups = refl;
      whole = c.put_bytes-2.ensures ∙ ap (λ xs. put_at xs 18 c.pair_bytes-bytes.result) first
          ∙ group_put (slice_range groups (18 * c.args.node) (18 * c.args.node + 18)) c.pair_bytes-bytes.result (part_long groups c.args.node (search rules) c.requires.node) c.pair_bytes-bytes.ensures.long;
    }
