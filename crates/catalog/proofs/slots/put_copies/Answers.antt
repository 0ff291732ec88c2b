use Rattle.std.proofs.Common.{◌+◌, ◌*◌, ◌≤◌, ap, arith, length, ◌∙◌}
use Rattle.afl_base.specs.Fields.{put_at}
use Rattle.catalog.specs.Copies.{copies}
use Rattle.catalog.proofs.Puts.{copy_more, copy_none}
use Rattle.catalog.proofs.slots.put_copies.Goals as goal

pub loop-copy-init : goal.loop-copy-init
loop-copy-init c = record { next = omega arith; bytes = copy_none c.args.bytes.now c.args.part.now c.args.at }

pub loop-copy-preserved : goal.loop-copy-preserved
loop-copy-preserved c =
    let part = c.args.part.now in
    let at = c.args.at in
    let done = c.loop-copy._copy in
    let room : at + done * length part ≤ length c.args.bytes.now = grind arith in
    record {
      next = omega arith;
      bytes = c.put_bytes.ensures ∙ ap (λ b. put_at b c.loop-copy.next part) c.loop-copy.invariant.bytes ∙ ap (λ n. put_at (put_at c.args.bytes.now at (copies done part)) n part) c.loop-copy.invariant.next ∙ copy_more c.args.bytes.now part at done room;
    }
