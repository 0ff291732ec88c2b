use Rattle.std.proofs.Common.{ap, ◌∙◌}
use Rattle.afl_base.specs.Fields.{put_at}
use Rattle.catalog.proofs.Changes.{last_of_empty}
use Rattle.catalog.proofs.slots.first_catalog.Goals as goal

pub returns-clause-last : goal.returns-clause-last
returns-clause-last c = last_of_empty c.args.at c.args.slot.now c.put_bytes.new.bytes c.requires (c.put_bytes.ensures ∙ ap (λ b. put_at b c.args.at c.args.slot.now) c.put_empty.ensures)
