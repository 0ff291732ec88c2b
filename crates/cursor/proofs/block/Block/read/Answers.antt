use Rattle.tuple_file.specs.Tuples.{rows}
use Rattle.cursor.proofs.Blocks.{met_more}
use Rattle.cursor.proofs.block.Block.read.Goals as goal

pub returns-clause-met : goal.returns-clause-met
returns-clause-met g c = λ told met.
    let k = c.args.cursor.now in
    let h = c.see.ensures in
    met_more c.args.self.now c.see.new.self k.right_on c.args.slot (rows (g.V.Files.state c.args.files.now).files k.right) c.in_ok-found.found
    h.kept (c.in_ok-found.ensures.number told) h.widens h.meets h.others met
