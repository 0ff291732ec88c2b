use Rattle.std.proofs.Common.{rules, arith}
use Rattle.afl_base.specs.Files.{bytes_at}
use Rattle.index_inline.proofs.Pieces.{field_in_piece}
use Rattle.index_inline.proofs.piece.read_piece.Goals as goal

pub returns-clause-keys : goal.returns-clause-keys
returns-clause-keys g c told nth below =
    field_in_piece (bytes_at (g.V.Files.state c.args.files.now).files c.args.column.now.file) c.read.new.into c.args.column.now.row c.args.slot c.args.column.now.at c.args.count nth c.args.column.now.width
    c.requires.width below (rw (c.place_of.ensures, c.requires.size) at (c.in_ok-read.ensures.bytes told))
