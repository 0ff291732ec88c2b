use Rattle.coffee_header.proofs.HeaderLaws.{header_back, bytes_back}
use Rattle.coffee_header.proofs.laws.header_both_ways.Goals as goal

pub returns : goal.returns
returns c = record { read = header_back; written = bytes_back }
