use Rattle.std.proofs.Common.{◌≡◌, drop, sym, if◌then◌else◌, Some, None}
use Rattle.std.proofs.lemmas.List.{take_rest}
use Rattle.coffee_header.specs.Headers.{is_name_field, name_of_field}
use Rattle.coffee_header.proofs.HeaderLaws.{header_from}
use Rattle.coffee_header.proofs.read.header_in.Goals as goal

pub returns : goal.returns
returns c =
    let field : (if is_name_field (drop 10 c.args.bytes.now) then Some (name_of_field (drop 10 c.args.bytes.now)) else None) ≡ Some c.in_ok-name.name =
    sym (rw (take_rest c.args.bytes.now 10) at c.in_ok-name.ensures) in
    let e = header_from c.args.bytes.now c.in_ok-name.name (cc) (cc) field in
    rw (c.get_u16.ensures, c.get_u16-2.ensures, c.get_u16-3.ensures, c.get_u16-4.ensures) e
