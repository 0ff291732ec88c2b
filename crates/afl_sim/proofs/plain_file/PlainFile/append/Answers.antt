use Rattle.std.proofs.Common.{◌≤◌, length, arith, refl}
use Rattle.afl_sim.proofs.PlainLemmas.{content_append, plain_append}
use Rattle.afl_sim.proofs.plain_file.PlainFile.append.Goals as goal

pub invariant_of-self : goal.invariant_of-self
invariant_of-self g c =
    let a = c.self.inside in
    rw c.put_bytes.ensures (let fits : length c.args.bytes.now ≤ a.room = rw (← c.self.view_is) at c.requires in
    plain_append g.row.CAP a.size a.room _ a.kind a.bytes c.args.bytes.now c.self.invariant fits (omega arith))

pub returns : goal.returns
returns g c =
    let a = c.self.inside in
    rw (← c.self.view_is, c.put_bytes.ensures, content_append g.row.CAP a.size a.room a.kind a.bytes c.args.bytes.now c.self.invariant (rw (← c.self.view_is) at c.requires)) refl
