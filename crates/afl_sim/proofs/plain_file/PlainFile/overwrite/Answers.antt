use Rattle.std.proofs.Common.{refl}
use Rattle.afl_sim.proofs.PlainLemmas.{content_put, plain_put}
use Rattle.afl_sim.proofs.plain_file.PlainFile.overwrite.Goals as goal

pub invariant_of-self : goal.invariant_of-self
invariant_of-self g c =
    let a = c.self.inside in
    rw c.put_bytes.ensures (plain_put g.row.CAP a.size a.room c.args.at a.kind a.bytes c.args.bytes.now c.self.invariant (rw (← c.self.view_is) at c.requires.range))

pub returns : goal.returns
returns g c =
    let a = c.self.inside in
    rw (← c.self.view_is, c.put_bytes.ensures, content_put g.row.CAP a.size a.room c.args.at a.kind a.bytes c.args.bytes.now c.self.invariant (rw (← c.self.view_is) at c.requires.range)) refl
