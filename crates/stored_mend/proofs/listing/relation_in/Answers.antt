use Rattle.std.proofs.Common.{◌≡◌, ℕ, ◌+◌, ◌*◌, arith, subst}
use Rattle.std.specs.Prelude.{slice_range}
use Rattle.afl_base.specs.Files.{bytes_at}
use Rattle.stored_mend.proofs.CatalogKept.{slot_given, slot_strange}
use Rattle.stored_mend.proofs.listing.relation_in.Goals as goal

pub returns-clause-read : goal.returns-clause-read
returns-clause-read g c = λ w.
    let old = g.V.Files.state c.args.files.now in
    let slot : c.from.result ≡ c.args.slot = omega (arith, c.from.ensures) in
    slot_given c.mended_relation.result old c.args.cat c.args.slot c.read.new.into w c.mended_relation.ensures.read
    (λ told. subst (λ (n : ℕ). c.read.new.into ≡ slice_range (bytes_at old.files c.args.cat) (176 * n) (176 * n + 176)) slot (c.in_ok-read.ensures.bytes told))

pub returns-clause-strange : goal.returns-clause-strange
returns-clause-strange g c = λ told w.
    let old = g.V.Files.state c.args.files.now in
    let slot : c.from.result ≡ c.args.slot = omega (arith, c.from.ensures) in
    slot_strange c.mended_relation.result old.files c.args.cat c.args.slot c.read.new.into w c.mended_relation.ensures.none
    (subst (λ (n : ℕ). c.read.new.into ≡ slice_range (bytes_at old.files c.args.cat) (176 * n) (176 * n + 176)) slot (c.in_ok-read.ensures.bytes told))
