use Rattle.std.proofs.Common.{◌≡◌, ◌==◌, false, sym, ap, ◌∙◌}
use Rattle.coffee_layout.specs.Files.{logs_in}
use Rattle.coffee_layout.proofs.Namings.{names_none}
use Rattle.coffee_layout.proofs.Tests.{eq_false}
use Rattle.coffee_layout.proofs.naming.header_names_its_log.Goals as goal

pub returns-then-header-eq0-clause-names : goal.returns-then-header-eq0-clause-names
returns-then-header-eq0-clause-names g c = λ t us f tiled same.
    let flags : f.header.flags == 3 ≡ false = ap (λ h. h.flags == 3) same ∙ eq_false c.args.header.now.flags 3 c.if-header-eq3.false in
    sym (names_none f (logs_in us) (ap (λ h. h.log_page) same ∙ c.if-header-eq0.true) flags)
