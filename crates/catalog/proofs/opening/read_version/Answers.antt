use Rattle.std.proofs.Common.{ap, arith, sym, ◌∙◌}
use Rattle.std.specs.Bool.{then_some}
use Rattle.std.specs.Str.{bytes_eq}
use Rattle.afl_base.specs.Files.{bytes_at}
use Rattle.db_model.specs.Catalog.{version_mark}
use Rattle.catalog.proofs.Breaks.{no_version, version_1, version_2, version_of_empty}
use Rattle.catalog.proofs.opening.read_version.Goals as goal

pub returns-in-0-clause-version : goal.returns-in-0-clause-version
returns-in-0-clause-version g c = λ told. version_of_empty _ (sym c.size.ensures ∙ c.in-0.is)

pub returns-in-1472-clause-version : goal.returns-in-1472-clause-version
returns-in-1472-clause-version g c = λ told. version_1 _ (sym c.size.ensures ∙ c.in-1472.is)

pub returns-in_ok-read-in-1480-clause-version : goal.returns-in_ok-read-in-1480-clause-version
returns-in_ok-read-in-1480-clause-version g c = λ told.
    c.then_some.ensures ∙ ap (λ b. then_some b 2) (c.eq.ensures ∙ ap (λ mark. bytes_eq mark version_mark) (c.in_ok-read-in-1480.ensures.bytes told)) ∙ version_2 (bytes_at (g.V.Files.state c.args.files.now).files c.args.cat) (sym c.size.ensures ∙ c.in-1480.is)

pub returns-in_default-clause-version : goal.returns-in_default-clause-version
returns-in_default-clause-version g c = λ told. no_version (bytes_at (g.V.Files.state c.args.files.now).files c.args.cat) (λ e. omega arith) (λ e. omega arith) (λ e. omega arith)
