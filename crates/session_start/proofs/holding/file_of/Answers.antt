use Rattle.std.proofs.Common.{ap, sym, ◌∙◌, ◌≡◌, true, false}
use Rattle.std.specs.Prelude.{is_some}
use Rattle.catalog.proofs.Named.{named_none}
use Rattle.session_start.proofs.holding.file_of.Goals as goal

pub unreachable-requires : goal.unreachable-requires
unreachable-requires g c =
    let gone = ap is_some (named_none (g.V.Files.state c.args.files.now).files c.args.name c.in-None.ensures.none) in
    let no : false ≡ true = sym gone ∙ c.requires.there in
    cc
