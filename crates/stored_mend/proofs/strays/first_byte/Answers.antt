use Rattle.std.proofs.Common.{◌∙◌, ℕ, List, ap, arith, sym}
use Rattle.std.specs.Prelude.{slice_index}
use Rattle.afl_base.specs.Files.{bytes_at}
use Rattle.stored_mend.proofs.CatalogKept.{whole_found}
use Rattle.stored_mend.proofs.CatalogRead.{slot_byte}
use Rattle.stored_mend.proofs.strays.first_byte.Goals as goal

pub returns-clause-byte : goal.returns-clause-byte
returns-clause-byte g c = λ told.
    let files = (g.V.Files.state c.args.files.now).files in
    ap (λ (xs : List ℕ). slice_index xs 0) (c.in_ok-read.ensures.bytes told)
    ∙ slot_byte (bytes_at files c.in-Some.cat) c.args.at _ (omega arith)
    ∙ ap (λ (xs : List ℕ). slice_index xs c.args.at) (sym (whole_found files c.in-Some.cat c.in-Some.ensures.found))
