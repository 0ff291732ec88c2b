use Rattle.std.proofs.Common.{◌≡◌, ◌∙◌, ◌+◌, sym, ap, arith, rules, List, ℕ, length, subst}
use Rattle.std.specs.Prelude.{slice_range}
use Rattle.afl_base.specs.Files.{bytes_at}
use Rattle.catalog.specs.Rules.{catalog_bytes_in}
use Rattle.space_model.specs.FileNames.{catalog_file}
use Rattle.stored_survey.proofs.HalfParts.{only_bytes}
use Rattle.stored_survey.proofs.Marks.{front_read}
use Rattle.stored_survey.proofs.mark.has_front_of_mark.Goals as goal

pub returns-clause-front : goal.returns-clause-front
returns-clause-front g c = λ told.
    let files = (g.V.Files.state c.args.files.now).files in
    let same = only_bytes files c.args.cat catalog_file c.requires.whole.named c.requires.whole.only in
    let long : length c.read.new.into ≡ c.args.count = search rules in
    let read : c.read.new.into ≡ slice_range (bytes_at files c.args.cat) 1472 (1472 + length c.read.new.into) =
    subst (λ (n : ℕ). c.read.new.into ≡ slice_range (bytes_at files c.args.cat) 1472 (1472 + n)) (sym c.read.auto.into) (c.in_ok-read.ensures.bytes told) in
    front_read (catalog_bytes_in files) c.read.new.into c.args.count c.is_front_of_mark.result (sym (ap (λ (xs : List ℕ). length xs) same) ∙ c.requires.size) long
    (read ∙ ap (λ (xs : List ℕ). slice_range xs 1472 (1472 + length c.read.new.into)) same) c.is_front_of_mark.ensures
