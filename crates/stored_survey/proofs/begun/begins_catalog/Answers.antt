use Rattle.std.proofs.Common.{◌≡◌, ◌⊎◌, ℕ, List, Bool, subst, take}
use Rattle.std.specs.Bool.{Decides}
use Rattle.afl_base.specs.Files.{bytes_at}
use Rattle.stored_survey.specs.Parts.{IsCatalogFront}
use Rattle.stored_survey.proofs.FirstCatalog.{first_decides, front_read, if_ok_map, no_first}
use Rattle.stored_survey.proofs.begun.begins_catalog.Goals as goal

pub returns-in_default-clause-is : goal.returns-in_default-clause-is
returns-in_default-clause-is g c = λ told.
    let bytes : List ℕ = bytes_at (g.V.Files.state c.args.files.now).files c.args.cat in
    let all = subst (λ (n : ℕ). (c.at_most_16.result ≡ 16) ⊎ (c.at_most_16.result ≡ n)) c.requires.size c.at_most_16.ensures.all in
    no_first bytes c.read.new.into (front_read bytes c.read.new.into c.at_most_16.result c.at_most_16.ensures.few all (c.in_ok-read.ensures.bytes told)) c.in_default.ensures.none

pub returns-clause-is : goal.returns-clause-is
returns-clause-is g c = λ told.
    let bytes : List ℕ = bytes_at (g.V.Files.state c.args.files.now).files c.args.cat in
    let all = subst (λ (n : ℕ). (c.at_most_16.result ≡ 16) ⊎ (c.at_most_16.result ≡ n)) c.requires.size c.at_most_16.ensures.all in
    let shown = front_read bytes c.read.new.into c.at_most_16.result c.at_most_16.ensures.few all (c.in_ok-read.ensures.bytes told) in
    if_ok_map c.begins_with.result (λ (r : Bool). Decides r (bytes ≡ take c.args.size c.catalog_of_one-whole.result)) (λ (r : Bool). Decides r ((name : List ℕ) × IsCatalogFront bytes name))
    (λ r d. first_decides bytes c.read.new.into shown r c.in-Some.name c.catalog_of_one-whole.result c.in-Some.ensures.some c.catalog_of_one-whole.ensures
    (subst (λ (n : ℕ). Decides r (bytes ≡ take n c.catalog_of_one-whole.result)) c.requires.size d))
    ((rw c.in_ok-read.ensures.frame.same at c.begins_with.ensures.is) told)
