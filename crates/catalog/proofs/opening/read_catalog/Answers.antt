use Rattle.std.proofs.Common.{◌≡◌, List, [], Some, ap, refl, subst, sym, ◌∙◌, ℕ, None}
use Rattle.std.specs.Prelude.{IfErr, IfOk, OnOk}
use Rattle.db_model.specs.Catalog.{catalog_of}
use Rattle.space_model.specs.FileNames.{catalog_file}
use Rattle.catalog.specs.Catalogs.{catalog_slots}
use Rattle.catalog.specs.Rules.{broken_catalog}
use Rattle.catalog.proofs.Breaks.{bytes_found, empty_breaks_none, no_bytes}
use Rattle.catalog.proofs.Forming.{read_sizes}
use Rattle.catalog.proofs.Named.{named_found, named_none}
use Rattle.catalog.proofs.opening.read_catalog.Goals as goal

pub returns-in-Some-clause-catalog : goal.returns-in-Some-clause-catalog
returns-in-Some-clause-catalog g c = λ told.
    let files = (g.V.Files.state c.args.files.now).files in
    let e = bytes_found files c.in-Some.cat (named_found files c.in-Some.cat catalog_file (rw c.catalog_file.ensures at c.in-Some.ensures.found) (rw c.catalog_file.ensures at c.in-Some.ensures.only)) in
    subst (λ (b : List ℕ). IfOk c.read_file.result (λ r. OnOk r (catalog_slots c.read_file.new.catalog ≡ catalog_of b))) (sym e) (c.read_file.ensures.catalog told)

pub returns-in-Some-clause-sound : goal.returns-in-Some-clause-sound
returns-in-Some-clause-sound g c = λ told.
    let files = (g.V.Files.state c.args.files.now).files in
    let e = bytes_found files c.in-Some.cat (named_found files c.in-Some.cat catalog_file (rw c.catalog_file.ensures at c.in-Some.ensures.found) (rw c.catalog_file.ensures at c.in-Some.ensures.only)) in
    subst (λ (b : List ℕ). IfOk c.read_file.result (λ r. OnOk r (broken_catalog b ≡ None))) (sym e) (c.read_file.ensures.sound told)

pub returns-in-Some-clause-broken : goal.returns-in-Some-clause-broken
returns-in-Some-clause-broken g c = λ told.
    let files = (g.V.Files.state c.args.files.now).files in
    let e = bytes_found files c.in-Some.cat (named_found files c.in-Some.cat catalog_file (rw c.catalog_file.ensures at c.in-Some.ensures.found) (rw c.catalog_file.ensures at c.in-Some.ensures.only)) in
    subst (λ (b : List ℕ). IfOk c.read_file.result (λ r. IfErr r (λ bad. broken_catalog b ≡ Some (bad.rule, bad.place)))) (sym e) (c.read_file.ensures.broken told)

pub returns-in-Some-clause-size : goal.returns-in-Some-clause-size
returns-in-Some-clause-size g c =
    let files = (g.V.Files.state c.args.files.now).files in
    let only = rw c.catalog_file.ensures at c.in-Some.ensures.only in
    read_sizes files c.in-Some.cat only c.read_file.result c.read_file.ensures.size

pub returns-in-None-clause-catalog : goal.returns-in-None-clause-catalog
returns-in-None-clause-catalog g c = λ told.
    let files = (g.V.Files.state c.args.files.now).files in
    c.clear.ensures.slots ∙ ap catalog_of (sym (no_bytes files (named_none files catalog_file (rw c.catalog_file.ensures at c.in-None.ensures.none))))

pub returns-in-None-clause-sound : goal.returns-in-None-clause-sound
returns-in-None-clause-sound g c = λ told.
    let files = (g.V.Files.state c.args.files.now).files in
    ap broken_catalog (no_bytes files (named_none files catalog_file (rw c.catalog_file.ensures at c.in-None.ensures.none))) ∙ empty_breaks_none [] refl
