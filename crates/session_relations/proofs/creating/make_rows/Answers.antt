use Rattle.std.proofs.Common.{arith, ◌≡◌, ◌<◌, ◌*◌, ℕ, List, Option, Some, unwrap_or, subst, sym, ◌∙◌}
use Rattle.afl_base.specs.declared.kind.Kind.TheVariants.{Doubling}
use Rattle.afl_base.specs.Files.{Creates, File, file_at, no_file, place}
use Rattle.afl_base.proofs.CutLaws.{either_as, mends_as, mends_now}
use Rattle.catalog.specs.CatalogFile.{IsPrepared}
use Rattle.db_model.specs.declared.schemas.Schema.{Schema}
use Rattle.space_model.specs.FileNames.{catalog_file, rows_file}
use Rattle.session_relations.proofs.Cuts.{make_file, make_nothing, make_part, make_room}
use Rattle.session_relations.proofs.Keeping.{failed_handed}
use Rattle.session_relations.proofs.Slots.{not_free, prepared_catalog, prepared_put, slot_made}
use Rattle.session_relations.proofs.creating.make_rows.Goals as goal

pub put_relation-requires-clause-prepared : goal.put_relation-requires-clause-prepared
put_relation-requires-clause-prepared g c =
    let s0 = g.V.Files.state c.args.files.now in
    let s1 = g.V.Files.state c.prepare_catalog.new.files in
    let s2 = g.V.Files.state c.create.new.self in
    let cat = c.args.at.now.cat in
    let slot = c.args.at.now.slot in
    let has = prepared_catalog s0 s1 cat c.in_ok-prepare_catalog.ensures.contents c.requires.catalog in
    let made = c.in_ok-file.ensures.created in
    let same : place s2.files cat ≡ place s1.files cat = made.others cat (not_free s1.files cat c.in_ok-file.file catalog_file has.0 made.free) in
    subst (λ (o : Option File). IsPrepared (unwrap_or o no_file) (176 * slot) 176) (sym same)
    (subst (λ (n : ℕ). IsPrepared (file_at s1.files cat) (176 * n) 176) (c.from.ensures ∙ c.number.ensures.value) c.in_ok-prepare_catalog.ensures.prepared)

pub returns-clause-put : goal.returns-clause-put
returns-clause-put g c =
    let s0 = g.V.Files.state c.args.files.now in
    let s1 = g.V.Files.state c.prepare_catalog.new.files in
    let s2 = g.V.Files.state c.create.new.self in
    let s3 = g.V.Files.state c.put_relation.new.files in
    let cat = c.args.at.now.cat in
    let slot = c.args.at.now.slot in
    let file = c.in_ok-file.file in
    let u = c.in_ok-prepare_catalog.ensures.contents in
    let below : slot < 8 = omega arith in
    let schema : Option Schema = Some c.args.schema.now in
    let made : Creates s1 s2 file (rows_file slot) Doubling =
    subst (λ (n : List ℕ). Creates s1 s2 file n Doubling) c.rows_file.ensures c.in_ok-file.ensures.created in
    prepared_put s0 s1 s3 cat slot schema u c.requires.catalog
    (slot_made s1 s2 s3 cat slot file schema below (u.draft ∙ c.requires.idle) (prepared_catalog s0 s1 cat u c.requires.catalog)
    (u.names (rows_file slot) c.requires.unnamed) made c.in_ok-put_relation.ensures.put)

pub returns-in_err-prepare_catalog-clause-cut : goal.returns-in_err-prepare_catalog-clause-cut
returns-in_err-prepare_catalog-clause-cut g c = λ cuts told failed.
    let s0 = g.V.Files.state c.args.files.now in
    let below : c.args.at.now.slot < 8 = omega arith in
    mends_now s0
    (c.prepare_catalog.ensures.cut cuts told
    (failed_handed c.prepare_catalog.result c.from_residual.result c.in_err-prepare_catalog.field-0.0 c.in_err-prepare_catalog.was c.from_residual.ensures.1 failed))
    (make_nothing s0 c.args.at.now.cat c.args.at.now.slot c.args.schema.now told below c.requires.catalog c.requires.unnamed)

pub returns-in_err-file-clause-cut : goal.returns-in_err-file-clause-cut
returns-in_err-file-clause-cut g c = λ cuts told failed.
    let s0 = g.V.Files.state c.args.files.now in
    let s1 = g.V.Files.state c.prepare_catalog.new.files in
    let cat = c.args.at.now.cat in
    let slot = c.args.at.now.slot in
    let schema = c.args.schema.now in
    let u = c.in_ok-prepare_catalog.ensures.contents in
    let below : slot < 8 = omega arith in
    either_as s1
    (c.create.ensures.cut cuts (u.tells ∙ told)
    (failed_handed c.create.result c.from_residual-in_err-file.result c.in_err-file.field-0.0 c.in_err-file.was c.from_residual-in_err-file.ensures.1 failed))
    (make_room s0 cat slot schema told below c.requires.catalog c.requires.unnamed s1 u)
    (λ after v.
    let made : Creates s1 after v.0 (rows_file slot) Doubling = subst (λ (n : List ℕ). Creates s1 after v.0 n Doubling) c.rows_file.ensures v.1 in
    make_file s0 cat slot schema told below c.requires.catalog c.requires.unnamed s1 after v.0 u made)

pub returns-in_err-put_relation-clause-cut : goal.returns-in_err-put_relation-clause-cut
returns-in_err-put_relation-clause-cut g c = λ cuts told failed.
    let s0 = g.V.Files.state c.args.files.now in
    let s1 = g.V.Files.state c.prepare_catalog.new.files in
    let s2 = g.V.Files.state c.create.new.self in
    let cat = c.args.at.now.cat in
    let slot = c.args.at.now.slot in
    let file = c.in_ok-file.file in
    let u = c.in_ok-prepare_catalog.ensures.contents in
    let below : slot < 8 = omega arith in
    let made : Creates s1 s2 file (rows_file slot) Doubling =
    subst (λ (n : List ℕ). Creates s1 s2 file n Doubling) c.rows_file.ensures c.in_ok-file.ensures.created in
    mends_as (c.in_err-put_relation.ensures.cut cuts (made.tells ∙ u.tells ∙ told))
    (λ after w. make_part s0 cat slot c.args.schema.now told below c.requires.catalog c.requires.unnamed s1 s2 file u made after w)
