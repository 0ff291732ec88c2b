use Rattle.std.proofs.Common.{arith, ◌+◌, ◌*◌, ◌≡◌, inr, List, Some, ap, refl, sym, subst, ◌∙◌, length, ℤ}
use Rattle.afl_base.proofs.CutLaws.{mends_as}
use Rattle.afl_base.proofs.SparingLaws.{takes_no_page_on, takes_no_page_same}
use Rattle.afl_base.specs.Files.{State}
use Rattle.catalog.specs.CatalogFile.{PutsIndex}
use Rattle.db_model.specs.declared.schemas.IndexKind.TheVariants.{MemHash}
use Rattle.session_indexes.specs.Made.{index_for, keys_at}
use Rattle.session_indexes.specs.Parts.{MayPut}
use Rattle.session_indexes.proofs.Effects.{table_made, taken_kept}
use Rattle.session_indexes.proofs.Free.{free_nobodys, free_there}
use Rattle.session_indexes.proofs.Keyed.{keys_by}
use Rattle.session_indexes.proofs.Planted.{allowed_number}
use Rattle.session_indexes.proofs.Puts.{asks_as_before}
use Rattle.session_indexes.proofs.Tried.{keys_many, tried_fine, tried_full, tried_long}
use Rattle.session_indexes.proofs.making.make_table.Goals as goal

pub returns-in_default-clause-tried : goal.returns-in_default-clause-tried
returns-in_default-clause-tried g c =
    let s0 = g.V.Files.state c.args.files.now in
    tried_full c.args.indexes.now (keys_at s0 c.args.tuples.now c.args.site.now) (sym c.free_table.ensures ∙ c.in_default.is)

pub returns-then-is_crowded-clause-tried : goal.returns-then-is_crowded-clause-tried
returns-then-is_crowded-clause-tried g c =
    let s0 = g.V.Files.state c.args.files.now in
    let ks : List ℤ = keys_at s0 c.args.tuples.now c.args.site.now in
    let many : length ks ≡ c.count-slots.result = keys_many s0 c.args.tuples.now c.args.site.now c.count-slots.result c.count-slots.ensures.rows in
    tried_long c.args.indexes.now ks c.in-Some.table (sym c.free_table.ensures ∙ c.in-Some.is) c.requires.tables c.requires.apart (omega (arith, many, c.is_crowded.ensures.crowded c.if-is_crowded.true))

pub returns-in-Ok-put_entry-clause-tried : goal.returns-in-Ok-put_entry-clause-tried
returns-in-Ok-put_entry-clause-tried g c =
    let s0 = g.V.Files.state c.args.files.now in
    let ks : List ℤ = keys_at s0 c.args.tuples.now c.args.site.now in
    let many : length ks ≡ c.count-slots.result = keys_many s0 c.args.tuples.now c.args.site.now c.count-slots.result c.count-slots.ensures.rows in
    tried_fine c.args.indexes.now ks c.in-Some.table (sym c.free_table.ensures ∙ c.in-Some.is) c.requires.tables c.requires.apart (omega (arith, many, c.is_crowded.ensures.fits c.if-is_crowded.false))

pub returns-in-Ok-put_entry-clause-tables : goal.returns-in-Ok-put_entry-clause-tables
returns-in-Ok-put_entry-clause-tables g c =
    taken_kept c.args.tables.now c.fill.new.self c.in-Some.table c.args.indexes.now (free_nobodys c.args.indexes.now c.in-Some.table (sym c.free_table.ensures ∙ c.in-Some.is)) c.fill.ensures.other

pub returns-in-Err-Space-clause-tables : goal.returns-in-Err-Space-clause-tables
returns-in-Err-Space-clause-tables g c =
    taken_kept c.args.tables.now c.fill.new.self c.in-Some.table c.args.indexes.now (free_nobodys c.args.indexes.now c.in-Some.table (sym c.free_table.ensures ∙ c.in-Some.is)) c.fill.ensures.other

pub returns-in-Ok-put_entry-clause-made : goal.returns-in-Ok-put_entry-clause-made
returns-in-Ok-put_entry-clause-made g c =
    let s0 = g.V.Files.state c.args.files.now in
    let s2 = g.V.Files.state c.put_entry.new.files in
    let t = c.args.tuples.now in
    let site = c.args.site.now in
    let n = c.in-Some.table in
    let xs = c.args.indexes.now in
    let nobodys = free_nobodys xs n (sym c.free_table.ensures ∙ c.in-Some.is) in
    let u = subst (λ (s : State). PutsIndex s s2 c.args.cat site.slot (Some (index_for site MemHash))) c.in-Ok.ensures.frame.same c.in-Ok-put_entry.ensures.put in
    let number = allowed_number MemHash t site.attribute c.requires.allowed in
    table_made s0 s2 c.args.tables.now c.fill.new.self xs c.args.cat t site n (free_there xs n (sym c.free_table.ensures ∙ c.in-Some.is)) c.requires.ready u
    (λ told. c.in-Ok.ensures.keys told ∙ keys_by s0 t site.attribute number c.requires.ready.holds told c.column-column.result c.count-slots.result c.column-column.ensures.column c.count-slots.ensures.slots)
    (c.in-Ok.ensures.size ∙ c.count-slots.ensures.slots)
    (taken_kept c.args.tables.now c.fill.new.self n xs nobodys c.fill.ensures.other) nobodys

pub returns-in-Err-Space-clause-unrefused : goal.returns-in-Err-Space-clause-unrefused
returns-in-Err-Space-clause-unrefused g c =
    let s0 = g.V.Files.state c.args.files.now in
    let ks : List ℤ = keys_at s0 c.args.tuples.now c.args.site.now in
    let many : length ks ≡ c.count-slots.result = keys_many s0 c.args.tuples.now c.args.site.now c.count-slots.result c.count-slots.ensures.rows in
    tried_fine c.args.indexes.now ks c.in-Some.table (sym c.free_table.ensures ∙ c.in-Some.is) c.requires.tables c.requires.apart (omega (arith, many, c.is_crowded.ensures.fits c.if-is_crowded.false))

pub returns-in-Err-Failed-clause-cut : goal.returns-in-Err-Failed-clause-cut
returns-in-Err-Failed-clause-cut g c = λ cuts told failed.
    let s0 = g.V.Files.state c.args.files.now in
    let site = c.args.site.now in
    let same = c.in-Ok.ensures.frame.same in
    let ks : List ℤ = keys_at s0 c.args.tuples.now site in
    let many : length ks ≡ c.count-slots.result = keys_many s0 c.args.tuples.now site c.count-slots.result c.count-slots.ensures.rows in
    let left = rw c.in-Err-Failed.field-0-is at (c.in-Err-Failed.ensures.cut cuts (ap (λ (s : State). s.tells) same ∙ told)) in
    inr (mends_as (left refl) (λ after p. record {
      unrefused = tried_fine c.args.indexes.now ks c.in-Some.table (sym c.free_table.ensures ∙ c.in-Some.is) c.requires.tables c.requires.apart (omega (arith, many, c.is_crowded.ensures.fits c.if-is_crowded.false));
      left = subst (λ (s : State). MayPut s after c.args.cat site.slot (Some (index_for site MemHash))) same p;
    }))

pub returns-in-Ok-put_entry-clause-spares : goal.returns-in-Ok-put_entry-clause-spares
returns-in-Ok-put_entry-clause-spares g c = λ told none.
    let free = g.V.Files.is_free in
    let start = c.args.files.now in
    let late = c.fill.new.files in
    let same = c.in-Ok.ensures.frame.same in
    let still = asks_as_before (g.V.Files.asks start) (g.V.Files.asks late) (g.V.Files.state start) (g.V.Files.state late) c.args.cat (1408 + 8 * c.args.site.now.slot) 8 same
    (g.V.Files.asks_seen start late same told c.requires.ready.idle) none in
    takes_no_page_on free _ _ _ (takes_no_page_same free _ _ (ap (λ (s : State). s.store) same)) (c.in-Ok-put_entry.ensures.spares (ap (λ (s : State). s.tells) same ∙ told) still)

pub fill-requires-clause-there : goal.fill-requires-clause-there
fill-requires-clause-there g c = free_there c.args.indexes.now c.in-Some.table (sym c.free_table.ensures ∙ c.in-Some.is)
