use Rattle.padded.proofs.Facts.{false_true}
use Rattle.catalog.specs.CatalogFile.{index_in}
use Rattle.space_model.specs.FileNames.{bytes_named, tree_file}
use Rattle.stored_survey.specs.Shown.{keys_mended}
use Rattle.stored_survey.proofs.IndexKeys.{inline_complete, inline_keys, inline_or_table, keys_counted, keys_there, table_complete}
use Rattle.stored_survey.proofs.Seen.{not_ok}
use Rattle.stored_survey.proofs.indexes.has_sound_keys.Goals as goal

pub returns-in-None-clause-complete : goal.returns-in-None-clause-complete
returns-in-None-clause-complete g c = λ told read half sound i at other.
    absurd (keys_there (g.V.Files.state c.args.files.now) c.args.catalog.now read c.args.entry.now i at (rw c.in-None.is at c.keys_of.ensures.none) half sound)

pub returns-then-is_hash_table-clause-complete : goal.returns-then-is_hash_table-clause-complete
returns-then-is_hash_table-clause-complete g c = λ told read half sound i at other.
    let state = g.V.Files.state c.args.files.now in
    let keys = c.in-Some.keys in
    table_complete c.args.entry.now.kind (bytes_named (tree_file i) state.files) (keys_mended state.files (index_in c.args.entry.now)) keys.slots c.are_few.result
    (c.is_hash_table.ensures.0 c.if-is_hash_table.true)
    (keys_counted state c.args.catalog.now read c.args.entry.now i at keys.column keys.slots (rw c.in-Some.is at c.keys_of.ensures.read)) c.are_few.ensures

pub returns-in_ok-broken-in-Some-clause-complete : goal.returns-in_ok-broken-in-Some-clause-complete
returns-in_ok-broken-in-Some-clause-complete g c = λ told read half sound i at other.
    let state = g.V.Files.state c.args.files.now in
    let keys = c.in-Some.keys in
    let kind = inline_or_table c.args.entry.now.kind other (λ table. false_true c.is_hash_table.result c.if-is_hash_table.false (c.is_hash_table.ensures.1 table)) in
    inline_complete c.args.entry.now.kind (bytes_named (tree_file i) state.files) (keys_mended state.files (index_in c.args.entry.now)) _ c.in_ok-broken-in-Some.broken c.is_none.result kind
    (inline_keys state c.args.catalog.now read c.args.entry.now i at keys.column keys.slots (rw c.in-Some.is at c.keys_of.ensures.read) half sound kind)
    (c.in_ok-broken-in-Some.ensures.ordered told) c.is_none.ensures

pub returns-in_err-broken-in-Some-clause-complete : goal.returns-in_err-broken-in-Some-clause-complete
returns-in_err-broken-in-Some-clause-complete g c = λ told read half sound i at other. not_ok _ _ c.from_residual.result c.from_residual.ensures.1
