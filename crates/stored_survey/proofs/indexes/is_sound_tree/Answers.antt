use Rattle.std.proofs.Common.{◌≡◌, ◌∙◌, ◌<◌, ℕ, ℤ, List, ap, arith, length, refl, subst, sym}
use Rattle.padded.proofs.Facts.{false_true}
use Rattle.afl_base.specs.Files.{bytes_at}
use Rattle.catalog.specs.CatalogFile.{index_in}
use Rattle.stored.specs.declared.half.Half.TheVariants.{AddingKey}
use Rattle.stored_survey.specs.Shown.{keys_mended}
use Rattle.stored_survey.proofs.IndexKeys.{keys_counted, keys_there, named_while, rows_under, while_named, whole_while}
use Rattle.stored_survey.proofs.Seen.{accepted, carried, not_ok, refused}
use Rattle.stored_survey.proofs.indexes.is_sound_tree.Goals as goal

pub returns-then-whole-clause-sound : goal.returns-then-whole-clause-sound
returns-then-whole-clause-sound g c = λ told read sound i at kind.
    let state = g.V.Files.state c.args.files.now in
    let index = index_in c.args.entry.now in
    let there = rows_under state c.args.catalog.now read c.args.entry.now i at c.args.half.now sound in
    let whole = c.in_ok-whole.ensures.whole told read i at kind there in
    accepted (whole_while c.args.half.now index (bytes_at state.files c.args.tree) (keys_mended state.files index) kind (whole.0 c.if-whole.true))

pub returns-then-not-is_adding_key-clause-sound : goal.returns-then-not-is_adding_key-clause-sound
returns-then-not-is_adding_key-clause-sound g c = λ told read sound i at kind.
    let state = g.V.Files.state c.args.files.now in
    let index = index_in c.args.entry.now in
    let there = rows_under state c.args.catalog.now read c.args.entry.now i at c.args.half.now sound in
    let whole = c.in_ok-whole.ensures.whole told read i at kind there in
    refused (λ while.
    let named = while_named c.args.half.now index (bytes_at state.files c.args.tree) (keys_mended state.files index) (length (keys_mended state.files index)) kind (λ tree. false_true c.in_ok-whole.whole c.if-whole.false (whole.1 tree)) refl while in
    false_true c.is_adding_key.result c.if-not-is_adding_key.true (c.is_adding_key.ensures.1 (named.adding ∙ ap (λ (n : ℕ). AddingKey n) (sym c.number.ensures.value))))

pub returns-in-None-clause-sound : goal.returns-in-None-clause-sound
returns-in-None-clause-sound g c = λ told read sound i at kind.
    absurd (keys_there (g.V.Files.state c.args.files.now) c.args.catalog.now read c.args.entry.now i at (rw (c.in_ok-whole.ensures.frame.same, c.in-None.is) at c.keys_of.ensures.none) c.args.half.now sound)

pub returns-then-keys-eq0-clause-sound : goal.returns-then-keys-eq0-clause-sound
returns-then-keys-eq0-clause-sound g c = λ told read sound i at kind.
    let state = g.V.Files.state c.args.files.now in
    let index = index_in c.args.entry.now in
    let there = rows_under state c.args.catalog.now read c.args.entry.now i at c.args.half.now sound in
    let whole = c.in_ok-whole.ensures.whole told read i at kind there in
    let keys = c.in-Some.keys in
    let count = keys_counted state c.args.catalog.now read c.args.entry.now i at keys.column keys.slots (rw (c.in_ok-whole.ensures.frame.same, c.in-Some.is) at c.keys_of.ensures.read) in
    refused (λ while.
    let named = while_named c.args.half.now index (bytes_at state.files c.args.tree) (keys_mended state.files index) keys.slots kind (λ tree. false_true c.in_ok-whole.whole c.if-whole.false (whole.1 tree)) count while in
    let some = named.some in
    omega (arith, some, c.if-keys-eq0.true))

pub returns-in_ok-only-in-Some-clause-sound : goal.returns-in_ok-only-in-Some-clause-sound
returns-in_ok-only-in-Some-clause-sound g c = λ told read sound i at kind.
    let state = g.V.Files.state c.args.files.now in
    let index = index_in c.args.entry.now in
    let there = rows_under state c.args.catalog.now read c.args.entry.now i at c.args.half.now sound in
    let whole = c.in_ok-whole.ensures.whole told read i at kind there in
    let keys = c.in-Some.keys in
    let count = keys_counted state c.args.catalog.now read c.args.entry.now i at keys.column keys.slots (rw (c.in_ok-whole.ensures.frame.same, c.in-Some.is) at c.keys_of.ensures.read) in
    let adding = c.is_adding_key.ensures.0 c.if-not-is_adding_key.false ∙ ap (λ (n : ℕ). AddingKey n) c.number.ensures.value in
    carried c.in_ok-only-in-Some.only ((rw c.in_ok-whole.ensures.frame.same at c.in_ok-only-in-Some.ensures.only) told)
    (λ only. named_while c.args.half.now index (bytes_at state.files c.args.tree) (keys_mended state.files index) keys.slots kind count
    (record { adding = adding; some = omega (arith, c.if-keys-eq0.false); named = only }))
    (λ while. (while_named c.args.half.now index (bytes_at state.files c.args.tree) (keys_mended state.files index) keys.slots kind (λ tree. false_true c.in_ok-whole.whole c.if-whole.false (whole.1 tree)) count while).named)

pub returns-in_err-whole-clause-sound : goal.returns-in_err-whole-clause-sound
returns-in_err-whole-clause-sound g c = λ told read sound i at kind. not_ok _ _ c.from_residual.result c.from_residual.ensures.1

pub returns-in_err-only-in-Some-clause-sound : goal.returns-in_err-only-in-Some-clause-sound
returns-in_err-only-in-Some-clause-sound g c = λ told read sound i at kind. not_ok _ _ c.from_residual-in_err-only-in-Some.result c.from_residual-in_err-only-in-Some.ensures.1
