use Rattle.std.proofs.Common.{◌≢◌, Some, None}
use Rattle.db_model.specs.declared.schemas.IndexKind.TheVariants.{MaxHeap}
use Rattle.catalog.specs.CatalogFile.{index_in}
use Rattle.padded.proofs.Facts.{false_true}
use Rattle.stored_mend.proofs.HeapKeys.{keys_are, keys_found, narrow_column}
use Rattle.stored_mend.proofs.HeapSettled.{entry_here, none_keeps, other_keeps, slot_of_entry}
use Rattle.stored_mend.proofs.trees.keys_of_tree.Goals as goal

pub returns-in_default-clause-none : goal.returns-in_default-clause-none
returns-in_default-clause-none g c = λ h s.
    none_keeps (g.V.Files.state c.args.files.now).files c.args.catalog.now c.args.id h
    (entry_here c.args.catalog.now.indexes c.number.result c.args.id _ None c.requires.indexes c.number.ensures.value c.number.ensures.below c.in_default.is)

pub returns-then-not-is_heap-clause-none : goal.returns-then-not-is_heap-clause-none
returns-then-not-is_heap-clause-none g c = λ h s.
    let other : c.in-Some.entry.kind ≢ MaxHeap = λ kind. false_true c.is_heap.result c.if-not-is_heap.true (c.is_heap.ensures.1 kind) in
    other_keeps (g.V.Files.state c.args.files.now).files c.args.catalog.now c.args.id h c.in-Some.entry
    (entry_here c.args.catalog.now.indexes c.number.result c.args.id _ (Some c.in-Some.entry) c.requires.indexes c.number.ensures.value c.number.ensures.below c.in-Some.is) other s

pub returns-in_default-keys_of-clause-none : goal.returns-in_default-keys_of-clause-none
returns-in_default-keys_of-clause-none g c = λ h s.
    let state = g.V.Files.state c.args.files.now in
    let entry = c.in-Some.entry in
    let here = entry_here c.args.catalog.now.indexes c.number.result c.args.id _ (Some entry) c.requires.indexes c.number.ensures.value c.number.ensures.below c.in-Some.is in
    absurd (keys_found state c.args.catalog.now entry c.args.id s h.relations (slot_of_entry state.files c.args.catalog.now c.args.id h (Some entry) here)
    (rw c.in_default-keys_of.is at c.keys_of.ensures.none))

pub returns-then-keys-eq8-clause-none : goal.returns-then-keys-eq8-clause-none
returns-then-keys-eq8-clause-none g c = λ h s.
    let state = g.V.Files.state c.args.files.now in
    let entry = c.in-Some.entry in
    let kind = c.is_heap.ensures.0 c.if-not-is_heap.false in
    let here = entry_here c.args.catalog.now.indexes c.number.result c.args.id _ (Some entry) c.requires.indexes c.number.ensures.value c.number.ensures.below c.in-Some.is in
    let keys = c.in-Some-keys_of.keys in
    absurd (narrow_column state c.args.catalog.now entry c.args.id s h.relations (slot_of_entry state.files c.args.catalog.now c.args.id h (Some entry) here)
    keys.column keys.slots (rw c.in-Some-keys_of.is at c.keys_of.ensures.read) kind c.if-keys-eq8.true)

pub returns-clause-read : goal.returns-clause-read
returns-clause-read g c = λ h s.
    let state = g.V.Files.state c.args.files.now in
    let entry = c.in-Some.entry in
    let kind = c.is_heap.ensures.0 c.if-not-is_heap.false in
    let here = entry_here c.args.catalog.now.indexes c.number.result c.args.id _ (Some entry) c.requires.indexes c.number.ensures.value c.number.ensures.below c.in-Some.is in
    let stands = slot_of_entry state.files c.args.catalog.now c.args.id h (Some entry) here in
    let keys = c.in-Some-keys_of.keys in
    record {
      index = index_in entry;
      stands = stands;
      kind = kind;
      same = keys_are state c.args.catalog.now entry c.args.id s h.relations stands keys.column keys.slots (rw c.in-Some-keys_of.is at c.keys_of.ensures.read) kind;
    }
