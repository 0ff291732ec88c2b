-- What is seen to be half done is what is half done.
use Rattle.std.proofs.Common.{◌≡◌, ◌≢◌, ◌⊎◌, inl, inr, ⊎_elim, ℕ, ◌+◌, ◌*◌, ◌/◌, ◌%◌, ◌<◌, ◌≤◌, Bool, true, false, ◌&&◌, List, [], length, take, get_or, Option, Some, None, refl, ap, sym, subst, ◌∙◌, arith}
use Rattle.std.specs.Prelude.{is_some}
use Rattle.std.specs.Str.{bytes_eq}
use Rattle.std.proofs.Math.Nat.{div-add-mod, mul-mod_right}
use Rattle.std.proofs.lemmas.List.{take_all}
use Rattle.std.proofs.lemmas.Slice.Eq.{bytes_eq-Decides}
use Rattle.afl_base.specs.Files.{Table}
use Rattle.catalog.specs.Rules.{is_relation_slot, is_schema, is_tree}
use Rattle.db_model.specs.declared.schemas.Attribute.{Attribute}
use Rattle.db_model.specs.declared.schemas.IndexKind.{IndexKind}
use Rattle.db_model.specs.declared.schemas.IndexKind.TheVariants.{MaxHeap}
use Rattle.db_model.specs.declared.schemas.Schema.{Schema}
use Rattle.db_model.specs.Catalog.{Index, relation_slot_bytes}
use Rattle.db_model.specs.Row.{row_length, rows_bytes, rows_of, slots_in_bytes}
use Rattle.padded.proofs.Facts.{both_parts, both_true, bytes_eq_same, none_some}
use Rattle.space_model.specs.FileNames.{bytes_named, is_there, rows_file, tree_file}
use Rattle.stored.specs.CutTables.{HasMark, HoldsRowsOr, IsHalfDone, IsIndexWhile, IsSlot, index_read, relation, slot_bytes}
use Rattle.stored.specs.Mended.{mended_catalog}
use Rattle.stored.specs.Sound.{IsIndexComplete}
use Rattle.stored.specs.declared.half.Half.{Half}
use Rattle.stored.specs.declared.half.Half.TheVariants.{Nothing, Emptying, Growing, LoneRows, Treeless, LoneTree, AddingRow, AddingKey}
use Rattle.tuple_file.specs.Tuples.{AreRows}
use Rattle.tuple_file.proofs.Written.{length-written}
use Rattle.stored_survey.specs.Shown.{HasTreeOfKeys, IsSettledIndex, IsSettledSlot, LacksSomeKey, Shows, keys_mended}
use Rattle.stored_survey.proofs.Slots.{IsStanding, read_stands, relation_below, stands, stands_as_read, heap_of}

-- ---- marks

nothing_marked : (files : Table) (half : Half) → HasMark files half → HasMark files Nothing
nothing_marked files half (inl form) = inl form
nothing_marked files half (inr (inl part)) = inr (inl (part.0, tt))
nothing_marked files half (inr (inr timed)) = inr (inr (timed.0, refl))

rows_marked : (files : Table) (k : ℕ) → HasMark files (Emptying k) → HasMark files (LoneRows k)
rows_marked files k (inl form) = inl form
rows_marked files k (inr (inl part)) = inr (inl (part.0, tt))
rows_marked files k (inr (inr timed)) = absurd (let n : Emptying k ≡ Nothing = timed.1 in let m : ⊥ = cc in m)

-- ---- slots

free_slot : (half : Half) (v k : ℕ) (slot : List ℕ) → IsSlot half v k slot None → (slot ≡ relation_slot_bytes None) ⊎ (half ≡ Emptying k)
free_slot half v k slot (inl e) = inl ((bytes_eq-Decides slot (relation_slot_bytes None)).0 e)
free_slot half v k slot (inr part) = inr part.0

used_slot : (half : Half) (v k : ℕ) (slot : List ℕ) (s : Schema) → IsSlot half v k slot (Some s) → (slot ≡ relation_slot_bytes (Some s)) ⊎ (half ≡ Growing k)
used_slot half v k slot s (inl e) = inl ((bytes_eq-Decides slot (relation_slot_bytes (Some s))).0 (both_parts (is_schema v s) (bytes_eq slot (relation_slot_bytes (Some s))) e).1)
used_slot half v k slot s (inr part) = inr part.0

schema_of_slot : (half : Half) (v k : ℕ) (slot : List ℕ) (s : Schema) → IsSlot half v k slot (Some s) → is_schema v s ≡ true
schema_of_slot half v k slot s (inl e) = (both_parts (is_schema v s) (bytes_eq slot (relation_slot_bytes (Some s))) e).0
schema_of_slot half v k slot s (inr part) = part.1

-- a slot that is written has its form, whatever is half done
written_slot : (half other : Half) (v k : ℕ) (slot : List ℕ) (o : Option Schema) → slot ≡ relation_slot_bytes o → IsSlot half v k slot o → IsSlot other v k slot o
written_slot half other v k slot None same is = inl (bytes_eq_same slot (relation_slot_bytes None) same)
written_slot half other v k slot (Some s) same is =
    inl (both_true (is_schema v s) (bytes_eq slot (relation_slot_bytes (Some s))) (schema_of_slot half v k slot s is) (bytes_eq_same slot (relation_slot_bytes (Some s)) same))

same_emptying : (k j : ℕ) → Emptying k ≡ Emptying j → k ≡ j
same_emptying k j e = cc

-- a slot that was being emptied, and is, beside rows that are left over
moved_slot : (half : Half) (v k j : ℕ) (slot : List ℕ) (o : Option Schema) → half ≡ Emptying k → (j ≡ k → slot ≡ relation_slot_bytes None) → IsSlot half v j slot o → IsSlot (LoneRows k) v j slot o
moved_slot half v k j slot None e same (inl f) = inl f
moved_slot half v k j slot None e same (inr part) = inl (bytes_eq_same slot (relation_slot_bytes None) (same (sym (same_emptying k j (sym e ∙ part.0)))))
moved_slot half v k j slot (Some s) e same (inl f) = inl f
moved_slot half v k j slot (Some s) e same (inr part) = absurd (let g : Emptying k ≡ Growing j = sym e ∙ part.0 in let n : ⊥ = cc in n)

-- ---- slots that are settled

settled_bytes : (files : Table) (k : ℕ) (o : Option Schema) → IsSettledSlot files k o → slot_bytes files k ≡ relation_slot_bytes o
settled_bytes files k None s = s.0
settled_bytes files k (Some schema) s = s.0

settled_lone : (files : Table) (k : ℕ) (o : Option Schema) → IsSettledSlot files k o → is_there (rows_file k) files ≡ true → is_some o ≡ true
settled_lone files k None s there = let no : false ≡ true = sym s.1 ∙ there in cc
settled_lone files k (Some schema) s there = refl

settled_rows : (files : Table) (k : ℕ) (schema : Schema) (o : Option Schema) → o ≡ Some schema → IsSettledSlot files k o → length (bytes_named (rows_file k) files) % row_length schema.attributes ≡ 0
settled_rows files k schema o e s = (subst (IsSettledSlot files k) e s).1

settled_tree : (files : Table) (i : ℕ) (o : Option Index) → IsSettledIndex files i o → is_tree o ≡ true → is_there (tree_file i) files ≡ true
settled_tree files i None s tree = cc
settled_tree files i (Some index) s tree = (s (heap_of index tree)).0

settled_free : (files : Table) (i : ℕ) (o : Option Index) → IsSettledIndex files i o → o ≡ None → is_there (tree_file i) files ≡ false
settled_free files i o s e = subst (IsSettledIndex files i) e s

settled_keys : (files : Table) (i : ℕ) (index : Index) (o : Option Index) → o ≡ Some index → IsSettledIndex files i o → index.kind ≡ MaxHeap → is_there (rows_file index.relation) files ≡ true → HasTreeOfKeys files i index
settled_keys files i index o e s kind = (subst (IsSettledIndex files i) e s kind).1

-- ---- rows

pub whole_rows : (v : ℕ) (attributes : List Attribute) (bytes : List ℕ) → AreRows v attributes bytes → length bytes % row_length attributes ≡ 0
whole_rows v attributes bytes r =
    let size : length bytes ≡ row_length attributes * slots_in_bytes attributes bytes = sym (ap (λ (xs : List ℕ). length xs) r.whole) ∙ length-written attributes bytes in
    ap (λ (n : ℕ). n % row_length attributes) size ∙ mul-mod_right (row_length attributes) (slots_in_bytes attributes bytes)

pub whole_taken : (attributes : List Attribute) (bytes : List ℕ) → length bytes % row_length attributes ≡ 0 → take (row_length attributes * slots_in_bytes attributes bytes) bytes ≡ bytes
whole_taken attributes bytes none =
    let all = div-add-mod (length bytes) (row_length attributes) in
    take_all (row_length attributes * slots_in_bytes attributes bytes) bytes (omega (arith, all, none))

-- rows are whole, where nothing stands behind them
whole_held : (half other : Half) (v k : ℕ) (attributes : List Attribute) (bytes : List ℕ) → length bytes % row_length attributes ≡ 0 → HoldsRowsOr half v k attributes bytes → HoldsRowsOr other v k attributes bytes
whole_held half other v k attributes bytes none (inl rows) = inl rows
whole_held half other v k attributes bytes none (inr part) = inl (subst (λ (xs : List ℕ). AreRows v attributes xs) (whole_taken attributes bytes none) part.1)

-- ---- what is half done, from what is seen

module _ (files : Table) (half : Half) (h : IsHalfDone files half) where
  emptying : (k : ℕ) → Shows files (Emptying k) → half ≡ Emptying k
  emptying k (below, none, differs) = ⊎_elim
      (λ (same : slot_bytes files k ≡ relation_slot_bytes None). absurd (differs same))
      (λ (e : half ≡ Emptying k). e)
      (free_slot half (mended_catalog files).version k (slot_bytes files k) (subst (λ (o : Option Schema). IsSlot half (mended_catalog files).version k (slot_bytes files k) o) none (h.slots k below)))

  growing : (k : ℕ) → Shows files (Growing k) → half ≡ Growing k
  growing k (below, schema, is, differs) = ⊎_elim
      (λ (same : slot_bytes files k ≡ relation_slot_bytes (Some schema)). absurd (differs same))
      (λ (e : half ≡ Growing k). e)
      (used_slot half (mended_catalog files).version k (slot_bytes files k) schema (subst (λ (o : Option Schema). IsSlot half (mended_catalog files).version k (slot_bytes files k) o) is (h.slots k below)))

  adding_row : (k : ℕ) → Shows files (AddingRow k) → half ≡ AddingRow k
  adding_row k (below, schema, is, differs) = ⊎_elim
      (λ (rows : AreRows (mended_catalog files).version schema.attributes (bytes_named (rows_file k) files)). absurd (differs (whole_rows (mended_catalog files).version schema.attributes (bytes_named (rows_file k) files) rows)))
      (λ part. part.0)
      (h.rows k schema is)

  treeless : (i : ℕ) → Shows files (Treeless i) → half ≡ Treeless i
  treeless i (below, tree, gone) = ⊎_elim
      (λ (there : is_there (tree_file i) files ≡ true). absurd (let no : false ≡ true = sym gone ∙ there in let n : ⊥ = cc in n))
      (λ (e : half ≡ Treeless i). e)
      (h.tree_there i below tree)

  lone_tree : (i : ℕ) → Shows files (LoneTree i) → half ≡ LoneTree i
  lone_tree i (below, none, there) = ⊎_elim
      (λ (tree : is_tree (index_read files i) ≡ true). absurd (let no : false ≡ true = sym (ap is_tree none) ∙ tree in let n : ⊥ = cc in n))
      (λ part. part.0)
      (h.tree_lone i below there)

  -- the rows of an index's relation are there
  rows_under : (i : ℕ) (index : Index) → i < 8 → index_read files i ≡ Some index → is_there (rows_file index.relation) files ≡ true
  rows_under i index below e =
      let on = stands files i index below e (h.indexes i below) in
      h.rows_there index.relation on.below (inl (ap is_some on.relation_is))

  complete_tree : (index : Index) (bytes : List ℕ) (i : ℕ) → index.kind ≡ MaxHeap → bytes ≡ bytes_named (tree_file i) files → IsIndexComplete index.kind bytes (keys_mended files index) → HasTreeOfKeys files i index
  complete_tree index bytes i kind is complete =
      subst (λ (xs : List ℕ). IsIndexComplete MaxHeap xs (keys_mended files index)) is (subst (λ (one : IndexKind). IsIndexComplete one bytes (keys_mended files index)) kind complete)

  adding_key : (r : ℕ) → LacksSomeKey files r → half ≡ AddingKey r
  adding_key r lacks = ⊎_elim
      (λ (complete : IsIndexComplete lacks.index.kind (bytes_named (tree_file lacks.i) files) (keys_mended files lacks.index)).
      absurd (lacks.lacks (subst (λ (n : ℕ). is_there (rows_file n) files ≡ true) lacks.on (rows_under lacks.i lacks.index lacks.below lacks.stands))
      (complete_tree lacks.index (bytes_named (tree_file lacks.i) files) lacks.i lacks.kind refl complete)))
      (λ part. part.1 ∙ ap (λ (n : ℕ). AddingKey n) lacks.on)
      (h.keys lacks.i lacks.index (read_stands files lacks.i lacks.index lacks.below lacks.stands (λ tree. lacks.there)))

  -- rows that are left over where a slot was emptied, all of it
  emptied : (k : ℕ) → half ≡ Emptying k → slot_bytes files k ≡ relation_slot_bytes None → IsHalfDone files (LoneRows k)
  emptied k e same = record {
    whole = h.whole;
    mark = rows_marked files k (subst (HasMark files) e h.mark);
    slots = λ j inside. moved_slot half (mended_catalog files).version k j (slot_bytes files j) (relation files j) e
        (λ (at : j ≡ k). subst (λ (n : ℕ). slot_bytes files n ≡ relation_slot_bytes None) (sym at) same) (h.slots j inside);
    named_once = h.named_once;
    indexes = h.indexes;
    rows_there = λ j inside. ⊎_elim
        (λ (used : is_some (relation files j) ≡ true). h.rows_there j inside (inl used))
        (λ (f : LoneRows k ≡ Emptying j). absurd (let n : ⊥ = cc in n));
    rows_lone = λ j inside there. ⊎_elim
        (λ (used : is_some (relation files j) ≡ true). inl used)
        (λ either. ⊎_elim
        (λ (f : half ≡ LoneRows j). absurd (let g : Emptying k ≡ LoneRows j = sym e ∙ f in let n : ⊥ = cc in n))
        (λ (f : half ≡ Emptying j). inr (inl (ap (λ (n : ℕ). LoneRows n) (same_emptying k j (sym e ∙ f)))))
        either)
        (h.rows_lone j inside there);
    tree_there = λ i inside tree. ⊎_elim
        (λ (there : is_there (tree_file i) files ≡ true). inl there)
        (λ (f : half ≡ Treeless i). absurd (let g : Emptying k ≡ Treeless i = sym e ∙ f in let n : ⊥ = cc in n))
        (h.tree_there i inside tree);
    tree_lone = λ i inside there. ⊎_elim
        (λ (tree : is_tree (index_read files i) ≡ true). inl tree)
        (λ part. absurd (let g : Emptying k ≡ LoneTree i = sym e ∙ part.0 in let n : ⊥ = cc in n))
        (h.tree_lone i inside there);
    grown = λ j f. absurd (let n : ⊥ = cc in n);
    rows = λ j schema is. ⊎_elim
        (λ (rows : AreRows (mended_catalog files).version schema.attributes (bytes_named (rows_file j) files)). inl rows)
        (λ part. absurd (let g : Emptying k ≡ AddingRow j = sym e ∙ part.0 in let n : ⊥ = cc in n))
        (h.rows j schema is);
    keys = λ i index is. ⊎_elim
        (λ (complete : IsIndexComplete index.kind (bytes_named (tree_file i) files) (keys_mended files index)). inl complete)
        (λ part. absurd (let g : Emptying k ≡ AddingKey index.relation = sym e ∙ part.1 in let n : ⊥ = cc in n))
        (h.keys i index is);
  }

  lone_rows : (k : ℕ) → Shows files (LoneRows k) → IsHalfDone files (LoneRows k)
  lone_rows k (below, none, same, there) = ⊎_elim
      (λ (used : is_some (relation files k) ≡ true). absurd (let no : false ≡ true = sym (ap is_some none) ∙ used in let n : ⊥ = cc in n))
      (λ either. ⊎_elim
      (λ (e : half ≡ LoneRows k). subst (IsHalfDone files) e h)
      (λ (e : half ≡ Emptying k). emptied k e same)
      either)
      (h.rows_lone k below there)

  -- nothing, where all slots are settled
  settled : ((k : ℕ) → k < 8 → IsSettledSlot files k (relation files k)) → ((i : ℕ) → i < 8 → IsSettledIndex files i (index_read files i)) → IsHalfDone files Nothing
  settled slots trees = record {
    whole = h.whole;
    mark = nothing_marked files half h.mark;
    slots = λ k below. written_slot half Nothing (mended_catalog files).version k (slot_bytes files k) (relation files k) (settled_bytes files k (relation files k) (slots k below)) (h.slots k below);
    named_once = h.named_once;
    indexes = h.indexes;
    rows_there = λ k below. ⊎_elim
        (λ (used : is_some (relation files k) ≡ true). h.rows_there k below (inl used))
        (λ (f : Nothing ≡ Emptying k). absurd (let n : ⊥ = cc in n));
    rows_lone = λ k below there. inl (settled_lone files k (relation files k) (slots k below) there);
    tree_there = λ i below tree. inl (settled_tree files i (index_read files i) (trees i below) tree);
    tree_lone = λ i below there. ⊎_elim
        (λ (tree : is_tree (index_read files i) ≡ true). inl tree)
        (λ part. absurd (let gone = settled_free files i (index_read files i) (trees i below) part.1 in let no : false ≡ true = sym gone ∙ there in let n : ⊥ = cc in n))
        (h.tree_lone i below there);
    grown = λ k f. absurd (let n : ⊥ = cc in n);
    rows = λ k schema is.
        whole_held half Nothing (mended_catalog files).version k schema.attributes (bytes_named (rows_file k) files)
        (settled_rows files k schema (relation files k) is (slots k (relation_below files k schema is))) (h.rows k schema is);
    keys = λ i index is. ⊎_elim
        (λ (complete : IsIndexComplete index.kind (bytes_named (tree_file i) files) (keys_mended files index)). inl complete)
        (λ part.
        let stands_here = stands_as_read files i index is in
        let tree = settled_keys files i index (index_read files i) stands_here.read (trees i stands_here.below) part.0 in
        inl (subst (λ (kind : IndexKind). IsIndexComplete kind (bytes_named (tree_file i) files) (keys_mended files index)) (sym part.0) (tree (rows_under i index stands_here.below stands_here.read))))
        (h.keys i index is);
  }

-- what is seen to be half done is what is
pub shown_is_done : (files : Table) (half found : Half) → IsHalfDone files half → Shows files found → IsHalfDone files found
shown_is_done files half Nothing h (slots, trees) = settled files half h slots trees
shown_is_done files half (Emptying k) h s = subst (IsHalfDone files) (emptying files half h k s) h
shown_is_done files half (Growing k) h s = subst (IsHalfDone files) (growing files half h k s) h
shown_is_done files half (LoneRows k) h s = lone_rows files half h k s
shown_is_done files half (Treeless i) h s = subst (IsHalfDone files) (treeless files half h i s) h
shown_is_done files half (LoneTree i) h s = subst (IsHalfDone files) (lone_tree files half h i s) h
shown_is_done files half (AddingRow k) h s = subst (IsHalfDone files) (adding_row files half h k s) h
shown_is_done files half (AddingKey r) h s = subst (IsHalfDone files) (adding_key files half h r s) h
