-- What was half done in a slot is done there, or only a part of it is left.
use Rattle.std.proofs.Common.{◌≡◌, ◌≢◌, ◌⊎◌, inl, inr, ⊎_elim, ℕ, ◌+◌, ◌<◌, ◌≤◌, true, List, Option, Some, None, ap, sym, subst, arith}
use Rattle.std.specs.Prelude.{is_some}
use Rattle.std.proofs.lemmas.Bool.{cases_eq}
use Rattle.afl_base.specs.Files.{Table}
use Rattle.catalog.specs.Rules.{is_relation_slot, is_tree}
use Rattle.db_model.specs.declared.schemas.Schema.{Schema}
use Rattle.space_model.specs.FileNames.{is_there, rows_file, tree_file}
use Rattle.stored.specs.CutTables.{HasMark, IsBehindSlot, IsHalfDone, IsMarkedInPart, IsSlot, IsTimed, index_read, relation, slot_bytes}
use Rattle.stored.specs.Mended.{mended_catalog}
use Rattle.stored.specs.declared.half.Half.{Half}
use Rattle.stored.specs.declared.half.Half.TheVariants.{Nothing, Emptying, Growing, LoneRows, Treeless, LoneTree, AddingRow, AddingKey}
use Rattle.stored_mend.specs.Listed.{IsBeyond, IsDoneTo, IsMarkedTo, Reach, indexes_below, relations_below, rows_below, trees_below}

abbrev pub IsWritten : Table → ℕ → Type 0
IsWritten files k = is_relation_slot (mended_catalog files).version (slot_bytes files k) (relation files k) ≡ true

-- a slot that is written is so whatever is half done
pub written_slot : (half : Half) (version k : ℕ) (slot : List ℕ) (o : Option Schema) → is_relation_slot version slot o ≡ true → IsSlot half version k slot o
written_slot half version k slot None e = inl e
written_slot half version k slot (Some schema) e = inl e

slot_settled : (half after : Half) (version k : ℕ) (slot : List ℕ) (o : Option Schema) → IsSlot half version k slot o → ((half ≡ Emptying k) ⊎ (half ≡ Growing k) → is_relation_slot version slot o ≡ true) → IsSlot after version k slot o
slot_settled half after version k slot None (inl e) written = inl e
slot_settled half after version k slot None (inr part) written = inl (written (inl part.0))
slot_settled half after version k slot (Some schema) (inl e) written = inl e
slot_settled half after version k slot (Some schema) (inr part) written = inl (written (inr part.0))

-- what follows is half done in place of what was
pub record Follows (files : Table) (half after : Half) : Type 0 where
  pub behind : IsBehindSlot after
  pub some : half ≡ Nothing → ⊥
  pub written : (k : ℕ) → k < 8 → (half ≡ Emptying k) ⊎ (half ≡ Growing k) → IsWritten files k
  pub no_emptying : (k : ℕ) → after ≡ Emptying k → ⊥
  pub no_growing : (k : ℕ) → after ≡ Growing k → ⊥
  pub lone : (k : ℕ) → k < 8 → is_there (rows_file k) files ≡ true → (half ≡ LoneRows k) ⊎ (half ≡ Emptying k) → (is_some (relation files k) ≡ true) ⊎ (after ≡ LoneRows k)
  pub tree : (i : ℕ) → i < 8 → is_tree (index_read files i) ≡ true → half ≡ Treeless i → is_there (tree_file i) files ≡ true
  pub lone_tree : (i : ℕ) → i < 8 → is_there (tree_file i) files ≡ true → half ≡ LoneTree i → is_tree (index_read files i) ≡ true
  pub no_row : (k : ℕ) → half ≡ AddingRow k → ⊥
  pub no_key : (k : ℕ) → half ≡ AddingKey k → ⊥

module _ (files : Table) (half after : Half) (h : IsHalfDone files half) (f : Follows files half after) where
  mark_after : HasMark files after
  mark_after = ⊎_elim
      (λ marked. inl marked)
      (λ rest. inr (⊎_elim
      (λ (part : IsMarkedInPart _ × IsBehindSlot half). inl (part.0, f.behind))
      (λ (timed : IsTimed files × (half ≡ Nothing)). absurd (f.some timed.1))
      rest))
      h.mark

  pub follows : IsHalfDone files after
  follows = record {
    whole = h.whole;
    mark = mark_after;
    slots = λ k below. slot_settled half after (mended_catalog files).version k (slot_bytes files k) (relation files k) (h.slots k below) (f.written k below);
    named_once = h.named_once;
    indexes = h.indexes;
    rows_there = λ k below e. ⊎_elim
        (λ (used : is_some (relation files k) ≡ true). h.rows_there k below (inl used))
        (λ (emptying : after ≡ Emptying k). absurd (f.no_emptying k emptying))
        e;
    rows_lone = λ k below there. ⊎_elim
        (λ (used : is_some (relation files k) ≡ true). inl used)
        (λ (lone : (half ≡ LoneRows k) ⊎ (half ≡ Emptying k)). ⊎_elim
        (λ (used : is_some (relation files k) ≡ true). inl used)
        (λ (e : after ≡ LoneRows k). inr (inl e))
        (f.lone k below there lone))
        (h.rows_lone k below there);
    tree_there = λ i below tree. ⊎_elim
        (λ (there : is_there (tree_file i) files ≡ true). inl there)
        (λ (treeless : half ≡ Treeless i). inl (f.tree i below tree treeless))
        (h.tree_there i below tree);
    tree_lone = λ i below there. ⊎_elim
        (λ (tree : is_tree (index_read files i) ≡ true). inl tree)
        (λ (lone : (half ≡ LoneTree i) × (index_read files i ≡ None)). inl (f.lone_tree i below there lone.0))
        (h.tree_lone i below there);
    grown = λ k e. absurd (f.no_growing k e);
    rows = λ k schema is. ⊎_elim
        (λ whole. inl whole)
        (λ part. absurd (f.no_row k part.0))
        (h.rows k schema is);
    keys = λ i index is. ⊎_elim
        (λ complete. inl complete)
        (λ part. absurd (f.no_key index.relation part.1))
        (h.keys i index is);
  }

-- ---- slot by slot

module _ (files : Table) where
  emptied_follows : (slot : ℕ) → IsWritten files slot → Follows files (Emptying slot) (LoneRows slot)
  emptied_follows slot written = record {
    behind = tt;
    some = λ e. cc;
    written = λ k below e. ⊎_elim
        (λ (emptying : Emptying slot ≡ Emptying k). let same : slot ≡ k = cc in subst (IsWritten files) same written)
        (λ (growing : Emptying slot ≡ Growing k). absurd (let n : ⊥ = cc in n))
        e;
    no_emptying = λ k e. cc;
    no_growing = λ k e. cc;
    lone = λ k below there e. ⊎_elim
        (λ (lone : Emptying slot ≡ LoneRows k). absurd (let n : ⊥ = cc in n))
        (λ (emptying : Emptying slot ≡ Emptying k). let same : slot ≡ k = cc in inr (ap LoneRows same))
        e;
    tree = λ i below tree e. absurd (let n : ⊥ = cc in n);
    lone_tree = λ i below there e. absurd (let n : ⊥ = cc in n);
    no_row = λ k e. cc;
    no_key = λ k e. cc;
  }

  grown_follows : (slot : ℕ) → IsWritten files slot → Follows files (Growing slot) Nothing
  grown_follows slot written = record {
    behind = tt;
    some = λ e. cc;
    written = λ k below e. ⊎_elim
        (λ (emptying : Growing slot ≡ Emptying k). absurd (let n : ⊥ = cc in n))
        (λ (growing : Growing slot ≡ Growing k). let same : slot ≡ k = cc in subst (IsWritten files) same written)
        e;
    no_emptying = λ k e. cc;
    no_growing = λ k e. cc;
    lone = λ k below there e. ⊎_elim
        (λ (lone : Growing slot ≡ LoneRows k). absurd (let n : ⊥ = cc in n))
        (λ (emptying : Growing slot ≡ Emptying k). absurd (let n : ⊥ = cc in n))
        e;
    tree = λ i below tree e. absurd (let n : ⊥ = cc in n);
    lone_tree = λ i below there e. absurd (let n : ⊥ = cc in n);
    no_row = λ k e. cc;
    no_key = λ k e. cc;
  }

  treeless_follows : (slot : ℕ) → (is_tree (index_read files slot) ≡ true → is_there (tree_file slot) files ≡ true) → Follows files (Treeless slot) Nothing
  treeless_follows slot has = record {
    behind = tt;
    some = λ e. cc;
    written = λ k below e. ⊎_elim (λ (emptying : Treeless slot ≡ Emptying k). absurd (let n : ⊥ = cc in n)) (λ (growing : Treeless slot ≡ Growing k). absurd (let n : ⊥ = cc in n)) e;
    no_emptying = λ k e. cc;
    no_growing = λ k e. cc;
    lone = λ k below there e. ⊎_elim
        (λ (lone : Treeless slot ≡ LoneRows k). absurd (let n : ⊥ = cc in n))
        (λ (emptying : Treeless slot ≡ Emptying k). absurd (let n : ⊥ = cc in n))
        e;
    tree = λ i below tree e.
        let same : slot ≡ i = cc in
        subst (λ (j : ℕ). is_there (tree_file j) files ≡ true) same (has (subst (λ (j : ℕ). is_tree (index_read files j) ≡ true) (sym same) tree));
    lone_tree = λ i below there e. absurd (let n : ⊥ = cc in n);
    no_row = λ k e. cc;
    no_key = λ k e. cc;
  }

  rows_follow : (slot : ℕ) → (is_there (rows_file slot) files ≡ true → is_some (relation files slot) ≡ true) → Follows files (LoneRows slot) Nothing
  rows_follow slot used = record {
    behind = tt;
    some = λ e. cc;
    written = λ k below e. ⊎_elim (λ (emptying : LoneRows slot ≡ Emptying k). absurd (let n : ⊥ = cc in n)) (λ (growing : LoneRows slot ≡ Growing k). absurd (let n : ⊥ = cc in n)) e;
    no_emptying = λ k e. cc;
    no_growing = λ k e. cc;
    lone = λ k below there e. ⊎_elim
        (λ (lone : LoneRows slot ≡ LoneRows k).
        let same : slot ≡ k = cc in
        inl (subst (λ (j : ℕ). is_some (relation files j) ≡ true) same (used (subst (λ (j : ℕ). is_there (rows_file j) files ≡ true) (sym same) there))))
        (λ (emptying : LoneRows slot ≡ Emptying k). absurd (let n : ⊥ = cc in n))
        e;
    tree = λ i below tree e. absurd (let n : ⊥ = cc in n);
    lone_tree = λ i below there e. absurd (let n : ⊥ = cc in n);
    no_row = λ k e. cc;
    no_key = λ k e. cc;
  }

  tree_follows : (slot : ℕ) → (is_there (tree_file slot) files ≡ true → is_tree (index_read files slot) ≡ true) → Follows files (LoneTree slot) Nothing
  tree_follows slot listed = record {
    behind = tt;
    some = λ e. cc;
    written = λ k below e. ⊎_elim (λ (emptying : LoneTree slot ≡ Emptying k). absurd (let n : ⊥ = cc in n)) (λ (growing : LoneTree slot ≡ Growing k). absurd (let n : ⊥ = cc in n)) e;
    no_emptying = λ k e. cc;
    no_growing = λ k e. cc;
    lone = λ k below there e. ⊎_elim
        (λ (lone : LoneTree slot ≡ LoneRows k). absurd (let n : ⊥ = cc in n))
        (λ (emptying : LoneTree slot ≡ Emptying k). absurd (let n : ⊥ = cc in n))
        e;
    tree = λ i below tree e. absurd (let n : ⊥ = cc in n);
    lone_tree = λ i below there e.
        let same : slot ≡ i = cc in
        subst (λ (j : ℕ). is_tree (index_read files j) ≡ true) same (listed (subst (λ (j : ℕ). is_there (tree_file j) files ≡ true) (sym same) there));
    no_row = λ k e. cc;
    no_key = λ k e. cc;
  }

  -- ---- one slot more

  abbrev pub Comes : Reach → Type 0
  Comes reach = (after : Half) × IsDoneTo reach files after

  further : (slot j : ℕ) → slot ≤ j → j ≢ slot → slot + 1 ≤ j
  further slot j reached differs = omega (arith, reached, differs)

  pub relation_settled : (slot : ℕ) → IsWritten files slot → IsMarkedTo files (slot + 1) → (half : Half) → IsHalfDone files half → IsBeyond (relations_below slot) half → Comes (relations_below (slot + 1))
  relation_settled slot written mark (Emptying j) h ahead = ⊎_elim
      (λ (same : j ≡ slot). (
        LoneRows slot,
        record {
          done = follows files (Emptying slot) (LoneRows slot) (subst (λ (k : ℕ). IsHalfDone files (Emptying k)) same h) (emptied_follows slot written);
          ahead = omega arith;
          mark = mark;
        },
      ))
      (λ (differs : j ≢ slot). (Emptying j, record { done = h; ahead = further slot j ahead differs; mark = mark }))
      (cases_eq j slot)
  relation_settled slot written mark (Growing j) h ahead = ⊎_elim
      (λ (same : j ≡ slot). (
        Nothing,
        record {
          done = follows files (Growing slot) Nothing (subst (λ (k : ℕ). IsHalfDone files (Growing k)) same h) (grown_follows slot written);
          ahead = tt;
          mark = mark;
        },
      ))
      (λ (differs : j ≢ slot). (Growing j, record { done = h; ahead = further slot j ahead differs; mark = mark }))
      (cases_eq j slot)
  relation_settled slot written mark (Treeless j) h ahead = (Treeless j, record { done = h; ahead = ahead; mark = mark })
  relation_settled slot written mark (LoneRows j) h ahead = (LoneRows j, record { done = h; ahead = ahead; mark = mark })
  relation_settled slot written mark (LoneTree j) h ahead = (LoneTree j, record { done = h; ahead = ahead; mark = mark })
  relation_settled slot written mark Nothing h ahead = (Nothing, record { done = h; ahead = tt; mark = mark })
  relation_settled slot written mark (AddingRow j) h ahead = (AddingRow j, record { done = h; ahead = tt; mark = mark })
  relation_settled slot written mark (AddingKey j) h ahead = (AddingKey j, record { done = h; ahead = tt; mark = mark })

  pub index_settled : (slot : ℕ) → (is_tree (index_read files slot) ≡ true → is_there (tree_file slot) files ≡ true) → (half : Half) → IsDoneTo (indexes_below slot) files half → Comes (indexes_below (slot + 1))
  index_settled slot has (Treeless j) d = ⊎_elim
      (λ (same : j ≡ slot). (
        Nothing,
        record {
          done = follows files (Treeless slot) Nothing (subst (λ (k : ℕ). IsHalfDone files (Treeless k)) same d.done) (treeless_follows slot has);
          ahead = tt;
          mark = d.mark;
        },
      ))
      (λ (differs : j ≢ slot). (Treeless j, record { done = d.done; ahead = further slot j d.ahead differs; mark = d.mark }))
      (cases_eq j slot)
  index_settled slot has (Emptying j) d = (Emptying j, record { done = d.done; ahead = d.ahead; mark = d.mark })
  index_settled slot has (Growing j) d = (Growing j, record { done = d.done; ahead = d.ahead; mark = d.mark })
  index_settled slot has (LoneRows j) d = (LoneRows j, record { done = d.done; ahead = d.ahead; mark = d.mark })
  index_settled slot has (LoneTree j) d = (LoneTree j, record { done = d.done; ahead = d.ahead; mark = d.mark })
  index_settled slot has Nothing d = (Nothing, record { done = d.done; ahead = tt; mark = d.mark })
  index_settled slot has (AddingRow j) d = (AddingRow j, record { done = d.done; ahead = tt; mark = d.mark })
  index_settled slot has (AddingKey j) d = (AddingKey j, record { done = d.done; ahead = tt; mark = d.mark })

  pub rows_settled : (slot : ℕ) → (is_there (rows_file slot) files ≡ true → is_some (relation files slot) ≡ true) → (half : Half) → IsDoneTo (rows_below slot) files half → Comes (rows_below (slot + 1))
  rows_settled slot used (LoneRows j) d = ⊎_elim
      (λ (same : j ≡ slot). (
        Nothing,
        record {
          done = follows files (LoneRows slot) Nothing (subst (λ (k : ℕ). IsHalfDone files (LoneRows k)) same d.done) (rows_follow slot used);
          ahead = tt;
          mark = d.mark;
        },
      ))
      (λ (differs : j ≢ slot). (LoneRows j, record { done = d.done; ahead = further slot j d.ahead differs; mark = d.mark }))
      (cases_eq j slot)
  rows_settled slot used (Emptying j) d = (Emptying j, record { done = d.done; ahead = d.ahead; mark = d.mark })
  rows_settled slot used (Growing j) d = (Growing j, record { done = d.done; ahead = d.ahead; mark = d.mark })
  rows_settled slot used (Treeless j) d = (Treeless j, record { done = d.done; ahead = d.ahead; mark = d.mark })
  rows_settled slot used (LoneTree j) d = (LoneTree j, record { done = d.done; ahead = d.ahead; mark = d.mark })
  rows_settled slot used Nothing d = (Nothing, record { done = d.done; ahead = tt; mark = d.mark })
  rows_settled slot used (AddingRow j) d = (AddingRow j, record { done = d.done; ahead = tt; mark = d.mark })
  rows_settled slot used (AddingKey j) d = (AddingKey j, record { done = d.done; ahead = tt; mark = d.mark })

  pub tree_settled : (slot : ℕ) → (is_there (tree_file slot) files ≡ true → is_tree (index_read files slot) ≡ true) → (half : Half) → IsDoneTo (trees_below slot) files half → Comes (trees_below (slot + 1))
  tree_settled slot listed (LoneTree j) d = ⊎_elim
      (λ (same : j ≡ slot). (
        Nothing,
        record {
          done = follows files (LoneTree slot) Nothing (subst (λ (k : ℕ). IsHalfDone files (LoneTree k)) same d.done) (tree_follows slot listed);
          ahead = tt;
          mark = d.mark;
        },
      ))
      (λ (differs : j ≢ slot). (LoneTree j, record { done = d.done; ahead = further slot j d.ahead differs; mark = d.mark }))
      (cases_eq j slot)
  tree_settled slot listed (Emptying j) d = (Emptying j, record { done = d.done; ahead = d.ahead; mark = d.mark })
  tree_settled slot listed (Growing j) d = (Growing j, record { done = d.done; ahead = d.ahead; mark = d.mark })
  tree_settled slot listed (Treeless j) d = (Treeless j, record { done = d.done; ahead = d.ahead; mark = d.mark })
  tree_settled slot listed (LoneRows j) d = (LoneRows j, record { done = d.done; ahead = d.ahead; mark = d.mark })
  tree_settled slot listed Nothing d = (Nothing, record { done = d.done; ahead = tt; mark = d.mark })
  tree_settled slot listed (AddingRow j) d = (AddingRow j, record { done = d.done; ahead = tt; mark = d.mark })
  tree_settled slot listed (AddingKey j) d = (AddingKey j, record { done = d.done; ahead = tt; mark = d.mark })
