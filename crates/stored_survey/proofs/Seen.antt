-- What is seen of a slot.
use Rattle.std.proofs.Common.{◌≡◌, ◌≢◌, ℕ, ◌+◌, ◌*◌, ◌%◌, ◌<◌, ◌≤◌, ⊎_elim, zero, suc, Bool, true, false, List, [], ◌∷◌, get_or, length, take, Option, Some, None, refl, ap, sym, subst, ◌∙◌, arith}
use Rattle.std.specs.Prelude.{IfOk, IsErrAnd, Result, Ok, Err}
use Rattle.std.specs.Bool.{Decides}
use Rattle.std.proofs.Math.Nat.{mul-mod_right}
use Rattle.std.proofs.lemmas.Bool.{cases_lt}
use Rattle.afl_base.specs.Files.{Table}
use Rattle.std.specs.List.{list_any}
use Rattle.catalog.specs.Rules.{has_name, is_tree}
use Rattle.db_model.specs.declared.schemas.IndexKind.TheVariants.{MaxHeap}
use Rattle.db_model.specs.declared.schemas.Schema.{Schema}
use Rattle.db_model.specs.Catalog.{Index, relation_slot_bytes}
use Rattle.db_model.specs.Row.{row_length}
use Rattle.space_model.specs.FileNames.{bytes_named, is_there, rows_file, tree_file}
use Rattle.stored.specs.CutTables.{index_read, relation, slot_bytes}
use Rattle.stored.specs.declared.half.Half.{Half}
use Rattle.stored.specs.declared.half.Half.TheVariants.{Nothing, Emptying, Growing, LoneRows, Treeless, LoneTree, AddingRow, AddingKey}
use Rattle.stored_survey.specs.Pieces.{RowsShow}
use Rattle.stored_survey.specs.Shown.{HasTreeOfKeys, IsSettledIndex, IsSettledSlot, Shows, ShowsIndex, ShowsIndexes, ShowsSlot}
use Rattle.stored_survey.proofs.HalfParts.{gone_bytes}
use Rattle.stored_survey.proofs.Slots.{tree_of}
pub use Rattle.stored_mend.proofs.HeapSettled.{default_same}

-- a fact of the first numbers, and of one more
pub each_next : (P : ℕ → Type 0) (n : ℕ) → ((k : ℕ) → k < n → P k) → P n → (k : ℕ) → k < n + 1 → P k
each_next P n before here k below = ⊎_elim
    (λ (less : k < n). before k less)
    (λ (past : n ≤ k). let same : n ≡ k = omega (arith, below, past) in subst P same here)
    (cases_lt k n)

-- a name is among the same relations
pub names_before : (name : List ℕ) (here there : List (Option Schema)) (k : ℕ) → here ≡ there → list_any (has_name name) (take k here) ≡ list_any (has_name name) (take k there)
names_before name here there k same = ap (λ (os : List (Option Schema)). list_any (has_name name) (take k os)) same

-- of a call that failed nothing is said
pub not_ok : {T E : Type 0} (P : T → Type 0) (Q : E → Type 0) (r : Result T E) → IsErrAnd r Q → IfOk r P
not_ok P Q (Ok x) failed = absurd failed
not_ok P Q (Err e) failed = tt

-- ---- answers whether

pub accepted : {Q : Type 0} → Q → Decides true Q
accepted q = ((λ t. q), (λ p. refl))

pub refused : {Q : Type 0} → (Q → ⊥) → Decides false Q
refused n = ((λ t. absurd (let no : false ≡ true = t in let x : ⊥ = cc in x)), (λ q. absurd (n q)))

-- what a part of it refuses is refused
pub refuted : {P Q : Type 0} (b : Bool) → Decides b P → b ≡ false → (Q → P) → Decides false Q
refuted b d e part = ((λ t. absurd (let no : false ≡ true = t in let x : ⊥ = cc in x)), (λ q. sym e ∙ d.1 (part q)))

pub carried : {P Q : Type 0} (b : Bool) → Decides b P → (P → Q) → (Q → P) → Decides b Q
carried b d to from = ((λ t. to (d.0 t)), (λ q. d.1 (from q)))

nothing_seen : (files : Table) (k : ℕ) → IsSettledSlot files k (relation files k) → ShowsSlot files k Nothing
nothing_seen files k settled = ((λ e. settled), (λ differs. absurd (differs refl)))

-- ---- relations

module _ (files : Table) (k : ℕ) (below : k < 8) where
  -- of a slot without a relation
  module _ (none : relation files k ≡ None) where
    pub emptied_seen : (slot_bytes files k ≡ relation_slot_bytes None → ⊥) → ShowsSlot files k (Emptying k)
    emptied_seen differs = ((λ e. absurd (let n : ⊥ = cc in n)), (λ other. (below, none, differs)))

    pub lone_seen : slot_bytes files k ≡ relation_slot_bytes None → is_there (rows_file k) files ≡ true → ShowsSlot files k (LoneRows k)
    lone_seen same there = ((λ e. absurd (let n : ⊥ = cc in n)), (λ other. (below, none, same, there)))

    pub unused_seen : slot_bytes files k ≡ relation_slot_bytes None → is_there (rows_file k) files ≡ false → ShowsSlot files k Nothing
    unused_seen same gone = nothing_seen files k (subst (IsSettledSlot files k) (sym none) (same, gone))

  module _ (schema : Schema) (is : relation files k ≡ Some schema) where
    pub grown_seen : (slot_bytes files k ≡ relation_slot_bytes (Some schema) → ⊥) → ShowsSlot files k (Growing k)
    grown_seen differs = ((λ e. absurd (let n : ⊥ = cc in n)), (λ other. (below, schema, is, differs)))

    whole_seen : slot_bytes files k ≡ relation_slot_bytes (Some schema) → length (bytes_named (rows_file k) files) % row_length schema.attributes ≡ 0 → ShowsSlot files k Nothing
    whole_seen slot rows = nothing_seen files k (subst (IsSettledSlot files k) (sym is) (slot, rows))

    pub rows_seen : (half : Half) (size : ℕ) → slot_bytes files k ≡ relation_slot_bytes (Some schema) → size ≡ length (bytes_named (rows_file k) files) → RowsShow size schema k half → ShowsSlot files k half
    rows_seen Nothing size slot same s = whole_seen slot (ap (λ (n : ℕ). n % row_length schema.attributes) (sym same) ∙ s)
    rows_seen (AddingRow j) size slot same s =
        let shown : Shows files (AddingRow k) = (below, schema, is, λ none. s.1 (ap (λ (n : ℕ). n % row_length schema.attributes) same ∙ none)) in
        ((λ e. absurd (let n : ⊥ = cc in n)), (λ differs. subst (λ (n : ℕ). Shows files (AddingRow n)) (sym s.0) shown))
    rows_seen (Emptying j) size slot same s = absurd s
    rows_seen (LoneRows j) size slot same s = absurd s
    rows_seen (Growing j) size slot same s = absurd s
    rows_seen (Treeless j) size slot same s = absurd s
    rows_seen (LoneTree j) size slot same s = absurd s
    rows_seen (AddingKey j) size slot same s = absurd s

    -- without rows
    pub no_rows_seen : slot_bytes files k ≡ relation_slot_bytes (Some schema) → is_there (rows_file k) files ≡ false → ShowsSlot files k Nothing
    no_rows_seen slot gone =
        let none : length (bytes_named (rows_file k) files) ≡ row_length schema.attributes * 0 = ap (λ (xs : List ℕ). length xs) (gone_bytes files (rows_file k) gone) ∙ omega arith in
        whole_seen slot (ap (λ (n : ℕ). n % row_length schema.attributes) none ∙ mul-mod_right (row_length schema.attributes) 0)

-- ---- indexes

module _ (files : Table) (i : ℕ) (below : i < 8) where
  calm_seen : IsSettledIndex files i (index_read files i) → ShowsIndex files i Nothing
  calm_seen settled = ((λ e. settled), (λ differs. absurd (differs refl)))

  pub lone_tree_seen : index_read files i ≡ None → is_there (tree_file i) files ≡ true → ShowsIndex files i (LoneTree i)
  lone_tree_seen none there = ((λ e. absurd (let n : ⊥ = cc in n)), (λ other. (below, none, there)))

  pub no_index_seen : index_read files i ≡ None → is_there (tree_file i) files ≡ false → ShowsIndex files i Nothing
  no_index_seen none gone = calm_seen (subst (IsSettledIndex files i) (sym none) gone)

  module _ (index : Index) (is : index_read files i ≡ Some index) where
    pub other_seen : (index.kind ≡ MaxHeap → ⊥) → ShowsIndex files i Nothing
    other_seen other = calm_seen (subst (IsSettledIndex files i) (sym is) (λ kind. absurd (other kind)))

    pub treeless_seen : index.kind ≡ MaxHeap → is_there (tree_file i) files ≡ false → ShowsIndex files i (Treeless i)
    treeless_seen kind gone = ((λ e. absurd (let n : ⊥ = cc in n)), (λ differs. (below, ap is_tree is ∙ tree_of index kind, gone)))

    pub tree_seen : is_there (tree_file i) files ≡ true → (is_there (rows_file index.relation) files ≡ true → HasTreeOfKeys files i index) → ShowsIndex files i Nothing
    tree_seen there whole = calm_seen (subst (IsSettledIndex files i) (sym is) (λ kind. (there, whole)))

    pub lacking_seen : index.kind ≡ MaxHeap → is_there (tree_file i) files ≡ true → (is_there (rows_file index.relation) files ≡ true → HasTreeOfKeys files i index → ⊥) → ShowsIndex files i (AddingKey index.relation)
    lacking_seen kind there lacks = (
      (λ e. absurd (let n : ⊥ = cc in n)),
      (λ differs. record { i = i; below = below; index = index; stands = is; kind = kind; on = refl; there = there; lacks = lacks }),
    )

-- ---- all slots

pub all_shown : (files : Table) (half : Half) → ((k : ℕ) → k < 8 → IsSettledSlot files k (relation files k)) → ShowsIndexes files half → Shows files half
all_shown files Nothing slots s = (slots, s.0 refl)
all_shown files (Emptying k) slots s = s.1 (λ e. let n : ⊥ = cc in n)
all_shown files (LoneRows k) slots s = s.1 (λ e. let n : ⊥ = cc in n)
all_shown files (Growing k) slots s = s.1 (λ e. let n : ⊥ = cc in n)
all_shown files (Treeless k) slots s = s.1 (λ e. let n : ⊥ = cc in n)
all_shown files (LoneTree k) slots s = s.1 (λ e. let n : ⊥ = cc in n)
all_shown files (AddingRow k) slots s = s.1 (λ e. let n : ⊥ = cc in n)
all_shown files (AddingKey k) slots s = s.1 (λ e. let n : ⊥ = cc in n)
