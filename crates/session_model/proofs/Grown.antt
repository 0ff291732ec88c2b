-- A relation without rows has one attribute more: its indexes stay complete, and no open cursor reads rows of it.
use Rattle.std.proofs.Common.{◌≡◌, ℕ, zero, suc, ◌*◌, ◌/◌, ◌<◌, ◌≤◌, List, [], ◌∷◌, ◌++◌, length, get_or, Option, Some, None, refl, ap, sym, ◌∙◌, subst, arith, inl, inr}
use Rattle.std.proofs.Math.Nat.{mul-zero, zero-div}
use Rattle.afl_base.specs.Files.{IsLive, State, bytes_at, file_at, size_at}
use Rattle.db_model.specs.declared.schemas.Attribute.{Attribute}
use Rattle.db_model.specs.declared.schemas.IndexKind.{IndexKind}
use Rattle.db_model.specs.Row.{Row, row_length, rows_bytes}
use Rattle.db_model.specs.Step.{keys}
use Rattle.index_set.specs.Complete.{IsComplete}
use Rattle.index_set.specs.Plans.{access_kind}
use Rattle.index_set.specs.Tables.{Tables}
use Rattle.space_model.specs.FileNames.{rows_file}
use Rattle.tuple_file.specs.declared.tuples.Tuples.{Tuples}
use Rattle.tuple_file.specs.Tuples.{HoldsRows, rows, slots}
use Rattle.session_model.specs.declared.held.Held.{Held}
use Rattle.session_model.specs.declared.held.Indexed.{Indexed}
use Rattle.session_model.specs.declared.held.Open.{Open}
use Rattle.session_model.specs.declared.held.Open.TheVariants.{Select, Join}
use Rattle.session_model.specs.Frames.{LeavesOthers}
use Rattle.session_model.specs.Indexed.{IsAllowedAt}
use Rattle.session_model.specs.Running.{IsCursorSlot, IsIndexedOn, IsRunning, ReadsRows}
use Rattle.session_model.proofs.Catalogs.{kept_complete, kept_file, kept_held}
use Rattle.session_model.proofs.Running.{on_relation, row_no_tree}
use Rattle.tuple_file.proofs.Columns.{rows_counted}
use Rattle.padded.proofs.Facts.{some_inside}

-- ---- no rows

pub no_items : {A : Type 0} (xs : List A) → length xs ≡ 0 → xs ≡ []
no_items [] e = refl
no_items (x ∷ xs) e = absurd (omega (arith, e))

pub slots_of_none : (state : State) (t : Tuples) → size_at state.files t.file ≡ 0 → slots state.files t ≡ 0
slots_of_none state t none = ap (λ (n : ℕ). n / row_length t.schema.attributes) none ∙ zero-div (row_length t.schema.attributes)

pub rows_of_none : (state : State) (t : Tuples) → size_at state.files t.file ≡ 0 → rows state.files t ≡ []
rows_of_none state t none = no_items (rows state.files t) (rows_counted state.files t ∙ slots_of_none state t none)

times_none : (n m : ℕ) → m ≡ 0 → n * m ≡ 0
times_none n m e = ap (λ (k : ℕ). n * k) e ∙ mul-zero n

-- where there is no row, there is no byte
pub no_bytes : (state : State) (t : Tuples) → HoldsRows state t → length (rows state.files t) ≡ 0 → size_at state.files t.file ≡ 0
no_bytes state t h none = h.whole ∙ times_none (row_length t.schema.attributes) (slots state.files t) (sym (rows_counted state.files t) ∙ none)

-- an empty file holds the rows of any short schema
pub holds_none : (state : State) (t s : Tuples) → HoldsRows state t → s.file ≡ t.file → row_length s.schema.attributes ≤ 128 → size_at state.files s.file ≡ 0 → HoldsRows state s
holds_none state t s h file short none =
    let no = slots_of_none state s none in
    record {
      file = record {
        live = let P : ℕ → Type 0 = λ id. IsLive state.files id in subst P (sym file) h.file.live;
        doubling = ap (λ (id : ℕ). (file_at state.files id).kind) file ∙ h.file.doubling;
        short = short;
      };
      whole = none ∙ sym (times_none (row_length s.schema.attributes) (slots state.files s) no);
      few = omega (arith, no);
      written = λ told. ap (rows_bytes s.schema.attributes) (rows_of_none state s none) ∙ sym (no_items (bytes_at state.files s.file) none);
    }

-- ---- an attribute more

allowed_more : (attributes : List Attribute) (a : Attribute) (place : ℕ) (kind : IndexKind) → IsAllowedAt attributes place kind → IsAllowedAt (attributes ++ a ∷ []) place kind
allowed_more [] a place kind h = absurd (cc)
allowed_more (b ∷ attributes) a zero kind h = h
allowed_more (b ∷ attributes) a (suc place) kind h = allowed_more attributes a place kind h

module _ (old new : State) (tables : Tables) (held : Held) (opens : List (Option Open)) (r : IsRunning old tables held opens) (k : ℕ) (t : Tuples) (there : get_or held.relations k None ≡ Some t) (none : length (rows old.files t) ≡ 0) where
  -- no open cursor reads it
  pub unread_empty : (n : ℕ) (o : Open) → get_or opens n None ≡ Some o → ReadsRows o t → ⊥
  unread_empty n o e reads =
      let P : Option Open → Type 0 = λ z. IsCursorSlot old held z in
      read o reads (subst P e (r.cursors n (omega (arith, some_inside opens n o e, r.four))))
    where
      empty : (s : Tuples) (m : ℕ) → 0 < m → m ≤ slots old.files s → s ≡ t → ⊥
      empty s m some few same =
          let here : m ≤ slots old.files t = subst (λ (z : Tuples). m ≤ slots old.files z) same few in
          omega (arith, some, here, rows_counted old.files t, none)

      read : (o : Open) → ReadsRows o t → IsCursorSlot old held (Some o) → ⊥
      read (Select c) reads h = empty c.cursor.tuples c.cursor.candidates.slots reads.0 (h.goes_on reads.0).few reads.1
      read (Join c) (inl reads) h = empty c.cursor.left c.cursor.left_slots reads.0 (h.left reads.0).few reads.1
      read (Join c) (inr reads) h = empty c.cursor.right c.cursor.right_slots reads.0 (h.right reads.0).side.few reads.1

  -- its indexes are complete for the rows that there are not
  pub grown_indexes : (l : LeavesOthers old new (rows_file k)) (s : Tuples) (a : Attribute) → s.schema.attributes ≡ t.schema.attributes ++ a ∷ [] → size_at new.files s.file ≡ 0
      → (j : ℕ) (y : Indexed) → get_or held.indexes j None ≡ Some y → y.relation ≡ k → IsIndexedOn new tables j y (Some s)
  grown_indexes l s a more empty j y e rel =
      let d = on_relation old tables held opens r k t there j y e rel in
      let was : rows old.files t ≡ [] = no_items (rows old.files t) none in
      let is : rows new.files s ≡ [] = rows_of_none new s empty in
      let no : slots old.files t ≡ slots new.files s = sym (rows_counted old.files t) ∙ none ∙ sym (slots_of_none new s empty) in
      let R : List Row → Type 0 = λ all. IsComplete new tables y.access (keys y.attribute all) in
      record {
        place = d.place;
        allowed = let P : List Attribute → Type 0 = λ attributes. IsAllowedAt attributes y.attribute (access_kind y.access) in
            subst P (sym more) (allowed_more t.schema.attributes a y.attribute (access_kind y.access) d.allowed);
        held = kept_held old new tables tables held opens r (rows_file k) l j (slots old.files t) (slots new.files s) y.access (λ same. row_no_tree k j (sym same)) (λ number at. refl) d.file no d.held;
        file = kept_file old new tables tables held opens r (rows_file k) l j y.access (λ same. row_no_tree k j (sym same)) d.file;
        complete = λ told. subst R (was ∙ sym is)
            (kept_complete old new tables tables held opens r (rows_file k) l j (keys y.attribute (rows old.files t)) y.access (λ same. row_no_tree k j (sym same)) (λ number at. refl) d.file (d.complete (sym l.tells ∙ told)));
      }
