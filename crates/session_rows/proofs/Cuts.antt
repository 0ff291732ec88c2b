-- What a cut leaves of one relation, where calls follow one another.
use Rattle.std.proofs.Common.{◌≡◌, ◌≢◌, ℕ, suc, ◌+◌, ◌*◌, ◌<◌, ◌≤◌, List, [], ◌∷◌, ◌++◌, length, map, get_or, take, drop, set, Option, Ok, Err, true, refl, ap, subst, sym, ◌∙◌, arith, inl, inr, IsTrue}
use Rattle.std.specs.Prelude.{IsErrAnd, IsErrOf, Result}
use Rattle.std.proofs.Math.Logic.{⊎_elim}
use Rattle.std.proofs.lemmas.List.{append-nil, drop_all, length-append, take_all}
use Rattle.afl_base.specs.declared.kind.FileError.{FileError}
use Rattle.afl_base.specs.declared.kind.FileError.TheVariants.{Failed, Space}
use Rattle.afl_base.specs.FileErrors.{UnlessFailed}
use Rattle.afl_base.specs.Files.{State, bytes_at}
use Rattle.afl_base.specs.Frames.{Prepares, SparesOthers}
use Rattle.afl_base.proofs.FrameLaws.{spares_fewer, spares_same, spares_then}
use Rattle.cursor.proofs.Walking.{row_there}
use Rattle.cursor.specs.Remaining.{selected_slots}
use Rattle.db_model.specs.declared.refusals.Refusal.{Refusal}
use Rattle.db_model.specs.declared.values.Value.{Value}
use Rattle.db_model.specs.Cond.{Cond}
use Rattle.db_model.specs.Database.{Relation}
use Rattle.db_model.specs.Row.{Row, no_row, row_length, rows_bytes, rows_of, slots_in_bytes}
use Rattle.db_model.specs.Step.{Fine, Reply, keys, removed_row}
use Rattle.index_maxheap.specs.declared.rooms.Room.{Room}
use Rattle.index_set.specs.declared.info.Access.{Access}
use Rattle.index_set.specs.declared.info.Access.TheVariants.{Order, Tree, Table as InTable}
use Rattle.index_set.specs.declared.info.IndexInfo.{IndexInfo}
use Rattle.index_set.specs.Complete.{AreComplete}
use Rattle.index_set.specs.Inserts.{AllNameFew, AreRoomFor, IsApart, IsNoTree, MayAllFollow, MayInsertKeys, NamesFew}
use Rattle.index_set.specs.Tables.{Tables}
use Rattle.index_set.proofs.CutKeys.{names_complete}
use Rattle.index_set.proofs.Inserted.{keys_count}
use Rattle.index_tree.specs.TreeFile.{NamesOnly}
use Rattle.padded.proofs.Facts.{err_is}
use Rattle.session_model.specs.Frames.{StaysAt}
use Rattle.session_model.proofs.Frames.{bytes_spared, complete_kept, rows_prepared}
use Rattle.session_model.proofs.Running.{bytes_by}
use Rattle.session_rows.specs.declared.selecting.Selected.{Selected}
use Rattle.session_rows.specs.CutRows.{AddsPartOfRow, MayAddRow, MayChange, MayMarkRows, MayRemove}
use Rattle.session_rows.specs.Marking.{IsSelected, dead, marked}
use Rattle.session_rows.proofs.Rooms.{exact_kept}
use Rattle.session_rows.proofs.Marked.{front_removed, marks_next}
use Rattle.tuple_file.specs.declared.tuples.Tuples.{Tuples}
use Rattle.tuple_file.specs.CutRows.{HasWholeRows, MayAppendRow, MayMarkRow}
use Rattle.tuple_file.proofs.Columns.{rows_counted}
use Rattle.tuple_file.specs.Tuples.{HoldsRows, row, rows, slots}

-- ---- an error that is handed on

pub failed_too : {T U : Type 0} (q : Result U FileError) (e : FileError) → IsErrAnd q (λ y. y ≡ e) → IsErrOf q Failed → IsErrOf {T = T} (Err e) Failed
failed_too {U = U} q e is failed =
    let same : ◌≡◌ {A = Result U FileError} (Err e) (Err Failed) = sym (err_is q e is) ∙ failed in
    let inner : e ≡ Failed = cc in
    ap (λ (x : FileError). Err x) inner

on_error : (T U : Type 0) {P Q : Type 0} (e : FileError) → (P → Q) → UnlessFailed {T = T} (Err e) P → UnlessFailed {T = U} (Err e) Q
on_error T U (Space need) f h = f h
on_error T U Failed f h = tt

pub unless_too : {T U P Q : Type 0} (call : Result T FileError) (q : Result U FileError) (e : FileError) → IsErrAnd q (λ y. y ≡ e) → (P → Q) → UnlessFailed {T = T} (Err e) P → UnlessFailed q Q
unless_too {T = T} {U = U} {Q = Q} call q e is f h = subst (λ (r : Result U FileError). UnlessFailed r Q) (sym (err_is q e is)) (on_error T U e f h)

-- ---- what stays

-- where bytes stay, rows stay, and nothing stands behind them
pub kept_by : (old after : State) (t : Tuples) → HoldsRows old t → ((k : ℕ) → bytes_at after.files k ≡ bytes_at old.files k) → AddsPartOfRow old after t
kept_by old after t holds same =
    let attributes = t.schema.attributes in record {
      same = ap (rows_of attributes) (same t.file);
      part = ap (λ (bs : List ℕ). take (row_length attributes * slots_in_bytes attributes bs) bs) (same t.file)
          ∙ take_all (row_length attributes * slots old.files t) (bytes_at old.files t.file) (omega (arith, holds.whole));
      beside = λ k other. same k;
    }

-- a tree whose file stays names no more slots than it had keys
names_kept : (old after : State) (tables : Tables) (file : ℕ) (all : List Row) (n : ℕ) → ((k : ℕ) → k ≢ file → bytes_at after.files k ≡ bytes_at old.files k) → length all ≤ n
    → (infos : List IndexInfo) → IsNoTree infos file → AreComplete old tables all infos → AllNameFew after n infos
names_kept old after tables file all n same few [] away h = tt
names_kept old after tables file all n same few (info ∷ infos) away h = (
  one info.access away.0 (names_complete old tables n info.access (keys info.attribute all) (omega (arith, few, keys_count info.attribute all)) h.0),
  names_kept old after tables file all n same few infos away.1 h.1,
)
  where
    one : (access : Access) → IsApart file access → NamesFew old n access → NamesFew after n access
    one Order apart h = tt
    one (Tree g) apart h = subst (NamesOnly n) (sym (same g (λ (e : g ≡ file). apart (sym e)))) h
    one (InTable number) apart h = tt

-- ---- a row that is added

module _ (t : Tuples) (infos : List IndexInfo) (values : List Value) (tables : Tables) where
  -- a row is there then
  more_there : (old after : State) → rows after.files t ≡ rows old.files t ++ record { tuple = values; live = true } ∷ [] → 0 < slots after.files t
  more_there old after e =
      let now = rows_counted after.files t in
      let more = ap (λ (rs : List Row). length rs) e ∙ length-append (rows old.files t) (record { tuple = values; live = true } ∷ []) in
      omega (arith, now, more)

  -- room was made for it
  pub added_none : (old after : State) → HoldsRows old t → IsTrue old.tells → Prepares old after (StaysAt t.file infos) → MayAddRow old after tables t infos values
  added_none old after holds told f = record { others = f.spares; left = inl (kept_by old after t holds (f.bytes told)) }

  pub added_row : (old after : State) → IsNoTree infos t.file → MayAppendRow old after t values → MayAddRow old after tables t infos values
  added_row old after away m =
      let beside : (k : ℕ) → k ≢ t.file → bytes_at after.files k ≡ bytes_at old.files k = λ k other. bytes_by old.files after.files k (m.others.others k other) in
      record {
        others = spares_fewer old after (λ k. k ≢ t.file) (StaysAt t.file infos) m.others (λ k stays. stays.0);
        left = ⊎_elim
            (λ e. inl (record { same = e.0; part = e.1; beside = beside }))
            (λ e. inr (
              e.0,
              record {
                whole = e.1;
                some = λ indexed. more_there old after e.0;
                names = λ complete follows.
                    let was = rows_counted old.files t in
                    let now = rows_counted after.files t in
                    let more = ap (λ (rs : List Row). length rs) e.0 ∙ length-append (rows old.files t) (record { tuple = values; live = true } ∷ []) in
                    names_kept old after tables t.file (rows old.files t) (slots after.files t) beside (omega (arith, was, now, more)) infos away complete;
              },
            ))
            m.rows;
      }

  -- it stands behind the others, and trees change
  pub added_keys : (old mid after : State) (rooms : List Room) (slot : ℕ) → IsNoTree infos t.file → SparesOthers old mid (λ k. k ≢ t.file) → rows mid.files t ≡ rows old.files t ++ record { tuple = values; live = true } ∷ []
      → HasWholeRows mid t → slot ≡ slots old.files t → MayInsertKeys mid after tables infos rooms values slot → AreRoomFor old values rooms infos → MayAddRow old after tables t infos values
  added_keys old mid after rooms slot away f e whole next g exact =
      let row : Row = record { tuple = values; live = true } in
      let same : bytes_at after.files t.file ≡ bytes_at mid.files t.file = bytes_by mid.files after.files t.file (g.others.others t.file away) in
      let added : rows after.files t ≡ rows old.files t ++ row ∷ [] = ap (rows_of t.schema.attributes) same ∙ e in
      let bytes : (k : ℕ) → k ≢ t.file → bytes_at mid.files k ≡ bytes_at old.files k = bytes_spared old mid t.file f in
      record {
        others = spares_then old mid after (λ k. k ≢ t.file) (IsNoTree infos) (StaysAt t.file infos) f g.others (λ k stays. stays);
        left = inr (
          added,
          record {
            whole = subst (λ (bs : List ℕ). rows_bytes t.schema.attributes (rows_of t.schema.attributes bs) ≡ bs) (sym same) whole;
            some = λ indexed. more_there old after added;
            names = λ complete follows.
                let was : length (rows old.files t) ≡ slots old.files t = rows_counted old.files t in
                let now : length (rows after.files t) ≡ slots after.files t = rows_counted after.files t in
                let more = ap (λ (rs : List Row). length rs) added ∙ length-append (rows old.files t) (row ∷ []) in
                let count : slot + 1 ≡ slots after.files t = omega (arith, was, now, more, next) in
                subst (λ (n : ℕ). AllNameFew after n infos) count
                (g.names (rows old.files t) row (was ∙ sym next) refl
                (complete_kept old mid t.file bytes tables (rows old.files t) infos away complete)
                (exact_kept old mid t.file bytes values rooms infos away exact) follows);
          },
        );
      }

  -- behind the making of room
  pub added_later : (old mid after : State) → HoldsRows old t → IsNoTree infos t.file → IsTrue old.tells → Prepares old mid (StaysAt t.file infos) → MayAddRow mid after tables t infos values → MayAddRow old after tables t infos values
  added_later old mid after holds away told f m =
      let stays : ℕ → Type 0 = StaysAt t.file infos in
      let same = rows_prepared old mid stays t f told in
      record {
        others = spares_then old mid after stays stays stays f.spares m.others (λ k s. (s, s));
        left = ⊎_elim
            (λ (k : AddsPartOfRow mid after t). inl (record { same = k.same ∙ same; part = k.part ∙ f.bytes told t.file; beside = λ j other. k.beside j other ∙ f.bytes told j }))
            (λ e. inr (
              e.0 ∙ ap (λ (rs : List Row). rs ++ record { tuple = values; live = true } ∷ []) same,
              record {
                whole = e.1.whole;
                some = e.1.some;
                names = λ complete follows.
                    e.1.names
                    (subst (λ (rs : List Row). AreComplete mid tables rs infos) (sym same) (complete_kept old mid t.file (λ j other. f.bytes told j) tables (rows old.files t) infos away complete))
                    (subst (λ (rs : List Row). MayAllFollow rs values infos) (sym same) follows);
              },
            ))
            m.left;
      }

-- ---- a relation that is changed

pub changed_none : (old : State) (tables : Tables) (t : Tuples) (infos : List IndexInfo) (made : Result (Relation × Reply) Refusal) → HoldsRows old t → MayChange old old tables t infos made
changed_none old tables t infos made holds = record { others = spares_same old (StaysAt t.file infos); left = inl (kept_by old old t holds (λ k. refl)) }

pub changed_added : (old after : State) (tables : Tables) (t : Tuples) (infos : List IndexInfo) (values : List Value) (made : Result (Relation × Reply) Refusal)
    → made ≡ Ok (record { schema = t.schema; rows = rows old.files t ++ record { tuple = values; live = true } ∷ [] }, Fine)
    → (AreComplete old tables (rows old.files t) infos → MayAllFollow (rows old.files t) values infos)
    → MayAddRow old after tables t infos values → MayChange old after tables t infos made
changed_added old after tables t infos values made is follows m = record {
  others = m.others;
  left = ⊎_elim (λ k. inl k)
      (λ e. inr (
        Fine,
        is ∙ ap (λ (rs : List Row). Ok (record { schema = t.schema; rows = rs }, Fine)) (sym e.0),
        record {
          whole = e.1.whole;
          some = e.1.some;
          names = λ complete none. e.1.names complete (follows complete);
        },
      )) m.left;
}

-- ---- rows that are removed

-- where the bytes of rows stay they are whole still
pub whole_by : (old after : State) (t : Tuples) → bytes_at after.files t.file ≡ bytes_at old.files t.file → HasWholeRows old t → HasWholeRows after t
whole_by old after t same whole = subst (λ (bs : List ℕ). rows_bytes t.schema.attributes (rows_of t.schema.attributes bs) ≡ bs) (sym same) whole

-- behind the making of room
pub marked_later : (old mid after : State) (t : Tuples) (all : List ℕ) → IsTrue old.tells → Prepares old mid (λ id. id ≢ t.file) → MayMarkRows mid after t all → MayMarkRows old after t all
marked_later old mid after t all told f m =
    let stays : ℕ → Type 0 = λ id. id ≢ t.file in record {
      others = spares_then old mid after stays stays stays f.spares m.others (λ k s. (s, s));
      whole = m.whole;
      done = m.done;
      rows = m.rows ∙ ap (marked (take m.done all)) (rows_prepared old mid stays t f told);
    }

pub marked_none : (old after : State) (t : Tuples) (all : List ℕ) → HoldsRows old t → IsTrue old.tells → Prepares old after (λ id. id ≢ t.file) → MayMarkRows old after t all
marked_none old after t all holds told f = record { others = f.spares; whole = whole_by old after t (f.bytes told t.file) (holds.written told); done = 0; rows = rows_prepared old after (λ id. id ≢ t.file) t f told }

-- the slots before are marked
pub marked_one : (old mid after : State) (t : Tuples) (all : List ℕ) (i slot : ℕ) → i < length all → slot ≡ get_or all i 0 → slot < slots mid.files t → SparesOthers old mid (λ k. k ≢ t.file)
    → rows mid.files t ≡ marked (take i all) (rows old.files t) → MayMarkRow mid after t slot → MayMarkRows old after t all
marked_one old mid after t all i slot below at inside f before m =
    let stays : ℕ → Type 0 = λ id. id ≢ t.file in
    let others = spares_then old mid after stays stays stays f m.others (λ k s. (s, s)) in
    let is : row mid.files t slot ≡ get_or (rows mid.files t) slot no_row = sym (row_there t.schema.attributes (bytes_at mid.files t.file) slot inside) in
    ⊎_elim
    (λ e. record { others = others; whole = m.whole; done = i; rows = e ∙ before })
    (λ e. record {
      others = others;
      whole = m.whole;
      done = suc i;
      rows = e ∙ ap (λ (z : Row). set (rows mid.files t) slot (dead z)) is ∙ ap (λ (rs : List Row). set rs slot (dead (get_or rs slot no_row))) before ∙ marks_next (rows old.files t) all i slot below at;
    })
    m.rows

-- in all slots
pub map_whole : (change : Row → Row) (all : List Row) → map change (take (length all) all) ++ drop (length all) all ≡ map change all
map_whole change all =
    let n : ℕ = length all in
    let rest : drop n all ≡ [] = drop_all n all (omega arith) in
    ap (λ (rs : List Row). map change rs ++ drop n all) (take_all n all (omega arith)) ∙ ap (λ (rs : List Row). map change all ++ rs) rest ∙ append-nil (map change all)

module _ (old after : State) (t : Tuples) (condition : Option Cond) where
  pub removed_none : HasWholeRows after t → SparesOthers old after (λ k. k ≢ t.file) → rows after.files t ≡ rows old.files t → MayRemove old after t condition
  removed_none whole f e = record { others = f; whole = whole; rows = record { done = 0; whole = inl refl; is = e } }

  pub removed_all : HasWholeRows after t → SparesOthers old after (λ k. k ≢ t.file) → rows after.files t ≡ map (removed_row t.schema.attributes condition) (rows old.files t) → MayRemove old after t condition
  removed_all whole f e =
      let all : List Row = rows old.files t in record {
        others = f;
        whole = whole;
        rows = record { done = length all; whole = inr (inl refl); is = e ∙ sym (map_whole (removed_row t.schema.attributes condition) all) };
      }

  pub removed_front : (s : Selected) → s.count ≤ 29 → IsSelected s (selected_slots t.schema.attributes condition (rows old.files t)) → MayMarkRows old after t s.first → MayRemove old after t condition
  removed_front s few is m = record {
    others = m.others;
    whole = m.whole;
    rows = front_removed s t.schema.attributes condition (rows old.files t) m.done few is (rows after.files t) m.rows;
  }
