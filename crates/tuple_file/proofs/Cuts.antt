-- What a cut leaves of rows.
use Rattle.std.proofs.Common.{◌≡◌, refl, sym, ap, subst, ◌∙◌, ℕ, ◌+◌, ◌-◌, ◌*◌, ◌/◌, ◌<◌, ◌≤◌, true, List, [], ◌∷◌, ◌++◌, length, take, drop, inl, inr, None, Some, arith, mul_comm}
use Rattle.std.specs.Prelude.{map, slice_range, IsTrue}
use Rattle.std.specs.List.{range_with_len}
use Rattle.std.proofs.Math.Logic.{⊎_elim}
use Rattle.std.proofs.lemmas.Nat.{div-mul-add}
use Rattle.std.proofs.Math.Seq.{take-length}
use Rattle.std.proofs.lemmas.Bool.{cases_lt}
use Rattle.std.proofs.lemmas.List.{drop-append-le, length-append, length-drop, length-take-le, take-append-le, take_at}
use Rattle.afl_base.specs.CutFiles.{AppendsFront, MendsToEither, OverwritesFront}
use Rattle.afl_base.specs.Fields.{put_at}
use Rattle.afl_base.specs.Files.{Commits, IsNamed, IsUnnamed, State, Table, bytes_at, draft_in, file_at, name_at, place, used}
use Rattle.afl_base.proofs.FileLaws.{named_here, place_live}
use Rattle.afl_base.proofs.CutLaws.{mends_as}
use Rattle.afl_base.proofs.FrameLaws.{becomes_spares}
use Rattle.afl_base.proofs.PutLaws.{put_at_nothing}
use Rattle.db_model.specs.declared.schemas.Attribute.{Attribute}
use Rattle.db_model.specs.declared.values.Value.{Value}
use Rattle.db_model.specs.Row.{AllRowsSuit, AllSuit, Row, fields_length, row_at, row_bytes, row_length, row_of, rows_bytes, rows_of, slots_in_bytes}
use Rattle.db_model.proofs.Rows.{length-row, map_range_same, rows_back, rows_of-insert, slot_inside}
use Rattle.tuple_file.specs.CutRows.{HasWholeRows, MayAppendRow, MayMarkRow}
use Rattle.tuple_file.specs.declared.tuples.Tuples.{Tuples}
use Rattle.tuple_file.specs.Tuples.{HoldsRows, IsRowFile, OnlyRowsChange, rows, slots}
use Rattle.tuple_file.proofs.Marks.{rows-mark, written-mark}
use Rattle.tuple_file.proofs.Slots.{slots_of_whole}
use Rattle.tuple_file.proofs.Written.{written_insert}

-- ---- what is mended to

-- what is so of each such state is so of the one that is mended to, where the files are not
pub either_follows : {mends : List ℕ → Table → Type 0} {store : List ℕ} {P Q : State → Type 0} (was files : Table) → was ≡ files → MendsToEither mends was store P → ((s : State) → P s → Q s) → MendsToEither mends files store Q
either_follows {mends} {store} was files same m follows = ⊎_elim (λ before. inl (subst (λ (t : Table). mends store t) same before)) (λ after. inr (mends_as after follows)) m

-- ---- rows

module _ (attributes : List Attribute) (bytes part : List ℕ) (n : ℕ) (long : length bytes ≡ row_length attributes * n) where
  slot_stays : (k : ℕ) → k < n → slice_range (bytes ++ part) (row_length attributes * k) (row_length attributes * k + row_length attributes) ≡ slice_range bytes (row_length attributes * k) (row_length attributes * k + row_length attributes)
  slot_stays k below =
      let size = row_length attributes in
      let inside = slot_inside size k n below in
      let left = length-drop (size * k) bytes in
      ap (take (size * k + size - size * k)) (drop-append-le (size * k) bytes part (omega (arith, long, inside)))
      ∙ take-append-le (size * k + size - size * k) (drop (size * k) bytes) part (omega (arith, left, long, inside))

  -- less than a row behind whole rows is no row
  slots_of-part : length part < row_length attributes → slots_in_bytes attributes (bytes ++ part) ≡ n
  slots_of-part short =
      let size = row_length attributes in
      let turned : n * size ≡ size * n = mul_comm n size in
      let whole : length (bytes ++ part) ≡ n * size + length part = length-append bytes part ∙ omega (arith, long, turned) in
      ap (λ (m : ℕ). m / size) whole ∙ div-mul-add n size (length part) short

  pub rows_of-part : length part < row_length attributes → rows_of attributes (bytes ++ part) ≡ rows_of attributes bytes
  rows_of-part short =
      let size = row_length attributes in
      ap (λ (m : ℕ). map (row_at attributes (bytes ++ part)) (range_with_len 0 m)) (slots_of-part short)
      ∙ map_range_same (row_at attributes (bytes ++ part)) (row_at attributes bytes) 0 n (λ k low high. ap (row_of attributes) (slot_stays k (omega (arith, high))))
      ∙ ap (λ (m : ℕ). map (row_at attributes bytes) (range_with_len 0 m)) (sym (slots_of_whole attributes bytes n long))

-- an append that broke off
pub may_append : (old after : State) (tuples : Tuples) (tuple : List Value) (bytes : List ℕ) → HoldsRows old tuples → AllSuit tuples.schema.attributes tuple → IsTrue old.tells
    → bytes ≡ row_bytes tuples.schema.attributes (record { tuple = tuple; live = true }) → AppendsFront old after tuples.file bytes → MayAppendRow old after tuples tuple
may_append old after tuples tuple bytes holds suits tells is front =
    let attributes = tuples.schema.attributes in
    let row : Row = record { tuple = tuple; live = true } in
    let was = bytes_at old.files tuples.file in
    let n = slots old.files tuples in
    let now : bytes_at after.files tuples.file ≡ was ++ take front.done bytes = front.is.bytes tells in
    let long : length bytes ≡ row_length attributes = ap (λ xs. length xs) is ∙ length-row attributes row suits in
    record {
      others = becomes_spares old after tuples.file _ _ holds.file.live front.is;
      rows = ⊎_elim
          (λ (less : front.done < row_length attributes).
          let part : List ℕ = take front.done bytes in
          let short : length part < row_length attributes = omega (arith, length-take-le front.done bytes front.within, less) in
          inl (
            ap (rows_of attributes) now ∙ rows_of-part attributes was part n holds.whole short,
            ap (λ bs. take (row_length attributes * slots_in_bytes attributes bs) bs) now
                ∙ ap (λ (m : ℕ). take (row_length attributes * m) (was ++ part)) (slots_of-part attributes was part n holds.whole short)
                ∙ take_at was part (row_length attributes * n) holds.whole,
          ))
          (λ (more : row_length attributes ≤ front.done).
          let all : length bytes ≡ front.done = omega (arith, long, more, front.within) in
          let whole : take front.done bytes ≡ bytes = subst (λ (m : ℕ). take m bytes ≡ bytes) all (take-length bytes) in
          let put : bytes_at after.files tuples.file ≡ was ++ row_bytes attributes row = now ∙ ap (λ xs. was ++ xs) (whole ∙ is) in
          inr (
            ap (rows_of attributes) put ∙ rows_of-insert attributes row n was holds.whole suits,
            subst (λ bs. rows_bytes attributes (rows_of attributes bs) ≡ bs) (sym put) (written_insert attributes row n was holds.whole suits (holds.written tells)),
          ))
          (cases_lt front.done (row_length attributes));
    }

-- a mark that broke off
pub may_mark : (old after : State) (tuples : Tuples) (slot at : ℕ) → HoldsRows old tuples → slot < slots old.files tuples → IsTrue old.tells
    → at ≡ row_length tuples.schema.attributes * slot + fields_length tuples.schema.attributes → OverwritesFront old after tuples.file at (3 ∷ []) → MayMarkRow old after tuples slot
may_mark old after tuples slot at holds below tells place front =
    let attributes = tuples.schema.attributes in
    let was = bytes_at old.files tuples.file in
    let now : bytes_at after.files tuples.file ≡ put_at was at (take front.done (3 ∷ [])) = front.is.bytes tells in
    let part : ℕ → List ℕ = λ m. put_at was at (take m (3 ∷ [])) in
    let few : front.done ≤ 1 = front.within in
    record {
      others = becomes_spares old after tuples.file _ _ holds.file.live front.is;
      whole = ⊎_elim
          (λ (none : front.done < 1). let is : front.done ≡ 0 = omega (arith, none) in
          subst (λ bs. rows_bytes attributes (rows_of attributes bs) ≡ bs) (sym (now ∙ ap part is ∙ put_at_nothing was at)) (holds.written tells))
          (λ (some : 1 ≤ front.done). let is : front.done ≡ 1 = omega (arith, some, few) in
          subst (λ bs. rows_bytes attributes (rows_of attributes bs) ≡ bs) (sym (now ∙ ap part is ∙ ap (λ (m : ℕ). put_at was m (3 ∷ [])) place))
          (written-mark attributes was (slots old.files tuples) slot holds.whole below (holds.written tells)))
          (cases_lt front.done 1);
      rows = ⊎_elim
          (λ (none : front.done < 1). let is : front.done ≡ 0 = omega (arith, none) in inl (ap (rows_of attributes) (now ∙ ap part is ∙ put_at_nothing was at)))
          (λ (some : 1 ≤ front.done). let is : front.done ≡ 1 = omega (arith, some, few) in
          inr (ap (rows_of attributes) (now ∙ ap part is ∙ ap (λ (m : ℕ). put_at was m (3 ∷ [])) place) ∙ rows-mark attributes was (slots old.files tuples) slot holds.whole below))
          (cases_lt front.done 1);
    }

-- ---- a draft that takes the place of the file

-- no other file has changed
pub only_committed : (old mid after : State) (tuples : Tuples) → IsRowFile old.files tuples → old.draft ≡ None → mid.files ≡ old.files → mid.tells ≡ old.tells → (draft_in mid).name ≡ (file_at old.files tuples.file).name
    → Commits mid after tuples.file → OnlyRowsChange old after tuples
only_committed old mid after tuples file idle same tells name done =
    let named : IsNamed old.files tuples.file (file_at old.files tuples.file).name = named_here old.files tuples.file (file_at old.files tuples.file) (place_live old.files tuples.file file.live) in
    let drafted : IsNamed mid.files tuples.file (draft_in mid).name = ap (λ (files : Table). name_at files tuples.file) same ∙ named ∙ ap (λ (n : List ℕ). Some n) (sym name) in
    record {
      live = done.live;
      name = done.name ∙ name;
      kind = done.kind ∙ sym file.doubling;
      size = refl;
      bytes = λ told. refl;
      others = λ k other. done.others k other ∙ ap (λ (files : Table). place files k) same;
      names = λ n none. done.names n (λ e. none tuples.file (named ∙ ap (λ (m : List ℕ). Some m) (sym (e ∙ name)))) (subst (λ (files : Table). IsUnnamed files n) (sym same) none);
      used = done.replaced tuples.file drafted ∙ ap used same;
      draft = done.draft ∙ sym idle;
      tells = done.tells ∙ tells;
    }

-- its rows are those of the draft
pub rows_committed : (mid after : State) (tuples : Tuples) (news : List Row) → IsTrue mid.tells → Commits mid after tuples.file → (draft_in mid).bytes ≡ rows_bytes tuples.schema.attributes news
    → AllRowsSuit tuples.schema.attributes news → rows after.files tuples ≡ news
rows_committed mid after tuples news told done is suit = ap (rows_of tuples.schema.attributes) (done.bytes told ∙ is) ∙ rows_back tuples.schema.attributes news suit

-- and its bytes are those of its rows
pub whole_committed : (mid after : State) (tuples : Tuples) (news : List Row) → IsTrue mid.tells → Commits mid after tuples.file → (draft_in mid).bytes ≡ rows_bytes tuples.schema.attributes news
    → AllRowsSuit tuples.schema.attributes news → HasWholeRows after tuples
whole_committed mid after tuples news told done is suit = ap (rows_bytes tuples.schema.attributes) (rows_committed mid after tuples news told done is suit) ∙ sym (done.bytes told ∙ is)
