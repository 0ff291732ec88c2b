-- The search for the least cursor that reads a relation.
use Rattle.std.proofs.Common.{◌≡◌, ℕ, ◌+◌, ◌<◌, ◌≤◌, true, false, List, ◌∷◌, length, map, drop, get_or, Option, Some, None, refl, ap, ◌∙◌}
use Rattle.std.specs.Prelude.{option_map}
use Rattle.std.proofs.lemmas.List.{drop_all}
use Rattle.afl_base.specs.Files.{Table}
use Rattle.db_model.specs.Database.{Cursor, reader_from}
use Rattle.session_model.specs.declared.held.Open.{Open}
use Rattle.session_model.specs.Readers.{is_reader}
use Rattle.session_model.specs.View.{cursor_in}
use Rattle.padded.proofs.Facts.{drop_item}

-- the cursors from one on
abbrev pub reader_at : Table → List ℕ → List (Option Open) → ℕ → Option ℕ
reader_at files name opens i = reader_from name (i + 1) (map (option_map (cursor_in files)) (drop i opens))

first_reads : (name : List ℕ) (n : ℕ) (o : Option Cursor) (rest : List (Option Cursor)) → is_reader name o ≡ true → reader_from name n (o ∷ rest) ≡ Some n
first_reads name n None rest e = absurd (cc)
first_reads name n (Some cursor) rest e = rw e refl

first_spares : (name : List ℕ) (n : ℕ) (o : Option Cursor) (rest : List (Option Cursor)) → is_reader name o ≡ false → reader_from name n (o ∷ rest) ≡ reader_from name (n + 1) rest
first_spares name n None rest e = refl
first_spares name n (Some cursor) rest e = rw e refl

module _ (files : Table) (name : List ℕ) (opens : List (Option Open)) (i : ℕ) where
  at_item : (o : Option Open) → i < length opens → o ≡ get_or opens i o
      → reader_at files name opens i ≡ reader_from name (i + 1) (option_map (cursor_in files) o ∷ map (option_map (cursor_in files)) (drop (i + 1) opens))
  at_item o below is = ap (λ (os : List (Option Open)). reader_from name (i + 1) (map (option_map (cursor_in files)) os)) (drop_item opens i o below is)

  pub reader_found : (o : Option Open) → i < length opens → o ≡ get_or opens i o → is_reader name (option_map (cursor_in files) o) ≡ true → reader_at files name opens i ≡ Some (i + 1)
  reader_found o below is reads = at_item o below is ∙ first_reads name (i + 1) (option_map (cursor_in files) o) _ reads

  pub reader_later : (o : Option Open) → i < length opens → o ≡ get_or opens i o → is_reader name (option_map (cursor_in files) o) ≡ false
      → reader_at files name opens i ≡ reader_at files name opens (i + 1)
  reader_later o below is spares = at_item o below is ∙ first_spares name (i + 1) (option_map (cursor_in files) o) _ spares

  pub reader_none : length opens ≤ i → reader_at files name opens i ≡ None
  reader_none past = ap (λ (os : List (Option Open)). reader_from name (i + 1) (map (option_map (cursor_in files)) os)) (drop_all i opens past)
