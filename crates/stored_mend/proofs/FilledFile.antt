-- The file of a relation whose last row is filled, or is taken back.
use Rattle.std.proofs.Common.{◌≡◌, inl, inr, ℕ, List, [], ◌∷◌, ◌++◌, length, take, false, IsTrue, ap, sym, subst, ◌∙◌}
use Rattle.afl_base.specs.Files.{Becomes, IsNamed, State, bytes_at}
use Rattle.afl_base.proofs.FileLaws.{named_live, place_live}
use Rattle.catalog.proofs.Named.{named_found}
use Rattle.db_model.specs.declared.schemas.Attribute.{Attribute}
use Rattle.db_model.specs.Row.{Row, rows_of}
use Rattle.space_model.specs.FileNames.{bytes_in_file, bytes_named}
use Rattle.stored_mend.specs.Filled.{EndsInRow, FillsRow, HasRemovedMore, IsFilledUp}
use Rattle.stored_mend.specs.Rows.{ChangesOne, whole_length, whole_rows}
use Rattle.stored_mend.proofs.FilledRows.{filled_rows}
use Rattle.stored_mend.proofs.Replaced.{becomes_spares_others}

module _ (old new : State) (file : ℕ) (name : List ℕ) (attributes : List Attribute) (named : IsNamed old.files file name) (only : (k : ℕ) → IsNamed old.files k name → k ≡ file) where
  pub filled_others : FillsRow old new file attributes → ChangesOne old new name
  filled_others f = becomes_spares_others old new file _ name _ named f.appended

  pub filled_end : FillsRow old new file attributes → IsTrue old.tells → EndsInRow old.files new.files name attributes
  filled_end f told = λ k is may. inr (subst (λ (j : ℕ). IsFilledUp attributes (bytes_at old.files j) (bytes_at new.files j)) (sym (only k is)) (f.filled told))

  pub filled_more : FillsRow old new file attributes → IsTrue old.tells → HasRemovedMore old.files new.files name attributes
  filled_more f told =
      let up = f.filled told in
      let names = (filled_others f).named in
      let before : bytes_named name old.files ≡ bytes_at old.files file = ap bytes_in_file (named_found old.files file name named only ∙ place_live old.files file (named_live old.files file name named)) in
      let after : bytes_named name new.files ≡ bytes_at new.files file =
      ap bytes_in_file (named_found new.files file name (names file ∙ named) (λ k h. only k (sym (names k) ∙ h)) ∙ place_live new.files file f.appended.live) in (
        up.removed.tuple,
        ap (rows_of attributes) after ∙ filled_rows attributes (bytes_at old.files file) (bytes_at new.files file) up
            ∙ ap (λ (bytes : List ℕ). rows_of attributes bytes ++ record { tuple = up.removed.tuple; live = false } ∷ []) (sym before),
      )

  pub cut_end : (size : ℕ) → Becomes old new file size (take size (bytes_at old.files file)) → size ≡ whole_length attributes (bytes_at old.files file) → IsTrue old.tells → EndsInRow old.files new.files name attributes
  cut_end size b long told = λ k is may. inl (subst (λ (j : ℕ). bytes_at new.files j ≡ whole_rows attributes (bytes_at old.files j)) (sym (only k is)) (b.bytes told ∙ ap (λ (n : ℕ). take n (bytes_at old.files file)) long))
