-- A file that holds rows, where only other files have changed.
use Rattle.std.proofs.Common.{◌≡◌, ℕ, ◌*◌, ◌/◌, ◌≤◌, List, length, Option, IsTrue, is_some, unwrap_or, sym, ap, ◌∙◌, subst}
use Rattle.afl_base.specs.Files.{File, State, bytes_at, no_file, place}
use Rattle.db_model.specs.Row.{row_length, rows_bytes, rows_of}
use Rattle.tuple_file.specs.declared.tuples.Tuples.{Tuples}
use Rattle.tuple_file.specs.Tuples.{HoldsRows, slots}
use Rattle.afl_base.specs.Frames.{Prepares}
use Rattle.afl_base.proofs.FrameLaws.{live_by_name}

pub holds_by : (a b : State) (t : Tuples) → place b.files t.file ≡ place a.files t.file → b.tells ≡ a.tells → HoldsRows a t → HoldsRows b t
holds_by a b t e tells h =
    let bytes : bytes_at b.files t.file ≡ bytes_at a.files t.file = ap (λ (o : Option File). (unwrap_or o no_file).bytes) e in
    record {
      file = record {
        live = let P : Option File → Type 0 = λ o. IsTrue (is_some o) in subst P (sym e) h.file.live;
        doubling = ap (λ (o : Option File). (unwrap_or o no_file).kind) e ∙ h.file.doubling;
        short = h.file.short;
      };
      whole = ap (λ (xs : List ℕ). length xs) bytes ∙ h.whole ∙ ap (λ (xs : List ℕ). row_length t.schema.attributes * (length xs / row_length t.schema.attributes)) (sym bytes);
      few = let P : List ℕ → Type 0 = λ xs. length xs / row_length t.schema.attributes ≤ 32768 in subst P (sym bytes) h.few;
      written = λ told. ap (λ (xs : List ℕ). rows_bytes t.schema.attributes (rows_of t.schema.attributes xs)) bytes ∙ h.written (sym tells ∙ told) ∙ sym bytes;
    }

pub slots_prepared : (a b : State) (P : ℕ → Type 0) (t : Tuples) → Prepares a b P → slots b.files t ≡ slots a.files t
slots_prepared a b P t f = ap (λ (n : ℕ). n / row_length t.schema.attributes) (f.sizes t.file)

pub holds_prepared : (a b : State) (P : ℕ → Type 0) (t : Tuples) → Prepares a b P → HoldsRows a t → HoldsRows b t
holds_prepared a b P t f h =
    let s = slots_prepared a b P t f in
    record {
      file = record { live = live_by_name a.files b.files f.spares.named t.file h.file.live; doubling = f.spares.kind t.file h.file.live ∙ h.file.doubling; short = h.file.short };
      whole = f.sizes t.file ∙ h.whole ∙ ap (λ (n : ℕ). row_length t.schema.attributes * n) (sym s);
      few = subst (λ (n : ℕ). n ≤ 32768) (sym s) h.few;
      written = λ told. let before = sym f.spares.tells ∙ told in
          ap (λ (xs : List ℕ). rows_bytes t.schema.attributes (rows_of t.schema.attributes xs)) (f.bytes before t.file) ∙ h.written before ∙ sym (f.bytes before t.file);
    }
