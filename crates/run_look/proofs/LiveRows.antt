-- The rows of a relation, counted slot by slot.
use Rattle.std.proofs.Common.{◌≡◌, refl, sym, ap, ◌∙◌, ℕ, ◌+◌, ◌-◌, Bool, true, false, not, List, [], ◌∷◌, length, filter, arith, cond, Option, Some, None, suc}
use Rattle.std.specs.Option.{option_map, option_map_or}
use Rattle.db_model.specs.declared.schemas.Schema.{Schema}
use Rattle.db_model.specs.Database.{Database, Relation}
use Rattle.db_model.specs.Row.{Row}
use Rattle.antelope_engine.specs.Reading.{relation_in_slot, schema_at}
use Rattle.run_look.specs.Text.{live_count, relation_line, removed_rows, rows_line, slot_text}
use Rattle.padded.proofs.Facts.{some_alike}
use Rattle.space_model.specs.Enough.{rows_in}

-- each row is live or removed
pub both_kinds : (rows : List Row) → live_count rows + removed_rows rows ≡ length rows
both_kinds [] = refl
both_kinds (row ∷ rows) = by_mark row.live (both_kinds rows)
  where
    by_mark : (t : Bool) → live_count rows + removed_rows rows ≡ length rows
        → length (cond t (row ∷ filter (λ r. r.live) rows) (filter (λ r. r.live) rows)) + length (cond (not t) (row ∷ filter (λ r. not r.live) rows) (filter (λ r. not r.live) rows)) ≡ suc (length rows)
    by_mark true e = omega (arith, e)
    by_mark false e = omega (arith, e)

-- the line of a relation in its slot
pub line_of : (db : Database) (k limit : ℕ) (schema : Schema) (live removed left : ℕ) → schema_at db k ≡ Some schema → live ≡ live_count (rows_in db k) → live + removed ≡ length (rows_in db k) → left ≡ limit - length (rows_in db k)
    → rows_line schema live removed left ≡ slot_text (relation_line limit) (relation_in_slot db k)
line_of db k limit schema live removed left h = by_slot (relation_in_slot db k) h
  where
    by_slot : (slot : Option Relation) → option_map (λ r. r.schema) slot ≡ Some schema
        → live ≡ live_count (option_map_or (λ r. r.rows) slot []) → live + removed ≡ length (option_map_or (λ r. r.rows) slot []) → left ≡ limit - length (option_map_or (λ r. r.rows) slot [])
        → rows_line schema live removed left ≡ slot_text (relation_line limit) slot
    by_slot None e l m n = absurd (let f : ⊥ = cc in f)
    by_slot (Some r) e l m n =
        let both = both_kinds r.rows in
        let gone : removed ≡ removed_rows r.rows = omega (arith, both, l, m) in
        ap (λ s. rows_line s live removed left) (sym (some_alike e))
        ∙ ap (λ a. rows_line r.schema a removed left) l ∙ ap (λ a. rows_line r.schema (live_count r.rows) a left) gone ∙ ap (λ a. rows_line r.schema (live_count r.rows) (removed_rows r.rows) a) n
