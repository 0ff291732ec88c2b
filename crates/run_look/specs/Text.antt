-- What stands on an image, as a text: a line for each relation, one for each index, and one of the flash.
use Rattle.std.specs.Prelude.{ℕ, ◌-◌, ◌/◌, not, List, [], ◌∷◌, ◌++◌, length, flat_map, get_or, slice_get, codes, decimal, Option, Some, None, if◌then◌else◌}
use Rattle.std.specs.List.{filter}
use Rattle.coffee_layout.specs.Tiling.{units_of}
use Rattle.db_model.specs.declared.schemas.Attribute.{Attribute}
use Rattle.db_model.specs.declared.schemas.IndexKind.{IndexKind}
use Rattle.db_model.specs.declared.schemas.Schema.{Schema}
use Rattle.db_model.specs.Catalog.{Index}
use Rattle.db_model.specs.Database.{Database, Relation}
use Rattle.db_model.specs.Grammar.{kind_word}
use Rattle.db_model.specs.Keywords.{keyword_text}
use Rattle.db_model.specs.ReplyText.{line}
use Rattle.db_model.specs.Row.{Row}
use Rattle.db_model.specs.Step.{slots_limit}
use Rattle.dump_model.specs.Script.{domain_named, domain_text}
use Rattle.run_look.specs.declared.pages.PageCounts.{PageCounts}
use Rattle.run_look.specs.Pages.{page_counts}
use Rattle.image_model.specs.Images.{base}

-- words and a number after them
abbrev pub counted_words : List ℕ → ℕ → List ℕ
counted_words words n = words ++ decimal n

-- the texts of the used slots, in slot order
abbrev pub slot_text : {A : Type 0} → (A → List ℕ) → Option A → List ℕ
slot_text text None = []
slot_text text (Some x) = text x

abbrev pub slot_texts : {A : Type 0} → (A → List ℕ) → List (Option A) → List ℕ
slot_texts text slots = flat_map (slot_text text) slots

-- ---- relations

-- the texts with `, ` between them
abbrev pub list_text : {A : Type 0} → (A → List ℕ) → List A → List ℕ
list_text text [] = []
list_text text (x ∷ []) = text x
list_text text (x ∷ y ∷ xs) = text x ++ (codes ", " ++ list_text text (y ∷ xs))

-- `NAME DOMAIN`
abbrev pub attribute_text : Attribute → List ℕ
attribute_text a = a.name ++ codes " " ++ domain_text (domain_named a.domain)

-- `relation NAME (ATTRIBUTE DOMAIN, ..)`
abbrev pub schema_text : Schema → List ℕ
schema_text s = (codes "relation " ++ s.name ++ codes " (") ++ list_text attribute_text s.attributes ++ codes ")"

-- and after it ` rows LIVE removed REMOVED slots left LEFT`
abbrev pub rows_line : Schema → (live removed left : ℕ) → List ℕ
rows_line s live removed left =
    schema_text s ++ counted_words (codes " rows ") live ++ line (counted_words (codes " removed ") removed ++ counted_words (codes " slots left ") left)

-- the rows that are live, and those that are removed
abbrev pub live_count : List Row → ℕ
live_count rows = length (filter (λ row. row.live) rows)

abbrev pub removed_rows : List Row → ℕ
removed_rows rows = length (filter (λ row. not row.live) rows)

-- 1 of a live row, and 0 of a removed one
abbrev pub mark_of : Row → ℕ
mark_of row = if row.live then 1 else 0

-- the line of a relation that may have this many slots
abbrev pub relation_line : (limit : ℕ) → Relation → List ℕ
relation_line limit r = rows_line r.schema (live_count r.rows) (removed_rows r.rows) (limit - length r.rows)

-- ---- indexes

-- `index NAME.ATTRIBUTE KIND`
abbrev pub index_text : (relation attribute : List ℕ) → IndexKind → List ℕ
index_text relation attribute kind =
    (codes "index " ++ relation ++ codes ".") ++ attribute ++ (codes " " ++ keyword_text (kind_word kind) ++ codes "\n")

-- the line of an index on the attribute at a place, which is there in a sound database
abbrev pub index_placed_text : Schema → (place : ℕ) → IndexKind → List ℕ
index_placed_text s place kind = elim (slice_get s.attributes place) [ None ↦ [] | Some a ↦ index_text s.name a.name kind ]

-- on a relation that is there
abbrev pub index_line_text : List (Option Relation) → Index → List ℕ
index_line_text relations index =
    elim (get_or relations index.relation None) [ None ↦ [] | Some r ↦ index_placed_text r.schema index.attribute index.kind ]

-- ---- the whole

abbrev pub relation_texts : Database → List ℕ
relation_texts db = slot_texts (relation_line (slots_limit db.version)) db.relations

abbrev pub index_texts : Database → List ℕ
index_texts db = slot_texts (index_line_text db.relations) db.indexes

abbrev pub database_lines : Database → List ℕ
database_lines db = relation_texts db ++ index_texts db

-- `flash sectors SECTORS pages free FREE in files FILES in logs LOGS to be collected OLD`
abbrev pub pages_line : (sectors : ℕ) → PageCounts → List ℕ
pages_line sectors p =
    (counted_words (codes "flash sectors ") sectors ++ counted_words (codes " pages free ") p.free)
    ++ counted_words (codes " in files ") p.files
    ++ line (counted_words (codes " in logs ") p.logs ++ counted_words (codes " to be collected ") p.old)

abbrev pub flash_line : List ℕ → List ℕ
flash_line image = pages_line (length image / 4096) (page_counts (units_of image))

abbrev pub look_text : List ℕ → List ℕ
look_text image = database_lines (base image) ++ flash_line image
