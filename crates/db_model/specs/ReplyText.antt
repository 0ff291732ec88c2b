-- The text of a reply: lines that end with LF.
use Rattle.std.specs.Prelude.{ℕ, ℤ, List, [], ◌∷◌, ◌++◌, map, length, flat_map, Option, Some, None, codes, decimal}
use Rattle.std.specs.Fmt.{signed_decimal}
use Rattle.std.specs.List.{join_with_byte}
use Rattle.db_model.specs.declared.refusals.Pool.{Pool}
use Rattle.db_model.specs.declared.refusals.Pool.TheVariants as pool
use Rattle.db_model.specs.declared.refusals.Refusal.{Refusal}
use Rattle.db_model.specs.declared.refusals.Refusal.TheVariants as no
use Rattle.db_model.specs.declared.values.Value.{Value}
use Rattle.db_model.specs.declared.values.Value.TheVariants.{Number, Text}
use Rattle.db_model.specs.Step.{Reply, Fine, Rows, Numbers, Removed, Refused}

abbrev pub line : List ℕ → List ℕ
line bytes = bytes ++ 10 ∷ []

-- a number in decimal, a text between quotes
abbrev pub value_text : Value → List ℕ
value_text (Number z) = signed_decimal z
value_text (Text bytes) = 39 ∷ bytes ++ 39 ∷ []

-- the values with commas between them
unfoldable pub row_text : List Value → List ℕ
row_text values = line (join_with_byte 44 (map value_text values))

-- an aggregate without a value is `-`
abbrev pub number_text : Option ℤ → List ℕ
number_text (Some z) = signed_decimal z
number_text None = 45 ∷ []

unfoldable pub numbers_text : List (Option ℤ) → List ℕ
numbers_text numbers = line (join_with_byte 44 (map number_text numbers))

-- the line that ends rows
unfoldable pub count_text : ℕ → List ℕ
count_text n = line (codes "rows " ++ decimal n)

unfoldable pub ok_text : List ℕ
ok_text = line (codes "ok")

-- ---- refusals

abbrev pub pool_text : Pool → List ℕ
pool_text pool.Relations = codes "relations"
pool_text pool.Attributes = codes "attributes"
pool_text pool.RowBytes = codes "rowbytes"
pool_text pool.Slots = codes "slots"
pool_text pool.Indexes = codes "indexes"
pool_text pool.HashTables = codes "hashtables"
pool_text pool.HashEntries = codes "hashentries"
pool_text pool.Nodes = codes "nodes"

-- what follows `no ` in the line of a refusal
abbrev pub reason_text : Refusal → List ℕ
reason_text (no.Syntax at) = codes "syntax " ++ decimal at
reason_text no.Long = codes "long"
reason_text no.Unfinished = codes "unfinished"
reason_text no.NoRelation = codes "relation"
reason_text (no.NoAttribute nth) = codes "attribute " ++ decimal nth
reason_text no.Exists = codes "exists"
reason_text no.NotEmpty = codes "empty"
reason_text (no.Value nth) = codes "value " ++ decimal nth
reason_text (no.IllTyped nth) = codes "type " ++ decimal nth
reason_text no.Domain = codes "domain"
reason_text (no.Full p limit) = codes "full " ++ pool_text p ++ codes " " ++ decimal limit
reason_text (no.NotOrdered last) = codes "ordered " ++ signed_decimal last
reason_text (no.InUse cursor) = codes "inuse " ++ decimal cursor
reason_text no.HasIndex = codes "indexed"
reason_text no.NoIndex = codes "index"
reason_text no.NoCursor = codes "cursor"
reason_text no.CursorOpen = codes "open"
reason_text (no.Space need) = codes "space " ++ decimal need
reason_text no.Frame = codes "frame"

unfoldable pub refusal_text : Refusal → List ℕ
refusal_text refusal = line (codes "no " ++ reason_text refusal)

-- ---- replies

-- rows, then their number; aggregates are one row
abbrev pub text_of : Reply → List ℕ
text_of Fine = ok_text
text_of (Rows rows) = flat_map row_text rows ++ count_text (length rows)
text_of (Numbers numbers) = numbers_text numbers ++ count_text 1
text_of (Removed n) = count_text n
text_of (Refused refusal) = refusal_text refusal

-- the bytes of a reply
unfoldable pub text : Reply → List ℕ
text reply = text_of reply
