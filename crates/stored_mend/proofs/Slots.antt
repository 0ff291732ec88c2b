-- Where a field of a row stands in a file.
use Rattle.std.proofs.Common.{◌≡◌, ℕ, ◌+◌, ◌*◌, ◌/◌, ◌<◌, ◌≤◌, List, length, get_or, take, Some, ap, sym, ◌∙◌, arith}
use Rattle.std.proofs.Math.Nat.{mul-div-le}
use Rattle.std.proofs.lemmas.Option.{slice_get-get_or}
use Rattle.db_model.specs.declared.schemas.Attribute.{Attribute}
use Rattle.db_model.specs.Row.{fields_length, width}
use Rattle.db_model.proofs.Decoded.{field_inside}
use Rattle.db_model.proofs.Rows.{slot_inside}

-- a field of a row lies in the file
pub field_of_slot : (row size slot at width : ℕ) → at + width ≤ row → slot < size / row → row * slot + at + width ≤ size
field_of_slot row size slot at width inside below =
    let one : row * slot + row ≤ row * (size / row) = slot_inside row slot (size / row) below in
    let all : row * (size / row) ≤ size = mul-div-le size row in
    omega (arith, one, all, inside)

-- an attribute's field lies in the fields
pub inside_at : (attributes : List Attribute) (k : ℕ) (a : Attribute) → k < length attributes → a ≡ get_or attributes k a → fields_length (take k attributes) + width a.domain ≤ fields_length attributes
inside_at attributes k a below is = field_inside attributes k a (slice_get-get_or attributes k a below ∙ ap (λ (x : Attribute). Some x) (sym is))
