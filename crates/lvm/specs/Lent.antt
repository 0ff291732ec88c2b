-- Results that lend their texts.
use Rattle.std.specs.Prelude.{◌≡◌, IfSome, List, Option, map, Some, None, slice_get}
use Rattle.db_model.specs.declared.values.Value.{Value}
use Rattle.lvm.specs.declared.comparing.Last.{Last}
use Rattle.lvm.specs.declared.item.Item as declared
use Rattle.lvm.specs.declared.item.Item.TheVariants as lent
use Rattle.lvm.specs.Evaluate.{Item, Number, Text, Truth, item_of_value}

-- what a result stands for
abbrev pub item_of : declared.Item → Item
item_of lent.Undefined = Number None
item_of (lent.Number z) = Number (Some z)
item_of (lent.Text bytes) = Text bytes.now
item_of (lent.Truth b) = Truth b

abbrev pub items_of : List declared.Item → List Item
items_of s = map item_of s

-- what was read last is the number at its place
abbrev pub IsRead : List Value → Option Last → Type 0
IsRead values last = IfSome last (λ l. item_of_value (slice_get values l.place) ≡ Number (Some l.number))
