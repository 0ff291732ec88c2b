-- What queries and aggregates answer.
use Rattle.std.specs.Prelude.{ℕ, ℤ, pos, ◌-◌, ◌/◌, ◌+ℤ◌, Bool, false, List, [], ◌∷◌, map, length, Option, Some, None, unwrap_or, slice_get, filter, flat_map, fold, if◌then◌else◌, int_le, int_div}
use Rattle.std.specs.Int.{int_min, int_max}
use Rattle.std.specs.Option.{option_or}
use Rattle.std.specs.Ordering.{int_eq}
use Rattle.std.specs.Str.{bytes_eq}
use Rattle.db_model.specs.declared.commands.Agg.{Agg}
use Rattle.db_model.specs.declared.commands.Agg.TheVariants as agg
use Rattle.db_model.specs.declared.schemas.Attribute.{Attribute}
use Rattle.db_model.specs.declared.values.Value.{Value}
use Rattle.db_model.specs.declared.values.Value.TheVariants as value
use Rattle.db_model.specs.Cond.{Cond}
use Rattle.db_model.specs.Row.{Row}
use Rattle.db_model.specs.Item.{value_of, selects}

-- the tuples of the live rows, in slot order
abbrev pub live_tuples : List Row → List (List Value)
live_tuples [] = []
live_tuples (row ∷ rows) = if row.live then row.tuple ∷ live_tuples rows else live_tuples rows

-- the tuples that a condition selects
abbrev pub selected : List Attribute → Option Cond → List Row → List (List Value)
selected attributes condition rows = filter (selects attributes condition) (live_tuples rows)

-- ---- select

-- the values of the named attributes; each name is an attribute's where a query is answered
abbrev pub projected : List Attribute → List (List ℕ) → List Value → List Value
projected attributes list tuple = map (λ name. unwrap_or (value_of attributes tuple name) (value.Number (pos 0))) list

abbrev pub select : List Attribute → List (List ℕ) → Option Cond → List Row → List (List Value)
select attributes list condition rows = map (projected attributes list) (selected attributes condition rows)

-- ---- join

-- all pairs, by the left and then the right
abbrev pub pairs : {A B : Type 0} → List A → List B → List (A × B)
pairs xs ys = flat_map (λ x. map (λ y. (x, y)) ys) xs

-- two values are the same number or the same text
abbrev pub same_value : Option Value → Option Value → Bool
same_value (Some (value.Number x)) (Some (value.Number y)) = int_eq x y
same_value (Some (value.Text x)) (Some (value.Text y)) = bytes_eq x y
same_value _ _ = false

-- the values of the named attributes of a pair: the left relation's, and where it has none of that name the right relation's
abbrev pub projected_pair : List Attribute → List Attribute → List (List ℕ) → List Value × List Value → List Value
projected_pair left right list pair =
    map (λ name. unwrap_or (option_or (value_of left pair.0 name) (value_of right pair.1 name)) (value.Number (pos 0))) list

abbrev pub join : List Attribute → List Attribute → List ℕ → List (List ℕ) → List Row → List Row → List (List Value)
join left right on list left_rows right_rows =
    map (projected_pair left right list)
    (filter (λ pair. same_value (value_of left pair.0 on) (value_of right pair.1 on)) (pairs (live_tuples left_rows) (live_tuples right_rows)))

-- ---- aggregates

-- the numbers among values
abbrev pub numbers : List Value → List ℤ
numbers [] = []
numbers (value.Number z ∷ values) = z ∷ numbers values
numbers (value.Text bytes ∷ values) = numbers values

abbrev pub total : List ℤ → ℤ
total zs = fold (λ sum z. sum +ℤ z) (pos 0) zs

abbrev pub least : List ℤ → Option ℤ
least [] = None
least (z ∷ zs) = Some (fold int_min z zs)

abbrev pub greatest : List ℤ → Option ℤ
greatest [] = None
greatest (z ∷ zs) = Some (fold int_max z zs)

-- the sum divided by the number, rounded toward zero
abbrev pub mean : List ℤ → Option ℤ
mean [] = None
mean (z ∷ zs) = Some (int_div (total (z ∷ zs)) (pos (length (z ∷ zs))))

-- a number put into a rising list
abbrev pub placed : ℤ → List ℤ → List ℤ
placed x [] = x ∷ []
placed x (z ∷ zs) = if int_le x z then x ∷ z ∷ zs else z ∷ placed x zs

abbrev pub rising : List ℤ → List ℤ
rising [] = []
rising (z ∷ zs) = placed z (rising zs)

-- the middle of the rising list, the lower one of two
abbrev pub median : List ℤ → Option ℤ
median zs = slice_get (rising zs) ((length zs - 1) / 2)

-- an aggregate of the selected values of an attribute; none where it has no value
abbrev pub aggregate : Agg → List Value → Option ℤ
aggregate agg.Count values = Some (pos (length values))
aggregate agg.Sum values = Some (total (numbers values))
aggregate agg.Min values = least (numbers values)
aggregate agg.Max values = greatest (numbers values)
aggregate agg.Mean values = mean (numbers values)
aggregate agg.Median values = median (numbers values)

-- the values of an attribute in some tuples
abbrev pub column : List Attribute → List ℕ → List (List Value) → List Value
column attributes name tuples = map (λ tuple. unwrap_or (value_of attributes tuple name) (value.Number (pos 0))) tuples

abbrev pub aggregated : List Attribute → List (Agg × List ℕ) → Option Cond → List Row → List (Option ℤ)
aggregated attributes list condition rows = map (λ item. aggregate item.0 (column attributes item.1 (selected attributes condition rows))) list
