-- The places of what a query names.
use Rattle.std.specs.Prelude.{◌≡◌, ℕ, Bool, ◌||◌, List, [], ◌∷◌, length, Option, Some, option_and_then, option_map}
use Rattle.std.specs.List.{AllByRecursion}
use Rattle.std.specs.Option.{option_or}
use Rattle.db_model.specs.declared.commands.Agg.{Agg}
use Rattle.db_model.specs.declared.refusals.Refusal.{Refusal}
use Rattle.db_model.specs.declared.refusals.Refusal.TheVariants as no
use Rattle.db_model.specs.declared.schemas.Attribute.{Attribute}
use Rattle.db_model.specs.Item.{place_of}
use Rattle.db_model.specs.Row.{Row}
use Rattle.db_model.specs.Typing.{is_attribute}
use Rattle.session_model.specs.declared.held.Side.{Side}
use Rattle.session_model.specs.declared.held.Side.TheVariants.{Left, Right}

-- the places of some names, none where one of them is no attribute
abbrev pub places_named : List Attribute → List (List ℕ) → Option (List ℕ)
places_named attributes [] = Some []
places_named attributes (name ∷ names) =
    option_and_then (λ place. option_map (λ places. place ∷ places) (places_named attributes names)) (place_of name attributes)

-- of two relations the left one's attribute of a name, else the right one's
abbrev pub side_of : List Attribute → List Attribute → List ℕ → Option Side
side_of left right name = option_or (option_map (λ k. Left k) (place_of name left)) (option_map (λ k. Right k) (place_of name right))

abbrev pub is_on_either : List Attribute → List Attribute → List ℕ → Bool
is_on_either left right name = is_attribute left name || is_attribute right name

abbrev pub sides_of : List Attribute → List Attribute → List (List ℕ) → Option (List Side)
sides_of left right [] = Some []
sides_of left right (name ∷ names) =
    option_and_then (λ side. option_map (λ sides. side ∷ sides) (sides_of left right names)) (side_of left right name)

abbrev pub is_named : List Attribute → Agg × List ℕ → Bool
is_named attributes item = is_attribute attributes item.1

-- aggregates of places for aggregates of names
abbrev pub aggregates_at : List Attribute → List (Agg × List ℕ) → Option (List (Agg × ℕ))
aggregates_at attributes [] = Some []
aggregates_at attributes (item ∷ list) =
    option_and_then (λ place. option_map (λ items. (item.0, place) ∷ items) (aggregates_at attributes list)) (place_of item.1 attributes)

-- what is refused first: the types of a list come before those of a condition, and after all names
abbrev pub first_of : Option ℕ → Refusal → Refusal
first_of (Some nth) (no.IllTyped m) = no.IllTyped nth
first_of _ refusal = refusal

-- each row has a value for each attribute
abbrev pub AreWhole : List Attribute → List Row → Type 0
AreWhole attributes rows = AllByRecursion (λ row. length row.tuple ≡ length attributes) rows
