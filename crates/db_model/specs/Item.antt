-- What expressions and conditions are of a tuple.
use Rattle.std.specs.Prelude.{ℕ, ℤ, pos, negsuc, ◌+◌, ◌^◌, ◌+ℤ◌, ◌-ℤ◌, ◌*ℤ◌, Bool, true, false, not, ◌&&◌, ◌||◌, List, [], ◌∷◌, Option, Some, None, option_and_then, slice_get, if◌then◌else◌, nat_lt, int_div}
use Rattle.std.specs.declared.cmp.Ordering.{Ordering}
use Rattle.std.specs.Ordering.{int_cmp, nat_cmp, int_eq, is_eq, is_ne, is_lt, is_le, is_gt, is_ge}
use Rattle.std.specs.Cmp.Lexicographic.{slice_cmp}
use Rattle.std.specs.Str.{bytes_eq}
use Rattle.db_model.specs.declared.commands.Compare.{Compare}
use Rattle.db_model.specs.declared.commands.Compare.TheVariants as compare
use Rattle.db_model.specs.declared.schemas.Attribute.{Attribute}
use Rattle.db_model.specs.declared.values.Value.{Value}
use Rattle.db_model.specs.declared.values.Value.TheVariants as value
use Rattle.db_model.specs.Cond.{Number, Text, Attribute as Name, Arithmetic, Plus, Minus, Times, Over, Expr, Tip, Arith, Cond, Comparison, Not, And, Or}

-- ---- attributes by name

-- the place of the first attribute of that name, the list's first being at n
abbrev pub place_from : List ℕ → ℕ → List Attribute → Option ℕ
place_from name n [] = None
place_from name n (a ∷ attributes) = if bytes_eq a.name name then Some n else place_from name (n + 1) attributes

-- the place of the attribute of that name, counted from 0
abbrev pub place_of : List ℕ → List Attribute → Option ℕ
place_of name attributes = place_from name 0 attributes

-- the value of the attribute of that name
abbrev pub value_of : List Attribute → List Value → List ℕ → Option Value
value_of attributes values name = option_and_then (slice_get values) (place_of name attributes)

-- ---- numbers of signed 64 bits

abbrev pub fits_i64 : ℤ → Bool
fits_i64 (pos n) = nat_lt n (2 ^ 63)
fits_i64 (negsuc n) = nat_lt n (2 ^ 63)

-- a result of arithmetic, undefined where it does not fit
abbrev pub fitting : ℤ → Option ℤ
fitting z = if fits_i64 z then Some z else None

-- x and y under a sign; a quotient is rounded toward zero, and none by 0 is defined
abbrev pub calculated : Arithmetic → ℤ → ℤ → Option ℤ
calculated Plus x y = fitting (x +ℤ y)
calculated Minus x y = fitting (x -ℤ y)
calculated Times x y = fitting (x *ℤ y)
calculated Over x y = if int_eq y (pos 0) then None else fitting (int_div x y)

-- ---- expressions

-- what an expression is: a number, which may be undefined, or a text
pub data Item : Type 0 where
  OfNumber : Option ℤ → Item
  OfText : List ℕ → Item

abbrev pub item_of : Option Value → Item
item_of (Some (value.Number z)) = OfNumber (Some z)
item_of (Some (value.Text bytes)) = OfText bytes
item_of None = OfNumber None

-- anything over an undefined side is undefined, and so is a text under arithmetic
abbrev pub joined_items : Arithmetic → Item → Item → Item
joined_items sign (OfNumber (Some x)) (OfNumber (Some y)) = OfNumber (calculated sign x y)
joined_items sign _ _ = OfNumber None

abbrev pub item : List Attribute → List Value → Expr → Item
item attributes values (Tip (Number z)) = OfNumber (Some z)
item attributes values (Tip (Text bytes)) = OfText bytes
item attributes values (Tip (Name name)) = item_of (value_of attributes values name)
item attributes values (Arith sign a b) = joined_items sign (item attributes values a) (item attributes values b)

-- ---- conditions

abbrev pub satisfies : Compare → Ordering → Bool
satisfies compare.Eq order = is_eq order
satisfies compare.Ne order = is_ne order
satisfies compare.Lt order = is_lt order
satisfies compare.Le order = is_le order
satisfies compare.Gt order = is_gt order
satisfies compare.Ge order = is_ge order

-- texts by their bytes, a proper prefix being less; a comparison with an undefined side is false
abbrev pub compared : Compare → Item → Item → Bool
compared how (OfNumber (Some x)) (OfNumber (Some y)) = satisfies how (int_cmp x y)
compared how (OfText x) (OfText y) = satisfies how (slice_cmp nat_cmp x y)
compared how _ _ = false

abbrev pub holds : List Attribute → List Value → Cond → Bool
holds attributes values (Comparison how a b) = compared how (item attributes values a) (item attributes values b)
holds attributes values (Not c) = not (holds attributes values c)
holds attributes values (And c d) = holds attributes values c && holds attributes values d
holds attributes values (Or c d) = holds attributes values c || holds attributes values d

-- whether a tuple is selected: where there is no condition, each is
abbrev pub selects : List Attribute → Option Cond → List Value → Bool
selects attributes None values = true
selects attributes (Some c) values = holds attributes values c
