-- The words that the program is called with.
use Rattle.std.specs.Prelude.{⊤, ◌≤◌, ℕ, ◌+◌, ◌-◌, ◌*◌, Bool, true, not, ◌&&◌, ◌==◌, List, [], ◌∷◌, drop, length, nat_eq, nat_le, take, codes, Option, None, Some, option_map, option_and_then, if◌then◌else◌}
use Rattle.std.specs.Char.{is_ascii_digit}
use Rattle.std.specs.Cmp.Lexicographic.{pointwise}
use Rattle.std.specs.List.{list_all, list_any, prefix_len}
use Rattle.std.specs.Str.{bytes_eq}
use Rattle.std.specs.String.{string_bytes}
use Rattle.std.specs.declared.string.String.{String}
use Rattle.db_model.specs.Names.{is_name}
use Rattle.space_plan.specs.declared.further.FurtherRows.TheVariants.{Each, Named}
use Rattle.space_plan.specs.declared.further.NamedRows.{NamedRows}
use Rattle.run_words.specs.declared.words.Form.{Form}
use Rattle.run_words.specs.declared.words.Form.TheVariants.{Run, Gen, Plan, Serve, Dump, Look}

-- the number that digits after a number make of it
abbrev pub value_from : ℕ → List ℕ → ℕ
value_from n [] = n
value_from n (b ∷ bs) = value_from (10 * n + (b - 48)) bs

-- a number, where it is at most this one
abbrev pub at_most : ℕ → ℕ → Option ℕ
at_most most n = if nat_le n most then Some n else None

-- 1 to this many decimal digits with a value in a range
abbrev pub number_word : (digits least most : ℕ) → List ℕ → Option ℕ
number_word digits least most word =
    if nat_le 1 (length word) && nat_le (length word) digits && list_all is_ascii_digit word
    then (if nat_le least (value_from 0 word) then at_most most (value_from 0 word) else None) else None

-- a seed and a count
abbrev pub generated_by : List ℕ → List ℕ → Option Form
generated_by seed count =
    option_and_then (λ s. option_map (λ c. Gen s c) (number_word 6 1 100000 count)) (number_word 10 0 4294967295 seed)

abbrev pub is_literal_word : List ℕ → List ℕ → Bool
is_literal_word name word = pointwise nat_eq name word

-- ---- how many rows are planned for

abbrev pub rows_word : List ℕ → Option ℕ
rows_word word = number_word 5 0 32767 word

-- ROWS, where it is the only word
abbrev pub rows_alone : {A : Type 0} → List (String A) → Option ℕ
rows_alone (word ∷ []) = rows_word (string_bytes word)
rows_alone _ = None

-- no `=`
abbrev pub is_no_sign : ℕ → Bool
is_no_sign b = not (b == 61)

-- this many rows for a name, by what stands after it: `=` and digits
abbrev pub rows_behind : List ℕ → List ℕ → Option NamedRows
rows_behind name [] = None
rows_behind name (sign ∷ digits) =
    if is_name name then option_map (λ n. record { relation = name; rows = n }) (rows_word digits) else None

-- NAME=ROWS, whose name ends at the first `=`
abbrev pub named_rows : List ℕ → Option NamedRows
named_rows word = let len = prefix_len is_no_sign word in rows_behind (take len word) (drop len word)

abbrev pub all_named : {A : Type 0} → List (String A) → Option (List NamedRows)
all_named [] = Some []
all_named (word ∷ words) =
    option_and_then (λ first. option_map (λ others. first ∷ others) (all_named words)) (named_rows (string_bytes word))

abbrev pub is_listed_among : List ℕ → List NamedRows → Bool
is_listed_among name all = list_any (λ other. bytes_eq other.relation name) all

-- no name is there twice
abbrev pub names_differ : List NamedRows → Bool
names_differ [] = true
names_differ (first ∷ others) = not (is_listed_among first.relation others) && names_differ others

-- 1 to 8 words NAME=ROWS with names that differ
abbrev pub named_by : {A : Type 0} → List (String A) → Option Form
named_by words =
    if nat_le 1 (length words) && nat_le (length words) 8
    then option_and_then (λ all. if names_differ all then Some (Plan (Named all)) else None) (all_named words) else None

abbrev pub planned_by : {A : Type 0} → List (String A) → Option Form
planned_by words = elim (rows_alone words) [ Some n ↦ Some (Plan (Each n)) | None ↦ named_by words ]

-- ---- after the name comes the image, and then none, one or two words, or those of a plan

abbrev pub alone : List ℕ → Option Form
alone name =
    if is_literal_word name (codes "dump") then Some Dump else
    (if is_literal_word name (codes "look") then Some Look else None)

abbrev pub with_one : List ℕ → Option Form
with_one name =
    if is_literal_word name (codes "run") then Some Run else
    (if is_literal_word name (codes "serve") then Some Serve else None)

abbrev pub with_two : List ℕ → List ℕ → List ℕ → Option Form
with_two name one other = if is_literal_word name (codes "gen") then generated_by one other else None

abbrev pub unplanned : {A : Type 0} → List ℕ → List (String A) → Option Form
unplanned name [] = alone name
unplanned name (input ∷ []) = with_one name
unplanned name (one ∷ other ∷ []) = with_two name (string_bytes one) (string_bytes other)
unplanned name _ = None

abbrev pub form_of : {A : Type 0} → List (String A) → Option Form
form_of (name ∷ image ∷ words) =
    if is_literal_word (string_bytes name) (codes "plan") then planned_by words else unplanned (string_bytes name) words
form_of _ = None

-- the commands that are to be generated are at most 100,000
abbrev pub HasFewCommands : Form → Type 0
HasFewCommands (Gen seed count) = count ≤ 100000
HasFewCommands _ = ⊤
