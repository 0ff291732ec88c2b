-- What changes of rows and attributes keep: values that suit, and keys that do not fall.
use Rattle.std.proofs.Common.{◌≡◌, refl, sym, ap, subst, ◌∙◌, ℕ, zero, suc, ◌+◌, ◌-◌, ◌≤◌, Bool, true, false, List, [], ◌∷◌, ◌++◌, length, map, filter, cond, Option, Some, None, arith}
use Rattle.std.specs.Prelude.{ℤ, not, ◌&&◌, ◌||◌, is_some, int_lt, slice_get, option_map, option_and_then}
use Rattle.std.specs.Str.{bytes_eq}
use Rattle.std.proofs.lemmas.Slice.Eq.{bytes_eq-Decides}
use Rattle.db_model.specs.declared.schemas.Attribute.{Attribute}
use Rattle.db_model.specs.declared.schemas.Domain.{Domain}
use Rattle.db_model.specs.declared.schemas.Domain.TheVariants as domain
use Rattle.db_model.specs.declared.schemas.IndexKind.{IndexKind}
use Rattle.db_model.specs.declared.values.Value.{Value}
use Rattle.db_model.specs.declared.values.Value.TheVariants as value
use Rattle.db_model.specs.Cond.{Cond}
use Rattle.db_model.specs.Database.{is_among}
use Rattle.db_model.specs.Item.{place_from, selects}
use Rattle.db_model.specs.Row.{Row, suits, AllSuit, AllRowsSuit}
use Rattle.db_model.specs.Sound.{are_distinct, attribute_names}
use Rattle.db_model.specs.Step.{allows, key_of, keys, first_fall, fallen_from, removed_row, unsuited, unsuited_from}
use Rattle.db_model.proofs.Standing.{false_true}
use Rattle.padded.proofs.Facts.{never_some, some_alike}

-- ---- values that suit

suited_from : (n : ℕ) (attributes : List Attribute) (values : List Value) → unsuited_from n attributes values ≡ None → AllSuit attributes values
suited_from n [] [] e = tt
suited_from n [] (v ∷ values) e = absurd (never_some (sym e))
suited_from n (a ∷ attributes) [] e = absurd (never_some (sym e))
suited_from n (a ∷ attributes) (v ∷ values) e = by_test (suits a.domain v) refl e (λ f. suited_from (n + 1) attributes values f)
  where
    by_test : (b : Bool) → suits a.domain v ≡ b → cond b (unsuited_from (n + 1) attributes values) (Some (n + 1)) ≡ None
        → (unsuited_from (n + 1) attributes values ≡ None → AllSuit attributes values) → AllSuit (a ∷ attributes) (v ∷ values)
    by_test true h e rest = (h, rest e)
    by_test false h e rest = absurd (never_some (sym e))

pub suited : (attributes : List Attribute) (values : List Value) → unsuited attributes values ≡ None → AllSuit attributes values
suited [] values e = absurd (never_some (sym e))
suited (a ∷ attributes) values e = suited_from 0 (a ∷ attributes) values e

-- no tuple is one of a relation without attributes
pub suited_some : (attributes : List Attribute) (values : List Value) → unsuited attributes values ≡ None → attributes ≡ [] → ⊥
suited_some [] values e none = never_some (sym e)
suited_some (a ∷ attributes) values e none = let long : length (a ∷ attributes) ≡ length {A = Attribute} [] = ap length none in omega (arith, long)

pub rows_more : (attributes : List Attribute) (rows : List Row) (row : Row) → AllRowsSuit attributes rows → AllSuit attributes row.tuple → AllRowsSuit attributes (rows ++ row ∷ [])
rows_more attributes [] row h s = (s, tt)
rows_more attributes (first ∷ rows) row h s = (h.0, rows_more attributes rows row h.1 s)

pub rows_live : (attributes : List Attribute) (rows : List Row) → AllRowsSuit attributes rows → AllRowsSuit attributes (filter (λ row. row.live) rows)
rows_live attributes [] h = tt
rows_live attributes (row ∷ rows) h = by_test row.live (rows_live attributes rows h.1)
  where
    by_test : (b : Bool) → AllRowsSuit attributes (filter (λ row. row.live) rows) → AllRowsSuit attributes (cond b (row ∷ filter (λ row. row.live) rows) (filter (λ row. row.live) rows))
    by_test true i = (h.0, i)
    by_test false i = i

pub fewer_live : (rows : List Row) → length (filter (λ row. row.live) rows) ≤ length rows
fewer_live [] = omega arith
fewer_live (row ∷ rows) = by_test row.live (fewer_live rows)
  where
    by_test : (b : Bool) → length (filter (λ row. row.live) rows) ≤ length rows → length (cond b (row ∷ filter (λ row. row.live) rows) (filter (λ row. row.live) rows)) ≤ length (row ∷ rows)
    by_test true i = omega (arith, i)
    by_test false i = omega (arith, i)

-- a row that is removed keeps its tuple
removed_tuple : (attributes : List Attribute) (condition : Option Cond) (row : Row) → (removed_row attributes condition row).tuple ≡ row.tuple
removed_tuple attributes condition row = by_test (row.live && selects attributes condition row.tuple)
  where
    gone : Row
    gone = record row { live = false }

    by_test : (b : Bool) → (cond b gone row).tuple ≡ row.tuple
    by_test true = refl
    by_test false = refl

pub rows_removed : (attributes : List Attribute) (condition : Option Cond) (rows : List Row) → AllRowsSuit attributes rows → AllRowsSuit attributes (map (removed_row attributes condition) rows)
rows_removed attributes condition [] h = tt
rows_removed attributes condition (row ∷ rows) h = (subst (AllSuit attributes) (sym (removed_tuple attributes condition row)) h.0, rows_removed attributes condition rows h.1)

pub keys_removed : (attributes : List Attribute) (condition : Option Cond) (place : ℕ) (rows : List Row) → keys place (map (removed_row attributes condition) rows) ≡ keys place rows
keys_removed attributes condition place [] = refl
keys_removed attributes condition place (row ∷ rows) =
    ap (λ tuple. key_of (slice_get tuple place) ∷ keys place (map (removed_row attributes condition) rows)) (removed_tuple attributes condition row)
    ∙ ap (λ ks. key_of (slice_get row.tuple place) ∷ ks) (keys_removed attributes condition place rows)

row_at : (attributes : List Attribute) (rows : List Row) (k : ℕ) (row : Row) → AllRowsSuit attributes rows → slice_get rows k ≡ Some row → AllSuit attributes row.tuple
row_at attributes [] k row h e = absurd (never_some e)
row_at attributes (first ∷ rows) zero row h e = subst (λ r. AllSuit attributes r.tuple) (some_alike e) h.0
row_at attributes (first ∷ rows) (suc k) row h e = row_at attributes rows k row h.1 e

-- ---- numbers under indexes

-- where a kind of index is allowed, a value that suits is a number
pub number_of : (kind : IndexKind) (d : Domain) (v : Value) → allows kind d ≡ true → suits d v ≡ true → (z : ℤ) × (v ≡ value.Number z)
number_of kind d (value.Number z) a s = (z, refl)
number_of kind domain.Int (value.Text bytes) a s = absurd (false_true s)
number_of kind domain.Long (value.Text bytes) a s = absurd (false_true s)
number_of kind domain.Time (value.Text bytes) a s = absurd (false_true s)
number_of kind (domain.Str n) (value.Text bytes) a s = absurd (false_true a)

pub number_at : (kind : IndexKind) (attributes : List Attribute) (values : List Value) (place : ℕ) (a : Attribute) → AllSuit attributes values → slice_get attributes place ≡ Some a → allows kind a.domain ≡ true → (z : ℤ) × (slice_get values place ≡ Some (value.Number z))
number_at kind [] values place a h e k = absurd (never_some e)
number_at kind (b ∷ attributes) [] place a h e k = absurd h
number_at kind (b ∷ attributes) (v ∷ values) zero a h e k =
    let same : a ≡ b = sym (some_alike e) in
    let is = number_of kind b.domain v (ap (λ c. allows kind c.domain) (sym same) ∙ k) h.0 in
    (is.0, ap (λ v. Some v) is.1)
number_at kind (b ∷ attributes) (v ∷ values) (suc place) a h e k = number_at kind attributes values place a h.1 e k

-- ---- keys that do not fall

same_number : {x y : ℤ} → value.Number x ≡ value.Number y → x ≡ y
same_number e = cc

not_fallen : (ordered : ℕ → Bool) (n place : ℕ) (last new : List Value) (a b : ℤ) → fallen_from ordered n last new ≡ None → ordered (n + place) ≡ true
    → slice_get last place ≡ Some (value.Number a) → slice_get new place ≡ Some (value.Number b) → int_lt b a ≡ false
not_fallen ordered n place [] new a b none o l m = absurd (never_some l)
not_fallen ordered n place (v ∷ last) [] a b none o l m = absurd (never_some m)
not_fallen ordered n zero (value.Number x ∷ last) (value.Number y ∷ new) a b none o l m =
    let first : value.Number x ≡ value.Number a = some_alike l in
    let second : value.Number y ≡ value.Number b = some_alike m in
    let is : n + 0 ≡ n = omega arith in
    by_test (int_lt y x) (ap (λ k. ordered k && int_lt y x) (sym is) ∙ ap (λ t. t && int_lt y x) o) none (same_number first) (same_number second) refl
  where
    by_test : (t : Bool) → (ordered n && int_lt y x) ≡ t → cond (ordered n && int_lt y x) (Some x) (fallen_from ordered (n + 1) last new) ≡ None → x ≡ a → y ≡ b → int_lt y x ≡ t → int_lt b a ≡ false
    by_test true h none same other t = absurd (never_some (sym (ap (λ c. cond c (Some x) (fallen_from ordered (n + 1) last new)) (sym h) ∙ none)))
    by_test false h none same other t = ap (λ z. int_lt z a) (sym other) ∙ ap (int_lt y) (sym same) ∙ t
not_fallen ordered n zero (value.Text x ∷ last) (w ∷ new) a b none o l m = let e : value.Text x ≡ value.Number a = some_alike l in absurd (text_number e)
  where
    text_number : value.Text x ≡ value.Number a → ⊥
    text_number e = cc
not_fallen ordered n zero (value.Number x ∷ last) (value.Text y ∷ new) a b none o l m = let e : value.Text y ≡ value.Number b = some_alike m in absurd (text_number e)
  where
    text_number : value.Text y ≡ value.Number b → ⊥
    text_number e = cc
not_fallen ordered n (suc place) (value.Number x ∷ last) (value.Number y ∷ new) a b none o l m =
    by_test (ordered n && int_lt y x) none (λ e. not_fallen ordered (n + 1) place last new a b e (let is : n + suc place ≡ (n + 1) + place = omega arith in ap ordered (sym is) ∙ o) l m)
  where
    by_test : (t : Bool) → cond t (Some x) (fallen_from ordered (n + 1) last new) ≡ None → (fallen_from ordered (n + 1) last new ≡ None → int_lt b a ≡ false) → int_lt b a ≡ false
    by_test true e rest = absurd (never_some (sym e))
    by_test false e rest = rest e
not_fallen ordered n (suc place) (value.Number x ∷ last) (value.Text y ∷ new) a b none o l m =
    not_fallen ordered (n + 1) place last new a b none (let is : n + suc place ≡ (n + 1) + place = omega arith in ap ordered (sym is) ∙ o) l m
not_fallen ordered n (suc place) (value.Text x ∷ last) (w ∷ new) a b none o l m =
    not_fallen ordered (n + 1) place last new a b none (let is : n + suc place ≡ (n + 1) + place = omega arith in ap ordered (sym is) ∙ o) l m

-- one row more, whose key is not less than the last one's
pub keys_rise : (place : ℕ) (rows : List Row) (row : Row) → first_fall (keys place rows) ≡ None
    → ((last : Row) → slice_get rows (length rows - 1) ≡ Some last → int_lt (key_of (slice_get row.tuple place)) (key_of (slice_get last.tuple place)) ≡ false)
    → first_fall (keys place (rows ++ row ∷ [])) ≡ None
keys_rise place [] row none last = refl
keys_rise place (r ∷ []) row none last =
    ap (λ t. cond t (Some (key_of (slice_get r.tuple place))) None) (last r refl)
keys_rise place (r ∷ q ∷ rows) row none last =
    let next : length (r ∷ q ∷ rows) - 1 ≡ suc (length (q ∷ rows) - 1) = omega arith in
    by_test (int_lt (key_of (slice_get q.tuple place)) (key_of (slice_get r.tuple place))) none (λ e. keys_rise place (q ∷ rows) row e (λ l f. last l (ap (slice_get (r ∷ q ∷ rows)) next ∙ f)))
  where
    by_test : (t : Bool) → cond t (Some (key_of (slice_get r.tuple place))) (first_fall (keys place (q ∷ rows))) ≡ None
        → (first_fall (keys place (q ∷ rows)) ≡ None → first_fall (keys place (q ∷ rows ++ row ∷ [])) ≡ None)
        → cond t (Some (key_of (slice_get r.tuple place))) (first_fall (keys place (q ∷ rows ++ row ∷ []))) ≡ None
    by_test true e rest = absurd (never_some (sym e))
    by_test false e rest = rest e

-- an insert that is not refused keeps the order at a place that is to be ordered
pub order_kept : (kind : IndexKind) (attributes : List Attribute) (ordered : ℕ → Bool) (place : ℕ) (a : Attribute) (rows : List Row) (values : List Value) (live : Bool)
    → AllRowsSuit attributes rows → AllSuit attributes values → slice_get attributes place ≡ Some a → allows kind a.domain ≡ true → ordered place ≡ true
    → ((last : Row) → slice_get rows (length rows - 1) ≡ Some last → fallen_from ordered 0 last.tuple values ≡ None)
    → first_fall (keys place rows) ≡ None → first_fall (keys place (rows ++ record { tuple = values; live = live } ∷ [])) ≡ None
order_kept kind attributes ordered place a rows values live all suit at allowed o not none =
    keys_rise place rows (record { tuple = values; live = live }) none
    (λ last e.
    let old = number_at kind attributes last.tuple place a (row_at attributes rows (length rows - 1) last all e) at allowed in
    let new = number_at kind attributes values place a suit at allowed in
    let is : 0 + place ≡ place = omega arith in
    ap (λ v. int_lt v (key_of (slice_get last.tuple place))) (ap key_of new.1) ∙ ap (int_lt new.0) (ap key_of old.1)
    ∙ not_fallen ordered 0 place last.tuple values old.0 new.0 (not last e) (ap ordered is ∙ o) old.1 new.1)

-- ---- attributes

-- an attribute behind all others is at none of their places
pub placed_more : (attributes : List Attribute) (b : Attribute) (place : ℕ) (a : Attribute) → slice_get attributes place ≡ Some a → slice_get (attributes ++ b ∷ []) place ≡ Some a
placed_more [] b place a e = absurd (never_some e)
placed_more (c ∷ attributes) b zero a e = e
placed_more (c ∷ attributes) b (suc place) a e = placed_more attributes b place a e

among_more : (name new : List ℕ) (attributes : List Attribute) (b : Attribute) → b.name ≡ new → is_among name (attribute_names attributes) ≡ false → bytes_eq new name ≡ false → is_among name (attribute_names (attributes ++ b ∷ [])) ≡ false
among_more name new [] b is none apart = ap (λ n. bytes_eq n name || false) is ∙ ap (λ t. t || false) apart
among_more name new (a ∷ attributes) b is none apart = by_test (bytes_eq a.name name) none (λ e. among_more name new attributes b is e apart)
  where
    by_test : (t : Bool) → (t || is_among name (attribute_names attributes)) ≡ false → (is_among name (attribute_names attributes) ≡ false → is_among name (attribute_names (attributes ++ b ∷ [])) ≡ false) → (t || is_among name (attribute_names (attributes ++ b ∷ []))) ≡ false
    by_test true e rest = absurd (false_true (sym e))
    by_test false e rest = rest e

-- whether two names are one does not depend on their order
pub other_name : (m n : List ℕ) → bytes_eq m n ≡ false → bytes_eq n m ≡ false
other_name m n h = by_test (bytes_eq n m) refl
  where
    by_test : (b : Bool) → bytes_eq n m ≡ b → b ≡ false
    by_test true e = absurd (false_true (sym h ∙ (bytes_eq-Decides m n).1 (sym ((bytes_eq-Decides n m).0 e))))
    by_test false e = refl

-- a new name behind distinct ones
pub distinct_more : (n : ℕ) (attributes : List Attribute) (b : Attribute) → is_some (place_from b.name n attributes) ≡ false → are_distinct (attribute_names attributes) ≡ true → are_distinct (attribute_names (attributes ++ b ∷ [])) ≡ true
distinct_more n [] b fresh distinct = refl
distinct_more n (a ∷ attributes) b fresh distinct =
    by_test (is_among a.name (attribute_names attributes)) (bytes_eq a.name b.name) refl refl fresh distinct (λ f d. distinct_more (n + 1) attributes b f d)
  where
    by_test : (s t : Bool) → is_among a.name (attribute_names attributes) ≡ s → bytes_eq a.name b.name ≡ t → is_some (cond t (Some n) (place_from b.name (n + 1) attributes)) ≡ false → (not s && are_distinct (attribute_names attributes)) ≡ true
        → (is_some (place_from b.name (n + 1) attributes) ≡ false → are_distinct (attribute_names attributes) ≡ true → are_distinct (attribute_names (attributes ++ b ∷ [])) ≡ true)
        → (not (is_among a.name (attribute_names (attributes ++ b ∷ []))) && are_distinct (attribute_names (attributes ++ b ∷ []))) ≡ true
    by_test true t among same fresh distinct rest = absurd (false_true distinct)
    by_test false true among same fresh distinct rest = absurd (false_true (sym fresh))
    by_test false false among same fresh distinct rest =
        ap (λ c. not c && are_distinct (attribute_names (attributes ++ b ∷ []))) (among_more a.name b.name attributes b refl among (other_name a.name b.name same)) ∙ rest fresh distinct

-- the domain of an attribute by name is that of the attribute at its place
pub domain_at : (attributes : List Attribute) (place : Option ℕ) (k : ℕ) (d : Domain) → place ≡ Some k → option_map (λ a. a.domain) (option_and_then (slice_get attributes) place) ≡ Some d
    → (a : Attribute) × (slice_get attributes k ≡ Some a) × (a.domain ≡ d)
domain_at attributes None k d p e = absurd (never_some p)
domain_at attributes (Some j) k d p e = at_slot (slice_get attributes j) (ap (slice_get attributes) (some_alike p)) e
  where
    at_slot : (o : Option Attribute) → o ≡ slice_get attributes k → option_map (λ a. a.domain) o ≡ Some d → (a : Attribute) × (slice_get attributes k ≡ Some a) × (a.domain ≡ d)
    at_slot None same e = absurd (never_some e)
    at_slot (Some a) same e = (a, sym same, some_alike e)
