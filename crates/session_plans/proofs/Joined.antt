-- A JOIN, planned.
use Rattle.std.proofs.Common.{◌≡◌, ℕ, suc, ◌+◌, ◌<◌, Bool, true, false, cond, List, [], ◌∷◌, ◌++◌, filter, get_or, length, map, Option, Some, None, Result, Ok, refl, ap, sym, ◌∙◌, arith, option_map, option_and_then}
use Rattle.std.specs.Prelude.{◌*◌, drop, unwrap_or, slice_get, slice_range, pos}
use Rattle.std.specs.List.{AllByRecursion, range_with_len}
use Rattle.std.specs.Option.{option_or}
use Rattle.std.specs.Str.{bytes_eq}
use Rattle.std.proofs.lemmas.Option.{slice_get-get_or, slice_get_read, unwrap_or-slice_get}
use Rattle.db_model.specs.declared.refusals.Refusal.{Refusal}
use Rattle.db_model.specs.declared.schemas.Attribute.{Attribute}
use Rattle.db_model.specs.declared.values.Value.{Value}
use Rattle.db_model.specs.declared.values.Value.TheVariants.{Number}
use Rattle.db_model.specs.Answers.{join, live_tuples, pairs, projected_pair, same_value}
use Rattle.db_model.specs.Database.{Relation}
use Rattle.db_model.specs.Item.{place_from, place_of}
use Rattle.db_model.specs.Row.{Row, row_at, row_length, rows_of, tuple_of, slots_in_bytes, width}
use Rattle.db_model.specs.Step.{join_of, joins}
use Rattle.db_model.specs.Typing.{domain_of, first_false}
use Rattle.cursor.specs.Pairs.{matching}
use Rattle.session_model.specs.declared.held.Side.{Side}
use Rattle.session_model.specs.declared.held.Side.TheVariants.{Left, Right}
use Rattle.session_model.specs.View.{project_pair, value_of_side}
use Rattle.session_plans.specs.Places.{AreWhole, is_on_either, side_of, sides_of}
use Rattle.session_plans.proofs.Places.{parts}

-- ---- places

below_step : (b : Bool) (n k m : ℕ) (rest : Option ℕ) → (rest ≡ Some k → k < n + 1 + m) → cond b (Some n) rest ≡ Some k → k < n + suc m
below_step true n k m rest h e = let f : n ≡ k = cc in omega arith
below_step false n k m rest h e = let f = h e in omega arith

below_from : (name : List ℕ) (n k : ℕ) (attributes : List Attribute) → place_from name n attributes ≡ Some k → k < n + length attributes
below_from name n k [] e = absurd (cc)
below_from name n k (a ∷ attributes) e = below_step (bytes_eq a.name name) n k (length attributes) (place_from name (n + 1) attributes) (below_from name (n + 1) k attributes) e

place_below : (name : List ℕ) (k : ℕ) (attributes : List Attribute) → place_of name attributes ≡ Some k → k < length attributes
place_below name k attributes e = let h = below_from name 0 k attributes e in omega arith

-- the domain of the attribute of a name is that of the attribute at its place
pub domain_there : (attributes : List Attribute) (name : List ℕ) (k : ℕ) (a : Attribute) → place_of name attributes ≡ Some k → a ≡ get_or attributes k a → domain_of attributes name ≡ Some a.domain
domain_there attributes name k a e is =
    let below : k < length attributes = place_below name k attributes e in
    ap (λ (p : Option ℕ). option_map (λ (b : Attribute). b.domain) (option_and_then (slice_get attributes) p)) e
    ∙ ap (option_map (λ (b : Attribute). b.domain)) (slice_get_read attributes (length attributes) k a refl below is)

-- ---- what is projected of a pair

unwrapped : Option Value → Value
unwrapped v = unwrap_or v (Number (pos 0))

one_side : (k m : Option ℕ) (side : Side) (pair : List Value × List Value) → ((n : ℕ) → k ≡ Some n → n < length pair.0) → option_or (option_map (λ n. Left n) k) (option_map (λ n. Right n) m) ≡ Some side
    → unwrapped (option_or (option_and_then (slice_get pair.0) k) (option_and_then (slice_get pair.1) m)) ≡ value_of_side pair side
unfolding unwrapped
one_side (Some n) m (Left k) pair below e =
    let same : n ≡ k = cc in
    ap (λ (v : Option Value). unwrap_or (option_or v (option_and_then (slice_get pair.1) m)) (Number (pos 0))) (slice_get-get_or pair.0 n (Number (pos 0)) (below n refl))
    ∙ ap (λ (i : ℕ). get_or pair.0 i (Number (pos 0))) same
one_side (Some n) m (Right k) pair below e = absurd (cc)
one_side None (Some n) (Right k) pair below e =
    let same : n ≡ k = cc in
    unwrap_or-slice_get pair.1 n (Number (pos 0)) ∙ ap (λ (i : ℕ). get_or pair.1 i (Number (pos 0))) same
one_side None (Some n) (Left k) pair below e = absurd (cc)
one_side None None side pair below e = absurd (cc)

module _ (left right : List Attribute) (pair : List Value × List Value) (whole : length pair.0 ≡ length left) where
  pub pair_projects : (list : List (List ℕ)) (places : List Side) → sides_of left right list ≡ Some places → projected_pair left right list pair ≡ project_pair places pair
  unfolding unwrapped
  pair_projects [] places e = let f : places ≡ [] = cc in ap (λ (ps : List Side). project_pair ps pair) (sym f)
  pair_projects (name ∷ list) places e =
      let p = parts (λ (s : Side) (ss : List Side). s ∷ ss) (side_of left right name) (sides_of left right list) places e in
      let below : (n : ℕ) → place_of name left ≡ Some n → n < length pair.0 = λ n is. (let h : n < length left = place_below name n left is in omega (arith, whole)) in
      ap (λ (v : Value). v ∷ projected_pair left right list pair) (one_side (place_of name left) (place_of name right) p.one pair below p.first_is)
      ∙ ap (λ (vs : List Value). value_of_side pair p.one ∷ vs) (pair_projects list p.others p.rest_is)
      ∙ ap (λ (ps : List Side). project_pair ps pair) (sym p.all_is)

-- ---- whole rows

whole_tuple : (attributes : List Attribute) (bytes : List ℕ) → length (tuple_of attributes bytes) ≡ length attributes
whole_tuple [] bytes = refl
whole_tuple (a ∷ attributes) bytes = ap suc (whole_tuple attributes (drop (width a.domain) bytes))

whole_at : (attributes : List Attribute) (bytes : List ℕ) (slots : List ℕ) → AreWhole attributes (map (row_at attributes bytes) slots)
whole_at attributes bytes [] = tt
whole_at attributes bytes (slot ∷ slots) =
    (whole_tuple attributes (slice_range bytes (row_length attributes * slot) (row_length attributes * slot + row_length attributes)), whole_at attributes bytes slots)

-- the rows of a file are
pub rows_whole : (attributes : List Attribute) (bytes : List ℕ) → AreWhole attributes (rows_of attributes bytes)
rows_whole attributes bytes = whole_at attributes bytes (range_with_len 0 (slots_in_bytes attributes bytes))

-- ---- pairs of whole rows

AreWholePairs : ℕ → List (List Value × List Value) → Type 0
AreWholePairs n ps = AllByRecursion (λ (p : List Value × List Value). length p.0 ≡ n) ps

AreLong : ℕ → List (List Value) → Type 0
AreLong n tuples = AllByRecursion (λ (t : List Value). length t ≡ n) tuples

live_step : (n : ℕ) (b : Bool) (t : List Value) (ts : List (List Value)) → length t ≡ n → AreLong n ts → AreLong n (cond b (t ∷ ts) ts)
unfolding AreLong
live_step n true t ts e h = (e, h)
live_step n false t ts e h = h

live_long : (attributes : List Attribute) (rows : List Row) → AreWhole attributes rows → AreLong (length attributes) (live_tuples rows)
unfolding AreLong
live_long attributes [] h = tt
live_long attributes (row ∷ rows) h = live_step (length attributes) row.live row.tuple (live_tuples rows) h.0 (live_long attributes rows h.1)

joined_all : (n : ℕ) (ps qs : List (List Value × List Value)) → AreWholePairs n ps → AreWholePairs n qs → AreWholePairs n (ps ++ qs)
unfolding AreWholePairs
joined_all n [] qs hp hq = hq
joined_all n (p ∷ ps) qs hp hq = (hp.0, joined_all n ps qs hp.1 hq)

one_long : (n : ℕ) (t : List Value) (us : List (List Value)) → length t ≡ n → AreWholePairs n (map (λ u. (t, u)) us)
unfolding AreWholePairs
one_long n t [] e = tt
one_long n t (u ∷ us) e = (e, one_long n t us e)

all_long : (n : ℕ) (ts us : List (List Value)) → AreLong n ts → AreWholePairs n (pairs ts us)
unfolding AreWholePairs AreLong
all_long n [] us h = tt
all_long n (t ∷ ts) us h = joined_all n (map (λ u. (t, u)) us) (pairs ts us) (one_long n t us h.0) (all_long n ts us h.1)

filter_step : (n : ℕ) (b : Bool) (p : List Value × List Value) (ps : List (List Value × List Value)) → length p.0 ≡ n → AreWholePairs n ps → AreWholePairs n (cond b (p ∷ ps) ps)
unfolding AreWholePairs
filter_step n true p ps e h = (e, h)
filter_step n false p ps e h = h

some_long : (n : ℕ) (test : List Value × List Value → Bool) (ps : List (List Value × List Value)) → AreWholePairs n ps → AreWholePairs n (filter test ps)
unfolding AreWholePairs
some_long n test [] h = tt
some_long n test (p ∷ ps) h = filter_step n (test p) p (filter test ps) h.0 (some_long n test ps h.1)

mapped_whole : (n : ℕ) (f g : List Value × List Value → List Value) → ((p : List Value × List Value) → length p.0 ≡ n → f p ≡ g p) → (ps : List (List Value × List Value)) → AreWholePairs n ps → map f ps ≡ map g ps
unfolding AreWholePairs
mapped_whole n f g same [] h = refl
mapped_whole n f g same (p ∷ ps) h = ap (λ (v : List Value). v ∷ map f ps) (same p h.0) ∙ ap (λ (vs : List (List Value)). g p ∷ vs) (mapped_whole n f g same ps h.1)

-- ---- the whole answer

tested : Option ℕ → Option ℕ → List Value × List Value → Bool
tested k m pair = same_value (option_and_then (slice_get pair.0) k) (option_and_then (slice_get pair.1) m)

module _ (on : List ℕ) (list : List (List ℕ)) (l r : Relation) where
  joined_rows : (left_on right_on : ℕ) (places : List Side) → place_of on l.schema.attributes ≡ Some left_on → place_of on r.schema.attributes ≡ Some right_on
      → sides_of l.schema.attributes r.schema.attributes list ≡ Some places → AreWhole l.schema.attributes l.rows
      → join l.schema.attributes r.schema.attributes on list l.rows r.rows ≡ map (project_pair places) (matching left_on right_on l.rows r.rows)
  unfolding tested
  joined_rows left_on right_on places a b s whole =
      let answer : Option ℕ → Option ℕ → List (List Value) = λ k m. map (projected_pair l.schema.attributes r.schema.attributes list) (filter (tested k m) (pairs (live_tuples l.rows) (live_tuples r.rows))) in
      ap (λ (k : Option ℕ). answer k (place_of on r.schema.attributes)) a ∙ ap (λ (m : Option ℕ). answer (Some left_on) m) b
      ∙ mapped_whole (length l.schema.attributes) (projected_pair l.schema.attributes r.schema.attributes list) (project_pair places)
      (λ p long. pair_projects l.schema.attributes r.schema.attributes p long list places s)
      (matching left_on right_on l.rows r.rows)
      (some_long (length l.schema.attributes) (tested (Some left_on) (Some right_on)) (pairs (live_tuples l.rows) (live_tuples r.rows))
      (all_long (length l.schema.attributes) (live_tuples l.rows) (live_tuples r.rows) (live_long l.schema.attributes l.rows whole)))

  module _ (left_on right_on : ℕ) (a : place_of on l.schema.attributes ≡ Some left_on) (b : place_of on r.schema.attributes ≡ Some right_on) where
    pub join_answers : (places : List Side) → sides_of l.schema.attributes r.schema.attributes list ≡ Some places → first_false 1 (map (is_on_either l.schema.attributes r.schema.attributes) list) ≡ None
        → joins (domain_of l.schema.attributes on) (domain_of r.schema.attributes on) ≡ true → AreWhole l.schema.attributes l.rows
        → join_of on list l r ≡ Ok (map (project_pair places) (matching left_on right_on l.rows r.rows))
    join_answers places s e f whole =
        let answer : List (List Value) → Result (List (List Value)) Refusal = λ ts. Ok ts in
        let unrefused : join_of on list l r ≡ Ok (join l.schema.attributes r.schema.attributes on list l.rows r.rows) = rw (f, a, b, e) refl in
        unrefused ∙ ap answer (joined_rows left_on right_on places a b s whole)
