-- A plan passes each row whose keys lie in the ranges.
use Rattle.std.proofs.Common.{◌≡◌, ℕ, ℤ, zero, suc, pos, negsuc, ◌+◌, ◌<◌, Bool, true, false, cond, ◌&&◌, List, [], ◌∷◌, ◌++◌, length, Option, Some, None, option_map, unwrap_or, refl, ap, ◌∙◌, subst, arith, append_assoc, length-append}
use Rattle.std.specs.Prelude.{int_le}
use Rattle.std.specs.List.{AllByRecursion, list_any}
use Rattle.std.specs.Option.{option_or}
use Rattle.std.specs.Ordering.{int_eq}
use Rattle.std.proofs.lemmas.Int.{ints}
use Rattle.db_model.specs.declared.schemas.Attribute.{Attribute}
use Rattle.db_model.specs.declared.schemas.IndexKind.{IndexKind}
use Rattle.db_model.specs.declared.schemas.IndexKind.TheVariants.{Inline, MaxHeap, MemHash}
use Rattle.db_model.specs.declared.schemas.Range.{Range}
use Rattle.db_model.specs.declared.schemas.Range.TheVariants.{Empty, Between}
use Rattle.db_model.specs.Cond.{Cond}
use Rattle.db_model.specs.Plan.{Plan, Nothing, Scan, ByOrder, ByTree, ByTable, Kinds, by_order, by_table, by_tree, first_plan, is_empty, is_everything, lies_in, only_key, passes, place_at, plan, range_at, ranges_of}
use Rattle.db_model.specs.Ranges.{range_of}

-- ---- the ranges of a condition

pub eight_ranges : (attributes : List Attribute) (condition : Option Cond) (a b c d e f g h : Range)
    → a ≡ range_of attributes 0 condition → b ≡ range_of attributes 1 condition → c ≡ range_of attributes 2 condition → d ≡ range_of attributes 3 condition
    → e ≡ range_of attributes 4 condition → f ≡ range_of attributes 5 condition → g ≡ range_of attributes 6 condition → h ≡ range_of attributes 7 condition
    → a ∷ b ∷ c ∷ d ∷ e ∷ f ∷ g ∷ h ∷ [] ≡ ranges_of attributes condition
unfolding ranges_of
eight_ranges attributes condition a b c d e f g h ae be ce de ee fe ge he = λ i. ae i ∷ be i ∷ ce i ∷ de i ∷ ee i ∷ fe i ∷ ge i ∷ he i ∷ []

pub range_there : (attributes : List Attribute) (condition : Option Cond) (place : ℕ) → place < 8 → range_at (ranges_of attributes condition) place ≡ range_of attributes place condition
unfolding ranges_of
range_there attributes condition zero h = refl
range_there attributes condition (suc zero) h = refl
range_there attributes condition (suc (suc zero)) h = refl
range_there attributes condition (suc (suc (suc zero))) h = refl
range_there attributes condition (suc (suc (suc (suc zero)))) h = refl
range_there attributes condition (suc (suc (suc (suc (suc zero))))) h = refl
range_there attributes condition (suc (suc (suc (suc (suc (suc zero)))))) h = refl
range_there attributes condition (suc (suc (suc (suc (suc (suc (suc zero))))))) h = refl
range_there attributes condition (suc (suc (suc (suc (suc (suc (suc (suc place)))))))) h = absurd (omega arith)

-- ---- plans

-- the keys at the places of all indexes lie in their ranges
abbrev pub AllLie : List Range → (ℕ → ℤ) → Kinds → Type 0
AllLie ranges keys indexes = AllByRecursion (λ index. lies_in (range_at ranges index.1) (keys index.1) ≡ true) indexes

-- the only number of a range that a key lies in is the key
only : (r : Range) (key z : ℤ) → only_key r ≡ Some key → lies_in r z ≡ true → int_eq z key ≡ true
only Empty key z e h = absurd (cc)
only (Between lo hi) key z e h = by_test (int_eq lo hi) (int_le (negsuc 2147483647) lo) (int_le lo (pos 2147483647)) refl e
  where
    by_test : (b c d : Bool) → int_eq lo hi ≡ b → cond ((b && c) && d) (Some lo) None ≡ Some key → int_eq z key ≡ true
    by_test true true true one is = let same : lo ≡ key = cc in rw (← same) (grind (arith, ints))
    by_test true true false one is = absurd (cc)
    by_test true false d one is = absurd (cc)
    by_test false c d one is = absurd (cc)

none_empty : (r : Range) (z : ℤ) → lies_in r z ≡ true → is_empty r ≡ false
none_empty Empty z h = absurd (cc)
none_empty (Between lo hi) z h = refl

not_any : (ranges : List Range) (keys : ℕ → ℤ) (indexes : Kinds) → AllLie ranges keys indexes → list_any (λ index. is_empty (range_at ranges index.1)) indexes ≡ false
not_any ranges keys [] h = refl
not_any ranges keys (index ∷ indexes) h = rw (none_empty (range_at ranges index.1) (keys index.1) h.0) (not_any ranges keys indexes h.1)

-- an index behind so many others has their number
there : (before : Kinds) (index : IndexKind × ℕ) (behind : Kinds) (n : ℕ) → length before ≡ n → place_at (before ++ index ∷ behind) n ≡ index.1
there [] index behind n e = subst (λ (k : ℕ). place_at (index ∷ behind) k ≡ index.1) e refl
there (b ∷ before) index behind zero e = absurd (omega arith)
there (b ∷ before) index behind (suc n) e = there before index behind n (omega arith)

module _ (ranges : List Range) (keys : ℕ → ℤ) where
  -- the plan of an index, where it is usable, passes the keys
  Serves : (ℕ → IndexKind × ℕ → Option Plan) → Type 0
  Serves usable = (before : Kinds) (index : IndexKind × ℕ) (behind : Kinds) (n : ℕ) (p : Plan) → length before ≡ n → usable n index ≡ Some p
      → lies_in (range_at ranges index.1) (keys index.1) ≡ true → passes (before ++ index ∷ behind) ranges p keys ≡ true

  equal_there : (before : Kinds) (index : IndexKind × ℕ) (behind : Kinds) (n : ℕ) (key : ℤ) → length before ≡ n → int_eq (keys index.1) key ≡ true → int_eq (keys (place_at (before ++ index ∷ behind) n)) key ≡ true
  equal_there before index behind n key e h = ap (λ (k : ℕ). int_eq (keys k) key) (there before index behind n e) ∙ h

  table_serves : Serves (by_table ranges)
  unfolding Serves
  table_serves before (MemHash, place) behind n p e is h = by_key (only_key (range_at ranges place)) refl is
    where
      by_key : (o : Option ℤ) → only_key (range_at ranges place) ≡ o → option_map (λ key. ByTable n key) o ≡ Some p → passes (before ++ (MemHash, place) ∷ behind) ranges p keys ≡ true
      by_key None f g = absurd (cc)
      by_key (Some key) f g =
          let same : ByTable n key ≡ p = cc in
          subst (λ (q : Plan). passes (before ++ (MemHash, place) ∷ behind) ranges q keys ≡ true) same
          (equal_there before (MemHash, place) behind n key e (only (range_at ranges place) key (keys place) f h))
  table_serves before (MaxHeap, place) behind n p e is h = absurd (cc)
  table_serves before (Inline, place) behind n p e is h = absurd (cc)

  tree_serves : Serves (by_tree ranges)
  unfolding Serves
  tree_serves before (MaxHeap, place) behind n p e is h = by_key (only_key (range_at ranges place)) refl is
    where
      by_key : (o : Option ℤ) → only_key (range_at ranges place) ≡ o → option_map (λ key. ByTree n key) o ≡ Some p → passes (before ++ (MaxHeap, place) ∷ behind) ranges p keys ≡ true
      by_key None f g = absurd (cc)
      by_key (Some key) f g =
          let same : ByTree n key ≡ p = cc in
          subst (λ (q : Plan). passes (before ++ (MaxHeap, place) ∷ behind) ranges q keys ≡ true) same
          (equal_there before (MaxHeap, place) behind n key e (only (range_at ranges place) key (keys place) f h))
  tree_serves before (MemHash, place) behind n p e is h = absurd (cc)
  tree_serves before (Inline, place) behind n p e is h = absurd (cc)

  order_serves : Serves (by_order ranges)
  unfolding Serves
  order_serves before (Inline, place) behind n p e is h = by_all (is_everything (range_at ranges place)) is
    where
      by_all : (b : Bool) → cond b None (Some (ByOrder n)) ≡ Some p → passes (before ++ (Inline, place) ∷ behind) ranges p keys ≡ true
      by_all true g = absurd (cc)
      by_all false g =
          let same : ByOrder n ≡ p = cc in
          subst (λ (q : Plan). passes (before ++ (Inline, place) ∷ behind) ranges q keys ≡ true) same
          (ap (λ (k : ℕ). lies_in (range_at ranges k) (keys k)) (there before (Inline, place) behind n e) ∙ h)
  order_serves before (MemHash, place) behind n p e is h = absurd (cc)
  order_serves before (MaxHeap, place) behind n p e is h = absurd (cc)

  first_serves : (usable : ℕ → IndexKind × ℕ → Option Plan) → Serves usable → (before behind : Kinds) (n : ℕ) (p : Plan) → length before ≡ n → AllLie ranges keys behind
      → first_plan usable n behind ≡ Some p → passes (before ++ behind) ranges p keys ≡ true
  unfolding Serves
  first_serves usable serves before [] n p e h is = absurd (cc)
  first_serves usable serves before (index ∷ behind) n p e h is =
      by_first (usable n index) refl is
      (λ rest. subst (λ (l : Kinds). passes l ranges p keys ≡ true) (append_assoc before (index ∷ []) behind)
      (first_serves usable serves (before ++ index ∷ []) behind (n + 1) p (omega (arith, length-append before (index ∷ []))) h.1 rest))
    where
      by_first : (o : Option Plan) → usable n index ≡ o → option_or o (first_plan usable (n + 1) behind) ≡ Some p
          → (first_plan usable (n + 1) behind ≡ Some p → passes (before ++ index ∷ behind) ranges p keys ≡ true) → passes (before ++ index ∷ behind) ranges p keys ≡ true
      by_first None f g later = later g
      by_first (Some q) f g later = let same : q ≡ p = cc in serves before index behind n p e (f ∙ ap (λ (x : Plan). Some x) same) h.0

  -- the chosen plan passes keys that lie in their ranges
  pub plan_passes : (indexes : Kinds) → AllLie ranges keys indexes → passes indexes ranges (plan indexes ranges) keys ≡ true
  unfolding plan
  plan_passes indexes h =
      by_any (list_any (λ index. is_empty (range_at ranges index.1)) indexes) (not_any ranges keys indexes h)
      (first_plan (by_table ranges) 0 indexes) (first_plan (by_tree ranges) 0 indexes) (first_plan (by_order ranges) 0 indexes)
      (λ p. first_serves (by_table ranges) table_serves [] indexes 0 p refl h)
      (λ p. first_serves (by_tree ranges) tree_serves [] indexes 0 p refl h)
      (λ p. first_serves (by_order ranges) order_serves [] indexes 0 p refl h)
    where
      by_any : (b : Bool) → b ≡ false → (t r o : Option Plan)
          → ((p : Plan) → t ≡ Some p → passes indexes ranges p keys ≡ true) → ((p : Plan) → r ≡ Some p → passes indexes ranges p keys ≡ true) → ((p : Plan) → o ≡ Some p → passes indexes ranges p keys ≡ true)
          → passes indexes ranges (cond b Nothing (unwrap_or (option_or t (option_or r o)) Scan)) keys ≡ true
      by_any true e t r o ts rs os = absurd (cc)
      by_any false e (Some p) r o ts rs os = ts p refl
      by_any false e None (Some p) o ts rs os = rs p refl
      by_any false e None None (Some p) ts rs os = os p refl
      by_any false e None None None ts rs os = refl
