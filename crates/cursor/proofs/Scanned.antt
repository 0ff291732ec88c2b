-- Where no index is on the attribute of a join, the plan of its right side is a scan.
use Rattle.std.proofs.Common.{◌≡◌, ℕ, ◌+◌, ◌*◌, ◌<◌, ◌≤◌, Bool, true, false, cond, List, [], ◌∷◌, length, map, Option, Some, None, refl, ap, ◌∙◌, arith, ⊎_elim}
use Rattle.std.specs.Prelude.{◌==◌, ◌||◌, if◌then◌else◌, not, option_map, unwrap_or}
use Rattle.std.specs.List.{list_all, list_any, range_with_len}
use Rattle.std.specs.Option.{option_or}
use Rattle.std.proofs.lemmas.Bool.{cases_lt}
use Rattle.std.proofs.Math.ListN.{get_or-eq_default}
use Rattle.padded.proofs.Facts.{both_parts}
use Rattle.db_model.specs.declared.schemas.IndexKind.{IndexKind}
use Rattle.db_model.specs.declared.schemas.IndexKind.TheVariants.{Inline, MaxHeap, MemHash}
use Rattle.db_model.specs.declared.schemas.Range.{Range}
use Rattle.db_model.specs.declared.schemas.Range.TheVariants.{Between}
use Rattle.db_model.specs.declared.values.Value.{Value}
use Rattle.db_model.specs.declared.values.Value.TheVariants.{Number, Text}
use Rattle.db_model.specs.Cost.{plan_cost, ranges_at}
use Rattle.db_model.specs.Plan.{ByOrder, ByTable, ByTree, Nothing, Plan, Scan, by_order, by_table, by_tree, first_plan, is_empty, is_everything, only_key, plan, range_at}
use Rattle.db_model.specs.Ranges.{everything}
use Rattle.db_model.specs.Row.{Row}
use Rattle.index_set.specs.declared.info.IndexInfo.{IndexInfo}
use Rattle.index_set.specs.Plans.{access_kind, kinds}
use Rattle.cursor.specs.Pairs.{right_side_cost}
use Rattle.cursor.proofs.Partners.{range_eight}

other_place : (place on : ℕ) → not (place == on) ≡ true → (place == on) ≡ false
other_place place on e = turned (place == on) e
  where
    turned : (b : Bool) → not b ≡ true → b ≡ false
    turned true e = absurd (cc)
    turned false e = refl

module _ (on : ℕ) (value : Option Value) where
  everything_below : (v : Option Value) (place : ℕ) → place < 8 → (place == on) ≡ false → range_at (ranges_at on v) place ≡ everything
  everything_below None place h e = range_eight (λ p. everything) place h
  everything_below (Some (Text bytes)) place h e = range_eight (λ p. everything) place h
  everything_below (Some (Number z)) place h e =
      range_eight (λ p. if p == on then Between z z else everything) place h ∙ ap (λ (b : Bool). cond b (Between z z) everything) e

  everything_beyond : (v : Option Value) (place : ℕ) → 8 ≤ place → range_at (ranges_at on v) place ≡ everything
  everything_beyond None place h = get_or-eq_default (map (λ p. everything) (range_with_len 0 8)) everything h
  everything_beyond (Some (Text bytes)) place h = get_or-eq_default (map (λ p. everything) (range_with_len 0 8)) everything h
  everything_beyond (Some (Number z)) place h = get_or-eq_default (map (λ p. if p == on then Between z z else everything) (range_with_len 0 8)) everything h

  -- nothing is asked of the attribute of an index
  asks_nothing : (info : IndexInfo) → not (info.attribute == on) ≡ true → range_at (ranges_at on value) info.attribute ≡ everything
  asks_nothing info e =
      ⊎_elim (λ (h : info.attribute < 8). everything_below value info.attribute h (other_place info.attribute on e)) (λ (h : 8 ≤ info.attribute). everything_beyond value info.attribute h) (cases_lt info.attribute 8)

  none_empty : (infos : List IndexInfo) → list_all (λ info. not (info.attribute == on)) infos ≡ true → list_any (λ index. is_empty (range_at (ranges_at on value) index.1)) (kinds infos) ≡ false
  none_empty [] e = refl
  none_empty (info ∷ infos) e =
      let parts = both_parts (not (info.attribute == on)) (list_all (λ info. not (info.attribute == on)) infos) e in
      ap (λ (r : Range). is_empty r || list_any (λ index. is_empty (range_at (ranges_at on value) index.1)) (kinds infos)) (asks_nothing info parts.0) ∙ none_empty infos parts.1

  no_table : (n : ℕ) (kind : IndexKind) (place : ℕ) → range_at (ranges_at on value) place ≡ everything → by_table (ranges_at on value) n (kind, place) ≡ None
  no_table n MemHash place e = ap (λ (r : Range). option_map (λ key. ByTable n key) (only_key r)) e
  no_table n MaxHeap place e = refl
  no_table n Inline place e = refl

  no_tree : (n : ℕ) (kind : IndexKind) (place : ℕ) → range_at (ranges_at on value) place ≡ everything → by_tree (ranges_at on value) n (kind, place) ≡ None
  no_tree n MaxHeap place e = ap (λ (r : Range). option_map (λ key. ByTree n key) (only_key r)) e
  no_tree n MemHash place e = refl
  no_tree n Inline place e = refl

  no_order : (n : ℕ) (kind : IndexKind) (place : ℕ) → range_at (ranges_at on value) place ≡ everything → by_order (ranges_at on value) n (kind, place) ≡ None
  no_order n Inline place e = ap (λ (r : Range). cond (is_everything r) None (Some (ByOrder n))) e
  no_order n MaxHeap place e = refl
  no_order n MemHash place e = refl

  none_first : (usable : ℕ → IndexKind × ℕ → Option Plan) → ((n : ℕ) (kind : IndexKind) (place : ℕ) → range_at (ranges_at on value) place ≡ everything → usable n (kind, place) ≡ None)
      → (n : ℕ) (infos : List IndexInfo) → list_all (λ info. not (info.attribute == on)) infos ≡ true → first_plan usable n (kinds infos) ≡ None
  none_first usable gives n [] e = refl
  none_first usable gives n (info ∷ infos) e =
      let parts = both_parts (not (info.attribute == on)) (list_all (λ info. not (info.attribute == on)) infos) e in
      ap (λ (o : Option Plan). option_or o (first_plan usable (n + 1) (kinds infos))) (gives n (access_kind info.access) info.attribute (asks_nothing info parts.0))
      ∙ none_first usable gives (n + 1) infos parts.1

  scans : (infos : List IndexInfo) → list_all (λ info. not (info.attribute == on)) infos ≡ true → plan (kinds infos) (ranges_at on value) ≡ Scan
  unfolding plan
  scans infos e =
      ap (λ (b : Bool). cond b Nothing (unwrap_or (option_or (first_plan (by_table (ranges_at on value)) 0 (kinds infos)) (option_or (first_plan (by_tree (ranges_at on value)) 0 (kinds infos)) (first_plan (by_order (ranges_at on value)) 0 (kinds infos)))) Scan)) (none_empty infos e)
      ∙ ap (λ (o : Option Plan). unwrap_or (option_or o (option_or (first_plan (by_tree (ranges_at on value)) 0 (kinds infos)) (first_plan (by_order (ranges_at on value)) 0 (kinds infos)))) Scan) (none_first (by_table (ranges_at on value)) no_table 0 infos e)
      ∙ ap (λ (o : Option Plan). unwrap_or (option_or None (option_or o (first_plan (by_order (ranges_at on value)) 0 (kinds infos)))) Scan) (none_first (by_tree (ranges_at on value)) no_tree 0 infos e)
      ∙ ap (λ (o : Option Plan). unwrap_or (option_or None (option_or None o)) Scan) (none_first (by_order (ranges_at on value)) no_order 0 infos e)

pub scan_cost : (infos : List IndexInfo) (on : ℕ) → list_all (λ info. not (info.attribute == on)) infos ≡ true → (value : Option Value) (rights : List Row) → 6 * length rights ≤ right_side_cost infos on value rights
scan_cost infos on none value rights =
    let cost : right_side_cost infos on value rights ≡ 6 * length rights = ap (λ (p : Plan). plan_cost (kinds infos) (ranges_at on value) rights p) (scans on value infos none) in
    omega (arith, cost)
