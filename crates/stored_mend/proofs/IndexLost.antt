-- The slot of an index is made unused: all other slots of the catalog stay.
use Rattle.std.proofs.Common.{◌≡◌, ◌≢◌, ⊎_elim, ℕ, ◌+◌, ◌*◌, ◌<◌, ◌≤◌, List, length, get_or, map, Option, None, IsTrue, ap, sym, ◌∙◌, arith}
use Rattle.std.specs.List.{range_with_len}
use Rattle.std.proofs.lemmas.Bool.{cases_lt}
use Rattle.std.proofs.lemmas.List.{get_or_past}
use Rattle.std.proofs.lemmas.List.FromFn.{get_or-map-range_with_len, length-map-range_with_len}
use Rattle.afl_base.specs.Fields.{put_at}
use Rattle.afl_base.specs.Files.{Overwrites, State, bytes_at}
use Rattle.catalog.specs.Rules.{catalog_bytes_in, catalog_in, first_broken}
use Rattle.db_model.specs.Catalog.{Index, catalog_of, index_at, index_slot_bytes}
use Rattle.stored_mend.specs.Complete.{LosesIndex}
use Rattle.stored_mend.specs.Mending.{IsWholeCatalog}
use Rattle.stored_mend.proofs.CatalogKept.{after, catalog_before}
use Rattle.stored_mend.proofs.IndexBlank.{blanked, blanked_here, blanked_other, blanked_relations, blanked_version}

-- a slot of a list of eight that a function gives
slot_of : (f g : ℕ → Option Index) (j : ℕ) → (j < 8 → f j ≡ g j) → get_or (map f (range_with_len 0 8)) j None ≡ get_or (map g (range_with_len 0 8)) j None
slot_of f g j same = ⊎_elim
    (λ (less : j < 8). get_or-map-range_with_len f 0 8 j j None less (omega arith) ∙ same less ∙ sym (get_or-map-range_with_len g 0 8 j j None less (omega arith)))
    (λ (past : 8 ≤ j).
    let m = length-map-range_with_len f 0 8 in
    let n = length-map-range_with_len g 0 8 in
    get_or_past (map f (range_with_len 0 8)) j None (omega (arith, m, past)) ∙ sym (get_or_past (map g (range_with_len 0 8)) j None (omega (arith, n, past))))
    (cases_lt j 8)

pub index_lost : (old new : State) (cat slot : ℕ) → IsWholeCatalog old.files cat → slot < 8 → Overwrites old new cat (1408 + 8 * slot) (index_slot_bytes None) → IsTrue old.tells → first_broken new.files ≡ None → LosesIndex old.files new.files slot
index_lost old new cat slot w below o told sound =
    let was : List ℕ = catalog_bytes_in old.files in
    let is_at : was ≡ bytes_at old.files cat = catalog_before old.files cat w in
    let size = ap (λ (xs : List ℕ). length xs) is_at in
    let many = w.long in
    let long : 1472 ≤ length was = omega (arith, size, many) in
    let now_is : catalog_bytes_in new.files ≡ blanked was slot long below = after old new cat _ _ w o told ∙ ap (λ (xs : List ℕ). put_at xs (1408 + 8 * slot) (index_slot_bytes None)) (sym is_at) in
    record {
      sound = sound;
      version = ap (λ (xs : List ℕ). (catalog_of xs).version) now_is ∙ blanked_version was slot long below;
      relations = ap (λ (xs : List ℕ). (catalog_of xs).relations) now_is ∙ blanked_relations was slot long below;
      gone = ap (λ (xs : List ℕ). get_or (catalog_of xs).indexes slot None) now_is ∙ get_or-map-range_with_len (index_at (blanked was slot long below)) 0 8 slot slot None below (omega arith) ∙ blanked_here was slot long below;
      indexes = λ j other. ap (λ (xs : List ℕ). get_or (catalog_of xs).indexes j None) now_is ∙ slot_of (index_at (blanked was slot long below)) (index_at was) j (λ inside. blanked_other was slot long below j other);
    }
