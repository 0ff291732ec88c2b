-- The first bytes of a catalog of one relation.
use Rattle.std.proofs.Common.{◌≡◌, ◌⊎◌, ℕ, ◌+◌, ◌-◌, ◌≤◌, ◌<◌, Bool, true, false, List, [], ◌∷◌, ◌++◌, length, take, drop, replicate, flat_map, Option, Some, None, refl, sym, ap, ◌∙◌, arith, append_assoc}
use Rattle.std.specs.Prelude.{IfOk, Result, Ok, Err, slice_range}
use Rattle.std.specs.Bool.{Decides}
use Rattle.std.proofs.Math.Logic.{⊎_elim}
use Rattle.std.proofs.lemmas.Bool.{cases_lt}
use Rattle.std.proofs.lemmas.List.Concat.{flat_map-cons}
use Rattle.std.proofs.lemmas.List.{drop_at, length-replicate, length-take-le, take-take, take_all, take_at}
use Rattle.afl_base.specs.Fields.{put_at}
use Rattle.catalog.proofs.PutRanges.{range_front}
use Rattle.db_model.specs.declared.schemas.Schema.{Schema}
use Rattle.db_model.specs.Catalog.{attribute_bytes, catalog_bytes, empty_bytes, index_slot_bytes, relation_slot_bytes, version_mark}
use Rattle.db_model.specs.Names.{is_name}
use Rattle.db_model.proofs.Catalogs.{length-relation_slot}
use Rattle.padded.specs.Padded.{padded}
use Rattle.stored.specs.CutTables.{first_catalog}
use Rattle.stored_mend.proofs.SlotShape.{length-name}
use Rattle.stored_survey.specs.Parts.{IsCatalogFront, IsNameFront}
use Rattle.stored_survey.proofs.GrownParts.{range_split}

one : List ℕ → Option Schema
one name = Some (record { name = name; attributes = [] })

-- a slot, then seven that are not used, then the index slots and the mark
behind_slot : List ℕ
behind_slot = flat_map relation_slot_bytes (replicate 7 None) ++ (flat_map index_slot_bytes (replicate 8 None) ++ version_mark)

grouped : (slot slots indexes mark : List ℕ) → (slot ++ slots) ++ indexes ++ mark ≡ slot ++ (slots ++ (indexes ++ mark))
grouped slot slots indexes mark = append_assoc (slot ++ slots) indexes mark ∙ append_assoc slot slots (indexes ++ mark)

first_is : (name : List ℕ) → catalog_bytes (first_catalog name) ≡ relation_slot_bytes (Some (record { name = name; attributes = [] })) ++ behind_slot
unfolding behind_slot
first_is name =
    let slot : Option Schema = Some (record { name = name; attributes = [] }) in
    ap (λ (xs : List ℕ). xs ++ flat_map index_slot_bytes (replicate 8 None) ++ version_mark) (flat_map-cons relation_slot_bytes (Some (record { name = name; attributes = [] })) (replicate 7 None))
    ∙ grouped (relation_slot_bytes (Some (record { name = name; attributes = [] }))) (flat_map relation_slot_bytes (replicate 7 None)) (flat_map index_slot_bytes (replicate 8 None)) version_mark

empty_is : empty_bytes ≡ relation_slot_bytes None ++ behind_slot
unfolding behind_slot empty_bytes
empty_is =
    ap (λ (xs : List ℕ). xs ++ flat_map index_slot_bytes (replicate 8 None) ++ version_mark) (flat_map-cons relation_slot_bytes None (replicate 7 None))
    ∙ grouped (relation_slot_bytes None) (flat_map relation_slot_bytes (replicate 7 None)) (flat_map index_slot_bytes (replicate 8 None)) version_mark

put_first : (old rest new : List ℕ) → length new ≡ length old → put_at (old ++ rest) 0 new ≡ new ++ rest
unfolding put_at
put_first old rest new same = let e : length old ≡ 0 + length new = omega (arith, same) in ap (λ (xs : List ℕ). new ++ xs) (drop_at old rest (0 + length new) e)

-- what is made of an empty catalog
pub made_of_one : (name slot bytes : List ℕ) → is_name name ≡ true → slot ≡ relation_slot_bytes (Some (record { name = name; attributes = [] })) → bytes ≡ put_at empty_bytes 0 slot → bytes ≡ catalog_bytes (first_catalog name)
made_of_one name slot bytes good is put =
    let long : length slot ≡ 176 = ap length is ∙ length-relation_slot (Some (record { name = name; attributes = [] })) (good, omega arith, tt) in
    let none : length (relation_slot_bytes None) ≡ 176 = refl in
    put ∙ ap (λ (xs : List ℕ). put_at xs 0 slot) empty_is ∙ put_first (relation_slot_bytes None) behind_slot slot (long ∙ sym none) ∙ ap (λ (xs : List ℕ). xs ++ behind_slot) is ∙ sym (first_is name)

-- ---- catalogs of one relation differ in its name alone

behind_name : List ℕ
behind_name = padded 144 (flat_map attribute_bytes []) ++ (padded 15 (0 ∷ []) ++ 1 ∷ [])

name_first : (name : List ℕ) → catalog_bytes (first_catalog name) ≡ padded 16 name ++ (behind_name ++ behind_slot)
unfolding behind_name
name_first name =
    first_is name
    ∙ ap (λ (xs : List ℕ). xs ++ behind_slot)
    (append_assoc (padded 16 name ++ padded 144 (flat_map attribute_bytes [])) (padded 15 (0 ∷ [])) (1 ∷ [])
    ∙ append_assoc (padded 16 name) (padded 144 (flat_map attribute_bytes [])) (padded 15 (0 ∷ []) ++ 1 ∷ []))
    ∙ append_assoc (padded 16 name) (padded 144 (flat_map attribute_bytes []) ++ (padded 15 (0 ∷ []) ++ 1 ∷ [])) behind_slot

front_of_first : (name : List ℕ) (n : ℕ) → is_name name ≡ true → n ≤ 16 → take n (catalog_bytes (first_catalog name)) ≡ take n (padded 16 name)
front_of_first name n good few =
    ap (take n) (name_first name) ∙ sym (take-take n 16 (padded 16 name ++ (behind_name ++ behind_slot)) few)
    ∙ ap (take n) (take_at (padded 16 name) (behind_name ++ behind_slot) 16 (length-name name good))

module _ (bytes shown : List ℕ) (is : shown ≡ take 16 bytes) where
  shown_long : (few : length bytes ≤ 16) → shown ≡ bytes
  shown_long few = is ∙ take_all 16 bytes few

  shown_size : 16 ≤ length bytes → length shown ≡ 16
  shown_size many = ap length is ∙ length-take-le 16 bytes many

  -- it begins with a front of the name
  pub begins_name : (name : List ℕ) → IsCatalogFront bytes name → IsNameFront shown name
  begins_name name e = (
    e.0,
    ⊎_elim
        (λ (few : length bytes < 16).
        let same = shown_long (omega (arith, few)) in
        same ∙ e.1 ∙ front_of_first name (length bytes) e.0 (omega (arith, few)) ∙ ap (λ (xs : List ℕ). take (length xs) (padded 16 name)) (sym same))
        (λ (many : 16 ≤ length bytes).
        let sixteen = shown_size many in
        is ∙ ap (take 16) e.1 ∙ take-take 16 (length bytes) (catalog_bytes (first_catalog name)) many ∙ front_of_first name 16 e.0 (omega arith) ∙ ap (λ (n : ℕ). take n (padded 16 name)) (sym sixteen))
        (cases_lt (length bytes) 16),
  )

  -- whatever the name is
  pub front_alike : (name other : List ℕ) → IsNameFront shown name → IsCatalogFront bytes other → take (length bytes) (catalog_bytes (first_catalog name)) ≡ take (length bytes) (catalog_bytes (first_catalog other))
  front_alike name other e f =
      let g = begins_name other f in
      ⊎_elim
      (λ (few : length bytes < 16).
      let same = shown_long (omega (arith, few)) in
      front_of_first name (length bytes) e.0 (omega (arith, few))
      ∙ ap (λ (xs : List ℕ). take (length xs) (padded 16 name)) (sym same) ∙ sym e.1 ∙ g.1
      ∙ ap (λ (xs : List ℕ). take (length xs) (padded 16 other)) same
      ∙ sym (front_of_first other (length bytes) f.0 (omega (arith, few))))
      (λ (many : 16 ≤ length bytes).
      let sixteen = shown_size many in
      let whole : (n : List ℕ) → is_name n ≡ true → take (length shown) (padded 16 n) ≡ padded 16 n =
      λ n good. ap (λ (k : ℕ). take k (padded 16 n)) sixteen ∙ take_all 16 (padded 16 n) (omega (arith, length-name n good)) in
      let alike : padded 16 name ≡ padded 16 other = sym (e.1 ∙ whole name e.0) ∙ (g.1 ∙ whole other f.0) in
      ap (take (length bytes)) (name_first name ∙ ap (λ (xs : List ℕ). xs ++ (behind_name ++ behind_slot)) alike ∙ sym (name_first other)))
      (cases_lt (length bytes) 16)

  pub first_decides : (r : Bool) (name whole : List ℕ) → IsNameFront shown name → whole ≡ catalog_bytes (first_catalog name) → Decides r (bytes ≡ take (length bytes) whole) → Decides r ((n : List ℕ) × IsCatalogFront bytes n)
  first_decides r name whole e made d = (
    λ t. (name, (e.0, d.0 t ∙ ap (take (length bytes)) made)),
    λ f. d.1 (f.1.1 ∙ sym (ap (take (length bytes)) made ∙ front_alike name f.0 e f.1)),
  )

  pub no_first : ((n : List ℕ) → IsNameFront shown n → ⊥) → Decides false ((n : List ℕ) × IsCatalogFront bytes n)
  no_first none = (λ t. absurd (cc), λ f. absurd (none f.0 (begins_name f.0 f.1)))

-- ---- piece by piece

-- a piece more is the same
pub piece_more : (xs ys : List ℕ) (at count : ℕ) → take at xs ≡ take at ys → slice_range xs at (at + count) ≡ slice_range ys at (at + count) → take (at + count) xs ≡ take (at + count) ys
piece_more xs ys at count same piece =
    front xs ∙ ap (λ (zs : List ℕ). zs ++ slice_range xs at (at + count)) same ∙ ap (λ (zs : List ℕ). take at ys ++ zs) piece ∙ sym (front ys)
  where
    front : (zs : List ℕ) → take (at + count) zs ≡ take at zs ++ slice_range zs at (at + count)
    front zs = let e : at + count - 0 ≡ at + count = omega arith in let f : at - 0 ≡ at = omega arith in
        ap (λ (n : ℕ). take n zs) (sym e) ∙ range_split zs 0 at (at + count) (omega arith) (omega arith) ∙ ap (λ (n : ℕ). take n zs ++ slice_range zs at (at + count)) f

-- one that is not tells all apart
pub piece_of : (xs ys : List ℕ) (at count : ℕ) → at + count ≤ length xs → xs ≡ take (length xs) ys → slice_range xs at (at + count) ≡ slice_range ys at (at + count)
piece_of xs ys at count inside same =
    ap (λ (zs : List ℕ). slice_range zs at (at + count)) same ∙ range_taken ys (length xs) at (at + count) (omega arith) inside
  where
    range_taken : (zs : List ℕ) (n a b : ℕ) → a ≤ b → b ≤ n → slice_range (take n zs) a b ≡ slice_range zs a b
    range_taken zs n a b low high = range_front (take n zs) a b low ∙ ap (drop a) (take-take b n zs high) ∙ sym (range_front zs a b low)

-- ---- what is read

-- what holds of a success holds of more
pub if_ok_map : {T E : Type 0} (r : Result T E) (P Q : T → Type 0) → ((x : T) → P x → Q x) → IfOk r P → IfOk r Q
if_ok_map (Ok x) P Q f p = f x p
if_ok_map (Err e) P Q f p = tt

pub front_read : (bytes shown : List ℕ) (m : ℕ) → m ≤ 16 → (m ≡ 16) ⊎ (m ≡ length bytes) → shown ≡ slice_range bytes 0 (0 + length (take m (replicate {A = ℕ} 16 0))) → shown ≡ take 16 bytes
front_read bytes shown m few all read =
    let long : length (take m (replicate {A = ℕ} 16 0)) ≡ m = length-take-le m (replicate {A = ℕ} 16 0) (omega (arith, few, length-replicate {A = ℕ} 16 0)) in
    let width : 0 + m - 0 ≡ m = omega arith in
    read ∙ ap (λ (n : ℕ). slice_range bytes 0 (0 + n)) long ∙ ap (λ (n : ℕ). take n bytes) width
    ∙ ⊎_elim
    (λ (e : m ≡ 16). ap (λ (n : ℕ). take n bytes) e)
    (λ (e : m ≡ length bytes). ap (λ (n : ℕ). take n bytes) e ∙ take_all (length bytes) bytes (omega arith) ∙ sym (take_all 16 bytes (omega (arith, few, e))))
    all
