-- A catalog in which a slot was written in part: how its slots are read.
use Rattle.std.proofs.Common.{◌≡◌, ◌≢◌, ◌⊎◌, inl, inr, ℕ, zero, suc, ◌+◌, ◌-◌, ◌*◌, ◌%◌, ◌<◌, ◌≤◌, ◌==◌, List, [], ◌∷◌, ◌++◌, length, set, take, drop, get_or, replicate, Option, Some, None, if◌then◌else◌, refl, ap, sym, subst, ◌∙◌, arith, append_assoc, length-append}
use Rattle.std.specs.Prelude.{IsTrue, flat_map, slice_index, slice_range}
use Rattle.std.proofs.Math.Logic.{⊎_elim}
use Rattle.std.proofs.Math.Nat.{div-mul-le_self, mod-eq-sub-div-mul}
use Rattle.std.proofs.Math.Seq.{take-append-add}
use Rattle.std.proofs.lemmas.Bool.{cases_eq, cases_lt}
use Rattle.std.proofs.lemmas.Grind.{flat_map-append}
use Rattle.std.proofs.lemmas.List.Concat.{flat_map-cons}
use Rattle.std.proofs.lemmas.List.{append-nil, length-replicate, take-append-le, take-replicate, drop-drop, drop-take, drop_at, get_or-append-add, get_or-drop, get_or-set_other, get_or-set_same, get_or-take, length-take-le, nil_from_length, take-append-drop, take-take, take_at}
use Rattle.std.proofs.lemmas.List.FromFn.{get_or-map-range_with_len, length-map-range_with_len}
use Rattle.afl_base.specs.Fields.{put_at}
use Rattle.afl_base.proofs.FieldLaws.{drop-put_at, length-put_at}
use Rattle.afl_base.proofs.PutLaws.{put_at_nothing}
use Rattle.catalog.specs.CatalogFile.{IsCatalogSize, ReplacesFront}
use Rattle.catalog.proofs.Changes.{first_size, slot_put}
use Rattle.catalog.proofs.PutRanges.{before_put, behind_put}
use Rattle.catalog.proofs.Replaced.{IsReadBack, index_changed, relation_changed}
use Rattle.db_model.specs.declared.schemas.Attribute.{Attribute}
use Rattle.db_model.specs.declared.schemas.Schema.{Schema}
use Rattle.db_model.specs.Catalog.{Catalog, Index, IsRelation, attribute_bytes, attribute_of, attributes_of, catalog_of, in_version_2, index_at, index_slot_bytes, index_slot_of, relation_at, relation_slot_bytes, relation_slot_of, version_mark, with_index_slot, with_relation_slot, with_slot}
use Rattle.db_model.specs.Names.{is_name}
use Rattle.db_model.specs.Row.{up_to_zero}
use Rattle.db_model.proofs.Catalogs.{index_slot_back, length-index_slot, length-relation_slot, relation_slot_back}
use Rattle.db_model.proofs.Rows.{length-padded}
use Rattle.padded.specs.Padded.{padded}
use Rattle.stored.specs.Mended.{whole_bytes}
use Rattle.stored.proofs.MendedBase.{slots_same, whole_long, whole_short, whole_sized}
use Rattle.stored.proofs.MendedTables.{ReadsIndex, ReadsRelation, ReadsSame}
pub use Rattle.catalog.proofs.PutRanges.{range_front as range_is}

-- ---- ranges

pub range_take : (xs : List ℕ) (n a b : ℕ) → a ≤ b → b ≤ n → slice_range (take n xs) a b ≡ slice_range xs a b
range_take xs n a b h inside = range_is (take n xs) a b h ∙ ap (drop a) (take-take b n xs inside) ∙ sym (range_is xs a b h)

-- ---- all slots as before

pub reads_same : (old now : List ℕ) → whole_bytes now ≡ whole_bytes old → ReadsSame old now
reads_same old now e = record {
  relations = λ k below. ap (λ (bytes : List ℕ). relation_at bytes k) e;
  indexes = λ i below. ap (λ (bytes : List ℕ). index_at bytes i) e;
}

-- a slot that is read as before is not changed
pub relation_not_changed : (old now : List ℕ) (slot : ℕ) (o : Option Schema) → ReadsRelation old now slot o → relation_at (whole_bytes old) slot ≡ o → ReadsSame old now
relation_not_changed old now slot o r e = record {
  relations = λ k below. ⊎_elim
      (λ (same : k ≡ slot). ap (relation_at (whole_bytes now)) same ∙ r.here ∙ sym e ∙ ap (relation_at (whole_bytes old)) (sym same))
      (λ (differs : k ≢ slot). r.relations k below differs)
      (cases_eq k slot);
  indexes = r.indexes;
}

-- ---- the first bytes of a catalog in which a slot was put

pub length-with_slot : (old slot : List ℕ) (at : ℕ) → IsCatalogSize (length old) → at + length slot ≤ 1472 → length (with_slot old at slot) ≡ 1480
length-with_slot old slot at size room =
    ⊎_elim
    (λ (none : length old ≡ 0). first_size old slot at none room)
    (λ (some : (length old ≡ 1472) ⊎ (length old ≡ 1480)).
    ⊎_elim
    (λ (first : length old ≡ 1472).
    let long : length (old ++ version_mark) ≡ 1480 = length-append old version_mark ∙ ap (λ n. n + 8) first in
    let is : in_version_2 old ≡ old ++ version_mark = rw first refl in
    ap length (slot_put old (old ++ version_mark) slot at is) ∙ length-put_at (old ++ version_mark) slot at (omega (arith, long, room)) ∙ long)
    (λ (second : length old ≡ 1480).
    let is : in_version_2 old ≡ old = rw second refl in
    ap length (slot_put old old slot at is) ∙ length-put_at old slot at (omega (arith, second, room)) ∙ second)
    some)
    size

-- the first bytes of a whole catalog are read as it is
module _ (old whole : List ℕ) (n : ℕ) (long : length whole ≡ 1480) (size : IsCatalogSize (length old)) where
  -- too few of them are none
  few : length old ≡ 0 → n < 1472 → ReadsSame old (take n whole)
  few none short =
      let less : length (take n whole) ≡ n = length-take-le n whole (omega (arith, long, short)) in
      reads_same old (take n whole) (whole_short (take n whole) (omega (arith, less, short)) ∙ sym (whole_sized old size ∙ nil_from_length old none))

  enough : 1472 ≤ n → whole_bytes (take n whole) ≡ take n whole
  enough past = whole_long (take n whole) (by_length (cases_lt n 1480))
    where
      by_length : (n < 1480) ⊎ (1480 ≤ n) → 1472 ≤ length (take n whole)
      by_length (inl less) = let e : length (take n whole) ≡ n = length-take-le n whole (omega (arith, long, less)) in omega (arith, e, past)
      by_length (inr more) =
          let e : take 1480 (take n whole) ≡ take 1480 whole = take-take 1480 n whole more in
          let front : length (take 1480 whole) ≡ 1480 = length-take-le 1480 whole (omega (arith, long)) in
          let first : length (take 1480 (take n whole)) ≡ 1480 = ap length e ∙ front in
          let parts : length (take 1480 (take n whole)) + length (drop 1480 (take n whole)) ≡ length (take n whole) =
          sym (length-append (take 1480 (take n whole)) (drop 1480 (take n whole))) ∙ ap length (take-append-drop 1480 (take n whole)) in
          omega (arith, first, parts)

  front_relation : (k : ℕ) → 1472 ≤ n → k < 8 → relation_at (whole_bytes (take n whole)) k ≡ relation_at whole k
  front_relation k past below =
      ap (λ (bytes : List ℕ). relation_at bytes k) (enough past) ∙ ap relation_slot_of (range_take whole n (176 * k) (176 * k + 176) (omega arith) (omega (arith, past, below)))

  front_index : (i : ℕ) → 1472 ≤ n → i < 8 → index_at (whole_bytes (take n whole)) i ≡ index_at whole i
  front_index i past below =
      ap (λ (bytes : List ℕ). index_at bytes i) (enough past) ∙ ap index_slot_of (range_take whole n (1408 + 8 * i) (1408 + 8 * i + 8) (omega arith) (omega (arith, past, below)))

-- slots of a catalog are read one by one
each_relation : (bytes : List ℕ) (k : ℕ) → k < 8 → get_or (catalog_of bytes).relations k None ≡ relation_at bytes k
each_relation bytes k below = get_or-map-range_with_len (relation_at bytes) 0 8 k k None below (omega arith)

each_index : (bytes : List ℕ) (i : ℕ) → i < 8 → get_or (catalog_of bytes).indexes i None ≡ index_at bytes i
each_index bytes i below = get_or-map-range_with_len (index_at bytes) 0 8 i i None below (omega arith)

-- a slot of a relation is put
module _ (old : List ℕ) (slot : ℕ) (o : Option Schema) (size : IsCatalogSize (length old)) (below : slot < 8) (back : IsReadBack o) where
  abbrev put : List ℕ
  put = with_relation_slot old slot o

  put_size : length put ≡ 1480
  put_size = length-with_slot old (relation_slot_bytes o) (176 * slot) size (omega (arith, back.0, below))

  put_changed : (catalog_of put).relations ≡ set (catalog_of old).relations slot o
  put_changed = ap (λ (c : Catalog). c.relations) (relation_changed old slot o size below back)

  eight_before : length (catalog_of old).relations ≡ 8
  eight_before = length-map-range_with_len (relation_at old) 0 8

  put_here : relation_at put slot ≡ o
  put_here = sym (each_relation put slot below) ∙ ap (λ (os : List (Option Schema)). get_or os slot None) put_changed ∙ get_or-set_same (catalog_of old).relations slot o None (omega (arith, eight_before, below))

  put_other : (k : ℕ) → k < 8 → k ≢ slot → relation_at put k ≡ relation_at old k
  put_other k inside differs = sym (each_relation put k inside) ∙ ap (λ (os : List (Option Schema)). get_or os k None) put_changed ∙ get_or-set_other (catalog_of old).relations slot k o None differs ∙ each_relation old k inside

  put_index : (i : ℕ) → i < 8 → index_at put i ≡ index_at old i
  put_index i inside = sym (each_index put i inside) ∙ ap (λ (c : Catalog). get_or c.indexes i None) (relation_changed old slot o size below back) ∙ each_index old i inside

  -- its first bytes
  pub appended_relation : (n : ℕ) → (length old ≡ 0) ⊎ ((length old ≡ 1472) × (1472 ≤ n)) → ReadsSame old (take n put) ⊎ ReadsRelation old (take n put) slot o
  appended_relation n some =
      ⊎_elim
      (λ (less : n < 1472). inl (few old put n put_size size (⊎_elim (λ (none : length old ≡ 0). none) (λ (past : (length old ≡ 1472) × (1472 ≤ n)). absurd (omega (arith, less, past.1))) some) less))
      (λ (past : 1472 ≤ n). inr (record {
        here = front_relation old put n put_size size slot past below ∙ put_here;
        relations = λ k inside differs. front_relation old put n put_size size k past inside ∙ put_other k inside differs ∙ ap (λ (bytes : List ℕ). relation_at bytes k) (sym (whole_sized old size));
        indexes = λ i inside. front_index old put n put_size size i past inside ∙ put_index i inside ∙ ap (λ (bytes : List ℕ). index_at bytes i) (sym (whole_sized old size));
      }))
      (cases_lt n 1472)

  -- all of it
  pub replaced_relation : ReadsRelation old put slot o
  replaced_relation =
      let whole : whole_bytes put ≡ put = whole_long put (omega (arith, put_size)) in
      record {
        here = ap (λ (bytes : List ℕ). relation_at bytes slot) whole ∙ put_here;
        relations = λ k inside differs. ap (λ (bytes : List ℕ). relation_at bytes k) whole ∙ put_other k inside differs ∙ ap (λ (bytes : List ℕ). relation_at bytes k) (sym (whole_sized old size));
        indexes = λ i inside. ap (λ (bytes : List ℕ). index_at bytes i) whole ∙ put_index i inside ∙ ap (λ (bytes : List ℕ). index_at bytes i) (sym (whole_sized old size));
      }

pub appended_index : (old : List ℕ) (slot n : ℕ) (o : Option Index) → IsCatalogSize (length old) → (length old ≡ 0) ⊎ ((length old ≡ 1472) × (1472 ≤ n)) → slot < 8
    → ReadsSame old (take n (with_index_slot old slot o)) ⊎ ReadsIndex old (take n (with_index_slot old slot o)) slot o
appended_index old slot n o size some below =
    ⊎_elim
    (λ (less : n < 1472). inl (few old whole n long size (⊎_elim (λ (none : length old ≡ 0). none) (λ (past : (length old ≡ 1472) × (1472 ≤ n)). absurd (omega (arith, less, past.1))) some) less))
    (λ (past : 1472 ≤ n). inr (record {
      here = front_index old whole n long size slot past below ∙ here;
      relations = λ k inside. front_relation old whole n long size k past inside ∙ relation k inside ∙ ap (λ (bytes : List ℕ). relation_at bytes k) (sym (whole_sized old size));
      indexes = λ i inside differs. front_index old whole n long size i past inside ∙ other i inside differs ∙ ap (λ (bytes : List ℕ). index_at bytes i) (sym (whole_sized old size));
    }))
    (cases_lt n 1472)
  where
    whole : List ℕ
    whole = with_index_slot old slot o

    long : length whole ≡ 1480
    long = length-with_slot old (index_slot_bytes o) (1408 + 8 * slot) size (let m = length-index_slot o in omega (arith, m, below))

    changed : (catalog_of whole).indexes ≡ set (catalog_of old).indexes slot o
    changed = ap (λ (c : Catalog). c.indexes) (index_changed old slot o size below)

    eight : length (catalog_of old).indexes ≡ 8
    eight = length-map-range_with_len (index_at old) 0 8

    here : index_at whole slot ≡ o
    here = sym (each_index whole slot below) ∙ ap (λ (os : List (Option Index)). get_or os slot None) changed ∙ get_or-set_same (catalog_of old).indexes slot o None (omega (arith, eight, below))

    other : (i : ℕ) → i < 8 → i ≢ slot → index_at whole i ≡ index_at old i
    other i inside differs = sym (each_index whole i inside) ∙ ap (λ (os : List (Option Index)). get_or os i None) changed ∙ get_or-set_other (catalog_of old).indexes slot i o None differs ∙ each_index old i inside

    relation : (k : ℕ) → k < 8 → relation_at whole k ≡ relation_at old k
    relation k inside =
        sym (each_relation whole k inside) ∙ ap (λ (c : Catalog). get_or c.relations k None) (index_changed old slot o size below) ∙ each_relation old k inside

-- ---- a slot that is written over in part

-- of which nothing was written
pub replaces_nothing : (old : List ℕ) (at : ℕ) (slot : List ℕ) → IsCatalogSize (length old) → ReplacesFront old at slot old
replaces_nothing old at slot size = ⊎_elim
    (λ (none : length old ≡ 0). inl (record { done = 0; first = inl none; is = nil_from_length old none }))
    (λ (some : (length old ≡ 1472) ⊎ (length old ≡ 1480)).
    let long : 1472 ≤ length old = ⊎_elim (λ (first : length old ≡ 1472). omega (arith, first)) (λ (second : length old ≡ 1480). omega (arith, second)) some in
    inr (record { done = 0; within = omega arith; whole = inl refl; some = long; is = sym (put_at_nothing old at) }))
    size

-- the first bytes of a slot, up to where a region ends
abbrev pub IsFrontPart : (at size n : ℕ) → Type 0
IsFrontPart at size n = (n ≡ 0) ⊎ ((n ≡ size) ⊎ ((at + n) % 128 ≡ 0))

-- what stands in the slot then
pub here_part : (old slot : List ℕ) (at size n : ℕ) → length slot ≡ size → n ≤ size → at + size ≤ length old
    → slice_range (put_at old at (take n slot)) at (at + size) ≡ take n slot ++ drop n (slice_range old at (at + size))
here_part old slot at size n long few room =
    let part : List ℕ = take n slot in
    let is : length part ≡ n = length-take-le n slot (omega (arith, long, few)) in
    let rest : ℕ = size - n in
    let width : at + size - at ≡ size = omega arith in
    let split : size ≡ n + rest = omega (arith, few) in
    let sum : size ≡ length part + rest = omega (arith, few, is) in
    let behind : take rest (drop (at + n) old) ≡ drop n (take size (drop at old)) =
    ap (take rest) (sym (drop-drop n at old)) ∙ sym (drop-take n rest (drop at old)) ∙ ap (λ (m : ℕ). drop n (take m (drop at old))) (sym split) in
    ap (take (at + size - at)) (drop-put_at old part at (omega (arith, room)))
    ∙ ap (λ (m : ℕ). take (at + size - at) (part ++ drop (at + m) old)) is
    ∙ ap (λ (m : ℕ). take m (part ++ drop (at + n) old)) (width ∙ sum)
    ∙ take-append-add part (drop (at + n) old) rest
    ∙ ap (λ (xs : List ℕ). part ++ xs) behind
    ∙ ap (λ (m : ℕ). part ++ drop n (take m (drop at old))) (sym width)

module _ (old slot : List ℕ) (n : ℕ) (long : 1472 ≤ length old) where
  -- of a relation
  pub over_relation : (k : ℕ) (o : Option Schema) → length slot ≡ 176 → n ≤ 176 → k < 8 → relation_slot_of (take n slot ++ drop n (slice_range old (176 * k) (176 * k + 176))) ≡ o
      → ReadsRelation old (put_at old (176 * k) (take n slot)) k o
  over_relation k o size few below is =
      let at : ℕ = 176 * k in
      let part : List ℕ = take n slot in
      let now : List ℕ = put_at old at part in
      let width : length part ≡ n = length-take-le n slot (omega (arith, size, few)) in
      let room : at ≤ length old = omega (arith, long, below) in
      let same : length now ≡ length old = length-put_at old part at (omega (arith, long, below, width, few)) in
      let whole : whole_bytes now ≡ now = whole_long now (omega (arith, same, long)) in
      let before : whole_bytes old ≡ old = whole_long old long in
      record {
        here = ap (λ (bytes : List ℕ). relation_at bytes k) whole ∙ ap relation_slot_of (here_part old slot at 176 n size few (omega (arith, long, below))) ∙ is;
        relations = λ j inside differs.
            ap (λ (bytes : List ℕ). relation_at bytes j) whole
            ∙ ap relation_slot_of (⊎_elim
            (λ (less : j < k). before_put old part at (176 * j) (176 * j + 176) (omega arith) (omega (arith, less)) room)
            (λ (more : k ≤ j). behind_put old part at (176 * j) (176 * j + 176) (omega (arith, width, few, more, differs)) room)
            (cases_lt j k))
            ∙ ap (λ (bytes : List ℕ). relation_at bytes j) (sym before);
        indexes = λ i inside.
            ap (λ (bytes : List ℕ). index_at bytes i) whole
            ∙ ap index_slot_of (behind_put old part at (1408 + 8 * i) (1408 + 8 * i + 8) (omega (arith, width, few, below)) room)
            ∙ ap (λ (bytes : List ℕ). index_at bytes i) (sym before);
      }

  -- of an index
  over_index : (i : ℕ) (o : Option Index) → length slot ≡ 8 → n ≤ 8 → i < 8 → index_slot_of (take n slot ++ drop n (slice_range old (1408 + 8 * i) (1408 + 8 * i + 8))) ≡ o
      → ReadsIndex old (put_at old (1408 + 8 * i) (take n slot)) i o
  over_index i o size few below is =
      let at : ℕ = 1408 + 8 * i in
      let part : List ℕ = take n slot in
      let now : List ℕ = put_at old at part in
      let width : length part ≡ n = length-take-le n slot (omega (arith, size, few)) in
      let room : at ≤ length old = omega (arith, long, below) in
      let same : length now ≡ length old = length-put_at old part at (omega (arith, long, below, width, few)) in
      let whole : whole_bytes now ≡ now = whole_long now (omega (arith, same, long)) in
      let before : whole_bytes old ≡ old = whole_long old long in
      record {
        here = ap (λ (bytes : List ℕ). index_at bytes i) whole ∙ ap index_slot_of (here_part old slot at 8 n size few (omega (arith, long, below))) ∙ is;
        relations = λ k inside.
            ap (λ (bytes : List ℕ). relation_at bytes k) whole
            ∙ ap relation_slot_of (before_put old part at (176 * k) (176 * k + 176) (omega arith) (omega (arith, inside)) room)
            ∙ ap (λ (bytes : List ℕ). relation_at bytes k) (sym before);
        indexes = λ j inside differs.
            ap (λ (bytes : List ℕ). index_at bytes j) whole
            ∙ ap index_slot_of (⊎_elim
            (λ (less : j < i). before_put old part at (1408 + 8 * j) (1408 + 8 * j + 8) (omega arith) (omega (arith, less)) room)
            (λ (more : i ≤ j). behind_put old part at (1408 + 8 * j) (1408 + 8 * j + 8) (omega (arith, width, few, more, differs)) room)
            (cases_lt j i))
            ∙ ap (λ (bytes : List ℕ). index_at bytes j) (sym before);
      }

-- nothing is written
not_written : (old slot : List ℕ) (at n : ℕ) → n ≡ 0 → ReadsSame old (put_at old at (take n slot))
not_written old slot at n none = reads_same old (put_at old at (take n slot)) (ap whole_bytes (ap (λ (m : ℕ). put_at old at (take m slot)) none ∙ put_at_nothing old at))

-- ---- index slots

pub index_part : (i n : ℕ) → i < 8 → n ≤ 8 → IsFrontPart (1408 + 8 * i) 8 n → (n ≡ 0) ⊎ (n ≡ 8)
index_part i n below few (inl none) = inl none
index_part i n below few (inr (inl all)) = inr all
index_part i n below few (inr (inr ends)) =
    let x : ℕ = 1408 + 8 * i + n in
    let back = mod-eq-sub-div-mul x 128 in
    let front = div-mul-le_self x 128 in
    inl (omega (arith, back, front, ends, below, few))

all_of : (slot rest : List ℕ) (n : ℕ) → length slot ≡ n → length rest ≡ n → take n slot ++ drop n rest ≡ slot
all_of slot rest n e f = subst (λ (m : ℕ). take m slot ++ drop m rest ≡ slot) e (ends slot rest (e ∙ sym f))
  where
    ends : (xs ys : List ℕ) → length xs ≡ length ys → take (length xs) xs ++ drop (length xs) ys ≡ xs
    ends [] [] same = refl
    ends [] (y ∷ ys) same = absurd (omega (arith, same))
    ends (x ∷ xs) [] same = absurd (omega (arith, same))
    ends (x ∷ xs) (y ∷ ys) same = ap (λ zs. x ∷ zs) (ends xs ys (omega (arith, same)))

length-range : (xs : List ℕ) (at size : ℕ) → at + size ≤ length xs → length (slice_range xs at (at + size)) ≡ size
length-range xs at size room =
    let split : at + size - at ≡ size = omega arith in
    let front : length (take at xs) ≡ at = length-take-le at xs (omega (arith, room)) in
    let parts : length (take at xs) + length (drop at xs) ≡ length xs = sym (length-append (take at xs) (drop at xs)) ∙ ap length (take-append-drop at xs) in
    ap (λ (m : ℕ). length (take m (drop at xs))) split ∙ length-take-le size (drop at xs) (omega (arith, front, parts, room))

-- an index's slot lies in one region
pub overwritten_index : (old : List ℕ) (slot n : ℕ) (o : Option Index) → 1472 ≤ length old → slot < 8 → n ≤ 8 → IsFrontPart (1408 + 8 * slot) 8 n
    → ReadsSame old (put_at old (1408 + 8 * slot) (take n (index_slot_bytes o))) ⊎ ReadsIndex old (put_at old (1408 + 8 * slot) (take n (index_slot_bytes o))) slot o
overwritten_index old slot n o long below few part =
    ⊎_elim
    (λ (none : n ≡ 0). inl (not_written old (index_slot_bytes o) (1408 + 8 * slot) n none))
    (λ (all : n ≡ 8). inr (over_index old (index_slot_bytes o) n long slot o (length-index_slot o) few below
    (ap index_slot_of (all_of (index_slot_bytes o) (slice_range old (1408 + 8 * slot) (1408 + 8 * slot + 8)) n (length-index_slot o ∙ sym all) (length-range old (1408 + 8 * slot) 8 (omega (arith, long, below)) ∙ sym all)) ∙ index_slot_back o)))
    (index_part slot n below few part)

-- ---- relation slots

-- the name is written whole or not at all
pub relation_part : (k n : ℕ) → k < 8 → n ≤ 176 → IsFrontPart (176 * k) 176 n → (n ≡ 0) ⊎ (16 ≤ n)
relation_part k n below few (inl none) = inl none
relation_part k n below few (inr (inl all)) = inr (omega (arith, all))
relation_part k n below few (inr (inr ends)) =
    let x : ℕ = 176 * k + n in
    let back = mod-eq-sub-div-mul x 128 in
    let front = div-mul-le_self x 128 in
    ⊎_elim
    (λ (less : n < 16). let none : n ≡ 0 = omega (arith, back, front, ends, less) in inl none)
    (λ (more : 16 ≤ n). inr more)
    (cases_lt n 16)

-- where the ends of two slots are the same, and as much as differs is written, all is
pub back_same : (a b back : List ℕ) (n : ℕ) → length a ≡ length b → length a ≤ n → take n (a ++ back) ++ drop n (b ++ back) ≡ a ++ back
back_same a b back n same past =
    let more : ℕ = n - length a in
    let sum : length a + more ≡ n = omega (arith, past) in
    let behind : drop (length a + more) (b ++ back) ≡ drop (length a + more) (a ++ back) =
    sym (drop-drop more (length a) (b ++ back)) ∙ ap (drop more) (drop_at b back (length a) (sym same) ∙ sym (drop_at a back (length a) refl)) ∙ drop-drop more (length a) (a ++ back) in
    subst (λ (m : ℕ). take m (a ++ back) ++ drop m (b ++ back) ≡ a ++ back) sum
    (ap (λ (xs : List ℕ). take (length a + more) (a ++ back) ++ xs) behind ∙ take-append-drop (length a + more) (a ++ back))

-- behind the name of a relation without attributes
pub bare_end : List ℕ
bare_end = replicate 159 0 ++ 1 ∷ []

pub bare_slot : (name : List ℕ) → relation_slot_bytes (Some (record { name = name; attributes = [] })) ≡ padded 16 name ++ bare_end
unfolding bare_end
bare_slot name = append_assoc (padded 16 name ++ padded 144 []) (padded 15 (0 ∷ [])) (1 ∷ []) ∙ append_assoc (padded 16 name) (padded 144 []) (padded 15 (0 ∷ []) ++ 1 ∷ [])

pub unused_slot : relation_slot_bytes None ≡ replicate 16 0 ++ bare_end
unfolding bare_end
unused_slot = refl

pub name_size : (name : List ℕ) → IsTrue (is_name name) → length (padded 16 name) ≡ 16
unfolding bare_end
name_size name e =
    let size : length (relation_slot_bytes (Some (record { name = name; attributes = [] }))) ≡ 176 = length-relation_slot (Some (record { name = name; attributes = [] })) (e, omega arith, tt) in
    let all = length-append (padded 16 name) bare_end in
    let end : length bare_end ≡ 160 = refl in
    let sum : length (padded 16 name ++ bare_end) ≡ 176 = sym (ap length (bare_slot name)) ∙ size in
    omega (arith, all, end, sum)

-- a new relation without attributes, in an unused slot
pub overwritten_new : (old : List ℕ) (slot n : ℕ) (name : List ℕ) → 1472 ≤ length old → slot < 8 → n ≤ 176 → IsFrontPart (176 * slot) 176 n
    → IsRelation (Some (record { name = name; attributes = [] })) → slice_range old (176 * slot) (176 * slot + 176) ≡ relation_slot_bytes None
    → ReadsSame old (put_at old (176 * slot) (take n (relation_slot_bytes (Some (record { name = name; attributes = [] })))))
    ⊎ ReadsRelation old (put_at old (176 * slot) (take n (relation_slot_bytes (Some (record { name = name; attributes = [] }))))) slot (Some (record { name = name; attributes = [] }))
overwritten_new old slot n name long below few part good was =
    let o : Option Schema = Some (record { name = name; attributes = [] }) in
    let written : List ℕ = relation_slot_bytes o in
    let before : List ℕ = slice_range old (176 * slot) (176 * slot + 176) in
    let size : length written ≡ 176 = length-relation_slot o good in
    ⊎_elim
    (λ (none : n ≡ 0). inl (not_written old written (176 * slot) n none))
    (λ (past : 16 ≤ n).
    let long_name : length (padded 16 name) ≡ 16 = name_size name good.0 in
    inr (over_relation old written n long slot o size few below
    (ap relation_slot_of
    (ap (λ (xs : List ℕ). take n xs ++ drop n before) (bare_slot name)
    ∙ ap (λ (xs : List ℕ). take n (padded 16 name ++ bare_end) ++ drop n xs) (was ∙ unused_slot)
    ∙ back_same (padded 16 name) (replicate 16 0) bare_end n long_name (omega (arith, past, long_name))
    ∙ sym (bare_slot name))
    ∙ relation_slot_back o good)))
    (relation_part slot n below few part)

-- a relation's slot is cleared
pub overwritten_cleared : (old : List ℕ) (slot n : ℕ) → 1472 ≤ length old → slot < 8 → n ≤ 176 → IsFrontPart (176 * slot) 176 n
    → ReadsSame old (put_at old (176 * slot) (take n (relation_slot_bytes None))) ⊎ ReadsRelation old (put_at old (176 * slot) (take n (relation_slot_bytes None))) slot None
overwritten_cleared old slot n long below few part =
    ⊎_elim
    (λ (none : n ≡ 0). inl (not_written old (relation_slot_bytes None) (176 * slot) n none))
    (λ (past : 16 ≤ n). inr (over_relation old (relation_slot_bytes None) n long slot None refl few below (cleared n (drop n (slice_range old (176 * slot) (176 * slot + 176))) (omega (arith, past)))))
    (relation_part slot n below few part)
  where
    cleared : (n : ℕ) (rest : List ℕ) → 0 < n → relation_slot_of (take n (relation_slot_bytes None) ++ rest) ≡ None
    cleared zero rest some = absurd (omega (arith, some))
    cleared (suc n) rest some = refl

-- ---- one attribute more

-- what a relation's slot is read as, of its parts
slot_read : ℕ → List ℕ → List Attribute → Option Schema
slot_read first name attributes = if first == 0 then None else Some (record { name = up_to_zero name; attributes = attributes })

-- a slot with the same front and the same end is read as the same
pub same_reading : (xs ys : List ℕ) (count : ℕ) → take (16 + 18 * count) xs ≡ take (16 + 18 * count) ys → drop 160 xs ≡ drop 160 ys → slice_index ys 160 ≡ count → relation_slot_of xs ≡ relation_slot_of ys
unfolding slot_read
same_reading xs ys count front end is =
    let m : ℕ = 16 + 18 * count in
    let first : slice_index xs 0 ≡ slice_index ys 0 = sym (get_or-take m xs 0 0 (omega arith)) ∙ ap (λ (zs : List ℕ). slice_index zs 0) front ∙ get_or-take m ys 0 0 (omega arith) in
    let name : take 16 xs ≡ take 16 ys = sym (take-take 16 m xs (omega arith)) ∙ ap (take 16) front ∙ take-take 16 m ys (omega arith) in
    let number : slice_index xs 160 ≡ slice_index ys 160 = sym (get_or-drop 160 xs 0 0) ∙ ap (λ (zs : List ℕ). slice_index zs 0) end ∙ get_or-drop 160 ys 0 0 in
    let fields : take (18 * count) (drop 16 xs) ≡ take (18 * count) (drop 16 ys) = sym (drop-take 16 (18 * count) xs) ∙ ap (drop 16) front ∙ drop-take 16 (18 * count) ys in
    let attributes : attributes_of count (drop 16 xs) ≡ attributes_of count (drop 16 ys) =
    slots_same (λ j. attribute_of (slice_range (drop 16 xs) (18 * j) (18 * j + 18))) (λ j. attribute_of (slice_range (drop 16 ys) (18 * j) (18 * j + 18))) 0 count
    (λ j low inside.
    ap attribute_of
    (sym (range_take (drop 16 xs) (18 * count) (18 * j) (18 * j + 18) (omega arith) (omega (arith, inside)))
    ∙ ap (λ (zs : List ℕ). slice_range zs (18 * j) (18 * j + 18)) fields
    ∙ range_take (drop 16 ys) (18 * count) (18 * j) (18 * j + 18) (omega arith) (omega (arith, inside)))) in
    ap (λ (f : ℕ). slot_read f (take 16 xs) (attributes_of (slice_index xs 160) (drop 16 xs))) first
    ∙ ap (λ (n : List ℕ). slot_read (slice_index ys 0) n (attributes_of (slice_index xs 160) (drop 16 xs))) name
    ∙ ap (λ (c : ℕ). slot_read (slice_index ys 0) (take 16 ys) (attributes_of c (drop 16 xs))) (number ∙ is)
    ∙ ap (λ (fields : List Attribute). slot_read (slice_index ys 0) (take 16 ys) fields) attributes
    ∙ ap (λ (c : ℕ). slot_read (slice_index ys 0) (take 16 ys) (attributes_of c (drop 16 ys))) (sym is)

-- what differs lies in front of what is written, or behind it
pub front_part : (new old : List ℕ) (m n : ℕ) → take m new ≡ take m old → take m (take n new ++ drop n old) ≡ take m old
front_part new old m n same = ⊎_elim
    (λ (less : n < m).
    let written : take n new ≡ take n old = sym (take-take n m new (omega (arith, less))) ∙ ap (take n) same ∙ take-take n m old (omega (arith, less)) in
    ap (λ (xs : List ℕ). take m (xs ++ drop n old)) written ∙ ap (take m) (take-append-drop n old))
    (λ (more : m ≤ n). by_front new old m n same more)
    (cases_lt n m)
  where
    by_front : (new old : List ℕ) (m n : ℕ) → take m new ≡ take m old → m ≤ n → take m (take n new ++ drop n old) ≡ take m old
    by_front new old zero n same more = refl
    by_front [] [] (suc m) zero same more = refl
    by_front [] [] (suc m) (suc n) same more = refl
    by_front [] (b ∷ old) (suc m) n same more = absurd (let e : length {A = ℕ} [] ≡ length (b ∷ take m old) = ap length same in omega (arith, e))
    by_front (a ∷ new) [] (suc m) n same more = absurd (let e : length (a ∷ take m new) ≡ length {A = ℕ} [] = ap length same in omega (arith, e))
    by_front (a ∷ new) (b ∷ old) (suc m) zero same more = absurd (omega (arith, more))
    by_front (a ∷ new) (b ∷ old) (suc m) (suc n) same more =
        let head : a ≡ b = ap (λ (xs : List ℕ). get_or xs 0 0) same in
        let tail : take m new ≡ take m old = ap (drop 1) same in
        ap (λ x. x ∷ take m (take n new ++ drop n old)) head ∙ ap (λ xs. b ∷ xs) (by_front new old m n tail (omega (arith, more)))

pub end_part : (new old : List ℕ) (m n : ℕ) → length new ≡ length old → n ≤ m → drop m (take n new ++ drop n old) ≡ drop m old
end_part new old m zero same less = refl
end_part [] [] (suc m) (suc n) same less = refl
end_part [] (b ∷ old) (suc m) (suc n) same less = absurd (omega (arith, same))
end_part (a ∷ new) [] (suc m) (suc n) same less = absurd (omega (arith, same))
end_part (a ∷ new) (b ∷ old) (suc m) (suc n) same less = end_part new old m n (omega (arith, same)) (omega (arith, less))
end_part new old zero (suc n) same less = absurd (omega (arith, less))

-- behind the number of attributes
slot_tail : List ℕ
slot_tail = replicate 14 0 ++ 1 ∷ []

slot_parts : (schema : Schema) → relation_slot_bytes (Some schema) ≡ (padded 16 schema.name ++ padded 144 (flat_map attribute_bytes schema.attributes) ++ length schema.attributes ∷ []) ++ slot_tail
unfolding slot_tail
slot_parts schema =
    let front : List ℕ = padded 16 schema.name ++ padded 144 (flat_map attribute_bytes schema.attributes) in
    let count : List ℕ = length schema.attributes ∷ [] in
    append_assoc front (count ++ replicate 14 0) (1 ∷ []) ∙ ap (λ (xs : List ℕ). front ++ xs) (append_assoc count (replicate 14 0) (1 ∷ [])) ∙ sym (append_assoc front count (replicate 14 0 ++ 1 ∷ []))

-- the parts of a slot have their lengths, and it is read as what it was written for
pub record FitsSlot (s : Schema) : Type 0 where
  pub name : length s.name ≤ 16
  pub attributes : length (flat_map attribute_bytes s.attributes) ≡ 18 * length s.attributes
  pub few : length s.attributes ≤ 8
  pub back : IsReadBack (Some s)

-- the parts of a slot, by what its attributes begin with
slot_begins : (name first more count : List ℕ) → name ++ (first ++ more) ++ count ++ 1 ∷ [] ≡ (name ++ first) ++ (more ++ (count ++ 1 ∷ []))
slot_begins name first more count =
    append_assoc (name ++ (first ++ more)) count (1 ∷ [])
    ∙ ap (λ (xs : List ℕ). xs ++ (count ++ 1 ∷ [])) (sym (append_assoc name first more))
    ∙ append_assoc (name ++ first) more (count ++ 1 ∷ [])

module _ (schema : Schema) (a : Attribute) (short : FitsSlot schema) (more : FitsSlot (record { name = schema.name; attributes = schema.attributes ++ a ∷ [] })) where
  abbrev longer : Schema
  longer = record { name = schema.name; attributes = schema.attributes ++ a ∷ [] }

  abbrev count : ℕ
  count = length schema.attributes

  abbrev flat : List ℕ
  flat = flat_map attribute_bytes schema.attributes

  name_is : length (padded 16 schema.name) ≡ 16
  name_is = length-padded 16 schema.name short.name

  flat_is : length flat ≡ 18 * count
  flat_is = short.attributes

  begin_is : length (padded 16 schema.name ++ flat) ≡ 16 + 18 * count
  begin_is = length-append (padded 16 schema.name) flat ∙ ap (λ n. n + length flat) name_is ∙ ap (λ n. 16 + n) flat_is

  slot_before : take (16 + 18 * count) (relation_slot_bytes (Some schema)) ≡ padded 16 schema.name ++ flat
  slot_before =
      ap (take (16 + 18 * count)) (slot_begins (padded 16 schema.name) flat (replicate (144 - length flat) 0) (padded 15 (count ∷ [])))
      ∙ take_at (padded 16 schema.name ++ flat) _ (16 + 18 * count) begin_is

  slot_after : take (16 + 18 * count) (relation_slot_bytes (Some longer)) ≡ padded 16 schema.name ++ flat
  slot_after =
      let all : List ℕ = flat_map attribute_bytes (schema.attributes ++ a ∷ []) in
      let last : List ℕ = flat_map attribute_bytes (a ∷ []) in
      let zeros : List ℕ = replicate (144 - length all) 0 in
      let number : List ℕ = padded 15 (length (schema.attributes ++ a ∷ []) ∷ []) in
      let split : all ++ zeros ≡ flat ++ (last ++ zeros) = ap (λ (xs : List ℕ). xs ++ zeros) (flat_map-append attribute_bytes schema.attributes (a ∷ [])) ∙ append_assoc flat last zeros in
      ap (λ (xs : List ℕ). take (16 + 18 * count) (padded 16 schema.name ++ xs ++ number ++ 1 ∷ [])) split
      ∙ ap (take (16 + 18 * count)) (slot_begins (padded 16 schema.name) flat (last ++ zeros) number)
      ∙ take_at (padded 16 schema.name ++ flat) _ (16 + 18 * count) begin_is

  -- the front, up to the number of attributes
  fields_size : (s : Schema) → FitsSlot s → length (padded 16 s.name ++ padded 144 (flat_map attribute_bytes s.attributes)) ≡ 160
  fields_size s h =
      let front : length (padded 16 s.name) ≡ 16 = length-padded 16 s.name h.name in
      let fields : length (padded 144 (flat_map attribute_bytes s.attributes)) ≡ 144 = length-padded 144 (flat_map attribute_bytes s.attributes) (omega (arith, h.attributes, h.few)) in
      length-append (padded 16 s.name) (padded 144 (flat_map attribute_bytes s.attributes)) ∙ omega (arith, front, fields)

  number_before : slice_index (relation_slot_bytes (Some schema)) 160 ≡ count
  number_before =
      let front : List ℕ = padded 16 schema.name ++ padded 144 flat in
      let long : length front ≡ 160 = fields_size schema short in
      ap (λ (xs : List ℕ). slice_index xs 160) (slot_parts schema ∙ append_assoc front (count ∷ []) slot_tail)
      ∙ subst (λ (m : ℕ). slice_index (front ++ (count ∷ [] ++ slot_tail)) m ≡ count) (omega (arith, long)) (get_or-append-add front (count ∷ [] ++ slot_tail) 0 0)

  slot_front_size : (s : Schema) → FitsSlot s → length (padded 16 s.name ++ padded 144 (flat_map attribute_bytes s.attributes) ++ length s.attributes ∷ []) ≡ 161
  slot_front_size s h =
      length-append (padded 16 s.name ++ padded 144 (flat_map attribute_bytes s.attributes)) (length s.attributes ∷ []) ∙ ap (λ n. n + 1) (fields_size s h)

  -- where the number of attributes is written, all is
  pub grown_whole : (n : ℕ) → 161 ≤ n → take n (relation_slot_bytes (Some longer)) ++ drop n (relation_slot_bytes (Some schema)) ≡ relation_slot_bytes (Some longer)
  grown_whole n past =
      let was : List ℕ = relation_slot_bytes (Some schema) in
      let new_front : List ℕ = padded 16 longer.name ++ padded 144 (flat_map attribute_bytes longer.attributes) ++ length longer.attributes ∷ [] in
      let was_front : List ℕ = padded 16 schema.name ++ padded 144 (flat_map attribute_bytes schema.attributes) ++ length schema.attributes ∷ [] in
      let new_long : length new_front ≡ 161 = slot_front_size longer more in
      let was_long : length was_front ≡ 161 = slot_front_size schema short in
      ap (λ (xs : List ℕ). take n xs ++ drop n was) (slot_parts longer)
      ∙ ap (λ (xs : List ℕ). take n (new_front ++ slot_tail) ++ drop n xs) (slot_parts schema)
      ∙ back_same new_front was_front slot_tail n (new_long ∙ sym was_long) (omega (arith, new_long, past))
      ∙ sym (slot_parts longer)

  -- before that, it has the attributes that it had
  pub grown_less : (n : ℕ) → n < 161 → relation_slot_of (take n (relation_slot_bytes (Some longer)) ++ drop n (relation_slot_bytes (Some schema))) ≡ Some schema
  grown_less n less =
      let new : List ℕ = relation_slot_bytes (Some longer) in
      let was : List ℕ = relation_slot_bytes (Some schema) in
      let new_size : length new ≡ 176 = more.back.0 in
      let was_size : length was ≡ 176 = short.back.0 in
      same_reading (take n new ++ drop n was) was count
      (front_part new was (16 + 18 * count) n (slot_after ∙ sym slot_before))
      (end_part new was 160 n (new_size ∙ sym was_size) (omega (arith, less)))
      number_before ∙ short.back.1

  -- as many attributes as before, or one more
  read_in_part : (n : ℕ) → n ≤ 176 → (relation_slot_of (take n (relation_slot_bytes (Some longer)) ++ drop n (relation_slot_bytes (Some schema))) ≡ Some schema)
      ⊎ (relation_slot_of (take n (relation_slot_bytes (Some longer)) ++ drop n (relation_slot_bytes (Some schema))) ≡ Some longer)
  read_in_part n few = ⊎_elim
      (λ (less : n < 161). inl (grown_less n less))
      (λ (past : 161 ≤ n). inr (ap relation_slot_of (grown_whole n past) ∙ more.back.1))
      (cases_lt n 161)

  -- ---- its bytes

  -- what is before the new attribute is as it was
  pub grown_none : (n : ℕ) → n ≤ 16 + 18 * count → take n (relation_slot_bytes (Some longer)) ++ drop n (relation_slot_bytes (Some schema)) ≡ relation_slot_bytes (Some schema)
  grown_none n few =
      let new : List ℕ = relation_slot_bytes (Some longer) in
      let was : List ℕ = relation_slot_bytes (Some schema) in
      let m : ℕ = 16 + 18 * count in
      ap (λ (xs : List ℕ). xs ++ drop n was) (sym (take-take n m new few) ∙ ap (take n) (slot_after ∙ sym slot_before) ∙ take-take n m was few)
      ∙ take-append-drop n was

  abbrev front : List ℕ
  front = padded 16 schema.name ++ flat

  abbrev attribute : List ℕ
  attribute = flat_map attribute_bytes (a ∷ [])

  attribute_is : flat_map attribute_bytes (a ∷ []) ≡ attribute_bytes a
  attribute_is = flat_map-cons attribute_bytes a [] ∙ append-nil (attribute_bytes a)

  all_is : flat_map attribute_bytes (schema.attributes ++ a ∷ []) ≡ flat ++ flat_map attribute_bytes (a ∷ [])
  all_is = flat_map-append attribute_bytes schema.attributes (a ∷ [])

  more_count : length (schema.attributes ++ a ∷ []) ≡ count + 1
  more_count = length-append schema.attributes (a ∷ [])

  pub attribute_size : length (attribute_bytes a) ≡ 18
  attribute_size =
      let all : length (flat_map attribute_bytes (schema.attributes ++ a ∷ [])) ≡ 18 * length (schema.attributes ++ a ∷ []) = more.attributes in
      let parts = ap length all_is ∙ length-append flat (flat_map attribute_bytes (a ∷ [])) in
      let last = ap length attribute_is in
      omega (arith, all, parts, more_count, flat_is, last)

  -- the parts of both slots, of which the first is the same
  was_parts : relation_slot_bytes (Some schema) ≡ front ++ (replicate (144 - length flat) 0 ++ (padded 15 (count ∷ []) ++ 1 ∷ []))
  was_parts = slot_begins (padded 16 schema.name) flat (replicate (144 - length flat) 0) (padded 15 (count ∷ []))

  new_parts : relation_slot_bytes (Some longer)
      ≡ front ++ (attribute_bytes a ++ (replicate (144 - length (flat_map attribute_bytes (schema.attributes ++ a ∷ []))) 0 ++ (padded 15 (length (schema.attributes ++ a ∷ []) ∷ []) ++ 1 ∷ [])))
  new_parts =
      let all : List ℕ = flat_map attribute_bytes (schema.attributes ++ a ∷ []) in
      let zeros : List ℕ = replicate (144 - length all) 0 in
      let number : List ℕ = padded 15 (length (schema.attributes ++ a ∷ []) ∷ []) in
      let split : all ++ zeros ≡ flat ++ (attribute_bytes a ++ zeros) = ap (λ (xs : List ℕ). xs ++ zeros) (all_is ∙ ap (λ (xs : List ℕ). flat ++ xs) attribute_is) ∙ append_assoc flat (attribute_bytes a) zeros in
      ap (λ (xs : List ℕ). padded 16 schema.name ++ xs ++ number ++ 1 ∷ []) split
      ∙ slot_begins (padded 16 schema.name) flat (attribute_bytes a ++ zeros) number
      ∙ ap (λ (xs : List ℕ). front ++ xs) (append_assoc (attribute_bytes a) zeros (number ++ 1 ∷ []))

  room_was : 16 + 18 * count ≤ length (relation_slot_bytes (Some schema))
  room_was = let e : length (relation_slot_bytes (Some schema)) ≡ 176 = short.back.0 in omega (arith, e, short.few)

  -- with a part of the new attribute behind the others
  pub grown_some : (n u : ℕ) → n ≡ 16 + 18 * count + u → u ≤ 18
      → take n (relation_slot_bytes (Some longer)) ++ drop n (relation_slot_bytes (Some schema)) ≡ put_at (relation_slot_bytes (Some schema)) (16 + 18 * count) (take u (attribute_bytes a))
  unfolding put_at
  grown_some n u is few =
      let was : List ℕ = relation_slot_bytes (Some schema) in
      let new : List ℕ = relation_slot_bytes (Some longer) in
      let rest : List ℕ = replicate (144 - length (flat_map attribute_bytes (schema.attributes ++ a ∷ []))) 0 ++ (padded 15 (length (schema.attributes ++ a ∷ []) ∷ []) ++ 1 ∷ []) in
      let sum : n ≡ length front + u = is ∙ ap (λ (m : ℕ). m + u) (sym begin_is) in
      let written : take n new ≡ front ++ take u (attribute_bytes a) =
      ap (take n) new_parts ∙ ap (λ (m : ℕ). take m (front ++ (attribute_bytes a ++ rest))) sum ∙ take-append-add front (attribute_bytes a ++ rest) u
      ∙ ap (λ (xs : List ℕ). front ++ xs) (take-append-le u (attribute_bytes a) rest (omega (arith, few, attribute_size))) in
      let size : length (take u (attribute_bytes a)) ≡ u = length-take-le u (attribute_bytes a) (omega (arith, few, attribute_size)) in
      ap (λ (xs : List ℕ). xs ++ drop n was) written
      ∙ ap (λ (xs : List ℕ). (xs ++ take u (attribute_bytes a)) ++ drop n was) (sym slot_before)
      ∙ ap (λ (m : ℕ). (take (16 + 18 * count) was ++ take u (attribute_bytes a)) ++ drop m was) (is ∙ ap (λ (m : ℕ). 16 + 18 * count + m) (sym size))

  -- behind it stand zeros in both, up to their number
  pub grown_all : (n m : ℕ) → n ≡ 16 + 18 * count + 18 + m → n ≤ 160
      → take n (relation_slot_bytes (Some longer)) ++ drop n (relation_slot_bytes (Some schema)) ≡ put_at (relation_slot_bytes (Some schema)) (16 + 18 * count) (attribute_bytes a)
  unfolding put_at
  grown_all n m is few =
      let was : List ℕ = relation_slot_bytes (Some schema) in
      let new : List ℕ = relation_slot_bytes (Some longer) in
      let all : List ℕ = flat_map attribute_bytes (schema.attributes ++ a ∷ []) in
      let zeros : List ℕ = replicate (144 - length all) 0 in
      let tail : List ℕ = padded 15 (length (schema.attributes ++ a ∷ []) ∷ []) ++ 1 ∷ [] in
      let end : List ℕ = padded 15 (count ∷ []) ++ 1 ∷ [] in
      let behind : List ℕ = drop (16 + 18 * count + 18) was in
      let many : length all ≡ 18 * length (schema.attributes ++ a ∷ []) = more.attributes in
      let some : m ≤ 144 - length all = omega (arith, many, more_count, is, few) in
      let more_zeros : length zeros ≡ 144 - length all = length-replicate {A = ℕ} (144 - length all) 0 in
      let first : length (front ++ attribute_bytes a) ≡ 16 + 18 * count + 18 = length-append front (attribute_bytes a) ∙ omega (arith, begin_is, attribute_size) in
      let sum : n ≡ length (front ++ attribute_bytes a) + m = is ∙ ap (λ (z : ℕ). z + m) (sym first) in
      let written : take n new ≡ (front ++ attribute_bytes a) ++ replicate {A = ℕ} m 0 =
      ap (take n) (new_parts ∙ sym (append_assoc front (attribute_bytes a) (zeros ++ tail))) ∙ ap (λ (z : ℕ). take z ((front ++ attribute_bytes a) ++ (zeros ++ tail))) sum
      ∙ take-append-add (front ++ attribute_bytes a) (zeros ++ tail) m
      ∙ ap (λ (xs : List ℕ). (front ++ attribute_bytes a) ++ xs) (take-append-le m zeros tail (omega (arith, some, more_zeros)) ∙ take-replicate m (144 - length all) 0 some) in
      let left : drop (16 + 18 * count) was ≡ replicate (144 - length flat) 0 ++ end = ap (drop (16 + 18 * count)) was_parts ∙ drop_at front (replicate (144 - length flat) 0 ++ end) (16 + 18 * count) begin_is in
      let gap : 144 - length flat ≡ 18 + (144 - length all) = omega (arith, flat_is, many, more_count, is, few) in
      let eighteen : length (replicate {A = ℕ} 18 0) ≡ 18 = refl in
      let eight : List ℕ = replicate 18 0 in
      let there : behind ≡ zeros ++ end =
      sym (drop-drop 18 (16 + 18 * count) was)
      ∙ ap (drop 18) (left ∙ ap (λ (z : ℕ). replicate z 0 ++ end) gap ∙ ap (λ (xs : List ℕ). xs ++ end) (replicate-add 18 (144 - length all)) ∙ append_assoc eight zeros end)
      ∙ drop_at eight (zeros ++ end) 18 eighteen in
      let zero_front : List ℕ = replicate m 0 in
      let same : zero_front ≡ take m behind = sym (ap (take m) there ∙ take-append-le m zeros end (omega (arith, some, more_zeros)) ∙ take-replicate m (144 - length all) 0 some) in
      ap (λ (xs : List ℕ). xs ++ drop n was) (written ∙ ap (λ (xs : List ℕ). (front ++ attribute_bytes a) ++ xs) same)
      ∙ ap (λ (z : ℕ). ((front ++ attribute_bytes a) ++ take m behind) ++ drop z was) is
      ∙ ap (λ (xs : List ℕ). ((front ++ attribute_bytes a) ++ take m behind) ++ xs) (sym (drop-drop m (16 + 18 * count + 18) was))
      ∙ append_assoc (front ++ attribute_bytes a) (take m behind) (drop m behind)
      ∙ ap (λ (xs : List ℕ). (front ++ attribute_bytes a) ++ xs) (take-append-drop m behind)
      ∙ ap (λ (xs : List ℕ). (xs ++ attribute_bytes a) ++ behind) (sym slot_before)
      ∙ ap (λ (z : ℕ). (take (16 + 18 * count) was ++ attribute_bytes a) ++ drop (16 + 18 * count + z) was) (sym attribute_size)
    where
      replicate-add : (p q : ℕ) → replicate {A = ℕ} (p + q) 0 ≡ replicate p 0 ++ replicate q 0
      replicate-add zero q = let e : 0 + q ≡ q = omega arith in ap (λ (n : ℕ). replicate {A = ℕ} n 0) e
      replicate-add (suc p) q = let e : suc p + q ≡ suc (p + q) = omega arith in ap (λ (n : ℕ). replicate {A = ℕ} n 0) e ∙ ap (λ (xs : List ℕ). 0 ∷ xs) (replicate-add p q)

-- a relation gets one attribute more
pub overwritten_attribute : (old : List ℕ) (slot n : ℕ) (schema : Schema) (a : Attribute) → 1472 ≤ length old → slot < 8 → n ≤ 176
    → FitsSlot schema → FitsSlot (record { name = schema.name; attributes = schema.attributes ++ a ∷ [] }) → slice_range old (176 * slot) (176 * slot + 176) ≡ relation_slot_bytes (Some schema)
    → ReadsSame old (put_at old (176 * slot) (take n (relation_slot_bytes (Some (record { name = schema.name; attributes = schema.attributes ++ a ∷ [] })))))
    ⊎ ReadsRelation old (put_at old (176 * slot) (take n (relation_slot_bytes (Some (record { name = schema.name; attributes = schema.attributes ++ a ∷ [] }))))) slot
    (Some (record { name = schema.name; attributes = schema.attributes ++ a ∷ [] }))
overwritten_attribute old slot n schema a long below few short more was =
    let longer : Schema = record { name = schema.name; attributes = schema.attributes ++ a ∷ [] } in
    let written : List ℕ = relation_slot_bytes (Some longer) in
    let now : List ℕ = put_at old (176 * slot) (take n written) in
    let before : List ℕ = slice_range old (176 * slot) (176 * slot + 176) in
    let size : length written ≡ 176 = more.back.0 in
    let is : relation_slot_of (take n written ++ drop n before) ≡ relation_slot_of (take n written ++ drop n (relation_slot_bytes (Some schema))) =
    ap (λ (xs : List ℕ). relation_slot_of (take n written ++ drop n xs)) was in
    ⊎_elim
    (λ (same : relation_slot_of (take n written ++ drop n (relation_slot_bytes (Some schema))) ≡ Some schema).
    inl (relation_not_changed old now slot (Some schema) (over_relation old written n long slot (Some schema) size few below (is ∙ same))
    (ap (λ (bytes : List ℕ). relation_at bytes slot) (whole_long old long) ∙ ap relation_slot_of was ∙ short.back.1)))
    (λ (next : relation_slot_of (take n written ++ drop n (relation_slot_bytes (Some schema))) ≡ Some longer).
    inr (over_relation old written n long slot (Some longer) size few below (is ∙ next)))
    (read_in_part schema a short more n few)
