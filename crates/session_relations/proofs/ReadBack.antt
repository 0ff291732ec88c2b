-- A relation slot that reads back what was written goes on doing so where an attribute comes behind the others.
use Rattle.std.proofs.Common.{◌≡◌, ℕ, ◌+◌, ◌-◌, ◌*◌, ◌<◌, ◌≤◌, Bool, true, false, cond, List, [], ◌∷◌, ◌++◌, length, take, drop, map, replicate, flat_map, Some, None, refl, ap, sym, ◌∙◌, subst, arith, append_assoc, length-append}
use Rattle.std.specs.Prelude.{slice_index, slice_range, ◌==◌}
use Rattle.std.specs.List.{AllByRecursion, range_with_len}
use Rattle.std.proofs.lemmas.List.{get_or-append-add, get_or_append_left, flat_map_more, length-take, length_push}
use Rattle.std.proofs.lemmas.List.FromFn.{map-range_with_len_more}
use Rattle.catalog.proofs.Replaced.{IsReadBack}
use Rattle.db_model.specs.declared.schemas.Attribute.{Attribute}
use Rattle.db_model.specs.declared.schemas.Schema.{Schema}
use Rattle.db_model.specs.Catalog.{attribute_bytes, attribute_of, attributes_of, relation_slot_bytes, relation_slot_of, schema_of}
use Rattle.db_model.specs.Row.{up_to_zero}
use Rattle.db_model.proofs.Rows.{drop_front, length-padded, take_front, map_range_same}
use Rattle.padded.proofs.Facts.{slice_of_front}
use Rattle.db_model.proofs.SoundSteps.{all_more}
use Rattle.db_model.proofs.Decoded.{cut}
use Rattle.stored.proofs.CatalogParts.{FitsSlot}

-- bytes with zeros behind them
abbrev padded : ℕ → List ℕ → List ℕ
padded n bytes = bytes ++ replicate (n - length bytes) 0

-- ---- names

-- a name that was read from 16 bytes has no more
short_name : (name bytes : List ℕ) → up_to_zero (take 16 bytes) ≡ name → length name ≤ 16
short_name name bytes e =
    let read = cut (take 16 bytes) in
    let front = length-take 16 bytes in
    omega (arith, sym (ap (λ (xs : List ℕ). length xs) e), read, front)

-- ---- lists

-- what stands behind a front
middle_slice : (front part behind : List ℕ) (a n : ℕ) → length front ≡ a → length part ≡ n → slice_range (front ++ (part ++ behind)) a (a + n) ≡ part
middle_slice front part behind a n first long =
    ap (take (a + n - a)) (drop_front a front (part ++ behind) first) ∙ take_front (a + n - a) part behind (omega (arith, long))

-- ---- attributes

abbrev IsShort : Attribute → Type 0
IsShort a = length a.name ≤ 16

long_attribute : (a : Attribute) → IsShort a → length (attribute_bytes a) ≡ 18
long_attribute a h =
    let name = length-padded 16 a.name h in
    length-append (padded 16 a.name) _ ∙ omega (arith, name)

long_attributes : (attributes : List Attribute) → AllByRecursion IsShort attributes → length (flat_map attribute_bytes attributes) ≡ 18 * length attributes
long_attributes [] all = refl
long_attributes (a ∷ attributes) all =
    let one = long_attribute a all.0 in
    let rest = long_attributes attributes all.1 in
    length-append (attribute_bytes a) (flat_map attribute_bytes attributes) ∙ omega (arith, one, rest)

-- attributes that were read have short names
read_short : (bytes : List ℕ) (js : List ℕ) → AllByRecursion IsShort (map (λ j. attribute_of (slice_range bytes (18 * j) (18 * j + 18))) js)
read_short bytes [] = tt
read_short bytes (j ∷ js) = (short_name _ (slice_range bytes (18 * j) (18 * j + 18)) refl, read_short bytes js)

-- ---- a slot

abbrev name_part : Schema → List ℕ
name_part s = padded 16 s.name

abbrev attributes_part : Schema → List ℕ
attributes_part s = padded 144 (flat_map attribute_bytes s.attributes)

abbrev end_part : Schema → List ℕ
end_part s = padded 15 (length s.attributes ∷ []) ++ 1 ∷ []

grouped : (s : Schema) → relation_slot_bytes (Some s) ≡ name_part s ++ (attributes_part s ++ end_part s)
grouped s =
    append_assoc (name_part s ++ attributes_part s) (padded 15 (length s.attributes ∷ [])) (1 ∷ []) ∙ append_assoc (name_part s) (attributes_part s) (end_part s)

record Read (bytes : List ℕ) (s : Schema) : Type 0 where
  some : (slice_index bytes 0 == 0) ≡ false
  is : schema_of bytes ≡ s

read_of : (bytes : List ℕ) (s : Schema) → relation_slot_of bytes ≡ Some s → Read bytes s
read_of bytes s e = choose (slice_index bytes 0 == 0) refl e
  where
    choose : (unused : Bool) → (slice_index bytes 0 == 0) ≡ unused → cond unused None (Some (schema_of bytes)) ≡ Some s → Read bytes s
    choose true none h = absurd (cc)
    choose false some h = let same : schema_of bytes ≡ s = cc in record { some = some; is = same }

-- the parts have their lengths
record Fits (s : Schema) : Type 0 where
  name : length s.name ≤ 16
  attributes : length (flat_map attribute_bytes s.attributes) ≡ 18 * length s.attributes
  few : length s.attributes ≤ 8

-- and say what they are written for
record Says (s : Schema) : Type 0 where
  some : (slice_index (name_part s) 0 == 0) ≡ false
  name : up_to_zero (name_part s) ≡ s.name
  attributes : attributes_of (length s.attributes) (attributes_part s ++ end_part s) ≡ s.attributes

module _ (s : Schema) (fits : Fits s) where
  long_name : length (name_part s) ≡ 16
  long_name = length-padded 16 s.name fits.name

  long_part : length (attributes_part s) ≡ 144
  long_part = length-padded 144 (flat_map attribute_bytes s.attributes) (omega (arith, fits.attributes, fits.few))

  read_name : take 16 (name_part s ++ (attributes_part s ++ end_part s)) ≡ name_part s
  read_name = take_front 16 (name_part s) (attributes_part s ++ end_part s) long_name

  read_rest : drop 16 (name_part s ++ (attributes_part s ++ end_part s)) ≡ attributes_part s ++ end_part s
  read_rest = drop_front 16 (name_part s) (attributes_part s ++ end_part s) long_name

  whole_first : slice_index (name_part s ++ (attributes_part s ++ end_part s)) 0 ≡ slice_index (name_part s) 0
  whole_first = get_or_append_left (name_part s) (attributes_part s ++ end_part s) 0 0 (omega (arith, long_name))

  whole_count : slice_index (name_part s ++ (attributes_part s ++ end_part s)) 160 ≡ length s.attributes
  whole_count =
      let front : length (name_part s ++ attributes_part s) ≡ 160 = length-append (name_part s) (attributes_part s) ∙ omega (arith, long_name, long_part) in
      ap (λ (xs : List ℕ). slice_index xs 160) (sym (append_assoc (name_part s) (attributes_part s) (end_part s)))
      ∙ subst (λ (m : ℕ). slice_index ((name_part s ++ attributes_part s) ++ end_part s) m ≡ length s.attributes) (omega (arith, front))
      (get_or-append-add (name_part s ++ attributes_part s) (end_part s) 0 0)

  whole_long : length (relation_slot_bytes (Some s)) ≡ 176
  whole_long =
      let behind = length-append (attributes_part s) (end_part s) in
      ap (λ (xs : List ℕ). length xs) (grouped s) ∙ length-append (name_part s) (attributes_part s ++ end_part s) ∙ omega (arith, long_name, long_part, behind)

  -- what the parts say is what the slot says
  reads : Says s → relation_slot_of (relation_slot_bytes (Some s)) ≡ Some s
  reads says =
      ap relation_slot_of (grouped s)
      ∙ rw (whole_first, says.some, whole_count, read_name, read_rest, says.name, says.attributes) refl

  says_of : relation_slot_of (relation_slot_bytes (Some s)) ≡ Some s → Says s
  says_of back =
      let bytes = name_part s ++ (attributes_part s ++ end_part s) in
      let read = read_of bytes s (ap relation_slot_of (sym (grouped s)) ∙ back) in
      record {
        some = ap (λ (n : ℕ). n == 0) (sym whole_first) ∙ read.some;
        name = ap up_to_zero (sym read_name) ∙ ap (λ (z : Schema). z.name) read.is;
        attributes = rw (whole_count, read_rest) at (ap (λ (z : Schema). z.attributes) read.is);
      }

-- a schema that is read back fits
names_short : (s : Schema) → relation_slot_of (relation_slot_bytes (Some s)) ≡ Some s → AllByRecursion IsShort s.attributes
names_short s back =
    let bytes = relation_slot_bytes (Some s) in
    let read = read_of bytes s back in
    subst (λ (xs : List Attribute). AllByRecursion IsShort xs) (ap (λ (z : Schema). z.attributes) read.is) (read_short (drop 16 bytes) (range_with_len 0 (slice_index bytes 160)))

fits_of : (s : Schema) → relation_slot_of (relation_slot_bytes (Some s)) ≡ Some s → length s.attributes ≤ 8 → Fits s
fits_of s back few =
    let bytes = relation_slot_bytes (Some s) in
    let read = read_of bytes s back in
    record { name = short_name s.name bytes (ap (λ (z : Schema). z.name) read.is); attributes = long_attributes s.attributes (names_short s back); few = few }

pub short_of : (s : Schema) → IsReadBack (Some s) → length s.attributes ≤ 8 → FitsSlot s
short_of s back few =
    let fits = fits_of s back.1 few in
    record { name = fits.name; attributes = fits.attributes; few = few; back = back }

-- ---- an attribute more

abbrev pub longer : Schema → Attribute → Schema
longer s a = record { name = s.name; attributes = s.attributes ++ a ∷ [] }

abbrev pub alone : Attribute → Schema
alone a = record { name = a.name; attributes = a ∷ [] }

abbrev read_at : List ℕ → ℕ → Attribute
read_at bytes j = attribute_of (slice_range bytes (18 * j) (18 * j + 18))

-- the attribute that stands alone is read
one_back : (a : Attribute) → IsShort a → Says (alone a) → attribute_of (attribute_bytes a) ≡ a
one_back a short says =
    let zeros : List ℕ = replicate (144 - length (flat_map attribute_bytes (a ∷ []))) 0 in
    let bytes : List ℕ = attributes_part (alone a) ++ end_part (alone a) in
    let same : bytes ≡ [] ++ (attribute_bytes a ++ ([] ++ zeros ++ end_part (alone a))) = simp append_assoc in
    let read : slice_range bytes 0 18 ≡ attribute_bytes a =
    ap (λ (xs : List ℕ). slice_range xs 0 18) same ∙ middle_slice [] (attribute_bytes a) ([] ++ zeros ++ end_part (alone a)) 0 18 refl (long_attribute a short) in
    let first : attribute_of (slice_range bytes 0 18) ≡ a = cc (says.attributes) in
    ap attribute_of (sym read) ∙ first

module _ (s : Schema) (a : Attribute) (fits : Fits s) (says : Says s) (short : IsShort a) (back : attribute_of (attribute_bytes a) ≡ a) (few : length s.attributes < 8) where
  more_fits : AllByRecursion IsShort s.attributes → Fits (longer s a)
  more_fits all = record {
    name = fits.name;
    attributes = long_attributes (s.attributes ++ a ∷ []) (all_more IsShort s.attributes a all short);
    few = omega (arith, length-append s.attributes (a ∷ []), few);
  }

  -- the attributes that were there, and then the new one
  more_bytes : (behind : List ℕ) → (attributes_part (longer s a) ++ end_part (longer s a) ≡ flat_map attribute_bytes s.attributes ++ (attribute_bytes a ++ behind))
      → attributes_of (length s.attributes + 1) (attributes_part (longer s a) ++ end_part (longer s a)) ≡ s.attributes ++ a ∷ []
  more_bytes behind is =
      let flat : List ℕ = flat_map attribute_bytes s.attributes in
      let now : List ℕ = attributes_part (longer s a) ++ end_part (longer s a) in
      let was : List ℕ = attributes_part s ++ end_part s in
      let n : ℕ = length s.attributes in
      let old_is : was ≡ flat ++ (replicate (144 - length flat) 0 ++ end_part s) = append_assoc flat (replicate (144 - length flat) 0) (end_part s) in
      let same : (j : ℕ) → 0 ≤ j → j < 0 + n → read_at now j ≡ read_at was j = λ j from below.
      let inside : 18 * j + 18 ≤ length flat = omega (arith, fits.attributes, below) in
      ap attribute_of
      (ap (λ (xs : List ℕ). slice_range xs (18 * j) (18 * j + 18)) is ∙ slice_of_front flat (attribute_bytes a ++ behind) (18 * j) (18 * j + 18) (omega arith) inside
      ∙ sym (ap (λ (xs : List ℕ). slice_range xs (18 * j) (18 * j + 18)) old_is ∙ slice_of_front flat (replicate (144 - length flat) 0 ++ end_part s) (18 * j) (18 * j + 18) (omega arith) inside)) in
      let last : read_at now n ≡ a =
      ap attribute_of (ap (λ (xs : List ℕ). slice_range xs (18 * n) (18 * n + 18)) is
      ∙ middle_slice flat (attribute_bytes a) behind (18 * n) 18 fits.attributes (long_attribute a short)) ∙ back in
      map-range_with_len_more (read_at now) 0 n n (omega arith)
      ∙ ap (λ xs. xs ++ read_at now n ∷ []) (map_range_same (read_at now) (read_at was) 0 n same ∙ says.attributes)
      ∙ ap (λ x. s.attributes ++ x ∷ []) last

  more_says : Says (longer s a)
  more_says =
      let flat : List ℕ = flat_map attribute_bytes s.attributes in
      let grown : List ℕ = flat_map attribute_bytes (s.attributes ++ a ∷ []) in
      let zeros : List ℕ = replicate (144 - length grown) 0 in
      let behind : List ℕ = zeros ++ end_part (longer s a) in
      let parted : grown ≡ flat ++ attribute_bytes a = sym (flat_map_more attribute_bytes [] s.attributes a) in
      let is : (grown ++ zeros) ++ end_part (longer s a) ≡ flat ++ (attribute_bytes a ++ behind) =
      append_assoc grown zeros (end_part (longer s a)) ∙ ap (λ (xs : List ℕ). xs ++ behind) parted ∙ append_assoc flat (attribute_bytes a) behind in
      record {
        some = says.some;
        name = says.name;
        attributes = ap (λ (m : ℕ). attributes_of m ((grown ++ zeros) ++ end_part (longer s a))) (length_push s.attributes a) ∙ more_bytes behind is;
      }

pub read_back_more : (s : Schema) (a : Attribute) → IsReadBack (Some s) → IsReadBack (Some (alone a)) → length s.attributes < 8 → IsReadBack (Some (longer s a))
read_back_more s a h one few =
    let fits = fits_of s h.1 (omega (arith, few)) in
    let says = says_of s fits h.1 in
    let short = (names_short (alone a) one.1).0 in
    let back = one_back a short (says_of (alone a) (fits_of (alone a) one.1 (omega arith)) one.1) in
    let more = more_fits s a fits says short back few (names_short s h.1) in
    (whole_long (longer s a) more, reads (longer s a) more (more_says s a fits says short back few))
