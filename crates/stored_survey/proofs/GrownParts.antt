-- A relation's slot in which one more attribute, or a part of it, stands behind the others.
use Rattle.std.proofs.Common.{◌≡◌, ℕ, zero, suc, ◌+◌, ◌-◌, ◌*◌, ◌/◌, ◌≤◌, ◌<◌, Bool, true, false, List, [], ◌∷◌, ◌++◌, length, take, drop, replicate, Some, refl, sym, ap, subst, ◌∙◌, arith, append_assoc, length-append}
use Rattle.std.specs.Prelude.{slice_range}
use Rattle.std.specs.Bool.{Decides}
use Rattle.std.proofs.Math.Seq.{drop-append-add, take-append-add}
use Rattle.std.proofs.lemmas.List.{drop-drop, drop_at, length-replicate, take_at}
use Rattle.afl_base.specs.Fields.{put_at}
use Rattle.afl_base.proofs.FieldLaws.{length-put_at}
use Rattle.catalog.specs.Rules.{is_schema}
use Rattle.catalog.proofs.Puts.{put_at-append, put_at_all}
use Rattle.db_model.specs.declared.schemas.Schema.{Schema}
use Rattle.db_model.specs.Catalog.{attribute_bytes, relation_slot_bytes}
use Rattle.db_model.proofs.Catalogs.{length-relation_slot}
use Rattle.padded.specs.Zeros.{is_zeros}
use Rattle.padded.proofs.Facts.{yes_no}
use Rattle.stored.specs.CutTables.{IsGrownInPart}
use Rattle.stored_mend.specs.Slots.{IsReadSlot}
use Rattle.stored_mend.proofs.PutOver.{are_zeros, length-range, put_same, zeros_are}
use Rattle.stored_mend.proofs.SlotShape.{length-attribute, length-front, relation_of, slot_end, slot_front, slot_shape, slot_zeros, sound_of}
use Rattle.stored_survey.specs.Parts.{IsMoreInPart}

-- ---- lists in three parts

put_behind : (front rest part : List ℕ) (m b : ℕ) → length front ≡ m → put_at (front ++ rest) (m + b) part ≡ front ++ put_at rest b part
unfolding put_at
put_behind front rest part m b long =
    let first : take (m + b) (front ++ rest) ≡ front ++ take b rest = ap (λ (n : ℕ). take (n + b) (front ++ rest)) (sym long) ∙ take-append-add front rest b in
    let index : m + b + length part ≡ length front + (b + length part) = omega (arith, long) in
    let last : drop (m + b + length part) (front ++ rest) ≡ drop (b + length part) rest =
    ap (λ (n : ℕ). drop n (front ++ rest)) index ∙ drop-append-add front rest (b + length part) in
    ap (λ (xs : List ℕ). xs ++ part ++ drop (m + b + length part) (front ++ rest)) first
    ∙ ap (λ (xs : List ℕ). (front ++ take b rest) ++ part ++ xs) last
    ∙ ap (λ (xs : List ℕ). xs ++ drop (b + length part) rest) (append_assoc front (take b rest) part)
    ∙ append_assoc front (take b rest ++ part) (drop (b + length part) rest)

put_within : (front middle end part : List ℕ) (m b : ℕ) → length front ≡ m → b + length part ≤ length middle
    → put_at (front ++ (middle ++ end)) (m + b) part ≡ front ++ (put_at middle b part ++ end)
put_within front middle end part m b long room = put_behind front (middle ++ end) part m b long ∙ ap (λ (xs : List ℕ). front ++ xs) (put_at-append middle end part b room)

replicate_add : (p q : ℕ) → replicate {A = ℕ} (p + q) 0 ≡ replicate p 0 ++ replicate q 0
replicate_add zero q = let e : 0 + q ≡ q = omega arith in ap (λ (n : ℕ). replicate {A = ℕ} n 0) e
replicate_add (suc p) q = let e : suc p + q ≡ suc (p + q) = omega arith in ap (λ (n : ℕ). replicate {A = ℕ} n 0) e ∙ ap (λ (xs : List ℕ). 0 ∷ xs) (replicate_add p q)

take_split : (i j : ℕ) (xs : List ℕ) → take (i + j) xs ≡ take i xs ++ take j (drop i xs)
take_split zero j xs = let e : 0 + j ≡ j = omega arith in ap (λ (n : ℕ). take n xs) e
take_split (suc i) j [] = by_number j (suc i + j)
  where
    by_number : (j n : ℕ) → take {A = ℕ} n [] ≡ take {A = ℕ} j []
    by_number zero zero = refl
    by_number zero (suc n) = refl
    by_number (suc j) zero = refl
    by_number (suc j) (suc n) = refl
take_split (suc i) j (x ∷ xs) = let e : suc i + j ≡ suc (i + j) = omega arith in ap (λ (n : ℕ). take n (x ∷ xs)) e ∙ ap (λ (ys : List ℕ). x ∷ ys) (take_split i j xs)

pub range_split : (xs : List ℕ) (a b c : ℕ) → a ≤ b → b ≤ c → slice_range xs a c ≡ slice_range xs a b ++ slice_range xs b c
range_split xs a b c low high =
    let width : c - a ≡ (b - a) + (c - b) = omega (arith, low, high) in
    let place : a + (b - a) ≡ b = omega (arith, low) in
    ap (λ (n : ℕ). take n (drop a xs)) width
    ∙ take_split (b - a) (c - b) (drop a xs)
    ∙ ap (λ (ys : List ℕ). take (b - a) (drop a xs) ++ take (c - b) ys) (drop-drop (b - a) a xs ∙ ap (λ (n : ℕ). drop n xs) place)

-- ---- nothing behind the attributes

pub ends_decides : (r : Bool) (bytes : List ℕ) (schema : Schema) → length bytes ≡ 176 → IsReadSlot bytes schema → r ≡ is_zeros (slice_range bytes (16 + 18 * length schema.attributes) 160)
    → Decides r (bytes ≡ relation_slot_bytes (Some schema))
ends_decides r bytes schema size read is =
    let n : ℕ = length schema.attributes in
    let valid = relation_of 2 schema read.valid in
    let few = (sound_of 2 schema read.valid).few in
    let slot_size : length (relation_slot_bytes (Some schema)) ≡ 176 = length-relation_slot (Some schema) valid in
    let end : 16 + 18 * n + (144 - 18 * n) ≡ 160 = omega (arith, few) in
    let rest : List ℕ = slice_range bytes (16 + 18 * n) 160 in
    let long : length rest ≡ 144 - 18 * n =
    ap (λ (b : ℕ). length (slice_range bytes (16 + 18 * n) b)) (sym end) ∙ length-range bytes (16 + 18 * n) (144 - 18 * n) (omega (arith, size, few)) in
    let there : slice_range (relation_slot_bytes (Some schema)) (16 + 18 * n) 160 ≡ slice_range (relation_slot_bytes (Some schema)) (16 + 18 * n) (16 + 18 * n + (144 - 18 * n)) =
    ap (λ (b : ℕ). slice_range (relation_slot_bytes (Some schema)) (16 + 18 * n) b) (sym end) in (
      λ t.
          let zeros : rest ≡ replicate (144 - 18 * n) 0 = zeros_are rest (sym is ∙ t) ∙ ap (λ (k : ℕ). replicate {A = ℕ} k 0) long in
          read.bytes
          ∙ put_same (relation_slot_bytes (Some schema)) rest (16 + 18 * n) (144 - 18 * n) (omega (arith, slot_size, few)) (zeros ∙ sym (slot_zeros schema valid) ∙ there),
      λ e. is ∙ are_zeros rest (144 - 18 * n) (ap (λ (xs : List ℕ). slice_range xs (16 + 18 * n) 160) e ∙ slot_zeros schema valid),
    )

-- ---- one more attribute

pub full : (k : ℕ) (bytes : List ℕ) (schema : Schema) → 8 ≤ length schema.attributes → Decides false (IsGrownInPart k bytes schema)
full k bytes schema many = (λ t. absurd (cc), λ g. absurd (let room = g.room in omega (arith, room, many)))

module _ (k : ℕ) (bytes : List ℕ) (schema : Schema) (size : length bytes ≡ 176) (good : is_schema 2 schema ≡ true) (few : length schema.attributes < 8) where
  abbrev n : ℕ
  n = length schema.attributes

  abbrev at : ℕ
  at = 16 + 18 * length schema.attributes

  abbrev front : List ℕ
  front = slot_front schema

  abbrev zeros : List ℕ
  zeros = replicate (126 - 18 * length schema.attributes) 0

  abbrev end : List ℕ
  end = slot_end (length schema.attributes)

  front_long : length front ≡ at
  front_long = length-front schema (relation_of 2 schema good)

  zeros_long : length zeros ≡ 126 - 18 * n
  zeros_long = length-replicate {A = ℕ} (126 - 18 * length schema.attributes) 0

  shape : relation_slot_bytes (Some schema) ≡ front ++ ((replicate 18 0 ++ zeros) ++ end)
  shape =
      let gap : 144 - 18 * n ≡ 18 + (126 - 18 * n) = omega (arith, few) in
      slot_shape schema (relation_of 2 schema good) ∙ ap (λ (xs : List ℕ). front ++ (xs ++ end)) (ap (λ (j : ℕ). replicate {A = ℕ} j 0) gap ∙ replicate_add 18 (126 - 18 * n))

  room : 18 ≤ length (replicate 18 0 ++ zeros)
  room = let e = length-append (replicate 18 0) zeros in omega (arith, e)

  -- a part that is put behind the attributes
  put_in : (begin : ℕ) (part : List ℕ) → begin + length part ≤ 18 → put_at (relation_slot_bytes (Some schema)) (at + begin) part ≡ front ++ ((put_at (replicate 18 0) begin part ++ zeros) ++ end)
  put_in begin part inside =
      ap (λ (xs : List ℕ). put_at xs (at + begin) part) shape
      ∙ put_within front (replicate 18 0 ++ zeros) end part at begin front_long (omega (arith, inside, room))
      ∙ ap (λ (xs : List ℕ). front ++ (xs ++ end)) (put_at-append (replicate 18 0) zeros part begin inside)

  -- all that stands behind them is put
  put_all : (field : List ℕ) → length field ≡ 18 → put_at (relation_slot_bytes (Some schema)) at (field ++ zeros) ≡ front ++ ((field ++ zeros) ++ end)
  put_all field long =
      let here : at ≡ at + 0 = omega arith in
      let same : length (field ++ zeros) ≡ length (replicate 18 0 ++ zeros) = length-append field zeros ∙ ap (λ (j : ℕ). j + length zeros) long ∙ sym (length-append (replicate 18 0) zeros) in
      ap (λ (xs : List ℕ). put_at xs at (field ++ zeros)) shape
      ∙ ap (λ (j : ℕ). put_at (front ++ ((replicate 18 0 ++ zeros) ++ end)) j (field ++ zeros)) here
      ∙ put_within front (replicate 18 0 ++ zeros) end (field ++ zeros) at 0 front_long (omega (arith, same))
      ∙ ap (λ (xs : List ℕ). front ++ (xs ++ end)) (put_at_all (replicate 18 0 ++ zeros) (field ++ zeros) same)

  behind : (field : List ℕ) → drop at (front ++ ((field ++ zeros) ++ end)) ≡ field ++ (zeros ++ end)
  behind field = drop_at front ((field ++ zeros) ++ end) at front_long ∙ append_assoc field zeros end

  field_of : (field : List ℕ) → length field ≡ 18 → slice_range (front ++ ((field ++ zeros) ++ end)) at (at + 18) ≡ field
  field_of field long =
      let width : length field ≡ at + 18 - at = long ∙ omega arith in
      ap (take (at + 18 - at)) (behind field) ∙ take_at field (zeros ++ end) (at + 18 - at) width

  rest_of : (field : List ℕ) → length field ≡ 18 → slice_range (front ++ ((field ++ zeros) ++ end)) (at + 18) 160 ≡ zeros
  rest_of field long =
      let width : length zeros ≡ 160 - (at + 18) = omega (arith, zeros_long, few) in
      ap (take (160 - (at + 18))) (sym (drop-drop 18 at (front ++ ((field ++ zeros) ++ end))) ∙ ap (drop 18) (behind field) ∙ drop_at field (zeros ++ end) 18 long)
      ∙ take_at zeros end (160 - (at + 18)) width

  -- the place where a part ends
  abbrev parts : ℕ → ℕ → List ℕ → List ℕ
  parts begin upto ab = slice_range ab begin upto

  part_long : (ab : List ℕ) (begin upto : ℕ) → length ab ≡ 18 → begin < upto → upto ≤ 18 → length (slice_range ab begin upto) ≡ upto - begin
  part_long ab begin upto long order inside =
      let whole : begin + (upto - begin) ≡ upto = omega (arith, order) in
      ap (λ (b : ℕ). length (slice_range ab begin b)) (sym whole) ∙ length-range ab begin (upto - begin) (omega (arith, long, order, inside))

  from_grown : IsGrownInPart k bytes schema → (is_zeros (slice_range bytes (at + 18) 160) ≡ true) × IsMoreInPart k (slice_range bytes at (at + 18)) schema
  from_grown g =
      let part : List ℕ = slice_range (attribute_bytes g.more) g.begin g.upto in
      let long : length part ≡ g.upto - g.begin = part_long (attribute_bytes g.more) g.begin g.upto (length-attribute g.more g.valid) g.inside.0 g.inside.1 in
      let inside : g.begin + length part ≤ 18 = omega (arith, long, g.inside.0, g.inside.1) in
      let field : List ℕ = put_at (replicate 18 0) g.begin part in
      let eighteen : length field ≡ 18 = length-put_at (replicate 18 0) part g.begin inside in
      let is : bytes ≡ front ++ ((field ++ zeros) ++ end) = g.bytes ∙ put_in g.begin part inside in
      let place : 176 * k + 16 + 18 * length schema.attributes + g.upto - 1 ≡ 176 * k + (16 + 18 * length schema.attributes + g.upto) - 1 = omega arith in (
        are_zeros (slice_range bytes (at + 18) 160) (126 - 18 * n) (ap (λ (xs : List ℕ). slice_range xs (at + 18) 160) is ∙ rest_of field eighteen),
        record {
          more = g.more;
          valid = g.valid;
          begin = g.begin;
          upto = g.upto;
          inside = g.inside;
          first = g.first;
          last = g.last;
          fits = g.fits;
          apart = subst (λ (j : ℕ). j / 128 < (176 * k + 160) / 128) place g.apart;
          bytes = ap (λ (xs : List ℕ). slice_range xs at (at + 18)) is ∙ field_of field eighteen;
        },
      )

  to_grown : IsReadSlot bytes schema → is_zeros (slice_range bytes (at + 18) 160) ≡ true → IsMoreInPart k (slice_range bytes at (at + 18)) schema → IsGrownInPart k bytes schema
  to_grown read none g =
      let part : List ℕ = slice_range (attribute_bytes g.more) g.begin g.upto in
      let long : length part ≡ g.upto - g.begin = part_long (attribute_bytes g.more) g.begin g.upto (length-attribute g.more g.valid) g.inside.0 g.inside.1 in
      let inside : g.begin + length part ≤ 18 = omega (arith, long, g.inside.0, g.inside.1) in
      let field : List ℕ = put_at (replicate 18 0) g.begin part in
      let eighteen : length field ≡ 18 = length-put_at (replicate 18 0) part g.begin inside in
      let rest : List ℕ = slice_range bytes (at + 18) 160 in
      let whole : at + 18 + (126 - 18 * n) ≡ 160 = omega (arith, few) in
      let rest_long : length rest ≡ 126 - 18 * n =
      ap (λ (b : ℕ). length (slice_range bytes (at + 18) b)) (sym whole) ∙ length-range bytes (at + 18) (126 - 18 * n) (omega (arith, size, few)) in
      let rest_is : rest ≡ zeros = zeros_are rest none ∙ ap (λ (j : ℕ). replicate {A = ℕ} j 0) rest_long in
      let middle : slice_range bytes at 160 ≡ field ++ zeros =
      range_split bytes at (at + 18) 160 (omega arith) (omega (arith, few)) ∙ ap (λ (xs : List ℕ). xs ++ rest) g.bytes ∙ ap (λ (xs : List ℕ). field ++ xs) rest_is in
      let place : 176 * k + (16 + 18 * length schema.attributes + g.upto) - 1 ≡ 176 * k + 16 + 18 * length schema.attributes + g.upto - 1 = omega arith in
      record {
        more = g.more;
        valid = g.valid;
        begin = g.begin;
        upto = g.upto;
        inside = g.inside;
        first = g.first;
        last = g.last;
        fits = g.fits;
        room = few;
        apart = subst (λ (j : ℕ). j / 128 < (176 * k + 160) / 128) place g.apart;
        bytes = read.bytes ∙ ap (λ (xs : List ℕ). put_at (relation_slot_bytes (Some schema)) at xs) middle ∙ put_all field eighteen ∙ sym (put_in g.begin part inside);
      }

  -- ---- the answers

  pub other_behind : is_zeros (slice_range bytes (at + 18) 160) ≡ false → Decides false (IsGrownInPart k bytes schema)
  other_behind some = (λ t. absurd (cc), λ g. yes_no (is_zeros (slice_range bytes (at + 18) 160)) (from_grown g).0 some)

  pub grown_decides : (r : Bool) → IsReadSlot bytes schema → is_zeros (slice_range bytes (at + 18) 160) ≡ true → Decides r (IsMoreInPart k (slice_range bytes at (at + 18)) schema) → Decides r (IsGrownInPart k bytes schema)
  grown_decides r read none d = (λ t. to_grown read none (d.0 t), λ g. d.1 (from_grown g).1)
