-- A relation slot in which zeros were being put behind the attributes.
use Rattle.std.proofs.Common.{◌≡◌, ◌⊎◌, inl, inr, ⊎_elim, ℕ, ◌+◌, ◌-◌, ◌*◌, ◌%◌, ◌<◌, ◌≤◌, true, List, length, take, drop, replicate, Some, IsTrue, ap, sym, subst, ◌∙◌, arith}
use Rattle.std.specs.Prelude.{slice_range}
use Rattle.std.specs.Str.{bytes_eq}
use Rattle.std.proofs.lemmas.Bool.{cases_lt}
use Rattle.std.proofs.lemmas.List.{length-replicate, length-take-le, take-take}
use Rattle.std.proofs.lemmas.Slice.Eq.{bytes_eq-Decides}
use Rattle.afl_base.specs.CutFiles.{OverwritesFront}
use Rattle.afl_base.specs.Fields.{put_at}
use Rattle.afl_base.specs.Files.{State, bytes_at}
use Rattle.afl_base.proofs.FieldLaws.{length-put_at}
use Rattle.catalog.specs.Rules.{catalog_bytes_in, is_schema}
use Rattle.catalog.proofs.PutRanges.{before_put}
use Rattle.db_model.specs.declared.schemas.Schema.{Schema}
use Rattle.db_model.specs.Catalog.{attribute_bytes, relation_slot_bytes}
use Rattle.db_model.specs.Database.{Database}
use Rattle.db_model.proofs.Catalogs.{length-relation_slot}
use Rattle.padded.proofs.Facts.{both_parts, both_true, bytes_eq_same}
use Rattle.stored.specs.CutTables.{IsEdge, IsGrownInPart, IsSlot, relation, slot_bytes}
use Rattle.stored.specs.Mended.{mended_base, mended_catalog, whole_bytes, whole_catalog}
use Rattle.stored.specs.declared.half.Half.{Half}
use Rattle.stored.proofs.MendedBase.{whole_long}
use Rattle.stored_mend.specs.Listed.{IsListedTo, Reach}
use Rattle.stored_mend.specs.Mending.{HasInSlot, IsWholeCatalog}
use Rattle.stored_mend.proofs.CatalogKept.{after, attribute_kept, catalog_before, whole_found}
use Rattle.stored_mend.proofs.CutCalls.{IsLeft}
use Rattle.stored_mend.proofs.HalfKept.{relation_at_slot}
use Rattle.stored_mend.proofs.ListedSlots.{keeps_becomes}
use Rattle.stored_mend.proofs.ListedSteps.{slot_cut}
use Rattle.stored_mend.proofs.PutOver.{length-range, put_over, put_same, puts_both, range_both}
use Rattle.stored_mend.proofs.SlotEdits.{DifferIn, differ_put, range_put}
use Rattle.stored_mend.proofs.SlotShape.{length-attribute, relation_of, slot_zeros}

-- behind the attributes of a slot, up to their number
abbrev behind : Schema → ℕ
behind schema = 16 + 18 * length schema.attributes

abbrev zeros : Schema → ℕ → List ℕ
zeros schema n = take n (replicate (144 - 18 * length schema.attributes) 0)

-- none, all, or those up to where a region ends
abbrev IsZeroedTo : Schema → (k n : ℕ) → Type 0
IsZeroedTo schema k n = (n ≡ 0) ⊎ ((n ≡ 144 - 18 * length schema.attributes) ⊎ IsEdge k (16 + 18 * length schema.attributes + n))

module _ (version : ℕ) (schema : Schema) (valid : is_schema version schema ≡ true) (n : ℕ) (few : n ≤ 144 - 18 * length schema.attributes) where
  abbrev whole : List ℕ
  whole = relation_slot_bytes (Some schema)

  some_left : length schema.attributes ≤ 8
  some_left = (relation_of version schema valid).1

  whole_size : length whole ≡ 176
  whole_size = length-relation_slot (Some schema) (relation_of version schema valid)

  zeros_size : length (zeros schema n) ≡ n
  zeros_size = length-take-le n (replicate (144 - 18 * length schema.attributes) 0) (omega (arith, few, length-replicate {A = ℕ} (144 - 18 * length schema.attributes) 0))

  -- they are there in a slot that is written
  zeros_there : slice_range whole (behind schema) (behind schema + n) ≡ zeros schema n
  zeros_there =
      let at : ℕ = behind schema in
      let width : behind schema + n - behind schema ≡ n = omega arith in
      let room : n ≤ 160 - behind schema = let many = some_left in omega (arith, few, many) in
      ap (λ (m : ℕ). take m (drop at whole)) width ∙ sym (take-take n (160 - at) (drop at whole) room) ∙ ap (take n) (slot_zeros schema (relation_of version schema valid))

  zeros_stay : put_at whole (behind schema) (zeros schema n) ≡ whole
  zeros_stay = let many = some_left in let size = whole_size in put_same whole (zeros schema n) (behind schema) n (omega (arith, few, many, size)) (sym zeros_there)

  module _ (k : ℕ) (slot : List ℕ) (g : IsGrownInPart k slot schema) where
    abbrev at : ℕ
    at = behind schema + g.begin

    abbrev part : List ℕ
    part = slice_range (attribute_bytes g.more) g.begin g.upto

    range_size : (a b : ℕ) → a ≤ b → b ≤ 18 → length (slice_range (attribute_bytes g.more) a b) ≡ b - a
    range_size a b order inside =
        let sum : a + (b - a) ≡ b = omega (arith, order) in
        ap (λ (m : ℕ). length (slice_range (attribute_bytes g.more) a m)) (sym sum)
        ∙ length-range (attribute_bytes g.more) a (b - a) (let size = length-attribute g.more g.valid in omega (arith, size, order, inside))

    -- where they end before the part of an attribute that is there
    before_part : n ≤ g.begin → put_at slot (behind schema) (zeros schema n) ≡ slot
    before_part low =
        let many = some_left in
        let size = whole_size in
        let inside = g.inside in
        let room = g.room in
        let long : length slot ≡ 176 =
        ap (λ (xs : List ℕ). length xs) g.bytes ∙ length-put_at whole part at (let p = range_size g.begin g.upto (omega (arith, inside.0)) inside.1 in omega (arith, p, inside.0, inside.1, room, size)) ∙ size in
        put_same slot (zeros schema n) (behind schema) n (omega (arith, low, inside.0, inside.1, room, long))
        (sym (ap (λ (xs : List ℕ). slice_range xs (behind schema) (behind schema + n)) g.bytes
        ∙ before_put whole part at (behind schema) (behind schema + n) (omega arith) (omega (arith, low)) (omega (arith, inside.0, inside.1, room, size)) ∙ zeros_there))

    -- where they end behind it
    over_part : g.upto ≤ n → put_at slot (behind schema) (zeros schema n) ≡ whole
    over_part high =
        let size = whole_size in
        let inside = g.inside in
        let room = g.room in
        let p : length part ≡ g.upto - g.begin = range_size g.begin g.upto (omega (arith, inside.0)) inside.1 in
        let z = zeros_size in
        ap (λ (xs : List ℕ). put_at xs (behind schema) (zeros schema n)) g.bytes
        ∙ put_over whole part (zeros schema n) at (behind schema) (omega arith) (omega (arith, p, z, high, inside.0)) (omega (arith, inside.0, inside.1, room, size))
        ∙ zeros_stay

    -- or within it: its end is left
    in_part : g.begin < n → n < g.upto → put_at slot (behind schema) (zeros schema n) ≡ put_at whole (behind schema + n) (slice_range (attribute_bytes g.more) n g.upto)
    in_part low high =
        let size = whole_size in
        let inside = g.inside in
        let room = g.room in
        let front : List ℕ = slice_range (attribute_bytes g.more) g.begin n in
        let rest : List ℕ = slice_range (attribute_bytes g.more) n g.upto in
        let front_size : length front ≡ n - g.begin = range_size g.begin n (omega (arith, low)) (omega (arith, high, inside.1)) in
        let rest_size : length rest ≡ g.upto - n = range_size n g.upto (omega (arith, high)) inside.1 in
        let left : List ℕ = put_at whole (behind schema + n) rest in
        let left_size : length left ≡ 176 = length-put_at whole rest (behind schema + n) (omega (arith, rest_size, size, high, inside.1, room)) ∙ size in
        let z = zeros_size in
        ap (λ (xs : List ℕ). put_at xs (behind schema) (zeros schema n))
        (g.bytes ∙ ap (put_at whole at) (sym (range_both (attribute_bytes g.more) g.begin n g.upto (omega (arith, low)) (omega (arith, high))))
        ∙ sym (puts_both whole front rest at (behind schema + n) (omega (arith, front_size, low)) (omega (arith, size, high, inside.1, room))))
        ∙ put_over left front (zeros schema n) at (behind schema) (omega arith) (omega (arith, front_size, z, low)) (omega (arith, left_size, low, high, inside.1, room))
        ∙ put_same left (zeros schema n) (behind schema) n (omega (arith, left_size, high, inside.1, room))
        (sym (before_put whole rest (behind schema + n) (behind schema) (behind schema + n) (omega arith) (omega arith) (omega (arith, size, high, inside.1, room)) ∙ zeros_there))

-- the slot is that of its relation, or in part where it was
cleared_part : (half : Half) (version k n : ℕ) (slot : List ℕ) (schema : Schema) → n ≤ 144 - 18 * length schema.attributes → IsZeroedTo schema k n → IsSlot half version k slot (Some schema)
    → IsSlot half version k (put_at slot (16 + 18 * length schema.attributes) (take n (replicate (144 - 18 * length schema.attributes) 0))) (Some schema)
cleared_part half version k n slot schema few ends (inl written) =
    let parts = both_parts (is_schema version schema) (bytes_eq slot (relation_slot_bytes (Some schema))) written in
    let is : slot ≡ relation_slot_bytes (Some schema) = (bytes_eq-Decides slot (relation_slot_bytes (Some schema))).0 parts.1 in
    let now : List ℕ = put_at slot (behind schema) (zeros schema n) in
    inl (both_true (is_schema version schema) (bytes_eq now (relation_slot_bytes (Some schema))) parts.0
    (bytes_eq_same now (relation_slot_bytes (Some schema)) (ap (λ (xs : List ℕ). put_at xs (behind schema) (zeros schema n)) is ∙ zeros_stay version schema parts.0 n few)))
cleared_part half version k n slot schema few ends (inr grown) =
    let valid = grown.1 in
    let g = grown.2 in
    let now : List ℕ = put_at slot (behind schema) (zeros schema n) in
    ⊎_elim
    (λ (past : g.begin < n). ⊎_elim
    (λ (within : n < g.upto).
    let inside = g.inside in
    let room = g.room in
    let edge : IsEdge k (16 + 18 * length schema.attributes + n) = ⊎_elim
    (λ (none : n ≡ 0). absurd (omega (arith, none, past)))
    (λ rest. ⊎_elim
    (λ (all : n ≡ 144 - 18 * length schema.attributes). absurd (omega (arith, all, within, inside.1, room)))
    (λ (e : IsEdge k (16 + 18 * length schema.attributes + n)). e)
    rest)
    ends in
    inr (
      grown.0,
      valid,
      record {
        more = g.more;
        valid = g.valid;
        begin = n;
        upto = g.upto;
        inside = (within, inside.1);
        first = inr edge;
        last = g.last;
        fits = λ none. absurd (omega (arith, none, past));
        room = room;
        apart = g.apart;
        bytes = in_part version schema valid n few k slot g past within;
      },
    ))
    (λ (over : g.upto ≤ n). inl (both_true (is_schema version schema) (bytes_eq now (relation_slot_bytes (Some schema))) valid
    (bytes_eq_same now (relation_slot_bytes (Some schema)) (over_part version schema valid n few k slot g over))))
    (cases_lt n g.upto))
    (λ (low : n ≤ g.begin). inr (grown.0, valid, subst (λ (xs : List ℕ). IsGrownInPart k xs schema) (sym (before_part version schema valid n few k slot g low)) g))
    (cases_lt g.begin n)

module _ (old now : State) (cat slot : ℕ) (reach : Reach) (schema : Schema) (below : slot < 8) (told : IsTrue old.tells) (w : IsWholeCatalog old.files cat) (some : length schema.attributes ≤ 8)
    (l : IsListedTo reach old.files) where
  abbrev was : List ℕ
  was = bytes_at old.files cat

  pub attribute_left : (at : ℕ) (all : List ℕ) → at ≡ 176 * slot + (16 + 18 * length schema.attributes) → all ≡ replicate (144 - 18 * length schema.attributes) 0 → HasInSlot old slot (Some schema)
      → OverwritesFront old now cat at all → IsLeft now.files (λ (db : Database). db ≡ mended_base old.files)
  attribute_left at all there zero is f =
      let front : ℕ = behind schema in
      let put : List ℕ = take f.done all in
      let long = w.long in
      let within = f.within in
      let many : length all ≡ 144 - 18 * length schema.attributes = ap (λ (xs : List ℕ). length xs) zero ∙ length-replicate {A = ℕ} (144 - 18 * length schema.attributes) 0 in
      let size : length put ≡ f.done = length-take-le f.done all f.within in
      let few : f.done ≤ 144 - 18 * length schema.attributes = omega (arith, within, many) in
      let room : 176 * slot + 176 ≤ length was = omega (arith, below, long) in
      let kept = attribute_kept old now cat slot at put schema w below f.is is (omega (arith, size, few, some)) there in
      let now_is : catalog_bytes_in now.files ≡ put_at was at put = after old now cat _ _ w f.is told in
      let d : DifferIn was (put_at was at put) slot = differ_put was put at slot long below (omega (arith, there)) (omega (arith, there, size, few, some)) in
      let same_size = d.size in
      let whole_now : whole_catalog now.files ≡ put_at was at put = ap whole_bytes now_is ∙ whole_long (put_at was at put) (omega (arith, same_size, long)) in
      let here_is : slot_bytes old.files slot ≡ slice_range was (176 * slot) (176 * slot + 176) = ap (λ (xs : List ℕ). slice_range xs (176 * slot) (176 * slot + 176)) (whole_found old.files cat w) in
      let slot_now : slot_bytes now.files slot ≡ put_at (slot_bytes old.files slot) front (zeros schema f.done) =
      ap (λ (xs : List ℕ). slice_range xs (176 * slot) (176 * slot + 176)) (whole_now ∙ ap (λ (j : ℕ). put_at was j put) there)
      ∙ range_put was put (176 * slot) front 176 (omega (arith, size, few, some)) room
      ∙ ap (λ (xs : List ℕ). put_at xs front put) (sym here_is)
      ∙ ap (λ (xs : List ℕ). put_at (slot_bytes old.files slot) front (take f.done xs)) zero in
      let stands : relation old.files slot ≡ Some schema = relation_at_slot old.files slot below ∙ is told in
      let ends : IsZeroedTo schema slot f.done = ⊎_elim
      (λ (none : f.done ≡ 0). inl none)
      (λ rest. inr (⊎_elim
      (λ (whole_of : f.done ≡ length all). inl (whole_of ∙ many))
      (λ (edge : (at + f.done) % 128 ≡ 0). inr (let sum : 176 * slot + (16 + 18 * length schema.attributes + f.done) ≡ at + f.done = omega (arith, there) in ap (λ (j : ℕ). j % 128) sum ∙ edge))
      rest))
      f.whole in
      record {
        cut = slot_cut old now cat slot reach below told w (keeps_becomes old now cat _ _ w f.is kept.base)
            (subst (λ (xs : List ℕ). DifferIn xs (catalog_bytes_in now.files) slot) (sym (catalog_before old.files cat w)) (subst (λ (xs : List ℕ). DifferIn was xs slot) (sym now_is) d)) l
            (λ half h.
            let v : ℕ = (mended_catalog old.files).version in
            let was_slot : IsSlot half v slot (slot_bytes old.files slot) (Some schema) = subst (IsSlot half v slot (slot_bytes old.files slot)) stands (h.slots slot below) in
            subst (IsSlot half v slot (slot_bytes now.files slot)) (sym stands)
            (subst (λ (xs : List ℕ). IsSlot half v slot xs (Some schema)) (sym slot_now) (cleared_part half v slot f.done (slot_bytes old.files slot) schema few ends was_slot)));
        is = kept.base told;
      }
