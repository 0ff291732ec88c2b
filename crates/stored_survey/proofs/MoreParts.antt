-- One more attribute behind those of a relation, or a part of it.
use Rattle.std.proofs.Common.{◌≡◌, ◌≢◌, ◌⊎◌, inl, inr, ℕ, ◌+◌, ◌-◌, ◌*◌, ◌≤◌, ◌<◌, Bool, true, false, ◌&&◌, List, [], ◌∷◌, ◌++◌, length, take, drop, get_or, replicate, Option, Some, None, refl, sym, ap, subst, ◌∙◌, arith, length-append}
use Rattle.std.specs.Prelude.{◌==◌, flat_map, nat_le, slice_range}
use Rattle.std.specs.Bool.{Decides}
use Rattle.std.specs.List.{list_all}
use Rattle.std.proofs.Math.Logic.{⊎_elim}
use Rattle.std.proofs.lemmas.Bool.{cases_eq}
use Rattle.std.proofs.lemmas.List.Concat.{flat_map-cons}
use Rattle.std.proofs.lemmas.List.{append-nil, drop-append-le, drop_at, length-drop, length-replicate, length-take-le, take-append-drop, take-append-le, take_all, take_at}
use Rattle.afl_base.specs.Fields.{put_at}
use Rattle.catalog.specs.Rules.{is_attribute_slot, is_domain, is_row, is_schema}
use Rattle.db_model.specs.declared.schemas.Attribute.{Attribute}
use Rattle.db_model.specs.declared.schemas.Domain.{Domain}
use Rattle.db_model.specs.declared.schemas.Domain.TheVariants.{Int, Long, Time, Str}
use Rattle.db_model.specs.declared.schemas.Schema.{Schema}
use Rattle.db_model.specs.Catalog.{IsAttribute, IsDomain, attribute_bytes, domain_code, domain_length, relation_slot_bytes, relation_slot_of}
use Rattle.db_model.specs.Names.{is_name}
use Rattle.db_model.proofs.Catalogs.{relation_slot_back}
use Rattle.padded.specs.Padded.{padded}
use Rattle.padded.specs.Zeros.{is_zeros}
use Rattle.padded.proofs.Facts.{both_parts, both_true, le_true, yes_no}
use Rattle.stored.specs.CutTables.{IsEdge, schema_with_attribute}
use Rattle.stored_mend.proofs.PutOver.{are_zeros, drop_zeros, take_zeros, zeros_are}
use Rattle.stored_mend.proofs.SlotShape.{length-attribute, length-name, sound_of}
use Rattle.stored_survey.specs.Parts.{EndsBeforeCount, IsAttributeEnd, IsMoreInPart, IsNameFront, IsPartAt, IsWholeMore}
use Rattle.stored_survey.proofs.NameParts.{x_name}

-- ---- a part that is put over zeros

put_front : (ab : List ℕ) (at : ℕ) → length ab ≡ 18 → at ≤ 18 → put_at (replicate 18 0) 0 (slice_range ab 0 at) ≡ take at ab ++ replicate (18 - at) 0
unfolding put_at
put_front ab at long few =
    let e : at - 0 ≡ at = omega arith in
    let part : slice_range ab 0 at ≡ take at ab = ap (λ (n : ℕ). take n ab) e in
    let size : 0 + length (slice_range ab 0 at) ≡ at = ap (λ (xs : List ℕ). 0 + length xs) part ∙ omega (arith, length-take-le at ab (omega (arith, long, few))) in
    ap (λ (n : ℕ). slice_range ab 0 at ++ drop n (replicate 18 0)) size ∙ ap (λ (xs : List ℕ). xs ++ drop at (replicate 18 0)) part ∙ ap (λ (xs : List ℕ). take at ab ++ xs) (drop_zeros at 18)

put_end : (ab : List ℕ) (at : ℕ) → length ab ≡ 18 → at ≤ 18 → put_at (replicate 18 0) at (slice_range ab at 18) ≡ replicate at 0 ++ drop at ab
unfolding put_at
put_end ab at long few =
    let rest : length (drop at ab) ≡ 18 - at = length-drop at ab ∙ ap (λ (n : ℕ). n - at) long in
    let part : slice_range ab at 18 ≡ drop at ab = take_all (18 - at) (drop at ab) (omega (arith, rest)) in
    let size : at + length (slice_range ab at 18) ≡ 18 = ap (λ (xs : List ℕ). at + length xs) part ∙ omega (arith, rest, few) in
    ap (λ (n : ℕ). take at (replicate 18 0) ++ slice_range ab at 18 ++ drop n (replicate 18 0)) size
    ∙ append-nil (take at (replicate 18 0) ++ slice_range ab at 18)
    ∙ ap (λ (xs : List ℕ). take at (replicate 18 0) ++ xs) part
    ∙ ap (λ (xs : List ℕ). xs ++ drop at ab) (take_zeros at 18 few)

put_whole : (ab : List ℕ) → length ab ≡ 18 → put_at (replicate 18 0) 0 (slice_range ab 0 18) ≡ ab
put_whole ab long = put_front ab 18 long (omega arith) ∙ append-nil (take 18 ab) ∙ take_all 18 ab (omega (arith, long))

-- ---- which of three cases it is

-- a region begins at even places alone
edge_even : (k n at : ℕ) → at < 18 → IsEdge k (16 + 18 * n + at) → at < 17
edge_even k n at less edge = omega (arith, less, edge)

-- and not twice in an attribute
edge_once : (k n a b : ℕ) → a < b → b < 18 → IsEdge k (16 + 18 * n + a) → IsEdge k (16 + 18 * n + b) → ⊥
edge_once k n a b order less one two = absurd (omega (arith, order, less, one, two))

-- a part stands at the begin of a region
pub record StandsAtEdge (k : ℕ) (field : List ℕ) (schema : Schema) : Type 0 where
  pub at : ℕ
  pub some : 1 ≤ at
  pub few : at < 17
  pub edge : IsEdge k (16 + 18 * length schema.attributes + at)
  pub part : IsPartAt k (16 + 18 * length schema.attributes) at field

module _ (k : ℕ) (field : List ℕ) (schema : Schema) where
  abbrev place : ℕ
  place = 16 + 18 * length schema.attributes

  pub more_cases : IsMoreInPart k field schema → (EndsBeforeCount k (place + 18) × IsWholeMore field schema) ⊎ StandsAtEdge k field schema
  more_cases m =
      ⊎_elim
      (λ (zero_ : m.begin ≡ 0). ⊎_elim
      (λ (all : m.upto ≡ 18). inl (
        subst (λ (n : ℕ). EndsBeforeCount k (place + n)) all m.apart,
        record {
          more = m.more;
          valid = m.valid;
          fits = m.fits zero_ all;
          bytes = field_is 0 18 zero_ all ∙ put_whole (attribute_bytes m.more) long;
        },
      ))
      (λ (less : m.upto ≢ 18). inr (front less zero_))
      (cases_eq m.upto 18))
      (λ (some : m.begin ≢ 0). inr (behind some))
      (cases_eq m.begin 0)
    where
      long : length (attribute_bytes m.more) ≡ 18
      long = length-attribute m.more m.valid

      field_is : (a b : ℕ) → m.begin ≡ a → m.upto ≡ b → field ≡ put_at (replicate 18 0) a (slice_range (attribute_bytes m.more) a b)
      field_is a b e f = m.bytes ∙ ap (λ (n : ℕ). put_at (replicate 18 0) n (slice_range (attribute_bytes m.more) n m.upto)) e ∙ ap (λ (n : ℕ). put_at (replicate 18 0) a (slice_range (attribute_bytes m.more) a n)) f

      last_edge : m.upto ≢ 18 → IsEdge k (place + m.upto)
      last_edge less = ⊎_elim (λ (e : m.upto ≡ 18). absurd (less e)) (λ (e : IsEdge k (place + m.upto)). e) m.last

      first_edge : m.begin ≢ 0 → IsEdge k (place + m.begin)
      first_edge some = ⊎_elim (λ (e : m.begin ≡ 0). absurd (some e)) (λ (e : IsEdge k (place + m.begin)). e) m.first

      front : m.upto ≢ 18 → m.begin ≡ 0 → StandsAtEdge k field schema
      front less zero_ = record {
        at = m.upto;
        some = omega (arith, m.inside.0);
        few = edge_even k (length schema.attributes) m.upto (omega (arith, m.inside.1, less)) (last_edge less);
        edge = last_edge less;
        part = record {
          more = m.more;
          valid = m.valid;
          bytes = inl (m.apart, field_is 0 m.upto zero_ refl ∙ put_front (attribute_bytes m.more) m.upto long m.inside.1);
        };
      }

      behind : m.begin ≢ 0 → StandsAtEdge k field schema
      behind some =
          ⊎_elim
          (λ (all : m.upto ≡ 18). record {
            at = m.begin;
            some = omega (arith, some);
            few = edge_even k (length schema.attributes) m.begin (omega (arith, m.inside.0, m.inside.1)) (first_edge some);
            edge = first_edge some;
            part = record {
              more = m.more;
              valid = m.valid;
              bytes = inr (subst (λ (n : ℕ). EndsBeforeCount k (place + n)) all m.apart, field_is m.begin 18 refl all ∙ put_end (attribute_bytes m.more) m.begin long (omega (arith, m.inside.0, m.inside.1)));
            };
          })
          (λ (less : m.upto ≢ 18). absurd (edge_once k (length schema.attributes) m.begin m.upto m.inside.0 (omega (arith, m.inside.1, less)) (first_edge some) (last_edge less)))
          (cases_eq m.upto 18)

  pub whole_more : EndsBeforeCount k (place + 18) → IsWholeMore field schema → IsMoreInPart k field schema
  whole_more apart w = record {
    more = w.more;
    valid = w.valid;
    begin = 0;
    upto = 18;
    inside = (omega arith, omega arith);
    first = inl refl;
    last = inl refl;
    fits = λ e f. w.fits;
    apart = apart;
    bytes = w.bytes ∙ sym (put_whole (attribute_bytes w.more) (length-attribute w.more w.valid));
  }

  pub part_more : (at : ℕ) → 1 ≤ at → at < 17 → IsEdge k (place + at) → IsPartAt k place at field → IsMoreInPart k field schema
  part_more at some few edge p =
      ⊎_elim
      (λ front. record {
        more = p.more;
        valid = p.valid;
        begin = 0;
        upto = at;
        inside = (omega (arith, some), omega (arith, few));
        first = inl refl;
        last = inr edge;
        fits = λ e f. absurd (omega (arith, f, few));
        apart = front.0;
        bytes = front.1 ∙ sym (put_front (attribute_bytes p.more) at (length-attribute p.more p.valid) (omega (arith, few)));
      })
      (λ behind. record {
        more = p.more;
        valid = p.valid;
        begin = at;
        upto = 18;
        inside = (omega (arith, few), omega arith);
        first = inr edge;
        last = inl refl;
        fits = λ e f. absurd (omega (arith, e, some));
        apart = behind.0;
        bytes = behind.1 ∙ sym (put_end (attribute_bytes p.more) at (length-attribute p.more p.valid) (omega (arith, few)));
      })
      p.bytes

  -- ---- the answers

  pub whole_answers : EndsBeforeCount k (place + 18) × IsWholeMore field schema → Decides true (IsMoreInPart k field schema)
  whole_answers w = (λ e. whole_more w.0 w.1, λ m. refl)

  pub part_answers : (at : ℕ) → 1 ≤ at → at < 17 → IsEdge k (place + at) × IsPartAt k place at field → Decides true (IsMoreInPart k field schema)
  part_answers at some few p = (λ e. part_more at some few p.0 p.1, λ m. refl)

  pub never_more : (EndsBeforeCount k (place + 18) × IsWholeMore field schema → ⊥) → ((at : ℕ) → 1 ≤ at → at < 17 → IsEdge k (place + at) × IsPartAt k place at field → ⊥) → Decides false (IsMoreInPart k field schema)
  never_more none_whole none_part = (
    λ e. absurd (cc),
    λ m. ⊎_elim
        (λ (w : EndsBeforeCount k (place + 18) × IsWholeMore field schema). absurd (none_whole w))
        (λ (s : StandsAtEdge k field schema). absurd (none_part s.at s.some s.few (s.edge, s.part)))
        (more_cases m),
  )

  -- no part stands at the begin of a region before a place
  abbrev pub NoPartBelow : ℕ → Type 0
  NoPartBelow n = (at : ℕ) → 1 ≤ at → at < n → IsEdge k (16 + 18 * length schema.attributes + at) × IsPartAt k (16 + 18 * length schema.attributes) at field → ⊥

  pub no_part_first : NoPartBelow 1
  no_part_first at some less p = absurd (omega (arith, some, less))

  pub no_part_here : (n : ℕ) (r : Bool) → r ≡ false → Decides r (IsEdge k (16 + 18 * length schema.attributes + n) × IsPartAt k (16 + 18 * length schema.attributes) n field) → NoPartBelow n → NoPartBelow (n + 1)
  no_part_here n r fails d before at some less p =
      ⊎_elim
      (λ (same : at ≡ n). yes_no r (d.1 (subst (λ (m : ℕ). IsEdge k (16 + 18 * length schema.attributes + m) × IsPartAt k (16 + 18 * length schema.attributes) m field) same p)) fails)
      (λ differs. before at some (omega (arith, less, differs)) p)
      (cases_eq at n)

-- ---- a whole attribute that fits

one_of : Attribute → Schema
one_of a = record { name = 120 ∷ []; attributes = a ∷ [] }

one_slot : (a : Attribute) → List ℕ
one_slot a = relation_slot_bytes (Some (record { name = 120 ∷ []; attributes = a ∷ [] }))

read_back : (a : Attribute) → IsAttribute a → relation_slot_of (relation_slot_bytes (Some (record { name = 120 ∷ []; attributes = a ∷ [] }))) ≡ Some (record { name = 120 ∷ []; attributes = a ∷ [] })
read_back a e = relation_slot_back (Some (record { name = 120 ∷ []; attributes = a ∷ [] })) (x_name, omega arith, (e, tt))

-- attributes of the same bytes are the same
same_attribute : (a b : Attribute) → IsAttribute a → IsAttribute b → attribute_bytes a ≡ attribute_bytes b → a ≡ b
same_attribute a b e f same =
    let flat : flat_map attribute_bytes (a ∷ []) ≡ flat_map attribute_bytes (b ∷ []) =
    flat_map-cons attribute_bytes a [] ∙ ap (λ (xs : List ℕ). xs ++ []) same ∙ sym (flat_map-cons attribute_bytes b []) in
    let slots : relation_slot_bytes (Some (record { name = 120 ∷ []; attributes = a ∷ [] })) ≡ relation_slot_bytes (Some (record { name = 120 ∷ []; attributes = b ∷ [] })) =
    ap (λ (xs : List ℕ). padded 16 (120 ∷ []) ++ padded 144 xs ++ padded 15 (1 ∷ []) ++ 1 ∷ []) flat in
    let read : ◌≡◌ {A = Option Schema} (Some (record { name = 120 ∷ []; attributes = a ∷ [] })) (Some (record { name = 120 ∷ []; attributes = b ∷ [] })) = sym (read_back a e) ∙ ap relation_slot_of slots ∙ read_back b f in
    ap (λ (o : Option Schema). elim o [ None ↦ a | Some s ↦ get_or s.attributes 0 a ]) read

domain_slot : (d : Domain) → IsDomain d → is_domain 2 d ≡ true
domain_slot Int e = refl
domain_slot Long e = refl
domain_slot Time e = refl
domain_slot (Str n) e = both_true (nat_le 1 n) (nat_le n 32) (le_true 1 n e.0) (le_true n 32 e.1)

attribute_slot : (a : Attribute) → IsAttribute a → is_attribute_slot 2 a ≡ true
attribute_slot a e = both_true (is_name a.name) (is_domain 2 a.domain) e.0 (domain_slot a.domain e.1)

all_slots : (xs : List Attribute) (a : Attribute) → list_all (is_attribute_slot 2) xs ≡ true → is_attribute_slot 2 a ≡ true → list_all (is_attribute_slot 2) (xs ++ a ∷ []) ≡ true
all_slots [] a all one = both_true (is_attribute_slot 2 a) true one refl
all_slots (x ∷ xs) a all one =
    let parts = both_parts (is_attribute_slot 2 x) (list_all (is_attribute_slot 2) xs) all in
    both_true (is_attribute_slot 2 x) (list_all (is_attribute_slot 2) (xs ++ a ∷ [])) parts.0 (all_slots xs a parts.1 one)

-- a relation may be given an attribute where its row stays one
pub row_fits : (schema : Schema) (a : Attribute) → is_schema 2 schema ≡ true → length schema.attributes < 8 → IsAttribute a → is_row (schema.attributes ++ a ∷ []) ≡ true → is_schema 2 (schema_with_attribute schema a) ≡ true
row_fits schema a e few valid row =
    let s = sound_of 2 schema e in
    let all : list_all (is_attribute_slot 2) (schema.attributes ++ a ∷ []) ≡ true = all_slots schema.attributes a s.all (attribute_slot a valid) in
    let many : nat_le (length (schema.attributes ++ a ∷ [])) 8 ≡ true = le_true (length (schema.attributes ++ a ∷ [])) 8 (omega (arith, length-append schema.attributes (a ∷ []), few)) in
    both_true (is_name schema.name && (nat_le (length (schema.attributes ++ a ∷ [])) 8 && list_all (is_attribute_slot 2) (schema.attributes ++ a ∷ []))) (is_row (schema.attributes ++ a ∷ []))
    (both_true (is_name schema.name) (nat_le (length (schema.attributes ++ a ∷ [])) 8 && list_all (is_attribute_slot 2) (schema.attributes ++ a ∷ [])) s.name
    (both_true (nat_le (length (schema.attributes ++ a ∷ [])) 8) (list_all (is_attribute_slot 2) (schema.attributes ++ a ∷ [])) many all))
    row

whole_end : (field : List ℕ) (a : Attribute) → length field ≡ 18 → IsAttributeEnd field a → field ≡ attribute_bytes a
whole_end field a long e = e.1 ∙ ap (λ (n : ℕ). drop (18 - n) (attribute_bytes a)) long

pub fits_decides : (r : Bool) (field : List ℕ) (schema : Schema) (more : Attribute) → is_schema 2 schema ≡ true → length schema.attributes < 8 → length field ≡ 18 → IsAttributeEnd field more
    → r ≡ is_row (schema.attributes ++ more ∷ []) → Decides r (IsWholeMore field schema)
fits_decides r field schema more e few long there is = (
  λ t. record { more = more; valid = there.0; fits = row_fits schema more e few there.0 (sym is ∙ t); bytes = whole_end field more long there },
  λ w.
      let same : w.more ≡ more = same_attribute w.more more w.valid there.0 (sym w.bytes ∙ whole_end field more long there) in
      is ∙ ap (λ (a : Attribute). is_row (schema.attributes ++ a ∷ [])) (sym same) ∙ (sound_of 2 (schema_with_attribute schema w.more) w.fits).row,
)

pub no_attribute : (field : List ℕ) (schema : Schema) → length field ≡ 18 → ((a : Attribute) → IsAttributeEnd field a → ⊥) → Decides false (IsWholeMore field schema)
no_attribute field schema long none = (
  λ t. absurd (cc),
  λ w. absurd (none w.more (w.valid, w.bytes ∙ ap (λ (n : ℕ). drop (18 - n) (attribute_bytes w.more)) (sym long))),
)

-- ---- a part

-- the bytes of a domain are not all zeros
domain_some : (d : Domain) → (domain_code d == 0) ≡ false
domain_some Int = refl
domain_some Long = refl
domain_some Time = refl
domain_some (Str n) = refl

zeros_behind : (xs ys : List ℕ) → is_zeros (xs ++ ys) ≡ true → is_zeros ys ≡ true
zeros_behind [] ys e = e
zeros_behind (x ∷ xs) ys e = zeros_behind xs ys (both_parts (x == 0) (is_zeros (xs ++ ys)) e).1

never_zeros : (a : Attribute) (at : ℕ) → IsAttribute a → at ≤ 16 → is_zeros (drop at (attribute_bytes a)) ≡ true → ⊥
never_zeros a at valid few e =
    let tail : List ℕ = domain_code a.domain ∷ domain_length a.domain ∷ [] in
    let split : drop at (attribute_bytes a) ≡ drop at (padded 16 a.name) ++ tail = drop-append-le at (padded 16 a.name) tail (omega (arith, few, length-name a.name valid.0)) in
    let last = zeros_behind (drop at (padded 16 a.name)) tail (ap is_zeros (sym split) ∙ e) in
    yes_no (domain_code a.domain == 0) (both_parts (domain_code a.domain == 0) (is_zeros (domain_length a.domain ∷ [])) last).0 (domain_some a.domain)

name_front : (a : Attribute) (at : ℕ) → IsAttribute a → at ≤ 16 → take at (attribute_bytes a) ≡ take at (padded 16 a.name)
name_front a at valid few = take-append-le at (padded 16 a.name) (domain_code a.domain ∷ domain_length a.domain ∷ []) (omega (arith, few, length-name a.name valid.0))

module _ (k begin at : ℕ) (field : List ℕ) (long : length field ≡ 18) (some : 1 ≤ at) (few : at ≤ 16) where
  front_size : (a : Attribute) → IsAttribute a → length (take at (attribute_bytes a)) ≡ at
  front_size a valid = length-take-le at (attribute_bytes a) (omega (arith, few, length-attribute a valid))

  taken : length (take at field) ≡ at
  taken = length-take-le at field (omega (arith, long, few))

  left : length (drop at field) ≡ 18 - at
  left = length-drop at field ∙ ap (λ (n : ℕ). n - at) long

  pub front_decides : (r : Bool) → is_zeros (drop at field) ≡ true → Decides r (EndsBeforeCount k (begin + at) × ((name : List ℕ) × IsNameFront (take at field) name)) → Decides r (IsPartAt k begin at field)
  front_decides r zeros d = (
    λ t.
        let found = d.0 t in
        let a : Attribute = record { name = found.1.0; domain = Int } in
        let valid : IsAttribute (record { name = found.1.0; domain = Int }) = (found.1.1.0, tt) in
        record {
          more = record { name = found.1.0; domain = Int };
          valid = (found.1.1.0, tt);
          bytes = inl (
            found.0,
            sym (take-append-drop at field)
                ∙ ap (λ (xs : List ℕ). xs ++ drop at field) (found.1.1.1 ∙ ap (λ (n : ℕ). take n (padded 16 found.1.0)) taken ∙ sym (name_front (record { name = found.1.0; domain = Int }) at (found.1.1.0, tt) few))
                ∙ ap (λ (xs : List ℕ). take at (attribute_bytes (record { name = found.1.0; domain = Int })) ++ xs) (zeros_are (drop at field) zeros ∙ ap (λ (n : ℕ). replicate {A = ℕ} n 0) left),
          );
        },
    λ p. ⊎_elim
        (λ front. d.1 (
          front.0,
          (
            p.more.name,
            (
              p.valid.0,
              ap (take at) front.1 ∙ take_at (take at (attribute_bytes p.more)) (replicate (18 - at) 0) at (front_size p.more p.valid) ∙ name_front p.more at p.valid few
                  ∙ ap (λ (n : ℕ). take n (padded 16 p.more.name)) (sym taken),
            ),
          ),
        ))
        (λ behind. absurd (never_zeros p.more at p.valid few (ap is_zeros (sym (ap (drop at) behind.1 ∙ drop_at (replicate at 0) (drop at (attribute_bytes p.more)) at (length-replicate {A = ℕ} at 0))) ∙ zeros)))
        p.bytes,
  )

  front_zeros : (a : Attribute) → IsAttribute a → field ≡ take at (attribute_bytes a) ++ replicate (18 - at) 0 → is_zeros (drop at field) ≡ true
  front_zeros a valid e = are_zeros (drop at field) (18 - at) (ap (drop at) e ∙ drop_at (take at (attribute_bytes a)) (replicate (18 - at) 0) at (front_size a valid))

  behind_zeros : (a : Attribute) → field ≡ replicate at 0 ++ drop at (attribute_bytes a) → is_zeros (take at field) ≡ true
  behind_zeros a e = are_zeros (take at field) at (ap (take at) e ∙ take_at (replicate at 0) (drop at (attribute_bytes a)) at (length-replicate {A = ℕ} at 0))

  pub neither_part : is_zeros (drop at field) ≡ false → is_zeros (take at field) ≡ false → Decides false (IsPartAt k begin at field)
  neither_part not_behind not_front = (
    λ t. absurd (cc),
    λ p. ⊎_elim
        (λ front. yes_no (is_zeros (drop at field)) (front_zeros p.more p.valid front.1) not_behind)
        (λ behind. yes_no (is_zeros (take at field)) (behind_zeros p.more behind.1) not_front)
        p.bytes,
  )

  pub end_decides : (r : Bool) → is_zeros (drop at field) ≡ false → is_zeros (take at field) ≡ true → Decides r (EndsBeforeCount k (begin + 18) × ((a : Attribute) × IsAttributeEnd (drop at field) a)) → Decides r (IsPartAt k begin at field)
  end_decides r not_behind zeros d =
      let gap : 18 - length (drop at field) ≡ at = omega (arith, left, few) in (
        λ t.
            let found = d.0 t in
            record {
              more = found.1.0;
              valid = found.1.1.0;
              bytes = inr (
                found.0,
                sym (take-append-drop at field)
                    ∙ ap (λ (xs : List ℕ). xs ++ drop at field) (zeros_are (take at field) zeros ∙ ap (λ (n : ℕ). replicate {A = ℕ} n 0) taken)
                    ∙ ap (λ (xs : List ℕ). replicate at 0 ++ xs) (found.1.1.1 ∙ ap (λ (n : ℕ). drop n (attribute_bytes found.1.0)) gap),
              );
            },
        λ p. ⊎_elim
            (λ front. yes_no (is_zeros (drop at field)) (front_zeros p.more p.valid front.1) not_behind)
            (λ behind. d.1 (
              behind.0,
              (
                p.more,
                (
                  p.valid,
                  ap (drop at) behind.1 ∙ drop_at (replicate at 0) (drop at (attribute_bytes p.more)) at (length-replicate {A = ℕ} at 0) ∙ ap (λ (n : ℕ). drop n (attribute_bytes p.more)) (sym gap),
                ),
              ),
            ))
            p.bytes,
      )
