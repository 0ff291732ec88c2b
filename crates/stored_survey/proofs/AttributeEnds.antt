-- The last bytes of an attribute: those of a name's field, and its domain.
use Rattle.std.proofs.Common.{◌≡◌, ℕ, zero, suc, ◌+◌, ◌-◌, ◌≤◌, List, [], ◌∷◌, ◌++◌, length, take, drop, get_or, refl, sym, ap, ◌∙◌, arith}
use Rattle.std.specs.Prelude.{IfNone, IfSome, MatchOption, Option, Some, None, slice_index, slice_range}
use Rattle.std.proofs.Math.ListN.{drop_of_length-le}
use Rattle.std.proofs.lemmas.List.{drop-drop, drop-take, drop-append-le, drop_at, length-drop, length-take-le, take-append-drop, take_at}
use Rattle.db_model.specs.declared.schemas.Attribute.{Attribute}
use Rattle.db_model.specs.Catalog.{IsAttribute, IsDomain, attribute_bytes, domain_code, domain_length}
use Rattle.padded.specs.Padded.{padded}
use Rattle.stored_survey.specs.Parts.{IsAttributeEnd, IsNameEnd}
use Rattle.stored_mend.proofs.SlotShape.{length-attribute, length-name}

last_two : (xs : List ℕ) (n : ℕ) → length xs ≡ n + 2 → drop n xs ≡ slice_index xs n ∷ slice_index xs (n + 1) ∷ []
last_two [] n e = absurd (omega (arith, e))
last_two (x ∷ []) n e = absurd (omega (arith, e))
last_two (x ∷ y ∷ []) zero e = refl
last_two (x ∷ y ∷ z ∷ xs) zero e = absurd (omega (arith, e))
last_two (x ∷ y ∷ xs) (suc n) e =
    let next : suc n + 1 ≡ suc (n + 1) = omega arith in
    last_two (y ∷ xs) n (omega (arith, e)) ∙ ap (λ (k : ℕ). slice_index (y ∷ xs) n ∷ slice_index (x ∷ y ∷ xs) k ∷ []) (sym next)

two_alike : (a b c d : ℕ) → a ∷ b ∷ [] ≡ c ∷ d ∷ [] → (a ≡ c) × (b ≡ d)
two_alike a b c d e = (ap (λ (xs : List ℕ). get_or xs 0 0) e, ap (λ (xs : List ℕ). get_or xs 1 0) e)

module _ (bytes : List ℕ) (some : 2 ≤ length bytes) (most : length bytes ≤ 18) where
  abbrev size : ℕ
  size = length bytes - 2

  field_size : length (take size bytes) ≡ size
  field_size = length-take-le size bytes (omega arith)

  split : bytes ≡ take size bytes ++ slice_index bytes size ∷ slice_index bytes (size + 1) ∷ []
  split = sym (take-append-drop size bytes) ∙ ap (λ (xs : List ℕ). take size bytes ++ xs) (last_two bytes size (omega (arith, some)))

  -- an attribute's end is that of its name's field, and its domain
  end_of : (a : Attribute) → length (padded 16 a.name) ≡ 16 → drop (18 - length bytes) (attribute_bytes a) ≡ drop (16 - length (take size bytes)) (padded 16 a.name) ++ domain_code a.domain ∷ domain_length a.domain ∷ []
  end_of a long =
      let same : 18 - length bytes ≡ 16 - length (take size bytes) = omega (arith, field_size, some, most) in
      ap (λ (n : ℕ). drop n (attribute_bytes a)) same
      ∙ drop-append-le (16 - length (take size bytes)) (padded 16 a.name) (domain_code a.domain ∷ domain_length a.domain ∷ []) (omega (arith, long))

  pub attribute_made : (a : Attribute) → IsNameEnd (take size bytes) a.name → IsDomain a.domain → domain_code a.domain ≡ slice_index bytes size → domain_length a.domain ≡ slice_index bytes (size + 1) → IsAttributeEnd bytes a
  attribute_made a name domain code long = (
    (name.0, domain),
    split
        ∙ ap (λ (xs : List ℕ). xs ++ slice_index bytes size ∷ slice_index bytes (size + 1) ∷ []) name.1
        ∙ ap (λ (n : ℕ). drop (16 - length (take size bytes)) (padded 16 a.name) ++ n ∷ slice_index bytes (size + 1) ∷ []) (sym code)
        ∙ ap (λ (n : ℕ). drop (16 - length (take size bytes)) (padded 16 a.name) ++ domain_code a.domain ∷ n ∷ []) (sym long)
        ∙ sym (end_of a (length-name a.name name.0)),
  )

  pub record AreParts (a : Attribute) : Type 0 where
    pub name : IsNameEnd (take size bytes) a.name
    pub code : domain_code a.domain ≡ slice_index bytes size
    pub long : domain_length a.domain ≡ slice_index bytes (size + 1)

  pub attribute_parts : (a : Attribute) → IsAttributeEnd bytes a → AreParts a
  attribute_parts a e =
      let wide = length-name a.name e.0.0 in
      let front : List ℕ = drop (16 - length (take size bytes)) (padded 16 a.name) in
      let is : bytes ≡ front ++ domain_code a.domain ∷ domain_length a.domain ∷ [] = e.1 ∙ end_of a wide in
      let short : length front ≡ size = length-drop (16 - length (take size bytes)) (padded 16 a.name) ∙ omega (arith, wide, field_size, most) in
      let last = two_alike (domain_code a.domain) (domain_length a.domain) (slice_index bytes size) (slice_index bytes (size + 1))
      (sym (drop_at front (domain_code a.domain ∷ domain_length a.domain ∷ []) size short) ∙ ap (drop size) (sym is) ∙ last_two bytes size (omega (arith, some))) in
      record {
        name = (e.0.0, ap (take size) is ∙ take_at front (domain_code a.domain ∷ domain_length a.domain ∷ []) size short);
        code = last.0;
        long = last.1;
      }

-- what is said of none
pub none_given : {T : Type 0} (o : Option T) (P : Type 0) → P → IfNone o P
none_given None P p = p
none_given (Some x) P p = tt

-- ---- an attribute at its place in a slot

-- the last bytes of a range
pub range_end : (bytes : List ℕ) (begin at size : ℕ) → begin ≤ at → at ≤ begin + size → slice_range bytes at (begin + size) ≡ drop (at - begin) (slice_range bytes begin (begin + size))
range_end bytes begin at size low high =
    let h : ℕ = at - begin in
    let width : begin + size - begin ≡ h + (begin + size - at) = omega (arith, low, high) in
    let place : begin + h ≡ at = omega (arith, low) in
    sym (ap (λ (n : ℕ). drop h (take n (drop begin bytes))) width
    ∙ drop-take h (begin + size - at) (drop begin bytes)
    ∙ ap (take (begin + size - at)) (drop-drop h begin bytes ∙ ap (λ (n : ℕ). drop n bytes) place))

-- two attributes that end in the same bytes are alike from there on
pub ended_alike : (o : Option Attribute) (part : List ℕ) (h : ℕ) (a : Attribute) → length part ≡ 18 - h → h ≤ 18 → IsAttribute a → part ≡ drop h (attribute_bytes a)
    → IfSome o (λ made. IsAttributeEnd part made) → IfNone o ((b : Attribute) → IsAttributeEnd part b → ⊥)
    → MatchOption o ⊥ (λ made. drop h (attribute_bytes made) ≡ drop h (attribute_bytes a))
ended_alike None part h a long few valid is some none =
    let same : h ≡ 18 - length part = omega (arith, long, few) in
    none a (valid, is ∙ ap (λ (n : ℕ). drop n (attribute_bytes a)) same)
ended_alike (Some made) part h a long few valid is some none =
    let same : 18 - length part ≡ h = omega (arith, long, few) in
    sym (some.1 ∙ ap (λ (n : ℕ). drop n (attribute_bytes made)) same) ∙ is

-- nothing of them is left
pub all_dropped : (made a : Attribute) (h : ℕ) → IsAttribute made → IsAttribute a → 18 ≤ h → drop h (attribute_bytes made) ≡ drop h (attribute_bytes a)
all_dropped made a h good valid past =
    drop_of_length-le (attribute_bytes made) (omega (arith, length-attribute made good, past)) ∙ sym (drop_of_length-le (attribute_bytes a) (omega (arith, length-attribute a valid, past)))
