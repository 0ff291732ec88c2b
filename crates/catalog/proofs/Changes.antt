-- What a change of one slot makes of the file of the catalog.
use Rattle.std.proofs.Common.{◌≡◌, ℕ, ◌+◌, ◌-◌, ◌*◌, ◌≤◌, List, [], ◌∷◌, ◌++◌, length, take, drop, get_or, replicate, flat_map, None, refl, sym, ap, ◌∙◌, arith, length-append}
use Rattle.std.specs.Prelude.{IsTrue}
use Rattle.std.proofs.lemmas.List.{get_or-append-add, length-replicate}
use Rattle.afl_base.specs.Fields.{put_at}
use Rattle.afl_base.specs.Files.{State, Becomes, bytes_at, size_at}
use Rattle.afl_base.proofs.FieldLaws.{length-put_at}
use Rattle.afl_base.proofs.FileLaws.{becomes_then}
use Rattle.db_model.specs.Catalog.{empty_bytes, in_version_2, index_slot_bytes, relation_slot_bytes, version_mark, with_slot}
use Rattle.catalog.specs.Copies.{copies}
use Rattle.afl_base.proofs.PutLaws.{put_at-put_at}
use Rattle.catalog.proofs.Puts.{copies_of, length-copies, put_at-append, put_at_all}

-- ---- the empty catalog

-- an unused slot
abbrev pub IsUnused : ℕ → List ℕ → Type 0
IsUnused width slot = slot ≡ replicate (width - 1) 0 ++ 1 ∷ []

empty_parts : (relation index : List ℕ) → IsUnused 176 relation → IsUnused 8 index → empty_bytes ≡ copies 8 relation ++ copies 8 index ++ version_mark
unfolding empty_bytes
empty_parts relation index e f =
    ap (λ xs. xs ++ flat_map index_slot_bytes (replicate 8 None) ++ version_mark) (copies_of relation_slot_bytes None 8 ∙ ap (λ s. copies 8 s) (sym e))
    ∙ ap (λ xs. copies 8 relation ++ xs ++ version_mark) (copies_of index_slot_bytes None 8 ∙ ap (λ s. copies 8 s) (sym f))

length-unused : (width : ℕ) (slot : List ℕ) → 1 ≤ width → IsUnused width slot → length slot ≡ width
length-unused width slot h e = ap length e ∙ length-append (replicate (width - 1) 0) (1 ∷ []) ∙ ap (λ n. n + 1) (length-replicate (width - 1) 0) ∙ omega (arith, h)

-- what is written of it, part by part
pub empty_put : (b0 b1 b2 b3 relation index : List ℕ) → length b0 ≡ 1480 → IsUnused 176 relation → IsUnused 8 index →
    b1 ≡ put_at b0 0 (copies 8 relation) → b2 ≡ put_at b1 1408 (copies 8 index) → b3 ≡ put_at b2 1472 version_mark → b3 ≡ empty_bytes
empty_put b0 b1 b2 b3 relation index long r i e f g =
    let rs = copies 8 relation in
    let is = copies 8 index in
    let many : length rs ≡ 1408 = length-copies 8 relation ∙ ap (λ n. 8 * n) (length-unused 176 relation (omega arith) r) in
    let few : length is ≡ 64 = length-copies 8 index ∙ ap (λ n. 8 * n) (length-unused 8 index (omega arith) i) in
    let both : length (rs ++ is) ≡ 1472 = length-append rs is ∙ omega (arith, many, few) in
    let all : length (rs ++ is ++ version_mark) ≡ length b0 = length-append (rs ++ is) version_mark ∙ omega (arith, both, long) in
    g ∙ ap (λ b. put_at b 1472 version_mark) (f ∙ ap (λ b. put_at b 1408 is) e ∙ put_at-put_at b0 rs is 0 1408 (omega (arith, many)) (omega (arith, long)))
    ∙ put_at-put_at b0 (rs ++ is) version_mark 0 1472 (omega (arith, both)) (omega (arith, long))
    ∙ put_at_all b0 (rs ++ is ++ version_mark) all
    ∙ sym (empty_parts relation index r i)

-- its last byte, also with a slot written into it
pub last_of_empty : (at : ℕ) (slot bytes : List ℕ) → at + length slot ≤ 1472 → bytes ≡ put_at empty_bytes at slot → get_or bytes 1479 0 ≡ 1
last_of_empty at slot bytes h e =
    let relation : List ℕ = replicate 175 0 ++ 1 ∷ [] in
    let index : List ℕ = replicate 7 0 ++ 1 ∷ [] in
    let many : length (copies 8 relation) ≡ 1408 = length-copies 8 relation ∙ ap (λ n. 8 * n) (length-unused 176 relation (omega arith) refl) in
    let few : length (copies 8 index) ≡ 64 = length-copies 8 index ∙ ap (λ n. 8 * n) (length-unused 8 index (omega arith) refl) in
    last_of_front (copies 8 relation ++ copies 8 index) at slot bytes (length-append (copies 8 relation) (copies 8 index) ∙ omega (arith, many, few)) h (e ∙ ap (λ b. put_at b at slot) (empty_parts relation index refl refl))
  where
    last_of_front : (front : List ℕ) (at : ℕ) (slot bytes : List ℕ) → length front ≡ 1472 → at + length slot ≤ 1472 → bytes ≡ put_at (front ++ version_mark) at slot → get_or bytes 1479 0 ≡ 1
    last_of_front front at slot bytes long h e =
        let room : at + length slot ≤ length front = omega (arith, long, h) in
        let changed : List ℕ = put_at front at slot in
        let same : length changed ≡ 1472 = length-put_at front slot at room ∙ long in
        ap (λ b. get_or b 1479 0) (e ∙ put_at-append front version_mark slot at room) ∙ ap (λ n. get_or (changed ++ version_mark) (n + 7) 0) (sym same) ∙ get_or-append-add changed version_mark 7 0

-- ---- sizes

pub slot_put : (bytes version_2 slot : List ℕ) (at : ℕ) → in_version_2 bytes ≡ version_2 → with_slot bytes at slot ≡ put_at version_2 at slot
unfolding put_at
slot_put bytes version_2 slot at e = ap (λ b. take at b ++ slot ++ drop (at + length slot) b) e

-- ---- the size afterwards

length-empty : (relation index : List ℕ) → IsUnused 176 relation → IsUnused 8 index → length empty_bytes ≡ 1480
length-empty relation index r i =
    let rs = copies 8 relation in
    let is = copies 8 index in
    let many : length rs ≡ 1408 = length-copies 8 relation ∙ ap (λ n. 8 * n) (length-unused 176 relation (omega arith) r) in
    let few : length is ≡ 64 = length-copies 8 index ∙ ap (λ n. 8 * n) (length-unused 8 index (omega arith) i) in
    let both : length (rs ++ is) ≡ 1472 = length-append rs is ∙ omega (arith, many, few) in
    ap length (empty_parts relation index r i) ∙ length-append (rs ++ is) version_mark ∙ omega (arith, both)

pub long_empty : length empty_bytes ≡ 1480
long_empty = length-empty (replicate 175 0 ++ 1 ∷ []) (replicate 7 0 ++ 1 ∷ []) refl refl

long_after : (bytes version_2 slot : List ℕ) (at : ℕ) → in_version_2 bytes ≡ version_2 → length version_2 ≡ 1480 → at + length slot ≤ 1472 → length (with_slot bytes at slot) ≡ 1480
long_after bytes version_2 slot at e long h = ap length (slot_put bytes version_2 slot at e) ∙ length-put_at version_2 slot at (omega (arith, long, h)) ∙ long

pub first_size : (bytes slot : List ℕ) (at : ℕ) → length bytes ≡ 0 → at + length slot ≤ 1472 → length (with_slot bytes at slot) ≡ 1480
first_size bytes slot at none h = long_after bytes empty_bytes slot at (rw none refl) long_empty h

-- ---- changes

-- the same bytes and the same size, said otherwise
becomes_same : (a b : State) (id m n : ℕ) (x y : List ℕ) → m ≡ n → (IsTrue a.tells → x ≡ y) → Becomes a b id m x → Becomes a b id n y
becomes_same a b id m n x y size same w = record {
  live = w.live;
  name = w.name;
  kind = w.kind;
  size = w.size ∙ size;
  bytes = λ told. w.bytes told ∙ same told;
  others = w.others;
  names = w.names;
  used = w.used;
  draft = w.draft;
  tells = w.tells;
}

-- the first change of an empty catalog
pub first_change : (a b : State) (id at : ℕ) (slot first : List ℕ) → size_at a.files id ≡ 0 → at + length slot ≤ 1472 → first ≡ put_at empty_bytes at slot →
    Becomes a b id (size_at a.files id + length first) (bytes_at a.files id ++ first) → Becomes a b id 1480 (with_slot (bytes_at a.files id) at slot)
first_change a b id at slot first none h e w =
    let old : List ℕ = bytes_at a.files id in
    let empty : in_version_2 old ≡ empty_bytes = rw none refl in
    let same : old ++ first ≡ with_slot old at slot = ap (λ xs. xs ++ first) (nothing old none) ∙ e ∙ sym (slot_put old empty_bytes slot at empty) in
    let size : length old + length first ≡ 1480 = sym (length-append old first) ∙ ap length same ∙ first_size old slot at none h in
    becomes_same a b id (length old + length first) 1480 (old ++ first) (with_slot old at slot) size (λ told. same) w
  where
    nothing : (xs : List ℕ) → length xs ≡ 0 → xs ≡ []
    nothing [] e = refl
    nothing (x ∷ xs) e = absurd (omega (arith, e))

-- a change of a catalog of version 2
pub later_change : (a b : State) (id at : ℕ) (slot : List ℕ) → size_at a.files id ≡ 1480 →
    Becomes a b id (size_at a.files id) (put_at (bytes_at a.files id) at slot) → Becomes a b id 1480 (with_slot (bytes_at a.files id) at slot)
later_change a b id at slot size w =
    let old : List ℕ = bytes_at a.files id in
    let same : in_version_2 old ≡ old = rw size refl in
    becomes_same a b id (length old) 1480 (put_at old at slot) (with_slot old at slot) size (λ told. sym (slot_put old old slot at same)) w

-- a change of a catalog of version 1
pub change_of_version_1 : (a b c : State) (id at : ℕ) (slot : List ℕ) → size_at a.files id ≡ 1472 → at + length slot ≤ 1472 →
    Becomes a b id (size_at a.files id) (put_at (bytes_at a.files id) at slot) → Becomes b c id (size_at b.files id + 8) (bytes_at b.files id ++ version_mark) →
    Becomes a c id 1480 (with_slot (bytes_at a.files id) at slot)
change_of_version_1 a b c id at slot size h v w =
    let old : List ℕ = bytes_at a.files id in
    let put : List ℕ = put_at old at slot in
    let more : in_version_2 old ≡ old ++ version_mark = rw size refl in
    let whole : put ++ version_mark ≡ with_slot old at slot = sym (put_at-append old version_mark slot at (omega (arith, size, h))) ∙ sym (slot_put old (old ++ version_mark) slot at more) in
    let long : size_at b.files id + 8 ≡ 1480 = ap (λ n. n + 8) (v.size ∙ size) in
    becomes_same a c id (size_at b.files id + 8) 1480 (bytes_at b.files id ++ version_mark) (with_slot old at slot) long (λ told. ap (λ xs. xs ++ version_mark) (v.bytes told) ∙ whole)
    (becomes_then a b c id (length old) (size_at b.files id + 8) put (bytes_at b.files id ++ version_mark) v w)
