-- A front part of the bytes of a header, in a page of zeros: if it is a header, it is that header but for its name.
use Rattle.std.proofs.Common.{◌≡◌, ◌⊎◌, ⊎_elim, ℕ, zero, suc, ◌+◌, ◌-◌, ◌*◌, ◌<◌, ◌≤◌, Bool, true, false, ◌==◌, nat_le, List, [], ◌∷◌, ◌++◌, length, replicate, get_or, slice_index, Option, Some, None, if◌then◌else◌, refl, ap, sym, subst, ◌∙◌, arith, bit_and}
use Rattle.std.proofs.lemmas.Bool.{cases_lt}
use Rattle.std.proofs.lemmas.List.{get_or_past}
use Rattle.std.specs.List.{list_all}
use Rattle.std.specs.Option.{option_map}
use Rattle.afl_base.specs.Fields.{u16_at, u16_bytes}
use Rattle.afl_base.specs.Names.{is_file_name, is_name_byte}
use Rattle.coffee_header.specs.Headers.{IsValid, fields, header_bytes, header_of, is_flags, is_header, is_kind}
use Rattle.coffee_header.specs.declared.header.Header.{Header}
use Rattle.coffee_header.proofs.HeaderLaws.{bytes_back, chosen, header_back}
use Rattle.coffee_layout.specs.Units.{unit_of}
use Rattle.coffee_layout.specs.declared.unit.Unit.TheVariants.{Extent, Free, Isolated}
use Rattle.coffee_log.proofs.RecordLaws.{two_bytes}
use Rattle.coffee_merge.proofs.HeaderMarks.{header_ninth}
use Rattle.padded.specs.Padded.{padded}
use Rattle.padded.specs.Zeros.{is_zeros}
use Rattle.padded.proofs.Facts.{both_parts, either_part, true_eq, true_le}
use Rattle.coffee_cuts.proofs.ZeroPages.{flags_of_zero}

-- BYTES OF A HEADER

abbrev pub AreSmall : List ℕ → Type 0
AreSmall xs = (i : ℕ) → get_or xs i 0 < 256

small_append : (xs ys : List ℕ) → AreSmall xs → AreSmall ys → AreSmall (xs ++ ys)
small_append [] ys f g i = g i
small_append (x ∷ xs) ys f g zero = f 0
small_append (x ∷ xs) ys f g (suc i) = small_append xs ys (λ j. f (suc j)) g i

small_number : (n : ℕ) → AreSmall (u16_bytes n)
unfolding u16_bytes
small_number n zero = omega arith
small_number n (suc zero) = omega arith
small_number n (suc (suc i)) = omega arith

small_two : (a b : ℕ) → a < 256 → b < 256 → AreSmall (a ∷ b ∷ [])
small_two a b low high zero = low
small_two a b low high (suc zero) = high
small_two a b low high (suc (suc i)) = omega arith

small_zeros : (n : ℕ) → AreSmall (replicate n 0)
small_zeros zero i = omega arith
small_zeros (suc n) zero = omega arith
small_zeros (suc n) (suc i) = small_zeros n i

small_name : (name : List ℕ) → list_all is_name_byte name ≡ true → AreSmall name
small_name [] all i = omega arith
small_name (x ∷ xs) all zero =
    let first = both_parts (is_name_byte x) (list_all is_name_byte xs) all in
    let top = true_le x 126 (both_parts (nat_le 33 x) (nat_le x 126) first.0).1 in omega (arith, top)
small_name (x ∷ xs) all (suc i) = small_name xs (both_parts (is_name_byte x) (list_all is_name_byte xs) all).1 i

kind_small : (kind : ℕ) → is_kind kind ≡ true → kind < 256
kind_small kind e = ⊎_elim
    (λ (a : kind == 0 ≡ true). let z = true_eq kind 0 a in omega (arith, z))
    (λ (b : kind == 1 ≡ true). let o = true_eq kind 1 b in omega (arith, o))
    (either_part (kind == 0) (kind == 1) e)

pub header_small : (h : Header) → IsValid h → (h.flags ≡ 2) ⊎ (h.flags ≡ 19) → AreSmall (header_bytes h)
unfolding header_bytes
header_small h v flags =
    let flags_small : h.flags < 256 = ⊎_elim (λ (a : h.flags ≡ 2). omega (arith, a)) (λ (a : h.flags ≡ 19). omega (arith, a)) flags in
    small_append (u16_bytes h.log_page ++ u16_bytes h.log_records ++ u16_bytes h.log_record_size ++ u16_bytes h.max_pages ++ (h.kind ∷ h.flags ∷ [])) (padded 22 h.name)
    (small_append (u16_bytes h.log_page ++ u16_bytes h.log_records ++ u16_bytes h.log_record_size ++ u16_bytes h.max_pages) (h.kind ∷ h.flags ∷ [])
    (small_append (u16_bytes h.log_page ++ u16_bytes h.log_records ++ u16_bytes h.log_record_size) (u16_bytes h.max_pages)
    (small_append (u16_bytes h.log_page ++ u16_bytes h.log_records) (u16_bytes h.log_record_size)
    (small_append (u16_bytes h.log_page) (u16_bytes h.log_records) (small_number h.log_page) (small_number h.log_records)) (small_number h.log_record_size)) (small_number h.max_pages))
    (small_two h.kind h.flags (kind_small h.kind v.kind) flags_small))
    (small_append h.name (replicate (22 - length h.name) 0) (small_name h.name (both_parts _ _ v.name).1) (small_zeros (22 - length h.name)))

-- the fields of a header stand in its bytes
pub fields_are : (bytes : List ℕ) (h : Header) → header_of bytes ≡ Some h → (is_header bytes ≡ true) × (fields bytes ≡ h)
unfolding header_of
fields_are bytes h e = chosen (is_header bytes) (fields bytes) h e

-- A FRONT PART

-- 32 bytes are so many of a header's, and zeros behind them
pub record IsFrontOf (h : Header) (bytes : List ℕ) (done : ℕ) : Type 0 where
  pub long : length bytes ≡ 32
  pub here : (k : ℕ) → k < 32 → k < done → get_or bytes k 0 ≡ get_or (header_bytes h) k 0
  pub rest : (k : ℕ) → k < 32 → done ≤ k → get_or bytes k 0 ≡ 0

-- a front part that is a header has its flags and its pages
pub record IsPartHeader (h g : Header) (bytes : List ℕ) : Type 0 where
  pub flags : g.flags ≡ h.flags
  pub pages : g.max_pages ≡ h.max_pages
  pub valid : IsValid g
  pub bytes_are : header_bytes g ≡ bytes

front_small : (h : Header) (bytes : List ℕ) (done : ℕ) → AreSmall (header_bytes h) → IsFrontOf h bytes done → AreSmall bytes
front_small h bytes done small f i =
    let long = f.long in
    ⊎_elim
    (λ (in_it : i < 32). ⊎_elim
    (λ (there : i < done). let e = f.here i in_it there in let s = small i in omega (arith, e, s))
    (λ (behind : done ≤ i). let e = f.rest i in_it behind in omega (arith, e))
    (cases_lt i done))
    (λ (past : 32 ≤ i). let e : get_or bytes i 0 ≡ 0 = get_or_past bytes i 0 (omega (arith, long, past)) in omega (arith, e))
    (cases_lt i 32)

-- its flags are there, since 0 is no header's
front_reaches : (h g : Header) (bytes : List ℕ) (done : ℕ) → IsFrontOf h bytes done → header_of bytes ≡ Some g → 9 < done
front_reaches h g bytes done f e =
    let n = header_ninth bytes g e in
    ⊎_elim
    (λ (there : 9 < done). there)
    (λ (none : done ≤ 9). absurd (flags_of_zero g (sym n.0 ∙ f.rest 9 (omega arith) none) n.1))
    (cases_lt 9 done)

pub part_header : (h g : Header) (bytes : List ℕ) (done : ℕ) → IsValid h → (h.flags ≡ 2) ⊎ (h.flags ≡ 19) → IsFrontOf h bytes done → header_of bytes ≡ Some g → IsPartHeader h g bytes
part_header h g bytes done v flags f e =
    let back = header_back h v in
    let reaches = front_reaches h g bytes done f e in
    let n = header_ninth bytes g e in
    let m = header_ninth (header_bytes h) h back in
    let a = fields_are bytes g e in
    let b = fields_are (header_bytes h) h back in
    let small : AreSmall bytes = front_small h bytes done (header_small h v flags) f in
    let pages_g : u16_at bytes 6 ≡ g.max_pages = ap (λ (x : Header). x.max_pages) a.1 in
    let pages_h : u16_at (header_bytes h) 6 ≡ h.max_pages = ap (λ (x : Header). x.max_pages) b.1 in
    let six = f.here 6 (omega arith) (omega (arith, reaches)) in
    let seven = f.here 7 (omega arith) (omega (arith, reaches)) in
    let two_g : u16_at bytes 6 ≡ get_or bytes 6 0 + 256 * get_or bytes 7 0 = two_bytes bytes 6 in
    let two_h : u16_at (header_bytes h) 6 ≡ get_or (header_bytes h) 6 0 + 256 * get_or (header_bytes h) 7 0 = two_bytes (header_bytes h) 6 in
    let below : (at : ℕ) → u16_at bytes at < 65536 = λ at. let s = small at in let t = small (at + 1) in let two = two_bytes bytes at in omega (arith, s, t, two) in
    let parts = both_parts _ _ a.0 in
    let marks = both_parts _ _ parts.0 in
    record {
      flags = sym n.0 ∙ f.here 9 (omega arith) reaches ∙ m.0;
      pages = omega (arith, pages_g, pages_h, six, seven, two_g, two_h);
      valid = record {
        log_page = subst (λ (x : Header). x.log_page < 65536) a.1 (below 0);
        log_records = subst (λ (x : Header). x.log_records < 65536) a.1 (below 2);
        log_record_size = subst (λ (x : Header). x.log_record_size < 65536) a.1 (below 4);
        max_pages = subst (λ (x : Header). x.max_pages < 65536) a.1 (below 6);
        kind = subst (λ (x : Header). is_kind x.kind ≡ true) a.1 marks.0;
        flags = subst (λ (x : Header). is_flags x.flags ≡ true) a.1 marks.1;
        name = subst (λ (x : Header). is_file_name x.name ≡ true) a.1 (both_parts _ _ parts.1).0;
      };
      bytes_are = bytes_back bytes g f.long small e;
    }

-- UNITS

-- what is read as a free page has a head of zeros
pub free_head : (bytes : List ℕ) → unit_of bytes ≡ Some Free → is_zeros bytes ≡ true
unfolding unit_of
free_head bytes e = turn (is_zeros bytes) (bit_and (slice_index bytes 9) 34 == 34) (header_of bytes) e
  where
    turn : (a b : Bool) (o : Option Header) → (if a then Some Free else (if b then Some Isolated else option_map Extent o)) ≡ Some Free → a ≡ true
    turn true b o e = refl
    turn false true o e = cc
    turn false false None e = cc
    turn false false (Some g) e = cc

-- no such front part is an isolated page
ninth_whole : (bytes : List ℕ) → bit_and (slice_index bytes 9) 34 == 34 ≡ false → unit_of bytes ≡ Some Isolated → ⊥
unfolding unit_of
ninth_whole bytes whole e = turn (is_zeros bytes) (bit_and (slice_index bytes 9) 34 == 34) (header_of bytes) whole e
  where
    turn : (a b : Bool) (o : Option Header) → b ≡ false → (if a then Some Free else (if b then Some Isolated else option_map Extent o)) ≡ Some Isolated → ⊥
    turn true b o w e = cc
    turn false true o w e = cc
    turn false false None w e = cc
    turn false false (Some g) w e = cc

pub front_whole : (h : Header) (bytes : List ℕ) (done : ℕ) → IsValid h → (h.flags ≡ 2) ⊎ (h.flags ≡ 19) → IsFrontOf h bytes done → unit_of bytes ≡ Some Isolated → ⊥
front_whole h bytes done v flags f e =
    let m = header_ninth (header_bytes h) h (header_back h v) in
    ninth_whole bytes (⊎_elim
    (λ (there : 9 < done). ap (λ n. bit_and n 34 == 34) (f.here 9 (omega arith) there ∙ m.0) ∙ ⊎_elim (λ (a : h.flags ≡ 2). ap (λ n. bit_and n 34 == 34) a) (λ (a : h.flags ≡ 19). ap (λ n. bit_and n 34 == 34) a) flags)
    (λ (none : done ≤ 9). ap (λ n. bit_and n 34 == 34) (f.rest 9 (omega arith) none))
    (cases_lt 9 done)) e

-- a header has the name of a file
pub header_name : (bytes : List ℕ) (h : Header) → header_of bytes ≡ Some h → is_file_name h.name ≡ true
header_name bytes h e = let a = fields_are bytes h e in subst (λ (x : Header). is_file_name x.name ≡ true) a.1 (both_parts _ _ (both_parts _ _ a.0).1).0
