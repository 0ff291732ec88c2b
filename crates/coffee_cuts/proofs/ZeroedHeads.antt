-- The head of a page of which the first bytes are zero now, up to the flags: what unit it begins.
use Rattle.std.proofs.Common.{◌≡◌, ◌≢◌, ◌⊎◌, inl, inr, ⊎_elim, ℕ, ◌+◌, ◌*◌, ◌<◌, ◌≤◌, Bool, true, false, ◌&&◌, ◌==◌, List, length, drop, get_or, slice_index, Option, Some, None, if◌then◌else◌, refl, ap, sym, ◌∙◌, arith, bit_and}
use Rattle.std.specs.Option.{option_map}
use Rattle.std.proofs.lemmas.Bool.{cases_eq, cases_lt}
use Rattle.std.proofs.lemmas.List.{ext_get_or, get_or-drop, length-drop}
use Rattle.std.proofs.lemmas.List.Folds.{list_all_at}
use Rattle.afl_base.specs.Fields.{u16_at}
use Rattle.coffee_header.specs.Headers.{fields, header_of, is_flags, is_header, is_kind, is_name_field}
use Rattle.coffee_header.specs.declared.header.Header.{Header}
use Rattle.coffee_layout.specs.Units.{unit_of}
use Rattle.coffee_layout.specs.declared.unit.Unit.TheVariants.{Extent, Free, Isolated}
use Rattle.coffee_layout.proofs.Tests.{eq_false}
use Rattle.coffee_log.proofs.RecordLaws.{two_bytes}
use Rattle.coffee_merge.proofs.HeaderMarks.{header_unit, unit_header}
use Rattle.padded.proofs.Facts.{both_parts}
use Rattle.padded.specs.Zeros.{is_zeros}
use Rattle.coffee_cuts.proofs.HeaderFronts.{fields_are}
use Rattle.coffee_space.proofs.UnitsLeft.{isolated_by}

-- of 32 bytes the first r are zero now
pub record IsZeroed (old new : List ℕ) (r : ℕ) : Type 0 where
  pub long_old : length old ≡ 32
  pub long_new : length new ≡ 32
  pub gone : (k : ℕ) → k < 32 → k < r → get_or new k 0 ≡ 0
  pub same : (k : ℕ) → k < 32 → r ≤ k → get_or new k 0 ≡ get_or old k 0

-- ISOLATED PAGES

pub marked_ninth : (bytes : List ℕ) → unit_of bytes ≡ Some Isolated → bit_and (slice_index bytes 9) 34 == 34 ≡ true
unfolding unit_of
marked_ninth bytes e = turn (is_zeros bytes) (bit_and (slice_index bytes 9) 34 == 34) (header_of bytes) e
  where
    turn : (a b : Bool) (o : Option Header) → (if a then Some Free else (if b then Some Isolated else option_map Extent o)) ≡ Some Isolated → b ≡ true
    turn true b o e = cc
    turn false true o e = refl
    turn false false None e = cc
    turn false false (Some g) e = cc

pub zeroed_isolated : (old new : List ℕ) (r : ℕ) → r ≤ 9 → IsZeroed old new r → unit_of old ≡ Some Isolated → unit_of new ≡ Some Isolated
zeroed_isolated old new r few z is =
    let nine = z.same 9 (omega arith) few in
    let bits : bit_and (slice_index new 9) 34 == 34 ≡ true = ap (λ n. bit_and n 34 == 34) nine ∙ marked_ninth old is in
    let long = z.long_new in
    isolated_by new
    (list_all_at (λ b. b == 0) new 9 0 (omega (arith, long)) (eq_false (get_or new 9 0) 0 (λ e.
    let bad : 0 == 34 ≡ true = sym (ap (λ n. bit_and n 34 == 34) e) ∙ bits in let n : ⊥ = cc in n)))
    bits

-- HEADERS

fields_there : (bytes : List ℕ) → is_header bytes ≡ true → header_of bytes ≡ Some (fields bytes)
unfolding header_of
fields_there bytes e = rw e refl

-- the pages that are left of those in a header: all, none, or a part of 256 at least
abbrev pub AreLeft : (pages left : ℕ) → Type 0
AreLeft pages left = (left ≡ pages) ⊎ ((left ≡ 0) ⊎ ((256 ≤ left) × (left < pages)))

pub record IsZeroedHeader (new : List ℕ) (h : Header) : Type 0 where
  pub header : Header
  pub there : unit_of new ≡ Some (Extent header)
  pub flags : header.flags ≡ h.flags
  pub pages : AreLeft h.max_pages header.max_pages

zeroed_pages : (a b c d r pages left : ℕ) → pages ≡ a + 256 * b → left ≡ c + 256 * d → (6 < r → c ≡ 0) → (7 < r → d ≡ 0) → (r ≤ 6 → c ≡ a) → (r ≤ 7 → d ≡ b) → AreLeft pages left
zeroed_pages a b c d r pages left p l low high keep_low keep_high = ⊎_elim
    (λ (before : r < 7). let e = keep_low (omega (arith, before)) in let f = keep_high (omega (arith, before)) in inl (omega (arith, e, f, p, l)))
    (λ (from : 7 ≤ r).
    let none = low (omega (arith, from)) in
    ⊎_elim
    (λ (at : r < 8).
    let f = keep_high (omega (arith, at)) in
    ⊎_elim
    (λ (zero : b ≡ 0). inr (inl (omega (arith, zero, f, none, l))))
    (λ (some : b ≢ 0). ⊎_elim
    (λ (zero : a ≡ 0). inl (omega (arith, zero, f, none, p, l)))
    (λ (more : a ≢ 0). inr (inr (omega (arith, some, f, none, l), omega (arith, more, f, none, p, l))))
    (cases_eq a 0))
    (cases_eq b 0))
    (λ (past : 8 ≤ r). let f = high (omega (arith, past)) in inr (inl (omega (arith, f, none, l))))
    (cases_lt r 8))
    (cases_lt r 7)

pub zeroed_extent : (old new : List ℕ) (r : ℕ) (h : Header) → r ≤ 9 → IsZeroed old new r → unit_of old ≡ Some (Extent h) → IsZeroedHeader new h
zeroed_extent old new r h few z is =
    let a = fields_are old h (unit_header old h is) in
    let parts : (is_kind (slice_index old 8) && is_flags (slice_index old 9) ≡ true) × (is_name_field (drop 10 old) ≡ true) = both_parts (is_kind (slice_index old 8) && is_flags (slice_index old 9)) (is_name_field (drop 10 old)) a.0 in
    let marks : (is_kind (slice_index old 8) ≡ true) × (is_flags (slice_index old 9) ≡ true) = both_parts (is_kind (slice_index old 8)) (is_flags (slice_index old 9)) parts.0 in
    let old_long = z.long_old in
    let new_long = z.long_new in
    let nine : slice_index new 9 ≡ slice_index old 9 = z.same 9 (omega arith) few in
    let kind : is_kind (slice_index new 8) ≡ true = ⊎_elim
    (λ (gone : 8 < r). ap is_kind (z.gone 8 (omega arith) gone))
    (λ (there : r ≤ 8). ap is_kind (z.same 8 (omega arith) there) ∙ marks.0)
    (cases_lt 8 r) in
    let flags : is_flags (slice_index new 9) ≡ true = ap is_flags nine ∙ marks.1 in
    let name : drop 10 new ≡ drop 10 old =
    let first = length-drop 10 new in
    let second = length-drop 10 old in
    ext_get_or 0 (drop 10 new) (drop 10 old) (omega (arith, first, second, old_long, new_long))
    (λ k less. get_or-drop 10 new k 0 ∙ z.same (10 + k) (omega (arith, less, first, new_long)) (omega (arith, few)) ∙ sym (get_or-drop 10 old k 0)) in
    let field : is_name_field (drop 10 new) ≡ true = ap is_name_field name ∙ parts.1 in
    let all : is_header new ≡ true = rw (kind, flags, field) refl in
    let pages : u16_at old 6 ≡ h.max_pages = ap (λ (x : Header). x.max_pages) a.1 in
    record {
      header = fields new;
      there = header_unit new (fields new) (omega (arith, new_long)) (fields_there new all);
      flags = nine ∙ ap (λ (x : Header). x.flags) a.1;
      pages = zeroed_pages (get_or old 6 0) (get_or old 7 0) (get_or new 6 0) (get_or new 7 0) r h.max_pages (u16_at new 6) (sym pages ∙ two_bytes old 6) (two_bytes new 6)
          (z.gone 6 (omega arith)) (z.gone 7 (omega arith)) (z.same 6 (omega arith)) (z.same 7 (omega arith));
    }
