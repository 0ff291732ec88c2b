-- A search in a bucket.
use Rattle.std.proofs.Common.{◌≡◌, ◌≢◌, ◌≤◌, ◌<◌, ◌+◌, ◌-◌, ℕ, ℤ, List, [], ◌∷◌, length, drop, get_or, Bool, true, false, refl, arith, ap, ◌∙◌, sym, ⊎_elim}
use Rattle.std.specs.Prelude.{◌&&◌, nat_le, nat_lt}
use Rattle.std.specs.List.{filter}
use Rattle.std.specs.Ordering.{int_eq}
use Rattle.std.proofs.lemmas.Bool.Decides.{nat_tests}
use Rattle.std.proofs.lemmas.List.{drop_all, drop_more}
use Rattle.padded.proofs.Facts.{first_part}
use Rattle.index_tree.specs.Pairs.{Pair, no_pair}
use Rattle.index_tree.specs.Places.{is_wanted}
use Rattle.index_tree.specs.TreeFile.{HoldsPairs, key_at, slot_at}
use Rattle.index_tree.proofs.Added.{same_pair}
use Rattle.index_tree.proofs.Shared.{order}
use Rattle.index_tree.proofs.Stays.{eq_true}

pub is_there : (bytes : List ℕ) (rest : List Pair) (pair : ℕ) → HoldsPairs bytes 0 rest → pair < 32 → slot_at bytes 0 pair ≢ 0 → pair < length rest
is_there bytes rest pair holds short some = let empty : length rest ≤ pair → slot_at bytes 0 pair ≡ 0 = holds.empty pair short in grind arith

take_first : (mine : Pair → Bool) (p q : Pair) (ps : List Pair) → mine p ≡ true → p ≡ q → filter mine (p ∷ ps) ≡ q ∷ filter mine ps
take_first mine p q ps m e = rw m (ap (λ r. r ∷ filter mine ps) e)

skip_first : (mine : Pair → Bool) (p : Pair) (ps : List Pair) → mine p ≡ false → filter mine (p ∷ ps) ≡ filter mine ps
skip_first mine p ps m = rw m refl

-- whether the bytes of a pair tell that it is wanted
abbrev pub wants_at : List ℕ → ℤ → ℕ → ℕ → Bool
wants_at bytes key from pair = int_eq (key_at bytes 0 pair) key && nat_lt from (slot_at bytes 0 pair)

below_next : (from n slot : ℕ) → n ≡ slot + 1 → nat_lt from n ≡ nat_le from slot
below_next from n slot e = ⊎_elim
    (λ (low : from ≤ slot). let a : nat_lt from n ≡ true = grind (arith, nat_tests) in let b : nat_le from slot ≡ true = grind (arith, nat_tests) in a ∙ sym b)
    (λ (high : slot < from). let a : nat_lt from n ≡ false = grind (arith, nat_tests) in let b : nat_le from slot ≡ false = grind (arith, nat_tests) in a ∙ sym b)
    (order from slot)

wants_is : (bytes : List ℕ) (rest : List Pair) (pair : ℕ) (key : ℤ) (from : ℕ) → HoldsPairs bytes 0 rest → pair < 32 → pair < length rest → wants_at bytes key from pair ≡ is_wanted key from (get_or rest pair no_pair)
wants_is bytes rest pair key from holds short within =
    ap (λ (k : ℤ). int_eq k key && nat_lt from (slot_at bytes 0 pair)) (holds.key pair short within)
    ∙ ap (λ (b : Bool). int_eq (get_or rest pair no_pair).key key && b) (below_next from (slot_at bytes 0 pair) (get_or rest pair no_pair).slot (holds.slot pair short within))

pub found : (bytes : List ℕ) (rest : List Pair) (pair : ℕ) (key : ℤ) (from : ℕ) → HoldsPairs bytes 0 rest → pair < 32 → pair < length rest → wants_at bytes key from pair ≡ true →
    filter (is_wanted key from) (drop pair rest) ≡ record { key = key; slot = slot_at bytes 0 pair - 1 } ∷ filter (is_wanted key from) (drop (pair + 1) rest)
found bytes rest pair key from holds short within same =
    let p : Pair = get_or rest pair no_pair in
    let k : key_at bytes 0 pair ≡ p.key = holds.key pair short within in
    let n : slot_at bytes 0 pair ≡ p.slot + 1 = holds.slot pair short within in
    let slot : p.slot ≡ slot_at bytes 0 pair - 1 = omega (arith, n) in
    let mine : is_wanted key from p ≡ true = sym (wants_is bytes rest pair key from holds short within) ∙ same in
    let its : p.key ≡ key = sym k ∙ eq_true (key_at bytes 0 pair) key (first_part (int_eq (key_at bytes 0 pair) key) (nat_lt from (slot_at bytes 0 pair)) same) in
    ap (filter (is_wanted key from)) (drop_more rest pair no_pair within)
    ∙ take_first (is_wanted key from) p (record { key = key; slot = slot_at bytes 0 pair - 1 }) (drop (pair + 1) rest) mine
    (same_pair p (record { key = key; slot = slot_at bytes 0 pair - 1 }) its slot)

pub passed : (bytes : List ℕ) (rest : List Pair) (pair : ℕ) (key : ℤ) (from : ℕ) → HoldsPairs bytes 0 rest → pair < 32 → pair < length rest → wants_at bytes key from pair ≡ false →
    filter (is_wanted key from) (drop pair rest) ≡ filter (is_wanted key from) (drop (pair + 1) rest)
passed bytes rest pair key from holds short within other =
    ap (filter (is_wanted key from)) (drop_more rest pair no_pair within)
    ∙ skip_first (is_wanted key from) (get_or rest pair no_pair) (drop (pair + 1) rest) (sym (wants_is bytes rest pair key from holds short within) ∙ other)

-- nothing comes from an empty pair on
pub past : (bytes : List ℕ) (rest : List Pair) (pair : ℕ) (key : ℤ) (from : ℕ) → HoldsPairs bytes 0 rest → pair < 32 → slot_at bytes 0 pair ≡ 0 → filter (is_wanted key from) (drop pair rest) ≡ []
past bytes rest pair key from holds short none = ap (filter (is_wanted key from)) (drop_all pair rest (not_in (slot_at bytes 0 pair) (length rest) pair (λ h. holds.slot pair short h) none))
  where
    not_in : (n l p : ℕ) → (p < l → n ≡ (get_or rest p no_pair).slot + 1) → n ≡ 0 → l ≤ p
    not_in n l p some z = ⊎_elim (λ (x : l ≤ p). x) (λ (x : p < l). let s = some x in absurd (omega (arith, s, z))) (order l p)

-- a pair that is not wanted adds nothing, be it empty or not
pub passed_any : (bytes : List ℕ) (rest : List Pair) (pair : ℕ) (key : ℤ) (from : ℕ) → HoldsPairs bytes 0 rest → pair < 32 → wants_at bytes key from pair ≡ false →
    filter (is_wanted key from) (drop pair rest) ≡ filter (is_wanted key from) (drop (pair + 1) rest)
passed_any bytes rest pair key from holds short other =
    ⊎_elim
    (λ (none : length rest ≤ pair). ap (filter (is_wanted key from)) (drop_all pair rest none) ∙ sym (ap (filter (is_wanted key from)) (drop_all (pair + 1) rest (omega arith))))
    (λ (some : pair < length rest). passed bytes rest pair key from holds short some other)
    (order (length rest) pair)

-- a bucket whose last pair is empty is not full, and no pair comes behind it
pub none_behind : (bytes : List ℕ) (rest : List Pair) (key : ℤ) (from : ℕ) → HoldsPairs bytes 0 rest → slot_at bytes 0 31 ≡ 0 → filter (is_wanted key from) (drop 32 rest) ≡ []
none_behind bytes rest key from holds none =
    let short : 31 < 32 = omega arith in
    ⊎_elim
    (λ (few : length rest ≤ 31). ap (filter (is_wanted key from)) (drop_all 32 rest (omega arith)))
    (λ (many : 31 < length rest). let there = holds.slot 31 short many in absurd (omega (arith, there, none)))
    (order (length rest) 31)
