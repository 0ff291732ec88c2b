-- Parts that come byte by byte, and how many bytes are kept.
use Rattle.std.proofs.Common.{◌≡◌, refl, sym, ap, subst, ◌∙◌, ℕ, ◌<◌, ◌≤◌, Bool, true, false, List, [], ◌∷◌, ◌++◌, length, take, drop, length-append, arith, cond, Option, Some, None, suc}
use Rattle.std.specs.Prelude.{◌==◌, option_map, option_and_then, nat_lt, if◌then◌else◌, slice_index}
use Rattle.std.proofs.lemmas.Bool.Decides.{nat_tests, Decides-eqb}
use Rattle.std.proofs.lemmas.List.{take-append-le, take_all, length-take}
use Rattle.run_frames.specs.Frames.{Frame, Broken, Long, Asked, decoded, escaped, frame_of, frame_from, part_behind, is_client}
use Rattle.serve.specs.Gathers.{Opened, with_front, escape_opened, opened_escape, one_more, Decoding, GathersPart, GathersBy, HoldsPart, KeepsPart}

-- ---- decoding

-- a part is decoded where no escape is open
abbrev pub closed : Option Opened → Option (List ℕ)
closed None = None
closed (Some o) = if o.escaped then None else Some o.bytes

closed_front : (b : ℕ) (o : Option Opened) → option_map (λ rest. b ∷ rest) (closed o) ≡ closed (option_map (with_front b) o)
closed_front b None = refl
closed_front b (Some o) = by_test o.escaped
  where
    by_test : (t : Bool) → option_map (λ rest. b ∷ rest) (if t then None else Some o.bytes) ≡ (if t then None else Some (b ∷ o.bytes))
    by_test true = refl
    by_test false = refl

closed_escape : (b : ℕ) (o : Option Opened) → escaped b (closed o) ≡ closed (opened_escape b o)
closed_escape b o = by_tests (b == 220) (b == 221)
  where
    by_tests : (s t : Bool) → (if s then option_map (λ bytes. 192 ∷ bytes) (closed o) else (if t then option_map (λ bytes. 219 ∷ bytes) (closed o) else None))
        ≡ closed (if s then option_map (with_front 192) o else (if t then option_map (with_front 219) o else None))
    by_tests true t = closed_front 192 o
    by_tests false true = closed_front 219 o
    by_tests false false = refl

pub decoded_opened : (part : List ℕ) → decoded part ≡ closed (escape_opened part)
decoded_opened [] = refl
decoded_opened (b ∷ []) = by_test (b == 219)
  where
    by_test : (t : Bool) → (if t then None else Some (b ∷ [])) ≡ closed (if t then Some (record { bytes = []; escaped = true }) else Some (record { bytes = b ∷ []; escaped = false }))
    by_test true = refl
    by_test false = refl
decoded_opened (b ∷ c ∷ bytes) = by_test (b == 219) (ap (escaped c) (decoded_opened bytes) ∙ closed_escape c (escape_opened bytes)) (ap (option_map (λ rest. b ∷ rest)) (decoded_opened (c ∷ bytes)) ∙ closed_front b (escape_opened (c ∷ bytes)))
  where
    by_test : (t : Bool) → escaped c (decoded bytes) ≡ closed (opened_escape c (escape_opened bytes)) → option_map (λ rest. b ∷ rest) (decoded (c ∷ bytes)) ≡ closed (option_map (with_front b) (escape_opened (c ∷ bytes)))
        → (if t then escaped c (decoded bytes) else option_map (λ rest. b ∷ rest) (decoded (c ∷ bytes))) ≡ closed (if t then opened_escape c (escape_opened bytes) else option_map (with_front b) (escape_opened (c ∷ bytes)))
    by_test true e f = e
    by_test false e f = f

more_front : (b x : ℕ) (o : Option Opened) → option_and_then (one_more b) (option_map (with_front x) o) ≡ option_map (with_front x) (option_and_then (one_more b) o)
more_front b x None = refl
more_front b x (Some o) = by_tests o.escaped (b == 220) (b == 221) (b == 219)
  where
    by_tests : (e s t u : Bool)
        → (if e
        then (if s then Some (record { bytes = (x ∷ o.bytes) ++ 192 ∷ []; escaped = false }) else (if t then Some (record { bytes = (x ∷ o.bytes) ++ 219 ∷ []; escaped = false }) else None))
        else (if u then Some (record { bytes = x ∷ o.bytes; escaped = true }) else Some (record { bytes = (x ∷ o.bytes) ++ b ∷ []; escaped = false })))
        ≡ option_map (with_front x)
        (if e
        then (if s then Some (record { bytes = o.bytes ++ 192 ∷ []; escaped = false }) else (if t then Some (record { bytes = o.bytes ++ 219 ∷ []; escaped = false }) else None))
        else (if u then Some (record { bytes = o.bytes; escaped = true }) else Some (record { bytes = o.bytes ++ b ∷ []; escaped = false })))
    by_tests true true t u = refl
    by_tests true false true u = refl
    by_tests true false false u = refl
    by_tests false s t true = refl
    by_tests false s t false = refl

more_escape : (b c : ℕ) (o : Option Opened) → option_and_then (one_more b) (opened_escape c o) ≡ opened_escape c (option_and_then (one_more b) o)
more_escape b c o = by_tests (c == 220) (c == 221)
  where
    by_tests : (s t : Bool) → option_and_then (one_more b) (if s then option_map (with_front 192) o else (if t then option_map (with_front 219) o else None))
        ≡ (if s then option_map (with_front 192) (option_and_then (one_more b) o) else (if t then option_map (with_front 219) (option_and_then (one_more b) o) else None))
    by_tests true t = more_front b 192 o
    by_tests false true = more_front b 219 o
    by_tests false false = refl

-- one byte more of a part
abbrev open_escape : Option Opened
open_escape = Some (record { bytes = []; escaped = true })

abbrev open_bytes : List ℕ → Option Opened
open_bytes bytes = Some (record { bytes = bytes; escaped = false })

pub opened_more : (part : List ℕ) (b : ℕ) → escape_opened (part ++ b ∷ []) ≡ option_and_then (one_more b) (escape_opened part)
opened_more [] b = by_test (b == 219)
  where
    by_test : (t : Bool) → cond t open_escape (open_bytes (b ∷ [])) ≡ cond t open_escape (open_bytes ([] ++ b ∷ []))
    by_test true = refl
    by_test false = refl
opened_more (a ∷ []) b = by_tests (a == 219) (b == 220) (b == 221) (b == 219)
  where
    by_tests : (e s t u : Bool)
        → cond e (cond s (option_map (with_front 192) (open_bytes [])) (cond t (option_map (with_front 219) (open_bytes [])) None)) (option_map (with_front a) (cond u open_escape (open_bytes (b ∷ []))))
        ≡ option_and_then
        (λ (o : Opened). cond o.escaped (cond s (open_bytes (o.bytes ++ 192 ∷ [])) (cond t (open_bytes (o.bytes ++ 219 ∷ [])) None)) (cond u (Some (record { bytes = o.bytes; escaped = true })) (open_bytes (o.bytes ++ b ∷ []))))
        (cond e open_escape (open_bytes (a ∷ [])))
    by_tests true true t u = refl
    by_tests true false true u = refl
    by_tests true false false u = refl
    by_tests false s t true = refl
    by_tests false s t false = refl
opened_more (a ∷ c ∷ part) b =
    by_test (a == 219) (ap (opened_escape c) (opened_more part b) ∙ sym (more_escape b c (escape_opened part))) (ap (option_map (with_front a)) (opened_more (c ∷ part) b) ∙ sym (more_front b a (escape_opened (c ∷ part))))
  where
    by_test : (t : Bool) → opened_escape c (escape_opened (part ++ b ∷ [])) ≡ option_and_then (one_more b) (opened_escape c (escape_opened part))
        → option_map (with_front a) (escape_opened ((c ∷ part) ++ b ∷ [])) ≡ option_and_then (one_more b) (option_map (with_front a) (escape_opened (c ∷ part)))
        → (if t then opened_escape c (escape_opened (part ++ b ∷ [])) else option_map (with_front a) (escape_opened ((c ∷ part) ++ b ∷ [])))
        ≡ option_and_then (one_more b) (if t then opened_escape c (escape_opened part) else option_map (with_front a) (escape_opened (c ∷ part)))
    by_test true e f = e
    by_test false e f = f

-- ---- the bytes that are kept

-- none is kept any more
pub kept_full : (n : ℕ) (old bytes : List ℕ) (b : ℕ) → old ≡ take n bytes → n ≤ length old → (old ≡ take n (bytes ++ b ∷ [])) × (true ≡ nat_lt n (length (bytes ++ b ∷ [])))
kept_full n old bytes b e full =
    let many = ap length e in
    let less = length-take n bytes in
    let within : n ≤ length bytes = omega (arith, many, less, full) in
    let l = length-append bytes (b ∷ []) in
    let more : n < length (bytes ++ b ∷ []) = omega (arith, l, within) in
    (e ∙ sym (take-append-le n bytes (b ∷ []) within), sym (grind (arith, nat_tests)))

-- one more is kept
pub kept_more : (n : ℕ) (old bytes : List ℕ) (b : ℕ) → old ≡ take n bytes → length old < n → (old ++ b ∷ [] ≡ take n (bytes ++ b ∷ [])) × (nat_lt n (length bytes) ≡ nat_lt n (length (bytes ++ b ∷ [])))
kept_more n old bytes b e room =
    let many = ap length e in
    let less = length-take n bytes in
    let within : length bytes < n = omega (arith, many, less, room) in
    let l = length-append bytes (b ∷ []) in
    let short : nat_lt n (length bytes) ≡ false = grind (arith, nat_tests) in
    let still : nat_lt n (length (bytes ++ b ∷ [])) ≡ false = let m : length (bytes ++ b ∷ []) ≤ n = omega (arith, l, within) in grind (arith, nat_tests) in
    (ap (λ xs. xs ++ b ∷ []) (e ∙ take_all n bytes (omega (arith, within))) ∙ sym (take_all n (bytes ++ b ∷ []) (omega (arith, l, within))), short ∙ sym still)

-- ---- the end of a part

pub frame_some : (part : List ℕ) → 0 < length part → frame_of part ≡ frame_from (decoded part) ∷ []
frame_some [] some = absurd (omega (arith, some))
frame_some (b ∷ bytes) some = refl

-- an escape is broken
pub refused_broken : (part bytes : List ℕ) (long escaped broken : Bool) → HoldsPart (escape_opened part) bytes long escaped broken → broken ≡ true → frame_from (decoded part) ≡ Broken
refused_broken part bytes long escaped broken h e = ap frame_from (decoded_opened part ∙ by_opened (escape_opened part) h)
  where
    by_opened : (o : Option Opened) → HoldsPart o bytes long escaped broken → closed o ≡ None
    by_opened None k = refl
    by_opened (Some o) k = let h = k.0 in cc

-- an escape is open
pub refused_open : (part bytes : List ℕ) (long escaped broken : Bool) → HoldsPart (escape_opened part) bytes long escaped broken → escaped ≡ true → frame_from (decoded part) ≡ Broken
refused_open part bytes long escaped broken h e = ap frame_from (decoded_opened part ∙ by_opened (escape_opened part) h)
  where
    by_opened : (o : Option Opened) → HoldsPart o bytes long escaped broken → closed o ≡ None
    by_opened None k = refl
    by_opened (Some o) k = ap (λ t. if t then None else Some o.bytes) (sym k.1 ∙ e)

-- the decoded bytes of a part
pub record Decodes (part bytes : List ℕ) (long : Bool) : Type 0 where
  pub all : List ℕ
  pub decodes : decoded part ≡ Some all
  pub kept : bytes ≡ take 513 all
  pub more : long ≡ nat_lt 513 (length all)

pub decodes : (part bytes : List ℕ) (long escaped broken : Bool) → HoldsPart (escape_opened part) bytes long escaped broken → broken ≡ false → escaped ≡ false → Decodes part bytes long
decodes part bytes long escaped broken h e f = by_opened (escape_opened part) (decoded_opened part) h
  where
    by_opened : (o : Option Opened) → decoded part ≡ closed o → HoldsPart o bytes long escaped broken → Decodes part bytes long
    by_opened None d k = cc
    by_opened (Some o) d k = record { all = o.bytes; decodes = d ∙ ap (λ t. if t then None else Some o.bytes) (sym k.1 ∙ f); kept = k.2; more = k.3 }

-- what the frame is, by the bytes that are kept
abbrev frame_kept : List ℕ → Bool → Frame
frame_kept [] long = Broken
frame_kept (client ∷ command) long = if is_client client then (if long then Long client else Asked client command) else Broken

one_less : (n : ℕ) → nat_lt 512 n ≡ nat_lt 513 (suc n)
one_less n = by_test (nat_lt 512 n) refl
  where
    by_test : (t : Bool) → nat_lt 512 n ≡ t → t ≡ nat_lt 513 (suc n)
    by_test true e = sym (grind (arith, nat_tests))
    by_test false e = sym (grind (arith, nat_tests))

pub ends : (part bytes : List ℕ) (long : Bool) → Decodes part bytes long → frame_from (decoded part) ≡ frame_kept bytes long
ends part bytes long d = ap frame_from d.decodes ∙ by_all d.all d.more ∙ ap (λ kept. frame_kept kept long) (sym d.kept)
  where
    by_long : (t : Bool) (client : ℕ) (command : List ℕ) → nat_lt 512 (length command) ≡ t → (if t then Long client else Asked client command) ≡ (if t then Long client else Asked client (take 512 command))
    by_long true client command e = refl
    by_long false client command e = let few : length command ≤ 512 = grind (arith, nat_tests) in ap (Asked client) (sym (take_all 512 command few))

    by_all : (all : List ℕ) → long ≡ nat_lt 513 (length all) → frame_from (Some all) ≡ frame_kept (take 513 all) long
    by_all [] e = refl
    by_all (client ∷ command) e =
        let same : nat_lt 512 (length command) ≡ long = one_less (length command) ∙ sym e in
        ap (λ f. if is_client client then f else Broken) (by_long (nat_lt 512 (length command)) client command refl ∙ ap (λ t. if t then Long client else Asked client (take 512 command)) same)

pub ends_empty : (part bytes : List ℕ) (long : Bool) → Decodes part bytes long → length bytes ≡ 0 → frame_from (decoded part) ≡ Broken
ends_empty part [] long d e = ends part [] long d
ends_empty part (b ∷ bytes) long d e = absurd (omega (arith, e))

pub ends_strange : (part bytes : List ℕ) (long : Bool) → Decodes part bytes long → is_client (slice_index bytes 0) ≡ false → frame_from (decoded part) ≡ Broken
ends_strange part [] long d e = ends part [] long d
ends_strange part (b ∷ bytes) long d e = ends part (b ∷ bytes) long d ∙ ap (λ t. if t then (if long then Long b else Asked b bytes) else Broken) e

pub ends_client : (part bytes : List ℕ) (long : Bool) → Decodes part bytes long → 0 < length bytes → is_client (slice_index bytes 0) ≡ true
    → frame_from (decoded part) ≡ (if long then Long (slice_index bytes 0) else Asked (slice_index bytes 0) (drop 1 bytes))
ends_client part [] long d some e = absurd (omega (arith, some))
ends_client part (b ∷ bytes) long d some e = ends part (b ∷ bytes) long d ∙ ap (λ t. if t then (if long then Long b else Asked b bytes) else Broken) e

-- ---- one byte more

other_byte : (b : ℕ) → (b ≡ 192 → ⊥) → (b == 192) ≡ false
other_byte b h = by_test (b == 192) (λ e. h ((Decides-eqb b 192).0 e))
  where
    by_test : (t : Bool) → (t ≡ true → ⊥) → t ≡ false
    by_test true k = absurd (k refl)
    by_test false k = refl

-- what a push does
abbrev Pushes : ℕ → Decoding → Decoding → Type 0
Pushes b old new = (o : Option Opened) → HoldsPart o old.bytes old.long old.escaped old.broken → HoldsPart (option_and_then (one_more b) o) new.bytes new.long new.escaped new.broken

pushed : (part : List ℕ) (b : ℕ) (old new : Decoding) → KeepsPart part old → Pushes b old new → new.begun ≡ true → GathersPart (part ++ b ∷ []) new
pushed part b old new kept push begun =
    subst (λ t. GathersBy t (part ++ b ∷ []) new) (sym begun)
    (let n = length-append part (b ∷ []) in omega (arith, n), subst (λ o. HoldsPart o new.bytes new.long new.escaped new.broken) (sym (opened_more part b)) (push (escape_opened part) kept))

-- the first byte of a part
pub gathers_first : (part : List ℕ) (b : ℕ) (old mid new : Decoding) → (b ≡ 192 → ⊥) → old.begun ≡ false → GathersPart part old → KeepsPart [] mid → mid.begun ≡ true → Pushes b mid new → new.begun ≡ mid.begun → GathersPart (part_behind part (b ∷ [])) new
gathers_first part b old mid new other begun h kept mid_begun push same =
    let empty : part ≡ [] = subst (λ t. GathersBy t part old) begun h in
    rw (other_byte b other, empty) (pushed [] b mid new kept push (same ∙ mid_begun))

-- another byte of it
pub gathers_more : (part : List ℕ) (b : ℕ) (old new : Decoding) → (b ≡ 192 → ⊥) → old.begun ≡ true → GathersPart part old → Pushes b old new → new.begun ≡ old.begun → GathersPart (part_behind part (b ∷ [])) new
gathers_more part b old new other begun h push same =
    let kept = subst (λ t. GathersBy t part old) begun h in
    rw (other_byte b other) (pushed part b old new kept.1 push (same ∙ begun))
