-- The end of a catalog: its slots, or the mark of version 2 or a part of it.
use Rattle.std.proofs.Common.{◌≡◌, ◌≢◌, ◌⊎◌, inl, inr, ⊎_elim, ℕ, ◌+◌, ◌-◌, ◌<◌, ◌≤◌, Bool, true, false, not, ◌&&◌, ◌||◌, ◌==◌, List, [], ◌∷◌, ◌++◌, length, take, drop, get_or, Option, Some, None, if◌then◌else◌, refl, ap, sym, subst, ◌∙◌, arith}
use Rattle.std.specs.Prelude.{slice_range}
use Rattle.std.specs.List.{list_any}
use Rattle.std.specs.Str.{bytes_eq}
use Rattle.std.proofs.lemmas.Bool.{cases_eq, cases_lt}
use Rattle.std.specs.Bool.{Decides}
use Rattle.std.proofs.lemmas.List.{get_or_past, length-append, length-drop, take_all, take_at}
use Rattle.std.proofs.lemmas.Slice.Eq.{bytes_eq-Decides}
use Rattle.afl_base.specs.Files.{Table}
use Rattle.catalog.specs.Rules.{catalog_bytes_in, has_form}
use Rattle.db_model.specs.declared.schemas.Attribute.{Attribute}
use Rattle.db_model.specs.declared.schemas.Domain.{Domain}
use Rattle.db_model.specs.declared.schemas.Domain.TheVariants.{Int, Long, Time, Str}
use Rattle.db_model.specs.declared.schemas.Schema.{Schema}
use Rattle.db_model.specs.Catalog.{catalog_of, version_mark, version_of}
use Rattle.padded.proofs.Facts.{both_true, both_parts, bytes_eq_same, either_part, either_right, eq_true, none_some, some_found, some_same, true_eq, true_or_false}
use Rattle.space_model.specs.FileNames.{bytes_named, rows_file}
use Rattle.stored.specs.CutTables.{HasMark, IsBehindSlot, IsMarkedInPart, IsTimed, relation}
use Rattle.stored.specs.Mended.{has_time, is_time_domain, mended_catalog, mended_version, whole_catalog}
use Rattle.stored.proofs.MendedBase.{whole_long}
use Rattle.stored.specs.declared.half.Half.{Half}
use Rattle.stored.specs.declared.half.Half.TheVariants.{Nothing}
use Rattle.stored_survey.specs.Pieces.{HasLastTime, IsLastTime, WantsMarkAlone}
use Rattle.stored_survey.proofs.Seen.{accepted, carried, refused}

-- ---- one relation alone has a TIME

either_left : (a b : Bool) → a ≡ true → (a || b) ≡ true
either_left true b e = refl
either_left false b e = cc

any_last : (front : List Attribute) (last : Attribute) → is_time_domain last.domain ≡ true → list_any (λ (a : Attribute). is_time_domain a.domain) (front ++ last ∷ []) ≡ true
any_last [] last t = either_left (is_time_domain last.domain) false t
any_last (a ∷ front) last t = either_right (is_time_domain a.domain) (list_any (λ (x : Attribute). is_time_domain x.domain) (front ++ last ∷ [])) (any_last front last t)

last_timed : (files : Table) (k : ℕ) (o : Option Schema) → IsLastTime files k o → has_time o ≡ true
last_timed files k None there = absurd there
last_timed files k (Some schema) there =
    let l = there.0 in
    ap (λ (attributes : List Attribute). list_any (λ (a : Attribute). is_time_domain a.domain) attributes) l.time.0
    ∙ any_last l.front l.last (ap is_time_domain l.time.1)

-- so far none has a TIME, or one has, as its last attribute, and no rows
pub record FoundOne (files : Table) (relations : List (Option Schema)) (n : ℕ) : Type 0 where
  pub k : ℕ
  pub below : k < n
  pub there : IsLastTime files k (get_or relations k None)
  pub alone : (j : ℕ) → j < n → has_time (get_or relations j None) ≡ true → j ≡ k

abbrev pub IsTimedBelow : Table → List (Option Schema) → ℕ → Bool → Type 0
IsTimedBelow files relations n true = FoundOne files relations n
IsTimedBelow files relations n false = (j : ℕ) → j < n → has_time (get_or relations j None) ≡ false

pub timed_none : (files : Table) (relations : List (Option Schema)) → IsTimedBelow files relations 0 false
timed_none files relations = λ j below. absurd (omega (arith, below))

next_or_before : (j n : ℕ) → j < n + 1 → (j < n) ⊎ (j ≡ n)
next_or_before j n below = ⊎_elim (λ (less : j < n). inl less) (λ (past : n ≤ j). inr (omega (arith, below, past))) (cases_lt j n)

pub timed_same : (files : Table) (relations : List (Option Schema)) (n : ℕ) (found : Bool) → has_time (get_or relations n None) ≡ false → IsTimedBelow files relations n found → IsTimedBelow files relations (n + 1) found
timed_same files relations n true untimed one =
    let below = one.below in
    record {
      k = one.k;
      below = omega (arith, below);
      there = one.there;
      alone = λ j inside t. ⊎_elim
          (λ (less : j < n). one.alone j less t)
          (λ (same : j ≡ n). absurd (let no : false ≡ true = sym untimed ∙ ap (λ (i : ℕ). has_time (get_or relations i None)) (sym same) ∙ t in let x : ⊥ = cc in x))
          (next_or_before j n inside);
    }
timed_same files relations n false untimed none = λ j inside. ⊎_elim
    (λ (less : j < n). none j less)
    (λ (same : j ≡ n). ap (λ (i : ℕ). has_time (get_or relations i None)) same ∙ untimed)
    (next_or_before j n inside)

pub timed_found : (files : Table) (relations : List (Option Schema)) (n : ℕ) → IsLastTime files n (get_or relations n None) → IsTimedBelow files relations n false → IsTimedBelow files relations (n + 1) true
timed_found files relations n there none = record {
  k = n;
  below = omega arith;
  there = there;
  alone = λ j inside t. ⊎_elim
      (λ (less : j < n). absurd (let no : false ≡ true = sym (none j less) ∙ t in let x : ⊥ = cc in x))
      (λ (same : j ≡ n). same)
      (next_or_before j n inside);
}

-- a second one
pub timed_twice : (files : Table) (relations : List (Option Schema)) (n : ℕ) → has_time (get_or relations n None) ≡ true → IsTimedBelow files relations n true → WantsMarkAlone files relations → ⊥
timed_twice files relations n t one w =
    let below = one.below in
    let first : one.k ≡ w.k = w.alone one.k (last_timed files one.k (get_or relations one.k None) one.there) in
    let second : n ≡ w.k = w.alone n t in
    omega (arith, below, first, second)

pub timed_badly : (files : Table) (relations : List (Option Schema)) (n : ℕ) → has_time (get_or relations n None) ≡ true → (IsLastTime files n (get_or relations n None) → ⊥) → WantsMarkAlone files relations → ⊥
timed_badly files relations n t bad w = bad (subst (λ (k : ℕ). IsLastTime files k (get_or relations k None)) (sym (w.alone n t)) w.there)

beyond : (relations : List (Option Schema)) (j : ℕ) → length relations ≡ 8 → has_time (get_or relations j None) ≡ true → j < 8
beyond relations j long t = ⊎_elim
    (λ (less : j < 8). less)
    (λ (past : 8 ≤ j). absurd (let none : has_time (get_or relations j None) ≡ false = ap has_time (get_or_past relations j None (omega (arith, long, past))) in let no : false ≡ true = sym none ∙ t in let x : ⊥ = cc in x))
    (cases_lt j 8)

pub timed_alone : (files : Table) (relations : List (Option Schema)) (n : ℕ) → length relations ≡ 8 → 8 ≤ n → IsTimedBelow files relations n true → WantsMarkAlone files relations
timed_alone files relations n long all one = record {
  k = one.k;
  there = one.there;
  alone = λ j t. let inside = beyond relations j long t in one.alone j (omega (arith, inside, all)) t;
}

pub timed_never : (files : Table) (relations : List (Option Schema)) (n : ℕ) → length relations ≡ 8 → 8 ≤ n → IsTimedBelow files relations n false → WantsMarkAlone files relations → ⊥
timed_never files relations n long all none w =
    let t = last_timed files w.k (get_or relations w.k None) w.there in
    let inside = beyond relations w.k long t in
    let no : false ≡ true = sym (none w.k (omega (arith, inside, all))) ∙ t in
    absurd (let x : ⊥ = cc in x)

pub timed_decides : (files : Table) (relations : List (Option Schema)) (n : ℕ) (found : Bool) → length relations ≡ 8 → 8 ≤ n → IsTimedBelow files relations n found → Decides found (WantsMarkAlone files relations)
timed_decides files relations n true long all one = accepted (timed_alone files relations n long all one)
timed_decides files relations n false long all none = refused (timed_never files relations n long all none)

-- the last of some attributes
same_front : (xs ys : List Attribute) (x y : Attribute) → xs ++ x ∷ [] ≡ ys ++ y ∷ [] → xs ≡ ys
same_front xs ys x y e =
    let long : length xs + 1 ≡ length ys + 1 = sym (length-append xs (x ∷ [])) ∙ ap (λ (zs : List Attribute). length zs) e ∙ length-append ys (y ∷ []) in
    sym (take_at xs (x ∷ []) (length ys) (omega (arith, long))) ∙ ap (take (length ys)) e ∙ take_at ys (y ∷ []) (length ys) refl

pub last_time : (schema : Schema) (front : List Attribute) (last : Attribute) (b : Bool) → schema.attributes ≡ front ++ last ∷ [] → last.domain ≡ Time
    → b ≡ list_any (λ (a : Attribute). is_time_domain a.domain) front → Decides (not b) (HasLastTime schema)
last_time schema front last true split time any = refused (λ h.
    let same : front ≡ h.front = same_front front h.front last h.last (sym split ∙ h.time.0) in
    let no : true ≡ false = any ∙ ap (λ (xs : List Attribute). list_any (λ (a : Attribute). is_time_domain a.domain) xs) same ∙ h.before in
    let n : ⊥ = cc in n)
last_time schema front last false split time any = accepted (record { front = front; last = last; time = (split, time); before = sym any })

-- ---- all of it

timed_of : (files : Table) → length (catalog_bytes_in files) ≡ 1472 → WantsMarkAlone files (mended_catalog files).relations → IsTimed files
timed_of files short w = by_slot (relation files w.k) refl w.there
  where
    by_slot : (o : Option Schema) → relation files w.k ≡ o → IsLastTime files w.k o → IsTimed files
    by_slot None is there = absurd there
    by_slot (Some schema) is there =
        let l = there.0 in
        record {
          short = short;
          k = w.k;
          schema = schema;
          there = is;
          front = l.front;
          last = l.last;
          time = l.time;
          before = l.before;
          alone = w.alone;
          empty = there.1;
        }

alone_of : (files : Table) → IsTimed files → WantsMarkAlone files (mended_catalog files).relations
alone_of files t = record {
  k = t.k;
  there = subst (IsLastTime files t.k) (sym t.there) (record { front = t.front; last = t.last; time = t.time; before = t.before }, t.empty);
  alone = t.alone;
}

module _ (files : Table) (half : Half) where
  abbrev bytes : List ℕ
  bytes = catalog_bytes_in files

  abbrev marked : Bool
  marked = length bytes == 1480 && bytes_eq (slice_range bytes 1472 1480) version_mark

  form_sizes : has_form bytes ≡ true → (length bytes ≡ 0) ⊎ ((length bytes ≡ 1472) ⊎ ((length bytes ≡ 1480) × (slice_range bytes 1472 1480 ≡ version_mark)))
  form_sizes e = ⊎_elim
      (λ (r : (length bytes == 0 || length bytes == 1472) ≡ true). ⊎_elim
      (λ (t : (length bytes == 0) ≡ true). inl (true_eq (length bytes) 0 t))
      (λ (t : (length bytes == 1472) ≡ true). inr (inl (true_eq (length bytes) 1472 t)))
      (either_part (length bytes == 0) (length bytes == 1472) r))
      (λ (t : marked ≡ true).
      let parts = both_parts (length bytes == 1480) (bytes_eq (slice_range bytes 1472 1480) version_mark) t in
      inr (inr (true_eq (length bytes) 1480 parts.0, (bytes_eq-Decides (slice_range bytes 1472 1480) version_mark).0 parts.1)))
      (either_part (length bytes == 0 || length bytes == 1472) marked e)

  one : length bytes ≡ 1472 → version_of bytes ≡ 1
  one size = ap (λ (b : Bool). if b then 1 else 2) (eq_true (length bytes) 1472 size)

  short_form : length bytes ≡ 1472 → has_form bytes ≡ true
  short_form size =
      either_left (length bytes == 0 || length bytes == 1472) marked (either_right (length bytes == 0) (length bytes == 1472) (eq_true (length bytes) 1472 size))

  two : 1472 < length bytes → version_of bytes ≡ 2
  two more = by_test (length bytes == 1472) refl
    where
      by_test : (b : Bool) → (length bytes == 1472) ≡ b → ◌≡◌ {A = ℕ} (if b then 1 else 2) 2
      by_test true t = let size = true_eq (length bytes) 1472 t in absurd (omega (arith, size, more))
      by_test false t = refl

  mended_two : 1472 < length bytes → (mended_catalog files).version ≡ 2
  unfolding mended_catalog
  mended_two more =
      let whole : whole_catalog files ≡ bytes = whole_long bytes (omega (arith, more)) in
      by_test (list_any has_time (catalog_of (whole_catalog files)).relations) (ap version_of whole ∙ two more)
    where
      by_test : (b : Bool) → version_of (whole_catalog files) ≡ 2 → ◌≡◌ {A = ℕ} (if b then 2 else version_of (whole_catalog files)) 2
      by_test true e = refl
      by_test false e = e

  -- of the size of version 1
  pub mark_absent : length bytes ≡ 1472 → ((mended_catalog files).version ≡ 1) ⊎ (WantsMarkAlone files (mended_catalog files).relations × (half ≡ Nothing)) → HasMark files half
  mark_absent size (inl version) = inl (short_form size, one size ∙ sym version)
  mark_absent size (inr part) = inr (inr (timed_of files size part.0, part.1))

  pub absent_mark : length bytes ≡ 1472 → HasMark files half → ((mended_catalog files).version ≡ 1) ⊎ (WantsMarkAlone files (mended_catalog files).relations × (half ≡ Nothing))
  absent_mark size (inl form) = inl (sym form.1 ∙ one size)
  absent_mark size (inr (inl part)) = let p = part.0 in let more = p.some.0 in let long = p.size in absurd (omega (arith, size, more, long))
  absent_mark size (inr (inr timed)) = inr (alone_of files timed.0, timed.1)

  -- longer than version 2
  pub mark_long : 1480 < length bytes → HasMark files half → ⊥
  mark_long more (inl form) = ⊎_elim
      (λ (z : length bytes ≡ 0). omega (arith, more, z))
      (λ r. ⊎_elim (λ (z : length bytes ≡ 1472). omega (arith, more, z)) (λ (p : (length bytes ≡ 1480) × (slice_range bytes 1472 1480 ≡ version_mark)). let z = p.0 in omega (arith, more, z)) r)
      (form_sizes form.0)
  mark_long more (inr (inl part)) = let p = part.0 in let few = p.some.1 in let long = p.size in omega (arith, more, few, long)
  mark_long more (inr (inr timed)) = let size = timed.0.short in omega (arith, more, size)

  module _ (n : ℕ) (size : length bytes ≡ 1472 + n) (some : 0 < n) (few : n ≤ 8) where
    all_behind : n ≡ 8 → slice_range bytes 1472 1480 ≡ drop 1472 bytes
    all_behind e = let left = length-drop 1472 bytes in take_all 8 (drop 1472 bytes) (omega (arith, left, size, e))

    all_mark : n ≡ 8 → take n version_mark ≡ version_mark
    all_mark e = ap (λ (m : ℕ). take m version_mark) e

    -- a part of the mark where no part may stand
    pub mark_early : n < 8 → (IsBehindSlot half → ⊥) → HasMark files half → ⊥
    mark_early less never (inl form) = ⊎_elim
        (λ (z : length bytes ≡ 0). omega (arith, size, z))
        (λ r. ⊎_elim (λ (z : length bytes ≡ 1472). omega (arith, size, some, z)) (λ (p : (length bytes ≡ 1480) × (slice_range bytes 1472 1480 ≡ version_mark)). let z = p.0 in omega (arith, size, less, z)) r)
        (form_sizes form.0)
    mark_early less never (inr (inl part)) = never part.1
    mark_early less never (inr (inr timed)) = let short = timed.0.short in omega (arith, size, some, short)

    -- its first bytes stand there
    pub mark_front : (n < 8 → IsBehindSlot half) → drop 1472 bytes ≡ take n version_mark → HasMark files half
    mark_front behind front = ⊎_elim
        (λ (less : n < 8). inr (inl (record { n = n; some = (some, less); size = size; front = front }, behind less)))
        (λ (all : 8 ≤ n).
        let e : n ≡ 8 = omega (arith, few, all) in
        let long : length bytes ≡ 1480 = omega (arith, size, e) in
        let mark : slice_range bytes 1472 1480 ≡ version_mark = all_behind e ∙ front ∙ all_mark e in
        inl (
          either_right (length bytes == 0 || length bytes == 1472) marked
              (both_true (length bytes == 1480) (bytes_eq (slice_range bytes 1472 1480) version_mark) (eq_true (length bytes) 1480 long) (bytes_eq_same (slice_range bytes 1472 1480) version_mark mark)),
          two (omega (arith, long)) ∙ sym (mended_two (omega (arith, long))),
        ))
        (cases_lt n 8)

    pub front_mark : HasMark files half → drop 1472 bytes ≡ take n version_mark
    front_mark (inl form) = ⊎_elim
        (λ (z : length bytes ≡ 0). absurd (omega (arith, size, z)))
        (λ r. ⊎_elim
        (λ (z : length bytes ≡ 1472). absurd (omega (arith, size, some, z)))
        (λ (p : (length bytes ≡ 1480) × (slice_range bytes 1472 1480 ≡ version_mark)).
        let z = p.0 in
        let e : n ≡ 8 = omega (arith, size, z) in
        sym (all_behind e) ∙ p.1 ∙ sym (all_mark e))
        r)
        (form_sizes form.0)
    front_mark (inr (inl part)) =
        let p = part.0 in
        let long = p.size in
        let e : p.n ≡ n = omega (arith, size, long) in
        p.front ∙ ap (λ (m : ℕ). take m version_mark) e
    front_mark (inr (inr timed)) = let short = timed.0.short in absurd (omega (arith, size, some, short))

pub time_of : (d : Domain) → is_time_domain d ≡ true → d ≡ Time
time_of Time e = refl
time_of Int e = cc
time_of Long e = cc
time_of (Str n) e = cc

module _ (files : Table) (half : Half) where
  pub absent_decides : (b : Bool) (version : ℕ) (relations : List (Option Schema)) → length (catalog_bytes_in files) ≡ 1472 → version ≡ (mended_catalog files).version → relations ≡ (mended_catalog files).relations
      → Decides b ((version ≡ 1) ⊎ (WantsMarkAlone files relations × (half ≡ Nothing))) → Decides b (HasMark files half)
  absent_decides b version relations size same_version same_relations d =
      carried b
      (subst (λ (rs : List (Option Schema)). Decides b (((mended_catalog files).version ≡ 1) ⊎ (WantsMarkAlone files rs × (half ≡ Nothing)))) same_relations
      (subst (λ (v : ℕ). Decides b ((v ≡ 1) ⊎ (WantsMarkAlone files relations × (half ≡ Nothing)))) same_version d))
      (mark_absent files half size) (absent_mark files half size)

  pub early_refused : (n : ℕ) → length (catalog_bytes_in files) ≡ 1472 + n → 0 < n → n ≤ 8 → ((n < 8 → IsBehindSlot half) → ⊥) → HasMark files half → ⊥
  early_refused n size some few never mark = ⊎_elim
      (λ (less : n < 8). mark_early files half n size some few less (λ behind. never (λ _. behind)) mark)
      (λ (all : 8 ≤ n). never (λ less. absurd (omega (arith, less, all))))
      (cases_lt n 8)

-- the bytes that were read behind the slots
pub front_read : (bytes into : List ℕ) (n : ℕ) (b : Bool) → length bytes ≡ 1472 + n → length into ≡ n → into ≡ slice_range bytes 1472 (1472 + length into)
    → Decides b (into ≡ take (length into) version_mark) → Decides b (drop 1472 bytes ≡ take n version_mark)
front_read bytes into n b size long read d =
    let left = length-drop 1472 bytes in
    let width : 1472 + length into - 1472 ≡ length into = omega arith in
    let all : into ≡ drop 1472 bytes = read ∙ ap (λ (m : ℕ). take m (drop 1472 bytes)) width ∙ take_all (length into) (drop 1472 bytes) (omega (arith, left, size, long)) in
    subst (λ (xs : List ℕ). Decides b (xs ≡ take n version_mark)) all (subst (λ (m : ℕ). Decides b (into ≡ take m version_mark)) long d)
