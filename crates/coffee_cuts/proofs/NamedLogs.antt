-- The rule that is broken first where a log was being named, or no file names it.
use Rattle.std.proofs.Common.{◌≡◌, ◌≢◌, ◌⊎◌, inl, inr, ⊎_elim, ℕ, zero, suc, ◌+◌, ◌*◌, ◌<◌, ◌≤◌, Bool, true, false, ◌||◌, ◌==◌, List, [], ◌∷◌, ◌++◌, length, drop, Option, Some, None, if◌then◌else◌, refl, ap, sym, subst, ◌∙◌, arith, bit_or}
use Rattle.std.specs.Option.{option_or}
use Rattle.std.specs.List.{filter, list_any}
use Rattle.std.proofs.lemmas.Bool.{cases_eq}
use Rattle.std.proofs.lemmas.List.{length-append}
use Rattle.std.proofs.lemmas.List.Elements.{filter-append}
use Rattle.coffee_header.specs.declared.header.Header.{Header}
use Rattle.coffee_layout.specs.Files.{Placed, extents, files_in, is_file, is_log, logs_in}
use Rattle.coffee_layout.specs.Rules.{broken_files, broken_image, first_failing, first_page, first_repeated, has_fields, is_log_of, names_its_log, same_name}
use Rattle.coffee_layout.specs.Tiling.{IsTiled, StandFrom, at_place, broken_tiling, nowhere, units_of}
use Rattle.coffee_layout.specs.Units.{size_of, total, unit_at}
use Rattle.coffee_layout.specs.declared.unit.BadImage.{BadImage}
use Rattle.coffee_layout.specs.declared.unit.Unit.{Unit}
use Rattle.coffee_layout.specs.declared.unit.Unit.TheVariants.{Extent, Free, Isolated}
use Rattle.coffee_layout.proofs.Frames.{total-append, unit_at_same}
use Rattle.coffee_layout.proofs.Tilings.{tiled_covered, units_covered}
use Rattle.coffee_merge.specs.Flags.{flagged}
use Rattle.coffee_merge.proofs.Begun.{begun_split}
use Rattle.coffee_merge.proofs.SoundUnits.{Among, failing_none}
use Rattle.padded.proofs.Facts.{false_by, true_eq}
use Rattle.coffee_cuts.specs.Cuts.{IsActiveAt, IsSettled}
use Rattle.coffee_cuts.proofs.MarkedPages.{flagged_ninth, ninth, other_page, stands_at}
use Rattle.coffee_cuts.proofs.SettledRules.{KeepsSettled, begins, placed_at, settled_kept, some_logged}
use Rattle.coffee_cuts.proofs.TwoMarks.{active_ninth, eight, once_marked, turned_begins}
use Rattle.coffee_cuts.proofs.Replaced.{IsKnown, marked_unbroken}

-- ---- LISTS OF EXTENTS

pub among_front : (e : Placed) (xs ys : List Placed) → Among e xs → Among e (xs ++ ys)
among_front e [] ys a = absurd a
among_front e (x ∷ xs) ys (inl s) = inl s
among_front e (x ∷ xs) ys (inr a) = inr (among_front e xs ys a)

pub among_back : (e : Placed) (xs ys : List Placed) → Among e ys → Among e (xs ++ ys)
among_back e [] ys a = a
among_back e (x ∷ xs) ys a = inr (among_back e xs ys a)

pub among_one_more : (e x : Placed) (xs ys : List Placed) → Among e (xs ++ ys) → Among e (xs ++ (x ∷ ys))
among_one_more e x [] ys a = inr a
among_one_more e x (y ∷ xs) ys (inl s) = inl s
among_one_more e x (y ∷ xs) ys (inr a) = inr (among_one_more e x xs ys a)

pub among_either : (e x : Placed) (xs ys : List Placed) → Among e (xs ++ (x ∷ ys)) → (x ≡ e) ⊎ Among e (xs ++ ys)
among_either e x [] ys (inl s) = inl s
among_either e x [] ys (inr a) = inr a
among_either e x (y ∷ xs) ys (inl s) = inr (inl s)
among_either e x (y ∷ xs) ys (inr a) = ⊎_elim (λ (s : x ≡ e). inl s) (λ (b : Among e (xs ++ ys)). inr (inr b)) (among_either e x xs ys a)

pub failing_at : (test : Placed → Bool) (xs ys : List Placed) (e : Placed) → ((x : Placed) → Among x xs → test x ≡ true) → test e ≡ false → first_failing test (xs ++ (e ∷ ys)) ≡ Some e.page
failing_at test [] ys e pass bad = rw bad refl
failing_at test (x ∷ xs) ys e pass bad = rw (pass x (inl refl)) (failing_at test xs ys e (λ y a. pass y (inr a)) bad)

pub repeated_same : (names : List (List ℕ)) (xs ys : List Placed) (e g : Placed) → e.page ≡ g.page → e.header.name ≡ g.header.name → first_repeated names (xs ++ (e ∷ ys)) ≡ first_repeated names (xs ++ (g ∷ ys))
repeated_same names [] ys e g page name =
    ap (λ n. if list_any (λ m. same_name m n) names then Some e.page else first_repeated (names ++ (n ∷ [])) ys) name
    ∙ ap (λ p. if list_any (λ m. same_name m g.header.name) names then Some p else first_repeated (names ++ (g.header.name ∷ [])) ys) page
repeated_same names (x ∷ xs) ys e g page name =
    ap (λ o. if list_any (λ m. same_name m x.header.name) names then Some x.page else o) (repeated_same (names ++ (x.header.name ∷ [])) xs ys e g page name)

drop_past : (n : ℕ) (xs : List Placed) → length xs ≤ n → drop n xs ≡ []
drop_past n [] few = drop-nil n
  where
    drop-nil : (n : ℕ) → ◌≡◌ {A = List Placed} (drop n []) []
    drop-nil zero = refl
    drop-nil (suc n) = refl
drop_past zero (x ∷ xs) few = absurd (omega (arith, few))
drop_past (suc n) (x ∷ xs) few = drop_past n xs (omega (arith, few))

pub few_enough : (xs : List Placed) → length xs ≤ 32 → first_page (drop 32 xs) ≡ None
few_enough xs few = ap first_page (drop_past 32 xs few)

extents_append : (us vs : List Unit) (from : ℕ) → extents from (us ++ vs) ≡ extents from us ++ extents (from + total us) vs
extents_append [] vs from = let e : from ≡ from + 0 = omega arith in ap (λ n. extents n vs) e
extents_append (Free ∷ us) vs from = let e : from + 1 + total us ≡ from + (1 + total us) = omega arith in extents_append us vs (from + 1) ∙ ap (λ n. extents (from + 1) us ++ extents n vs) e
extents_append (Isolated ∷ us) vs from = let e : from + 1 + total us ≡ from + (1 + total us) = omega arith in extents_append us vs (from + 1) ∙ ap (λ n. extents (from + 1) us ++ extents n vs) e
extents_append (Extent h ∷ us) vs from =
    let e : from + h.max_pages + total us ≡ from + (h.max_pages + total us) = omega arith in
    ap (λ es. placed_at from h ∷ es) (extents_append us vs (from + h.max_pages) ∙ ap (λ n. extents (from + h.max_pages) us ++ extents n vs) e)

pub filter_in : (test : Placed → Bool) (e : Placed) (xs ys : List Placed) → test e ≡ true → filter test (xs ++ (e ∷ ys)) ≡ filter test xs ++ (e ∷ filter test ys)
filter_in test e xs ys t = filter-append test xs (e ∷ ys) ∙ ap (λ es. filter test xs ++ es) (rw t refl)

pub filter_out : (test : Placed → Bool) (e : Placed) (xs ys : List Placed) → test e ≡ false → filter test (xs ++ (e ∷ ys)) ≡ filter test xs ++ filter test ys
filter_out test e xs ys t = filter-append test xs (e ∷ ys) ∙ ap (λ es. filter test xs ++ es) (rw t refl)

-- ---- UNITS OF WHICH ONE HAS OTHER FLAGS

stand_behind : (old new : List ℕ) (us : List Unit) (from page : ℕ) → page < from → ((q : ℕ) → q ≢ page → unit_at new q ≡ unit_at old q) → StandFrom old from us → StandFrom new from us
stand_behind old new [] from page less same s = tt
stand_behind old new (u ∷ us) from page less same s =
    (same from (λ e. absurd (omega (arith, e, less))) ∙ s.0, s.1, stand_behind old new us (from + size_of u) page (omega (arith, less)) same s.2)

stand_turned : (old new : List ℕ) (front rest : List Unit) (u v : Unit) (from page : ℕ) → from + total front ≡ page → size_of v ≡ size_of u → ((q : ℕ) → q ≢ page → unit_at new q ≡ unit_at old q) → unit_at new page ≡ Some v
    → StandFrom old from (front ++ (u ∷ rest)) → StandFrom new from (front ++ (v ∷ rest))
stand_turned old new [] rest u v from page place size same is s =
    let here : page ≡ from = omega (arith, place) in
    let some = s.1 in (
      subst (λ p. unit_at new p ≡ Some v) here is,
      omega (arith, some, size),
      subst (λ n. StandFrom new (from + n) rest) (sym size) (stand_behind old new rest (from + size_of u) page (omega (arith, here, some)) same s.2),
    )
stand_turned old new (w ∷ us) rest u v from page place size same is s =
    let some = s.1 in
    (same from (λ e. absurd (omega (arith, e, place, some))) ∙ s.0, s.1, stand_turned old new us rest u v (from + size_of w) page (omega (arith, place)) size same is s.2)

module _ (image new : List ℕ) (page : ℕ) (h g : Header) (long : length new ≡ length image) (k : KeepsSettled new) (there : unit_at image page ≡ Some (Extent h)) (b : begins new page g) (size : h.max_pages ≡ g.max_pages)
    (same : (q : ℕ) → q ≢ page → unit_at image q ≡ unit_at new q) where
  -- the extents in front of it and behind it
  pub parts : (front : List Placed) × (back : List Placed) × (extents 0 (units_of image) ≡ front ++ (placed_at page h ∷ back)) × (extents 0 (units_of new) ≡ front ++ (placed_at page g ∷ back))
  parts =
      let s = begun_split (units_of new) page (Extent g) b in
      let place : total s.front ≡ page = s.place in
      let from_zero : 0 + total s.front ≡ page = omega (arith, place) in
      let c = tiled_covered nowhere new (s.front ++ (Extent g ∷ s.rest)) (subst (IsTiled nowhere new) s.whole k.tiled) in
      let sum : total (s.front ++ (Extent h ∷ s.rest)) ≡ total (s.front ++ (Extent g ∷ s.rest)) =
      total-append s.front (Extent h ∷ s.rest) ∙ ap (λ n. total s.front + (n + total s.rest)) size ∙ sym (total-append s.front (Extent g ∷ s.rest)) in
      let units : units_of image ≡ s.front ++ (Extent h ∷ s.rest) = units_covered image (s.front ++ (Extent h ∷ s.rest)) (record {
        stand = stand_turned new image s.front s.rest (Extent g) (Extent h) 0 page (omega (arith, place)) size same there c.stand;
        whole = ap (λ n. 256 * n) sum ∙ c.whole ∙ long;
      }) in
      let at : (f : Header) → extents 0 (s.front ++ (Extent f ∷ s.rest)) ≡ extents 0 s.front ++ (placed_at page f ∷ extents (page + f.max_pages) s.rest) =
      λ f. extents_append s.front (Extent f ∷ s.rest) 0 ∙ ap (λ p. extents 0 s.front ++ extents p (Extent f ∷ s.rest)) from_zero in (
        extents 0 s.front,
        extents (page + g.max_pages) s.rest,
        ap (extents 0) units ∙ at h ∙ ap (λ n. extents 0 s.front ++ (placed_at page h ∷ extents (page + n) s.rest)) size,
        ap (extents 0) s.whole ∙ at g,
      )

-- ---- A LOG THAT WAS BEING NAMED

by_eight : (a b c d : Option ℕ) (page : ℕ) (rest : Option BadImage) → a ≡ None → b ≡ None → c ≡ None → d ≡ Some page
    → option_or (at_place 5 a) (option_or (at_place 6 b) (option_or (at_place 7 c) (option_or (at_place 8 d) rest))) ≡ Some (record { rule = 8; place = page })
by_eight a b c d page rest e f g i = rw (e, f, g, i) refl

module _ (image : List ℕ) (page sectors : ℕ) (size : length image ≡ 4096 * sectors) (a : IsActiveAt image page 3) (s : IsSettled (flagged image page 8)) where
  abbrev named : List ℕ
  named = flagged image page 8

  abbrev old : Header
  old = a.header

  abbrev marked_header : Header
  marked_header = record a.header { flags = ninth (flagged image page 8) page }

  begun_old : begins image page old
  begun_old = (active_ninth image page 3 a).0

  eleven : ninth named page ≡ 11
  eleven = let f = active_ninth image page 3 a in flagged_ninth image page 8 f.1 ∙ ap (λ n. bit_or n 8) f.2

  kept_named : KeepsSettled named
  kept_named = let m = once_marked image page 8 eight in let long = m.long in settled_kept named (omega (arith, long, size)) s

  begun_named : begins named page marked_header
  begun_named = turned_begins image named (once_marked image page 8 eight) kept_named page old begun_old

  known : (p : ℕ) → IsKnown image named p
  known p = ⊎_elim
      (λ (here : p ≡ page). inr (old, ap (unit_at image) here ∙ (stands_at image page (Extent old) begun_old).1, λ two. let n = a.flags_are in absurd (omega (arith, two, n))))
      (λ (other : p ≢ page). inl (other_page image page 8 p other))
      (cases_eq p page)

  unbroken : broken_tiling nowhere image ≡ None
  unbroken = marked_unbroken image named (once_marked image page 8 eight) kept_named known

  split : (front : List Placed) × (back : List Placed) × (extents 0 (units_of image) ≡ front ++ (placed_at page old ∷ back)) × (extents 0 (units_of named) ≡ front ++ (placed_at page marked_header ∷ back))
  split = parts image named page old marked_header (once_marked image page 8 eight).long kept_named (stands_at image page (Extent old) begun_old).1 begun_named refl
      (λ q other. sym (unit_at_same image named q (other_page image page 8 q other)))

  is_old_file : is_file (placed_at page old) ≡ true
  is_old_file = ap (λ n. n == 3 || n == 11) a.flags_are

  is_named_file : is_file (placed_at page marked_header) ≡ true
  is_named_file = ap (λ n. n == 3 || n == 11) eleven

  is_no_log : is_log (placed_at page old) ≡ false
  is_no_log = ap (λ n. n == 19) a.flags_are

  is_no_log_named : is_log (placed_at page marked_header) ≡ false
  is_no_log_named = ap (λ n. n == 19) eleven

  some_log : 1 ≤ old.log_page
  some_log = some_logged named kept_named page marked_header begun_named eleven

  pub namings_break_rule_8 : broken_image image ≡ Some (record { rule = 8; place = page })
  unfolding broken_image
  namings_break_rule_8 = ap (λ o. option_or o (broken_files image (units_of image))) unbroken ∙ on_lists split.0 split.1 split.2 split.3
    where
      on_lists : (front back : List Placed) → extents 0 (units_of image) ≡ front ++ (placed_at page old ∷ back) → extents 0 (units_of named) ≡ front ++ (placed_at page marked_header ∷ back)
          → broken_files image (units_of image) ≡ Some (record { rule = 8; place = page })
      on_lists front back is other =
          let e : Placed = placed_at page old in
          let g : Placed = placed_at page marked_header in
          let k = kept_named in
          let files : files_in (units_of image) ≡ filter is_file front ++ (e ∷ filter is_file back) = ap (filter is_file) is ∙ filter_in is_file e front back is_old_file in
          let files_named : files_in (units_of named) ≡ filter is_file front ++ (g ∷ filter is_file back) = ap (filter is_file) other ∙ filter_in is_file g front back is_named_file in
          let logs : logs_in (units_of image) ≡ logs_in (units_of named) =
          ap (filter is_log) is ∙ filter_out is_log e front back is_no_log ∙ sym (ap (filter is_log) other ∙ filter_out is_log g front back is_no_log_named) in
          let few : length (filter is_file front ++ (g ∷ filter is_file back)) ≤ 32 = subst (λ fs. length fs ≤ 32) files_named k.rules.few in
          let long = length-append (filter is_file front) (e ∷ filter is_file back) in
          let long_named = length-append (filter is_file front) (g ∷ filter is_file back) in
          by_eight _ _ _ _ page _
          (ap (λ fs. first_page (drop 32 fs)) files ∙ few_enough (filter is_file front ++ (e ∷ filter is_file back)) (omega (arith, few, long, long_named)))
          (ap (first_repeated []) files ∙ repeated_same [] (filter is_file front) (filter is_file back) e g refl refl ∙ sym (ap (first_repeated []) files_named) ∙ k.rules.names)
          (ap (first_failing has_fields) is ∙ failing_none has_fields (front ++ (e ∷ back)) (λ x among. ⊎_elim
          (λ (here : e ≡ x). ap has_fields (sym here) ∙ same_fields ∙ k.rules.fields g (subst (Among g) (sym other) (among_back g front (g ∷ back) (inl refl))))
          (λ (there : Among x (front ++ back)). k.rules.fields x (subst (Among x) (sym other) (among_one_more x g front back there)))
          (among_either x e front back among)))
          (ap (first_failing (names_its_log (logs_in (units_of image)))) files
          ∙ failing_at (names_its_log (logs_in (units_of image))) (filter is_file front) (filter is_file back) e
          (λ x among. ap (λ ls. names_its_log ls x) logs ∙ k.rules.named x (subst (Among x) (sym files_named) (among_front x (filter is_file front) (g ∷ filter is_file back) among)))
          (names_none (logs_in (units_of image))))
        where
          same_fields : has_fields (placed_at page old) ≡ has_fields (placed_at page marked_header)
          same_fields = rw (is_old_file, is_named_file) refl

          names_none : (ls : List Placed) → names_its_log ls (placed_at page old) ≡ false
          names_none ls =
              ap (λ n. if n == 3 then old.log_page == 0 else list_any (is_log_of (placed_at page old)) ls) a.flags_are
              ∙ false_by (old.log_page == 0) (λ t. let z = true_eq old.log_page 0 t in let some = some_log in absurd (omega (arith, z, some)))
