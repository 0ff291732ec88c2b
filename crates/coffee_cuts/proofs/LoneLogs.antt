-- The rule that is broken first where a log stands that no file names.
use Rattle.std.proofs.Common.{◌≡◌, ◌≢◌, ◌⊎◌, inl, inr, ⊎_elim, ℕ, ◌+◌, ◌*◌, Bool, true, false, ◌||◌, ◌==◌, List, [], ◌∷◌, ◌++◌, length, drop, Option, Some, None, if◌then◌else◌, refl, ap, sym, subst, ◌∙◌, arith, bit_or}
use Rattle.std.specs.Option.{option_or}
use Rattle.std.specs.List.{filter, list_any}
use Rattle.std.proofs.lemmas.Bool.{cases_eq}
use Rattle.coffee_header.specs.declared.header.Header.{Header}
use Rattle.coffee_layout.specs.Files.{Placed, extents, files_in, is_file, is_log, logs_in}
use Rattle.coffee_layout.specs.Rules.{broken_files, broken_image, first_failing, first_page, first_repeated, has_fields, is_log_of, names_its_log, names_log}
use Rattle.coffee_layout.specs.Tiling.{at_place, broken_tiling, nowhere, units_of}
use Rattle.coffee_layout.specs.Units.{unit_at}
use Rattle.coffee_layout.specs.declared.unit.BadImage.{BadImage}
use Rattle.coffee_layout.specs.declared.unit.Unit.TheVariants.{Extent}
use Rattle.coffee_layout.proofs.Frames.{unit_at_same}
use Rattle.coffee_merge.specs.Flags.{flagged}
use Rattle.coffee_merge.proofs.SoundUnits.{Among, among_any, any_among, failing_none}
use Rattle.padded.proofs.Facts.{by_truth, false_by, true_eq}
use Rattle.coffee_cuts.specs.Cuts.{IsActiveAt, IsSettled}
use Rattle.coffee_cuts.proofs.MarkedPages.{flagged_ninth, ninth, other_page, stands_at}
use Rattle.coffee_cuts.proofs.Reached.{same_unit}
use Rattle.coffee_cuts.proofs.SettledRules.{KeepsSettled, begins, file_of_units, log_there, placed_at, settled_kept}
use Rattle.coffee_cuts.proofs.TwoMarks.{active_ninth, four, once_marked, turned_begins}
use Rattle.coffee_cuts.proofs.NamedLogs.{among_either, among_front, among_one_more, failing_at, few_enough, filter_in, filter_out, parts}
use Rattle.coffee_cuts.proofs.Replaced.{IsKnown, marked_unbroken}

-- the rule 7 or 9 is broken first, at a page
pub record BreaksLog (page : ℕ) (broken : Option BadImage) : Type 0 where
  pub rule : ℕ
  pub which : (rule ≡ 7) ⊎ (rule ≡ 9)
  pub is : broken ≡ Some (record { rule = rule; place = page })

by_nine : (a b c d e : Option ℕ) (page : ℕ) (rest : Option BadImage) → a ≡ None → b ≡ None → (c ≡ None) ⊎ (c ≡ Some page) → d ≡ None → e ≡ Some page
    → BreaksLog page (option_or (at_place 5 a) (option_or (at_place 6 b) (option_or (at_place 7 c) (option_or (at_place 8 d) (option_or (at_place 9 e) rest)))))
by_nine a b c d e page rest f g (inl h) i j = record { rule = 9; which = inr refl; is = rw (f, g, h, i, j) refl }
by_nine a b c d e page rest f g (inr h) i j = record { rule = 7; which = inl refl; is = rw (f, g, h) refl }

-- where one log more is there, a file that names its log names it still
names_still : (xs ys : List Placed) (l f : Placed) → names_its_log (xs ++ ys) f ≡ true → names_its_log (xs ++ (l ∷ ys)) f ≡ true
names_still xs ys l f named = by_flags (f.header.flags == 3) (f.header.log_page == 0) named
  where
    by_flags : (three none : Bool) → (if three then none else list_any (is_log_of f) (xs ++ ys)) ≡ true → (if three then none else list_any (is_log_of f) (xs ++ (l ∷ ys))) ≡ true
    by_flags true none e = e
    by_flags false none e = let a = any_among (is_log_of f) (xs ++ ys) e in among_any (is_log_of f) a.0 (xs ++ (l ∷ ys)) (among_one_more a.0 l xs ys a.1) a.2

module _ (image : List ℕ) (page sectors : ℕ) (size : length image ≡ 4096 * sectors) (a : IsActiveAt image page 19) (s : IsSettled (flagged image page 4)) where
  abbrev gone : List ℕ
  gone = flagged image page 4

  abbrev old : Header
  old = a.header

  abbrev gone_header : Header
  gone_header = record a.header { flags = ninth (flagged image page 4) page }

  begun_old : begins image page old
  begun_old = (active_ninth image page 19 a).0

  gone_flags : ninth gone page ≡ 23
  gone_flags = let f = active_ninth image page 19 a in flagged_ninth image page 4 f.1 ∙ ap (λ n. bit_or n 4) f.2

  kept_gone : KeepsSettled gone
  kept_gone = let m = once_marked image page 4 four in let long = m.long in settled_kept gone (omega (arith, long, size)) s

  begun_gone : begins gone page gone_header
  begun_gone = turned_begins image gone (once_marked image page 4 four) kept_gone page old begun_old

  known : (p : ℕ) → IsKnown image gone p
  known p = ⊎_elim
      (λ (here : p ≡ page). inr (old, ap (unit_at image) here ∙ (stands_at image page (Extent old) begun_old).1, λ two. let n = a.flags_are in absurd (omega (arith, two, n))))
      (λ (other : p ≢ page). inl (other_page image page 4 p other))
      (cases_eq p page)

  unbroken : broken_tiling nowhere image ≡ None
  unbroken = marked_unbroken image gone (once_marked image page 4 four) kept_gone known

  split : (front : List Placed) × (back : List Placed) × (extents 0 (units_of image) ≡ front ++ (placed_at page old ∷ back)) × (extents 0 (units_of gone) ≡ front ++ (placed_at page gone_header ∷ back))
  split = parts image gone page old gone_header (once_marked image page 4 four).long kept_gone (stands_at image page (Extent old) begun_old).1 begun_gone refl
      (λ q other. sym (unit_at_same image gone q (other_page image page 4 q other)))

  no_file : is_file (placed_at page old) ≡ false
  no_file = ap (λ n. n == 3 || n == 11) a.flags_are

  no_file_gone : is_file (placed_at page gone_header) ≡ false
  no_file_gone = ap (λ n. n == 3 || n == 11) gone_flags

  is_old_log : is_log (placed_at page old) ≡ true
  is_old_log = ap (λ n. n == 19) a.flags_are

  no_log_gone : is_log (placed_at page gone_header) ≡ false
  no_log_gone = ap (λ n. n == 19) gone_flags

  -- no file names the log
  unnamed : (f : Placed) → Among f (files_in (units_of gone)) → names_log page f ≡ true → ⊥
  unnamed f among named =
      let u = file_of_units gone kept_gone f among in
      let l = log_there gone kept_gone f.page page f.header u.0 u.1 (true_eq f.header.log_page (page + 1) named) in
      let nineteen : l.0.flags ≡ 19 = l.2 in
      let same : l.0.flags ≡ ninth gone page = flags_same l.0 (same_unit (Extent l.0) (Extent gone_header) (sym l.1 ∙ begun_gone)) in
      let twenty = gone_flags in
      absurd (omega (arith, nineteen, same, twenty))
    where
      flags_same : (h : Header) → Extent h ≡ Extent gone_header → h.flags ≡ ninth gone page
      flags_same h e = cc

  pub lone_logs_break_rule_7_or_9 : BreaksLog page (broken_image image)
  unfolding broken_image
  lone_logs_break_rule_7_or_9 = let b = on_lists split.0 split.1 split.2 split.3 in record { rule = b.rule; which = b.which; is = ap (λ o. option_or o (broken_files image (units_of image))) unbroken ∙ b.is }
    where
      on_lists : (front back : List Placed) → extents 0 (units_of image) ≡ front ++ (placed_at page old ∷ back) → extents 0 (units_of gone) ≡ front ++ (placed_at page gone_header ∷ back) → BreaksLog page (broken_files image (units_of image))
      on_lists front back is other =
          let e : Placed = placed_at page old in
          let g : Placed = placed_at page gone_header in
          let k = kept_gone in
          let files : files_in (units_of image) ≡ files_in (units_of gone) =
          ap (filter is_file) is ∙ filter_out is_file e front back no_file ∙ sym (ap (filter is_file) other ∙ filter_out is_file g front back no_file_gone) in
          let logs : logs_in (units_of image) ≡ filter is_log front ++ (e ∷ filter is_log back) = ap (filter is_log) is ∙ filter_in is_log e front back is_old_log in
          let logs_gone : logs_in (units_of gone) ≡ filter is_log front ++ filter is_log back = ap (filter is_log) other ∙ filter_out is_log g front back no_log_gone in
          by_nine _ _ _ _ _ page _
          (ap (λ fs. first_page (drop 32 fs)) files ∙ few_enough (files_in (units_of gone)) k.rules.few)
          (ap (first_repeated []) files ∙ k.rules.names)
          (by_truth (has_fields e)
          (λ good. inl (ap (first_failing has_fields) is ∙ failing_none has_fields (front ++ (e ∷ back)) (λ x among. ⊎_elim
          (λ (here : e ≡ x). ap has_fields (sym here) ∙ good)
          (λ (there : Among x (front ++ back)). k.rules.fields x (subst (Among x) (sym other) (among_one_more x g front back there)))
          (among_either x e front back among))))
          (λ bad. inr (ap (first_failing has_fields) is ∙ failing_at has_fields front back e (λ x among. k.rules.fields x (subst (Among x) (sym other) (among_front x front (g ∷ back) among))) bad)))
          (ap (λ ls. first_failing (names_its_log ls) (files_in (units_of image))) logs ∙ failing_none (names_its_log (filter is_log front ++ (e ∷ filter is_log back))) (files_in (units_of image)) (λ f among.
          names_still (filter is_log front) (filter is_log back) e f (ap (λ ls. names_its_log ls f) (sym logs_gone) ∙ k.rules.named f (subst (Among f) files among))))
          (ap (first_failing (λ l. list_any (names_log l.page) (files_in (units_of image)))) logs
          ∙ failing_at (λ l. list_any (names_log l.page) (files_in (units_of image))) (filter is_log front) (filter is_log back) e
          (λ l among. ap (list_any (names_log l.page)) files ∙ k.rules.logs l (subst (Among l) (sym logs_gone) (among_front l (filter is_log front) (filter is_log back) among)))
          (false_by (list_any (names_log page) (files_in (units_of image))) (λ t. let f = any_among (names_log page) (files_in (units_of image)) t in unnamed f.0 (subst (Among f.0) files f.1) f.2)))
