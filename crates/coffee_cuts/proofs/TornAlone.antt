-- A torn record that is not the last of its log stands before zeros: so it may be superseded, where the file has a first region.
use Rattle.std.proofs.Common.{◌≡◌, inl, inr, ℕ, ◌+◌, ◌*◌, ◌/◌, ◌<◌, ◌≤◌, List, [], ◌∷◌, length, map, suc, get_or, Some, None, refl, ap, sym, subst, ◌∙◌, arith}
use Rattle.std.specs.List.{Contains}
use Rattle.afl_base.specs.Image.{zeros_at}
use Rattle.afl_base.specs.declared.ids.PageId.{PageId}
use Rattle.afl_base.proofs.Images.{length_zeros_at, range_same}
use Rattle.coffee_layout.specs.FileBytes.{number_in, record_place, table_of, used_in}
use Rattle.coffee_layout.specs.Files.{Placed, entry_of, extents, files_in, is_log, listed}
use Rattle.coffee_layout.specs.Rules.{broken_image}
use Rattle.coffee_layout.specs.Tiling.{units_of}
use Rattle.coffee_layout.specs.Units.{pages_of}
use Rattle.coffee_layout.specs.declared.file.FileAt.{FileAt}
use Rattle.coffee_log.specs.Logs.{IsLog}
use Rattle.coffee_log.proofs.RecordLaws.{number_image}
use Rattle.coffee_merge.specs.Holding.{Entries, HoldsTable}
use Rattle.coffee_merge.proofs.MovedFiles.{held_listed}
use Rattle.coffee_merge.proofs.SoundEntries.{table_by}
use Rattle.coffee_merge.proofs.SoundHolders.{entry_among, entry_is, log_holder, placed}
use Rattle.coffee_merge.proofs.SoundLogs.{used_is}
use Rattle.coffee_merge.proofs.SoundTables.{sound_held}
use Rattle.coffee_merge.proofs.SoundUnits.{Among, among_filter, begun_extent}
use Rattle.flash_range.specs.Range.{Outside}
use Rattle.padded.proofs.Facts.{eq_true}
use Rattle.coffee_cuts.specs.Cuts.{HasTornRecord, IsSuperseding, next_record, without_two}
use Rattle.coffee_cuts.proofs.SettledRules.{fits}
use Rattle.coffee_cuts.proofs.Superseding.{one_is_two, zeros_beside}
use Rattle.coffee_cuts.proofs.TornLogs.{IsTornAt, begun}

pub contains_made : (make : Placed → FileAt) (fs : List Placed) (f : Placed) → Among f fs → Contains (map make fs) (make f)
contains_made make [] f there = absurd there
contains_made make (x ∷ xs) f (inl same) = (0, omega arith, ap make same)
contains_made make (x ∷ xs) f (inr there) = let r = contains_made make xs f there in (suc r.0, omega (arith, r.1), r.2)

module _ (image : List ℕ) (whole : 256 * pages_of image ≡ length image) (t : HasTornRecord image) (low : used_in (table_of image t.log) < 29) where
  abbrev used : ℕ
  used = used_in (table_of image t.log)

  abbrev place : ℕ
  place = record_place t.log used

  abbrev zeroed : List ℕ
  zeroed = zeros_at image (next_record image t.log) 128

  inside : next_record image t.log + 128 ≤ length image
  inside = fits image whole t

  long : length zeroed ≡ length image
  long = length_zeros_at image (next_record image t.log) 128 inside

  whole_zeroed : 256 * pages_of zeroed ≡ length zeroed
  whole_zeroed = ap (λ m. 256 * (m / 256)) long ∙ whole ∙ sym long

  at : IsTornAt image t.log (next_record image t.log)
  at = record { is_log = t.is_log; free = t.free; next = refl; sound = t.sound }

  abbrev table : Entries
  table = table_by (entry_of zeroed) (files_in (units_of zeroed)) 0

  holds : HoldsTable zeroed table None
  holds = sound_held zeroed 0 t.sound whole_zeroed

  beside : (k : ℕ) → Outside (next_record image t.log) 128 k → get_or zeroed k 0 ≡ get_or image k 0
  beside k out = zeros_beside image (next_record image t.log) 128 k inside out

  -- the log, where the record is zero
  abbrev the_log : Placed
  the_log = record { page = t.log; header = t.is_log.header }

  numbers_same : (j : ℕ) → j < 30 → number_in (table_of zeroed t.log) j ≡ number_in (table_of image t.log) j
  numbers_same j few =
      let a = number_image zeroed t.log j few in
      let b = number_image image t.log j few in
      let first = beside (256 * t.log + 32 + 2 * j) (λ x y. omega (arith, x, few)) in
      let second = beside (256 * t.log + 32 + 2 * j + 1) (λ x y. omega (arith, x, few)) in
      omega (arith, a, b, first, second)

  found : (n : ℕ) × IsLog zeroed t.log n × (256 * t.log + 4096 ≤ length zeroed)
  unfolding at
  found =
      let by = log_holder zeroed table the_log holds
      (among_filter is_log the_log (extents 0 (units_of zeroed)) (begun_extent (units_of zeroed) 0 t.log t.is_log.header (begun image t.log (next_record image t.log) whole inside at)) (eq_true t.is_log.header.flags 19 t.is_log.flags_are)) in
      let page : t.log ≡ by.log.0 = ap (λ (e : Placed). e.page) by.is in
      let stored = holds.stored by.place by.entry by.is_in in
      let fit = stored.fits.log by.log by.logged in
      let w = whole_zeroed in
      (by.entry.used, subst (λ l. IsLog zeroed l by.entry.used) (sym page) (stored.file.logged by.log by.logged), omega (arith, fit, page, w))

  pub log_inside : 256 * t.log + 4096 ≤ length image
  log_inside = let f = found.2 in let l = long in omega (arith, f, l)

  -- the file of the log
  pub owner : (file : FileAt) × Contains (listed zeroed) file × (file.log ≡ Some (record { 0 = t.log }))
  unfolding at
  owner =
      let by = log_holder zeroed table the_log holds
      (among_filter is_log the_log (extents 0 (units_of zeroed)) (begun_extent (units_of zeroed) 0 t.log t.is_log.header (begun image t.log (next_record image t.log) whole inside at)) (eq_true t.is_log.header.flags 19 t.is_log.flags_are)) in
      let page : by.log.0 ≡ t.log = sym (ap (λ (e : Placed). e.page) by.is) in (
        by.entry,
        subst (Contains (listed zeroed)) (entry_is zeroed by.entry (holds.stored by.place by.entry by.is_in))
            (contains_made (entry_of zeroed) (files_in (units_of zeroed)) (placed by.entry) (entry_among zeroed table by.place by.entry holds by.is_in)),
        by.logged ∙ ap (λ n. Some (record { 0 = n })) page,
      )

  same_used : found.0 ≡ used
  same_used = sym (used_is zeroed t.log found.0 found.1) ∙ ap used_in (table_same)
    where
      table_same : table_of zeroed t.log ≡ table_of image t.log
      table_same = range_same zeroed image (256 * t.log + 32) (256 * t.log + 92) long (λ k a b. beside k (λ x y. omega (arith, x, b)))

  clear : (k : ℕ) → place ≤ k → k < 256 * t.log + 4096 → get_or zeroed k 0 ≡ 0
  clear k from to = let u = same_used in found.1.clear k (omega (arith, from, u)) to

  none : (i : ℕ) → used ≤ i → i < 30 → number_in (table_of zeroed t.log) i ≡ 0
  none i from to = let u = same_used in found.1.free_are i (omega (arith, from, u)) to

  -- the record behind it is zero, and has no number
  pub behind_zero : (k : ℕ) → k < 128 → get_or image (record_place t.log (used + 1) + k) 0 ≡ 0
  behind_zero k few =
      let l = low in
      sym (beside (record_place t.log (used + 1) + k) (λ x y. omega (arith, y))) ∙ clear (record_place t.log (used + 1) + k) (omega arith) (omega (arith, few, l))

  pub behind_none : number_in (table_of image t.log) (used + 1) ≡ 0
  behind_none = let l = low in sym (numbers_same (used + 1) (omega (arith, l))) ∙ none (used + 1) (omega arith) (omega (arith, l))

  -- so both may be taken away
  two_zeroed : without_two image t.log used ≡ zeroed
  two_zeroed = sym (one_is_two image t.log used low log_inside behind_zero behind_none)

  -- and the record may be superseded
  pub torn_supersedes : (file : FileAt) (log : PageId) → log.0 ≡ t.log → file.log ≡ Some log → Contains (listed zeroed) file → (s : IsSuperseding image) × (s.log ≡ log)
  torn_supersedes file log page logged there =
      let at_table = held_listed zeroed table file holds there in
      let is : file.used ≡ used =
      sym (used_is zeroed log.0 file.used ((holds.stored at_table.0 file at_table.1).file.logged log logged)) ∙ ap (λ l. used_in (table_of zeroed l)) page ∙ used_is zeroed t.log found.0 found.1 ∙ same_used in
      let base : without_two image log.0 file.used ≡ zeroed = ap (λ l. without_two image l file.used) page ∙ ap (without_two image t.log) is ∙ two_zeroed in
      let l = low in
      let i = log_inside in (
        record {
          file = file;
          log = log;
          logged = logged;
          free = omega (arith, is, l);
          inside = omega (arith, i, page);
          sound = ap broken_image base ∙ t.sound;
          there = subst (λ x. Contains (listed x) file) (sym base) there;
          done = 0;
          within = omega arith;
          number = inl (ap (λ p. number_in (table_of image p) (file.used + 1)) page ∙ ap (λ u. number_in (table_of image t.log) (u + 1)) is ∙ behind_none);
          front = λ k low. absurd (omega (arith, low));
          rest = λ k from few. ap (λ p. get_or image (record_place p (file.used + 1) + k) 0) page ∙ ap (λ u. get_or image (record_place t.log (u + 1) + k) 0) is ∙ behind_zero k few;
        },
        refl,
      )
