-- An image that is sound but for a torn record has the files that it has where the record is zero (from coffee_mend, one crate lower).
use Rattle.std.proofs.Common.{◌≡◌, ◌≢◌, inl, inr, ⊎_elim, ℕ, ◌+◌, ◌*◌, ◌/◌, ◌%◌, ◌≤◌, ◌<◌, false, List, [], ◌∷◌, length, map, take, get_or, Option, Some, None, refl, ap, sym, subst, ◌∙◌, arith}
use Rattle.std.proofs.lemmas.Bool.{cases_eq, cases_lt}
use Rattle.afl_base.specs.Image.{page_bytes, zeros_at}
use Rattle.afl_base.specs.declared.ids.PageId.{PageId}
use Rattle.afl_base.proofs.Images.{length_zeros_at, range_in_page, range_same, zeros_at_range, zeros_at_before, zeros_at_behind}
use Rattle.coffee_header.specs.declared.header.Header.{Header}
use Rattle.coffee_layout.specs.FileBytes.{extent_place, file_byte, file_bytes, last_in, place_or, record_place, table_of, used_in}
use Rattle.coffee_layout.specs.Files.{NamedFile, Placed, entry_of, files_in, files_of, kind_of, named_file}
use Rattle.coffee_layout.specs.Tiling.{nowhere, units_of, IsTiled}
use Rattle.coffee_layout.specs.Units.{pages_of, unit_at, unit_of, total}
use Rattle.coffee_layout.specs.declared.file.FileAt.{FileAt}
use Rattle.coffee_layout.specs.declared.unit.Unit.TheVariants.{Extent}
use Rattle.coffee_layout.proofs.Frames.{unit_at_same, content_stays}
use Rattle.coffee_layout.proofs.Spelling.{spells_file, spelt_file}
use Rattle.coffee_layout.proofs.Tilings.{units_tiled}
use Rattle.coffee_log.proofs.LastRecords.{last_found}
use Rattle.coffee_merge.specs.Begun.{unit_begun}
use Rattle.coffee_merge.specs.Holding.{Entries, HoldsTable, IsIn, file_header, log_header}
use Rattle.coffee_merge.proofs.Begun.{active_begun, begun_apart, begun_split}
use Rattle.coffee_merge.proofs.Holdings.{file_unit, log_unit, one_header as same_header, holds_pages}
use Rattle.coffee_merge.proofs.SoundEntries.{among_at, entry_at, table_by}
use Rattle.coffee_merge.proofs.SoundLogs.{used_is}
use Rattle.coffee_merge.proofs.SoundRules.{KeepsRules, log_fields, sound_rules}
use Rattle.coffee_merge.proofs.SoundTables.{sound_held}
use Rattle.coffee_merge.proofs.SoundUnits.{Among, begun_extent}
use Rattle.coffee_cuts.proofs.Reached.{IsReached, begun_at, reach}
use Rattle.padded.proofs.Facts.{eq_true}
use Rattle.coffee_merge.proofs.Retired.{file_not_log}
use Rattle.coffee_cuts.specs.Cuts.{IsActiveAt, next_record}
use Rattle.coffee_layout.specs.Rules.{broken_image as broken_whole}

-- an image is sound but for the next record of a log, which begins at a place
pub record IsTornAt (image : List ℕ) (log place : ℕ) : Type 0 where
  pub is_log : IsActiveAt image log 19
  pub free : used_in (table_of image log) < 30
  pub next : place ≡ next_record image log
  pub sound : broken_whole (zeros_at image place 128) ≡ None

module _ (image : List ℕ) (place log : ℕ) (h : Header) (inside : place + 128 ≤ length image) (low : 256 * log + 32 ≤ place) (high : place + 128 ≤ 256 * (log + h.max_pages)) where
  -- all other bytes are the same
  pub others : (k : ℕ) → (place ≤ k → k < place + 128 → ⊥) → get_or image k 0 ≡ get_or (zeros_at image place 128) k 0
  others k out = ⊎_elim
      (λ (l : k < place). sym (zeros_at_before image place 128 k inside l))
      (λ (l : place ≤ k). ⊎_elim
      (λ (m : k < place + 128). absurd (out l m))
      (λ (m : place + 128 ≤ k). sym (zeros_at_behind image place 128 k inside m))
      (cases_lt k (place + 128)))
      (cases_lt k place)

  pub long : length image ≡ length (zeros_at image place 128)
  long = sym (length_zeros_at image place 128 inside)

  module _ (begun : unit_begun (units_of (zeros_at image place 128)) 0 log ≡ Some (Extent h)) where
    -- and so are the units
    pub same_units : IsTiled nowhere (zeros_at image place 128) (units_of (zeros_at image place 128)) → IsTiled nowhere image (units_of (zeros_at image place 128))
    same_units tiled =
        let s = begun_split (units_of (zeros_at image place 128)) log (Extent h) begun in
        let at = s.place in
        subst (IsTiled nowhere image) (sym s.whole)
        (content_stays nowhere (zeros_at image place 128) image s.front s.rest h (subst (IsTiled nowhere (zeros_at image place 128)) s.whole tiled) long
        (λ k out. others k (λ from to. ⊎_elim
        (λ (l : k < 256 * total s.front + 32). omega (arith, l, at, from, low))
        (λ (l : 256 * (total s.front + h.max_pages) ≤ k). omega (arith, l, at, to, high))
        out)))

    module _ (table : Entries) (holds : HoldsTable (zeros_at image place 128) table None) where
      -- an extent that begins at another page has none of the bytes
      pub away : (page : ℕ) (g : Header) → unit_begun (units_of (zeros_at image place 128)) 0 page ≡ Some (Extent g) → page ≢ log
          → (k : ℕ) → 256 * page ≤ k → k < 256 * (page + g.max_pages) → place ≤ k → k < place + 128 → ⊥
      away page g there apart k from to inside_from inside_to =
          begun_apart (units_of (zeros_at image place 128)) page log (Extent g) (Extent h) (holds_pages (zeros_at image place 128) table None holds) there begun apart (k / 256)
          (omega (arith, from)) (omega (arith, to)) (omega (arith, inside_from, low)) (omega (arith, inside_to, high))

map_among : {A : Type 0} (f g : Placed → A) (xs : List Placed) → ((x : Placed) → Among x xs → f x ≡ g x) → map f xs ≡ map g xs
map_among f g [] same = refl
map_among f g (x ∷ xs) same = ap (λ a. a ∷ map f xs) (same x (inl refl)) ∙ ap (λ ys. g x ∷ ys) (map_among f g xs (λ y there. same y (inr there)))

module _ (old : List ℕ) (log place : ℕ) (whole : 256 * pages_of old ≡ length old) (inside : place + 128 ≤ length old) (t : IsTornAt old log place) where
  pub size : length (zeros_at old place 128) ≡ length old
  size = length_zeros_at old place 128 inside

  pub record_at : place ≡ 256 * log + 96 + 128 * used_in (table_of old log)
  record_at = t.next

  pub low : 256 * log + 32 ≤ place
  low = omega (arith, record_at)

  pub whole_blank : 256 * pages_of (zeros_at old place 128) ≡ length (zeros_at old place 128)
  whole_blank = ap (λ m. 256 * (m / 256)) size ∙ whole ∙ sym size

  pub rules : KeepsRules (zeros_at old place 128) (units_of (zeros_at old place 128))
  rules = (sound_rules (zeros_at old place 128) whole_blank t.sound).0

  begun_old : unit_begun (units_of old) 0 log ≡ Some (Extent t.is_log.header)
  begun_old = (active_begun (units_of old) log t.is_log.header t.is_log.there).0

  stands : (0 ≤ log) × (log < pages_of old) × (unit_at old log ≡ Some (Extent t.is_log.header))
  unfolding units_of
  stands = begun_at (pages_of old) old 0 log (Extent t.is_log.header) begun_old

  heads : (p : ℕ) → p < log → unit_at old p ≡ unit_at (zeros_at old place 128) p
  heads p less = sym (unit_at_same old (zeros_at old place 128) p (zeros_at_range old place 128 (256 * p) (256 * p + 256) inside (inl (omega (arith, less, low)))))

  head : unit_at old log ≡ unit_at (zeros_at old place 128) log
  head =
      let before = stands.1 in
      let first : take 32 (page_bytes old log) ≡ take 32 (page_bytes (zeros_at old place 128) log) =
      sym (range_in_page old log 0 32 (omega arith) (omega arith) (omega (arith, before, whole)))
      ∙ sym (zeros_at_range old place 128 (256 * log + 0) (256 * log + 32) inside (inl (omega (arith, low))))
      ∙ range_in_page (zeros_at old place 128) log 0 32 (omega arith) (omega arith) (omega (arith, before, whole, size)) in
      ap unit_of first

  reached : IsReached (zeros_at old place 128) (units_of (zeros_at old place 128)) 0 log
  unfolding units_of
  reached =
      let before = stands.1 in
      let all = rules.tiled.whole in
      reach (zeros_at old place 128) old (units_of (zeros_at old place 128)) (pages_of old) 0 log false (Extent t.is_log.header) (ap (λ n. n / 256) (sym size)) heads rules.tiled.keep
      (omega (arith, all, whole_blank)) (omega (arith, before, size)) (omega arith) begun_old

  -- the log begins there
  pub begun : unit_begun (units_of (zeros_at old place 128)) 0 log ≡ Some (Extent t.is_log.header)
  begun = reached.begun ∙ sym reached.there ∙ sym head ∙ stands.2

  sixteen : t.is_log.header.max_pages ≡ 16
  sixteen =
      let e : Placed = record { page = log; header = t.is_log.header } in
      ap (λ (g : Header). g.max_pages)
      (log_fields e (rules.fields e (begun_extent (units_of (zeros_at old place 128)) 0 log t.is_log.header begun)) (eq_true t.is_log.header.flags 19 t.is_log.flags_are))

  pub high : place + 128 ≤ 256 * (log + t.is_log.header.max_pages)
  high = let free = t.free in omega (arith, sixteen, record_at, free)

  -- the units are the same
  pub units : units_of old ≡ units_of (zeros_at old place 128)
  units = units_tiled nowhere old (units_of (zeros_at old place 128)) (same_units old place log t.is_log.header inside low high begun rules.tiled)

  pub rest : (k : ℕ) → (place ≤ k → k < place + 128 → ⊥) → get_or old k 0 ≡ get_or (zeros_at old place 128) k 0
  rest k out = others old place log t.is_log.header inside low high k out

  -- ---- one file

  module _ (table : Entries) (holds : HoldsTable (zeros_at old place 128) table None) (i : ℕ) (e : FileAt) (is : IsIn table i e) where
    in_extent : (k : ℕ) → 256 * e.page.0 ≤ k → k < 256 * (e.page.0 + e.pages) → get_or old k 0 ≡ get_or (zeros_at old place 128) k 0
    in_extent k from to =
        let there = file_unit (zeros_at old place 128) table None i e holds is in
        rest k (away old place log t.is_log.header inside low high begun table holds e.page.0 (file_header e) there
        (λ same. let one = same_header (file_header e) t.is_log.header (sym there ∙ ap (unit_begun (units_of (zeros_at old place 128)) 0) same ∙ begun) in
        file_not_log e.log (ap (λ (g : Header). g.flags) one ∙ t.is_log.flags_are)) k from to)

    -- a byte of a log, if it is none of the record
    in_log : (l : PageId) → e.log ≡ Some l → (k : ℕ) → 256 * l.0 ≤ k → k < 256 * (l.0 + 16) → (l.0 ≡ log → place ≤ k → k < place + 128 → ⊥) → get_or old k 0 ≡ get_or (zeros_at old place 128) k 0
    in_log l logged k from to none = rest k (⊎_elim
        (λ (same : l.0 ≡ log). none same)
        (λ (other : l.0 ≢ log).
        away old place log t.is_log.header inside low high begun table holds l.0 (log_header e.name) (log_unit (zeros_at old place 128) table None i e l holds is logged) other k from to)
        (cases_eq l.0 log))

    log_table : (l : PageId) → e.log ≡ Some l → table_of old l.0 ≡ table_of (zeros_at old place 128) l.0
    log_table l logged = range_same old (zeros_at old place 128) (256 * l.0 + 32) (256 * l.0 + 92) (sym size)
        (λ k from to. in_log l logged k (omega (arith, from)) (omega (arith, to)) (λ same a b. omega (arith, same, a, to, record_at)))

    -- a record that is a region's is in use
    in_use : (l : PageId) → e.log ≡ Some l → (p j : ℕ) → last_in (table_of (zeros_at old place 128) l.0) (p / 128) 30 ≡ Some j → j < used_in (table_of (zeros_at old place 128) l.0)
    in_use l logged p j found =
        let f = last_found (table_of (zeros_at old place 128) l.0) (p / 128) 30 j found in
        let few = f.0 in
        let number = f.1 in
        let stored = (holds.stored i e is).file.logged l logged in
        let used = used_is (zeros_at old place 128) l.0 e.used stored in
        ⊎_elim
        (λ (low : j < e.used). omega (arith, low, used))
        (λ (free : e.used ≤ j). let none = stored.free_are j free few in absurd (omega (arith, none, number)))
        (cases_lt j e.used)

    by_record : (l : PageId) → e.log ≡ Some l → (p : ℕ) → p + 32 < 256 * e.pages → (o : Option ℕ) → last_in (table_of (zeros_at old place 128) l.0) (p / 128) 30 ≡ o
        → get_or old (place_or (extent_place e.page.0 (128 * (p / 128))) l.0 o + p % 128) 0 ≡ get_or (zeros_at old place 128) (place_or (extent_place e.page.0 (128 * (p / 128))) l.0 o + p % 128) 0
    by_record l logged p within None found = in_extent (extent_place e.page.0 (128 * (p / 128)) + p % 128) (omega arith) (omega (arith, within))
    by_record l logged p within (Some j) found =
        let few = (last_found (table_of (zeros_at old place 128) l.0) (p / 128) 30 j found).0 in
        let used = in_use l logged p j found in
        in_log l logged (record_place l.0 j + p % 128) (omega arith) (omega (arith, few))
        (λ same a b.
        let one : used_in (table_of (zeros_at old place 128) l.0) ≡ used_in (table_of old log) = ap used_in (sym (log_table l logged)) ∙ ap (λ q. used_in (table_of old q)) same in
        omega (arith, one, used, same, a, record_at))

    by_log : (o : Option PageId) → e.log ≡ o → (p : ℕ) → p + 32 < 256 * e.pages → file_byte old e.page.0 o p ≡ file_byte (zeros_at old place 128) e.page.0 o p
    by_log None logged p within = in_extent (extent_place e.page.0 (128 * (p / 128)) + p % 128) (omega arith) (omega (arith, within))
    by_log (Some l) logged p within =
        ap (λ xs. get_or old (place_or (extent_place e.page.0 (128 * (p / 128))) l.0 (last_in xs (p / 128) 30) + p % 128) 0) (log_table l logged)
        ∙ by_record l logged p within (last_in (table_of (zeros_at old place 128) l.0) (p / 128) 30) refl

    pub torn_bytes : file_bytes old e.page.0 e.pages e.log ≡ file_bytes (zeros_at old place 128) e.page.0 e.pages e.log
    torn_bytes =
        let s = spells_file (zeros_at old place 128) e.page.0 e.pages e.log in
        spelt_file old e.page.0 e.pages e.log (file_bytes (zeros_at old place 128) e.page.0 e.pages e.log)
        (record {
          short = s.short;
          here = λ p less. let short = s.short in by_log e.log refl p (omega (arith, less, short)) ∙ s.here p less;
          after = λ p from to. by_log e.log refl p (omega (arith, to)) ∙ s.after p from to;
          last = s.last;
        })

  -- ---- all files

  pub table : Entries
  table = table_by (entry_of (zeros_at old place 128)) (files_in (units_of (zeros_at old place 128))) 0

  named : (f : Placed) → Among f (files_in (units_of (zeros_at old place 128))) → named_file old f ≡ named_file (zeros_at old place 128) f
  named f there =
      let at = among_at (files_in (units_of (zeros_at old place 128))) f there in
      let holds = sound_held (zeros_at old place 128) 0 t.sound whole_blank in
      let file : List ℕ → NamedFile = λ bytes. record { name = f.header.name; kind = kind_of f.header; bytes = bytes } in
      ap file (torn_bytes (table_by (entry_of (zeros_at old place 128)) (files_in (units_of (zeros_at old place 128))) 0) holds at.0 (entry_of (zeros_at old place 128) f)
      (entry_at (entry_of (zeros_at old place 128)) (files_in (units_of (zeros_at old place 128))) 0 at.0 f at.1))

  -- the image has the files that it has where the record is zero
  pub torn_files : files_of old ≡ files_of (zeros_at old place 128)
  torn_files =
      ap (λ us. map (named_file old) (files_in us)) units
      ∙ map_among (named_file old) (named_file (zeros_at old place 128)) (files_in (units_of (zeros_at old place 128))) named
