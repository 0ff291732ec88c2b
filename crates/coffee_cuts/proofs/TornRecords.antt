-- An append or an overwrite that broke off: a front part of its bytes is in the file, and a record may be torn.
use Rattle.std.proofs.Common.{◌≡◌, ◌≢◌, inl, inr, ⊎_elim, ℕ, ◌+◌, ◌-◌, ◌*◌, ◌/◌, ◌%◌, ◌<◌, ◌≤◌, List, [], ◌∷◌, length, map, take, get_or, Option, Some, None, refl, ap, sym, subst, ◌∙◌, arith, length-set}
use Rattle.std.specs.Prelude.{set, slice_index}
use Rattle.std.specs.List.{Contains}
use Rattle.std.proofs.lemmas.Bool.{cases_lt}
use Rattle.std.proofs.lemmas.List.{get_or-take, length-take-le}
use Rattle.afl_base.specs.Image.{zeros_at}
use Rattle.afl_base.specs.declared.ids.PageId.{PageId}
use Rattle.afl_base.proofs.Images.{length_zeros_at, range_same, zeros_at_before, zeros_at_behind, zeros_at_inside}
use Rattle.coffee_layout.specs.FileBytes.{ListsValues, extent_place, file_byte, file_bytes, last_in, place_or, record_place, table_of, used_in}
use Rattle.coffee_layout.specs.Files.{NamedFile, Placed, files_in, files_of, kind_of, named_file}
use Rattle.coffee_layout.specs.Rules.{broken_image}
use Rattle.coffee_layout.specs.Tiling.{nowhere, units_of}
use Rattle.coffee_layout.specs.declared.file.FileAt.{FileAt}
use Rattle.coffee_layout.proofs.Frames.{KeepsFile, kept_bytes}
use Rattle.coffee_layout.proofs.Spelling.{spells_file}
use Rattle.coffee_layout.proofs.Tilings.{units_tiled}
use Rattle.coffee_log.specs.FileChanges.{FileBecomes, OutsideFile, Puts}
use Rattle.coffee_log.specs.FileCuts.{IsFileCut}
use Rattle.coffee_log.specs.Logs.{IsLog, OutsideNext}
use Rattle.coffee_log.proofs.LastRecords.{last_found}
use Rattle.coffee_merge.specs.Begun.{active_at}
use Rattle.coffee_merge.specs.Holding.{Entries, HoldsTable, IsIn, file_header, log_header}
use Rattle.coffee_merge.specs.TableFiles.{file_of}
use Rattle.coffee_merge.proofs.Contents.{SetsBytes, changed_tiled, holds_written_with}
use Rattle.coffee_merge.proofs.Holdings.{entries_apart, is_in_set, is_in_there}
use Rattle.coffee_merge.proofs.SoundFiles.{entry_file, file_entry}
use Rattle.coffee_merge.proofs.SoundHolders.{file_holder, log_is}
use Rattle.coffee_merge.proofs.SoundImages.{held_sound}
use Rattle.coffee_merge.proofs.SoundLogs.{used_is}
use Rattle.coffee_merge.proofs.SoundUnits.{Among}
use Rattle.flash_range.specs.Range.{Outside}
use Rattle.padded.proofs.Facts.{none_some, some_same}
use Rattle.coffee_cuts.specs.Cuts.{HasTornRecord, IsSettled}
use Rattle.coffee_cuts.specs.Mending.{IsTable}
use Rattle.coffee_cuts.proofs.AlikeFiles.{AreAlike, alike_byte, alike_file, alike_number, bytes_alike, few_more, used_file, used_now}
use Rattle.coffee_cuts.proofs.Mended.{file_stays, named, sparing_set}

-- a byte that is put on the last place of a file is not zero
abbrev pub EndsSome : (size at : ℕ) → List ℕ → Type 0
EndsSome size at bytes = (k : ℕ) → k < length bytes → at + k + 1 ≡ size → slice_index bytes k ≢ 0

-- an image is settled, and has just the files of a table, of which one has some bytes put into it from a place on
pub record SettlesPut (whole new : List ℕ) (table : Entries) (i : ℕ) (e : FileAt) (at : ℕ) (bytes : List ℕ) : Type 0 where
  pub size : ℕ
  pub used : ℕ
  pub settles : IsSettled new
  pub each : (k : ℕ) (f : FileAt) → IsIn (set table i (Some (record e { size = size; used = used }))) k f → Contains (files_of new) (file_of new f)
  pub only : (f : NamedFile) → Contains (files_of new) f → (k : ℕ) × (g : FileAt) × IsIn (set table i (Some (record e { size = size; used = used }))) k g × (f ≡ file_of new g)
  pub put : Puts (file_byte whole e.page.0 e.log) (file_byte new e.page.0 e.log) (256 * e.pages - 32) at bytes
  pub others : (k : ℕ) (f : FileAt) → k ≢ i → IsIn table k f → file_of new f ≡ file_of whole f

pub map_among : (f g : Placed → NamedFile) (es : List Placed) → ((e : Placed) → Among e es → f e ≡ g e) → map f es ≡ map g es
map_among f g [] same = refl
map_among f g (e ∷ es) same = ap (λ x. x ∷ map f es) (same e (inl refl)) ∙ ap (λ xs. g e ∷ xs) (map_among f g es (λ x a. same x (inr a)))

module _ (whole new : List ℕ) (table : Entries) (i : ℕ) (e : FileAt) (at : ℕ) (bytes : List ℕ) (t : IsTable whole table None) (is : IsIn table i e) (long : length new ≡ length whole)
    (c : IsFileCut whole new e.page.0 e.pages e.log e.size at bytes) (ends : EndsSome e.size at bytes)
    (room : at + length bytes + 32 ≤ 256 * e.pages) where
  abbrev part : List ℕ
  part = take c.done bytes

  part_long : length part ≡ c.done
  part_long = length-take-le c.done bytes c.within

  -- THE IMAGE WITHOUT THE TORN RECORD

  module _ (clear : List ℕ) (same : AreAlike clear c.put) (clear_long : length clear ≡ length whole) where
    bytes_in : ListsValues (file_byte clear e.page.0 e.log) (256 * e.pages - 32) (file_bytes clear e.page.0 e.pages e.log)
    bytes_in = spells_file clear e.page.0 e.pages e.log

    abbrev size : ℕ
    size = length (file_bytes clear e.page.0 e.pages e.log)

    put : Puts (file_byte whole e.page.0 e.log) (file_byte clear e.page.0 e.log) (256 * e.pages - 32) at part
    put = record {
      here = λ k low. alike_byte clear c.put e.page.0 e.log (at + k) same ∙ c.becomes.put.here k low;
      others = λ p low out. alike_byte clear c.put e.page.0 e.log p same ∙ c.becomes.put.others p low out;
    }

    outside : (k : ℕ) → OutsideFile e.page.0 e.pages e.log k → get_or clear k 0 ≡ get_or whole k 0
    outside k out = same k ∙ c.becomes.others k out

    -- the last byte that the file had is not zero now
    still_some : 1 ≤ e.size → file_byte clear e.page.0 e.log (e.size - 1) ≢ 0
    still_some some none =
        let stored = t.holds.stored i e is in
        let room = stored.fits.size in
        let p = part_long in
        let w = c.within in
        ⊎_elim
        (λ (before : e.size - 1 < at). stored.last some (sym (put.others (e.size - 1) (omega (arith, some, room)) (λ a b. omega (arith, a, before))) ∙ none))
        (λ (from : at ≤ e.size - 1). ⊎_elim
        (λ (there : e.size - 1 - at < c.done).
        let back : at + (e.size - 1 - at) ≡ e.size - 1 = omega (arith, from) in
        ends (e.size - 1 - at) (omega (arith, there, w)) (omega (arith, from, some))
        (sym (get_or-take c.done bytes (e.size - 1 - at) 0 there) ∙ sym (put.here (e.size - 1 - at) (omega (arith, there, p))) ∙ ap (file_byte clear e.page.0 e.log) back ∙ none))
        (λ (behind : c.done ≤ e.size - 1 - at). stored.last some (sym (put.others (e.size - 1) (omega (arith, some, room)) (λ a b. omega (arith, b, behind, p, from))) ∙ none))
        (cases_lt (e.size - 1 - at) c.done))
        (cases_lt (e.size - 1) at)

    no_less : e.size ≤ size
    no_less = ⊎_elim
        (λ (less : size < e.size).
        let room = (t.holds.stored i e is).fits.size in
        absurd (still_some (omega (arith, less)) (bytes_in.after (e.size - 1) (omega (arith, less)) (omega (arith, less, room)))))
        (λ (good : e.size ≤ size). good)
        (cases_lt size e.size)

    room_left : size + 32 ≤ 256 * e.pages
    room_left = let short = bytes_in.short in let some = (t.holds.stored i e is).fits.some in omega (arith, short, some)

    abbrev used : ℕ
    used = used_now e.log c.records

    abbrev now : FileAt
    now = record e { size = size; used = used }

    abbrev after : Entries
    after = set table i (Some now)

    becomes : FileBecomes whole clear e.page.0 e.pages e.log used size at part
    becomes =
        let kept = alike_file clear c.put e.page.0 e.pages e.log c.records _ same c.becomes.kept in
        let larger = no_less in
        record {
          kept = used_file clear e.page.0 e.pages e.log c.records size (record {
            apart = kept.apart;
            logged = kept.logged;
            below = λ l named j low.
                let few = (kept.logged l named).few in
                let n = alike_number clear c.put l.0 j same (omega (arith, low, few)) in
                let b = c.below l named j low in
                subst (λ n. 128 * (n - 1) < size) (sym n) (omega (arith, b, larger));
            zeros = bytes_in.after;
          });
          put = put;
          others = outside;
        }

    sets : SetsBytes whole clear table None i now
    sets = holds_written_with whole clear table None i e used size at part t.holds is clear_long becomes room_left (λ none. ap (λ log. used_now log c.records) none)
        (λ some. subst (λ n. n ≢ 0) (sym (bytes_in.here (size - 1) (omega (arith, some)))) (bytes_in.last some))

    clear_sound : broken_image clear ≡ None
    clear_sound =
        let count = t.few in
        let more = length-set table i (Some now) in
        held_sound clear after sets.holds (omega (arith, count, more)) (sparing_set table i now t.sparing (few_more e.kind e.pages e.size size no_less (t.sparing i e is)))

    -- each other file is as it was
    clear_others : (k : ℕ) (f : FileAt) → k ≢ i → IsIn table k f → file_of clear f ≡ file_of whole f
    clear_others k f other there = file_stays whole clear f (t.holds.stored k f there) (sets.holds.stored k f (is_in_there table i (Some now) k f other there)) (sets.others k f other there)

    -- no record is torn
    whole_put : new ≡ clear → SettlesPut whole new table i e at part
    whole_put none = subst (λ image. SettlesPut whole image table i e at part) (sym none) (record {
      size = size;
      used = used;
      settles = inl clear_sound;
      each = λ k f there. entry_file clear after k f sets.holds there;
      only = λ f has. file_entry clear after f sets.holds has;
      put = put;
      others = clear_others;
    })

  -- A TORN RECORD

  module _ (l : PageId) (log : e.log ≡ Some l) (few : c.records < 30) where
    abbrev place : ℕ
    place = record_place l.0 c.records

    abbrev zeroed : List ℕ
    zeroed = zeros_at new place 128

    inside : 256 * l.0 + 4096 ≤ length whole
    inside = let fits = (t.holds.stored i e is).fits.log l log in let w = t.holds.whole in omega (arith, fits, w)

    fits : place + 128 ≤ length new
    fits = let i = inside in omega (arith, i, long, few)

    zeroed_long : length zeroed ≡ length whole
    zeroed_long = length_zeros_at new place 128 fits ∙ long

    the_log : (m : PageId) → e.log ≡ Some m → m.0 ≡ l.0
    the_log m named = ap (λ (p : PageId). p.0) (some_same m l (sym named ∙ log))

    -- all bytes but those of the record
    others : (k : ℕ) → Outside place 128 k → get_or new k 0 ≡ get_or zeroed k 0
    others k out = ⊎_elim
        (λ (before : k < place). sym (zeros_at_before new place 128 k fits before))
        (λ (from : place ≤ k). ⊎_elim
        (λ (there : k < place + 128). absurd (out from there))
        (λ (behind : place + 128 ≤ k). sym (zeros_at_behind new place 128 k fits behind))
        (cases_lt k (place + 128)))
        (cases_lt k place)

    alike : AreAlike zeroed c.put
    alike k = ⊎_elim
        (λ (before : k < place). zeros_at_before new place 128 k fits before ∙ c.torn k (λ m named less a b. let e = the_log m named in absurd (omega (arith, a, e, before))))
        (λ (from : place ≤ k). ⊎_elim
        (λ (there : k < place + 128). zeros_at_inside new place 128 k fits from there ∙ sym ((c.becomes.kept.logged l log).clear k from (omega (arith, there, few))))
        (λ (behind : place + 128 ≤ k). zeros_at_behind new place 128 k fits behind ∙ c.torn k (λ m named less a b. let e = the_log m named in absurd (omega (arith, b, e, behind))))
        (cases_lt k (place + 128)))
        (cases_lt k place)

    abbrev last : FileAt
    last = now zeroed alike zeroed_long

    abbrev all : Entries
    all = after zeroed alike zeroed_long

    holds : HoldsTable zeroed all None
    holds = (sets zeroed alike zeroed_long).holds

    logged : IsLog zeroed l.0 c.records
    logged = (alike_file zeroed c.put e.page.0 e.pages e.log c.records _ alike c.becomes.kept).logged l log

    -- the table of the log does not show it
    table_same : table_of new l.0 ≡ table_of zeroed l.0
    table_same = range_same new zeroed (256 * l.0 + 32) (256 * l.0 + 92) (long ∙ sym zeroed_long) (λ k a b. others k (λ x y. omega (arith, b, x)))

    units_same : units_of new ≡ units_of whole
    units_same = units_tiled nowhere new (units_of whole) (changed_tiled whole new table None i e t.holds is long
        (λ k out. others k (λ a b. out.logged l log (omega (arith, a)) (omega (arith, b, few))) ∙ outside zeroed alike zeroed_long k out))

    zeroed_units : units_of zeroed ≡ units_of whole
    zeroed_units = (sets zeroed alike zeroed_long).units

    -- no byte of the file stands in it
    not_there : (p : ℕ) (o : Option ℕ) → p + 32 < 256 * e.pages → last_in (table_of zeroed l.0) (p / 128) 30 ≡ o
        → get_or new (place_or (extent_place e.page.0 (128 * (p / 128))) l.0 o + p % 128) 0 ≡ get_or zeroed (place_or (extent_place e.page.0 (128 * (p / 128))) l.0 o + p % 128) 0
    not_there p None within found = others (extent_place e.page.0 (128 * (p / 128)) + p % 128) (λ a b.
        (t.holds.stored i e is).file.apart l log ((extent_place e.page.0 (128 * (p / 128)) + p % 128) / 256) (omega arith) (omega (arith, within)) (omega (arith, a)) (omega (arith, b, few)))
    not_there p (Some j) within found = others (record_place l.0 j + p % 128) (λ a b.
        let f = last_found (table_of zeroed l.0) (p / 128) 30 j found in
        let low = f.0 in
        let here : j ≡ c.records = omega (arith, a, b) in
        let number = f.1 in
        let none = logged.free_are j (omega (arith, here)) low in
        absurd (omega (arith, number, none)))

    same_byte : (p : ℕ) → p + 32 < 256 * e.pages → file_byte new e.page.0 e.log p ≡ file_byte zeroed e.page.0 e.log p
    same_byte p within =
        subst (λ o. file_byte new e.page.0 o p ≡ file_byte zeroed e.page.0 o p) (sym log)
        (ap (λ t. get_or new (place_or (extent_place e.page.0 (128 * (p / 128))) l.0 (last_in t (p / 128) 30) + p % 128) 0) table_same
        ∙ not_there p (last_in (table_of zeroed l.0) (p / 128) 30) within refl)

    -- nor one of another file
    other_file : (k : ℕ) (f : FileAt) → k ≢ i → IsIn table k f → KeepsFile zeroed new f.page.0 f.pages f.log
    other_file k f other there =
        let apart = entries_apart whole table None i k e f t.holds is there (λ s. other (sym s)) in
        record {
          extent = λ j from to. others j (λ a b. apart.first l log (j / 256) (omega (arith, from)) (omega (arith, to)) (omega (arith, a)) (omega (arith, b, few)));
          logged = λ m named j from to. others j (λ a b. apart.logs l m log named (j / 256) (omega (arith, from)) (omega (arith, to)) (omega (arith, a)) (omega (arith, b, few)));
        }

    -- so each file has the bytes that it has without it
    same_bytes : (k : ℕ) (f : FileAt) → IsIn all k f → file_bytes new f.page.0 f.pages f.log ≡ file_bytes zeroed f.page.0 f.pages f.log
    same_bytes k f there = ⊎_elim
        (λ (a : (k ≡ i) × (Some last ≡ Some f)). subst (λ (x : FileAt). file_bytes new x.page.0 x.pages x.log ≡ file_bytes zeroed x.page.0 x.pages x.log) (some_same last f a.1)
        (bytes_alike new zeroed e.page.0 e.pages e.log (λ p low. same_byte p (omega (arith, low)))))
        (λ (a : (k ≢ i) × IsIn table k f). kept_bytes zeroed new f.page.0 f.pages f.log (long ∙ sym zeroed_long) (other_file k f a.0 a.1))
        (is_in_set table i (Some last) k f there)

    same_file : (k : ℕ) (f : FileAt) → IsIn all k f → file_of new f ≡ file_of zeroed f
    same_file k f there = ap (named f.name f.kind) (same_bytes k f there)

    files_same : files_of new ≡ files_of zeroed
    files_same =
        ap (λ us. map (named_file new) (files_in us)) (units_same ∙ sym zeroed_units)
        ∙ map_among (named_file new) (named_file zeroed) (files_in (units_of zeroed)) (λ f a.
        let by = file_holder zeroed all f holds a in
        let entry = by.entry in
        subst (λ x. named_file new x ≡ named_file zeroed x) (sym by.is)
        (ap (named entry.name (kind_of (file_header entry)))
        (subst (λ o. file_bytes new entry.page.0 entry.pages o ≡ file_bytes zeroed entry.page.0 entry.pages o) (sym (log_is entry.log)) (same_bytes by.place entry by.is_in))))

    -- the image is sound but for it
    torn_record : HasTornRecord new
    torn_record =
        let in_use : used_in (table_of new l.0) ≡ c.records = ap used_in table_same ∙ used_is zeroed l.0 c.records logged in
        record {
          log = l.0;
          is_log = record {
            header = log_header e.name;
            there = ap (λ us. active_at us l.0) units_same ∙ t.holds.logs i e l is log;
            flags_are = refl;
          };
          free = subst (λ n. n < 30) (sym in_use) few;
          sound = ap (λ n. broken_image (zeros_at new (record_place l.0 n) 128)) in_use ∙ clear_sound zeroed alike zeroed_long;
        }

    torn_put : SettlesPut whole new table i e at part
    torn_put =
        let p = put zeroed alike zeroed_long in
        let n = part_long in
        let w = c.within in
        record {
          size = size zeroed alike zeroed_long;
          used = used zeroed alike zeroed_long;
          settles = inr (inl torn_record);
          each = λ k f there. subst (Contains (files_of new)) (sym (same_file k f there)) (subst (λ fs. Contains fs (file_of zeroed f)) (sym files_same) (entry_file zeroed all k f holds there));
          only = λ f has. let r = file_entry zeroed all f holds (subst (λ fs. Contains fs f) files_same has) in (r.0, r.1, r.2, r.3 ∙ sym (same_file r.0 r.1 r.2));
          put = record {
            here = λ k low. same_byte (at + k) (omega (arith, low, n, w, room)) ∙ p.here k low;
            others = λ q low out. same_byte q (omega (arith, low)) ∙ p.others q low out;
          };
          others = λ k f other there. same_file k f (is_in_there table i (Some last) k f other there) ∙ clear_others zeroed alike zeroed_long k f other there;
        }

  -- nothing is torn where there is no record left, or no log
  untorn_put : ((k : ℕ) → OutsideNext e.log c.records k) → SettlesPut whole new table i e at part
  untorn_put out = whole_put new (λ k. c.torn k (out k)) long refl

  by_log : (o : Option PageId) → e.log ≡ o → SettlesPut whole new table i e at part
  by_log None none = untorn_put (λ k l named few. absurd (none_some l (sym none ∙ named)))
  by_log (Some l) log = ⊎_elim
      (λ (few : c.records < 30). torn_put l log few)
      (λ (all : 30 ≤ c.records). untorn_put (λ k m named few. absurd (omega (arith, all, few))))
      (cases_lt c.records 30)

  -- the file has a front part of the bytes, and all others are as they were
  pub put_settles : SettlesPut whole new table i e at part
  put_settles = by_log e.log refl
