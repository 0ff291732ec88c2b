-- The image that a flash shows beside which 128 bytes of a log stand, and the image of the flash inside.
use Rattle.std.proofs.Common.{◌≡◌, ◌≢◌, inl, inr, ⊎_elim, ℕ, ◌+◌, ◌*◌, ◌/◌, ◌≤◌, ◌<◌, false, List, length, get_or, Some, None, refl, ap, sym, subst, ◌∙◌, arith}
use Rattle.std.proofs.lemmas.Bool.{cases_lt}
use Rattle.std.proofs.lemmas.List.{ext_get_or}
use Rattle.std.specs.List.{Contains}
use Rattle.afl_base.specs.Image.{zeros_at}
use Rattle.afl_base.proofs.Images.{length_zeros_at, zeros_at_before, zeros_at_behind, zeros_at_inside, zeros_at_range}
use Rattle.coffee_header.specs.declared.header.Header.{Header}
use Rattle.coffee_layout.specs.FileBytes.{table_of, used_in}
use Rattle.coffee_layout.specs.Files.{Placed, extents, files_of, is_log}
use Rattle.coffee_layout.specs.Marks.{IsCramped}
use Rattle.coffee_layout.specs.Rules.{broken_image}
use Rattle.coffee_layout.specs.Tiling.{IsTiled, nowhere, units_of}
use Rattle.coffee_layout.specs.Units.{is_active_flags, pages_of, total}
use Rattle.coffee_layout.specs.declared.file.FileAt.{FileAt}
use Rattle.coffee_layout.specs.declared.unit.Unit.TheVariants.{Extent}
use Rattle.coffee_layout.proofs.Frames.{content_stays}
use Rattle.coffee_layout.proofs.Tilings.{units_tiled}
use Rattle.coffee_log.specs.Logs.{IsLog}
use Rattle.coffee_merge.specs.Begun.{active_at, unit_begun}
use Rattle.coffee_merge.specs.Holding.{Entries, HoldsTable, IsIn, Stays, file_header, log_header}
use Rattle.coffee_merge.specs.TableFiles.{SameFiles}
use Rattle.coffee_merge.proofs.Begun.{active_begun, begun_active, begun_apart, begun_split}
use Rattle.coffee_merge.proofs.Holdings.{file_unit, holds_pages, holds_tiled, log_unit}
use Rattle.coffee_merge.proofs.Kept.{KeepsBody, bodies_kept, body_stored, holds_units}
use Rattle.coffee_merge.proofs.Retired.{inactive}
use Rattle.coffee_merge.proofs.MovedFiles.{stays_files}
use Rattle.coffee_merge.proofs.SoundImages.{held_sound}
use Rattle.coffee_merge.proofs.SoundLogs.{log_from_rules}
use Rattle.coffee_merge.proofs.SoundRules.{sound_rules}
use Rattle.coffee_merge.proofs.SoundUnits.{among_filter, begun_extent}
use Rattle.coffee_cuts.specs.Cuts.{IsActiveAt}
use Rattle.coffee_cuts.proofs.TornLogs.{IsTornAt as IsTornLog, begun as begun_zero, torn_files as files_of_torn}
use Rattle.coffee_find.specs.Found.{IsTornAt}
use Rattle.coffee_mend.specs.Joined.{IsJoined, IsSameBut, LacksExtent, OwnsLog, old_log_header}
use Rattle.coffee_mend.specs.Mended.{IsTornAs}

pub same_then : (a b c : List ℕ) → SameFiles a b → SameFiles b c → SameFiles a c
same_then a b c f g = record { kept = λ x has. g.kept x (f.kept x has); only = λ x has. f.only x (g.only x has) }

-- the image with zeros in the place of these bytes is the other one, where they are zero there
pub zeros_beside : (shown image : List ℕ) (place : ℕ) → IsSameBut shown image place → ((k : ℕ) → place ≤ k → k < place + 128 → get_or shown k 0 ≡ 0) → zeros_at image place 128 ≡ shown
zeros_beside shown image place but zero =
    let inside = but.inside in
    let fits : place + 128 ≤ length image = omega (arith, inside, but.size) in
    ext_get_or 0 (zeros_at image place 128) shown (length_zeros_at image place 128 fits ∙ but.size) (λ k h.
    ⊎_elim
    (λ (l : k < place). zeros_at_before image place 128 k fits l ∙ but.others k (inl l))
    (λ (l : place ≤ k). ⊎_elim
    (λ (m : k < place + 128). zeros_at_inside image place 128 k fits l m ∙ sym (zero k l m))
    (λ (m : place + 128 ≤ k). zeros_at_behind image place 128 k fits m ∙ but.others k (inr m))
    (cases_lt k (place + 128)))
    (cases_lt k place))

module _ (shown image : List ℕ) (place log : ℕ) (h : Header) (but : IsSameBut shown image place) (low : 256 * log + 32 ≤ place) (high : place + 128 ≤ 256 * (log + h.max_pages))
    (begun : unit_begun (units_of shown) 0 log ≡ Some (Extent h)) (table : Entries) (holds : HoldsTable shown table None) where
  -- all other bytes are the same
  others : (k : ℕ) → (place ≤ k → k < place + 128 → ⊥) → get_or image k 0 ≡ get_or shown k 0
  others k out = ⊎_elim
      (λ (l : k < place). but.others k (inl l))
      (λ (l : place ≤ k). ⊎_elim
      (λ (m : k < place + 128). absurd (out l m))
      (λ (m : place + 128 ≤ k). but.others k (inr m))
      (cases_lt k (place + 128)))
      (cases_lt k place)

  -- and so are the units
  same_units : IsTiled nowhere image (units_of shown)
  same_units =
      let s = begun_split (units_of shown) log (Extent h) begun in
      let at = s.place in
      subst (IsTiled nowhere image) (sym s.whole)
      (content_stays nowhere shown image s.front s.rest h (subst (IsTiled nowhere shown) s.whole (holds_tiled shown table None holds)) but.size
      (λ k out. others k (λ from to. ⊎_elim
      (λ (l : k < 256 * total s.front + 32). omega (arith, l, at, from, low))
      (λ (l : 256 * (total s.front + h.max_pages) ≤ k). omega (arith, l, at, to, high))
      out)))

  -- an extent that begins at another page has none of the bytes
  away : (page : ℕ) (g : Header) → unit_begun (units_of shown) 0 page ≡ Some (Extent g) → page ≢ log
      → (k : ℕ) → 256 * page ≤ k → k < 256 * (page + g.max_pages) → place ≤ k → k < place + 128 → ⊥
  away page g there apart k from to inside_from inside_to =
      begun_apart (units_of shown) page log (Extent g) (Extent h) (holds_pages shown table None holds) there begun apart (k / 256)
      (omega (arith, from)) (omega (arith, to)) (omega (arith, inside_from, low)) (omega (arith, inside_to, high))

  -- where the extent is not active, all files are held as they are
  pub stays : is_active_flags h.flags ≡ false → Stays shown image table
  stays idle =
      let gone : active_at (units_of shown) log ≡ None = inactive (units_of shown) log h begun idle in
      let differs : (page : ℕ) (g : Header) → active_at (units_of shown) page ≡ Some g → page ≢ log =
      λ page g is same. (let e : None ≡ Some g = sym gone ∙ ap (active_at (units_of shown)) (sym same) ∙ is in let no : ⊥ = cc in no) in
      let bodies : (i : ℕ) (e : FileAt) → IsIn table i e → KeepsBody shown image e.page.0 e.pages e.log =
      λ i e is. record {
        extent = λ k from to. others k (away e.page.0 (file_header e) (file_unit shown table None i e holds is) (differs e.page.0 (file_header e) (holds.files i e is)) k (omega (arith, from)) to);
        logged = λ l logged k from to. others k (away l.0 (log_header e.name) (log_unit shown table None i e l holds is logged) (differs l.0 (log_header e.name) (holds.logs i e l is logged)) k (omega (arith, from)) (omega (arith, to)));
      } in
      record {
        holds = holds_units shown image table None holds but.size same_units (λ i e is. body_stored shown image e but.size (bodies i e is) (holds.stored i e is)) (λ d none. cc);
        kept = bodies_kept shown image table but.size bodies;
      }

-- what was joined in an image is joined in another one that has only other bytes in the obsolete log
pub unjoined : (old shown image : List ℕ) (place log : ℕ) → IsSameBut shown image place → 256 * log + 96 ≤ place → place + 128 ≤ 256 * log + 4096 → IsJoined old shown log
    → (broken_image image ≡ None) × SameFiles old image
unjoined old shown image place log but low high j =
    let k = j.keeps in
    let s = stays shown image place log (old_log_header j.name) but (omega (arith, low)) (omega (arith, high)) j.gone k.table k.holds refl in
    (held_sound image k.table s.holds k.short k.few, same_then old shown image k.same (stays_files shown image k.table k.holds s))

-- an image that is sound but for a torn record has the files that it has where the record is zero
pub torn_files : (image : List ℕ) (log place : ℕ) → 256 * pages_of image ≡ length image → place + 128 ≤ length image → IsTornAt image log place → files_of image ≡ files_of (zeros_at image place 128)
torn_files image log place whole inside t =
    let torn : IsTornLog image log place = record { is_log = t.is_log; free = t.free; next = t.next; sound = t.sound } in
    files_of_torn image log place whole inside torn

-- the table of a log has none of its records
pub table_same : (image : List ℕ) (log place : ℕ) → place + 128 ≤ length image → 256 * log + 96 ≤ place → table_of image log ≡ table_of (zeros_at image place 128) log
table_same image log place inside low = sym (zeros_at_range image place 128 (256 * log + 32) (256 * log + 92) inside (inl (omega (arith, low))))

same_by : (a b c d : List ℕ) → files_of a ≡ files_of b → SameFiles b c → files_of d ≡ files_of c → SameFiles a d
same_by a b c d first s second = record {
  kept = λ f has. subst (λ fs. Contains fs f) (sym second) (s.kept f (subst (λ fs. Contains fs f) first has));
  only = λ f has. subst (λ fs. Contains fs f) (sym first) (s.only f (subst (λ fs. Contains fs f) second has));
}

-- of an active log in a sound image, all that is behind its records in use is zero
log_clear : (image : List ℕ) (log : ℕ) (name : List ℕ) → broken_image image ≡ None → 256 * pages_of image ≡ length image → active_at (units_of image) log ≡ Some (log_header name) → IsLog image log (used_in (table_of image log))
log_clear image log name sound whole active =
    let rules = (sound_rules image whole sound).0 in
    let g : Placed = record { page = log; header = log_header name } in
    let there = among_filter is_log g (extents 0 (units_of image)) (begun_extent (units_of image) 0 log (log_header name) (active_begun (units_of image) log (log_header name) active).0) refl in
    log_from_rules image log (rules.filled g there) (rules.clear g there)

-- so the record stands as zeros beside an image that lacks room
zero_record : (old shown image : List ℕ) (log place need : ℕ) → IsTornAt old log place → place + 128 ≤ length old → IsSameBut shown image place → LacksExtent (zeros_at old place 128) shown log need
    → zeros_at image place 128 ≡ shown
zero_record old shown image log place need t inside but l =
    let record_is : place ≡ 256 * log + 96 + 128 * used_in (table_of old log) = t.next in
    let free = t.free in
    let k = l.keeps in
    let used : used_in (table_of shown log) ≡ used_in (table_of old log) = l.used ∙ sym (ap used_in (table_same old log place inside (omega (arith, record_is)))) in
    let clear = log_clear shown log l.name (held_sound shown k.table k.holds k.short k.few) k.holds.whole l.stands in
    zeros_beside shown image place but (λ p from to. clear.clear p (omega (arith, record_is, used, from)) (omega (arith, record_is, free, to)))

-- an image that lacks room where the record stands beside it is torn as before
pub still_torn : (old shown new : List ℕ) (log place need : ℕ) → IsTornAt old log place → 256 * pages_of old ≡ length old → place + 128 ≤ length old → IsSameBut shown new place
    → LacksExtent (zeros_at old place 128) shown log need → IsTornAs old new log place need
still_torn old shown new log place need t whole inside but l =
    let record_is : place ≡ 256 * log + 96 + 128 * used_in (table_of old log) = t.next in
    let free = t.free in
    let k = l.keeps in
    let h : Header = log_header l.name in
    let begins = (active_begun (units_of shown) log (log_header l.name) l.stands).0 in
    let tiled = same_units shown new place log (log_header l.name) but (omega (arith, record_is)) (omega (arith, record_is, free)) begins k.table k.holds in
    let same : units_of new ≡ units_of shown = units_tiled nowhere new (units_of shown) tiled in
    let zeros : zeros_at new place 128 ≡ shown = zero_record old shown new log place need t inside but l in
    let fits = but.inside in
    let there : place + 128 ≤ length new = omega (arith, fits, but.size) in
    let used : used_in (table_of new log) ≡ used_in (table_of old log) =
    ap used_in (table_same new log place there (omega (arith, record_is))) ∙ ap (λ i. used_in (table_of i log)) zeros ∙ l.used ∙ sym (ap used_in (table_same old log place inside (omega (arith, record_is)))) in
    let torn : IsTornAt new log place = record {
      is_log = record { header = log_header l.name; there = ap (λ us. active_at us log) same ∙ l.stands; flags_are = refl };
      free = omega (arith, used, free);
      next = record_is ∙ ap (λ n. 256 * log + 96 + 128 * n) (sym used);
      sound = ap broken_image zeros ∙ held_sound shown k.table k.holds k.short k.few;
    } in
    let all = k.holds.whole in
    let whole_new : 256 * pages_of new ≡ length new = subst (λ n. 256 * (n / 256) ≡ n) (sym but.size) all in
    record {
      torn = torn;
      same = same_by old (zeros_at old place 128) shown new (torn_files old log place whole inside t) k.same (torn_files new log place whole_new there torn ∙ ap files_of zeros);
      wants = subst (λ us. OwnsLog us log need) (sym same) l.wants;
      cramped = subst (λ us. IsCramped us need) (sym same) l.cramped;
    }

-- where the record is zero, the image is sound, and the log is active in it
pub log_there : (old : List ℕ) (log place : ℕ) → 256 * pages_of old ≡ length old → place + 128 ≤ length old → IsTornAt old log place → IsActiveAt (zeros_at old place 128) log 19
log_there old log place whole inside t =
    let torn : IsTornLog old log place = record { is_log = t.is_log; free = t.free; next = t.next; sound = t.sound } in
    record {
      header = t.is_log.header;
      there = begun_active (units_of (zeros_at old place 128)) log t.is_log.header (begun_zero old log place whole inside torn) (ap is_active_flags t.is_log.flags_are);
      flags_are = t.is_log.flags_are;
    }
