-- A torn record that is completed with the bytes of a region of its file leaves the files; where that was cut, they are what it mends to.
use Rattle.std.proofs.Common.{◌≡◌, ◌≢◌, inl, inr, ⊎_elim, ℕ, ◌+◌, ◌-◌, ◌*◌, ◌/◌, ◌%◌, ◌<◌, ◌≤◌, List, [], ◌∷◌, ◌++◌, length, length-set, map, replicate, get_or, Some, None, refl, ap, sym, subst, ◌∙◌, arith}
use Rattle.std.specs.Prelude.{set}
use Rattle.std.proofs.lemmas.Bool.{cases_eq}
use Rattle.afl_base.specs.Image.{zeros_at}
use Rattle.afl_base.specs.declared.ids.PageId.{PageId}
use Rattle.afl_base.proofs.Images.{length_zeros_at}
use Rattle.coffee_layout.specs.FileBytes.{file_byte, record_place}
use Rattle.coffee_layout.specs.Files.{files_of, listed}
use Rattle.coffee_layout.specs.declared.file.FileAt.{FileAt}
use Rattle.coffee_log.specs.FileChanges.{FileBecomes, IsFile}
use Rattle.coffee_log.specs.Logs.{IsCutRecord, IsLog, PutsRecord, TearsRecord}
use Rattle.coffee_log.proofs.RecordPuts.{put_becomes}
use Rattle.coffee_merge.specs.Holding.{Entries, IsStored, KeepsContent, Moves}
use Rattle.coffee_merge.proofs.Contents.{SetsBytes, holds_written_with}
use Rattle.coffee_merge.proofs.MovedFiles.{moves_files}
use Rattle.coffee_merge.proofs.SoundImages.{held_sound}
use Rattle.coffee_cuts.specs.Cuts.{Nothing}
use Rattle.coffee_cuts.proofs.Mended.{sparing_set, whole_settles}
use Rattle.coffee_find.specs.Found.{IsRecordInside}
use Rattle.coffee_find.specs.declared.trouble.TornRecord.{TornRecord}
use Rattle.coffee_mend.proofs.HiddenBytes.{byte_same}
use Rattle.coffee_mend.proofs.HiddenMends.{torn_mends}
use Rattle.coffee_mend.proofs.Mends.{has_record, shown_like, shown_sound}
use Rattle.coffee_mend.proofs.Supersedings.{record_fits}
use Rattle.coffee_mend.proofs.TornOwners.{torn_hidden}
use Rattle.coffee_mend.specs.Completed.{HasAllBits, IsFirstWith, IsRegion, record_at}
use Rattle.coffee_mend.specs.Joined.{HidesRecord, IsNextIn, IsSameBut}
use Rattle.coffee_mend.specs.Mended.{IsSoundAs, MendsLike}
use Rattle.coffee_mend.specs.Superseding.{IsTornOf}
use Rattle.padded.proofs.Facts.{none_some, some_same}

module _ (old : List ℕ) (table : Entries) (i : ℕ) (file : FileAt) (place : ℕ) (h : HidesRecord old table None i file place) (new : List ℕ) (long : length new ≡ length old) where
  abbrev base : List ℕ
  base = zeros_at old place 128

  abbrev n : IsNextIn (length old) place file
  n = h.record_is

  base_long : length base ≡ length old
  base_long = length_zeros_at old place 128 n.inside

  stored : IsStored base file
  stored = h.table_is.holds.stored i file h.there

  -- THE RECORD IS TORN STILL

  but : TearsRecord base new (Some n.log) file.used → IsSameBut base new place
  but tears =
      let size = base_long in
      let fits = n.inside in
      record {
        inside = omega (arith, size, fits);
        size = long ∙ sym base_long;
        others = λ k out. tears k (λ l named few from to.
            let same : n.log ≡ l = some_same n.log l named in
            let at : place ≡ record_place l.0 file.used = n.next ∙ ap (λ (m : PageId). record_place m.0 file.used) same in
            ⊎_elim
            (λ (before : k < place). absurd (omega (arith, before, from, at)))
            (λ (behind : place + 128 ≤ k). absurd (omega (arith, behind, to, at)))
            out);
      }

  pub torn_still : TearsRecord base new (Some n.log) file.used → MendsLike base new
  torn_still tears =
      let fits = n.inside in
      torn_mends base base new table i file place h.table_is h.there (record { log = n.log; logged = n.logged; next = n.next; free = n.free; inside = omega (arith, fits, long) }) (but tears) (whole_settles base table h.table_is)

  -- IT IS WHOLE

  module _ (region : ℕ) (bytes : List ℕ) (begins : 128 * region < file.size) (is : IsRegion old file region bytes) (p : PutsRecord base new n.log.0 file.used region bytes) where
    abbrev at : ℕ
    at = 128 * region

    abbrev first : List ℕ
    first = get_or bytes 0 0 ∷ []

    -- the bytes are those of the region
    here : (k : ℕ) → k < 128 → at + k + 32 < 256 * file.pages → get_or bytes k 0 ≡ file_byte base file.page.0 file.log (at + k)
    here k few within = is.here k few within ∙ byte_same old place table None i file h.table_is.holds h.there n (at + k) within

    becomes : FileBecomes base new file.page.0 file.pages file.log (file.used + 1) file.size at first
    becomes =
        let turn : region ≡ at / 128 = omega arith in
        let room = stored.fits.size in
        let even : at % 128 ≡ 0 = omega arith in
        subst (λ o. FileBecomes base new file.page.0 file.pages o (file.used + 1) file.size at first) (sym n.logged)
        (put_becomes base new bytes first file.page.0 file.pages n.log file.used file.size file.size at
        (subst (λ o. IsFile base file.page.0 file.pages o file.used file.size) n.logged stored.file)
        (subst (λ r. PutsRecord base new n.log.0 file.used r bytes) turn p)
        (omega arith) (omega (arith, even)) (omega arith) (omega (arith, begins)) room
        (λ k few within out.
        let place : 128 * (at / 128) + k ≡ at + k = omega arith in
        here k few (omega (arith, within)) ∙ ap (λ o. file_byte base file.page.0 o (at + k)) n.logged ∙ ap (file_byte base file.page.0 (Some n.log)) (sym place))
        (λ k low.
        let zero_ : k ≡ 0 = omega (arith, low) in
        let there : at % 128 + k ≡ 0 = omega (arith, even, low) in
        ap (λ j. get_or bytes j 0) there ∙ sym (ap (λ j. get_or first j 0) zero_)))

    -- so all bytes of the file stay
    content : KeepsContent base new file
    content q within = ⊎_elim
        (λ (same : q ≡ at).
        let room = stored.fits.size in
        let back : at + 0 ≡ q = omega (arith, same) in
        ap (file_byte new file.page.0 file.log) (sym back) ∙ becomes.put.here 0 (omega arith) ∙ here 0 (omega arith) (omega (arith, begins, room)) ∙ ap (file_byte base file.page.0 file.log) back)
        (λ (other : q ≢ at). becomes.put.others q (omega (arith, within)) (λ a b. other (omega (arith, a, b))))
        (cases_eq q at)

    abbrev now : FileAt
    now = record file { used = file.used + 1; size = file.size }

    sets : SetsBytes base new table None i now
    sets =
        let room = stored.fits.size in
        holds_written_with base new table None i file (file.used + 1) file.size at first h.table_is.holds h.there (long ∙ sym base_long) becomes room
        (λ none. absurd (none_some n.log (sym none ∙ n.logged)))
        (λ more z. stored.last more (sym (content (file.size - 1) (omega (arith, more, room))) ∙ z))

    moves : Moves base new table i file now
    moves = record {
      sets = record { holds = sets.holds; others = sets.others };
      same = λ q low. content q (let room = stored.fits.size in omega (arith, low, room));
    }

    pub whole_now : IsSoundAs base new
    whole_now =
        let few = h.table_is.few in
        let more = length-set table i (Some now) in
        record {
          sound = held_sound new (set table i (Some now)) sets.holds (omega (arith, few, more)) (sparing_set table i now h.table_is.sparing (h.table_is.sparing i file h.there));
          same = moves_files base new table i file now h.table_is.holds h.there moves refl refl refl;
        }

-- OF A TORN RECORD THAT WAS FOUND

module _ (old : List ℕ) (sectors : ℕ) (size : length old ≡ 4096 * sectors) (small : sectors ≤ 4096) (r : TornRecord) (inside : IsRecordInside (length old) r) (file : FileAt) (t : IsTornOf old r file) where
  fits : r.place + 128 ≤ length old
  fits = record_fits (length old) r inside

  abbrev clear : List ℕ
  clear = zeros_at old r.place 128

  abbrev entries : Entries
  entries = map Some (listed clear) ++ replicate 0 None

  hidden : (i : ℕ) × HidesRecord old entries None i file r.place
  hidden = torn_hidden old r.log r.place sectors file size small fits t.torn t.owner

  log_same : hidden.1.record_is.log ≡ r.log
  log_same = some_same hidden.1.record_is.log r.log (sym hidden.1.record_is.logged ∙ t.owner.logged)

  used_same : file.used ≡ r.used
  used_same =
      let a : r.place ≡ record_place r.log.0 file.used = hidden.1.record_is.next ∙ ap (λ (l : PageId). record_place l.0 file.used) log_same in
      let b = inside.place in
      omega (arith, a, b)

  log_was : IsLog clear r.log.0 r.used
  log_was = subst (IsLog clear r.log.0) used_same ((hidden.1.table_is.holds.stored hidden.0 file hidden.1.there).file.logged r.log t.owner.logged)

  -- where nothing is written
  pub torn_like : MendsLike old old
  torn_like = record {
    files = files_of old;
    mends = record { under_way = Nothing; found = tt; settles = inr (inl (has_record old r.log.0 r.place t.torn)); files_are = refl };
    kept = λ f has. has;
    only = λ f has. has;
  }

  module _ (new : List ℕ) (long : length new ≡ length old) (region : ℕ) (bytes : List ℕ) (f : IsFirstWith old r.place file region bytes) where
    sound : PutsRecord clear new r.log.0 r.used region bytes → IsSoundAs clear new
    sound p =
        whole_now old entries hidden.0 file r.place hidden.1 new long region bytes f.begins f.is
        (subst (λ (l : PageId). PutsRecord clear new l.0 file.used region bytes) (sym log_same) (subst (λ u. PutsRecord clear new r.log.0 u region bytes) (sym used_same) p))

    like : IsSoundAs clear new → MendsLike clear new
    like s = record { files = files_of new; mends = record { under_way = Nothing; found = tt; settles = inl s.sound; files_are = refl }; kept = s.same.kept; only = s.same.only }

    torn : TearsRecord clear new (Some r.log) r.used → MendsLike clear new
    torn tears =
        torn_still old entries hidden.0 file r.place hidden.1 new long
        (subst (λ (l : PageId). TearsRecord clear new (Some l) file.used) (sym log_same) (subst (λ u. TearsRecord clear new (Some r.log) u) (sym used_same) tears))

    pub completed : (IsLog clear r.log.0 r.used → HasAllBits bytes (record_at old r.place) → PutsRecord clear new r.log.0 r.used region bytes) → IsSoundAs old new
    completed puts = shown_sound old new r.log.0 r.place (omega (arith, size)) fits t.torn (sound (puts log_was f.all))

    pub cut_completed : (IsLog clear r.log.0 r.used → HasAllBits bytes (record_at old r.place) → IsCutRecord clear new r.log r.used region bytes) → MendsLike old new
    cut_completed cut = shown_like old new r.log.0 r.place (omega (arith, size)) fits t.torn (⊎_elim (λ tears. torn tears) (λ p. like (sound p)) (cut log_was f.all))
