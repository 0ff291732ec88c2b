-- What a cut left of an image in which a record is torn mends to the files of the one with zeros in its place.
use Rattle.std.proofs.Common.{◌≡◌, ◌⊎◌, inl, inr, ⊎_elim, ℕ, ◌+◌, ◌*◌, ◌/◌, ◌<◌, ◌≤◌, List, [], ◌∷◌, length, Some, None, refl, ap, sym, subst, ◌∙◌, arith}
use Rattle.std.specs.List.{Contains}
use Rattle.afl_base.specs.Image.{zeros_at}
use Rattle.afl_base.proofs.Images.{length_or_at}
use Rattle.afl_base.specs.declared.ids.PageId.{PageId}
use Rattle.coffee_layout.specs.FileBytes.{file_byte, record_place, table_of, used_in}
use Rattle.coffee_layout.specs.Files.{files_of}
use Rattle.coffee_layout.specs.Rules.{broken_image}
use Rattle.coffee_layout.specs.declared.file.FileAt.{FileAt}
use Rattle.coffee_merge.specs.Begun.{active_at}
use Rattle.coffee_merge.specs.CutMarks.{IsCutObsolete, IsCutReplace}
use Rattle.coffee_merge.specs.Flags.{flagged, obsoleted}
use Rattle.coffee_merge.specs.Holding.{Entries, IsIn, KeepsContents, log_header, log_number}
use Rattle.coffee_merge.specs.TableFiles.{SameFiles}
use Rattle.coffee_merge.proofs.Holdings.{holds_tiled, log_unit}
use Rattle.coffee_merge.proofs.MovedFiles.{stays_files}
use Rattle.coffee_merge.proofs.SoundImages.{held_sound}
use Rattle.coffee_merge.proofs.SoundLogs.{used_is}
use Rattle.coffee_cuts.specs.Cuts.{Erasing, IsFound, Nothing, UnderWay, Unnamed, settled}
use Rattle.coffee_cuts.specs.Mending.{IsTable}
use Rattle.coffee_cuts.proofs.Commits.{log_unnamed, new_goes}
use Rattle.coffee_cuts.proofs.Drafts.{drafted_settles}
use Rattle.coffee_cuts.proofs.Mended.{SettlesHolding}
use Rattle.coffee_find.specs.Found.{IsTornAt}
use Rattle.coffee_mend.proofs.Beside.{table_same, torn_files, unjoined}
use Rattle.coffee_mend.proofs.HiddenBytes.{next_high, next_low, shown_is}
use Rattle.coffee_mend.proofs.Joins.{all, ends_right, joined, joined_draft}
use Rattle.coffee_mend.proofs.LikeSettlings.{HasLogUnit, flagged_but, found_back, settled_but, settled_units}
use Rattle.coffee_mend.proofs.Mends.{has_record}
use Rattle.coffee_mend.specs.Joined.{IsJoined, IsNextIn, IsSameBut, old_log_header}
use Rattle.coffee_mend.specs.Mended.{IsSoundAs, MendsLike}

-- where another image holds the files, with their content
pub settles_after : (old mid new : List ℕ) (table : Entries) → KeepsContents old mid table → SettlesHolding new mid table → SettlesHolding new old table
settles_after old mid new table kept s = record {
  way = s.way;
  found = s.found;
  stays = record { holds = s.stays.holds; kept = λ i e is p low. s.stays.kept i e is p low ∙ kept i e is p low };
}

-- THE LOG IS ACTIVE

module _ (whole shown image : List ℕ) (table : Entries) (i : ℕ) (e : FileAt) (place : ℕ) (t : IsTable whole table None) (is : IsIn table i e) (n : IsNextIn (length image) place e) (but : IsSameBut shown image place)
    (s : SettlesHolding shown whole table) where
  low : 256 * n.log.0 + 96 ≤ place
  low = let l = next_low (length image) place e n in omega (arith, l)

  high : place + 128 ≤ 256 * n.log.0 + 4096
  high = next_high (length image) place e n

  abbrev right : List ℕ
  right = settled shown s.way

  abbrev left : List ℕ
  left = settled image s.way

  unit : HasLogUnit right n.log.0 s.way
  unit = record {
    tiled = holds_tiled right table None s.stays.holds;
    header = log_header e.name;
    begun = log_unit right table None i e n.log s.stays.holds is n.logged;
    sixteen = refl;
    stands = λ sector page same. refl;
  }

  apart : IsSameBut right left place
  apart = settled_but shown image place s.way s.found but

  inside : place + 128 ≤ length left
  inside = let fits = apart.inside in let size = apart.size in omega (arith, fits, size)

  zeros : zeros_at left place 128 ≡ right
  zeros = shown_is right left place table None i e apart s.stays.holds is (record { log = n.log; logged = n.logged; next = n.next; free = n.free; inside = inside })

  used : used_in (table_of left n.log.0) ≡ e.used
  used =
      let l = low in
      ap used_in (table_same left n.log.0 place inside (omega (arith, l))) ∙ ap (λ x. used_in (table_of x n.log.0)) zeros
      ∙ used_is right n.log.0 e.used ((s.stays.holds.stored i e is).file.logged n.log n.logged)

  torn : IsTornAt left n.log.0 place
  torn =
      let u = used in
      let free = n.free in
      record {
        is_log = record {
          header = log_header e.name;
          there = ap (λ us. active_at us n.log.0) (settled_units shown image place n.log.0 but low high s.way s.found unit) ∙ s.stays.holds.logs i e n.log is n.logged;
          flags_are = refl;
        };
        free = omega (arith, u, free);
        next = n.next ∙ ap (record_place n.log.0) (sym used);
        sound = ap broken_image zeros ∙ held_sound right table s.stays.holds t.few t.sparing;
      }

  same : files_of left ≡ files_of right
  same =
      let whole_right = s.stays.holds.whole in
      torn_files left n.log.0 place (subst (λ m. 256 * (m / 256) ≡ m) (sym apart.size) whole_right) inside torn ∙ ap files_of zeros

  -- the record is still torn
  pub torn_mends : MendsLike whole image
  torn_mends =
      let stays : SameFiles whole right = stays_files whole right table t.holds s.stays in
      record {
        files = files_of left;
        mends = record {
          under_way = s.way;
          found = found_back shown image place n.log.0 but low high s.way s.found unit;
          settles = inr (inl (has_record left n.log.0 place torn));
          files_are = refl;
        };
        kept = λ f has. subst (λ fs. Contains fs f) (sym same) (stays.kept f has);
        only = λ f has. stays.only f (subst (λ fs. Contains fs f) same has);
      }

-- THE LOG IS OBSOLETE

pub joined_mends : (old shown image : List ℕ) (place log : ℕ) → IsSameBut shown image place → 256 * log + 96 ≤ place → place + 128 ≤ 256 * log + 4096 → (w : UnderWay) → IsFound shown w
    → ((sector page : ℕ) → w ≡ Erasing sector page → ⊥) → IsJoined old (settled shown w) log → MendsLike old image
joined_mends old shown image place log but low high w found other j =
    let right : List ℕ = settled shown w in
    let unit : HasLogUnit (settled shown w) log w = record {
      tiled = holds_tiled right j.keeps.table None j.keeps.holds;
      header = old_log_header j.name;
      begun = j.gone;
      sixteen = refl;
      stands = λ sector page same. absurd (other sector page same);
    } in
    let u = unjoined old (settled shown w) (settled image w) place log (settled_but shown image place w found but) low high j in
    record {
      files = files_of (settled image w);
      mends = record { under_way = w; found = found_back shown image place log but low high w found unit; settles = inl u.0; files_are = refl };
      kept = u.1.kept;
      only = u.1.only;
    }

module _ (old shown image : List ℕ) (table : Entries) (i : ℕ) (file : FileAt) (page : PageId) (place : ℕ) (t : IsTable old table None) (is : IsIn table i file) (n : IsNextIn (length image) place file) (but : IsSameBut shown image place)
    (c : IsTable shown table (Some (joined_draft file page))) (kept : KeepsContents old shown table) (same : (p : ℕ) → p < file.size → file_byte shown page.0 None p ≡ file_byte old file.page.0 file.log p) where
  low_log : 256 * n.log.0 + 96 ≤ place
  low_log = let l = next_low (length image) place file n in omega (arith, l)

  high_log : place + 128 ≤ 256 * n.log.0 + 4096
  high_log = next_high (length image) place file n

  abbrev valid : List ℕ → List ℕ
  valid image = flagged image page.0 1

  done : IsJoined old (all old shown table i file page n.log t is n.logged c.holds kept same) n.log.0
  done = joined old shown table i file page n.log t is n.logged c.holds kept same

  valid_but : IsSameBut (valid shown) (valid image) place
  valid_but = flagged_but shown image place page.0 1 but

  half_but : IsSameBut (flagged (valid shown) file.page.0 4) (flagged (valid image) file.page.0 4) place
  half_but = flagged_but (valid shown) (valid image) place file.page.0 4 valid_but

  -- all is done
  pub sound_joined : (new : List ℕ) → new ≡ obsoleted (valid image) file.page.0 (Some n.log) → IsSoundAs old new
  sound_joined new is_all =
      let u = unjoined old (obsoleted (valid shown) file.page.0 (Some n.log)) (obsoleted (valid image) file.page.0 (Some n.log)) place n.log.0
      (flagged_but (flagged (valid shown) file.page.0 4) (flagged (valid image) file.page.0 4) place n.log.0 4 half_but) low_log high_log done in
      subst (IsSoundAs old) (sym is_all) (record { sound = u.0; same = u.1 })

  -- the new extent is valid, and the old one is too: that has a log, and the record is still torn
  both_mend : MendsLike old (valid image)
  both_mend =
      let few = t.sparing i file is in
      let last = ends_right old shown table i file page n.log t is n.logged c.holds kept same in
      let long : length (valid image) ≡ length image = length_or_at image (256 * page.0 + 9) (1 ∷ []) in
      let s : SettlesHolding (valid shown) shown table = new_goes shown table (joined_draft file page) file i c is refl few last
      (λ zero. let some : log_number (Some n.log) ≡ 0 = ap log_number (sym n.logged) ∙ zero in absurd (omega (arith, some))) in
      torn_mends old (valid shown) (valid image) table i file place t is (subst (λ m. IsNextIn m place file) (sym long) n) valid_but (settles_after old shown (valid shown) table kept s)

  -- the old one is obsolete, and its log is not
  half_mends : MendsLike old (flagged (valid image) file.page.0 4)
  half_mends =
      let few = t.sparing i file is in
      joined_mends old (flagged (valid shown) file.page.0 4) (flagged (valid image) file.page.0 4) place n.log.0 half_but low_log high_log (Unnamed n.log.0)
      (log_unnamed shown table (joined_draft file page) file i c is refl few (ends_right old shown table i file page n.log t is n.logged c.holds kept same) n.log n.logged) (λ sector p same. cc) done

  -- a cut left any of these
  pub cut_joined : (new : List ℕ) → IsCutReplace image new page.0 file.page.0 (Some n.log) → MendsLike old new
  cut_joined new cut = ⊎_elim
      (λ (none : new ≡ image). subst (MendsLike old) (sym none)
      (torn_mends old shown image table i file place t is n but (settles_after old shown shown table kept (drafted_settles shown table (joined_draft file page) c))))
      (λ (some : IsCutObsolete (valid image) new file.page.0 (Some n.log)). ⊎_elim
      (λ (first : new ≡ valid image). subst (MendsLike old) (sym first) both_mend)
      (λ (more : (new ≡ flagged (valid image) file.page.0 4) ⊎ (new ≡ obsoleted (valid image) file.page.0 (Some n.log))). ⊎_elim
      (λ (half : new ≡ flagged (valid image) file.page.0 4). subst (MendsLike old) (sym half) half_mends)
      (λ (whole : new ≡ obsoleted (valid image) file.page.0 (Some n.log)).
      subst (MendsLike old) (sym whole) (joined_mends old (obsoleted (valid shown) file.page.0 (Some n.log)) (obsoleted (valid image) file.page.0 (Some n.log)) place n.log.0
      (flagged_but (flagged (valid shown) file.page.0 4) (flagged (valid image) file.page.0 4) place n.log.0 4 half_but) low_log high_log Nothing tt (λ sector p same. cc) done))
      more)
      some)
      cut
