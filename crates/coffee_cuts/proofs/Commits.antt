-- A draft that takes the place of a file, or is a new one, in part: what the image mends to.
use Rattle.std.proofs.Common.{◌≡◌, ◌≢◌, ◌⊎◌, inl, inr, ⊎_elim, ℕ, suc, ◌-◌, ◌<◌, ◌≤◌, true, ◌||◌, ◌==◌, List, [], ◌∷◌, length, get_or, Option, Some, None, refl, ap, sym, subst, ◌∙◌, arith, bit_or, length-set}
use Rattle.std.specs.Prelude.{set}
use Rattle.std.specs.List.{Contains}
use Rattle.std.proofs.lemmas.Bool.{cases_eq, cases_lt, cases_order}
use Rattle.afl_base.specs.declared.ids.PageId.{PageId}
use Rattle.afl_base.specs.declared.kind.Kind.{Kind}
use Rattle.coffee_header.specs.declared.header.Header.{Header}
use Rattle.coffee_layout.specs.FileBytes.{file_byte}
use Rattle.coffee_layout.specs.Files.{Placed, extents, files_in, is_file}
use Rattle.coffee_layout.specs.Tiling.{IsTiled, nowhere, units_of}
use Rattle.coffee_layout.specs.Walks.{has_few}
use Rattle.coffee_layout.specs.declared.file.FileAt.{FileAt}
use Rattle.coffee_layout.specs.declared.unit.Unit.{Unit}
use Rattle.coffee_layout.specs.declared.unit.Unit.TheVariants.{Extent}
use Rattle.coffee_log.specs.FileChanges.{IsFile}
use Rattle.coffee_merge.specs.Begun.{active_header, unit_begun}
use Rattle.coffee_merge.specs.CutMarks.{IsCutObsolete, IsCutReplace, IsOneOf}
use Rattle.coffee_merge.specs.Flags.{flagged, obsoleted}
use Rattle.coffee_merge.specs.Holding.{CommitsExtent, Entries, IsDrafted, IsIn, IsNewName, IsStored, Sets, Stays, draft_header, file_flags, file_header, log_header, log_number}
use Rattle.coffee_merge.specs.TableFiles.{file_of}
use Rattle.coffee_merge.specs.Torn.{TearsReplacing}
use Rattle.coffee_merge.proofs.Begun.{begun_active}
use Rattle.coffee_merge.proofs.Commits.{commits, replaced_file, replaced_log, replaces, retired, valid}
use Rattle.coffee_merge.proofs.Holdings.{draft_unit, extent_here, file_unit, holds_tiled, in_table, is_in_here, is_in_set, is_in_there, log_unit}
use Rattle.coffee_merge.proofs.Marked.{Reflags, flagged_extent}
use Rattle.coffee_merge.proofs.MovedFiles.{bytes_same}
use Rattle.coffee_merge.proofs.Retired.{inactive, obsolete_flags, only_one, only_then}
use Rattle.coffee_merge.proofs.SoundHolders.{placed}
use Rattle.coffee_merge.proofs.SoundUnits.{Among, among_filter, begun_extent}
use Rattle.coffee_merge.proofs.Turned.{file_body}
use Rattle.padded.proofs.Facts.{none_some, some_same}
use Rattle.coffee_cuts.specs.Cuts.{IsActiveAt, IsFound, IsOver, Nothing, Replacing, UnderWay, Unnamed, settled}
use Rattle.coffee_cuts.specs.Mending.{EndsRight, IsTable, MendsToTable, as_file}
use Rattle.coffee_cuts.proofs.Drafts.{drafted_mends, off_draft, undrafted}
use Rattle.coffee_cuts.proofs.Mended.{SettlesHolding, file_stays, mends_after, mends_same, named, settles_by, settling_mends, sparing_set, sparing_without, whole_mends}
use Rattle.coffee_merge.proofs.SoundHolders.{file_is}

-- FILES THAT ARE FOUND

among_contains : (xs : List Placed) (x : Placed) → Among x xs → Contains xs x
among_contains [] x a = absurd a
among_contains (y ∷ ys) x (inl e) = (0, omega arith, e)
among_contains (y ∷ ys) x (inr a) = let r = among_contains ys x a in (suc r.0, (let less = r.1 in omega (arith, less)), r.2)

found_file : (us : List Unit) (page : ℕ) (h : Header) → unit_begun us 0 page ≡ Some (Extent h) → (h.flags == 3 || h.flags == 11) ≡ true → Contains (files_in us) (record { page = page; header = h })
found_file us page h begun file =
    among_contains (files_in us) (record { page = page; header = h }) (among_filter is_file (record { page = page; header = h }) (extents 0 us) (begun_extent us 0 page h begun) file)

-- the extent of a file is obsolete, and its log stands
left_log : (image : List ℕ) (e : FileAt) (l : PageId) → IsTiled nowhere image (units_of image) → unit_begun (units_of image) 0 e.page.0 ≡ Some (Extent (file_header e))
    → unit_begun (units_of image) 0 l.0 ≡ Some (Extent (log_header e.name)) → IsActiveAt (flagged image e.page.0 4) l.0 19
left_log image e l tiled unit log =
    let half : List ℕ = flagged image e.page.0 4 in
    let f = obsolete_flags e.log in
    let now : Header = record (file_header e) { flags = bit_or (file_flags e.log) 4 } in
    let s : Reflags nowhere image half e.page.0 now = flagged_extent nowhere nowhere image e.page.0 (file_header e) 4 tiled unit f.0 f.1 (λ q other. refl) in
    let other : l.0 ≢ e.page.0 = λ same. log_not_file e.log (one_flags (log_header e.name) (file_header e) (sym log ∙ ap (unit_begun (units_of image) 0) same ∙ unit)) in
    record {
      header = log_header e.name;
      there = begun_active (units_of half) l.0 (log_header e.name) (s.others l.0 other ∙ log) refl;
      flags_are = refl;
    }
  where
    one_flags : (g k : Header) → Some (Extent g) ≡ Some (Extent k) → g.flags ≡ k.flags
    one_flags g k same = let h : g ≡ k = cc in ap (λ (x : Header). x.flags) h

    log_not_file : (log : Option PageId) → 19 ≡ file_flags log → ⊥
    log_not_file None same = absurd (omega (arith, same))
    log_not_file (Some m) same = absurd (omega (arith, same))

-- A FILE THAT IS REMOVED

module _ (whole : List ℕ) (table : Entries) (i : ℕ) (e : FileAt) (t : IsTable whole table None) (is : IsIn table i e) where
  abbrev rest : Entries
  rest = set table i None

  -- the settled image has neither the extent nor the log
  rest_mends : (new : List ℕ) (w : UnderWay) → IsFound new w → settled new w ≡ obsoleted whole e.page.0 e.log → MendsToTable new whole rest
  rest_mends new w found at =
      let s : Sets whole (settled new w) table i None = subst (λ image. Sets whole image table i None) (sym at) (retired whole table i e t.holds is) in
      let count = t.few in
      let long = length-set table i None in
      mends_after new whole rest w found s.holds (omega (arith, count, long)) (sparing_without table i t.sparing)
      (λ k f there. ⊎_elim
      (λ (a : (k ≡ i) × (None ≡ Some f)). absurd (none_some f a.1))
      (λ (a : (k ≢ i) × IsIn table k f). file_stays whole (settled new w) f (t.holds.stored k f a.1) (s.holds.stored k f there) (s.others k f a.0 a.1))
      (is_in_set table i None k f there))

  half_rest : (log : Option PageId) → e.log ≡ log → MendsToTable (flagged whole e.page.0 4) whole rest
  half_rest None log = rest_mends (flagged whole e.page.0 4) Nothing tt (ap (obsoleted whole e.page.0) (sym log))
  half_rest (Some l) log =
      rest_mends (flagged whole e.page.0 4) (Unnamed l.0) (left_log whole e l (holds_tiled whole table None t.holds) (file_unit whole table None i e t.holds is) (log_unit whole table None i e l t.holds is log))
      (ap (obsoleted whole e.page.0) (sym log))

  -- the files with it, or without it
  pub removed_mends : (new : List ℕ) → IsCutObsolete whole new e.page.0 e.log → MendsToTable new whole table ⊎ MendsToTable new whole rest
  removed_mends new cut = ⊎_elim
      (λ (none : new ≡ whole). inl (subst (λ image. MendsToTable image whole table) (sym none) (whole_mends whole table t)))
      (λ (more : (new ≡ flagged whole e.page.0 4) ⊎ (new ≡ obsoleted whole e.page.0 e.log)). inr (⊎_elim
      (λ (half : new ≡ flagged whole e.page.0 4). subst (λ image. MendsToTable image whole rest) (sym half) (half_rest e.log refl))
      (λ (done : new ≡ obsoleted whole e.page.0 e.log). subst (λ image. MendsToTable image whole rest) (sym done) (rest_mends (obsoleted whole e.page.0 e.log) Nothing tt refl))
      more))
      cut

-- A DRAFT AS A FILE

stored_draft : (image : List ℕ) (d : FileAt) → IsDrafted image d → EndsRight image d → IsStored image (as_file d)
stored_draft image d s last =
    let none = sym s.no_log in
    record {
      fits = record { some = s.fits.some; placed = s.fits.placed; size = s.fits.size; log = s.fits.log; used = omega arith; unused = λ e. refl };
      shape = s.shape;
      file = subst (λ log. IsFile image d.page.0 d.pages log 0 d.size) none s.file;
      last = subst (λ log. 1 ≤ d.size → file_byte image d.page.0 log (d.size - 1) ≢ 0) none last;
    }

-- the settled image has the draft as the file of a place
committed_mends : (new whole : List ℕ) (table : Entries) (d : FileAt) (i : ℕ) (w : UnderWay) → IsTable whole table (Some d) → has_few d ≡ true → EndsRight whole d → IsFound new w → i < length table → CommitsExtent whole (settled new w) table i d
    → MendsToTable new whole (set table i (Some (as_file d)))
committed_mends new whole table d i w t few last found inside c =
    let s : List ℕ = settled new w in
    let count = t.few in
    let long = length-set table i (Some (as_file d)) in
    let drafted = t.holds.drafted d refl in
    let before : IsStored whole (as_file d) = stored_draft whole d drafted last in
    let here : file_of s (as_file d) ≡ file_of whole (as_file d) =
    file_stays whole s (as_file d) before (c.sets.holds.stored i (as_file d) (is_in_here table i (as_file d) inside))
    (λ p within. subst (λ log. file_byte s d.page.0 log p ≡ file_byte whole d.page.0 log p) (sym drafted.no_log) (c.content p within)) in
    mends_after new whole (set table i (Some (as_file d))) w found c.sets.holds (omega (arith, count, long)) (sparing_set table i (as_file d) t.sparing few)
    (λ k f at. ⊎_elim
    (λ (a : (k ≡ i) × (Some (as_file d) ≡ Some f)). subst (λ x. file_of s x ≡ file_of whole x) (some_same (as_file d) f a.1) here)
    (λ (a : (k ≢ i) × IsIn table k f). file_stays whole s f (t.holds.stored k f a.1) (c.sets.holds.stored k f at) (c.sets.others k f a.0 a.1))
    (is_in_set table i (Some (as_file d)) k f at))

-- a draft that is a new file, or not yet
pub added_mends : (whole new : List ℕ) (table : Entries) (d : FileAt) (i : ℕ) → IsTable whole table (Some d) → has_few d ≡ true → EndsRight whole d → i < length table → get_or table i None ≡ None → IsNewName table d.name
    → IsOneOf new whole (flagged whole d.page.0 1) → MendsToTable new whole table ⊎ MendsToTable new whole (set table i (Some (as_file d)))
added_mends whole new table d i t few last inside free fresh cut = ⊎_elim
    (λ (none : new ≡ whole). inl (subst (λ image. MendsToTable image whole table) (sym none) (drafted_mends whole table d t)))
    (λ (all : new ≡ flagged whole d.page.0 1). inr (subst (λ image. MendsToTable image whole (set table i (Some (as_file d)))) (sym all)
    (committed_mends (flagged whole d.page.0 1) whole table d i Nothing t few last tt inside (commits whole table d i d.page t.holds refl inside free fresh last))))
    cut

-- A FILE THAT IS REPLACED

module _ (whole : List ℕ) (table : Entries) (d e : FileAt) (i : ℕ) (t : IsTable whole table (Some d)) (is : IsIn table i e) (named_so : e.name ≡ d.name) (few : has_few d ≡ true) (last : EndsRight whole d) where
  abbrev after : Entries
  after = set table i (Some (as_file d))

  -- the draft is valid
  abbrev both : List ℕ
  both = flagged whole d.page.0 1

  abbrev new_header : Header
  new_header = record (draft_header d) { flags = bit_or 2 1 }

  no_log : d.log ≡ None
  no_log = (t.holds.drafted d refl).no_log

  made : Reflags nowhere whole both d.page.0 new_header
  made = valid whole table d t.holds

  old_unit : unit_begun (units_of both) 0 e.page.0 ≡ Some (Extent (file_header e))
  old_unit = replaced_file whole table d e i t.holds is

  apart : e.page.0 ≢ d.page.0
  apart = off_draft whole table d e i e.page.0 t.holds is (extent_here e.page.0 e refl)

  old_found : Contains (files_in (units_of both)) (placed e)
  old_found = found_file (units_of both) e.page.0 (file_header e) old_unit (file_is e.log)

  abbrev new_placed : Placed
  new_placed = record { page = d.page.0; header = new_header }

  new_found : Contains (files_in (units_of both)) new_placed
  new_found = found_file (units_of both) d.page.0 new_header made.here refl

  inside : i < length table
  inside = in_table table i e is

  all : CommitsExtent whole (obsoleted both e.page.0 e.log) table i d
  all = replaces whole table d e i d.page t.holds refl is named_so last

  -- the settled image has the new file
  new_mends : (new : List ℕ) (w : UnderWay) → IsFound new w → settled new w ≡ obsoleted both e.page.0 e.log → MendsToTable new whole after
  new_mends new w found at = committed_mends new whole table d i w t few last found inside (subst (λ s. CommitsExtent whole s table i d) (sym at) all)

  -- the old one has no log, and the new one is over it: the old one goes
  old_goes : e.log ≡ None → IsOver new_placed (placed e) → MendsToTable both whole after
  old_goes none over = new_mends both (Replacing (placed e) new_placed) (record {
    dropped_there = old_found;
    kept_there = new_found;
    apart = apart;
    one_name = named_so;
    plain = ap file_flags none;
    no_log = ap log_number none;
    over = λ zero. over;
  }) (ap (obsoleted both e.page.0) (sym none))

  -- else the new one goes
  abbrev gone : List ℕ
  gone = flagged both d.page.0 4

  new_stays : Stays whole gone table
  new_stays =
      let r = made in
      let now : Header = record new_header { flags = bit_or 3 4 } in
      let s : Reflags nowhere both gone d.page.0 now = flagged_extent nowhere nowhere both d.page.0 new_header 4 r.tiled r.here refl refl (λ q other. refl) in
      let long : length gone ≡ length whole = s.long ∙ r.long in
      undrafted whole gone table d t.holds long s.tiled (inactive (units_of gone) d.page.0 now s.here refl)
      (λ q other. ap active_header (s.others q other ∙ r.others q other))
      (λ k f at. file_body whole gone table (Some d) k f t.holds
      (only_then nowhere whole both gone d.page.0 new_header (Extent (draft_header d)) r (draft_unit whole table d t.holds) (only_one nowhere both gone d.page.0 now (Extent new_header) s r.here)) at)

  -- the old one has a log, or is over the new one
  pub new_goes : ((placed e).header.log_page ≡ 0 → IsOver (placed e) new_placed) → SettlesHolding both whole table
  new_goes over = settles_by both whole table (Some d) (Replacing new_placed (placed e)) t (record {
    dropped_there = new_found;
    kept_there = old_found;
    apart = λ same. apart (sym same);
    one_name = sym named_so;
    plain = refl;
    no_log = ap log_number no_log;
    over = over;
  }) new_stays

  both_mend : MendsToTable both whole table ⊎ MendsToTable both whole after
  both_mend = by_log e.log refl
    where
      before : ((placed e).header.log_page ≡ 0 → IsOver (placed e) new_placed) → MendsToTable both whole table ⊎ MendsToTable both whole after
      before over = inl (settling_mends both whole table (Some d) t (new_goes over))

      by_page : e.log ≡ None → d.pages ≡ e.pages → MendsToTable both whole table ⊎ MendsToTable both whole after
      by_page none same = ⊎_elim
          (λ (front : e.page.0 < d.page.0). inr (old_goes none (inr (sym same, front))))
          (λ (behind : d.page.0 ≤ e.page.0). before (λ zero. inr (same, let other = apart in omega (arith, behind, other))))
          (cases_lt e.page.0 d.page.0)

      by_log : (log : Option PageId) → e.log ≡ log → MendsToTable both whole table ⊎ MendsToTable both whole after
      by_log (Some l) log = before (λ zero. let some : log_number (Some l) ≡ 0 = ap log_number (sym log) ∙ zero in absurd (omega (arith, some)))
      by_log None log = ⊎_elim
          (λ (same : d.pages ≡ e.pages). by_page log same)
          (λ (order : (d.pages < e.pages) ⊎ (e.pages < d.pages)). ⊎_elim
          (λ (less : d.pages < e.pages). before (λ zero. inl less))
          (λ (more : e.pages < d.pages). inr (old_goes log (inl more)))
          order)
          (cases_order d.pages e.pages)

  -- the old extent is obsolete, and its log is not yet
  pub log_unnamed : (l : PageId) → e.log ≡ Some l → IsActiveAt (flagged both e.page.0 4) l.0 19
  log_unnamed l log = left_log both e l made.tiled old_unit (replaced_log whole table d e i l t.holds is log)

  log_left : (l : PageId) → e.log ≡ Some l → MendsToTable (flagged both e.page.0 4) whole after
  log_left l log = new_mends (flagged both e.page.0 4) (Unnamed l.0) (log_unnamed l log) (ap (obsoleted both e.page.0) (sym log))

  half_mends : MendsToTable (flagged both e.page.0 4) whole after
  half_mends = by_log e.log refl
    where
      by_log : (log : Option PageId) → e.log ≡ log → MendsToTable (flagged both e.page.0 4) whole after
      by_log (Some l) log = log_left l log
      by_log None log = new_mends (flagged both e.page.0 4) Nothing tt (ap (obsoleted both e.page.0) (sym log))

  -- the files before, or those after
  pub replacing_mends : (new : List ℕ) → IsCutReplace whole new d.page.0 e.page.0 e.log → MendsToTable new whole table ⊎ MendsToTable new whole after
  replacing_mends new cut = ⊎_elim
      (λ (none : new ≡ whole). inl (subst (λ image. MendsToTable image whole table) (sym none) (drafted_mends whole table d t)))
      (λ (some : IsCutObsolete both new e.page.0 e.log). ⊎_elim
      (λ (valid_too : new ≡ both). subst (λ image. MendsToTable image whole table ⊎ MendsToTable image whole after) (sym valid_too) both_mend)
      (λ (more : (new ≡ flagged both e.page.0 4) ⊎ (new ≡ obsoleted both e.page.0 e.log)). inr (⊎_elim
      (λ (half : new ≡ flagged both e.page.0 4). subst (λ image. MendsToTable image whole after) (sym half) half_mends)
      (λ (done : new ≡ obsoleted both e.page.0 e.log). subst (λ image. MendsToTable image whole after) (sym done) (new_mends (obsoleted both e.page.0 e.log) Nothing tt refl))
      more))
      some)
      cut

  -- where the draft has the bytes of the file, they are the same files
  pub same_mends : (new : List ℕ) → d.kind ≡ e.kind → d.size ≡ e.size → ((p : ℕ) → p < e.size → file_byte whole d.page.0 None p ≡ file_byte whole e.page.0 e.log p) → MendsToTable new whole after → MendsToTable new whole table
  same_mends new kind size same m =
      let drafted = t.holds.drafted d refl in
      let bytes = bytes_same whole whole e (as_file d) (t.holds.stored i e is) (stored_draft whole d drafted last) size
      (λ p low. subst (λ log. file_byte whole d.page.0 log p ≡ file_byte whole e.page.0 e.log p) (sym no_log) (same p low)) in
      let alike : file_of whole (as_file d) ≡ file_of whole e = three (sym named_so) kind bytes in
      let here = is_in_here table i (as_file d) inside in
      mends_same new whole table after
      (λ k f at. ⊎_elim
      (λ (a : k ≡ i). (i, as_file d, here, alike ∙ ap (file_of whole) (some_same e f (sym is ∙ subst (λ j. IsIn table j f) a at))))
      (λ (a : k ≢ i). (k, f, is_in_there table i (Some (as_file d)) k f a at, refl))
      (cases_eq k i))
      (λ k f at. ⊎_elim
      (λ (a : (k ≡ i) × (Some (as_file d) ≡ Some f)). (i, e, is, ap (file_of whole) (sym (some_same (as_file d) f a.1)) ∙ alike))
      (λ (a : (k ≢ i) × IsIn table k f). (k, f, a.1, refl))
      (is_in_set table i (Some (as_file d)) k f at))
      m
    where
      three : {a b : List ℕ} {k l : Kind} {x y : List ℕ} → a ≡ b → k ≡ l → x ≡ y → named a k x ≡ named b l y
      three p q r = cc

-- a file of which the draft is a copy is replaced
pub copied_mends : (whole new : List ℕ) (table : Entries) (draft : Option FileAt) → IsTable whole table draft → TearsReplacing whole new table draft → MendsToTable new whole table
copied_mends whole new table draft t c =
    let few = c.few (t.sparing c.place c.e c.there) in
    let held : IsTable whole table (Some c.d) = subst (IsTable whole table) c.is t in
    let stored = t.holds.stored c.place c.e c.there in
    let size = c.size in
    let last : EndsRight whole c.d = λ some zero. stored.last (omega (arith, some, size)) (sym (c.same (c.e.size - 1) (omega (arith, some, size))) ∙ ap (λ n. file_byte whole c.d.page.0 None (n - 1)) (sym size) ∙ zero) in
    ⊎_elim
    (λ (before : MendsToTable new whole table). before)
    (λ (m : MendsToTable new whole (set table c.place (Some (as_file c.d)))). same_mends whole table c.d c.e c.place held c.there c.name few last new c.kind c.size c.same m)
    (replacing_mends whole table c.d c.e c.place held c.there c.name few last new c.cut)
