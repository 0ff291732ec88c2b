-- A file that is put together with its log: a new extent, the copy of the file into it, and three flags.
use Rattle.std.proofs.Common.{length, map, true, false, ◌++◌, replicate, ◌≡◌, ◌≢◌, ℕ, ◌-◌, ◌*◌, ◌≤◌, ◌<◌, ◌==◌, List, Some, None, bit_or, refl, ap, sym, subst, ◌∙◌, arith}
use Rattle.afl_base.specs.declared.ids.PageId.{PageId}
use Rattle.coffee_cuts.proofs.TornAlone.{contains_made}
use Rattle.coffee_header.specs.Headers.{is_flags}
use Rattle.coffee_header.specs.declared.header.Header.{Header}
use Rattle.coffee_layout.specs.FileBytes.{file_byte}
use Rattle.coffee_layout.specs.Files.{Placed, entry_of, extents, files_in, is_log, listed, logs_in}
use Rattle.coffee_layout.specs.Rules.{broken_image}
use Rattle.coffee_layout.specs.Tiling.{IsTiled, nowhere, units_of}
use Rattle.coffee_layout.specs.Units.{pages_of}
use Rattle.coffee_layout.specs.declared.file.FileAt.{FileAt}
use Rattle.coffee_layout.specs.declared.unit.Unit.TheVariants.{Extent}
use Rattle.coffee_cuts.specs.Cuts.{IsActiveAt}
use Rattle.coffee_cuts.specs.Mending.{IsTable}
use Rattle.coffee_cuts.proofs.Mended.{sparing_set}
use Rattle.coffee_merge.specs.Begun.{unit_begun}
use Rattle.coffee_merge.proofs.Begun.{active_begun}
use Rattle.coffee_merge.proofs.SoundHolders.{entry_among, entry_is, log_holder, placed}
use Rattle.coffee_merge.proofs.SoundUnits.{Among, among_filter, begun_extent}
use Rattle.coffee_merge.specs.Flags.{flagged, obsoleted}
use Rattle.coffee_merge.specs.Holding.{CommitsExtent, Entries, HoldsTable, IsIn, KeepsContents, extent_of, file_flags, file_header, has_shape, log_header, log_number}
use Rattle.coffee_merge.proofs.Commits.{replaced_file, replaced_log, replaces, valid}
use Rattle.coffee_merge.proofs.Marked.{flagged_extent}
use Rattle.coffee_merge.proofs.MovedFiles.{moves_files}
use Rattle.coffee_merge.proofs.SoundTables.{sound_held}
use Rattle.padded.proofs.Facts.{eq_true}
use Rattle.std.specs.List.{All, Contains}
use Rattle.std.specs.Prelude.{set}
use Rattle.std.proofs.lemmas.List.{length-set}
use Rattle.afl_base.specs.FileErrors.{OnSpace}
use Rattle.afl_base.specs.declared.kind.FileError.{FileError}
use Rattle.afl_base.specs.declared.kind.FileError.TheVariants.{Space, Failed}
use Rattle.std.specs.Prelude.{Result, Ok, Err}
use Rattle.coffee_merge.proofs.MovedFiles.{stays_files}
use Rattle.coffee_merge.proofs.SoundLogs.{used_is}
use Rattle.coffee_mend.specs.Joined.{LacksExtent, LeavesTable, IsJoined, JoinsFile, joined_at, old_log_header}
use Rattle.coffee_merge.proofs.Retired.{one_flags as same_flags}

-- OBSOLETE in the header of a file: its log stands as it did
pub log_left : (image : List ℕ) (page log : ℕ) (g : Header) (name : List ℕ) → IsTiled nowhere image (units_of image) → unit_begun (units_of image) 0 page ≡ Some (Extent g) → g.flags ≡ 11
    → unit_begun (units_of image) 0 log ≡ Some (Extent (log_header name))
    → IsTiled nowhere (flagged image page 4) (units_of (flagged image page 4)) × (unit_begun (units_of (flagged image page 4)) 0 log ≡ Some (Extent (log_header name)))
log_left image page log g name tiled here eleven there =
    let r = flagged_extent nowhere nowhere image page g 4 tiled here (ap (λ n. is_flags (bit_or n 4)) eleven) (ap (λ n. bit_or n 4 == 2) eleven) (λ q other. refl) in
    let apart : log ≢ page = λ same.
    let flags : g.flags ≡ 19 = same_flags g (log_header name) (sym here ∙ ap (unit_begun (units_of image) 0) (sym same) ∙ there) in
    absurd (omega (arith, flags, eleven)) in
    (r.tiled, r.others log apart ∙ there)

-- and in that of the log too: it is obsolete
pub log_gone : (image : List ℕ) (page log : ℕ) (g : Header) (name : List ℕ) → IsTiled nowhere image (units_of image) → unit_begun (units_of image) 0 page ≡ Some (Extent g) → g.flags ≡ 11
    → unit_begun (units_of image) 0 log ≡ Some (Extent (log_header name)) → unit_begun (units_of (flagged (flagged image page 4) log 4)) 0 log ≡ Some (Extent (old_log_header name))
log_gone image page log g name tiled here eleven there =
    let l = log_left image page log g name tiled here eleven there in
    (flagged_extent nowhere nowhere (flagged image page 4) log (log_header name) 4 l.0 l.1 refl refl (λ q other. refl)).here

-- the extent of a file that is put together with its log
abbrev pub joined_draft : FileAt → PageId → FileAt
joined_draft file page = extent_of file.name file.kind page.0 file.pages file.size

module _ (old shown : List ℕ) (table : Entries) (i : ℕ) (file : FileAt) (page log : PageId) (t : IsTable old table None) (is : IsIn table i file) (logged : file.log ≡ Some log)
    (h : HoldsTable shown table (Some (joined_draft file page))) (kept : KeepsContents old shown table) (same : (p : ℕ) → p < file.size → file_byte shown page.0 None p ≡ file_byte old file.page.0 file.log p) where
  abbrev both : List ℕ
  both = flagged shown page.0 1

  -- the image in which the new extent is valid, and the old one and its log are obsolete
  abbrev pub all : List ℕ
  all = obsoleted both file.page.0 (Some log)

  pub ends_right : 1 ≤ file.size → file_byte shown page.0 None (file.size - 1) ≢ 0
  ends_right some none = (t.holds.stored i file is).last some (sym (same (file.size - 1) (omega (arith, some))) ∙ none)

  joins : JoinsFile old all table i file (joined_at file page) log
  joins =
      let stored = t.holds.stored i file is in
      let room = stored.fits.size in
      let d : FileAt = joined_draft file page in
      let m : CommitsExtent shown all table i d = subst (λ o. CommitsExtent shown (obsoleted both file.page.0 o) table i d) logged (replaces shown table d file i page h refl is refl ends_right) in
      record {
        moves = record {
          sets = record { holds = m.sets.holds; others = λ k e other there p low. m.sets.others k e other there p low ∙ kept k e there p low };
          same = λ p low. m.content p (omega arith) ∙ same p low;
        };
        gone = log_gone both file.page.0 log.0 (file_header file) file.name (valid shown table d h).tiled (replaced_file shown table d file i h is) (ap file_flags logged) (replaced_log shown table d file i log h is logged);
      }

  pub joined : IsJoined old all log.0
  joined =
      let count = t.few in
      let long = length-set table i (Some (joined_at file page)) in
      record {
        keeps = record {
          table = set table i (Some (joined_at file page));
          holds = joins.moves.sets.holds;
          short = omega (arith, count, long);
          few = λ k e at. sparing_set table i (joined_at file page) t.sparing (t.sparing i file is) k e at;
          same = moves_files old all table i file (joined_at file page) t.holds is joins.moves refl refl refl;
        };
        name = file.name;
        gone = joins.gone;
      }

-- an error of a call that is handed on
pub space_on : {T U : Type 0} (r : Result T FileError) (q : Result U FileError) (e : FileError) (P Q : ℕ → Type 0) → r ≡ Err e → q ≡ Err e → ((need : ℕ) → P need → Q need) → OnSpace r P → OnSpace q Q
space_on r (Ok x) e P Q was is more p = tt
space_on r (Err Failed) e P Q was is more p = tt
space_on r (Err (Space need)) e P Q was is more p = let same : e ≡ Space need = cc in more need (rw (was ∙ ap (λ x. Err x) same) at p)

-- the same where the error is that the flash failed
pub failed_on : {T U : Type 0} (r : Result T FileError) (q : Result U FileError) (e : FileError) → r ≡ Err e → q ≡ Err e → q ≡ Err Failed → r ≡ Err Failed
failed_on r q Failed was is failed = was
failed_on r q (Space need) was is failed = let no : ⊥ = cc in absurd no

-- where no pages are had for a file with a log
pub lacks_room : (old new : List ℕ) (table : Entries) (i : ℕ) (file : FileAt) (log : PageId) (need : ℕ) → IsTable old table None → IsIn table i file → file.log ≡ Some log → LeavesTable old new table need → need ≡ file.pages
    → LacksExtent old new log.0 need
lacks_room old new table i file log need t is logged l pages = record {
  keeps = record {
    table = table;
    holds = l.stays.holds;
    short = t.few;
    few = t.sparing;
    same = stays_files old new table t.holds l.stays;
  };
  name = file.name;
  stands = l.stays.holds.logs i file log is logged;
  used = used_is new log.0 file.used ((l.stays.holds.stored i file is).file.logged log logged) ∙ sym (used_is old log.0 file.used ((t.holds.stored i file is).file.logged log logged));
  wants = record {
    page = file.page.0;
    header = file_header file;
    there = l.stays.holds.files i file is;
    names = ap log_number logged;
    pages_are = sym pages;
    shape = let s = l.stays.holds.stored i file is in ap (λ (x : FileAt). has_shape x.kind x.pages) (entry_is new file s) ∙ s.shape;
  };
  cramped = l.cramped;
}

-- ---- which file has a log

-- a file among some has the log at a page, and the pages of its kind
pub record HasLogOf (files : List FileAt) (log : PageId) : Type 0 where
  pub file : FileAt
  pub there : Contains files file
  pub logged : file.log ≡ Some log
  pub shape : has_shape file.kind file.pages ≡ true

-- of a sound image each active log is that of a file that is listed
pub log_listed : (image : List ℕ) (log : PageId) → broken_image image ≡ None → 256 * pages_of image ≡ length image → IsActiveAt image log.0 19 → HasLogOf (listed image) log
log_listed image log sound whole a =
    let holds : HoldsTable image (map Some (listed image) ++ replicate 0 None) None = sound_held image 0 sound whole in
    let g : Placed = record { page = log.0; header = a.header } in
    let begun = (active_begun (units_of image) log.0 a.header a.there).0 in
    let there : Among (record { page = log.0; header = a.header }) (logs_in (units_of image)) =
    among_filter is_log g (extents 0 (units_of image)) (begun_extent (units_of image) 0 log.0 a.header begun) (eq_true a.header.flags 19 a.flags_are) in
    let by = log_holder image (map Some (listed image) ++ replicate 0 None) g holds there in
    let page : by.log.0 ≡ log.0 = sym (ap (λ (p : Placed). p.page) by.is) in
    let same : by.log ≡ log = ap (λ n. record { 0 = n }) page in
    record {
      file = by.entry;
      there = subst (Contains (listed image)) (entry_is image by.entry (holds.stored by.place by.entry by.is_in))
          (contains_made (entry_of image) (files_in (units_of image)) (placed by.entry) (entry_among image (map Some (listed image) ++ replicate 0 None) by.place by.entry holds by.is_in));
      logged = by.logged ∙ ap Some same;
      shape = (holds.stored by.place by.entry by.is_in).shape;
    }

-- so it is found
pub log_found : (files : List FileAt) (log : PageId) → HasLogOf files log → All (λ e. e.log ≡ Some log → has_shape e.kind e.pages ≡ false) files → ⊥
log_found files log l none =
    let at = l.there in
    let misses : l.file.log ≡ Some log → has_shape l.file.kind l.file.pages ≡ false =
    subst (λ (e : FileAt). e.log ≡ Some log → has_shape e.kind e.pages ≡ false) at.2 (none at.0 l.file at.1) in
    let no : true ≡ false = sym l.shape ∙ misses l.logged in
    cc
