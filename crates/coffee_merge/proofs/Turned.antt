-- A place of a table after flags were programmed: the file that stood there is obsolete, and the draft
-- is a file.
use Rattle.std.proofs.Common.{◌≡◌, ◌≢◌, ℕ, ◌-◌, ◌≤◌, ◌<◌, inl, ⊎_elim, true, false, List, length, Option, Some, None, refl, ap, sym, subst, ◌∙◌, arith}
use Rattle.std.specs.Prelude.{set}
use Rattle.afl_base.specs.declared.ids.PageId.{PageId}
use Rattle.coffee_header.specs.declared.header.Header.{Header}
use Rattle.coffee_layout.specs.FileBytes.{file_byte}
use Rattle.coffee_layout.specs.Tiling.{IsTiled, nowhere, units_of}
use Rattle.coffee_layout.specs.declared.file.FileAt.{FileAt}
use Rattle.coffee_layout.proofs.Tilings.{unbroken_tiled}
use Rattle.coffee_log.specs.FileChanges.{IsFile}
use Rattle.coffee_merge.specs.Begun.{active_at}
use Rattle.coffee_merge.specs.Holding.{Entries, HoldsTable, IsDrafted, IsIn, IsStored, Sets, draft_header, file_header, has_extent_at, is_held, log_header}
use Rattle.coffee_merge.proofs.Holdings.{LogAt, draft_unit, extent_here, extent_read, file_not_draft as file_done, file_unit, held_draft, held_in, held_set, holds_pages, is_in_set, log_here, log_unit}
use Rattle.coffee_merge.proofs.Kept.{KeepsBody, body_byte, body_content, body_drafted, body_stored}
use Rattle.coffee_merge.proofs.Retired.{OnlyFlags, body_flags}
use Rattle.padded.proofs.Facts.{true_or_false}

-- the draft as a file
abbrev pub committed : Option FileAt → Option FileAt
committed None = None
committed (Some d) = Some (record d { used = 0 })

-- The extents of the file in a place are no longer active, the draft is a file, and at all other pages
-- the same is active.
pub record Turned (old new : List ℕ) (table : Entries) (draft : Option FileAt) (i : ℕ) : Type 0 where
  pub long : length new ≡ length old
  pub tiled : IsTiled nowhere new (units_of new)
  pub bytes : OnlyFlags old new (units_of old)
  pub gone : (e : FileAt) → IsIn table i e → active_at (units_of new) e.page.0 ≡ None
  pub gone_log : (e : FileAt) (l : PageId) → IsIn table i e → e.log ≡ Some l → active_at (units_of new) l.0 ≡ None
  pub drafted : (d : FileAt) → draft ≡ Some d → active_at (units_of new) d.page.0 ≡ Some (file_header d)
  pub others : (q : ℕ) → ((e : FileAt) → IsIn table i e → has_extent_at q (Some e) ≡ true → ⊥) → (has_extent_at q draft ≡ true → ⊥) → active_at (units_of new) q ≡ active_at (units_of old) q

-- HEADERS

-- the header of an extent of a file: it has the name, and is not under construction
record HeldHeader (image : List ℕ) (e : FileAt) (q : ℕ) : Type 0 where
  header : Header
  active : active_at (units_of image) q ≡ Some header
  name : header.name ≡ e.name
  done : header.flags ≢ 2

held_header : (image : List ℕ) (table : Entries) (draft : Option FileAt) (i : ℕ) (e : FileAt) (q : ℕ) → HoldsTable image table draft → IsIn table i e → has_extent_at q (Some e) ≡ true → HeldHeader image e q
held_header image table draft i e q h is t =
    ⊎_elim
    (λ (a : e.page.0 ≡ q). record { header = file_header e; active = ap (active_at (units_of image)) (sym a) ∙ h.files i e is; name = refl; done = file_done e.log })
    (λ (a : LogAt e q). record { header = log_header e.name; active = ap (active_at (units_of image)) (sym a.place) ∙ h.logs i e a.log is a.is; name = refl; done = λ same. absurd (omega arith) })
    (extent_read q e t)

one_header : (g k : Header) (o : Option Header) → o ≡ Some g → o ≡ Some k → g ≡ k
one_header g k o e f = let both : Some g ≡ Some k = sym e ∙ f in cc

-- files of two places begin no extent at one page
two_places : (image : List ℕ) (table : Entries) (draft : Option FileAt) (i j : ℕ) (e d : FileAt) (q : ℕ) → HoldsTable image table draft → IsIn table i e → IsIn table j d → j ≢ i → has_extent_at q (Some e) ≡ true → has_extent_at q (Some d) ≡ true → ⊥
two_places image table draft i j e d q h is other differ t s =
    let a = held_header image table draft i e q h is t in
    let b = held_header image table draft j d q h other s in
    let same = one_header b.header a.header (active_at (units_of image) q) b.active a.active in
    differ (h.names j i d e other is (sym b.name ∙ ap (λ (g : Header). g.name) same ∙ a.name))

-- nor do a file and the draft
pub file_and_draft : (image : List ℕ) (table : Entries) (draft : Option FileAt) (i : ℕ) (e : FileAt) (q : ℕ) → HoldsTable image table draft → IsIn table i e → has_extent_at q (Some e) ≡ true → has_extent_at q draft ≡ true → ⊥
file_and_draft image table None i e q h is t s = cc
file_and_draft image table (Some d) i e q h is t s =
    let a = held_header image table (Some d) i e q h is t in
    ⊎_elim
    (λ (b : d.page.0 ≡ q).
    let same = one_header a.header (draft_header d) (active_at (units_of image) q) a.active (ap (active_at (units_of image)) (sym b) ∙ h.begun d refl) in
    a.done (ap (λ (g : Header). g.flags) same))
    (λ (b : LogAt d q). let none : None ≡ Some b.log = sym (h.drafted d refl).no_log ∙ b.is in cc)
    (extent_read q d s)

-- BYTES

-- the files and the draft keep the bytes behind their headers
pub file_body : (old new : List ℕ) (table : Entries) (draft : Option FileAt) (k : ℕ) (e : FileAt) → HoldsTable old table draft → OnlyFlags old new (units_of old) → IsIn table k e → KeepsBody old new e.page.0 e.pages e.log
file_body old new table draft k e h only is =
    body_flags old new (units_of old) e.page.0 (file_header e) (log_header e.name) e.log (holds_pages old table draft h) only (file_unit old table draft k e h is) (λ l log. log_unit old table draft k e l h is log) refl

pub draft_body : (old new : List ℕ) (table : Entries) (d : FileAt) → HoldsTable old table (Some d) → OnlyFlags old new (units_of old) → KeepsBody old new d.page.0 d.pages None
draft_body old new table d h only =
    body_flags old new (units_of old) d.page.0 (draft_header d) (log_header d.name) None (holds_pages old table (Some d) h) only (draft_unit old table d h) (λ l log. cc) refl

-- a draft whose last byte is not zero is stored as a file
drafted_stored : (old new : List ℕ) (table : Entries) (d : FileAt) → HoldsTable old table (Some d) → length new ≡ length old → OnlyFlags old new (units_of old) → (1 ≤ d.size → file_byte new d.page.0 None (d.size - 1) ≢ 0) → IsStored new (record d { used = 0 })
drafted_stored old new table d h long only last =
    let s : IsDrafted new d = body_drafted old new d long (draft_body old new table d h only) (h.drafted d refl) in
    let fits = s.fits in
    record {
      fits = record { some = fits.some; placed = fits.placed; size = fits.size; log = fits.log; used = omega arith; unused = λ none. refl };
      shape = s.shape;
      file = subst (λ log. IsFile new d.page.0 d.pages log 0 d.size) (sym s.no_log) s.file;
      last = λ some. subst (λ log. file_byte new d.page.0 log (d.size - 1) ≢ 0) (sym s.no_log) (last some);
    }

-- THE TABLE

-- what was committed is the draft
committed_is : (draft : Option FileAt) (f : FileAt) (P : FileAt → Type 0) → committed draft ≡ Some f → ((d : FileAt) → draft ≡ Some d → P (record d { used = 0 })) → P f
committed_is None f P is p = cc
committed_is (Some d) f P is p = let same : record d { used = 0 } ≡ f = cc in subst P same (p d refl)

committed_extent : (draft : Option FileAt) (q : ℕ) → has_extent_at q draft ≡ true → has_extent_at q (committed draft) ≡ true
committed_extent None q t = t
committed_extent (Some d) q t = t

-- what is active afterwards is held
turned_held : (old new : List ℕ) (table : Entries) (draft : Option FileAt) (i : ℕ) (page : ℕ) (g : Header) → HoldsTable old table draft → Turned old new table draft i → active_at (units_of new) page ≡ Some g → is_held table draft page ≡ true
turned_held old new table draft i page g h t is =
    ⊎_elim
    (λ (held : is_held table draft page ≡ true). held)
    (λ (not : is_held table draft page ≡ false).
    let bad : is_held table draft page ≡ true → ⊥ = λ held. true_false (sym held ∙ not) in
    h.only page g (sym (t.others page (λ e in_place here. bad (held_in table draft i e page in_place here)) (λ here. bad (held_draft table draft page here))) ∙ is))
    (true_or_false (is_held table draft page))
  where
    true_false : true ≡ false → ⊥
    true_false e = cc

none_some : (g : Header) (o : Option Header) → o ≡ None → o ≡ Some g → ⊥
none_some g o e f = let bad : None ≡ Some g = sym e ∙ f in cc

-- at the pages of a file that was the place's nothing is active
turned_gone : (old new : List ℕ) (table : Entries) (draft : Option FileAt) (i : ℕ) (page : ℕ) (g : Header) (e : FileAt) → Turned old new table draft i → active_at (units_of new) page ≡ Some g → IsIn table i e → has_extent_at page (Some e) ≡ true → ⊥
turned_gone old new table draft i page g e t is in_place here =
    ⊎_elim
    (λ (a : e.page.0 ≡ page). none_some g (active_at (units_of new) page) (ap (active_at (units_of new)) (sym a) ∙ t.gone e in_place) is)
    (λ (a : LogAt e page). none_some g (active_at (units_of new) page) (ap (active_at (units_of new)) (sym a.place) ∙ t.gone_log e a.log in_place a.is) is)
    (extent_read page e here)

-- at those of the files in other places nothing changes
turned_same : (old new : List ℕ) (table : Entries) (draft : Option FileAt) (i k : ℕ) (e : FileAt) (q : ℕ) → HoldsTable old table draft → Turned old new table draft i → k ≢ i → IsIn table k e → has_extent_at q (Some e) ≡ true → active_at (units_of new) q ≡ active_at (units_of old) q
turned_same old new table draft i k e q h t differ is here =
    t.others q (λ f in_place there. two_places old table draft i k f e q h in_place is differ there here) (λ there. file_and_draft old table draft k e q h is here there)

-- no other file has the name of the draft
abbrev pub IsNewTo : Entries → ℕ → Option FileAt → Type 0
IsNewTo table i draft = (k : ℕ) (e d : FileAt) → k ≢ i → IsIn table k e → draft ≡ Some d → e.name ≡ d.name → ⊥

-- the last byte of the draft is not zero
abbrev pub EndsWith : List ℕ → Option FileAt → Type 0
EndsWith image draft = (d : FileAt) → draft ≡ Some d → 1 ≤ d.size → file_byte image d.page.0 None (d.size - 1) ≢ 0

turned_names : (old : List ℕ) (table : Entries) (draft : Option FileAt) (i j k : ℕ) (e f : FileAt) → HoldsTable old table draft → IsNewTo table i draft → IsIn (set table i (committed draft)) j e → IsIn (set table i (committed draft)) k f → e.name ≡ f.name → j ≡ k
turned_names old table draft i j k e f h fresh is other same =
    ⊎_elim
    (λ (a : (j ≡ i) × (committed draft ≡ Some e)). ⊎_elim
    (λ (b : (k ≡ i) × (committed draft ≡ Some f)). a.0 ∙ sym b.0)
    (λ (b : (k ≢ i) × IsIn table k f). absurd (committed_is draft e (λ (x : FileAt). f.name ≡ x.name → ⊥) a.1 (λ d drafted clash. fresh k f d b.0 b.1 drafted clash) (sym same)))
    (is_in_set table i (committed draft) k f other))
    (λ (a : (j ≢ i) × IsIn table j e). ⊎_elim
    (λ (b : (k ≡ i) × (committed draft ≡ Some f)). absurd (committed_is draft f (λ (x : FileAt). e.name ≡ x.name → ⊥) b.1 (λ d drafted clash. fresh j e d a.0 a.1 drafted clash) same))
    (λ (b : (k ≢ i) × IsIn table k f). h.names j k e f a.1 b.1 same)
    (is_in_set table i (committed draft) k f other))
    (is_in_set table i (committed draft) j e is)

turned_stored : (old new : List ℕ) (table : Entries) (draft : Option FileAt) (i k : ℕ) (e : FileAt) → HoldsTable old table draft → Turned old new table draft i → EndsWith old draft → IsIn (set table i (committed draft)) k e → IsStored new e
turned_stored old new table draft i k e h t ends is =
    ⊎_elim
    (λ (a : (k ≡ i) × (committed draft ≡ Some e)). committed_is draft e (IsStored new) a.1 (λ d drafted.
    let hd : HoldsTable old table (Some d) = subst (λ o. HoldsTable old table o) drafted h in
    let room = (hd.drafted d refl).fits.size in
    drafted_stored old new table d hd t.long t.bytes
    (λ some none. ends d drafted some (sym (body_byte old new d.page.0 d.pages None (d.size - 1) t.long (draft_body old new table d hd t.bytes) (omega arith)) ∙ none))))
    (λ (a : (k ≢ i) × IsIn table k e). body_stored old new e t.long (file_body old new table draft k e h t.bytes a.1) (h.stored k e a.1))
    (is_in_set table i (committed draft) k e is)

turned_files : (old new : List ℕ) (table : Entries) (draft : Option FileAt) (i k : ℕ) (e : FileAt) → HoldsTable old table draft → Turned old new table draft i → IsIn (set table i (committed draft)) k e → active_at (units_of new) e.page.0 ≡ Some (file_header e)
turned_files old new table draft i k e h t is =
    ⊎_elim
    (λ (a : (k ≡ i) × (committed draft ≡ Some e)). committed_is draft e (λ (x : FileAt). active_at (units_of new) x.page.0 ≡ Some (file_header x)) a.1 t.drafted)
    (λ (a : (k ≢ i) × IsIn table k e). turned_same old new table draft i k e e.page.0 h t a.0 a.1 (extent_here e.page.0 e refl) ∙ h.files k e a.1)
    (is_in_set table i (committed draft) k e is)

turned_logs : (old new : List ℕ) (table : Entries) (draft : Option FileAt) (i k : ℕ) (e : FileAt) (l : PageId) → HoldsTable old table draft → Turned old new table draft i → IsIn (set table i (committed draft)) k e → e.log ≡ Some l → active_at (units_of new) l.0 ≡ Some (log_header e.name)
turned_logs old new table draft i k e l h t is log =
    ⊎_elim
    (λ (a : (k ≡ i) × (committed draft ≡ Some e)).
    absurd (committed_is draft e (λ (x : FileAt). x.log ≡ Some l → ⊥) a.1 (λ d drafted some. let none : None ≡ Some l = sym (h.drafted d drafted).no_log ∙ some in cc) log))
    (λ (a : (k ≢ i) × IsIn table k e). turned_same old new table draft i k e l.0 h t a.0 a.1 (log_here l.0 e l log refl) ∙ h.logs k e l a.1 log)
    (is_in_set table i (committed draft) k e is)

-- the table after the change is held, and all other files have their content
pub turned_sets : (old new : List ℕ) (table : Entries) (draft : Option FileAt) (i : ℕ) → HoldsTable old table draft → i < length table → Turned old new table draft i → IsNewTo table i draft → EndsWith old draft → Sets old new table i (committed draft)
turned_sets old new table draft i h inside t fresh ends =
    let whole = h.whole in
    let long = t.long in
    record {
      holds = record {
        whole = omega arith;
        tiled = unbroken_tiled nowhere new (units_of new) t.tiled;
        files = λ k e is. turned_files old new table draft i k e h t is;
        logs = λ k e l is log. turned_logs old new table draft i k e l h t is log;
        begun = λ d none. cc;
        only = λ page g is.
            held_set table i (committed draft) draft None page inside (turned_held old new table draft i page g h t is)
            (λ e in_place here. absurd (turned_gone old new table draft i page g e t is in_place here))
            (λ here. inl (committed_extent draft page here));
        names = λ j k e f is other same. turned_names old table draft i j k e f h fresh is other same;
        stored = λ k e is. turned_stored old new table draft i k e h t ends is;
        drafted = λ d none. cc;
      };
      others = λ k e differ is. body_content old new e long (file_body old new table draft k e h t.bytes is);
    }
