-- Which pages that were free a change leaves in use.
use Rattle.std.proofs.Common.{◌≡◌, inl, inr, ⊎_elim, ℕ, ◌+◌, ◌<◌, ◌≤◌, Bool, true, false, not, ◌&&◌, List, length, set, Option, Some, None, IsTrue, refl, sym, ap, ◌∙◌, subst, arith}
use Rattle.std.specs.Prelude.{Result, Err}
use Rattle.std.proofs.lemmas.Bool.{cases_lt}
use Rattle.std.proofs.lemmas.List.{get_or-set_same}
use Rattle.afl_base.specs.FileErrors.{OnSpace, UnlessFailed}
use Rattle.afl_base.specs.Files.{Becomes, File, IsLive, bytes_at, file_at, size_at}
use Rattle.afl_base.specs.declared.ids.PageId.{PageId}
use Rattle.afl_base.specs.declared.kind.FileError.{FileError}
use Rattle.afl_base.specs.declared.kind.FileError.TheVariants.{Space, Failed}
use Rattle.afl_base.specs.declared.kind.Kind.{Kind}
use Rattle.afl_base.specs.declared.kind.Kind.TheVariants.{Doubling}
use Rattle.coffee_layout.specs.FileBytes.{file_byte}
use Rattle.coffee_layout.specs.declared.file.FileAt.{FileAt}
use Rattle.coffee_merge.specs.Holding.{HoldsTable, IsIn, Entries, TakesOnly, extent_of, is_free_at}
use Rattle.coffee_merge.specs.Outcomes.{LogsFile, MovesFile}
use Rattle.coffee_merge.specs.Takes.{KeepsFree}
use Rattle.coffee_merge.proofs.FreeUnits.{frees_free, takes_free}
use Rattle.coffee_merge.proofs.Lowest.{takes_more}
use Rattle.coffee_merge.proofs.Taken.{takes_then}
use Rattle.coffee_volume.specs.Lowest.{LooksFor, PlacesDraft, PlacesFile, Provides, StepsTo, Stops, TakesStep, log_for}
use Rattle.coffee_volume.specs.Steps.{step_for}
use Rattle.coffee_volume.specs.Taking.{IsFileOf, LiesIn, TakesForDraft, TakesForFile, TakesNone, TakesWithin}
use Rattle.coffee_volume.specs.Volumes.{AtEntry, EntryTable, FromTo, IsEntry, files_seen, places, state_seen}
use Rattle.coffee_volume.specs.declared.entry.Entry.{Entry}
use Rattle.coffee_volume.specs.declared.step.Step.TheVariants.{Grow, Merge, Log}
use Rattle.coffee_volume.proofs.Changes.{BeginsDraft, MakesFile, draft_begun, held, made_sets}
use Rattle.coffee_volume.proofs.Drafted.{first_some}
use Rattle.coffee_volume.proofs.Tables.{entry_seen, file_of, in_places, length_places, one_entry, told_by}
use Rattle.padded.proofs.Facts.{true_or_false, yes_no}

-- a page is free, or lies in the pages that may be taken
only_lies : (old new : List ℕ) (page pages p : ℕ) → TakesOnly old new page pages → is_free_at old p ≡ true → is_free_at new p ≡ false → (page ≤ p) × (p < page + pages)
only_lies old new page pages p takes free taken = ⊎_elim
    (λ (before : p < page). yes_no (is_free_at new p) (takes p free (λ a b. omega arith)) taken)
    (λ (from : page ≤ p). ⊎_elim
    (λ (below : p < page + pages). (from, below))
    (λ (behind : page + pages ≤ p). yes_no (is_free_at new p) (takes p free (λ a b. omega arith)) taken)
    (cases_lt p (page + pages)))
    (cases_lt p page)

pub none_taken : (old new : List ℕ) → TakesOnly old new 0 0 → TakesNone old new
none_taken old new takes = λ p free. takes p free (λ a b. omega arith)

pub free_taken : (old new : List ℕ) → KeepsFree old new → TakesNone old new
free_taken old new keeps = λ p free. keeps p ∙ free

-- the pages of an extent
pub extent_taken : (old new : List ℕ) (e : FileAt) → TakesOnly old new e.page.0 e.pages → TakesWithin e old new
extent_taken old new e takes = λ p free taken. inl (only_lies old new e.page.0 e.pages p takes free taken)

-- the pages of a log
log_taken : (old new : List ℕ) (e : FileAt) (l : PageId) → e.log ≡ Some l → TakesOnly old new l.0 16 → TakesWithin e old new
log_taken old new e l log takes = λ p free taken. inr (let both = only_lies old new l.0 16 p takes free taken in (l, log, both.0, both.1))

-- none
pub nothing_taken : (old new : List ℕ) (e : FileAt) → TakesNone old new → TakesWithin e old new
nothing_taken old new e takes = λ p free taken. yes_no (is_free_at new p) (takes p free) taken

-- a file of the table takes pages
pub file_taken : (old new : List ℕ) (table : Entries) (draft : Option FileAt) (i : ℕ) (e : FileAt) → HoldsTable new table draft → IsIn table i e → TakesWithin e old new → TakesForFile e.name old new
file_taken old new table draft i e h is takes = λ p free taken.
    (e, record { name = refl; active = h.files i e is; logged = λ l log. h.logs i e l is log; stored = h.stored i e is }, takes p free taken)

-- a draft does
pub draft_taken : (old new : List ℕ) (table : Entries) (d : FileAt) → HoldsTable new table (Some d) → TakesWithin d old new → TakesForDraft d.name old new
draft_taken old new table d h takes = λ p free taken.
    (d, record { name = refl; begun = h.begun d refl; no_log = (h.drafted d refl).no_log }, takes p free taken)

-- CALLS

-- an extent that is begun and committed for a new file
pub made_taken : (tells failed : Bool) (old mid new : List ℕ) (table : EntryTable) (draft : Option FileAt) (i : ℕ) (name : List ℕ) (kind : Kind) (page : PageId) (pages : ℕ) (f : Entry) → MakesFile tells failed old mid new table draft i name kind page pages f
    → IsTrue (tells && not failed) → TakesForFile name old new
made_taken tells failed old mid new table draft i name kind page pages f m told =
    let both = told_by tells failed told in
    let e : FileAt = extent_of name kind page.0 pages 0 in
    let some = first_some kind m.is_kind in
    let number = m.number in
    let b = m.begun both.0 (places table) 0 (held tells failed old table draft m.stands.told m.idle both.0 both.1) (omega arith) in
    let takes = takes_then old mid new page.0 pages b.taken (takes_free mid new (m.keeps_free both.0 (places table) e b.begins.holds refl)) in
    let sets = made_sets tells failed old mid new table draft i name kind page pages f m both.0 both.1 in
    let inside : i < length (places table) = omega (arith, length_places table, m.inside) in
    file_taken old new (set (places table) i (Some e)) None i e sets.holds (get_or-set_same (places table) i (Some e) None inside) (extent_taken old new e takes)

pub made_lowest : (tells failed : Bool) (old mid new : List ℕ) (table : EntryTable) (draft : Option FileAt) (i : ℕ) (name : List ℕ) (kind : Kind) (page : PageId) (pages : ℕ) (f : Entry) → MakesFile tells failed old mid new table draft i name kind page pages f
    → IsTrue (tells && not failed) → PlacesFile name pages old new
made_lowest tells failed old mid new table draft i name kind page pages f m told =
    let both = told_by tells failed told in
    let e : FileAt = extent_of name kind page.0 pages 0 in
    let some = first_some kind m.is_kind in
    let number = m.number in
    let b = m.begun both.0 (places table) 0 (held tells failed old table draft m.stands.told m.idle both.0 both.1) (omega arith) in
    let sets = made_sets tells failed old mid new table draft i name kind page pages f m both.0 both.1 in
    let inside : i < length (places table) = omega (arith, length_places table, m.inside) in
    let is : IsIn (set (places table) i (Some e)) i e = get_or-set_same (places table) i (Some e) None inside in
    record {
      file = e;
      is = record { name = refl; active = sets.holds.files i e is; logged = λ l log. absurd (cc); stored = sets.holds.stored i e is };
      many = refl;
      takes = takes_more old mid new page.0 pages None b.lowest
          (λ p out apart. m.other_pages both.0 p (λ same. out (omega (arith, same)) (omega (arith, same))))
          (frees_free mid new (m.keeps_free both.0 (places table) e b.begins.holds refl));
    }

-- a draft that is begun
pub begun_taken : (tells failed : Bool) (old new : List ℕ) (table : EntryTable) (draft : Option FileAt) (name : List ℕ) (page pages size : ℕ) → BeginsDraft tells failed old new table draft name page pages size
    → IsTrue (tells && not failed) → TakesForDraft name old new
begun_taken tells failed old new table draft name page pages size d told =
    let both = told_by tells failed told in
    let b = draft_begun tells failed old new table draft name page pages size d both.0 both.1 in
    draft_taken old new (places table) (extent_of name Doubling page pages size) b.begins.holds (extent_taken old new (extent_of name Doubling page pages size) b.taken)

pub begun_lowest : (tells failed : Bool) (old new : List ℕ) (table : EntryTable) (draft : Option FileAt) (name : List ℕ) (page pages size : ℕ) → BeginsDraft tells failed old new table draft name page pages size
    → IsTrue (tells && not failed) → PlacesDraft name pages old new
begun_lowest tells failed old new table draft name page pages size d told =
    let both = told_by tells failed told in
    let b = draft_begun tells failed old new table draft name page pages size d both.0 both.1 in
    record {
      draft = extent_of name Doubling page pages size;
      is = record { name = refl; begun = b.begins.holds.begun (extent_of name Doubling page pages size) refl; no_log = refl };
      many = refl;
      takes = b.lowest;
    }

-- THE STEPS OF A FILE

-- a file that is grown or merged has moved into its new extent
pub grow_takes : (old new : List ℕ) (table : Entries) (i : ℕ) (from to : FileAt) → MovesFile old new table i from to → TakesStep Grow old new table i from to
grow_takes old new table i from to m = record { moves = m.moves; taken = extent_taken old new to m.taken; lowest = m.lowest }

pub merge_takes : (old new : List ℕ) (table : Entries) (i : ℕ) (from to : FileAt) → MovesFile old new table i from to → TakesStep Merge old new table i from to
merge_takes old new table i from to m = record { moves = m.moves; taken = extent_taken old new to m.taken; lowest = m.lowest }

-- and one that got a log has stayed where it was
pub log_takes : (old new : List ℕ) (table : Entries) (i : ℕ) (e : FileAt) (l : PageId) → HoldsTable old table None → IsIn table i e → e.log ≡ None → LogsFile old new table i e l → TakesStep Log old new table i e (record e { log = Some l })
log_takes old new table i e l h is none has =
    let to : FileAt = record e { log = Some l } in
    let room = (h.stored i e is).fits.size in
    record {
      moves = record { sets = has.logs.sets; same = λ p low. has.logs.content p (omega arith) ∙ ap (λ (o : Option PageId). file_byte old e.page.0 o p) (sym none) };
      taken = log_taken old new to l refl has.taken;
      lowest = has.lowest;
    }

-- the entry in a place that was set
pub set_entry : (table : EntryTable) (i : ℕ) (f e : Entry) → i < length table → IsEntry (set table i (Some f)) i e → f ≡ e
set_entry table i f e inside is = one_entry (set table i (Some f)) i f e (get_or-set_same table i (Some f) None inside) is

-- a file that got a log has its pages still
pub log_lies : (from to : FileAt) (p : ℕ) → to ≡ record from { log = to.log } → from.log ≡ None → LiesIn from p → LiesIn to p
log_lies from to p is bare (inl within) =
    let page : to.page.0 ≡ from.page.0 = ap (λ (f : FileAt). f.page.0) is in
    let pages : to.pages ≡ from.pages = ap (λ (f : FileAt). f.pages) is in
    inl (omega (arith, page, within.0), omega (arith, page, pages, within.1))
log_lies from to p is bare (inr logged) = absurd (let both : None ≡ Some logged.0 = sym bare ∙ logged.1 in cc)

-- one step after another
both_taken : (old mid new : List ℕ) (e d : FileAt) → TakesWithin e old mid → ((p : ℕ) → LiesIn e p → LiesIn d p) → TakesWithin d mid new → TakesWithin d old new
both_taken old mid new e d first more second = λ p free taken. ⊎_elim
    (λ (still : is_free_at mid p ≡ true). second p still taken)
    (λ (gone : is_free_at mid p ≡ false). more p (first p free gone))
    (true_or_false (is_free_at mid p))

-- what `prepare` leaves of a file after its steps
pub record Steps (tells before between failed : Bool) (old mid new : List ℕ) (table turned now : EntryTable) (draft begun left : Option FileAt) (i : ℕ) : Type 0 where
  pub first : Becomes (state_seen (tells && not before) old table draft) (state_seen (tells && not between) mid turned begun) i (size_at (files_seen (tells && not before) old table) i) (bytes_at (files_seen (tells && not before) old table) i)
  pub second : Becomes (state_seen (tells && not between) mid turned begun) (state_seen (tells && not failed) new now left) i (size_at (files_seen (tells && not between) mid turned) i) (bytes_at (files_seen (tells && not between) mid turned) i)
  pub told : IsTrue tells → failed ≡ false → HoldsTable new (places now) left
  pub taken : IsTrue (tells && not before) → (e : Entry) → IsEntry turned i e → TakesWithin e.at old mid
  pub more : (e d : Entry) → IsEntry turned i e → IsEntry now i d → (p : ℕ) → LiesIn e.at p → LiesIn d.at p
  pub then_taken : IsTrue (tells && not between) → (d : Entry) → IsEntry now i d → TakesWithin d.at mid new

pub steps_taken : (tells before between failed : Bool) (old mid new : List ℕ) (table turned now : EntryTable) (draft begun left : Option FileAt) (i : ℕ) → Steps tells before between failed old mid new table turned now draft begun left i
    → IsTrue (tells && not before) → TakesForFile (file_at (files_seen (tells && not before) old table) i).name old new
steps_taken tells before between failed old mid new table turned now draft begun left i s told =
    let a = s.first in
    let b = s.second in
    let e = entry_seen (tells && not between) mid turned i a.live in
    let d = entry_seen (tells && not failed) new now i b.live in
    let then : IsTrue (tells && not between) = a.tells ∙ told in
    let both = told_by tells failed (b.tells ∙ then) in
    let name : d.0.at.name ≡ (file_at (files_seen (tells && not before) old table) i).name = ap (λ (f : File). f.name) (sym (file_of (tells && not failed) new now i d.0 d.1)) ∙ b.name ∙ a.name in
    subst (λ n. TakesForFile n old new) name
    (file_taken old new (places now) left i d.0.at (s.told both.0 both.1) (in_places now i d.0 d.1) (both_taken old mid new e.0.at d.0.at (s.taken told e.0 e.1) (s.more e.0 d.0 e.1 d.1) (s.then_taken then d.0 d.1)))

-- what `prepare` has done with a file after its steps
pub record Turns (tells before between failed : Bool) (old mid new : List ℕ) (table turned now : EntryTable) (draft begun left : Option FileAt) (i overwrites bytes : ℕ) : Type 0 where
  pub live : IsLive (files_seen (tells && not before) old table) i
  pub held : IsTrue tells → before ≡ false → HoldsTable old (places table) draft
  pub first : Becomes (state_seen (tells && not before) old table draft) (state_seen (tells && not between) mid turned begun) i (size_at (files_seen (tells && not before) old table) i) (bytes_at (files_seen (tells && not before) old table) i)
  pub second : Becomes (state_seen (tells && not between) mid turned begun) (state_seen (tells && not failed) new now left) i (size_at (files_seen (tells && not between) mid turned) i) (bytes_at (files_seen (tells && not between) mid turned) i)
  pub between_held : IsTrue tells → between ≡ false → HoldsTable mid (places turned) begun
  pub told : IsTrue tells → failed ≡ false → HoldsTable new (places now) left
  pub lowest : IsTrue (tells && not before) → FromTo table turned i (λ e. StepsTo (step_for e overwrites bytes) old mid e)
  pub then_lowest : IsTrue (tells && not between) → FromTo turned now i (λ e. StepsTo (log_for e overwrites bytes) mid new e)

file_of_held : (image : List ℕ) (table : Entries) (draft : Option FileAt) (i : ℕ) (e : FileAt) (n : List ℕ) → HoldsTable image table draft → IsIn table i e → e.name ≡ n → IsFileOf image n e
file_of_held image table draft i e n h is name = record { name = name; active = h.files i e is; logged = λ l log. h.logs i e l is log; stored = h.stored i e is }

pub turns_lowest : (tells before between failed : Bool) (old mid new : List ℕ) (table turned now : EntryTable) (draft begun left : Option FileAt) (i overwrites bytes : ℕ) → Turns tells before between failed old mid new table turned now draft begun left i overwrites bytes
    → IsTrue (tells && not before) → Provides (file_at (files_seen (tells && not before) old table) i).name overwrites bytes old new
turns_lowest tells before between failed old mid new table turned now draft begun left i overwrites bytes t told =
    let a = t.first in
    let b = t.second in
    let c = entry_seen (tells && not before) old table i t.live in
    let e = entry_seen (tells && not between) mid turned i a.live in
    let d = entry_seen (tells && not failed) new now i b.live in
    let then : IsTrue (tells && not between) = a.tells ∙ told in
    let was = told_by tells before told in
    let midst = told_by tells between then in
    let both = told_by tells failed (b.tells ∙ then) in
    let had : c.0.at.name ≡ (file_at (files_seen (tells && not before) old table) i).name = ap (λ (f : File). f.name) (sym (file_of (tells && not before) old table i c.0 c.1)) in
    let named : e.0.at.name ≡ (file_at (files_seen (tells && not before) old table) i).name = ap (λ (f : File). f.name) (sym (file_of (tells && not between) mid turned i e.0 e.1)) ∙ a.name in
    let name : d.0.at.name ≡ (file_at (files_seen (tells && not before) old table) i).name = ap (λ (f : File). f.name) (sym (file_of (tells && not failed) new now i d.0 d.1)) ∙ b.name ∙ a.name in
    record {
      middle = mid;
      from = c.0.at;
      between = e.0.at;
      to = d.0.at;
      was = file_of_held old (places table) draft i c.0.at _ (t.held was.0 was.1) (in_places table i c.0 c.1) had;
      first = t.lowest told c.0 e.0 c.1 e.1;
      stands = file_of_held mid (places turned) begun i e.0.at _ (t.between_held midst.0 midst.1) (in_places turned i e.0 e.1) named;
      last = t.then_lowest then e.0 d.0 e.1 d.1;
      is = file_of_held new (places now) left i d.0.at _ (t.told both.0 both.1) (in_places now i d.0 d.1) name;
    }

-- the first step could not be taken
pub stops_first : (tells failed : Bool) (old new : List ℕ) (table : EntryTable) (draft : Option FileAt) (i overwrites bytes need : ℕ) → IsLive (files_seen (tells && not failed) old table) i → (IsTrue tells → failed ≡ false → HoldsTable old (places table) draft)
    → (IsTrue (tells && not failed) → AtEntry table i (λ e. LooksFor (step_for e overwrites bytes) e need old new))
    → IsTrue (tells && not failed) → Stops (file_at (files_seen (tells && not failed) old table) i).name overwrites bytes need old new
stops_first tells failed old new table draft i overwrites bytes need live says looks told =
    let c = entry_seen (tells && not failed) old table i live in
    let both = told_by tells failed told in
    let had : c.0.at.name ≡ (file_at (files_seen (tells && not failed) old table) i).name = ap (λ (f : File). f.name) (sym (file_of (tells && not failed) old table i c.0 c.1)) in
    inl (record {
      from = c.0.at;
      was = file_of_held old (places table) draft i c.0.at _ (says both.0 both.1) (in_places table i c.0 c.1) had;
      looks = looks told c.0 c.1;
    })

-- what is known where the log could not be had
pub record Halts (tells before between : Bool) (old mid new : List ℕ) (table turned : EntryTable) (draft begun : Option FileAt) (i overwrites bytes need : ℕ) : Type 0 where
  pub live : IsLive (files_seen (tells && not before) old table) i
  pub held : IsTrue tells → before ≡ false → HoldsTable old (places table) draft
  pub first : Becomes (state_seen (tells && not before) old table draft) (state_seen (tells && not between) mid turned begun) i (size_at (files_seen (tells && not before) old table) i) (bytes_at (files_seen (tells && not before) old table) i)
  pub between_held : IsTrue tells → between ≡ false → HoldsTable mid (places turned) begun
  pub lowest : IsTrue (tells && not before) → FromTo table turned i (λ e. StepsTo (step_for e overwrites bytes) old mid e)
  pub looks : IsTrue (tells && not between) → AtEntry turned i (λ e. LooksFor (log_for e overwrites bytes) e need mid new)

pub stops_log : (tells before between : Bool) (old mid new : List ℕ) (table turned : EntryTable) (draft begun : Option FileAt) (i overwrites bytes need : ℕ) → Halts tells before between old mid new table turned draft begun i overwrites bytes need
    → IsTrue (tells && not before) → Stops (file_at (files_seen (tells && not before) old table) i).name overwrites bytes need old new
stops_log tells before between old mid new table turned draft begun i overwrites bytes need t told =
    let a = t.first in
    let c = entry_seen (tells && not before) old table i t.live in
    let e = entry_seen (tells && not between) mid turned i a.live in
    let then : IsTrue (tells && not between) = a.tells ∙ told in
    let was = told_by tells before told in
    let midst = told_by tells between then in
    let had : c.0.at.name ≡ (file_at (files_seen (tells && not before) old table) i).name = ap (λ (f : File). f.name) (sym (file_of (tells && not before) old table i c.0 c.1)) in
    let named : e.0.at.name ≡ (file_at (files_seen (tells && not before) old table) i).name = ap (λ (f : File). f.name) (sym (file_of (tells && not between) mid turned i e.0 e.1)) ∙ a.name in
    inr (record {
      middle = mid;
      from = c.0.at;
      between = e.0.at;
      was = file_of_held old (places table) draft i c.0.at _ (t.held was.0 was.1) (in_places table i c.0 c.1) had;
      first = t.lowest told c.0 e.0 c.1 e.1;
      stands = file_of_held mid (places turned) begun i e.0.at _ (t.between_held midst.0 midst.1) (in_places turned i e.0 e.1) named;
      looks = t.looks then e.0 e.1;
    })

-- the second step could not be taken
pub same_more : (turned now : EntryTable) (i : ℕ) → now ≡ turned → (e d : Entry) → IsEntry turned i e → IsEntry now i d → (p : ℕ) → LiesIn e.at p → LiesIn d.at p
same_more turned now i kept e d was is p lies = subst (λ (x : Entry). LiesIn x.at p) (one_entry turned i e d was (subst (λ t. IsEntry t i d) kept is)) lies

-- what is known where an error is handed on
pub handed_on : {T U : Type 0} (r : Result T FileError) (q : Result U FileError) (e : FileError) (B K N P : Type 0) → r ≡ Err e → q ≡ Err e → UnlessFailed r B → OnSpace r (λ need. K) → OnSpace r (λ need. N) → (B → K → N → P) → UnlessFailed q P
handed_on {T = T} {U = U} r q (Space need) B K N P is same b k n gives =
    subst (λ (x : Result U FileError). UnlessFailed x P) (sym same)
    (gives (subst (λ (x : Result T FileError). UnlessFailed x B) is b) (subst (λ (x : Result T FileError). OnSpace x (λ need. K)) is k) (subst (λ (x : Result T FileError). OnSpace x (λ need. N)) is n))
handed_on {T = T} {U = U} r q Failed B K N P is same b k n gives = subst (λ (x : Result U FileError). UnlessFailed x P) (sym same) tt

-- an answer without space that is handed on
pub space_handed : {T U : Type 0} (r : Result T FileError) (q : Result U FileError) (e : FileError) (P : ℕ → Type 0) → r ≡ Err e → q ≡ Err e → OnSpace r P → OnSpace q P
space_handed {T = T} {U = U} r q (Space need) P is same p = subst (λ (x : Result U FileError). OnSpace x P) (sym same) (subst (λ (x : Result T FileError). OnSpace x P) is p)
space_handed {T = T} {U = U} r q Failed P is same p = subst (λ (x : Result U FileError). OnSpace x P) (sym same) tt
