-- Bytes that are put into a file of the table, or behind it.
use Rattle.std.proofs.Common.{◌≡◌, ◌≢◌, ℕ, ◌+◌, ◌-◌, ◌*◌, ◌<◌, ◌≤◌, Bool, true, false, List, ◌++◌, length, set, get_or, Option, Some, None, IsTrue, refl, sym, ap, ◌∙◌, subst, arith}
use Rattle.std.proofs.lemmas.Bool.{cases_lt}
use Rattle.std.proofs.Math.Logic.{⊎_elim}
use Rattle.afl_base.specs.Fields.{put_at}
use Rattle.afl_base.specs.Files.{Becomes, File, bytes_at, size_at}
use Rattle.afl_base.specs.declared.ids.PageId.{PageId}
use Rattle.coffee_layout.specs.FileBytes.{file_byte}
use Rattle.coffee_layout.specs.declared.file.FileAt.{FileAt}
use Rattle.coffee_log.specs.FileChanges.{FileBecomes, IsFile}
use Rattle.coffee_log.proofs.ContentLaws.{appended_bytes, overwritten_bytes}
use Rattle.coffee_merge.specs.Holding.{HoldsTable, IsStored, KeepsContent}
use Rattle.coffee_merge.proofs.Contents.{SetsBytes, holds_written_with}
use Rattle.coffee_volume.specs.Volumes.{EntryTable, IsEntry, IsPending, bytes_seen, files_seen, places, state_seen}
use Rattle.coffee_volume.specs.declared.entry.Entry.{Entry}
use Rattle.coffee_volume.proofs.Standing.{set_stored}
use Rattle.coffee_volume.proofs.States.{KeepsDraft, draft_kept, seen_becomes}
use Rattle.coffee_volume.proofs.Tables.{file_of, in_places, size_seen}
use Rattle.coffee_merge.proofs.SoundHolders.{stored_size}

-- a draft that kept its content kept its bytes
draft_content : (old new : List ℕ) (pages : ℕ) (d : FileAt) → IsPending pages d → KeepsContent old new d → KeepsDraft old new d
draft_content old new pages d is kept p low =
    let fits = is.fits.size in
    ap (λ (log : Option PageId). file_byte new d.page.0 log p) (sym is.log) ∙ kept p (omega arith) ∙ ap (λ (log : Option PageId). file_byte old d.page.0 log p) is.log

-- callers see that one file has other bytes
pub bytes_become : (tells : Bool) (old new : List ℕ) (pages : ℕ) (table : EntryTable) (draft : Option FileAt) (i : ℕ) (e f : Entry) (total : ℕ) (told : List ℕ) → i < length table → IsEntry table i e → f.at.name ≡ e.at.name → f.at.kind ≡ e.at.kind
    → ((d : FileAt) → draft ≡ Some d → IsPending pages d) → (IsTrue tells → SetsBytes old new (places table) draft i f.at) → f.at.size ≡ total → (IsTrue tells → bytes_seen tells new f.at ≡ told)
    → Becomes (state_seen tells old table draft) (state_seen tells new (set table i (Some f)) draft) i total told
bytes_become tells old new pages table draft i e f total told inside is name kind pending sets size bytes =
    seen_becomes tells old new table draft i e f total told inside is name kind (λ t. (sets t).others)
    (size_seen tells new f.at (λ t. set_stored new table draft i f.at inside (sets t).holds) ∙ size) bytes
    (draft_kept tells old new draft (λ d begun t. draft_content old new pages d (pending d begun) ((sets t).drafted d begun)))

-- AN OVERWRITE

-- the last byte of the file is not zero then either
last_put : (old new : List ℕ) (e : FileAt) (used at : ℕ) (bytes : List ℕ) → IsStored old e → FileBecomes old new e.page.0 e.pages e.log used e.size at bytes → 1 ≤ length bytes → at + length bytes ≤ e.size
    → (at + length bytes ≡ e.size → get_or bytes (length bytes - 1) 0 ≢ 0) → 1 ≤ e.size → file_byte new e.page.0 e.log (e.size - 1) ≢ 0
last_put old new e used at bytes s becomes many within last some zero =
    let fits = s.fits.size in
    ⊎_elim
    (λ (front : at + length bytes < e.size). s.last some (sym (becomes.put.others (e.size - 1) (omega arith) (λ a b. omega arith)) ∙ zero))
    (λ (whole : e.size ≤ at + length bytes).
    let place : at + (length bytes - 1) ≡ e.size - 1 = omega arith in
    last (omega arith) (sym (becomes.put.here (length bytes - 1) (omega arith)) ∙ ap (file_byte new e.page.0 e.log) place ∙ zero))
    (cases_lt (at + length bytes) e.size)

-- what an overwrite of a file with a log does
abbrev pub Overwrites : (old new : List ℕ) → FileAt → PageId → (used at : ℕ) → List ℕ → Type 0
Overwrites old new e l used at bytes =
    (size : ℕ) → IsFile old e.page.0 e.pages (Some l) e.used size → at + length bytes ≤ size → size + 32 ≤ 256 * e.pages → FileBecomes old new e.page.0 e.pages (Some l) used size at bytes

overwrites_file : (old new : List ℕ) (e : FileAt) (l : PageId) (used at : ℕ) (bytes : List ℕ) → IsStored old e → e.log ≡ Some l → at + length bytes ≤ e.size → Overwrites old new e l used at bytes → FileBecomes old new e.page.0 e.pages e.log used e.size at bytes
overwrites_file old new e l used at bytes s log within overwrites =
    subst (λ (k : Option PageId). FileBecomes old new e.page.0 e.pages k used e.size at bytes) (sym log)
    (overwrites e.size (subst (λ (k : Option PageId). IsFile old e.page.0 e.pages k e.used e.size) log s.file) within s.fits.size)

pub overwrite_sets : (old new : List ℕ) (table : EntryTable) (draft : Option FileAt) (i : ℕ) (e : Entry) (l : PageId) (used at : ℕ) (bytes : List ℕ) → HoldsTable old (places table) draft → IsEntry table i e → length new ≡ length old → e.at.log ≡ Some l → 1 ≤ length bytes → at + length bytes ≤ e.at.size
    → (at + length bytes ≡ e.at.size → get_or bytes (length bytes - 1) 0 ≢ 0) → Overwrites old new e.at l used at bytes → SetsBytes old new (places table) draft i (record e.at { used = used })
overwrite_sets old new table draft i e l used at bytes holds is long log many within last overwrites =
    let s = holds.stored i e.at (in_places table i e is) in
    let becomes = overwrites_file old new e.at l used at bytes s log within overwrites in
    holds_written_with old new (places table) draft i e.at used e.at.size at bytes holds (in_places table i e is) long becomes s.fits.size (λ none. absurd (cc)) (last_put old new e.at used at bytes s becomes many within last)

overwritten_seen : (tells : Bool) (old new : List ℕ) (e : FileAt) (l : PageId) (used at : ℕ) (bytes : List ℕ) → IsTrue tells → IsStored old e → e.log ≡ Some l → at + length bytes ≤ e.size
    → (at + length bytes ≡ e.size → get_or bytes (length bytes - 1) 0 ≢ 0) → Overwrites old new e l used at bytes → bytes_seen tells new (record e { used = used }) ≡ put_at (bytes_seen tells old e) at bytes
overwritten_seen true old new e l used at bytes told s log within last overwrites =
    let size = stored_size old e s in
    overwritten_bytes old new e.page.0 e.pages e.log at bytes (overwrites_file old new e l used at bytes s log within overwrites).put (omega arith) (λ some all. last (omega arith))
overwritten_seen false old new e l used at bytes told s log within last overwrites = absurd (cc)

pub overwrite_becomes : (tells : Bool) (old new : List ℕ) (pages : ℕ) (table : EntryTable) (draft : Option FileAt) (i : ℕ) (e : Entry) (l : PageId) (used records at : ℕ) (bytes : List ℕ) → i < length table → IsEntry table i e → ((d : FileAt) → draft ≡ Some d → IsPending pages d)
    → (IsTrue tells → HoldsTable old (places table) draft) → length new ≡ length old → e.at.log ≡ Some l → 1 ≤ length bytes → at + length bytes ≤ e.at.size → (at + length bytes ≡ e.at.size → get_or bytes (length bytes - 1) 0 ≢ 0)
    → (IsTrue tells → Overwrites old new e.at l used at bytes)
    → Becomes (state_seen tells old table draft) (state_seen tells new (set table i (Some (record { at = record e.at { used = used }; records = records; room = e.room }))) draft) i (size_at (files_seen tells old table) i) (put_at (bytes_at (files_seen tells old table) i) at bytes)
overwrite_becomes tells old new pages table draft i e l used records at bytes inside is pending holds long log many within last overwrites =
    let f : Entry = record { at = record e.at { used = used }; records = records; room = e.room } in
    let stored : IsTrue tells → IsStored old e.at = λ told. (holds told).stored i e.at (in_places table i e is) in
    let file : bytes_at (files_seen tells old table) i ≡ bytes_seen tells old e.at = ap (λ (x : File). x.bytes) (file_of tells old table i e is) in
    let size : e.at.size ≡ size_at (files_seen tells old table) i = sym (ap length file ∙ size_seen tells old e.at stored) in
    bytes_become tells old new pages table draft i e f (size_at (files_seen tells old table) i) (put_at (bytes_at (files_seen tells old table) i) at bytes) inside is refl refl pending
    (λ told. overwrite_sets old new table draft i e l used at bytes (holds told) is long log many within last (overwrites told)) size
    (λ told. overwritten_seen tells old new e.at l used at bytes told (stored told) log within last (overwrites told) ∙ ap (λ (xs : List ℕ). put_at xs at bytes) (sym file))

-- AN APPEND

-- what an append does
abbrev pub Appends : (old new : List ℕ) → FileAt → (used : ℕ) → List ℕ → Type 0
Appends old new e used bytes = IsFile old e.page.0 e.pages e.log e.used e.size → FileBecomes old new e.page.0 e.pages e.log used (e.size + length bytes) e.size bytes

last_added : (old new : List ℕ) (e : FileAt) (used total : ℕ) (bytes : List ℕ) → FileBecomes old new e.page.0 e.pages e.log used total e.size bytes → total ≡ e.size + length bytes → 1 ≤ length bytes → get_or bytes (length bytes - 1) 0 ≢ 0 → file_byte new e.page.0 e.log (total - 1) ≢ 0
last_added old new e used total bytes becomes is many last zero =
    let place : e.size + (length bytes - 1) ≡ total - 1 = omega arith in
    last (sym (becomes.put.here (length bytes - 1) (omega arith)) ∙ ap (file_byte new e.page.0 e.log) place ∙ zero)

pub append_sets : (old new : List ℕ) (table : EntryTable) (draft : Option FileAt) (i : ℕ) (e : Entry) (used : ℕ) (bytes : List ℕ) → HoldsTable old (places table) draft → IsEntry table i e → length new ≡ length old → 1 ≤ length bytes → e.at.size + length bytes + 32 ≤ 256 * e.at.pages
    → get_or bytes (length bytes - 1) 0 ≢ 0 → (e.at.log ≡ None → used ≡ 0) → Appends old new e.at used bytes → SetsBytes old new (places table) draft i (record e.at { used = used; size = e.at.size + length bytes })
append_sets old new table draft i e used bytes holds is long many fits last unused appends =
    let s = holds.stored i e.at (in_places table i e is) in
    let becomes = appends s.file in
    holds_written_with old new (places table) draft i e.at used (e.at.size + length bytes) e.at.size bytes holds (in_places table i e is) long becomes fits unused
    (λ some. last_added old new e.at used (e.at.size + length bytes) bytes becomes refl many last)

appended_seen : (tells : Bool) (old new : List ℕ) (e : FileAt) (used size : ℕ) (bytes : List ℕ) → IsTrue tells → IsStored old e → e.size + length bytes + 32 ≤ 256 * e.pages → get_or bytes (length bytes - 1) 0 ≢ 0 → Appends old new e used bytes
    → bytes_seen tells new (record e { used = used; size = size }) ≡ bytes_seen tells old e ++ bytes
appended_seen true old new e used size bytes told s fits last appends = appended_bytes old new e.page.0 e.pages e.log e.size bytes (appends s.file).put (sym (stored_size old e s)) fits (λ some. last)
appended_seen false old new e used size bytes told s fits last appends = absurd (cc)

pub append_becomes : (tells : Bool) (old new : List ℕ) (pages : ℕ) (table : EntryTable) (draft : Option FileAt) (i : ℕ) (e : Entry) (used : ℕ) (bytes : List ℕ) → i < length table → IsEntry table i e → ((d : FileAt) → draft ≡ Some d → IsPending pages d)
    → (IsTrue tells → HoldsTable old (places table) draft) → length new ≡ length old → 1 ≤ length bytes → e.at.size + length bytes + 32 ≤ 256 * e.at.pages → get_or bytes (length bytes - 1) 0 ≢ 0 → (e.at.log ≡ None → used ≡ 0)
    → (IsTrue tells → Appends old new e.at used bytes)
    → Becomes (state_seen tells old table draft) (state_seen tells new (set table i (Some (record { at = record e.at { size = e.at.size + length bytes; used = used }; records = e.records; room = 0 }))) draft) i (size_at (files_seen tells old table) i + length bytes) (bytes_at (files_seen tells old table) i ++ bytes)
append_becomes tells old new pages table draft i e used bytes inside is pending holds long many fits last unused appends =
    let f : Entry = record { at = record e.at { size = e.at.size + length bytes; used = used }; records = e.records; room = 0 } in
    let stored : IsTrue tells → IsStored old e.at = λ told. (holds told).stored i e.at (in_places table i e is) in
    let file : bytes_at (files_seen tells old table) i ≡ bytes_seen tells old e.at = ap (λ (x : File). x.bytes) (file_of tells old table i e is) in
    let size : size_at (files_seen tells old table) i ≡ e.at.size = ap length file ∙ size_seen tells old e.at stored in
    bytes_become tells old new pages table draft i e f (size_at (files_seen tells old table) i + length bytes) (bytes_at (files_seen tells old table) i ++ bytes) inside is refl refl pending
    (λ told. append_sets old new table draft i e used bytes (holds told) is long many fits last unused (appends told)) (ap (λ (n : ℕ). n + length bytes) (sym size))
    (λ told. appended_seen tells old new e.at used (e.at.size + length bytes) bytes told (stored told) fits last (appends told) ∙ ap (λ (xs : List ℕ). xs ++ bytes) (sym file))
