-- What a volume keeps where no draft is begun, where a file is new, and where a draft begins.
use Rattle.std.proofs.Common.{◌≡◌, ◌≢◌, ℕ, ◌+◌, ◌-◌, ◌*◌, ◌<◌, ◌≤◌, Bool, false, not, ◌&&◌, List, length, replicate, set, get_or, Option, Some, None, IsTrue, refl, sym, ◌∙◌, subst, arith}
use Rattle.afl_base.specs.Files.{Creates, Drafts, IsKind, IsUnnamed, Keeps, first_pages, used}
use Rattle.afl_base.specs.Image.{page_bytes}
use Rattle.afl_base.specs.Places.{AreTaken}
use Rattle.afl_base.specs.declared.ids.PageId.{PageId}
use Rattle.afl_base.specs.declared.kind.Kind.{Kind}
use Rattle.afl_base.specs.declared.kind.Kind.TheVariants.{Doubling}
use Rattle.coffee_layout.specs.FileBytes.{file_byte}
use Rattle.coffee_layout.specs.Marks.{IsCramped}
use Rattle.coffee_layout.specs.Tiling.{units_of}
use Rattle.coffee_layout.specs.Units.{pages_of}
use Rattle.coffee_layout.specs.declared.file.FileAt.{FileAt}
use Rattle.coffee_merge.specs.Holding.{BeginsExtent, CommitsExtent, HoldsTable, IsNewName, KeepsContents, Sets, Entries, extent_of}
use Rattle.coffee_merge.specs.Outcomes.{BeginsFile, LeavesAll}
use Rattle.coffee_merge.specs.Takes.{KeepsFree, LooksIn}
use Rattle.coffee_volume.specs.Taking.{TakesNone}
use Rattle.coffee_volume.specs.Volumes.{EntryTable, IsPending, IsRegular, Lacks, files_seen, places, roomless, state_seen}
use Rattle.coffee_volume.specs.declared.entry.Entry.{Entry}
use Rattle.coffee_volume.proofs.Drafted.{begun_sets, created_regular, first_some, free_place}
use Rattle.coffee_volume.proofs.Standing.{Stands, same_pages, set_stored, stands_draft, stands_idle, stands_kept, where_told}
use Rattle.coffee_volume.proofs.States.{seen_begins, seen_creates, seen_keeps}
use Rattle.coffee_volume.proofs.Tables.{length_places, new_name, no_entry, regular_new, unnamed_seen, used_seen}

-- what the table says of the old image, where it is told
pub held : (tells failed : Bool) (old : List ℕ) (table : EntryTable) (draft : Option FileAt) → (IsTrue tells → failed ≡ false → HoldsTable old (places table) draft) → draft ≡ None → IsTrue tells → failed ≡ false → HoldsTable old (places table) None
held tells failed old table draft told idle t fine = subst (HoldsTable old (places table)) idle (told t fine)

-- NEW FILES

-- an extent that is begun and committed is a new file
new_sets : (tells : Bool) (image old mid new : List ℕ) (table : EntryTable) (draft : Option FileAt) (i : ℕ) (name : List ℕ) (kind : Kind) (page : PageId) (pages : ℕ) → HoldsTable old (places table) draft → draft ≡ None → i < length table → get_or table i None ≡ None
    → IsUnnamed (files_seen tells image table) name → 1 ≤ pages
    → ((t : Entries) (size : ℕ) → HoldsTable old t None → size + 32 ≤ 256 * pages → BeginsFile old mid t (extent_of name kind page.0 pages size))
    → ((t : Entries) (d : FileAt) (k : ℕ) → HoldsTable mid t (Some d) → d.page ≡ page → k < length t → get_or t k None ≡ None → IsNewName t d.name → (1 ≤ d.size → file_byte mid page.0 None (d.size - 1) ≢ 0) → CommitsExtent mid new t k d)
    → Sets old new (places table) i (Some (extent_of name kind page.0 pages 0))
new_sets tells image old mid new table draft i name kind page pages held idle inside free unnamed some begun committed =
    let d : FileAt = extent_of name kind page.0 pages 0 in
    let b = (begun (places table) 0 (subst (HoldsTable old (places table)) idle held) (omega arith)).begins in
    let c = committed (places table) d i b.holds refl (omega (arith, length_places table)) (free_place table i free) (new_name tells image table name unnamed) (λ none. absurd (omega arith)) in
    begun_sets old mid new (places table) i name kind page.0 pages b c

-- an extent is begun and committed in a free place, for a new file
pub record MakesFile (tells failed : Bool) (old mid new : List ℕ) (table : EntryTable) (draft : Option FileAt) (i : ℕ) (name : List ℕ) (kind : Kind) (page : PageId) (pages : ℕ) (f : Entry) : Type 0 where
  pub stands : Stands tells failed old table draft
  pub idle : draft ≡ None
  pub inside : i < length table
  pub free : get_or table i None ≡ None
  pub lowest : AreTaken table i
  pub unnamed : IsUnnamed (files_seen (tells && not failed) old table) name
  pub is_kind : IsKind kind
  pub number : pages ≡ first_pages kind
  pub placed : page.0 + pages ≤ pages_of mid
  pub entry : f ≡ roomless (extent_of name kind page.0 pages 0)
  pub size : length mid ≡ length old
  pub size_then : length new ≡ length mid
  pub begun : IsTrue tells → (t : Entries) (size : ℕ) → HoldsTable old t None → size + 32 ≤ 256 * pages → BeginsFile old mid t (extent_of name kind page.0 pages size)
  pub committed : IsTrue tells → (t : Entries) (d : FileAt) (k : ℕ) → HoldsTable mid t (Some d) → d.page ≡ page → k < length t → get_or t k None ≡ None → IsNewName t d.name → (1 ≤ d.size → file_byte mid page.0 None (d.size - 1) ≢ 0) → CommitsExtent mid new t k d
  pub keeps_free : IsTrue tells → (t : Entries) (d : FileAt) → HoldsTable mid t (Some d) → d.page ≡ page → KeepsFree mid new
  pub other_pages : IsTrue tells → (p : ℕ) → p ≢ page.0 → page_bytes new p ≡ page_bytes mid p

pub made_sets : (tells failed : Bool) (old mid new : List ℕ) (table : EntryTable) (draft : Option FileAt) (i : ℕ) (name : List ℕ) (kind : Kind) (page : PageId) (pages : ℕ) (f : Entry) → MakesFile tells failed old mid new table draft i name kind page pages f
    → IsTrue tells → failed ≡ false → Sets old new (places table) i (Some (extent_of name kind page.0 pages 0))
made_sets tells failed old mid new table draft i name kind page pages f m told fine =
    let some = first_some kind m.is_kind in
    let number = m.number in
    new_sets (tells && not failed) old old mid new table draft i name kind page pages (m.stands.told told fine) m.idle m.inside m.free m.unnamed (omega arith) (m.begun told) (m.committed told)

pub stands_made : (tells failed : Bool) (old mid new : List ℕ) (table : EntryTable) (draft : Option FileAt) (i : ℕ) (name : List ℕ) (kind : Kind) (page : PageId) (pages : ℕ) (f : Entry) → MakesFile tells failed old mid new table draft i name kind page pages f
    → Stands tells failed new (set table i (Some f)) draft
stands_made tells failed old mid new table draft i name kind page pages f m =
    let e : Entry = roomless (extent_of name kind page.0 pages 0) in
    let placed : page.0 + first_pages kind ≤ pages_of old = omega (arith, m.placed, m.number, same_pages old mid m.size) in
    let regular : IsRegular (pages_of old) e = subst (λ (n : ℕ). IsRegular (pages_of old) (roomless (extent_of name kind page.0 n 0))) (sym m.number) (created_regular (pages_of old) page.0 name kind m.is_kind placed) in
    subst (λ (now : Entry). Stands tells failed new (set table i (Some now)) draft) (sym m.entry)
    (stands_idle tells failed old new table draft i (Some e) m.stands m.idle (m.size_then ∙ m.size) (regular_new (pages_of old) table i e m.stands.regular m.inside (no_entry (tells && not failed) old table name m.unnamed) regular)
    (λ told fine. (made_sets tells failed old mid new table draft i name kind page pages f m told fine).holds))

pub seen_made : (tells failed : Bool) (old mid new : List ℕ) (table : EntryTable) (draft : Option FileAt) (i : ℕ) (name : List ℕ) (kind : Kind) (page : PageId) (pages : ℕ) (f : Entry) → MakesFile tells failed old mid new table draft i name kind page pages f
    → Creates (state_seen (tells && not failed) old table draft) (state_seen (tells && not failed) new (set table i (Some f)) draft) i name kind
seen_made tells failed old mid new table draft i name kind page pages f m =
    let d : FileAt = extent_of name kind page.0 pages 0 in
    let sets : IsTrue (tells && not failed) → Sets old new (places table) i (Some d) = where_told tells failed (Sets old new (places table) i (Some d)) (made_sets tells failed old mid new table draft i name kind page pages f m) in
    subst (λ (now : Entry). Creates (state_seen (tells && not failed) old table draft) (state_seen (tells && not failed) new (set table i (Some now)) draft) i name kind) (sym m.entry)
    (subst (λ (was : Option FileAt). Creates (state_seen (tells && not failed) old table was) (state_seen (tells && not failed) new (set table i (Some (roomless d))) was) i name kind) (sym m.idle)
    (seen_creates (tells && not failed) old new table i name kind page.0 pages m.inside m.free m.lowest (λ t. (sets t).others) (λ t. set_stored new table None i d m.inside (sets t).holds)))

-- DRAFTS

-- a draft is begun where there was none
pub stands_begun : (tells failed : Bool) (old new : List ℕ) (table : EntryTable) (draft : Option FileAt) (d : FileAt) → Stands tells failed old table draft → draft ≡ None → length new ≡ length old → IsPending (pages_of old) d
    → (IsUnnamed (files_seen (tells && not failed) old table) d.name → used (files_seen (tells && not failed) old table) < 32) → (IsTrue tells → failed ≡ false → HoldsTable new (places table) (Some d)) → Stands tells failed new table (Some d)
stands_begun tells failed old new table draft d s idle long pending space holds =
    stands_draft tells failed old new table d (subst (Stands tells failed old table) idle s) long pending
    (λ none. let few = space (unnamed_seen false (tells && not failed) old old table d.name none) in omega (arith, used_seen false (tells && not failed) old old table)) holds

pub record BeginsDraft (tells failed : Bool) (old new : List ℕ) (table : EntryTable) (draft : Option FileAt) (name : List ℕ) (page pages size : ℕ) : Type 0 where
  pub idle : draft ≡ None
  pub told : IsTrue tells → failed ≡ false → HoldsTable old (places table) draft
  pub fits : size + 32 ≤ 256 * pages
  pub begun : IsTrue tells → (t : Entries) (n : ℕ) → HoldsTable old t None → n + 32 ≤ 256 * pages → BeginsFile old new t (extent_of name Doubling page pages n)

pub draft_begun : (tells failed : Bool) (old new : List ℕ) (table : EntryTable) (draft : Option FileAt) (name : List ℕ) (page pages size : ℕ) → BeginsDraft tells failed old new table draft name page pages size
    → IsTrue tells → failed ≡ false → BeginsFile old new (places table) (extent_of name Doubling page pages size)
draft_begun tells failed old new table draft name page pages size b t fine = b.begun t (places table) size (held tells failed old table draft b.told b.idle t fine) b.fits

pub seen_begun : (tells failed : Bool) (old new : List ℕ) (table : EntryTable) (draft : Option FileAt) (name : List ℕ) (page pages size : ℕ) (d : FileAt) → d ≡ extent_of name Doubling page pages size → BeginsDraft tells failed old new table draft name page pages size
    → Drafts (state_seen (tells && not failed) old table draft) (state_seen (tells && not failed) new table (Some d)) name size (replicate size 0)
seen_begun tells failed old new table draft name page pages size d is b =
    let e : FileAt = extent_of name Doubling page pages size in
    let all : IsTrue (tells && not failed) → BeginsExtent old new (places table) e = where_told tells failed (BeginsExtent old new (places table) e) (λ t fine. (draft_begun tells failed old new table draft name page pages size b t fine).begins) in
    let fits = b.fits in
    subst (λ (now : FileAt). Drafts (state_seen (tells && not failed) old table draft) (state_seen (tells && not failed) new table (Some now)) name size (replicate size 0)) (sym is)
    (subst (λ (was : Option FileAt). Drafts (state_seen (tells && not failed) old table was) (state_seen (tells && not failed) new table (Some e)) name size (replicate size 0)) (sym b.idle)
    (seen_begins (tells && not failed) old new table e (λ t. (all t).kept) (λ t p low. (all t).zeros p (omega arith))))

-- NO SPACE

-- an extent could not be had
pub record FindsNone (tells failed : Bool) (old new : List ℕ) (table : EntryTable) (draft : Option FileAt) (need : ℕ) : Type 0 where
  pub stands : Stands tells failed old table draft
  pub idle : draft ≡ None
  pub size : length new ≡ length old
  pub left : IsTrue tells → (t : Entries) → HoldsTable old t None → LeavesAll old new t need

left_there : (tells failed : Bool) (old new : List ℕ) (table : EntryTable) (draft : Option FileAt) (need : ℕ) → FindsNone tells failed old new table draft need → IsTrue tells → failed ≡ false → LeavesAll old new (places table) need
left_there tells failed old new table draft need f t fine = f.left t (places table) (held tells failed old table draft f.stands.told f.idle t fine)

pub stands_left : (tells failed : Bool) (old new : List ℕ) (table : EntryTable) (draft : Option FileAt) (need : ℕ) → FindsNone tells failed old new table draft need → Stands tells failed new table draft
stands_left tells failed old new table draft need f =
    stands_kept tells failed old new table draft f.stands f.size (λ t fine. subst (HoldsTable new (places table)) (sym f.idle) (left_there tells failed old new table draft need f t fine).stays.holds)

-- all files are as they were
pub seen_left : (tells failed : Bool) (old new : List ℕ) (table : EntryTable) (draft : Option FileAt) (need : ℕ) → FindsNone tells failed old new table draft need
    → Keeps (state_seen (tells && not failed) old table draft) (state_seen (tells && not failed) new table draft)
seen_left tells failed old new table draft need f =
    subst (λ (was : Option FileAt). Keeps (state_seen (tells && not failed) old table was) (state_seen (tells && not failed) new table was)) (sym f.idle)
    (seen_keeps (tells && not failed) old new table (where_told tells failed (KeepsContents old new (places table)) (λ t fine. (left_there tells failed old new table draft need f t fine).stays.kept)))

-- and the pages are lacking, were looked for, and none is taken
pub lacks_left : (tells failed : Bool) (old new : List ℕ) (table : EntryTable) (draft : Option FileAt) (need : ℕ) → FindsNone tells failed old new table draft need → Lacks (tells && not failed) new need
lacks_left tells failed old new table draft need f = where_told tells failed (IsCramped (units_of new) need) (λ t fine. (left_there tells failed old new table draft need f t fine).cramped)

pub looked_left : (tells failed : Bool) (old new : List ℕ) (table : EntryTable) (draft : Option FileAt) (need : ℕ) → FindsNone tells failed old new table draft need → IsTrue (tells && not failed) → LooksIn old new need
looked_left tells failed old new table draft need f = where_told tells failed (LooksIn old new need) (λ t fine. (left_there tells failed old new table draft need f t fine).looked)

pub none_left : (tells failed : Bool) (old new : List ℕ) (table : EntryTable) (draft : Option FileAt) (need : ℕ) → FindsNone tells failed old new table draft need → IsTrue (tells && not failed) → TakesNone old new
none_left tells failed old new table draft need f = where_told tells failed (TakesNone old new) (λ t fine p free. (left_there tells failed old new table draft need f t fine).untaken p free (λ a b. omega arith))
