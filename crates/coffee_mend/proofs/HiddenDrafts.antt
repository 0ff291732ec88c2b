-- The steps by which a file is put together with its log, of which a record is torn: what each makes of the image with zeros in the
-- place of the record, and what a cut leaves of it.
use Rattle.std.proofs.Common.{◌≡◌, inl, ℕ, ◌+◌, ◌*◌, ◌<◌, ◌≤◌, Bool, true, List, length, take, Option, Some, None, refl, ap, sym, subst, ◌∙◌, arith}
use Rattle.std.specs.Prelude.{Result, Ok, Err}
use Rattle.afl_base.specs.FileErrors.{OnSpace, UnlessFailed}
use Rattle.afl_base.specs.declared.kind.FileError.{FileError}
use Rattle.afl_base.specs.declared.kind.FileError.TheVariants.{Space, Failed}
use Rattle.coffee_layout.specs.declared.unit.Unit.{Unit}
use Rattle.afl_base.specs.Cuts.{IsCutProgram}
use Rattle.afl_base.specs.Image.{or_at, zeros_at}
use Rattle.afl_base.specs.Names.{is_file_name}
use Rattle.afl_base.specs.declared.ids.PageId.{PageId}
use Rattle.afl_base.specs.declared.kind.Kind.{Kind}
use Rattle.coffee_header.specs.Headers.{header_bytes}
use Rattle.coffee_layout.specs.FileBytes.{file_byte}
use Rattle.coffee_layout.specs.Marks.{IsCramped, IsLowestRun, free_pages}
use Rattle.coffee_layout.specs.Tiling.{IsTiled, nowhere, units_of}
use Rattle.coffee_layout.specs.declared.file.FileAt.{FileAt}
use Rattle.coffee_merge.specs.CutMarks.{KeepsHead}
use Rattle.coffee_merge.specs.Holding.{BeginsExtent, Copies, CopiesPart, Entries, HoldsTable, KeepsContents, Stays, Writes, draft_header, extent_of, has_shape}
use Rattle.coffee_merge.specs.Takes.{KeepsPagesBut}
use Rattle.coffee_merge.proofs.Contents.{copied_more, copied_none, copied_part, written_there}
use Rattle.coffee_merge.proofs.Drafting.{draft_begins, draft_valid, stays_begins}
use Rattle.coffee_merge.proofs.Obtained.{obtained}
use Rattle.coffee_space.specs.Collection.{KeepsActive}
use Rattle.coffee_space.specs.Cutting.{IsCutCollection}
use Rattle.coffee_cuts.proofs.BrokenOff.{collection_settles}
use Rattle.coffee_cuts.proofs.Drafts.{written_settles}
use Rattle.coffee_cuts.proofs.Headers.{torn_header_settles}
use Rattle.coffee_cuts.proofs.Mended.{SettlesHolding}
use Rattle.coffee_mend.proofs.HiddenBytes.{blank_but, byte_same, head_hidden, long_hidden, pages_hidden, shown_is}
use Rattle.coffee_mend.proofs.HiddenCollections.{cut_shown, hidden_tiled, kept_shown, units_new}
use Rattle.coffee_mend.proofs.HiddenMends.{settles_after, torn_mends}
use Rattle.coffee_mend.proofs.LikeSettlings.{or_but}
use Rattle.coffee_mend.specs.Joined.{HidesRecord, IsEmptyDraft, IsNextIn, IsPartCopied, IsSameBut, LeavesTable}
use Rattle.coffee_mend.specs.Mended.{MendsLike}

pub next_after : (size other place : ℕ) (e : FileAt) → other ≡ size → IsNextIn size place e → IsNextIn other place e
next_after size other place e same n = let inside = n.inside in record { log = n.log; logged = n.logged; next = n.next; free = n.free; inside = omega (arith, inside, same) }

-- another image in which the record is torn
pub hides_again : (old new : List ℕ) (table : Entries) (draft other : Option FileAt) (i : ℕ) (e : FileAt) (place : ℕ) → length new ≡ length old → HidesRecord old table draft i e place
    → HoldsTable (zeros_at new place 128) table other → HidesRecord new table other i e place
hides_again old new table draft other i e place long r holds = record {
  table_is = record {
    holds = holds;
    few = r.table_is.few;
    sparing = r.table_is.sparing;
    sectors = r.table_is.sectors;
    size = long_hidden old new place long r.record_is.inside ∙ r.table_is.size;
    small = r.table_is.small;
  };
  there = r.there;
  record_is = next_after (length old) (length new) place e long r.record_is;
}

-- ---- A NEW EXTENT

module _ (old mid : List ℕ) (place : ℕ) (table : Entries) (i : ℕ) (e : FileAt) (r : HidesRecord old table None i e place) (long : length mid ≡ length old) where
  -- a collection that broke off
  pub collection_mends : IsCutCollection nowhere old mid (units_of (zeros_at old place 128)) → MendsLike (zeros_at old place 128) mid
  collection_mends cut =
      let n = next_after (length old) (length mid) place e long r.record_is in
      torn_mends (zeros_at old place 128) (zeros_at mid place 128) mid table i e place r.table_is r.there n (blank_but mid place n.inside)
      (collection_settles (zeros_at old place 128) (zeros_at mid place 128) table r.table_is (long_hidden old mid place long r.record_is.inside) (cut_shown old place table i e r mid long cut))

  module _ (k : KeepsActive nowhere old mid (units_of (zeros_at old place 128))) where
    pub obtained_stays : Stays (zeros_at old place 128) (zeros_at mid place 128) table
    obtained_stays =
        let s = kept_shown old place table i e r mid long k in
        obtained (zeros_at old place 128) (zeros_at mid place 128) table r.table_is.holds (long_hidden old mid place long r.record_is.inside) s.tiled s.extents s.active

    hides_mid : HidesRecord mid table None i e place
    hides_mid = hides_again old mid table None None i e place long r obtained_stays.holds

    module _ (new : List ℕ) (name : List ℕ) (kind : Kind) (page pages : ℕ) (run : IsLowestRun (free_pages (units_of mid)) pages page) (some : 1 ≤ pages) (small : pages < 65536) (good : is_file_name name ≡ true) where
      abbrev bytes : List ℕ
      bytes = header_bytes (draft_header (extent_of name kind page pages 0))

      run_shown : IsLowestRun (free_pages (units_of (zeros_at mid place 128))) pages page
      run_shown = subst (λ us. IsLowestRun (free_pages us) pages page) (sym (units_new old place table i e r mid long k)) run

      -- its header is written
      pub draft_shown : (size : ℕ) → has_shape kind pages ≡ true → size + 32 ≤ 256 * pages → new ≡ or_at mid (256 * page) bytes → length new ≡ length mid
          → BeginsExtent (zeros_at old place 128) (zeros_at new place 128) table (extent_of name kind page pages size)
      draft_shown size shape fits written same_size =
          let begun : List ℕ = or_at (zeros_at mid place 128) (256 * page) bytes in
          let begins : BeginsExtent (zeros_at mid place 128) (or_at (zeros_at mid place 128) (256 * page) bytes) table (extent_of name kind page pages size) =
          draft_begins (zeros_at mid place 128) (or_at (zeros_at mid place 128) (256 * page) bytes) table name kind page pages size obtained_stays.holds run_shown some small good shape fits refl in
          let but : IsSameBut (or_at (zeros_at mid place 128) (256 * page) bytes) new place =
          subst (λ x. IsSameBut (or_at (zeros_at mid place 128) (256 * page) bytes) x place) (sym written) (or_but (zeros_at mid place 128) mid place (256 * page) bytes (blank_but mid place hides_mid.record_is.inside)) in
          let is : zeros_at new place 128 ≡ or_at (zeros_at mid place 128) (256 * page) bytes =
          shown_is (or_at (zeros_at mid place 128) (256 * page) bytes) new place table (Some (extent_of name kind page pages size)) i e but begins.holds r.there (next_after (length mid) (length new) place e same_size hides_mid.record_is) in
          stays_begins (zeros_at old place 128) (zeros_at mid place 128) (zeros_at new place 128) table (extent_of name kind page pages size) obtained_stays
          (subst (λ x. BeginsExtent (zeros_at mid place 128) x table (extent_of name kind page pages size)) (sym is) begins)

      -- or a front part of it
      pub header_mends : IsCutProgram mid new (256 * page) bytes → length new ≡ length mid → MendsLike (zeros_at old place 128) new
      header_mends cut same_size =
          let front : List ℕ = take cut.done bytes in
          let part : List ℕ = or_at (zeros_at mid place 128) (256 * page) (take cut.done bytes) in
          let but : IsSameBut (or_at (zeros_at mid place 128) (256 * page) (take cut.done bytes)) new place =
          subst (λ x. IsSameBut (or_at (zeros_at mid place 128) (256 * page) (take cut.done bytes)) x place) (sym cut.is)
          (or_but (zeros_at mid place 128) mid place (256 * page) (take cut.done bytes) (blank_but mid place hides_mid.record_is.inside)) in
          let settles : SettlesHolding (or_at (zeros_at mid place 128) (256 * page) (take cut.done bytes)) (zeros_at mid place 128) table =
          torn_header_settles (zeros_at mid place 128) (or_at (zeros_at mid place 128) (256 * page) (take cut.done bytes)) table hides_mid.table_is page (draft_header (extent_of name kind page pages 0))
          (draft_valid name kind page pages 0 good small) (inl refl) some run_shown (record { done = cut.done; front = cut.front; is = refl }) in
          torn_mends (zeros_at old place 128) part new table i e place r.table_is r.there (next_after (length mid) (length new) place e same_size hides_mid.record_is) but
          (settles_after (zeros_at old place 128) (zeros_at mid place 128) part table obtained_stays.kept settles)

-- ---- NO PAGES

-- what is said of tilings where no pages are had
pub record LeavesUnits (old new : List ℕ) (need : ℕ) : Type 0 where
  pub kept : (building : ℕ → Bool) (us : List Unit) → IsTiled building old us → KeepsActive building old new us
  pub cramped : (building : ℕ → Bool) (us : List Unit) → IsTiled building old us → IsCramped (units_of new) need

pub units_left : {T : Type 0} (r : Result T FileError) (old new : List ℕ) → UnlessFailed r ((building : ℕ → Bool) (us : List Unit) → IsTiled building old us → KeepsActive building old new us)
    → OnSpace r (λ need. (building : ℕ → Bool) (us : List Unit) → IsTiled building old us → IsCramped (units_of new) need) → OnSpace r (LeavesUnits old new)
units_left (Ok x) old new kept cramped = tt
units_left (Err (Space need)) old new kept cramped = record { kept = kept; cramped = cramped }
units_left (Err Failed) old new kept cramped = tt

pub files_left : (old new : List ℕ) (place : ℕ) (table : Entries) (i : ℕ) (e : FileAt) → (r : HidesRecord old table None i e place) → length new ≡ length old → (need : ℕ) → LeavesUnits old new need
    → LeavesTable (zeros_at old place 128) (zeros_at new place 128) table need
files_left old new place table i e r long need l =
    let us = units_of (zeros_at old place 128) in
    let tiled = hidden_tiled old place table i e r in
    let k = l.kept nowhere (units_of (zeros_at old place 128)) tiled in
    record {
      stays = obtained_stays old new place table i e r long k;
      cramped = subst (λ vs. IsCramped vs need) (sym (units_new old place table i e r new long k)) (l.cramped nowhere (units_of (zeros_at old place 128)) tiled);
    }

-- ---- ITS CONTENT

-- the extent was written to, whatever stands in it now
pub draft_mends : (old mid new : List ℕ) (place : ℕ) (table : Entries) (d : FileAt) (i : ℕ) (e : FileAt) → HidesRecord old table None i e place → HidesRecord mid table (Some d) i e place → length new ≡ length mid
    → KeepsContents (zeros_at old place 128) (zeros_at mid place 128) table → KeepsHead mid new d.page.0 → KeepsPagesBut mid new d.page.0 d.pages None → MendsLike (zeros_at old place 128) new
draft_mends old mid new place table d i e r s long kept head others =
    let n = next_after (length mid) (length new) place e long s.record_is in
    torn_mends (zeros_at old place 128) (zeros_at new place 128) new table i e place r.table_is r.there n (blank_but new place n.inside)
    (settles_after (zeros_at old place 128) (zeros_at mid place 128) (zeros_at new place 128) table kept
    (written_settles (zeros_at mid place 128) (zeros_at new place 128) table d s.table_is (long_hidden mid new place long s.record_is.inside)
    (head_hidden mid new place long s.record_is.inside d.page.0 head) (pages_hidden mid new place long s.record_is.inside d.page.0 d.pages others)))

-- bytes of the file are copied into it
pub part_shown : (mid new : List ℕ) (place : ℕ) (table : Entries) (d : FileAt) (i : ℕ) (from : FileAt) (page : PageId) (at n : ℕ) → HidesRecord mid table (Some d) i from place → length new ≡ length mid → IsPartCopied mid new from page.0 at n
    → d.page ≡ page → d.pages ≡ from.pages → d.size ≡ from.size → at + n ≤ from.size → ((p : ℕ) → at ≤ p → p + 32 < 256 * d.pages → file_byte (zeros_at mid place 128) d.page.0 None p ≡ 0)
    → CopiesPart (zeros_at mid place 128) (zeros_at new place 128) table d from at n
part_shown mid new place table d i from page at n r long c page_is pages_are size_is within zeros =
    let h = r.table_is.holds in
    let room = (h.stored i from r.there).fits.size in
    let many = c.long in
    let begun : List ℕ = or_at (zeros_at mid place 128) (256 * page.0 + 32 + at) c.bytes in
    let writes : Writes (zeros_at mid place 128) (or_at (zeros_at mid place 128) (256 * page.0 + 32 + at) c.bytes) table d at c.bytes =
    written_there (zeros_at mid place 128) (or_at (zeros_at mid place 128) (256 * page.0 + 32 + at) c.bytes) page from.pages (256 * page.0 + 32 + at) at c.bytes refl refl table d h page_is pages_are (omega (arith, within, size_is, many))
    (λ k less. ap (λ (q : PageId). file_byte (zeros_at mid place 128) q.0 None (at + k)) (sym page_is) ∙ zeros (at + k) (omega arith) (omega (arith, less, many, within, room, pages_are))) in
    let but : IsSameBut (or_at (zeros_at mid place 128) (256 * page.0 + 32 + at) c.bytes) new place =
    subst (λ x. IsSameBut (or_at (zeros_at mid place 128) (256 * page.0 + 32 + at) c.bytes) x place) (sym c.is) (or_but (zeros_at mid place 128) mid place (256 * page.0 + 32 + at) c.bytes (blank_but mid place r.record_is.inside)) in
    let is : zeros_at new place 128 ≡ or_at (zeros_at mid place 128) (256 * page.0 + 32 + at) c.bytes =
    shown_is (or_at (zeros_at mid place 128) (256 * page.0 + 32 + at) c.bytes) new place table (Some d) i from but writes.holds r.there (next_after (length mid) (length new) place from long r.record_is) in
    subst (λ x. CopiesPart (zeros_at mid place 128) x table d from at n) (sym is)
    (copied_part (zeros_at mid place 128) (or_at (zeros_at mid place 128) (256 * page.0 + 32 + at) c.bytes) table d from at n c.bytes writes c.long
    (λ k less. c.read k less ∙ byte_same mid place table (Some d) i from h r.there r.record_is (at + k) (omega (arith, less, within, room))) (omega (arith, within, room, pages_are)))

-- so far n bytes are
abbrev pub CopiesHidden : (old new : List ℕ) → PageId → FileAt → ℕ → Type 0
CopiesHidden old new page from n =
    (table : Entries) (d : FileAt) (i place : ℕ) → HidesRecord old table (Some d) i from place → IsEmptyDraft (zeros_at old place 128) d page from → Copies (zeros_at old place 128) (zeros_at new place 128) table d from n

pub none_copied : (old : List ℕ) (page : PageId) (from : FileAt) → CopiesHidden old old page from 0
none_copied old page from = λ table d i place r empty. copied_none (zeros_at old place 128) table d from r.table_is.holds empty.zeros

pub more_copied : (old mid new : List ℕ) (page : PageId) (from : FileAt) (done n : ℕ) → length mid ≡ length old → length new ≡ length mid → done + n ≤ from.size → CopiesHidden old mid page from done → IsPartCopied mid new from page.0 done n
    → CopiesHidden old new page from (done + n)
more_copied old mid new page from done n long more within copies part = λ table d i place r empty.
    let c = copies table d i place r empty in
    let room = (r.table_is.holds.stored i from r.there).fits.size in
    let pages = empty.pages_are in
    let hides = hides_again old mid table (Some d) (Some d) i from place long r c.holds in
    copied_more (zeros_at old place 128) (zeros_at mid place 128) (zeros_at new place 128) table d from i done n r.there (omega (arith, within, room, pages)) (omega (arith, within, room)) c
    (part_shown mid new place table d i from page done n hides more part empty.page_is empty.pages_are empty.size_is within c.zeros)
