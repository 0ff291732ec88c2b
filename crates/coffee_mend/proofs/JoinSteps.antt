-- A file is put together with its log, of which a record is torn: the steps of that, one after the other.
use Rattle.std.proofs.Common.{◌≡◌, ℕ, ◌<◌, List, length, Some, None, refl, ap, sym, subst, ◌∙◌, arith}
use Rattle.afl_base.specs.Image.{zeros_at}
use Rattle.afl_base.specs.declared.ids.PageId.{PageId}
use Rattle.coffee_layout.specs.FileBytes.{file_byte}
use Rattle.coffee_layout.specs.declared.file.FileAt.{FileAt}
use Rattle.coffee_merge.specs.CutMarks.{IsCutReplace, KeepsHead}
use Rattle.coffee_merge.specs.Flags.{flagged, obsoleted}
use Rattle.coffee_merge.specs.Holding.{BeginsExtent, Copies, Entries, KeepsContents}
use Rattle.coffee_merge.specs.Takes.{KeepsPagesBut}
use Rattle.coffee_mend.proofs.HiddenBytes.{blank_but}
use Rattle.coffee_mend.proofs.HiddenDrafts.{CopiesHidden, draft_mends, hides_again}
use Rattle.coffee_mend.proofs.HiddenMends.{cut_joined, sound_joined}
use Rattle.coffee_mend.proofs.Joins.{joined_draft}
use Rattle.coffee_mend.specs.Joined.{HidesRecord, IsNextIn}
use Rattle.coffee_mend.specs.Mended.{IsSoundAs, MendsLike}
use Rattle.padded.proofs.Facts.{some_same}

module _ (old begun : List ℕ) (file : FileAt) (page : PageId) (table : Entries) (i place : ℕ) (r : HidesRecord old table None i file place) (long : length begun ≡ length old)
    (b : BeginsExtent (zeros_at old place 128) (zeros_at begun place 128) table (joined_draft file page)) where
  hides_begun : HidesRecord begun table (Some (joined_draft file page)) i file place
  hides_begun = hides_again old begun table None (Some (joined_draft file page)) i file place long r b.holds

  pub copy_cut : (copied : List ℕ) → length copied ≡ length begun → KeepsHead begun copied page.0 → KeepsPagesBut begun copied page.0 file.pages None → MendsLike (zeros_at old place 128) copied
  copy_cut copied more head others = draft_mends old begun copied place table (joined_draft file page) i file r hides_begun more b.kept head others

  module _ (copied : List ℕ) (more : length copied ≡ length begun) (copies : CopiesHidden begun copied page file file.size) (log : PageId) (logged : file.log ≡ Some log) where
    made : Copies (zeros_at begun place 128) (zeros_at copied place 128) table (joined_draft file page) file file.size
    made = copies table (joined_draft file page) i place hides_begun (record { page_is = refl; pages_are = refl; size_is = refl; zeros = b.zeros })

    hides_copied : HidesRecord copied table (Some (joined_draft file page)) i file place
    hides_copied = hides_again begun copied table (Some (joined_draft file page)) (Some (joined_draft file page)) i file place more hides_begun made.holds

    kept : KeepsContents (zeros_at old place 128) (zeros_at copied place 128) table
    kept = λ k e at p low. made.kept k e at p low ∙ b.kept k e at p low

    same : (p : ℕ) → p < file.size → file_byte (zeros_at copied place 128) page.0 None p ≡ file_byte (zeros_at old place 128) file.page.0 file.log p
    same = λ p low. made.same p low ∙ b.kept i file r.there p (let room = (r.table_is.holds.stored i file r.there).fits.size in omega (arith, low, room))

    n : IsNextIn (length copied) place file
    n = hides_copied.record_is

    log_is : log ≡ n.log
    log_is = some_same log n.log (sym logged ∙ n.logged)

    pub taken_all : (new : List ℕ) → new ≡ obsoleted (flagged copied page.0 1) file.page.0 (Some log) → IsSoundAs (zeros_at old place 128) new
    taken_all new is =
        sound_joined (zeros_at old place 128) (zeros_at copied place 128) copied table i file page place r.table_is r.there n (blank_but copied place n.inside) hides_copied.table_is kept same
        new (is ∙ ap (λ l. obsoleted (flagged copied page.0 1) file.page.0 (Some l)) log_is)

    pub taken_cut : (new : List ℕ) → IsCutReplace copied new page.0 file.page.0 (Some log) → MendsLike (zeros_at old place 128) new
    taken_cut new cut =
        cut_joined (zeros_at old place 128) (zeros_at copied place 128) copied table i file page place r.table_is r.there n (blank_but copied place n.inside) hides_copied.table_is kept same
        new (subst (λ l. IsCutReplace copied new page.0 file.page.0 (Some l)) log_is cut)
