-- A draft that is written, and one that becomes a file.
use Rattle.std.proofs.Common.{◌≡◌, ◌≢◌, ℕ, ◌+◌, ◌-◌, ◌<◌, ◌≤◌, Bool, false, not, ◌&&◌, List, length, replicate, get_or, slice_range, Option, Some, None, IsTrue, refl, sym, subst, arith}
use Rattle.afl_base.specs.Fields.{put_at}
use Rattle.afl_base.specs.Files.{Drafts, draft_in}
use Rattle.coffee_layout.specs.FileBytes.{file_byte}
use Rattle.coffee_layout.specs.declared.file.FileAt.{FileAt}
use Rattle.coffee_merge.specs.Holding.{HoldsTable, Entries, Writes}
use Rattle.coffee_volume.specs.Volumes.{EntryTable, drafted_bytes, places, state_seen}
use Rattle.coffee_volume.proofs.Standing.{Stands, stands_kept, tells_by, where_told}
use Rattle.coffee_volume.proofs.States.{last_drafted, length_drafted, seen_writes, zeros_there}

-- BYTES OF A DRAFT

-- bytes lie inside the draft
pub inside_draft : (tells : Bool) (image : List ℕ) (table : EntryTable) (draft : Option FileAt) (d : FileAt) (at n : ℕ) → draft ≡ Some d → at + n ≤ length (draft_in (state_seen tells image table draft)).bytes → at + n ≤ d.size
inside_draft tells image table draft d at n is range =
    let within : at + n ≤ length (drafted_bytes tells image d) = subst (λ (o : Option FileAt). at + n ≤ length (draft_in (state_seen tells image table o)).bytes) is range in
    omega (arith, length_drafted tells image d)

-- bytes are written into the draft, where it has zeros
pub record WritesDraft (tells failed : Bool) (old new : List ℕ) (table : EntryTable) (draft : Option FileAt) (d : FileAt) (at : ℕ) (bytes : List ℕ) : Type 0 where
  pub stands : Stands tells failed old table draft
  pub is : draft ≡ Some d
  pub range : at + length bytes ≤ length (draft_in (state_seen (tells && not failed) old table draft)).bytes
  pub zeros : IsTrue (tells && not failed) → slice_range (draft_in (state_seen (tells && not failed) old table draft)).bytes at (at + length bytes) ≡ replicate (length bytes) 0
  pub size : length new ≡ length old
  pub written : IsTrue tells → (t : Entries) (e : FileAt) → HoldsTable old t (Some e) → e.page ≡ d.page → e.pages ≡ d.pages → at + length bytes ≤ e.size → ((k : ℕ) → k < length bytes → file_byte old d.page.0 None (at + k) ≡ 0) → Writes old new t e at bytes

draft_writes : (tells failed : Bool) (old new : List ℕ) (table : EntryTable) (draft : Option FileAt) (d : FileAt) (at : ℕ) (bytes : List ℕ) → WritesDraft tells failed old new table draft d at bytes → IsTrue tells → failed ≡ false → Writes old new (places table) d at bytes
draft_writes tells failed old new table draft d at bytes w told fine =
    let t : IsTrue (tells && not failed) = tells_by tells failed told fine in
    let range : at + length bytes ≤ length (drafted_bytes (tells && not failed) old d) = subst (λ (o : Option FileAt). at + length bytes ≤ length (draft_in (state_seen (tells && not failed) old table o)).bytes) w.is w.range in
    let zeros : slice_range (drafted_bytes (tells && not failed) old d) at (at + length bytes) ≡ replicate (length bytes) 0 =
    subst (λ (o : Option FileAt). slice_range (draft_in (state_seen (tells && not failed) old table o)).bytes at (at + length bytes) ≡ replicate (length bytes) 0) w.is (w.zeros t) in
    w.written told (places table) d (subst (HoldsTable old (places table)) w.is (w.stands.told told fine)) refl refl (inside_draft (tells && not failed) old table draft d at (length bytes) w.is w.range)
    (zeros_there (tells && not failed) old d at (length bytes) t range zeros)

pub stands_written : (tells failed : Bool) (old new : List ℕ) (table : EntryTable) (draft : Option FileAt) (d : FileAt) (at : ℕ) (bytes : List ℕ) → WritesDraft tells failed old new table draft d at bytes → Stands tells failed new table draft
stands_written tells failed old new table draft d at bytes w =
    stands_kept tells failed old new table draft w.stands w.size
    (λ told fine. subst (HoldsTable new (places table)) (sym w.is) (draft_writes tells failed old new table draft d at bytes w told fine).holds)

pub seen_written : (tells failed : Bool) (old new : List ℕ) (table : EntryTable) (draft : Option FileAt) (d : FileAt) (at : ℕ) (bytes : List ℕ) → WritesDraft tells failed old new table draft d at bytes
    → Drafts (state_seen (tells && not failed) old table draft) (state_seen (tells && not failed) new table draft) (draft_in (state_seen (tells && not failed) old table draft)).name (length (draft_in (state_seen (tells && not failed) old table draft)).bytes)
    (put_at (draft_in (state_seen (tells && not failed) old table draft)).bytes at bytes)
seen_written tells failed old new table draft d at bytes w =
    let all : IsTrue (tells && not failed) → Writes old new (places table) d at bytes = where_told tells failed (Writes old new (places table) d at bytes) (draft_writes tells failed old new table draft d at bytes w) in
    subst (λ (o : Option FileAt). Drafts (state_seen (tells && not failed) old table o) (state_seen (tells && not failed) new table o) (draft_in (state_seen (tells && not failed) old table o)).name (length (draft_in (state_seen (tells && not failed) old table o)).bytes)
    (put_at (draft_in (state_seen (tells && not failed) old table o)).bytes at bytes)) (sym w.is)
    (seen_writes (tells && not failed) old new table d at bytes (w.stands.pending d w.is).fits.size (inside_draft (tells && not failed) old table draft d at (length bytes) w.is w.range) (λ t. (all t).kept) (λ t. (all t).put))

-- the last byte of a draft that may be committed is not zero
pub last_byte : (tells : Bool) (image : List ℕ) (table : EntryTable) (draft : Option FileAt) (d : FileAt) → draft ≡ Some d
    → (IsTrue tells → 1 ≤ length (draft_in (state_seen tells image table draft)).bytes → get_or (draft_in (state_seen tells image table draft)).bytes (length (draft_in (state_seen tells image table draft)).bytes - 1) 0 ≢ 0) → IsTrue tells → 1 ≤ d.size → file_byte image d.page.0 None (d.size - 1) ≢ 0
last_byte tells image table draft d is last told =
    last_drafted tells image d told
    (subst (λ (o : Option FileAt). IsTrue tells → 1 ≤ length (draft_in (state_seen tells image table o)).bytes → get_or (draft_in (state_seen tells image table o)).bytes (length (draft_in (state_seen tells image table o)).bytes - 1) 0 ≢ 0) is last told)
