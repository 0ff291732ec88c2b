-- An image with an extent under construction, whatever stands in that, mends to the files without it.
use Rattle.std.proofs.Common.{◌≡◌, ◌≢◌, ⊎_elim, ℕ, ◌+◌, ◌-◌, ◌*◌, ◌/◌, ◌%◌, ◌<◌, ◌≤◌, true, List, length, get_or, Some, None, refl, ap, sym, subst, ◌∙◌, arith, bit_or}
use Rattle.std.proofs.lemmas.Bool.{cases_eq, cases_lt}
use Rattle.afl_base.proofs.Images.{byte_in_page}
use Rattle.coffee_header.specs.declared.header.Header.{Header}
use Rattle.coffee_layout.specs.Tiling.{IsTiled, nowhere, units_of}
use Rattle.coffee_layout.specs.Units.{total}
use Rattle.coffee_layout.specs.declared.file.FileAt.{FileAt}
use Rattle.coffee_layout.specs.declared.unit.Unit.TheVariants.{Extent}
use Rattle.coffee_layout.proofs.Frames.{content_stays}
use Rattle.coffee_layout.proofs.Tests.{eq_false}
use Rattle.coffee_layout.proofs.Tilings.{unbroken_tiled, units_tiled}
use Rattle.coffee_merge.specs.Begun.{active_at, active_header}
use Rattle.coffee_merge.specs.CutMarks.{KeepsHead}
use Rattle.coffee_merge.specs.Flags.{flagged}
use Rattle.coffee_merge.specs.Holding.{Entries, HoldsTable, IsDrafted, IsIn, Stays, building_of, draft_header, has_extent_at}
use Rattle.coffee_merge.specs.Takes.{KeepsPagesBut}
use Rattle.coffee_merge.proofs.Begun.{begun_split}
use Rattle.coffee_merge.proofs.Drafting.{kept_then}
use Rattle.coffee_merge.proofs.Holdings.{HeldBy, LogAt, draft_apart, draft_unit, extent_here, extent_read, held_by, held_in, holds_tiled, log_here}
use Rattle.coffee_merge.proofs.Kept.{KeepsBodies, bodies_kept, body_stored, fits_kept, holds_bodies}
use Rattle.coffee_merge.proofs.Marked.{Reflags, flagged_extent}
use Rattle.coffee_merge.proofs.Retired.{inactive, only_one}
use Rattle.coffee_merge.proofs.Turned.{file_and_draft, file_body}
use Rattle.padded.proofs.Facts.{none_is_some, none_some, some_same}
use Rattle.coffee_cuts.specs.Cuts.{Building, IsActiveAt}
use Rattle.coffee_cuts.specs.Mending.{IsTable, MendsToTable}
use Rattle.coffee_cuts.proofs.Mended.{SettlesHolding, settles_by, settling_mends}

-- the extents of a file do not begin where the draft does
pub off_draft : (old : List ℕ) (table : Entries) (d e : FileAt) (i q : ℕ) → HoldsTable old table (Some d) → IsIn table i e → has_extent_at q (Some e) ≡ true → q ≢ d.page.0
off_draft old table d e i q h is here same = file_and_draft old table (Some d) i e q h is here (extent_here q d (sym same))

-- where the draft is no longer active, and all else is as it was, the table is held without it
pub undrafted : (old new : List ℕ) (table : Entries) (d : FileAt) → HoldsTable old table (Some d) → length new ≡ length old → IsTiled nowhere new (units_of new)
    → active_at (units_of new) d.page.0 ≡ None → ((q : ℕ) → q ≢ d.page.0 → active_at (units_of new) q ≡ active_at (units_of old) q) → KeepsBodies old new table → Stays old new table
undrafted old new table d h long tiled gone others bodies =
    let whole = h.whole in
    record {
      holds = record {
        whole = omega (arith, whole, long);
        tiled = unbroken_tiled nowhere new (units_of new) tiled;
        files = λ i e is. others e.page.0 (off_draft old table d e i e.page.0 h is (extent_here e.page.0 e refl)) ∙ h.files i e is;
        logs = λ i e l is log. others l.0 (off_draft old table d e i l.0 h is (log_here l.0 e l log refl)) ∙ h.logs i e l is log;
        begun = λ f none. absurd (none_some f none);
        only = λ page g active. ⊎_elim
            (λ (here : page ≡ d.page.0). absurd (none_is_some gone (ap (active_at (units_of new)) (sym here) ∙ active)))
            (λ (there : page ≢ d.page.0). ⊎_elim
            (λ (by : HeldBy table page). held_in table None by.place by.entry page by.is_in by.extent)
            (λ (drafted : has_extent_at page (Some d) ≡ true). absurd (⊎_elim {C = ⊥}
            (λ (at : d.page.0 ≡ page). there (sym at))
            (λ (at : LogAt d page). none_is_some (h.drafted d refl).no_log at.is)
            (extent_read page d drafted)))
            (held_by table (Some d) page (h.only page g (sym (others page there) ∙ active))))
            (cases_eq page d.page.0);
        names = h.names;
        stored = λ i e is. body_stored old new e long (bodies i e is) (h.stored i e is);
        drafted = λ f none. absurd (none_some f none);
      };
      kept = bodies_kept old new table long bodies;
    }

-- A DRAFT THAT IS MADE OBSOLETE

abbrev dropped : FileAt → Header
dropped d = record (draft_header d) { flags = bit_or 2 5 }

settled_draft : (old : List ℕ) (table : Entries) (d : FileAt) → HoldsTable old table (Some d) → Reflags nowhere old (flagged old d.page.0 5) d.page.0 (dropped d)
settled_draft old table d h =
    flagged_extent (building_of (Some d)) nowhere old d.page.0 (draft_header d) 5 (holds_tiled old table (Some d) h) (draft_unit old table d h) refl refl (λ q differ. eq_false d.page.0 q (λ same. differ (sym same)))

pub draft_dropped : (old : List ℕ) (table : Entries) (d : FileAt) → HoldsTable old table (Some d) → Stays old (flagged old d.page.0 5) table
draft_dropped old table d h =
    let new : List ℕ = flagged old d.page.0 5 in
    let r = settled_draft old table d h in
    undrafted old new table d h r.long r.tiled (inactive (units_of new) d.page.0 (dropped d) r.here refl) (λ q apart. ap active_header (r.others q apart))
    (λ i e is. file_body old new table (Some d) i e h (only_one nowhere old new d.page.0 (dropped d) (Extent (draft_header d)) r (draft_unit old table d h)) is)

pub draft_found : (image : List ℕ) (table : Entries) (d : FileAt) → HoldsTable image table (Some d) → IsActiveAt image d.page.0 2
draft_found image table d h = record { header = draft_header d; there = h.begun d refl; flags_are = refl }

-- a draft stands, and nothing is torn
pub drafted_settles : (whole : List ℕ) (table : Entries) (d : FileAt) → IsTable whole table (Some d) → SettlesHolding whole whole table
drafted_settles whole table d t = settles_by whole whole table (Some d) (Building d.page.0) t (draft_found whole table d t.holds) (draft_dropped whole table d t.holds)

pub drafted_mends : (whole : List ℕ) (table : Entries) (d : FileAt) → IsTable whole table (Some d) → MendsToTable whole whole table
drafted_mends whole table d t = settling_mends whole whole table (Some d) t (drafted_settles whole table d t)

-- A DRAFT THAT WAS WRITTEN TO

-- a draft of which nothing is said: its size is all that it has room for
abbrev roomy : FileAt → FileAt
roomy d = record d { size = 256 * d.pages - 32 }

roomy_drafted : (image : List ℕ) (d : FileAt) → IsDrafted image d → IsDrafted image (roomy d)
roomy_drafted image d s =
    let some = s.fits.some in
    record {
      fits = record { some = some; placed = s.fits.placed; size = omega (arith, some); log = s.fits.log; used = s.fits.used; unused = s.fits.unused };
      shape = s.shape;
      file = record {
        apart = s.file.apart;
        logged = s.file.logged;
        below = λ l none. absurd (none_some l none);
        zeros = λ p from to. absurd (omega (arith, from, to));
      };
      no_log = s.no_log;
    }

roomy_held : (image : List ℕ) (table : Entries) (d : FileAt) → HoldsTable image table (Some d) → HoldsTable image table (Some (roomy d))
roomy_held image table d h = record {
  whole = h.whole;
  tiled = h.tiled;
  files = h.files;
  logs = h.logs;
  begun = λ f same. subst (λ (x : FileAt). active_at (units_of image) x.page.0 ≡ Some (draft_header x)) (some_same (roomy d) f same) (h.begun d refl);
  only = h.only;
  names = h.names;
  stored = h.stored;
  drafted = λ f same. subst (IsDrafted image) (some_same (roomy d) f same) (roomy_drafted image d (h.drafted d refl));
}

module _ (old new : List ℕ) (table : Entries) (d : FileAt) (h : HoldsTable old table (Some d)) (long : length new ≡ length old)
    (head : KeepsHead old new d.page.0) (others : KeepsPagesBut old new d.page.0 d.pages None) where
  -- all bytes of other pages stay
  other_byte : (k : ℕ) → (d.page.0 ≤ k / 256 → k / 256 < d.page.0 + d.pages → ⊥) → get_or new k 0 ≡ get_or old k 0
  other_byte k out = byte_in_page new k ∙ ap (λ xs. get_or xs (k % 256) 0) (others (k / 256) out refl) ∙ sym (byte_in_page old k)

  head_byte : (k : ℕ) → 256 * d.page.0 ≤ k → k < 256 * d.page.0 + 32 → get_or new k 0 ≡ get_or old k 0
  head_byte k low high =
      let back : 256 * d.page.0 + (k - 256 * d.page.0) ≡ k = omega (arith, low) in
      ap (λ j. get_or new j 0) (sym back) ∙ head (k - 256 * d.page.0) (omega (arith, low, high)) ∙ ap (λ j. get_or old j 0) back

  written_tiled : IsTiled (building_of (Some d)) new (units_of old)
  written_tiled =
      let s = begun_split (units_of old) d.page.0 (Extent (draft_header d)) (draft_unit old table d h) in
      let place = s.place in
      subst (IsTiled (building_of (Some d)) new) (sym s.whole)
      (content_stays (building_of (Some d)) old new s.front s.rest (draft_header d) (subst (IsTiled (building_of (Some d)) old) s.whole (holds_tiled old table (Some d) h)) long
      (λ k out. ⊎_elim
      (λ (low : k < 256 * total s.front + 32). ⊎_elim
      (λ (before : k < 256 * d.page.0). other_byte k (λ a b. omega (arith, before, a)))
      (λ (from : 256 * d.page.0 ≤ k). head_byte k from (omega (arith, low, place)))
      (cases_lt k (256 * d.page.0)))
      (λ (high : 256 * (total s.front + d.pages) ≤ k). other_byte k (λ a b. omega (arith, high, place, b)))
      out))

  written_bodies : KeepsBodies old new table
  written_bodies = λ i e is.
      let apart = draft_apart old table d i e h is in
      record {
        extent = λ k from to. other_byte k (λ a b. apart.extents (k / 256) a b (omega (arith, from)) (omega (arith, to)));
        logged = λ l log k from to. other_byte k (λ a b. apart.behind l log (k / 256) a b (omega (arith, from)) (omega (arith, to)));
      }

  -- the table is held with the draft, of which nothing is said
  pub written_held : HoldsTable new table (Some (roomy d))
  written_held =
      let r = roomy_drafted old d (h.drafted d refl) in
      holds_bodies old new table (Some (roomy d)) (roomy_held old table d h) long (unbroken_tiled (building_of (Some d)) new (units_of old) written_tiled)
      (λ page. ap (λ us. active_at us page) (units_tiled (building_of (Some d)) new (units_of old) written_tiled)) written_bodies
      (λ f same. subst (IsDrafted new) (some_same (roomy d) f same) (record {
        fits = fits_kept old new (roomy d) long r.fits;
        shape = r.shape;
        file = record {
          apart = r.file.apart;
          logged = λ l none. absurd (none_some l none);
          below = λ l none. absurd (none_some l none);
          zeros = λ p from to. absurd (omega (arith, from, to));
        };
        no_log = r.no_log;
      }))

-- a draft that was written to
pub written_settles : (whole new : List ℕ) (table : Entries) (d : FileAt) → IsTable whole table (Some d) → length new ≡ length whole → KeepsHead whole new d.page.0 → KeepsPagesBut whole new d.page.0 d.pages None → SettlesHolding new whole table
written_settles whole new table d t long head others =
    let held = written_held whole new table d t.holds long head others in
    let dropped = draft_dropped new table (roomy d) held in
    settles_by new whole table (Some d) (Building d.page.0) t (draft_found new table (roomy d) held)
    (record { holds = dropped.holds; kept = kept_then whole new (flagged new d.page.0 5) table (bodies_kept whole new table long (written_bodies whole new table d t.holds long head others)) dropped.kept })

pub written_mends : (whole new : List ℕ) (table : Entries) (d : FileAt) → IsTable whole table (Some d) → length new ≡ length whole → KeepsHead whole new d.page.0 → KeepsPagesBut whole new d.page.0 d.pages None → MendsToTable new whole table
written_mends whole new table d t long head others = settling_mends new whole table (Some d) t (written_settles whole new table d t long head others)
