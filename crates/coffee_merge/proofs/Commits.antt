-- What VALID in the header of a draft, and OBSOLETE in those of a file and its log, make of a table.
use Rattle.std.proofs.Common.{◌≡◌, ◌≢◌, ℕ, ◌-◌, ◌≤◌, ◌<◌, true, List, length, get_or, Some, None, refl, ap, sym, subst, ◌∙◌, bit_or}
use Rattle.coffee_merge.proofs.Logged.{in_same as one_entry}
use Rattle.padded.proofs.Facts.{some_same}
use Rattle.afl_base.specs.declared.ids.PageId.{PageId}
use Rattle.coffee_layout.specs.FileBytes.{file_byte}
use Rattle.coffee_layout.specs.Tiling.{nowhere, units_of}
use Rattle.coffee_layout.specs.declared.file.FileAt.{FileAt}
use Rattle.coffee_layout.specs.declared.unit.Unit.TheVariants.{Extent}
use Rattle.coffee_layout.proofs.Tests.{eq_false}
use Rattle.coffee_merge.specs.Begun.{active_at, active_header, unit_begun}
use Rattle.coffee_merge.specs.Flags.{flagged, obsoleted}
use Rattle.coffee_merge.specs.Holding.{CommitsExtent, Entries, HoldsTable, IsIn, IsNewName, Sets, building_of, draft_header, file_flags, file_header, has_extent_at, header_with, log_header}
use Rattle.coffee_merge.proofs.Holdings.{draft_unit, extent_here, file_unit, holds_tiled, in_table, log_here, log_unit}
use Rattle.coffee_merge.proofs.Kept.{body_byte}
use Rattle.coffee_merge.proofs.Marked.{Reflags, flagged_extent}
use Rattle.coffee_merge.proofs.Retired.{Retires, only_one, only_then, retires}
use Rattle.coffee_merge.proofs.Turned.{EndsWith, IsNewTo, Turned, draft_body, file_and_draft, turned_sets}

-- A FILE THAT IS OBSOLETE

retired_turned : (old : List ℕ) (table : Entries) (i : ℕ) (e : FileAt) → HoldsTable old table None → IsIn table i e → Turned old (obsoleted old e.page.0 e.log) table None i
retired_turned old table i e h is =
    let r = retires old e (holds_tiled old table None h) (file_unit old table None i e h is) (λ l log. log_unit old table None i e l h is log) in
    record {
      long = r.long;
      tiled = r.tiled;
      bytes = r.bytes;
      gone = λ f other. subst (λ (x : FileAt). active_at (units_of (obsoleted old e.page.0 e.log)) x.page.0 ≡ None) (one_entry table i e f is other) r.gone;
      gone_log = λ f l other log. r.gone_log l (ap (λ (x : FileAt). x.log) (one_entry table i e f is other) ∙ log);
      drafted = λ d none. cc;
      others = λ q out none. ap active_header (r.others q (λ here. out e is here));
    }

pub retired : (old : List ℕ) (table : Entries) (i : ℕ) (e : FileAt) → HoldsTable old table None → IsIn table i e → Sets old (obsoleted old e.page.0 e.log) table i None
retired old table i e h is = turned_sets old (obsoleted old e.page.0 e.log) table None i h (in_table table i e is) (retired_turned old table i e h is) (λ k f d differ other none same. cc) (λ d none some. cc)

-- A DRAFT THAT IS A FILE

-- VALID in the header of the draft
pub valid : (old : List ℕ) (table : Entries) (d : FileAt) → HoldsTable old table (Some d) → Reflags nowhere old (flagged old d.page.0 1) d.page.0 (record (draft_header d) { flags = bit_or 2 1 })
valid old table d h =
    flagged_extent (building_of (Some d)) nowhere old d.page.0 (draft_header d) 1 (holds_tiled old table (Some d) h) (draft_unit old table d h) refl refl (λ q differ. eq_false d.page.0 q (λ same. differ (sym same)))

valid_file : (old : List ℕ) (table : Entries) (d : FileAt) → HoldsTable old table (Some d) → active_at (units_of (flagged old d.page.0 1)) d.page.0 ≡ Some (file_header d)
valid_file old table d h = ap active_header (valid old table d h).here ∙ ap (λ log. Some (header_with d (file_flags log))) (sym (h.drafted d refl).no_log)

committed_turned : (old : List ℕ) (table : Entries) (d : FileAt) (i : ℕ) → HoldsTable old table (Some d) → get_or table i None ≡ None → Turned old (flagged old d.page.0 1) table (Some d) i
committed_turned old table d i h free =
    let r = valid old table d h in
    record {
      long = r.long;
      tiled = r.tiled;
      bytes = only_one nowhere old (flagged old d.page.0 1) d.page.0 (record (draft_header d) { flags = bit_or 2 1 }) (Extent (draft_header d)) r (draft_unit old table d h);
      gone = λ e is. let bad : None ≡ Some e = sym free ∙ is in cc;
      gone_log = λ e l is log. let bad : None ≡ Some e = sym free ∙ is in cc;
      drafted = λ f same. subst (λ (x : FileAt). active_at (units_of (flagged old d.page.0 1)) x.page.0 ≡ Some (file_header x)) (some_same d f same) (valid_file old table d h);
      others = λ q out apart. ap active_header (r.others q (λ same. apart (extent_here q d (sym same))));
    }

apart_from_draft : (old : List ℕ) (table : Entries) (d e : FileAt) (i : ℕ) → HoldsTable old table (Some d) → IsIn table i e → (q : ℕ) → has_extent_at q (Some e) ≡ true → q ≢ d.page.0
apart_from_draft old table d e i h is q here same = file_and_draft old table (Some d) i e q h is here (extent_here q d (sym same))

-- after that a file is obsolete
pub replaced_file : (old : List ℕ) (table : Entries) (d e : FileAt) (i : ℕ) → HoldsTable old table (Some d) → IsIn table i e → unit_begun (units_of (flagged old d.page.0 1)) 0 e.page.0 ≡ Some (Extent (file_header e))
replaced_file old table d e i h is = (valid old table d h).others e.page.0 (apart_from_draft old table d e i h is e.page.0 (extent_here e.page.0 e refl)) ∙ file_unit old table (Some d) i e h is

pub replaced_log : (old : List ℕ) (table : Entries) (d e : FileAt) (i : ℕ) (l : PageId) → HoldsTable old table (Some d) → IsIn table i e → e.log ≡ Some l → unit_begun (units_of (flagged old d.page.0 1)) 0 l.0 ≡ Some (Extent (log_header e.name))
replaced_log old table d e i l h is log = (valid old table d h).others l.0 (apart_from_draft old table d e i h is l.0 (log_here l.0 e l log refl)) ∙ log_unit old table (Some d) i e l h is log

pub replaced_retires : (old : List ℕ) (table : Entries) (d e : FileAt) (i : ℕ) → HoldsTable old table (Some d) → IsIn table i e → Retires (flagged old d.page.0 1) (obsoleted (flagged old d.page.0 1) e.page.0 e.log) e
replaced_retires old table d e i h is = retires (flagged old d.page.0 1) e (valid old table d h).tiled (replaced_file old table d e i h is) (λ l log. replaced_log old table d e i l h is log)

replaced_turned : (old : List ℕ) (table : Entries) (d e : FileAt) (i : ℕ) → HoldsTable old table (Some d) → IsIn table i e → Turned old (obsoleted (flagged old d.page.0 1) e.page.0 e.log) table (Some d) i
replaced_turned old table d e i h is =
    let r = valid old table d h in
    let apart = apart_from_draft old table d e i h is in
    let s = replaced_retires old table d e i h is in
    record {
      long = s.long ∙ r.long;
      tiled = s.tiled;
      bytes = only_then nowhere old (flagged old d.page.0 1) (obsoleted (flagged old d.page.0 1) e.page.0 e.log) d.page.0 (record (draft_header d) { flags = bit_or 2 1 }) (Extent (draft_header d)) r (draft_unit old table d h) s.bytes;
      gone = λ f other. subst (λ (x : FileAt). active_at (units_of (obsoleted (flagged old d.page.0 1) e.page.0 e.log)) x.page.0 ≡ None) (one_entry table i e f is other) s.gone;
      gone_log = λ f l other log. s.gone_log l (ap (λ (x : FileAt). x.log) (one_entry table i e f is other) ∙ log);
      drafted = λ f same.
          subst (λ (x : FileAt). active_at (units_of (obsoleted (flagged old d.page.0 1) e.page.0 e.log)) x.page.0 ≡ Some (file_header x)) (some_same d f same)
          (ap active_header (s.others d.page.0 (λ here. apart d.page.0 here refl)) ∙ valid_file old table d h);
      others = λ q out free. ap active_header (s.others q (λ here. out e is here) ∙ r.others q (λ same. free (extent_here q d (sym same))));
    }

ends_with : (old : List ℕ) (d : FileAt) (page : PageId) → d.page ≡ page → (1 ≤ d.size → file_byte old page.0 None (d.size - 1) ≢ 0) → EndsWith old (Some d)
ends_with old d page place last =
    λ f same. subst (λ (x : FileAt). 1 ≤ x.size → file_byte old x.page.0 None (x.size - 1) ≢ 0) (some_same d f same) (subst (λ (p : PageId). 1 ≤ d.size → file_byte old p.0 None (d.size - 1) ≢ 0) (sym place) last)

commits_by : (old new : List ℕ) (table : Entries) (d : FileAt) (i : ℕ) → HoldsTable old table (Some d) → i < length table → Turned old new table (Some d) i → IsNewTo table i (Some d) → EndsWith old (Some d) → CommitsExtent old new table i d
commits_by old new table d i h inside t fresh ends = record {
  sets = turned_sets old new table (Some d) i h inside t fresh ends;
  content = λ p within. body_byte old new d.page.0 d.pages None p t.long (draft_body old new table d h t.bytes) within;
}

pub commits : (old : List ℕ) (table : Entries) (d : FileAt) (i : ℕ) (page : PageId) → HoldsTable old table (Some d) → d.page ≡ page → i < length table → get_or table i None ≡ None → IsNewName table d.name
    → (1 ≤ d.size → file_byte old page.0 None (d.size - 1) ≢ 0) → CommitsExtent old (flagged old page.0 1) table i d
commits old table d i page h place inside free fresh last =
    subst (λ (p : PageId). CommitsExtent old (flagged old p.0 1) table i d) place
    (commits_by old (flagged old d.page.0 1) table d i h inside (committed_turned old table d i h free)
    (λ k e f differ is same clash. fresh k e is (clash ∙ ap (λ (x : FileAt). x.name) (sym (some_same d f same)))) (ends_with old d page place last))

pub replaces : (old : List ℕ) (table : Entries) (d e : FileAt) (i : ℕ) (page : PageId) → HoldsTable old table (Some d) → d.page ≡ page → IsIn table i e → e.name ≡ d.name
    → (1 ≤ d.size → file_byte old page.0 None (d.size - 1) ≢ 0) → CommitsExtent old (obsoleted (flagged old page.0 1) e.page.0 e.log) table i d
replaces old table d e i page h place is named last =
    subst (λ (p : PageId). CommitsExtent old (obsoleted (flagged old p.0 1) e.page.0 e.log) table i d) place
    (commits_by old (obsoleted (flagged old d.page.0 1) e.page.0 e.log) table d i h (in_table table i e is) (replaced_turned old table d e i h is)
    (λ k f g differ other same clash. differ (h.names k i f e other is (clash ∙ ap (λ (x : FileAt). x.name) (sym (some_same d g same)) ∙ sym named))) (ends_with old d page place last))
