-- An image that a call left which broke off mends to the files of the table.
use Rattle.std.proofs.Common.{◌≡◌, inl, inr, ℕ, List, length, Option, None, Some, sym, subst, ◌∙◌}
use Rattle.coffee_layout.specs.Tiling.{nowhere, units_of}
use Rattle.coffee_layout.specs.declared.file.FileAt.{FileAt}
use Rattle.coffee_merge.specs.Holding.{Entries}
use Rattle.coffee_merge.specs.Torn.{BreaksOff, IsTorn, IsTornAlone, TearsCollection, TearsHeader}
use Rattle.coffee_merge.proofs.Holdings.{holds_tiled}
use Rattle.coffee_space.specs.Cutting.{IsCutCollection}
use Rattle.coffee_cuts.specs.Mending.{IsTable, MendsToTable}
use Rattle.coffee_cuts.proofs.Collections.{cut_off_settles, kept_settles}
use Rattle.coffee_cuts.proofs.Commits.{copied_mends}
use Rattle.coffee_cuts.proofs.Drafts.{drafted_mends, written_mends}
use Rattle.coffee_cuts.proofs.Headers.{torn_header_settles}
use Rattle.coffee_cuts.proofs.Logs.{naming_mends, torn_log_mends}
use Rattle.coffee_cuts.proofs.Mended.{SettlesHolding, file_stays, mends_as, settling_mends, whole_mends}

held_mends : (whole : List ℕ) (table : Entries) (draft : Option FileAt) → IsTable whole table draft → MendsToTable whole whole table
held_mends whole table None t = whole_mends whole table t
held_mends whole table (Some d) t = drafted_mends whole table d t

pub collection_settles : (whole new : List ℕ) (table : Entries) → IsTable whole table None → length new ≡ length whole → IsCutCollection nowhere whole new (units_of whole) → SettlesHolding new whole table
collection_settles whole new table t long (inl kept) = kept_settles whole new table t long kept
collection_settles whole new table t long (inr c) = cut_off_settles whole new table t c

pub torn_collection_mends : (whole new : List ℕ) (table : Entries) → IsTable whole table None → length new ≡ length whole → TearsCollection whole new → MendsToTable new whole table
torn_collection_mends whole new table t long c = settling_mends new whole table None t (collection_settles whole new table t long (c.cut (units_of whole) (holds_tiled whole table None t.holds)))

pub torn_extent_mends : (whole new : List ℕ) (table : Entries) → IsTable whole table None → TearsHeader whole new → MendsToTable new whole table
torn_extent_mends whole new table t c = settling_mends new whole table None t (torn_header_settles whole new table t c.page c.header c.valid (inl c.begun) c.some c.run c.cut)

alone_mends : (whole new : List ℕ) (table : Entries) → IsTable whole table None → length new ≡ length whole → IsTornAlone whole new table → MendsToTable new whole table
alone_mends whole new table t long (inl c) = torn_collection_mends whole new table t long c
alone_mends whole new table t long (inr (inl c)) = torn_extent_mends whole new table t c
alone_mends whole new table t long (inr (inr (inl c))) = torn_log_mends whole new table t c
alone_mends whole new table t long (inr (inr (inr c))) = naming_mends whole new table t c

torn_mends : (whole new : List ℕ) (table : Entries) (draft : Option FileAt) → IsTable whole table draft → length new ≡ length whole → IsTorn whole new table draft → MendsToTable new whole table
torn_mends whole new table draft t long (inl none) = subst (λ image. MendsToTable image whole table) (sym none) (held_mends whole table draft t)
torn_mends whole new table draft t long (inr (inl c)) = alone_mends whole new table (subst (IsTable whole table) c.0 t) long c.1
torn_mends whole new table draft t long (inr (inr (inl c))) = written_mends whole new table c.d (subst (IsTable whole table) c.is t) long c.head c.others
torn_mends whole new table draft t long (inr (inr (inr c))) = copied_mends whole new table draft t c

-- the image that the call broke off in holds the table as the one before does
pub broken_off_mends : (old new : List ℕ) (table : Entries) → IsTable old table None → length new ≡ length old → BreaksOff old new table → MendsToTable new old table
broken_off_mends old new table t long b =
    mends_as new old b.whole table (λ i e is. file_stays old b.whole e (t.holds.stored i e is) (b.holds.stored i e is) (b.kept i e is))
    (torn_mends b.whole new table b.draft (record { holds = b.holds; few = t.few; sparing = t.sparing; sectors = t.sectors; size = b.long ∙ t.size; small = t.small }) (long ∙ sym b.long) b.torn)
