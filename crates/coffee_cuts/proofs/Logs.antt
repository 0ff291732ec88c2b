-- A log that a file does not name yet, or names in part: what the image mends to.
use Rattle.std.proofs.Common.{◌≡◌, ◌⊎◌, inr, ⊎_elim, ℕ, ◌+◌, ◌*◌, ◌<◌, ◌≤◌, true, List, length, Some, None, refl, ap, sym, subst, ◌∙◌, arith}
use Rattle.std.proofs.lemmas.List.{take_all}
use Rattle.afl_base.specs.Cuts.{IsCutProgram}
use Rattle.afl_base.specs.Image.{or_at}
use Rattle.afl_base.specs.Names.{is_file_name}
use Rattle.afl_base.specs.declared.ids.PageId.{PageId}
use Rattle.coffee_header.specs.Headers.{header_bytes}
use Rattle.coffee_layout.specs.FileBytes.{file_byte}
use Rattle.coffee_layout.specs.Tiling.{nowhere, units_of}
use Rattle.coffee_layout.specs.Units.{is_active_flags, is_free, pages_of}
use Rattle.coffee_layout.specs.declared.file.FileAt.{FileAt}
use Rattle.coffee_layout.specs.declared.unit.Unit.TheVariants.{Extent}
use Rattle.coffee_layout.proofs.MarkLaws.{run_inside}
use Rattle.coffee_merge.specs.Flags.{flagged}
use Rattle.coffee_merge.specs.Holding.{Entries, HoldsTable, IsIn, Logs, Moves, file_flags, file_header, log_header, log_number}
use Rattle.coffee_merge.specs.Torn.{TearsLogHeader, TearsNaming}
use Rattle.coffee_merge.proofs.Beginning.{begun_lowest, length-header_bytes}
use Rattle.coffee_merge.proofs.Begun.{active_begun, begun_active}
use Rattle.coffee_merge.proofs.Drafting.{other_place}
use Rattle.coffee_merge.proofs.HeaderMarks.{unit_header}
use Rattle.coffee_merge.proofs.Holdings.{file_unit, holds_tiled}
use Rattle.coffee_merge.proofs.Logged.{HasLog, has_log, logged}
use Rattle.coffee_merge.proofs.Numbered.{numbered, numbered_extent}
use Rattle.coffee_cuts.specs.Cuts.{IsActiveAt, IsFound, Naming, Nothing, UnderWay, settled}
use Rattle.coffee_cuts.specs.Mending.{IsTable, MendsToTable}
use Rattle.coffee_cuts.proofs.HeaderFronts.{header_name}
use Rattle.coffee_cuts.proofs.Headers.{torn_header_settles}
use Rattle.coffee_cuts.proofs.Mended.{mends_moved, settling_mends}
use Rattle.coffee_cuts.proofs.Reached.{kept_at}
use Rattle.coffee_merge.proofs.Logged.{log_valid}

-- the name of a file in a table
held_name : (image : List ℕ) (table : Entries) (i : ℕ) (e : FileAt) → HoldsTable image table None → IsIn table i e → is_file_name e.name ≡ true
held_name image table i e h is =
    let k = kept_at image (units_of image) 0 e.page.0 _ (Extent (file_header e)) (holds_tiled image table None h).keep (file_unit image table None i e h is) in
    header_name _ (file_header e) (unit_header _ (file_header e) k.1)

pub torn_log_mends : (whole new : List ℕ) (table : Entries) → IsTable whole table None → TearsLogHeader whole new table → MendsToTable new whole table
torn_log_mends whole new table t c =
    settling_mends new whole table None t (torn_header_settles whole new table t c.log (log_header c.e.name) (log_valid c.e.name (held_name whole table c.place c.e t.holds c.there)) (inr refl) (omega arith) c.run c.cut)

-- all of it
whole_program : (old : List ℕ) (at : ℕ) (bytes : List ℕ) → length bytes ≡ 32 → IsCutProgram old (or_at old at bytes) at bytes
whole_program old at bytes long = record {
  done = length bytes;
  front = record { within = omega arith; whole = λ few. absurd (omega (arith, few, long)) };
  is = ap (or_at old at) (sym (take_all (length bytes) bytes (omega arith)));
}

module _ (whole new : List ℕ) (table : Entries) (t : IsTable whole table None) (n : TearsNaming whole new table) where
  abbrev e : FileAt
  e = n.e

  abbrev log : PageId
  log = n.log

  abbrev one : List ℕ
  one = or_at whole (256 * log.0) (header_bytes (log_header e.name))

  abbrev two : List ℕ
  two = numbered one e.page.0 (log.0 + 1)

  abbrev three : List ℕ
  three = flagged two e.page.0 8

  abbrev to : FileAt
  to = record e { log = Some log }

  good : is_file_name e.name ≡ true
  good = held_name whole table n.place e t.holds n.there

  inside : log.0 + 16 ≤ pages_of whole
  inside =
      let r = run_inside is_free (units_of whole) log.0 16 (omega arith) n.run.run in
      let all = (holds_tiled whole table None t.holds).whole in
      omega (arith, r, all)

  small : log.0 + 1 < 65536
  small = let i = inside in let size = t.size in let few = t.small in omega (arith, i, size, few)

  has : HasLog whole three (units_of whole) e log
  has = has_log whole one three table n.place e log t.holds n.there n.none n.run good small refl refl

  logs : Logs whole three table n.place e log
  logs = let i = inside in let long = has.long in logged whole three table n.place e log t.holds n.there n.none has (omega (arith, i, long))

  moves : Moves whole three table n.place e to
  moves =
      let room = (t.holds.stored n.place e n.there).fits.size in
      record { sets = logs.sets; same = λ p low. logs.content p (omega (arith, low, room)) ∙ ap (λ o. file_byte whole e.page.0 o p) (sym n.none) }

  -- the file is the same with its log
  named_mends : (image : List ℕ) (w : UnderWay) → IsFound image w → settled image w ≡ three → MendsToTable image whole table
  named_mends image w found is =
      mends_moved image whole whole table None w n.place e to t found (record { holds = t.holds; kept = λ i f at p within. refl }) n.there (t.sparing n.place e n.there)
      (subst (λ s. Moves whole s table n.place e to) (sym is) moves) refl refl refl

  -- the log is there, and the file does not name it
  log_mends : MendsToTable one whole table
  log_mends =
      settling_mends one whole table None t (torn_header_settles whole one table t log.0 (log_header e.name) (log_valid e.name good) (inr refl) (omega arith) n.run
      (whole_program whole (256 * log.0) (header_bytes (log_header e.name)) (length-header_bytes (log_header e.name) good)))

  -- the file has the number of the log, and not the flag
  numbered_found : IsActiveAt two e.page.0 3
  numbered_found =
      let begun = begun_lowest nowhere nowhere whole one (units_of whole) log.0 (log_header e.name) (holds_tiled whole table None t.holds) (omega arith) n.run refl (log_valid e.name good) refl refl (λ q other. refl) in
      let is = t.holds.files n.place e n.there in
      let there = other_place (units_of whole) log.0 e.page.0 (file_header e) begun.none is in
      let unit = (active_begun (units_of one) e.page.0 (file_header e) (begun.others e.page.0 there ∙ is)).0 in
      let r = numbered_extent nowhere one e.page.0 (file_header e) (log.0 + 1) begun.tiled unit (ap log_number n.none) small in
      let flags : file_flags e.log ≡ 3 = ap file_flags n.none in
      record {
        header = record (file_header e) { log_page = log.0 + 1 };
        there = begun_active (units_of two) e.page.0 (record (file_header e) { log_page = log.0 + 1 }) r.here (ap is_active_flags flags);
        flags_are = flags;
      }

  pub naming_mends : MendsToTable new whole table
  naming_mends = ⊎_elim
      (λ (none : new ≡ one). subst (λ image. MendsToTable image whole table) (sym none) log_mends)
      (λ (some : (new ≡ two) ⊎ (new ≡ three)). ⊎_elim
      (λ (half : new ≡ two). subst (λ image. MendsToTable image whole table) (sym half) (named_mends two (Naming e.page.0) numbered_found refl))
      (λ (all : new ≡ three). subst (λ image. MendsToTable image whole table) (sym all) (named_mends three Nothing tt refl))
      some)
      n.cut
