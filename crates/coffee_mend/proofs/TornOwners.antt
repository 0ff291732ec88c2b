-- The file of a log of which a record is torn.
use Rattle.std.proofs.Common.{◌≡◌, ℕ, ◌+◌, ◌*◌, ◌≤◌, List, ◌++◌, length, map, replicate, Some, None, ap, sym, subst, ◌∙◌, arith}
use Rattle.std.proofs.lemmas.List.{length-append, length-map}
use Rattle.afl_base.specs.Image.{zeros_at}
use Rattle.afl_base.specs.declared.ids.PageId.{PageId}
use Rattle.afl_base.proofs.Images.{length_zeros_at}
use Rattle.coffee_layout.specs.FileBytes.{record_place, table_of, used_in}
use Rattle.coffee_layout.specs.Files.{listed}
use Rattle.coffee_layout.specs.Units.{pages_of}
use Rattle.coffee_layout.specs.declared.file.FileAt.{FileAt}
use Rattle.coffee_merge.specs.Holding.{Entries, HoldsTable}
use Rattle.coffee_merge.proofs.MovedFiles.{held_listed}
use Rattle.coffee_merge.proofs.SoundLogs.{used_is}
use Rattle.coffee_merge.proofs.SoundTables.{sound_few, sound_held, sound_sparing}
use Rattle.coffee_find.specs.Found.{IsTornAt}
use Rattle.coffee_mend.proofs.Beside.{still_torn, table_same}
use Rattle.coffee_mend.proofs.HiddenBytes.{blank_but}
use Rattle.coffee_mend.proofs.Joins.{lacks_room}
use Rattle.coffee_mend.specs.Joined.{HidesRecord, IsOwner, LeavesTable}
use Rattle.coffee_mend.specs.Mended.{IsTornAs}

-- with zeros in the place of the record, the image holds a table in which it stands
pub torn_hidden : (old : List ℕ) (log : PageId) (place sectors : ℕ) (file : FileAt) → length old ≡ 4096 * sectors → sectors ≤ 4096 → place + 128 ≤ length old → IsTornAt old log.0 place → IsOwner (zeros_at old place 128) log file
    → (i : ℕ) × HidesRecord old (map Some (listed (zeros_at old place 128)) ++ replicate 0 None) None i file place
torn_hidden old log place sectors file size small inside t o =
    let shown : List ℕ = zeros_at old place 128 in
    let long : length (zeros_at old place 128) ≡ length old = length_zeros_at old place 128 inside in
    let whole : 256 * pages_of (zeros_at old place 128) ≡ length (zeros_at old place 128) = omega (arith, long, size) in
    let table : Entries = map Some (listed (zeros_at old place 128)) ++ replicate 0 None in
    let holds : HoldsTable (zeros_at old place 128) (map Some (listed (zeros_at old place 128)) ++ replicate 0 None) None = sound_held (zeros_at old place 128) 0 t.sound whole in
    let at = held_listed (zeros_at old place 128) (map Some (listed (zeros_at old place 128)) ++ replicate 0 None) file holds o.there in
    let next : place ≡ 256 * log.0 + 96 + 128 * used_in (table_of old log.0) = t.next in
    let used : used_in (table_of old log.0) ≡ file.used =
    ap used_in (table_same old log.0 place inside (omega (arith, next))) ∙ used_is (zeros_at old place 128) log.0 file.used ((holds.stored at.0 file at.1).file.logged log o.logged) in
    let free = t.free in (
      at.0,
      record {
        table_is = record {
          holds = holds;
          few = omega (arith, sound_few (zeros_at old place 128) t.sound whole, length-append (map Some (listed (zeros_at old place 128))) (replicate 0 None), length-map (listed (zeros_at old place 128)) Some);
          sparing = λ i e is. sound_sparing (zeros_at old place 128) 0 i e t.sound whole is;
          sectors = sectors;
          size = long ∙ size;
          small = small;
        };
        there = at.1;
        record_is = record {
          log = log;
          logged = o.logged;
          next = t.next ∙ ap (record_place log.0) used;
          free = omega (arith, used, free);
          inside = inside;
        };
      },
    )

module _ (old mid new : List ℕ) (log : PageId) (place sectors : ℕ) (file : FileAt) (same : mid ≡ old) (size : length old ≡ 4096 * sectors) (small : sectors ≤ 4096) (inside : place + 128 ≤ length old) (t : IsTornAt old log.0 place)
    (o : IsOwner (zeros_at old place 128) log file) where
  -- so what joining it comes to is known
  pub torn_by : (P : List ℕ → Type 0) → ((table : Entries) (i at : ℕ) → HidesRecord mid table None i file at → file.log ≡ Some log → P (zeros_at mid at 128)) → P (zeros_at old place 128)
  torn_by P known =
      let h = torn_hidden old log place sectors file size small inside t o in
      subst (λ x. P (zeros_at x place 128)) same
      (known (map Some (listed (zeros_at old place 128)) ++ replicate 0 None) h.0 place (subst (λ x. HidesRecord x (map Some (listed (zeros_at old place 128)) ++ replicate 0 None) None h.0 file place) (sym same) h.1) o.logged)

  pub torn_left : (need : ℕ) → length new ≡ length mid → ((table : Entries) (i at : ℕ) → HidesRecord mid table None i file at → LeavesTable (zeros_at mid at 128) (zeros_at new at 128) table need) → need ≡ file.pages → IsTornAs old new log.0 place need
  torn_left need long left pages =
      let h = torn_hidden old log place sectors file size small inside t o in
      let table : Entries = map Some (listed (zeros_at old place 128)) ++ replicate 0 None in
      let l : LeavesTable (zeros_at old place 128) (zeros_at new place 128) (map Some (listed (zeros_at old place 128)) ++ replicate 0 None) need =
      subst (λ x. LeavesTable (zeros_at x place 128) (zeros_at new place 128) (map Some (listed (zeros_at old place 128)) ++ replicate 0 None) need) same
      (left (map Some (listed (zeros_at old place 128)) ++ replicate 0 None) h.0 place (subst (λ x. HidesRecord x (map Some (listed (zeros_at old place 128)) ++ replicate 0 None) None h.0 file place) (sym same) h.1)) in
      still_torn old (zeros_at new place 128) new log.0 place need t (omega (arith, size)) inside (blank_but new place (omega (arith, inside, long, ap length same)))
      (lacks_room (zeros_at old place 128) (zeros_at new place 128) (map Some (listed (zeros_at old place 128)) ++ replicate 0 None) h.0 file log need h.1.table_is h.1.there o.logged l pages)
