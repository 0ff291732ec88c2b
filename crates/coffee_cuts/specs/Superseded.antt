-- What a repair makes of a torn record that is not the last of its log.
use Rattle.std.specs.Prelude.{◌≡◌, ℕ, ◌+◌, ◌*◌, ◌≤◌, ◌<◌, List, length, slice_index}
use Rattle.coffee_layout.specs.FileBytes.{file_byte, number_in, record_place, table_of}
use Rattle.flash_range.specs.Range.{Outside}
use Rattle.coffee_cuts.specs.Cuts.{IsNumbered, IsSuperseding, without_two}

-- a torn record and the one behind it have the number of the first region, and the second one holds that: all else is as it was
pub record IsSuperseded (image new : List ℕ) (t : IsSuperseding image) : Type 0 where
  pub long : length new ≡ length image
  pub first : number_in (table_of new t.log.0) t.file.used ≡ 1
  pub second : number_in (table_of new t.log.0) (t.file.used + 1) ≡ 1
  pub here : (k : ℕ) → k < 128 → slice_index new (record_place t.log.0 (t.file.used + 1) + k) ≡ file_byte (without_two image t.log.0 t.file.used) t.file.page.0 t.file.log k
  pub others : (k : ℕ) → Outside (record_place t.log.0 t.file.used) 256 k → Outside (256 * t.log.0 + 32 + 2 * t.file.used) 4 k → slice_index new k ≡ slice_index image k

-- a repair that is superseding a torn record has gone on with it: the record behind it holds a front part of the first region still, and
-- has a number that goes with that; all else is as it was
pub record SupersedesFurther (image new : List ℕ) (t : IsSuperseding image) : Type 0 where
  pub long : length new ≡ length image
  pub done : ℕ
  pub within : done ≤ 128
  pub number : IsNumbered (number_in (table_of new t.log.0) (t.file.used + 1)) done t.file.size
  pub front : (k : ℕ) → k < done → slice_index new (record_place t.log.0 (t.file.used + 1) + k) ≡ file_byte (without_two image t.log.0 t.file.used) t.file.page.0 t.file.log k
  pub rest : (k : ℕ) → done ≤ k → k < 128 → slice_index new (record_place t.log.0 (t.file.used + 1) + k) ≡ 0
  pub others : (k : ℕ) → Outside (record_place t.log.0 (t.file.used + 1)) 128 k → Outside (256 * t.log.0 + 34 + 2 * t.file.used) 2 k → slice_index new k ≡ slice_index image k
