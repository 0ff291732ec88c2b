-- A cramped image has few sectors, by the files that it stands for.
use Rattle.std.proofs.Common.{◌≡◌, ℕ, zero, suc, ◌+◌, ◌*◌, ◌≤◌, Bool, true, false, ◌||◌, List, [], ◌∷◌, length, map, None, refl, ap, arith}
use Rattle.std.specs.List.{list_any}
use Rattle.afl_base.specs.Shares.{file_share, gap_for, shares}
use Rattle.coffee_layout.specs.Files.{Placed, entry_of, files_in, named_file}
use Rattle.coffee_layout.specs.Marks.{IsCramped}
use Rattle.coffee_layout.specs.Rules.{broken_image}
use Rattle.coffee_layout.specs.Tiling.{IsTiled, nowhere, units_of}
use Rattle.coffee_layout.specs.Units.{pages_of, total}
use Rattle.coffee_layout.specs.declared.unit.Unit.{Unit}
use Rattle.coffee_layout.proofs.Tilings.{tiled_unbroken}
use Rattle.coffee_merge.specs.Holding.{Entries, HoldsTable, has_extent_at}
use Rattle.coffee_merge.specs.TableFiles.{stored_file, stored_files}
use Rattle.coffee_merge.proofs.Begun.{have_pages}
use Rattle.coffee_merge.proofs.ExtentShares.{HoldsExtents, file_shares}
use Rattle.coffee_merge.proofs.FileShares.{cramped_files}
use Rattle.coffee_merge.proofs.SoundEntries.{table_by}
use Rattle.coffee_merge.proofs.SoundTables.{sound_held, sound_sparing}

or_false : (b : Bool) → b || false ≡ true → b ≡ true
or_false true e = refl
or_false false e = e

held_extents : (image : List ℕ) (table : Entries) → HoldsTable image table None → HoldsExtents (units_of image) table
held_extents image table h = record {
  files = h.files;
  logs = h.logs;
  only = λ page g is. or_false (list_any (has_extent_at page) table) (h.only page g is);
}

cramped_some : (us : List Unit) (n : ℕ) → IsCramped us n → 1 ≤ n
cramped_some us zero c = absurd (c.full 0 (λ i low high. absurd (omega (arith, low, high))))
cramped_some us (suc n) c = omega arith

stored_shares : (gap : ℕ) (image : List ℕ) (fs : List Placed) → file_shares gap (table_by (entry_of image) fs 0) ≡ shares gap (map stored_file (map (named_file image) fs))
stored_shares gap image [] = refl
stored_shares gap image (f ∷ fs) = ap (λ rest. file_share gap (entry_of image f).kind (entry_of image f).size + rest) (stored_shares gap image fs)

pub cramped_shares : (image : List ℕ) (n sectors : ℕ) → broken_image image ≡ None → length image ≡ 4096 * sectors → IsCramped (units_of image) n → sectors ≤ shares (gap_for n) (stored_files image) + gap_for n
cramped_shares image n sectors sound size c =
    let whole : 256 * pages_of image ≡ length image = omega (arith, size) in
    let table : Entries = table_by (entry_of image) (files_in (units_of image)) 0 in
    let holds : HoldsTable image table None = sound_held image 0 sound whole in
    let tiled : IsTiled nowhere image (units_of image) = tiled_unbroken nowhere image whole holds.tiled in
    let all : 256 * total (units_of image) ≡ length image = tiled.whole in
    let few = cramped_files (units_of image) table n sectors c (cramped_some (units_of image) n c) (omega (arith, all, size)) (have_pages nowhere image (units_of image) tiled) (held_extents image table holds)
    (λ i e is. ((holds.stored i e is).shape, sound_sparing image 0 i e sound whole is)) in
    let same = stored_shares (gap_for n) image (files_in (units_of image)) in
    omega (arith, few, same)
