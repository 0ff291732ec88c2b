-- What `prepare` asks for is little where few bytes come.
use Rattle.std.proofs.Common.{◌≡◌, ℕ, ◌+◌, ◌*◌, ◌≤◌, Bool, List, length, true, false, max, nat_lt, Option, Some, None, IsTrue, if◌then◌else◌, refl, ap, sym, ◌∙◌, arith}
use Rattle.std.proofs.Math.Nat.{le-max_left, le-max_right}
use Rattle.padded.proofs.Facts.{some_same, true_le}
use Rattle.afl_base.specs.Files.{File, IsLive, file_at, size_at}
use Rattle.afl_base.specs.Fit.{fit}
use Rattle.afl_base.specs.declared.kind.Kind.{Kind}
use Rattle.afl_base.specs.declared.kind.Kind.TheVariants.{Doubling, Fixed}
use Rattle.coffee_layout.specs.Walks.{has_few_of}
use Rattle.coffee_layout.proofs.Tests.{true_lt}
use Rattle.coffee_merge.specs.Holding.{HoldsTable, has_shape}
use Rattle.coffee_layout.specs.declared.file.FileAt.{FileAt}
use Rattle.coffee_volume.specs.Rooms.{has_too_few, lacks_log, pages_asked, records_needed}
use Rattle.coffee_volume.specs.Volumes.{AreRegular, Asks, EntryTable, IsEntry, files_seen, places}
use Rattle.coffee_volume.specs.declared.entry.Entry.{Entry}
use Rattle.coffee_volume.proofs.Stepped.{fixed_shape, full_few}
use Rattle.coffee_volume.proofs.Tables.{entry_seen, file_of, size_seen, stored_here}

asked_by : (full few none : Bool) (pages need bound : ℕ) → (full ≡ true → 2 * pages ≤ bound) → pages ≤ bound → 16 ≤ bound
    → (if full then Some (2 * pages) else (if few then Some pages else (if none then Some 16 else None))) ≡ Some need → need ≤ bound
asked_by true few none pages need bound grow keep log e = let same = some_same (2 * pages) need e in let h = grow refl in omega (arith, same, h)
asked_by false true none pages need bound grow keep log e = let same = some_same pages need e in omega (arith, same, keep)
asked_by false false true pages need bound grow keep log e = let same = some_same 16 need e in omega (arith, same, log)
asked_by false false false pages need bound grow keep log e = absurd (cc)

asked_kind : (kind : Kind) (pages size b : ℕ) → kind ≡ Doubling → has_shape kind pages ≡ true → has_few_of kind pages size ≡ true → size + 32 ≤ 256 * pages → b ≤ 4096 → size ≤ 4194304
    → (nat_lt (256 * pages) (size + b + 32) ≡ true → 2 * pages ≤ 2 * fit size) × (pages ≤ 2 * fit size)
asked_kind Doubling pages size b is shape few holds less most =
    ((λ t. let full = full_few pages size b shape holds most less (true_lt (256 * pages) (size + b + 32) t) in omega (arith, full)), true_le pages (2 * fit size) few)
asked_kind (Fixed n) pages size b is shape few holds less most = absurd (cc)

-- a doubling file asks for at most twice the pages that its size needs, and 16 for a log
entry_little : (pages : ℕ) (table : EntryTable) (id overwrites bytes need : ℕ) (e : Entry) → AreRegular pages table → IsEntry table id e → e.at.kind ≡ Doubling → bytes ≤ 4096 → e.at.size ≤ 4194304
    → pages_asked e.at overwrites bytes ≡ Some need → need ≤ max 16 (2 * fit e.at.size)
entry_little pages table id overwrites bytes need e regular is kind less most asks =
    let r = regular.each id e is in
    let parts = asked_kind e.at.kind e.at.pages e.at.size bytes kind r.shape r.few r.fits.size less most in
    let left = le-max_left 16 (2 * fit e.at.size) in
    let right = le-max_right 16 (2 * fit e.at.size) in
    asked_by (nat_lt (256 * e.at.pages) (e.at.size + bytes + 32)) (has_too_few e.at.log e.at.used (records_needed e.at.log overwrites bytes)) (lacks_log e.at.log (records_needed e.at.log overwrites bytes)) e.at.pages need (max 16 (2 * fit e.at.size))
    (λ t. let twice = parts.0 t in omega (arith, twice, right)) (let few_pages = parts.1 in omega (arith, few_pages, right)) left asks

-- one of 6 pages for at most 16
six_pages : (kind : Kind) (pages : ℕ) → kind ≡ Fixed 6 → has_shape kind pages ≡ true → pages ≡ 6
six_pages Doubling pages is shape = absurd (cc)
six_pages (Fixed n) pages is shape = let s = fixed_shape n pages shape in let same : n ≡ 6 = cc in omega (arith, s.0, same)

-- FILES BY THEIR IDS

pub growing_little : (tells : Bool) (image : List ℕ) (pages : ℕ) (table : EntryTable) (draft : Option FileAt) (id overwrites bytes need : ℕ) → AreRegular pages table → (IsTrue tells → HoldsTable image (places table) draft)
    → IsLive (files_seen tells image table) id → (file_at (files_seen tells image table) id).kind ≡ Doubling → bytes ≤ 4096 → size_at (files_seen tells image table) id ≤ 4194304
    → Asks table id overwrites bytes need → need ≤ max 16 (2 * fit (size_at (files_seen tells image table) id))
growing_little tells image pages table draft id overwrites bytes need regular holds live kind less most asks =
    let e = entry_seen tells image table id live in
    let file = file_of tells image table id e.0 e.1 in
    let same : (file_at (files_seen tells image table) id).kind ≡ e.0.at.kind = ap (λ (f : File). f.kind) file in
    let size : size_at (files_seen tells image table) id ≡ e.0.at.size =
    ap (λ (f : File). length f.bytes) file ∙ size_seen tells image e.0.at (λ told. stored_here image table draft id e.0 (holds told) e.1) in
    rw size (entry_little pages table id overwrites bytes need e.0 regular e.1 (sym same ∙ kind) less (omega (arith, size, most)) (asks e.0 e.1))

pub fixed_little : (tells : Bool) (image : List ℕ) (pages : ℕ) (table : EntryTable) (id overwrites bytes need : ℕ) → AreRegular pages table → IsLive (files_seen tells image table) id
    → (file_at (files_seen tells image table) id).kind ≡ Fixed 6 → Asks table id overwrites bytes need → need ≤ 16
fixed_little tells image pages table id overwrites bytes need regular live kind asks =
    let e = entry_seen tells image table id live in
    let same : (file_at (files_seen tells image table) id).kind ≡ e.0.at.kind = ap (λ (f : File). f.kind) (file_of tells image table id e.0 e.1) in
    let six : e.0.at.pages ≡ 6 = six_pages e.0.at.kind e.0.at.pages (sym same ∙ kind) (regular.each id e.0 e.1).shape in
    asked_by (nat_lt (256 * e.0.at.pages) (e.0.at.size + bytes + 32)) (has_too_few e.0.at.log e.0.at.used (records_needed e.0.at.log overwrites bytes)) (lacks_log e.0.at.log (records_needed e.0.at.log overwrites bytes)) e.0.at.pages need 16
    (λ t. omega (arith, six)) (omega (arith, six)) (omega arith) (asks e.0 e.1)
