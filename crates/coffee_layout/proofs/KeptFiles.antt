-- A file is kept where the pages of the active extents stay.
use Rattle.std.proofs.Common.{◌≡◌, ℕ, ◌+◌, ◌*◌, ◌/◌, ◌%◌, ◌≤◌, ◌<◌, Bool, true, false, List, get_or, Option, Some, ap, sym, ◌∙◌, arith}
use Rattle.afl_base.specs.Image.{page_bytes}
use Rattle.afl_base.specs.declared.ids.PageId.{PageId}
use Rattle.afl_base.proofs.Images.{byte_in_page}
use Rattle.coffee_layout.proofs.Frames.{KeepsFile}

-- the pages from a page on are active
abbrev pub AreActive : List Bool → (page n : ℕ) → Type 0
AreActive active page n = (q : ℕ) → page ≤ q → q < page + n → get_or active q false ≡ true

-- the active pages stay
abbrev pub KeepsActive : (old new : List ℕ) → List Bool → Type 0
KeepsActive old new active = (q : ℕ) → get_or active q false ≡ true → page_bytes new q ≡ page_bytes old q

byte_kept : (old new : List ℕ) (active : List Bool) (page n k : ℕ) → KeepsActive old new active → AreActive active page n → 256 * page ≤ k → k < 256 * (page + n) → get_or new k 0 ≡ get_or old k 0
byte_kept old new active page n k keeps are low high =
    byte_in_page new k ∙ ap (λ bytes. get_or bytes (k % 256) 0) (keeps (k / 256) (are (k / 256) (omega arith) (omega arith))) ∙ sym (byte_in_page old k)

-- a file whose extent and whose log are active has its bytes
pub kept_file : (old new : List ℕ) (active : List Bool) (page pages : ℕ) (log : Option PageId) → KeepsActive old new active → AreActive active page pages
    → ((l : PageId) → log ≡ Some l → AreActive active l.0 16) → KeepsFile old new page pages log
kept_file old new active page pages log keeps are logged = record {
  extent = λ k low high. byte_kept old new active page pages k keeps are low high;
  logged = λ l is k low high. byte_kept old new active l.0 16 k keeps (logged l is) low (omega arith);
}
