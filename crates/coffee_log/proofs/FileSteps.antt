-- Changes of a file, one after the other.
use Rattle.std.proofs.Common.{◌≡◌, ℕ, zero, suc, ◌+◌, ◌-◌, ◌*◌, ◌/◌, ◌%◌, ◌≤◌, ◌<◌, List, [], ◌++◌, length, take, drop, Option, refl, ap, sym, subst, ◌∙◌, arith, ⊎_elim}
use Rattle.std.proofs.lemmas.Bool.{cases_lt}
use Rattle.std.proofs.lemmas.List.{get_or-append_right, get_or_append_left, length-append, length-take-le, take_all}
use Rattle.afl_base.specs.declared.ids.PageId.{PageId}
use Rattle.afl_base.specs.Regions.{regions}
use Rattle.flash_range.proofs.Ranges.{take_add}
use Rattle.coffee_layout.specs.FileBytes.{file_byte}
use Rattle.coffee_log.specs.FileChanges.{FileBecomes, IsFile}

-- no bytes change nothing
pub becomes_nothing : (image : List ℕ) (page pages : ℕ) (log : Option PageId) (used size at : ℕ) → IsFile image page pages log used size → FileBecomes image image page pages log used size at []
becomes_nothing image page pages log used size at is = record {
  kept = is;
  put = record { here = λ k l. absurd (omega arith); others = λ p a b. refl };
  others = λ k o. refl;
}

-- bytes, and then those behind them
pub becomes_then : (old mid new xs ys : List ℕ) (page pages : ℕ) (log : Option PageId) (used more size total at : ℕ) → FileBecomes old mid page pages log used size at xs → FileBecomes mid new page pages log more total (at + length xs) ys
    → at + length xs + 32 ≤ 256 * pages → FileBecomes old new page pages log more total at (xs ++ ys)
becomes_then old mid new xs ys page pages log used more size total at first second fits =
    let long : length (xs ++ ys) ≡ length xs + length ys = length-append xs ys in
    record {
      kept = second.kept;
      put = record {
        here = λ k l.
            ⊎_elim
            (λ (a : k < length xs). second.put.others (at + k) (omega arith) (λ x y. omega arith) ∙ first.put.here k a ∙ sym (get_or_append_left xs ys 0 k a))
            (λ (a : length xs ≤ k).
            let back : at + length xs + (k - length xs) ≡ at + k = omega arith in
            ap (λ p. file_byte new page log p) (sym back) ∙ second.put.here (k - length xs) (omega arith) ∙ sym (get_or-append_right xs ys (length xs) k 0 refl a))
            (cases_lt k (length xs));
        others = λ p within out. second.put.others p within (λ a b. out (omega arith) (omega arith)) ∙ first.put.others p within (λ a b. out a (omega arith));
      };
      others = λ k out. second.others k out ∙ first.others k out;
    }

-- a front part of the bytes, and then a piece more
pub becomes_more : (old mid new bytes piece : List ℕ) (page pages : ℕ) (log : Option PageId) (used more size total at from done m n : ℕ) → FileBecomes old mid page pages log used size at (take done bytes) → FileBecomes mid new page pages log more total from piece
    → from ≡ at + done → piece ≡ take m (drop done bytes) → m ≡ n → done + n ≤ length bytes → at + done + 32 ≤ 256 * pages → FileBecomes old new page pages log more total at (take (done + n) bytes)
becomes_more old mid new bytes piece page pages log used more size total at from done m n first second here is many low fits =
    let long : length (take done bytes) ≡ done = length-take-le done bytes (omega arith) in
    let place : from ≡ at + length (take done bytes) = omega arith in
    let what : piece ≡ take n (drop done bytes) = is ∙ ap (λ k. take k (drop done bytes)) many in
    subst (λ xs. FileBecomes old new page pages log more total at xs) (sym (take_add bytes done n))
    (becomes_then old mid new (take done bytes) (take n (drop done bytes)) page pages log used more size total at first
    (subst (λ xs. FileBecomes mid new page pages log more total (at + length (take done bytes)) xs) what (subst (λ k. FileBecomes mid new page pages log more total k piece) place second)) (omega arith))

-- all of them
pub becomes_all : (old new bytes : List ℕ) (page pages : ℕ) (log : Option PageId) (used size at done : ℕ) → FileBecomes old new page pages log used size at (take done bytes) → length bytes ≤ done → FileBecomes old new page pages log used size at bytes
becomes_all old new bytes page pages log used size at done first all = subst (λ xs. FileBecomes old new page pages log used size at xs) (take_all done bytes all) first

-- a piece that ends with its region, or with the range, touches one region more
pub regions_more : (at done n : ℕ) → 1 ≤ n → (0 < done → (at + done) % 128 ≡ 0) → at + done + n ≤ 128 * ((at + done) / 128) + 128 → regions at (done + n) ≡ regions at done + 1
regions_more at zero n some turn part = omega arith
regions_more at (suc d) n some turn part = let t : (at + suc d) % 128 ≡ 0 = turn (omega arith) in omega arith

-- an append of a front part, and then of the rest
pub append_two : (old mid new bytes rest : List ℕ) (page pages : ℕ) (log : Option PageId) (used more at n m from total : ℕ) → FileBecomes old mid page pages log used (at + n) at (take n bytes) → FileBecomes mid new page pages log more total from rest
    → from ≡ at + n → rest ≡ take m (drop n bytes) → m ≡ length bytes - n → n ≤ length bytes → total ≡ at + length bytes → at + n + 32 ≤ 256 * pages → FileBecomes old new page pages log more (at + length bytes) at bytes
append_two old mid new bytes rest page pages log used more at n m from total first second here is many low whole fits =
    becomes_all old new bytes page pages log more (at + length bytes) at (n + (length bytes - n))
    (becomes_more old mid new bytes rest page pages log used more (at + n) (at + length bytes) at from n m (length bytes - n) first (subst (λ k. FileBecomes mid new page pages log more k from rest) whole second) here is many (omega arith) fits) (omega arith)
