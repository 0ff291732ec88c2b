-- Laws of the bytes between two places of an array.
use Rattle.std.proofs.Common.{◌≡◌, ℕ, ◌+◌, ◌≤◌, List, ◌++◌, length, take, drop, ap, sym, ◌∙◌, append_assoc, arith, length-take-le, Option}
use Rattle.std.proofs.lemmas.List.{drop-append-le, drop-drop, take-append-drop}
use Rattle.std.proofs.lemmas.Slice.{between_is, take-put_mid}
use Rattle.std.specs.Io.KnownBytes.{append_known}
use Rattle.std.specs.List.{slice_range}
use Rattle.buffered_sink.specs.Handing.{Hands}
use Rattle.reply_text.proofs.Pieces.{append_known-twice}
use borrow.Rule.Slice.PartMut.{put_mid}

-- more were put behind them
pub range_more : (xs ys : List ℕ) (a b n k : ℕ) → a ≤ b → b ≤ length xs → n ≡ length ys → slice_range (put_mid b k xs ys) a (b + n) ≡ slice_range xs a b ++ ys
range_more xs ys a b n k h within e =
    between_is (put_mid b k xs ys) a (b + n) ∙ ap (drop a) (take-put_mid b k xs ys (b + n) (omega (arith, e)) within) ∙ drop-append-le a (take b xs) ys (omega (arith, h, length-take-le b xs within)) ∙ ap (λ zs. zs ++ ys) (sym (between_is xs a b))

-- some in front went
pub range_less : (xs : List ℕ) (a b n : ℕ) → slice_range xs (a + n) b ≡ drop n (slice_range xs a b)
range_less xs a b n =
    between_is xs (a + n) b ∙ sym (drop-drop n a (take b xs)) ∙ ap (drop n) (sym (between_is xs a b))

-- the sink took some more
pub hands_more : (h0 h1 h2 : Option (List ℕ)) (waited waits rest : List ℕ) (n : ℕ) → Hands h0 h1 waited waits → h2 ≡ append_known h1 (take n waits) → rest ≡ drop n waits → Hands h0 h2 waited rest
hands_more h0 h1 h2 waited waits rest n h e r = record {
  went = h.went ++ take n waits;
  split = h.split ∙ ap (λ ws. h.went ++ ws) (sym (take-append-drop n waits)) ∙ sym (append_assoc h.went (take n waits) (drop n waits)) ∙ ap (λ zs. (h.went ++ take n waits) ++ zs) (sym r);
  held = e ∙ ap (λ g. append_known g (take n waits)) h.held ∙ append_known-twice h0 h.went (take n waits);
}
