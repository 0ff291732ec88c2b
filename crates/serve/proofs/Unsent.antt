-- What stands in a sink where a byte that goes out first may not have gone out yet.
use Rattle.std.proofs.Common.{◌≡◌, ℕ, ◌+◌, ◌<◌, ◌⊎◌, inl, inr, List, [], ◌∷◌, ◌++◌, length, take, drop, Option, Some, None, refl, ap, sym, subst, ◌∙◌, append_assoc, append-nil, arith, length-append}
use Rattle.std.proofs.Math.Seq.{take-append_seam, take-append-add}
use Rattle.std.proofs.lemmas.List.{take-append-drop}
use Rattle.std.specs.Io.KnownBytes.{append_known}
use Rattle.reply_text.proofs.Pieces.{append_known-nil, append_known-twice}
use Rattle.reply_text.specs.WroteLess.{WroteLess}
use Rattle.session_model.specs.Steps.{WrotePart}
use Rattle.serve.specs.Front.{front_held}
use Rattle.padded.proofs.Facts.{some_alike}

-- ---- a part

cut_last : (ks bs written : List ℕ) (b c : ℕ) → ks ++ b ∷ [] ≡ bs ++ (c ∷ written) → ks ≡ bs ++ take (length written) (c ∷ written)
cut_last ks bs written b c e =
    let many = ap length e in
    let left = length-append ks (b ∷ []) in
    let right = length-append bs (c ∷ written) in
    let n : length ks ≡ length bs + length written = omega (arith, many, left, right) in
    sym (take-append_seam ks (b ∷ [])) ∙ ap (take (length ks)) e ∙ ap (λ k. take k (bs ++ (c ∷ written))) n ∙ take-append-add bs (c ∷ written) (length written)

-- a part was written behind a byte that may not have gone out: a part of the byte and what follows was
pub unsent_part : (h k : Option (List ℕ)) (f : Option ℕ) (c : ℕ) (all : List ℕ) → WrotePart (append_known h (c ∷ [])) (front_held k f) all → WrotePart h k (c ∷ all)
unsent_part h k None c all w = record {
  written = c ∷ w.written;
  left = w.left;
  whole = ap (λ bs. c ∷ bs) w.whole;
  held = sym (append_known-nil k) ∙ w.held ∙ append_known-twice h (c ∷ []) w.written;
}
unsent_part None None (Some b) c all w = record { written = []; left = c ∷ all; whole = refl; held = refl }
unsent_part None (Some ks) (Some b) c all w = let e = w.held in cc
unsent_part (Some bs) None (Some b) c all w = let e = w.held in cc
unsent_part (Some bs) (Some ks) (Some b) c all w =
    let same : ks ++ b ∷ [] ≡ bs ++ (c ∷ w.written) = some_alike (w.held ∙ append_known-twice (Some bs) (c ∷ []) w.written) in
    record {
      written = take (length w.written) (c ∷ w.written);
      left = drop (length w.written) (c ∷ w.written) ++ w.left;
      whole = ap (λ xs. c ∷ xs) w.whole ∙ ap (λ xs. xs ++ w.left) (sym (take-append-drop (length w.written) (c ∷ w.written))) ∙ append_assoc (take (length w.written) (c ∷ w.written)) (drop (length w.written) (c ∷ w.written)) w.left;
      held = ap (λ t. Some t) (cut_last ks bs w.written b c same);
    }

-- a part that is written is shorter than what is written with more behind it
part_less : (h k : Option (List ℕ)) (all rest : List ℕ) → 0 < length rest → WrotePart h k all → WroteLess h k (all ++ rest)
part_less h k all rest some w = record {
  written = w.written;
  left = w.left ++ rest;
  some = let e = length-append w.left rest in omega (arith, e, some);
  whole = ap (λ xs. xs ++ rest) w.whole ∙ append_assoc w.written w.left rest;
  held = w.held;
}

-- ---- a reply frame

-- the text of a reply was not wholly written, or more was
pub frame_part : (h k : Option (List ℕ)) (f : Option ℕ) (c : ℕ) (text : List ℕ) → WrotePart (append_known h (c ∷ [])) (front_held k f) text → WrotePart h k (c ∷ text ++ 192 ∷ [])
frame_part h k f c text w =
    let p = unsent_part h k f c text w in
    record { written = p.written; left = p.left ++ 192 ∷ []; whole = ap (λ xs. xs ++ 192 ∷ []) p.whole ∙ append_assoc p.written p.left (192 ∷ []); held = p.held }

pub frame_less : (h k : Option (List ℕ)) (f : Option ℕ) (c : ℕ) (text : List ℕ) → WroteLess (append_known h (c ∷ [])) (front_held k f) text → WroteLess h k (c ∷ text ++ 192 ∷ [])
frame_less h k f c text w =
    part_less h k (c ∷ text) (192 ∷ []) (omega arith) (unsent_part h k f c text (record { written = w.written; left = w.left; whole = w.whole; held = w.held }))

-- it was, and then the byte or END was not
pub frame_unended : (h mid k : Option (List ℕ)) (f : Option ℕ) (c : ℕ) (text : List ℕ) → front_held mid f ≡ append_known (append_known h (c ∷ [])) text → (k ≡ mid) ⊎ (k ≡ front_held mid f) → WroteLess h k (c ∷ text ++ 192 ∷ [])
frame_unended h mid k f c text e (inl same) =
    part_less h k (c ∷ text) (192 ∷ []) (omega arith)
    (subst (λ k. WrotePart h k (c ∷ text)) (sym same) (unsent_part h mid f c text (record { written = text; left = []; whole = sym (append-nil text); held = e })))
frame_unended h mid k f c text e (inr sent) = record {
  written = c ∷ text;
  left = 192 ∷ [];
  some = omega arith;
  whole = refl;
  held = sent ∙ e ∙ append_known-twice h (c ∷ []) text;
}
