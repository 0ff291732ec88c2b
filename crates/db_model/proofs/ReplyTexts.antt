-- What the texts of replies are, part by part, and that none is empty.
use Rattle.std.proofs.Common.{◌≡◌, refl, ℕ, ℤ, ◌<◌, List, [], ◌∷◌, ◌++◌, length, arith, length-append}
use Rattle.std.specs.Prelude.{codes, decimal, flat_map, Option}
use Rattle.db_model.specs.declared.refusals.Refusal.{Refusal}
use Rattle.db_model.specs.declared.values.Value.{Value}
use Rattle.db_model.specs.ReplyText.{line, row_text, numbers_text, count_text, ok_text, refusal_text, reason_text, text}
use Rattle.db_model.specs.Step.{Reply, Fine, Rows, Numbers, Removed, Refused}

pub text_fine : text Fine ≡ ok_text
unfolding text
text_fine = refl

pub text_rows : (rows : List (List Value)) → text (Rows rows) ≡ flat_map row_text rows ++ count_text (length rows)
unfolding text
text_rows rows = refl

pub text_numbers : (numbers : List (Option ℤ)) → text (Numbers numbers) ≡ numbers_text numbers ++ count_text 1
unfolding text
text_numbers numbers = refl

pub text_removed : (n : ℕ) → text (Removed n) ≡ count_text n
unfolding text
text_removed n = refl

pub text_refused : (refusal : Refusal) → text (Refused refusal) ≡ refusal_text refusal
unfolding text
text_refused refusal = refl

-- ---- no text is empty

line_some : (bytes : List ℕ) → 0 < length (line bytes)
line_some bytes = let e = length-append bytes (10 ∷ []) in omega (arith, e)

behind_some : (xs ys : List ℕ) → 0 < length ys → 0 < length (xs ++ ys)
behind_some xs ys some = let e = length-append xs ys in omega (arith, e, some)

count_some : (n : ℕ) → 0 < length (count_text n)
unfolding count_text
count_some n = line_some (codes "rows " ++ decimal n)

ok_some : 0 < length ok_text
unfolding ok_text
ok_some = line_some (codes "ok")

refusal_some : (refusal : Refusal) → 0 < length (refusal_text refusal)
unfolding refusal_text
refusal_some refusal = line_some (codes "no " ++ reason_text refusal)

pub text_some : (reply : Reply) → 0 < length (text reply)
unfolding text
text_some Fine = ok_some
text_some (Rows rows) = behind_some (flat_map row_text rows) (count_text (length rows)) (count_some (length rows))
text_some (Numbers numbers) = behind_some (numbers_text numbers) (count_text 1) (count_some 1)
text_some (Removed n) = count_some n
text_some (Refused refusal) = refusal_some refusal
