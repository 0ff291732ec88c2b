-- What is written for lists of entries, and which database they make.
use Rattle.std.proofs.Common.{◌≡◌, refl, sym, ap, ◌∙◌, ℕ, List, [], ◌∷◌, ◌++◌, append_assoc}
use Rattle.std.specs.Prelude.{Result}
use Rattle.db_model.specs.declared.commands.Command.{Command}
use Rattle.db_model.specs.declared.refusals.Refusal.{Refusal}
use Rattle.db_model.specs.Database.{Database}
use Rattle.db_model.specs.ReplyText.{text}
use Rattle.db_model.specs.Script.{Entry, after, output, last}

module _ (read : List ℕ → Result Command Refusal) where
  pub last-append : (db : Database) (xs ys : List Entry) → last read db (xs ++ ys) ≡ last read (last read db xs) ys
  last-append db [] ys = refl
  last-append db (x ∷ xs) ys = last-append ((after read db x).0) xs ys

  pub output-append : (db : Database) (xs ys : List Entry) → output read db (xs ++ ys) ≡ output read db xs ++ output read (last read db xs) ys
  output-append db [] ys = refl
  output-append db (x ∷ xs) ys =
      ap (λ rest. text ((after read db x).1) ++ rest) (output-append ((after read db x).0) xs ys)
      ∙ sym (append_assoc (text ((after read db x).1)) (output read ((after read db x).0) xs) (output read (last read ((after read db x).0) xs) ys))
