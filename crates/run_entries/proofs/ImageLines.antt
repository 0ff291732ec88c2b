-- The line of an image that is not sound, in two parts.
use Rattle.std.proofs.Common.{◌≡◌, ℕ, ◌++◌, ap, sym, append_assoc}
use Rattle.std.specs.Prelude.{codes, decimal}
use Rattle.db_model.specs.ReplyText.{line}
use Rattle.run_model.specs.Runs.{image_line}

pub image_parts : (rule place : ℕ) → line (codes "no image " ++ decimal rule ++ (codes " " ++ decimal place)) ≡ image_line rule place
unfolding image_line
image_parts rule place = ap line (sym (append_assoc (codes "no image " ++ decimal rule) (codes " ") (decimal place)))
