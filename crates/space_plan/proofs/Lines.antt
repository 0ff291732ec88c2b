-- The line of a plan, in two parts.
use Rattle.std.proofs.Common.{◌≡◌, ℕ, ◌++◌, ap, sym, append_assoc}
use Rattle.std.specs.Prelude.{codes, decimal}
use Rattle.db_model.specs.ReplyText.{line}
use Rattle.space_plan.specs.Lines.{plan_text}

pub plan_parts : (needed present : ℕ) → line (codes "sectors needed " ++ decimal needed ++ (codes " present " ++ decimal present)) ≡ plan_text needed present
unfolding plan_text
plan_parts needed present = ap line (sym (append_assoc (codes "sectors needed " ++ decimal needed) (codes " present ") (decimal present)))
