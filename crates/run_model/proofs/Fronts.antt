-- The whole commands of the first bytes of a script are the first of its commands.
use Rattle.std.proofs.Common.{◌≡◌, ℕ, false, List, [], ◌++◌, ap, sym, ◌∙◌}
use Rattle.db_model.specs.Script.{Entry, commands, whole}
use Rattle.db_model.specs.Pieces.{entries_after, piece_behind, quoted_behind}
use Rattle.db_model.proofs.Cutting.{commands_after, entries_behind, whole_ended}

pub whole_is_front : (came left : List ℕ) → (rest : List Entry) × (commands (came ++ left) ≡ whole came ++ rest)
whole_is_front came left =
    let rest : List Entry = entries_after (quoted_behind false came) (piece_behind false [] came) left in
    (rest, commands_after (came ++ left) ∙ entries_behind false [] came left ∙ ap (λ (front : List Entry). front ++ rest) (sym (whole_ended came)))
