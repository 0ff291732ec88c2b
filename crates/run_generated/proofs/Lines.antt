-- The line that sums up commands, in pieces.
use Rattle.std.proofs.Common.{◌≡◌, ℕ, List, [], ◌∷◌, ◌++◌, ap, sym, subst, ◌∙◌, append_assoc, refl, Option}
use Rattle.std.specs.Prelude.{codes, decimal}
use Rattle.std.specs.Io.KnownBytes.{append_known}
use Rattle.db_model.specs.ReplyText.{line}
use Rattle.db_model.specs.Workload.{Tally, tally_text}
use Rattle.reply_text.specs.WroteLess.{WroteLess}
use Rattle.reply_text.proofs.Pieces.{held_more, less_behind, less_front, less_third}

-- two numbers, each behind its words
abbrev pub counts : List ℕ → ℕ → List ℕ → ℕ → List ℕ
counts a m b n = (a ++ decimal m) ++ (b ++ decimal n)

paired : (a b c d e : List ℕ) → (((a ++ b) ++ c) ++ d) ++ e ≡ a ++ ((b ++ c) ++ (d ++ e))
paired a b c d e =
    append_assoc ((a ++ b) ++ c) d e ∙ ap (λ (front : List ℕ). front ++ (d ++ e)) (append_assoc a b c) ∙ append_assoc a (b ++ c) (d ++ e)

-- the words with each number, before and behind
abbrev carried_out : Tally → List ℕ
carried_out t = counts (codes "commands ") t.commands (codes " ok ") t.fine

abbrev came_of : Tally → List ℕ
came_of t = counts (codes " rows ") t.rows (codes " refused ") t.refused

in_pieces : (t : Tally) → tally_text t ≡ (carried_out t ++ came_of t) ++ 10 ∷ []
unfolding tally_text
in_pieces t =
    ap line
    (paired ((codes "commands " ++ decimal t.commands ++ codes " ok ") ++ decimal t.fine) (codes " rows ") (decimal t.rows) (codes " refused ") (decimal t.refused)
    ∙ ap (λ (front : List ℕ). front ++ came_of t) (append_assoc (codes "commands " ++ decimal t.commands) (codes " ok ") (decimal t.fine)))

module _ (t : Tally) (h0 h1 h2 h3 : Option (List ℕ)) where
  pub line_written : h1 ≡ append_known h0 (carried_out t) → h2 ≡ append_known h1 (came_of t) → h3 ≡ append_known h2 (10 ∷ []) → h3 ≡ append_known h0 (tally_text t)
  line_written e f g =
      held_more h0 h2 h3 (carried_out t ++ came_of t) (10 ∷ []) (tally_text t) (held_more h0 h1 h2 (carried_out t) (came_of t) (carried_out t ++ came_of t) e f refl) g (in_pieces t)

  pub first_less : WroteLess h0 h1 (carried_out t) → WroteLess h0 h1 (tally_text t)
  first_less w =
      subst (λ (all : List ℕ). WroteLess h0 h1 all) (sym (in_pieces t)) (less_front h0 h1 (carried_out t ++ came_of t) (10 ∷ []) (less_front h0 h1 (carried_out t) (came_of t) w))

  pub second_less : h1 ≡ append_known h0 (carried_out t) → WroteLess h1 h2 (came_of t) → WroteLess h0 h2 (tally_text t)
  second_less e w =
      subst (λ (all : List ℕ). WroteLess h0 h2 all) (sym (in_pieces t)) (less_front h0 h2 (carried_out t ++ came_of t) (10 ∷ []) (less_behind h0 h1 h2 (carried_out t) (came_of t) e w))

  pub end_less : h1 ≡ append_known h0 (carried_out t) → h2 ≡ append_known h1 (came_of t) → WroteLess h2 h3 (10 ∷ []) → WroteLess h0 h3 (tally_text t)
  end_less e f w =
      subst (λ (all : List ℕ). WroteLess h0 h3 all) (sym (in_pieces t)) (less_third h0 h1 h2 h3 (carried_out t) (came_of t) (10 ∷ []) e f w)
