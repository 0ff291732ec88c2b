use Rattle.std.proofs.Common.{◌≡◌, ℕ, List, arith, drop, subst, sym, ◌∙◌}
use Rattle.std.specs.Bool.{Decides}
use Rattle.stored_survey.proofs.SlotEnds.{no_zeros, rest_decides}
use Rattle.stored_survey.proofs.emptied.is_rest.Goals as goal

pub returns-then-not-is_zeros : goal.returns-then-not-is_zeros
returns-then-not-is_zeros c = record { is = no_zeros c.args.at c.args.bytes.now (sym c.if-not-is_zeros.ensures) }

pub returns-in-Some : goal.returns-in-Some
returns-in-Some c =
    let at : ℕ = c.args.at in
    let bytes : List ℕ = c.args.bytes.now in
    record {
      is = rest_decides c.has_end.result at bytes c.in-Some.was (omega (arith, c.requires.length, c.requires.upto)) c.in-Some.ensures.valid (sym c.if-not-is_zeros.ensures)
          (subst (λ (xs : List ℕ). Decides c.has_end.result (drop at bytes ≡ drop at xs)) (c.as_slice.ensures.items ∙ c.relation_slot.ensures) c.has_end.ensures.is) c.in-Some.ensures.same;
    }
