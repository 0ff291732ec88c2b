use Rattle.std.proofs.Common.{◌+◌, ◌*◌, ℕ, subst, sym, ◌∙◌}
use Rattle.session_model.specs.Frames.{AsksNoExtent}
use Rattle.session_indexes.proofs.slots.prepare_slot.Goals as goal

pub returns-clause-still : goal.returns-clause-still
returns-clause-still g c = λ none.
    let files = c.args.files.now in
    let P : ℕ → Type 0 = λ n. AsksNoExtent (g.V.Files.asks files) (g.V.Files.state files).files c.args.cat (1408 + 8 * n) 8 in
    c.in_ok-prepare_catalog.ensures.still (subst P (sym (c.from.ensures ∙ c.number.ensures.value)) none)
