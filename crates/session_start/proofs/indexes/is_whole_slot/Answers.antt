use Rattle.std.proofs.Common.{arith, sym, ◌∙◌, ◌<◌, None, length}
use Rattle.session_model.proofs.Running.{same_default}
use Rattle.session_start.proofs.Whole.{others_ready}
use Rattle.session_start.proofs.indexes.is_whole_slot.Goals as goal

pub returns-in_err-whole-in-Some-relations-clause-others : goal.returns-in_err-whole-in-Some-relations-clause-others
returns-in_err-whole-in-Some-relations-clause-others g c =
    let found = c.requires.found in
    let held = c.args.held.now in
    let inside : c.args.slot < length held.indexes = omega (arith, c.requires.slot, found.eight_indexes) in
    let there = sym (same_default held.indexes c.args.slot c.index-held-slot.result None inside) ∙ c.in-Some.is in
    others_ready (g.V.Files.state c.args.files.now) c.args.tables.now c.is_whole.new.tables held c.args.slot c.in-Some.index found.apart there c.is_whole.ensures.tables

pub returns-in_ok-whole-in-Some-relations-clause-others : goal.returns-in_ok-whole-in-Some-relations-clause-others
returns-in_ok-whole-in-Some-relations-clause-others g c =
    let found = c.requires.found in
    let held = c.args.held.now in
    let inside : c.args.slot < length held.indexes = omega (arith, c.requires.slot, found.eight_indexes) in
    let there = sym (same_default held.indexes c.args.slot c.index-held-slot.result None inside) ∙ c.in-Some.is in
    others_ready (g.V.Files.state c.args.files.now) c.args.tables.now c.is_whole.new.tables held c.args.slot c.in-Some.index found.apart there c.is_whole.ensures.tables
