use Rattle.std.proofs.Common.{inl, inr, None, subst, ◌∙◌}
use Rattle.afl_base.proofs.CutLaws.{either_as}
use Rattle.afl_base.proofs.SparingLaws.{takes_no_page_on}
use Rattle.index_set.specs.declared.info.Access.{Access}
use Rattle.session_model.specs.Running.{HasFile}
use Rattle.session_indexes.proofs.Gone.{taken_alone, taken_tree}
use Rattle.session_indexes.proofs.PutParts.{may_whole}
use Rattle.session_indexes.proofs.removing.take_index.Goals as goal

pub returns-in-Ok-remove-clause-taken : goal.returns-in-Ok-remove-clause-taken
returns-in-Ok-remove-clause-taken g c =
    let s0 = g.V.Files.state c.args.files.now in
    let file = subst (λ (a : Access). HasFile s0.files c.args.slot a) c.in-Tree.is c.requires.file in
    taken_tree s0 (g.V.Files.state c.clear_entry.new.files) c.args.cat c.args.slot c.requires.idle c.requires.catalog c.in-Ok.ensures.cleared
    (g.V.Files.state c.remove.new.self) c.in-Tree.file file c.in-Ok-remove.ensures.removed

pub returns-in-Order-clause-taken : goal.returns-in-Order-clause-taken
returns-in-Order-clause-taken g c =
    let s0 = g.V.Files.state c.args.files.now in
    let none = subst (λ (a : Access). HasFile s0.files c.args.slot a) c.in-Order.is c.requires.file in
    taken_alone s0 (g.V.Files.state c.clear_entry.new.files) c.args.cat c.args.slot c.requires.idle c.requires.catalog c.in-Ok.ensures.cleared none

pub returns-in-Table-clause-taken : goal.returns-in-Table-clause-taken
returns-in-Table-clause-taken g c =
    let s0 = g.V.Files.state c.args.files.now in
    let none = subst (λ (a : Access). HasFile s0.files c.args.slot a) c.in-Table.is c.requires.file in
    taken_alone s0 (g.V.Files.state c.clear_entry.new.files) c.args.cat c.args.slot c.requires.idle c.requires.catalog c.in-Ok.ensures.cleared none

pub returns-in_default-clause-cut : goal.returns-in_default-clause-cut
returns-in_default-clause-cut g c = λ cuts told failed.
    let s0 = g.V.Files.state c.args.files.now in
    let s1 = g.V.Files.state c.clear_entry.new.files in
    let put = c.in-Ok.ensures.cleared in
    let file = subst (λ (a : Access). HasFile s0.files c.args.slot a) c.in-Tree.is c.requires.file in
    either_as s1 (c.in_default.ensures.cut cuts (put.tells ∙ told))
    (inl (may_whole s0 c.args.cat c.args.slot None c.requires.catalog told s1 put))
    (λ after gone. inr (taken_tree s0 s1 c.args.cat c.args.slot c.requires.idle c.requires.catalog put after c.in-Tree.file file gone))

pub returns-in-Ok-remove-clause-spares : goal.returns-in-Ok-remove-clause-spares
returns-in-Ok-remove-clause-spares g c = λ told none.
    takes_no_page_on g.V.Files.is_free _ _ _ (c.in-Ok.ensures.spares told none) (c.in-Ok-remove.ensures.spares (c.in-Ok.ensures.cleared.tells ∙ told))
