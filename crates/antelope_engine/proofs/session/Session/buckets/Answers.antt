use Rattle.std.proofs.Common.{ap, arith, sym, ◌∙◌}
use Rattle.std.specs.Prelude.{option_and_then}
use Rattle.antelope_engine.specs.Reading.{tree_of}
use Rattle.antelope_engine.specs.Seen.{Seen}
use Rattle.antelope_engine.proofs.ReadSlots.{found_at, no_tree, tree_live, tree_size}
use Rattle.antelope_engine.proofs.session.Session.buckets.Goals as goal

pub size-requires : goal.size-requires
size-requires g c =
    let s = c.self.inside in
    let kept = c.self.invariant.going (ap (λ (z : Seen g.row.V.Denot). z.stopped) c.self.view_is ∙ c.requires.running) in
    let here = found_at s.base.held.indexes c.from.result c.args.id c.index-self-from.result (c.from.ensures ∙ c.number.ensures.value) (omega (arith, c.number.ensures, c.self.told)) in
    tree_live (g.V.Files.state s.base.files) s.base.tables s.base.held s.base.opens (c.self.invariant.running kept) c.args.id c.in-Some.file
    (sym c.in-Some.is ∙ c.tree_of.ensures ∙ ap (option_and_then tree_of) here)

pub returns-in-None : goal.returns-in-None
returns-in-None g c =
    let tree = rw (← c.self.view_is) at c.requires.tree in
    rw (← c.self.view_is) (λ told index at.
    let s = c.self.inside in
    let kept = c.self.invariant.going (ap (λ (z : Seen g.row.V.Denot). z.stopped) c.self.view_is ∙ c.requires.running) in
    let here = found_at s.base.held.indexes c.from.result c.args.id c.index-self-from.result (c.from.ensures ∙ c.number.ensures.value) (omega (arith, c.number.ensures, c.self.told)) in
    absurd (no_tree (g.V.Files.state s.base.files) s.base.tables s.base.held s.base.opens (c.self.invariant.running kept) c.args.id
    (sym c.in-None.is ∙ c.tree_of.ensures ∙ ap (option_and_then tree_of) here) tree.0 tree.1 tree.2))

pub returns-in-Some : goal.returns-in-Some
returns-in-Some g c = rw (← c.self.view_is) (λ told index at.
    let s = c.self.inside in
    let kept = c.self.invariant.going (ap (λ (z : Seen g.row.V.Denot). z.stopped) c.self.view_is ∙ c.requires.running) in
    let here = found_at s.base.held.indexes c.from.result c.args.id c.index-self-from.result (c.from.ensures ∙ c.number.ensures.value) (omega (arith, c.number.ensures, c.self.told)) in
    let size = tree_size (g.V.Files.state s.base.files) s.base.tables s.base.held s.base.opens (c.self.invariant.running kept) told c.args.id c.in-Some.file
    (sym c.in-Some.is ∙ c.tree_of.ensures ∙ ap (option_and_then tree_of) here) index at in
    c.buckets_in.ensures _ size.0 (c.size.ensures ∙ size.1))
