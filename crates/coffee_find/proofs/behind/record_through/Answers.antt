use Rattle.std.proofs.Common.{Some, length, subst, sym, ap, ◌∙◌}
use Rattle.flash_views.proofs.Overlays.{length_overlaid}
use Rattle.coffee_find.specs.Found.{HasRecord}
use Rattle.coffee_find.proofs.behind.record_through.Goals as goal

pub record_behind-requires-clause-record : goal.record_behind-requires-clause-record
record_behind-requires-clause-record g c =
    subst (λ n. HasRecord n (Some c.args.torn.now)) (sym (ap (λ xs. length xs) c.new-view.ensures.image ∙ length_overlaid (g.F.Flash.image c.args.flash) c.args.overlay c.requires.inside)) c.requires.record
