use Rattle.std.proofs.Common.{◌≡◌, ◌∷◌, [], ⊎_elim, inl, inr}
use Rattle.padded.proofs.Facts.{on_err}
use Rattle.afl_base.specs.Image.{or_at, page_bytes}
use Rattle.coffee_space.proofs.BreakingOff.{cut_byte}
use Rattle.coffee_space.proofs.collection.isolate_page.Goals as goal

pub returns-in_err-program-clause-cut : goal.returns-in_err-program-clause-cut
returns-in_err-program-clause-cut g c = λ t k. on_err _ (⊎_elim
    (λ (same : page_bytes (g.F.Flash.image c.program.new.self) c.args.page ≡ page_bytes (g.F.Flash.image c.args.flash.now) c.args.page). inl same)
    (λ (isolated : page_bytes (g.F.Flash.image c.program.new.self) c.args.page ≡ or_at (page_bytes (g.F.Flash.image c.args.flash.now) c.args.page) 9 (34 ∷ [])). inr (c.if-not-wanted.false, isolated))
    (cut_byte (g.F.Flash.image c.args.flash.now) (g.F.Flash.image c.program.new.self) c.args.page c.requires.page (c.in_err-program.ensures.cut t k)))
