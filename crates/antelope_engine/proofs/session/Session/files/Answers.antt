use Rattle.session_model.proofs.Sound.{base_is, files_sound}
use Rattle.antelope_engine.proofs.session.Session.files.Goals as goal

pub returns-clause-sound : goal.returns-clause-sound
returns-clause-sound g c = rw (← c.self.view_is) (λ told kept.
    let s = c.self.inside in
    files_sound (g.V.Files.state s.base.files) s.base.tables s.base.held s.base.opens (c.self.invariant.running kept) told (c.self.invariant.sound kept told))

pub returns-clause-base : goal.returns-clause-base
returns-clause-base g c = rw (← c.self.view_is) (λ told kept.
    let s = c.self.inside in
    base_is (g.V.Files.state s.base.files) s.base.tables s.base.held s.base.opens (c.self.invariant.running kept) told)
