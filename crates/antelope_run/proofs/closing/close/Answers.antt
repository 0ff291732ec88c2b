use Rattle.std.proofs.Common.{◌∙◌, ap}
use Rattle.antelope_run.proofs.Bare.{session_image}
use Rattle.antelope_run.proofs.closing.close.Goals as goal

pub returns-clause-back : goal.returns-clause-back
returns-clause-back g c = λ told kept.
    let files = c.files.ensures in
    let back = c.sound_files_are_a_sound_image.ensures in
    session_image _ _ _ c.args.session c.files.result.now files.files
    (λ tells idle sound. (back.sound tells idle sound, back.base tells idle sound, back.lacks tells idle sound))
    told (files.idle kept) (files.sound told kept) (files.base told kept)
    _ (c.unmount.ensures.image ∙ ap (λ v. g.F.Flash.image v.flash) c.close.ensures.files)
