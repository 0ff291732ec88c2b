use Rattle.std.proofs.Common.{◌≡◌, ◌*◌, ◌/◌, ap, ◌∙◌, arith, length}
use Rattle.std.specs.Io.KnownBytes.{append_known}
use Rattle.coffee_layout.specs.Tiling.{nowhere, units_of}
use Rattle.coffee_layout.specs.Units.{pages_of}
use Rattle.run_look.specs.Text.{pages_line}
use Rattle.run_look.proofs.flash.write_flash.Goals as goal

pub returns-in-Ok-write_pages_line-clause-wrote : goal.returns-in-Ok-write_pages_line-clause-wrote
returns-in-Ok-write_pages_line-clause-wrote g c = λ told sound.
    let image = g.F.Flash.image c.args.flash.now in
    let held = g.K.Sink.held c.args.out.now in
    let long = c.sectors-sectors.ensures.size in
    let size : 256 * pages_of image ≡ length image = omega (arith, long) in
    let many : c.sectors-sectors.result ≡ length image / 4096 = omega (arith, long) in
    let counts = c.in-Ok.ensures.counts told nowhere (units_of image) (c.one_tiling.ensures.sound image size sound) in
    c.in-Ok-write_pages_line.ensures.written
    ∙ ap (λ n. append_known held (pages_line n c.in-Ok.counts)) many
    ∙ ap (λ p. append_known held (pages_line (length image / 4096) p)) counts
