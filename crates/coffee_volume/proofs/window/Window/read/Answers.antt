use Rattle.std.proofs.Common.{◌∙◌, sym, ap, length, arith}
use Rattle.std.proofs.lemmas.List.{length-drop, take_rest}
use Rattle.coffee_volume.specs.Windows.{content_of}
use Rattle.coffee_volume.proofs.Windows.{joined_part}
use Rattle.coffee_volume.proofs.window.Window.read.Goals as goal

pub returns-in_err-read_rest-clause-shows : goal.returns-in_err-read_rest-clause-shows
returns-in_err-read_rest-clause-shows g c told given =
    c.read_rest.ensures.shows told (rw (sym c.self.view_is) at (c.turn_to.ensures.shows (content_of (g.F.Flash.image c.args.flash.now) c.args.file.now) (λ file. given (file ∙ c.number.ensures.value))))

pub returns-clause-bytes : goal.returns-clause-bytes
returns-clause-bytes g c told given k low =
    let content = content_of (g.F.Flash.image c.args.flash.now) c.args.file.now in
    let front = c.give-given.new.into in
    let n = c.give-given.result in
    let rest = c.read_rest.new.into in
    let held = c.give-given.ensures.part content (rw (sym c.self.view_is) at (c.turn_to.ensures.shows content (λ file. given (file ∙ c.number.ensures.value)))) in
    let left = ap length (take_rest front n) in
    joined_part front rest _ n c.args.at content (omega (arith, c.give-given.ensures.few, c.give-given.auto.into)) held
    (λ j here. c.in_ok-read_rest.ensures.bytes told j (omega (arith, here, c.read_rest.auto.into)))
    k (omega (arith, low, c.read_rest.auto.into, c.give-given.auto.into, left, length-drop n front))

pub returns-clause-shows : goal.returns-clause-shows
returns-clause-shows g c told given =
    c.read_rest.ensures.shows told (rw (sym c.self.view_is) at (c.turn_to.ensures.shows (content_of (g.F.Flash.image c.args.flash.now) c.args.file.now) (λ file. given (file ∙ c.number.ensures.value))))
