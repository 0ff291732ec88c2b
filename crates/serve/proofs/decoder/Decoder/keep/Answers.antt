use Rattle.std.proofs.Common.{◌≤◌, ◌<◌, length, sym, ap, ◌∙◌, arith}
use Rattle.std.proofs.lemmas.Bool.Decides.{nat_tests}
use Rattle.serve.proofs.Opening.{kept_full, kept_more}
use Rattle.serve.proofs.decoder.Decoder.keep.Goals as goal

pub returns-then-is_full-clause-bytes : goal.returns-then-is_full-clause-bytes
returns-then-is_full-clause-bytes c = λ bytes e long.
    let full : 513 ≤ length c.self.inside.bytes.items = let v = sym c.is_full.ensures.value ∙ c.if-is_full.true in grind (arith, nat_tests) in
    (kept_full 513 c.self.inside.bytes.items bytes c.args.byte (ap (λ d. d.bytes) c.self.view_is ∙ e) full).0

pub returns-then-is_full-clause-long : goal.returns-then-is_full-clause-long
returns-then-is_full-clause-long c = λ bytes e long.
    let full : 513 ≤ length c.self.inside.bytes.items = let v = sym c.is_full.ensures.value ∙ c.if-is_full.true in grind (arith, nat_tests) in
    (kept_full 513 c.self.inside.bytes.items bytes c.args.byte (ap (λ d. d.bytes) c.self.view_is ∙ e) full).1

pub returns-clause-bytes : goal.returns-clause-bytes
returns-clause-bytes c = λ bytes e long.
    let room : length c.self.inside.bytes.items < 513 = let v = sym c.is_full.ensures.value ∙ c.if-is_full.false in let f = c.is_full.ensures.fits in grind (arith, nat_tests) in
    c.push.ensures.items ∙ (kept_more 513 c.self.inside.bytes.items bytes c.args.byte (ap (λ d. d.bytes) c.self.view_is ∙ e) room).0

pub returns-clause-long : goal.returns-clause-long
returns-clause-long c = λ bytes e long.
    let room : length c.self.inside.bytes.items < 513 = let v = sym c.is_full.ensures.value ∙ c.if-is_full.false in let f = c.is_full.ensures.fits in grind (arith, nat_tests) in
    ap (λ d. d.long) c.self.view_is ∙ long ∙ (kept_more 513 c.self.inside.bytes.items bytes c.args.byte (ap (λ d. d.bytes) c.self.view_is ∙ e) room).1
