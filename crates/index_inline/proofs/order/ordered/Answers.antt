use Rattle.std.proofs.Common.{rules, arith, ◌≡◌, ◌+◌, ◌-◌, ◌∙◌, ap}
use Rattle.std.specs.Prelude.{FitsSigned}
use Rattle.std.specs.Int.{w64}
use Rattle.std.proofs.lemmas.Int.{to_z-of_z}
use Rattle.afl_base.specs.KeyColumn.{key_of}
use Rattle.index_inline.proofs.Falls.{falls_at, rises_at}
use Rattle.index_inline.proofs.order.ordered.Goals as goal

pub returns-then-key-last-clause-ordered : goal.returns-then-key-last-clause-ordered
returns-then-key-last-clause-ordered g c = λ told.
    let inv = c.loop-at.invariant in
    let fits : FitsSigned w64 c.in_ok-key.key = search rules in
    let slot : c.in-Some.slot ≡ c.loop-at.at = search rules in
    let key = (rw inv.same at c.in_ok-key.ensures.key) told in
    falls_at (key_of (g.V.Files.state c.args.files.now) c.args.column.now) c.args.slots c.loop-at.at c.in_ok-key.key _ (inv.rises told) (inv.last told) inv.least fits
    (key ∙ ap (key_of (g.V.Files.state c.args.files.now) c.args.column.now) slot) (rw (to_z-of_z w64 c.in_ok-key.key fits) at c.if-key-last.true) (search rules)

pub loop-at-preserved : goal.loop-at-preserved
loop-at-preserved g c =
    let inv = c.loop-at.invariant in
    let fits : FitsSigned w64 c.in_ok-key.key = search rules in
    let back = to_z-of_z w64 c.in_ok-key.key fits in
    let slot : c.in-Some.slot ≡ c.loop-at.at = search rules in
    record {
      same = search rules;
      lent = search rules;
      later = search rules;
      rises = λ told. let key = (rw inv.same at c.in_ok-key.ensures.key) told in
          rises_at (key_of (g.V.Files.state c.args.files.now) c.args.column.now) c.loop-at.at c.in_ok-key.key _ (inv.rises told) (inv.last told)
          (key ∙ ap (key_of (g.V.Files.state c.args.files.now) c.args.column.now) slot) (rw back at c.if-key-last.false);
      last = λ told some. let key = (rw inv.same at c.in_ok-key.ensures.key) told in
          let here : c.loop-at.at + 1 - 1 ≡ c.loop-at.at = omega arith in
          rw here (back ∙ key ∙ ap (key_of (g.V.Files.state c.args.files.now) c.args.column.now) slot);
      least = λ none. absurd (omega (arith, none));
      reads = search rules;
      reads_later = search rules;
    }
