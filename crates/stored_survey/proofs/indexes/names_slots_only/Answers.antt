use Rattle.std.proofs.Common.{◌≡◌, ◌⊎◌, ◌+◌, ◌-◌, ◌≤◌, ℕ, ap, arith, rules, refl, sym, length, ◌∙◌}
use Rattle.afl_base.specs.Files.{bytes_at}
use Rattle.stored_survey.proofs.Named.{bucket_next, bucket_only, named_all, named_none, next_place, part_all}
use Rattle.stored_survey.proofs.Seen.{accepted, refuted}
use Rattle.stored_survey.proofs.indexes.names_slots_only.Goals as goal

pub returns-then-not-only-clause-only : goal.returns-then-not-only-clause-only
returns-then-not-only-clause-only g c = λ told.
    let inv = c.loop-at.invariant in
    let bytes = bytes_at (g.V.Files.state c.args.files.now).files c.args.tree in
    let at : ℕ = c.loop-at.at in
    let n : ℕ = c.at_most-count.result in
    let less = c.loop-at-test.true in
    let size = c.size-size.ensures in
    refuted c.in_ok-only.only ((rw inv.same at c.in_ok-only.ensures.only) told) c.if-not-only.true
    (bucket_only bytes c.args.slots at n inv.from (inv.at_bucket less) c.at_most-count.ensures.few (omega (arith, c.at_most-count.ensures.within, less, size))
    (part_all at n (c.size-size.result - at) (length bytes) (omega (arith, less, size)) (ap (λ (m : ℕ). m - at) size) c.at_most-count.ensures.all))

pub loop-at-preserved : goal.loop-at-preserved
loop-at-preserved g c =
    let inv = c.loop-at.invariant in
    let bytes = bytes_at (g.V.Files.state c.args.files.now).files c.args.tree in
    let at : ℕ = c.loop-at.at in
    let n : ℕ = c.at_most-count.result in
    let less = c.loop-at-test.true in
    let size = c.size-size.ensures in
    let from = inv.from in
    record {
      same = c.in_ok-only.ensures.frame.same ∙ inv.same;
      from = omega (arith, from);
      at_bucket = λ more. next_place at c.at_most-at.result (c.size-size.result - at) c.size-size.result from (inv.at_bucket less) less refl c.at_most-at.ensures.all more;
      named = λ told. bucket_next bytes c.args.slots at n from (inv.at_bucket less) c.at_most-count.ensures.few (omega (arith, c.at_most-count.ensures.within, less, size))
          (part_all at n (c.size-size.result - at) (length bytes) (omega (arith, less, size)) (ap (λ (m : ℕ). m - at) size) c.at_most-count.ensures.all)
          (at + c.at_most-at.result) (omega (arith, c.at_most-at.ensures.few)) (inv.named told) (((rw inv.same at c.in_ok-only.ensures.only) told).0 c.if-not-only.false);
      lent = c.in_ok-only.ensures.frame.lent ∙ inv.lent;
      later = search rules;
      faults = search rules;
    }

pub loop-at-init : goal.loop-at-init
loop-at-init g c = record {
  same = refl;
  from = omega arith;
  at_bucket = λ more. omega arith;
  named = λ told. named_none c.args.slots (bytes_at (g.V.Files.state c.args.files.now).files c.args.tree);
  lent = refl;
  later = omega arith;
  faults = refl;
}

pub returns-clause-only : goal.returns-clause-only
returns-clause-only g c = λ told.
    let bytes = bytes_at (g.V.Files.state c.args.files.now).files c.args.tree in
    accepted (named_all c.args.slots bytes c.loop-at.at (omega (arith, c.loop-at-test.false, c.size-size.ensures)) (c.loop-at.invariant.named told))
