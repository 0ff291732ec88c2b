use Rattle.std.proofs.Common.{rules, arith, refl, ◌≤◌, ◌∙◌, subst, sym}
use Rattle.std.specs.Prelude.{IsTrue}
use Rattle.afl_base.specs.Files.{draft_in}
use Rattle.index_maxheap.specs.Builds.{Builds, group_place, waiting}
use Rattle.index_maxheap.proofs.Awaited.{all_written}
use Rattle.index_maxheap.proofs.Built.{only_then}
use Rattle.index_maxheap.proofs.Gathering.{only_same}
use Rattle.index_maxheap.proofs.building.write_rest.Goals as goal

pub loop-node-init : goal.loop-node-init
loop-node-init g c = record {
  begun = c.requires.begun;
  size = refl;
  tells = refl;
  only = only_same (g.V.Files.state c.args.files.now) c.requires.begun;
  store = refl;
  lent = refl;
  reads_later = search rules;
  faults = search rules;
  files = refl;
  awaits = λ told full a. a;
}

pub write_waiting-requires-clause-fit : goal.write_waiting-requires-clause-fit
write_waiting-requires-clause-fit g c =
    let fit = c.requires.fit in
    (fit.0, fit.1, fit.2, c.loop-node.invariant.size ∙ fit.3)

pub write_waiting-requires-clause-told : goal.write_waiting-requires-clause-told
write_waiting-requires-clause-told g c = λ told.
    let inv = c.loop-node.invariant in
    let was : IsTrue (g.V.Files.state c.args.files.now).tells = rw inv.tells at told in
    let have = c.requires.told was in
    (have.1.full, inv.awaits was have.1.full have.1.awaits)

pub loop-node-preserved : goal.loop-node-preserved
loop-node-preserved g c =
    let old = g.V.Files.state c.args.files.now in
    let now = g.V.Files.state c.loop-node.files in
    let new = g.V.Files.state c.write_waiting.new.files in
    let inv = c.loop-node.invariant in
    let done = c.in_ok-write_waiting.ensures in
    let only = done.only in
    record {
      begun = only.1.begun;
      size = only.1.size ∙ inv.size;
      tells = only.1.tells ∙ inv.tells;
      only = only_then old now new inv.only only;
      store = done.frame.store ∙ inv.store;
      lent = done.frame.lent ∙ inv.lent;
      reads_later = omega (arith, inv.reads_later, done.frame.later);
      faults = omega (arith, inv.faults, done.frame.cause.later);
      files = only.1.files ∙ inv.files;
      awaits = λ was full a. (let told : IsTrue now.tells = inv.tells ∙ was in done.written told full (inv.awaits was full a));
    }

pub returns-clause-written : goal.returns-clause-written
returns-clause-written g c = λ told ps a.
    let inv = c.loop-node.invariant in
    let now = g.V.Files.state c.loop-node.files in
    let nodes = c.args.nodes.now in
    let end : 341 ≤ c.loop-node.node = omega (arith, c.loop-node-test.false) in
    subst (λ xs. Builds nodes.loads nodes.lasts nodes.opened xs ps) (sym (all_written (group_place nodes) (waiting nodes) nodes.groups (draft_in now).bytes a.full c.loop-node.node end (inv.awaits told a.full a.awaits))) a.builds
