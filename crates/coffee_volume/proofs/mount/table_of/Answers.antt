use Rattle.std.proofs.Common.{◌≡◌, ◌≤◌, ◌<◌, Some, length, set, take, refl, sym, ap, ◌∙◌, subst, arith}
use Rattle.std.proofs.lemmas.List.{length-take}
use Rattle.coffee_layout.specs.Files.{FitsIn}
use Rattle.coffee_layout.specs.declared.file.FileAt.{FileAt}
use Rattle.coffee_volume.specs.Mounting.{MayBeListed}
use Rattle.coffee_volume.specs.Volumes.{AreRegular, roomless}
use Rattle.coffee_volume.proofs.MountedTables.{may_follow, mounted_length, mounted_more, regular_more, regular_none}
use Rattle.coffee_volume.proofs.mount.table_of.Goals as goal

pub loop-i-init : goal.loop-i-init
loop-i-init c = record { table = refl; regular = λ pages all. regular_none pages 32 }

pub returns-in-Some-clause-broken : goal.returns-in-Some-clause-broken
returns-in-Some-clause-broken c = λ keep.
    let files = c.args.listed.now in
    let at = c.index-listed-i.result in
    c.in-Some.ensures (subst (λ t. MayBeListed t at) (sym c.loop-i.invariant.table) (may_follow files c.loop-i.i at keep c.loop-i-test.true (sym c.index-listed-i.is)))

pub loop-i-preserved : goal.loop-i-preserved
loop-i-preserved c =
    let files = c.args.listed.now in
    let at = c.index-listed-i.result in
    let table = c.loop-i.table in
    let i = c.loop-i.i in
    let most : length files ≤ 32 = c.requires.most in
    let low : i < length files = c.loop-i-test.true in
    let few : length (take i files) ≤ 32 = omega (arith, length-take i files) in
    let long : length table ≡ 32 = ap length c.loop-i.invariant.table ∙ mounted_length (take i files) few in
    record {
      table = ap (λ e. set table i (Some e)) c.entry_of.ensures ∙ ap (λ t. set t i (Some (roomless at))) c.loop-i.invariant.table ∙ mounted_more files i at low most (sym c.index-listed-i.is);
      regular = λ pages all.
          subst (λ e. AreRegular pages (set table i (Some e))) (sym c.entry_of.ensures)
          (regular_more pages table i at (c.loop-i.invariant.regular pages all) (omega arith) c.in_default.ensures (subst (λ (e : FileAt). FitsIn pages e) (sym c.index-listed-i.is) (all i at low)));
    }
