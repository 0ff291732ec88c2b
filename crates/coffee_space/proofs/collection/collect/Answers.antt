use Rattle.std.proofs.Common.{inl, inr, rules, ◌≡◌, ℕ, Bool, List}
use Rattle.padded.proofs.Facts.{on_err}
use Rattle.coffee_layout.specs.Marks.{is_taken}
use Rattle.coffee_layout.specs.Tiling.{IsTiled}
use Rattle.coffee_layout.specs.declared.unit.Unit.{Unit}
use Rattle.coffee_space.specs.Cutting.{IsCutCollection}
use Rattle.coffee_space.specs.Sectors.{taken_in}
use Rattle.coffee_space.specs.Steps.{Isolates, IsolatesSome}
use Rattle.coffee_space.specs.declared.part.Part.TheVariants.{Behind}
use Rattle.coffee_space.proofs.ActiveExtents.{cut_before}
use Rattle.coffee_space.proofs.Collected.{collected}
use Rattle.coffee_space.proofs.PartWay.{cut_erasing, keeps_behind, keeps_headless}
use Rattle.coffee_space.proofs.collection.collect.Goals as goal

pub returns-clause-collected : goal.returns-clause-collected
returns-clause-collected g c = λ t building us tiled.
    let old = g.F.Flash.image c.args.flash.now in
    let same : (s : ℕ) → taken_in c.in-Some.sectors.used.bits c.in-Some.sectors.active.bits s ≡ is_taken us s = (rw c.in-Some.is at (c.in_ok-sectors.ensures.marked t)) building us tiled in
    let behind : Isolates (taken_in c.in-Some.sectors.used.bits c.in-Some.sectors.active.bits) Behind old (g.F.Flash.image c.isolate.new.flash) us = (rw c.mark_sectors.ensures.frame.same at (c.in_ok-isolate.ensures.isolated t)) building us tiled in
    collected (taken_in c.in-Some.sectors.used.bits c.in-Some.sectors.active.bits) building old (g.F.Flash.image c.isolate.new.flash) (g.F.Flash.image c.erase.new.flash) (g.F.Flash.image c.isolate-2.new.flash) us
    (search rules) (search rules) (search rules) tiled same behind (c.in_ok-erased.ensures.erased t) (λ vs mid. c.in_ok-isolate-2.ensures.isolated t building vs mid)

pub returns-in_err-sectors-clause-cut : goal.returns-in_err-sectors-clause-cut
returns-in_err-sectors-clause-cut g c = λ t k. on_err _ (cut_before (g.F.Flash.image c.args.flash.now) (g.F.Flash.image c.mark_sectors.new.flash) c.mark_sectors.ensures.frame.same)

pub returns-in_err-isolate-clause-cut : goal.returns-in_err-isolate-clause-cut
returns-in_err-isolate-clause-cut g c = λ t k.
    let cut : (building : ℕ → Bool) (us : List Unit) → IsTiled building (g.F.Flash.image c.args.flash.now) us → IsCutCollection building (g.F.Flash.image c.args.flash.now) (g.F.Flash.image c.isolate.new.flash) us = λ building us tiled.
    let same : (s : ℕ) → taken_in c.in-Some.sectors.used.bits c.in-Some.sectors.active.bits s ≡ is_taken us s = (rw c.in-Some.is at (c.in_ok-sectors.ensures.marked t)) building us tiled in
    let some : IsolatesSome (taken_in c.in-Some.sectors.used.bits c.in-Some.sectors.active.bits) Behind (g.F.Flash.image c.args.flash.now) (g.F.Flash.image c.isolate.new.flash) us = (rw c.mark_sectors.ensures.frame.same at (c.in_err-isolate.ensures.cut t k)) building us tiled in
    inl (keeps_behind (taken_in c.in-Some.sectors.used.bits c.in-Some.sectors.active.bits) building (g.F.Flash.image c.args.flash.now) (g.F.Flash.image c.isolate.new.flash) us same (search rules) tiled some) in
    on_err _ cut

pub returns-in_err-erased-clause-cut : goal.returns-in_err-erased-clause-cut
returns-in_err-erased-clause-cut g c = λ t k.
    let cut : (building : ℕ → Bool) (us : List Unit) → IsTiled building (g.F.Flash.image c.args.flash.now) us → IsCutCollection building (g.F.Flash.image c.args.flash.now) (g.F.Flash.image c.erase.new.flash) us = λ building us tiled.
    let same : (s : ℕ) → taken_in c.in-Some.sectors.used.bits c.in-Some.sectors.active.bits s ≡ is_taken us s = (rw c.in-Some.is at (c.in_ok-sectors.ensures.marked t)) building us tiled in
    let behind : Isolates (taken_in c.in-Some.sectors.used.bits c.in-Some.sectors.active.bits) Behind (g.F.Flash.image c.args.flash.now) (g.F.Flash.image c.isolate.new.flash) us = (rw c.mark_sectors.ensures.frame.same at (c.in_ok-isolate.ensures.isolated t)) building us tiled in
    inr (cut_erasing (taken_in c.in-Some.sectors.used.bits c.in-Some.sectors.active.bits) building (g.F.Flash.image c.args.flash.now) (g.F.Flash.image c.isolate.new.flash) (g.F.Flash.image c.erase.new.flash) us same (search rules) tiled behind (c.in_err-erased.ensures.cut t k)) in
    on_err _ cut

pub returns-in_err-isolate-2-clause-cut : goal.returns-in_err-isolate-2-clause-cut
returns-in_err-isolate-2-clause-cut g c = λ t k.
    let cut : (building : ℕ → Bool) (us : List Unit) → IsTiled building (g.F.Flash.image c.args.flash.now) us → IsCutCollection building (g.F.Flash.image c.args.flash.now) (g.F.Flash.image c.isolate-2.new.flash) us = λ building us tiled.
    let same : (s : ℕ) → taken_in c.in-Some.sectors.used.bits c.in-Some.sectors.active.bits s ≡ is_taken us s = (rw c.in-Some.is at (c.in_ok-sectors.ensures.marked t)) building us tiled in
    let behind : Isolates (taken_in c.in-Some.sectors.used.bits c.in-Some.sectors.active.bits) Behind (g.F.Flash.image c.args.flash.now) (g.F.Flash.image c.isolate.new.flash) us = (rw c.mark_sectors.ensures.frame.same at (c.in_ok-isolate.ensures.isolated t)) building us tiled in
    inl (keeps_headless (taken_in c.in-Some.sectors.used.bits c.in-Some.sectors.active.bits) building (g.F.Flash.image c.args.flash.now) (g.F.Flash.image c.isolate.new.flash) (g.F.Flash.image c.erase.new.flash) (g.F.Flash.image c.isolate-2.new.flash) us same
    (search rules) (search rules) (search rules) tiled behind (c.in_ok-erased.ensures.erased t) (λ vs mid. c.in_err-isolate-2.ensures.cut t k building vs mid)) in
    on_err _ cut
