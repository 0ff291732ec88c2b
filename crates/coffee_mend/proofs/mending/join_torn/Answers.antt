use Rattle.std.proofs.Common.{◌≡◌, ℕ, length, None, refl, arith}
use Rattle.std.proofs.lemmas.Result.{on_ok_weaker}
use Rattle.afl_base.specs.Image.{zeros_at}
use Rattle.coffee_merge.specs.Holding.{Entries}
use Rattle.coffee_mend.proofs.Mends.{failed_more, shown_like, shown_sound, space_known, space_more}
use Rattle.coffee_mend.proofs.Supersedings.{record_fits}
use Rattle.coffee_mend.proofs.TornOwners.{torn_by, torn_left}
use Rattle.coffee_mend.specs.Joined.{HidesRecord, LeavesTable}
use Rattle.coffee_mend.specs.Mended.{IsSoundAs, MendsLike}
use Rattle.coffee_mend.proofs.mending.join_torn.Goals as goal

pub returns-clause-joined : goal.returns-clause-joined
returns-clause-joined g c = λ told of.
    let old = g.F.Flash.image c.args.flash.now in
    let new = g.F.Flash.image c.join_file.new.flash in
    let r = c.args.torn.now in
    let inside = record_fits (length old) r c.requires.torn in
    on_ok_weaker c.came_of.result (λ is.
    shown_sound old new r.log.0 r.place (omega (arith, c.sectors.ensures.size)) inside of.torn
    (torn_by old old new r.log r.place c.sectors.result c.args.file.now refl c.sectors.ensures.size (omega (arith, c.sectors.ensures.most)) inside of.torn of.owner
    (λ shown. IsSoundAs shown new) (rw is at (c.join_file.ensures.joined told)))) c.came_of.ensures.joined

pub returns-clause-space : goal.returns-clause-space
returns-clause-space g c = λ told of.
    let old = g.F.Flash.image c.args.flash.now in
    let new = g.F.Flash.image c.join_file.new.flash in
    let r = c.args.torn.now in
    let inside = record_fits (length old) r c.requires.torn in
    space_more _ _ c.came_of.result (λ need is.
    torn_left old old new r.log r.place c.sectors.result c.args.file.now refl c.sectors.ensures.size (omega (arith, c.sectors.ensures.most)) inside of.torn of.owner need c.join_file.ensures.frame.size
    (space_known c.join_file.result need (λ n. (table : Entries) (i at : ℕ) → HidesRecord old table None i c.args.file.now at → LeavesTable (zeros_at old at 128) (zeros_at new at 128) table n) is (c.join_file.ensures.left told))
    (space_known c.join_file.result need (λ n. n ≡ c.args.file.now.pages) is c.join_file.ensures.need)) c.came_of.ensures.lacking

pub returns-clause-cut : goal.returns-clause-cut
returns-clause-cut g c = λ t u of.
    let old = g.F.Flash.image c.args.flash.now in
    let new = g.F.Flash.image c.join_file.new.flash in
    let r = c.args.torn.now in
    let inside = record_fits (length old) r c.requires.torn in
    failed_more _ _ c.came_of.result (λ failed.
    shown_like old new r.log.0 r.place (omega (arith, c.sectors.ensures.size)) inside of.torn
    (torn_by old old new r.log r.place c.sectors.result c.args.file.now refl c.sectors.ensures.size (omega (arith, c.sectors.ensures.most)) inside of.torn of.owner
    (λ shown. MendsLike shown new) (c.join_file.ensures.cut t u failed))) c.came_of.ensures.failed
