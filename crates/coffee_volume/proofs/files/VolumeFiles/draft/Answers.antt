use Rattle.std.proofs.Common.{◌≡◌, ℕ, ◌≤◌, ◌+◌, ◌*◌, ◌&&◌, not, IsTrue, false, None, Err, rules, refl, ap, subst, arith}
use Rattle.afl_base.specs.Fit.{fit}
use Rattle.afl_base.specs.declared.kind.Kind.TheVariants.{Doubling}
use Rattle.coffee_layout.specs.Units.{pages_of}
use Rattle.coffee_layout.specs.declared.file.FileAt.{FileAt}
use Rattle.coffee_merge.specs.Holding.{HoldsTable, extent_of}
use Rattle.coffee_volume.specs.Lowest.{PlacesDraft}
use Rattle.coffee_volume.specs.Volumes.{IsPending, places}
use Rattle.coffee_volume.proofs.Changes.{BeginsDraft, FindsNone, lacks_left, looked_left, none_left, seen_begun, seen_left, stands_begun, stands_left}
use Rattle.coffee_volume.proofs.Drafted.{begun_pending, fit_shape}
use Rattle.coffee_volume.proofs.MendedFiles.{off_mends}
use Rattle.coffee_volume.proofs.Standing.{Stands, holds_idle, same_pages}
use Rattle.coffee_volume.proofs.Tables.{told_by}
use Rattle.coffee_volume.proofs.States.{none_drafted}
use Rattle.coffee_volume.proofs.Takings.{begun_lowest, begun_taken}
use Rattle.coffee_volume.proofs.files.VolumeFiles.draft.Given.{Over}
use Rattle.coffee_volume.proofs.Windows.{none_held}
use Rattle.coffee_volume.proofs.files.VolumeFiles.draft.Goals as goal

pub begin_extent-requires-clause-shape : goal.begin_extent-requires-clause-shape
begin_extent-requires-clause-shape g c = rw c.fit-pages.ensures.value (fit_shape c.args.size)

begins : (g : Over) (c : goal.After-self-1 g) → BeginsDraft g.F.Flash.tells c.args.self.now.failed (g.F.Flash.image c.args.self.now.flash) (g.F.Flash.image c.begin_extent.new.flash) c.args.self.now.table c.args.self.now.draft c.args.name c.in-Ok.page.0 c.fit-pages.result c.args.size
begins g c =
    let v = c.args.self.now in
    record {
      idle = none_drafted (g.F.Flash.tells && not v.failed) (g.F.Flash.image v.flash) v.draft c.requires.idle;
      told = v.told;
      fits = c.fit-pages.ensures.least.holds;
      begun = c.in-Ok.ensures.begun;
    }

pub invariant_of-self : goal.invariant_of-self
invariant_of-self g c =
    let v = c.args.self.now in
    let old = g.F.Flash.image v.flash in
    let new = g.F.Flash.image c.begin_extent.new.flash in
    let idle = none_drafted (g.F.Flash.tells && not v.failed) old v.draft c.requires.idle in
    let d : FileAt = extent_of c.args.name Doubling c.in-Ok.page.0 c.fit-pages.result c.args.size in
    let fits : c.args.size + 32 ≤ 256 * c.fit-pages.result = c.fit-pages.ensures.least.holds in
    let placed : c.in-Ok.page.0 + fit c.args.size ≤ pages_of old = omega (arith, c.in-Ok.ensures.inside, same_pages old new c.in-Ok.ensures.frame.size, c.fit-pages.ensures.value) in
    let pending : IsPending (pages_of old) d = rw c.fit-pages.ensures.value (begun_pending (pages_of old) c.in-Ok.page.0 c.args.name c.args.size c.requires.size placed) in
    let after =
    stands_begun g.F.Flash.tells v.failed old new v.table v.draft d (record { count = v.count; big = v.big; whole = v.whole; regular = v.regular; pending = v.pending; space = v.space; told = v.told }) idle c.in-Ok.ensures.frame.size pending
    c.requires.place
    (λ (told : IsTrue g.F.Flash.tells) (no : v.failed ≡ false).
    (c.in-Ok.ensures.begun told (places v.table) c.args.size (subst (HoldsTable old (places v.table)) idle (v.told told no)) fits).begins.holds) in
    record { count = after.count; big = after.big; whole = after.whole; regular = after.regular; pending = after.pending; space = after.space; told = after.told; shown = λ told e is k low. absurd (none_held _ k c.clear.ensures low) }

pub returns-in-Ok-clause-begun : goal.returns-in-Ok-clause-begun
returns-in-Ok-clause-begun g c =
    let v = c.args.self.now in
    seen_begun g.F.Flash.tells v.failed (g.F.Flash.image v.flash) (g.F.Flash.image c.begin_extent.new.flash) v.table v.draft c.args.name c.in-Ok.page.0 c.fit-pages.result c.args.size _ refl (begins g c)

pub returns-in-Ok-clause-taken : goal.returns-in-Ok-clause-taken
returns-in-Ok-clause-taken g c =
    let v = c.args.self.now in
    begun_taken g.F.Flash.tells v.failed (g.F.Flash.image v.flash) (g.F.Flash.image c.begin_extent.new.flash) v.table v.draft c.args.name c.in-Ok.page.0 c.fit-pages.result c.args.size (begins g c)

pub returns-in-Ok-clause-lowest : goal.returns-in-Ok-clause-lowest
returns-in-Ok-clause-lowest g c = λ told.
    let v = c.args.self.now in
    let old = g.F.Flash.image v.flash in
    let new = g.F.Flash.image c.begin_extent.new.flash in
    subst (λ (n : ℕ). PlacesDraft c.args.name n old new) c.fit-pages.ensures.value
    (begun_lowest g.F.Flash.tells v.failed old new v.table v.draft c.args.name c.in-Ok.page.0 c.fit-pages.result c.args.size (begins g c) told)

none : (g : Over) (c : goal.After-self-in-Err-Space-1 g) → FindsNone g.F.Flash.tells c.args.self.now.failed (g.F.Flash.image c.args.self.now.flash) (g.F.Flash.image c.begin_extent.new.flash) c.args.self.now.table c.args.self.now.draft c.in-Err-Space.need
none g c =
    let v = c.args.self.now in
    record {
      stands = record { count = v.count; big = v.big; whole = v.whole; regular = v.regular; pending = v.pending; space = v.space; told = v.told };
      idle = none_drafted (g.F.Flash.tells && not v.failed) (g.F.Flash.image v.flash) v.draft c.requires.idle;
      size = c.in-Err-Space.ensures.frame.size;
      left = rw c.in-Err-Space.field-0-is at c.in-Err-Space.ensures.left;
    }

pub invariant_of-self-in-Err-Space : goal.invariant_of-self-in-Err-Space
invariant_of-self-in-Err-Space g c =
    let v = c.args.self.now in
    let after = stands_left g.F.Flash.tells v.failed (g.F.Flash.image v.flash) (g.F.Flash.image c.begin_extent.new.flash) v.table v.draft c.in-Err-Space.need
    (record {
      stands = record { count = v.count; big = v.big; whole = v.whole; regular = v.regular; pending = v.pending; space = v.space; told = v.told };
      idle = none_drafted (g.F.Flash.tells && not v.failed) (g.F.Flash.image v.flash) v.draft c.requires.idle;
      size = c.in-Err-Space.ensures.frame.size;
      left = rw c.in-Err-Space.field-0-is at c.in-Err-Space.ensures.left;
    }) in
    record { count = after.count; big = after.big; whole = after.whole; regular = after.regular; pending = after.pending; space = after.space; told = after.told; shown = λ told e is k low. absurd (none_held _ k c.clear.ensures low) }

pub returns-in-Err-Space-clause-frame : goal.returns-in-Err-Space-clause-frame
returns-in-Err-Space-clause-frame g c =
    let v = c.args.self.now in
    record {
      store = search rules;
      lent = search rules;
      later = search rules;
      lacks = rw c.in-Err-Space.field-0-is (lacks_left g.F.Flash.tells v.failed (g.F.Flash.image v.flash) (g.F.Flash.image c.begin_extent.new.flash) v.table v.draft c.in-Err-Space.need (none g c));
      cause = search rules;
    }

pub returns-in-Err-Space-clause-kept : goal.returns-in-Err-Space-clause-kept
returns-in-Err-Space-clause-kept g c =
    let v = c.args.self.now in
    seen_left g.F.Flash.tells v.failed (g.F.Flash.image v.flash) (g.F.Flash.image c.begin_extent.new.flash) v.table v.draft c.in-Err-Space.need (none g c)

pub returns-in-Err-Space-clause-untaken : goal.returns-in-Err-Space-clause-untaken
returns-in-Err-Space-clause-untaken g c =
    let v = c.args.self.now in
    none_left g.F.Flash.tells v.failed (g.F.Flash.image v.flash) (g.F.Flash.image c.begin_extent.new.flash) v.table v.draft c.in-Err-Space.need (none g c)

pub returns-in-Err-Space-clause-looked : goal.returns-in-Err-Space-clause-looked
returns-in-Err-Space-clause-looked g c =
    let v = c.args.self.now in
    rw c.in-Err-Space.field-0-is (looked_left g.F.Flash.tells v.failed (g.F.Flash.image v.flash) (g.F.Flash.image c.begin_extent.new.flash) v.table v.draft c.in-Err-Space.need (none g c))

pub returns-in-Err-Failed-clause-cut : goal.returns-in-Err-Failed-clause-cut
returns-in-Err-Failed-clause-cut g c = λ u told failed.
    let v = c.args.self.now in
    let old = g.F.Flash.image v.flash in
    let both = told_by g.F.Flash.tells v.failed told in
    let s : Stands g.F.Flash.tells v.failed old v.table v.draft = record { count = v.count; big = v.big; whole = v.whole; regular = v.regular; pending = v.pending; space = v.space; told = v.told } in
    let idle : v.draft ≡ None = none_drafted (g.F.Flash.tells && not v.failed) old v.draft c.requires.idle in
    off_mends g.F.Flash.tells v.failed old (g.F.Flash.image c.begin_extent.new.flash) v.table v.draft s told idle c.begin_extent.ensures.frame.size
    (c.in-Err-Failed.ensures.cut both.0 u (ap Err c.in-Err-Failed.field-0-is) (places v.table) (holds_idle g.F.Flash.tells v.failed old v.table v.draft s idle both.0 both.1))
