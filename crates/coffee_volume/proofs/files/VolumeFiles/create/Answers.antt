use Rattle.std.proofs.Common.{◌≡◌, inl, true, ℕ, ◌&&◌, not, None, Some, Err, set, rules, refl, ap, sym, subst, arith}
use Rattle.coffee_merge.specs.Holding.{extent_of}
use Rattle.coffee_volume.specs.Lowest.{PlacesFile}
use Rattle.coffee_volume.specs.Volumes.{places, roomless}
use Rattle.coffee_volume.proofs.Changes.{FindsNone, MakesFile, lacks_left, looked_left, none_left, seen_left, seen_made, stands_left, stands_made}
use Rattle.coffee_volume.specs.declared.entry.Entry.{Entry}
use Rattle.coffee_layout.specs.Walks.{has_few}
use Rattle.coffee_volume.proofs.MendedFiles.{creation_mends, off_mends}
use Rattle.coffee_volume.proofs.Drafted.{first_few, first_some}
use Rattle.coffee_volume.proofs.Standing.{Stands, holds_idle}
use Rattle.coffee_volume.proofs.States.{none_drafted}
use Rattle.coffee_volume.proofs.Tables.{free_entry, lowest_inside, told_by}
use Rattle.coffee_volume.proofs.Takings.{made_lowest, made_taken}
use Rattle.coffee_volume.proofs.files.VolumeFiles.create.Given.{Over}
use Rattle.coffee_volume.proofs.Windows.{none_held}
use Rattle.coffee_volume.proofs.files.VolumeFiles.create.Goals as goal

pub free_in-id-requires-clause-free : goal.free_in-id-requires-clause-free
free_in-id-requires-clause-free g c =
    let v = c.args.self.now in
    free_entry (g.F.Flash.tells && not v.failed) (g.F.Flash.image v.flash) v.table v.count c.requires.place

made : (g : Over) (c : goal.After-self-in-Ok-1 g) → MakesFile g.F.Flash.tells c.args.self.now.failed (g.F.Flash.image c.args.self.now.flash) (g.F.Flash.image c.begin_extent.new.flash) (g.F.Flash.image c.commit_extent.new.flash) c.args.self.now.table c.args.self.now.draft
    c.free_in-id.result c.args.name c.args.kind c.in-Ok.page c.first_pages-pages.result (roomless (extent_of c.args.name c.args.kind c.in-Ok.page.0 c.first_pages-pages.result 0))
made g c =
    let v = c.args.self.now in
    record {
      stands = record { count = v.count; big = v.big; whole = v.whole; regular = v.regular; pending = v.pending; space = v.space; told = v.told };
      idle = none_drafted (g.F.Flash.tells && not v.failed) (g.F.Flash.image v.flash) v.draft c.requires.idle;
      inside = omega (arith, v.count, c.number.ensures.below, c.number.ensures.value);
      free = c.free_in-id.ensures.free;
      lowest = c.free_in-id.ensures.lowest;
      unnamed = c.requires.unnamed;
      is_kind = c.requires.kind;
      number = c.first_pages-pages.ensures;
      placed = c.in-Ok.ensures.inside;
      entry = refl;
      size = c.in-Ok.ensures.frame.size;
      size_then = c.in_ok-commit_extent-in-Ok.ensures.frame.size;
      begun = c.in-Ok.ensures.begun;
      committed = c.in_ok-commit_extent-in-Ok.ensures.committed;
      keeps_free = c.in_ok-commit_extent-in-Ok.ensures.free;
      other_pages = c.commit_extent.ensures.other_pages;
    }

pub invariant_of-self-in-Ok : goal.invariant_of-self-in-Ok
invariant_of-self-in-Ok g c =
    let v = c.args.self.now in
    let f : Entry = roomless (extent_of c.args.name c.args.kind c.in-Ok.page.0 c.first_pages-pages.result 0) in
    let old = g.F.Flash.image v.flash in
    let new = g.F.Flash.image c.commit_extent.new.flash in
    let after = subst (λ (i : ℕ). Stands g.F.Flash.tells v.failed new (set v.table i (Some f)) v.draft) (sym c.number.ensures.value)
    (stands_made g.F.Flash.tells v.failed old (g.F.Flash.image c.begin_extent.new.flash) new v.table v.draft c.free_in-id.result c.args.name c.args.kind c.in-Ok.page c.first_pages-pages.result f
    (record {
      stands = record { count = v.count; big = v.big; whole = v.whole; regular = v.regular; pending = v.pending; space = v.space; told = v.told };
      idle = none_drafted (g.F.Flash.tells && not v.failed) (g.F.Flash.image v.flash) v.draft c.requires.idle;
      inside = omega (arith, v.count, c.number.ensures.below, c.number.ensures.value);
      free = c.free_in-id.ensures.free;
      lowest = c.free_in-id.ensures.lowest;
      unnamed = c.requires.unnamed;
      is_kind = c.requires.kind;
      number = c.first_pages-pages.ensures;
      placed = c.in-Ok.ensures.inside;
      entry = refl;
      size = c.in-Ok.ensures.frame.size;
      size_then = c.in_ok-commit_extent-in-Ok.ensures.frame.size;
      begun = c.in-Ok.ensures.begun;
      committed = c.in_ok-commit_extent-in-Ok.ensures.committed;
      keeps_free = c.in_ok-commit_extent-in-Ok.ensures.free;
      other_pages = c.commit_extent.ensures.other_pages;
    })) in
    record { count = after.count; big = after.big; whole = after.whole; regular = after.regular; pending = after.pending; space = after.space; told = after.told; shown = λ told e is k low. absurd (none_held _ k c.clear.ensures low) }

pub returns-in_ok-commit_extent-in-Ok-clause-created : goal.returns-in_ok-commit_extent-in-Ok-clause-created
returns-in_ok-commit_extent-in-Ok-clause-created g c =
    let v = c.args.self.now in
    rw c.number.ensures.value
    (seen_made g.F.Flash.tells v.failed (g.F.Flash.image v.flash) (g.F.Flash.image c.begin_extent.new.flash) (g.F.Flash.image c.commit_extent.new.flash) v.table v.draft c.free_in-id.result c.args.name c.args.kind c.in-Ok.page c.first_pages-pages.result _ (made g c))

pub returns-in_ok-commit_extent-in-Ok-clause-taken : goal.returns-in_ok-commit_extent-in-Ok-clause-taken
returns-in_ok-commit_extent-in-Ok-clause-taken g c =
    let v = c.args.self.now in
    made_taken g.F.Flash.tells v.failed (g.F.Flash.image v.flash) (g.F.Flash.image c.begin_extent.new.flash) (g.F.Flash.image c.commit_extent.new.flash) v.table v.draft c.free_in-id.result c.args.name c.args.kind c.in-Ok.page c.first_pages-pages.result _ (made g c)

pub returns-in_ok-commit_extent-in-Ok-clause-lowest : goal.returns-in_ok-commit_extent-in-Ok-clause-lowest
returns-in_ok-commit_extent-in-Ok-clause-lowest g c = λ told.
    let v = c.args.self.now in
    let old = g.F.Flash.image v.flash in
    subst (λ (n : ℕ). PlacesFile c.args.name n old (g.F.Flash.image c.commit_extent.new.flash)) c.first_pages-pages.ensures
    (made_lowest g.F.Flash.tells v.failed old (g.F.Flash.image c.begin_extent.new.flash) (g.F.Flash.image c.commit_extent.new.flash) v.table v.draft c.free_in-id.result c.args.name c.args.kind c.in-Ok.page c.first_pages-pages.result _ (made g c) told)

none : (g : Over) (c : goal.After-self-in-Err-Space-1 g) → FindsNone g.F.Flash.tells c.args.self.now.failed (g.F.Flash.image c.args.self.now.flash) (g.F.Flash.image c.begin_extent.new.flash) c.args.self.now.table c.args.self.now.draft c.in-Err-Space.need
none g c =
    let v = c.args.self.now in
    record {
      stands = record { count = v.count; big = v.big; whole = v.whole; regular = v.regular; pending = v.pending; space = v.space; told = v.told };
      idle = none_drafted (g.F.Flash.tells && not v.failed) (g.F.Flash.image v.flash) v.draft c.requires.idle;
      size = c.in-Err-Space.ensures.frame.size;
      left = rw c.in-Err-Space.field-0-is at c.in-Err-Space.ensures.left;
    }

pub invariant_of-self-in-Err-Space : goal.invariant_of-self-in-Err-Space
invariant_of-self-in-Err-Space g c =
    let v = c.args.self.now in
    let after = stands_left g.F.Flash.tells v.failed (g.F.Flash.image v.flash) (g.F.Flash.image c.begin_extent.new.flash) v.table v.draft c.in-Err-Space.need
    (record {
      stands = record { count = v.count; big = v.big; whole = v.whole; regular = v.regular; pending = v.pending; space = v.space; told = v.told };
      idle = none_drafted (g.F.Flash.tells && not v.failed) (g.F.Flash.image v.flash) v.draft c.requires.idle;
      size = c.in-Err-Space.ensures.frame.size;
      left = rw c.in-Err-Space.field-0-is at c.in-Err-Space.ensures.left;
    }) in
    record { count = after.count; big = after.big; whole = after.whole; regular = after.regular; pending = after.pending; space = after.space; told = after.told; shown = λ told e is k low. absurd (none_held _ k c.clear.ensures low) }

pub returns-in-Err-Space-clause-frame : goal.returns-in-Err-Space-clause-frame
returns-in-Err-Space-clause-frame g c =
    let v = c.args.self.now in
    record {
      store = search rules;
      lent = search rules;
      later = search rules;
      lacks = rw c.in-Err-Space.field-0-is (lacks_left g.F.Flash.tells v.failed (g.F.Flash.image v.flash) (g.F.Flash.image c.begin_extent.new.flash) v.table v.draft c.in-Err-Space.need (none g c));
      cause = search rules;
    }

pub returns-in-Err-Space-clause-kept : goal.returns-in-Err-Space-clause-kept
returns-in-Err-Space-clause-kept g c =
    let v = c.args.self.now in
    seen_left g.F.Flash.tells v.failed (g.F.Flash.image v.flash) (g.F.Flash.image c.begin_extent.new.flash) v.table v.draft c.in-Err-Space.need (none g c)

pub returns-in-Err-Space-clause-untaken : goal.returns-in-Err-Space-clause-untaken
returns-in-Err-Space-clause-untaken g c =
    let v = c.args.self.now in
    none_left g.F.Flash.tells v.failed (g.F.Flash.image v.flash) (g.F.Flash.image c.begin_extent.new.flash) v.table v.draft c.in-Err-Space.need (none g c)

pub returns-in-Err-Space-clause-looked : goal.returns-in-Err-Space-clause-looked
returns-in-Err-Space-clause-looked g c =
    let v = c.args.self.now in
    rw c.in-Err-Space.field-0-is (looked_left g.F.Flash.tells v.failed (g.F.Flash.image v.flash) (g.F.Flash.image c.begin_extent.new.flash) v.table v.draft c.in-Err-Space.need (none g c))

pub returns-in_err-commit_extent-in-Ok-clause-cut : goal.returns-in_err-commit_extent-in-Ok-clause-cut
returns-in_err-commit_extent-in-Ok-clause-cut g c = λ u told failed.
    let v = c.args.self.now in
    let old = g.F.Flash.image v.flash in
    let both = told_by g.F.Flash.tells v.failed told in
    let s : Stands g.F.Flash.tells v.failed old v.table v.draft = record { count = v.count; big = v.big; whole = v.whole; regular = v.regular; pending = v.pending; space = v.space; told = v.told } in
    let idle : v.draft ≡ None = none_drafted (g.F.Flash.tells && not v.failed) old v.draft c.requires.idle in
    creation_mends g.F.Flash.tells v.failed old (g.F.Flash.image c.begin_extent.new.flash) (g.F.Flash.image c.commit_extent.new.flash) v.table v.draft c.free_in-id.result c.args.name c.args.kind c.in-Ok.page c.first_pages-pages.result
    (record {
      stands = s;
      idle = idle;
      free = c.free_in-id.ensures.free;
      lowest = c.free_in-id.ensures.lowest;
      inside = lowest_inside (g.F.Flash.tells && not v.failed) old v.table c.free_in-id.result v.count c.requires.place c.free_in-id.ensures.lowest;
      unnamed = c.requires.unnamed;
      few = subst (λ (n : ℕ). has_few (extent_of c.args.name c.args.kind c.in-Ok.page.0 n 0) ≡ true) (sym c.first_pages-pages.ensures) (first_few c.args.kind);
      long = c.in-Ok.ensures.frame.size;
      begun = λ t. (c.in-Ok.ensures.begun both.0 (places v.table) 0 (holds_idle g.F.Flash.tells v.failed old v.table v.draft s idle both.0 both.1) (omega (arith, first_some c.args.kind c.requires.kind, c.first_pages-pages.ensures))).begins;
    })
    told (c.in_err-commit_extent-in-Ok.ensures.cut both.0 u)

pub returns-in-Err-Failed-clause-cut : goal.returns-in-Err-Failed-clause-cut
returns-in-Err-Failed-clause-cut g c = λ u told failed.
    let v = c.args.self.now in
    let old = g.F.Flash.image v.flash in
    let both = told_by g.F.Flash.tells v.failed told in
    let s : Stands g.F.Flash.tells v.failed old v.table v.draft = record { count = v.count; big = v.big; whole = v.whole; regular = v.regular; pending = v.pending; space = v.space; told = v.told } in
    let idle : v.draft ≡ None = none_drafted (g.F.Flash.tells && not v.failed) old v.draft c.requires.idle in
    inl (off_mends g.F.Flash.tells v.failed old (g.F.Flash.image c.begin_extent.new.flash) v.table v.draft s told idle c.begin_extent.ensures.frame.size
    (c.in-Err-Failed.ensures.cut both.0 u (ap Err c.in-Err-Failed.field-0-is) (places v.table) (holds_idle g.F.Flash.tells v.failed old v.table v.draft s idle both.0 both.1)))
