use Rattle.std.proofs.Common.{◌≡◌, map, ap, ◌∙◌}
use Rattle.std.specs.List.{list_any}
use Rattle.coffee_layout.specs.FileBytes.{table_of}
use Rattle.coffee_layout.specs.Files.{entry_of, entry_with}
use Rattle.coffee_layout.specs.Walks.{fits_entry, is_its_log}
use Rattle.coffee_layout.proofs.Entries.{named_same, fits_same}
use Rattle.coffee_layout.proofs.Tests.{if_ok}
use Rattle.coffee_layout.proofs.extents.extent_keeps.Goals as goal

pub returns-in-Fields-clause-keeps : goal.returns-in-Fields-clause-keeps
returns-in-Fields-clause-keeps g c = λ t files h. rw c.in-Fields.is (c.has_fields.ensures c.args.page)

pub returns-else-header-ne19-clause-keeps : goal.returns-else-header-ne19-clause-keeps
returns-else-header-ne19-clause-keeps g c = λ t files h.
    let e : c.args.table.now ≡ map (λ f. entry_with f 0 0) files = (rw c.in-Named.is at h) in
    rw (c.in-Named.is, c.if-header-ne19.false) (c.is_log_named.ensures ∙ ap (λ entries. list_any (λ f. is_its_log c.args.page f.log) entries) e ∙ named_same c.args.page files)

pub returns-else-header-ne19-3-clause-keeps : goal.returns-else-header-ne19-3-clause-keeps
returns-else-header-ne19-3-clause-keeps g c = λ t. if_ok c.fits_its_file.result _ _ (c.fits_its_file.ensures.fits t) (λ r is files h.
    let image = g.F.Flash.image c.args.flash.now in
    let e : c.args.table.now ≡ map (entry_of image) files = (rw c.in-Inside.is at h) in
    rw (c.in-Inside.is, c.if-header-ne19-3.false) (is ∙ ap (fits_entry c.args.page (table_of image c.args.page)) e ∙ fits_same image files c.args.page))
