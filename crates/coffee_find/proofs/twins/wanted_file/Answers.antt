use Rattle.std.proofs.Common.{◌≡◌, ◌||◌, ◌==◌, refl, ap, sym, subst, ◌∙◌, arith}
use Rattle.coffee_header.specs.declared.header.Header.{Header}
use Rattle.coffee_layout.specs.Files.{is_file}
use Rattle.padded.proofs.Facts.{yes_no}
use Rattle.coffee_find.specs.Search.{IsWanted}
use Rattle.coffee_find.proofs.FilesThere.{one_extent}
use Rattle.coffee_find.proofs.twins.wanted_file.Goals as goal
use Rattle.coffee_find.proofs.twins.wanted_file.Goals.{else-from-page-via-then-from-page+then-is_file+else-is_wanted, else-from-page-via-then-from-page+else-is_file, else-from-page-via-else-from-page}

pub returns-then-is_wanted-clause-file : goal.returns-then-is_wanted-clause-file
returns-then-is_wanted-clause-file c = record { at = refl; is = c.in-Extent.is; active = sym (c.is_file.ensures c.args.page) ∙ c.if-is_file.true }

pub returns-else-from-page-clause-none : goal.returns-else-from-page-clause-none
returns-else-from-page-clause-none c = λ f is at file low want.
    let same : c.in-Extent.header ≡ f.header = one_extent c.in-Extent.header f.header (sym c.in-Extent.is ∙ is) in
    elim c.else-from-page.branch [
      | else-from-page-via-then-from-page+then-is_file+else-is_wanted w ↦ w.is_wanted.ensures.no w.if-is_wanted.false (subst (λ (h : Header). IsWanted c.args.name.now h.name) (sym same) want)
      | else-from-page-via-then-from-page+else-is_file w ↦ yes_no (is_file f) file (ap (λ (h : Header). h.flags == 3 || h.flags == 11) (sym same) ∙ sym (w.is_file.ensures c.args.page) ∙ w.if-is_file.false)
      | else-from-page-via-else-from-page w ↦ absurd (omega (arith, w.if-from-page.false, low))
    ]
