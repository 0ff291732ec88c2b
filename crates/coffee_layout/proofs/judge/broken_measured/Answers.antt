use Rattle.std.proofs.Common.{◌≡◌, None, Some, refl, sym, ◌∙◌}
use Rattle.coffee_layout.specs.Files.{files_in, logs_in}
use Rattle.coffee_layout.specs.Rules.{first_failing, fits_its_file, has_few_pages, is_clear}
use Rattle.coffee_layout.specs.Tiling.{at_place}
use Rattle.coffee_layout.proofs.Judging.{or_nothing, place_logs}
use Rattle.coffee_layout.proofs.judge.broken_measured.Goals as goal

pub returns-in-Some-clause-first : goal.returns-in-Some-clause-first
returns-in-Some-clause-first g c = λ t us tiled all.
    let image = g.F.Flash.image c.args.flash.now in
    let eleven : at_place 11 (first_failing (λ l. fits_its_file image (files_in us) l.page) (logs_in us)) ≡ Some c.in-Some.bad =
    sym (place_logs 11 c.in_ok-first_failing.field-0 c.at_place.result (λ l. fits_its_file image (files_in us) l.page) us c.at_place.ensures (c.in_ok-first_failing.ensures.first t us (files_in us) tiled all)) ∙ c.in-Some.is in
    rw eleven refl

pub returns-in-Some-at_place-clause-first : goal.returns-in-Some-at_place-clause-first
returns-in-Some-at_place-clause-first g c = λ t us tiled all.
    let image = g.F.Flash.image c.args.flash.now in
    let eleven : at_place 11 (first_failing (λ l. fits_its_file image (files_in us) l.page) (logs_in us)) ≡ None =
    sym (place_logs 11 c.in_ok-first_failing.field-0 c.at_place.result (λ l. fits_its_file image (files_in us) l.page) us c.at_place.ensures (c.in_ok-first_failing.ensures.first t us (files_in us) tiled all)) ∙ c.in_default.is in
    let twelve : at_place 12 (first_failing (λ l. is_clear image l.page) (logs_in us)) ≡ Some c.in-Some-at_place.bad =
    sym (place_logs 12 c.in_ok-first_failing-2.field-0 c.at_place-2.result (λ l. is_clear image l.page) us c.at_place-2.ensures ((rw c.first_failing.ensures.frame.same at (c.in_ok-first_failing-2.ensures.first t)) us (files_in us) tiled tt)) ∙ c.in-Some-at_place.is in
    rw (eleven, twelve) refl

pub returns-clause-first : goal.returns-clause-first
returns-clause-first g c = λ t us tiled all.
    let image = g.F.Flash.image c.args.flash.now in
    let eleven : at_place 11 (first_failing (λ l. fits_its_file image (files_in us) l.page) (logs_in us)) ≡ None =
    sym (place_logs 11 c.in_ok-first_failing.field-0 c.at_place.result (λ l. fits_its_file image (files_in us) l.page) us c.at_place.ensures (c.in_ok-first_failing.ensures.first t us (files_in us) tiled all)) ∙ c.in_default.is in
    let twelve : at_place 12 (first_failing (λ l. is_clear image l.page) (logs_in us)) ≡ None =
    sym (place_logs 12 c.in_ok-first_failing-2.field-0 c.at_place-2.result (λ l. is_clear image l.page) us c.at_place-2.ensures ((rw c.first_failing.ensures.frame.same at (c.in_ok-first_failing-2.ensures.first t)) us (files_in us) tiled tt)) ∙ c.in_default-at_place.is in
    let thirteen : c.at_place-3.result ≡ at_place 13 (first_failing (has_few_pages image) (files_in us)) = c.at_place-3.ensures _ (c.first_oversized.ensures image (files_in us) all) in
    rw (eleven, twelve) (thirteen ∙ sym (or_nothing (at_place 13 (first_failing (has_few_pages image) (files_in us)))))
