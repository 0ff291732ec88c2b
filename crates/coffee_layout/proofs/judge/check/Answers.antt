use Rattle.std.proofs.Common.{◌≡◌, ◌*◌, None, Some, length, map, drop, arith, refl, sym, ◌∙◌}
use Rattle.coffee_layout.specs.Files.{entry_of, entry_with, files_in}
use Rattle.coffee_layout.specs.Rules.{first_page, first_some}
use Rattle.coffee_layout.specs.Tiling.{IsTiled, at_place, broken_tiling, nowhere, units_of}
use Rattle.coffee_layout.specs.Units.{pages_of}
use Rattle.coffee_layout.specs.Walks.{IsSketched, measured_rules, named_rules}
use Rattle.coffee_layout.proofs.Judging.{entries_all, image_measured, image_named, image_tiled, image_untiled, named_fit}
use Rattle.coffee_layout.proofs.Tilings.{tiled_unbroken}
use Rattle.coffee_layout.proofs.judge.check.Goals as goal

pub returns-in-Err-clause-judged : goal.returns-in-Err-clause-judged
returns-in-Err-clause-judged g c = λ t. image_untiled (g.F.Flash.image c.args.flash.now) c.in-Err.bad (rw c.in-Err.is at (c.in_ok-extra.ensures.judged t))

pub returns-in-Some-clause-judged : goal.returns-in-Some-clause-judged
returns-in-Some-clause-judged g c = λ t.
    let image = g.F.Flash.image c.args.flash.now in
    let judged : (broken_tiling nowhere image ≡ None) × IsSketched c.judge_units.new.table.items c.in-Ok.extra (files_in (units_of image)) = (rw c.in-Ok.is at (c.in_ok-extra.ensures.judged t)) in
    let five : at_place 5 (first_page (drop 32 (files_in (units_of image)))) ≡ Some c.in-Some.bad = sym (c.at_place.ensures (first_page (drop 32 (files_in (units_of image)))) judged.1.more) ∙ c.in-Some.is in
    image_tiled image judged.0 ∙ (rw five refl)

pub returns-in-Some-2-clause-judged : goal.returns-in-Some-2-clause-judged
returns-in-Some-2-clause-judged g c = λ t.
    let image = g.F.Flash.image c.args.flash.now in
    let us = units_of image in
    let judged : (broken_tiling nowhere image ≡ None) × IsSketched c.judge_units.new.table.items c.in-Ok.extra (files_in (units_of image)) = (rw c.in-Ok.is at (c.in_ok-extra.ensures.judged t)) in
    let whole : 256 * pages_of image ≡ length image = omega arith in
    let tiled : IsTiled nowhere image us = tiled_unbroken nowhere image whole judged.0 in
    let five : at_place 5 (first_page (drop 32 (files_in us))) ≡ None = sym (c.at_place.ensures (first_page (drop 32 (files_in us))) judged.1.more) ∙ c.in_default.is in
    let entries : c.judge_units.new.table.items ≡ map (λ f. entry_with f 0 0) (files_in us) = entries_all c.judge_units.new.table.items c.in-Ok.extra (files_in us) judged.1 five in
    let named : c.in_ok-bad.field-0 ≡ first_some (named_rules image us) = (rw c.judge_units.ensures.frame.same at (c.in_ok-bad.ensures.first t)) us tiled (c.deref.ensures.0 ∙ entries) in
    image_named image c.in-Some-2.bad judged.0 five (sym named ∙ c.in-Some-2.is)

pub returns-in-Some-3-clause-judged : goal.returns-in-Some-3-clause-judged
returns-in-Some-3-clause-judged g c = λ t.
    let image = g.F.Flash.image c.args.flash.now in
    let us = units_of image in
    let judged : (broken_tiling nowhere image ≡ None) × IsSketched c.judge_units.new.table.items c.in-Ok.extra (files_in (units_of image)) = (rw c.in-Ok.is at (c.in_ok-extra.ensures.judged t)) in
    let whole : 256 * pages_of image ≡ length image = omega arith in
    let tiled : IsTiled nowhere image us = tiled_unbroken nowhere image whole judged.0 in
    let five : at_place 5 (first_page (drop 32 (files_in us))) ≡ None = sym (c.at_place.ensures (first_page (drop 32 (files_in us))) judged.1.more) ∙ c.in_default.is in
    let entries : c.judge_units.new.table.items ≡ map (λ f. entry_with f 0 0) (files_in us) = entries_all c.judge_units.new.table.items c.in-Ok.extra (files_in us) judged.1 five in
    let named : c.in_ok-bad.field-0 ≡ first_some (named_rules image us) = (rw c.judge_units.ensures.frame.same at (c.in_ok-bad.ensures.first t)) us tiled (c.deref.ensures.0 ∙ entries) in
    let none : first_some (named_rules image us) ≡ None = sym named ∙ c.in_default-2.is in
    let table : c.measure_table.new.table.items ≡ map (entry_of image) (files_in us) =
    (rw (c.broken_named.ensures.frame.same, c.judge_units.ensures.frame.same) at (c.in_ok-measure_table.ensures.measured t)) (files_in us) (named_fit image us tiled none) entries in
    let rest : c.in_ok-bad-2.field-0 ≡ first_some (measured_rules image us) =
    (rw (c.measure_table.ensures.frame.same, c.broken_named.ensures.frame.same, c.judge_units.ensures.frame.same) at (c.in_ok-bad-2.ensures.first t)) us tiled (c.deref-2.ensures.0 ∙ table) in
    image_measured image (Some c.in-Some-3.bad) judged.0 five none (sym rest ∙ c.in-Some-3.is)

pub returns-clause-judged : goal.returns-clause-judged
returns-clause-judged g c = λ t.
    let image = g.F.Flash.image c.args.flash.now in
    let us = units_of image in
    let judged : (broken_tiling nowhere image ≡ None) × IsSketched c.judge_units.new.table.items c.in-Ok.extra (files_in (units_of image)) = (rw c.in-Ok.is at (c.in_ok-extra.ensures.judged t)) in
    let whole : 256 * pages_of image ≡ length image = omega arith in
    let tiled : IsTiled nowhere image us = tiled_unbroken nowhere image whole judged.0 in
    let five : at_place 5 (first_page (drop 32 (files_in us))) ≡ None = sym (c.at_place.ensures (first_page (drop 32 (files_in us))) judged.1.more) ∙ c.in_default.is in
    let entries : c.judge_units.new.table.items ≡ map (λ f. entry_with f 0 0) (files_in us) = entries_all c.judge_units.new.table.items c.in-Ok.extra (files_in us) judged.1 five in
    let named : c.in_ok-bad.field-0 ≡ first_some (named_rules image us) = (rw c.judge_units.ensures.frame.same at (c.in_ok-bad.ensures.first t)) us tiled (c.deref.ensures.0 ∙ entries) in
    let none : first_some (named_rules image us) ≡ None = sym named ∙ c.in_default-2.is in
    let table : c.measure_table.new.table.items ≡ map (entry_of image) (files_in us) =
    (rw (c.broken_named.ensures.frame.same, c.judge_units.ensures.frame.same) at (c.in_ok-measure_table.ensures.measured t)) (files_in us) (named_fit image us tiled none) entries in
    let rest : c.in_ok-bad-2.field-0 ≡ first_some (measured_rules image us) =
    (rw (c.measure_table.ensures.frame.same, c.broken_named.ensures.frame.same, c.judge_units.ensures.frame.same) at (c.in_ok-bad-2.ensures.first t)) us tiled (c.deref-2.ensures.0 ∙ table) in
    (image_measured image None judged.0 five none (sym rest ∙ c.in_default-3.is), table)
