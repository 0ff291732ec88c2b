use Rattle.std.proofs.Common.{◌≡◌, None, Some, [], refl, sym, ◌∙◌}
use Rattle.std.specs.List.{list_any}
use Rattle.coffee_layout.specs.FileBytes.{table_of}
use Rattle.coffee_layout.specs.Files.{extents, files_in, logs_in}
use Rattle.coffee_layout.specs.Rules.{first_failing, first_repeated, has_fields, is_front_filled, names_its_log, names_log}
use Rattle.coffee_layout.specs.Tiling.{at_place}
use Rattle.coffee_layout.proofs.Judging.{or_nothing, place_logs}
use Rattle.coffee_layout.proofs.judge.broken_named.Goals as goal

pub returns-in-Some-at_place-clause-first : goal.returns-in-Some-at_place-clause-first
returns-in-Some-at_place-clause-first g c = λ t us tiled all.
    let six : at_place 6 (first_repeated [] (files_in us)) ≡ None = sym (c.at_place.ensures (first_repeated [] (files_in us)) (c.repeated_name.ensures (files_in us) all)) ∙ c.in_default.is in
    let seven : at_place 7 (first_failing has_fields (extents 0 us)) ≡ Some c.in-Some-at_place.bad = sym (c.at_place-2.ensures (first_failing has_fields (extents 0 us)) (c.in_ok-first_failing.ensures.first t us (files_in us) tiled tt)) ∙ c.in-Some-at_place.is in
    rw (six, seven) refl

pub returns-in-Some-at_place-2-clause-first : goal.returns-in-Some-at_place-2-clause-first
returns-in-Some-at_place-2-clause-first g c = λ t us tiled all.
    let six : at_place 6 (first_repeated [] (files_in us)) ≡ None = sym (c.at_place.ensures (first_repeated [] (files_in us)) (c.repeated_name.ensures (files_in us) all)) ∙ c.in_default.is in
    let seven : at_place 7 (first_failing has_fields (extents 0 us)) ≡ None = sym (c.at_place-2.ensures (first_failing has_fields (extents 0 us)) (c.in_ok-first_failing.ensures.first t us (files_in us) tiled tt)) ∙ c.in_default-at_place.is in
    let eight : at_place 8 (first_failing (names_its_log (logs_in us)) (files_in us)) ≡ Some c.in-Some-at_place-2.bad =
    sym (c.at_place-3.ensures (first_failing (names_its_log (logs_in us)) (files_in us)) ((rw c.first_failing.ensures.frame.same at (c.in_ok-first_unlogged.ensures.first t)) us tiled all)) ∙ c.in-Some-at_place-2.is in
    rw (six, seven, eight) refl

pub returns-in-Some-at_place-3-clause-first : goal.returns-in-Some-at_place-3-clause-first
returns-in-Some-at_place-3-clause-first g c = λ t us tiled all.
    let six : at_place 6 (first_repeated [] (files_in us)) ≡ None = sym (c.at_place.ensures (first_repeated [] (files_in us)) (c.repeated_name.ensures (files_in us) all)) ∙ c.in_default.is in
    let seven : at_place 7 (first_failing has_fields (extents 0 us)) ≡ None = sym (c.at_place-2.ensures (first_failing has_fields (extents 0 us)) (c.in_ok-first_failing.ensures.first t us (files_in us) tiled tt)) ∙ c.in_default-at_place.is in
    let eight : at_place 8 (first_failing (names_its_log (logs_in us)) (files_in us)) ≡ None =
    sym (c.at_place-3.ensures (first_failing (names_its_log (logs_in us)) (files_in us)) ((rw c.first_failing.ensures.frame.same at (c.in_ok-first_unlogged.ensures.first t)) us tiled all)) ∙ c.in_default-at_place-2.is in
    let nine : at_place 9 (first_failing (λ l. list_any (names_log l.page) (files_in us)) (logs_in us)) ≡ Some c.in-Some-at_place-3.bad =
    sym (place_logs 9 c.in_ok-first_failing-2.field-0 c.at_place-4.result (λ l. list_any (names_log l.page) (files_in us)) us c.at_place-4.ensures
    ((rw (c.first_unlogged.ensures.frame.same, c.first_failing.ensures.frame.same) at (c.in_ok-first_failing-2.ensures.first t)) us (files_in us) tiled all)) ∙ c.in-Some-at_place-3.is in
    rw (six, seven, eight, nine) refl

pub returns-clause-first : goal.returns-clause-first
returns-clause-first g c = λ t us tiled all.
    let image = g.F.Flash.image c.args.flash.now in
    let six : at_place 6 (first_repeated [] (files_in us)) ≡ None = sym (c.at_place.ensures (first_repeated [] (files_in us)) (c.repeated_name.ensures (files_in us) all)) ∙ c.in_default.is in
    let seven : at_place 7 (first_failing has_fields (extents 0 us)) ≡ None = sym (c.at_place-2.ensures (first_failing has_fields (extents 0 us)) (c.in_ok-first_failing.ensures.first t us (files_in us) tiled tt)) ∙ c.in_default-at_place.is in
    let eight : at_place 8 (first_failing (names_its_log (logs_in us)) (files_in us)) ≡ None =
    sym (c.at_place-3.ensures (first_failing (names_its_log (logs_in us)) (files_in us)) ((rw c.first_failing.ensures.frame.same at (c.in_ok-first_unlogged.ensures.first t)) us tiled all)) ∙ c.in_default-at_place-2.is in
    let nine : at_place 9 (first_failing (λ l. list_any (names_log l.page) (files_in us)) (logs_in us)) ≡ None =
    sym (place_logs 9 c.in_ok-first_failing-2.field-0 c.at_place-4.result (λ l. list_any (names_log l.page) (files_in us)) us c.at_place-4.ensures
    ((rw (c.first_unlogged.ensures.frame.same, c.first_failing.ensures.frame.same) at (c.in_ok-first_failing-2.ensures.first t)) us (files_in us) tiled all)) ∙ c.in_default-at_place-3.is in
    let ten : c.at_place-5.result ≡ at_place 10 (first_failing (λ l. is_front_filled (table_of image l.page)) (logs_in us)) =
    place_logs 10 c.in_ok-first_failing-3.field-0 c.at_place-5.result (λ l. is_front_filled (table_of image l.page)) us c.at_place-5.ensures
    ((rw (c.first_failing-2.ensures.frame.same, c.first_unlogged.ensures.frame.same, c.first_failing.ensures.frame.same) at (c.in_ok-first_failing-3.ensures.first t)) us (files_in us) tiled tt) in
    rw (six, seven, eight, nine) (ten ∙ sym (or_nothing (at_place 10 (first_failing (λ l. is_front_filled (table_of image l.page)) (logs_in us)))))
