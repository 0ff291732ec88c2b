use Rattle.std.proofs.Common.{rules, ◌≡◌, ◌+◌, ◌≤◌, ◌∙◌, sym, subst, arith, List, length}
use Rattle.db_model.specs.declared.schemas.Range.{Range}
use Rattle.db_model.specs.Cost.{begin_cost, chosen_cost, ranges_at}
use Rattle.db_model.specs.Plan.{plan}
use Rattle.index_set.specs.Plans.{kinds}
use Rattle.index_set.specs.Walks.{cost_ahead}
use Rattle.tuple_file.specs.Tuples.{rows}
use Rattle.cursor.specs.Pairs.{right_side_cost}
use Rattle.cursor.proofs.Partners.{beginning, partners_ahead, skip_cost}
use Rattle.cursor.proofs.Selected.{places_of}
use Rattle.cursor.proofs.Suited.{count_rows}
use Rattle.cursor.proofs.partner.right_side.Goals as goal

pub returns-in_err-begun-in-None-clause-reads_err : goal.returns-in_err-begun-in-None-clause-reads_err
returns-in_err-begun-in-None-clause-reads_err g c =
    let state = g.V.Files.state c.args.files.now in
    let t = c.args.right.now in
    let all = rows state.files t in
    let ks = kinds c.args.indexes.now in
    let r = c.ranges_for-ranges.result in
    let few : c.args.slots ≤ length all = omega (arith, c.requires.may_read.within, count_rows state t) in
    let same : r ≡ ranges_at c.args.partner.now.on c.args.partner.now.value = c.ranges_for-ranges.ensures in
    let cost : begin_cost c.args.slots (plan ks r) ≤ chosen_cost ks r all = beginning ks r all c.args.slots (plan ks r) few in
    let most : g.V.Files.reads c.begin.new.files ≤ g.V.Files.reads c.args.files.now + chosen_cost ks r all = omega (arith, c.in_err-begun-in-None.ensures.reads, cost) in
    let told : g.V.Files.reads c.begin.new.files ≤ g.V.Files.reads c.args.files.now + right_side_cost c.args.indexes.now c.args.partner.now.on c.args.partner.now.value all =
    subst (λ (l : List Range). g.V.Files.reads c.begin.new.files ≤ g.V.Files.reads c.args.files.now + chosen_cost ks l all) same most in
    rw c.in-None.is (search (rules, told))

pub returns-in_ok-begun-in-None-clause-fits : goal.returns-in_ok-begun-in-None-clause-fits
returns-in_ok-begun-in-None-clause-fits g c = λ told indexes inner.
    let state = g.V.Files.state c.args.files.now in
    let t = c.args.right.now in
    let few : c.args.slots ≤ length (rows state.files t) = omega (arith, c.requires.may_read.within, count_rows state t) in
    c.skip.ensures.fits state c.args.tables.now (rows state.files t) (c.in_ok-begun-in-None.ensures.begins told (rows state.files t) few indexes).fits

pub returns-in_ok-begun-in-None-clause-ahead : goal.returns-in_ok-begun-in-None-clause-ahead
returns-in_ok-begun-in-None-clause-ahead g c = λ told indexes inner.
    let state = g.V.Files.state c.args.files.now in
    let t = c.args.right.now in
    let few : c.args.slots ≤ length (rows state.files t) = omega (arith, c.requires.may_read.within, count_rows state t) in
    partners_ahead state t told c.requires.may_read.holds c.args.indexes.now (places_of state c.args.slots c.args.indexes.now c.requires.may_read.readable) c.args.partner.now.value c.args.partner.now.on
    c.in_ok-begun-in-None.begun c.skip.new.self c.ranges_for-ranges.result c.args.from c.args.slots c.ranges_for-ranges.ensures
    (c.in_ok-begun-in-None.ensures.begins told (rows state.files t) few indexes).ahead c.skip.ensures.from c.skip.ensures.slots c.skip.ensures.search

pub returns-in_ok-begun-in-None-clause-reads : goal.returns-in_ok-begun-in-None-clause-reads
returns-in_ok-begun-in-None-clause-reads g c = λ told indexes.
    let state = g.V.Files.state c.args.files.now in
    let t = c.args.right.now in
    let all = rows state.files t in
    let ks = kinds c.args.indexes.now in
    let r = c.ranges_for-ranges.result in
    let few : c.args.slots ≤ length all = omega (arith, c.requires.may_read.within, count_rows state t) in
    let same : r ≡ ranges_at c.args.partner.now.on c.args.partner.now.value = c.ranges_for-ranges.ensures in
    let less : cost_ahead c.skip.new.self all ≤ cost_ahead c.in_ok-begun-in-None.begun all =
    skip_cost c.in_ok-begun-in-None.begun c.skip.new.self c.args.from all c.skip.ensures.from c.skip.ensures.slots c.skip.ensures.search (c.skip.ensures.rests ∙ sym c.in_ok-begun-in-None.ensures.rests) in
    let cost : begin_cost c.args.slots (plan ks r) + cost_ahead c.in_ok-begun-in-None.begun all ≤ chosen_cost ks r all = (c.in_ok-begun-in-None.ensures.begins told all few indexes).cost in
    let most : g.V.Files.reads c.begin.new.files + cost_ahead c.skip.new.self all ≤ g.V.Files.reads c.args.files.now + chosen_cost ks r all = omega (arith, c.in_ok-begun-in-None.ensures.reads, cost, less) in
    let met : g.V.Files.reads c.begin.new.files + cost_ahead c.skip.new.self all ≤ g.V.Files.reads c.args.files.now + right_side_cost c.args.indexes.now c.args.partner.now.on c.args.partner.now.value all =
    subst (λ (l : List Range). g.V.Files.reads c.begin.new.files + cost_ahead c.skip.new.self all ≤ g.V.Files.reads c.args.files.now + chosen_cost ks l all) same most in
    rw c.in-None.is met
