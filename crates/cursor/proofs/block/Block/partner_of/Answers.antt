use Rattle.std.proofs.Common.{rules, ◌≡◌, ◌-◌, ◌<◌, ◌∙◌, ℕ, Some, arith, refl, subst, sym, ap}
use Rattle.tuple_file.specs.Tuples.{rows}
use Rattle.cursor.specs.declared.block.Block.{Block}
use Rattle.cursor.specs.Blocks.{number_held}
use Rattle.cursor.proofs.BlockSteps.{finds_none, finds_one, none_behind, passes_one, skips_first, small_slot}
use Rattle.cursor.proofs.block.Block.partner_of.Goals as goal

pub slots-init : goal.slots-init
slots-init g c =
    let k = c.args.cursor.now in
    let b = c.args.self.now in
    let first = c.first_of-slot.ensures in
    record {
      same = refl;
      lent = refl;
      reads_later = omega arith;
      faults = refl;
      kept = refl;
      order = first.order;
      size = λ some. search rules;
      seen = first.seen;
      within = c.requires.block.seen;
      reads = omega (arith, first.order);
      told = λ told met. record {
        met = met;
        none = skips_first b k (rows (g.V.Files.state c.args.files.now).files k.right) c.args.nth c.args.number.now c.requires.held (omega (arith, c.requires.row, c.requires.block.begun, c.requires.inside)) met
            c.first_of-slot.result first.order first.seen c.requires.block.seen first.before;
      };
    }

pub returns-then-is_number-clause-finds : goal.returns-then-is_number-clause-finds
returns-then-is_number-clause-finds g c = λ told met.
    let k = c.args.cursor.now in
    let b = c.args.self.now in
    let inv = c.slots.invariant in
    let all = rows (g.V.Files.state c.args.files.now).files k.right in
    let held : number_held b (k.at - b.begin) ≡ Some c.args.number.now = subst (λ (n : ℕ). number_held b n ≡ Some c.args.number.now) c.requires.row c.requires.held in
    let less : c.slots.slot < k.right_slots = omega (arith, c.slots-test.true, c.end_of-end.ensures.within) in
    let small : c.slots.slot < 32768 = search rules in
    finds_one (number_held b (k.at - b.begin)) c.args.number.now c.new.result c.slots.slot k.right_on all k.from k.right_slots held
    (c.new.ensures ∙ small_slot c.slots.slot small)
    (inv.told told met).none less
    (sym ((rw inv.same at c.in_ok-found.ensures.number) told) ∙ c.is_number.ensures.same c.if-is_number.true)

pub returns-then-is_number-clause-met : goal.returns-then-is_number-clause-met
returns-then-is_number-clause-met g c = λ told met.
    let inv = c.slots.invariant in
    (rw inv.same at c.in_ok-found.ensures.met) told (inv.told told met).met

pub slots-preserved : goal.slots-preserved
slots-preserved g c =
    let k = c.args.cursor.now in
    let inv = c.slots.invariant in
    let h = c.in_ok-found.ensures in
    let less : c.slots.slot < k.right_slots = omega (arith, c.slots-test.true, c.end_of-end.ensures.within) in
    record {
      same = h.frame.same ∙ inv.same;
      lent = h.frame.lent ∙ inv.lent;
      reads_later = omega (arith, inv.reads_later, h.frame.later);
      faults = h.frame.faultless ∙ inv.faults;
      kept = h.kept ∙ ap (λ (x : Block). record x { seen = c.read.new.self.seen; firsts = c.read.new.self.firsts; ends = c.read.new.self.ends }) inv.kept;
      order = omega (arith, inv.order);
      size = λ some. h.size ∙ inv.size some;
      seen = omega (arith, h.seen);
      within = h.within inv.within;
      reads = omega (arith, inv.reads, h.reads);
      told = λ told met.
          let p = inv.told told met in
          passes_one c.args.self.now c.slots.self c.read.new.self k c.args.number.now (rows (g.V.Files.state c.args.files.now).files k.right) c.slots.slot c.in_ok-found.found p less
          ((rw inv.same at h.number) told) (c.is_number.ensures.other c.if-is_number.false) ((rw inv.same at h.met) told p.met);
    }

pub returns-clause-finds : goal.returns-clause-finds
returns-clause-finds g c = λ told met.
    let k = c.args.cursor.now in
    let b = c.args.self.now in
    let inv = c.slots.invariant in
    let all = rows (g.V.Files.state c.args.files.now).files k.right in
    let held : number_held b (k.at - b.begin) ≡ Some c.args.number.now = subst (λ (n : ℕ). number_held b n ≡ Some c.args.number.now) c.requires.row c.requires.held in
    finds_none (number_held b (k.at - b.begin)) c.args.number.now k.right_on all k.from k.right_slots held
    ((inv.told told met).none
    ∙ none_behind b k all c.args.nth c.args.number.now c.requires.held (omega (arith, c.requires.row, c.requires.block.begun, c.requires.inside)) met
    c.end_of-end.result c.slots.slot (omega (arith, c.slots-test.false)) c.end_of-end.ensures.behind)
