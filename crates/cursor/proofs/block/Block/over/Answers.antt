use Rattle.std.proofs.Common.{◌≡◌, ◌∙◌, List, true, arith, subst, sym}
use Rattle.std.specs.Prelude.{◌==◌, not}
use Rattle.std.specs.List.{list_all}
use Rattle.index_set.specs.declared.info.IndexInfo.{IndexInfo}
use Rattle.cursor.proofs.Scanned.{scan_cost}
use Rattle.cursor.proofs.block.Block.over.Goals as goal

pub returns-then-has_numbers-clause-may_read : goal.returns-then-has_numbers-clause-may_read
returns-then-has_numbers-clause-may_read c = λ yes.
    let k = c.args.cursor.now in
    let none : list_all (λ (info : IndexInfo). not (info.attribute == k.right_on)) k.right_indexes ≡ true =
    subst (λ (infos : List IndexInfo). list_all (λ (info : IndexInfo). not (info.attribute == k.right_on)) infos ≡ true) c.as_slice.ensures.items (sym c.lacks_index-serves.ensures ∙ yes) in
    record {
      numbers = c.has_numbers.ensures c.if-has_numbers.true;
      scans = scan_cost k.right_indexes k.right_on none;
      begun = omega arith;
      inside = omega (arith, c.requires.at);
      within = omega arith;
      few = omega arith;
      from = omega (arith, c.requires.from);
      seen = omega arith;
      anew = λ _. c.requires.from;
      rests = c.requires.rests;
    }
