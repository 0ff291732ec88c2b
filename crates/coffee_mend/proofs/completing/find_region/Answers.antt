use Rattle.std.proofs.Common.{ℕ, List, rules}
use Rattle.coffee_mend.specs.Completed.{IsRegion}
use Rattle.coffee_mend.proofs.RegionSearch.{lacks_more}
use Rattle.coffee_mend.proofs.completing.find_region.Goals as goal

pub loop-region-preserved : goal.loop-region-preserved
loop-region-preserved g c = record {
  within = search rules;
  lack = λ told.
      let image : List ℕ = g.F.Flash.image c.args.flash.now in
      let is : IsRegion image c.args.file.now c.loop-region.region c.load_region.new.into = rw c.loop-region.invariant.same at (c.in_ok-load_region.ensures.region told) in
      lacks_more image c.args.torn.now.place c.args.file.now c.loop-region.region c.load_region.new.into c.read_range.new.into (c.in_ok-read_range.ensures.bytes told) (c.loop-region.invariant.lack told) is (c.has_all_bits.ensures.no c.if-has_all_bits.false);
  same = search rules;
  lent = search rules;
  later = search rules;
  faults = search rules;
}
