use Rattle.std.proofs.Common.{◌≡◌, length, take}
use Rattle.stored_survey.proofs.grown.with_more.Given as goal

abbrev pub invariant-loop-attribute : goal.invariant-loop-attribute
invariant-loop-attribute l = record {
  taken : l.all ≡ take l.attribute-index l.attributes;
  long : length l.all ≡ l.attribute-index;
}
