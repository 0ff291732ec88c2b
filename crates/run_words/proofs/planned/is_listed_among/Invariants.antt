use Rattle.std.proofs.Common.{◌≡◌, drop}
use Rattle.run_words.specs.Words.{is_listed_among}
use Rattle.run_words.proofs.planned.is_listed_among.Given as goal

abbrev pub invariant-loop-named : goal.invariant-loop-named
invariant-loop-named l = is_listed_among l.name (drop l.named-index l.all) ≡ is_listed_among l.name l.all
