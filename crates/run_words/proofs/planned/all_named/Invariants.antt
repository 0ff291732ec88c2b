use Rattle.std.proofs.Common.{◌≡◌, ◌++◌, drop, length}
use Rattle.std.specs.Prelude.{option_map}
use Rattle.run_words.specs.Words.{all_named}
use Rattle.run_words.proofs.planned.all_named.Given as goal

abbrev pub invariant-loop-word : goal.invariant-loop-word
invariant-loop-word l = record {
  named : option_map (λ others. l.all ++ others) (all_named (drop l.word-index l.words)) ≡ all_named l.words;
  count : length l.all ≡ l.word-index;
}
