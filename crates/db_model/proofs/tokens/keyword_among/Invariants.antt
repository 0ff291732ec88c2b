-- The keywords passed so far are not the word.
use Rattle.std.proofs.Common.{◌≡◌}
use Rattle.std.specs.Prelude.{drop}
use Rattle.db_model.specs.Keywords.{keyword_among}
use Rattle.db_model.proofs.tokens.keyword_among.Given as goal

abbrev pub invariant-loop-k : goal.invariant-loop-k
invariant-loop-k l = keyword_among l.known l.word ≡ keyword_among (drop l.k-index l.known) l.word
