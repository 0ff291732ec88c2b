use Rattle.index_maxheap.proofs.Good.{good_again, good_inserts, good_later}
use Rattle.index_maxheap.proofs.laws.places_stay_good.Goals as goal

pub returns-clause-inserts : goal.returns-clause-inserts
returns-clause-inserts c = λ old new keys more key from place keeps at. good_inserts old new keys more key from place keeps at

pub returns-clause-again : goal.returns-clause-again
returns-clause-again c = λ first then last a b. good_again first then last a b

pub returns-clause-later : goal.returns-clause-later
returns-clause-later c = λ bytes keys key from to place h at. good_later bytes keys key from to place h at
