-- What a cut leaves of files, where calls follow one another.
use Rattle.std.proofs.Common.{ℕ, List}
use Rattle.std.proofs.Math.Logic.{⊎_elim}
use Rattle.afl_base.specs.CutFiles.{MendsToEither, MendsToState}
use Rattle.afl_base.specs.Files.{State, Table}

-- what is so of each such state is so of the one that is mended to
pub mends_as : {mends : List ℕ → Table → Type 0} {store : List ℕ} {P Q : State → Type 0} → MendsToState mends store P → ((s : State) → P s → Q s) → MendsToState mends store Q
mends_as m follows = record { after = m.after; mends_to = m.mends_to; is = follows m.after m.is }

-- the files of a state that is so
pub mends_now : {mends : List ℕ → Table → Type 0} {store : List ℕ} {P : State → Type 0} (s : State) → mends store s.files → P s → MendsToState mends store P
mends_now s m is = record { after = s; mends_to = m; is = is }

-- the files that there were, or those of such a state
pub either_as : {mends : List ℕ → Table → Type 0} {store : List ℕ} {P Q : State → Type 0} (old : State) → MendsToEither mends old.files store P → Q old → ((s : State) → P s → Q s) → MendsToState mends store Q
either_as old m was follows = ⊎_elim (λ before. mends_now old before was) (λ after. mends_as after follows) m
