-- The entries in front of the one whose reply was not wholly written.
use mathlib.Core.Logic.{inl, inr}
use Rattle.std.specs.Prelude.{◌⊎◌, List, ℕ}
use Rattle.run_model.specs.Line.{Line}
use Rattle.run_model.specs.Runs.{InputUnsaid, Machine, ReplyUnsaid, SpaceUnsaid, World}
use Rattle.run_model.specs.Talk.{Talk}

abbrev pub front_at : {E : Type 0} {m : Machine E} {least : List E → List ℕ} {entries : List E} {old new : World}
    → ReplyUnsaid m entries old new ⊎ SpaceUnsaid m least entries old new → List E
front_at (inl reply) = reply.front
front_at (inr space) = space.front

abbrev pub unsaid_front : {E : Type 0} {line : Line E} {talk : Talk E} {old new : World} → InputUnsaid line talk old new → List E
unsaid_front unsaid = front_at unsaid.stopped
