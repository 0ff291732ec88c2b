-- What is left of a line at its end.
use Rattle.std.proofs.Common.{◌≡◌, refl, ℕ, true, false, List, [], ◌∷◌, length}
use Rattle.std.specs.Prelude.{nat_lt}
use Rattle.run_input.specs.declared.ending.Ending.TheVariants.{Sink, Flash}
use Rattle.run_frames.specs.Frames.{Unfinished, unended_frame}

pub true_false : true ≡ false → ⊥
true_false e = cc

pub sink_flash : Sink ≡ Flash → ⊥
sink_flash e = cc

pub begun_unended : (part : List ℕ) → true ≡ nat_lt 0 (length part) → unended_frame part ≡ Unfinished ∷ []
begun_unended [] e = absurd (true_false e)
begun_unended (b ∷ bytes) e = refl
