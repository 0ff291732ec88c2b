-- What follows once a session is closed and its flash handed back: of `look` the line of the flash, and else nothing.
use Rattle.std.specs.Prelude.{◌≡◌, ◌≤◌, ◌⊎◌, ⊤, ℕ, Bool, true, false, List, Option, Result, Ok, Err}
use Rattle.afl_base.specs.declared.flash.Flash.{Ghosts as FlashOf}
use Rattle.afl_base.specs.declared.stream.Sink.{Ghosts as SinkOf}
use Rattle.afl_base.specs.Causes.{Rose}
use Rattle.run_input.specs.declared.ending.Ending.TheVariants.{Flash, Sink}
use Rattle.run_input.specs.declared.ending.InputEnding.{InputEnding}
use Rattle.run_input.specs.declared.ending.InputEnding.TheVariants.{Input, Early}
use Rattle.run_words.specs.declared.words.Form.{Form}
use Rattle.run_words.specs.declared.words.Form.TheVariants.{Look}
use Rattle.antelope_run.specs.Does.{Wrote}

abbrev pub is_look : Form → Bool
is_look Look = true
is_look _ = false

-- a line was written where all was written before
abbrev pub WritesBehind : List ℕ → (done result : Result ⊤ InputEnding) → (held held_now : Option (List ℕ)) → Type 0
WritesBehind line (Ok done) result held held_now = Wrote held held_now line result
WritesBehind line (Err ending) result held held_now = (result ≡ Err ending) × (held_now ≡ held)

-- the image stays, flash and sink hold on to what they borrow, and what is said to have failed had failed before or has counted
-- it
pub record Follows {F K : Type 0} (f : FlashOf F) (k : SinkOf K) (old new : F) (before now : K) (done result : Result ⊤ InputEnding) : Type 0 where
  pub same : f.image new ≡ f.image old
  pub lent : f.lent new ≡ f.lent old
  pub sink_lent : k.lent now ≡ k.lent before
  pub later : f.faults old ≤ f.faults new
  pub sink_later : k.faults before ≤ k.faults now
  pub input : result ≡ Err Input → done ≡ Err Input
  pub flash : result ≡ Err (Early Flash) → (done ≡ Err (Early Flash)) ⊎ Rose (f.faults old) (f.faults new)
  pub sink : result ≡ Err (Early Sink) → (done ≡ Err (Early Sink)) ⊎ Rose (k.faults before) (k.faults now)
