-- What a call keeps of a flash that it reads, and of the sink that it writes to.
use Rattle.std.specs.Prelude.{◌≡◌, ◌≤◌, OnOk, Result}
use Rattle.afl_base.specs.declared.fault.Fault.{Fault}
use Rattle.afl_base.specs.declared.flash.Flash.{Ghosts as FlashOf}
use Rattle.afl_base.specs.declared.stream.Sink.{Ghosts as SinkOf}
use Rattle.session_model.specs.Steps.{HasFaultCause}

-- the image stays, and both hold on to what they borrow
pub record OnlyLooks {F K T : Type 0} (f : FlashOf F) (k : SinkOf K) (old new : F) (before now : K) (result : Result T Fault) : Type 0 where
  pub same : f.image new ≡ f.image old
  pub lent : f.lent new ≡ f.lent old
  pub later : f.reads old ≤ f.reads new
  pub sink_lent : k.lent now ≡ k.lent before
  pub faultless : OnOk result (k.faults now ≡ k.faults before)
  pub cause : HasFaultCause (f.faults old) (f.faults new) (k.faults before) (k.faults now) result
