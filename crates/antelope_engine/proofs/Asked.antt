-- What is so unless a file failed, and of a reply that broke off.
use Rattle.std.proofs.Common.{◌≡◌, true, false, ℕ, List, Option, Err, refl, ◌∙◌, rules}
use Rattle.std.specs.Prelude.{IsErrOf}
use Rattle.db_model.specs.ReplyText.{text}
use Rattle.reply_text.specs.WroteLess.{WroteLess}
use Rattle.session_model.specs.declared.step.Outcome.{Outcome}
use Rattle.db_model.specs.Refusing.{◌>>=◌}
use Rattle.db_model.specs.Step.{Reply}
use Rattle.afl_base.specs.declared.fault.Fault.{Fault}
use Rattle.afl_base.specs.declared.fault.Fault.TheVariants.{Flash, Sink}
use Rattle.session_model.specs.Steps.{Replies, UnlessFlash, WrotePart}
use Rattle.antelope_engine.specs.Seen.{is_flash}

pub unless_err : (S T : Type 0) (stop : Fault) (P : Type 0) → UnlessFlash {T = S} (Err stop) P → UnlessFlash {T = T} (Err stop) P
unless_err S T Sink P h = h
unless_err S T Flash P h = tt

pub at_sink : (T : Type 0) (stop : Fault) (P : Type 0) → IsErrOf {T = T} (Err stop) Sink → UnlessFlash {T = T} (Err stop) P → P
at_sink T Sink P is h = h
at_sink T Flash P is h = absurd (search (rules, is))

-- what is so unless a file failed
pub kept_stop : (T : Type 0) (stop : Fault) (P : Type 0) → is_flash stop ≡ false → UnlessFlash {T = T} (Err stop) P → P
kept_stop T Sink P is h = h
kept_stop T Flash P is h = absurd (cc)

pub sink_stop : (T : Type 0) (stop : Fault) → is_flash stop ≡ false → IsErrOf {T = T} (Err stop) Sink
sink_stop T Sink is = refl
sink_stop T Flash is = absurd (cc)

-- a file failed
pub flash_stop : (T : Type 0) (stop : Fault) → is_flash stop ≡ true → IsErrOf {T = T} (Err stop) Flash
flash_stop T Flash is = refl
flash_stop T Sink is = absurd (cc)

pub unless_any : (T : Type 0) (stop : Fault) (P : Type 0) → P → UnlessFlash {T = T} (Err stop) P
unless_any T Sink P p = p
unless_any T Flash P p = tt

-- of a reply that broke off
pub replied_sink : (reply : Reply) (stop : Fault) (before now : Option (List ℕ)) → IsErrOf {T = Outcome} (Err stop) Sink → Replies reply (Err stop) before now → WroteLess before now (text reply)
replied_sink reply Sink before now is r = r
replied_sink reply Flash before now is r = absurd (search (rules, is))

pub replied_flash : (reply : Reply) (stop : Fault) (before now : Option (List ℕ)) → IsErrOf {T = Outcome} (Err stop) Flash → Replies reply (Err stop) before now → WrotePart before now (text reply)
replied_flash reply Flash before now is r = r
replied_flash reply Sink before now is r = absurd (search (rules, is))
