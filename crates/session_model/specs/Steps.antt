-- What a session's answer to a command says.
use Rattle.std.specs.Prelude.{◌≡◌, ⊤, ℕ, ◌≤◌, List, ◌++◌, length, Option, Some, None, Result, Ok, Err, IsErrOf, IsOk}
use Rattle.std.specs.Io.KnownBytes.{append_known}
use Rattle.afl_base.specs.Causes.{Rose}
use Rattle.db_model.specs.declared.commands.Command.{Command}
use Rattle.db_model.specs.declared.refusals.Refusal.{Refusal}
use Rattle.db_model.specs.Database.{Database}
use Rattle.db_model.specs.ReplyText.{text}
use Rattle.db_model.specs.Step.{Reply, Fine, Rows, Numbers, Removed, Refused, outcome, replied}
use Rattle.reply_text.specs.WroteLess.{WroteLess}
use Rattle.session_model.specs.declared.answer.Answer.{Answer}
use Rattle.session_model.specs.declared.answer.Answer.TheVariants as answer
use Rattle.session_model.specs.declared.step.Outcome.{Outcome}
use Rattle.session_model.specs.declared.step.Outcome.TheVariants as came_to
use Rattle.session_model.specs.declared.step.Step.{Step}
use Rattle.session_model.specs.declared.step.Step.TheVariants.{Done, NoSpace}
use Rattle.afl_base.specs.declared.fault.Fault.{Fault}
use Rattle.afl_base.specs.declared.fault.Fault.TheVariants.{Flash, Sink}
use Rattle.session_model.specs.Answers.{Changed}

-- ---- changes

-- what a command makes of a database, or its refusal
abbrev pub Made : Type 0
Made = Result (Database × Reply) Refusal

-- by the answer: what the command makes of the database, or its refusal, or there was no space
abbrev pub Answers : Command → Database → Database → Answer → Type 0
Answers command old new a = Changed (outcome old command) old new a

-- a refusal, or none
abbrev pub answer_for : Option Refusal → Answer
answer_for None = answer.Fine
answer_for (Some refusal) = answer.Refused refusal

-- ---- replies

abbrev pub outcome_of : Reply → Outcome
outcome_of Fine = came_to.Fine
outcome_of (Rows rows) = came_to.Rows (length rows)
outcome_of (Numbers numbers) = came_to.Rows 1
outcome_of (Removed k) = came_to.Rows k
outcome_of (Refused refusal) = came_to.Refused

-- the text of a reply was written, and it came to this
abbrev pub WritesReply : Reply → Outcome → Option (List ℕ) → Option (List ℕ) → Type 0
WritesReply reply result before now = (now ≡ append_known before (text reply)) × (outcome_of reply ≡ result)

-- a part of the bytes was written, or all
pub record WrotePart (before now : Option (List ℕ)) (all : List ℕ) : Type 0 where
  pub written : List ℕ
  pub left : List ℕ
  pub whole : all ≡ written ++ left
  pub held : now ≡ append_known before written

-- the reply was written, or what of it was written before a fault
abbrev pub Replies : Reply → Result Outcome Fault → Option (List ℕ) → Option (List ℕ) → Type 0
Replies reply (Ok came) before now = WritesReply reply came before now
Replies reply (Err Sink) before now = WroteLess before now (text reply)
Replies reply (Err Flash) before now = WrotePart before now (text reply)

-- the reply was written and the database is the step's; or there was no space, for a command that is not refused: nothing
-- was written, and the database is as before
abbrev pub Does : Made → Database → Database → Step → Option (List ℕ) → Option (List ℕ) → Type 0
Does made old new (Done result) before now = (new ≡ (replied old made).0) × WritesReply (replied old made).1 result before now
Does made old new (NoSpace need) before now = (new ≡ old) × (now ≡ before) × IsOk made

-- ---- failures

-- P, where the files did not fail
abbrev pub UnlessFlash : {T : Type 0} → Result T Fault → Type 0 → Type 0
UnlessFlash (Ok x) P = P
UnlessFlash (Err Sink) P = P
UnlessFlash (Err Flash) P = ⊤

-- no count falls, and what is said to have failed has counted it
pub record HasFaultCause {T : Type 0} (files files_now replies replies_now : ℕ) (result : Result T Fault) : Type 0 where
  pub files_later : files ≤ files_now
  pub replies_later : replies ≤ replies_now
  pub flash : IsErrOf result Flash → Rose files files_now
  pub sink : IsErrOf result Sink → Rose replies replies_now
