-- A query and an aggregate leave the database, and what its cursors have ahead.
use Rattle.std.proofs.Common.{◌≡◌, ℕ, ◌+◌, ◌≤◌, List, Result, Ok, Err, refl, ap, sym, subst, ◌∙◌, rules, arith}
use Rattle.std.specs.Prelude.{⊤}
use Rattle.std.specs.Io.KnownBytes.{append_known}
use Rattle.afl_base.specs.Files.{State}
use Rattle.afl_base.specs.declared.files.Files.{Ghosts as FilesOf}
use Rattle.afl_base.specs.declared.stream.Sink.{Ghosts as SinkOf}
use Rattle.afl_base.specs.Keeping.{OnlyReads, Sends}
use Rattle.db_model.specs.declared.commands.Agg.{Agg}
use Rattle.db_model.specs.declared.commands.Command.{Command}
use Rattle.db_model.specs.declared.commands.Command.TheVariants.{Ask, Aggregate}
use Rattle.db_model.specs.declared.commands.Node.{Node}
use Rattle.db_model.specs.declared.commands.Query.{Query}
use Rattle.db_model.specs.declared.refusals.Refusal.{Refusal}
use Rattle.db_model.specs.declared.values.Value.{Value}
use Rattle.db_model.specs.Ahead.{Aheads, aheads_after, cost_of, is_refused}
use Rattle.db_model.specs.Cond.{condition_of}
use Rattle.db_model.specs.Database.{Database, Relation, named}
use Rattle.db_model.specs.ReplyText.{refusal_text}
use Rattle.db_model.specs.Refusing.{◌>>=◌}
use Rattle.db_model.specs.Step.{Refused, Reply, Rows, aggregate_of, answer_of, replied, step}
use Rattle.reply_text.specs.WroteLess.{WroteLess}
use Rattle.session_model.specs.declared.base.Base.{Base}
use Rattle.session_model.specs.declared.step.Outcome.{Outcome}
use Rattle.session_model.specs.declared.step.Outcome.TheVariants as came
use Rattle.afl_base.specs.declared.fault.Fault.{Fault}
use Rattle.afl_base.specs.declared.fault.Fault.TheVariants.{Flash, Sink}
use Rattle.session_model.specs.Aheads.{aheads_of}
use Rattle.session_model.specs.Carried.{AnswersRows, Recites, Runs, Tells, aheads, database}
use Rattle.session_model.specs.Running.{IsRunning}
use Rattle.session_model.specs.Steps.{Replies, UnlessFlash}
use Rattle.session_model.specs.View.{view}
use Rattle.session_queries.proofs.Lines.{refused_done, refused_less}
use Rattle.padded.proofs.Facts.{either_way}

-- what such a command leaves
pub record LeavesAll (c : Command) : Type 0 where
  pub database : (db : Database) → (step db c).0 ≡ db
  pub aheads : (db : Database) (aheads : Aheads) → aheads_after db aheads c ≡ aheads

database_asked : (db : Database) (query : Query) → (step db (Ask query)).0 ≡ db
database_asked db query = by_rows (answer_of db query)
  where
    by_rows : (r : Result (List (List Value)) Refusal) → (replied db (◌>>=◌ r (λ rows. Ok (db, Rows rows)))).0 ≡ db
    by_rows (Ok rows) = refl
    by_rows (Err refusal) = refl

database_aggregated : (db : Database) (list : List (Agg × List ℕ)) (relation : List ℕ) (nodes : List Node) → (step db (Aggregate list relation nodes)).0 ≡ db
database_aggregated db list relation nodes = by_named (named db relation)
  where
    by_reply : (r : Result Reply Refusal) → (replied db (◌>>=◌ r (λ reply. Ok (db, reply)))).0 ≡ db
    by_reply (Ok reply) = refl
    by_reply (Err refusal) = refl

    by_named : (r : Result (ℕ × Relation) Refusal) → (replied db (◌>>=◌ r (λ s. ◌>>=◌ (aggregate_of list (condition_of nodes) s.1) (λ reply. Ok (db, reply))))).0 ≡ db
    by_named (Ok s) = by_reply (aggregate_of list (condition_of nodes) s.1)
    by_named (Err refusal) = refl

pub asked_leaves : (query : Query) → LeavesAll (Ask query)
asked_leaves query = record {
  database = λ db. database_asked db query;
  aheads = λ db aheads. either_way (is_refused ((step db (Ask query)).1)) aheads;
}

pub aggregated_leaves : (list : List (Agg × List ℕ)) (relation : List ℕ) (nodes : List Node) → LeavesAll (Aggregate list relation nodes)
aggregated_leaves list relation nodes = record {
  database = λ db. database_aggregated db list relation nodes;
  aheads = λ db aheads. either_way (is_refused ((step db (Aggregate list relation nodes)).1)) aheads;
}

unless : {T : Type 0} (r : Result T Fault) (P : Type 0) → P → UnlessFlash r P
unless (Ok x) P h = h
unless (Err Sink) P h = h
unless (Err Flash) P h = tt

-- it was answered, by files that stay as they are
pub answers_rows : {V K : Type 0} (v : FilesOf V) (k : SinkOf K) (c : Command) → LeavesAll c → (old : Base V) (files : V) (before now : K) (result : Result Outcome Fault) → Runs v old
    → (Tells v old → Replies ((step (database v old) c).1) result (k.held before) (k.held now))
    → (Tells v old → v.reads files ≤ v.reads old.files + cost_of (database v old) (aheads v old) c)
    → Recites v k old.files files before now result
    → AnswersRows v k c old (record { files = files; tables = old.tables; held = old.held; opens = old.opens }) before now result
answers_rows v k c leaves old files before now result runs reply reads frame = record {
  reply = reply;
  seen = λ told. unless result _ (ap (λ (s : State). view s.files old.held old.opens) frame.same ∙ sym (leaves.database (database v old)));
  running = unless result _ (let P : State → Type 0 = λ s. IsRunning s old.tables old.held old.opens in subst P (sym frame.same) runs);
  ahead = λ told. unless result _ (ap (λ (s : State). aheads_of s.files old.opens) frame.same ∙ sym (leaves.aheads (database v old) (aheads v old)));
  reads = λ told sound. reads told;
  frame = frame;
}

-- ---- the frame, of what was read and what was sent

nothing_read : {V : Type 0} (v : FilesOf V) (files : V) → OnlyReads {T = ⊤} {E = ⊤} v.state v.lent v.reads v.faults files files (Ok tt)
nothing_read v files = record { same = refl; lent = refl; later = omega arith; faultless = refl; cause = record { later = omega arith; failed = tt } }

pub unread_frame : {V K A E : Type 0} (v : FilesOf V) (k : SinkOf K) (old new : V) (out : K) (e : E) → OnlyReads {T = A} {E = E} v.state v.lent v.reads v.faults old new (Err e) → Recites {T = Outcome} v k old new out out (Err Flash)
unread_frame v k old new out e read = record {
  same = read.same;
  lent = read.lent;
  later = read.later;
  sink_lent = refl;
  faultless = tt;
  cause = record { files_later = read.cause.later; replies_later = omega arith; flash = λ _. read.cause.failed; sink = search rules };
}

module _ {V K A E : Type 0} (v : FilesOf V) (k : SinkOf K) (old new : V) (before now : K) (a : A) (read : OnlyReads {T = A} {E = E} v.state v.lent v.reads v.faults old new (Ok a)) where
  pub sent_frame : {S D : Type 0} (s : S) (came : Outcome) → Sends {T = S} {E = D} k.lent k.faults before now (Ok s) → Recites v k old new before now (Ok came)
  sent_frame s came sends = record {
    same = read.same;
    lent = read.lent;
    later = read.later;
    sink_lent = sends.lent;
    faultless = sends.faultless;
    cause = record { files_later = read.cause.later; replies_later = sends.cause.later; flash = search rules; sink = search rules };
  }

  pub unsent_frame : {S D : Type 0} (d : D) → Sends {T = S} {E = D} k.lent k.faults before now (Err d) → Recites {T = Outcome} v k old new before now (Err Sink)
  unsent_frame d sends = record {
    same = read.same;
    lent = read.lent;
    later = read.later;
    sink_lent = sends.lent;
    faultless = tt;
    cause = record { files_later = read.cause.later; replies_later = sends.cause.later; flash = search rules; sink = λ _. sends.cause.failed };
  }

-- ---- refusals

module _ {V K A E : Type 0} (v : FilesOf V) (k : SinkOf K) (c : Command) (leaves : LeavesAll c) (old : Base V) (before now : K) (refusal : Refusal) (runs : Runs v old) (refuses : (step (database v old) c).1 ≡ Refused refusal) where
  pub refusal_written : (a : A) → k.held now ≡ append_known (k.held before) (refusal_text refusal) → Sends {T = A} {E = E} k.lent k.faults before now (Ok a) → AnswersRows v k c old old before now (Ok came.Refused)
  refusal_written a written sends =
      answers_rows v k c leaves old old.files before now (Ok came.Refused) runs (λ told. refused_done _ refusal (k.held before) (k.held now) refuses written) (λ told. omega arith)
      (sent_frame v k old.files old.files before now tt (nothing_read v old.files) a came.Refused sends)

  pub refusal_failed : (e : E) → WroteLess (k.held before) (k.held now) (refusal_text refusal) → Sends {T = A} {E = E} k.lent k.faults before now (Err e) → AnswersRows v k c old old before now (Err Sink)
  refusal_failed e less sends =
      answers_rows v k c leaves old old.files before now (Err Sink) runs (λ told. refused_less _ refusal (k.held before) (k.held now) refuses less) (λ told. omega arith)
      (unsent_frame v k old.files old.files before now tt (nothing_read v old.files) e sends)
