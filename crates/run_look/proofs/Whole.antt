-- The lines of a database that are written in two parts.
use Rattle.std.proofs.Common.{◌≡◌, sym, subst, ℕ, List, Option, Ok, Err}
use Rattle.std.specs.Io.KnownBytes.{append_known}
use Rattle.afl_base.specs.declared.fault.Fault.{Fault}
use Rattle.afl_base.specs.declared.fault.Fault.TheVariants.{Sink}
use Rattle.db_model.specs.Database.{Database}
use Rattle.db_model.specs.Sound.{IsSoundDatabase}
use Rattle.dump.specs.Appends.{AppendsText}
use Rattle.dump.proofs.Items.{appends_behind, appends_front}
use Rattle.run_look.specs.Text.{database_lines, index_texts, relation_texts}
use Rattle.reply_text.specs.WroteLess.{WroteLess}

-- the relations were not written to their end
pub relations_cut : (stop : Fault) (db : Database) (h0 h1 : Option (List ℕ)) → AppendsText (Err stop) h0 h1 (relation_texts db) → AppendsText (Err stop) h0 h1 (database_lines db)
relations_cut stop db h0 h1 w = appends_front stop h0 h1 (relation_texts db) (index_texts db) w

module _ (db d : Database) (h0 h1 h2 : Option (List ℕ)) (relations : h1 ≡ append_known h0 (relation_texts db)) (same : d ≡ db) (sound : IsSoundDatabase db) where
  -- the relations were written, and then the indexes
  pub all_written : (IsSoundDatabase d → h2 ≡ append_known h1 (index_texts d)) → h2 ≡ append_known h0 (database_lines db)
  all_written wrote =
      appends_behind (Ok tt) h0 h1 h2 (relation_texts db) (index_texts db) relations
      (subst (λ (e : Database). h2 ≡ append_known h1 (index_texts e)) same (wrote (subst IsSoundDatabase (sym same) sound)))

  -- the relations were written, and the indexes not to their end
  pub indexes_cut : (IsSoundDatabase d → WroteLess h1 h2 (index_texts d)) → WroteLess h0 h2 (database_lines db)
  indexes_cut failed =
      appends_behind (Err Sink) h0 h1 h2 (relation_texts db) (index_texts db) relations
      (subst (λ (e : Database). WroteLess h1 h2 (index_texts e)) same (failed (subst IsSoundDatabase (sym same) sound)))
