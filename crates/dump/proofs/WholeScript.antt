-- A script that is written in two parts.
use Rattle.std.proofs.Common.{◌≡◌, sym, ap, subst, ◌∙◌, ℕ, List, flat_map, Option, Ok, Err}
use Rattle.std.specs.Io.KnownBytes.{append_known}
use Rattle.db_model.specs.Database.{Database}
use Rattle.db_model.specs.Sound.{IsSoundDatabase}
use Rattle.reply_text.specs.WroteLess.{WroteLess}
use Rattle.afl_base.specs.declared.fault.Fault.{Fault}
use Rattle.afl_base.specs.declared.fault.Fault.TheVariants.{Sink}
use Rattle.dump.specs.Appends.{AppendsText}
use Rattle.dump.specs.Parts.{index_lines, relation_lines}
use Rattle.dump.proofs.Items.{appends_behind, appends_front}
use Rattle.dump.proofs.ScriptTexts.{script_parts}
use Rattle.dump_model.specs.Script.{script}

-- the relations were not written to their end
pub relations_cut : (stop : Fault) (db : Database) (h0 h1 : Option (List ℕ)) → AppendsText (Err stop) h0 h1 (flat_map relation_lines db.relations) → AppendsText (Err stop) h0 h1 (script db)
relations_cut stop db h0 h1 w =
    subst (AppendsText (Err stop) h0 h1) (sym (script_parts db)) (appends_front stop h0 h1 (flat_map relation_lines db.relations) (flat_map (index_lines db.relations) db.indexes) w)

module _ (db d : Database) (h0 h1 h2 : Option (List ℕ)) where
  -- the relations were written, and then the indexes
  pub script_written : (IsSoundDatabase d → h2 ≡ append_known h1 (flat_map (index_lines d.relations) d.indexes)) → h1 ≡ append_known h0 (flat_map relation_lines db.relations) → d ≡ db → IsSoundDatabase db → h2 ≡ append_known h0 (script db)
  script_written wrote relations same sound =
      let indexes = wrote (subst IsSoundDatabase (sym same) sound) in
      appends_behind (Ok tt) h0 h1 h2 (flat_map relation_lines db.relations) (flat_map (index_lines db.relations) db.indexes) relations
      (subst (λ e. h2 ≡ append_known h1 (flat_map (index_lines e.relations) e.indexes)) same indexes)
      ∙ ap (append_known h0) (sym (script_parts db))

  -- the relations were written, and the indexes not to their end
  pub indexes_cut : (IsSoundDatabase d → WroteLess h1 h2 (flat_map (index_lines d.relations) d.indexes)) → h1 ≡ append_known h0 (flat_map relation_lines db.relations) → d ≡ db → IsSoundDatabase db → WroteLess h0 h2 (script db)
  indexes_cut failed relations same sound =
      let indexes = failed (subst IsSoundDatabase (sym same) sound) in
      subst (WroteLess h0 h2) (sym (script_parts db))
      (appends_behind (Err Sink) h0 h1 h2 (flat_map relation_lines db.relations) (flat_map (index_lines db.relations) db.indexes) relations
      (subst (λ e. WroteLess h1 h2 (flat_map (index_lines e.relations) e.indexes)) same indexes))
