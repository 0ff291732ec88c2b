use Rattle.std.proofs.Common.{◌≡◌, ℕ, List, map, None, ap, refl, sym, subst, ◌∙◌}
use Rattle.std.specs.Prelude.{option_map}
use Rattle.std.proofs.Math.Logic.{⊎_elim}
use Rattle.padded.proofs.Facts.{some_same}
use Rattle.db_model.specs.declared.commands.Command.TheVariants as command
use Rattle.db_model.specs.Database.{reader_from, with_relation}
use Rattle.db_model.specs.Step.{remove_relation, upgraded}
use Rattle.session_model.specs.declared.held.Held.{Held}
use Rattle.session_model.specs.Cells.{cell_from}
use Rattle.session_model.specs.View.{cursor_in, view}
use Rattle.tuple_file.specs.declared.tuples.Tuples.{Tuples}
use Rattle.session_relations.proofs.Carried.{carries_failed, carries_fine, carries_space}
use Rattle.session_relations.proofs.Found.{asks_nothing, wants_found, without_catalog}
use Rattle.session_relations.proofs.Gone.{removal_made, removal_missing, removal_refused}
use Rattle.session_relations.proofs.removing.remove_relation.Goals as goal
use Rattle.session_model.proofs.Cells.{cell_named}
use Rattle.session_model.proofs.Carrying.{carries_refused}

pub returns-in-None : goal.returns-in-None
returns-in-None g c =
    let base = c.args.base.now in
    let s0 = g.V.Files.state base.files in
    let name = c.args.relation.now in
    record {
      carried = carries_refused g.V.Files (command.RemoveRelation name) base _ c.requires.running
          (λ told. ap upgraded (removal_missing s0.files base.held base.opens name
          (⊎_elim (λ none. without_catalog s0 base.tables base.held base.opens name c.requires.running told none) (λ missing. missing) c.in-None.ensures.none)));
    }

pub returns-in-Some-refusal_of : goal.returns-in-Some-refusal_of
returns-in-Some-refusal_of g c =
    let base = c.args.base.now in
    let files = (g.V.Files.state base.files).files in
    let name = c.args.relation.now in
    let found = c.in-Some.ensures.there in
    record {
      carried = carries_refused g.V.Files (command.RemoveRelation name) base c.in-Some-refusal_of.refusal c.requires.running
          (λ told. ap upgraded (removal_refused files base.held base.opens name c.in-Some.at.slot found.0 c.in-Some-refusal_of.refusal found.2 (c.in-Some-refusal_of.ensures.refused files)));
    }

pub take_relation-requires-clause-unread : goal.take_relation-requires-clause-unread
take_relation-requires-clause-unread g c =
    let base = c.args.base.now in
    let found = c.in-Some.ensures.there in
    let named = cell_named c.args.relation.now 0 base.held.relations c.in-Some.at.slot found.0 found.2 in
    λ t there files.
    let same : t.schema.name ≡ c.args.relation.now = ap (λ (z : Tuples). z.schema.name) (some_same t found.0 (sym there ∙ found.1)) ∙ named in
    subst (λ (n : List ℕ). reader_from n 1 (map (option_map (cursor_in files)) base.opens) ≡ None) (sym same) (c.in_default.ensures.unread files)

pub returns-in-Ok : goal.returns-in-Ok
returns-in-Ok g c =
    let base = c.args.base.now in
    let files = (g.V.Files.state base.files).files in
    let old = view files base.held base.opens in
    let name = c.args.relation.now in
    let found = c.in-Some.ensures.there in
    record {
      carried = carries_fine g.V.Files (command.RemoveRelation name) (remove_relation old name) base c.take_relation.new.files c.take_relation.new.held refl refl (λ reads. absurd reads)
          (with_relation old c.in-Some.at.slot None) (removal_made files base.held base.opens name c.in-Some.at.slot found.0 found.2 (c.in_default.ensures.free files))
          c.in-Ok.ensures.made
          (λ told none. c.in-Ok.ensures.spares told
          (asks_nothing (g.V.Files.state base.files) base.tables base.held base.opens (g.V.Files.asks base.files) name c.in-Some.at.cat c.in-Some.at.slot found.0
          c.requires.running c.in-Some.ensures.cat found.2 none))
          c.take_relation.ensures.frame;
    }

pub returns-in-Err-Space : goal.returns-in-Err-Space
returns-in-Err-Space g c =
    let base = c.args.base.now in
    let files = (g.V.Files.state base.files).files in
    let old = view files base.held base.opens in
    let now = c.take_relation.new in
    let name = c.args.relation.now in
    let found = c.in-Some.ensures.there in
    let kept = rw c.in-Err-Space.field-0-is at c.in-Err-Space.ensures.kept in
    let same = rw c.in-Err-Space.field-0-is at c.in-Err-Space.ensures.held in
    let asked = rw c.in-Err-Space.field-0-is at c.in-Err-Space.ensures.asked in
    let has = ap (λ (h : Held). h.cat) same ∙ c.in-Some.ensures.cat in
    let cell = ap (λ (h : Held). cell_from name 0 h.relations) same ∙ found.2 in
    record {
      carried = carries_space g.V.Files (command.RemoveRelation name) (remove_relation old name) base now.files now.held refl refl (λ reads. absurd reads)
          (with_relation old c.in-Some.at.slot None) c.in-Err-Space.need
          (removal_made files base.held base.opens name c.in-Some.at.slot found.0 found.2 (c.in_default.ensures.free files)) kept
          (λ told. wants_found (g.V.Files.state now.files) base.tables now.held base.opens (g.V.Files.asks now.files) name c.in-Some.at.cat c.in-Some.at.slot found.0
          kept.running has cell c.in-Err-Space.need asked)
          (rw c.in-Err-Space.field-0-is at c.in-Err-Space.ensures.frame);
    }

pub returns-in-Err-Failed : goal.returns-in-Err-Failed
returns-in-Err-Failed g c =
    let base = c.args.base.now in
    let files = (g.V.Files.state base.files).files in
    let old = view files base.held base.opens in
    let name = c.args.relation.now in
    let found = c.in-Some.ensures.there in
    let cut = rw c.in-Err-Failed.field-0-is at c.in-Err-Failed.ensures.cut in
    record {
      carried = carries_failed g.V.Files (command.RemoveRelation name) (remove_relation old name) base c.take_relation.new.files c.take_relation.new.held refl refl (λ reads. absurd reads)
          (with_relation old c.in-Some.at.slot None) _ (removal_made files base.held base.opens name c.in-Some.at.slot found.0 found.2 (c.in_default.ensures.free files)) (λ cuts told sound makes. cut cuts told sound (makes tt) refl)
          (rw c.in-Err-Failed.field-0-is at c.in-Err-Failed.ensures.frame);
    }
