use Rattle.std.proofs.Common.{[], Some, ap, refl, ◌∙◌}
use Rattle.std.proofs.Math.Logic.{⊎_elim}
use Rattle.db_model.specs.declared.commands.Command.TheVariants as command
use Rattle.db_model.specs.Database.{Relation, with_relation}
use Rattle.db_model.specs.Step.{add_attribute, changed_by, upgraded}
use Rattle.session_model.specs.declared.held.Held.{Held}
use Rattle.session_model.specs.Cells.{cell_from}
use Rattle.session_model.specs.View.{view}
use Rattle.session_model.proofs.Running.{relation_there}
use Rattle.session_relations.proofs.Answered.{changed_made, changed_missing, changed_refused}
use Rattle.session_relations.proofs.Carried.{carries_failed, carries_fine, carries_space}
use Rattle.session_relations.proofs.Found.{asks_nothing, wants_found, without_catalog}
use Rattle.session_relations.proofs.growing.create_attribute.Goals as goal
use Rattle.session_model.proofs.Carrying.{carries_refused}

pub returns-in-None : goal.returns-in-None
returns-in-None g c =
    let base = c.args.base.now in
    let s0 = g.V.Files.state base.files in
    let relation = c.args.relation.now in
    record {
      carried = carries_refused g.V.Files (command.CreateAttribute c.args.name.now c.args.domain.now relation) base _ c.requires.running
          (λ told. ap upgraded (changed_missing s0.files base.held base.opens relation (add_attribute c.args.name.now c.args.domain.now)
          (⊎_elim (λ none. without_catalog s0 base.tables base.held base.opens relation c.requires.running told none) (λ missing. missing) c.in-None.ensures.none)));
    }

pub grown_at-requires-clause-holds : goal.grown_at-requires-clause-holds
grown_at-requires-clause-holds g c = λ t there.
    let base = c.args.base.now in
    (relation_there (g.V.Files.state base.files) base.tables base.held base.opens c.requires.running c.in-Some.at.slot t there).holds

pub returns-in-Err : goal.returns-in-Err
returns-in-Err g c =
    let base = c.args.base.now in
    let files = (g.V.Files.state base.files).files in
    let relation = c.args.relation.now in
    let found = c.in-Some.ensures.there in
    record {
      carried = carries_refused g.V.Files (command.CreateAttribute c.args.name.now c.args.domain.now relation) base c.in-Err.refusal c.requires.running
          (λ told. ap upgraded (changed_refused files base.held base.opens relation (add_attribute c.args.name.now c.args.domain.now) c.in-Some.at.slot found.0 c.in-Err.refusal found.2
          (c.in-Err.ensures.refused (view files base.held base.opens) found.0 found.1)));
    }

pub returns-in-Ok-grow_relation : goal.returns-in-Ok-grow_relation
returns-in-Ok-grow_relation g c =
    let base = c.args.base.now in
    let files = (g.V.Files.state base.files).files in
    let old = view files base.held base.opens in
    let relation = c.args.relation.now in
    let found = c.in-Some.ensures.there in
    let change = add_attribute c.args.name.now c.args.domain.now in
    let grown : Relation = record { schema = c.in-Ok.grown.schema; rows = [] } in
    record {
      carried = carries_fine g.V.Files (command.CreateAttribute c.args.name.now c.args.domain.now relation) (changed_by change old relation) base c.grow_relation.new.files c.grow_relation.new.held refl refl
          (λ reads. absurd reads) (with_relation old c.in-Some.at.slot (Some grown))
          (changed_made files base.held base.opens relation change c.in-Some.at.slot found.0 grown found.2 (c.in-Ok.ensures.made old found.0 found.1))
          c.in-Ok-grow_relation.ensures.made
          (λ told none. c.in-Ok-grow_relation.ensures.spares told
          (asks_nothing (g.V.Files.state base.files) base.tables base.held base.opens (g.V.Files.asks base.files) relation c.in-Some.at.cat c.in-Some.at.slot found.0
          c.requires.running c.in-Some.ensures.cat found.2 none))
          c.grow_relation.ensures.frame;
    }

pub returns-in-Err-Space : goal.returns-in-Err-Space
returns-in-Err-Space g c =
    let base = c.args.base.now in
    let files = (g.V.Files.state base.files).files in
    let old = view files base.held base.opens in
    let now = c.grow_relation.new in
    let relation = c.args.relation.now in
    let found = c.in-Some.ensures.there in
    let change = add_attribute c.args.name.now c.args.domain.now in
    let grown : Relation = record { schema = c.in-Ok.grown.schema; rows = [] } in
    let kept = rw c.in-Err-Space.field-0-is at c.in-Err-Space.ensures.kept in
    let same = rw c.in-Err-Space.field-0-is at c.in-Err-Space.ensures.held in
    let asked = rw c.in-Err-Space.field-0-is at c.in-Err-Space.ensures.asked in
    let has = ap (λ (h : Held). h.cat) same ∙ c.in-Some.ensures.cat in
    let cell = ap (λ (h : Held). cell_from relation 0 h.relations) same ∙ found.2 in
    record {
      carried = carries_space g.V.Files (command.CreateAttribute c.args.name.now c.args.domain.now relation) (changed_by change old relation) base now.files now.held refl refl
          (λ reads. absurd reads) (with_relation old c.in-Some.at.slot (Some grown)) c.in-Err-Space.need
          (changed_made files base.held base.opens relation change c.in-Some.at.slot found.0 grown found.2 (c.in-Ok.ensures.made old found.0 found.1)) kept
          (λ told. wants_found (g.V.Files.state now.files) base.tables now.held base.opens (g.V.Files.asks now.files) relation c.in-Some.at.cat c.in-Some.at.slot found.0
          kept.running has cell c.in-Err-Space.need asked)
          (rw c.in-Err-Space.field-0-is at c.in-Err-Space.ensures.frame);
    }

pub returns-in-Err-Failed : goal.returns-in-Err-Failed
returns-in-Err-Failed g c =
    let base = c.args.base.now in
    let files = (g.V.Files.state base.files).files in
    let old = view files base.held base.opens in
    let relation = c.args.relation.now in
    let found = c.in-Some.ensures.there in
    let change = add_attribute c.args.name.now c.args.domain.now in
    let grown : Relation = record { schema = c.in-Ok.grown.schema; rows = [] } in
    let cut = rw c.in-Err-Failed.field-0-is at c.in-Err-Failed.ensures.cut in
    record {
      carried = carries_failed g.V.Files (command.CreateAttribute c.args.name.now c.args.domain.now relation) (changed_by change old relation) base c.grow_relation.new.files c.grow_relation.new.held refl refl
          (λ reads. absurd reads) (with_relation old c.in-Some.at.slot (Some grown)) _
          (changed_made files base.held base.opens relation change c.in-Some.at.slot found.0 grown found.2 (c.in-Ok.ensures.made old found.0 found.1)) (λ cuts told sound makes. cut cuts told sound (makes c.in-Ok.ensures.named) refl)
          (rw c.in-Err-Failed.field-0-is at c.in-Err-Failed.ensures.frame);
    }
