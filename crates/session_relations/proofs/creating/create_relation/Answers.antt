use Rattle.std.proofs.Common.{Some, ap, inr, refl}
use Rattle.db_model.specs.declared.commands.Command.TheVariants as command
use Rattle.db_model.specs.Database.{with_relation}
use Rattle.db_model.specs.Step.{create_relation, upgraded}
use Rattle.session_model.specs.View.{view}
use Rattle.session_relations.specs.Changes.{bare_relation}
use Rattle.session_relations.proofs.Carried.{carries_failed, carries_fine, carries_space}
use Rattle.session_relations.proofs.creating.create_relation.Goals as goal
use Rattle.session_model.proofs.Carrying.{carries_refused}

pub returns-in-Err : goal.returns-in-Err
returns-in-Err g c =
    let base = c.args.base.now in
    record {
      carried = carries_refused g.V.Files (command.CreateRelation c.args.name.now) base c.in-Err.refusal c.requires.running
          (λ told. ap upgraded (c.in-Err.ensures.refused (g.V.Files.state base.files).files base.opens));
    }

pub returns-in-Ok-add_relation : goal.returns-in-Ok-add_relation
returns-in-Ok-add_relation g c =
    let base = c.args.base.now in
    let files = (g.V.Files.state base.files).files in
    let old = view files base.held base.opens in
    let name = c.args.name.now in
    record {
      carried = carries_fine g.V.Files (command.CreateRelation name) (create_relation old name) base c.add_relation.new.files c.add_relation.new.held refl refl (λ reads. absurd reads)
          (with_relation old c.in-Ok.slot (Some (bare_relation name))) (c.in-Ok.ensures.made files base.opens) c.in-Ok-add_relation.ensures.made
          (λ told none. absurd (none 16 (inr (inr refl)))) c.add_relation.ensures.frame;
    }

pub returns-in-Err-Space : goal.returns-in-Err-Space
returns-in-Err-Space g c =
    let base = c.args.base.now in
    let files = (g.V.Files.state base.files).files in
    let old = view files base.held base.opens in
    let name = c.args.name.now in
    record {
      carried = carries_space g.V.Files (command.CreateRelation name) (create_relation old name) base c.add_relation.new.files c.add_relation.new.held refl refl (λ reads. absurd reads)
          (with_relation old c.in-Ok.slot (Some (bare_relation name))) c.in-Err-Space.need (c.in-Ok.ensures.made files base.opens)
          (rw c.in-Err-Space.field-0-is at c.in-Err-Space.ensures.kept) (rw c.in-Err-Space.field-0-is at c.in-Err-Space.ensures.wants)
          (rw c.in-Err-Space.field-0-is at c.in-Err-Space.ensures.frame);
    }

pub returns-in-Err-Failed : goal.returns-in-Err-Failed
returns-in-Err-Failed g c =
    let base = c.args.base.now in
    let files = (g.V.Files.state base.files).files in
    let old = view files base.held base.opens in
    let name = c.args.name.now in
    let cut = rw c.in-Err-Failed.field-0-is at c.in-Err-Failed.ensures.cut in
    record {
      carried = carries_failed g.V.Files (command.CreateRelation name) (create_relation old name) base c.add_relation.new.files c.add_relation.new.held refl refl (λ reads. absurd reads)
          (with_relation old c.in-Ok.slot (Some (bare_relation name))) _ (c.in-Ok.ensures.made files base.opens) (λ cuts told sound makes. cut cuts told sound makes refl)
          (rw c.in-Err-Failed.field-0-is at c.in-Err-Failed.ensures.frame);
    }
