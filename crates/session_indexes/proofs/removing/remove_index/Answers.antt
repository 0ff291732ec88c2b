use Rattle.std.proofs.Common.{rules, ◌≡◌, ℕ, ap, refl, sym, subst, Ok, Bool, true, false, if◌then◌else◌, ◌∙◌}
use Rattle.db_model.specs.Step.{Fine, outcome, upgraded}
use Rattle.db_model.specs.declared.commands.Command.TheVariants as command
use Rattle.db_model.specs.declared.refusals.Refusal.TheVariants as no
use Rattle.db_model.specs.Ahead.{Aheads}
use Rattle.session_model.specs.declared.held.Held.{Held}
use Rattle.session_model.specs.Running.{IsRunning}
use Rattle.session_model.specs.View.{view}
use Rattle.session_model.specs.Wanted.{WantsFew}
use Rattle.session_model.proofs.Carrying.{carries_refused}
use Rattle.session_model.proofs.Catalogs.{catalog_there}
use Rattle.session_indexes.proofs.Created.{no_catalog}
use Rattle.session_indexes.proofs.Gone.{asks_nothing, file_there, gone_aheads, gone_done, gone_running, may_go, room_made, room_wants, same_aheads, same_view, taken_in_part}
use Rattle.session_indexes.proofs.Refused.{no_relation_of}
use Rattle.session_indexes.proofs.removing.remove_index.Goals as goal

-- a change moves no cursor, refused or not
stays : (refused : Bool) (a : Aheads) → a ≡ (if refused then a else a)
stays true a = refl
stays false a = refl

pub returns-in_default : goal.returns-in_default
returns-in_default g c = record {
  carried = carries_refused g.V.Files (command.RemoveIndex c.args.relation.now c.args.attribute.now) c.args.base.now no.NoRelation c.requires.running
      (λ told. ap upgraded (no_relation_of (g.V.Files.state c.args.base.now.files).files c.args.base.now.held c.args.base.now.opens c.args.relation.now c.args.attribute.now c.in_default.ensures.none));
}

pub returns-in-Err : goal.returns-in-Err
returns-in-Err g c = record {
  carried = carries_refused g.V.Files (command.RemoveIndex c.args.relation.now c.args.attribute.now) c.args.base.now c.in-Err.refusal c.requires.running
      (λ told. ap upgraded (c.in-Err.ensures.refused (g.V.Files.state c.args.base.now.files).files c.in-Some.ensures.cell));
}

pub returns-in_default-cat : goal.returns-in_default-cat
returns-in_default-cat g c = record {
  carried = carries_refused g.V.Files (command.RemoveIndex c.args.relation.now c.args.attribute.now) c.args.base.now no.NoRelation c.requires.running
      (λ told. absurd (no_catalog (g.V.Files.state c.args.base.now.files) c.args.base.now.tables c.args.base.now.held c.args.base.now.opens c.requires.running told c.in_default-cat.is c.in-Some.found.0 c.in-Some.found.1.now c.in-Some.ensures.there));
}

pub take_index-requires-clause-catalog : goal.take_index-requires-clause-catalog
take_index-requires-clause-catalog g c =
    catalog_there (g.V.Files.state c.args.base.now.files) c.args.base.now.tables c.args.base.now.held c.args.base.now.opens c.in-Some-cat.cat c.requires.running c.in-Some-cat.is

pub take_index-requires-clause-file : goal.take_index-requires-clause-file
take_index-requires-clause-file g c =
    let s0 = g.V.Files.state c.args.base.now.files in
    file_there s0 c.args.base.now.tables c.args.base.now.held c.args.base.now.opens c.requires.running c.in-Some-cat.cat c.in-Some-cat.is c.args.relation.now c.args.attribute.now
    c.in-Some.found.0 c.in-Some.found.1.now c.in-Some.ensures.cell c.in-Some.ensures.there c.in-Ok.standing c.in-Ok.ensures.stands

pub returns-in-Ok-take_index : goal.returns-in-Ok-take_index
returns-in-Ok-take_index g c = record {
  carried = record {
    done = λ told. (
        let s0 = g.V.Files.state c.args.base.now.files in
        let s1 = g.V.Files.state c.take_index.new.files in
        let P : Held → Type 0 = λ now. outcome (view s0.files c.args.base.now.held c.args.base.now.opens) (command.RemoveIndex c.args.relation.now c.args.attribute.now)
        ≡ Ok (view s1.files now c.args.base.now.opens, Fine) in
        subst P (sym c.hold.ensures)
        (gone_done s0 c.args.base.now.tables c.args.base.now.held c.args.base.now.opens c.requires.running c.in-Some-cat.cat c.in-Some-cat.is c.args.relation.now c.args.attribute.now
        c.in-Some.found.0 c.in-Some.found.1.now c.in-Some.ensures.cell c.in-Some.ensures.there c.in-Ok.standing c.in-Ok.ensures.stands s1 c.in-Ok-take_index.ensures.taken told)
        );
    running = (
        let s0 = g.V.Files.state c.args.base.now.files in
        let s1 = g.V.Files.state c.take_index.new.files in
        let P : Held → Type 0 = λ now. IsRunning s1 c.args.base.now.tables now c.args.base.now.opens in
        subst P (sym c.hold.ensures)
        (gone_running s0 c.args.base.now.tables c.args.base.now.held c.args.base.now.opens c.requires.running c.in-Some-cat.cat c.in-Some-cat.is c.args.relation.now c.args.attribute.now
        c.in-Some.found.0 c.in-Some.found.1.now c.in-Some.ensures.cell c.in-Some.ensures.there c.in-Ok.standing c.in-Ok.ensures.stands s1 c.in-Ok-take_index.ensures.taken)
        );
    ahead = λ told. (
        let s0 = g.V.Files.state c.args.base.now.files in
        let s1 = g.V.Files.state c.take_index.new.files in
        gone_aheads s0 c.args.base.now.tables c.args.base.now.held c.args.base.now.opens c.requires.running c.in-Some-cat.cat c.in-Some-cat.is c.args.relation.now c.args.attribute.now
        c.in-Some.found.0 c.in-Some.found.1.now c.in-Some.ensures.cell c.in-Some.ensures.there c.in-Ok.standing c.in-Ok.ensures.stands s1 c.in-Ok-take_index.ensures.taken told
        ) ∙ stays _ _;
    tells = search rules;
    wants = search rules;
    lacks = search rules;
    spares = λ told none. (
        let s0 = g.V.Files.state c.args.base.now.files in
        c.in-Ok-take_index.ensures.spares told
        (asks_nothing s0 c.args.base.now.tables c.args.base.now.held c.args.base.now.opens c.requires.running c.in-Some-cat.cat c.in-Some-cat.is c.args.relation.now c.args.attribute.now
        c.in-Some.found.0 c.in-Some.found.1.now c.in-Some.ensures.cell c.in-Some.ensures.there c.in-Ok.standing c.in-Ok.ensures.stands (g.V.Files.asks c.args.base.now.files) none)
        );
    cut = search rules;
    untouched = search rules;
    same = search rules;
    reads = search rules;
    frame = search rules;
  };
}

pub returns-in-Err-Space : goal.returns-in-Err-Space
returns-in-Err-Space g c = record {
  carried = record {
    done = λ told. (
        let s0 = g.V.Files.state c.args.base.now.files in
        let s1 = g.V.Files.state c.take_index.new.files in
        let kept = rw c.in-Err-Space.field-0-is at c.in-Err-Space.ensures.space in (
          may_go s0 c.args.base.now.tables c.args.base.now.held c.args.base.now.opens c.requires.running c.in-Some-cat.cat c.in-Some-cat.is c.args.relation.now c.args.attribute.now
              c.in-Some.found.0 c.in-Some.found.1.now c.in-Some.ensures.cell c.in-Some.ensures.there c.in-Ok.standing c.in-Ok.ensures.stands,
          same_view s0 c.args.base.now.tables c.args.base.now.held c.args.base.now.opens c.requires.running c.in-Some-cat.cat c.in-Some-cat.is c.args.relation.now c.args.attribute.now
              c.in-Some.found.0 c.in-Some.found.1.now c.in-Some.ensures.cell c.in-Some.ensures.there c.in-Ok.standing c.in-Ok.ensures.stands s1 kept told,
        )
        );
    running = (
        let s0 = g.V.Files.state c.args.base.now.files in
        let s1 = g.V.Files.state c.take_index.new.files in
        let kept = rw c.in-Err-Space.field-0-is at c.in-Err-Space.ensures.space in
        room_made s0 c.args.base.now.tables c.args.base.now.held c.args.base.now.opens c.requires.running c.in-Some-cat.cat c.in-Some-cat.is c.args.relation.now c.args.attribute.now
        c.in-Some.found.0 c.in-Some.found.1.now c.in-Some.ensures.cell c.in-Some.ensures.there c.in-Ok.standing c.in-Ok.ensures.stands s1 kept
        );
    ahead = λ told. (
        let s0 = g.V.Files.state c.args.base.now.files in
        let s1 = g.V.Files.state c.take_index.new.files in
        let kept = rw c.in-Err-Space.field-0-is at c.in-Err-Space.ensures.space in
        same_aheads s0 c.args.base.now.tables c.args.base.now.held c.args.base.now.opens c.requires.running c.in-Some-cat.cat c.in-Some-cat.is c.args.relation.now c.args.attribute.now
        c.in-Some.found.0 c.in-Some.found.1.now c.in-Some.ensures.cell c.in-Some.ensures.there c.in-Ok.standing c.in-Ok.ensures.stands s1 kept told
        ) ∙ stays _ _;
    tells = search rules;
    wants = λ told. (
        let s0 = g.V.Files.state c.args.base.now.files in
        let s1 = g.V.Files.state c.take_index.new.files in
        let kept = rw c.in-Err-Space.field-0-is at c.in-Err-Space.ensures.space in
        let asked = rw c.in-Err-Space.field-0-is at c.in-Err-Space.ensures.asked in
        let P : ℕ → Type 0 = λ n. WantsFew (g.V.Files.asks c.take_index.new.files) s1.files (view s1.files c.args.base.now.held c.args.base.now.opens)
        (command.RemoveIndex c.args.relation.now c.args.attribute.now) n in
        subst P (sym c.in-Err-Space.need-is)
        (room_wants s0 c.args.base.now.tables c.args.base.now.held c.args.base.now.opens c.requires.running c.in-Some-cat.cat c.in-Some-cat.is c.args.relation.now c.args.attribute.now
        c.in-Some.found.0 c.in-Some.found.1.now c.in-Some.ensures.cell c.in-Some.ensures.there c.in-Ok.standing c.in-Ok.ensures.stands s1 kept (g.V.Files.asks c.take_index.new.files) c.in-Err-Space.need asked)
        );
    lacks = search rules;
    spares = λ told none. tt;
    cut = search rules;
    untouched = search rules;
    same = search rules;
    reads = search rules;
    frame = search rules;
  };
}

pub returns-in-Err-Failed : goal.returns-in-Err-Failed
returns-in-Err-Failed g c = record {
  carried = record {
    done = search rules;
    running = search rules;
    ahead = search rules;
    tells = search rules;
    wants = search rules;
    lacks = search rules;
    spares = λ told none. tt;
    cut = λ cuts told sound. (
        let s0 = g.V.Files.state c.args.base.now.files in
        let left = rw c.in-Err-Failed.field-0-is at (c.in-Err-Failed.ensures.cut cuts told) in
        taken_in_part s0 c.args.base.now.tables c.args.base.now.held c.args.base.now.opens c.requires.running c.in-Some-cat.cat c.in-Some-cat.is c.args.relation.now c.args.attribute.now
        c.in-Some.found.0 c.in-Some.found.1.now c.in-Some.ensures.cell c.in-Some.ensures.there c.in-Ok.standing c.in-Ok.ensures.stands told sound (left refl)
        );
    untouched = search rules;
    same = search rules;
    reads = search rules;
    frame = (
        let h = rw c.in-Err-Failed.field-0-is at c.in-Err-Failed.ensures.frame.cause in record {
          store = search rules;
          lent = search rules;
          later = search rules;
          cause = record { later = h.later; failed = h.failed refl };
        }
        );
  };
}
