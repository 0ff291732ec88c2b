use Rattle.std.proofs.Common.{rules, ◌≡◌, ℕ, ap, refl, sym, subst, Ok, Bool, true, false, if◌then◌else◌, ◌∙◌}
use Rattle.afl_base.specs.Files.{State}
use Rattle.db_model.specs.Step.{Fine, outcome, upgraded}
use Rattle.db_model.specs.declared.commands.Command.TheVariants as command
use Rattle.db_model.specs.declared.refusals.Refusal.TheVariants as no
use Rattle.db_model.specs.Ahead.{Aheads}
use Rattle.session_model.specs.declared.held.Held.{Held}
use Rattle.session_model.specs.Aheads.{aheads_of}
use Rattle.session_model.specs.Running.{IsRunning}
use Rattle.session_model.specs.View.{view}
use Rattle.session_model.specs.Wanted.{WantsFew}
use Rattle.session_model.proofs.Carrying.{carries_refused}
use Rattle.session_model.proofs.Readable.{have_tables}
use Rattle.session_indexes.proofs.Created.{asks_nothing, made_aheads, made_done, made_in_part, made_running, may_be, no_catalog, ready_for, refused_so, space_aheads, space_running, space_view, space_wants, tables_running}
use Rattle.session_indexes.proofs.Refused.{no_relation}
use Rattle.session_indexes.proofs.creating.create_index.Goals as goal

-- a change moves no cursor, refused or not
stays : (refused : Bool) (a : Aheads) → a ≡ (if refused then a else a)
stays true a = refl
stays false a = refl

pub returns-in_default : goal.returns-in_default
returns-in_default g c = record {
  carried = carries_refused g.V.Files (command.CreateIndex c.args.relation.now c.args.attribute.now c.args.kind) c.args.base.now no.NoRelation c.requires.running
      (λ told. ap upgraded (no_relation (g.V.Files.state c.args.base.now.files).files c.args.base.now.held c.args.base.now.opens c.args.relation.now c.args.attribute.now c.args.kind c.in_default.ensures.none));
}

pub returns-in-Err : goal.returns-in-Err
returns-in-Err g c = record {
  carried = carries_refused g.V.Files (command.CreateIndex c.args.relation.now c.args.attribute.now c.args.kind) c.args.base.now c.in-Err.refusal c.requires.running
      (λ told. ap upgraded (c.in-Err.ensures.refused (g.V.Files.state c.args.base.now.files).files c.args.base.now.opens c.args.relation.now c.in-Some.ensures.cell));
}

pub returns-in_default-cat : goal.returns-in_default-cat
returns-in_default-cat g c = record {
  carried = carries_refused g.V.Files (command.CreateIndex c.args.relation.now c.args.attribute.now c.args.kind) c.args.base.now no.NoRelation c.requires.running
      (λ told. absurd (no_catalog (g.V.Files.state c.args.base.now.files) c.args.base.now.tables c.args.base.now.held c.args.base.now.opens c.requires.running told c.in_default-cat.is c.in-Some.found.0 c.in-Some.found.1.now c.in-Some.ensures.there));
}

pub make_index-requires-clause-tables : goal.make_index-requires-clause-tables
make_index-requires-clause-tables g c =
    have_tables (g.V.Files.state c.args.base.now.files) c.args.base.now.tables c.args.base.now.held c.args.base.now.opens c.requires.running

pub make_index-requires-clause-ready : goal.make_index-requires-clause-ready
make_index-requires-clause-ready g c =
    let s0 = g.V.Files.state c.args.base.now.files in
    ready_for s0 c.args.base.now.tables c.args.base.now.held c.args.base.now.opens c.requires.running c.in-Some-cat.cat c.in-Some-cat.is c.args.relation.now c.args.attribute.now c.args.kind
    c.in-Some.found.0 c.in-Some.found.1.now c.in-Some.ensures.cell c.in-Some.ensures.there c.in-Ok.site c.in-Ok.ensures.relation c.in-Ok.ensures.site

pub returns-in-Ok-Ok : goal.returns-in-Ok-Ok
returns-in-Ok-Ok g c = record {
  carried = record {
    done = λ told. (
        let s0 = g.V.Files.state c.args.base.now.files in
        let s1 = g.V.Files.state c.make_index.new.files in
        let made = rw c.in-Ok-Ok.field-0-is at c.in-Ok-Ok.ensures.made in
        let tried = rw c.in-Ok-Ok.field-0-is at c.in-Ok-Ok.ensures.tried told in
        let P : Held → Type 0 = λ now. outcome (view s0.files c.args.base.now.held c.args.base.now.opens) (command.CreateIndex c.args.relation.now c.args.attribute.now c.args.kind)
        ≡ Ok (view s1.files now c.args.base.now.opens, Fine) in
        subst P (sym c.hold.ensures)
        (made_done s0 c.args.base.now.tables c.args.base.now.held c.args.base.now.opens c.requires.running c.in-Some-cat.cat c.in-Some-cat.is c.args.relation.now c.args.attribute.now c.args.kind
        c.in-Some.found.0 c.in-Some.found.1.now c.in-Some.ensures.cell c.in-Some.ensures.there c.in-Ok.site c.in-Ok.ensures.relation c.in-Ok.ensures.site
        s1 c.make_index.new.tables c.in-Ok-Ok.access made told tried)
        );
    running = (
        let s0 = g.V.Files.state c.args.base.now.files in
        let s1 = g.V.Files.state c.make_index.new.files in
        let made = rw c.in-Ok-Ok.field-0-is at c.in-Ok-Ok.ensures.made in
        let P : Held → Type 0 = λ now. IsRunning s1 c.make_index.new.tables now c.args.base.now.opens in
        subst P (sym c.hold.ensures)
        (made_running s0 c.args.base.now.tables c.args.base.now.held c.args.base.now.opens c.requires.running c.in-Some-cat.cat c.in-Some-cat.is c.args.relation.now c.args.attribute.now c.args.kind
        c.in-Some.found.0 c.in-Some.found.1.now c.in-Some.ensures.cell c.in-Some.ensures.there c.in-Ok.site c.in-Ok.ensures.relation c.in-Ok.ensures.site
        s1 c.make_index.new.tables c.in-Ok-Ok.access made)
        );
    ahead = λ told. (
        let s0 = g.V.Files.state c.args.base.now.files in
        let s1 = g.V.Files.state c.make_index.new.files in
        let made = rw c.in-Ok-Ok.field-0-is at c.in-Ok-Ok.ensures.made in
        made_aheads s0 c.args.base.now.tables c.args.base.now.held c.args.base.now.opens c.requires.running c.in-Some-cat.cat c.in-Some-cat.is c.args.relation.now c.args.attribute.now c.args.kind
        c.in-Some.found.0 c.in-Some.found.1.now c.in-Some.ensures.cell c.in-Some.ensures.there c.in-Ok.site c.in-Ok.ensures.relation c.in-Ok.ensures.site
        s1 c.make_index.new.tables c.in-Ok-Ok.access made told
        ) ∙ stays _ _;
    tells = search rules;
    wants = search rules;
    lacks = search rules;
    spares = λ told none. (
        let s0 = g.V.Files.state c.args.base.now.files in
        c.in-Ok-Ok.ensures.spares told
        (asks_nothing s0 c.args.base.now.tables c.args.base.now.held c.args.base.now.opens c.requires.running c.in-Some-cat.cat c.in-Some-cat.is c.args.relation.now c.args.attribute.now c.args.kind
        c.in-Some.found.0 c.in-Some.found.1.now c.in-Some.ensures.cell c.in-Some.ensures.there c.in-Ok.site c.in-Ok.ensures.relation c.in-Ok.ensures.site
        (g.V.Files.asks c.args.base.now.files) none)
        );
    cut = search rules;
    untouched = search rules;
    same = search rules;
    reads = search rules;
    frame = search rules;
  };
}

pub returns-in-Ok-Err : goal.returns-in-Ok-Err
returns-in-Ok-Err g c = record {
  carried = record {
    done = λ told. (
        let s0 = g.V.Files.state c.args.base.now.files in
        let tried = rw c.in-Ok-Err.field-0-is at c.in-Ok-Err.ensures.tried told in
        let same = rw c.in-Ok-Err.field-0-is at c.in-Ok-Err.ensures.refused in (
          refused_so s0 c.args.base.now.tables c.args.base.now.held c.args.base.now.opens c.requires.running c.in-Some-cat.cat c.in-Some-cat.is c.args.relation.now c.args.attribute.now c.args.kind
              c.in-Some.found.0 c.in-Some.found.1.now c.in-Some.ensures.cell c.in-Some.ensures.there c.in-Ok.site c.in-Ok.ensures.relation c.in-Ok.ensures.site
              c.in-Ok-Err.refusal tried,
          ap (λ (s : State). view s.files c.args.base.now.held c.args.base.now.opens) same,
        )
        );
    running = (
        let s0 = g.V.Files.state c.args.base.now.files in
        let same = rw c.in-Ok-Err.field-0-is at c.in-Ok-Err.ensures.refused in
        subst (λ (s : State). IsRunning s c.make_index.new.tables c.args.base.now.held c.args.base.now.opens) (sym same)
        (tables_running s0 c.args.base.now.tables c.make_index.new.tables c.args.base.now.held c.args.base.now.opens c.requires.running c.in-Ok-Err.ensures.tables)
        );
    ahead = λ told. (
        let same = rw c.in-Ok-Err.field-0-is at c.in-Ok-Err.ensures.refused in
        ap (λ (s : State). aheads_of s.files c.args.base.now.opens) same
        ) ∙ stays _ _;
    tells = search rules;
    wants = search rules;
    lacks = search rules;
    spares = λ told none. tt;
    cut = search rules;
    untouched = search rules;
    same = search rules;
    reads = search rules;
    frame = search rules;
  };
}

pub returns-in-Err-Space : goal.returns-in-Err-Space
returns-in-Err-Space g c = record {
  carried = record {
    done = λ told. (
        let s0 = g.V.Files.state c.args.base.now.files in
        let s1 = g.V.Files.state c.make_index.new.files in
        let kept = rw c.in-Err-Space.field-0-is at c.in-Err-Space.ensures.space in
        let tables = rw c.in-Err-Space.field-0-is at c.in-Err-Space.ensures.tables in
        let fine = rw c.in-Err-Space.field-0-is at c.in-Err-Space.ensures.unrefused told in (
          may_be s0 c.args.base.now.tables c.args.base.now.held c.args.base.now.opens c.requires.running c.in-Some-cat.cat c.in-Some-cat.is c.args.relation.now c.args.attribute.now c.args.kind
              c.in-Some.found.0 c.in-Some.found.1.now c.in-Some.ensures.cell c.in-Some.ensures.there c.in-Ok.site c.in-Ok.ensures.relation c.in-Ok.ensures.site fine,
          space_view s0 c.args.base.now.tables c.args.base.now.held c.args.base.now.opens c.requires.running c.in-Some-cat.cat c.in-Some-cat.is c.args.relation.now c.args.attribute.now c.args.kind
              c.in-Some.found.0 c.in-Some.found.1.now c.in-Some.ensures.cell c.in-Some.ensures.there c.in-Ok.site c.in-Ok.ensures.relation c.in-Ok.ensures.site
              s1 c.make_index.new.tables kept tables told,
        )
        );
    running = (
        let s0 = g.V.Files.state c.args.base.now.files in
        let s1 = g.V.Files.state c.make_index.new.files in
        let kept = rw c.in-Err-Space.field-0-is at c.in-Err-Space.ensures.space in
        let tables = rw c.in-Err-Space.field-0-is at c.in-Err-Space.ensures.tables in
        space_running s0 c.args.base.now.tables c.args.base.now.held c.args.base.now.opens c.requires.running c.in-Some-cat.cat c.in-Some-cat.is c.args.relation.now c.args.attribute.now c.args.kind
        c.in-Some.found.0 c.in-Some.found.1.now c.in-Some.ensures.cell c.in-Some.ensures.there c.in-Ok.site c.in-Ok.ensures.relation c.in-Ok.ensures.site
        s1 c.make_index.new.tables kept tables
        );
    ahead = λ told. (
        let s0 = g.V.Files.state c.args.base.now.files in
        let s1 = g.V.Files.state c.make_index.new.files in
        let kept = rw c.in-Err-Space.field-0-is at c.in-Err-Space.ensures.space in
        let tables = rw c.in-Err-Space.field-0-is at c.in-Err-Space.ensures.tables in
        space_aheads s0 c.args.base.now.tables c.args.base.now.held c.args.base.now.opens c.requires.running c.in-Some-cat.cat c.in-Some-cat.is c.args.relation.now c.args.attribute.now c.args.kind
        c.in-Some.found.0 c.in-Some.found.1.now c.in-Some.ensures.cell c.in-Some.ensures.there c.in-Ok.site c.in-Ok.ensures.relation c.in-Ok.ensures.site
        s1 c.make_index.new.tables kept tables told
        ) ∙ stays _ _;
    tells = search rules;
    wants = λ told. (
        let s0 = g.V.Files.state c.args.base.now.files in
        let s1 = g.V.Files.state c.make_index.new.files in
        let kept = rw c.in-Err-Space.field-0-is at c.in-Err-Space.ensures.space in
        let tables = rw c.in-Err-Space.field-0-is at c.in-Err-Space.ensures.tables in
        let asked = rw c.in-Err-Space.field-0-is at c.in-Err-Space.ensures.asked told in
        let P : ℕ → Type 0 = λ n. WantsFew (g.V.Files.asks c.make_index.new.files) s1.files (view s1.files c.args.base.now.held c.args.base.now.opens)
        (command.CreateIndex c.args.relation.now c.args.attribute.now c.args.kind) n in
        subst P (sym c.in-Err-Space.need-is)
        (space_wants s0 c.args.base.now.tables c.args.base.now.held c.args.base.now.opens c.requires.running c.in-Some-cat.cat c.in-Some-cat.is c.args.relation.now c.args.attribute.now c.args.kind
        c.in-Some.found.0 c.in-Some.found.1.now c.in-Some.ensures.cell c.in-Some.ensures.there c.in-Ok.site c.in-Ok.ensures.relation c.in-Ok.ensures.site
        s1 c.make_index.new.tables kept tables (g.V.Files.asks c.make_index.new.files) c.in-Err-Space.need asked)
        );
    lacks = search rules;
    spares = λ told none. tt;
    cut = search rules;
    untouched = search rules;
    same = search rules;
    reads = search rules;
    frame = search rules;
  };
}

pub returns-in-Err-Failed : goal.returns-in-Err-Failed
returns-in-Err-Failed g c = record {
  carried = record {
    done = search rules;
    running = search rules;
    ahead = search rules;
    tells = search rules;
    wants = search rules;
    lacks = search rules;
    spares = λ told none. tt;
    cut = λ cuts told sound. (
        let s0 = g.V.Files.state c.args.base.now.files in
        let left = rw c.in-Err-Failed.field-0-is at (c.in-Err-Failed.ensures.cut cuts told) in
        made_in_part s0 c.args.base.now.tables c.args.base.now.held c.args.base.now.opens c.requires.running c.in-Some-cat.cat c.in-Some-cat.is c.args.relation.now c.args.attribute.now c.args.kind
        c.in-Some.found.0 c.in-Some.found.1.now c.in-Some.ensures.cell c.in-Some.ensures.there c.in-Ok.site c.in-Ok.ensures.relation c.in-Ok.ensures.site told sound (left refl)
        );
    untouched = search rules;
    same = search rules;
    reads = search rules;
    frame = (
        let h = rw c.in-Err-Failed.field-0-is at c.in-Err-Failed.ensures.frame.cause in record {
          store = search rules;
          lent = search rules;
          later = search rules;
          cause = record { later = h.later; failed = h.failed refl };
        }
        );
  };
}
