use Rattle.std.proofs.Common.{rules, ◌≡◌, ◌+◌, ◌-◌, refl, ap, sym, ◌∙◌, true, false, Bool, List, ℕ, length, arith}
use Rattle.std.specs.Prelude.{◌==◌, slice_index}
use Rattle.std.specs.Fn.{FnReturnsAt}
use Rattle.db_model.specs.declared.schemas.Attribute.{Attribute}
use Rattle.db_model.specs.declared.values.Value.{Value}
use Rattle.db_model.specs.Row.{fields_length, tuple_of}
use Rattle.tuple_file.specs.Tuples.{OfAsked, OfBytes}
use Rattle.tuple_file.proofs.Removed.{answered_goes, answered_removed, answered_stays}
use Rattle.tuple_file.proofs.drafts.answer.Goals as goal

-- the mark is the last byte
same_place : (fields long : ℕ) → long ≡ fields + 1 → fields ≡ long - 1
same_place fields long is = omega (arith, is)

unasked : (attributes : List Attribute) (answers : List ℕ → Bool → Type 0) (tuple : List Value) (asks : Bool) → asks ≡ false → OfAsked asks attributes answers tuple false
unasked attributes answers tuple true is = absurd cc
unasked attributes answers tuple false is = refl

asked : (attributes : List Attribute) (answers : List ℕ → Bool → Type 0) (tuple : List Value) (answer asks : Bool) → asks ≡ true → OfBytes attributes answers tuple answer → OfAsked asks attributes answers tuple answer
asked attributes answers tuple answer true is said = said
asked attributes answers tuple answer false is said = absurd cc

pub returns-then-not-is_live-clause-answered : goal.returns-then-not-is_live-clause-answered
returns-then-not-is_live-clause-answered g c written =
    let place = same_place (fields_length c.args.attributes.now) (length c.args.row.now) c.requires.size in
    answered_removed (OfAsked c.args.asks c.args.attributes.now (FnReturnsAt g.F.Fn c.args.removed.now)) c.args.attributes.now c.args.row.now written c.values_suit.ensures
    (ap (λ (n : ℕ). slice_index c.args.row.now n == 1) place ∙ sym c.if-not-is_live.ensures)

pub returns-then-not-asks-clause-answered : goal.returns-then-not-asks-clause-answered
returns-then-not-asks-clause-answered g c written =
    let place = same_place (fields_length c.args.attributes.now) (length c.args.row.now) c.requires.size in
    let none : c.args.asks ≡ false = search rules in
    let stays : OfAsked c.args.asks c.args.attributes.now (FnReturnsAt g.F.Fn c.args.removed.now) (tuple_of c.args.attributes.now c.args.row.now) false =
    unasked c.args.attributes.now (FnReturnsAt g.F.Fn c.args.removed.now) (tuple_of c.args.attributes.now c.args.row.now) c.args.asks none in
    answered_stays (OfAsked c.args.asks c.args.attributes.now (FnReturnsAt g.F.Fn c.args.removed.now)) c.args.attributes.now c.args.row.now written c.values_suit.ensures
    (ap (λ (n : ℕ). slice_index c.args.row.now n == 1) place ∙ sym c.if-not-is_live.ensures) stays

pub returns-then-answer_about-clause-answered : goal.returns-then-answer_about-clause-answered
returns-then-answer_about-clause-answered g c written =
    let place = same_place (fields_length c.args.attributes.now) (length c.args.row.now) c.requires.size in
    let asks : c.args.asks ≡ true = search rules in
    let said : FnReturnsAt g.F.Fn c.args.removed.now c.args.row.now true = c.if-answer_about.ensures in
    answered_goes (OfAsked c.args.asks c.args.attributes.now (FnReturnsAt g.F.Fn c.args.removed.now)) c.args.attributes.now c.args.row.now c.mark_removed.new.row written c.values_suit.ensures
    (ap (λ (n : ℕ). slice_index c.args.row.now n == 1) place ∙ sym c.if-not-is_live.ensures) (asked c.args.attributes.now (FnReturnsAt g.F.Fn c.args.removed.now) (tuple_of c.args.attributes.now c.args.row.now) _ c.args.asks asks (c.args.row.now, refl, said)) c.mark_removed.ensures

pub returns-else-answer_about-clause-answered : goal.returns-else-answer_about-clause-answered
returns-else-answer_about-clause-answered g c written =
    let place = same_place (fields_length c.args.attributes.now) (length c.args.row.now) c.requires.size in
    let asks : c.args.asks ≡ true = search rules in
    let said : FnReturnsAt g.F.Fn c.args.removed.now c.args.row.now false = c.if-answer_about.ensures in
    answered_stays (OfAsked c.args.asks c.args.attributes.now (FnReturnsAt g.F.Fn c.args.removed.now)) c.args.attributes.now c.args.row.now written c.values_suit.ensures
    (ap (λ (n : ℕ). slice_index c.args.row.now n == 1) place ∙ sym c.if-not-is_live.ensures) (asked c.args.attributes.now (FnReturnsAt g.F.Fn c.args.removed.now) (tuple_of c.args.attributes.now c.args.row.now) _ c.args.asks asks (c.args.row.now, refl, said))
