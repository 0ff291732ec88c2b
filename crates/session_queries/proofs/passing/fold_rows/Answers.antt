use Rattle.std.proofs.Common.{rules, arith, ◌≡◌, ◌<◌, ℕ, length, List, ◌++◌, refl, sym, subst, ap, ◌∙◌, append-nil}
use Rattle.db_model.specs.declared.values.Value.{Value}
use Rattle.db_model.specs.declared.schemas.Attribute.{Attribute}
use Rattle.db_model.specs.Row.{AllSuit, tuple_of}
use Rattle.aggregate.specs.Limits.{Suits}
use Rattle.session_model.specs.View.{value_at}
use Rattle.cursor.specs.declared.select.SelectCursor.{SelectCursor}
use Rattle.tuple_file.specs.Tuples.{rows}
use Rattle.tuple_file.specs.declared.tuples.Tuples.{Tuples}
use Rattle.session_queries.specs.Folded.{AreFolding, TakesValue, item_at, tally_at}
use Rattle.session_queries.proofs.Passes.{fold_begins, fold_goes_on}
use Rattle.session_queries.proofs.Suited.{all_suit}
use Rattle.session_queries.proofs.passing.fold_rows.Goals as goal

pub push_all-requires-clause-suits : goal.push_all-requires-clause-suits
push_all-requires-clause-suits g c =
    let inv = c.rows.invariant in
    let attributes = c.args.cursor.now.tuples.schema.attributes in
    let whole = rw c.in-Ok-Some.field-0-is at c.in-Ok-Some.ensures.row in
    let suit = whole.suits in
    let same : c.as_slice.result.now ≡ attributes = c.as_slice.ensures.items ∙ ap (λ (x : SelectCursor). x.tuples.schema.attributes) c.in-Ok-Some.ensures.stands ∙ ap (λ (t : Tuples). t.schema.attributes) inv.tuples in
    let row = c.next_bytes.new.row in
    subst (λ (those : List Attribute). (i : ℕ) → i < length c.args.items.now → Suits (tally_at c.rows.tallies i).fold.agg (value_at (tuple_of those row) (item_at c.args.items.now i).1)) (sym same)
    (all_suit attributes (tuple_of attributes row) c.args.items.now c.rows.tallies c.requires.suit
    (subst (λ (t : Tuples). AllSuit t.schema.attributes (tuple_of t.schema.attributes row)) inv.tuples suit) inv.aggs)

pub rows-preserved : goal.rows-preserved
rows-preserved g c =
    let inv = c.rows.invariant in
    let h = c.in-Ok-Some.ensures in
    let attributes = c.args.cursor.now.tuples.schema.attributes in
    let row = c.next_bytes.new.row in
    let same : c.as_slice.result.now ≡ attributes = c.as_slice.ensures.items ∙ ap (λ (x : SelectCursor). x.tuples.schema.attributes) h.stands ∙ ap (λ (t : Tuples). t.schema.attributes) inv.tuples in
    let takes = subst (λ (those : List Attribute). (i : ℕ) → i < length c.args.items.now → TakesValue (value_at (tuple_of those row) (item_at c.args.items.now i).1) (tally_at c.rows.tallies i) (tally_at c.push_all.new.tallies i)) same c.push_all.ensures.takes in
    let advances = rw c.in-Ok-Some.field-0-is at h.advances in
    let forward = advances.forward in
    let order = forward.0 in
    let from = forward.1 in
    record {
      same = h.frame.same ∙ inv.same;
      lent = h.frame.lent ∙ inv.lent;
      reads_later = omega (arith, inv.reads_later, h.frame.later);
      files_later = omega (arith, inv.files_later, h.frame.faultless);
      tuples = ap (λ (x : SelectCursor). x.tuples) h.stands ∙ inv.tuples;
      code = ap (λ (x : SelectCursor). x.code) h.stands ∙ inv.code;
      slots = advances.slots ∙ inv.slots;
      row = λ some. h.size ∙ inv.row some;
      may_read = rw inv.same at h.may_read;
      many = c.push_all.ensures.many ∙ inv.many;
      aggs = λ i inside. (takes i inside).agg ∙ inv.aggs i inside;
      stand = λ passes stand i inside. (takes i inside).stands passes (inv.stand passes stand i inside);
      pushed = λ i inside is_open. omega (arith, (takes i inside).pushed, inv.pushed i inside ((takes i inside).open_only is_open), order, from);
      told = λ t f.
          let s = inv.told t f in
          let y = rw c.in-Ok-Some.field-0-is at ((rw (inv.same, inv.tuples) at h.yields) t s.fits) in
          fold_goes_on (g.V.Files.state c.args.files.now) c.args.tables.now (rows (g.V.Files.state c.args.files.now).files c.args.cursor.now.tuples) c.args.items.now c.args.cursor.now c.rows.cursor c.next_bytes.new.self c.args.tallies.now c.rows.tallies c.push_all.new.tallies (tuple_of attributes row)
          (g.V.Files.reads c.args.files.now) (g.V.Files.reads c.rows.files) (g.V.Files.reads c.next_bytes.new.files) s
          y.next y.fits takes y.reads;
    }

pub returns-in-Ok-None-clause-folded : goal.returns-in-Ok-None-clause-folded
returns-in-Ok-None-clause-folded g c = λ t f whole are.
    let inv = c.rows.invariant in
    let s = inv.told t f in
    let none = (rw c.in-Ok-None.field-0-is at ((rw (inv.same, inv.tuples) at c.in-Ok-None.ensures.yields) t s.fits)).next in
    let all = s.whole ∙ ap (λ (l : List (List Value)). s.done ++ l) none ∙ append-nil s.done in
    subst (λ (l : List (List Value)). AreFolding c.args.items.now whole l c.rows.tallies) (sym all) (s.folded whole are)

pub returns-in-Err-clause-reads : goal.returns-in-Err-clause-reads
returns-in-Err-clause-reads g c = λ t f.
    let inv = c.rows.invariant in
    let s = inv.told t f in
    let fails = (rw (inv.same, inv.tuples) at c.in-Err.ensures.fails) t s.fits in
    omega (arith, s.few, fails.ahead)

pub rows-init : goal.rows-init
rows-init g c = record {
  same = refl;
  lent = refl;
  reads_later = omega arith;
  files_later = omega arith;
  tuples = refl;
  code = refl;
  slots = refl;
  row = search rules;
  may_read = c.requires.may_read;
  many = refl;
  aggs = c.requires.aggs;
  stand = λ passes stand. stand;
  pushed = λ i inside is_open. omega (arith, c.requires.fresh i inside is_open);
  told = λ t f. fold_begins (g.V.Files.state c.args.files.now) c.args.tables.now (rows (g.V.Files.state c.args.files.now).files c.args.cursor.now.tuples) c.args.items.now c.args.cursor.now c.args.tallies.now (g.V.Files.reads c.args.files.now) f;
}
