-- What is found is what the machine sees.
use Rattle.std.proofs.Common.{◌≡◌, ◌≤◌, ◌*◌, Bool, arith, ℕ, ℤ, List, Option, Some, ap, sym, ◌∙◌, subst}
use Rattle.std.specs.Prelude.{if◌then◌else◌, Ok, Err, Result, option_map}
use Rattle.afl_base.specs.Files.{State, Table}
use Rattle.std.specs.List.{list_any}
use Rattle.db_model.specs.declared.commands.Agg.{Agg}
use Rattle.db_model.specs.declared.commands.Command.TheVariants as command
use Rattle.db_model.specs.declared.commands.Node.{Node}
use Rattle.db_model.specs.declared.commands.Query.{Query}
use Rattle.db_model.specs.declared.commands.Query.TheVariants as query
use Rattle.db_model.specs.declared.refusals.Refusal.{Refusal}
use Rattle.db_model.specs.declared.values.Value.{Value}
use Rattle.db_model.specs.Ahead.{Aheads, cost_of, is_refused}
use Rattle.db_model.specs.Cond.{condition_of}
use Rattle.db_model.specs.Cost.{aggregate_cost, chosen_cost, is_median, passes_of, query_cost}
use Rattle.db_model.specs.Refusing.{◌>>=◌}
use Rattle.db_model.specs.Step.{Numbers, Reply, Refused, Rows, answer_of, replied, step}
use Rattle.db_model.specs.Database.{Database, indexes_of, relation_named}
use Rattle.db_model.specs.Plan.{Kinds, kinds_of, ranges_of}
use Rattle.index_set.specs.declared.info.IndexInfo.{IndexInfo}
use Rattle.index_set.specs.Complete.{AreIndexesOf, AreReadable}
use Rattle.index_set.specs.Plans.{kinds}
use Rattle.index_set.specs.Tables.{Tables}
use Rattle.cursor.specs.Remaining.{AreOnNumbers}
use Rattle.tuple_file.specs.declared.tuples.Tuples.{Tuples}
use Rattle.tuple_file.specs.Tuples.{rows, slots}
use Rattle.session_model.specs.declared.held.Held.{Held}
use Rattle.session_model.specs.declared.held.Open.{Open}
use Rattle.session_model.specs.Indexed.{infos_of}
use Rattle.session_model.specs.Running.{IsRunning}
use Rattle.session_model.specs.View.{relation_of_rows, view}
use Rattle.session_model.proofs.Readable.{are_indexes, are_numbers, are_on_numbers, are_readable}
use Rattle.session_model.proofs.Running.{indexes_seen, relation_there}
use Rattle.session_model.proofs.Views.{found_in_view}
use Rattle.session_plans.specs.Aggregates.{medians}
use Rattle.session_queries.specs.declared.finding.Found.{Found}
use Rattle.session_queries.specs.Finds.{HasEightSlots, IsRelationFound, IsReadableBy}
use Rattle.session_plans.proofs.IndexKinds.{kinds_same}

-- ---- the relation and its indexes

pub relation_seen : (files : Table) (held : Held) (opens : List (Option Open)) (name : List ℕ) (found : Found) → IsRelationFound held name found
    → relation_named (view files held opens) name ≡ Some (found.slot, relation_of_rows files found.tuples)
relation_seen files held opens name found f =
    found_in_view files name 0 held.relations ∙ ap (option_map (λ (p : ℕ × Tuples). (p.0, relation_of_rows files p.1))) f.cell

pub kinds_seen : (files : Table) (held : Held) (opens : List (Option Open)) (name : List ℕ) (found : Found) → IsRelationFound held name found
    → kinds_of (indexes_of (view files held opens) found.slot) ≡ kinds found.indexes
kinds_seen files held opens name found f =
    ap kinds_of (indexes_seen found.slot found.tuples held.indexes)
    ∙ kinds_same found.slot (infos_of found.slot found.tuples held.indexes)
    ∙ ap kinds (sym f.indexes)

pub select_cost_is : (files : Table) (held : Held) (opens : List (Option Open)) (name : List ℕ) (list : List (List ℕ)) (nodes : List Node) (found : Found) → IsRelationFound held name found
    → query_cost (view files held opens) (query.Select list name nodes)
    ≡ chosen_cost (kinds found.indexes) (ranges_of found.tuples.schema.attributes (condition_of nodes)) (rows files found.tuples)
select_cost_is files held opens name list nodes found f =
    rw (relation_seen files held opens name found f)
    (ap (λ (k : Kinds). chosen_cost k (ranges_of found.tuples.schema.attributes (condition_of nodes)) (rows files found.tuples)) (kinds_seen files held opens name found f))

pub aggregate_cost_is : (files : Table) (held : Held) (opens : List (Option Open)) (name : List ℕ) (list : List (Agg × List ℕ)) (nodes : List Node) (found : Found) (items : List (Agg × ℕ))
    → IsRelationFound held name found → medians items ≡ list_any is_median list
    → aggregate_cost (view files held opens) list name nodes
    ≡ (if medians items then 10 else 1) * chosen_cost (kinds found.indexes) (ranges_of found.tuples.schema.attributes (condition_of nodes)) (rows files found.tuples)
aggregate_cost_is files held opens name list nodes found items f m =
    let ranges = ranges_of found.tuples.schema.attributes (condition_of nodes) in
    let all = rows files found.tuples in
    rw (relation_seen files held opens name found f)
    (ap (λ (k : Kinds). passes_of list * chosen_cost k ranges all) (kinds_seen files held opens name found f)
    ∙ ap (λ (b : Bool). (if b then 10 else 1) * chosen_cost (kinds found.indexes) ranges all) (sym m))

-- ---- what the machine answers

pub aggregated_cost : (db : Database) (aheads : Aheads) (list : List (Agg × List ℕ)) (name : List ℕ) (nodes : List Node) (numbers : List (Option ℤ)) → (step db (command.Aggregate list name nodes)).1 ≡ Numbers numbers
    → cost_of db aheads (command.Aggregate list name nodes) ≡ aggregate_cost db list name nodes
aggregated_cost db aheads list name nodes numbers e = ap (λ (reply : Reply). if is_refused reply then 0 else aggregate_cost db list name nodes) e

pub answered : (db : Database) (asked : Query) (answer : List (List Value)) → answer_of db asked ≡ Ok answer → (step db (command.Ask asked)).1 ≡ Rows answer
answered db asked answer e = ap (λ (made : Result (List (List Value)) Refusal). (replied db (◌>>=◌ made (λ answer. Ok (db, Rows answer)))).1) e

pub refused : (db : Database) (asked : Query) (refusal : Refusal) → answer_of db asked ≡ Err refusal → (step db (command.Ask asked)).1 ≡ Refused refusal
refused db asked refusal e = ap (λ (made : Result (List (List Value)) Refusal). (replied db (◌>>=◌ made (λ answer. Ok (db, Rows answer)))).1) e

pub answered_cost : (db : Database) (aheads : Aheads) (asked : Query) (answer : List (List Value)) → answer_of db asked ≡ Ok answer → cost_of db aheads (command.Ask asked) ≡ query_cost db asked
answered_cost db aheads asked answer e = ap (λ (reply : Reply). if is_refused reply then 0 else query_cost db asked) (answered db asked answer e)

refl_le : (n : ℕ) → n ≤ n
refl_le n = omega arith

-- ---- a session that runs

module _ (state : State) (tables : Tables) (held : Held) (opens : List (Option Open)) (r : IsRunning state tables held opens) where
  pub has_slots : HasEightSlots held
  has_slots = record {
    eight = r.eight;
    eight_indexes = r.eight_indexes;
    short = λ k t e. (relation_there state tables held opens r k t e).holds.file.short;
    numbers = λ k t e. are_numbers state tables held opens r k t e;
  }

  pub is_ready : (name : List ℕ) (found : Found) → IsRelationFound held name found → IsReadableBy state tables found
  is_ready name found f = record {
    holds = (relation_there state tables held opens r found.slot found.tuples f.there).holds;
    numbers = subst (λ (infos : List IndexInfo). AreOnNumbers found.tuples.schema.attributes infos) (sym f.indexes)
        (are_on_numbers state tables held opens r found.slot found.tuples f.there);
    readable = subst (λ (infos : List IndexInfo). AreReadable state (slots state.files found.tuples) infos) (sym f.indexes)
        (are_readable state tables held opens r found.slot found.tuples f.there (slots state.files found.tuples) (refl_le (slots state.files found.tuples)));
    complete = λ told. subst (λ (infos : List IndexInfo). AreIndexesOf state tables (rows state.files found.tuples) infos) (sym f.indexes)
        (are_indexes state tables held opens r found.slot found.tuples f.there told);
  }
