-- What the machine makes of a query is what its cursor begins with.
use Rattle.std.proofs.Common.{◌≡◌, ℕ, ◌+◌, Bool, true, false, cond, List, [], ◌∷◌, length, Option, Some, None, refl, ap, sym, ◌∙◌, subst, Ok, Err}
use Rattle.std.specs.Prelude.{IsOk, Result, option_map, option_and_then, unwrap_or}
use Rattle.std.specs.Option.{option_map_or}
use Rattle.std.specs.Str.{bytes_eq}
use Rattle.std.proofs.lemmas.Slice.Eq.{bytes_eq-Decides}
use Rattle.afl_base.specs.Files.{Table}
use Rattle.db_model.specs.declared.commands.Node.{Node}
use Rattle.db_model.specs.declared.commands.Query.TheVariants as query
use Rattle.db_model.specs.declared.refusals.Refusal.{Refusal}
use Rattle.db_model.specs.declared.refusals.Refusal.TheVariants as no
use Rattle.db_model.specs.declared.values.Value.{Value}
use Rattle.db_model.specs.Ahead as model
use Rattle.db_model.specs.Ahead.{Ahead}
use Rattle.db_model.specs.Cond.{condition_of}
use Rattle.db_model.specs.Cost.{begin_cost, open_cost, open_select_cost, places_of}
use Rattle.db_model.specs.Database.{Database, Relation, indexes_of, named, relation_named}
use Rattle.db_model.specs.Item.{place_of}
use Rattle.db_model.specs.Plan.{Kinds, kinds_of, plan, ranges_of}
use Rattle.db_model.specs.Refusing.{◌>>=◌}
use Rattle.db_model.specs.Step.{answer_of, join_of, select_from}
use Rattle.index_set.specs.Plans.{kinds}
use Rattle.tuple_file.specs.declared.tuples.Tuples.{Tuples}
use Rattle.tuple_file.specs.Tuples.{rows, slots as slots_of}
use Rattle.session_model.specs.declared.held.Held.{Held}
use Rattle.session_model.specs.declared.held.Open.{Open}
use Rattle.session_model.specs.declared.held.Open.TheVariants.{Select, Join}
use Rattle.session_model.specs.declared.held.OpenJoin.{OpenJoin}
use Rattle.session_model.specs.declared.held.OpenSelect.{OpenSelect}
use Rattle.session_model.specs.Aheads.{ahead_of_join, ahead_of_select}
use Rattle.session_model.specs.Cells.{cell_from}
use Rattle.session_model.specs.Indexed.{infos_of}
use Rattle.session_model.specs.View.{join_left, relation_of_rows, select_left, view}
use Rattle.session_model.proofs.Views.{found_in_view, named_none, named_some}
use Rattle.session_cursors.specs.Opened.{BeginsAnswer}
use Rattle.session_cursors.proofs.Begun.{kinds_held}
use Rattle.tuple_file.proofs.Columns.{rows_counted}

-- ---- relations by name

name_step : (name : List ℕ) (n k : ℕ) (s t : Tuples) (slots : List (Option Tuples)) (b : Bool) → bytes_eq s.schema.name name ≡ b → cond b (Some (n, s)) (cell_from name (n + 1) slots) ≡ Some (k, t)
    → (cell_from name (n + 1) slots ≡ Some (k, t) → t.schema.name ≡ name) → t.schema.name ≡ name
name_step name n k s t slots true e is later = let same : s ≡ t = ap (λ (o : Option (ℕ × Tuples)). (unwrap_or o (n, s)).1) is in ap (λ (z : Tuples). z.schema.name) (sym same) ∙ (bytes_eq-Decides s.schema.name name).0 e
name_step name n k s t slots false e is later = later is

pub name_found : (name : List ℕ) (n k : ℕ) (t : Tuples) (slots : List (Option Tuples)) → cell_from name n slots ≡ Some (k, t) → t.schema.name ≡ name
name_found name n k t [] e = absurd (cc)
name_found name n k t (None ∷ slots) e = name_found name (n + 1) k t slots e
name_found name n k t (Some s ∷ slots) e = name_step name n k s t slots (bytes_eq s.schema.name name) refl e (λ h. name_found name (n + 1) k t slots h)

module _ (files : Table) (held : Held) (opens : List (Option Open)) where
  abbrev db : Database
  db = view files held opens

  found : (name : List ℕ) (k : ℕ) (t : Tuples) → cell_from name 0 held.relations ≡ Some (k, t) → relation_named db name ≡ Some (k, relation_of_rows files t)
  found name k t e = found_in_view files name 0 held.relations ∙ ap (option_map (λ (p : ℕ × Tuples). (p.0, relation_of_rows files p.1))) e

  -- ---- a SELECT

  module _ (list : List (List ℕ)) (name : List ℕ) (nodes : List Node) where
    pub select_unnamed : cell_from name 0 held.relations ≡ None → answer_of db (query.Select list name nodes) ≡ Err no.NoRelation
    select_unnamed e = ap (λ (r : Result (ℕ × Relation) Refusal). ◌>>=◌ r (λ s. select_from list (condition_of nodes) s.1)) (named_none files held opens name e)

    module _ (k : ℕ) (t : Tuples) (e : cell_from name 0 held.relations ≡ Some (k, t)) where
      select_answer : answer_of db (query.Select list name nodes) ≡ select_from list (condition_of nodes) (relation_of_rows files t)
      select_answer = ap (λ (r : Result (ℕ × Relation) Refusal). ◌>>=◌ r (λ s. select_from list (condition_of nodes) s.1)) (named_some files held opens name k t e)

      pub select_refused : (refusal : Refusal) → select_from list (condition_of nodes) (relation_of_rows files t) ≡ Err refusal → answer_of db (query.Select list name nodes) ≡ Err refusal
      select_refused refusal h = select_answer ∙ h

      pub select_answered : (answer : List (List Value)) → select_from list (condition_of nodes) (relation_of_rows files t) ≡ Ok answer → IsOk (answer_of db (query.Select list name nodes))
      select_answered answer h = subst (λ (r : Result (List (List Value)) Refusal). IsOk r) (sym (select_answer ∙ h)) refl

      pub select_begins : (o : OpenSelect) (answer : List (List Value)) → select_from list (condition_of nodes) (relation_of_rows files t) ≡ Ok answer → select_left files o ≡ answer → o.cursor.tuples ≡ t
          → ahead_of_select files o ≡ model.select_ahead t.schema.name (kinds (infos_of k t held.indexes)) (ranges_of t.schema.attributes (condition_of nodes)) (relation_of_rows files t) (condition_of nodes)
          → BeginsAnswer db files (query.Select list name nodes) (Select o)
      select_begins o answer h left tuples ahead =
          let r : Relation = relation_of_rows files t in
          let by : List ℕ → Kinds → Ahead = λ n ks. model.select_ahead n ks (ranges_of t.schema.attributes (condition_of nodes)) r (condition_of nodes) in
          record {
            rows = select_answer ∙ h ∙ ap (λ (l : List (List Value)). Ok l) (sym left);
            reads = ap (λ (n : List ℕ). n ∷ []) (ap (λ (z : Tuples). z.schema.name) tuples ∙ name_found name 0 k t held.relations e);
            ahead =
                ap (option_map (λ (s : ℕ × Relation). model.select_ahead name (kinds_of (indexes_of db s.0)) (ranges_of s.1.schema.attributes (condition_of nodes)) s.1 (condition_of nodes))) (found name k t e)
                ∙ ap (λ (ks : Kinds). Some (by name ks)) (kinds_held files held opens k t)
                ∙ ap (λ (n : List ℕ). Some (by n (kinds (infos_of k t held.indexes)))) (sym (name_found name 0 k t held.relations e))
                ∙ ap (λ (a : Ahead). Some a) (sym ahead);
          }

      pub select_price : open_cost db (query.Select list name nodes) ≡ begin_cost (slots_of files t) (plan (kinds (infos_of k t held.indexes)) (ranges_of t.schema.attributes (condition_of nodes)))
      select_price =
          ap (λ (o : Option (ℕ × Relation)). option_map_or (λ s. open_select_cost db s.0 s.1 (condition_of nodes)) o 0) (found name k t e)
          ∙ ap (λ (ks : Kinds). begin_cost (length (rows files t)) (plan ks (ranges_of t.schema.attributes (condition_of nodes)))) (kinds_held files held opens k t)
          ∙ ap (λ (n : ℕ). begin_cost n (plan (kinds (infos_of k t held.indexes)) (ranges_of t.schema.attributes (condition_of nodes)))) (rows_counted files t)

  -- ---- a JOIN

  module _ (left right on : List ℕ) (list : List (List ℕ)) where
    abbrev right_answer : Relation → Result (ℕ × Relation) Refusal → Result (List (List Value)) Refusal
    right_answer l r = ◌>>=◌ r (λ s. join_of on list l s.1)

    abbrev left_answer : Result (ℕ × Relation) Refusal → Result (List (List Value)) Refusal
    left_answer l = ◌>>=◌ l (λ s. right_answer s.1 (named db right))

    pub left_unnamed : cell_from left 0 held.relations ≡ None → answer_of db (query.Join left right on list) ≡ Err no.NoRelation
    left_unnamed e = ap left_answer (named_none files held opens left e)

    module _ (j : ℕ) (s : Tuples) (e : cell_from left 0 held.relations ≡ Some (j, s)) where
      pub right_unnamed : cell_from right 0 held.relations ≡ None → answer_of db (query.Join left right on list) ≡ Err no.NoRelation
      right_unnamed f = ap left_answer (named_some files held opens left j s e) ∙ ap (right_answer (relation_of_rows files s)) (named_none files held opens right f)

      module _ (k : ℕ) (t : Tuples) (f : cell_from right 0 held.relations ≡ Some (k, t)) where
        join_answer : answer_of db (query.Join left right on list) ≡ join_of on list (relation_of_rows files s) (relation_of_rows files t)
        join_answer = ap left_answer (named_some files held opens left j s e) ∙ ap (right_answer (relation_of_rows files s)) (named_some files held opens right k t f)

        pub join_refused : (refusal : Refusal) → join_of on list (relation_of_rows files s) (relation_of_rows files t) ≡ Err refusal → answer_of db (query.Join left right on list) ≡ Err refusal
        join_refused refusal h = join_answer ∙ h

        pub join_begins : (o : OpenJoin) (answer : List (List Value)) (left_on right_on : ℕ) → join_of on list (relation_of_rows files s) (relation_of_rows files t) ≡ Ok answer → join_left files o ≡ answer
            → place_of on s.schema.attributes ≡ Some left_on → place_of on t.schema.attributes ≡ Some right_on → o.cursor.left ≡ s → o.cursor.right ≡ t
            → ahead_of_join files o ≡ model.join_ahead s.schema.name t.schema.name (left_on, right_on) (kinds (infos_of k t held.indexes)) (rows files s) (rows files t)
            → BeginsAnswer db files (query.Join left right on list) (Join o)
        join_begins o answer left_on right_on h is lo ro le re ahead =
            let l : Relation = relation_of_rows files s in
            let r : Relation = relation_of_rows files t in
            let name_l : s.schema.name ≡ left = name_found left 0 j s held.relations e in
            let name_r : t.schema.name ≡ right = name_found right 0 k t held.relations f in
            let by : List ℕ → List ℕ → ℕ × ℕ → Kinds → Ahead = λ m n places ks. model.join_ahead m n places ks l.rows r.rows in
            let of_right : ℕ × Relation → Option (ℕ × Relation) → Option Ahead = λ a o.
            option_map (λ (b : ℕ × Relation). model.join_ahead left right (places_of on a.1 b.1) (kinds_of (indexes_of db b.0)) a.1.rows b.1.rows) o in
            record {
              rows = join_answer ∙ h ∙ ap (λ (x : List (List Value)). Ok x) (sym is);
              reads =
                  let names : o.cursor.left.schema.name ∷ o.cursor.right.schema.name ∷ [] ≡ s.schema.name ∷ t.schema.name ∷ [] = λ i. (le i).schema.name ∷ (re i).schema.name ∷ [] in
                  let wanted : s.schema.name ∷ t.schema.name ∷ [] ≡ left ∷ right ∷ [] = λ i. name_l i ∷ name_r i ∷ [] in
                  names ∙ wanted;
              ahead =
                  let places : by left right (places_of on l r) (kinds_of (indexes_of db k)) ≡ by left right (left_on, right_on) (kinds (infos_of k t held.indexes)) =
                  λ i. by left right (unwrap_or (lo i) 0, unwrap_or (ro i) 0) (kinds_held files held opens k t i) in
                  let names : by left right (left_on, right_on) (kinds (infos_of k t held.indexes)) ≡ by s.schema.name t.schema.name (left_on, right_on) (kinds (infos_of k t held.indexes)) =
                  λ i. by (sym name_l i) (sym name_r i) (left_on, right_on) (kinds (infos_of k t held.indexes)) in
                  ap (option_and_then (λ (a : ℕ × Relation). of_right a (relation_named db right))) (found left j s e)
                  ∙ ap (of_right (j, l)) (found right k t f)
                  ∙ ap (λ (a : Ahead). Some a) (places ∙ names ∙ sym ahead);
            }
