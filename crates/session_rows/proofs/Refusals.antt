-- REMOVE FROM in a session, refusal by refusal.
use Rattle.std.proofs.Common.{◌≡◌, ℕ, List, [], length, map, Option, Some, None, refl, ap, sym, subst, ◌∙◌, Ok, Err}
use Rattle.std.specs.Prelude.{IsOk, Result}
use Rattle.std.proofs.lemmas.Bool.{false≢true}
use Rattle.afl_base.specs.Files.{Table}
use Rattle.db_model.specs.declared.refusals.Refusal.{Refusal}
use Rattle.db_model.specs.declared.refusals.Refusal.TheVariants as no
use Rattle.db_model.specs.declared.schemas.Attribute.{Attribute}
use Rattle.db_model.specs.Answers.{selected}
use Rattle.db_model.specs.Cond.{Cond}
use Rattle.db_model.specs.Database.{Database, Relation, reader_of}
use Rattle.db_model.specs.Refusing.{◌>>◌, refuse_found}
use Rattle.db_model.specs.Row.{Row}
use Rattle.db_model.specs.Step.{Reply, Removed, keys, remove_from, removed_row}
use Rattle.db_model.proofs.SoundRows.{keys_removed}
use Rattle.db_model.specs.Typing.{ill_typed, missing_name}
use Rattle.lvm.specs.Code.{first_refusal, first_ill_typed, first_missing_name, refusal}
use Rattle.lvm.proofs.Counting.{ill_typed-behind, missing_name-behind}
use Rattle.tuple_file.specs.declared.tuples.Tuples.{Tuples}
use Rattle.tuple_file.specs.Tuples.{rows}
use Rattle.session_model.specs.declared.answer.Answer.{Answer}
use Rattle.session_model.specs.declared.answer.Answer.TheVariants as answer
use Rattle.session_model.specs.declared.held.Held.{Held}
use Rattle.session_model.specs.declared.held.Open.{Open}
use Rattle.session_model.specs.Answers.{Changed}
use Rattle.session_model.specs.View.{relation_of_rows, view}
use Rattle.session_rows.specs.Removals.{IsRemoval}

-- ---- what the machine makes of it

abbrev tried : {A : Type 0} → Option ℕ → Option ℕ → Result A Refusal → Result A Refusal
tried missing ill rest = ◌>>◌ (refuse_found missing no.NoAttribute) (◌>>◌ (refuse_found ill no.IllTyped) rest)

tried_some : {A : Type 0} (missing ill : Option ℕ) (rest : Result A Refusal) (r : Refusal) → first_refusal missing ill ≡ Some r → tried missing ill rest ≡ Err r
tried_some (Some nth) ill rest r e = let same : no.NoAttribute nth ≡ r = cc in ap (λ (x : Refusal). Err x) same
tried_some None (Some nth) rest r e = let same : no.IllTyped nth ≡ r = cc in ap (λ (x : Refusal). Err x) same
tried_some None None rest r e = absurd (cc)

tried_none : {A : Type 0} (missing ill : Option ℕ) (rest : Result A Refusal) → first_refusal missing ill ≡ None → tried missing ill rest ≡ rest
tried_none (Some nth) ill rest e = absurd (cc)
tried_none None (Some nth) rest e = absurd (cc)
tried_none None None rest e = refl

module _ (condition : Option Cond) (k : ℕ) (db : Database) (r : Relation) where
  abbrev removed_all : Result (Relation × Reply) Refusal
  removed_all = Ok (record { schema = r.schema; rows = map (removed_row r.schema.attributes condition) r.rows }, Removed (length (selected r.schema.attributes condition r.rows)))

  abbrev in_turn : Result (Relation × Reply) Refusal
  in_turn = ◌>>◌ (refuse_found (reader_of db r.schema.name) no.InUse) removed_all

  by_turns : remove_from condition k db r ≡ tried (first_missing_name 0 r.schema.attributes condition) (first_ill_typed 0 r.schema.attributes condition) in_turn
  by_turns = λ i. tried (missing_name-behind r.schema.attributes [] condition refl i) (ill_typed-behind r.schema.attributes [] condition refl i) in_turn

  by_refusal : (n : Refusal) → refusal 0 r.schema.attributes condition ≡ Some n → remove_from condition k db r ≡ Err n
  by_refusal n e = by_turns ∙ tried_some (first_missing_name 0 r.schema.attributes condition) (first_ill_typed 0 r.schema.attributes condition) in_turn n e

  by_reader : (n : ℕ) → refusal 0 r.schema.attributes condition ≡ None → reader_of db r.schema.name ≡ Some n → remove_from condition k db r ≡ Err (no.InUse n)
  by_reader n e reads = by_turns ∙ tried_none (first_missing_name 0 r.schema.attributes condition) (first_ill_typed 0 r.schema.attributes condition) in_turn e ∙ ap (λ (o : Option ℕ). ◌>>◌ (refuse_found o no.InUse) removed_all) reads

  by_none : refusal 0 r.schema.attributes condition ≡ None → reader_of db r.schema.name ≡ None → remove_from condition k db r ≡ removed_all
  by_none e reads = by_turns ∙ tried_none (first_missing_name 0 r.schema.attributes condition) (first_ill_typed 0 r.schema.attributes condition) in_turn e ∙ ap (λ (o : Option ℕ). ◌>>◌ (refuse_found o no.InUse) removed_all) reads

-- one that is not refused
passed : {A : Type 0} (o : Option ℕ) (f : ℕ → Refusal) (rest : Result A Refusal) → IsOk (◌>>◌ (refuse_found o f) rest) → ◌>>◌ (refuse_found o f) rest ≡ rest
passed None f rest ok = refl
passed (Some n) f rest ok = absurd (false≢true ok)

pub accepted_removal : (condition : Option Cond) (k : ℕ) (db : Database) (r : Relation) → IsOk (remove_from condition k db r)
    → remove_from condition k db r ≡ Ok (record { schema = r.schema; rows = map (removed_row r.schema.attributes condition) r.rows }, Removed (length (selected r.schema.attributes condition r.rows)))
accepted_removal condition k db r ok =
    let all = removed_all condition k db r in
    let ill = ill_typed r.schema.attributes [] condition in
    let reads = reader_of db r.schema.name in
    let first = passed (missing_name r.schema.attributes [] condition) no.NoAttribute (◌>>◌ (refuse_found ill no.IllTyped) (◌>>◌ (refuse_found reads no.InUse) all)) ok in
    let second = passed ill no.IllTyped (◌>>◌ (refuse_found reads no.InUse) all) (subst (λ (o : Result (Relation × Reply) Refusal). IsOk o) first ok) in
    let third = passed reads no.InUse all (subst (λ (o : Result (Relation × Reply) Refusal). IsOk o) (first ∙ second) ok) in
    first ∙ second ∙ third

-- ---- in a session

module _ (condition : Option Cond) (files : Table) (held : Held) (opens : List (Option Open)) (k : ℕ) (t : Tuples) where
  pub is_refused : (n : Refusal) → refusal 0 t.schema.attributes condition ≡ Some n → remove_from condition k (view files held opens) (relation_of_rows files t) ≡ Err n
  is_refused n e = by_refusal condition k (view files held opens) (relation_of_rows files t) n e

  pub is_read : (n : ℕ) → refusal 0 t.schema.attributes condition ≡ None → reader_of (view files held opens) t.schema.name ≡ Some n → remove_from condition k (view files held opens) (relation_of_rows files t) ≡ Err (no.InUse n)
  is_read n e reads = by_reader condition k (view files held opens) (relation_of_rows files t) n e reads

  pub removal : (now : Table) (a : Answer) → refusal 0 t.schema.attributes condition ≡ None → reader_of (view files held opens) t.schema.name ≡ None → IsRemoval t.schema.attributes condition (rows files t) (rows now t) a
      → Changed (remove_from condition k (view files held opens) (relation_of_rows files t)) (relation_of_rows files t) (relation_of_rows now t) a
  removal now answer.Fine e reads h = absurd h
  removal now (answer.Refused n) e reads h = absurd h
  removal now (answer.Removed n) e reads h =
      by_none condition k (view files held opens) (relation_of_rows files t) e reads
      ∙ (λ i. Ok (record { schema = t.schema; rows = sym h.0 i }, Removed (sym h.1 i)))
  removal now (answer.NoSpace need) e reads h = (
    rw (by_none condition k (view files held opens) (relation_of_rows files t) e reads) refl,
    ap (λ (rs : List Row). record { schema = t.schema; rows = rs }) h,
  )

  pub may_remove : refusal 0 t.schema.attributes condition ≡ None → reader_of (view files held opens) t.schema.name ≡ None → IsOk (remove_from condition k (view files held opens) (relation_of_rows files t))
  may_remove e reads = rw (by_none condition k (view files held opens) (relation_of_rows files t) e reads) refl

-- removed rows keep their keys
pub removal_keys : (attributes : List Attribute) (condition : Option Cond) (old new : List Row) (a : Answer) → IsRemoval attributes condition old new a → (place : ℕ) → keys place new ≡ keys place old
removal_keys attributes condition old new answer.Fine h place = absurd h
removal_keys attributes condition old new (answer.Refused n) h place = absurd h
removal_keys attributes condition old new (answer.Removed n) h place = ap (keys place) h.0 ∙ keys_removed attributes condition place old
removal_keys attributes condition old new (answer.NoSpace need) h place = ap (keys place) h
