-- INSERT, refusal by refusal.
use Rattle.std.proofs.Common.{◌≡◌, ℕ, ◌-◌, ◌<◌, ◌≤◌, Bool, true, false, List, [], ◌∷◌, ◌++◌, length, map, None, Ok, Err, refl, ap, ◌∙◌, arith}
use Rattle.std.specs.Prelude.{◌&&◌, slice_get, nat_le}
use Rattle.std.specs.List.{list_any}
use Rattle.std.proofs.lemmas.Bool.Decides.{nat_tests}
use Rattle.db_model.specs.declared.refusals.Pool.TheVariants as pool
use Rattle.db_model.specs.declared.refusals.Refusal.TheVariants as no
use Rattle.db_model.specs.declared.values.Value.{Value}
use Rattle.db_model.specs.Database.{Database, Relation, indexes_of, is_hash_table}
use Rattle.db_model.specs.Step.{Fine, fallen, insert_into, slots_limit, unsuited}
use Rattle.index_set.specs.declared.info.IndexInfo.{IndexInfo}
use Rattle.session_model.specs.Indexed.{index_of_info}
use Rattle.session_rows.specs.Refused.{is_table_index}
use Rattle.session_rows.proofs.Ordered.{tables_seen}

-- a row that suits, for which there is a slot, and which falls behind nothing
pub record Passes (values : List Value) (version slot : ℕ) (infos : List IndexInfo) (r : Relation) : Type 0 where
  pub suited : unsuited r.schema.attributes values ≡ None
  pub room : length r.rows < slots_limit version
  pub follows : fallen (map (index_of_info slot) infos) (slice_get r.rows (length r.rows - 1)) values ≡ None

module _ (values : List Value) (version slot : ℕ) (infos : List IndexInfo) (r : Relation) (p : Passes values version slot infos r) (db : Database) (v : db.version ≡ version)
    (indexes : indexes_of db slot ≡ map (index_of_info slot) infos) where
  room_in : nat_le (slots_limit db.version) (length r.rows) ≡ false
  room_in = let h : length r.rows < slots_limit version = p.room in ap (λ (n : ℕ). nat_le (slots_limit n) (length r.rows)) v ∙ test (slots_limit version) h
    where
      test : (limit : ℕ) → length r.rows < limit → nat_le limit (length r.rows) ≡ false
      test limit h = grind (arith, nat_tests)

  follows_in : fallen (indexes_of db slot) (slice_get r.rows (length r.rows - 1)) values ≡ None
  follows_in = ap (λ is. fallen is (slice_get r.rows (length r.rows - 1)) values) indexes ∙ p.follows

  tables_in : (list_any is_hash_table (indexes_of db slot)) ≡ list_any is_table_index infos
  tables_in = ap (list_any is_hash_table) indexes ∙ tables_seen slot infos

  pub too_many_entries : list_any is_table_index infos ≡ true → 2048 ≤ length r.rows → insert_into values slot db r ≡ Err (no.Full pool.HashEntries 2048)
  too_many_entries some many =
      let full : (list_any is_hash_table (indexes_of db slot) && nat_le 2048 (length r.rows)) ≡ true = ap (λ (b : Bool). b && nat_le 2048 (length r.rows)) (tables_in ∙ some) ∙ grind (arith, nat_tests) in
      rw (p.suited, room_in, follows_in, full) refl

  pub inserts : (list_any is_table_index infos ≡ true → length r.rows < 2048)
      → insert_into values slot db r ≡ Ok (record { schema = r.schema; rows = r.rows ++ record { tuple = values; live = true } ∷ [] }, Fine)
  inserts few =
      let full : (list_any is_hash_table (indexes_of db slot) && nat_le 2048 (length r.rows)) ≡ false = ap (λ (b : Bool). b && nat_le 2048 (length r.rows)) tables_in ∙ test (list_any is_table_index infos) few in
      rw (p.suited, room_in, follows_in, full) refl
    where
      test : (b : Bool) → (b ≡ true → length r.rows < 2048) → (b && nat_le 2048 (length r.rows)) ≡ false
      test true few = let h = few refl in grind (arith, nat_tests)
      test false few = refl
