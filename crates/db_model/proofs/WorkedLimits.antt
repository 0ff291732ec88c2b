-- Worked examples of full pools and of the generated workload, computed over the definitions.
use Rattle.std.proofs.Common.{◌≡◌, refl, ℕ, pos, List, [], ◌∷◌, ◌++◌, Option, Some, None, true, ◌+◌}
use Rattle.std.specs.Prelude.{codes, replicate, map}
use Rattle.std.specs.List.{range_with_len}
use Rattle.db_model.specs.declared.commands.Command.{Command}
use Rattle.db_model.specs.declared.commands.Command.TheVariants.{CreateRelation, CreateAttribute, CreateIndex, Insert}
use Rattle.db_model.specs.declared.refusals.Pool.TheVariants as pool
use Rattle.db_model.specs.declared.refusals.Refusal.TheVariants as no
use Rattle.db_model.specs.declared.schemas.Domain.TheVariants.{Int}
use Rattle.db_model.specs.declared.schemas.DomainAsked.TheVariants as asked
use Rattle.db_model.specs.declared.schemas.IndexKind.TheVariants.{MaxHeap, MemHash}
use Rattle.db_model.specs.declared.values.Value.TheVariants.{Number}
use Rattle.db_model.specs.Catalog.{Index}
use Rattle.db_model.specs.Database.{Database, empty_database}
use Rattle.db_model.specs.Step.{Fine, Refused, replies, step, after_all}
use Rattle.db_model.specs.Workload.{tally, nothing, first_commands}

-- names a, b, c, ..
abbrev letter : ℕ → List ℕ
letter k = (97 + k) ∷ []

abbrev N : List ℕ
N = codes "n"

pub ninth_relation : replies empty_database (map (λ k. CreateRelation (letter k)) (range_with_len 0 9)) ≡ replicate 8 Fine ++ Refused (no.Full pool.Relations 8) ∷ []
ninth_relation = refl

pub ninth_attribute :
    replies empty_database (CreateRelation N ∷ map (λ k. CreateAttribute (letter k) asked.Int N) (range_with_len 0 9)) ≡ replicate 9 Fine ++ Refused (no.Full pool.Attributes 8) ∷ []
ninth_attribute = refl

pub fourth_long_text :
    replies empty_database (CreateRelation N ∷ map (λ k. CreateAttribute (letter k) (asked.Str (pos 32)) N) (range_with_len 0 4))
    ≡ replicate 4 Fine ++ Refused (no.Full pool.RowBytes 128) ∷ []
fourth_long_text = refl

abbrev eight_attributes : List ℕ → List Command
eight_attributes name = CreateRelation name ∷ map (λ k. CreateAttribute (letter k) asked.Int name) (range_with_len 0 8)

pub ninth_index :
    replies
    (after_all empty_database (eight_attributes N ++ eight_attributes (codes "m")))
    (map (λ k. CreateIndex N (letter k) MaxHeap) (range_with_len 0 8) ++ CreateIndex (codes "m") (letter 0) MaxHeap ∷ [])
    ≡ replicate 8 Fine ++ Refused (no.Full pool.Indexes 8) ∷ []
ninth_index = refl

pub third_hash_table :
    replies (after_all empty_database (eight_attributes N)) (map (λ k. CreateIndex N (letter k) MemHash) (range_with_len 0 3))
    ≡ Fine ∷ Fine ∷ Refused (no.Full pool.HashTables 2) ∷ []
third_hash_table = refl

-- a relation n of one INT attribute v, with so many rows
abbrev with_rows : ℕ → ℕ → List (Option Index) → Database
with_rows version rows indexes = record {
  version = version;
  relations =
      Some (record {
        schema = record { name = N; attributes = record { name = codes "v"; domain = Int } ∷ [] };
        rows = replicate rows (record { tuple = Number (pos 1) ∷ []; live = true });
      })
      ∷ replicate 7 None;
  indexes = indexes;
  cursors = replicate 4 None;
}

abbrev one_more : Command
one_more = Insert (Number (pos 1) ∷ []) N

abbrev hashed : List (Option Index)
hashed = Some (record { kind = MemHash; relation = 0; attribute = 0 }) ∷ replicate 7 None

pub last_hash_entry : (step (with_rows 2 2047 hashed) one_more).1 ≡ Fine
last_hash_entry = refl

pub hash_entry_too_many : (step (with_rows 2 2048 hashed) one_more).1 ≡ Refused (no.Full pool.HashEntries 2048)
hash_entry_too_many = refl

pub hash_table_of_too_many : (step (with_rows 2 2049 (replicate 8 None)) (CreateIndex N (codes "v") MemHash)).1 ≡ Refused (no.Full pool.HashEntries 2048)
hash_table_of_too_many = refl

pub slots_of_version_1 : (step (with_rows 1 16384 (replicate 8 None)) one_more).1 ≡ Refused (no.Full pool.Slots 16384)
slots_of_version_1 = refl

pub slots_of_version_2 : replies (with_rows 1 16384 (replicate 8 None)) (one_more ∷ CreateRelation (codes "m") ∷ one_more ∷ []) ≡ Refused (no.Full pool.Slots 16384) ∷ Fine ∷ Fine ∷ []
slots_of_version_2 = refl

pub slot_too_many : (step (with_rows 2 32768 (replicate 8 None)) one_more).1 ≡ Refused (no.Full pool.Slots 32768)
slot_too_many = refl

-- ---- the generated workload

pub four_generated : tally nothing (replies empty_database (first_commands 1 4)) ≡ record { commands = 4; fine = 4; rows = 0; refused = 0 }
four_generated = refl

pub sixty_four_generated : tally nothing (replies empty_database (first_commands 1 64)) ≡ record { commands = 64; fine = 63; rows = 1; refused = 0 }
sixty_four_generated = refl
