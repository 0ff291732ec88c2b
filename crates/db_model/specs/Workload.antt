-- The generated workload, and the line that sums it up.
use Rattle.std.specs.Prelude.{ℕ, pos, zero, suc, ◌+◌, ◌*◌, ◌/◌, ◌%◌, ◌^◌, ◌==◌, List, [], ◌∷◌, ◌++◌, length, if◌then◌else◌, bit_xor, codes, decimal}
use Rattle.db_model.specs.declared.commands.Agg.TheVariants as agg
use Rattle.db_model.specs.declared.commands.Command.{Command}
use Rattle.db_model.specs.declared.commands.Command.TheVariants.{CreateRelation, CreateAttribute, CreateIndex, Insert, Aggregate}
use Rattle.db_model.specs.declared.commands.Compare.TheVariants as compare
use Rattle.db_model.specs.declared.commands.Node.TheVariants as node
use Rattle.db_model.specs.declared.schemas.DomainAsked.TheVariants as asked
use Rattle.db_model.specs.declared.schemas.IndexKind.TheVariants.{MaxHeap}
use Rattle.db_model.specs.declared.values.Value.TheVariants.{Number}
use Rattle.db_model.specs.Database.{Database}
use Rattle.db_model.specs.ReplyText.{line}
use Rattle.db_model.specs.Step.{replies, Reply, Fine, Rows, Numbers, Removed, Refused}

-- the number of command k for a seed, from 0 to 511; products and sums are of 32 bits
abbrev pub drawn : ℕ → ℕ → ℕ
drawn seed k = (bit_xor seed (k * 2654435761 % 2 ^ 32) * 1664525 + 1013904223) % 2 ^ 32 / 65536 % 512

-- SELECT COUNT(v) FROM w WHERE k = x
abbrev pub counting : ℕ → Command
counting x = Aggregate ((agg.Count, codes "v") ∷ []) (codes "w") (node.Attribute (codes "k") ∷ node.Number (pos x) ∷ node.Compare compare.Eq ∷ [])

-- INSERT (x, k mod 1000) INTO w
abbrev pub inserting : ℕ → ℕ → Command
inserting x k = Insert (Number (pos x) ∷ Number (pos (k % 1000)) ∷ []) (codes "w")

-- command number k for a seed, from 0: a relation, two attributes and an index, then a query in each 64 commands and else an insert
abbrev pub command_at : ℕ → ℕ → Command
command_at seed k =
    if k == 0 then CreateRelation (codes "w") else
    (if k == 1 then CreateAttribute (codes "k") asked.Long (codes "w") else
    (if k == 2 then CreateAttribute (codes "v") asked.Int (codes "w") else
    (if k == 3 then CreateIndex (codes "w") (codes "k") MaxHeap else
    (if k % 64 == 63 then counting (drawn seed k) else inserting (drawn seed k) k))))

-- the first n commands
abbrev pub first_commands : ℕ → ℕ → List Command
first_commands seed zero = []
first_commands seed (suc n) = first_commands seed n ++ command_at seed n ∷ []

-- how many commands were replied to, how many by `ok`, the sum of the numbers in `rows` lines, and the refusals
pub record Tally : Type 0 where
  pub commands : ℕ
  pub fine : ℕ
  pub rows : ℕ
  pub refused : ℕ

abbrev pub counted : Tally → Reply → Tally
counted t Fine = record t { commands = t.commands + 1; fine = t.fine + 1 }
counted t (Rows rows) = record t { commands = t.commands + 1; rows = t.rows + length rows }
counted t (Numbers numbers) = record t { commands = t.commands + 1; rows = t.rows + 1 }
counted t (Removed n) = record t { commands = t.commands + 1; rows = t.rows + n }
counted t (Refused refusal) = record t { commands = t.commands + 1; refused = t.refused + 1 }

abbrev pub nothing : Tally
nothing = record { commands = 0; fine = 0; rows = 0; refused = 0 }

abbrev pub tally : Tally → List Reply → Tally
tally t [] = t
tally t (reply ∷ replies) = tally (counted t reply) replies

unfoldable pub tally_text : Tally → List ℕ
tally_text t =
    line (codes "commands " ++ decimal t.commands ++ codes " ok " ++ decimal t.fine ++ codes " rows " ++ decimal t.rows ++ codes " refused " ++ decimal t.refused)

-- the line over the first n commands
abbrev pub summary : Database → ℕ → ℕ → List ℕ
summary db seed n = tally_text (tally nothing (replies db (first_commands seed n)))
