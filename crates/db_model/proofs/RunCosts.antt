-- The costs of entries add up, and a worked run.
use Rattle.std.proofs.Common.{◌≡◌, refl, ℕ, ◌+◌, ◌≤◌, List, [], ◌∷◌, ◌++◌, Some, None, true, false, arith}
use Rattle.std.specs.Prelude.{pos, Result, codes, replicate}
use Rattle.db_model.specs.declared.commands.Command.{Command}
use Rattle.db_model.specs.declared.commands.Command.TheVariants.{OpenCursor}
use Rattle.db_model.specs.declared.commands.Query.TheVariants.{Select, Join}
use Rattle.db_model.specs.declared.refusals.Refusal.{Refusal}
use Rattle.db_model.specs.declared.schemas.Domain.TheVariants.{Int}
use Rattle.db_model.specs.declared.values.Value.TheVariants.{Number}
use Rattle.db_model.specs.Ahead.{Aheads}
use Rattle.db_model.specs.Database.{Database, empty_database}
use Rattle.db_model.specs.Row.{Row}
use Rattle.db_model.specs.RunCost.{costs, entry_aheads, entry_cost, last_aheads}
use Rattle.db_model.specs.Script.{Entry, after, last}

module _ (read : List ℕ → Result Command Refusal) where
  pub costs_append : (db : Database) (aheads : Aheads) (xs ys : List Entry) → costs read db aheads (xs ++ ys) ≡ costs read db aheads xs + costs read (last read db xs) (last_aheads read db aheads xs) ys
  costs_append db aheads [] ys = omega arith
  costs_append db aheads (x ∷ xs) ys = let e = costs_append ((after read db x).0) (entry_aheads read db aheads x) xs ys in omega (arith, e)

  pub last_aheads_append : (db : Database) (aheads : Aheads) (xs ys : List Entry) → last_aheads read db aheads (xs ++ ys) ≡ last_aheads read (last read db xs) (last_aheads read db aheads xs) ys
  last_aheads_append db aheads [] ys = refl
  last_aheads_append db aheads (x ∷ xs) ys = last_aheads_append ((after read db x).0) (entry_aheads read db aheads x) xs ys

  -- the first entries cost no more than all
  pub costs_front : (db : Database) (aheads : Aheads) (xs ys : List Entry) → costs read db aheads xs ≤ costs read db aheads (xs ++ ys)
  costs_front db aheads xs ys = let e = costs_append db aheads xs ys in omega (arith, e)

  -- one entry more
  pub costs_more : (db : Database) (aheads : Aheads) (xs : List Entry) (x : Entry) (before now cost start : ℕ)
      → before ≤ start + costs read db aheads xs → now ≤ before + cost → cost ≤ entry_cost read (last read db xs) (last_aheads read db aheads xs) x → now ≤ start + costs read db aheads (xs ++ x ∷ [])
  costs_more db aheads xs x before now cost start a b c = let e = costs_append db aheads xs (x ∷ []) in omega (arith, a, b, c, e)

-- ---- a worked run: three rows, the second removed

abbrev value : ℕ → Row
value n = record { tuple = Number (pos n) ∷ []; live = true }

abbrev three : Database
three = record empty_database {
  relations = Some (record { schema = record { name = codes "n"; attributes = record { name = codes "v"; domain = Int } ∷ [] }; rows = value 5 ∷ record (value 6) { live = false } ∷ value 7 ∷ [] }) ∷ replicate 7 None;
}

abbrev opening : Command
opening = OpenCursor (pos 1) (Select (codes "v" ∷ []) (codes "n") [])

abbrev joining : Command
joining = OpenCursor (pos 2) (Join (codes "n") (codes "n") (codes "v") (codes "v" ∷ []))
