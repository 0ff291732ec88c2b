-- What a run over an input reads.
use Rattle.std.proofs.Common.{◌≡◌, ℕ, ◌+◌, ◌≤◌, List, ◌++◌, Option, Some, subst, sym, arith}
use Rattle.std.specs.Prelude.{⊤, Result, Ok, Err}
use Rattle.std.specs.List.{AllByRecursion}
use Rattle.run_input.specs.declared.ending.InputEnding.{InputEnding}
use Rattle.run_input.specs.declared.ending.InputEnding.TheVariants.{Input, Long, Early}
use Rattle.run_entries.specs.Carried.{Limits, Standing}
use Rattle.run_entries.specs.Went.{Went}
use Rattle.run_model.specs.Line.{Line}
use Rattle.run_model.specs.Talk.{AsksToRead, Talk, talk_costs}
use Rattle.run_model.proofs.Talks.{costs-append}
use Rattle.antelope_run.proofs.Fronts.{HasFronts, all_front, entries_front, longer_front, whole_front}
use Rattle.padded.proofs.Facts.{all_front as all_first}

module _ {E : Type 0} (line : Line E) (has : HasFronts line) (talk : Talk E) (a b : Standing) (left left_now : Option (List ℕ)) (limits : Limits) where
  -- the first entries cost no more than all
  first_cost : (entries rest all : List E) → all ≡ entries ++ rest → AllByRecursion (AsksToRead talk) all
      → (AllByRecursion (AsksToRead talk) entries → b.reads ≤ a.reads + talk_costs talk a.database a.aheads entries)
      → b.reads ≤ a.reads + talk_costs talk a.database a.aheads all
  first_cost entries rest all is reads bound =
      let few = bound (all_first (AsksToRead talk) entries rest (subst (λ (es : List E). AllByRecursion (AsksToRead talk) es) is reads)) in
      let sum = costs-append talk a.database a.aheads entries rest in
      subst (λ (es : List E). b.reads ≤ a.reads + talk_costs talk a.database a.aheads es) (sym is) (omega (arith, few, sum))

  pub reads_few : (result : Result ⊤ InputEnding) → Went line talk a b left left_now limits result → (text : List ℕ) → left ≡ Some text → AllByRecursion (AsksToRead talk) (line.all text)
      → b.reads ≤ a.reads + talk_costs talk a.database a.aheads (line.all text)
  reads_few (Ok done) w text told all =
      let f = all_front line has text left left_now told w.bytes w.came w.at_end in
      first_cost (line.all w.bytes) f.0 (line.all text) f.1 all w.carried.reads
  reads_few (Err Input) w text told all =
      let f = whole_front line has text left left_now told w.bytes w.came in
      first_cost (line.whole w.bytes) f.0 (line.all text) f.1 all w.carried.reads
  reads_few (Err Long) w text told all =
      let f = longer_front line has text left left_now told w.bytes w.more w.came in
      first_cost (line.whole w.bytes) f.0 (line.all text) f.1 all w.carried.reads
  reads_few (Err (Early halt)) w text told all =
      let f = entries_front line has text left left_now told w.bytes w.entries w.came w.are in
      first_cost w.entries f.0 (line.all text) f.1 all w.halts.reads
