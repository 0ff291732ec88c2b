-- What a run reads, its opening included.
use Rattle.std.proofs.Common.{◌≡◌, ℕ, ◌+◌, ◌-◌, ◌/◌, ◌≤◌, Bool, true, false, List, length, Option, ap, refl, arith}
use Rattle.db_model.specs.Ahead.{Aheads, no_cursors}
use Rattle.db_model.specs.Database.{Database}
use Rattle.db_model.specs.RunCost.{opening_cost}
use Rattle.dump.specs.Parts.{slots_of_all}
use Rattle.run_entries.specs.Carried.{Standing}
use Rattle.run_model.specs.Line.{Line}
use Rattle.run_model.specs.Runs.{ReadsWithin, world}
use Rattle.run_model.specs.Talk.{Talk, talk_costs}
use Rattle.run_model.specs.Scripts.{script_line, script_talk}
use Rattle.run_frames.specs.Frames.{frame_line}
use Rattle.run_frames.specs.Served.{serve_talk}
use Rattle.image_model.specs.Images.{IsSound, base}
use Rattle.run_words.specs.declared.words.Form.{Form}
use Rattle.run_words.specs.declared.words.Form.TheVariants.{Run, Gen, Plan, Serve, Dump, Look}
use Rattle.antelope_run.specs.Does.{CarriedReads, InputReads}
use Rattle.antelope_run.specs.Follows.{is_look}
use Rattle.antelope_run.specs.Promise.{CarriesWithin, ReadsAtMost}

-- what is not true is false
pub not_true : (X : Type 0) (b : Bool) → (b ≡ true → X) → (X → ⊥) → b ≡ false
not_true X true f other = absurd (other (f refl))
not_true X false f other = refl

module _ (image : List ℕ) (left held : Option (List ℕ)) (before : ℕ) where
  module _ (a : Standing) (now : ℕ) (start : a.database ≡ base image) (rest : a.aheads ≡ no_cursors)
      (opened : a.reads ≤ before + opening_cost (base image) (length image / 256)) where
    input_reads : {E : Type 0} (line : Line E) (talk : Talk E) → InputReads line talk a left now → ReadsWithin line talk (world image left held) (now - before)
    input_reads line talk h = λ text told all.
        let few = h text told all in
        let same = ap (λ (db : Database). talk_costs talk db a.aheads (line.all text)) start in
        let same_aheads = ap (λ (aheads : Aheads). talk_costs talk (base image) aheads (line.all text)) rest in
        omega (arith, few, same, same_aheads, opened)

    reads_by : (form : Form) → CarriedReads form a left now → CarriesWithin form (world image left held) (now - before)
    reads_by Run h = λ read reader. input_reads script_line (script_talk read) (h read reader)
    reads_by Serve h = λ read reader. input_reads frame_line (serve_talk read) (h read reader)
    reads_by (Gen seed count) h = tt
    reads_by (Plan rows) h = omega (arith, h, opened)
    reads_by Dump h =
        let slots = ap (λ (db : Database). slots_of_all db.relations) start in
        omega (arith, h, opened, slots)
    reads_by Look h =
        let slots = ap (λ (db : Database). slots_of_all db.relations) start in
        omega (arith, h, opened, slots)

    -- and then the flash was read page by page, where the words ask what stands on it
    behind : (late : ℕ) → late ≤ now + length image / 256 → (form : Form) → (is_look form ≡ false → late ≡ now) → CarriedReads form a left now
        → CarriesWithin form (world image left held) (late - before)
    behind late few Run same h = rw (same refl) (reads_by Run h)
    behind late few Serve same h = rw (same refl) (reads_by Serve h)
    behind late few (Gen seed count) same h = tt
    behind late few (Plan rows) same h = rw (same refl) (reads_by (Plan rows) h)
    behind late few Dump same h = rw (same refl) (reads_by Dump h)
    behind late few Look same h =
        let slots = ap (λ (db : Database). slots_of_all db.relations) start in
        omega (arith, h, few, opened, slots)

    pub reads_behind : (late : ℕ) → late ≤ now + length image / 256 → (form : Form) → (is_look form ≡ false → late ≡ now) → IsSound image → CarriedReads form a left now
        → ReadsAtMost form (world image left held) (late - before)
    reads_behind late few form same sound h = record { refused = λ unsound. absurd (unsound sound); carried = behind late few form same h }

  unopened : (form : Form) (now : ℕ) → now ≤ before + opening_cost (base image) (length image / 256) → CarriesWithin form (world image left held) (now - before)
  unopened Run now h = λ read reader text told all. omega (arith, h)
  unopened Serve now h = λ read reader text told all. omega (arith, h)
  unopened (Gen seed count) now h = tt
  unopened (Plan rows) now h = omega (arith, h)
  unopened Dump now h = omega (arith, h)
  unopened Look now h = omega (arith, h)

  -- where no session was opened
  pub unopened_reads : (form : Form) (now : ℕ) → now ≤ before + opening_cost (base image) (length image / 256) → ReadsAtMost form (world image left held) (now - before)
  unopened_reads form now h = record { refused = λ unsound. omega (arith, h); carried = unopened form now h }
