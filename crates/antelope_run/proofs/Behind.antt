-- What follows once a session is closed, by what came before.
use Rattle.std.proofs.Common.{◌≡◌, ◌≤◌, ◌⊎◌, inl, inr, ℕ, Bool, true, false, List, ◌++◌, Option, refl, subst, sym, arith}
use Rattle.std.specs.Prelude.{⊤, Result, Ok, Err}
use Rattle.afl_base.specs.Causes.{Rose}
use Rattle.afl_base.specs.declared.fault.Fault.{Fault}
use Rattle.afl_base.specs.declared.fault.Fault.TheVariants as fault
use Rattle.dump.proofs.Items.{appends_behind, appends_front, held_behind}
use Rattle.dump.specs.Appends.{AppendsText}
use Rattle.run_input.specs.declared.ending.Ending.TheVariants.{Space, Flash, Sink}
use Rattle.run_input.specs.declared.ending.InputEnding.{InputEnding}
use Rattle.run_input.specs.declared.ending.InputEnding.TheVariants.{Input, Long, Early}
use Rattle.reply_text.proofs.Pieces.{less_behind, less_front}
use Rattle.run_words.specs.declared.words.Form.{Form}
use Rattle.run_words.specs.declared.words.Form.TheVariants.{Run, Gen, Plan, Serve, Dump, Look}
use Rattle.antelope_run.specs.Steps.{ReachesBy}
use Rattle.antelope_run.specs.Does.{OnlyHalts, Wrote, stopped}
use Rattle.antelope_run.specs.Follows.{WritesBehind, is_look}
use Rattle.antelope_run.proofs.Halts.{reaches_none}

-- a text that was written, or a part of it
pub wrote_by : (held held_now : Option (List ℕ)) (text : List ℕ) (done : Result ⊤ Fault) → AppendsText done held held_now text → Wrote held held_now text (stopped done)
wrote_by held held_now text (Ok x) h = h
wrote_by held held_now text (Err fault.Sink) h = h
wrote_by held held_now text (Err fault.Flash) h = h

stays : (h0 h1 h2 : Option (List ℕ)) (text : List ℕ) (done result : Result ⊤ InputEnding) → result ≡ done → h2 ≡ h1 → Wrote h0 h1 text done → Wrote h0 h2 text result
stays h0 h1 h2 text done result e f w = subst (λ r. Wrote h0 h2 text r) (sym e) (subst (λ h. Wrote h0 h text done) (sym f) w)

-- a text and a line behind it
pub wrote_on : (h0 h1 h2 : Option (List ℕ)) (text line : List ℕ) (done result : Result ⊤ InputEnding) → Wrote h0 h1 text done → WritesBehind line done result h1 h2 → Wrote h0 h2 (text ++ line) result
wrote_on h0 h1 h2 text line (Ok x) (Ok y) w v = held_behind h0 text line w v
wrote_on h0 h1 h2 text line (Ok x) (Err (Early Sink)) w v = less_behind h0 h1 h2 text line w v
wrote_on h0 h1 h2 text line (Ok x) (Err (Early Flash)) w v = appends_behind (Err fault.Flash) h0 h1 h2 text line w v
wrote_on h0 h1 h2 text line (Ok x) (Err (Early Space)) w v = absurd v
wrote_on h0 h1 h2 text line (Ok x) (Err Input) w v = absurd v
wrote_on h0 h1 h2 text line (Ok x) (Err Long) w v = absurd v
wrote_on h0 h1 h2 text line (Err (Early Sink)) result w v = stays h0 h1 h2 (text ++ line) (Err (Early Sink)) result v.0 v.1 (less_front h0 h1 text line w)
wrote_on h0 h1 h2 text line (Err (Early Flash)) result w v = stays h0 h1 h2 (text ++ line) (Err (Early Flash)) result v.0 v.1 (appends_front fault.Flash h0 h1 text line w)
wrote_on h0 h1 h2 text line (Err (Early Space)) result w v = absurd w
wrote_on h0 h1 h2 text line (Err Input) result w v = absurd w
wrote_on h0 h1 h2 text line (Err Long) result w v = absurd w

-- ---- how far an input came

module _ (left left_now : Option (List ℕ)) (done result : Result ⊤ InputEnding) where
  reaches_same : (form : Form) → result ≡ done → ReachesBy form done left left_now → ReachesBy form result left left_now
  reaches_same form e h = subst (λ r. ReachesBy form r left left_now) (sym e) h

  pub reaches_on : (form : Form) → (is_look form ≡ false → result ≡ done) → (result ≡ done) ⊎ OnlyHalts result → ReachesBy form done left left_now → ReachesBy form result left left_now
  reaches_on Run same halts h = reaches_same Run (same refl) h
  reaches_on Serve same halts h = reaches_same Serve (same refl) h
  reaches_on (Gen seed count) same halts h = reaches_same (Gen seed count) (same refl) h
  reaches_on (Plan rows) same halts h = reaches_same (Plan rows) (same refl) h
  reaches_on Dump same halts h = reaches_same Dump (same refl) h
  reaches_on Look same (inl e) h = reaches_same Look e h
  reaches_on Look same (inr only) h = reaches_none Look left left_now (λ takes. takes) result only

-- ---- causes

-- a count that rose before or rose since
pub rose_by : {P : Type 0} (a b c : ℕ) → a ≤ b → b ≤ c → (P → Rose a b) → P ⊎ Rose b c → Rose a c
rose_by a b c low high before (inl p) = let r = before p in omega (arith, r, high)
rose_by a b c low high before (inr r) = omega (arith, r, low)

-- nothing follows, or the count did not fall before
pub rose_when : {P : Type 0} (looks : Bool) (a b c : ℕ) → (looks ≡ true → a ≤ b) → (looks ≡ false → P) → b ≤ c → (P → Rose a b) → P ⊎ Rose b c → Rose a c
rose_when true a b c low other high before e = rose_by a b c (low refl) high before e
rose_when false a b c low other high before e = let r = before (other refl) in omega (arith, r, high)

pub no_input : {P : Type 0} (result : Result ⊤ InputEnding) → OnlyHalts result → result ≡ Err Input → P
no_input result only e = absurd (subst OnlyHalts e only)
