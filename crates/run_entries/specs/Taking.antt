-- What a session makes of the bytes of an input as they come.
use Rattle.std.specs.Prelude.{◌≡◌, ℕ, ◌≤◌, true, false, List, [], ◌∷◌, length, Option, IsTrue, Result}
use Rattle.afl_base.specs.Causes.{Rose}
use Rattle.afl_base.specs.declared.files.Files.{Ghosts as FilesOf}
use Rattle.antelope_engine.specs.Seen.{Seen}
use Rattle.db_model.specs.declared.commands.Command.{Command}
use Rattle.db_model.specs.declared.refusals.Refusal.{Refusal}
use Rattle.db_model.specs.Reading.{IsReader}
use Rattle.run_input.specs.declared.ending.Ending.{Ending}
use Rattle.run_input.specs.declared.ending.Ending.TheVariants.{Flash, Sink}
use Rattle.run_model.specs.Line.{Cut}
use Rattle.run_model.specs.Talk.{Talk}
use Rattle.run_entries.specs.Carried.{Carried, HaltsIn, limits_of, standing_of}

-- a session, what is kept of the entry at hand, what the sink holds, and how many of its calls failed
pub record Running (V P : Type 0) : Type 0 where
  pub session : Seen V
  pub part : P
  pub held : Option (List ℕ)
  pub replies : ℕ

abbrev pub running : {V P : Type 0} → Seen V → P → Option (List ℕ) → ℕ → Running V P
running session part held replies = record { session = session; part = part; held = held; replies = replies }

-- a kind of input: how its entries are answered where commands are read so, how its bytes are cut into them, and what it is
-- to keep of one that is begun
pub record Input (E Q P : Type 0) : Type 1 where
  pub talk : (List ℕ → Result Command Refusal) → Talk E
  pub cut : Cut E Q
  pub Keeps : Q → P → Type 0

-- whatever is begun, one entry comes
abbrev pub HasOne : {E Q P : Type 0} → Input E Q P → P → (Q → List E) → Type 0
HasOne {E = E} {Q = Q} input part entries = (q : Q) → input.Keeps q part → (entry : E) × (entries q ≡ entry ∷ [])

module _ {E Q P V : Type 0} (input : Input E Q P) (files : FilesOf V) where
  -- no count falls, what the files are kept in has its length, and they hold on to what they borrow
  pub record KeepsRunning (a b : Running V P) : Type 0 where
    pub faults : files.faults a.session.files ≤ files.faults b.session.files
    pub replies : a.replies ≤ b.replies
    pub store : length (files.state b.session.files).store ≡ length (files.state a.session.files).store
    pub lent : files.lent b.session.files ≡ files.lent a.session.files

  -- P of each way to read commands and of what is begun, where the files tell
  abbrev pub Told : Running V P → (Talk E → Q → Type 0) → Type 0
  Told a Says = IsTrue (files.state a.session.files).tells
      → (read : List ℕ → Result Command Refusal) → IsReader read → (q : Q) → input.Keeps q a.part → Says (input.talk read) q

  -- the entries were carried out where the session was not stopped, and it is not stopped then
  pub record CarriesEntries (a b : Running V P) (entries : Q → List E) : Type 0 where
    pub going : a.session.stopped ≡ false → b.session.stopped ≡ false
    pub kept : a.session.stopped ≡ false → a.session.lost ≡ false → b.session.lost ≡ false
    pub carried : a.session.stopped ≡ false → Told a (λ talk q. Carried talk (entries q)
        (standing_of files.state files.reads a.session a.held) (standing_of files.state files.reads b.session b.held))
    pub on : KeepsRunning a b

  -- bytes were taken, and what they end was carried out
  pub record TakesBytes (a : Running V P) (came : List ℕ) (b : Running V P) : Type 0 where
    pub keeps : (q : Q) → input.Keeps q a.part → input.Keeps (input.cut.begun q came) b.part
    pub carries : CarriesEntries a b (λ q. input.cut.ended q came)

  -- the input ended, and what was left of it was answered
  abbrev pub EndsInput : Running V P → Running V P → Type 0
  EndsInput a b = CarriesEntries a b input.cut.left

  -- it went no further within these entries
  pub record HaltsWithin (a b : Running V P) (entries : Q → List E) (halt : Ending) : Type 0 where
    pub kept : a.session.stopped ≡ false → a.session.lost ≡ false → b.session.lost ≡ true → halt ≡ Flash
    pub flash : a.session.stopped ≡ false → halt ≡ Flash → Rose (files.faults a.session.files) (files.faults b.session.files)
    pub sink : a.session.stopped ≡ false → halt ≡ Sink → Rose a.replies b.replies
    pub halts : a.session.stopped ≡ false
        → Told a (λ talk q. HaltsIn talk (limits_of files b.session) (entries q)
        (standing_of files.state files.reads a.session a.held) (standing_of files.state files.reads b.session b.held) halt)
    pub on : KeepsRunning a b

  abbrev pub HaltsInBytes : Running V P → List ℕ → Running V P → Ending → Type 0
  HaltsInBytes a came b halt = HaltsWithin a b (λ q. input.cut.ended q came) halt

  abbrev pub HaltsAtLast : Running V P → Running V P → Ending → Type 0
  HaltsAtLast a b halt = HaltsWithin a b input.cut.left halt
