-- A flash with enough sectors lacks nothing.
use Rattle.std.proofs.Common.{◌≡◌, ◌<◌, ◌≤◌, ◌/◌, ◌⊎◌, ℕ, List, ◌∷◌, ◌++◌, length, Some, ap, subst, ◌∙◌, arith, ⊎_elim, append_assoc}
use Rattle.coffee_layout.specs.Marks.{IsCramped}
use Rattle.coffee_layout.specs.Tiling.{units_of}
use Rattle.db_model.specs.declared.commands.Command.{Command}
use Rattle.db_model.specs.Database.{Database, bare}
use Rattle.space_model.specs.Enough.{enough, file_sizes, most}
use Rattle.space_model.proofs.More.{more_pages}
use Rattle.image_model.specs.Images.{base}
use Rattle.image_model.specs.Lacking.{LacksFor}
use Rattle.run_model.specs.Runs.{HasEnough, InputFoundNoSpace, Machine, StopsAt, World, machine_from}
use Rattle.run_model.specs.Line.{Line}
use Rattle.run_model.specs.Talk.{Talk}
use Rattle.antelope_run.proofs.Bare.{most_bare}
use Rattle.antelope_run.proofs.Fronts.{HasFronts, entries_front}

-- no image is cramped for no page
not_cramped : (image : List ℕ) → IsCramped (units_of image) 0 → ⊥
not_cramped image c = c.full 0 (λ i low high. absurd (omega (arith, low, high)))

-- of an image that stands for a database without its cursors
lacks_none : (image : List ℕ) (db : Database) (c : Command) (n sectors : ℕ) → LacksFor image c n → base image ≡ bare db → sectors ≡ length image / 4096
    → (most db c ≡ 0) ⊎ (enough db (most db c) ≤ sectors) → ⊥
lacks_none image db c n sectors l is many enough_here =
    let few : n ≤ most db c = subst (λ (m : ℕ). n ≤ m) (ap (λ (d : Database). most d c) is ∙ most_bare db c) l.few in
    let small : length image / 4096 < enough db n = subst (λ (d : Database). length image / 4096 < enough d n) is l.small in
    ⊎_elim
    (λ (none : most db c ≡ 0). let zero_pages : n ≡ 0 = omega (arith, none, few) in not_cramped image (subst (λ (m : ℕ). IsCramped (units_of image) m) zero_pages l.cramped))
    (λ (some : enough db (most db c) ≤ sectors).
    let more = more_pages (file_sizes db) n (most db c) few in
    absurd (omega (arith, some, more, small, many)))
    enough_here

module _ {E : Type 0} (m : Machine E) (sectors : ℕ) where
  pub stops_nowhere : (entries front : List E) (n : ℕ) (image : List ℕ) → sectors ≡ length image / 4096 → (s : StopsAt m entries front n image) → HasEnough m sectors entries → ⊥
  stops_nowhere entries front n image many s has =
      lacks_none image (m.last front) s.command n sectors s.lacks s.stands.base_is many (has front s.rest s.entry s.command s.split s.asks)

  -- what is so of all entries is so of the first ones
  enough_first : (entries rest all : List E) → all ≡ entries ++ rest → HasEnough m sectors all → HasEnough m sectors entries
  enough_first entries rest all is has = λ front behind entry command split asks.
      has front (behind ++ rest) entry command (is ∙ ap (λ es. es ++ rest) split ∙ append_assoc front (entry ∷ behind) rest) asks

pub input_has_space : {E : Type 0} (line : Line E) (fronts : HasFronts line) (talk : Talk E) (old new : World) (sectors : ℕ) → sectors ≡ length new.image / 4096
    → (text : List ℕ) → old.left ≡ Some text → HasEnough (machine_from talk (base old.image)) sectors (line.all text) → InputFoundNoSpace line talk old new → ⊥
input_has_space line fronts talk old new sectors many text told has f =
    let front = entries_front line fronts text old.left new.left told f.bytes f.entries f.came.left f.are in
    stops_nowhere (machine_from talk (base old.image)) sectors f.entries f.found.front f.found.n new.image many f.found.stops
    (enough_first (machine_from talk (base old.image)) sectors f.entries front.0 (line.all text) front.1 has)
