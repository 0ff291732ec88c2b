-- Walks over the left rows by blocks.
use Rattle.std.proofs.Common.{◌≡◌, ℕ, ◌+◌, ◌-◌, ◌*◌, ◌<◌, ◌≤◌, Bool, true, false, cond, List, ◌∷◌, Option, None, refl, ap, sym, ◌∙◌, subst, arith, slice_get}
use Rattle.std.specs.Prelude.{OnErr, Result, Ok, Err}
use Rattle.afl_base.specs.Files.{State}
use Rattle.db_model.specs.declared.values.Value.{Value}
use Rattle.db_model.specs.Row.{Row}
use Rattle.index_set.specs.declared.candidates.Candidates.{Candidates}
use Rattle.index_set.specs.Tables.{Tables}
use Rattle.tuple_file.specs.Tuples.{rows}
use Rattle.cursor.specs.declared.block.Block.{Block}
use Rattle.cursor.specs.declared.join.JoinCursor.{JoinCursor}
use Rattle.cursor.specs.Blocks.{HasMetRights, IsBlockFor, YieldsByBlock, at_next_row, behind_slot, cost_by_block, cost_in_blocks}
use Rattle.cursor.specs.Pairs.{FitsPairs, HasAhead, MayReadPairs, belongs, join_cost_ahead, pairs_left}
use Rattle.cursor.proofs.Joins.{all_passed}

-- ---- where the join stands

pub may_at : (state : State) (c : JoinCursor) (at from : ℕ) → from ≤ c.right_slots → MayReadPairs state c → MayReadPairs state (record c { at = at; from = from })
may_at state c at from order m = record {
  left = m.left;
  left_slots = m.left_slots;
  right = m.right;
  right_slots = m.right_slots;
  readable = m.readable;
  safe = m.safe;
  inner = m.inner;
  within = order;
}

pub fits_at : (state : State) (tables : Tables) (c : JoinCursor) (at from : ℕ) → c.inner ≡ None → FitsPairs c state tables → FitsPairs (record c { at = at; from = from }) state tables
fits_at state tables c at from rests f = record {
  indexes = f.indexes;
  inner = f.inner;
  ahead = λ some left e. subst (λ (o : Option Candidates). HasAhead o (belongs (slice_get left c.left_on) c.right_on) (rows state.files c.right) from c.right_slots) (sym rests) tt;
}

module _ (b new : Block) (c : JoinCursor) (kept : new ≡ record b { seen = new.seen; firsts = new.firsts; ends = new.ends }) (for : IsBlockFor b c) (inside : c.at < b.end) (seen : new.seen ≤ c.right_slots) where
  begin_same : new.begin ≡ b.begin
  begin_same = ap (λ (x : Block). x.begin) kept

  end_same : new.end ≡ b.end
  end_same = ap (λ (x : Block). x.end) kept

  pub for_next : IsBlockFor new (at_next_row c)
  for_next = record {
    numbers = for.numbers;
    scans = for.scans;
    begun = omega (arith, for.begun, begin_same);
    inside = omega (arith, inside, end_same);
    within = omega (arith, for.within, end_same);
    few = omega (arith, for.few, begin_same, end_same);
    from = omega arith;
    seen = seen;
    anew = λ _. refl;
    rests = for.rests;
  }

  pub for_slot : (slot : ℕ) → slot < new.seen → IsBlockFor new (behind_slot c slot)
  for_slot slot below = record {
    numbers = for.numbers;
    scans = for.scans;
    begun = omega (arith, for.begun, begin_same);
    inside = omega (arith, inside, end_same);
    within = omega (arith, for.within, end_same);
    few = omega (arith, for.few, begin_same, end_same);
    from = omega (arith, below);
    seen = seen;
    anew = λ e. absurd (omega (arith, e, inside, end_same));
    rests = for.rests;
  }

-- ---- a walk

-- it has come to another place and has passed no pair
pub record Blocking (state : State) (tables : Tables) (b b_now : Block) (before now : JoinCursor) (reads reads_now : ℕ) : Type 0 where
  pub fits : FitsPairs now state tables
  pub read : HasMetRights b_now now (rows state.files before.left) (rows state.files before.right)
  pub left : pairs_left before (rows state.files before.left) (rows state.files before.right) ≡ pairs_left now (rows state.files before.left) (rows state.files before.right)
  pub few : reads_now + cost_in_blocks b_now now (rows state.files before.left) (rows state.files before.right) ≤ reads + cost_in_blocks b before (rows state.files before.left) (rows state.files before.right)

served : (b : Block) (c : JoinCursor) (lefts rights : List Row) → b.serves ≡ true → cost_by_block b c lefts rights ≡ cost_in_blocks b c lefts rights
served b c lefts rights e = cost_served b.serves (cost_in_blocks b c lefts rights) _ e
  where
    cost_served : (s : Bool) (x y : ℕ) → s ≡ true → cond s x y ≡ x
    cost_served true x y e = refl
    cost_served false x y e = absurd (cc)

module _ (state : State) (tables : Tables) (b b_now b_taken b_new : Block) (before now : JoinCursor) (reads r1 r2 r3 : ℕ) (walk : Blocking state tables b b_now before now reads r1) (rests : now.inner ≡ None)
    (read : HasMetRights b_new now (rows state.files before.left) (rows state.files before.right))
    (taken : r2 + 6 * (now.left_slots - b_taken.end) ≤ r1 + 6 * (now.left_slots - b_now.end))
    (kept : b_new ≡ record b_taken { seen = b_new.seen; firsts = b_new.firsts; ends = b_new.ends }) where
  abbrev lefts : List Row
  lefts = rows state.files before.left

  abbrev rights : List Row
  rights = rows state.files before.right

  end_taken : b_new.end ≡ b_taken.end
  end_taken = ap (λ (x : Block). x.end) kept

  -- what is paid before a step, by the block that was taken
  cost_taken : r2 + cost_in_blocks b_taken now lefts rights ≤ reads + cost_in_blocks b before lefts rights
  cost_taken = omega (arith, walk.few, taken)

  pub walks_on : pairs_left now lefts rights ≡ pairs_left (at_next_row now) lefts rights
      → r3 + cost_in_blocks b_taken (at_next_row now) lefts rights ≤ r2 + cost_in_blocks b_taken now lefts rights
      → Blocking state tables b b_new before (at_next_row now) reads r3
  walks_on same paid = record {
    fits = fits_at state tables now (now.at + 1) 0 rests walk.fits;
    read = record { holds = read.holds; met = read.met };
    left = walk.left ∙ same;
    few = omega (arith, cost_taken, end_taken, paid);
  }

  pub yields_pair : (pair : List Value × List Value) (slot : ℕ) → b.serves ≡ true → b_new.serves ≡ true → pairs_left now lefts rights ≡ pair ∷ pairs_left (behind_slot now slot) lefts rights
      → r3 + cost_in_blocks b_taken (behind_slot now slot) lefts rights ≤ r2 + cost_in_blocks b_taken now lefts rights
      → YieldsByBlock true pair b b_new before (behind_slot now slot) state tables reads r3
  yields_pair pair slot serves serves_new same paid = record {
    next = walk.left ∙ same;
    fits = fits_at state tables now now.at (slot + 1) rests walk.fits;
    block = λ _. record { holds = read.holds; met = read.met };
    reads = omega (arith, cost_taken, end_taken, paid, served b before lefts rights serves, served b_new (behind_slot now slot) lefts rights serves_new);
  }

  pub fails_paid : b.serves ≡ true → r3 ≤ r2 + cost_in_blocks b_taken now lefts rights → r3 ≤ reads + cost_by_block b before lefts rights
  fails_paid serves paid = omega (arith, cost_taken, paid, served b before lefts rights serves)

module _ (state : State) (tables : Tables) (b b_now : Block) (before now : JoinCursor) (reads r1 : ℕ) (walk : Blocking state tables b b_now before now reads r1) where
  pub yields_none : (pair : List Value × List Value) → b.serves ≡ true → b_now.serves ≡ true → now.left_slots ≤ now.at → YieldsByBlock false pair b b_now before now state tables reads r1
  yields_none pair serves serves_now past = record {
    next = walk.left ∙ all_passed now (rows state.files before.left) (rows state.files before.right) past;
    fits = walk.fits;
    block = λ _. walk.read;
    reads = omega (arith, walk.few, served b before (rows state.files before.left) (rows state.files before.right) serves, served b_now now (rows state.files before.left) (rows state.files before.right) serves_now);
  }

  pub take_fails : (r2 : ℕ) → b.serves ≡ true → r2 ≤ r1 + 6 * (now.left_slots - b_now.end) → r2 ≤ reads + cost_by_block b before (rows state.files before.left) (rows state.files before.right)
  take_fails r2 serves paid = omega (arith, walk.few, paid, served b before (rows state.files before.left) (rows state.files before.right) serves)

pub walk_begins : (state : State) (tables : Tables) (b : Block) (c : JoinCursor) (reads : ℕ) → FitsPairs c state tables → HasMetRights b c (rows state.files c.left) (rows state.files c.right) → Blocking state tables b b c c reads reads
walk_begins state tables b c reads fits read = record { fits = fits; read = read; left = refl; few = omega arith }

-- ---- without blocks

pub unserved : (b : Block) (c : JoinCursor) (lefts rights : List Row) → b.serves ≡ false → cost_by_block b c lefts rights ≡ join_cost_ahead c lefts rights
unserved b c lefts rights e = other b.serves _ (join_cost_ahead c lefts rights) e
  where
    other : (s : Bool) (x y : ℕ) → s ≡ false → cond s x y ≡ y
    other false x y e = refl
    other true x y e = absurd (cc)

pub fails_so : {T E P Q : Type 0} (r : Result T E) → OnErr r P → (P → Q) → OnErr r Q
fails_so (Ok x) p f = tt
fails_so (Err e) p f = f p
