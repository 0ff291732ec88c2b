-- The relation stands while files change.
use Rattle.std.proofs.Common.{◌≡◌, ◌≢◌, ℕ, ◌+◌, ◌/◌, ◌<◌, ◌≤◌, List, length, Option, Some, None, unwrap_or, refl, sym, ap, ◌∙◌, subst, arith}
use Rattle.afl_base.specs.Files.{Becomes, File, IsLive, KeepsBytes, State, Table, no_file, place}
use Rattle.afl_base.specs.Frames.{Prepares, SparesOthers}
use Rattle.afl_base.proofs.FrameLaws.{becomes_spares, keeps_prepares, live_by_name}
use Rattle.database_tests.proofs.Kept.{live_here as live_by}
use Rattle.db_model.specs.Row.{row_length}
use Rattle.index_set.specs.declared.candidates.Candidates.{Candidates}
use Rattle.index_set.specs.declared.candidates.Search.{Search}
use Rattle.index_set.specs.declared.candidates.Search.TheVariants as by
use Rattle.index_set.specs.declared.info.IndexInfo.{IndexInfo}
use Rattle.index_set.specs.Complete.{AreHeld, AreReadable}
use Rattle.index_set.specs.Inserts.{IsNoTree}
use Rattle.index_set.specs.Tables.{Tables}
use Rattle.index_set.specs.Walks.{IsSafeBy}
use Rattle.cursor.specs.declared.join.JoinCursor.{JoinCursor}
use Rattle.cursor.specs.Pairs.{IsSafeInner, MayReadPairs}
use Rattle.cursor.specs.Remaining.{AreOnNumbers, MayRead}
use Rattle.tuple_file.specs.declared.tuples.Tuples.{Tuples}
use Rattle.tuple_file.specs.Tuples.{HoldsRows, slots}
use Rattle.tuple_file.proofs.Columns.{column_field, column_width}
use Rattle.database_tests.specs.Standing.{StandsOn, IsStanding, KeepsEachFile, three_indexes}
use Rattle.tuple_file.proofs.Holding.{holds_by, slots_prepared, holds_prepared}

-- ---- rows

slots_by : (a b : State) (t : Tuples) → place b.files t.file ≡ place a.files t.file → slots b.files t ≡ slots a.files t
slots_by a b t e = ap (λ (o : Option File). length ((unwrap_or o no_file).bytes) / row_length t.schema.attributes) e

-- ---- what goes on

pub goes_then : (a b c : State) (t : Tuples) → StandsOn a b t → StandsOn b c t → StandsOn a c t
goes_then a b c t f g = record { live = λ id live. g.live id (f.live id live); slots = omega (arith, f.slots, g.slots) }

goes_spared : (a b : State) (P : ℕ → Type 0) (t : Tuples) → SparesOthers a b P → slots a.files t ≤ slots b.files t → StandsOn a b t
goes_spared a b P t f more = record { live = live_by_name a.files b.files f.named; slots = more }

pub goes_kept : (a b : State) (id : ℕ) (t : Tuples) → IsLive a.files id → KeepsBytes a b id → StandsOn a b t
goes_kept a b id t live k =
    let f = keeps_prepares a b id live k in
    goes_spared a b (λ k. k ≢ id) t f.spares (omega (arith, slots_prepared a b (λ k. k ≢ id) t f))

pub stands_kept : (a b : State) (tables : Tables) (id : ℕ) (t : Tuples) (tree : ℕ) → IsStanding a tables t tree → IsLive a.files id → KeepsBytes a b id → IsStanding b tables t tree
stands_kept a b tables id t tree s live k =
    let f = keeps_prepares a b id live k in
    record {
      ours = s.ours;
      holds = holds_prepared a b (λ k. k ≢ id) t f s.holds;
      live = live_by_name a.files b.files f.spares.named tree s.live;
      kind = f.spares.kind tree s.live ∙ s.kind;
      apart = s.apart;
      table = s.table ∙ sym (slots_prepared a b (λ k. k ≢ id) t f);
      idle = f.spares.draft ∙ s.idle;
    }

pub goes_all : (a b : State) (tables : Tables) (t : Tuples) (tree : ℕ) → IsStanding a tables t tree → KeepsEachFile a b → StandsOn a b t
goes_all a b tables t tree s f = record {
  live = λ id live. live_by a.files b.files id (f.same id live) live;
  slots = omega (arith, slots_by a b t (f.same t.file s.holds.file.live));
}

pub stands_all : (a b : State) (tables : Tables) (t : Tuples) (tree : ℕ) → IsStanding a tables t tree → KeepsEachFile a b → IsStanding b tables t tree
stands_all a b tables t tree s f =
    let here = f.same t.file s.holds.file.live in
    let there = f.same tree s.live in
    record {
      ours = s.ours;
      holds = holds_by a b t here f.tells s.holds;
      live = live_by a.files b.files tree there s.live;
      kind = ap (λ (o : Option File). (unwrap_or o no_file).kind) there ∙ s.kind;
      apart = s.apart;
      table = s.table ∙ sym (slots_by a b t here);
      idle = f.draft ∙ s.idle;
    }

-- ---- what may be read

readable_at : (state : State) (tables : Tables) (t : Tuples) (tree : ℕ) → IsStanding state tables t tree → (n : ℕ) → n ≤ slots state.files t → AreReadable state n (three_indexes t tree)
readable_at state tables t tree s n few = (
  record {
    place = omega arith;
    width = column_width t 0 s.ours.k;
    narrow = tt;
    fields = λ slot below. column_field state t 0 slot s.ours.k s.holds (omega (arith, below, few));
    tree = tt;
    table = tt;
  },
  (
    record {
      place = omega arith;
      width = column_width t 1 s.ours.l;
      narrow = s.ours.narrow_l t refl;
      fields = λ slot below. column_field state t 1 slot s.ours.l s.holds (omega (arith, below, few));
      tree = s.live;
      table = tt;
    },
    (
      record {
        place = omega arith;
        width = column_width t 2 s.ours.r;
        narrow = s.ours.narrow_r t refl;
        fields = λ slot below. column_field state t 2 slot s.ours.r s.holds (omega (arith, below, few));
        tree = tt;
        table = omega arith;
      },
      tt,
    ),
  ),
)

pub are_readable : (state : State) (tables : Tables) (t : Tuples) (tree : ℕ) → IsStanding state tables t tree → AreReadable state (slots state.files t) (three_indexes t tree)
are_readable state tables t tree s = readable_at state tables t tree s (slots state.files t) (omega arith)

pub on_numbers : (state : State) (tables : Tables) (t : Tuples) (tree : ℕ) → IsStanding state tables t tree → AreOnNumbers t.schema.attributes (three_indexes t tree)
on_numbers state tables t tree s = (s.ours.k, (s.ours.l, (s.ours.r, tt)))

-- a tree that is searched is still there
pub safe_on : (old new : State) (t : Tuples) (search : Search) → StandsOn old new t → IsSafeBy search old → IsSafeBy search new
safe_on old new t by.Nothing f h = tt
safe_on old new t by.Scan f h = tt
safe_on old new t (by.Order attribute range) f h = tt
safe_on old new t (by.Tree attribute file key) f h = f.live file h
safe_on old new t (by.Table attribute number key) f h = tt

pub may_read_on : (old new : State) (tables : Tables) (t : Tuples) (tree : ℕ) (c : Candidates) → IsStanding new tables t tree → StandsOn old new t → MayRead old t c → MayRead new t c
may_read_on old new tables t tree c s f m = record {
  holds = λ some. s.holds;
  slots = λ some. omega (arith, m.slots some, f.slots);
  safe = λ some. safe_on old new t c.search f (m.safe some);
}

safe_inner : (old new : State) (t : Tuples) (inner : Option Candidates) → StandsOn old new t → IsSafeInner inner old → IsSafeInner inner new
safe_inner old new t None f h = tt
safe_inner old new t (Some inner) f h = safe_on old new t inner.search f h

-- both sides of a join are the relation
pub pairs_on : (old new : State) (tables : Tables) (t : Tuples) (tree : ℕ) (c : JoinCursor) → c.left ≡ t → c.right ≡ t → c.right_indexes ≡ three_indexes t tree
    → IsStanding new tables t tree → StandsOn old new t → MayReadPairs old c → MayReadPairs new c
pairs_on old new tables t tree c left right indexes s f m =
    let rights : 0 < c.right_slots → c.right_slots ≤ slots new.files t = λ some.
    omega (arith, m.right_slots some, ap (λ (u : Tuples). slots old.files u) right, f.slots) in
    record {
      left = λ some. subst (λ (u : Tuples). HoldsRows new u) (sym left) s.holds;
      left_slots = λ some.
          omega (arith, m.left_slots some, ap (λ (u : Tuples). slots old.files u) left, f.slots, ap (λ (u : Tuples). slots new.files u) left);
      right = λ some. subst (λ (u : Tuples). HoldsRows new u) (sym right) s.holds;
      right_slots = λ some. omega (arith, rights some, ap (λ (u : Tuples). slots new.files u) right);
      readable = λ some. subst (λ (xs : List IndexInfo). AreReadable new c.right_slots xs) (sym indexes) (readable_at new tables t tree s c.right_slots (rights some));
      safe = λ some. safe_inner old new t c.inner f (m.safe some);
      inner = m.inner;
      within = m.within;
    }

-- ---- a row more: room is made in two steps, the row is appended, and its keys are inserted

module _ (a b c d e : State) (before after : Tables) (t : Tuples) (tree slot total : ℕ) (told : List ℕ) (s : IsStanding a before t tree) (first : KeepsBytes a b t.file)
    (second : Prepares b c (IsNoTree (three_indexes t tree))) (row : Becomes c d t.file total told) (keys : SparesOthers d e (IsNoTree (three_indexes t tree)))
    (old : slots a.files t ≡ slot) where
  away : IsNoTree (three_indexes t tree) t.file
  away = (tt, (s.apart, (tt, tt)))

  made : Prepares a b (λ k. k ≢ t.file)
  made = keeps_prepares a b t.file s.holds.file.live first

  live_c : IsLive c.files t.file
  live_c = live_by_name b.files c.files second.spares.named t.file first.live

  pub slots_before : slots c.files t ≡ slot
  slots_before = slots_prepared b c (IsNoTree (three_indexes t tree)) t second ∙ slots_prepared a b (λ k. k ≢ t.file) t made ∙ old

  count : slots d.files t ≡ slot + 1 → slots e.files t ≡ slot + 1
  count more = slots_by d e t (keys.others t.file away) ∙ more

  pub stands_more : HoldsRows d t → slots d.files t ≡ slot + 1 → AreHeld e after (slot + 1) (three_indexes t tree) → IsStanding e after t tree
  stands_more holds more held = record {
    ours = s.ours;
    holds = holds_by d e t (keys.others t.file away) keys.tells holds;
    live = held.1.0.0;
    kind = held.1.0.1;
    apart = s.apart;
    table = held.1.1.0.1 ∙ sym (count more);
    idle = keys.draft ∙ row.draft ∙ second.spares.draft ∙ first.draft ∙ s.idle;
  }

  pub goes_more : slots d.files t ≡ slot + 1 → StandsOn a e t
  goes_more more = record {
    live = λ id live.
        live_by_name d.files e.files keys.named id
        (live_by_name c.files d.files (becomes_spares c d t.file total told live_c row).named id
        (live_by_name b.files c.files second.spares.named id (live_by_name a.files b.files made.spares.named id live)));
    slots = omega (arith, count more, old);
  }
