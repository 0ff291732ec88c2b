-- Indexes that are found complete one after the other.
use Rattle.std.proofs.Common.{◌≡◌, ◌<◌, ◌≤◌, ◌+◌, ◌==◌, ℕ, ℤ, zero, suc, List, [], ◌∷◌, ◌++◌, length, get_or, take, Bool, true, false, Some, refl, arith, ap, ◌∙◌, sym, subst}
use Rattle.std.specs.Prelude.{Result, Ok, Err, IfOk, IsTrue, slice_get}
use Rattle.afl_base.specs.declared.failed.Failed.{Failed}
use Rattle.std.specs.Bool.{Decides}
use Rattle.std.specs.List.{AllByRecursion}
use Rattle.std.proofs.lemmas.Bool.Decides.{Decides-eqb}
use Rattle.std.proofs.lemmas.List.FromFn.{length-map-range_with_len}
use Rattle.afl_base.specs.declared.key_column.KeyColumn.{KeyColumn}
use Rattle.afl_base.specs.Files.{State, bytes_at}
use Rattle.afl_base.specs.KeyColumn.{key_of}
use Rattle.afl_base.proofs.FrameLaws.{spares_same}
use Rattle.db_model.specs.Row.{Row}
use Rattle.db_model.specs.Step.{keys}
use Rattle.index_inline.specs.Keys.{keys_of}
use Rattle.index_set.specs.declared.info.Access.{Access}
use Rattle.index_set.specs.declared.info.Access.TheVariants.{Order, Tree, Table as InTable}
use Rattle.index_set.specs.declared.info.IndexInfo.{IndexInfo}
use Rattle.index_set.specs.declared.info.TableId.{TableId}
use Rattle.index_set.specs.Complete.{AreComplete, AreHeld, HasKeys, HaveKeysOf, IsComplete, IsFirstIncomplete, IsHeld, most_reads, most_reads_of_all}
use Rattle.index_set.specs.Inserts.{AreApart, IsApart, IsDoublingTree, IsNoTable, KeepsTables}
use Rattle.index_set.specs.Tables.{HasTable, Tables, entries}
use Rattle.index_set.proofs.Fronts.{keys_whole}
use Rattle.index_set.proofs.Inserted.{all_less, complete_before, held_before}
use Rattle.index_set.proofs.Lists.{before_it, here_of, take_of, taken}
use Rattle.afl_base.specs.Keys.{first_keys}
use Rattle.index_tree.specs.Trees.{IsTreeOf}
use Rattle.db_model.proofs.SoundSteps.{all_more}

item_at : (xs : List IndexInfo) (n : ℕ) (y : IndexInfo) → n < length xs → y ≡ get_or xs n y → slice_get xs n ≡ Some y
item_at [] n y h e = absurd (omega (arith, h))
item_at (x ∷ xs) zero y h e = ap (λ (i : IndexInfo). Some i) (sym e)
item_at (x ∷ xs) (suc n) y h e = item_at xs n y (omega (arith, h)) e

-- a table holds no more than it has room for
pub no_whole : (es : List ℤ) (len slots : ℕ) (state : State) (column : KeyColumn) → len ≡ length es → len ≤ 2048 → 2048 < slots → Decides (len == slots) (es ≡ keys_of state column slots)
no_whole es len slots state column is few many = (
  λ same. let n = (Decides-eqb len slots).0 same in absurd (omega (arith, n, few, many)),
  λ same. let n : length es ≡ length (keys_of state column slots) = ap (λ (zs : List ℤ). length zs) same in let size = length-map-range_with_len (key_of state column) 0 slots in absurd (omega (arith, n, size, is, few, many)),
)

-- what a test of a tree tells
decided : (m : Bool) (P : Type 0) → (m ≡ true → P) → (m ≡ false → P → ⊥) → Decides m P
decided true P f g = (f, λ p. refl)
decided false P f g = (λ e. absurd (cc), λ p. absurd (g refl p))

pub to_true : (m : Bool) (P : Type 0) → Decides m P → m ≡ true → P
to_true m P d e = d.0 e

pub to_false : (m : Bool) (P : Type 0) → Decides m P → m ≡ false → P → ⊥
to_false m P d e p = let same = d.1 p in cc

pub tree_whole : (state : State) (tables : Tables) (y : IndexInfo) (slots file : ℕ) (r : Result Bool Failed) → y.access ≡ Tree file
    → IfOk r (λ m. m ≡ true → IsTreeOf (bytes_at state.files file) (first_keys (key_of state y.column) slots))
    → IfOk r (λ m. m ≡ false → IsTreeOf (bytes_at state.files file) (first_keys (key_of state y.column) slots) → ⊥)
    → IfOk r (λ whole. Decides whole (IsComplete state tables y.access (keys_of state y.column slots)))
tree_whole state tables y slots file (Ok m) is yes_tree no_tree =
    let P : Access → Type 0 = λ a. Decides m (IsComplete state tables a (keys_of state y.column slots)) in
    subst P (sym is) (decided m (IsTreeOf (bytes_at state.files file) (first_keys (key_of state y.column) slots)) yes_tree no_tree)
tree_whole state tables y slots file (Err e) is yes_tree no_tree = tt

-- ---- held, where a test finds it whole

module _ (old new : State) (tables : Tables) (y : IndexInfo) (slots : ℕ) where
  abbrev pub HeldIfWhole : Result Bool Failed → Type 0
  HeldIfWhole r = IfOk r (λ whole. IsTrue whole → IsDoublingTree old y.access → IsHeld new tables slots y.access)

  pub order_held : (r : Result Bool Failed) → y.access ≡ Order → HeldIfWhole r
  order_held (Ok m) is = λ yes tree. let P : Access → Type 0 = λ a. IsHeld new tables slots a in subst P (sym is) tt
  order_held (Err e) is = tt

  pub tree_held : (file : ℕ) (r : Result Bool Failed) → y.access ≡ Tree file → new ≡ old → HeldIfWhole r
  tree_held file (Ok m) is same = λ yes tree.
      let D : Access → Type 0 = λ a. IsDoublingTree old a in
      let H : Access → Type 0 = λ a. IsHeld new tables slots a in
      let S : State → Type 0 = λ s. IsHeld s tables slots (Tree file) in
      subst H (sym is) (subst S (sym same) (subst D is tree))
  tree_held file (Err e) is same = tt

  pub filled_held : (number : TableId) (r : Result Bool Failed) → y.access ≡ InTable number → HasTable y.access → IfOk r (λ whole. IsTrue whole → length (entries tables number) ≡ slots) → HeldIfWhole r
  filled_held number (Ok m) is there size = λ yes tree. let H : Access → Type 0 = λ a. IsHeld new tables slots a in subst H (sym is) (subst HasTable is there, size yes)
  filled_held number (Err e) is there size = tt

pub no_size : (es : List ℤ) (len slots : ℕ) → len ≡ length es → IsTrue (len == slots) → length es ≡ slots
no_size es len slots is same = sym is ∙ (Decides-eqb len slots).0 same

-- ---- reads

reads_joined : (slots : ℕ) (xs : List IndexInfo) (y : IndexInfo) → most_reads_of_all slots (xs ++ y ∷ []) ≡ most_reads_of_all slots xs + most_reads slots y.access
reads_joined slots [] y = omega arith
reads_joined slots (x ∷ xs) y = omega (arith, reads_joined slots xs y)

pub reads_next : (slots : ℕ) (xs : List IndexInfo) (n : ℕ) (y : IndexInfo) → n < length xs → y ≡ get_or xs n y → most_reads_of_all slots (take (n + 1) xs) ≡ most_reads_of_all slots (take n xs) + most_reads slots y.access
reads_next slots xs n y h e = ap (most_reads_of_all slots) (taken xs n y h e) ∙ reads_joined slots (take n xs) y

pub reads_within : (slots : ℕ) (xs : List IndexInfo) (n : ℕ) → most_reads_of_all slots (take n xs) ≤ most_reads_of_all slots xs
reads_within slots [] zero = omega arith
reads_within slots [] (suc n) = omega arith
reads_within slots (x ∷ xs) zero = omega arith
reads_within slots (x ∷ xs) (suc n) = omega (arith, reads_within slots xs n)

module _ (xs : List IndexInfo) (n : ℕ) (y : IndexInfo) (h : n < length xs) (e : y ≡ get_or xs n y) (t0 t1 t2 : Tables) (k1 : KeepsTables t0 t1 (take n xs)) (k2 : (number : TableId) → IsNoTable number y.access → entries t2 number ≡ entries t1 number) where
  pub keeps_all : KeepsTables t0 t2 xs
  keeps_all = λ number all. k2 number (here_of xs n y h e (λ x. IsNoTable number x.access) all) ∙ k1 number (take_of (λ x. IsNoTable number x.access) xs n all)

  pub keeps_more : KeepsTables t0 t2 (take (n + 1) xs)
  keeps_more = λ number all.
      let P : List IndexInfo → Type 0 = λ ys. AllByRecursion (λ x. IsNoTable number x.access) ys in
      let both = all_less (λ x. IsNoTable number x.access) (take n xs) y (subst P (taken xs n y h e) all) in
      k2 number both.1 ∙ k1 number both.0

  pub held_more : AreApart xs → (state : State) (slots : ℕ) → AreHeld state t1 slots (take n xs) → IsHeld state t2 slots y.access → AreHeld state t2 slots (take (n + 1) xs)
  held_more apart state slots before here =
      let P : List IndexInfo → Type 0 = λ ys. AreHeld state t2 slots ys in
      subst P (sym (taken xs n y h e)) (all_more (λ info. IsHeld state t2 slots info.access) (take n xs) y
      (held_before state state t1 t2 y.access (spares_same state (λ k. IsApart k y.access)) k2 slots (take n xs) (before_it xs n y h e apart) before) here)

  module _ (apart : AreApart xs) (state : State) (all : List Row) (slots : ℕ) (count : length all ≡ slots) (columns : HaveKeysOf state all xs) (before : AreComplete state t1 all (take n xs)) where
    still : AreComplete state t2 all (take n xs)
    still = complete_before state state t1 t2 y.access (spares_same state (λ k. IsApart k y.access)) k2 all (take n xs) (before_it xs n y h e apart) before

    same_keys : keys_of state y.column slots ≡ keys y.attribute all
    same_keys = keys_whole state y all slots count (here_of xs n y h e (HasKeys state all) columns)

    pub one_more : IsComplete state t2 y.access (keys_of state y.column slots) → AreComplete state t2 all (take (n + 1) xs)
    one_more whole =
        let C : List ℤ → Type 0 = λ ks. IsComplete state t2 y.access ks in
        let P : List IndexInfo → Type 0 = λ ys. AreComplete state t2 all ys in
        subst P (sym (taken xs n y h e)) (all_more (λ info. IsComplete state t2 info.access (keys info.attribute all)) (take n xs) y still (subst C same_keys whole))

    pub first_broken : (IsComplete state t2 y.access (keys_of state y.column slots) → ⊥) → IsFirstIncomplete state t2 all xs n
    first_broken broken = record {
      within = h;
      before = still;
      info = y;
      here = item_at xs n y h e;
      fails = λ whole. let C : List ℤ → Type 0 = λ ks. IsComplete state t2 y.access ks in broken (subst C (sym same_keys) whole);
    }
