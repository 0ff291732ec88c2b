-- What the indexes of a relation ask of a new row, as the machine sees it.
use Rattle.std.proofs.Common.{◌≡◌, ℕ, pos, negsuc, zero, suc, ◌+◌, ◌-◌, ◌<◌, Bool, true, false, List, [], ◌∷◌, length, map, get_or, Option, Some, None, refl, ap, sym, ◌∙◌, arith, IsTrue}
use Rattle.std.specs.Prelude.{◌&&◌, ◌||◌, ◌==◌, int_le, slice_get}
use Rattle.std.specs.List.{list_any}
use Rattle.std.specs.Option.{option_map_or}
use Rattle.std.proofs.lemmas.Bool.Decides.{nat_tests}
use Rattle.std.proofs.lemmas.Int.{ints}
use Rattle.std.proofs.lemmas.Option.{slice_get-get_or}
use Rattle.afl_base.specs.Files.{State, bytes_at}
use Rattle.db_model.specs.declared.schemas.Attribute.{Attribute}
use Rattle.db_model.specs.declared.schemas.Domain.{Domain}
use Rattle.db_model.specs.declared.schemas.Domain.TheVariants as domain
use Rattle.db_model.specs.declared.schemas.IndexKind.TheVariants.{Inline, MaxHeap, MemHash}
use Rattle.db_model.specs.declared.values.Value.{Value}
use Rattle.db_model.specs.declared.values.Value.TheVariants as value
use Rattle.db_model.specs.Database.{is_hash_table, is_inline}
use Rattle.db_model.specs.Row.{AllRowsSuit, AllSuit, Row, no_row, suits}
use Rattle.db_model.specs.Step.{allows, fallen, fallen_from, first_fall, is_ordered, keys}
use Rattle.db_model.proofs.SoundRows.{order_kept}
use Rattle.index_set.specs.declared.info.Access.{Access}
use Rattle.index_set.specs.declared.info.Access.TheVariants.{Order, Tree, Table}
use Rattle.index_set.specs.declared.info.IndexInfo.{IndexInfo}
use Rattle.index_set.specs.Complete.{AreComplete, IsComplete}
use Rattle.index_set.specs.Inserts.{AreOpenFor, HasKeyFor, HaveKeys, IsOpenFor, MayAllFollow, MayFollow, is_key, tuple_key}
use Rattle.index_set.specs.Plans.{access_kind}
use Rattle.index_set.specs.Tables.{Tables}
use Rattle.index_set.proofs.Inserted.{keys_more}
use Rattle.tuple_file.specs.declared.tuples.Tuples.{Tuples}
use Rattle.tuple_file.specs.Tuples.{HoldsRows, row, rows, slots}
use Rattle.cursor.proofs.Suited.{rows_suit}
use Rattle.cursor.proofs.Walking.{row_there}
use Rattle.session_model.specs.Indexed.{AreAllowed, index_of_info}
use Rattle.session_rows.specs.Refused.{is_order, is_order_index, is_ordered_by, is_memhash, is_table_index}
use Rattle.session_model.proofs.Cells.{found_allowed}
use Rattle.tuple_file.proofs.Columns.{rows_counted}
use Rattle.padded.proofs.Facts.{by_truth, both_parts, either_right}

-- ---- tests of indexes

inline_of : (slot attribute : ℕ) (access : Access) → is_inline (record { kind = access_kind access; relation = slot; attribute = attribute }) ≡ is_order access
inline_of slot attribute Order = refl
inline_of slot attribute (Tree file) = refl
inline_of slot attribute (Table number) = refl

table_of : (slot attribute : ℕ) (access : Access) → is_hash_table (record { kind = access_kind access; relation = slot; attribute = attribute }) ≡ is_memhash access
table_of slot attribute Order = refl
table_of slot attribute (Tree file) = refl
table_of slot attribute (Table number) = refl

pub ordered_seen : (slot place : ℕ) (infos : List IndexInfo) → is_ordered (map (index_of_info slot) infos) place ≡ is_ordered_by infos place
ordered_seen slot place [] = refl
ordered_seen slot place (info ∷ infos) = λ i. (inline_of slot info.attribute info.access i && info.attribute == place) || ordered_seen slot place infos i

pub tables_seen : (slot : ℕ) (infos : List IndexInfo) → list_any is_hash_table (map (index_of_info slot) infos) ≡ list_any is_table_index infos
tables_seen slot [] = refl
tables_seen slot (info ∷ infos) = λ i. table_of slot info.attribute info.access i || tables_seen slot infos i

-- ---- the last row

fallen_same : (f g : ℕ → Bool) → ((place : ℕ) → f place ≡ g place) → (n : ℕ) (last new : List Value) → fallen_from f n last new ≡ fallen_from g n last new
fallen_same f g h n last new = λ i. fallen_from (λ place. h place i) n last new

nothing_falls : (test : ℕ → Bool) → ((place : ℕ) → test place ≡ false) → (n : ℕ) (last new : List Value) → fallen_from test n last new ≡ None
nothing_falls test h n [] new = refl
nothing_falls test h n (value.Number a ∷ last) [] = refl
nothing_falls test h n (value.Text a ∷ last) [] = refl
nothing_falls test h n (value.Number a ∷ last) (value.Number b ∷ new) = rw (h n) (nothing_falls test h (n + 1) last new)
nothing_falls test h n (value.Number a ∷ last) (value.Text b ∷ new) = nothing_falls test h (n + 1) last new
nothing_falls test h n (value.Text a ∷ last) (w ∷ new) = nothing_falls test h (n + 1) last new

no_order : (place : ℕ) (infos : List IndexInfo) → list_any is_order_index infos ≡ false → is_ordered_by infos place ≡ false
no_order place [] e = refl
no_order place (info ∷ infos) e = by_truth (is_order info.access) (λ is. absurd (first is e)) (λ is. behind is e (no_order place infos))
  where
    first : is_order info.access ≡ true → (is_order info.access || list_any is_order_index infos) ≡ false → ⊥
    first is e = let both_parts : true ≡ false = sym (ap (λ (b : Bool). b || list_any is_order_index infos) is) ∙ e in cc

    behind : is_order info.access ≡ false → (is_order info.access || list_any is_order_index infos) ≡ false → (list_any is_order_index infos ≡ false → is_ordered_by infos place ≡ false)
        → ((is_order info.access && info.attribute == place) || is_ordered_by infos place) ≡ false
    behind is e rest =
        let left : list_any is_order_index infos ≡ false = sym (ap (λ (b : Bool). b || list_any is_order_index infos) is) ∙ e in
        ap (λ (b : Bool). (b && info.attribute == place) || is_ordered_by infos place) is ∙ rest left

pub fallen_of_none : (slot : ℕ) (infos : List IndexInfo) (last : Option Row) (new : List Value) → list_any is_order_index infos ≡ false → fallen (map (index_of_info slot) infos) last new ≡ None
fallen_of_none slot infos None new e = refl
fallen_of_none slot infos (Some last) new e =
    nothing_falls (is_ordered (map (index_of_info slot) infos)) (λ place. ordered_seen slot place infos ∙ no_order place infos e) 0 last.tuple new

pub fallen_of_last : (slot : ℕ) (infos : List IndexInfo) (o : Option Row) (last new : List Value) (live : Bool) → o ≡ Some (record { tuple = last; live = live })
    → fallen_from (is_ordered_by infos) 0 last new ≡ fallen (map (index_of_info slot) infos) o new
fallen_of_last slot infos o last new live e =
    fallen_same (is_ordered_by infos) (is_ordered (map (index_of_info slot) infos)) (λ place. sym (ordered_seen slot place infos)) 0 last new
    ∙ ap (λ (z : Option Row). fallen (map (index_of_info slot) infos) z new) (sym e)

-- the last row is the one in the last slot
pub last_there : (state : State) (t : Tuples) (r : Row) → 0 < slots state.files t → row state.files t (slots state.files t - 1) ≡ r
    → slice_get (rows state.files t) (length (rows state.files t) - 1) ≡ Some r
last_there state t r some e =
    let count = rows_counted state.files t in
    let below : length (rows state.files t) - 1 < length (rows state.files t) = omega (arith, some, count) in
    let same : length (rows state.files t) - 1 ≡ slots state.files t - 1 = omega (arith, count) in
    let inside : slots state.files t - 1 < slots state.files t = omega (arith, some) in
    slice_get-get_or (rows state.files t) (length (rows state.files t) - 1) no_row below
    ∙ ap (λ (n : ℕ). Some (get_or (rows state.files t) n no_row)) same
    ∙ ap (λ (z : Row). Some z) (row_there t.schema.attributes (bytes_at state.files t.file) (slots state.files t - 1) inside ∙ e)

-- ---- keys

number_suits : (d : Domain) (v : Value) → allows MaxHeap d ≡ true → suits d v ≡ true → is_key (Some v) ≡ true
number_suits domain.Int (value.Number z) a s = let h = both_parts (int_le (negsuc 32767) z) (int_le z (pos 32767)) s in grind (arith, ints, h.0, h.1)
number_suits domain.Long (value.Number z) a s = s
number_suits domain.Time v a s = absurd (cc)
number_suits (domain.Str n) v a s = absurd (cc)
number_suits domain.Int (value.Text bytes) a s = absurd (cc)
number_suits domain.Long (value.Text bytes) a s = absurd (cc)

number_suits_table : (d : Domain) (v : Value) → allows MemHash d ≡ true → suits d v ≡ true → is_key (Some v) ≡ true
number_suits_table domain.Int v a s = number_suits domain.Int v refl s
number_suits_table domain.Long v a s = number_suits domain.Long v refl s
number_suits_table domain.Time v a s = absurd (cc)
number_suits_table (domain.Str n) v a s = absurd (cc)

key_at : (f : Domain → Bool) → ((d : Domain) (v : Value) → f d ≡ true → suits d v ≡ true → is_key (Some v) ≡ true) → (attributes : List Attribute) (values : List Value) (place : ℕ)
    → AllSuit attributes values → option_map_or (λ (a : Attribute). f a.domain) (slice_get attributes place) false ≡ true → is_key (slice_get values place) ≡ true
key_at f h [] values place suit allowed = absurd (cc)
key_at f h (a ∷ attributes) [] place suit allowed = absurd suit
key_at f h (a ∷ attributes) (v ∷ values) zero suit allowed = h a.domain v allowed suit.0
key_at f h (a ∷ attributes) (v ∷ values) (suc place) suit allowed = key_at f h attributes values place suit.1 allowed

key_for : (attributes : List Attribute) (values : List Value) (place : ℕ) (access : Access) → AllSuit attributes values
    → option_map_or (λ (a : Attribute). allows (access_kind access) a.domain) (slice_get attributes place) false ≡ true → HasKeyFor (slice_get values place) access
key_for attributes values place Order suit allowed = tt
key_for attributes values place (Tree file) suit allowed = key_at (allows MaxHeap) number_suits attributes values place suit allowed
key_for attributes values place (Table number) suit allowed = key_at (allows MemHash) number_suits_table attributes values place suit allowed

-- values that suit have keys for the indexes that are allowed
pub have_keys : (attributes : List Attribute) (values : List Value) (infos : List IndexInfo) → AllSuit attributes values → AreAllowed attributes infos → HaveKeys values infos
have_keys attributes values [] suit allowed = tt
have_keys attributes values (info ∷ infos) suit allowed = (key_for attributes values info.attribute info.access suit allowed.0, have_keys attributes values infos suit allowed.1)

-- ---- hash tables

-- where there is room for a key in each of them
pub are_open : (n : ℕ) (infos : List IndexInfo) → (list_any is_table_index infos ≡ true → n < 2048) → AreOpenFor n infos
are_open n [] h = tt
are_open n (info ∷ infos) h = (one info.access h, are_open n infos (λ e. h (later (is_memhash info.access) e)))
  where
    later : (b : Bool) → list_any is_table_index infos ≡ true → (b || list_any is_table_index infos) ≡ true
    later true e = refl
    later false e = e

    one : (access : Access) → ((is_memhash access || list_any is_table_index infos) ≡ true → n < 2048) → IsOpenFor n access
    one Order few = tt
    one (Tree file) few = tt
    one (Table number) few = few refl

-- ---- keys in order

suit_by : (attributes : List Attribute) (all : List Row) → ((i : ℕ) → i < length all → AllSuit attributes (get_or all i no_row).tuple) → AllRowsSuit attributes all
suit_by attributes [] h = tt
suit_by attributes (r ∷ all) h = (h zero (omega arith), suit_by attributes all (λ i below. h (suc i) (omega (arith, below))))

pub all_suit : (state : State) (t : Tuples) → IsTrue state.tells → HoldsRows state t → AllRowsSuit t.schema.attributes (rows state.files t)
all_suit state t told h = suit_by t.schema.attributes (rows state.files t) (λ i below. rows_suit state t told h i (omega (arith, below, rows_counted state.files t)))

module _ (attributes : List Attribute) (all : List Row) (values : List Value) (suit : AllSuit attributes values) (rows_suit : AllRowsSuit attributes all) (test : ℕ → Bool)
    (in_order : (last : Row) → slice_get all (length all - 1) ≡ Some last → fallen_from test 0 last.tuple values ≡ None) where
  follows : (state : State) (tables : Tables) (info : IndexInfo) (access : Access) → (is_order access ≡ true → test info.attribute ≡ true)
      → option_map_or (λ (a : Attribute). allows (access_kind access) a.domain) (slice_get attributes info.attribute) false ≡ true
      → IsComplete state tables access (keys info.attribute all) → MayFollow (keys info.attribute all) (tuple_key values info) access
  follows state tables info Order ordered allowed complete =
      let a = found_allowed Inline (slice_get attributes info.attribute) allowed in
      let row : Row = record { tuple = values; live = true } in
      ap first_fall (sym (keys_more info.attribute all row))
      ∙ order_kept Inline attributes test info.attribute a.0 all values true rows_suit suit a.1 a.2 (ordered refl) in_order complete
  follows state tables info (Tree file) ordered allowed complete = tt
  follows state tables info (Table number) ordered allowed complete = tt

  all_follow : (state : State) (tables : Tables) (infos : List IndexInfo) → ((place : ℕ) → is_ordered_by infos place ≡ true → test place ≡ true)
      → AreAllowed attributes infos → AreComplete state tables all infos → MayAllFollow all values infos
  all_follow state tables [] ordered allowed complete = tt
  all_follow state tables (info ∷ infos) ordered allowed complete = (
    follows state tables info info.access (λ is. ordered info.attribute (first is)) allowed.0 complete.0,
    all_follow state tables infos (λ place e. ordered place (either_right (is_order info.access && info.attribute == place) (is_ordered_by infos place) e)) allowed.1 complete.1,
  )
    where
      same : (n : ℕ) → (n == n) ≡ true
      same n = grind (arith, nat_tests)

      first : is_order info.access ≡ true → ((is_order info.access && info.attribute == info.attribute) || is_ordered_by infos info.attribute) ≡ true
      first is = λ i. (is i && same info.attribute i) || is_ordered_by infos info.attribute

in_order_by : (slot : ℕ) (infos : List IndexInfo) (o : Option Row) (values : List Value) → fallen (map (index_of_info slot) infos) o values ≡ None
    → (last : Row) → o ≡ Some last → fallen_from (is_ordered_by infos) 0 last.tuple values ≡ None
in_order_by slot infos o values none last e = fallen_of_last slot infos o last.tuple values last.live e ∙ none

-- a row that does not fall behind the last one may follow
pub may_follow : (state : State) (tables : Tables) (t : Tuples) (infos : List IndexInfo) (values : List Value) (slot : ℕ) → IsTrue state.tells → HoldsRows state t → AllSuit t.schema.attributes values
    → AreAllowed t.schema.attributes infos → fallen (map (index_of_info slot) infos) (slice_get (rows state.files t) (length (rows state.files t) - 1)) values ≡ None
    → AreComplete state tables (rows state.files t) infos → MayAllFollow (rows state.files t) values infos
may_follow state tables t infos values slot told holds suit allowed none complete =
    all_follow t.schema.attributes (rows state.files t) values suit (all_suit state t told holds) (is_ordered_by infos)
    (λ last e. in_order_by slot infos _ values none last e) state tables infos (λ place e. e) allowed complete
