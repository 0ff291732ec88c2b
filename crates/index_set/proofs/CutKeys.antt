-- What a cut in the middle of inserts leaves of the trees of a list: none names a slot behind the next one.
use Rattle.std.proofs.Common.{◌≡◌, ℕ, ℤ, zero, suc, ◌+◌, ◌<◌, ◌≤◌, List, [], ◌∷◌, ◌++◌, length, take, get_or, Option, refl, ap, sym, ◌∙◌, subst, arith, ⊎_elim, length-append}
use Rattle.std.specs.Prelude.{⊤, IsTrue, slice_get, unwrap_or}
use Rattle.std.specs.List.{AllByRecursion}
use Rattle.std.proofs.lemmas.Bool.{cases_eq, cases_lt}
use Rattle.std.proofs.lemmas.List.{get_or-take, length-take-le, take-take}
use Rattle.afl_base.specs.Files.{File, State, bytes_at, no_file}
use Rattle.afl_base.specs.Frames.{SparesOthers}
use Rattle.db_model.specs.declared.values.Value.{Value}
use Rattle.db_model.specs.Row.{Row}
use Rattle.db_model.specs.Step.{key_of, keys}
use Rattle.index_maxheap.specs.declared.rooms.Room.{Room}
use Rattle.index_maxheap.specs.Rooms.{MayInsert}
use Rattle.index_maxheap.proofs.CutInserts.{names_more, tree_names}
use Rattle.index_set.specs.declared.info.Access.{Access}
use Rattle.index_set.specs.declared.info.Access.TheVariants.{Order, Tree, Table as InTable}
use Rattle.index_set.specs.declared.info.IndexInfo.{IndexInfo}
use Rattle.index_set.specs.Complete.{AreComplete, IsComplete}
use Rattle.index_set.specs.Inserts.{AllNameFew, AreApart, AreRoomFor, HasKeyFor, IsApart, IsElsewhere, IsNoTree, IsRoomFor, KeepsTables, MayInsertKey, NamesFew, is_key}
use Rattle.index_set.specs.Tables.{Tables}
use Rattle.index_set.proofs.Inserted.{away_tree, complete_on, exact_here, keys_count, keys_more, later_stays, room_for_on}
use Rattle.index_set.proofs.Lists.{all_at, apart_before, before_it, here_of, take_of}
use Rattle.index_tree.specs.TreeFile.{NamesOnly}

-- ---- lists

all_from : (P : IndexInfo → Type 0) (xs : List IndexInfo) (d : IndexInfo) → ((i : ℕ) → i < length xs → P (get_or xs i d)) → AllByRecursion P xs
all_from P [] d each = tt
all_from P (x ∷ xs) d each = (each 0 (omega arith), all_from P xs d (λ i below. each (suc i) (omega (arith, below))))

-- ---- one index

-- a complete index names the slots that it has
pub names_complete : (s : State) (t : Tables) (n : ℕ) (access : Access) (ks : List ℤ) → length ks ≤ n → IsComplete s t access ks → NamesFew s n access
names_complete s t n Order ks few h = tt
names_complete s t n (Tree file) ks few h = names_more (length ks) n (bytes_at s.files file) few (tree_names (bytes_at s.files file) ks h)
names_complete s t n (InTable number) ks few h = tt

-- the file of its tree stays
abbrev FileStays : (ℕ → Type 0) → Access → Type 0
FileStays stays Order = ⊤
FileStays stays (Tree file) = stays file
FileStays stays (InTable number) = ⊤

names_on : (a b : State) (stays : ℕ → Type 0) (f : SparesOthers a b stays) (n : ℕ) (access : Access) → FileStays stays access → NamesFew a n access → NamesFew b n access
names_on a b stays f n Order kept h = tt
names_on a b stays f n (Tree file) kept h = subst (NamesOnly n) (sym (ap (λ (o : Option File). (unwrap_or o no_file).bytes) (f.others file kept))) h
names_on a b stays f n (InTable number) kept h = tt

-- one that is elsewhere
elsewhere_stays : (other access : Access) → IsElsewhere other access → FileStays (λ k. IsApart k access) other
elsewhere_stays Order access h = tt
elsewhere_stays (Tree file) access h = h
elsewhere_stays (InTable number) access h = tt

apart_from : (access other : Access) → IsElsewhere access other → FileStays (λ k. IsApart k access) other
apart_from Order Order h = tt
apart_from Order (Tree file) h = tt
apart_from Order (InTable number) h = tt
apart_from (Tree mine) Order h = tt
apart_from (Tree mine) (Tree file) h = λ same. h (sym same)
apart_from (Tree mine) (InTable number) h = tt
apart_from (InTable number) Order h = tt
apart_from (InTable number) (Tree file) h = tt
apart_from (InTable number) (InTable other) h = tt

later_file : (xs : List IndexInfo) (access : Access) → AllByRecursion (λ x. IsElsewhere x.access access) xs → FileStays (IsNoTree xs) access
later_file xs Order h = tt
later_file xs (Tree file) h = away_tree file xs h
later_file xs (InTable number) h = tt

-- ---- all of them

module _ (xs : List IndexInfo) (n : ℕ) (y : IndexInfo) (h : n < length xs) (e : y ≡ get_or xs n y) (apart : AreApart xs) (a b c : State) (t0 t1 : Tables)
    (f : SparesOthers a b (IsNoTree (take n xs))) (k1 : KeepsTables t0 t1 (take n xs)) (g : SparesOthers b c (λ k. IsApart k y.access)) where
  named_by : (access : Access) (value : Option Value) (key : ℤ) (ks : List ℤ) (room : Room) (m : ℕ) → HasKeyFor value access → (IsTrue (is_key value) → key ≡ key_of value)
      → (IsComplete b t1 access ks → IsRoomFor b key room access → NamesFew c m access)
      → IsComplete b t1 access ks → IsRoomFor b (key_of value) room access → NamesFew c m access
  named_by Order value key ks room m has is put whole room_for = tt
  named_by (Tree file) value key ks room m has is put whole room_for =
      let P : ℤ → Type 0 = λ k. IsComplete b t1 (Tree file) ks → IsRoomFor b k room (Tree file) → NamesFew c m (Tree file) in
      subst P (is has) put whole room_for
  named_by (InTable number) value key ks room m has is put whole room_for = tt

  pub all_named : (rows : List Row) (row : Row) (tuple : List Value) (rooms : List Room) (room : Room) (slot : ℕ) (key : ℤ) → length rows ≡ slot → row.tuple ≡ tuple → room ≡ get_or rooms n room → HasKeyFor (slice_get tuple y.attribute) y.access
      → (IsTrue (is_key (slice_get tuple y.attribute)) → key ≡ key_of (slice_get tuple y.attribute))
      → ((ks : List ℤ) → length ks ≡ slot → IsComplete b t1 y.access ks → IsRoomFor b key room y.access → NamesFew c (slot + 1) y.access)
      → AreComplete a t0 rows xs → AreRoomFor a tuple rooms xs → AreComplete b t1 (rows ++ row ∷ []) (take n xs) → AllNameFew c (slot + 1) xs
  all_named rows row tuple rooms room slot key count is room_is has read put all exact before = all_from (λ info. NamesFew c (slot + 1) info.access) xs y each
    where
      here : NamesFew c (slot + 1) y.access
      here =
          let E : IndexInfo → Type 0 = λ i. IsRoomFor a (key_of (slice_get tuple i.attribute)) room i.access in
          let F : Room → Type 0 = λ r. IsRoomFor a (key_of (slice_get tuple (get_or xs n y).attribute)) r (get_or xs n y).access in
          let whole = complete_on a b t0 t1 (IsNoTree (take n xs)) f (keys y.attribute rows) y.access (later_stays a b t0 t1 (take n xs) f y.access k1 (before_it xs n y h e apart)) (here_of xs n y h e (λ info. IsComplete a t0 info.access (keys info.attribute rows)) all) in
          let room_for = room_for_on a b t0 t1 (IsNoTree (take n xs)) f (key_of (slice_get tuple y.attribute)) room y.access (later_stays a b t0 t1 (take n xs) f y.access k1 (before_it xs n y h e apart)) (subst E (sym e) (subst F (sym room_is) (exact_here a tuple rooms xs n room y h exact))) in
          named_by y.access (slice_get tuple y.attribute) key (keys y.attribute rows) room (slot + 1) has read (put (keys y.attribute rows) (keys_count y.attribute rows ∙ count)) whole room_for

      each : (i : ℕ) → i < length xs → NamesFew c (slot + 1) (get_or xs i y).access
      each i below = ⊎_elim
          (λ (less : i < n).
          let z : get_or (take n xs) i y ≡ get_or xs i y = get_or-take n xs i y less in
          let inside : i < length (take n xs) = omega (arith, length-take-le n xs (omega (arith, h)), less) in
          let complete = all_at (λ info. IsComplete b t1 info.access (keys info.attribute (rows ++ row ∷ []))) (take n xs) i y inside before in
          let away = all_at (λ x. IsElsewhere x.access y.access) (take n xs) i y inside (before_it xs n y h e apart) in
          let few : length (keys (get_or (take n xs) i y).attribute (rows ++ row ∷ [])) ≤ slot + 1 =
          let m = keys_count (get_or (take n xs) i y).attribute (rows ++ row ∷ []) in let o = length-append rows (row ∷ []) in omega (arith, m, o, count) in
          let named = names_on b c (λ k. IsApart k y.access) g (slot + 1) (get_or (take n xs) i y).access (elsewhere_stays (get_or (take n xs) i y).access y.access away)
          (names_complete b t1 (slot + 1) (get_or (take n xs) i y).access (keys (get_or (take n xs) i y).attribute (rows ++ row ∷ [])) few complete) in
          subst (λ (info : IndexInfo). NamesFew c (slot + 1) info.access) z named)
          (λ (more : n ≤ i). ⊎_elim
          (λ (same : i ≡ n). subst (λ (info : IndexInfo). NamesFew c (slot + 1) info.access) (e ∙ ap (λ (m : ℕ). get_or xs m y) (sym same)) here)
          (λ (differs : i ≡ n → ⊥).
          let past : n < i = omega (arith, more, differs) in
          let access : Access = (get_or xs i y).access in
          let others = apart_before xs i y below apart in
          let front : take n (take i xs) ≡ take n xs = take-take n i xs more in
          let first = subst (λ (zs : List IndexInfo). AllByRecursion (λ x. IsElsewhere x.access access) zs) front (take_of (λ x. IsElsewhere x.access access) (take i xs) n others) in
          let inside : n < length (take i xs) = omega (arith, length-take-le i xs (omega (arith, below)), past) in
          let at : get_or (take i xs) n y ≡ y = get_or-take i xs n y past ∙ sym e in
          let second = subst (λ (info : IndexInfo). IsElsewhere info.access access) at (all_at (λ x. IsElsewhere x.access access) (take i xs) n y inside others) in
          let complete = all_at (λ info. IsComplete a t0 info.access (keys info.attribute rows)) xs i y below all in
          let few : length (keys (get_or xs i y).attribute rows) ≤ slot + 1 = let m = keys_count (get_or xs i y).attribute rows in omega (arith, m, count) in
          names_on b c (λ k. IsApart k y.access) g (slot + 1) access (apart_from y.access access second)
          (names_on a b (IsNoTree (take n xs)) f (slot + 1) access (later_file (take n xs) access first)
          (names_complete a t0 (slot + 1) access (keys (get_or xs i y).attribute rows) few complete)))
          (cases_eq i n))
          (cases_lt i n)

-- a key was being put into a tree
pub tree_cut : (old after : State) (tables : Tables) (file : ℕ) (room : Room) (key : ℤ) (slot : ℕ) → MayInsert old after file room key slot → MayInsertKey old after tables (Tree file) room key slot
tree_cut old after tables file room key slot m = record { others = m.others; names = λ keys count tree exact. m.names keys tree count (exact keys tree) }
