-- Inserts into one index after the other.
use Rattle.std.proofs.Common.{◌≡◌, ℕ, ℤ, zero, suc, ◌+◌, ◌<◌, ◌≤◌, List, [], ◌∷◌, ◌++◌, length, take, get_or, Option, unwrap_or, refl, ap, sym, ◌∙◌, subst, arith, IsTrue}
use Rattle.std.specs.Prelude.{⊤, slice_get}
use Rattle.std.specs.List.{AllByRecursion}
use Rattle.afl_base.specs.Files.{File, State, bytes_at, no_file}
use Rattle.afl_base.specs.Frames.{SparesOthers}
use Rattle.afl_base.proofs.FrameLaws.{live_by_name, spares_then}
use Rattle.db_model.specs.declared.values.Value.{Value}
use Rattle.db_model.specs.Row.{Row}
use Rattle.db_model.specs.Step.{key_of, keys}
use Rattle.index_maxheap.specs.declared.rooms.Room.{Room}
use Rattle.index_maxheap.specs.Rooms.{room_of}
use Rattle.index_set.specs.declared.info.Access.{Access}
use Rattle.index_set.specs.declared.info.Access.TheVariants.{Order, Tree, Table as InTable}
use Rattle.index_set.specs.declared.info.IndexInfo.{IndexInfo}
use Rattle.index_set.specs.declared.info.TableId.{TableId}
use Rattle.index_set.specs.declared.info.TableId.TheVariants.{First, Second}
use Rattle.index_set.specs.Complete.{AreComplete, AreHeld, IsComplete, IsHeld}
use Rattle.index_set.specs.Inserts.{AllKeepBuckets, AreApart, AreRoomFor, HasKeyFor, HasRoom, HaveRoom, IsApart, IsElsewhere, IsNoTable, IsNoTree, IsRoomFor, KeepsBuckets, KeepsTables, MayAllFollow, MayFollow, is_key}
use Rattle.index_set.specs.Tables.{Tables, entries}
use Rattle.index_set.proofs.Lists.{before_it, here_of, no_tree_more, room_moved, taken}
use Rattle.index_tree.specs.Places.{KeepsNumbers}
use Rattle.index_tree.specs.Trees.{IsTreeOf}
use Rattle.db_model.proofs.SoundSteps.{all_more}

-- ---- an index that stays while others change

-- those of a list are not its tree, or not its table
pub away_tree : (file : ℕ) (xs : List IndexInfo) → AllByRecursion (λ x. IsElsewhere x.access (Tree file)) xs → IsNoTree xs file
away_tree file [] h = tt
away_tree file (x ∷ xs) h = (one x.access h.0, away_tree file xs h.1)
  where
    one : (access : Access) → IsElsewhere access (Tree file) → IsApart file access
    one Order e = tt
    one (Tree other) e = λ same. e (sym same)
    one (InTable number) e = tt

pub away_table : (number : TableId) (xs : List IndexInfo) → AllByRecursion (λ x. IsElsewhere x.access (InTable number)) xs → AllByRecursion (λ x. IsNoTable number x.access) xs
away_table number [] h = tt
away_table number (x ∷ xs) h = (one number x.access h.0, away_table number xs h.1)
  where
    one : (n : TableId) (access : Access) → IsElsewhere access (InTable n) → IsNoTable n access
    one n Order e = tt
    one n (Tree other) e = tt
    one First (InTable First) e = e
    one First (InTable Second) e = tt
    one Second (InTable First) e = tt
    one Second (InTable Second) e = e

pub no_table : (n : TableId) (access : Access) → IsElsewhere (InTable n) access → IsNoTable n access
no_table n Order e = tt
no_table n (Tree other) e = tt
no_table First (InTable First) e = e
no_table First (InTable Second) e = tt
no_table Second (InTable First) e = tt
no_table Second (InTable Second) e = e

-- what is so of its file's place and of its entries stays so
module _ (a b : State) (s t : Tables) (stays : ℕ → Type 0) (f : SparesOthers a b stays) where
  abbrev pub Stays : Access → Type 0
  Stays Order = ⊤
  Stays (Tree file) = stays file
  Stays (InTable number) = entries t number ≡ entries s number

  bytes_stay : (file : ℕ) → stays file → bytes_at b.files file ≡ bytes_at a.files file
  bytes_stay file h = ap (λ (o : Option File). (unwrap_or o no_file).bytes) (f.others file h)

  pub held_on : (n : ℕ) (access : Access) → Stays access → IsHeld a s n access → IsHeld b t n access
  held_on n Order stay h = tt
  held_on n (Tree file) stay h = (live_by_name a.files b.files f.named file h.0, f.kind file h.0 ∙ h.1)
  held_on n (InTable number) stay h = (h.0, ap (λ (ks : List ℤ). length ks) stay ∙ h.1)

  pub complete_on : (ks : List ℤ) (access : Access) → Stays access → IsComplete a s access ks → IsComplete b t access ks
  complete_on ks Order stay h = h
  complete_on ks (Tree file) stay h = let P : List ℕ → Type 0 = λ bytes. IsTreeOf bytes ks in subst P (sym (bytes_stay file stay)) h
  complete_on ks (InTable number) stay h = stay ∙ h

  pub has_room_on : (room : Room) (access : Access) → Stays access → HasRoom a room access → HasRoom b room access
  has_room_on room Order stay h = h
  has_room_on room (Tree file) stay h = room_moved a b file room (f.others file stay) h
  has_room_on room (InTable number) stay h = h

  pub room_for_on : (key : ℤ) (room : Room) (access : Access) → Stays access → IsRoomFor a key room access → IsRoomFor b key room access
  room_for_on key room Order stay h = h
  room_for_on key room (Tree file) stay h = let P : List ℕ → Type 0 = λ bytes. (ks : List ℤ) → IsTreeOf bytes ks → room ≡ room_of bytes key in subst P (sym (bytes_stay file stay)) h
  room_for_on key room (InTable number) stay h = h

  pub kept_to : (z : State) (access : Access) → Stays access → KeepsBuckets z a access → KeepsBuckets z b access
  kept_to z Order stay h = h
  kept_to z (Tree file) stay h = let P : List ℕ → Type 0 = λ bytes. KeepsNumbers (bytes_at z.files file) bytes in subst P (sym (bytes_stay file stay)) h
  kept_to z (InTable number) stay h = h

  pub kept_from : (z : State) (access : Access) → Stays access → KeepsBuckets b z access → KeepsBuckets a z access
  kept_from z Order stay h = h
  kept_from z (Tree file) stay h = let P : List ℕ → Type 0 = λ bytes. KeepsNumbers bytes (bytes_at z.files file) in subst P (bytes_stay file stay) h
  kept_from z (InTable number) stay h = h

-- the index at a place, while those before it are filled
pub later_stays : (a b : State) (s t : Tables) (xs : List IndexInfo) (f : SparesOthers a b (IsNoTree xs)) (access : Access)
    → ((number : TableId) → AllByRecursion (λ x. IsNoTable number x.access) xs → entries t number ≡ entries s number)
    → AllByRecursion (λ x. IsElsewhere x.access access) xs → Stays a b s t (IsNoTree xs) f access
later_stays a b s t xs f Order keeps h = tt
later_stays a b s t xs f (Tree file) keeps h = away_tree file xs h
later_stays a b s t xs f (InTable number) keeps h = keeps number (away_table number xs h)

-- those that are filled, while one behind them is
pub earlier_stays : (a b : State) (s t : Tables) (access : Access) (f : SparesOthers a b (λ k. IsApart k access)) (other : Access)
    → ((number : TableId) → IsNoTable number access → entries t number ≡ entries s number) → IsElsewhere other access → Stays a b s t (λ k. IsApart k access) f other
earlier_stays a b s t access f Order keeps h = tt
earlier_stays a b s t access f (Tree file) keeps h = h
earlier_stays a b s t access f (InTable number) keeps h = keeps number (no_table number access h)

module _ (a b : State) (s t : Tables) (access : Access) (f : SparesOthers a b (λ k. IsApart k access)) (keeps : (number : TableId) → IsNoTable number access → entries t number ≡ entries s number) where
  pub held_before : (n : ℕ) (xs : List IndexInfo) → AllByRecursion (λ x. IsElsewhere x.access access) xs → AreHeld a s n xs → AreHeld b t n xs
  held_before n [] away h = tt
  held_before n (x ∷ xs) away h = (held_on a b s t (λ k. IsApart k access) f n x.access (earlier_stays a b s t access f x.access keeps away.0) h.0, held_before n xs away.1 h.1)

  pub complete_before : (rows : List Row) (xs : List IndexInfo) → AllByRecursion (λ x. IsElsewhere x.access access) xs → AreComplete a s rows xs → AreComplete b t rows xs
  complete_before rows [] away h = tt
  complete_before rows (x ∷ xs) away h =
      (complete_on a b s t (λ k. IsApart k access) f (keys x.attribute rows) x.access (earlier_stays a b s t access f x.access keeps away.0) h.0, complete_before rows xs away.1 h.1)

  pub kept_before : (z : State) (xs : List IndexInfo) → AllByRecursion (λ x. IsElsewhere x.access access) xs → AllKeepBuckets z a xs → AllKeepBuckets z b xs
  kept_before z [] away h = tt
  kept_before z (x ∷ xs) away h = (kept_to a b s t (λ k. IsApart k access) f z x.access (earlier_stays a b s t access f x.access keeps away.0) h.0, kept_before z xs away.1 h.1)

-- ---- lists

pub all_less : {T : Type 0} (P : T → Type 0) (xs : List T) (y : T) → AllByRecursion P (xs ++ y ∷ []) → AllByRecursion P xs × P y
all_less P [] y all = (tt, all.0)
all_less P (x ∷ xs) y all = let rest = all_less P xs y all.1 in ((all.0, rest.0), rest.1)

pub enough_rooms : (s : State) (rooms : List Room) (xs : List IndexInfo) → HaveRoom s rooms xs → length xs ≤ length rooms
enough_rooms s rooms [] all = omega arith
enough_rooms s [] (x ∷ xs) all = absurd all
enough_rooms s (r ∷ rooms) (x ∷ xs) all = let rest = enough_rooms s rooms xs all.1 in omega (arith, rest)

pub room_here : (s : State) (rooms : List Room) (xs : List IndexInfo) (n : ℕ) (d : Room) (y : IndexInfo) → n < length xs → HaveRoom s rooms xs → HasRoom s (get_or rooms n d) (get_or xs n y).access
room_here s rooms [] n d y h all = absurd (omega (arith, h))
room_here s [] (x ∷ xs) n d y h all = absurd all
room_here s (r ∷ rooms) (x ∷ xs) zero d y h all = all.0
room_here s (r ∷ rooms) (x ∷ xs) (suc n) d y h all = room_here s rooms xs n d y (omega (arith, h)) all.1

pub exact_here : (s : State) (tuple : List Value) (rooms : List Room) (xs : List IndexInfo) (n : ℕ) (d : Room) (y : IndexInfo) → n < length xs → AreRoomFor s tuple rooms xs
    → IsRoomFor s (key_of (slice_get tuple (get_or xs n y).attribute)) (get_or rooms n d) (get_or xs n y).access
exact_here s tuple rooms [] n d y h all = absurd (omega (arith, h))
exact_here s tuple [] (x ∷ xs) n d y h all = absurd all
exact_here s tuple (r ∷ rooms) (x ∷ xs) zero d y h all = all.0
exact_here s tuple (r ∷ rooms) (x ∷ xs) (suc n) d y h all = exact_here s tuple rooms xs n d y (omega (arith, h)) all.1

pub keys_more : (attribute : ℕ) (rows : List Row) (row : Row) → keys attribute (rows ++ row ∷ []) ≡ keys attribute rows ++ key_of (slice_get row.tuple attribute) ∷ []
keys_more attribute [] row = refl
keys_more attribute (r ∷ rows) row = ap (λ ks. key_of (slice_get r.tuple attribute) ∷ ks) (keys_more attribute rows row)

pub keys_count : (attribute : ℕ) (rows : List Row) → length (keys attribute rows) ≡ length rows
keys_count attribute [] = refl
keys_count attribute (r ∷ rows) = ap suc (keys_count attribute rows)

-- ---- one index more

module _ (xs : List IndexInfo) (n : ℕ) (y : IndexInfo) (h : n < length xs) (e : y ≡ get_or xs n y) (apart : AreApart xs) (a b c : State) (t0 t1 t2 : Tables)
    (f : SparesOthers a b (IsNoTree (take n xs))) (k1 : KeepsTables t0 t1 (take n xs)) where
  stays : Stays a b t0 t1 (IsNoTree (take n xs)) f y.access
  stays = later_stays a b t0 t1 (take n xs) f y.access k1 (before_it xs n y h e apart)

  pub ready_next : (slot : ℕ) → AreHeld a t0 slot xs → IsHeld b t1 slot y.access
  ready_next slot all = held_on a b t0 t1 (IsNoTree (take n xs)) f slot y.access stays (here_of xs n y h e (λ info. IsHeld a t0 slot info.access) all)

  pub room_next : (rooms : List Room) (room : Room) → room ≡ get_or rooms n room → HaveRoom a rooms xs → HasRoom b room y.access
  room_next rooms room is have =
      let H : IndexInfo → Type 0 = λ i. HasRoom a room i.access in
      let R : Room → Type 0 = λ r. HasRoom a r (get_or xs n y).access in
      has_room_on a b t0 t1 (IsNoTree (take n xs)) f room y.access stays (subst H (sym e) (subst R (sym is) (room_here a rooms xs n room y h have)))

  -- a key that the index can hold is the one that was read, and the order takes any
  filled : (access : Access) (value : Option Value) (key : ℤ) (ks : List ℤ) (room : Room) → HasKeyFor value access → (IsTrue (is_key value) → key ≡ key_of value)
      → (IsComplete b t1 access ks → IsRoomFor b key room access → MayFollow ks key access → IsComplete c t2 access (ks ++ key ∷ []))
      → IsComplete b t1 access ks → IsRoomFor b (key_of value) room access → MayFollow ks (key_of value) access → IsComplete c t2 access (ks ++ key_of value ∷ [])
  filled Order value key ks room has is put whole room_for may = may
  filled (Tree file) value key ks room has is put whole room_for may =
      let P : ℤ → Type 0 = λ k. IsComplete b t1 (Tree file) ks → IsRoomFor b k room (Tree file) → MayFollow ks k (Tree file) → IsComplete c t2 (Tree file) (ks ++ k ∷ []) in
      subst P (is has) put whole room_for may
  filled (InTable number) value key ks room has is put whole room_for may =
      let P : ℤ → Type 0 = λ k. IsComplete b t1 (InTable number) ks → IsRoomFor b k room (InTable number) → MayFollow ks k (InTable number) → IsComplete c t2 (InTable number) (ks ++ k ∷ []) in
      subst P (is has) put whole room_for may

  kept_by : (access : Access) (value : Option Value) (key : ℤ) (ks : List ℤ) (room : Room) → HasKeyFor value access → (IsTrue (is_key value) → key ≡ key_of value)
      → (IsComplete b t1 access ks → IsRoomFor b key room access → KeepsBuckets b c access)
      → IsComplete b t1 access ks → IsRoomFor b (key_of value) room access → KeepsBuckets b c access
  kept_by Order value key ks room has is put whole room_for = tt
  kept_by (Tree file) value key ks room has is put whole room_for =
      let P : ℤ → Type 0 = λ k. IsComplete b t1 (Tree file) ks → IsRoomFor b k room (Tree file) → KeepsBuckets b c (Tree file) in
      subst P (is has) put whole room_for
  kept_by (InTable number) value key ks room has is put whole room_for = tt

  module _ (g : SparesOthers b c (λ k. IsApart k y.access)) (k2 : (number : TableId) → IsNoTable number y.access → entries t2 number ≡ entries t1 number) where
    pub spares_next : SparesOthers a c (IsNoTree (take (n + 1) xs))
    spares_next = spares_then a b c (IsNoTree (take n xs)) (λ k. IsApart k y.access) (IsNoTree (take (n + 1) xs)) f g
        (λ k all. no_tree_more (take n xs) y k (let P : List IndexInfo → Type 0 = λ ys. IsNoTree ys k in subst P (taken xs n y h e) all))

    pub tables_next : KeepsTables t0 t2 (take (n + 1) xs)
    tables_next = λ number all.
        let P : List IndexInfo → Type 0 = λ ys. AllByRecursion (λ x. IsNoTable number x.access) ys in
        let both = all_less (λ x. IsNoTable number x.access) (take n xs) y (subst P (taken xs n y h e) all) in
        k2 number both.1 ∙ k1 number both.0

    pub held_next : (m : ℕ) → AreHeld b t1 m (take n xs) → IsHeld c t2 m y.access → AreHeld c t2 m (take (n + 1) xs)
    held_next m all here =
        let P : List IndexInfo → Type 0 = λ ys. AreHeld c t2 m ys in
        subst P (sym (taken xs n y h e)) (all_more (λ x. IsHeld c t2 m x.access) (take n xs) y (held_before b c t1 t2 y.access g k2 m (take n xs) (before_it xs n y h e apart) all) here)

    pub complete_next : (rows : List Row) (row : Row) (tuple : List Value) (rooms : List Room) (room : Room) (slot : ℕ) (key : ℤ) → length rows ≡ slot → row.tuple ≡ tuple → room ≡ get_or rooms n room → HasKeyFor (slice_get tuple y.attribute) y.access
        → (IsTrue (is_key (slice_get tuple y.attribute)) → key ≡ key_of (slice_get tuple y.attribute))
        → ((ks : List ℤ) → length ks ≡ slot → IsComplete b t1 y.access ks → IsRoomFor b key room y.access → MayFollow ks key y.access → IsComplete c t2 y.access (ks ++ key ∷ []))
        → AreComplete a t0 rows xs → AreRoomFor a tuple rooms xs → MayAllFollow rows tuple xs
        → AreComplete b t1 (rows ++ row ∷ []) (take n xs) → AreComplete c t2 (rows ++ row ∷ []) (take (n + 1) xs)
    complete_next rows row tuple rooms room slot key count is room_is has read put all exact may before =
        let ks : List ℤ = keys y.attribute rows in
        let E : IndexInfo → Type 0 = λ i. IsRoomFor a (key_of (slice_get tuple i.attribute)) room i.access in
        let F : Room → Type 0 = λ r. IsRoomFor a (key_of (slice_get tuple (get_or xs n y).attribute)) r (get_or xs n y).access in
        let whole = complete_on a b t0 t1 (IsNoTree (take n xs)) f ks y.access stays (here_of xs n y h e (λ info. IsComplete a t0 info.access (keys info.attribute rows)) all) in
        let room_for = room_for_on a b t0 t1 (IsNoTree (take n xs)) f (key_of (slice_get tuple y.attribute)) room y.access stays (subst E (sym e) (subst F (sym room_is) (exact_here a tuple rooms xs n room y h exact))) in
        let follows = here_of xs n y h e (λ info. MayFollow (keys info.attribute rows) (key_of (slice_get tuple info.attribute)) info.access) may in
        let new = filled y.access (slice_get tuple y.attribute) key ks room has read (put ks (keys_count y.attribute rows ∙ count)) whole room_for follows in
        let same : keys y.attribute (rows ++ row ∷ []) ≡ ks ++ key_of (slice_get tuple y.attribute) ∷ [] = keys_more y.attribute rows row ∙ ap (λ (vs : List Value). ks ++ key_of (slice_get vs y.attribute) ∷ []) is in
        let C : List ℤ → Type 0 = λ zs. IsComplete c t2 y.access zs in
        let P : List IndexInfo → Type 0 = λ ys. AreComplete c t2 (rows ++ row ∷ []) ys in
        subst P (sym (taken xs n y h e))
        (all_more (λ info. IsComplete c t2 info.access (keys info.attribute (rows ++ row ∷ []))) (take n xs) y
        (complete_before b c t1 t2 y.access g k2 (rows ++ row ∷ []) (take n xs) (before_it xs n y h e apart) before) (subst C (sym same) new))

    pub keeps_next : (rows : List Row) (tuple : List Value) (rooms : List Room) (room : Room) (slot : ℕ) (key : ℤ) → length rows ≡ slot → room ≡ get_or rooms n room → HasKeyFor (slice_get tuple y.attribute) y.access
        → (IsTrue (is_key (slice_get tuple y.attribute)) → key ≡ key_of (slice_get tuple y.attribute))
        → ((ks : List ℤ) → length ks ≡ slot → IsComplete b t1 y.access ks → IsRoomFor b key room y.access → KeepsBuckets b c y.access)
        → AreComplete a t0 rows xs → AreRoomFor a tuple rooms xs → AllKeepBuckets a b (take n xs) → AllKeepBuckets a c (take (n + 1) xs)
    keeps_next rows tuple rooms room slot key count room_is has read put all exact before =
        let ks : List ℤ = keys y.attribute rows in
        let E : IndexInfo → Type 0 = λ i. IsRoomFor a (key_of (slice_get tuple i.attribute)) room i.access in
        let F : Room → Type 0 = λ r. IsRoomFor a (key_of (slice_get tuple (get_or xs n y).attribute)) r (get_or xs n y).access in
        let whole = complete_on a b t0 t1 (IsNoTree (take n xs)) f ks y.access stays (here_of xs n y h e (λ info. IsComplete a t0 info.access (keys info.attribute rows)) all) in
        let room_for = room_for_on a b t0 t1 (IsNoTree (take n xs)) f (key_of (slice_get tuple y.attribute)) room y.access stays (subst E (sym e) (subst F (sym room_is) (exact_here a tuple rooms xs n room y h exact))) in
        let here = kept_from a b t0 t1 (IsNoTree (take n xs)) f c y.access stays (kept_by y.access (slice_get tuple y.attribute) key ks room has read (put ks (keys_count y.attribute rows ∙ count)) whole room_for) in
        let P : List IndexInfo → Type 0 = λ ys. AllKeepBuckets a c ys in
        subst P (sym (taken xs n y h e))
        (all_more (λ info. KeepsBuckets a c info.access) (take n xs) y (kept_before b c t1 t2 y.access g k2 a (take n xs) (before_it xs n y h e apart) before) here)

pub all_whole : {T : Type 0} (P : T → Type 0) (xs : List T) (n : ℕ) → length xs ≤ n → AllByRecursion P (take n xs) → AllByRecursion P xs
all_whole P [] n h all = tt
all_whole P (x ∷ xs) zero h all = absurd (omega (arith, h))
all_whole P (x ∷ xs) (suc n) h all = (all.0, all_whole P xs n (omega (arith, h)) all.1)

pub complete_all : (s : State) (t : Tables) (rows : List Row) (xs : List IndexInfo) (n : ℕ) → length xs ≤ n → AreComplete s t rows (take n xs) → AreComplete s t rows xs
complete_all s t rows [] n h all = tt
complete_all s t rows (x ∷ xs) zero h all = absurd (omega (arith, h))
complete_all s t rows (x ∷ xs) (suc n) h all = (all.0, complete_all s t rows xs n (omega (arith, h)) all.1)
