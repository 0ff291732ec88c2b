-- Indexes of a list one by one, and the rooms of their trees.
use Rattle.std.proofs.Common.{length-append, ◌≡◌, ◌≢◌, ℕ, ℤ, ◌+◌, ◌<◌, ◌≤◌, List, [], ◌∷◌, ◌++◌, length, take, get_or, zero, suc, add-one, Option, unwrap_or, refl, ap, sym, ◌∙◌, subst, arith, inl, inr, IsTrue}
use Rattle.std.specs.Prelude.{Err, IsErrOf, slice_get}
use Rattle.std.specs.List.{AllByRecursion}
use Rattle.afl_base.specs.declared.kind.FileError.{FileError}
use Rattle.afl_base.specs.declared.kind.FileError.TheVariants.{Space, Failed}
use Rattle.afl_base.specs.FileErrors.{OnSpace, UnlessFailed}
use Rattle.afl_base.specs.Files.{File, IsLive, State, bytes_at, file_at, no_file, place, size_at}
use Rattle.afl_base.specs.Frames.{Prepares, SparesOthers}
use Rattle.afl_base.proofs.FrameLaws.{becomes_spares, live_by_name, prepares_then, spares_then}
use Rattle.db_model.specs.declared.values.Value.{Value}
use Rattle.db_model.specs.Step.{key_of}
use Rattle.index_maxheap.specs.declared.rooms.End.{End}
use Rattle.index_maxheap.specs.declared.rooms.End.TheVariants as end
use Rattle.index_maxheap.specs.declared.rooms.Room.{Room}
use Rattle.index_maxheap.specs.Rooms.{HasRoomFor, IsRoomIn, OnlyIndexChanges, room_at as room_at_end, room_of}
use Rattle.index_set.specs.declared.info.Access.{Access}
use Rattle.index_set.specs.declared.info.Access.TheVariants.{Order, Tree, Table as InTable}
use Rattle.index_set.specs.declared.info.IndexInfo.{IndexInfo}
use Rattle.index_set.specs.Complete.{IsHeld}
use Rattle.index_set.specs.Inserts.{AreApart, AreRoomFor, AsksFor, HasKeyFor, HasRoom, HaveRoom, IsApart, IsDoublingTree, IsElsewhere, IsNoTree, IsRoomFor, OneAsksFor, SomeOf, is_key, tuple_key}
use Rattle.index_set.specs.declared.info.TableId.{TableId}
use Rattle.index_set.specs.Tables.{Tables, entries}
use Rattle.index_tree.specs.Trees.{IsTreeOf}

-- ---- the room of a tree

-- a file that is at its place as before has the room that it had
pub room_moved : (a b : State) (file : ℕ) (room : Room) → place b.files file ≡ place a.files file → HasRoomFor a file room → HasRoomFor b file room
room_moved a b file room e h =
    let P : Option File → Type 0 = λ o. IsRoomIn room (length (unwrap_or o no_file).bytes) in
    let R : Option File → Type 0 = λ o. room.overwrites ≤ (unwrap_or o no_file).records in
    let B : Option File → Type 0 = λ o. room.bytes ≤ (unwrap_or o no_file).room in
    record { place = subst P (sym e) h.place; records = subst R (sym e) h.records; bytes = subst B (sym e) h.bytes }

-- a file that keeps its size has the room that was made
pub room_made : (a b : State) (file : ℕ) (room : Room) → IsRoomIn room (size_at a.files file) → size_at b.files file ≡ size_at a.files file → room.overwrites ≤ (file_at b.files file).records → room.bytes ≤ (file_at b.files file).room → HasRoomFor b file room
room_made a b file room within size records bytes = record { place = subst (λ (n : ℕ). IsRoomIn room n) (sym size) within; records = records; bytes = bytes }

-- what overwrites nothing appends nothing
nothing_by : (e : End) (n b : ℕ) → n ≡ (room_at_end e).overwrites → b ≡ (room_at_end e).bytes → n ≡ 0 → b ≡ 0
nothing_by (end.Pair at) n b is c none = c
nothing_by (end.Bucket at) n b is c none = absurd (omega (arith, is, none))
nothing_by end.Nowhere n b is c none = c

pub nothing_needed : (a : State) (file : ℕ) (room : Room) → IsRoomIn room (size_at a.files file) → room.overwrites ≡ 0 → HasRoomFor a file room
nothing_needed a file room within none =
    let bytes : room.bytes ≡ 0 = nothing_by room.end room.overwrites room.bytes (ap (λ (r : Room). r.overwrites) within.whole) (ap (λ (r : Room). r.bytes) within.whole) none in
    record { place = within; records = omega (arith, none); bytes = omega (arith, bytes) }

pub only_spares : (old new : State) (file : ℕ) → IsLive old.files file → OnlyIndexChanges old new file → SparesOthers old new (λ k. k ≢ file)
only_spares old new file live only = becomes_spares old new file only.0 only.1 live only.2

-- ---- lists of indexes

pub all_at : {T : Type 0} (P : T → Type 0) (xs : List T) (n : ℕ) (d : T) → n < length xs → AllByRecursion P xs → P (get_or xs n d)
all_at P [] n d h all = absurd (omega (arith, h))
all_at P (x ∷ xs) zero d h all = all.0
all_at P (x ∷ xs) (suc n) d h all = all_at P xs n d (omega (arith, h)) all.1

pub some_at : (P : IndexInfo → Type 0) (xs : List IndexInfo) (n : ℕ) (d : IndexInfo) → n < length xs → P (get_or xs n d) → SomeOf P xs
some_at P [] n d h p = absurd (omega (arith, h))
some_at P (x ∷ xs) zero d h p = inl p
some_at P (x ∷ xs) (suc n) d h p = inr (some_at P xs n d (omega (arith, h)) p)

pub take_next : {T : Type 0} (xs : List T) (n : ℕ) (d : T) → n < length xs → take (n + 1) xs ≡ take n xs ++ get_or xs n d ∷ []
take_next xs n d h = rw (add-one n) (go xs n h)
  where
    go : (xs : List _) (n : ℕ) → n < length xs → take (suc n) xs ≡ take n xs ++ get_or xs n d ∷ []
    go [] n h = absurd (omega (arith, h))
    go (x ∷ xs) zero h = refl
    go (x ∷ xs) (suc n) h = ap (λ ys. x ∷ ys) (go xs n (omega (arith, h)))

-- those before have other files and tables than one of the list
pub apart_before : (xs : List IndexInfo) (n : ℕ) (d : IndexInfo) → n < length xs → AreApart xs → AllByRecursion (λ x. IsElsewhere x.access (get_or xs n d).access) (take n xs)
apart_before [] n d h apart = absurd (omega (arith, h))
apart_before (x ∷ xs) zero d h apart = tt
apart_before (x ∷ xs) (suc n) d h apart = (all_at (λ y. IsElsewhere x.access y.access) xs n d (omega (arith, h)) apart.0, apart_before xs n d (omega (arith, h)) apart.1)

pub no_tree_more : (xs : List IndexInfo) (y : IndexInfo) (k : ℕ) → IsNoTree (xs ++ y ∷ []) k → IsNoTree xs k × IsApart k y.access
no_tree_more [] y k h = (tt, h.0)
no_tree_more (x ∷ xs) y k h = let rest = no_tree_more xs y k h.1 in ((h.0, rest.0), rest.1)

-- ---- rooms

pub rooms_more : (s : State) (rooms : List Room) (xs : List IndexInfo) (room : Room) (y : IndexInfo) → length rooms ≡ length xs → HaveRoom s rooms xs → HasRoom s room y.access → HaveRoom s (rooms ++ room ∷ []) (xs ++ y ∷ [])
rooms_more s [] [] room y e all here = (here, tt)
rooms_more s [] (x ∷ xs) room y e all here = absurd (omega (arith, e))
rooms_more s (r ∷ rooms) [] room y e all here = absurd (omega (arith, e))
rooms_more s (r ∷ rooms) (x ∷ xs) room y e all here = (all.0, rooms_more s rooms xs room y (omega (arith, e)) all.1 here)

pub exact_more : (s : State) (tuple : List Value) (rooms : List Room) (xs : List IndexInfo) (room : Room) (y : IndexInfo) → length rooms ≡ length xs → AreRoomFor s tuple rooms xs
    → IsRoomFor s (key_of (slice_get tuple y.attribute)) room y.access → AreRoomFor s tuple (rooms ++ room ∷ []) (xs ++ y ∷ [])
exact_more s tuple [] [] room y e all here = (here, tt)
exact_more s tuple [] (x ∷ xs) room y e all here = absurd (omega (arith, e))
exact_more s tuple (r ∷ rooms) [] room y e all here = absurd (omega (arith, e))
exact_more s tuple (r ∷ rooms) (x ∷ xs) room y e all here = (all.0, exact_more s tuple rooms xs room y (omega (arith, e)) all.1 here)

-- the room of the others is as it was
pub rooms_stay : (a b : State) (access : Access) (rooms : List Room) (xs : List IndexInfo) → SparesOthers a b (λ k. IsApart k access) → AllByRecursion (λ x. IsElsewhere x.access access) xs → HaveRoom a rooms xs → HaveRoom b rooms xs
rooms_stay a b access rooms [] f away h = h
rooms_stay a b access [] (x ∷ xs) f away h = h
rooms_stay a b access (room ∷ rooms) (x ∷ xs) f away h = (one x.access away.0 h.0, rooms_stay a b access rooms xs f away.1 h.1)
  where
    one : (other : Access) → IsElsewhere other access → HasRoom a room other → HasRoom b room other
    one Order apart h = h
    one (Tree file) apart h = room_moved a b file room (f.others file apart) h
    one (InTable number) apart h = h

-- a tree's file stays there
pub tree_live : (a b : State) (P : ℕ → Type 0) (tables : Tables) (n : ℕ) (access : Access) → SparesOthers a b P → IsHeld a tables n access → IsDoublingTree b access
tree_live a b P tables n Order f h = tt
tree_live a b P tables n (Tree file) f h = (live_by_name a.files b.files f.named file h.0, f.kind file h.0 ∙ h.1)
tree_live a b P tables n (InTable number) f h = tt

-- the room for a key is the same over the same bytes
pub room_for : (a b : State) (key : ℤ) (room : Room) (access : Access) → ((k : ℕ) → bytes_at b.files k ≡ bytes_at a.files k) → IsRoomFor b key room access → IsRoomFor a key room access
room_for a b key room Order same h = h
room_for a b key room (Tree file) same h = let P : List ℕ → Type 0 = λ bytes. (ks : List ℤ) → IsTreeOf bytes ks → room ≡ room_of bytes key in subst P (same file) h
room_for a b key room (InTable number) same h = h

-- a key that an index can hold is the one that was read
pub key_for : (value : Option Value) (key : ℤ) (s : State) (room : Room) (access : Access) → HasKeyFor value access → (IsTrue (is_key value) → key ≡ key_of value) → IsRoomFor s key room access → IsRoomFor s (key_of value) room access
key_for value key s room Order has is h = h
key_for value key s room (Tree file) has is h = let P : ℤ → Type 0 = λ k. IsRoomFor s k room (Tree file) in subst P (is has) h
key_for value key s room (InTable number) has is h = h

pub take_of : {T : Type 0} (P : T → Type 0) (xs : List T) (n : ℕ) → AllByRecursion P xs → AllByRecursion P (take n xs)
take_of P [] zero all = tt
take_of P [] (suc n) all = tt
take_of P (x ∷ xs) zero all = tt
take_of P (x ∷ xs) (suc n) all = (all.0, take_of P xs n all.1)

pub take_length : {T : Type 0} (xs : List T) (n : ℕ) → n < length xs → length (take n xs) ≡ n
take_length [] n h = absurd (omega (arith, h))
take_length (x ∷ xs) zero h = refl
take_length (x ∷ xs) (suc n) h = ap suc (take_length xs n (omega (arith, h)))

-- one more index of the list, at its place
module _ (xs : List IndexInfo) (n : ℕ) (y : IndexInfo) (h : n < length xs) (e : y ≡ get_or xs n y) where
  pub taken : take (n + 1) xs ≡ take n xs ++ y ∷ []
  taken = take_next xs n y h ∙ ap (λ (i : IndexInfo). take n xs ++ i ∷ []) (sym e)

  pub here_of : (P : IndexInfo → Type 0) → AllByRecursion P xs → P y
  here_of P all = subst P (sym e) (all_at P xs n y h all)

  pub some_of : (P : IndexInfo → Type 0) → P y → SomeOf P xs
  some_of P p = some_at P xs n y h (subst P e p)

  pub before_it : AreApart xs → AllByRecursion (λ x. IsElsewhere x.access y.access) (take n xs)
  before_it apart = let P : IndexInfo → Type 0 = λ i. AllByRecursion (λ x. IsElsewhere x.access i.access) (take n xs) in subst P (sym e) (apart_before xs n y h apart)

  pub spares_all : (a b c : State) → SparesOthers a b (IsNoTree (take n xs)) → SparesOthers b c (λ k. IsApart k y.access) → SparesOthers a c (IsNoTree xs)
  spares_all a b c f g = spares_then a b c (IsNoTree (take n xs)) (λ k. IsApart k y.access) (IsNoTree xs) f g
      (λ k all. (take_of (λ info. IsApart k info.access) xs n all, here_of (λ info. IsApart k info.access) all))

  module _ (a b c : State) (f : Prepares a b (IsNoTree (take n xs))) (g : Prepares b c (λ k. IsApart k y.access)) where
    pub prepares_all : Prepares a c (IsNoTree xs)
    prepares_all = prepares_then a b c (IsNoTree (take n xs)) (λ k. IsApart k y.access) (IsNoTree xs) f g
        (λ k all. (take_of (λ info. IsApart k info.access) xs n all, here_of (λ info. IsApart k info.access) all))

    pub prepares_more : Prepares a c (IsNoTree (take (n + 1) xs))
    prepares_more = prepares_then a b c (IsNoTree (take n xs)) (λ k. IsApart k y.access) (IsNoTree (take (n + 1) xs)) f g
        (λ k all. no_tree_more (take n xs) y k (let P : List IndexInfo → Type 0 = λ ys. IsNoTree ys k in subst P taken all))

    pub rooms_next : (rooms new : List Room) (room : Room) → AreApart xs → new ≡ rooms ++ room ∷ [] → length rooms ≡ n → HaveRoom b rooms (take n xs) → HasRoom c room y.access → HaveRoom c new (take (n + 1) xs)
    rooms_next rooms new room apart is count all here =
        let P : List Room → List IndexInfo → Type 0 = λ rs ys. HaveRoom c rs ys in
        let Q : List IndexInfo → Type 0 = λ ys. P (rooms ++ room ∷ []) ys in
        let R : List Room → Type 0 = λ rs. P rs (take (n + 1) xs) in
        subst R (sym is) (subst Q (sym taken)
        (rooms_more c rooms (take n xs) room y (count ∙ sym (take_length xs n h)) (rooms_stay b c y.access rooms (take n xs) g.spares (before_it apart) all) here))

  pub exact_next : (a : State) (tuple : List Value) (rooms new : List Room) (room : Room) → new ≡ rooms ++ room ∷ [] → length rooms ≡ n → AreRoomFor a tuple rooms (take n xs)
      → IsRoomFor a (key_of (slice_get tuple y.attribute)) room y.access → AreRoomFor a tuple new (take (n + 1) xs)
  exact_next a tuple rooms new room is count all here =
      let Q : List IndexInfo → Type 0 = λ ys. AreRoomFor a tuple (rooms ++ room ∷ []) ys in
      let R : List Room → Type 0 = λ rs. AreRoomFor a tuple rs (take (n + 1) xs) in
      subst R (sym is) (subst Q (sym taken) (exact_more a tuple rooms (take n xs) room y (count ∙ sym (take_length xs n h)) all here))

pub asks_key : (asks : ℕ → ℕ → ℕ → ℕ → Type 0) (value : Option Value) (key : ℤ) (s : State) (need : ℕ) (access : Access) → HasKeyFor value access → (IsTrue (is_key value) → key ≡ key_of value) → AsksFor asks s key need access → AsksFor asks s (key_of value) need access
asks_key asks value key s need Order has is h = h
asks_key asks value key s need (Tree file) has is h = let P : ℤ → Type 0 = λ k. AsksFor asks s k need (Tree file) in subst P (is has) h
asks_key asks value key s need (InTable number) has is h = h

-- what a tree asks for is asked for as before, while its bytes stay and nothing more is asked for
pub asks_before : (before now : ℕ → ℕ → ℕ → ℕ → Type 0) (a b : State) (key : ℤ) (need : ℕ) (access : Access) → ((id w n m : ℕ) → now id w n m → before id w n m) → ((k : ℕ) → bytes_at b.files k ≡ bytes_at a.files k) → AsksFor now b key need access → AsksFor before a key need access
asks_before before now a b key need Order less same h = h
asks_before before now a b key need (Tree file) less same h =
    let P : List ℕ → Type 0 = λ bytes. (keys : List ℤ) → IsTreeOf bytes keys → before file ((room_of bytes key).overwrites) ((room_of bytes key).bytes) need in
    subst P (same file) (λ keys tree. less file _ _ need (h keys tree))
asks_before before now a b key need (InTable number) less same h = h

pub one_asks_before : (before now : ℕ → ℕ → ℕ → ℕ → Type 0) (a b : State) (tuple : List Value) (need : ℕ) (infos : List IndexInfo) → ((id w n m : ℕ) → now id w n m → before id w n m) → ((k : ℕ) → bytes_at b.files k ≡ bytes_at a.files k)
    → OneAsksFor now b tuple need infos → OneAsksFor before a tuple need infos
one_asks_before before now a b tuple need [] less same h = absurd h
one_asks_before before now a b tuple need (info ∷ infos) less same (inl h) = inl (asks_before before now a b (tuple_key tuple info) need info.access less same h)
one_asks_before before now a b tuple need (info ∷ infos) less same (inr h) = inr (one_asks_before before now a b tuple need infos less same h)

pub unless_failed : (A B : Type 0) {X Y : Type 0} (error : FileError) → (X → Y) → UnlessFailed {T = A} (Err error) X → UnlessFailed {T = B} (Err error) Y
unless_failed A B (Space need) f h = f h
unless_failed A B Failed f h = tt

pub same_failure : (A B : Type 0) (error : FileError) → IsErrOf {T = A} (Err error) Failed → IsErrOf {T = B} (Err error) Failed
same_failure A B (Space need) h = absurd (cc)
same_failure A B Failed h = refl

pub on_space : (A B : Type 0) (error : FileError) (P Q : ℕ → Type 0) → ((n : ℕ) → P n → Q n) → OnSpace {T = A} (Err error) P → OnSpace {T = B} (Err error) Q
on_space A B (Space need) P Q f h = f need h
on_space A B Failed P Q f h = tt

pub count_more : (rooms new : List Room) (room : Room) (n : ℕ) → new ≡ rooms ++ room ∷ [] → length rooms ≡ n → length new ≡ n + 1
count_more rooms new room n is count = ap (λ (xs : List Room). length xs) is ∙ length-append rooms (room ∷ []) ∙ omega (arith, count)

-- a table has one key more
pub table_held : (s : State) (old new : Tables) (n : ℕ) (key : ℤ) (number : TableId) (access : Access) → access ≡ InTable number → entries new number ≡ entries old number ++ key ∷ [] → IsHeld s old n access → IsHeld s new (n + 1) access
table_held s old new n key number access is put held =
    let H : Access → Type 0 = λ a. IsHeld s old n a in
    let table : IsHeld s old n (InTable number) = subst H is held in
    let P : Access → Type 0 = λ a. IsHeld s new (n + 1) a in
    let count = table.1 in
    subst P (sym is) (table.0, ap (λ (ks : List ℤ). length ks) put ∙ length-append (entries old number) (key ∷ []) ∙ omega (arith, count))
