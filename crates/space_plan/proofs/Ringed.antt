-- Commands of rows leave the relations and the indexes, and under an index no key goes.
use Rattle.std.proofs.Common.{◌≡◌, ℕ, ℤ, ◌<◌, ◌≤◌, Bool, true, false, List, [], ◌∷◌, ◌++◌, length, map, get_or, Option, Some, None, refl, ap, sym, subst, ◌∙◌, arith, append_assoc}
use Rattle.std.specs.Prelude.{⊤, ◌==◌, ◌&&◌, cond, filter, if◌then◌else◌, nat_le, nat_lt, slice_get}
use Rattle.std.specs.List.{AllByRecursion}
use Rattle.std.specs.Option.{option_map_or}
use Rattle.std.proofs.lemmas.Bool.Decides.{nat_tests}
use Rattle.std.proofs.lemmas.List.{append-nil, get_or-set_other, length-append, length-map, length-set, map-append}
use Rattle.db_model.specs.declared.commands.Command.{Command}
use Rattle.db_model.specs.declared.schemas.Attribute.{Attribute}
use Rattle.db_model.specs.Catalog.{Index}
use Rattle.db_model.specs.Cond.{Cond, condition_of}
use Rattle.db_model.specs.Database.{Cursor, Relation, Database, relation_named, used_things, with_cursor, with_relation}
use Rattle.db_model.specs.Item.{selects}
use Rattle.db_model.specs.Row.{Row}
use Rattle.db_model.specs.Sound.{StandsIn}
use Rattle.db_model.specs.Step.{Reply, after_all, key_of, keys, removed_row, slots_limit, step}
use Rattle.db_model.proofs.Change.{Change, IndexMade, RelationMade, Nothing, OfRelation, OfIndex, OfCursor, Drops, Inserts, Marks, Packs, change_of, in_version, packed_up, with_removed, with_row}
use Rattle.db_model.proofs.Standing.{found_from, same_or_other, stands_set}
use Rattle.space_model.specs.Enough.{rows_in}
use Rattle.space_plan.specs.Growth.{HasFewRows}
use Rattle.space_plan.specs.Rings.{IsOfRows}

-- ---- relations

-- a relation has its schema, and no more slots than there may be
pub record IsAlike (r q : Relation) : Type 0 where
  pub schema : q.schema ≡ r.schema
  pub within : length q.rows ≤ 32768

abbrev pub IsAlikeIn : Option Relation → Option Relation → Type 0
IsAlikeIn None None = ⊤
IsAlikeIn (Some r) (Some q) = IsAlike r q
IsAlikeIn _ _ = ⊥

-- the keys of an index are those that it had, and others behind them
pub record IsKeyed (db new : Database) (index : Index) : Type 0 where
  pub more : List ℤ
  pub is : keys index.attribute (rows_in new index.relation) ≡ keys index.attribute (rows_in db index.relation) ++ more

-- each relation is alike, and the indexes are the same, with their keys
pub record IsRinged (db new : Database) : Type 0 where
  pub slots : length new.relations ≡ length db.relations
  pub relations : (k : ℕ) → IsAlikeIn (get_or db.relations k None) (get_or new.relations k None)
  pub indexes : new.indexes ≡ db.indexes
  pub keyed : AllByRecursion (IsKeyed db new) (used_things db.indexes)

-- ---- nothing is changed

alike_same : (o : Option Relation) → ((r : Relation) → o ≡ Some r → length r.rows ≤ 32768) → IsAlikeIn o o
alike_same None few = tt
alike_same (Some r) few = record { schema = refl; within = few r refl }

keyed_same : (db : Database) (is : List Index) → AllByRecursion (IsKeyed db db) is
keyed_same db [] = tt
keyed_same db (index ∷ is) = (record { more = []; is = sym (append-nil (keys index.attribute (rows_in db index.relation))) }, keyed_same db is)

ringed_same : (db : Database) → HasFewRows db → IsRinged db db
ringed_same db few = record { slots = refl; relations = λ k. alike_same (get_or db.relations k None) (few k); indexes = refl; keyed = keyed_same db (used_things db.indexes) }

-- ---- a relation has other rows

alike_next : (o : Option Relation) (r q : Relation) → IsAlikeIn o (Some r) → q.schema ≡ r.schema → length q.rows ≤ 32768 → IsAlikeIn o (Some q)
alike_next None r q a schema within = absurd a
alike_next (Some first) r q a schema within = record { schema = schema ∙ a.schema; within = within }

alike_few : (o : Option Relation) (r : Relation) → IsAlikeIn o (Some r) → length r.rows ≤ 32768
alike_few None r a = absurd a
alike_few (Some first) r a = a.within

-- what keys come to an index that passes a test, if it is on the relation in a slot
abbrev KeepsKeys : (P : Index → Type 0) → ℕ → (r q : Relation) → Type 0
KeepsKeys P s r q = (index : Index) → P index → index.relation ≡ s → (more : List ℤ) × (keys index.attribute q.rows ≡ keys index.attribute r.rows ++ more)

module _ (db now : Database) (version s : ℕ) (r q : Relation) (there : StandsIn now.relations s r) where
  abbrev next : Database
  next = with_relation (in_version version now) s (Some q)

  rows_then : rows_in now s ≡ r.rows
  rows_then = ap (λ (o : Option Relation). option_map_or (λ (x : Relation). x.rows) o []) there

  rows_now : rows_in next s ≡ q.rows
  rows_now = ap (λ (o : Option Relation). option_map_or (λ (x : Relation). x.rows) o []) (stands_set now.relations s r q there)

  rows_other : (k : ℕ) → (k ≡ s → ⊥) → rows_in next k ≡ rows_in now k
  rows_other k other = ap (λ (o : Option Relation). option_map_or (λ (x : Relation). x.rows) o []) (get_or-set_other now.relations s k (Some q) None other)

  keyed_next : (P : Index → Type 0) → KeepsKeys P s r q → (index : Index) → P index → IsKeyed db now index → IsKeyed db next index
  keyed_next P keeps index p k = same_or_other index.relation s
      (λ (same : index.relation ≡ s).
      let m = keeps index p same in
      let before : keys index.attribute (rows_in now index.relation) ≡ keys index.attribute r.rows = ap (keys index.attribute) (ap (rows_in now) same ∙ rows_then) in
      record {
        more = k.more ++ m.0;
        is = ap (keys index.attribute) (ap (rows_in next) same ∙ rows_now) ∙ m.1 ∙ ap (λ ks. ks ++ m.0) (sym before ∙ k.is)
            ∙ append_assoc (keys index.attribute (rows_in db index.relation)) k.more m.0;
      })
      (λ (other : index.relation ≡ s → ⊥). record { more = k.more; is = ap (keys index.attribute) (rows_other index.relation other) ∙ k.is })

  all_keyed : (P : Index → Type 0) → KeepsKeys P s r q → (is : List Index) → AllByRecursion P is → AllByRecursion (IsKeyed db now) is → AllByRecursion (IsKeyed db next) is
  all_keyed P keeps [] ps ks = tt
  all_keyed P keeps (index ∷ is) ps ks = (keyed_next P keeps index ps.0 ks.0, all_keyed P keeps is ps.1 ks.1)

  ringed_next : (P : Index → Type 0) → KeepsKeys P s r q → IsRinged db now → q.schema ≡ r.schema → length q.rows ≤ 32768 → AllByRecursion P (used_things db.indexes) → IsRinged db next
  ringed_next P keeps h schema within ps = record {
    slots = length-set now.relations s (Some q) ∙ h.slots;
    relations = λ k. same_or_other k s
        (λ (same : k ≡ s).
        let was : IsAlikeIn (get_or db.relations k None) (Some r) = subst (IsAlikeIn (get_or db.relations k None)) (ap (λ i. get_or now.relations i None) same ∙ there) (h.relations k) in
        let is : get_or next.relations k None ≡ Some q = ap (λ i. get_or next.relations i None) same ∙ stands_set now.relations s r q there in
        subst (IsAlikeIn (get_or db.relations k None)) (sym is) (alike_next (get_or db.relations k None) r q was schema within))
        (λ (other : k ≡ s → ⊥). subst (IsAlikeIn (get_or db.relations k None)) (sym (get_or-set_other now.relations s k (Some q) None other)) (h.relations k));
    indexes = h.indexes;
    keyed = all_keyed P keeps (used_things db.indexes) ps h.keyed;
  }

-- ---- what the commands do

abbrev AnyIndex : Index → Type 0
AnyIndex index = ⊤

all_any : (is : List Index) → AllByRecursion AnyIndex is
all_any [] = tt
all_any (index ∷ is) = (tt, all_any is)

-- a removed row has its keys
keys_marked : (place : ℕ) (attributes : List Attribute) (condition : Option Cond) (rows : List Row) → keys place (map (removed_row attributes condition) rows) ≡ keys place rows
keys_marked place attributes condition [] = refl
keys_marked place attributes condition (row ∷ rows) = by_test (row.live && selects attributes condition row.tuple) (keys_marked place attributes condition rows)
  where
    by_test : (b : Bool) → keys place (map (removed_row attributes condition) rows) ≡ keys place rows
        → key_of (slice_get (if b then record row { live = false } else row).tuple place) ∷ keys place (map (removed_row attributes condition) rows) ≡ key_of (slice_get row.tuple place) ∷ keys place rows
    by_test true same = ap (λ ks. key_of (slice_get row.tuple place) ∷ ks) same
    by_test false same = ap (λ ks. key_of (slice_get row.tuple place) ∷ ks) same

abbrev IsElsewhere : ℕ → Index → Type 0
IsElsewhere s index = index.relation == s ≡ false

-- a relation that is packed has no index
all_elsewhere : (s : ℕ) (is : List Index) → nat_lt 0 (length (filter (λ index. index.relation == s) is)) ≡ false → AllByRecursion (IsElsewhere s) is
all_elsewhere s [] none = tt
all_elsewhere s (index ∷ is) none = by_test (index.relation == s) refl none (all_elsewhere s is)
  where
    by_test : (b : Bool) → index.relation == s ≡ b → nat_lt 0 (length (cond b (index ∷ filter (λ i. i.relation == s) is) (filter (λ i. i.relation == s) is))) ≡ false
        → (nat_lt 0 (length (filter (λ i. i.relation == s) is)) ≡ false → AllByRecursion (IsElsewhere s) is) → AllByRecursion (IsElsewhere s) (index ∷ is)
    by_test true e zeros rest = absurd (let n : ⊥ = grind (arith, nat_tests) in n)
    by_test false e zeros rest = (e, rest zeros)

pub few_live : (rows : List Row) → length (filter (λ row. row.live) rows) ≤ length rows
few_live [] = omega arith
few_live (row ∷ rows) = by_test row.live (few_live rows)
  where
    by_test : (b : Bool) → length (filter (λ x. x.live) rows) ≤ length rows → length (cond b (row ∷ filter (λ x. x.live) rows) (filter (λ x. x.live) rows)) ≤ length (row ∷ rows)
    by_test true less = omega (arith, less)
    by_test false less = omega (arith, less)

pub below_limit : (version n : ℕ) → nat_le (slots_limit version) n ≡ false → n < 32768
below_limit version n = by_test (version == 1)
  where
    by_test : (b : Bool) → nat_le (if b then 16384 else 32768) n ≡ false → n < 32768
    by_test true h = grind (arith, nat_tests)
    by_test false h = grind (arith, nat_tests)

-- the slot of a relation that was found by its name
pub found_there : (now : Database) (name : List ℕ) (s : ℕ × Relation) → relation_named now name ≡ Some s → StandsIn now.relations s.0 s.1
found_there now name s e =
    let found = found_from name 0 now.relations s e in
    let number = found.number in
    let at : found.slot ≡ s.0 = omega (arith, number) in
    subst (λ k. StandsIn now.relations k s.1) at found.stands

relation_ringed : (db now : Database) (c : Command) (version slot : ℕ) (r : Option Relation) (reply : Reply) → RelationMade now c version slot r reply → IsOfRows c → IsRinged db now
    → IsRinged db (with_relation (in_version version now) slot r)
relation_ringed db now _ _ _ _ _ (Inserts values name s e suit room order entries) i h =
    let there = found_there now name s e in
    let below = below_limit now.version (length s.1.rows) room in
    let row : Row = record { tuple = values; live = true } in
    ringed_next db now now.version s.0 s.1 (with_row s.1 values) there AnyIndex
    (λ index p same. (key_of (slice_get row.tuple index.attribute) ∷ [], map-append (λ (x : Row). key_of (slice_get x.tuple index.attribute)) s.1.rows (row ∷ [])))
    h refl (omega (arith, below, length-append s.1.rows (row ∷ []))) (all_any (used_things db.indexes))
relation_ringed db now _ _ _ _ _ (Marks name nodes s e) i h =
    let there = found_there now name s e in
    let was : IsAlikeIn (get_or db.relations s.0 None) (Some s.1) = subst (IsAlikeIn (get_or db.relations s.0 None)) there (h.relations s.0) in
    let few = alike_few (get_or db.relations s.0 None) s.1 was in
    let attributes = s.1.schema.attributes in
    ringed_next db now now.version s.0 s.1 (with_removed s.1 (condition_of nodes)) there AnyIndex
    (λ index p same. ([], keys_marked index.attribute attributes (condition_of nodes) s.1.rows ∙ sym (append-nil (keys index.attribute s.1.rows))))
    h refl (omega (arith, few, length-map s.1.rows (removed_row s.1.schema.attributes (condition_of nodes)))) (all_any (used_things db.indexes))
relation_ringed db now _ _ _ _ _ (Packs name s e none) i h =
    let there = found_there now name s e in
    let was : IsAlikeIn (get_or db.relations s.0 None) (Some s.1) = subst (IsAlikeIn (get_or db.relations s.0 None)) there (h.relations s.0) in
    let few = alike_few (get_or db.relations s.0 None) s.1 was in
    let less = few_live s.1.rows in
    let no_index : nat_lt 0 (length (filter (λ (index : Index). index.relation == s.0) (used_things db.indexes))) ≡ false =
    subst (λ is. nat_lt 0 (length (filter (λ (index : Index). index.relation == s.0) (used_things is))) ≡ false) h.indexes none in
    ringed_next db now now.version s.0 s.1 (packed_up s.1) there (IsElsewhere s.0)
    (λ index elsewhere same. absurd (let n : ⊥ = differ index.relation s.0 same elsewhere in n))
    h refl (omega (arith, few, less)) (all_elsewhere s.0 (used_things db.indexes) no_index)
  where
    differ : (a b : ℕ) → a ≡ b → a == b ≡ false → ⊥
    differ a b same other = grind (arith, nat_tests)
relation_ringed db now _ _ _ _ _ _ i h = absurd i

no_index : (db : Database) (c : Command) (slot : ℕ) (index : Option Index) → IndexMade db c slot index → IsOfRows c → ⊥
no_index db _ _ _ (Drops name attribute slot) i = i
no_index db _ _ _ _ i = i

-- a cursor is no matter of the keys
keyed_still : (db now : Database) (place : ℕ) (cursor : Option Cursor) (is : List Index) → AllByRecursion (IsKeyed db now) is → AllByRecursion (IsKeyed db (with_cursor now place cursor)) is
keyed_still db now place cursor [] ks = tt
keyed_still db now place cursor (index ∷ is) ks = (record { more = ks.0.more; is = ks.0.is }, keyed_still db now place cursor is ks.1)

change_ringed : (db now : Database) (c : Command) (d : Database × Reply) → Change now c d → IsOfRows c → IsRinged db now → IsRinged db d.0
change_ringed db now _ _ (Nothing c reply a) i h = h
change_ringed db now _ _ (OfRelation c version slot r reply m) i h = relation_ringed db now c version slot r reply m i h
change_ringed db now _ _ (OfIndex c slot index m) i h = absurd (no_index now c slot index m i)
change_ringed db now _ _ (OfCursor c place cursor reply m) i h = record { slots = h.slots; relations = h.relations; indexes = h.indexes; keyed = keyed_still db now place cursor (used_things db.indexes) h.keyed }

all_ringed : (db now : Database) (commands : List Command) → AllByRecursion IsOfRows commands → IsRinged db now → IsRinged db (after_all now commands)
all_ringed db now [] i h = h
all_ringed db now (c ∷ commands) i h = all_ringed db (step now c).0 commands i.1 (change_ringed db now c (step now c) (change_of now c) i.0 h)

-- the database after commands of rows
pub ringed : (db : Database) (commands : List Command) → HasFewRows db → AllByRecursion IsOfRows commands → IsRinged db (after_all db commands)
ringed db commands few i = all_ringed db db commands i (ringed_same db few)
