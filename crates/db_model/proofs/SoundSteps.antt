-- Each command keeps a database sound.
use Rattle.std.proofs.Common.{◌≡◌, refl, sym, ap, subst, ◌∙◌, ℕ, ℤ, ◌+◌, ◌-◌, ◌<◌, ◌≤◌, ◌⊎◌, inr, Bool, true, false, List, [], ◌∷◌, ◌++◌, length, map, set, get_or, filter, cond, Option, Some, None, arith, length-append, ⊎_elim, if◌then◌else◌}
use Rattle.std.specs.Prelude.{pos, negsuc, Ok, IsTrue, not, ◌&&◌, ◌==◌, is_some, nat_le, nat_lt, slice_get, drop}
use Rattle.std.specs.List.{list_any, AllByRecursion}
use Rattle.std.specs.Str.{bytes_eq}
use Rattle.std.proofs.lemmas.Bool.Decides.{nat_tests}
use Rattle.std.proofs.lemmas.List.{length-map, length-set}
use Rattle.std.proofs.lemmas.Slice.Eq.{bytes_eq-Decides}
use Rattle.db_model.specs.declared.commands.Command.{Command}
use Rattle.db_model.specs.declared.commands.Query.{Query}
use Rattle.db_model.specs.declared.commands.Query.TheVariants.{Select, Join}
use Rattle.db_model.specs.declared.refusals.Pool.TheVariants as pool
use Rattle.db_model.specs.declared.refusals.Refusal.TheVariants as no
use Rattle.db_model.specs.declared.schemas.Attribute.{Attribute}
use Rattle.db_model.specs.declared.schemas.Domain.{Domain}
use Rattle.db_model.specs.declared.schemas.Domain.TheVariants as domain
use Rattle.db_model.specs.declared.schemas.DomainAsked.{DomainAsked}
use Rattle.db_model.specs.declared.schemas.DomainAsked.TheVariants as asked
use Rattle.db_model.specs.declared.schemas.IndexKind.{IndexKind}
use Rattle.db_model.specs.declared.schemas.IndexKind.TheVariants.{Inline, MaxHeap, MemHash}
use Rattle.db_model.specs.declared.values.Value.{Value}
use Rattle.db_model.specs.Catalog.{Index, IsDomain}
use Rattle.db_model.specs.Cond.{Cond, condition_of}
use Rattle.db_model.specs.Database.{Relation, Cursor, Database, empty_database, used_things, free_from, relation_from, relation_named, with_relation, with_index, index_slot, indexes_of, is_inline, is_hash_table, with_cursor, is_among, most_tables}
use Rattle.db_model.specs.Item.{place_of}
use Rattle.db_model.specs.Names.{is_name}
use Rattle.db_model.specs.Refusing.{◌>>◌, refuse_if, refuse_found}
use Rattle.db_model.specs.Row.{Row, AllRowsSuit, row_length}
use Rattle.db_model.specs.Sound.{StandsIn, IsSoundAttribute, IsSoundRelation, SuitKind, IsIndexOf, IsSoundIndex, IsSoundCursor, IsSoundDatabase, BringsNames}
use Rattle.db_model.specs.Step.{Reply, allows, answer_of, domain_asked, fallen, fallen_from, first_fall, is_ordered, key_of, keys, refuse_kind, relations_read, removed_row, slots_limit, step, unsuited, with_attribute}
use Rattle.db_model.specs.Typing.{domain_of, is_attribute}
use Rattle.db_model.proofs.Standing.{nothing_free, all_others, all_same, any_of, count_out, count_put, false_true, found_from, found_of, none_of, not_on, not_read, nothing_stands, one, same_or_other, stands_either, stands_once, stands_other, stands_set}
use Rattle.db_model.proofs.Yielding.{Yields, err_ok, yields_found}
use Rattle.db_model.proofs.SoundRows.{distinct_more, domain_at, fewer_live, keys_removed, order_kept, placed_more, rows_live, rows_more, rows_removed, suited, suited_some}
use Rattle.padded.proofs.Facts.{not_not, never_some, some_alike, some_found}
use Rattle.db_model.proofs.Change.{Change, CursorMade, IndexMade, RelationMade, Nothing, OfRelation, OfIndex, OfCursor, Creates, Grows, Inserts, Marks, Packs, Removes, Builds, Drops, Opens, Fetches, Closes, change_of, in_version, new_relation, packed_up, with_removed, with_row}

-- ---- databases of version 2

attribute_later : (version : ℕ) (a : Attribute) → IsSoundAttribute version a → IsSoundAttribute 2 a
attribute_later version a s = record { name = s.name; domain = s.domain; time = λ e. refl }

pub limit_most : (version : ℕ) → (version ≡ 1) ⊎ (version ≡ 2) → slots_limit version ≤ 32768
limit_most version either = ⊎_elim (λ (e : version ≡ 1). subst (λ v. slots_limit v ≤ 32768) (sym e) (omega arith)) (λ (e : version ≡ 2). subst (λ v. slots_limit v ≤ 32768) (sym e) (omega arith)) either

relation_later : (version : ℕ) (r : Relation) → (version ≡ 1) ⊎ (version ≡ 2) → IsSoundRelation version r → IsSoundRelation 2 r
relation_later version r either s =
    let most = limit_most version either in
    let slots = s.slots in
    record {
      schema = record {
        name = s.schema.name;
        few = s.schema.few;
        attributes = all_same (IsSoundAttribute version) (IsSoundAttribute 2) r.schema.attributes (attribute_later version) s.schema.attributes;
        distinct = s.schema.distinct;
        short = s.schema.short;
      };
      rows = s.rows;
      slots = omega (arith, most, slots);
      filled = s.filled;
    }

later : (db : Database) → IsSoundDatabase db → IsSoundDatabase (in_version 2 db)
later db s = record {
  version = inr refl;
  eight_relations = s.eight_relations;
  eight_indexes = s.eight_indexes;
  four_cursors = s.four_cursors;
  relations = λ k r e. relation_later db.version r s.version (s.relations k r e);
  names = s.names;
  indexes = s.indexes;
  places = s.places;
  few_tables = s.few_tables;
  cursors = s.cursors;
}

-- ---- a relation slot is set

-- a name that was there is there still
name_kept : (old new : List (Option Relation)) (name : List ℕ) → ((k : ℕ) (q : Relation) → StandsIn old k q → q.schema.name ≡ name → is_some (relation_from name 0 new) ≡ true)
    → is_some (relation_from name 0 old) ≡ true → is_some (relation_from name 0 new) ≡ true
name_kept old new name stays h =
    let found = some_found (relation_from name 0 old) h in
    let f = found_from name 0 old found.0 found.1 in
    stays f.slot found.0.1 f.stands f.named

-- a relation is put into its slot, or into an unused one
put_relation : (db : Database) (slot : ℕ) (r : Relation) → IsSoundDatabase db → IsSoundRelation db.version r
    → ((old : Relation) → StandsIn db.relations slot old → old.schema.name ≡ r.schema.name)
    → ((k : ℕ) (q : Relation) → (k ≡ slot → ⊥) → StandsIn db.relations k q → q.schema.name ≡ r.schema.name → ⊥)
    → ((old : Relation) (index : Index) (k : ℕ) → StandsIn db.relations slot old → StandsIn db.indexes k index → index.relation ≡ slot → IsIndexOf old index → IsIndexOf r index)
    → IsSoundDatabase (with_relation db slot (Some r))
put_relation db slot r s sound same apart suit = record {
  version = s.version;
  eight_relations = length-set db.relations slot (Some r) ∙ s.eight_relations;
  eight_indexes = s.eight_indexes;
  four_cursors = s.four_cursors;
  relations = λ k q e. stands_either db.relations slot k (Some r) q e (λ i is. subst (IsSoundRelation db.version) (some_alike is) sound) (λ n f. s.relations k q f);
  names = λ j k p q e f same. stands_either db.relations slot j (Some r) p e
      (λ i is. stands_either db.relations slot k (Some r) q f (λ l it. i ∙ sym l) (λ n g. absurd (apart k q n g (sym same ∙ ap (λ r. r.schema.name) (sym (some_alike is))))))
      (λ n g. stands_either db.relations slot k (Some r) q f (λ l it. absurd (apart j p n g (same ∙ ap (λ r. r.schema.name) (sym (some_alike it))))) (λ m h. s.names j k p q g h same));
  indexes = λ k index e. kept_index index (s.indexes k index e) (λ old at is on. suit old index k at e is on);
  places = s.places;
  few_tables = s.few_tables;
  cursors = λ k cursor e. all_same (λ name. is_some (relation_from name 0 db.relations) ≡ true) (λ name. is_some (relation_from name 0 (set db.relations slot (Some r))) ≡ true) cursor.reads (λ name h. name_kept db.relations (set db.relations slot (Some r)) name (stays name) h) (s.cursors k cursor e);
}
  where
    kept_index : (index : Index) → IsSoundIndex db.relations index → ((old : Relation) → StandsIn db.relations slot old → index.relation ≡ slot → IsIndexOf old index → IsIndexOf r index) → IsSoundIndex (set db.relations slot (Some r)) index
    kept_index index is suit = same_or_other index.relation slot
        (λ i. record {
          relation = r;
          stands = subst (λ k. StandsIn (set db.relations slot (Some r)) k r) (sym i) (stands_set db.relations slot is.relation r (subst (λ k. StandsIn db.relations k is.relation) i is.stands));
          suits = suit is.relation (subst (λ k. StandsIn db.relations k is.relation) i is.stands) i is.suits;
        })
        (λ n. record { relation = is.relation; stands = stands_other db.relations slot index.relation (Some r) is.relation n is.stands; suits = is.suits })

    stays : (name : List ℕ) (k : ℕ) (q : Relation) → StandsIn db.relations k q → q.schema.name ≡ name → is_some (relation_from name 0 (set db.relations slot (Some r))) ≡ true
    stays name k q e is = same_or_other k slot
        (λ i. found_of name 0 slot (set db.relations slot (Some r)) r (stands_set db.relations slot q r (subst (λ k. StandsIn db.relations k q) i e)) (sym (same q (subst (λ k. StandsIn db.relations k q) i e)) ∙ is))
        (λ n. found_of name 0 k (set db.relations slot (Some r)) q (stands_other db.relations slot k (Some r) q n e) is)

-- the relation in a slot goes, which no index is on and no cursor reads
out_relation : (db : Database) (slot : ℕ) (r : Relation) → IsSoundDatabase db → StandsIn db.relations slot r
    → ((k : ℕ) (index : Index) → StandsIn db.indexes k index → index.relation ≡ slot → ⊥)
    → ((k : ℕ) (cursor : Cursor) → StandsIn db.cursors k cursor → is_among r.schema.name cursor.reads ≡ false)
    → IsSoundDatabase (with_relation db slot None)
out_relation db slot r s at unindexed unread = record {
  version = s.version;
  eight_relations = length-set db.relations slot None ∙ s.eight_relations;
  eight_indexes = s.eight_indexes;
  four_cursors = s.four_cursors;
  relations = λ k q e. stands_either db.relations slot k None q e (λ i is. absurd (never_some is)) (λ n f. s.relations k q f);
  names = λ j k p q e f same. stands_either db.relations slot j None p e (λ i is. absurd (never_some is)) (λ n g. stands_either db.relations slot k None q f (λ i is. absurd (never_some is)) (λ m h. s.names j k p q g h same));
  indexes = λ k index e. kept_index index (s.indexes k index e) (unindexed k index e);
  places = s.places;
  few_tables = s.few_tables;
  cursors = λ k cursor e. all_others (λ name. is_some (relation_from name 0 db.relations) ≡ true) (λ name. is_some (relation_from name 0 (set db.relations slot None)) ≡ true) r.schema.name cursor.reads (unread k cursor e) (λ name other h. name_kept db.relations (set db.relations slot None) name (stays name other) h) (s.cursors k cursor e);
}
  where
    kept_index : (index : Index) → IsSoundIndex db.relations index → (index.relation ≡ slot → ⊥) → IsSoundIndex (set db.relations slot None) index
    kept_index index is apart = record { relation = is.relation; stands = stands_other db.relations slot index.relation None is.relation apart is.stands; suits = is.suits }

    stays : (name : List ℕ) → bytes_eq name r.schema.name ≡ false → (k : ℕ) (q : Relation) → StandsIn db.relations k q → q.schema.name ≡ name → is_some (relation_from name 0 (set db.relations slot None)) ≡ true
    stays name other k q e is = same_or_other k slot
        (λ i.
        let here : q ≡ r = stands_once db.relations slot q r (subst (λ k. StandsIn db.relations k q) i e) at in
        absurd (false_true (sym other ∙ (bytes_eq-Decides name r.schema.name).1 (sym is ∙ ap (λ r. r.schema.name) here))))
        (λ n. found_of name 0 k (set db.relations slot None) q (stands_other db.relations slot k None q n e) is)

-- ---- an index slot is set

put_index : (db : Database) (slot : ℕ) (index : Index) → IsSoundDatabase db → get_or db.indexes slot None ≡ None → IsSoundIndex db.relations index
    → ((k : ℕ) (other : Index) → StandsIn db.indexes k other → other.relation ≡ index.relation → other.attribute ≡ index.attribute → ⊥)
    → one (is_hash_table index) + length (filter is_hash_table (used_things db.indexes)) ≤ most_tables
    → IsSoundDatabase (with_index db slot (Some index))
put_index db slot index s free sound apart few = record {
  version = s.version;
  eight_relations = s.eight_relations;
  eight_indexes = length-set db.indexes slot (Some index) ∙ s.eight_indexes;
  four_cursors = s.four_cursors;
  relations = s.relations;
  names = s.names;
  indexes = λ k other e. stands_either db.indexes slot k (Some index) other e (λ i is. subst (IsSoundIndex db.relations) (some_alike is) sound) (λ n f. s.indexes k other f);
  places = λ j k a b e f relation attribute. stands_either db.indexes slot j (Some index) a e
      (λ i is. stands_either db.indexes slot k (Some index) b f (λ l it. i ∙ sym l)
      (λ n g. absurd (apart k b g (sym relation ∙ ap (λ i. i.relation) (sym (some_alike is))) (sym attribute ∙ ap (λ i. i.attribute) (sym (some_alike is))))))
      (λ n g. stands_either db.indexes slot k (Some index) b f
      (λ l it. absurd (apart j a g (relation ∙ ap (λ i. i.relation) (sym (some_alike it))) (attribute ∙ ap (λ i. i.attribute) (sym (some_alike it)))))
      (λ m h. s.places j k a b g h relation attribute));
  few_tables = let more = count_put is_hash_table db.indexes slot index free in omega (arith, few, more);
  cursors = s.cursors;
}

out_index : (db : Database) (slot : ℕ) → IsSoundDatabase db → IsSoundDatabase (with_index db slot None)
out_index db slot s = record {
  version = s.version;
  eight_relations = s.eight_relations;
  eight_indexes = length-set db.indexes slot None ∙ s.eight_indexes;
  four_cursors = s.four_cursors;
  relations = s.relations;
  names = s.names;
  indexes = λ k other e. stands_either db.indexes slot k None other e (λ i is. absurd (never_some is)) (λ n f. s.indexes k other f);
  places = λ j k a b e f relation attribute. stands_either db.indexes slot j None a e (λ i is. absurd (never_some is))
      (λ n g. stands_either db.indexes slot k None b f (λ i is. absurd (never_some is)) (λ m h. s.places j k a b g h relation attribute));
  few_tables = let less = count_out is_hash_table db.indexes slot in let few = s.few_tables in omega (arith, few, less);
  cursors = s.cursors;
}

-- ---- a cursor's place is set

put_cursor : (db : Database) (place : ℕ) (cursor : Option Cursor) → IsSoundDatabase db → ((c : Cursor) → cursor ≡ Some c → IsSoundCursor db c) → IsSoundDatabase (with_cursor db place cursor)
put_cursor db place cursor s sound = record {
  version = s.version;
  eight_relations = s.eight_relations;
  eight_indexes = s.eight_indexes;
  four_cursors = length-set db.cursors place cursor ∙ s.four_cursors;
  relations = s.relations;
  names = s.names;
  indexes = s.indexes;
  places = s.places;
  few_tables = s.few_tables;
  cursors = λ k c e. stands_either db.cursors place k cursor c e (λ i is. sound c is) (λ n f. s.cursors k c f);
}

-- ---- relations by name

-- a relation that is found by name
record IsNamed (db : Database) (name : List ℕ) (s : ℕ × Relation) : Type 0 where
  stands : StandsIn db.relations s.0 s.1
  is : s.1.schema.name ≡ name

named_is : (db : Database) (name : List ℕ) (s : ℕ × Relation) → relation_named db name ≡ Some s → IsNamed db name s
named_is db name s e =
    let f = found_from name 0 db.relations s e in
    let number = f.number in
    let same : f.slot ≡ s.0 = omega (arith, number) in
    record { stands = subst (λ k. StandsIn db.relations k s.1) same f.stands; is = f.named }

-- no relation has a name that is not found
unnamed : (db : Database) (name : List ℕ) (k : ℕ) (q : Relation) → is_some (relation_named db name) ≡ false → StandsIn db.relations k q → q.schema.name ≡ name → ⊥
unnamed db name k q none e is = false_true (sym none ∙ found_of name 0 k db.relations q e is)

-- ---- CREATE RELATION

sound_created : (db : Database) (name : List ℕ) (slot : ℕ) → IsTrue (is_name name) → is_some (relation_named db name) ≡ false → free_from 0 db.relations ≡ Some slot → IsSoundDatabase db
    → IsSoundDatabase (with_relation (in_version 2 db) slot (Some (new_relation name)))
sound_created db name slot is fresh free s =
    put_relation (in_version 2 db) slot (new_relation name) (later db s) new_sound
    (λ old e. absurd (never_some (sym none ∙ e)))
    (λ k q n e is. unnamed db name k q fresh e is)
    (λ old index k e at i on. absurd (never_some (sym none ∙ e)))
  where
    none : get_or db.relations slot None ≡ None
    none = nothing_free db.relations slot free

    new_sound : IsSoundRelation 2 (new_relation name)
    new_sound = record {
      schema = record { name = is; few = omega arith; attributes = tt; distinct = refl; short = omega arith };
      rows = tt;
      slots = omega arith;
      filled = λ e. refl;
    }

-- ---- changes of a relation

-- a relation, once changed, is sound in that version, and all that is known of it elsewhere stays so
record IsChange (db : Database) (version slot : ℕ) (old new : Relation) : Type 0 where
  sound : IsSoundRelation version new
  name : old.schema.name ≡ new.schema.name
  indexes : (index : Index) (k : ℕ) → StandsIn db.indexes k index → index.relation ≡ slot → IsIndexOf old index → IsIndexOf new index

change_put : (db : Database) (slot : ℕ) (old new : Relation) → IsSoundDatabase db → StandsIn db.relations slot old → IsChange db db.version slot old new → IsSoundDatabase (with_relation db slot (Some new))
change_put db slot old new s at c =
    put_relation db slot new s c.sound
    (λ q e. ap (λ r. r.schema.name) (stands_once db.relations slot q old e at) ∙ c.name)
    (λ k q n e is. n (s.names k slot q old e at (is ∙ sym c.name)))
    (λ q index k e f i on. c.indexes index k f i (subst (λ r. IsIndexOf r index) (stands_once db.relations slot q old e at) on))

-- ---- CREATE ATTRIBUTE

domain_fine : (wanted : DomainAsked) (d : Domain) → domain_asked wanted ≡ Some d → IsDomain d
domain_fine asked.Int d e = subst IsDomain (some_alike e) tt
domain_fine asked.Long d e = subst IsDomain (some_alike e) tt
domain_fine asked.Time d e = subst IsDomain (some_alike e) tt
domain_fine (asked.Str (pos n)) d e = by_test (nat_le 1 n && nat_le n 32) refl e
  where
    by_test : (b : Bool) → (nat_le 1 n && nat_le n 32) ≡ b → cond b (Some (domain.Str n)) None ≡ Some d → IsDomain d
    by_test true h e =
        let low : 1 ≤ n = grind (arith, nat_tests, h) in
        let high : n ≤ 32 = grind (arith, nat_tests, h) in
        subst IsDomain (some_alike e) (low, high)
    by_test false h e = absurd (never_some e)
domain_fine (asked.Str (negsuc n)) d e = absurd (never_some e)

pub all_more : {A : Type 0} (P : A → Type 0) (xs : List A) (x : A) → AllByRecursion P xs → P x → AllByRecursion P (xs ++ x ∷ [])
all_more P [] x h p = (p, tt)
all_more P (y ∷ xs) x h p = (h.0, all_more P xs x h.1 p)

no_rows : (rows : List Row) → nat_lt 0 (length rows) ≡ false → rows ≡ []
no_rows [] e = refl
no_rows (row ∷ rows) e = let none : length (row ∷ rows) ≤ 0 = grind (arith, nat_tests, e) in absurd (omega (arith, none))

few_keys : (kind : IndexKind) → SuitKind kind []
few_keys Inline = refl
few_keys MaxHeap = tt
few_keys MemHash = omega arith

grows : (name : List ℕ) (d : Domain) (db : Database) (slot : ℕ) (r : Relation) → IsTrue (is_name name) → IsSoundDatabase db → StandsIn db.relations slot r
    → is_attribute r.schema.attributes name ≡ false → IsDomain d → nat_lt 0 (length r.rows) ≡ false → nat_le 8 (length r.schema.attributes) ≡ false
    → nat_lt 128 (row_length (with_attribute r (record { name = name; domain = d })).schema.attributes) ≡ false
    → IsChange db 2 slot r (with_attribute r (record { name = name; domain = d }))
grows name d db slot r is sound at fresh fine none few short =
    let before = relation_later db.version r sound.version (sound.relations slot r at) in
    let new : Attribute = record { name = name; domain = d } in
    let empty : r.rows ≡ [] = no_rows r.rows none in
    let less : length r.schema.attributes < 8 = grind (arith, nat_tests, few) in
    let more : length (r.schema.attributes ++ new ∷ []) ≡ length r.schema.attributes + 1 = length-append r.schema.attributes (new ∷ []) in
    let bytes : row_length (with_attribute r new).schema.attributes ≤ 128 = grind (arith, nat_tests, short) in
    record {
      sound = record {
        schema = record {
          name = before.schema.name;
          few = omega (arith, less, more);
          attributes = all_more (IsSoundAttribute 2) r.schema.attributes new before.schema.attributes (record { name = is; domain = fine; time = λ e. refl });
          distinct = distinct_more 0 r.schema.attributes new fresh before.schema.distinct;
          short = bytes;
        };
        rows = subst (AllRowsSuit (r.schema.attributes ++ new ∷ [])) (sym empty) tt;
        slots = before.slots;
        filled = λ e. empty;
      };
      name = refl;
      indexes = λ index k e i on. record {
        attribute = on.attribute;
        placed = placed_more r.schema.attributes new index.attribute on.attribute on.placed;
        allowed = on.allowed;
        keys = subst (λ rows. SuitKind index.kind (keys index.attribute rows)) (sym empty) (few_keys index.kind);
      };
    }

-- ---- INSERT

inserts : (values : List Value) (db : Database) (slot : ℕ) (r : Relation) → IsSoundDatabase db → StandsIn db.relations slot r
    → unsuited r.schema.attributes values ≡ None → nat_le (slots_limit db.version) (length r.rows) ≡ false
    → fallen (indexes_of db slot) (slice_get r.rows (length r.rows - 1)) values ≡ None → (list_any is_hash_table (indexes_of db slot) && nat_le 2048 (length r.rows)) ≡ false
    → IsChange db db.version slot r (with_row r values)
inserts values db slot r sound at suit room order entries =
    let before = sound.relations slot r at in
    let less : length r.rows < slots_limit db.version = grind (arith, nat_tests, room) in
    record {
      sound = record {
        schema = before.schema;
        rows = rows_more r.schema.attributes r.rows row before.rows (suited r.schema.attributes values suit);
        slots = omega (arith, less, longer);
        filled = λ e. absurd (suited_some r.schema.attributes values suit e);
      };
      name = refl;
      indexes = λ index k e i on. record {
        attribute = on.attribute;
        placed = on.placed;
        allowed = on.allowed;
        keys = suit_kind index.kind index k refl e i on on.keys;
      };
    }
  where
    row : Row
    row = record { tuple = values; live = true }

    longer : length (r.rows ++ row ∷ []) ≡ length r.rows + 1
    longer = length-append r.rows (row ∷ [])

    -- the last row is in order with the new one
    in_order : (o : Option Row) → fallen (indexes_of db slot) o values ≡ None → (last : Row) → o ≡ Some last → fallen_from (is_ordered (indexes_of db slot)) 0 last.tuple values ≡ None
    in_order None none last e = absurd (never_some e)
    in_order (Some x) none last e = subst (λ l. fallen_from (is_ordered (indexes_of db slot)) 0 l.tuple values ≡ None) (some_alike e) none

    suit_kind : (kind : IndexKind) (index : Index) (k : ℕ) → index.kind ≡ kind → StandsIn db.indexes k index → index.relation ≡ slot → (on : IsIndexOf r index)
        → SuitKind kind (keys index.attribute r.rows) → SuitKind kind (keys index.attribute (r.rows ++ row ∷ []))
    suit_kind Inline index k is e i on keys =
        order_kept index.kind r.schema.attributes (is_ordered (indexes_of db slot)) index.attribute on.attribute r.rows values true
        (sound.relations slot r at).rows (suited r.schema.attributes values suit) on.placed on.allowed
        (any_of (λ x. is_inline x && x.attribute == index.attribute) (λ x. x.relation == slot) db.indexes k index e (grind (arith, nat_tests, i))
        (ap (λ kind. is_inline (record index { kind = kind }) && index.attribute == index.attribute) is ∙ same_number index.attribute))
        (in_order (slice_get r.rows (length r.rows - 1)) order) keys
      where
        same_number : (n : ℕ) → (n == n) ≡ true
        same_number n = grind (arith, nat_tests)
    suit_kind MaxHeap index k is e i on keys = tt
    suit_kind MemHash index k is e i on keys =
        let table : list_any is_hash_table (indexes_of db slot) ≡ true =
        any_of is_hash_table (λ x. x.relation == slot) db.indexes k index e (grind (arith, nat_tests, i)) (ap (λ kind. is_hash_table (record index { kind = kind })) is) in
        let few : nat_le 2048 (length r.rows) ≡ false = sym (ap (λ t. t && nat_le 2048 (length r.rows)) table) ∙ entries in
        let less : length r.rows < 2048 = grind (arith, nat_tests, few) in
        let same = length-map (r.rows ++ row ∷ []) (λ row. key_of (slice_get row.tuple index.attribute)) in
        omega (arith, less, same, longer)

-- ---- REMOVE FROM, PACK

marks : (condition : Option Cond) (db : Database) (slot : ℕ) (r : Relation) → IsSoundDatabase db → StandsIn db.relations slot r → IsChange db db.version slot r (with_removed r condition)
marks condition db slot r sound at =
    let before = sound.relations slot r at in
    let slots = before.slots in
    let many : length (with_removed r condition).rows ≡ length r.rows = length-map r.rows (removed_row r.schema.attributes condition) in
    record {
      sound = record {
        schema = before.schema;
        rows = rows_removed r.schema.attributes condition r.rows before.rows;
        slots = omega (arith, slots, many);
        filled = λ e. ap (map (removed_row r.schema.attributes condition)) (before.filled e);
      };
      name = refl;
      indexes = λ index k e i on. record {
        attribute = on.attribute;
        placed = on.placed;
        allowed = on.allowed;
        keys = subst (SuitKind index.kind) (sym (keys_removed r.schema.attributes condition index.attribute r.rows)) on.keys;
      };
    }

-- no index is on a relation that has none
unindexed : (db : Database) (slot k : ℕ) (index : Index) → nat_lt 0 (length (indexes_of db slot)) ≡ false → StandsIn db.indexes k index → index.relation ≡ slot → ⊥
unindexed db slot k index none e on =
    let no : length (indexes_of db slot) ≡ 0 = grind (arith, nat_tests, none) in
    let here : (index.relation == slot) ≡ true = grind (arith, nat_tests, on) in
    false_true (sym (none_of (λ index. index.relation == slot) db.indexes k index no e) ∙ here)

packs : (db : Database) (slot : ℕ) (r : Relation) → IsSoundDatabase db → StandsIn db.relations slot r → nat_lt 0 (length (indexes_of db slot)) ≡ false → IsChange db db.version slot r (packed_up r)
packs db slot r sound at none =
    let before = sound.relations slot r at in
    let slots = before.slots in
    let fewer = fewer_live r.rows in
    record {
      sound = record {
        schema = before.schema;
        rows = rows_live r.schema.attributes r.rows before.rows;
        slots = omega (arith, slots, fewer);
        filled = λ e. ap (filter (λ row. row.live)) (before.filled e);
      };
      name = refl;
      indexes = λ index k e i on. absurd (unindexed db slot k index none e i);
    }

-- ---- a relation is made

sound_relation : (db : Database) (c : Command) (version slot : ℕ) (r : Option Relation) (reply : Reply) → RelationMade db c version slot r reply → BringsNames c → IsSoundDatabase db
    → IsSoundDatabase (with_relation (in_version version db) slot r)
sound_relation db _ _ _ _ _ (Creates name slot fresh free) b s = sound_created db name slot b fresh free s
sound_relation db _ _ _ _ _ (Grows name wanted relation t d e fresh fine none few short) b s =
    let at = (named_is db relation t e).stands in
    let c = grows name d db t.0 t.1 b s at fresh (domain_fine wanted d fine) none few short in
    change_put (in_version 2 db) t.0 t.1 (with_attribute t.1 (record { name = name; domain = d })) (later db s) at (record { sound = c.sound; name = c.name; indexes = c.indexes })
sound_relation db _ _ _ _ _ (Inserts values name t e suit room order entries) b s =
    let at = (named_is db name t e).stands in
    change_put db t.0 t.1 (with_row t.1 values) s at (inserts values db t.0 t.1 s at suit room order entries)
sound_relation db _ _ _ _ _ (Marks name nodes t e) b s =
    let at = (named_is db name t e).stands in
    change_put db t.0 t.1 (with_removed t.1 (condition_of nodes)) s at (marks (condition_of nodes) db t.0 t.1 s at)
sound_relation db _ _ _ _ _ (Packs name t e none) b s =
    let at = (named_is db name t e).stands in
    change_put db t.0 t.1 (packed_up t.1) s at (packs db t.0 t.1 s at none)
sound_relation db _ _ _ _ _ (Removes name t e unread none) b s =
    let named = named_is db name t e in
    out_relation (in_version 2 db) t.0 t.1 (later db s) named.stands
    (λ k index e on. unindexed db t.0 k index none e on)
    (λ k cursor e. ap (λ n. is_among n cursor.reads) named.is ∙ not_read name 1 k db.cursors cursor unread e)

-- ---- CREATE INDEX, REMOVE INDEX

kind_one : (kind : IndexKind) (db : Database) (ks : List ℤ) (relation attribute : ℕ) → refuse_kind kind db ks ≡ Ok tt → IsSoundDatabase db
    → SuitKind kind ks × (one (is_hash_table (record { kind = kind; relation = relation; attribute = attribute })) + length (filter is_hash_table (used_things db.indexes)) ≤ most_tables)
kind_one Inline db ks relation attribute e s = let few = s.few_tables in (by_fall (first_fall ks) e, omega (arith, few))
  where
    by_fall : (o : Option ℤ) → refuse_found o no.NotOrdered ≡ Ok tt → o ≡ None
    by_fall None e = refl
    by_fall (Some z) e = absurd (err_ok e)
kind_one MaxHeap db ks relation attribute e s = let few = s.few_tables in (tt, omega (arith, few))
kind_one MemHash db ks relation attribute e s =
    by_tests (nat_le most_tables (length (filter is_hash_table (used_things db.indexes)))) (nat_lt 2048 (length ks)) refl refl e
  where
    by_tests : (a b : Bool) → nat_le most_tables (length (filter is_hash_table (used_things db.indexes))) ≡ a → nat_lt 2048 (length ks) ≡ b
        → ◌>>◌ (refuse_if a (no.Full pool.HashTables most_tables)) (refuse_if b (no.Full pool.HashEntries 2048)) ≡ Ok tt
        → (length ks ≤ 2048) × (1 + length (filter is_hash_table (used_things db.indexes)) ≤ most_tables)
    by_tests true b f g e = absurd (err_ok e)
    by_tests false true f g e = absurd (err_ok e)
    by_tests false false f g e =
        let tables : length (filter is_hash_table (used_things db.indexes)) < most_tables = grind (arith, nat_tests, f) in
        let entries : length ks ≤ 2048 = grind (arith, nat_tests, g) in
        (entries, omega (arith, tables))

is_none : {A : Type 0} (o : Option A) → is_some o ≡ false → o ≡ None
is_none None e = refl
is_none (Some x) e = absurd (false_true (sym e))

builds : (db : Database) (name attribute : List ℕ) (kind : IndexKind) (t : ℕ × Relation) (place slot : ℕ) (d : Domain) → relation_named db name ≡ Some t
    → place_of attribute t.1.schema.attributes ≡ Some place → domain_of t.1.schema.attributes attribute ≡ Some d → not (allows kind d) ≡ false → is_some (index_slot db t.0 place) ≡ false
    → free_from 0 db.indexes ≡ Some slot → refuse_kind kind db (keys place t.1.rows) ≡ Ok tt → IsSoundDatabase db
    → IsSoundDatabase (with_index (in_version 2 db) slot (Some (record { kind = kind; relation = t.0; attribute = place })))
builds db name attribute kind t place slot d e at is allowed fresh free g s =
    let there = domain_at t.1.schema.attributes (place_of attribute t.1.schema.attributes) place d at is in
    let kinds = kind_one kind db (keys place t.1.rows) t.0 place g s in
    put_index (in_version 2 db) slot (record { kind = kind; relation = t.0; attribute = place }) (later db s) (nothing_free db.indexes slot free)
    (record {
      relation = t.1;
      stands = (named_is db name t e).stands;
      suits = record { attribute = there.0; placed = there.1; allowed = ap (allows kind) there.2 ∙ not_not (allows kind d) allowed; keys = kinds.0 };
    })
    (λ k other f relation attribute. false_true (sym (not_on t.0 place 0 k db.indexes other (is_none (index_slot db t.0 place) fresh) f) ∙ both relation attribute))
    kinds.1
  where
    both : {a b c d : ℕ} → a ≡ b → c ≡ d → (a == b && c == d) ≡ true
    both e f = grind (arith, nat_tests, e, f)

sound_index : (db : Database) (c : Command) (slot : ℕ) (index : Option Index) → IndexMade db c slot index → IsSoundDatabase db → IsSoundDatabase (with_index (in_version 2 db) slot index)
sound_index db _ _ _ (Builds name attribute kind t place slot d e at is allowed fresh free g) s = builds db name attribute kind t place slot d e at is allowed fresh free g s
sound_index db _ _ _ (Drops name attribute slot) s = out_index (in_version 2 db) slot (later db s)

-- ---- cursors

-- the relations of a query that is answered are there
query_reads : (db : Database) (query : Query) → Yields (λ (rows : List (List Value)). AllByRecursion (λ name. is_some (relation_named db name) ≡ true) (relations_read query)) (answer_of db query)
query_reads db (Select list name nodes) = yields_found _ (relation_named db name) no.NoRelation _ (λ t e. record { yields = λ rows f. (ap (λ o. is_some o) e, tt) })
query_reads db (Join left right on list) =
    yields_found _ (relation_named db left) no.NoRelation _
    (λ l e. yields_found _ (relation_named db right) no.NoRelation _ (λ r f. record { yields = λ rows g. (ap (λ o. is_some o) e, (ap (λ o. is_some o) f, tt)) }))

sound_cursor : (db : Database) (c : Command) (place : ℕ) (cursor : Option Cursor) (reply : Reply) → CursorMade db c place cursor reply → IsSoundDatabase db → IsSoundDatabase (with_cursor db place cursor)
sound_cursor db _ _ _ _ (Opens number query place rows at free e) s =
    put_cursor db place (Some (record { reads = relations_read query; rows = rows })) s (λ c is. subst (IsSoundCursor db) (some_alike is) ((query_reads db query).yields rows e))
sound_cursor db _ _ _ _ (Fetches number c at) s =
    put_cursor db c.0 (Some (record c.1 { rows = drop 1 c.1.rows })) s (λ d is. subst (IsSoundCursor db) (some_alike is) (s.cursors c.0 c.1 at.cursor))
sound_cursor db _ _ _ _ (Closes number c at) s = put_cursor db c.0 None s (λ d is. absurd (never_some is))

-- ---- all commands

sound_change : (db : Database) (c : Command) (d : Database × Reply) → Change db c d → BringsNames c → IsSoundDatabase db → IsSoundDatabase d.0
sound_change db _ _ (Nothing c reply a) b s = s
sound_change db _ _ (OfRelation c version slot r reply m) b s = sound_relation db c version slot r reply m b s
sound_change db _ _ (OfIndex c slot index m) b s = sound_index db c slot index m s
sound_change db _ _ (OfCursor c place cursor reply m) b s = sound_cursor db c place cursor reply m s

pub step_sound : (db : Database) (c : Command) → BringsNames c → IsSoundDatabase db → IsSoundDatabase ((step db c).0)
step_sound db c b s = sound_change db c (step db c) (change_of db c) b s

pub empty_sound : IsSoundDatabase empty_database
empty_sound = record {
  version = inr refl;
  eight_relations = refl;
  eight_indexes = refl;
  four_cursors = refl;
  relations = λ k r e. absurd (nothing_stands 8 k r e);
  names = λ j k q r e f is. absurd (nothing_stands 8 j q e);
  indexes = λ k index e. absurd (nothing_stands 8 k index e);
  places = λ j k a b e f relation attribute. absurd (nothing_stands 8 j a e);
  few_tables = omega arith;
  cursors = λ k cursor e. absurd (nothing_stands 4 k cursor e);
}

pub limit_few : (version : ℕ) → slots_limit version ≤ 32768
limit_few version = by_test (version == 1)
  where
    by_test : (b : Bool) → (if b then 16384 else 32768) ≤ 32768
    by_test true = omega arith
    by_test false = omega arith
