-- Relations that have more rows, and a database that has grown by them.
use Rattle.std.proofs.Common.{◌≡◌, ℕ, ◌+◌, ◌<◌, ◌≤◌, List, [], ◌∷◌, ◌++◌, length, get_or, set, Option, Some, None, refl, ap, sym, subst, ◌∙◌, arith, append_assoc}
use Rattle.std.specs.Prelude.{⊤}
use Rattle.std.proofs.lemmas.List.{append-nil, length-append, length-set, get_or-set_other}
use Rattle.db_model.specs.Database.{Relation, Database, relation_named, with_relation}
use Rattle.db_model.specs.Row.{Row}
use Rattle.db_model.specs.Sound.{StandsIn}
use Rattle.db_model.proofs.Standing.{found_from, same_or_other, stands_set}
use Rattle.space_plan.specs.Growth.{HasFewRows}

-- a relation has at most so many rows more
pub record IsLonger (most : ℕ) (r q : Relation) : Type 0 where
  pub schema : q.schema ≡ r.schema
  pub more : List Row
  pub rows : q.rows ≡ r.rows ++ more
  pub few : length more ≤ most
  pub within : length q.rows ≤ 32768

-- the relation in a slot has, by its name
abbrev pub IsLongerIn : (List ℕ → ℕ) → Option Relation → Option Relation → Type 0
IsLongerIn most None None = ⊤
IsLongerIn most (Some r) (Some q) = IsLonger (most r.schema.name) r q
IsLongerIn most _ _ = ⊥

-- each relation has, and the indexes are the same
pub record IsGrown (most : List ℕ → ℕ) (db new : Database) : Type 0 where
  pub slots : length new.relations ≡ length db.relations
  pub relations : (k : ℕ) → IsLongerIn most (get_or db.relations k None) (get_or new.relations k None)
  pub indexes : new.indexes ≡ db.indexes

-- ---- nothing more

same_in : (most : List ℕ → ℕ) (o : Option Relation) → ((r : Relation) → o ≡ Some r → length r.rows ≤ 32768) → IsLongerIn most o o
same_in most None few = tt
same_in most (Some r) few = record { schema = refl; more = []; rows = sym (append-nil r.rows); few = omega arith; within = few r refl }

pub grown_same : (most : List ℕ → ℕ) (db new : Database) → HasFewRows db → new.relations ≡ db.relations → new.indexes ≡ db.indexes → IsGrown most db new
grown_same most db new few relations indexes = record {
  slots = ap length relations;
  relations = λ k. subst (λ (rs : List (Option Relation)). IsLongerIn most (get_or db.relations k None) (get_or rs k None)) (sym relations) (same_in most (get_or db.relations k None) (few k));
  indexes = indexes;
}

-- ---- one after the other

longer_twice : (a b : ℕ) (r q s : Relation) → IsLonger a r q → IsLonger b q s → IsLonger (a + b) r s
longer_twice a b r q s h k = record {
  schema = k.schema ∙ h.schema;
  more = h.more ++ k.more;
  rows = k.rows ∙ ap (λ t. t ++ k.more) h.rows ∙ append_assoc r.rows h.more k.more;
  few = let x = h.few in let y = k.few in omega (arith, x, y, length-append h.more k.more);
  within = k.within;
}

then_in : (most later : List ℕ → ℕ) (o p q : Option Relation) → IsLongerIn most o p → IsLongerIn later p q → IsLongerIn (λ name. most name + later name) o q
then_in most later None None q h k = none_more q k
  where
    none_more : (q : Option Relation) → IsLongerIn later None q → IsLongerIn (λ name. most name + later name) None q
    none_more None k = tt
    none_more (Some s) k = absurd k
then_in most later None (Some p) q h k = absurd h
then_in most later (Some r) None q h k = absurd h
then_in most later (Some r) (Some p) None h k = absurd k
then_in most later (Some r) (Some p) (Some s) h k =
    let name : p.schema.name ≡ r.schema.name = ap (λ x. x.name) h.schema in
    longer_twice (most r.schema.name) (later r.schema.name) r p s h (subst (λ n. IsLonger (later n) p s) name k)

pub grown_then : (most later : List ℕ → ℕ) (db new last : Database) → IsGrown most db new → IsGrown later new last → IsGrown (λ name. most name + later name) db last
grown_then most later db new last h k = record {
  slots = k.slots ∙ h.slots;
  relations = λ i. then_in most later (get_or db.relations i None) (get_or new.relations i None) (get_or last.relations i None) (h.relations i) (k.relations i);
  indexes = k.indexes ∙ h.indexes;
}

-- ---- at most so many

few_in : (most : List ℕ → ℕ) (o : Option Relation) (q : Relation) → IsLongerIn most o (Some q) → length q.rows ≤ 32768
few_in most None q h = absurd h
few_in most (Some r) q h = h.within

pub grown_few : (most : List ℕ → ℕ) (db new : Database) → IsGrown most db new → HasFewRows new
grown_few most db new h slot q e = few_in most (get_or db.relations slot None) q (subst (IsLongerIn most (get_or db.relations slot None)) e (h.relations slot))

most_in : (most limit : List ℕ → ℕ) → ((name : List ℕ) → most name ≤ limit name) → (o p : Option Relation) → IsLongerIn most o p → IsLongerIn limit o p
most_in most limit few None None h = tt
most_in most limit few None (Some q) h = absurd h
most_in most limit few (Some r) None h = absurd h
most_in most limit few (Some r) (Some q) h =
    record { schema = h.schema; more = h.more; rows = h.rows; few = (let a = few r.schema.name in let b = h.few in omega (arith, a, b)); within = h.within }

pub grown_most : (most limit : List ℕ → ℕ) (db new : Database) → ((name : List ℕ) → most name ≤ limit name) → IsGrown most db new → IsGrown limit db new
grown_most most limit db new few h =
    record { slots = h.slots; relations = λ k. most_in most limit few (get_or db.relations k None) (get_or new.relations k None) (h.relations k); indexes = h.indexes }

-- ---- one row more

abbrev pub with_row : Relation → Row → Relation
with_row r row = record r { rows = r.rows ++ row ∷ [] }

pub grown_row : (most : List ℕ → ℕ) (db : Database) (name : List ℕ) (s : ℕ × Relation) (row : Row) → relation_named db name ≡ Some s → HasFewRows db
    → 1 ≤ most name → length s.1.rows < 32768 → IsGrown most db (with_relation db s.0 (Some (with_row s.1 row)))
grown_row most db name s row e few one below =
    let found = found_from name 0 db.relations s e in
    let number = found.number in
    let at : found.slot ≡ s.0 = omega (arith, number) in
    let there : StandsIn db.relations s.0 s.1 = subst (λ k. StandsIn db.relations k s.1) at found.stands in
    let longer : IsLonger (most s.1.schema.name) s.1 (with_row s.1 row) = record {
      schema = refl;
      more = row ∷ [];
      rows = refl;
      few = subst (λ n. 1 ≤ most n) (sym found.named) one;
      within = omega (arith, below, length-append s.1.rows (row ∷ []));
    } in
    let here : (k : ℕ) → k ≡ s.0 → IsLongerIn most (get_or db.relations k None) (get_or (set db.relations s.0 (Some (with_row s.1 row))) k None) =
    λ k same. rw (same, there, stands_set db.relations s.0 s.1 (with_row s.1 row) there) longer in
    record {
      slots = length-set db.relations s.0 (Some (with_row s.1 row));
      relations = λ k. same_or_other k s.0 (here k)
          (λ other. subst (IsLongerIn most (get_or db.relations k None)) (sym (get_or-set_other db.relations s.0 k (Some (with_row s.1 row)) None other)) (same_in most (get_or db.relations k None) (few k)));
      indexes = refl;
    }
