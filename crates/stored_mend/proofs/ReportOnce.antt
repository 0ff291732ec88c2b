-- What was done by two steps, where each thing changes once at most.
use Rattle.std.proofs.Common.{◌≡◌, ◌≢◌, ◌⊎◌, inl, inr, ⊎_elim, ℕ, ◌+◌, ◌-◌, ◌<◌, ◌≤◌, false, List, [], ◌∷◌, ◌++◌, get_or, length, Option, Some, None, refl, ap, sym, subst, ◌∙◌, arith, append_assoc, length-append}
use Rattle.std.specs.Prelude.{AllPairs, Contains}
use Rattle.std.proofs.lemmas.Bool.{cases_lt}
use Rattle.std.proofs.lemmas.List.{get_or_append_left, get_or-append-add}
use Rattle.std.proofs.lemmas.List.Elements.{Contains-append_cases, Contains-append_left, Contains-append_right, Contains-get_or}
use Rattle.afl_base.specs.Files.{State, Table}
use Rattle.catalog.specs.Rules.{is_tree}
use Rattle.db_model.specs.Catalog.{Index}
use Rattle.space_model.specs.FileNames.{catalog_file, rows_file, size_in, tree_file}
use Rattle.stored.specs.CutTables.{slot_bytes}
use Rattle.stored_mend.specs.Reported.{AreRightRows, ChangesOnce, HasNamesApart, IsCatalogGone, IsCatalogLonger, IsDone, IsIndexOn, IsKeptOrGone, IsOn, IsRelationGone, IsReported, IsRightCatalog, IsRightSlot, IsRightTree, IsSlotOf, Reports, StaysOrHasSlot, StaysOrIsRight, bytes_by_name, index_seen, relation_seen, tree_seen}
use Rattle.stored_mend.specs.declared.report.Mended.{Mended as AnyMended}
use Rattle.stored_mend.specs.declared.report.Mended.TheVariants.{Catalog, Mark, Relation, Attribute as OneAttribute, Row, Tree, Index as OneIndex, Stray}

-- ---- lists in which no line stands twice

abbrev pub AreApart : List AnyMended → Type 0
AreApart lines = AllPairs (λ line other. line ≢ other) lines

pub apart_none : AreApart []
apart_none i j d less within = absurd (omega (arith, within))

pub apart_one : (line : AnyMended) → AreApart (line ∷ [])
apart_one line i j d less within = absurd (omega (arith, less, within))

apart_append : (xs ys : List AnyMended) → AreApart xs → AreApart ys → ((line : AnyMended) → Contains xs line → Contains ys line → ⊥) → AreApart (xs ++ ys)
apart_append xs ys first second never i j d less within same =
    let long = length-append xs ys in
    ⊎_elim
    (λ (early : j < length xs).
    first i j d less early (sym (get_or_append_left xs ys d i (omega (arith, less, early))) ∙ same ∙ get_or_append_left xs ys d j early))
    (λ (late : length xs ≤ j).
    let n : ℕ = j - length xs in
    let inside : n < length ys = omega (arith, long, within, late) in
    let end : length xs + n ≡ j = omega (arith, late) in
    let there : get_or (xs ++ ys) j d ≡ get_or ys n d = ap (λ (k : ℕ). get_or (xs ++ ys) k d) (sym end) ∙ get_or-append-add xs ys n d in
    ⊎_elim
    (λ (before : i < length xs).
    let both : get_or xs i d ≡ get_or ys n d = sym (get_or_append_left xs ys d i before) ∙ same ∙ there in
    never (get_or xs i d) (Contains-get_or xs i d before) (subst (Contains ys) (sym both) (Contains-get_or ys n d inside)))
    (λ (behind : length xs ≤ i).
    let m : ℕ = i - length xs in
    let at : length xs + m ≡ i = omega (arith, behind) in
    let here : get_or (xs ++ ys) i d ≡ get_or ys m d = ap (λ (k : ℕ). get_or (xs ++ ys) k d) (sym at) ∙ get_or-append-add xs ys m d in
    second m n d (omega (arith, less, at, end)) inside (sym here ∙ same ∙ there))
    (cases_lt i (length xs)))
    (cases_lt j (length xs))

-- ---- a thing in three states, of which it is the same in two that follow one another

pub right_once : {X : Type 0} (IsRight : X → Type 0) (x y z : X) → StaysOrIsRight IsRight x y → StaysOrIsRight IsRight y z → (y ≡ x) ⊎ (z ≡ y)
right_once IsRight x y z f g = ⊎_elim
    (λ (same : y ≡ x). inl same)
    (λ (moved : (IsRight x → ⊥) × IsRight y). ⊎_elim
    (λ (same : z ≡ y). inr same)
    (λ (again : (IsRight y → ⊥) × IsRight z). absurd (again.0 moved.1))
    g)
    f

pub right_then : {X : Type 0} (IsRight : X → Type 0) (x y z : X) → StaysOrIsRight IsRight x y → StaysOrIsRight IsRight y z → StaysOrIsRight IsRight x z
right_then IsRight x y z f g = ⊎_elim
    (λ (same : y ≡ x). subst (λ w. StaysOrIsRight IsRight w z) same g)
    (λ (moved : (IsRight x → ⊥) × IsRight y). ⊎_elim
    (λ (same : z ≡ y). inr (moved.0, subst IsRight (sym same) moved.1))
    (λ (again : (IsRight y → ⊥) × IsRight z). absurd (again.0 moved.1))
    g)
    f

module _ {X : Type 0} (F : X → X → Type 0) (x y z : X) (once : (y ≡ x) ⊎ (z ≡ y)) where
  pub split_seen : F x z → F x y ⊎ F y z
  split_seen f = ⊎_elim
      (λ (same : y ≡ x). inr (subst (λ w. F w z) (sym same) f))
      (λ (same : z ≡ y). inl (subst (F x) same f))
      once

  pub early_seen : ((w : X) → F w w → ⊥) → F x y → F x z
  early_seen never f = ⊎_elim
      (λ (same : y ≡ x). absurd (never x (subst (F x) same f)))
      (λ (same : z ≡ y). subst (F x) (sym same) f)
      once

  pub late_seen : ((w : X) → F w w → ⊥) → F y z → F x z
  late_seen never f = ⊎_elim
      (λ (same : y ≡ x). subst (λ w. F w z) same f)
      (λ (same : z ≡ y). absurd (never y (subst (F y) same f)))
      once

-- ---- what cannot be done where nothing has changed

pub gone_not : (size : Option ℕ) → IsCatalogGone size size → ⊥
gone_not size g = let no : Some g.size ≡ None = sym g.was ∙ g.gone in cc

pub longer_not : (size : Option ℕ) → IsCatalogLonger size size → ⊥
longer_not size g =
    let both : Some g.before ≡ Some g.after = sym g.was ∙ g.now in
    let same : g.before ≡ g.after = cc in
    let more = g.more in
    omega (arith, same, more)

other_not : {X : Type 0} (w : X) → w ≢ w → ⊥
other_not w differs = differs refl

-- a tree of an index that stays is another
abbrev pub IsOther : Index → (old new : Option Index × Option (List ℕ)) → Type 0
IsOther index old new = (old.0 ≡ Some index) × (new.0 ≡ Some index) × (new.1 ≢ old.1)

pub tree_not : (index : Index) (w : Option Index × Option (List ℕ)) → IsOther index w w → ⊥
tree_not index w f = f.2 refl

-- an index is gone
abbrev pub IsGone : Index → (old new : Option Index × Option (List ℕ)) → Type 0
IsGone index old new = (old.0 ≡ Some index) × (new.0 ≡ None)

pub index_not : (index : Index) (w : Option Index × Option (List ℕ)) → IsGone index w w → ⊥
index_not index w f = let no : Some index ≡ None = sym f.0 ∙ f.1 in cc

-- a tree is gone
abbrev pub IsLone : (old new : Option Index × Option (List ℕ)) → Type 0
IsLone old new = (is_tree old.0 ≡ false) × (old.1 ≢ None) × (new.1 ≡ None)

pub lone_not : (w : Option Index × Option (List ℕ)) → IsLone w w → ⊥
lone_not w f = f.1 f.2

-- ---- two steps

pub record Once (a b c : Table) : Type 0 where
  pub first : (k : ℕ) → k < 8 → relation_seen b k ≡ relation_seen a k
  pub second : (k : ℕ) → k < 8 → relation_seen c k ≡ relation_seen b k
  pub catalog : (size_in b catalog_file ≡ size_in a catalog_file) ⊎ (size_in c catalog_file ≡ size_in b catalog_file)
  pub slots : (k : ℕ) → k < 8 → (slot_bytes b k ≡ slot_bytes a k) ⊎ (slot_bytes c k ≡ slot_bytes b k)
  pub rows : (k : ℕ) → k < 8 → (bytes_by_name (rows_file k) b ≡ bytes_by_name (rows_file k) a) ⊎ (bytes_by_name (rows_file k) c ≡ bytes_by_name (rows_file k) b)
  pub trees : (i : ℕ) → i < 8 → (tree_seen b i ≡ tree_seen a i) ⊎ (tree_seen c i ≡ tree_seen b i)
  pub none : (k : ℕ) → k < 8 → bytes_by_name (rows_file k) b ≡ None → bytes_by_name (rows_file k) c ≡ None
  pub kept : (i : ℕ) → i < 8 → IsKeptOrGone (index_seen a i) (index_seen b i)
  -- rows that no relation has go behind their slot
  pub lone_rows : (k : ℕ) → k < 8 → relation_seen a k ≡ None → (bytes_by_name (rows_file k) b ≡ bytes_by_name (rows_file k) a) ⊎ (slot_bytes c k ≡ slot_bytes b k)

module _ (a b : Table) (same : (k : ℕ) → k < 8 → relation_seen b k ≡ relation_seen a k) where
  pub slot_later : (k : ℕ) (name : List ℕ) → IsSlotOf a k name → IsSlotOf b k name
  slot_later k name s = record { below = s.below; schema = s.schema; stands = same k s.below ∙ s.stands; named = s.named }

  pub slot_earlier : (k : ℕ) (name : List ℕ) → IsSlotOf b k name → IsSlotOf a k name
  slot_earlier k name s = record { below = s.below; schema = s.schema; stands = sym (same k s.below) ∙ s.stands; named = s.named }

  pub on_later : (index : Index) (name attribute : List ℕ) → IsOn a index name attribute → IsOn b index name attribute
  on_later index name attribute s = record {
    below = s.below;
    schema = s.schema;
    stands = same index.relation s.below ∙ s.stands;
    named = s.named;
    place = s.place;
    placed = s.placed;
    called = s.called;
  }

  pub on_earlier : (index : Index) (name attribute : List ℕ) → IsOn b index name attribute → IsOn a index name attribute
  on_earlier index name attribute s = record {
    below = s.below;
    schema = s.schema;
    stands = sym (same index.relation s.below) ∙ s.stands;
    named = s.named;
    place = s.place;
    placed = s.placed;
    called = s.called;
  }

-- names stay apart where indexes stay, or are gone
module _ (a b : Table) (same : (k : ℕ) → k < 8 → relation_seen b k ≡ relation_seen a k) (kept : (i : ℕ) → i < 8 → IsKeptOrGone (index_seen a i) (index_seen b i)) where
  pub index_earlier : (i : ℕ) (index : Index) (name attribute : List ℕ) → IsIndexOn b i index name attribute → IsIndexOn a i index name attribute
  index_earlier i index name attribute s = record {
    below = s.below;
    stands = ⊎_elim
        (λ (stays : index_seen b i ≡ index_seen a i). sym stays ∙ s.stands)
        (λ (gone : index_seen b i ≡ None). let no : Some index ≡ None = sym s.stands ∙ gone in absurd (cc))
        (kept i s.below);
    on = on_earlier a b same index name attribute s.on;
  }

  pub names_later : HasNamesApart a → HasNamesApart b
  names_later n = record {
    relations = λ k j name s t. n.relations k j name (slot_earlier a b same k name s) (slot_earlier a b same j name t);
    indexes = λ i j index other name attribute s t.
        n.indexes i j index other name attribute (index_earlier i index name attribute s) (index_earlier j other name attribute t);
  }

-- a relation that is removed in steps
module _ (a b c : Table) (o : Once a b c) (k : ℕ) where
  relation_split : IsRelationGone a c k → IsRelationGone a b k ⊎ IsRelationGone b c k
  relation_split d = ⊎_elim
      (λ (same : bytes_by_name (rows_file k) b ≡ bytes_by_name (rows_file k) a). ⊎_elim
      (λ (slot_same : slot_bytes b k ≡ slot_bytes a k). inr (record {
        below = d.below;
        unused = o.first k d.below ∙ d.unused;
        gone = d.gone;
        changed = ⊎_elim (λ slot. inl (λ e. slot (e ∙ slot_same))) (λ rows. inr (λ e. rows (sym same ∙ e))) d.changed;
      }))
      (λ (slot_later : slot_bytes c k ≡ slot_bytes b k). by_rows same slot_later d.changed)
      (o.slots k d.below))
      (λ (same : bytes_by_name (rows_file k) c ≡ bytes_by_name (rows_file k) b). ⊎_elim
      (λ (slot_same : slot_bytes b k ≡ slot_bytes a k). by_slot same slot_same d.changed)
      (λ (slot_later : slot_bytes c k ≡ slot_bytes b k). inl (record {
        below = d.below;
        unused = d.unused;
        gone = sym same ∙ d.gone;
        changed = ⊎_elim (λ slot. inl (λ e. slot (slot_later ∙ e))) (λ rows. inr rows) d.changed;
      }))
      (o.slots k d.below))
      (o.rows k d.below)
    where
      by_slot : bytes_by_name (rows_file k) c ≡ bytes_by_name (rows_file k) b → slot_bytes b k ≡ slot_bytes a k → (slot_bytes c k ≢ slot_bytes a k) ⊎ (bytes_by_name (rows_file k) a ≢ None) → IsRelationGone a b k ⊎ IsRelationGone b c k
      by_slot same slot_same (inl slot) = inr (record { below = d.below; unused = o.first k d.below ∙ d.unused; gone = d.gone; changed = inl (λ e. slot (e ∙ slot_same)) })
      by_slot same slot_same (inr rows) = inl (record { below = d.below; unused = d.unused; gone = sym same ∙ d.gone; changed = inr rows })

      by_rows : bytes_by_name (rows_file k) b ≡ bytes_by_name (rows_file k) a → slot_bytes c k ≡ slot_bytes b k → (slot_bytes c k ≢ slot_bytes a k) ⊎ (bytes_by_name (rows_file k) a ≢ None) → IsRelationGone a b k ⊎ IsRelationGone b c k
      by_rows same slot_later (inr rows) = inr (record { below = d.below; unused = o.first k d.below ∙ d.unused; gone = d.gone; changed = inr (λ e. rows (sym same ∙ e)) })
      by_rows same slot_later (inl slot) = by_there (bytes_by_name (rows_file k) b) refl
        where
          by_there : (rows : Option (List ℕ)) → bytes_by_name (rows_file k) b ≡ rows → IsRelationGone a b k ⊎ IsRelationGone b c k
          by_there None is = inl (record { below = d.below; unused = d.unused; gone = is; changed = inl (λ e. slot (slot_later ∙ e)) })
          by_there (Some bytes) is = inr (record {
            below = d.below;
            unused = o.first k d.below ∙ d.unused;
            gone = d.gone;
            changed = inr (λ e. let no : Some bytes ≡ None = sym is ∙ e in absurd (cc));
          })

  relation_early : IsRelationGone a b k → IsRelationGone a c k
  relation_early d = record {
    below = d.below;
    unused = d.unused;
    gone = o.none k d.below d.gone;
    changed = ⊎_elim
        (λ slot. inl (early_seen (λ x y. y ≢ x) (slot_bytes a k) (slot_bytes b k) (slot_bytes c k) (o.slots k d.below) (λ w. other_not w) slot))
        (λ rows. inr rows)
        d.changed;
  }

  relation_late : IsRelationGone b c k → IsRelationGone a c k
  relation_late d = record {
    below = d.below;
    unused = sym (o.first k d.below) ∙ d.unused;
    gone = d.gone;
    changed = ⊎_elim
        (λ slot. inl (late_seen (λ x y. y ≢ x) (slot_bytes a k) (slot_bytes b k) (slot_bytes c k) (o.slots k d.below) (λ w. other_not w) slot))
        (λ rows. inr (λ e. rows (came e)))
        d.changed;
  }
    where
      came : bytes_by_name (rows_file k) a ≡ None → bytes_by_name (rows_file k) b ≡ None
      came e = ⊎_elim
          (λ (same : bytes_by_name (rows_file k) b ≡ bytes_by_name (rows_file k) a). same ∙ e)
          (λ (same : bytes_by_name (rows_file k) c ≡ bytes_by_name (rows_file k) b). sym same ∙ d.gone)
          (o.rows k d.below)

  relation_again : IsRelationGone a b k → IsRelationGone b c k → ⊥
  relation_again d e =
      let late : slot_bytes c k ≢ slot_bytes b k = ⊎_elim (λ slot. slot) (λ rows. absurd (rows d.gone)) e.changed in
      ⊎_elim
      (λ (same : bytes_by_name (rows_file k) b ≡ bytes_by_name (rows_file k) a). ⊎_elim
      (λ (early : slot_bytes b k ≡ slot_bytes a k). ⊎_elim (λ slot. slot early) (λ rows. rows (sym same ∙ d.gone)) d.changed)
      late
      (o.slots k d.below))
      late
      (o.lone_rows k d.below d.unused)

module _ (a b c : Table) (o : Once a b c) where
  abbrev catalog_split : (F : Option ℕ → Option ℕ → Type 0) → F (size_in a catalog_file) (size_in c catalog_file) → F (size_in a catalog_file) (size_in b catalog_file) ⊎ F (size_in b catalog_file) (size_in c catalog_file)
  catalog_split F d = split_seen F (size_in a catalog_file) (size_in b catalog_file) (size_in c catalog_file) o.catalog d

  pub done_split : (line : AnyMended) → IsDone a c line → IsDone a b line ⊎ IsDone b c line
  done_split Catalog d = catalog_split IsCatalogGone d
  done_split Mark d = catalog_split IsCatalogLonger d
  done_split (Relation k) d = relation_split a b c o k d
  done_split (OneAttribute name) d = ⊎_elim
      (λ early. inl (record { k = d.k; slot = d.slot; changed = early }))
      (λ late. inr (record { k = d.k; slot = slot_later a b o.first d.k name d.slot; changed = late }))
      (split_seen (λ x y. y ≢ x) (slot_bytes a d.k) (slot_bytes b d.k) (slot_bytes c d.k) (o.slots d.k d.slot.below) d.changed)
  done_split (Row name) d = ⊎_elim
      (λ early. inl (record { k = d.k; slot = d.slot; changed = early }))
      (λ late. inr (record { k = d.k; slot = slot_later a b o.first d.k name d.slot; changed = late }))
      (split_seen (λ x y. y ≢ x) (bytes_by_name (rows_file d.k) a) (bytes_by_name (rows_file d.k) b) (bytes_by_name (rows_file d.k) c) (o.rows d.k d.slot.below) d.changed)
  done_split (Tree name attribute) d = ⊎_elim
      (λ (early : IsOther d.index (tree_seen a d.i) (tree_seen b d.i)). inl (record { i = d.i; index = d.index; on = d.on; kind = d.kind; stays = early.1; changed = early.2 }))
      (λ (late : IsOther d.index (tree_seen b d.i) (tree_seen c d.i)). inr (record {
        i = d.i;
        index = d.index;
        on = record { below = d.on.below; stands = late.0; on = on_later a b o.first d.index name attribute d.on.on };
        kind = d.kind;
        stays = late.1;
        changed = late.2;
      }))
      (split_seen (IsOther d.index) (tree_seen a d.i) (tree_seen b d.i) (tree_seen c d.i) (o.trees d.i d.on.below) (d.on.stands, d.stays, d.changed))
  done_split (OneIndex name attribute) d = ⊎_elim
      (λ (early : IsGone d.index (tree_seen a d.i) (tree_seen b d.i)). inl (record { i = d.i; index = d.index; on = d.on; gone = early.1 }))
      (λ (late : IsGone d.index (tree_seen b d.i) (tree_seen c d.i)). inr (record {
        i = d.i;
        index = d.index;
        on = record { below = d.on.below; stands = late.0; on = on_later a b o.first d.index name attribute d.on.on };
        gone = late.1;
      }))
      (split_seen (IsGone d.index) (tree_seen a d.i) (tree_seen b d.i) (tree_seen c d.i) (o.trees d.i d.on.below) (d.on.stands, d.gone))
  done_split (Stray i) d = ⊎_elim
      (λ (early : IsLone (tree_seen a i) (tree_seen b i)). inl (record { below = d.below; treeless = early.0; was = early.1; gone = early.2 }))
      (λ (late : IsLone (tree_seen b i) (tree_seen c i)). inr (record { below = d.below; treeless = late.0; was = late.1; gone = late.2 }))
      (split_seen IsLone (tree_seen a i) (tree_seen b i) (tree_seen c i) (o.trees i d.below) (d.treeless, d.was, d.gone))

  pub done_early : (line : AnyMended) → IsDone a b line → IsDone a c line
  done_early Catalog d = early_seen IsCatalogGone (size_in a catalog_file) (size_in b catalog_file) (size_in c catalog_file) o.catalog gone_not d
  done_early Mark d = early_seen IsCatalogLonger (size_in a catalog_file) (size_in b catalog_file) (size_in c catalog_file) o.catalog longer_not d
  done_early (Relation k) d = relation_early a b c o k d
  done_early (OneAttribute name) d = record {
    k = d.k;
    slot = d.slot;
    changed = early_seen (λ x y. y ≢ x) (slot_bytes a d.k) (slot_bytes b d.k) (slot_bytes c d.k) (o.slots d.k d.slot.below) (λ w. other_not w) d.changed;
  }
  done_early (Row name) d = record {
    k = d.k;
    slot = d.slot;
    changed = early_seen (λ x y. y ≢ x) (bytes_by_name (rows_file d.k) a) (bytes_by_name (rows_file d.k) b) (bytes_by_name (rows_file d.k) c) (o.rows d.k d.slot.below) (λ w. other_not w) d.changed;
  }
  done_early (Tree name attribute) d =
      let f : IsOther d.index (tree_seen a d.i) (tree_seen c d.i) =
      early_seen (IsOther d.index) (tree_seen a d.i) (tree_seen b d.i) (tree_seen c d.i) (o.trees d.i d.on.below) (tree_not d.index) (d.on.stands, d.stays, d.changed) in
      record { i = d.i; index = d.index; on = d.on; kind = d.kind; stays = f.1; changed = f.2 }
  done_early (OneIndex name attribute) d =
      let f : IsGone d.index (tree_seen a d.i) (tree_seen c d.i) =
      early_seen (IsGone d.index) (tree_seen a d.i) (tree_seen b d.i) (tree_seen c d.i) (o.trees d.i d.on.below) (index_not d.index) (d.on.stands, d.gone) in
      record { i = d.i; index = d.index; on = d.on; gone = f.1 }
  done_early (Stray i) d =
      let f : IsLone (tree_seen a i) (tree_seen c i) =
      early_seen IsLone (tree_seen a i) (tree_seen b i) (tree_seen c i) (o.trees i d.below) lone_not (d.treeless, d.was, d.gone) in
      record { below = d.below; treeless = f.0; was = f.1; gone = f.2 }

  pub done_late : (line : AnyMended) → IsDone b c line → IsDone a c line
  done_late Catalog d = late_seen IsCatalogGone (size_in a catalog_file) (size_in b catalog_file) (size_in c catalog_file) o.catalog gone_not d
  done_late Mark d = late_seen IsCatalogLonger (size_in a catalog_file) (size_in b catalog_file) (size_in c catalog_file) o.catalog longer_not d
  done_late (Relation k) d = relation_late a b c o k d
  done_late (OneAttribute name) d = record {
    k = d.k;
    slot = slot_earlier a b o.first d.k name d.slot;
    changed = late_seen (λ x y. y ≢ x) (slot_bytes a d.k) (slot_bytes b d.k) (slot_bytes c d.k) (o.slots d.k d.slot.below) (λ w. other_not w) d.changed;
  }
  done_late (Row name) d = record {
    k = d.k;
    slot = slot_earlier a b o.first d.k name d.slot;
    changed = late_seen (λ x y. y ≢ x) (bytes_by_name (rows_file d.k) a) (bytes_by_name (rows_file d.k) b) (bytes_by_name (rows_file d.k) c) (o.rows d.k d.slot.below) (λ w. other_not w) d.changed;
  }
  done_late (Tree name attribute) d =
      let f : IsOther d.index (tree_seen a d.i) (tree_seen c d.i) =
      late_seen (IsOther d.index) (tree_seen a d.i) (tree_seen b d.i) (tree_seen c d.i) (o.trees d.i d.on.below) (tree_not d.index) (d.on.stands, d.stays, d.changed) in
      record {
        i = d.i;
        index = d.index;
        on = record { below = d.on.below; stands = f.0; on = on_earlier a b o.first d.index name attribute d.on.on };
        kind = d.kind;
        stays = f.1;
        changed = f.2;
      }
  done_late (OneIndex name attribute) d =
      let f : IsGone d.index (tree_seen a d.i) (tree_seen c d.i) =
      late_seen (IsGone d.index) (tree_seen a d.i) (tree_seen b d.i) (tree_seen c d.i) (o.trees d.i d.on.below) (index_not d.index) (d.on.stands, d.gone) in
      record { i = d.i; index = d.index; on = record { below = d.on.below; stands = f.0; on = on_earlier a b o.first d.index name attribute d.on.on }; gone = f.1 }
  done_late (Stray i) d =
      let f : IsLone (tree_seen a i) (tree_seen c i) =
      late_seen IsLone (tree_seen a i) (tree_seen b i) (tree_seen c i) (o.trees i d.below) lone_not (d.treeless, d.was, d.gone) in
      record { below = d.below; treeless = f.0; was = f.1; gone = f.2 }

  -- what was done by the first is not done again by the second
  pub done_again : HasNamesApart a → (line : AnyMended) → IsDone a b line → IsDone b c line → ⊥
  done_again n Catalog d e = let no : Some e.size ≡ None = sym e.was ∙ d.gone in cc
  done_again n Mark d e = ⊎_elim
      (λ (same : size_in b catalog_file ≡ size_in a catalog_file). longer_not (size_in a catalog_file) (subst (IsCatalogLonger (size_in a catalog_file)) same d))
      (λ (same : size_in c catalog_file ≡ size_in b catalog_file). longer_not (size_in b catalog_file) (subst (IsCatalogLonger (size_in b catalog_file)) same e))
      o.catalog
  done_again n (Relation k) d e = relation_again a b c o k d e
  done_again n (OneAttribute name) d e =
      let k : d.k ≡ e.k = n.relations d.k e.k name d.slot (slot_earlier a b o.first e.k name e.slot) in
      ⊎_elim d.changed (λ (same : slot_bytes c d.k ≡ slot_bytes b d.k). e.changed (subst (λ (j : ℕ). slot_bytes c j ≡ slot_bytes b j) k same)) (o.slots d.k d.slot.below)
  done_again n (Row name) d e =
      let k : d.k ≡ e.k = n.relations d.k e.k name d.slot (slot_earlier a b o.first e.k name e.slot) in
      ⊎_elim d.changed
      (λ (same : bytes_by_name (rows_file d.k) c ≡ bytes_by_name (rows_file d.k) b). e.changed (subst (λ (j : ℕ). bytes_by_name (rows_file j) c ≡ bytes_by_name (rows_file j) b) k same))
      (o.rows d.k d.slot.below)
  done_again n (Tree name attribute) d e =
      let i : d.i ≡ e.i = n.indexes d.i e.i d.index e.index name attribute d.on (index_earlier a b o.first o.kept e.i e.index name attribute e.on) in
      ⊎_elim
      (λ (same : tree_seen b d.i ≡ tree_seen a d.i). d.changed (ap (λ (t : Option Index × Option (List ℕ)). t.1) same))
      (λ (same : tree_seen c d.i ≡ tree_seen b d.i). e.changed (subst (λ (j : ℕ). bytes_by_name (tree_file j) c ≡ bytes_by_name (tree_file j) b) i (ap (λ (t : Option Index × Option (List ℕ)). t.1) same)))
      (o.trees d.i d.on.below)
  done_again n (OneIndex name attribute) d e =
      let i : d.i ≡ e.i = n.indexes d.i e.i d.index e.index name attribute d.on (index_earlier a b o.first o.kept e.i e.index name attribute e.on) in
      let no : Some e.index ≡ None = sym e.on.stands ∙ ap (index_seen b) (sym i) ∙ d.gone in cc
  done_again n (Stray i) d e = e.was d.gone

  pub reported_then : HasNamesApart a → (first second : List AnyMended) → IsReported a b first → IsReported b c second → IsReported a c (first ++ second)
  reported_then n first second r s = record {
    done = λ line there. ⊎_elim
        (λ (early : Contains first line). done_early line (r.done line early))
        (λ (late : Contains second line). done_late line (s.done line late))
        (Contains-append_cases first second line there);
    told = λ line d. ⊎_elim
        (λ early. Contains-append_left first second line (r.told line early))
        (λ late. Contains-append_right first second line (s.told line late))
        (done_split line d);
    apart = apart_append first second r.apart s.apart (λ line early late. done_again n line (r.done line early) (s.done line late));
  }

-- ---- steps, each of which changes a thing once

rows_none : (r : Option _) (x y : Option (List ℕ)) → StaysOrIsRight (AreRightRows r) x y → x ≡ None → y ≡ None
rows_none r x y s none = ⊎_elim
    (λ (same : y ≡ x). same ∙ none)
    (λ (moved : (AreRightRows r x → ⊥) × AreRightRows r y). by_slot r moved)
    s
  where
    by_slot : (r : Option _) → (AreRightRows r x → ⊥) × AreRightRows r y → y ≡ None
    by_slot None moved = moved.1
    by_slot (Some schema) moved = absurd (moved.0 (λ bytes is. let no : Some bytes ≡ None = sym is ∙ none in absurd (cc)))

pub kept_then : (x y z : Option Index) → IsKeptOrGone x y → IsKeptOrGone y z → IsKeptOrGone x z
kept_then x y z (inl same) (inl stays) = inl (stays ∙ same)
kept_then x y z (inr none) (inl stays) = inr (stays ∙ none)
kept_then x y z first (inr none) = inr none

module _ (a b c : Table) (f : ChangesOnce a b) (g : ChangesOnce b c) where
  slots_second : (k : ℕ) → k < 8 → StaysOrIsRight (IsRightSlot (relation_seen a k)) (slot_bytes b k) (slot_bytes c k)
  slots_second k below = subst (λ r. StaysOrIsRight (IsRightSlot r) (slot_bytes b k) (slot_bytes c k)) (f.relations k below) (g.slots k below)

  rows_second : (k : ℕ) → k < 8 → StaysOrIsRight (AreRightRows (relation_seen a k)) (bytes_by_name (rows_file k) b) (bytes_by_name (rows_file k) c)
  rows_second k below = subst (λ r. StaysOrIsRight (AreRightRows r) (bytes_by_name (rows_file k) b) (bytes_by_name (rows_file k) c)) (f.relations k below) (g.rows k below)

  -- a slot that is right and has no relation stays
  slot_stays : (k : ℕ) → k < 8 → relation_seen a k ≡ None → IsRightSlot None (slot_bytes b k) → slot_bytes c k ≡ slot_bytes b k
  slot_stays k below unused right = ⊎_elim
      (λ (same : slot_bytes c k ≡ slot_bytes b k). same)
      (λ (moved : (IsRightSlot (relation_seen a k) (slot_bytes b k) → ⊥) × IsRightSlot (relation_seen a k) (slot_bytes c k)).
      absurd (moved.0 (subst (λ r. IsRightSlot r (slot_bytes b k)) (sym unused) right)))
      (slots_second k below)

  rows_behind : (k : ℕ) → k < 8 → relation_seen a k ≡ None → StaysOrHasSlot a c k
  rows_behind k below unused = ⊎_elim
      (λ (late : bytes_by_name (rows_file k) c ≡ bytes_by_name (rows_file k) b). ⊎_elim
      (λ (early : bytes_by_name (rows_file k) b ≡ bytes_by_name (rows_file k) a). inl (late ∙ early))
      (λ (right : IsRightSlot None (slot_bytes b k)). inr (subst (IsRightSlot None) (sym (slot_stays k below unused right)) right))
      (f.lone_rows k below unused))
      (λ (right : IsRightSlot None (slot_bytes c k)). inr right)
      (g.lone_rows k below (f.relations k below ∙ unused))

  pub once_both : Once a b c
  once_both = record {
    first = f.relations;
    second = g.relations;
    catalog = right_once IsRightCatalog _ _ _ f.catalog g.catalog;
    slots = λ k below. right_once (IsRightSlot (relation_seen a k)) _ _ _ (f.slots k below) (slots_second k below);
    rows = λ k below. right_once (AreRightRows (relation_seen a k)) _ _ _ (f.rows k below) (rows_second k below);
    trees = λ i below. right_once IsRightTree _ _ _ (f.trees i below) (g.trees i below);
    none = λ k below none. rows_none (relation_seen b k) _ _ (g.rows k below) none;
    kept = f.indexes;
    lone_rows = λ k below unused. ⊎_elim (λ same. inl same) (λ right. inr (slot_stays k below unused right)) (f.lone_rows k below unused);
  }

  pub once_then : ChangesOnce a c
  once_then = record {
    relations = λ k below. g.relations k below ∙ f.relations k below;
    catalog = right_then IsRightCatalog _ _ _ f.catalog g.catalog;
    slots = λ k below. right_then (IsRightSlot (relation_seen a k)) _ _ _ (f.slots k below) (slots_second k below);
    rows = λ k below. right_then (AreRightRows (relation_seen a k)) _ _ _ (f.rows k below) (rows_second k below);
    lone_rows = rows_behind;
    indexes = λ i below. kept_then _ _ _ (f.indexes i below) (g.indexes i below);
    trees = λ i below. right_then IsRightTree _ _ _ (f.trees i below) (g.trees i below);
  }

pub reports_then : (n m all : ℕ) (a b c : State) (before mid after : List AnyMended) → Reports n a b before mid → Reports m b c mid after → n + m ≤ all → Reports all a c before after
reports_then n m all a b c before mid after f g room =
    let long = length-append f.added g.added in
    let many = f.few in
    let more = g.few in
    record {
      added = f.added ++ g.added;
      few = omega (arith, long, many, more, room);
      behind = λ fits.
          let first : mid ≡ before ++ f.added = f.behind (omega (arith, fits, room)) in
          let size : length mid ≡ length before + length f.added = ap (λ (xs : List AnyMended). length xs) first ∙ length-append before f.added in
          g.behind (omega (arith, fits, room, size, many)) ∙ ap (λ (xs : List AnyMended). xs ++ g.added) first ∙ append_assoc before f.added g.added;
      once = once_then a.files b.files c.files f.once g.once;
      lines = λ n.
          reported_then a.files b.files c.files (once_both a.files b.files c.files f.once g.once) n f.added g.added
          (f.lines n) (g.lines (names_later a.files b.files f.once.relations f.once.indexes n));
    }

pub reports_more : (n m : ℕ) (a b : State) (before after : List AnyMended) → Reports n a b before after → n ≤ m → Reports m a b before after
reports_more n m a b before after r more =
    let few = r.few in
    record { added = r.added; few = omega (arith, few, more); behind = λ fits. r.behind (omega (arith, fits, more)); once = r.once; lines = r.lines }

-- ---- a step that changes nothing, one that has no line, and one that has one

pub once_same : (a : Table) → ChangesOnce a a
once_same a = record {
  relations = λ k below. refl;
  catalog = inl refl;
  slots = λ k below. inl refl;
  rows = λ k below. inl refl;
  lone_rows = λ k below unused. inl refl;
  indexes = λ i below. inl refl;
  trees = λ i below. inl refl;
}

pub nothing_done : (a : Table) (line : AnyMended) → IsDone a a line → ⊥
nothing_done a Catalog d = gone_not (size_in a catalog_file) d
nothing_done a Mark d = longer_not (size_in a catalog_file) d
nothing_done a (Relation k) d = ⊎_elim (λ slot. slot refl) (λ rows. rows d.gone) d.changed
nothing_done a (OneAttribute name) d = d.changed refl
nothing_done a (Row name) d = d.changed refl
nothing_done a (Tree name attribute) d = d.changed refl
nothing_done a (OneIndex name attribute) d = index_not d.index (tree_seen a d.i) (d.on.stands, d.gone)
nothing_done a (Stray i) d = d.was d.gone

contains_none : (line : AnyMended) → Contains [] line → ⊥
contains_none line c = let below = c.1 in omega (arith, below)

pub reports_quiet : (n : ℕ) (a b : State) (before after : List AnyMended) → ChangesOnce a.files b.files → ((line : AnyMended) → IsDone a.files b.files line → ⊥) → after ≡ before → Reports n a b before after
reports_quiet n a b before after once none same = record {
  added = [];
  few = omega arith;
  behind = λ fits. same ∙ sym (append_none before);
  once = once;
  lines = λ n. record { done = λ line there. absurd (contains_none line there); told = λ line d. absurd (none line d); apart = apart_none };
}
  where
    append_none : (xs : List AnyMended) → xs ++ [] ≡ xs
    append_none [] = refl
    append_none (x ∷ xs) = ap (λ (ys : List AnyMended). x ∷ ys) (append_none xs)

pub reports_nothing : (n : ℕ) (a b : State) (before after : List AnyMended) → b ≡ a → after ≡ before → Reports n a b before after
reports_nothing n a b before after same lines =
    subst (λ (s : State). Reports n a s before after) (sym same) (reports_quiet n a a before after (once_same a.files) (nothing_done a.files) lines)
