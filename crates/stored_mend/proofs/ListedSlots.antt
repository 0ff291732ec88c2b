-- Relation slots of files that a cut left, repaired one by one.
use Rattle.std.proofs.Common.{◌≡◌, ◌≢◌, inl, inr, ⊎_elim, ℕ, ◌+◌, ◌-◌, ◌*◌, ◌<◌, ◌≤◌, Bool, true, false, ◌||◌, ◌==◌, List, [], ◌∷◌, ◌++◌, length, take, drop, replicate, Option, Some, None, if◌then◌else◌, IsTrue, refl, ap, sym, subst, ◌∙◌, arith}
use Rattle.std.specs.Prelude.{slice_index, slice_range}
use Rattle.std.specs.List.{list_any}
use Rattle.std.proofs.lemmas.List.{drop-drop, drop-take, length-replicate, take-take}
use Rattle.std.proofs.lemmas.List.Folds.{list_any-append}
use Rattle.afl_base.specs.Fields.{put_at}
use Rattle.afl_base.specs.Files.{Becomes, Overwrites, State, Table, bytes_at}
use Rattle.afl_base.proofs.FileLaws.{named_live}
use Rattle.catalog.specs.Rules.{catalog_bytes_in, is_stranger}
use Rattle.db_model.specs.declared.schemas.Attribute.{Attribute}
use Rattle.db_model.specs.declared.schemas.Domain.{Domain}
use Rattle.db_model.specs.declared.schemas.Domain.TheVariants.{Time}
use Rattle.db_model.specs.declared.schemas.Schema.{Schema}
use Rattle.db_model.specs.Catalog.{relation_at, relation_slot_bytes, relation_slot_of, schema_of}
use Rattle.catalog.proofs.PutRanges.{here_put}
use Rattle.padded.proofs.Facts.{either_right}
use Rattle.padded.specs.Zeros.{is_zeros}
use Rattle.space_model.specs.FileNames.{catalog_file}
use Rattle.stored.proofs.SoundSlots.{none_at as nothing_at}
use Rattle.stored.specs.CutTables.{IsSlot, IsTimed, relation, slot_bytes}
use Rattle.stored.specs.Mended.{has_time, is_time_domain, mended_base, mended_catalog, whole_bytes, whole_catalog}
use Rattle.stored.specs.declared.half.Half.{Half}
use Rattle.stored.proofs.MendedBase.{whole_long}
use Rattle.stored_mend.specs.Listed.{IsBeyond, IsBare, IsDoneTo, IsListedTo, IsMarked, IsMarkedHalf, IsMarkedSlot, IsMarkedTo, KeepsKnown, Reach, relations_below}
use Rattle.stored_mend.specs.Mending.{IsStrangeSlot, IsWholeCatalog}
use Rattle.stored_mend.proofs.CatalogKept.{after, catalog_before, whole_found}
use Rattle.stored_mend.proofs.HalfKept.{relation_at_slot}
use Rattle.stored_mend.proofs.IndexGone.{spares_all, spares_catalog, stranger_same}
use Rattle.stored_mend.proofs.ListedSteps.{KeepsFiles, done_of, slot_listed}
use Rattle.stored_mend.proofs.PutOver.{drop_zeros, length-range, put_same, take_zeros, zeros_are}
use Rattle.stored_mend.proofs.ReadSlots.{cleared, cut_slot}
use Rattle.stored_mend.proofs.SlotEdits.{DifferIn, differ_not, differ_put, range_put}

-- ---- what a step keeps

pub keeps_same : (old new : State) → new ≡ old → KeepsFiles old new
keeps_same old new same = record {
  spares = spares_all old new _ same;
  known = λ id. ap (λ (s : State). is_stranger s.files id) same;
  base = λ told. ap (λ (s : State). mended_base s.files) same;
}

pub keeps_becomes : (old new : State) (cat total : ℕ) (bytes : List ℕ) → IsWholeCatalog old.files cat → Becomes old new cat total bytes → (IsTrue old.tells → mended_base new.files ≡ mended_base old.files) → KeepsFiles old new
keeps_becomes old new cat total bytes w b base = record {
  spares = spares_catalog old new cat total bytes w.named b;
  known = stranger_same old new cat total bytes (named_live old.files cat catalog_file w.named) b;
  base = base;
}

-- ---- the mark

timed_any : (attributes front : List Attribute) (last : Attribute) → attributes ≡ front ++ last ∷ [] → last.domain ≡ Time → list_any (λ (a : Attribute). is_time_domain a.domain) attributes ≡ true
timed_any attributes front last e time =
    ap (list_any (λ (a : Attribute). is_time_domain a.domain)) e
    ∙ list_any-append (λ (a : Attribute). is_time_domain a.domain) front (last ∷ [])
    ∙ either_right (list_any (λ (a : Attribute). is_time_domain a.domain) front) (list_any (λ (a : Attribute). is_time_domain a.domain) (last ∷ []))
    (ap (λ (d : Domain). is_time_domain d || false) time)

timed_has : (files : Table) (t : IsTimed files) → has_time (relation files t.k) ≡ true
timed_has files t = ap has_time t.there ∙ timed_any t.schema.attributes t.front t.last t.time.0 t.time.1

-- a relation without a TIME needs no mark
pub mark_past : (files : Table) (slot : ℕ) → slot < 8 → has_time (relation_at (whole_catalog files) slot) ≡ false → IsMarkedTo files slot → IsMarkedTo files (slot + 1)
mark_past files slot below none m = ⊎_elim
    (λ (marked : IsMarked files). inl marked)
    (λ (timed : (t : IsTimed files) × (slot ≤ t.k)).
    let differs : timed.0.k ≢ slot = λ same.
    let no : false ≡ true = sym (ap has_time (relation_at_slot files slot below) ∙ none) ∙ ap (λ (k : ℕ). has_time (relation files k)) (sym same) ∙ timed_has files timed.0 in cc in
    let low = timed.1 in
    inr (timed.0, omega (arith, low, differs)))
    m

-- nor does a catalog that is not of version 1
pub mark_long : (files : Table) (slot : ℕ) → length (catalog_bytes_in files) ≢ 1472 → IsMarkedTo files slot → IsMarkedTo files (slot + 1)
mark_long files slot differs m = ⊎_elim
    (λ (marked : IsMarked files). inl marked)
    (λ (timed : (t : IsTimed files) × (slot ≤ t.k)). absurd (differs timed.0.short))
    m

-- the mark has been written
pub marked_slot : (old new : Table) (slot : ℕ) (half : Half) → ((id : ℕ) → is_stranger old id ≡ false) → KeepsKnown old new → IsMarkedHalf new half → IsBeyond (relations_below slot) half → IsMarkedSlot slot new
marked_slot old new slot half known keeps m ahead = record {
  listed = record { known = λ id. keeps id ∙ known id; left = inr (half, record { done = m.done; ahead = ahead; mark = inl m.marked }) };
  mark = inl m.marked;
}

-- ---- no catalog

pub schema_not_bare : (files : Table) (rows slot : ℕ) (schema : Schema) → slot < 8 → relation_at (whole_catalog files) slot ≡ Some schema → IsBare files rows → ⊥
schema_not_bare files rows slot schema below is bare =
    let empty : whole_catalog files ≡ [] = ap whole_bytes bare.none in
    nothing_at slot schema below (ap (λ (xs : List ℕ). relation_at xs slot) (sym empty) ∙ is)

pub schema_done : (files : Table) (slot : ℕ) (schema : Schema) (reach : Reach) → slot < 8 → relation_at (whole_catalog files) slot ≡ Some schema → IsListedTo reach files → (half : Half) × IsDoneTo reach files half
schema_done files slot schema reach below is l = ⊎_elim
    (λ (bare : IsBare files reach.rows). absurd (schema_not_bare files reach.rows slot schema below is bare))
    (λ (done : (half : Half) × IsDoneTo reach files half). done)
    l.left

-- a slot that is none that a cut leaves
pub strange_listed : (files : Table) (cat slot : ℕ) (reach next : Reach) → slot < 8 → IsWholeCatalog files cat → IsListedTo reach files → IsStrangeSlot files slot → IsListedTo next files
strange_listed files cat slot reach next below w l strange =
    let done = done_of files cat reach w l in
    absurd (strange done.0 (mended_catalog files).version (subst (λ (o : Option Schema). IsSlot done.0 (mended_catalog files).version slot (slot_bytes files slot) o) (relation_at_slot files slot below) (done.1.done.slots slot below)))

-- ---- a slot without a name

module _ (old new : State) (cat slot : ℕ) (below : slot < 8) (told : IsTrue old.tells) (w : IsWholeCatalog old.files cat) (unused : relation_at (whole_catalog old.files) slot ≡ None) (l : IsListedTo (relations_below slot) old.files) where
  done_mark : IsMarkedTo old.files (slot + 1)
  done_mark = mark_past old.files slot below (ap has_time unused) (done_of old.files cat (relations_below slot) w l).1.mark

  -- it is unused already
  pub unused_listed : new ≡ old → slice_range (bytes_at old.files cat) (176 * slot) (176 * slot + 176) ≡ relation_slot_bytes None → IsListedTo (relations_below (slot + 1)) new.files
  unused_listed same is =
      slot_listed old new cat slot below told w (keeps_same old new same) (differ_not (catalog_bytes_in old.files) (catalog_bytes_in new.files) slot (ap (λ (s : State). catalog_bytes_in s.files) same))
      (ap (λ (s : State). slot_bytes s.files slot) same ∙ ap (λ (xs : List ℕ). slice_range xs (176 * slot) (176 * slot + 176)) (whole_found old.files cat w) ∙ is ∙ ap relation_slot_bytes (sym unused)) l done_mark

  -- it is emptied
  pub emptied_listed : Overwrites old new cat (176 * slot) (relation_slot_bytes None) → (IsTrue old.tells → mended_base new.files ≡ mended_base old.files) → IsListedTo (relations_below (slot + 1)) new.files
  emptied_listed o base =
      let was : List ℕ = bytes_at old.files cat in
      let long = w.long in
      let now_is : catalog_bytes_in new.files ≡ put_at was (176 * slot) (relation_slot_bytes None) = after old new cat _ _ w o told in
      let d : DifferIn was (put_at was (176 * slot) (relation_slot_bytes None)) slot = differ_put was (relation_slot_bytes None) (176 * slot) slot long below (omega arith) (omega arith) in
      let size = d.size in
      let whole : whole_catalog new.files ≡ put_at was (176 * slot) (relation_slot_bytes None) = ap whole_bytes now_is ∙ whole_long (put_at was (176 * slot) (relation_slot_bytes None)) (omega (arith, size, long)) in
      slot_listed old new cat slot below told w (keeps_becomes old new cat _ _ w o base)
      (subst (λ (xs : List ℕ). DifferIn xs (catalog_bytes_in new.files) slot) (sym (catalog_before old.files cat w)) (subst (λ (xs : List ℕ). DifferIn was xs slot) (sym now_is) d))
      (ap (λ (xs : List ℕ). slice_range xs (176 * slot) (176 * slot + 176)) whole ∙ here_put was (relation_slot_bytes None) (176 * slot) 176 refl (omega (arith, below, long)) ∙ ap relation_slot_bytes (sym unused)) l done_mark

-- ---- bytes behind the attributes of a relation

pub range_range : (xs : List ℕ) (a n m k : ℕ) → m + k ≤ n → slice_range (slice_range xs a (a + n)) m (m + k) ≡ slice_range xs (a + m) (a + m + k)
range_range xs a n m k inside =
    let width : a + n - a ≡ n = omega arith in
    let first : m + k - m ≡ k = omega arith in
    let last : a + m + k - (a + m) ≡ k = omega arith in
    let rest : ℕ = n - m in
    let sum : n ≡ m + rest = omega (arith, inside) in
    ap (λ (j : ℕ). take (m + k - m) (drop m (take j (drop a xs)))) (width ∙ sum)
    ∙ ap (λ (ys : List ℕ). take (m + k - m) ys) (drop-take m rest (drop a xs))
    ∙ ap (λ (j : ℕ). take j (take rest (drop m (drop a xs)))) first
    ∙ take-take k rest (drop m (drop a xs)) (omega (arith, inside))
    ∙ ap (take k) (drop-drop m a xs)
    ∙ ap (λ (j : ℕ). take j (drop (a + m) xs)) (sym last)

-- the rest of some zeros
pub rest_zeros : (f n : ℕ) → f ≡ n → take (144 - 18 * f) (drop (18 * f) (replicate {A = ℕ} 144 0)) ≡ replicate (144 - 18 * n) 0
rest_zeros f n same =
    ap (take (144 - 18 * f)) (drop_zeros (18 * f) 144) ∙ take_zeros (144 - 18 * f) (144 - 18 * f) (omega arith) ∙ ap (λ (k : ℕ). replicate {A = ℕ} (144 - 18 * k) 0) same

-- a slot that a cut leaves, with zeros behind the attributes, is that of its relation
pub cut_cleared : (half : Half) (version k : ℕ) (slot : List ℕ) (schema : Schema) → length slot ≡ 176 → relation_slot_of slot ≡ Some schema → IsSlot half version k slot (Some schema)
    → cleared slot (length schema.attributes) ≡ relation_slot_bytes (Some schema)
cut_cleared half version k slot schema size read s = by_test (slice_index slot 0 == 0) refl read
  where
    by_test : (b : Bool) → (slice_index slot 0 == 0) ≡ b → (if b then None else Some (schema_of slot)) ≡ Some schema → cleared slot (length schema.attributes) ≡ relation_slot_bytes (Some schema)
    by_test true t e = cc
    by_test false t e =
        let same : schema_of slot ≡ schema = cc in
        subst (λ (x : Schema). cleared slot (length x.attributes) ≡ relation_slot_bytes (Some x)) same
        (cut_slot slot size t half version k (Some schema) (ap (λ (x : Schema). Some x) (sym same)) s).1

module _ (old new : State) (cat slot : ℕ) (schema : Schema) (below : slot < 8) (told : IsTrue old.tells) (w : IsWholeCatalog old.files cat) (is : relation_at (whole_catalog old.files) slot ≡ Some schema)
    (few : length schema.attributes ≤ 8) (m : IsMarkedSlot slot old.files) where
  abbrev was : List ℕ
  was = bytes_at old.files cat

  abbrev here : List ℕ
  here = slice_range was (176 * slot) (176 * slot + 176)

  long_here : length here ≡ 176
  long_here = let long = w.long in length-range (bytes_at old.files cat) (176 * slot) 176 (omega (arith, long, below))

  slot_here : slot_bytes old.files slot ≡ here
  slot_here = ap (λ (xs : List ℕ). slice_range xs (176 * slot) (176 * slot + 176)) (whole_found old.files cat w)

  cleared_is : cleared here (length schema.attributes) ≡ relation_slot_bytes (Some schema)
  cleared_is =
      let done = done_of old.files cat (relations_below slot) w m.listed in
      let s = done.1.done.slots slot below in
      cut_cleared done.0 (mended_catalog old.files).version slot here schema long_here
      (ap relation_slot_of (sym slot_here) ∙ is)
      (subst (λ (xs : List ℕ). IsSlot done.0 (mended_catalog old.files).version slot xs (Some schema)) slot_here
      (subst (λ (o : Option Schema). IsSlot done.0 (mended_catalog old.files).version slot (slot_bytes old.files slot) o) (relation_at_slot old.files slot below ∙ is) s))

  -- there are zeros
  pub zeros_listed : new ≡ old → (at n : ℕ) (read : List ℕ) → read ≡ slice_range (bytes_at old.files cat) at (at + n) → is_zeros read ≡ true → at ≡ 176 * slot + (16 + 18 * length schema.attributes) → n ≡ 144 - 18 * length schema.attributes
      → IsListedTo (relations_below (slot + 1)) new.files
  zeros_listed same at n read read_is zeroed there many =
      let zero : is_zeros (slice_range was at (at + n)) ≡ true = ap is_zeros (sym read_is) ∙ zeroed in
      let front : ℕ = 16 + 18 * length schema.attributes in
      let range : slice_range (slice_range was (176 * slot) (176 * slot + 176)) front (front + n) ≡ slice_range was at (at + n) =
      range_range was (176 * slot) 176 front n (omega (arith, many, few)) ∙ ap (λ (j : ℕ). slice_range was j (j + n)) (sym there) in
      let long : length (slice_range was at (at + n)) ≡ n = let more = w.long in length-range was at n (omega (arith, there, many, few, below, more)) in
      let zeros : replicate n 0 ≡ slice_range here front (front + n) = ap (λ (j : ℕ). replicate {A = ℕ} j 0) (sym long) ∙ sym (zeros_are (slice_range was at (at + n)) zero) ∙ sym range in
      let stays : cleared here (length schema.attributes) ≡ here = ap (λ (j : ℕ). put_at here front (replicate j 0)) (sym many) ∙ put_same here (replicate n 0) front n (omega (arith, many, few, long_here)) zeros in
      slot_listed old new cat slot below told w (keeps_same old new same) (differ_not (catalog_bytes_in old.files) (catalog_bytes_in new.files) slot (ap (λ (s : State). catalog_bytes_in s.files) same))
      (ap (λ (s : State). slot_bytes s.files slot) same ∙ slot_here ∙ sym stays ∙ cleared_is ∙ ap relation_slot_bytes (sym is)) m.listed m.mark

  -- zeros are put there
  pub cleared_listed : (at : ℕ) (part : List ℕ) → at ≡ 176 * slot + (16 + 18 * length schema.attributes) → part ≡ replicate (144 - 18 * length schema.attributes) 0 → Overwrites old new cat at part
      → (IsTrue old.tells → mended_base new.files ≡ mended_base old.files) → IsListedTo (relations_below (slot + 1)) new.files
  cleared_listed at part there zeros o base =
      let front : ℕ = 16 + 18 * length schema.attributes in
      let long = w.long in
      let many : length part ≡ 144 - 18 * length schema.attributes = ap (λ (xs : List ℕ). length xs) zeros ∙ length-replicate {A = ℕ} (144 - 18 * length schema.attributes) 0 in
      let now_is : catalog_bytes_in new.files ≡ put_at was at part = after old new cat _ _ w o told in
      let d : DifferIn was (put_at was at part) slot = differ_put was part at slot long below (omega (arith, there)) (omega (arith, there, many, few)) in
      let size = d.size in
      let whole : whole_catalog new.files ≡ put_at was at part = ap whole_bytes now_is ∙ whole_long (put_at was at part) (omega (arith, size, long)) in
      let put : slice_range (put_at was at part) (176 * slot) (176 * slot + 176) ≡ put_at here front part =
      ap (λ (j : ℕ). slice_range (put_at was j part) (176 * slot) (176 * slot + 176)) there
      ∙ range_put was part (176 * slot) front 176 (omega (arith, many, few)) (omega (arith, long, below)) in
      slot_listed old new cat slot below told w (keeps_becomes old new cat _ _ w o base)
      (subst (λ (xs : List ℕ). DifferIn xs (catalog_bytes_in new.files) slot) (sym (catalog_before old.files cat w)) (subst (λ (xs : List ℕ). DifferIn was xs slot) (sym now_is) d))
      (ap (λ (xs : List ℕ). slice_range xs (176 * slot) (176 * slot + 176)) whole ∙ put ∙ ap (λ (xs : List ℕ). put_at here front xs) zeros ∙ cleared_is ∙ ap relation_slot_bytes (sym is)) m.listed m.mark
