-- What stands in a catalog of which one slot was being put: the slots that are written whole, and the mark behind them.
use Rattle.std.proofs.Common.{◌≡◌, ◌≢◌, ◌⊎◌, inl, inr, ⊎_elim, ℕ, ◌+◌, ◌-◌, ◌*◌, ◌%◌, ◌<◌, ◌≤◌, ◌==◌, Bool, true, false, List, [], ◌++◌, length, take, drop, get_or, Option, Some, None, if◌then◌else◌, refl, ap, sym, subst, ◌∙◌, arith, append_assoc, length-append}
use Rattle.std.specs.Prelude.{slice_range}
use Rattle.std.specs.List.{list_any}
use Rattle.std.proofs.lemmas.Bool.{cases_lt}
use Rattle.std.proofs.lemmas.Bool.Decides.{nat_tests}
use Rattle.std.proofs.lemmas.List.{drop-append-le, drop-drop, drop-take, length-take-le, nil_from_length, take-append-drop, take-take, take_all, take_at}
use Rattle.std.proofs.lemmas.List.FromFn.{get_or-map-range_with_len}
use Rattle.afl_base.specs.Fields.{put_at}
use Rattle.afl_base.specs.Files.{Table}
use Rattle.afl_base.proofs.FieldLaws.{length-put_at}
use Rattle.afl_base.proofs.PutLaws.{put_at_nothing}
use Rattle.catalog.specs.CatalogFile.{HasFrontOfSlot, IsCatalogSize, IsFrontOfCatalog, ReplacesFront}
use Rattle.catalog.specs.Rules.{catalog_bytes_in, has_form}
use Rattle.catalog.proofs.Changes.{slot_put}
use Rattle.catalog.proofs.Puts.{put_at-append}
use Rattle.db_model.specs.declared.schemas.Schema.{Schema}
use Rattle.db_model.specs.Catalog.{Index, catalog_of, in_version_2, index_at, index_slot_bytes, index_slot_of, relation_at, relation_slot_bytes, relation_slot_of, version_mark, version_of, with_slot}
use Rattle.padded.proofs.Facts.{either_way}
use Rattle.stored.specs.CutTables.{HasMark, IsBehindSlot, IsMarkedInPart, IsTimed, relation, slot_bytes}
use Rattle.stored.specs.Mended.{has_time, mended_catalog, whole_bytes, whole_catalog}
use Rattle.stored.specs.declared.half.Half.{Half}
use Rattle.stored.specs.declared.half.Half.TheVariants.{Nothing}
use Rattle.stored.proofs.CatalogParts.{range_take}
use Rattle.stored.proofs.MendedBase.{whole_long}
use Rattle.stored.proofs.MendedTables.{ReadsIndex, ReadsRelation}
use Rattle.session_model.specs.Running.{IsWritten}
use Rattle.session_model.proofs.Rules.{formed}

-- ---- the first bytes of a catalog that is written whole

pub record IsFrontOf (now whole : List ℕ) : Type 0 where
  pub upto : ℕ
  pub some : 1472 ≤ upto
  pub most : upto ≤ 1480
  pub is : now ≡ take upto whole
  pub long : length whole ≡ 1480
  pub written : IsWritten whole

pub front_size : (now whole : List ℕ) (f : IsFrontOf now whole) → length now ≡ f.upto
front_size now whole f = ap length f.is ∙ length-take-le f.upto whole (omega (arith, f.most, f.long))

front_range : (now whole : List ℕ) (f : IsFrontOf now whole) (a b : ℕ) → a ≤ b → b ≤ 1472 → slice_range now a b ≡ slice_range whole a b
front_range now whole f a b order inside =
    ap (λ (xs : List ℕ). slice_range xs a b) f.is ∙ range_take whole f.upto a b order (omega (arith, f.some, inside))

module _ (files : Table) (whole : List ℕ) (f : IsFrontOf (catalog_bytes_in files) whole) where
  abbrev bytes : List ℕ
  bytes = catalog_bytes_in files

  size : length bytes ≡ f.upto
  size = front_size bytes whole f

  pub front_long : 1472 ≤ length bytes
  front_long = omega (arith, size, f.some)

  pub front_whole : whole_catalog files ≡ bytes
  front_whole = whole_long bytes front_long

  range : (a b : ℕ) → a ≤ b → b ≤ 1472 → slice_range (whole_catalog files) a b ≡ slice_range whole a b
  range a b order inside = ap (λ (xs : List ℕ). slice_range xs a b) front_whole ∙ front_range bytes whole f a b order inside

  pub front_relation : (k : ℕ) → k < 8 → relation_at (whole_catalog files) k ≡ relation_at whole k
  front_relation k below = ap relation_slot_of (range (176 * k) (176 * k + 176) (omega arith) (omega (arith, below)))

  pub front_index : (i : ℕ) → i < 8 → index_at (whole_catalog files) i ≡ index_at whole i
  front_index i below = ap index_slot_of (range (1408 + 8 * i) (1408 + 8 * i + 8) (omega arith) (omega (arith, below)))

  pub front_slots : (k : ℕ) → k < 8 → slot_bytes files k ≡ relation_slot_bytes (relation files k)
  unfolding mended_catalog
  front_slots k below =
      let e : slot_bytes files k ≡ slice_range whole (176 * k) (176 * k + 176) = range (176 * k) (176 * k + 176) (omega arith) (omega (arith, below)) in
      let here : relation files k ≡ relation_at whole k = get_or-map-range_with_len (relation_at (whole_catalog files)) 0 8 k k None below (omega arith) ∙ front_relation k below in
      e ∙ f.written.relations k below ∙ ap relation_slot_bytes (sym here)

  pub front_index_slots : (i : ℕ) → i < 8 → slice_range (whole_catalog files) (1408 + 8 * i) (1408 + 8 * i + 8) ≡ index_slot_bytes (index_at (whole_catalog files) i)
  front_index_slots i below =
      range (1408 + 8 * i) (1408 + 8 * i + 8) (omega arith) (omega (arith, below)) ∙ f.written.indexes i below ∙ ap index_slot_bytes (sym (front_index i below))

  -- ---- the mark

  all : f.upto ≡ 1480 → bytes ≡ whole
  all e = f.is ∙ ap (λ (n : ℕ). take n whole) e ∙ take_all 1480 whole (omega (arith, f.long))

  first_form : f.upto ≡ 1472 → (has_form bytes ≡ true) × (version_of bytes ≡ 1)
  first_form e =
      let n : length bytes ≡ 1472 = size ∙ e in
      (formed bytes (inr (inl n)) (λ (m : length bytes ≡ 1480). absurd (omega (arith, n, m))), ap (λ (m : ℕ). if m == 1472 then 1 else 2) n)

  second_form : f.upto ≡ 1480 → (has_form bytes ≡ true) × (version_of bytes ≡ 2)
  second_form e =
      let n : length bytes ≡ 1480 = size ∙ e in
      (formed bytes (inr (inr n)) (λ m. ap (λ (xs : List ℕ). slice_range xs 1472 1480) (all e) ∙ f.written.mark f.long), ap (λ (m : ℕ). if m == 1472 then 1 else 2) n)

  in_part : 1472 < f.upto → f.upto < 1480 → IsMarkedInPart bytes
  in_part low high =
      let n : ℕ = f.upto - 1472 in
      let sum : f.upto ≡ 1472 + n = omega (arith, low) in
      let behind : take n (drop 1472 whole) ≡ take n version_mark = sym (take-take n 8 (drop 1472 whole) (omega (arith, high))) ∙ ap (take n) (f.written.mark f.long) in
      record {
        n = n;
        some = (omega (arith, low), omega (arith, low, high));
        size = size ∙ sum;
        front = ap (drop 1472) (f.is ∙ ap (λ (m : ℕ). take m whole) sum) ∙ drop-take 1472 n whole ∙ behind;
      }

  -- of more bytes than the slots take it is version 2
  pub front_two : f.upto ≢ 1472 → (mended_catalog files).version ≡ 2
  unfolding mended_catalog
  front_two other =
      let timed : Bool = list_any has_time (catalog_of (whole_catalog files)).relations in
      let n : (length bytes == 1472) ≡ false = not_equal (length bytes) 1472 (λ e. other (sym size ∙ e)) in
      ap (λ (b : List ℕ). if timed then 2 else version_of b) front_whole
      ∙ ap (λ (t : Bool). if timed then 2 else (if t then 1 else 2)) n ∙ either_way timed 2
    where
      not_equal : (a b : ℕ) → (a ≡ b → ⊥) → (a == b) ≡ false
      not_equal a b differs = grind (arith, nat_tests, differs)

  -- of as many it is version 1, where no relation has a TIME
  pub front_one : f.upto ≡ 1472 → list_any has_time (catalog_of (whole_catalog files)).relations ≡ false → (mended_catalog files).version ≡ 1
  unfolding mended_catalog
  front_one e none =
      ap (λ (t : Bool). if t then 2 else version_of (whole_catalog files)) none ∙ ap version_of front_whole ∙ (first_form e).1

  pub front_mark : (half : Half) → (f.upto ≡ 1472 → ((mended_catalog files).version ≡ 1) ⊎ (IsTimed files × (half ≡ Nothing)))
      → (f.upto ≡ 1472) ⊎ ((f.upto ≡ 1480) ⊎ IsBehindSlot half) → HasMark files half
  front_mark half one there = ⊎_elim
      (λ (low : f.upto < 1473).
      let first : f.upto ≡ 1472 = omega (arith, low, f.some) in
      ⊎_elim (λ (v : (mended_catalog files).version ≡ 1). inl ((first_form first).0, (first_form first).1 ∙ sym v)) (λ t. inr (inr t)) (one first))
      (λ (more : 1473 ≤ f.upto). ⊎_elim
      (λ (less : f.upto < 1480). inr (inl (in_part (omega (arith, more)) less, behind less more there)))
      (λ (whole_there : 1480 ≤ f.upto).
      let second : f.upto ≡ 1480 = omega (arith, whole_there, f.most) in
      inl ((second_form second).0, (second_form second).1 ∙ sym (front_two (λ e. absurd (omega (arith, second, e))))))
      (cases_lt f.upto 1480))
      (cases_lt f.upto 1473)
    where
      behind : f.upto < 1480 → 1473 ≤ f.upto → (f.upto ≡ 1472) ⊎ ((f.upto ≡ 1480) ⊎ IsBehindSlot half) → IsBehindSlot half
      behind less more (inl e) = absurd (omega (arith, e, more))
      behind less more (inr (inl e)) = absurd (omega (arith, e, less))
      behind less more (inr (inr b)) = b

-- ---- a slot that is written in part with what stood there

-- where the part and what is behind it are the slot, it is put
pub part_whole : (old slot : List ℕ) (at n : ℕ) → n ≤ length slot → at + length slot ≤ length old → take n slot ++ drop n (slice_range old at (at + length slot)) ≡ slot
    → put_at old at (take n slot) ≡ put_at old at slot
unfolding put_at
part_whole old slot at n few room same =
    let size : ℕ = length slot in
    let was : List ℕ = slice_range old at (at + size) in
    let rest : List ℕ = drop (at + size) old in
    let width : at + size - at ≡ size = omega arith in
    let behind : List ℕ = drop at old in
    let front : length (take at old) ≡ at = length-take-le at old (omega (arith, room)) in
    let parts : length (take at old) + length behind ≡ length old = sym (length-append (take at old) behind) ∙ ap length (take-append-drop at old) in
    let long : length was ≡ size = ap (λ (m : ℕ). length (take m behind)) width ∙ length-take-le size behind (omega (arith, front, parts, room)) in
    let whole : was ++ drop size behind ≡ behind = ap (λ (m : ℕ). take m behind ++ drop size behind) width ∙ take-append-drop size behind in
    let split : drop (at + n) old ≡ drop n was ++ rest =
    sym (drop-drop n at old) ∙ ap (drop n) (sym whole) ∙ drop-append-le n was (drop size behind) (omega (arith, long, few)) ∙ ap (λ (xs : List ℕ). drop n was ++ xs) (drop-drop size at old) in
    ap (λ (m : ℕ). (take at old ++ take n slot) ++ drop (at + m) old) (length-take-le n slot few)
    ∙ ap (λ (xs : List ℕ). (take at old ++ take n slot) ++ xs) split
    ∙ sym (append_assoc (take at old ++ take n slot) (drop n was) rest)
    ∙ ap (λ (xs : List ℕ). xs ++ rest) (append_assoc (take at old) (take n slot) (drop n was) ∙ ap (λ (xs : List ℕ). take at old ++ xs) same)

-- ---- what a change of a slot that broke off leaves

-- all of the slot, and at least a front of the mark behind the slots
pub record IsWhole (old : List ℕ) (at : ℕ) (slot now : List ℕ) : Type 0 where
  pub front : IsFrontOf now (with_slot old at slot)
  pub first : front.upto ≡ 1472 → (length old ≡ 0) ⊎ (length old ≡ 1472)
  pub later : length old ≡ 1480 → front.upto ≡ 1480

-- a part of the slot
pub record IsPart (old : List ℕ) (at : ℕ) (slot now : List ℕ) : Type 0 where
  pub done : ℕ
  pub some : 0 < done
  pub less : done < length slot
  pub ends : (at + done) % 128 ≡ 0
  pub long : 1472 ≤ length old
  pub is : now ≡ put_at old at (take done slot)

-- the first bytes of the first catalog
pub record IsShort (old : List ℕ) (at : ℕ) (slot now : List ℕ) : Type 0 where
  pub done : ℕ
  pub none : length old ≡ 0
  pub few : done < 1472
  pub is : now ≡ take done (with_slot old at slot)

abbrev pub IsCutIn : (old : List ℕ) (at : ℕ) (slot now : List ℕ) → Type 0
IsCutIn old at slot now = (now ≡ old) ⊎ (IsWhole old at slot now ⊎ (IsPart old at slot now ⊎ IsShort old at slot now))

module _ (old : List ℕ) (at : ℕ) (slot : List ℕ) (size : IsCatalogSize (length old)) (inside : at + length slot ≤ 1472) (long : length (with_slot old at slot) ≡ 1480) (written : IsWritten (with_slot old at slot)) where
  -- a slot that is put into a catalog that was not empty
  pub put_whole : 1472 ≤ length old → IsWhole old at slot (put_at old at slot)
  put_whole some = by_size size
    where
      by_size : IsCatalogSize (length old) → IsWhole old at slot (put_at old at slot)
      by_size (inl none) = absurd (omega (arith, none, some))
      by_size (inr (inl first)) =
          let room : at + length slot ≤ length old = omega (arith, first, inside) in
          let grown : with_slot old at slot ≡ put_at old at slot ++ version_mark = slot_put old (old ++ version_mark) slot at (rw first refl) ∙ put_at-append old version_mark slot at room in
          let same : length (put_at old at slot) ≡ 1472 = length-put_at old slot at room ∙ first in
          record {
            front = record { upto = 1472; some = omega arith; most = omega arith; is = sym (take_at (put_at old at slot) version_mark 1472 same) ∙ ap (take 1472) (sym grown); long = long; written = written };
            first = λ e. inr first;
            later = λ e. absurd (omega (arith, e, first));
          }
      by_size (inr (inr second)) =
          let put : with_slot old at slot ≡ put_at old at slot = slot_put old old slot at (rw second refl) in
          record {
            front = record { upto = 1480; some = omega arith; most = omega arith; is = sym put ∙ sym (take_all 1480 (with_slot old at slot) (omega (arith, long))); long = long; written = written };
            first = λ e. absurd (omega (arith, e));
            later = λ e. refl;
          }

  pub cut_in : (now : List ℕ) → ReplacesFront old at slot now → IsCutIn old at slot now
  cut_in now (inl f) = ⊎_elim
      (λ (less : f.done < 1472). inr (inr (inr (record {
        done = f.done;
        none = ⊎_elim (λ (e : length old ≡ 0). e) (λ (p : (length old ≡ 1472) × (1472 ≤ f.done)). absurd (omega (arith, less, p.1))) f.first;
        few = less;
        is = f.is;
      }))))
      (λ (past : 1472 ≤ f.done). inr (inl (⊎_elim
      (λ (less : f.done < 1480). record {
        front = record { upto = f.done; some = past; most = omega (arith, less); is = f.is; long = long; written = written };
        first = λ e. begun f.first;
        later = λ e. absurd (never e f.first);
      })
      (λ (more : 1480 ≤ f.done). record {
        front = record {
          upto = 1480;
          some = omega arith;
          most = omega arith;
          is = f.is ∙ take_all f.done (with_slot old at slot) (omega (arith, long, more)) ∙ sym (take_all 1480 (with_slot old at slot) (omega (arith, long)));
          long = long;
          written = written;
        };
        first = λ e. absurd (omega (arith, e));
        later = λ e. refl;
      })
      (cases_lt f.done 1480))))
      (cases_lt f.done 1472)
    where
      begun : {n : ℕ} → (length old ≡ 0) ⊎ ((length old ≡ 1472) × (1472 ≤ n)) → (length old ≡ 0) ⊎ (length old ≡ 1472)
      begun (inl e) = inl e
      begun (inr p) = inr p.0

      never : {n : ℕ} → length old ≡ 1480 → (length old ≡ 0) ⊎ ((length old ≡ 1472) × (1472 ≤ n)) → ⊥
      never e (inl none) = omega (arith, e, none)
      never e (inr p) = omega (arith, e, p.0)
  cut_in now (inr f) = by_part f.whole
    where
      nothing : f.done ≡ 0 → now ≡ old
      nothing none = f.is ∙ ap (λ (n : ℕ). put_at old at (take n slot)) none ∙ put_at_nothing old at

      all_there : f.done ≡ length slot → IsCutIn old at slot now
      all_there all =
          inr (inl (subst (IsWhole old at slot) (sym (f.is ∙ ap (λ (xs : List ℕ). put_at old at xs) (take_all f.done slot (omega (arith, all))))) (put_whole f.some)))

      by_part : (f.done ≡ 0) ⊎ ((f.done ≡ length slot) ⊎ ((at + f.done) % 128 ≡ 0)) → IsCutIn old at slot now
      by_part (inl none) = inl (nothing none)
      by_part (inr (inl all)) = all_there all
      by_part (inr (inr ends)) = ⊎_elim
          (λ (few : f.done < 1). inl (nothing (omega (arith, few))))
          (λ (some : 1 ≤ f.done). ⊎_elim
          (λ (less : f.done < length slot). inr (inr (inl (record { done = f.done; some = omega (arith, some); less = less; ends = ends; long = f.some; is = f.is }))))
          (λ (more : length slot ≤ f.done). all_there (omega (arith, more, f.within)))
          (cases_lt f.done (length slot)))
          (cases_lt f.done 1)

-- ---- what the first bytes are read as

module _ (now whole : List ℕ) (f : IsFrontOf now whole) where
  now_whole : whole_bytes now ≡ now
  now_whole = let n = front_size now whole f in whole_long now (omega (arith, n, f.some))

  all_whole : whole_bytes whole ≡ whole
  all_whole = whole_long whole (omega (arith, f.long))

  pub front_reads : (k : ℕ) → k < 8 → relation_at (whole_bytes now) k ≡ relation_at (whole_bytes whole) k
  front_reads k below =
      ap (λ (b : List ℕ). relation_at b k) now_whole ∙ ap relation_slot_of (front_range now whole f (176 * k) (176 * k + 176) (omega arith) (omega (arith, below)))
      ∙ ap (λ (b : List ℕ). relation_at b k) (sym all_whole)

  pub front_reads_index : (i : ℕ) → i < 8 → index_at (whole_bytes now) i ≡ index_at (whole_bytes whole) i
  front_reads_index i below =
      ap (λ (b : List ℕ). index_at b i) now_whole ∙ ap index_slot_of (front_range now whole f (1408 + 8 * i) (1408 + 8 * i + 8) (omega arith) (omega (arith, below)))
      ∙ ap (λ (b : List ℕ). index_at b i) (sym all_whole)

  -- as the slots of the whole
  pub front_relations : (old : List ℕ) (k : ℕ) (o : Option Schema) → ReadsRelation old whole k o → k < 8 → ReadsRelation old now k o
  front_relations old k o r below = record {
    here = front_reads k below ∙ r.here;
    relations = λ j inside differs. front_reads j inside ∙ r.relations j inside differs;
    indexes = λ i inside. front_reads_index i inside ∙ r.indexes i inside;
  }

  pub front_indexes : (old : List ℕ) (i : ℕ) (o : Option Index) → ReadsIndex old whole i o → i < 8 → ReadsIndex old now i o
  front_indexes old i o r below = record {
    here = front_reads_index i below ∙ r.here;
    relations = λ j inside. front_reads j inside ∙ r.relations j inside;
    indexes = λ j inside differs. front_reads_index j inside ∙ r.indexes j inside differs;
  }
