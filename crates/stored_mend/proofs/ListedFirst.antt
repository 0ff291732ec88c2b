-- The first steps over files that a cut left: a catalog that was being begun is gone, and the mark stands.
use Rattle.std.proofs.Common.{◌≡◌, ◌≢◌, ◌⊎◌, inl, inr, ⊎_elim, ℕ, ◌<◌, ◌≤◌, false, List, [], length, Option, ap, sym, subst, ◌∙◌, arith}
use Rattle.std.proofs.lemmas.Bool.{cases_eq}
use Rattle.std.proofs.lemmas.List.{nil_from_length}
use Rattle.afl_base.specs.Files.{File, IsNamed, IsUnnamed, Removes, State, Table, place, size_at}
use Rattle.afl_base.proofs.FileLaws.{named_live, place_live}
use Rattle.catalog.specs.Rules.{catalog_bytes_in, is_stranger}
use Rattle.catalog.proofs.Named.{named_found, named_none}
use Rattle.padded.proofs.Facts.{none_some}
use Rattle.space_model.specs.FileNames.{bytes_in_file, catalog_file}
use Rattle.stored.specs.CutTables.{IsBegun, IsBehindSlot, IsCutTable, IsHalfDone, IsMarkedInPart, IsTimed}
use Rattle.stored.specs.declared.half.Half.{Half}
use Rattle.stored.specs.declared.half.Half.TheVariants.{Nothing, Emptying, Growing, LoneRows, Treeless, LoneTree, AddingRow, AddingKey}
use Rattle.stored_mend.specs.Listed.{IsBeyond, IsListedTo, IsMarked, IsMarkedHalf, IsTakenBack, KeepsKnown, relations_below}
use Rattle.stored_mend.specs.Mending.{IsWholeCatalog}
use Rattle.stored_mend.proofs.CatalogKept.{catalog_before}
use Rattle.stored_mend.proofs.ListedFiles.{known_without}
use Rattle.stored_mend.proofs.ListedSteps.{half_of}
use Rattle.stored_mend.proofs.Replaced.{name_of}

-- ---- a catalog that was being begun

-- there is none, or it has all slots
pub taken_same : (files : Table) → IsCutTable files → (catalog_bytes_in files ≡ []) ⊎ (1472 ≤ length (catalog_bytes_in files)) → IsTakenBack files
taken_same files cut size = record {
  known = cut.known;
  left = ⊎_elim
      (λ (begun : IsBegun files). ⊎_elim
      (λ (none : catalog_bytes_in files ≡ []). inl (record { none = none; alone = begun.alone; gone = λ some. absurd (omega (arith, some)) }))
      (λ (long : 1472 ≤ length (catalog_bytes_in files)). absurd (let short = begun.short in omega (arith, short, long)))
      size)
      (λ (done : (half : Half) × IsHalfDone files half). inr done)
      cut.done;
}

pub unnamed_none : (files : Table) → IsUnnamed files catalog_file → catalog_bytes_in files ≡ []
unnamed_none files none = ap bytes_in_file (named_none files catalog_file none)

pub named_size : (files : Table) (cat : ℕ) → IsNamed files cat catalog_file → ((k : ℕ) → IsNamed files k catalog_file → k ≡ cat) → length (catalog_bytes_in files) ≡ size_at files cat
named_size files cat named only = ap (λ (o : Option File). length (bytes_in_file o)) (named_found files cat catalog_file named only ∙ place_live files cat (named_live files cat catalog_file named))

pub size_taken : (files : Table) (cat : ℕ) → IsNamed files cat catalog_file → ((k : ℕ) → IsNamed files k catalog_file → k ≡ cat) → (size_at files cat ≡ 0) ⊎ (1472 ≤ size_at files cat)
    → (catalog_bytes_in files ≡ []) ⊎ (1472 ≤ length (catalog_bytes_in files))
size_taken files cat named only size =
    let e = named_size files cat named only in
    ⊎_elim
    (λ (none : size_at files cat ≡ 0). inl (nil_from_length (catalog_bytes_in files) (e ∙ none)))
    (λ (long : 1472 ≤ size_at files cat). inr (omega (arith, e, long)))
    size

-- it is removed
pub taken_removed : (old new : State) (cat : ℕ) → IsNamed old.files cat catalog_file → ((k : ℕ) → IsNamed old.files k catalog_file → k ≡ cat) → size_at old.files cat < 1472 → Removes old new cat → IsCutTable old.files → IsTakenBack new.files
taken_removed old new cat named only short r cut =
    let e = named_size old.files cat named only in
    let unnamed : IsUnnamed new.files catalog_file = subst (IsUnnamed new.files) (name_of old.files cat catalog_file named) r.unnamed in
    record {
      known = known_without old new cat r cut.known;
      left = ⊎_elim
          (λ (begun : IsBegun old.files). inl (record {
            none = unnamed_none new.files unnamed;
            alone = λ id f is. ⊎_elim
                (λ (same : id ≡ cat). absurd (none_some f (sym (ap (place new.files) same ∙ r.gone) ∙ is)))
                (λ (differs : id ≢ cat). begun.alone id f (sym (r.others id differs) ∙ is))
                (cases_eq id cat);
            gone = λ some. absurd (omega (arith, some));
          }))
          (λ (done : (half : Half) × IsHalfDone old.files half). absurd (let long = done.1.whole in omega (arith, long, short, e)))
          cut.done;
    }

-- ---- the mark

ahead_first : (half : Half) → IsBeyond (relations_below 0) half
ahead_first Nothing = tt
ahead_first (Emptying slot) = omega arith
ahead_first (Growing slot) = omega arith
ahead_first (LoneRows slot) = omega arith
ahead_first (Treeless slot) = omega arith
ahead_first (LoneTree slot) = omega arith
ahead_first (AddingRow slot) = tt
ahead_first (AddingKey slot) = tt

-- a catalog of version 1 lacks it at most for a TIME
pub short_listed : (files : Table) (cat : ℕ) → IsWholeCatalog files cat → size_at files cat ≡ 1472 → IsTakenBack files → IsListedTo (relations_below 0) files
short_listed files cat w size t =
    let done = half_of files cat w t in
    let same = ap (λ (xs : List ℕ). length xs) (catalog_before files cat w) in
    record {
      known = t.known;
      left = inr (
        done.0,
        record {
          done = done.1;
          ahead = ahead_first done.0;
          mark = ⊎_elim
              (λ (marked : IsMarked files). inl marked)
              (λ rest. ⊎_elim
              (λ (part : IsMarkedInPart (catalog_bytes_in files) × IsBehindSlot done.0). absurd (let more = part.0.size in let some = part.0.some.0 in omega (arith, same, size, more, some)))
              (λ (timed : IsTimed files × (done.0 ≡ Nothing)). inr (timed.0, omega arith))
              rest)
              done.1.mark;
        },
      );
    }

pub marked_listed : (old new : Table) (half : Half) → ((id : ℕ) → is_stranger old id ≡ false) → KeepsKnown old new → IsMarkedHalf new half → IsListedTo (relations_below 0) new
marked_listed old new half known keeps m = record { known = λ id. keeps id ∙ known id; left = inr (half, record { done = m.done; ahead = ahead_first half; mark = inl m.marked }) }

-- where all of it is there
pub marked_already : (files : Table) (cat : ℕ) (half : Half) → IsWholeCatalog files cat → size_at files cat ≡ 1480 → IsHalfDone files half → IsMarkedHalf files half
marked_already files cat half w size h =
    let same = ap (λ (xs : List ℕ). length xs) (catalog_before files cat w) in
    record {
      done = h;
      marked = ⊎_elim
          (λ (marked : IsMarked files). marked)
          (λ rest. absurd (⊎_elim
          (λ (part : IsMarkedInPart (catalog_bytes_in files) × IsBehindSlot half). let more = part.0.size in let few = part.0.some.1 in omega (arith, same, size, more, few))
          (λ (timed : IsTimed files × (half ≡ Nothing)). let short = timed.0.short in omega (arith, same, size, short))
          rest))
          h.mark;
    }
