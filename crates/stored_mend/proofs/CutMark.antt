-- The mark of version 2 of which a write was cut off.
use Rattle.std.proofs.Common.{◌≡◌, ◌≢◌, inl, inr, ⊎_elim, ℕ, ◌+◌, ◌-◌, ◌==◌, List, ◌++◌, length, take, drop, if◌then◌else◌, IsTrue, ap, sym, subst, ◌∙◌, arith, length-append}
use Rattle.std.proofs.lemmas.Bool.{cases_eq}
use Rattle.std.proofs.lemmas.List.{length-drop, length-take-le, take_all}
use Rattle.afl_base.specs.CutFiles.{AppendsFront}
use Rattle.afl_base.specs.Files.{KeepsBytes, State, size_at}
use Rattle.afl_base.proofs.FileLaws.{named_live}
use Rattle.catalog.specs.Rules.{catalog_bytes_in}
use Rattle.db_model.specs.Catalog.{version_mark, version_of}
use Rattle.db_model.specs.Database.{Database}
use Rattle.space_model.specs.FileNames.{catalog_file}
use Rattle.stored.specs.CutTables.{HasMark, IsBegun, IsBehindSlot, IsCutTable, IsHalfDone, IsMarkedInPart, IsTimed}
use Rattle.stored.specs.Mended.{mended_base}
use Rattle.stored.specs.declared.half.Half.{Half}
use Rattle.stored.specs.declared.half.Half.TheVariants.{Nothing}
use Rattle.stored.proofs.MendedBase.{version_mended}
use Rattle.stored_mend.specs.Listed.{IsMarked}
use Rattle.stored_mend.specs.Mending.{IsWholeCatalog, WantsMark}
use Rattle.stored_mend.proofs.CatalogKept.{after, catalog_before, mark_grown, prepared_appends}
use Rattle.stored_mend.proofs.CutCalls.{IsLeft, room_base, room_cut}
use Rattle.stored_mend.proofs.CutFronts.{none_added}
use Rattle.stored_mend.proofs.HalfKept.{version_is}
use Rattle.stored_mend.proofs.IndexGone.{formed_size, stranger_same}
use Rattle.stored_mend.proofs.MarkListed.{IsMarkFront, front_of, marked_whole, marked_with}
use Rattle.stored_mend.proofs.PutOver.{drop_joined, take_both}

-- room was made before
pub front_behind : (a b c : State) (id : ℕ) (bytes : List ℕ) → KeepsBytes a b id → AppendsFront b c id bytes → AppendsFront a c id bytes
front_behind a b c id bytes k f = record { done = f.done; within = f.within; is = prepared_appends a b c id (take f.done bytes) k f.is }

module _ (old now : State) (cat : ℕ) (more : List ℕ) (w : IsWholeCatalog old.files cat) (told : IsTrue old.tells) (wants : WantsMark old) (is : more ≡ drop (size_at old.files cat - 1472) version_mark)
    (f : AppendsFront old now cat more) where
  module _ (some : f.done ≢ 0) (half : Half) (h : IsHalfDone old.files half) where
    abbrev was : List ℕ
    was = catalog_bytes_in old.files

    abbrev part : List ℕ
    part = take f.done more

    part_size : length part ≡ f.done
    part_size = length-take-le f.done more f.within

    base : mended_base now.files ≡ mended_base old.files
    base = (mark_grown old now cat part w f.is (λ e. let long = w.long in let few = part_size in absurd (some (omega (arith, e, few, long)))) wants).base told

    m : IsMarkFront was
    m = front_of old.files half h (wants told)

    rest : more ≡ drop m.n version_mark
    rest =
        let there : size_at old.files cat ≡ length was = ap (λ (xs : List ℕ). length xs) (sym (catalog_before old.files cat w)) in
        let size = m.size in
        let n_is : size_at old.files cat - 1472 ≡ m.n = omega (arith, there, size) in
        is ∙ ap (λ (k : ℕ). drop k version_mark) n_is

    more_size : length more ≡ 8 - m.n
    more_size = ap (λ (xs : List ℕ). length xs) rest ∙ length-drop m.n version_mark

    now_is : catalog_bytes_in now.files ≡ was ++ part
    now_is = after old now cat _ _ w f.is told ∙ ap (λ (xs : List ℕ). xs ++ part) (sym (catalog_before old.files cat w))

    now_size : length (catalog_bytes_in now.files) ≡ 1472 + (m.n + f.done)
    now_size = let size = m.size in let few = part_size in ap (λ (xs : List ℕ). length xs) now_is ∙ length-append was part ∙ omega (arith, size, few)

    behind : drop 1472 (catalog_bytes_in now.files) ≡ take (m.n + f.done) version_mark
    behind =
        let size = m.size in
        let past : 1472 - length was ≡ 0 = omega (arith, size) in
        ap (drop 1472) now_is
        ∙ drop_joined 1472 was part
        ∙ ap (λ (k : ℕ). drop 1472 was ++ drop k part) past
        ∙ ap (λ (xs : List ℕ). xs ++ part) m.front
        ∙ ap (λ (xs : List ℕ). take m.n version_mark ++ take f.done xs) rest
        ∙ take_both m.n f.done version_mark

    -- a version 1 that stands as it is has no mark to come
    under_way : IsBehindSlot half
    under_way = ⊎_elim
        (λ (marked : IsMarked old.files). ⊎_elim
        (λ (first : length was ≡ 1472).
        let second : version_of was ≡ 2 = marked.1 ∙ version_is old.files ∙ version_mended old.files ∙ wants told in
        let one : version_of was ≡ 1 = ap (λ (n : ℕ). if n == 1472 then 1 else 2) first in
        absurd (omega (arith, one, second)))
        (λ (all : length was ≡ 1480). absurd (some (let size = m.size in let many = more_size in let within = f.within in omega (arith, all, size, many, within))))
        (formed_size was marked.0 (λ none. let long = h.whole in omega (arith, long, none))))
        (λ other. ⊎_elim
        (λ (begun : IsMarkedInPart was × IsBehindSlot half). begun.1)
        (λ (timed : IsTimed old.files × (half ≡ Nothing)). subst IsBehindSlot (sym timed.1) tt)
        other)
        h.mark

    mark : HasMark now.files half
    mark = ⊎_elim
        (λ (all : m.n + f.done ≡ 8).
        let many = more_size in
        let whole : part ≡ drop (size_at old.files cat - 1472) version_mark = take_all f.done more (omega (arith, all, many)) ∙ is in
        inl (marked_whole old now cat part w told f.is base wants half h whole))
        (λ (less : m.n + f.done ≢ 8).
        let many = more_size in
        let within = f.within in
        let few = m.few in
        inr (inl (
          record { n = m.n + f.done; some = (omega (arith, some), omega (arith, less, many, within, few)); size = now_size; front = behind },
          under_way,
        )))
        (cases_eq (m.n + f.done) 8)

    half_left : IsHalfDone now.files half
    half_left = marked_with old now cat part w told f.is base wants half h mark

  -- what is left is such as a cut can have left, and mends to the same
  pub mark_left : IsCutTable old.files → IsLeft now.files (λ (db : Database). db ≡ mended_base old.files)
  mark_left cut = ⊎_elim
      (λ (none : f.done ≡ 0).
      let k = none_added old now cat more f none in
      let live = named_live old.files cat catalog_file w.named in
      record { cut = room_cut old now cat live told k cut; is = room_base old now cat live told k })
      (λ (some : f.done ≢ 0). ⊎_elim
      (λ (begun : IsBegun old.files).
      let short = begun.short in
      let size = ap (λ (xs : List ℕ). length xs) (catalog_before old.files cat w) in
      let long = w.long in
      absurd (omega (arith, short, size, long)))
      (λ (done : (half : Half) × IsHalfDone old.files half). record {
        cut = record {
          known = λ id. stranger_same old now cat _ _ (named_live old.files cat catalog_file w.named) f.is id ∙ cut.known id;
          done = inr (done.0, half_left some done.0 done.1);
        };
        is = base some done.0 done.1;
      })
      cut.done)
      (cases_eq f.done 0)
