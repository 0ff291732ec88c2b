-- What a call leaves that was cut off or found no space, of files that a cut can have left.
use Rattle.std.proofs.Common.{◌≡◌, ◌≢◌, ⊎_elim, ℕ, List, Ok, Err, Some, None, IsTrue, refl, ap, sym, subst, ◌∙◌}
use Rattle.std.specs.Prelude.{IsErrAnd, IsErrOf, Result, unwrap_or}
use Rattle.std.proofs.lemmas.Bool.{cases_eq}
use Rattle.afl_base.specs.CutFiles.{MendsToEither, MendsToState}
use Rattle.afl_base.specs.FileErrors.{OnSpace, UnlessFailed}
use Rattle.afl_base.specs.Files.{File, IsLive, KeepsBytes, State, Table, bytes_at, file_at, name_at, no_file, place, size_at}
use Rattle.afl_base.specs.declared.kind.FileError.{FileError}
use Rattle.afl_base.specs.declared.kind.FileError.TheVariants.{Failed, Space}
use Rattle.afl_base.proofs.FileLaws.{names_stay, place_live}
use Rattle.db_model.specs.Database.{Database}
use Rattle.padded.proofs.Facts.{err_is, some_same}
use Rattle.space_model.specs.FileNames.{bytes_named, catalog_file, rows_file, tree_file}
use Rattle.stored.specs.CutTables.{IsCutTable}
use Rattle.stored.specs.Mended.{mended_base}
use Rattle.stored.specs.Mends.{MendsToDatabase}
use Rattle.stored.specs.Same.{HasLike}
use Rattle.stored.proofs.MendedTables.{mended_same}
use Rattle.stored.proofs.NamesStay.{bytes_stay, there_stays}
use Rattle.stored.proofs.SameCut.{same_cut}
use Rattle.stored_mend.specs.Interrupted.{IsCutState}

-- ---- errors that are handed on

-- a call failed as the last one did
pub failed_as : (A T : Type 0) (e : FileError) (result : Result T FileError) → result ≡ Err e → IsErrOf result Failed → IsErrOf {T = A} (Err e) Failed
failed_as A T (Space need) result is failed = let no : ◌≡◌ {A = Result T FileError} (Err (Space need)) (Err Failed) = sym is ∙ failed in absurd (cc)
failed_as A T Failed result is failed = refl

-- no call failed that did not
pub not_failed : (T : Type 0) (x : T) (P : Type 0) → IsErrOf (Ok x) Failed → P
not_failed T x P failed = let no : ◌≡◌ {A = Result T FileError} (Ok x) (Err Failed) = failed in absurd (cc)

-- pages are lacking as they were for the last one
pub space_as : (A T : Type 0) (e : FileError) (result : Result T FileError) → result ≡ Err e → (P Q : ℕ → Type 0) → ((need : ℕ) → P need → Q need) → OnSpace {T = A} (Err e) P → OnSpace result Q
space_as A T e result is P Q follows lacks = subst (λ (r : Result T FileError). OnSpace r Q) (sym is) (by_error e lacks)
  where
    by_error : (f : FileError) → OnSpace {T = A} (Err f) P → OnSpace {T = T} (Err f) Q
    by_error (Space need) p = follows need p
    by_error Failed p = tt

-- nor one that found no space
pub space_no_failure : {T : Type 0} (need : ℕ) (P : Type 0) → IsErrOf {T = T} (Err (Space need)) Failed → P
space_no_failure {T = T} need P h = let no : ◌≡◌ {A = Result T FileError} (Err (Space need)) (Err Failed) = h in absurd (cc)

-- it is Failed where that was
pub failed_handed : {T U : Type 0} (r : Result T FileError) (q : Result U FileError) (e : FileError) → r ≡ Err e → IsErrAnd q (λ y. y ≡ e) → IsErrOf q Failed → IsErrOf r Failed
failed_handed {T = T} {U = U} r q e was is failed = was ∙ failed_as T U e q (err_is q e is) failed

-- and what is so where there was no space
pub space_handed : {T U : Type 0} (r : Result T FileError) (q : Result U FileError) (e : FileError) (P Q : Type 0) → r ≡ Err e → IsErrAnd q (λ y. y ≡ e) → (P → Q) → OnSpace r (λ _. P) → OnSpace q (λ _. Q)
space_handed {T = T} {U = U} r q e P Q was is follows h =
    space_as T U e q (err_is q e is) (λ _. P) (λ _. Q) (λ need. follows) (subst (λ (z : Result T FileError). OnSpace z (λ _. P)) was h)

-- what follows where the answer is that of the last call
pub on_space : {T : Type 0} (P Q : Type 0) (r : Result T FileError) → (P → Q) → OnSpace r (λ _. P) → OnSpace r (λ _. Q)
on_space P Q (Ok x) follows p = tt
on_space P Q (Err (Space need)) follows p = follows p
on_space P Q (Err Failed) follows p = tt

-- where there was no space it did not fail
pub space_unless : {T : Type 0} (P : Type 0) (r : Result T FileError) → UnlessFailed r P → OnSpace r (λ _. P)
space_unless P (Ok x) p = tt
space_unless P (Err (Space need)) p = p
space_unless P (Err Failed) p = tt

-- and where it failed nothing is said of space
pub space_not : {T : Type 0} (P : Type 0) (r : Result T FileError) → IsErrAnd r (λ y. y ≡ Failed) → OnSpace r (λ _. P)
space_not P (Ok x) e = absurd e
space_not P (Err (Space need)) e = absurd (let n : ⊥ = cc in n)
space_not P (Err Failed) e = tt

-- ---- room was made

-- no file has changed but in its room
module _ (old new : State) (id : ℕ) (live : IsLive old.files id) (told : IsTrue old.tells) (k : KeepsBytes old new id) where
  same_names : (j : ℕ) → name_at new.files j ≡ name_at old.files j
  same_names = names_stay old new id (size_at old.files id) (bytes_at old.files id) live k

  same_bytes : (j : ℕ) → bytes_at new.files j ≡ bytes_at old.files j
  same_bytes j = ⊎_elim
      (λ (same : j ≡ id). ap (bytes_at new.files) same ∙ k.bytes told ∙ ap (bytes_at old.files) (sym same))
      (λ (differs : j ≢ id). ap (λ o. (unwrap_or o no_file).bytes) (k.others j differs))
      (cases_eq j id)

  found_same : (name : List ℕ) → bytes_named name new.files ≡ bytes_named name old.files
  found_same name = bytes_stay old.files new.files name same_names (λ j named. same_bytes j)

  like : (j : ℕ) (f : File) → place new.files j ≡ Some f → HasLike old.files f
  like j f is = ⊎_elim
      (λ (same : j ≡ id).
      let here : file_at new.files id ≡ f = some_same (file_at new.files id) f (sym (place_live new.files id k.live) ∙ ap (place new.files) (sym same) ∙ is) in
      record {
        id = id;
        file = file_at old.files id;
        there = place_live old.files id live;
        name = sym k.name ∙ ap (λ (x : File). x.name) here;
        kind = sym k.kind ∙ ap (λ (x : File). x.kind) here;
        bytes = sym (k.bytes told) ∙ ap (λ (x : File). x.bytes) here;
      })
      (λ (differs : j ≢ id). record { id = j; file = f; there = sym (k.others j differs) ∙ is; name = refl; kind = refl; bytes = refl })
      (cases_eq j id)

  pub room_cut : IsCutTable old.files → IsCutTable new.files
  room_cut =
      same_cut old.files new.files
      (record { there = λ name. there_stays old.files new.files name same_names; bytes = found_same; only = like })

  pub room_base : mended_base new.files ≡ mended_base old.files
  room_base =
      mended_same old.files new.files
      (record { catalog = found_same catalog_file; rows = λ j below used. found_same (rows_file j); trees = λ i below tree. there_stays old.files new.files (tree_file i) same_names })

  -- and there was no space for more
  pub room_left : (Is : Database → Type 0) → old.draft ≡ None → IsCutTable old.files → Is (mended_base old.files) → IsCutState new Is
  room_left Is idle cut is = record { tells = k.tells ∙ told; idle = k.draft ∙ idle; cut = room_cut cut; is = subst Is (sym room_base) is }

-- ---- what is mended

-- files that a cut can have left, which mend to a database that is so
pub record IsLeft (files : Table) (Is : Database → Type 0) : Type 0 where
  pub cut : IsCutTable files
  pub is : Is (mended_base files)

-- it mends to the files that there were
pub left_before : {mends : List ℕ → Table → Type 0} {store : List ℕ} {Is : Database → Type 0} (files : Table) → IsLeft files Is → mends store files → MendsToDatabase mends store Is
left_before files l m = record { files = files; mends_to = m; cut = l.cut; is = l.is }

-- a call only read
pub left_read : {S : Type 0} {mends : List ℕ → Table → Type 0} {Is : Database → Type 0} (state : S → State) (old new : S) → state new ≡ state old → IsLeft (state old).files Is
    → mends (state old).store (state old).files → MendsToDatabase mends (state new).store Is
left_read {mends = mends} {Is = Is} state old new same l m = subst (λ (s : State). MendsToDatabase mends s.store Is) (sym same) (left_before (state old).files l m)

-- or to files that it might have made
pub left_after : {mends : List ℕ → Table → Type 0} {store : List ℕ} {P : State → Type 0} {Is : Database → Type 0} → MendsToState mends store P → ((s : State) → P s → IsLeft s.files Is) → MendsToDatabase mends store Is
left_after m each = left_before m.after.files (each m.after m.is) m.mends_to

-- one of both
pub left_either : {mends : List ℕ → Table → Type 0} {store : List ℕ} {P : State → Type 0} {Is : Database → Type 0} (files : Table) → IsLeft files Is → ((s : State) → P s → IsLeft s.files Is)
    → MendsToEither mends files store P → MendsToDatabase mends store Is
left_either files l each m = ⊎_elim (λ before. left_before files l before) (λ after. left_after after each) m

-- ---- what was left behind other calls

pub left_as : {mends : List ℕ → Table → Type 0} {store : List ℕ} {P Q : Database → Type 0} → MendsToDatabase mends store P → ((db : Database) → P db → Q db) → MendsToDatabase mends store Q
left_as m follows = record { files = m.files; mends_to = m.mends_to; cut = m.cut; is = follows (mended_base m.files) m.is }

pub state_as : {P Q : Database → Type 0} (s : State) → ((db : Database) → P db → Q db) → IsCutState s P → IsCutState s Q
state_as s follows c = record { tells = c.tells; idle = c.idle; cut = c.cut; is = follows (mended_base s.files) c.is }
