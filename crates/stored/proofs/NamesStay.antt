-- Files that are found by their names, where no name has come, gone or moved.
use Rattle.std.proofs.Common.{◌≡◌, ℕ, zero, suc, Bool, true, false, List, [], ◌∷◌, Some, None, if◌then◌else◌, refl, ap}
use Rattle.std.specs.Prelude.{is_some}
use Rattle.std.specs.Str.{bytes_eq}
use Rattle.std.proofs.lemmas.Slice.Eq.{bytes_eq-Decides}
use Rattle.afl_base.specs.Files.{File, IsNamed, Table, bytes_at, name_at, place}
use Rattle.space_model.specs.FileNames.{bytes_in_file, bytes_named, file_named, is_there}

-- a name that is another's does not become this one
same_test : (a b n : List ℕ) → a ≡ b → bytes_eq a n ≡ bytes_eq b n
same_test a b n e = ap (λ (x : List ℕ). bytes_eq x n) e

some_name : (f g : File) → Some g.name ≡ Some f.name → g.name ≡ f.name
some_name f g e = cc

-- a file that is the same at its place is found the same
pub file_stays : (old new : Table) (n : List ℕ) → ((k : ℕ) → name_at new k ≡ name_at old k) → ((k : ℕ) → IsNamed old k n → place new k ≡ place old k) → file_named n new ≡ file_named n old
file_stays [] [] n names same = refl
file_stays [] (None ∷ new) n names same = file_stays [] new n (λ k. names (suc k)) (λ k h. same (suc k) h)
file_stays [] (Some g ∷ new) n names same = let e : Some g.name ≡ None = names zero in absurd (cc)
file_stays (None ∷ old) [] n names same = file_stays old [] n (λ k. names (suc k)) (λ k h. same (suc k) h)
file_stays (Some f ∷ old) [] n names same = let e : None ≡ Some f.name = names zero in absurd (cc)
file_stays (None ∷ old) (None ∷ new) n names same = file_stays old new n (λ k. names (suc k)) (λ k h. same (suc k) h)
file_stays (None ∷ old) (Some g ∷ new) n names same = let e : Some g.name ≡ None = names zero in absurd (cc)
file_stays (Some f ∷ old) (None ∷ new) n names same = let e : None ≡ Some f.name = names zero in absurd (cc)
file_stays (Some f ∷ old) (Some g ∷ new) n names same =
    rw (same_test g.name f.name n (some_name f g (names zero)))
    (by_test (bytes_eq f.name n) refl (file_stays old new n (λ k. names (suc k)) (λ k h. same (suc k) h)))
  where
    by_test : (b : Bool) → bytes_eq f.name n ≡ b → file_named n new ≡ file_named n old → (if b then Some g else file_named n new) ≡ (if b then Some f else file_named n old)
    by_test true t rest = same zero (ap (λ (x : List ℕ). Some x) ((bytes_eq-Decides f.name n).0 t))
    by_test false t rest = rest

-- a file is there as before
pub there_stays : (old new : Table) (n : List ℕ) → ((k : ℕ) → name_at new k ≡ name_at old k) → is_there n new ≡ is_there n old
there_stays [] [] n names = refl
there_stays [] (None ∷ new) n names = there_stays [] new n (λ k. names (suc k))
there_stays [] (Some g ∷ new) n names = let e : Some g.name ≡ None = names zero in absurd (cc)
there_stays (None ∷ old) [] n names = there_stays old [] n (λ k. names (suc k))
there_stays (Some f ∷ old) [] n names = let e : None ≡ Some f.name = names zero in absurd (cc)
there_stays (None ∷ old) (None ∷ new) n names = there_stays old new n (λ k. names (suc k))
there_stays (None ∷ old) (Some g ∷ new) n names = let e : Some g.name ≡ None = names zero in absurd (cc)
there_stays (Some f ∷ old) (None ∷ new) n names = let e : None ≡ Some f.name = names zero in absurd (cc)
there_stays (Some f ∷ old) (Some g ∷ new) n names =
    rw (same_test g.name f.name n (some_name f g (names zero)))
    (by_test (bytes_eq f.name n) (there_stays old new n (λ k. names (suc k))))
  where
    by_test : (b : Bool) → is_there n new ≡ is_there n old → is_some (if b then Some g else file_named n new) ≡ is_some (if b then Some f else file_named n old)
    by_test true rest = refl
    by_test false rest = rest

-- bytes that are the same at their places are the same by their name
pub bytes_stay : (old new : Table) (n : List ℕ) → ((k : ℕ) → name_at new k ≡ name_at old k) → ((k : ℕ) → IsNamed old k n → bytes_at new k ≡ bytes_at old k) → bytes_named n new ≡ bytes_named n old
bytes_stay [] [] n names same = refl
bytes_stay [] (None ∷ new) n names same = bytes_stay [] new n (λ k. names (suc k)) (λ k h. same (suc k) h)
bytes_stay [] (Some g ∷ new) n names same = let e : Some g.name ≡ None = names zero in absurd (cc)
bytes_stay (None ∷ old) [] n names same = bytes_stay old [] n (λ k. names (suc k)) (λ k h. same (suc k) h)
bytes_stay (Some f ∷ old) [] n names same = let e : None ≡ Some f.name = names zero in absurd (cc)
bytes_stay (None ∷ old) (None ∷ new) n names same = bytes_stay old new n (λ k. names (suc k)) (λ k h. same (suc k) h)
bytes_stay (None ∷ old) (Some g ∷ new) n names same = let e : Some g.name ≡ None = names zero in absurd (cc)
bytes_stay (Some f ∷ old) (None ∷ new) n names same = let e : None ≡ Some f.name = names zero in absurd (cc)
bytes_stay (Some f ∷ old) (Some g ∷ new) n names same =
    rw (same_test g.name f.name n (some_name f g (names zero)))
    (by_test (bytes_eq f.name n) refl (bytes_stay old new n (λ k. names (suc k)) (λ k h. same (suc k) h)))
  where
    by_test : (b : Bool) → bytes_eq f.name n ≡ b → bytes_named n new ≡ bytes_named n old → bytes_in_file (if b then Some g else file_named n new) ≡ bytes_in_file (if b then Some f else file_named n old)
    by_test true t rest = same zero (ap (λ (x : List ℕ). Some x) ((bytes_eq-Decides f.name n).0 t))
    by_test false t rest = rest
