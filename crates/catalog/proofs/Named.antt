-- What `find` answers is the file of the name.
use Rattle.std.proofs.Common.{◌≡◌, ℕ, zero, suc, Bool, true, false, List, [], ◌∷◌, refl, sym, ap, ◌∙◌, arith, Option, Some, None}
use Rattle.std.specs.Prelude.{IfNone, IfSome, is_some, option_map}
use Rattle.std.specs.Str.{bytes_eq}
use Rattle.std.proofs.lemmas.Slice.Eq.{bytes_eq-Decides}
use Rattle.afl_base.specs.Files.{File, IsNamed, IsUnnamed, Table, place}
use Rattle.space_model.specs.FileNames.{file_named, is_there}
use Rattle.padded.proofs.Facts.{bytes_eq_same, some_same}

other_name : (m n : List ℕ) → (m ≡ n → ⊥) → bytes_eq m n ≡ false
other_name m n differs = test (bytes_eq m n) (λ e. differs ((bytes_eq-Decides m n).0 e))
  where
    test : (b : Bool) → (b ≡ true → ⊥) → b ≡ false
    test true h = absurd (h refl)
    test false h = refl

pub named_found : (files : Table) (id : ℕ) (name : List ℕ) → IsNamed files id name → ((k : ℕ) → IsNamed files k name → k ≡ id) → file_named name files ≡ place files id
named_found [] id name is only = absurd (cc)
named_found (None ∷ files) zero name is only = absurd (cc)
named_found (None ∷ files) (suc id) name is only = named_found files id name is (λ k h. let e : suc k ≡ suc id = only (suc k) h in omega (arith, e))
named_found (Some f ∷ files) zero name is only = rw (bytes_eq_same f.name name (some_same f.name name is)) refl
named_found (Some f ∷ files) (suc id) name is only =
    let differs : f.name ≡ name → ⊥ = λ e. let h : zero ≡ suc id = only zero (ap (λ n. Some n) e) in absurd (omega (arith, h)) in
    rw (other_name f.name name differs) (named_found files id name is (λ k h. let e : suc k ≡ suc id = only (suc k) h in omega (arith, e)))

pub named_none : (files : Table) (name : List ℕ) → IsUnnamed files name → file_named name files ≡ None
named_none [] name none = refl
named_none (None ∷ files) name none = named_none files name (λ k h. none (suc k) h)
named_none (Some f ∷ files) name none = rw (other_name f.name name (λ e. none zero (ap (λ n. Some n) e))) (named_none files name (λ k h. none (suc k) h))

-- whether `find` answers a file says whether there is one
pub found_there : (files : Table) (name : List ℕ) (found : Option ℕ) → IfSome found (λ id. IsNamed files id name) → IfSome found (λ id. (k : ℕ) → IsNamed files k name → k ≡ id) → IfNone found (IsUnnamed files name) → is_some found ≡ is_there name files
found_there files name None found only none = ap is_some (sym (named_none files name none))
found_there files name (Some id) found only none = sym (ap is_some (named_found files id name found only) ∙ some_file (place files id) name found)
  where
    some_file : (o : Option File) (name : List ℕ) → option_map (λ (f : File). f.name) o ≡ Some name → is_some o ≡ true
    some_file None name e = absurd (cc)
    some_file (Some f) name e = refl
