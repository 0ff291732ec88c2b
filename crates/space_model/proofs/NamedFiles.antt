-- A file is found by its name where names are distinct, and what is asked of it by its id is asked by its name.
use Rattle.std.proofs.Common.{◌≡◌, ℕ, ℤ, zero, suc, ◌*◌, ◌≤◌, ⊎_elim, ◌⊎◌, Bool, true, false, List, [], ◌∷◌, length, max, Option, Some, None, if◌then◌else◌, refl, ap, sym, subst, ◌∙◌, arith}
use Rattle.std.specs.Prelude.{is_some, option_map, unwrap_or}
use Rattle.std.specs.Str.{bytes_eq}
use Rattle.std.proofs.lemmas.Slice.Eq.{bytes_eq-Decides}
use Rattle.afl_base.specs.Files.{AreDistinct, File, IsLive, IsNamed, Table, file_at, no_file, place, size_at}
use Rattle.afl_base.specs.Fit.{fit}
use Rattle.space_model.specs.FileNames.{asks_in, catalog_file, file_named, size_in}
use Rattle.space_model.specs.Wants.{AsksFew, AsksLittle, IsGrowing, IsOfSixPages}

pub distinct_behind : (o : Option File) (files : Table) → AreDistinct (o ∷ files) → AreDistinct files
distinct_behind o files d i j name a b = let e = d (suc i) (suc j) name a b in omega (arith, e)

-- the file under an id is the one of its name
pub named_here : (files : Table) (id : ℕ) (f : File) → AreDistinct files → place files id ≡ Some f → file_named f.name files ≡ Some f
named_here [] id f d e = cc
named_here (None ∷ files) zero f d e = cc
named_here (None ∷ files) (suc id) f d e = named_here files id f (distinct_behind None files d) e
named_here (Some g ∷ files) zero f d e =
    let same : g ≡ f = ap (λ o. unwrap_or o g) e in
    let here : bytes_eq g.name f.name ≡ true = (bytes_eq-Decides g.name f.name).1 (ap (λ x. x.name) same) in
    rw here e
named_here (Some g ∷ files) (suc id) f d e = by_test (bytes_eq g.name f.name) refl (named_here files id f (distinct_behind (Some g) files d) e)
  where
    other : bytes_eq g.name f.name ≡ true → ⊥
    other t =
        let first : zero ≡ suc id = d zero (suc id) f.name (ap (λ n. Some n) ((bytes_eq-Decides g.name f.name).0 t)) (ap (option_map (λ (x : File). x.name)) e) in
        absurd (omega (arith, first))

    by_test : (b : Bool) → bytes_eq g.name f.name ≡ b → file_named f.name files ≡ Some f → (if b then Some g else file_named f.name files) ≡ Some f
    by_test true t rest = absurd (other t)
    by_test false t rest = rest

-- a file that is found by its name stands in a place
pub named_place : (files : Table) (name : List ℕ) (f : File) → file_named name files ≡ Some f → (id : ℕ) × (place files id ≡ Some f) × (f.name ≡ name)
named_place [] name f e = cc
named_place (None ∷ files) name f e = let r = named_place files name f e in (suc r.0, r.1, r.2)
named_place (Some g ∷ files) name f e = by_test (bytes_eq g.name name) refl (λ h. named_place files name f h) e
  where
    by_test : (b : Bool) → bytes_eq g.name name ≡ b → (file_named name files ≡ Some f → (id : ℕ) × (place files id ≡ Some f) × (f.name ≡ name))
        → (if b then Some g else file_named name files) ≡ Some f → (id : ℕ) × (place (Some g ∷ files) id ≡ Some f) × (f.name ≡ name)
    by_test true t rest e = let same : g ≡ f = ap (λ o. unwrap_or o g) e in (zero, e, ap (λ (x : File). x.name) (sym same) ∙ (bytes_eq-Decides g.name name).0 t)
    by_test false t rest e = let r = rest e in (suc r.0, r.1, r.2)

-- the file under an id that has a name
pub record IsAt (files : Table) (id : ℕ) (name : List ℕ) : Type 0 where
  pub there : place files id ≡ Some (file_at files id)
  pub name_is : (file_at files id).name ≡ name
  pub live : IsLive files id

pub at_name : (files : Table) (id : ℕ) (name : List ℕ) → IsNamed files id name → IsAt files id name
at_name files id name e = by_place (place files id) refl e
  where
    by_place : (o : Option File) → place files id ≡ o → option_map (λ (f : File). f.name) o ≡ Some name → IsAt files id name
    by_place None p e = cc
    by_place (Some f) p e = record {
      there = p ∙ ap (λ o. Some (unwrap_or o no_file)) (sym p);
      name_is = ap (λ o. (unwrap_or o no_file).name) p ∙ ap (λ o. unwrap_or o name) e;
      live = ap is_some p;
    }

-- the file of a name, by its id
pub named_found : (files : Table) (id : ℕ) (name : List ℕ) → AreDistinct files → IsNamed files id name → file_named name files ≡ Some (file_at files id)
named_found files id name d e =
    let at = at_name files id name e in
    ap (λ n. file_named n files) (sym at.name_is) ∙ named_here files id (file_at files id) d at.there

pub size_found : (files : Table) (id : ℕ) (name : List ℕ) → AreDistinct files → IsNamed files id name → size_in files name ≡ Some (size_at files id)
size_found files id name d e = ap (option_map (λ (f : File). length f.bytes)) (named_found files id name d e)

-- ---- what is asked

pub few_by_name : (files : Table) (asks : ℕ → ℕ → ℕ → ℕ → Type 0) (room : ℕ → ℤ → ℕ × ℕ) → AreDistinct files
    → ((id : ℕ) → IsLive files id → IsGrowing files id ⊎ IsOfSixPages files id)
    → ((id : ℕ) → IsNamed files id catalog_file → IsOfSixPages files id)
    → ((slot : ℕ) (key : ℤ) → (room slot key).1 ≤ 4096) → AsksLittle files asks → AsksFew (size_in files) (asks_in asks files) room
few_by_name files asks room d kinds catalog bucket little = record {
  bucket = bucket;
  few = λ name w b need size small most is h.
      let at = at_name files h.0 name h.1 in
      let same : size ≡ size_at files h.0 = ap (λ o. unwrap_or o size) (sym is ∙ size_found files h.0 name d h.1) in
      let most_at : size_at files h.0 ≤ 4194304 = omega (arith, most, same) in
      ⊎_elim
      (λ (k : IsGrowing files h.0).
      let bound = little.growing h.0 w b need at.live k small most_at h.2 in
      subst (λ n. need ≤ max 16 (2 * fit n)) (sym same) bound)
      (λ (k : IsOfSixPages files h.0). let bound = little.fixed h.0 w b need at.live k h.2 in omega (arith, bound))
      (kinds h.0 at.live);
  catalog = λ w b need h. little.fixed h.0 w b need (at_name files h.0 catalog_file h.1).live (catalog h.0 h.1) h.2;
}
