-- Commands that change the catalog, and at most one other file beside it, leave all other files.
use Rattle.std.proofs.Common.{◌≡◌, ◌≢◌, ℕ, List, Option, Some, None, true, refl, ap, sym, ◌∙◌, subst}
use Rattle.std.proofs.Math.Logic.{⊎_elim}
use Rattle.std.proofs.lemmas.Bool.{cases_eq}
use Rattle.afl_base.specs.Files.{AreDistinct, Becomes, Commits, Creates, File, IsNamed, IsUnnamed, Removes, State, Table, draft_in, file_at, name_at, new_file, place}
use Rattle.afl_base.specs.declared.kind.Kind.{Kind}
use Rattle.afl_base.specs.declared.kind.Kind.TheVariants.{Doubling, Fixed}
use Rattle.afl_base.proofs.FileLaws.{named_here, named_live, place_live}
use Rattle.afl_base.proofs.FrameLaws.{becomes_spares}
use Rattle.catalog.specs.Rules.{is_of_database}
use Rattle.space_model.specs.FileNames.{catalog_file}
use Rattle.session_model.specs.Frames.{LeavesOthers}
use Rattle.session_model.specs.Running.{AreOfDatabase}
use Rattle.session_model.proofs.Running.{distinct_spared, known_spared}
use Rattle.padded.proofs.Facts.{some_same, none_some}

-- the names that a file has are one
one_name : (files : Table) (i j : ℕ) (n m : List ℕ) → i ≡ j → IsNamed files i n → IsNamed files j m → n ≡ m
one_name files i j n m e a b = some_same n m (sym a ∙ ap (name_at files) e ∙ b)

-- no file here: no name
free_name : (files : Table) (id : ℕ) (n : List ℕ) → place files id ≡ None → IsNamed files id n → ⊥
free_name files id n free is = none_some n (sym (ap (λ (o : Option File). name_of o) free) ∙ is)
  where
    name_of : Option File → Option (List ℕ)
    name_of None = None
    name_of (Some f) = Some f.name

pub leaves_same : (a b : State) (name : List ℕ) → b.files ≡ a.files → b.tells ≡ a.tells → LeavesOthers a b name
leaves_same a b name files tells = record {
  others = λ id n is x y. ap (λ (t : Table). place t id) files;
  unnamed = λ n x y none. subst (λ (t : Table). IsUnnamed t n) (sym files) none;
  distinct = λ d. subst AreDistinct (sym files) d;
  known = λ k. subst AreOfDatabase (sym files) k;
  tells = tells;
}

pub leaves_then : (a b c : State) (name : List ℕ) → LeavesOthers a b name → LeavesOthers b c name → LeavesOthers a c name
leaves_then a b c name f g = record {
  others = λ id n is x y. let e = f.others id n is x y in
      g.others id n (ap (λ (o : Option File). name_of o) e ∙ is) x y ∙ e;
  unnamed = λ n x y none. g.unnamed n x y (f.unnamed n x y none);
  distinct = λ d. g.distinct (f.distinct d);
  known = λ k. g.known (f.known k);
  tells = g.tells ∙ f.tells;
}
  where
    name_of : Option File → Option (List ℕ)
    name_of None = None
    name_of (Some f) = Some f.name

-- the catalog is changed
pub leaves_becomes : (a b : State) (cat total : ℕ) (told name : List ℕ) → IsNamed a.files cat catalog_file → Becomes a b cat total told → LeavesOthers a b name
leaves_becomes a b cat total told name named u =
    let f = becomes_spares a b cat total told (named_live a.files cat catalog_file named) u in
    record {
      others = λ id n is x y. u.others id (λ e. x (one_name a.files id cat n catalog_file e is named));
      unnamed = λ n x y none. u.names n none;
      distinct = distinct_spared a b _ f;
      known = known_spared a b _ f;
      tells = u.tells;
    }

-- a file of a name that none had
known_new : (a b : State) (id : ℕ) (f : File) → place b.files id ≡ Some f → is_of_database f.name f.kind ≡ true → ((k : ℕ) → k ≢ id → place b.files k ≡ place a.files k)
    → AreOfDatabase a.files → AreOfDatabase b.files
known_new a b id f here is others known k g there =
    ⊎_elim
    (λ same. let e : g ≡ f = some_same g f (sym there ∙ ap (place b.files) same ∙ here) in subst (λ (x : File). is_of_database x.name x.kind ≡ true) (sym e) is)
    (λ other. known k g (sym (others k other) ∙ there))
    (cases_eq k id)

named_by : (a b : Table) (k : ℕ) (n : List ℕ) → place b k ≡ place a k → IsNamed b k n → IsNamed a k n
named_by a b k n e is = ap (λ (o : Option File). name_of o) (sym e) ∙ is
  where
    name_of : Option File → Option (List ℕ)
    name_of None = None
    name_of (Some f) = Some f.name

distinct_new : (a b : State) (id : ℕ) (name : List ℕ) → IsNamed b.files id name → IsUnnamed a.files name → ((k : ℕ) → k ≢ id → place b.files k ≡ place a.files k)
    → AreDistinct a.files → AreDistinct b.files
distinct_new a b id name here none others d i j n x y =
    ⊎_elim
    (λ si. ⊎_elim
    (λ sj. si ∙ sym sj)
    (λ oj. absurd (none j (subst (λ (m : List ℕ). IsNamed a.files j m) (one_name b.files i id n name si x here) (named_by a.files b.files j n (others j oj) y))))
    (cases_eq j id))
    (λ oi. ⊎_elim
    (λ sj. absurd (none i (subst (λ (m : List ℕ). IsNamed a.files i m) (one_name b.files j id n name sj y here) (named_by a.files b.files i n (others i oi) x))))
    (λ oj. d i j n (named_by a.files b.files i n (others i oi) x) (named_by a.files b.files j n (others j oj) y))
    (cases_eq j id))
    (cases_eq i id)

pub leaves_creates : (a b : State) (id : ℕ) (name : List ℕ) (kind : Kind) → IsUnnamed a.files name → is_of_database name kind ≡ true → Creates a b id name kind → LeavesOthers a b name
leaves_creates a b id name kind none is u = record {
  others = λ k n named x y. u.others k (λ e. free_name a.files id n u.free (subst (λ (j : ℕ). IsNamed a.files j n) e named));
  unnamed = λ n x y missing. u.names n y missing;
  distinct = distinct_new a b id name (named_here b.files id (new_file name kind) u.file) none u.others;
  known = known_new a b id (new_file name kind) u.file is u.others;
  tells = u.tells;
}

-- the catalog is made
pub leaves_catalog : (a b : State) (id : ℕ) (name : List ℕ) → IsUnnamed a.files catalog_file → Creates a b id catalog_file (Fixed 6) → LeavesOthers a b name
leaves_catalog a b id name none u = record {
  others = λ k n named x y. u.others k (λ e. free_name a.files id n u.free (subst (λ (j : ℕ). IsNamed a.files j n) e named));
  unnamed = λ n x y missing. u.names n x missing;
  distinct = distinct_new a b id catalog_file (named_here b.files id (new_file catalog_file (Fixed 6)) u.file) none u.others;
  known = known_new a b id (new_file catalog_file (Fixed 6)) u.file refl u.others;
  tells = u.tells;
}

-- a draft of the name has become its file, where there was none
pub leaves_commits : (a b : State) (id : ℕ) (name : List ℕ) → (draft_in a).name ≡ name → IsUnnamed a.files name → is_of_database name Doubling ≡ true → Commits a b id → LeavesOthers a b name
leaves_commits a b id name given none is u =
    let missing : IsUnnamed a.files (draft_in a).name = subst (λ (n : List ℕ). IsUnnamed a.files n) (sym given) none in
    let there = place_live b.files id u.live in
    let named : IsNamed b.files id name = named_here b.files id (file_at b.files id) there ∙ ap (λ (n : List ℕ). Some n) (u.name ∙ given) in
    record {
      others = λ k n was x y. u.others k (λ e. free_name a.files id n (u.free missing) (subst (λ (j : ℕ). IsNamed a.files j n) e was));
      unnamed = λ n x y gone. u.names n (λ e. y (e ∙ given)) gone;
      distinct = distinct_new a b id name named none u.others;
      known = known_new a b id (file_at b.files id) there
          (ap (λ (n : List ℕ). is_of_database n (file_at b.files id).kind) (u.name ∙ given) ∙ ap (is_of_database name) u.kind ∙ is) u.others;
      tells = u.tells;
    }

-- the file of the name is gone
pub leaves_removes : (a b : State) (id : ℕ) (name : List ℕ) → IsNamed a.files id name → Removes a b id → LeavesOthers a b name
leaves_removes a b id name named u = record {
  others = λ k n was x y. u.others k (λ e. y (one_name a.files k id n name e was named));
  unnamed = λ n x y missing. u.names n missing;
  distinct = λ d i j n x y. d i j n (still i n x) (still j n y);
  known = λ known k f there. ⊎_elim
      (λ same. absurd (none_some f (sym u.gone ∙ ap (place b.files) (sym same) ∙ there)))
      (λ other. known k f (sym (u.others k other) ∙ there))
      (cases_eq k id);
  tells = u.tells;
}
  where
    still : (k : ℕ) (n : List ℕ) → IsNamed b.files k n → IsNamed a.files k n
    still k n is = ⊎_elim
        (λ same. absurd (free_name b.files id n u.gone (subst (λ (j : ℕ). IsNamed b.files j n) same is)))
        (λ other. named_by a.files b.files k n (u.others k other) is)
        (cases_eq k id)
