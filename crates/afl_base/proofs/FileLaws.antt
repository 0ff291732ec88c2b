-- What it means for the table of files that one place of it is set, and what follows from a change.
use Rattle.std.proofs.Common.{◌≡◌, ◌≢◌, ℕ, zero, suc, ◌+◌, ◌<◌, ◌≤◌, true, List, [], ◌∷◌, length, replicate, set, Option, Some, None, IsTrue, refl, sym, ap, ◌∙◌, subst, arith}
use Rattle.std.specs.Prelude.{option_map, is_some, unwrap_or}
use Rattle.std.proofs.Math.ListN.{get_or-eq_default}
use Rattle.std.proofs.lemmas.List.{get_or-replicate, get_or-set_same, get_or-set_other, length-replicate}
use Rattle.std.proofs.lemmas.Bool.{cases_eq, cases_lt}
use Rattle.std.proofs.Math.Logic.{⊎_elim}
use Rattle.afl_base.specs.declared.kind.Kind.{Kind}
use Rattle.afl_base.specs.declared.kind.Kind.TheVariants.{Doubling}
use Rattle.afl_base.specs.Places.{AreTaken}
use Rattle.afl_base.specs.Files.{Becomes, Commits, Creates, File, IsLive, IsNamed, IsUnnamed, OthersStay, Removes, State, Table, AreDistinct, draft_in, file_at, name_at, new_file, no_file, place, used}

-- a file that stands under an id
pub live_here : (files : Table) (id : ℕ) (f : File) → place files id ≡ Some f → IsLive files id
live_here files id f here = rw here refl

pub file_here : (files : Table) (id : ℕ) (f : File) → place files id ≡ Some f → file_at files id ≡ f
file_here files id f here = rw here refl

-- the place of a live file
some_or : (o : Option File) → is_some o ≡ true → o ≡ Some (unwrap_or o no_file)
some_or None live = absurd (cc)
some_or (Some f) live = refl

pub place_live : (files : Table) (id : ℕ) → IsLive files id → place files id ≡ Some (file_at files id)
place_live files id live = some_or (place files id) live

-- an id has the name of the file under it
pub named_here : (files : Table) (id : ℕ) (f : File) → place files id ≡ Some f → name_at files id ≡ Some f.name
named_here files id f here = rw here refl

-- the other places are as they were
pub others_set : (files : Table) (id : ℕ) (o : Option File) → OthersStay files (set files id o) id
others_set files id o k other = get_or-set_other files id k o None other

-- a file in the place of another: none more
pub used_same : (files : Table) (id : ℕ) (f g : File) → place files id ≡ Some f → used (set files id (Some g)) ≡ used files
used_same [] id f g here = refl
used_same (None ∷ files) zero f g here = absurd (cc)
used_same (Some e ∷ files) zero f g here = refl
used_same (None ∷ files) (suc id) f g here = used_same files id f g here
used_same (Some e ∷ files) (suc id) f g here = ap (λ (n : ℕ). n + 1) (used_same files id f g here)

-- a file in a free place: one more
pub used_more : (files : Table) (id : ℕ) (g : File) → id < length files → place files id ≡ None → used (set files id (Some g)) ≡ used files + 1
used_more [] id g inside here = absurd (omega arith)
used_more (None ∷ files) zero g inside here = refl
used_more (Some e ∷ files) zero g inside here = absurd (cc)
used_more (None ∷ files) (suc id) g inside here = used_more files id g (omega arith) here
used_more (Some e ∷ files) (suc id) g inside here = ap (λ (n : ℕ). n + 1) (used_more files id g (omega arith) here)

-- a file taken away: one less
pub used_less : (files : Table) (id : ℕ) (f : File) → place files id ≡ Some f → used (set files id None) + 1 ≡ used files
used_less [] id f here = absurd (cc)
used_less (None ∷ files) zero f here = absurd (cc)
used_less (Some e ∷ files) zero f here = refl
used_less (None ∷ files) (suc id) f here = used_less files id f here
used_less (Some e ∷ files) (suc id) f here = ap (λ (n : ℕ). n + 1) (used_less files id f here)

-- a name that no file had, and that the file set has not, no file has
pub unnamed_set : (files : Table) (id : ℕ) (o : Option File) (n : List ℕ) → id < length files → option_map (λ (f : File). f.name) o ≢ Some n →
    IsUnnamed files n → IsUnnamed (set files id o) n
unnamed_set files id o n inside other none k named =
    ⊎_elim
    (λ (here : k ≡ id). other (sym (ap (option_map (λ (f : File). f.name)) (ap (λ (j : ℕ). place (set files id o) j) here ∙ get_or-set_same files id o None inside)) ∙ named))
    (λ (there : k ≢ id). none k (sym (ap (option_map (λ (f : File). f.name)) (get_or-set_other files id k o None there)) ∙ named))
    (cases_eq k id)

-- a file has other bytes or room, under the same name and kind
pub set_becomes : (old new : State) (id : ℕ) (f g : File) (total : ℕ) (told : List ℕ) → id < length old.files → place old.files id ≡ Some f →
    new.files ≡ set old.files id (Some g) → g.name ≡ f.name → g.kind ≡ f.kind → length g.bytes ≡ total →
    (IsTrue old.tells → g.bytes ≡ told) → new.draft ≡ old.draft → new.tells ≡ old.tells → Becomes old new id total told
set_becomes old new id f g total told inside was is name kind size bytes draft tells =
    let here : place new.files id ≡ Some g = ap (λ (t : Table). place t id) is ∙ get_or-set_same old.files id (Some g) None inside in
    let old_file : file_at old.files id ≡ f = file_here old.files id f was in
    let new_file_ : file_at new.files id ≡ g = file_here new.files id g here in
    record {
      live = live_here new.files id g here;
      name = ap (λ (e : File). e.name) new_file_ ∙ name ∙ sym (ap (λ (e : File). e.name) old_file);
      kind = ap (λ (e : File). e.kind) new_file_ ∙ kind ∙ sym (ap (λ (e : File). e.kind) old_file);
      size = ap (λ (e : File). length e.bytes) new_file_ ∙ size;
      bytes = λ told_here. ap (λ (e : File). e.bytes) new_file_ ∙ bytes told_here;
      others = λ k other. ap (λ (t : Table). place t k) is ∙ others_set old.files id (Some g) k other;
      names = λ n none. subst (λ (t : Table). IsUnnamed t n) (sym is) (unnamed_set old.files id (Some g) n inside (λ same. none id (named_here old.files id f was ∙ ap (λ (m : List ℕ). Some m) (sym name) ∙ same)) none);
      used = ap used is ∙ used_same old.files id f g was;
      draft = draft;
      tells = tells;
    }

-- a new file in the lowest free place
pub set_creates : (old new : State) (id : ℕ) (name : List ℕ) (kind : Kind) → id < length old.files → place old.files id ≡ None →
    ((k : ℕ) → k < id → IsLive old.files k) → new.files ≡ set old.files id (Some (new_file name kind)) → new.draft ≡ old.draft → new.tells ≡ old.tells → Creates old new id name kind
set_creates old new id name kind inside free lowest is draft tells =
    let o : Option File = Some (new_file name kind) in
    record {
      free = free;
      lowest = lowest;
      file = ap (λ (t : Table). place t id) is ∙ get_or-set_same old.files id o None inside;
      others = λ k other. ap (λ (t : Table). place t k) is ∙ others_set old.files id o k other;
      names = λ n differs none. subst (λ (t : Table). IsUnnamed t n) (sym is) (unnamed_set old.files id o n inside (λ same. let eq : name ≡ n = cc in differs (sym eq)) none);
      used = ap used is ∙ used_more old.files id (new_file name kind) inside free;
      draft = draft;
      tells = tells;
    }

-- an id has no name where no file is
none_named : (n : List ℕ) → option_map (λ (f : File). f.name) None ≢ Some n
none_named n same = cc

-- a place is empty now, and no other had its file's name
pub set_removes : (old new : State) (id : ℕ) (f : File) → id < length old.files → place old.files id ≡ Some f →
    ((k : ℕ) → IsNamed old.files k f.name → k ≡ id) → new.files ≡ set old.files id None → new.draft ≡ old.draft → new.tells ≡ old.tells → Removes old new id
set_removes old new id f inside was only is draft tells =
    let gone : place (set old.files id None) id ≡ None = get_or-set_same old.files id None None inside in
    record {
      gone = ap (λ (t : Table). place t id) is ∙ gone;
      others = λ k other. ap (λ (t : Table). place t k) is ∙ others_set old.files id None k other;
      unnamed = λ k named.
          let found : name_at (set old.files id None) k ≡ Some f.name = ap (λ (t : Table). name_at t k) (sym is) ∙ named ∙ ap (λ (e : File). Some e.name) (file_here old.files id f was) in
          ⊎_elim
          (λ (here : k ≡ id). none_named f.name (sym (ap (option_map (λ (e : File). e.name)) gone) ∙ ap (λ (j : ℕ). name_at (set old.files id None) j) (sym here) ∙ found))
          (λ (there : k ≢ id). there (only k (sym (ap (option_map (λ (e : File). e.name)) (get_or-set_other old.files id k None None there)) ∙ found)))
          (cases_eq k id);
      names = λ n none. subst (λ (t : Table). IsUnnamed t n) (sym is) (unnamed_set old.files id None n inside (none_named n) none);
      used = ap (λ (t : Table). used t + 1) is ∙ used_less old.files id f was;
      draft = draft;
      tells = tells;
    }

-- what the file of a committed draft is
pub record IsCommitted (old : State) (g : File) : Type 0 where
  pub name : g.name ≡ (draft_in old).name
  pub kind : g.kind ≡ Doubling
  pub size : length g.bytes ≡ length (draft_in old).bytes
  pub bytes : IsTrue old.tells → g.bytes ≡ (draft_in old).bytes
  pub records : g.records ≡ 0
  pub room : g.room ≡ 0

-- all of a commit but what the place held before
commits : (old new : State) (id : ℕ) (g : File) → id < length old.files → IsCommitted old g → new.files ≡ set old.files id (Some g) →
    ((k : ℕ) → IsNamed old.files k (draft_in old).name → id ≡ k) → (IsUnnamed old.files (draft_in old).name → place old.files id ≡ None) →
    (IsUnnamed old.files (draft_in old).name → (k : ℕ) → k < id → IsLive old.files k) →
    ((k : ℕ) → IsNamed old.files k (draft_in old).name → used new.files ≡ used old.files) →
    (IsUnnamed old.files (draft_in old).name → used new.files ≡ used old.files + 1) →
    new.draft ≡ None → new.tells ≡ old.tells → Commits old new id
commits old new id g inside made is kept free lowest replaced added draft tells =
    let here : place new.files id ≡ Some g = ap (λ (t : Table). place t id) is ∙ get_or-set_same old.files id (Some g) None inside in
    let file : file_at new.files id ≡ g = file_here new.files id g here in
    record {
      live = live_here new.files id g here;
      name = ap (λ (e : File). e.name) file ∙ made.name;
      kind = ap (λ (e : File). e.kind) file ∙ made.kind;
      size = ap (λ (e : File). length e.bytes) file ∙ made.size;
      bytes = λ told. ap (λ (e : File). e.bytes) file ∙ made.bytes told;
      records = ap (λ (e : File). e.records) file ∙ made.records;
      room = ap (λ (e : File). e.room) file ∙ made.room;
      kept = kept;
      free = free;
      lowest = lowest;
      others = λ k other. ap (λ (t : Table). place t k) is ∙ others_set old.files id (Some g) k other;
      names = λ n differs none. subst (λ (t : Table). IsUnnamed t n) (sym is) (unnamed_set old.files id (Some g) n inside (λ same. let eq : g.name ≡ n = cc in differs (sym eq ∙ made.name)) none);
      replaced = replaced;
      added = added;
      draft = draft;
      tells = tells;
    }

-- the draft in the place of the file that has its name
pub set_replaces : (old new : State) (id : ℕ) (f g : File) → id < length old.files → place old.files id ≡ Some f → f.name ≡ (draft_in old).name →
    ((k : ℕ) → IsNamed old.files k f.name → k ≡ id) → IsCommitted old g → new.files ≡ set old.files id (Some g) →
    new.draft ≡ None → new.tells ≡ old.tells → Commits old new id
set_replaces old new id f g inside was named only made is draft tells =
    let had : IsNamed old.files id (draft_in old).name = named_here old.files id f was ∙ ap (λ (n : List ℕ). Some n) named in
    commits old new id g inside made is
    (λ k h. sym (only k (h ∙ ap (λ (n : List ℕ). Some n) (sym named))))
    (λ none. absurd (none id had))
    (λ none. absurd (none id had))
    (λ k h. ap used is ∙ used_same old.files id f g was)
    (λ none. absurd (none id had))
    draft tells

-- the draft in the lowest free place, where no file has its name
pub set_adds : (old new : State) (id : ℕ) (g : File) → id < length old.files → place old.files id ≡ None → ((k : ℕ) → k < id → IsLive old.files k) → IsUnnamed old.files (draft_in old).name →
    IsCommitted old g → new.files ≡ set old.files id (Some g) → new.draft ≡ None → new.tells ≡ old.tells → Commits old new id
set_adds old new id g inside free lowest none made is draft tells =
    commits old new id g inside made is
    (λ k h. absurd (none k h))
    (λ _. free)
    (λ _. lowest)
    (λ k h. absurd (none k h))
    (λ _. ap used is ∙ used_more old.files id g inside free)
    draft tells

-- two changes of one file are one
pub becomes_then : (a b c : State) (id m n : ℕ) (first last : List ℕ) → Becomes a b id m first → Becomes b c id n last → Becomes a c id n last
becomes_then a b c id m n first last x y = record {
  live = y.live;
  name = y.name ∙ x.name;
  kind = y.kind ∙ x.kind;
  size = y.size;
  bytes = λ told. y.bytes (x.tells ∙ told);
  others = λ k other. y.others k other ∙ x.others k other;
  names = λ n none. y.names n (x.names n none);
  used = y.used ∙ x.used;
  draft = y.draft ∙ x.draft;
  tells = y.tells ∙ x.tells;
}

-- names after a place is set
pub name_at_here : (files : Table) (id : ℕ) (o : Option File) → id < length files → name_at (set files id o) id ≡ option_map (λ (f : File). f.name) o
name_at_here files id o inside = ap (option_map (λ (f : File). f.name)) (get_or-set_same files id o None inside)

pub name_at_there : (files : Table) (id k : ℕ) (o : Option File) → k ≢ id → name_at (set files id o) k ≡ name_at files k
name_at_there files id k o other = ap (option_map (λ (f : File). f.name)) (get_or-set_other files id k o None other)

-- names stay distinct where a place is set to what has a name that no other place has
pub distinct_set : (files : Table) (id : ℕ) (o : Option File) → id < length files → AreDistinct files →
    ((n : List ℕ) → option_map (λ (f : File). f.name) o ≡ Some n → (k : ℕ) → IsNamed files k n → k ≡ id) → AreDistinct (set files id o)
distinct_set files id o inside distinct only i j n first second =
    let at_id : (k : ℕ) → k ≡ id → IsNamed (set files id o) k n → option_map (λ (f : File). f.name) o ≡ Some n =
    λ k here named. sym (name_at_here files id o inside) ∙ ap (λ (m : ℕ). name_at (set files id o) m) (sym here) ∙ named in
    let elsewhere : (k : ℕ) → k ≢ id → IsNamed (set files id o) k n → IsNamed files k n =
    λ k there named. sym (name_at_there files id k o there) ∙ named in
    ⊎_elim
    (λ (i_here : i ≡ id).
    ⊎_elim
    (λ (j_here : j ≡ id). i_here ∙ sym j_here)
    (λ (j_there : j ≢ id). i_here ∙ sym (only n (at_id i i_here first) j (elsewhere j j_there second)))
    (cases_eq j id))
    (λ (i_there : i ≢ id).
    ⊎_elim
    (λ (j_here : j ≡ id). only n (at_id j j_here second) i (elsewhere i i_there first) ∙ sym j_here)
    (λ (j_there : j ≢ id). distinct i j n (elsewhere i i_there first) (elsewhere j j_there second))
    (cases_eq j id))
    (cases_eq i id)

-- a file in the place of one of its name
pub distinct_same : (files : Table) (id : ℕ) (f g : File) → id < length files → AreDistinct files → place files id ≡ Some f → g.name ≡ f.name → AreDistinct (set files id (Some g))
distinct_same files id f g inside distinct was name =
    distinct_set files id (Some g) inside distinct (λ n is k named. distinct k id n named (named_here files id f was ∙ ap (λ (m : List ℕ). Some m) (sym name) ∙ is))

-- a file of a name that no file had
pub distinct_new : (files : Table) (id : ℕ) (g : File) → id < length files → AreDistinct files → IsUnnamed files g.name → AreDistinct (set files id (Some g))
distinct_new files id g inside distinct none =
    distinct_set files id (Some g) inside distinct (λ n is k named. absurd (none k (named ∙ sym is)))

-- where every place holds a file, as many are used as there are places
pub used_all : (files : Table) → ((k : ℕ) → k < length files → IsLive files k) → used files ≡ length files
used_all [] live = refl
used_all (None ∷ files) live = let first : IsLive (None ∷ files) 0 = live 0 (omega arith) in absurd (cc)
used_all (Some f ∷ files) live = let rest = used_all files (λ k below. live (suc k) (omega arith)) in omega (arith, rest)

-- where fewer than 32 files are live, one of the 32 places is free
pub some_free : (files : Table) → length files ≡ 32 → used files < 32 → AreTaken files 32 → ⊥
some_free files places few taken =
    let all : used files ≡ length files = used_all files (λ k inside. taken k (omega arith)) in
    omega arith

-- a table of no files
pub free_everywhere : (n k : ℕ) → place (replicate n None) k ≡ None
free_everywhere n k =
    ⊎_elim
    (λ (inside : k < n). get_or-replicate n k None None inside)
    (λ (past : n ≤ k). get_or-eq_default (replicate n None) None (omega (arith, length-replicate {A = Option File} n None)))
    (cases_lt k n)

pub distinct_none : (n : ℕ) → AreDistinct (replicate n None)
distinct_none n i j name first second =
    absurd (none_named name (sym (ap (option_map (λ (f : File). f.name)) (free_everywhere n i)) ∙ first))

-- who has a name after a change had it before, or is the one that the change names
pub names_stay : (old new : State) (id total : ℕ) (told : List ℕ) → IsLive old.files id → Becomes old new id total told → (k : ℕ) → name_at new.files k ≡ name_at old.files k
names_stay old new id total told was b k =
    ⊎_elim
    (λ (here : k ≡ id).
    ap (name_at new.files) here ∙ named_here new.files id (file_at new.files id) (place_live new.files id b.live) ∙ ap (λ (n : List ℕ). Some n) b.name
    ∙ sym (named_here old.files id (file_at old.files id) (place_live old.files id was)) ∙ sym (ap (name_at old.files) here))
    (λ (there : k ≢ id). ap (option_map (λ (f : File). f.name)) (b.others k there))
    (cases_eq k id)

-- an id that has a name holds a file
some_named : (o : Option File) (n : List ℕ) → option_map (λ (f : File). f.name) o ≡ Some n → is_some o ≡ true
some_named None n named = absurd (none_named n named)
some_named (Some f) n named = refl

pub named_live : (files : Table) (id : ℕ) (n : List ℕ) → IsNamed files id n → IsLive files id
named_live files id n named = some_named (place files id) n named

-- a file has one name
pub one_name : (files : Table) (k : ℕ) (a b : List ℕ) → IsNamed files k a → IsNamed files k b → a ≡ b
one_name files k a b e f = let g : Some a ≡ Some b = sym e ∙ f in cc
