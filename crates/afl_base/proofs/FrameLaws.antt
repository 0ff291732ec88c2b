-- What stays where some files change, or where room is made in them, call after call.
use Rattle.std.proofs.Common.{◌≡◌, ◌≢◌, ℕ, IsTrue, List, length, Option, Some, unwrap_or, refl, ap, sym, ◌∙◌}
use Rattle.std.proofs.Math.Logic.{⊎_elim}
use Rattle.std.proofs.lemmas.Bool.{cases_eq}
use Rattle.afl_base.specs.Files.{Becomes, File, IsLive, IsUnnamed, KeepsBytes, State, Table, bytes_at, file_at, name_at, no_file, size_at}
use Rattle.afl_base.specs.Frames.{Prepares, SparesOthers}
use Rattle.afl_base.proofs.FileLaws.{named_here, named_live, names_stay, place_live}

-- ---- one file

-- the same bytes, said otherwise
pub becomes_as : (a b : State) (id m n : ℕ) (xs ys : List ℕ) → Becomes a b id m xs → m ≡ n → (IsTrue a.tells → xs ≡ ys) → Becomes a b id n ys
becomes_as a b id m n xs ys was size is = record {
  live = was.live;
  name = was.name;
  kind = was.kind;
  size = was.size ∙ size;
  bytes = λ told. was.bytes told ∙ is told;
  others = was.others;
  names = was.names;
  used = was.used;
  draft = was.draft;
  tells = was.tells;
}

module _ (old new : State) (id total : ℕ) (told : List ℕ) (was : IsLive old.files id) (u : Becomes old new id total told) where
  -- what is so of the file and of each place that stays is so of all
  everywhere : {X : Type 0} (f : File → X) → f (file_at new.files id) ≡ f (file_at old.files id) → (k : ℕ) → f (file_at new.files k) ≡ f (file_at old.files k)
  everywhere f here k =
      ⊎_elim
      (λ same. ap (λ (j : ℕ). f (file_at new.files j)) same ∙ here ∙ ap (λ (j : ℕ). f (file_at old.files j)) (sym same))
      (λ other. ap (λ (o : Option File). f (unwrap_or o no_file)) (u.others k other))
      (cases_eq k id)

  pub becomes_spares : SparesOthers old new (λ k. k ≢ id)
  becomes_spares = record {
    others = u.others;
    named = names_stay old new id total told was u;
    kind = λ k h. everywhere (λ f. f.kind) u.kind k;
    used = u.used;
    draft = u.draft;
    tells = u.tells;
  }

  pub becomes_prepares : total ≡ size_at old.files id → told ≡ bytes_at old.files id → Prepares old new (λ k. k ≢ id)
  becomes_prepares size bytes = record {
    spares = becomes_spares;
    sizes = everywhere (λ f. length f.bytes) (u.size ∙ size);
    bytes = λ t k. everywhere (λ f. f.bytes) (u.bytes t ∙ bytes) k;
  }

-- room is made in one file
pub keeps_prepares : (old new : State) (id : ℕ) → IsLive old.files id → KeepsBytes old new id → Prepares old new (λ k. k ≢ id)
keeps_prepares old new id was k = becomes_prepares old new id (size_at old.files id) (bytes_at old.files id) was k refl refl

-- ---- names

module _ (old new : Table) (named : (k : ℕ) → name_at new k ≡ name_at old k) where
  -- a file that was live is live
  pub live_by_name : (k : ℕ) → IsLive old k → IsLive new k
  live_by_name k live =
      named_live new k (file_at old k).name (named k ∙ named_here old k (file_at old k) (place_live old k live))

  -- and has its name
  pub name_by_name : (k : ℕ) → IsLive old k → (file_at new k).name ≡ (file_at old k).name
  name_by_name k live =
      let e : Some (file_at new k).name ≡ Some (file_at old k).name =
      sym (named_here new k (file_at new k) (place_live new k (live_by_name k live))) ∙ named k
      ∙ named_here old k (file_at old k) (place_live old k live) in
      cc

  -- a name that no file had, none has
  pub unnamed_by_name : (n : List ℕ) → IsUnnamed old n → IsUnnamed new n
  unnamed_by_name n none k is = none k (sym (named k) ∙ is)

-- ---- one change after another

pub spares_then : (a b c : State) (P Q R : ℕ → Type 0) → SparesOthers a b P → SparesOthers b c Q → ((k : ℕ) → R k → P k × Q k) → SparesOthers a c R
spares_then a b c P Q R f g both = record {
  others = λ k r. g.others k ((both k r).1) ∙ f.others k ((both k r).0);
  named = λ k. g.named k ∙ f.named k;
  kind = λ k h. g.kind k (live_by_name a.files b.files f.named k h) ∙ f.kind k h;
  used = g.used ∙ f.used;
  draft = g.draft ∙ f.draft;
  tells = g.tells ∙ f.tells;
}

pub prepares_then : (a b c : State) (P Q R : ℕ → Type 0) → Prepares a b P → Prepares b c Q → ((k : ℕ) → R k → P k × Q k) → Prepares a c R
prepares_then a b c P Q R f g both = record {
  spares = spares_then a b c P Q R f.spares g.spares both;
  sizes = λ k. g.sizes k ∙ f.sizes k;
  bytes = λ t k. g.bytes (f.spares.tells ∙ t) k ∙ f.bytes t k;
}

-- nothing has changed
pub spares_same : (a : State) (P : ℕ → Type 0) → SparesOthers a a P
spares_same a P = record {
  others = λ k r. refl;
  named = λ k. refl;
  kind = λ k h. refl;
  used = refl;
  draft = refl;
  tells = refl;
}

pub prepares_same : (a : State) (P : ℕ → Type 0) → Prepares a a P
prepares_same a P = record { spares = spares_same a P; sizes = λ k. refl; bytes = λ t k. refl }

-- at fewer places it is so too
pub spares_fewer : (a b : State) (P Q : ℕ → Type 0) → SparesOthers a b P → ((k : ℕ) → Q k → P k) → SparesOthers a b Q
spares_fewer a b P Q f fewer = record {
  others = λ k q. f.others k (fewer k q);
  named = f.named;
  kind = f.kind;
  used = f.used;
  draft = f.draft;
  tells = f.tells;
}
