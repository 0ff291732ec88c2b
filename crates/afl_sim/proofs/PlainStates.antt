-- Files in fixed arrays, from one call to the next.
use Rattle.std.proofs.Common.{◌≡◌, ◌≢◌, ℕ, ◌+◌, ◌*◌, ◌<◌, ◌≤◌, List, [], length, set, Option, Some, None, refl, sym, ap, ◌∙◌, subst, arith}
use Rattle.std.specs.Prelude.{IfSome, max, option_map}
use Rattle.std.proofs.lemmas.List.{length-set}
use Rattle.std.proofs.lemmas.Bool.{cases_eq}
use Rattle.std.proofs.Math.Logic.{⊎_elim}
use Rattle.afl_base.specs.declared.kind.Kind.{Kind}
use Rattle.afl_base.specs.declared.kind.Kind.TheVariants.{Doubling, Fixed}
use Rattle.afl_base.specs.Files.{AreDistinct, Becomes, Commits, Creates, Drafts, File, IsNamed, IsUnnamed, Removes, Table, bytes_at, name_at, new_file, place, used}
use Rattle.afl_base.specs.Fields.{put_at}
use Rattle.afl_base.specs.Fit.{fit}
use Rattle.afl_base.proofs.FieldLaws.{length-put_at}
use Rattle.afl_base.proofs.FitLaws.{fit_grows, is_fit}
use Rattle.afl_base.proofs.FileLaws.{IsCommitted, file_here, distinct_new, distinct_same, name_at_here, name_at_there, named_here, set_adds, set_becomes, set_creates, set_removes, set_replaces, used_same}
use Rattle.afl_base.specs.Places.{AreTaken}
use Rattle.afl_sim.specs.PlainFiles.{ArePlain, IsFresh, IsNewPlace, IsPlaceFor, plain_pages, plain_state}

-- no draft is seen where none is kept
pub none_kept : (draft : Option File) → (plain_state [] draft).draft ≡ None → draft ≡ None
none_kept None none = refl
none_kept (Some f) none = absurd (cc)

-- names are the same with a file in the place of one of its name
names_same : (files : Table) (id : ℕ) (f g : File) → id < length files → place files id ≡ Some f → g.name ≡ f.name →
    (k : ℕ) → name_at (set files id (Some g)) k ≡ name_at files k
names_same files id f g inside was name k =
    ⊎_elim
    (λ (here : k ≡ id).
    ap (name_at (set files id (Some g))) here ∙ name_at_here files id (Some g) inside ∙ ap (λ (n : List ℕ). Some n) name
    ∙ sym (named_here files id f was) ∙ ap (name_at files) (sym here))
    (λ (there : k ≢ id). name_at_there files id k (Some g) there)
    (cases_eq k id)

-- a file in the place of one of its name
pub plain_same : (n : ℕ) (files : Table) (draft : Option File) (id : ℕ) (f g : File) → ArePlain n files draft → id < 32 → place files id ≡ Some f →
    g.name ≡ f.name → ArePlain n (set files id (Some g)) draft
plain_same n files draft id f g plain inside was name =
    let within : id < length files = omega (arith, plain.places) in
    record {
      least = plain.least;
      most = plain.most;
      places = length-set files id (Some g) ∙ plain.places;
      distinct = distinct_same files id f g within plain.distinct was name;
      fresh = plain.fresh;
      space = λ d begun none.
          let before = plain.space d begun (λ k named. none k (names_same files id f g within was name k ∙ named)) in
          omega (arith, before, used_same files id f g was);
    }

-- a new file
pub plain_new : (n : ℕ) (files : Table) (draft : Option File) (id : ℕ) (g : File) → ArePlain n files draft → draft ≡ None → id < 32 →
    IsUnnamed files g.name → ArePlain n (set files id (Some g)) draft
plain_new n files draft id g plain idle inside none = record {
  least = plain.least;
  most = plain.most;
  places = length-set files id (Some g) ∙ plain.places;
  distinct = distinct_new files id g (omega (arith, plain.places)) plain.distinct none;
  fresh = plain.fresh;
  space = λ d begun _. absurd (cc);
}

-- a draft
pub plain_draft : (n : ℕ) (files : Table) (draft : Option File) (f : File) → ArePlain n files draft → IsFresh f →
    (IsUnnamed files f.name → used files < 32) → ArePlain n files (Some f)
plain_draft n files draft f plain fresh space = record {
  least = plain.least;
  most = plain.most;
  places = plain.places;
  distinct = plain.distinct;
  fresh = λ d is. let same : f ≡ d = cc in subst IsFresh same fresh;
  space = λ d is. let same : f ≡ d = cc in subst (λ (e : File). IsUnnamed files e.name → used files < 32) same space;
}

-- a draft with other bytes
pub plain_written : (n : ℕ) (files : Table) (f g : File) → ArePlain n files (Some f) → g.name ≡ f.name → g.kind ≡ f.kind →
    (f.records ≡ 0 → g.records ≡ 0) → g.room ≡ f.room → ArePlain n files (Some g)
plain_written n files f g plain name kind records room =
    let fresh = plain.fresh f refl in
    plain_draft n files (Some f) g plain
    (record { kind = kind ∙ fresh.kind; records = records fresh.records; room = room ∙ fresh.room })
    (subst (λ (m : List ℕ). IsUnnamed files m → used files < 32) (sym name) (plain.space f refl))

pub plain_drafts : (files : Table) (f g : File) (at records : ℕ) (new : List ℕ) → g ≡ record f { bytes = put_at f.bytes at new; records = records } →
    at + length new ≤ length f.bytes → Drafts (plain_state files (Some f)) (plain_state files (Some g)) f.name (length f.bytes) (put_at f.bytes at new)
plain_drafts files f g at records new is inside =
    let bytes : g.bytes ≡ put_at f.bytes at new = ap (λ (e : File). e.bytes) is in
    record {
      begun = refl;
      name = ap (λ (e : File). e.name) is;
      size = ap length bytes ∙ length-put_at f.bytes new at inside;
      bytes = λ _. bytes;
      files = refl;
      tells = refl;
    }

-- a file whose bytes or room were changed, under its name and kind
record IsChanged (f g : File) (content : List ℕ) : Type 0 where
  name : g.name ≡ f.name
  kind : g.kind ≡ f.kind
  bytes : g.bytes ≡ content

changed : (f g : File) (content : List ℕ) (records room : ℕ) → g ≡ record f { bytes = content; records = records; room = room } → IsChanged f g content
changed f g content records room is = record { name = ap (λ (e : File). e.name) is; kind = ap (λ (e : File). e.kind) is; bytes = ap (λ (e : File). e.bytes) is }

pub plain_kept : (n : ℕ) (files : Table) (draft : Option File) (id : ℕ) (f g : File) (content : List ℕ) (records room : ℕ) → ArePlain n files draft → id < 32 →
    place files id ≡ Some f → g ≡ record f { bytes = content; records = records; room = room } → ArePlain n (set files id (Some g)) draft
plain_kept n files draft id f g content records room plain inside was is =
    plain_same n files draft id f g plain inside was (changed f g content records room is).name

-- the bytes of a file are what `change` makes of them
pub plain_becomes : (n : ℕ) (files : Table) (draft : Option File) (id : ℕ) (f g : File) (change : List ℕ → List ℕ) (total records room : ℕ) → ArePlain n files draft → id < 32 →
    place files id ≡ Some f → g ≡ record f { bytes = change f.bytes; records = records; room = room } → length (change (bytes_at files id)) ≡ total →
    Becomes (plain_state files draft) (plain_state (set files id (Some g)) draft) id total (change (bytes_at files id))
plain_becomes n files draft id f g change total records room plain inside was is long =
    let here : change f.bytes ≡ change (bytes_at files id) = ap (λ (e : File). change e.bytes) (sym (file_here files id f was)) in
    let c = changed f g (change f.bytes) records room is in
    set_becomes (plain_state files draft) (plain_state (set files id (Some g)) draft) id f g total (change (bytes_at files id)) (omega (arith, plain.places)) was refl
    c.name c.kind (ap length (c.bytes ∙ here) ∙ long) (λ _. c.bytes ∙ here) refl refl

pub plain_creates : (files : Table) (draft : Option File) (id : ℕ) (name : List ℕ) (kind : Kind) → length files ≡ 32 → id < 32 → place files id ≡ None → AreTaken files id →
    Creates (plain_state files draft) (plain_state (set files id (Some (new_file name kind))) draft) id name kind
plain_creates files draft id name kind places inside free lowest =
    set_creates (plain_state files draft) (plain_state (set files id (Some (new_file name kind))) draft) id name kind (omega arith) free lowest refl refl refl

pub plain_removes : (n : ℕ) (files : Table) (draft : Option File) (id : ℕ) (f : File) → ArePlain n files draft → id < 32 → place files id ≡ Some f →
    Removes (plain_state files draft) (plain_state (set files id None) draft) id
plain_removes n files draft id f plain inside was =
    set_removes (plain_state files draft) (plain_state (set files id None) draft) id f (omega (arith, plain.places)) was
    (λ k named. plain.distinct k id f.name named (named_here files id f was)) refl refl refl

-- the file that has a name
of_place : (o : Option File) (n : List ℕ) → option_map (λ (f : File). f.name) o ≡ Some n → (e : File) × (o ≡ Some e) × (e.name ≡ n)
of_place None n named = absurd (cc)
of_place (Some e) n named = (e, refl, cc)

file_named : (files : Table) (id : ℕ) (n : List ℕ) → IsNamed files id n → (e : File) × (place files id ≡ Some e) × (e.name ≡ n)
file_named files id n named = of_place (place files id) n named

-- the draft takes the place of its name
pub plain_committed : (n : ℕ) (files : Table) (id : ℕ) (f : File) → ArePlain n files (Some f) → id < 32 →
    IsPlaceFor files id f.name → ArePlain n (set files id (Some f)) None
plain_committed n files id f plain inside where_ = record {
  least = plain.least;
  most = plain.most;
  places = length-set files id (Some f) ∙ plain.places;
  distinct =
      let within : id < length files = omega (arith, plain.places) in
      ⊎_elim
      (λ (named : IsNamed files id f.name). let had = file_named files id f.name named in distinct_same files id had.0 f within plain.distinct had.1 (sym had.2))
      (λ (free : IsNewPlace files id f.name). distinct_new files id f within plain.distinct free.unnamed)
      where_;
  fresh = λ d none. absurd (cc);
  space = λ d none. absurd (cc);
}

pub plain_commits : (n : ℕ) (files : Table) (id : ℕ) (f : File) → ArePlain n files (Some f) → id < 32 →
    IsPlaceFor files id f.name →
    Commits (plain_state files (Some f)) (plain_state (set files id (Some f)) None) id
plain_commits n files id f plain inside where_ =
    let within : id < length files = omega (arith, plain.places) in
    let fresh = plain.fresh f refl in
    let made : IsCommitted (plain_state files (Some f)) f = record { name = refl; kind = fresh.kind; size = refl; bytes = λ _. refl; records = fresh.records; room = fresh.room } in
    ⊎_elim
    (λ (named : IsNamed files id f.name).
    let had = file_named files id f.name named in
    set_replaces (plain_state files (Some f)) (plain_state (set files id (Some f)) None) id had.0 f within had.1 had.2
    (λ k k_named. plain.distinct k id had.0.name k_named (named_here files id had.0 had.1)) made refl refl refl)
    (λ (free : IsNewPlace files id f.name).
    set_adds (plain_state files (Some f)) (plain_state (set files id (Some f)) None) id f within free.free free.lowest free.unnamed made refl refl refl)
    where_

-- a size that may be asked for fits the pages that it counts as
pub plain_fits : (kind : Kind) (size : ℕ) → size ≤ 8388576 → ((n : ℕ) → kind ≡ Fixed n → size + 32 ≤ 256 * n) → size + 32 ≤ 256 * plain_pages kind size
plain_fits Doubling size few fixed = (is_fit size few).holds
plain_fits (Fixed n) size few fixed = fixed n refl

-- more bytes take at most twice the pages
pub plain_grows : (kind : Kind) (size more : ℕ) → size + more ≤ 4194304 → more ≤ 4096 → kind ≡ Doubling → plain_pages kind (size + more) ≤ max 16 (2 * fit size)
plain_grows Doubling size more few least is = omega (arith, fit_grows size more (omega arith) least)
plain_grows (Fixed n) size more few least is = absurd (cc)

-- where a file of a name was found, no other has it
pub only_named : (files : Table) (name : List ℕ) (found : Option ℕ) → AreDistinct files → IfSome found (λ id. IsNamed files id name) →
    IfSome found (λ id. (k : ℕ) → IsNamed files k name → k ≡ id)
only_named files name None distinct is = is
only_named files name (Some id) distinct is = λ k named. distinct k id name named is
