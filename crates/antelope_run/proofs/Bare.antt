-- What a command wants and the most that is counted for it do not depend on cursors.
use Rattle.std.proofs.Common.{◌≡◌, ◌≤◌, ℕ, ℤ, List, Option, None, refl, ap, subst, sym, ◌∙◌}
use Rattle.std.specs.Prelude.{IsTrue}
use Rattle.afl_base.specs.Files.{State}
use Rattle.antelope_engine.specs.Seen.{Seen}
use Rattle.antelope_engine.specs.Commands.{LacksPages}
use Rattle.db_model.specs.declared.commands.Command.{Command}
use Rattle.db_model.specs.declared.commands.Command.TheVariants.{CreateRelation, CreateAttribute, CreateIndex, Insert, Ask, Aggregate, RemoveFrom, RemoveRelation, RemoveIndex, Pack, OpenCursor, FetchCursor, CloseCursor}
use Rattle.db_model.specs.Database.{Database, bare}
use Rattle.session_model.specs.Wanted.{WantsOver, room_in}
use Rattle.space_model.specs.Enough.{most}
use Rattle.space_model.specs.FileNames.{asks_in, size_in}
use Rattle.space_model.specs.Wants.{Wants}
use Rattle.image_model.specs.Images.{IsSound, base}
use Rattle.image_model.specs.Lacking.{LacksFor}
use Rattle.stored.specs.Base.{base_of}
use Rattle.stored.specs.Sound.{IsSoundTable}
use Rattle.antelope_run.specs.SessionImage.{IsImageOf}

module _ (size_of : List ℕ → Option ℕ) (asks : List ℕ → ℕ → ℕ → ℕ → Type 0) (room : ℕ → ℤ → ℕ × ℕ) (db : Database) (n : ℕ) where
  pub wants_bare : (c : Command) → Wants size_of asks room db c n → Wants size_of asks room (bare db) c n
  wants_bare (CreateRelation name) h = h
  wants_bare (CreateAttribute name domain relation) h = h
  wants_bare (CreateIndex relation attribute kind) h = h
  wants_bare (Insert values relation) h = h
  wants_bare (Ask query) h = h
  wants_bare (Aggregate list relation nodes) h = h
  wants_bare (RemoveFrom relation nodes) h = h
  wants_bare (RemoveRelation relation) h = h
  wants_bare (RemoveIndex relation attribute) h = h
  wants_bare (Pack relation) h = h
  wants_bare (OpenCursor number query) h = h
  wants_bare (FetchCursor number) h = h
  wants_bare (CloseCursor number) h = h

pub most_bare : (db : Database) (c : Command) → most (bare db) c ≡ most db c
most_bare db (CreateRelation name) = refl
most_bare db (CreateAttribute name domain relation) = refl
most_bare db (CreateIndex relation attribute kind) = refl
most_bare db (Insert values relation) = refl
most_bare db (Ask query) = refl
most_bare db (Aggregate list relation nodes) = refl
most_bare db (RemoveFrom relation nodes) = refl
most_bare db (RemoveRelation relation) = refl
most_bare db (RemoveIndex relation attribute) = refl
most_bare db (Pack relation) = refl
most_bare db (OpenCursor number query) = refl
most_bare db (FetchCursor number) = refl
most_bare db (CloseCursor number) = refl

-- what a session lacked, once it is closed
pub record Lacked {V : Type 0} (state : V → State) (asks : V → ℕ → ℕ → ℕ → ℕ → Type 0) (lacks : V → ℕ → Type 0) (files : V) (c : Command) (n : ℕ) : Type 0 where
  pub wants : WantsOver (asks files) (state files).files (base_of (state files).files) c n
  pub few : n ≤ most (base_of (state files).files) c
  pub none : lacks files n

pub lacked : {V : Type 0} (state : V → State) (asks : V → ℕ → ℕ → ℕ → ℕ → Type 0) (lacks : V → ℕ → Type 0) (session : Seen V) (closed : V) (c : Command) (n : ℕ)
    → closed ≡ session.files → base_of (state closed).files ≡ bare session.database → LacksPages state asks lacks session c n → Lacked state asks lacks closed c n
lacked {V = V} state asks lacks session closed c n is base l = record {
  wants = subst (λ (v : V). WantsOver (asks v) (state v).files (base_of (state closed).files) c n) (sym is)
      (subst (λ (db : Database). WantsOver (asks session.files) (state session.files).files db c n) (sym base)
      (wants_bare (size_in (state session.files).files) (asks_in (asks session.files) (state session.files).files) (room_in (state session.files).files) session.database n c l.wants));
  few = subst (λ (m : ℕ). n ≤ m) (sym (ap (λ (db : Database). most db c) base ∙ most_bare session.database c)) l.few;
  none = subst (λ (v : V). lacks v n) (sym is) l.none;
}

module _ {V : Type 0} (state : V → State) (asks : V → ℕ → ℕ → ℕ → ℕ → Type 0) (lacks : V → ℕ → Type 0) where
  -- files that are a sound database stand on a sound image of it
  abbrev pub StandOnImage : V → Type 0
  StandOnImage files = IsTrue (state files).tells → (state files).draft ≡ None → IsSoundTable (state files).files
      → IsSound (state files).store
      × (base (state files).store ≡ base_of (state files).files)
      × ((c : Command) (n : ℕ) → WantsOver (asks files) (state files).files (base_of (state files).files) c n → n ≤ most (base_of (state files).files) c → lacks files n
      → LacksFor (state files).store c n)

  -- and so do the files of a session
  pub session_image : (session : Seen V) (files : V) → files ≡ session.files → StandOnImage files
      → IsTrue (state session.files).tells → (state session.files).draft ≡ None → IsSoundTable (state session.files).files → base_of (state session.files).files ≡ bare session.database
      → (image : List ℕ) → image ≡ (state session.files).store → IsImageOf session.database (LacksPages state asks lacks session) image
  session_image session files is stand told idle sound same image on =
      let here = subst StandOnImage is stand told idle sound in
      subst (λ (i : List ℕ). IsImageOf session.database (LacksPages state asks lacks session) i) (sym on) (record {
        sound = here.0;
        base_is = here.1 ∙ same;
        lacks = λ c n l.
            let lack = lacked state asks lacks session session.files c n refl same l in
            here.2 c n lack.wants lack.few lack.none;
      })
