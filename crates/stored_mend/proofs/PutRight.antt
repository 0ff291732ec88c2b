-- Steps of putting right, one after another.
use Rattle.std.proofs.Common.{◌≡◌, ℕ, IsTrue, refl, subst, ◌∙◌}
use Rattle.std.specs.Prelude.{⊤}
use Rattle.afl_base.specs.Files.{State}
use Rattle.db_model.specs.Database.{Database}
use Rattle.stored.specs.Mended.{mended_base}
use Rattle.stored_mend.specs.Filled.{FillsIn, IsFilled}
use Rattle.stored_mend.specs.Mending.{IsPutRight, IsPutRightFor, MendsAsBefore, PutsRight}
use Rattle.stored_mend.specs.Trees.{KeepsButTrees, LosesTrees}
use Rattle.stored_mend.proofs.FilledBase.{same_filled}
use Rattle.stored_mend.proofs.TreesLost.{loses_any, loses_same}

-- a database that stays
pub right_for_same : (P : ℕ → Type 0) (old now : Database) → now ≡ old → IsPutRightFor P old now
right_for_same P old now same = record { filled = old; fills = same_filled (λ slot. ⊤) old old refl; loses = loses_same P old now same }

pub put_right_same : (old now : Database) → now ≡ old → IsPutRight old now
put_right_same old now same = right_for_same (λ slot. ⊤) old now same

-- whatever the reason is
pub right_any : (P : ℕ → Type 0) (old now : Database) → IsPutRightFor P old now → IsPutRight old now
right_any P old now r = record { filled = r.filled; fills = r.fills; loses = loses_any P r.filled now r.loses }

-- rows are filled
pub right_filled : (old now : Database) → IsFilled old now → IsPutRight old now
right_filled old now f = record { filled = now; fills = f; loses = loses_same (λ slot. ⊤) now now refl }

-- and then trees are lost
pub right_trees : (a b : State) → FillsIn (λ slot. ⊤) a b → IsTrue a.tells → (now : Database) → LosesTrees (mended_base b.files) now → IsPutRight (mended_base a.files) now
right_trees a b f told now l = record { filled = mended_base b.files; fills = f.base told; loses = l }

pub right_same : (P : ℕ → Type 0) (a : State) → PutsRight P a a
right_same P a = record { base = λ told. right_for_same P (mended_base a.files) (mended_base a.files) refl; draft = refl; tells = refl }

-- rows are filled, and then trees are put right
pub right_by : (P : ℕ → Type 0) (a b c : State) → FillsIn (λ slot. ⊤) a b → KeepsButTrees P b c → PutsRight P a c
right_by P a b c f k = record {
  base = λ told. record { filled = mended_base b.files; fills = f.base told; loses = k.base (f.tells ∙ told) };
  draft = k.draft ∙ f.draft;
  tells = k.tells ∙ f.tells;
}

-- and before that the catalog
pub mends_right : (P : ℕ → Type 0) (a b c : State) → MendsAsBefore a b → PutsRight P b c → PutsRight P a c
mends_right P a b c m p = record {
  base = λ told.
      let r = p.base (m.tells ∙ told) in
      record { filled = r.filled; fills = subst (λ (db : Database). IsFilled db r.filled) (m.base told) r.fills; loses = r.loses };
  draft = p.draft ∙ m.draft;
  tells = p.tells ∙ m.tells;
}
