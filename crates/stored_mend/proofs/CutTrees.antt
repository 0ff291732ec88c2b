-- What a cut leaves of the file of one tree.
use Rattle.std.proofs.Common.{◌≡◌, ◌≢◌, inl, inr, ⊎_elim, ℕ, ℤ, ◌+◌, ◌<◌, List, length, IsTrue, refl, ap, sym, subst, ◌∙◌, arith}
use Rattle.afl_base.specs.CutFiles.{MendsToEither}
use Rattle.afl_base.specs.Files.{IsLive, IsNamed, IsUnnamed, Keeps, KeepsBytes, State, Table, bytes_at, file_at}
use Rattle.afl_base.specs.Frames.{SparesOthers}
use Rattle.afl_base.specs.declared.kind.Kind.TheVariants.{Doubling}
use Rattle.afl_base.proofs.CutLaws.{mends_as}
use Rattle.afl_base.proofs.FileLaws.{named_live, one_name}
use Rattle.afl_base.proofs.FrameLaws.{keeps_prepares, spares_same, spares_then}
use Rattle.index_maxheap.specs.Rooms.{MayInsert, room_of}
use Rattle.index_maxheap.specs.declared.rooms.Room.{Room}
use Rattle.index_tree.specs.TreeFile.{NamesOnly}
use Rattle.index_tree.specs.Trees.{IsTreeOf}
use Rattle.space_model.specs.FileNames.{bytes_named}
use Rattle.stored.proofs.NamesStay.{there_stays}
use Rattle.stored_mend.specs.CutTrees.{MayMendTree, MayPutKey, MayReplaceTree, StaysWithout}
use Rattle.stored_mend.specs.Trees.{BuildsTree, ChangesAtMost, SparesButTree}
use Rattle.stored_mend.proofs.OneFile.{ChangesFile, others_found}
use Rattle.stored_mend.proofs.Replaced.{name_of}
use Rattle.stored_mend.proofs.TreeFiles.{becomes_at_most, built_at_most, built_behind, known_but, named_bytes}

-- ---- what storage mends to

-- the files that there were stay one of both
pub either_still : {mends : List ℕ → Table → Type 0} {files : Table} {store : List ℕ} {P Q : State → Type 0} → MendsToEither mends files store P → ((s : State) → P s → Q s) → MendsToEither mends files store Q
either_still m follows = ⊎_elim (λ before. inl before) (λ after. inr (mends_as after follows)) m

-- and so where other names stand for them
pub either_from : (mends : List ℕ → Table → Type 0) (now files : Table) (store : List ℕ) (P Q : State → Type 0) → now ≡ files → MendsToEither mends now store P → ((s : State) → P s → Q s) → MendsToEither mends files store Q
either_from mends now files store P Q same m follows = ⊎_elim (λ (before : mends store now). inl (subst (mends store) same before)) (λ after. inr (mends_as after follows)) m

-- ---- a key is put into a tree

pub key_same : (a : State) (tree slots : ℕ) → MayPutKey a a tree slots
key_same a tree slots = record { others = spares_same a (λ k. k ≢ tree); bytes = inl refl }

module _ (a b : State) (tree : ℕ) (live : IsLive a.files tree) (told : IsTrue a.tells) (kept : KeepsBytes a b tree) where
  -- room was made for it
  pub key_prepared : (slots : ℕ) → MayPutKey a b tree slots
  key_prepared slots = record { others = (keeps_prepares a b tree live kept).spares; bytes = inl (kept.bytes told) }

  -- and then a part of it was written
  pub key_inserted : (c : State) (room : Room) (key : ℤ) (slot : ℕ) (keys : List ℤ) → IsTreeOf (bytes_at a.files tree) keys → length keys ≡ slot → room ≡ room_of (bytes_at a.files tree) key → MayInsert b c tree room key slot
      → MayPutKey a c tree (slot + 1)
  key_inserted c room key slot keys is many asked m =
      let same : bytes_at b.files tree ≡ bytes_at a.files tree = kept.bytes told in
      record {
        others = spares_then a b c (λ k. k ≢ tree) (λ k. k ≢ tree) (λ k. k ≢ tree) (keeps_prepares a b tree live kept).spares m.others (λ k other. (other, other));
        bytes = inr (
          omega arith,
          m.names keys (subst (λ (bytes : List ℕ). IsTreeOf bytes keys) (sym same) is) many (subst (λ (bytes : List ℕ). room ≡ room_of bytes key) (sym same) asked),
        );
      }

-- ---- the file of a name

module _ (a b : State) (file : ℕ) (name : List ℕ) (named : IsNamed a.files file name) (only : (k : ℕ) → IsNamed a.files k name → k ≡ file) where
  module _ (s : SparesOthers a b (λ k. k ≢ file)) where
    spares_changes : ChangesFile a.files b.files name
    spares_changes = record {
      id = file;
      others = s.others;
      before = λ n is. one_name a.files file n name is named;
      after = λ n is. one_name a.files file n name (sym (s.named file) ∙ is) named;
    }

    pub spares_at_most : (file_at a.files file).kind ≡ Doubling → ChangesAtMost a b name
    spares_at_most doubles = record {
      spares = record {
        spares = record {
          files = λ n differs. others_found a.files b.files name n spares_changes differs;
          draft = s.draft;
          tells = s.tells;
        };
        known = known_but a.files b.files file name s.others (name_of b.files file name (s.named file ∙ named)) (s.kind file (named_live a.files file name named) ∙ doubles);
      };
      there = there_stays a.files b.files name s.named;
    }

    pub named_after : bytes_named name b.files ≡ bytes_at b.files file
    named_after = named_bytes b.files file name (s.named file ∙ named) (λ k is. only k (sym (s.named k) ∙ is))

  named_before : bytes_named name a.files ≡ bytes_at a.files file
  named_before = named_bytes a.files file name named only

  -- a key was being put into the tree
  pub key_mends : (keys : List ℤ) (slots : ℕ) → (file_at a.files file).kind ≡ Doubling → length keys ≡ slots → (IsTreeOf (bytes_at a.files file) keys → ⊥) → MayPutKey a b file slots → MayMendTree a b name keys
  key_mends keys slots doubles many lacked p = record {
    changes = spares_at_most p.others doubles;
    tree = ⊎_elim
        (λ (same : bytes_at b.files file ≡ bytes_at a.files file). inl (named_after p.others ∙ same ∙ sym named_before))
        (λ (n : (0 < slots) × NamesOnly slots (bytes_at b.files file)). inr (inr (record {
          lacked = λ tree. lacked (subst (λ (bytes : List ℕ). IsTreeOf bytes keys) named_before tree);
          some = subst (λ (m : ℕ). 0 < m) (sym many) n.0;
          names = subst (λ (m : ℕ). NamesOnly m (bytes_named name b.files)) (sym many) (subst (NamesOnly slots) (sym (named_after p.others)) n.1);
        })))
        p.bytes;
  }

  -- the file is as it was, but for its room
  pub room_mends : (keys : List ℤ) → (file_at a.files file).kind ≡ Doubling → IsTrue a.tells → KeepsBytes a b file → MayMendTree a b name keys
  room_mends keys doubles told kept = record {
    changes = becomes_at_most a b file (length (bytes_at a.files file)) (bytes_at a.files file) name named doubles kept;
    tree = inl (named_after (keeps_prepares a b file (named_live a.files file name named) kept).spares ∙ kept.bytes told ∙ sym named_before);
  }

  -- it is built
  pub built_mends : (keys : List ℤ) → IsTrue a.tells → BuildsTree a b name keys → MayMendTree a b name keys
  built_mends keys told t = record {
    changes = built_at_most a b file name keys named only t;
    tree = inr (inl (subst (λ (bytes : List ℕ). IsTreeOf bytes keys) (sym (named_bytes b.files t.id name t.named t.only)) (t.tree told)));
  }

  -- it stays without the tree, as there is no room
  pub stays_without : (c : State) (keys : List ℤ) → (file_at a.files file).kind ≡ Doubling → IsTrue a.tells → (IsTreeOf (bytes_at a.files file) keys → ⊥) → KeepsBytes a b file → Keeps b c → StaysWithout a.files c.files name keys
  stays_without c keys doubles told lacked kept keeps = record {
    lacks = λ tree. lacked (subst (λ (bytes : List ℕ). IsTreeOf bytes keys) named_before tree);
    same = ap (bytes_named name) keeps.files ∙ named_after (keeps_prepares a b file (named_live a.files file name named) kept).spares ∙ kept.bytes told ∙ sym named_before;
  }

-- ---- a tree is removed, and built again

pub gone_replaces : (a b : State) (name : List ℕ) (keys : List ℤ) → IsUnnamed b.files name → SparesButTree a b name → MayReplaceTree a b name keys
gone_replaces a b name keys gone spares = inl (gone, spares)

pub built_replaces : (a b c : State) (name : List ℕ) (before keys : List ℤ) → SparesButTree a b name → (IsTrue a.tells → before ≡ keys) → BuildsTree b c name before → MayReplaceTree a c name keys
built_replaces a b c name before keys spares same t = inr (built_behind a b c name before keys spares same t)
