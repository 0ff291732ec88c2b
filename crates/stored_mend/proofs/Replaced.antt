-- A file that a draft of its name has replaced.
use Rattle.std.proofs.Common.{◌≡◌, ℕ, List, length, Some, None, refl, sym, ap, subst, ◌∙◌}
use Rattle.afl_base.specs.declared.kind.Kind.TheVariants.{Doubling}
use Rattle.afl_base.specs.Files.{Becomes, Commits, Drafts, IsLive, IsNamed, IsUnnamed, State, Table, bytes_at, draft_in, file_at, place, size_at, used}
use Rattle.afl_base.specs.Frames.{SparesOthers}
use Rattle.afl_base.proofs.FileLaws.{named_here, named_live, place_live}
use Rattle.afl_base.proofs.FrameLaws.{becomes_spares, spares_fewer}

-- the name of a file
pub name_of : (files : Table) (k : ℕ) (name : List ℕ) → IsNamed files k name → (file_at files k).name ≡ name
name_of files k name named =
    let e : Some (file_at files k).name ≡ Some name = sym (named_here files k (file_at files k) (place_live files k (named_live files k name named))) ∙ named in
    cc

-- a draft of the name of a file that doubles is begun, written and committed
module _ (a b c d : State) (file id n m : ℕ) (name first bytes : List ℕ) where
  pub replaced : IsNamed a.files file name → (file_at a.files file).kind ≡ Doubling → a.draft ≡ None → Drafts a b name n first → Drafts b c (draft_in b).name m bytes → Commits c d id → Becomes a d file m bytes
  replaced named doubles idle begun written commits =
      let files : c.files ≡ a.files = written.files ∙ begun.files in
      let given : (draft_in c).name ≡ name = written.name ∙ begun.name in
      let named_c : IsNamed c.files file (draft_in c).name = subst (λ (t : Table). IsNamed t file (draft_in c).name) (sym files) (subst (IsNamed a.files file) (sym given) named) in
      let same : id ≡ file = commits.kept file named_c in
      let tells : c.tells ≡ a.tells = written.tells ∙ begun.tells in
      record {
        live = subst (IsLive d.files) same commits.live;
        name = ap (λ (k : ℕ). (file_at d.files k).name) (sym same) ∙ commits.name ∙ given ∙ sym (name_of a.files file name named);
        kind = ap (λ (k : ℕ). (file_at d.files k).kind) (sym same) ∙ commits.kind ∙ sym doubles;
        size = ap (size_at d.files) (sym same) ∙ commits.size ∙ written.size;
        bytes = λ told. ap (bytes_at d.files) (sym same) ∙ commits.bytes (tells ∙ told) ∙ written.bytes (begun.tells ∙ told);
        others = λ k other. commits.others k (λ e. other (e ∙ same)) ∙ ap (λ (t : Table). place t k) files;
        names = λ l none. commits.names l (λ e. none file (named ∙ ap (λ (x : List ℕ). Some x) (sym (e ∙ given)))) (subst (λ (t : Table). IsUnnamed t l) (sym files) none);
        used = commits.replaced file named_c ∙ ap used files;
        draft = commits.draft ∙ sym idle;
        tells = commits.tells ∙ tells;
      }

-- all files but that of a name
abbrev pub AreOthers : Table → List ℕ → ℕ → Type 0
AreOthers files name k = IsNamed files k name → ⊥

-- so all others stay
pub becomes_spares_others : (a d : State) (file m : ℕ) (name bytes : List ℕ) → IsNamed a.files file name → Becomes a d file m bytes → SparesOthers a d (AreOthers a.files name)
becomes_spares_others a d file m name bytes named becomes =
    spares_fewer a d (λ k. k ≡ file → ⊥) (AreOthers a.files name) (becomes_spares a d file m bytes (named_live a.files file name named) becomes)
    (λ k other same. other (subst (λ (j : ℕ). IsNamed a.files j name) (sym same) named))

-- a draft has its own bytes
pub own_bytes : (b c : State) (given bytes : List ℕ) (m : ℕ) → Drafts b c given m bytes → Drafts b c given (length (draft_in c).bytes) (draft_in c).bytes
own_bytes b c given bytes m d = record {
  begun = d.begun;
  name = d.name;
  size = refl;
  bytes = λ told. refl;
  files = d.files;
  tells = d.tells;
}
