-- Writes of which none or all was done.
use Rattle.std.proofs.Common.{◌≡◌, inl, ℕ, ◌+◌, List, [], ◌++◌, length, take, refl, ap, sym, ◌∙◌, arith}
use Rattle.std.proofs.lemmas.List.{append-nil, take_all}
use Rattle.afl_base.specs.CutFiles.{AppendsFront, OverwritesFront}
use Rattle.afl_base.specs.Fields.{put_at}
use Rattle.afl_base.specs.Files.{IsLive, KeepsBytes, Overwrites, State, bytes_at, size_at}
use Rattle.afl_base.proofs.FrameLaws.{becomes_as}
use Rattle.afl_base.proofs.PutLaws.{put_at_nothing}
use Rattle.index_maxheap.proofs.Grows.{keeps_itself as becomes_itself}

-- that is a write of which nothing was done
pub nothing_put : (s : State) (id at : ℕ) (bytes : List ℕ) → IsLive s.files id → OverwritesFront s s id at bytes
nothing_put s id at bytes live = record {
  done = 0;
  within = omega arith;
  whole = inl refl;
  is = becomes_as s s id (size_at s.files id) (size_at s.files id) (bytes_at s.files id) (put_at (bytes_at s.files id) at []) (becomes_itself s id live) refl (λ told. sym (put_at_nothing (bytes_at s.files id) at));
}

-- of one in the place of bytes
module _ (old after : State) (id at : ℕ) (bytes : List ℕ) (f : OverwritesFront old after id at bytes) where
  pub none_put : f.done ≡ 0 → KeepsBytes old after id
  none_put none =
      becomes_as old after id (size_at old.files id) (size_at old.files id) (put_at (bytes_at old.files id) at (take f.done bytes)) (bytes_at old.files id) f.is refl
      (λ told. ap (λ (n : ℕ). put_at (bytes_at old.files id) at (take n bytes)) none ∙ put_at_nothing (bytes_at old.files id) at)

  pub all_put : f.done ≡ length bytes → Overwrites old after id at bytes
  all_put all =
      becomes_as old after id (size_at old.files id) (size_at old.files id) (put_at (bytes_at old.files id) at (take f.done bytes)) (put_at (bytes_at old.files id) at bytes) f.is refl
      (λ told. ap (put_at (bytes_at old.files id) at) (take_all f.done bytes (omega (arith, all))))

-- of one at the end
module _ (old after : State) (id : ℕ) (bytes : List ℕ) (f : AppendsFront old after id bytes) where
  pub none_added : f.done ≡ 0 → KeepsBytes old after id
  none_added none =
      let few : length (take f.done bytes) ≡ 0 = ap (λ (n : ℕ). length (take n bytes)) none in
      becomes_as old after id (size_at old.files id + length (take f.done bytes)) (size_at old.files id) (bytes_at old.files id ++ take f.done bytes) (bytes_at old.files id) f.is
      (omega (arith, few))
      (λ told. ap (λ (n : ℕ). bytes_at old.files id ++ take n bytes) none ∙ append-nil (bytes_at old.files id))
