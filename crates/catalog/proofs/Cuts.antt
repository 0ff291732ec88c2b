-- What a change of a slot that broke off leaves of the file of the catalog.
use Rattle.std.proofs.Common.{◌≡◌, ℕ, ◌+◌, ◌≤◌, List, ◌++◌, length, take, inl, inr, refl, sym, ap, ◌∙◌, arith}
use Rattle.std.specs.Prelude.{IsTrue}
use Rattle.std.proofs.Math.Seq.{take-append-add}
use Rattle.std.proofs.lemmas.List.{nil_from_length}
use Rattle.afl_base.specs.CutFiles.{AppendsFront, OverwritesFront}
use Rattle.afl_base.specs.Fields.{put_at}
use Rattle.afl_base.specs.Files.{Becomes, IsLive, State, bytes_at, size_at}
use Rattle.afl_base.proofs.FieldLaws.{length-put_at}
use Rattle.afl_base.proofs.FileLaws.{becomes_then}
use Rattle.afl_base.proofs.FrameLaws.{becomes_spares}
use Rattle.db_model.specs.Catalog.{empty_bytes, in_version_2, version_mark, with_slot}
use Rattle.catalog.specs.CatalogFile.{MayReplace}
use Rattle.catalog.proofs.Changes.{slot_put}
use Rattle.catalog.proofs.Puts.{put_at-append}

-- the first change of an empty catalog
pub first_cut : (a b : State) (id at : ℕ) (slot first : List ℕ) → IsLive a.files id → size_at a.files id ≡ 0 → first ≡ put_at empty_bytes at slot → IsTrue a.tells → AppendsFront a b id first → MayReplace a b id at slot
first_cut a b id at slot first live none e told front =
    let old : List ℕ = bytes_at a.files id in
    let empty : in_version_2 old ≡ empty_bytes = rw none refl in
    let all : first ≡ with_slot old at slot = e ∙ sym (slot_put old empty_bytes slot at empty) in (
      becomes_spares a b id _ _ live front.is,
      inl (record {
        done = front.done;
        first = inl none;
        is = front.is.bytes told ∙ ap (λ xs. xs ++ take front.done first) (nil_from_length old none) ∙ ap (take front.done) all;
      }),
    )

-- a change of a catalog that was not empty, before its mark is to come
pub slot_cut : (a b : State) (id at : ℕ) (slot : List ℕ) → IsLive a.files id → 1472 ≤ size_at a.files id → IsTrue a.tells → OverwritesFront a b id at slot → MayReplace a b id at slot
slot_cut a b id at slot live some told front = (
  becomes_spares a b id _ _ live front.is,
  inr (record { done = front.done; within = front.within; whole = front.whole; some = some; is = front.is.bytes told }),
)

-- the mark of a catalog of version 1
pub mark_cut : (a b c : State) (id at : ℕ) (slot : List ℕ) → IsLive a.files id → size_at a.files id ≡ 1472 → at + length slot ≤ 1472 → IsTrue a.tells →
    Becomes a b id (size_at a.files id) (put_at (bytes_at a.files id) at slot) → AppendsFront b c id version_mark → MayReplace a c id at slot
mark_cut a b c id at slot live size h told v front =
    let old : List ℕ = bytes_at a.files id in
    let put : List ℕ = put_at old at slot in
    let more : in_version_2 old ≡ old ++ version_mark = rw size refl in
    let room : at + length slot ≤ length old = omega (arith, size, h) in
    let whole : put ++ version_mark ≡ with_slot old at slot = sym (put_at-append old version_mark slot at room) ∙ sym (slot_put old (old ++ version_mark) slot at more) in
    let long : length put ≡ 1472 = length-put_at old slot at room ∙ size in (
      becomes_spares a c id _ _ live (becomes_then a b c id (length old) _ put _ v front.is),
      inl (record {
        done = length put + front.done;
        first = inr (size, omega (arith, long));
        is = front.is.bytes (v.tells ∙ told) ∙ ap (λ xs. xs ++ take front.done version_mark) (v.bytes told) ∙ sym (take-append-add put version_mark front.done)
            ∙ ap (take (length put + front.done)) whole;
      }),
    )
