-- What a change of an index slot that broke off has left, where calls follow one another.
use Rattle.std.proofs.Common.{◌≡◌, ◌≢◌, inl, inr, ℕ, ◌+◌, ◌*◌, List, length, take, Option, Some, refl, ap, sym, ◌∙◌, subst, arith, IsTrue}
use Rattle.std.proofs.Math.Logic.{⊎_elim}
use Rattle.std.proofs.Math.Seq.{take-length}
use Rattle.std.proofs.lemmas.List.{take_all}
use Rattle.afl_base.specs.Fields.{put_at}
use Rattle.afl_base.specs.CutFiles.{MendsToEither, MendsToState}
use Rattle.afl_base.specs.Files.{IsLive, KeepsBytes, State, Table, bytes_at, file_at, name_at, place, used}
use Rattle.afl_base.specs.Frames.{SparesOthers}
use Rattle.afl_base.proofs.CutLaws.{mends_as}
use Rattle.afl_base.proofs.FrameLaws.{becomes_spares, spares_same, spares_then}
use Rattle.catalog.specs.CatalogFile.{IsCatalogSize, PutsIndex, ReplacesFront}
use Rattle.catalog.proofs.Changes.{slot_put}
use Rattle.db_model.specs.declared.schemas.IndexKind.{IndexKind}
use Rattle.db_model.specs.Catalog.{Index, index_slot_bytes, with_index_slot}
use Rattle.tuple_file.specs.declared.tuples.Tuples.{Tuples}
use Rattle.stored.proofs.CatalogParts.{replaces_nothing}
use Rattle.session_model.specs.declared.held.Indexed.{Indexed}
use Rattle.session_model.specs.Running.{HasCatalogFile}
use Rattle.session_indexes.specs.declared.sites.Site.{Site}
use Rattle.session_indexes.specs.Parts.{IsMadeInPart, MayPut}
use Rattle.session_indexes.proofs.Puts.{live_catalog}

-- the files of a state, under the draft of another
abbrev pub files_under : State → State → State
files_under mid after = record { tells = mid.tells; files = after.files; draft = mid.draft; store = after.store }

module _ (old : State) (cat slot : ℕ) (o : Option Index) (has : HasCatalogFile old.files (Some cat)) (told : IsTrue old.tells) where
  live : IsLive old.files cat
  live = live_catalog old.files cat has

  -- no byte is written
  no_part : (now : List ℕ) → now ≡ bytes_at old.files cat → ReplacesFront (bytes_at old.files cat) (1408 + 8 * slot) (index_slot_bytes o) now
  no_part now e = subst (ReplacesFront (bytes_at old.files cat) (1408 + 8 * slot) (index_slot_bytes o)) (sym e) (replaces_nothing (bytes_at old.files cat) (1408 + 8 * slot) (index_slot_bytes o) has.1)

  -- the files are as they were
  pub may_same : MayPut old old cat slot o
  may_same = (spares_same old _, no_part (bytes_at old.files cat) refl)

  pub may_keep : (new : State) → KeepsBytes old new cat → MayPut old new cat slot o
  may_keep new u = (becomes_spares old new cat _ _ live u, no_part (bytes_at new.files cat) (u.bytes told))

  -- the slot is written
  pub may_whole : (new : State) → PutsIndex old new cat slot o → MayPut old new cat slot o
  may_whole new u =
      let whole : List ℕ = with_index_slot (bytes_at old.files cat) slot o in
      let long : length whole ≡ 1480 = ap length (sym (u.bytes told)) ∙ u.size in
      let all : take 1480 whole ≡ whole = subst (λ (n : ℕ). take n whole ≡ whole) long (take-length whole) in
      (becomes_spares old new cat _ _ live u, by_size all has.1)
    where
      by_size : take 1480 (with_index_slot (bytes_at old.files cat) slot o) ≡ with_index_slot (bytes_at old.files cat) slot o → IsCatalogSize (length (bytes_at old.files cat))
          → ReplacesFront (bytes_at old.files cat) (1408 + 8 * slot) (index_slot_bytes o) (bytes_at new.files cat)
      by_size all (inl none) = inl (record { done = 1480; first = inl none; is = u.bytes told ∙ sym all })
      by_size all (inr (inl first)) = inl (record { done = 1480; first = inr (first, omega arith); is = u.bytes told ∙ sym all })
      by_size all (inr (inr second)) = inr (record {
        done = length (index_slot_bytes o);
        within = omega arith;
        whole = inr (inl refl);
        some = omega (arith, second);
        is = u.bytes told ∙ slot_put (bytes_at old.files cat) (bytes_at old.files cat) (index_slot_bytes o) (1408 + 8 * slot) (rw second refl)
            ∙ ap (λ (xs : List ℕ). put_at (bytes_at old.files cat) (1408 + 8 * slot) xs) (sym (take_all (length (index_slot_bytes o)) (index_slot_bytes o) (omega arith)));
      })

  -- room was made, and it broke off afterwards, whatever draft was begun in between
  module _ (mid next : State) (u : KeepsBytes old mid cat) (files : next.files ≡ mid.files) where
    next_spares : (after : State) → SparesOthers next after (λ k. k ≢ cat) → SparesOthers mid (files_under mid after) (λ k. k ≢ cat)
    next_spares after p = record {
      others = λ k other. p.others k other ∙ ap (λ (t : Table). place t k) files;
      named = λ k. p.named k ∙ ap (λ (t : Table). name_at t k) files;
      kind = λ k there. p.kind k (subst (λ (t : Table). IsLive t k) (sym files) there) ∙ ap (λ (t : Table). (file_at t k).kind) files;
      used = p.used ∙ ap used files;
      draft = refl;
      tells = refl;
    }

    pub may_later : (after : State) → MayPut next after cat slot o → MayPut old (files_under mid after) cat slot o
    may_later after p = (
      spares_then old mid (files_under mid after) (λ k. k ≢ cat) (λ k. k ≢ cat) (λ k. k ≢ cat) (becomes_spares old mid cat _ _ live u) (next_spares after p.0) (λ k other. (other, other)),
      subst (λ (bytes : List ℕ). ReplacesFront bytes (1408 + 8 * slot) (index_slot_bytes o) (bytes_at after.files cat)) (ap (λ (t : Table). bytes_at t cat) files ∙ u.bytes told) p.1,
    )

    pub mends_later : {mends : List ℕ → Table → Type 0} {store : List ℕ} → MendsToState mends store (λ after. MayPut next after cat slot o) → MendsToState mends store (λ after. MayPut old after cat slot o)
    mends_later m = record { after = files_under mid m.after; mends_to = m.mends_to; is = may_later m.after m.is }

-- an index that is made whatever the other indexes are
pub made_in_part_for : {mends : List ℕ → Table → Type 0} {store : List ℕ} (s0 : State) (xs : List (Option Indexed)) (cat : ℕ) (t : Tuples) (site : Site) (kind made : IndexKind) → kind ≡ made
    → MendsToEither mends s0.files store (λ after. (ys : List (Option Indexed)) → IsMadeInPart s0 after ys cat t site made) → MendsToEither mends s0.files store (λ after. IsMadeInPart s0 after xs cat t site kind)
made_in_part_for {mends} {store} s0 xs cat t site kind made is = ⊎_elim
    (λ (same : mends store s0.files). inl same)
    (λ (m : MendsToState mends store (λ after. (ys : List (Option Indexed)) → IsMadeInPart s0 after ys cat t site made)).
    inr (mends_as m (λ after p. subst (λ (k : IndexKind). IsMadeInPart s0 after xs cat t site k) (sym is) (p xs))))
