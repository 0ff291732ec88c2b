-- Files that keep their bytes, and those that are not touched.
use Rattle.std.proofs.Common.{◌≡◌, ◌≢◌, ℕ, ◌+◌, ◌-◌, ◌≤◌, List, [], ◌∷◌, ◌++◌, length, take, drop, replicate, Option, Some, None, IsTrue, is_some, refl, sym, ap, ◌∙◌, subst, arith, append_assoc}
use Rattle.std.specs.Prelude.{slice_index, slice_range}
use Rattle.std.proofs.lemmas.List.{drop-drop, take-append-drop}
use Rattle.afl_base.specs.Fields.{put_at}
use Rattle.afl_base.specs.Files.{Drafts, File, IsLive, KeepsBytes, OthersStay, Overwrites, State, Table, bytes_at, draft_in, place, size_at}
use Rattle.afl_base.proofs.FieldLaws.{length-put_at}
use Rattle.afl_base.proofs.Images.{length_range}
use Rattle.tuple_file.proofs.Puts.{byte-put_at}
use Rattle.database_tests.specs.Standing.{KeepsEachFile}

-- ---- a byte in the place of the same

put_same : (bytes : List ℕ) (at : ℕ) → at + 1 ≤ length bytes → put_at bytes at (slice_range bytes at (at + 1)) ≡ bytes
unfolding put_at
put_same bytes at inside =
    let one : length (slice_range bytes at (at + 1)) ≡ 1 = length_range bytes at (at + 1) inside ∙ omega arith in
    let width : at + 1 - at ≡ 1 = omega arith in
    let all : take 1 (drop at bytes) ++ drop 1 (drop at bytes) ≡ drop at bytes = take-append-drop 1 (drop at bytes) in
    append_assoc (take at bytes) (slice_range bytes at (at + 1)) (drop (at + length (slice_range bytes at (at + 1))) bytes)
    ∙ ap (λ (rest : List ℕ). take at bytes ++ rest)
    (ap (λ (n : ℕ). slice_range bytes at (at + 1) ++ drop (at + n) bytes) one
    ∙ ap (λ (n : ℕ). take n (drop at bytes) ++ drop (at + 1) bytes) width
    ∙ ap (λ (rest : List ℕ). take 1 (drop at bytes) ++ rest) (sym (drop-drop 1 at bytes))
    ∙ all)
    ∙ take-append-drop at bytes

pub overwritten_same : (a b : State) (id at : ℕ) (byte : List ℕ) → at + 1 ≤ size_at a.files id → (IsTrue a.tells → byte ≡ slice_range (bytes_at a.files id) at (at + 1))
    → Overwrites a b id at byte → KeepsBytes a b id
overwritten_same a b id at byte inside same o = record {
  live = o.live;
  name = o.name;
  kind = o.kind;
  size = o.size;
  bytes = λ told. o.bytes told ∙ ap (put_at (bytes_at a.files id) at) (same told) ∙ put_same (bytes_at a.files id) at inside;
  others = o.others;
  names = o.names;
  used = o.used;
  draft = o.draft;
  tells = o.tells;
}

-- ---- files that were there

pub live_here : (a b : Table) (id : ℕ) → place b id ≡ place a id → IsLive a id → IsLive b id
live_here a b id same live = let P : Option File → Type 0 = λ o. IsTrue (is_some o) in subst P (sym same) live

pub keeps_same : (a : State) → KeepsEachFile a a
keeps_same a = record { same = λ id live. refl; draft = refl; tells = refl }

pub keeps_then : (a b c : State) → KeepsEachFile a b → KeepsEachFile b c → KeepsEachFile a c
keeps_then a b c f g = record {
  same = λ id live. g.same id (live_here a.files b.files id (f.same id live) live) ∙ f.same id live;
  draft = g.draft ∙ f.draft;
  tells = g.tells ∙ f.tells;
}

dead : (o : Option File) → o ≡ None → IsTrue (is_some o) → ⊥
dead None none live = absurd (cc)
dead (Some f) none live = absurd (cc)

-- where only a file changes that was not there
pub keeps_others : (a b c : State) (id : ℕ) → place a.files id ≡ None → KeepsEachFile a b → OthersStay b.files c.files id → c.draft ≡ b.draft → c.tells ≡ b.tells → KeepsEachFile a c
keeps_others a b c id none f others draft tells = record {
  same = λ k live.
      let other : k ≢ id = λ e. dead (place a.files k) (ap (place a.files) e ∙ none) live in
      others k other ∙ f.same k live;
  draft = draft ∙ f.draft;
  tells = tells ∙ f.tells;
}

-- ---- a draft that ends in a one

-- a byte put behind the others
last_put : (bytes : List ℕ) (n : ℕ) → length bytes ≡ n + 1 → slice_index (put_at bytes n (1 ∷ [])) (length (put_at bytes n (1 ∷ [])) - 1) ≡ 1
last_put bytes n long =
    let same : length (put_at bytes n (1 ∷ [])) ≡ length bytes = length-put_at bytes (1 ∷ []) n (omega (arith, long)) in
    let last : length (put_at bytes n (1 ∷ [])) - 1 ≡ n = omega (arith, same, long) in
    ap (λ (k : ℕ). slice_index (put_at bytes n (1 ∷ [])) k) last ∙ byte-put_at bytes n 1 (omega (arith, long))

pub ends_in_one : (a b c : State) (given : List ℕ) → Drafts a b given 683 (replicate 683 0) → Drafts b c (draft_in b).name (length (draft_in b).bytes) (put_at (draft_in b).bytes 682 (1 ∷ []))
    → IsTrue c.tells → slice_index (draft_in c).bytes (length (draft_in c).bytes - 1) ≢ 0
ends_in_one a b c given begun written told =
    let same : (draft_in c).bytes ≡ put_at (draft_in b).bytes 682 (1 ∷ []) = written.bytes (sym written.tells ∙ told) in
    let e : slice_index (draft_in c).bytes (length (draft_in c).bytes - 1) ≡ 1 =
    ap (λ (bytes : List ℕ). slice_index bytes (length bytes - 1)) same ∙ last_put (draft_in b).bytes 682 begun.size in
    λ zero_. absurd (omega (arith, e, zero_))
