-- At which entry a run was stopped is told by what was written.
use Rattle.std.proofs.Common.{◌≡◌, ℕ, ◌<◌, ◌≤◌, ◌⊎◌, inl, inr, List, [], ◌∷◌, ◌++◌, length, Option, Some, None, ap, sym, ◌∙◌, arith}
use Rattle.std.specs.Io.KnownBytes.{append_known}
use Rattle.std.proofs.lemmas.Bool.{cases_lt}
use Rattle.std.proofs.lemmas.List.{length-append}
use Rattle.db_model.specs.Database.{Database}
use Rattle.run_model.proofs.Beginnings.{begins}
use Rattle.run_model.specs.Runs.{ReplyUnsaid, World, machine_from}
use Rattle.run_model.specs.Talk.{Talk, last_database, talk_output}
use Rattle.run_model.proofs.Talks.{output-append}

length_in : Option (List ℕ) → ℕ
length_in None = 0
length_in (Some bytes) = length bytes

no_less : {E : Type 0} (talk : Talk E) (db : Database) (entries : List E) (old new : World) (bytes : List ℕ)
    → old.held ≡ Some bytes → (a b : ReplyUnsaid (machine_from talk db) entries old new) → length a.front < length b.front → ⊥
unfolding length_in
no_less talk db entries old new bytes told a b less =
    let r = begins a.front b.front a.entry b.entry a.rest b.rest (sym a.split ∙ b.split) less in
    let start : Option (List ℕ) → List ℕ → ℕ = λ o t. length_in (append_known o t) in
    let here : length (bytes ++ (talk_output talk db a.front ++ a.written.part)) ≡ length (bytes ++ (talk_output talk db b.front ++ b.written.part)) =
    sym (ap (λ o. length_in (append_known o (talk_output talk db a.front ++ a.written.part))) told) ∙ sym (ap length_in a.written.held)
    ∙ ap length_in b.written.held ∙ ap (λ o. length_in (append_known o (talk_output talk db b.front ++ b.written.part))) told in
    let la = length-append bytes (talk_output talk db a.front ++ a.written.part) in
    let lb = length-append bytes (talk_output talk db b.front ++ b.written.part) in
    let pa = length-append (talk_output talk db a.front) a.written.part in
    let pb = length-append (talk_output talk db b.front) b.written.part in
    let whole : length (talk_output talk db (a.front ++ a.entry ∷ [])) ≡ length (talk_output talk db a.front ++ a.written.part ++ a.written.rest) = ap length a.written.split in
    let wa = length-append (talk_output talk db a.front ++ a.written.part) a.written.rest in
    let longer : length (talk_output talk db b.front) ≡ length (talk_output talk db (a.front ++ a.entry ∷ []) ++ talk_output talk (last_database talk db (a.front ++ a.entry ∷ [])) r.mid) =
    ap (λ es. length (talk_output talk db es)) r.is ∙ ap length (output-append talk db (a.front ++ a.entry ∷ []) r.mid) in
    let wl = length-append (talk_output talk db (a.front ++ a.entry ∷ [])) (talk_output talk (last_database talk db (a.front ++ a.entry ∷ [])) r.mid) in
    let some = a.written.some in
    omega (arith, here, la, lb, pa, pb, whole, wa, longer, wl, some)

pub one_place : {E : Type 0} (talk : Talk E) (db : Database) (entries : List E) (old new : World) (bytes : List ℕ)
    → old.held ≡ Some bytes → (a b : ReplyUnsaid (machine_from talk db) entries old new) → length a.front ≡ length b.front
one_place talk db entries old new bytes told a b = by_left (cases_lt (length a.front) (length b.front)) (cases_lt (length b.front) (length a.front))
  where
    by_left : ((length a.front < length b.front) ⊎ (length b.front ≤ length a.front)) → ((length b.front < length a.front) ⊎ (length a.front ≤ length b.front)) → length a.front ≡ length b.front
    by_left (inl h) other = absurd (no_less talk db entries old new bytes told a b h)
    by_left (inr h) (inl k) = absurd (no_less talk db entries old new bytes told b a k)
    by_left (inr h) (inr k) = omega (arith, h, k)
