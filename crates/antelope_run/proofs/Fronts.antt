-- The whole entries of the first bytes of an input are the first of its entries.
use Rattle.std.proofs.Common.{◌≡◌, ◌⊎◌, inl, inr, ℕ, List, [], ◌++◌, Option, Some, None, refl, ap, sym, ◌∙◌, append_assoc}
use Rattle.std.specs.Io.KnownBytes.{prepend_known, IsAtEnd}
use Rattle.std.proofs.lemmas.List.{append-nil}
use Rattle.run_model.specs.Line.{ComesInParts, Cut, Line}

-- all entries begin with the whole ones of any first bytes
pub record HasFronts {E : Type 0} (line : Line E) : Type 0 where
  pub fronts : (came more : List ℕ) → (rest : List E) × (line.all (came ++ more) ≡ line.whole came ++ rest)

pub has_fronts : {E Q : Type 0} (cut : Cut E Q) (line : Line E) → ComesInParts cut line → HasFronts line
has_fronts cut line parts = record {
  fronts = λ came more.
      let q = cut.begun cut.start came in
      let ended = cut.ended cut.start came in
      let behind = cut.ended q more in
      let last = cut.left (cut.begun q more) in (
        behind ++ last,
        parts.all_is (came ++ more) ∙ ap (λ es. es ++ cut.left (cut.begun cut.start (came ++ more))) (parts.ended_on cut.start came more)
            ∙ ap (λ p. (ended ++ behind) ++ cut.left p) (parts.begun_on cut.start came more)
            ∙ append_assoc ended behind last
            ∙ ap (λ es. es ++ (behind ++ last)) (sym (parts.whole_is came)),
      );
}

-- what came, and what is left, are the text
came_front : (text bytes : List ℕ) (left left_now : Option (List ℕ)) → left ≡ Some text → left ≡ prepend_known bytes left_now → (more : List ℕ) × (left_now ≡ Some more) × (text ≡ bytes ++ more)
came_front text bytes left None told came = absurd (let e : Some text ≡ None = sym told ∙ came in let n : ⊥ = cc in n)
came_front text bytes left (Some more) told came = (more, refl, (let e : Some text ≡ Some (bytes ++ more) = sym told ∙ came in cc))

module _ {E : Type 0} (line : Line E) (has : HasFronts line) (text : List ℕ) (left left_now : Option (List ℕ)) (told : left ≡ Some text) where
  -- entries of first bytes are first entries
  pub whole_front : (bytes : List ℕ) → left ≡ prepend_known bytes left_now → (rest : List E) × (line.all text ≡ line.whole bytes ++ rest)
  whole_front bytes came =
      let c = came_front text bytes left left_now told came in
      let f = has.fronts bytes c.0 in
      (f.0, ap line.all c.2 ∙ f.1)

  pub all_front : (bytes : List ℕ) → left ≡ prepend_known bytes left_now → IsAtEnd left_now → (rest : List E) × (line.all text ≡ line.all bytes ++ rest)
  all_front bytes came end =
      let c = came_front text bytes left left_now told came in
      let none : c.0 ≡ [] = (let e : IsAtEnd (Some c.0) = (rw c.1 at end) in e) in
      ([], ap line.all (c.2 ∙ ap (λ more. bytes ++ more) none ∙ append-nil bytes) ∙ sym (append-nil (line.all bytes)))

  pub entries_front : (bytes : List ℕ) (entries : List E) → left ≡ prepend_known bytes left_now → (entries ≡ line.whole bytes) ⊎ ((entries ≡ line.all bytes) × IsAtEnd left_now)
      → (rest : List E) × (line.all text ≡ entries ++ rest)
  entries_front bytes entries came (inl is) = let f = whole_front bytes came in (f.0, f.1 ∙ ap (λ es. es ++ f.0) (sym is))
  entries_front bytes entries came (inr both) = let f = all_front bytes came both.1 in (f.0, f.1 ∙ ap (λ es. es ++ f.0) (sym both.0))

  pub longer_front : (bytes more : List ℕ) → left ≡ prepend_known (bytes ++ more) left_now → (rest : List E) × (line.all text ≡ line.whole bytes ++ rest)
  longer_front bytes more came =
      let c = came_front text (bytes ++ more) left left_now told came in
      let f = has.fronts bytes (more ++ c.0) in
      (f.0, ap line.all (c.2 ∙ append_assoc bytes more c.0) ∙ f.1)
