-- How the bytes of an input are cut into entries.
use Rattle.std.specs.Prelude.{◌≡◌, ℕ, List, [], ◌++◌}

-- which entries the bytes of an input are, and which of them are whole: a last one that nothing ends is not
pub record Line (E : Type 0) : Type 0 where
  pub all : List ℕ → List E
  pub whole : List ℕ → List E

-- the same, as the bytes come: what is begun before the first byte, and after further bytes; the entries that further bytes
-- end; and the entry that is left where the input ends
pub record Cut (E Q : Type 0) : Type 0 where
  pub start : Q
  pub begun : Q → List ℕ → Q
  pub ended : Q → List ℕ → List E
  pub left : Q → List E

-- bytes may come in any parts
pub record ComesInParts {E Q : Type 0} (cut : Cut E Q) (line : Line E) : Type 0 where
  pub no_more : (q : Q) → cut.begun q [] ≡ q
  pub none_ended : (q : Q) → cut.ended q [] ≡ []
  pub begun_on : (q : Q) (xs ys : List ℕ) → cut.begun q (xs ++ ys) ≡ cut.begun (cut.begun q xs) ys
  pub ended_on : (q : Q) (xs ys : List ℕ) → cut.ended q (xs ++ ys) ≡ cut.ended q xs ++ cut.ended (cut.begun q xs) ys
  pub all_is : (bytes : List ℕ) → line.all bytes ≡ cut.ended cut.start bytes ++ cut.left (cut.begun cut.start bytes)
  pub whole_is : (bytes : List ℕ) → line.whole bytes ≡ cut.ended cut.start bytes
