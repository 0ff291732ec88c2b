-- Rows about which one answer each was given.
use Rattle.std.proofs.Common.{arith}
use Rattle.std.proofs.Common.{◌≡◌, refl, sym, ap, subst, ◌∙◌, ℕ, suc, ◌+◌, ◌*◌, ◌≤◌, ◌<◌, Bool, true, false, List, [], ◌∷◌, ◌++◌, get_or, length, replicate}
use Rattle.std.specs.Prelude.{map, MatchBool, not, ◌&&◌, if◌then◌else◌}
use Rattle.afl_base.specs.Fields.{put_at}
use Rattle.db_model.specs.declared.schemas.Attribute.{Attribute}
use Rattle.db_model.specs.declared.values.Value.{Value}
use Rattle.db_model.specs.Row.{AllRowsSuit, AllSuit, Row, no_row, row_bytes, row_length, rows_bytes}
use Rattle.tuple_file.specs.Tuples.{AreAnswered, IsAnswered}
use Rattle.tuple_file.proofs.Drafted.{IsDrafted, drafted_all, drafted_more, drafted_none}
use Rattle.std.proofs.lemmas.Grind.{common_steps}

pub length-answered : (answers : ℕ → List Value → Bool → Type 0) (n : ℕ) (olds news : List Row) → AreAnswered answers n olds news → length news ≡ length olds
length-answered answers n [] [] all = refl
length-answered answers n [] (new ∷ news) all = absurd all
length-answered answers n (old ∷ olds) [] all = absurd all
length-answered answers n (old ∷ olds) (new ∷ news) all = ap suc (length-answered answers (n + 1) olds news all.1)

pub answered_more : (answers : ℕ → List Value → Bool → Type 0) (n : ℕ) (olds news : List Row) (old new : Row) → AreAnswered answers n olds news → IsAnswered (answers (n + length olds)) old new
    → AreAnswered answers n (olds ++ old ∷ []) (news ++ new ∷ [])
answered_more answers n [] [] old new all one =
    let here : n + 0 ≡ n = omega arith in
    (subst (λ (m : ℕ). IsAnswered (answers m) old new) here one, tt)
answered_more answers n [] (x ∷ news) old new all one = absurd all
answered_more answers n (o ∷ olds) [] old new all one = absurd all
answered_more answers n (o ∷ olds) (x ∷ news) old new all one =
    let on : n + suc (length olds) ≡ n + 1 + length olds = omega arith in
    (all.0, answered_more answers (n + 1) olds news old new all.1 (subst (λ (m : ℕ). IsAnswered (answers m) old new) on one))

-- a row is answered where it is live and stays live as the answer says, or was removed
pub answered_one : (answers : List Value → Bool → Type 0) (old : Row) (tuple : List Value) (live stays : Bool) → old ≡ record { tuple = tuple; live = live }
    → MatchBool live ((answer : Bool) × answers tuple answer × (stays ≡ not answer)) (stays ≡ false) → IsAnswered answers old (record { tuple = tuple; live = stays })
answered_one answers old tuple live stays read is = subst (λ (o : Row). IsAnswered answers o (made stays)) (sym read) (either live is)
  where
    made : Bool → Row
    made b = record { tuple = tuple; live = b }

    either : (b : Bool) → MatchBool b ((answer : Bool) × answers tuple answer × (stays ≡ not answer)) (stays ≡ false) → IsAnswered answers (made b) (made stays)
    either true said = (said.0, said.1, ap made said.2)
    either false gone = ap made gone

-- the live rows that pass a test are removed
abbrev pub without : (List Value → Bool) → List Row → List Row
without test = map {A = Row} {B = Row} (λ row. if row.live && test row.tuple then record row { live = false } else row)

-- where each answer about a live row is a test's, they are what is left
one_by : (attributes : List Attribute) (answers : List Value → Bool → Type 0) (test : List Value → Bool) (tuple : List Value) (live : Bool) (new : Row) → AllSuit attributes new.tuple
    → (live ≡ true → (answer : Bool) → AllSuit attributes tuple → answers tuple answer → answer ≡ test tuple) → IsAnswered answers (record { tuple = tuple; live = live }) new
    → new ≡ (if live && test tuple then record { tuple = tuple; live = false } else record { tuple = tuple; live = live })
one_by attributes answers test tuple false new suit is gone = gone
one_by attributes answers test tuple true new suit is said =
    let same : AllSuit attributes tuple = subst (λ (values : List Value). AllSuit attributes values) (ap (λ (row : Row). row.tuple) said.2) suit in
    said.2 ∙ either said.0 ∙ ap choice (is refl said.0 same said.1)
  where
    made : Bool → Row
    made b = record { tuple = tuple; live = b }

    choice : Bool → Row
    choice b = if b then made false else made true

    either : (b : Bool) → made (not b) ≡ choice b
    either true = refl
    either false = refl

-- the answers about the live rows are a test's
abbrev pub AnswersBy : List Attribute → (ℕ → List Value → Bool → Type 0) → (List Value → Bool) → ℕ → List Row → Type 0
AnswersBy attributes answers test n olds = (k : ℕ) (tuple : List Value) (answer : Bool) → k < length olds → get_or olds k no_row ≡ record { tuple = tuple; live = true }
    → AllSuit attributes tuple → answers (n + k) tuple answer → answer ≡ test tuple

first_by : (attributes : List Attribute) (answers : ℕ → List Value → Bool → Type 0) (test : List Value → Bool) (n : ℕ) (old : Row) (olds : List Row) → AnswersBy attributes answers test n (old ∷ olds)
    → old.live ≡ true → (answer : Bool) → AllSuit attributes old.tuple → answers n old.tuple answer → answer ≡ test old.tuple
first_by attributes answers test n old olds is live answer suits said =
    let here : n ≡ n + 0 = omega arith in
    is 0 old.tuple answer (omega arith) (ap (λ (b : Bool). record row { tuple = old.tuple; live = b }) live) suits (subst (λ (m : ℕ). answers m old.tuple answer) here said)
  where
    row : Row
    row = old

rest_by : (attributes : List Attribute) (answers : ℕ → List Value → Bool → Type 0) (test : List Value → Bool) (n : ℕ) (old : Row) (olds : List Row) → AnswersBy attributes answers test n (old ∷ olds)
    → AnswersBy attributes answers test (n + 1) olds
rest_by attributes answers test n old olds is k tuple answer below at suits said =
    let on : n + 1 + k ≡ n + suc k = omega arith in
    is (suc k) tuple answer (omega (arith, below)) at suits (subst (λ (m : ℕ). answers m tuple answer) on said)

pub answered_by : (attributes : List Attribute) (answers : ℕ → List Value → Bool → Type 0) (test : List Value → Bool) (n : ℕ) (olds news : List Row) → AllRowsSuit attributes news
    → AnswersBy attributes answers test n olds → AreAnswered answers n olds news → news ≡ without test olds
answered_by attributes answers test n [] [] suit is all = refl
answered_by attributes answers test n [] (new ∷ news) suit is all = absurd all
answered_by attributes answers test n (old ∷ olds) [] suit is all = absurd all
answered_by attributes answers test n (old ∷ olds) (new ∷ news) suit is all =
    let first = one_by attributes (answers n) test old.tuple old.live new suit.0 (first_by attributes answers test n old olds is) all.0 in
    let rest = answered_by attributes answers test (n + 1) olds news suit.1 (rest_by attributes answers test n old olds is) all.1 in
    ap (λ (row : Row). row ∷ news) first ∙ ap (λ (rows : List Row). (if old.live && test old.tuple then record old { live = false } else old) ∷ rows) rest

-- ---- a draft of n bytes that holds rows as the answers about the first ones say

pub record Rewritten (answers : ℕ → List Value → Bool → Type 0) (attributes : List Attribute) (n : ℕ) (olds : List Row) (draft : List ℕ) : Type 0 where
  pub news : List Row
  pub answered : AreAnswered answers 0 olds news
  pub drafted : IsDrafted attributes n news draft

pub rewritten_none : (answers : ℕ → List Value → Bool → Type 0) (attributes : List Attribute) (n : ℕ) → Rewritten answers attributes n [] (replicate n 0)
rewritten_none answers attributes n = record { news = []; answered = tt; drafted = drafted_none attributes n }

pub rewritten_more : (answers : ℕ → List Value → Bool → Type 0) (attributes : List Attribute) (n k : ℕ) (olds : List Row) (old new : Row) (draft after : List ℕ) → Rewritten answers attributes n olds draft → length olds ≡ k
    → row_length attributes * k + row_length attributes ≤ n → IsAnswered (answers k) old new → AllSuit attributes new.tuple → after ≡ put_at draft (row_length attributes * k) (row_bytes attributes new)
    → Rewritten answers attributes n (olds ++ old ∷ []) after
rewritten_more answers attributes n k olds old new draft after is many inside one suit written =
    let size = row_length attributes in
    let here : k ≡ 0 + length olds = omega (arith, many) in
    let count : length is.news ≡ k = length-answered answers 0 olds is.news is.answered ∙ many in
    let more = drafted_more attributes n is.news new draft is.drafted suit (subst (λ (m : ℕ). size * m + size ≤ n) (sym count) inside) in
    let same : put_at draft (size * length is.news) (row_bytes attributes new) ≡ after = ap (λ (m : ℕ). put_at draft (size * m) (row_bytes attributes new)) count ∙ sym written in
    record {
      news = is.news ++ new ∷ [];
      answered = answered_more answers 0 olds is.news old new is.answered (subst (λ (m : ℕ). IsAnswered (answers m) old new) here one);
      drafted = subst (IsDrafted attributes n (is.news ++ new ∷ [])) same more;
    }

pub rewritten_all : (answers : ℕ → List Value → Bool → Type 0) (attributes : List Attribute) (n k : ℕ) (olds : List Row) (draft : List ℕ) → Rewritten answers attributes n olds draft → length olds ≡ k
    → n ≡ row_length attributes * k → (news : List Row) × AreAnswered answers 0 olds news × AllRowsSuit attributes news × (draft ≡ rows_bytes attributes news)
rewritten_all answers attributes n k olds draft is many full = grind (arith, common_steps, length-answered, drafted_all)
