-- What cursors have still to answer, where rows come behind the others.
use Rattle.std.proofs.Common.{◌≡◌, ℕ, zero, suc, ◌+◌, ◌-◌, ◌<◌, ◌≤◌, Bool, true, false, cond, List, [], ◌∷◌, ◌++◌, length, map, take, drop, filter, get_or, refl, ap, ◌∙◌, arith}
use Rattle.std.specs.List.{range_with_len}
use Rattle.db_model.specs.declared.values.Value.{Value}
use Rattle.db_model.specs.Row.{Row, no_row}
use Rattle.index_set.specs.declared.candidates.Candidates.{Candidates}
use Rattle.index_set.specs.Walks.{RowsGrow, Waits, ahead, search_takes}
use Rattle.index_set.proofs.Grown.{ahead_kept}
use Rattle.cursor.specs.Pairs.{matching, pairs_left}
use Rattle.cursor.specs.Remaining.{is_live_and, passes_code, remaining, slots_to_answer, tuples_at}
use Rattle.cursor.specs.declared.join.JoinCursor.{JoinCursor}
use Rattle.cursor.specs.declared.select.SelectCursor.{SelectCursor}
use Rattle.padded.proofs.Facts.{cond_alike}
use Rattle.cursor.proofs.Waiting.{reads_step}

-- ---- slots

-- of the slots that pass a test, those that pass another, where this is the same below a number
filtered : (f g : ℕ → Bool) (b : Bool) (a : ℕ) (rest : List ℕ) → f a ≡ g a → filter f rest ≡ filter g rest → filter f (cond b (a ∷ rest) rest) ≡ filter g (cond b (a ∷ rest) rest)
filtered f g true a rest e same = cond_alike (f a) (g a) e a (filter f rest) (filter g rest) same
filtered f g false a rest e same = same

filters_same : (p f g : ℕ → Bool) (a n m : ℕ) → a + n ≤ m → ((i : ℕ) → i < m → f i ≡ g i) → filter f (filter p (range_with_len a n)) ≡ filter g (filter p (range_with_len a n))
filters_same p f g a zero m h same = refl
filters_same p f g a (suc n) m h same =
    filtered f g (p a) a (filter p (range_with_len (a + 1) n)) (same a (omega arith)) (filters_same p f g (a + 1) n m (omega arith) same)

chosen : (f g : ℕ → List Value) (q : ℕ → Bool) (b : Bool) (a : ℕ) (rest : List ℕ) → f a ≡ g a → map f (filter q rest) ≡ map g (filter q rest) → map f (filter q (cond b (a ∷ rest) rest)) ≡ map g (filter q (cond b (a ∷ rest) rest))
chosen f g q true a rest e same = reads_step f g (q a) a (filter q rest) e same
chosen f g q false a rest e same = same

reads_same : (p q : ℕ → Bool) (f g : ℕ → List Value) (a n m : ℕ) → a + n ≤ m → ((i : ℕ) → i < m → f i ≡ g i) → map f (filter q (filter p (range_with_len a n))) ≡ map g (filter q (filter p (range_with_len a n)))
reads_same p q f g a zero m h same = refl
reads_same p q f g a (suc n) m h same =
    chosen f g q (p a) a (filter p (range_with_len (a + 1) n)) (same a (omega arith)) (reads_same p q f g (a + 1) n m (omega arith) same)

-- ---- cursors of one relation

pub slots_left_kept : (c : SelectCursor) (old new : List Row) → RowsGrow old new → Waits c.candidates old → slots_to_answer c new ≡ slots_to_answer c old
slots_left_kept c old new grow w =
    ap (filter (λ slot. is_live_and (passes_code c.code) (get_or new slot no_row))) (ahead_kept c.candidates old new grow w)
    ∙ filters_same (λ slot. search_takes c.candidates.search (get_or old slot no_row))
    (λ slot. is_live_and (passes_code c.code) (get_or new slot no_row)) (λ slot. is_live_and (passes_code c.code) (get_or old slot no_row))
    c.candidates.from (c.candidates.slots - c.candidates.from) (length old) (omega (arith, w.few, c.candidates.order, c.candidates.within))
    (λ i below. ap (is_live_and (passes_code c.code)) (grow.same i below))

pub remaining_kept : (c : SelectCursor) (old new : List Row) → RowsGrow old new → Waits c.candidates old → remaining c new ≡ remaining c old
remaining_kept c old new grow w =
    ap (λ (slots : List ℕ). tuples_at slots new) (slots_left_kept c old new grow w)
    ∙ reads_same (λ slot. search_takes c.candidates.search (get_or old slot no_row)) (λ slot. is_live_and (passes_code c.code) (get_or old slot no_row))
    (λ slot. (get_or new slot no_row).tuple) (λ slot. (get_or old slot no_row).tuple)
    c.candidates.from (c.candidates.slots - c.candidates.from) (length old) (omega (arith, w.few, c.candidates.order, c.candidates.within))
    (λ i below. ap (λ (row : Row). row.tuple) (grow.same i below))

pub ahead_none : (c : Candidates) (all : List Row) → c.slots ≡ 0 → ahead c all ≡ []
ahead_none c all e =
    let few : c.slots - c.from ≡ 0 = omega (arith, e) in
    ap (λ (n : ℕ). filter (λ slot. search_takes c.search (get_or all slot no_row)) (range_with_len c.from n)) few

-- ---- cursors of two relations

pub take_kept : (n : ℕ) (old new : List Row) → n ≤ length old → length old ≤ length new → ((i : ℕ) → i < length old → get_or new i no_row ≡ get_or old i no_row) → take n new ≡ take n old
take_kept zero old new few more same = refl
take_kept (suc n) [] new few more same = absurd (omega (arith, few))
take_kept (suc n) (a ∷ old) [] few more same = absurd (omega (arith, more))
take_kept (suc n) (a ∷ old) (b ∷ new) few more same =
    λ i. same 0 (omega arith) i ∷ take_kept n old new (omega (arith, few)) (omega (arith, more)) (λ j below. same (suc j) (omega (arith, below))) i

-- the rows of the slots that a side had are the same
pub side_kept : (n : ℕ) (old new : List Row) → (0 < n → RowsGrow old new × (n ≤ length old)) → take n new ≡ take n old
side_kept zero old new h = refl
side_kept (suc n) old new h = let g = h (omega arith) in take_kept (suc n) old new g.1 g.0.more g.0.same

abbrev pairs_by : JoinCursor → List Row → List Row → List (List Value × List Value)
pairs_by c lefts rights =
    matching c.left_on c.right_on (take 1 (drop c.at lefts)) (drop c.from rights) ++ matching c.left_on c.right_on (drop (c.at + 1) lefts) rights

pub pairs_kept : (c : JoinCursor) (lefts rights lefts_now rights_now : List Row) → (0 < c.left_slots → RowsGrow lefts lefts_now × (c.left_slots ≤ length lefts))
    → (0 < c.right_slots → RowsGrow rights rights_now × (c.right_slots ≤ length rights)) → pairs_left c lefts_now rights_now ≡ pairs_left c lefts rights
pairs_kept c lefts rights lefts_now rights_now a b =
    let l = side_kept c.left_slots lefts lefts_now a in
    let s = side_kept c.right_slots rights rights_now b in
    λ i. pairs_by c (l i) (s i)
