-- One more command is counted.
use Rattle.std.proofs.Common.{◌≡◌, ℕ, zero, suc, append_assoc, ⊎_elim, ◌+◌, ◌^◌, ◌≤◌, ◌<◌, List, [], ◌∷◌, ◌++◌, ap, sym, ◌∙◌, refl, subst, arith, false}
use Rattle.std.specs.Prelude.{IsOk}
use Rattle.std.proofs.lemmas.Bool.{cases_lt}
use Rattle.db_model.specs.declared.commands.Command.{Command}
use Rattle.db_model.specs.Database.{Database}
use Rattle.db_model.specs.Ahead.{is_refused}
use Rattle.db_model.specs.Step.{Reply, after_all, outcome, replies, step}
use Rattle.db_model.specs.Workload.{Tally, counted, first_commands, command_at, nothing, tally}
use Rattle.run_entries.specs.Carried.{Limits}
use Rattle.run_entries.proofs.Accepted.{accepted}
use Rattle.session_model.specs.declared.step.Outcome.{Outcome}
use Rattle.session_model.specs.Steps.{outcome_of}
use Rattle.run_generated.specs.Counted.{BreaksAtCommand, Counted, CountedUntil}
use Rattle.run_generated.proofs.FewRows.{one_row}

-- ---- at the end of a list

tally_more : (t : Tally) (rs : List Reply) (r : Reply) → tally t (rs ++ r ∷ []) ≡ counted (tally t rs) r
tally_more t [] r = refl
tally_more t (x ∷ rs) r = tally_more (counted t x) rs r

after_more : (db : Database) (cs : List Command) (c : Command) → after_all db (cs ++ c ∷ []) ≡ (step (after_all db cs) c).0
after_more db [] c = refl
after_more db (x ∷ cs) c = after_more ((step db x).0) cs c

replies_more : (db : Database) (cs : List Command) (c : Command) → replies db (cs ++ c ∷ []) ≡ replies db cs ++ (step (after_all db cs) c).1 ∷ []
replies_more db [] c = refl
replies_more db (x ∷ cs) c = ap (λ (rs : List Reply). (step db x).1 ∷ rs) (replies_more ((step db x).0) cs c)

-- ---- one more command

pub counted_more : (cs : List Command) (c : Command) (a b d : Database) (t u : Tally) → Counted cs a b t → d ≡ (step b c).0 → u ≡ counted t ((step b c).1)
    → Counted (cs ++ c ∷ []) a d u
counted_more cs c a b d t u so_far e f = record {
  database = e ∙ ap (λ (db : Database). (step db c).0) so_far.database ∙ sym (after_more a cs c);
  tally_is = f ∙ ap (λ (db : Database). counted t ((step db c).1)) so_far.database
      ∙ ap (λ (s : Tally). counted s ((step (after_all a cs) c).1)) so_far.tally_is
      ∙ sym (tally_more nothing (replies a cs) ((step (after_all a cs) c).1))
      ∙ ap (λ (rs : List Reply). tally nothing rs) (sym (replies_more a cs c));
}

-- ---- the first commands

pub first_more : (seed n : ℕ) → first_commands seed (n + 1) ≡ first_commands seed n ++ command_at seed n ∷ []
first_more seed n = let one : n + 1 ≡ suc n = omega arith in ap (first_commands seed) one

-- the commands behind one
pub record Behind (seed k n : ℕ) : Type 0 where
  pub rest : List Command
  pub split : first_commands seed n ≡ first_commands seed k ++ command_at seed k ∷ rest

behind_more : (seed k n : ℕ) → Behind seed k n → Behind seed k (suc n)
behind_more seed k n b = record {
  rest = b.rest ++ command_at seed n ∷ [];
  split = ap (λ (cs : List Command). cs ++ command_at seed n ∷ []) b.split ∙ append_assoc (first_commands seed k) (command_at seed k ∷ b.rest) (command_at seed n ∷ []);
}

pub behind : (seed k n : ℕ) → k < n → Behind seed k n
behind seed k zero below = absurd (omega (arith, below))
behind seed k (suc n) below = ⊎_elim (λ (lt : k < n). behind_more seed k n (behind seed k n lt)) last (cases_lt k n)
  where
    last : n ≤ k → Behind seed k (suc n)
    last le = let same : k ≡ n = omega (arith, le, below) in subst (λ (m : ℕ). Behind seed m (suc n)) (sym same) (record { rest = []; split = refl })

-- ---- a generated command

-- the next was carried out, and its reply was counted
module _ (seed k : ℕ) (c : Command) (is : c ≡ command_at seed k) (a b d : Database) (t u : Tally) (few : t.rows ≤ k) (below : k < 100000) (came : Outcome)
    (came_to : outcome_of ((step b c).1) ≡ came) (count : (reply : Reply) → outcome_of reply ≡ came → (counted t reply).rows < 2 ^ 64 → u ≡ counted t reply) where
  count_is : u ≡ counted t ((step b (command_at seed k)).1)
  count_is =
      let row = one_row b seed k t in
      count ((step b (command_at seed k)).1) (ap (λ (x : Command). outcome_of ((step b x).1)) (sym is) ∙ came_to) (omega (arith, row, few, below))

  pub counted_next : Counted (first_commands seed k) a b t → d ≡ (step b c).0 → Counted (first_commands seed (k + 1)) a d u
  counted_next so_far steps =
      subst (λ (cs : List Command). Counted cs a d u) (sym (first_more seed k))
      (counted_more (first_commands seed k) (command_at seed k) a b d t u so_far (steps ∙ ap (λ (x : Command). (step b x).0) is) count_is)

  pub rows_next : u.rows ≤ k + 1
  rows_next =
      let row = one_row b seed k t in
      let same : u.rows ≡ (counted t ((step b (command_at seed k)).1)).rows = ap (λ (x : Tally). x.rows) count_is in
      omega (arith, row, few, same)

-- the next found no space
pub stops_here : (limits : Limits) (seed k count n : ℕ) (c : Command) (a b d : Database) (t : Tally) → c ≡ command_at seed k
    → Counted (first_commands seed k) a b t → k < count → d ≡ b → IsOk (outcome b c) → limits.Lacks c n → CountedUntil limits (first_commands seed count) a d t n
stops_here limits seed k count n c a b d t is so_far below same ok lacks =
    let more = behind seed k count below in
    record {
      stops = record {
        front = first_commands seed k;
        command = c;
        rest = more.rest;
        split = more.split ∙ ap (λ (x : Command). first_commands seed k ++ x ∷ more.rest) (sym is);
        database = same ∙ so_far.database;
        accepted = subst (λ (db : Database). is_refused ((step db c).1) ≡ false) so_far.database (accepted b c ok);
        lacks = lacks;
      };
      tally_is = so_far.tally_is;
    }

-- the next broke off
pub breaks_here : (limits : Limits) (seed k count : ℕ) (c : Command) (a b : Database) (t : Tally) → c ≡ command_at seed k
    → Counted (first_commands seed k) a b t → k < count → limits.Breaks b c → BreaksAtCommand limits (first_commands seed count) a
breaks_here limits seed k count c a b t is so_far below breaks =
    let more = behind seed k count below in
    record {
      front = first_commands seed k;
      command = c;
      rest = more.rest;
      split = more.split ∙ ap (λ (x : Command). first_commands seed k ++ x ∷ more.rest) (sym is);
      breaks = subst (λ (db : Database). limits.Breaks db c) so_far.database breaks;
    }
