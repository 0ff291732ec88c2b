-- What the machine finds at the number of a cursor, and what a command moves.
use Rattle.std.proofs.Common.{◌≡◌, ℕ, zero, suc, ℤ, Bool, false, cond, List, [], ◌∷◌, map, set, get_or, Option, Some, None, refl, ap, ◌∙◌, Ok, Err}
use Rattle.std.specs.Prelude.{IsSome, option_map}
use Rattle.std.proofs.lemmas.Bool.{false≢true}
use Rattle.std.proofs.lemmas.List.{map-set}
use Rattle.afl_base.specs.Files.{Table}
use Rattle.db_model.specs.declared.commands.Command.{Command}
use Rattle.db_model.specs.declared.refusals.Refusal.{Refusal}
use Rattle.db_model.specs.Ahead.{Ahead, Aheads, ahead_of, aheads_after, cost_of, is_refused, moved, price, with_ahead}
use Rattle.db_model.specs.Database.{Cursor, Database, cursor_at, cursor_place}
use Rattle.db_model.specs.Step.{Outcome, Reply, open_cursor_of, outcome, replied}
use Rattle.session_model.specs.declared.held.Held.{Held}
use Rattle.session_model.specs.declared.held.Open.{Open}
use Rattle.session_model.specs.Aheads.{ahead_in, aheads_of}
use Rattle.session_model.specs.View.{cursor_in, view}

-- ---- slots

pub mapped_at : {A B : Type 0} (f : A → B) (slots : List (Option A)) (n : ℕ) (o : Option A) → get_or slots n None ≡ o → get_or (map (option_map f) slots) n None ≡ option_map f o
mapped_at f [] n o e = ap (option_map f) e
mapped_at f (a ∷ slots) zero o e = ap (option_map f) e
mapped_at f (a ∷ slots) (suc n) o e = mapped_at f slots n o e

-- an option that is used
pub record Used {A : Type 0} (o : Option A) : Type 0 where
  pub item : A
  pub is : o ≡ Some item

pub used_there : {A : Type 0} (o : Option A) → IsSome o → Used o
used_there None e = absurd (false≢true e)
used_there (Some a) e = record { item = a; is = refl }

-- ---- the cursor of a number

module _ (db : Database) (number : ℤ) where
  pub is_open : (n : ℕ) (c : Cursor) → cursor_place number ≡ Some n → cursor_at db n ≡ Some c → open_cursor_of db number ≡ Ok (n, c)
  is_open n c e there = rw (e, there) refl

pub is_open_in : (files : Table) (held : Held) (opens : List (Option Open)) (number : ℤ) (n : ℕ) (o : Open) → cursor_place number ≡ Some n → get_or opens n None ≡ Some o
    → open_cursor_of (view files held opens) number ≡ Ok (n, cursor_in files o)
is_open_in files held opens number n o e there = is_open (view files held opens) number n (cursor_in files o) e (mapped_at (cursor_in files) opens n (Some o) there)

-- ---- what is ahead

pub ahead_there : (aheads : Aheads) (number : ℤ) (n : ℕ) (a : Option Ahead) → cursor_place number ≡ Some n → get_or aheads n None ≡ a → ahead_of aheads number ≡ a
ahead_there aheads number n a e there = rw e there

pub ahead_set : (aheads : Aheads) (number : ℤ) (n : ℕ) (a : Option Ahead) → cursor_place number ≡ Some n → with_ahead aheads number a ≡ set aheads n a
ahead_set aheads number n a e = rw e refl

pub aheads_put : (files : Table) (opens : List (Option Open)) (n : ℕ) (o : Option Open) → aheads_of files (set opens n o) ≡ set (aheads_of files opens) n (option_map (ahead_in files) o)
aheads_put files opens n o = map-set (option_map (ahead_in files)) opens n o

-- ---- refused or not

pub refused_stays : (db : Database) (aheads : Aheads) (c : Command) (r : Refusal) → outcome db c ≡ Err r → aheads_after db aheads c ≡ aheads
refused_stays db aheads c r e = ap (λ (o : Outcome). cond (is_refused (replied db o).1) aheads (moved db aheads c)) e

pub done_moves : (db new : Database) (aheads : Aheads) (c : Command) (reply : Reply) → outcome db c ≡ Ok (new, reply) → is_refused reply ≡ false → aheads_after db aheads c ≡ moved db aheads c
done_moves db new aheads c reply e fine =
    ap (λ (o : Outcome). cond (is_refused (replied db o).1) aheads (moved db aheads c)) e ∙ ap (λ (b : Bool). cond b aheads (moved db aheads c)) fine

pub done_costs : (db new : Database) (aheads : Aheads) (c : Command) (reply : Reply) → outcome db c ≡ Ok (new, reply) → is_refused reply ≡ false → cost_of db aheads c ≡ price db aheads c
done_costs db new aheads c reply e fine =
    ap (λ (o : Outcome). cond (is_refused (replied db o).1) 0 (price db aheads c)) e ∙ ap (λ (b : Bool). cond b 0 (price db aheads c)) fine
