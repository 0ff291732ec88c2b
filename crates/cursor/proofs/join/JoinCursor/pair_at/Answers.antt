use Rattle.std.proofs.Common.{rules, ◌≡◌, ◌+◌, ◌<◌, ◌≤◌, ◌∷◌, [], ◌∙◌, Bool, true, false, cond, ℕ, length, ap, subst, arith, nat_lt}
use Rattle.padded.proofs.Facts.{on_err}
use Rattle.tuple_file.specs.Tuples.{row, rows}
use Rattle.cursor.specs.Pairs.{FitsPairs, join_cost_ahead, join_cost_behind}
use Rattle.cursor.proofs.Joins.{fault_cost, left_cost, left_there, no_live, no_right, partner_costs, partner_fault, partner_fits, partner_pairs, row_stands, slot_made}
use Rattle.cursor.proofs.Suited.{count_rows}
use Rattle.cursor.proofs.join.JoinCursor.pair_at.Goals as goal

pub returns-then-is_over-clause-steps : goal.returns-then-is_over-clause-steps
returns-then-is_over-clause-steps g c = λ told fits.
    let state = g.V.Files.state c.args.files.now in
    let k = c.args.self.now in
    let next = c.is_over.ensures c.if-is_over.true state c.requires.may_read fits c.requires.here in (
      next,
      left_cost k (rows state.files k.left) (rows state.files k.right) (g.V.Files.reads c.args.files.now) (g.V.Files.reads c.args.files.now) c.requires.here
          next (omega arith),
    )

pub returns-then-not-branch-clause-steps : goal.returns-then-not-branch-clause-steps
returns-then-not-branch-clause-steps g c = λ told fits.
    let state = g.V.Files.state c.args.files.now in
    let k = c.args.self.now in
    let t = c.row.new.into in
    let read : row state.files k.left k.at ≡ record { tuple = t; live = c.in_ok-row.field-0 } =
    subst (λ (n : ℕ). row state.files k.left n ≡ record { tuple = t; live = c.in_ok-row.field-0 }) (slot_made k.at c.in-Some.slot (nat_lt k.at 32768) c.in-Some.ensures) (c.in_ok-row.ensures.row told) in
    let dead : c.in_ok-row.field-0 ≡ false = search rules in
    let next =
    no_live k (rows state.files k.left) (rows state.files k.right)
    (row_stands state k t c.in_ok-row.field-0 c.requires.may_read c.requires.here read ∙ ap (λ (b : Bool). cond b (t ∷ []) []) dead) in (
      next,
      left_cost k (rows state.files k.left) (rows state.files k.right) (g.V.Files.reads c.args.files.now) (g.V.Files.reads c.row.new.files) c.requires.here
          next (omega (arith, c.in_ok-row.ensures.reads)),
    )

pub returns-then-self-eq0-clause-steps : goal.returns-then-self-eq0-clause-steps
returns-then-self-eq0-clause-steps g c = λ told fits.
    let state = g.V.Files.state c.args.files.now in
    let k = c.args.self.now in
    let t = c.row.new.into in
    let read : row state.files k.left k.at ≡ record { tuple = t; live = c.in_ok-row.field-0 } =
    subst (λ (n : ℕ). row state.files k.left n ≡ record { tuple = t; live = c.in_ok-row.field-0 }) (slot_made k.at c.in-Some.slot (nat_lt k.at 32768) c.in-Some.ensures) (c.in_ok-row.ensures.row told) in
    let alive : c.in_ok-row.field-0 ≡ true = search rules in
    let nothing : k.right_slots ≡ 0 = search rules in
    let next =
    no_right k (rows state.files k.left) (rows state.files k.right) t
    (row_stands state k t c.in_ok-row.field-0 c.requires.may_read c.requires.here read ∙ ap (λ (b : Bool). cond b (t ∷ []) []) alive) nothing c.requires.may_read.within in (
      next,
      left_cost k (rows state.files k.left) (rows state.files k.right) (g.V.Files.reads c.args.files.now) (g.V.Files.reads c.row.new.files) c.requires.here
          next (omega (arith, c.in_ok-row.ensures.reads)),
    )

pub returns-in_err-row-clause-reads_err : goal.returns-in_err-row-clause-reads_err
returns-in_err-row-clause-reads_err g c = λ told.
    let state = g.V.Files.state c.args.files.now in
    let k = c.args.self.now in
    let lefts = rows state.files k.left in
    let rights = rows state.files k.right in
    let most : FitsPairs k state c.args.tables.now → g.V.Files.reads c.row.new.files + join_cost_behind k lefts rights ≤ g.V.Files.reads c.args.files.now + join_cost_ahead k lefts rights =
    λ fits. fault_cost k lefts rights (g.V.Files.reads c.args.files.now) (g.V.Files.reads c.row.new.files) c.requires.here (omega (arith, c.in_err-row.ensures.reads)) in
    on_err _ most

pub returns-in_err-found-clause-reads_err : goal.returns-in_err-found-clause-reads_err
returns-in_err-found-clause-reads_err g c = λ told.
    let state = g.V.Files.state c.args.files.now in
    let k = c.args.self.now in
    let t = c.row.new.into in
    let lefts = rows state.files k.left in
    let rights = rows state.files k.right in
    let read : row state.files k.left k.at ≡ record { tuple = t; live = c.in_ok-row.field-0 } =
    subst (λ (n : ℕ). row state.files k.left n ≡ record { tuple = t; live = c.in_ok-row.field-0 }) (slot_made k.at c.in-Some.slot (nat_lt k.at 32768) c.in-Some.ensures) (c.in_ok-row.ensures.row told) in
    let alive : c.in_ok-row.field-0 ≡ true = search rules in
    let some : 0 < k.right_slots = search rules in
    let few : k.right_slots ≤ length rights = omega (arith, c.requires.may_read.right_slots some, count_rows state k.right) in
    let stands = row_stands state k t c.in_ok-row.field-0 c.requires.may_read c.requires.here read ∙ ap (λ (b : Bool). cond b (t ∷ []) []) alive in
    let most : FitsPairs k state c.args.tables.now → g.V.Files.reads c.next_partner.new.files + join_cost_behind k lefts rights ≤ g.V.Files.reads c.args.files.now + join_cost_ahead k lefts rights =
    λ fits. partner_fault k lefts rights t stands c.requires.may_read.within few (g.V.Files.reads c.args.files.now) (g.V.Files.reads c.row.new.files) (g.V.Files.reads c.next_partner.new.files) c.requires.here
    c.in_ok-row.ensures.reads ((rw (c.in_ok-row.ensures.frame.same, c.value_at.ensures) at c.in_err-found.ensures.reads_err) told (fits.indexes some) (fits.inner some)) in
    on_err _ most

pub returns-clause-steps : goal.returns-clause-steps
returns-clause-steps g c = λ told fits.
    let state = g.V.Files.state c.args.files.now in
    let k = c.args.self.now in
    let t = c.row.new.into in
    let lefts = rows state.files k.left in
    let rights = rows state.files k.right in
    let read : row state.files k.left k.at ≡ record { tuple = t; live = c.in_ok-row.field-0 } =
    subst (λ (n : ℕ). row state.files k.left n ≡ record { tuple = t; live = c.in_ok-row.field-0 }) (slot_made k.at c.in-Some.slot (nat_lt k.at 32768) c.in-Some.ensures) (c.in_ok-row.ensures.row told) in
    let alive : c.in_ok-row.field-0 ≡ true = search rules in
    let some : 0 < k.right_slots = search rules in
    let few : k.right_slots ≤ length rights = omega (arith, c.requires.may_read.right_slots some, count_rows state k.right) in
    let stands = row_stands state k t c.in_ok-row.field-0 c.requires.may_read c.requires.here read ∙ ap (λ (b : Bool). cond b (t ∷ []) []) alive in
    let next =
    partner_pairs k lefts rights t stands c.requires.may_read.within few c.in_ok-found.found c.next_partner.new.into
    ((rw (c.in_ok-row.ensures.frame.same, c.value_at.ensures) at c.in_ok-found.ensures.finds) told (fits.indexes some) (fits.inner some) (fits.ahead some t stands)).0
    ((rw c.in_ok-row.ensures.frame.same at c.in_ok-found.ensures.row) told) c.in_ok-found.ensures.below in (
      next,
      partner_costs k lefts rights t stands c.requires.may_read.within few c.in_ok-found.found c.next_partner.new.into
          (g.V.Files.reads c.args.files.now) (g.V.Files.reads c.row.new.files) (g.V.Files.reads c.next_partner.new.files) c.requires.here c.in_ok-row.ensures.reads
          next
          ((rw (c.in_ok-row.ensures.frame.same, c.value_at.ensures) at c.in_ok-found.ensures.reads) told (fits.indexes some) (fits.inner some)),
    )

pub returns-clause-fits : goal.returns-clause-fits
returns-clause-fits g c = λ told fits.
    let state = g.V.Files.state c.args.files.now in
    let k = c.args.self.now in
    let t = c.row.new.into in
    let read : row state.files k.left k.at ≡ record { tuple = t; live = c.in_ok-row.field-0 } =
    subst (λ (n : ℕ). row state.files k.left n ≡ record { tuple = t; live = c.in_ok-row.field-0 }) (slot_made k.at c.in-Some.slot (nat_lt k.at 32768) c.in-Some.ensures) (c.in_ok-row.ensures.row told) in
    let alive : c.in_ok-row.field-0 ≡ true = search rules in
    let some : 0 < k.right_slots = search rules in
    let stands = row_stands state k t c.in_ok-row.field-0 c.requires.may_read c.requires.here read ∙ ap (λ (b : Bool). cond b (t ∷ []) []) alive in
    partner_fits k state c.args.tables.now t fits stands c.in_ok-found.found
    ((rw (c.in_ok-row.ensures.frame.same, c.value_at.ensures) at c.in_ok-found.ensures.finds) told (fits.indexes some) (fits.inner some) (fits.ahead some t stands)).1

pub returns-clause-left_row : goal.returns-clause-left_row
returns-clause-left_row g c = λ told.
    let state = g.V.Files.state c.args.files.now in
    let k = c.args.self.now in
    let t = c.row.new.into in
    let read : row state.files k.left k.at ≡ record { tuple = t; live = c.in_ok-row.field-0 } =
    subst (λ (n : ℕ). row state.files k.left n ≡ record { tuple = t; live = c.in_ok-row.field-0 }) (slot_made k.at c.in-Some.slot (nat_lt k.at 32768) c.in-Some.ensures) (c.in_ok-row.ensures.row told) in
    let alive : c.in_ok-row.field-0 ≡ true = search rules in
    left_there state k t c.in_ok-row.field-0 c.requires.may_read c.requires.here read alive c.in_ok-found.found
