use Rattle.std.proofs.Common.{rules, ◌≡◌, ◌≤◌, ◌+◌, ℕ, Some, None, false, is_some, get_or, set, refl, ap, sym, subst, ◌∙◌, arith, Ok}
use Rattle.afl_base.specs.Files.{State}
use Rattle.afl_base.proofs.SparingLaws.{takes_no_page_same}
use Rattle.db_model.specs.declared.commands.Command.TheVariants as command
use Rattle.db_model.specs.declared.refusals.Refusal.TheVariants as no
use Rattle.db_model.specs.Ahead.{aheads_after}
use Rattle.db_model.specs.Step.{Fine, outcome}
use Rattle.session_model.specs.declared.held.Open.{Open}
use Rattle.session_model.specs.Aheads.{aheads_of}
use Rattle.session_model.specs.Running.{IsRunning}
use Rattle.session_model.specs.View.{view}
use Rattle.session_model.proofs.Opens.{cursor_put}
use Rattle.session_cursors.proofs.Opened.{aheads_opened, costs_opened, failed_open, open_refused, open_stays, open_used, opened_one}
use Rattle.session_cursors.proofs.opening.open_cursor.Goals as goal

pub returns-then-is_open : goal.returns-then-is_open
returns-then-is_open g c =
    let state = g.V.Files.state c.args.base.now.files in
    let held = c.args.base.now.held in
    let opens = c.args.base.now.opens in
    let number = c.args.number.now in
    let query = c.args.query.now in
    let n = c.in-Some.place in
    let e = sym c.in-Some.ensures.place in
    record {
      carried = record {
        done = λ told. (
            (open_used state.files held opens number query n e (sym c.is_open.ensures ∙ c.if-is_open.true), refl)
            );
        running = search rules;
        ahead = λ told. (
            open_stays state.files held opens number query no.CursorOpen (open_used state.files held opens number query n e (sym c.is_open.ensures ∙ c.if-is_open.true))
            );
        tells = search rules;
        wants = search rules;
        lacks = search rules;
        spares = λ told none. tt;
        cut = search rules;
        untouched = search rules;
        same = search rules;
        reads = search rules;
        frame = search rules;
      };
      files_and_opens = refl;
    }

pub returns-in_err-opened : goal.returns-in_err-opened
returns-in_err-opened g c =
    let base = c.args.base.now in
    let state = g.V.Files.state base.files in
    let e = sym c.in-Some.ensures.place in
    let free : is_some (get_or base.opens c.in-Some.place None) ≡ false = sym c.is_open.ensures ∙ c.if-is_open.false in
    let costs = costs_opened state.files base.held base.opens c.args.number.now c.args.query.now c.in-Some.place e free c.in_err-opened.ensures.answered in
    record {
      carried = failed_open g.V.Files (command.OpenCursor c.args.number.now c.args.query.now) base (record base { files = c.open_query.new.files }) _ c.from_residual.result c.requires.running c.from_residual.ensures.0
          (λ told. subst (λ (m : ℕ). g.V.Files.reads c.open_query.new.files ≤ g.V.Files.reads base.files + m) (sym costs) c.in_err-opened.ensures.reads)
          c.in_err-opened.ensures.frame;
      files_and_opens = refl;
    }

pub returns-in-Ok : goal.returns-in-Ok
returns-in-Ok g c =
    let state = g.V.Files.state c.args.base.now.files in
    let tables = c.args.base.now.tables in
    let held = c.args.base.now.held in
    let opens = c.args.base.now.opens in
    let number = c.args.number.now in
    let query = c.args.query.now in
    let n = c.in-Some.place in
    let e = sym c.in-Some.ensures.place in
    let free : is_some (get_or opens n None) ≡ false = sym c.is_open.ensures ∙ c.if-is_open.false in
    let h = c.in_ok-opened.ensures in
    let o : Open = c.in-Ok.opened in
    record {
      carried = record {
        done = λ told. (
            let P : State → Type 0 = λ s. outcome (view state.files held opens) (command.OpenCursor number query) ≡ Ok (view s.files held (set opens n (Some o)), Fine) in
            subst P (sym h.frame.same) (opened_one state.files held opens number query n e free o ((rw c.in-Ok.is at h.begins) told))
            );
        running = (
            let P : State → Type 0 = λ s. IsRunning s tables held (set opens n (Some o)) in
            subst P (sym h.frame.same) (cursor_put state tables held opens n (Some o) c.requires.running c.in-Some.ensures.few (rw c.in-Ok.is at h.waits))
            );
        ahead = λ told. (
            let P : State → Type 0 = λ s. aheads_of s.files (set opens n (Some o)) ≡ aheads_after (view state.files held opens) (aheads_of state.files opens) (command.OpenCursor number query) in
            subst P (sym h.frame.same) (aheads_opened state.files held opens number query n e free o ((rw c.in-Ok.is at h.begins) told))
            );
        tells = search rules;
        wants = search rules;
        lacks = search rules;
        spares = λ told none. takes_no_page_same g.V.Files.is_free _ _ (ap (λ (s : State). s.store) h.frame.same);
        cut = search rules;
        untouched = search rules;
        same = search rules;
        reads = λ told r. (
            let begins = (rw c.in-Ok.is at h.begins) told in
            subst (λ (m : ℕ). g.V.Files.reads c.open_query.new.files ≤ g.V.Files.reads c.args.base.now.files + m)
            (sym (costs_opened state.files held opens number query n e free (rw begins.rows refl))) h.reads
            );
        frame = search rules;
      };
      files_and_opens = refl;
    }

pub returns-in-Err : goal.returns-in-Err
returns-in-Err g c =
    let state = g.V.Files.state c.args.base.now.files in
    let held = c.args.base.now.held in
    let opens = c.args.base.now.opens in
    let number = c.args.number.now in
    let query = c.args.query.now in
    let n = c.in-Some.place in
    let e = sym c.in-Some.ensures.place in
    let free : is_some (get_or opens n None) ≡ false = sym c.is_open.ensures ∙ c.if-is_open.false in
    let h = c.in_ok-opened.ensures in
    let refusal = c.in-Err.refusal in
    record {
      carried = record {
        done = λ told. (
            (open_refused state.files held opens number query n e free refusal (rw c.in-Err.is at h.refused), ap (λ (s : State). view s.files held opens) h.frame.same)
            );
        running = search rules;
        ahead = λ told. (
            let P : State → Type 0 = λ s. aheads_of s.files opens ≡ aheads_after (view state.files held opens) (aheads_of state.files opens) (command.OpenCursor number query) in
            subst P (sym h.frame.same) (open_stays state.files held opens number query refusal (open_refused state.files held opens number query n e free refusal (rw c.in-Err.is at h.refused)))
            );
        tells = search rules;
        wants = search rules;
        lacks = search rules;
        spares = λ told none. tt;
        cut = search rules;
        untouched = search rules;
        same = search rules;
        reads = λ told r. (
            let same = rw c.in-Err.is at c.in_ok-opened.ensures.unread in omega (arith, same)
            );
        frame = search rules;
      };
      files_and_opens = refl;
    }
