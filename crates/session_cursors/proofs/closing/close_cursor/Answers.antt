use Rattle.std.proofs.Common.{rules, None, refl}
use Rattle.session_model.proofs.Opens.{cursor_put}
use Rattle.session_cursors.proofs.Closed.{close_refused, closed, closed_aheads, refused_aheads}
use Rattle.session_cursors.proofs.closing.close_cursor.Goals as goal

pub returns-in-Some : goal.returns-in-Some
returns-in-Some g c =
    let base = c.args.base.now in
    let state = g.V.Files.state base.files in
    let h = c.in-Some.ensures in
    let done = closed state.files base.held base.opens c.args.number.now c.in-Some.place h.place h.there in
    let ahead = closed_aheads state.files base.held base.opens c.args.number.now c.in-Some.place h.place h.there in
    record {
      carried = record {
        done = λ told. done;
        running = cursor_put state base.tables base.held base.opens c.in-Some.place None c.requires.running c.in-Some.ensures.few tt;
        ahead = λ told. ahead;
        tells = search rules;
        wants = search rules;
        lacks = search rules;
        spares = λ told none page free. free;
        cut = search rules;
        untouched = search rules;
        same = search rules;
        reads = search rules;
        frame = search rules;
      };
      opens_only = refl;
      done = done;
      ahead = ahead;
    }

pub returns-in-None : goal.returns-in-None
returns-in-None g c =
    let base = c.args.base.now in
    let state = g.V.Files.state base.files in
    let refused = c.in-None.ensures.refused refl state.files base.held in
    let ahead = refused_aheads state.files base.held base.opens c.args.number.now refused in
    record {
      carried = record {
        done = λ told. (close_refused state.files base.held base.opens c.args.number.now refused, refl);
        running = search rules;
        ahead = λ told. ahead;
        tells = search rules;
        wants = search rules;
        lacks = search rules;
        spares = λ told none. tt;
        cut = search rules;
        untouched = search rules;
        same = search rules;
        reads = search rules;
        frame = search rules;
      };
      opens_only = refl;
      done = (close_refused state.files base.held base.opens c.args.number.now refused, refl);
      ahead = ahead;
    }
