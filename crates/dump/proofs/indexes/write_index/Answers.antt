use Rattle.std.proofs.Common.{◌≡◌, List, ℕ, subst}
use Rattle.std.specs.Io.KnownBytes.{append_known}
use Rattle.std.proofs.lemmas.Result.{on_err_weaker, on_ok_weaker}
use Rattle.reply_text.specs.WroteLess.{WroteLess}
use Rattle.dump.proofs.IndexTexts.{attribute_there, index_line_is, relation_there}
use Rattle.dump.proofs.indexes.write_index.Goals as goal

pub returns-in-None-schema-clause-written : goal.returns-in-None-schema-clause-written
returns-in-None-schema-clause-written g c = λ sound.
    absurd (relation_there c.args.session.now.database sound c.args.id c.in-Some.ensures c.in-None-schema.ensures)

pub returns-in-None-get-clause-written : goal.returns-in-None-get-clause-written
returns-in-None-get-clause-written g c = λ sound.
    absurd (attribute_there c.args.session.now.database sound c.args.id c.in-Some.ensures c.in-Some-schema.ensures (rw c.as_slice.ensures.items at (rw c.from.ensures at c.in-None-get.ensures.lookup)).0)

pub returns-in-Some-get-clause-written : goal.returns-in-Some-get-clause-written
returns-in-Some-get-clause-written g c = λ sound.
    let lookup = rw c.as_slice.ensures.items at (rw c.from.ensures at c.in-Some-get.ensures.lookup) in
    let line = index_line_is c.args.session.now.database sound c.args.id c.in-Some.ensures c.in-Some-schema.ensures lookup.0 lookup.1 in
    on_ok_weaker c.write_index_line.result (λ e. subst (λ (t : List ℕ). g.K.Sink.held c.write_index_line.new.out ≡ append_known (g.K.Sink.held c.args.out.now) t) line e) c.write_index_line.ensures.written

pub returns-in-Some-get-clause-failed : goal.returns-in-Some-get-clause-failed
returns-in-Some-get-clause-failed g c = λ sound.
    let lookup = rw c.as_slice.ensures.items at (rw c.from.ensures at c.in-Some-get.ensures.lookup) in
    let line = index_line_is c.args.session.now.database sound c.args.id c.in-Some.ensures c.in-Some-schema.ensures lookup.0 lookup.1 in
    on_err_weaker c.write_index_line.result (λ w. subst (WroteLess (g.K.Sink.held c.args.out.now) (g.K.Sink.held c.write_index_line.new.out)) line w) c.write_index_line.ensures.failed
