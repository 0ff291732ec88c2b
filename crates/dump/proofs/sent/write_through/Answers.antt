use Rattle.std.proofs.Common.{rules}
use Rattle.buffered_sink.proofs.Fronts.{front_sent, less_sent, less_unsent}
use Rattle.dump.proofs.SentLines.{part_of_part, relation_some}
use Rattle.dump.proofs.sent.write_through.Goals as goal

pub returns-in-Err-clause-wrote : goal.returns-in-Err-clause-wrote
returns-in-Err-clause-wrote g c = λ told sound.
    let e = c.in-Err.ensures in
    let grew = c.write_lines.new.out.grew _ c.requires.now in
    let wrote = less_sent _ _ _ _ _ _ _ c.requires.none grew e.hands e.some (c.in-Ok.ensures.wrote told sound) (relation_some c.args.session.now.database c.args.id c.args.schema.now c.requires.schema) in
    search (rules, wrote)

pub returns-in-Err-Flash-clause-wrote : goal.returns-in-Err-Flash-clause-wrote
returns-in-Err-Flash-clause-wrote g c = λ told sound.
    let e = c.in-Err-Flash.ensures in
    let grew = c.write_lines.new.out.grew _ c.requires.now in
    let wrote = part_of_part _ _ _ _ _ c.requires.none (front_sent _ _ _ _ _ grew c.flush-sent.ensures.hands) (rw c.in-Err-Flash.field-0-is at (e.wrote told sound)) in
    search (rules, wrote)

pub returns-in-Err-Sink-clause-wrote : goal.returns-in-Err-Sink-clause-wrote
returns-in-Err-Sink-clause-wrote g c = λ told sound.
    let e = c.in-Err-Sink.ensures in
    let grew = c.write_lines.new.out.grew _ c.requires.now in
    let wrote = less_unsent _ _ _ _ _ c.requires.none grew (rw c.in-Err-Sink.field-0-is at (e.wrote told sound)) in
    search (rules, wrote)
