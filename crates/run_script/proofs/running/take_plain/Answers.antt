use Rattle.std.proofs.Common.{◌≡◌, List, ℕ, true, take, sym, subst, ◌∙◌}
use Rattle.std.specs.List.{list_all}
use Rattle.run_entries.proofs.Taken.{taken_silent}
use Rattle.run_script.specs.Gathers.{GathersPiece, is_plain}
use Rattle.run_script.specs.Input.{script_input}
use Rattle.run_script.proofs.Plain.{front_plain, none_ended, piece_grows, quoted_same}
use Rattle.run_script.proofs.running.take_plain.Goals as goal

pub returns-clause-takes : goal.returns-clause-takes
returns-clause-takes g c = λ out.
    let old = c.args.piece.now in
    let new = c.push_plain.new.self in
    let came = take c.push_plain.result c.args.bytes.now in
    let e = c.push_plain.ensures in
    let all : list_all (is_plain old.quoted) came ≡ true = subst (λ n. list_all (is_plain old.quoted) (take n c.args.bytes.now) ≡ true) (sym e.plain) (front_plain old.quoted c.args.bytes.now) in
    taken_silent script_input g.V.Files c.args.session.now old new out.held out.faults came
    (λ q k.
    let plain : list_all (is_plain q.0) came ≡ true = subst (λ quoted. list_all (is_plain quoted) came ≡ true) k.quoted_is all in
    record {
      quoted_is = e.quoted ∙ k.quoted_is ∙ sym (quoted_same q.0 came plain);
      gathers = subst (λ (p : List ℕ). GathersPiece p new.bytes.items new.long) (sym (piece_grows q.0 q.1 came plain)) (e.gathers q.1 k.gathers);
    })
    (λ q k. none_ended q.0 q.1 came (subst (λ quoted. list_all (is_plain quoted) came ≡ true) k.quoted_is all))
