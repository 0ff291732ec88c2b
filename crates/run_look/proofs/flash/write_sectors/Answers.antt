use Rattle.std.proofs.Common.{rules}
use Rattle.std.specs.Prelude.{codes}
use Rattle.std.proofs.lemmas.Result.{on_err_weaker, on_ok_weaker}
use Rattle.dump.proofs.Items.{held_behind}
use Rattle.run_look.specs.Text.{counted_words}
use Rattle.run_look.proofs.flash.write_sectors.Goals as goal
use Rattle.reply_text.proofs.Pieces.{less_behind, less_front}

pub returns-in_err-write_count-clause-failed : goal.returns-in_err-write_count-clause-failed
returns-in_err-write_count-clause-failed g c =
    let less = less_front (g.K.Sink.held c.args.out.now) _ (counted_words (codes "flash sectors ") c.args.sectors) (counted_words (codes " pages free ") c.args.free) (rw c.from.ensures at c.in_err-write_count.ensures.failed) in
    search (rules, less)

pub returns-clause-written : goal.returns-clause-written
returns-clause-written g c =
    on_ok_weaker c.write_count-2.result (λ e. held_behind (g.K.Sink.held c.args.out.now) (counted_words (codes "flash sectors ") c.args.sectors) (counted_words (codes " pages free ") c.args.free) (rw c.from.ensures at c.in_ok-write_count.ensures.written) e) (rw c.from-2.ensures at c.write_count-2.ensures.written)

pub returns-clause-failed : goal.returns-clause-failed
returns-clause-failed g c =
    on_err_weaker c.write_count-2.result (λ w. less_behind (g.K.Sink.held c.args.out.now) _ _ (counted_words (codes "flash sectors ") c.args.sectors) (counted_words (codes " pages free ") c.args.free) (rw c.from.ensures at c.in_ok-write_count.ensures.written) w) (rw c.from-2.ensures at c.write_count-2.ensures.failed)
