use Rattle.std.proofs.Common.{drop}
use Rattle.std.proofs.lemmas.Bool.Decides.{Decides-at}
use Rattle.std.proofs.lemmas.List.{take_rest}
use Rattle.std.proofs.lemmas.Slice.Eq.{bytes_eq-Decides}
use Rattle.stored_survey.proofs.emptied.has_end.Goals as goal

pub returns : goal.returns
returns c = record {
  is = Decides-at _ _ (rw (take_rest c.args.bytes.now c.args.at, take_rest c.args.other.now c.args.at) at c.eq.ensures) (bytes_eq-Decides (drop c.args.at c.args.bytes.now) (drop c.args.at c.args.other.now));
}
