use Rattle.std.proofs.Common.{◌≤◌, ◌<◌, length, arith}
use Rattle.std.proofs.lemmas.Bool.Decides.{nat_tests}
use Rattle.std.proofs.lemmas.List.Elements.{All-push}
use Rattle.coffee_layout.specs.Files.{entry_with}
use Rattle.coffee_layout.specs.Walks.{IsPlaced}
use Rattle.coffee_layout.proofs.Listing.{sketched_full, sketched_more}
use Rattle.coffee_layout.proofs.units.list_file.Goals as goal

pub returns-then-is_full : goal.returns-then-is_full
returns-then-is_full c = record {
  listed = λ files s.
      let full : 32 ≤ length c.args.table.now.items = grind (arith, nat_tests) in
      rw c.or.ensures (sketched_full c.args.table.now.items c.args.extra files (record { page = c.args.page; header = c.args.header.now }) full s);
  placed = λ pages inside all. all;
}

pub returns : goal.returns
returns c = record {
  listed = λ files s.
      let room : length c.args.table.now.items < 32 = grind (arith, nat_tests) in
      rw (c.push.ensures.items, c.sketch.ensures) (sketched_more c.args.table.now.items c.args.extra files (record { page = c.args.page; header = c.args.header.now }) room s);
  placed = λ pages inside all. rw (c.push.ensures.items, c.sketch.ensures) (All-push (λ e. IsPlaced pages e) c.args.table.now.items (entry_with (record { page = c.args.page; header = c.args.header.now }) 0 0) all inside);
}
