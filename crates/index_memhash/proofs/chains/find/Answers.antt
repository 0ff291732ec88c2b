use Rattle.std.proofs.Common.{rules, arith}
use Rattle.index_memhash.proofs.Links.{found_own, found_rest, step_own, step_rest, step_less}
use Rattle.index_memhash.proofs.chains.find.Goals as goal

pub chain-init : goal.chain-init
chain-init c = record {
  own = found_own c.args.keys.now c.args.links.now c.args.last.now c.args.len c.args.key.now c.told-keys c.requires.few c.requires.chained c.link_before.result c.led_to-entry.result c.led_to-entry.ensures c.link_before.ensures.within c.link_before.ensures.chain;
  rest = found_rest c.args.keys.now c.args.links.now c.args.last.now c.args.len c.args.key.now c.told-keys c.requires.few c.requires.chained c.link_before.result c.led_to-entry.result c.led_to-entry.ensures c.link_before.ensures.within c.link_before.ensures.chain c.args.from c.link_before.ensures.before;
}

pub chain-smaller : goal.chain-smaller
chain-smaller c =
    let less = step_less c.args.keys.now c.args.links.now c.args.last.now c.args.len c.args.key.now c.told-keys c.requires.few c.requires.chained c.chain.entry c.led_to-entry-in-chain.result c.led_to-entry-in-chain.ensures c.chain-test.true (c.chain.invariant.own c.chain-test.true) in
    omega (arith, less)

pub chain-preserved : goal.chain-preserved
chain-preserved c = record {
  own = step_own c.args.keys.now c.args.links.now c.args.last.now c.args.len c.args.key.now c.told-keys c.requires.few c.requires.chained c.chain.entry c.led_to-entry-in-chain.result c.led_to-entry-in-chain.ensures c.chain-test.true (c.chain.invariant.own c.chain-test.true);
  rest = step_rest c.args.keys.now c.args.links.now c.args.last.now c.args.len c.args.key.now c.told-keys c.requires.few c.requires.chained c.chain.entry c.led_to-entry-in-chain.result c.led_to-entry-in-chain.ensures c.chain-test.true (c.chain.invariant.own c.chain-test.true) c.args.from (search rules) c.chain.invariant.rest;
}
