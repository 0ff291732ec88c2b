use Rattle.session_indexes.proofs.Effects.{tree_made}
use Rattle.session_indexes.proofs.making.make_tree.Goals as goal

pub returns-clause-made : goal.returns-clause-made
returns-clause-made g c = λ tables xs.
    tree_made (g.V.Files.state c.args.files.now) (g.V.Files.state c.add_tree.new.files) tables xs c.args.cat c.args.tuples.now c.args.site.now c.in_ok-file.file c.requires.ready c.in_ok-file.ensures.put
