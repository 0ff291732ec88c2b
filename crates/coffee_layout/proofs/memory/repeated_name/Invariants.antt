use Rattle.std.proofs.Common.{◌≡◌, List, [], map, take, drop}
use Rattle.coffee_layout.specs.Files.{Placed, entry_with}
use Rattle.coffee_layout.specs.Rules.{first_repeated}
use Rattle.coffee_layout.proofs.memory.repeated_name.Given as goal

abbrev pub invariant-loop-i : goal.invariant-loop-i
invariant-loop-i l = (files : List Placed) → l.table ≡ map (λ f. entry_with f 0 0) files →
    first_repeated (map (λ f. f.header.name) (take l.i files)) (drop l.i files) ≡ first_repeated [] files
