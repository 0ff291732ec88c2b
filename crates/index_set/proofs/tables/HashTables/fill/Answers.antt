use Rattle.std.proofs.Common.{rules, arith, ◌≡◌, ◌∙◌, ◌∷◌, ◌++◌, [], sym, ap, length, ℤ, List, length-append, map}
use Rattle.std.specs.Prelude.{FitsSigned}
use Rattle.std.specs.Int.{w32}
use Rattle.std.specs.List.{range_with_len}
use Rattle.std.proofs.lemmas.Int.{to_z-of_z}
use Rattle.std.proofs.lemmas.List.FromFn.{map-range_with_len_more}
use Rattle.afl_base.specs.KeyColumn.{key_of}
use Rattle.index_set.specs.Tables.{entries}
use Rattle.index_set.proofs.tables.HashTables.fill.Goals as goal

pub loop-at-preserved : goal.loop-at-preserved
loop-at-preserved g c =
    let inv = c.loop-at.invariant in
    let fits : FitsSigned w32 c.in_ok-key.key = search rules in
    let put = rw (to_z-of_z w32 _ fits) at c.push.ensures.key in
    let slot : c.in-Some.slot ≡ c.loop-at.at = search rules in
    record {
      same = c.in_ok-key.ensures.frame.same ∙ inv.same;
      keys = λ told.
          let key = (rw inv.same at c.in_ok-key.ensures.key) told in
          let more = map-range_with_len_more (key_of (g.V.Files.state c.args.files.now) c.args.column.now) 0 c.loop-at.at c.loop-at.at (omega arith) in
          put ∙ ap (λ (ks : List ℤ). ks ++ c.in_ok-key.key ∷ []) (inv.keys told)
          ∙ ap (λ (k : ℤ). map (key_of (g.V.Files.state c.args.files.now) c.args.column.now) (range_with_len 0 c.loop-at.at) ++ k ∷ []) (key ∙ ap (key_of (g.V.Files.state c.args.files.now) c.args.column.now) slot) ∙ sym more;
      size = (let size = inv.size in ap (λ (ks : List ℤ). length ks) put ∙ length-append (entries c.loop-at.self c.args.table) (c.in_ok-key.key ∷ []) ∙ omega (arith, size));
      other = λ other not. c.push.ensures.other other not ∙ inv.other other not;
      lent = search rules;
      faults = search rules;
      reads_later = search rules;
      reads = (let less = c.in_ok-key.ensures.reads in let before = inv.reads in omega (arith, less, before));
    }
