-- The invariant of a fold over its passes.
use Rattle.std.proofs.Common.{◌≡◌, ℕ, ◌+◌, ◌<◌, true, arith, subst, sym}
use Rattle.db_model.specs.declared.commands.Agg.{Agg}
use Rattle.db_model.specs.declared.commands.Agg.TheVariants.{Median}
use Rattle.aggregate.specs.declared.search.Search.{Search}
use Rattle.aggregate.specs.declared.summary.Summary.{Summary}
use Rattle.aggregate.specs.declared.stage.Stage.{Stage}
use Rattle.aggregate.specs.declared.stage.Stage.TheVariants.{Gathering, Searching, Done}
use Rattle.aggregate.specs.Fold.{is_open}
use Rattle.aggregate.specs.Folding.{IsSearch, IsRightStage, IsSoundStage}
use Rattle.aggregate.proofs.Sixteenths.{passes-left}

-- where a pass is wanted, fewer than 9 are done
pub few-left : (agg : Agg) (p n : ℕ) (s : Stage) → IsRightStage agg p n s → is_open s ≡ true → p < 9
few-left agg p n (Gathering s) h o = omega (arith, h.stage_is.0)
few-left agg p n (Searching s) h o = passes-left s.span p h.stage_is.some h.stage_is.sixteenth
few-left agg p n (Done a) h o = cc

-- the invariant after the first pass
pub after-first : (agg : Agg) (p n : ℕ) (s : Summary) (r : Stage) → IsSoundStage agg p n (Gathering s) → IsSoundStage agg 1 0 r → IsRightStage agg (p + 1) 0 r
after-first agg p n s r h k =
    let e : p + 1 ≡ 1 = omega (arith, h.0) in
    record { few = omega arith; pushed = omega arith; stage_is = rw e k }

-- the invariant after a later pass
pub after-later : (agg : Agg) (p n : ℕ) (s : Search) (r : Stage) → IsSoundStage agg p n (Searching s)
    → ((q m : ℕ) → IsSearch Median q m s → IsSoundStage Median (q + 1) 0 r) → IsRightStage agg (p + 1) 0 r
after-later agg p n s r h k =
    let l : p < 9 = passes-left s.span p h.some h.sixteenth in
    let g : IsSearch Median p n s = subst (λ a. IsSearch a p n s) h.median h in
    record { few = omega arith; pushed = omega arith; stage_is = subst (λ a. IsSoundStage a (p + 1) 0 r) (sym h.median) (k p n g) }
