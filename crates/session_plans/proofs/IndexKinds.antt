-- The kinds of the indexes that a plan knows are those of the database.
use Rattle.std.proofs.Common.{◌≡◌, ℕ, List, [], ◌∷◌, map, refl, ap}
use Rattle.db_model.specs.Plan.{Kinds, kinds_of}
use Rattle.index_set.specs.declared.info.IndexInfo.{IndexInfo}
use Rattle.index_set.specs.Plans.{access_kind, kinds}
use Rattle.session_model.specs.Indexed.{index_of_info}

pub kinds_same : (k : ℕ) (infos : List IndexInfo) → kinds_of (map (index_of_info k) infos) ≡ kinds infos
kinds_same k [] = refl
kinds_same k (info ∷ infos) = ap (λ (l : Kinds). (access_kind info.access, info.attribute) ∷ l) (kinds_same k infos)
