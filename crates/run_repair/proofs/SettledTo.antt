-- An image whose files are settled, or lack the tree of an index: what is so of its database is so of that which was found.
use Rattle.std.proofs.Common.{◌≡◌, ◌⊎◌, inl, inr, ⊎_elim, ℕ, ◌*◌, List, length, Option, None, refl, ap, sym, subst, ◌∙◌, arith}
use Rattle.std.specs.Prelude.{Err, IfErr, Ok, Result, ⊤}
use Rattle.afl_base.specs.Files.{Table}
use Rattle.coffee_find.specs.Found.{IsCutBy, IsTornAt, IsTroubleInside}
use Rattle.coffee_find.specs.declared.trouble.TornRecord.{TornRecord}
use Rattle.coffee_find.specs.declared.trouble.Trouble.{Trouble}
use Rattle.coffee_layout.specs.Rules.{broken_image}
use Rattle.coffee_mend.specs.Completed.{AwaitsCopy}
use Rattle.coffee_mend.specs.Mended.{IsMended, MendAlike}
use Rattle.db_model.specs.Database.{Database}
use Rattle.image_model.specs.Images.{IsSound, base, files_of_image}
use Rattle.image_model.specs.Mending.{ImageReadsAs}
use Rattle.image_model.proofs.OneBase.{one_base, own_files, sound_mends, table_mends}
use Rattle.padded.proofs.Facts.{some_same}
use Rattle.stored.specs.Mended.{mended_base}
use Rattle.stored.proofs.FilesOf.{unbroken}
use Rattle.stored_mend.specs.Mending.{IsPutRight}
use Rattle.stored_mend.specs.Reported.{IsReported, index_seen}
use Rattle.stored_mend.specs.Trees.{LosesTrees}
use Rattle.stored_mend.specs.declared.report.Mended.{Mended}
use Rattle.stored_mend.proofs.PutRight.{put_right_same}
use Rattle.stored_mend.proofs.ReportNames.{index_formed}
use Rattle.stored_mend.proofs.TreesLost.{loses_same}
use Rattle.run_repair.specs.Findings.{IsLeftByCut, MayBeCut}
use Rattle.run_repair.specs.GivenUp.{IsBeingGivenUp, IsCopyNeeded, IsGivenUp, IsSettledTo, IsStillTorn, IsTreeRemoved, NeedsPages, NoneToGiveUp}
use Rattle.run_repair.specs.Mends.{IsRestored, MendsButLacks, MendsPutRight, OnFault, OnSpaceless, StillMends, StillMendsButLacks}
use Rattle.run_repair.specs.Repairs.{IsReportedOf, IsSaid, Leaves, status_after}
use Rattle.run_repair.specs.declared.came.Came.{Came}
use Rattle.run_repair.specs.declared.came.Came.TheVariants.{Repaired, Sound, Strange}
use Rattle.run_repair.specs.declared.came.Hindrance.{Hindrance}
use Rattle.run_repair.specs.declared.came.Hindrance.TheVariants.{Spaceless, Unsettled, Failed}
use Rattle.run_repair.proofs.Interrupted.{alike_files, alike_mends}
use Rattle.run_repair.proofs.LostTrees.{lost_base, lost_reported, none_right, right_behind}
use Rattle.run_repair.proofs.Settled.{mended_cut}

-- ---- what is settled

-- what is mended
pub mended_settled : (image mended : List ℕ) (trouble : Trouble) (sectors : ℕ) → length image ≡ 4096 * sectors → IsTroubleInside (length image) trouble → IsLeftByCut image trouble → IsMended image mended
    → IsSettledTo image mended
mended_settled image mended trouble sectors size inside left m = record {
  files = files_of_image mended;
  mends_to = table_mends image mended m.files m.mends m.kept m.only;
  sound = m.sound;
  cut = mended_cut image mended trouble sectors size inside left m;
  kept = inl refl;
}

alike_back : (old new : List ℕ) → MendAlike old new → MendAlike new old
alike_back old new a = record { files = a.others; mends = a.still; others = a.files; still = a.mends; kept = a.only; only = a.kept }

-- what was mended as far as there was room, and then a tree was given up
pub given_settled : (old mid new : List ℕ) (sectors : ℕ) → length mid ≡ 4096 * sectors → MendAlike old mid → IsGivenUp mid new → IsSettledTo old new
given_settled old mid new sectors size a g = record {
  files = g.files;
  mends_to = alike_files mid old g.files sectors size g.mends_to (alike_back old mid a);
  sound = g.sound;
  cut = g.cut;
  kept = inr (g.slot, g.lacks);
}

-- ---- what was lacking

-- the record whose file awaits a copy is the one that was found torn
pub still_torn : (old new : List ℕ) (trouble : Trouble) → AwaitsCopy old new trouble → IsStillTorn new trouble
still_torn old new trouble a = λ torn is. subst (λ (r : TornRecord). IsTornAt new r.log.0 r.place) (some_same a.torn torn (sym a.found ∙ is)) a.still

-- no tree was given up instead
pub copy_needed : (old mid new : List ℕ) (trouble : Trouble) → IsCutBy old trouble → new ≡ mid → AwaitsCopy old mid trouble → NoneToGiveUp mid trouble → IsCopyNeeded old new trouble
copy_needed old mid new trouble cut same a none = subst (λ i. IsCopyNeeded old i trouble) (sym same) (record { cut = cut; awaits = a; none = none })

-- what the pages are for
pub files_need : (old new : List ℕ) (trouble : Trouble) (why : Hindrance) → OnSpaceless why (λ need. IsCopyNeeded old new trouble) → OnSpaceless why (λ need. NeedsPages old new)
files_need old new trouble (Spaceless need) n = inl (trouble, n)
files_need old new trouble (Unsettled bad) n = tt
files_need old new trouble Failed n = tt

pub database_needs : (old new : List ℕ) (why : Hindrance) → OnSpaceless why (λ need. broken_image new ≡ None) → OnSpaceless why (λ need. NeedsPages old new)
database_needs old new (Spaceless need) unbroken = inr unbroken
database_needs old new (Unsettled bad) unbroken = tt
database_needs old new Failed unbroken = tt

-- where a repair says so
pub said_needed : (old new : List ℕ) (mended : List Mended) (came : Result Came Hindrance) (status : ℕ) (held now : Option (List ℕ)) → IsSaid status mended came held now → status ≡ 3
    → IfErr came (λ why. OnSpaceless why (λ need. NeedsPages old new)) → NeedsPages old new
said_needed old new mended came status held now says three needs = ⊎_elim
    (λ (all : (status ≡ status_after came) × _). by_came came needs (sym all.0 ∙ three))
    (λ (less : (status ≡ 5) × _). let five = less.0 in absurd (omega (arith, five, three)))
    says
  where
    by_came : (came : Result Came Hindrance) → IfErr came (λ why. OnSpaceless why (λ need. NeedsPages old new)) → status_after came ≡ 3 → NeedsPages old new
    by_came (Ok Sound) n e = absurd (omega (arith, e))
    by_came (Ok Repaired) n e = absurd (omega (arith, e))
    by_came (Ok (Strange bad)) n e = absurd (omega (arith, e))
    by_came (Err (Spaceless need)) n e = n
    by_came (Err (Unsettled bad)) n e = absurd (omega (arith, e))
    by_came (Err Failed) n e = absurd (omega (arith, e))

-- ---- the database

mends_behind : (a b : Database) (image : List ℕ) → LosesTrees a b → MendsPutRight b image → MendsPutRight a image
mends_behind a b image l m = record { files = m.files; mends_to = m.mends_to; cut = m.cut; is = right_behind a b (mended_base m.files) l m.is }

-- where giving up is cut the image still mends to it
giving_mends : (old mid new : List ℕ) (sectors : ℕ) → length mid ≡ 4096 * sectors → MendAlike old mid → IsBeingGivenUp mid new → StillMends old new
giving_mends old mid new sectors size a g = record {
  files = g.files;
  mends_to = alike_files mid old g.files sectors size g.mends_to (alike_back old mid a);
  is = mends_behind (mended_base g.files) (mended_base g.others) new (lost_base g.files g.others g.slot g.lacks)
      (record { files = g.others; mends_to = g.still; cut = g.cut; is = put_right_same (mended_base g.others) (mended_base g.others) refl });
}

-- or is as it was
pub giving_left : (old mid new : List ℕ) (trouble : Trouble) (sectors : ℕ) → length old ≡ 4096 * sectors → length mid ≡ 4096 * sectors → IsTroubleInside (length old) trouble → IsLeftByCut old trouble → MendAlike old mid
    → (new ≡ mid) ⊎ IsBeingGivenUp mid new → StillMends old new
giving_left old mid new trouble sectors size still inside left a cut = ⊎_elim
    (λ (same : new ≡ mid). subst (StillMends old) (sym same) (alike_mends old mid trouble sectors size inside left a))
    (λ g. giving_mends old mid new sectors still a g)
    cut

settled_loses : (old mid : List ℕ) (s : IsSettledTo old mid) → LosesTrees (mended_base s.files) (mended_base (files_of_image mid))
settled_loses old mid s = ⊎_elim
    (λ (same : files_of_image mid ≡ s.files). loses_same (λ (k : ℕ). ⊤) (mended_base s.files) (mended_base (files_of_image mid)) (ap mended_base same))
    (λ l. lost_base s.files (files_of_image mid) l.0 l.1)
    s.kept

pub settled_right : (old mid : List ℕ) (s : IsSettledTo old mid) (now : Database) → IsPutRight (mended_base (files_of_image mid)) now → IsPutRight (mended_base s.files) now
settled_right old mid s now r = right_behind (mended_base s.files) (mended_base (files_of_image mid)) now (settled_loses old mid s) r

through_settled : (old mid : List ℕ) (Is : Database → Type 0) (sectors : ℕ) → length mid ≡ 4096 * sectors → (s : IsSettledTo old mid) → (Is (mended_base (files_of_image mid)) → Is (mended_base s.files))
    → ImageReadsAs mid Is → ImageReadsAs old Is
through_settled old mid Is sectors size s behind r = record {
  files = s.files;
  mends_to = s.mends_to;
  is = behind (subst Is (one_base mid r.files (files_of_image mid) sectors size r.mends_to (own_files mid s.sound)) r.is);
}

pub spaceless_through : (old mid new : List ℕ) (why : Hindrance) (sectors : ℕ) → length mid ≡ 4096 * sectors → IsSettledTo old mid → OnSpaceless why (StillMendsButLacks mid new) → OnSpaceless why (StillMendsButLacks old new)
spaceless_through old mid new (Spaceless need) sectors size s l =
    through_settled old mid (λ db. MendsButLacks db new need) sectors size s
    (λ m. record { mends = mends_behind (mended_base s.files) (mended_base (files_of_image mid)) new (settled_loses old mid s) m.mends; cramped = m.cramped }) l
spaceless_through old mid new (Unsettled bad) sectors size s l = tt
spaceless_through old mid new Failed sectors size s l = tt

pub fault_through : (old mid new : List ℕ) (why : Hindrance) (sectors : ℕ) → length mid ≡ 4096 * sectors → IsSettledTo old mid → OnFault why (StillMends mid new) → OnFault why (StillMends old new)
fault_through old mid new (Spaceless need) sectors size s l = tt
fault_through old mid new (Unsettled bad) sectors size s l = tt
fault_through old mid new Failed sectors size s l =
    through_settled old mid (λ db. MendsPutRight db new) sectors size s (mends_behind (mended_base s.files) (mended_base (files_of_image mid)) new (settled_loses old mid s)) l

-- an image that is restored still mends to what it was restored from
pub restored_mends : (old mid late new : List ℕ) (sectors : ℕ) → length late ≡ 4096 * sectors → IsSettledTo old mid → IsRestored (files_of_image mid) late → new ≡ late → StillMends old new
restored_mends old mid late new sectors size s restored same =
    let sound : IsSound new = subst IsSound (sym same) restored.sound in
    let n = sound_mends new sectors (ap length same ∙ size) sound in
    record {
      files = s.files;
      mends_to = s.mends_to;
      is = record {
        files = n.files;
        mends_to = n.mends_to;
        cut = n.cut;
        is = subst (IsPutRight (mended_base s.files)) (ap base (sym same) ∙ sym n.is) (settled_right old mid s (base late) restored.base_is);
      };
    }

-- an image that is repaired stands for the database that its files mend to
pub left_repaired : (old mid late new : List ℕ) → (IsSound old → ⊥) → MayBeCut old → (s : IsSettledTo old mid) → IsRestored (files_of_image mid) late → new ≡ late → Leaves old new (Ok Repaired)
left_repaired old mid late new unsound cut s restored same = (
  unsound,
  cut,
  subst IsSound (sym same) restored.sound,
  record {
    files = s.files;
    mends_to = s.mends_to;
    is = subst (λ i. IsPutRight (mended_base s.files) (base i)) (sym same) (settled_right old mid s (base late) restored.base_is);
  },
)

-- ---- what is told

-- the index whose tree was given up is gone
none_seen : (a b : Table) (slot : ℕ) → IsTreeRemoved a b slot → (image : List ℕ) → IsSound image → IsPutRight (mended_base b) (base image) → index_seen (files_of_image image) slot ≡ None
unfolding base
none_seen a b slot l image sound r =
    sym (index_formed (files_of_image image) slot l.below (unbroken (files_of_image image) sound.database.catalog).inner) ∙ none_right a b slot l (base image) r

-- what is said of the files of an image that was settled is said of those that the old one mends to
pub settled_reported : (old mid late new : List ℕ) (mended : List Mended) → IsSettledTo old mid → IsRestored (files_of_image mid) late → new ≡ late → IsReported (files_of_image mid) (files_of_image late) mended
    → IsReportedOf old new mended
settled_reported old mid late new mended s restored same r = record {
  files = s.files;
  mends_to = s.mends_to;
  lines = subst (λ (image : List ℕ). IsReported s.files (files_of_image image) mended) (sym same) (⊎_elim
      (λ (is : files_of_image mid ≡ s.files). subst (λ (files : Table). IsReported files (files_of_image late) mended) is r)
      (λ l. lost_reported s.files (files_of_image mid) (files_of_image late) l.0 mended l.1 (none_seen s.files (files_of_image mid) l.0 l.1 late restored.sound restored.base_is) r)
      s.kept);
}
