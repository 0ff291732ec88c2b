-- What a repair leaves that was interrupted: an image that mends to the database that it mended to before, put right.
use Rattle.std.proofs.Common.{◌≡◌, ◌≢◌, inl, inr, ⊎_elim, ℕ, zero, suc, ◌*◌, List, length, Option, None, refl, ap, sym, subst, ◌∙◌, arith}
use Rattle.std.specs.Prelude.{⊤, Result, Ok, Err, IfErr}
use Rattle.std.specs.List.{Contains}
use Rattle.afl_base.specs.Files.{State, Table, file_at}
use Rattle.coffee_cuts.specs.Cuts.{Nothing}
use Rattle.coffee_cuts.proofs.OneSettling.{one_list}
use Rattle.coffee_find.specs.Found.{IsTroubleInside}
use Rattle.coffee_find.specs.declared.trouble.Trouble.{Trouble}
use Rattle.coffee_layout.specs.Files.{files_of}
use Rattle.coffee_layout.specs.Marks.{IsCramped}
use Rattle.coffee_layout.specs.Rules.{broken_image}
use Rattle.coffee_layout.specs.Tiling.{units_of}
use Rattle.coffee_mend.specs.Mended.{IsCrowded, MendAlike}
use Rattle.coffee_volume.specs.Cuts.{MendsToFiles}
use Rattle.coffee_volume.specs.Mounting.{HasEach, HasOnly, roomless_file}
use Rattle.db_model.specs.Database.{Database}
use Rattle.image_model.specs.Images.{IsSound, base, files_of_image}
use Rattle.image_model.specs.Mending.{ImageMendsTo, ImageReadsAs}
use Rattle.image_model.proofs.OneBase.{own_files}
use Rattle.stored.specs.CutTables.{IsCutTable}
use Rattle.stored.specs.Mended.{mended_base}
use Rattle.stored_mend.specs.Interrupted.{IsCutState}
use Rattle.stored_mend.specs.Mending.{IsPutRight}
use Rattle.stored_mend.proofs.PutRight.{put_right_same}
use Rattle.run_repair.specs.Findings.{IsLeftByCut, settled_image}
use Rattle.run_repair.specs.Mends.{MendsButLacks, MendsPutRight, OnFault, OnSpaceless, StillMends, StillMendsButLacks}
use Rattle.run_repair.specs.Outcomes.{AreInterrupted, IsInterrupted, IsPutRightTimes, RepairsTo}
use Rattle.run_repair.specs.Repairs.{Repairs}
use Rattle.run_repair.specs.declared.came.Hindrance.{Hindrance}
use Rattle.run_repair.specs.declared.came.Hindrance.TheVariants.{Spaceless, Unsettled, Failed}
use Rattle.run_repair.proofs.Mended.{cut_repaired, repaired_base}
use Rattle.run_repair.proofs.Settled.{mends_settled}

-- ---- the volume

-- the image of a volume between calls mends to its files
pub own_state : (state : State) (image : List ℕ) → broken_image image ≡ None → HasEach state image → HasOnly state image → MendsToFiles image state.files
own_state state image sound each only = record {
  named = files_of image;
  mends = record { under_way = Nothing; found = tt; settles = inl sound; files_are = refl };
  each = each;
  only = only;
}

-- so it mends to what they mend to
pub state_mends : (state : State) (image : List ℕ) (db : Database) (need : ℕ) → broken_image image ≡ None → HasEach state image → HasOnly state image → IsCutState state (λ now. IsPutRight db now)
    → IsCramped (units_of image) need → MendsButLacks db image need
state_mends state image db need sound each only cut cramped = record {
  mends = record { files = state.files; mends_to = own_state state image sound each only; cut = cut.cut; is = cut.is };
  cramped = cramped;
}

-- ---- the files of an image

-- an image that mends to the files that another mends to mends to the same tables
pub alike_files : (old new : List ℕ) (files : Table) (sectors : ℕ) → length old ≡ 4096 * sectors → MendsToFiles old files → MendAlike old new → MendsToFiles new files
alike_files old new files sectors size m a =
    let same : m.named ≡ a.files = one_list old m.named a.files sectors size m.mends a.mends in
    record {
      named = a.others;
      mends = a.still;
      each = λ id live. a.kept (roomless_file (file_at files id)) (subst (λ fs. Contains fs (roomless_file (file_at files id))) same (m.each id live));
      only = λ n has. m.only n (subst (λ fs. Contains fs n) (sym same) (a.only n has));
    }

-- and to the same database
alike_base : (old new : List ℕ) (trouble : Trouble) (sectors : ℕ) → length old ≡ 4096 * sectors → IsTroubleInside (length old) trouble → IsLeftByCut old trouble → MendAlike old new
    → MendsPutRight (mended_base (files_of_image (settled_image old trouble))) new
alike_base old new trouble sectors size inside left a =
    let files : Table = files_of_image (settled_image old trouble) in
    record {
      files = files;
      mends_to = alike_files old new files sectors size (mends_settled old trouble sectors size inside left.files) a;
      cut = left.database.files;
      is = put_right_same (mended_base files) (mended_base files) refl;
    }

pub alike_mends : (old new : List ℕ) (trouble : Trouble) (sectors : ℕ) → length old ≡ 4096 * sectors → IsTroubleInside (length old) trouble → IsLeftByCut old trouble → MendAlike old new → StillMends old new
alike_mends old new trouble sectors size inside left a = record {
  files = files_of_image (settled_image old trouble);
  mends_to = mends_settled old trouble sectors size inside left.files;
  is = alike_base old new trouble sectors size inside left a;
}

pub crowded_mends : (old new : List ℕ) (trouble : Trouble) (sectors need : ℕ) → length old ≡ 4096 * sectors → IsTroubleInside (length old) trouble → IsLeftByCut old trouble → IsCrowded old new need
    → StillMendsButLacks old new need
crowded_mends old new trouble sectors need size inside left c = record {
  files = files_of_image (settled_image old trouble);
  mends_to = mends_settled old trouble sectors size inside left.files;
  is = record { mends = alike_base old new trouble sectors size inside left c.alike; cramped = c.cramped };
}

-- ---- the database in them

-- what is so of the database of the files of an image that keeps the rules is so of that which it mends to
pub through_own : (image : List ℕ) (files : Table) (Is : Database → Type 0) → broken_image image ≡ None → files ≡ files_of_image image → Is (mended_base files) → ImageReadsAs image Is
through_own image files Is sound same is = record {
  files = files_of_image image;
  mends_to = own_files image sound;
  is = subst (λ table. Is (mended_base table)) same is;
}

pub own_spaceless : (old new : List ℕ) (files : Table) (came : Result ⊤ Hindrance) → broken_image old ≡ None → files ≡ files_of_image old → IfErr came (λ why. OnSpaceless why (MendsButLacks (mended_base files) new))
    → IfErr came (λ why. OnSpaceless why (StillMendsButLacks old new))
own_spaceless old new files (Ok x) sound same l = tt
own_spaceless old new files (Err (Spaceless need)) sound same l = through_own old files (λ db. MendsButLacks db new need) sound same l
own_spaceless old new files (Err (Unsettled bad)) sound same l = tt
own_spaceless old new files (Err Failed) sound same l = tt

pub own_fault : (old new : List ℕ) (files : Table) (came : Result ⊤ Hindrance) → broken_image old ≡ None → files ≡ files_of_image old → IfErr came (λ why. OnFault why (MendsPutRight (mended_base files) new))
    → IfErr came (λ why. OnFault why (StillMends old new))
own_fault old new files (Ok x) sound same l = tt
own_fault old new files (Err (Spaceless need)) sound same l = tt
own_fault old new files (Err (Unsettled bad)) sound same l = tt
own_fault old new files (Err Failed) sound same l = through_own old files (λ db. MendsPutRight db new) sound same l

-- an image that is as it was still mends
pub own_stays : (old new : List ℕ) → broken_image old ≡ None → IsCutTable (files_of_image old) → new ≡ old → StillMends old new
own_stays old new sound cut same = record {
  files = files_of_image old;
  mends_to = own_files old sound;
  is = subst (MendsPutRight (mended_base (files_of_image old))) (sym same) (record {
    files = files_of_image old;
    mends_to = own_files old sound;
    cut = cut;
    is = put_right_same (mended_base (files_of_image old)) (mended_base (files_of_image old)) refl;
  });
}

-- what is so of the error is so of the answer
pub on_error : {T E : Type 0} (came : Result T E) (why : E) (P : E → Type 0) → came ≡ Err why → P why → IfErr came P
on_error came why P is so = subst (λ r. IfErr r P) (sym is) so

-- ---- repairs one after another

-- an interrupted repair leaves an image that mends to the database, put right
interrupted_mends : (old new : List ℕ) (db : Database) (sectors : ℕ) → length old ≡ 4096 * sectors → ImageMendsTo old (λ mended. mended ≡ db) → IsInterrupted old new → MendsPutRight db new
interrupted_mends old new db sectors size m i =
    by_status (cut_repaired i.status old new i.held i.now db sectors size m i.repairs i.cut said)
  where
    said : i.status ≢ 5
    said five = ⊎_elim
        (λ (three : i.status ≡ 3). absurd (let e : i.status ≡ 5 = five in omega (arith, e, three)))
        (λ (four : i.status ≡ 4). absurd (let e : i.status ≡ 5 = five in omega (arith, e, four)))
        i.is

    other : (k : ℕ) → i.status ≡ k → k ≢ 3 → k ≢ 4 → ⊥
    other k e three four = ⊎_elim (λ (x : i.status ≡ 3). three (sym e ∙ x)) (λ (x : i.status ≡ 4). four (sym e ∙ x)) i.is

    by_status : RepairsTo i.status db old new → MendsPutRight db new
    by_status (inl r) = absurd (other 0 r.0 (λ x. omega (arith, x)) (λ x. omega (arith, x)))
    by_status (inr (inl r)) = r.1.1.mends
    by_status (inr (inr (inl r))) = r.1
    by_status (inr (inr (inr r))) = absurd (other 6 r.0 (λ x. omega (arith, x)) (λ x. omega (arith, x)))

-- images keep their length
interrupted_size : (repairs : ℕ) (old new : List ℕ) → AreInterrupted repairs old new → length new ≡ length old
interrupted_size zero old new same = ap length same
interrupted_size (suc n) old new r = r.2.size ∙ interrupted_size n old r.0 r.1

pub interrupted_times : (repairs : ℕ) (old new : List ℕ) (db : Database) (sectors : ℕ) → length old ≡ 4096 * sectors → ImageMendsTo old (λ mended. mended ≡ db) → AreInterrupted repairs old new
    → ImageMendsTo new (λ now. IsPutRightTimes repairs db now)
interrupted_times zero old new db sectors size m same = subst (λ i. ImageMendsTo i (λ now. now ≡ db)) (sym same) m
interrupted_times (suc n) old new db sectors size m r =
    let before = interrupted_times n old r.0 db sectors size m r.1 in
    let found : Database = mended_base before.files in
    let after = interrupted_mends r.0 new found sectors (interrupted_size n old r.0 r.1 ∙ size) (record { files = before.files; mends_to = before.mends_to; cut = before.cut; is = refl }) r.2 in
    record { files = after.files; mends_to = after.mends_to; cut = after.cut; is = (found, before.is, after.is) }

pub ended_times : (repairs : ℕ) (old left new : List ℕ) (held now : Option (List ℕ)) (db : Database) (sectors : ℕ) → length old ≡ 4096 * sectors → ImageMendsTo old (λ mended. mended ≡ db)
    → AreInterrupted repairs old left → Repairs 0 left new held now → IsSound new × IsPutRightTimes (suc repairs) db (base new)
ended_times repairs old left new held now db sectors size m before r =
    let i = interrupted_times repairs old left db sectors size m before in
    let found : Database = mended_base i.files in
    let ended = repaired_base left new held now found sectors (interrupted_size repairs old left before ∙ size) (record { files = i.files; mends_to = i.mends_to; is = refl }) r in
    (ended.0, (found, i.is, ended.1))
