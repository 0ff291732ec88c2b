-- What settling an image, and putting a file together with its log, come to.
use Rattle.std.proofs.Common.{◌≡◌, inl, inr, ℕ, ◌+◌, ◌*◌, ◌≤◌, List, length, Option, Some, None, refl, ap, sym, subst, ◌∙◌}
use Rattle.std.specs.List.{Contains}
use Rattle.std.specs.Prelude.{Result, Ok, Err, IfErr}
use Rattle.afl_base.specs.FileErrors.{HasFileCause, OnSpace as on_space}
use Rattle.afl_base.specs.declared.kind.FileError.{FileError}
use Rattle.afl_base.specs.declared.kind.FileError.TheVariants.{Space as file_space, Failed as file_failed}
use Rattle.coffee_mend.specs.declared.mending.MendError.{MendError}
use Rattle.coffee_mend.specs.declared.mending.MendError.TheVariants.{Space, Failed, Unsettled}
use Rattle.afl_base.specs.Image.{zeros_at}
use Rattle.coffee_cuts.specs.Cuts.{HasTornRecord, MendsTo, Nothing, IsSettled, settled}
use Rattle.coffee_find.specs.Found.{IsCutBy, IsSoundBut, IsTornAt, meant}
use Rattle.coffee_find.specs.declared.trouble.TornRecord.{TornRecord}
use Rattle.coffee_find.specs.declared.trouble.Trouble.{Trouble}
use Rattle.coffee_layout.specs.Files.{NamedFile, files_of}
use Rattle.coffee_layout.specs.Rules.{broken_image}
use Rattle.coffee_layout.specs.Units.{pages_of}
use Rattle.coffee_mend.specs.Mended.{HasMendCause, IsCrowded, IsMended, IsSoundAs, IsTornAs, MendAlike, MendsLike, OnFlashFailed, OnLacking}
use Rattle.coffee_mend.proofs.Beside.{torn_files}

-- ---- answers

-- what a call says of its error, where that is known
pub space_known : {T : Type 0} (r : Result T FileError) (need : ℕ) (P : ℕ → Type 0) → r ≡ Err (file_space need) → on_space r P → P need
space_known r need P is p = rw is at p

pub space_more : {T : Type 0} (P Q : ℕ → Type 0) (r : Result T MendError) → ((need : ℕ) → P need → Q need) → IfErr r (λ e. OnLacking e P) → IfErr r (λ e. OnLacking e Q)
space_more P Q (Ok x) more p = tt
space_more P Q (Err (Space need)) more p = more need p
space_more P Q (Err Failed) more p = tt
space_more P Q (Err Unsettled) more p = tt

pub space_both : {T : Type 0} (P Q R : ℕ → Type 0) (r : Result T MendError) → ((need : ℕ) → P need → Q need → R need) → IfErr r (λ e. OnLacking e P) → IfErr r (λ e. OnLacking e Q) → IfErr r (λ e. OnLacking e R)
space_both P Q R (Ok x) both p q = tt
space_both P Q R (Err (Space need)) both p q = both need p q
space_both P Q R (Err Failed) both p q = tt
space_both P Q R (Err Unsettled) both p q = tt

-- why a file was not joined
pub mend_cause : {T U : Type 0} (r : Result T MendError) (done : Result U FileError) (before now : ℕ) → HasFileCause before now done → IfErr r (λ e. OnFlashFailed e (done ≡ Err file_failed)) → HasMendCause before now r
mend_cause (Ok x) done before now cause failed = record { later = cause.later; failed = tt }
mend_cause (Err (Space need)) done before now cause failed = record { later = cause.later; failed = tt }
mend_cause (Err Failed) done before now cause failed = record { later = cause.later; failed = cause.failed failed }
mend_cause (Err Unsettled) done before now cause failed = record { later = cause.later; failed = tt }

-- what is so where the flash failed
pub failed_more : {T : Type 0} (P Q : Type 0) (r : Result T MendError) → (P → Q) → IfErr r (λ e. OnFlashFailed e P) → IfErr r (λ e. OnFlashFailed e Q)
failed_more P Q (Ok x) more p = tt
failed_more P Q (Err (Space need)) more p = tt
failed_more P Q (Err Failed) more p = more p
failed_more P Q (Err Unsettled) more p = tt

-- ---- what was found

pub has_record : (image : List ℕ) (log place : ℕ) → IsTornAt image log place → HasTornRecord image
has_record image log place t = record {
  log = log;
  is_log = t.is_log;
  free = t.free;
  sound = ap (λ p. broken_image (zeros_at image p 128)) (sym t.next) ∙ t.sound;
}

-- an image that is sound but for a torn record is settled
pub cut_settles : (image : List ℕ) (o : Option TornRecord) → IsSoundBut image o → IsSettled image
cut_settles image None sound = inl sound
cut_settles image (Some r) (inl t) = inr (inl (has_record image r.log.0 r.place t.1))
cut_settles image (Some r) (inr s) = inr (inr s.superseding)

-- and mends to its files
pub cut_like : (image : List ℕ) (o : Option TornRecord) → IsSoundBut image o → MendsLike image image
cut_like image o t = record {
  files = files_of image;
  mends = record { under_way = Nothing; found = tt; settles = cut_settles image o t; files_are = refl };
  kept = λ f has. has;
  only = λ f has. has;
}

-- these are the files that it has with zeros in the place of the record
module _ (image new : List ℕ) (log place : ℕ) (whole : 256 * pages_of image ≡ length image) (inside : place + 128 ≤ length image) (t : IsTornAt image log place) where
  same : files_of image ≡ files_of (zeros_at image place 128)
  same = torn_files image log place whole inside t

  pub shown_sound : IsSoundAs (zeros_at image place 128) new → IsSoundAs image new
  shown_sound s = record {
    sound = s.sound;
    same = record {
      kept = λ f has. s.same.kept f (subst (λ fs. Contains fs f) same has);
      only = λ f has. subst (λ fs. Contains fs f) (sym same) (s.same.only f has);
    };
  }

  pub shown_like : MendsLike (zeros_at image place 128) new → MendsLike image new
  shown_like m = record {
    files = m.files;
    mends = m.mends;
    kept = λ f has. m.kept f (subst (λ fs. Contains fs f) same has);
    only = λ f has. subst (λ fs. Contains fs f) (sym same) (m.only f has);
  }

-- nothing but what was under way
pub mended_whole : (old new : List ℕ) (trouble : Trouble) → IsCutBy old trouble → trouble.torn ≡ None → new ≡ settled old (meant trouble.under_way) → IsMended old new
mended_whole old new trouble cut none is =
    let sound : broken_image (settled old (meant trouble.under_way)) ≡ None = subst (λ o. IsSoundBut (settled old (meant trouble.under_way)) o) none cut.settles in
    let files : List NamedFile = files_of (settled old (meant trouble.under_way)) in
    record {
      files = files;
      mends = record { under_way = meant trouble.under_way; found = cut.found; settles = inl sound; files_are = refl };
      sound = ap broken_image is ∙ sound;
      kept = λ f has. subst (λ i. Contains (files_of i) f) (sym is) has;
      only = λ f has. subst (λ i. Contains (files_of i) f) is has;
    }

-- a torn record is found once that is settled
pub torn_found : (old mid : List ℕ) (trouble : Trouble) (r : TornRecord) → IsCutBy old trouble → trouble.torn ≡ Some r → mid ≡ settled old (meant trouble.under_way) → IsSoundBut mid (Some r)
torn_found old mid trouble r cut some is = subst (λ i. IsSoundBut i (Some r)) (sym is) (subst (λ o. IsSoundBut (settled old (meant trouble.under_way)) o) some cut.settles)

module _ (old mid new : List ℕ) (trouble : Trouble) (r : TornRecord) (cut : IsCutBy old trouble) (some : trouble.torn ≡ Some r) (is : mid ≡ settled old (meant trouble.under_way)) where
  mends_mid : MendsTo old (files_of mid)
  mends_mid = record {
    under_way = meant trouble.under_way;
    found = cut.found;
    settles = subst IsSettled is (cut_settles mid (Some r) (torn_found old mid trouble r cut some is));
    files_are = ap files_of is;
  }

  -- and put right
  pub mended_torn : IsSoundAs mid new → IsMended old new
  mended_torn s = record { files = files_of mid; mends = mends_mid; sound = s.sound; kept = s.same.kept; only = s.same.only }

  -- a torn record for whose file no pages are had
  pub mended_crowded : (need : ℕ) → IsTornAs mid new r.log.0 r.place need → IsCrowded old new need
  mended_crowded need s = record {
    alike = record {
      files = files_of mid;
      mends = mends_mid;
      others = files_of new;
      still = record { under_way = Nothing; found = tt; settles = inr (inl (has_record new r.log.0 r.place s.torn)); files_are = refl };
      kept = s.same.kept;
      only = s.same.only;
    };
    log = r.log.0;
    wants = s.wants;
    cramped = s.cramped;
  }

  -- a torn record that was being put right
  pub mended_cut : MendsLike mid new → MendAlike old new
  mended_cut m = record { files = files_of mid; mends = mends_mid; others = m.files; still = m.mends; kept = m.kept; only = m.only }
