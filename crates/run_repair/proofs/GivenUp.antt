-- An image of which a file is given up with its log: the files that it mends to, and the database in them.
use Rattle.std.proofs.Common.{◌≡◌, ◌≢◌, ◌⊎◌, inl, inr, ℕ, ◌+◌, ◌*◌, ◌≤◌, true, false, List, [], ◌∷◌, length, Option, Some, None, refl, ap, sym, subst, ◌∙◌}
use Rattle.std.specs.Prelude.{is_some, option_map}
use Rattle.std.specs.List.{Contains}
use Rattle.afl_base.specs.Files.{File, IsNamed, Table}
use Rattle.afl_base.specs.Image.{zeros_at}
use Rattle.afl_base.proofs.FileLaws.{place_live}
use Rattle.afl_base.proofs.Images.{length_or_at}
use Rattle.catalog.specs.Rules.{is_tree}
use Rattle.coffee_cuts.specs.Cuts.{HasTornRecord, MendsTo, Nothing}
use Rattle.coffee_cuts.proofs.OneSettling.{one_list}
use Rattle.coffee_find.specs.Found.{IsRecordInside, IsTornAt}
use Rattle.coffee_find.specs.declared.trouble.TornRecord.{TornRecord}
use Rattle.coffee_find.specs.declared.trouble.Trouble.{Trouble}
use Rattle.coffee_layout.specs.Files.{NamedFile, files_of}
use Rattle.coffee_layout.specs.Rules.{broken_image}
use Rattle.coffee_layout.specs.declared.file.FileAt.{FileAt}
use Rattle.coffee_mend.specs.Discarded.{IsDiscarded, discarded}
use Rattle.coffee_mend.specs.Superseding.{IsTornOf}
use Rattle.coffee_mend.proofs.Discards.{discards}
use Rattle.coffee_merge.specs.CutMarks.{IsCutObsolete}
use Rattle.coffee_merge.specs.Flags.{flagged}
use Rattle.coffee_volume.specs.Cuts.{MendsToFiles}
use Rattle.coffee_volume.specs.Mounting.{roomless_file}
use Rattle.db_model.specs.Catalog.{index_at}
use Rattle.padded.proofs.Facts.{some_same}
use Rattle.image_model.specs.Images.{files_of_image}
use Rattle.image_model.proofs.OneBase.{own_files, table_mends}
use Rattle.image_model.proofs.OneName.{one_file}
use Rattle.image_model.proofs.SameFiles.{live_there}
use Rattle.space_model.specs.FileNames.{catalog_file, file_named, is_there}
use Rattle.space_model.proofs.NamedFiles.{named_place}
use Rattle.stored.specs.Mended.{whole_bytes}
use Rattle.stored.proofs.SoundCut.{named_there}
use Rattle.stored_mend.specs.Reported.{bytes_by_name}
use Rattle.stored_mend.proofs.OneFile.{catalog_no_tree}
use Rattle.run_repair.specs.GivenUp.{IsBeingGivenUp, IsGivenUp, IsNeeded, IsTreeRemoved, MayLack, NoneToGiveUp}
use Rattle.run_repair.proofs.LostTrees.{seen_bytes}

-- ---- a table that an image mends to

-- the file of a name is one of those that the image mends to
record IsHeld (image : List ℕ) (files : Table) (m : MendsToFiles image files) (name : List ℕ) (f : File) : Type 0 where
  has : Contains m.named (roomless_file f)
  named : f.name ≡ name

held : (image : List ℕ) (files : Table) (m : MendsToFiles image files) (name : List ℕ) (f : File) → file_named name files ≡ Some f → IsHeld image files m name f
held image files m name f e =
    let at = named_place files name f e in
    let l = live_there files at.0 f at.1 in
    record { has = subst (λ x. Contains m.named (roomless_file x)) l.1 (m.each at.0 l.0); named = at.2 }

-- and each of these is there
there : (image : List ℕ) (files : Table) (m : MendsToFiles image files) (f : NamedFile) → Contains m.named f → is_there f.name files ≡ true
there image files m f has =
    let o = m.only f has in
    let named : IsNamed files o.0 f.name = ap (option_map (λ (x : File). x.name)) (place_live files o.0 o.1) ∙ ap (λ (x : NamedFile). Some x.name) o.2 in
    named_there files o.0 f.name named

module _ (image other : List ℕ) (files others : Table) (m : MendsToFiles image files) (n : MendsToFiles other others) (sectors : ℕ) (size : length image ≡ 4096 * sectors) (name : List ℕ) where
  -- a file of this name is seen alike in two tables where each of the images has it if the other one does
  pub seen_alike : ((f : NamedFile) → f.name ≡ name → Contains m.named f → Contains n.named f) → ((f : NamedFile) → f.name ≡ name → Contains n.named f → Contains m.named f)
      → bytes_by_name name others ≡ bytes_by_name name files
  seen_alike kept only = by_both (file_named name files) refl (file_named name others) refl
    where
      by_both : (o : Option File) → file_named name files ≡ o → (p : Option File) → file_named name others ≡ p → option_map (λ (f : File). f.bytes) p ≡ option_map (λ (f : File). f.bytes) o
      by_both None e None h = refl
      by_both (Some f) e None h =
          let a = held image files m name f e in
          let back = there other others n (roomless_file f) (kept (roomless_file f) a.named a.has) in
          let no : false ≡ true = sym (ap is_some h) ∙ ap (λ x. is_there x others) (sym a.named) ∙ back in absurd (cc)
      by_both None e (Some g) h =
          let b = held other others n name g h in
          let back = there image files m (roomless_file g) (only (roomless_file g) b.named b.has) in
          let no : false ≡ true = sym (ap is_some e) ∙ ap (λ x. is_there x files) (sym b.named) ∙ back in absurd (cc)
      by_both (Some f) e (Some g) h =
          let a = held image files m name f e in
          let b = held other others n name g h in
          let same : roomless_file f ≡ roomless_file g = one_file image m.named sectors size m.mends (roomless_file f) (roomless_file g) a.has (only (roomless_file g) b.named b.has) (a.named ∙ sym b.named) in
          ap (λ (x : NamedFile). Some x.bytes) (sym same)

  -- and in none where none is
  pub seen_none : ((f : NamedFile) → Contains n.named f → f.name ≢ name) → bytes_by_name name others ≡ None
  seen_none none = by_file (file_named name others) refl
    where
      by_file : (p : Option File) → file_named name others ≡ p → option_map (λ (f : File). f.bytes) p ≡ None
      by_file None h = refl
      by_file (Some g) h = let b = held other others n name g h in absurd (none (roomless_file g) b.has b.named)

-- ---- a file that is given up

module _ (image : List ℕ) (sectors : ℕ) (size : length image ≡ 4096 * sectors) (torn : TornRecord) (file : FileAt) (t : IsTornOf image torn file) (d : IsDiscarded image file torn.log) where
  abbrev left : List ℕ
  left = discarded image file torn.log

  abbrev others : Table
  others = files_of_image left

  left_size : length left ≡ 4096 * sectors
  left_size = length_or_at (flagged image file.page.0 4) (256 * torn.log.0 + 9) (4 ∷ []) ∙ (length_or_at image (256 * file.page.0 + 9) (4 ∷ []) ∙ size)

  -- but for the torn record the image has its own files
  own : MendsTo image (files_of image)
  own =
      let at : IsTornAt image torn.log.0 torn.place = t.torn in
      let hidden : HasTornRecord image = record { log = torn.log.0; is_log = at.is_log; free = at.free; sound = ap (λ p. broken_image (zeros_at image p 128)) (sym at.next) ∙ at.sound } in
      record { under_way = Nothing; found = tt; settles = inr (inl hidden); files_are = refl }

  left_own : MendsTo left (files_of left)
  left_own = record { under_way = Nothing; found = tt; settles = inl d.sound; files_are = refl }

  -- so it mends to these
  abbrev mends : MendsToFiles image (files_of_image image)
  mends = table_mends image image (files_of image) own (λ f has. has) (λ f has. has)

  abbrev left_mends : MendsToFiles left others
  left_mends = own_files left d.sound

  named_own : mends.named ≡ files_of image
  named_own = one_list image mends.named (files_of image) sectors size mends.mends own

  named_left : left_mends.named ≡ files_of left
  named_left = one_list left left_mends.named (files_of left) sectors left_size left_mends.mends left_own

  -- all but the file of the name are as they were
  seen_others : (name : List ℕ) → name ≢ file.name → bytes_by_name name others ≡ bytes_by_name name (files_of_image image)
  seen_others name differs =
      seen_alike image left (files_of_image image) others mends left_mends sectors size name
      (λ f is has. subst (λ fs. Contains fs f) (sym named_left) (d.kept f (subst (λ fs. Contains fs f) named_own has) (λ e. differs (sym is ∙ e))))
      (λ f is has. subst (λ fs. Contains fs f) (sym named_own) (d.only f (subst (λ fs. Contains fs f) named_left has)).0)

  seen_gone : bytes_by_name file.name others ≡ None
  seen_gone =
      seen_none image left (files_of_image image) others mends left_mends sectors size file.name
      (λ f has. (d.only f (subst (λ fs. Contains fs f) named_left has)).1)

  module _ (may : MayLack others file.name) where
    lacks : IsTreeRemoved (files_of_image image) others may.slot
    lacks = record {
      below = may.below;
      asked =
          ap (λ xs. is_tree (index_at (whole_bytes xs) may.slot))
          (sym (seen_bytes (file_named catalog_file others) (file_named catalog_file (files_of_image image)) (seen_others catalog_file (λ e. catalog_no_tree may.slot (e ∙ may.named)))))
          ∙ may.asked;
      gone = subst (λ name. bytes_by_name name others ≡ None) may.named seen_gone;
      others = λ name differs. seen_others name (λ e. differs (e ∙ may.named));
    }

    pub given : (new : List ℕ) → new ≡ left → IsGivenUp image new
    given new is = subst (IsGivenUp image) (sym is) (record { files = files_of_image image; mends_to = mends; sound = d.sound; cut = may.cut; slot = may.slot; lacks = lacks })

    -- where that is cut the image is as it was, or mends to the others
    pub being_given : (new : List ℕ) → IsCutObsolete image new file.page.0 (Some torn.log) → (new ≡ image) ⊎ IsBeingGivenUp image new
    being_given new (inl stays) = inl stays
    being_given new (inr (inl half)) = inr (subst (IsBeingGivenUp image) (sym half) (record {
      files = files_of_image image;
      mends_to = mends;
      others = others;
      still = table_mends (flagged image file.page.0 4) left (files_of left) d.between (λ f has. has) (λ f has. has);
      cut = may.cut;
      slot = may.slot;
      lacks = lacks;
    }))
    being_given new (inr (inr all)) = inr (subst (IsBeingGivenUp image) (sym all) (record {
      files = files_of_image image;
      mends_to = mends;
      others = others;
      still = left_mends;
      cut = may.cut;
      slot = may.slot;
      lacks = lacks;
    }))

-- ---- what is found

-- a file has a log of which the last record is torn, and may be given up
pub record MayBeGivenUp (image : List ℕ) (torn : TornRecord) (file : FileAt) : Type 0 where
  pub torn_of : IsTornOf image torn file
  pub discards : IsDiscarded image file torn.log
  pub may : MayLack (files_of_image (discarded image file torn.log)) file.name

module _ (old second : List ℕ) (sectors : ℕ) (size : length old ≡ 4096 * sectors) (few : sectors ≤ 4096) (torn : TornRecord) (inside : IsRecordInside (length old) torn) (file : FileAt) (same : second ≡ old)
    (o : Option FileAt) (r : (f : FileAt) × (o ≡ Some f) × IsTornOf old torn f) (is : o ≡ Some file) where
  of : IsTornOf old torn file
  of = subst (IsTornOf old torn) (some_same r.0 file (sym r.1 ∙ is)) r.2

  unbroken : IsDiscarded old file torn.log
  unbroken = discards old sectors size few torn inside file of

  pub found_lacking : (broken_image (discarded second file torn.log) ≡ None → MayLack (files_of_image (discarded second file torn.log)) file.name) → MayBeGivenUp old torn file
  found_lacking may = record {
    torn_of = of;
    discards = unbroken;
    may = subst (λ i. broken_image (discarded i file torn.log) ≡ None → MayLack (files_of_image (discarded i file torn.log)) file.name) same may unbroken.sound;
  }

  -- or is needed
  pub found_needed : (broken_image (discarded second file torn.log) ≡ None → MayLack (files_of_image (discarded second file torn.log)) file.name → ⊥) → IsNeeded old torn
  found_needed needed = record {
    file = file;
    of = of;
    needed = subst (λ i. broken_image (discarded i file torn.log) ≡ None → MayLack (files_of_image (discarded i file torn.log)) file.name → ⊥) same needed unbroken.sound;
  }

-- no other record was found torn
pub needed_each : (image : List ℕ) (trouble : Trouble) (torn : TornRecord) → trouble.torn ≡ Some torn → IsNeeded image torn → NoneToGiveUp image trouble
needed_each image trouble torn found needed = λ other is last. subst (IsNeeded image) (some_same torn other (sym found ∙ is)) needed

pub given_up : (old third new : List ℕ) (sectors : ℕ) → length old ≡ 4096 * sectors → (torn : TornRecord) (file : FileAt) → MayBeGivenUp old torn file → third ≡ old → new ≡ discarded third file torn.log → IsGivenUp old new
given_up old third new sectors size torn file m same is = given old sectors size torn file m.torn_of m.discards m.may new (is ∙ ap (λ i. discarded i file torn.log) same)

pub being_given_up : (old third new : List ℕ) (sectors : ℕ) → length old ≡ 4096 * sectors → (torn : TornRecord) (file : FileAt) → MayBeGivenUp old torn file → third ≡ old
    → IsCutObsolete third new file.page.0 (Some torn.log) → (new ≡ old) ⊎ IsBeingGivenUp old new
being_given_up old third new sectors size torn file m same cut =
    being_given old sectors size torn file m.torn_of m.discards m.may new (subst (λ i. IsCutObsolete i new file.page.0 (Some torn.log)) same cut)
