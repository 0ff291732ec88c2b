use Rattle.std.proofs.Common.{◌≡◌, List, sym, subst}
use Rattle.std.specs.List.{Contains}
use Rattle.coffee_cuts.proofs.OneSettling.{one_list}
use Rattle.coffee_layout.specs.Files.{NamedFile}
use Rattle.coffee_mend.proofs.laws.mended_images_keep_their_files.Goals as goal

in_other : (files others : List NamedFile) (f : NamedFile) → files ≡ others → Contains files f → Contains others f
in_other files others f same has = subst (λ fs. Contains fs f) same has

pub returns-clause-kept : goal.returns-clause-kept
returns-clause-kept c = λ old new files sectors size mends m f has. m.kept f (in_other files m.files f (one_list old files m.files sectors size mends m.mends) has)

pub returns-clause-only : goal.returns-clause-only
returns-clause-only c = λ old new files sectors size mends m f has. in_other m.files files f (one_list old m.files files sectors size m.mends mends) (m.only f has)

pub returns-clause-alike : goal.returns-clause-alike
returns-clause-alike c = λ first second third sectors size a b.
    let same : a.others ≡ b.files = one_list second a.others b.files sectors size a.still b.mends in
    record {
      files = a.files;
      mends = a.mends;
      others = b.others;
      still = b.still;
      kept = λ f has. b.kept f (in_other a.others b.files f same (a.kept f has));
      only = λ f has. a.only f (in_other b.files a.others f (sym same) (b.only f has));
    }

pub returns-clause-mended : goal.returns-clause-mended
returns-clause-mended c = λ first second third sectors size a m.
    let same : a.others ≡ m.files = one_list second a.others m.files sectors size a.still m.mends in
    record {
      files = a.files;
      mends = a.mends;
      sound = m.sound;
      kept = λ f has. m.kept f (in_other a.others m.files f same (a.kept f has));
      only = λ f has. a.only f (in_other m.files a.others f (sym same) (m.only f has));
    }
