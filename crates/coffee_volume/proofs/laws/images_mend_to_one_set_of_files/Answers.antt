use Rattle.std.proofs.Common.{◌≡◌, List, inl, refl, sym, subst}
use Rattle.std.specs.List.{Contains}
use Rattle.afl_base.specs.Files.{file_at}
use Rattle.coffee_cuts.specs.Cuts.{Nothing}
use Rattle.coffee_cuts.proofs.OneSettling.{one_list}
use Rattle.coffee_layout.specs.Files.{NamedFile, files_of}
use Rattle.coffee_volume.specs.Mounting.{roomless_file}
use Rattle.coffee_volume.proofs.laws.images_mend_to_one_set_of_files.Goals as goal

in_other : (named others : List NamedFile) (f : NamedFile) → named ≡ others → Contains named f → Contains others f
in_other named others f same has = subst (λ fs. Contains fs f) same has

pub returns-clause-one : goal.returns-clause-one
returns-clause-one c = λ image files others sectors size m n id live.
    n.only (roomless_file (file_at files id)) (in_other m.named n.named (roomless_file (file_at files id)) (one_list image m.named n.named sectors size m.mends n.mends) (m.each id live))

pub returns-clause-mended : goal.returns-clause-mended
returns-clause-mended c = λ old new files named sectors size m mends sound kept only.
    let same : m.named ≡ named = one_list old m.named named sectors size m.mends mends in
    record {
      named = files_of new;
      mends = record { under_way = Nothing; found = tt; settles = inl sound; files_are = refl };
      each = λ id live. kept (roomless_file (file_at files id)) (in_other m.named named (roomless_file (file_at files id)) same (m.each id live));
      only = λ n has. m.only n (in_other named m.named n (sym same) (only n has));
    }
