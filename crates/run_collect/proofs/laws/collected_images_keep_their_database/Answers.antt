use Rattle.run_collect.proofs.Kept.{collected_files}
use Rattle.run_collect.proofs.SameBase.{collected_base, collected_sound, cut_mends}
use Rattle.run_collect.proofs.laws.collected_images_keep_their_database.Goals as goal

pub returns-clause-sound : goal.returns-clause-sound
returns-clause-sound c = λ old new sectors size long s is. collected_sound old new sectors size long s is

pub returns-clause-files : goal.returns-clause-files
returns-clause-files c = λ old new sectors size long s is. collected_files old new sectors size long s.volume is

pub returns-clause-base : goal.returns-clause-base
returns-clause-base c = λ old new sectors size long s is. collected_base old new sectors size long s is

pub returns-clause-cut : goal.returns-clause-cut
returns-clause-cut c = λ old new sectors size few long s cut. cut_mends old new sectors size long s c.torn_collections_mend.ensures.mends few cut
