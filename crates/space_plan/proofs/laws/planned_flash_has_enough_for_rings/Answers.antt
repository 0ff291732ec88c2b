use Rattle.space_plan.proofs.RingSpace.{entries_suffice, ring_each}
use Rattle.space_plan.proofs.Scripts.{sound_few}
use Rattle.space_plan.proofs.SlotSpace.{slots_each}
use Rattle.space_plan.proofs.laws.planned_flash_has_enough_for_rings.Goals as goal

pub returns-clause-rows : goal.returns-clause-rows
returns-clause-rows c = λ read db entries rows sectors sound keeps there.
    entries_suffice read db entries sectors (ring_each rows db _ sectors (sound_few db sound) keeps there)

pub returns-clause-slots : goal.returns-clause-slots
returns-clause-slots c = λ read db entries rows sectors sound keeps there.
    entries_suffice read db entries sectors (slots_each rows db _ sectors (sound_few db sound) keeps there)
