use Rattle.std.proofs.Common.{◌≡◌, ℕ, List, refl}
use Rattle.db_model.specs.declared.commands.Command.{Command}
use Rattle.db_model.specs.declared.commands.Command.TheVariants.{CreateRelation, CreateAttribute, CreateIndex, Insert, RemoveFrom, RemoveRelation, RemoveIndex, Pack}
use Rattle.db_model.specs.declared.schemas.DomainAsked.{DomainAsked}
use Rattle.db_model.specs.declared.schemas.IndexKind.{IndexKind}
use Rattle.db_model.specs.declared.commands.Node.{Node}
use Rattle.db_model.specs.declared.values.Value.{Value}
use Rattle.db_model.specs.Step.{Reads}
use Rattle.antelope_engine.proofs.changing.change.Goals as goal

-- no command is left that does not read
none_left : (c : Command) → (Reads c → ⊥)
    → ((name : List ℕ) → c ≡ CreateRelation name → ⊥)
    → ((name : List ℕ) (domain : DomainAsked) (relation : List ℕ) → c ≡ CreateAttribute name domain relation → ⊥)
    → ((relation attribute : List ℕ) (kind : IndexKind) → c ≡ CreateIndex relation attribute kind → ⊥)
    → ((values : List Value) (relation : List ℕ) → c ≡ Insert values relation → ⊥)
    → ((relation : List ℕ) (nodes : List Node) → c ≡ RemoveFrom relation nodes → ⊥)
    → ((relation : List ℕ) → c ≡ RemoveRelation relation → ⊥)
    → ((relation attribute : List ℕ) → c ≡ RemoveIndex relation attribute → ⊥)
    → ((relation : List ℕ) → c ≡ Pack relation → ⊥) → ⊥
none_left (CreateRelation n) r a b d e f g h i = a n refl
none_left (CreateAttribute n m s) r a b d e f g h i = b n m s refl
none_left (CreateIndex n m k) r a b d e f g h i = d n m k refl
none_left (Insert v n) r a b d e f g h i = e v n refl
none_left (RemoveFrom n x) r a b d e f g h i = f n x refl
none_left (RemoveRelation n) r a b d e f g h i = g n refl
none_left (RemoveIndex n m) r a b d e f g h i = h n m refl
none_left (Pack n) r a b d e f g h i = i n refl
none_left _ r a b d e f g h i = r tt

pub returns-in-CreateRelation : goal.returns-in-CreateRelation
returns-in-CreateRelation g c = record { carried = rw c.in-CreateRelation.is c.create_relation.ensures.carried }

pub returns-in-CreateAttribute : goal.returns-in-CreateAttribute
returns-in-CreateAttribute g c = record { carried = rw c.in-CreateAttribute.is c.create_attribute.ensures.carried }

pub returns-in-CreateIndex : goal.returns-in-CreateIndex
returns-in-CreateIndex g c = record { carried = rw c.in-CreateIndex.is c.create_index.ensures.carried }

pub returns-in-Insert : goal.returns-in-Insert
returns-in-Insert g c = record { carried = rw c.in-Insert.is c.insert.ensures.carried }

pub returns-in-RemoveFrom : goal.returns-in-RemoveFrom
returns-in-RemoveFrom g c = record { carried = rw c.in-RemoveFrom.is c.remove_from.ensures.carried }

pub returns-in-RemoveRelation : goal.returns-in-RemoveRelation
returns-in-RemoveRelation g c = record { carried = rw c.in-RemoveRelation.is c.remove_relation.ensures.carried }

pub returns-in-RemoveIndex : goal.returns-in-RemoveIndex
returns-in-RemoveIndex g c = record { carried = rw c.in-RemoveIndex.is c.remove_index.ensures.carried }

pub returns-in-Pack : goal.returns-in-Pack
returns-in-Pack g c = record { carried = rw c.in-Pack.is c.pack.ensures.carried }

pub unreachable-requires : goal.unreachable-requires
unreachable-requires g c =
    let d = c.in_default in
    none_left c.args.command.now c.requires.changes d.not-CreateRelation d.not-CreateAttribute d.not-CreateIndex d.not-Insert
    d.not-RemoveFrom d.not-RemoveRelation d.not-RemoveIndex d.not-Pack
