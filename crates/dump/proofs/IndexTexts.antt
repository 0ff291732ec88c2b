-- The line of an index of a sound database.
use Rattle.std.proofs.Common.{◌≡◌, sym, ap, subst, ◌∙◌, ℕ, true, false, List, [], ◌∷◌, length, arith, Option, Some, None, zero, suc, slice_index_or}
use Rattle.std.specs.Prelude.{nat_lt, slice_get, option_map}
use Rattle.std.proofs.lemmas.Bool.Decides.{nat_tests}
use Rattle.db_model.specs.declared.commands.Command.{Command}
use Rattle.db_model.specs.declared.commands.Command.TheVariants.{CreateIndex}
use Rattle.db_model.specs.declared.schemas.Attribute.{Attribute}
use Rattle.db_model.specs.declared.schemas.Schema.{Schema}
use Rattle.db_model.specs.Catalog.{Index}
use Rattle.db_model.specs.Database.{Database}
use Rattle.db_model.specs.Sound.{IsSoundDatabase, IsSoundIndex}
use Rattle.antelope_engine.specs.Reading.{index_in_slot, schema_at}
use Rattle.dump.specs.Parts.{index_lines}
use Rattle.dump_model.proofs.Lexing.{false_true}
use Rattle.dump_model.specs.Script.{command_line, index_command, attribute_name}
use Rattle.padded.proofs.Facts.{never_some, some_alike}

there : (xs : List Attribute) (p : ℕ) (a : Attribute) → nat_lt p (length xs) ≡ true → a ≡ slice_index_or xs p a → slice_get xs p ≡ Some a
there [] p a below e = absurd (false_true (none_below p below))
  where
    none_below : (n : ℕ) → nat_lt n 0 ≡ true → false ≡ true
    none_below n h = grind (arith, nat_tests)
there (x ∷ xs) zero a below e = ap (λ z. Some z) (sym e)
there (x ∷ xs) (suc p) a below e = there xs p a (grind (arith, nat_tests)) e

below_length : (xs : List Attribute) (p : ℕ) (a : Attribute) → slice_get xs p ≡ Some a → nat_lt p (length xs) ≡ true
below_length [] p a h = cc
below_length (x ∷ xs) zero a h = grind (arith, nat_tests)
below_length (x ∷ xs) (suc p) a h = let e = below_length xs p a h in grind (arith, nat_tests)

module _ (db : Database) (sound : IsSoundDatabase db) (k : ℕ) {index : Index} (stands : Some index ≡ index_in_slot db k) where
  index_is : IsSoundIndex db.relations index
  index_is = sound.indexes k index (sym stands)

  schema_is : schema_at db index.relation ≡ Some index_is.relation.schema
  schema_is = ap (λ slot. option_map (λ r. r.schema) slot) index_is.stands

  -- its relation is there
  pub relation_there : None ≡ schema_at db index.relation → ⊥
  relation_there e = never_some (e ∙ schema_is)

  module _ {schema : Schema} (found : Some schema ≡ schema_at db index.relation) where
    same_schema : schema ≡ index_is.relation.schema
    same_schema = some_alike (found ∙ schema_is)

    -- its attribute is there
    pub attribute_there : false ≡ nat_lt index.attribute (length schema.attributes) → ⊥
    attribute_there e =
        false_true (e ∙ ap (λ s. nat_lt index.attribute (length s.attributes)) same_schema ∙ below_length index_is.relation.schema.attributes index.attribute index_is.suits.attribute index_is.suits.placed)

    -- its line
    pub index_line_is : {a : Attribute} → true ≡ nat_lt index.attribute (length schema.attributes) → a ≡ slice_index_or schema.attributes index.attribute a
        → command_line (CreateIndex schema.name a.name index.kind) ≡ index_lines db.relations (index_in_slot db k)
    index_line_is {a} below e =
        let place : slice_get index_is.relation.schema.attributes index.attribute ≡ Some a = subst (λ s. slice_get s.attributes index.attribute ≡ Some a) same_schema (there schema.attributes index.attribute a (sym below) e) in
        let command : List ℕ → Option Attribute → Command = λ name found. CreateIndex name (elim found [ None ↦ [] | Some b ↦ b.name ]) index.kind in
        let wanted : CreateIndex schema.name a.name index.kind ≡ index_command db.relations index =
        ap (λ s. CreateIndex s.name a.name index.kind) same_schema
        ∙ ap (command index_is.relation.schema.name) (sym place)
        ∙ ap (λ slot. elim slot [ None ↦ CreateIndex [] [] index.kind | Some r ↦ CreateIndex r.schema.name (attribute_name r.schema.attributes index.attribute) index.kind ]) (sym index_is.stands) in
        ap command_line wanted ∙ ap (index_lines db.relations) stands
