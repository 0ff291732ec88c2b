-- Worked examples, computed over the definitions.
use Rattle.std.proofs.Common.{◌≡◌, refl, sym, subst, ◌∙◌, ℕ, List, [], ◌∷◌, inl, true, false, pos, negsuc, arith, Some, None, get_or, replicate, zero, suc}
use Rattle.std.specs.Prelude.{codes}
use Rattle.std.specs.Fmt.{digits}
use Rattle.db_model.specs.declared.schemas.Attribute.{Attribute}
use Rattle.db_model.specs.declared.schemas.Domain.TheVariants as domain
use Rattle.db_model.specs.declared.schemas.IndexKind.TheVariants.{Inline}
use Rattle.db_model.specs.declared.values.Value.TheVariants as value
use Rattle.db_model.specs.Keywords.{keyword_of, keywords}
use Rattle.db_model.specs.Catalog.{Index}
use Rattle.db_model.specs.Database.{Database, Relation, empty_database}
use Rattle.db_model.specs.Sound.{IsSoundDatabase, IsSoundIndex, IsSoundRelation, StandsIn}
use Rattle.dump_model.specs.Packed.{packed}
use Rattle.dump_model.specs.Script.{command_line, script}
use Rattle.padded.proofs.Facts.{some_alike}

pub nothing : script empty_database ≡ []
nothing = refl

-- ---- two rows

abbrev key_and_text : List Attribute
key_and_text = record { name = codes "k"; domain = domain.Long } ∷ record { name = codes "t"; domain = domain.Str 3 } ∷ []

abbrev two_rows : Relation
two_rows = record {
  schema = record { name = codes "s"; attributes = key_and_text };
  rows =
      record { tuple = value.Number (pos 5) ∷ value.Text (codes "abc") ∷ []; live = true }
      ∷ record { tuple = value.Number (negsuc 0) ∷ value.Text [] ∷ []; live = true }
      ∷ [];
}

abbrev with_two_rows : Database
with_two_rows = record empty_database { relations = Some two_rows ∷ replicate 7 None }

two_rows_script : script with_two_rows ≡ codes "CREATE RELATION s;\nCREATE ATTRIBUTE k DOMAIN LONG IN s;\nCREATE ATTRIBUTE t DOMAIN STRING(3) IN s;\nINSERT (5, 'abc') INTO s;\nINSERT (-1, '') INTO s;\n"
unfolding digits command_line
two_rows_script = refl

-- ---- a time

abbrev times : Relation
times = record {
  schema = record { name = codes "w"; attributes = record { name = codes "at"; domain = domain.Time } ∷ record { name = codes "v"; domain = domain.Int } ∷ [] };
  rows = record { tuple = value.Number (pos 140737488355327) ∷ value.Number (negsuc 32766) ∷ []; live = true } ∷ [];
}

times_script : script (record empty_database { relations = None ∷ Some times ∷ replicate 6 None })
    ≡ codes "CREATE RELATION w;\nCREATE ATTRIBUTE at DOMAIN TIME IN w;\nCREATE ATTRIBUTE v DOMAIN INT IN w;\nINSERT (140737488355327, -32767) INTO w;\n"
unfolding digits command_line
times_script = refl

-- ---- unused slots, a removed row, and two indexes

abbrev samples : Relation
samples = record {
  schema = record { name = codes "s"; attributes = key_and_text };
  rows =
      record { tuple = value.Number (negsuc 0) ∷ value.Text (codes "abc") ∷ []; live = true }
      ∷ record { tuple = value.Number (pos 4) ∷ value.Text (codes "x") ∷ []; live = false }
      ∷ record { tuple = value.Number (pos 5) ∷ value.Text [] ∷ []; live = true }
      ∷ [];
}

abbrev sampled : Database
sampled = record {
  version = 1;
  relations = None ∷ None ∷ Some samples ∷ replicate 5 None;
  indexes = None ∷ None ∷ Some (record { kind = Inline; relation = 2; attribute = 0 }) ∷ replicate 5 None;
  cursors = replicate 4 None;
}

sampled_script : script sampled ≡ codes "CREATE RELATION s;\nCREATE ATTRIBUTE k DOMAIN LONG IN s;\nCREATE ATTRIBUTE t DOMAIN STRING(3) IN s;\nINSERT (-1, 'abc') INTO s;\nINSERT (5, '') INTO s;\nCREATE INDEX s.k TYPE INLINE;\n"
unfolding digits command_line
sampled_script = refl

sampled_packed : packed sampled ≡ record {
  version = 2;
  relations =
      Some (record {
        schema = samples.schema;
        rows =
            record { tuple = value.Number (negsuc 0) ∷ value.Text (codes "abc") ∷ []; live = true }
            ∷ record { tuple = value.Number (pos 5) ∷ value.Text [] ∷ []; live = true }
            ∷ [];
      })
      ∷ replicate 7 None;
  indexes = Some (record { kind = Inline; relation = 0; attribute = 0 }) ∷ replicate 7 None;
  cursors = replicate 4 None;
}
sampled_packed = refl

-- ---- it is sound

no_slot : {A : Type 0} (n k : ℕ) (x : A) → get_or (replicate n None) k None ≡ Some x → ⊥
no_slot zero k x h = cc
no_slot (suc n) zero x h = cc
no_slot (suc n) (suc k) x h = no_slot n k x h

sound_samples : IsSoundRelation 1 samples
unfolding keyword_of keywords
sound_samples = record {
  schema = record {
    name = refl;
    few = omega arith;
    attributes = (record { name = refl; domain = tt; time = λ e. cc }, (record { name = refl; domain = (omega arith, omega arith); time = λ e. cc }, tt));
    distinct = refl;
    short = omega arith;
  };
  rows = ((refl, (refl, tt)), ((refl, (refl, tt)), ((refl, (refl, tt)), tt)));
  slots = omega arith;
  filled = λ e. cc;
}

sampled_relation : (k : ℕ) (r : Relation) → StandsIn sampled.relations k r → (k ≡ 2) × (samples ≡ r)
sampled_relation zero r h = cc
sampled_relation (suc zero) r h = cc
sampled_relation (suc (suc zero)) r h = (refl, some_alike h)
sampled_relation (suc (suc (suc k))) r h = absurd (no_slot 5 k r h)

abbrev on_key : Index
on_key = record { kind = Inline; relation = 2; attribute = 0 }

sampled_index : (k : ℕ) (index : Index) → StandsIn sampled.indexes k index → (k ≡ 2) × (on_key ≡ index)
sampled_index zero index h = cc
sampled_index (suc zero) index h = cc
sampled_index (suc (suc zero)) index h = (refl, some_alike h)
sampled_index (suc (suc (suc k))) index h = absurd (no_slot 5 k index h)

sound_key : IsSoundIndex sampled.relations on_key
sound_key = record {
  relation = samples;
  stands = refl;
  suits = record { attribute = record { name = codes "k"; domain = domain.Long }; placed = refl; allowed = refl; keys = refl };
}

is_sound : IsSoundDatabase sampled
is_sound = record {
  version = inl refl;
  eight_relations = refl;
  eight_indexes = refl;
  four_cursors = refl;
  relations = λ k r h. subst (IsSoundRelation 1) (sampled_relation k r h).1 sound_samples;
  names = λ j k q r h i e. (sampled_relation j q h).0 ∙ sym (sampled_relation k r i).0;
  indexes = λ k index h. subst (IsSoundIndex sampled.relations) (sampled_index k index h).1 sound_key;
  places = λ j k a b h i e f. (sampled_index j a h).0 ∙ sym (sampled_index k b i).0;
  few_tables = omega arith;
  cursors = λ k cursor h. absurd (no_slot 4 k cursor h);
}
