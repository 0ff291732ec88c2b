-- The code of a condition answers what the condition does.
use Rattle.std.proofs.Common.{◌≡◌, ℕ, List, [], ◌∷◌, map, Option, Some, None, refl, ap, sym, ◌∙◌, subst, option_and_then}
use Rattle.std.specs.Prelude.{IsSome}
use Rattle.db_model.specs.declared.commands.Node.{Node}
use Rattle.db_model.specs.declared.refusals.Refusal.TheVariants as no
use Rattle.db_model.specs.declared.schemas.Attribute.{Attribute}
use Rattle.db_model.specs.declared.values.Value.{Value}
use Rattle.db_model.specs.Cond.{Cond, Tree, OfExpr, OfCond, joined_all, sole_condition, condition_of, IsCondition}
use Rattle.db_model.specs.Item.{selects}
use Rattle.db_model.specs.Ranges.{range_of}
use Rattle.db_model.specs.Typing.{first_false, is_attribute, names_of, typings_of}
use Rattle.lvm.specs.declared.instruction.Instruction.{Instruction}
use Rattle.lvm.specs.Code.{IsPostfixOf, IsCodeOf, first_missing_name, first_ill_typed, first_refusal, refusal}
use Rattle.lvm.specs.Evaluate.{evaluated, verdict}
use Rattle.lvm.specs.Instruction.{instructions_for, names_among}
use Rattle.lvm.specs.Kind.{step_typings}
use Rattle.lvm.specs.Side.{derived, range_on_top}
use Rattle.lvm.proofs.Derived.{derived-nodes}
use Rattle.lvm.proofs.Evaluation.{evaluated-nodes}
use Rattle.lvm.proofs.Names.{names-nodes}
use Rattle.lvm.proofs.Typed.{typings-nodes}
use Rattle.padded.proofs.Facts.{some_same}

-- ---- the nodes of a condition

spelt-trees : (nodes : List Node) (o : Option (List Tree)) → joined_all nodes [] ≡ o → IsSome (option_and_then sole_condition o) → IsPostfixOf nodes (option_and_then sole_condition o)
spelt-trees nodes None e h = cc
spelt-trees nodes (Some []) e h = cc
spelt-trees nodes (Some (OfExpr x ∷ ts)) e h = cc
spelt-trees nodes (Some (OfCond c ∷ [])) e h = e
spelt-trees nodes (Some (OfCond c ∷ t ∷ ts)) e h = cc

pub spelt : (nodes : List Node) → IsCondition nodes → IsPostfixOf nodes (condition_of nodes)
spelt [] h = refl
spelt (n ∷ ns) h = spelt-trees (n ∷ ns) (joined_all (n ∷ ns) []) refl h

names-spelt : (nodes : List Node) (condition : Option Cond) → IsPostfixOf nodes condition → names_among nodes ≡ names_of condition
names-spelt nodes None s = ap names_among s
names-spelt nodes (Some c) s = sym (names-nodes nodes [] (OfCond c ∷ []) s)

-- the code of no condition is empty
empty-code : (attributes : List Attribute) (nodes : List Node) (code : List Instruction) → nodes ≡ [] → instructions_for attributes nodes ≡ Some code → [] ≡ code
empty-code attributes nodes code e c = some_same [] code (sym (ap (instructions_for attributes) e) ∙ c)

-- ---- what the code answers

pub verdict-code : (attributes : List Attribute) (values : List Value) (condition : Option Cond) (code : List Instruction) → IsCodeOf attributes condition code
    → verdict (evaluated code values []) ≡ selects attributes condition values
verdict-code attributes values None code k = subst (λ is. verdict (evaluated is values []) ≡ selects attributes None values) (empty-code attributes k.nodes code k.spelt k.code_is) refl
verdict-code attributes values (Some c) code k = ap verdict (evaluated-nodes attributes values k.nodes code [] (OfCond c ∷ []) k.spelt k.code_is)

pub range-code : (attributes : List Attribute) (place : ℕ) (condition : Option Cond) (code : List Instruction) → IsCodeOf attributes condition code
    → range_on_top (derived place code []) ≡ range_of attributes place condition
range-code attributes place None code k = subst (λ is. range_on_top (derived place is []) ≡ range_of attributes place None) (empty-code attributes k.nodes code k.spelt k.code_is) refl
range-code attributes place (Some c) code k = ap range_on_top (derived-nodes attributes place k.nodes code [] (OfCond c ∷ []) k.spelt k.code_is)

typings-code : (attributes : List Attribute) (condition : Option Cond) (code : List Instruction) → IsCodeOf attributes condition code
    → step_typings attributes code [] ≡ typings_of attributes condition
typings-code attributes None code k = subst (λ is. step_typings attributes is [] ≡ []) (empty-code attributes k.nodes code k.spelt k.code_is) refl
typings-code attributes (Some c) code k = sym (typings-nodes attributes k.nodes code [] (OfCond c ∷ []) k.spelt k.code_is)

-- ---- refusals

missing-spelt : (n : ℕ) (attributes : List Attribute) (nodes : List Node) (condition : Option Cond) (o : Option ℕ) → IsPostfixOf nodes condition
    → first_false n (map (is_attribute attributes) (names_among nodes)) ≡ o → first_missing_name n attributes condition ≡ o
missing-spelt n attributes nodes condition o s e = ap (λ names. first_false n (map (is_attribute attributes) names)) (sym (names-spelt nodes condition s)) ∙ e

pub refused-missing : (n : ℕ) (attributes : List Attribute) (nodes : List Node) (condition : Option Cond) (nth : ℕ) → IsPostfixOf nodes condition
    → first_false n (map (is_attribute attributes) (names_among nodes)) ≡ Some nth → refusal n attributes condition ≡ Some (no.NoAttribute nth)
refused-missing n attributes nodes condition nth s e = ap (λ o. first_refusal o (first_ill_typed n attributes condition)) (missing-spelt n attributes nodes condition (Some nth) s e)

pub refused-typed : (n : ℕ) (attributes : List Attribute) (nodes : List Node) (condition : Option Cond) (code : List Instruction) (o : Option ℕ) → IsPostfixOf nodes condition
    → instructions_for attributes nodes ≡ Some code → first_false n (map (is_attribute attributes) (names_among nodes)) ≡ None
    → first_false n (step_typings attributes code []) ≡ o → refusal n attributes condition ≡ first_refusal None o
refused-typed n attributes nodes condition code o s c e f =
    let k : IsCodeOf attributes condition code = record { nodes = nodes; spelt = s; code_is = c } in
    let g : first_ill_typed n attributes condition ≡ o = ap (first_false n) (sym (typings-code attributes condition code k)) ∙ f in
    ap (λ m. first_refusal m (first_ill_typed n attributes condition)) (missing-spelt n attributes nodes condition None s e) ∙ ap (first_refusal None) g
