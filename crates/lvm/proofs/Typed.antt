-- Typing by steps gives the sorts of the trees.
use Rattle.std.proofs.Common.{◌≡◌, ℕ, Bool, List, [], ◌∷◌, ◌++◌, map, Option, Some, None, refl, ap, sym, ◌∙◌, subst, option_map, option_and_then, slice_get, append_assoc, append-nil}
use Rattle.std.specs.Prelude.{IfSome}
use Rattle.db_model.specs.declared.commands.Compare.{Compare}
use Rattle.db_model.specs.declared.commands.Node.{Node}
use Rattle.db_model.specs.declared.commands.Node.TheVariants as node
use Rattle.db_model.specs.declared.schemas.Attribute.{Attribute}
use Rattle.db_model.specs.Cond.{Leaf, Number, Text, Attribute as Name, Arithmetic, Plus, Minus, Times, Over, Expr, Tip, Arith, Comparison, Tree, OfExpr, OfCond, leaf_node, arithmetic_node, joined, joined_all}
use Rattle.db_model.specs.declared.schemas.Domain.{Domain}
use Rattle.db_model.specs.declared.schemas.Domain.TheVariants as domain
use Rattle.db_model.specs.Item.{place_of}
use Rattle.db_model.specs.Typing as db
use Rattle.lvm.specs.declared.instruction.Instruction.{Instruction}
use Rattle.lvm.specs.declared.instruction.Instruction.TheVariants as step
use Rattle.lvm.specs.declared.kind.Kind.{Kind}
use Rattle.lvm.specs.declared.kind.Kind.TheVariants as kind
use Rattle.lvm.specs.Instruction.{instruction_for, instructions_for}
use Rattle.lvm.specs.Kind as spec
use Rattle.lvm.proofs.Joining.{by_join, at_step, Between, between, Steps, steps}
use Rattle.padded.proofs.Facts.{some_same}

-- the kind of a sort
abbrev pub kind_of_sort : Option db.Sort → Kind
kind_of_sort None = kind.Mixed
kind_of_sort (Some db.Numbers) = kind.Numbers
kind_of_sort (Some db.Texts) = kind.Texts

abbrev pub kind_of_tree : List Attribute → Tree → Kind
kind_of_tree attributes (OfExpr e) = kind_of_sort (db.sort attributes e)
kind_of_tree attributes (OfCond c) = kind.Truth

kind-domain : (d : Domain) → spec.kind_in d ≡ kind_of_sort (Some (db.sort_of d))
kind-domain domain.Int = refl
kind-domain domain.Long = refl
kind-domain domain.Time = refl
kind-domain (domain.Str n) = refl

kind-attribute : (o : Option Attribute) → spec.attribute_kind o ≡ kind_of_sort (option_map db.sort_of (option_map (λ a. a.domain) o))
kind-attribute None = refl
kind-attribute (Some a) = kind-domain a.domain

kind-joined : (a b : Option db.Sort) → spec.joined_kind (kind_of_sort a) (kind_of_sort b) ≡ kind_of_sort (db.joined_sorts a b)
kind-joined None b = refl
kind-joined (Some db.Numbers) None = refl
kind-joined (Some db.Numbers) (Some db.Numbers) = refl
kind-joined (Some db.Numbers) (Some db.Texts) = refl
kind-joined (Some db.Texts) b = refl

kind-alike : (a b : Option db.Sort) → spec.are_kinds_alike (kind_of_sort a) (kind_of_sort b) ≡ db.are_alike a b
kind-alike None None = refl
kind-alike None (Some b) = refl
kind-alike (Some db.Numbers) None = refl
kind-alike (Some db.Numbers) (Some db.Numbers) = refl
kind-alike (Some db.Numbers) (Some db.Texts) = refl
kind-alike (Some db.Texts) None = refl
kind-alike (Some db.Texts) (Some db.Numbers) = refl
kind-alike (Some db.Texts) (Some db.Texts) = refl

-- the step of a name
step-name : (attributes : List Attribute) (o : Option ℕ) (s : List Kind)
    → IfSome (option_map (λ k. step.Attribute k) o) (λ i. spec.stepped attributes i s ≡ kind_of_sort (option_map db.sort_of (option_map (λ a. a.domain) (option_and_then (slice_get attributes) o))) ∷ s)
step-name attributes None s = tt
step-name attributes (Some k) s = ap (λ x. x ∷ s) (kind-attribute (slice_get attributes k))

-- after the step of a node the stack has the kinds of its trees
abbrev Keeps : List Attribute → Node → List Tree → List Tree → Type 0
Keeps attributes n ts us = IfSome (instruction_for attributes n) (λ i. spec.stepped attributes i (map (kind_of_tree attributes) ts) ≡ map (kind_of_tree attributes) us)

leaf-step : (attributes : List Attribute) (leaf : Leaf) (ts : List Tree) → Keeps attributes (leaf_node leaf) ts (OfExpr (Tip leaf) ∷ ts)
leaf-step attributes (Number z) ts = refl
leaf-step attributes (Text bytes) ts = refl
leaf-step attributes (Name name) ts = step-name attributes (place_of name attributes) (map (kind_of_tree attributes) ts)

sign-step : (attributes : List Attribute) (s : Arithmetic) (a b : Expr) (ts : List Tree) → Keeps attributes (arithmetic_node s) (OfExpr b ∷ OfExpr a ∷ ts) (OfExpr (Arith s a b) ∷ ts)
sign-step attributes Plus a b ts = ap (λ x. x ∷ map (kind_of_tree attributes) ts) (kind-joined (db.sort attributes a) (db.sort attributes b))
sign-step attributes Minus a b ts = ap (λ x. x ∷ map (kind_of_tree attributes) ts) (kind-joined (db.sort attributes a) (db.sort attributes b))
sign-step attributes Times a b ts = ap (λ x. x ∷ map (kind_of_tree attributes) ts) (kind-joined (db.sort attributes a) (db.sort attributes b))
sign-step attributes Over a b ts = ap (λ x. x ∷ map (kind_of_tree attributes) ts) (kind-joined (db.sort attributes a) (db.sort attributes b))

node-step : (attributes : List Attribute) (n : Node) (ts us : List Tree) → joined n ts ≡ Some us → Keeps attributes n ts us
node-step attributes = by_join (Keeps attributes) (leaf-step attributes) (sign-step attributes) (λ how a b ts. refl) (λ c ts. refl) (λ c d ts. refl) (λ c d ts. refl)

-- ---- the comparisons of some trees, the latest tree being first

abbrev pub typings_in : List Attribute → Tree → List Bool
typings_in attributes (OfExpr e) = []
typings_in attributes (OfCond c) = db.typings attributes c

abbrev pub all_typings : List Attribute → List Tree → List Bool
all_typings attributes [] = []
all_typings attributes (t ∷ ts) = all_typings attributes ts ++ typings_in attributes t

-- a node adds its own typing
abbrev Adds : List Attribute → Node → List Tree → List Tree → Type 0
Adds attributes n ts us = IfSome (instruction_for attributes n) (λ i. all_typings attributes us ≡ all_typings attributes ts ++ spec.typing i (map (kind_of_tree attributes) ts))

leaf-adds : (attributes : List Attribute) (leaf : Leaf) (ts : List Tree) → Adds attributes (leaf_node leaf) ts (OfExpr (Tip leaf) ∷ ts)
leaf-adds attributes (Number z) ts = refl
leaf-adds attributes (Text bytes) ts = refl
leaf-adds attributes (Name name) ts = name-adds (place_of name attributes)
  where
    name-adds : (o : Option ℕ) → IfSome (option_map (λ k. step.Attribute k) o) (λ i. all_typings attributes (OfExpr (Tip (Name name)) ∷ ts) ≡ all_typings attributes ts ++ spec.typing i (map (kind_of_tree attributes) ts))
    name-adds None = tt
    name-adds (Some k) = refl

both_empty : (bs : List Bool) → bs ++ [] ≡ ((bs ++ []) ++ []) ++ []
both_empty bs = simp append-nil

sign-adds : (attributes : List Attribute) (s : Arithmetic) (a b : Expr) (ts : List Tree) → Adds attributes (arithmetic_node s) (OfExpr b ∷ OfExpr a ∷ ts) (OfExpr (Arith s a b) ∷ ts)
sign-adds attributes Plus a b ts = both_empty (all_typings attributes ts)
sign-adds attributes Minus a b ts = both_empty (all_typings attributes ts)
sign-adds attributes Times a b ts = both_empty (all_typings attributes ts)
sign-adds attributes Over a b ts = both_empty (all_typings attributes ts)

comparison-adds : (attributes : List Attribute) (how : Compare) (a b : Expr) (ts : List Tree) → Adds attributes (node.Compare how) (OfExpr b ∷ OfExpr a ∷ ts) (OfCond (Comparison how a b) ∷ ts)
comparison-adds attributes how a b ts =
    rw (append-nil (all_typings attributes ts), append-nil (all_typings attributes ts)) (ap (λ x. all_typings attributes ts ++ x ∷ []) (sym (kind-alike (db.sort attributes a) (db.sort attributes b))))

node-adds : (attributes : List Attribute) (n : Node) (ts us : List Tree) → joined n ts ≡ Some us → Adds attributes n ts us
node-adds attributes = by_join (Adds attributes) (leaf-adds attributes) (sign-adds attributes) (comparison-adds attributes)
    (λ c ts. sym (append-nil (all_typings attributes ts ++ db.typings attributes c)))
    (λ c d ts. grouped (all_typings attributes ts) (db.typings attributes c) (db.typings attributes d))
    (λ c d ts. grouped (all_typings attributes ts) (db.typings attributes c) (db.typings attributes d))
  where
    grouped : (xs ys zs : List Bool) → xs ++ (ys ++ zs) ≡ ((xs ++ ys) ++ zs) ++ []
    grouped xs ys zs = simp (append-nil, append_assoc)

-- the typings that the steps of some nodes find are those of the trees
pub typings-nodes : (attributes : List Attribute) (nodes : List Node) (code : List Instruction) (ts us : List Tree)
    → joined_all nodes ts ≡ Some us → instructions_for attributes nodes ≡ Some code
    → all_typings attributes us ≡ all_typings attributes ts ++ spec.step_typings attributes code (map (kind_of_tree attributes) ts)
typings-nodes attributes [] code ts us j c =
    subst (λ is. all_typings attributes us ≡ all_typings attributes ts ++ spec.step_typings attributes is (map (kind_of_tree attributes) ts)) (some_same [] code c)
    (ap (all_typings attributes) (sym (some_same ts us j)) ∙ sym (append-nil (all_typings attributes ts)))
typings-nodes attributes (n ∷ ns) code ts us j c =
    let b : Between n ns ts us = between n ns ts us j in
    let k : Steps attributes n ns code = steps attributes n ns code c in
    let kinds : List Kind = map (kind_of_tree attributes) ts in
    let e : spec.stepped attributes k.step kinds ≡ map (kind_of_tree attributes) b.trees =
    at_step (λ i. spec.stepped attributes i kinds ≡ map (kind_of_tree attributes) b.trees) (instruction_for attributes n) k.step k.first (node-step attributes n ts b.trees b.first) in
    let f : all_typings attributes b.trees ≡ all_typings attributes ts ++ spec.typing k.step kinds =
    at_step (λ i. all_typings attributes b.trees ≡ all_typings attributes ts ++ spec.typing i kinds) (instruction_for attributes n) k.step k.first (node-adds attributes n ts b.trees b.first) in
    let r : all_typings attributes us ≡ all_typings attributes b.trees ++ spec.step_typings attributes k.rest (map (kind_of_tree attributes) b.trees) = typings-nodes attributes ns k.rest b.trees us b.others k.others in
    subst (λ is. all_typings attributes us ≡ all_typings attributes ts ++ spec.step_typings attributes is kinds) k.both
    (r ∙ ap (λ bs. bs ++ spec.step_typings attributes k.rest (map (kind_of_tree attributes) b.trees)) f
    ∙ ap (λ ks. (all_typings attributes ts ++ spec.typing k.step kinds) ++ spec.step_typings attributes k.rest ks) (sym e)
    ∙ append_assoc (all_typings attributes ts) (spec.typing k.step kinds) (spec.step_typings attributes k.rest (spec.stepped attributes k.step kinds)))
