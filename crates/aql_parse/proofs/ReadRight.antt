-- What the machine, the cut and the builder say together of the bytes of a command.
use Rattle.std.proofs.Common.{◌≡◌, ℕ, ◌≤◌, Bool, true, false, IsSome, List, [], ◌∷◌, ◌++◌, length, Option, Some, None, Result, Ok, Err, refl, sym, ◌∙◌, ap, subst, append-nil, arith}
use Rattle.db_model.specs.Cond.{Cond, postfix, condition_of, IsCondition}
use Rattle.db_model.specs.Grammar.{Disj, Where, nothing, condition, IsQuery, select, join, Spells, create_relation, create_attribute, create_index, insert, ask, aggregate, remove_from, remove_relation, remove_index, pack, open_cursor, fetch_cursor, close_cursor}
use Rattle.db_model.specs.Reading.{IsTooLarge, IsReading}
use Rattle.db_model.specs.Spelling.{IsSpelt, IsLongestFront, GoesWrongAt, end_of, nodes_of, query_nodes}
use Rattle.db_model.specs.Tokens.{tokens_of}
use Rattle.db_model.specs.declared.commands.Command.{Command}
use Rattle.db_model.specs.declared.commands.Node.{Node}
use Rattle.db_model.specs.declared.commands.Query.{Query}
use Rattle.db_model.specs.declared.refusals.Pool.{Pool}
use Rattle.db_model.specs.declared.refusals.Pool.TheVariants as pool
use Rattle.db_model.specs.declared.refusals.Refusal.{Refusal}
use Rattle.db_model.specs.declared.refusals.Refusal.TheVariants as refusal
use Rattle.db_model.specs.declared.tokens.Token.{Token}
use Rattle.aql_parse.specs.Built.{command_of, first_tokens}
use Rattle.aql_parse.specs.Kept.{KeepsNodes, AreKept}
use Rattle.aql_parse.specs.Machine.{run, readable_tokens, start}
use Rattle.aql_parse.specs.declared.nodes.Nodes.{Nodes}
use Rattle.aql_parse.proofs.BuiltRight.{spells_built, head_built}
use Rattle.aql_parse.proofs.Complete.{disj_runs}
use Rattle.aql_parse.proofs.CompleteHeads.{spells_run}
use Rattle.aql_parse.proofs.Sound.{start_sound}
use Rattle.aql_parse.proofs.Viable.{longest}

-- tokens that the machine does not read to their end spell nothing
pub none_spelt : (bytes : List ℕ) (tokens : List Token) → tokens ≡ (tokens_of bytes).items → run start tokens ≡ None → (c : Command) → IsSpelt c bytes → ⊥
none_spelt bytes tokens e h c s =
    let some : run start tokens ≡ Some (nodes_of c) = ap (run start) e ∙ spells_run c (tokens_of bytes).items s.spelling in
    cc

-- bytes that are not tokens to their end spell nothing
pub not_whole : (bytes : List ℕ) (whole : Bool) → whole ≡ (tokens_of bytes).whole → whole ≡ false → (c : Command) → IsSpelt c bytes → ⊥
not_whole bytes whole e h c s = let w = s.whole in cc

-- the place of the longest front
pub wrong_at : (bytes : List ℕ) (tokens : List Token) (ends : List ℕ) (n at : ℕ) → tokens ≡ (tokens_of bytes).items → ends ≡ (tokens_of bytes).ends →
    n ≡ readable_tokens start tokens → at ≡ end_of ends n → GoesWrongAt bytes at
wrong_at bytes tokens ends n at e f h p =
    let far : n ≡ readable_tokens start (tokens_of bytes).items = h ∙ ap (readable_tokens start) e in
    record {
      tokens = n;
      longest = subst (IsLongestFront (tokens_of bytes).items) (sym far) (longest (tokens_of bytes).items);
      place = p ∙ ap (λ x. end_of x n) f;
    }

-- where all tokens are read
pub record IsRead (tokens : List Token) (nodes : Nodes) : Type 0 where
  pub all : List Node
  pub ran : run start tokens ≡ Some all
  pub keeps : KeepsNodes all nodes

pub is_read : (tokens : List Token) (nodes : Nodes) → AreKept (run start tokens) nodes → IsRead tokens nodes
is_read tokens nodes k = go (run start tokens) refl k
  where
    go : (r : Option (List Node)) → run start tokens ≡ r → AreKept r nodes → IsRead tokens nodes
    go None e k = absurd k
    go (Some all) e k = record { all = all; ran = e; keeps = k }

-- a command with too many nodes
pub too_much : (bytes : List ℕ) (nodes : Nodes) → (tokens_of bytes).whole ≡ true → AreKept (run start (tokens_of bytes).items) nodes → nodes.over ≡ true → IsTooLarge bytes pool.Nodes 32
too_much bytes nodes w k o =
    let r = is_read (tokens_of bytes).items nodes k in
    let c = start_sound (tokens_of bytes).items r.all r.ran in
    record {
      nodes = refl;
      few = refl;
      command = c.command;
      spelt = record { whole = w; spelling = c.spelt };
      many = omega (arith, r.keeps.more o, ap length c.nodes);
    }

-- the command that is built of the first tokens
pub record IsBuilt (bytes : List ℕ) (head : List Token) (nodes : Nodes) : Type 0 where
  pub command : Command
  pub built : command_of head nodes.first ≡ Some command
  pub spelt : IsSpelt command bytes
  pub few : length (nodes_of command) ≤ 32

pub is_built : (bytes : List ℕ) (head : List Token) (nodes : Nodes) → head ≡ first_tokens (tokens_of bytes).items → (tokens_of bytes).whole ≡ true →
    AreKept (run start (tokens_of bytes).items) nodes → nodes.over ≡ false → IsBuilt bytes head nodes
is_built bytes head nodes e w k o =
    let tokens : List Token = (tokens_of bytes).items in
    let r = is_read tokens nodes k in
    let c = start_sound tokens r.all r.ran in
    let same : nodes_of c.command ≡ nodes.first = c.nodes ∙ sym (r.keeps.whole o) in
    record {
      command = c.command;
      built = ap (λ ts. command_of ts nodes.first) e ∙ ap (command_of (first_tokens tokens)) (sym same) ∙ head_built c.command tokens c.spelt;
      spelt = record { whole = w; spelling = c.spelt };
      few = omega (arith, ap length same, r.keeps.few);
    }

-- a command is built
pub is_there : (bytes : List ℕ) (head : List Token) (nodes : Nodes) (r : Option Command) → IsBuilt bytes head nodes → r ≡ command_of head nodes.first → r ≡ None → ⊥
is_there bytes head nodes r b e h = let built = b.built in cc

pub is_it : (bytes : List ℕ) (head : List Token) (nodes : Nodes) (c : Command) (r : Option Command) → (b : IsBuilt bytes head nodes) → r ≡ command_of head nodes.first → r ≡ Some c → b.command ≡ c
is_it bytes head nodes c r b e h = let built = b.built in cc

-- ---- conditions

where_condition : ((c : Cond) → condition_of (postfix c) ≡ Some c) → (nodes : List Node) (ts : List Token) → Where nodes ts → IsCondition nodes
where_condition law _ _ nothing = tt
where_condition law _ _ (condition c ts p) = go (postfix c) (law c)
  where
    go : (ns : List Node) → condition_of ns ≡ Some c → IsCondition ns
    go [] e = tt
    go (n ∷ ns) e = subst IsSome (sym e) refl

query_condition : ((c : Cond) → condition_of (postfix c) ≡ Some c) → (q : Query) (ts : List Token) → IsQuery q ts → IsCondition (query_nodes q)
query_condition law _ _ (select list relation nodes ts us l w) = where_condition law nodes us w
query_condition law _ _ (join left right on list ts l) = tt

-- the nodes of a command that is spelt are none, or those of a condition
pub spelt_condition : ((c : Cond) → condition_of (postfix c) ≡ Some c) → (c : Command) (ts : List Token) → Spells c ts → IsCondition (nodes_of c)
spelt_condition law _ _ (create_relation n) = tt
spelt_condition law _ _ (create_attribute n d r ts p) = tt
spelt_condition law _ _ (create_index r a k) = tt
spelt_condition law _ _ (insert list r ts l) = tt
spelt_condition law _ _ (ask q ts p) = query_condition law q ts p
spelt_condition law _ _ (aggregate list r nodes ts us l w) = where_condition law nodes us w
spelt_condition law _ _ (remove_from r nodes us w) = where_condition law nodes us w
spelt_condition law _ _ (remove_relation r) = tt
spelt_condition law _ _ (remove_index r a) = tt
spelt_condition law _ _ (pack r) = tt
spelt_condition law _ _ (open_cursor z q ts p) = query_condition law q ts p
spelt_condition law _ _ (fetch_cursor z) = tt
spelt_condition law _ _ (close_cursor z) = tt

-- ---- one reading

pub one_command : (bytes : List ℕ) (c d : Command) → IsSpelt c bytes → IsSpelt d bytes → c ≡ d
one_command bytes c d s t =
    let ts : List Token = (tokens_of bytes).items in
    let nodes : Some (nodes_of c) ≡ Some (nodes_of d) = sym (spells_run c ts s.spelling) ∙ spells_run d ts t.spelling in
    let same : nodes_of c ≡ nodes_of d = cc in
    let built : Some c ≡ Some d = sym (spells_built c ts s.spelling) ∙ ap (command_of ts) same ∙ spells_built d ts t.spelling in
    cc

pub one_condition : ((c : Cond) → condition_of (postfix c) ≡ Some c) → (ts : List Token) (c d : Cond) → Disj c ts → Disj d ts → c ≡ d
one_condition law ts c d p q =
    let ran = λ (x : Cond) (h : Disj x ts). disj_runs x ts h [] [] (record { products = tt; sums = tt }) tt in
    let nodes : Some (postfix c ++ []) ≡ Some (postfix d ++ []) = sym (ran c p) ∙ ran d q in
    let same : postfix c ++ [] ≡ postfix d ++ [] = cc in
    let lists : postfix c ≡ postfix d = sym (append-nil (postfix c)) ∙ same ∙ append-nil (postfix d) in
    let trees : Some c ≡ Some d = sym (law c) ∙ ap condition_of lists ∙ law d in
    cc

-- ---- one reading of the bytes

-- the place where bytes go wrong is one
one_place : (bytes : List ℕ) (p q : ℕ) → GoesWrongAt bytes p → GoesWrongAt bytes q → p ≡ q
one_place bytes p q g h =
    let up = h.longest.longest g.tokens g.longest.fits g.longest.begins in
    let down = g.longest.longest h.tokens h.longest.fits h.longest.begins in
    let same : g.tokens ≡ h.tokens = omega (arith, up, down) in
    g.place ∙ ap (end_of (tokens_of bytes).ends) same ∙ sym h.place

one_size : (bytes : List ℕ) (c : Command) (p : Pool) (n : ℕ) → IsSpelt c bytes → length (nodes_of c) ≤ 32 → IsTooLarge bytes p n → ⊥
one_size bytes c p n s few l = let same = one_command bytes c l.command s l.spelt in absurd (omega (arith, few, l.many, ap (λ (x : Command). length (nodes_of x)) same))

pub one_reading : (bytes : List ℕ) (r s : Result Command Refusal) → IsReading bytes r → IsReading bytes s → r ≡ s
one_reading bytes (Ok c) (Ok d) h k = ap (λ x. Ok x) (one_command bytes c d h.0 k.0)
one_reading bytes (Ok c) (Err (refusal.Syntax at)) h k = absurd (k.none c h.0)
one_reading bytes (Ok c) (Err (refusal.Full p n)) h k = absurd (one_size bytes c p n h.0 h.1 k)
one_reading bytes (Err (refusal.Syntax at)) (Ok d) h k = absurd (h.none d k.0)
one_reading bytes (Err (refusal.Syntax at)) (Err (refusal.Syntax to)) h k = ap (λ x. Err (refusal.Syntax x)) (one_place bytes at to h.wrong k.wrong)
one_reading bytes (Err (refusal.Syntax at)) (Err (refusal.Full p n)) h k = absurd (h.none k.command k.spelt)
one_reading bytes (Err (refusal.Full p n)) (Ok d) h k = absurd (one_size bytes d p n k.0 k.1 h)
one_reading bytes (Err (refusal.Full p n)) (Err (refusal.Syntax to)) h k = absurd (k.none h.command h.spelt)
one_reading bytes (Err (refusal.Full p n)) (Err (refusal.Full q m)) h k = let a = h.nodes in let b = h.few in let c = k.nodes in let d = k.few in cc
one_reading bytes (Ok c) (Err _) h k = absurd k
one_reading bytes (Err (refusal.Syntax at)) (Err _) h k = absurd k
one_reading bytes (Err (refusal.Full p n)) (Err _) h k = absurd k
one_reading bytes (Err _) s h k = absurd h
