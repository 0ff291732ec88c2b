-- The tokens of a command, each read as soon as it is cut.
use Rattle.std.proofs.Common.{◌≡◌, ℕ, zero, suc, ◌+◌, ◌-◌, ◌<◌, ◌≤◌, Bool, true, false, IsTrue, List, [], ◌∷◌, ◌++◌, length, take, drop, get_or, Option, Some, None, refl, sym, ◌∙◌, ap, subst, append_assoc, length-append, arith}
use Rattle.std.proofs.Math.ListN.{get_or-append, drop_of_length-le}
use Rattle.std.proofs.Math.Seq.{get_or-append_seam}
use Rattle.std.proofs.lemmas.List.{take_all, take_at}
use Rattle.std.specs.List.{prefix_len, list_all}
use Rattle.db_model.specs.Reading.{IsNoCommand}
use Rattle.db_model.specs.Spelling.{GoesWrongAt, end_of}
use Rattle.db_model.specs.Tokens.{is_white, token_at, tokens_from, tokens_of}
use Rattle.db_model.specs.declared.commands.Node.{Node}
use Rattle.db_model.specs.declared.tokens.Token.{Token}
use Rattle.aql_parse.specs.Built.{first_tokens}
use Rattle.aql_parse.specs.Kept.{AreKept}
use Rattle.aql_parse.specs.Machine.{Move, read, finish, run, readable_tokens, behind_nodes, start}
use Rattle.aql_parse.specs.Moves.{HasRead, HasEnded}
use Rattle.aql_parse.specs.declared.nodes.Nodes.{Nodes}
use Rattle.aql_parse.specs.declared.symbols.Symbol.{Symbol}
use Rattle.aql_parse.proofs.Cutting.{Cutting, cutting_more, cutting_ends, cutting_stuck}
use Rattle.aql_parse.proofs.ReadRight.{none_spelt, not_whole, wrong_at}
use Rattle.aql_parse.proofs.Runs.{behind-nil}
use Rattle.aql_parse.proofs.Turns.{Recognizing, no_nodes, recognizing_more, recognizing_ends, run_when, reach_when}

-- the tokens up to a place are read, and the first of them kept
pub record Streaming (bytes : List ℕ) (at : ℕ) (head : List Token) (stack : List Symbol) (nodes : Nodes) : Type 0 where
  pub tokens : List Token
  pub ends : List ℕ
  pub cutting : Cutting bytes at tokens ends
  pub reading : Recognizing (length tokens) (tokens_of bytes).items stack nodes
  pub place : at ≡ end_of ends (length tokens)
  pub first : head ≡ first_tokens tokens

fields : (nodes : Nodes) → nodes.first ≡ [] → nodes.over ≡ false → nodes ≡ no_nodes
fields nodes e f =
    let one : nodes ≡ record { first = []; over = nodes.over } = ap (λ x. record { first = x; over = nodes.over }) e in
    let two : record { first = []; over = nodes.over } ≡ no_nodes = ap (λ x. record { first = []; over = x }) f in
    one ∙ two

-- nothing is read yet
pub streaming_begins : (bytes : List ℕ) (head : List Token) (stack : List Symbol) (nodes : Nodes) → head ≡ [] → stack ≡ start → nodes.first ≡ [] → nodes.over ≡ false → Streaming bytes 0 head stack nodes
streaming_begins bytes head stack nodes h s e f =
    let tokens : List Token = (tokens_of bytes).items in
    let recognizing : Recognizing 0 tokens start no_nodes = record { out = []; same = sym (behind-nil (run start tokens)); far = omega arith; kept = refl; light = omega arith } in
    record {
      tokens = [];
      ends = [];
      cutting = record { items = refl; places = refl; whole = refl; many = omega arith; same = refl; within = omega arith };
      reading = subst (λ (x : Nodes). Recognizing 0 tokens stack x) (sym (fields nodes e f)) (subst (λ (x : List Symbol). Recognizing 0 tokens x no_nodes) (sym s) recognizing);
      place = refl;
      first = h;
    }

-- one token more behind the first of some
first_more : (n : ℕ) (ts : List Token) (t : Token) → take n (take n ts ++ t ∷ []) ≡ take n (ts ++ t ∷ [])
first_more zero ts t = refl
first_more (suc n) [] t = refl
first_more (suc n) (x ∷ ts) t = ap (λ y. x ∷ y) (first_more n ts t)

pub kept_within : (head : List Token) (t : Token) → length head < 42 → head ++ t ∷ [] ≡ first_tokens (head ++ t ∷ [])
kept_within head t h = sym (take_all 42 (head ++ t ∷ []) (omega (arith, length-append head (t ∷ []), h)))

pub kept_beyond : (head : List Token) (t : Token) → length head ≡ 42 → head ≡ first_tokens (head ++ t ∷ [])
kept_beyond head t h = sym (take_at head (t ∷ []) 42 h)

place_more : (ends : List ℕ) (to n : ℕ) → n ≡ length ends → to ≡ end_of (ends ++ to ∷ []) (suc n)
place_more ends to n e = sym (ap (λ k. get_or (ends ++ to ∷ []) k 0) e ∙ get_or-append_seam ends to [] 0)

-- what is left where a token stands at a place
left_at : (all tokens rest : List Token) (t : Token) → all ≡ tokens ++ t ∷ rest → drop (length tokens) all ≡ t ∷ rest
left_at all tokens rest t e = ap (drop (length tokens)) e ∙ seam tokens
  where
    seam : (ts : List Token) → drop (length ts) (ts ++ t ∷ rest) ≡ t ∷ rest
    seam [] = refl
    seam (x ∷ ts) = seam ts

-- a token is cut, read and kept
pub streaming_more : (bytes : List ℕ) (at from to : ℕ) (head heads : List Token) (stack next : List Symbol) (nodes more : Nodes) (t : Token) (done : Bool) → Streaming bytes at head stack nodes →
    from ≡ at + prefix_len is_white (drop at bytes) → token_at (drop from bytes) ≡ Some (t, to - from) → from < to → to ≤ length bytes →
    HasRead (read stack t) next nodes more done → done ≡ true → heads ≡ first_tokens (head ++ t ∷ []) → Streaming bytes to heads next more
streaming_more bytes at from to head heads stack next nodes more t done s begin found far within r d h =
    let all : List Token = (tokens_of bytes).items in
    let rest : List Token = (tokens_from to 0 (drop to bytes)).items in
    let cut = cutting_more bytes at from to s.tokens s.ends t s.cutting begin found far within in
    let joined : all ≡ s.tokens ++ t ∷ rest = cut.items ∙ append_assoc s.tokens (t ∷ []) rest in
    let long : length all ≡ length s.tokens + length (t ∷ rest) = ap length joined ∙ length-append s.tokens (t ∷ rest) in
    let there : t ≡ get_or all (length s.tokens) t = sym (ap (λ x. get_or x (length s.tokens) t) joined ∙ get_or-append_seam s.tokens t rest t) in
    let recognized = recognizing_more (length s.tokens) all stack next nodes more t done s.reading (omega (arith, long)) there r d in
    let one : length (s.tokens ++ t ∷ []) ≡ length s.tokens + 1 = length-append s.tokens (t ∷ []) in
    let count : length (s.tokens ++ t ∷ []) ≡ suc (length s.tokens) = omega (arith, one) in
    record {
      tokens = s.tokens ++ t ∷ [];
      ends = s.ends ++ to ∷ [];
      cutting = cut;
      reading = subst (λ k. Recognizing k all next more) (sym one) recognized;
      place = place_more s.ends to (length s.tokens) (sym s.cutting.same) ∙ ap (end_of (s.ends ++ to ∷ [])) (sym count);
      first = h ∙ ap (λ x. first_tokens (x ++ t ∷ [])) s.first ∙ first_more 42 s.tokens t;
    }

-- ---- where the tokens read are the longest front

end_within : (ends rest : List ℕ) (n : ℕ) → n ≤ length ends → end_of (ends ++ rest) n ≡ end_of ends n
end_within ends rest zero h = refl
end_within ends rest (suc n) h = get_or-append ends rest 0 n (omega arith)

stops : (bytes : List ℕ) (at : ℕ) (head : List Token) (stack : List Symbol) (nodes : Nodes) (s : Streaming bytes at head stack nodes) →
    readable_tokens stack (drop (length s.tokens) (tokens_of bytes).items) ≡ 0 → GoesWrongAt bytes at
stops bytes at head stack nodes s h =
    let front : end_of (tokens_of bytes).ends (length s.tokens) ≡ end_of s.ends (length s.tokens) =
    ap (λ x. end_of x (length s.tokens)) s.cutting.places ∙ end_within s.ends (tokens_from at 0 (drop at bytes)).ends (length s.tokens) (omega (arith, s.cutting.same)) in
    wrong_at bytes (tokens_of bytes).items (tokens_of bytes).ends (length s.tokens) at refl refl (omega (arith, s.reading.far, h)) (s.place ∙ sym front)

-- a token that cannot come
pub streaming_stops : (bytes : List ℕ) (at from to : ℕ) (head : List Token) (stack next : List Symbol) (nodes more : Nodes) (t : Token) (done : Bool) → Streaming bytes at head stack nodes →
    from ≡ at + prefix_len is_white (drop at bytes) → token_at (drop from bytes) ≡ Some (t, to - from) → from < to → to ≤ length bytes →
    HasRead (read stack t) next nodes more done → done ≡ false → IsNoCommand bytes at
streaming_stops bytes at from to head stack next nodes more t done s begin found far within r d = go (read stack t) refl r
  where
    all : List Token
    all = (tokens_of bytes).items

    rest : List Token
    rest = (tokens_from to 0 (drop to bytes)).items

    left : drop (length s.tokens) all ≡ t ∷ rest
    left = left_at all s.tokens rest t ((cutting_more bytes at from to s.tokens s.ends t s.cutting begin found far within).items ∙ append_assoc s.tokens (t ∷ []) rest)

    go : (m : Option Move) → read stack t ≡ m → HasRead m next nodes more done → IsNoCommand bytes at
    go (Some m) e k = let yes_ : done ≡ true = k.0 in cc
    go None e k =
        let ran : run start all ≡ None = s.reading.same ∙ ap (λ x. behind_nodes s.reading.out (run stack x)) left ∙ ap (behind_nodes s.reading.out) (run_when stack t rest None e) in
        record { none = none_spelt bytes all refl ran; wrong = stops bytes at head stack nodes s (ap (readable_tokens stack) left ∙ reach_when stack t rest None e) }

-- where all tokens are read
nothing_left : (tokens all : List Token) → tokens ≡ all → drop (length tokens) all ≡ []
nothing_left tokens all e = drop_of_length-le all (let few : length all ≤ length tokens = omega (arith, ap length e) in few)

-- bytes that begin no token
pub streaming_stuck : (bytes : List ℕ) (at : ℕ) (head : List Token) (stack : List Symbol) (nodes : Nodes) → Streaming bytes at head stack nodes →
    token_at (drop (at + prefix_len is_white (drop at bytes)) bytes) ≡ None → at + prefix_len is_white (drop at bytes) < length bytes → IsNoCommand bytes at
streaming_stuck bytes at head stack nodes s none within =
    let a = cutting_stuck bytes at s.tokens s.ends s.cutting none within in
    let left = nothing_left s.tokens (tokens_of bytes).items a.items in
    record { none = not_whole bytes false a.end refl; wrong = stops bytes at head stack nodes s (ap (readable_tokens stack) left) }

-- the end, where more has to come
pub streaming_lacks : (bytes : List ℕ) (at : ℕ) (head : List Token) (stack : List Symbol) (nodes more : Nodes) (done : Bool) → Streaming bytes at head stack nodes →
    IsTrue (list_all is_white (drop at bytes)) → HasEnded (finish stack) nodes more done → done ≡ false → IsNoCommand bytes at
streaming_lacks bytes at head stack nodes more done s white r d = go (finish stack) refl r
  where
    all : List Token
    all = (tokens_of bytes).items

    left : drop (length s.tokens) all ≡ []
    left = nothing_left s.tokens all (cutting_ends bytes at s.tokens s.ends s.cutting white).items

    go : (x : Option (List Node)) → finish stack ≡ x → HasEnded x nodes more done → IsNoCommand bytes at
    go (Some ns) e k = let yes_ : done ≡ true = k.0 in cc
    go None e k =
        let ran : run start all ≡ None = s.reading.same ∙ ap (λ x. behind_nodes s.reading.out (run stack x)) left ∙ ap (behind_nodes s.reading.out) e in
        record { none = none_spelt bytes all refl ran; wrong = stops bytes at head stack nodes s (ap (readable_tokens stack) left) }

-- the end of a command
pub record IsRecognized (bytes : List ℕ) (head : List Token) (nodes : Nodes) : Type 0 where
  pub head_is : head ≡ first_tokens (tokens_of bytes).items
  pub nodes_are : AreKept (run start (tokens_of bytes).items) nodes
  pub whole : (tokens_of bytes).whole ≡ true

pub streaming_ends : (bytes : List ℕ) (at : ℕ) (head : List Token) (stack : List Symbol) (nodes more : Nodes) (done : Bool) → Streaming bytes at head stack nodes →
    IsTrue (list_all is_white (drop at bytes)) → HasEnded (finish stack) nodes more done → done ≡ true → IsRecognized bytes head more
streaming_ends bytes at head stack nodes more done s white r d =
    let a = cutting_ends bytes at s.tokens s.ends s.cutting white in
    record {
      head_is = s.first ∙ ap first_tokens a.items;
      nodes_are = recognizing_ends (length s.tokens) (tokens_of bytes).items stack nodes more done s.reading (ap length a.items) r d;
      whole = sym a.end;
    }
