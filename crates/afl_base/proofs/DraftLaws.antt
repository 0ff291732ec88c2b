-- A draft that is written from its front on.
use Rattle.std.proofs.Common.{◌≡◌, ℕ, ◌+◌, ◌≤◌, List, [], ◌++◌, length, replicate, sym, ap, ◌∙◌}
use Rattle.afl_base.specs.Fields.{put_at}
use Rattle.afl_base.specs.Files.{Drafts, State, draft_in}
use Rattle.padded.specs.Padded.{padded}
use Rattle.afl_base.proofs.PaddedLaws.{padded_all, padded_none, put_behind}

-- a draft that is begun has nothing in front of its zeros
pub drafts_none : (a b : State) (given : List ℕ) (n : ℕ) → Drafts a b given n (replicate n 0) → Drafts a b given n (padded n [])
drafts_none a b given n d = record {
  begun = d.begun;
  name = d.name;
  size = d.size;
  bytes = λ told. d.bytes told ∙ sym (padded_none n);
  files = d.files;
  tells = d.tells;
}

-- a piece is written behind the front
pub drafts_more : (a b c : State) (given : List ℕ) (n : ℕ) (front piece : List ℕ) → Drafts a b given n (padded n front) → length front + length piece ≤ n →
    Drafts b c (draft_in b).name (length (draft_in b).bytes) (put_at (draft_in b).bytes (length front) piece) → Drafts a c given n (padded n (front ++ piece))
drafts_more a b c given n front piece d room e = record {
  begun = e.begun;
  name = e.name ∙ d.name;
  size = e.size ∙ d.size;
  bytes = λ told. e.bytes (d.tells ∙ told) ∙ ap (λ (bytes : List ℕ). put_at bytes (length front) piece) (d.bytes told) ∙ put_behind n front piece room;
  files = e.files ∙ d.files;
  tells = e.tells ∙ d.tells;
}

-- the front is the whole
pub drafts_all : (a b : State) (given : List ℕ) (n : ℕ) (all : List ℕ) → length all ≡ n → Drafts a b given n (padded n all) → Drafts a b given n all
drafts_all a b given n all long d = record {
  begun = d.begun;
  name = d.name;
  size = d.size;
  bytes = λ told. d.bytes told ∙ padded_all n all long;
  files = d.files;
  tells = d.tells;
}
