-- Bytes in front of zeros: what a write into the front, or behind it, leaves.
use Rattle.std.proofs.Common.{◌≡◌, ℕ, ◌+◌, ◌-◌, ◌≤◌, List, ◌++◌, length, take, replicate, sym, ap, ◌∙◌, subst, arith}
use Rattle.std.proofs.lemmas.List.{length-append, length-replicate, take-replicate, replicate-append-replicate}
use Rattle.afl_base.specs.declared.kind.Kind.{Kind}
use Rattle.afl_base.specs.declared.kind.Kind.TheVariants.{Doubling, Fixed}
use Rattle.afl_base.specs.Fields.{put_at}
use Rattle.afl_base.specs.Files.{IsKind}
use Rattle.padded.specs.Padded.{IsPadded, length-front, padded}
use Rattle.afl_base.proofs.FieldLaws.{length-put_at}
use Rattle.afl_base.proofs.PaddedLaws.{front_of_padded, is_padded, put_behind, put_in_front}
use Rattle.afl_sim.specs.PlainFiles.{IsPlain}

-- a kind of a file has at most 15 pages where it is fixed
pages_of : (kind : Kind) (n : ℕ) → IsKind kind → kind ≡ Fixed n → n ≤ 15
pages_of Doubling n is same = absurd (cc)
pages_of (Fixed m) n is same = let eq : m ≡ n = cc in omega (arith, is.1)

-- an array of zeros
pub content_zeros : (n size : ℕ) → size ≤ n → take size (replicate {A = ℕ} n 0) ≡ replicate {A = ℕ} size 0
content_zeros n size fits = take-replicate {X = ℕ} size n 0 fits

pub plain_zeros : (n size : ℕ) (kind : Kind) → size ≤ n → IsKind kind → IsPlain n size 0 kind (replicate n 0)
plain_zeros n size kind fits is =
    let zeros = content_zeros n size fits in
    let long : length (replicate {A = ℕ} size 0) ≡ size = length-replicate {A = ℕ} size 0 in
    record {
      padded = record {
        short = fits;
        long = length-replicate {A = ℕ} n 0;
        rest = sym (rw (zeros, long, replicate-append-replicate {A = ℕ} size (n - size) 0) (ap (λ (m : ℕ). replicate m 0) (omega arith)));
      };
      fits = omega arith;
      pages = λ m same. pages_of kind m is same;
    }

-- the bytes of an array, and what of them is content
record Holds (n size : ℕ) (bytes told : List ℕ) : Type 0 where
  padded : IsPadded n size bytes
  content : take size bytes ≡ told

holds_padded : (n size : ℕ) (bytes xs : List ℕ) → length xs ≤ n → length xs ≡ size → bytes ≡ padded n xs → Holds n size bytes xs
holds_padded n size bytes xs short long is = record {
  padded = subst (λ (b : List ℕ). IsPadded n size b) (sym is) (subst (λ (s : ℕ). IsPadded n s (padded n xs)) long (is_padded n xs short));
  content = ap (take size) is ∙ ap (λ (s : ℕ). take s (padded n xs)) (sym long) ∙ front_of_padded n xs;
}

put_holds : (n size room at : ℕ) (kind : Kind) (bytes new : List ℕ) → IsPlain n size room kind bytes → at + length new ≤ length (take size bytes) →
    Holds n size (put_at bytes at new) (put_at (take size bytes) at new)
put_holds n size room at kind bytes new plain inside =
    let content : List ℕ = take size bytes in
    let long : length content ≡ size = length-front n size bytes plain.padded in
    let same : length (put_at content at new) ≡ length content = length-put_at content new at (omega arith) in
    let short : size ≤ n = plain.padded.short in
    holds_padded n size (put_at bytes at new) (put_at content at new) (omega arith) (omega arith)
    (ap (λ (xs : List ℕ). put_at xs at new) plain.padded.rest ∙ put_in_front n at content new (omega arith))

append_holds : (n size room : ℕ) (kind : Kind) (bytes new : List ℕ) → IsPlain n size room kind bytes → length new ≤ room →
    Holds n (size + length new) (put_at bytes size new) (take size bytes ++ new)
append_holds n size room kind bytes new plain inside =
    let content : List ℕ = take size bytes in
    let long : length content ≡ size = length-front n size bytes plain.padded in
    let fits : size + room ≤ n = plain.fits in
    let longer : length (content ++ new) ≡ length content + length new = length-append content new in
    holds_padded n (size + length new) (put_at bytes size new) (content ++ new) (omega arith) (omega arith)
    (ap (λ (xs : List ℕ). put_at xs size new) plain.padded.rest ∙ ap (λ (at : ℕ). put_at (padded n content) at new) (sym long)
    ∙ put_behind n content new (omega arith))

-- a write below the size
pub plain_put : (n size room at : ℕ) (kind : Kind) (bytes new : List ℕ) → IsPlain n size room kind bytes → at + length new ≤ length (take size bytes) →
    IsPlain n size room kind (put_at bytes at new)
plain_put n size room at kind bytes new plain inside = record {
  padded = (put_holds n size room at kind bytes new plain inside).padded;
  fits = plain.fits;
  pages = plain.pages;
}

pub content_put : (n size room at : ℕ) (kind : Kind) (bytes new : List ℕ) → IsPlain n size room kind bytes → at + length new ≤ length (take size bytes) →
    take size (put_at bytes at new) ≡ put_at (take size bytes) at new
content_put n size room at kind bytes new plain inside = (put_holds n size room at kind bytes new plain inside).content

-- a write behind the size, and what is left of the room
pub plain_append : (n size room left : ℕ) (kind : Kind) (bytes new : List ℕ) → IsPlain n size room kind bytes → length new ≤ room → left + length new ≤ room →
    IsPlain n (size + length new) left kind (put_at bytes size new)
plain_append n size room left kind bytes new plain inside less = record {
  padded = (append_holds n size room kind bytes new plain inside).padded;
  fits = omega (arith, plain.fits);
  pages = plain.pages;
}

pub content_append : (n size room : ℕ) (kind : Kind) (bytes new : List ℕ) → IsPlain n size room kind bytes → length new ≤ room →
    take (size + length new) (put_at bytes size new) ≡ take size bytes ++ new
content_append n size room kind bytes new plain inside = (append_holds n size room kind bytes new plain inside).content
