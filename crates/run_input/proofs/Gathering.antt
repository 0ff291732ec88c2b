-- What is taken through a sink that gathers, once what waited has gone out.
use Rattle.std.proofs.Common.{◌≡◌, ℕ, ◌≤◌, List, [], ◌∷◌, ◌++◌, length, Option, ap, sym, subst, ◌∙◌, arith, inl, inr}
use Rattle.std.specs.Prelude.{⊤, IfErr, OnOk, Err, Result}
use Rattle.std.specs.Io.KnownBytes.{append_known}
use Rattle.buffered_sink.proofs.Fronts.{all_sent, front_sent}
use Rattle.buffered_sink.specs.Handing.{Hands, WroteFront, front_of}
use Rattle.run_input.specs.declared.ending.Ending.{Ending}
use Rattle.run_input.specs.declared.ending.Ending.TheVariants.{Space, Flash, Sink}
use Rattle.run_input.specs.Sent.{Sent}
use Rattle.run_input.specs.Through.{Out, out_of}
use Rattle.reply_text.proofs.Pieces.{append_known-nil}

none_behind : (xs ys : List ℕ) → [] ≡ xs ++ ys → ys ≡ []
none_behind [] ys e = sym e
none_behind (x ∷ xs) ys e = let many = ap length e in absurd (omega (arith, many))

-- the same is answered where nothing waits
same_answer : (answered : Result ⊤ Ending) (faults faults_now : ℕ) (left : List ℕ) (halt : Ending) → left ≡ [] → Sent answered faults faults_now left (Err halt) → answered ≡ Err halt
same_answer answered faults faults_now left Space none sent = sent.0
same_answer answered faults faults_now left Flash none sent = sent
same_answer answered faults faults_now left Sink none (inl same) = same
same_answer answered faults faults_now left Sink none (inr fails) = let some = fails.some in let few = ap length none in absurd (omega (arith, some, few))

-- T and H: it was taken, and it went no further, by what the sink held before and holds then
module _ (T : Out → Out → Type 0) (H : Out → Out → Ending → Type 0) (k0 k1 k2 : Option (List ℕ)) (f0 f1 f2 : ℕ) (w0 w1 w2 : List ℕ) (answered : Result ⊤ Ending)
    (none : w0 ≡ []) (hands : Hands k1 k2 w1 w2) (faultless : w2 ≡ [] → f2 ≡ f1)
    (takes : OnOk answered (T (out_of (append_known k0 w0) f0) (out_of (append_known k1 w1) f1)))
    (halts : IfErr answered (λ halt. H (out_of (append_known k0 w0) f0) (out_of (append_known k1 w1) f1) halt)) where
  before : out_of (append_known k0 w0) f0 ≡ out_of k0 f0
  before = ap (λ k. out_of k f0) (ap (append_known k0) none ∙ append_known-nil k0)

  behind : w2 ≡ [] → out_of (append_known k1 w1) f1 ≡ out_of k2 f2
  behind sent = ap (λ k. out_of k f1) (sym (all_sent k1 k2 w1 w2 sent hands)) ∙ ap (out_of k2) (sym (faultless sent))

  -- nothing was written
  pub silent_halts : (halt : Ending) → w1 ≡ [] → Sent answered f1 f2 w2 (Err halt) → H (out_of k0 f0) (out_of k2 f2) halt
  silent_halts halt silent sent =
      let empty : w2 ≡ [] = none_behind hands.went w2 (sym silent ∙ hands.split) in
      subst (λ (o : Out). H o (out_of k2 f2) halt) before (subst (λ (o : Out). H (out_of (append_known k0 w0) f0) o halt) (behind empty) (rw (same_answer answered f1 f2 w2 halt empty sent) at halts))

  -- a reply was
  pub sent_halts : ((a b now : Out) (answer : Result ⊤ Ending) (halt : Ending) → OnOk answer (T a b) → IfErr answer (λ h. H a b h)
      → (went : WroteFront a.held now.held b.held) → b.faults ≤ now.faults → Sent answer b.faults now.faults went.left (Err halt) → H a now halt)
      → front_of k0 k1 ≡ k0 → f1 ≤ f2 → (halt : Ending) → Sent answered f1 f2 w2 (Err halt) → H (out_of k0 f0) (out_of k2 f2) halt
  sent_halts law grew later halt sent =
      law (out_of k0 f0) (out_of (append_known k1 w1) f1) (out_of k2 f2) answered halt
      (subst (λ (o : Out). OnOk answered (T o (out_of (append_known k1 w1) f1))) before takes)
      (subst (λ (o : Out). IfErr answered (λ h. H o (out_of (append_known k1 w1) f1) h)) before halts)
      (front_sent k0 k1 k2 w1 w2 grew hands) later sent
