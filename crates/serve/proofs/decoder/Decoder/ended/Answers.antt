use Rattle.std.proofs.Common.{◌≡◌, ◌<◌, [], ◌∷◌, length, get_or, drop, true, sym, ap, subst, ◌∙◌, arith}
use Rattle.std.specs.Prelude.{if◌then◌else◌}
use Rattle.std.proofs.lemmas.Bool.Decides.{nat_tests}
use Rattle.run_frames.specs.Frames.{is_client, Long, Asked}
use Rattle.serve.specs.Gathers.{KeepsPart, client_in, command_in}
use Rattle.serve.proofs.Opening.{refused_broken, refused_open, decodes, ends_empty, ends_strange, ends_client}
use Rattle.serve.proofs.decoder.Decoder.ended.Goals as goal

pub returns-then-self-clause-frames : goal.returns-then-self-clause-frames
returns-then-self-clause-frames c = λ part some h.
    let i = c.self.inside in
    ap (λ f. f ∷ []) (refused_broken part i.bytes.items i.long i.escaped i.broken (subst (KeepsPart part) (sym c.self.view_is) h) c.if-self.true)

pub returns-then-self-2-clause-frames : goal.returns-then-self-2-clause-frames
returns-then-self-2-clause-frames c = λ part some h.
    let i = c.self.inside in
    ap (λ f. f ∷ []) (refused_open part i.bytes.items i.long i.escaped i.broken (subst (KeepsPart part) (sym c.self.view_is) h) c.if-self-2.true)

pub returns-then-is_empty-clause-frames : goal.returns-then-is_empty-clause-frames
returns-then-is_empty-clause-frames c = λ part some h.
    let i = c.self.inside in
    let d = decodes part i.bytes.items i.long i.escaped i.broken (subst (KeepsPart part) (sym c.self.view_is) h) c.if-self.false c.if-self-2.false in
    let none : length i.bytes.items ≡ 0 = let v = sym c.is_empty.ensures ∙ c.if-is_empty.true in grind (arith, nat_tests) in
    ap (λ f. f ∷ []) (ends_empty part i.bytes.items i.long d none)

pub returns-then-not-is_client-clause-frames : goal.returns-then-not-is_client-clause-frames
returns-then-not-is_client-clause-frames c = λ part some h.
    let i = c.self.inside in
    let d = decodes part i.bytes.items i.long i.escaped i.broken (subst (KeepsPart part) (sym c.self.view_is) h) c.if-self.false c.if-self-2.false in
    ap (λ f. f ∷ []) (ends_strange part i.bytes.items i.long d (ap (λ bytes. is_client (get_or bytes 0 0)) (sym c.deref.ensures.0) ∙ sym c.is_client.ensures ∙ c.if-not-is_client.true))

pub returns-then-self-3-clause-frames : goal.returns-then-self-3-clause-frames
returns-then-self-3-clause-frames c = λ part some h.
    let i = c.self.inside in
    let d = decodes part i.bytes.items i.long i.escaped i.broken (subst (KeepsPart part) (sym c.self.view_is) h) c.if-self.false c.if-self-2.false in
    let held : 0 < length i.bytes.items = let v = sym c.is_empty.ensures ∙ c.if-is_empty.false in grind (arith, nat_tests) in
    let is : is_client (get_or i.bytes.items 0 0) ≡ true = ap (λ bytes. is_client (get_or bytes 0 0)) (sym c.deref.ensures.0) ∙ sym c.is_client.ensures ∙ c.if-not-is_client.false in
    ap (λ f. f ∷ [])
    (ends_client part i.bytes.items i.long d held is
    ∙ ap (λ t. if t then Long (get_or i.bytes.items 0 0) else Asked (get_or i.bytes.items 0 0) (drop 1 i.bytes.items)) c.if-self-3.true
    ∙ ap (λ bytes. Long (get_or bytes 0 0)) (sym c.deref.ensures.0))

pub returns-clause-frames : goal.returns-clause-frames
returns-clause-frames c = λ part some h.
    let i = c.self.inside in
    let d = decodes part i.bytes.items i.long i.escaped i.broken (subst (KeepsPart part) (sym c.self.view_is) h) c.if-self.false c.if-self-2.false in
    let held : 0 < length i.bytes.items = let v = sym c.is_empty.ensures ∙ c.if-is_empty.false in grind (arith, nat_tests) in
    let is : is_client (get_or i.bytes.items 0 0) ≡ true = ap (λ bytes. is_client (get_or bytes 0 0)) (sym c.deref.ensures.0) ∙ sym c.is_client.ensures ∙ c.if-not-is_client.false in
    ap (λ f. f ∷ [])
    (ends_client part i.bytes.items i.long d held is
    ∙ ap (λ t. if t then Long (get_or i.bytes.items 0 0) else Asked (get_or i.bytes.items 0 0) (drop 1 i.bytes.items)) c.if-self-3.false
    ∙ ap (λ d. Asked (client_in d) (command_in d)) c.self.view_is)
