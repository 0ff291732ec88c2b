-- Which entries stand in front of the one at which a run ended is told by what was written.
use Rattle.std.proofs.Common.{◌≡◌, refl, ℕ, ◌<◌, ◌≤◌, ◌⊎◌, inl, inr, false, List, [], ◌∷◌, ◌++◌, length, Option, Some, None, ap, sym, subst, ◌∙◌, arith, append_assoc}
use Rattle.std.specs.Prelude.{Result}
use Rattle.std.specs.Io.KnownBytes.{append_known, prepend_known}
use Rattle.std.proofs.lemmas.Bool.{cases_lt}
use Rattle.std.proofs.lemmas.List.{append-nil, append_cancel_left, append_cancel_right, length-append}
use Rattle.padded.proofs.Facts.{some_alike}
use Rattle.db_model.specs.declared.commands.Command.{Command}
use Rattle.db_model.specs.declared.refusals.Refusal.{Refusal}
use Rattle.db_model.specs.declared.refusals.Refusal.TheVariants as no
use Rattle.db_model.specs.Ahead.{is_refused}
use Rattle.db_model.specs.Database.{Database}
use Rattle.db_model.specs.ReplyText.{refusal_text, text}
use Rattle.db_model.specs.Step.{Reply, step}
use Rattle.run_laws.specs.Places.{front_at, unsaid_front}
use Rattle.run_laws.proofs.Opening.{apart}
use Rattle.run_model.specs.Line.{ComesInParts, Cut, Line}
use Rattle.run_model.specs.Runs.{AreEntries, InputFoundNoSpace, InputUnsaid, ReplyUnsaid, SpaceUnsaid, StopsAt, World, machine_from}
use Rattle.run_model.specs.Scripts.{script_talk}
use Rattle.run_model.specs.Talk.{Talk, answered, last_database, talk_output}
use Rattle.run_model.proofs.Beginnings.{begins, head_of, tail_of}
use Rattle.run_model.proofs.Talks.{output-append}
use Rattle.run_frames.specs.Served.{serve_talk}
use Rattle.image_model.specs.Images.{base}

-- two fronts of one list that have one length are the same
same_fronts : {X : Type 0} (xs ys us vs : List X) → xs ++ us ≡ ys ++ vs → length xs ≡ length ys → xs ≡ ys
unfolding head_of tail_of
same_fronts [] [] us vs same long = refl
same_fronts [] (b ∷ ys) us vs same long = absurd (omega (arith, long))
same_fronts (a ∷ xs) [] us vs same long = absurd (omega (arith, long))
same_fronts (a ∷ xs) (b ∷ ys) us vs same long =
    ap (λ h. h ∷ xs) (ap (head_of a) same) ∙ ap (λ t. b ∷ t) (same_fronts xs ys us vs (ap tail_of same) (omega (arith, long)))

-- ---- one list of entries

-- the reply to a command that is not refused is never sent as the text that there is no space
abbrev pub TellsApart : {E : Type 0} → Talk E → Type 0
TellsApart {E = E} talk = (entry : E) (reply : Reply) (n : ℕ) (us : List ℕ) → is_refused reply ≡ false
    → talk.sent entry (text reply) ++ us ≡ talk.sent entry (refusal_text (no.Space n)) → ⊥

module _ {E : Type 0} (talk : Talk E) (db : Database) where
  -- what was written has the replies to the entries in front, and less than the reply to the next
  record Halts (entries front : List E) (written : List ℕ) : Type 0 where
    entry : E
    rest : List E
    split : entries ≡ front ++ entry ∷ rest
    behind : List ℕ
    begun : written ≡ talk_output talk db front ++ behind
    short : (us : List ℕ) → talk_output talk db (front ++ entry ∷ []) ++ us ≡ written → ⊥

  no_less : (entries xs ys : List E) (written : List ℕ) → Halts entries xs written → Halts entries ys written → length xs < length ys → ⊥
  no_less entries xs ys written a b less =
      let r = begins xs ys a.entry b.entry a.rest b.rest (sym a.split ∙ b.split) less in
      let front : List E = xs ++ a.entry ∷ [] in
      let more : List ℕ = talk_output talk (last_database talk db front) r.mid in
      a.short (more ++ b.behind) (
      sym (append_assoc (talk_output talk db front) more b.behind)
      ∙ ap (λ bytes. bytes ++ b.behind) (sym (output-append talk db front r.mid) ∙ ap (λ es. talk_output talk db es) (sym r.is))
      ∙ sym b.begun)

  one_front : (entries xs ys : List E) (written : List ℕ) → Halts entries xs written → Halts entries ys written → xs ≡ ys
  one_front entries xs ys written a b =
      same_fronts xs ys (a.entry ∷ a.rest) (b.entry ∷ b.rest) (sym a.split ∙ b.split) (by_length (cases_lt (length xs) (length ys)) (cases_lt (length ys) (length xs)))
    where
      by_length : ((length xs < length ys) ⊎ (length ys ≤ length xs)) → ((length ys < length xs) ⊎ (length xs ≤ length ys)) → length xs ≡ length ys
      by_length (inl h) other = absurd (no_less entries xs ys written a b h)
      by_length (inr h) (inl k) = absurd (no_less entries ys xs written b a k)
      by_length (inr h) (inr k) = omega (arith, h, k)

  -- the same, of more entries
  among : (entries all more front : List E) (written : List ℕ) → all ≡ entries ++ more → Halts entries front written → Halts all front written
  among entries all more front written is h = record {
    entry = h.entry;
    rest = h.rest ++ more;
    split = is ∙ ap (λ es. es ++ more) h.split ∙ append_assoc front (h.entry ∷ h.rest) more;
    behind = h.behind;
    begun = h.begun;
    short = h.short;
  }

  module _ (entries : List E) (old new : World) where
    replied : (a : ReplyUnsaid (machine_from talk db) entries old new) → Halts entries a.front (talk_output talk db a.front ++ a.written.part)
    replied a = record {
      entry = a.entry;
      rest = a.rest;
      split = a.split;
      behind = a.written.part;
      begun = refl;
      short = λ us same.
          let whole : length (talk_output talk db (a.front ++ a.entry ∷ [])) ≡ length (talk_output talk db a.front ++ a.written.part ++ a.written.rest) = ap length a.written.split in
          let long = length-append (talk_output talk db a.front ++ a.written.part) a.written.rest in
          let longer = length-append (talk_output talk db (a.front ++ a.entry ∷ [])) us in
          let alike : length (talk_output talk db (a.front ++ a.entry ∷ []) ++ us) ≡ length (talk_output talk db a.front ++ a.written.part) = ap length same in
          let some = a.written.some in
          omega (arith, whole, long, longer, alike, some);
    }

    -- that there is no space, or a part of it, is not begun as a reply to a command that is not refused
    refused : TellsApart talk → (front : List E) (n : ℕ) (stops : StopsAt (machine_from talk db) entries front n new.image) (part rest : List ℕ)
        → talk.sent stops.entry (refusal_text (no.Space n)) ≡ part ++ rest → Halts entries front (talk_output talk db front ++ part)
    refused tells front n stops part rest all = record {
      entry = stops.entry;
      rest = stops.rest;
      split = stops.split;
      behind = part;
      begun = refl;
      short = λ us same.
          let said : List ℕ = talk_output talk db front in
          let reply = (step (last_database talk db front) stops.command).1 in
          let sent : List ℕ = talk.sent stops.entry (text reply) in
          let one : talk_output talk db (front ++ stops.entry ∷ []) ≡ said ++ sent =
          output-append talk db front (stops.entry ∷ [])
          ∙ ap (λ bytes. said ++ bytes) (ap (λ heard. talk.sent stops.entry (text ((answered (last_database talk db front) heard).1)) ++ []) stops.asks ∙ append-nil sent) in
          let begins_with : sent ++ us ≡ part = append_cancel_left said (sent ++ us) part (sym (append_assoc said sent us) ∙ ap (λ bytes. bytes ++ us) (sym one) ∙ same) in
          tells stops.entry reply n (us ++ rest) stops.accepted (sym (append_assoc sent us rest) ∙ ap (λ bytes. bytes ++ rest) begins_with ∙ sym all);
    }

    unsaid : TellsApart talk → (a : SpaceUnsaid (machine_from talk db) (talk_output talk db) entries old new) → Halts entries a.front (talk_output talk db a.front ++ a.written.part)
    unsaid tells a =
        let said : List ℕ = talk_output talk db a.front in
        refused tells a.front a.n a.stops a.written.part a.written.rest
        (append_cancel_left said _ (a.written.part ++ a.written.rest) (a.written.split ∙ append_assoc said a.written.part a.written.rest))

-- ---- the entries of an input

module _ {E Q : Type 0} (cut : Cut E Q) (line : Line E) (parts : ComesInParts cut line) (talk : Talk E) (tells : TellsApart talk) where
  -- the bytes that were written, and the halt among all entries of the bytes that came
  record Stop (old new : World) (bytes : List ℕ) (front : List E) : Type 0 where
    written : List ℕ
    held : new.held ≡ append_known old.held written
    halts : Halts talk (base old.image) (line.all bytes) front written

  all_of : (bytes : List ℕ) (entries : List E) (new : World) → AreEntries line talk bytes entries new → (more : List E) × (line.all bytes ≡ entries ++ more)
  all_of bytes entries new (inl whole) =
      let more : List E = cut.left (cut.begun cut.start bytes) in
      (more, parts.all_is bytes ∙ ap (λ front. front ++ more) (sym (whole ∙ parts.whole_is bytes)))
  all_of bytes entries new (inr all) = ([], sym all.0 ∙ sym (append-nil entries))

  among_all : (old new : World) (bytes : List ℕ) (entries front : List E) (written : List ℕ) → AreEntries line talk bytes entries new → new.held ≡ append_known old.held written
      → Halts talk (base old.image) entries front written → Stop old new bytes front
  among_all old new bytes entries front written are held halts =
      let more = all_of bytes entries new are in
      record { written = written; held = held; halts = among talk (base old.image) entries (line.all bytes) more.0 front written more.1 halts }

  found : (old new : World) (a : InputFoundNoSpace line talk old new) → Stop old new a.bytes a.found.front
  found old new a =
      let space : List ℕ = talk.sent a.found.stops.entry (refusal_text (no.Space a.found.n)) in
      among_all old new a.bytes a.entries a.found.front _ a.are a.found.written
      (refused talk (base old.image) a.entries old new tells a.found.front a.found.n a.found.stops space [] (sym (append-nil space)))

  left_unsaid : (old new : World) (bytes : List ℕ) (entries : List E) → AreEntries line talk bytes entries new
      → (s : ReplyUnsaid (machine_from talk (base old.image)) entries old new ⊎ SpaceUnsaid (machine_from talk (base old.image)) (talk_output talk (base old.image)) entries old new)
      → Stop old new bytes (front_at s)
  left_unsaid old new bytes entries are (inl s) = among_all old new bytes entries s.front _ are s.written.held (replied talk (base old.image) entries old new s)
  left_unsaid old new bytes entries are (inr s) = among_all old new bytes entries s.front _ are s.written.held (unsaid talk (base old.image) entries old new tells s)

  -- the bytes that came are those that are not left
  one_came : (left : Option (List ℕ)) (text xs ys : List ℕ) → Some text ≡ prepend_known xs left → Some text ≡ prepend_known ys left → xs ≡ ys
  one_came None text xs ys a b = absurd (let n : ⊥ = cc in n)
  one_came (Some left) text xs ys a b = append_cancel_right xs ys left (some_alike (sym a ∙ b))

  one_stop : (old new : World) (text bytes : List ℕ) → old.left ≡ Some text → old.held ≡ Some bytes → (came other : List ℕ) → old.left ≡ prepend_known came new.left → old.left ≡ prepend_known other new.left
      → (xs ys : List E) → Stop old new came xs → Stop old new other ys → xs ≡ ys
  one_stop old new text bytes told held came other left left_too xs ys a b =
      let here : (s : List ℕ) → new.held ≡ append_known old.held s → new.held ≡ Some (bytes ++ s) = λ s is. is ∙ ap (λ o. append_known o s) held in
      let same : b.written ≡ a.written = append_cancel_left bytes b.written a.written (some_alike (sym (here b.written b.held) ∙ here a.written a.held)) in
      one_front talk (base old.image) (line.all came) xs ys a.written a.halts
      (subst (λ (w : List ℕ). Halts talk (base old.image) (line.all came) ys w) same
      (subst (λ (t : List ℕ). Halts talk (base old.image) (line.all t) ys b.written) (sym (one_came new.left text came other (sym told ∙ left) (sym told ∙ left_too))) b.halts))

  pub one_place : (old new : World) (text bytes : List ℕ) → old.left ≡ Some text → old.held ≡ Some bytes
      → (a b : InputFoundNoSpace line talk old new) → a.found.front ≡ b.found.front
  one_place old new text bytes told held a b =
      one_stop old new text bytes told held a.bytes b.bytes a.came.left b.came.left a.found.front b.found.front (found old new a) (found old new b)

  pub one_place_unsaid : (old new : World) (text bytes : List ℕ) → old.left ≡ Some text → old.held ≡ Some bytes
      → (a b : InputUnsaid line talk old new) → unsaid_front a ≡ unsaid_front b
  one_place_unsaid old new text bytes told held a b =
      one_stop old new text bytes told held a.bytes b.bytes a.came.left b.came.left (unsaid_front a) (unsaid_front b)
      (left_unsaid old new a.bytes a.entries a.are a.stopped) (left_unsaid old new b.bytes b.entries b.are b.stopped)

-- ---- scripts, and clients on one line

pub script_tells : (read : List ℕ → Result Command Refusal) → TellsApart (script_talk read)
script_tells read entry reply n us accepted same = apart reply n us [] accepted (same ∙ sym (append-nil (refusal_text (no.Space n))))

pub served_tells : (read : List ℕ → Result Command Refusal) → TellsApart (serve_talk read)
unfolding tail_of
served_tells read frame reply n us accepted same =
    let behind : (text reply ++ 192 ∷ []) ++ us ≡ refusal_text (no.Space n) ++ 192 ∷ [] = ap tail_of same in
    apart reply n (192 ∷ us) (192 ∷ []) accepted (sym (append_assoc (text reply) (192 ∷ []) us) ∙ behind)
