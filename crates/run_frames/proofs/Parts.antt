-- What is served, cut at each END.
use Rattle.std.proofs.Common.{◌≡◌, refl, ap, ◌∙◌, ℕ, ◌≤◌, ◌<◌, Bool, true, false, List, [], ◌∷◌, ◌++◌, length, cond, Option, Some, None, append_assoc, arith}
use Rattle.std.specs.Prelude.{Ok, Err, Result, ◌&&◌, ◌==◌, nat_lt, nat_le, option_map}
use Rattle.std.specs.List.{AllByRecursion, onto_first, slice_split}
use Rattle.std.proofs.lemmas.Bool.Decides.{nat_tests}
use Rattle.db_model.specs.declared.commands.Command.{Command}
use Rattle.db_model.specs.declared.refusals.Refusal.{Refusal}
use Rattle.db_model.specs.Database.{Database, bare}
use Rattle.db_model.specs.ReplyText.{text}
use Rattle.db_model.specs.Sound.{IsSoundDatabase}
use Rattle.db_model.specs.Step.{Reply, Refused}
use Rattle.run_model.specs.Talk.{answered}
use Rattle.run_frames.specs.Frames.{Frame, Broken, Long, Asked, decoded, escaped, frame_from, frame_of, frames, frames_in, is_client, is_end}
use Rattle.run_frames.specs.Served.{IsOfClient, after_frame, client_of, framed, heard, parts, served}
use Rattle.run_frames.proofs.Ascii.{AreAscii, are_ascii, ascii-cons, ascii_reply}
use Rattle.run_frames.proofs.Textual.{IsTextualDatabase, IsTextualReply, StaysTextual, sound_textual, stays_textual}

-- ---- bytes below 128

first : (b : ℕ) (bytes : List ℕ) → AreAscii (b ∷ bytes) → b < 128
first b bytes h = by_test (nat_lt b 128) refl h
  where
    by_test : (t : Bool) → nat_lt b 128 ≡ t → (t && are_ascii bytes) ≡ true → b < 128
    by_test true e i = grind (arith, nat_tests)
    by_test false e i = cc

others : (b : ℕ) (bytes : List ℕ) → AreAscii (b ∷ bytes) → AreAscii bytes
others b bytes h = by_test (nat_lt b 128) h
  where
    by_test : (t : Bool) → (t && are_ascii bytes) ≡ true → AreAscii bytes
    by_test true i = i
    by_test false i = cc

cut_behind : (bytes rest : List ℕ) → AreAscii bytes → slice_split is_end (bytes ++ 192 ∷ rest) ≡ bytes ∷ slice_split is_end rest
cut_behind [] rest h = refl
cut_behind (b ∷ bytes) rest h =
    let low : b < 128 = first b bytes h in
    let other : (b == 192) ≡ false = grind (arith, nat_tests) in
    ap (λ t. cond t ([] ∷ slice_split is_end (bytes ++ 192 ∷ rest)) (onto_first b (slice_split is_end (bytes ++ 192 ∷ rest)))) other
    ∙ ap (onto_first b) (cut_behind bytes rest (others b bytes h))

decoded_plain : (bytes : List ℕ) → AreAscii bytes → decoded bytes ≡ Some bytes
decoded_plain [] h = refl
decoded_plain (b ∷ []) h =
    let low : b < 128 = first b [] h in
    let other : (b == 219) ≡ false = grind (arith, nat_tests) in
    ap (λ t. cond t None (Some (b ∷ []))) other
decoded_plain (b ∷ c ∷ bytes) h =
    let low : b < 128 = first b (c ∷ bytes) h in
    let other : (b == 219) ≡ false = grind (arith, nat_tests) in
    ap (λ t. cond t (escaped c (decoded bytes)) (option_map (λ rest. b ∷ rest) (decoded (c ∷ bytes)))) other
    ∙ ap (option_map (λ rest. b ∷ rest)) (decoded_plain (c ∷ bytes) (others b (c ∷ bytes) h))

-- ---- one reply

plain_reply : (frame : Frame) (reply : Reply) → IsOfClient frame → IsTextualReply reply → AreAscii (client_of frame ∷ text reply)
plain_reply frame reply few h = ascii-cons (client_of frame) (text reply) (omega (arith, few)) (ascii_reply reply h)

one_part : (frame : Frame) (reply : Reply) (rest : List ℕ) → IsOfClient frame → IsTextualReply reply
    → slice_split is_end (framed frame (text reply) ++ rest) ≡ (client_of frame ∷ text reply) ∷ slice_split is_end rest
one_part frame reply rest few h =
    ap (slice_split is_end) (append_assoc (client_of frame ∷ text reply) (192 ∷ []) rest)
    ∙ cut_behind (client_of frame ∷ text reply) rest (plain_reply frame reply few h)

pub refused_part : (frame : Frame) (refusal : Refusal) (rest : List ℕ) → IsOfClient frame
    → slice_split is_end (framed frame (text (Refused refusal)) ++ rest) ≡ (client_of frame ∷ text (Refused refusal)) ∷ slice_split is_end rest
refused_part frame refusal rest few = one_part frame (Refused refusal) rest few tt

-- ---- all replies

module _ (read : List ℕ → Result Command Refusal) where
  frame_textual : (db : Database) (frame : Frame) → IsTextualDatabase db → StaysTextual (after_frame read db frame)
  frame_textual db frame h = by_heard (heard read frame)
    where
      by_heard : (r : Result Command Refusal) → StaysTextual (answered db r)
      by_heard (Ok c) = stays_textual db c h
      by_heard (Err refusal) = (h, tt)

  cut_parts : (db : Database) (all : List Frame) (rest : List ℕ) → IsTextualDatabase db → AllByRecursion IsOfClient all
      → slice_split is_end (served read db all ++ rest) ≡ parts read db all ++ slice_split is_end rest
  cut_parts db [] rest h few = refl
  cut_parts db (frame ∷ all) rest h few =
      let s = frame_textual db frame h in
      let next : Database = (after_frame read db frame).0 in
      ap (slice_split is_end) (append_assoc (framed frame (text ((after_frame read db frame).1))) (served read next all) rest)
      ∙ one_part frame ((after_frame read db frame).1) (served read next all ++ rest) few.0 s.1
      ∙ ap (λ ps. (client_of frame ∷ text ((after_frame read db frame).1)) ∷ ps) (cut_parts next all rest s.0 few.1)

  plain_parts : (db : Database) (all : List Frame) → IsTextualDatabase db → AllByRecursion IsOfClient all → AllByRecursion (λ part. decoded part ≡ Some part) (parts read db all)
  plain_parts db [] h few = tt
  plain_parts db (frame ∷ all) h few =
      let s = frame_textual db frame h in
      (decoded_plain (client_of frame ∷ text ((after_frame read db frame).1)) (plain_reply frame ((after_frame read db frame).1) few.0 s.1), plain_parts ((after_frame read db frame).0) all s.0 few.1)

  pub served_parts : (db : Database) (all : List Frame) (rest : List ℕ) → IsSoundDatabase db → AllByRecursion IsOfClient all
      → slice_split is_end (served read (bare db) all ++ rest) ≡ parts read (bare db) all ++ slice_split is_end rest
  served_parts db all rest s few = cut_parts (bare db) all rest (sound_textual db s) few

  pub parts_plain : (db : Database) (all : List Frame) → IsSoundDatabase db → AllByRecursion IsOfClient all → AllByRecursion (λ part. decoded part ≡ Some part) (parts read (bare db) all)
  parts_plain db all s few = plain_parts (bare db) all (sound_textual db s) few

-- ---- the clients of frames

client_from : (bytes : Option (List ℕ)) → IsOfClient (frame_from bytes)
client_from None = omega arith
client_from (Some []) = omega arith
client_from (Some (client ∷ command)) = by_test (is_client client) (nat_lt 512 (length command)) refl
  where
    few : (s t : Bool) → nat_le client 4 ≡ t → (s && t) ≡ true → client ≤ 4
    few true true e h = grind (arith, nat_tests)
    few true false e h = cc
    few false t e h = cc

    by_test : (s t : Bool) → is_client client ≡ s → IsOfClient (cond s (cond t (Long client) (Asked client command)) Broken)
    by_test true true e = few (nat_le 1 client) (nat_le client 4) refl e
    by_test true false e = few (nat_le 1 client) (nat_le client 4) refl e
    by_test false t e = omega arith

all-append : (xs ys : List Frame) → AllByRecursion IsOfClient xs → AllByRecursion IsOfClient ys → AllByRecursion IsOfClient (xs ++ ys)
all-append [] ys h i = i
all-append (x ∷ xs) ys h i = (h.0, all-append xs ys h.1 i)

client_of_part : (part : List ℕ) → AllByRecursion IsOfClient (frame_of part)
client_of_part [] = tt
client_of_part (b ∷ bytes) = (client_from (decoded (b ∷ bytes)), tt)

clients_in : (ps : List (List ℕ)) → AllByRecursion IsOfClient (frames_in ps)
clients_in [] = tt
clients_in ([] ∷ []) = tt
clients_in ((b ∷ bytes) ∷ []) = (omega arith, tt)
clients_in (part ∷ next ∷ ps) = all-append (frame_of part) (frames_in (next ∷ ps)) (client_of_part part) (clients_in (next ∷ ps))

pub clients_of_frames : (bytes : List ℕ) → AllByRecursion IsOfClient (frames bytes)
clients_of_frames bytes = clients_in (slice_split is_end bytes)
