-- A client fetches its own answer, whatever stands between.
use Rattle.std.proofs.Common.{◌≡◌, ◌≢◌, refl, sym, ap, subst, ◌∙◌, ℕ, ◌-◌, ◌<◌, ◌≤◌, Bool, true, false, List, [], ◌∷◌, length, take, drop, arith, cond, Option, Some, None, zero, suc, pos}
use Rattle.std.specs.Prelude.{ℤ, Ok, Err, Result, nat_le, ◌&&◌, ◌||◌, ◌==◌, ⊤, IsTrue, is_some, not, slice_get}
use Rattle.std.specs.Ordering.{int_eq}
use Rattle.std.specs.List.{list_any}
use Rattle.std.proofs.lemmas.Bool.Decides.{nat_tests, Decides-eqb}
use Rattle.std.proofs.lemmas.List.{get_or-set_same}
use Rattle.db_model.specs.declared.commands.Command.{Command}
use Rattle.db_model.specs.declared.commands.Command.TheVariants as command
use Rattle.db_model.specs.declared.commands.Query.{Query}
use Rattle.db_model.specs.declared.refusals.Refusal.{Refusal}
use Rattle.db_model.specs.declared.refusals.Refusal.TheVariants as no
use Rattle.db_model.specs.declared.values.Value.{Value}
use Rattle.db_model.specs.Database.{Database, Cursor, cursor_at, cursor_place, with_cursor}
use Rattle.db_model.specs.Refusing.{◌>>=◌, ◌>>◌, found_or, refuse_if}
use Rattle.db_model.specs.Step.{Reply, Fine, Rows, Spares, answer_of, relations_read, outcome, replied, step, open_cursor_of}
use Rattle.db_model.proofs.Steps.{cursor_kept}
use Rattle.run_model.specs.Talk.{answered}
use Rattle.run_frames.specs.Fetching.{FetchesItsAnswer, OpensQuery, asks, replies_fetched, is_close, is_fetch, is_read, keeps_open}
use Rattle.run_frames.specs.Frames.{Frame, Broken, Long, Asked, Unfinished}
use Rattle.run_frames.specs.Served.{after_frame, numbered_cursor, own_cursor}
use Rattle.padded.proofs.Facts.{some_inside, both_parts, neither_left, untrue, neither_right}

-- ---- the places of cursors

place_is : (n : ℕ) → 1 ≤ n → n ≤ 4 → cursor_place (pos n) ≡ Some (n - 1)
place_is n low high =
    let l : nat_le 1 n ≡ true = grind (arith, nat_tests) in
    let h : nat_le n 4 ≡ true = grind (arith, nat_tests) in
    rw (l, h) refl

-- another client has another place
places_apart : (m n : ℕ) → 1 ≤ n → m ≢ n → cursor_place (pos m) ≢ Some (n - 1)
places_apart m n low differ e = by_tests (nat_le 1 m) (nat_le m 4) refl e
  where
    by_tests : (s t : Bool) → nat_le 1 m ≡ s → cond (s && t) (Some (m - 1)) None ≡ Some (n - 1) → ⊥
    by_tests true true l h =
        let same : m - 1 ≡ n - 1 = cc in
        let some : 1 ≤ m = grind (arith, nat_tests) in
        differ (omega (arith, same))
    by_tests true false l h = cc
    by_tests false t l h = cc

true_false : true ≡ false → ⊥
true_false e = cc

-- ---- heads of rows

-- the replies are the rows in order, and then none
abbrev AreHeads : List (List Value) → List Reply → Type 0
AreHeads rows [] = ⊤
AreHeads rows (reply ∷ replies) = (reply ≡ Rows (take 1 rows)) × AreHeads (drop 1 rows) replies

nth : (rows : List (List Value)) (replies : List Reply) → AreHeads rows replies → (n : ℕ) → n < length replies → slice_get replies n ≡ Some (Rows (take 1 (drop n rows)))
nth rows [] h n within = absurd (omega arith)
nth rows (reply ∷ replies) h zero within = ap (λ r. Some r) h.0
nth rows (reply ∷ replies) h (suc n) within = nth (drop 1 rows) replies h.1 n (omega arith) ∙ ap (λ rs. Some (Rows (take 1 rs))) (drop-more rows n)
  where
    drop-more : (xs : List (List Value)) (k : ℕ) → drop k (drop 1 xs) ≡ drop (suc k) xs
    drop-more [] zero = refl
    drop-more [] (suc k) = refl
    drop-more (x ∷ xs) k = refl

-- ---- OPEN

-- the cursor of a client that has opened it
abbrev Stands : ℕ → List (List ℕ) → List (List Value) → Database → Type 0
Stands client reads rows db = (1 ≤ client) × (client ≤ 4) × (cursor_at db (client - 1) ≡ Some (record { reads = reads; rows = rows }))

-- the place of a client
place_or : (client : ℕ) {P : Type 0} → (cursor_place (pos client) ≡ None → P) → (1 ≤ client → client ≤ 4 → P) → P
place_or client {P} none some = by_tests (nat_le 1 client) (nat_le client 4) refl refl
  where
    by_tests : (s t : Bool) → nat_le 1 client ≡ s → nat_le client 4 ≡ t → P
    by_tests true true l h = some (grind (arith, nat_tests)) (grind (arith, nat_tests))
    by_tests true false l h = none (rw (l, h) refl)
    by_tests false t l h = none (rw l refl)

opens : (client : ℕ) (db : Database) (query : Query) (rows : List (List Value)) → length db.cursors ≡ 4 → (step db (command.OpenCursor (pos client) query)).1 ≡ Fine → answer_of db query ≡ Ok rows
    → Stands client (relations_read query) rows ((step db (command.OpenCursor (pos client) query)).0)
opens client db query rows four fine answers =
    place_or client
    (λ none. let wrong = sym (ap (λ place. (replied db (opening place)).1) none) ∙ fine in cc)
    (λ low high. (low, high, by_test low high (is_some (cursor_at db (client - 1))) (body low high) (sym (ap (λ d. d.1) (body low high)) ∙ fine)))
  where
    cursor : Cursor
    cursor = record { reads = relations_read query; rows = rows }

    opening : Option ℕ → Result (Database × Reply) Refusal
    opening place = ◌>>=◌ (found_or place no.NoCursor) (λ place. ◌>>◌ (refuse_if (is_some (cursor_at db place)) no.CursorOpen) (◌>>=◌ (answer_of db query) (λ rows. Ok (with_cursor db place (Some (record { reads = relations_read query; rows = rows })), Fine))))

    body : 1 ≤ client → client ≤ 4 → step db (command.OpenCursor (pos client) query) ≡ replied db (◌>>◌ (refuse_if (is_some (cursor_at db (client - 1))) no.CursorOpen) (Ok (with_cursor db (client - 1) (Some cursor), Fine)))
    body low high =
        ap (λ place. replied db (opening place)) (place_is client low high)
        ∙ ap (λ r. replied db (◌>>◌ (refuse_if (is_some (cursor_at db (client - 1))) no.CursorOpen) (◌>>=◌ r (λ rows. Ok (with_cursor db (client - 1) (Some (record { reads = relations_read query; rows = rows })), Fine))))) answers

    by_test : 1 ≤ client → client ≤ 4 → (t : Bool) → step db (command.OpenCursor (pos client) query) ≡ replied db (◌>>◌ (refuse_if t no.CursorOpen) (Ok (with_cursor db (client - 1) (Some cursor), Fine)))
        → (replied db (◌>>◌ (refuse_if t no.CursorOpen) (Ok (with_cursor db (client - 1) (Some cursor), Fine)))).1 ≡ Fine
        → cursor_at ((step db (command.OpenCursor (pos client) query)).0) (client - 1) ≡ Some cursor
    by_test low high true e wrong = cc
    by_test low high false e done = ap (λ d. cursor_at d.0 (client - 1)) e ∙ get_or-set_same db.cursors (client - 1) (Some cursor) None (omega (arith, four, low, high))

one_kept : (place : ℕ) (cursor : Cursor) (db : Database) (c : Command) → Spares place c → cursor_at db place ≡ Some cursor → cursor_at ((step db c).0) place ≡ Some cursor
one_kept place cursor db c spares h = cursor_kept place cursor db (c ∷ []) (spares, tt) h

module _ (read : List ℕ → Result Command Refusal) where
  -- ---- other frames

  -- a command that speaks of the sender's cursor
  kept_numbered : (place : ℕ) (cursor : Cursor) (db : Database) (sender : ℕ) (number : ℤ) (made : ℤ → Command) → (int_eq number (pos 1) ≡ true → Spares place (made (pos sender)))
      → cursor_at db place ≡ Some cursor → cursor_at ((answered db (numbered_cursor sender number made)).0) place ≡ Some cursor
  kept_numbered place cursor db sender number made spares h = by_test (int_eq number (pos 1)) refl
    where
      by_test : (t : Bool) → int_eq number (pos 1) ≡ t → cursor_at ((answered db (cond t (Ok (made (pos sender))) (Err no.NoCursor))).0) place ≡ Some cursor
      by_test true e = one_kept place cursor db (made (pos sender)) (spares e) h
      by_test false e = h

  kept_command : (client : ℕ) (cursor : Cursor) (db : Database) (sender : ℕ) (c : Command) → 1 ≤ client → (is_fetch c ≡ true → sender ≢ client) → (is_close c ≡ true → sender ≢ client)
      → cursor_at db (client - 1) ≡ Some cursor → cursor_at ((answered db (own_cursor sender c)).0) (client - 1) ≡ Some cursor
  kept_command client cursor db sender (command.OpenCursor number query) low no_fetch no_close h =
      kept_numbered (client - 1) cursor db sender number (λ n. command.OpenCursor n query) (λ e. tt) h
  kept_command client cursor db sender (command.FetchCursor number) low no_fetch no_close h =
      kept_numbered (client - 1) cursor db sender number command.FetchCursor (λ e. places_apart sender client low (no_fetch e)) h
  kept_command client cursor db sender (command.CloseCursor number) low no_fetch no_close h =
      kept_numbered (client - 1) cursor db sender number command.CloseCursor (λ e. places_apart sender client low (no_close e)) h
  kept_command client cursor db sender c low no_fetch no_close h = one_kept (client - 1) cursor db c tt h

  -- a frame that is no FETCH 1 and no CLOSE 1 of the client leaves its cursor
  kept_frame : (client : ℕ) (cursor : Cursor) (db : Database) (frame : Frame) → 1 ≤ client → asks read is_fetch client frame ≡ false → asks read is_close client frame ≡ false
      → cursor_at db (client - 1) ≡ Some cursor → cursor_at ((after_frame read db frame).0) (client - 1) ≡ Some cursor
  kept_frame client cursor db Broken low no_fetch no_close h = h
  kept_frame client cursor db (Long sender) low no_fetch no_close h = h
  kept_frame client cursor db Unfinished low no_fetch no_close h = h
  kept_frame client cursor db (Asked sender bytes) low no_fetch no_close h = by_reading (read bytes) no_fetch no_close
    where
      not_own : (test : Command → Bool) (c : Command) → (sender == client && test c) ≡ false → test c ≡ true → sender ≢ client
      not_own test c e f same = true_false (sym (ap (λ t. t && true) ((Decides-eqb sender client).1 same)) ∙ sym (ap (λ t. (sender == client) && t) f) ∙ e)

      by_reading : (r : Result Command Refusal) → (sender == client && is_read r is_fetch) ≡ false → (sender == client && is_read r is_close) ≡ false
          → cursor_at ((answered db (◌>>=◌ r (own_cursor sender))).0) (client - 1) ≡ Some cursor
      by_reading (Err refusal) e f = h
      by_reading (Ok c) e f = kept_command client cursor db sender c low (not_own is_fetch c e) (not_own is_close c f) h

  -- ---- FETCH 1

  fetched_own : (client : ℕ) (cursor : Cursor) (db : Database) → 1 ≤ client → client ≤ 4 → cursor_at db (client - 1) ≡ Some cursor
      → ((step db (command.FetchCursor (pos client))).1 ≡ Rows (take 1 cursor.rows)) × (cursor_at ((step db (command.FetchCursor (pos client))).0) (client - 1) ≡ Some (record cursor { rows = drop 1 cursor.rows }))
  fetched_own client cursor db low high h =
      let new : Cursor = record cursor { rows = drop 1 cursor.rows } in
      let found : open_cursor_of db (pos client) ≡ Ok (client - 1, cursor) =
      ap (λ place. ◌>>=◌ (found_or place no.NoCursor) (λ place. ◌>>=◌ (found_or (cursor_at db place) no.NoCursor) (λ c. Ok (place, c)))) (place_is client low high)
      ∙ ap (λ c. ◌>>=◌ (found_or c no.NoCursor) (λ c. Ok (client - 1, c))) h in
      let done : outcome db (command.FetchCursor (pos client)) ≡ Ok (with_cursor db (client - 1) (Some new), Rows (take 1 cursor.rows)) =
      ap (λ r. ◌>>=◌ r (λ c. Ok (with_cursor db c.0 (Some (record c.1 { rows = drop 1 c.1.rows })), Rows (take 1 c.1.rows)))) found in
      (ap (λ o. (replied db o).1) done, ap (λ o. cursor_at ((replied db o).0) (client - 1)) done ∙ get_or-set_same db.cursors (client - 1) (Some new) None (some_inside db.cursors (client - 1) cursor h))

  -- a frame that is a FETCH 1 of the client
  fetched_frame : (client : ℕ) (cursor : Cursor) (db : Database) (frame : Frame) → 1 ≤ client → client ≤ 4 → asks read is_fetch client frame ≡ true → cursor_at db (client - 1) ≡ Some cursor
      → ((after_frame read db frame).1 ≡ Rows (take 1 cursor.rows)) × (cursor_at ((after_frame read db frame).0) (client - 1) ≡ Some (record cursor { rows = drop 1 cursor.rows }))
  fetched_frame client cursor db Broken low high is h = cc
  fetched_frame client cursor db (Long sender) low high is h = cc
  fetched_frame client cursor db Unfinished low high is h = cc
  fetched_frame client cursor db (Asked sender bytes) low high is h = by_reading (read bytes) is
    where
      IsFetched : Database × Reply → Type 0
      IsFetched d = (d.1 ≡ Rows (take 1 cursor.rows)) × (cursor_at d.0 (client - 1) ≡ Some (record cursor { rows = drop 1 cursor.rows }))

      by_command : (c : Command) → sender ≡ client → is_fetch c ≡ true → IsFetched (answered db (own_cursor sender c))
      by_command (command.FetchCursor number) same is =
          subst IsFetched
          (sym (ap (λ t. answered db (cond t (Ok (command.FetchCursor (pos sender))) (Err no.NoCursor))) is ∙ ap (λ n. step db (command.FetchCursor (pos n))) same))
          (fetched_own client cursor db low high h)
      by_command _ same is = absurd (true_false (sym is))

      by_reading : (r : Result Command Refusal) → (sender == client && is_read r is_fetch) ≡ true → IsFetched (answered db (◌>>=◌ r (own_cursor sender)))
      by_reading (Err refusal) e = absurd (true_false (sym (both_parts (sender == client) false e).1))
      by_reading (Ok c) e = let b = both_parts (sender == client) (is_fetch c) e in by_command c ((Decides-eqb sender client).0 b.0) b.1

  -- ---- all frames

  heads : (client : ℕ) → 1 ≤ client → client ≤ 4 → (cursor : Cursor) (db : Database) (frames : List Frame) → IsTrue (keeps_open read client frames) → cursor_at db (client - 1) ≡ Some cursor
      → AreHeads cursor.rows (replies_fetched read client db frames)
  heads client low high cursor db [] stays h = tt
  heads client low high cursor db (frame ∷ frames) stays h =
      let apart = untrue (asks read is_close client frame || list_any (asks read is_close client) frames) stays in
      let no_close = neither_left (asks read is_close client frame) (list_any (asks read is_close client) frames) apart in
      let rest : IsTrue (keeps_open read client frames) = ap not (neither_right (asks read is_close client frame) (list_any (asks read is_close client) frames) apart) in
      let next : Database = (after_frame read db frame).0 in
      by_test (asks read is_fetch client frame) refl
      (λ e. let f = fetched_frame client cursor db frame low high e h in (f.0, heads client low high (record cursor { rows = drop 1 cursor.rows }) next frames rest f.1))
      (λ e. heads client low high cursor next frames rest (kept_frame client cursor db frame low e no_close h))
    where
      by_test : (t : Bool) → asks read is_fetch client frame ≡ t
          → (asks read is_fetch client frame ≡ true → AreHeads cursor.rows ((after_frame read db frame).1 ∷ replies_fetched read client ((after_frame read db frame).0) frames))
          → (asks read is_fetch client frame ≡ false → AreHeads cursor.rows (replies_fetched read client ((after_frame read db frame).0) frames))
          → AreHeads cursor.rows (cond t ((after_frame read db frame).1 ∷ replies_fetched read client ((after_frame read db frame).0) frames) (replies_fetched read client ((after_frame read db frame).0) frames))
      by_test true e same other = same e
      by_test false e same other = other e

  pub fetches : (client : ℕ) (rows : List (List Value)) (db : Database) (frame : Frame) → length db.cursors ≡ 4 → OpensQuery read client rows db frame → FetchesItsAnswer read client rows db frame
  fetches client rows db frame four o frames stays n within =
      let is : after_frame read db frame ≡ step db (command.OpenCursor (pos client) o.query) = ap (answered db) o.asked in
      let s = opens client db o.query rows four (ap (λ d. d.1) (sym is) ∙ o.fine) o.answered in
      let cursor : Cursor = record { reads = relations_read o.query; rows = rows } in
      let stands : cursor_at ((after_frame read db frame).0) (client - 1) ≡ Some cursor = ap (λ d. cursor_at d.0 (client - 1)) is ∙ s.2 in
      nth rows (replies_fetched read client ((after_frame read db frame).0) frames) (heads client s.0 s.1 cursor ((after_frame read db frame).0) frames stays stands) n within
