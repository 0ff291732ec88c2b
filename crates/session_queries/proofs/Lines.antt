-- The rows of a query, written one after the other.
use Rattle.std.proofs.Common.{◌≡◌, ℕ, ℤ, ◌+◌, ◌≤◌, true, List, [], ◌∷◌, ◌++◌, length, Option, Some, None, Ok, Err, refl, ap, sym, ◌∙◌, subst, arith, append_assoc, length-append, append-nil}
use Rattle.std.specs.Prelude.{flat_map}
use Rattle.std.specs.Io.KnownBytes.{append_known}
use Rattle.std.proofs.lemmas.Grind.{flat_map-append}
use Rattle.afl_base.specs.Files.{State}
use Rattle.db_model.specs.declared.refusals.Refusal.{Refusal}
use Rattle.db_model.specs.declared.values.Value.{Value}
use Rattle.db_model.specs.ReplyText.{count_text, refusal_text, row_text, text}
use Rattle.db_model.specs.Row.{Row}
use Rattle.db_model.specs.Step.{Numbers, Reply, Refused, Rows}
use Rattle.db_model.proofs.ReplyTexts.{text_refused, text_rows}
use Rattle.index_set.specs.Tables.{Tables}
use Rattle.index_set.specs.Walks.{Fits, cost_ahead}
use Rattle.cursor.specs.declared.select.SelectCursor.{SelectCursor}
use Rattle.reply_text.proofs.Pieces.{held_more, less_behind, less_front}
use Rattle.reply_text.specs.WroteLess.{WroteLess}
use Rattle.session_model.specs.declared.step.Outcome.TheVariants as came
use Rattle.afl_base.specs.declared.fault.Fault.{Fault}
use Rattle.afl_base.specs.declared.fault.Fault.TheVariants.{Flash, Sink}
use Rattle.session_model.specs.Steps.{Replies, WritesReply}
use Rattle.session_queries.specs.Replies.{WroteAll, WroteNext, rows_left}

-- some of the rows have been written, and the rest is left
pub record Wrote (all left : List (List Value)) (before now : Option (List ℕ)) (count : ℕ) : Type 0 where
  pub done : List (List Value)
  pub whole : all ≡ done ++ left
  pub written : now ≡ append_known before (flat_map row_text done)
  pub counted : count ≡ length done

pub none_written : (h : Option (List ℕ)) → h ≡ append_known h []
none_written None = refl
none_written (Some bytes) = ap (λ (bs : List ℕ). Some bs) (sym (append-nil bytes))

pub wrote_none : (all : List (List Value)) (h : Option (List ℕ)) → Wrote all all h h 0
wrote_none all h = record { done = []; whole = refl; written = none_written h; counted = refl }

rows_text_more : (done : List (List Value)) (row : List Value) → flat_map row_text (done ++ row ∷ []) ≡ flat_map row_text done ++ row_text row
rows_text_more done row = flat_map-append row_text done (row ∷ []) ∙ ap (λ (bs : List ℕ). flat_map row_text done ++ bs) (append-nil (row_text row))

pub wrote_more : (all left after : List (List Value)) (h0 h1 h2 : Option (List ℕ)) (count : ℕ)
    → Wrote all left h0 h1 count → WroteNext (Ok true) left after h1 h2 → Wrote all after h0 h2 (count + 1)
wrote_more all left after h0 h1 h2 count w next = record {
  done = w.done ++ next.0 ∷ [];
  whole = w.whole ∙ ap (λ (l : List (List Value)). w.done ++ l) next.1 ∙ sym (append_assoc w.done (next.0 ∷ []) after);
  written = held_more h0 h1 h2 (flat_map row_text w.done) (row_text next.0) (flat_map row_text (w.done ++ next.0 ∷ [])) w.written next.2 (rows_text_more w.done next.0);
  counted = omega (arith, w.counted, length-append w.done (next.0 ∷ []));
}

-- nothing is left: all rows were written
pub wrote_all : (all left : List (List Value)) (h0 h1 : Option (List ℕ)) (count : ℕ) → Wrote all left h0 h1 count → left ≡ [] → WroteAll all h0 h1 count
wrote_all all left h0 h1 count w none =
    let whole : all ≡ w.done = w.whole ∙ ap (λ (l : List (List Value)). w.done ++ l) none ∙ append-nil w.done in
    record {
      counted = w.counted ∙ ap (λ (l : List (List Value)). length l) (sym whole);
      written = w.written ∙ ap (λ (l : List (List Value)). append_known h0 (flat_map row_text l)) (sym whole);
    }

-- ---- the reply

pub rows_done : (all : List (List Value)) (count : ℕ) (h0 h1 h2 : Option (List ℕ)) → WroteAll all h0 h1 count → h2 ≡ append_known h1 (count_text count) → Replies (Rows all) (Ok (came.Rows count)) h0 h2
rows_done all count h0 h1 h2 w e = (
  held_more h0 h1 h2 (flat_map row_text all) (count_text count) (text (Rows all)) w.written e (text_rows all ∙ ap (λ (n : ℕ). flat_map row_text all ++ count_text n) (sym w.counted)),
  ap (λ (n : ℕ). came.Rows n) (sym w.counted),
)

pub rows_less : (all : List (List Value)) (count : ℕ) (h0 h1 h2 : Option (List ℕ)) → WroteAll all h0 h1 count → WroteLess h1 h2 (count_text count) → Replies (Rows all) (Err Sink) h0 h2
rows_less all count h0 h1 h2 w less =
    subst (λ (bs : List ℕ). WroteLess h0 h2 bs) (ap (λ (n : ℕ). flat_map row_text all ++ count_text n) w.counted ∙ sym (text_rows all))
    (less_behind h0 h1 h2 (flat_map row_text all) (count_text count) w.written less)

-- the text of all rows, of which some are done
text_split : (all done rest : List (List Value)) → all ≡ done ++ rest → text (Rows all) ≡ flat_map row_text done ++ (flat_map row_text rest ++ count_text (length all))
text_split all done rest e =
    text_rows all ∙ ap (λ (l : List (List Value)). flat_map row_text l ++ count_text (length all)) e
    ∙ ap (λ (bs : List ℕ). bs ++ count_text (length all)) (flat_map-append row_text done rest)
    ∙ append_assoc (flat_map row_text done) (flat_map row_text rest) (count_text (length all))

-- a row, or the next one's reading, failed
pub rows_failed : (all left after : List (List Value)) (h0 h1 h2 : Option (List ℕ)) (count : ℕ) (stop : Fault) → Wrote all left h0 h1 count → WroteNext (Err stop) left after h1 h2 → Replies (Rows all) (Err stop) h0 h2
rows_failed all left after h0 h1 h2 count Sink w next =
    let end = flat_map row_text next.rest ++ count_text (length all) in
    let e : text (Rows all) ≡ flat_map row_text w.done ++ (row_text next.row ++ end) =
    text_split all w.done left w.whole
    ∙ ap (λ (l : List (List Value)). flat_map row_text w.done ++ (flat_map row_text l ++ count_text (length all))) next.is
    ∙ ap (λ (bs : List ℕ). flat_map row_text w.done ++ bs) (append_assoc (row_text next.row) (flat_map row_text next.rest) (count_text (length all))) in
    subst (λ (bs : List ℕ). WroteLess h0 h2 bs) (sym e) (less_behind h0 h1 h2 (flat_map row_text w.done) (row_text next.row ++ end) w.written (less_front h1 h2 (row_text next.row) end next.wrote))
rows_failed all left after h0 h1 h2 count Flash w next = record {
  written = flat_map row_text w.done;
  left = flat_map row_text left ++ count_text (length all);
  whole = text_split all w.done left w.whole;
  held = next ∙ w.written;
}

-- ---- refusals

pub refused_done : (reply : Reply) (refusal : Refusal) (h0 h1 : Option (List ℕ)) → reply ≡ Refused refusal → h1 ≡ append_known h0 (refusal_text refusal) → Replies reply (Ok came.Refused) h0 h1
refused_done reply refusal h0 h1 is e =
    subst (λ (r : Reply). Replies r (Ok came.Refused) h0 h1) (sym is) (e ∙ ap (append_known h0) (sym (text_refused refusal)), refl)

pub refused_less : (reply : Reply) (refusal : Refusal) (h0 h1 : Option (List ℕ)) → reply ≡ Refused refusal → WroteLess h0 h1 (refusal_text refusal) → Replies reply (Err Sink) h0 h1
refused_less reply refusal h0 h1 is less =
    subst (λ (r : Reply). Replies r (Err Sink) h0 h1) (sym is) (subst (λ (bytes : List ℕ). WroteLess h0 h1 bytes) (sym (text_refused refusal)) less)

-- ---- aggregates

pub numbers_done : (reply : Reply) (found wanted : List (Option ℤ)) (h0 h1 : Option (List ℕ)) → reply ≡ Numbers wanted → found ≡ wanted → h1 ≡ append_known h0 (text (Numbers found)) → WritesReply reply (came.Rows 1) h0 h1
numbers_done reply found wanted h0 h1 is same e =
    subst (λ (r : Reply). WritesReply r (came.Rows 1) h0 h1) (sym is) (e ∙ ap (λ (zs : List (Option ℤ)). append_known h0 (text (Numbers zs))) same, refl)

pub numbers_less : (reply : Reply) (found wanted : List (Option ℤ)) (h0 h1 : Option (List ℕ)) → reply ≡ Numbers wanted → found ≡ wanted → WroteLess h0 h1 (text (Numbers found)) → WroteLess h0 h1 (text reply)
numbers_less reply found wanted h0 h1 is same less =
    subst (λ (r : Reply). WroteLess h0 h1 (text r)) (sym is) (subst (λ (zs : List (Option ℤ)). WroteLess h0 h1 (text (Numbers zs))) same less)

-- ---- the loop over a cursor of one relation

pub record SelectGoes (state : State) (tables : Tables) (all : List Row) (places : List ℕ) (before now : SelectCursor) (held held_now : Option (List ℕ)) (count reads reads_now : ℕ) : Type 0 where
  pub fits : Fits now.candidates state tables all
  pub wrote : Wrote (rows_left places before all) (rows_left places now all) held held_now count
  pub few : reads_now + cost_ahead now.candidates all ≤ reads + cost_ahead before.candidates all

pub select_begins : (state : State) (tables : Tables) (all : List Row) (places : List ℕ) (c : SelectCursor) (h : Option (List ℕ)) (reads : ℕ)
    → Fits c.candidates state tables all → SelectGoes state tables all places c c h h 0 reads reads
select_begins state tables all places c h reads fits = record { fits = fits; wrote = wrote_none (rows_left places c all) h; few = omega arith }

pub select_goes_on : (state : State) (tables : Tables) (all : List Row) (places : List ℕ) (before now after : SelectCursor) (h0 h1 h2 : Option (List ℕ)) (count reads r1 r2 : ℕ)
    → SelectGoes state tables all places before now h0 h1 count reads r1
    → WroteNext (Ok true) (rows_left places now all) (rows_left places after all) h1 h2
    → Fits after.candidates state tables all
    → r2 + cost_ahead after.candidates all ≤ r1 + cost_ahead now.candidates all
    → SelectGoes state tables all places before after h0 h2 (count + 1) reads r2
select_goes_on state tables all places before now after h0 h1 h2 count reads r1 r2 s next fits few = record {
  fits = fits;
  wrote = wrote_more (rows_left places before all) (rows_left places now all) (rows_left places after all) h0 h1 h2 count s.wrote next;
  few = omega (arith, s.few, few);
}
