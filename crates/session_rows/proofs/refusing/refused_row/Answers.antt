use Rattle.std.proofs.Common.{◌≡◌, ◌<◌, ◌⊎◌, ℕ, List, Bool, true, false, None, Option, ◌∙◌, sym, arith, inl, inr, length}
use Rattle.std.specs.List.{list_any}
use Rattle.db_model.specs.declared.values.Value.{Value}
use Rattle.db_model.specs.declared.schemas.Attribute.{Attribute}
use Rattle.db_model.specs.Step.{unsuited}
use Rattle.db_model.proofs.SoundRows.{suited}
use Rattle.tuple_file.specs.Tuples.{rows, slots}
use Rattle.session_model.specs.View.{relation_of_rows}
use Rattle.session_rows.specs.Refused.{is_table_index}
use Rattle.session_rows.proofs.Inserts.{Passes, inserts, too_many_entries}
use Rattle.session_rows.proofs.Ordered.{are_open, have_keys, may_follow}
use Rattle.session_rows.proofs.refusing.refused_row.Goals as goal

suits_by : (attributes given : List Attribute) (values given_values : List Value) (o : Option ℕ) → given ≡ attributes → given_values ≡ values → o ≡ unsuited given given_values → o ≡ None
    → unsuited attributes values ≡ None
suits_by attributes given values given_values o e f is none = (λ i. unsuited (sym e i) (sym f i)) ∙ sym is ∙ none

few_by : (has some : Bool) (count n : ℕ) → has ≡ some → count ≡ n → ((has ≡ true) × (count < 2048)) ⊎ (has ≡ false) → some ≡ true → n < 2048
few_by has some count n e f (inl h) is = omega (arith, f, h.1)
few_by has some count n e f (inr h) is = let both : true ≡ false = sym is ∙ sym e ∙ h in absurd (cc)

pub returns-then-count-ge-MOST_KEYS-clause-refused : goal.returns-then-count-ge-MOST_KEYS-clause-refused
returns-then-count-ge-MOST_KEYS-clause-refused g c = λ told slot db v indexes.
    let state = g.V.Files.state c.args.files.now in
    let t = c.args.tuples.now in
    let p : Passes c.args.values.now c.args.version slot c.args.indexes.now (relation_of_rows state.files t) = record {
      suited = suits_by t.schema.attributes _ c.args.values.now _ c.unsuited.result c.as_slice.ensures.items c.as_slice-2.ensures.items c.unsuited.ensures c.in_default.is;
      room = omega (arith, c.if-limit-count.false, c.slots_limit-limit.ensures, c.count-count.ensures.rows);
      follows = sym (c.in_ok-last.ensures.fallen told slot) ∙ c.in_default-2.is;
    } in
    too_many_entries c.args.values.now c.args.version slot c.args.indexes.now (relation_of_rows state.files t) p db v indexes
    (sym c.has_table.ensures ∙ c.if-has_table.true) (omega (arith, c.if-count-ge-MOST_KEYS.true, c.count-count.ensures.rows))

pub returns-clause-refused : goal.returns-clause-refused
returns-clause-refused g c = λ told slot db v indexes.
    let state = g.V.Files.state c.args.files.now in
    let t = c.args.tuples.now in
    let p : Passes c.args.values.now c.args.version slot c.args.indexes.now (relation_of_rows state.files t) = record {
      suited = suits_by t.schema.attributes _ c.args.values.now _ c.unsuited.result c.as_slice.ensures.items c.as_slice-2.ensures.items c.unsuited.ensures c.in_default.is;
      room = omega (arith, c.if-limit-count.false, c.slots_limit-limit.ensures, c.count-count.ensures.rows);
      follows = sym (c.in_ok-last.ensures.fallen told slot) ∙ c.in_default-2.is;
    } in
    inserts c.args.values.now c.args.version slot c.args.indexes.now (relation_of_rows state.files t) p db v indexes
    (few_by c.has_table.result (list_any is_table_index c.args.indexes.now) c.count-count.result (length (rows state.files t)) c.has_table.ensures c.count-count.ensures.rows c.else-has_table.either)

pub returns-clause-suits : goal.returns-clause-suits
returns-clause-suits g c = λ none.
    let t = c.args.tuples.now in
    suited t.schema.attributes c.args.values.now
    (suits_by t.schema.attributes _ c.args.values.now _ c.unsuited.result c.as_slice.ensures.items c.as_slice-2.ensures.items c.unsuited.ensures c.in_default.is)

pub returns-clause-keys : goal.returns-clause-keys
returns-clause-keys g c = λ none.
    let t = c.args.tuples.now in
    have_keys t.schema.attributes c.args.values.now c.args.indexes.now
    (suited t.schema.attributes c.args.values.now
    (suits_by t.schema.attributes _ c.args.values.now _ c.unsuited.result c.as_slice.ensures.items c.as_slice-2.ensures.items c.unsuited.ensures c.in_default.is))
    c.requires.allowed

pub returns-clause-open : goal.returns-clause-open
returns-clause-open g c = λ none.
    let state = g.V.Files.state c.args.files.now in
    let t = c.args.tuples.now in
    are_open (slots state.files t) c.args.indexes.now
    (few_by c.has_table.result (list_any is_table_index c.args.indexes.now) c.count-count.result (slots state.files t) c.has_table.ensures c.count-count.ensures.slots c.else-has_table.either)

pub returns-clause-follow : goal.returns-clause-follow
returns-clause-follow g c = λ told none complete.
    let state = g.V.Files.state c.args.files.now in
    let t = c.args.tuples.now in
    may_follow state c.args.tables.now t c.args.indexes.now c.args.values.now 0 told c.requires.holds
    (suited t.schema.attributes c.args.values.now
    (suits_by t.schema.attributes _ c.args.values.now _ c.unsuited.result c.as_slice.ensures.items c.as_slice-2.ensures.items c.unsuited.ensures c.in_default.is))
    c.requires.allowed (sym (c.in_ok-last.ensures.fallen told 0) ∙ c.in_default-2.is) complete
