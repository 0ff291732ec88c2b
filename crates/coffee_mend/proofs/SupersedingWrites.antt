-- A torn record is superseded by three writes: after each of them, and where one is cut, the image is one of those that mend.
use Rattle.std.proofs.Common.{◌≡◌, ◌⊎◌, inl, inr, ⊎_elim, ℕ, ◌+◌, ◌*◌, ◌%◌, ◌<◌, ◌≤◌, List, [], ◌∷◌, length, take, get_or, bit_or, ap, sym, subst, ◌∙◌, arith}
use Rattle.std.specs.Int.Bits.{or_self, or_zero_r}
use Rattle.std.proofs.lemmas.Bool.{cases_lt}
use Rattle.std.proofs.lemmas.List.{get_or-take, length-take-le, take_all}
use Rattle.afl_base.specs.Image.{or_at}
use Rattle.afl_base.specs.declared.ids.PageId.{PageId}
use Rattle.afl_base.proofs.Bits.{or_at_nothing}
use Rattle.afl_base.proofs.Images.{length_or_at, or_at_inside}
use Rattle.coffee_layout.specs.FileBytes.{file_byte, number_in, record_place, table_of}
use Rattle.coffee_layout.specs.Units.{pages_of}
use Rattle.coffee_log.proofs.RecordLaws.{kept_number, number_image}
use Rattle.flash_range.specs.Range.{IsCutRange}
use Rattle.flash_range.proofs.Ranges.{or_on_zero, or_outside}
use Rattle.coffee_cuts.specs.Cuts.{IsNumbered, IsSuperseding, without_two}
use Rattle.coffee_cuts.specs.Superseded.{SupersedesFurther, IsSuperseded}
use Rattle.coffee_cuts.proofs.Superseding.{logged, number_same}
use Rattle.coffee_find.specs.Found.{IsRecordInside}
use Rattle.coffee_find.specs.declared.trouble.TornRecord.{TornRecord}
use Rattle.coffee_mend.specs.Superseding.{GoesOnOrIsDone, HoldsFirst}

-- a repair has gone on so far that all of the first region is in the record
pub record IsWritten (image new : List ℕ) (t : IsSuperseding image) : Type 0 where
  pub gone : SupersedesFurther image new t
  pub all : gone.done ≡ 128

-- and so far that the record has its number
pub record IsNamed (image new : List ℕ) (t : IsSuperseding image) : Type 0 where
  pub written : IsWritten image new t
  pub number : number_in (table_of new t.log.0) (t.file.used + 1) ≡ 1

module _ (image : List ℕ) (r : TornRecord) (region : List ℕ) (whole : 256 * pages_of image ≡ length image)
    (within : IsRecordInside (length image) r) (t : IsSuperseding image) (h : HoldsFirst image r region t) where
  abbrev here : ℕ
  here = record_place t.log.0 (t.file.used + 1)

  abbrev name : ℕ
  name = 256 * t.log.0 + 34 + 2 * t.file.used

  abbrev wanted : ℕ → ℕ
  wanted k = file_byte (without_two image t.log.0 t.file.used) t.file.page.0 t.file.log k

  page_is : t.log.0 ≡ r.log.0
  page_is = ap (λ (l : PageId). l.0) h.log_is

  -- THE RECORD

  module _ (long : length region ≡ 128) (n : ℕ) (part : n ≤ 128) (new : List ℕ) (is : new ≡ or_at image here (take n region)) where
    taken : length (take n region) ≡ n
    taken = length-take-le n region (omega (arith, part, long))

    out : (k : ℕ) → (here ≤ k → k < here + n → ⊥) → get_or new k 0 ≡ get_or image k 0
    out k beside = ap (λ x. get_or x k 0) is ∙ or_outside image here (take n region) k (let l = taken in λ a b. beside a (omega (arith, b, l)))

    written : (k : ℕ) → k < n → get_or new (here + k) 0 ≡ wanted k
    written k low =
        let l = taken in
        let f = t.free in
        let i = t.inside in
        let w = h.bytes k (omega (arith, low, part)) in
        ap (λ x. get_or x (here + k) 0) is
        ∙ or_at_inside image here (take n region) k (omega (arith, low, part, f, i)) (omega (arith, low, l))
        ∙ ap (bit_or (get_or image (here + k) 0)) (get_or-take n region k 0 low ∙ w)
        ∙ ⊎_elim
        (λ (front : k < t.done). ap (λ x. bit_or x (wanted k)) (t.front k front) ∙ or_self (wanted k))
        (λ (rest : t.done ≤ k). ap (λ x. bit_or x (wanted k)) (t.rest k rest (omega (arith, low, part))))
        (cases_lt k t.done)

    stays : (k : ℕ) → n ≤ k → get_or new (here + k) 0 ≡ get_or image (here + k) 0
    stays k from = out (here + k) (λ a b. omega (arith, b, from))

    number_stays : number_in (table_of new t.log.0) (t.file.used + 1) ≡ number_in (table_of image t.log.0) (t.file.used + 1)
    number_stays =
        let f = t.free in
        kept_number image new t.log.0 (t.file.used + 1) (omega (arith, f))
        (out (256 * t.log.0 + 32 + 2 * (t.file.used + 1)) (λ a b. omega (arith, a, f)))
        (out (256 * t.log.0 + 32 + 2 * (t.file.used + 1) + 1) (λ a b. omega (arith, a, f)))

    record_goes_on : (g : SupersedesFurther image new t) × (n ≤ g.done)
    record_goes_on = ⊎_elim
        (λ (less : n < t.done). (
          record {
            long = ap (λ x. length x) is ∙ length_or_at image here (take n region);
            done = t.done;
            within = t.within;
            number = subst (λ m. IsNumbered m t.done t.file.size) (sym number_stays) t.number;
            front = λ k low. ⊎_elim (λ (b : k < n). written k b) (λ (b : n ≤ k). stays k b ∙ t.front k low) (cases_lt k n);
            rest = λ k from few. stays k (omega (arith, less, from)) ∙ t.rest k from few;
            others = λ k beside number. out k (λ a b. beside a (omega (arith, b, part)));
          },
          omega (arith, less),
        ))
        (λ (more : t.done ≤ n). (
          record {
            long = ap (λ x. length x) is ∙ length_or_at image here (take n region);
            done = n;
            within = part;
            number = ⊎_elim
                (λ none. inl (number_stays ∙ none))
                (λ (one : (number_in (table_of image t.log.0) (t.file.used + 1) ≡ 1) × (t.done ≡ 128) × (1 ≤ t.file.size)).
                let all = one.1 in inr (number_stays ∙ one.0, omega (arith, all, more, part), one.2))
                t.number;
            front = λ k low. written k low;
            rest = λ k from few. stays k from ∙ t.rest k (omega (arith, more, from)) few;
            others = λ k beside number. out k (λ a b. beside a (omega (arith, b, part)));
          },
          omega arith,
        ))
        (cases_lt n t.done)

  -- ITS NUMBER

  module _ (mid new : List ℕ) (w : IsWritten image mid t) (some : 1 ≤ t.file.size) (is : new ≡ or_at mid name (1 ∷ 0 ∷ [])) where
    named_out : (k : ℕ) → (name ≤ k → k < name + 2 → ⊥) → get_or new k 0 ≡ get_or mid k 0
    named_out k beside = ap (λ x. get_or x k 0) is ∙ or_outside mid name (1 ∷ 0 ∷ []) k beside

    inside_mid : 256 * t.log.0 + 4096 ≤ length mid
    inside_mid = let l = w.gone.long in let i = t.inside in omega (arith, l, i)

    abbrev slot : ℕ
    slot = 256 * t.log.0 + 32 + 2 * (t.file.used + 1)

    slot_is : slot ≡ name + 0
    slot_is = omega arith

    next_is : slot + 1 ≡ name + 1
    next_is = omega arith

    bytes_mid : ((get_or mid slot 0 ≡ 0) ⊎ (get_or mid slot 0 ≡ 1)) × (get_or mid (slot + 1) 0 ≡ 0)
    bytes_mid =
        let f = t.free in
        let b = number_image mid t.log.0 (t.file.used + 1) (omega (arith, f)) in
        ⊎_elim
        (λ (none : number_in (table_of mid t.log.0) (t.file.used + 1) ≡ 0). (inl (omega (arith, b, none)), omega (arith, b, none)))
        (λ (one : (number_in (table_of mid t.log.0) (t.file.used + 1) ≡ 1) × (w.gone.done ≡ 128) × (1 ≤ t.file.size)).
        let n = one.0 in (inr (omega (arith, b, n)), omega (arith, b, n)))
        w.gone.number

    low_is : get_or new slot 0 ≡ 1
    low_is =
        let f = t.free in
        let i = inside_mid in
        ap (λ k. get_or new k 0) slot_is
        ∙ ap (λ x. get_or x (name + 0) 0) is
        ∙ or_at_inside mid name (1 ∷ 0 ∷ []) 0 (omega (arith, f, i)) (omega arith)
        ∙ ap (λ k. bit_or (get_or mid k 0) 1) (sym slot_is)
        ∙ ⊎_elim (λ zero. ap (λ x. bit_or x 1) zero) (λ one. ap (λ x. bit_or x 1) one ∙ or_self 1) bytes_mid.0

    high_is : get_or new (slot + 1) 0 ≡ 0
    high_is =
        let f = t.free in
        let i = inside_mid in
        ap (λ k. get_or new k 0) next_is
        ∙ ap (λ x. get_or x (name + 1) 0) is
        ∙ or_at_inside mid name (1 ∷ 0 ∷ []) 1 (omega (arith, f, i)) (omega arith)
        ∙ or_zero_r (get_or mid (name + 1) 0)
        ∙ ap (λ k. get_or mid k 0) (sym next_is)
        ∙ bytes_mid.1

    number_one : number_in (table_of new t.log.0) (t.file.used + 1) ≡ 1
    number_one =
        let f = t.free in
        let b = number_image new t.log.0 (t.file.used + 1) (omega (arith, f)) in
        let low = low_is in
        let high = high_is in
        omega (arith, b, low, high)

    is_named : IsNamed image new t
    is_named =
        let f = t.free in record {
          written = record {
            gone = record {
              long = ap (λ x. length x) is ∙ length_or_at mid name (1 ∷ 0 ∷ []) ∙ w.gone.long;
              done = w.gone.done;
              within = w.gone.within;
              number = inr (number_one, w.all, some);
              front = λ k low. named_out (here + k) (λ a b. omega (arith, b, f)) ∙ w.gone.front k low;
              rest = λ k from few. named_out (here + k) (λ a b. omega (arith, b, f)) ∙ w.gone.rest k from few;
              others = λ k beside number. named_out k number ∙ w.gone.others k beside number;
            };
            all = w.all;
          };
          number = number_one;
        }

  -- THE NUMBER OF THE TORN ONE

  module _ (mid new : List ℕ) (m : IsNamed image mid t) (is : new ≡ or_at mid (256 * t.log.0 + 32 + 2 * t.file.used) (1 ∷ 0 ∷ [])) where
    abbrev torn_slot : ℕ
    torn_slot = 256 * t.log.0 + 32 + 2 * t.file.used

    abbrev before : SupersedesFurther image mid t
    before = m.written.gone

    done_out : (k : ℕ) → (torn_slot ≤ k → k < torn_slot + 2 → ⊥) → get_or new k 0 ≡ get_or mid k 0
    done_out k beside = ap (λ x. get_or x k 0) is ∙ or_outside mid torn_slot (1 ∷ 0 ∷ []) k beside

    -- the torn record had no number
    torn_none : number_in (table_of mid t.log.0) t.file.used ≡ 0
    torn_none =
        let f = t.free in
        kept_number image mid t.log.0 t.file.used (omega (arith, f))
        (before.others torn_slot (λ a b. omega (arith, a, f)) (λ a b. omega (arith, a)))
        (before.others (torn_slot + 1) (λ a b. omega (arith, a, f)) (λ a b. omega (arith, a)))
        ∙ number_same image whole t t.file.used (omega (arith, f)) (λ e. omega (arith, e))
        ∙ (logged image whole t).free_are t.file.used (omega arith) (omega (arith, f))

    torn_one : number_in (table_of new t.log.0) t.file.used ≡ 1
    torn_one =
        let f = t.free in
        let l = before.long in
        let i = t.inside in
        let none = torn_none in
        let was = number_image mid t.log.0 t.file.used (omega (arith, f)) in
        let now = number_image new t.log.0 t.file.used (omega (arith, f)) in
        let e : torn_slot ≡ torn_slot + 0 = omega arith in
        let zero : get_or mid (torn_slot + 0) 0 ≡ 0 = ap (λ k. get_or mid k 0) (sym e) ∙ omega (arith, was, none) in
        let low : get_or new torn_slot 0 ≡ 1 =
        ap (λ k. get_or new k 0) e ∙ ap (λ x. get_or x (torn_slot + 0) 0) is ∙ or_on_zero mid torn_slot (1 ∷ 0 ∷ []) 0 (omega arith) (omega (arith, f, l, i)) zero in
        let high : get_or new (torn_slot + 1) 0 ≡ 0 =
        ap (λ x. get_or x (torn_slot + 1) 0) is ∙ or_on_zero mid torn_slot (1 ∷ 0 ∷ []) 1 (omega arith) (omega (arith, f, l, i)) (omega (arith, was, none)) in
        omega (arith, now, low, high)

    is_superseded : IsSuperseded image new t
    is_superseded =
        let f = t.free in
        let all = m.written.all in record {
          long = ap (λ x. length x) is ∙ length_or_at mid torn_slot (1 ∷ 0 ∷ []) ∙ before.long;
          first = torn_one;
          second = kept_number mid new t.log.0 (t.file.used + 1) (omega (arith, f))
              (done_out (256 * t.log.0 + 32 + 2 * (t.file.used + 1)) (λ a b. omega (arith, b)))
              (done_out (256 * t.log.0 + 32 + 2 * (t.file.used + 1) + 1) (λ a b. omega (arith, b)))
              ∙ m.number;
          here = λ k few. done_out (here + k) (λ a b. omega (arith, b, f)) ∙ before.front k (omega (arith, few, all));
          others = λ k records numbers.
              done_out k (λ a b. numbers a (omega (arith, b)))
              ∙ before.others k (λ a b. records (omega (arith, a)) (omega (arith, b))) (λ a b. numbers (omega (arith, a)) (omega (arith, b)));
        }

  -- THE THREE WRITES, AND THEIR CUTS

  here_is : r.place + 128 ≡ here
  here_is = let p = within.place in let l = page_is in let u = h.used_is in omega (arith, p, l, u)

  name_is : 256 * r.log.0 + 34 + 2 * r.used ≡ name
  name_is = let l = page_is in let u = h.used_is in omega (arith, l, u)

  torn_is : 256 * r.log.0 + 32 + 2 * r.used ≡ 256 * t.log.0 + 32 + 2 * t.file.used
  torn_is = let l = page_is in let u = h.used_is in omega (arith, l, u)

  -- two bytes of one page are none or both
  none_or_both : (mid new : List ℕ) (at : ℕ) → IsCutRange mid new at (1 ∷ 0 ∷ []) → at % 256 + 2 ≤ 256 → (new ≡ mid) ⊎ (new ≡ or_at mid at (1 ∷ 0 ∷ []))
  none_or_both mid new at cut page = ⊎_elim
      (λ (none : cut.done ≡ 0). inl (cut.is ∙ ap (λ n. or_at mid at (take n (1 ∷ 0 ∷ []))) none ∙ or_at_nothing mid at))
      (λ (both : cut.done ≡ 2). inr (cut.is ∙ ap (λ n. or_at mid at (take n (1 ∷ 0 ∷ []))) both))
      (cut.whole (omega arith) page)

  module _ (long : length region ≡ 128) where
    pub record_cut : (new : List ℕ) (at : ℕ) → at ≡ r.place + 128 → IsCutRange image new at region → SupersedesFurther image new t
    record_cut new at is cut =
        let w = cut.within in
        (record_goes_on long cut.done (omega (arith, w, long)) new (cut.is ∙ ap (λ p. or_at image p (take cut.done region)) (is ∙ here_is))).0

    pub record_written : (new : List ℕ) (at : ℕ) → at ≡ r.place + 128 → new ≡ or_at image at region → IsWritten image new t
    record_written new at is all =
        let g = record_goes_on long 128 (omega arith) new (all ∙ ap (λ p. or_at image p region) (is ∙ here_is) ∙ ap (or_at image here) (sym (take_all 128 region (omega (arith, long))))) in
        let some = g.1 in
        let most = g.0.within in
        record { gone = g.0; all = omega (arith, some, most) }

  module _ (some : 1 ≤ t.file.size) where
    pub name_written : (mid new : List ℕ) (at : ℕ) → at ≡ 256 * r.log.0 + 34 + 2 * r.used → IsWritten image mid t → new ≡ or_at mid at (1 ∷ 0 ∷ []) → IsNamed image new t
    name_written mid new at is w all = is_named mid new w some (all ∙ ap (λ p. or_at mid p (1 ∷ 0 ∷ [])) (is ∙ name_is))

    pub name_cut : (mid new : List ℕ) (at : ℕ) → at ≡ 256 * r.log.0 + 34 + 2 * r.used → IsWritten image mid t → IsCutRange mid new at (1 ∷ 0 ∷ []) → SupersedesFurther image new t
    name_cut mid new at is w cut =
        let f = t.free in
        let n = name_is in ⊎_elim
        (λ (none : new ≡ mid). subst (λ x. SupersedesFurther image x t) (sym none) w.gone)
        (λ (both : new ≡ or_at mid at (1 ∷ 0 ∷ [])). (name_written mid new at is w both).written.gone)
        (none_or_both mid new at cut (omega (arith, is, n, f)))

    pub superseded : (mid new : List ℕ) (at : ℕ) → at ≡ 256 * r.log.0 + 32 + 2 * r.used → IsNamed image mid t → new ≡ or_at mid at (1 ∷ 0 ∷ []) → IsSuperseded image new t
    superseded mid new at is m all = is_superseded mid new m (all ∙ ap (λ p. or_at mid p (1 ∷ 0 ∷ [])) (is ∙ torn_is))

    pub last_cut : (mid new : List ℕ) (at : ℕ) → at ≡ 256 * r.log.0 + 32 + 2 * r.used → IsNamed image mid t → IsCutRange mid new at (1 ∷ 0 ∷ []) → GoesOnOrIsDone image new t
    last_cut mid new at is m cut =
        let f = t.free in
        let n = torn_is in ⊎_elim
        (λ (none : new ≡ mid). inl (subst (λ x. SupersedesFurther image x t) (sym none) m.written.gone))
        (λ (both : new ≡ or_at mid at (1 ∷ 0 ∷ [])). inr (superseded mid new at is m both))
        (none_or_both mid new at cut (omega (arith, is, n, f)))
