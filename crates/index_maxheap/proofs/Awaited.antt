-- Bytes that wait on their way into a draft.
use Rattle.std.proofs.Common.{◌≡◌, ◌≢◌, ◌≤◌, ◌<◌, ◌+◌, ◌*◌, ◌-◌, ℕ, List, length, get_or, refl, arith, ap, ◌∙◌, sym, ◌⊎◌, inl, inr, ⊎_elim}
use Rattle.std.specs.Prelude.{slice_range}
use Rattle.std.proofs.lemmas.List.{ext_get_or, get_or-replicate}
use Rattle.afl_base.specs.Fields.{put_at}
use Rattle.afl_base.proofs.FieldLaws.{length-put_at}
use Rattle.afl_base.proofs.PutLaws.{put_at_behind, put_at_here}
use Rattle.index_tree.proofs.Added.{same_or}
use Rattle.index_tree.proofs.Frames.{part_same}
use Rattle.index_tree.proofs.Shared.{order}
use Rattle.index_tree.proofs.Spots.{byte_stays}
use Rattle.index_maxheap.specs.Builds.{Awaits, HasZeros, IsAwaited}
use Rattle.index_maxheap.proofs.Built.{slice_zeros}

-- ---- a byte behind a write

-- it is one of those that were written, or as before
pub put_or : (xs w : List ℕ) (at x : ℕ) → at + length w ≤ length xs →
    ((i : ℕ) × (i < length w) × (x ≡ at + i) × (get_or (put_at xs at w) x 0 ≡ get_or w i 0))
    ⊎ (((x + 1 ≤ at) ⊎ (at + length w ≤ x)) × (get_or (put_at xs at w) x 0 ≡ get_or xs x 0))
put_or xs w at x fits = ⊎_elim
    (λ (up : at ≤ x). ⊎_elim
    (λ (out : at + length w ≤ x). inr (inr out, put_at_behind xs w at x fits out))
    (λ (within : x < at + length w).
    let i : ℕ = x - at in
    let e : x ≡ at + i = omega (arith, up) in
    inl (i, omega (arith, up, within), e, ap (λ (j : ℕ). get_or (put_at xs at w) j 0) e ∙ put_at_here xs w at i fits (omega (arith, up, within))))
    (order (at + length w) x))
    (λ (less : x < at). let before : x + 1 ≤ at = omega (arith, less) in inr (inl before, byte_stays xs w at x fits (inl before)))
    (order at x)

-- ---- zeros

pub free_under : (from : ℕ) (at count : ℕ → ℕ) (groups draft full : List ℕ) (x : ℕ) → Awaits from at count groups draft full → get_or full x 0 ≡ 0 → get_or draft x 0 ≡ 0
free_under from at count groups draft full x a none = ⊎_elim (λ (w : IsAwaited from at count x). a.free x w) (λ (e : get_or draft x 0 ≡ get_or full x 0). e ∙ none) (a.rest x)

pub zero_in : (xs : List ℕ) (at n i : ℕ) → HasZeros xs at n → i < n → get_or xs (at + i) 0 ≡ 0
zero_in xs at n i zeros h =
    let e : at + 0 + i ≡ at + i = omega arith in
    let z : 0 + i ≡ i = omega arith in
    sym (part_same xs (slice_range xs at (at + n)) at (at + n) 0 n refl (omega arith) i h ∙ ap (λ (j : ℕ). get_or xs j 0) e)
    ∙ ap (λ (j : ℕ). get_or (slice_range xs at (at + n)) j 0) z
    ∙ ap (λ (ys : List ℕ). get_or ys i 0) zeros
    ∙ get_or-replicate n i 0 0 h

-- there are zeros in the draft where there are in the end
pub zeros_under : (from : ℕ) (at count : ℕ → ℕ) (groups draft full : List ℕ) (p n : ℕ) → Awaits from at count groups draft full → p + n ≤ length draft → HasZeros full p n → HasZeros draft p n
zeros_under from at count groups draft full p n a fits zeros = slice_zeros draft p n fits (λ i h. free_under from at count groups draft full (p + i) a (zero_in full p n i zeros h))

-- ---- what a call does to what waits

-- so many bytes from a place on are not awaited for any other node
abbrev pub IsClear : (at count : ℕ → ℕ) (node place n : ℕ) → Type 0
IsClear at count node place n = (m : ℕ) → m < 341 → m ≢ node → 0 < count m → (at m + 6 * count m ≤ place) ⊎ (place + n ≤ at m)

-- for all other nodes the same waits
abbrev pub OthersWait : (at at_ count count_ : ℕ → ℕ) (node : ℕ) → Type 0
OthersWait at at_ count count_ node = (m : ℕ) → m ≢ node → (at_ m ≡ at m) × (count_ m ≡ count m)

-- one pair more waits
module _ (at at_ count count_ : ℕ → ℕ) (groups draft full six : List ℕ) (n : ℕ) (a : Awaits 0 at count groups draft full)
    (node : n < 341) (few : (m : ℕ) → count m < 4) (room : count n < 3) (long : length groups ≡ 6138) (wide : length six ≡ 6)
    (here : 0 < count n → at_ n ≡ at n) (more : count_ n ≡ count n + 1) (others : OthersWait at at_ count count_ n)
    (fits : at_ n + 6 * count n + 6 ≤ length full) (zeros : HasZeros full (at_ n + 6 * count n) 6) (clear : IsClear at count n (at_ n + 6 * count n) 6) where
  abbrev place : ℕ
  place = at_ n + 6 * count n

  still : (x : ℕ) → IsAwaited 0 at count x → IsAwaited 0 at_ count_ x
  still x w = ⊎_elim
      (λ (e : w.node ≡ n).
      let at_is = ap at e in
      let count_is = ap count e in
      let behind = w.behind in
      let before = w.before in
      let some : 0 < count n = omega (arith, behind, before, count_is, at_is) in
      let same = here some in
      record { node = n; later = omega arith; among = node; behind = omega (arith, behind, at_is, same); before = omega (arith, before, at_is, count_is, same, more) })
      (λ (d : w.node ≢ n).
      let same = others w.node d in
      let at_is = same.0 in
      let count_is = same.1 in
      let behind = w.behind in
      let before = w.before in
      record { node = w.node; later = omega arith; among = w.among; behind = omega (arith, at_is, behind); before = omega (arith, at_is, count_is, before) })
      (same_or w.node n)

  free : (x : ℕ) → IsAwaited 0 at_ count_ x → get_or draft x 0 ≡ 0
  free x w = ⊎_elim
      (λ (e : w.node ≡ n).
      let at_is = ap at_ e in
      let count_is = ap count_ e in
      let behind = w.behind in
      let before = w.before in
      ⊎_elim
      (λ (new : place ≤ x).
      let i : ℕ = x - place in
      let x_is : place + i ≡ x = omega (arith, new) in
      free_under 0 at count groups draft full x a (ap (λ (j : ℕ). get_or full j 0) (sym x_is) ∙ zero_in full place 6 i zeros (omega (arith, new, before, at_is, count_is, more))))
      (λ (old : x < place).
      let some : 0 < count n = omega (arith, old, behind, at_is) in
      let same = here some in
      a.free x (record { node = n; later = omega arith; among = node; behind = omega (arith, behind, at_is, same); before = omega (arith, old, same) }))
      (order place x))
      (λ (d : w.node ≢ n).
      let same = others w.node d in
      let at_is = same.0 in
      let count_is = same.1 in
      let behind = w.behind in
      let before = w.before in
      a.free x (record { node = w.node; later = omega arith; among = w.among; behind = omega (arith, at_is, behind); before = omega (arith, at_is, count_is, before) }))
      (same_or w.node n)

  held : (m i : ℕ) → m < 341 → i < 6 * count_ m → get_or (put_at full place six) (at_ m + i) 0 ≡ get_or (put_at groups (18 * n + 6 * count n) six) (18 * m + i) 0
  held m i among h = ⊎_elim
      (λ (e : m ≡ n).
      let at_is = ap at_ e in
      let count_is = ap count_ e in
      let small = room in
      ⊎_elim
      (λ (new : 6 * count n ≤ i).
      let j : ℕ = i - 6 * count n in
      let there : at_ m + i ≡ place + j = omega (arith, at_is, new) in
      let here_ : 18 * m + i ≡ 18 * n + 6 * count n + j = omega (arith, e, new) in
      let inside : j < length six = omega (arith, h, count_is, more, new, wide) in
      ap (λ (k : ℕ). get_or (put_at full place six) k 0) there
      ∙ put_at_here full six place j (omega (arith, wide, fits)) inside
      ∙ sym (put_at_here groups six (18 * n + 6 * count n) j (omega (arith, wide, long, small, node)) inside)
      ∙ ap (λ (k : ℕ). get_or (put_at groups (18 * n + 6 * count n) six) k 0) (sym here_))
      (λ (old : i < 6 * count n).
      let same = here (omega (arith, old)) in
      let there : at_ m + i ≡ at n + i = omega (arith, at_is, same) in
      let here_ : 18 * m + i ≡ 18 * n + i = omega (arith, e) in
      ap (λ (k : ℕ). get_or (put_at full place six) k 0) there
      ∙ byte_stays full six place (at n + i) (omega (arith, wide, fits)) (inl (omega (arith, old, same)))
      ∙ a.held n i (omega arith) node old
      ∙ sym (byte_stays groups six (18 * n + 6 * count n) (18 * n + i) (omega (arith, wide, long, small, node)) (inl (omega (arith, old))))
      ∙ ap (λ (k : ℕ). get_or (put_at groups (18 * n + 6 * count n) six) k 0) (sym here_))
      (order (6 * count n) i))
      (λ (d : m ≢ n).
      let same = others m d in
      let at_is = same.0 in
      let count_is = same.1 in
      let small = room in
      let small_ = few m in
      let old : i < 6 * count m = omega (arith, h, count_is) in
      ap (λ (k : ℕ). get_or (put_at full place six) (k + i) 0) at_is
      ∙ byte_stays full six place (at m + i) (omega (arith, wide, fits)) (⊎_elim (λ (x : at m + 6 * count m ≤ place). inl (omega (arith, x, old))) (λ (x : place + 6 ≤ at m). inr (omega (arith, x, wide))) (clear m among d (omega (arith, old))))
      ∙ a.held m i (omega arith) among old
      ∙ sym (byte_stays groups six (18 * n + 6 * count n) (18 * m + i) (omega (arith, wide, long, small, node)) (⊎_elim (λ (x : n ≤ m). let up : n < m = less x d in inr (omega (arith, up, wide, small))) (λ (x : m < n). inl (omega (arith, x, old, small_))) (order n m))))
      (same_or m n)
    where
      less : n ≤ m → m ≢ n → n < m
      less up d = ⊎_elim (λ (x : m ≤ n). absurd (d (omega (arith, x, up)))) (λ (x : n < m). x) (order m n)

  pub await_pair : Awaits 0 at_ count_ (put_at groups (18 * n + 6 * count n) six) draft (put_at full (at_ n + 6 * count n) six)
  await_pair = record {
    size = a.size ∙ sym (length-put_at full six place (omega (arith, wide, fits)));
    free = free;
    held = λ m i later among h. held m i among h;
    rest = λ x. ⊎_elim
        (λ (w : IsAwaited 0 at count x). inl (still x w))
        (λ (e : get_or draft x 0 ≡ get_or full x 0). ⊎_elim
        (λ (w : (i : ℕ) × (i < length six) × (x ≡ place + i) × (get_or (put_at full place six) x 0 ≡ get_or six i 0)).
        let inside = w.1 in
        let x_is = w.2 in
        inl (record { node = n; later = omega arith; among = node; behind = omega (arith, x_is); before = omega (arith, x_is, inside, wide, more) }))
        (λ (w : ((x + 1 ≤ place) ⊎ (place + length six ≤ x)) × (get_or (put_at full place six) x 0 ≡ get_or full x 0)). inr (e ∙ sym w.1))
        (put_or full six place x (omega (arith, wide, fits))))
        (a.rest x);
  }

-- the same bytes are written to the draft as there will be
pub await_both : (at count : ℕ → ℕ) (groups draft full w : List ℕ) (p : ℕ) → Awaits 0 at count groups draft full → p + length w ≤ length full → ((m : ℕ) → m < 341 → 0 < count m → (at m + 6 * count m ≤ p) ⊎ (p + length w ≤ at m)) →
    Awaits 0 at count groups (put_at draft p w) (put_at full p w)
await_both at count groups draft full w p a fits clear =
    let size = a.size in
    let fits_ : p + length w ≤ length draft = omega (arith, fits, size) in
    record {
      size = length-put_at draft w p fits_ ∙ size ∙ sym (length-put_at full w p fits);
      free = λ x v. (let behind = v.behind in
          let before = v.before in
          byte_stays draft w p x fits_ (⊎_elim (λ (y : at v.node + 6 * count v.node ≤ p). inl (omega (arith, y, before))) (λ (y : p + length w ≤ at v.node). inr (omega (arith, y, behind))) (clear v.node v.among (omega (arith, behind, before))))
          ∙ a.free x v);
      held = λ m i later among h. byte_stays full w p (at m + i) fits (⊎_elim (λ (y : at m + 6 * count m ≤ p). inl (omega (arith, y, h))) (λ (y : p + length w ≤ at m). inr (omega (arith, y))) (clear m among (omega (arith, h)))) ∙ a.held m i later among h;
      rest = λ x. ⊎_elim
          (λ (v : IsAwaited 0 at count x). inl v)
          (λ (e : get_or draft x 0 ≡ get_or full x 0). inr (⊎_elim
          (λ (v : (i : ℕ) × (i < length w) × (x ≡ p + i) × (get_or (put_at draft p w) x 0 ≡ get_or w i 0)). v.3 ∙ sym (ap (λ (j : ℕ). get_or (put_at full p w) j 0) v.2 ∙ put_at_here full w p v.0 fits v.1))
          (λ (v : ((x + 1 ≤ p) ⊎ (p + length w ≤ x)) × (get_or (put_at draft p w) x 0 ≡ get_or draft x 0)). v.1 ∙ e ∙ sym (byte_stays full w p x fits v.0))
          (put_or draft w p x fits_)))
          (a.rest x);
    }

-- those of a node are written, with what comes behind them
module _ (from from_ : ℕ) (at at_ count count_ : ℕ → ℕ) (groups draft full full_ w : List ℕ) (n : ℕ) (a : Awaits from at count groups draft full)
    (node : n < 341) (none : from_ ≤ n → count_ n ≡ 0) (others : OthersWait at at_ count count_ n)
    (left : (m : ℕ) → m ≢ n → (from ≤ m → from_ ≤ m) × (from_ ≤ m → from ≤ m))
    (fits : at n + length w ≤ length full) (all : 6 * count n ≤ length w) (clear : IsClear at count n (at n) (length w)) (size_ : length full_ ≡ length full)
    (put : (i : ℕ) → i < length w → get_or full_ (at n + i) 0 ≡ get_or w i 0)
    (same : (x : ℕ) → (x + 1 ≤ at n) ⊎ (at n + length w ≤ x) → get_or full_ x 0 ≡ get_or full x 0) where
  fits_ : at n + length w ≤ length draft
  fits_ = let size = a.size in omega (arith, fits, size)

  outside : (m i : ℕ) → m < 341 → m ≢ n → i < 6 * count m → (at m + i + 1 ≤ at n) ⊎ (at n + length w ≤ at m + i)
  outside m i among d h = ⊎_elim (λ (y : at m + 6 * count m ≤ at n). inl (omega (arith, y, h))) (λ (y : at n + length w ≤ at m). inr (omega (arith, y))) (clear m among d (omega (arith, h)))

  another : (m : ℕ) → from_ ≤ m → 0 < count_ m → m ≢ n
  another m later some = λ e. let e_ = ap count_ e in let z = none (omega (arith, later, e)) in omega (arith, z, some, e_)

  free_written : (x : ℕ) → IsAwaited from_ at_ count_ x → get_or (put_at draft (at n) w) x 0 ≡ 0
  free_written x v =
      let behind = v.behind in
      let before = v.before in
      let d = another v.node v.later (omega (arith, behind, before)) in
      let others_ = others v.node d in
      let at_is = others_.0 in
      let count_is = others_.1 in
      let i : ℕ = x - at v.node in
      let x_is : at v.node + i ≡ x = omega (arith, behind, at_is) in
      let h : i < 6 * count v.node = omega (arith, before, behind, at_is, count_is) in
      let out = outside v.node i v.among d h in
      ap (λ (j : ℕ). get_or (put_at draft (at n) w) j 0) (sym x_is)
      ∙ byte_stays draft w (at n) (at v.node + i) fits_ out
      ∙ a.free (at v.node + i) (record { node = v.node; later = (left v.node d).1 v.later; among = v.among; behind = omega arith; before = omega (arith, h) })

  rest_written : (x : ℕ) → IsAwaited from_ at_ count_ x ⊎ (get_or (put_at draft (at n) w) x 0 ≡ get_or full_ x 0)
  rest_written x = ⊎_elim
      (λ (v : (i : ℕ) × (i < length w) × (x ≡ at n + i) × (get_or (put_at draft (at n) w) x 0 ≡ get_or w i 0)). inr (v.3 ∙ sym (ap (λ (j : ℕ). get_or full_ j 0) v.2 ∙ put v.0 v.1)))
      (λ (v : ((x + 1 ≤ at n) ⊎ (at n + length w ≤ x)) × (get_or (put_at draft (at n) w) x 0 ≡ get_or draft x 0)). ⊎_elim
      (λ (u : IsAwaited from at count x).
      let behind = u.behind in
      let before = u.before in
      let d : u.node ≢ n = λ e. (let at_is = ap at e in let count_is = ap count e in ⊎_elim (λ (y : x + 1 ≤ at n). omega (arith, y, behind, at_is)) (λ (y : at n + length w ≤ x). omega (arith, y, before, at_is, count_is, all)) v.0) in
      let others_ = others u.node d in
      let at_is = others_.0 in
      let count_is = others_.1 in
      inl (record { node = u.node; later = (left u.node d).0 u.later; among = u.among; behind = omega (arith, behind, at_is); before = omega (arith, before, at_is, count_is) }))
      (λ (e : get_or draft x 0 ≡ get_or full x 0). inr (v.1 ∙ e ∙ sym (same x v.0)))
      (a.rest x))
      (put_or draft w (at n) x fits_)

  pub await_write : Awaits from_ at_ count_ groups (put_at draft (at n) w) full_
  await_write = record {
    size = length-put_at draft w (at n) fits_ ∙ a.size ∙ sym size_;
    free = free_written;
    held = λ m i later among h. (let d = another m later (omega (arith, h)) in
        let others_ = others m d in
        let count_is = others_.1 in
        let old : i < 6 * count m = omega (arith, h, count_is) in
        ap (λ (k : ℕ). get_or full_ (k + i) 0) others_.0
        ∙ same (at m + i) (outside m i among d old)
        ∙ a.held m i ((left m d).1 later) among old);
    rest = rest_written;
  }

-- nothing waits
pub await_none : (at count : ℕ → ℕ) (groups draft : List ℕ) → ((m : ℕ) → count m ≡ 0) → Awaits 0 at count groups draft draft
await_none at count groups draft none = record {
  size = refl;
  free = λ x v. (let z = none v.node in let behind = v.behind in let before = v.before in absurd (omega (arith, z, behind, before)));
  held = λ m i later among h. (let z = none m in absurd (omega (arith, z, h)));
  rest = λ x. inr refl;
}

pub all_written : (at count : ℕ → ℕ) (groups draft full : List ℕ) (n : ℕ) → 341 ≤ n → Awaits n at count groups draft full → draft ≡ full
all_written at count groups draft full n last a = ext_get_or 0 draft full a.size (λ i h. ⊎_elim
    (λ (v : IsAwaited n at count i). let later = v.later in let among = v.among in absurd (omega (arith, last, later, among)))
    (λ (e : get_or draft i 0 ≡ get_or full i 0). e)
    (a.rest i))
