-- Laws of texts of which a part went through a sink that gathers.
use Rattle.std.proofs.Common.{◌≡◌, ℕ, ◌<◌, List, [], ◌++◌, length, drop, Option, Some, None, refl, ap, subst, sym, ◌∙◌, append_assoc, arith, length-append}
use Rattle.std.proofs.lemmas.List.{append-nil, append_cancel_left, take-append-drop}
use Rattle.std.specs.Io.KnownBytes.{append_known}
use Rattle.padded.proofs.Facts.{some_same}
use Rattle.buffered_sink.specs.Handing.{Hands, WroteFront, front_of}
use Rattle.reply_text.proofs.Pieces.{append_known-nil, append_known-twice}
use Rattle.reply_text.specs.WroteLess.{WroteLess}

-- some bytes more went into a sink
pub record Grew (old new : Option (List ℕ)) : Type 0 where
  pub more : List ℕ
  pub held : new ≡ append_known old more

pub grew : (old new : Option (List ℕ)) → front_of old new ≡ old → Grew old new
grew None new e = record { more = []; held = e }
grew (Some xs) None e = absurd (cc)
grew (Some xs) (Some ys) e =
    let rest = drop (length xs) ys in
    record { more = rest; held = ap (λ zs. Some zs) (sym (take-append-drop (length xs) ys) ∙ ap (λ zs. zs ++ rest) (some_same _ xs e)) }

-- nothing more was handed on
abbrev pub front_unsent : (h0 h1 : Option (List ℕ)) (waits : List ℕ) → front_of h0 h1 ≡ h0 → WroteFront h0 h1 (append_known h1 waits)
front_unsent h0 h1 waits e =
    let g = grew h0 h1 e in
    record { written = g.more; left = waits; held = g.held; whole = refl }

-- what waited was handed on as far as the sink took it
abbrev pub front_sent : (h0 h1 h2 : Option (List ℕ)) (waited waits : List ℕ) → front_of h0 h1 ≡ h0 → Hands h1 h2 waited waits → WroteFront h0 h2 (append_known h1 waited)
front_sent h0 h1 h2 waited waits e h =
    let g = grew h0 h1 e in
    record {
      written = g.more ++ h.went;
      left = waits;
      held = h.held ∙ ap (λ k. append_known k h.went) g.held ∙ append_known-twice h0 g.more h.went;
      whole = ap (append_known h1) h.split ∙ sym (append_known-twice h1 h.went waits) ∙ ap (λ k. append_known k waits) (sym h.held);
    }

-- and it took all
pub all_sent : (h1 h2 : Option (List ℕ)) (waited waits : List ℕ) → waits ≡ [] → Hands h1 h2 waited waits → h2 ≡ append_known h1 waited
all_sent h1 h2 waited waits e h =
    h.held ∙ ap (append_known h1) (sym (h.split ∙ ap (λ ws. h.went ++ ws) e ∙ append-nil h.went))

pub none_left : (h0 h2 wanted : Option (List ℕ)) → (w : WroteFront h0 h2 wanted) → w.left ≡ [] → wanted ≡ h2
none_left h0 h2 wanted w e = w.whole ∙ ap (append_known h2) e ∙ append_known-nil h2

-- ---- a part of a text

-- what was written of it, and what was not
pub record Part (h0 h2 : Option (List ℕ)) (all : List ℕ) (some : Type 0) : Type 0 where
  pub written : List ℕ
  pub left : List ℕ
  pub whole : all ≡ written ++ left
  pub held : h2 ≡ append_known h0 written
  pub proper : some → 0 < length all → 0 < length left

pub front_part : (h0 h2 wanted : Option (List ℕ)) (all : List ℕ) → (w : WroteFront h0 h2 wanted) → wanted ≡ append_known h0 all → Part h0 h2 all (0 < length w.left)
front_part None h2 wanted all w e = record {
  written = [];
  left = all;
  whole = refl;
  held = w.held;
  proper = λ left some. some;
}
front_part (Some bytes) h2 wanted all w e =
    let same : Some (bytes ++ all) ≡ Some ((bytes ++ w.written) ++ w.left) = sym e ∙ w.whole ∙ ap (λ h. append_known h w.left) w.held in
    record {
      written = w.written;
      left = w.left;
      whole = append_cancel_left bytes all (w.written ++ w.left) (some_same (bytes ++ all) ((bytes ++ w.written) ++ w.left) same ∙ append_assoc bytes w.written w.left);
      held = w.held;
      proper = λ left some. left;
    }

-- the whole text was gathered, and some of it not handed on
pub less_of_all : (h0 h2 wanted : Option (List ℕ)) (all : List ℕ) → (w : WroteFront h0 h2 wanted) → wanted ≡ append_known h0 all → 0 < length w.left → 0 < length all → WroteLess h0 h2 all
less_of_all h0 h2 wanted all w e left some =
    let p = front_part h0 h2 wanted all w e in
    record { written = p.written; left = p.left; some = p.proper left some; whole = p.whole; held = p.held }

-- less than the text was gathered
pub less_of_less : (h0 h2 wanted : Option (List ℕ)) (all : List ℕ) → WroteFront h0 h2 wanted → WroteLess h0 wanted all → WroteLess h0 h2 all
less_of_less h0 h2 wanted all w l =
    let p = front_part h0 h2 wanted l.written w l.held in
    record {
      written = p.written;
      left = p.left ++ l.left;
      some = omega (arith, l.some, length-append p.left l.left);
      whole = l.whole ∙ ap (λ xs. xs ++ l.left) p.whole ∙ append_assoc p.written p.left l.left;
      held = p.held;
    }

-- ---- a text that is written to a sink which gathers, and in which nothing waited

-- it was not gathered whole
pub less_unsent : (h0 h1 : Option (List ℕ)) (none waits all : List ℕ) → none ≡ [] → front_of h0 h1 ≡ h0 → WroteLess (append_known h0 none) (append_known h1 waits) all → WroteLess h0 h1 all
less_unsent h0 h1 none waits all e g l =
    less_of_less h0 h1 (append_known h1 waits) all (front_unsent h0 h1 waits g) (subst (λ h. WroteLess h (append_known h1 waits) all) (ap (append_known h0) e ∙ append_known-nil h0) l)

-- it was gathered whole, and not handed on whole
pub less_sent : (h0 h1 h2 : Option (List ℕ)) (none waited waits all : List ℕ) → none ≡ [] → front_of h0 h1 ≡ h0 → Hands h1 h2 waited waits → 0 < length waits
    → append_known h1 waited ≡ append_known (append_known h0 none) all → 0 < length all → WroteLess h0 h2 all
less_sent h0 h1 h2 none waited waits all e g h left is some =
    less_of_all h0 h2 (append_known h1 waited) all (front_sent h0 h1 h2 waited waits g h) (is ∙ ap (λ k. append_known k all) (ap (append_known h0) e ∙ append_known-nil h0)) left some
