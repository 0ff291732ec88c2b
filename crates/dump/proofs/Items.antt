-- Texts of items that are written one by one.
use Rattle.std.proofs.Common.{◌≡◌, sym, ap, subst, ◌∙◌, ℕ, ◌+◌, ◌<◌, List, [], ◌∷◌, ◌++◌, length, take, drop, get_or, flat_map, append_assoc, append-nil, Option, Ok, Err, Result}
use Rattle.std.specs.Prelude.{⊤}
use Rattle.std.proofs.lemmas.Grind.{flat_map-append}
use Rattle.std.proofs.lemmas.List.{take-append-drop, take_more}
use Rattle.std.proofs.lemmas.List.Concat.{flat_map-cons}
use Rattle.std.specs.Io.KnownBytes.{append_known}
use Rattle.reply_text.proofs.Pieces.{append_known-twice, less_front, less_behind}
use Rattle.reply_text.specs.WroteLess.{WroteLess}
use Rattle.afl_base.specs.declared.fault.Fault.{Fault}
use Rattle.afl_base.specs.declared.fault.Fault.TheVariants.{Flash, Sink}
use Rattle.session_model.specs.Steps.{WrotePart}
use Rattle.dump.specs.Appends.{AppendsText}

-- ---- two texts, one behind the other

pub held_behind : (h0 : Option (List ℕ)) {h1 h2 : Option (List ℕ)} (a b : List ℕ) → h1 ≡ append_known h0 a → h2 ≡ append_known h1 b → h2 ≡ append_known h0 (a ++ b)
held_behind h0 a b e f = f ∙ ap (λ h. append_known h b) e ∙ append_known-twice h0 a b

part_front : (h0 h1 : Option (List ℕ)) (a b : List ℕ) → WrotePart h0 h1 a → WrotePart h0 h1 (a ++ b)
part_front h0 h1 a b w = record {
  written = w.written;
  left = w.left ++ b;
  whole = ap (λ p. p ++ b) w.whole ∙ append_assoc w.written w.left b;
  held = w.held;
}

part_behind : (h0 h1 h2 : Option (List ℕ)) (a b : List ℕ) → h1 ≡ append_known h0 a → WrotePart h1 h2 b → WrotePart h0 h2 (a ++ b)
part_behind h0 h1 h2 a b e w = record {
  written = a ++ w.written;
  left = w.left;
  whole = ap (λ p. a ++ p) w.whole ∙ sym (append_assoc a w.written w.left);
  held = held_behind h0 a w.written e w.held;
}

-- the first was written
pub appends_behind : (r : Result ⊤ Fault) (h0 h1 h2 : Option (List ℕ)) (a b : List ℕ) → h1 ≡ append_known h0 a → AppendsText r h1 h2 b → AppendsText r h0 h2 (a ++ b)
appends_behind (Ok done) h0 h1 h2 a b e w = held_behind h0 a b e w
appends_behind (Err Sink) h0 h1 h2 a b e w = less_behind h0 h1 h2 a b e w
appends_behind (Err Flash) h0 h1 h2 a b e w = part_behind h0 h1 h2 a b e w

-- the first was not written to its end
pub appends_front : (stop : Fault) (h0 h1 : Option (List ℕ)) (a b : List ℕ) → AppendsText (Err stop) h0 h1 a → AppendsText (Err stop) h0 h1 (a ++ b)
appends_front Sink h0 h1 a b w = less_front h0 h1 a b w
appends_front Flash h0 h1 a b w = part_front h0 h1 a b w

-- ---- items

module _ {A : Type 0} (text : A → List ℕ) (xs : List A) (i : ℕ) (d : A) (h : i < length xs) where
  item_more : flat_map text (take (i + 1) xs) ≡ flat_map text (take i xs) ++ text (get_or xs i d)
  item_more =
      ap (flat_map text) (take_more xs i d h)
      ∙ flat_map-append text (take i xs) (get_or xs i d ∷ [])
      ∙ ap (λ t. flat_map text (take i xs) ++ t) (flat_map-cons text (get_or xs i d) [] ∙ append-nil (text (get_or xs i d)))

  item_whole : flat_map text xs ≡ (flat_map text (take i xs) ++ text (get_or xs i d)) ++ flat_map text (drop (i + 1) xs)
  item_whole =
      ap (flat_map text) (sym (take-append-drop (i + 1) xs))
      ∙ flat_map-append text (take (i + 1) xs) (drop (i + 1) xs)
      ∙ ap (λ t. t ++ flat_map text (drop (i + 1) xs)) item_more

  -- one item more
  pub held_item : (h0 : Option (List ℕ)) {h1 h2 : Option (List ℕ)} → h1 ≡ append_known h0 (flat_map text (take i xs)) → h2 ≡ append_known h1 (text (get_or xs i d)) → h2 ≡ append_known h0 (flat_map text (take (i + 1) xs))
  held_item h0 e f = held_behind h0 (flat_map text (take i xs)) (text (get_or xs i d)) e f ∙ ap (append_known h0) (sym item_more)

  -- an item was not written to its end
  pub appends_item : (stop : Fault) (h0 h1 h2 : Option (List ℕ)) → h1 ≡ append_known h0 (flat_map text (take i xs)) → AppendsText (Err stop) h1 h2 (text (get_or xs i d)) → AppendsText (Err stop) h0 h2 (flat_map text xs)
  appends_item stop h0 h1 h2 e w =
      subst (AppendsText (Err stop) h0 h2) (sym item_whole)
      (appends_front stop h0 h2 (flat_map text (take i xs) ++ text (get_or xs i d)) (flat_map text (drop (i + 1) xs))
      (appends_behind (Err stop) h0 h1 h2 (flat_map text (take i xs)) (text (get_or xs i d)) e w))

  pub less_item : (h0 h1 h2 : Option (List ℕ)) → h1 ≡ append_known h0 (flat_map text (take i xs)) → WroteLess h1 h2 (text (get_or xs i d)) → WroteLess h0 h2 (flat_map text xs)
  less_item h0 h1 h2 e w = appends_item Sink h0 h1 h2 e w
