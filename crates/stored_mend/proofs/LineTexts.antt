-- Lines that are written one by one.
use Rattle.std.proofs.Common.{◌≡◌, sym, ap, subst, ◌∙◌, ℕ, ◌+◌, ◌<◌, List, [], ◌∷◌, ◌++◌, length, take, drop, get_or, flat_map, append-nil, Option}
use Rattle.std.proofs.lemmas.Grind.{flat_map-append}
use Rattle.std.proofs.lemmas.List.{take-append-drop, take_more}
use Rattle.std.proofs.lemmas.List.Concat.{flat_map-cons}
use Rattle.std.specs.Io.KnownBytes.{append_known}
use Rattle.reply_text.proofs.Pieces.{append_known-twice, less_behind, less_front}
use Rattle.reply_text.specs.WroteLess.{WroteLess}

module _ {A : Type 0} (text : A → List ℕ) (xs : List A) (i : ℕ) (d : A) (h : i < length xs) where
  item_more : flat_map text (take (i + 1) xs) ≡ flat_map text (take i xs) ++ text (get_or xs i d)
  item_more =
      ap (flat_map text) (take_more xs i d h)
      ∙ flat_map-append text (take i xs) (get_or xs i d ∷ [])
      ∙ ap (λ t. flat_map text (take i xs) ++ t) (flat_map-cons text (get_or xs i d) [] ∙ append-nil (text (get_or xs i d)))

  item_whole : flat_map text xs ≡ (flat_map text (take i xs) ++ text (get_or xs i d)) ++ flat_map text (drop (i + 1) xs)
  item_whole =
      ap (flat_map text) (sym (take-append-drop (i + 1) xs))
      ∙ flat_map-append text (take (i + 1) xs) (drop (i + 1) xs)
      ∙ ap (λ t. t ++ flat_map text (drop (i + 1) xs)) item_more

  -- one line more
  pub held_item : (h0 : Option (List ℕ)) {h1 h2 : Option (List ℕ)} → h1 ≡ append_known h0 (flat_map text (take i xs)) → h2 ≡ append_known h1 (text (get_or xs i d)) → h2 ≡ append_known h0 (flat_map text (take (i + 1) xs))
  held_item h0 e f =
      f ∙ ap (λ h. append_known h (text (get_or xs i d))) e ∙ append_known-twice h0 (flat_map text (take i xs)) (text (get_or xs i d)) ∙ ap (append_known h0) (sym item_more)

  -- a line was not written to its end
  pub less_item : (h0 h1 h2 : Option (List ℕ)) → h1 ≡ append_known h0 (flat_map text (take i xs)) → WroteLess h1 h2 (text (get_or xs i d)) → WroteLess h0 h2 (flat_map text xs)
  less_item h0 h1 h2 e w =
      subst (λ all. WroteLess h0 h2 all) (sym item_whole)
      (less_front h0 h2 (flat_map text (take i xs) ++ text (get_or xs i d)) (flat_map text (drop (i + 1) xs))
      (less_behind h0 h1 h2 (flat_map text (take i xs)) (text (get_or xs i d)) e w))
