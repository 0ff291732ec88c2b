-- Two comparisons and the AND of both.
use Rattle.std.proofs.Common.{◌≡◌, Bool, ◌&&◌, ◌<◌, ◌≤◌, List, [], ◌∷◌, length, slice_index_or, ap, ◌∙◌, refl, arith}
use Rattle.db_model.specs.declared.values.Value.{Value}
use Rattle.lvm.specs.declared.instruction.Instruction.{Instruction}
use Rattle.lvm.specs.declared.instruction.Instruction.TheVariants.{And}
use Rattle.lvm.specs.Evaluate.{Item, Truth, evaluated, verdict}

-- a list of seven items, by its items
seven : (xs : List Instruction) (a b c d e f g : Instruction) → 7 ≤ length xs → length xs < 8 → a ≡ slice_index_or xs 0 a → b ≡ slice_index_or xs 1 b → c ≡ slice_index_or xs 2 c → d ≡ slice_index_or xs 3 d
    → e ≡ slice_index_or xs 4 e → f ≡ slice_index_or xs 5 f → g ≡ slice_index_or xs 6 g → xs ≡ a ∷ b ∷ c ∷ d ∷ e ∷ f ∷ g ∷ []
seven (a' ∷ b' ∷ c' ∷ d' ∷ e' ∷ f' ∷ g' ∷ []) a b c d e f g least most e0 e1 e2 e3 e4 e5 e6 = rw (e0, e1, e2, e3, e4, e5, e6) refl
seven (a' ∷ b' ∷ c' ∷ d' ∷ e' ∷ f' ∷ g' ∷ h' ∷ xs) a b c d e f g least most e0 e1 e2 e3 e4 e5 e6 = absurd (omega (arith, most))
seven (a' ∷ b' ∷ c' ∷ d' ∷ e' ∷ f' ∷ []) a b c d e f g least most e0 e1 e2 e3 e4 e5 e6 = absurd (omega (arith, least))
seven (a' ∷ b' ∷ c' ∷ d' ∷ e' ∷ []) a b c d e f g least most e0 e1 e2 e3 e4 e5 e6 = absurd (omega (arith, least))
seven (a' ∷ b' ∷ c' ∷ d' ∷ []) a b c d e f g least most e0 e1 e2 e3 e4 e5 e6 = absurd (omega (arith, least))
seven (a' ∷ b' ∷ c' ∷ []) a b c d e f g least most e0 e1 e2 e3 e4 e5 e6 = absurd (omega (arith, least))
seven (a' ∷ b' ∷ []) a b c d e f g least most e0 e1 e2 e3 e4 e5 e6 = absurd (omega (arith, least))
seven (a' ∷ []) a b c d e f g least most e0 e1 e2 e3 e4 e5 e6 = absurd (omega (arith, least))
seven [] a b c d e f g least most e0 e1 e2 e3 e4 e5 e6 = absurd (omega (arith, least))

pub both : (a b c d e f : Instruction) (values : List Value) (x y : Bool) → ((s : List Item) → evaluated (a ∷ b ∷ c ∷ []) values s ≡ Truth x ∷ s) → ((s : List Item) → evaluated (d ∷ e ∷ f ∷ []) values s ≡ Truth y ∷ s)
    → verdict (evaluated (a ∷ b ∷ c ∷ d ∷ e ∷ f ∷ And ∷ []) values []) ≡ (x && y)
both a b c d e f values x y first second =
    ap (λ (s : List Item). verdict (evaluated (d ∷ e ∷ f ∷ And ∷ []) values s)) (first [])
    ∙ ap (λ (s : List Item). verdict (evaluated (And ∷ []) values s)) (second (Truth x ∷ []))

-- what they are together
pub both_of : (xs : List Instruction) (a b c d e f g : Instruction) (values : List Value) (x y : Bool) → 7 ≤ length xs → length xs < 8 → a ≡ slice_index_or xs 0 a → b ≡ slice_index_or xs 1 b → c ≡ slice_index_or xs 2 c
    → d ≡ slice_index_or xs 3 d → e ≡ slice_index_or xs 4 e → f ≡ slice_index_or xs 5 f → g ≡ slice_index_or xs 6 g → g ≡ And → ((s : List Item) → evaluated (a ∷ b ∷ c ∷ []) values s ≡ Truth x ∷ s)
    → ((s : List Item) → evaluated (d ∷ e ∷ f ∷ []) values s ≡ Truth y ∷ s) → verdict (evaluated xs values []) ≡ (x && y)
both_of xs a b c d e f g values x y least most e0 e1 e2 e3 e4 e5 e6 last first second =
    ap (λ (is : List Instruction). verdict (evaluated is values [])) (seven xs a b c d e f g least most e0 e1 e2 e3 e4 e5 e6)
    ∙ ap (λ (i : Instruction). verdict (evaluated (a ∷ b ∷ c ∷ d ∷ e ∷ f ∷ i ∷ []) values [])) last
    ∙ both a b c d e f values x y first second
