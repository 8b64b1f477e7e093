-- A printed line, put after what waits. Assumes nothing.
use mathlib.Core.Path.{◌≡◌, ap, ◌∙◌}
use mathlib.Core.List.{List, [], ◌∷◌, ◌++◌, append_assoc}
use Prim.Native.Nat.{ℕ, ◌^◌, ◌<◌}
use Rattle.text.specs.Decimal.{shown_before}
use Rattle.text.proofs.ShownLaws.{shown-append}
use Rattle.listing.specs.Listing.{printed}

-- a number and a byte after others
put : (out : List ℕ) (n b : ℕ) (after : List ℕ) → n < 2 ^ 64 → ((out ++ shown_before n []) ++ (b ∷ [])) ++ after ≡ out ++ shown_before n (b ∷ after)
put out n b after h =
    append_assoc (out ++ shown_before n []) (b ∷ []) after ∙ append_assoc out (shown_before n []) (b ∷ after) ∙ ap (λ (l : List ℕ). out ++ l) (shown-append n h (b ∷ after))

-- three of them
three : (out : List ℕ) (p a n : ℕ) → p < 2 ^ 64 → a < 2 ^ 64 → n < 2 ^ 64
    → (((((out ++ shown_before p []) ++ (44 ∷ [])) ++ shown_before a []) ++ (44 ∷ [])) ++ shown_before n []) ++ (10 ∷ []) ≡ out ++ printed p a n
unfolding printed
three out p a n hp ha hn =
    let l : List ℕ = (out ++ shown_before p []) ++ (44 ∷ []) in
    let m : List ℕ = (l ++ shown_before a []) ++ (44 ∷ []) in
    append_assoc m (shown_before n []) (10 ∷ []) ∙ ap (λ (r : List ℕ). m ++ r) (shown-append n hn (10 ∷ []))
    ∙ put l a 44 (shown_before n (10 ∷ [])) ha ∙ put out p 44 (shown_before a (44 ∷ shown_before n (10 ∷ []))) hp

-- one step after the other
pub line-printed : (out o₁ o₂ o₃ o₄ o₅ o₆ : List ℕ) (p a n x y : ℕ) → o₁ ≡ out ++ shown_before p [] → o₂ ≡ o₁ ++ (44 ∷ []) → x ≡ a → o₃ ≡ o₂ ++ shown_before x [] → o₄ ≡ o₃ ++ (44 ∷ [])
    → y ≡ n → o₅ ≡ o₄ ++ shown_before y [] → o₆ ≡ o₅ ++ (10 ∷ []) → p < 2 ^ 64 → a < 2 ^ 64 → n < 2 ^ 64 → o₆ ≡ out ++ printed p a n
line-printed out o₁ o₂ o₃ o₄ o₅ o₆ p a n x y h₁ h₂ e h₃ h₄ f h₅ h₆ hp ha hn = rw (h₆, h₅, f, h₄, h₃, e, h₂, h₁) (three out p a n hp ha hn)
