-- `text::same` meets its contract: the library compares head by head too. Assumes nothing.
use Rattle.std.proofs.Common.{◌≡◌, refl, ap, ◌∙◌, Bool, ◌&&◌, List, [], ◌∷◌, ℕ, eqb}
use Rattle.std.specs.Str.{bytes_eq}
use Rattle.layout.specs.Memory.{same_bytes}
use Rattle.text.proofs.same.Goals as goal

pointwise_same : (k l : List ℕ) → bytes_eq k l ≡ same_bytes k l
unfolding same_bytes
pointwise_same [] [] = refl
pointwise_same [] (y ∷ l) = refl
pointwise_same (x ∷ k) [] = refl
pointwise_same (x ∷ k) (y ∷ l) = ap (λ (b : Bool). eqb x y && b) (pointwise_same k l)

pub returns : goal.returns
returns c = c.eq.ensures ∙ pointwise_same c.args.a.now c.args.b.now
