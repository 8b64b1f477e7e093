-- A line taken apart at its commas by the library's split. Assumes nothing.
use mathlib.Core.Path.{◌≡◌, refl, sym, ap, subst, ◌∙◌}
use mathlib.Core.Bool.{Bool, true, false, cond, false≢true}
use mathlib.Core.List.{List, [], ◌∷◌, ◌++◌}
use mathlib.Core.Option.{none}
use Prim.Native.Nat.{ℕ}
use native.Mathlib.Omega.{arith}
use lib.Dec.{eqb}
use lib.ListN.{length}
use denote.Ref.{Bor}
use denote.Param.Members.{Mut}
use Rattle.std.specs.Prelude.{Option, Some, None, is_some}
use Rattle.std.specs.Bool.{MatchBool}
use Rattle.std.specs.Fn.{ComputesKey, CalledAt}
use Rattle.std.specs.List.{All, slice_split, onto_first, IsFirstMatchOrLen}
use Rattle.std.specs.Slice.Iter as slice
use Rattle.std.specs.declared.slice.Split.{Split}
use Rattle.std.proofs.lemmas.Fn.{always_returns_same}
use Rattle.std.proofs.lemmas.List.Splits.{slice_split_none, slice_split_at}
use Rattle.std.proofs.lemmas.Grind.{common_steps}
use Rattle.text.specs.Parts.{in_front, parted_by}
use Rattle.text.specs.Decimal.{number}
use Rattle.script_lines.specs.Lines.{call_number, numbered, fielded}

-- the library parts a list as the rules do
front_same : (x : ℕ) (fs : List (List ℕ)) → onto_first x fs ≡ in_front x fs
unfolding in_front
front_same x [] = refl
front_same x (f ∷ fs) = refl

split_same : (s : ℕ) (l : List ℕ) → slice_split (λ b. eqb b s) l ≡ parted_by s l
unfolding parted_by
split_same s [] = refl
split_same s (x ∷ l) = rw (split_same s l, front_same x (parted_by s l))

-- up to a byte s, or whole, and what follows it
parted_first : (s : ℕ) (l x rest : List ℕ) (done : Bool) → MatchBool done (l ≡ x) ((y : ℕ) × (l ≡ x ++ (y ∷ rest))) → IsFirstMatchOrLen (λ b. eqb b s) l (length x)
    → parted_by s l ≡ x ∷ cond done [] (parted_by s rest)
parted_first s l x rest true e h =
    sym (split_same s l) ∙ ap (slice_split (λ b. eqb b s)) e
    ∙ slice_split_none (λ b. eqb b s) x (λ k d i. let a = h.0 k d (omega arith) i in rw e at a)
parted_first s l x rest false e h =
    let before : All (λ z. eqb z s ≡ false) x = λ k d i. let a = h.0 k d (omega arith) i in let b = e.1 in grind (arith, common_steps) in
    let hit : eqb e.0 s ≡ true = let b = e.1 in let a = h.1 (grind (arith, common_steps)) e.0 in grind (arith, common_steps) in
    sym (split_same s l) ∙ ap (slice_split (λ b. eqb b s)) e.1 ∙ slice_split_at (λ b. eqb b s) x e.0 rest before hit ∙ ap (λ (ps : List (List ℕ)). x ∷ ps) (split_same s rest)

-- WHAT IS LEFT of a split at commas
module _ {F : Type 0} (g : Mut F (Bor ℕ × Unit {0}) Bool) where
  pub record Left (t : Split ℕ F) (ps : List (List ℕ)) : Type 0 where
    pub parts : ps ≡ cond (slice.split_done t) [] (parted_by 44 (slice.split_rest t))
    pub tests : ComputesKey g (λ b. eqb b 44) (slice.split_callee t)

  pub left_all : (t : Split ℕ F) (f : F) (l : List ℕ) → slice.split_rest t ≡ l → slice.split_done t ≡ false → slice.split_callee t ≡ f
      → ((x : ℕ) (b : Bool) (q : F) → CalledAt g f x b q → (q ≡ f) × (b ≡ eqb x 44)) → Left t (parted_by 44 l)
  left_all t f l r d c h =
      record {
        parts = rw (d, r);
        tests = subst (ComputesKey g (λ b. eqb b 44)) (sym c)
            (always_returns_same g (λ a b. b ≡ eqb a.0.now 44) f (λ a b q k. let m = h a.0.now b q (record { shown = a.0; shows = refl; called = k }) in (m.1, m.0)));
      }

-- a part in front of others, if it is one
abbrev pub part_before : Option (Bor (List ℕ)) → List (List ℕ) → List (List ℕ)
part_before None ps = []
part_before (Some x) ps = x.now ∷ ps

module _ {F : Type 0} (g : Mut F (Bor ℕ × Unit {0}) Bool) where
  pub left_next : (s t : Split ℕ F) (r : Option (Bor (List ℕ))) (ps : List (List ℕ)) → Left g s ps → slice.split_steps g s r t → (qs : List (List ℕ)) × (ps ≡ part_before r qs) × Left g t qs
  left_next s t None ps l h = ([], l.parts ∙ rw h.0, record { parts = rw (h.1, h.0); tests = rw h.1 l.tests })
  left_next s t (Some x) ps l h =
      let k = h.2 (λ b. eqb b 44) l.tests in (
        cond (slice.split_done t) [] (parted_by 44 (slice.split_rest t)),
        l.parts ∙ rw h.0 (parted_first 44 (slice.split_rest s) x.now (slice.split_rest t) (slice.split_done t) h.1 k.1),
        record { parts = refl; tests = k.0 },
      )

  -- five of them
  pub left_five : (s₀ s₁ s₂ s₃ s₄ s₅ : Split ℕ F) (p₁ p₂ p₃ p₄ p₅ : Option (Bor (List ℕ))) (f : F) (l : List ℕ) → slice.split_steps g s₀ p₁ s₁ → slice.split_steps g s₁ p₂ s₂
      → slice.split_steps g s₂ p₃ s₃ → slice.split_steps g s₃ p₄ s₄ → slice.split_steps g s₄ p₅ s₅ → slice.split_rest s₀ ≡ l → slice.split_done s₀ ≡ false → slice.split_callee s₀ ≡ f
      → ((x : ℕ) (b : Bool) (q : F) → CalledAt g f x b q → (q ≡ f) × (b ≡ eqb x 44))
      → (ps : List (List ℕ)) × (parted_by 44 l ≡ part_before p₁ (part_before p₂ (part_before p₃ (part_before p₄ (part_before p₅ ps))))) × Left g s₅ ps
  left_five s₀ s₁ s₂ s₃ s₄ s₅ p₁ p₂ p₃ p₄ p₅ f l h₁ h₂ h₃ h₄ h₅ r d c k =
      let (q₁, e₁, l₁) = left_next s₀ s₁ p₁ (parted_by 44 l) (left_all g s₀ f l r d c k) h₁ in
      let (q₂, e₂, l₂) = left_next s₁ s₂ p₂ q₁ l₁ h₂ in
      let (q₃, e₃, l₃) = left_next s₂ s₃ p₃ q₂ l₂ h₃ in
      let (q₄, e₄, l₄) = left_next s₃ s₄ p₄ q₃ l₃ h₄ in
      let (q₅, e₅, l₅) = left_next s₄ s₅ p₅ q₄ l₄ h₅ in
      (q₅, e₁ ∙ ap (part_before p₁) (e₂ ∙ ap (part_before p₂) (e₃ ∙ ap (part_before p₃) (e₄ ∙ ap (part_before p₄) e₅))), l₅)

-- FEWER THAN FIVE PARTS, five, and more
module _ (l : List (List ℕ)) (p₁ p₂ p₃ p₄ p₅ : Option (Bor (List ℕ))) (ps : List (List ℕ)) (e : l ≡ part_before p₁ (part_before p₂ (part_before p₃ (part_before p₄ (part_before p₅ ps))))) where
  pub no_part : p₁ ≡ None → fielded l ≡ none
  unfolding fielded
  no_part h₁ = rw (e, h₁)

  module _ {n : Bor (List ℕ)} (h₁ : p₁ ≡ Some n) where
    pub one_part : p₂ ≡ None → fielded l ≡ none
    unfolding fielded
    one_part h₂ = rw (e, h₁, h₂)

    module _ {a : Bor (List ℕ)} (h₂ : p₂ ≡ Some a) where
      pub two_parts : p₃ ≡ None → fielded l ≡ none
      unfolding fielded
      two_parts h₃ = rw (e, h₁, h₂, h₃)

      module _ {b : Bor (List ℕ)} (h₃ : p₃ ≡ Some b) where
        pub three_parts : p₄ ≡ None → fielded l ≡ none
        unfolding fielded
        three_parts h₄ = rw (e, h₁, h₂, h₃, h₄)

        module _ {c : Bor (List ℕ)} (h₄ : p₄ ≡ Some c) where
          pub four_parts : p₅ ≡ None → fielded l ≡ none
          unfolding fielded
          four_parts h₅ = rw (e, h₁, h₂, h₃, h₄, h₅)

          -- with a sixth after them, or not
          module _ {d : Bor (List ℕ)} (h₅ : p₅ ≡ Some d) (p₆ : Option (Bor (List ℕ))) (qs : List (List ℕ)) (h₆ : ps ≡ part_before p₆ qs) where
            pub six_parts : is_some p₆ ≡ true → fielded l ≡ none
            unfolding fielded
            six_parts h = rw (e, h₁, h₂, h₃, h₄, h₅, h₆) (go p₆ h)
              where
                go : (p : Option (Bor (List ℕ))) → is_some p ≡ true → fielded (n.now ∷ a.now ∷ b.now ∷ c.now ∷ d.now ∷ part_before p qs) ≡ none
                go None t = absurd (false≢true t)
                go (Some x) t = refl

            pub five_parts : is_some p₆ ≡ false → fielded l ≡ numbered (call_number n.now) (number a.now) (number b.now) (number c.now) (number d.now)
            unfolding fielded
            five_parts h = rw (e, h₁, h₂, h₃, h₄, h₅, h₆) (go p₆ h)
              where
                go : (p : Option (Bor (List ℕ))) → is_some p ≡ false → fielded (n.now ∷ a.now ∷ b.now ∷ c.now ∷ d.now ∷ part_before p qs) ≡ numbered (call_number n.now) (number a.now) (number b.now) (number c.now) (number d.now)
                go None t = refl
                go (Some x) t = absurd (false≢true (sym t))
