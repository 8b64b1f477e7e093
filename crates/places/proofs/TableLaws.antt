-- The header, the entries and the changes: figures, values, statuses and parents, read and stored. Assumes nothing.
use mathlib.Core.Path.{◌≡◌, refl, sym, ap, ◌∙◌, fun_ext}
use mathlib.Core.List.{List, [], ◌∷◌}
use Prim.Native.Nat.{ℕ, zero, suc, ◌+◌, ◌*◌, ◌/◌, ◌%◌, ◌^◌, ◌<◌}
use native.Mathlib.Nat.{mod-lt, add-zero}
use native.Mathlib.Omega.{arith}
use lib.ListN.{length, get_or, set}
use lib.Seq.{get_or-set_same, get_or-set_other}
use Rattle.rules.specs.Base.{put, table}
use Rattle.rules.proofs.BaseLaws.{put_same, put_other}
use Rattle.layout.specs.Codec.{head_byte, value_byte, change_byte, head_section, value_section, change_section}
use Rattle.layout.proofs.RecordLaws.{placed, cell_read}
use Rattle.cells.specs.Part.{part, patch}
use Rattle.cells.specs.Num.{le, num}
use Rattle.cells.proofs.NumLaws.{length-le, le-byte, num-le}
use Rattle.places.proofs.PlaceLaws.{Stored, place_read, by_places, cell_store, place_store}

-- the bytes of a figure
abbrev figure_bytes : List ℕ → ℕ → List ℕ
figure_bytes fs k = le 2 (get_or fs k 0)

-- of an entry's value
abbrev value_bytes : (ℕ → ℕ) → ℕ → List ℕ
value_bytes v e = le 4 (v e)

-- of a change
abbrev change_bytes : (ℕ → ℕ) → (ℕ → ℕ) → ℕ → List ℕ
change_bytes st pa c = st c ∷ pa c ∷ 0 ∷ 0 ∷ []

-- the header by its places
pub head_places : (fs : List ℕ) → head_section fs ≡ table 64 0 (placed 2 (figure_bytes fs))
unfolding head_section head_byte placed
head_places fs = ap (table 64 0) (fun_ext (λ i. sym (le-byte 2 (i % 2) (get_or fs (i / 2) 0) (mod-lt i (omega arith)))))

-- the entries
pub value_places : (v : ℕ → ℕ) → value_section v ≡ table 1024 0 (placed 4 (value_bytes v))
unfolding value_section value_byte placed
value_places v = ap (table 1024 0) (fun_ext (λ i. sym (le-byte 4 (i % 4) (v (i / 4)) (mod-lt i (omega arith)))))

-- the two bytes that are 0
past : (a b j : ℕ) → get_or (a ∷ b ∷ []) j 0 ≡ get_or (a ∷ b ∷ 0 ∷ 0 ∷ []) j 0
past a b zero = refl
past a b (suc zero) = refl
past a b (suc (suc zero)) = refl
past a b (suc (suc (suc zero))) = refl
past a b (suc (suc (suc (suc j)))) = refl

-- the changes
pub change_places : (st pa : ℕ → ℕ) → change_section st pa ≡ table 1024 0 (placed 4 (change_bytes st pa))
unfolding change_section change_byte placed
change_places st pa = ap (table 1024 0) (fun_ext (λ i. past (st (i / 4)) (pa (i / 4)) (i % 4)))

-- FIGURES: one read
pub figure_read : (s fs : List ℕ) (k : ℕ) → s ≡ head_section fs → k < 32 → get_or fs k 0 < 65536 → num (part s (k * 2) 2) ≡ get_or fs k 0
figure_read s fs k e h t =
    ap (λ (r : List ℕ). num (part r (k * 2) 2)) (e ∙ head_places fs)
    ∙ ap num (place_read 2 32 (figure_bytes fs) k h (length-le 2 (get_or fs k 0))) ∙ num-le 2 (get_or fs k 0) t

-- one stored
pub figure_store : (s fs : List ℕ) (k v : ℕ) → s ≡ head_section fs → k < 32 → k < length fs → patch s (k * 2) (le 2 v) ≡ head_section (set fs k v)
figure_store s fs k v e h t =
    ap (λ (r : List ℕ). patch r (k * 2) (le 2 v)) (e ∙ head_places fs)
    ∙ place_store 2 32 (omega arith) (figure_bytes fs) (figure_bytes (set fs k v)) k (le 2 v) h (length-le 2 v)
    (record { here = ap (le 2) (get_or-set_same fs k v 0 t); there = λ j ne. ap (le 2) (get_or-set_other fs k j v 0 ne) })
    ∙ sym (head_places (set fs k v))

-- VALUES: one read
pub value_read : (s : List ℕ) (v : ℕ → ℕ) (e : ℕ) → s ≡ value_section v → e < 256 → v e < 2 ^ 32 → num (part s (e * 4) 4) ≡ v e
value_read s v e q h t =
    ap (λ (r : List ℕ). num (part r (e * 4) 4)) (q ∙ value_places v)
    ∙ ap num (place_read 4 256 (value_bytes v) e h (length-le 4 (v e))) ∙ num-le 4 (v e) t

-- one stored
pub value_store : (s : List ℕ) (v : ℕ → ℕ) (e x : ℕ) → s ≡ value_section v → e < 256 → patch s (e * 4) (le 4 x) ≡ value_section (put v e x)
value_store s v e x q h =
    ap (λ (r : List ℕ). patch r (e * 4) (le 4 x)) (q ∙ value_places v)
    ∙ place_store 4 256 (omega arith) (value_bytes v) (value_bytes (put v e x)) e (le 4 x) h (length-le 4 x)
    (record { here = ap (le 4) (put_same v e x); there = λ j ne. ap (le 4) (put_other v e x j ne) })
    ∙ sym (value_places (put v e x))

-- STATUSES AND PARENTS: the statuses of the changes that there can be are all that counts
pub change_ext : (st st' pa : ℕ → ℕ) → ((c : ℕ) → c < 256 → st c ≡ st' c) → change_section st pa ≡ change_section st' pa
change_ext st st' pa f = change_places st pa
    ∙ by_places 4 256 (omega arith) (change_bytes st pa) (change_bytes st' pa) (λ c h. ap (λ (x : ℕ). x ∷ pa c ∷ 0 ∷ 0 ∷ []) (f c h)) ∙ sym (change_places st' pa)

module _ (s : List ℕ) (st pa : ℕ → ℕ) (c : ℕ) (e : s ≡ change_section st pa) (h : c < 256) where
  -- byte j of a change
  pub change_read : (j : ℕ) → j < 4 → get_or s (c * 4 + j) 0 ≡ get_or (change_bytes st pa c) j 0
  change_read j t = ap (λ (r : List ℕ). get_or r (c * 4 + j) 0) (e ∙ change_places st pa) ∙ cell_read 4 256 (change_bytes st pa) c j h t

  -- its status
  pub status_read : get_or s (c * 4) 0 ≡ st c
  status_read = ap (λ (i : ℕ). get_or s i 0) (sym (add-zero (c * 4))) ∙ change_read 0 (omega arith)

  -- its parent
  pub parent_read : get_or s (c * 4 + 1) 0 ≡ pa c
  parent_read = change_read 1 (omega arith)

  -- byte j stored
  change_store : (st' pa' : ℕ → ℕ) (j v : ℕ) → j < 4 → Stored (change_bytes st pa) c (set (change_bytes st pa c) j v) (change_bytes st' pa')
      → set s (c * 4 + j) v ≡ change_section st' pa'
  change_store st' pa' j v t d = ap (λ (r : List ℕ). set r (c * 4 + j) v) (e ∙ change_places st pa)
      ∙ cell_store 4 256 (change_bytes st pa) (change_bytes st' pa') c j v h t refl d ∙ sym (change_places st' pa')

  -- another status
  pub status_store : (v : ℕ) → set s (c * 4) v ≡ change_section (put st c v) pa
  status_store v = ap (λ (i : ℕ). set s i v) (sym (add-zero (c * 4))) ∙ change_store (put st c v) pa 0 v (omega arith)
      (record { here = ap (λ (x : ℕ). x ∷ pa c ∷ 0 ∷ 0 ∷ []) (put_same st c v); there = λ j ne. ap (λ (x : ℕ). x ∷ pa j ∷ 0 ∷ 0 ∷ []) (put_other st c v j ne) })

  -- another parent
  pub parent_store : (v : ℕ) → set s (c * 4 + 1) v ≡ change_section st (put pa c v)
  parent_store v = change_store st (put pa c v) 1 v (omega arith)
      (record { here = ap (λ (x : ℕ). st c ∷ x ∷ 0 ∷ 0 ∷ []) (put_same pa c v); there = λ j ne. ap (λ (x : ℕ). st j ∷ x ∷ 0 ∷ 0 ∷ []) (put_other pa c v j ne) })
