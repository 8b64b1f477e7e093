-- Records of w bytes that a test lets stay, closed up in place. Assumes nothing.
use mathlib.Core.Path.{◌≡◌, refl, sym, ap, subst, ◌∙◌}
use mathlib.Core.Bool.{Bool, true, false, cond}
use mathlib.Core.List.{List, [], ◌∷◌, ◌++◌, append-nil, append_assoc, map, flat_map}
use Prim.Native.Nat.{ℕ, zero, suc, ◌+◌, ◌-◌, ◌*◌, ◌≤◌, ◌<◌}
use native.Mathlib.Nat.{zero-mul, suc-mul, mul-le-mul_right}
use native.Mathlib.Numerals.{add-one}
use native.Mathlib.Omega.{arith}
use lib.ListN.{length, take, drop, get_or, replicate, length-append, length-replicate, length-map}
use lib.Seq.{drop-drop, take_at, drop_at}
use Rattle.std.specs.List.{concat, items_where_true}
use Rattle.std.specs.List.Retain.{ReturnsInTurn}
use Rattle.std.specs.Simd.{first_chunks}
use Rattle.std.proofs.lemmas.List.Folds.{concat-append}
use Rattle.rules.specs.Base.{keep}
use Rattle.cells.specs.Part.{part, patch}
use Rattle.cells.proofs.PartLaws.{length_part, length-patch, take-patch_end, drop-patch}
use Rattle.rows.specs.Rows.{Retained}

-- how many records there are
pub length-chunks : (w n : ℕ) (l : List ℕ) → length (first_chunks w n l) ≡ n
length-chunks w zero l = refl
length-chunks w (suc n) l = omega (arith, length-chunks w n (drop w l))

-- record i
pub chunk_at : (w n i : ℕ) (l x : List ℕ) → i < n → get_or (first_chunks w n l) i x ≡ part l (i * w) w
unfolding part
chunk_at w zero i l x h = absurd (omega arith)
chunk_at w (suc n) zero l x h = rw (zero-mul w) refl
chunk_at w (suc n) (suc i) l x h =
    chunk_at w n i (drop w l) x (omega arith) ∙ ap (take w) (drop-drop (i * w) w l ∙ ap (λ (k : ℕ). drop k l) (omega (arith, suc-mul i w)))

-- one answer more: what stays
items_push : (bs : List Bool) (xs : List (List ℕ)) (x : List ℕ) (b : Bool) → length bs < length xs → x ≡ get_or xs (length bs) x
    → items_where_true (bs ++ b ∷ []) xs ≡ items_where_true bs xs ++ cond b (x ∷ []) []
items_push bs [] x b h e = absurd (omega arith)
items_push [] (y ∷ xs) x true h e = ap (λ (z : List ℕ). z ∷ []) (sym e)
items_push [] (y ∷ xs) x false h e = refl
items_push (true ∷ bs) (y ∷ xs) x b h e = ap (λ (l : List (List ℕ)). y ∷ l) (items_push bs xs x b (omega arith) e)
items_push (false ∷ bs) (y ∷ xs) x b h e = items_push bs xs x b (omega arith) e

module _ {P : Type 0} (R : P → List ℕ → Bool → P → Type 0) where
  -- and what was answered
  told_push : (p q u : P) (bs : List Bool) (xs : List (List ℕ)) (x : List ℕ) (b : Bool) → length bs < length xs → x ≡ get_or xs (length bs) x → ReturnsInTurn R p bs xs q → R q x b u
      → ReturnsInTurn R p (bs ++ b ∷ []) xs u
  told_push p q u bs [] x b h e t r = absurd (omega arith)
  told_push p q u [] (y ∷ xs) x b h e t r = (u, subst (λ j. R j y b u) (sym t) (subst (λ z. R q z b u) e r), refl)
  told_push p q u (a ∷ bs) (y ∷ xs) x b h e t r = (t.0, t.1, told_push t.0 q u bs xs x b (omega arith) e t.2 r)

  -- s is the section after i records of s₀ were read and j of them kept; the test began as p₀ and is p
  pub record Retaining (p₀ : P) (w n : ℕ) (s₀ s : List ℕ) (p : P) (i j : ℕ) : Type 0 where
    -- what the test answered
    pub answers : List Bool
    pub read : length answers ≡ i
    pub told : ReturnsInTurn R p₀ answers (first_chunks w n s₀) p
    -- no more are kept than were read
    pub few : j ≤ i
    -- how many are kept
    pub count : j ≡ length (items_where_true answers (first_chunks w n s₀))
    -- they stand at the front
    pub front : take (j * w) s ≡ concat (items_where_true answers (first_chunks w n s₀))
    -- what was not read is as it was
    pub back : drop (i * w) s ≡ drop (i * w) s₀
    pub len : length s ≡ length s₀

  module _ (p₀ : P) (w n : ℕ) (s₀ : List ℕ) where
    -- before the first record
    pub retaining_none : Retaining p₀ w n s₀ s₀ p₀ 0 0
    retaining_none = record { answers = []; read = refl; told = refl; few = omega arith; count = refl; front = rw (zero-mul w) refl; back = refl; len = refl }

    module _ (s : List ℕ) (p : P) (i j : ℕ) (m : Retaining p₀ w n s₀ s p i j) where
      -- a record ends where the next begins
      next : (i + 1) * w ≡ i * w + w
      next = ap (λ (d : ℕ). d * w) (add-one i) ∙ suc-mul i w

      -- what stays takes no more room than what was read, and that no more than there is
      pub below : j * w ≤ i * w
      below = mul-le-mul_right w m.few

      module _ (room : i * w + w ≤ length s) (h : i < n) (p' : P) where
        record_at : (x : List ℕ) → x ≡ part s (i * w) w → x ≡ get_or (first_chunks w n s₀) (length m.answers) x
        unfolding part
        record_at x e = e ∙ ap (take w) m.back ∙ sym (ap (λ (k : ℕ). get_or (first_chunks w n s₀) k x) m.read ∙ chunk_at w n i s₀ x h)

        inside : length m.answers < length (first_chunks w n s₀)
        inside = omega (arith, m.read, length-chunks w n s₀)

        -- the next record does not stay
        pub retaining_gone : (x : List ℕ) → x ≡ part s (i * w) w → R p x false p' → Retaining p₀ w n s₀ s p' (i + 1) j
        retaining_gone x e r =
            let same : items_where_true m.answers (first_chunks w n s₀) ≡ items_where_true (m.answers ++ false ∷ []) (first_chunks w n s₀)
            = sym (items_push m.answers (first_chunks w n s₀) x false inside (record_at x e) ∙ append-nil _) in
            record {
              answers = m.answers ++ false ∷ [];
              read = omega (arith, length-append m.answers (false ∷ []), m.read);
              told = told_push p₀ p p' m.answers (first_chunks w n s₀) x false inside (record_at x e) m.told r;
              few = omega (arith, m.few);
              count = m.count ∙ ap length same;
              front = m.front ∙ ap concat same;
              back = ap (λ (k : ℕ). drop k s) next ∙ sym (drop-drop w (i * w) s) ∙ ap (drop w) m.back ∙ drop-drop w (i * w) s₀ ∙ ap (λ (k : ℕ). drop k s₀) (sym next);
              len = m.len;
            }

        -- it stays
        pub retaining_stays : (x : List ℕ) → x ≡ part s (i * w) w → R p x true p' → Retaining p₀ w n s₀ (patch s (j * w) (part s (i * w) w)) p' (i + 1) (j + 1)
        retaining_stays x e r =
            let more : items_where_true (m.answers ++ true ∷ []) (first_chunks w n s₀) ≡ items_where_true m.answers (first_chunks w n s₀) ++ x ∷ []
            = items_push m.answers (first_chunks w n s₀) x true inside (record_at x e) in
            let y : List ℕ = part s (i * w) w in
            let size : length y ≡ w = length_part s (i * w) w room in
            let lower : j * w ≤ i * w = below in
            let end : j * w + length y ≡ (j + 1) * w = omega (arith, size, suc-mul j w, ap (λ (d : ℕ). d * w) (add-one j)) in
            record {
              answers = m.answers ++ true ∷ [];
              read = omega (arith, length-append m.answers (true ∷ []), m.read);
              told = told_push p₀ p p' m.answers (first_chunks w n s₀) x true inside (record_at x e) m.told r;
              few = omega (arith, m.few);
              count = sym (ap length more ∙ length-append _ (x ∷ []) ∙ ap (λ (d : ℕ). d + 1) (sym m.count));
              front = take-patch_end s (j * w) y ((j + 1) * w) end (omega arith)
                  ∙ ap (λ (t : List ℕ). t ++ y) m.front
                  ∙ ap (λ (t : List ℕ). concat (items_where_true m.answers (first_chunks w n s₀)) ++ t) (sym e ∙ sym (append-nil x))
                  ∙ sym (ap concat more ∙ concat-append (items_where_true m.answers (first_chunks w n s₀)) (x ∷ []));
              back = drop-patch s (j * w) y ((i + 1) * w) (omega (arith, size, next)) (omega arith)
                  ∙ ap (λ (k : ℕ). drop k s) next ∙ sym (drop-drop w (i * w) s) ∙ ap (drop w) m.back ∙ drop-drop w (i * w) s₀ ∙ ap (λ (k : ℕ). drop k s₀) (sym next);
              len = length-patch s (j * w) y (omega (arith, size)) ∙ m.len;
            }

    -- all were read, and the places that got free are cleared
    pub retaining_all : (s : List ℕ) (p : P) (j : ℕ) → Retaining p₀ w n s₀ s p n j → n * w ≤ length s₀ → (out : List ℕ) → out ≡ patch s (j * w) (replicate (n * w - j * w) 0)
        → Retained R p₀ w n s₀ j out
    unfolding patch
    retaining_all s p j m room out e =
        let lower : j * w ≤ n * w = mul-le-mul_right w m.few in
        let z : List ℕ = replicate (n * w - j * w) 0 in
        let end : j * w + length z ≡ n * w = omega (arith, length-replicate {A = ℕ} (n * w - j * w) 0) in
        record {
          kept = items_where_true m.answers (first_chunks w n s₀);
          passed = (m.answers, p, omega (arith, m.read, length-chunks w n s₀), m.told, refl);
          count = m.count;
          bytes = e ∙ ap (λ (t : List ℕ). t ++ (z ++ drop (length z) (drop (j * w) s))) m.front
              ∙ ap (λ (t : List ℕ). concat (items_where_true m.answers (first_chunks w n s₀)) ++ (z ++ t)) (drop-drop (length z) (j * w) s ∙ ap (λ (k : ℕ). drop k s) end ∙ m.back);
        }

-- records that are read as the bytes of values, by a test that answers what q says of each, and does not change
module _ {P : Type 0} (R : P → List ℕ → Bool → P → Type 0) (p₀ : P) {A : Type 0} (w : ℕ) (bytes : A → List ℕ) (size : (x : A) → length (bytes x) ≡ w) (q : A → Bool)
    (says : (x : A) (b : Bool) (p : P) → R p₀ (bytes x) b p → (b ≡ q x) × (p ≡ p₀)) where
  chunks_are : (l : List A) (rest : List ℕ) → first_chunks w (length l) (flat_map bytes l ++ rest) ≡ map bytes l
  unfolding flat_map
  chunks_are [] rest = refl
  chunks_are (x ∷ l) rest =
      let here : (bytes x ++ flat_map bytes l) ++ rest ≡ bytes x ++ (flat_map bytes l ++ rest) = append_assoc (bytes x) (flat_map bytes l) rest in
      ap (λ (t : List ℕ). first_chunks w (length (x ∷ l)) t) here
      ∙ ap (λ (t : List ℕ). t ∷ first_chunks w (length l) (drop w (bytes x ++ (flat_map bytes l ++ rest)))) (take_at (bytes x) (flat_map bytes l ++ rest) w (size x))
      ∙ ap (λ (t : List ℕ). bytes x ∷ first_chunks w (length l) t) (drop_at (bytes x) (flat_map bytes l ++ rest) w (size x))
      ∙ ap (λ (t : List (List ℕ)). bytes x ∷ t) (chunks_are l rest)

  stay : (bs : List Bool) (l : List A) (p : P) → length bs ≡ length l → ReturnsInTurn R p₀ bs (map bytes l) p → items_where_true bs (map bytes l) ≡ map bytes (keep q l)
  unfolding keep
  stay [] [] p e t = refl
  stay [] (x ∷ l) p e t = absurd (omega arith)
  stay (b ∷ bs) [] p e t = absurd (omega arith)
  stay (true ∷ bs) (x ∷ l) p e t =
      let one = says x true t.0 t.1 in
      rw (← one.0) (ap (λ (k : List (List ℕ)). bytes x ∷ k) (stay bs l p (omega arith) (subst (λ (y : P). ReturnsInTurn R y bs (map bytes l) p) one.1 t.2)))
  stay (false ∷ bs) (x ∷ l) p e t =
      let one = says x false t.0 t.1 in
      rw (← one.0) (stay bs l p (omega arith) (subst (λ (y : P). ReturnsInTurn R y bs (map bytes l) p) one.1 t.2))

  joined : (l : List A) → concat (map bytes l) ≡ flat_map bytes l
  unfolding flat_map
  joined [] = refl
  joined (x ∷ l) = ap (λ (t : List ℕ). bytes x ++ t) (joined l)

  long : (l : List A) → length (flat_map bytes l) ≡ length l * w
  unfolding flat_map
  long [] = sym (zero-mul w)
  long (x ∷ l) = omega (arith, length-append (bytes x) (flat_map bytes l), size x, long l, suc-mul (length l) w)

  -- the values that pass are left, and what stood behind the records
  pub retained_values : (l : List A) (rest before : List ℕ) → before ≡ flat_map bytes l ++ rest → (n r : ℕ) (after : List ℕ) → length l ≡ n → Retained R p₀ w n before r after
      → (r ≡ length (keep q l)) × (after ≡ flat_map bytes (keep q l) ++ (replicate (n * w - r * w) 0 ++ rest))
  retained_values l rest before eb n r after en m =
      let same : first_chunks w n before ≡ map bytes l = ap (λ (k : ℕ). first_chunks w k before) (sym en) ∙ ap (first_chunks w (length l)) eb ∙ chunks_are l rest in
      let t = m.passed in
      let told : ReturnsInTurn R p₀ t.0 (map bytes l) t.1 = subst (λ (xs : List (List ℕ)). ReturnsInTurn R p₀ t.0 xs t.1) same t.3 in
      let kept : m.kept ≡ map bytes (keep q l) = t.4 ∙ ap (items_where_true t.0) same ∙ stay t.0 l t.1 (omega (arith, t.2, length-chunks w n before, en)) told in
      let behind : drop (n * w) before ≡ rest = ap (drop (n * w)) eb ∙ drop_at (flat_map bytes l) rest (n * w) (long l ∙ ap (λ (k : ℕ). k * w) en) in (
        m.count ∙ ap length kept ∙ length-map (keep q l) bytes,
        m.bytes
            ∙ ap (λ (k : List (List ℕ)). concat k ++ (replicate (n * w - r * w) 0 ++ drop (n * w) before)) kept
            ∙ ap (λ (k : List ℕ). k ++ (replicate (n * w - r * w) 0 ++ drop (n * w) before)) (joined (keep q l))
            ∙ ap (λ (k : List ℕ). flat_map bytes (keep q l) ++ (replicate (n * w - r * w) 0 ++ k)) behind,
      )
