-- Records of w bytes closed up in place: what holds after i of them were read and j are left. Assumes nothing.
use mathlib.Core.Path.{◌≡◌, refl, sym, ap, ◌∙◌}
use mathlib.Core.Bool.{Bool, true, false, cond}
use mathlib.Core.List.{List, [], ◌∷◌, ◌++◌, append_assoc, append-nil, flat_map}
use Prim.Native.Nat.{ℕ, ◌+◌, ◌-◌, ◌*◌, ◌≤◌, ◌<◌}
use native.Mathlib.Nat.{zero-mul, suc-mul, mul-le-mul_right}
use native.Mathlib.Numerals.{add-one}
use native.Mathlib.Omega.{arith}
use lib.ListN.{length, take, drop, get_or, replicate, length-append, length-replicate}
use lib.Seq.{take_at, drop_at, drop-drop, drop-cons, take-suc, drop-length}
use Rattle.rules.specs.Base.{keep}
use Rattle.rules.proofs.ListLaws.{keep_join}
use Rattle.cells.specs.Part.{part, patch}
use Rattle.cells.proofs.PartLaws.{length_part, take-patch_end, drop-patch}

-- the bytes of two lists of records
pub flat_append {ℓ} : {A : Type ℓ} (bytes : A → List ℕ) (l m : List A) → flat_map bytes (l ++ m) ≡ flat_map bytes l ++ flat_map bytes m
unfolding flat_map
flat_append bytes [] m = refl
flat_append bytes (x ∷ l) m = ap (λ (t : List ℕ). bytes x ++ t) (flat_append bytes l m) ∙ sym (append_assoc (bytes x) (flat_map bytes l) (flat_map bytes m))

-- the first i, with the next
pub take_next {ℓ} : {A : Type ℓ} (none : A) (l : List A) (i : ℕ) → i < length l → take (i + 1) l ≡ take i l ++ (get_or l i none ∷ [])
take_next none l i h = ap (λ (d : ℕ). take d l) (add-one i) ∙ take-suc l i none h

-- what a test keeps of them
pub keep-next {ℓ} : {A : Type ℓ} (q : A → Bool) (none : A) (l : List A) (i : ℕ) → i < length l → (b : Bool) → b ≡ q (get_or l i none)
    → keep q (take (i + 1) l) ≡ keep q (take i l) ++ cond b (get_or l i none ∷ []) []
unfolding keep
keep-next q none l i h b e = ap (keep q) (take_next none l i h) ∙ keep_join q (take i l) (get_or l i none ∷ []) ∙ ap (λ (d : Bool). keep q (take i l) ++ cond d (get_or l i none ∷ []) []) (sym e)

module _ {ℓ} {A : Type ℓ} (w : ℕ) (bytes : A → List ℕ) where
  -- s is the section after i records of l were read and j are left, those of k; rest is what stood behind the records
  pub record Closing (l : List A) (rest s : List ℕ) (i j : ℕ) (k : List A) : Type ℓ where
    -- no more are left than were read
    pub few : j ≤ i
    -- how many are left
    pub count : j ≡ length k
    -- they stand at the front
    pub front : take (j * w) s ≡ flat_map bytes k
    -- what was not read is as it was
    pub back : drop (i * w) s ≡ flat_map bytes (drop i l) ++ rest

  -- before the first record
  pub closing_none : (l : List A) (rest s : List ℕ) → s ≡ flat_map bytes l ++ rest → Closing l rest s 0 0 []
  unfolding flat_map
  closing_none l rest s e = record { few = omega arith; count = refl; front = rw (zero-mul w) refl; back = rw (zero-mul w) e }

  -- the next of the records, each of w bytes
  module _ (size : (x : A) → length (bytes x) ≡ w) (none : A) (l : List A) (rest s : List ℕ) (i j : ℕ) (k : List A) (m : Closing l rest s i j k) (h : i < length l) where
    -- the record that comes, and what stands behind it
    back_here : drop (i * w) s ≡ bytes (get_or l i none) ++ (flat_map bytes (drop (i + 1) l) ++ rest)
    unfolding flat_map
    back_here = m.back ∙ ap (λ (t : List A). flat_map bytes t ++ rest) (drop-cons l i none h ∙ ap (λ (d : ℕ). get_or l i none ∷ drop d l) (sym (add-one i)))
        ∙ append_assoc (bytes (get_or l i none)) (flat_map bytes (drop (i + 1) l)) rest

    -- its bytes
    pub closing_here : (from : ℕ) → from ≡ i * w → part s from w ≡ bytes (get_or l i none)
    unfolding part
    closing_here from e = ap (λ (d : ℕ). take w (drop d s)) e ∙ ap (take w) back_here ∙ take_at (bytes (get_or l i none)) (flat_map bytes (drop (i + 1) l) ++ rest) w (size (get_or l i none))

    -- where the next record begins
    next : (i + 1) * w ≡ i * w + w
    next = ap (λ (d : ℕ). d * w) (add-one i) ∙ suc-mul i w

    -- what stands behind it
    back_next : drop ((i + 1) * w) s ≡ flat_map bytes (drop (i + 1) l) ++ rest
    back_next = ap (λ (d : ℕ). drop d s) next ∙ sym (drop-drop w (i * w) s) ∙ ap (drop w) back_here
        ∙ drop_at (bytes (get_or l i none)) (flat_map bytes (drop (i + 1) l) ++ rest) w (size (get_or l i none))

    -- the record that comes is left, or not
    pub closing_turn : (b : Bool) (k' : List A) → k' ≡ k ++ cond b (get_or l i none ∷ []) [] → (from to : ℕ) → from ≡ i * w → to ≡ j * w → from + w ≤ length s
        → Closing l rest (cond b (patch s to (part s from w)) s) (i + 1) (cond b (j + 1) j) k'
    unfolding flat_map
    closing_turn false k' e from to ef et room =
        let same : k ≡ k' = sym (e ∙ append-nil k) in
        record { few = omega (arith, m.few); count = m.count ∙ ap length same; front = m.front ∙ ap (flat_map bytes) same; back = back_next }
    closing_turn true k' e from to ef et room =
        let p : List ℕ = part s from w in
        let len : length p ≡ w = length_part s from w room in
        let lower : j * w ≤ i * w = mul-le-mul_right w m.few in
        let end : to + length p ≡ (j + 1) * w = omega (arith, len, add-one j, suc-mul j w, ap (λ (d : ℕ). d * w) (add-one j)) in
        record {
          few = omega (arith, m.few);
          count = sym (ap length e ∙ length-append k (get_or l i none ∷ []) ∙ ap (λ (d : ℕ). d + 1) (sym m.count));
          front = take-patch_end s to p ((j + 1) * w) end (omega arith)
              ∙ ap (λ (t : List ℕ). t ++ p) (ap (λ (d : ℕ). take d s) et ∙ m.front)
              ∙ ap (λ (t : List ℕ). flat_map bytes k ++ t) (closing_here from ef ∙ sym (append-nil (bytes (get_or l i none))))
              ∙ sym (ap (flat_map bytes) e ∙ flat_append bytes k (get_or l i none ∷ []));
          back = drop-patch s to p ((i + 1) * w) (omega (arith, len, next)) (omega arith) ∙ back_next;
        }

  -- all were read, and the places that got free are cleared
  pub closing_all : (l : List A) (rest s : List ℕ) (n j : ℕ) (k : List A) → length l ≡ n → Closing l rest s n j k → (from to : ℕ) → from ≡ j * w → to ≡ n * w
      → patch s from (replicate (to - from) 0) ≡ flat_map bytes k ++ (replicate (to - from) 0 ++ rest)
  unfolding patch flat_map
  closing_all l rest s n j k e m from to ef et =
      let lower : j * w ≤ n * w = mul-le-mul_right w m.few in
      let z : List ℕ = replicate (to - from) 0 in
      let end : from + length z ≡ n * w = rw length-replicate (omega arith) in
      ap (λ (t : List ℕ). t ++ (z ++ drop (length z) (drop from s))) (ap (λ (d : ℕ). take d s) ef ∙ m.front)
      ∙ ap (λ (t : List ℕ). flat_map bytes k ++ (z ++ t)) (drop-drop (length z) from s ∙ ap (λ (d : ℕ). drop d s) end ∙ m.back
      ∙ ap (λ (t : List A). flat_map bytes t ++ rest) (ap (λ (d : ℕ). drop d l) (sym e) ∙ drop-length l))
