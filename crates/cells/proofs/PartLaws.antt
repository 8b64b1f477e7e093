-- A part of a list, and a list with a part replaced. Assumes nothing.
use mathlib.Core.Path.{ap₂, ◌≡◌, refl, sym, ap, ◌∙◌}
use mathlib.Core.List.{List, [], ◌∷◌, ◌++◌, append_assoc, append-nil}
use Prim.Native.Nat.{ℕ, zero, suc, ◌+◌, ◌-◌, ◌≤◌, ◌<◌}
use native.Mathlib.Nat.{le_of_suc-le-suc, not-suc-le-zero, suc-add, zero-add, add-zero}
use native.Mathlib.Omega.{arith}
use lib.ListN.{length, take, drop, get_or, set, replicate, length-append, length-take, length-drop, take-append-drop, length-set, length-replicate, drop_of_length-le}
use borrow.Rule.Slice.PartMut.{put_mid}
use lib.Seq.{sets, sets-eq, take-set-le, take-set-lt, drop-set-lt, drop-set-add, take_at, drop_at, take-append-le, drop-append-add, get_or-take, get_or-drop, take-take, drop-drop, length-take-le, drop-cons}
use Rattle.cells.specs.Part.{part, patch}

-- LENGTHS: of a part
pub length_part : (l : List ℕ) (at n : ℕ) → at + n ≤ length l → length (part l at n) ≡ n
unfolding part
length_part l at n h = length-take-le n (drop at l) (simp length-drop (omega arith))

-- at most that
pub part_most : (l : List ℕ) (at n m : ℕ) → n ≤ m → length (part l at n) ≤ m
unfolding part
part_most l at n m h = simp length-take (omega arith)

-- of a list with a part replaced
pub length-patch : (l : List ℕ) (at : ℕ) (xs : List ℕ) → at + length xs ≤ length l → length (patch l at xs) ≡ length l
unfolding patch
length-patch l at xs h = simp (length-append, length-take, length-drop) (omega arith)

-- READING AFTER A WRITE: there
part-patch : (l : List ℕ) (at : ℕ) (xs : List ℕ) (n : ℕ) → length xs ≡ n → at ≤ length l → part (patch l at xs) at n ≡ xs
unfolding part patch
part-patch l at xs n e h =
    ap (take n) (drop_at (take at l) (xs ++ drop (length xs) (drop at l)) at (length-take-le at l h)) ∙ take_at xs _ n e

-- before it
take-patch : (l : List ℕ) (at : ℕ) (xs : List ℕ) (b : ℕ) → b ≤ at → at ≤ length l → take b (patch l at xs) ≡ take b l
unfolding patch
take-patch l at xs b h k =
    let hb : b ≤ length (take at l) = simp length-take (omega arith) in
    take-append-le b (take at l) _ hb ∙ take-take b at l h

-- from its end on
pub drop-patch : (l : List ℕ) (at : ℕ) (xs : List ℕ) (b : ℕ) → at + length xs ≤ b → at ≤ length l → drop b (patch l at xs) ≡ drop b l
unfolding patch
drop-patch l at xs b h k =
    let m : ℕ = length (take at l ++ xs) in
    let em : m ≡ at + length xs = simp (length-append, length-take-le at l k) in
    let eb : m + (b - m) ≡ b = omega arith in
    ap (drop b) (sym (append_assoc (take at l) xs (drop (length xs) (drop at l))))
    ∙ ap (λ (k : ℕ). drop k ((take at l ++ xs) ++ drop (length xs) (drop at l))) (sym eb)
    ∙ drop-append-add (take at l ++ xs) (drop (length xs) (drop at l)) (b - m)
    ∙ ap (drop (b - m)) (drop-drop (length xs) at l)
    ∙ drop-drop (b - m) (at + length xs) l
    ∙ ap (λ (k : ℕ). drop k l) (ap (λ (k : ℕ). k + (b - m)) (sym em) ∙ eb)

-- up to its end
pub take-patch_end : (l : List ℕ) (at : ℕ) (xs : List ℕ) (m : ℕ) → at + length xs ≡ m → at ≤ length l → take m (patch l at xs) ≡ take at l ++ xs
unfolding patch
take-patch_end l at xs m e h =
    ap (take m) (sym (append_assoc (take at l) xs (drop (length xs) (drop at l))))
    ∙ take_at (take at l ++ xs) (drop (length xs) (drop at l)) m (simp (length-append, length-take-le at l h) e)

-- an element of a part
pub get_or_part : (l : List ℕ) (at n i : ℕ) → i < n → get_or (part l at n) i 0 ≡ get_or l (at + i) 0
unfolding part
get_or_part l at n i h = get_or-take n (drop at l) i 0 h ∙ get_or-drop at l i 0

-- an element that was written
pub get_or-patch : (l : List ℕ) (at : ℕ) (xs : List ℕ) (n i : ℕ) → length xs ≡ n → at ≤ length l → i < n → get_or (patch l at xs) (at + i) 0 ≡ get_or xs i 0
get_or-patch l at xs n i e h k = sym (get_or_part (patch l at xs) at n i k) ∙ ap (λ (r : List ℕ). get_or r i 0) (part-patch l at xs n e h)

-- before it
pub get_or-patch-before : (l : List ℕ) (at : ℕ) (xs : List ℕ) (i : ℕ) → i < at → at ≤ length l → get_or (patch l at xs) i 0 ≡ get_or l i 0
get_or-patch-before l at xs i h k =
    sym (get_or-take at (patch l at xs) i 0 h) ∙ ap (λ (r : List ℕ). get_or r i 0) (take-patch l at xs at (omega arith) k) ∙ get_or-take at l i 0 h

-- after it
pub get_or-patch-after : (l : List ℕ) (at : ℕ) (xs : List ℕ) (i : ℕ) → at + length xs ≤ i → at ≤ length l → get_or (patch l at xs) i 0 ≡ get_or l i 0
get_or-patch-after l at xs i h k =
    ap (λ (j : ℕ). get_or (patch l at xs) j 0) (sym (add-zero i)) ∙ sym (get_or-drop i (patch l at xs) 0 0)
    ∙ ap (λ (r : List ℕ). get_or r 0 0) (drop-patch l at xs i h k) ∙ get_or-drop i l 0 0 ∙ ap (λ (j : ℕ). get_or l j 0) (add-zero i)

-- a part from the whole's front
take-drop : (n b : ℕ) (l : List ℕ) → take n (drop b l) ≡ drop b (take (b + n) l)
take-drop n zero l = ap (λ (k : ℕ). take k l) (sym (zero-add n))
take-drop zero (suc b) [] = ap (λ (k : ℕ). drop (suc b) (take k [])) (sym (suc-add b 0))
take-drop (suc n) (suc b) [] = ap (λ (k : ℕ). drop (suc b) (take k [])) (sym (suc-add b (suc n)))
take-drop n (suc b) (x ∷ l) = take-drop n b l ∙ ap (λ (k : ℕ). drop (suc b) (take k (x ∷ l))) (sym (suc-add b n))

-- a part of a part
pub part-part : (l : List ℕ) (a n b m : ℕ) → b + m ≤ n → part (part l a n) b m ≡ part l (a + b) m
unfolding part
part-part l a n b m h =
    take-drop m b (take n (drop a l)) ∙ ap (drop b) (take-take (b + m) n (drop a l) h) ∙ sym (take-drop m b (drop a l)) ∙ ap (take m) (drop-drop b a l)

-- STORES ONE BY ONE are a patch: none
pub patch_nil : (l : List ℕ) (at : ℕ) → patch l at [] ≡ l
unfolding patch
patch_nil l at = take-append-drop at l

-- one before the others
pub patch_cons : (l : List ℕ) (at x : ℕ) (xs : List ℕ) → at < length l → patch (set l at x) (suc at) xs ≡ patch l at (x ∷ xs)
unfolding patch
patch_cons [] at x xs h = absurd (not-suc-le-zero h)
patch_cons (y ∷ l) zero x xs h = refl
patch_cons (y ∷ l) (suc at) x xs h = ap (λ (r : List ℕ). y ∷ r) (patch_cons l at x xs (le_of_suc-le-suc h))

-- all
pub sets_patch : (l : List ℕ) (at : ℕ) (xs : List ℕ) → at + length xs ≤ length l → sets l at xs ≡ patch l at xs
unfolding patch
sets_patch l at xs h = sets-eq xs l at h ∙ append_assoc (take at l) xs (drop (at + length xs) l) ∙ ap (λ (r : List ℕ). take at l ++ (xs ++ r)) (sym (drop-drop (length xs) at l))

-- a patch right after another is one
pub patch-append : (l : List ℕ) (at : ℕ) (xs ys : List ℕ) (m : ℕ) → at + length xs ≡ m → m + length ys ≤ length l → patch (patch l at xs) m ys ≡ patch l at (xs ++ ys)
unfolding patch
patch-append l at xs ys m e h =
    let front : take m (patch l at xs) ≡ take at l ++ xs = take-patch_end l at xs m e (omega arith) in
    let back : drop m (patch l at xs) ≡ drop m l = drop-patch l at xs m (omega arith) (omega arith) in
    let n : length (xs ++ ys) ≡ length xs + length ys = length-append xs ys in
    ap₂ (λ (a b : List ℕ). a ++ (ys ++ drop (length ys) b)) front (back ∙ ap (λ (k : ℕ). drop k l) (sym e) ∙ sym (drop-drop (length xs) at l))
    ∙ append_assoc (take at l) xs (ys ++ drop (length ys) (drop (length xs) (drop at l)))
    ∙ ap (λ (r : List ℕ). take at l ++ r) (sym (append_assoc xs ys (drop (length ys) (drop (length xs) (drop at l)))) ∙ ap (λ (r : List ℕ). (xs ++ ys) ++ r) (drop-drop (length ys) (length xs) (drop at l) ∙ ap (λ (k : ℕ). drop k (drop at l)) (sym n)))

-- a store right after what was written: the step of every loop that writes upwards
pub patch-next : (l : List ℕ) (at : ℕ) (xs : List ℕ) (v m : ℕ) → at + length xs ≡ m → m < length l → set (patch l at xs) m v ≡ patch l at (xs ++ (v ∷ []))
patch-next l at xs v m e h = sets_patch (patch l at xs) m (v ∷ []) (omega (arith, length-patch l at xs (omega arith))) ∙ patch-append l at xs (v ∷ []) m e (omega arith)

-- a store within a part is a patch of that part
pub set-part : (l : List ℕ) (at n j v : ℕ) → at + n ≤ length l → j < n → set l (at + j) v ≡ patch l at (set (part l at n) j v)
unfolding part patch
set-part l at n j v h k =
    sym (take-append-drop at (set l (at + j) v))
    ∙ ap₂ ◌++◌ (take-set-le at l (at + j) v (omega arith)) (drop-set-add at l j v ∙ sym (take-append-drop n (set (drop at l) j v))
    ∙ ap₂ ◌++◌ (take-set-lt n (drop at l) j v k) (drop-set-lt n (drop at l) j v k ∙ ap (λ (m : ℕ). drop m (drop at l)) (sym (length-set (part l at n) j v ∙ length_part l at n h))))

-- what a write to a part of a slice leaves, as by `copy_from_slice` or `fill`
pub put_mid-patch : (at k : ℕ) (l xs ys : List ℕ) → ys ≡ xs → length xs ≡ k → put_mid at k l ys ≡ patch l at xs
unfolding patch
put_mid-patch at k l xs ys e n = rw (e, sym n) refl

-- nothing is left of a list that is no longer than the patch at its front
pub patch_whole : (l xs : List ℕ) → length l ≤ length xs → patch l 0 xs ≡ xs
unfolding patch
patch_whole l xs h = ap (λ (t : List ℕ). xs ++ t) (drop_of_length-le l h) ∙ append-nil xs

-- a copy in a fresh array of the same size
pub copied : (size : ℕ) (s c : List ℕ) → length s ≡ size → c ≡ patch (replicate size 0) 0 s → c ≡ s
copied size s c h e = e ∙ patch_whole (replicate size 0) s (omega (arith, length-replicate {A = ℕ} size 0))

-- ONE ELEMENT MORE, at the front
pub part_cons : (l : List ℕ) (at n : ℕ) → at < length l → part l at (suc n) ≡ get_or l at 0 ∷ part l (suc at) n
unfolding part
part_cons l at n h = rw (drop-cons l at 0 h)
