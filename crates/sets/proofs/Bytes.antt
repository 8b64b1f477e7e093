-- A set's words and its 32 bytes: what is loaded, what is stored, and that it is read again. Assumes nothing.
use mathlib.Core.Path.{◌≡◌, sym, ap, ap₂, ◌∙◌}
use mathlib.Core.Bool.{Bool, false, and-false}
use mathlib.Core.List.{List, [], ◌∷◌, ◌++◌}
use Prim.Native.Nat.{ℕ, ◌+◌, ◌*◌, ◌/◌, ◌%◌, ◌≤◌, ◌<◌}
use native.Mathlib.Nat.{mod-lt}
use native.Mathlib.Omega.{arith}
use borrow.Author.Tests.{le-leb, lt-leb, lt-ltb, le-ltb}
use lib.Dec.{ltb}
use lib.ListN.{length, get_or, length-append}
use lib.Pow.{pow_pos}
use Rattle.rules.specs.Base.{table}
use Rattle.rules.specs.Sets.{Set}
use Rattle.rules.proofs.ListLaws.{table-append}
use Rattle.layout.specs.Codec.{byte, pack, unpack}
use Rattle.layout.proofs.SectionLaws.{length-table, get_or_table0, table_same}
use Rattle.layout.proofs.CodecLaws.{pack_most, unpack-pack}
use Rattle.cells.specs.Part.{patch}
use Rattle.cells.specs.Num.{le}
use Rattle.cells.specs.Bits.{bytes_have}
use Rattle.cells.proofs.PartLaws.{patch-append, get_or-patch}
use Rattle.cells.proofs.NumLaws.{length-le, le_bytes}
use Rattle.cells.proofs.Digits.{unpack_ext}
use Rattle.cells.proofs.WordLaws.{unpack-byte}
use Rattle.words.specs.Members.{words_have}
use Rattle.sets.specs.Members.{members, loaded, set_byte, set_bytes, stored}
use Rattle.sets.specs.declared.ChangeSet.{ChangeSet}
use Rattle.sets.proofs.Words.{of_words}
use Rattle.sets.proofs.MemberLaws.{four_words}

-- LOADED
-- where there are not 32 bytes, nothing
pub loaded_short : (bs : List ℕ) (at : ℕ) → length bs < at + 32 → (k : ℕ) → loaded bs at k ≡ false
unfolding loaded
loaded_short bs at h k = rw (lt-leb (at + 32) (length bs) h, and-false (ltb k 256))

-- where there are, a member is a bit that is set
pub loaded_full : (bs : List ℕ) (at : ℕ) → at + 32 ≤ length bs → (k : ℕ) → k < 256 → loaded bs at k ≡ bytes_have bs at k
unfolding loaded
loaded_full bs at h k l = rw (le-leb (at + 32) (length bs) h, lt-ltb k 256 l)

-- no number from 256 on
loaded_above : (bs : List ℕ) (at k : ℕ) → 256 ≤ k → loaded bs at k ≡ false
unfolding loaded
loaded_above bs at k h = rw (le-ltb k 256 h)

-- four words that were gathered from 32 bytes
word_of : (bs : List ℕ) (at o w i : ℕ) → at + 32 ≤ length bs → i < 4 → o ≡ at + 8 * i → ((k : ℕ) → k < 64 → unpack w k ≡ bytes_have bs o k)
    → (j : ℕ) → j < 64 → unpack w j ≡ loaded bs at (64 * i + j)
word_of bs at o w i room hi e read j h =
    let x : o + j / 8 ≡ at + (64 * i + j) / 8 = omega arith in
    let y : j % 8 ≡ (64 * i + j) % 8 = omega arith in
    read j h ∙ ap₂ (λ (u v : ℕ). unpack (get_or bs u 0) v) x y ∙ sym (loaded_full bs at room (64 * i + j) (omega arith))

-- the set of the four words is what is loaded
pub loaded_words : (bs : List ℕ) (at a b c d : ℕ) → at + 32 ≤ length bs
    → ((k : ℕ) → k < 64 → unpack a k ≡ bytes_have bs at k)
    → ((k : ℕ) → k < 64 → unpack b k ≡ bytes_have bs (at + 8) k)
    → ((k : ℕ) → k < 64 → unpack c k ≡ bytes_have bs (at + 16) k)
    → ((k : ℕ) → k < 64 → unpack d k ≡ bytes_have bs (at + 24) k)
    → (k : ℕ) → members (of_words (a ∷ b ∷ c ∷ d ∷ [])) k ≡ loaded bs at k
loaded_words bs at a b c d room ra rb rc rd = four_words (loaded bs at) a b c d (loaded_above bs at)
    (word_of bs at at a 0 room (omega arith) (omega arith) ra) (word_of bs at (at + 8) b 1 room (omega arith) (omega arith) rb)
    (word_of bs at (at + 16) c 2 room (omega arith) (omega arith) rc) (word_of bs at (at + 24) d 3 room (omega arith) (omega arith) rd)

-- STORED
-- byte i of a set is byte i % 8 of its word i / 8
byte_word : (s : ChangeSet) (i : ℕ) → byte (i % 8) (get_or s.words (i / 8) 0) ≡ set_byte (members s) i
unfolding set_byte members words_have byte
byte_word s i = unpack_ext 8 (byte (i % 8) (get_or s.words (i / 8) 0)) (pack 8 digit) (mod-lt _ (pow_pos 8)) (pack_most 8 _) (λ j h.
    let x : i / 8 ≡ (i * 8 + j) / 64 = omega arith in
    let y : 8 * (i % 8) + j ≡ (i * 8 + j) % 64 = omega arith in
    unpack-byte (i % 8) (get_or s.words (i / 8) 0) j h ∙ ap₂ (λ (u v : ℕ). unpack (get_or s.words u 0) v) x y ∙ sym (unpack-pack 8 digit j h))
  where
    digit : ℕ → Bool
    digit b = members s (i * 8 + b)

-- how many bytes there are, and each
length-bytes : (s : Set) → length (set_bytes s) ≡ 32
unfolding set_bytes
length-bytes s = length-table 32 0 (set_byte s)

byte_at_lem : (s : Set) (i : ℕ) → i < 32 → get_or (set_bytes s) i 0 ≡ set_byte s i
unfolding set_bytes
byte_at_lem s i h = get_or_table0 32 (set_byte s) i 0 h

-- eight of them are a word's
word_bytes : (s : ChangeSet) (n at : ℕ) → at ≡ 8 * n → table 8 at (set_byte (members s)) ≡ le 8 (get_or s.words n 0)
word_bytes s n at e = sym (le_bytes 8 (get_or s.words n 0) ∙ table_same 8 0 at (λ j. byte j (get_or s.words n 0)) (set_byte (members s)) (λ k l.
    let x : 0 + k ≡ (at + k) % 8 = omega arith in
    let y : n ≡ (at + k) / 8 = omega arith in
    ap₂ (λ (u v : ℕ). byte u (get_or s.words v 0)) x y ∙ byte_word s (at + k)))

-- all 32 are the four words', one after the other
words_bytes : (s : ChangeSet) → set_bytes (members s) ≡ ((le 8 (get_or s.words 0 0) ++ le 8 (get_or s.words 1 0)) ++ le 8 (get_or s.words 2 0)) ++ le 8 (get_or s.words 3 0)
unfolding set_bytes
words_bytes s =
    table-append 24 8 0 (set_byte (members s)) ∙ ap₂ both (table-append 16 8 0 (set_byte (members s)) ∙ ap₂ both (table-append 8 8 0 (set_byte (members s))
    ∙ ap₂ both (word_bytes s 0 0 (omega arith)) (word_bytes s 1 8 (omega arith))) (word_bytes s 2 16 (omega arith))) (word_bytes s 3 24 (omega arith))
  where
    both : List ℕ → List ℕ → List ℕ
    both a b = a ++ b

-- where there is room they stand there, and nothing else has changed
stored_full : (s : Set) (bs : List ℕ) (at : ℕ) → at + 32 ≤ length bs → stored s bs at ≡ patch bs at (set_bytes s)
unfolding stored
stored_full s bs at h = rw (le-leb (at + 32) (length bs) h)

-- where there is no room nothing has changed
pub stored_short : (s : Set) (bs : List ℕ) (at : ℕ) → length bs < at + 32 → stored s bs at ≡ bs
unfolding stored
stored_short s bs at h = rw (lt-leb (at + 32) (length bs) h)

-- the four words, one after the other
pub stored_words : (s : ChangeSet) (d l m n o : List ℕ) (at : ℕ) → at + 32 ≤ length d
    → l ≡ patch d at (le 8 (get_or s.words 0 0)) → m ≡ patch l (at + 8) (le 8 (get_or s.words 1 0))
    → n ≡ patch m (at + 16) (le 8 (get_or s.words 2 0)) → o ≡ patch n (at + 24) (le 8 (get_or s.words 3 0)) → o ≡ stored (members s) d at
stored_words s d l m n o at room el em en eo = eo ∙ next (at + 24) _ 3 (en ∙ next (at + 16) _ 2 (em ∙ next (at + 8) _ 1 el (omega (arith, long 0)) (omega (arith, long 1))) (omega (arith, length-append (le 8 (w 0)) (le 8 (w 1)), long 0, long 1)) (omega (arith, long 2)))
    (omega (arith, length-append (le 8 (w 0) ++ le 8 (w 1)) (le 8 (w 2)), length-append (le 8 (w 0)) (le 8 (w 1)), long 0, long 1, long 2)) (omega (arith, long 3))
    ∙ ap (patch d at) (sym (words_bytes s)) ∙ sym (stored_full (members s) d at room)
  where
    w : ℕ → ℕ
    w i = get_or s.words i 0

    long : (i : ℕ) → length (le 8 (w i)) ≡ 8
    long i = length-le 8 (w i)

    next : (p : ℕ) (xs : List ℕ) (i : ℕ) {cur : List ℕ} → cur ≡ patch d at xs → at + length xs ≡ p → p + length (le 8 (w i)) ≤ length d → patch cur p (le 8 (w i)) ≡ patch d at (xs ++ le 8 (w i))
    next p xs i e h r = rw e (patch-append d at xs (le 8 (w i)) p h r)

-- READ AGAIN
-- what was stored is what is read
stored-bit : (s : Set) (d : List ℕ) (at : ℕ) → at + 32 ≤ length d → (k : ℕ) → k < 256 → bytes_have (stored s d at) at k ≡ s k
unfolding set_byte
stored-bit s d at room k h =
    let e : k / 8 * 8 + k % 8 ≡ k = omega arith in
    ap (λ (l : List ℕ). bytes_have l at k) (stored_full s d at room)
    ∙ ap (λ (x : ℕ). unpack x (k % 8)) (get_or-patch d at (set_bytes s) 32 (k / 8) (length-bytes s) (omega arith) (omega arith) ∙ byte_at_lem s (k / 8) (omega arith))
    ∙ unpack-pack 8 (λ b. s (k / 8 * 8 + b)) (k % 8) (omega arith) ∙ ap s e

-- so where 32 bytes have become what was stored in them
pub stored_have : (s : Set) (d out : List ℕ) → length d ≡ 32 → out ≡ stored s d 0 → (k : ℕ) → k < 256 → bytes_have out 0 k ≡ s k
stored_have s d out size e k h = ap (λ (l : List ℕ). bytes_have l 0 k) e ∙ stored-bit s d 0 (omega arith) k h
