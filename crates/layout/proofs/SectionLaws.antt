-- Tables, and sections one after the other: a byte read, a section cut out, a section put in place. Assumes nothing.
use mathlib.Core.Path.{◌≡◌, refl, sym, ◌∙◌, ap}
use mathlib.Core.List.{List, [], ◌∷◌, ◌++◌, append_assoc, append-nil}
use Prim.Native.Nat.{ℕ, zero, suc, ◌+◌, ◌<◌}
use native.Mathlib.Nat.{add-zero, zero-add, add_assoc, not-suc-le-zero, le_of_suc-le-suc}
use native.Mathlib.Omega.{arith}
use lib.ListN.{get_or, length, take, drop, length-append}
use lib.Seq.{ext_get_or, get_or-take, get_or-drop, take_at, drop_at, take-append-add, drop-append-add}
use Rattle.rules.specs.Base.{table}
use Rattle.rules.specs.Window.{Window}
use Rattle.layout.specs.Codec.{head_size, values_size, changes_size, line_size, locks_size, permits_size, ties_size, log_size, figures, head_byte, value_byte, change_byte, line_byte, lock_byte, permit_byte, tie_byte, log_byte, head_section, value_section, change_section, line_section, lock_section, permit_section, tie_section, log_section, lay, encode}

-- tables
pub length-table {ℓ} : {A : Type ℓ} (k i : ℕ) (f : ℕ → A) → length (table k i f) ≡ k
unfolding table
length-table zero i f = refl
length-table (suc k) i f = ap suc (length-table k (suc i) f)

get_or-table {ℓ} : {A : Type ℓ} (k i : ℕ) (f : ℕ → A) (j : ℕ) (d : A) → j < k → get_or (table k i f) j d ≡ f (i + j)
unfolding table
get_or-table zero i f j d h = absurd (not-suc-le-zero h)
get_or-table (suc k) i f zero d h = ap f (sym (add-zero i))
get_or-table (suc k) i f (suc j) d h = get_or-table k (suc i) f j d (le_of_suc-le-suc h) ∙ ap f (omega arith)

pub get_or_table0 {ℓ} : {A : Type ℓ} (k : ℕ) (f : ℕ → A) (j : ℕ) (d : A) → j < k → get_or (table k 0 f) j d ≡ f j
get_or_table0 k f j d h = get_or-table k 0 f j d h ∙ ap f (zero-add j)

-- a list read by place
pub table_list {ℓ} : {A : Type ℓ} {n : ℕ} (d : A) (l : List A) (f : ℕ → A) → length l ≡ n → ((j : ℕ) → j < n → f j ≡ get_or l j d) → table n 0 f ≡ l
table_list {n = n} d l f e h = ext_get_or d (table n 0 f) l (length-table n 0 f ∙ sym e)
    (λ j s. let t : j < n = rw length-table at s in get_or_table0 n f j d t ∙ h j t)

-- the same at each place, wherever each begins
pub table_same : (n i j : ℕ) (f g : ℕ → ℕ) → ((k : ℕ) → k < n → f (i + k) ≡ g (j + k)) → table n i f ≡ table n j g
table_same n i j f g h = ext_get_or 0 (table n i f) (table n j g) (length-table n i f ∙ sym (length-table n j g))
    (λ k l. let m : k < n = rw length-table at l in get_or-table n i f k 0 m ∙ h k m ∙ sym (get_or-table n j g k 0 m))

-- each element is a byte: what is known of a slice of bytes
abbrev pub Bytes : List ℕ → Type 0
Bytes l = (i : ℕ) → get_or l i 0 < 256

-- sections, one after the other
pub record Section : Type 0 where
  pub size : ℕ
  pub content : ℕ → ℕ

unfoldable pub section : ℕ → (ℕ → ℕ) → Section
section n f = record { size = n; content = f }

unfoldable pub lay_out : List Section → List ℕ
lay_out [] = []
lay_out (s ∷ l) = table s.size 0 s.content ++ lay_out l

-- those of a window, with any figures in the header
unfoldable pub sections : List ℕ → Window → List Section
sections fs W = section head_size (head_byte fs) ∷ section values_size (value_byte W.value) ∷ section changes_size (change_byte W.status W.parent) ∷ section line_size (line_byte W.line)
    ∷ section locks_size (lock_byte W.held) ∷ section permits_size (permit_byte W.permits) ∷ section ties_size (tie_byte W.ties) ∷ section log_size (log_byte W.log) ∷ []

pub lay_sections : (fs : List ℕ) (W : Window) → lay fs W ≡ lay_out (sections fs W)
unfolding lay head_section value_section change_section line_section lock_section permit_section tie_section log_section lay_out sections section
lay_sections fs W = rw append-nil

pub encode_sections : (W : Window) → encode W ≡ lay_out (sections (figures W) W)
unfolding encode
encode_sections W = lay_sections (figures W) W

-- how many bytes, where each begins, and each by its place
abbrev pub total : List Section → ℕ
total [] = 0
total (s ∷ l) = s.size + total l

abbrev pub offset : List Section → ℕ → ℕ
offset [] k = 0
offset (s ∷ l) zero = 0
offset (s ∷ l) (suc k) = s.size + offset l k

abbrev pub nothing : Section
nothing = section 0 (λ i. 0)

abbrev pub nth : List Section → ℕ → Section
nth l k = get_or l k nothing

-- a section with other contents
abbrev pub replaced : List Section → ℕ → (ℕ → ℕ) → List Section
replaced [] k g = []
replaced (s ∷ l) zero g = section s.size g ∷ l
replaced (s ∷ l) (suc k) g = s ∷ replaced l k g

pub length_lay_out : (l : List Section) → length (lay_out l) ≡ total l
unfolding lay_out
length_lay_out [] = refl
length_lay_out (s ∷ l) = length-append (table s.size 0 s.content) (lay_out l) ∙ rw (length-table s.size 0 s.content, length_lay_out l)

-- a section cut out
drop_skip : (k : ℕ) (f : ℕ → ℕ) (ys : List ℕ) (n : ℕ) → drop (k + n) (table k 0 f ++ ys) ≡ drop n ys
drop_skip k f ys n = ap (λ x. drop (x + n) (table k 0 f ++ ys)) (sym (length-table k 0 f)) ∙ drop-append-add (table k 0 f) ys n

take_skip : (k : ℕ) (f : ℕ → ℕ) (ys : List ℕ) (n : ℕ) → take (k + n) (table k 0 f ++ ys) ≡ table k 0 f ++ take n ys
take_skip k f ys n = ap (λ x. take (x + n) (table k 0 f ++ ys)) (sym (length-table k 0 f)) ∙ take-append-add (table k 0 f) ys n

pub lay_out_part : (l : List Section) (k : ℕ) → take (nth l k).size (drop (offset l k) (lay_out l)) ≡ table (nth l k).size 0 (nth l k).content
unfolding lay_out section table
lay_out_part [] k = refl
lay_out_part (s ∷ l) zero = take_at (table s.size 0 s.content) (lay_out l) s.size (length-table s.size 0 s.content)
lay_out_part (s ∷ l) (suc k) = ap (take (nth l k).size) (drop_skip s.size s.content (lay_out l) (offset l k)) ∙ lay_out_part l k

-- a byte read
pub lay_out_at : (l : List Section) (k i : ℕ) → i < (nth l k).size → get_or (lay_out l) (offset l k + i) 0 ≡ (nth l k).content i
lay_out_at l k i h = sym (get_or-drop (offset l k) (lay_out l) i 0) ∙ sym (get_or-take (nth l k).size (drop (offset l k) (lay_out l)) i 0 h)
    ∙ ap (λ r. get_or r i 0) (lay_out_part l k) ∙ get_or_table0 (nth l k).size (nth l k).content i 0 h

-- a section put in another's place: the frame law of all sections at once
pub lay_out_put : (l : List Section) (k : ℕ) (g : ℕ → ℕ) → k < length l
    → take (offset l k) (lay_out l) ++ (table (nth l k).size 0 g ++ drop (offset l k + (nth l k).size) (lay_out l)) ≡ lay_out (replaced l k g)
unfolding lay_out section
lay_out_put [] k g h = absurd (not-suc-le-zero h)
lay_out_put (s ∷ l) zero g h = ap (λ x. table s.size 0 g ++ drop x (table s.size 0 s.content ++ lay_out l)) (zero-add s.size)
    ∙ ap (λ r. table s.size 0 g ++ r) (drop_at (table s.size 0 s.content) (lay_out l) s.size (length-table s.size 0 s.content))
lay_out_put (s ∷ l) (suc k) g h =
    ap (λ r. r ++ (table (nth l k).size 0 g ++ drop (s.size + offset l k + (nth l k).size) (table s.size 0 s.content ++ lay_out l))) (take_skip s.size s.content (lay_out l) (offset l k))
    ∙ ap (λ x. (table s.size 0 s.content ++ take (offset l k) (lay_out l)) ++ (table (nth l k).size 0 g ++ drop x (table s.size 0 s.content ++ lay_out l))) (add_assoc s.size (offset l k) (nth l k).size)
    ∙ ap (λ r. (table s.size 0 s.content ++ take (offset l k) (lay_out l)) ++ (table (nth l k).size 0 g ++ r)) (drop_skip s.size s.content (lay_out l) (offset l k + (nth l k).size))
    ∙ append_assoc (table s.size 0 s.content) (take (offset l k) (lay_out l)) _
    ∙ ap (λ r. table s.size 0 s.content ++ r) (lay_out_put l k g (le_of_suc-le-suc h))
