-- What a section of a sound window is: the bytes of a part that soundness allows. Each record gives the part. Assumes nothing.
use Rattle.std.specs.Prelude.{◌≡◌, true, List, [], ◌∷◌, ℕ, ◌≤◌, length}
use Rattle.rules.specs.Base.{all}
use Rattle.rules.specs.Sets.{Set}
use Rattle.rules.specs.Window.{LogRecord}
use Rattle.rules.specs.Sound.{value_sound, status_sound, parent_sound, held_sound, record_sound}
use Rattle.layout.specs.Codec.{head_section, value_section, change_section, lock_section, log_section}

-- header: "every figure is in its range", and the rest is 0
pub record HeadSound (bs : List ℕ) : Type 0 where
  pub entries : ℕ
  pub given : ℕ
  pub records : ℕ
  pub permits : ℕ
  pub ties : ℕ
  pub waiters : ℕ
  pub bytes : bs ≡ head_section (entries ∷ given ∷ records ∷ permits ∷ ties ∷ waiters ∷ [])
  pub some : 1 ≤ entries
  pub entries_most : entries ≤ 256
  pub given_most : given ≤ 255
  pub records_most : records ≤ 2048
  pub permits_most : permits ≤ 1024
  pub ties_most : ties ≤ 512
  pub waiters_most : waiters ≤ 255

-- values: the places of no entry are 0
pub record ValuesSound (bs : List ℕ) (entries : ℕ) : Type 0 where
  pub value : ℕ → ℕ
  pub bytes : bs ≡ value_section value
  pub fine : (e : ℕ) → value_sound entries value e ≡ true

-- changes: statuses in their range, "parents are lower than their children", the places of no change 0
pub record ChangesSound (bs : List ℕ) (given : ℕ) : Type 0 where
  pub status : ℕ → ℕ
  pub parent : ℕ → ℕ
  pub bytes : bs ≡ change_section status parent
  pub statuses : (c : ℕ) → status_sound given status c ≡ true
  pub parents : (c : ℕ) → parent_sound given parent c ≡ true

-- locks: none, read or write, of live changes on entries that there are
pub record LocksSound (bs : List ℕ) (entries : ℕ) (lives : Set) : Type 0 where
  pub held : ℕ → ℕ → ℕ
  pub bytes : bs ≡ lock_section held
  pub fine : (e c : ℕ) → held_sound entries lives held e c ≡ true

-- log: owners live, and each "holds the write lock on that entry"
pub record LogSound (bs : List ℕ) (count entries : ℕ) (lives : Set) (held : ℕ → ℕ → ℕ) : Type 0 where
  pub log : List LogRecord
  pub size : length log ≡ count
  pub bytes : bs ≡ log_section log
  pub fine : all (record_sound entries lives held) log ≡ true
